use Rattle.std.proofs.Common.{◌++◌, ◌∙◌, ap, sym, cond}
use Rattle.std.specs.BTreeMap.{get}
use Rattle.std.specs.Option.{option_map, option_or}
use Rattle.std.specs.Prelude.{Some}
use Rattle.mat_path.specs.Names.{path_cmp, same_names}
use Rattle.region_port.specs.Entries.{node_at}
use Rattle.region_port.proofs.Shown.{cond_same}
use Rattle.region_port.proofs.listing.add_kept.Goals as goal

pub returns-in-None : goal.returns-in-None
returns-in-None g c = record {
  ok = λ rel.
      let here = same_names c.args.at.now (c.args.path.now ++ rel) in
      let old = get path_cmp c.args.nodes.now rel in
      cond_same here old ∙ ap (λ kept. cond here (option_or (option_map g.V.View.show (node_at (Some kept))) old) old) (sym c.in-None.is);
}
