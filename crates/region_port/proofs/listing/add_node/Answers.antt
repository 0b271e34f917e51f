use Rattle.std.proofs.Common.{ap, sym, ◌∙◌, cond}
use Rattle.std.specs.Prelude.{Some}
use Rattle.std.specs.BTreeMap.{get}
use Rattle.mat_path.specs.Names.{path_cmp, same_names}
use Rattle.mat_path.specs.Order.{same_names_ties}
use Rattle.region_port.proofs.listing.add_node.Goals as goal

pub returns : goal.returns
returns g c = record {
  ok = λ rel. c.in_ok-insert.ensures.updates.0 rel
      ∙ ap (λ b. cond b (Some c.in_ok-view.view) (get path_cmp c.args.nodes.now rel)) (sym (same_names_ties c.in_ok-rel.rel rel))
      ∙ ap (λ k. cond (same_names k rel) (Some c.in_ok-view.view) (get path_cmp c.args.nodes.now rel)) c.in_ok-rel.ensures.ok
      ∙ ap (λ w. cond (same_names c.args.names.now rel) (Some w) (get path_cmp c.args.nodes.now rel)) c.in_ok-view.ensures;
}
