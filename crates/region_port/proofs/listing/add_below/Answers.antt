use Rattle.mat_path.proofs.SameNames.{same_names-behind}
use Rattle.std.proofs.Common.{◌++◌, ap, sym, ◌∙◌, cond}
use Rattle.std.specs.Prelude.{Some, nat_le, length}
use Rattle.std.specs.Cmp.{second_so}
use Rattle.std.specs.BTreeMap.{get}
use Rattle.mat_path.specs.Names.{is_rel, path_cmp, same_names}
use Rattle.region_port.specs.Entries.{node_kept}
use Rattle.region_port.proofs.Shown.{below-none, below-some, is_rel-behind, IfOk-then}
use Rattle.region_port.proofs.listing.add_below.Goals as goal

pub add_node-requires : goal.add_node-requires
add_node-requires g c =
    let at = c.args.at.now in
    is_rel-behind c.args.path.now c.in-Some.names.now
    (ap is_rel (sym (below-some c.args.path.now at c.in-Some.names.now c.in-Some.ensures)) ∙ second_so (nat_le 1 (length at)) (is_rel at) c.names-whole.ensures.path)

pub returns-in-Some : goal.returns-in-Some
returns-in-Some g c =
    let path = c.args.path.now in
    let at = c.args.at.now in
    let names = c.in-Some.names.now in
    record {
      ok = IfOk-then c.add_node.result _ _ c.add_node.ensures.ok (λ u p. λ rel.
          p rel ∙ ap (λ b. cond b (Some (g.V.View.show (node_kept c.args.node.now))) (get path_cmp c.args.nodes.now rel))
          (sym (ap (λ q. same_names q (path ++ rel)) (below-some path at names c.in-Some.ensures) ∙ same_names-behind path names rel)));
    }

pub returns-in-None : goal.returns-in-None
returns-in-None g c = record {
  ok = λ rel. sym (ap (λ b. cond b (Some (g.V.View.show (node_kept c.args.node.now))) (get path_cmp c.args.nodes.now rel)) (below-none c.args.path.now c.args.at.now rel c.in-None.ensures));
}
