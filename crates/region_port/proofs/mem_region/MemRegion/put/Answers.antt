use Rattle.std.proofs.Common.{ap, ◌∙◌, arith, length}
use Rattle.std.specs.Prelude.{Some}
use Rattle.mat_tree.specs.Parts.{below}
use Rattle.region_port.specs.Entries.{content_of}
use Rattle.region_port.proofs.Content.{with_node_put}
use Rattle.region_port.proofs.Sizes.{size_put}
use Rattle.region_port.proofs.mem_region.MemRegion.put.Goals as goal

pub invariant_of-self : goal.invariant_of-self
invariant_of-self c = record {
  few = omega (arith, size_put c.in-Ok.path (Some c.args.node) c.args.self.now.nodes, ap length c.in-Ok-put_node.ensures.nodes, c.len.ensures, c.if-len-ge-MOST_LENT.false);
  rough_within = c.args.self.now.rough_within;
  room = c.args.self.now.room;
}

pub returns-in-Ok-put_node-clause-part : goal.returns-in-Ok-put_node-clause-part
returns-in-Ok-put_node-clause-part c =
    let place = c.args.self.now.place in
    ap Some (ap (λ l. below place (content_of l)) c.in-Ok-put_node.ensures.nodes ∙ with_node_put place c.args.rel.now c.in-Ok.path c.args.node c.args.self.now.nodes c.in-Ok.ensures.ok)
