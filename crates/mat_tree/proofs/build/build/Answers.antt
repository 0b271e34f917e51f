use Rattle.std.proofs.Common.{length, ap, ◌∙◌, arith}
use Rattle.mat_tree.specs.Nodes.{below_node}
use Rattle.mat_tree.specs.Trees.{follows_all}
use Rattle.mat_tree.proofs.Last.{linked_at, linked_below}
use Rattle.mat_tree.proofs.build.build.Goals as goal

pub with_last-requires-clause-below : goal.with_last-requires-clause-below
with_last-requires-clause-below c =
    let below = linked_below c.args.root.now c.args.rest.now c.loop-next.next-index c.next-item.result c.requires.linked c.loop-next-test.true c.next-item.is in
    omega (arith, ap length c.names.ensures.value)

pub with_last-requires-clause-follows : goal.with_last-requires-clause-follows
with_last-requires-clause-follows c =
    let told = linked_at c.args.root.now c.args.rest.now c.loop-next.next-index c.next-item.result c.requires.linked c.loop-next-test.true c.next-item.is in
    ap (λ n. follows_all n (below_node c.loop-next.node)) c.names.ensures.value ∙ ap (follows_all c.next-item.result.rel) c.loop-next.invariant ∙ told
