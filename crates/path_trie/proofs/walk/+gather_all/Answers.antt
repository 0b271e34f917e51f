use Rattle.path_trie.proofs.WalkLemmas.{gathered_more, gathered_whole}
use Rattle.path_trie.proofs.walk.+gather_all.Goals as goal

pub loop-edge-preserved : goal.loop-edge-preserved
loop-edge-preserved g t c =
    gathered_more c.deref-edge-items.result.now c.loop-edge.edge-index c.edge-item.result c.gather_own.new.found.items c.loop-edge.found.items c.gather_all.new.found.items
    c.loop-edge-test.true c.edge-item.is c.loop-edge.invariant c.in_ok-gather_all.ensures

pub returns : goal.returns
returns g t c =
    gathered_whole c.args.node.now c.deref-edge-items.result.now c.loop-edge.edge-index c.args.found.now.items c.gather_own.new.found.items c.loop-edge.found.items
    c.deref-edge-items.ensures.value c.loop-edge-test.false c.in_ok-gather_own.ensures c.loop-edge.invariant
