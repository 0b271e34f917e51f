use Rattle.std.proofs.Common.{subst}
use Rattle.std.proofs.lemmas.List.Elements.{All-more}
use Rattle.mat_tree.specs.Trees.{IsNode}
use Rattle.tree_words.proofs.Texts.{tree_text_grows}
use Rattle.tree_words.proofs.write.push_more.Goals as goal

pub loop-node-preserved : goal.loop-node-preserved
loop-node-preserved c = record {
  text = λ before h.
      tree_text_grows before c.loop-node.out.items c.push_text.new.out.items c.push_node.new.out.items c.args.first.now c.node-item.result c.args.rest.now
      c.loop-node.node-index c.loop-node-test.true c.node-item.is (c.loop-node.invariant.text before h) c.in_ok-push_text.ensures.ok c.in_ok-push_node.ensures.ok;
  nodes =
      All-more IsNode c.args.rest.now c.loop-node.node-index c.node-item.result c.loop-node-test.true c.loop-node.invariant.nodes
      (subst IsNode c.node-item.is c.in_ok-push_node.ensures.node);
}
