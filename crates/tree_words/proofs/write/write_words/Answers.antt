use Rattle.tree_words.proofs.Laws.{read_tree-written}
use Rattle.tree_words.proofs.write.write_words.Goals as goal

pub returns-clause-back : goal.returns-clause-back
returns-clause-back c =
    read_tree-written c.args.tree.now c.in_ok-nodes.nodes.items c.as_slice.result.now c.new-out.result.items c.push_nodes.new.out.items
    c.in_ok-nodes.ensures.tree c.in_ok-nodes.ensures.ok c.as_slice.ensures.value c.new-out.ensures.items c.in_ok-push_nodes.ensures.nodes
    c.in_ok-push_nodes.ensures.ok
