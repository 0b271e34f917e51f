use Rattle.script_lang.proofs.Starts.{front_is_left}
use Rattle.script_lang.proofs.texts.push_nodes.Goals as goal

pub returns-in_err-push_node_line-clause-err : goal.returns-in_err-push_node_line-clause-err
returns-in_err-push_node_line-clause-err c =
    front_is_left c.from_residual.result c.args.out.now.items _ c.loop-node.out.items c.push_node_line.new.out.items c.loop-node.invariant c.in_err-push_node_line.ensures.err
