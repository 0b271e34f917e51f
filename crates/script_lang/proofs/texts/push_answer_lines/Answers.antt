use Rattle.script_lang.proofs.Starts.{front_is_left}
use Rattle.script_lang.proofs.texts.push_answer_lines.Goals as goal

pub returns-in_err-push_answer_line-clause-err : goal.returns-in_err-push_answer_line-clause-err
returns-in_err-push_answer_line-clause-err c =
    front_is_left c.from_residual.result c.args.out.now.items _ c.loop-answered.out.items c.push_answer_line.new.out.items c.loop-answered.invariant c.in_err-push_answer_line.ensures.err
