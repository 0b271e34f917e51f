use Rattle.script_lang.proofs.Starts.{front_is_left}
use Rattle.script_lang.proofs.texts.push_all_gone.Goals as goal

pub returns-in_err-push_gone-clause-err : goal.returns-in_err-push_gone-clause-err
returns-in_err-push_gone-clause-err c =
    front_is_left c.from_residual.result c.args.out.now.items _ c.loop-row.out.items c.push_gone.new.out.items c.loop-row.invariant c.in_err-push_gone.ensures.err
