use Rattle.script_lang.proofs.Starts.{front_is_left}
use Rattle.script_lang.proofs.texts.push_strays.Goals as goal

pub returns-in_err-push_stray-clause-err : goal.returns-in_err-push_stray-clause-err
returns-in_err-push_stray-clause-err c =
    front_is_left c.from_residual.result c.args.out.now.items _ c.loop-path.out.items c.push_stray.new.out.items c.loop-path.invariant c.in_err-push_stray.ensures.err
