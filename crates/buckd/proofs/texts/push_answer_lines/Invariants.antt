use Rattle.std.proofs.Common.{◌≡◌, ◌++◌}
use Rattle.buckd.specs.Texts.{answer_lines}
use Rattle.buckd.proofs.texts.push_answer_lines.Given as goal

abbrev pub invariant-loop-step : goal.invariant-loop-step
invariant-loop-step l = l.out.items ≡ l.initial.out.items ++ answer_lines l.number l.step l.tickets
