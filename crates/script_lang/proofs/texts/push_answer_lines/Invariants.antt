use Rattle.std.proofs.Common.{◌≡◌, ◌++◌, take}
use Rattle.std.specs.List.{flat_map}
use Rattle.script_lang.specs.Texts.{answer_line}
use Rattle.script_lang.proofs.texts.push_answer_lines.Given as goal

abbrev pub invariant-loop-answered : goal.invariant-loop-answered
invariant-loop-answered l = l.out.items ≡ l.initial.out.items ++ flat_map answer_line (take l.answered-index l.answers)
