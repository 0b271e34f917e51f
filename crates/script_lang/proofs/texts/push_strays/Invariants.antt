use Rattle.std.proofs.Common.{◌≡◌, ◌++◌, take}
use Rattle.std.specs.List.{flat_map}
use Rattle.script_lang.specs.Texts.{stray_text}
use Rattle.script_lang.proofs.texts.push_strays.Given as goal

abbrev pub invariant-loop-path : goal.invariant-loop-path
invariant-loop-path l = l.out.items ≡ l.initial.out.items ++ flat_map stray_text (take l.path-index l.paths)
