use Rattle.std.proofs.Common.{◌≡◌, take}
use Rattle.script_lang.specs.Texts.{all_bytes}
use Rattle.script_lang.proofs.texts.all_bytes.Given as goal

abbrev pub invariant-loop-row : goal.invariant-loop-row
invariant-loop-row l = l.sum ≡ all_bytes (take l.row-index l.rows)
