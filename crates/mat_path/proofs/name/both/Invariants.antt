use Rattle.std.proofs.Common.{◌≡◌, ◌++◌, take}
use Rattle.mat_path.proofs.name.both.Given as goal

abbrev pub invariant-loop-name : goal.invariant-loop-name
invariant-loop-name l = l.copies.items ≡ l.front ++ take l.name-index l.back
