use Rattle.std.proofs.Common.{◌≡◌, map, take}
use Rattle.kept_book.specs.Marks.{gone_path}
use Rattle.mat_core.proofs.sweeping.paths_of.Given as goal

abbrev pub invariant-loop-one : goal.invariant-loop-one
invariant-loop-one l = l.paths.items ≡ map gone_path (take l.one-index l.gone)
