use Rattle.std.proofs.Common.{◌≡◌, map}
use Rattle.mat_core.specs.Opened.{fetched}
use Rattle.mat_core.proofs.opening.rows_in.Given as goal

-- the rows so far
abbrev pub invariant-loop-row : goal.invariant-loop-row
invariant-loop-row l = l.book ≡ map fetched l.yielded
