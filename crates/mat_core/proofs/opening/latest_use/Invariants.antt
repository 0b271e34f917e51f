use Rattle.std.proofs.Common.{◌≡◌, take}
use Rattle.mat_model.specs.Openings.{latest_use}
use Rattle.mat_core.proofs.opening.latest_use.Given as goal

-- the latest use so far
abbrev pub invariant-loop-row : goal.invariant-loop-row
invariant-loop-row l = l.latest ≡ latest_use (take l.row-index l.rows)
