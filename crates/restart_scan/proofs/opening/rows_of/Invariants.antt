use Rattle.std.proofs.Common.{◌≡◌, map}
use Rattle.mat_model.specs.Openings.{found_rows}
use Rattle.restart_scan.specs.Rows.{kept_view}
use Rattle.restart_scan.proofs.opening.rows_of.Given as goal

-- the rows so far
abbrev pub invariant-loop-kept : goal.invariant-loop-kept
invariant-loop-kept l = l.rows.items ≡ found_rows 0 (map kept_view l.yielded)
