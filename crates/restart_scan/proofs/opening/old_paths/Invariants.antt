use Rattle.std.proofs.Common.{◌≡◌, map, take}
use Rattle.restart_scan.specs.Opened.{old_paths}
use Rattle.restart_scan.specs.Rows.{kept_view}
use Rattle.restart_scan.proofs.opening.old_paths.Given as goal

-- the paths so far
abbrev pub invariant-loop-one : goal.invariant-loop-one
invariant-loop-one l = l.paths.items ≡ old_paths (map kept_view (take l.one-index l.kept))
