use Rattle.std.proofs.Common.{◌≡◌, map, take}
use Rattle.model_laws.specs.KeptRules.{path_of_kept}
use Rattle.restart_scan.specs.Rows.{kept_view}
use Rattle.restart_scan.proofs.opening.paths_of.Given as goal

-- the paths so far
abbrev pub invariant-loop-one : goal.invariant-loop-one
invariant-loop-one l = l.paths.items ≡ map path_of_kept (map kept_view (take l.one-index l.kept))
