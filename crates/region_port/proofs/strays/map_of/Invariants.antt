use Rattle.std.proofs.Common.{◌≡◌, ℕ, List, take}
use Rattle.region_port.specs.Strays.{is_apart, is_clear}
use Rattle.region_port.proofs.strays.map_of.Given as goal

-- the paths so far
abbrev pub invariant-loop-path : goal.invariant-loop-path
invariant-loop-path l = (path : List (List ℕ)) → is_clear l.map path ≡ is_apart (take l.path-index l.paths) path
