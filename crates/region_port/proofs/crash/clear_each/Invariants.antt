use Rattle.std.proofs.Common.{◌≡◌, ◌≤◌, ℕ, List, take, length, cond}
use Rattle.std.specs.List.{list_any}
use Rattle.std.specs.Prelude.{None}
use Rattle.region_port.specs.Crashes.{is_above}
use Rattle.region_port.specs.Entries.{content_of}
use Rattle.region_port.proofs.crash.clear_each.Given as goal

-- nothing is left at and below the paths so far
abbrev pub invariant-loop-path : goal.invariant-loop-path
invariant-loop-path l =
    ((path : List (List ℕ)) → content_of l.nodes path ≡ cond (list_any (is_above path) (take l.path-index l.paths)) None (content_of l.initial.nodes path))
    × (length l.nodes ≤ length l.initial.nodes)
