use Rattle.std.proofs.Common.{◌≡◌, ◌≤◌, ℕ, List, length, cond, map}
use Rattle.std.specs.List.{list_any}
use Rattle.std.specs.Prelude.{None}
use Rattle.region_port.specs.Crashes.{is_above}
use Rattle.region_port.specs.Entries.{content_of}
use Rattle.region_port.specs.Lists.{all_of}
use Rattle.region_port.proofs.crash.clear_rough.Given as goal

-- nothing is left at and below the paths of the segments so far
abbrev pub invariant-loop-segment : goal.invariant-loop-segment
invariant-loop-segment l =
    ((path : List (List ℕ)) → content_of l.nodes path ≡ cond (list_any (is_above path) (all_of (map (λ s. s.now) l.yielded))) None (content_of l.initial.nodes path))
    × (length l.nodes ≤ length l.initial.nodes)
