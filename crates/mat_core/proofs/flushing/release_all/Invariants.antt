use Rattle.std.proofs.Common.{◌≡◌}
use Rattle.std.specs.VecDeque.{deque_len}
use Rattle.mat_core.specs.Flushing.{places_without}
use Rattle.mat_core.proofs.flushing.release_all.Given as goal

-- what was given up and what is left to be is all
abbrev pub invariant-uses : goal.invariant-uses
invariant-uses l =
    (l.kept.marks ≡ l.fn.kept.marks) × (places_without l.rest.items l.kept.reserved ≡ places_without l.fn.uses.items l.fn.kept.reserved)

abbrev pub decreases-uses : goal.decreases-uses
decreases-uses l = deque_len l.rest
