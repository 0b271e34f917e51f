use Rattle.std.proofs.Common.{◌≡◌}
use Rattle.std.specs.VecDeque.{deque_len}
use Rattle.mat_core.specs.Flushing.{HaveAllPlaces, marks_with, places_without}
use Rattle.mat_core.proofs.flushing.settle_all.Given as goal

-- what came into its place and what is left to come is all
abbrev pub invariant-uses : goal.invariant-uses
invariant-uses l = record {
  have : HaveAllPlaces l.rest.items l.kept.reserved;
  marks : marks_with l.rest.items l.kept.marks ≡ marks_with l.fn.uses.items l.fn.kept.marks;
  places : places_without l.rest.items l.kept.reserved ≡ places_without l.fn.uses.items l.fn.kept.reserved;
}

abbrev pub decreases-uses : goal.decreases-uses
decreases-uses l = deque_len l.rest
