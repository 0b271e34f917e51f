use Rattle.std.proofs.Common.{◌≡◌, take}
use Rattle.mat_core.specs.Flushing.{places_with}
use Rattle.mat_core.proofs.flushing.reserve_all.Given as goal

-- a place is reserved for each of the first ones
abbrev pub invariant-loop-one : goal.invariant-loop-one
invariant-loop-one l = (l.kept.marks ≡ l.fn.kept.marks) × (l.kept.reserved ≡ places_with (take l.one-index l.uses) l.fn.kept.reserved)
