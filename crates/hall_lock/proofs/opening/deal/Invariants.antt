use Rattle.std.proofs.Common.{◌≡◌, ◌+◌, ◌<◌, ◌≤◌, ℕ, length, slice_get, vec_capacity, Some}
use Rattle.hall_lock.specs.Passes.{fresh}
use Rattle.hall_lock.specs.declared.seat.Stage.TheVariants.{Dealing}
use Rattle.hall_lock.proofs.opening.deal.Given as goal

abbrev pub invariant-loop-caller : goal.invariant-loop-caller
invariant-loop-caller g l = record {
  same : l.dealer.table_id ≡ l.board.table_id;
  stage : l.dealer.me.0.stage ≡ Dealing l.caller;
  parts : l.dealer.me.0.parts + l.caller ≡ l.callers;
  base : l.dealer.me.0.base ≡ l.initial.dealer.me.0.base;
  room : l.callers ≤ vec_capacity l.passes;
  count : length l.passes.items ≡ l.caller;
  passes : (k : ℕ) → k < l.caller → slice_get l.passes.items k ≡ Some (fresh l.board.table_id l.initial.dealer.me.0.base k);
}
