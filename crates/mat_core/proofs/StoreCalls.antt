-- A step calls its state store once at most.
use Rattle.std.proofs.Common.{◌≡◌, ℕ, Bool, true, false, List, Option, Some, None, refl, sym, ap, subst}
use Rattle.std.specs.Option.{is_some}
use Rattle.std.proofs.lemmas.Bool.{both_ways}
use Rattle.mat_io.specs.Watches.{CountsSo}
use Rattle.keep_port.specs.Rows.{Watch}
use Rattle.mat_model.specs.declared.answers.Reply.{Reply}
use Rattle.mat_model.specs.declared.requests.Asked.{Asked}
use Rattle.mat_model.specs.declared.requests.Request.{Request}
use Rattle.mat_model.specs.declared.requests.Request.TheVariants as request
use Rattle.mat_model.specs.History.{Point}
use Rattle.mat_model.specs.Kept.{may_fail}
use Rattle.mat_model.specs.Legal.{note_of}
use Rattle.core_devices.specs.Removals.{IsStoreCall}
use Rattle.core_devices.specs.Told.{ToldStore}
use Rattle.mat_core.specs.Asks.{request_asks}
use Rattle.mat_core.specs.Calls.{CallsAsDue, MayWant}
use Rattle.mat_core.specs.Keeping.{asks_store}

-- a count that stays is that of no call
stays_counted : (watch : Option Watch) (faults : ℕ) → CountsSo watch faults faults false
stays_counted None faults = tt
stays_counted (Some watch) faults = refl

-- a state store that is what it was wasn't called
pub never_called : (store now_store : ToldStore) → now_store ≡ store → IsStoreCall false false false store now_store
never_called store now_store same =
    subst (IsStoreCall false false false store) (sym same) (record { calls = (refl, refl, refl); counted = stays_counted store.watch store.faults })

-- nor was it by a request that had nothing to remove or to store, and whose reply has no note
pub never_asked : (point : Point) (request : Asked) (said : Reply) (store now_store : ToldStore) → may_fail request point.book point.kept ≡ false →
    note_of said ≡ None → now_store ≡ store → CallsAsDue point request said store now_store
never_asked point request said store now_store none quiet same =
    subst (λ noted. IsStoreCall (may_fail request point.book point.kept) (is_some noted) false store now_store) (sym quiet)
    (subst (λ b. IsStoreCall b false false store now_store) (sym none) (never_called store now_store same))

-- a request that can't call it has nothing for it
pub nothing_due : (one : Request) (point : Point) → asks_store (request_asks one) ≡ false → may_fail (request_asks one) point.book point.kept ≡ false
nothing_due (request.Enter command state soft refuse) point is = refl
nothing_due (request.Leave command) point is = refl
nothing_due (request.Write command path bytes) point is = refl
nothing_due (request.Declare command path tree) point is = refl
nothing_due (request.Copy command path source) point is = refl
nothing_due (request.Matches command path sum) point is = refl
nothing_due (request.Has command path) point is = refl
nothing_due (request.Ensure command path) point is = refl
nothing_due (request.Invalidate command path) point is = absurd (both_ways true is refl)
nothing_due (request.Clean cutoff mode) point is = absurd (both_ways true is refl)
nothing_due request.Flush point is = absurd (both_ways true is refl)

pub never_wanted : (store now_store : ToldStore) → now_store ≡ store → MayWant store now_store
never_wanted store now_store same = record { made = false; called = never_called store now_store same }

-- memory was wanting in a call, so there was one
pub wanted_call : (made : Bool) (store now_store : ToldStore) → IsStoreCall made false true store now_store → MayWant store now_store
wanted_call true store now_store called = record { made = true; called = called }
wanted_call false store now_store called = absurd (both_ways true called.calls.2 refl)
