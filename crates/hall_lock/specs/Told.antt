-- What each step on the table tells, of the seat before and afterwards.
use Rattle.std.specs.Prelude.{◌≡◌, ◌≢◌, ℕ, ◌%◌, ◌^◌, ◌<◌, ◌≤◌, List, [], ◌∷◌, ◌++◌, length, Option, Some}
use Rattle.atomic_table.specs.Table.{Me}
use Rattle.atomic_table.specs.Seated.{TableId}
use Rattle.atomic_table.specs.declared.shared.Seat.{Seat}
use Rattle.hall_lock.specs.declared.By.{By}
use Rattle.hall_lock.specs.declared.seat.Stage.TheVariants.{Resting, Waiting, Serving}
use Rattle.hall_lock.specs.declared.seat.View.{View}
use Rattle.hall_lock.specs.declared.seat.Joined.{Joined}
use Rattle.hall_lock.specs.Passes.{PassFacts}
use Rattle.hall_lock.specs.declared.seat.Terms.{Terms}
use Rattle.hall_lock.specs.Histories.{of, Fits, Adds, NumberedFrom}
use Rattle.hall_lock.specs.Order.{Each, as_joined}

-- what a seat knows, and the slots that it has
abbrev Sitting : Type 0 → Type 0 → Type 0 → Type 0
Sitting T E B = Me (Option T) (View E B)

module _ {T E B : Type 0} where
  -- the seat has drawn the number that was found
  abbrev pub drew : Sitting T E B → ℕ → Sitting T E B → Type 0
  drew me found me' = (me'.1 ≡ me.1) × ((n : ℕ) × (me'.0 ≡ record me.0 { stage = Waiting n }) × (n % 2 ^ 64 ≡ found))

  -- where its number is served, the seat has the slot with the value, whose history begins with its front and has no more entries of the caller
  abbrev pub looked : (E → By) → (T → List E) → (T → B) → Sitting T E B → ℕ → Sitting T E B → Type 0
  looked by history base me found me' = (n : ℕ) → me.0.stage ≡ Waiting n
      → (found ≢ n % 2 ^ 64 → me' ≡ me)
      × (found ≡ n % 2 ^ 64 → (value : T) × (me'.1 ≡ (0, Some value) ∷ []) × (me'.0 ≡ record me.0 { stage = Serving n; front = history value })
      × Fits by (history value) me.0.caller me.0.front × (me.0.base ≡ Some (base value)) × (me.0.reached ≤ length (history value)))

  -- the seat has seen the history of the value in its slot
  abbrev pub published : (T → List E) → Sitting T E B → ℕ → Sitting T E B → Type 0
  published history me found me' = (me'.1 ≡ me.1) × ((value : T) → me.1 ≡ (0, Some value) ∷ [] → me'.0 ≡ record me.0 { front = history value })

  -- the seat has no slot, and rests
  abbrev pub handed_on : Sitting T E B → ℕ → Sitting T E B → Type 0
  handed_on me found me' = (me'.1 ≡ []) × (me'.0 ≡ record me.0 { stage = Resting })

  -- the seat knows that the history has reached the number found, which is no less than what it knew
  abbrev pub reached : Sitting T E B → ℕ → Sitting T E B → Type 0
  reached me found me' = (me'.1 ≡ me.1) × (me'.0 ≡ record me.0 { reached = found }) × (length me.0.front ≤ found) × (me.0.reached ≤ found)

-- the table's words and its slot
abbrev pub IsBoard : TableId → Type 0
IsBoard table = (table.words ≡ 3) × (table.slots ≡ 1)

-- one seat, before and afterwards
abbrev pub IsSameSeat : {S V : Type 0} → Seat S V → Seat S V → Type 0
IsSameSeat old new = (new.table_id ≡ old.table_id) × (new.id ≡ old.id)

module _ {T E B : Type 0} (by : E → By) (history : T → List E) (base : T → B) where
  -- the seat has the slot with the value
  pub record Took (me me' : Sitting T E B) : Type 0 where
    pub value : T
    pub number : ℕ
    pub slot : me'.1 ≡ (0, Some value) ∷ []
    pub view : me'.0 ≡ record me.0 { stage = Serving number; front = history value }
    pub front : Fits by (history value) me.0.caller me.0.front
    pub about : me.0.base ≡ Some (base value)
    pub reached : me.0.reached ≤ length (history value)

  -- the act ran on the value in the slot, which has so many entries more
  pub record Acted (does : T → By → T → Type 0) (made : By) (me me' : Sitting T E B) (added long : ℕ) : Type 0 where
    pub before : T
    pub after : T
    pub slot : me.1 ≡ (0, Some before) ∷ []
    pub slot_after : me'.1 ≡ (0, Some after) ∷ []
    pub view : me'.0 ≡ me.0
    pub about : base after ≡ base before
    pub adds : Adds by made.caller (history before) (history after) added
    pub long_is : long ≡ length (history after)
    pub small : long < 2 ^ 64
    pub acts : does before made after

  -- the act ran once, and the seat rests again
  pub record Served (does : T → By → T → Type 0) (made : By) (me me' : Sitting T E B) (added long : ℕ) : Type 0 where
    pub before : T
    pub after : T
    pub front : Fits by (history before) me.0.caller me.0.front
    pub about : me.0.base ≡ Some (base before)
    pub reached : me.0.reached ≤ length (history before)
    pub view : me'.0 ≡ record me.0 { front = history after }
    pub slot : me'.1 ≡ []
    pub about_after : base after ≡ base before
    pub adds : Adds by made.caller (history before) (history after) added
    pub long_is : long ≡ length (history after)
    pub small : long < 2 ^ 64
    pub acts : does before made after

  -- a pass between turns
  pub record IsPass (caller number long : ℕ) (seat : Seat (Option T) (View E B)) : Type 0 where
    pub rests : seat.me.0.stage ≡ Resting
    pub slot : seat.me.1 ≡ []
    pub caller_is : seat.me.0.caller ≡ caller
    pub number_is : number ≡ length (of by caller seat.me.0.front)
    pub long_is : long ≡ length seat.me.0.front
    pub part : seat.me.0.parts ≡ 1
    pub nothing_joined : seat.me.0.joined ≡ []

-- what a pass knows, as a seat that was taken in
abbrev pub ended : {E B : Type 0} → PassFacts E B → Joined E
ended pass = record { caller = pass.caller; reached = pass.reached; front = pass.front }

-- what the history at the end owes to a seat
abbrev pub Ends : {E : Type 0} → (E → By) → List E → Joined E → Type 0
Ends by log old = Fits by log old.caller old.front × (old.reached ≤ length log)

-- what is known of the value once one seat has taken in all others
pub record IsClosed {T E B : Type 0} (by : E → By) (history : T → List E) (base : T → B) (terms : Terms T) (v : View E B) (value : T) : Type 0 where
  pub base_is : base value ≡ base terms.first.value
  pub all : Each (Ends by (history value)) (v.joined ++ as_joined v ∷ [])
  pub numbered : (caller : ℕ) → NumberedFrom by 0 (of by caller (history value))
  pub unused : (caller : ℕ) → terms.callers ≤ caller → of by caller (history value) ≡ []
