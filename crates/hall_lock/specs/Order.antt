-- The rule of the lock's table: turns are taken one by one, and there is one history.
-- Word 0 is the next number to draw, word 1 the number served, word 2 the length of the history. The one slot has the value.
-- Seat 0 makes the others: seat k + 1 is that of the caller k.
use Rattle.std.specs.Prelude.{◌≡◌, ℕ, ◌+◌, ◌-◌, ◌%◌, ◌^◌, ◌<◌, ◌≤◌, List, [], ◌∷◌, length, slice_index, Option, Some, None}
use mathlib.Core.Option.{some, none}
use mathlib.Core.Option as maybe
use lib.ListN.{get_elem?}
use Rattle.atomic_table.specs.Table.{State}
use Rattle.hall_lock.specs.declared.By.{By}
use Rattle.hall_lock.specs.declared.seat.Stage.{Stage}
use Rattle.hall_lock.specs.declared.seat.Stage.TheVariants.{Dealing, Resting, Waiting, Serving, Spent}
use Rattle.hall_lock.specs.declared.seat.Joined.{Joined}
use Rattle.hall_lock.specs.declared.seat.View.{View}
use Rattle.hall_lock.specs.declared.seat.Terms.{Terms}
use Rattle.hall_lock.specs.Histories.{of, Fits, NumberedFrom}

-- 1 where the seat has a drawn number
abbrev pub waits : Stage → ℕ
waits (Dealing k) = 0
waits Resting = 0
waits (Waiting n) = 1
waits (Serving n) = 1
waits Spent = 0

-- the seat has this number
abbrev pub HasNumber : Stage → ℕ → Type 0
HasNumber (Dealing k) m = ⊥
HasNumber Resting m = ⊥
HasNumber (Waiting n) m = n ≡ m
HasNumber (Serving n) m = n ≡ m
HasNumber Spent m = ⊥

module _ {A : Type 0} where
  -- the fact holds of each
  abbrev pub Each : (A → Type 0) → List A → Type 0
  Each P [] = Unit {0}
  Each P (x ∷ xs) = P x × Each P xs

  -- the numbers of all, added up
  abbrev pub total : (A → ℕ) → List A → ℕ
  total f [] = 0
  total f (x ∷ xs) = f x + total f xs

module _ {E B : Type 0} where
  abbrev pub waits_of : View E B → ℕ
  waits_of v = waits v.stage

  abbrev pub parts_of : View E B → ℕ
  parts_of v = v.parts

  -- how many seats have a drawn number
  abbrev pub waiting : List (View E B) → ℕ
  waiting views = total waits_of views

  -- the seat of the caller was taken in by another
  abbrev pub IsSpent : List (View E B) → ℕ → Type 0
  IsSpent views caller = (v : View E B) × (get_elem? views (caller + 1) ≡ some v) × (v.stage ≡ Spent)

-- a seat that was taken in had a front of the history, which has all its caller's entries
pub record IsJoined {E B : Type 0} (by : E → By) (log : List E) (views : List (View E B)) (old : Joined E) : Type 0 where
  pub spent : IsSpent views old.caller
  pub front : Fits by log old.caller old.front
  pub reached : old.reached ≤ length log

-- a caller's seat has a front of the history, which has all its caller's entries
pub record IsLive {E B : Type 0} (by : E → By) (about : B) (log : List E) (views : List (View E B)) (seat : ℕ) (v : View E B) : Type 0 where
  pub caller : v.caller + 1 ≡ seat
  pub base : v.base ≡ Some about
  pub front : Fits by log v.caller v.front
  pub reached : v.reached ≤ length log
  pub joined : Each (IsJoined by log views) v.joined

module _ {T E B : Type 0} (by : E → By) (history : T → List E) (base : T → B) where
  -- what a seat knows, by its stage
  abbrev pub Knows : B → List E → ℕ → List (maybe.Option (Option T)) → List (View E B) → ℕ → View E B → Stage → Type 0
  Knows about log turn homes views seat v (Dealing given) = (seat ≡ 0) × (given + 1 ≡ length views) × (v.base ≡ Some about)
  Knows about log turn homes views seat v Resting = IsLive by about log views seat v
  Knows about log turn homes views seat v (Waiting n) = IsLive by about log views seat v × (0 < v.parts) × (turn ≤ n) × (n < turn + waiting views)
  Knows about log turn homes views seat v (Serving n) = IsLive by about log views seat v × (0 < v.parts) × (n ≡ turn) × (v.front ≡ log) × (homes ≡ none ∷ [])
  Knows about log turn homes views seat v Spent = Unit {0}

  -- the value in the slot has the history and the base; where the slot is out, a seat has the turn
  abbrev pub IsHome : B → List E → List (View E B) → List (maybe.Option (Option T)) → Type 0
  IsHome about log views ((some (Some value)) ∷ []) = (history value ≡ log) × (base value ≡ about)
  IsHome about log views (none ∷ []) = (seat : ℕ) × (v : View E B) × (n : ℕ) × (get_elem? views seat ≡ some v) × (v.stage ≡ Serving n)
  IsHome about log views _ = ⊥

  pub record Ordered (terms : Terms T) (s : State (Option T) (View E B)) : Type 0 where
    pub log : List E
    pub turn : ℕ
    pub wide : length s.words ≡ 3
    pub few : terms.callers < 2 ^ 32
    pub ticket : slice_index s.words 0 ≡ (turn + waiting s.views) % 2 ^ 64
    pub serving : slice_index s.words 1 ≡ turn % 2 ^ 64
    pub count : slice_index s.words 2 ≡ length log
    pub shares : total parts_of s.views ≡ terms.callers
    pub room : length s.views ≤ terms.callers + 1
    pub each : (seat : ℕ) (v : View E B) → get_elem? s.views seat ≡ some v → Knows (base terms.first.value) log turn s.homes s.views seat v v.stage
    pub apart : (i j n : ℕ) (v w : View E B) → get_elem? s.views i ≡ some v → get_elem? s.views j ≡ some w → HasNumber v.stage n → HasNumber w.stage n → i ≡ j
    pub home : IsHome (base terms.first.value) log s.views s.homes
    pub numbered : (caller : ℕ) → NumberedFrom by 0 (of by caller log)
    pub unused : (caller : ℕ) → length s.views ≤ caller + 1 → of by caller log ≡ []

-- the first seat, which has all parts and has made no other seat
abbrev pub first_view : {T E B : Type 0} → (T → B) → Terms T → View E B
first_view base terms = record { stage = Dealing 0; caller = 0; parts = terms.callers; reached = 0; front = []; base = Some (base terms.first.value); joined = [] }

abbrev pub given_of : Stage → ℕ
given_of (Dealing k) = k
given_of _ = 0

module _ {E B : Type 0} where
  -- one caller more has a seat, with one part
  abbrev pub after_giving : View E B → View E B
  after_giving v = record v { stage = Dealing (given_of v.stage + 1); parts = v.parts - 1 }

  -- the next caller's seat, which has seen nothing
  abbrev pub newcomer : View E B → View E B
  newcomer v = record { stage = Resting; caller = given_of v.stage; parts = 1; reached = 0; front = []; base = v.base; joined = [] }

  abbrev pub as_joined : View E B → Joined E
  as_joined v = record { caller = v.caller; reached = v.reached; front = v.front }

  abbrev pub both_views : View E B → View E B → View E B
  both_views v w = record v { parts = v.parts + w.parts; joined = as_joined w ∷ v.joined }

  abbrev pub spent_view : View E B
  spent_view = record { stage = Spent; caller = 0; parts = 0; reached = 0; front = []; base = None; joined = [] }
