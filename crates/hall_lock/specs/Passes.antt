-- What contracts see of a lock and of its passes.
use Rattle.std.specs.Prelude.{◌≡◌, ℕ, List, [], length, Option, Some}
use Rattle.atomic_table.specs.Seated.{TableId}
use Rattle.hall_lock.specs.declared.By.{By}
use Rattle.hall_lock.specs.Histories.{of}

-- which lock it is, how many passes it has, and the base of its value
pub record LockFacts (B : Type 0) : Type 0 where
  pub lock : TableId
  pub callers : ℕ
  pub base : B

-- of which lock it is, its caller, the beginning of the history that it has seen, a length that the history has reached, and the base
pub record PassFacts (E B : Type 0) : Type 0 where
  pub lock : TableId
  pub caller : ℕ
  pub front : List E
  pub reached : ℕ
  pub base : Option B

-- a pass of the lock that has seen nothing
abbrev pub fresh : {E B : Type 0} → TableId → Option B → ℕ → PassFacts E B
fresh lock base caller = record { lock = lock; caller = caller; front = []; reached = 0; base = base }

-- the pass is one of the lock's
abbrev pub IsPassOf : {E B : Type 0} → LockFacts B → PassFacts E B → Type 0
IsPassOf lock pass = (pass.lock ≡ lock.lock) × (pass.base ≡ Some lock.base)

-- one pass, before and afterwards
abbrev pub IsSamePass : {E B : Type 0} → PassFacts E B → PassFacts E B → Type 0
IsSamePass old new = (new.lock ≡ old.lock) × (new.caller ≡ old.caller) × (new.base ≡ old.base)

module _ {E B : Type 0} (by : E → By) where
  -- the pass's own entries
  abbrev pub own : PassFacts E B → List E
  own pass = of by pass.caller pass.front

  -- who makes the pass's next entry
  abbrev pub next_by : PassFacts E B → By
  next_by pass = record { caller = pass.caller; number = length (own pass) }
