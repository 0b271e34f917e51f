-- What a turn does, and what the value is when the lock is closed.
use Rattle.std.specs.Prelude.{◌≡◌, ◌⊎◌, ◌≤◌, List, [], ◌∷◌, ◌++◌, length}
use Rattle.hall_lock.specs.declared.By.{By}
use Rattle.hall_lock.specs.Histories.{Fits}
use Rattle.hall_lock.specs.Passes.{PassFacts, own, next_by}

-- the act ran once on the value, at one point of one history
pub record IsTurn {T E B : Type 0} (by : E → By) (history : T → List E) (base : T → B) (does : T → By → T → Type 0) (about : B) (old new : PassFacts E B) : Type 0 where
  -- the value at that point, and after the act
  pub before : T
  pub after : T
  -- the history there begins with the front that the pass had, which has all entries of the caller
  pub front : Fits by (history before) old.caller old.front
  -- and has the length that the pass was told
  pub reached : old.reached ≤ length (history before)
  -- the front is then the whole history
  pub seen : new.front ≡ history after
  -- the act appended nothing, or one entry, which is the pass's next own one
  pub adds :
      ((history after ≡ history before) × (own by new ≡ own by old))
      ⊎ ((entry : E) × (by entry ≡ next_by by old) × (history after ≡ history before ++ entry ∷ []) × (own by new ≡ own by old ++ entry ∷ []))
  pub base_before : base before ≡ about
  pub base_after : base after ≡ about
  -- the act's own relation
  pub acts : does before (next_by by old) after

-- the history begins with the pass's front, has the pass's own entries as its caller's, and has the length that the pass was told
pub record Keeps {E B : Type 0} (by : E → By) (log : List E) (pass : PassFacts E B) : Type 0 where
  pub front : Fits by log pass.caller pass.front
  pub reached : pass.reached ≤ length log
