-- Histories: lists of entries, each made by a caller under that caller's next number.
use Rattle.std.specs.Prelude.{◌≡◌, ◌⊎◌, ℕ, ◌+◌, ◌==◌, Bool, List, [], ◌∷◌, ◌++◌, length}
use Rattle.std.specs.List.{filter}
use Rattle.hall_lock.specs.declared.By.{By}

module _ {E : Type 0} where
  -- the history begins with the front
  abbrev pub IsFront : List E → List E → Type 0
  IsFront front history = (rest : List E) × (history ≡ front ++ rest)

module _ {E : Type 0} (by : E → By) where
  -- whether the entry is the caller's
  abbrev pub is_of : ℕ → E → Bool
  is_of caller entry = (by entry).caller == caller

  -- the caller's entries, in their order
  abbrev pub of : ℕ → List E → List E
  of caller history = filter (is_of caller) history

  -- the history begins with the front, which has all entries of the caller
  abbrev pub Fits : List E → ℕ → List E → Type 0
  Fits history caller front = IsFront front history × (of caller history ≡ of caller front)

  -- a front of the history that has all entries of the caller is as asked
  abbrev pub IsKnown : ℕ → List E → (List E → Type 0) → Type 0
  IsKnown caller history asked = (front : List E) × Fits history caller front × asked front

  -- nothing is appended, or one entry, which was made so
  abbrev pub Grows : By → List E → List E → Type 0
  Grows made before after = (after ≡ before) ⊎ ((entry : E) × (by entry ≡ made) × (after ≡ before ++ entry ∷ []))

  -- the numbers of the entries are from, from + 1 and on
  abbrev pub NumberedFrom : ℕ → List E → Type 0
  NumberedFrom from [] = Unit {0}
  NumberedFrom from (entry ∷ entries) = ((by entry).number ≡ from) × NumberedFrom (from + 1) entries

  -- so many entries are appended: none, or one, which is the caller's next
  abbrev pub Adds : ℕ → List E → List E → ℕ → Type 0
  Adds caller before after added =
      ((after ≡ before) × (added ≡ 0))
      ⊎ ((entry : E) × (by entry ≡ record { caller = caller; number = length (of caller before) }) × (after ≡ before ++ entry ∷ []) × (added ≡ 1))
