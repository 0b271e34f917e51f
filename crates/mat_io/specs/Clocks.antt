-- The moments that a clock gives.
use Rattle.std.specs.Prelude.{◌≡◌, ℕ, ◌^◌, nat_lt, Bool, List, [], ◌∷◌, Option, Some, None, ⊤}

-- whether a number is a moment: it is less than 2^63
abbrev pub is_moment : ℕ → Bool
is_moment number = nat_lt number (2 ^ 63)

-- the next of some moments, and 0 where none is left
abbrev pub next_moment : List ℕ → ℕ
next_moment [] = 0
next_moment (moment ∷ moments) = moment

-- the moments behind the next one
abbrev pub later_moments : List ℕ → List ℕ
later_moments [] = []
later_moments (moment ∷ moments) = moments

-- a moment is the next of those that are left, where the clock tells them
abbrev pub IsNext : Option (List ℕ) → ℕ → Type 0
IsNext None moment = ⊤
IsNext (Some moments) moment = moment ≡ next_moment moments
