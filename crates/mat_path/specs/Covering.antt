-- How often a path is covered by some paths, and which of them are other ones than it.
use Rattle.std.specs.Prelude.{ℕ, ◌+◌, Bool, not, if◌then◌else◌, List, [], ◌∷◌}
use Rattle.mat_path.specs.Names.{same_names, is_prefix}

-- how many of some paths a path is at or below, counted with repeats
abbrev pub covering : List (List ℕ) → List (List (List ℕ)) → ℕ
covering path [] = 0
covering path (place ∷ places) = (if is_prefix place path then 1 else 0) + covering path places

-- whether a path is another one than this
abbrev pub is_other_path : List (List ℕ) → List (List ℕ) → Bool
is_other_path place path = not (same_names place path)
