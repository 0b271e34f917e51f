-- A map from paths to values, as contracts see it: the list of its entries in order of path, each path once.
use Rattle.std.specs.Prelude.{◌≡◌, ◌≤◌, ℕ, nat_le, Bool, true, false, not, ◌&&◌, if◌then◌else◌, List, [], ◌∷◌, ◌++◌, length, Option, Some, None}
use Rattle.std.specs.List.{Contains, filter, find, list_all}
use Rattle.std.specs.Option.{option_map}
use Rattle.std.specs.Ordering.{is_lt}
use Rattle.mat_path.specs.Names.{is_prefix, overlap, path_cmp, same_names}
use Rattle.path_trie.specs.declared.entry.Entry.{Entry}

-- whether an entry stands at a path
abbrev pub is_at : {V : Type 0} → List (List ℕ) → Entry V → Bool
is_at path entry = same_names path entry.path

-- whether an entry stands at another path
abbrev pub is_elsewhere : {V : Type 0} → List (List ℕ) → Entry V → Bool
is_elsewhere path entry = not (is_at path entry)

-- whether an entry comes before a path
abbrev pub is_before : {V : Type 0} → List (List ℕ) → Entry V → Bool
is_before path entry = is_lt (path_cmp entry.path path)

-- whether an entry comes behind a path
abbrev pub is_behind : {V : Type 0} → List (List ℕ) → Entry V → Bool
is_behind path entry = is_lt (path_cmp path entry.path)

-- whether an entry doesn't come before a path
abbrev pub is_from : {V : Type 0} → List (List ℕ) → Entry V → Bool
is_from path entry = not (is_before path entry)

-- whether an entry is at or below a path
abbrev pub is_under : {V : Type 0} → List (List ℕ) → Entry V → Bool
is_under path entry = is_prefix path entry.path

-- whether an entry is neither at a path nor below it
abbrev pub is_outside : {V : Type 0} → List (List ℕ) → Entry V → Bool
is_outside path entry = not (is_under path entry)

-- whether an entry comes behind all that is at and below a path
abbrev pub is_past : {V : Type 0} → List (List ℕ) → Entry V → Bool
is_past path entry = is_behind path entry && not (is_under path entry)

-- whether an entry comes behind a path, or behind all that is at and below it too
abbrev pub is_beyond : {V : Type 0} → Bool → List (List ℕ) → Entry V → Bool
is_beyond false path entry = is_behind path entry
is_beyond true path entry = is_past path entry

-- whether an entry is at or below a path, and comes behind another path
abbrev pub is_next_under : {V : Type 0} → List (List ℕ) → List (List ℕ) → Entry V → Bool
is_next_under top last entry = is_under top entry && is_behind last entry

-- whether an entry's path is a prefix of a path
abbrev pub is_above : {V : Type 0} → List (List ℕ) → Entry V → Bool
is_above path entry = is_prefix entry.path path

-- whether an entry's path is a prefix of a path, of at least so many names
abbrev pub is_high : {V : Type 0} → List (List ℕ) → ℕ → Entry V → Bool
is_high path least entry = is_above path entry && nat_le least (length entry.path)

-- whether an entry's path overlaps a path
abbrev pub overlaps : {V : Type 0} → List (List ℕ) → Entry V → Bool
overlaps path entry = overlap path entry.path

-- whether each element of a list is so to all those behind it
abbrev pub are_in_turn : {X : Type 0} → (X → X → Bool) → List X → Bool
are_in_turn less [] = true
are_in_turn less (x ∷ xs) = list_all (less x) xs && are_in_turn less xs

-- whether an entry's path is less than another's
abbrev pub is_less : {V : Type 0} → Entry V → Entry V → Bool
is_less entry other = is_behind entry.path other

-- whether entries stand in order of path, each path once
abbrev pub ascends : {V : Type 0} → List (Entry V) → Bool
ascends entries = are_in_turn is_less entries

-- the path of an entry, and its value
abbrev pub path_of : {V : Type 0} → Entry V → List (List ℕ)
path_of entry = entry.path

abbrev pub value_of : {V : Type 0} → Entry V → V
value_of entry = entry.value

-- an entry as a pair
abbrev pub both : {V : Type 0} → Entry V → List (List ℕ) × V
both entry = (entry.path, entry.value)

-- the value at a path, if one stands there
abbrev pub value_at : {V : Type 0} → List (List ℕ) → List (Entry V) → Option V
value_at path entries = option_map value_of (find (is_at path) entries)

-- the entries with a value at a path, in place of the one that stood there
abbrev pub put : {V : Type 0} → List (List ℕ) → V → List (Entry V) → List (Entry V)
put path value entries = filter (is_before path) entries ++ record { path = path; value = value } ∷ filter (is_behind path) entries

-- the entries without the one at a path
abbrev pub without : {V : Type 0} → List (List ℕ) → List (Entry V) → List (Entry V)
without path entries = filter (is_elsewhere path) entries

-- the entries with those that others have at and below a path, in place of their own
abbrev pub spliced : {V : Type 0} → List (List ℕ) → List (Entry V) → List (Entry V) → List (Entry V)
spliced path others entries = filter (is_before path) entries ++ (filter (is_under path) others ++ filter (is_past path) entries)

-- the entries with one value at a path, in place of all that stood at and below it
abbrev pub cut_at : {V : Type 0} → List (List ℕ) → V → List (Entry V) → List (Entry V)
cut_at path mark entries = filter (is_before path) entries ++ record { path = path; value = mark } ∷ filter (is_past path) entries

-- a list without the first of its elements that passes a test
abbrev pub without_first : {X : Type 0} → (X → Bool) → List X → List X
without_first test [] = []
without_first test (x ∷ xs) = if test x then xs else x ∷ without_first test xs

-- the number of an entry's names, and its value
abbrev pub counted : {V : Type 0} → Entry V → ℕ × V
counted entry = (length entry.path, entry.value)

-- the entry at the shortest prefix of a path, which is the first in order of path: its number of names, and its value
abbrev pub cover_of : {V : Type 0} → List (List ℕ) → List (Entry V) → Option (ℕ × V)
cover_of path entries = option_map counted (find (is_above path) entries)

-- what the entry at the shortest prefix of a path is: it is one of the entries, at a prefix, and each other at a prefix has no fewer names; and
-- where there is none, no entry is at a prefix
abbrev pub IsShortest : {V : Type 0} → List (List ℕ) → List (Entry V) → Option (Entry V) → Type 0
IsShortest {V} path entries None = (entry : Entry V) → Contains entries entry → is_above path entry ≡ false
IsShortest {V} path entries (Some found) =
    Contains entries found
    × (is_above path found ≡ true)
    × ((entry : Entry V) → Contains entries entry → is_above path entry ≡ true → length found.path ≤ length entry.path)
