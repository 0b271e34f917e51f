-- Names, paths and rels, as contracts see them: a name is its bytes, a path or a rel is its list of names.
use Rattle.std.specs.Prelude.{ℕ, ◌+◌, ◌==◌, nat_le, nat_eq, Bool, not, ◌&&◌, ◌||◌, if◌then◌else◌, List, [], ◌∷◌, length, drop, Option, Some, None}
use Rattle.std.specs.Ordering.{nat_cmp}
use Rattle.std.specs.declared.cmp.Ordering.{Ordering}
use Rattle.std.specs.List.{list_all, join_with_byte, slice_split, starts_with}
use Rattle.std.specs.Cmp.Lexicographic.{pointwise, slice_cmp}

-- a byte that a name may have: printable ASCII from 0x21 to 0x7e, but no slash
abbrev pub is_name_byte : ℕ → Bool
is_name_byte b = nat_le 33 b && nat_le b 126 && not (b == 47)

-- a byte that a text may have: printable ASCII from 0x21 to 0x7e
abbrev pub is_text_byte : ℕ → Bool
is_text_byte b = nat_le 33 b && nat_le b 126

-- the target of a link is 1 to 1,024 such bytes; slashes and dots may stand anywhere
abbrev pub is_target : List ℕ → Bool
is_target bytes = nat_le 1 (length bytes) && nat_le (length bytes) 1024 && list_all is_text_byte bytes

-- whether two names have the same bytes
abbrev pub same_name : List ℕ → List ℕ → Bool
same_name a b = pointwise nat_eq a b

-- the two names that stand for a folder itself and for the one above it
abbrev pub is_dots : List ℕ → Bool
is_dots name = same_name name (46 ∷ []) || same_name name (46 ∷ 46 ∷ [])

-- a name is 1 to 255 such bytes, and neither `.` nor `..`
abbrev pub is_name : List ℕ → Bool
is_name bytes = nat_le 1 (length bytes) && nat_le (length bytes) 255 && list_all is_name_byte bytes && not (is_dots bytes)

-- the text of a list of names: they stand in a row, with a slash between each two
abbrev pub joined : List (List ℕ) → List ℕ
joined names = join_with_byte 47 names

-- the bytes that a name takes in a text with the slash behind it
abbrev pub slot : List ℕ → ℕ
slot name = length name + 1

-- at most 64 names, in a text of at most 1,024 bytes
abbrev pub is_rel : List (List ℕ) → Bool
is_rel names = nat_le (length names) 64 && nat_le (length (joined names)) 1024 && list_all is_name names

-- a path is a rel of at least one name
abbrev pub is_path : List (List ℕ) → Bool
is_path names = nat_le 1 (length names) && is_rel names

-- whether two lists of names are the same
abbrev pub same_names : List (List ℕ) → List (List ℕ) → Bool
same_names p q = pointwise same_name p q

-- whether the names of p begin those of q
abbrev pub is_prefix : List (List ℕ) → List (List ℕ) → Bool
is_prefix p q = starts_with same_name q p

-- whether one of two paths is a prefix of the other; equal paths overlap
abbrev pub overlap : List (List ℕ) → List (List ℕ) → Bool
overlap p q = is_prefix p q || is_prefix q p

-- the names of q behind those of p, where p is a prefix of q
abbrev pub rest_below : List (List ℕ) → List (List ℕ) → Option (List (List ℕ))
rest_below p q = if is_prefix p q then Some (drop (length p) q) else None

-- the order of names: by bytes
abbrev pub name_cmp : List ℕ → List ℕ → Ordering
name_cmp a b = slice_cmp nat_cmp a b

-- the order of paths and rels: as lists of names
abbrev pub path_cmp : List (List ℕ) → List (List ℕ) → Ordering
path_cmp p q = slice_cmp name_cmp p q

-- the pieces of a text between slashes
abbrev pub pieces : List ℕ → List (List ℕ)
pieces text = slice_split (λ b. b == 47) text

-- the path that a text spells, if it spells one
abbrev pub path_of : List ℕ → Option (List (List ℕ))
path_of text = if is_path (pieces text) then Some (pieces text) else None

-- the rel that a text spells, if it spells one: `.` is the empty rel
abbrev pub rel_of : List ℕ → Option (List (List ℕ))
rel_of text = if same_name text (46 ∷ []) then Some [] else path_of text

-- the one text of a rel
abbrev pub rel_text : List (List ℕ) → List ℕ
rel_text [] = 46 ∷ []
rel_text (name ∷ names) = joined (name ∷ names)
