-- What is kept of the state store's rows.
use Rattle.std.specs.Prelude.{ℕ, Bool, not, List, ◌∷◌, ◌++◌, filter}
use Rattle.std.specs.List.{list_any}
use Rattle.std.specs.Ordering.{is_lt}
use Rattle.mat_path.specs.Names.{overlap, path_cmp, same_names}
use Rattle.mat_model.specs.Kept.{KeptRow}
use Rattle.mat_model.specs.declared.answers.Gone.{Gone}
use Rattle.kept_book.specs.declared.mark.Mark.{Mark}

-- the marks in order of path, and the places that are reserved, in order of path
pub record Marks : Type 0 where
  pub marks : List Mark
  pub reserved : List (List (List ℕ))

-- the mark of a kept row
abbrev pub mark_of : KeptRow → Mark
mark_of kept = record { path = kept.path; last = kept.last; new = kept.new }

-- a mark of three parts
abbrev pub mark_at : List (List ℕ) → ℕ → Bool → Mark
mark_at path last new = record { path = path; last = last; new = new }

-- what is told of a mark, and its path
abbrev pub use_of : Mark → ℕ × Bool
use_of mark = (mark.last, mark.new)

abbrev pub path_of_mark : Mark → List (List ℕ)
path_of_mark mark = mark.path

-- whether a mark is at a path, elsewhere, before it and behind it
abbrev pub is_mark_at : List (List ℕ) → Mark → Bool
is_mark_at path mark = same_names path mark.path

abbrev pub is_mark_elsewhere : List (List ℕ) → Mark → Bool
is_mark_elsewhere path mark = not (is_mark_at path mark)

abbrev pub is_mark_before : List (List ℕ) → Mark → Bool
is_mark_before path mark = is_lt (path_cmp mark.path path)

abbrev pub is_mark_behind : List (List ℕ) → Mark → Bool
is_mark_behind path mark = is_lt (path_cmp path mark.path)

-- whether a mark overlaps a path, and whether it doesn't
abbrev pub overlaps_mark : List (List ℕ) → Mark → Bool
overlaps_mark path mark = overlap mark.path path

abbrev pub is_clear_mark : List (List ℕ) → Mark → Bool
is_clear_mark path mark = not (overlaps_mark path mark)

-- whether a place is reserved at a path
abbrev pub is_reserved : List (List (List ℕ)) → List (List ℕ) → Bool
is_reserved reserved path = list_any (same_names path) reserved

-- whether a path is among some, and whether a mark is at none of them
abbrev pub is_same : List (List ℕ) → List (List ℕ) → Bool
is_same path one = same_names one path

abbrev pub is_listed : List (List (List ℕ)) → List (List ℕ) → Bool
is_listed paths path = list_any (is_same path) paths

abbrev pub is_mark_unlisted : List (List (List ℕ)) → Mark → Bool
is_mark_unlisted paths mark = not (is_listed paths mark.path)

-- the path of a row that a clean lists
abbrev pub gone_path : Gone → List (List ℕ)
gone_path one = one.path

-- the marks with one in its place in path order, in the place of the one at its path
abbrev pub put_mark : Mark → List Mark → List Mark
put_mark mark marks = filter (is_mark_before mark.path) marks ++ mark ∷ filter (is_mark_behind mark.path) marks

-- whether a path is another one, comes before it and behind it
abbrev pub is_other : List (List ℕ) → List (List ℕ) → Bool
is_other path other = not (same_names path other)

abbrev pub is_path_before : List (List ℕ) → List (List ℕ) → Bool
is_path_before path other = is_lt (path_cmp other path)

abbrev pub is_path_behind : List (List ℕ) → List (List ℕ) → Bool
is_path_behind path other = is_lt (path_cmp path other)

-- the paths with one in its place in path order, once
abbrev pub put_path : List (List ℕ) → List (List (List ℕ)) → List (List (List ℕ))
put_path path paths = filter (is_path_before path) paths ++ path ∷ filter (is_path_behind path) paths
