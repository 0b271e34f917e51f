-- What a core begins with, by what its opening found.
use Rattle.std.specs.Prelude.{ℕ, Bool, true, false, if◌then◌else◌, List, [], ◌∷◌, map}
use Rattle.std.specs.List.{list_any}
use Rattle.mat_path.specs.Names.{same_names}
use Rattle.mat_model.specs.declared.book.Row.{Row}
use Rattle.mat_model.specs.Kept.{kept_row}
use Rattle.mat_model.specs.Openings.{put_strays, stray_debris}
use Rattle.mat_model.specs.Rows.{comes_before, is_apart}
use Rattle.mat_model.specs.WorkState.{Debris}
use Rattle.write_plan.specs.declared.method.Method.TheVariants as method
use Rattle.row_book.specs.declared.stock.Stock.{Stock}
use Rattle.kept_book.specs.declared.mark.Mark.{Mark}
use Rattle.kept_book.specs.Marks.{is_mark_at, mark_of}

-- ---- rows

-- a row whose bytes the store has, and whose last make didn't fail
abbrev pub fetched : Row → Stock
fetched row = record { row = row; method = method.Fetch; dirty = false }

-- whether a stock's row comes before a row, and doesn't overlap it
abbrev pub is_ahead : Row → Stock → Bool
is_ahead row stock = is_apart stock.row row

-- ---- kept rows

-- the mark of a row that is stored in the version that is written now
abbrev pub new_mark : Row → Mark
new_mark row = mark_of (kept_row row)

-- a mark whose row is stored in the first version, if it is at a path
abbrev pub aged : List (List ℕ) → Mark → Mark
aged path mark = if is_mark_at path mark then record mark { new = false } else mark

-- the same, if it is at one of some paths
abbrev pub aged_by : List (List (List ℕ)) → Mark → Mark
aged_by paths mark = if list_any (same_names mark.path) paths then record mark { new = false } else mark

-- ---- debris

-- the debris of strays and lost paths, in path order
abbrev pub strays_with : List (List (List ℕ)) → List (List (List ℕ)) → List Debris
strays_with strays lost = put_strays lost (map stray_debris strays)

-- whether the first of some lost paths comes before the first of some strays, where there is one
abbrev pub is_lost_first : List (List (List ℕ)) → List (List (List ℕ)) → Bool
is_lost_first strays [] = false
is_lost_first [] (gone ∷ lost) = true
is_lost_first (stray ∷ strays) (gone ∷ lost) = comes_before gone stray
