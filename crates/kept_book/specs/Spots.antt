-- The spots of a trie, and the marks and reserved places that they stand for: no contract outside speaks of them.
use Rattle.std.specs.Prelude.{ℕ, Bool, List, [], ◌∷◌, Option, Some, None}
use Rattle.std.specs.List.{flat_map}
use Rattle.std.specs.Option.{is_some}
use Rattle.path_trie.specs.declared.entry.Entry.{Entry}
use Rattle.path_trie.specs.Entries.{put, value_at, without}
use Rattle.kept_book.specs.declared.mark.Mark.{Mark}
use Rattle.kept_book.specs.declared.spot.Spot.{Spot}
use Rattle.kept_book.specs.declared.spot.Spot.TheVariants as spot
use Rattle.kept_book.specs.Marks.{Marks, mark_at}

-- the mark that a spot at a path stands for, if it stands for one
abbrev pub mark_in : List (List ℕ) → Spot → List Mark
mark_in path (spot.Kept last new) = mark_at path last new ∷ []
mark_in path spot.Reserved = []
mark_in path (spot.Both last new) = mark_at path last new ∷ []

-- the place that it stands for, if it is reserved
abbrev pub reserved_in : List (List ℕ) → Spot → List (List (List ℕ))
reserved_in path (spot.Kept last new) = []
reserved_in path spot.Reserved = path ∷ []
reserved_in path (spot.Both last new) = path ∷ []

-- what an entry stands for
abbrev pub told : {Y : Type 0} → (List (List ℕ) → Spot → List Y) → Entry Spot → List Y
told f entry = f entry.path entry.value

-- what some entries stand for
abbrev pub all_told : {Y : Type 0} → (List (List ℕ) → Spot → List Y) → List (Entry Spot) → List Y
all_told f spots = flat_map (told f) spots

abbrev pub marks_of : List (Entry Spot) → List Mark
marks_of spots = all_told mark_in spots

abbrev pub reserved_of : List (Entry Spot) → List (List (List ℕ))
reserved_of spots = all_told reserved_in spots

-- what a spot stands for, if there is one at a path
abbrev pub told_at : {Y : Type 0} → (List (List ℕ) → Spot → List Y) → List (List ℕ) → Option Spot → List Y
told_at f path None = []
told_at f path (Some one) = f path one

-- what is seen of the spots
abbrev pub seen : List (Entry Spot) → Marks
seen spots = record { marks = marks_of spots; reserved = reserved_of spots }

-- what is told of the mark of a spot
abbrev pub use_in : Option Spot → Option (ℕ × Bool)
use_in None = None
use_in (Some (spot.Kept last new)) = Some (last, new)
use_in (Some spot.Reserved) = None
use_in (Some (spot.Both last new)) = Some (last, new)

-- whether there is a mark at a path
abbrev pub is_kept_at : List (Entry Spot) → List (List ℕ) → Bool
is_kept_at spots path = is_some (use_in (value_at path spots))

-- what stands at a path once a mark does
abbrev pub with_use : Option Spot → ℕ → Bool → Spot
with_use None last new = spot.Kept last new
with_use (Some (spot.Kept old was)) last new = spot.Kept last new
with_use (Some spot.Reserved) last new = spot.Both last new
with_use (Some (spot.Both old was)) last new = spot.Both last new

-- a mark and a reserved place
abbrev pub both : ℕ → Bool → Spot
both last new = spot.Both last new

-- what stands at a path once a place is reserved
abbrev pub with_place : Option Spot → Spot
with_place None = spot.Reserved
with_place (Some (spot.Kept last new)) = spot.Both last new
with_place (Some spot.Reserved) = spot.Reserved
with_place (Some (spot.Both last new)) = spot.Both last new

-- what is left at a path without a mark, and without a reserved place
abbrev pub without_use : Option Spot → Option Spot
without_use None = None
without_use (Some (spot.Kept last new)) = None
without_use (Some spot.Reserved) = Some spot.Reserved
without_use (Some (spot.Both last new)) = Some spot.Reserved

abbrev pub without_place : Option Spot → Option Spot
without_place None = None
without_place (Some (spot.Kept last new)) = Some (spot.Kept last new)
without_place (Some spot.Reserved) = None
without_place (Some (spot.Both last new)) = Some (spot.Kept last new)

-- the spots with another one at a path, or with none
abbrev pub left_with : List (List ℕ) → Option Spot → List (Entry Spot) → List (Entry Spot)
left_with path None spots = without path spots
left_with path (Some one) spots = put path one spots

-- how many marks stand at a path
abbrev pub mark_count : Option Spot → ℕ
mark_count None = 0
mark_count (Some (spot.Kept last new)) = 1
mark_count (Some spot.Reserved) = 0
mark_count (Some (spot.Both last new)) = 1
