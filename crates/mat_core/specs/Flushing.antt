-- A flush: the rows that are due, by the marks of a core, and what storing them does.
use Rattle.std.specs.Prelude.{◌≡◌, ◌≤◌, ◌++◌, ℕ, Bool, true, false, not, ◌==◌, ◌&&◌, List, [], ◌∷◌, map, filter, find, Option, Some, None}
use Rattle.std.specs.List.{Contains, list_any}
use Rattle.std.specs.Option.{option_map}
use Rattle.mat_path.specs.Names.{same_names}
use Rattle.mat_model.specs.declared.answers.FaultNote.{FaultNote}
use Rattle.mat_model.specs.declared.book.Row.{Row}
use Rattle.mat_model.specs.Kept.{kept_row}
use Rattle.kept_book.specs.declared.mark.Mark.{Mark}
use Rattle.kept_book.specs.Marks.{is_mark_at, is_other, is_reserved, mark_at, put_mark, put_path, use_of}
use Rattle.keep_port.specs.Rows.{put_all, touch_all}
use Rattle.keep_port.specs.declared.row.RawRow.{RawRow}
use Rattle.keep_port.specs.declared.row.Touch.{Touch}
use Rattle.core_laws.specs.Stored.{IsReadable, raw_of, touch_of}
use Rattle.core_devices.specs.Removals.{IsStoreCall, IsStoreNote}
use Rattle.core_devices.specs.Told.{ToldStore}
use Rattle.mat_core.specs.declared.flushing.Due.{Due}
use Rattle.mat_core.specs.declared.flushing.Storing.{Storing}
use Rattle.mat_core.specs.declared.flushing.Storing.TheVariants as storing

-- ---- the rows that are due

-- the last use of the mark at a path, and whether its row is in the version that is written now, if there is a mark
abbrev pub use_at : List Mark → List (List ℕ) → Option (ℕ × Bool)
use_at marks path = option_map use_of (find (is_mark_at path) marks)

-- whether a mark is there, and its row in the version that is written now; and whether it has a last use besides
abbrev pub is_new_use : Option (ℕ × Bool) → Bool
is_new_use None = false
is_new_use (Some one) = one.1

abbrev pub is_same_use : ℕ → Option (ℕ × Bool) → Bool
is_same_use last None = false
is_same_use last (Some one) = (one.0 == last) && one.1

-- whether a row is due, where this is told of the mark at its path: it stands, and the state store hasn't it with its last use
abbrev pub is_due_for : Row → Option (ℕ × Bool) → Bool
is_due_for row used = row.stands && not (is_same_use row.last used)

abbrev pub is_due_by : List Mark → Row → Bool
is_due_by marks row = is_due_for row (use_at marks row.path)

-- whether the state store has a row's bytes, and whether it lacks them
abbrev pub is_there_by : List Mark → Row → Bool
is_there_by marks row = is_new_use (use_at marks row.path)

abbrev pub is_lacking_by : List Mark → Row → Bool
is_lacking_by marks row = not (is_there_by marks row)

-- of some rows those that are due, and of these the ones whose bytes are put, and the ones that get their last use
abbrev pub due_by : List Mark → List Row → List Row
due_by marks rows = filter (is_due_by marks) rows

abbrev pub put_by : List Mark → List Row → List Row
put_by marks rows = filter (is_lacking_by marks) (due_by marks rows)

abbrev pub touched_by : List Mark → List Row → List Row
touched_by marks rows = filter (is_there_by marks) (due_by marks rows)

-- what is stored of the rows that are due among some, by a core with an identity
pub record AreDue (identity : ℕ) (marks : List Mark) (rows : List Row) (due : Due) : Type 0 where
  -- the last use of each
  pub uses : due.uses.items ≡ map touch_of (due_by marks rows)
  pub puts : due.puts.items ≡ map (raw_of identity) (put_by marks rows)
  pub touches : due.touches.items ≡ map touch_of (touched_by marks rows)
  -- what is put can be read back
  pub readable : (row : Row) → Contains (put_by marks rows) row → IsReadable (kept_row row)

-- one of a list, or none
abbrev pub if_so : {X : Type 0} → Bool → X → List X
if_so true one = one ∷ []
if_so false one = []

-- a row is looked at, where this is told of the mark at its path: what is stored of it comes behind the others
pub record IsLookedAt (identity : ℕ) (row : Row) (used : Option (ℕ × Bool)) (old new : Due) : Type 0 where
  pub uses : new.uses.items ≡ old.uses.items ++ if_so (is_due_for row used) (touch_of row)
  pub puts : new.puts.items ≡ old.puts.items ++ if_so (is_due_for row used && not (is_new_use used)) (raw_of identity row)
  pub touches : new.touches.items ≡ old.touches.items ++ if_so (is_due_for row used && is_new_use used) (touch_of row)
  pub readable : (is_due_for row used && not (is_new_use used)) ≡ true → IsReadable (kept_row row)

-- ---- marks and places

-- whether a new last use is that of a path, and whether one of some is
abbrev pub is_use_at : List (List ℕ) → Touch → Bool
is_use_at path one = same_names one.path path

abbrev pub is_used : List Touch → List (List ℕ) → Bool
is_used uses path = list_any (is_use_at path) uses

-- the marks with those of some last uses, in the version that is written now
abbrev pub marks_with : List Touch → List Mark → List Mark
marks_with [] marks = marks
marks_with (one ∷ uses) marks = marks_with uses (put_mark (mark_at one.path one.last true) marks)

-- the reserved places with those at the paths of some, and without them
abbrev pub places_with : List Touch → List (List (List ℕ)) → List (List (List ℕ))
places_with [] reserved = reserved
places_with (one ∷ uses) reserved = places_with uses (put_path one.path reserved)

abbrev pub places_without : List Touch → List (List (List ℕ)) → List (List (List ℕ))
places_without [] reserved = reserved
places_without (one ∷ uses) reserved = places_without uses (filter (is_other one.path) reserved)

-- a place is reserved for each of some, one after the other
abbrev pub HaveAllPlaces : List Touch → List (List (List ℕ)) → Type 0
HaveAllPlaces [] reserved = Unit {0}
HaveAllPlaces (one ∷ uses) reserved = (is_reserved reserved one.path ≡ true) × HaveAllPlaces uses (filter (is_other one.path) reserved)

-- places that are reserved stay so, but for those at the paths of some last uses
abbrev pub KeepsOthers : List Touch → List (List (List ℕ)) → List (List (List ℕ)) → Type 0
KeepsOthers uses old new = (path : List (List ℕ)) → is_used uses path ≡ false → is_reserved old path ≡ true → is_reserved new path ≡ true

-- ---- the call of the state store

-- its rows once some were to be put and others touched, by how that ended
abbrev pub after_storing_all : List RawRow → List Touch → Storing → List RawRow → List RawRow
after_storing_all puts touches storing.Done rows = touch_all (put_all rows puts) touches
after_storing_all puts touches (storing.Failed note) rows = rows
after_storing_all puts touches storing.NoMemory rows = rows

-- the note of a storing that failed
abbrev pub failure_of_storing : Storing → Option FaultNote
failure_of_storing storing.Done = None
failure_of_storing (storing.Failed note) = Some note
failure_of_storing storing.NoMemory = None

-- whether it failed, and whether memory was wanting
abbrev pub has_storing_failed : Storing → Bool
has_storing_failed storing.Done = false
has_storing_failed (storing.Failed note) = true
has_storing_failed storing.NoMemory = false

abbrev pub has_storing_wanted : Storing → Bool
has_storing_wanted storing.Done = false
has_storing_wanted (storing.Failed note) = false
has_storing_wanted storing.NoMemory = true

-- whether nothing is to be put, and nothing to be touched
abbrev pub is_idle : List RawRow → List Touch → Bool
is_idle [] [] = true
is_idle [] (touch ∷ touches) = false
is_idle (row ∷ rows) touches = false

-- what it tells, by how the storing ended
pub record HasStoredAll (puts : List RawRow) (touches : List Touch) (said : Storing) (old new : ToldStore) : Type 0 where
  pub rows : new.rows ≡ option_map (after_storing_all puts touches said) old.rows
  pub faults : old.faults ≤ new.faults
  pub note : IsStoreNote old.faults new.faults (failure_of_storing said)
  -- it was called where there was something to put or to touch
  pub called : IsStoreCall (not (is_idle puts touches)) (has_storing_failed said) (has_storing_wanted said) old new
