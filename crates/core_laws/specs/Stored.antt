-- The rows of the state store beside the kept rows of a point, and the counts of faults beside a history.
use Rattle.std.specs.Prelude.{◌≡◌, ◌≤◌, ◌&&◌, ◌⊎◌, ℕ, Bool, true, false, not, if◌then◌else◌, List, All, Option, Some, None}
use Rattle.std.specs.List.{Contains, list_any}
use Rattle.std.specs.Option.{is_some}
use Rattle.mat_path.specs.Names.{is_path, joined, path_of, same_names}
use Rattle.mat_tree.specs.Trees.{IsNode, IsTree}
use Rattle.mat_model.specs.declared.answers.Device.TheVariants as device
use Rattle.mat_model.specs.declared.answers.FaultNote.{FaultNote}
use Rattle.mat_model.specs.declared.answers.Recorded.{Recorded}
use Rattle.mat_model.specs.declared.answers.Recorded.TheVariants as recorded
use Rattle.mat_model.specs.declared.answers.Reply.{Reply}
use Rattle.mat_model.specs.declared.answers.Reply.TheVariants as reply
use Rattle.mat_model.specs.declared.book.Row.{Row}
use Rattle.mat_model.specs.declared.entries.Entry.{Entry}
use Rattle.mat_model.specs.Kept.{KeptRow, kept_row}
use Rattle.mat_model.specs.Legal.{count_behind, note_of_end}
use Rattle.keep_port.specs.Rows.{ascend}
use Rattle.keep_port.specs.declared.row.RawRow.{RawRow}
use Rattle.keep_port.specs.declared.row.Touch.{Touch}
use Rattle.row_bytes.specs.Rows.{IsRow, row_bytes}
use Rattle.row_bytes.specs.declared.row.KeptTree.{KeptTree}

-- ---- rows

-- the identity that the bytes of a kept row have: those of the version that is written now have one, those of the first version none
abbrev pub identity_of : ℕ → KeptRow → Option ℕ
identity_of identity kept = if kept.new then Some identity else None

-- a kept row as the state store has it, where the daemon has an identity
abbrev pub raw_row : ℕ → KeptRow → RawRow
raw_row identity kept = record { path = joined kept.path; body = row_bytes (identity_of identity kept) kept.tree; last = kept.last }

-- a row of the state store is one of some kept rows
pub record IsOneOf (identity : ℕ) (kept : List KeptRow) (raw : RawRow) : Type 0 where
  pub one : KeptRow
  pub among : Contains kept one
  pub same : raw ≡ raw_row identity one

-- a kept row can be read back from the text of its path and from its bytes: it is at a path, and has a tree, whose nodes are what may stand in one
pub record IsReadable (kept : KeptRow) : Type 0 where
  pub placed : is_path kept.path ≡ true
  pub whole : IsTree kept.tree
  pub nodes : All IsNode kept.tree

-- the state store has the kept rows, in order of the bytes of their paths, and no others
pub record IsStore (identity : ℕ) (kept : List KeptRow) (rows : List RawRow) : Type 0 where
  pub order : ascend rows ≡ true
  pub each : (one : KeptRow) → Contains kept one → Contains rows (raw_row identity one)
  pub others : (raw : RawRow) → Contains rows raw → IsOneOf identity kept raw
  -- each of them can be read back, so that no other one has the text of its path
  pub readable : (one : KeptRow) → Contains kept one → IsReadable one

-- ---- rows that are removed

-- a kept row is left where those that a test finds are removed
abbrev pub is_left : (KeptRow → Bool) → KeptRow → Bool
is_left drops kept = not (drops kept)

-- some paths name, of the kept rows, exactly those that a test finds
pub record AreDropped (drops : KeptRow → Bool) (kept : List KeptRow) (paths : List (List (List ℕ))) : Type 0 where
  pub exact : (one : KeptRow) → Contains kept one → list_any (same_names one.path) paths ≡ drops one
  pub placed : (path : List (List ℕ)) → Contains paths path → is_path path ≡ true

-- ---- rows that are stored

-- a row as the state store has it once it is stored, and the new last use of one that it has already
abbrev pub raw_of : ℕ → Row → RawRow
raw_of identity row = raw_row identity (kept_row row)

abbrev pub touch_of : Row → Touch
touch_of row = record { path = row.path; last = row.last }

-- whether a kept row is at a row's path, in the version that is written now
abbrev pub is_new_at : Row → KeptRow → Bool
is_new_at row kept = same_names kept.path row.path && kept.new

-- whether the state store has a row's bytes already, but for its last use, where a kept row at the path of a row that stands has its tree
abbrev pub has_bytes : List KeptRow → Row → Bool
has_bytes kept row = list_any (is_new_at row) kept

-- whether a row's bytes are to be written
abbrev pub wants_bytes : List KeptRow → Row → Bool
wants_bytes kept row = not (has_bytes kept row)

-- rows that are to be stored are split into those whose bytes are written, and those that the state store has, which only get another last use
pub record AreSplit (kept : List KeptRow) (some written touched : List Row) : Type 0 where
  pub each : (row : Row) → Contains some row → Contains written row ⊎ Contains touched row
  pub puts : (row : Row) → Contains written row → Contains some row
  pub touches : (row : Row) → Contains touched row → Contains some row
  pub stored : (row : Row) → Contains touched row → has_bytes kept row ≡ true

-- ---- rows that are told

-- a row that the state store tells is read as a kept one: its path is spelled so, and its bytes are a row of its tree, with the daemon's identity or none
pub record IsReadAs (identity : ℕ) (raw : RawRow) (kept : KeptRow) : Type 0 where
  pub path : path_of raw.path ≡ Some kept.path
  pub body : IsRow raw.body (record { tree = kept.tree; identity = identity_of identity kept })
  pub last : raw.last ≡ kept.last

-- a row that is told is read as one of some kept rows
pub record IsReadAmong (identity : ℕ) (kept : List KeptRow) (raw : RawRow) : Type 0 where
  pub one : KeptRow
  pub among : Contains kept one
  pub read : IsReadAs identity raw one

-- a kept row is read from one of the rows that are told
pub record IsReadFrom (identity : ℕ) (rows : List RawRow) (kept : KeptRow) : Type 0 where
  pub raw : RawRow
  pub among : Contains rows raw
  pub read : IsReadAs identity raw kept

-- a row that was read from the bytes of one that is told, as a kept row at a path
abbrev pub kept_read : List (List ℕ) → KeptTree → RawRow → KeptRow
kept_read path row raw = record { path = path; tree = row.tree; last = raw.last; new = is_some row.identity }

-- whether the bytes of a kept row are of the first version
abbrev pub is_old : KeptRow → Bool
is_old kept = not kept.new

-- ---- entries that leave the kept rows

-- whether the reply to the end of a job, and whether any reply, says that the kept rows are as they were
abbrev pub leaves_by : Recorded → Bool
leaves_by recorded.Kept = false
leaves_by (recorded.NotKept note) = true
leaves_by recorded.NoMemory = true
leaves_by recorded.Nothing = true

abbrev pub leaves_kept : Reply → Bool
leaves_kept (reply.Invalid count) = false
leaves_kept (reply.Cleaned dry gone strays) = dry
leaves_kept (reply.Flushed count) = false
leaves_kept reply.Started = false
leaves_kept (reply.Fresh how) = leaves_by how
leaves_kept _ = true

-- ---- counts

-- a count isn't 0, where a note is of the disk
abbrev pub HasDiskRisen : ℕ → Option FaultNote → Type 0
HasDiskRisen count None = Unit {0}
HasDiskRisen count (Some note) = note.device ≡ device.Disk → 1 ≤ count

-- a note, if there is one, ends at most at a count
abbrev pub IsNoteWithin : ℕ → Option FaultNote → Type 0
IsNoteWithin count None = Unit {0}
IsNoteWithin count (Some note) = note.after ≤ count

-- the same of the disk's count, if it is of the disk
abbrev pub IsDiskNoteWithin : ℕ → Option FaultNote → Type 0
IsDiskNoteWithin count None = Unit {0}
IsDiskNoteWithin count (Some note) = note.device ≡ device.Disk → note.after ≤ count

-- the counts of the state store and of the disk are not behind a history
pub record AreCounted (history : List Entry) (of_keeper of_disk : ℕ) : Type 0 where
  -- that of the state store is at least the last one that a reply told of it
  pub keeper : count_behind 0 history ≤ of_keeper
  -- that of the disk isn't 0 where a job ended with a failure of the disk
  pub disk : (entry : Entry) → Contains history entry → HasDiskRisen of_disk (note_of_end entry.event)
