-- What the state store has: the rows that a restart would count as standing.
use Rattle.std.specs.Prelude.{ℕ, ◌==◌, nat_lt, ◌&&◌, Bool, true, false, not, if◌then◌else◌, List, [], ◌∷◌, length, filter}
use Rattle.std.specs.List.{list_any}
use Rattle.mat_path.specs.Names.{overlap, same_names}
use Rattle.mat_tree.specs.declared.flat.Flat.{Flat}
use Rattle.mat_model.specs.declared.answers.Gone.{Gone}
use Rattle.mat_model.specs.declared.answers.Recorded.TheVariants as recorded
use Rattle.mat_model.specs.declared.answers.Reply.{Reply}
use Rattle.mat_model.specs.declared.answers.Reply.TheVariants as reply
use Rattle.mat_model.specs.declared.book.Book.{Book}
use Rattle.mat_model.specs.declared.book.Row.{Row}
use Rattle.mat_model.specs.declared.entries.Task.{Task}
use Rattle.mat_model.specs.declared.entries.Task.TheVariants as task
use Rattle.mat_model.specs.declared.requests.Asked.{Asked}
use Rattle.mat_model.specs.declared.requests.Asked.TheVariants as asked
use Rattle.mat_model.specs.declared.requests.CleanMode.TheVariants as mode
use Rattle.mat_model.specs.Cleaning.{stale}
use Rattle.mat_model.specs.Gate.{is_live}
use Rattle.mat_model.specs.Rows.{comes_before, is_at_path}
use Rattle.mat_model.specs.Work.{is_declared}
use Rattle.mat_model.specs.WorkState.{path_of_task}

-- a row as it was stored: its path, its tree and its last use then, and whether its bytes are of the version that is written now
pub record KeptRow : Type 0 where
  pub path : List (List ℕ)
  pub tree : List Flat
  pub last : ℕ
  pub new : Bool

-- a row as it is stored, in the version that is written now or in the first one
abbrev pub kept_as : Bool → Row → KeptRow
kept_as new row = record { path = row.path; tree = row.tree; last = row.last; new = new }

abbrev pub kept_row : Row → KeptRow
kept_row row = kept_as true row

-- a stored row in its place in path order, in the place of the one at its path
abbrev pub put_kept : KeptRow → List KeptRow → List KeptRow
put_kept new [] = new ∷ []
put_kept new (row ∷ rows) =
    if same_names new.path row.path then new ∷ rows
    else if comes_before new.path row.path then new ∷ row ∷ rows
    else row ∷ put_kept new rows

-- some rows are stored
abbrev pub store_rows : List Row → List KeptRow → List KeptRow
store_rows [] kept = kept
store_rows (row ∷ rows) kept = store_rows rows (put_kept (kept_row row) kept)

-- whether a stored row overlaps a path, and whether it doesn't
abbrev pub overlaps_kept : List (List ℕ) → KeptRow → Bool
overlaps_kept path row = overlap row.path path

abbrev pub is_kept_clear : List (List ℕ) → KeptRow → Bool
is_kept_clear path row = not (overlaps_kept path row)

-- whether a row is among those that a clean lists
abbrev pub is_listed : List Gone → KeptRow → Bool
is_listed gone row = list_any (λ (one : Gone). same_names one.path row.path) gone

abbrev pub is_unlisted : List Gone → KeptRow → Bool
is_unlisted gone row = not (is_listed gone row)

-- whether a row is stored with its last use, in the version that is written now
abbrev pub is_stored_as : Row → KeptRow → Bool
is_stored_as row kept = same_names kept.path row.path && (kept.last == row.last) && kept.new

-- whether a row is due: it stands, and isn't stored so
abbrev pub is_due : List KeptRow → Row → Bool
is_due kept row = row.stands && not (list_any (is_stored_as row) kept)

-- how many rows are due
abbrev pub due : Book → List KeptRow → ℕ
due book kept = length (filter (is_due kept) book.rows)

-- whether a stored row is at the path of one of some rows
abbrev pub is_kept_of : List Row → KeptRow → Bool
is_kept_of rows kept = list_any (is_at_path kept.path) rows

-- whether a request has something to remove from the store, or to put into it, so that the store's failure may be its answer;
-- a removal for a command that isn't live has nothing, since it is refused
abbrev pub may_fail : Asked → Book → List KeptRow → Bool
may_fail (asked.Invalidate command path) book kept = list_any (overlaps_kept path) kept && is_live command book
may_fail (asked.Clean cutoff mode.Real) book kept = list_any (is_kept_of (stale cutoff book)) kept
may_fail (asked.Clean cutoff mode.All) book kept = list_any (is_kept_of (stale cutoff book)) kept
may_fail asked.Flush book kept = nat_lt 0 (due book kept)
may_fail _ book kept = false

-- what is stored after a request with its reply, where these are the book's rows
abbrev pub kept_asked : Asked → Reply → List Row → List KeptRow → List KeptRow
kept_asked (asked.Invalidate command path) (reply.Invalid count) rows kept = filter (is_kept_clear path) kept
kept_asked request (reply.Cleaned false gone strays) rows kept = filter (is_unlisted gone) kept
kept_asked request (reply.Flushed count) rows kept = store_rows (filter (is_due kept) rows) kept
kept_asked _ _ rows kept = kept

-- what is stored after a job began
abbrev pub kept_begun : Task → List KeptRow → List KeptRow
kept_begun begun kept = filter (is_kept_clear (path_of_task begun)) kept

-- what is stored after a job ended with a reply: the row that it made, where the store took it
abbrev pub kept_done : Task → Reply → List Row → List KeptRow → List KeptRow
kept_done (task.Make path stamp) (reply.Fresh recorded.Kept) rows kept = store_rows (filter (is_declared path stamp) rows) kept
kept_done _ _ rows kept = kept
