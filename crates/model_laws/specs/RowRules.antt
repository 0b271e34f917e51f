-- What the laws of rows speak of: the row that an entry declares, the row that one was before an entry, and the end of a job that made it.
use Rattle.std.specs.Prelude.{◌≡◌, ◌≢◌, ◌⊎◌, ◌<◌, ℕ, Bool, true, false, List, Option, Some, None}
use Rattle.std.specs.List.{All, AllPairs, Contains, list_all, list_any}
use Rattle.mat_tree.specs.declared.flat.Flat.{Flat}
use Rattle.mat_tree.specs.Trees.{is_placed}
use Rattle.mat_model.specs.declared.answers.Recorded.{Recorded}
use Rattle.mat_model.specs.declared.answers.Reply.{Reply}
use Rattle.mat_model.specs.declared.answers.Reply.TheVariants as reply
use Rattle.mat_model.specs.declared.book.Row.{Row}
use Rattle.mat_model.specs.declared.entries.Entry.{Entry}
use Rattle.mat_model.specs.declared.entries.Event.{Event}
use Rattle.mat_model.specs.declared.entries.Event.TheVariants as event
use Rattle.mat_model.specs.declared.entries.Outcome.TheVariants as outcome
use Rattle.mat_model.specs.declared.entries.Task.TheVariants as task
use Rattle.mat_model.specs.declared.requests.Asked.{Asked}
use Rattle.mat_model.specs.declared.requests.Asked.TheVariants as asked
use Rattle.mat_model.specs.Declarations.{declared_at, written_tree}
use Rattle.mat_model.specs.Gate.{Served}
use Rattle.mat_model.specs.History.{Point, answer, next_number}
use Rattle.mat_model.specs.WorkState.{Job, has_stamp, running}
use Rattle.model_laws.specs.Laws.{declares}

-- what the definitions serve for an entry at a point
abbrev pub served_at : Point → Entry → Served
served_at point entry = answer point entry.now entry.event entry.reply

-- the tree that a request declares, where the book has these rows
abbrev pub tree_declared : Asked → List Row → Option (List Flat)
tree_declared (asked.Enter command state soft refuse) rows = None
tree_declared (asked.Leave command) rows = None
tree_declared (asked.Write command path sum) rows = Some (written_tree sum)
tree_declared (asked.Declare command path tree) rows = Some tree
tree_declared (asked.Copy command path source) rows = declared_at rows source
tree_declared (asked.Matches command path sum) rows = None
tree_declared (asked.Has command path) rows = None
tree_declared (asked.Ensure command path) rows = None
tree_declared (asked.Invalidate command path) rows = None
tree_declared (asked.Clean cutoff mode) rows = None
tree_declared asked.Flush rows = None

-- whether each node of a tree that is copied is at a path below where it is copied to; other requests don't ask that here
abbrev pub is_copy_placed : Asked → List Flat → Bool
is_copy_placed (asked.Enter command state soft refuse) tree = true
is_copy_placed (asked.Leave command) tree = true
is_copy_placed (asked.Write command path sum) tree = true
is_copy_placed (asked.Declare command path declared) tree = true
is_copy_placed (asked.Copy command path source) tree = list_all (is_placed path) tree
is_copy_placed (asked.Matches command path sum) tree = true
is_copy_placed (asked.Has command path) tree = true
is_copy_placed (asked.Ensure command path) tree = true
is_copy_placed (asked.Invalidate command path) tree = true
is_copy_placed (asked.Clean cutoff mode) tree = true
is_copy_placed asked.Flush tree = true

-- a row is the one that an event at a point declares, which is then the reply: its stamp is the next history number, and it doesn't stand
pub record IsDeclaredBy (point : Point) (what : Event) (given : Reply) (row : Row) : Type 0 where
  pub request : Asked
  pub asks : what ≡ event.Asked request
  pub said : given ≡ reply.Declared (next_number point)
  pub path : declares request ≡ Some row.path
  pub tree : tree_declared request point.book.rows ≡ Some row.tree
  pub placed : is_copy_placed request row.tree ≡ true
  pub stamp : row.stamp ≡ next_number point
  pub lies : row.stands ≡ false

-- a row stands by an event that ends the make of exactly its path and its stamp, and made it
pub record IsMadeBy (point : Point) (what : Event) (given : Reply) (row : Row) : Type 0 where
  pub number : ℕ
  pub job : Job
  pub how : Recorded
  pub ends : what ≡ event.Done number outcome.Made
  pub runs : running number point.work ≡ Some job
  pub task : job.task ≡ task.Make row.path row.stamp
  pub said : given ≡ reply.Fresh how
  pub stands : row.stands ≡ true

-- two rows have the same path, tree, sum and stamp
pub record IsSameRow (old new : Row) : Type 0 where
  pub path : new.path ≡ old.path
  pub tree : new.tree ≡ old.tree
  pub sum : new.sum ≡ old.sum
  pub stamp : new.stamp ≡ old.stamp

-- a row was there before an event: it stands as it did, or by the end of its make
pub record WasThere (point : Point) (what : Event) (given : Reply) (row : Row) : Type 0 where
  pub old : Row
  pub among : Contains point.book.rows old
  pub same : IsSameRow old row
  pub stands : (row.stands ≡ old.stands) ⊎ IsMadeBy point what given row

-- what a row is after an entry: the one that it declares, or one that was there
abbrev pub RowStep : Point → Entry → Row → Type 0
RowStep point entry row =
    IsDeclaredBy point entry.event (served_at point entry).reply row ⊎ WasThere point entry.event (served_at point entry).reply row

-- two rows differ in their stamps
abbrev pub IsOtherStamp : Row → Row → Type 0
IsOtherStamp row other = row.stamp ≢ other.stamp

-- the stamps of some rows differ pairwise, and are below the number of the next entry
pub record AreStampedBelow (next : ℕ) (rows : List Row) : Type 0 where
  pub differ : AllPairs IsOtherStamp rows
  pub below : All (λ (row : Row). row.stamp < next) rows

-- no row has a stamp
abbrev pub IsNoStamp : List Row → ℕ → Type 0
IsNoStamp rows stamp = list_any (has_stamp stamp) rows ≡ false
