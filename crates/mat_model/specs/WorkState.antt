-- The work state: where the bytes of each row come from, which jobs run, which parts of the disk belong to no row, and what comes first.
use Rattle.mat_tree.specs.declared.flat.Flat.{Flat}
use Rattle.std.specs.Prelude.{ℕ, ◌==◌, ◌&&◌, ◌||◌, Bool, true, false, not, if◌then◌else◌, List, [], ◌∷◌, ◌++◌, length, drop, map, filter, find, Option, Some, None}
use Rattle.std.specs.List.{list_any}
use Rattle.std.specs.Option.{option_and_then, option_map, option_map_or, option_or}
use Rattle.mat_path.specs.Names.{is_prefix, overlap, same_names}
use Rattle.mat_model.specs.declared.answers.Reply.{Reply}
use Rattle.mat_model.specs.declared.answers.Reply.TheVariants as reply
use Rattle.mat_model.specs.declared.book.Book.{Book}
use Rattle.mat_model.specs.declared.book.Row.{Row}
use Rattle.mat_model.specs.declared.book.Ticket.{Ticket}
use Rattle.mat_model.specs.declared.entries.Outcome.{Outcome}
use Rattle.mat_model.specs.declared.entries.Outcome.TheVariants as outcome
use Rattle.mat_model.specs.declared.entries.Task.{Task}
use Rattle.mat_model.specs.declared.entries.Task.TheVariants as task
use Rattle.mat_model.specs.declared.requests.Asked.{Asked}
use Rattle.mat_model.specs.declared.requests.Asked.TheVariants as asked
use Rattle.mat_model.specs.declared.requests.CleanMode.TheVariants as mode
use Rattle.mat_model.specs.Rows.{comes_before, cover, is_at_path}
use Rattle.mat_model.specs.Tickets.{is_open, waits_for}
use Rattle.mat_model.specs.Work.{is_declared}

-- where the bytes of a row's files come from: the daemon holds them, the store has them, or another row's part is read, by that
-- row's path, the rest below it and its stamp; where that row is gone, the bytes come from where its own came from
pub data Way : Type 0 where
  held : Way
  store : Way
  copied : List (List ℕ) → List (List ℕ) → ℕ → Bool → Way

-- the way of the row with a stamp
pub record WayOf : Type 0 where
  pub stamp : ℕ
  pub way : Way

-- a row's part that a job reads, by the row's path and stamp, with the tree that the row had when the job began
pub record Lent : Type 0 where
  pub path : List (List ℕ)
  pub stamp : ℕ
  pub tree : List Flat

-- a job that runs: the history number of its begin, who began it, its task, and the part that it reads, if it reads one
pub record Job : Type 0 where
  pub number : ℕ
  pub caller : ℕ
  pub task : Task
  pub lent : Option Lent

-- a path whose part of the disk belongs to no row, and whether a clean asked for its removal
pub record Debris : Type 0 where
  pub path : List (List ℕ)
  pub condemned : Bool

-- the work state: dirty are the paths of rows whose last make failed, cleaned the stamps of rows that a clean removed
pub record WorkState : Type 0 where
  pub ways : List WayOf
  pub jobs : List Job
  pub dirty : List (List (List ℕ))
  pub debris : List Debris
  pub cleaned : List ℕ

-- ---- ways

-- the way of a row with a stamp, the newest first; without one it is the store
abbrev pub is_way_of : ℕ → WayOf → Bool
is_way_of stamp entry = entry.stamp == stamp

abbrev pub way_within : WayOf → Way
way_within entry = entry.way

abbrev pub way_of : ℕ → List WayOf → Way
way_of stamp ways = option_map_or way_within (find (is_way_of stamp) ways) store

-- whether the bytes of a row are held, by the row or by the one that it was copied from
abbrev pub is_held_way : Way → Bool
is_held_way held = true
is_held_way store = false
is_held_way (copied source rest stamp holds) = holds

-- the way of a copy of what a row has at a path below it
abbrev pub copied_from : List (List ℕ) → List WayOf → Row → Way
copied_from source ways row = copied row.path (drop (length row.path) source) row.stamp (is_held_way (way_of row.stamp ways))

-- the way of a row that a request declares
abbrev pub way_declared : Asked → List Row → List WayOf → Way
way_declared (asked.Write command path sum) rows ways = held
way_declared (asked.Copy command path source) rows ways = option_map_or (copied_from source ways) (cover rows source) store
way_declared _ rows ways = store

-- whether a row that doesn't stand is at a path
abbrev pub lies_at : List (List ℕ) → Row → Bool
lies_at path row = is_at_path path row && not row.stands

-- whether a request writes at a path where a row lies that doesn't stand
abbrev pub writes_lying : Asked → List Row → Bool
writes_lying (asked.Write command path sum) rows = list_any (lies_at path) rows
writes_lying _ rows = false

-- the ways after a request with its reply: a declared row gets its own, and a row that is kept by a write takes the bytes unless it stands
abbrev pub ways_after : Asked → Reply → List Row → List WayOf → List WayOf
ways_after request (reply.Declared stamp) rows ways = record { stamp = stamp; way = way_declared request rows ways } ∷ ways
ways_after request (reply.Kept stamp) rows ways = if writes_lying request rows then record { stamp = stamp; way = held } ∷ ways else ways
ways_after request _ rows ways = ways

-- ---- loans

-- the path of a task
abbrev pub path_of_task : Task → List (List ℕ)
path_of_task (task.Make path stamp) = path
path_of_task (task.Wipe path) = path

-- whether a part that a job reads overlaps a path
abbrev pub lends_at : List (List ℕ) → Lent → Bool
lends_at path lent = overlap lent.path path

-- whether a job has a loan that overlaps a path
abbrev pub has_loan : List (List ℕ) → Job → Bool
has_loan path job = overlap (path_of_task job.task) path || option_map_or (lends_at path) job.lent false

-- whether a loan overlaps a path
abbrev pub is_lent : List (List ℕ) → List Job → Bool
is_lent path jobs = list_any (has_loan path) jobs

-- the part that a way reads, where the row that it was copied from still has its stamp and stands
abbrev pub stands_as : List (List ℕ) → ℕ → Row → Bool
stands_as path stamp row = is_declared path stamp row && row.stands

abbrev pub lent_of : List (List ℕ) → ℕ → Row → Lent
lent_of path stamp row = record { path = path; stamp = stamp; tree = row.tree }

abbrev pub lent_by : Way → List Row → Option Lent
lent_by held rows = None
lent_by store rows = None
lent_by (copied source rest stamp holds) rows = option_map (lent_of source stamp) (find (stands_as source stamp) rows)

-- the part that a task reads
abbrev pub lent_for : Task → List Row → List WayOf → Option Lent
lent_for (task.Make path stamp) rows ways = lent_by (way_of stamp ways) rows
lent_for (task.Wipe path) rows ways = None

-- ---- debris

-- debris in its place, before the first that comes after it
abbrev pub put_debris : Debris → List Debris → List Debris
put_debris new [] = new ∷ []
put_debris new (debris ∷ rest) = if comes_before new.path debris.path then new ∷ debris ∷ rest else debris ∷ put_debris new rest

-- debris with or without its mark, if it is at a path
abbrev pub marked : Bool → List (List ℕ) → Debris → Debris
marked condemned path debris = if same_names debris.path path then record debris { condemned = condemned } else debris

-- whether debris is not at a path, and not at or below it
abbrev pub is_elsewhere : List (List ℕ) → Debris → Bool
is_elsewhere path debris = not (same_names debris.path path)

abbrev pub is_not_below : List (List ℕ) → Debris → Bool
is_not_below path debris = not (is_prefix path debris.path)

-- whether debris would be condemned by a clean of all: no loan overlaps it, and it isn't condemned yet
abbrev pub is_stray : List Job → Debris → Bool
is_stray jobs debris = not debris.condemned && not (is_lent debris.path jobs)

abbrev pub path_of_debris : Debris → List (List ℕ)
path_of_debris debris = debris.path

-- whether debris is condemned
abbrev pub is_condemned : Debris → Bool
is_condemned debris = debris.condemned

-- the strays of a work state, in path order
abbrev pub strays : WorkState → List (List (List ℕ))
strays work = map path_of_debris (filter (is_stray work.jobs) work.debris)

-- debris after a clean of all
abbrev pub condemn : List Job → Debris → Debris
condemn jobs debris = if is_stray jobs debris then record debris { condemned = true } else debris

-- ---- removed rows

-- whether a row has a stamp
abbrev pub has_stamp : ℕ → Row → Bool
has_stamp stamp row = row.stamp == stamp

-- the rows that are not there any more, by their stamps
abbrev pub is_gone : List Row → Row → Bool
is_gone left row = not (list_any (has_stamp row.stamp) left)

abbrev pub removed_rows : List Row → List Row → List Row
removed_rows rows left = filter (is_gone left) rows

-- whether a path is dirty
abbrev pub is_dirty : List (List (List ℕ)) → List (List ℕ) → Bool
is_dirty dirty path = list_any (same_names path) dirty

-- whether the part of a removed row may not be empty, and no loan overlaps it
abbrev pub leaves_debris : WorkState → Row → Bool
leaves_debris work row = (row.stands || is_dirty work.dirty row.path) && not (is_lent row.path work.jobs)

-- debris and that of removed rows, all with this mark
abbrev pub add_debris : Bool → List Row → List Debris → List Debris
add_debris condemned [] debris = debris
add_debris condemned (row ∷ rows) debris =
    add_debris condemned rows (put_debris (record { path = row.path; condemned = condemned }) debris)

-- whether a path isn't that of one of some rows
abbrev pub is_kept_dirty : List Row → List (List ℕ) → Bool
is_kept_dirty removed path = not (list_any (is_at_path path) removed)

abbrev pub stamp_of : Row → ℕ
stamp_of row = row.stamp

-- the work state without some rows, which a clean removed or another request
abbrev pub without_removed : Bool → List Row → WorkState → WorkState
without_removed by_clean removed work = record work {
  dirty = filter (is_kept_dirty removed) work.dirty;
  debris = add_debris by_clean (filter (leaves_debris work) removed) work.debris;
  cleaned = if by_clean then map stamp_of removed ++ work.cleaned else work.cleaned;
}

-- whether a request was answered as a clean that removes
abbrev pub is_cleaning : Reply → Bool
is_cleaning (reply.Cleaned dry rows strays) = not dry
is_cleaning _ = false

-- whether a request is a clean of all
abbrev pub cleans_all : Asked → Bool
cleans_all (asked.Clean cutoff mode.All) = true
cleans_all _ = false

-- the work state after a clean of all condemned its strays
abbrev pub condemned_all : WorkState → WorkState
condemned_all work = record work { debris = map (condemn work.jobs) work.debris }

-- the work state after a request with its reply, which found these rows and left those
abbrev pub work_asked : Asked → Reply → List Row → List Row → WorkState → WorkState
work_asked request said rows left work =
    let condemned = if cleans_all request && is_cleaning said then condemned_all work else work in
    record (without_removed (is_cleaning said) (removed_rows rows left) condemned) {
      ways = ways_after request said rows work.ways;
    }

-- ---- work

-- the work state after a job began
abbrev pub started : ℕ → ℕ → Task → List Row → WorkState → WorkState
started number caller (task.Make path stamp) rows work = record work {
  jobs = work.jobs ++ record {
    number = number;
    caller = caller;
    task = task.Make path stamp;
    lent = lent_for (task.Make path stamp) rows work.ways;
  } ∷ [];
  dirty = filter (λ (other : List (List ℕ)). not (same_names other path)) work.dirty;
  debris = filter (is_not_below path) work.debris;
}
started number caller (task.Wipe path) rows work = record work {
  jobs = work.jobs ++ record { number = number; caller = caller; task = task.Wipe path; lent = None } ∷ [];
}

-- the work state after a job could not begin: a wipe's path is no longer condemned
abbrev pub refused : Task → WorkState → WorkState
refused (task.Make path stamp) work = work
refused (task.Wipe path) work = record work { debris = map (marked false path) work.debris }

-- whether a job is another one
abbrev pub is_job : ℕ → Job → Bool
is_job number job = job.number == number

abbrev pub is_other_job : ℕ → Job → Bool
is_other_job number job = not (is_job number job)

-- the job of a number that runs
abbrev pub running : ℕ → WorkState → Option Job
running number work = find (is_job number) work.jobs

-- the work state after a make of a path ended with a reply: its row is dirty where it failed, and its part is debris where its row was replaced
abbrev pub made_work : List (List ℕ) → Outcome → Reply → WorkState → WorkState
made_work path out reply.Stale work = record work { debris = put_debris (record { path = path; condemned = false }) work.debris }
made_work path outcome.Made said work = work
made_work path out said work = record work { dirty = path ∷ work.dirty }

-- the work state after a wipe of a path ended
abbrev pub wiped_work : List (List ℕ) → Outcome → WorkState → WorkState
wiped_work path outcome.Wiped work = record work { debris = filter (is_elsewhere path) work.debris }
wiped_work path out work = record work { debris = map (marked false path) work.debris }

abbrev pub ended_work : Task → Outcome → Reply → WorkState → WorkState
ended_work (task.Make path stamp) out said work = made_work path out said work
ended_work (task.Wipe path) out said work = wiped_work path out work

-- the work state after a part came back that a job read: it is debris where its row is gone, condemned where a clean removed that
abbrev pub returned : Option Lent → List Row → WorkState → WorkState
returned None rows work = work
returned (Some lent) rows work =
    if list_any (has_stamp lent.stamp) rows then work
    else record work {
      debris = put_debris (record { path = lent.path; condemned = list_any (λ (stamp : ℕ). stamp == lent.stamp) work.cleaned }) work.debris;
    }

-- the work state after the job of a number ended with a reply, which left these rows
abbrev pub ended : ℕ → Outcome → Reply → List Row → WorkState → Option Job → WorkState
ended number out said rows work None = work
ended number out said rows work (Some job) =
    returned job.lent rows (ended_work job.task out said (record work { jobs = filter (is_other_job number) work.jobs }))

-- ---- what comes first

-- whether a path is strictly above another one
abbrev pub is_above : List (List ℕ) → List (List ℕ) → Bool
is_above path other = is_prefix path other && not (same_names path other)

-- whether a row has an open ticket
abbrev pub is_wanted : List Ticket → Row → Bool
is_wanted tickets row = list_any (waits_for row) tickets

-- whether a path is strictly above a row that has an open ticket
abbrev pub is_above_wanted : List (List ℕ) → List Ticket → Row → Bool
is_above_wanted path tickets row = is_above path row.path && is_wanted tickets row

-- whether a wipe of debris may begin: no loan overlaps it, and it is condemned or strictly above a row with an open ticket
abbrev pub may_wipe : WorkState → Book → Debris → Bool
may_wipe work book debris =
    not (is_lent debris.path work.jobs) && (debris.condemned || list_any (is_above_wanted debris.path book.tickets) book.rows)

abbrev pub wipe_of : Debris → Task
wipe_of debris = task.Wipe debris.path

-- the wipe that comes first, in path order
abbrev pub first_wipe : WorkState → Book → Option Task
first_wipe work book = option_map wipe_of (find (may_wipe work book) work.debris)

-- whether debris is strictly above a path
abbrev pub is_debris_above : List (List ℕ) → Debris → Bool
is_debris_above path debris = is_above debris.path path

-- whether a part that would be read is lent
abbrev pub is_lent_part : List Job → Lent → Bool
is_lent_part jobs lent = is_lent lent.path jobs

-- whether something keeps the make of a row from beginning: it stands, a loan overlaps it, debris is strictly above, or its source is lent
abbrev pub is_kept_back : WorkState → List Row → Row → Bool
is_kept_back work rows row =
    row.stands || is_lent row.path work.jobs || list_any (is_debris_above row.path) work.debris
    || option_map_or (is_lent_part work.jobs) (lent_by (way_of row.stamp work.ways) rows) false

-- the make of a row, if it may begin
abbrev pub make_of : WorkState → List Row → Row → Option Task
make_of work rows row = if is_kept_back work rows row then None else Some (task.Make row.path row.stamp)

-- the make that a ticket waits for, if it may begin
abbrev pub task_of : WorkState → List Row → Ticket → Option Task
task_of work rows ticket = if is_open ticket then option_and_then (make_of work rows) (cover rows ticket.asked) else None

-- the make that comes first: the one with the lowest ticket
abbrev pub first_make : WorkState → List Row → List Ticket → Option Task
first_make work rows [] = None
first_make work rows (ticket ∷ tickets) = option_or (task_of work rows ticket) (first_make work rows tickets)

-- the task that comes first: a wipe before any make
abbrev pub first_task : WorkState → Book → Option Task
first_task work book = option_or (first_wipe work book) (first_make work book.rows book.tickets)

-- the work state at an opening with some debris
abbrev pub idle_work : List Debris → WorkState
idle_work debris = record { ways = []; jobs = []; dirty = []; debris = debris; cleaned = [] }
