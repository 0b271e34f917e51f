-- The rules of a work state: what is true of its jobs, its dirty paths, its debris and its ways, beside the rows, where work comes in order.
use Rattle.std.specs.Prelude.{◌≡◌, ◌<◌, ◌≤◌, ℕ, ◌==◌, ◌||◌, Bool, true, false, not, if◌then◌else◌, List, [], ◌∷◌, ◌++◌, map, filter, Option, Some, None}
use Rattle.std.specs.List.{Contains, flat_map, list_all, list_any}
use Rattle.std.specs.Option.{option_map_or}
use Rattle.mat_digest.specs.declared.digest.Digest.{Digest}
use Rattle.mat_path.specs.Covering.{covering}
use Rattle.mat_tree.specs.declared.flat.Flat.{Flat}
use Rattle.mat_tree.specs.Trees.{ascends_by, file_tree, is_placed}
use Rattle.mat_model.specs.declared.book.Row.{Row}
use Rattle.mat_model.specs.declared.entries.Task.{Task}
use Rattle.mat_model.specs.declared.entries.Task.TheVariants as task
use Rattle.mat_model.specs.Books.{are_ascending}
use Rattle.mat_model.specs.Kept.{KeptRow}
use Rattle.mat_model.specs.Openings.{is_row_placed, path_of_row}
use Rattle.mat_model.specs.Rows.{are_apart}
use Rattle.mat_model.specs.WorkState.{Job, Lent, Way, WorkState, copied, held, is_dirty, is_held_way, lies_at, path_of_debris, path_of_task, store, way_of}
use Rattle.model_laws.specs.RowRules.{AreStampedBelow}

-- ---- whose the parts of the disk are

-- whether a part that is lent is that of the row of a stamp
abbrev pub reads_stamp : ℕ → Lent → Bool
reads_stamp stamp lent = lent.stamp == stamp

-- whether a job reads the row of a stamp
abbrev pub reads : ℕ → Job → Bool
reads stamp job = option_map_or (reads_stamp stamp) job.lent false

-- whether one of some jobs does
abbrev pub are_reading : List Job → ℕ → Bool
are_reading jobs stamp = list_any (reads stamp) jobs

-- whether the part at a row's path is the row's own, where a test tells which stamps are read: it stands and isn't read, or its make failed
abbrev pub owns_by : (ℕ → Bool) → List (List (List ℕ)) → Row → Bool
owns_by is_read dirty row = if row.stands then not (is_read row.stamp) else is_dirty dirty row.path

abbrev pub owns : WorkState → Row → Bool
owns work row = owns_by (are_reading work.jobs) work.dirty row

-- the path that a task claims, if it is a make: what a wipe removes is claimed as debris
abbrev pub claimed_by_task : Task → List (List (List ℕ))
claimed_by_task (task.Make path stamp) = path ∷ []
claimed_by_task (task.Wipe path) = []

-- the path of a part that is lent, if one is
abbrev pub claimed_by_part : Option Lent → List (List (List ℕ))
claimed_by_part None = []
claimed_by_part (Some lent) = lent.path ∷ []

-- the paths that a job claims
abbrev pub claimed_by_job : Job → List (List (List ℕ))
claimed_by_job job = claimed_by_task job.task ++ claimed_by_part job.lent

-- the paths that some jobs claim
abbrev pub claimed_by_jobs : List Job → List (List (List ℕ))
claimed_by_jobs jobs = flat_map claimed_by_job jobs

-- all paths that are claimed: those of rows whose part is their own, of debris, of makes and of parts that are lent
abbrev pub claims : List Row → WorkState → List (List (List ℕ))
claims rows work = map path_of_row (filter (owns work) rows) ++ map path_of_debris work.debris ++ claimed_by_jobs work.jobs

-- ---- jobs and rows

-- the history number of a job's begin
abbrev pub number_of_job : Job → ℕ
number_of_job job = job.number

-- the stamp of a task, and that of a part that is lent, is below a number
abbrev pub IsTaskBelow : ℕ → Task → Type 0
IsTaskBelow next (task.Make path stamp) = stamp < next
IsTaskBelow next (task.Wipe path) = Unit {0}

abbrev pub IsPartBelow : ℕ → Option Lent → Type 0
IsPartBelow next None = Unit {0}
IsPartBelow next (Some lent) = lent.stamp < next

-- a task is a wipe of a path that is debris
abbrev pub IsWiping : List (List (List ℕ)) → Task → Type 0
IsWiping debris (task.Make path stamp) = Unit {0}
IsWiping debris (task.Wipe path) = Contains debris path

-- a row with the stamp of a make is at the path of the make, and doesn't stand
abbrev pub IsMaking : List Row → Task → Type 0
IsMaking rows (task.Make path stamp) =
    (row : Row) → Contains rows row → row.stamp ≡ stamp → (row.path ≡ path) × (row.stands ≡ false)
IsMaking rows (task.Wipe path) = Unit {0}

-- a row is the one that a part was lent from: it is at the part's path, stands, and has its tree
pub record IsLender (lent : Lent) (row : Row) : Type 0 where
  pub path : row.path ≡ lent.path
  pub stands : row.stands ≡ true
  pub tree : row.tree ≡ lent.tree

-- a row with the stamp of a part that is lent is the one that it was lent from
abbrev pub IsLentBy : List Row → Option Lent → Type 0
IsLentBy rows None = Unit {0}
IsLentBy rows (Some lent) = (row : Row) → Contains rows row → row.stamp ≡ lent.stamp → IsLender lent row

-- a job that runs keeps its rules beside some rows and debris at some paths, where the next entry has this number
pub record IsJob (next : ℕ) (rows : List Row) (debris : List (List (List ℕ))) (job : Job) : Type 0 where
  -- its number is below that of the next entry
  pub numbered : job.number < next
  -- so are the stamp of its make and that of the part that it reads, whether their rows are still there or not
  pub making_below : IsTaskBelow next job.task
  pub lent_below : IsPartBelow next job.lent
  -- a path that it wipes is debris
  pub wiping : IsWiping debris job.task
  -- a row with the stamp of its make is at the path of the make, and doesn't stand
  pub making : IsMaking rows job.task
  -- a row with the stamp of the part that it reads is the one that this was lent from
  pub lent : IsLentBy rows job.lent

-- a work state keeps its rules beside some rows, where the next entry has this number
pub record IsWork (next : ℕ) (rows : List Row) (work : WorkState) : Type 0 where
  -- the rows are in strict order of path, and no two of them overlap
  pub apart : are_apart rows ≡ true
  -- the stamps of the rows differ pairwise, and are below the number of the next entry
  pub stamped : AreStampedBelow next rows
  -- the numbers of the jobs ascend strictly
  pub numbers : are_ascending (map number_of_job work.jobs) ≡ true
  -- each job keeps its own rules
  pub jobs : (job : Job) → Contains work.jobs job → IsJob next rows (map path_of_debris work.debris) job
  -- no two jobs wipe one path
  pub wipes : (job other : Job) → Contains work.jobs job → Contains work.jobs other → (path : List (List ℕ)) →
      job.task ≡ task.Wipe path → other.task ≡ task.Wipe path → job ≡ other
  -- each dirty path is that of a row that doesn't stand
  pub dirty : (path : List (List ℕ)) → Contains work.dirty path → list_any (lies_at path) rows ≡ true
  -- debris ascends strictly by path
  pub order : ascends_by path_of_debris work.debris ≡ true
  -- no path is claimed twice
  pub claims : (path : List (List ℕ)) → covering path (claims rows work) ≤ 1

-- ---- trees and ways

-- a tree is that of a file that isn't executable
abbrev pub IsPlain : List Flat → Type 0
IsPlain tree = (digest : Digest) × (tree ≡ file_tree digest false)

-- where a way holds the bytes of a row, the row's tree is a plain file's
abbrev pub IsHeldPlain : Way → List Flat → Type 0
IsHeldPlain way tree = is_held_way way ≡ true → IsPlain tree

-- where a way reads another row's part, each node of the tree lies at a path there
abbrev pub IsReadAtPaths : Way → List Flat → Type 0
IsReadAtPaths held tree = Unit {0}
IsReadAtPaths store tree = Unit {0}
IsReadAtPaths (copied source rest stamp holds) tree = list_all (is_placed (source ++ rest)) tree ≡ true

-- each node of the tree of a part that is lent, if one is, is at a path
abbrev pub IsPartPlaced : Option Lent → Type 0
IsPartPlaced None = Unit {0}
IsPartPlaced (Some lent) = list_all (is_placed lent.path) lent.tree ≡ true

-- the trees of some rows, of the parts that jobs read and of kept rows are at paths, and so is what ways read
pub record IsPlaced (rows : List Row) (work : WorkState) (kept : List KeptRow) : Type 0 where
  -- each node of a row's tree is at a path
  pub reach : (row : Row) → Contains rows row → is_row_placed row ≡ true
  -- and each node of a part's that a job reads
  pub lent : (job : Job) → Contains work.jobs job → IsPartPlaced job.lent
  -- and each node of a kept row's tree
  pub stored : (one : KeptRow) → Contains kept one → list_all (is_placed one.path) one.tree ≡ true
  -- a row whose bytes are held is a plain file
  pub held : (row : Row) → Contains rows row → IsHeldPlain (way_of row.stamp work.ways) row.tree
  -- each node of a copied row's tree is at a path below where it was copied from
  pub copied : (row : Row) → Contains rows row → IsReadAtPaths (way_of row.stamp work.ways) row.tree

-- ---- loans

-- the paths that are out for a job: that of its task, and that of the part that it reads
abbrev pub loans_of : Job → List (List (List ℕ))
loans_of job = path_of_task job.task ∷ claimed_by_part job.lent

-- the paths that are out for some jobs
abbrev pub loans : List Job → List (List (List ℕ))
loans jobs = flat_map loans_of jobs

-- a path is that of the part that a job reads of a row
pub record IsReadOf (row : Row) (job : Job) (loan : List (List ℕ)) : Type 0 where
  pub part : Lent
  pub lent : job.lent ≡ Some part
  pub path : loan ≡ row.path
  pub stamp : part.stamp ≡ row.stamp

-- a row stands, or what is at its path is dirty
abbrev pub is_on_disk : WorkState → Row → Bool
is_on_disk work row = row.stands || is_dirty work.dirty row.path
