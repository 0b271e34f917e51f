-- What comes back as a job ends: the part of its task, by how it ended, and the part that it read.
use Rattle.std.specs.Prelude.{◌≡◌, ℕ, Bool, true, false, List, Some, None}
use Rattle.std.specs.List.{Contains}
use Rattle.mat_path.specs.Names.{is_prefix}
use Rattle.mat_tree.specs.Parts.{HasTree, Part, replaced}
use Rattle.mat_model.specs.declared.book.Row.{Row}
use Rattle.mat_model.specs.declared.entries.Entry.{Entry}
use Rattle.mat_model.specs.declared.entries.Outcome.{Outcome}
use Rattle.mat_model.specs.declared.entries.Outcome.TheVariants as outcome
use Rattle.mat_model.specs.declared.entries.Task.{Task}
use Rattle.mat_model.specs.declared.entries.Task.TheVariants as task
use Rattle.mat_model.specs.History.{Point, after}
use Rattle.mat_model.specs.WorkState.{Job, Lent}
use Rattle.model_laws.specs.StoredRules.{path_of_job}
use Rattle.region_port.specs.Calls.{Paths, paths_below, paths_of_both}
use Rattle.core_laws.specs.Whole.{Regions, with_part, with_rough_part}

-- ---- parts

-- the part of a make that made its row isn't rough, and has the tree of the row, if that is still one of some rows
pub record IsMadePart (rows : List Row) (place : List (List ℕ)) (stamp : ℕ) (inner : Part) (its : Paths) : Type 0 where
  pub settled : (path : List (List ℕ)) → is_prefix place path ≡ true → its path ≡ false
  pub tree : (row : Row) → Contains rows row → row.path ≡ place → row.stamp ≡ stamp → HasTree inner row.tree

-- that of a wipe that left nothing isn't rough, and has nothing
pub record IsWipedPart (place : List (List ℕ)) (inner : Part) (its : Paths) : Type 0 where
  pub settled : (path : List (List ℕ)) → is_prefix place path ≡ true → its path ≡ false
  pub node : (rel : List (List ℕ)) → inner rel ≡ None

-- the part of a task that ended so, beside some rows: that of one that failed may have anything, and be rough
abbrev pub IsEndedPart : Task → Outcome → List Row → Part → Paths → Type 0
IsEndedPart (task.Make path stamp) outcome.Made rows inner its = IsMadePart rows path stamp inner its
IsEndedPart (task.Wipe path) outcome.Wiped rows inner its = IsWipedPart path inner its
IsEndedPart begun out rows inner its = Unit {0}

-- a part that was read isn't rough, and has the tree that its row had when the job began
pub record IsReadPart (read : Lent) (inner : Part) (its : Paths) : Type 0 where
  pub settled : (path : List (List ℕ)) → is_prefix read.path path ≡ true → its path ≡ false
  pub tree : HasTree inner read.tree

-- so is the part that a job read, if it read one, where its stamp is spoken for
abbrev pub IsReadBack : (ℕ → Bool) → Job → Regions → Paths → Type 0
IsReadBack spoken job regions its =
    (read : Lent) → job.lent ≡ Some read → spoken read.stamp ≡ true → IsReadPart read (regions read.path) its

-- the stamp of the part that a job read, if it read one, is spoken for
abbrev pub IsReadSpoken : (ℕ → Bool) → Job → Type 0
IsReadSpoken spoken job = (read : Lent) → job.lent ≡ Some read → spoken read.stamp ≡ true

-- ---- the disk and the point

-- a disk once all that was out for a job has come back: the part of its task, and then the part that it read
abbrev pub with_job : Job → Part → Regions → Part → Part
with_job job inner regions content = with_part job.lent regions (replaced (path_of_job job) inner content)

-- and its rough paths with those of these parts
abbrev pub with_rough_job : Job → Paths → Paths → Paths → Paths
with_rough_job job its part rough = with_rough_part job.lent part (paths_of_both rough (paths_below (path_of_job job) its))

-- the point after an entry as long as what it records isn't stored
abbrev pub not_stored : Point → Entry → Point
not_stored point entry = record (after point entry) { kept = point.kept }
