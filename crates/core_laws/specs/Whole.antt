-- Kept rows that a restart finds: each has its tree on the disk, and nothing rough is near; and what a crash may leave of a disk.
use Rattle.std.specs.Prelude.{◌≡◌, ◌⊎◌, ◌++◌, ℕ, true, false, List, Option, Some, None}
use Rattle.std.specs.List.{Contains, list_any}
use Rattle.mat_path.specs.Names.{is_prefix, overlap}
use Rattle.mat_tree.specs.Parts.{HasTree, Part, below, replaced}
use Rattle.mat_model.specs.Kept.{KeptRow}
use Rattle.mat_model.specs.WorkState.{Job, Lent, is_above}
use Rattle.model_laws.specs.StoredRules.{IsStoredOf, path_of_job}
use Rattle.region_port.specs.Calls.{Paths, paths_below, paths_of_both}

-- ---- kept rows

-- a kept row is whole on a disk that lends some paths
pub record IsWholeRow (lent : List (List (List ℕ))) (content : Part) (rough : Paths) (kept : KeptRow) : Type 0 where
  -- no rough path overlaps its path
  pub settled : (path : List (List ℕ)) → overlap path kept.path ≡ true → rough path ≡ false
  -- no node is strictly above its path
  pub top : (path : List (List ℕ)) → is_above path kept.path ≡ true → content path ≡ None
  -- the disk has its tree at its path, unless this overlaps a loan
  pub tree : list_any (overlap kept.path) lent ≡ false → HasTree (below kept.path content) kept.tree

-- each of some kept rows is whole
abbrev pub IsWhole : List (List (List ℕ)) → List KeptRow → Part → Paths → Type 0
IsWhole lent kept content rough = (one : KeptRow) → Contains kept one → IsWholeRow lent content rough one

-- each of some kept rows is one of others, or is whole by itself
abbrev pub AreWholeOrKept : List (List (List ℕ)) → List KeptRow → List KeptRow → Part → Paths → Type 0
AreWholeOrKept lent kept left content rough =
    (one : KeptRow) → Contains left one → Contains kept one ⊎ IsWholeRow lent content rough one

-- a kept row has the path and the tree of one of others
pub record IsAgain (kept : List KeptRow) (one : KeptRow) : Type 0 where
  pub old : KeptRow
  pub among : Contains kept old
  pub same : IsStoredOf one old.path old.tree

-- so has each of some kept rows
abbrev pub AreAgain : List KeptRow → List KeptRow → Type 0
AreAgain kept left = (one : KeptRow) → Contains left one → IsAgain kept one

-- ---- images

-- what is in the region that is out at each path
abbrev pub Regions : Type 0
Regions = List (List ℕ) → Part

-- each part that a job reads has the tree that its row had when the job began
abbrev pub HaveLentTrees : List Job → Regions → Type 0
HaveLentTrees jobs regions = (job : Job) (part : Lent) → Contains jobs job → job.lent ≡ Some part → HasTree (regions part.path) part.tree

-- a path is neither at nor below the path of a job's task
abbrev pub IsOutsideTasks : List Job → List (List ℕ) → Type 0
IsOutsideTasks jobs path = (job : Job) → Contains jobs job → is_prefix (path_of_job job) path ≡ false

-- a path is neither at nor below a part that a job reads
abbrev pub IsOutsideParts : List Job → List (List ℕ) → Type 0
IsOutsideParts jobs path = (job : Job) (part : Lent) → Contains jobs job → job.lent ≡ Some part → is_prefix part.path path ≡ false

-- a crash spares a path: no rough path is at or above it, and it is neither at nor below the path of a job's task
pub record IsSpared (jobs : List Job) (rough : Paths) (path : List (List ℕ)) : Type 0 where
  pub settled : (above : List (List ℕ)) → is_prefix above path ≡ true → rough above ≡ false
  pub free : IsOutsideTasks jobs path

-- what a crash may leave of a disk with its rough paths, while jobs have their loans and no part that they read is rough: anything but at the paths
-- that it spares
pub record IsImage (jobs : List Job) (regions : Regions) (content : Part) (rough : Paths) (image : Part) (after : Paths) : Type 0 where
  -- there it has what the disk has
  pub disk : (path : List (List ℕ)) → IsSpared jobs rough path → IsOutsideParts jobs path → image path ≡ content path
  -- and at or below a part that a job reads what this has, back in its place
  pub lent : (job : Job) (part : Lent) (rel : List (List ℕ)) → Contains jobs job → job.lent ≡ Some part →
      IsSpared jobs rough (part.path ++ rel) → image (part.path ++ rel) ≡ regions part.path rel
  -- and nothing is rough any more
  pub settled : (path : List (List ℕ)) → after path ≡ false

-- ---- a disk to which all has come back

-- a disk, with its rough paths, as it is once all that was out for jobs has come back to another, where no part that they read is rough
pub record IsReturned (jobs : List Job) (regions : Regions) (content : Part) (rough : Paths) (full : Part) (all : Paths) : Type 0 where
  -- outside all loans it has what that disk has
  pub disk : (path : List (List ℕ)) → IsOutsideTasks jobs path → IsOutsideParts jobs path → full path ≡ content path
  -- at and below a part that a job reads it has this part
  pub lent : (job : Job) (part : Lent) (rel : List (List ℕ)) → Contains jobs job → job.lent ≡ Some part →
      full (part.path ++ rel) ≡ regions part.path rel
  -- outside the tasks' paths it is as rough
  pub as_rough : (path : List (List ℕ)) → IsOutsideTasks jobs path → all path ≡ rough path

-- a disk once the part that a job reads has come back, if it reads one
abbrev pub with_part : Option Lent → Regions → Part → Part
with_part None regions content = content
with_part (Some part) regions content = replaced part.path (regions part.path) content

-- and its rough paths with those of this part
abbrev pub with_rough_part : Option Lent → Paths → Paths → Paths
with_rough_part None its rough = rough
with_rough_part (Some part) its rough = paths_of_both rough (paths_below part.path its)

-- the part that a job reads, if it reads one, isn't rough
abbrev pub IsPartSettled : Option Lent → Paths → Type 0
IsPartSettled None its = Unit {0}
IsPartSettled (Some part) its = (path : List (List ℕ)) → is_prefix part.path path ≡ true → its path ≡ false

-- and has the tree that its row had when the job began
abbrev pub HasLentTree : Option Lent → Regions → Type 0
HasLentTree None regions = Unit {0}
HasLentTree (Some part) regions = HasTree (regions part.path) part.tree
