-- The rules of the kept rows of a point, beside its rows and its jobs.
use Rattle.std.specs.Prelude.{◌≡◌, ◌≤◌, ℕ, true, List, ◌++◌, map, Some}
use Rattle.std.specs.List.{Contains}
use Rattle.mat_path.specs.Covering.{covering}
use Rattle.mat_path.specs.Names.{overlap}
use Rattle.mat_tree.specs.declared.flat.Flat.{Flat}
use Rattle.mat_model.specs.declared.book.Row.{Row}
use Rattle.mat_model.specs.Kept.{KeptRow}
use Rattle.mat_model.specs.WorkState.{Job, Lent, path_of_task}
use Rattle.model_laws.specs.KeptRules.{KeptAscend, path_of_kept}

-- the path of a job's task
abbrev pub path_of_job : Job → List (List ℕ)
path_of_job job = path_of_task job.task

-- a kept row is at a path and has a tree
pub record IsStoredOf (kept : KeptRow) (place : List (List ℕ)) (nodes : List Flat) : Type 0 where
  pub path : kept.path ≡ place
  pub tree : kept.tree ≡ nodes

-- the kept rows keep their rules beside some rows and jobs
pub record IsStored (rows : List Row) (jobs : List Job) (kept : List KeptRow) : Type 0 where
  -- they ascend strictly by path
  pub order : KeptAscend kept
  -- no path is covered twice by them and by the tasks of jobs
  pub once : (path : List (List ℕ)) → covering path (map path_of_kept kept ++ map path_of_job jobs) ≤ 1
  -- a kept row that overlaps a row that stands is at its path, and has its tree
  pub stands : (one : KeptRow) (row : Row) → Contains kept one → Contains rows row → row.stands ≡ true → overlap one.path row.path ≡ true →
      IsStoredOf one row.path row.tree
  -- a kept row that overlaps a part that a job reads is at the part's path, and has its tree
  pub lent : (one : KeptRow) (job : Job) (part : Lent) → Contains kept one → Contains jobs job → job.lent ≡ Some part →
      overlap one.path part.path ≡ true → IsStoredOf one part.path part.tree
