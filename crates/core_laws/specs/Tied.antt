-- The rows whose parts the disk has: each with its tree, where its stamp is spoken for.
use Rattle.std.specs.Prelude.{◌≡◌, ◌&&◌, ◌⊎◌, ℕ, Bool, true, false, not, List}
use Rattle.std.specs.List.{Contains}
use Rattle.mat_path.specs.Names.{is_prefix, overlap}
use Rattle.mat_tree.specs.declared.flat.Flat.{Flat}
use Rattle.mat_tree.specs.Parts.{HasTree, Part, below}
use Rattle.mat_model.specs.declared.book.Row.{Row}
use Rattle.mat_model.specs.declared.entries.Task.TheVariants as task
use Rattle.mat_model.specs.WorkState.{Job}
use Rattle.model_laws.specs.RowRules.{IsSameRow}
use Rattle.model_laws.specs.WorkRules.{are_reading}
use Rattle.region_port.specs.Calls.{Paths}

-- whether the disk itself has a row's part: the row stands, and no job reads it
abbrev pub is_home : List Job → Row → Bool
is_home jobs row = row.stands && not (are_reading jobs row.stamp)

-- the disk has a tree at a path, and no rough path is at or below it
pub record IsTreeAt (place : List (List ℕ)) (nodes : List Flat) (content : Part) (rough : Paths) : Type 0 where
  pub tree : HasTree (below place content) nodes
  pub settled : (path : List (List ℕ)) → is_prefix place path ≡ true → rough path ≡ false

-- each row that is home, and whose stamp is spoken for, has its tree on the disk
abbrev pub AreTied : (ℕ → Bool) → List Row → List Job → Part → Paths → Type 0
AreTied spoken rows jobs content rough = (row : Row) → Contains rows row → is_home jobs row ≡ true → spoken row.stamp ≡ true →
    IsTreeAt row.path row.tree content rough

-- no row that is home overlaps a path
abbrev pub IsClear : List Row → List Job → List (List ℕ) → Type 0
IsClear rows jobs place = (row : Row) → Contains rows row → is_home jobs row ≡ true → overlap place row.path ≡ false

-- a row was there, and was home
pub record WasHome (rows : List Row) (jobs : List Job) (row : Row) : Type 0 where
  pub old : Row
  pub among : Contains rows old
  pub same : IsSameRow old row
  pub home : is_home jobs old ≡ true

-- a row was there before a job ended: it stands as it did, or the job made it
pub record IsLeftBy (rows : List Row) (job : Job) (row : Row) : Type 0 where
  pub old : Row
  pub among : Contains rows old
  pub same : IsSameRow old row
  pub stands : (row.stands ≡ old.stands) ⊎ (job.task ≡ task.Make row.path row.stamp)
