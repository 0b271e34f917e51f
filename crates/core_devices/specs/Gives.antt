-- What comes back of a job that has ended.
use Rattle.std.specs.Prelude.{◌≡◌, ◌≤◌, ℕ, true, List, filter, Option, Some, None}
use Rattle.std.specs.List.{list_any}
use Rattle.mat_path.specs.Covering.{is_other_path}
use Rattle.mat_path.specs.Names.{same_names}
use Rattle.mat_tree.specs.Parts.{Part}
use Rattle.mat_model.specs.WorkState.{Job, Lent}
use Rattle.model_laws.specs.StoredRules.{path_of_job}
use Rattle.region_port.specs.Calls.{Paths, nowhere}
use Rattle.core_devices.specs.Told.{ToldPart}

-- what a part tells of its content and its rough paths, if there is one
abbrev pub content_of : Option ToldPart → Option Part
content_of None = None
content_of (Some part) = part.content

abbrev pub rough_of : Option ToldPart → Paths
rough_of None = nowhere
rough_of (Some part) = part.rough

-- a part is the one that a job reads, if it reads one
abbrev pub IsReadOf : Option Lent → Option ToldPart → Type 0
IsReadOf None None = Unit {0}
IsReadOf None (Some part) = ⊥
IsReadOf (Some lent) None = ⊥
IsReadOf (Some lent) (Some part) = part.place ≡ lent.path

-- two parts are those of a job: its task's, and the one that it reads, if it reads one
pub record AreOf (job : Job) (its : ToldPart) (read : Option ToldPart) : Type 0 where
  pub place : its.place ≡ path_of_job job
  pub source : IsReadOf job.lent read

-- a part, if there is one, is still lent once the one at a path is given back
abbrev pub IsStillOut : List (List ℕ) → Option ToldPart → List (List (List ℕ)) → Type 0
IsStillOut place None lent = Unit {0}
IsStillOut place (Some part) lent = list_any (same_names part.place) (filter (is_other_path place) lent) ≡ true

-- a count isn't 0 where that of a part isn't, if there is one
abbrev pub HasRisenBy : Option ToldPart → ℕ → Type 0
HasRisenBy None count = Unit {0}
HasRisenBy (Some part) count = 1 ≤ part.faults → 1 ≤ count
