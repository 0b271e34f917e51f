-- All that holds of a disk beside a point.
use Rattle.std.specs.Prelude.{ℕ, Bool, List, Option, Some, None}
use Rattle.mat_tree.specs.Parts.{Part, without}
use Rattle.mat_model.specs.declared.entries.Task.{Task}
use Rattle.mat_model.specs.History.{Point}
use Rattle.mat_model.specs.WorkState.{Job, Lent}
use Rattle.region_port.specs.Calls.{Paths, paths_outside}
use Rattle.core_laws.specs.Covered.{IsCovered, IsRoughCovered}
use Rattle.core_laws.specs.Loans.{AreLoans, AreOut}
use Rattle.core_laws.specs.Tied.{AreTied}
use Rattle.core_laws.specs.Whole.{IsWhole}

-- a disk that lends some paths, with its rough paths, keeps its rules beside a point, where some stamps are spoken for
pub record IsDisk (spoken : ℕ → Bool) (point : Point) (lent : List (List (List ℕ))) (content : Part) (rough : Paths) : Type 0 where
  -- it lends the loans of the jobs
  pub loans : AreLoans point.work.jobs lent
  -- it has nothing where one is
  pub out : AreOut lent content rough
  -- each row that is home, and whose stamp is spoken for, has its tree
  pub tied : AreTied spoken point.book.rows point.work.jobs content rough
  -- each node, and each rough path, belongs to a row or is debris
  pub covered : IsCovered point.book.rows point.work content
  pub settled : IsRoughCovered point.work rough
  -- each kept row is whole
  pub whole : IsWhole lent point.kept content rough

-- a disk keeps those of these rules that don't ask how it was at the opening
pub record IsTiedDisk (spoken : ℕ → Bool) (point : Point) (lent : List (List (List ℕ))) (content : Part) (rough : Paths) : Type 0 where
  pub loans : AreLoans point.work.jobs lent
  pub out : AreOut lent content rough
  pub tied : AreTied spoken point.book.rows point.work.jobs content rough

-- a job that has begun, as long as its task is taken and the part that it reads isn't
abbrev pub begun_unread : ℕ → ℕ → Task → Job
begun_unread number caller begun = record { number = number; caller = caller; task = begun; lent = None }

-- a disk once the part that a job reads is taken, if it reads one
abbrev pub less_part : Option Lent → Part → Part
less_part None content = content
less_part (Some part) content = without part.path content

-- and its rough paths
abbrev pub less_rough_part : Option Lent → Paths → Paths
less_rough_part None rough = rough
less_rough_part (Some part) rough = paths_outside part.path rough
