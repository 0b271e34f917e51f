-- A job is put down: its parts are taken, and it stands among the jobs.
use Rattle.std.specs.Prelude.{◌≡◌, [], ◌∷◌, ◌++◌, ℕ, Bool, true, false, List, Option, Some, None}
use Rattle.std.specs.List.{list_all, list_any}
use Rattle.std.specs.Option.{is_some, option_map, option_map_or}
use Rattle.mat_path.specs.Names.{overlap}
use Rattle.mat_tree.specs.declared.flat.Flat.{Flat}
use Rattle.mat_tree.specs.Trees.{is_placed}
use Rattle.mat_model.specs.declared.entries.Task.{Task}
use Rattle.mat_model.specs.WorkState.{Lent, is_lent, is_lent_part, lends_at, path_of_task}
use Rattle.region_port.specs.States.{loan_region, loan_tree}
use Rattle.region_port.specs.declared.port.Region.{Ghosts as RegionGhosts}
use Rattle.region_port.specs.declared.states.ReadLoan.{ReadLoan}
use Rattle.write_plan.specs.Plans.{plan_of}
use Rattle.job_run.specs.Asking.{asks_of}
use Rattle.job_run.specs.Courses.{Course, make_course, wipe_course}
use Rattle.job_run.specs.Done.{is_make}
use Rattle.job_run.specs.Orders.{is_right}
use Rattle.job_run.specs.Views.{Seen, asks_left, is_over, job_card, job_course, job_fetching, job_goal, job_loan, job_region}
use Rattle.job_book.specs.Jobs.{jobs_of, lent_of}
use Rattle.job_book.specs.Numbers.{is_earlier}
use Rattle.job_book.specs.declared.running.LentPart.{LentPart}
use Rattle.job_book.specs.declared.running.Running.{Running}
use Rattle.core_devices.specs.declared.taking.Source.{Source}
use Rattle.core_devices.specs.Takes.{IsFreeAt, source_path}
use Rattle.core_devices.specs.Told.{ToldPart, told_part}
use Rattle.mat_core.specs.declared.begun.Out.{Out}
use Rattle.mat_core.specs.declared.parts.Parts.{Parts}
use Rattle.mat_core.specs.declared.preparing.Aim.{Aim}
use Rattle.mat_core.specs.declared.preparing.Aim.TheVariants as aim
use Rattle.mat_core.specs.declared.preparing.Order.{Order}

-- the part of a source, as the model has it
abbrev pub lent_from : Source → Lent
lent_from source = record { path = source.path; stamp = source.stamp; tree = source.tree }

-- no clean has removed the row of a part that is lent
abbrev pub IsUncleaned : Option LentPart → Type 0
IsUncleaned None = Unit {0}
IsUncleaned (Some part) = part.cleaned ≡ false

-- a job that runs is the one of an order, for a caller
pub record IsRunning (who : ℕ) (order : Order) (running : Running) : Type 0 where
  pub card : running.card ≡ order.card
  pub caller : running.caller ≡ who
  pub lent : option_map lent_of running.lent ≡ option_map lent_from order.source
  pub fresh : IsUncleaned running.lent
  pub kept : running.kept ≡ order.kept

-- a part that is only read has the tree of the one that was to be read
abbrev pub IsReadFor : {R : Type 0} → Option Source → Option (ReadLoan R) → Type 0
IsReadFor None None = Unit {0}
IsReadFor None (Some read) = ⊥
IsReadFor (Some source) None = ⊥
IsReadFor (Some source) (Some read) = loan_tree read ≡ source.tree

-- what a part that is only read tells
abbrev pub told_read : {R : Type 0} → RegionGhosts R → ReadLoan R → ToldPart
told_read g read = told_part g (loan_region read)

-- what is out is that of an order: its own card, the paths of the rows that are to go, and what is made
pub record IsOutFor {R : Type 0} (order : Order) (out : Out R) : Type 0 where
  pub own : out.own ≡ order.own
  pub gone : out.gone ≡ order.gone
  pub aim : out.aim ≡ order.aim
  pub read : IsReadFor order.source out.read

-- a job may be put down by an order, where a disk lends some paths
pub record IsFreeFor (jobs : List Running) (lent : List (List (List ℕ))) (begun : Task) (order : Order) : Type 0 where
  -- its card is of the task, and its number is higher than the others
  pub card : order.card.task ≡ begun
  pub later : list_all (is_earlier order.card.job) jobs ≡ true
  -- no loan of a job overlaps the task's path, nor the part that is to be read, and these don't overlap
  pub free : is_lent (path_of_task begun) (jobs_of jobs) ≡ false
  pub source : option_map_or (is_lent_part (jobs_of jobs)) (option_map lent_from order.source) false ≡ false
  pub apart : option_map_or (lends_at (path_of_task begun)) (option_map lent_from order.source) false ≡ false
  -- so the disk may lend both
  pub its : list_any (overlap (path_of_task begun)) lent ≡ false
  pub read : IsFreeAt (option_map source_path order.source) (lent ++ path_of_task begun ∷ [])

-- a job is put down for a caller, by an order
pub record IsPutDown {D K : Type 0} (caller : ℕ) (order : Order) (old new : Parts D K) : Type 0 where
  pub only : new ≡ record old { disk = new.disk; jobs = new.jobs }
  pub running : Running
  pub is : IsRunning caller order running
  pub jobs : new.jobs ≡ old.jobs ++ running ∷ []

-- ---- the job

-- what is out may be worked on: the part is that of the card's task, and a tree that is to be made can be made there
abbrev pub MayMake : {R : Type 0} → List (List ℕ) → Bool → Option (ReadLoan R) → Aim → Type 0
MayMake place makes read aim.Nothing = (makes ≡ false) × (read ≡ None)
MayMake place makes read (aim.Tree tree way acts) =
    (makes ≡ true) × (list_all (is_placed place) tree ≡ true) × (list_all (is_right way) tree ≡ true) × (acts.items ≡ plan_of tree way (is_some read))

pub record IsWorkable {R : Type 0} (g : RegionGhosts R) (out : Out R) : Type 0 where
  pub place : g.place out.region ≡ path_of_task out.own.task
  pub aim : MayMake (path_of_task out.own.task) (is_make out.own.task) out.read out.aim

-- the tree that is made, how many files its job may ask the store for, and what it is to do
abbrev pub aim_tree : Aim → Option (List Flat)
aim_tree aim.Nothing = None
aim_tree (aim.Tree tree way acts) = Some tree

abbrev pub aim_asks : Aim → ℕ
aim_asks aim.Nothing = 0
aim_asks (aim.Tree tree way acts) = asks_of way tree

abbrev pub aim_course : Aim → Bool → Course
aim_course aim.Nothing lent = wipe_course
aim_course (aim.Tree tree way acts) lent = make_course tree way lent

-- a job that has just begun works on what is out
pub record IsJobFor {R : Type 0} (out : Out R) (job : Seen R) : Type 0 where
  pub card : job_card job ≡ out.own
  pub goal : job_goal job ≡ aim_tree out.aim
  pub loan : job_loan job ≡ out.read
  pub region : job_region job ≡ Some out.region
  pub going : is_over job ≡ false
  pub fetching : job_fetching job ≡ None
  pub asks : asks_left job ≡ aim_asks out.aim
  pub course : job_course job ≡ aim_course out.aim (is_some out.read)
