-- What a job keeps between its steps.
use Rattle.std.specs.Prelude.{◌≡◌, ◌≤◌, ◌⊎◌, ℕ, Bool, true, List, Option, Some, None}
use Rattle.std.specs.Option.{is_some}
use Rattle.mat_io.specs.Causes.{Rose}
use Rattle.mat_model.specs.declared.entries.Card.{Card}
use Rattle.mat_model.specs.declared.entries.Outcome.{Outcome}
use Rattle.mat_model.specs.declared.entries.Outcome.TheVariants as outcome
use Rattle.mat_tree.specs.declared.flat.Flat.{Flat}
use Rattle.region_port.specs.States.{loan_region, state_region}
use Rattle.region_port.specs.declared.port.Region.{Ghosts}
use Rattle.region_port.specs.declared.states.ReadLoan.{ReadLoan}
use Rattle.job_run.specs.CourseStages.{state_course, state_reading}
use Rattle.job_run.specs.Courses.{Course}
use Rattle.job_run.specs.Done.{is_make, task_path}
use Rattle.job_run.specs.declared.reading.Reading.{Reading}
use Rattle.job_run.specs.States.{failure_of, has_ended, is_disk, region_of, state_asks, state_cost}
use Rattle.job_run.specs.Steps.{Fetching, Spot, Stands, doing_spot, spot_next, state_fetching, state_spot}
use Rattle.job_run.specs.declared.machine.Goal.{Goal}
use Rattle.job_run.specs.declared.machine.Goal.TheVariants as goal
use Rattle.job_run.specs.declared.machine.Machine.{Machine}
use Rattle.job_run.specs.declared.job.Next.{Next}
use Rattle.job_run.specs.declared.job.Next.TheVariants as next
use Rattle.job_run.specs.declared.states.State.{State}
use Rattle.job_run.specs.declared.states.State.TheVariants as state

-- the tree that a job is to make, if it is to make one
abbrev pub goal_tree : Goal → Option (List Flat)
goal_tree (goal.Tree tree) = Some tree
goal_tree goal.Nothing = None

-- what is seen of a job: its card, the tree that it is to make, if it is to make one, the part that is lent to it, its own region, how it failed
abbrev pub machine_card : {R : Type 0} {g : Ghosts R} → Machine R g → Card
machine_card machine = machine.card

abbrev pub machine_goal : {R : Type 0} {g : Ghosts R} → Machine R g → Option (List Flat)
machine_goal machine = goal_tree machine.goal.value

abbrev pub machine_loan : {R : Type 0} {g : Ghosts R} → Machine R g → Option (ReadLoan R)
machine_loan machine = machine.loan

abbrev pub machine_region : {R : Type 0} {g : Ghosts R} → Machine R g → Option R
machine_region machine = region_of machine.state

abbrev pub machine_failure : {R : Type 0} {g : Ghosts R} → Machine R g → Option Outcome
machine_failure machine = failure_of machine.state

-- whether it has ended, which device its next call is on, and how many calls it makes at most
abbrev pub machine_over : {R : Type 0} {g : Ghosts R} → Machine R g → Bool
machine_over machine = has_ended machine.state

abbrev pub machine_spot : {R : Type 0} {g : Ghosts R} → Machine R g → Spot
machine_spot machine = state_spot machine.state

abbrev pub machine_cost : {R : Type 0} {g : Ghosts R} → Machine R g → ℕ
machine_cost machine = state_cost machine.state

-- the device that the next step of a job calls, if it has one
abbrev pub state_next : {R : Type 0} {g : Ghosts R} → State R g → Next
state_next (state.Wiping region) = next.Disk
state_next (state.Emptying region) = next.Disk
state_next (state.Clearing region order) = next.Disk
state_next (state.Making making) = spot_next (doing_spot making.doing)
state_next (state.Ended left ended) = next.Nothing
state_next state.Moving = next.Nothing

abbrev pub machine_next : {R : Type 0} {g : Ghosts R} → Machine R g → Next
machine_next machine = state_next machine.state

-- how many files it may still ask the store for, and the one that it reads there
abbrev pub machine_asks : {R : Type 0} {g : Ghosts R} → Machine R g → ℕ
machine_asks machine = state_asks machine.state

abbrev pub machine_fetching : {R : Type 0} {g : Ghosts R} → Machine R g → Option Fetching
machine_fetching machine = state_fetching machine.state

-- what it is to do still, and how far the file that it is at is read
abbrev pub machine_course : {R : Type 0} {g : Ghosts R} → Machine R g → Course
machine_course machine = state_course machine.state

abbrev pub machine_reading : {R : Type 0} {g : Ghosts R} → Machine R g → Option Reading
machine_reading machine = state_reading machine.state

-- a count of faults of a part that is lent is at least this
abbrev pub LoanCounts : {R : Type 0} → Ghosts R → Option (ReadLoan R) → ℕ → Type 0
LoanCounts g None count = ⊥
LoanCounts g (Some loan) count = count ≤ g.fault_count (loan_region loan)

-- the count of a device that failed rose around the call, and a fault of the disk was counted by one of a job's two regions
abbrev pub IsCounted : {R : Type 0} → Ghosts R → Outcome → ℕ → Option (ReadLoan R) → Type 0
IsCounted g outcome.Made count loan = Unit {0}
IsCounted g outcome.Wiped count loan = Unit {0}
IsCounted g (outcome.Missing digest) count loan = Unit {0}
IsCounted g (outcome.Corrupt wanted found) count loan = Unit {0}
IsCounted g (outcome.Fault note) count loan =
    Rose note.before note.after × (is_disk note.device ≡ true → (note.after ≤ count) ⊎ LoanCounts g loan note.after)
IsCounted g outcome.NoMemory count loan = Unit {0}

abbrev pub Counts : {R : Type 0} {g : Ghosts R} → State R g → Option (ReadLoan R) → Type 0
Counts (state.Wiping region) loan = Unit {0}
Counts (state.Emptying region) loan = Unit {0}
Counts (state.Clearing region order) loan = Unit {0}
Counts (state.Making making) loan = Unit {0}
Counts {R} {g} (state.Ended left ended) loan = IsCounted g ended (g.fault_count (state_region left)) loan
Counts state.Moving loan = Unit {0}

-- what a job keeps
pub record IsJob {R : Type 0} {g : Ghosts R} (job : Machine R g) : Type 0 where
  pub stands : Stands (task_path job.card.task) (goal_tree job.goal.value) (is_some job.loan) job.state
  pub kind : is_some (goal_tree job.goal.value) ≡ is_make job.card.task
  pub counts : Counts job.state job.loan
