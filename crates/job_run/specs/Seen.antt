-- What is seen of a job's fields.
use Rattle.std.specs.Prelude.{List, Option}
use Rattle.mat_model.specs.declared.entries.Card.{Card}
use Rattle.mat_tree.specs.declared.flat.Flat.{Flat}
use Rattle.region_port.specs.declared.port.Region.{Ghosts}
use Rattle.region_port.specs.declared.states.ReadLoan.{ReadLoan}
use Rattle.job_run.specs.CourseStages.{state_course, state_reading}
use Rattle.job_run.specs.Jobs.{goal_tree}
use Rattle.job_run.specs.States.{failure_of, has_ended, region_of, state_asks, state_cost}
use Rattle.job_run.specs.Steps.{state_fetching, state_spot}
use Rattle.job_run.specs.Views.{Seen}
use Rattle.job_run.specs.declared.machine.Machine.{Machine}
use Rattle.job_run.specs.declared.states.State.{State}

-- by its stage
abbrev pub seen_at : {R : Type 0} {g : Ghosts R} → Card → Option (List Flat) → Option (ReadLoan R) → State R g → Seen R
seen_at card goal loan stage = record {
  card = card;
  goal = goal;
  loan = loan;
  region = region_of stage;
  failure = failure_of stage;
  over = has_ended stage;
  spot = state_spot stage;
  calls = state_cost stage;
  asks = state_asks stage;
  fetching = state_fetching stage;
  course = state_course stage;
  reading = state_reading stage;
}

abbrev pub seen : {R : Type 0} {g : Ghosts R} → Machine R g → Seen R
seen machine = seen_at machine.card (goal_tree machine.goal.value) machine.loan machine.state
