-- Whether a job that came back is the one that runs under its number.
use Rattle.std.specs.Prelude.{ℕ, ◌==◌, ◌&&◌, ◌||◌, Bool, true, false, not, List, find, Option, Some, None}
use Rattle.std.specs.Option.{option_map, option_map_or}
use Rattle.mat_path.specs.Names.{same_names}
use Rattle.mat_tree.specs.declared.flat.Flat.{Flat}
use Rattle.mat_tree.specs.Trees.{same_tree}
use Rattle.mat_model.specs.declared.book.Row.{Row}
use Rattle.mat_model.specs.declared.entries.Card.{Card}
use Rattle.mat_model.specs.declared.entries.Outcome.{Outcome}
use Rattle.mat_model.specs.declared.entries.Task.{Task}
use Rattle.mat_model.specs.declared.entries.Task.TheVariants as task
use Rattle.mat_model.specs.History.{Point}
use Rattle.mat_model.specs.Work.{is_declared}
use Rattle.mat_model.specs.WorkState.{Job, Lent, running}
use Rattle.region_port.specs.States.{loan_region, loan_tree, state_tree}
use Rattle.region_port.specs.declared.port.Region.{Ghosts as RegionGhosts}
use Rattle.region_port.specs.declared.states.ReadLoan.{ReadLoan}
use Rattle.job_run.specs.declared.job.Done.{Done}
use Rattle.mat_core.specs.Ending.{is_made}

-- ---- what came back

-- a part that was lent: where it is, and the tree that it was lent for
pub record Lending : Type 0 where
  pub place : List (List ℕ)
  pub tree : List Flat

abbrev pub lending_of : {R : Type 0} → RegionGhosts R → ReadLoan R → Lending
lending_of g loan = record { place = g.place (loan_region loan); tree = loan_tree loan }

-- a job that has ended: its card, its outcome, the tree that its part is known to have, and the part that was lent to it
pub record Back : Type 0 where
  pub card : Card
  pub out : Outcome
  pub tree : Option (List Flat)
  pub loan : Option Lending

abbrev pub back_of : {R : Type 0} {g : RegionGhosts R} → Done R g → Back
back_of {R} {g} came = record {
  card = came.card;
  out = came.outcome;
  tree = state_tree came.part;
  loan = option_map (lending_of g) came.loan;
}

-- ---- whether it fits

-- whether a task is another one
abbrev pub same_task : Task → Task → Bool
same_task (task.Make path stamp) (task.Make other number) = same_names path other && (stamp == number)
same_task (task.Make path stamp) (task.Wipe other) = false
same_task (task.Wipe path) (task.Make other number) = false
same_task (task.Wipe path) (task.Wipe other) = same_names path other

-- whether a tree is that of a row, and that of the row that was declared at a path under a stamp, if that is there still
abbrev pub is_tree_of : List Flat → Row → Bool
is_tree_of tree row = same_tree tree row.tree

abbrev pub is_tree_at : List Row → List (List ℕ) → ℕ → List Flat → Bool
is_tree_at rows path stamp tree = option_map_or (is_tree_of tree) (find (is_declared path stamp) rows) true

-- whether the tree that a part is known to have is that of the row of a task
abbrev pub is_tree_for : List Row → Task → Option (List Flat) → Bool
is_tree_for rows begun None = true
is_tree_for rows (task.Make path stamp) (Some tree) = is_tree_at rows path stamp tree
is_tree_for rows (task.Wipe path) (Some tree) = true

-- whether what was made, if something was, is the tree of its row
abbrev pub is_made_for : List Row → Task → Outcome → Option (List Flat) → Bool
is_made_for rows begun out tree = not (is_made out) || is_tree_for rows begun tree

-- whether the part that was lent is the one that a job reads
abbrev pub is_part_of : List Row → Lent → Lending → Bool
is_part_of rows lent loan = same_names loan.place lent.path && is_tree_at rows lent.path lent.stamp loan.tree

abbrev pub is_loan_of : List Row → Option Lent → Option Lending → Bool
is_loan_of rows None None = true
is_loan_of rows None (Some loan) = false
is_loan_of rows (Some lent) None = false
is_loan_of rows (Some lent) (Some loan) = is_part_of rows lent loan

-- whether a caller began a job that has the card of what came back, and whether what was made and what was lent are its own
abbrev pub has_card : ℕ → Back → Job → Bool
has_card caller back job = (job.caller == caller) && same_task job.task back.card.task

abbrev pub has_parts : List Row → Back → Job → Bool
has_parts rows back job = is_made_for rows job.task back.out back.tree && is_loan_of rows job.lent back.loan

-- whether what came back to a caller is a job, beside some rows
abbrev pub fits_job : List Row → ℕ → Back → Job → Bool
fits_job rows caller back job = has_card caller back job && has_parts rows back job

-- whether it is the one that runs under its number
abbrev pub fits_at : Point → ℕ → Back → Bool
fits_at point caller back = option_map_or (fits_job point.book.rows caller back) (running back.card.job point.work) false

-- who began a job
abbrev pub caller_of : Job → ℕ
caller_of job = job.caller
