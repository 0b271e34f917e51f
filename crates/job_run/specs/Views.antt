-- A job as contracts see it.
use Rattle.std.specs.Prelude.{ℕ, Bool, if◌then◌else◌, List, Option}
use Rattle.mat_model.specs.declared.entries.Card.{Card}
use Rattle.mat_model.specs.declared.entries.Outcome.{Outcome}
use Rattle.mat_tree.specs.declared.flat.Flat.{Flat}
use Rattle.region_port.specs.declared.states.ReadLoan.{ReadLoan}
use Rattle.job_run.specs.Courses.{Course}
use Rattle.job_run.specs.declared.reading.Reading.{Reading}
use Rattle.job_run.specs.Steps.{Fetching, Spot, spot_next}
use Rattle.job_run.specs.declared.job.Next.{Next}
use Rattle.job_run.specs.declared.job.Next.TheVariants as next

-- its card; the tree that it is to make, if it is to make one; the part that is lent to it; its own region; how it failed; whether it has ended;
-- what its next call is on; how many calls it makes at most; how many files it may still ask the store for; the file that it reads there; what it is
-- to do still; how far the file that it is at is read, if it is read
pub record Seen (R : Type 0) : Type 0 where
  pub card : Card
  pub goal : Option (List Flat)
  pub loan : Option (ReadLoan R)
  pub region : Option R
  pub failure : Option Outcome
  pub over : Bool
  pub spot : Spot
  pub calls : ℕ
  pub asks : ℕ
  pub fetching : Option Fetching
  pub course : Course
  pub reading : Option Reading

-- what contracts name of it
abbrev pub job_card : {R : Type 0} → Seen R → Card
job_card job = job.card

abbrev pub job_goal : {R : Type 0} → Seen R → Option (List Flat)
job_goal job = job.goal

abbrev pub job_loan : {R : Type 0} → Seen R → Option (ReadLoan R)
job_loan job = job.loan

abbrev pub job_region : {R : Type 0} → Seen R → Option R
job_region job = job.region

abbrev pub job_failure : {R : Type 0} → Seen R → Option Outcome
job_failure job = job.failure

abbrev pub is_over : {R : Type 0} → Seen R → Bool
is_over job = job.over

abbrev pub job_spot : {R : Type 0} → Seen R → Spot
job_spot job = job.spot

abbrev pub calls_left : {R : Type 0} → Seen R → ℕ
calls_left job = job.calls

abbrev pub asks_left : {R : Type 0} → Seen R → ℕ
asks_left job = job.asks

abbrev pub job_fetching : {R : Type 0} → Seen R → Option Fetching
job_fetching job = job.fetching

abbrev pub job_course : {R : Type 0} → Seen R → Course
job_course job = job.course

abbrev pub job_reading : {R : Type 0} → Seen R → Option Reading
job_reading job = job.reading

-- the device that its next step calls
abbrev pub job_next : {R : Type 0} → Seen R → Next
job_next job = if job.over then next.Nothing else spot_next job.spot
