-- What a job and its devices are some steps later, and why it failed in them.
use Rattle.std.specs.Prelude.{◌≡◌, ◌≤◌, ◌+◌, ◌⊎◌, ℕ, Option, Some, None}
use Rattle.fetch_port.specs.Fetches.{Lacks, held_at}
use Rattle.mat_io.specs.Causes.{Rose}
use Rattle.mat_model.specs.declared.answers.Device.{Device}
use Rattle.mat_model.specs.declared.answers.Device.TheVariants as device
use Rattle.mat_model.specs.declared.answers.FaultNote.{FaultNote}
use Rattle.mat_model.specs.declared.entries.Outcome.{Outcome}
use Rattle.mat_model.specs.declared.entries.Outcome.TheVariants as outcome
use Rattle.region_port.specs.States.{loan_region}
use Rattle.region_port.specs.declared.port.Region.{Ghosts}
use Rattle.region_port.specs.declared.states.ReadLoan.{ReadLoan}
use Rattle.job_run.specs.Steps.{Fetching, FetchingFrom, KeepsLoan, Told}
use Rattle.job_run.specs.StoreCalls.{Misgives}
use Rattle.job_run.specs.Views.{Seen}

-- a region later: it is where it was, and its count of faults didn't fall
pub record IsLater {R : Type 0} (g : Ghosts R) (old new : R) : Type 0 where
  pub place : g.place new ≡ g.place old
  pub counts : g.fault_count old ≤ g.fault_count new

abbrev pub RegionMoves : {R : Type 0} → Ghosts R → Option R → Option R → Type 0
RegionMoves g None None = Unit {0}
RegionMoves g None (Some new) = ⊥
RegionMoves g (Some old) None = ⊥
RegionMoves g (Some old) (Some new) = IsLater g old new

-- a part that is lent later: it is as it was, and its count of faults didn't fall
pub record IsLaterLoan {R : Type 0} (g : Ghosts R) (old new : ReadLoan R) : Type 0 where
  pub keeps : KeepsLoan g old new
  pub counts : g.fault_count (loan_region old) ≤ g.fault_count (loan_region new)

abbrev pub LoanMoves : {R : Type 0} → Ghosts R → Option (ReadLoan R) → Option (ReadLoan R) → Type 0
LoanMoves g None None = Unit {0}
LoanMoves g None (Some new) = ⊥
LoanMoves g (Some old) None = ⊥
LoanMoves g (Some old) (Some new) = IsLaterLoan g old new

-- a note is of a call between these counts of faults, and the count rose in it
pub record IsBetween (before after : ℕ) (note : FaultNote) : Type 0 where
  pub first : before ≤ note.before
  pub last : note.after ≤ after
  pub rose : Rose note.before note.after

abbrev pub RegionFaults : {R : Type 0} → Ghosts R → Option R → Option R → FaultNote → Type 0
RegionFaults g None new note = ⊥
RegionFaults g (Some old) None note = ⊥
RegionFaults g (Some old) (Some new) note = IsBetween (g.fault_count old) (g.fault_count new) note

abbrev pub LoanFaults : {R : Type 0} → Ghosts R → Option (ReadLoan R) → Option (ReadLoan R) → FaultNote → Type 0
LoanFaults g None new note = ⊥
LoanFaults g (Some old) None note = ⊥
LoanFaults g (Some old) (Some new) note = IsBetween (g.fault_count (loan_region old)) (g.fault_count (loan_region new)) note

-- a job's region, the part that is lent to it, what it reads in the store, and what the store tells, at one moment
pub record Around (R : Type 0) : Type 0 where
  pub region : Option R
  pub loan : Option (ReadLoan R)
  pub fetching : Option Fetching
  pub told : Told

abbrev pub around : {R : Type 0} → Seen R → Told → Around R
around job told = record { region = job.region; loan = job.loan; fetching = job.fetching; told = told }

-- the same of what a job left that has ended: it reads no file any more
abbrev pub left_by : {R : Type 0} → Option R → Option (ReadLoan R) → Told → Around R
left_by region loan told = record { region = region; loan = loan; fetching = None; told = told }

-- a call of these steps on this device failed
abbrev pub DeviceFails : {R : Type 0} → Ghosts R → Around R → Around R → FaultNote → Device → Type 0
DeviceFails g old new note device.Disk = RegionFaults g old.region new.region note ⊎ LoanFaults g old.loan new.loan note
DeviceFails g old new note device.Store = IsBetween old.told.faults new.told.faults note
DeviceFails g old new note device.Keeper = ⊥

-- why a job failed in these steps: the store lacks the digest; it gave other bytes, if those given before are its own; a call of these
-- steps failed
abbrev pub Causes : {R : Type 0} → Ghosts R → Around R → Around R → Option Outcome → Type 0
Causes g old new None = Unit {0}
Causes g old new (Some outcome.Made) = ⊥
Causes g old new (Some outcome.Wiped) = ⊥
Causes g old new (Some (outcome.Missing digest)) = Lacks (held_at old.told.holds digest)
Causes g old new (Some (outcome.Corrupt wanted found)) =
    FetchingFrom old.told.holds old.fetching → Misgives (held_at old.told.holds wanted) wanted found
Causes g old new (Some (outcome.Fault note)) = DeviceFails g old new note note.device
Causes g old new (Some outcome.NoMemory) = Unit {0}

-- a job some steps later: what it is for stays, no count falls, and it asks for no more files than it might
pub record Moves {R : Type 0} (g : Ghosts R) (old : Seen R) (told : Told) (new : Seen R) (now : Told) : Type 0 where
  pub card : new.card ≡ old.card
  pub goal : new.goal ≡ old.goal
  pub region : RegionMoves g old.region new.region
  pub loan : LoanMoves g old.loan new.loan
  pub holds : now.holds ≡ told.holds
  pub faults : told.faults ≤ now.faults
  pub asks : now.fetches + new.asks ≤ told.fetches + old.asks
  pub fetching : FetchingFrom told.holds old.fetching → FetchingFrom told.holds new.fetching
