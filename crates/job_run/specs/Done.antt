-- What a job that has ended keeps.
use Rattle.std.specs.Prelude.{◌||◌, nat_le, ℕ, Bool, true, false, not, List, Option, Some, None}
use Rattle.std.specs.Option.{is_some}
use Rattle.mat_io.specs.Causes.{risen}
use Rattle.mat_model.specs.declared.entries.Outcome.{Outcome}
use Rattle.mat_model.specs.declared.entries.Outcome.TheVariants as outcome
use Rattle.mat_model.specs.declared.entries.Task.{Task}
use Rattle.mat_model.specs.declared.entries.Task.TheVariants as task
use Rattle.region_port.specs.States.{loan_region, state_tree}
use Rattle.region_port.specs.declared.port.Region.{Ghosts}
use Rattle.region_port.specs.declared.states.Part.{Part}
use Rattle.region_port.specs.declared.states.ReadLoan.{ReadLoan}
use Rattle.job_run.specs.States.{is_bare, is_disk, is_make_device}

-- the path that a task is at
abbrev pub task_path : Task → List (List ℕ)
task_path (task.Make path stamp) = path
task_path (task.Wipe path) = path

-- whether a task is to make a tree
abbrev pub is_make : Task → Bool
is_make (task.Make path stamp) = true
is_make (task.Wipe path) = false

-- whether a make has an outcome, and whether a wipe has it: the devices of a make are a disk and the store, those of a wipe a disk alone
abbrev pub ends_make : Outcome → Bool
ends_make outcome.Made = true
ends_make outcome.Wiped = false
ends_make (outcome.Missing digest) = true
ends_make (outcome.Corrupt wanted found) = true
ends_make (outcome.Fault note) = is_make_device note.device
ends_make outcome.NoMemory = true

abbrev pub ends_wipe : Outcome → Bool
ends_wipe outcome.Made = false
ends_wipe outcome.Wiped = true
ends_wipe (outcome.Missing digest) = false
ends_wipe (outcome.Corrupt wanted found) = false
ends_wipe (outcome.Fault note) = is_disk note.device
ends_wipe outcome.NoMemory = true

abbrev pub ends_task : Bool → Outcome → Bool
ends_task true ended = ends_make ended
ends_task false ended = ends_wipe ended

-- whether a part is settled
abbrev pub is_settled : {R : Type 0} {g : Ghosts R} → Part R g → Bool
is_settled left = is_some (state_tree left)

-- whether a part is left so: settled where it is made, bare where it is wiped
abbrev pub leaves_part : {R : Type 0} {g : Ghosts R} → Outcome → Part R g → Bool
leaves_part outcome.Made left = is_settled left
leaves_part outcome.Wiped left = is_bare left
leaves_part (outcome.Missing digest) left = true
leaves_part (outcome.Corrupt wanted found) left = true
leaves_part (outcome.Fault note) left = true
leaves_part outcome.NoMemory left = true

-- whether a part that is lent counted so many faults
abbrev pub loan_counted : {R : Type 0} → Ghosts R → Option (ReadLoan R) → ℕ → Bool
loan_counted g None count = false
loan_counted g (Some loan) count = nat_le count (g.fault_count (loan_region loan))

-- whether a fault of the disk was counted by the part or by the one that is lent
abbrev pub counts_fault : {R : Type 0} → Ghosts R → Outcome → ℕ → Option (ReadLoan R) → Bool
counts_fault g outcome.Made count loan = true
counts_fault g outcome.Wiped count loan = true
counts_fault g (outcome.Missing digest) count loan = true
counts_fault g (outcome.Corrupt wanted found) count loan = true
counts_fault g (outcome.Fault note) count loan = not (is_disk note.device) || (nat_le note.after count || loan_counted g loan note.after)
counts_fault g outcome.NoMemory count loan = true

-- whether the count of a device that failed a job rose around the call
abbrev pub has_count_risen : Outcome → Bool
has_count_risen outcome.Made = true
has_count_risen outcome.Wiped = true
has_count_risen (outcome.Missing digest) = true
has_count_risen (outcome.Corrupt wanted found) = true
has_count_risen (outcome.Fault note) = nat_le (risen note.before) note.after
has_count_risen outcome.NoMemory = true
