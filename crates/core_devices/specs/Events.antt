-- What the devices tell once a job has begun, once it was refused, and once it has ended.
use Rattle.std.specs.Prelude.{◌≡◌, ◌≤◌, ◌-◌, ◌^◌, [], ◌∷◌, ◌++◌, List, Option, Some, None}
use Rattle.std.specs.Option.{ForSome, option_map}
use Rattle.mat_io.specs.Watches.{Watch}
use Rattle.mat_tree.specs.Parts.{Part, without}
use Rattle.mat_model.specs.declared.book.Row.{Row}
use Rattle.mat_model.specs.declared.entries.Outcome.{Outcome}
use Rattle.mat_model.specs.declared.entries.Task.{Task}
use Rattle.mat_model.specs.History.{Point}
use Rattle.mat_model.specs.WorkState.{Job, Lent, lent_for, path_of_task}
use Rattle.model_laws.specs.StoredRules.{path_of_job}
use Rattle.model_laws.specs.WorkRules.{claimed_by_part, loans_of}
use Rattle.region_port.specs.Calls.{Paths, paths_outside, with_inner}
use Rattle.region_port.specs.Watches.{joined_watch}
use Rattle.core_laws.specs.DiskRules.{less_part, less_rough_part}
use Rattle.core_laws.specs.Ends.{IsEndedPart, IsReadPart, with_rough_job}
use Rattle.core_laws.specs.Loans.{given_back}
use Rattle.core_laws.specs.Places.{IsSameBelow}
use Rattle.core_devices.specs.Told.{ToldDisk, ToldPart}

-- ---- a begin

-- the part that a task reads at a point
abbrev pub read_at : Point → Task → Option Lent
read_at point begun = lent_for begun point.book.rows point.work.ways

-- a disk has lent the part of a task, and then the one that this reads
pub record HasLent (begun : Task) (read : Option Lent) (old new : ToldDisk) : Type 0 where
  pub content : new.content ≡ option_map (λ (content : Part). less_part read (without (path_of_task begun) content)) old.content
  pub lent : new.lent ≡ old.lent ++ path_of_task begun ∷ claimed_by_part read
  pub rough : new.rough ≡ less_rough_part read (paths_outside (path_of_task begun) old.rough)
  pub faults : old.faults ≤ new.faults
  pub watch : new.watch ≡ old.watch

-- ---- a begin that wasn't made

-- a disk tells, place by place, what it told
abbrev pub AreSameParts : Option Part → Paths → Option Part → Paths → Type 0
AreSameParts None before None later = Unit {0}
AreSameParts None before (Some new) later = ⊥
AreSameParts (Some old) before None later = ⊥
AreSameParts (Some old) before (Some new) later = IsSameBelow [] old before new later

-- a count of calls, if there is one, is of 64 bits
abbrev pub IsCounted : Option Watch → Type 0
IsCounted None = Unit {0}
IsCounted (Some watch) = watch.calls ≤ 2 ^ 64 - 1

-- a disk has again what it had: parts were taken and given back as they were. It wasn't called, and is armed if it was
pub record HasAgain (old new : ToldDisk) : Type 0 where
  pub parts : AreSameParts old.content old.rough new.content new.rough
  pub lent : new.lent ≡ old.lent
  pub faults : old.faults ≤ new.faults
  pub watch : IsCounted old.watch → new.watch ≡ old.watch

-- ---- an end

-- a disk that tells what it has once the part came back that a job read, if it read one
abbrev pub with_read : Option Lent → Option Part → Option Part → Option Part
with_read None inner content = content
with_read (Some read) inner content = with_inner read.path inner content

-- the parts of a job are back on a disk: its task's, which had this and was so rough, and then the one that it read
pub record HasBack (job : Job) (inner : Option Part) (its : Paths) (part : Option Part) (of_part : Paths) (old new : ToldDisk) : Type 0 where
  pub content : new.content ≡ with_read job.lent part (with_inner (path_of_job job) inner old.content)
  pub lent : new.lent ≡ given_back (loans_of job) old.lent
  pub rough : new.rough ≡ with_rough_job job its of_part old.rough
  pub faults : old.faults ≤ new.faults

-- the calls of a disk once the part came back that a job read, if it read one
abbrev pub joined_read : Option ToldPart → Option Watch → Option Watch
joined_read None watch = watch
joined_read (Some part) watch = joined_watch part.watch watch

-- the calls of the parts of a job count with those of the disk to which they are given; that is armed if it was
abbrev pub HasJoined : ToldPart → Option ToldPart → ToldDisk → ToldDisk → Type 0
HasJoined its read old new = new.watch ≡ joined_read read (joined_watch its.watch old.watch)

-- the part of a task that ended so is as that says, where it tells what it has
abbrev pub IsEndedTold : Task → Outcome → List Row → Option Part → Paths → Type 0
IsEndedTold begun out rows inner its = ForSome inner (λ (inner : Part). IsEndedPart begun out rows inner its)

-- the part that a job read, if it read one, is as it was, where it tells what it has
abbrev pub IsReadTold : Option Lent → Option Part → Paths → Type 0
IsReadTold None part its = Unit {0}
IsReadTold (Some read) part its = ForSome part (λ (inner : Part). IsReadPart read inner its)
