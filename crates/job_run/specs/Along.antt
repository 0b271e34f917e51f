-- How one step of a job leads along its course.
use Rattle.std.specs.Prelude.{◌≡◌, ◌⊎◌, Option, None, Some}
use Rattle.region_port.specs.declared.port.Region.{Ghosts}
use Rattle.job_run.specs.Courses.{Course, MissesLoan, Proceeds, RegionMakes, spot_of, wanted_of}
use Rattle.job_run.specs.Steps.{Asks, CallsLoan, CallsRegion, Fetching, Told, loan_call, part_call, store_call}
use Rattle.job_run.specs.Views.{Seen}
use Rattle.job_run.specs.declared.reading.Reading.{Reading}

-- a step whose call is on the part makes one there, and none elsewhere; the two others
abbrev pub CallsItsPart : {R F : Type 0} → Ghosts R → Seen R → Seen R → F → F → Type 0
CallsItsPart g old new before now =
    old.spot ≡ part_call → CallsRegion g old.region new.region new.failure × (new.loan ≡ old.loan) × (now ≡ before)

abbrev pub CallsItsLoan : {R F : Type 0} → Ghosts R → Seen R → Seen R → F → F → Type 0
CallsItsLoan g old new before now = old.spot ≡ loan_call → (new.region ≡ old.region) × CallsLoan g old.loan new.loan new.failure × (now ≡ before)

abbrev pub CallsItsStore : {R : Type 0} → Seen R → Told → Seen R → Told → Type 0
CallsItsStore old told new now = old.spot ≡ store_call → (new.region ≡ old.region) × (new.loan ≡ old.loan) × Asks old.fetching told now new.failure

-- a step that didn't fail does the first thing, or goes on with it, and the next call is on what comes then
abbrev pub GoesAlong : {R : Type 0} → Seen R → Seen R → Type 0
GoesAlong old new = new.failure ≡ None → Proceeds old.spot new.spot old.course new.course

-- a call on the part is the one that the first thing asks for
abbrev pub MakesIts : {R : Type 0} → Ghosts R → Seen R → Seen R → Type 0
MakesIts g old new = old.spot ≡ part_call → RegionMakes g old.course new.failure old.region new.region

-- behind a call on the part that is lent a file's bytes are still read there, unless it gave other bytes or none
abbrev pub ReadsOn : {R : Type 0} → Ghosts R → Seen R → Seen R → Type 0
ReadsOn g old new = old.spot ≡ loan_call → new.failure ≡ None → (new.course.from ≡ old.course.from) ⊎ MissesLoan g old.loan old.course old.reading

-- ---- what holds between steps

-- the file that is read in the store is the one that the job is at
abbrev pub ReadsItsFile : Option Fetching → Course → Option Reading → Type 0
ReadsItsFile None course reading = Unit {0}
ReadsItsFile (Some file) course reading = (wanted_of course.duties ≡ Some file.wanted) × (reading ≡ Some file.reading)

-- the next call is on the part, or there where the bytes of the file that the job is at are read
pub record IsAlong {R : Type 0} (job : Seen R) : Type 0 where
  pub file : ReadsItsFile job.fetching job.course job.reading
  pub spot_is : (job.spot ≡ part_call) ⊎ (job.spot ≡ spot_of job.course.from)
