-- A job whose next device call is to fail, and which is otherwise as it was.
use Rattle.std.specs.Prelude.{◌≡◌, Bool, true, false, Option, Some, None}
use Rattle.mat_io.specs.Watches.{when_armed}
use Rattle.region_port.specs.Memory.{part_of, region_faults, region_place, region_watch, rough_of}
use Rattle.region_port.specs.States.{loan_region, loan_tree}
use Rattle.region_port.specs.declared.mem_region.MemRegion.{MemRegion}
use Rattle.region_port.specs.declared.states.ReadLoan.{ReadLoan}
use Rattle.job_run.specs.Steps.{Spot, loan_call, part_call, store_call}

-- the next call on a region is to fail, and the region is otherwise as it was
pub record IsArmed (old new : MemRegion) : Type 0 where
  pub watch : region_watch new ≡ when_armed (region_watch old)
  pub place : region_place new ≡ region_place old
  pub part : part_of new ≡ part_of old
  pub rough : rough_of new ≡ rough_of old
  pub faults : region_faults new ≡ region_faults old

abbrev pub ArmsRegion : Option MemRegion → Option MemRegion → Type 0
ArmsRegion None new = ⊥
ArmsRegion (Some old) None = ⊥
ArmsRegion (Some old) (Some new) = IsArmed old new

-- the same of a part that is lent
pub record IsArmedLoan (old new : ReadLoan MemRegion) : Type 0 where
  pub tree : loan_tree new ≡ loan_tree old
  pub region : IsArmed (loan_region old) (loan_region new)

abbrev pub ArmsLoan : Option (ReadLoan MemRegion) → Option (ReadLoan MemRegion) → Type 0
ArmsLoan None new = ⊥
ArmsLoan (Some old) None = ⊥
ArmsLoan (Some old) (Some new) = IsArmedLoan old new

-- of a job's region and the part that is lent to it that one is armed which the next call is on; where it is on the store, neither is
abbrev pub ArmsAt : Spot → Option MemRegion → Option MemRegion → Option (ReadLoan MemRegion) → Option (ReadLoan MemRegion) → Type 0
ArmsAt part_call before now lent lending = ArmsRegion before now × (lending ≡ lent)
ArmsAt loan_call before now lent lending = (now ≡ before) × ArmsLoan lent lending
ArmsAt store_call before now lent lending = (now ≡ before) × (lending ≡ lent)

-- the same of a job that may have ended, which makes no call
abbrev pub ArmsNext : Bool → Spot → Option MemRegion → Option MemRegion → Option (ReadLoan MemRegion) → Option (ReadLoan MemRegion) → Type 0
ArmsNext true spot before now lent lending = (now ≡ before) × (lending ≡ lent)
ArmsNext false spot before now lent lending = ArmsAt spot before now lent lending
