-- Counts of faults: a fault is answered only where the count rose.
use Rattle.std.specs.Prelude.{◌≡◌, ℕ, ◌+◌, ◌-◌, ◌^◌, ◌≤◌, min, Bool, true, if◌then◌else◌}

-- a count after one more: it stands at the last number that 64 bits hold
abbrev pub risen : ℕ → ℕ
risen count = min (count + 1) (2 ^ 64 - 1)

-- two counts together, but at most that number
abbrev pub counted : ℕ → ℕ → ℕ
counted count more = min (count + more) (2 ^ 64 - 1)

-- the faults after a call that failed or did not
abbrev pub faults_after : Bool → ℕ → ℕ
faults_after failed faults = if failed then risen faults else faults

-- a count rose; one that stands at its last number counts as risen
abbrev pub Rose : ℕ → ℕ → Type 0
Rose before now = risen before ≤ now

-- a call that begins and ends at these counts of faults may answer that it failed
pub record HasCause (before now : ℕ) (failed : Bool) : Type 0 where
  pub later : before ≤ now
  pub rose : failed ≡ true → Rose before now
