-- What a device that can be made to fail tells of its calls.
use Rattle.std.specs.Prelude.{◌≡◌, ℕ, Bool, true, false, Option, Some, None}
use Rattle.mat_io.specs.Causes.{faults_after, risen}

-- how many calls there were, up to the last number that 64 bits hold, and whether the next one is to fail
pub record Watch : Type 0 where
  pub calls : ℕ
  pub armed : Bool

-- what it tells after one call
abbrev pub after_call : Watch → Watch
after_call watch = record { calls = risen watch.calls; armed = false }

-- what it tells once it is armed
abbrev pub when_armed : Watch → Watch
when_armed watch = record { calls = watch.calls; armed = true }

-- a call fails exactly where the device was armed, if that is told
abbrev pub FailsSo : Option Watch → Bool → Type 0
FailsSo None failed = Unit {0}
FailsSo (Some watch) failed = failed ≡ watch.armed

-- the faults rise by one in a call that fails and in no other, where a device tells its calls
abbrev pub CountsSo : {T : Type 0} → Option T → ℕ → ℕ → Bool → Type 0
CountsSo None before now failed = Unit {0}
CountsSo (Some watch) before now failed = now ≡ faults_after failed before
