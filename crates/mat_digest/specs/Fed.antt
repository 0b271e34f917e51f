-- What a check has taken.
use Rattle.std.specs.Prelude.{◌≡◌, ℕ, List, length}
use Rattle.sha2.specs.Hashers.{Holds256}
use Rattle.mat_digest.specs.declared.check.Check.{Check}

-- the check has taken these bytes, in pieces of any length
pub record HasTaken (check : Check) (bytes : List ℕ) : Type 0 where
  pub hash : Holds256 check.hasher bytes
  pub size : check.size ≡ length bytes
