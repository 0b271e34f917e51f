-- A file that is read: what the bytes given for it come to.
use Rattle.std.specs.Prelude.{◌≡◌, ◌==◌, ◌&&◌, ◌||◌, ℕ, Bool, true, false, not, if◌then◌else◌, List, ◌++◌, length, Option, Some, None}
use Rattle.mat_model.specs.declared.entries.Outcome.{Outcome}
use Rattle.mat_model.specs.declared.entries.Outcome.TheVariants as outcome
use Rattle.mat_digest.specs.Digests.{digest_of}
use Rattle.mat_digest.specs.Fed.{HasTaken}
use Rattle.mat_digest.specs.declared.digest.Digest.{Digest}
use Rattle.mat_tree.specs.Trees.{same_digest}
use Rattle.job_run.specs.Pieces.{is_last, most_bytes}
use Rattle.job_run.specs.declared.reading.Reading.{Reading}
use Rattle.job_run.specs.declared.reading.Taken.{Taken}
use Rattle.job_run.specs.declared.reading.Taken.TheVariants as taken

-- these bytes were given for a file so far, and its check has taken each of them once
pub record HasGiven (reading : Reading) (given : List ℕ) : Type 0 where
  pub at : reading.at ≡ length given
  pub taken : HasTaken reading.check given

-- whether a piece behind the bytes given is whole, and more are due behind it
abbrev pub goes_on : Digest → List ℕ → List ℕ → Bool
goes_on wanted given piece = not (is_last wanted.size (length given)) && (length piece == most_bytes)

-- whether a piece is the last, and all bytes have the digest of the file
abbrev pub completes : Digest → List ℕ → List ℕ → Bool
completes wanted given piece = is_last wanted.size (length given) && same_digest (digest_of (given ++ piece)) wanted

-- what a piece behind the bytes given comes to: it may be put in the first two cases alone, and the digest found is that of all bytes
abbrev pub Takes : Digest → List ℕ → List ℕ → Taken → Type 0
Takes wanted given piece (taken.More reading) = (goes_on wanted given piece ≡ true) × HasGiven reading (given ++ piece)
Takes wanted given piece taken.Last = completes wanted given piece ≡ true
Takes wanted given piece (taken.Wrong found) =
    (goes_on wanted given piece ≡ false) × (completes wanted given piece ≡ false) × (found ≡ digest_of (given ++ piece))

-- whether a file that is read on has some of its bytes
abbrev pub is_later : Taken → Bool
is_later (taken.More reading) = not (reading.at == 0)
is_later taken.Last = true
is_later (taken.Wrong found) = true

-- how the bytes of a file fail that are read where nothing else has them: all bytes given have the digest found
abbrev pub judged : Digest → List ℕ → List ℕ → Option Outcome
judged wanted given piece =
    if goes_on wanted given piece || completes wanted given piece then None else Some (outcome.Corrupt wanted (digest_of (given ++ piece)))
