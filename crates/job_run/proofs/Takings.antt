-- What a piece of a file comes to.
use Rattle.std.proofs.Common.{◌≡◌, ◌==◌, ◌&&◌, ℕ, Bool, true, false, not, if◌then◌else◌, List, ◌++◌, length, refl, ap, sym, ◌∙◌, subst}
use Rattle.mat_digest.specs.Digests.{digest_of}
use Rattle.mat_digest.specs.declared.digest.Digest.{Digest}
use Rattle.mat_tree.specs.Trees.{same_digest}
use Rattle.job_run.specs.Pieces.{is_last, most_bytes}
use Rattle.job_run.specs.Readings.{Takes, completes, goes_on}
use Rattle.job_run.specs.declared.reading.Taken.TheVariants as taken

-- behind the last piece nothing is due
none_due : (wanted : Digest) (given piece : List ℕ) → is_last wanted.size (length given) ≡ true → goes_on wanted given piece ≡ false
none_due wanted given piece last = ap (λ b. not b && (length piece == most_bytes)) last

-- a piece that isn't the last completes nothing
none_complete : (wanted : Digest) (given piece : List ℕ) → is_last wanted.size (length given) ≡ false → completes wanted given piece ≡ false
none_complete wanted given piece more = ap (λ b. b && same_digest (digest_of (given ++ piece)) wanted) more

-- what the last piece comes to
pub last_takes : (wanted : Digest) (given piece : List ℕ) (at : ℕ) (found : Digest) → at ≡ length given → is_last wanted.size at ≡ true →
    found ≡ digest_of (given ++ piece) → Takes wanted given piece (if same_digest found wanted then taken.Last else taken.Wrong found)
last_takes wanted given piece at found here last is =
    subst (λ (d : Digest). Takes wanted given piece (if same_digest d wanted then taken.Last else taken.Wrong d)) (sym is)
    (by (same_digest (digest_of (given ++ piece)) wanted) refl)
  where
    ends : is_last wanted.size (length given) ≡ true
    ends = ap (is_last wanted.size) (sym here) ∙ last

    by : (b : Bool) → same_digest (digest_of (given ++ piece)) wanted ≡ b →
        Takes wanted given piece (if b then taken.Last else taken.Wrong (digest_of (given ++ piece)))
    by true same =
        ap (λ b. b && same_digest (digest_of (given ++ piece)) wanted) ends ∙ same
    by false other =
        (none_due wanted given piece ends, ap (λ b. b && same_digest (digest_of (given ++ piece)) wanted) ends ∙ other, refl)

-- a whole piece that isn't the last
pub more_goes_on : (wanted : Digest) (given piece : List ℕ) (at : ℕ) → at ≡ length given → is_last wanted.size at ≡ false →
    length piece ≡ most_bytes → goes_on wanted given piece ≡ true
more_goes_on wanted given piece at here more whole =
    ap (λ b. not b && (length piece == most_bytes)) (ap (is_last wanted.size) (sym here) ∙ more) ∙ ap (λ (n : ℕ). n == most_bytes) whole

-- a piece of another length that isn't the last
pub wrong_takes : (wanted : Digest) (given piece : List ℕ) (at : ℕ) (found : Digest) → at ≡ length given → is_last wanted.size at ≡ false →
    (length piece == most_bytes) ≡ false → found ≡ digest_of (given ++ piece) → Takes wanted given piece (taken.Wrong found)
wrong_takes wanted given piece at found here more other is = (
  ap (λ b. not b && (length piece == most_bytes)) (ap (is_last wanted.size) (sym here) ∙ more) ∙ other,
  none_complete wanted given piece (ap (is_last wanted.size) (sym here) ∙ more),
  is,
)
