-- What a store gave for a file so far, and how many files are still asked for.
use Rattle.std.proofs.Common.{suc, zero, ◌≡◌, ◌==◌, ◌≤◌, ◌+◌, ℕ, Bool, true, false, if◌then◌else◌, List, [], ◌∷◌, ◌++◌, min, ◌^◌, ◌-◌, length, take, drop, Option, Some, None, refl, sym, ap, subst, arith}
use Rattle.fetch_port.specs.Fetches.{Blobs, GivesPiece, asks_after, held_at}
use Rattle.mat_digest.specs.declared.digest.Digest.{Digest}
use Rattle.write_plan.specs.declared.method.Method.{Method}
use Rattle.write_plan.specs.declared.method.Method.TheVariants as method
use Rattle.write_plan.specs.declared.method.Origin.TheVariants as origin
use Rattle.job_run.specs.Orders.{own_supply}
use Rattle.job_run.specs.Readings.{HasGiven, Takes}
use Rattle.job_run.specs.Stages.{own_asks, supply_asks}
use Rattle.job_run.specs.StoreCalls.{AreFirst, IsFrom}
use Rattle.job_run.specs.declared.reading.Reading.{Reading}
use Rattle.job_run.specs.declared.reading.Taken.TheVariants as taken

-- no bytes were given yet
none_first : (held : Option (Option (List ℕ))) → AreFirst held []
none_first None = tt
none_first (Some None) = refl
none_first (Some (Some bytes)) = refl

pub none_given : (blobs : Option Blobs) (wanted : Digest) (reading : Reading) → HasGiven reading [] → IsFrom blobs wanted reading
none_given blobs wanted reading has = record { given = []; has = has; first = none_first (held_at blobs wanted) }

-- a row's own bytes are asked for as its own supply says
pub own_same : (way : Method) → supply_asks way (own_supply way) ≡ own_asks (own_supply way)
own_same (method.Write bytes) = refl
own_same method.Fetch = refl
own_same (method.Copy source rest stamp (origin.Inline bytes)) = refl
own_same (method.Copy source rest stamp origin.Store) = refl

-- a call at an offset begins one fetch at most
pub asks_rise : (at asks : ℕ) → asks_after at asks ≤ asks + (if at == 0 then 1 else 0)
asks_rise at asks = by (at == 0) refl
  where
    by : (b : Bool) → (at == 0) ≡ b → (if b then min (asks + 1) (2 ^ 64 - 1) else asks) ≤ asks + (if b then 1 else 0)
    by true is = omega arith
    by false is = omega arith

take_short : (most : ℕ) (bytes : List ℕ) → take most bytes ≡ take (length (take most bytes)) bytes
take_short zero bytes = refl
take_short (suc most) [] = refl
take_short (suc most) (x ∷ bytes) = ap (λ l. x ∷ l) (take_short most bytes)

-- a piece of the bytes held behind the first ones
more_first : (held given piece : List ℕ) (most : ℕ) → given ≡ take (length given) held → piece ≡ take most (drop (length given) held) →
    given ++ piece ≡ take (length (given ++ piece)) held
more_first held [] piece most first more = subst (λ (p : List ℕ). p ≡ take (length p) held) (sym more) (take_short most held)
more_first [] (x ∷ given) piece most first more = cc
more_first (y ∷ held) (x ∷ given) piece most first more =
    let rest : given ++ piece ≡ take (length (given ++ piece)) held = more_first held given piece most (ap (drop 1) first) more in
    let same : x ∷ given ≡ y ∷ take (length given) held = first in
    cc

next_first : (held : Option (Option (List ℕ))) (given piece : List ℕ) (most at : ℕ) → at ≡ length given → AreFirst held given → GivesPiece held at most piece →
    AreFirst held (given ++ piece)
next_first None given piece most at is first gives = tt
next_first (Some None) given piece most at is first gives = elim gives as (λ _. given ++ piece ≡ []) [ ]
next_first (Some (Some held)) given piece most at is first gives =
    more_first held given piece most first (subst (λ (n : ℕ). piece ≡ take most (drop n held)) is gives)

-- a piece that is taken, of what a store holds
pub gets_from : (blobs : Option Blobs) (wanted : Digest) (old new : Reading) (piece : List ℕ) (most : ℕ) →
    ((given : List ℕ) → HasGiven old given → Takes wanted given piece (taken.More new)) → GivesPiece (held_at blobs wanted) old.at most piece →
    IsFrom blobs wanted old → IsFrom blobs wanted new
gets_from blobs wanted old new piece most takes gives from = record {
  given = from.given ++ piece;
  has = (takes from.given from.has).1;
  first = next_first (held_at blobs wanted) from.given piece most old.at from.has.at from.first gives;
}
