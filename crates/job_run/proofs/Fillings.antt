-- How the bytes of a file first come, by where they come from.
use Rattle.std.proofs.Common.{◌≡◌, ℕ, Bool, true, false, if◌then◌else◌, List, [], Option, refl, sym, ap, ◌∙◌, subst, arith}
use Rattle.std.specs.Option.{ForSome}
use Rattle.mat_digest.specs.Digests.{digest_of}
use Rattle.mat_digest.specs.declared.digest.Digest.{Digest}
use Rattle.mat_tree.specs.Parts.{Part}
use Rattle.mat_tree.specs.declared.flat.Flat.{Flat}
use Rattle.write_plan.specs.Plans.{is_empty, method_supply, supply_of}
use Rattle.write_plan.specs.declared.act.Supply.{Supply}
use Rattle.write_plan.specs.declared.act.Supply.TheVariants as supply
use Rattle.write_plan.specs.declared.method.Method.{Method}
use Rattle.write_plan.specs.declared.method.Method.TheVariants as method
use Rattle.write_plan.specs.declared.method.Origin.TheVariants as origin
use Rattle.job_run.specs.Begun.{BeginsFrom, is_known, supply_from}
use Rattle.job_run.specs.Growing.{HasElsewhere}
use Rattle.job_run.specs.Orders.{held_bytes, is_right_from, own_supply}
use Rattle.job_run.specs.Stages.{IsFilling, may_read}
use Rattle.job_run.specs.declared.states.Filing.{Filing}
use Rattle.job_run.specs.declared.states.Filling.{Filling}
use Rattle.job_run.specs.declared.states.Filling.TheVariants as filling
use Rattle.job_run.specs.declared.states.Source.{Source}
use Rattle.job_run.specs.declared.states.Source.TheVariants as source
use Rattle.job_run.proofs.Grown.{grows_none}
use Rattle.job_run.proofs.DigestLemmas.{same_digest-eq}

-- what a supply has to say for a file
pub record Serves (way : Method) (lent : Bool) (digest : Digest) (from : Supply) : Type 0 where
  pub right : is_known from ≡ true → digest_of (held_bytes way) ≡ digest
  pub some : is_known from ≡ false → is_empty digest ≡ false
  pub source : (read : Source) → supply_from read ≡ from → may_read way lent read ≡ true

-- what is read isn't known
unknown : (read : Source) → is_known (supply_from read) ≡ false
unknown source.Store = refl
unknown (source.Loan rel) = refl

-- the bytes of a file come from there, and none was put yet
pub filling_from : (way : Method) (lent : Bool) (filing : Filing) (nodes : List Flat) (part : Option Part) (from : Supply) (how : Filling) →
    Serves way lent filing.digest from → ForSome part (HasElsewhere filing.rel nodes) → BeginsFrom from how → IsFilling way lent filing nodes part how
filling_from way lent filing nodes part from (filling.Held at) serves has begins =
    subst (λ (n : ℕ). IsFilling way lent filing nodes part (filling.Held n)) (sym begins.0)
    (record { within = omega arith; right = serves.right begins.1; grows = grows_none filing.rel filing.exec nodes part has })
filling_from way lent filing nodes part from (filling.Due read reading) serves has begins = record {
  given = [];
  has = begins.1;
  within = omega arith;
  grows = grows_none filing.rel filing.exec nodes part has;
  source = serves.source read begins.0;
  some = serves.some (ap is_known (sym begins.0) ∙ unknown read);
}
filling_from way lent filing nodes part from (filling.Got read at piece more) serves has begins = elim begins as (λ _. IsFilling way lent filing nodes part (filling.Got read at piece more)) [ ]

-- a row's own bytes are never lent
own_read : (way : Method) (lent : Bool) (rel : List (List ℕ)) (read : Source) → supply_from read ≡ method_supply way false rel → may_read way lent read ≡ true
own_read (method.Write bytes) lent rel source.Store is = cc
own_read method.Fetch lent rel source.Store is = refl
own_read (method.Copy from rest stamp (origin.Inline bytes)) lent rel source.Store is = cc
own_read (method.Copy from rest stamp origin.Store) lent rel source.Store is = refl
own_read (method.Write bytes) lent rel (source.Loan at) is = cc
own_read method.Fetch lent rel (source.Loan at) is = cc
own_read (method.Copy from rest stamp (origin.Inline bytes)) lent rel (source.Loan at) is = cc
own_read (method.Copy from rest stamp origin.Store) lent rel (source.Loan at) is = cc

-- the bytes that a row holds are right for its own files
own_right : (way : Method) (rel : List (List ℕ)) (digest : Digest) → is_right_from (own_supply way) (held_bytes way) digest ≡ true →
    is_known (method_supply way false rel) ≡ true → digest_of (held_bytes way) ≡ digest
own_right (method.Write bytes) rel digest right known = same_digest-eq (digest_of bytes) digest right
own_right method.Fetch rel digest right known = cc
own_right (method.Copy from rest stamp (origin.Inline bytes)) rel digest right known = same_digest-eq (digest_of bytes) digest right
own_right (method.Copy from rest stamp origin.Store) rel digest right known = cc

-- a row's own bytes for a file that has some
pub own_serves : (way : Method) (lent : Bool) (digest : Digest) → is_right_from (own_supply way) (held_bytes way) digest ≡ true → is_empty digest ≡ false →
    Serves way lent digest (own_supply way)
own_serves way lent digest right some = record {
  right = λ known. own_right way [] digest right known;
  some = λ off. some;
  source = λ read is. own_read way lent [] read is;
}

-- bytes of the empty digest
empty_right : (way : Method) (digest : Digest) → is_right_from (own_supply way) (held_bytes way) digest ≡ true → is_empty digest ≡ true →
    digest_of (held_bytes way) ≡ digest
empty_right (method.Write bytes) digest right none = same_digest-eq (digest_of bytes) digest right
empty_right method.Fetch digest right none = sym (same_digest-eq digest (digest_of []) none)
empty_right (method.Copy from rest stamp (origin.Inline bytes)) digest right none = same_digest-eq (digest_of bytes) digest right
empty_right (method.Copy from rest stamp origin.Store) digest right none = sym (same_digest-eq digest (digest_of []) none)

-- the bytes that a plan gives a file
pub plan_serves : (way : Method) (lent : Bool) (rel : List (List ℕ)) (digest : Digest) → is_right_from (own_supply way) (held_bytes way) digest ≡ true →
    Serves way lent digest (supply_of way lent rel digest)
plan_serves way lent rel digest right = by (is_empty digest) refl
  where
    none_read : (read : Source) → supply_from read ≡ supply.Empty → may_read way lent read ≡ true
    none_read source.Store is = cc
    none_read (source.Loan at) is = cc

    some_read : (way : Method) (lent : Bool) (read : Source) → supply_from read ≡ method_supply way lent rel → may_read way lent read ≡ true
    some_read way false read is = own_read way false rel read is
    some_read (method.Write bytes) true source.Store is = cc
    some_read method.Fetch true source.Store is = refl
    some_read (method.Copy from rest stamp origin) true source.Store is = cc
    some_read way true (source.Loan at) is = refl

    some_right : (way : Method) (lent : Bool) → is_right_from (own_supply way) (held_bytes way) digest ≡ true → is_known (method_supply way lent rel) ≡ true →
        digest_of (held_bytes way) ≡ digest
    some_right way false right known = own_right way rel digest right known
    some_right (method.Write bytes) true right known = same_digest-eq (digest_of bytes) digest right
    some_right method.Fetch true right known = cc
    some_right (method.Copy from rest stamp origin) true right known = cc

    by : (b : Bool) → is_empty digest ≡ b → Serves way lent digest (if b then supply.Empty else method_supply way lent rel)
    by true none = record {
      right = λ known. empty_right way digest right none;
      some = λ (off : true ≡ false). cc;
      source = λ read is. none_read read is;
    }
    by false some = record {
      right = λ known. some_right way lent right known;
      some = λ off. some;
      source = λ read is. some_read way lent read is;
    }
