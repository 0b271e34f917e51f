-- Tests of two lists together, of lengths with one more, and of what a call gave.
use Rattle.std.proofs.lemmas.Bool.{and_from}
use Rattle.std.specs.Cmp.{first_so, second_so}
use Rattle.std.proofs.lemmas.Bool.Decides.{nat_tests}
use Rattle.std.proofs.Common.{◌≡◌, ℕ, suc, nat_lt, arith, Bool, true, List, ◌++◌, ◌∙◌, sym}
use Rattle.std.specs.Result.{OnOk}
use Rattle.std.specs.declared.result.Result.{Result}
use Rattle.std.specs.declared.result.Result.TheVariants.{Ok, Err}
use Rattle.std.specs.List.{list_all}
use Rattle.std.proofs.lemmas.List.Folds.{list_all-append}

-- where all of two lists pass a test, all of the first one do
pub all_left : {X : Type 0} (p : X → Bool) (xs ys : List X) → list_all p (xs ++ ys) ≡ true → list_all p xs ≡ true
all_left p xs ys e = first_so (list_all p xs) (list_all p ys) (sym (list_all-append p xs ys) ∙ e)

-- where all of two lists pass a test, all of the second one do
pub all_right : {X : Type 0} (p : X → Bool) (xs ys : List X) → list_all p (xs ++ ys) ≡ true → list_all p ys ≡ true
all_right p xs ys e = second_so (list_all p xs) (list_all p ys) (sym (list_all-append p xs ys) ∙ e)

-- where all of each of two lists pass a test, all of both do
pub all_join : {X : Type 0} (p : X → Bool) (xs ys : List X) → list_all p xs ≡ true → list_all p ys ≡ true → list_all p (xs ++ ys) ≡ true
all_join p xs ys e f = list_all-append p xs ys ∙ and_from (list_all p xs) (list_all p ys) e f

-- what is true where a call succeeds, and so what follows from it
pub on_ok : {A E P Q : Type 0} (r : Result A E) → (P → Q) → OnOk r P → OnOk r Q
on_ok (Ok a) f p = f p
on_ok (Err e) f p = tt

-- one more on both sides leaves which of two numbers is less
pub lt_suc : (m n : ℕ) → nat_lt (suc m) (suc n) ≡ nat_lt m n
lt_suc m n = grind (arith, nat_tests)
