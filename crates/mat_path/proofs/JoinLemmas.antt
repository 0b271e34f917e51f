-- What joining two lists of names rests on.
use Rattle.std.proofs.Common.{◌≡◌, ℕ, ◌+◌, ◌≤◌, Bool, true, ◌&&◌, leb, List, [], ◌∷◌, ◌++◌, length, Fits, w64, sum_by, refl, sym, ap, ap₂, ◌∙◌, arith, length-append}
use Rattle.std.proofs.Math.Bool.{and-true}
use Rattle.std.specs.List.{list_all}
use Rattle.std.proofs.lemmas.Bool.{and_parts, leb-true, le-leb}
use Rattle.std.proofs.lemmas.Bool.Decides.{nat_tests}
use Rattle.std.proofs.lemmas.List.Folds.{list_all-append}
use Rattle.std.proofs.lemmas.List.Sums.{sum_by-cons, sum_by-append}
use Rattle.mat_path.specs.Names.{slot, is_name, joined, is_rel}

-- with a slash behind it too, the text of names is as long as their slots
slots_are : (name : List ℕ) (names : List (List ℕ)) → length (joined (name ∷ names)) + 1 ≡ sum_by slot (name ∷ names)
slots_are name [] = omega (arith, sum_by-cons slot name [])
slots_are name (next ∷ names) =
    omega (arith, sum_by-cons slot name (next ∷ names), length-append name (47 ∷ joined (next ∷ names)), slots_are next names)

-- the text is short enough exactly where the slots are few enough
short_is : (names : List (List ℕ)) → leb (length (joined names)) 1024 ≡ leb (sum_by slot names) 1025
short_is [] = refl
short_is (name ∷ names) = one_more (length (joined (name ∷ names))) (sum_by slot (name ∷ names)) (slots_are name names)
  where
    one_more : (a b : ℕ) → a + 1 ≡ b → leb a 1024 ≡ leb b 1025
    one_more a b h = grind (arith, nat_tests)

-- the text of names is no shorter with one more in front
pub joined-tail : (name : List ℕ) (names : List (List ℕ)) → length (joined names) ≤ length (joined (name ∷ names))
joined-tail name [] = omega arith
joined-tail name (next ∷ names) = omega (arith, length-append name (47 ∷ joined (next ∷ names)))

-- the parts of a rel
rel_short : (names : List (List ℕ)) → is_rel names ≡ true → leb (length (joined names)) 1024 ≡ true
rel_short names h = (and_parts (leb (length names) 64) (leb (length (joined names)) 1024) (and_parts (leb (length names) 64 && leb (length (joined names)) 1024) (list_all is_name names) h).0).1

rel_named : (names : List (List ℕ)) → is_rel names ≡ true → list_all is_name names ≡ true
rel_named names h = (and_parts (leb (length names) 64 && leb (length (joined names)) 1024) (list_all is_name names) h).1

-- the names of a rel and their slashes are few enough bytes
pub slots_bound : (names : List (List ℕ)) → is_rel names ≡ true → sum_by slot names ≤ 1025
slots_bound names h = leb-true (sum_by slot names) 1025 (sym (short_is names) ∙ rel_short names h)

-- the slots of two rels add up without overflow
pub slots_fit : (front back : List (List ℕ)) (s t : ℕ) → is_rel front ≡ true → is_rel back ≡ true → s ≡ sum_by slot front → t ≡ sum_by slot back → Fits w64 (s + t)
slots_fit front back s t h k is are = omega (arith, slots_bound front h, slots_bound back k)

-- two rels are a rel, one behind the other, exactly where their slots are few enough
pub joins_is : (front back : List (List ℕ)) (s t : ℕ) → is_rel front ≡ true → is_rel back ≡ true → length front + length back ≤ 64 → s ≡ sum_by slot front → t ≡ sum_by slot back → leb (s + t) 1025 ≡ is_rel (front ++ back)
joins_is front back s t h k few is are =
    let count : leb (length (front ++ back)) 64 ≡ true = le-leb (length (front ++ back)) 64 (omega (arith, length-append front back)) in
    let short : leb (length (joined (front ++ back))) 1024 ≡ leb (s + t) 1025 =
    short_is (front ++ back) ∙ ap (λ (n : ℕ). leb n 1025) (sum_by-append slot front back ∙ ap₂ (λ (a b : ℕ). a + b) (sym is) (sym are)) in
    let named : list_all is_name (front ++ back) ≡ true = list_all-append is_name front back ∙ ap₂ (λ (a b : Bool). a && b) (rel_named front h) (rel_named back k) in
    sym (ap₂ (λ (a b : Bool). a && b) (ap₂ (λ (a b : Bool). a && b) count short) named ∙ and-true (leb (s + t) 1025))
