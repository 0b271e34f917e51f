-- Lists in strict order.
use Rattle.std.proofs.Common.{◌≡◌, Bool, true, false, List, [], ◌∷◌, ◌++◌, refl}
use Rattle.std.proofs.lemmas.Bool.{and_from}
use Rattle.std.specs.Cmp.{first_so, second_so}
use Rattle.std.specs.List.{filter, list_all}
use Rattle.std.proofs.Common.{cond}
use Rattle.path_trie.specs.Entries.{are_in_turn}
use Rattle.path_trie.proofs.Lists.{all_filter, all_join, all_left, all_right, all_so}

pub asc_left : {X : Type 0} (lt : X → X → Bool) (xs ys : List X) → are_in_turn lt (xs ++ ys) ≡ true → are_in_turn lt xs ≡ true
asc_left lt [] ys e = refl
asc_left lt (x ∷ xs) ys e =
    and_from (list_all (lt x) xs) (are_in_turn lt xs) (all_left (lt x) xs ys (first_so (list_all (lt x) (xs ++ ys)) (are_in_turn lt (xs ++ ys)) e))
    (asc_left lt xs ys (second_so (list_all (lt x) (xs ++ ys)) (are_in_turn lt (xs ++ ys)) e))

pub asc_right : {X : Type 0} (lt : X → X → Bool) (xs ys : List X) → are_in_turn lt (xs ++ ys) ≡ true → are_in_turn lt ys ≡ true
asc_right lt [] ys e = e
asc_right lt (x ∷ xs) ys e = asc_right lt xs ys (second_so (list_all (lt x) (xs ++ ys)) (are_in_turn lt (xs ++ ys)) e)

-- without an element
pub asc_without : {X : Type 0} (lt : X → X → Bool) (xs ys : List X) (y : X) → are_in_turn lt (xs ++ (y ∷ ys)) ≡ true → are_in_turn lt (xs ++ ys) ≡ true
asc_without lt [] ys y e = second_so (list_all (lt y) ys) (are_in_turn lt ys) e
asc_without lt (x ∷ xs) ys y e =
    let all = first_so (list_all (lt x) (xs ++ (y ∷ ys))) (are_in_turn lt (xs ++ (y ∷ ys))) e in
    and_from (list_all (lt x) (xs ++ ys)) (are_in_turn lt (xs ++ ys))
    (all_join (lt x) xs ys (all_left (lt x) xs (y ∷ ys) all) (second_so (lt x y) (list_all (lt x) ys) (all_right (lt x) xs (y ∷ ys) all)))
    (asc_without lt xs ys y (second_so (list_all (lt x) (xs ++ (y ∷ ys))) (are_in_turn lt (xs ++ (y ∷ ys))) e))

-- around an element
pub asc_around : {X : Type 0} (lt : X → X → Bool) → ((a b c : X) → lt a b ≡ true → lt b c ≡ true → lt a c ≡ true) → (xs ys : List X) (y : X)
    → are_in_turn lt xs ≡ true → are_in_turn lt ys ≡ true → list_all (λ x. lt x y) xs ≡ true → list_all (lt y) ys ≡ true
    → are_in_turn lt (xs ++ (y ∷ ys)) ≡ true
asc_around lt trans [] ys y f b below above = and_from (list_all (lt y) ys) (are_in_turn lt ys) above b
asc_around lt trans (x ∷ xs) ys y f b below above =
    let less = first_so (lt x y) (list_all (λ z. lt z y) xs) below in
    and_from (list_all (lt x) (xs ++ (y ∷ ys))) (are_in_turn lt (xs ++ (y ∷ ys)))
    (all_join (lt x) xs (y ∷ ys) (first_so (list_all (lt x) xs) (are_in_turn lt xs) f)
    (and_from (lt x y) (list_all (lt x) ys) less (all_so (lt y) (lt x) (λ z h. trans x y z less h) ys above)))
    (asc_around lt trans xs ys y (second_so (list_all (lt x) xs) (are_in_turn lt xs) f) b (second_so (lt x y) (list_all (λ z. lt z y) xs) below) above)

-- those that pass a test
pub asc_filter : {X : Type 0} (lt : X → X → Bool) (t : X → Bool) (xs : List X) → are_in_turn lt xs ≡ true → are_in_turn lt (filter t xs) ≡ true
asc_filter lt t [] e = refl
asc_filter lt t (x ∷ xs) e = by (t x) (asc_filter lt t xs (second_so (list_all (lt x) xs) (are_in_turn lt xs) e))
  where
    by : (b : Bool) → are_in_turn lt (filter t xs) ≡ true → are_in_turn lt (cond b (x ∷ filter t xs) (filter t xs)) ≡ true
    by true f = and_from (list_all (lt x) (filter t xs)) (are_in_turn lt (filter t xs)) (all_filter (lt x) t xs (first_so (list_all (lt x) xs) (are_in_turn lt xs) e)) f
    by false f = f

-- two lists, where each element of the first is so to each of the second
pub asc_join : {X : Type 0} (lt : X → X → Bool) (p q : X → Bool) → ((x y : X) → p x ≡ true → q y ≡ true → lt x y ≡ true) → (xs ys : List X)
    → are_in_turn lt xs ≡ true → are_in_turn lt ys ≡ true → list_all p xs ≡ true → list_all q ys ≡ true → are_in_turn lt (xs ++ ys) ≡ true
asc_join lt p q less [] ys f g h k = g
asc_join lt p q less (x ∷ xs) ys f g h k =
    and_from (list_all (lt x) (xs ++ ys)) (are_in_turn lt (xs ++ ys))
    (all_join (lt x) xs ys (first_so (list_all (lt x) xs) (are_in_turn lt xs) f) (all_so q (lt x) (λ y e. less x y (first_so (p x) (list_all p xs) h) e) ys k))
    (asc_join lt p q less xs ys (second_so (list_all (lt x) xs) (are_in_turn lt xs) f) g (second_so (p x) (list_all p xs) h) k)
