-- A search by halves among things in strict order of name.
use Rattle.mat_path.proofs.PathLemmas.{lt_less}
use Rattle.mat_path.proofs.SameNames.{same_name-eq}
use Rattle.std.proofs.Common.{◌≡◌, ◌<◌, ◌≤◌, ℕ, zero, suc, Bool, true, List, [], ◌∷◌, map, length, get_or, Ordering, Less, Equal, Greater, is_eq, refl, ◌∙◌, sym, ap, arith}
use Rattle.std.proofs.lemmas.Cmp.{nat_list_cmp_total}
use Rattle.std.specs.Cmp.{first_so, second_so}
use Rattle.std.specs.Cmp.Lexicographic.{texts_ties}
use Rattle.std.specs.List.{list_all}
use Rattle.std.specs.Ordering.{is_lt, ordering_index}
use Rattle.mat_path.specs.Names.{name_cmp}

-- an answer stands at most at the place of the greatest one
pub index_small : (o : Ordering) → ordering_index o ≤ 2
index_small Less = omega arith
index_small Equal = omega arith
index_small Greater = omega arith

-- of two names in order the first stands no later to a third name
pub earlier : (a b name : List ℕ) → is_lt (name_cmp a b) ≡ true → ordering_index (name_cmp a name) ≤ ordering_index (name_cmp b name)
earlier a b name e = by (name_cmp b name) refl
  where
    by : (o : Ordering) → name_cmp b name ≡ o → ordering_index (name_cmp a name) ≤ ordering_index o
    by Less q =
        let less : name_cmp a name ≡ Less = nat_list_cmp_total.trans a b name (lt_less (name_cmp a b) e) q in
        let none : ordering_index (name_cmp a name) ≡ 0 = ap ordering_index less in omega (arith, none)
    by Equal q =
        let same : b ≡ name = same_name-eq b name (texts_ties b name ∙ ap is_eq q) in
        let less : name_cmp a name ≡ Less = ap (name_cmp a) (sym same) ∙ lt_less (name_cmp a b) e in
        let none : ordering_index (name_cmp a name) ≡ 0 = ap ordering_index less in omega (arith, none)
    by Greater q = index_small (name_cmp a name)

-- a test that all of a list pass is passed at each of its places
pub all_at : {X : Type 0} (p : X → Bool) (xs : List X) (k : ℕ) (d : X) → list_all p xs ≡ true → k < length xs → p (get_or xs k d) ≡ true
all_at p [] k d e h = absurd (omega arith)
all_at p (x ∷ xs) zero d e h = first_so (p x) (list_all p xs) e
all_at p (x ∷ xs) (suc k) d e h = all_at p xs k d (second_so (p x) (list_all p xs) e) (omega arith)

-- a test that the names of all things pass is passed by the name at each place
pub named_at : {X : Type 0} (name_of : X → List ℕ) (p : List ℕ → Bool) (xs : List X) (k : ℕ) (d : X) → list_all p (map name_of xs) ≡ true → k < length xs
    → p (name_of (get_or xs k d)) ≡ true
named_at name_of p [] k d e h = absurd (omega arith)
named_at name_of p (x ∷ xs) zero d e h = first_so (p (name_of x)) (list_all p (map name_of xs)) e
named_at name_of p (x ∷ xs) (suc k) d e h = named_at name_of p xs k d (second_so (p (name_of x)) (list_all p (map name_of xs)) e) (omega arith)
