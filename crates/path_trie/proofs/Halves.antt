-- A search by halves among children in strict order of name.
use Rattle.mat_path.proofs.SameNames.{same_name-eq, same_name-sym}
use Rattle.mat_path.proofs.Halves.{all_at, earlier, named_at}
use Rattle.mat_path.proofs.PathLemmas.{lt_less}
use Rattle.std.specs.Cmp.{first_so, second_so}
use Rattle.std.specs.Cmp.Lexicographic.{texts_ties}
use Rattle.std.proofs.Common.{◌≡◌, ◌<◌, ◌≤◌, ℕ, zero, suc, Bool, true, false, List, [], ◌∷◌, map, length, take, drop, get_or, refl, ◌∙◌, sym, ap, arith}
use Rattle.std.specs.List.{AllWithin, list_all}
use Rattle.std.specs.List.Sorted.{IsNonDecreasingBy, IsPartitionPoint}
use Rattle.std.specs.Ordering.{is_lt, is_eq, ordering_index, ordering_reverse}
use Rattle.std.specs.declared.cmp.Ordering.{Ordering}
use Rattle.std.specs.declared.cmp.Ordering.TheVariants.{Less, Equal, Greater}
use Rattle.std.proofs.lemmas.Bool.{and_from}
use Rattle.std.proofs.lemmas.Cmp.{nat_list_cmp_total}
use Rattle.mat_path.specs.Names.{name_cmp, same_name}
use Rattle.path_trie.specs.declared.node.Edge.{Edge}
use Rattle.path_trie.specs.Nodes.{are_in_order, comes_before, comes_behind, edge_name}

-- how a child's name stands to a name
abbrev pub edge_cmp : {T : Type 0} → List ℕ → Edge T → Ordering
edge_cmp name edge = name_cmp (edge_name edge) name

-- two names either way round
pub greater_is : (a b : List ℕ) → is_lt (name_cmp a b) ≡ true → name_cmp b a ≡ Greater
greater_is a b h = nat_list_cmp_total.antisymm b a ∙ ap ordering_reverse (lt_less (name_cmp a b) h)

-- a name before or behind another is another
pub before_other : (name n : List ℕ) → comes_before name n ≡ true → same_name name n ≡ false
before_other name n h = same_name-sym name n ∙ texts_ties n name ∙ ap is_eq (lt_less (name_cmp n name) h)

pub behind_other : (name n : List ℕ) → comes_behind name n ≡ true → same_name name n ≡ false
behind_other name n h = texts_ties name n ∙ ap is_eq (lt_less (name_cmp name n) h)

-- the name of the child at a place
pub name_at : {T : Type 0} (es : List (Edge T)) (k : ℕ) (d : Edge T) (n : List ℕ) → k < length es → get_or (map edge_name es) k n ≡ edge_name (get_or es k d)
name_at [] k d n h = absurd (omega arith)
name_at (e ∷ es) zero d n h = refl
name_at (e ∷ es) (suc k) d n h = name_at es k d n (omega arith)

pub rises : {T : Type 0} (name : List ℕ) (es : List (Edge T)) → are_in_order (map edge_name es) ≡ true → IsNonDecreasingBy (λ x. ordering_index (edge_cmp name x)) es
rises name [] e i j d le h = absurd (omega arith)
rises name (x ∷ es) e zero zero d le h = omega arith
rises name (x ∷ es) e zero (suc j) d le h =
    earlier (edge_name x) (edge_name (get_or es j d)) name
    (named_at edge_name (comes_behind (edge_name x)) es j d (first_so (list_all (comes_behind (edge_name x)) (map edge_name es)) (are_in_order (map edge_name es)) e) (omega arith))
rises name (x ∷ es) e (suc i) zero d le h = absurd (omega arith)
rises name (x ∷ es) e (suc i) (suc j) d le h =
    rises name es (second_so (list_all (comes_behind (edge_name x)) (map edge_name es)) (are_in_order (map edge_name es)) e) i j d (omega arith) (omega arith)

-- the child that was found has the name
pub found_name : {T : Type 0} (name : List ℕ) (es : List (Edge T)) (k : ℕ) → k < length es → ((d : Edge T) → edge_cmp name (get_or es k d) ≡ Equal)
    → get_or (map edge_name es) k name ≡ name
found_name name [] k h q = absurd (omega arith)
found_name name (x ∷ es) zero h q = same_name-eq (edge_name x) name (texts_ties (edge_name x) name ∙ ap is_eq (q x))
found_name name (x ∷ es) (suc k) h q = found_name name es k (omega arith) q

take_names : {T : Type 0} (es : List (Edge T)) (k : ℕ) → map edge_name (take k es) ≡ take k (map edge_name es)
take_names es zero = refl
take_names [] (suc k) = refl
take_names (e ∷ es) (suc k) = ap (λ t. edge_name e ∷ t) (take_names es k)

-- what is before a place, and what is behind it
pub all_edges_below : {T : Type 0} (p : List ℕ → Bool) (es : List (Edge T)) (k : ℕ) → k ≤ length es → AllWithin (λ e. p (edge_name e) ≡ true) es 0 k
    → list_all p (map edge_name (take k es)) ≡ true
all_edges_below p es zero l h = refl
all_edges_below p [] (suc k) l h = refl
all_edges_below p (e ∷ es) (suc k) l h =
    and_from (p (edge_name e)) (list_all p (map edge_name (take k es))) (h 0 e (omega arith) (omega arith))
    (all_edges_below p es k (omega arith) (λ j d low high. h (suc j) d (omega arith) (omega arith)))

pub all_edges_from : {T : Type 0} (p : List ℕ → Bool) (es : List (Edge T)) (k : ℕ) → AllWithin (λ e. p (edge_name e) ≡ true) es k (length es)
    → list_all p (map edge_name (drop k es)) ≡ true
all_edges_from p [] zero h = refl
all_edges_from p [] (suc k) h = refl
all_edges_from p (e ∷ es) zero h =
    and_from (p (edge_name e)) (list_all p (map edge_name es)) (h 0 e (omega arith) (omega arith))
    (all_edges_from p es zero (λ j d low high. h (suc j) d (omega arith) (omega arith)))
all_edges_from p (e ∷ es) (suc k) h = all_edges_from p es k (λ j d low high. h (suc j) d (omega arith) (omega arith))

pub between_before : {T : Type 0} (name : List ℕ) (es : List (Edge T)) (k : ℕ) → k ≤ length es
    → IsPartitionPoint (λ e. edge_cmp name e ≡ Less) (λ e. edge_cmp name e ≡ Greater) es k → list_all (comes_before name) (map edge_name (take k es)) ≡ true
between_before name es k l h = all_edges_below (comes_before name) es k l (λ j d low high. ap is_lt (h.0 j d low high))

pub between_behind : {T : Type 0} (name : List ℕ) (es : List (Edge T)) (k : ℕ)
    → IsPartitionPoint (λ e. edge_cmp name e ≡ Less) (λ e. edge_cmp name e ≡ Greater) es k → list_all (comes_behind name) (map edge_name (drop k es)) ≡ true
between_behind name es k h = all_edges_from (comes_behind name) es k (λ j d low high.
    ap is_lt (nat_list_cmp_total.antisymm name (edge_name (get_or es j d)) ∙ ap ordering_reverse (h.1 j d low high)))

-- around the child of a name
pub front_is : {T : Type 0} (name : List ℕ) (es : List (Edge T)) (k : ℕ) → are_in_order (map edge_name es) ≡ true → k < length es
    → get_or (map edge_name es) k name ≡ name → list_all (comes_before name) (map edge_name (take k es)) ≡ true
front_is name es zero o h q = refl
front_is name [] (suc k) o h q = refl
front_is name (e ∷ es) (suc k) o h q =
    and_from (comes_before name (edge_name e)) (list_all (comes_before name) (map edge_name (take k es)))
    (ap (comes_behind (edge_name e)) (sym q) ∙ all_at (comes_behind (edge_name e)) (map edge_name es) k name (first_so (list_all (comes_behind (edge_name e)) (map edge_name es)) (are_in_order (map edge_name es)) o) (names_within es k (omega arith)))
    (front_is name es k (second_so (list_all (comes_behind (edge_name e)) (map edge_name es)) (are_in_order (map edge_name es)) o) (omega arith) q)
  where
    names_within : {T : Type 0} (es : List (Edge T)) (k : ℕ) → k < length es → k < length (map edge_name es)
    names_within [] k h = absurd (omega arith)
    names_within (e ∷ es) zero h = omega arith
    names_within (e ∷ es) (suc k) h = let f = names_within es k (omega arith) in omega (arith, f)

pub back_is : {T : Type 0} (name : List ℕ) (es : List (Edge T)) (k : ℕ) → are_in_order (map edge_name es) ≡ true → k < length es
    → get_or (map edge_name es) k name ≡ name → list_all (comes_behind name) (map edge_name (drop (suc k) es)) ≡ true
back_is name [] k o h q = absurd (omega arith)
back_is name (e ∷ es) zero o h q =
    ap (λ n. list_all (comes_behind n) (map edge_name es)) (sym q) ∙ first_so (list_all (comes_behind (edge_name e)) (map edge_name es)) (are_in_order (map edge_name es)) o
back_is name (e ∷ es) (suc k) o h q = back_is name es k (second_so (list_all (comes_behind (edge_name e)) (map edge_name es)) (are_in_order (map edge_name es)) o) (omega arith) q
