-- A search by halves among children in strict order of name.
use Rattle.mat_path.proofs.Halves.{all_at, earlier}
use Rattle.mat_path.proofs.PathLemmas.{lt_less}
use Rattle.mat_path.proofs.SameNames.{same_name-eq, same_name-sym}
use Rattle.std.specs.Cmp.{first_so, second_so}
use Rattle.std.proofs.Common.{◌≡◌, ◌<◌, ◌≤◌, ℕ, zero, suc, Bool, true, false, cond, List, [], ◌∷◌, map, length, drop, get_or, nat_lt, refl, ◌∙◌, sym, ap, arith}
use Rattle.std.specs.List.{AllWithin, find, list_all}
use Rattle.std.specs.List.Sorted.{IsNonDecreasingBy, IsPartitionPoint}
use Rattle.std.specs.Ordering.{is_lt, is_eq, ordering_index, ordering_then}
use Rattle.std.specs.declared.cmp.Ordering.{Ordering}
use Rattle.std.specs.declared.cmp.Ordering.TheVariants.{Less, Equal, Greater}
use Rattle.std.specs.declared.option.Option.TheVariants.{Some, None}
use Rattle.std.specs.Cmp.Lexicographic.{texts_ties}
use Rattle.std.proofs.lemmas.Bool.{and_from, ltb-false, ltb-true}
use Rattle.mat_path.specs.Names.{name_cmp}
use Rattle.mat_tree.specs.declared.node.Child.{Child, out-Child}
use Rattle.mat_tree.specs.Nodes.{are_in_order, at_root, below_all, below_child, below_node, child_cmp, is_behind, is_named, put_in, what_node}
use Rattle.mat_tree.specs.Trees.{ascends, is_after}
use Rattle.mat_tree.proofs.Ascending.{ascends_right}
use Rattle.mat_tree.proofs.Joins.{all_left, all_right}
use Rattle.mat_tree.proofs.Subtrees.{after_child, child_begins}

-- ---- children of an ascending list are in order

alone_lt : (o : Ordering) → is_lt (ordering_then o Equal) ≡ true → is_lt o ≡ true
alone_lt Less e = refl
alone_lt Equal e = cc
alone_lt Greater e = cc

-- where a child's list comes after a name, the child does
child_behind : (name : List ℕ) (c : Child) → list_all (is_after (name ∷ [])) (below_child c) ≡ true → is_behind name c ≡ true
child_behind name c e =
    let first : list_all (is_after (name ∷ [])) (put_in (out-Child c).name (at_root (what_node (out-Child c).node)) ∷ map (put_in (out-Child c).name) (drop 1 (below_node (out-Child c).node))) ≡ true =
    ap (list_all (is_after (name ∷ []))) (sym (child_begins c)) ∙ e in
    alone_lt (name_cmp name (out-Child c).name)
    (first_so (is_after (name ∷ []) (put_in (out-Child c).name (at_root (what_node (out-Child c).node))))
    (list_all (is_after (name ∷ [])) (map (put_in (out-Child c).name) (drop 1 (below_node (out-Child c).node)))) first)

all_behind : (name : List ℕ) (cs : List Child) → list_all (is_after (name ∷ [])) (below_all cs) ≡ true → list_all (is_behind name) cs ≡ true
all_behind name [] e = refl
all_behind name (c ∷ cs) e =
    and_from (is_behind name c) (list_all (is_behind name) cs)
    (child_behind name c (all_left (is_after (name ∷ [])) (below_child c) (below_all cs) e))
    (all_behind name cs (all_right (is_after (name ∷ [])) (below_child c) (below_all cs) e))

-- children whose lists ascend are in strict order of name
pub children_in_order : (cs : List Child) → ascends (below_all cs) ≡ true → are_in_order cs ≡ true
children_in_order [] e = refl
children_in_order (c ∷ cs) e =
    and_from (list_all (is_behind (out-Child c).name) cs) (are_in_order cs)
    (all_behind (out-Child c).name cs (after_child c cs e))
    (children_in_order cs (ascends_right (below_child c) (below_all cs) e))

-- ---- what a search by halves asks, and what it answers

-- children in order rise past a name: each stands no earlier to it than those before
pub order_rises : (name : List ℕ) (cs : List Child) → are_in_order cs ≡ true → IsNonDecreasingBy (λ c. ordering_index (child_cmp name c)) cs
order_rises name [] e i j d le h = absurd (omega arith)
order_rises name (c ∷ cs) e zero zero d le h = omega arith
order_rises name (c ∷ cs) e zero (suc j) d le h =
    earlier (out-Child c).name (out-Child (get_or cs j d)).name name
    (all_at (is_behind (out-Child c).name) cs j d (first_so (list_all (is_behind (out-Child c).name) cs) (are_in_order cs) e) (omega arith))
order_rises name (c ∷ cs) e (suc i) zero d le h = absurd (omega arith)
order_rises name (c ∷ cs) e (suc i) (suc j) d le h =
    order_rises name cs (second_so (list_all (is_behind (out-Child c).name) cs) (are_in_order cs) e) i j d (omega arith) (omega arith)

-- a child is named as its name stands to the name
named_is : (name : List ℕ) (c : Child) → is_named name c ≡ is_eq (child_cmp name c)
named_is name c = same_name-sym name (out-Child c).name ∙ texts_ties (out-Child c).name name

-- a child in order that comes before one of the name has another name
other_name : (name : List ℕ) (c e : Child) → is_behind (out-Child c).name e ≡ true → child_cmp name e ≡ Equal → is_named name c ≡ false
other_name name c e behind equal =
    let same : (out-Child e).name ≡ name = same_name-eq (out-Child e).name name (texts_ties (out-Child e).name name ∙ ap is_eq equal) in
    named_is name c ∙ ap is_eq (ap (name_cmp (out-Child c).name) (sym same) ∙ lt_less (name_cmp (out-Child c).name (out-Child e).name) behind)

-- of children in order, the one that stands equal to a name is found by it
pub found_at : (name : List ℕ) (cs : List Child) (k : ℕ) (d : Child) → are_in_order cs ≡ true → k < length cs
    → child_cmp name (get_or cs k d) ≡ Equal → Some (get_or cs k d) ≡ find (is_named name) cs
found_at name [] k d e h q = absurd (omega arith)
found_at name (c ∷ cs) zero d e h q = sym (ap (λ b. cond b (Some c) (find (is_named name) cs)) (named_is name c ∙ ap is_eq q))
found_at name (c ∷ cs) (suc k) d e h q =
    found_at name cs k d (second_so (list_all (is_behind (out-Child c).name) cs) (are_in_order cs) e) (omega arith) q
    ∙ sym (ap (λ b. cond b (Some c) (find (is_named name) cs))
    (other_name name c (get_or cs k d)
    (all_at (is_behind (out-Child c).name) cs k d (first_so (list_all (is_behind (out-Child c).name) cs) (are_in_order cs) e) (omega arith)) q))

-- no child is named where none stands equal
none_named : (name : List ℕ) (cs : List Child) → AllWithin (λ c. is_eq (child_cmp name c) ≡ false) cs 0 (length cs) → None ≡ find (is_named name) cs
none_named name [] e = refl
none_named name (c ∷ cs) e =
    none_named name cs (λ k d low high. e (suc k) d (omega arith) (omega arith))
    ∙ sym (ap (λ b. cond b (Some c) (find (is_named name) cs)) (named_is name c ∙ e 0 c (omega arith) (omega arith)))

-- none stands equal around a place that parts the less from the greater
pub not_found : (name : List ℕ) (cs : List Child) (i : ℕ)
    → IsPartitionPoint (λ c. child_cmp name c ≡ Less) (λ c. child_cmp name c ≡ Greater) cs i → None ≡ find (is_named name) cs
not_found name cs i parts = none_named name cs each
  where
    each : (k : ℕ) (d : Child) → 0 ≤ k → k < length cs → is_eq (child_cmp name (get_or cs k d)) ≡ false
    each k d low high = by (nat_lt k i) refl
      where
        by : (b : Bool) → nat_lt k i ≡ b → is_eq (child_cmp name (get_or cs k d)) ≡ false
        by true q = ap is_eq (parts.0 k d low (ltb-true k i q))
        by false q = ap is_eq (parts.1 k d (ltb-false k i q) high)
