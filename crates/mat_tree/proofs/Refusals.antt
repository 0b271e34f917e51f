-- A list that nothing refuses is a tree.
use Rattle.mat_path.proofs.SameNames.{same_names-eq}
use Rattle.mat_path.proofs.PathLemmas.{path_cmp-refl, prefix-refl}
use Rattle.mat_path.proofs.Bools.{or_second}
use Rattle.std.proofs.Math.Bool.{or-true}
use Rattle.std.proofs.lemmas.Bool.{and_from, not-true, or_cases, or_left}
use Rattle.std.specs.Cmp.{first_so, second_so}
use Rattle.std.proofs.Common.{◌≡◌, ◌<◌, ◌≤◌, ◌+◌, ◌-◌, ℕ, suc, Bool, true, false, ◌&&◌, ◌||◌, not, nat_lt, if◌then◌else◌, List, [], ◌∷◌, ◌++◌, length, take, drop, get_or, refl, ◌∙◌, sym, ap, arith, append_assoc, inl, inr, ◌==◌}
use Rattle.std.proofs.lemmas.Bool.Decides.{nat_tests}
use Rattle.std.proofs.lemmas.List.{take_all, drop_more}
use Rattle.std.proofs.lemmas.List.Folds.{list_any-append}
use Rattle.std.specs.List.{list_all, list_any}
use Rattle.std.specs.declared.cmp.Ordering.{Ordering}
use Rattle.std.specs.declared.cmp.Ordering.TheVariants.{Less, Equal, Greater}
use Rattle.std.specs.declared.option.Option.{Option}
use Rattle.std.specs.declared.option.Option.TheVariants.{Some, None}
use Rattle.std.specs.Ordering.{is_lt, is_eq, ordering_then, ordering_reverse}
use Rattle.std.specs.Cmp.Lexicographic.{texts_ties}
use Rattle.std.proofs.lemmas.Cmp.{nat_list_cmp_total}
use Rattle.mat_path.specs.Names.{same_name, same_names, is_prefix, name_cmp, path_cmp}
use Rattle.mat_tree.specs.declared.flat.Flat.{Flat}
use Rattle.mat_tree.specs.declared.refusal.TreeRefusal.{TreeRefusal}
use Rattle.mat_tree.specs.declared.refusal.TreeRefusal.TheVariants as refusal
use Rattle.mat_tree.specs.Trees.{is_root, is_at, is_after, is_dir, is_dir_at, is_link, ascends, parent_of, has_parent, has_rel, is_small, fault_behind, tree_refusal, follows, is_linked, IsTree}
use Rattle.mat_tree.proofs.Paths.{path_cmp_in}
use Rattle.mat_tree.proofs.Joins.{all_right, lt_suc}
use Rattle.mat_tree.proofs.Ascending.{after_trans, ascends_right}

-- ---- the order of a rel and its parent

lt_itself : (p : List (List ℕ)) → is_lt (path_cmp p p) ≡ false
lt_itself p = ap is_lt (path_cmp-refl p)

-- the parent of a rel comes before it
pub parent_less : (rel : List (List ℕ)) → 1 ≤ length rel → is_lt (path_cmp (parent_of rel) rel) ≡ true
parent_less [] h = absurd (omega arith)
parent_less (a ∷ []) h = refl
parent_less (a ∷ b ∷ rel) h = ap is_lt (path_cmp_in a (parent_of (b ∷ rel)) (b ∷ rel)) ∙ parent_less (b ∷ rel) (omega arith)

-- what two tests of order say where they begin with an answer and its reverse
begin_equal : (o : Ordering) (x y : Ordering) → is_lt (ordering_then o x) ≡ true → is_lt (ordering_then (ordering_reverse o) y) ≡ true → o ≡ Equal
begin_equal Less x y e f = cc
begin_equal Equal x y e f = refl
begin_equal Greater x y e f = cc

lt_zero : (n : ℕ) → nat_lt 0 (suc n) ≡ true
lt_zero n = grind (arith, nat_tests)

-- a rel between a rel's parent and the rel has the parent as a prefix
pub between_is_below_parent : (x q : List (List ℕ)) → 1 ≤ length x → is_lt (path_cmp (parent_of x) q) ≡ true → is_lt (path_cmp q x) ≡ true
    → (is_prefix (parent_of x) q && nat_lt (length (parent_of x)) (length q)) ≡ true
between_is_below_parent [] q h e f = absurd (omega arith)
between_is_below_parent (a ∷ []) [] h e f = cc
between_is_below_parent (a ∷ []) (c ∷ q) h e f = lt_zero (length q)
between_is_below_parent (a ∷ b ∷ x) [] h e f = cc
between_is_below_parent (a ∷ b ∷ x) (c ∷ q) h e f =
    let p = parent_of (b ∷ x) in
    let back : name_cmp c a ≡ ordering_reverse (name_cmp a c) = nat_list_cmp_total.antisymm c a in
    let back_lt : is_lt (ordering_then (ordering_reverse (name_cmp a c)) (path_cmp q (b ∷ x))) ≡ true
    = ap (λ o. is_lt (ordering_then o (path_cmp q (b ∷ x)))) (sym back) ∙ f in
    let same : name_cmp a c ≡ Equal = begin_equal (name_cmp a c) (path_cmp p q) (path_cmp q (b ∷ x)) e back_lt in
    let up : is_lt (path_cmp p q) ≡ true = ap (λ o. is_lt (ordering_then o (path_cmp p q))) (sym same) ∙ e in
    let down : is_lt (path_cmp q (b ∷ x)) ≡ true
    = ap (λ o. is_lt (ordering_then (ordering_reverse o) (path_cmp q (b ∷ x)))) (sym same) ∙ back_lt in
    let name : same_name a c ≡ true = texts_ties a c ∙ ap is_eq same in
    ap (λ t. (t && is_prefix p q) && nat_lt (suc (length p)) (suc (length q))) name
    ∙ ap (λ t. is_prefix p q && t) (lt_suc (length p) (length q)) ∙ between_is_below_parent (b ∷ x) q (omega arith) up down

-- ---- what no fault says

fault_step : (a b : Bool) (k : ℕ) (o : Option TreeRefusal)
    → (if not a then Some (refusal.Order k) else if not b then Some (refusal.Under k) else o) ≡ None → (a ≡ true) × ((b ≡ true) × (o ≡ None))
fault_step true true k o e = (refl, (refl, e))
fault_step true false k o e = cc
fault_step false b k o e = cc

-- a list in which nothing is at fault ascends
pub no_fault_ascends : (nodes : List Flat) (before : Flat) (k : ℕ) (rest : List Flat) → fault_behind nodes before k rest ≡ None → ascends (before ∷ rest) ≡ true
no_fault_ascends nodes before k [] e = refl
no_fault_ascends nodes before k (node ∷ rest) e =
    let told = fault_step (is_after before.rel node) (has_parent nodes node) k (fault_behind nodes node (k + 1) rest) e in
    let up = no_fault_ascends nodes node (k + 1) rest told.1.1 in
    and_from (is_after before.rel node && list_all (is_after before.rel) rest) (ascends (node ∷ rest))
    (and_from (is_after before.rel node) (list_all (is_after before.rel) rest) told.0
    (after_trans before.rel node.rel rest told.0 (first_so (list_all (is_after node.rel) rest) (ascends rest) up)))
    up

-- in a list in which nothing is at fault each node behind the first stands in a directory
pub no_fault_parents : (nodes : List Flat) (before : Flat) (k : ℕ) (rest : List Flat) → fault_behind nodes before k rest ≡ None → list_all (has_parent nodes) rest ≡ true
no_fault_parents nodes before k [] e = refl
no_fault_parents nodes before k (node ∷ rest) e =
    let told = fault_step (is_after before.rel node) (has_parent nodes node) k (fault_behind nodes node (k + 1) rest) e in
    and_from (has_parent nodes node) (list_all (has_parent nodes) rest) told.1.0 (no_fault_parents nodes node (k + 1) rest told.1.1)

-- ---- a tree's nodes follow one another

-- what comes after some rel is not the root
pub after_not_root : (p : List (List ℕ)) (rel : List (List ℕ)) → is_lt (path_cmp p rel) ≡ true → same_names [] rel ≡ false
after_not_root [] [] e = cc
after_not_root (a ∷ p) [] e = cc
after_not_root p (b ∷ rel) e = refl

-- a rel that is not the root has a name
pub not_root_below : (rel : List (List ℕ)) → same_names [] rel ≡ false → 1 ≤ length rel
not_root_below [] e = cc
not_root_below (b ∷ rel) e = omega arith

-- a node that comes after a rel doesn't stand at it
not_at : (p : List (List ℕ)) (x : Flat) → is_after p x ≡ true → same_names x.rel p ≡ false
not_at p x e = by (same_names x.rel p) refl
  where
    by : (b : Bool) → same_names x.rel p ≡ b → b ≡ false
    by true f =
        let is : is_lt (path_cmp p p) ≡ true = ap (λ r. is_lt (path_cmp p r)) (sym (same_names-eq x.rel p f)) ∙ e in
        sym is ∙ lt_itself p
    by false f = refl

none_at : (p : List (List ℕ)) (xs : List Flat) → list_all (is_after p) xs ≡ true → list_any (is_dir_at p) xs ≡ false
none_at p [] e = refl
none_at p (x ∷ xs) e =
    ap (λ b. (b && is_dir x.what) || list_any (is_dir_at p) xs) (not_at p x (first_so (is_after p x) (list_all (is_after p) xs) e))
    ∙ none_at p xs (second_so (is_after p x) (list_all (is_after p) xs) e)

-- where a directory stands at a rel in a list whose nodes come before another rel, it is before that rel
at_before : (p q : List (List ℕ)) (xs : List Flat) → list_all (λ x. is_lt (path_cmp x.rel q)) xs ≡ true → list_any (is_dir_at p) xs ≡ true → is_lt (path_cmp p q) ≡ true
at_before p q [] e f = cc
at_before p q (x ∷ xs) e f =
    elim (or_cases (is_dir_at p x) (list_any (is_dir_at p) xs) f) [
      | inl h ↦ ap (λ r. is_lt (path_cmp r q)) (sym (same_names-eq x.rel p (first_so (is_at p x) (is_dir x.what) h)))
          ∙ first_so (is_lt (path_cmp x.rel q)) (list_all (λ y. is_lt (path_cmp y.rel q)) xs) e
      | inr h ↦ at_before p q xs (second_so (is_lt (path_cmp x.rel q)) (list_all (λ y. is_lt (path_cmp y.rel q)) xs) e) h
    ]

-- the nodes before one, in a list that ascends
before_all : (done : List Flat) (x : Flat) (rest : List Flat) → ascends (done ++ (x ∷ rest)) ≡ true → list_all (λ y. is_lt (path_cmp y.rel x.rel)) done ≡ true
before_all [] x rest e = refl
before_all (d ∷ done) x rest e =
    and_from (is_lt (path_cmp d.rel x.rel)) (list_all (λ y. is_lt (path_cmp y.rel x.rel)) done)
    (first_so (is_after d.rel x) (list_all (is_after d.rel) rest)
    (all_right (is_after d.rel) done (x ∷ rest) (first_so (list_all (is_after d.rel) (done ++ (x ∷ rest))) (ascends (done ++ (x ∷ rest))) e)))
    (before_all done x rest (second_so (list_all (is_after d.rel) (done ++ (x ∷ rest))) (ascends (done ++ (x ∷ rest))) e))

follows_dir : (node before : Flat) → is_dir_at (parent_of node.rel) before ≡ true → follows node.rel before ≡ true
follows_dir node before e =
    let at = same_names-eq before.rel (parent_of node.rel) (first_so (is_at (parent_of node.rel) before) (is_dir before.what) e) in
    ap (λ d. is_prefix (parent_of node.rel) before.rel && (d || nat_lt (length (parent_of node.rel)) (length before.rel)))
    (second_so (is_at (parent_of node.rel) before) (is_dir before.what) e)
    ∙ and_from (is_prefix (parent_of node.rel) before.rel) true (ap (is_prefix (parent_of node.rel)) at ∙ prefix-refl (parent_of node.rel)) refl

follows_between : (node before : Flat) → (is_prefix (parent_of node.rel) before.rel && nat_lt (length (parent_of node.rel)) (length before.rel)) ≡ true → follows node.rel before ≡ true
follows_between node before e =
    let short = second_so (is_prefix (parent_of node.rel) before.rel) (nat_lt (length (parent_of node.rel)) (length before.rel)) e in
    and_from (is_prefix (parent_of node.rel) before.rel) (is_dir before.what || nat_lt (length (parent_of node.rel)) (length before.rel))
    (first_so (is_prefix (parent_of node.rel) before.rel) (nat_lt (length (parent_of node.rel)) (length before.rel)) e)
    (ap (λ t. is_dir before.what || t) short ∙ or-true (is_dir before.what))

-- in a list that ascends, a node that has its parent there and is no root follows the node before it
pub follows_parent : (done : List Flat) (before node : Flat) (rest : List Flat) → ascends (done ++ (before ∷ node ∷ rest)) ≡ true
    → has_parent (done ++ (before ∷ node ∷ rest)) node ≡ true → is_root node ≡ false → follows node.rel before ≡ true
follows_parent done before node rest up has below =
    let p = parent_of node.rel in
    let long : 1 ≤ length node.rel = not_root_below node.rel below in
    let tail : ascends (before ∷ node ∷ rest) ≡ true = ascends_right done (before ∷ node ∷ rest) up in
    let next : is_after before.rel node ≡ true
    = first_so (is_after before.rel node) (list_all (is_after before.rel) rest) (first_so (list_all (is_after before.rel) (node ∷ rest)) (ascends (node ∷ rest)) tail) in
    let behind : list_all (is_after p) (node ∷ rest) ≡ true
    = and_from (is_after p node) (list_all (is_after p) rest) (parent_less node.rel long)
    (after_trans p node.rel rest (parent_less node.rel long)
    (first_so (list_all (is_after node.rel) rest) (ascends rest) (second_so (list_all (is_after before.rel) (node ∷ rest)) (ascends (node ∷ rest)) tail))) in
    let any : list_any (is_dir_at p) (done ++ (before ∷ node ∷ rest)) ≡ true = or_second (is_root node) (list_any (is_dir_at p) (done ++ (before ∷ node ∷ rest))) below has in
    let split : (list_any (is_dir_at p) done || (is_dir_at p before || list_any (is_dir_at p) (node ∷ rest))) ≡ true
    = sym (list_any-append (is_dir_at p) done (before ∷ node ∷ rest)) ∙ any in
    elim (or_cases (list_any (is_dir_at p) done) (is_dir_at p before || list_any (is_dir_at p) (node ∷ rest)) split) [
      | inl h ↦ follows_between node before (between_is_below_parent node.rel before.rel long (at_before p before.rel done (before_all done before (node ∷ rest) up) h) next)
      | inr h ↦ elim (or_cases (is_dir_at p before) (list_any (is_dir_at p) (node ∷ rest)) h) [
        | inl g ↦ follows_dir node before g
        | inr g ↦ let none = none_at p (node ∷ rest) behind in let clash : true ≡ false = sym g ∙ none in cc
      ]
    ]

-- a list that ascends, with the parent of each node in it, is linked
pub linked_from : (nodes done : List Flat) (before : Flat) (rest : List Flat) → nodes ≡ done ++ (before ∷ rest) → ascends nodes ≡ true
    → list_all (has_parent nodes) rest ≡ true → is_linked before rest ≡ true
linked_from nodes done before [] e up has = refl
linked_from nodes done before (node ∷ rest) e up has =
    let here : ascends (done ++ (before ∷ node ∷ rest)) ≡ true = ap ascends (sym e) ∙ up in
    let tail : ascends (before ∷ node ∷ rest) ≡ true = ascends_right done (before ∷ node ∷ rest) here in
    let next : is_after before.rel node ≡ true
    = first_so (is_after before.rel node) (list_all (is_after before.rel) rest) (first_so (list_all (is_after before.rel) (node ∷ rest)) (ascends (node ∷ rest)) tail) in
    let below : is_root node ≡ false = after_not_root before.rel node.rel next in
    let parent : has_parent (done ++ (before ∷ node ∷ rest)) node ≡ true
    = ap (λ t. has_parent t node) (sym e) ∙ first_so (has_parent nodes node) (list_all (has_parent nodes) rest) has in
    and_from (not (is_root node) && follows node.rel before) (is_linked node rest)
    (and_from (not (is_root node)) (follows node.rel before) (ap not below) (follows_parent done before node rest here parent below))
    (linked_from nodes (done ++ (before ∷ [])) node rest (e ∙ sym (append_assoc done (before ∷ []) (node ∷ rest))) up
    (second_so (has_parent nodes node) (list_all (has_parent nodes) rest) has))

-- ---- the code's tests

-- where a node is after the one before it and has its parent, what is at fault is behind it
pub fault_more : (nodes : List Flat) (root before node : Flat) (rest : List Flat) (k : ℕ) → k < length rest → node ≡ get_or rest k node
    → fault_behind nodes root 1 rest ≡ fault_behind nodes before (k + 1) (drop k rest) → true ≡ is_after before.rel node → true ≡ has_parent nodes node
    → fault_behind nodes root 1 rest ≡ fault_behind nodes node (k + 1 + 1) (drop (k + 1) rest)
fault_more nodes root before node rest k h is so after parent =
    so ∙ ap (fault_behind nodes before (k + 1)) (drop_more rest k node h) ∙ ap (λ x. fault_behind nodes before (k + 1) (x ∷ drop (k + 1) rest)) (sym is)
    ∙ ap (λ b. if not b then Some (refusal.Order (k + 1)) else if not (has_parent nodes node) then Some (refusal.Under (k + 1))
    else fault_behind nodes node (k + 1 + 1) (drop (k + 1) rest)) (sym after)
    ∙ ap (λ b. if not b then Some (refusal.Under (k + 1)) else fault_behind nodes node (k + 1 + 1) (drop (k + 1) rest)) (sym parent)

-- the parent of a rel is all its names but the last
pub parent_is : (rel : List (List ℕ)) → take (length rel - 1) rel ≡ parent_of rel
parent_is [] = refl
parent_is (a ∷ []) = refl
parent_is (a ∷ b ∷ rel) =
    let e : length (a ∷ b ∷ rel) - 1 ≡ suc (length (b ∷ rel) - 1) = omega arith in
    ap (λ n. take n (a ∷ b ∷ rel)) e ∙ ap (λ t. a ∷ t) (parent_is (b ∷ rel))

-- for a rel of some names, a directory at all of them but the last is the parent that it needs
pub parent_told : (nodes : List Flat) (x : Flat) (names : List (List ℕ)) (r : Bool) → r ≡ list_any (is_dir_at (take (length names - 1) names)) nodes
    → false ≡ (length names == 0) → names ≡ x.rel → r ≡ has_parent nodes x
parent_told nodes x names r told long is =
    told ∙ ap (λ p. list_any (is_dir_at p) nodes) (parent_is names ∙ ap parent_of is)
    ∙ ap (λ b. b || list_any (is_dir_at (parent_of x.rel)) nodes) (sym (inner names long) ∙ ap (same_names []) is)
  where
    inner : (rel : List (List ℕ)) → false ≡ (length rel == 0) → same_names [] rel ≡ false
    inner [] e = cc
    inner (a ∷ rel) e = refl

-- ---- a list that nothing refuses

root_steps : (a b c : Bool) (o : Option TreeRefusal)
    → (if not a then Some refusal.NoRoot else if b then Some refusal.RootLink else if c then Some refusal.TooMany else o) ≡ None
    → (a ≡ true) × ((b ≡ false) × ((c ≡ false) × (o ≡ None)))
root_steps true false false o e = (refl, (refl, (refl, e)))
root_steps true false true o e = cc
root_steps true true c o e = cc
root_steps false b c o e = cc

steps : (root : Flat) (rest : List Flat) → tree_refusal (root ∷ rest) ≡ None
    → (is_root root ≡ true) × ((is_link root.what ≡ false) × ((nat_lt 9999 (length rest) ≡ false) × (fault_behind (root ∷ rest) root 1 rest ≡ None)))
steps root rest e = root_steps (is_root root) (is_link root.what) (nat_lt 9999 (length rest)) (fault_behind (root ∷ rest) root 1 rest) e

-- a list that nothing refuses begins at the root
pub no_refusal_root : (nodes : List Flat) (root : Flat) (rest : List Flat) → nodes ≡ root ∷ rest → tree_refusal nodes ≡ None → root.rel ≡ []
no_refusal_root nodes root rest e f = sym (same_names-eq [] root.rel (steps root rest (ap tree_refusal (sym e) ∙ f)).0)

-- a list that nothing refuses is linked
pub no_refusal_linked : (nodes : List Flat) (root : Flat) (rest : List Flat) → nodes ≡ root ∷ rest → tree_refusal nodes ≡ None → is_linked root rest ≡ true
no_refusal_linked nodes root rest e f =
    let none = (steps root rest (ap tree_refusal (sym e) ∙ f)).1.1.1 in
    linked_from (root ∷ rest) [] root rest refl (no_fault_ascends (root ∷ rest) root 1 rest none) (no_fault_parents (root ∷ rest) root 1 rest none)

few_of : (n : ℕ) → nat_lt 9999 n ≡ false → suc n ≤ 10000
few_of n e = grind (arith, nat_tests)

-- a list that nothing refuses, of small files and of rels, is a tree
pub no_refusal_is_tree : (nodes : List Flat) → tree_refusal nodes ≡ None → list_all is_small nodes ≡ true → list_all has_rel nodes ≡ true → IsTree nodes
no_refusal_is_tree [] e small rels = cc
no_refusal_is_tree (root ∷ rest) e small rels =
    let told = steps root rest e in
    record {
      root = and_from (is_root root) (not (is_link root.what)) told.0 (ap not told.1.0);
      few = few_of (length rest) told.1.1.0;
      order = no_fault_ascends (root ∷ rest) root 1 rest told.1.1.1;
      parents = and_from (has_parent (root ∷ rest) root) (list_all (has_parent (root ∷ rest)) rest)
          (or_left (is_root root) (list_any (is_dir_at (parent_of root.rel)) (root ∷ rest)) told.0) (no_fault_parents (root ∷ rest) root 1 rest told.1.1.1);
      small = small;
      rels = rels;
    }

-- a list with an element is its first one and the others
pub split_first : {X : Type 0} (xs : List X) (x : X) → 1 ≤ length xs → x ≡ get_or xs 0 x → xs ≡ x ∷ take (length xs - 1) (drop 1 xs)
split_first [] x h e = absurd (omega arith)
split_first (y ∷ xs) x h e = ap (λ z. z ∷ xs) (sym e) ∙ ap (λ t. x ∷ t) (sym (take_all (length (y ∷ xs) - 1) xs (omega arith)))

-- something refuses the empty list
pub some_refusal_of_nothing : (nodes : List Flat) → length nodes < 1 → tree_refusal nodes ≡ None → ⊥
some_refusal_of_nothing [] h e = cc
some_refusal_of_nothing (x ∷ nodes) h e = omega arith

-- ---- the test of a node behind another

-- whether a rel follows a node, from the names of its parent
pub follows_is : (names parent place : List (List ℕ)) (before : Flat) → parent ≡ take (length names - 1) names → place ≡ before.rel
    → follows names before ≡ (is_prefix parent place && (is_dir before.what || nat_lt (length parent) (length place)))
follows_is names parent place before e f =
    ap (λ p. is_prefix p before.rel && (is_dir before.what || nat_lt (length p) (length before.rel))) (sym (e ∙ parent_is names))
    ∙ ap (λ p. is_prefix parent p && (is_dir before.what || nat_lt (length parent) (length p))) (sym f)

-- a node follows where its parent is a prefix of the rel before, and that is a directory
pub follows_dir_test : (f s d n : Bool) → f ≡ (s && (d || n)) → true ≡ s → true ≡ d → true ≡ f
follows_dir_test f s d n e p q = sym (e ∙ ap (λ b. b && (d || n)) (sym p) ∙ ap (λ b. b || n) (sym q))

-- where the parent is a prefix and the node before is no directory, the lengths decide
pub follows_length_test : (f s d n : Bool) → f ≡ (s && (d || n)) → true ≡ s → false ≡ d → n ≡ f
follows_length_test f s d n e p q = sym (e ∙ ap (λ b. b && (d || n)) (sym p) ∙ ap (λ b. b || n) (sym q))

-- a node does not follow where its parent is no prefix of the rel before
pub follows_no_test : (f s d n : Bool) → f ≡ (s && (d || n)) → false ≡ s → false ≡ f
follows_no_test f s d n e p = sym (e ∙ ap (λ b. b && (d || n)) (sym p))

-- a node that is after some rel has a name
pub after_below : (p rel : List (List ℕ)) (x : Flat) → true ≡ is_after p x → rel ≡ x.rel → 1 ≤ length rel
after_below p rel x e f = omega (arith, ap length f, not_root_below x.rel (after_not_root p x.rel (sym e)))

-- ---- nothing refuses a tree

tree_no_fault : (nodes : List Flat) (before : Flat) (k : ℕ) (rest : List Flat) → ascends (before ∷ rest) ≡ true → list_all (has_parent nodes) rest ≡ true
    → fault_behind nodes before k rest ≡ None
tree_no_fault nodes before k [] up has = refl
tree_no_fault nodes before k (node ∷ rest) up has =
    let here = first_so (list_all (is_after before.rel) (node ∷ rest)) (ascends (node ∷ rest)) up in
    let after = first_so (is_after before.rel node) (list_all (is_after before.rel) rest) here in
    let parent = first_so (has_parent nodes node) (list_all (has_parent nodes) rest) has in
    ap (λ b. if not b then Some (refusal.Order k) else if not (has_parent nodes node) then Some (refusal.Under k) else fault_behind nodes node (k + 1) rest) after
    ∙ ap (λ b. if not b then Some (refusal.Under k) else fault_behind nodes node (k + 1) rest) parent
    ∙ tree_no_fault nodes node (k + 1) rest (second_so (list_all (is_after before.rel) (node ∷ rest)) (ascends (node ∷ rest)) up)
    (second_so (has_parent nodes node) (list_all (has_parent nodes) rest) has)

many_of : (n : ℕ) → suc n ≤ 10000 → nat_lt 9999 n ≡ false
many_of n h = grind (arith, nat_tests)

-- nothing refuses a tree
pub is_tree_no_refusal : (nodes : List Flat) → IsTree nodes → tree_refusal nodes ≡ None
is_tree_no_refusal [] t = let e : false ≡ true = t.root in cc
is_tree_no_refusal (root ∷ rest) t =
    let first = first_so (is_root root) (not (is_link root.what)) t.root in
    let link = not-true (is_link root.what) (second_so (is_root root) (not (is_link root.what)) t.root) in
    ap (λ b. if not b then Some refusal.NoRoot else if is_link root.what then Some refusal.RootLink else if nat_lt 9999 (length rest) then Some refusal.TooMany
    else fault_behind (root ∷ rest) root 1 rest) first
    ∙ ap (λ b. if b then Some refusal.RootLink else if nat_lt 9999 (length rest) then Some refusal.TooMany else fault_behind (root ∷ rest) root 1 rest) link
    ∙ ap (λ b. if b then Some refusal.TooMany else fault_behind (root ∷ rest) root 1 rest) (many_of (length rest) t.few)
    ∙ tree_no_fault (root ∷ rest) root 1 rest t.order (second_so (has_parent (root ∷ rest) root) (list_all (has_parent (root ∷ rest)) rest) t.parents)
