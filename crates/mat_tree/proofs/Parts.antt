-- What is at and below a rel of a tree is a tree.
use Rattle.mat_path.proofs.SameNames.{same_name-eq, same_names-eq, same_names-refl}
use Rattle.mat_path.proofs.Bools.{or_second}
use Rattle.mat_path.proofs.JoinLemmas.{joined-tail}
use Rattle.std.proofs.lemmas.Bool.{and_from, or_left, or_right}
use Rattle.std.specs.Cmp.{first_so, second_so}
use Rattle.std.proofs.Common.{◌≡◌, ◌≤◌, ℕ, suc, Bool, true, false, cond, ◌&&◌, ◌||◌, not, nat_le, if◌then◌else◌, List, [], ◌∷◌, map, length, drop, refl, ◌∙◌, sym, ap, subst, arith}
use Rattle.std.proofs.lemmas.Bool.Decides.{nat_tests}
use Rattle.std.specs.List.{list_all, list_any, filter}
use Rattle.std.specs.Option.{option_map}
use Rattle.std.specs.declared.option.Option.{Option}
use Rattle.std.specs.declared.option.Option.TheVariants.{Some, None}
use Rattle.std.specs.Ordering.{is_lt}
use Rattle.mat_path.specs.Names.{same_name, same_names, is_prefix, is_name, is_rel, joined, path_cmp}
use Rattle.mat_tree.specs.declared.flat.Flat.{Flat}
use Rattle.mat_tree.specs.declared.sum.Kind.{Kind}
use Rattle.mat_tree.specs.declared.node.Node.{Node}
use Rattle.mat_tree.specs.Nodes.{below_node, what_node}
use Rattle.mat_tree.specs.Trees.{is_at, is_root, is_rooted, is_after, is_dir, is_dir_at, is_link, is_small, has_rel, ascends, parent_of, has_parent, is_below, seen_from, sub_tree, sub_at, is_standing, kind_of, what_at, IsTree}
use Rattle.mat_tree.proofs.Paths.{path_cmp_in}
use Rattle.mat_tree.proofs.Subtrees.{node_begins, what_at_sub}

-- ---- each node of a part

-- what each node has is what each node of a part has, seen from there
sub_all : (P Q : Flat → Bool) (rel : List (List ℕ)) → ((x : Flat) → P x ≡ true → is_below rel x ≡ true → Q (seen_from rel x) ≡ true)
    → (xs : List Flat) → list_all P xs ≡ true → list_all Q (sub_tree xs rel) ≡ true
sub_all P Q rel each [] e = refl
sub_all P Q rel each (x ∷ xs) e =
    by (is_below rel x) refl (sub_all P Q rel each xs (second_so (P x) (list_all P xs) e))
  where
    by : (b : Bool) → is_below rel x ≡ b → list_all Q (sub_tree xs rel) ≡ true
        → list_all Q (map (seen_from rel) (cond b (x ∷ filter (is_below rel) xs) (filter (is_below rel) xs))) ≡ true
    by true f rest = and_from (Q (seen_from rel x)) (list_all Q (sub_tree xs rel)) (each x (first_so (P x) (list_all P xs) e) f) rest
    by false f rest = rest

sub_length : (rel : List (List ℕ)) (xs : List Flat) → length (sub_tree xs rel) ≤ length xs
sub_length rel [] = omega arith
sub_length rel (x ∷ xs) = by (is_below rel x) (sub_length rel xs)
  where
    by : (b : Bool) → length (sub_tree xs rel) ≤ length xs
        → length (map (seen_from rel) (cond b (x ∷ filter (is_below rel) xs) (filter (is_below rel) xs))) ≤ suc (length xs)
    by true e = omega arith
    by false e = omega arith

-- ---- order

path_cmp_drop : (rel p q : List (List ℕ)) → is_prefix rel p ≡ true → is_prefix rel q ≡ true → path_cmp (drop (length rel) p) (drop (length rel) q) ≡ path_cmp p q
path_cmp_drop [] p q e f = refl
path_cmp_drop (a ∷ rel) [] q e f = cc
path_cmp_drop (a ∷ rel) (b ∷ p) [] e f = cc
path_cmp_drop (a ∷ rel) (b ∷ p) (c ∷ q) e f =
    path_cmp_drop rel p q (second_so (same_name a b) (is_prefix rel p) e) (second_so (same_name a c) (is_prefix rel q) f)
    ∙ sym (path_cmp_in a p q)
    ∙ ap (λ n. path_cmp (n ∷ p) (a ∷ q)) (same_name-eq a b (first_so (same_name a b) (is_prefix rel p) e))
    ∙ ap (λ n. path_cmp (b ∷ p) (n ∷ q)) (same_name-eq a c (first_so (same_name a c) (is_prefix rel q) f))

sub_ascends : (rel : List (List ℕ)) (xs : List Flat) → ascends xs ≡ true → ascends (sub_tree xs rel) ≡ true
sub_ascends rel [] e = refl
sub_ascends rel (x ∷ xs) e = by (is_below rel x) refl (sub_ascends rel xs (second_so (list_all (is_after x.rel) xs) (ascends xs) e))
  where
    by : (b : Bool) → is_below rel x ≡ b → ascends (sub_tree xs rel) ≡ true
        → ascends (map (seen_from rel) (cond b (x ∷ filter (is_below rel) xs) (filter (is_below rel) xs))) ≡ true
    by true f rest =
        and_from (list_all (is_after (drop (length rel) x.rel)) (sub_tree xs rel)) (ascends (sub_tree xs rel))
        (sub_all (is_after x.rel) (is_after (drop (length rel) x.rel)) rel
        (λ y g h. ap is_lt (path_cmp_drop rel x.rel y.rel f h) ∙ g) xs (first_so (list_all (is_after x.rel) xs) (ascends xs) e))
        rest
    by false f rest = rest

-- ---- parents

parent_drop : (rel x : List (List ℕ)) → is_prefix rel x ≡ true → same_names [] (drop (length rel) x) ≡ false
    → (is_prefix rel (parent_of x) ≡ true) × (drop (length rel) (parent_of x) ≡ parent_of (drop (length rel) x))
parent_drop [] x e f = (refl, refl)
parent_drop (a ∷ rel) [] e f = cc
parent_drop (a ∷ []) (b ∷ []) e f = cc
parent_drop (a ∷ c ∷ rel) (b ∷ []) e f = let g = second_so (same_name a b) false e in cc
parent_drop (a ∷ rel) (b ∷ c ∷ x) e f =
    let rest = parent_drop rel (c ∷ x) (second_so (same_name a b) (is_prefix rel (c ∷ x)) e) f in
    (and_from (same_name a b) (is_prefix rel (parent_of (c ∷ x))) (first_so (same_name a b) (is_prefix rel (c ∷ x)) e) rest.0, rest.1)

any_sub : (rel p : List (List ℕ)) (xs : List Flat) → is_prefix rel p ≡ true → list_any (is_dir_at p) xs ≡ true
    → list_any (is_dir_at (drop (length rel) p)) (sub_tree xs rel) ≡ true
any_sub rel p [] e f = cc
any_sub rel p (x ∷ xs) e f =
    by (is_dir_at p x) refl (is_below rel x) refl f (λ g. any_sub rel p xs e g)
  where
    by : (d : Bool) → is_dir_at p x ≡ d → (b : Bool) → is_below rel x ≡ b → (d || list_any (is_dir_at p) xs) ≡ true
        → (list_any (is_dir_at p) xs ≡ true → list_any (is_dir_at (drop (length rel) p)) (sub_tree xs rel) ≡ true)
        → list_any (is_dir_at (drop (length rel) p)) (map (seen_from rel) (cond b (x ∷ filter (is_below rel) xs) (filter (is_below rel) xs))) ≡ true
    by true g true h f more =
        let at = same_names-eq x.rel p (first_so (is_at p x) (is_dir x.what) g) in
        or_left (is_dir_at (drop (length rel) p) (seen_from rel x)) (list_any (is_dir_at (drop (length rel) p)) (sub_tree xs rel))
        (and_from (same_names (drop (length rel) x.rel) (drop (length rel) p)) (is_dir x.what)
        (ap (λ r. same_names (drop (length rel) r) (drop (length rel) p)) at ∙ same_names-refl (drop (length rel) p))
        (second_so (is_at p x) (is_dir x.what) g))
    by true g false h f more =
        let at = same_names-eq x.rel p (first_so (is_at p x) (is_dir x.what) g) in
        let clash : false ≡ true = sym h ∙ ap (is_prefix rel) at ∙ e in cc
    by false g true h f more =
        or_right (is_dir_at (drop (length rel) p) (seen_from rel x)) (list_any (is_dir_at (drop (length rel) p)) (sub_tree xs rel)) (more f)
    by false g false h f more = more f

root_drop : (rel x : List (List ℕ)) → same_names [] x ≡ true → drop (length rel) x ≡ []
root_drop [] [] e = refl
root_drop (a ∷ rel) [] e = refl
root_drop rel (b ∷ x) e = cc

sub_parent : (rel : List (List ℕ)) (nodes : List Flat) (x : Flat) → has_parent nodes x ≡ true → is_below rel x ≡ true → has_parent (sub_tree nodes rel) (seen_from rel x) ≡ true
sub_parent rel nodes x e f = by (is_root (seen_from rel x)) refl
  where
    not_root : (b : Bool) → is_root x ≡ b → is_root (seen_from rel x) ≡ false → b ≡ false
    not_root true g h = let clash : true ≡ false = ap (λ r. same_names [] r) (sym (root_drop rel x.rel g)) ∙ h in cc
    not_root false g h = refl

    by : (b : Bool) → is_root (seen_from rel x) ≡ b
        → (b || list_any (is_dir_at (parent_of (drop (length rel) x.rel))) (sub_tree nodes rel)) ≡ true
    by true g = refl
    by false g =
        let told = parent_drop rel x.rel f g in
        ap (λ p. list_any (is_dir_at p) (sub_tree nodes rel)) (sym told.1)
        ∙ any_sub rel (parent_of x.rel) nodes told.0
        (or_second (is_root x) (list_any (is_dir_at (parent_of x.rel)) nodes) (not_root (is_root x) refl g) e)

-- ---- rels

-- a number is at most another one where the test says so
pub le_from_test : (m n : ℕ) → nat_le m n ≡ true → m ≤ n
le_from_test m n e = grind (arith, nat_tests)

of_le : (m n : ℕ) → m ≤ n → nat_le m n ≡ true
of_le m n e = grind (arith, nat_tests)

rel_tail : (a : List ℕ) (rel : List (List ℕ)) → is_rel (a ∷ rel) ≡ true → is_rel rel ≡ true
rel_tail a rel e =
    let two = first_so (nat_le (length (a ∷ rel)) 64 && nat_le (length (joined (a ∷ rel))) 1024) (list_all is_name (a ∷ rel)) e in
    let names = second_so (nat_le (length (a ∷ rel)) 64 && nat_le (length (joined (a ∷ rel))) 1024) (list_all is_name (a ∷ rel)) e in
    let few = le_from_test (length (a ∷ rel)) 64 (first_so (nat_le (length (a ∷ rel)) 64) (nat_le (length (joined (a ∷ rel))) 1024) two) in
    let short = le_from_test (length (joined (a ∷ rel))) 1024 (second_so (nat_le (length (a ∷ rel)) 64) (nat_le (length (joined (a ∷ rel))) 1024) two) in
    let tail = joined-tail a rel in
    and_from (nat_le (length rel) 64 && nat_le (length (joined rel)) 1024) (list_all is_name rel)
    (and_from (nat_le (length rel) 64) (nat_le (length (joined rel)) 1024) (of_le (length rel) 64 (omega arith)) (of_le (length (joined rel)) 1024 (omega arith)))
    (second_so (is_name a) (list_all is_name rel) names)

rel_drop : (rel x : List (List ℕ)) → is_rel x ≡ true → is_rel (drop (length rel) x) ≡ true
rel_drop [] x e = e
rel_drop (a ∷ rel) [] e = e
rel_drop (a ∷ rel) (b ∷ x) e = rel_drop rel x (rel_tail b x e)

-- ---- the whole

what_at_begin : (n : Node) → what_at (below_node n) [] ≡ Some (what_node n)
what_at_begin n = ap (λ t. what_at t []) (node_begins n)

-- where a node is found at and below a rel, that node stands at the rel
pub what_found : (nodes : List Flat) (rel : List (List ℕ)) (n : Node) → below_node n ≡ sub_tree nodes rel → what_at nodes rel ≡ Some (what_node n)
what_found nodes rel n e = what_at_sub rel nodes ∙ ap (λ t. what_at t []) (sym e) ∙ what_at_begin n

-- where nothing is found at and below a rel, nothing stands at it
pub what_not_found : (nodes : List Flat) (rel : List (List ℕ)) → [] ≡ sub_tree nodes rel → what_at nodes rel ≡ None
what_not_found nodes rel e = what_at_sub rel nodes ∙ ap (λ t. what_at t []) (sym e)

-- the kind at a rel is that of the node that is found there
pub kind_found : (nodes : List Flat) (rel : List (List ℕ)) (n : Node) (k : Option Kind) → below_node n ≡ sub_tree nodes rel → k ≡ kind_of (what_node n)
    → Some k ≡ option_map kind_of (what_at nodes rel)
kind_found nodes rel n k e f = ap (λ o. Some o) f ∙ ap (option_map kind_of) (sym (what_found nodes rel n e))

-- there is no kind at a rel where nothing is found
pub kind_not_found : (nodes : List Flat) (rel : List (List ℕ)) → [] ≡ sub_tree nodes rel → None ≡ option_map kind_of (what_at nodes rel)
kind_not_found nodes rel e = ap (option_map kind_of) (sym (what_not_found nodes rel e))

-- a tree has no tree at a rel where nothing is found
pub sub_not_found : (nodes : List Flat) (rel : List (List ℕ)) → [] ≡ sub_tree nodes rel → None ≡ sub_at nodes rel
sub_not_found nodes rel e = ap (λ o. if is_standing o then Some (sub_tree nodes rel) else None) (sym (what_not_found nodes rel e))

-- a tree has no tree at a rel where a link is found
pub sub_link : (nodes : List Flat) (rel : List (List ℕ)) (n : Node) → below_node n ≡ sub_tree nodes rel → is_link (what_node n) ≡ true → None ≡ sub_at nodes rel
sub_link nodes rel n e f =
    ap (λ b. if not b then Some (sub_tree nodes rel) else None) (sym f)
    ∙ ap (λ o. if is_standing o then Some (sub_tree nodes rel) else None) (sym (what_found nodes rel n e))

-- a tree has at a rel the node that is found there, where that is no link
pub sub_found : (nodes : List Flat) (rel : List (List ℕ)) (n : Node) (t : List Flat) → below_node n ≡ sub_tree nodes rel → is_link (what_node n) ≡ false
    → t ≡ below_node n → Some t ≡ sub_at nodes rel
sub_found nodes rel n t e f g =
    ap (λ s. Some s) (g ∙ e) ∙ ap (λ b. if not b then Some (sub_tree nodes rel) else None) (sym f)
    ∙ ap (λ o. if is_standing o then Some (sub_tree nodes rel) else None) (sym (what_found nodes rel n e))

rooted_node : (n : Node) → is_link (what_node n) ≡ false → is_rooted (below_node n) ≡ true
rooted_node n e = ap is_rooted (node_begins n) ∙ ap not e

-- what is found at and below a rel of a tree is a tree, where it is no link
pub sub_is_tree : (nodes : List Flat) (rel : List (List ℕ)) (n : Node) (t : List Flat) → IsTree nodes → below_node n ≡ sub_tree nodes rel
    → is_link (what_node n) ≡ false → t ≡ below_node n → IsTree t
sub_is_tree nodes rel n t tree e f g =
    let part : IsTree (sub_tree nodes rel) = record {
      root = ap is_rooted (sym e) ∙ rooted_node n f;
      few = omega (arith, sub_length rel nodes, tree.few);
      order = sub_ascends rel nodes tree.order;
      parents = sub_all (has_parent nodes) (has_parent (sub_tree nodes rel)) rel (sub_parent rel nodes) nodes tree.parents;
      small = sub_all is_small is_small rel (λ x h i. h) nodes tree.small;
      rels = sub_all has_rel has_rel rel (λ x h i. rel_drop rel x.rel h) nodes tree.rels;
    } in
    subst (λ s. IsTree s) (sym (g ∙ e)) part

-- a list that is equal to a tree is one
pub is_tree_along : (a b : List Flat) → a ≡ b → IsTree b → IsTree a
is_tree_along a b e t = subst (λ s. IsTree s) (sym e) t
