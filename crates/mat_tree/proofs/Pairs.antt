-- When two lists of nodes are the same.
use Rattle.mat_path.proofs.SameNames.{same_names-eq}
use Rattle.std.proofs.Math.Bool.{and_assoc}
use Rattle.std.proofs.lemmas.Bool.{and_from, not-true}
use Rattle.std.specs.Cmp.{first_so, second_so}
use Rattle.std.proofs.Common.{◌≡◌, ◌≢◌, ◌<◌, ◌≤◌, ◌+◌, ℕ, Bool, true, false, ◌&&◌, not, List, [], ◌∷◌, ◌++◌, map, length, drop, get_or, refl, ◌∙◌, sym, ap}
use Rattle.std.specs.List.{list_all}
use Rattle.std.specs.Cmp.Lexicographic.{pointwise, unequal}
use Rattle.std.proofs.lemmas.List.{drop_more, drop_all}
use Rattle.mat_path.specs.Names.{same_name, same_names}
use Rattle.mat_tree.specs.declared.flat.Flat.{Flat}
use Rattle.mat_tree.specs.declared.flat.What.TheVariants as what
use Rattle.mat_tree.specs.declared.node.Node.{Node, out-Node}
use Rattle.mat_tree.specs.declared.node.Node.TheVariants as variant
use Rattle.mat_tree.specs.declared.node.Node.TheOpen as layer
use Rattle.mat_tree.specs.declared.node.Node.TheFolds.{map-Node, fold_out-Node}
use Rattle.mat_tree.specs.declared.node.Child.{Child, out-Child}
use Rattle.mat_tree.specs.declared.node.Children.{Children, out-Children}
use Rattle.mat_tree.specs.Nodes.{at_root, put_in, node_step, child_step, children_step, below_node, below_child, below_children, below_all, what_node}
use Rattle.mat_tree.specs.Trees.{is_root, same_what, same_flat, same_tree}
use Rattle.mat_tree.proofs.Folds.{below_children_out, below_child_out, below_dir_out}
use Rattle.mat_tree.proofs.Subtrees.{node_begins, child_begins}
use Rattle.mat_tree.proofs.Joins.{all_join}

-- ---- below one name

same_in_one : (n m : List ℕ) (xs ys : List Flat) → same_name n m ≡ true → same_tree (map (put_in n) xs) (map (put_in m) ys) ≡ same_tree xs ys
same_in_one n m [] [] e = refl
same_in_one n m [] (y ∷ ys) e = refl
same_in_one n m (x ∷ xs) [] e = refl
same_in_one n m (x ∷ xs) (y ∷ ys) e =
    ap (λ b. ((b && same_names x.rel y.rel) && same_what x.what y.what) && same_tree (map (put_in n) xs) (map (put_in m) ys)) e
    ∙ ap (λ t. same_flat x y && t) (same_in_one n m xs ys e)

-- two lists behind a name each are the same exactly where the names are and the lists are
pub same_in : (n m : List ℕ) (x y : Flat) (xs ys : List Flat)
    → same_tree (map (put_in n) (x ∷ xs)) (map (put_in m) (y ∷ ys)) ≡ (same_name n m && same_tree (x ∷ xs) (y ∷ ys))
same_in n m x y xs ys = by (same_name n m) refl
  where
    by : (b : Bool) → same_name n m ≡ b → same_tree (map (put_in n) (x ∷ xs)) (map (put_in m) (y ∷ ys)) ≡ (b && same_tree (x ∷ xs) (y ∷ ys))
    by true e = same_in_one n m (x ∷ xs) (y ∷ ys) e
    by false e = ap (λ b. ((b && same_names x.rel y.rel) && same_what x.what y.what) && same_tree (map (put_in n) xs) (map (put_in m) ys)) e

-- two children are the same exactly where their names are and their nodes are
pub same_children_of : (c d : Child) → same_tree (below_child c) (below_child d)
    ≡ (same_name (out-Child c).name (out-Child d).name && same_tree (below_node (out-Child c).node) (below_node (out-Child d).node))
same_children_of c d =
    let x = at_root (what_node (out-Child c).node) in
    let y = at_root (what_node (out-Child d).node) in
    ap (λ t. same_tree t (below_child d)) (child_begins c)
    ∙ ap (λ t. same_tree (map (put_in (out-Child c).name) (x ∷ drop 1 (below_node (out-Child c).node))) t) (child_begins d)
    ∙ same_in (out-Child c).name (out-Child d).name x y (drop 1 (below_node (out-Child c).node)) (drop 1 (below_node (out-Child d).node))
    ∙ ap (λ t. same_name (out-Child c).name (out-Child d).name && same_tree t (y ∷ drop 1 (below_node (out-Child d).node))) (sym (node_begins (out-Child c).node))
    ∙ ap (λ t. same_name (out-Child c).name (out-Child d).name && same_tree (below_node (out-Child c).node) t) (sym (node_begins (out-Child d).node))

-- two directories are the same exactly where their children are
pub same_dirs : (n m : Node) (cs ds : Children) (list others : List Child) → n ≡ variant.Dir cs → list ≡ (out-Children cs).list
    → m ≡ variant.Dir ds → others ≡ (out-Children ds).list → same_tree (below_node n) (below_node m) ≡ same_tree (below_all list) (below_all others)
same_dirs n m cs ds list others e f g h =
    ap (λ t. same_tree t (below_node m)) (below_dir_out n cs list e f) ∙ ap (same_tree (at_root what.Dir ∷ below_all list)) (below_dir_out m ds others g h)

-- ---- nodes right below a directory, and those below them

-- whether a rel has more than one name
abbrev is_deep_rel : List (List ℕ) → Bool
is_deep_rel [] = false
is_deep_rel (a ∷ []) = false
is_deep_rel (a ∷ b ∷ more) = true

-- whether a node is neither at the root nor right below it
abbrev is_deep : Flat → Bool
is_deep x = is_deep_rel x.rel

abbrev starts_right_below : List Flat → Bool
starts_right_below [] = true
starts_right_below (x ∷ xs) = not (is_deep x)

same_depth : (x y : Flat) → same_flat x y ≡ true → is_deep x ≡ is_deep y
same_depth x y e = ap is_deep_rel (same_names-eq x.rel y.rel (first_so (same_names x.rel y.rel) (same_what x.what y.what) e))

apart_depth : (x y : Flat) (t : Bool) → is_deep x ≡ false → is_deep y ≡ true → (same_flat x y && t) ≡ false
apart_depth x y t e f = by (same_flat x y) refl
  where
    by : (b : Bool) → same_flat x y ≡ b → (b && t) ≡ false
    by true g = let h = same_depth x y g in cc
    by false g = refl

apart_depth_back : (x y : Flat) (t : Bool) → is_deep x ≡ true → is_deep y ≡ false → (same_flat x y && t) ≡ false
apart_depth_back x y t e f = by (same_flat x y) refl
  where
    by : (b : Bool) → same_flat x y ≡ b → (b && t) ≡ false
    by true g = let h = same_depth x y g in cc
    by false g = refl

aligned : (xs ys r s : List Flat) → list_all is_deep xs ≡ true → list_all is_deep ys ≡ true → starts_right_below r ≡ true → starts_right_below s ≡ true
    → same_tree (xs ++ r) (ys ++ s) ≡ (same_tree xs ys && same_tree r s)
aligned [] [] r s d e f g = refl
aligned [] (y ∷ ys) [] s d e f g = refl
aligned [] (y ∷ ys) (x ∷ r) s d e f g =
    apart_depth x y (same_tree r (ys ++ s)) (not-true (is_deep x) f) (first_so (is_deep y) (list_all is_deep ys) e)
aligned (x ∷ xs) [] r [] d e f g = refl
aligned (x ∷ xs) [] r (y ∷ s) d e f g =
    apart_depth_back x y (same_tree (xs ++ r) s) (first_so (is_deep x) (list_all is_deep xs) d) (not-true (is_deep y) g)
aligned (x ∷ xs) (y ∷ ys) r s d e f g =
    ap (λ t. same_flat x y && t) (aligned xs ys r s (second_so (is_deep x) (list_all is_deep xs) d) (second_so (is_deep y) (list_all is_deep ys) e) f g)
    ∙ sym (and_assoc (same_flat x y) (same_tree xs ys) (same_tree r s))

-- ---- what stands behind a node is below it

abbrev is_inner : Flat → Bool
is_inner x = not (is_root x)

inner_in : (name : List ℕ) (xs : List Flat) → list_all is_inner (map (put_in name) xs) ≡ true
inner_in name [] = refl
inner_in name (x ∷ xs) = inner_in name xs

inner_all : (cs : List Child) → list_all is_inner (below_all cs) ≡ true
inner_all [] = refl
inner_all (c ∷ cs) =
    all_join is_inner (below_child c) (below_all cs)
    (ap (list_all is_inner) (below_child_out c) ∙ inner_in (out-Child c).name (below_node (out-Child c).node)) (inner_all cs)

inner_layer : (x : layer.Node-F Node Child Children)
    → list_all is_inner (drop 1 (node_step (map-Node Node Child Children (List Flat) (List Flat) (List Flat) below_node below_child below_children x))) ≡ true
inner_layer (layer.File digest exec) = refl
inner_layer (layer.Dir cs) = ap (list_all is_inner) (below_children_out cs) ∙ inner_all (out-Children cs).list
inner_layer (layer.Link target) = refl

-- all of a node's list behind its first is below the root
pub inner_behind : (n : Node) → list_all is_inner (drop 1 (below_node n)) ≡ true
inner_behind n =
    ap (λ t. list_all is_inner (drop 1 t)) (fold_out-Node (List Flat) (List Flat) (List Flat) node_step child_step children_step n) ∙ inner_layer (out-Node n)

deep_one : (name : List ℕ) (rel : List (List ℕ)) → not (same_names [] rel) ≡ true → is_deep_rel (name ∷ rel) ≡ true
deep_one name [] e = cc
deep_one name (a ∷ rel) e = refl

deep_in : (name : List ℕ) (xs : List Flat) → list_all is_inner xs ≡ true → list_all is_deep (map (put_in name) xs) ≡ true
deep_in name [] e = refl
deep_in name (x ∷ xs) e =
    and_from (is_deep_rel (name ∷ x.rel)) (list_all is_deep (map (put_in name) xs))
    (deep_one name x.rel (first_so (is_inner x) (list_all is_inner xs) e)) (deep_in name xs (second_so (is_inner x) (list_all is_inner xs) e))

starts_all : (cs : List Child) → starts_right_below (below_all cs) ≡ true
starts_all [] = refl
starts_all (c ∷ cs) = ap (λ t. starts_right_below (t ++ below_all cs)) (child_begins c)

-- ---- children, pair by pair

-- whether two children are the same
abbrev pub same_pair : Child → Child → Bool
same_pair c d = same_tree (below_child c) (below_child d)

same_chunks : (c d : Child) (cs ds : List Child) → same_tree (below_all (c ∷ cs)) (below_all (d ∷ ds)) ≡ (same_pair c d && same_tree (below_all cs) (below_all ds))
same_chunks c d cs ds =
    let x = put_in (out-Child c).name (at_root (what_node (out-Child c).node)) in
    let y = put_in (out-Child d).name (at_root (what_node (out-Child d).node)) in
    let xs = map (put_in (out-Child c).name) (drop 1 (below_node (out-Child c).node)) in
    let ys = map (put_in (out-Child d).name) (drop 1 (below_node (out-Child d).node)) in
    ap (λ t. same_tree (t ++ below_all cs) (below_all (d ∷ ds))) (child_begins c)
    ∙ ap (λ t. same_tree ((x ∷ xs) ++ below_all cs) (t ++ below_all ds)) (child_begins d)
    ∙ ap (λ t. same_flat x y && t) (aligned xs ys (below_all cs) (below_all ds)
    (deep_in (out-Child c).name (drop 1 (below_node (out-Child c).node)) (inner_behind (out-Child c).node))
    (deep_in (out-Child d).name (drop 1 (below_node (out-Child d).node)) (inner_behind (out-Child d).node)) (starts_all cs) (starts_all ds))
    ∙ sym (and_assoc (same_flat x y) (same_tree xs ys) (same_tree (below_all cs) (below_all ds)))
    ∙ ap (λ t. same_tree t (y ∷ ys) && same_tree (below_all cs) (below_all ds)) (sym (child_begins c))
    ∙ ap (λ t. same_tree (below_child c) t && same_tree (below_all cs) (below_all ds)) (sym (child_begins d))

-- lists of children are the same exactly where they are so pair by pair
pub same_all : (cs ds : List Child) → same_tree (below_all cs) (below_all ds) ≡ pointwise same_pair cs ds
same_all [] [] = refl
same_all [] (d ∷ ds) = ap (λ t. same_tree [] (t ++ below_all ds)) (child_begins d)
same_all (c ∷ cs) [] = ap (λ t. same_tree (t ++ below_all cs) []) (child_begins c)
same_all (c ∷ cs) (d ∷ ds) = same_chunks c d cs ds ∙ ap (λ t. same_pair c d && t) (same_all cs ds)

-- from a place on children are the same exactly where the pair there is and those behind it are
pub same_more : (cs ds : List Child) (k : ℕ) (x y : Child) → k < length cs → k < length ds → x ≡ get_or cs k x → y ≡ get_or ds k y
    → pointwise same_pair (drop k cs) (drop k ds) ≡ (same_pair x y && pointwise same_pair (drop (k + 1) cs) (drop (k + 1) ds))
same_more cs ds k x y h i e f =
    ap (λ t. pointwise same_pair t (drop k ds)) (drop_more cs k x h) ∙ ap (pointwise same_pair (get_or cs k x ∷ drop (k + 1) cs)) (drop_more ds k y i)
    ∙ ap (λ z. same_pair z (get_or ds k y) && pointwise same_pair (drop (k + 1) cs) (drop (k + 1) ds)) (sym e)
    ∙ ap (λ z. same_pair x z && pointwise same_pair (drop (k + 1) cs) (drop (k + 1) ds)) (sym f)

-- a pair that differs
pub same_differs : (cs ds : List Child) (k : ℕ) (x y : Child) → k < length cs → k < length ds → x ≡ get_or cs k x → y ≡ get_or ds k y
    → pointwise same_pair cs ds ≡ pointwise same_pair (drop k cs) (drop k ds) → same_pair x y ≡ false → same_tree (below_all cs) (below_all ds) ≡ false
same_differs cs ds k x y h i e f so not =
    same_all cs ds ∙ so ∙ same_more cs ds k x y h i e f ∙ ap (λ t. t && pointwise same_pair (drop (k + 1) cs) (drop (k + 1) ds)) not

-- a pair that is the same
pub same_step : (cs ds : List Child) (k : ℕ) (x y : Child) → k < length cs → k < length ds → x ≡ get_or cs k x → y ≡ get_or ds k y
    → pointwise same_pair cs ds ≡ pointwise same_pair (drop k cs) (drop k ds) → same_pair x y ≡ true
    → pointwise same_pair cs ds ≡ pointwise same_pair (drop (k + 1) cs) (drop (k + 1) ds)
same_step cs ds k x y h i e f so is =
    so ∙ same_more cs ds k x y h i e f ∙ ap (λ t. t && pointwise same_pair (drop (k + 1) cs) (drop (k + 1) ds)) is

-- at the end of both
pub same_done : (cs ds : List Child) (k : ℕ) → length cs ≤ k → length ds ≤ k
    → pointwise same_pair cs ds ≡ pointwise same_pair (drop k cs) (drop k ds) → same_tree (below_all cs) (below_all ds) ≡ true
same_done cs ds k h i so =
    same_all cs ds ∙ so ∙ ap (λ t. pointwise same_pair t (drop k ds)) (drop_all k cs h) ∙ ap (pointwise same_pair []) (drop_all k ds i)

-- lists of other lengths
pub same_lengths : (cs ds : List Child) → (length cs ≢ length ds) → same_tree (below_all cs) (below_all ds) ≡ false
same_lengths cs ds apart = same_all cs ds ∙ unequal same_pair cs ds apart
