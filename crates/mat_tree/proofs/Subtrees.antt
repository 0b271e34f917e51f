-- The nodes at and below a rel.
use Rattle.mat_path.proofs.SameNames.{same_name-eq}
use Rattle.std.specs.Cmp.{first_so}
use Rattle.std.proofs.Common.{◌≡◌, ℕ, Bool, true, false, cond, ◌&&◌, List, [], ◌∷◌, ◌++◌, map, length, drop, take, get_or, ◌≤◌, ◌-◌, refl, ◌∙◌, sym, ap, append-nil, arith}
use Rattle.std.proofs.lemmas.List.{take_all}
use Rattle.std.specs.List.{list_all, find, filter}
use Rattle.std.specs.Option.{option_map}
use Rattle.std.specs.declared.option.Option.{Option}
use Rattle.std.specs.declared.option.Option.TheVariants.{Some, None}
use Rattle.mat_path.specs.Names.{same_name, same_names, is_prefix}
use Rattle.mat_tree.specs.declared.flat.Flat.{Flat}
use Rattle.mat_tree.specs.declared.node.Node.{Node, out-Node}
use Rattle.mat_tree.specs.declared.node.Node.TheOpen as layer
use Rattle.mat_tree.specs.declared.node.Node.TheFolds.{map-Node, fold_out-Node}
use Rattle.mat_tree.specs.declared.node.Child.{Child, out-Child}
use Rattle.mat_tree.specs.declared.node.Children.{Children, out-Children}
use Rattle.mat_tree.specs.declared.node.Node.TheVariants as variant
use Rattle.mat_tree.specs.Nodes.{at_root, put_in, node_step, child_step, children_step, layer_what, what_node, below_node, below_child, below_children, below_all, is_named}
use Rattle.mat_tree.specs.Trees.{is_at, is_after, ascends, is_below, seen_from, sub_tree, what_of, what_at}
use Rattle.mat_tree.proofs.Paths.{lesser_name_differs, same_as_prefix}
use Rattle.mat_tree.proofs.Ascending.{after_first, ascends_left, ascends_right, ascends_in}
use Rattle.mat_tree.proofs.Folds.{below_child_out, below_dir_out}
use Rattle.mat_tree.proofs.Joins.{all_left, all_right}
use Rattle.mat_tree.proofs.Orders.{dir_order}

-- ---- a node's list begins with the node

begins_layer : (x : layer.Node-F (List Flat) (List Flat) (List Flat)) → node_step x ≡ at_root (layer_what x) ∷ drop 1 (node_step x)
begins_layer (layer.File digest exec) = refl
begins_layer (layer.Dir children) = refl
begins_layer (layer.Link target) = refl

layer_what_map : (x : layer.Node-F Node Child Children)
    → layer_what (map-Node Node Child Children (List Flat) (List Flat) (List Flat) below_node below_child below_children x) ≡ layer_what x
layer_what_map (layer.File digest exec) = refl
layer_what_map (layer.Dir children) = refl
layer_what_map (layer.Link target) = refl

-- a node's list begins with the node at the root
pub node_begins : (n : Node) → below_node n ≡ at_root (what_node n) ∷ drop 1 (below_node n)
node_begins n =
    let x = map-Node Node Child Children (List Flat) (List Flat) (List Flat) below_node below_child below_children (out-Node n) in
    let e : below_node n ≡ node_step x = fold_out-Node (List Flat) (List Flat) (List Flat) node_step child_step children_step n in
    e ∙ begins_layer x ∙ ap (λ w. at_root w ∷ drop 1 (node_step x)) (layer_what_map (out-Node n)) ∙ ap (λ t. at_root (what_node n) ∷ drop 1 t) (sym e)

-- ---- at and below a rel

-- what is at and below the root is all
pub sub_tree_root : (xs : List Flat) → sub_tree xs [] ≡ xs
sub_tree_root [] = refl
sub_tree_root (x ∷ xs) = ap (λ t. x ∷ t) (sub_tree_root xs)

-- what is at and below a rel in two lists is what is so in each
pub sub_tree-append : (rel : List (List ℕ)) (xs ys : List Flat) → sub_tree (xs ++ ys) rel ≡ sub_tree xs rel ++ sub_tree ys rel
sub_tree-append rel [] ys = refl
sub_tree-append rel (x ∷ xs) ys =
    step (is_below rel x) (seen_from rel x) (sub_tree (xs ++ ys) rel) (sub_tree xs rel) (sub_tree ys rel)
    (filter (is_below rel) (xs ++ ys)) (filter (is_below rel) xs) refl refl (sub_tree-append rel xs ys)
  where
    step : (b : Bool) (y : Flat) (t u v : List Flat) (f g : List Flat) → map (seen_from rel) f ≡ t → map (seen_from rel) g ≡ u → t ≡ u ++ v
        → map (seen_from rel) (cond b (x ∷ f) f) ≡ map (seen_from rel) (cond b (x ∷ g) g) ++ v
    step true y t u v f g p q e = ap (λ s. seen_from rel x ∷ s) (p ∙ e ∙ ap (λ s. s ++ v) (sym q))
    step false y t u v f g p q e = p ∙ e ∙ ap (λ s. s ++ v) (sym q)

-- below a child of another name nothing is left
pub sub_tree_other : (name other : List ℕ) (more : List (List ℕ)) (xs : List Flat) → same_name name other ≡ false
    → sub_tree (map (put_in other) xs) (name ∷ more) ≡ []
sub_tree_other name other more [] e = refl
sub_tree_other name other more (x ∷ xs) e =
    ap (λ b. map (seen_from (name ∷ more)) (cond (b && is_prefix more x.rel) (put_in other x ∷ filter (is_below (name ∷ more)) (map (put_in other) xs))
    (filter (is_below (name ∷ more)) (map (put_in other) xs)))) e
    ∙ sub_tree_other name other more xs e

-- below a child of the same name it is as from that child on
pub sub_tree_same : (name other : List ℕ) (more : List (List ℕ)) (xs : List Flat) → same_name name other ≡ true
    → sub_tree (map (put_in other) xs) (name ∷ more) ≡ sub_tree xs more
sub_tree_same name other more [] e = refl
sub_tree_same name other more (x ∷ xs) e =
    ap (λ b. map (seen_from (name ∷ more)) (cond (b && is_prefix more x.rel) (put_in other x ∷ filter (is_below (name ∷ more)) (map (put_in other) xs))
    (filter (is_below (name ∷ more)) (map (put_in other) xs)))) e
    ∙ step (is_prefix more x.rel) (filter (is_below (name ∷ more)) (map (put_in other) xs)) (filter (is_below more) xs) (sub_tree_same name other more xs e)
  where
    step : (b : Bool) (f g : List Flat) → map (seen_from (name ∷ more)) f ≡ map (seen_from more) g
        → map (seen_from (name ∷ more)) (cond b (put_in other x ∷ f) f) ≡ map (seen_from more) (cond b (x ∷ g) g)
    step true f g p = ap (λ t. seen_from more x ∷ t) p
    step false f g p = p

-- where all children come after a name, nothing is below it
sub_tree_after : (name : List ℕ) (more : List (List ℕ)) (cs : List Child) → list_all (is_after (name ∷ [])) (below_all cs) ≡ true
    → sub_tree (below_all cs) (name ∷ more) ≡ []
sub_tree_after name more [] e = refl
sub_tree_after name more (c ∷ cs) e =
    let first : list_all (is_after (name ∷ [])) (below_child c) ≡ true = all_left (is_after (name ∷ [])) (below_child c) (below_all cs) e in
    let rest = all_right (is_after (name ∷ [])) (below_child c) (below_all cs) e in
    let is = below_child_out c ∙ ap (map (put_in (out-Child c).name)) (node_begins (out-Child c).node) in
    let told : list_all (is_after (name ∷ [])) (map (put_in (out-Child c).name) (at_root (what_node (out-Child c).node) ∷ drop 1 (below_node (out-Child c).node))) ≡ true
    = ap (list_all (is_after (name ∷ []))) (sym is) ∙ first in
    let other = lesser_name_differs name (out-Child c).name (first_so (is_after (name ∷ []) (put_in (out-Child c).name (at_root (what_node (out-Child c).node))))
    (list_all (is_after (name ∷ [])) (map (put_in (out-Child c).name) (drop 1 (below_node (out-Child c).node)))) told) in
    sub_tree-append (name ∷ more) (below_child c) (below_all cs)
    ∙ ap (λ t. sub_tree t (name ∷ more) ++ sub_tree (below_all cs) (name ∷ more)) (below_child_out c)
    ∙ ap (λ t. t ++ sub_tree (below_all cs) (name ∷ more)) (sub_tree_other name (out-Child c).name more (below_node (out-Child c).node) other)
    ∙ sub_tree_after name more cs rest

-- ---- one step down

-- what is below the child that was found
abbrev pub found_sub : List (List ℕ) → Option Child → List Flat
found_sub more None = []
found_sub more (Some c) = sub_tree (below_node (out-Child c).node) more

-- a child's list begins with its name
pub child_begins : (c : Child) → below_child c ≡ put_in (out-Child c).name (at_root (what_node (out-Child c).node)) ∷ map (put_in (out-Child c).name) (drop 1 (below_node (out-Child c).node))
child_begins c = below_child_out c ∙ ap (map (put_in (out-Child c).name)) (node_begins (out-Child c).node)

-- the children behind a child come after its name
pub after_child : (c : Child) (cs : List Child) → ascends (below_all (c ∷ cs)) ≡ true → list_all (is_after ((out-Child c).name ∷ [])) (below_all cs) ≡ true
after_child c cs e =
    after_first (put_in (out-Child c).name (at_root (what_node (out-Child c).node))) (map (put_in (out-Child c).name) (drop 1 (below_node (out-Child c).node))) (below_all cs)
    (ap (λ t. ascends (t ++ below_all cs)) (sym (child_begins c)) ∙ e)

-- what is at and below some names is what the child of the first name has at and below the others
pub sub_tree_children : (name : List ℕ) (more : List (List ℕ)) (cs : List Child) → ascends (below_all cs) ≡ true
    → sub_tree (below_all cs) (name ∷ more) ≡ found_sub more (find (is_named name) cs)
sub_tree_children name more [] e = refl
sub_tree_children name more (c ∷ cs) e =
    sub_tree-append (name ∷ more) (below_child c) (below_all cs)
    ∙ ap (λ t. sub_tree t (name ∷ more) ++ sub_tree (below_all cs) (name ∷ more)) (below_child_out c)
    ∙ by (same_name name (out-Child c).name) refl (sub_tree_children name more cs (ascends_right (below_child c) (below_all cs) e))
  where
    by : (b : Bool) → same_name name (out-Child c).name ≡ b → sub_tree (below_all cs) (name ∷ more) ≡ found_sub more (find (is_named name) cs)
        → sub_tree (map (put_in (out-Child c).name) (below_node (out-Child c).node)) (name ∷ more) ++ sub_tree (below_all cs) (name ∷ more)
        ≡ found_sub more (cond b (Some c) (find (is_named name) cs))
    by true f rest =
        ap (λ t. sub_tree (map (put_in (out-Child c).name) (below_node (out-Child c).node)) (name ∷ more) ++ t)
        (sub_tree_after name more cs (ap (λ n. list_all (is_after (n ∷ [])) (below_all cs)) (same_name-eq name (out-Child c).name f) ∙ after_child c cs e))
        ∙ append-nil (sub_tree (map (put_in (out-Child c).name) (below_node (out-Child c).node)) (name ∷ more))
        ∙ sub_tree_same name (out-Child c).name more (below_node (out-Child c).node) f
    by false f rest =
        ap (λ t. t ++ sub_tree (below_all cs) (name ∷ more)) (sub_tree_other name (out-Child c).name more (below_node (out-Child c).node) f) ∙ rest

-- a child that was found ascends
pub child_ascends : (name : List ℕ) (cs : List Child) (c : Child) → ascends (below_all cs) ≡ true → Some c ≡ find (is_named name) cs
    → ascends (below_node (out-Child c).node) ≡ true
child_ascends name [] c e f = cc
child_ascends name (d ∷ cs) c e f =
    by (same_name name (out-Child d).name) (λ g. child_ascends name cs c (ascends_right (below_child d) (below_all cs) e) g) f
  where
    by : (b : Bool) → (Some c ≡ find (is_named name) cs → ascends (below_node (out-Child c).node) ≡ true)
        → Some c ≡ cond b (Some d) (find (is_named name) cs) → ascends (below_node (out-Child c).node) ≡ true
    by true more g =
        let is : c ≡ d = cc in
        ap (λ x. ascends (below_node (out-Child x).node)) is ∙ sym (ascends_in (out-Child d).name (below_node (out-Child d).node))
        ∙ ap ascends (sym (below_child_out d)) ∙ ascends_left (below_child d) (below_all cs) e
    by false more g = more g

-- what is at and below some names, from the child of the first
pub sub_tree_of_child : (n : Node) (cs : Children) (list : List Child) (names : List (List ℕ)) (name : List ℕ) (more : List (List ℕ)) (o : Option Child)
    → n ≡ variant.Dir cs → list ≡ (out-Children cs).list → names ≡ name ∷ more → ascends (below_node n) ≡ true → o ≡ find (is_named name) list
    → found_sub more o ≡ sub_tree (below_node n) names
sub_tree_of_child n cs list names name more o e f is up so =
    ap (found_sub more) so ∙ sym (sub_tree_children name more list (dir_order n cs list e f up))
    ∙ ap (λ t. sub_tree t (name ∷ more)) (sym (below_dir_out n cs list e f)) ∙ ap (sub_tree (below_node n)) (sym is)

-- the child of a directory that is found by a name ascends where the directory does
pub step_ascends : (n : Node) (cs : Children) (list : List Child) (name : List ℕ) (c : Child)
    → n ≡ variant.Dir cs → list ≡ (out-Children cs).list → ascends (below_node n) ≡ true → Some c ≡ find (is_named name) list
    → ascends (below_node (out-Child c).node) ≡ true
step_ascends n cs list name c e f up so = child_ascends name list c (dir_order n cs list e f up) so

-- ---- what stands at a rel, from what is at and below it

-- what stands at a rel stands at the root of what is at and below it
pub what_at_sub : (rel : List (List ℕ)) (xs : List Flat) → what_at xs rel ≡ what_at (sub_tree xs rel) []
what_at_sub rel [] = refl
what_at_sub rel (x ∷ xs) =
    ap (λ b. option_map what_of (cond b (Some x) (find (is_at rel) xs))) (same_as_prefix rel x.rel)
    ∙ by (is_prefix rel x.rel) (same_names (drop (length rel) x.rel) []) refl (what_at_sub rel xs)
  where
    by : (a b : Bool) → is_at [] (seen_from rel x) ≡ b → what_at xs rel ≡ what_at (sub_tree xs rel) []
        → option_map what_of (cond (a && b) (Some x) (find (is_at rel) xs))
        ≡ option_map what_of (find (is_at []) (map (seen_from rel) (cond a (x ∷ filter (is_below rel) xs) (filter (is_below rel) xs))))
    by true true f e = ap (λ d. option_map what_of (cond d (Some (seen_from rel x)) (find (is_at []) (sub_tree xs rel)))) (sym f)
    by true false f e = e ∙ ap (λ d. option_map what_of (cond d (Some (seen_from rel x)) (find (is_at []) (sub_tree xs rel)))) (sym f)
    by false b f e = e

-- names from their first
pub names_split : (names : List (List ℕ)) (name : List ℕ) → 1 ≤ length names → name ≡ get_or names 0 name
    → names ≡ name ∷ take (length names - 1) (drop 1 names)
names_split [] name h e = absurd (omega arith)
names_split (n ∷ names) name h e =
    ap (λ x. x ∷ names) (sym e) ∙ ap (λ t. name ∷ t) (sym (take_all (length (n ∷ names) - 1) names (omega arith)))
