-- The equations of a node's flat list.
use Rattle.std.proofs.Common.{◌≡◌, ◌<◌, ◌≤◌, ◌+◌, ℕ, Bool, List, [], ◌∷◌, ◌++◌, map, length, take, drop, get_or, ap, refl, ◌∙◌, sym, arith}
use Rattle.std.proofs.lemmas.List.{append-nil, take_more, take-append-drop, length-append, length-map}
use Rattle.mat_digest.specs.declared.digest.Digest.{Digest}
use Rattle.std.proofs.lemmas.List.Concat.{flat_map-append}
use Rattle.std.specs.List.{flat_map}
use Rattle.mat_tree.specs.declared.flat.Flat.{Flat}
use Rattle.mat_tree.specs.declared.flat.What.TheVariants as what
use Rattle.mat_tree.specs.declared.node.Node.{Node, out-Node}
use Rattle.mat_tree.specs.declared.node.Node.TheVariants as variant
use Rattle.mat_tree.specs.declared.node.Child.{Child, out-Child}
use Rattle.mat_tree.specs.declared.node.Children.{Children, out-Children}
use Rattle.mat_tree.specs.declared.node.Node.TheFolds.{fold_out-Node, fold_out-Child, fold_out-Children}
use Rattle.mat_tree.specs.Nodes.{at_root, put_in, itself, node_step, child_step, children_step, below_node, below_child, below_children, below_all, what_node}

-- the lists of some children, joined
joined_is : (f : Child → List Flat) (cs : List Child) → flat_map itself (map f cs) ≡ flat_map f cs
joined_is f [] = refl
joined_is f (c ∷ cs) = ap (λ t. f c ++ t) (joined_is f cs)

-- the list of children is that of the vector that they are in
pub below_children_out : (cs : Children) → below_children cs ≡ below_all (out-Children cs).list
below_children_out cs = fold_out-Children (List Flat) (List Flat) (List Flat) node_step child_step children_step cs ∙ joined_is below_child (out-Children cs).list

-- a child's list is its node's, each rel behind the child's name
pub below_child_out : (c : Child) → below_child c ≡ map (put_in (out-Child c).name) (below_node (out-Child c).node)
below_child_out c = fold_out-Child (List Flat) (List Flat) (List Flat) node_step child_step children_step c

-- a directory's list is the directory at the root, and then its children's
pub below_dir : (cs : Children) → below_node (variant.Dir cs) ≡ at_root what.Dir ∷ below_children cs
unfolding out-Node denote.Hole.Carrier.out
below_dir cs = fold_out-Node (List Flat) (List Flat) (List Flat) node_step child_step children_step (variant.Dir cs)

-- a file's list is the file at the root alone
pub below_file : (digest : Digest) (exec : Bool) → below_node (variant.File digest exec) ≡ at_root (what.File digest exec) ∷ []
unfolding out-Node denote.Hole.Carrier.out
below_file digest exec = fold_out-Node (List Flat) (List Flat) (List Flat) node_step child_step children_step (variant.File digest exec)

-- a link's list is the link at the root alone
pub below_link : (target : List ℕ) → below_node (variant.Link target) ≡ at_root (what.Link target) ∷ []
unfolding out-Node denote.Hole.Carrier.out
below_link target = fold_out-Node (List Flat) (List Flat) (List Flat) node_step child_step children_step (variant.Link target)

-- a directory is told as a directory
pub what_dir : (n : Node) (cs : Children) → n ≡ variant.Dir cs → what_node n ≡ what.Dir
unfolding out-Node denote.Hole.Carrier.out
what_dir n cs e = ap what_node e

-- a file is told as one of its digest and executable bit
pub what_file : (n : Node) (digest : Digest) (exec : Bool) → n ≡ variant.File digest exec → what_node n ≡ what.File digest exec
unfolding out-Node denote.Hole.Carrier.out
what_file n digest exec e = ap what_node e

-- a link is told as one to its target
pub what_link : (n : Node) (target : List ℕ) → n ≡ variant.Link target → what_node n ≡ what.Link target
unfolding out-Node denote.Hole.Carrier.out
what_link n target e = ap what_node e

-- a directory's list, from its children
pub below_dir_out : (n : Node) (cs : Children) (list : List Child) → n ≡ variant.Dir cs → list ≡ (out-Children cs).list
    → below_node n ≡ at_root what.Dir ∷ below_all list
below_dir_out n cs list e f =
    ap below_node e ∙ below_dir cs ∙ ap (λ t. at_root what.Dir ∷ t) (below_children_out cs) ∙ ap (λ t. at_root what.Dir ∷ below_all t) (sym f)

-- one more child adds its list behind the others'
pub below_all_push : (cs : List Child) (c : Child) → below_all (cs ++ (c ∷ [])) ≡ below_all cs ++ below_child c
below_all_push cs c = flat_map-append below_child cs (c ∷ []) ∙ ap (λ t. below_all cs ++ t) (append-nil (below_child c))

-- one more child in a loop
pub below_all_more : (cs : List Child) (i : ℕ) (c : Child) → i < length cs → c ≡ get_or cs i c
    → below_all (take (i + 1) cs) ≡ below_all (take i cs) ++ map (put_in (out-Child c).name) (below_node (out-Child c).node)
below_all_more cs i c h e =
    ap below_all (take_more cs i c h) ∙ ap (λ x. below_all (take i cs ++ (x ∷ []))) (sym e) ∙ below_all_push (take i cs) c
    ∙ ap (λ t. below_all (take i cs) ++ t) (below_child_out c)

-- the children so far are not more than all
pub below_all_part : (cs : List Child) (i : ℕ) → length (below_all (take i cs)) ≤ length (below_all cs)
below_all_part cs i =
    omega (
      arith,
      ap length (flat_map-append below_child (take i cs) (drop i cs)),
      length-append (below_all (take i cs)) (below_all (drop i cs)),
      ap (λ t. length (below_all t)) (take-append-drop i cs),
    )

-- how many nodes stand below one more child
pub below_all_count : (cs : List Child) (i : ℕ) (c : Child) → i < length cs → c ≡ get_or cs i c
    → length (below_all (take (i + 1) cs)) ≡ length (below_all (take i cs)) + length (below_node (out-Child c).node)
below_all_count cs i c h e =
    ap length (below_all_more cs i c h e) ∙ length-append (below_all (take i cs)) (map (put_in (out-Child c).name) (below_node (out-Child c).node))
    ∙ ap (λ n. length (below_all (take i cs)) + n) (length-map (below_node (out-Child c).node) (put_in (out-Child c).name))

-- children with the same name and the same list below have the same list
pub same_child : (a b : Child) → (out-Child a).name ≡ (out-Child b).name → below_node (out-Child a).node ≡ below_node (out-Child b).node
    → below_child a ≡ below_child b
same_child a b e f =
    below_child_out a ∙ ap (λ n. map (put_in n) (below_node (out-Child a).node)) e ∙ ap (λ t. map (put_in (out-Child b).name) t) f
    ∙ sym (below_child_out b)

-- one more child in a loop, as it is
pub below_all_step : (cs : List Child) (i : ℕ) (c : Child) → i < length cs → c ≡ get_or cs i c
    → below_all (take (i + 1) cs) ≡ below_all (take i cs) ++ below_child c
below_all_step cs i c h e =
    ap below_all (take_more cs i c h) ∙ ap (λ x. below_all (take i cs ++ (x ∷ []))) (sym e) ∙ below_all_push (take i cs) c

-- one more copy
pub copied_more : (cs copies pushed : List Child) (i : ℕ) (c new : Child) → i < length cs → c ≡ get_or cs i c
    → below_all copies ≡ below_all (take i cs) → (out-Child new).name ≡ (out-Child c).name
    → below_node (out-Child new).node ≡ below_node (out-Child c).node → pushed ≡ copies ++ (new ∷ [])
    → below_all pushed ≡ below_all (take (i + 1) cs)
copied_more cs copies pushed i c new h e so n b p =
    ap below_all p ∙ below_all_push copies new ∙ ap (λ t. t ++ below_child new) so ∙ ap (λ t. below_all (take i cs) ++ t) (same_child new c n b)
    ∙ sym (below_all_step cs i c h e)

-- a child has as many nodes in its list as its node has
pub child_length : (c : Child) → length (below_child c) ≡ length (below_node (out-Child c).node)
child_length c = ap length (below_child_out c) ∙ length-map (below_node (out-Child c).node) (put_in (out-Child c).name)

-- each of some children has no more nodes than all
pub child_within : (cs : List Child) (i : ℕ) (c : Child) → i < length cs → c ≡ get_or cs i c → length (below_child c) ≤ length (below_all cs)
child_within cs i c h e = omega (arith, child_length c, below_all_count cs i c h e, below_all_part cs (i + 1))

-- the children of a list, around one
pub below_all_around : (cs : List Child) (i : ℕ) (c : Child) → i < length cs → c ≡ get_or cs i c
    → below_all cs ≡ (below_all (take i cs) ++ below_child c) ++ below_all (drop (i + 1) cs)
below_all_around cs i c h e =
    ap below_all (sym (take-append-drop (i + 1) cs)) ∙ flat_map-append below_child (take (i + 1) cs) (drop (i + 1) cs)
    ∙ ap (λ t. t ++ below_all (drop (i + 1) cs)) (below_all_step cs i c h e)
