-- Order, from a directory down to its children's children.
use Rattle.std.specs.Cmp.{second_so}
use Rattle.std.proofs.Common.{◌≡◌, ◌<◌, ◌+◌, ℕ, true, List, ◌++◌, length, take, drop, get_or, ◌∙◌, sym, ap, arith}
use Rattle.std.specs.List.{list_all}
use Rattle.mat_tree.specs.declared.flat.What.TheVariants as what
use Rattle.mat_tree.specs.declared.node.Node.{Node}
use Rattle.mat_tree.specs.declared.node.Node.TheVariants as variant
use Rattle.mat_tree.specs.declared.node.Child.{Child, out-Child}
use Rattle.mat_tree.specs.declared.node.Children.{Children, out-Children}
use Rattle.mat_tree.specs.Nodes.{at_root, below_node, below_child, below_all}
use Rattle.mat_tree.specs.Trees.{is_after, ascends}
use Rattle.mat_tree.proofs.Ascending.{ascends_left, ascends_right, ascends_in}
use Rattle.mat_tree.proofs.Folds.{below_child_out, below_dir_out, below_all_around, child_length}

-- the children of a directory ascend
pub dir_order : (n : Node) (cs : Children) (list : List Child) → n ≡ variant.Dir cs → list ≡ (out-Children cs).list → ascends (below_node n) ≡ true
    → ascends (below_all list) ≡ true
dir_order n cs list e f up =
    second_so (list_all (is_after (at_root what.Dir).rel) (below_all list)) (ascends (below_all list)) (ap ascends (sym (below_dir_out n cs list e f)) ∙ up)

-- what is below a child ascends from there
pub child_order : (c : Child) → ascends (below_child c) ≡ true → ascends (below_node (out-Child c).node) ≡ true
child_order c up = sym (ascends_in (out-Child c).name (below_node (out-Child c).node)) ∙ ap ascends (sym (below_child_out c)) ∙ up

-- each of some children ascends
pub each_order : (cs : List Child) (i : ℕ) (c : Child) → i < length cs → c ≡ get_or cs i c → ascends (below_all cs) ≡ true → ascends (below_child c) ≡ true
each_order cs i c h e up =
    ascends_right (below_all (take i cs)) (below_child c)
    (ascends_left (below_all (take i cs) ++ below_child c) (below_all (drop (i + 1) cs)) (ap ascends (sym (below_all_around cs i c h e)) ∙ up))

-- the children of a child that is a directory ascend, and they are fewer
pub below_order : (c : Child) (cs : Children) (list : List Child) → (out-Child c).node ≡ variant.Dir cs → list ≡ (out-Children cs).list
    → ascends (below_child c) ≡ true → ascends (below_all list) ≡ true
below_order c cs list e f up = dir_order (out-Child c).node cs list e f (child_order c up)

-- the children of a child that is a directory have fewer nodes than the child
pub below_fewer : (c : Child) (cs : Children) (list : List Child) → (out-Child c).node ≡ variant.Dir cs → list ≡ (out-Children cs).list
    → length (below_all list) < length (below_child c)
below_fewer c cs list e f = omega (arith, child_length c, ap length (below_dir_out (out-Child c).node cs list e f))
