-- The digest of a directory, from the digests of its children's messages.
use Rattle.std.proofs.Common.{◌≡◌, true, List, ◌∷◌, ◌∙◌, sym, ap}
use Rattle.mat_digest.specs.Digests.{digest_of}
use Rattle.mat_digest.specs.declared.digest.Digest.{Digest}
use Rattle.mat_tree.specs.declared.flat.Flat.{Flat}
use Rattle.mat_tree.specs.declared.flat.What.{What}
use Rattle.mat_tree.specs.declared.flat.What.TheVariants as what
use Rattle.mat_tree.specs.declared.node.Node.{Node}
use Rattle.mat_tree.specs.declared.node.Node.TheVariants as variant
use Rattle.mat_tree.specs.declared.node.Child.{Child, out-Child}
use Rattle.mat_tree.specs.declared.node.Children.{Children, out-Children}
use Rattle.mat_tree.specs.declared.sum.Kind.TheVariants as kind
use Rattle.mat_tree.specs.declared.sum.Sum.{Sum}
use Rattle.mat_tree.specs.Messages.{dir_field}
use Rattle.mat_tree.specs.Nodes.{at_root, below_node, below_child, below_all}
use Rattle.mat_tree.specs.Sums.{dir_digest, dir_named, sum_of}
use Rattle.mat_tree.specs.Trees.{ascends}
use Rattle.mat_tree.proofs.Folds.{below_dir_out, what_dir}
use Rattle.reapi_dir.specs.Children.{children_message, dir_child}
use Rattle.reapi_dir.proofs.Children.{message_is_of_children}
use Rattle.reapi_dir.proofs.FlatLevels.{digest_is_of_message}
use Rattle.mat_tree.proofs.Orders.{child_order, dir_order}

-- the digest of a directory's message is that of the message of its children
pub dir_digest_is : (w : What) (cs : List Child) → ascends (below_all cs) ≡ true → dir_digest (at_root w ∷ below_all cs) ≡ digest_of (children_message cs)
dir_digest_is w cs e = digest_is_of_message (at_root w ∷ below_all cs) ∙ ap digest_of (message_is_of_children dir_digest w cs e)

-- the field with the digest of a directory's message is the field of that child
pub dir_field_is : (c : Child) (cs : Children) (list : List Child) (digest : Digest) → (out-Child c).node ≡ variant.Dir cs → list ≡ (out-Children cs).list
    → ascends (below_child c) ≡ true → digest ≡ digest_of (children_message list) → dir_field (out-Child c).name digest ≡ dir_child c
dir_field_is c cs list digest e f up is =
    let node = (out-Child c).node in
    let same : digest ≡ dir_digest (below_node node)
    = is ∙ sym (dir_digest_is what.Dir list (dir_order node cs list e f (child_order c up))) ∙ ap dir_digest (sym (below_dir_out node cs list e f)) in
    ap (dir_field (out-Child c).name) same ∙ ap (dir_named (out-Child c).name (dir_digest (below_node node))) (sym (what_dir node cs e))

-- the kind and the digest of the message of its children are the sum of a tree whose root is a directory
pub sum_dir : (n : Node) (cs : Children) (list : List Child) (nodes : List Flat) (digest : Digest) → n ≡ variant.Dir cs → list ≡ (out-Children cs).list
    → below_node n ≡ nodes → ascends nodes ≡ true → digest ≡ digest_of (children_message list)
    → (let sum : Sum = record { kind = kind.Dir; digest = digest } in sum) ≡ sum_of nodes
sum_dir n cs list nodes digest e f g up is =
    let order = dir_order n cs list e f (ap ascends g ∙ up) in
    ap (λ d. let sum : Sum = record { kind = kind.Dir; digest = d } in sum) (is ∙ sym (dir_digest_is what.Dir list order))
    ∙ ap sum_of (sym (below_dir_out n cs list e f) ∙ g)
