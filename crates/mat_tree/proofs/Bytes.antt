-- The bytes of a node's files.
use Rattle.std.specs.Cmp.{first_so, second_so}
use Rattle.std.proofs.Common.{◌≡◌, ◌<◌, ◌≤◌, ◌+◌, ◌*◌, ◌^◌, ℕ, List, [], ◌∷◌, map, length, take, drop, get_or, true, ap, refl, ◌∙◌, sym, arith, zero-add}
use Rattle.std.proofs.lemmas.List.{take-append-drop}
use Rattle.std.proofs.lemmas.List.Concat.{flat_map-append}
use Rattle.std.proofs.lemmas.List.Sums.{sum_by-append, sum_by-cons}
use Rattle.mat_tree.specs.declared.flat.Flat.{Flat}
use Rattle.mat_tree.specs.declared.node.Node.{Node}
use Rattle.mat_tree.specs.declared.node.Node.TheVariants as variant
use Rattle.mat_tree.specs.declared.node.Child.{Child, out-Child}
use Rattle.mat_tree.specs.declared.node.Children.{Children, out-Children}
use Rattle.mat_tree.specs.declared.flat.What.TheVariants as what
use Rattle.mat_tree.specs.Nodes.{at_root, put_in, below_node, below_child, below_all}
use Rattle.std.specs.List.{list_all}
use Rattle.mat_tree.specs.Trees.{size_of, bytes_of, is_small, IsTree}
use Rattle.mat_tree.proofs.Parts.{le_from_test}
use Rattle.mat_tree.proofs.Folds.{below_all_more, below_dir_out}

bytes-put_in : (name : List ℕ) (nodes : List Flat) → bytes_of (map (put_in name) nodes) ≡ bytes_of nodes
bytes-put_in name [] = refl
bytes-put_in name (x ∷ xs) =
    sum_by-cons size_of (put_in name x) (map (put_in name) xs) ∙ ap (λ n. size_of x + n) (bytes-put_in name xs) ∙ sym (sum_by-cons size_of x xs)

-- a directory has the bytes of all its children
pub bytes_dir : (n : Node) (cs : Children) (list : List Child) → n ≡ variant.Dir cs → list ≡ (out-Children cs).list
    → bytes_of (below_node n) ≡ bytes_of (below_all list)
bytes_dir n cs list e f =
    ap bytes_of (below_dir_out n cs list e f) ∙ sum_by-cons size_of (at_root what.Dir) (below_all list) ∙ zero-add (bytes_of (below_all list))

-- one more child adds its own bytes
pub bytes_more : (cs : List Child) (i : ℕ) (c : Child) → i < length cs → c ≡ get_or cs i c
    → bytes_of (below_all (take (i + 1) cs)) ≡ bytes_of (below_all (take i cs)) + bytes_of (below_node (out-Child c).node)
bytes_more cs i c h e =
    ap bytes_of (below_all_more cs i c h e) ∙ sum_by-append size_of (below_all (take i cs)) (map (put_in (out-Child c).name) (below_node (out-Child c).node))
    ∙ ap (λ n. bytes_of (below_all (take i cs)) + n) (bytes-put_in (out-Child c).name (below_node (out-Child c).node))

-- the first of some children have no more bytes than all
pub bytes_part : (cs : List Child) (i : ℕ) → bytes_of (below_all (take i cs)) ≤ bytes_of (below_all cs)
bytes_part cs i =
    omega (
      arith,
      ap bytes_of (flat_map-append below_child (take i cs) (drop i cs)),
      sum_by-append size_of (below_all (take i cs)) (below_all (drop i cs)),
      ap (λ t. bytes_of (below_all t)) (take-append-drop i cs),
    )

small_sum : (xs : List Flat) → list_all is_small xs ≡ true → bytes_of xs ≤ 67108864 * length xs
small_sum [] e = omega arith
small_sum (x ∷ xs) e =
    let first : size_of x ≤ 67108864 = le_from_test (size_of x) 67108864 (first_so (is_small x) (list_all is_small xs) e) in
    let rest = small_sum xs (second_so (is_small x) (list_all is_small xs) e) in
    omega (arith, sum_by-cons size_of x xs)

-- the bytes of a tree are less than 2^64
pub bytes_fit : (xs : List Flat) → IsTree xs → bytes_of xs < 2 ^ 64
bytes_fit xs t = omega (arith, small_sum xs t.small, t.few)
