-- The message of a directory, as its flat list has it, is that of its children.
use Rattle.std.proofs.Common.{◌≡◌, true, List, [], ◌∷◌, ◌++◌, map, refl, ◌∙◌, ap}
use Rattle.std.specs.List.{flat_map}
use Rattle.mat_digest.specs.declared.digest.Digest.{Digest}
use Rattle.mat_tree.specs.declared.flat.Flat.{Flat}
use Rattle.mat_tree.specs.declared.flat.What.{What}
use Rattle.mat_tree.specs.declared.node.Child.{Child, out-Child}
use Rattle.mat_tree.specs.Nodes.{at_root, what_node, below_all}
use Rattle.mat_tree.specs.Sums.{dir_named, dir_part, file_part, link_part, message_by}
use Rattle.mat_tree.specs.Trees.{ascends}
use Rattle.reapi_dir.specs.Children.{children_message_by, dir_child_by, file_child, link_child}
use Rattle.mat_tree.proofs.Families.{as_flat, below_name, children_are, each_is_found, IsFound}

files_are : (cs : List Child) → flat_map file_part (map as_flat cs) ≡ flat_map file_child cs
files_are [] = refl
files_are (c ∷ cs) = ap (λ t. file_child c ++ t) (files_are cs)

links_are : (cs : List Child) → flat_map link_part (map as_flat cs) ≡ flat_map link_child cs
links_are [] = refl
links_are (c ∷ cs) = ap (λ t. link_child c ++ t) (links_are cs)

dirs_are : (digest : List Flat → Digest) (w : What) (all cs : List Child) → ascends (below_all all) ≡ true → IsFound all cs
    → flat_map (dir_part digest (at_root w ∷ below_all all)) (map as_flat cs) ≡ flat_map (dir_child_by digest) cs
dirs_are digest w all [] e f = refl
dirs_are digest w all (c ∷ cs) e f =
    ap (λ t. dir_named (out-Child c).name (digest t) (what_node (out-Child c).node) ++ flat_map (dir_part digest (at_root w ∷ below_all all)) (map as_flat cs))
    (below_name w all c e f.0)
    ∙ ap (λ t. dir_child_by digest c ++ t) (dirs_are digest w all cs e f.1)

-- the message of a flat list is that of the children of its root
pub message_is_of_children : (digest : List Flat → Digest) (w : What) (cs : List Child) → ascends (below_all cs) ≡ true
    → message_by digest (at_root w ∷ below_all cs) ≡ children_message_by digest cs
message_is_of_children digest w cs e =
    ap (λ t. flat_map file_part t ++ flat_map (dir_part digest (at_root w ∷ below_all cs)) t ++ flat_map link_part t) (children_are cs)
    ∙ ap (λ t. t ++ flat_map (dir_part digest (at_root w ∷ below_all cs)) (map as_flat cs) ++ flat_map link_part (map as_flat cs)) (files_are cs)
    ∙ ap (λ t. flat_map file_child cs ++ t ++ flat_map link_part (map as_flat cs)) (dirs_are digest w cs cs e (each_is_found cs e))
    ∙ ap (λ t. flat_map file_child cs ++ flat_map (dir_child_by digest) cs ++ t) (links_are cs)
