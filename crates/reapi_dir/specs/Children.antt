-- The message of a directory, from its children as nodes.
use Rattle.std.specs.Prelude.{ℕ, List, ◌++◌}
use Rattle.std.specs.List.{flat_map}
use Rattle.mat_digest.specs.declared.digest.Digest.{Digest}
use Rattle.mat_tree.specs.Nodes.{below_node, what_node}
use Rattle.mat_tree.specs.Sums.{dir_digest, dir_named, file_named, link_named}
use Rattle.mat_tree.specs.declared.flat.Flat.{Flat}
use Rattle.mat_tree.specs.declared.node.Child.{Child, out-Child}

-- the field of a child that is a file, and nothing for another
abbrev pub file_child : Child → List ℕ
file_child child = file_named (out-Child child).name (what_node (out-Child child).node)

-- the field of a child that is a directory, by the digests of messages, and nothing for another
abbrev pub dir_child_by : (List Flat → Digest) → Child → List ℕ
dir_child_by digest child = dir_named (out-Child child).name (digest (below_node (out-Child child).node)) (what_node (out-Child child).node)

abbrev pub dir_child : Child → List ℕ
dir_child = dir_child_by dir_digest

-- the field of a child that is a link, and nothing for another
abbrev pub link_child : Child → List ℕ
link_child child = link_named (out-Child child).name (what_node (out-Child child).node)

-- the message of a directory of these children: files, then directories, then links
abbrev pub children_message_by : (List Flat → Digest) → List Child → List ℕ
children_message_by digest children = flat_map file_child children ++ flat_map (dir_child_by digest) children ++ flat_map link_child children

abbrev pub children_message : List Child → List ℕ
children_message = children_message_by dir_digest
