-- The message of a tree whose root is a directory, from the tree's own nodes: its children, as the nodes of a Directory message.
use Rattle.std.specs.Prelude.{ℕ, List, [], ◌∷◌, Option, Some, None}
use Rattle.std.specs.List.{filter_map}
use Rattle.mat_digest.specs.declared.digest.Digest.{Digest}
use Rattle.mat_tree.specs.Sums.{children_of, dir_digest}
use Rattle.mat_tree.specs.Trees.{sub_tree}
use Rattle.mat_tree.specs.declared.flat.Flat.{Flat}
use Rattle.mat_tree.specs.declared.flat.What.{What}
use Rattle.mat_tree.specs.declared.flat.What.TheVariants as what
use Rattle.reapi_dir.specs.declared.message.FileNode.{FileNode}
use Rattle.reapi_dir.specs.declared.message.DirNode.{DirNode}
use Rattle.reapi_dir.specs.declared.message.LinkNode.{LinkNode}
use Rattle.reapi_dir.specs.declared.message.DirMessage.{DirMessage}

-- the first name of a rel; it is the only one of a child
abbrev pub first_name : List (List ℕ) → List ℕ
first_name [] = []
first_name (name ∷ names) = name

-- the name of a child
abbrev pub child_name : Flat → List ℕ
child_name node = first_name node.rel

-- a file of this name, where what stands there is one
abbrev pub file_node_of : List ℕ → What → Option FileNode
file_node_of name (what.File digest exec) = Some (record { name = name; digest = digest; exec = exec })
file_node_of name what.Dir = None
file_node_of name (what.Link target) = None

-- a directory of this name whose message has this digest, where what stands there is one
abbrev pub dir_node_of : List ℕ → Digest → What → Option DirNode
dir_node_of name digest (what.File other exec) = None
dir_node_of name digest what.Dir = Some (record { name = name; digest = digest })
dir_node_of name digest (what.Link target) = None

-- a link of this name, where what stands there is one
abbrev pub link_node_of : List ℕ → What → Option LinkNode
link_node_of name (what.File digest exec) = None
link_node_of name what.Dir = None
link_node_of name (what.Link target) = Some (record { name = name; target = target })

-- a child of a tree, as each kind of node
abbrev pub child_file : Flat → Option FileNode
child_file node = file_node_of (child_name node) node.what

abbrev pub child_dir : List Flat → Flat → Option DirNode
child_dir nodes node = dir_node_of (child_name node) (dir_digest (sub_tree nodes node.rel)) node.what

abbrev pub child_link : Flat → Option LinkNode
child_link node = link_node_of (child_name node) node.what

-- the message of a directory, from the list of its tree: its children, each kind in order of name; a directory among them by the digest of the
-- message of its own tree
abbrev pub children_message_of : List Flat → DirMessage
children_message_of nodes = record {
  files = filter_map child_file (children_of nodes);
  dirs = filter_map (child_dir nodes) (children_of nodes);
  links = filter_map child_link (children_of nodes);
}
