-- The sum of a tree: its kind, and the digest of its file or of its directory's message (Remote Execution API v2, `Directory`).
use Rattle.std.specs.Prelude.{ℕ, zero, suc, Bool, true, false, List, [], ◌∷◌, ◌++◌, length}
use Rattle.std.specs.List.{filter, flat_map}
use Rattle.mat_digest.specs.Digests.{digest_of}
use Rattle.mat_digest.specs.declared.digest.Digest.{Digest}
use Rattle.mat_path.specs.Names.{joined}
use Rattle.mat_tree.specs.declared.flat.Flat.{Flat}
use Rattle.mat_tree.specs.declared.flat.What.{What}
use Rattle.mat_tree.specs.declared.flat.What.TheVariants as what
use Rattle.mat_tree.specs.declared.sum.Kind.TheVariants as kind
use Rattle.mat_tree.specs.declared.sum.Sum.{Sum}
use Rattle.mat_tree.specs.Messages.{dir_field, file_field, link_field}
use Rattle.mat_tree.specs.Trees.{file_sum, sub_tree}

-- whether a rel has one name
abbrev pub is_single : List (List ℕ) → Bool
is_single [] = false
is_single (name ∷ []) = true
is_single (name ∷ next ∷ names) = false

-- whether a node is a child of the root
abbrev pub is_child : Flat → Bool
is_child node = is_single node.rel

-- the children of the root, in order of name
abbrev pub children_of : List Flat → List Flat
children_of nodes = filter is_child nodes

-- the field of a child of this name that is a file, and nothing for another
abbrev pub file_named : List ℕ → What → List ℕ
file_named name (what.File digest exec) = file_field name digest exec
file_named name what.Dir = []
file_named name (what.Link target) = []

-- the field of a child of this name that is a directory whose message has this digest, and nothing for another
abbrev pub dir_named : List ℕ → Digest → What → List ℕ
dir_named name digest (what.File other exec) = []
dir_named name digest what.Dir = dir_field name digest
dir_named name digest (what.Link target) = []

-- the field of a child of this name that is a link, and nothing for another
abbrev pub link_named : List ℕ → What → List ℕ
link_named name (what.File digest exec) = []
link_named name what.Dir = []
link_named name (what.Link target) = link_field name target

-- a child's fields; its rel as text is its name
abbrev pub file_part : Flat → List ℕ
file_part node = file_named (joined node.rel) node.what

abbrev pub dir_part : (List Flat → Digest) → List Flat → Flat → List ℕ
dir_part digest nodes node = dir_named (joined node.rel) (digest (sub_tree nodes node.rel)) node.what

abbrev pub link_part : Flat → List ℕ
link_part node = link_named (joined node.rel) node.what

-- the message of a directory, where directories below it have these digests: files, then directories, then links, each in order of name
abbrev pub message_by : (List Flat → Digest) → List Flat → List ℕ
message_by digest nodes =
    flat_map file_part (children_of nodes)
    ++ flat_map (dir_part digest nodes) (children_of nodes)
    ++ flat_map link_part (children_of nodes)

-- the digest of a directory's message, down to this many levels
abbrev pub digest_down : ℕ → List Flat → Digest
digest_down zero nodes = digest_of []
digest_down (suc levels) nodes = digest_of (message_by (digest_down levels) nodes)

-- the digest of a directory's message; a tree has no more levels than nodes
unfoldable pub dir_digest : List Flat → Digest
dir_digest nodes = digest_down (length nodes) nodes

-- the sum of a tree whose root is this; no root is a link
abbrev pub sum_under : What → List Flat → Sum
sum_under (what.File digest exec) nodes = file_sum digest exec
sum_under what.Dir nodes = record { kind = kind.Dir; digest = dir_digest nodes }
sum_under (what.Link target) nodes = record { kind = kind.File; digest = digest_of target }

-- the sum of a tree
abbrev pub sum_of : List Flat → Sum
sum_of [] = record { kind = kind.Dir; digest = dir_digest [] }
sum_of (root ∷ rest) = sum_under root.what (root ∷ rest)
