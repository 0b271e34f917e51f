-- Kept rows as bytes: which bytes are the row of a tree and an identity, in both versions. Numbers stand with their highest byte first.
use Rattle.std.specs.Prelude.{◌≡◌, ℕ, ◌^◌, ◌<◌, Bool, true, false, List, [], ◌∷◌, ◌++◌, All, length, Option, Some, None, IfSome}
use Rattle.std.specs.Int.{w16, w32, w64, to_be_bytes}
use Rattle.std.specs.List.{flat_map}
use Rattle.mat_digest.specs.declared.digest.Digest.{Digest}
use Rattle.mat_path.specs.Names.{rel_text}
use Rattle.mat_tree.specs.Trees.{IsNode, IsTree, bytes_of}
use Rattle.mat_tree.specs.declared.flat.Flat.{Flat}
use Rattle.mat_tree.specs.declared.flat.What.{What}
use Rattle.mat_tree.specs.declared.flat.What.TheVariants as what
use Rattle.row_bytes.specs.declared.row.KeptTree.{KeptTree}

-- the first bytes of a row: `KR`, and the number of its version
abbrev pub magic : ℕ → List ℕ
magic version = 75 ∷ 82 ∷ version ∷ []

-- the byte that says what a node is
abbrev pub kind_byte : What → ℕ
kind_byte (what.File digest false) = 0
kind_byte (what.File digest true) = 1
kind_byte what.Dir = 2
kind_byte (what.Link target) = 3

-- a file: its hash, and its size in 8 bytes
abbrev pub file_bytes : Digest → List ℕ
file_bytes digest = digest.hash ++ to_be_bytes w64 digest.size

-- a text behind its length in 2 bytes
abbrev pub sized : List ℕ → List ℕ
sized text = to_be_bytes w16 (length text) ++ text

-- what stands of a node behind its rel
abbrev pub what_bytes : What → List ℕ
what_bytes (what.File digest exec) = file_bytes digest
what_bytes what.Dir = []
what_bytes (what.Link target) = sized target

-- a node below the root: what it is, its rel, and its file or its target
abbrev pub node_bytes : Flat → List ℕ
node_bytes node = kind_byte node.what ∷ (sized (rel_text node.rel) ++ what_bytes node.what)

-- what stands behind the kind of the root: a file, or how many other nodes a directory has, in 4 bytes, and these in flat order
abbrev pub root_bytes : What → List Flat → List ℕ
root_bytes (what.File digest exec) rest = file_bytes digest
root_bytes what.Dir rest = to_be_bytes w32 (length rest) ++ flat_map node_bytes rest
root_bytes (what.Link target) rest = []

-- a tree, from its root on
abbrev pub tree_bytes : List Flat → List ℕ
tree_bytes [] = []
tree_bytes (root ∷ rest) = kind_byte root.what ∷ root_bytes root.what rest

-- the one row of a tree: of version 2 where it has an identity, with the sum of the files' sizes, and else of version 1
abbrev pub row_bytes : Option ℕ → List Flat → List ℕ
row_bytes None tree = magic 1 ++ tree_bytes tree
row_bytes (Some identity) tree = magic 2 ++ (to_be_bytes w64 identity ++ (to_be_bytes w64 (bytes_of tree) ++ tree_bytes tree))

-- these bytes are a row of this tree and this identity
pub record IsRow (bytes : List ℕ) (row : KeptTree) : Type 0 where
  pub text : bytes ≡ row_bytes row.identity row.tree
  pub tree : IsTree row.tree
  pub nodes : All IsNode row.tree
  pub identity : IfSome row.identity (λ identity. identity < 2 ^ 64)
