-- What reading a row answers: the row, or the offset at which the first field begins that is cut short or wrong. Each definition reads one field, or
-- the fields of one production in order, from the bytes that are left before the offset `end`.
use Rattle.std.specs.Prelude.{◌≡◌, ℕ, zero, suc, ◌-◌, ◌==◌, nat_le, nat_lt, Bool, true, false, ◌&&◌, if◌then◌else◌, List, [], ◌∷◌, ◌++◌, length, take, drop, slice_get, Option, Some, None, Result, Ok, Err}
use Rattle.std.specs.Int.{Width, byte_len, from_be_bytes, w16, w32, w64}
use Rattle.std.specs.List.{list_any}
use Rattle.std.specs.Ordering.{is_lt}
use Rattle.mat_digest.specs.declared.digest.Digest.{Digest}
use Rattle.mat_path.specs.Names.{is_target, path_cmp, rel_of, same_name}
use Rattle.mat_tree.specs.Trees.{bytes_of, follows, greatest_file, is_dir, is_dir_at, is_in_turn, is_root, parent_of}
use Rattle.mat_tree.specs.declared.flat.Flat.{Flat}
use Rattle.mat_tree.specs.declared.flat.What.{What}
use Rattle.mat_tree.specs.declared.flat.What.TheVariants as what
use Rattle.row_bytes.specs.Rows.{magic}
use Rattle.row_bytes.specs.declared.mark.Mark.{Mark}
use Rattle.row_bytes.specs.declared.mark.Mark.TheVariants as mark
use Rattle.row_bytes.specs.declared.refusal.RowRefusal.{RowRefusal}
use Rattle.row_bytes.specs.declared.refusal.RowRefusal.TheVariants as refusal
use Rattle.row_bytes.specs.declared.row.KeptTree.{KeptTree}

-- ---- answers

-- a value, or the offset of the first fault
abbrev pub Read : Type 0 → Type 0
Read A = Result A ℕ

-- a field is a value and the bytes behind it
abbrev pub Field : Type 0 → Type 0
Field A = Read (A × List ℕ)

-- the second step, if the first one gave a value
infixl 10 ◌>>=◌
abbrev pub ◌>>=◌ : {A B : Type 0} → Read A → (A → Read B) → Read B
Ok x >>= f = f x
Err at >>= f = Err at

-- a refusal is the fault that reading has, unless it is want of memory
abbrev pub Fails : {Y : Type 0} → RowRefusal → Read Y → Type 0
Fails refusal.NoMemory read = Unit {0}
Fails (refusal.Bad at) read = read ≡ Err at

-- an answer of the code, seen by `view`, is what reading gives, unless memory was wanting
abbrev pub Gives : {X Y : Type 0} → (X → Y) → Result X RowRefusal → Read Y → Type 0
Gives view (Ok x) read = read ≡ Ok (view x)
Gives view (Err why) read = Fails why read

-- ---- fields

-- the offset at which the bytes begin that are left before `end`
abbrev pub place : ℕ → List ℕ → ℕ
place end bytes = end - length bytes

-- the offset at which the text of a field begins, by that text and what stands behind it
abbrev pub start : ℕ → List ℕ × List ℕ → ℕ
start end field = place (place end field.1) field.0

-- a value that a field says, if what stands there is one
abbrev pub fitting : {A : Type 0} → ℕ → Option A → Read A
fitting at None = Err at
fitting at (Some x) = Ok x

-- a number
abbrev pub number_at : Width → ℕ → List ℕ → Field ℕ
number_at w end bytes = if nat_lt (length bytes) (byte_len w) then Err (place end bytes) else Ok (from_be_bytes w (take (byte_len w) bytes), drop (byte_len w) bytes)

-- a number up to a limit
unfoldable pub number_within : ℕ → Width → ℕ → List ℕ → Field ℕ
number_within limit w end bytes = do
  number ← number_at w end bytes
  if nat_le number.0 limit then Ok number else Err (place end bytes)

-- this many bytes
abbrev pub cut_at : ℕ → ℕ → List ℕ → Field (List ℕ)
cut_at n end bytes = if nat_lt (length bytes) n then Err (place end bytes) else Ok (take n bytes, drop n bytes)

-- a text behind its length
unfoldable pub text_at : ℕ → List ℕ → Field (List ℕ)
text_at end bytes = do
  len ← number_at w16 end bytes
  cut_at len.0 end len.1

-- a file
unfoldable pub digest_at : ℕ → List ℕ → Field Digest
digest_at end bytes = do
  hash ← cut_at 32 end bytes
  size ← number_within greatest_file w64 end hash.1
  Ok (record { hash = hash.0; size = size.0 }, size.1)

-- ---- nodes

-- the target that a text is, if it is one
abbrev pub target_of : List ℕ → Option (List ℕ)
target_of text = if is_target text then Some text else None

-- the target of a link
unfoldable pub target_at : ℕ → List ℕ → Field (List ℕ)
target_at end bytes = do
  text ← text_at end bytes
  target ← fitting (start end text) (target_of text.0)
  Ok (target, text.1)

-- what a byte says that a node is
abbrev pub mark_of : ℕ → Option Mark
mark_of byte =
    if byte == 0 then Some (mark.File false)
    else if byte == 1 then Some (mark.File true)
    else if byte == 2 then Some mark.Dir
    else if byte == 3 then Some mark.Link
    else None

-- what a node is, by its first byte
unfoldable pub mark_at : ℕ → List ℕ → Field Mark
mark_at end [] = Err end
mark_at end (byte ∷ rest) = do
  mark ← fitting (place end (byte ∷ rest)) (mark_of byte)
  Ok (mark, rest)

-- the last node, if there is one
abbrev pub newest : List Flat → Option Flat
newest nodes = slice_get nodes (length nodes - 1)

-- whether a rel is greater than that of the last node
abbrev pub is_greater : Option Flat → List (List ℕ) → Bool
is_greater None rel = false
is_greater (Some last) rel = is_lt (path_cmp last.rel rel)

-- whether a rel may come behind a node, where each folder of that node is a directory
abbrev pub may_follow : Flat → List (List ℕ) → Bool
may_follow last rel = is_lt (path_cmp last.rel rel) && follows rel last

-- whether a rel may come behind these nodes: it is greater than the one before, and one of them is the directory that it stands in
abbrev pub may_come : List Flat → List (List ℕ) → Bool
may_come nodes rel = is_greater (newest nodes) rel && list_any (is_dir_at (parent_of rel)) nodes

-- a rel that was read, if it may come behind these nodes
abbrev pub coming : List Flat → List (List ℕ) → Option (List (List ℕ))
coming nodes rel = if may_come nodes rel then Some rel else None

-- the rel of the next node
unfoldable pub rel_at : List Flat → ℕ → List ℕ → Field (List (List ℕ))
rel_at nodes end bytes = do
  text ← text_at end bytes
  rel ← fitting (start end text) (rel_of text.0)
  next ← fitting (start end text) (coming nodes rel)
  Ok (next, text.1)

-- what a node is, behind its rel
unfoldable pub what_at : Mark → ℕ → List ℕ → Field What
what_at (mark.File exec) end bytes = do
  digest ← digest_at end bytes
  Ok (what.File digest.0 exec, digest.1)
what_at mark.Dir end bytes = Ok (what.Dir, bytes)
what_at mark.Link end bytes = do
  target ← target_at end bytes
  Ok (what.Link target.0, target.1)

-- the next node, behind those that were read before
unfoldable pub node_at : List Flat → ℕ → List ℕ → Field Flat
node_at nodes end bytes = do
  mark ← mark_at end bytes
  rel ← rel_at nodes end mark.1
  w ← what_at mark.0 end rel.1
  Ok (record { rel = rel.0; what = w.0 }, w.1)

-- so many nodes behind those that were read before, and these
unfoldable pub nodes_at : ℕ → List Flat → ℕ → List ℕ → Field (List Flat)
nodes_at zero nodes end bytes = Ok (nodes, bytes)
nodes_at (suc more) nodes end bytes = do
  node ← node_at nodes end bytes
  nodes_at more (nodes ++ node.0 ∷ []) end node.1

-- ---- trees

-- a list with a node at the root
abbrev pub rooted : What → List Flat
rooted w = record { rel = []; what = w } ∷ []

-- whether nodes are the front of a directory: each comes after the one before it and stands in a directory of those before it
abbrev pub is_begun : List Flat → Bool
is_begun [] = false
is_begun (root ∷ rest) = is_root root && is_dir root.what && is_in_turn root rest

-- a file at the root
unfoldable pub file_at : Bool → ℕ → List ℕ → Field (List Flat)
file_at exec end bytes = do
  digest ← digest_at end bytes
  Ok (rooted (what.File digest.0 exec), digest.1)

-- a directory at the root, and how many other nodes it has
unfoldable pub dir_at : ℕ → List ℕ → Field (List Flat)
dir_at end bytes = do
  count ← number_within 9999 w32 end bytes
  nodes_at count.0 (rooted what.Dir) end count.1

-- what stands behind the kind of the root, which stands at an offset; a link stands at no root
abbrev pub root_at : Mark → ℕ → ℕ → List ℕ → Field (List Flat)
root_at (mark.File exec) at end bytes = file_at exec end bytes
root_at mark.Dir at end bytes = dir_at end bytes
root_at mark.Link at end bytes = Err at

-- a tree, from the kind of its root on
unfoldable pub tree_at : ℕ → List ℕ → Field (List Flat)
tree_at end bytes = do
  mark ← mark_at end bytes
  root_at mark.0 (place end bytes) end mark.1

-- ---- rows

-- the end of a row: bytes that still come are a wrong field
abbrev pub end_at : ℕ → List ℕ → Read (Unit {0})
end_at end [] = Ok tt
end_at end (byte ∷ rest) = Err (place end (byte ∷ rest))

-- a tree that ends the row
unfoldable pub last_tree : ℕ → List ℕ → Read (List Flat)
last_tree end bytes = do
  tree ← tree_at end bytes
  done ← end_at end tree.1
  Ok tree.0

-- version 1, behind its magic
unfoldable pub row_one : ℕ → List ℕ → Read KeptTree
row_one end bytes = do
  tree ← last_tree end bytes
  Ok (record { tree = tree; identity = None })

-- a row whose sum of sizes stands at an offset: it is compared when all else is right
abbrev pub summed : ℕ → ℕ → ℕ → List Flat → Read KeptTree
summed at sum identity tree = if sum == bytes_of tree then Ok (record { tree = tree; identity = Some identity }) else Err at

-- version 2, behind its magic
unfoldable pub row_two : ℕ → List ℕ → Read KeptTree
row_two end bytes = do
  identity ← number_at w64 end bytes
  sum ← number_at w64 end identity.1
  tree ← last_tree end sum.1
  summed (place end identity.1) sum.0 identity.0 tree

-- a row behind its magic and version, which are one field
abbrev pub row_of_version : List ℕ → ℕ → List ℕ → Read KeptTree
row_of_version front end bytes =
    if same_name front (magic 1) then row_one end bytes
    else if same_name front (magic 2) then row_two end bytes
    else Err 0

-- what bytes are read as
unfoldable pub row_read : List ℕ → Read KeptTree
row_read bytes = do
  front ← cut_at 3 (length bytes) bytes
  row_of_version front.0 (length bytes) front.1
