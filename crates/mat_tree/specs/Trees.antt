-- A tree, as contracts see it: its flat list, one node for each file, directory and link, in order of rel.
use Rattle.std.specs.Prelude.{◌≡◌, ◌≤◌, ℕ, ◌==◌, ◌+◌, ◌&&◌, ◌||◌, nat_le, nat_lt, Bool, true, false, not, if◌then◌else◌, List, [], ◌∷◌, ◌++◌, length, drop, map, Option, Some, None}
use Rattle.std.specs.List.{list_any, list_all, find, filter, sum_by}
use Rattle.std.specs.Ordering.{is_lt}
use Rattle.std.specs.Option.{option_map}
use Rattle.mat_digest.specs.declared.digest.Digest.{Digest}
use Rattle.std.specs.Cmp.Lexicographic.{pointwise}
use Rattle.mat_path.specs.Names.{is_path, is_prefix, is_rel, is_target, path_cmp, same_name, same_names}
use Rattle.mat_digest.specs.Digests.{IsDigest}
use Rattle.mat_tree.specs.declared.flat.Flat.{Flat}
use Rattle.mat_tree.specs.declared.flat.What.{What}
use Rattle.mat_tree.specs.declared.flat.What.TheVariants as what
use Rattle.mat_tree.specs.declared.refusal.TreeRefusal.{TreeRefusal}
use Rattle.mat_tree.specs.declared.refusal.TreeRefusal.TheVariants as refusal
use Rattle.mat_tree.specs.declared.sum.Kind.{Kind}
use Rattle.mat_tree.specs.declared.sum.Kind.TheVariants as kind
use Rattle.mat_tree.specs.declared.sum.Sum.{Sum}

-- a file at the root
abbrev pub root_file : Digest → Bool → Flat
root_file digest exec = record { rel = []; what = what.File digest exec }

-- the tree of one file
abbrev pub file_tree : Digest → Bool → List Flat
file_tree digest exec = root_file digest exec ∷ []

-- whether a node stands at a rel
abbrev pub is_at : List (List ℕ) → Flat → Bool
is_at rel node = same_names node.rel rel

-- whether a tree has a node, of any kind, at a rel
abbrev pub has_node : List Flat → List (List ℕ) → Bool
has_node tree rel = list_any (is_at rel) tree

-- what a node is
abbrev pub what_of : Flat → What
what_of node = node.what

-- what a tree has at a rel
abbrev pub what_at : List Flat → List (List ℕ) → Option What
what_at tree rel = option_map what_of (find (is_at rel) tree)

-- the kind of a file
abbrev pub file_kind : Bool → Kind
file_kind true = kind.Exec
file_kind false = kind.File

-- the sum of a file: its kind and its digest
abbrev pub file_sum : Digest → Bool → Sum
file_sum digest exec = record { kind = file_kind exec; digest = digest }

-- whether a kind is that of an executable file
abbrev pub is_exec : Kind → Bool
is_exec kind.Exec = true
is_exec kind.File = false
is_exec kind.Dir = false

-- what kind of artifact a node is: none for a link
abbrev pub kind_of : What → Option Kind
kind_of (what.File digest exec) = Some (file_kind exec)
kind_of what.Dir = Some kind.Dir
kind_of (what.Link target) = None

-- whether two digests are the same
abbrev pub same_digest : Digest → Digest → Bool
same_digest a b = same_name a.hash b.hash && (a.size == b.size)

-- what a node is can stand in a tree: a digest of 32 bytes and a size of 64 bits, a target of the bytes that one may have
abbrev pub IsWhat : What → Type 0
IsWhat (what.File digest exec) = IsDigest digest
IsWhat what.Dir = Unit {0}
IsWhat (what.Link target) = is_target target ≡ true

-- the same of a node
abbrev pub IsNode : Flat → Type 0
IsNode node = IsWhat node.what

-- whether a node of a tree that stands at a path is at a path itself
abbrev pub is_placed : List (List ℕ) → Flat → Bool
is_placed path node = is_path (path ++ node.rel)

-- whether two kinds are the same
abbrev pub same_kind : Kind → Kind → Bool
same_kind kind.File kind.File = true
same_kind kind.Exec kind.Exec = true
same_kind kind.Dir kind.Dir = true
same_kind _ _ = false

-- whether two sums are the same
abbrev pub same_sum : Sum → Sum → Bool
same_sum a b = same_kind a.kind b.kind && same_digest a.digest b.digest

-- whether two flags are the same
abbrev pub same_bool : Bool → Bool → Bool
same_bool true b = b
same_bool false b = not b

-- whether two nodes are the same thing
abbrev pub same_what : What → What → Bool
same_what (what.File d e) (what.File f g) = same_digest d f && same_bool e g
same_what what.Dir what.Dir = true
same_what (what.Link t) (what.Link u) = same_name t u
same_what _ _ = false

abbrev pub same_flat : Flat → Flat → Bool
same_flat a b = same_names a.rel b.rel && same_what a.what b.what

-- whether two trees are the same
abbrev pub same_tree : List Flat → List Flat → Bool
same_tree a b = pointwise same_flat a b

-- whether a node is a directory
abbrev pub is_dir : What → Bool
is_dir (what.File digest exec) = false
is_dir what.Dir = true
is_dir (what.Link target) = false

-- whether a node is a link
abbrev pub is_link : What → Bool
is_link (what.File digest exec) = false
is_link what.Dir = false
is_link (what.Link target) = true

-- how many bytes a file has; what is none has none
abbrev pub what_size : What → ℕ
what_size (what.File digest exec) = digest.size
what_size what.Dir = 0
what_size (what.Link target) = 0

-- how many bytes a node has
abbrev pub size_of : Flat → ℕ
size_of node = what_size node.what

-- the bytes of all files
abbrev pub bytes_of : List Flat → ℕ
bytes_of nodes = sum_by size_of nodes

-- the most bytes that a file of a tree has: 64 MiB
abbrev pub greatest_file : ℕ
greatest_file = 67108864

-- a file is within that limit
abbrev pub is_small : Flat → Bool
is_small node = nat_le (size_of node) greatest_file

-- whether a node stands at a rel that is one
abbrev pub has_rel : Flat → Bool
has_rel node = is_rel node.rel

-- whether a node stands at the root, by its rel
abbrev pub is_root : Flat → Bool
is_root node = same_names [] node.rel

-- whether a list begins with a node at the root that is no link
abbrev pub is_rooted : List Flat → Bool
is_rooted [] = false
is_rooted (root ∷ rest) = is_root root && not (is_link root.what)

-- whether something is at a place greater than this one
abbrev pub is_after_by : {X : Type 0} → (X → List (List ℕ)) → List (List ℕ) → X → Bool
is_after_by place rel x = is_lt (path_cmp rel (place x))

-- whether places ascend strictly: each is less than all behind it
abbrev pub ascends_by : {X : Type 0} → (X → List (List ℕ)) → List X → Bool
ascends_by place [] = true
ascends_by place (x ∷ rest) = list_all (is_after_by place (place x)) rest && ascends_by place rest

-- the rel of a node
abbrev pub rel_of_node : Flat → List (List ℕ)
rel_of_node node = node.rel

-- whether a node's rel is greater than this one
abbrev pub is_after : List (List ℕ) → Flat → Bool
is_after rel node = is_after_by rel_of_node rel node

-- whether the rels of nodes ascend strictly
abbrev pub ascends : List Flat → Bool
ascends nodes = ascends_by rel_of_node nodes

-- the rel of the folder that a rel stands in: its names but the last
abbrev pub parent_of : List (List ℕ) → List (List ℕ)
parent_of [] = []
parent_of (name ∷ []) = []
parent_of (name ∷ next ∷ names) = name ∷ parent_of (next ∷ names)

-- whether a node is a directory at a rel
abbrev pub is_dir_at : List (List ℕ) → Flat → Bool
is_dir_at rel node = is_at rel node && is_dir node.what

-- whether a list has a directory at the parent of a node; the root needs none
abbrev pub has_parent : List Flat → Flat → Bool
has_parent nodes node = is_root node || list_any (is_dir_at (parent_of node.rel)) nodes

-- a list of nodes is a tree
pub record IsTree (nodes : List Flat) : Type 0 where
  -- it begins with the root, which is no link
  pub root : is_rooted nodes ≡ true
  -- it has at most 10,000 nodes
  pub few : length nodes ≤ 10000
  -- rels ascend strictly, so that no two nodes stand at one rel
  pub order : ascends nodes ≡ true
  -- each node but the root stands in a directory of the list
  pub parents : list_all (has_parent nodes) nodes ≡ true
  -- files are within their limit
  pub small : list_all is_small nodes ≡ true
  -- each node stands at a rel
  pub rels : list_all has_rel nodes ≡ true

-- the first fault behind a node of a list, whose next place is k: order comes before parents
abbrev pub fault_behind : List Flat → Flat → ℕ → List Flat → Option TreeRefusal
fault_behind nodes before k [] = None
fault_behind nodes before k (node ∷ rest) =
    if not (is_after before.rel node) then Some (refusal.Order k)
    else if not (has_parent nodes node) then Some (refusal.Under k)
    else fault_behind nodes node (k + 1) rest

-- why a list is no tree, if it is none; files are taken to be within their limit
abbrev pub tree_refusal : List Flat → Option TreeRefusal
tree_refusal [] = Some refusal.NoRoot
tree_refusal (root ∷ rest) =
    if not (is_root root) then Some refusal.NoRoot
    else if is_link root.what then Some refusal.RootLink
    else if nat_lt 9999 (length rest) then Some refusal.TooMany
    else fault_behind (root ∷ rest) root 1 rest

-- whether a node stands at or below a rel
abbrev pub is_below : List (List ℕ) → Flat → Bool
is_below rel node = is_prefix rel node.rel

-- a node that stands at or below a rel, seen from there
abbrev pub seen_from : List (List ℕ) → Flat → Flat
seen_from rel node = record { rel = drop (length rel) node.rel; what = node.what }

-- the nodes at or below a rel, seen from there
abbrev pub sub_tree : List Flat → List (List ℕ) → List Flat
sub_tree nodes rel = map (seen_from rel) (filter (is_below rel) nodes)

-- whether a node that is no link stands at a rel
abbrev pub is_standing : Option What → Bool
is_standing None = false
is_standing (Some w) = not (is_link w)

-- the tree at a rel of a tree, if a node stands there that is no link
abbrev pub sub_at : List Flat → List (List ℕ) → Option (List Flat)
sub_at nodes rel = if is_standing (what_at nodes rel) then Some (sub_tree nodes rel) else None

-- whether a node at a rel stands in a directory, where these are the node before it and each of its folders is a directory
abbrev pub follows : List (List ℕ) → Flat → Bool
follows rel before = is_prefix (parent_of rel) before.rel && (is_dir before.what || nat_lt (length (parent_of rel)) (length before.rel))

-- the same at the end of a list
abbrev pub follows_all : List (List ℕ) → List Flat → Bool
follows_all rel [] = false
follows_all rel (node ∷ []) = follows rel node
follows_all rel (node ∷ next ∷ rest) = follows_all rel (next ∷ rest)

-- the same of each node of a list, behind one
abbrev pub is_linked : Flat → List Flat → Bool
is_linked before [] = true
is_linked before (node ∷ rest) = not (is_root node) && follows node.rel before && is_linked node rest

-- whether each node of a list, behind one, comes after the one before it and stands in a directory of those before it
abbrev pub is_in_turn : Flat → List Flat → Bool
is_in_turn before [] = true
is_in_turn before (node ∷ rest) = is_after before.rel node && follows node.rel before && is_in_turn node rest
