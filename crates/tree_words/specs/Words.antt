-- Trees as words: what is written of a tree, and what words are read as.
use Rattle.std.specs.Prelude.{ℕ, ◌+◌, nat_le, codes, Bool, true, false, if◌then◌else◌, List, [], ◌∷◌, ◌++◌, Option, Some, None, Result, Ok, Err}
use Rattle.std.specs.List.{flat_map, join_with_byte}
use Rattle.mat_digest.specs.Digests.{digest_text, read_digest}
use Rattle.mat_digest.specs.declared.digest.Digest.{Digest}
use Rattle.mat_digest.specs.declared.digest.DigestRefusal.{DigestRefusal}
use Rattle.mat_path.specs.Names.{is_target, rel_of, rel_text, same_name}
use Rattle.mat_tree.specs.Trees.{tree_refusal}
use Rattle.mat_tree.specs.declared.flat.Flat.{Flat}
use Rattle.mat_tree.specs.declared.flat.What.{What}
use Rattle.mat_tree.specs.declared.flat.What.TheVariants as what
use Rattle.mat_tree.specs.declared.refusal.TreeRefusal.{TreeRefusal}
use Rattle.tree_words.specs.Rests.{words_of}
use Rattle.tree_words.specs.declared.kind.Kind.{Kind}
use Rattle.tree_words.specs.declared.kind.Kind.TheVariants as kind
use Rattle.tree_words.specs.declared.refusal.WordsRefusal.{WordsRefusal}
use Rattle.tree_words.specs.declared.refusal.WordsRefusal.TheVariants as refusal

-- ---- writing

-- the word of a file's kind: `f`, or `x` where it is executable
abbrev pub file_word : Bool → List ℕ
file_word false = codes "f"
file_word true = codes "x"

-- the words of what a node is
abbrev pub what_words : What → List (List ℕ)
what_words (what.File digest exec) = file_word exec ∷ digest_text digest ∷ []
what_words what.Dir = codes "d" ∷ []
what_words (what.Link target) = codes "l" ∷ target ∷ []

-- the words of a node: what it is, and its rel
abbrev pub node_words : Flat → List (List ℕ)
node_words node = what_words node.what ++ rel_text node.rel ∷ []

-- the text of words: they stand in a row, with a space between each two
abbrev pub text_of : List (List ℕ) → List ℕ
text_of words = join_with_byte 32 words

-- the text of a node
abbrev pub node_text : Flat → List ℕ
node_text node = text_of (node_words node)

-- the text of a tree: the words of all its nodes
abbrev pub tree_text : List Flat → List ℕ
tree_text nodes = text_of (flat_map node_words nodes)

-- ---- reading a word

-- the kind of node that a word begins
abbrev pub kind_spelled : List ℕ → Option Kind
kind_spelled word =
    if same_name word (codes "f") then Some kind.File
    else if same_name word (codes "x") then Some kind.Exec
    else if same_name word (codes "l") then Some kind.Link
    else if same_name word (codes "d") then Some kind.Dir
    else None

-- a digest that was read, if its size is at most 64 MiB
abbrev pub small_digest : Result Digest DigestRefusal → Option Digest
small_digest (Ok digest) = if nat_le digest.size 67108864 then Some digest else None
small_digest (Err why) = None

-- the digest of a file that a word spells
abbrev pub digest_spelled : List ℕ → Option Digest
digest_spelled word = small_digest (read_digest word)

-- the target of a link that a word spells
abbrev pub target_spelled : List ℕ → Option (List ℕ)
target_spelled word = if is_target word then Some word else None

-- ---- reading words

-- the place of a word in its node, with what the words before it say
pub data Place : Type 0 where
  -- of the word that begins a node
  at_kind : Place
  -- of a file's digest; whether the file is executable
  at_digest : Bool → Place
  -- of a link's target
  at_target : Place
  -- of the rel of such a node
  at_rel : What → Place

-- the place behind the first word of a node
abbrev pub behind_kind : Kind → Place
behind_kind kind.File = at_digest false
behind_kind kind.Exec = at_digest true
behind_kind kind.Link = at_target
behind_kind kind.Dir = at_rel what.Dir

-- what words are read as: nodes, or the number of the first word that is missing or doesn't fit its place
abbrev pub Reading : Type 0
Reading = Result (List Flat) ℕ

-- what is read from word k on: word k says something that the words behind it go on with, or it doesn't fit
abbrev pub fitting : {A : Type 0} → ℕ → Option A → (A → Reading) → Reading
fitting k None behind = Err k
fitting k (Some said) behind = behind said

-- a node before those that are read behind it
abbrev pub node_before : Flat → Reading → Reading
node_before node (Ok nodes) = Ok (node ∷ nodes)
node_before node (Err k) = Err k

-- the nodes that words spell, of which the first has number k and stands at this place
abbrev pub read_from : Place → ℕ → List (List ℕ) → Reading
read_from at_kind k [] = Ok []
read_from (at_digest exec) k [] = Err k
read_from at_target k [] = Err k
read_from (at_rel w) k [] = Err k
read_from at_kind k (word ∷ words) = fitting k (kind_spelled word) (λ kind. read_from (behind_kind kind) (k + 1) words)
read_from (at_digest exec) k (word ∷ words) = fitting k (digest_spelled word) (λ digest. read_from (at_rel (what.File digest exec)) (k + 1) words)
read_from at_target k (word ∷ words) = fitting k (target_spelled word) (λ target. read_from (at_rel (what.Link target)) (k + 1) words)
read_from (at_rel w) k (word ∷ words) = fitting k (rel_of word) (λ rel. node_before (record { rel = rel; what = w }) (read_from at_kind (k + 1) words))

-- nodes as a tree, if nothing refuses them
abbrev pub unless_refused : List Flat → Option TreeRefusal → Result (List Flat) WordsRefusal
unless_refused nodes None = Ok nodes
unless_refused nodes (Some why) = Err (refusal.Tree why)

-- the tree of what was read
abbrev pub tree_of : Reading → Result (List Flat) WordsRefusal
tree_of (Ok nodes) = unless_refused nodes (tree_refusal nodes)
tree_of (Err k) = Err (refusal.Word k)

-- what a text is read as: the tree that its words spell, or why they spell none
abbrev pub read_tree : List ℕ → Result (List Flat) WordsRefusal
read_tree text = tree_of (read_from at_kind 0 (words_of text))
