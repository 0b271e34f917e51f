-- What reading nodes, one after the other, rests on.
use Rattle.std.proofs.Common.{◌≡◌, ℕ, ◌+◌, Bool, true, false, ◌&&◌, nat_le, if◌then◌else◌, List, [], ◌∷◌, ◌++◌, Option, Some, None, Result, Ok, Err, refl, sym, ◌∙◌, ap, ap₂, subst, append-nil, append_assoc}
use Rattle.std.specs.List.{list_all}
use Rattle.mat_digest.specs.Digests.{read_digest}
use Rattle.mat_digest.specs.declared.digest.Digest.{Digest}
use Rattle.mat_digest.specs.declared.digest.DigestRefusal.{DigestRefusal}
use Rattle.mat_path.specs.Names.{rel_of}
use Rattle.mat_tree.specs.declared.flat.Flat.{Flat}
use Rattle.mat_tree.specs.declared.flat.What.TheVariants as what
use Rattle.mat_tree.specs.Trees.{is_small, what_size}
use Rattle.tree_words.specs.Rests.{none_of}
use Rattle.tree_words.specs.declared.kind.Kind.{Kind}
use Rattle.tree_words.specs.declared.kind.Kind.TheVariants as kind
use Rattle.tree_words.specs.Words.{Place, Reading, at_digest, at_kind, at_rel, at_target, behind_kind, fitting, kind_spelled, node_before, read_from, small_digest, target_spelled}

-- ---- nodes before a reading

-- some nodes before those that are read behind them
abbrev pub nodes_before : List Flat → Reading → Reading
nodes_before nodes (Ok more) = Ok (nodes ++ more)
nodes_before nodes (Err k) = Err k

-- one node more before a reading
one_before : (nodes : List Flat) (node : Flat) (reading : Reading)
    → nodes_before nodes (node_before node reading) ≡ nodes_before (nodes ++ node ∷ []) reading
one_before nodes node (Ok more) = ap (λ (ns : List Flat). Ok ns) (sym (append_assoc nodes (node ∷ []) more))
one_before nodes node (Err k) = refl

-- where a node is read behind others, what is read of all words is what is read behind one node more
pub read_grows : (nodes new : List Flat) (node : Flat) (all before behind : Reading) → all ≡ nodes_before nodes before
    → before ≡ node_before node behind → new ≡ nodes ++ node ∷ [] → all ≡ nodes_before new behind
read_grows nodes new node all before behind h read pushed =
    h ∙ ap (nodes_before nodes) read ∙ one_before nodes node behind ∙ ap (λ (ns : List Flat). nodes_before ns behind) (sym pushed)

-- where no word is left, the nodes are all that is read
pub read_ends : (nodes : List Flat) (all : Reading) (k : ℕ) (words : List (List ℕ)) → all ≡ nodes_before nodes (read_from at_kind k words)
    → none_of words ≡ true → all ≡ Ok nodes
read_ends nodes all k [] h none = h ∙ ap (λ (ns : List Flat). Ok ns) (append-nil nodes)
read_ends nodes all k (word ∷ words) h none = absurd cc

-- ---- files are small

-- what the words before a place say is small
abbrev IsSmallAt : Place → Type 0
IsSmallAt at_kind = Unit {0}
IsSmallAt (at_digest exec) = Unit {0}
IsSmallAt at_target = Unit {0}
IsSmallAt (at_rel w) = nat_le (what_size w) 67108864 ≡ true

abbrev AreSmall : List Flat → Type 0
AreSmall nodes = list_all is_small nodes ≡ true

-- what is read of these words is small
abbrev Smalls : List (List ℕ) → Type 0
Smalls words = (place : Place) (k : ℕ) (nodes : List Flat) → IsSmallAt place → read_from place k words ≡ Ok nodes → AreSmall nodes

smalls : (words : List (List ℕ)) → Smalls words
smalls [] at_kind k nodes small read = subst AreSmall (let e : [] ≡ nodes = cc in e) refl
smalls [] (at_digest exec) k nodes small read = absurd cc
smalls [] at_target k nodes small read = absurd cc
smalls [] (at_rel w) k nodes small read = absurd cc
smalls (word ∷ words) at_kind k nodes small read = by_kind (smalls words) (kind_spelled word) read
  where
    by_kind : Smalls words → (o : Option Kind) → fitting k o (λ kind. read_from (behind_kind kind) (k + 1) words) ≡ Ok nodes → AreSmall nodes
    by_kind rest None e = absurd cc
    by_kind rest (Some kind.File) e = rest (at_digest false) (k + 1) nodes tt e
    by_kind rest (Some kind.Exec) e = rest (at_digest true) (k + 1) nodes tt e
    by_kind rest (Some kind.Link) e = rest at_target (k + 1) nodes tt e
    by_kind rest (Some kind.Dir) e = rest (at_rel what.Dir) (k + 1) nodes refl e
smalls (word ∷ words) (at_digest exec) k nodes small read = by_digest (smalls words) (read_digest word) read
  where
    by_size : Smalls words → (digest : Digest) (t : Bool) → nat_le digest.size 67108864 ≡ t
        → fitting k (if t then Some digest else None) (λ d. read_from (at_rel (what.File d exec)) (k + 1) words) ≡ Ok nodes → AreSmall nodes
    by_size rest digest true fits e = rest (at_rel (what.File digest exec)) (k + 1) nodes fits e
    by_size rest digest false fits e = absurd cc

    by_digest : Smalls words → (r : Result Digest DigestRefusal)
        → fitting k (small_digest r) (λ d. read_from (at_rel (what.File d exec)) (k + 1) words) ≡ Ok nodes → AreSmall nodes
    by_digest rest (Err why) e = absurd cc
    by_digest rest (Ok digest) e = by_size rest digest (nat_le digest.size 67108864) refl e
smalls (word ∷ words) at_target k nodes small read = by_target (smalls words) (target_spelled word) read
  where
    by_target : Smalls words → (o : Option (List ℕ)) → fitting k o (λ t. read_from (at_rel (what.Link t)) (k + 1) words) ≡ Ok nodes → AreSmall nodes
    by_target rest None e = absurd cc
    by_target rest (Some target) e = rest (at_rel (what.Link target)) (k + 1) nodes refl e
smalls (word ∷ words) (at_rel w) k nodes small read = by_rel (smalls words) (rel_of word) read
  where
    by_rest : (rel : List (List ℕ)) (reading : Reading) → ((ns : List Flat) → reading ≡ Ok ns → AreSmall ns)
        → node_before (record { rel = rel; what = w }) reading ≡ Ok nodes → AreSmall nodes
    by_rest rel (Err j) rest e = absurd cc
    by_rest rel (Ok ns) rest e =
        let same : record { rel = rel; what = w } ∷ ns ≡ nodes = cc in
        subst AreSmall same (ap₂ (λ (a b : Bool). a && b) small (rest ns refl))

    by_rel : Smalls words → (o : Option (List (List ℕ)))
        → fitting k o (λ r. node_before (record { rel = r; what = w }) (read_from at_kind (k + 1) words)) ≡ Ok nodes → AreSmall nodes
    by_rel rest None e = absurd cc
    by_rel rest (Some rel) e = by_rest rel (read_from at_kind (k + 1) words) (λ ns same. rest at_kind (k + 1) ns tt same) e

-- each node that is read is small
pub read_nodes_small : (words : List (List ℕ)) (nodes : List Flat) → read_from at_kind 0 words ≡ Ok nodes → list_all is_small nodes ≡ true
read_nodes_small words nodes read = smalls words at_kind 0 nodes tt read
