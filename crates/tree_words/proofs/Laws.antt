-- What is written of a tree is read as that tree.
use Rattle.std.proofs.Common.{◌≡◌, ℕ, ◌+◌, Bool, true, false, nat_le, if◌then◌else◌, List, [], ◌∷◌, ◌++◌, Option, Some, None, Result, Ok, Err, refl, sym, ◌∙◌, ap, subst}
use Rattle.std.specs.Prelude.{All, IfErr, IfOk, MatchResult}
use Rattle.std.specs.List.{flat_map, list_all}
use Rattle.std.proofs.lemmas.Bool.{and_parts, false≢true}
use Rattle.std.proofs.lemmas.List.Elements.{All-head, All-tail}
use Rattle.mat_digest.specs.Digests.{IsDigest, digest_text}
use Rattle.mat_digest.specs.declared.digest.Digest.{Digest}
use Rattle.mat_digest.proofs.Laws.{read_digest-digest_text}
use Rattle.mat_path.specs.Names.{is_rel, is_target, rel_text}
use Rattle.mat_path.proofs.ReadLemmas.{rel_read_back}
use Rattle.mat_tree.specs.declared.flat.Flat.{Flat}
use Rattle.mat_tree.specs.declared.flat.What.{What}
use Rattle.mat_tree.specs.declared.flat.What.TheVariants as what
use Rattle.mat_tree.specs.Trees.{IsNode, IsTree, IsWhat, has_rel, is_small, what_size}
use Rattle.mat_tree.proofs.Refusals.{is_tree_no_refusal}
use Rattle.tree_words.specs.declared.refusal.WordsRefusal.{WordsRefusal}
use Rattle.tree_words.specs.declared.refusal.WordsRefusal.TheVariants as refusal
use Rattle.tree_words.specs.Answers.{IsRefusalOf}
use Rattle.tree_words.specs.Words.{at_digest, at_kind, at_rel, at_target, digest_spelled, fitting, node_before, node_words, read_from, read_tree, small_digest, target_spelled, tree_of, tree_text, unless_refused, what_words}
use Rattle.tree_words.proofs.Clear.{clear_nodes, words_of-text_of}
use Rattle.tree_words.proofs.Texts.{node_before_some}

-- ---- one word

digest_back : (d : Digest) → IsDigest d → nat_le d.size 67108864 ≡ true → digest_spelled (digest_text d) ≡ Some d
digest_back d h small = ap small_digest (read_digest-digest_text d h) ∙ ap (λ (t : Bool). if t then Some d else None) small

target_back : (t : List ℕ) → is_target t ≡ true → target_spelled t ≡ Some t
target_back t h = ap (λ (b : Bool). if b then Some t else None) h

-- ---- the words of one node, with others behind it

-- what is read of words, whatever the first one's number is
abbrev Gives : List (List ℕ) → List Flat → Type 0
Gives words nodes = (k : ℕ) → read_from at_kind k words ≡ Ok nodes

rel_back : (w : What) (rel : List (List ℕ)) (k : ℕ) (more : List (List ℕ)) (nodes : List Flat) → is_rel rel ≡ true → Gives more nodes
    → read_from (at_rel w) k (rel_text rel ∷ more) ≡ Ok (record { rel = rel; what = w } ∷ nodes)
rel_back w rel k more nodes h gives =
    ap (λ (o : Option (List (List ℕ))). fitting k o (λ r. node_before (record { rel = r; what = w }) (read_from at_kind (k + 1) more))) (rel_read_back rel h)
    ∙ ap (node_before (record { rel = rel; what = w })) (gives (k + 1))

file_back : (d : Digest) (exec : Bool) (rel : List (List ℕ)) (k : ℕ) (more : List (List ℕ)) (nodes : List Flat) → IsDigest d → nat_le d.size 67108864 ≡ true
    → is_rel rel ≡ true → Gives more nodes
    → read_from (at_digest exec) k (digest_text d ∷ rel_text rel ∷ more) ≡ Ok (record { rel = rel; what = what.File d exec } ∷ nodes)
file_back d exec rel k more nodes h small is gives =
    ap (λ (o : Option Digest). fitting k o (λ e. read_from (at_rel (what.File e exec)) (k + 1) (rel_text rel ∷ more))) (digest_back d h small)
    ∙ rel_back (what.File d exec) rel (k + 1) more nodes is gives

link_back : (t : List ℕ) (rel : List (List ℕ)) (k : ℕ) (more : List (List ℕ)) (nodes : List Flat) → is_target t ≡ true → is_rel rel ≡ true → Gives more nodes
    → read_from at_target k (t ∷ rel_text rel ∷ more) ≡ Ok (record { rel = rel; what = what.Link t } ∷ nodes)
link_back t rel k more nodes h is gives =
    ap (λ (o : Option (List ℕ)). fitting k o (λ e. read_from (at_rel (what.Link e)) (k + 1) (rel_text rel ∷ more))) (target_back t h)
    ∙ rel_back (what.Link t) rel (k + 1) more nodes is gives

node_back : (w : What) (rel : List (List ℕ)) (more : List (List ℕ)) (nodes : List Flat) → IsWhat w → nat_le (what_size w) 67108864 ≡ true
    → is_rel rel ≡ true → Gives more nodes → Gives ((what_words w ++ rel_text rel ∷ []) ++ more) (record { rel = rel; what = w } ∷ nodes)
node_back (what.File d false) rel more nodes h small is gives k = file_back d false rel (k + 1) more nodes h small is gives
node_back (what.File d true) rel more nodes h small is gives k = file_back d true rel (k + 1) more nodes h small is gives
node_back what.Dir rel more nodes h small is gives k = rel_back what.Dir rel (k + 1) more nodes is gives
node_back (what.Link t) rel more nodes h small is gives k = link_back t rel (k + 1) more nodes h is gives

-- ---- the words of nodes

nodes_back : (nodes : List Flat) → All IsNode nodes → list_all is_small nodes ≡ true → list_all has_rel nodes ≡ true → Gives (flat_map node_words nodes) nodes
nodes_back [] each small rels = λ k. refl
nodes_back (node ∷ nodes) each small rels =
    let smalls = and_parts (is_small node) (list_all is_small nodes) small in
    let places = and_parts (has_rel node) (list_all has_rel nodes) rels in
    node_back node.what node.rel (flat_map node_words nodes) nodes (All-head IsNode node nodes each) smalls.0 places.0
    (nodes_back nodes (All-tail IsNode node nodes each) smalls.1 places.1)

-- what is written of a tree is read as that tree
pub read_tree-tree_text : (nodes : List Flat) → IsTree nodes → All IsNode nodes → read_tree (tree_text nodes) ≡ Ok nodes
read_tree-tree_text [] h each = absurd (false≢true h.root)
read_tree-tree_text (node ∷ nodes) h each =
    ap (λ (ws : List (List ℕ)). tree_of (read_from at_kind 0 ws))
    (words_of-text_of (flat_map node_words (node ∷ nodes)) (node_before_some node (flat_map node_words nodes)) (clear_nodes (node ∷ nodes) each h.rels))
    ∙ ap tree_of (nodes_back (node ∷ nodes) each h.small h.rels 0)
    ∙ ap (unless_refused (node ∷ nodes)) (is_tree_no_refusal (node ∷ nodes) h)

-- an answer that is exact gives back a tree that was written, if there is memory
pub answer_is_written_tree : (answer : Result (List Flat) WordsRefusal) (text : List ℕ) → IfOk answer (λ tree. read_tree text ≡ Ok tree)
    → IfErr answer (λ why. IsRefusalOf (read_tree text) why) → (nodes : List Flat) → IsTree nodes → All IsNode nodes → text ≡ tree_text nodes
    → MatchResult answer (λ tree. tree ≡ nodes) (λ why. why ≡ refusal.NoMemory)
answer_is_written_tree answer text ok exact nodes h each same = by_answer answer ok exact (ap read_tree same ∙ read_tree-tree_text nodes h each)
  where
    by_answer : (answer : Result (List Flat) WordsRefusal) → IfOk answer (λ tree. read_tree text ≡ Ok tree)
        → IfErr answer (λ why. IsRefusalOf (read_tree text) why) → read_tree text ≡ Ok nodes
        → MatchResult answer (λ tree. tree ≡ nodes) (λ why. why ≡ refusal.NoMemory)
    by_answer (Ok tree) ok exact e = let both : Ok tree ≡ Ok nodes = sym ok ∙ e in cc
    by_answer (Err (refusal.Word k)) ok exact e = absurd (let both : Err (refusal.Word k) ≡ Ok nodes = sym exact ∙ e in cc)
    by_answer (Err (refusal.Tree why)) ok exact e = absurd (let both : Err (refusal.Tree why) ≡ Ok nodes = sym exact ∙ e in cc)
    by_answer (Err refusal.NoMemory) ok exact e = refl

-- so a text that was put behind nothing is read as the tree whose nodes it has
pub read_tree-written : (tree nodes put : List Flat) (start out : List ℕ) → IsTree tree → nodes ≡ tree → put ≡ nodes → start ≡ []
    → All IsNode put → out ≡ start ++ tree_text put → read_tree out ≡ Ok tree
read_tree-written tree nodes put start out h is put_is none each text =
    ap read_tree (text ∙ ap (λ (bs : List ℕ). bs ++ tree_text put) none ∙ ap tree_text (put_is ∙ is))
    ∙ read_tree-tree_text tree h (subst (λ (ns : List Flat). All IsNode ns) (put_is ∙ is) each)
