-- How the text of nodes grows by a node.
use Rattle.std.proofs.Common.{◌≡◌, ℕ, ◌+◌, ◌<◌, List, [], ◌∷◌, ◌++◌, length, take, get_or, refl, sym, ◌∙◌, ap, ap₂, append-nil, append_assoc}
use Rattle.std.specs.List.{flat_map}
use Rattle.std.proofs.lemmas.List.{take_more}
use Rattle.std.proofs.lemmas.List.Concat.{flat_map-append}
use Rattle.mat_path.specs.Names.{rel_text}
use Rattle.mat_tree.specs.declared.flat.Flat.{Flat}
use Rattle.mat_tree.specs.declared.flat.What.{What}
use Rattle.mat_tree.specs.declared.flat.What.TheVariants as what
use Rattle.tree_words.specs.Words.{node_text, node_words, text_of, tree_text, what_words}

-- words behind others
text_push : (a : List ℕ) (more : List (List ℕ)) (b : List ℕ) (bs : List (List ℕ)) → text_of ((a ∷ more) ++ b ∷ bs) ≡ text_of (a ∷ more) ++ 32 ∷ text_of (b ∷ bs)
text_push a [] b bs = refl
text_push a (next ∷ more) b bs =
    ap (λ (l : List ℕ). a ++ (32 ∷ l)) (text_push next more b bs) ∙ sym (append_assoc a (32 ∷ text_of (next ∷ more)) (32 ∷ text_of (b ∷ bs)))

-- words of which there is one
pub record IsSome (words : List (List ℕ)) : Type 0 where
  pub head : List ℕ
  pub tail : List (List ℕ)
  pub is : words ≡ head ∷ tail

-- each node has a word
some_words : (node : Flat) → IsSome (node_words node)
some_words node = by_what node.what
  where
    by_what : (w : What) → IsSome (what_words w ++ rel_text node.rel ∷ [])
    by_what (what.File digest exec) = record { head = _; tail = _; is = refl }
    by_what what.Dir = record { head = _; tail = _; is = refl }
    by_what (what.Link target) = record { head = _; tail = _; is = refl }

-- so has a list that begins with a node's words
pub node_before_some : (node : Flat) (more : List (List ℕ)) → IsSome (node_words node ++ more)
node_before_some node more =
    let some = some_words node in
    record { head = some.head; tail = some.tail ++ more; is = ap (λ (ws : List (List ℕ)). ws ++ more) some.is }

text_both : (ws vs : List (List ℕ)) → IsSome ws → IsSome vs → text_of (ws ++ vs) ≡ text_of ws ++ 32 ∷ text_of vs
text_both ws vs w v =
    ap₂ (λ (a b : List (List ℕ)). text_of (a ++ b)) w.is v.is ∙ text_push w.head w.tail v.head v.tail
    ∙ sym (ap₂ (λ (a b : List (List ℕ)). text_of a ++ 32 ∷ text_of b) w.is v.is)

-- one more node behind a text of nodes
tree_push : (first : Flat) (front : List Flat) (node : Flat) → tree_text (first ∷ (front ++ node ∷ [])) ≡ tree_text (first ∷ front) ++ 32 ∷ node_text node
tree_push first front node =
    let words : node_words first ++ flat_map node_words (front ++ node ∷ []) ≡ (node_words first ++ flat_map node_words front) ++ node_words node =
    ap (λ (ws : List (List ℕ)). node_words first ++ ws)
    (flat_map-append node_words front (node ∷ []) ∙ ap (λ (ws : List (List ℕ)). flat_map node_words front ++ ws) (append-nil (node_words node)))
    ∙ sym (append_assoc (node_words first) (flat_map node_words front) (node_words node)) in
    ap text_of words ∙ text_both (node_words first ++ flat_map node_words front) (node_words node) (node_before_some first (flat_map node_words front)) (some_words node)

-- where a space and the text of the next node are put behind the text of some nodes, the text of one node more stands there
pub tree_text_grows : (before text spaced new : List ℕ) (first node : Flat) (rest : List Flat) (i : ℕ) → i < length rest → node ≡ get_or rest i node
    → text ≡ before ++ tree_text (first ∷ take i rest) → spaced ≡ text ++ 32 ∷ [] → new ≡ spaced ++ node_text node
    → new ≡ before ++ tree_text (first ∷ take (i + 1) rest)
tree_text_grows before text spaced new first node rest i below item so_far space pushed =
    pushed ∙ ap (λ (l : List ℕ). l ++ node_text node) (space ∙ ap (λ (l : List ℕ). l ++ 32 ∷ []) so_far)
    ∙ append_assoc (before ++ tree_text (first ∷ take i rest)) (32 ∷ []) (node_text node)
    ∙ append_assoc before (tree_text (first ∷ take i rest)) (32 ∷ node_text node)
    ∙ ap (λ (l : List ℕ). before ++ l)
    (sym (tree_push first (take i rest) node) ∙ ap (λ (ns : List Flat). tree_text (first ∷ ns)) (ap (λ (n : Flat). take i rest ++ n ∷ []) item ∙ sym (take_more rest i node below)))
