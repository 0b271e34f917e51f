-- The text of the message that a tree's children are is the message of the tree.
use Rattle.std.proofs.Common.{◌≡◌, ℕ, Bool, true, false, cond, List, [], ◌∷◌, ◌++◌, Option, Some, None, refl, ◌∙◌, ap, ap₂}
use Rattle.std.specs.List.{cons_option, filter, filter_map, flat_map}
use Rattle.mat_digest.specs.declared.digest.Digest.{Digest}
use Rattle.mat_path.specs.Names.{joined}
use Rattle.mat_tree.specs.declared.flat.Flat.{Flat}
use Rattle.mat_tree.specs.declared.flat.What.{What}
use Rattle.mat_tree.specs.declared.flat.What.TheVariants as what
use Rattle.mat_tree.specs.Sums.{dir_digest, dir_named, dir_part, file_named, file_part, is_child, is_single, link_named, link_part, message_by}
use Rattle.mat_tree.specs.Trees.{sub_tree}
use Rattle.reapi_dir.specs.Spelling.{dir_text, file_text, link_text, spelled}
use Rattle.reapi_dir.specs.SumMessage.{child_dir, child_file, child_link, child_name, children_message_of, dir_node_of, file_node_of, first_name, link_node_of}

-- the text of a node, if there is one
abbrev text_in : {Y : Type 0} → (Y → List ℕ) → Option Y → List ℕ
text_in text None = []
text_in text (Some y) = text y

text_more : {Y : Type 0} (text : Y → List ℕ) (o : Option Y) (ys : List Y) → flat_map text (cons_option o ys) ≡ text_in text o ++ flat_map text ys
text_more text None ys = refl
text_more text (Some y) ys = refl

-- the texts of what the elements give are the parts of these
texts_are : {X Y : Type 0} (p : X → Bool) (give : X → Option Y) (text : Y → List ℕ) (part : X → List ℕ)
    → ((x : X) → p x ≡ true → text_in text (give x) ≡ part x) → (xs : List X) → flat_map text (filter_map give (filter p xs)) ≡ flat_map part (filter p xs)
texts_are p give text part each [] = refl
texts_are p give text part each (x ∷ xs) = by (p x) refl (texts_are p give text part each xs)
  where
    by : (b : Bool) → p x ≡ b → flat_map text (filter_map give (filter p xs)) ≡ flat_map part (filter p xs)
        → flat_map text (filter_map give (cond b (x ∷ filter p xs) (filter p xs))) ≡ flat_map part (cond b (x ∷ filter p xs) (filter p xs))
    by true e rest =
        text_more text (give x) (filter_map give (filter p xs)) ∙ ap (λ t. t ++ flat_map text (filter_map give (filter p xs))) (each x e)
        ∙ ap (λ t. part x ++ t) rest
    by false e rest = rest

-- the text of a child's rel is its name
pub name_joined : (rel : List (List ℕ)) → is_single rel ≡ true → first_name rel ≡ joined rel
name_joined [] e = refl
name_joined (name ∷ []) e = refl
name_joined (name ∷ next ∷ names) e = cc

file_given : (name : List ℕ) (w : What) → text_in file_text (file_node_of name w) ≡ file_named name w
file_given name (what.File digest exec) = refl
file_given name what.Dir = refl
file_given name (what.Link target) = refl

dir_given : (name : List ℕ) (digest : Digest) (w : What) → text_in dir_text (dir_node_of name digest w) ≡ dir_named name digest w
dir_given name digest (what.File other exec) = refl
dir_given name digest what.Dir = refl
dir_given name digest (what.Link target) = refl

link_given : (name : List ℕ) (w : What) → text_in link_text (link_node_of name w) ≡ link_named name w
link_given name (what.File digest exec) = refl
link_given name what.Dir = refl
link_given name (what.Link target) = refl

-- the one text of the message of a tree's children is the tree's message
pub children_text_is_message : (nodes : List Flat) → spelled (children_message_of nodes) ≡ message_by dir_digest nodes
children_text_is_message nodes =
    let files = texts_are is_child child_file file_text file_part
    (λ c e. file_given (child_name c) c.what ∙ ap (λ n. file_named n c.what) (name_joined c.rel e)) nodes in
    let dirs = texts_are is_child (child_dir nodes) dir_text (dir_part dir_digest nodes)
    (λ c e. dir_given (child_name c) (dir_digest (sub_tree nodes c.rel)) c.what
    ∙ ap (λ n. dir_named n (dir_digest (sub_tree nodes c.rel)) c.what) (name_joined c.rel e)) nodes in
    let links = texts_are is_child child_link link_text link_part
    (λ c e. link_given (child_name c) c.what ∙ ap (λ n. link_named n c.what) (name_joined c.rel e)) nodes in
    ap₂ (λ (s t : List ℕ). s ++ t) (ap₂ (λ (s t : List ℕ). s ++ t) files dirs) links
