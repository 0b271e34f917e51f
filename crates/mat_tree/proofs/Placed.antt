-- Lists of nodes below a folder.
use Rattle.std.proofs.Common.{◌≡◌, ◌<◌, ◌+◌, ℕ, List, [], ◌∷◌, ◌++◌, map, length, take, drop, get_or, true, ap, refl, ◌∙◌, sym, append_assoc}
use Rattle.std.specs.List.{list_all}
use Rattle.std.proofs.lemmas.List.{append-nil, map-append}
use Rattle.mat_tree.specs.declared.flat.What.{What}
use Rattle.mat_tree.specs.declared.flat.What.TheVariants as what
use Rattle.mat_tree.specs.declared.node.Node.{Node}
use Rattle.mat_tree.specs.declared.node.Node.TheVariants as variant
use Rattle.mat_tree.specs.declared.node.Children.{Children, out-Children}
use Rattle.mat_tree.specs.Trees.{has_rel}
use Rattle.mat_tree.proofs.Joins.{all_left, all_right}
use Rattle.mat_tree.specs.declared.flat.Flat.{Flat}
use Rattle.mat_tree.specs.declared.node.Child.{Child, out-Child}
use Rattle.mat_tree.specs.Nodes.{at_root, put_in, put_under, placed, below_node, below_child, below_all, what_node}
use Rattle.mat_tree.proofs.Folds.{below_child_out, below_all_push, below_all_step, below_all_around, below_dir_out, what_dir}

-- a list below a name is one below the names and then that name
pub placed_in : (names : List (List ℕ)) (name : List ℕ) (nodes : List Flat) → placed names (map (put_in name) nodes) ≡ placed (names ++ (name ∷ [])) nodes
placed_in names name [] = refl
placed_in names name (x ∷ xs) =
    ap (λ r. record { rel = r; what = x.what } ∷ placed names (map (put_in name) xs)) (sym (append_assoc names (name ∷ []) x.rel))
    ∙ ap (λ t. put_under (names ++ (name ∷ [])) x ∷ t) (placed_in names name xs)

-- a child's list below some names is its node's below those and the child's name
pub placed_child : (names : List (List ℕ)) (c : Child) → placed names (below_child c) ≡ placed (names ++ ((out-Child c).name ∷ [])) (below_node (out-Child c).node)
placed_child names c = ap (placed names) (below_child_out c) ∙ placed_in names (out-Child c).name (below_node (out-Child c).node)

-- below no names a list is as it is
pub placed_nothing : (nodes : List Flat) → placed [] nodes ≡ nodes
placed_nothing [] = refl
placed_nothing (x ∷ xs) = ap (λ t. x ∷ t) (placed_nothing xs)

-- below some names one more child adds its list behind the others'
pub placed_push : (names : List (List ℕ)) (cs : List Child) (c : Child) → placed names (below_all (cs ++ (c ∷ []))) ≡ placed names (below_all cs) ++ placed names (below_child c)
placed_push names cs c = ap (placed names) (below_all_push cs c) ∙ map-append (put_under names) (below_all cs) (below_child c)

-- what is listed of a child, behind its name
pub placed_pushed : (names pushed : List (List ℕ)) (name : List ℕ) (c : Child) → pushed ≡ names ++ (name ∷ []) → name ≡ (out-Child c).name
    → placed names (below_child c) ≡ placed pushed (below_node (out-Child c).node)
placed_pushed names pushed name c e f =
    placed_child names c ∙ ap (λ n. placed (names ++ (n ∷ [])) (below_node (out-Child c).node)) (sym f)
    ∙ ap (λ p. placed p (below_node (out-Child c).node)) (sym e)

-- the rels of one child among all
pub rels_at : (names : List (List ℕ)) (cs : List Child) (i : ℕ) (c : Child) → i < length cs → c ≡ get_or cs i c
    → list_all has_rel (placed names (below_all cs)) ≡ true → list_all has_rel (placed names (below_child c)) ≡ true
rels_at names cs i c h e all =
    let before = below_all (take i cs) in
    let rest = below_all (drop (i + 1) cs) in
    let split = ap (placed names) (below_all_around cs i c h e) ∙ map-append (put_under names) (before ++ below_child c) rest
    ∙ ap (λ t. t ++ placed names rest) (map-append (put_under names) before (below_child c)) in
    let told : list_all has_rel ((placed names before ++ placed names (below_child c)) ++ placed names rest) ≡ true = ap (list_all has_rel) (sym split) ∙ all in
    all_right has_rel (placed names before) (placed names (below_child c)) (all_left has_rel (placed names before ++ placed names (below_child c)) (placed names rest) told)

-- one more child is listed
pub listed_more : (names : List (List ℕ)) (old nodes new : List Flat) (cs : List Child) (i : ℕ) (c : Child) → i < length cs → c ≡ get_or cs i c
    → nodes ≡ old ++ placed names (below_all (take i cs)) → new ≡ nodes ++ placed names (below_child c)
    → new ≡ old ++ placed names (below_all (take (i + 1) cs))
listed_more names old nodes new cs i c h e so more =
    more ∙ ap (λ t. t ++ placed names (below_child c)) so ∙ append_assoc old (placed names (below_all (take i cs))) (placed names (below_child c))
    ∙ ap (λ t. old ++ t) (sym (map-append (put_under names) (below_all (take i cs)) (below_child c)) ∙ ap (placed names) (sym (below_all_step cs i c h e)))

-- a node and then its children
pub listed_dir : (names : List (List ℕ)) (n : Node) (cs : Children) (list : List Child) → n ≡ variant.Dir cs → list ≡ (out-Children cs).list
    → placed names (below_node n) ≡ record { rel = names; what = what_node n } ∷ placed names (below_all list)
listed_dir names n cs list e f =
    ap (placed names) (below_dir_out n cs list e f)
    ∙ ap (λ r. record { rel = r; what = what.Dir } ∷ placed names (below_all list)) (append-nil names)
    ∙ ap (λ w. record { rel = names; what = w } ∷ placed names (below_all list)) (sym (what_dir n cs e))

-- what a node without children lists below some names is itself at these names
pub listed_leaf : (names : List (List ℕ)) (n : Node) (w : What) → below_node n ≡ at_root w ∷ [] → what_node n ≡ w
    → placed names (below_node n) ≡ record { rel = names; what = what_node n } ∷ []
listed_leaf names n w e f =
    ap (placed names) e ∙ ap (λ r. record { rel = r; what = w } ∷ []) (append-nil names) ∙ ap (λ v. record { rel = names; what = v } ∷ []) (sym f)

-- a node is listed, and then its children
pub listed_all : (names at : List (List ℕ)) (old one new : List Flat) (n : Node) (cs : Children) (list : List Child)
    → n ≡ variant.Dir cs → list ≡ (out-Children cs).list → one ≡ old ++ (record { rel = at; what = what_node n } ∷ []) → at ≡ names
    → new ≡ one ++ placed names (below_all list) → new ≡ old ++ placed names (below_node n)
listed_all names at old one new n cs list e f first is rest =
    rest ∙ ap (λ t. t ++ placed names (below_all list)) first
    ∙ append_assoc old (record { rel = at; what = what_node n } ∷ []) (placed names (below_all list))
    ∙ ap (λ r. old ++ (record { rel = r; what = what_node n } ∷ placed names (below_all list))) is
    ∙ ap (λ t. old ++ t) (sym (listed_dir names n cs list e f))
