-- The entries below children that stand around one.
use Rattle.std.proofs.Common.{◌≡◌, ℕ, Bool, true, false, cond, List, [], ◌∷◌, ◌++◌, map, refl, ◌∙◌, sym, ap}
use Rattle.std.proofs.lemmas.List.Elements.{filter-append}
use Rattle.std.proofs.lemmas.List.Concat.{flat_map-append}
use Rattle.std.specs.Cmp.{first_so, second_so}
use Rattle.std.specs.List.{filter, list_all}
use Rattle.path_trie.specs.declared.entry.Entry.{Entry}
use Rattle.path_trie.specs.declared.node.Edge.{Edge, out-Edge}
use Rattle.path_trie.specs.Nodes.{put_in, below_node, below_edge, below_all, edge_name}
use Rattle.path_trie.proofs.Lists.{filter_in, filter_alike}
use Rattle.path_trie.proofs.Told.{below_edge_out}

-- a test that answers alike below each name of a kind
pub alike_below : {T : Type 0} (kind : List ℕ → Bool) (p : Entry T → Bool) (c : Bool)
    → ((n : List ℕ) (x : Entry T) → kind n ≡ true → p (put_in n x) ≡ c)
    → (es : List (Edge T)) → list_all kind (map edge_name es) ≡ true → filter p (below_all es) ≡ cond c (below_all es) []
alike_below kind p true h [] k = refl
alike_below kind p false h [] k = refl
alike_below {T} kind p c h (e ∷ es) k =
    filter-append p (below_edge e) (below_all es)
    ∙ ap (λ t. t ++ filter p (below_all es))
    (ap (filter p) (below_edge_out e)
    ∙ filter_alike (put_in (edge_name e)) p c (λ x. h (edge_name e) x (first_so (kind (edge_name e)) (list_all kind (map edge_name es)) k)) (below_node (out-Edge T e).node)
    ∙ ap (λ t. cond c t []) (sym (below_edge_out e)))
    ∙ ap (λ t. cond c (below_edge e) [] ++ t) (alike_below kind p c h es (second_so (kind (edge_name e)) (list_all kind (map edge_name es)) k))
    ∙ joined c
  where
    joined : (c : Bool) → cond c (below_edge e) [] ++ cond c (below_all es) [] ≡ cond c (below_edge e ++ below_all es) []
    joined true = refl
    joined false = refl

-- a test of the entries below a child
pub test_below : {T : Type 0} (e : Edge T) (p q : Entry T → Bool) → ((x : Entry T) → p (put_in (edge_name e) x) ≡ q x)
    → filter p (below_edge e) ≡ map (put_in (edge_name e)) (filter q (below_node (out-Edge T e).node))
test_below {T} e p q h = ap (filter p) (below_edge_out e) ∙ filter_in (put_in (edge_name e)) p q h (below_node (out-Edge T e).node)

-- a test of all, around a child
pub test_around : {T : Type 0} (front back : List ℕ → Bool) (p q : Entry T → Bool) (a b : Bool) (pre post : List (Edge T)) (e : Edge T)
    → ((n : List ℕ) (x : Entry T) → front n ≡ true → p (put_in n x) ≡ a)
    → ((n : List ℕ) (x : Entry T) → back n ≡ true → p (put_in n x) ≡ b)
    → ((x : Entry T) → p (put_in (edge_name e) x) ≡ q x)
    → list_all front (map edge_name pre) ≡ true → list_all back (map edge_name post) ≡ true
    → filter p (below_all (pre ++ (e ∷ post)))
    ≡ cond a (below_all pre) [] ++ (map (put_in (edge_name e)) (filter q (below_node (out-Edge T e).node)) ++ cond b (below_all post) [])
test_around {T} front back p q a b pre post e f g h k l =
    ap (filter p) (flat_map-append below_edge pre (e ∷ post))
    ∙ filter-append p (below_all pre) (below_edge e ++ below_all post)
    ∙ ap (λ t. t ++ filter p (below_edge e ++ below_all post)) (alike_below front p a f pre k)
    ∙ ap (λ t. cond a (below_all pre) [] ++ t)
    (filter-append p (below_edge e) (below_all post)
    ∙ ap (λ t. t ++ filter p (below_all post)) (test_below e p q h)
    ∙ ap (λ t. map (put_in (edge_name e)) (filter q (below_node (out-Edge T e).node)) ++ t) (alike_below back p b g post l))

-- a test of all, where no child stands between
pub test_between : {T : Type 0} (front back : List ℕ → Bool) (p : Entry T → Bool) (a b : Bool) (pre post : List (Edge T))
    → ((n : List ℕ) (x : Entry T) → front n ≡ true → p (put_in n x) ≡ a)
    → ((n : List ℕ) (x : Entry T) → back n ≡ true → p (put_in n x) ≡ b)
    → list_all front (map edge_name pre) ≡ true → list_all back (map edge_name post) ≡ true
    → filter p (below_all (pre ++ post)) ≡ cond a (below_all pre) [] ++ cond b (below_all post) []
test_between front back p a b pre post f g k l =
    ap (filter p) (flat_map-append below_edge pre post)
    ∙ filter-append p (below_all pre) (below_all post)
    ∙ ap (λ t. t ++ filter p (below_all post)) (alike_below front p a f pre k)
    ∙ ap (λ t. cond a (below_all pre) [] ++ t) (alike_below back p b g post l)
