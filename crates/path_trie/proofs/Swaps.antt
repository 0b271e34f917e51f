-- A value that is put in place of another one.
use Rattle.std.proofs.Common.{◌≡◌, ◌<◌, ◌+◌, ℕ, suc, Bool, true, false, cond, List, [], ◌∷◌, ◌++◌, map, length, take, drop, get_or, set, refl, ◌∙◌, sym, ap, arith}
use Rattle.mat_path.proofs.SameNames.{same_names-eq}
use Rattle.std.specs.Cmp.{first_so, second_so}
use Rattle.std.specs.Option.{option_map}
use Rattle.std.specs.List.{find, list_all}
use Rattle.std.specs.Result.{is_ok, result_ok}
use Rattle.std.specs.declared.result.Result.{Result}
use Rattle.std.specs.declared.result.Result.TheVariants.{Ok, Err}
use Rattle.std.specs.declared.option.Option.{Option}
use Rattle.std.specs.declared.option.Option.TheVariants.{Some, None}
use Rattle.path_trie.specs.declared.entry.Entry.{Entry}
use Rattle.path_trie.specs.declared.node.Node.{Node, out-Node}
use Rattle.path_trie.specs.declared.node.Edge.{Edge, out-Edge}
use Rattle.path_trie.specs.declared.node.Edge.TheOpen as layer
use Rattle.path_trie.specs.declared.node.Edge.TheViews.{roll-Node}
use Rattle.path_trie.specs.Entries.{is_at, put, value_at, value_of}
use Rattle.path_trie.specs.Nodes.{own, put_in, has_some, are_well, below_node, below_all, comes_before, comes_behind, edge_name, is_well}
use Rattle.path_trie.specs.Roots.{IsTrie, is_placed, own_with, shown, shown_all, with_value}
use Rattle.path_trie.proofs.Told.{below_node_out}
use Rattle.path_trie.proofs.Kept.{edges_put, here_put, list_rolled, name_is, value_edges, value_found, value_none, value_own}
use Rattle.path_trie.proofs.Changed.{changed, put_changed, unchanged}
use Rattle.path_trie.proofs.RootLemmas.{list_put_by, trie_put, trie_same}

-- ---- at a node

pub swap_here : {V : Type 0} (n : Node (Entry V)) (r : layer.Node-F (Entry V) (Edge (Entry V)) (Node (Entry V))) (names : List (List ℕ)) (value : V)
    → names ≡ [] → r.value ≡ own_with (out-Node (Entry V) n).value value → r.edges.items ≡ (out-Node (Entry V) n).edges.items
    → below_node (roll-Node (Entry V) r) ≡ with_value (value_at names (below_node n)) names value (below_node n)
swap_here {V} n r names value e v same =
    by (out-Node (Entry V) n).value refl
    ∙ ap (λ o. with_value o names value (below_node n)) (value_own n ∙ ap (λ t. value_at t (below_node n)) (sym e))
  where
    by : (o : Option (Entry V)) → (out-Node (Entry V) n).value ≡ o → below_node (roll-Node (Entry V) r) ≡ with_value o names value (below_node n)
    by None is =
        list_rolled r ∙ ap (λ t. own t ++ below_all r.edges.items) (v ∙ ap (λ o. own_with o value) is) ∙ ap below_all same
        ∙ sym (below_node_out n ∙ ap (λ t. own t ++ below_all (out-Node (Entry V) n).edges.items) is)
    by (Some kept) is = here_put n r names (record { path = kept.path; value = value }) e (v ∙ ap (λ o. own_with o value) is) same

pub swap_edges : {V : Type 0} (n : Node (Entry V)) (r : layer.Node-F (Entry V) (Edge (Entry V)) (Node (Entry V))) (names : List (List ℕ)) (name : List ℕ) (more : List (List ℕ)) (value : V)
    → names ≡ name ∷ more → r.value ≡ (out-Node (Entry V) n).value
    → below_all r.edges.items ≡ with_value (value_at (name ∷ more) (below_all (out-Node (Entry V) n).edges.items)) (name ∷ more) value (below_all (out-Node (Entry V) n).edges.items)
    → below_node (roll-Node (Entry V) r) ≡ with_value (value_at names (below_node n)) names value (below_node n)
swap_edges {V} n r names name more value e v told =
    by (value_at (name ∷ more) (below_all (out-Node (Entry V) n).edges.items)) told
    ∙ ap (λ o. with_value o names value (below_node n))
    (sym (value_edges n (out-Node (Entry V) n).edges.items name more refl) ∙ ap (λ t. value_at t (below_node n)) (sym e))
  where
    by : (o : Option (Entry V)) → below_all r.edges.items ≡ with_value o (name ∷ more) value (below_all (out-Node (Entry V) n).edges.items)
        → below_node (roll-Node (Entry V) r) ≡ with_value o names value (below_node n)
    by None told =
        list_rolled r ∙ ap (λ t. own t ++ below_all r.edges.items) v ∙ ap (λ t. own (out-Node (Entry V) n).value ++ t) told ∙ sym (below_node_out n)
    by (Some kept) told = edges_put n r names name more (record { path = kept.path; value = value }) true e v told

-- ---- among children

pub swap_changed : {V : Type 0} (es : List (Edge (Entry V))) (k : ℕ) (e f : Edge (Entry V)) (name : List ℕ) (more : List (List ℕ)) (value : V) (m : Node (Entry V)) → are_well es ≡ true → k < length es
    → get_or (map edge_name es) k name ≡ name → e ≡ get_or es k e → edge_name f ≡ edge_name e → (out-Edge (Entry V) f).node ≡ m
    → below_node m ≡ with_value (value_at more (below_node (out-Edge (Entry V) e).node)) more value (below_node (out-Edge (Entry V) e).node)
    → below_all (set es k f) ≡ with_value (value_at (name ∷ more) (below_all es)) (name ∷ more) value (below_all es)
swap_changed {V} es k e f name more value m h l found is n fm told =
    by (value_at more (below_node (out-Edge (Entry V) e).node)) told
    ∙ ap (λ o. with_value o (name ∷ more) value (below_all es)) (sym (value_found es name more k e h l found is))
  where
    by : (o : Option (Entry V)) → below_node m ≡ with_value o more value (below_node (out-Edge (Entry V) e).node)
        → below_all (set es k f) ≡ with_value o (name ∷ more) value (below_all es)
    by None told =
        let en = name_is es k e name l is found in
        changed es k e f name l (n ∙ en)
        ∙ ap (λ t. below_all (take k es) ++ (map (put_in name) t ++ below_all (drop (suc k) es))) (ap below_node fm ∙ told)
        ∙ sym (unchanged es k e name l is en)
    by (Some kept) told = put_changed es k e f name more (record { path = kept.path; value = value }) m true h l found is n fm told

pub swap_absent : {V : Type 0} (es : List (Edge (Entry V))) (k : ℕ) (name : List ℕ) (more : List (List ℕ)) (value : V)
    → list_all (comes_before name) (map edge_name (take k es)) ≡ true → list_all (comes_behind name) (map edge_name (drop k es)) ≡ true
    → below_all es ≡ with_value (value_at (name ∷ more) (below_all es)) (name ∷ more) value (below_all es)
swap_absent es k name more value f b = sym (ap (λ o. with_value o (name ∷ more) value (below_all es)) (value_none es name more k f b))

pub has_as_many : {X : Type 0} (xs ys : List X) → length xs ≡ length ys → has_some ys ≡ true → has_some xs ≡ true
has_as_many [] [] e h = h
has_as_many [] (y ∷ ys) e h = absurd (omega (arith, e))
has_as_many (x ∷ xs) ys e h = refl

pub without_zero : (a b : ℕ) → a + 0 ≡ b + 0 → a ≡ b
without_zero a b e = omega (arith, e)

-- ---- at the root

kept_place : {V : Type 0} (names : List (List ℕ)) (xs : List (Entry (Entry V))) (kept : Entry V) → list_all is_placed xs ≡ true → value_at names xs ≡ Some kept → kept.path ≡ names
kept_place names [] kept h e = cc
kept_place {V} names (x ∷ xs) kept h e =
    by (is_at names x) refl e (first_so (is_placed x) (list_all is_placed xs) h) (kept_place names xs kept (second_so (is_placed x) (list_all is_placed xs) h))
  where
    by : (b : Bool) → is_at names x ≡ b → option_map value_of (cond b (Some x) (find (is_at names) xs)) ≡ Some kept → is_placed x ≡ true
        → (value_at names xs ≡ Some kept → kept.path ≡ names) → kept.path ≡ names
    by true is e placed more =
        let same : x.value ≡ kept = cc in
        ap (λ (t : Entry V). t.path) (sym same) ∙ same_names-eq x.value.path x.path placed ∙ sym (same_names-eq names x.path is)
    by false is e placed more = more e

pub trie_swapped : {V : Type 0} (old new : Node (Entry V)) (names : List (List ℕ)) (value : V) → IsTrie old → is_well new ≡ true
    → below_node new ≡ with_value (value_at names (below_node old)) names value (below_node old) → IsTrie new
trie_swapped {V} old new names value t w e = by (value_at names (below_node old)) refl e
  where
    by : (o : Option (Entry V)) → value_at names (below_node old) ≡ o → below_node new ≡ with_value o names value (below_node old) → IsTrie new
    by None is e = trie_same old new t w e
    by (Some kept) is e = trie_put old new names (record { path = kept.path; value = value }) t (kept_place names (below_node old) kept t.placed is) w e

pub list_swapped : {V : Type 0} (old new : Node (Entry V)) (names path : List (List ℕ)) (value : V) (now : List (Entry V)) (r : Result V V) → names ≡ path → shown_all old ≡ now
    → below_node new ≡ with_value (value_at names (below_node old)) names value (below_node old) → result_ok r ≡ option_map value_of (value_at names (below_node old))
    → shown_all new ≡ cond (is_ok r) (put path value now) now
list_swapped {V} old new names path value now r n v e f = by (value_at names (below_node old)) r e f
  where
    by : (o : Option (Entry V)) (r : Result V V) → below_node new ≡ with_value o names value (below_node old) → result_ok r ≡ option_map value_of o
        → shown_all new ≡ cond (is_ok r) (put path value now) now
    by None (Ok x) e f = cc
    by None (Err y) e f = ap (map shown) e ∙ v
    by (Some kept) (Ok x) e f = list_put_by old new names path (record { path = kept.path; value = value }) true true now refl n v e
    by (Some kept) (Err y) e f = cc
