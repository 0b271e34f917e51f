-- What stands at a path below children, and what a change of one of them does.
use Rattle.mat_path.proofs.SameNames.{same_name-refl}
use Rattle.mat_path.proofs.PathLemmas.{lt_less, name_cmp-refl}
use Rattle.std.proofs.Common.{◌≡◌, ℕ, true, false, not, ◌&&◌, List, [], ◌∷◌, ◌++◌, map, append-nil, append_assoc, refl, ◌∙◌, sym, ap}
use Rattle.std.proofs.lemmas.List.{map-append}
use Rattle.std.proofs.lemmas.List.Concat.{flat_map-append}
use Rattle.std.specs.List.{filter, list_all}
use Rattle.std.specs.Option.{option_map}
use Rattle.std.specs.Ordering.{is_lt, ordering_then}
use Rattle.std.specs.declared.option.Option.TheVariants.{None}
use Rattle.mat_path.specs.Names.{name_cmp, path_cmp, same_name, same_names}
use Rattle.path_trie.specs.declared.entry.Entry.{Entry}
use Rattle.path_trie.specs.declared.node.Edge.{Edge, out-Edge}
use Rattle.path_trie.specs.Entries.{is_at, is_before, is_behind, is_elsewhere, put, value_at, value_of, without}
use Rattle.path_trie.specs.Nodes.{put_in, below_node, below_edge, below_all, comes_before, comes_behind, edge_name}
use Rattle.path_trie.proofs.Lists.{find_first, first_of}
use Rattle.path_trie.proofs.Told.{below_edge_out}
use Rattle.path_trie.proofs.Around.{test_around, test_between}
use Rattle.path_trie.proofs.Halves.{before_other, behind_other, greater_is}

-- ---- tests of a path, below a name before it, behind it, and its own

pub at_other : {T : Type 0} (name : List ℕ) (more : List (List ℕ)) (n : List ℕ) (x : Entry T) → same_name name n ≡ false → is_at (name ∷ more) (put_in n x) ≡ false
at_other name more n x e = ap (λ b. b && same_names more x.path) e

pub at_same : {T : Type 0} (name : List ℕ) (more : List (List ℕ)) (x : Entry T) → is_at (name ∷ more) (put_in name x) ≡ is_at more x
at_same name more x = ap (λ b. b && same_names more x.path) (same_name-refl name)

pub before_is : {T : Type 0} (name : List ℕ) (more : List (List ℕ)) (n : List ℕ) (x : Entry T) → comes_before name n ≡ true → is_before (name ∷ more) (put_in n x) ≡ true
before_is name more n x e = ap (λ o. is_lt (ordering_then o (path_cmp x.path more))) (lt_less (name_cmp n name) e)

pub before_not : {T : Type 0} (name : List ℕ) (more : List (List ℕ)) (n : List ℕ) (x : Entry T) → comes_behind name n ≡ true → is_before (name ∷ more) (put_in n x) ≡ false
before_not name more n x e = ap (λ o. is_lt (ordering_then o (path_cmp x.path more))) (greater_is name n e)

pub before_same : {T : Type 0} (name : List ℕ) (more : List (List ℕ)) (x : Entry T) → is_before (name ∷ more) (put_in name x) ≡ is_before more x
before_same name more x = ap (λ o. is_lt (ordering_then o (path_cmp x.path more))) (name_cmp-refl name)

pub behind_not : {T : Type 0} (name : List ℕ) (more : List (List ℕ)) (n : List ℕ) (x : Entry T) → comes_before name n ≡ true → is_behind (name ∷ more) (put_in n x) ≡ false
behind_not name more n x e = ap (λ o. is_lt (ordering_then o (path_cmp more x.path))) (greater_is n name e)

pub behind_is : {T : Type 0} (name : List ℕ) (more : List (List ℕ)) (n : List ℕ) (x : Entry T) → comes_behind name n ≡ true → is_behind (name ∷ more) (put_in n x) ≡ true
behind_is name more n x e = ap (λ o. is_lt (ordering_then o (path_cmp more x.path))) (lt_less (name_cmp name n) e)

pub behind_same : {T : Type 0} (name : List ℕ) (more : List (List ℕ)) (x : Entry T) → is_behind (name ∷ more) (put_in name x) ≡ is_behind more x
behind_same name more x = ap (λ o. is_lt (ordering_then o (path_cmp more x.path))) (name_cmp-refl name)

-- ---- a list around a child, and with another child in its place

pub below_around : {T : Type 0} (pre post : List (Edge T)) (e : Edge T)
    → below_all (pre ++ (e ∷ post)) ≡ below_all pre ++ (map (put_in (edge_name e)) (below_node (out-Edge T e).node) ++ below_all post)
below_around pre post e = flat_map-append below_edge pre (e ∷ post) ∙ ap (λ t. below_all pre ++ (t ++ below_all post)) (below_edge_out e)

-- ---- the value at a path

first_in : {T : Type 0} (n : List ℕ) (xs : List (Entry T)) → option_map value_of (first_of (map (put_in n) xs ++ [])) ≡ option_map value_of (first_of xs)
first_in n [] = refl
first_in n (x ∷ xs) = refl

pub value_around : {T : Type 0} (name : List ℕ) (more : List (List ℕ)) (pre post : List (Edge T)) (e : Edge T) → edge_name e ≡ name
    → list_all (comes_before name) (map edge_name pre) ≡ true → list_all (comes_behind name) (map edge_name post) ≡ true
    → value_at (name ∷ more) (below_all (pre ++ (e ∷ post))) ≡ value_at more (below_node (out-Edge T e).node)
value_around {T} name more pre post e is f b =
    ap (option_map value_of) (find_first (is_at (name ∷ more)) (below_all (pre ++ (e ∷ post))))
    ∙ ap (λ t. option_map value_of (first_of t))
    (test_around (comes_before name) (comes_behind name) (is_at (name ∷ more)) (is_at more) false false pre post e
    (λ n x h. at_other name more n x (before_other name n h)) (λ n x h. at_other name more n x (behind_other name n h))
    (λ x. ap (λ n. is_at (name ∷ more) (put_in n x)) is ∙ at_same name more x) f b)
    ∙ first_in (edge_name e) (filter (is_at more) (below_node (out-Edge T e).node))
    ∙ ap (option_map value_of) (sym (find_first (is_at more) (below_node (out-Edge T e).node)))

pub value_between : {T : Type 0} (name : List ℕ) (more : List (List ℕ)) (pre post : List (Edge T))
    → list_all (comes_before name) (map edge_name pre) ≡ true → list_all (comes_behind name) (map edge_name post) ≡ true
    → value_at (name ∷ more) (below_all (pre ++ post)) ≡ None
value_between name more pre post f b =
    ap (option_map value_of) (find_first (is_at (name ∷ more)) (below_all (pre ++ post)))
    ∙ ap (λ t. option_map value_of (first_of t))
    (test_between (comes_before name) (comes_behind name) (is_at (name ∷ more)) false false pre post
    (λ n x h. at_other name more n x (before_other name n h)) (λ n x h. at_other name more n x (behind_other name n h)) f b)

-- ---- a value put at a path

-- the two halves of a list and what stands between them
joined : {X Y : Type 0} (f : X → Y) (a b : List X) (x : X) (y : Y) (p q : List Y) → y ≡ f x
    → (p ++ (map f a ++ [])) ++ (y ∷ (map f b ++ q)) ≡ p ++ (map f (a ++ (x ∷ b)) ++ q)
joined f a b x y p q e =
    ap (λ t. (p ++ t) ++ (y ∷ (map f b ++ q))) (append-nil (map f a))
    ∙ append_assoc p (map f a) (y ∷ (map f b ++ q))
    ∙ ap (λ t. p ++ (map f a ++ (t ∷ (map f b ++ q)))) e
    ∙ ap (λ t. p ++ t) (sym (append_assoc (map f a) (f x ∷ map f b) q))
    ∙ ap (λ t. p ++ (t ++ q)) (sym (map-append f a (x ∷ b)))

pub put_around : {T : Type 0} (name : List ℕ) (more : List (List ℕ)) (value : T) (pre post : List (Edge T)) (e : Edge T) → edge_name e ≡ name
    → list_all (comes_before name) (map edge_name pre) ≡ true → list_all (comes_behind name) (map edge_name post) ≡ true
    → put (name ∷ more) value (below_all (pre ++ (e ∷ post)))
    ≡ below_all pre ++ (map (put_in (edge_name e)) (put more value (below_node (out-Edge T e).node)) ++ below_all post)
put_around {T} name more value pre post e is f b =
    ap (λ t. t ++ (record { path = name ∷ more; value = value } ∷ filter (is_behind (name ∷ more)) (below_all (pre ++ (e ∷ post)))))
    (test_around (comes_before name) (comes_behind name) (is_before (name ∷ more)) (is_before more) true false pre post e
    (λ n x h. before_is name more n x h) (λ n x h. before_not name more n x h)
    (λ x. ap (λ n. is_before (name ∷ more) (put_in n x)) is ∙ before_same name more x) f b)
    ∙ ap (λ t. (below_all pre ++ (map (put_in (edge_name e)) (filter (is_before more) (below_node (out-Edge T e).node)) ++ [])) ++ (record { path = name ∷ more; value = value } ∷ t))
    (test_around (comes_before name) (comes_behind name) (is_behind (name ∷ more)) (is_behind more) false true pre post e
    (λ n x h. behind_not name more n x h) (λ n x h. behind_is name more n x h)
    (λ x. ap (λ n. is_behind (name ∷ more) (put_in n x)) is ∙ behind_same name more x) f b)
    ∙ joined (put_in (edge_name e)) (filter (is_before more) (below_node (out-Edge T e).node)) (filter (is_behind more) (below_node (out-Edge T e).node))
    (record { path = more; value = value }) (record { path = name ∷ more; value = value }) (below_all pre) (below_all post)
    (ap (λ n. record { path = n ∷ more; value = value }) (sym is))

pub put_between : {T : Type 0} (name : List ℕ) (more : List (List ℕ)) (value : T) (pre post : List (Edge T))
    → list_all (comes_before name) (map edge_name pre) ≡ true → list_all (comes_behind name) (map edge_name post) ≡ true
    → put (name ∷ more) value (below_all (pre ++ post)) ≡ below_all pre ++ (record { path = name ∷ more; value = value } ∷ below_all post)
put_between name more value pre post f b =
    ap (λ t. t ++ (record { path = name ∷ more; value = value } ∷ filter (is_behind (name ∷ more)) (below_all (pre ++ post))))
    (test_between (comes_before name) (comes_behind name) (is_before (name ∷ more)) true false pre post
    (λ n x h. before_is name more n x h) (λ n x h. before_not name more n x h) f b)
    ∙ ap (λ t. (below_all pre ++ []) ++ (record { path = name ∷ more; value = value } ∷ t))
    (test_between (comes_before name) (comes_behind name) (is_behind (name ∷ more)) false true pre post
    (λ n x h. behind_not name more n x h) (λ n x h. behind_is name more n x h) f b)
    ∙ ap (λ t. t ++ (record { path = name ∷ more; value = value } ∷ below_all post)) (append-nil (below_all pre))

-- ---- a path taken out

pub without_around : {T : Type 0} (name : List ℕ) (more : List (List ℕ)) (pre post : List (Edge T)) (e : Edge T) → edge_name e ≡ name
    → list_all (comes_before name) (map edge_name pre) ≡ true → list_all (comes_behind name) (map edge_name post) ≡ true
    → without (name ∷ more) (below_all (pre ++ (e ∷ post)))
    ≡ below_all pre ++ (map (put_in (edge_name e)) (without more (below_node (out-Edge T e).node)) ++ below_all post)
without_around name more pre post e is f b =
    test_around (comes_before name) (comes_behind name) (is_elsewhere (name ∷ more)) (is_elsewhere more) true true pre post e
    (λ n x h. ap not (at_other name more n x (before_other name n h))) (λ n x h. ap not (at_other name more n x (behind_other name n h)))
    (λ x. ap (λ n. is_elsewhere (name ∷ more) (put_in n x)) is ∙ ap not (at_same name more x)) f b

pub without_between : {T : Type 0} (name : List ℕ) (more : List (List ℕ)) (pre post : List (Edge T))
    → list_all (comes_before name) (map edge_name pre) ≡ true → list_all (comes_behind name) (map edge_name post) ≡ true
    → without (name ∷ more) (below_all (pre ++ post)) ≡ below_all (pre ++ post)
without_between name more pre post f b =
    test_between (comes_before name) (comes_behind name) (is_elsewhere (name ∷ more)) true true pre post
    (λ n x h. ap not (at_other name more n x (before_other name n h))) (λ n x h. ap not (at_other name more n x (behind_other name n h))) f b
    ∙ sym (flat_map-append below_edge pre post)
