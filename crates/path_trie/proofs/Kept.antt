-- What a node keeps, and what is at and below it by what is below its children.
use Rattle.std.proofs.Common.{◌≡◌, ◌<◌, ◌≤◌, ◌-◌, ◌+◌, ℕ, suc, Bool, true, false, not, cond, ◌&&◌, List, [], ◌∷◌, ◌++◌, map, length, take, drop, get_or, refl, ◌∙◌, sym, ap, subst, arith}
use Rattle.std.proofs.lemmas.Bool.{and_from, eq-eqb}
use Rattle.std.specs.Prelude.{nat_eq}
use Rattle.std.proofs.Math.Dec.{eqb-suc-zero}
use Rattle.std.proofs.lemmas.List.{length-append, take_all, take-append-drop}
use Rattle.std.specs.Cmp.{first_so, second_so}
use Rattle.std.specs.List.{filter, list_all}
use Rattle.std.specs.Option.{option_map}
use Rattle.std.specs.declared.option.Option.{Option}
use Rattle.std.specs.declared.option.Option.TheVariants.{Some, None}
use Rattle.std.specs.Result.{IfOk, IfErr}
use Rattle.std.specs.declared.result.Result.{Result}
use Rattle.std.specs.declared.result.Result.TheVariants.{Ok, Err}
use Rattle.std.specs.List.Sorted.{IsBinarySearchResult, IsSearchInRange}
use Rattle.path_trie.specs.declared.entry.Entry.{Entry}
use Rattle.path_trie.specs.declared.node.Node.{Node, out-Node}
use Rattle.path_trie.specs.declared.node.Edge.{Edge, out-Edge}
use Rattle.path_trie.specs.declared.node.Edge.TheOpen as layer
use Rattle.path_trie.specs.declared.node.Edge.TheViews.{roll-Node, out-roll-Node}
use Rattle.path_trie.specs.Entries.{is_at, is_before, is_behind, is_elsewhere, put, value_at, value_of, without}
use Rattle.path_trie.specs.Nodes.{own, has_some, are_in_order, are_well, below_node, below_all, comes_before, comes_behind, edge_name, is_well, is_well_edge, node_count}
use Rattle.path_trie.proofs.Lists.{find_first, first_of, split_at}
use Rattle.path_trie.proofs.Told.{below_node_out, count_out, well_edge_out, well_out}
use Rattle.path_trie.proofs.Around.{alike_below}
use Rattle.mat_path.proofs.Halves.{all_at}
use Rattle.path_trie.proofs.Halves.{back_is, between_before, between_behind, edge_cmp, found_name, front_is, name_at, rises}
use Rattle.path_trie.proofs.Below.{value_around, value_between}

-- ---- a search by halves

pub place_found : {T : Type 0} (name : List ℕ) (es : List (Edge T)) (r : Result ℕ ℕ) → IsSearchInRange r (length es)
    → IsBinarySearchResult (edge_cmp name) es r → IfOk r (λ k. get_or (map edge_name es) k name ≡ name)
place_found name es (Ok k) b s = found_name name es k b s
place_found name es (Err k) b s = tt

pub place_before : {T : Type 0} (name : List ℕ) (es : List (Edge T)) (r : Result ℕ ℕ) → are_in_order (map edge_name es) ≡ true → IsSearchInRange r (length es)
    → IsBinarySearchResult (edge_cmp name) es r → IfErr r (λ k. list_all (comes_before name) (map edge_name (take k es)) ≡ true)
place_before name es (Ok k) o b s = tt
place_before name es (Err k) o b s = between_before name es k b (s (rises name es o))

pub place_behind : {T : Type 0} (name : List ℕ) (es : List (Edge T)) (r : Result ℕ ℕ) → are_in_order (map edge_name es) ≡ true
    → IsBinarySearchResult (edge_cmp name) es r → IfErr r (λ k. list_all (comes_behind name) (map edge_name (drop k es)) ≡ true)
place_behind name es (Ok k) o s = tt
place_behind name es (Err k) o s = between_behind name es k (s (rises name es o))

-- ---- names from their first

pub names_split : (names : List (List ℕ)) (name : List ℕ) → 1 ≤ length names → name ≡ get_or names 0 name
    → names ≡ name ∷ take (length names - 1) (drop 1 names)
names_split [] name h e = absurd (omega arith)
names_split (n ∷ names) name h e =
    ap (λ x. x ∷ names) (sym e) ∙ ap (λ t. name ∷ t) (sym (take_all (length (n ∷ names) - 1) names (omega arith)))

-- ---- what a node keeps

pub well_edges : {T : Type 0} (n : Node T) (es : List (Edge T)) → es ≡ (out-Node T n).edges.items → is_well n ≡ true → are_well es ≡ true
well_edges {T} n es e h =
    ap are_well e
    ∙ second_so (nat_eq (node_count n) (length (own (out-Node T n).value ++ below_all (out-Node T n).edges.items))) (are_well (out-Node T n).edges.items) (sym (well_out n) ∙ h)

pub in_order : {T : Type 0} (es : List (Edge T)) → are_well es ≡ true → are_in_order (map edge_name es) ≡ true
in_order es h = first_so (are_in_order (map edge_name es)) (list_all is_well_edge es) h

pub child_edge : {T : Type 0} (es : List (Edge T)) (k : ℕ) (e : Edge T) → are_well es ≡ true → k < length es → e ≡ get_or es k e
    → (has_some (below_node (out-Edge T e).node) && is_well (out-Edge T e).node) ≡ true
child_edge es k e h l is =
    sym (well_edge_out e) ∙ ap is_well_edge is ∙ all_at is_well_edge es k e (second_so (are_in_order (map edge_name es)) (list_all is_well_edge es) h) l

pub child_well : {T : Type 0} (es : List (Edge T)) (k : ℕ) (e : Edge T) → are_well es ≡ true → k < length es → e ≡ get_or es k e
    → is_well (out-Edge T e).node ≡ true
child_well {T} es k e h l is = second_so (has_some (below_node (out-Edge T e).node)) (is_well (out-Edge T e).node) (child_edge es k e h l is)

-- ---- around the child at a place

pub around : {T : Type 0} (es : List (Edge T)) (k : ℕ) (e : Edge T) → k < length es → e ≡ get_or es k e → es ≡ take k es ++ (e ∷ drop (suc k) es)
around es k e l is = split_at es k e l ∙ ap (λ t. take k es ++ (t ∷ drop (suc k) es)) (sym is)

pub name_is : {T : Type 0} (es : List (Edge T)) (k : ℕ) (e : Edge T) (name : List ℕ) → k < length es → e ≡ get_or es k e
    → get_or (map edge_name es) k name ≡ name → edge_name e ≡ name
name_is es k e name l is found = ap edge_name is ∙ sym (name_at es k e name l) ∙ found

-- ---- what stands at and below a node

all_so : (xs : List (List ℕ)) → list_all (λ x. true) xs ≡ true
all_so [] = refl
all_so (x ∷ xs) = all_so xs

-- nothing below a node stands at it, or before it
pub none_at : {T : Type 0} (es : List (Edge T)) → filter (is_at []) (below_all es) ≡ []
none_at es = alike_below (λ n. true) (is_at []) false (λ n x h. refl) es (all_so (map edge_name es))

pub all_elsewhere : {T : Type 0} (es : List (Edge T)) → filter (is_elsewhere []) (below_all es) ≡ below_all es
all_elsewhere es = alike_below (λ n. true) (is_elsewhere []) true (λ n x h. refl) es (all_so (map edge_name es))

pub none_before : {T : Type 0} (es : List (Edge T)) → filter (is_before []) (below_all es) ≡ []
none_before es = alike_below (λ n. true) (is_before []) false (λ n x h. refl) es (all_so (map edge_name es))

pub all_behind : {T : Type 0} (es : List (Edge T)) → filter (is_behind []) (below_all es) ≡ below_all es
all_behind es = alike_below (λ n. true) (is_behind []) true (λ n x h. refl) es (all_so (map edge_name es))

pub value_here : {T : Type 0} (v : Option T) (es : List (Edge T)) → v ≡ value_at [] (own v ++ below_all es)
value_here None es = sym (ap (option_map value_of) (find_first (is_at []) (below_all es)) ∙ ap (λ t. option_map value_of (first_of t)) (none_at es))
value_here (Some v) es = refl

pub value_own : {T : Type 0} (n : Node T) → (out-Node T n).value ≡ value_at [] (below_node n)
value_own {T} n = value_here (out-Node T n).value (out-Node T n).edges.items ∙ ap (value_at []) (sym (below_node_out n))

value_past : {T : Type 0} (v : Option T) (name : List ℕ) (more : List (List ℕ)) (xs : List (Entry T)) → value_at (name ∷ more) (own v ++ xs) ≡ value_at (name ∷ more) xs
value_past None name more xs = refl
value_past (Some v) name more xs = refl

pub value_edges : {T : Type 0} (n : Node T) (es : List (Edge T)) (name : List ℕ) (more : List (List ℕ)) → es ≡ (out-Node T n).edges.items
    → value_at (name ∷ more) (below_node n) ≡ value_at (name ∷ more) (below_all es)
value_edges {T} n es name more e =
    ap (value_at (name ∷ more)) (below_node_out n) ∙ value_past (out-Node T n).value name more (below_all (out-Node T n).edges.items)
    ∙ ap (λ t. value_at (name ∷ more) (below_all t)) (sym e)

pub value_found : {T : Type 0} (es : List (Edge T)) (name : List ℕ) (more : List (List ℕ)) (k : ℕ) (e : Edge T) → are_well es ≡ true → k < length es
    → get_or (map edge_name es) k name ≡ name → e ≡ get_or es k e → value_at (name ∷ more) (below_all es) ≡ value_at more (below_node (out-Edge T e).node)
value_found es name more k e h l found is =
    ap (λ t. value_at (name ∷ more) (below_all t)) (around es k e l is)
    ∙ value_around name more (take k es) (drop (suc k) es) e (name_is es k e name l is found) (front_is name es k (in_order es h) l found) (back_is name es k (in_order es h) l found)

pub value_none : {T : Type 0} (es : List (Edge T)) (name : List ℕ) (more : List (List ℕ)) (k : ℕ)
    → list_all (comes_before name) (map edge_name (take k es)) ≡ true → list_all (comes_behind name) (map edge_name (drop k es)) ≡ true
    → value_at (name ∷ more) (below_all es) ≡ None
value_none es name more k f b =
    ap (λ t. value_at (name ∷ more) (below_all t)) (sym (take-append-drop k es)) ∙ value_between name more (take k es) (drop k es) f b

-- ---- a node with nothing at and below it

pub bare_is : {T : Type 0} (n : Node T) → is_well n ≡ true → nat_eq (node_count n) 0 ≡ not (has_some (below_node n))
bare_is n h = ap (λ k. nat_eq k 0) (count_out n h) ∙ by (below_node n)
  where
    by : {X : Type 0} (xs : List X) → nat_eq (length xs) 0 ≡ not (has_some xs)
    by [] = refl
    by (x ∷ xs) = eqb-suc-zero (length xs)

-- ---- places among the same children

pub ok_within : {T : Type 0} (es ds : List (Edge T)) (k : ℕ) → ds ≡ es → k < length ds → k < length es
ok_within {T} es ds k e h = subst (λ (t : List (Edge T)). k < length t) e h

pub ok_found : {T : Type 0} (es ds : List (Edge T)) (k : ℕ) (name : List ℕ) → ds ≡ es → get_or (map edge_name ds) k name ≡ name → get_or (map edge_name es) k name ≡ name
ok_found {T} es ds k name e h = ap (λ t. get_or (map edge_name t) k name) (sym e) ∙ h

pub err_before : {T : Type 0} (es ds : List (Edge T)) (k : ℕ) (name : List ℕ) → ds ≡ es
    → list_all (comes_before name) (map edge_name (take k ds)) ≡ true → list_all (comes_before name) (map edge_name (take k es)) ≡ true
err_before {T} es ds k name e h = ap (λ t. list_all (comes_before name) (map edge_name (take k t))) (sym e) ∙ h

pub err_behind : {T : Type 0} (es ds : List (Edge T)) (k : ℕ) (name : List ℕ) → ds ≡ es
    → list_all (comes_behind name) (map edge_name (drop k ds)) ≡ true → list_all (comes_behind name) (map edge_name (drop k es)) ≡ true
err_behind {T} es ds k name e h = ap (λ t. list_all (comes_behind name) (map edge_name (drop k t))) (sym e) ∙ h

pub is_there : (b c : Bool) → b ≡ not c → b ≡ false → c ≡ true
is_there b true e f = refl
is_there b false e f = cc

-- ---- changes at a node, and among its children

pub list_rolled : {T : Type 0} (r : layer.Node-F T (Edge T) (Node T)) → below_node (roll-Node T r) ≡ own r.value ++ below_all r.edges.items
list_rolled {T} r = below_node_out (roll-Node T r) ∙ ap (λ (t : layer.Node-F T (Edge T) (Node T)). own t.value ++ below_all t.edges.items) (out-roll-Node T r)

pub well_rolled : {T : Type 0} (r : layer.Node-F T (Edge T) (Node T)) → r.count ≡ length (below_node (roll-Node T r)) → are_well r.edges.items ≡ true → is_well (roll-Node T r) ≡ true
well_rolled {T} r e h =
    well_out (roll-Node T r)
    ∙ ap (λ (t : layer.Node-F T (Edge T) (Node T)). nat_eq t.count (length (own t.value ++ below_all t.edges.items)) && are_well t.edges.items) (out-roll-Node T r)
    ∙ and_from (nat_eq r.count (length (own r.value ++ below_all r.edges.items))) (are_well r.edges.items)
    (eq-eqb r.count (length (own r.value ++ below_all r.edges.items)) (e ∙ ap length (list_rolled r))) h

-- the children of a node have no more entries than it
pub few_edges : {T : Type 0} (n : Node T) → length (below_all (out-Node T n).edges.items) ≤ length (below_node n)
few_edges {T} n =
    let all = ap length (below_node_out n) in
    let parts = length-append (own (out-Node T n).value) (below_all (out-Node T n).edges.items) in omega (arith, all, parts)

-- how many entries are at and below a node, by what stands at it and below it
length_out : {T : Type 0} (n : Node T) → length (below_node n) ≡ length (own (out-Node T n).value) + length (below_all (out-Node T n).edges.items)
length_out {T} n = ap length (below_node_out n) ∙ length-append (own (out-Node T n).value) (below_all (out-Node T n).edges.items)

length_rolled : {T : Type 0} (r : layer.Node-F T (Edge T) (Node T)) → length (below_node (roll-Node T r)) ≡ length (own r.value) + length (below_all r.edges.items)
length_rolled r = ap length (list_rolled r) ∙ length-append (own r.value) (below_all r.edges.items)

-- nor is there more at it
pub few_own : {T : Type 0} (n : Node T) (o : Option T) → o ≡ (out-Node T n).value → length (own o) ≤ length (below_node n)
few_own n o e = let all = length_out n in let first = ap (λ t. length (own t)) e in omega (arith, all, first)

pub plus_zero : (k : ℕ) → k + 0 ≡ k
plus_zero k = omega arith

-- with another value, or none, at the node itself
pub here_counted : {T : Type 0} (n : Node T) (r : layer.Node-F T (Edge T) (Node T)) (old new : Option T) → old ≡ (out-Node T n).value → r.value ≡ new
    → r.edges.items ≡ (out-Node T n).edges.items → length (below_node (roll-Node T r)) + length (own old) ≡ length (below_node n) + length (own new)
here_counted {T} n r old new o v same =
    let was = length_out n in
    let is = length_rolled r in
    let first = ap (λ t. length (own t)) o in
    let second = ap (λ t. length (own t)) v in
    let rest = ap (λ t. length (below_all t)) same in
    omega (arith, was, is, first, second, rest)

-- with more or less below it
pub edges_counted : {T : Type 0} (n : Node T) (r : layer.Node-F T (Edge T) (Node T)) (k m : ℕ) → r.value ≡ (out-Node T n).value
    → length (below_all r.edges.items) + k ≡ length (below_all (out-Node T n).edges.items) + m → length (below_node (roll-Node T r)) + k ≡ length (below_node n) + m
edges_counted {T} n r k m v e =
    let was = length_out n in
    let is = length_rolled r in
    let own_is = ap (λ t. length (own t)) v in
    omega (arith, was, is, own_is, e)

-- a node whose number changed as its entries did
pub well_counted : {T : Type 0} (n : Node T) (r : layer.Node-F T (Edge T) (Node T)) (k m : ℕ) → is_well n ≡ true → r.count + k ≡ node_count n + m
    → length (below_node (roll-Node T r)) + k ≡ length (below_node n) + m → are_well r.edges.items ≡ true → is_well (roll-Node T r) ≡ true
well_counted {T} n r k m h c e w = let was = count_out n h in well_rolled r (omega (arith, was, c, e)) w

without_here : {T : Type 0} (v : Option T) (es : List (Edge T)) → below_all es ≡ without [] (own v ++ below_all es)
without_here None es = sym (all_elsewhere es)
without_here (Some v) es = sym (all_elsewhere es)

put_here : {T : Type 0} (v : Option T) (value : T) (es : List (Edge T)) → record { path = []; value = value } ∷ below_all es ≡ put [] value (own v ++ below_all es)
put_here None value es =
    sym (ap (λ t. t ++ (record { path = []; value = value } ∷ filter (is_behind []) (below_all es))) (none_before es) ∙ ap (λ t. record { path = []; value = value } ∷ t) (all_behind es))
put_here (Some v) value es =
    sym (ap (λ t. t ++ (record { path = []; value = value } ∷ filter (is_behind []) (below_all es))) (none_before es) ∙ ap (λ t. record { path = []; value = value } ∷ t) (all_behind es))

without_past : {T : Type 0} (v : Option T) (name : List ℕ) (more : List (List ℕ)) (xs : List (Entry T)) → own v ++ without (name ∷ more) xs ≡ without (name ∷ more) (own v ++ xs)
without_past None name more xs = refl
without_past (Some v) name more xs = refl

put_past : {T : Type 0} (v : Option T) (name : List ℕ) (more : List (List ℕ)) (value : T) (xs : List (Entry T)) → own v ++ put (name ∷ more) value xs ≡ put (name ∷ more) value (own v ++ xs)
put_past None name more value xs = refl
put_past (Some v) name more value xs = refl

pub here_taken : {T : Type 0} (n : Node T) (r : layer.Node-F T (Edge T) (Node T)) (names : List (List ℕ)) → names ≡ [] → r.value ≡ None → r.edges.items ≡ (out-Node T n).edges.items
    → below_node (roll-Node T r) ≡ without names (below_node n)
here_taken {T} n r names e v same =
    list_rolled r ∙ ap (λ t. own t ++ below_all r.edges.items) v ∙ ap below_all same ∙ without_here (out-Node T n).value (out-Node T n).edges.items
    ∙ ap (without []) (sym (below_node_out n)) ∙ ap (λ t. without t (below_node n)) (sym e)

pub here_put : {T : Type 0} (n : Node T) (r : layer.Node-F T (Edge T) (Node T)) (names : List (List ℕ)) (value : T) → names ≡ [] → r.value ≡ Some value → r.edges.items ≡ (out-Node T n).edges.items
    → below_node (roll-Node T r) ≡ put names value (below_node n)
here_put {T} n r names value e v same =
    list_rolled r ∙ ap (λ t. own t ++ below_all r.edges.items) v ∙ ap (λ t. record { path = []; value = value } ∷ below_all t) same
    ∙ put_here (out-Node T n).value value (out-Node T n).edges.items
    ∙ ap (put [] value) (sym (below_node_out n)) ∙ ap (λ t. put t value (below_node n)) (sym e)

pub edges_taken : {T : Type 0} (n : Node T) (r : layer.Node-F T (Edge T) (Node T)) (names : List (List ℕ)) (name : List ℕ) (more : List (List ℕ)) → names ≡ name ∷ more
    → r.value ≡ (out-Node T n).value → below_all r.edges.items ≡ without (name ∷ more) (below_all (out-Node T n).edges.items)
    → below_node (roll-Node T r) ≡ without names (below_node n)
edges_taken {T} n r names name more e v told =
    list_rolled r ∙ ap (λ t. own t ++ below_all r.edges.items) v ∙ ap (λ t. own (out-Node T n).value ++ t) told
    ∙ without_past (out-Node T n).value name more (below_all (out-Node T n).edges.items) ∙ ap (without (name ∷ more)) (sym (below_node_out n))
    ∙ ap (λ t. without t (below_node n)) (sym e)

pub edges_put : {T : Type 0} (n : Node T) (r : layer.Node-F T (Edge T) (Node T)) (names : List (List ℕ)) (name : List ℕ) (more : List (List ℕ)) (value : T) (b : Bool) → names ≡ name ∷ more
    → r.value ≡ (out-Node T n).value
    → below_all r.edges.items ≡ cond b (put (name ∷ more) value (below_all (out-Node T n).edges.items)) (below_all (out-Node T n).edges.items)
    → below_node (roll-Node T r) ≡ cond b (put names value (below_node n)) (below_node n)
edges_put {T} n r names name more value true e v told =
    list_rolled r ∙ ap (λ t. own t ++ below_all r.edges.items) v ∙ ap (λ t. own (out-Node T n).value ++ t) told
    ∙ put_past (out-Node T n).value name more value (below_all (out-Node T n).edges.items) ∙ ap (put (name ∷ more) value) (sym (below_node_out n))
    ∙ ap (λ t. put t value (below_node n)) (sym e)
edges_put {T} n r names name more value false e v told =
    list_rolled r ∙ ap (λ t. own t ++ below_all r.edges.items) v ∙ ap (λ t. own (out-Node T n).value ++ t) told ∙ sym (below_node_out n)

pub grown_node : {T : Type 0} (r : layer.Node-F T (Edge T) (Node T)) (es : List (Edge T)) (names : List (List ℕ)) (name : List ℕ) (more : List (List ℕ)) (value : T)
    → names ≡ name ∷ more → r.value ≡ None → es ≡ [] → below_all r.edges.items ≡ put (name ∷ more) value (below_all es)
    → below_node (roll-Node T r) ≡ record { path = names; value = value } ∷ []
grown_node {T} r es names name more value e v none told =
    list_rolled r ∙ ap (λ t. own t ++ below_all r.edges.items) v ∙ told ∙ ap (λ t. put (name ∷ more) value (below_all t)) none
    ∙ ap (λ t. record { path = t; value = value } ∷ []) (sym e)
