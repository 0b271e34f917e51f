-- Walks along some names: the entry at the fewest, and those that overlap.
use Rattle.mat_path.proofs.SameNames.{same_name-refl, same_name-sym}
use Rattle.std.proofs.Common.{◌≡◌, ◌<◌, ◌≤◌, ◌+◌, ℕ, suc, Bool, true, false, not, cond, ◌&&◌, ◌||◌, List, [], ◌∷◌, ◌++◌, map, length, take, drop, get_or, append-nil, append_assoc, refl, ◌∙◌, sym, ap, arith}
use Rattle.std.proofs.lemmas.List.{map-append, take-append-drop, take_all, take_more}
use Rattle.std.proofs.lemmas.List.Concat.{flat_map-append}
use Rattle.std.specs.List.{filter, find, list_all, list_any}
use Rattle.std.specs.Option.{option_map}
use Rattle.std.specs.Result.{OnOk}
use Rattle.std.specs.declared.result.Result.{Result}
use Rattle.std.specs.declared.result.Result.TheVariants.{Ok, Err}
use Rattle.std.specs.declared.option.Option.{Option}
use Rattle.std.specs.declared.option.Option.TheVariants.{Some, None}
use Rattle.mat_path.specs.Names.{is_prefix, same_name}
use Rattle.path_trie.specs.declared.entry.Entry.{Entry}
use Rattle.path_trie.specs.declared.node.Node.{Node, out-Node}
use Rattle.path_trie.specs.declared.node.Edge.{Edge, out-Edge}
use Rattle.path_trie.specs.Entries.{is_above, overlaps}
use Rattle.path_trie.specs.Nodes.{own, put_in, has_some, are_well, below_node, below_edge, below_all, comes_before, comes_behind, edge_name}
use Rattle.path_trie.specs.Walks.{counted_from, kept_path}
use Rattle.path_trie.proofs.Lists.{find_first, first_of}
use Rattle.path_trie.proofs.Told.{below_edge_out, below_node_out}
use Rattle.path_trie.proofs.Around.{alike_below, test_around, test_between}
use Rattle.path_trie.proofs.Halves.{back_is, before_other, behind_other, front_is}
use Rattle.path_trie.proofs.Kept.{around, in_order, name_is}

-- ---- tests of a path below a name

pub above_other : {T : Type 0} (name : List ℕ) (more : List (List ℕ)) (n : List ℕ) (x : Entry T) → same_name name n ≡ false → is_above (name ∷ more) (put_in n x) ≡ false
above_other name more n x e = ap (λ b. b && is_prefix x.path more) (same_name-sym n name ∙ e)

pub above_same : {T : Type 0} (name : List ℕ) (more : List (List ℕ)) (x : Entry T) → is_above (name ∷ more) (put_in name x) ≡ is_above more x
above_same name more x = ap (λ b. b && is_prefix x.path more) (same_name-refl name)

over_other : {T : Type 0} (name : List ℕ) (more : List (List ℕ)) (n : List ℕ) (x : Entry T) → same_name name n ≡ false → overlaps (name ∷ more) (put_in n x) ≡ false
over_other name more n x e =
    ap (λ b. (b && is_prefix more x.path) || (same_name n name && is_prefix x.path more)) e ∙ ap (λ b. b && is_prefix x.path more) (same_name-sym n name ∙ e)

over_same : {T : Type 0} (name : List ℕ) (more : List (List ℕ)) (x : Entry T) → overlaps (name ∷ more) (put_in name x) ≡ overlaps more x
over_same name more x = ap (λ b. (b && is_prefix more x.path) || (b && is_prefix x.path more)) (same_name-refl name)

-- ---- a test by its own name, among children

pub test_found : {T : Type 0} (p q : Entry T → Bool) (es : List (Edge T)) (name : List ℕ) (k : ℕ) (e : Edge T)
    → ((n : List ℕ) (x : Entry T) → same_name name n ≡ false → p (put_in n x) ≡ false) → ((x : Entry T) → p (put_in name x) ≡ q x)
    → are_well es ≡ true → k < length es → get_or (map edge_name es) k name ≡ name → e ≡ get_or es k e
    → filter p (below_all es) ≡ map (put_in (edge_name e)) (filter q (below_node (out-Edge T e).node)) ++ []
test_found p q es name k e f g h l found is =
    ap (λ t. filter p (below_all t)) (around es k e l is)
    ∙ test_around (comes_before name) (comes_behind name) p q false false (take k es) (drop (suc k) es) e
    (λ n x a. f n x (before_other name n a)) (λ n x a. f n x (behind_other name n a))
    (λ x. ap (λ n. p (put_in n x)) (name_is es k e name l is found) ∙ g x)
    (front_is name es k (in_order es h) l found) (back_is name es k (in_order es h) l found)

pub test_none : {T : Type 0} (p : Entry T → Bool) (es : List (Edge T)) (name : List ℕ) (k : ℕ)
    → ((n : List ℕ) (x : Entry T) → same_name name n ≡ false → p (put_in n x) ≡ false)
    → list_all (comes_before name) (map edge_name (take k es)) ≡ true → list_all (comes_behind name) (map edge_name (drop k es)) ≡ true
    → filter p (below_all es) ≡ []
test_none p es name k f front back =
    ap (λ t. filter p (below_all t)) (sym (take-append-drop k es))
    ∙ test_between (comes_before name) (comes_behind name) p false false (take k es) (drop k es)
    (λ n x a. f n x (before_other name n a)) (λ n x a. f n x (behind_other name n a)) front back

-- ---- the entry at the fewest names

all_of : (xs : List (List ℕ)) → list_all (λ x. true) xs ≡ true
all_of [] = refl
all_of (x ∷ xs) = all_of xs

pub cover_own : {T : Type 0} (n : Node T) (v : T) (names : List (List ℕ)) (depth : ℕ) → (out-Node T n).value ≡ Some v
    → Some (depth, v) ≡ option_map (counted_from depth) (find (is_above names) (below_node n))
cover_own {T} n v names depth e =
    let none : depth ≡ depth + 0 = omega arith in
    ap (λ (k : ℕ). Some (k, v)) none
    ∙ sym (ap (λ t. option_map (counted_from depth) (find (is_above names) t)) (below_node_out n ∙ ap (λ t. own t ++ below_all (out-Node T n).edges.items) e))

below_none : {T : Type 0} (n : Node T) (es : List (Edge T)) → (out-Node T n).value ≡ None → es ≡ (out-Node T n).edges.items → below_node n ≡ below_all es
below_none {T} n es v e = below_node_out n ∙ ap (λ t. own t ++ below_all (out-Node T n).edges.items) v ∙ ap below_all (sym e)

pub cover_nowhere : {T : Type 0} (n : Node T) (names : List (List ℕ)) (depth : ℕ) → (out-Node T n).value ≡ None → names ≡ []
    → None ≡ option_map (counted_from depth) (find (is_above names) (below_node n))
cover_nowhere {T} n names depth v e =
    sym (ap (λ p. option_map (counted_from depth) (find (is_above p) (below_node n))) e
    ∙ ap (λ t. option_map (counted_from depth) (find (is_above []) t)) (below_none n (out-Node T n).edges.items v refl)
    ∙ ap (option_map (counted_from depth)) (find_first (is_above []) (below_all (out-Node T n).edges.items))
    ∙ ap (λ t. option_map (counted_from depth) (first_of t)) (alike_below (λ n. true) (is_above []) false (λ n x h. refl) (out-Node T n).edges.items (all_of (map edge_name (out-Node T n).edges.items))))

counted_in : {T : Type 0} (n : List ℕ) (depth : ℕ) (xs : List (Entry T))
    → option_map (counted_from (depth + 1)) (first_of xs) ≡ option_map (counted_from depth) (first_of (map (put_in n) xs ++ []))
counted_in n depth [] = refl
counted_in n depth (x ∷ xs) = let e : (depth + 1) + length x.path ≡ depth + length (n ∷ x.path) = omega arith in ap (λ (k : ℕ). Some (k, x.value)) e

pub cover_below : {T : Type 0} (n : Node T) (es : List (Edge T)) (names : List (List ℕ)) (name : List ℕ) (more : List (List ℕ)) (depth k : ℕ) (e : Edge T)
    → (out-Node T n).value ≡ None → es ≡ (out-Node T n).edges.items → names ≡ name ∷ more → are_well es ≡ true → k < length es
    → get_or (map edge_name es) k name ≡ name → e ≡ get_or es k e
    → option_map (counted_from (depth + 1)) (find (is_above more) (below_node (out-Edge T e).node)) ≡ option_map (counted_from depth) (find (is_above names) (below_node n))
cover_below {T} n es names name more depth k e v same split h l found is =
    ap (option_map (counted_from (depth + 1))) (find_first (is_above more) (below_node (out-Edge T e).node))
    ∙ counted_in (edge_name e) depth (filter (is_above more) (below_node (out-Edge T e).node))
    ∙ ap (λ t. option_map (counted_from depth) (first_of t))
    (sym (test_found (is_above (name ∷ more)) (is_above more) es name k e (above_other name more) (above_same name more) h l found is))
    ∙ ap (option_map (counted_from depth)) (sym (find_first (is_above (name ∷ more)) (below_all es)))
    ∙ ap (λ t. option_map (counted_from depth) (find (is_above (name ∷ more)) t)) (sym (below_none n es v same))
    ∙ ap (λ p. option_map (counted_from depth) (find (is_above p) (below_node n))) (sym split)

pub cover_absent : {T : Type 0} (n : Node T) (es : List (Edge T)) (names : List (List ℕ)) (name : List ℕ) (more : List (List ℕ)) (depth k : ℕ)
    → (out-Node T n).value ≡ None → es ≡ (out-Node T n).edges.items → names ≡ name ∷ more
    → list_all (comes_before name) (map edge_name (take k es)) ≡ true → list_all (comes_behind name) (map edge_name (drop k es)) ≡ true
    → None ≡ option_map (counted_from depth) (find (is_above names) (below_node n))
cover_absent {T} n es names name more depth k v same split front back =
    ap (λ t. option_map (counted_from depth) (first_of t)) (sym (test_none (is_above (name ∷ more)) es name k (above_other name more) front back))
    ∙ ap (option_map (counted_from depth)) (sym (find_first (is_above (name ∷ more)) (below_all es)))
    ∙ ap (λ t. option_map (counted_from depth) (find (is_above (name ∷ more)) t)) (sym (below_none n es v same))
    ∙ ap (λ p. option_map (counted_from depth) (find (is_above p) (below_node n))) (sym split)

-- ---- whether an entry overlaps

any_some : {X : Type 0} (p : X → Bool) (xs : List X) → has_some (filter p xs) ≡ list_any p xs
any_some p [] = refl
any_some p (x ∷ xs) = by (p x) (any_some p xs)
  where
    by : (b : Bool) → has_some (filter p xs) ≡ list_any p xs → has_some (cond b (x ∷ filter p xs) (filter p xs)) ≡ (b || list_any p xs)
    by true e = refl
    by false e = e

or_true : (b : Bool) → (b || true) ≡ true
or_true true = refl
or_true false = refl

pub over_own : {T : Type 0} (n : Node T) (v : T) (names : List (List ℕ)) → (out-Node T n).value ≡ Some v → true ≡ list_any (overlaps names) (below_node n)
over_own {T} n v names e =
    sym (ap (list_any (overlaps names)) (below_node_out n ∙ ap (λ t. own t ++ below_all (out-Node T n).edges.items) e)
    ∙ ap (λ b. b || list_any (overlaps names) (below_all (out-Node T n).edges.items)) (or_true (is_prefix names [])))

pub over_root : {T : Type 0} (n : Node T) (names : List (List ℕ)) → names ≡ [] → has_some (below_node n) ≡ list_any (overlaps names) (below_node n)
over_root n names e = by (below_node n) ∙ ap (λ p. list_any (overlaps p) (below_node n)) (sym e)
  where
    by : {T : Type 0} (xs : List (Entry T)) → has_some xs ≡ list_any (overlaps []) xs
    by [] = refl
    by (x ∷ xs) = refl

has_in : {T : Type 0} (n : List ℕ) (xs : List (Entry T)) → has_some xs ≡ has_some (map (put_in n) xs ++ [])
has_in n [] = refl
has_in n (x ∷ xs) = refl

pub over_below : {T : Type 0} (n : Node T) (es : List (Edge T)) (names : List (List ℕ)) (name : List ℕ) (more : List (List ℕ)) (k : ℕ) (e : Edge T)
    → (out-Node T n).value ≡ None → es ≡ (out-Node T n).edges.items → names ≡ name ∷ more → are_well es ≡ true → k < length es
    → get_or (map edge_name es) k name ≡ name → e ≡ get_or es k e
    → list_any (overlaps more) (below_node (out-Edge T e).node) ≡ list_any (overlaps names) (below_node n)
over_below {T} n es names name more k e v same split h l found is =
    sym (any_some (overlaps more) (below_node (out-Edge T e).node)) ∙ has_in (edge_name e) (filter (overlaps more) (below_node (out-Edge T e).node))
    ∙ ap has_some (sym (test_found (overlaps (name ∷ more)) (overlaps more) es name k e (over_other name more) (over_same name more) h l found is))
    ∙ any_some (overlaps (name ∷ more)) (below_all es)
    ∙ ap (list_any (overlaps (name ∷ more))) (sym (below_none n es v same)) ∙ ap (λ p. list_any (overlaps p) (below_node n)) (sym split)

pub over_absent : {T : Type 0} (n : Node T) (es : List (Edge T)) (names : List (List ℕ)) (name : List ℕ) (more : List (List ℕ)) (k : ℕ)
    → (out-Node T n).value ≡ None → es ≡ (out-Node T n).edges.items → names ≡ name ∷ more
    → list_all (comes_before name) (map edge_name (take k es)) ≡ true → list_all (comes_behind name) (map edge_name (drop k es)) ≡ true
    → false ≡ list_any (overlaps names) (below_node n)
over_absent {T} n es names name more k v same split front back =
    ap has_some (sym (test_none (overlaps (name ∷ more)) es name k (over_other name more) front back))
    ∙ any_some (overlaps (name ∷ more)) (below_all es)
    ∙ ap (list_any (overlaps (name ∷ more))) (sym (below_none n es v same)) ∙ ap (λ p. list_any (overlaps p) (below_node n)) (sym split)

pub not_not : (b : Bool) → not (not b) ≡ b
not_not true = refl
not_not false = refl

-- ---- the paths that are kept

pub kept_in : {V : Type 0} (n : List ℕ) (xs : List (Entry (Entry V))) → map kept_path (map (put_in n) xs) ≡ map kept_path xs
kept_in n [] = refl
kept_in n (x ∷ xs) = ap (λ t. kept_path x ∷ t) (kept_in n xs)

-- the entries at and above names, and below them
pub over_split : {T : Type 0} (v : Option T) (name : List ℕ) (more : List (List ℕ)) (xs : List (Entry T)) → filter (overlaps (name ∷ more)) (own v ++ xs) ≡ own v ++ filter (overlaps (name ∷ more)) xs
over_split None name more xs = refl
over_split (Some v) name more xs = refl

pub all_over : {T : Type 0} (names : List (List ℕ)) (xs : List (Entry T)) → names ≡ [] → xs ≡ filter (overlaps names) xs
all_over names xs e = by xs ∙ ap (λ p. filter (overlaps p) xs) (sym e)
  where
    by : {T : Type 0} (xs : List (Entry T)) → xs ≡ filter (overlaps []) xs
    by [] = refl
    by (x ∷ xs) = ap (λ t. x ∷ t) (by xs)

-- the list that was gathered, and what is gathered below one child of the name
pub gathered_below : {V : Type 0} (n : Node (Entry V)) (es : List (Edge (Entry V))) (names : List (List ℕ)) (name : List ℕ) (more : List (List ℕ)) (k : ℕ) (e : Edge (Entry V))
    (old one new : List (List (List ℕ)))
    → es ≡ (out-Node (Entry V) n).edges.items → names ≡ name ∷ more → are_well es ≡ true → k < length es
    → get_or (map edge_name es) k name ≡ name → e ≡ get_or es k e
    → one ≡ old ++ map kept_path (own (out-Node (Entry V) n).value)
    → new ≡ one ++ map kept_path (filter (overlaps more) (below_node (out-Edge (Entry V) e).node))
    → new ≡ old ++ map kept_path (filter (overlaps names) (below_node n))
gathered_below {V} n es names name more k e old one new same split h l found is f g =
    g ∙ ap (λ t. t ++ map kept_path (filter (overlaps more) (below_node (out-Edge (Entry V) e).node))) f
    ∙ append_assoc old (map kept_path (own (out-Node (Entry V) n).value)) (map kept_path (filter (overlaps more) (below_node (out-Edge (Entry V) e).node)))
    ∙ ap (λ t. old ++ (map kept_path (own (out-Node (Entry V) n).value) ++ t))
    (sym (kept_in (edge_name e) (filter (overlaps more) (below_node (out-Edge (Entry V) e).node)))
    ∙ ap (map kept_path) (sym (append-nil (map (put_in (edge_name e)) (filter (overlaps more) (below_node (out-Edge (Entry V) e).node))))
    ∙ sym (test_found (overlaps (name ∷ more)) (overlaps more) es name k e (over_other name more) (over_same name more) h l found is)))
    ∙ gathered_all n es names name more old same split
  where
    gathered_all : {V : Type 0} (n : Node (Entry V)) (es : List (Edge (Entry V))) (names : List (List ℕ)) (name : List ℕ) (more : List (List ℕ)) (old : List (List (List ℕ)))
        → es ≡ (out-Node (Entry V) n).edges.items → names ≡ name ∷ more
        → old ++ (map kept_path (own (out-Node (Entry V) n).value) ++ map kept_path (filter (overlaps (name ∷ more)) (below_all es))) ≡ old ++ map kept_path (filter (overlaps names) (below_node n))
    gathered_all {V} n es names name more old same split =
        ap (λ t. old ++ t)
        (sym (map-append kept_path (own (out-Node (Entry V) n).value) (filter (overlaps (name ∷ more)) (below_all es)))
        ∙ ap (map kept_path) (sym (over_split (out-Node (Entry V) n).value name more (below_all es))
        ∙ ap (λ t. filter (overlaps (name ∷ more)) (own (out-Node (Entry V) n).value ++ below_all t)) same
        ∙ ap (filter (overlaps (name ∷ more))) (sym (below_node_out n))
        ∙ ap (λ p. filter (overlaps p) (below_node n)) (sym split)))

-- one child more in a loop
pub gathered_more : {V : Type 0} (es : List (Edge (Entry V))) (i : ℕ) (e : Edge (Entry V)) (one found new : List (List (List ℕ))) → i < length es → e ≡ get_or es i e
    → found ≡ one ++ map kept_path (below_all (take i es)) → new ≡ found ++ map kept_path (below_node (out-Edge (Entry V) e).node)
    → new ≡ one ++ map kept_path (below_all (take (i + 1) es))
gathered_more {V} es i e one found new h is f g =
    g ∙ ap (λ t. t ++ map kept_path (below_node (out-Edge (Entry V) e).node)) f
    ∙ append_assoc one (map kept_path (below_all (take i es))) (map kept_path (below_node (out-Edge (Entry V) e).node))
    ∙ ap (λ t. one ++ t)
    (ap (λ t. map kept_path (below_all (take i es)) ++ t) (sym (kept_in (edge_name e) (below_node (out-Edge (Entry V) e).node)) ∙ ap (map kept_path) (sym (below_edge_out e)))
    ∙ sym (map-append kept_path (below_all (take i es)) (below_edge e))
    ∙ ap (map kept_path) (sym (ap below_all (take_more es i e h ∙ ap (λ x. take i es ++ (x ∷ [])) (sym is)) ∙ flat_map-append below_edge (take i es) (e ∷ []) ∙ ap (λ t. below_all (take i es) ++ t) (append-nil (below_edge e)))))

-- all children
pub gathered_whole : {V : Type 0} (n : Node (Entry V)) (es : List (Edge (Entry V))) (i : ℕ) (old one new : List (List (List ℕ))) → es ≡ (out-Node (Entry V) n).edges.items → length es ≤ i
    → one ≡ old ++ map kept_path (own (out-Node (Entry V) n).value) → new ≡ one ++ map kept_path (below_all (take i es))
    → new ≡ old ++ map kept_path (below_node n)
gathered_whole {V} n es i old one new same h f g =
    g ∙ ap (λ t. one ++ map kept_path (below_all t)) (take_all i es h ∙ same) ∙ ap (λ t. t ++ map kept_path (below_all (out-Node (Entry V) n).edges.items)) f
    ∙ append_assoc old (map kept_path (own (out-Node (Entry V) n).value)) (map kept_path (below_all (out-Node (Entry V) n).edges.items))
    ∙ ap (λ t. old ++ t) (sym (map-append kept_path (own (out-Node (Entry V) n).value) (below_all (out-Node (Entry V) n).edges.items)) ∙ ap (map kept_path) (sym (below_node_out n)))

-- none below a child of the name
pub gathered_none : {V : Type 0} (n : Node (Entry V)) (es : List (Edge (Entry V))) (names : List (List ℕ)) (name : List ℕ) (more : List (List ℕ)) (k : ℕ) (old new : List (List (List ℕ)))
    → es ≡ (out-Node (Entry V) n).edges.items → names ≡ name ∷ more
    → list_all (comes_before name) (map edge_name (take k es)) ≡ true → list_all (comes_behind name) (map edge_name (drop k es)) ≡ true
    → new ≡ old ++ map kept_path (own (out-Node (Entry V) n).value)
    → new ≡ old ++ map kept_path (filter (overlaps names) (below_node n))
gathered_none {V} n es names name more k old new same split front back f =
    f
    ∙ ap (λ t. old ++ map kept_path t)
    (sym (append-nil (own (out-Node (Entry V) n).value))
    ∙ ap (λ t. own (out-Node (Entry V) n).value ++ t) (sym (test_none (overlaps (name ∷ more)) es name k (over_other name more) front back))
    ∙ sym (over_split (out-Node (Entry V) n).value name more (below_all es))
    ∙ ap (λ t. filter (overlaps (name ∷ more)) (own (out-Node (Entry V) n).value ++ below_all t)) same
    ∙ ap (filter (overlaps (name ∷ more))) (sym (below_node_out n))
    ∙ ap (λ p. filter (overlaps p) (below_node n)) (sym split))

-- what holds where a call succeeds, by what follows from it
pub ok_so : {A E P Q : Type 0} (r : Result A E) → (P → Q) → OnOk r P → OnOk r Q
ok_so (Ok a) f p = f p
ok_so (Err e) f p = tt
