-- The first entry at or below some names, taken out.
use Rattle.std.proofs.Common.{◌≡◌, ◌<◌, ◌≤◌, ℕ, zero, suc, Bool, true, false, cond, List, [], ◌∷◌, ◌++◌, map, length, take, drop, get_or, set, append-nil, nat_eq, refl, ◌∙◌, sym, ap, arith}
use Rattle.std.proofs.lemmas.List.Concat.{flat_map-append}
use Rattle.std.specs.List.{filter, find, list_all, remove}
use Rattle.std.specs.Option.{option_map}
use Rattle.std.specs.declared.option.Option.{Option}
use Rattle.std.specs.declared.option.Option.TheVariants.{Some, None}
use Rattle.path_trie.specs.declared.entry.Entry.{Entry}
use Rattle.path_trie.specs.declared.node.Node.{Node, out-Node}
use Rattle.path_trie.specs.declared.node.Edge.{Edge, out-Edge}
use Rattle.path_trie.specs.declared.node.Edge.TheOpen as layer
use Rattle.path_trie.specs.declared.node.Edge.TheViews.{roll-Node}
use Rattle.path_trie.specs.Entries.{are_in_turn, ascends, is_less, is_under, value_of, without_first}
use Rattle.path_trie.specs.Nodes.{own, put_in, has_some, are_well, below_node, below_edge, below_all, comes_before, comes_behind, edge_name, is_well}
use Rattle.path_trie.proofs.Lists.{find_first, first_of}
use Rattle.path_trie.proofs.Told.{below_edge_out, below_node_out}
use Rattle.path_trie.proofs.Around.{alike_below}
use Rattle.path_trie.proofs.Below.{below_around}
use Rattle.path_trie.proofs.Halves.{back_is, before_other, behind_other, front_is}
use Rattle.std.specs.Cmp.{first_so, second_so}
use Rattle.std.proofs.lemmas.Bool.{and_from}
use Rattle.path_trie.specs.Roots.{IsTrie, is_placed, shown, shown_all}
use Rattle.path_trie.specs.Walks.{GivesFirst, IsPulled}
use Rattle.path_trie.proofs.Picks.{longest, longest_back, shorter_among}
use Rattle.path_trie.proofs.Kept.{around, child_edge, in_order, list_rolled, name_is}
use Rattle.path_trie.proofs.Changed.{changed, removed}
use Rattle.path_trie.proofs.WalkLemmas.{test_found, test_none}
use Rattle.path_trie.proofs.Seeks.{under_other, under_past, under_same, value_front}

-- ---- lists without the first that passes a test

first_past : {X : Type 0} (p : X → Bool) (xs ys : List X) → filter p xs ≡ [] → without_first p (xs ++ ys) ≡ xs ++ without_first p ys
first_past p [] ys e = refl
first_past p (x ∷ xs) ys e = by (p x) e (first_past p xs ys)
  where
    by : (b : Bool) → cond b (x ∷ filter p xs) (filter p xs) ≡ [] → (filter p xs ≡ [] → without_first p (xs ++ ys) ≡ xs ++ without_first p ys)
        → cond b (xs ++ ys) (x ∷ without_first p (xs ++ ys)) ≡ x ∷ (xs ++ without_first p ys)
    by true e more = cc
    by false e more = ap (λ t. x ∷ t) (more e)

first_none : {X : Type 0} (p : X → Bool) (xs : List X) → filter p xs ≡ [] → without_first p xs ≡ xs
first_none p xs e = ap (without_first p) (sym (append-nil xs)) ∙ first_past p xs [] e ∙ append-nil xs

first_inside : {X Y : Type 0} (f : X → Y) (p : Y → Bool) (q : X → Bool) → ((x : X) → p (f x) ≡ q x) → (xs : List X) (ys : List Y) → filter p ys ≡ []
    → without_first p (map f xs ++ ys) ≡ map f (without_first q xs) ++ ys
first_inside f p q same [] ys e = first_none p ys e
first_inside f p q same (x ∷ xs) ys e =
    ap (λ b. cond b (map f xs ++ ys) (f x ∷ without_first p (map f xs ++ ys))) (same x) ∙ by (q x) (first_inside f p q same xs ys e)
  where
    by : (b : Bool) → without_first p (map f xs ++ ys) ≡ map f (without_first q xs) ++ ys
        → cond b (map f xs ++ ys) (f x ∷ without_first p (map f xs ++ ys)) ≡ map f (cond b xs (x ∷ without_first q xs)) ++ ys
    by true g = refl
    by false g = ap (λ t. f x ∷ t) g

-- ---- among children

pulled_found : {T : Type 0} (es : List (Edge T)) (name : List ℕ) (more : List (List ℕ)) (k : ℕ) (e : Edge T) → are_well es ≡ true → k < length es
    → get_or (map edge_name es) k name ≡ name → e ≡ get_or es k e
    → without_first (is_under (name ∷ more)) (below_all es)
    ≡ below_all (take k es) ++ (map (put_in (edge_name e)) (without_first (is_under more) (below_node (out-Edge T e).node)) ++ below_all (drop (suc k) es))
pulled_found {T} es name more k e h l found is =
    ap (λ t. without_first (is_under (name ∷ more)) (below_all t)) (around es k e l is)
    ∙ ap (without_first (is_under (name ∷ more))) (below_around (take k es) (drop (suc k) es) e)
    ∙ first_past (is_under (name ∷ more)) (below_all (take k es)) _
    (alike_below (comes_before name) (is_under (name ∷ more)) false (λ n x a. under_other name more n x (before_other name n a)) (take k es) (front_is name es k (in_order es h) l found))
    ∙ ap (λ t. below_all (take k es) ++ t)
    (first_inside (put_in (edge_name e)) (is_under (name ∷ more)) (is_under more) (λ x. ap (λ n. is_under (name ∷ more) (put_in n x)) (name_is es k e name l is found) ∙ under_same name more x)
    (below_node (out-Edge T e).node) (below_all (drop (suc k) es))
    (alike_below (comes_behind name) (is_under (name ∷ more)) false (λ n x a. under_other name more n x (behind_other name n a)) (drop (suc k) es) (back_is name es k (in_order es h) l found)))

-- the child at a place with another node
pub pull_changed : {T : Type 0} (es : List (Edge T)) (k : ℕ) (e f : Edge T) (names : List (List ℕ)) (m : Node T) → k < length es → e ≡ get_or es k e → edge_name f ≡ edge_name e
    → (out-Edge T f).node ≡ m → below_node m ≡ without_first (is_under names) (below_node (out-Edge T e).node)
    → below_all (set es k f) ≡ below_all (take k es) ++ (map (put_in (edge_name e)) (without_first (is_under names) (below_node (out-Edge T e).node)) ++ below_all (drop (suc k) es))
pull_changed {T} es k e f names m l is n fm told =
    changed es k e f (edge_name e) l n ∙ ap (λ t. below_all (take k es) ++ (map (put_in (edge_name e)) t ++ below_all (drop (suc k) es))) (ap below_node fm ∙ told)

-- the child at a place taken out, where nothing is left below it
pub pull_removed : {T : Type 0} (es news : List (Edge T)) (k : ℕ) (e f : Edge T) (names : List (List ℕ)) (m : Node T) → k < length es
    → below_node m ≡ without_first (is_under names) (below_node (out-Edge T e).node) → length (below_node m) ≡ 0 → news ≡ remove (set es k f) k
    → below_all news ≡ below_all (take k es) ++ (map (put_in (edge_name e)) (without_first (is_under names) (below_node (out-Edge T e).node)) ++ below_all (drop (suc k) es))
pull_removed {T} es news k e f names m l told none is =
    ap below_all (is ∙ removed es k f l) ∙ flat_map-append below_edge (take k es) (drop (suc k) es)
    ∙ ap (λ t. below_all (take k es) ++ (map (put_in (edge_name e)) t ++ below_all (drop (suc k) es))) (sym (empty (below_node m) none) ∙ told)
  where
    empty : (xs : List (Entry T)) → length xs ≡ 0 → xs ≡ []
    empty [] e = refl
    empty (x ∷ xs) e = absurd (omega (arith, e))

-- the child at a place, whatever is named where there is none
pub same_child : {T : Type 0} (es : List (Edge T)) (k : ℕ) (e f : Edge T) → k < length es → e ≡ get_or es k e → f ≡ get_or es k f → e ≡ f
same_child [] k e f l is other = absurd (omega arith)
same_child (x ∷ es) zero e f l is other = is ∙ sym other
same_child (x ∷ es) (suc k) e f l is other = same_child es k e f (omega arith) is other

child_at : {T : Type 0} (es : List (Edge T)) (k : ℕ) → k < length es → (e : Edge T) × (e ≡ get_or es k e)
child_at [] k l = absurd (omega arith)
child_at (x ∷ es) zero l = (x, refl)
child_at (x ∷ es) (suc k) l = child_at es k (omega arith)

pub one_child : {T : Type 0} (es : List (Edge T)) (k : ℕ) (e f : Edge T) (names : List (List ℕ)) (xs : List (Entry T)) → k < length es → e ≡ get_or es k e → f ≡ get_or es k f
    → xs ≡ without_first (is_under names) (below_node (out-Edge T e).node) → xs ≡ without_first (is_under names) (below_node (out-Edge T f).node)
one_child {T} es k e f names xs l is other h = h ∙ ap (λ t. without_first (is_under names) (below_node (out-Edge T t).node)) (same_child es k e f l is other)

pub one_given : {T : Type 0} (es : List (Edge T)) (k : ℕ) (e f : Edge T) (names : List (List ℕ)) (o : Option T) → k < length es → e ≡ get_or es k e → f ≡ get_or es k f
    → o ≡ option_map value_of (find (is_under names) (below_node (out-Edge T e).node)) → o ≡ option_map value_of (find (is_under names) (below_node (out-Edge T f).node))
one_given {T} es k e f names o l is other h = h ∙ ap (λ t. option_map value_of (find (is_under names) (below_node (out-Edge T t).node))) (same_child es k e f l is other)

-- ---- how deep entries stand

pub longest_edges : {T : Type 0} (n : Node T) → longest (below_all (out-Node T n).edges.items) ≤ longest (below_node n)
longest_edges {T} n =
    let whole = ap longest (below_node_out n) in
    let back = longest_back (own (out-Node T n).value) (below_all (out-Node T n).edges.items) in omega (arith, whole, back)

pub longest_child : {T : Type 0} (es : List (Edge T)) (k : ℕ) (e : Edge T) → are_well es ≡ true → k < length es → e ≡ get_or es k e
    → longest (below_node (out-Edge T e).node) < longest (below_all es)
longest_child {T} es k e h l is = shorter_among es k e l is (first_so (has_some (below_node (out-Edge T e).node)) (is_well (out-Edge T e).node) (child_edge es k e h l is))

-- ---- at a node

pub same_rolled : {T : Type 0} (n : Node T) (r : layer.Node-F T (Edge T) (Node T)) → r.value ≡ (out-Node T n).value → r.edges.items ≡ (out-Node T n).edges.items
    → below_node (roll-Node T r) ≡ below_node n
same_rolled {T} n r v e = list_rolled r ∙ ap (λ t. own t ++ below_all r.edges.items) v ∙ ap (λ t. own (out-Node T n).value ++ below_all t) e ∙ sym (below_node_out n)

first_own : {T : Type 0} (v : Option T) (name : List ℕ) (more : List (List ℕ)) (xs : List (Entry T)) → own v ++ without_first (is_under (name ∷ more)) xs ≡ without_first (is_under (name ∷ more)) (own v ++ xs)
first_own None name more xs = refl
first_own (Some v) name more xs = refl

-- a name that a child has
pub pull_named : {T : Type 0} (n : Node T) (r : layer.Node-F T (Edge T) (Node T)) (names : List (List ℕ)) (name : List ℕ) (more : List (List ℕ)) (k : ℕ)
    → names ≡ name ∷ more → r.value ≡ (out-Node T n).value → are_well (out-Node T n).edges.items ≡ true → k < length (out-Node T n).edges.items
    → get_or (map edge_name (out-Node T n).edges.items) k name ≡ name → IsPulled k more (out-Node T n).edges.items r.edges.items
    → below_node (roll-Node T r) ≡ without_first (is_under names) (below_node n)
pull_named {T} n r names name more k split v h l found pulled =
    let child = child_at (out-Node T n).edges.items k l in
    let e = child.0 in
    let is = child.1 in
    let told = pulled e is in
    list_rolled r ∙ ap (λ t. own t ++ below_all r.edges.items) v
    ∙ ap (λ t. own (out-Node T n).value ++ t) (told ∙ sym (pulled_found (out-Node T n).edges.items name more k e h l found is))
    ∙ first_own (out-Node T n).value name more (below_all (out-Node T n).edges.items)
    ∙ ap (without_first (is_under (name ∷ more))) (sym (below_node_out n)) ∙ ap (λ p. without_first (is_under p) (below_node n)) (sym split)

pub given_named : {T : Type 0} (n : Node T) (names : List (List ℕ)) (name : List ℕ) (more : List (List ℕ)) (k : ℕ) (o : Option T)
    → names ≡ name ∷ more → are_well (out-Node T n).edges.items ≡ true → k < length (out-Node T n).edges.items
    → get_or (map edge_name (out-Node T n).edges.items) k name ≡ name → GivesFirst k more (out-Node T n).edges.items o → o ≡ option_map value_of (find (is_under names) (below_node n))
given_named {T} n names name more k o split h l found gives =
    let child = child_at (out-Node T n).edges.items k l in
    let e = child.0 in
    let is = child.1 in
    gives e is ∙ ap (option_map value_of) (find_first (is_under more) (below_node (out-Edge T e).node))
    ∙ value_front (edge_name e) (filter (is_under more) (below_node (out-Edge T e).node))
    ∙ ap (λ t. option_map value_of (first_of t))
    (sym (test_found (is_under (name ∷ more)) (is_under more) (out-Node T n).edges.items name k e (under_other name more) (under_same name more) h l found is)
    ∙ sym (under_past (out-Node T n).value name more (below_all (out-Node T n).edges.items))
    ∙ ap (filter (is_under (name ∷ more))) (sym (below_node_out n)) ∙ ap (λ p. filter (is_under p) (below_node n)) (sym split))
    ∙ ap (option_map value_of) (sym (find_first (is_under names) (below_node n)))

-- a name that no child has
nothing_under : {T : Type 0} (n : Node T) (names : List (List ℕ)) (name : List ℕ) (more : List (List ℕ)) (k : ℕ) → names ≡ name ∷ more
    → list_all (comes_before name) (map edge_name (take k (out-Node T n).edges.items)) ≡ true → list_all (comes_behind name) (map edge_name (drop k (out-Node T n).edges.items)) ≡ true
    → filter (is_under names) (below_node n) ≡ []
nothing_under {T} n names name more k split front back =
    ap (λ p. filter (is_under p) (below_node n)) split ∙ ap (filter (is_under (name ∷ more))) (below_node_out n)
    ∙ under_past (out-Node T n).value name more (below_all (out-Node T n).edges.items)
    ∙ test_none (is_under (name ∷ more)) (out-Node T n).edges.items name k (under_other name more) front back

pub pull_absent : {T : Type 0} (n : Node T) (names : List (List ℕ)) (name : List ℕ) (more : List (List ℕ)) (k : ℕ) → names ≡ name ∷ more
    → list_all (comes_before name) (map edge_name (take k (out-Node T n).edges.items)) ≡ true → list_all (comes_behind name) (map edge_name (drop k (out-Node T n).edges.items)) ≡ true
    → below_node n ≡ without_first (is_under names) (below_node n)
pull_absent n names name more k split front back = sym (first_none (is_under names) (below_node n) (nothing_under n names name more k split front back))

pub given_absent : {T : Type 0} (n : Node T) (names : List (List ℕ)) (name : List ℕ) (more : List (List ℕ)) (k : ℕ) → names ≡ name ∷ more
    → list_all (comes_before name) (map edge_name (take k (out-Node T n).edges.items)) ≡ true → list_all (comes_behind name) (map edge_name (drop k (out-Node T n).edges.items)) ≡ true
    → None ≡ option_map value_of (find (is_under names) (below_node n))
given_absent n names name more k split front back =
    ap (λ t. option_map value_of (first_of t)) (sym (nothing_under n names name more k split front back)) ∙ ap (option_map value_of) (sym (find_first (is_under names) (below_node n)))

-- ---- all at and below a node

pub some_edges : {T : Type 0} (es ds : List (Edge T)) (b : Bool) → b ≡ nat_eq (length ds) 0 → ds ≡ es → b ≡ false → 0 < length es
some_edges [] ds b e same f = let lost : true ≡ false = sym (ap (λ t. nat_eq (length t) 0) same) ∙ sym e ∙ f in cc
some_edges (x ∷ es) ds b e same f = omega arith

-- what stands at the node itself
pub pull_own : {T : Type 0} (n : Node T) (r : layer.Node-F T (Edge T) (Node T)) (names : List (List ℕ)) (v : T) → names ≡ [] → (out-Node T n).value ≡ Some v → r.value ≡ None
    → r.edges.items ≡ (out-Node T n).edges.items → below_node (roll-Node T r) ≡ without_first (is_under names) (below_node n)
pull_own {T} n r names v split is none same =
    list_rolled r ∙ ap (λ t. own t ++ below_all r.edges.items) none ∙ ap below_all same
    ∙ sym (ap (λ p. without_first (is_under p) (below_node n)) split
    ∙ ap (without_first (is_under [])) (below_node_out n ∙ ap (λ t. own t ++ below_all (out-Node T n).edges.items) is))

pub given_own : {T : Type 0} (n : Node T) (names : List (List ℕ)) (v : T) → names ≡ [] → (out-Node T n).value ≡ Some v → Some v ≡ option_map value_of (find (is_under names) (below_node n))
given_own {T} n names v split is =
    sym (ap (λ p. option_map value_of (find (is_under p) (below_node n))) split
    ∙ ap (λ t. option_map value_of (find (is_under []) t)) (below_node_out n ∙ ap (λ t. own t ++ below_all (out-Node T n).edges.items) is))

-- the first child, where nothing stands at the node
first_child : {T : Type 0} (n : Node T) (e : Edge T) (es : List (Edge T)) → (out-Node T n).value ≡ None → (out-Node T n).edges.items ≡ e ∷ es
    → below_node n ≡ map (put_in (edge_name e)) (below_node (out-Edge T e).node) ++ below_all es
first_child {T} n e es none is =
    below_node_out n ∙ ap (λ t. own t ++ below_all (out-Node T n).edges.items) none ∙ ap below_all is ∙ ap (λ t. t ++ below_all es) (below_edge_out e)

first_left : {T : Type 0} (n : List ℕ) (xs ys : List (Entry T)) → has_some xs ≡ true
    → map (put_in n) (without_first (is_under []) xs) ++ ys ≡ without_first (is_under []) (map (put_in n) xs ++ ys)
first_left n [] ys h = cc
first_left n (x ∷ xs) ys h = refl

first_there : {T : Type 0} (n : List ℕ) (xs ys : List (Entry T)) → has_some xs ≡ true
    → option_map value_of (find (is_under []) xs) ≡ option_map value_of (find (is_under []) (map (put_in n) xs ++ ys))
first_there n [] ys h = cc
first_there n (x ∷ xs) ys h = refl

has_first : {T : Type 0} (e : Edge T) (es : List (Edge T)) → are_well (e ∷ es) ≡ true → has_some (below_node (out-Edge T e).node) ≡ true
has_first {T} e es h = first_so (has_some (below_node (out-Edge T e).node)) (is_well (out-Edge T e).node) (child_edge (e ∷ es) 0 e h (omega arith) refl)

pub pull_first : {T : Type 0} (n : Node T) (r : layer.Node-F T (Edge T) (Node T)) (names : List (List ℕ)) (all : List (Edge T)) → names ≡ [] → (out-Node T n).value ≡ None → r.value ≡ None
    → (out-Node T n).edges.items ≡ all → are_well all ≡ true → 0 < length all → IsPulled 0 names all r.edges.items → below_node (roll-Node T r) ≡ without_first (is_under names) (below_node n)
pull_first n r names [] split none v same h l pulled = absurd (omega arith)
pull_first {T} n r names (e ∷ es) split none v same h l pulled =
    list_rolled r ∙ ap (λ t. own t ++ below_all r.edges.items) v ∙ pulled e refl
    ∙ ap (λ p. map (put_in (edge_name e)) (without_first (is_under p) (below_node (out-Edge T e).node)) ++ below_all es) split
    ∙ first_left (edge_name e) (below_node (out-Edge T e).node) (below_all es) (has_first e es h)
    ∙ ap (without_first (is_under [])) (sym (first_child n e es none same)) ∙ ap (λ p. without_first (is_under p) (below_node n)) (sym split)

pub given_first : {T : Type 0} (n : Node T) (names : List (List ℕ)) (all : List (Edge T)) (o : Option T) → names ≡ [] → (out-Node T n).value ≡ None
    → (out-Node T n).edges.items ≡ all → are_well all ≡ true → 0 < length all → GivesFirst 0 names all o → o ≡ option_map value_of (find (is_under names) (below_node n))
given_first n names [] o split none same h l gives = absurd (omega arith)
given_first {T} n names (e ∷ es) o split none same h l gives =
    gives e refl ∙ ap (λ p. option_map value_of (find (is_under p) (below_node (out-Edge T e).node))) split
    ∙ first_there (edge_name e) (below_node (out-Edge T e).node) (below_all es) (has_first e es h)
    ∙ ap (λ t. option_map value_of (find (is_under []) t)) (sym (first_child n e es none same)) ∙ ap (λ p. option_map value_of (find (is_under p) (below_node n))) (sym split)

-- ---- at the root

all_first : {X : Type 0} (q p : X → Bool) (xs : List X) → list_all q xs ≡ true → list_all q (without_first p xs) ≡ true
all_first q p [] e = refl
all_first q p (x ∷ xs) e = by (p x) (first_so (q x) (list_all q xs) e) (second_so (q x) (list_all q xs) e) (all_first q p xs)
  where
    by : (b : Bool) → q x ≡ true → list_all q xs ≡ true → (list_all q xs ≡ true → list_all q (without_first p xs) ≡ true) → list_all q (cond b xs (x ∷ without_first p xs)) ≡ true
    by true f g more = g
    by false f g more = and_from (q x) (list_all q (without_first p xs)) f (more g)

turn_first : {X : Type 0} (less : X → X → Bool) (p : X → Bool) (xs : List X) → are_in_turn less xs ≡ true → are_in_turn less (without_first p xs) ≡ true
turn_first less p [] e = refl
turn_first less p (x ∷ xs) e = by (p x) (first_so (list_all (less x) xs) (are_in_turn less xs) e) (second_so (list_all (less x) xs) (are_in_turn less xs) e) (turn_first less p xs)
  where
    by : (b : Bool) → list_all (less x) xs ≡ true → are_in_turn less xs ≡ true → (are_in_turn less xs ≡ true → are_in_turn less (without_first p xs) ≡ true)
        → are_in_turn less (cond b xs (x ∷ without_first p xs)) ≡ true
    by true f g more = g
    by false f g more = and_from (list_all (less x) (without_first p xs)) (are_in_turn less (without_first p xs)) (all_first (less x) p xs f) (more g)

map_first : {X Y : Type 0} (f : X → Y) (p : X → Bool) (q : Y → Bool) → ((x : X) → p x ≡ q (f x)) → (xs : List X) → map f (without_first p xs) ≡ without_first q (map f xs)
map_first f p q same [] = refl
map_first f p q same (x ∷ xs) = by (p x) (map_first f p q same xs) ∙ ap (λ b. cond b (map f xs) (f x ∷ without_first q (map f xs))) (same x)
  where
    by : (b : Bool) → map f (without_first p xs) ≡ without_first q (map f xs) → map f (cond b xs (x ∷ without_first p xs)) ≡ cond b (map f xs) (f x ∷ without_first q (map f xs))
    by true e = refl
    by false e = ap (λ t. f x ∷ t) e

pub trie_pulled : {V : Type 0} (old new : Node (Entry V)) (names : List (List ℕ)) → IsTrie old → is_well new ≡ true
    → below_node new ≡ without_first (is_under names) (below_node old) → IsTrie new
trie_pulled old new names t w e = record {
  well = w;
  placed = ap (list_all is_placed) e ∙ all_first is_placed (is_under names) (below_node old) t.placed;
  ascending = ap ascends e ∙ turn_first is_less (is_under names) (below_node old) t.ascending;
}

pub list_pulled : {V : Type 0} (old new : Node (Entry V)) (names path : List (List ℕ)) (now : List (Entry V)) → names ≡ path → shown_all old ≡ now
    → below_node new ≡ without_first (is_under names) (below_node old) → shown_all new ≡ without_first (is_under path) now
list_pulled old new names path now n v e =
    ap (map shown) e ∙ map_first shown (is_under names) (is_under path) (λ x. ap (λ p. is_under p x) n) (below_node old) ∙ ap (without_first (is_under path)) v
