-- The first entries from some names on, and those at prefixes.
use Rattle.std.proofs.Common.{◌≡◌, ◌<◌, ◌≤◌, ◌-◌, ℕ, zero, suc, Bool, true, false, cond, ◌&&◌, List, [], ◌∷◌, ◌++◌, map, length, take, drop, get_or, append-nil, nat_eq, refl, ◌∙◌, sym, ap, arith}
use Rattle.std.proofs.lemmas.Bool.{and_from, le-leb, leb-false, leb-true, lt-leb}
use Rattle.std.proofs.Math.Dec.{eqb-suc-zero}
use Rattle.std.proofs.lemmas.List.{length-drop, length-map, map-append, take_all, take-append-drop}
use Rattle.std.specs.Cmp.{second_so}
use Rattle.std.specs.List.{filter, find, list_all, slice_get}
use Rattle.std.specs.Option.{option_map}
use Rattle.std.specs.Prelude.{nat_le}
use Rattle.std.specs.declared.option.Option.{Option}
use Rattle.std.specs.declared.option.Option.TheVariants.{Some, None}
use Rattle.mat_path.specs.Names.{is_prefix, same_name}
use Rattle.mat_path.proofs.SameNames.{same_name-refl}
use Rattle.path_trie.specs.declared.entry.Entry.{Entry}
use Rattle.path_trie.specs.declared.node.Node.{Node, out-Node}
use Rattle.path_trie.specs.declared.node.Edge.{Edge, out-Edge}
use Rattle.path_trie.specs.Entries.{is_above, is_high, is_under, value_of}
use Rattle.path_trie.specs.Nodes.{own, put_in, has_some, are_in_order, are_well, below_node, below_edge, below_all, comes_before, comes_behind, edge_name, is_well_edge}
use Rattle.path_trie.proofs.Lists.{all_right, find_first, first_of}
use Rattle.path_trie.proofs.Order.{asc_right}
use Rattle.path_trie.proofs.Told.{below_edge_out, below_node_out}
use Rattle.path_trie.proofs.Around.{alike_below, test_around, test_between}
use Rattle.path_trie.proofs.Halves.{back_is, front_is}
use Rattle.path_trie.proofs.Kept.{around, in_order, name_is}
use Rattle.path_trie.proofs.WalkLemmas.{above_other, above_same, test_found, test_none}

-- ---- the first of a list

pub first_is : {X : Type 0} (xs : List X) → slice_get xs 0 ≡ first_of xs
first_is [] = refl
first_is (x ∷ xs) = refl

front_found : {T : Type 0} (n : List ℕ) (v : T) (xs ys : List (Entry T)) → Some v ≡ option_map value_of (first_of xs) → Some v ≡ option_map value_of (first_of (map (put_in n) xs ++ ys))
front_found n v [] ys e = cc
front_found n v (x ∷ xs) ys e = e

front_none : {T : Type 0} (n : List ℕ) (xs ys : List (Entry T)) → None ≡ option_map value_of (first_of xs) → first_of ys ≡ first_of (map (put_in n) xs ++ ys)
front_none n [] ys e = refl
front_none n (x ∷ xs) ys e = cc

-- ---- some children

well_drop : {T : Type 0} (es : List (Edge T)) (k : ℕ) → are_well es ≡ true → are_well (drop k es) ≡ true
well_drop es k h =
    let split = take-append-drop k es in
    and_from (are_in_order (map edge_name (drop k es))) (list_all is_well_edge (drop k es))
    (asc_right comes_behind (map edge_name (take k es)) (map edge_name (drop k es))
    (ap are_in_order (sym (map-append edge_name (take k es) (drop k es)) ∙ ap (map edge_name) split) ∙ in_order es h))
    (all_right is_well_edge (take k es) (drop k es) (ap (list_all is_well_edge) split ∙ second_so (are_in_order (map edge_name es)) (list_all is_well_edge es) h))

-- those from a place on
pub rest_from : {X : Type 0} (xs ys : List X) (j k : ℕ) → ys ≡ xs → j ≡ k → take (length ys - j) (drop j ys) ≡ drop k xs
rest_from xs ys j k e h =
    let short = length-drop j ys in
    take_all (length ys - j) (drop j ys) (omega (arith, short)) ∙ ap (drop j) e ∙ ap (λ i. drop i xs) h

pub well_from : {T : Type 0} (es ds : List (Edge T)) (j : ℕ) → ds ≡ es → are_well es ≡ true → are_well (take (length ds - j) (drop j ds)) ≡ true
well_from es ds j e h = ap are_well (rest_from es ds j j e refl) ∙ well_drop es j h

pub first_child : {T : Type 0} (es : List (Edge T)) (e : Edge T) → 1 ≤ length es → e ≡ get_or es 0 e → has_some (below_node (out-Edge T e).node) ≡ true
    → option_map value_of (slice_get (below_node (out-Edge T e).node) 0) ≡ option_map value_of (slice_get (below_all es) 0)
first_child [] e h is some = absurd (omega arith)
first_child {T} (f ∷ es) e h is some =
    by (below_node (out-Edge T e).node) some
    ∙ ap (λ t. option_map value_of (slice_get (t ++ below_all es) 0)) (sym (below_edge_out e))
    ∙ ap (λ t. option_map value_of (slice_get (below_edge t ++ below_all es) 0)) is
  where
    by : (xs : List (Entry T)) → has_some xs ≡ true → option_map value_of (slice_get xs 0) ≡ option_map value_of (slice_get (map (put_in (edge_name e)) xs ++ below_all es) 0)
    by [] h = cc
    by (x ∷ xs) h = refl

-- ---- what is behind some names

-- a test of what comes behind some names: all that comes behind them, or only what isn't below them
pub record IsBeyond {T : Type 0} (beyond : List (List ℕ) → Entry T → Bool) : Type 0 where
  pub own : (v : Option T) (name : List ℕ) (more : List (List ℕ)) (xs : List (Entry T)) → filter (beyond (name ∷ more)) (own v ++ xs) ≡ filter (beyond (name ∷ more)) xs
  pub front : (name : List ℕ) (more : List (List ℕ)) (n : List ℕ) (x : Entry T) → comes_before name n ≡ true → beyond (name ∷ more) (put_in n x) ≡ false
  pub back : (name : List ℕ) (more : List (List ℕ)) (n : List ℕ) (x : Entry T) → comes_behind name n ≡ true → beyond (name ∷ more) (put_in n x) ≡ true
  pub same : (name : List ℕ) (more : List (List ℕ)) (x : Entry T) → beyond (name ∷ more) (put_in name x) ≡ beyond more x

-- the entries behind them below a node, by those behind them below its children
behind_below : {T : Type 0} (beyond : List (List ℕ) → Entry T → Bool) (law : IsBeyond beyond) (n : Node T) (es : List (Edge T)) (names : List (List ℕ)) (name : List ℕ) (more : List (List ℕ)) (all : List (Entry T))
    → es ≡ (out-Node T n).edges.items → names ≡ name ∷ more → filter (beyond (name ∷ more)) (below_all es) ≡ all
    → option_map value_of (first_of all) ≡ option_map value_of (find (beyond names) (below_node n))
behind_below {T} beyond law n es names name more all same split e =
    ap (λ t. option_map value_of (first_of t))
    (sym (ap (λ p. filter (beyond p) (below_node n)) split ∙ ap (filter (beyond (name ∷ more))) (below_node_out n)
    ∙ law.own (out-Node T n).value name more (below_all (out-Node T n).edges.items)
    ∙ ap (λ t. filter (beyond (name ∷ more)) (below_all t)) (sym same) ∙ e))
    ∙ ap (option_map value_of) (sym (find_first (beyond names) (below_node n)))

behind_found : {T : Type 0} (beyond : List (List ℕ) → Entry T → Bool) (law : IsBeyond beyond) (es : List (Edge T)) (name : List ℕ) (more : List (List ℕ)) (k : ℕ) (e : Edge T) → are_well es ≡ true → k < length es
    → get_or (map edge_name es) k name ≡ name → e ≡ get_or es k e
    → filter (beyond (name ∷ more)) (below_all es) ≡ map (put_in (edge_name e)) (filter (beyond more) (below_node (out-Edge T e).node)) ++ below_all (drop (suc k) es)
behind_found beyond law es name more k e h l found is =
    ap (λ t. filter (beyond (name ∷ more)) (below_all t)) (around es k e l is)
    ∙ test_around (comes_before name) (comes_behind name) (beyond (name ∷ more)) (beyond more) false true (take k es) (drop (suc k) es) e
    (λ n x a. law.front name more n x a) (λ n x a. law.back name more n x a)
    (λ x. ap (λ n. beyond (name ∷ more) (put_in n x)) (name_is es k e name l is found) ∙ law.same name more x)
    (front_is name es k (in_order es h) l found) (back_is name es k (in_order es h) l found)

pub behind_some : {T : Type 0} (beyond : List (List ℕ) → Entry T → Bool) (law : IsBeyond beyond) (n : Node T) (es : List (Edge T)) (names : List (List ℕ)) (name : List ℕ) (more : List (List ℕ)) (k : ℕ) (e : Edge T) (v : T)
    → es ≡ (out-Node T n).edges.items → names ≡ name ∷ more → are_well es ≡ true → k < length es → get_or (map edge_name es) k name ≡ name → e ≡ get_or es k e
    → Some v ≡ option_map value_of (find (beyond more) (below_node (out-Edge T e).node)) → Some v ≡ option_map value_of (find (beyond names) (below_node n))
behind_some {T} beyond law n es names name more k e v same split h l found is f =
    front_found (edge_name e) v (filter (beyond more) (below_node (out-Edge T e).node)) (below_all (drop (suc k) es))
    (f ∙ ap (option_map value_of) (find_first (beyond more) (below_node (out-Edge T e).node)))
    ∙ behind_below beyond law n es names name more _ same split (behind_found beyond law es name more k e h l found is)

pub behind_next : {T : Type 0} (beyond : List (List ℕ) → Entry T → Bool) (law : IsBeyond beyond) (n : Node T) (es : List (Edge T)) (names : List (List ℕ)) (name : List ℕ) (more : List (List ℕ)) (k : ℕ) (e : Edge T) (rest : List (Edge T))
    → es ≡ (out-Node T n).edges.items → names ≡ name ∷ more → are_well es ≡ true → k < length es → get_or (map edge_name es) k name ≡ name → e ≡ get_or es k e
    → None ≡ option_map value_of (find (beyond more) (below_node (out-Edge T e).node)) → rest ≡ drop (suc k) es
    → option_map value_of (slice_get (below_all rest) 0) ≡ option_map value_of (find (beyond names) (below_node n))
behind_next {T} beyond law n es names name more k e rest same split h l found is f r =
    ap (λ t. option_map value_of (slice_get (below_all t) 0)) r
    ∙ ap (option_map value_of) (first_is (below_all (drop (suc k) es))
    ∙ front_none (edge_name e) (filter (beyond more) (below_node (out-Edge T e).node)) (below_all (drop (suc k) es))
    (f ∙ ap (option_map value_of) (find_first (beyond more) (below_node (out-Edge T e).node))))
    ∙ behind_below beyond law n es names name more _ same split (behind_found beyond law es name more k e h l found is)

pub behind_gap : {T : Type 0} (beyond : List (List ℕ) → Entry T → Bool) (law : IsBeyond beyond) (n : Node T) (es : List (Edge T)) (names : List (List ℕ)) (name : List ℕ) (more : List (List ℕ)) (k : ℕ) (rest : List (Edge T))
    → es ≡ (out-Node T n).edges.items → names ≡ name ∷ more
    → list_all (comes_before name) (map edge_name (take k es)) ≡ true → list_all (comes_behind name) (map edge_name (drop k es)) ≡ true → rest ≡ drop k es
    → option_map value_of (slice_get (below_all rest) 0) ≡ option_map value_of (find (beyond names) (below_node n))
behind_gap beyond law n es names name more k rest same split front back r =
    ap (λ t. option_map value_of (slice_get (below_all t) 0)) r
    ∙ ap (option_map value_of) (first_is (below_all (drop k es)))
    ∙ behind_below beyond law n es names name more _ same split
    (ap (λ t. filter (beyond (name ∷ more)) (below_all t)) (sym (take-append-drop k es))
    ∙ test_between (comes_before name) (comes_behind name) (beyond (name ∷ more)) false true (take k es) (drop k es)
    (λ n x a. law.front name more n x a) (λ n x a. law.back name more n x a) front back)

-- ---- at prefixes of at least so many names

nat_le_less : (a b : ℕ) → nat_le a (suc b) ≡ nat_le (a - 1) b
nat_le_less a b = by (nat_le (a - 1) b) refl
  where
    by : (c : Bool) → nat_le (a - 1) b ≡ c → nat_le a (suc b) ≡ c
    by true e = let h = leb-true (a - 1) b e in le-leb a (suc b) (omega (arith, h))
    by false e = let h = leb-false (a - 1) b e in lt-leb a (suc b) (omega (arith, h))

high_other : {T : Type 0} (name : List ℕ) (more : List (List ℕ)) (least : ℕ) (n : List ℕ) (x : Entry T) → same_name name n ≡ false → is_high (name ∷ more) least (put_in n x) ≡ false
high_other name more least n x e = ap (λ b. b && nat_le least (length (n ∷ x.path))) (above_other name more n x e)

high_same : {T : Type 0} (name : List ℕ) (more : List (List ℕ)) (least : ℕ) (x : Entry T) → is_high (name ∷ more) least (put_in name x) ≡ is_high more (least - 1) x
high_same name more least x =
    ap (λ b. b && nat_le least (length (name ∷ x.path))) (above_same name more x) ∙ ap (λ b. is_above more x && b) (nat_le_less least (length x.path))

-- what stands at a node isn't among them where it wasn't found
high_past : {T : Type 0} (v : Option T) (names : List (List ℕ)) (least : ℕ) (xs : List (Entry T)) → None ≡ cond (nat_eq least 0) v None
    → filter (is_high names least) (own v ++ xs) ≡ filter (is_high names least) xs
high_past None names least xs e = refl
high_past (Some v) names zero xs e = cc
high_past (Some v) names (suc k) xs e = ap (λ b. cond b (record { path = []; value = v } ∷ filter (is_high names (suc k)) xs) (filter (is_high names (suc k)) xs)) (lt-leb (suc k) 0 (omega arith))

pub high_here : {T : Type 0} (n : Node T) (v : T) (names : List (List ℕ)) (least : ℕ) → Some v ≡ cond (nat_eq least 0) (out-Node T n).value None
    → Some v ≡ option_map value_of (find (is_high names least) (below_node n))
high_here {T} n v names least e = by (out-Node T n).value least e ∙ ap (λ t. option_map value_of (find (is_high names least) t)) (sym (below_node_out n))
  where
    by : (w : Option T) (least : ℕ) → Some v ≡ cond (nat_eq least 0) w None → Some v ≡ option_map value_of (find (is_high names least) (own w ++ below_all (out-Node T n).edges.items))
    by None zero e = cc
    by None (suc k) e = let none : Some v ≡ None = e ∙ ap (λ b. cond b None None) (eqb-suc-zero k) in cc
    by (Some w) zero e = e
    by (Some w) (suc k) e = let none : Some v ≡ None = e ∙ ap (λ b. cond b (Some w) None) (eqb-suc-zero k) in cc

high_below : {T : Type 0} (n : Node T) (es : List (Edge T)) (names : List (List ℕ)) (name : List ℕ) (more : List (List ℕ)) (least : ℕ) (all : List (Entry T))
    → es ≡ (out-Node T n).edges.items → names ≡ name ∷ more → None ≡ cond (nat_eq least 0) (out-Node T n).value None → filter (is_high (name ∷ more) least) (below_all es) ≡ all
    → option_map value_of (first_of all) ≡ option_map value_of (find (is_high names least) (below_node n))
high_below {T} n es names name more least all same split none e =
    ap (λ t. option_map value_of (first_of t))
    (sym (ap (λ p. filter (is_high p least) (below_node n)) split ∙ ap (filter (is_high (name ∷ more) least)) (below_node_out n)
    ∙ high_past (out-Node T n).value (name ∷ more) least (below_all (out-Node T n).edges.items) none
    ∙ ap (λ t. filter (is_high (name ∷ more) least) (below_all t)) (sym same) ∙ e))
    ∙ ap (option_map value_of) (sym (find_first (is_high names least) (below_node n)))

pub value_front : {T : Type 0} (n : List ℕ) (xs : List (Entry T)) → option_map value_of (first_of xs) ≡ option_map value_of (first_of (map (put_in n) xs ++ []))
value_front n [] = refl
value_front n (x ∷ xs) = refl

pub high_found : {T : Type 0} (n : Node T) (es : List (Edge T)) (names : List (List ℕ)) (name : List ℕ) (more : List (List ℕ)) (least less k : ℕ) (e : Edge T)
    → es ≡ (out-Node T n).edges.items → names ≡ name ∷ more → None ≡ cond (nat_eq least 0) (out-Node T n).value None → less ≡ least - 1
    → are_well es ≡ true → k < length es → get_or (map edge_name es) k name ≡ name → e ≡ get_or es k e
    → option_map value_of (find (is_high more less) (below_node (out-Edge T e).node)) ≡ option_map value_of (find (is_high names least) (below_node n))
high_found {T} n es names name more least less k e same split none one h l found is =
    ap (λ i. option_map value_of (find (is_high more i) (below_node (out-Edge T e).node))) one
    ∙ ap (option_map value_of) (find_first (is_high more (least - 1)) (below_node (out-Edge T e).node))
    ∙ value_front (edge_name e) (filter (is_high more (least - 1)) (below_node (out-Edge T e).node))
    ∙ high_below n es names name more least _ same split none
    (test_found (is_high (name ∷ more) least) (is_high more (least - 1)) es name k e (high_other name more least) (high_same name more least) h l found is)

pub high_absent : {T : Type 0} (n : Node T) (es : List (Edge T)) (names : List (List ℕ)) (name : List ℕ) (more : List (List ℕ)) (least k : ℕ)
    → es ≡ (out-Node T n).edges.items → names ≡ name ∷ more → None ≡ cond (nat_eq least 0) (out-Node T n).value None
    → list_all (comes_before name) (map edge_name (take k es)) ≡ true → list_all (comes_behind name) (map edge_name (drop k es)) ≡ true
    → None ≡ option_map value_of (find (is_high names least) (below_node n))
high_absent n es names name more least k same split none front back =
    high_below n es names name more least [] same split none (test_none (is_high (name ∷ more) least) es name k (high_other name more least) front back)

all_of : (xs : List (List ℕ)) → list_all (λ x. true) xs ≡ true
all_of [] = refl
all_of (x ∷ xs) = all_of xs

pub high_nowhere : {T : Type 0} (n : Node T) (names : List (List ℕ)) (least : ℕ) → names ≡ [] → None ≡ cond (nat_eq least 0) (out-Node T n).value None
    → None ≡ option_map value_of (find (is_high names least) (below_node n))
high_nowhere {T} n names least split none =
    ap (option_map value_of)
    (sym (ap (λ p. find (is_high p least) (below_node n)) split ∙ find_first (is_high [] least) (below_node n)
    ∙ ap (λ t. first_of (filter (is_high [] least) t)) (below_node_out n)
    ∙ ap first_of (high_past (out-Node T n).value [] least (below_all (out-Node T n).edges.items) none
    ∙ alike_below (λ n. true) (is_high [] least) false (λ n x h. refl) (out-Node T n).edges.items (all_of (map edge_name (out-Node T n).edges.items)))))

-- ---- at and below some names

pub under_other : {T : Type 0} (name : List ℕ) (more : List (List ℕ)) (n : List ℕ) (x : Entry T) → same_name name n ≡ false → is_under (name ∷ more) (put_in n x) ≡ false
under_other name more n x e = ap (λ b. b && is_prefix more x.path) e

pub under_same : {T : Type 0} (name : List ℕ) (more : List (List ℕ)) (x : Entry T) → is_under (name ∷ more) (put_in name x) ≡ is_under more x
under_same name more x = ap (λ b. b && is_prefix more x.path) (same_name-refl name)

pub under_past : {T : Type 0} (v : Option T) (name : List ℕ) (more : List (List ℕ)) (xs : List (Entry T)) → filter (is_under (name ∷ more)) (own v ++ xs) ≡ filter (is_under (name ∷ more)) xs
under_past None name more xs = refl
under_past (Some v) name more xs = refl

under_below : {T : Type 0} (n : Node T) (es : List (Edge T)) (names : List (List ℕ)) (name : List ℕ) (more : List (List ℕ)) (all : List (Entry T))
    → es ≡ (out-Node T n).edges.items → names ≡ name ∷ more → filter (is_under (name ∷ more)) (below_all es) ≡ all
    → length all ≡ length (filter (is_under names) (below_node n))
under_below {T} n es names name more all same split e =
    ap length
    (sym (ap (λ p. filter (is_under p) (below_node n)) split ∙ ap (filter (is_under (name ∷ more))) (below_node_out n)
    ∙ under_past (out-Node T n).value name more (below_all (out-Node T n).edges.items)
    ∙ ap (λ t. filter (is_under (name ∷ more)) (below_all t)) (sym same) ∙ e))

pub under_found : {T : Type 0} (n : Node T) (es : List (Edge T)) (names : List (List ℕ)) (name : List ℕ) (more : List (List ℕ)) (k : ℕ) (e : Edge T)
    → es ≡ (out-Node T n).edges.items → names ≡ name ∷ more → are_well es ≡ true → k < length es → get_or (map edge_name es) k name ≡ name → e ≡ get_or es k e
    → length (filter (is_under more) (below_node (out-Edge T e).node)) ≡ length (filter (is_under names) (below_node n))
under_found {T} n es names name more k e same split h l found is =
    sym (length-map (filter (is_under more) (below_node (out-Edge T e).node)) (put_in (edge_name e)))
    ∙ ap length (sym (append-nil (map (put_in (edge_name e)) (filter (is_under more) (below_node (out-Edge T e).node)))))
    ∙ under_below n es names name more _ same split
    (test_found (is_under (name ∷ more)) (is_under more) es name k e (under_other name more) (under_same name more) h l found is)

pub under_absent : {T : Type 0} (n : Node T) (es : List (Edge T)) (names : List (List ℕ)) (name : List ℕ) (more : List (List ℕ)) (k : ℕ)
    → es ≡ (out-Node T n).edges.items → names ≡ name ∷ more
    → list_all (comes_before name) (map edge_name (take k es)) ≡ true → list_all (comes_behind name) (map edge_name (drop k es)) ≡ true
    → 0 ≡ length (filter (is_under names) (below_node n))
under_absent n es names name more k same split front back =
    under_below n es names name more [] same split (test_none (is_under (name ∷ more)) es name k (under_other name more) front back)

pub under_all : {T : Type 0} (xs : List (Entry T)) (names : List (List ℕ)) → names ≡ [] → length xs ≡ length (filter (is_under names) xs)
under_all xs names e = by xs ∙ ap (λ p. length (filter (is_under p) xs)) (sym e)
  where
    by : {T : Type 0} (xs : List (Entry T)) → length xs ≡ length (filter (is_under []) xs)
    by [] = refl
    by (x ∷ xs) = let f = by xs in omega (arith, f)
