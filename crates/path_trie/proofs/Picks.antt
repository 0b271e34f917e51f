-- Entries by their place.
use Rattle.std.proofs.Common.{◌≡◌, ◌<◌, ◌≤◌, ◌+◌, ◌-◌, ℕ, zero, suc, true, List, [], ◌∷◌, ◌++◌, map, length, take, drop, get_or, append-nil, refl, ◌∙◌, sym, ap, arith}
use Rattle.std.proofs.lemmas.List.{length-append, length-map, take_all, take_more}
use Rattle.std.proofs.lemmas.List.Concat.{flat_map-append}
use Rattle.std.proofs.lemmas.Option.{slice_get_past}
use Rattle.std.specs.List.{slice_get}
use Rattle.std.specs.Prelude.{max}
use Rattle.std.specs.Option.{option_map}
use Rattle.std.specs.declared.option.Option.{Option}
use Rattle.std.specs.declared.option.Option.TheVariants.{Some, None}
use Rattle.path_trie.specs.declared.entry.Entry.{Entry}
use Rattle.path_trie.specs.declared.node.Node.{Node, out-Node}
use Rattle.path_trie.specs.declared.node.Edge.{Edge, out-Edge}
use Rattle.path_trie.specs.Entries.{value_of}
use Rattle.path_trie.specs.Nodes.{has_some, own, put_in, below_node, below_edge, below_all, edge_name}
use Rattle.path_trie.specs.Walks.{IsAmong}
use Rattle.path_trie.proofs.Told.{below_edge_out, below_node_out}
use Rattle.path_trie.proofs.Below.{below_around}
use Rattle.path_trie.proofs.Kept.{around}

-- ---- places in lists that are joined

get_behind : {X : Type 0} (xs ys : List X) (k : ℕ) → slice_get (xs ++ ys) (length xs + k) ≡ slice_get ys k
get_behind [] ys k = let z : 0 + k ≡ k = omega arith in ap (slice_get ys) z
get_behind (x ∷ xs) ys k =
    let e : length (x ∷ xs) + k ≡ suc (length xs + k) = omega arith in ap (slice_get (x ∷ (xs ++ ys))) e ∙ get_behind xs ys k

get_within : {X Y : Type 0} (f : X → Y) (xs : List X) (ys : List Y) (k : ℕ) → k < length xs → slice_get (map f xs ++ ys) k ≡ option_map f (slice_get xs k)
get_within f [] ys k h = absurd (omega arith)
get_within f (x ∷ xs) ys zero h = refl
get_within f (x ∷ xs) ys (suc k) h = get_within f xs ys k (omega arith)

value_in : {T : Type 0} (n : List ℕ) (o : Option (Entry T)) → option_map value_of (option_map (put_in n) o) ≡ option_map value_of o
value_in n None = refl
value_in n (Some x) = refl

-- ---- among children

-- the entries of one child more
pub one_more : {T : Type 0} (es : List (Edge T)) (i : ℕ) (e : Edge T) → i < length es → e ≡ get_or es i e
    → length (below_all (take (i + 1) es)) ≡ length (below_all (take i es)) + length (below_node (out-Edge T e).node)
one_more {T} es i e h is =
    let all = ap (λ t. length (below_all t)) (take_more es i e h ∙ ap (λ x. take i es ++ (x ∷ [])) (sym is)) in
    let cut = ap length (flat_map-append below_edge (take i es) (e ∷ [])) in
    let parts = length-append (below_all (take i es)) (below_edge e ++ []) in
    let last = ap length (append-nil (below_edge e) ∙ below_edge_out e) in
    let same = length-map (below_node (out-Edge T e).node) (put_in (edge_name e)) in
    omega (arith, all, cut, parts, last, same)

pub all_passed : {T : Type 0} (es : List (Edge T)) (i k left : ℕ) → length es ≤ i → k ≡ length (below_all (take i es)) + left → length (below_all es) ≤ k
all_passed es i k left h e = let all = ap (λ t. length (below_all t)) (take_all i es h) in omega (arith, all, e)

pub picked_among : {T : Type 0} (es : List (Edge T)) (k place left : ℕ) (e : Edge T) → IsAmong es k place left → e ≡ get_or es place e
    → option_map value_of (slice_get (below_node (out-Edge T e).node) left) ≡ option_map value_of (slice_get (below_all es) k)
picked_among {T} es k place left e h is =
    sym (value_in (edge_name e) (slice_get (below_node (out-Edge T e).node) left))
    ∙ ap (option_map value_of)
    (sym (ap (λ t. slice_get (below_all t) k) (around es place e h.within is)
    ∙ ap (λ t. slice_get t k) (below_around (take place es) (drop (suc place) es) e)
    ∙ ap (slice_get (below_all (take place es) ++ (map (put_in (edge_name e)) (below_node (out-Edge T e).node) ++ below_all (drop (suc place) es)))) h.behind
    ∙ get_behind (below_all (take place es)) (map (put_in (edge_name e)) (below_node (out-Edge T e).node) ++ below_all (drop (suc place) es)) left
    ∙ get_within (put_in (edge_name e)) (below_node (out-Edge T e).node) (below_all (drop (suc place) es)) left (h.below e is)))

pub picked_none : {T : Type 0} (es : List (Edge T)) (k : ℕ) → length (below_all es) ≤ k → None ≡ option_map value_of (slice_get (below_all es) k)
picked_none es k h = sym (ap (option_map value_of) (slice_get_past (below_all es) k h))

-- ---- at a node

pub picked_own : {T : Type 0} (n : Node T) (v : Option T) (k : ℕ) → v ≡ (out-Node T n).value → k < length (own v) → v ≡ option_map value_of (slice_get (below_node n) k)
picked_own {T} n v k e h =
    by v k h
    ∙ sym (ap (λ t. option_map value_of (slice_get t k)) (below_node_out n ∙ ap (λ t. own t ++ below_all (out-Node T n).edges.items) (sym e)))
  where
    by : (v : Option T) (k : ℕ) → k < length (own v) → v ≡ option_map value_of (slice_get (own v ++ below_all (out-Node T n).edges.items) k)
    by None k h = absurd (omega arith)
    by (Some v) zero h = refl
    by (Some v) (suc k) h = absurd (omega arith)

pub picked_below : {T : Type 0} (n : Node T) (es : List (Edge T)) (k own_count : ℕ) → es ≡ (out-Node T n).edges.items → own_count ≡ length (own (out-Node T n).value)
    → own_count ≤ k → option_map value_of (slice_get (below_all es) (k - own_count)) ≡ option_map value_of (slice_get (below_node n) k)
picked_below {T} n es k own_count e count h =
    let place : k ≡ length (own (out-Node T n).value) + (k - own_count) = omega (arith, count) in
    ap (λ t. option_map value_of (slice_get (below_all t) (k - own_count))) e
    ∙ ap (option_map value_of)
    (sym (ap (λ t. slice_get t k) (below_node_out n)
    ∙ ap (slice_get (own (out-Node T n).value ++ below_all (out-Node T n).edges.items)) place
    ∙ get_behind (own (out-Node T n).value) (below_all (out-Node T n).edges.items) (k - own_count)))

-- ---- how deep entries stand

-- the number of names of the deepest of some entries
abbrev pub longest : {T : Type 0} → List (Entry T) → ℕ
longest [] = 0
longest (x ∷ xs) = max (length x.path) (longest xs)

pub longest_back : {T : Type 0} (xs ys : List (Entry T)) → longest ys ≤ longest (xs ++ ys)
longest_back [] ys = omega arith
longest_back (x ∷ xs) ys = let h = longest_back xs ys in omega (arith, h)

longest_front : {T : Type 0} (xs ys : List (Entry T)) → longest xs ≤ longest (xs ++ ys)
longest_front [] ys = omega arith
longest_front (x ∷ xs) ys = let h = longest_front xs ys in omega (arith, h)

longest_in : {T : Type 0} (n : List ℕ) (x : Entry T) (xs : List (Entry T)) → longest (x ∷ xs) < longest (map (put_in n) (x ∷ xs))
longest_in n x [] = omega arith
longest_in n x (y ∷ ys) = let h = longest_in n y ys in omega (arith, h)

-- below a child entries have fewer names than below its node
pub shorter_among : {T : Type 0} (es : List (Edge T)) (k : ℕ) (e : Edge T) → k < length es → e ≡ get_or es k e
    → has_some (below_node (out-Edge T e).node) ≡ true → longest (below_node (out-Edge T e).node) < longest (below_all es)
shorter_among {T} es k e l is some =
    let all = ap longest (ap below_all (around es k e l is) ∙ below_around (take k es) (drop (suc k) es) e) in
    let behind = longest_back (below_all (take k es)) (map (put_in (edge_name e)) (below_node (out-Edge T e).node) ++ below_all (drop (suc k) es)) in
    let first = longest_front (map (put_in (edge_name e)) (below_node (out-Edge T e).node)) (below_all (drop (suc k) es)) in
    let deeper = by (below_node (out-Edge T e).node) some in
    omega (arith, all, behind, first, deeper)
  where
    by : (xs : List (Entry T)) → has_some xs ≡ true → longest xs < longest (map (put_in (edge_name e)) xs)
    by [] h = cc
    by (x ∷ xs) h = longest_in (edge_name e) x xs

pub child_shorter : {T : Type 0} (n : Node T) (es : List (Edge T)) (k : ℕ) (e : Edge T) → es ≡ (out-Node T n).edges.items → k < length es → e ≡ get_or es k e
    → has_some (below_node (out-Edge T e).node) ≡ true → longest (below_node (out-Edge T e).node) < longest (below_node n)
child_shorter {T} n es k e same l is some =
    let whole = ap longest (below_node_out n ∙ ap (λ t. own (out-Node T n).value ++ below_all t) (sym same)) in
    let back = longest_back (own (out-Node T n).value) (below_all es) in
    let shorter = shorter_among es k e l is some in
    omega (arith, whole, back, shorter)
