-- Values that are changed where they stand.
use Rattle.std.proofs.Common.{◌≡◌, ◌<◌, ◌+◌, ℕ, zero, suc, Bool, true, ◌&&◌, List, [], ◌∷◌, ◌++◌, map, length, take, get_or, set, nat_eq, refl, ◌∙◌, sym, ap}
use Rattle.std.proofs.lemmas.List.{length-map, map-append, take_more, take_more_set}
use Rattle.std.proofs.lemmas.List.Concat.{flat_map-append}
use Rattle.std.proofs.Math.Seq.{map-set_same}
use Rattle.std.specs.Cmp.{first_so, second_so}
use Rattle.std.specs.List.{list_all}
use Rattle.std.specs.declared.option.Option.{Option}
use Rattle.std.specs.declared.option.Option.TheVariants.{Some, None}
use Rattle.mat_path.proofs.SameNames.{same_names-eq}
use Rattle.path_trie.specs.declared.entry.Entry.{Entry}
use Rattle.path_trie.specs.declared.node.Node.{Node, out-Node}
use Rattle.path_trie.specs.declared.node.Edge.{Edge, out-Edge}
use Rattle.path_trie.specs.declared.node.Edge.TheOpen as layer
use Rattle.path_trie.specs.declared.node.Edge.TheViews.{roll-Node, out-roll-Node}
use Rattle.path_trie.specs.Edits.{IsEdited, edited_entry, edited_kept, edited_own}
use Rattle.path_trie.specs.Entries.{ascends, is_less}
use Rattle.path_trie.specs.Nodes.{are_in_order, are_well, below_all, below_edge, below_node, edge_name, is_well, is_well_edge, node_count, own, put_in}
use Rattle.path_trie.specs.Roots.{IsTrie, is_placed, shown, shown_all}
use Rattle.path_trie.proofs.Kept.{list_rolled}
use Rattle.path_trie.proofs.Told.{below_edge_out, below_node_out, well_out}

-- ---- among children

put_edited : {V : Type 0} (change : List (List ℕ) → V → V) (name : List ℕ) (xs : List (Entry (Entry V))) → map (put_in name) (map (edited_kept change) xs) ≡ map (edited_kept change) (map (put_in name) xs)
put_edited change name [] = refl
put_edited change name (x ∷ xs) = ap (λ t. put_in name (edited_kept change x) ∷ t) (put_edited change name xs)

edge_edited : {V : Type 0} (change : List (List ℕ) → V → V) (old new : Edge (Entry V)) → IsEdited change old new → below_edge new ≡ map (edited_kept change) (below_edge old)
edge_edited {V} change old new is =
    below_edge_out new ∙ ap (λ n. map (put_in n) (below_node (out-Edge (Entry V) new).node)) is.name ∙ ap (map (put_in (edge_name old))) is.list
    ∙ put_edited change (edge_name old) (below_node (out-Edge (Entry V) old).node) ∙ ap (map (edited_kept change)) (sym (below_edge_out old))

all_set : {X : Type 0} (p : X → Bool) (xs : List X) (k : ℕ) (y d : X) → p y ≡ p (get_or xs k d) → list_all p (set xs k y) ≡ list_all p xs
all_set p [] k y d e = refl
all_set p (x ∷ xs) zero y d e = ap (λ t. t && list_all p xs) e
all_set p (x ∷ xs) (suc k) y d e = ap (λ t. p x && t) (all_set p xs k y d e)

-- children of whom one's values were changed are as they should be if they were
pub well_edited : {V : Type 0} (change : List (List ℕ) → V → V) (items : List (Edge (Entry V))) (k : ℕ) (old new : Edge (Entry V)) → old ≡ get_or items k old
    → IsEdited change old new → are_well (set items k new) ≡ are_well items
well_edited change items k old new is edited =
    ap (λ t. are_in_order t && list_all is_well_edge (set items k new)) (map-set_same edge_name items k new old (edited.name ∙ ap edge_name is))
    ∙ ap (λ t. are_in_order (map edge_name items) && t) (all_set is_well_edge items k new old (edited.well ∙ ap is_well_edge is))

-- one child more whose values are changed
pub front_edited : {V : Type 0} (change : List (List ℕ) → V → V) (items olds : List (Edge (Entry V))) (k : ℕ) (old new : Edge (Entry V)) → k < length items → k < length olds
    → old ≡ get_or olds k old → IsEdited change old new → below_all (take k items) ≡ map (edited_kept change) (below_all (take k olds))
    → below_all (take (k + 1) (set items k new)) ≡ map (edited_kept change) (below_all (take (k + 1) olds))
front_edited {V} change items olds k old new l m is edited front =
    ap below_all (take_more_set items k new l) ∙ flat_map-append below_edge (take k items) (new ∷ [])
    ∙ ap (λ t. t ++ (below_edge new ++ [])) front ∙ ap (λ t. map (edited_kept change) (below_all (take k olds)) ++ (t ++ [])) (edge_edited change old new edited)
    ∙ ap (λ t. map (edited_kept change) (below_all (take k olds)) ++ t) (sym (map-append (edited_kept change) (below_edge old) []))
    ∙ sym (map-append (edited_kept change) (below_all (take k olds)) (below_edge old ++ []))
    ∙ ap (map (edited_kept change)) (sym (flat_map-append below_edge (take k olds) (old ∷ [])))
    ∙ ap (λ t. map (edited_kept change) (below_all (take k olds ++ (t ∷ [])))) is
    ∙ ap (λ t. map (edited_kept change) (below_all t)) (sym (take_more olds k old m))

-- ---- at a node

own_edited : {V : Type 0} (change : List (List ℕ) → V → V) (v : Option (Entry V)) → own (edited_own change v) ≡ map (edited_kept change) (own v)
own_edited change None = refl
own_edited change (Some kept) = refl

pub node_edited : {V : Type 0} (change : List (List ℕ) → V → V) (n : Node (Entry V)) (r : layer.Node-F (Entry V) (Edge (Entry V)) (Node (Entry V)))
    → r.value ≡ edited_own change (out-Node (Entry V) n).value → below_all r.edges.items ≡ map (edited_kept change) (below_all (out-Node (Entry V) n).edges.items)
    → below_node (roll-Node (Entry V) r) ≡ map (edited_kept change) (below_node n)
node_edited {V} change n r v told =
    list_rolled r ∙ ap (λ t. own t ++ below_all r.edges.items) v ∙ ap (λ t. own (edited_own change (out-Node (Entry V) n).value) ++ t) told
    ∙ ap (λ t. t ++ map (edited_kept change) (below_all (out-Node (Entry V) n).edges.items)) (own_edited change (out-Node (Entry V) n).value)
    ∙ sym (map-append (edited_kept change) (own (out-Node (Entry V) n).value) (below_all (out-Node (Entry V) n).edges.items))
    ∙ ap (map (edited_kept change)) (sym (below_node_out n))

pub node_well : {V : Type 0} (n : Node (Entry V)) (r : layer.Node-F (Entry V) (Edge (Entry V)) (Node (Entry V))) (change : List (List ℕ) → V → V)
    → r.count ≡ node_count n → below_node (roll-Node (Entry V) r) ≡ map (edited_kept change) (below_node n) → are_well r.edges.items ≡ are_well (out-Node (Entry V) n).edges.items
    → is_well (roll-Node (Entry V) r) ≡ is_well n
node_well {V} n r change c told w =
    well_out (roll-Node (Entry V) r)
    ∙ ap (λ (t : layer.Node-F (Entry V) (Edge (Entry V)) (Node (Entry V))). nat_eq t.count (length (own t.value ++ below_all t.edges.items)) && are_well t.edges.items) (out-roll-Node (Entry V) r)
    ∙ ap (λ k. nat_eq k (length (own r.value ++ below_all r.edges.items)) && are_well r.edges.items) c
    ∙ ap (λ k. nat_eq (node_count n) k && are_well r.edges.items)
    (ap length (sym (list_rolled r) ∙ told) ∙ length-map (below_node n) (edited_kept change) ∙ ap length (below_node_out n))
    ∙ ap (λ b. nat_eq (node_count n) (length (own (out-Node (Entry V) n).value ++ below_all (out-Node (Entry V) n).edges.items)) && b) w
    ∙ sym (well_out n)

-- ---- at the root

placed_edited : {V : Type 0} (change : List (List ℕ) → V → V) (xs : List (Entry (Entry V))) → list_all is_placed (map (edited_kept change) xs) ≡ list_all is_placed xs
placed_edited change [] = refl
placed_edited change (x ∷ xs) = ap (λ t. is_placed x && t) (placed_edited change xs)

less_edited : {V : Type 0} (change : List (List ℕ) → V → V) (x : Entry (Entry V)) (xs : List (Entry (Entry V)))
    → list_all (is_less (edited_kept change x)) (map (edited_kept change) xs) ≡ list_all (is_less x) xs
less_edited change x [] = refl
less_edited change x (y ∷ ys) = ap (λ t. is_less x y && t) (less_edited change x ys)

ascends_edited : {V : Type 0} (change : List (List ℕ) → V → V) (xs : List (Entry (Entry V))) → ascends (map (edited_kept change) xs) ≡ ascends xs
ascends_edited change [] = refl
ascends_edited change (x ∷ xs) =
    ap (λ t. t && ascends (map (edited_kept change) xs)) (less_edited change x xs) ∙ ap (λ t. list_all (is_less x) xs && t) (ascends_edited change xs)

pub trie_edited : {V : Type 0} (change : List (List ℕ) → V → V) (old new : Node (Entry V)) → IsTrie old → is_well new ≡ is_well old
    → below_node new ≡ map (edited_kept change) (below_node old) → IsTrie new
trie_edited change old new t w e = record {
  well = w ∙ t.well;
  placed = ap (list_all is_placed) e ∙ placed_edited change (below_node old) ∙ t.placed;
  ascending = ap ascends e ∙ ascends_edited change (below_node old) ∙ t.ascending;
}

shown_edited : {V : Type 0} (change : List (List ℕ) → V → V) (xs : List (Entry (Entry V))) → list_all is_placed xs ≡ true
    → map shown (map (edited_kept change) xs) ≡ map (edited_entry change) (map shown xs)
shown_edited change [] h = refl
shown_edited {V} change (x ∷ xs) h =
    ap (λ (p : List (List ℕ)). record { path = x.path; value = change p x.value.value } ∷ map shown (map (edited_kept change) xs))
    (same_names-eq x.value.path x.path (first_so (is_placed x) (list_all is_placed xs) h))
    ∙ ap (λ t. edited_entry change (shown x) ∷ t) (shown_edited change xs (second_so (is_placed x) (list_all is_placed xs) h))

pub list_edited : {V : Type 0} (change : List (List ℕ) → V → V) (old new : Node (Entry V)) (now : List (Entry V)) → IsTrie old → shown_all old ≡ now
    → below_node new ≡ map (edited_kept change) (below_node old) → shown_all new ≡ map (edited_entry change) now
list_edited change old new now t v e = ap (map shown) e ∙ shown_edited change (below_node old) t.placed ∙ ap (map (edited_entry change)) v
