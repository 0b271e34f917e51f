-- The equations of what is told of a node.
use Rattle.std.proofs.Common.{◌≡◌, true, ◌&&◌, List, [], ◌∷◌, ◌++◌, map, length, refl, ◌∙◌, ap, sym}
use Rattle.std.proofs.lemmas.Bool.{eqb-true}
use Rattle.std.specs.Cmp.{first_so}
use Rattle.std.specs.Prelude.{nat_eq}
use Rattle.std.specs.List.{flat_map, list_all}
use Rattle.path_trie.specs.declared.node.Node.{Node, out-Node}
use Rattle.path_trie.specs.declared.node.Edge.{Edge, out-Edge}
use Rattle.path_trie.specs.declared.node.Edge.TheFolds.{fold_out-Node, fold_out-Edge}
use Rattle.path_trie.specs.Nodes.{Told, ToldEdge, own, put_in, has_some, are_in_order, told_entries, told_name, told_well, edge_step, node_step, tell_edge, below_node, is_well, below_edge, is_well_edge, below_all, edge_name, are_well, node_count}

-- a child, from its node
pub below_edge_out : {T : Type 0} (e : Edge T) → below_edge e ≡ map (put_in (edge_name e)) (below_node (out-Edge T e).node)
below_edge_out {T} e = ap (λ (t : ToldEdge T). t.entries) (fold_out-Edge T (ToldEdge T) (Told T) edge_step node_step e)

pub well_edge_out : {T : Type 0} (e : Edge T) → is_well_edge e ≡ (has_some (below_node (out-Edge T e).node) && is_well (out-Edge T e).node)
well_edge_out {T} e = ap (λ (t : ToldEdge T). t.well) (fold_out-Edge T (ToldEdge T) (Told T) edge_step node_step e)

name_out : {T : Type 0} (e : Edge T) → (tell_edge e).name ≡ edge_name e
name_out {T} e = ap (λ (t : ToldEdge T). t.name) (fold_out-Edge T (ToldEdge T) (Told T) edge_step node_step e)

entries_map : {T : Type 0} (es : List (Edge T)) → flat_map told_entries (map tell_edge es) ≡ below_all es
entries_map [] = refl
entries_map (e ∷ es) = ap (λ t. below_edge e ++ t) (entries_map es)

names_map : {T : Type 0} (es : List (Edge T)) → map told_name (map tell_edge es) ≡ map edge_name es
names_map [] = refl
names_map (e ∷ es) = ap (λ n. n ∷ map told_name (map tell_edge es)) (name_out e) ∙ ap (λ t. edge_name e ∷ t) (names_map es)

well_map : {T : Type 0} (es : List (Edge T)) → list_all told_well (map tell_edge es) ≡ list_all is_well_edge es
well_map [] = refl
well_map (e ∷ es) = ap (λ t. is_well_edge e && t) (well_map es)

-- a node, from its children
pub below_node_out : {T : Type 0} (n : Node T) → below_node n ≡ own (out-Node T n).value ++ below_all (out-Node T n).edges.items
below_node_out {T} n =
    ap (λ (t : Told T). t.entries) (fold_out-Node T (ToldEdge T) (Told T) edge_step node_step n)
    ∙ ap (λ t. own (out-Node T n).value ++ t) (entries_map (out-Node T n).edges.items)

pub well_out : {T : Type 0} (n : Node T)
    → is_well n ≡ (nat_eq (node_count n) (length (own (out-Node T n).value ++ below_all (out-Node T n).edges.items)) && are_well (out-Node T n).edges.items)
well_out {T} n =
    ap (λ (t : Told T). t.well) (fold_out-Node T (ToldEdge T) (Told T) edge_step node_step n)
    ∙ ap (λ t. nat_eq (node_count n) (length (own (out-Node T n).value ++ t))
    && (are_in_order (map told_name (map tell_edge (out-Node T n).edges.items)) && list_all told_well (map tell_edge (out-Node T n).edges.items)))
    (entries_map (out-Node T n).edges.items)
    ∙ ap (λ t. nat_eq (node_count n) (length (own (out-Node T n).value ++ below_all (out-Node T n).edges.items))
    && (are_in_order t && list_all told_well (map tell_edge (out-Node T n).edges.items)))
    (names_map (out-Node T n).edges.items)
    ∙ ap (λ t. nat_eq (node_count n) (length (own (out-Node T n).value ++ below_all (out-Node T n).edges.items))
    && (are_in_order (map edge_name (out-Node T n).edges.items) && t))
    (well_map (out-Node T n).edges.items)

-- a node has the number of its entries
pub count_out : {T : Type 0} (n : Node T) → is_well n ≡ true → node_count n ≡ length (below_node n)
count_out {T} n h =
    eqb-true (node_count n) (length (own (out-Node T n).value ++ below_all (out-Node T n).edges.items))
    (first_so (nat_eq (node_count n) (length (own (out-Node T n).value ++ below_all (out-Node T n).edges.items))) (are_well (out-Node T n).edges.items) (sym (well_out n) ∙ h))
    ∙ ap length (sym (below_node_out n))
