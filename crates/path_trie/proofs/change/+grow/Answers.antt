use Rattle.std.proofs.Common.{◌∙◌, ap, length, refl, sym}
use Rattle.std.specs.List.{insert}
use Rattle.path_trie.specs.declared.node.Edge.TheViews.{roll-Edge}
use Rattle.path_trie.specs.Nodes.{below_node, has_some}
use Rattle.path_trie.proofs.Kept.{grown_node, names_split, well_rolled}
use Rattle.path_trie.proofs.Changed.{count_added, edge_well, put_added, rolled_name, rolled_node, well_added}
use Rattle.path_trie.proofs.change.+grow.Goals as goal

pub add_edge-returns-in-Ok-node_of-clause-list : goal.add_edge-returns-in-Ok-node_of-clause-list
add_edge-returns-in-Ok-node_of-clause-list g t c =
    let edge = roll-Edge _ (record { name = c.in-Ok.name; node = c.in-Ok-node_of.node }) in
    put_added c.args.edges.now.items c.put_reserved.new.list.items c.args.place edge c.args.name.now c.args.more.now c.args.value
    c.requires.before c.requires.behind (rolled_name _ _ ∙ c.in-Ok.ensures.ok) (ap below_node (rolled_node _ _) ∙ c.in-Ok-node_of.ensures.list)
    (c.put_reserved.ensures ∙ ap (λ t. insert t c.args.place edge) c.reserve.ensures.items)

pub add_edge-returns-in-Ok-node_of-clause-well : goal.add_edge-returns-in-Ok-node_of-clause-well
add_edge-returns-in-Ok-node_of-clause-well g t c =
    let edge = roll-Edge _ (record { name = c.in-Ok.name; node = c.in-Ok-node_of.node }) in
    well_added c.args.edges.now.items c.put_reserved.new.list.items c.args.place edge c.args.name.now
    c.requires.before c.requires.behind c.requires.well (rolled_name _ _ ∙ c.in-Ok.ensures.ok)
    (edge_well edge c.in-Ok-node_of.node (rolled_node _ _) (ap has_some c.in-Ok-node_of.ensures.list) c.in-Ok-node_of.ensures.well)
    (c.put_reserved.ensures ∙ ap (λ t. insert t c.args.place edge) c.reserve.ensures.items)

pub add_edge-returns-in-Ok-node_of-clause-more : goal.add_edge-returns-in-Ok-node_of-clause-more
add_edge-returns-in-Ok-node_of-clause-more g t c =
    let edge = roll-Edge _ (record { name = c.in-Ok.name; node = c.in-Ok-node_of.node }) in
    count_added c.args.edges.now.items c.put_reserved.new.list.items c.args.place edge _
    (ap below_node (rolled_node _ _) ∙ c.in-Ok-node_of.ensures.list)
    (c.put_reserved.ensures ∙ ap (λ t. insert t c.args.place edge) c.reserve.ensures.items)

pub node_of-returns-in-Ok-clause-list : goal.node_of-returns-in-Ok-clause-list
node_of-returns-in-Ok-clause-list g t c =
    let names = names_split c.args.names.now c.name-item.result c.in-len1-up.len_at_least c.name-item.is in
    grown_node _ c.new-edges.result.items c.args.names.now c.name-item.result _ c.args.value names refl c.new-edges.ensures.items c.in-Ok.ensures.list

pub node_of-returns-in-Ok-clause-well : goal.node_of-returns-in-Ok-clause-well
node_of-returns-in-Ok-clause-well g t c =
    let names = names_split c.args.names.now c.name-item.result c.in-len1-up.len_at_least c.name-item.is in
    well_rolled _
    (sym (ap length (grown_node _ c.new-edges.result.items c.args.names.now c.name-item.result _ c.args.value names refl c.new-edges.ensures.items c.in-Ok.ensures.list)))
    c.in-Ok.ensures.well
