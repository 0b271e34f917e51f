use Rattle.std.proofs.Common.{◌+◌, refl, ap, sym, ◌∙◌, arith}
use Rattle.std.proofs.lemmas.List.{nil_from_length}
use Rattle.std.specs.Cmp.{first_so}
use Rattle.std.specs.Option.{option_map}
use Rattle.path_trie.specs.declared.node.Edge.TheViews.{roll-Edge}
use Rattle.path_trie.specs.Entries.{value_at, value_of}
use Rattle.path_trie.specs.Nodes.{below_node, edge_name}
use Rattle.path_trie.proofs.Kept.{child_edge, child_well, edges_counted, err_before, err_behind, names_split, ok_found, ok_within, value_edges, value_found, value_none, value_own, well_counted, well_edges}
use Rattle.path_trie.proofs.Changed.{count_changed, edge_well, rolled_name, rolled_node, well_changed}
use Rattle.path_trie.proofs.Swaps.{has_as_many, swap_absent, swap_changed, swap_edges, swap_here, without_zero}
use Rattle.path_trie.proofs.swap.+swap.Goals as goal

pub swap_among-swap_at-requires : goal.swap_among-swap_at-requires
swap_among-swap_at-requires g t c κs within =
    let inside = ok_within c.args.edges.now.items c.deref.result.now c.in-Ok.place c.deref.ensures.value c.in-Ok.ensures.within in
    (omega arith, (within, child_well c.args.edges.now.items c.in-Ok.place c.index_mut.result.now c.requires inside c.index_mut.ensures.value))

pub swap_among-returns-in-Ok-clause-list : goal.swap_among-returns-in-Ok-clause-list
swap_among-returns-in-Ok-clause-list g t c =
    let same = c.deref.ensures.value in
    swap_changed c.args.edges.now.items c.in-Ok.place c.index_mut.result.now
    (roll-Edge _ (record { name = edge_name c.index_mut.result.now; node = c.swap_at.new.node })) c.args.name.now c.args.more.now c.args.value c.swap_at.new.node c.requires
    (ok_within c.args.edges.now.items c.deref.result.now c.in-Ok.place same c.in-Ok.ensures.within)
    (ok_found c.args.edges.now.items c.deref.result.now c.in-Ok.place c.args.name.now same c.in-Ok.ensures.found)
    c.index_mut.ensures.value (rolled_name _ _) (rolled_node _ _) c.swap_at.ensures.list

pub swap_among-returns-in-Ok-clause-well : goal.swap_among-returns-in-Ok-clause-well
swap_among-returns-in-Ok-clause-well g t c =
    let edge = roll-Edge _ (record { name = edge_name c.index_mut.result.now; node = c.swap_at.new.node }) in
    let within = ok_within c.args.edges.now.items c.deref.result.now c.in-Ok.place c.deref.ensures.value c.in-Ok.ensures.within in
    well_changed c.args.edges.now.items c.in-Ok.place c.index_mut.result.now edge c.requires within
    c.index_mut.ensures.value (rolled_name _ _)
    (edge_well edge c.swap_at.new.node (rolled_node _ _)
    (has_as_many _ _ c.swap_at.ensures.same (first_so _ _ (child_edge c.args.edges.now.items c.in-Ok.place c.index_mut.result.now c.requires within c.index_mut.ensures.value)))
    c.swap_at.ensures.well)

pub swap_among-returns-in-Ok-clause-same : goal.swap_among-returns-in-Ok-clause-same
swap_among-returns-in-Ok-clause-same g t c =
    let changed = count_changed c.args.edges.now.items c.in-Ok.place c.index_mut.result.now
    (roll-Edge _ (record { name = edge_name c.index_mut.result.now; node = c.swap_at.new.node })) c.swap_at.new.node
    (ok_within c.args.edges.now.items c.deref.result.now c.in-Ok.place c.deref.ensures.value c.in-Ok.ensures.within) c.index_mut.ensures.value (rolled_node _ _) in
    omega (arith, changed, c.swap_at.ensures.same)

pub swap_among-returns-in-Ok-clause-old : goal.swap_among-returns-in-Ok-clause-old
swap_among-returns-in-Ok-clause-old g t c =
    let same = c.deref.ensures.value in
    c.swap_at.ensures.old
    ∙ ap (option_map value_of)
    (sym (value_found c.args.edges.now.items c.args.name.now c.args.more.now c.in-Ok.place c.index_mut.result.now c.requires
    (ok_within c.args.edges.now.items c.deref.result.now c.in-Ok.place same c.in-Ok.ensures.within)
    (ok_found c.args.edges.now.items c.deref.result.now c.in-Ok.place c.args.name.now same c.in-Ok.ensures.found)
    c.index_mut.ensures.value))

pub swap_among-returns-in-Err-clause-list : goal.swap_among-returns-in-Err-clause-list
swap_among-returns-in-Err-clause-list g t c =
    let same = c.deref.ensures.value in
    swap_absent c.args.edges.now.items c.in-Err.field-0 c.args.name.now c.args.more.now c.args.value
    (err_before c.args.edges.now.items c.deref.result.now c.in-Err.field-0 c.args.name.now same c.in-Err.ensures.before)
    (err_behind c.args.edges.now.items c.deref.result.now c.in-Err.field-0 c.args.name.now same c.in-Err.ensures.behind)

pub swap_among-returns-in-Err-clause-old : goal.swap_among-returns-in-Err-clause-old
swap_among-returns-in-Err-clause-old g t c =
    let same = c.deref.ensures.value in
    ap (option_map value_of)
    (sym (value_none c.args.edges.now.items c.args.name.now c.args.more.now c.in-Err.field-0
    (err_before c.args.edges.now.items c.deref.result.now c.in-Err.field-0 c.args.name.now same c.in-Err.ensures.before)
    (err_behind c.args.edges.now.items c.deref.result.now c.in-Err.field-0 c.args.name.now same c.in-Err.ensures.behind)))

pub swap_at-swap_among-requires : goal.swap_at-swap_among-requires
swap_at-swap_among-requires g t c κs within = (omega arith, (within, well_edges c.args.node.now _ refl c.requires))

pub swap_at-returns-in-empty-clause-list : goal.swap_at-returns-in-empty-clause-list
swap_at-returns-in-empty-clause-list g t c =
    swap_here c.args.node.now _ c.args.names.now c.args.value (nil_from_length c.args.names.now (omega arith)) c.swap_own.ensures.kept refl

pub swap_at-returns-in-empty-clause-old : goal.swap_at-returns-in-empty-clause-old
swap_at-returns-in-empty-clause-old g t c =
    c.swap_own.ensures.old
    ∙ ap (option_map value_of) (value_own c.args.node.now ∙ ap (λ t. value_at t (below_node c.args.node.now)) (sym (nil_from_length c.args.names.now (omega arith))))

pub swap_at-returns-in-len1-up-clause-list : goal.swap_at-returns-in-len1-up-clause-list
swap_at-returns-in-len1-up-clause-list g t c =
    let names = names_split c.args.names.now c.name-item.result c.in-len1-up.len_at_least c.name-item.is in
    swap_edges c.args.node.now _ c.args.names.now c.name-item.result _ c.args.value names refl c.swap_among.ensures.list

pub swap_at-returns-in-len1-up-clause-well : goal.swap_at-returns-in-len1-up-clause-well
swap_at-returns-in-len1-up-clause-well g t c =
    well_counted c.args.node.now _ 0 0 c.requires refl (edges_counted c.args.node.now _ 0 0 refl (ap (λ k. k + 0) c.swap_among.ensures.same)) c.swap_among.ensures.well

pub swap_at-returns-in-len1-up-clause-same : goal.swap_at-returns-in-len1-up-clause-same
swap_at-returns-in-len1-up-clause-same g t c =
    without_zero _ _ (edges_counted c.args.node.now _ 0 0 refl (ap (λ k. k + 0) c.swap_among.ensures.same))

pub swap_at-returns-in-len1-up-clause-old : goal.swap_at-returns-in-len1-up-clause-old
swap_at-returns-in-len1-up-clause-old g t c =
    let names = names_split c.args.names.now c.name-item.result c.in-len1-up.len_at_least c.name-item.is in
    c.swap_among.ensures.old
    ∙ ap (option_map value_of) (sym (value_edges c.args.node.now _ c.name-item.result _ refl) ∙ ap (λ t. value_at t (below_node c.args.node.now)) (sym names))
