use Rattle.std.proofs.Common.{None, length, ◌+◌, refl, ap, sym, ◌∙◌, arith}
use Rattle.std.proofs.lemmas.List.{nil_from_length}
use Rattle.path_trie.proofs.Kept.{edges_counted, edges_taken, few_edges, few_own, here_counted, plus_zero, well_counted, here_taken, err_before, err_behind, is_there, names_split, ok_found, ok_within, value_edges, value_found, value_none, value_own, well_edges}
use Rattle.path_trie.proofs.Changed.{count_changed, count_removed, none_left, rolled_name, rolled_node, take_changed, take_none, take_removed, well_changed, well_removed, edge_well}
use Rattle.path_trie.specs.declared.node.Edge.TheViews.{roll-Edge}
use Rattle.path_trie.specs.Entries.{value_at}
use Rattle.path_trie.specs.Nodes.{below_all, below_node, edge_name, own}
use Rattle.path_trie.proofs.Told.{count_out}
use Rattle.path_trie.proofs.change.+take.Goals as goal

pub take_among-returns-then-is_bare-clause-list : goal.take_among-returns-then-is_bare-clause-list
take_among-returns-then-is_bare-clause-list g t c =
    let same = c.deref.ensures.value in
    take_removed c.args.edges.now.items c.remove.new.self.items c.in-Ok.place c.index_mut.result.now
    (roll-Edge _ (record { name = edge_name c.index_mut.result.now; node = c.take_at-value.new.node })) c.args.name.now c.args.more.now c.take_at-value.new.node c.requires
    (ok_within c.args.edges.now.items c.deref.result.now c.in-Ok.place same c.in-Ok.ensures.within)
    (ok_found c.args.edges.now.items c.deref.result.now c.in-Ok.place c.args.name.now same c.in-Ok.ensures.found)
    c.index_mut.ensures.value c.take_at-value.ensures.list (sym c.if-is_bare.true ∙ c.is_bare.ensures) c.remove.ensures.items

pub take_among-returns-then-is_bare-clause-well : goal.take_among-returns-then-is_bare-clause-well
take_among-returns-then-is_bare-clause-well g t c =
    let same = c.deref.ensures.value in
    well_removed c.args.edges.now.items c.remove.new.self.items c.in-Ok.place c.index_mut.result.now
    (roll-Edge _ (record { name = edge_name c.index_mut.result.now; node = c.take_at-value.new.node })) c.requires
    (ok_within c.args.edges.now.items c.deref.result.now c.in-Ok.place same c.in-Ok.ensures.within)
    c.index_mut.ensures.value c.remove.ensures.items

pub take_among-returns-then-is_bare-clause-value : goal.take_among-returns-then-is_bare-clause-value
take_among-returns-then-is_bare-clause-value g t c =
    let same = c.deref.ensures.value in
    c.take_at-value.ensures.value
    ∙ sym (value_found c.args.edges.now.items c.args.name.now c.args.more.now c.in-Ok.place c.index_mut.result.now c.requires
    (ok_within c.args.edges.now.items c.deref.result.now c.in-Ok.place same c.in-Ok.ensures.within)
    (ok_found c.args.edges.now.items c.deref.result.now c.in-Ok.place c.args.name.now same c.in-Ok.ensures.found)
    c.index_mut.ensures.value)

pub take_among-returns-else-is_bare-clause-list : goal.take_among-returns-else-is_bare-clause-list
take_among-returns-else-is_bare-clause-list g t c =
    let same = c.deref.ensures.value in
    take_changed c.args.edges.now.items c.in-Ok.place c.index_mut.result.now
    (roll-Edge _ (record { name = edge_name c.index_mut.result.now; node = c.take_at-value.new.node })) c.args.name.now c.args.more.now c.take_at-value.new.node c.requires
    (ok_within c.args.edges.now.items c.deref.result.now c.in-Ok.place same c.in-Ok.ensures.within)
    (ok_found c.args.edges.now.items c.deref.result.now c.in-Ok.place c.args.name.now same c.in-Ok.ensures.found)
    c.index_mut.ensures.value (rolled_name _ _) (rolled_node _ _) c.take_at-value.ensures.list

pub take_among-returns-else-is_bare-clause-well : goal.take_among-returns-else-is_bare-clause-well
take_among-returns-else-is_bare-clause-well g t c =
    let same = c.deref.ensures.value in
    let edge = roll-Edge _ (record { name = edge_name c.index_mut.result.now; node = c.take_at-value.new.node }) in
    well_changed c.args.edges.now.items c.in-Ok.place c.index_mut.result.now edge c.requires
    (ok_within c.args.edges.now.items c.deref.result.now c.in-Ok.place same c.in-Ok.ensures.within)
    c.index_mut.ensures.value (rolled_name _ _)
    (edge_well edge c.take_at-value.new.node (rolled_node _ _) (is_there c.is_bare.result _ c.is_bare.ensures c.if-is_bare.false) c.take_at-value.ensures.well)

pub take_among-returns-else-is_bare-clause-value : goal.take_among-returns-else-is_bare-clause-value
take_among-returns-else-is_bare-clause-value g t c =
    let same = c.deref.ensures.value in
    c.take_at-value.ensures.value
    ∙ sym (value_found c.args.edges.now.items c.args.name.now c.args.more.now c.in-Ok.place c.index_mut.result.now c.requires
    (ok_within c.args.edges.now.items c.deref.result.now c.in-Ok.place same c.in-Ok.ensures.within)
    (ok_found c.args.edges.now.items c.deref.result.now c.in-Ok.place c.args.name.now same c.in-Ok.ensures.found)
    c.index_mut.ensures.value)

pub take_among-returns-in-Err-clause-list : goal.take_among-returns-in-Err-clause-list
take_among-returns-in-Err-clause-list g t c =
    let same = c.deref.ensures.value in
    take_none c.args.edges.now.items c.in-Err.field-0 c.args.name.now c.args.more.now
    (err_before c.args.edges.now.items c.deref.result.now c.in-Err.field-0 c.args.name.now same c.in-Err.ensures.before)
    (err_behind c.args.edges.now.items c.deref.result.now c.in-Err.field-0 c.args.name.now same c.in-Err.ensures.behind)

pub take_among-returns-in-Err-clause-value : goal.take_among-returns-in-Err-clause-value
take_among-returns-in-Err-clause-value g t c =
    let same = c.deref.ensures.value in
    sym (value_none c.args.edges.now.items c.args.name.now c.args.more.now c.in-Err.field-0
    (err_before c.args.edges.now.items c.deref.result.now c.in-Err.field-0 c.args.name.now same c.in-Err.ensures.before)
    (err_behind c.args.edges.now.items c.deref.result.now c.in-Err.field-0 c.args.name.now same c.in-Err.ensures.behind))

pub take_among-returns-then-is_bare-clause-less : goal.take_among-returns-then-is_bare-clause-less
take_among-returns-then-is_bare-clause-less g t c =
    let same = c.deref.ensures.value in
    let removed = count_removed c.args.edges.now.items c.remove.new.self.items c.in-Ok.place c.index_mut.result.now
    (roll-Edge _ (record { name = edge_name c.index_mut.result.now; node = c.take_at-value.new.node }))
    (ok_within c.args.edges.now.items c.deref.result.now c.in-Ok.place same c.in-Ok.ensures.within) c.index_mut.ensures.value c.remove.ensures.items in
    let none = none_left (below_node c.take_at-value.new.node) c.is_bare.result c.is_bare.ensures c.if-is_bare.true in
    omega (arith, removed, none, c.take_at-value.ensures.less)

pub take_among-returns-else-is_bare-clause-less : goal.take_among-returns-else-is_bare-clause-less
take_among-returns-else-is_bare-clause-less g t c =
    let same = c.deref.ensures.value in
    let changed = count_changed c.args.edges.now.items c.in-Ok.place c.index_mut.result.now
    (roll-Edge _ (record { name = edge_name c.index_mut.result.now; node = c.take_at-value.new.node })) c.take_at-value.new.node
    (ok_within c.args.edges.now.items c.deref.result.now c.in-Ok.place same c.in-Ok.ensures.within) c.index_mut.ensures.value (rolled_node _ _) in
    omega (arith, changed, c.take_at-value.ensures.less)

pub take_at-take_among-requires : goal.take_at-take_among-requires
take_at-take_among-requires g t c κs within = (omega arith, (within, well_edges c.args.node.now _ refl c.requires))

pub take_at-count_taken-requires-in-len1-up : goal.take_at-count_taken-requires-in-len1-up
take_at-count_taken-requires-in-len1-up g t c =
    let few = few_edges c.args.node.now in
    let count = count_out c.args.node.now c.requires in
    omega (arith, few, count, c.take_among.ensures.less)

pub take_at-count_taken-requires : goal.take_at-count_taken-requires
take_at-count_taken-requires g t c =
    let few = few_own c.args.node.now c.take.result c.take.ensures.value in
    let count = count_out c.args.node.now c.requires in
    omega (arith, few, count)

pub take_at-returns-in-empty-clause-list : goal.take_at-returns-in-empty-clause-list
take_at-returns-in-empty-clause-list g t c = here_taken c.args.node.now _ c.args.names.now (nil_from_length c.args.names.now (omega arith)) c.take.ensures.after refl

pub take_at-returns-in-empty-clause-well : goal.take_at-returns-in-empty-clause-well
take_at-returns-in-empty-clause-well g t c =
    well_counted c.args.node.now _ (length (own c.take.result)) 0 c.requires (c.count_taken.ensures.count ∙ sym (plus_zero _))
    (here_counted c.args.node.now _ c.take.result None c.take.ensures.value c.take.ensures.after refl)
    (well_edges c.args.node.now _ refl c.requires)

pub take_at-returns-in-empty-clause-value : goal.take_at-returns-in-empty-clause-value
take_at-returns-in-empty-clause-value g t c =
    c.count_taken.ensures.same ∙ c.take.ensures.value ∙ value_own c.args.node.now ∙ ap (λ t. value_at t (below_node c.args.node.now)) (sym (nil_from_length c.args.names.now (omega arith)))

pub take_at-returns-in-empty-clause-less : goal.take_at-returns-in-empty-clause-less
take_at-returns-in-empty-clause-less g t c =
    here_counted c.args.node.now _ c.count_taken.result None (c.count_taken.ensures.same ∙ c.take.ensures.value) c.take.ensures.after refl ∙ plus_zero _

pub take_at-returns-in-len1-up-clause-list : goal.take_at-returns-in-len1-up-clause-list
take_at-returns-in-len1-up-clause-list g t c =
    let names = names_split c.args.names.now c.name-item.result c.in-len1-up.len_at_least c.name-item.is in
    edges_taken c.args.node.now _ c.args.names.now c.name-item.result _ names refl c.take_among.ensures.list

pub take_at-returns-in-len1-up-clause-well : goal.take_at-returns-in-len1-up-clause-well
take_at-returns-in-len1-up-clause-well g t c =
    well_counted c.args.node.now _ (length (own c.take_among.result)) 0 c.requires (c.count_taken-in-len1-up.ensures.count ∙ sym (plus_zero _))
    (edges_counted c.args.node.now _ (length (own c.take_among.result)) 0 refl (c.take_among.ensures.less ∙ sym (plus_zero _))) c.take_among.ensures.well

pub take_at-returns-in-len1-up-clause-value : goal.take_at-returns-in-len1-up-clause-value
take_at-returns-in-len1-up-clause-value g t c =
    let names = names_split c.args.names.now c.name-item.result c.in-len1-up.len_at_least c.name-item.is in
    c.count_taken-in-len1-up.ensures.same ∙ c.take_among.ensures.value ∙ sym (value_edges c.args.node.now _ c.name-item.result _ refl) ∙ ap (λ t. value_at t (below_node c.args.node.now)) (sym names)

pub take_at-returns-in-len1-up-clause-less : goal.take_at-returns-in-len1-up-clause-less
take_at-returns-in-len1-up-clause-less g t c =
    edges_counted c.args.node.now _ (length (own c.count_taken-in-len1-up.result)) 0 refl
    (ap (λ o. length (below_all c.take_among.new.edges.items) + length (own o)) c.count_taken-in-len1-up.ensures.same ∙ c.take_among.ensures.less ∙ sym (plus_zero _))
    ∙ plus_zero _
