use Rattle.std.proofs.Common.{◌+◌, length, refl, ap, sym, ◌∙◌, arith}
use Rattle.std.proofs.lemmas.List.{nil_from_length}
use Rattle.path_trie.specs.declared.node.Edge.TheViews.{roll-Edge}
use Rattle.path_trie.specs.Nodes.{below_all, below_node, edge_name, own}
use Rattle.path_trie.proofs.Told.{count_out}
use Rattle.path_trie.proofs.Kept.{child_well, edges_counted, few_edges, in_order, is_there, names_split, ok_found, ok_within, err_before, err_behind, plus_zero, well_counted, well_edges}
use Rattle.path_trie.proofs.Changed.{count_changed, count_removed, edge_well, none_left, rolled_name, rolled_node, well_changed, well_removed}
use Rattle.path_trie.proofs.Pulls.{given_absent, given_first, given_named, given_own, longest_child, longest_edges, one_child, one_given, pull_absent, pull_changed, pull_first, pull_named, pull_own, pull_removed, same_child, same_rolled, some_edges}
use Rattle.path_trie.proofs.pull.+pull.Goals as goal

-- ---- below the child at a place

pub pull_child-pull_at-value-requires : goal.pull_child-pull_at-value-requires
pull_child-pull_at-value-requires g t c κs within =
    let deep = longest_child c.args.edges.now.items c.args.place c.index_mut.result.now c.requires.well c.requires.place c.index_mut.ensures.value in
    (omega (arith, deep), (within, child_well c.args.edges.now.items c.args.place c.index_mut.result.now c.requires.well c.requires.place c.index_mut.ensures.value))

pub pull_child-returns-then-is_bare-clause-list : goal.pull_child-returns-then-is_bare-clause-list
pull_child-returns-then-is_bare-clause-list g t c = λ edge is.
    pull_removed c.args.edges.now.items c.remove.new.self.items c.args.place edge
    (roll-Edge _ (record { name = edge_name c.index_mut.result.now; node = c.pull_at-value.new.node })) c.args.names.now c.pull_at-value.new.node c.requires.place
    (one_child c.args.edges.now.items c.args.place c.index_mut.result.now edge c.args.names.now _ c.requires.place c.index_mut.ensures.value is c.pull_at-value.ensures.list)
    (none_left (below_node c.pull_at-value.new.node) c.is_bare.result c.is_bare.ensures c.if-is_bare.true) c.remove.ensures.items

pub pull_child-returns-then-is_bare-clause-well : goal.pull_child-returns-then-is_bare-clause-well
pull_child-returns-then-is_bare-clause-well g t c =
    well_removed c.args.edges.now.items c.remove.new.self.items c.args.place c.index_mut.result.now
    (roll-Edge _ (record { name = edge_name c.index_mut.result.now; node = c.pull_at-value.new.node })) c.requires.well c.requires.place c.index_mut.ensures.value c.remove.ensures.items

pub pull_child-returns-then-is_bare-clause-value : goal.pull_child-returns-then-is_bare-clause-value
pull_child-returns-then-is_bare-clause-value g t c = λ edge is.
    one_given c.args.edges.now.items c.args.place c.index_mut.result.now edge c.args.names.now _ c.requires.place c.index_mut.ensures.value is c.pull_at-value.ensures.value

pub pull_child-returns-then-is_bare-clause-less : goal.pull_child-returns-then-is_bare-clause-less
pull_child-returns-then-is_bare-clause-less g t c =
    let removed = count_removed c.args.edges.now.items c.remove.new.self.items c.args.place c.index_mut.result.now
    (roll-Edge _ (record { name = edge_name c.index_mut.result.now; node = c.pull_at-value.new.node })) c.requires.place c.index_mut.ensures.value c.remove.ensures.items in
    let none = none_left (below_node c.pull_at-value.new.node) c.is_bare.result c.is_bare.ensures c.if-is_bare.true in
    omega (arith, removed, none, c.pull_at-value.ensures.less)

pub pull_child-returns-clause-list : goal.pull_child-returns-clause-list
pull_child-returns-clause-list g t c = λ edge is.
    let one = same_child c.args.edges.now.items c.args.place c.index_mut.result.now edge c.requires.place c.index_mut.ensures.value is in
    pull_changed c.args.edges.now.items c.args.place edge
    (roll-Edge _ (record { name = edge_name c.index_mut.result.now; node = c.pull_at-value.new.node })) c.args.names.now c.pull_at-value.new.node c.requires.place is
    (rolled_name _ _ ∙ ap edge_name one) (rolled_node _ _)
    (one_child c.args.edges.now.items c.args.place c.index_mut.result.now edge c.args.names.now _ c.requires.place c.index_mut.ensures.value is c.pull_at-value.ensures.list)

pub pull_child-returns-clause-well : goal.pull_child-returns-clause-well
pull_child-returns-clause-well g t c =
    let edge = roll-Edge _ (record { name = edge_name c.index_mut.result.now; node = c.pull_at-value.new.node }) in
    well_changed c.args.edges.now.items c.args.place c.index_mut.result.now edge c.requires.well c.requires.place c.index_mut.ensures.value (rolled_name _ _)
    (edge_well edge c.pull_at-value.new.node (rolled_node _ _) (is_there c.is_bare.result _ c.is_bare.ensures c.if-is_bare.false) c.pull_at-value.ensures.well)

pub pull_child-returns-clause-value : goal.pull_child-returns-clause-value
pull_child-returns-clause-value g t c = λ edge is.
    one_given c.args.edges.now.items c.args.place c.index_mut.result.now edge c.args.names.now _ c.requires.place c.index_mut.ensures.value is c.pull_at-value.ensures.value

pub pull_child-returns-clause-less : goal.pull_child-returns-clause-less
pull_child-returns-clause-less g t c =
    let changed = count_changed c.args.edges.now.items c.args.place c.index_mut.result.now
    (roll-Edge _ (record { name = edge_name c.index_mut.result.now; node = c.pull_at-value.new.node })) c.pull_at-value.new.node
    c.requires.place c.index_mut.ensures.value (rolled_node _ _) in
    omega (arith, changed, c.pull_at-value.ensures.less)

-- ---- at a node

pub pull_at-place_of-requires : goal.pull_at-place_of-requires
pull_at-place_of-requires g t c = in_order c.deref.result.now (well_edges c.args.node.now c.deref.result.now c.deref.ensures.value c.requires)

pub pull_at-pull_child-requires-in-Ok : goal.pull_at-pull_child-requires-in-Ok
pull_at-pull_child-requires-in-Ok g t c κs within =
    let deep = longest_edges c.args.node.now in
    (omega (arith, deep), (within, (well_edges c.args.node.now _ refl c.requires, ok_within _ c.deref.result.now c.in-Ok.place c.deref.ensures.value c.in-Ok.ensures.within)))

pub pull_at-count_taken-requires-in-Ok : goal.pull_at-count_taken-requires-in-Ok
pull_at-count_taken-requires-in-Ok g t c =
    let few = few_edges c.args.node.now in
    let count = count_out c.args.node.now c.requires in
    omega (arith, few, count, c.pull_child-in-Ok.ensures.less)

pub pull_at-returns-in-Ok-clause-list : goal.pull_at-returns-in-Ok-clause-list
pull_at-returns-in-Ok-clause-list g t c =
    let names = names_split c.args.names.now c.name-item.result c.in-len1-up.len_at_least c.name-item.is in
    let within = ok_within _ c.deref.result.now c.in-Ok.place c.deref.ensures.value c.in-Ok.ensures.within in
    let found = ok_found _ c.deref.result.now c.in-Ok.place c.name-item.result c.deref.ensures.value c.in-Ok.ensures.found in
    pull_named c.args.node.now _ c.args.names.now c.name-item.result _ c.in-Ok.place names refl (well_edges c.args.node.now _ refl c.requires) within found c.pull_child-in-Ok.ensures.list

pub pull_at-returns-in-Ok-clause-well : goal.pull_at-returns-in-Ok-clause-well
pull_at-returns-in-Ok-clause-well g t c =
    well_counted c.args.node.now _ (length (own c.pull_child-in-Ok.result)) 0 c.requires (c.count_taken-in-Ok.ensures.count ∙ sym (plus_zero _))
    (edges_counted c.args.node.now _ (length (own c.pull_child-in-Ok.result)) 0 refl (c.pull_child-in-Ok.ensures.less ∙ sym (plus_zero _))) c.pull_child-in-Ok.ensures.well

pub pull_at-returns-in-Ok-clause-value : goal.pull_at-returns-in-Ok-clause-value
pull_at-returns-in-Ok-clause-value g t c =
    let names = names_split c.args.names.now c.name-item.result c.in-len1-up.len_at_least c.name-item.is in
    let within = ok_within _ c.deref.result.now c.in-Ok.place c.deref.ensures.value c.in-Ok.ensures.within in
    let found = ok_found _ c.deref.result.now c.in-Ok.place c.name-item.result c.deref.ensures.value c.in-Ok.ensures.found in
    c.count_taken-in-Ok.ensures.same
    ∙ given_named c.args.node.now c.args.names.now c.name-item.result _ c.in-Ok.place _ names (well_edges c.args.node.now _ refl c.requires) within found c.pull_child-in-Ok.ensures.value

pub pull_at-returns-in-Ok-clause-less : goal.pull_at-returns-in-Ok-clause-less
pull_at-returns-in-Ok-clause-less g t c =
    edges_counted c.args.node.now _ (length (own c.count_taken-in-Ok.result)) 0 refl
    (ap (λ o. length (below_all c.pull_child-in-Ok.new.edges.items) + length (own o)) c.count_taken-in-Ok.ensures.same ∙ c.pull_child-in-Ok.ensures.less ∙ sym (plus_zero _))
    ∙ plus_zero _

pub pull_at-returns-in-Err-clause-list : goal.pull_at-returns-in-Err-clause-list
pull_at-returns-in-Err-clause-list g t c =
    let names = names_split c.args.names.now c.name-item.result c.in-len1-up.len_at_least c.name-item.is in
    same_rolled c.args.node.now _ refl refl
    ∙ pull_absent c.args.node.now c.args.names.now c.name-item.result _ c.in-Err.field-0 names
    (err_before _ c.deref.result.now c.in-Err.field-0 c.name-item.result c.deref.ensures.value c.in-Err.ensures.before)
    (err_behind _ c.deref.result.now c.in-Err.field-0 c.name-item.result c.deref.ensures.value c.in-Err.ensures.behind)

pub pull_at-returns-in-Err-clause-value : goal.pull_at-returns-in-Err-clause-value
pull_at-returns-in-Err-clause-value g t c =
    let names = names_split c.args.names.now c.name-item.result c.in-len1-up.len_at_least c.name-item.is in
    given_absent c.args.node.now c.args.names.now c.name-item.result _ c.in-Err.field-0 names
    (err_before _ c.deref.result.now c.in-Err.field-0 c.name-item.result c.deref.ensures.value c.in-Err.ensures.before)
    (err_behind _ c.deref.result.now c.in-Err.field-0 c.name-item.result c.deref.ensures.value c.in-Err.ensures.behind)

pub pull_at-count_taken-requires-in-None : goal.pull_at-count_taken-requires-in-None
pull_at-count_taken-requires-in-None g t c =
    let few = few_edges c.args.node.now in
    let count = count_out c.args.node.now c.requires in
    omega (arith, few, count, c.pull_child.ensures.less)

pub pull_at-pull_child-requires : goal.pull_at-pull_child-requires
pull_at-pull_child-requires g t c κs within =
    let deep = longest_edges c.args.node.now in
    (omega (arith, deep), (within, (well_edges c.args.node.now _ refl c.requires, some_edges _ _ c.is_empty.result c.is_empty.ensures c.as_slice.ensures.value c.if-is_empty.false)))

pub pull_at-returns-in-Some-clause-list : goal.pull_at-returns-in-Some-clause-list
pull_at-returns-in-Some-clause-list g t c =
    pull_own c.args.node.now _ c.args.names.now c.in-Some.value (nil_from_length c.args.names.now (omega arith)) (sym c.take.ensures.value ∙ c.in-Some.is) c.take.ensures.after refl

pub pull_at-returns-in-Some-clause-value : goal.pull_at-returns-in-Some-clause-value
pull_at-returns-in-Some-clause-value g t c =
    c.count_taken.ensures.same ∙ given_own c.args.node.now c.args.names.now c.in-Some.value (nil_from_length c.args.names.now (omega arith)) (sym c.take.ensures.value ∙ c.in-Some.is)

pub pull_at-returns-else-is_empty-clause-list : goal.pull_at-returns-else-is_empty-clause-list
pull_at-returns-else-is_empty-clause-list g t c =
    pull_first c.args.node.now _ c.args.names.now _ (nil_from_length c.args.names.now (omega arith)) (sym c.take.ensures.value ∙ c.in-None.is) c.take.ensures.after refl
    (well_edges c.args.node.now _ refl c.requires) (some_edges _ _ c.is_empty.result c.is_empty.ensures c.as_slice.ensures.value c.if-is_empty.false) c.pull_child.ensures.list

pub pull_at-returns-else-is_empty-clause-well : goal.pull_at-returns-else-is_empty-clause-well
pull_at-returns-else-is_empty-clause-well g t c =
    well_counted c.args.node.now _ (length (own c.pull_child.result)) 0 c.requires (c.count_taken-in-None.ensures.count ∙ sym (plus_zero _))
    (edges_counted c.args.node.now _ (length (own c.pull_child.result)) 0 (c.take.ensures.after ∙ sym c.in-None.is ∙ c.take.ensures.value) (c.pull_child.ensures.less ∙ sym (plus_zero _)))
    c.pull_child.ensures.well

pub pull_at-returns-else-is_empty-clause-value : goal.pull_at-returns-else-is_empty-clause-value
pull_at-returns-else-is_empty-clause-value g t c =
    c.count_taken-in-None.ensures.same
    ∙ given_first c.args.node.now c.args.names.now _ _ (nil_from_length c.args.names.now (omega arith)) (sym c.take.ensures.value ∙ c.in-None.is) refl
    (well_edges c.args.node.now _ refl c.requires) (some_edges _ _ c.is_empty.result c.is_empty.ensures c.as_slice.ensures.value c.if-is_empty.false) c.pull_child.ensures.value

pub pull_at-returns-else-is_empty-clause-less : goal.pull_at-returns-else-is_empty-clause-less
pull_at-returns-else-is_empty-clause-less g t c =
    edges_counted c.args.node.now _ (length (own c.count_taken-in-None.result)) 0 (c.take.ensures.after ∙ sym c.in-None.is ∙ c.take.ensures.value)
    (ap (λ o. length (below_all c.pull_child.new.edges.items) + length (own o)) c.count_taken-in-None.ensures.same ∙ c.pull_child.ensures.less ∙ sym (plus_zero _))
    ∙ plus_zero _
