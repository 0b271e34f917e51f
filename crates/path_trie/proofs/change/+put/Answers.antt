use Rattle.std.proofs.Common.{true, false, length, ◌+◌, Some, refl, ap, sym, ◌∙◌, arith}
use Rattle.std.specs.Cmp.{first_so}
use Rattle.std.specs.Result.{is_ok}
use Rattle.std.proofs.lemmas.List.{nil_from_length}
use Rattle.path_trie.specs.declared.node.Edge.TheViews.{roll-Edge}
use Rattle.path_trie.specs.Entries.{value_at}
use Rattle.path_trie.specs.Nodes.{below_all, below_node, edge_name, own}
use Rattle.path_trie.proofs.Kept.{child_edge, child_well, edges_counted, edges_put, err_before, few_edges, err_behind, here_counted, here_put, names_split, ok_found, ok_within, value_edges, value_found, value_none, value_own, well_counted, well_edges}
use Rattle.path_trie.proofs.Changed.{count_changed, count_part, edge_well, has_kept, ok_more, old_same, put_changed, rolled_name, rolled_node, well_changed}
use Rattle.path_trie.proofs.change.+put.Goals as goal

pub put_at-put_among-requires : goal.put_at-put_among-requires
put_at-put_among-requires g t c κs within =
    let few = few_edges c.args.node.now in (omega arith, (within, (well_edges c.args.node.now _ refl c.requires.well, omega (arith, few, c.requires.room))))

pub put_among-put_at-requires : goal.put_among-put_at-requires
put_among-put_at-requires g t c κs within =
    let same = c.deref.ensures.value in
    let inside = ok_within c.args.edges.now.items c.deref.result.now c.in-Ok.place same c.in-Ok.ensures.within in
    let few = count_part c.args.edges.now.items c.in-Ok.place c.index_mut.result.now inside c.index_mut.ensures.value in
    (omega arith, (within, (child_well c.args.edges.now.items c.in-Ok.place c.index_mut.result.now c.requires.well inside c.index_mut.ensures.value, omega (arith, few, c.requires.room))))

pub put_among-returns-in-Ok-clause-more : goal.put_among-returns-in-Ok-clause-more
put_among-returns-in-Ok-clause-more g t c =
    let same = c.deref.ensures.value in
    ok_more c.put_at.result _ _ _ _
    (count_changed c.args.edges.now.items c.in-Ok.place c.index_mut.result.now (roll-Edge _ (record { name = edge_name c.index_mut.result.now; node = c.put_at.new.node })) c.put_at.new.node
    (ok_within c.args.edges.now.items c.deref.result.now c.in-Ok.place same c.in-Ok.ensures.within) c.index_mut.ensures.value (rolled_node _ _))
    c.put_at.ensures.more

pub put_at-returns-in-empty-clause-list : goal.put_at-returns-in-empty-clause-list
put_at-returns-in-empty-clause-list g t c =
    here_put c.args.node.now _ c.args.names.now c.args.value (nil_from_length c.args.names.now (omega arith)) c.replace.ensures.after refl

pub put_at-returns-in-empty-clause-old : goal.put_at-returns-in-empty-clause-old
put_at-returns-in-empty-clause-old g t c =
    c.count_put.ensures.same ∙ c.replace.ensures.value ∙ value_own c.args.node.now ∙ ap (λ t. value_at t (below_node c.args.node.now)) (sym (nil_from_length c.args.names.now (omega arith)))

pub put_at-returns-in-empty-clause-more : goal.put_at-returns-in-empty-clause-more
put_at-returns-in-empty-clause-more g t c = here_counted c.args.node.now _ c.count_put.result (Some c.args.value) (c.count_put.ensures.same ∙ c.replace.ensures.value) c.replace.ensures.after refl

pub put_at-returns-in-empty-clause-well : goal.put_at-returns-in-empty-clause-well
put_at-returns-in-empty-clause-well g t c =
    well_counted c.args.node.now _ (length (own c.replace.result)) 1 c.requires.well c.count_put.ensures.count
    (here_counted c.args.node.now _ c.replace.result (Some c.args.value) c.replace.ensures.value c.replace.ensures.after refl)
    (well_edges c.args.node.now _ refl c.requires.well)

pub put_at-returns-in-Ok-clause-list : goal.put_at-returns-in-Ok-clause-list
put_at-returns-in-Ok-clause-list g t c =
    let names = names_split c.args.names.now c.name-item.result c.in-len1-up.len_at_least c.name-item.is in
    edges_put c.args.node.now _ c.args.names.now c.name-item.result _ c.args.value true names refl c.in-Ok.ensures.list

pub put_at-returns-in-Ok-clause-well : goal.put_at-returns-in-Ok-clause-well
put_at-returns-in-Ok-clause-well g t c =
    well_counted c.args.node.now _ (length (own c.in-Ok.old)) 1 c.requires.well c.count_put-in-Ok.ensures.count
    (edges_counted c.args.node.now _ (length (own c.in-Ok.old)) 1 refl c.in-Ok.ensures.more) c.in-Ok.ensures.well

pub put_at-returns-in-Ok-clause-more : goal.put_at-returns-in-Ok-clause-more
put_at-returns-in-Ok-clause-more g t c =
    edges_counted c.args.node.now _ (length (own c.count_put-in-Ok.result)) 1 refl
    (ap (λ o. length (below_all c.put_among.new.edges.items) + length (own o)) c.count_put-in-Ok.ensures.same ∙ c.in-Ok.ensures.more)

pub put_at-returns-in-Err-clause-list : goal.put_at-returns-in-Err-clause-list
put_at-returns-in-Err-clause-list g t c =
    let names = names_split c.args.names.now c.name-item.result c.in-len1-up.len_at_least c.name-item.is in
    edges_put c.args.node.now _ c.args.names.now c.name-item.result _ c.args.value false names refl c.in-Err.ensures.list

pub put_at-returns-in-Err-clause-well : goal.put_at-returns-in-Err-clause-well
put_at-returns-in-Err-clause-well g t c =
    well_counted c.args.node.now _ 0 0 c.requires.well refl
    (edges_counted c.args.node.now _ 0 0 refl (ap (λ t. length t + 0) c.in-Err.ensures.list)) c.in-Err.ensures.well

pub put_among-returns-in-Ok-clause-list : goal.put_among-returns-in-Ok-clause-list
put_among-returns-in-Ok-clause-list g t c =
    let same = c.deref.ensures.value in
    put_changed c.args.edges.now.items c.in-Ok.place c.index_mut.result.now
    (roll-Edge _ (record { name = edge_name c.index_mut.result.now; node = c.put_at.new.node })) c.args.name.now c.args.more.now c.args.value c.put_at.new.node (is_ok c.put_at.result) c.requires.well
    (ok_within c.args.edges.now.items c.deref.result.now c.in-Ok.place same c.in-Ok.ensures.within)
    (ok_found c.args.edges.now.items c.deref.result.now c.in-Ok.place c.args.name.now same c.in-Ok.ensures.found)
    c.index_mut.ensures.value (rolled_name _ _) (rolled_node _ _) c.put_at.ensures.list

pub put_among-returns-in-Ok-clause-well : goal.put_among-returns-in-Ok-clause-well
put_among-returns-in-Ok-clause-well g t c =
    let same = c.deref.ensures.value in
    let edge = roll-Edge _ (record { name = edge_name c.index_mut.result.now; node = c.put_at.new.node }) in
    let within = ok_within c.args.edges.now.items c.deref.result.now c.in-Ok.place same c.in-Ok.ensures.within in
    well_changed c.args.edges.now.items c.in-Ok.place c.index_mut.result.now edge c.requires.well within
    c.index_mut.ensures.value (rolled_name _ _)
    (edge_well edge c.put_at.new.node (rolled_node _ _)
    (has_kept (is_ok c.put_at.result) c.args.more.now c.args.value _ _ c.put_at.ensures.list (first_so _ _ (child_edge c.args.edges.now.items c.in-Ok.place c.index_mut.result.now c.requires.well within c.index_mut.ensures.value)))
    c.put_at.ensures.well)

pub put_among-returns-in-Ok-clause-old : goal.put_among-returns-in-Ok-clause-old
put_among-returns-in-Ok-clause-old g t c =
    let same = c.deref.ensures.value in
    old_same c.put_at.result _ _
    (sym (value_found c.args.edges.now.items c.args.name.now c.args.more.now c.in-Ok.place c.index_mut.result.now c.requires.well
    (ok_within c.args.edges.now.items c.deref.result.now c.in-Ok.place same c.in-Ok.ensures.within)
    (ok_found c.args.edges.now.items c.deref.result.now c.in-Ok.place c.args.name.now same c.in-Ok.ensures.found)
    c.index_mut.ensures.value))
    c.put_at.ensures.old

pub put_among-returns-in-Ok-add_edge-clause-old : goal.put_among-returns-in-Ok-add_edge-clause-old
put_among-returns-in-Ok-add_edge-clause-old g t c =
    let same = c.deref.ensures.value in
    sym (value_none c.args.edges.now.items c.args.name.now c.args.more.now c.in-Err.place
    (err_before c.args.edges.now.items c.deref.result.now c.in-Err.place c.args.name.now same c.in-Err.ensures.before)
    (err_behind c.args.edges.now.items c.deref.result.now c.in-Err.place c.args.name.now same c.in-Err.ensures.behind))

pub put_at-returns-in-Ok-clause-old : goal.put_at-returns-in-Ok-clause-old
put_at-returns-in-Ok-clause-old g t c =
    let names = names_split c.args.names.now c.name-item.result c.in-len1-up.len_at_least c.name-item.is in
    c.count_put-in-Ok.ensures.same ∙ c.in-Ok.ensures.old
    ∙ sym (value_edges c.args.node.now _ c.name-item.result _ refl) ∙ ap (λ t. value_at t (below_node c.args.node.now)) (sym names)
