use Rattle.std.proofs.Common.{length, refl, ap, ◌∙◌, arith}
use Rattle.std.proofs.lemmas.List.{nil_from_length}
use Rattle.path_trie.specs.declared.node.Edge.TheViews.{roll-Edge}
use Rattle.path_trie.specs.Entries.{is_under}
use Rattle.path_trie.specs.Nodes.{below_node, edge_name}
use Rattle.path_trie.proofs.Told.{count_out}
use Rattle.path_trie.proofs.Kept.{child_well, edges_counted, err_before, err_behind, few_edges, names_split, ok_found, ok_within, well_counted, well_edges}
use Rattle.path_trie.proofs.Changed.{count_changed, count_part, edge_well, rolled_name, rolled_node, well_changed}
use Rattle.path_trie.proofs.Seeks.{under_all}
use Rattle.path_trie.proofs.Splices.{child_under, edges_spliced, edges_under, filter_few, has_got, none_under, spliced_all, spliced_changed}
use Rattle.path_trie.proofs.exchange.+exchange.Goals as goal

-- ---- among children

pub exchange_among-exchange_at-requires : goal.exchange_among-exchange_at-requires
exchange_among-exchange_at-requires g t c κs within =
    let inside = ok_within c.args.edges.now.items c.deref.result.now c.in-Ok.place c.deref.ensures.value c.in-Ok.ensures.within in
    let other_inside = ok_within c.args.others.now.items c.deref-in-Ok.result.now c.in-Ok-place_of.other c.deref-in-Ok.ensures.value c.in-Ok-place_of.ensures.within in
    let few = count_part c.args.edges.now.items c.in-Ok.place c.index_mut.result.now inside c.index_mut.ensures.value in
    let other_few = count_part c.args.others.now.items c.in-Ok-place_of.other c.index_mut-in-Ok-place_of.result.now other_inside c.index_mut-in-Ok-place_of.ensures.value in (
      omega arith,
      (
        within,
        (
          child_well c.args.edges.now.items c.in-Ok.place c.index_mut.result.now c.requires.well inside c.index_mut.ensures.value,
          (
            child_well c.args.others.now.items c.in-Ok-place_of.other c.index_mut-in-Ok-place_of.result.now c.requires.other_well other_inside c.index_mut-in-Ok-place_of.ensures.value,
            (
              child_under c.args.edges.now.items c.args.name.now c.args.more.now c.in-Ok.place c.index_mut.result.now c.args.given c.requires.well inside
                  (ok_found c.args.edges.now.items c.deref.result.now c.in-Ok.place c.args.name.now c.deref.ensures.value c.in-Ok.ensures.found) c.index_mut.ensures.value c.requires.given,
              (
                child_under c.args.others.now.items c.args.name.now c.args.more.now c.in-Ok-place_of.other c.index_mut-in-Ok-place_of.result.now c.args.got c.requires.other_well other_inside
                    (ok_found c.args.others.now.items c.deref-in-Ok.result.now c.in-Ok-place_of.other c.args.name.now c.deref-in-Ok.ensures.value c.in-Ok-place_of.ensures.found)
                    c.index_mut-in-Ok-place_of.ensures.value c.requires.got,
                (c.requires.some, (c.requires.other_some, omega (arith, few, other_few, c.requires.room))),
              ),
            ),
          ),
        ),
      ),
    )

pub exchange_among-unreachable-requires : goal.exchange_among-unreachable-requires
exchange_among-unreachable-requires g t c =
    let none = none_under c.args.others.now.items c.args.name.now c.args.more.now c.in-Err-place_of.field-0 c.args.got
    (err_before c.args.others.now.items c.deref-in-Ok.result.now c.in-Err-place_of.field-0 c.args.name.now c.deref-in-Ok.ensures.value c.in-Err-place_of.ensures.before)
    (err_behind c.args.others.now.items c.deref-in-Ok.result.now c.in-Err-place_of.field-0 c.args.name.now c.deref-in-Ok.ensures.value c.in-Err-place_of.ensures.behind)
    c.requires.got in
    omega (arith, none, c.requires.other_some)

pub exchange_among-unreachable-requires-in-Err : goal.exchange_among-unreachable-requires-in-Err
exchange_among-unreachable-requires-in-Err g t c =
    let none = none_under c.args.edges.now.items c.args.name.now c.args.more.now c.in-Err.field-0 c.args.given
    (err_before c.args.edges.now.items c.deref.result.now c.in-Err.field-0 c.args.name.now c.deref.ensures.value c.in-Err.ensures.before)
    (err_behind c.args.edges.now.items c.deref.result.now c.in-Err.field-0 c.args.name.now c.deref.ensures.value c.in-Err.ensures.behind)
    c.requires.given in
    omega (arith, none, c.requires.some)

pub exchange_among-returns-clause-list : goal.exchange_among-returns-clause-list
exchange_among-returns-clause-list g t c =
    spliced_changed c.args.edges.now.items c.args.others.now.items c.in-Ok.place c.in-Ok-place_of.other c.index_mut.result.now c.index_mut-in-Ok-place_of.result.now
    (roll-Edge _ (record { name = edge_name c.index_mut.result.now; node = c.exchange_at.new.node })) c.args.name.now c.args.more.now c.exchange_at.new.node
    c.requires.well c.requires.other_well
    (ok_within c.args.edges.now.items c.deref.result.now c.in-Ok.place c.deref.ensures.value c.in-Ok.ensures.within)
    (ok_within c.args.others.now.items c.deref-in-Ok.result.now c.in-Ok-place_of.other c.deref-in-Ok.ensures.value c.in-Ok-place_of.ensures.within)
    (ok_found c.args.edges.now.items c.deref.result.now c.in-Ok.place c.args.name.now c.deref.ensures.value c.in-Ok.ensures.found)
    (ok_found c.args.others.now.items c.deref-in-Ok.result.now c.in-Ok-place_of.other c.args.name.now c.deref-in-Ok.ensures.value c.in-Ok-place_of.ensures.found)
    c.index_mut.ensures.value c.index_mut-in-Ok-place_of.ensures.value (rolled_name _ _) (rolled_node _ _) c.exchange_at.ensures.list

pub exchange_among-returns-clause-other_list : goal.exchange_among-returns-clause-other_list
exchange_among-returns-clause-other_list g t c =
    spliced_changed c.args.others.now.items c.args.edges.now.items c.in-Ok-place_of.other c.in-Ok.place c.index_mut-in-Ok-place_of.result.now c.index_mut.result.now
    (roll-Edge _ (record { name = edge_name c.index_mut-in-Ok-place_of.result.now; node = c.exchange_at.new.other })) c.args.name.now c.args.more.now c.exchange_at.new.other
    c.requires.other_well c.requires.well
    (ok_within c.args.others.now.items c.deref-in-Ok.result.now c.in-Ok-place_of.other c.deref-in-Ok.ensures.value c.in-Ok-place_of.ensures.within)
    (ok_within c.args.edges.now.items c.deref.result.now c.in-Ok.place c.deref.ensures.value c.in-Ok.ensures.within)
    (ok_found c.args.others.now.items c.deref-in-Ok.result.now c.in-Ok-place_of.other c.args.name.now c.deref-in-Ok.ensures.value c.in-Ok-place_of.ensures.found)
    (ok_found c.args.edges.now.items c.deref.result.now c.in-Ok.place c.args.name.now c.deref.ensures.value c.in-Ok.ensures.found)
    c.index_mut-in-Ok-place_of.ensures.value c.index_mut.ensures.value (rolled_name _ _) (rolled_node _ _) c.exchange_at.ensures.other_list

pub exchange_among-returns-clause-well : goal.exchange_among-returns-clause-well
exchange_among-returns-clause-well g t c =
    let edge = roll-Edge _ (record { name = edge_name c.index_mut.result.now; node = c.exchange_at.new.node }) in
    let inside = ok_within c.args.edges.now.items c.deref.result.now c.in-Ok.place c.deref.ensures.value c.in-Ok.ensures.within in
    let told = child_under c.args.edges.now.items c.args.name.now c.args.more.now c.in-Ok.place c.index_mut.result.now c.args.given c.requires.well inside
    (ok_found c.args.edges.now.items c.deref.result.now c.in-Ok.place c.args.name.now c.deref.ensures.value c.in-Ok.ensures.found) c.index_mut.ensures.value c.requires.given in
    well_changed c.args.edges.now.items c.in-Ok.place c.index_mut.result.now edge c.requires.well inside c.index_mut.ensures.value (rolled_name _ _)
    (edge_well edge c.exchange_at.new.node (rolled_node _ _)
    (has_got _ _ c.args.given c.args.got (is_under c.args.more.now) told c.requires.other_some c.exchange_at.ensures.count) c.exchange_at.ensures.well)

pub exchange_among-returns-clause-other_well : goal.exchange_among-returns-clause-other_well
exchange_among-returns-clause-other_well g t c =
    let edge = roll-Edge _ (record { name = edge_name c.index_mut-in-Ok-place_of.result.now; node = c.exchange_at.new.other }) in
    let inside = ok_within c.args.others.now.items c.deref-in-Ok.result.now c.in-Ok-place_of.other c.deref-in-Ok.ensures.value c.in-Ok-place_of.ensures.within in
    let told = child_under c.args.others.now.items c.args.name.now c.args.more.now c.in-Ok-place_of.other c.index_mut-in-Ok-place_of.result.now c.args.got c.requires.other_well inside
    (ok_found c.args.others.now.items c.deref-in-Ok.result.now c.in-Ok-place_of.other c.args.name.now c.deref-in-Ok.ensures.value c.in-Ok-place_of.ensures.found)
    c.index_mut-in-Ok-place_of.ensures.value c.requires.got in
    well_changed c.args.others.now.items c.in-Ok-place_of.other c.index_mut-in-Ok-place_of.result.now edge c.requires.other_well inside c.index_mut-in-Ok-place_of.ensures.value (rolled_name _ _)
    (edge_well edge c.exchange_at.new.other (rolled_node _ _)
    (has_got _ _ c.args.got c.args.given (is_under c.args.more.now) told c.requires.some c.exchange_at.ensures.other_count) c.exchange_at.ensures.other_well)

pub exchange_among-returns-clause-count : goal.exchange_among-returns-clause-count
exchange_among-returns-clause-count g t c =
    let changed = count_changed c.args.edges.now.items c.in-Ok.place c.index_mut.result.now
    (roll-Edge _ (record { name = edge_name c.index_mut.result.now; node = c.exchange_at.new.node })) c.exchange_at.new.node
    (ok_within c.args.edges.now.items c.deref.result.now c.in-Ok.place c.deref.ensures.value c.in-Ok.ensures.within) c.index_mut.ensures.value (rolled_node _ _) in
    omega (arith, changed, c.exchange_at.ensures.count)

pub exchange_among-returns-clause-other_count : goal.exchange_among-returns-clause-other_count
exchange_among-returns-clause-other_count g t c =
    let changed = count_changed c.args.others.now.items c.in-Ok-place_of.other c.index_mut-in-Ok-place_of.result.now
    (roll-Edge _ (record { name = edge_name c.index_mut-in-Ok-place_of.result.now; node = c.exchange_at.new.other })) c.exchange_at.new.other
    (ok_within c.args.others.now.items c.deref-in-Ok.result.now c.in-Ok-place_of.other c.deref-in-Ok.ensures.value c.in-Ok-place_of.ensures.within)
    c.index_mut-in-Ok-place_of.ensures.value (rolled_node _ _) in
    omega (arith, changed, c.exchange_at.ensures.other_count)

-- ---- at a node

pub exchange_at-exchange_among-requires : goal.exchange_at-exchange_among-requires
exchange_at-exchange_among-requires g t c κs within =
    let names = names_split c.args.names.now c.name-item.result c.in-len1-up.len_at_least c.name-item.is in
    let few = few_edges c.args.node.now in
    let other_few = few_edges c.args.other.now in (
      omega arith,
      (
        within,
        (
          well_edges c.args.node.now _ refl c.requires.well,
          (
            well_edges c.args.other.now _ refl c.requires.other_well,
            (
              edges_under c.args.node.now c.args.names.now c.name-item.result _ c.args.given names c.requires.given,
              (
                edges_under c.args.other.now c.args.names.now c.name-item.result _ c.args.got names c.requires.got,
                (c.requires.some, (c.requires.other_some, omega (arith, few, other_few, c.requires.room))),
              ),
            ),
          ),
        ),
      ),
    )

pub exchange_at-recount-requires-clause-given : goal.exchange_at-recount-requires-clause-given
exchange_at-recount-requires-clause-given g t c =
    let count = count_out c.args.node.now c.requires.well in
    let few = filter_few (is_under c.args.names.now) (below_node c.args.node.now) in
    omega (arith, count, few, c.requires.given)

pub exchange_at-recount-requires-clause-room : goal.exchange_at-recount-requires-clause-room
exchange_at-recount-requires-clause-room g t c =
    let count = count_out c.args.node.now c.requires.well in
    let few = filter_few (is_under c.args.names.now) (below_node c.args.other.now) in
    omega (arith, count, few, c.requires.got, c.requires.room)

pub exchange_at-recount-requires-in-len1-up-clause-given : goal.exchange_at-recount-requires-in-len1-up-clause-given
exchange_at-recount-requires-in-len1-up-clause-given g t c =
    let count = count_out c.args.other.now c.requires.other_well in
    let few = filter_few (is_under c.args.names.now) (below_node c.args.other.now) in
    omega (arith, count, few, c.requires.got)

pub exchange_at-recount-requires-in-len1-up-clause-room : goal.exchange_at-recount-requires-in-len1-up-clause-room
exchange_at-recount-requires-in-len1-up-clause-room g t c =
    let count = count_out c.args.other.now c.requires.other_well in
    let few = filter_few (is_under c.args.names.now) (below_node c.args.node.now) in
    omega (arith, count, few, c.requires.given, c.requires.room)

pub exchange_at-returns-in-empty-clause-list : goal.exchange_at-returns-in-empty-clause-list
exchange_at-returns-in-empty-clause-list g t c =
    ap below_node c.swap.ensures.x_after ∙ spliced_all c.args.names.now _ _ (nil_from_length c.args.names.now (omega arith))

pub exchange_at-returns-in-empty-clause-other_list : goal.exchange_at-returns-in-empty-clause-other_list
exchange_at-returns-in-empty-clause-other_list g t c =
    ap below_node c.swap.ensures.y_after ∙ spliced_all c.args.names.now _ _ (nil_from_length c.args.names.now (omega arith))

pub exchange_at-returns-in-empty-clause-count : goal.exchange_at-returns-in-empty-clause-count
exchange_at-returns-in-empty-clause-count g t c =
    let none = nil_from_length c.args.names.now (omega arith) in
    let given = under_all (below_node c.args.node.now) c.args.names.now none in
    let got = under_all (below_node c.args.other.now) c.args.names.now none in
    let new = ap (λ n. length (below_node n)) c.swap.ensures.x_after in
    omega (arith, given, got, new, c.requires.given, c.requires.got)

pub exchange_at-returns-in-empty-clause-other_count : goal.exchange_at-returns-in-empty-clause-other_count
exchange_at-returns-in-empty-clause-other_count g t c =
    let none = nil_from_length c.args.names.now (omega arith) in
    let given = under_all (below_node c.args.node.now) c.args.names.now none in
    let got = under_all (below_node c.args.other.now) c.args.names.now none in
    let new = ap (λ n. length (below_node n)) c.swap.ensures.y_after in
    omega (arith, given, got, new, c.requires.given, c.requires.got)

pub exchange_at-returns-in-len1-up-clause-list : goal.exchange_at-returns-in-len1-up-clause-list
exchange_at-returns-in-len1-up-clause-list g t c =
    let names = names_split c.args.names.now c.name-item.result c.in-len1-up.len_at_least c.name-item.is in
    edges_spliced c.args.node.now c.args.other.now _ c.args.names.now c.name-item.result _ names refl c.exchange_among.ensures.list

pub exchange_at-returns-in-len1-up-clause-other_list : goal.exchange_at-returns-in-len1-up-clause-other_list
exchange_at-returns-in-len1-up-clause-other_list g t c =
    let names = names_split c.args.names.now c.name-item.result c.in-len1-up.len_at_least c.name-item.is in
    edges_spliced c.args.other.now c.args.node.now _ c.args.names.now c.name-item.result _ names refl c.exchange_among.ensures.other_list

pub exchange_at-returns-in-len1-up-clause-well : goal.exchange_at-returns-in-len1-up-clause-well
exchange_at-returns-in-len1-up-clause-well g t c =
    well_counted c.args.node.now _ c.args.given c.args.got c.requires.well c.recount.ensures
    (edges_counted c.args.node.now _ c.args.given c.args.got refl c.exchange_among.ensures.count) c.exchange_among.ensures.well

pub exchange_at-returns-in-len1-up-clause-other_well : goal.exchange_at-returns-in-len1-up-clause-other_well
exchange_at-returns-in-len1-up-clause-other_well g t c =
    well_counted c.args.other.now _ c.args.got c.args.given c.requires.other_well c.recount-in-len1-up.ensures
    (edges_counted c.args.other.now _ c.args.got c.args.given refl c.exchange_among.ensures.other_count) c.exchange_among.ensures.other_well

pub exchange_at-returns-in-len1-up-clause-count : goal.exchange_at-returns-in-len1-up-clause-count
exchange_at-returns-in-len1-up-clause-count g t c = edges_counted c.args.node.now _ c.args.given c.args.got refl c.exchange_among.ensures.count

pub exchange_at-returns-in-len1-up-clause-other_count : goal.exchange_at-returns-in-len1-up-clause-other_count
exchange_at-returns-in-len1-up-clause-other_count g t c = edges_counted c.args.other.now _ c.args.got c.args.given refl c.exchange_among.ensures.other_count
