use Rattle.std.proofs.Common.{◌++◌, get_or, ap, sym, ◌∙◌, arith}
use Rattle.std.proofs.lemmas.List.{nil_from_length}
use Rattle.path_trie.specs.Entries.{value_at}
use Rattle.path_trie.specs.Nodes.{below_node}
use Rattle.path_trie.proofs.Kept.{child_well, in_order, names_split, value_edges, value_found, value_none, well_edges}
use Rattle.path_trie.proofs.find.+get_below.Goals as goal

pub place_of-requires : goal.place_of-requires
place_of-requires g t c = in_order c.deref.result.now (well_edges c.args.node.now c.deref.result.now c.deref.ensures.value c.requires)

pub get_below-requires : goal.get_below-requires
get_below-requires g t c κs within =
    let same = c.deref.ensures.value in
    (omega arith, (within, child_well c.deref.result.now c.in-Ok.place c.index.result.now (well_edges c.args.node.now c.deref.result.now same c.requires) c.in-Ok.ensures.within (c.index.ensures ∙ ap (λ t. get_or t c.in-Ok.place c.index.result.now) (sym same))))

pub returns-in-empty : goal.returns-in-empty
returns-in-empty g t c = c.get_at.ensures ∙ ap (λ t. value_at (t ++ c.args.more.now) (below_node c.args.node.now)) (sym (nil_from_length c.args.names.now (omega arith)))

pub returns-in-Ok : goal.returns-in-Ok
returns-in-Ok g t c =
    let same = c.deref.ensures.value in
    let names = names_split c.args.names.now c.name-item.result c.in-len1-up.len_at_least c.name-item.is in
    c.get_below.ensures
    ∙ sym (value_found c.deref.result.now c.name-item.result _ c.in-Ok.place c.index.result.now (well_edges c.args.node.now c.deref.result.now same c.requires) c.in-Ok.ensures.within c.in-Ok.ensures.found (c.index.ensures ∙ ap (λ t. get_or t c.in-Ok.place c.index.result.now) (sym same)))
    ∙ sym (value_edges c.args.node.now c.deref.result.now c.name-item.result _ same)
    ∙ ap (λ t. value_at (t ++ c.args.more.now) (below_node c.args.node.now)) (sym names)

pub returns-in-Err : goal.returns-in-Err
returns-in-Err g t c =
    let names = names_split c.args.names.now c.name-item.result c.in-len1-up.len_at_least c.name-item.is in
    sym (value_none c.deref.result.now c.name-item.result _ c.in-Err.field-0 c.in-Err.ensures.before c.in-Err.ensures.behind)
    ∙ sym (value_edges c.args.node.now c.deref.result.now c.name-item.result _ c.deref.ensures.value)
    ∙ ap (λ t. value_at (t ++ c.args.more.now) (below_node c.args.node.now)) (sym names)
