use Rattle.std.proofs.Common.{get_or, ap, sym, ◌∙◌, not, arith}
use Rattle.std.proofs.lemmas.List.{nil_from_length}
use Rattle.path_trie.proofs.Kept.{child_well, in_order, names_split, well_edges}
use Rattle.path_trie.proofs.WalkLemmas.{not_not, over_absent, over_below, over_own, over_root}
use Rattle.path_trie.proofs.walk.+overlaps_at.Goals as goal

pub place_of-requires : goal.place_of-requires
place_of-requires g t c = in_order c.deref.result.now (well_edges c.args.node.now c.deref.result.now c.deref.ensures.value c.requires)

pub overlaps_at-requires : goal.overlaps_at-requires
overlaps_at-requires g t c κs within =
    let same = c.deref.ensures.value in
    (omega arith, (within, child_well c.deref.result.now c.in-Ok.place c.index.result.now (well_edges c.args.node.now c.deref.result.now same c.requires) c.in-Ok.ensures.within (c.index.ensures ∙ ap (λ t. get_or t c.in-Ok.place c.index.result.now) (sym same))))

pub returns-in-Some : goal.returns-in-Some
returns-in-Some g t c = over_own c.args.node.now _ c.args.names.now c.in-Some.is

pub returns-in-empty : goal.returns-in-empty
returns-in-empty g t c = ap not c.is_bare.ensures ∙ not_not _ ∙ over_root c.args.node.now c.args.names.now (nil_from_length c.args.names.now (omega arith))

pub returns-in-Ok : goal.returns-in-Ok
returns-in-Ok g t c =
    let same = c.deref.ensures.value in
    let names = names_split c.args.names.now c.name-item.result c.in-len1-up.len_at_least c.name-item.is in
    c.overlaps_at.ensures
    ∙ over_below c.args.node.now c.deref.result.now c.args.names.now c.name-item.result _ c.in-Ok.place c.index.result.now c.in-None.is same names
    (well_edges c.args.node.now c.deref.result.now same c.requires) c.in-Ok.ensures.within c.in-Ok.ensures.found (c.index.ensures ∙ ap (λ t. get_or t c.in-Ok.place c.index.result.now) (sym same))

pub returns-in-Err : goal.returns-in-Err
returns-in-Err g t c =
    let names = names_split c.args.names.now c.name-item.result c.in-len1-up.len_at_least c.name-item.is in
    over_absent c.args.node.now c.deref.result.now c.args.names.now c.name-item.result _ c.in-Err.field-0 c.in-None.is c.deref.ensures.value names c.in-Err.ensures.before c.in-Err.ensures.behind
