use Rattle.std.proofs.Common.{get_or, ap, sym, ◌∙◌, arith}
use Rattle.std.proofs.lemmas.List.{nil_from_length}
use Rattle.path_trie.proofs.Kept.{child_well, in_order, names_split, well_edges}
use Rattle.path_trie.proofs.WalkLemmas.{cover_absent, cover_below, cover_nowhere, cover_own}
use Rattle.path_trie.proofs.walk.+cover_at.Goals as goal

pub place_of-requires : goal.place_of-requires
place_of-requires g t c = in_order c.deref.result.now (well_edges c.args.node.now c.deref.result.now c.deref.ensures.value c.requires.well)

pub cover_at-requires : goal.cover_at-requires
cover_at-requires g t c κs within =
    let same = c.deref.ensures.value in
    (omega arith, (within.0, (within.1, (child_well c.deref.result.now c.in-Ok.place c.index.result.now (well_edges c.args.node.now c.deref.result.now same c.requires.well) c.in-Ok.ensures.within (c.index.ensures ∙ ap (λ t. get_or t c.in-Ok.place c.index.result.now) (sym same)), omega arith))))

pub returns-in-Some-clause-value : goal.returns-in-Some-clause-value
returns-in-Some-clause-value g t c = cover_own c.args.node.now _ c.args.names.now c.args.depth c.in-Some.is

pub returns-in-empty-clause-value : goal.returns-in-empty-clause-value
returns-in-empty-clause-value g t c = cover_nowhere c.args.node.now c.args.names.now c.args.depth c.in-None.is (nil_from_length c.args.names.now (omega arith))

pub returns-in-Ok-clause-value : goal.returns-in-Ok-clause-value
returns-in-Ok-clause-value g t c =
    let same = c.deref.ensures.value in
    let names = names_split c.args.names.now c.name-item.result c.in-len1-up.len_at_least c.name-item.is in
    c.cover_at.ensures.value
    ∙ cover_below c.args.node.now c.deref.result.now c.args.names.now c.name-item.result _ c.args.depth c.in-Ok.place c.index.result.now c.in-None.is same names
    (well_edges c.args.node.now c.deref.result.now same c.requires.well) c.in-Ok.ensures.within c.in-Ok.ensures.found (c.index.ensures ∙ ap (λ t. get_or t c.in-Ok.place c.index.result.now) (sym same))

pub returns-in-Err-clause-value : goal.returns-in-Err-clause-value
returns-in-Err-clause-value g t c =
    let names = names_split c.args.names.now c.name-item.result c.in-len1-up.len_at_least c.name-item.is in
    cover_absent c.args.node.now c.deref.result.now c.args.names.now c.name-item.result _ c.args.depth c.in-Err.field-0 c.in-None.is c.deref.ensures.value names c.in-Err.ensures.before c.in-Err.ensures.behind
