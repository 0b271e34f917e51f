use Rattle.std.proofs.Common.{◌+◌, suc, arith, refl, ap, get_or, sym, ◌∙◌}
use Rattle.std.proofs.lemmas.List.{nil_from_length}
use Rattle.path_trie.proofs.Kept.{child_well, in_order, names_split, well_edges}
use Rattle.path_trie.proofs.Beyond.{beyond_law, beyond_root}
use Rattle.path_trie.proofs.Seeks.{behind_gap, behind_next, behind_some, rest_from, well_from}
use Rattle.path_trie.specs.Entries.{is_beyond}
use Rattle.path_trie.proofs.seek.+behind_at.Goals as goal

pub first_unless-requires : goal.first_unless-requires
first_unless-requires g t c = well_edges c.args.node.now c.deref.result.now c.deref.ensures.value c.requires

pub place_of-requires : goal.place_of-requires
place_of-requires g t c = in_order c.deref-in-len1-up.result.now (well_edges c.args.node.now c.deref-in-len1-up.result.now c.deref-in-len1-up.ensures.value c.requires)

pub behind_at-requires : goal.behind_at-requires
behind_at-requires g t c κs within =
    let same = c.deref-in-len1-up.ensures.value in
    let es = c.deref-in-len1-up.result.now in
    (omega arith, (within, child_well es c.in-Ok.place c.index.result.now (well_edges c.args.node.now es same c.requires) c.in-Ok.ensures.within (c.index.ensures ∙ ap (λ t. get_or t c.in-Ok.place c.index.result.now) (sym same))))

pub first_among-requires : goal.first_among-requires
first_among-requires g t c =
    well_from c.deref-in-None.result.now c.deref-in-None.result.now _ refl (well_edges c.args.node.now c.deref-in-None.result.now c.deref-in-None.ensures.value c.requires)

pub first_among-requires-in-Err : goal.first_among-requires-in-Err
first_among-requires-in-Err g t c =
    well_from c.deref-in-Err.result.now c.deref-in-Err.result.now _ refl (well_edges c.args.node.now c.deref-in-Err.result.now c.deref-in-Err.ensures.value c.requires)

pub returns-in-empty : goal.returns-in-empty
returns-in-empty g t c =
    c.first_unless.ensures ∙ beyond_root c.args.node.now c.deref.result.now c.args.names.now c.args.past c.deref.ensures.value (nil_from_length c.args.names.now (omega arith))

pub returns-in-Some : goal.returns-in-Some
returns-in-Some g t c =
    let same = c.deref-in-len1-up.ensures.value in
    let es = c.deref-in-len1-up.result.now in
    let names = names_split c.args.names.now c.name-item.result c.in-len1-up.len_at_least c.name-item.is in
    behind_some (is_beyond c.args.past) (beyond_law c.args.past) c.args.node.now es c.args.names.now c.name-item.result _ c.in-Ok.place c.index.result.now c.in-Some.value.now same names
    (well_edges c.args.node.now es same c.requires) c.in-Ok.ensures.within c.in-Ok.ensures.found (c.index.ensures ∙ ap (λ t. get_or t c.in-Ok.place c.index.result.now) (sym same))
    c.in-Some.ensures

pub returns-in-None : goal.returns-in-None
returns-in-None g t c =
    let same = c.deref-in-len1-up.ensures.value in
    let es = c.deref-in-len1-up.result.now in
    let names = names_split c.args.names.now c.name-item.result c.in-len1-up.len_at_least c.name-item.is in
    c.first_among.ensures
    ∙ behind_next (is_beyond c.args.past) (beyond_law c.args.past) c.args.node.now es c.args.names.now c.name-item.result _ c.in-Ok.place c.index.result.now _ same names
    (well_edges c.args.node.now es same c.requires) c.in-Ok.ensures.within c.in-Ok.ensures.found (c.index.ensures ∙ ap (λ t. get_or t c.in-Ok.place c.index.result.now) (sym same))
    c.in-None.ensures (rest_from es c.deref-in-None.result.now (c.in-Ok.place + 1) (suc c.in-Ok.place) (c.deref-in-None.ensures.value ∙ sym same) (omega arith))

pub returns-in-Err : goal.returns-in-Err
returns-in-Err g t c =
    let same = c.deref-in-len1-up.ensures.value in
    let es = c.deref-in-len1-up.result.now in
    let names = names_split c.args.names.now c.name-item.result c.in-len1-up.len_at_least c.name-item.is in
    c.first_among-in-Err.ensures
    ∙ behind_gap (is_beyond c.args.past) (beyond_law c.args.past) c.args.node.now es c.args.names.now c.name-item.result _ c.in-Err.place _ same names c.in-Err.ensures.before c.in-Err.ensures.behind
    (rest_from es c.deref-in-Err.result.now _ _ (c.deref-in-Err.ensures.value ∙ sym same) refl)
