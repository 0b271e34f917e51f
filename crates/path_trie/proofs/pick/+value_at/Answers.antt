use Rattle.std.proofs.Common.{arith, refl, ap, get_or, sym, ◌∙◌}
use Rattle.std.specs.Cmp.{first_so}
use Rattle.path_trie.proofs.Kept.{child_edge, child_well, well_edges}
use Rattle.path_trie.proofs.Picks.{child_shorter, picked_among, picked_below, picked_none, picked_own}
use Rattle.path_trie.proofs.pick.+value_at.Goals as goal

pub place_among-requires : goal.place_among-requires
place_among-requires g t c = well_edges c.args.node.now c.deref.result.now c.deref.ensures.value c.requires

pub value_at-requires : goal.value_at-requires
value_at-requires g t c κs within =
    let same = c.deref.ensures.value in
    let well = well_edges c.args.node.now c.deref.result.now same c.requires in
    let is = c.index.ensures ∙ ap (λ t. get_or t c.in-Some.place c.index.result.now) (sym same) in
    let shorter = child_shorter c.args.node.now c.deref.result.now c.in-Some.place c.index.result.now same c.in-Some.ensures.some.within is
    (first_so _ _ (child_edge c.deref.result.now c.in-Some.place c.index.result.now well c.in-Some.ensures.some.within is)) in
    (omega (arith, shorter), (within, child_well c.deref.result.now c.in-Some.place c.index.result.now well c.in-Some.ensures.some.within is))

pub returns-then-k-own : goal.returns-then-k-own
returns-then-k-own g t c = c.as_ref.ensures.value ∙ picked_own c.args.node.now _ c.args.k refl (omega (arith, c.own_len-own.ensures, c.if-k-own.true))

pub returns-in-Some : goal.returns-in-Some
returns-in-Some g t c =
    let same = c.deref.ensures.value in
    let is = c.index.ensures ∙ ap (λ t. get_or t c.in-Some.place c.index.result.now) (sym same) in
    c.value_at.ensures
    ∙ picked_among c.deref.result.now _ c.in-Some.place c.in-Some.left c.index.result.now c.in-Some.ensures.some is
    ∙ picked_below c.args.node.now c.deref.result.now c.args.k _ same c.own_len-own.ensures (omega arith)

pub returns-in-None : goal.returns-in-None
returns-in-None g t c =
    picked_none c.deref.result.now _ c.in-None.ensures.none
    ∙ picked_below c.args.node.now c.deref.result.now c.args.k _ c.deref.ensures.value c.own_len-own.ensures (omega arith)
