use Rattle.std.proofs.Common.{sym, ap, ◌∙◌, arith}
use Rattle.std.specs.Option.{option_map}
use Rattle.std.proofs.lemmas.Option.{slice_get_within}
use Rattle.mat_model.specs.WorkState.{path_of_debris}
use Rattle.mat_core.proofs.ChoosingLemmas.{walk_end, walk_found, walk_on}
use Rattle.mat_core.proofs.choosing.first_debris.Goals as goal

pub returns-then-may_wipe : goal.returns-then-may_wipe
returns-then-may_wipe c =
    ap (option_map path_of_debris)
    (sym (walk_found _ c.args.debris.now.list c.debris.place _ (sym c.in-Some.ensures) (sym c.may_wipe.ensures ∙ c.if-may_wipe.true)) ∙ c.debris.invariant)

pub overflow_add-place : goal.overflow_add-place
overflow_add-place c =
    let less = slice_get_within c.args.debris.now.list c.debris.place _ (sym c.in-Some.ensures) in
    let most = c.len-most.ensures in omega (arith, less, most)

pub debris-smaller : goal.debris-smaller
debris-smaller c = let less = slice_get_within c.args.debris.now.list c.debris.place _ (sym c.in-Some.ensures) in omega (arith, less)

pub debris-preserved : goal.debris-preserved
debris-preserved c =
    walk_on _ c.args.debris.now.list c.debris.place _ (sym c.in-Some.ensures) (sym c.may_wipe.ensures ∙ c.if-may_wipe.false) ∙ c.debris.invariant

pub returns : goal.returns
returns c =
    ap (option_map path_of_debris) (sym (walk_end _ c.args.debris.now.list c.debris.place (sym c.in_default.ensures)) ∙ c.debris.invariant)
