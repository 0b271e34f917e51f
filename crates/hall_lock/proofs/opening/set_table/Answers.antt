use Rattle.std.proofs.Common.{[], ◌∷◌, ◌++◌, Some, ap, ◌∙◌}
use Rattle.hall_lock.proofs.OrderKept.{opens_with}
use Rattle.hall_lock.proofs.opening.set_table.Goals as goal

pub new-made-requires : goal.new-made-requires
new-made-requires g c =
    let items = c.push_reserved.ensures.items ∙ ap (λ l. l ++ Some c.args.value ∷ []) c.in-Ok.ensures.items in
    opens_with _ _ _ _ c.args.value _ items c.of.ensures c.requires c.ranges.callers.fits
