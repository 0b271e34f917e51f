use Rattle.std.proofs.Common.{IsSome, sym, refl, subst, ◌∙◌}
use Rattle.hall_lock.specs.Told.{IsClosed}
use Rattle.hall_lock.proofs.OrderKept.{taken_out, same_some}
use Rattle.hall_lock.proofs.closing.take_out.Goals as goal

pub unwrap-requires : goal.unwrap-requires
unwrap-requires g c =
    let t = taken_out _ _ _ _ _ _ _ _ c.take-value.result c.requires.rests c.requires.all c.close_with-closed.ensures.values.2 c.take-value.ensures.value in
    subst IsSome (sym t.1) refl

pub returns : goal.returns
returns g c =
    let t = taken_out _ _ _ _ _ _ _ _ c.take-value.result c.requires.rests c.requires.all c.close_with-closed.ensures.values.2 c.take-value.ensures.value in
    record { closed = subst (IsClosed g.T.Chronicle.by g.T.Chronicle.history g.T.Chronicle.base c.args.table.shared.key c.args.seat.me.0) (same_some t.0 c.unwrap.result (sym t.1 ∙ c.unwrap.ensures)) t.2 }
