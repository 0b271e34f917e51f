use Rattle.std.proofs.Common.{rules, Some, ◌∷◌, ◌∙◌, ap, sym}
use Rattle.atomic_table.specs.Table.{rest}
use Rattle.hall_lock.proofs.TurnLemmas.{acted_from}
use Rattle.hall_lock.proofs.steps.serve.Goals as goal

pub exchange-requires : goal.exchange-requires
exchange-requires g c = let v = c.requires.value in (search rules, (Some v.0, v.1 ∙ ap (λ l. (0, Some v.0) ∷ rest l) (sym v.1)))

pub returns-clause-acted : goal.returns-clause-acted
returns-clause-acted g c =
    let v = c.requires.value in let p = c.exchange.ensures in let a = c.act.ensures in let e = c.exchange-left.ensures in
    acted_from _ _ _ _ _ c.args.seat.now.me c.exchange.new.seat.me _ v.0 c.exchange.result c.unwrap-value.result c.act.new.value c.length-before.result c.length-length.result _
    v.1 p.2 c.unwrap-value.ensures p.3 v.2 a.base a.history a.does c.length-before.ensures c.length-length.ensures (search rules) (search rules) e.3
