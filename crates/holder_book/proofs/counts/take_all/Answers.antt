use Rattle.std.proofs.Common.{rules}
use Rattle.holder_book.proofs.CountLemmas.{next_less, next_other}
use Rattle.holder_book.proofs.counts.take_all.Goals.{then-hold-command, else-hold-command}
use Rattle.holder_book.proofs.counts.take_all.Goals as goal

pub loop-hold-preserved : goal.loop-hold-preserved
loop-hold-preserved c = elim c.if-hold-command.branch [
  | then-hold-command w ↦
      next_less c.args.command c.args.holds.now c.loop-hold.hold-index c.hold-item.result _ _ c.loop-hold-test.true c.hold-item.is (search (rules, w))
      (search (rules, w)) c.loop-hold.invariant
  | else-hold-command w ↦
      next_other c.args.command c.args.holds.now c.loop-hold.hold-index c.hold-item.result _ _ c.loop-hold-test.true c.hold-item.is (search (rules, w))
      (search (rules, w)) c.loop-hold.invariant
]
