use Rattle.std.proofs.Common.{rules, arith, ◌≡◌, true}
use Rattle.std.specs.Result.{is_ok}
use Rattle.ticket_book.specs.Below.{numbers_at}
use Rattle.ticket_book.specs.ByPath.{numbers_with}
use Rattle.ticket_book.proofs.BelowLemmas.{chosen, next_start, no_start}
use Rattle.ticket_book.proofs.below.add_some.Goals as goal

pub loop-count-init : goal.loop-count-init
loop-count-init c = λ at. no_start c.args.names.now at _ _

pub loop-count-preserved : goal.loop-count-preserved
loop-count-preserved c =
    let most = c.loop-count-test.true in
    let added : is_ok c.add.result ≡ true = search rules in
    next_start (numbers_with c.args.number) c.args.names.now c.loop-count.count (λ q. numbers_at q c.args.below.now) (λ q. numbers_at q c.loop-count.below) (λ q. numbers_at q c.add.new.below)
    (omega (arith, most)) c.loop-count.invariant (λ q. chosen _ _ _ _ added (c.add.ensures q))
