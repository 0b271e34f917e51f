use Rattle.std.proofs.Common.{arith, ◌≡◌, ◌∙◌, ap, cond}
use Rattle.ticket_book.specs.Below.{is_start, numbers_at}
use Rattle.ticket_book.specs.ByPath.{numbers_less}
use Rattle.ticket_book.proofs.BelowLemmas.{next_start, no_start}
use Rattle.ticket_book.proofs.below.drop_some.Goals as goal

pub loop-k-init : goal.loop-k-init
loop-k-init c = λ at. no_start c.args.names.now at _ _

pub loop-k-preserved : goal.loop-k-preserved
loop-k-preserved c =
    let most = c.requires in
    let more = c.loop-k-test.true in
    next_start (numbers_less c.args.number) c.args.names.now c.loop-k.k (λ q. numbers_at q c.args.below.now) (λ q. numbers_at q c.loop-k.below) (λ q. numbers_at q c.drop_number.new.below)
    (omega (arith, most, more)) c.loop-k.invariant c.drop_number.ensures

pub returns : goal.returns
returns c = λ at.
    let low = c.loop-k.auto.k-end in
    let high = c.loop-k-test.false in
    let same : c.loop-k.k ≡ c.args.count = omega (arith, low, high) in
    c.loop-k.invariant at
    ∙ ap (λ k. cond (is_start k c.args.names.now at) (numbers_less c.args.number (numbers_at at c.args.below.now)) (numbers_at at c.args.below.now)) same
