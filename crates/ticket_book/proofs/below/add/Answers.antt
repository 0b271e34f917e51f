use Rattle.std.proofs.Common.{rules, Some}
use Rattle.std.specs.Result.{is_ok}
use Rattle.ticket_book.specs.Below.{numbers_at}
use Rattle.ticket_book.proofs.BelowLemmas.{more_first, more_put, one_changed}
use Rattle.ticket_book.proofs.below.add.Goals as goal

pub returns-in_default : goal.returns-in_default
returns-in_default c =
    more_first c.args.names.now c.args.number (is_ok c.add_first.result) (λ q. numbers_at q c.args.below.now) (λ q. numbers_at q c.get_mut.follows.lender-at-none) (λ q. numbers_at q c.add_first.new.below)
    c.in_default.ensures.value (λ q. search rules) c.add_first.ensures

pub returns : goal.returns
returns c =
    more_put c.args.names.now c.args.number (is_ok c.add.result) c.in-Some.numbers.now c.add.new.self (λ q. numbers_at q c.args.below.now) (λ q. numbers_at q (c.get_mut.follows.lender c.add.new.self))
    c.in-Some.ensures.value c.add.ensures
    (one_changed c.args.names.now c.args.below.now (c.get_mut.follows.lender c.add.new.self) (Some c.add.new.self) ((c.get_mut.follows.holds c.add.new.self).3 (search rules)))
