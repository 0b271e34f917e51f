use Rattle.std.proofs.Common.{rules, Some}
use Rattle.ticket_book.specs.Below.{numbers_at}
use Rattle.ticket_book.proofs.BelowLemmas.{first_put, one_changed}
use Rattle.ticket_book.proofs.below.add_first.Goals as goal

pub returns : goal.returns
returns c =
    first_put c.args.names.now c.in_ok-key.key.items c.args.number c.add.new.self (λ q. numbers_at q c.args.below.now) (λ q. numbers_at q c.insert.new.self) c.in_ok-key.ensures (search rules)
    (one_changed c.in_ok-key.key.items c.args.below.now c.insert.new.self (Some c.add.new.self) c.in_ok-insert.ensures.updates)
