use Rattle.std.proofs.Common.{rules}
use Rattle.mat_model.specs.declared.book.Hold.{Hold}
use Rattle.holder_book.proofs.CountLemmas.{counted_pushed}
use Rattle.holder_book.proofs.book.HolderBook.hold.Goals as goal

pub invariant_of-self-2 : goal.invariant_of-self-2
invariant_of-self-2 c =
    let new : Hold = record { command = c.args.command; path = c.in_ok-path.path } in
    counted_pushed c.self.inside.holds.items c.push_reserved.new.self.items c.self.inside.counts c.add_one.new.counts new c.self.invariant
    (search rules) (search rules)
