use Rattle.std.proofs.Common.{◌∙◌, sym, None}
use Rattle.ticket_book.specs.Below.{numbers_at}
use Rattle.ticket_book.proofs.BelowLemmas.{less_bare, less_left, one_changed}
use Rattle.ticket_book.proofs.below.drop_number.Goals as goal

pub returns-then-drop_from : goal.returns-then-drop_from
returns-then-drop_from c =
    less_bare c.args.number c.args.names.now (λ q. numbers_at q c.args.below.now) (λ q. numbers_at q c.drop_from.new.below) (λ q. numbers_at q c.remove.new.self)
    c.drop_from.ensures.numbers (sym c.if-drop_from.true ∙ c.drop_from.ensures.bare)
    (one_changed c.args.names.now c.drop_from.new.below c.remove.new.self None c.remove.ensures.updates)

pub returns-else-drop_from : goal.returns-else-drop_from
returns-else-drop_from c =
    less_left c.args.number c.args.names.now (λ q. numbers_at q c.args.below.now) (λ q. numbers_at q c.drop_from.new.below) c.drop_from.ensures.numbers
    (sym c.if-drop_from.false ∙ c.drop_from.ensures.bare)
