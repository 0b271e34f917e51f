use Rattle.std.proofs.Common.{rules, ◌∙◌, ap, refl, Some}
use Rattle.std.specs.List.{filter}
use Rattle.std.specs.Option.{option_map}
use Rattle.ticket_book.specs.Below.{numbers_at}
use Rattle.ticket_book.specs.ByPath.{is_other}
use Rattle.ticket_book.proofs.BelowLemmas.{none_turned, one_changed, one_turned}
use Rattle.ticket_book.proofs.below.drop_from.Goals as goal

pub returns-in-Some-clause-numbers : goal.returns-in-Some-clause-numbers
returns-in-Some-clause-numbers c =
    one_turned (option_map (filter (is_other c.args.number))) c.args.names.now (λ q. numbers_at q c.args.below.now) (λ q. numbers_at q (c.get_mut.follows.lender c.drop.new.self))
    (Some c.drop.new.self) (ap (λ ns. Some ns) c.drop.ensures ∙ ap (option_map (filter (is_other c.args.number))) c.in-Some.ensures.value)
    (one_changed c.args.names.now c.args.below.now (c.get_mut.follows.lender c.drop.new.self) (Some c.drop.new.self) ((c.get_mut.follows.holds c.drop.new.self).3 (search rules)))

pub returns-in-None-clause-numbers : goal.returns-in-None-clause-numbers
returns-in-None-clause-numbers c =
    none_turned (option_map (filter (is_other c.args.number))) c.args.names.now (λ q. numbers_at q c.args.below.now) (λ q. numbers_at q c.get_mut.follows.lender-at-none)
    c.in-None.ensures.value refl (λ q. search rules)
