use Rattle.std.proofs.Common.{◌∙◌, sym, ap, nat_le}
use Rattle.std.specs.List.{find}
use Rattle.path_trie.proofs.Lists.{first_of}
use Rattle.ticket_book.proofs.NumberLemmas.{next_found}
use Rattle.ticket_book.proofs.numbers.Numbers.next.Goals as goal

pub returns-in-Some : goal.returns-in-Some
returns-in-Some c =
    ap first_of (sym c.in-Some.ensures.steps)
    ∙ next_found c.args.from c.self.inside.set.keys c.range.result (c.range.ensures.between tt)
    ∙ ap (find (nat_le c.args.from)) c.self.view_is

pub returns-in-None : goal.returns-in-None
returns-in-None c =
    ap first_of (sym c.in-None.ensures.steps.0)
    ∙ next_found c.args.from c.self.inside.set.keys c.range.result (c.range.ensures.between tt)
    ∙ ap (find (nat_le c.args.from)) c.self.view_is
