use Rattle.std.proofs.Common.{◌∙◌, sym, ap, not, nat_eq, List}
use Rattle.std.specs.List.{list_any}
use Rattle.mat_model.specs.declared.book.Hold.{Hold}
use Rattle.mat_model.specs.Tickets.{is_hold}
use Rattle.holder_book.proofs.HeldLemmas.{none_on}
use Rattle.holder_book.proofs.book.HolderBook.has.Goals as goal

pub returns-else-count_at-ne0 : goal.returns-else-count_at-ne0
returns-else-count_at-ne0 c =
    ap (λ n. not (nat_eq n 0)) c.if-count_at-ne0.false
    ∙ sym (none_on _ _ c.args.command c.args.path.now c.self.invariant (sym c.count_at.ensures ∙ c.if-count_at-ne0.false))
    ∙ ap (λ (hs : List Hold). list_any (is_hold c.args.command c.args.path.now) hs) c.self.view_is
