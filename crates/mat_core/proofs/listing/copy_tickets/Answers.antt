use Rattle.std.proofs.Common.{rules, ◌≡◌, ◌∙◌, ◌++◌, Some, ap, sym, subst, drop, length, slice_get}
use Rattle.mat_core.proofs.ListLemmas.{copied_all, copied_on}
use Rattle.mat_core.proofs.listing.copy_tickets.Goals as goal

pub tickets-preserved : goal.tickets-preserved
tickets-preserved c =
    let size : c.len.result ≡ length c.tickets.copies.items = search rules in
    subst (λ cs. cs ++ drop (length cs) c.args.tickets.now.all ≡ c.args.tickets.now.all) (sym c.in_ok-push.ensures.items)
    (copied_on c.tickets.copies.items c.args.tickets.now.all c.in_ok-copy.field-0
    (ap (slice_get c.args.tickets.now.all) (sym size) ∙ sym c.in-Some.ensures ∙ ap Some (sym c.in_ok-copy.ensures.ok)) c.tickets.invariant)

pub returns : goal.returns
returns c =
    let size : c.len.result ≡ length c.tickets.copies.items = search rules in
    copied_all c.tickets.copies.items c.args.tickets.now.all
    (ap (slice_get c.args.tickets.now.all) (sym size) ∙ sym c.in_default.ensures) c.tickets.invariant
