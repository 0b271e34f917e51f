use Rattle.std.proofs.Common.{rules, ◌≡◌, ◌∙◌, ◌++◌, ap, sym, subst, drop, length, slice_get}
use Rattle.mat_core.proofs.ListLemmas.{copied_all, copied_on, waiter_next, waiter_none, waiter_some}
use Rattle.mat_core.proofs.listing.copy_waiting.Goals as goal

pub waiting-preserved : goal.waiting-preserved
waiting-preserved c =
    let size : c.len.result ≡ length c.waiting.copies.items = search rules in
    subst (λ cs. cs ++ drop (length cs) c.args.gate.now.waiting ≡ c.args.gate.now.waiting) (sym c.in_ok-push.ensures.items)
    (copied_on c.waiting.copies.items c.args.gate.now.waiting (record { command = c.in-Some.command; state = c.in-Some.state })
    (ap (slice_get c.args.gate.now.waiting) (sym size)
    ∙ waiter_some (slice_get c.args.gate.now.waiting c.len.result) c.in-Some.command c.in-Some.state
    (c.in-Some.ensures ∙ waiter_next c.len.result c.args.gate.now)) c.waiting.invariant)

pub returns : goal.returns
returns c =
    let size : c.len.result ≡ length c.waiting.copies.items = search rules in
    copied_all c.waiting.copies.items c.args.gate.now.waiting
    (ap (slice_get c.args.gate.now.waiting) (sym size)
    ∙ waiter_none (slice_get c.args.gate.now.waiting c.len.result) (c.in_default.ensures ∙ waiter_next c.len.result c.args.gate.now))
    c.waiting.invariant
