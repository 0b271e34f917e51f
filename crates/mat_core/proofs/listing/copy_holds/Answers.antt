use Rattle.std.proofs.Common.{rules, ◌≡◌, ◌∙◌, ◌++◌, Some, ap, sym, subst, drop, length, slice_get}
use Rattle.mat_core.proofs.ListLemmas.{copied_all, copied_on, hold_none, hold_some}
use Rattle.mat_core.proofs.listing.copy_holds.Goals as goal

pub holds-preserved : goal.holds-preserved
holds-preserved c =
    let size : c.len.result ≡ length c.holds.copies.items = search rules in
    subst (λ cs. cs ++ drop (length cs) c.args.holds.now ≡ c.args.holds.now) (sym c.in_ok-push.ensures.items)
    (copied_on c.holds.copies.items c.args.holds.now (record { command = c.in-Some.command; path = c.in_ok-path.path })
    (ap (slice_get c.args.holds.now) (sym size)
    ∙ hold_some (slice_get c.args.holds.now c.len.result) c.in-Some.command c.in-Some.path.now c.in-Some.ensures
    ∙ ap (λ p. Some (record { command = c.in-Some.command; path = p })) (sym c.in_ok-path.ensures.ok)) c.holds.invariant)

pub returns : goal.returns
returns c =
    let size : c.len.result ≡ length c.holds.copies.items = search rules in
    copied_all c.holds.copies.items c.args.holds.now
    (ap (slice_get c.args.holds.now) (sym size) ∙ hold_none (slice_get c.args.holds.now c.len.result) c.in_default.ensures) c.holds.invariant
