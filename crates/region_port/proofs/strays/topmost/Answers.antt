use Rattle.std.proofs.Common.{ap, sym, subst, ◌∙◌}
use Rattle.region_port.specs.Strays.{is_below_last}
use Rattle.region_port.proofs.StrayLemmas.{Scans, scan_keeps, scan_skips}
use Rattle.region_port.proofs.strays.topmost.Goals as goal

pub paths-preserved-in-Continue-1 : goal.paths-preserved-in-Continue-1
paths-preserved-in-Continue-1 c =
    let paths = c.args.paths.keys in
    let found = c.paths.found.items in
    let path = c.in-Some.path in
    let rest = c.pop_first.new.self.keys in
    subst (λ f. Scans paths f rest) (sym c.in_ok-push.ensures.items)
    (scan_keeps paths found path rest (subst (Scans paths found) c.in-Some.ensures.removal c.paths.invariant)
    (ap (λ l. is_below_last l path) (sym c.as_slice.ensures.value) ∙ sym c.is_below_last.ensures ∙ c.if-not-is_below_last.true))

pub paths-preserved : goal.paths-preserved
paths-preserved c =
    let paths = c.args.paths.keys in
    let found = c.paths.found.items in
    let path = c.in-Some.path in
    let rest = c.pop_first.new.self.keys in
    scan_skips paths found path rest (subst (Scans paths found) c.in-Some.ensures.removal c.paths.invariant)
    (ap (λ l. is_below_last l path) (sym c.as_slice.ensures.value) ∙ sym c.is_below_last.ensures ∙ c.if-not-is_below_last.false)
