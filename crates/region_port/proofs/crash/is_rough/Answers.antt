use Rattle.std.proofs.Common.{◌||◌, ap, sym, ◌∙◌}
use Rattle.std.specs.List.{list_any}
use Rattle.region_port.specs.Crashes.{is_above}
use Rattle.region_port.proofs.Crashed.{any_above-pushed}
use Rattle.region_port.proofs.crash.is_rough.Goals as goal

pub loop-segment-preserved-then-found : goal.loop-segment-preserved-then-found
loop-segment-preserved-then-found c =
    let path = c.args.path.now in
    c.if-found.true
    ∙ sym (ap (λ b. b || list_any (is_above path) c.in-Some.segment.now.items) (sym c.loop-segment.invariant ∙ c.if-found.true))
    ∙ any_above-pushed path c.loop-segment.yielded c.in-Some.segment

pub loop-segment-preserved : goal.loop-segment-preserved
loop-segment-preserved c =
    let path = c.args.path.now in
    c.any_above-found.ensures
    ∙ ap (list_any (is_above path)) c.as_slice.ensures.value
    ∙ sym (ap (λ b. b || list_any (is_above path) c.in-Some.segment.now.items) (sym c.loop-segment.invariant ∙ c.if-found.false))
    ∙ any_above-pushed path c.loop-segment.yielded c.in-Some.segment
