use Rattle.std.proofs.Common.{◌∙◌, ap, arith, cond, map}
use Rattle.std.specs.List.{list_any}
use Rattle.std.specs.Prelude.{None}
use Rattle.region_port.specs.Crashes.{is_above}
use Rattle.region_port.specs.Entries.{content_of}
use Rattle.region_port.specs.Lists.{all_of}
use Rattle.region_port.proofs.Crashed.{any_above-pushed, cleared_more}
use Rattle.region_port.proofs.crash.clear_rough.Goals as goal

pub loop-segment-preserved : goal.loop-segment-preserved
loop-segment-preserved c =
    let segment = c.in-Some.segment in
    let mid = c.loop-segment.nodes in (
      λ q.
          cleared_more (content_of c.args.nodes.now q) (content_of mid q) (content_of c.clear_each.new.nodes q) (list_any (is_above q) (all_of (map (λ s. s.now) c.loop-segment.yielded)))
          (list_any (is_above q) segment.now.items) (c.loop-segment.invariant.0 q)
          (c.clear_each.ensures.content q ∙ ap (λ l. cond (list_any (is_above q) l) None (content_of mid q)) c.as_slice.ensures.value)
          ∙ ap (λ b. cond b None (content_of c.args.nodes.now q)) (any_above-pushed q c.loop-segment.yielded segment),
      omega (arith, c.clear_each.ensures.few, c.loop-segment.invariant.1),
    )
