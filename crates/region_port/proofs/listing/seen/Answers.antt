use Rattle.std.proofs.Common.{arith, ◌∙◌}
use Rattle.region_port.proofs.Shown.{lists-seen, many-seen}
use Rattle.region_port.proofs.listing.seen.Goals as goal

pub returns-then-len-gt-MOST_NODES-clause-listed : goal.returns-then-len-gt-MOST_NODES-clause-listed
returns-then-len-gt-MOST_NODES-clause-listed c =
    many-seen c.args.path.now c.args.entries.now c.in-Ok.forms.entries c.len.ensures.ordered (omega (arith, c.len.ensures.len, c.if-len-gt-MOST_NODES.true)) c.in-Ok.ensures.ok

pub returns-in-Ok-seen_in-clause-listed : goal.returns-in-Ok-seen_in-clause-listed
returns-in-Ok-seen_in-clause-listed c =
    lists-seen c.args.path.now c.args.entries.now c.in-Ok.forms.entries c.of.result (c.of.ensures ∙ c.in-Ok-seen_in.ensures.ok) c.len.ensures.ordered
    (omega (arith, c.len.ensures.len, c.if-len-gt-MOST_NODES.false)) c.in-Ok.ensures.ok
