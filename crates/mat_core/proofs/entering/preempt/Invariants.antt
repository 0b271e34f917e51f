use Rattle.std.proofs.Common.{◌≡◌, map, filter, drop}
use Rattle.mat_model.specs.Requests.{is_hold_beside, preempted_ticket}
use Rattle.mat_core.proofs.entering.preempt.Given as goal

-- what the commands that are left lead to is what all lead to
abbrev pub invariant-loop-gone : goal.invariant-loop-gone
invariant-loop-gone l =
    (filter (is_hold_beside (drop l.gone-index l.commands)) l.holds ≡ filter (is_hold_beside l.commands) l.fn.holds)
    × (map (preempted_ticket l.number l.command (drop l.gone-index l.commands)) l.tickets.all
    ≡ map (preempted_ticket l.number l.command l.commands) l.fn.tickets.all)
