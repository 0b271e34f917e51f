use Rattle.buckd.proofs.TextsLemmas.{answer_lines_more}
use Rattle.buckd.proofs.texts.push_answer_lines.Goals as goal

pub loop-step-preserved : goal.loop-step-preserved
loop-step-preserved c =
    answer_lines_more c.args.out.now.items c.loop-step.out.items c.push_ticket_lines.new.out.items c.args.number c.loop-step.step c.args.tickets.now
    c.loop-step.invariant c.in_ok-push_ticket_lines.ensures.ok
