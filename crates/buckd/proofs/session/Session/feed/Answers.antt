use Rattle.std.proofs.Common.{refl}
use Rattle.buckd.specs.declared.session.Fed.TheVariants as fed
use Rattle.buckd.proofs.RunLemmas.{carried_more, carried_over, cause_after}
use Rattle.buckd.proofs.session.Session.feed.Goals as goal

pub returns-in-Ended-clause-fed : goal.returns-in-Ended-clause-fed
returns-in-Ended-clause-fed g c =
    carried_over c.args.piece.now c.lines.rest.now c.in-Some.line.now c.in-Some.next.now _ (g.T.Sink.out c.lines.output) _ _ c.lines.self _ fed.Ended refl
    c.lines.invariant.carried c.in-Some.ensures c.in-Ended.ensures.fed

pub returns-in-Failed-clause-fed : goal.returns-in-Failed-clause-fed
returns-in-Failed-clause-fed g c =
    carried_over c.args.piece.now c.lines.rest.now c.in-Some.line.now c.in-Some.next.now _ (g.T.Sink.out c.lines.output) _ _ c.lines.self _ fed.Failed refl
    c.lines.invariant.carried c.in-Some.ensures c.in-Failed.ensures.fed

pub returns-in-NoMemory-clause-fed : goal.returns-in-NoMemory-clause-fed
returns-in-NoMemory-clause-fed g c =
    carried_over c.args.piece.now c.lines.rest.now c.in-Some.line.now c.in-Some.next.now _ (g.T.Sink.out c.lines.output) _ _ c.lines.self c.end_line.new.self fed.NoMemory refl
    c.lines.invariant.carried c.in-Some.ensures c.in-NoMemory.ensures.fed

pub lines-preserved : goal.lines-preserved
lines-preserved g c = record {
  sound = c.in-Going.ensures.sound;
  small = c.in-Going.ensures.small;
  carried = carried_more c.args.piece.now c.lines.rest.now c.in-Some.line.now c.in-Some.next.now _ (g.T.Sink.out c.lines.output) _ _ c.lines.self _
      c.lines.invariant.carried c.in-Some.ensures c.in-Going.ensures.fed;
  faults = (cause_after _ _ _ _ c.lines.invariant.faults c.in-Going.ensures.cause).later;
}
