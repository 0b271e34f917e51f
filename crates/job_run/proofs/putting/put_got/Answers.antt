use Rattle.job_run.specs.Steps.{FetchingFrom, more_fetching}
use Rattle.std.proofs.Common.{ℕ, List, subst, arith, Option}
use Rattle.job_run.specs.Stages.{making_cost}
use Rattle.job_run.specs.States.{Continues}
use Rattle.job_run.specs.declared.states.Doing.TheVariants as doing
use Rattle.job_run.specs.declared.states.Filling.TheVariants as filling
use Rattle.std.proofs.Common.{Option}
use Rattle.job_run.specs.Stages.{IsMaking}
use Rattle.job_run.specs.declared.reading.Reading.{Reading}
use Rattle.job_run.specs.Failures.{Changes}
use Rattle.job_run.specs.Growing.{with_piece}
use Rattle.job_run.proofs.Puts.{got_last, got_less, got_more}
use Rattle.std.proofs.Common.{◌∙◌, ◌+◌, ◌≡◌, ◌++◌, length, length-append, ap, refl, sym}
use Rattle.job_run.specs.CourseStages.{making_course, state_course}
use Rattle.job_run.specs.Courses.{to_put}
use Rattle.job_run.specs.Stages.{filing_node}
use Rattle.job_run.specs.Pieces.{is_last, most_bytes}
use Rattle.job_run.specs.Steps.{state_spot}
use Rattle.job_run.proofs.Proceeding.{finishes, got_size, makes_part, source_spots, stays_put, whole_size}
use Rattle.job_run.proofs.putting.put_got.Goals as goal

pub after_node-requires-clause-behind : goal.after_node-requires-clause-behind
after_node-requires-clause-behind g c = λ none.
    got_last (g.R.Region.place c.args.region) (g.R.Region.place c.put_piece-failure.new.region) (g.R.Region.part c.args.region) (g.R.Region.part c.put_piece-failure.new.region)
    c.args.order c.args.filing c.args.from c.args.at c.args.piece c.put_piece-failure.result c.put_piece-failure.ensures.place
    (subst (λ (m : Option Reading). IsMaking (g.R.Region.place c.args.region) (g.R.Region.part c.args.region) c.args.order
    (doing.File c.args.filing (filling.Got c.args.from c.args.at c.args.piece m))) c.in-None.is c.requires)
    (subst (λ (l : List ℕ). Changes (with_piece c.args.filing.rel c.args.filing.exec c.args.at l) c.put_piece-failure.result
    (g.R.Region.part c.args.region) (g.R.Region.part c.put_piece-failure.new.region)) c.as_slice.ensures.value c.put_piece-failure.ensures.part) none

pub returns-in-None-clause-goes : goal.returns-in-None-clause-goes
returns-in-None-clause-goes g c =
    subst (λ (p : List (List ℕ)). Continues p c.args.order.tree c.args.order.lent
    (making_cost c.args.order (doing.File c.args.filing (filling.Got c.args.from c.args.at c.args.piece c.args.more))) c.after_node.result)
    c.put_piece-failure.ensures.place
    (c.after_node.ensures.goes (making_cost c.args.order (doing.File c.args.filing (filling.Got c.args.from c.args.at c.args.piece c.args.more))) (omega arith))

pub after_piece-requires-clause-stands : goal.after_piece-requires-clause-stands
after_piece-requires-clause-stands g c = λ none.
    got_more (g.R.Region.place c.args.region) (g.R.Region.place c.put_piece-failure.new.region) (g.R.Region.part c.args.region) (g.R.Region.part c.put_piece-failure.new.region)
    c.args.order c.args.filing c.args.from c.args.at c.args.piece c.in-Some.reading c.put_piece-failure.result c.put_piece-failure.ensures.place
    (subst (λ (m : Option Reading). IsMaking (g.R.Region.place c.args.region) (g.R.Region.part c.args.region) c.args.order
    (doing.File c.args.filing (filling.Got c.args.from c.args.at c.args.piece m))) c.in-Some.is c.requires)
    (subst (λ (l : List ℕ). Changes (with_piece c.args.filing.rel c.args.filing.exec c.args.at l) c.put_piece-failure.result
    (g.R.Region.part c.args.region) (g.R.Region.part c.put_piece-failure.new.region)) c.as_slice.ensures.value c.put_piece-failure.ensures.part) none

pub returns-in-Some-clause-goes : goal.returns-in-Some-clause-goes
returns-in-Some-clause-goes g c =
    let less = got_less (g.R.Region.place c.args.region) (g.R.Region.part c.args.region) c.args.order c.args.filing c.args.from c.args.at c.args.piece c.in-Some.reading
    (subst (λ (m : Option Reading). IsMaking (g.R.Region.place c.args.region) (g.R.Region.part c.args.region) c.args.order
    (doing.File c.args.filing (filling.Got c.args.from c.args.at c.args.piece m))) c.in-Some.is c.requires) in
    subst (λ (p : List (List ℕ)). Continues p c.args.order.tree c.args.order.lent
    (making_cost c.args.order (doing.File c.args.filing (filling.Got c.args.from c.args.at c.args.piece c.args.more))) c.after_piece.result)
    c.put_piece-failure.ensures.place
    (c.after_piece.ensures.goes (making_cost c.args.order (doing.File c.args.filing (filling.Got c.args.from c.args.at c.args.piece c.args.more))) (omega arith))

pub returns-in-None-clause-from : goal.returns-in-None-clause-from
returns-in-None-clause-from g c = λ blobs from. c.after_node.ensures.from blobs

pub returns-in-Some-clause-from : goal.returns-in-Some-clause-from
returns-in-Some-clause-from g c = λ blobs from.
    c.after_piece.ensures.from blobs (subst (λ (m : Option Reading). FetchingFrom blobs (more_fetching c.args.filing.digest c.args.from m)) c.in-Some.is from)

pub returns-in-None-clause-course : goal.returns-in-None-clause-course
returns-in-None-clause-course g c = λ none.
    let m = subst (λ (m : Option Reading). IsMaking (g.R.Region.place c.args.region) (g.R.Region.part c.args.region) c.args.order
    (doing.File c.args.filing (filling.Got c.args.from c.args.at c.args.piece m))) c.in-None.is c.requires in
    finishes c.args.order (state_spot c.after_node.result) (making_course c.args.order (doing.File c.args.filing (filling.Got c.args.from c.args.at c.args.piece c.args.more)))
    (state_course c.after_node.result) (to_put (filing_node c.args.filing)) refl (ap (is_last c.args.filing.digest.size) m.at.1.offset ∙ m.at.1.last) refl refl
    (c.after_node.ensures.begun (sym c.after_node.ensures.failure ∙ none))

pub returns-in-None-clause-makes : goal.returns-in-None-clause-makes
returns-in-None-clause-makes g c =
    let m = subst (λ (m : Option Reading). IsMaking (g.R.Region.place c.args.region) (g.R.Region.part c.args.region) c.args.order
    (doing.File c.args.filing (filling.Got c.args.from c.args.at c.args.piece m))) c.in-None.is c.requires in
    makes_part c.args.region c.put_piece-failure.new.region (making_course c.args.order (doing.File c.args.filing (filling.Got c.args.from c.args.at c.args.piece c.args.more)))
    c.put_piece-failure.result c.after_node.result c.after_node.ensures.region c.after_node.ensures.failure (
      c.args.piece.items,
      got_size c.args.filing.digest m.at.1.given c.args.piece.items c.args.at m.at.1.offset m.at.1.last m.at.1.follows,
      subst (λ (l : List ℕ). Changes (with_piece c.args.filing.rel c.args.filing.exec c.args.at l) c.put_piece-failure.result
          (g.R.Region.part c.args.region) (g.R.Region.part c.put_piece-failure.new.region)) c.as_slice.ensures.value c.put_piece-failure.ensures.part,
    )

pub returns-in-Some-clause-course : goal.returns-in-Some-clause-course
returns-in-Some-clause-course g c = λ none.
    let m = subst (λ (m : Option Reading). IsMaking (g.R.Region.place c.args.region) (g.R.Region.part c.args.region) c.args.order
    (doing.File c.args.filing (filling.Got c.args.from c.args.at c.args.piece m))) c.in-Some.is c.requires in
    let stays = c.after_piece.ensures.stays (sym c.after_piece.ensures.failure ∙ none) in
    let here : c.in-Some.reading.at ≡ length (m.at.1.given ++ c.args.piece.items) = m.at.1.follows.0.at in
    let long : length (m.at.1.given ++ c.args.piece.items) ≡ length m.at.1.given + length c.args.piece.items = length-append m.at.1.given c.args.piece.items in
    let offset : c.args.at ≡ length m.at.1.given = m.at.1.offset in
    let whole : length c.args.piece.items ≡ most_bytes = m.at.1.follows.1 in
    stays_put c.args.order c.args.filing (filling.Got c.args.from c.args.at c.args.piece c.args.more) (filling.Due c.args.from c.in-Some.reading) (state_spot c.after_piece.result)
    (state_course c.after_piece.result) stays.0 stays.1 (source_spots c.args.from) refl (omega arith) (ap (is_last c.args.filing.digest.size) offset ∙ m.at.1.last)

pub returns-in-Some-clause-makes : goal.returns-in-Some-clause-makes
returns-in-Some-clause-makes g c =
    let m = subst (λ (m : Option Reading). IsMaking (g.R.Region.place c.args.region) (g.R.Region.part c.args.region) c.args.order
    (doing.File c.args.filing (filling.Got c.args.from c.args.at c.args.piece m))) c.in-Some.is c.requires in
    makes_part c.args.region c.put_piece-failure.new.region (making_course c.args.order (doing.File c.args.filing (filling.Got c.args.from c.args.at c.args.piece c.args.more)))
    c.put_piece-failure.result c.after_piece.result c.after_piece.ensures.region c.after_piece.ensures.failure (
      c.args.piece.items,
      whole_size c.args.filing.digest m.at.1.given c.args.piece.items c.args.at m.at.1.offset m.at.1.last m.at.1.follows.1,
      subst (λ (l : List ℕ). Changes (with_piece c.args.filing.rel c.args.filing.exec c.args.at l) c.put_piece-failure.result
          (g.R.Region.part c.args.region) (g.R.Region.part c.put_piece-failure.new.region)) c.as_slice.ensures.value c.put_piece-failure.ensures.part,
    )
