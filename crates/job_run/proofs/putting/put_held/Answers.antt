use Rattle.std.proofs.Common.{◌+◌, ap, length, take, drop, ℕ, List, ◌∙◌, sym, subst, arith, refl}
use Rattle.job_run.specs.Stages.{making_cost}
use Rattle.job_run.specs.States.{Continues}
use Rattle.job_run.specs.declared.states.Doing.TheVariants as doing
use Rattle.job_run.specs.declared.states.Filling.TheVariants as filling
use Rattle.job_run.specs.Pieces.{most_bytes}
use Rattle.job_run.proofs.Puts.{held_last, held_less, held_more}
use Rattle.job_run.specs.CourseStages.{making_course, state_course}
use Rattle.job_run.specs.Courses.{to_put}
use Rattle.job_run.specs.Orders.{held_bytes}
use Rattle.job_run.specs.Stages.{filing_node}
use Rattle.job_run.specs.Steps.{state_spot}
use Rattle.job_run.proofs.Puts.{piece_length, size_is}
use Rattle.job_run.proofs.Proceeding.{finishes, held_ends, held_goes_on, held_size, makes_part, stays_put}
use Rattle.job_run.proofs.putting.put_held.Goals as goal

pub after_node-requires-clause-behind : goal.after_node-requires-clause-behind
after_node-requires-clause-behind g c = λ none.
    held_last (g.R.Region.place c.args.region) (g.R.Region.place c.put_piece-failure.new.region) (g.R.Region.part c.args.region) (g.R.Region.part c.put_piece-failure.new.region)
    c.args.order c.args.filing c.args.at c.held_piece-piece.result.now c.put_piece-failure.result c.put_piece-failure.ensures.place c.requires (c.held_piece-piece.ensures ∙ ap (λ (l : List ℕ). take most_bytes (drop c.args.at l)) c.held_bytes-bytes.ensures)
    (c.if-is_over.true ∙ ap length c.held_bytes-bytes.ensures) c.put_piece-failure.ensures.part none

pub returns-then-is_over-clause-goes : goal.returns-then-is_over-clause-goes
returns-then-is_over-clause-goes g c =
    subst (λ (p : List (List ℕ)). Continues p c.args.order.tree c.args.order.lent (making_cost c.args.order (doing.File c.args.filing (filling.Held c.args.at))) c.after_node.result)
    c.put_piece-failure.ensures.place (c.after_node.ensures.goes (making_cost c.args.order (doing.File c.args.filing (filling.Held c.args.at))) (omega arith))

pub after_piece-requires-clause-stands : goal.after_piece-requires-clause-stands
after_piece-requires-clause-stands g c = λ none.
    held_more (g.R.Region.place c.args.region) (g.R.Region.place c.put_piece-failure.new.region) (g.R.Region.part c.args.region) (g.R.Region.part c.put_piece-failure.new.region)
    c.args.order c.args.filing c.args.at c.held_piece-piece.result.now c.put_piece-failure.result c.put_piece-failure.ensures.place c.requires (c.held_piece-piece.ensures ∙ ap (λ (l : List ℕ). take most_bytes (drop c.args.at l)) c.held_bytes-bytes.ensures)
    c.put_piece-failure.ensures.part none

pub returns-clause-goes : goal.returns-clause-goes
returns-clause-goes g c =
    let less = held_less (g.R.Region.place c.args.region) (g.R.Region.part c.args.region) c.args.order c.args.filing c.args.at c.held_piece-piece.result.now c.requires (c.held_piece-piece.ensures ∙ ap (λ (l : List ℕ). take most_bytes (drop c.args.at l)) c.held_bytes-bytes.ensures) (λ over. c.if-is_over.false (over ∙ ap length (sym c.held_bytes-bytes.ensures))) in
    subst (λ (p : List (List ℕ)). Continues p c.args.order.tree c.args.order.lent (making_cost c.args.order (doing.File c.args.filing (filling.Held c.args.at))) c.after_piece.result)
    c.put_piece-failure.ensures.place (c.after_piece.ensures.goes (making_cost c.args.order (doing.File c.args.filing (filling.Held c.args.at))) (omega arith))

pub returns-clause-from : goal.returns-clause-from
returns-clause-from g c = λ blobs. c.after_piece.ensures.from blobs tt

pub returns-then-is_over-clause-course : goal.returns-then-is_over-clause-course
returns-then-is_over-clause-course g c = λ none.
    let bytes = held_bytes c.args.order.method in
    let piece = c.held_piece-piece.result.now in
    finishes c.args.order (state_spot c.after_node.result) (making_course c.args.order (doing.File c.args.filing (filling.Held c.args.at))) (state_course c.after_node.result)
    (to_put (filing_node c.args.filing)) refl
    (held_ends bytes piece c.args.filing.digest.size c.args.at (size_is bytes c.args.filing.digest c.requires.at.1.right)
    (piece_length bytes piece c.args.at (c.held_piece-piece.ensures ∙ ap (λ (l : List ℕ). take most_bytes (drop c.args.at l)) c.held_bytes-bytes.ensures))
    (c.if-is_over.true ∙ ap length c.held_bytes-bytes.ensures))
    refl refl (c.after_node.ensures.begun (sym c.after_node.ensures.failure ∙ none))

pub returns-then-is_over-clause-makes : goal.returns-then-is_over-clause-makes
returns-then-is_over-clause-makes g c =
    let bytes = held_bytes c.args.order.method in
    let piece = c.held_piece-piece.result.now in
    makes_part c.args.region c.put_piece-failure.new.region (making_course c.args.order (doing.File c.args.filing (filling.Held c.args.at))) c.put_piece-failure.result c.after_node.result
    c.after_node.ensures.region c.after_node.ensures.failure (
      piece,
      held_size bytes piece c.args.filing.digest.size c.args.at (size_is bytes c.args.filing.digest c.requires.at.1.right)
          (piece_length bytes piece c.args.at (c.held_piece-piece.ensures ∙ ap (λ (l : List ℕ). take most_bytes (drop c.args.at l)) c.held_bytes-bytes.ensures)),
      c.put_piece-failure.ensures.part,
    )

pub returns-clause-course : goal.returns-clause-course
returns-clause-course g c = λ none.
    let bytes = held_bytes c.args.order.method in
    let piece = c.held_piece-piece.result.now in
    let stays = c.after_piece.ensures.stays (sym c.after_piece.ensures.failure ∙ none) in
    let more = held_goes_on bytes piece c.args.filing.digest.size c.args.at (size_is bytes c.args.filing.digest c.requires.at.1.right) c.requires.at.1.within
    (piece_length bytes piece c.args.at (c.held_piece-piece.ensures ∙ ap (λ (l : List ℕ). take most_bytes (drop c.args.at l)) c.held_bytes-bytes.ensures))
    (λ over. c.if-is_over.false (over ∙ ap length (sym c.held_bytes-bytes.ensures))) in
    stays_put c.args.order c.args.filing (filling.Held c.args.at) (filling.Held (c.args.at + length piece)) (state_spot c.after_piece.result) (state_course c.after_piece.result) stays.0 stays.1
    refl refl (ap (λ (n : ℕ). c.args.at + n) more.1) more.0

pub returns-clause-makes : goal.returns-clause-makes
returns-clause-makes g c =
    let bytes = held_bytes c.args.order.method in
    let piece = c.held_piece-piece.result.now in
    makes_part c.args.region c.put_piece-failure.new.region (making_course c.args.order (doing.File c.args.filing (filling.Held c.args.at))) c.put_piece-failure.result c.after_piece.result
    c.after_piece.ensures.region c.after_piece.ensures.failure (
      piece,
      held_size bytes piece c.args.filing.digest.size c.args.at (size_is bytes c.args.filing.digest c.requires.at.1.right)
          (piece_length bytes piece c.args.at (c.held_piece-piece.ensures ∙ ap (λ (l : List ℕ). take most_bytes (drop c.args.at l)) c.held_bytes-bytes.ensures)),
      c.put_piece-failure.ensures.part,
    )
