use Rattle.std.proofs.Common.{rules, length-append, arith, ◌≡◌, length, ◌++◌, ◌∙◌, sym, subst}
use Rattle.std.proofs.lemmas.Bool.{ne_eqb}
use Rattle.job_run.specs.Pieces.{most_bytes}
use Rattle.job_run.specs.Readings.{Takes}
use Rattle.job_run.specs.declared.reading.Taken.{Taken}
use Rattle.job_run.proofs.Takings.{last_takes, more_goes_on, wrong_takes}
use Rattle.job_run.proofs.reading.Reading.take.Goals as goal

pub returns-then-is_last-clause-takes : goal.returns-then-is_last-clause-takes
returns-then-is_last-clause-takes c = λ given has.
    let h : c.args.self.at ≡ length given = has.at in
    subst (λ (t : Taken). Takes c.args.wanted.now given c.args.piece.now t) (sym c.last.ensures)
    (last_takes c.args.wanted.now given c.args.piece.now c.args.self.at c.end.result has.at (sym c.is_last.ensures ∙ c.if-is_last.true)
    (c.end.ensures (given ++ c.args.piece.now) (c.feed.ensures given has.taken (omega arith))))

pub returns-then-piece-clause-takes : goal.returns-then-piece-clause-takes
returns-then-piece-clause-takes c = λ given has.
    let h : c.args.self.at ≡ length given = has.at in (
      more_goes_on c.args.wanted.now given c.args.piece.now c.args.self.at has.at (sym c.is_last.ensures ∙ c.if-is_last.false) (search rules),
      record { at = rw length-append (omega arith); taken = c.feed.ensures given has.taken (omega arith) },
    )

pub returns-clause-takes : goal.returns-clause-takes
returns-clause-takes c = λ given has.
    let h : c.args.self.at ≡ length given = has.at in
    wrong_takes c.args.wanted.now given c.args.piece.now c.args.self.at c.end-2.result has.at (sym c.is_last.ensures ∙ c.if-is_last.false)
    (ne_eqb (length c.args.piece.now) most_bytes c.if-piece.false)
    (c.end-2.ensures (given ++ c.args.piece.now) (c.feed.ensures given has.taken (omega arith)))
