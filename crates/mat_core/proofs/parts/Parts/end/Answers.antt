use Rattle.std.proofs.Common.{◌∙◌, ◌+◌, ◌++◌, ◌∷◌, [], length, refl, sym, ap, subst, true, false}
use Rattle.core_devices.specs.Told.{told_disk, told_store}
use Rattle.row_book.specs.Stocks.{rows_of}
use Rattle.mat_model.specs.History.{after}
use Rattle.mat_core.specs.Books.{StandFor}
use Rattle.mat_core.specs.Ending.{IsRecordedFor, done_entry, end_of, reply_ended}
use Rattle.mat_core.specs.Ends.{HasEnded}
use Rattle.mat_core.specs.Recording.{HasBytesFor, IsRecordedEnd}
use Rattle.mat_core.proofs.BackLemmas.{bytes_there, end_is, fits_some, given_out, given_read, may_end_so, number_is, records, stale_nothing, was_running}
use Rattle.mat_core.proofs.parts.Parts.end.Goals as goal

pub unreachable-requires : goal.unreachable-requires
unreachable-requires g c = fits_some c.args.by.caller c.args.done c.args.self.now c.requires.fits (sym c.take.ensures.running ∙ c.in_default.is)

pub give_parts-requires-clause-out : goal.give_parts-requires-clause-out
give_parts-requires-clause-out g c =
    given_out g.D.R.Region c.args.by c.args.done c.args.self.now c.in-Some.running _ c.requires.rules (g.D.Disk.lent c.args.self.now.disk) c.requires.loans
    c.requires.ready c.requires.fits (sym c.take.ensures.running ∙ c.in-Some.is) c.part_region.result c.part_region.ensures.region c.region_of.result
    c.region_of.ensures

pub give_parts-requires-clause-read : goal.give_parts-requires-clause-read
give_parts-requires-clause-read g c =
    given_read g.D.R.Region c.args.by c.args.done c.args.self.now c.in-Some.running _ c.requires.rules (g.D.Disk.lent c.args.self.now.disk) c.requires.loans
    c.requires.ready c.requires.fits (sym c.take.ensures.running ∙ c.in-Some.is) c.part_region.result c.part_region.ensures.region c.region_of.result
    c.region_of.ensures

pub record-how-requires : goal.record-how-requires
record-how-requires g c =
    subst (HasBytesFor _) (sym c.take-kept.ensures.value)
    (bytes_there g.D.R.Region c.args.by c.args.done c.args.self.now c.in-Some.running _ c.requires.rules (g.D.Disk.lent c.args.self.now.disk)
    c.requires.loans c.requires.ready c.requires.fits (sym c.take.ensures.running ∙ c.in-Some.is))

pub enter_end-requires-clause-was : goal.enter_end-requires-clause-was
enter_end-requires-clause-was g c =
    was_running _ c.args.done.card.job c.in-Some.running c.take-kept.new.self c.give_parts.new.disk c.args.self.now c.record-how.new.self c.requires.rules
    (sym c.take.ensures.running ∙ c.in-Some.is)
    (number_is g.D.R.Region c.args.by c.args.done c.args.self.now c.in-Some.running _ c.requires.rules (g.D.Disk.lent c.args.self.now.disk)
    c.requires.loans c.requires.ready c.requires.fits (sym c.take.ensures.running ∙ c.in-Some.is))
    c.requires.reserves
    (c.record-how.ensures.only
    ∙ ap (λ js. record c.args.self.now { jobs = js; disk = c.give_parts.new.disk; keeper = c.record-how.new.self.keeper }) c.take.ensures.list)
    refl

pub enter_end-requires-clause-ends : goal.enter_end-requires-clause-ends
enter_end-requires-clause-ends g c =
    may_end_so g.D.R.Region c.args.by c.args.done c.args.self.now c.in-Some.running _ c.requires.rules (g.D.Disk.lent c.args.self.now.disk)
    c.requires.loans c.requires.ready c.requires.fits (sym c.take.ensures.running ∙ c.in-Some.is)

pub enter_end-requires-clause-how : goal.enter_end-requires-clause-how
enter_end-requires-clause-how g c =
    subst (λ rows. IsRecordedFor c.in-Some.running.card.task c.args.done.outcome rows c.record-how.result)
    (sym (ap (λ p. rows_of p.rows) c.record-how.ensures.only))
    (records g.D.R.Region c.args.by c.args.done c.args.self.now c.in-Some.running _ c.requires.rules (g.D.Disk.lent c.args.self.now.disk)
    c.requires.loans c.requires.ready c.requires.fits (sym c.take.ensures.running ∙ c.in-Some.is) c.record-how.result
    (told_store g.K.Keeper c.args.self.now.keeper) (told_store g.K.Keeper c.record-how.new.self.keeper)
    (subst (λ k. IsRecordedEnd (end_of c.args.self.now.rows c.in-Some.running.card.task c.args.done.outcome) k c.record-how.result
    (told_store g.K.Keeper c.args.self.now.keeper) (told_store g.K.Keeper c.record-how.new.self.keeper)) c.take-kept.ensures.value c.record-how.ensures.told))

pub returns-then-enter_end : goal.returns-then-enter_end
returns-then-enter_end g c point stands rules =
    end_is g.D.R.Region (told_disk g.D.Disk) (told_store g.K.Keeper) c.args.by c.args.done c.args.self.now c.record-how.new.self c.enter_end.new.self
    c.in-Some.running _ c.requires.rules c.requires.loans c.requires.ready c.requires.fits (sym c.take.ensures.running ∙ c.in-Some.is) c.record-how.result
    (subst (λ k. IsRecordedEnd (end_of c.args.self.now.rows c.in-Some.running.card.task c.args.done.outcome) k c.record-how.result
    (told_store g.K.Keeper c.args.self.now.keeper) (told_store g.K.Keeper c.record-how.new.self.keeper)) c.take-kept.ensures.value c.record-how.ensures.told)
    point stands rules c.part_region.result c.part_region.ensures.region c.part_region.ensures.left c.region_of.result c.region_of.ensures
    c.give_parts.new.disk c.give_parts.ensures.back c.give_parts.ensures.joined c.give_parts.ensures.counted c.give_parts.ensures.read_counted c.note_fits.ensures true
    (sym c.if-enter_end.true ∙ c.enter_end.ensures.fresh)
    (c.record-how.ensures.only
    ∙ ap (λ js. record c.args.self.now { jobs = js; disk = c.give_parts.new.disk; keeper = c.record-how.new.self.keeper }) c.take.ensures.list)
    c.enter_end.ensures.rest
    (c.enter_end.ensures.history
    ∙ ap (λ b. c.record-how.new.self.history.items ++ done_entry c.args.by c.record-how.new.self.moment c.in-Some.running.card.job c.args.done.outcome
    (reply_ended b c.record-how.result) ∷ []) c.if-enter_end.true)
    (subst (λ b. StandFor c.enter_end.new.self (after point (done_entry c.args.by point.book.now c.in-Some.running.card.job c.args.done.outcome
    (reply_ended b c.record-how.result)))) c.if-enter_end.true
    (c.enter_end.ensures.stands
    (was_running (c.record-how.new.self.first + length c.record-how.new.self.history.items) c.args.done.card.job c.in-Some.running
    c.take-kept.new.self c.give_parts.new.disk c.args.self.now c.record-how.new.self c.requires.rules (sym c.take.ensures.running ∙ c.in-Some.is)
    (number_is g.D.R.Region c.args.by c.args.done c.args.self.now c.in-Some.running _ c.requires.rules (g.D.Disk.lent c.args.self.now.disk)
    c.requires.loans c.requires.ready c.requires.fits (sym c.take.ensures.running ∙ c.in-Some.is))
    c.requires.reserves
    (c.record-how.ensures.only
    ∙ ap (λ js. record c.args.self.now { jobs = js; disk = c.give_parts.new.disk; keeper = c.record-how.new.self.keeper }) c.take.ensures.list)
    refl) point stands rules))
    c.enter_end.ensures.reserves

pub returns : goal.returns
returns g c point stands rules =
    subst (λ h. HasEnded g.D.R.Region point c.args.by c.args.done false h c.args.self.now c.enter_end.new.self (told_disk g.D.Disk c.args.self.now.disk)
    (told_disk g.D.Disk c.enter_end.new.self.disk) (told_store g.K.Keeper c.args.self.now.keeper) (told_store g.K.Keeper c.enter_end.new.self.keeper))
    (stale_nothing c.in-Some.running.card.task c.args.done.outcome (rows_of c.record-how.new.self.rows) c.record-how.result
    (subst (λ rows. IsRecordedFor c.in-Some.running.card.task c.args.done.outcome rows c.record-how.result)
    (sym (ap (λ p. rows_of p.rows) c.record-how.ensures.only))
    (records g.D.R.Region c.args.by c.args.done c.args.self.now c.in-Some.running _ c.requires.rules (g.D.Disk.lent c.args.self.now.disk)
    c.requires.loans c.requires.ready c.requires.fits (sym c.take.ensures.running ∙ c.in-Some.is) c.record-how.result
    (told_store g.K.Keeper c.args.self.now.keeper) (told_store g.K.Keeper c.record-how.new.self.keeper)
    (subst (λ k. IsRecordedEnd (end_of c.args.self.now.rows c.in-Some.running.card.task c.args.done.outcome) k c.record-how.result
    (told_store g.K.Keeper c.args.self.now.keeper) (told_store g.K.Keeper c.record-how.new.self.keeper)) c.take-kept.ensures.value c.record-how.ensures.told))) (sym c.enter_end.ensures.fresh ∙ c.if-enter_end.false))
    (end_is g.D.R.Region (told_disk g.D.Disk) (told_store g.K.Keeper) c.args.by c.args.done c.args.self.now c.record-how.new.self c.enter_end.new.self
    c.in-Some.running _ c.requires.rules c.requires.loans c.requires.ready c.requires.fits (sym c.take.ensures.running ∙ c.in-Some.is) c.record-how.result
    (subst (λ k. IsRecordedEnd (end_of c.args.self.now.rows c.in-Some.running.card.task c.args.done.outcome) k c.record-how.result
    (told_store g.K.Keeper c.args.self.now.keeper) (told_store g.K.Keeper c.record-how.new.self.keeper)) c.take-kept.ensures.value c.record-how.ensures.told)
    point stands rules c.part_region.result c.part_region.ensures.region c.part_region.ensures.left c.region_of.result c.region_of.ensures
    c.give_parts.new.disk c.give_parts.ensures.back c.give_parts.ensures.joined c.give_parts.ensures.counted c.give_parts.ensures.read_counted c.note_fits.ensures false
    (sym c.if-enter_end.false ∙ c.enter_end.ensures.fresh)
    (c.record-how.ensures.only
    ∙ ap (λ js. record c.args.self.now { jobs = js; disk = c.give_parts.new.disk; keeper = c.record-how.new.self.keeper }) c.take.ensures.list)
    c.enter_end.ensures.rest
    (c.enter_end.ensures.history
    ∙ ap (λ b. c.record-how.new.self.history.items ++ done_entry c.args.by c.record-how.new.self.moment c.in-Some.running.card.job c.args.done.outcome
    (reply_ended b c.record-how.result) ∷ []) c.if-enter_end.false)
    (subst (λ b. StandFor c.enter_end.new.self (after point (done_entry c.args.by point.book.now c.in-Some.running.card.job c.args.done.outcome
    (reply_ended b c.record-how.result)))) c.if-enter_end.false
    (c.enter_end.ensures.stands
    (was_running (c.record-how.new.self.first + length c.record-how.new.self.history.items) c.args.done.card.job c.in-Some.running
    c.take-kept.new.self c.give_parts.new.disk c.args.self.now c.record-how.new.self c.requires.rules (sym c.take.ensures.running ∙ c.in-Some.is)
    (number_is g.D.R.Region c.args.by c.args.done c.args.self.now c.in-Some.running _ c.requires.rules (g.D.Disk.lent c.args.self.now.disk)
    c.requires.loans c.requires.ready c.requires.fits (sym c.take.ensures.running ∙ c.in-Some.is))
    c.requires.reserves
    (c.record-how.ensures.only
    ∙ ap (λ js. record c.args.self.now { jobs = js; disk = c.give_parts.new.disk; keeper = c.record-how.new.self.keeper }) c.take.ensures.list)
    refl) point stands rules))
    c.enter_end.ensures.reserves)
