use Rattle.std.proofs.Common.{◌≤◌, ◌∙◌, true, count_by, filter, ap, subst, sym, le_trans}
use Rattle.mat_model.specs.declared.answers.Reply.TheVariants as reply
use Rattle.mat_model.specs.declared.requests.Asked.TheVariants as asked
use Rattle.job_book.specs.Jobs.{jobs_of}
use Rattle.kept_book.specs.Marks.{is_mark_unlisted}
use Rattle.mat_core.specs.Falling.{MayAllRemain, is_unkept}
use Rattle.mat_core.specs.Removing.{IsAskEntered, taken_at}
use Rattle.mat_core.specs.Sweeping.{AreSwept, condemned_by}
use Rattle.core_devices.specs.Told.{told_store}
use Rattle.mat_core.proofs.StoreCalls.{never_wanted}
use Rattle.mat_core.proofs.InvalidateLemmas.{same_keeper, wanted_so}
use Rattle.mat_core.proofs.SweepLemmas as step
use Rattle.mat_core.proofs.SweepLists.{sweep_again, sweep_fits, sweep_remain, sweep_stays, sweep_taken}
use Rattle.mat_core.proofs.parts.Parts.clean_rows.Goals as goal

pub returns-in_default : goal.returns-in_default
returns-in_default g c point stands rules roomy =
    wanted_so g.K.Keeper c.args.by c.args.now _ c.args.self.now c.order_sweep.new.self c.order_sweep.new.self.keeper point c.requires.reserves
    c.order_sweep.ensures.room (same_keeper g.K.Keeper c.args.self.now.keeper c.order_sweep.new.self.keeper c.order_sweep.ensures.room.keeper)
    (never_wanted (told_store g.K.Keeper c.args.self.now.keeper) (told_store g.K.Keeper c.order_sweep.new.self.keeper)
    (ap (told_store g.K.Keeper) c.order_sweep.ensures.room.keeper))

pub returns-in-Done : goal.returns-in-Done
returns-in-Done g c point stands rules roomy =
    let again = sweep_again c.args.all c.args.cutoff c.args.self.now c.order_sweep.new.self c.remove_rows.new.keeper c.in-Ok.order c.requires.rules
    c.order_sweep.ensures.room c.in-Ok.ensures.sweep in
    step.swept_so g.K.Keeper c.args.by c.args.now c.args.cutoff c.args.all c.args.self.now c.order_sweep.new.self c.enter_asked.new.self
    c.remove_rows.new.keeper point stands rules roomy c.requires.reserves c.order_sweep.ensures.room
    (le_trans c.requires.place c.order_sweep.ensures.room.more.history) c.requires.room c.as_slice.result.now
    (c.as_slice.ensures.value ∙ c.in-Ok.ensures.sweep.kept) c.sweep.new.self c.in-Ok.order.rows.items
    (subst (λ ps. AreSwept c.args.all ps c.in-Ok.order.rows.items (record c.order_sweep.new.self { keeper = c.remove_rows.new.keeper }) c.sweep.new.self)
    (c.as_slice-in-Done-2.ensures.value ∙ sym c.as_slice.ensures.value)
    (subst (λ rs. AreSwept c.args.all c.as_slice-in-Done-2.result.now rs (record c.order_sweep.new.self { keeper = c.remove_rows.new.keeper }) c.sweep.new.self)
    c.as_slice-in-Done-3.ensures.value c.sweep.ensures))
    (sweep_taken _ c.args.all c.args.cutoff _ again.0 c.in-Ok.order again.1)
    (sweep_stays _ c.args.all c.args.cutoff _ again.0 c.in-Ok.order again.1)
    c.in-Ok.ensures.spare c.in-Ok.order.said c.in-Ok.ensures.sweep.said
    (subst (λ m. IsAskEntered c.args.by c.args.now (asked.Clean c.args.cutoff m) c.in-Ok.order.said c.sweep.new.self c.enter_asked.new.self)
    c.mode_of-mode.ensures
    (subst (λ r. IsAskEntered c.args.by c.args.now (asked.Clean c.args.cutoff c.mode_of-mode.result) r c.sweep.new.self c.enter_asked.new.self)
    c.in-Ok.ensures.sweep.told c.enter_asked.ensures))
    c.in-Done.ensures.removed

pub returns-in-Failed : goal.returns-in-Failed
returns-in-Failed g c point stands rules roomy =
    step.unswept_so g.K.Keeper c.args.by c.args.now c.args.cutoff c.args.all c.args.self.now c.order_sweep.new.self c.enter_asked-in-Failed.new.self
    c.remove_rows.new.keeper point stands rules roomy c.requires.reserves c.order_sweep.ensures.room
    (le_trans c.requires.place c.order_sweep.ensures.room.more.history) c.requires.room c.as_slice.result.now
    (c.as_slice.ensures.value ∙ c.in-Ok.ensures.sweep.kept) c.in-Failed.note c.remove_rows.result c.in-Failed.is
    c.remove_rows.ensures.none c.in-Failed.ensures.removed
    (subst (λ m. IsAskEntered c.args.by c.args.now (asked.Clean c.args.cutoff m) (reply.Fault c.in-Failed.note) (record c.order_sweep.new.self { keeper = c.remove_rows.new.keeper })
    c.enter_asked-in-Failed.new.self) c.mode_of-mode.ensures c.enter_asked-in-Failed.ensures)

pub returns-in-NoMemory : goal.returns-in-NoMemory
returns-in-NoMemory g c point stands rules roomy =
    step.unwanted_so g.K.Keeper c.args.by c.args.now c.args.cutoff c.args.all c.args.self.now c.order_sweep.new.self c.args.self.now
    c.remove_rows.new.keeper point stands rules roomy c.requires.reserves c.order_sweep.ensures.room
    (le_trans c.requires.place c.order_sweep.ensures.room.more.history) c.requires.room c.as_slice.result.now
    (c.as_slice.ensures.value ∙ c.in-Ok.ensures.sweep.kept) c.in-NoMemory.ensures.removed

pub sweep-requires-clause-apart : goal.sweep-requires-clause-apart
sweep-requires-clause-apart g c =
    let again = sweep_again c.args.all c.args.cutoff c.args.self.now c.order_sweep.new.self c.remove_rows.new.keeper c.in-Ok.order c.requires.rules
    c.order_sweep.ensures.room c.in-Ok.ensures.sweep in
    subst (λ ps. MayAllRemain true (jobs_of c.order_sweep.new.self.jobs) (taken_at ps c.order_sweep.new.self.rows)
    (condemned_by c.args.all (jobs_of c.order_sweep.new.self.jobs) c.order_sweep.new.self.debris.list)) (sym c.as_slice-in-Done-3.ensures.value)
    (sweep_remain _ c.args.all c.args.cutoff _ again.0 c.in-Ok.order again.1)

pub sweep-requires-clause-counted : goal.sweep-requires-clause-counted
sweep-requires-clause-counted g c =
    let again = sweep_again c.args.all c.args.cutoff c.args.self.now c.order_sweep.new.self c.remove_rows.new.keeper c.in-Ok.order c.requires.rules
    c.order_sweep.ensures.room c.in-Ok.ensures.sweep in
    subst (λ ps. count_by (is_unkept (filter (is_mark_unlisted c.as_slice-in-Done-2.result.now) c.order_sweep.new.self.kept.marks))
    (taken_at ps c.order_sweep.new.self.rows) ≤ c.order_sweep.new.self.paths) (sym c.as_slice-in-Done-3.ensures.value)
    (sweep_fits _ c.args.all c.args.cutoff _ again.0 c.in-Ok.order again.1
    (filter (is_mark_unlisted c.as_slice-in-Done-2.result.now) c.order_sweep.new.self.kept.marks))
