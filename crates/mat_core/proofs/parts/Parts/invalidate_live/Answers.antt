use Rattle.std.proofs.Common.{◌∙◌, ap, le_trans}
use Rattle.mat_core.proofs.InvalidateLemmas as step
use Rattle.core_devices.specs.Told.{told_store}
use Rattle.mat_core.proofs.StoreCalls.{never_wanted}
use Rattle.mat_core.proofs.InvalidateLemmas.{ruled_again, same_keeper, wanted_so}
use Rattle.mat_core.proofs.OverlapLemmas.{overlap_few}
use Rattle.mat_core.proofs.parts.Parts.invalidate_live.Goals as goal

pub returns-in_default : goal.returns-in_default
returns-in_default g c point stands rules roomy =
    wanted_so g.K.Keeper c.args.by c.args.now _ c.args.self.now c.order_clearing.new.self c.order_clearing.new.self.keeper point c.requires.reserves
    c.order_clearing.ensures.room (same_keeper g.K.Keeper c.args.self.now.keeper c.order_clearing.new.self.keeper c.order_clearing.ensures.room.keeper)
    (never_wanted (told_store g.K.Keeper c.args.self.now.keeper) (told_store g.K.Keeper c.order_clearing.new.self.keeper)
    (ap (told_store g.K.Keeper) c.order_clearing.ensures.room.keeper))

pub clear-requires-clause-rules : goal.clear-requires-clause-rules
clear-requires-clause-rules g c =
    ruled_again c.args.self.now c.order_clearing.new.self c.remove_rows.new.keeper c.order_clearing.ensures.room c.requires.rules

pub returns-in-Done : goal.returns-in-Done
returns-in-Done g c point stands rules roomy =
    step.done_so g.K.Keeper c.args.by c.args.now c.args.command c.args.path c.args.self.now c.order_clearing.new.self c.enter_asked.new.self
    c.remove_rows.new.keeper point stands rules roomy c.requires.reserves c.order_clearing.ensures.room (le_trans c.requires.place c.order_clearing.ensures.room.more.history) c.requires.room c.requires.live
    c.as_slice.result.now (c.as_slice.ensures.value ∙ c.in-Ok.ensures.listed.kept) c.clear.new.self c.len-count.result c.clear.ensures
    (c.len-count.ensures ∙ c.in-Ok.listed.rows.ok.0
    ∙ (overlap_few c.args.path c.args.self.now.kept.marks c.args.self.now.rows c.in-Ok.listed c.in-Ok.ensures.listed).0) c.in-Ok.ensures.spare
    c.in-Done.ensures.removed c.enter_asked.ensures

pub returns-in-Failed : goal.returns-in-Failed
returns-in-Failed g c point stands rules roomy =
    step.failed_so g.K.Keeper c.args.by c.args.now c.args.command c.args.path c.args.self.now c.order_clearing.new.self c.enter_asked-in-Failed.new.self
    c.remove_rows.new.keeper point stands rules roomy c.requires.reserves c.order_clearing.ensures.room (le_trans c.requires.place c.order_clearing.ensures.room.more.history) c.requires.room c.requires.live
    c.as_slice.result.now (c.as_slice.ensures.value ∙ c.in-Ok.ensures.listed.kept) c.in-Failed.note c.remove_rows.result c.in-Failed.is
    c.remove_rows.ensures.none c.in-Failed.ensures.removed c.enter_asked-in-Failed.ensures

pub returns-in-NoMemory : goal.returns-in-NoMemory
returns-in-NoMemory g c point stands rules roomy =
    step.wanting_so g.K.Keeper c.args.by c.args.now c.args.command c.args.path c.args.self.now c.order_clearing.new.self c.args.self.now
    c.remove_rows.new.keeper point stands rules roomy c.requires.reserves c.order_clearing.ensures.room (le_trans c.requires.place c.order_clearing.ensures.room.more.history) c.requires.room c.requires.live
    c.as_slice.result.now (c.as_slice.ensures.value ∙ c.in-Ok.ensures.listed.kept) c.in-NoMemory.ensures.removed
