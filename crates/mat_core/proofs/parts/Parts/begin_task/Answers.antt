use Rattle.std.proofs.Common.{◌≡◌, ◌≤◌, ◌+◌, true, false, Some, count_by, le_refl, refl, sym, ap, subst, ◌∙◌}
use Rattle.std.specs.Option.{option_map}
use Rattle.keep_port.specs.Rows.{remove_all}
use Rattle.core_devices.specs.Events.{HasAgain}
use Rattle.core_devices.specs.Removals.{IsStoreCall, IsStoreNote, are_some}
use Rattle.core_devices.specs.Told.{told_disk, told_store}
use Rattle.core_devices.proofs.TakeLemmas.{same_again}
use Rattle.mat_core.specs.Begins.{IsKeptStill}
use Rattle.mat_core.specs.Calls.{MayWant}
use Rattle.mat_core.specs.Beginning.{IsBegunEntered, has_no_row}
use Rattle.mat_core.specs.Orders.{IsOrder, gone_for}
use Rattle.mat_core.specs.declared.parts.Parts.{Parts}
use Rattle.mat_core.proofs.BeginGoals as step
use Rattle.mat_core.proofs.BeginGoals.{number_is, some_called}
use Rattle.mat_core.proofs.OrderLemmas.{first_ready}
use Rattle.mat_core.proofs.StoreCalls.{never_wanted}
use Rattle.mat_core.proofs.UndoLemmas.{only_room}
use Rattle.mat_core.proofs.parts.Parts.begin_task.Goals as goal

pub order-requires : goal.order-requires
order-requires g c =
    first_ready c.args.self.now c.requires.rules.point c.args.task c.requires.rules.stands c.requires.rules.rules
    (c.requires.first c.requires.rules.point c.requires.rules.stands c.requires.rules.rules)

pub returns-in_default-make_room : goal.returns-in_default-make_room
returns-in_default-make_room g c point stands rules gone =
    let wants = c.in_default-make_room.ensures.wants in
    record {
      still = only_room c.args.self.now c.make_room.new.self wants c.requires.reserves;
      again = subst (λ d. HasAgain (told_disk g.D.Disk c.args.self.now.disk) (told_disk g.D.Disk d)) (sym wants.disk)
          (same_again (told_disk g.D.Disk c.args.self.now.disk) (told_disk g.D.Disk c.args.self.now.disk) refl refl refl
          (le_refl (g.D.Disk.fault_count c.args.self.now.disk)) refl);
      kept = subst (λ k. IsKeptStill (told_store g.K.Keeper c.args.self.now.keeper) (told_store g.K.Keeper k)) (sym wants.keeper)
          (record { rows = refl; faults = le_refl (g.K.Keeper.fault_count c.args.self.now.keeper) });
      called = never_wanted (told_store g.K.Keeper c.args.self.now.keeper) (told_store g.K.Keeper c.make_room.new.self.keeper)
          (ap (told_store g.K.Keeper) wants.keeper);
    }

pub put_down-requires : goal.put_down-requires
put_down-requires g c =
    step.free_down g.D.Disk g.D.R.Region c.args.by c.args.task c.in-Ok.order c.args.self.now c.make_room.new.self c.requires.rules.point c.requires.rules.stands c.requires.rules.rules (c.requires.first c.requires.rules.point c.requires.rules.stands c.requires.rules.rules)
    (subst (λ n. IsOrder c.args.self.now n c.args.task c.in-Ok.order) (ap (λ n. c.args.self.now.first + n) (c.len.ensures ∙ c.args.self.now.history.ok.0) ∙ number_is c.args.self.now c.requires.rules.point c.requires.rules.stands) c.in-Ok.ensures)
    c.requires.loans c.in-Ok-make_room.ensures.room

pub returns-in_default-put_down : goal.returns-in_default-put_down
returns-in_default-put_down g c point stands rules gone =
    let room = c.in-Ok-make_room.ensures.room in
    let only = c.in_default-put_down.ensures.only in
    record {
      still = step.left_still g.D.Disk g.D.R.Region c.args.by c.args.task c.in-Ok.order c.args.self.now c.make_room.new.self point stands rules (c.requires.first point stands rules)
          (subst (λ n. IsOrder c.args.self.now n c.args.task c.in-Ok.order) (ap (λ n. c.args.self.now.first + n) (c.len.ensures ∙ c.args.self.now.history.ok.0) ∙ number_is c.args.self.now point stands) c.in-Ok.ensures)
          c.requires.loans c.in-Ok-make_room.ensures.room
          c.put_down.new.self c.release_place.new.kept only c.release_place.ensures.marks c.release_place.ensures.places c.requires.reserves;
      again = subst (λ d. HasAgain (told_disk g.D.Disk d) (told_disk g.D.Disk c.put_down.new.self.disk)) room.disk c.in_default-put_down.ensures.again;
      kept = subst (λ k. IsKeptStill (told_store g.K.Keeper c.args.self.now.keeper) (told_store g.K.Keeper k))
          (sym (ap (λ (p : Parts g.row.D.Denot g.row.K.Denot). p.keeper) only ∙ room.keeper))
          (record { rows = refl; faults = le_refl (g.K.Keeper.fault_count c.args.self.now.keeper) });
      called = never_wanted (told_store g.K.Keeper c.args.self.now.keeper) (told_store g.K.Keeper c.put_down.new.self.keeper)
          (ap (told_store g.K.Keeper) (ap (λ (p : Parts g.row.D.Denot g.row.K.Denot). p.keeper) only ∙ room.keeper));
    }

pub enter_begin-requires-clause-paths : goal.enter_begin-requires-clause-paths
enter_begin-requires-clause-paths g c =
    subst (λ gs. count_by (has_no_row c.put_down.new.self.rows) gs ≤ c.put_down.new.self.paths) (sym c.as_slice-in-Done.ensures.value)
    (step.gone_fits g.D.Disk g.D.R.Region c.args.by c.args.task c.in-Ok.order c.args.self.now c.make_room.new.self c.requires.rules.point c.requires.rules.stands c.requires.rules.rules (c.requires.first c.requires.rules.point c.requires.rules.stands c.requires.rules.rules)
    (subst (λ n. IsOrder c.args.self.now n c.args.task c.in-Ok.order) (ap (λ n. c.args.self.now.first + n) (c.len.ensures ∙ c.args.self.now.history.ok.0) ∙ number_is c.args.self.now c.requires.rules.point c.requires.rules.stands) c.in-Ok.ensures)
    c.requires.loans c.in-Ok-make_room.ensures.room
    c.put_down.new.self c.in-Ok-put_down.out c.in-Ok-put_down.ensures.down c.in-Ok-put_down.ensures.out c.in-Ok-put_down.ensures.taken)

pub job_of-requires : goal.job_of-requires
job_of-requires g c =
    step.workable g.D.Disk g.D.R.Region c.args.by c.args.task c.in-Ok.order c.args.self.now c.make_room.new.self c.requires.rules.point c.requires.rules.stands c.requires.rules.rules (c.requires.first c.requires.rules.point c.requires.rules.stands c.requires.rules.rules)
    (subst (λ n. IsOrder c.args.self.now n c.args.task c.in-Ok.order) (ap (λ n. c.args.self.now.first + n) (c.len.ensures ∙ c.args.self.now.history.ok.0) ∙ number_is c.args.self.now c.requires.rules.point c.requires.rules.stands) c.in-Ok.ensures)
    c.requires.loans c.in-Ok-make_room.ensures.room
    c.put_down.new.self c.in-Ok-put_down.out c.in-Ok-put_down.ensures.down c.in-Ok-put_down.ensures.out c.in-Ok-put_down.ensures.taken

pub take_up-requires : goal.take_up-requires
take_up-requires g c =
    step.were_taken g.D.Disk g.D.R.Region c.args.by c.args.task c.in-Ok.order c.args.self.now c.make_room.new.self c.requires.rules.point c.requires.rules.stands c.requires.rules.rules (c.requires.first c.requires.rules.point c.requires.rules.stands c.requires.rules.rules)
    (subst (λ n. IsOrder c.args.self.now n c.args.task c.in-Ok.order) (ap (λ n. c.args.self.now.first + n) (c.len.ensures ∙ c.args.self.now.history.ok.0) ∙ number_is c.args.self.now c.requires.rules.point c.requires.rules.stands) c.in-Ok.ensures)
    c.requires.loans c.in-Ok-make_room.ensures.room
    c.put_down.new.self c.in-Ok-put_down.out c.in-Ok-put_down.ensures.down c.in-Ok-put_down.ensures.out c.in-Ok-put_down.ensures.taken

pub take_up-requires-in-NoMemory : goal.take_up-requires-in-NoMemory
take_up-requires-in-NoMemory g c =
    step.were_taken g.D.Disk g.D.R.Region c.args.by c.args.task c.in-Ok.order c.args.self.now c.make_room.new.self c.requires.rules.point c.requires.rules.stands c.requires.rules.rules (c.requires.first c.requires.rules.point c.requires.rules.stands c.requires.rules.rules)
    (subst (λ n. IsOrder c.args.self.now n c.args.task c.in-Ok.order) (ap (λ n. c.args.self.now.first + n) (c.len.ensures ∙ c.args.self.now.history.ok.0) ∙ number_is c.args.self.now c.requires.rules.point c.requires.rules.stands) c.in-Ok.ensures)
    c.requires.loans c.in-Ok-make_room.ensures.room
    c.put_down.new.self c.in-Ok-put_down.out c.in-Ok-put_down.ensures.down c.in-Ok-put_down.ensures.out c.in-Ok-put_down.ensures.taken

pub returns-in-Done : goal.returns-in-Done
returns-in-Done g c point stands rules gone =
    let room = c.in-Ok-make_room.ensures.room in
    let down = c.in-Ok-put_down.ensures.down in
    let removed = c.in-Done.ensures.removed in
    let keeper_same = ap (λ (p : Parts g.row.D.Denot g.row.K.Denot). p.keeper) down.only ∙ room.keeper in
    let entered = subst (λ gs. IsBegunEntered c.args.by c.args.task gs (record c.put_down.new.self { keeper = c.remove_rows.new.keeper }) c.enter_begin.new.self)
    c.as_slice-in-Done.ensures.value c.enter_begin.ensures in
    record {
      what = c.args.task;
      entered = step.begun_entered g.D.Disk g.D.R.Region c.args.by c.args.task c.in-Ok.order c.args.self.now c.make_room.new.self point stands rules (c.requires.first point stands rules)
          (subst (λ n. IsOrder c.args.self.now n c.args.task c.in-Ok.order) (ap (λ n. c.args.self.now.first + n) (c.len.ensures ∙ c.args.self.now.history.ok.0) ∙ number_is c.args.self.now point stands) c.in-Ok.ensures)
          c.requires.loans c.in-Ok-make_room.ensures.room
          c.put_down.new.self c.in-Ok-put_down.out c.in-Ok-put_down.ensures.down c.in-Ok-put_down.ensures.out c.in-Ok-put_down.ensures.taken
          c.remove_rows.new.keeper c.enter_begin.new.self c.job_of.result gone entered c.job_of.ensures c.requires.reserves c.requires.room;
      begun = step.begun_job g.D.Disk g.D.R.Region c.args.by c.args.task c.in-Ok.order c.args.self.now c.make_room.new.self point stands rules (c.requires.first point stands rules)
          (subst (λ n. IsOrder c.args.self.now n c.args.task c.in-Ok.order) (ap (λ n. c.args.self.now.first + n) (c.len.ensures ∙ c.args.self.now.history.ok.0) ∙ number_is c.args.self.now point stands) c.in-Ok.ensures)
          c.requires.loans c.in-Ok-make_room.ensures.room
          c.put_down.new.self c.in-Ok-put_down.out c.in-Ok-put_down.ensures.down c.in-Ok-put_down.ensures.out c.in-Ok-put_down.ensures.taken
          c.remove_rows.new.keeper c.enter_begin.new.self c.job_of.result gone entered c.job_of.ensures c.requires.reserves;
      rows =
          ap (λ k. g.K.Keeper.kept k) c.enter_begin.ensures.keeper ∙ removed.rows
          ∙ ap (λ gs. option_map (λ rows. remove_all rows gs) (g.K.Keeper.kept c.put_down.new.self.keeper)) (c.as_slice.ensures.value ∙ step.gone_is g.D.Disk g.D.R.Region c.args.by c.args.task c.in-Ok.order c.args.self.now c.make_room.new.self point stands rules (c.requires.first point stands rules)
          (subst (λ n. IsOrder c.args.self.now n c.args.task c.in-Ok.order) (ap (λ n. c.args.self.now.first + n) (c.len.ensures ∙ c.args.self.now.history.ok.0) ∙ number_is c.args.self.now point stands) c.in-Ok.ensures)
          c.requires.loans c.in-Ok-make_room.ensures.room
          c.put_down.new.self c.in-Ok-put_down.out c.in-Ok-put_down.ensures.down c.in-Ok-put_down.ensures.out c.in-Ok-put_down.ensures.taken)
          ∙ ap (λ k. option_map (λ rows. remove_all rows (gone_for c.args.self.now c.args.task)) (g.K.Keeper.kept k)) keeper_same;
      faults = subst (λ k. g.K.Keeper.fault_count c.args.self.now.keeper ≤ g.K.Keeper.fault_count k) (sym c.enter_begin.ensures.keeper)
          (subst (λ k. g.K.Keeper.fault_count k ≤ g.K.Keeper.fault_count c.remove_rows.new.keeper) keeper_same removed.faults);
      called = subst (λ k. IsStoreCall (are_some (gone_for c.args.self.now c.args.task)) false false (told_store g.K.Keeper c.args.self.now.keeper) (told_store g.K.Keeper k))
          (sym c.enter_begin.ensures.keeper)
          (subst (λ k. IsStoreCall (are_some (gone_for c.args.self.now c.args.task)) false false (told_store g.K.Keeper k) (told_store g.K.Keeper c.remove_rows.new.keeper))
          keeper_same
          (subst (λ gs. IsStoreCall (are_some gs) false false (told_store g.K.Keeper c.put_down.new.self.keeper) (told_store g.K.Keeper c.remove_rows.new.keeper))
          (c.as_slice.ensures.value ∙ step.gone_is g.D.Disk g.D.R.Region c.args.by c.args.task c.in-Ok.order c.args.self.now c.make_room.new.self point stands rules (c.requires.first point stands rules)
          (subst (λ n. IsOrder c.args.self.now n c.args.task c.in-Ok.order) (ap (λ n. c.args.self.now.first + n) (c.len.ensures ∙ c.args.self.now.history.ok.0) ∙ number_is c.args.self.now point stands) c.in-Ok.ensures)
          c.requires.loans c.in-Ok-make_room.ensures.room
          c.put_down.new.self c.in-Ok-put_down.out c.in-Ok-put_down.ensures.down c.in-Ok-put_down.ensures.out c.in-Ok-put_down.ensures.taken) removed.called));
    }

pub returns-in-Failed : goal.returns-in-Failed
returns-in-Failed g c point stands rules gone =
    let room = c.in-Ok-make_room.ensures.room in
    let down = c.in-Ok-put_down.ensures.down in
    let removed = c.in-Failed.ensures.removed in
    let keeper_same = ap (λ (p : Parts g.row.D.Denot g.row.K.Denot). p.keeper) down.only ∙ room.keeper in
    let keeper_new = c.enter_refusal.ensures.keeper ∙ ap (λ (p : Parts g.row.D.Denot g.row.K.Denot). p.keeper) c.take_up.ensures.only in
    let gone_there : are_some (gone_for c.args.self.now c.args.task) ≡ true =
    subst (λ gs. are_some gs ≡ true) (c.as_slice.ensures.value ∙ step.gone_is g.D.Disk g.D.R.Region c.args.by c.args.task c.in-Ok.order c.args.self.now c.make_room.new.self point stands rules (c.requires.first point stands rules)
    (subst (λ n. IsOrder c.args.self.now n c.args.task c.in-Ok.order) (ap (λ n. c.args.self.now.first + n) (c.len.ensures ∙ c.args.self.now.history.ok.0) ∙ number_is c.args.self.now point stands) c.in-Ok.ensures)
    c.requires.loans c.in-Ok-make_room.ensures.room
    c.put_down.new.self c.in-Ok-put_down.out c.in-Ok-put_down.ensures.down c.in-Ok-put_down.ensures.out c.in-Ok-put_down.ensures.taken)
    (some_called c.as_slice.result.now c.remove_rows.result c.in-Failed.note c.in-Failed.is c.remove_rows.ensures.none) in
    record {
      what = c.args.task;
      entered = step.refused_entered g.D.Disk g.D.R.Region c.args.by c.args.task c.in-Ok.order c.args.self.now c.make_room.new.self point stands rules (c.requires.first point stands rules)
          (subst (λ n. IsOrder c.args.self.now n c.args.task c.in-Ok.order) (ap (λ n. c.args.self.now.first + n) (c.len.ensures ∙ c.args.self.now.history.ok.0) ∙ number_is c.args.self.now point stands) c.in-Ok.ensures)
          c.requires.loans c.in-Ok-make_room.ensures.room
          c.put_down.new.self c.in-Ok-put_down.out c.in-Ok-put_down.ensures.down c.in-Ok-put_down.ensures.out c.in-Ok-put_down.ensures.taken
          c.take_up.new.self c.remove_rows.new.keeper c.take_up.ensures.only c.take_up.ensures.jobs c.take_up.ensures.marks c.take_up.ensures.places
          c.requires.reserves c.enter_refusal.new.self c.in-Failed.note c.enter_refusal.ensures (ap (λ n. n.device) removed.note.0)
          (step.gone_overlap c.args.self.now point c.args.task stands gone_there) c.requires.room;
      some = step.gone_overlap c.args.self.now point c.args.task stands gone_there;
      again = subst (λ d. HasAgain (told_disk g.D.Disk c.args.self.now.disk) (told_disk g.D.Disk d)) (sym c.enter_refusal.ensures.disk)
          (subst (λ d. HasAgain (told_disk g.D.Disk d) (told_disk g.D.Disk c.take_up.new.self.disk)) room.disk
          (c.take_up.ensures.again (step.were_taken g.D.Disk g.D.R.Region c.args.by c.args.task c.in-Ok.order c.args.self.now c.make_room.new.self point stands rules (c.requires.first point stands rules)
          (subst (λ n. IsOrder c.args.self.now n c.args.task c.in-Ok.order) (ap (λ n. c.args.self.now.first + n) (c.len.ensures ∙ c.args.self.now.history.ok.0) ∙ number_is c.args.self.now point stands) c.in-Ok.ensures)
          c.requires.loans c.in-Ok-make_room.ensures.room
          c.put_down.new.self c.in-Ok-put_down.out c.in-Ok-put_down.ensures.down c.in-Ok-put_down.ensures.out c.in-Ok-put_down.ensures.taken)));
      still = subst (λ k. IsKeptStill (told_store g.K.Keeper c.args.self.now.keeper) (told_store g.K.Keeper k)) (sym keeper_new)
          (subst (λ k. IsKeptStill (told_store g.K.Keeper k) (told_store g.K.Keeper c.remove_rows.new.keeper)) keeper_same
          (step.failed_still c.as_slice.result.now c.in-Failed.note (told_store g.K.Keeper c.put_down.new.self.keeper) (told_store g.K.Keeper c.remove_rows.new.keeper) removed));
      note = subst (λ k. IsStoreNote (g.K.Keeper.fault_count c.args.self.now.keeper) (g.K.Keeper.fault_count k) (Some c.in-Failed.note)) (sym keeper_new)
          (subst (λ k. IsStoreNote (g.K.Keeper.fault_count k) (g.K.Keeper.fault_count c.remove_rows.new.keeper) (Some c.in-Failed.note)) keeper_same removed.note);
      called = subst (λ k. IsStoreCall true true false (told_store g.K.Keeper c.args.self.now.keeper) (told_store g.K.Keeper k)) (sym keeper_new)
          (subst (λ k. IsStoreCall true true false (told_store g.K.Keeper k) (told_store g.K.Keeper c.remove_rows.new.keeper)) keeper_same
          (step.failed_call c.as_slice.result.now c.in-Failed.note (told_store g.K.Keeper c.put_down.new.self.keeper) (told_store g.K.Keeper c.remove_rows.new.keeper)
          (some_called c.as_slice.result.now c.remove_rows.result c.in-Failed.note c.in-Failed.is c.remove_rows.ensures.none) removed));
    }

pub returns-in-NoMemory : goal.returns-in-NoMemory
returns-in-NoMemory g c point stands rules gone =
    let room = c.in-Ok-make_room.ensures.room in
    let down = c.in-Ok-put_down.ensures.down in
    let removed = c.in-NoMemory.ensures.removed in
    let keeper_same = ap (λ (p : Parts g.row.D.Denot g.row.K.Denot). p.keeper) down.only ∙ room.keeper in
    let keeper_new = ap (λ (p : Parts g.row.D.Denot g.row.K.Denot). p.keeper) c.take_up-in-NoMemory.ensures.only in
    record {
      still = step.back_still g.D.Disk g.D.R.Region c.args.by c.args.task c.in-Ok.order c.args.self.now c.make_room.new.self point stands rules (c.requires.first point stands rules)
          (subst (λ n. IsOrder c.args.self.now n c.args.task c.in-Ok.order) (ap (λ n. c.args.self.now.first + n) (c.len.ensures ∙ c.args.self.now.history.ok.0) ∙ number_is c.args.self.now point stands) c.in-Ok.ensures)
          c.requires.loans c.in-Ok-make_room.ensures.room
          c.put_down.new.self c.in-Ok-put_down.out c.in-Ok-put_down.ensures.down c.in-Ok-put_down.ensures.out c.in-Ok-put_down.ensures.taken
          c.take_up-in-NoMemory.new.self c.remove_rows.new.keeper c.take_up-in-NoMemory.ensures.only c.take_up-in-NoMemory.ensures.jobs
          c.take_up-in-NoMemory.ensures.marks c.take_up-in-NoMemory.ensures.places c.requires.reserves;
      again = subst (λ d. HasAgain (told_disk g.D.Disk d) (told_disk g.D.Disk c.take_up-in-NoMemory.new.self.disk)) room.disk
          (c.take_up-in-NoMemory.ensures.again (step.were_taken g.D.Disk g.D.R.Region c.args.by c.args.task c.in-Ok.order c.args.self.now c.make_room.new.self point stands rules (c.requires.first point stands rules)
          (subst (λ n. IsOrder c.args.self.now n c.args.task c.in-Ok.order) (ap (λ n. c.args.self.now.first + n) (c.len.ensures ∙ c.args.self.now.history.ok.0) ∙ number_is c.args.self.now point stands) c.in-Ok.ensures)
          c.requires.loans c.in-Ok-make_room.ensures.room
          c.put_down.new.self c.in-Ok-put_down.out c.in-Ok-put_down.ensures.down c.in-Ok-put_down.ensures.out c.in-Ok-put_down.ensures.taken));
      kept = subst (λ k. IsKeptStill (told_store g.K.Keeper c.args.self.now.keeper) (told_store g.K.Keeper k)) (sym keeper_new)
          (subst (λ k. IsKeptStill (told_store g.K.Keeper k) (told_store g.K.Keeper c.remove_rows.new.keeper)) keeper_same
          (step.wanted_still c.as_slice.result.now (told_store g.K.Keeper c.put_down.new.self.keeper) (told_store g.K.Keeper c.remove_rows.new.keeper) removed));
      called = subst (λ k. MayWant (told_store g.K.Keeper c.args.self.now.keeper) (told_store g.K.Keeper k)) (sym keeper_new)
          (subst (λ k. MayWant (told_store g.K.Keeper k) (told_store g.K.Keeper c.remove_rows.new.keeper)) keeper_same
          (step.wanting_call c.as_slice.result.now (told_store g.K.Keeper c.put_down.new.self.keeper) (told_store g.K.Keeper c.remove_rows.new.keeper) removed));
    }
