use Rattle.std.proofs.Common.{rules, ◌≡◌, ◌∙◌, refl, sym, ap, subst, length, le_refl}
use Rattle.std.specs.Vec.{vec_len}
use Rattle.mat_model.specs.declared.answers.Reply.TheVariants as reply
use Rattle.core_devices.specs.Told.{told_store}
use Rattle.mat_core.specs.Flushing.{HasStoredAll}
use Rattle.mat_core.specs.declared.flushing.Storing.TheVariants as storing
use Rattle.mat_core.specs.declared.parts.Parts.{Parts}
use Rattle.mat_core.proofs.FlushLemmas.{entered_by, failed_so, flush_fits, flush_held, flush_keeps, flush_room, flushed_so, left_want, stored_as, stored_none, stored_wanting}
use Rattle.mat_core.proofs.StoreCalls.{never_wanted}
use Rattle.mat_core.proofs.parts.Parts.flush.Goals as goal

pub returns-in_default-reserve_all : goal.returns-in_default-reserve_all
returns-in_default-reserve_all g c point stands ruled roomy =
    left_want point c.args.by c.args.now c.args.self.now (record c.args.self.now { history = c.has_place.new.history; kept = c.release_all.new.kept })
    (told_store g.K.Keeper c.args.self.now.keeper) (told_store g.K.Keeper c.args.self.now.keeper) c.requires.reserves
    (record {
      beside = record {
        base = refl;
        first = refl;
        gate = refl;
        rows = refl;
        holds = refl;
        tickets = refl;
        debris = refl;
        jobs = refl;
        nodes = refl;
        paths = refl;
        lost = refl;
        disk = refl;
      };
      moment = refl;
      history = c.has_place.ensures.items;
      room = c.has_place.ensures.capacity;
      kept = c.release_all.ensures.marks ∙ c.in_default-reserve_all.ensures.marks;
      places = flush_keeps _ c.args.self.now (record c.args.self.now { history = c.has_place.new.history; kept = c.release_all.new.kept }) c.in-Ok.due c.as_slice.result.now c.reserve_all.new.kept.reserved c.requires.rules c.in-Ok.ensures
          c.as_slice.ensures.value c.in_default-reserve_all.ensures.others c.release_all.ensures.places;
    }) (record { rows = refl; faults = le_refl (g.K.Keeper.fault_count c.args.self.now.keeper) })
    (never_wanted (told_store g.K.Keeper c.args.self.now.keeper) (told_store g.K.Keeper c.args.self.now.keeper) refl)

pub settle_all-requires : goal.settle_all-requires
settle_all-requires g c =
    flush_held _ c.args.self.now c.in-Ok.due c.as_slice.result.now c.reserve_all.new.kept.reserved c.requires.rules c.in-Ok.ensures
    c.as_slice.ensures.value c.in-Ok-reserve_all.ensures.places

pub returns-in-Done : goal.returns-in-Done
returns-in-Done g c point stands ruled roomy =
    let size : vec_len c.in-Ok.due.uses ≡ length c.in-Ok.due.uses.items = search rules in
    flushed_so point c.args.by c.args.now c.args.self.now c.enter_flush.new.self (told_store g.K.Keeper c.args.self.now.keeper)
    (told_store g.K.Keeper c.enter_flush.new.self.keeper) c.in-Ok.due stands ruled roomy c.requires.reserves
    (flush_fits c.args.self.now c.has_place.new.history _ c.has_place.ensures.items (sym c.lacks_entries.ensures ∙ c.if-lacks_entries.false)) c.in-Ok.ensures c.len-count.result (c.len-count.ensures ∙ size)
    (entered_by c.args.by c.args.now (reply.Flushed c.len-count.result) c.args.self.now c.enter_flush.new.self c.has_place.new.history
    c.settle_all.new.kept c.store_due.new.keeper c.enter_flush.ensures.only c.enter_flush.ensures.moment c.enter_flush.ensures.items
    c.enter_flush.ensures.capacity c.has_place.ensures.items
    (flush_room c.args.self.now c.has_place.new.history c.owed-entries.result c.owed-entries.ensures c.has_place.ensures.items
    (c.has_place.ensures.place c.if-not-has_place.false refl))
    (flush_keeps _ c.args.self.now c.enter_flush.new.self c.in-Ok.due c.as_slice.result.now c.reserve_all.new.kept.reserved c.requires.rules
    c.in-Ok.ensures c.as_slice.ensures.value c.in-Ok-reserve_all.ensures.others
    (ap (λ (p : Parts g.row.D.Denot g.row.K.Denot). p.kept.reserved) c.enter_flush.ensures.only ∙ c.settle_all.ensures.places)))
    (ap (λ (p : Parts g.row.D.Denot g.row.K.Denot). p.kept.marks) c.enter_flush.ensures.only ∙ c.settle_all.ensures.marks
    ∙ ap (Rattle.mat_core.specs.Flushing.marks_with c.in-Ok.due.uses.items) c.in-Ok-reserve_all.ensures.marks)
    (subst (λ k. HasStoredAll c.in-Ok.due.puts.items c.in-Ok.due.touches.items storing.Done (told_store g.K.Keeper c.args.self.now.keeper) (told_store g.K.Keeper k))
    (sym (ap (λ (p : Parts g.row.D.Denot g.row.K.Denot). p.keeper) c.enter_flush.ensures.only))
    (stored_as c.in-Ok.due.puts.items c.as_slice-2.result.now c.in-Ok.due.touches.items c.as_slice-3.result.now storing.Done
    (told_store g.K.Keeper c.args.self.now.keeper) (told_store g.K.Keeper c.store_due.new.keeper) c.as_slice-2.ensures.value c.as_slice-3.ensures.value
    c.in-Done.ensures.stored))

pub returns-in-Failed : goal.returns-in-Failed
returns-in-Failed g c point stands ruled roomy =
    failed_so point c.args.by c.args.now c.args.self.now c.enter_flush-in-Failed.new.self (told_store g.K.Keeper c.args.self.now.keeper)
    (told_store g.K.Keeper c.enter_flush-in-Failed.new.self.keeper) c.in-Ok.due stands ruled roomy c.requires.reserves
    (flush_fits c.args.self.now c.has_place.new.history _ c.has_place.ensures.items (sym c.lacks_entries.ensures ∙ c.if-lacks_entries.false)) c.in-Ok.ensures c.in-Failed.note
    (entered_by c.args.by c.args.now (reply.Fault c.in-Failed.note) c.args.self.now c.enter_flush-in-Failed.new.self c.has_place.new.history
    c.release_all-in-Failed.new.kept c.store_due.new.keeper c.enter_flush-in-Failed.ensures.only c.enter_flush-in-Failed.ensures.moment
    c.enter_flush-in-Failed.ensures.items c.enter_flush-in-Failed.ensures.capacity c.has_place.ensures.items
    (flush_room c.args.self.now c.has_place.new.history c.owed-entries.result c.owed-entries.ensures c.has_place.ensures.items
    (c.has_place.ensures.place c.if-not-has_place.false refl))
    (flush_keeps _ c.args.self.now c.enter_flush-in-Failed.new.self c.in-Ok.due c.as_slice.result.now c.reserve_all.new.kept.reserved c.requires.rules
    c.in-Ok.ensures c.as_slice.ensures.value c.in-Ok-reserve_all.ensures.others
    (ap (λ (p : Parts g.row.D.Denot g.row.K.Denot). p.kept.reserved) c.enter_flush-in-Failed.ensures.only ∙ c.release_all-in-Failed.ensures.places)))
    (ap (λ (p : Parts g.row.D.Denot g.row.K.Denot). p.kept.marks) c.enter_flush-in-Failed.ensures.only ∙ c.release_all-in-Failed.ensures.marks
    ∙ c.in-Ok-reserve_all.ensures.marks)
    (subst (λ k. HasStoredAll c.in-Ok.due.puts.items c.in-Ok.due.touches.items (storing.Failed c.in-Failed.note)
    (told_store g.K.Keeper c.args.self.now.keeper) (told_store g.K.Keeper k))
    (sym (ap (λ (p : Parts g.row.D.Denot g.row.K.Denot). p.keeper) c.enter_flush-in-Failed.ensures.only))
    (stored_as c.in-Ok.due.puts.items c.as_slice-2.result.now c.in-Ok.due.touches.items c.as_slice-3.result.now (storing.Failed c.in-Failed.note)
    (told_store g.K.Keeper c.args.self.now.keeper) (told_store g.K.Keeper c.store_due.new.keeper) c.as_slice-2.ensures.value c.as_slice-3.ensures.value
    c.in-Failed.ensures.stored))
    (λ is. c.in-Failed.ensures.none
    (Rattle.std.proofs.Common.ap₂ Rattle.mat_core.specs.Flushing.is_idle c.as_slice-2.ensures.value c.as_slice-3.ensures.value ∙ is))

pub returns : goal.returns
returns g c point stands ruled roomy =
    left_want point c.args.by c.args.now c.args.self.now
    (record c.args.self.now { history = c.has_place.new.history; kept = c.release_all-in-NoMemory.new.kept; keeper = c.store_due.new.keeper })
    (told_store g.K.Keeper c.args.self.now.keeper) (told_store g.K.Keeper c.store_due.new.keeper) c.requires.reserves
    (record {
      beside = record {
        base = refl;
        first = refl;
        gate = refl;
        rows = refl;
        holds = refl;
        tickets = refl;
        debris = refl;
        jobs = refl;
        nodes = refl;
        paths = refl;
        lost = refl;
        disk = refl;
      };
      moment = refl;
      history = c.has_place.ensures.items;
      room = c.has_place.ensures.capacity;
      kept = c.release_all-in-NoMemory.ensures.marks ∙ c.in-Ok-reserve_all.ensures.marks;
      places = flush_keeps _ c.args.self.now (record c.args.self.now { history = c.has_place.new.history; kept = c.release_all-in-NoMemory.new.kept; keeper = c.store_due.new.keeper }) c.in-Ok.due c.as_slice.result.now c.reserve_all.new.kept.reserved c.requires.rules c.in-Ok.ensures
          c.as_slice.ensures.value c.in-Ok-reserve_all.ensures.others c.release_all-in-NoMemory.ensures.places;
    })
    (stored_none c.as_slice-2.result.now c.as_slice-3.result.now (told_store g.K.Keeper c.args.self.now.keeper) (told_store g.K.Keeper c.store_due.new.keeper)
    c.in-NoMemory.ensures.stored)
    (stored_wanting c.as_slice-2.result.now c.as_slice-3.result.now (told_store g.K.Keeper c.args.self.now.keeper) (told_store g.K.Keeper c.store_due.new.keeper)
    c.in-NoMemory.ensures.stored)
