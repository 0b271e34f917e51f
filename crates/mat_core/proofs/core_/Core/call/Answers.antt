use Rattle.std.proofs.Common.{◌≡◌, ◌∙◌, ◌++◌, ◌∷◌, [], cond, count_by, max, sym, ap, subst}
use Rattle.std.proofs.lemmas.Bool.{both_ways}
use Rattle.mat_model.specs.Legal.{is_of}
use Rattle.mat_model.specs.Room.{full_asked}
use Rattle.core_devices.specs.Told.{told_disk, told_store}
use Rattle.mat_core.specs.Asks.{entry_of, request_asks}
use Rattle.mat_core.specs.Cores.{point_in, seen_of}
use Rattle.mat_core.specs.Keeping.{TellsStore, asked_entry}
use Rattle.mat_core.specs.Served.{full_of, is_entered}
use Rattle.mat_core.proofs.CoreKeeps.{core_kept, kept_base, kept_disk, kept_full, kept_history, kept_store, no_leave, quiet_store}
use Rattle.mat_core.proofs.CoreLemmas.{called_history, core_bound, core_called, core_rules, seen_point, seen_roomy}
use Rattle.mat_core.proofs.core_.Core.call.Goals as goal

-- ---- a request that may call the state store

pub keep_asked-requires : goal.keep_asked-requires
keep_asked-requires g c = record {
  asks = sym c.asks_store.ensures ∙ c.if-asks_store.true;
  bound = core_bound (told_disk g.D.Disk) (told_store g.K.Keeper) c.self.inside.parts c.self.invariant;
  rules = core_rules (told_disk g.D.Disk) (told_store g.K.Keeper) c.self.inside.parts c.self.invariant;
  reserves = c.self.invariant.reserves;
}

pub invariant_of-self : goal.invariant_of-self
invariant_of-self g c =
    core_kept (told_disk g.D.Disk) (told_store g.K.Keeper) c.self.inside.parts c.keep_asked.new.self c.args.by c.args.now (request_asks c.args.request)
    c.keep_asked.result c.self.invariant (c.requires.number ∙ ap (λ s. count_by (is_of c.args.by.caller) s.history) (sym c.self.view_is)) c.requires.asks
    c.requires.time
    (c.keep_asked.ensures (point_in (seen_of c.self.inside.parts)) c.self.invariant.stands
    (seen_point (told_disk g.D.Disk) (told_store g.K.Keeper) (seen_of c.self.inside.parts) c.self.invariant.seen)
    (seen_roomy (told_disk g.D.Disk) (told_store g.K.Keeper) (seen_of c.self.inside.parts) c.self.invariant.seen))

pub returns-then-asks_store-clause-base : goal.returns-then-asks_store-clause-base
returns-then-asks_store-clause-base g c =
    kept_base (told_disk g.D.Disk) (told_store g.K.Keeper) c.self.inside.parts c.keep_asked.new.self c.args.by c.args.now (request_asks c.args.request)
    c.keep_asked.result c.self.invariant (c.requires.number ∙ ap (λ s. count_by (is_of c.args.by.caller) s.history) (sym c.self.view_is)) c.requires.asks
    c.requires.time
    (c.keep_asked.ensures (point_in (seen_of c.self.inside.parts)) c.self.invariant.stands
    (seen_point (told_disk g.D.Disk) (told_store g.K.Keeper) (seen_of c.self.inside.parts) c.self.invariant.seen)
    (seen_roomy (told_disk g.D.Disk) (told_store g.K.Keeper) (seen_of c.self.inside.parts) c.self.invariant.seen))
    ∙ ap (λ s. s.base) c.self.view_is

pub returns-then-asks_store-clause-disk : goal.returns-then-asks_store-clause-disk
returns-then-asks_store-clause-disk g c =
    kept_disk (told_disk g.D.Disk) (told_store g.K.Keeper) c.self.inside.parts c.keep_asked.new.self c.args.by c.args.now (request_asks c.args.request)
    c.keep_asked.result c.self.invariant (c.requires.number ∙ ap (λ s. count_by (is_of c.args.by.caller) s.history) (sym c.self.view_is)) c.requires.asks
    c.requires.time
    (c.keep_asked.ensures (point_in (seen_of c.self.inside.parts)) c.self.invariant.stands
    (seen_point (told_disk g.D.Disk) (told_store g.K.Keeper) (seen_of c.self.inside.parts) c.self.invariant.seen)
    (seen_roomy (told_disk g.D.Disk) (told_store g.K.Keeper) (seen_of c.self.inside.parts) c.self.invariant.seen))
    ∙ ap (λ s. s.disk) c.self.view_is

pub returns-then-asks_store-clause-history : goal.returns-then-asks_store-clause-history
returns-then-asks_store-clause-history g c =
    kept_history (told_disk g.D.Disk) (told_store g.K.Keeper) c.self.inside.parts c.keep_asked.new.self c.args.by c.args.now (request_asks c.args.request)
    c.keep_asked.result c.self.invariant (c.requires.number ∙ ap (λ s. count_by (is_of c.args.by.caller) s.history) (sym c.self.view_is)) c.requires.asks
    c.requires.time
    (c.keep_asked.ensures (point_in (seen_of c.self.inside.parts)) c.self.invariant.stands
    (seen_point (told_disk g.D.Disk) (told_store g.K.Keeper) (seen_of c.self.inside.parts) c.self.invariant.seen)
    (seen_roomy (told_disk g.D.Disk) (told_store g.K.Keeper) (seen_of c.self.inside.parts) c.self.invariant.seen))
    ∙ ap (λ s. cond (is_entered c.keep_asked.result)
    (s.history ++ asked_entry c.args.by (point_in (seen_of c.keep_asked.new.self)).book.now (request_asks c.args.request) c.keep_asked.result ∷ []) s.history)
    c.self.view_is

pub returns-then-asks_store-clause-keeper : goal.returns-then-asks_store-clause-keeper
returns-then-asks_store-clause-keeper g c asks_none = absurd (both_ways _ asks_none (sym c.asks_store.ensures ∙ c.if-asks_store.true))

pub returns-then-asks_store-clause-store : goal.returns-then-asks_store-clause-store
returns-then-asks_store-clause-store g c =
    subst (λ s. TellsStore (point_in s) (request_asks c.args.request) c.keep_asked.result (told_store g.K.Keeper s.keeper) (told_store g.K.Keeper c.keep_asked.new.self.keeper)) c.self.view_is
    (kept_store (told_disk g.D.Disk) (told_store g.K.Keeper) c.self.inside.parts c.keep_asked.new.self c.args.by c.args.now (request_asks c.args.request)
    c.keep_asked.result c.self.invariant (c.requires.number ∙ ap (λ s. count_by (is_of c.args.by.caller) s.history) (sym c.self.view_is)) c.requires.asks
    c.requires.time
    (c.keep_asked.ensures (point_in (seen_of c.self.inside.parts)) c.self.invariant.stands
    (seen_point (told_disk g.D.Disk) (told_store g.K.Keeper) (seen_of c.self.inside.parts) c.self.invariant.seen)
    (seen_roomy (told_disk g.D.Disk) (told_store g.K.Keeper) (seen_of c.self.inside.parts) c.self.invariant.seen)))

pub returns-then-asks_store-clause-leave : goal.returns-then-asks_store-clause-leave
returns-then-asks_store-clause-leave g c is_free =
    absurd (both_ways _ (no_leave c.args.request _ (sym c.asks_store.ensures ∙ c.if-asks_store.true)) is_free)

pub returns-then-asks_store-clause-full : goal.returns-then-asks_store-clause-full
returns-then-asks_store-clause-full g c not_want =
    subst (λ s. full_of c.keep_asked.result ≡ full_asked s.base.limits (point_in s) (max (point_in s).book.now c.args.now) (request_asks c.args.request))
    c.self.view_is
    (kept_full (told_disk g.D.Disk) (told_store g.K.Keeper) c.self.inside.parts c.keep_asked.new.self c.args.by c.args.now (request_asks c.args.request)
    c.keep_asked.result c.self.invariant (c.requires.number ∙ ap (λ s. count_by (is_of c.args.by.caller) s.history) (sym c.self.view_is)) c.requires.asks
    c.requires.time
    (c.keep_asked.ensures (point_in (seen_of c.self.inside.parts)) c.self.invariant.stands
    (seen_point (told_disk g.D.Disk) (told_store g.K.Keeper) (seen_of c.self.inside.parts) c.self.invariant.seen)
    (seen_roomy (told_disk g.D.Disk) (told_store g.K.Keeper) (seen_of c.self.inside.parts) c.self.invariant.seen)) not_want)

-- ---- one that calls no device

pub call-requires : goal.call-requires
call-requires g c = record {
  bound = core_bound (told_disk g.D.Disk) (told_store g.K.Keeper) c.self.inside.parts c.self.invariant;
  rules = core_rules (told_disk g.D.Disk) (told_store g.K.Keeper) c.self.inside.parts c.self.invariant;
  reserves = c.self.invariant.reserves;
}

pub invariant_of-self-2 : goal.invariant_of-self-2
invariant_of-self-2 g c =
    core_called (told_disk g.D.Disk) (told_store g.K.Keeper) c.self.inside.parts c.call.new.self c.args.by c.args.now c.args.request
    c.call.result c.self.invariant c.call.ensures.quiet c.call.ensures.stands c.call.ensures.legal c.call.ensures.history c.call.ensures.devices
    c.call.ensures.unchanged c.call.ensures.reserves c.call.ensures.jobs (c.requires.number ∙ ap (λ s. count_by (is_of c.args.by.caller) s.history) (sym c.self.view_is)) c.requires.asks
    c.requires.time

pub returns-clause-history : goal.returns-clause-history
returns-clause-history g c =
    called_history (told_disk g.D.Disk) (told_store g.K.Keeper) c.self.inside.parts c.call.new.self c.args.by c.args.now c.args.request
    c.call.result c.self.invariant c.call.ensures.quiet c.call.ensures.stands c.call.ensures.legal c.call.ensures.history c.call.ensures.devices
    c.call.ensures.unchanged c.call.ensures.reserves c.call.ensures.jobs (c.requires.number ∙ ap (λ s. count_by (is_of c.args.by.caller) s.history) (sym c.self.view_is)) c.requires.asks
    c.requires.time
    ∙ ap (λ s. cond (is_entered c.call.result)
    (s.history ++ entry_of c.args.by (point_in (seen_of c.call.new.self)).book.now c.args.request c.call.result ∷ []) s.history) c.self.view_is

pub returns-clause-store : goal.returns-clause-store
returns-clause-store g c =
    quiet_store c.args.request _ c.call.result _ _ (sym c.asks_store.ensures ∙ c.if-asks_store.false) c.call.ensures.quiet
    (ap (told_store g.K.Keeper) (c.call.ensures.devices.keeper ∙ ap (λ s. s.keeper) c.self.view_is))

pub returns-clause-full : goal.returns-clause-full
returns-clause-full g c not_want =
    subst (λ s. full_of c.call.result ≡ full_asked s.base.limits (point_in s) (max (point_in s).book.now c.args.now) (request_asks c.args.request))
    c.self.view_is
    (c.call.ensures.full not_want (point_in (seen_of c.self.inside.parts)) c.self.invariant.stands
    (seen_roomy (told_disk g.D.Disk) (told_store g.K.Keeper) (seen_of c.self.inside.parts) c.self.invariant.seen))
