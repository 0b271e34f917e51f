use Rattle.std.proofs.Common.{rules, ◌≡◌, ◌∙◌, ◌++◌, ◌∷◌, [], ◌+◌, ◌≤◌, not, length, refl, sym, ap, subst, arith}
use Rattle.std.specs.Vec.{vec_capacity, vec_len}
use Rattle.mat_model.specs.declared.entries.Event.TheVariants as event
use Rattle.mat_core.specs.Asks.{request_asks}
use Rattle.mat_core.specs.Replacing.{AreRuled}
use Rattle.mat_core.specs.Served.{Serves}
use Rattle.mat_core.proofs.CallLemmas.{call_legal, call_stands, full_told, raised_by, ruled_raised, still_stands}
use Rattle.mat_core.proofs.ReserveLemmas.{entry_has_place, raised_fits, reserves_called, reserves_grown, reserves_still}
use Rattle.mat_core.proofs.parts.Parts.call.Goals as goal

pub returns-then-not-has_place-clause-reserves : goal.returns-then-not-has_place-clause-reserves
returns-then-not-has_place-clause-reserves g c =
    reserves_grown c.args.self.now c.has_place.new.history c.has_place.ensures.items c.has_place.ensures.capacity c.requires.reserves

pub returns-in_default-clause-reserves : goal.returns-in_default-clause-reserves
returns-in_default-clause-reserves g c =
    reserves_grown c.args.self.now c.has_place.new.history c.has_place.ensures.items c.has_place.ensures.capacity c.requires.reserves

pub returns-then-not-is_entered-clause-unchanged : goal.returns-then-not-is_entered-clause-unchanged
returns-then-not-is_entered-clause-unchanged g c out =
    still_stands c.args.now c.args.self.now (record c.args.self.now { history = c.has_place.new.history; moment = c.max-self.result })
    c.serve-reply.new.self (record c.serve-reply.new.self { moment = c.args.self.now.moment }) (raised_by c.args.now c.max-self.result c.args.self.now c.has_place.new.history c.max-self.ensures c.has_place.ensures.items c.has_place.ensures.capacity)
    (c.serve-reply.ensures.served.unchanged out) refl (record { rows = refl; debris = refl; jobs = refl; kept = refl; nodes = refl; paths = refl }) refl

pub returns-then-not-is_entered-clause-reserves : goal.returns-then-not-is_entered-clause-reserves
returns-then-not-is_entered-clause-reserves g c =
    reserves_still c.args.by c.args.now (request_asks c.args.request) c.serve-reply.result c.args.self.now (record c.args.self.now { history = c.has_place.new.history; moment = c.max-self.result })
    c.serve-reply.new.self (raised_by c.args.now c.max-self.result c.args.self.now c.has_place.new.history c.max-self.ensures c.has_place.ensures.items c.has_place.ensures.capacity)
    (subst (λ h. Serves (c.args.self.now.first + length h) (request_asks c.args.request) c.serve-reply.result
    (record c.args.self.now { history = c.has_place.new.history; moment = c.max-self.result }) c.serve-reply.new.self) c.has_place.ensures.items c.serve-reply.ensures.served) (record c.serve-reply.new.self { moment = c.args.self.now.moment })
    (c.serve-reply.ensures.served.unchanged (sym c.is_entered.ensures ∙ c.if-not-is_entered.true)) refl (record { rows = refl; debris = refl; jobs = refl; kept = refl; nodes = refl; paths = refl }) refl c.requires.reserves

pub returns-then-not-is_entered-clause-full : goal.returns-then-not-is_entered-clause-full
returns-then-not-is_entered-clause-full g c not_want point stands roomy =
    full_told c.args.now (request_asks c.args.request) c.serve-reply.result c.args.self.now
    (record c.args.self.now { history = c.has_place.new.history; moment = c.max-self.result }) c.serve-reply.new.self point
    (raised_by c.args.now c.max-self.result c.args.self.now c.has_place.new.history c.max-self.ensures c.has_place.ensures.items c.has_place.ensures.capacity)
    (subst (λ h. Serves (c.args.self.now.first + length h) (request_asks c.args.request) c.serve-reply.result
    (record c.args.self.now { history = c.has_place.new.history; moment = c.max-self.result }) c.serve-reply.new.self) c.has_place.ensures.items c.serve-reply.ensures.served) stands roomy not_want

pub push_reserved-requires : goal.push_reserved-requires
push_reserved-requires g c =
    let size : vec_len c.serve-reply.new.self.history ≡ length c.serve-reply.new.self.history.items = search rules in
    let place : length c.serve-reply.new.self.history.items + 1 ≤ vec_capacity c.serve-reply.new.self.history =
    entry_has_place c.args.by c.args.now (request_asks c.args.request) c.serve-reply.result c.args.self.now (record c.args.self.now { history = c.has_place.new.history; moment = c.max-self.result })
    c.serve-reply.new.self (raised_by c.args.now c.max-self.result c.args.self.now c.has_place.new.history c.max-self.ensures c.has_place.ensures.items c.has_place.ensures.capacity)
    (subst (λ h. Serves (c.args.self.now.first + length h) (request_asks c.args.request) c.serve-reply.result
    (record c.args.self.now { history = c.has_place.new.history; moment = c.max-self.result }) c.serve-reply.new.self) c.has_place.ensures.items c.serve-reply.ensures.served)
    (raised_fits c.args.now (request_asks c.args.request) c.args.self.now (record c.args.self.now { history = c.has_place.new.history; moment = c.max-self.result }) (not c.is_free_leave-wants.result)
    (c.owed-entries.result + 2) (raised_by c.args.now c.max-self.result c.args.self.now c.has_place.new.history c.max-self.ensures c.has_place.ensures.items c.has_place.ensures.capacity) c.requires.reserves (ap not c.is_free_leave-wants.ensures) (let owed = c.owed-entries.ensures in omega (arith, owed))
    (λ wants. c.has_place.ensures.place c.if-not-has_place.false wants)) (sym c.is_entered.ensures ∙ c.if-not-is_entered.false) (record { strays = []; due = 0 }) in
    omega (arith, size, place)

pub returns-clause-stands : goal.returns-clause-stands
returns-clause-stands g c entered point stands ruled =
    call_stands c.args.by c.args.now (request_asks c.args.request) c.serve-reply.result c.args.self.now
    (record c.args.self.now { history = c.has_place.new.history; moment = c.max-self.result }) c.serve-reply.new.self
    (record c.serve-reply.new.self { history = c.push_reserved.new.self }) point
    (record {
      rise = (raised_by c.args.now c.max-self.result c.args.self.now c.has_place.new.history c.max-self.ensures c.has_place.ensures.items c.has_place.ensures.capacity);
      serves = (subst (λ h. Serves (c.args.self.now.first + length h) (request_asks c.args.request) c.serve-reply.result
          (record c.args.self.now { history = c.has_place.new.history; moment = c.max-self.result }) c.serve-reply.new.self) c.has_place.ensures.items c.serve-reply.ensures.served);
      book = refl;
      same = (record { rows = refl; debris = refl; jobs = refl; kept = refl; nodes = refl; paths = refl });
      history = c.push_reserved.ensures.items
          ∙ ap (λ a. c.serve-reply.new.self.history.items
          ++ record { by = c.args.by; now = c.serve-reply.new.self.moment; event = event.Asked a; reply = c.once_more.result } ∷ [])
          c.in-Ok.ensures.asks
          ∙ ap (λ r. c.serve-reply.new.self.history.items
          ++ record { by = c.args.by; now = c.serve-reply.new.self.moment; event = event.Asked (request_asks c.args.request); reply = r } ∷ [])
          c.once_more.ensures;
      capacity = c.push_reserved.ensures.capacity;
    }) stands ruled entered

pub returns-clause-legal : goal.returns-clause-legal
returns-clause-legal g c entered point stands ruled roomy may numbered within =
    call_legal c.args.by c.args.now (request_asks c.args.request) c.serve-reply.result c.args.self.now
    (record c.args.self.now { history = c.has_place.new.history; moment = c.max-self.result }) c.serve-reply.new.self
    (record c.serve-reply.new.self { history = c.push_reserved.new.self }) point
    (record {
      rise = (raised_by c.args.now c.max-self.result c.args.self.now c.has_place.new.history c.max-self.ensures c.has_place.ensures.items c.has_place.ensures.capacity);
      serves = (subst (λ h. Serves (c.args.self.now.first + length h) (request_asks c.args.request) c.serve-reply.result
          (record c.args.self.now { history = c.has_place.new.history; moment = c.max-self.result }) c.serve-reply.new.self) c.has_place.ensures.items c.serve-reply.ensures.served);
      book = refl;
      same = (record { rows = refl; debris = refl; jobs = refl; kept = refl; nodes = refl; paths = refl });
      history = c.push_reserved.ensures.items
          ∙ ap (λ a. c.serve-reply.new.self.history.items
          ++ record { by = c.args.by; now = c.serve-reply.new.self.moment; event = event.Asked a; reply = c.once_more.result } ∷ [])
          c.in-Ok.ensures.asks
          ∙ ap (λ r. c.serve-reply.new.self.history.items
          ++ record { by = c.args.by; now = c.serve-reply.new.self.moment; event = event.Asked (request_asks c.args.request); reply = r } ∷ [])
          c.once_more.ensures;
      capacity = c.push_reserved.ensures.capacity;
    }) stands ruled entered roomy may numbered within

pub returns-clause-reserves : goal.returns-clause-reserves
returns-clause-reserves g c =
    reserves_called c.args.by c.args.now (request_asks c.args.request) c.serve-reply.result c.args.self.now
    (record c.args.self.now { history = c.has_place.new.history; moment = c.max-self.result }) c.serve-reply.new.self
    (raised_by c.args.now c.max-self.result c.args.self.now c.has_place.new.history c.max-self.ensures c.has_place.ensures.items c.has_place.ensures.capacity)
    (subst (λ h. Serves (c.args.self.now.first + length h) (request_asks c.args.request) c.serve-reply.result
    (record c.args.self.now { history = c.has_place.new.history; moment = c.max-self.result }) c.serve-reply.new.self) c.has_place.ensures.items c.serve-reply.ensures.served)
    (record c.serve-reply.new.self { history = c.push_reserved.new.self })
    (raised_fits c.args.now (request_asks c.args.request) c.args.self.now (record c.args.self.now { history = c.has_place.new.history; moment = c.max-self.result }) (not c.is_free_leave-wants.result)
    (c.owed-entries.result + 2) (raised_by c.args.now c.max-self.result c.args.self.now c.has_place.new.history c.max-self.ensures c.has_place.ensures.items c.has_place.ensures.capacity) c.requires.reserves (ap not c.is_free_leave-wants.ensures) (let owed = c.owed-entries.ensures in omega (arith, owed))
    (λ wants. c.has_place.ensures.place c.if-not-has_place.false wants)) (sym c.is_entered.ensures ∙ c.if-not-is_entered.false) (record { strays = []; due = 0 })
    (record {
      rise = (raised_by c.args.now c.max-self.result c.args.self.now c.has_place.new.history c.max-self.ensures c.has_place.ensures.items c.has_place.ensures.capacity);
      serves = (subst (λ h. Serves (c.args.self.now.first + length h) (request_asks c.args.request) c.serve-reply.result
          (record c.args.self.now { history = c.has_place.new.history; moment = c.max-self.result }) c.serve-reply.new.self) c.has_place.ensures.items c.serve-reply.ensures.served);
      book = refl;
      same = (record { rows = refl; debris = refl; jobs = refl; kept = refl; nodes = refl; paths = refl });
      history = c.push_reserved.ensures.items
          ∙ ap (λ a. c.serve-reply.new.self.history.items
          ++ record { by = c.args.by; now = c.serve-reply.new.self.moment; event = event.Asked a; reply = c.once_more.result } ∷ [])
          c.in-Ok.ensures.asks
          ∙ ap (λ r. c.serve-reply.new.self.history.items
          ++ record { by = c.args.by; now = c.serve-reply.new.self.moment; event = event.Asked (request_asks c.args.request); reply = r } ∷ [])
          c.once_more.ensures;
      capacity = c.push_reserved.ensures.capacity;
    }) c.requires.reserves

pub returns-clause-full : goal.returns-clause-full
returns-clause-full g c not_want point stands roomy =
    full_told c.args.now (request_asks c.args.request) c.serve-reply.result c.args.self.now
    (record c.args.self.now { history = c.has_place.new.history; moment = c.max-self.result }) c.serve-reply.new.self point
    (raised_by c.args.now c.max-self.result c.args.self.now c.has_place.new.history c.max-self.ensures c.has_place.ensures.items c.has_place.ensures.capacity)
    (subst (λ h. Serves (c.args.self.now.first + length h) (request_asks c.args.request) c.serve-reply.result
    (record c.args.self.now { history = c.has_place.new.history; moment = c.max-self.result }) c.serve-reply.new.self) c.has_place.ensures.items c.serve-reply.ensures.served) stands roomy not_want

pub serve-reply-requires-clause-rules : goal.serve-reply-requires-clause-rules
serve-reply-requires-clause-rules g c =
    subst (λ h. AreRuled (c.args.self.now.first + length h) (record c.args.self.now { history = c.has_place.new.history; moment = c.max-self.result })) (sym c.has_place.ensures.items)
    (ruled_raised (c.args.self.now.first + length c.args.self.now.history.items) c.args.now c.args.self.now (record c.args.self.now { history = c.has_place.new.history; moment = c.max-self.result })
    c.requires.rules (raised_by c.args.now c.max-self.result c.args.self.now c.has_place.new.history c.max-self.ensures c.has_place.ensures.items c.has_place.ensures.capacity))
