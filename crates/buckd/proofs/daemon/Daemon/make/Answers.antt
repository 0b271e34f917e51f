-- A make: the run is where the definitions say, and the daemon is sound.
use Rattle.std.proofs.Common.{◌≡◌, ◌∷◌, ◌++◌, [], ℕ, List, length, refl, ap, ◌∙◌}
use Rattle.std.specs.Option.{is_some}
use Rattle.mat_model.specs.declared.entries.Entry.{Entry}
use Rattle.mat_model.specs.declared.entries.Event.TheVariants as event
use Rattle.mat_model.specs.declared.entries.Task.TheVariants as task
use Rattle.mat_model.specs.declared.answers.Reply.TheVariants as reply
use Rattle.model_laws.proofs.Makes.{first_make_found}
use Rattle.buckd.specs.declared.daemon.Daemon.{Daemon}
use Rattle.buckd.specs.Run.{entry_at, idle}
use Rattle.buckd.specs.Sound.{KeepsBook}
use Rattle.mat_tree.proofs.Joins.{on_ok}
use Rattle.buckd.proofs.Kept.{kept-with}
use Rattle.buckd.proofs.MadeLemmas.{acts-begun, book-kept, made-point, made-ready, made-scene}
use Rattle.buckd.proofs.Stepping.{begun}
use Rattle.buckd.proofs.daemon.Daemon.make.Goals as goal

-- a history with the begin of a make
began : (path given : List (List ℕ)) (stamp : ℕ) (old new : List Entry) → given ≡ path →
    new ≡ old ++ entry_at (length old) (event.Begin (task.Make given stamp)) reply.Started ∷ [] → new ≡ begun old (task.Make path stamp)
began path given stamp old new same is =
    is ∙ ap (λ (p : List (List ℕ)). old ++ entry_at (length old) (event.Begin (task.Make p stamp)) reply.Started ∷ []) same

pub returns-clause-scene : goal.returns-clause-scene
returns-clause-scene c =
    let d0 = c.args.self.now in
    let d1 : Daemon = record d0 { history = c.enter_event.new.history } in
    let d2 : Daemon = c.make_part.new.self in
    let d3 : Daemon = c.end_make-reply.new.self in
    let d4 : Daemon = record d3 { history = c.enter_event-2.new.history } in
    let same : KeepsBook d1 d2 = c.in_ok-outcome.ensures.same in
    let one : d1.history.items ≡ begun d0.history.items (task.Make c.args.path c.args.stamp) =
    began c.args.path c.in_ok-copy.field-0 c.args.stamp d0.history.items d1.history.items c.in_ok-copy.ensures.ok c.in_ok-enter_event.ensures in
    let two : d2.history.items ≡ begun d0.history.items (task.Make c.args.path c.args.stamp) = ap (λ es. es.items) same.history ∙ one in
    let found = first_make_found idle d0.rows.items d0.tickets.items c.args.path c.args.stamp c.requires.sound.kept.apart c.requires.first in
    on_ok c.enter_event-2.result
    (λ ends. made-scene d0 d1 d2 d3 d4 c.args.path c.args.stamp c.in_ok-outcome.outcome
    (acts-begun d0 d1 c.args.path c.args.stamp _ found.0 c.requires.sound.kept found.2 refl one) refl refl
    c.in_ok-outcome.ensures.made c.make_part.ensures.blobs c.end_make-reply.ensures.same.store c.end_make-reply.ensures.same.disk refl refl
    (made-point d0 d2 d3 c.args.path c.args.stamp c.in_ok-outcome.outcome c.end_make-reply.result
    c.enter_event-2.new.history.items two (book-kept d1 d2 same) c.end_make-reply.ensures.served
    (rw (← c.number-job.ensures) ends)))
    c.enter_event-2.ensures

pub returns-clause-sound : goal.returns-clause-sound
returns-clause-sound c =
    let d0 = c.args.self.now in
    let d1 : Daemon = record d0 { history = c.enter_event.new.history } in
    let d2 : Daemon = c.make_part.new.self in
    let d3 : Daemon = c.end_make-reply.new.self in
    let d4 : Daemon = record d3 { history = c.enter_event-2.new.history } in
    let one : d1.history.items ≡ begun d0.history.items (task.Make c.args.path c.args.stamp) =
    began c.args.path c.in_ok-copy.field-0 c.args.stamp d0.history.items d1.history.items c.in_ok-copy.ensures.ok c.in_ok-enter_event.ensures in
    let found = first_make_found idle d0.rows.items d0.tickets.items c.args.path c.args.stamp c.requires.sound.kept.apart c.requires.first in
    on_ok c.enter_event-2.result
    (λ ends. made-ready d0 d1 d2 d3 d4 c.args.path c.args.stamp c.in_ok-outcome.outcome c.end_make-reply.result found.0
    c.requires.sound found.1 found.2 found.3 (record { state = refl; live = refl; rows = refl; methods = refl; disk = refl }) refl one
    c.in_ok-outcome.ensures.same c.make_part.ensures.free c.in_ok-outcome.ensures.made
    c.end_make-reply.ensures.served c.end_make-reply.ensures.same
    (record { state = refl; live = refl; rows = refl; methods = refl; disk = refl }) refl (rw (← c.number-job.ensures) ends))
    c.enter_event-2.ensures

pub make_part-requires-clause-found : goal.make_part-requires-clause-found
make_part-requires-clause-found c =
    let d0 = c.args.self.now in
    ap is_some (first_make_found idle d0.rows.items d0.tickets.items c.args.path c.args.stamp c.requires.sound.kept.apart c.requires.first).2

pub make_part-requires-clause-kept : goal.make_part-requires-clause-kept
make_part-requires-clause-kept c =
    kept-with c.args.self.now (record c.args.self.now { history = c.enter_event.new.history }) _
    (record { state = refl; live = refl; rows = refl; methods = refl; disk = refl }) c.in_ok-enter_event.ensures c.requires.sound.kept
