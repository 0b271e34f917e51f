-- What is reserved stays reserved through a request.
use Rattle.std.proofs.Common.{◌≡◌, ℕ, ◌+◌, ◌*◌, max, count_by, filter, ◌≤◌, ◌==◌, Bool, true, false, not, [], cond, refl, sym, ap, subst, ◌∙◌, le_refl, length, length-append, Contains, arith}
use Rattle.std.proofs.Math.Nat.{max-eq_left}
use Rattle.std.proofs.lemmas.Bool.{and_parts}
use Rattle.std.specs.Vec.{vec_capacity}
use Rattle.std.specs.declared.alloc.Global.{Global}
use Rattle.std.specs.declared.vec.Vec.{Vec}
use Rattle.hall_lock.specs.declared.By.{By}
use Rattle.mat_model.specs.declared.answers.Reply.{Reply}
use Rattle.mat_model.specs.declared.answers.Reply.TheVariants as reply
use Rattle.mat_model.specs.declared.book.Book.{Book}
use Rattle.mat_model.specs.declared.entries.Entry.{Entry}
use Rattle.mat_model.specs.declared.requests.Asked.{Asked}
use Rattle.mat_model.specs.declared.requests.Asked.TheVariants as asked
use Rattle.mat_model.specs.Gate.{Served, depart, gate_of, is_known, with_gate}
use Rattle.mat_model.specs.Requests.{RequestContext, at_moment, is_hold_of_other, is_open_of, leave_with, serve, serve_now}
use Rattle.mat_model.specs.Room.{entries_for}
use Rattle.model_laws.proofs.RoomCases.{asked_goes}
use Rattle.model_laws.proofs.RowCases.{either_served}
use Rattle.job_book.specs.Jobs.{jobs_of}
use Rattle.mat_core.specs.Books.{book_in}
use Rattle.mat_core.specs.Enters.{is_free_leave}
use Rattle.mat_core.specs.Rooms.{FitsEntries, HasReserves, IsReservedFor, KeepsReserves, spent_in}
use Rattle.mat_core.specs.Served.{IsUnchanged, Serves, is_entered}
use Rattle.mat_core.specs.declared.parts.Parts.{Parts}
use Rattle.mat_core.proofs.CallLemmas.{AreSameBooks, IsCalled, IsRaised}
use Rattle.mat_core.proofs.ServeLemmas.{beside_reserves}

-- ---- what a request wants

-- a request wants two entries at most
few_entries : (number : ℕ) (context : RequestContext) (request : Asked) (book : Book) →
    entries_for request (serve_now number context request book).reply ≤ 2
few_entries number context (asked.Enter command state soft refuse) book = omega arith
few_entries number context (asked.Leave command) book =
    either_served Q (is_known command (gate_of book)) _ _
    (λ known. either_served Q (count_by (is_open_of command) book.tickets == 0) _ _ (λ none. omega arith) (λ busy. omega arith))
    (λ new. omega arith)
  where
    Q : Served → Type 0
    Q served = entries_for (asked.Leave command) served.reply ≤ 2
few_entries number context (asked.Write command path sum) book = omega arith
few_entries number context (asked.Declare command path tree) book = omega arith
few_entries number context (asked.Copy command path source) book = omega arith
few_entries number context (asked.Matches command path sum) book = omega arith
few_entries number context (asked.Has command path) book = omega arith
few_entries number context (asked.Ensure command path) book = omega arith
few_entries number context (asked.Invalidate command path) book = omega arith
few_entries number context (asked.Clean cutoff mode) book = omega arith
few_entries number context asked.Flush book = omega arith

-- the leave of a command that may go wants none
free_leave : (request : Asked) (book : Book) → is_free_leave request book ≡ true → (number : ℕ) (context : RequestContext) →
    entries_for request (serve_now number context request book).reply ≡ 0
free_leave (asked.Leave command) book free number context =
    ap (λ b. entries_for (asked.Leave command) (cond {A = Served} b (leave_with pending command book) (record { reply = reply.Unknown; book = book })).reply)
    (and_parts (is_known command (gate_of book)) (pending == 0) free).0
    ∙ ap (λ b. entries_for (asked.Leave command) (cond {A = Served} b (record {
      reply = reply.Left (depart command (gate_of book)).count;
      book = with_gate (depart command (gate_of book)).gate (record book { holds = filter (is_hold_of_other command) book.holds });
    }) (record { reply = reply.Busy pending; book = book })).reply) (and_parts (is_known command (gate_of book)) (pending == 0) free).1
  where
    pending : ℕ
    pending = count_by (is_open_of command) book.tickets
free_leave (asked.Enter command state soft refuse) book free number context = absurd cc
free_leave (asked.Write command path sum) book free number context = absurd cc
free_leave (asked.Declare command path tree) book free number context = absurd cc
free_leave (asked.Copy command path source) book free number context = absurd cc
free_leave (asked.Matches command path sum) book free number context = absurd cc
free_leave (asked.Has command path) book free number context = absurd cc
free_leave (asked.Ensure command path) book free number context = absurd cc
free_leave (asked.Invalidate command path) book free number context = absurd cc
free_leave (asked.Clean cutoff mode) book free number context = absurd cc
free_leave asked.Flush book free number context = absurd cc

-- whether a command may go doesn't depend on the moment
free_moment : (moment : ℕ) (request : Asked) (book : Book) → is_free_leave request (record book { now = moment }) ≡ is_free_leave request book
free_moment moment (asked.Leave command) book = refl
free_moment moment (asked.Enter command state soft refuse) book = refl
free_moment moment (asked.Write command path sum) book = refl
free_moment moment (asked.Declare command path tree) book = refl
free_moment moment (asked.Copy command path source) book = refl
free_moment moment (asked.Matches command path sum) book = refl
free_moment moment (asked.Has command path) book = refl
free_moment moment (asked.Ensure command path) book = refl
free_moment moment (asked.Invalidate command path) book = refl
free_moment moment (asked.Clean cutoff mode) book = refl
free_moment moment asked.Flush book = refl

-- what a request wants fits, where there is room for two entries more, or it is the leave of a command that may go
pub entries_fit : {D K : Type 0} (request : Asked) (parts : Parts D K) → spent_in parts ≤ vec_capacity parts.history →
    (is_free_leave request (book_in parts) ≡ false → spent_in parts + 2 ≤ vec_capacity parts.history) → FitsEntries request parts
entries_fit request parts room more number moment context =
    elim (is_free_leave request (book_in parts)) as
    (λ b. is_free_leave request (book_in parts) ≡ b →
    spent_in parts + entries_for request (serve number moment context request (book_in parts)).reply ≤ vec_capacity parts.history) [
      | true ↦ λ is.
          let none = free_leave request (at_moment moment (book_in parts))
          (free_moment (max (book_in parts).now moment) request (book_in parts) ∙ is) number context in
          omega (arith, none, room)
      | false ↦ λ is.
          let few = few_entries number context request (at_moment moment (book_in parts)) in
          let room = more is in
          omega (arith, few, room)
    ] refl

-- so it fits parts whose moment is raised, once room was made for what the request wants
pub raised_fits : {D K : Type 0} (now : ℕ) (request : Asked) (old raised : Parts D K) (wants : Bool) (entries : ℕ) → IsRaised now old raised →
    HasReserves old → wants ≡ not (is_free_leave request (book_in old)) → entries + length old.history.items ≡ spent_in old + 2 →
    (wants ≡ true → length raised.history.items + entries ≤ vec_capacity raised.history) → FitsEntries request raised
raised_fits now request old raised wants entries is had wanted count place =
    entries_fit request raised (let room = had.history in let more = is.capacity in omega (arith, spent, room, more))
    (λ off.
    let free : is_free_leave request (book_in old) ≡ false =
    sym (free_moment (max old.moment now) request (book_in old)) ∙ ap (λ (b : Book). is_free_leave request b) (sym is.book) ∙ off in
    let more = place (wanted ∙ ap not free) in
    let items : length raised.history.items ≡ length old.history.items = ap length is.history in
    omega (arith, spent, count, more, items))
  where
    spent : spent_in raised ≡ spent_in old
    spent =
        let items : length raised.history.items ≡ length old.history.items = ap length is.history in
        let jobs : length raised.jobs ≡ length old.jobs = ap length is.same.jobs in
        let live : length raised.gate.live ≡ length old.gate.live = ap (λ (b : Book). length b.live) is.book in
        let waiting : length raised.gate.waiting ≡ length old.gate.waiting = ap (λ (b : Book). length b.waiting) is.book in
        omega (arith, items, jobs, live, waiting)

-- ---- parts

-- what is reserved stays where the books are the same, and there is no less room in the history than is spent
pub reserves_kept : {D K : Type 0} (old new : Parts D K) → KeepsReserves old new → spent_in new ≤ vec_capacity new.history → HasReserves old →
    HasReserves new
reserves_kept old new keeps room had = record {
  history = room;
  debris = subst (λ js. 2 * length js ≤ new.debris.spare) (sym keeps.jobs) (keeps.debris had.debris);
  places = λ job among. subst (λ r. IsReservedFor r job.task) (sym keeps.places)
      (had.places job (subst (λ js. Contains (jobs_of js) job) keeps.jobs among));
}

keeps_books : {D K : Type 0} (old new : Parts D K) → AreSameBooks old new → KeepsReserves old new
keeps_books old new same = beside_reserves old new same.debris same.jobs same.kept

keeps_both : {D K : Type 0} (old middle new : Parts D K) → KeepsReserves old middle → KeepsReserves middle new → KeepsReserves old new
keeps_both old middle new first second = record {
  jobs = second.jobs ∙ first.jobs;
  debris = λ room. subst (λ js. 2 * length js ≤ new.debris.spare) first.jobs
      (second.debris (subst (λ js. 2 * length js ≤ middle.debris.spare) (sym first.jobs) (first.debris room)));
  places = second.places ∙ first.places;
}

-- more room in the history changes nothing of that
pub reserves_grown : {D K : Type 0} (old : Parts D K) (history : Vec Entry Global) → history.items ≡ old.history.items →
    vec_capacity old.history ≤ vec_capacity history → HasReserves old → HasReserves (record old { history = history })
reserves_grown old history items capacity had =
    reserves_kept old (record old { history = history }) (keeps_books old (record old { history = history }) (record {
      rows = refl;
      debris = refl;
      jobs = refl;
      kept = refl;
      nodes = refl;
      paths = refl;
    }))
    (let same : length history.items ≡ length old.history.items = ap length items in
    let room = had.history in
    omega (arith, same, room, capacity))
    had

module _ {D K : Type 0} (by : By) (now : ℕ) (request : Asked) (said : Reply) (old raised served : Parts D K) (is : IsRaised now old raised)
    (serves : Serves (old.first + length old.history.items) request said raised served) where
  -- a request that isn't entered leaves what is reserved
  pub reserves_still : (new : Parts D K) → IsUnchanged raised served → book_in new ≡ record (book_in served) { now = old.moment } →
      AreSameBooks served new → new.history ≡ served.history → HasReserves old → HasReserves new
  reserves_still new unchanged book same history had =
      reserves_kept old new
      (keeps_both old raised new (keeps_books old raised is.same)
      (keeps_both raised served new serves.reserves (keeps_books served new same)))
      (let entries : length new.history.items ≡ length old.history.items =
      ap (λ h. length h.items) (history ∙ unchanged.beside.history) ∙ ap length is.history in
      let jobs : length new.jobs ≡ length old.jobs = ap length (same.jobs ∙ unchanged.jobs ∙ is.same.jobs) in
      let live : length new.gate.live ≡ length old.gate.live =
      ap (λ (b : Book). length b.live) (book ∙ ap (λ (b : Book). record b { now = old.moment }) (unchanged.book ∙ is.book)) in
      let waiting : length new.gate.waiting ≡ length old.gate.waiting =
      ap (λ (b : Book). length b.waiting) (book ∙ ap (λ (b : Book). record b { now = old.moment }) (unchanged.book ∙ is.book)) in
      let room : vec_capacity new.history ≡ vec_capacity raised.history = ap vec_capacity (history ∙ unchanged.beside.history) in
      let before = is.capacity in
      let spent = had.history in
      omega (arith, entries, jobs, live, waiting, room, before, spent))
      had

  -- where it is entered, there is room for its entry and for all that are spent then
  module _ (fits : FitsEntries request raised) (entered : is_entered said ≡ true) (context : RequestContext) where
    same_moment : at_moment raised.moment (book_in raised) ≡ book_in raised
    same_moment = ap (λ n. record (book_in raised) { now = n }) (max-eq_left (le_refl raised.moment))

    entry_fits : spent_in served + 1 ≤ vec_capacity served.history
    entry_fits =
        let needs : length served.gate.live + length served.gate.waiting + 1
        ≤ length raised.gate.live + length raised.gate.waiting + entries_for request said =
        subst (λ (s : Served). length s.book.live + length s.book.waiting + 1
        ≤ length raised.gate.live + length raised.gate.waiting + entries_for request s.reply) (sym (serves.served entered context))
        (asked_goes (old.first + length old.history.items) context request (book_in raised) []).gate in
        let place : spent_in raised + entries_for request said ≤ vec_capacity raised.history =
        subst (λ n. spent_in raised + n ≤ vec_capacity raised.history)
        (ap (λ (b : Book). entries_for request (serve_now (old.first + length old.history.items) context request b).reply) same_moment
        ∙ ap (λ (s : Served). entries_for request s.reply) (sym (serves.served entered context)))
        (fits (old.first + length old.history.items) raised.moment context) in
        let jobs : length served.jobs ≡ length raised.jobs = ap length serves.reserves.jobs in
        let entries : length served.history.items ≡ length raised.history.items = ap (λ h. length h.items) serves.beside.history in
        let room : vec_capacity served.history ≡ vec_capacity raised.history = ap vec_capacity serves.beside.history in
        omega (arith, needs, place, jobs, entries, room)

  pub entry_has_place : FitsEntries request raised → is_entered said ≡ true → (context : RequestContext) →
      length served.history.items + 1 ≤ vec_capacity served.history
  entry_has_place fits entered context = let all = entry_fits fits entered context in omega (arith, all)

  pub reserves_called : (new : Parts D K) → FitsEntries request raised → is_entered said ≡ true → (context : RequestContext) →
      IsCalled by now request said old raised served new → HasReserves old → HasReserves new
  reserves_called new fits entered context called had =
      reserves_kept old new
      (keeps_both old raised new (keeps_books old raised is.same)
      (keeps_both raised served new serves.reserves (keeps_books served new called.same)))
      (let all = entry_fits fits entered context in
      let entries : length new.history.items ≡ length served.history.items + 1 = ap length called.history ∙ length-append served.history.items _ in
      let jobs : length new.jobs ≡ length served.jobs = ap length called.same.jobs in
      let live : length new.gate.live ≡ length served.gate.live = ap (λ (b : Book). length b.live) called.book in
      let waiting : length new.gate.waiting ≡ length served.gate.waiting = ap (λ (b : Book). length b.waiting) called.book in
      let room = called.capacity in
      omega (arith, all, entries, jobs, live, waiting, room))
      had
