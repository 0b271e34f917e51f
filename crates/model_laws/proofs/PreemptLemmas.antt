-- Who preempts: a ticket is answered so only by an entry that took the place of its command.
use Rattle.mat_path.proofs.Elements.{contains_cases, mapped_contains}
use Rattle.std.proofs.Common.{◌≡◌, ◌≢◌, ℕ, ◌==◌, nat_lt, Bool, true, false, not, ◌&&◌, ◌⊎◌, List, [], ◌∷◌, ◌++◌, Option, Some, None, cond, inl, inr, refl, sym, ap, subst, ◌∙◌, map, find, Contains, length, arith}
use Rattle.std.specs.List.{filter, list_all, list_any}
use Rattle.std.proofs.lemmas.Bool.{and_parts, not-true}
use Rattle.mat_model.specs.declared.answers.Answer.{Answer}
use Rattle.mat_model.specs.declared.answers.Answer.TheVariants as answer
use Rattle.mat_model.specs.declared.answers.FaultNote.{FaultNote}
use Rattle.mat_model.specs.declared.book.Given.{Given}
use Rattle.mat_model.specs.declared.answers.Recorded.{Recorded}
use Rattle.mat_model.specs.declared.answers.Reply.{Reply}
use Rattle.mat_model.specs.declared.answers.Reply.TheVariants as reply
use Rattle.mat_model.specs.declared.book.Book.{Book}
use Rattle.mat_model.specs.declared.book.Row.{Row}
use Rattle.mat_model.specs.declared.book.Ticket.{Ticket}
use Rattle.mat_model.specs.declared.entries.Entry.{Entry}
use Rattle.mat_model.specs.declared.entries.Event.{Event}
use Rattle.mat_model.specs.declared.entries.Event.TheVariants as event
use Rattle.mat_model.specs.declared.entries.Outcome.{Outcome}
use Rattle.mat_model.specs.declared.entries.Outcome.TheVariants as outcome
use Rattle.mat_model.specs.declared.entries.Task.{Task}
use Rattle.mat_model.specs.declared.entries.Task.TheVariants as task
use Rattle.mat_model.specs.declared.opening.Opening.{Opening}
use Rattle.mat_model.specs.declared.requests.Asked.{Asked}
use Rattle.mat_model.specs.declared.requests.Asked.TheVariants as asked
use Rattle.mat_model.specs.Declarations.{new_row}
use Rattle.mat_model.specs.Gate.{Gate, Served, admits, gate_of, is_command, is_known, is_state, is_soft, may_take, pass, take_over, with_gate}
use Rattle.mat_model.specs.History.{Point, after, after_all, answer_done, begin_with, book_of, is_keeper, is_store_fault, next_number, opened, recorded_as, refusal_note, request_context}
use Rattle.mat_model.specs.History.{answer as answer_event}
use Rattle.mat_model.specs.Kept.{may_fail, overlaps_kept}
use Rattle.mat_model.specs.Requests.{RequestContext, at_moment, is_open_among, preempted, preempted_ticket, serve, serve_now}
use Rattle.mat_model.specs.Rows.{is_clear_of, overlaps_row, put_row}
use Rattle.mat_model.specs.Tickets.{answered_by, answered_by_any, is_lost, is_open, left_ticket, waits_for, waits_for_any, with_answer}
use Rattle.mat_model.specs.Work.{end_make, finish, is_declared, refuse, rows_of_task}
use Rattle.mat_model.specs.WorkState.{Job, path_of_task, running}
use Rattle.model_laws.specs.RunRules.{TookPlace, WasPreempted}
use Rattle.model_laws.proofs.RowCases.{either_served}
use Rattle.model_laws.proofs.Serving.{asked_by}
use Rattle.std.proofs.lemmas.List.Elements.{Contains-append_cases}

-- an answer that isn't that a command took another one's place
abbrev IsOtherAnswer : Answer → Type 0
IsOtherAnswer given = (command : ℕ) → given ≢ answer.Preempted command

-- a ticket that has the answer that its command was preempted had it before, or got it just now
answered_or : (b : Bool) (number n command : ℕ) (given : Answer) (old ticket : Ticket) → cond b (with_answer number given old) old ≡ ticket →
    ticket.answered ≡ Some (record { at = n; answer = answer.Preempted command }) →
    (old ≡ ticket) ⊎ ((b ≡ true) × (given ≡ answer.Preempted command) × (n ≡ number) × (old.command ≡ ticket.command))
answered_or false number n command given old ticket is was = inl is
answered_or true number n command given old ticket is was =
    let new : Given = record { at = number; answer = given } in
    let told : Given = record { at = n; answer = answer.Preempted command } in
    let both : Some new ≡ Some told = ap (λ (t : Ticket). t.answered) is ∙ was in
    let one : new ≡ told = cc in
    inr (refl, ap (λ (g : Given). g.answer) one, sym (ap (λ (g : Given). g.at) one), ap (λ (t : Ticket). t.command) is)

-- what is true of the tickets that are left alone, answered that a row stands, or answered with a failure is true after the end of a job
record EndsOtherwise (P : List Ticket → Type 0) (number : ℕ) (book : Book) : Type 0 where
  same : P book.tickets
  stands : (row : Row) → P (map (answered_by row number (answer.Ready row.stamp row.sum)) book.tickets)
  fails : (some : List Row) (given : Answer) → IsOtherAnswer given → P (map (answered_by_any some number given) book.tickets)

ended_otherwise : (P : List Ticket → Type 0) (number : ℕ) (begun : Task) (out : Outcome) (how : Recorded) (book : Book) → EndsOtherwise P number book →
    P (finish number begun out how book).book.tickets
ended_otherwise P number (task.Make path stamp) out how book ends = by (find (is_declared path stamp) book.rows) out
  where
    by : (o : Option Row) (done : Outcome) → P (end_make number path done how book o).book.tickets
    by None done = ends.same
    by (Some row) outcome.Made = ends.stands row
    by (Some row) outcome.Wiped = ends.same
    by (Some row) (outcome.Missing digest) = ends.fails (row ∷ []) (answer.Missing digest) (λ command is. absurd cc)
    by (Some row) (outcome.Corrupt wanted found) = ends.fails (row ∷ []) (answer.Corrupt wanted found) (λ command is. absurd cc)
    by (Some row) (outcome.Fault note) = ends.fails (row ∷ []) (answer.Fault note) (λ command is. absurd cc)
    by (Some row) outcome.NoMemory = ends.fails (row ∷ []) answer.NoMemory (λ command is. absurd cc)
ended_otherwise P number (task.Wipe path) outcome.Made how book ends = ends.same
ended_otherwise P number (task.Wipe path) outcome.Wiped how book ends = ends.same
ended_otherwise P number (task.Wipe path) (outcome.Missing digest) how book ends = ends.same
ended_otherwise P number (task.Wipe path) (outcome.Corrupt wanted found) how book ends = ends.same
ended_otherwise P number (task.Wipe path) (outcome.Fault note) how book ends =
    ends.fails (filter (overlaps_row path) book.rows) (answer.Fault note) (λ command is. absurd cc)
ended_otherwise P number (task.Wipe path) outcome.NoMemory how book ends =
    ends.fails (filter (overlaps_row path) book.rows) answer.NoMemory (λ command is. absurd cc)

-- a ticket that some test may answer otherwise, and that has the answer that its command was preempted, had it
not_now : (b : Bool) (number n command : ℕ) (given : Answer) (old ticket : Ticket) → IsOtherAnswer given →
    cond b (with_answer number given old) old ≡ ticket → ticket.answered ≡ Some (record { at = n; answer = answer.Preempted command }) → old ≡ ticket
not_now b number n command given old ticket other is was =
    elim (answered_or b number n command given old ticket is was) [ inl same ↦ same | inr now ↦ absurd (other command now.1) ]

otherwise : (f : Ticket → Ticket) (test : Ticket → Bool) (number n command : ℕ) (given : Answer) (tickets : List Ticket) (ticket : Ticket) →
    ((t : Ticket) → f t ≡ cond (test t) (with_answer number given t) t) → IsOtherAnswer given →
    ticket.answered ≡ Some (record { at = n; answer = answer.Preempted command }) → Contains (map f tickets) ticket → Contains tickets ticket
otherwise f test number n command given tickets ticket as_test other was among =
    let (old, within, is) = mapped_contains f tickets ticket among in
    subst (λ (t : Ticket). Contains tickets t)
    (not_now (test old) number n command given old ticket other (sym (as_test old) ∙ is) was) within

-- a request preempted a ticket's command: it was an enter that took the place of those that were live
record HasTaken (number n command asker : ℕ) (request : Asked) (book left : Book) : Type 0 where
  now : n ≡ number
  state : ℕ
  soft : Bool
  refuse : Bool
  asks : request ≡ asked.Enter command state soft refuse
  new : is_known command (gate_of book) ≡ false
  may : may_take state (gate_of book) ≡ true
  live : list_any (is_command asker) book.live ≡ true
  alone : left.live ≡ command ∷ []

-- a ticket of which it says so had that answer, or just got it
abbrev WasOrTaken : ℕ → ℕ → ℕ → Asked → Book → Ticket → Book → Type 0
WasOrTaken number n command request book ticket left =
    Contains left.tickets ticket → Contains book.tickets ticket ⊎ HasTaken number n command ticket.command request book left

asked_taken : (number n command : ℕ) (context : RequestContext) (request : Asked) (book : Book) (ticket : Ticket) →
    ticket.answered ≡ Some (record { at = n; answer = answer.Preempted command }) →
    WasOrTaken number n command request book ticket (serve_now number context request book).book
asked_taken number n command context request book ticket was =
    asked_by (WasOrTaken number n command request book ticket) number context request book (record {
      same = λ among. inl among;
      enters = λ comer state soft refuse is new may among. inl among;
      takes = λ comer state soft refuse is new may among. taken comer state soft refuse is new may among;
      queues = λ comer state soft refuse is new may told among. inl among;
      leaves = λ leaver is none among. inl among;
      puts = λ comer path tree is among.
          inl (lost (filter (overlaps_row path) book.rows) (put_row (new_row number book.now path tree) (filter (is_clear_of path) book.rows)) among);
      uses = λ at comer path among. inl among;
      asks = λ row comer path live over lies among.
          inl (fresh (record { number = number; command = comer; asked = path; answered = None }) refl among);
      removes = λ gone left opposite disturbed among. inl (lost (filter gone book.rows) (filter left book.rows) among);
    })
  where
    undeclared : IsOtherAnswer answer.Undeclared
    undeclared other is = absurd cc

    lost : (removed left : List Row) → Contains (map (left_ticket number removed left) book.tickets) ticket → Contains book.tickets ticket
    lost removed left among =
        otherwise (left_ticket number removed left) (is_lost removed left) number n command answer.Undeclared book.tickets ticket (λ t. refl) undeclared
        was among

    not_none : (o : Option Given) → o ≡ None → o ≡ Some (record { at = n; answer = answer.Preempted command }) → ⊥
    not_none o none some = absurd cc

    fresh : (new : Ticket) → new.answered ≡ None → Contains (book.tickets ++ new ∷ []) ticket → Contains book.tickets ticket
    fresh new none among =
        elim (Contains-append_cases book.tickets (new ∷ []) ticket among) [
          | inl old ↦ old
          | inr last ↦
              elim (contains_cases new [] ticket last) [
                | inl same ↦ absurd (not_none new.answered none (ap (λ (t : Ticket). t.answered) same ∙ was))
                | inr (k, within, at) ↦ absurd (omega (arith, within))
              ]
        ]

    taken : (comer state : ℕ) (soft refuse : Bool) → request ≡ asked.Enter comer state soft refuse → is_known comer (gate_of book) ≡ false →
        may_take state (gate_of book) ≡ true →
        WasOrTaken number n command request book ticket (with_gate (take_over comer state soft (gate_of book)) (preempted number comer book.live book))
    taken comer state soft refuse is new may among =
        let (old, within, mapped) = mapped_contains (preempted_ticket number comer book.live) book.tickets ticket among in
        elim (answered_or (is_open_among book.live old) number n command (answer.Preempted comer) old ticket mapped was) [
          | inl same ↦ inl (subst (λ (t : Ticket). Contains book.tickets t) same within)
          | inr (passes, given, at, asker) ↦
              let one : comer ≡ command = cc in
              inr (record {
                now = at;
                state = state;
                soft = soft;
                refuse = refuse;
                asks = subst (λ (c : ℕ). request ≡ asked.Enter c state soft refuse) one is;
                new = subst (λ (c : ℕ). is_known c (gate_of book) ≡ false) one new;
                may = may;
                live = subst (λ (c : ℕ). list_any (is_command c) book.live ≡ true) asker
                    (and_parts (is_open old) (list_any (is_command old.command) book.live) passes).1;
                alone = ap (λ (c : ℕ). c ∷ []) one;
              })
        ]

-- an enter that took the place of those that were live is told so
told_taken : (number moment n command asker : ℕ) (context : RequestContext) (request : Asked) (book left : Book) →
    HasTaken number n command asker request (at_moment moment book) left →
    (serve number moment context request book).reply ≡ reply.Took (length book.live)
told_taken number moment n command asker context request book left has =
    ap (λ (r : Asked). (serve number moment context r book).reply) has.asks ∙ told
  where
    gate : Gate
    gate = gate_of (at_moment moment book)

    other : (a b c : Bool) → ((a && not b) && c) ≡ true → b ≡ false
    other a b c is = not-true b (and_parts a (not b) (and_parts (a && not b) c is).0).1

    none : (a b : Bool) → b ≡ false → (a && b) ≡ false
    none true b off = off
    none false b off = refl

    shut : admits has.state gate ≡ false
    shut = none ((length gate.waiting == 0) && nat_lt (length gate.live) 64) (is_state has.state gate.state)
        (other (length gate.waiting == 0) (is_state has.state gate.state) (list_all (is_soft gate.soft) gate.live) has.may)

    told : (pass command has.state has.soft has.refuse gate).reply ≡ reply.Took (length book.live)
    told = rw (has.new, shut, has.may) refl

-- what was served for an event: a ticket of which its answer says so had that answer, or just got it
abbrev Preempts : Point → Event → ℕ → ℕ → Ticket → Served → Type 0
Preempts point what n command ticket served =
    Contains served.book.tickets ticket →
    Contains point.book.tickets ticket ⊎ ((n ≡ next_number point) × TookPlace point what served command ticket.command)

event_preempts : (point : Point) (moment : ℕ) (what : Event) (said : Reply) (n command : ℕ) (ticket : Ticket) →
    ticket.answered ≡ Some (record { at = n; answer = answer.Preempted command }) →
    Preempts point what n command ticket (answer_event point moment what said)
event_preempts point moment (event.Asked request) said n command ticket was =
    either_served (Preempts point (event.Asked request) n command ticket) (may_fail request point.book point.kept && is_store_fault said) _ _
    (λ failed among. inl among)
    (λ calm among.
    elim (asked_taken (next_number point) n command (request_context point) request (at_moment moment point.book) ticket was among) [
      | inl old ↦ inl old
      | inr has ↦ inr (
        has.now,
        record {
          state = has.state;
          soft = has.soft;
          refuse = has.refuse;
          asks = ap (λ (r : Asked). event.Asked r) has.asks;
          live = has.live;
          told = told_taken (next_number point) moment n command ticket.command (request_context point) request point.book _ has;
          alone = has.alone;
        },
      )
    ])
event_preempts point moment (event.Begin begun) said n command ticket was = begins (refusal_note said)
  where
    begins : (o : Option FaultNote) → Preempts point (event.Begin begun) n command ticket (begin_with point begun o)
    begins None = λ among. inl among
    begins (Some note) =
        either_served (Preempts point (event.Begin begun) n command ticket)
        (is_keeper note.device && list_any (overlaps_kept (path_of_task begun)) point.kept) _ _
        (λ failed among. inl (otherwise (answered_by_any (rows_of_task begun point.book.rows) (next_number point) (answer.Fault note))
        (waits_for_any (rows_of_task begun point.book.rows)) (next_number point) n command (answer.Fault note) point.book.tickets ticket (λ t. refl)
        (λ other is. absurd cc) was among))
        (λ calm among. inl among)
event_preempts point moment (event.Done number out) said n command ticket was = ends (running number point.work)
  where
    had : List Ticket → Type 0
    had tickets = Contains tickets ticket → Contains point.book.tickets ticket

    ends : (o : Option Job) → Preempts point (event.Done number out) n command ticket (answer_done point out said o)
    ends None = λ among. inl among
    ends (Some job) = λ among.
        inl (ended_otherwise had (next_number point) job.task out (recorded_as said) point.book (record {
          same = λ within. within;
          stands = λ row within.
              otherwise (answered_by row (next_number point) (answer.Ready row.stamp row.sum)) (waits_for row) (next_number point) n command
              (answer.Ready row.stamp row.sum) point.book.tickets ticket (λ t. refl) (λ other is. absurd cc) was within;
          fails = λ some given other within.
              otherwise (answered_by_any some (next_number point) given) (waits_for_any some) (next_number point) n command given point.book.tickets ticket
              (λ t. refl) other was within;
        }) among)

-- behind any entries, a ticket that has the answer that its command was preempted had it, or got it by an entry that took the place of its command
pub history_preempted : (point : Point) (later : List Entry) (ticket : Ticket) (n command : ℕ) →
    Contains (after_all point later).book.tickets ticket → ticket.answered ≡ Some (record { at = n; answer = answer.Preempted command }) →
    Contains point.book.tickets ticket ⊎ WasPreempted point later n command ticket.command
history_preempted point [] ticket n command among was = inl among
history_preempted point (entry ∷ later) ticket n command among was =
    elim (history_preempted (after point entry) later ticket n command among was) [
      | inl here ↦
          elim (event_preempts point entry.now entry.event entry.reply n command ticket was here) [
            | inl old ↦ inl old
            | inr (at, took) ↦ inr (record { before = []; entry = entry; behind = later; split = refl; at = at; took = took })
          ]
      | inr after ↦ inr (record {
        before = entry ∷ after.before;
        entry = after.entry;
        behind = after.behind;
        split = ap (λ (es : List Entry). entry ∷ es) after.split;
        at = after.at;
        took = after.took;
      })
    ]

-- and so it is from an opening on, where there are no tickets
pub opening_preempted : (opening : Opening) (history : List Entry) (ticket : Ticket) (n command : ℕ) →
    Contains (book_of opening history).tickets ticket → ticket.answered ≡ Some (record { at = n; answer = answer.Preempted command }) →
    WasPreempted (opened opening) history n command ticket.command
opening_preempted opening history ticket n command among was =
    elim (history_preempted (opened opening) history ticket n command among was) [
      | inl (k, within, at) ↦ absurd (omega (arith, within))
      | inr took ↦ took
    ]
