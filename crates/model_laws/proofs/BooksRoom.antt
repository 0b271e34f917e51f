-- The limit on those who wait: where there is room for an entry, at most 64 wait behind it.
use Rattle.std.proofs.Common.{◌≡◌, ℕ, ◌+◌, ◌≤◌, nat_lt, Bool, true, false, List, [], ◌∷◌, Option, Some, None, cond, refl, sym, ap, subst, ◌∙◌, length, length-append, arith}
use Rattle.std.specs.List.{filter}
use Rattle.std.proofs.lemmas.Bool.{ltb-false}
use Rattle.mat_model.specs.declared.answers.Limit.{Limit}
use Rattle.mat_model.specs.declared.answers.Limit.TheVariants as limit
use Rattle.mat_model.specs.declared.book.Book.{Book}
use Rattle.mat_model.specs.declared.book.Waiter.{Waiter}
use Rattle.mat_model.specs.declared.entries.Entry.{Entry}
use Rattle.mat_model.specs.declared.entries.Event.{Event}
use Rattle.mat_model.specs.declared.limits.Limits.{Limits}
use Rattle.mat_model.specs.declared.requests.Asked.{Asked}
use Rattle.mat_model.specs.Gate.{Admitted, Gate, Served, admit, admits_front, admitted, depart, departed, gate_of, is_other_waiter, one_more}
use Rattle.mat_model.specs.History.{Point, after, after_all, request_context, next_number}
use Rattle.mat_model.specs.Legal.{IsEach}
use Rattle.mat_model.specs.Requests.{RequestContext, at_moment, enter, serve, serve_now}
use Rattle.mat_model.specs.Room.{HasRoom, full_event, full_served, waits_past}
use Rattle.model_laws.proofs.HistoryLemmas.{after_event}
use Rattle.model_laws.proofs.ListTests.{filter_le}
use Rattle.model_laws.proofs.Serving.{asked_by, ended_beside, ended_by}

-- at most 64 wait
abbrev pub IsShort : Book → Type 0
IsShort book = length book.waiting ≤ 64

-- no more wait where some are admitted, and where one goes
admitted_fewer : (waiters : List Waiter) (gate : Gate) → length (admit waiters gate).gate.waiting ≤ length waiters
admitted_fewer [] gate = omega arith
admitted_fewer (waiter ∷ waiters) gate =
    let more : length (admit waiters (admitted waiter gate)).gate.waiting ≤ length waiters = admitted_fewer waiters (admitted waiter gate) in
    elim (admits_front waiter gate) as
    (λ b. length (cond {A = Admitted} b (one_more (admit waiters (admitted waiter gate)))
    (record { count = 0; gate = record gate { waiting = waiter ∷ waiters } })).gate.waiting ≤ length (waiter ∷ waiters))
    [ true ↦ omega (arith, more) | false ↦ omega arith ]

departed_fewer : (command : ℕ) (gate : Gate) → length (depart command gate).gate.waiting ≤ length gate.waiting
departed_fewer command gate =
    let fewer : length (filter (is_other_waiter command) gate.waiting) ≤ length gate.waiting = filter_le (is_other_waiter command) gate.waiting in
    let less : length (depart command gate).gate.waiting ≤ length (filter (is_other_waiter command) gate.waiting) =
    admitted_fewer (departed command gate).waiting (departed command gate) in
    omega (arith, fewer, less)

-- a request keeps the queue short where it isn't answered that a command waits past the last place
serve_short : (number : ℕ) (context : RequestContext) (request : Asked) (book : Book) → IsShort book → waits_past (serve_now number context request book).reply ≡ false →
    IsShort (serve_now number context request book).book
serve_short number context request book short within =
    asked_by IsShort number context request book (record {
      same = short;
      enters = λ command state soft refuse is new may. short;
      takes = λ command state soft refuse is new may. short;
      queues = λ command state soft refuse is new may told.
          let asks : waits_past (enter number command state soft refuse book).reply ≡ false =
          subst (λ (r : Asked). waits_past (serve_now number context r book).reply ≡ false) is within in
          let free : nat_lt 64 (length book.waiting + 1) ≡ false = sym (ap waits_past told) ∙ asks in
          let few : length book.waiting + 1 ≤ 64 = ltb-false 64 (length book.waiting + 1) free in
          subst (λ (n : ℕ). n ≤ 64) (sym (length-append book.waiting (record { command = command; state = state } ∷ []))) few;
      leaves = λ command is none. let fewer : length (depart command (gate_of book)).gate.waiting ≤ length book.waiting = departed_fewer command (gate_of book) in
          omega (arith, short, fewer);
      puts = λ command path tree is. short;
      uses = λ at command path. short;
      asks = λ row command path live over lies. short;
      removes = λ gone left opposite disturbed. short;
    })

-- a limit that isn't the first one to be passed isn't passed
pub none_parts : (b : Bool) (first : Limit) (rest : Option Limit) → cond b (Some first) rest ≡ None → (b ≡ false) × (rest ≡ None)
none_parts true first rest none = absurd cc
none_parts false first rest none = (refl, none)

room_waits : (limits : Limits) (point : Point) (request : Asked) (served : Served) → full_served limits point request served ≡ None →
    waits_past served.reply ≡ false
room_waits limits point request served none =
    (none_parts (waits_past served.reply) limit.Waiting _ (none_parts _ limit.Nodes _ (none_parts _ limit.History _ none).1).1).0

-- an entry, and a history, for which there is room keep the queue short
entry_short : (limits : Limits) (point : Point) (entry : Entry) → IsShort point.book → HasRoom limits point entry → IsShort (after point entry).book
entry_short limits point entry short room =
    after_event IsShort point entry.now entry.event entry.reply (record {
      same = short;
      later = short;
      asks = λ request is.
          serve_short (next_number point) (request_context point) request (at_moment entry.now point.book) short
          (room_waits limits point request (serve (next_number point) entry.now (request_context point) request point.book)
          (subst (λ (what : Event). full_event limits point entry.now what ≡ None) is room));
      refuses = λ begun note. short;
      ends = λ task out how.
          ended_by IsShort (next_number point) task out how point.book
          (ended_beside IsShort (next_number point) point.book (λ rows tickets. short));
    })

-- the queue stays short over a history that had room for each entry
pub history_short : (limits : Limits) (point : Point) (later : List Entry) → IsShort point.book → IsEach (HasRoom limits) point later →
    IsShort (after_all point later).book
history_short limits point [] short room = short
history_short limits point (entry ∷ later) short room =
    history_short limits (after point entry) later (entry_short limits point entry short room.0) room.1
