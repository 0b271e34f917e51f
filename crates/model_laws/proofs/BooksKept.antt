-- The rules of a book together: each event keeps them, and so does each history. What they say of an open ticket and of who waits.
use Rattle.model_laws.proofs.BooksSoft.{AreSoft, asked_soft}
use Rattle.mat_model.specs.Openings.{IsOpening, recovered}
use Rattle.mat_model.specs.declared.opening.Opening.{Opening}
use Rattle.std.proofs.Common.{◌≡◌, ◌≢◌, ℕ, ◌+◌, ◌<◌, ◌≤◌, ◌==◌, max, nat_lt, true, false, ◌&&◌, List, [], ◌∷◌, ◌++◌, Option, Some, None, inl, inr, refl, sym, ap, subst, ◌∙◌, ◌⊎◌, map, Contains, count_by, length, length-append, arith}
use Rattle.std.specs.List.{All, AllPairs, list_any}
use Rattle.std.specs.Option.{is_none}
use Rattle.std.proofs.lemmas.Bool.{and_cases, and_from, both_ways, eq-eqb, eqb-true, false_from_ne_true, ltb-false, not-true, or_left}
use Rattle.std.proofs.Math.Nat.{add_assoc}
use Rattle.std.proofs.lemmas.List.Elements.{All-contains, All-nil}
use Rattle.mat_model.specs.declared.answers.Answer.TheVariants as answer
use Rattle.mat_model.specs.declared.answers.FaultNote.{FaultNote}
use Rattle.mat_model.specs.declared.answers.Recorded.{Recorded}
use Rattle.mat_model.specs.declared.answers.Reply.TheVariants as reply
use Rattle.mat_model.specs.declared.book.Book.{Book}
use Rattle.mat_model.specs.declared.book.Hold.{Hold}
use Rattle.mat_model.specs.declared.book.Row.{Row}
use Rattle.mat_model.specs.declared.book.Ticket.{Ticket}
use Rattle.mat_model.specs.declared.book.Waiter.{Waiter}
use Rattle.mat_model.specs.declared.entries.Entry.{Entry}
use Rattle.mat_model.specs.declared.entries.Outcome.{Outcome}
use Rattle.mat_model.specs.declared.entries.Task.{Task}
use Rattle.mat_model.specs.declared.requests.Asked.{Asked}
use Rattle.mat_model.specs.Books.{IsAsking, IsAwaited, IsAwaitedOnce, IsBook, IsCommandOf, IsIdle, IsOtherHold, IsSummed, WaitsRightly, are_ascending, command_of, commands, is_held_back, lies_over, number_of}
use Rattle.mat_model.specs.Gate.{is_live, is_nobody, is_state, is_waiter}
use Rattle.mat_model.specs.History.{Point, after, after_all, request_context, book_of, next_number, opened, point_of}
use Rattle.model_laws.specs.Laws.{IsGated}
use Rattle.mat_model.specs.Requests.{RequestContext, at_moment, is_open_of, leave, serve}
use Rattle.mat_model.specs.Rows.{are_apart, covers}
use Rattle.mat_model.specs.Tickets.{is_open}
use Rattle.mat_model.specs.Work.{finish, refuse, rows_of_task}
use Rattle.model_laws.proofs.BooksCovered.{asked_awaited, ended_awaited, lies_parts}
use Rattle.model_laws.proofs.BooksGate.{asked_held, asked_once}
use Rattle.model_laws.proofs.BooksLists.{any_contains, found_alone, none_counted}
use Rattle.model_laws.proofs.BooksRows.{asked_summed, cover_same, ended_summed}
use Rattle.model_laws.proofs.BooksTickets.{AreNumbered, asked_asking, asked_holds, asked_numbered, below_more, ended_asking, ended_numbered}
use Rattle.model_laws.proofs.ApartLemmas.{finish_apart, serve_apart}
use Rattle.model_laws.proofs.GateLemmas.{finish_gated, serve_gated}
use Rattle.model_laws.proofs.HistoryLemmas.{after_event}
use Rattle.model_laws.proofs.LegalLemmas.{finish-clock, serve-clock}
use Rattle.model_laws.proofs.Serving.{asked_by, ended_beside, ended_by}

-- a request keeps the rules
pub serve_rules : (number moment : ℕ) (context : RequestContext) (request : Asked) (book : Book) → IsBook number book →
    IsBook (number + 1) (serve number moment context request book).book
serve_rules number moment context request book rules =
    let now : Book = at_moment moment book in
    let gated : IsGated (serve number moment context request book).book = serve_gated number moment context request book (rules.few, rules.state) in
    let numbered : AreNumbered (number + 1) (serve number moment context request book).book.tickets =
    asked_by (λ (b : Book). AreNumbered (number + 1) b.tickets) number context request now
    (asked_numbered number request now (rules.ascending, rules.below)) in
    let softs : AreSoft (serve number moment context request book).book =
    asked_by AreSoft number context request now (asked_soft number request now (rules.ordered, rules.soft)) in record {
      apart = serve_apart number moment context request book rules.apart;
      sums = asked_by (λ (b : Book). All IsSummed b.rows) number context request now (asked_summed number request now rules.sums);
      once = asked_by (λ (b : Book). AllPairs ◌≢◌ (commands b)) number context request now (asked_once number request now rules.once);
      few = gated.0;
      state = gated.1;
      waits = asked_by (λ (b : Book). is_held_back b.live b.state b.waiting ≡ true) number context request now (asked_held number request now rules.waits);
      ordered = softs.0;
      soft = softs.1;
      holds = asked_by (λ (b : Book). AllPairs IsOtherHold b.holds) number context request now (asked_holds number request now rules.holds);
      ascending = numbered.0;
      below = numbered.1;
      asking = asked_by (λ (b : Book). All (IsAsking b.live) b.tickets) number context request now (asked_asking number request now rules.asking);
      covered = asked_by (λ (b : Book). All (IsAwaited b.rows) b.tickets) number context request now
          (asked_awaited number request now rules.apart rules.covered);
    }

-- the end of a job keeps the rules
pub finish_rules : (number : ℕ) (task : Task) (out : Outcome) (how : Recorded) (book : Book) → IsBook number book →
    IsBook (number + 1) (finish number task out how book).book
finish_rules number task out how book rules =
    let gated : IsGated (finish number task out how book).book = finish_gated number task out how book (rules.few, rules.state) in
    let numbered : AreNumbered (number + 1) (finish number task out how book).book.tickets =
    ended_by (λ (b : Book). AreNumbered (number + 1) b.tickets) number task out how book
    (ended_numbered number book (rules.ascending, rules.below)) in record {
      apart = finish_apart number task out how book rules.apart;
      sums = ended_by (λ (b : Book). All IsSummed b.rows) number task out how book (ended_summed number book rules.sums);
      once = beside (λ (b : Book). AllPairs ◌≢◌ (commands b)) (λ rows tickets. rules.once);
      few = gated.0;
      state = gated.1;
      waits = beside (λ (b : Book). is_held_back b.live b.state b.waiting ≡ true) (λ rows tickets. rules.waits);
      ordered = beside (λ (b : Book). are_ascending b.soft ≡ true) (λ rows tickets. rules.ordered);
      soft = beside (λ (b : Book). All (IsCommandOf b) b.soft) (λ rows tickets. rules.soft);
      holds = beside (λ (b : Book). AllPairs IsOtherHold b.holds) (λ rows tickets. rules.holds);
      ascending = numbered.0;
      below = numbered.1;
      asking = ended_by (λ (b : Book). All (IsAsking b.live) b.tickets) number task out how book (ended_asking number book rules.asking);
      covered = ended_by (λ (b : Book). All (IsAwaited b.rows) b.tickets) number task out how book
          (ended_awaited number book rules.apart rules.covered);
    }
  where
    beside : (P : Book → Type 0) → ((rows : List Row) (tickets : List Ticket) → P (record book { rows = rows; tickets = tickets })) →
        P (finish number task out how book).book
    beside P each = ended_by P number task out how book (ended_beside P number book each)

-- a begin that is refused keeps the rules
pub refuse_rules : (number : ℕ) (begun : Task) (note : FaultNote) (book : Book) → IsBook number book →
    IsBook (number + 1) (refuse number begun note book).book
refuse_rules number begun note book rules =
    let some : List Row = rows_of_task begun book.rows in
    let numbered : AreNumbered (number + 1) (refuse number begun note book).book.tickets =
    (ended_numbered number book (rules.ascending, rules.below)).fails some (answer.Fault note) in record {
      apart = rules.apart;
      sums = rules.sums;
      once = rules.once;
      few = rules.few;
      state = rules.state;
      waits = rules.waits;
      ordered = rules.ordered;
      soft = rules.soft;
      holds = rules.holds;
      ascending = numbered.0;
      below = numbered.1;
      asking = (ended_asking number book rules.asking).fails some (answer.Fault note);
      covered = (ended_awaited number book rules.apart rules.covered).fails some (answer.Fault note);
    }

-- the rules are kept at a later moment, and where the next number is greater
later_rules : (number now : ℕ) (book : Book) → IsBook number book → IsBook (number + 1) (record book { now = now })
later_rules number now book rules = record {
  apart = rules.apart;
  sums = rules.sums;
  once = rules.once;
  few = rules.few;
  state = rules.state;
  waits = rules.waits;
  ordered = rules.ordered;
  soft = rules.soft;
  holds = rules.holds;
  ascending = rules.ascending;
  below = below_more number (map number_of book.tickets) rules.below;
  asking = rules.asking;
  covered = rules.covered;
}

-- an event leaves the number of the first entry
pub first_stays : (point : Point) (entry : Entry) → (after point entry).book.first ≡ point.book.first
first_stays point entry =
    after_event (λ (b : Book). b.first ≡ point.book.first) point entry.now entry.event entry.reply (record {
      same = refl;
      later = refl;
      asks = λ request is. (serve-clock (next_number point) entry.now (request_context point) request point.book).first;
      refuses = λ begun note. refl;
      ends = λ task out how. (finish-clock (next_number point) task out how point.book).first;
    })

-- the next entry's number is one more after an entry
pub next_more : (point : Point) (entry : Entry) → next_number (after point entry) ≡ next_number point + 1
next_more point entry =
    ap (λ (n : ℕ). n + length (point.history ++ entry ∷ [])) (first_stays point entry)
    ∙ ap (λ (n : ℕ). point.book.first + n) (length-append point.history (entry ∷ []))
    ∙ sym (add_assoc point.book.first (length point.history) 1)

-- an entry, and a history, keep the rules
pub entry_rules : (point : Point) (entry : Entry) → IsBook (next_number point) point.book →
    IsBook (next_number (after point entry)) (after point entry).book
entry_rules point entry rules =
    subst (λ (n : ℕ). IsBook n (after point entry).book) (sym (next_more point entry))
    (after_event (IsBook (next_number point + 1)) point entry.now entry.event entry.reply (record {
      same = later_rules (next_number point) point.book.now point.book rules;
      later = later_rules (next_number point) (max point.book.now entry.now) point.book rules;
      asks = λ request is. serve_rules (next_number point) entry.now (request_context point) request point.book rules;
      refuses = λ begun note. refuse_rules (next_number point) begun note point.book rules;
      ends = λ task out how. finish_rules (next_number point) task out how point.book rules;
    }))

-- a history keeps the rules of a book
pub history_rules : (point : Point) (later : List Entry) → IsBook (next_number point) point.book →
    IsBook (next_number (after_all point later)) (after_all point later).book
history_rules point [] rules = rules
history_rules point (entry ∷ later) rules = history_rules (after point entry) later (entry_rules point entry rules)

-- exactly one row covers what an open ticket asks for, and it doesn't stand
pub ticket_waits : (next : ℕ) (book : Book) (ticket : Ticket) → IsBook next book → Contains book.tickets ticket → is_open ticket ≡ true →
    IsAwaitedOnce book.rows ticket.asked
ticket_waits next book ticket rules among lies =
    let one = any_contains (lies_over ticket.asked) book.rows
    (All-contains (IsAwaited book.rows) book.tickets ticket rules.covered among lies) in
    let over = lies_parts ticket.asked one.0 one.2 in
    let same : (other : Row) → Contains book.rows other → covers ticket.asked other ≡ true → other ≡ one.0 =
    λ other also too. cover_same book.rows ticket.asked other one.0 rules.apart also one.1 too over.0 in
    (one.0, found_alone (covers ticket.asked) book.rows one.0 one.1 over.0 same, over.1, same)

-- the command of an open ticket can't leave
pub asker_busy : (next : ℕ) (book : Book) (ticket : Ticket) → IsBook next book → Contains book.tickets ticket → is_open ticket ≡ true →
    leave ticket.command book ≡ record { reply = reply.Busy (count_by (is_open_of ticket.command) book.tickets); book = book }
asker_busy next book ticket rules among lies =
    let live : is_live ticket.command book ≡ true = All-contains (IsAsking book.live) book.tickets ticket rules.asking among lies in
    let busy : (count_by (is_open_of ticket.command) book.tickets == 0) ≡ false =
    false_from_ne_true (count_by (is_open_of ticket.command) book.tickets == 0)
    (λ none. both_ways (is_open_of ticket.command ticket)
    (All-contains (λ (t : Ticket). is_open_of ticket.command t ≡ false) book.tickets ticket
    (none_counted (is_open_of ticket.command) book.tickets (eqb-true (count_by (is_open_of ticket.command) book.tickets) 0 none)) among)
    (and_from (is_open ticket) (ticket.command == ticket.command) lies (eq-eqb ticket.command ticket.command refl))) in
    rw (or_left (is_live ticket.command book) (list_any (is_waiter ticket.command) book.waiting) live, busy) refl

-- who is at the front of the queue waits for a reason
full : (n : ℕ) → n ≤ 64 → nat_lt n 64 ≡ false → n ≡ 64
full n few many = let least : 64 ≤ n = ltb-false n 64 many in omega (arith, few, least)

front_reason : (live : List ℕ) (now : Option ℕ) (waiter : Waiter) → length live ≤ 64 → (nat_lt (length live) 64 && is_state waiter.state now) ≡ false →
    (length live ≡ 64) ⊎ ((state : ℕ) × (now ≡ Some state) × (state ≢ waiter.state))
front_reason live now waiter few held =
    elim (and_cases (nat_lt (length live) 64) (is_state waiter.state now) held) [
      | inl many ↦ inl (full (length live) few many)
      | inr other ↦ inr (other_state now other)
    ]
  where
    other_state : (o : Option ℕ) → is_state waiter.state o ≡ false → (state : ℕ) × (o ≡ Some state) × (state ≢ waiter.state)
    other_state None off = absurd cc
    other_state (Some state) off = (state, refl, λ same. both_ways (state == waiter.state) off (eq-eqb state waiter.state same))

-- who is at the front of the queue waits for room or for another state
pub front_waits : (next : ℕ) (book : Book) (waiter : Waiter) (others : List Waiter) → IsBook next book → book.waiting ≡ waiter ∷ others →
    WaitsRightly book waiter
front_waits next book waiter others rules is =
    let held : is_held_back book.live book.state (waiter ∷ others) ≡ true =
    subst (λ (ws : List Waiter). is_held_back book.live book.state ws ≡ true) is rules.waits in
    front_reason book.live book.state waiter rules.few (not-true (nat_lt (length book.live) 64 && is_state waiter.state book.state) held)

-- somebody is live where somebody waits
pub somebody_live : (next : ℕ) (book : Book) (waiter : Waiter) (others : List Waiter) → IsBook next book → book.waiting ≡ waiter ∷ others →
    is_nobody book.live ≡ false
somebody_live next book waiter others rules is =
    elim (front_waits next book waiter others rules is) [
      | inl many ↦ some_of book.live many
      | inr (state, now, other) ↦ sym rules.state ∙ ap (λ (o : Option ℕ). is_none o) now
    ]
  where
    some_of : (live : List ℕ) → length live ≡ 64 → is_nobody live ≡ false
    some_of [] many = absurd (omega (arith, many))
    some_of (command ∷ live) many = refl

-- the rules of the rows alone make an idle book one that keeps them all
none_paired : {A : Type 0} (R : A → A → Type 0) → AllPairs R []
none_paired R i j d first second = absurd (omega (arith, first, second))

-- an idle book with its rows apart and each with the sum of its tree keeps all rules
pub idle_rules : (next : ℕ) (book : Book) → IsIdle book → are_apart book.rows ≡ true → All IsSummed book.rows → IsBook next book
idle_rules next book idle apart sums = record {
  apart = apart;
  sums = sums;
  once = subst (λ (live : List ℕ). AllPairs ◌≢◌ (live ++ map command_of book.waiting)) (sym idle.live)
      (subst (λ (ws : List Waiter). AllPairs ◌≢◌ (map command_of ws)) (sym idle.waiting) (none_paired ◌≢◌));
  few = subst (λ (live : List ℕ). length live ≤ 64) (sym idle.live) (omega arith);
  state = ap (λ (o : Option ℕ). is_none o) idle.state ∙ sym (ap (λ (live : List ℕ). is_nobody live) idle.live);
  waits = ap (λ (ws : List Waiter). is_held_back book.live book.state ws) idle.waiting;
  ordered = ap are_ascending idle.soft;
  soft = subst (λ (cs : List ℕ). All (IsCommandOf book) cs) (sym idle.soft) (All-nil (IsCommandOf book));
  holds = subst (λ (hs : List Hold). AllPairs IsOtherHold hs) (sym idle.holds) (none_paired IsOtherHold);
  ascending = subst (λ (ts : List Ticket). AllPairs ◌<◌ (map number_of ts)) (sym idle.tickets) (none_paired ◌<◌);
  below = subst (λ (ts : List Ticket). All (λ (n : ℕ). n < next) (map number_of ts)) (sym idle.tickets) (All-nil (λ (n : ℕ). n < next));
  asking = subst (λ (ts : List Ticket). All (IsAsking book.live) ts) (sym idle.tickets) (All-nil (IsAsking book.live));
  covered = subst (λ (ts : List Ticket). All (IsAwaited book.rows) ts) (sym idle.tickets) (All-nil (IsAwaited book.rows));
}

-- the book that a right opening recovers keeps the rules, and so does the book that any history leads to from there
pub opened_rules : (opening : Opening) (history : List Entry) → IsOpening opening →
    IsBook (next_number (point_of opening history)) (book_of opening history)
opened_rules opening history right =
    history_rules (opened opening) history
    (idle_rules (next_number (opened opening)) (recovered opening)
    (record { live = refl; state = refl; waiting = refl; soft = refl; holds = refl; tickets = refl }) right.apart right.sums)

-- an opening that finds nothing is right
pub nothing_found : IsOpening (record { rows = []; version1 = []; lost = []; strays = [] })
nothing_found = record {
  apart = refl;
  standing = refl;
  stamped = refl;
  sums = All-nil IsSummed;
  placed = refl;
  old = refl;
  named = refl;
  strays = refl;
  lost = refl;
  free = λ path. omega arith;
}
