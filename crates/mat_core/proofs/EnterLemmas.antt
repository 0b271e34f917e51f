-- A command that comes.
use Rattle.std.proofs.Common.{◌≡◌, ℕ, suc, ◌+◌, ◌<◌, ◌≤◌, ◌==◌, nat_lt, Bool, true, false, ◌&&◌, List, [], ◌∷◌, Option, None, Some, cond, refl, sym, ap, ap₂, subst, ◌∙◌, le_refl, map, filter, count_by, get_or, drop, length, arith}
use Rattle.std.specs.List.{list_any}
use Rattle.std.proofs.Math.Seq.{drop-cons}
use Rattle.std.proofs.lemmas.List.{drop_all}
use Rattle.std.proofs.lemmas.Bool.{both_ways, eq-eqb, eqb-true, ne_eqb}
use Rattle.mat_model.specs.declared.answers.Answer.TheVariants as answer
use Rattle.mat_model.specs.declared.answers.Limit.{Limit}
use Rattle.mat_model.specs.declared.answers.Limit.TheVariants as limit
use Rattle.mat_model.specs.declared.answers.Reply.{Reply}
use Rattle.mat_model.specs.declared.answers.Reply.TheVariants as reply
use Rattle.mat_model.specs.declared.book.Book.{Book}
use Rattle.mat_model.specs.declared.book.Hold.{Hold}
use Rattle.mat_model.specs.declared.book.Row.{Row}
use Rattle.mat_model.specs.declared.book.Ticket.{Ticket}
use Rattle.mat_model.specs.declared.requests.Asked.{Asked}
use Rattle.mat_model.specs.declared.requests.Asked.TheVariants as asked
use Rattle.mat_model.specs.Gate.{Gate, Passed, Served, admits, is_command, is_known, may_take, other_state, pass, turn_away}
use Rattle.mat_model.specs.History.{Point}
use Rattle.mat_model.specs.Requests.{is_hold_beside, is_hold_of_other, is_open_among, passed, preempted, preempted_ticket}
use Rattle.mat_model.specs.Room.{full_served, full_table, waits_past}
use Rattle.mat_model.specs.Tickets.{is_open, with_answer}
use Rattle.mat_model.specs.WorkState.{WayOf, is_cleaning, ways_after}
use Rattle.model_laws.proofs.ListTests.{filter_le}
use Rattle.model_laws.proofs.RoomLists.{count_fewer}
use Rattle.model_laws.proofs.RowCases.{either_passed}
use Rattle.gate_core.specs.Gates.{enter}
use Rattle.ticket_book.specs.Asked.{answered_if, asks_for}
use Rattle.mat_core.specs.Books.{StandFor, book_in}
use Rattle.mat_core.specs.Enters.{is_takeover}
use Rattle.mat_core.specs.Rooms.{spent_in}
use Rattle.mat_core.specs.Served.{IsBesideBook, Serves, full_of, is_entered, is_quiet}
use Rattle.mat_core.specs.declared.parts.Parts.{Parts}
use Rattle.mat_core.proofs.ServeLemmas.{beside_reserves, book_serves, spent_same}

-- ---- those that go

same_number : (n m : ℕ) → (n == m) ≡ (m == n)
same_number n m =
    elim (n == m) as (λ b. (n == m) ≡ b → b ≡ (m == n)) [
      | true ↦ λ is. sym (eq-eqb m n (sym (eqb-true n m is)))
      | false ↦ λ is. sym (ne_eqb m n (λ same. both_ways (n == m) is (eq-eqb n m (sym same))))
    ] refl

-- the holds beside those of one command and those of others
pub holds_beside : (gone : ℕ) (others : List ℕ) (holds : List Hold) →
    filter (is_hold_beside others) (filter (is_hold_of_other gone) holds) ≡ filter (is_hold_beside (gone ∷ others)) holds
holds_beside gone others [] = refl
holds_beside gone others (hold ∷ holds) =
    by (hold.command == gone) (list_any (is_command hold.command) others) refl (sym (same_number hold.command gone)) refl
    (holds_beside gone others holds)
  where
    by : (own other : Bool) → (hold.command == gone) ≡ own → (gone == hold.command) ≡ own → list_any (is_command hold.command) others ≡ other →
        filter (is_hold_beside others) (filter (is_hold_of_other gone) holds) ≡ filter (is_hold_beside (gone ∷ others)) holds →
        filter (is_hold_beside others) (filter (is_hold_of_other gone) (hold ∷ holds)) ≡ filter (is_hold_beside (gone ∷ others)) (hold ∷ holds)
    by true other is same at more = rw (is, same) more
    by false true is same at more = rw (is, same, at) more
    by false false is same at more = rw (is, same, at) (ap (λ (rest : List Hold). hold ∷ rest) more)

-- a ticket that was answered for one command, and then for others
ticket_preempted : (number command gone : ℕ) (others : List ℕ) (ticket : Ticket) →
    preempted_ticket number command others (answered_if (asks_for gone) number (answer.Preempted command) ticket)
    ≡ preempted_ticket number command (gone ∷ others) ticket
ticket_preempted number command gone others ticket =
    by (is_open ticket) (ticket.command == gone) refl refl (sym (same_number ticket.command gone))
  where
    by : (lies own : Bool) → is_open ticket ≡ lies → (ticket.command == gone) ≡ own → (gone == ticket.command) ≡ own →
        preempted_ticket number command others (answered_if (asks_for gone) number (answer.Preempted command) ticket)
        ≡ preempted_ticket number command (gone ∷ others) ticket
    by true true lies is same = rw (lies, is, same) refl
    by true false lies is same = rw (lies, is, same) (rw lies refl)
    by false own lies is same = rw lies (rw lies refl)

pub tickets_preempted : (number command gone : ℕ) (others : List ℕ) (tickets : List Ticket) →
    map (preempted_ticket number command others) (map (answered_if (asks_for gone) number (answer.Preempted command)) tickets)
    ≡ map (preempted_ticket number command (gone ∷ others)) tickets
tickets_preempted number command gone others [] = refl
tickets_preempted number command gone others (ticket ∷ tickets) =
    ap₂ (λ (one : Ticket) (rest : List Ticket). one ∷ rest) (ticket_preempted number command gone others ticket)
    (tickets_preempted number command gone others tickets)

-- those that are left of some commands are the next one and those behind it
left_commands : (commands : List ℕ) (k gone d : ℕ) → k < length commands → gone ≡ get_or commands k d →
    drop k commands ≡ gone ∷ drop (k + 1) commands
left_commands commands k gone d within is =
    let next : suc k ≡ k + 1 = omega arith in
    drop-cons commands k d within ∙ ap₂ (λ (c n : ℕ). c ∷ drop n commands) (sym is) next

pub next_holds : (commands : List ℕ) (k gone d : ℕ) (all holds left : List Hold) → k < length commands → gone ≡ get_or commands k d →
    left ≡ filter (is_hold_of_other gone) holds → filter (is_hold_beside (drop k commands)) holds ≡ all →
    filter (is_hold_beside (drop (k + 1) commands)) left ≡ all
next_holds commands k gone d all holds left within is went kept =
    ap (filter (is_hold_beside (drop (k + 1) commands))) went
    ∙ holds_beside gone (drop (k + 1) commands) holds
    ∙ ap (λ (cs : List ℕ). filter (is_hold_beside cs) holds) (sym (left_commands commands k gone d within is))
    ∙ kept

pub next_tickets : (commands : List ℕ) (number command k gone d : ℕ) (all tickets answered : List Ticket) → k < length commands →
    gone ≡ get_or commands k d → answered ≡ map (answered_if (asks_for gone) number (answer.Preempted command)) tickets →
    map (preempted_ticket number command (drop k commands)) tickets ≡ all →
    map (preempted_ticket number command (drop (k + 1) commands)) answered ≡ all
next_tickets commands number command k gone d all tickets answered within is given kept =
    ap (map (preempted_ticket number command (drop (k + 1) commands))) given
    ∙ tickets_preempted number command gone (drop (k + 1) commands) tickets
    ∙ ap (λ (cs : List ℕ). map (preempted_ticket number command cs) tickets) (sym (left_commands commands k gone d within is))
    ∙ kept

-- where no command is left, all holds and tickets stay
holds_stay : (holds : List Hold) → filter (is_hold_beside []) holds ≡ holds
holds_stay [] = refl
holds_stay (hold ∷ holds) = ap (λ (rest : List Hold). hold ∷ rest) (holds_stay holds)

tickets_stay : (number command : ℕ) (tickets : List Ticket) → map (preempted_ticket number command []) tickets ≡ tickets
tickets_stay number command [] = refl
tickets_stay number command (ticket ∷ tickets) =
    ap₂ (λ (one : Ticket) (rest : List Ticket). one ∷ rest) (by (is_open ticket)) (tickets_stay number command tickets)
  where
    by : (lies : Bool) → cond (lies && false) (with_answer number (answer.Preempted command) ticket) ticket ≡ ticket
    by true = refl
    by false = refl

pub last_holds : (commands : List ℕ) (k : ℕ) (all holds : List Hold) → length commands ≤ k →
    filter (is_hold_beside (drop k commands)) holds ≡ all → holds ≡ all
last_holds commands k all holds behind kept =
    sym (holds_stay holds) ∙ ap (λ (cs : List ℕ). filter (is_hold_beside cs) holds) (sym (drop_all k commands behind)) ∙ kept

pub last_tickets : (commands : List ℕ) (number command k : ℕ) (all tickets : List Ticket) → length commands ≤ k →
    map (preempted_ticket number command (drop k commands)) tickets ≡ all → tickets ≡ all
last_tickets commands number command k all tickets behind kept =
    sym (tickets_stay number command tickets)
    ∙ ap (λ (cs : List ℕ). map (preempted_ticket number command cs) tickets) (sym (drop_all k commands behind))
    ∙ kept

-- ---- the gate

-- what holds of a command that came to its gate
pub record IsPassed (through : Passed) : Type 0 where
  quiet : is_quiet through.reply ≡ true
  entered : is_entered through.reply ≡ true
  full : full_of through.reply ≡ None
  cleaning : is_cleaning through.reply ≡ false
  ways : (request : Asked) (rows : List Row) (ways : List WayOf) → ways_after request through.reply rows ways ≡ ways
  took : is_takeover through.reply ≡ through.took

pub pass_facts : (command state : ℕ) (soft refuse : Bool) (gate : Gate) → IsPassed (pass command state soft refuse gate)
pass_facts command state soft refuse gate =
    either_passed IsPassed (is_known command gate) _ _
    (record { quiet = refl; entered = refl; full = refl; cleaning = refl; ways = λ request rows ways. refl; took = refl })
    (either_passed IsPassed (admits state gate) _ _
    (record { quiet = refl; entered = refl; full = refl; cleaning = refl; ways = λ request rows ways. refl; took = refl })
    (either_passed IsPassed (may_take state gate) _ _
    (record { quiet = refl; entered = refl; full = refl; cleaning = refl; ways = λ request rows ways. refl; took = refl })
    (away refuse (other_state state gate.state))))
  where
    away : (r : Bool) (other : Option ℕ) → IsPassed (turn_away command state soft r other gate)
    away true (Some live) = record { quiet = refl; entered = refl; full = refl; cleaning = refl; ways = λ request rows ways. refl; took = refl }
    away true None = record { quiet = refl; entered = refl; full = refl; cleaning = refl; ways = λ request rows ways. refl; took = refl }
    away false other = record { quiet = refl; entered = refl; full = refl; cleaning = refl; ways = λ request rows ways. refl; took = refl }

-- a command took the place of others exactly where it is answered so
pub enter_took : (command state : ℕ) (soft refuse : Bool) (gate : Gate) →
    is_takeover (enter command state soft refuse gate).reply ≡ (enter command state soft refuse gate).took
enter_took command state soft refuse gate =
    either_passed (λ (through : Passed). is_takeover through.reply ≡ through.took) (waits_past (pass command state soft refuse gate).reply) _ _ refl
    (pass_facts command state soft refuse gate).took

-- ---- the request

no : {X : Type 0} → false ≡ true → X
no is = absurd (both_ways false refl is)

-- a command that would wait behind 64 others, where there is room for its entries
waits_serves : {D K : Type 0} (number command state : ℕ) (soft refuse : Bool) (old new : Parts D K) →
    waits_past (pass command state soft refuse old.gate).reply ≡ true → book_in new ≡ book_in old → IsBesideBook old new →
    nat_lt old.base.limits.history (spent_in old + 2) ≡ false → Serves number (asked.Enter command state soft refuse) (reply.Full limit.Waiting) old new
waits_serves {D} {K} number command state soft refuse old new waits same beside room = record {
  quiet = refl;
  beside = beside.beside;
  unchanged = λ _. record {
    beside = beside.beside;
    book = same;
    rows = beside.rows;
    debris = ap (λ d. d.list) beside.debris;
    jobs = beside.jobs;
    kept = ap (λ k. k.marks) beside.kept;
    reserves = beside_reserves old new beside.debris beside.jobs beside.kept;
    nodes = beside.nodes;
    paths = beside.paths;
  };
  served = λ entered. no entered;
  work = λ entered. no entered;
  kept = ap (λ k. k.marks) beside.kept;
  reserves = beside_reserves old new beside.debris beside.jobs beside.kept;
  nodes = λ entered. no entered;
  paths = λ entered. no entered;
  room = λ _ point context stands roomy. sym (measured point stands);
}
  where
    request : Asked
    request = asked.Enter command state soft refuse

    served : Served
    served = passed number command (pass command state soft refuse old.gate) (book_in old)

    first : (b : Bool) (one rest : Option Limit) → b ≡ true → cond b one rest ≡ one
    first b one rest is = ap (λ c. cond c one rest) is

    measured : (point : Point) → StandFor old point → full_served old.base.limits point request served ≡ Some limit.Waiting
    measured point stands =
        ap (λ b. cond b (Some limit.History) (full_table old.base.limits point request served))
        (ap (λ n. nat_lt old.base.limits.history (n + 2)) (sym (spent_same old point stands)) ∙ room)
        ∙ first (waits_past served.reply) (Some limit.Waiting) _ waits

-- a ticket that may be answered is open only where it was
still_open : (b : Bool) (number command : ℕ) (ticket : Ticket) →
    is_open (cond b (with_answer number (answer.Preempted command) ticket) ticket) ≡ true → is_open ticket ≡ true
still_open true number command ticket lies = no lies
still_open false number command ticket lies = lies

-- a command that came to its gate, where there is room for its entries
pub enter_serves : {D K : Type 0} (number command state : ℕ) (soft refuse : Bool) (said : Reply) (old new : Parts D K) →
    record { reply = said; book = book_in new } ≡ passed number command (enter command state soft refuse old.gate) (book_in old) →
    IsBesideBook old new → nat_lt old.base.limits.history (spent_in old + 2) ≡ false →
    Serves number (asked.Enter command state soft refuse) said old new
enter_serves {D} {K} number command state soft refuse said old new served beside room = by (waits_past through.reply) refl
  where
    request : Asked
    request = asked.Enter command state soft refuse

    through : Passed
    through = pass command state soft refuse old.gate

    facts : IsPassed through
    facts = pass_facts command state soft refuse old.gate

    full : Passed
    full = record { reply = reply.Full limit.Waiting; took = false; gate = old.gate }

    is : (b : Bool) → waits_past through.reply ≡ b →
        record { reply = said; book = book_in new } ≡ passed number command (cond b full through) (book_in old)
    is b waits = served ∙ ap (λ c. passed number command (cond c full through) (book_in old)) waits

    left : Bool → Book
    left b = cond b (preempted number command old.gate.live (book_in old)) (book_in old)

    fewer_tickets : (b : Bool) → count_by is_open (left b).tickets ≤ count_by is_open old.tickets.all
    fewer_tickets true =
        count_fewer is_open (preempted_ticket number command old.gate.live)
        (λ ticket. still_open (is_open_among old.gate.live ticket) number command ticket) old.tickets.all
    fewer_tickets false = le_refl (count_by is_open old.tickets.all)

    fewer_holds : (b : Bool) → length (left b).holds ≤ length old.holds
    fewer_holds true = filter_le (is_hold_beside old.gate.live) old.holds
    fewer_holds false = le_refl (length old.holds)

    by : (b : Bool) → waits_past through.reply ≡ b → Serves number request said old new
    by true waits =
        subst (λ r. Serves number request r old new) (sym (ap (λ (s : Served). s.reply) (is true waits)))
        (waits_serves number command state soft refuse old new waits (ap (λ (s : Served). s.book) (is true waits)) beside room)
    by false waits =
        let book = ap (λ (s : Served). s.book) (is false waits) in
        subst (λ r. Serves number request r old new) (sym (ap (λ (s : Served). s.reply) (is false waits)))
        (book_serves number request through.reply old new facts.quiet facts.entered facts.full waits facts.cleaning (facts.ways request) (λ book. refl)
        (λ context. ap (λ (s : Served). record { reply = through.reply; book = s.book }) (is false waits)) beside
        (subst (λ (b : Book). count_by is_open b.tickets ≤ count_by is_open old.tickets.all) (sym book) (fewer_tickets through.took))
        (subst (λ (b : Book). length b.holds ≤ length old.holds) (sym book) (fewer_holds through.took)) (λ point stands roomy. room))
