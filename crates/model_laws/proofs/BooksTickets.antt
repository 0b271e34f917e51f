-- The rules of the holds and the tickets of a book, after a request and after the end of a job: no hold is twice, numbers ascend, and who asks is live.
use Rattle.mat_path.proofs.Elements.{contains_filter}
use Rattle.mat_path.proofs.SameNames.{same_names-refl}
use Rattle.std.proofs.Common.{◌≡◌, ℕ, ◌+◌, ◌<◌, ◌==◌, Bool, true, false, not, ◌||◌, List, [], ◌∷◌, ◌++◌, None, cond, refl, sym, ap, ap₂, subst, ◌∙◌, map, count_by, arith}
use Rattle.std.specs.List.{All, AllPairs, filter, list_any}
use Rattle.std.proofs.lemmas.Bool.{and_from, both_ways, eq-eqb, eqb-true}
use Rattle.std.proofs.lemmas.List.{map-append}
use Rattle.std.proofs.lemmas.List.Elements.{All-contains, All-push, All-weaker}
use Rattle.std.proofs.lemmas.List.Folds.{list_any-append}
use Rattle.std.proofs.lemmas.List.Kept.{AllPairs-filter}
use Rattle.std.proofs.lemmas.List.Quantifiers.{all_pairs_push}
use Rattle.mat_path.specs.Names.{same_names}
use Rattle.mat_model.specs.declared.answers.Answer.{Answer}
use Rattle.mat_model.specs.declared.answers.Answer.TheVariants as answer
use Rattle.mat_model.specs.declared.book.Book.{Book}
use Rattle.mat_model.specs.declared.book.Hold.{Hold}
use Rattle.mat_model.specs.declared.book.Row.{Row}
use Rattle.mat_model.specs.declared.book.Ticket.{Ticket}
use Rattle.mat_model.specs.declared.book.Waiter.{Waiter}
use Rattle.mat_model.specs.declared.requests.Asked.{Asked}
use Rattle.mat_model.specs.Books.{IsAsking, IsOtherHold, number_of}
use Rattle.mat_model.specs.Declarations.{new_row}
use Rattle.mat_model.specs.Gate.{Admitted, Gate, admit, admits_front, admitted, depart, departed, gate_of, is_command, is_other, one_more}
use Rattle.mat_model.specs.Requests.{is_hold_beside, is_hold_of_other, is_open_among, is_open_of, preempted_ticket}
use Rattle.mat_model.specs.Rows.{is_clear_of, overlaps_row, put_row}
use Rattle.mat_model.specs.Tickets.{answered_by, answered_by_any, is_hold, is_lost, is_open, left_ticket, waits_for, waits_for_any, with_answer, with_hold}
use Rattle.model_laws.proofs.BooksLists.{all-mapped, all_each, any_contains, contains_any, none_counted, none_pass}
use Rattle.model_laws.proofs.Serving.{Changes, Endings}

-- a hold that a list doesn't have differs from each of the list
other_hold : (command : ℕ) (path : List (List ℕ)) (hold : Hold) → is_hold command path hold ≡ false →
    IsOtherHold hold (record { command = command; path = path })
other_hold command path hold off same at =
    both_ways (is_hold command path hold) off
    (and_from (hold.command == command) (same_names hold.path path) (eq-eqb hold.command command same)
    (subst (λ (p : List (List ℕ)). same_names hold.path p ≡ true) at (same_names-refl hold.path)))

-- holds stay distinct where one is added that they don't have yet
held_once : (command : ℕ) (path : List (List ℕ)) (holds : List Hold) → AllPairs IsOtherHold holds → AllPairs IsOtherHold (with_hold command path holds)
held_once command path holds once =
    elim (list_any (is_hold command path) holds) as
    (λ b. list_any (is_hold command path) holds ≡ b →
    AllPairs IsOtherHold (cond b holds (holds ++ record { command = command; path = path } ∷ []))) [
      | true ↦ λ has. once
      | false ↦ λ new.
          all_pairs_push IsOtherHold holds (record { command = command; path = path }) once
          (All-weaker (λ (hold : Hold). is_hold command path hold ≡ false)
          (λ (hold : Hold). IsOtherHold hold (record { command = command; path = path }))
          (other_hold command path) holds (none_pass (is_hold command path) holds new))
    ] refl

-- no hold is twice
pub asked_holds : (number : ℕ) (request : Asked) (book : Book) → AllPairs IsOtherHold book.holds →
    Changes (λ (b : Book). AllPairs IsOtherHold b.holds) number request book
asked_holds number request book once = record {
  same = once;
  enters = λ command state soft refuse is new may. once;
  takes = λ command state soft refuse is new may. AllPairs-filter IsOtherHold (is_hold_beside book.live) book.holds once;
  queues = λ command state soft refuse is new may told. once;
  leaves = λ command is none. AllPairs-filter IsOtherHold (is_hold_of_other command) book.holds once;
  puts = λ command path tree is. held_once command path book.holds once;
  uses = λ at command path. held_once command path book.holds once;
  asks = λ row command path live over lies. held_once command path book.holds once;
  removes = λ gone left opposite disturbed. once;
}

-- what is true of a ticket with an answer, and of the ticket where it gets none, is true of a ticket that may get one
pub answer_cases : (Q : Ticket → Type 0) (b : Bool) (number : ℕ) (given : Answer) (ticket : Ticket) → Q (with_answer number given ticket) →
    (b ≡ false → Q ticket) → Q (cond b (with_answer number given ticket) ticket)
answer_cases Q true number given ticket shut stays = shut
answer_cases Q false number given ticket shut stays = stays refl

-- the tickets of a book after each event are mapped by one of these
pub left_cases : (Q : Ticket → Type 0) (number : ℕ) (removed left : List Row) (ticket : Ticket) → Q (with_answer number answer.Undeclared ticket) →
    (is_lost removed left ticket ≡ false → Q ticket) → Q (left_ticket number removed left ticket)
left_cases Q number removed left ticket = answer_cases Q (is_lost removed left ticket) number answer.Undeclared ticket

-- a ticket after a make is answered, or it did not wait for the row and stays
pub made_cases : (Q : Ticket → Type 0) (row : Row) (number : ℕ) (given : Answer) (ticket : Ticket) → Q (with_answer number given ticket) →
    (waits_for row ticket ≡ false → Q ticket) → Q (answered_by row number given ticket)
made_cases Q row number given ticket = answer_cases Q (waits_for row ticket) number given ticket

-- a ticket after a failure is answered, or it waited for none of the rows and stays
pub failed_cases : (Q : Ticket → Type 0) (rows : List Row) (number : ℕ) (given : Answer) (ticket : Ticket) → Q (with_answer number given ticket) →
    (waits_for_any rows ticket ≡ false → Q ticket) → Q (answered_by_any rows number given ticket)
failed_cases Q rows number given ticket = answer_cases Q (waits_for_any rows ticket) number given ticket

pub preempted_cases : (Q : Ticket → Type 0) (number command : ℕ) (commands : List ℕ) (ticket : Ticket) →
    Q (with_answer number (answer.Preempted command) ticket) → (is_open_among commands ticket ≡ false → Q ticket) →
    Q (preempted_ticket number command commands ticket)
preempted_cases Q number command commands ticket =
    answer_cases Q (is_open_among commands ticket) number (answer.Preempted command) ticket

-- the numbers of tickets, below one and in strict order
abbrev pub AreNumbered : ℕ → List Ticket → Type 0
AreNumbered next tickets = AllPairs ◌<◌ (map number_of tickets) × All (λ (n : ℕ). n < next) (map number_of tickets)

-- they are kept where each ticket keeps its number
numbers_same : (f : Ticket → Ticket) → ((ticket : Ticket) → (f ticket).number ≡ ticket.number) → (tickets : List Ticket) →
    map number_of (map f tickets) ≡ map number_of tickets
numbers_same f keeps [] = refl
numbers_same f keeps (ticket ∷ tickets) = ap₂ (λ (n : ℕ) (ns : List ℕ). n ∷ ns) (keeps ticket) (numbers_same f keeps tickets)

still_numbered : (next : ℕ) (f : Ticket → Ticket) → ((ticket : Ticket) → (f ticket).number ≡ ticket.number) → (tickets : List Ticket) →
    AreNumbered next tickets → AreNumbered next (map f tickets)
still_numbered next f keeps tickets numbered =
    subst (λ (ns : List ℕ). AllPairs ◌<◌ ns × All (λ (n : ℕ). n < next) ns) (sym (numbers_same f keeps tickets)) numbered

left_number : (number : ℕ) (removed left : List Row) (ticket : Ticket) → (left_ticket number removed left ticket).number ≡ ticket.number
left_number number removed left ticket =
    left_cases (λ (t : Ticket). t.number ≡ ticket.number) number removed left ticket refl (λ stays. refl)

made_number : (row : Row) (number : ℕ) (given : Answer) (ticket : Ticket) → (answered_by row number given ticket).number ≡ ticket.number
made_number row number given ticket =
    made_cases (λ (t : Ticket). t.number ≡ ticket.number) row number given ticket refl (λ stays. refl)

failed_number : (rows : List Row) (number : ℕ) (given : Answer) (ticket : Ticket) → (answered_by_any rows number given ticket).number ≡ ticket.number
failed_number rows number given ticket =
    failed_cases (λ (t : Ticket). t.number ≡ ticket.number) rows number given ticket refl (λ stays. refl)

-- a ticket keeps its number where its command is preempted
preempted_number : (number command : ℕ) (commands : List ℕ) (ticket : Ticket) → (preempted_ticket number command commands ticket).number ≡ ticket.number
preempted_number number command commands ticket =
    preempted_cases (λ (t : Ticket). t.number ≡ ticket.number) number command commands ticket refl (λ stays. refl)

-- numbers below one are below the next one
pub below_more : (next : ℕ) (numbers : List ℕ) → All (λ (n : ℕ). n < next) numbers → All (λ (n : ℕ). n < next + 1) numbers
below_more next numbers below =
    All-weaker (λ (n : ℕ). n < next) (λ (n : ℕ). n < next + 1) (λ (n : ℕ) under. omega (arith, under)) numbers below

-- one more ticket, with the next number
one_more_number : (next command : ℕ) (path : List (List ℕ)) (tickets : List Ticket) → AreNumbered next tickets →
    AreNumbered (next + 1) (tickets ++ record { number = next; command = command; asked = path; answered = None } ∷ [])
one_more_number next command path tickets numbered =
    subst (λ (ns : List ℕ). AllPairs ◌<◌ ns × All (λ (n : ℕ). n < next + 1) ns)
    (sym (map-append number_of tickets (record { number = next; command = command; asked = path; answered = None } ∷ []))) (
      all_pairs_push ◌<◌ (map number_of tickets) next numbered.0 numbered.1,
      All-push (λ (n : ℕ). n < next + 1) (map number_of tickets) next (below_more next (map number_of tickets) numbered.1) (omega arith),
    )

-- the numbers of the tickets ascend, and stay below the number of the next entry
pub asked_numbered : (next : ℕ) (request : Asked) (book : Book) → AreNumbered next book.tickets →
    Changes (λ (b : Book). AreNumbered (next + 1) b.tickets) next request book
asked_numbered next request book numbered =
    let more : AreNumbered (next + 1) book.tickets = (numbered.0, below_more next (map number_of book.tickets) numbered.1) in record {
      same = more;
      enters = λ command state soft refuse is new may. more;
      takes = λ command state soft refuse is new may.
          still_numbered (next + 1) (preempted_ticket next command book.live) (preempted_number next command book.live) book.tickets more;
      queues = λ command state soft refuse is new may told. more;
      leaves = λ command is none. more;
      puts = λ command path tree is.
          let removed = filter (overlaps_row path) book.rows in
          let left = put_row (new_row next book.now path tree) (filter (is_clear_of path) book.rows) in
          still_numbered (next + 1) (left_ticket next removed left) (left_number next removed left) book.tickets more;
      uses = λ at command path. more;
      asks = λ row command path live over lies. one_more_number next command path book.tickets numbered;
      removes = λ gone left opposite disturbed.
          still_numbered (next + 1) (left_ticket next (filter gone book.rows) (filter left book.rows))
          (left_number next (filter gone book.rows) (filter left book.rows)) book.tickets more;
    }

-- the end of a job keeps the numbers of tickets in order and below the next one
pub ended_numbered : (next : ℕ) (book : Book) → AreNumbered next book.tickets → Endings (λ (b : Book). AreNumbered (next + 1) b.tickets) next book
ended_numbered next book numbered =
    let more : AreNumbered (next + 1) book.tickets = (numbered.0, below_more next (map number_of book.tickets) numbered.1) in record {
      same = more;
      stands = λ path stamp row found.
          still_numbered (next + 1) (answered_by row next (answer.Ready row.stamp row.sum)) (made_number row next (answer.Ready row.stamp row.sum))
          book.tickets more;
      fails = λ some given. still_numbered (next + 1) (answered_by_any some next given) (failed_number some next given) book.tickets more;
    }

-- a ticket asks as before where it may get an answer
left_asking : (live : List ℕ) (number : ℕ) (removed left : List Row) (ticket : Ticket) → IsAsking live ticket →
    IsAsking live (left_ticket number removed left ticket)
left_asking live number removed left ticket asks =
    left_cases (IsAsking live) number removed left ticket (λ lies. absurd cc) (λ stays. asks)

made_asking : (live : List ℕ) (row : Row) (number : ℕ) (given : Answer) (ticket : Ticket) → IsAsking live ticket →
    IsAsking live (answered_by row number given ticket)
made_asking live row number given ticket asks =
    made_cases (IsAsking live) row number given ticket (λ lies. absurd cc) (λ stays. asks)

failed_asking : (live : List ℕ) (rows : List Row) (number : ℕ) (given : Answer) (ticket : Ticket) → IsAsking live ticket →
    IsAsking live (answered_by_any rows number given ticket)
failed_asking live rows number given ticket asks =
    failed_cases (IsAsking live) rows number given ticket (λ lies. absurd cc) (λ stays. asks)

-- who is live stays so where others come, and where others are admitted
more_live : (command other : ℕ) (live : List ℕ) → list_any (is_command command) live ≡ true → list_any (is_command command) (live ++ other ∷ []) ≡ true
more_live command other live is =
    list_any-append (is_command command) live (other ∷ [])
    ∙ ap (λ (b : Bool). b || list_any (is_command command) (other ∷ [])) is

admitted_live : (command : ℕ) (waiters : List Waiter) (gate : Gate) → list_any (is_command command) gate.live ≡ true →
    list_any (is_command command) (admit waiters gate).gate.live ≡ true
admitted_live command [] gate is = is
admitted_live command (waiter ∷ waiters) gate is =
    elim (admits_front waiter gate) as
    (λ b. list_any (is_command command) (cond {A = Admitted} b (one_more (admit waiters (admitted waiter gate)))
    (record { count = 0; gate = record gate { waiting = waiter ∷ waiters } })).gate.live ≡ true) [
      | true ↦ admitted_live command waiters (admitted waiter gate) (more_live command waiter.command gate.live is)
      | false ↦ is
    ]

-- a ticket whose command stays live where another one goes
stays_live : (command : ℕ) (book : Book) (ticket : Ticket) → is_open_of command ticket ≡ false → IsAsking book.live ticket →
    IsAsking (depart command (gate_of book)).gate.live ticket
stays_live command book ticket off asks lies =
    let one = any_contains (is_command ticket.command) book.live (asks lies) in
    let other : is_other command one.0 ≡ true =
    elim (is_command command one.0) as (λ b. is_command command one.0 ≡ b → not b ≡ true) [
      | true ↦ λ goes.
          let same : ticket.command ≡ command = sym (eqb-true one.0 ticket.command one.2) ∙ eqb-true one.0 command goes in
          absurd (both_ways (is_open_of command ticket) off
          (and_from (is_open ticket) (ticket.command == command) lies (eq-eqb ticket.command command same)))
      | false ↦ λ stays. refl
    ] refl in
    admitted_live ticket.command (departed command (gate_of book)).waiting (departed command (gate_of book))
    (contains_any (is_command ticket.command) (filter (is_other command) book.live) one.0
    (contains_filter (is_other command) book.live one.0 other one.1) one.2)

-- the command of each open ticket is live
pub asked_asking : (number : ℕ) (request : Asked) (book : Book) → All (IsAsking book.live) book.tickets →
    Changes (λ (b : Book). All (IsAsking b.live) b.tickets) number request book
asked_asking number request book asking = record {
  same = asking;
  enters = λ command state soft refuse is new may.
      All-weaker (IsAsking book.live) (IsAsking (book.live ++ command ∷ []))
      (λ ticket asks lies. more_live ticket.command command book.live (asks lies)) book.tickets asking;
  takes = λ command state soft refuse is new may.
      all-mapped (IsAsking book.live) (IsAsking (command ∷ [])) (preempted_ticket number command book.live)
      (λ ticket asks. preempted_cases (IsAsking (command ∷ [])) number command book.live ticket (λ lies. absurd cc)
      (λ stays lies. absurd (both_ways (is_open_among book.live ticket) stays
      (and_from (is_open ticket) (list_any (is_command ticket.command) book.live) lies (asks lies))))) book.tickets asking;
  queues = λ command state soft refuse is new may told. asking;
  leaves = λ command is none.
      let others = none_counted (is_open_of command) book.tickets (eqb-true (count_by (is_open_of command) book.tickets) 0 none) in
      all_each (IsAsking (depart command (gate_of book)).gate.live) book.tickets
      (λ ticket among. stays_live command book ticket
      (All-contains (λ (t : Ticket). is_open_of command t ≡ false) book.tickets ticket others among)
      (All-contains (IsAsking book.live) book.tickets ticket asking among));
  puts = λ command path tree is.
      let removed = filter (overlaps_row path) book.rows in
      let left = put_row (new_row number book.now path tree) (filter (is_clear_of path) book.rows) in
      all-mapped (IsAsking book.live) (IsAsking book.live) (left_ticket number removed left) (left_asking book.live number removed left) book.tickets asking;
  uses = λ at command path. asking;
  asks = λ row command path live over lies.
      All-push (IsAsking book.live) book.tickets (record { number = number; command = command; asked = path; answered = None }) asking (λ fresh. live);
  removes = λ gone left opposite disturbed.
      all-mapped (IsAsking book.live) (IsAsking book.live) (left_ticket number (filter gone book.rows) (filter left book.rows))
      (left_asking book.live number (filter gone book.rows) (filter left book.rows)) book.tickets asking;
}

-- the end of a job keeps the command of each open ticket live
pub ended_asking : (number : ℕ) (book : Book) → All (IsAsking book.live) book.tickets →
    Endings (λ (b : Book). All (IsAsking b.live) b.tickets) number book
ended_asking number book asking = record {
  same = asking;
  stands = λ path stamp row found.
      all-mapped (IsAsking book.live) (IsAsking book.live) (answered_by row number (answer.Ready row.stamp row.sum))
      (made_asking book.live row number (answer.Ready row.stamp row.sum)) book.tickets asking;
  fails = λ some given.
      all-mapped (IsAsking book.live) (IsAsking book.live) (answered_by_any some number given) (failed_asking book.live some number given)
      book.tickets asking;
}
