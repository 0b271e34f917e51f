-- Tickets are kept by a request, by the end of a job and by a history: a ticket that is answered has that answer for good.
use Rattle.mat_model.specs.Gate.{is_command}
use Rattle.std.proofs.Common.{◌≡◌, ℕ, zero, suc, Bool, true, false, not, ◌&&◌, List, [], ◌∷◌, ◌++◌, Some, cond, refl, ap, ◌∙◌, map}
use Rattle.std.specs.List.{list_any, filter, slice_get}
use Rattle.std.proofs.lemmas.Bool.{and_parts, both_ways}
use Rattle.mat_model.specs.declared.answers.Answer.{Answer}
use Rattle.mat_model.specs.declared.answers.Answer.TheVariants as answer
use Rattle.mat_model.specs.declared.answers.Recorded.{Recorded}
use Rattle.mat_model.specs.declared.book.Book.{Book}
use Rattle.mat_model.specs.declared.book.Row.{Row}
use Rattle.mat_model.specs.declared.book.Ticket.{Ticket}
use Rattle.mat_model.specs.declared.entries.Entry.{Entry}
use Rattle.mat_model.specs.declared.entries.Outcome.{Outcome}
use Rattle.mat_model.specs.declared.entries.Task.{Task}
use Rattle.mat_model.specs.declared.requests.Asked.{Asked}
use Rattle.mat_model.specs.Rows.{covers, is_clear_of, overlaps_row, put_row}
use Rattle.mat_model.specs.Tickets.{answered_by, answered_by_any, is_lost, is_open, left_ticket, waits_for, waits_for_any, with_answer}
use Rattle.mat_model.specs.Requests.{RequestContext, serve, is_open_among, preempted_ticket}
use Rattle.mat_model.specs.Work.{finish, rows_of_task}
use Rattle.mat_model.specs.History.{Point, after, after_all, request_context, next_number}
use Rattle.model_laws.specs.Laws.{AreKept, IsKept}
use Rattle.model_laws.proofs.Serving.{finished_by, served_by}
use Rattle.model_laws.proofs.HistoryLemmas.{after_event}

-- a ticket that may be answered only where it is open is kept
kept_or : (b : Bool) (number : ℕ) (given : Answer) (ticket : Ticket) → (b ≡ true → is_open ticket ≡ true) →
    IsKept ticket (cond b (with_answer number given ticket) ticket)
kept_or true number given ticket lies = record { number = refl; command = refl; asked = refl; answered = λ shut. absurd (both_ways (is_open ticket) shut (lies refl)) }
kept_or false number given ticket lies = record { number = refl; command = refl; asked = refl; answered = λ shut. refl }

kept_left : (number : ℕ) (removed left : List Row) (ticket : Ticket) → IsKept ticket (left_ticket number removed left ticket)
kept_left number removed left ticket =
    kept_or (is_lost removed left ticket) number answer.Undeclared ticket
    (λ lost. (and_parts (is_open ticket) (list_any (covers ticket.asked) removed)
    (and_parts (is_open ticket && list_any (covers ticket.asked) removed) (not (list_any (covers ticket.asked) left)) lost).0).0)

kept_answered : (row : Row) (number : ℕ) (given : Answer) (ticket : Ticket) → IsKept ticket (answered_by row number given ticket)
kept_answered row number given ticket =
    kept_or (waits_for row ticket) number given ticket
    (λ waits. (and_parts (is_open ticket) (covers ticket.asked row) waits).0)

kept_answered_any : (rows : List Row) (number : ℕ) (given : Answer) (ticket : Ticket) → IsKept ticket (answered_by_any rows number given ticket)
kept_answered_any rows number given ticket =
    kept_or (waits_for_any rows ticket) number given ticket
    (λ waits. (and_parts (is_open ticket) (list_any (covers ticket.asked) rows) waits).0)

-- a ticket is kept where its command is preempted
kept_preempted : (number command : ℕ) (commands : List ℕ) (ticket : Ticket) → IsKept ticket (preempted_ticket number command commands ticket)
kept_preempted number command commands ticket =
    kept_or (is_open_among commands ticket) number (answer.Preempted command) ticket
    (λ among. (and_parts (is_open ticket) (list_any (is_command ticket.command) commands) among).0)

-- tickets are kept where nothing changes, where one comes, and where each is kept
kept_same : (tickets : List Ticket) → AreKept tickets tickets
kept_same [] = tt
kept_same (ticket ∷ tickets) = (record { number = refl; command = refl; asked = refl; answered = λ shut. refl }, kept_same tickets)

kept_more : (tickets more : List Ticket) → AreKept tickets (tickets ++ more)
kept_more [] more = tt
kept_more (ticket ∷ tickets) more = (record { number = refl; command = refl; asked = refl; answered = λ shut. refl }, kept_more tickets more)

kept_map : (f : Ticket → Ticket) → ((ticket : Ticket) → IsKept ticket (f ticket)) → (tickets : List Ticket) → AreKept tickets (map f tickets)
kept_map f each [] = tt
kept_map f each (ticket ∷ tickets) = (each ticket, kept_map f each tickets)

-- a request keeps each ticket
pub serve_kept : (number moment : ℕ) (context : RequestContext) (request : Asked) (book : Book) → AreKept book.tickets (serve number moment context request book).book.tickets
serve_kept number moment context request book =
    served_by (λ (rows : List Row) (tickets : List Ticket). AreKept book.tickets tickets) number moment context request book (record {
      same = kept_same book.tickets;
      takes = λ command state soft refuse is.
          kept_map (preempted_ticket number command book.live) (kept_preempted number command book.live) book.tickets;
      asks = λ path n more. kept_more book.tickets more;
      uses = λ path n. kept_same book.tickets;
      puts = λ path new at is.
          kept_map (left_ticket number (filter (overlaps_row path) book.rows) (put_row new (filter (is_clear_of path) book.rows)))
          (kept_left number (filter (overlaps_row path) book.rows) (put_row new (filter (is_clear_of path) book.rows))) book.tickets;
      removes = λ gone left opposite disturbed.
          kept_map (left_ticket number (filter gone book.rows) (filter left book.rows))
          (kept_left number (filter gone book.rows) (filter left book.rows)) book.tickets;
    })

-- the end of a job keeps each ticket
pub finish_kept : (number : ℕ) (task : Task) (out : Outcome) (how : Recorded) (book : Book) → AreKept book.tickets (finish number task out how book).book.tickets
finish_kept number task out how book =
    finished_by (λ (rows : List Row) (tickets : List Ticket). AreKept book.tickets tickets) number task out how book (record {
      same = kept_same book.tickets;
      stands = λ path row. kept_map (answered_by row number (answer.Ready row.stamp row.sum))
          (kept_answered row number (answer.Ready row.stamp row.sum)) book.tickets;
      fails = λ some given. kept_map (answered_by_any some number given) (kept_answered_any some number given) book.tickets;
    })

-- tickets that are kept twice are kept
kept_trans : (first second third : Ticket) → IsKept first second → IsKept second third → IsKept first third
kept_trans first second third one two = record {
  number = two.number ∙ one.number;
  command = two.command ∙ one.command;
  asked = two.asked ∙ one.asked;
  answered = λ shut. two.answered (ap is_open (one.answered shut) ∙ shut) ∙ one.answered shut;
}

all_kept_trans : (first second third : List Ticket) → AreKept first second → AreKept second third → AreKept first third
all_kept_trans [] second third one two = tt
all_kept_trans (f ∷ first) [] third one two = absurd one
all_kept_trans (f ∷ first) (s ∷ second) [] one two = absurd two
all_kept_trans (f ∷ first) (s ∷ second) (t ∷ third) one two =
    (kept_trans f s t one.0 two.0, all_kept_trans first second third one.1 two.1)

-- a history keeps each ticket
pub history_kept : (point : Point) (later : List Entry) → AreKept point.book.tickets (after_all point later).book.tickets
history_kept point [] = kept_same point.book.tickets
history_kept point (entry ∷ later) =
    all_kept_trans point.book.tickets (after point entry).book.tickets (after_all (after point entry) later).book.tickets
    (after_event (λ (b : Book). AreKept point.book.tickets b.tickets) point entry.now entry.event entry.reply (record {
      same = kept_same point.book.tickets;
      later = kept_same point.book.tickets;
      asks = λ request is. serve_kept (next_number point) entry.now (request_context point) request point.book;
      refuses = λ begun note.
          kept_map (answered_by_any (rows_of_task begun point.book.rows) (next_number point) (answer.Fault note))
          (kept_answered_any (rows_of_task begun point.book.rows) (next_number point) (answer.Fault note)) point.book.tickets;
      ends = λ task out how. finish_kept (next_number point) task out how point.book;
    }))
    (history_kept (after point entry) later)

-- a ticket with an answer, among tickets that are kept
kept_get : (tickets others : List Ticket) (k : ℕ) (ticket : Ticket) → AreKept tickets others → slice_get tickets k ≡ Some ticket →
    is_open ticket ≡ false → slice_get others k ≡ Some ticket
kept_get [] others k ticket kept is shut = absurd cc
kept_get (t ∷ tickets) [] k ticket kept is shut = absurd kept
kept_get (t ∷ tickets) (u ∷ others) zero ticket kept is shut =
    let same : t ≡ ticket = cc in
    ap (λ (x : Ticket). Some x) (kept.0.answered (ap is_open same ∙ shut) ∙ same)
kept_get (t ∷ tickets) (u ∷ others) (suc k) ticket kept is shut = kept_get tickets others k ticket kept.1 is shut

-- a ticket that has an answer has the same one after any history
pub history_answer : (point : Point) (later : List Entry) (k : ℕ) (ticket : Ticket) →
    slice_get point.book.tickets k ≡ Some ticket → is_open ticket ≡ false → slice_get (after_all point later).book.tickets k ≡ Some ticket
history_answer point later k ticket is shut =
    kept_get point.book.tickets (after_all point later).book.tickets k ticket (history_kept point later) is shut
