-- The end and the refusal of a job answer the open tickets that ask for a path at or below its own.
use Rattle.mat_path.proofs.Elements.{contains_cases, contains_filter, contains_first, filtered_contains}
use Rattle.mat_path.proofs.SameNames.{same_names-eq, same_names-refl}
use Rattle.std.proofs.Common.{◌≡◌, ℕ, ◌==◌, true, List, [], ◌∷◌, Option, Some, inl, inr, refl, sym, ap, ap₂, subst, ◌∙◌, map, Contains, find, arith}
use Rattle.std.specs.List.{filter, list_any}
use Rattle.std.proofs.lemmas.Bool.{and_parts, eqb-true}
use Rattle.mat_path.specs.Names.{is_prefix}
use Rattle.mat_model.specs.declared.answers.Answer.{Answer}
use Rattle.mat_model.specs.declared.answers.Answer.TheVariants as answer
use Rattle.mat_model.specs.declared.answers.FaultNote.{FaultNote}
use Rattle.mat_model.specs.declared.answers.Recorded.{Recorded}
use Rattle.mat_model.specs.declared.answers.Recorded.TheVariants as recorded
use Rattle.mat_model.specs.declared.answers.Reply.TheVariants as reply
use Rattle.mat_model.specs.declared.book.Book.{Book}
use Rattle.mat_model.specs.declared.book.Row.{Row}
use Rattle.mat_model.specs.declared.book.Ticket.{Ticket}
use Rattle.mat_model.specs.declared.entries.Outcome.{Outcome}
use Rattle.mat_model.specs.declared.entries.Outcome.TheVariants as outcome
use Rattle.mat_model.specs.declared.entries.Task.TheVariants as task
use Rattle.mat_model.specs.Books.{IsBook}
use Rattle.mat_model.specs.Gate.{Served}
use Rattle.mat_model.specs.Rows.{covers, is_at_path, standing_row}
use Rattle.mat_model.specs.Tickets.{answered_by_any, waits_for_any}
use Rattle.mat_model.specs.Work.{end_make, finish, is_declared, refuse, with_answers}
use Rattle.model_laws.specs.TicketRules.{answered_below, asks_below, failure_of_make, failure_of_wipe, top_of, with_answers_below}
use Rattle.model_laws.proofs.BelowLemmas.{above_covers, answered_alike, if_open, map_alike, overlapping_answer, row_answers, same_test}
use Rattle.model_laws.proofs.BooksLists.{any_contains, contains_any}
use Rattle.model_laws.proofs.Elements.{found_contains, found_passes}

-- rows of the book, all at one path where one is, answer the tickets that ask at or below that
at_path_answers : (next number : ℕ) (given : Answer) (book : Book) (path : List (List ℕ)) (row : Row) (some : List Row) → IsBook next book →
    Contains book.rows row → row.path ≡ path → Contains some row → ((other : Row) → Contains some other → Contains book.rows other × (other.path ≡ path)) →
    with_answers some number given book ≡ with_answers_below path number given book
at_path_answers next number given book path row some rules among placed has within =
    ap (λ (tickets : List Ticket). record book { tickets = tickets })
    (map_alike (answered_by_any some number given) (answered_below path number given) book.tickets
    (λ ticket asking. answered_alike number given ticket (waits_for_any some ticket) (asks_below path ticket)
    (if_open ticket (list_any (covers ticket.asked) some) (is_prefix path ticket.asked) (λ lies.
    same_test (list_any (covers ticket.asked) some) (is_prefix path ticket.asked)
    (λ any.
    let (other, also, does) = any_contains (covers ticket.asked) some any in
    let (inside, at) = within other also in
    subst (λ (p : List (List ℕ)). is_prefix p ticket.asked ≡ true) at
    (sym (above_covers next book ticket other rules asking lies inside) ∙ does))
    (λ below.
    contains_any (covers ticket.asked) some row has
    (above_covers next book ticket row rules asking lies among
    ∙ subst (λ (p : List (List ℕ)). is_prefix p ticket.asked ≡ true) (sym placed) below))))))

-- a row that is found at a path under a stamp
found_there : (book : Book) (path : List (List ℕ)) (stamp : ℕ) (row : Row) → find (is_declared path stamp) book.rows ≡ Some row →
    Contains book.rows row × (row.path ≡ path) × (row.stamp ≡ stamp)
found_there book path stamp row found =
    let parts = and_parts (is_at_path path row) (row.stamp == stamp) (found_passes (is_declared path stamp) book.rows row found) in
    (found_contains (is_declared path stamp) book.rows row found, same_names-eq row.path path parts.0, eqb-true row.stamp stamp parts.1)

-- the end of a make that made its row
pub made_below : (next number : ℕ) (path : List (List ℕ)) (stamp : ℕ) (how : Recorded) (book : Book) (row : Row) → IsBook next book →
    find (is_declared path stamp) book.rows ≡ Some row →
    finish number (task.Make path stamp) outcome.Made how book ≡ record {
      reply = reply.Fresh how;
      book = record (with_answers_below path number (answer.Ready stamp row.sum) book) { rows = map (standing_row path) book.rows };
    }
made_below next number path stamp how book row rules found =
    let (among, placed, stamped) = found_there book path stamp row found in
    ap (λ (o : Option Row). end_make number path outcome.Made how book o) found
    ∙ ap (λ (tickets : List Ticket). told tickets)
    (row_answers next number (answer.Ready row.stamp row.sum) book row rules among
    ∙ ap₂ (λ (p : List (List ℕ)) (s : ℕ). map (answered_below p number (answer.Ready s row.sum)) book.tickets) placed stamped)
  where
    told : List Ticket → Served
    told tickets = record { reply = reply.Fresh how; book = record book { rows = map (standing_row path) book.rows; tickets = tickets } }

-- the end of a make that failed
pub failed_below : (next number : ℕ) (path : List (List ℕ)) (stamp : ℕ) (out : Outcome) (how : Recorded) (given : Answer) (book : Book) (row : Row) →
    IsBook next book → find (is_declared path stamp) book.rows ≡ Some row → failure_of_make out ≡ Some given →
    finish number (task.Make path stamp) out how book ≡ record { reply = reply.Fresh how; book = with_answers_below path number given book }
failed_below next number path stamp out how given book row rules found fails =
    ap (λ (o : Option Row). end_make number path out how book o) found ∙ by out fails
  where
    there : Contains book.rows row × (row.path ≡ path) × (row.stamp ≡ stamp)
    there = found_there book path stamp row found

    told : Book → Served
    told b = record { reply = reply.Fresh how; book = b }

    one : (failure : Answer) → failure ≡ given → told (with_answers (row ∷ []) number failure book) ≡ told (with_answers_below path number given book)
    one failure same =
        ap (λ (b : Book). told b)
        (ap (λ (a : Answer). with_answers (row ∷ []) number a book) same
        ∙ at_path_answers next number given book path row (row ∷ []) rules there.0 there.1 (contains_first row [])
        (λ other also. elim (contains_cases row [] other also) [
          | inl is ↦ subst (λ (r : Row). Contains book.rows r × (r.path ≡ path)) is (there.0, there.1)
          | inr (k, within, at) ↦ absurd (omega (arith, within))
        ]))

    by : (o : Outcome) → failure_of_make o ≡ Some given →
        end_make number path o how book (Some row) ≡ told (with_answers_below path number given book)
    by outcome.Made is = absurd cc
    by outcome.Wiped is = absurd cc
    by (outcome.Missing digest) is = let same : answer.Missing digest ≡ given = cc in one (answer.Missing digest) same
    by (outcome.Corrupt wanted other) is = let same : answer.Corrupt wanted other ≡ given = cc in one (answer.Corrupt wanted other) same
    by (outcome.Fault note) is = let same : answer.Fault note ≡ given = cc in one (answer.Fault note) same
    by outcome.NoMemory is = let same : answer.NoMemory ≡ given = cc in one answer.NoMemory same

-- the end of a wipe that failed
pub failed_wipe_below : (next number : ℕ) (path : List (List ℕ)) (out : Outcome) (how : Recorded) (given : Answer) (book : Book) → IsBook next book →
    failure_of_wipe out ≡ Some given →
    finish number (task.Wipe path) out how book
    ≡ record { reply = reply.Fresh recorded.Nothing; book = with_answers_below (top_of book.rows path) number given book }
failed_wipe_below next number path outcome.Made how given book rules is = absurd cc
failed_wipe_below next number path outcome.Wiped how given book rules is = absurd cc
failed_wipe_below next number path (outcome.Missing digest) how given book rules is = absurd cc
failed_wipe_below next number path (outcome.Corrupt wanted found) how given book rules is = absurd cc
failed_wipe_below next number path (outcome.Fault note) how given book rules is =
    let same : answer.Fault note ≡ given = cc in
    let told : Book → Served = λ b. record { reply = reply.Fresh recorded.Nothing; book = b } in
    ap (λ (b : Book). told b)
    (overlapping_answer next number (answer.Fault note) book path rules
    ∙ ap (λ (a : Answer). with_answers_below (top_of book.rows path) number a book) same)
failed_wipe_below next number path outcome.NoMemory how given book rules is =
    let same : answer.NoMemory ≡ given = cc in
    let told : Book → Served = λ b. record { reply = reply.Fresh recorded.Nothing; book = b } in
    ap (λ (b : Book). told b)
    (overlapping_answer next number answer.NoMemory book path rules
    ∙ ap (λ (a : Answer). with_answers_below (top_of book.rows path) number a book) same)

-- the begin of a wipe, and that of a make of a row, that were refused
pub refused_wipe_below : (next number : ℕ) (path : List (List ℕ)) (note : FaultNote) (book : Book) → IsBook next book →
    refuse number (task.Wipe path) note book
    ≡ record { reply = reply.Refused note; book = with_answers_below (top_of book.rows path) number (answer.Fault note) book }
refused_wipe_below next number path note book rules =
    let told : Book → Served = λ b. record { reply = reply.Refused note; book = b } in
    ap (λ (b : Book). told b) (overlapping_answer next number (answer.Fault note) book path rules)

pub refused_make_below : (next number stamp : ℕ) (note : FaultNote) (book : Book) (row : Row) → IsBook next book → Contains book.rows row →
    refuse number (task.Make row.path stamp) note book
    ≡ record { reply = reply.Refused note; book = with_answers_below row.path number (answer.Fault note) book }
refused_make_below next number stamp note book row rules among =
    let told : Book → Served = λ b. record { reply = reply.Refused note; book = b } in
    ap (λ (b : Book). told b)
    (at_path_answers next number (answer.Fault note) book row.path row (filter (is_at_path row.path) book.rows) rules among refl
    (contains_filter (is_at_path row.path) book.rows row (same_names-refl row.path) among)
    (λ other also.
    let (within, at) = filtered_contains (is_at_path row.path) book.rows other also in
    (within, same_names-eq other.path row.path at)))
