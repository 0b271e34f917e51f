-- The end of the first make that is due leaves fewer tickets open.
use Rattle.std.proofs.Common.{◌≡◌, ℕ, ◌+◌, ◌<◌, ◌≤◌, Bool, true, false, List, [], ◌∷◌, Option, Some, None, cond, refl, sym, ap, ap₂, subst, ◌∙◌, map, count_by, find, arith}
use Rattle.std.specs.Option.{option_and_then, option_or}
use Rattle.std.proofs.lemmas.Bool.{and_from}
use Rattle.std.proofs.lemmas.List.Sums.{sum_by-cons}
use Rattle.mat_model.specs.declared.answers.Answer.{Answer}
use Rattle.mat_model.specs.declared.answers.Answer.TheVariants as answer
use Rattle.mat_model.specs.declared.answers.Recorded.{Recorded}
use Rattle.mat_model.specs.declared.book.Book.{Book}
use Rattle.mat_model.specs.declared.book.Row.{Row}
use Rattle.mat_model.specs.declared.book.Ticket.{Ticket}
use Rattle.mat_model.specs.declared.entries.Outcome.TheVariants as outcome
use Rattle.mat_model.specs.declared.entries.Task.TheVariants as task
use Rattle.mat_model.specs.Rows.{are_apart, covers}
use Rattle.mat_model.specs.Tickets.{answered_by, is_open, waits_for, with_answer}
use Rattle.mat_model.specs.Work.{end_make, finish, is_declared}
use Rattle.mat_model.specs.WorkState.{WorkState, first_make, make_of, task_of}
use Rattle.model_laws.proofs.Elements.{found_contains, found_passes}
use Rattle.model_laws.proofs.Makes.{make_of_parts, apart_declared, first_make_found}

-- the ticket that the first make is for waits for its row
waits_first : (work : WorkState) (rows : List Row) (ticket : Ticket) (path : List (List ℕ)) (stamp : ℕ) (row : Row) → are_apart rows ≡ true →
    find (is_declared path stamp) rows ≡ Some row → task_of work rows ticket ≡ Some (task.Make path stamp) →
    (is_open ticket ≡ true) × (waits_for row ticket ≡ true)
waits_first work rows ticket path stamp row apart found is =
    elim (is_open ticket) as
    (λ b. is_open ticket ≡ b → cond b (option_and_then (make_of work rows) (find (covers ticket.asked) rows)) None ≡ Some (task.Make path stamp) →
    (is_open ticket ≡ true) × (waits_for row ticket ≡ true)) [
      | true ↦ λ lies of.
          elim (find (covers ticket.asked) rows) as
          (λ o. find (covers ticket.asked) rows ≡ o → option_and_then (make_of work rows) o ≡ Some (task.Make path stamp) →
          (is_open ticket ≡ true) × (waits_for row ticket ≡ true)) [
            | None ↦ λ none made. absurd cc
            | Some one ↦ λ over made.
                let parts = make_of_parts work rows one path stamp made in
                let its : find (is_declared path stamp) rows ≡ Some one =
                ap₂ (λ (p : List (List ℕ)) (s : ℕ). find (is_declared p s) rows) (sym parts.0) (sym parts.1)
                ∙ apart_declared rows one apart (found_contains (covers ticket.asked) rows one over) in
                let same : one ≡ row = cc in (
                  lies,
                  and_from (is_open ticket) (covers ticket.asked row) lies
                      (subst (λ (r : Row). covers ticket.asked r ≡ true) same (found_passes (covers ticket.asked) rows one over)),
                )
          ] refl of
      | false ↦ λ shut of. absurd cc
    ] refl is

-- how many tickets of a list are open
count-cons : (ticket : Ticket) (tickets : List Ticket) → count_by is_open (ticket ∷ tickets) ≡ cond (is_open ticket) 1 0 + count_by is_open tickets
count-cons ticket tickets = sum_by-cons (λ (t : Ticket). cond (is_open t) 1 0) ticket tickets

both_le : (a b c d : ℕ) → a ≤ b → c ≤ d → a + c ≤ b + d
both_le a b c d one two = omega arith

one_lt : (a b c d : ℕ) → a ≤ b → c < d → a + c < b + d
one_lt a b c d one two = omega arith

first_lt : (a b c d : ℕ) → a < b → c ≤ d → a + c < b + d
first_lt a b c d one two = omega arith

answered_le : (row : Row) (number : ℕ) (given : Answer) (ticket : Ticket) →
    cond (is_open (answered_by row number given ticket)) 1 0 ≤ cond (is_open ticket) 1 0
answered_le row number given ticket =
    elim (waits_for row ticket) as (λ b. cond (is_open (cond b (with_answer number given ticket) ticket)) 1 0 ≤ cond (is_open ticket) 1 0)
    [ true ↦ omega arith | false ↦ omega arith ]

answered_all_le : (row : Row) (number : ℕ) (given : Answer) (tickets : List Ticket) →
    count_by is_open (map (answered_by row number given) tickets) ≤ count_by is_open tickets
answered_all_le row number given [] = omega arith
answered_all_le row number given (ticket ∷ tickets) =
    rw (count-cons (answered_by row number given ticket) (map (answered_by row number given) tickets), count-cons ticket tickets)
    (both_le (cond (is_open (answered_by row number given ticket)) 1 0) (cond (is_open ticket) 1 0)
    (count_by is_open (map (answered_by row number given) tickets)) (count_by is_open tickets)
    (answered_le row number given ticket) (answered_all_le row number given tickets))

first_answered : (work : WorkState) (rows : List Row) (path : List (List ℕ)) (stamp : ℕ) (row : Row) (number : ℕ) (given : Answer) → are_apart rows ≡ true →
    find (is_declared path stamp) rows ≡ Some row → (tickets : List Ticket) → first_make work rows tickets ≡ Some (task.Make path stamp) →
    count_by is_open (map (answered_by row number given) tickets) < count_by is_open tickets
first_answered work rows path stamp row number given apart found [] is = absurd cc
first_answered work rows path stamp row number given apart found (ticket ∷ tickets) is =
    rw (count-cons (answered_by row number given ticket) (map (answered_by row number given) tickets), count-cons ticket tickets)
    (elim (task_of work rows ticket) as
    (λ o. task_of work rows ticket ≡ o → option_or o (first_make work rows tickets) ≡ Some (task.Make path stamp) →
    cond (is_open (answered_by row number given ticket)) 1 0 + count_by is_open (map (answered_by row number given) tickets)
    < cond (is_open ticket) 1 0 + count_by is_open tickets) [
      | None ↦ λ here more.
          one_lt (cond (is_open (answered_by row number given ticket)) 1 0) (cond (is_open ticket) 1 0)
          (count_by is_open (map (answered_by row number given) tickets)) (count_by is_open tickets)
          (answered_le row number given ticket) (first_answered work rows path stamp row number given apart found tickets more)
      | Some one ↦ λ here more.
          let waits = waits_first work rows ticket path stamp row apart found (here ∙ more) in
          let lt : cond (is_open (answered_by row number given ticket)) 1 0 < cond (is_open ticket) 1 0 =
          subst (λ (b : Bool). cond (is_open (cond b (with_answer number given ticket) ticket)) 1 0 < cond (is_open ticket) 1 0) (sym waits.1)
          (subst (λ (b : Bool). 0 < cond b 1 0) (sym waits.0) (omega arith)) in
          first_lt (cond (is_open (answered_by row number given ticket)) 1 0) (cond (is_open ticket) 1 0)
          (count_by is_open (map (answered_by row number given) tickets)) (count_by is_open tickets)
          lt (answered_all_le row number given tickets)
    ] refl is)

-- the end of the first make that is due leaves fewer tickets open
pub finish_fewer_open : (work : WorkState) (number : ℕ) (path : List (List ℕ)) (stamp : ℕ) (how : Recorded) (book : Book) → are_apart book.rows ≡ true →
    first_make work book.rows book.tickets ≡ Some (task.Make path stamp) →
    count_by is_open (finish number (task.Make path stamp) outcome.Made how book).book.tickets < count_by is_open book.tickets
finish_fewer_open work number path stamp how book apart is =
    let made = first_make_found work book.rows book.tickets path stamp apart is in
    let same : (finish number (task.Make path stamp) outcome.Made how book).book.tickets
    ≡ map (answered_by made.0 number (answer.Ready made.0.stamp made.0.sum)) book.tickets =
    ap (λ (o : Option Row). (end_make number path outcome.Made how book o).book.tickets) made.2 in
    subst (λ (ts : List Ticket). count_by is_open ts < count_by is_open book.tickets) (sym same)
    (first_answered work book.rows path stamp made.0 number (answer.Ready made.0.stamp made.0.sum) apart made.2 book.tickets is)
