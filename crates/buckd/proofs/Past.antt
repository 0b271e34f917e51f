-- Tickets that were answered before a number, or not yet: no line is told for them from there on, and they stay so.
use Rattle.std.proofs.Common.{◌≡◌, ℕ, ◌+◌, ◌==◌, ◌≤◌, Bool, true, false, List, [], ◌∷◌, ◌++◌, Option, Some, None, cond, nat_lt, refl, ap, ap₂, map, arith}
use Rattle.std.specs.List.{list_all, flat_map}
use Rattle.std.specs.Option.{option_map_or}
use Rattle.std.proofs.lemmas.Bool.{and_from, and_parts}
use Rattle.std.proofs.lemmas.Bool.Decides.{nat_tests}
use Rattle.mat_model.specs.declared.answers.Answer.{Answer}
use Rattle.mat_model.specs.declared.book.Given.{Given}
use Rattle.mat_model.specs.declared.book.Row.{Row}
use Rattle.mat_model.specs.declared.book.Ticket.{Ticket}
use Rattle.mat_model.specs.Tickets.{answered_by, waits_for, with_answer}
use Rattle.buckd.specs.Sound.{is_before, is_answered_before}
use Rattle.buckd.specs.Texts.{answer_line, given_line, ticket_line, answer_lines}

-- a number below another one isn't that one
below_differs : (a b : ℕ) → nat_lt a b ≡ true → (a == b) ≡ false
below_differs a b h = grind (arith, nat_tests)

-- a number below another one is below each that is no less
below_more : (a b c : ℕ) → b ≤ c → nat_lt a b ≡ true → nat_lt a c ≡ true
below_more a b c more h = grind (arith, nat_tests)

-- a number is below the next
below_next : (a : ℕ) → nat_lt a (a + 1) ≡ true
below_next a = grind (arith, nat_tests)

-- an answer before a number has no line at it
given_line-past : (number ticket : ℕ) (o : Option Given) → option_map_or (is_before number) o true ≡ true →
    option_map_or (given_line number ticket) o [] ≡ []
given_line-past number ticket None past = refl
given_line-past number ticket (Some given) past =
    ap (λ (b : Bool). cond b (answer_line ticket given.answer) []) (below_differs given.at number past)

-- an answer before a number is before each that is no less
given-later : (number later : ℕ) → number ≤ later → (o : Option Given) → option_map_or (is_before number) o true ≡ true →
    option_map_or (is_before later) o true ≡ true
given-later number later more None past = refl
given-later number later more (Some given) past = below_more given.at number later more past

-- a ticket that was answered before a number has no line at it
pub ticket_line-past : (number : ℕ) (ticket : Ticket) → is_answered_before number ticket ≡ true → ticket_line number ticket ≡ []
ticket_line-past number ticket past = given_line-past number ticket.number ticket.answered past

-- no ticket that was answered before a number has a line at it
pub past-lines : (number : ℕ) (tickets : List Ticket) → list_all (is_answered_before number) tickets ≡ true →
    flat_map (ticket_line number) tickets ≡ []
past-lines number [] past = refl
past-lines number (ticket ∷ tickets) past =
    let parts = and_parts (is_answered_before number ticket) (list_all (is_answered_before number) tickets) past in
    ap₂ (λ (s t : List ℕ). s ++ t) (ticket_line-past number ticket parts.0) (past-lines number tickets parts.1)

-- the lines of one entry are none where no ticket was answered at it
pub past-answer_lines : (number : ℕ) (tickets : List Ticket) → list_all (is_answered_before number) tickets ≡ true →
    answer_lines number 1 tickets ≡ []
past-answer_lines number tickets past = ap (λ (s : List ℕ). s ++ []) (past-lines number tickets past)

-- tickets that were answered before a number were so before each that is no less
pub past-later : (number later : ℕ) (tickets : List Ticket) → number ≤ later → list_all (is_answered_before number) tickets ≡ true →
    list_all (is_answered_before later) tickets ≡ true
past-later number later [] more past = refl
past-later number later (ticket ∷ tickets) more past =
    let parts = and_parts (is_answered_before number ticket) (list_all (is_answered_before number) tickets) past in
    and_from (is_answered_before later ticket) (list_all (is_answered_before later) tickets)
    (given-later number later more ticket.answered parts.0) (past-later number later tickets more parts.1)

-- tickets that were answered before a number were so before the next
pub past-more : (number : ℕ) (tickets : List Ticket) → list_all (is_answered_before number) tickets ≡ true →
    list_all (is_answered_before (number + 1)) tickets ≡ true
past-more number tickets past = past-later number (number + 1) tickets (omega arith) past

-- a ticket that has no answer yet, behind some that were answered before a number
pub past-push : (number : ℕ) (tickets : List Ticket) (ticket : Ticket) → list_all (is_answered_before number) tickets ≡ true →
    ticket.answered ≡ None → list_all (is_answered_before number) (tickets ++ ticket ∷ []) ≡ true
past-push number [] ticket past none =
    and_from (is_answered_before number ticket) true (ap (λ (o : Option Given). option_map_or (is_before number) o true) none) refl
past-push number (first ∷ tickets) ticket past none =
    let parts = and_parts (is_answered_before number first) (list_all (is_answered_before number) tickets) past in
    and_from (is_answered_before number first) (list_all (is_answered_before number) (tickets ++ ticket ∷ []))
    parts.0 (past-push number tickets ticket parts.1 none)

-- a ticket that is answered at a number, if it is open on a row, was answered before the next number
past-answered_one : (number : ℕ) (row : Row) (given : Answer) (ticket : Ticket) → is_answered_before number ticket ≡ true →
    is_answered_before (number + 1) (answered_by row number given ticket) ≡ true
past-answered_one number row given ticket past =
    elim (waits_for row ticket) as (λ b. is_answered_before (number + 1) (cond b (with_answer number given ticket) ticket) ≡ true) [
      | true ↦ below_next number
      | false ↦ given-later number (number + 1) (omega arith) ticket.answered past
    ]

-- tickets of which some are answered at a number were answered before the next
pub past-answered : (number : ℕ) (tickets : List Ticket) (row : Row) (given : Answer) → list_all (is_answered_before number) tickets ≡ true →
    list_all (is_answered_before (number + 1)) (map (answered_by row number given) tickets) ≡ true
past-answered number [] row given past = refl
past-answered number (ticket ∷ tickets) row given past =
    let parts = and_parts (is_answered_before number ticket) (list_all (is_answered_before number) tickets) past in
    and_from (is_answered_before (number + 1) (answered_by row number given ticket))
    (list_all (is_answered_before (number + 1)) (map (answered_by row number given) tickets))
    (past-answered_one number row given ticket parts.0) (past-answered number tickets row given parts.1)
