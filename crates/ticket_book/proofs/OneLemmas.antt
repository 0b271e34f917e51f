-- The open ticket of a number, in a list that ascends.
use Rattle.std.proofs.Common.{◌≡◌, ◌<◌, ◌≤◌, ℕ, nat_lt, Bool, true, false, not, ◌&&◌, ◌||◌, cond, List, [], ◌∷◌, map, length, refl, ◌∙◌, sym, ap, arith, count_by}
use Rattle.std.proofs.lemmas.Bool.{and_parts, eqb-true}
use Rattle.std.proofs.lemmas.List.{length-map}
use Rattle.std.proofs.lemmas.List.Sums.{length-filter}
use Rattle.std.specs.List.{filter, list_all, list_any}
use Rattle.mat_model.specs.declared.book.Ticket.{Ticket}
use Rattle.mat_model.specs.Books.{are_ascending, number_of}
use Rattle.mat_model.specs.Tickets.{is_open}
use Rattle.ticket_book.specs.Asked.{AreTickets, Tickets, has_number, is_due, is_same}
use Rattle.ticket_book.specs.ByPath.{AreAsOften, due_numbers}
use Rattle.ticket_book.proofs.AnswerLemmas.{room_for}
use Rattle.ticket_book.proofs.DueLemmas.{due_cons, is_else, later_else}

not_so : (b : Bool) → not b ≡ true → b ≡ false
not_so true e = cc
not_so false e = refl

-- a ticket of another number isn't due
else_due : (n : ℕ) (t : Ticket) → is_else n t ≡ true → is_due (has_number n) t ≡ false
else_due n t else = ap (λ b. is_open t && b) (not_so (has_number n t) else) ∙ none (is_open t)
  where
    none : (b : Bool) → (b && false) ≡ false
    none true = refl
    none false = refl

due_none : (n : ℕ) (ts : List Ticket) → list_all (is_else n) ts ≡ true → due_numbers (has_number n) ts ≡ []
due_none n [] all = refl
due_none n (x ∷ ts) all =
    let parts = and_parts (is_else n x) (list_all (is_else n) ts) all in
    due_cons (has_number n) x ts ∙ ap (λ b. cond b (x.number ∷ due_numbers (has_number n) ts) (due_numbers (has_number n) ts)) (else_due n x parts.0) ∙ due_none n ts parts.1

-- its number is all that is due
pub one_listed : (n : ℕ) (ts : List Ticket) → are_ascending (map number_of ts) ≡ true → list_any (is_due (has_number n)) ts ≡ true → due_numbers (has_number n) ts ≡ n ∷ []
one_listed n [] ascend there = cc
one_listed n (x ∷ ts) ascend there =
    let parts = and_parts (list_all (nat_lt x.number) (map number_of ts)) (are_ascending (map number_of ts)) ascend in
    due_cons (has_number n) x ts ∙ by (is_due (has_number n) x) refl there parts.0 (one_listed n ts parts.1)
  where
    by : (b : Bool) → is_due (has_number n) x ≡ b → (b || list_any (is_due (has_number n)) ts) ≡ true → list_all (nat_lt x.number) (map number_of ts) ≡ true
        → (list_any (is_due (has_number n)) ts ≡ true → due_numbers (has_number n) ts ≡ n ∷ [])
        → cond b (x.number ∷ due_numbers (has_number n) ts) (due_numbers (has_number n) ts) ≡ n ∷ []
    by true due e later more =
        let same = eqb-true x.number n (and_parts (is_open x) (has_number n x) due).1 in
        ap (λ ns. x.number ∷ ns) (due_none n ts (later_else n ts (ap (λ m. list_all (nat_lt m) (map number_of ts)) (sym same) ∙ later))) ∙ ap (λ m. m ∷ []) same
    by false other e later more = more e

-- there is room for it
pub one_room : (n room : ℕ) (tickets : Tickets) → AreTickets tickets → length tickets.all ≤ room → list_any (is_due (has_number n)) tickets.all ≡ true
    → length tickets.answered < room
one_room n room tickets are enough there =
    let most = room_for (has_number n) tickets room are enough in
    let one = ap (λ (ns : List ℕ). length ns) (one_listed n tickets.all are.ascending there) in
    let a = length-map (filter (is_due (has_number n)) tickets.all) number_of in
    let b = length-filter (is_due (has_number n)) tickets.all in omega (arith, most, one, a, b)

pub one_often : (n : ℕ) (ts : List Ticket) → are_ascending (map number_of ts) ≡ true → list_any (is_due (has_number n)) ts ≡ true
    → AreAsOften (n ∷ []) (due_numbers (has_number n) ts)
one_often n ts ascend there m = ap (λ ns. count_by (is_same m) ns) (sym (one_listed n ts ascend there))
