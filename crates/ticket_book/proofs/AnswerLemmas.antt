-- The rules of a book's tickets, where one comes and where some are answered.
use Rattle.std.proofs.Common.{◌≡◌, ◌+◌, ◌<◌, ◌≤◌, ℕ, suc, nat_lt, Bool, true, false, not, ◌&&◌, cond, List, [], ◌∷◌, ◌++◌, map, take, get_or, length, length-append, refl, ◌∙◌, sym, ap, subst, arith, count_by}
use Rattle.std.proofs.lemmas.Bool.{and_from, and_parts, le-leb, leb-true}
use Rattle.std.proofs.lemmas.List.{length-map, map-append}
use Rattle.std.proofs.lemmas.List.Elements.{filter-append}
use Rattle.std.proofs.lemmas.List.Sums.{length-filter, sum_by-append, sum_by-cons}
use Rattle.std.proofs.Math.Seq.{take-suc}
use Rattle.std.specs.List.{filter, list_all}
use Rattle.mat_model.specs.declared.answers.Answer.{Answer}
use Rattle.mat_model.specs.declared.book.Ticket.{Ticket}
use Rattle.mat_model.specs.Books.{are_ascending, number_of}
use Rattle.mat_model.specs.Tickets.{is_open, with_answer}
use Rattle.ticket_book.specs.Asked.{AreTickets, Tickets, answer_all, answered_if, has_number, is_due, is_earlier, is_same, was_answered, with_ticket}

-- ---- counting

counted_cons : (p : Ticket → Bool) (x : Ticket) (ts : List Ticket) → count_by p (x ∷ ts) ≡ cond (p x) 1 0 + count_by p ts
counted_cons p x ts = sum_by-cons (λ (t : Ticket). cond (p t) 1 0) x ts

counted_append : (p : Ticket → Bool) (xs ys : List Ticket) → count_by p (xs ++ ys) ≡ count_by p xs + count_by p ys
counted_append p xs ys = sum_by-append (λ (t : Ticket). cond (p t) 1 0) xs ys

-- those that are open and pass a test are no more than those that are open
pub due_few : (test : Ticket → Bool) (ts : List Ticket) → count_by (is_due test) ts ≤ count_by is_open ts
due_few test [] = omega arith
due_few test (x ∷ ts) = by (is_open x) (test x) (counted_cons (is_due test) x ts) (counted_cons is_open x ts) (due_few test ts)
  where
    by : (a b : Bool) → count_by (is_due test) (x ∷ ts) ≡ cond (a && b) 1 0 + count_by (is_due test) ts → count_by is_open (x ∷ ts) ≡ cond a 1 0 + count_by is_open ts
        → count_by (is_due test) ts ≤ count_by is_open ts → count_by (is_due test) (x ∷ ts) ≤ count_by is_open (x ∷ ts)
    by true true e f more = omega (arith, e, f, more)
    by true false e f more = omega (arith, e, f, more)
    by false b e f more = omega (arith, e, f, more)

pub numbers_cons : (n x : ℕ) (ns : List ℕ) → count_by (is_same n) (x ∷ ns) ≡ cond (is_same n x) 1 0 + count_by (is_same n) ns
numbers_cons n x ns = sum_by-cons (λ (m : ℕ). cond (is_same n m) 1 0) x ns

pub numbers_append : (n : ℕ) (xs ys : List ℕ) → count_by (is_same n) (xs ++ ys) ≡ count_by (is_same n) xs + count_by (is_same n) ys
numbers_append n xs ys = sum_by-append (λ (m : ℕ). cond (is_same n m) 1 0) xs ys

-- ---- a ticket comes

all_pushed : (n : ℕ) (ts : List Ticket) (t : Ticket) → list_all (nat_lt n) (map number_of ts) ≡ true → nat_lt n t.number ≡ true
    → list_all (nat_lt n) (map number_of (ts ++ t ∷ [])) ≡ true
all_pushed n [] t all less = and_from (nat_lt n t.number) true less refl
all_pushed n (x ∷ ts) t all less =
    let parts = and_parts (nat_lt n x.number) (list_all (nat_lt n) (map number_of ts)) all in
    and_from (nat_lt n x.number) (list_all (nat_lt n) (map number_of (ts ++ t ∷ []))) parts.0 (all_pushed n ts t parts.1 less)

ascending_pushed : (ts : List Ticket) (t : Ticket) → are_ascending (map number_of ts) ≡ true → list_all (is_earlier t.number) ts ≡ true
    → are_ascending (map number_of (ts ++ t ∷ [])) ≡ true
ascending_pushed [] t ascend later = refl
ascending_pushed (x ∷ ts) t ascend later =
    let parts = and_parts (list_all (nat_lt x.number) (map number_of ts)) (are_ascending (map number_of ts)) ascend in
    let rest = and_parts (nat_lt x.number t.number) (list_all (is_earlier t.number) ts) later in
    and_from (list_all (nat_lt x.number) (map number_of (ts ++ t ∷ []))) (are_ascending (map number_of (ts ++ t ∷ [])))
    (all_pushed x.number ts t parts.0 rest.0) (ascending_pushed ts t parts.1 rest.1)

pub asked_kept : (all news : List Ticket) (answered numbers : List ℕ) (t : Ticket) → AreTickets (record { all = all; answered = answered })
    → list_all (is_earlier t.number) all ≡ true → is_open t ≡ true → news ≡ all ++ t ∷ [] → numbers ≡ answered
    → AreTickets (record { all = news; answered = numbers })
asked_kept all news answered numbers t are later lies is same = record {
  ascending = ap (λ (ts : List Ticket). are_ascending (map number_of ts)) is ∙ ascending_pushed all t are.ascending later;
  counted =
      let one = counted_cons is_open t [] in
      let here : ◌≡◌ {A = ℕ} (cond (is_open t) 1 0) 1 = ap (λ (b : Bool). cond {A = ℕ} b 1 0) lies in
      let none : count_by is_open [] ≡ 0 = refl in
      let sum = counted_append is_open all (t ∷ []) in
      let long = length-append all (t ∷ []) in
      let single : length (t ∷ []) ≡ 1 = refl in
      let before = are.counted in
      let count = ap (λ (ts : List Ticket). count_by is_open ts) is in
      let size = ap (λ (ts : List Ticket). length ts) is in
      let few = ap (λ (ns : List ℕ). length ns) same in omega (arith, one, here, none, sum, long, single, before, count, size, few);
  listed = λ (n : ℕ).
      let one = counted_cons (was_answered n) t [] in
      let here : ◌≡◌ {A = ℕ} (cond (was_answered n t) 1 0) 0 = ap (λ (b : Bool). cond {A = ℕ} (not b && has_number n t) 1 0) lies in
      let none : count_by (was_answered n) [] ≡ 0 = refl in
      let sum = counted_append (was_answered n) all (t ∷ []) in
      let before = are.listed n in
      let count = ap (λ (ts : List Ticket). count_by (was_answered n) ts) is in
      let few = ap (λ (ns : List ℕ). count_by (is_same n) ns) same in omega (arith, one, here, none, sum, before, count, few);
}

-- those of a number and of lower ones have lower numbers than the next
earlier_next : (n : ℕ) (ts : List Ticket) (t : Ticket) → list_all (is_earlier n) ts ≡ true → t.number ≡ n → list_all (is_earlier (n + 1)) (ts ++ t ∷ []) ≡ true
earlier_next n [] t all is = and_from (is_earlier (n + 1) t) true (le-leb (suc t.number) (n + 1) (omega (arith, is))) refl
earlier_next n (x ∷ ts) t all is =
    let parts = and_parts (is_earlier n x) (list_all (is_earlier n) ts) all in
    let less = leb-true (suc x.number) n parts.0 in
    and_from (is_earlier (n + 1) x) (list_all (is_earlier (n + 1)) (ts ++ t ∷ [])) (le-leb (suc x.number) (n + 1) (omega (arith, less))) (earlier_next n ts t parts.1 is)

pub earlier_asked : (n : ℕ) (old new : Tickets) (t : Ticket) → new ≡ with_ticket t old → list_all (is_earlier n) old.all ≡ true → t.number ≡ n
    → list_all (is_earlier (n + 1)) new.all ≡ true
earlier_asked n old new t is all number = ap (λ (tickets : Tickets). list_all (is_earlier (n + 1)) tickets.all) is ∙ earlier_next n old.all t all number

-- ---- some are answered

pub numbers_same : (test : Ticket → Bool) (at : ℕ) (given : Answer) (ts : List Ticket) → map number_of (map (answered_if test at given) ts) ≡ map number_of ts
numbers_same test at given [] = refl
numbers_same test at given (x ∷ ts) = by (is_due test x) (numbers_same test at given ts)
  where
    by : (b : Bool) → map number_of (map (answered_if test at given) ts) ≡ map number_of ts
        → number_of (cond b (with_answer at given x) x) ∷ map number_of (map (answered_if test at given) ts) ≡ number_of x ∷ map number_of ts
    by true more = ap (λ (ns : List ℕ). x.number ∷ ns) more
    by false more = ap (λ (ns : List ℕ). x.number ∷ ns) more

open_fewer : (test : Ticket → Bool) (at : ℕ) (given : Answer) (ts : List Ticket)
    → count_by is_open (map (answered_if test at given) ts) + count_by (is_due test) ts ≡ count_by is_open ts
open_fewer test at given [] = refl
open_fewer test at given (x ∷ ts) =
    by (is_open x) refl (test x) refl (counted_cons is_open (answered_if test at given x) (map (answered_if test at given) ts)) (counted_cons (is_due test) x ts) (counted_cons is_open x ts)
    (open_fewer test at given ts)
  where
    by : (a : Bool) → is_open x ≡ a → (b : Bool) → test x ≡ b
        → count_by is_open (map (answered_if test at given) (x ∷ ts)) ≡ cond (is_open (cond (a && b) (with_answer at given x) x)) 1 0 + count_by is_open (map (answered_if test at given) ts)
        → count_by (is_due test) (x ∷ ts) ≡ cond (a && b) 1 0 + count_by (is_due test) ts
        → count_by is_open (x ∷ ts) ≡ cond a 1 0 + count_by is_open ts
        → count_by is_open (map (answered_if test at given) ts) + count_by (is_due test) ts ≡ count_by is_open ts
        → count_by is_open (map (answered_if test at given) (x ∷ ts)) + count_by (is_due test) (x ∷ ts) ≡ count_by is_open (x ∷ ts)
    by true still true so e f g more = omega (arith, e, f, g, more)
    by true still false so e f g more =
        let here : ◌≡◌ {A = ℕ} (cond (is_open x) 1 0) 1 = ap (λ (b : Bool). cond {A = ℕ} b 1 0) still in omega (arith, e, f, g, more, here)
    by false shut b so e f g more =
        let here : ◌≡◌ {A = ℕ} (cond (is_open x) 1 0) 0 = ap (λ (b : Bool). cond {A = ℕ} b 1 0) shut in omega (arith, e, f, g, more, here)

listed_once : (n : ℕ) (test : Ticket → Bool) (at : ℕ) (given : Answer) (ts : List Ticket)
    → count_by (is_same n) (map number_of (filter (is_due test) ts)) + count_by (was_answered n) ts ≡ count_by (was_answered n) (map (answered_if test at given) ts)
listed_once n test at given [] = refl
listed_once n test at given (x ∷ ts) =
    by (is_open x) refl (test x) refl (counted_cons (was_answered n) x ts)
    (counted_cons (was_answered n) (answered_if test at given x) (map (answered_if test at given) ts)) (listed_once n test at given ts)
  where
    by : (a : Bool) → is_open x ≡ a → (b : Bool) → test x ≡ b
        → count_by (was_answered n) (x ∷ ts) ≡ cond (not a && has_number n x) 1 0 + count_by (was_answered n) ts
        → count_by (was_answered n) (map (answered_if test at given) (x ∷ ts))
        ≡ cond (was_answered n (cond (a && b) (with_answer at given x) x)) 1 0 + count_by (was_answered n) (map (answered_if test at given) ts)
        → count_by (is_same n) (map number_of (filter (is_due test) ts)) + count_by (was_answered n) ts ≡ count_by (was_answered n) (map (answered_if test at given) ts)
        → count_by (is_same n) (map number_of (cond (a && b) (x ∷ filter (is_due test) ts) (filter (is_due test) ts))) + count_by (was_answered n) (x ∷ ts)
        ≡ count_by (was_answered n) (map (answered_if test at given) (x ∷ ts))
    by true still true so f g more = let one = numbers_cons n x.number (map number_of (filter (is_due test) ts)) in omega (arith, one, f, g, more)
    by true still false so f g more =
        let here : ◌≡◌ {A = ℕ} (cond (was_answered n x) 1 0) 0 = ap (λ (b : Bool). cond {A = ℕ} (not b && has_number n x) 1 0) still in omega (arith, here, f, g, more)
    by false shut b so f g more =
        let here : ◌≡◌ {A = ℕ} (cond (was_answered n x) 1 0) (cond (has_number n x) 1 0) =
        ap (λ (b : Bool). cond {A = ℕ} (not b && has_number n x) 1 0) shut in omega (arith, here, f, g, more)

pub answered_kept : (test : Ticket → Bool) (at : ℕ) (given : Answer) (tickets : Tickets) → AreTickets tickets → AreTickets (answer_all test at given tickets)
answered_kept test at given tickets are = record {
  ascending = ap are_ascending (numbers_same test at given tickets.all) ∙ are.ascending;
  counted =
      let more = length-append tickets.answered (map number_of (filter (is_due test) tickets.all)) in
      let one = length-map (filter (is_due test) tickets.all) number_of in
      let two = length-filter (is_due test) tickets.all in
      let few = open_fewer test at given tickets.all in
      let before = are.counted in
      let size = length-map tickets.all (answered_if test at given) in omega (arith, more, one, two, few, before, size);
  listed = λ (n : ℕ).
      let more = numbers_append n tickets.answered (map number_of (filter (is_due test) tickets.all)) in
      let once = listed_once n test at given tickets.all in
      let before = are.listed n in omega (arith, more, once, before);
}

-- there is room for the numbers of those that will be answered
pub room_for : (test : Ticket → Bool) (tickets : Tickets) (room : ℕ) → AreTickets tickets → length tickets.all ≤ room
    → length tickets.answered + count_by (is_due test) tickets.all ≤ room
room_for test tickets room are enough =
    let few = due_few test tickets.all in
    let before = are.counted in omega (arith, few, before, enough)

-- ---- one after the other

-- the numbers up to a place
pub listed_next : (test : Ticket → Bool) (ts : List Ticket) (k : ℕ) (d : Ticket) → k < length ts → d ≡ get_or ts k d
    → map number_of (filter (is_due test) (take (k + 1) ts))
    ≡ map number_of (filter (is_due test) (take k ts)) ++ cond (is_due test d) (number_of d ∷ []) []
listed_next test ts k d within is =
    let next : suc k ≡ k + 1 = omega arith in
    ap (λ (n : ℕ). map number_of (filter (is_due test) (take n ts))) (sym next)
    ∙ ap (λ (xs : List Ticket). map number_of (filter (is_due test) xs)) (take-suc ts k d within)
    ∙ ap (λ (x : Ticket). map number_of (filter (is_due test) (take k ts ++ x ∷ []))) (sym is)
    ∙ ap (map number_of) (filter-append (is_due test) (take k ts) (d ∷ []))
    ∙ map-append number_of (filter (is_due test) (take k ts)) (filter (is_due test) (d ∷ []))
    ∙ ap (λ (ns : List ℕ). map number_of (filter (is_due test) (take k ts)) ++ ns) (single (is_due test d))
  where
    single : (b : Bool) → map number_of (cond b (d ∷ []) []) ≡ cond b (number_of d ∷ []) []
    single true = refl
    single false = refl

-- all of it, where the lists are given by what they became
pub answered_rules : (test : Ticket → Bool) (at : ℕ) (given : Answer) (all news : List Ticket) (answered numbers : List ℕ)
    → AreTickets (record { all = all; answered = answered }) → news ≡ map (answered_if test at given) all
    → numbers ≡ answered ++ map number_of (filter (is_due test) all) → AreTickets (record { all = news; answered = numbers })
answered_rules test at given all news answered numbers are is listed =
    subst (λ (ts : List Ticket). AreTickets (record { all = ts; answered = numbers })) (sym is)
    (subst (λ (ns : List ℕ). AreTickets (record { all = map (answered_if test at given) all; answered = ns })) (sym listed)
    (answered_kept test at given (record { all = all; answered = answered }) are))

pub answered_size : (test : Ticket → Bool) (at : ℕ) (given : Answer) (all news : List Ticket) → news ≡ map (answered_if test at given) all → length news ≡ length all
answered_size test at given all news is = ap (λ (ts : List Ticket). length ts) is ∙ length-map all (answered_if test at given)
