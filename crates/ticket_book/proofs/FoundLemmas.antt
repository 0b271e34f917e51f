-- A ticket is found by its number in a list that ascends.
use Rattle.std.proofs.Common.{◌≡◌, ◌<◌, ◌≤◌, ℕ, zero, suc, nat_lt, Bool, true, false, not, ◌&&◌, cond, List, [], ◌∷◌, map, take, drop, get_or, length, refl, ◌∙◌, sym, ap, arith, Option, Some, None}
use Rattle.std.proofs.lemmas.Bool.{and_parts, eqb-false, le-leb, leb-false, leb-true, lt-leb, ne_eqb}
use Rattle.std.proofs.lemmas.List.{take-append-drop}
use Rattle.std.proofs.lemmas.List.Folds.{find-append}
use Rattle.std.specs.List.{find, list_all}
use Rattle.std.specs.List.Sorted.{IsPartitionedBy}
use Rattle.std.specs.Option.{option_map, option_or}
use Rattle.mat_model.specs.declared.book.Ticket.{Ticket}
use Rattle.mat_model.specs.Books.{are_ascending, number_of}
use Rattle.mat_model.specs.Tickets.{is_open}
use Rattle.ticket_book.specs.Asked.{has_number, is_due, is_earlier, is_from, lowest, ticket_at}
use Rattle.ticket_book.specs.Found.{first_if, is_past}

-- ---- the order

less_at : (n : ℕ) (ts : List Ticket) (j : ℕ) (d : Ticket) → list_all (nat_lt n) (map number_of ts) ≡ true → j < length ts → nat_lt n (number_of (get_or ts j d)) ≡ true
less_at n [] j d all within = absurd (omega (arith, within))
less_at n (x ∷ ts) zero d all within = (and_parts (nat_lt n x.number) (list_all (nat_lt n) (map number_of ts)) all).0
less_at n (x ∷ ts) (suc j) d all within =
    less_at n ts j d (and_parts (nat_lt n x.number) (list_all (nat_lt n) (map number_of ts)) all).1 (omega (arith, within))

rises : (ts : List Ticket) (i j : ℕ) (d : Ticket) → are_ascending (map number_of ts) ≡ true → i ≤ j → j < length ts
    → number_of (get_or ts i d) ≤ number_of (get_or ts j d)
rises [] i j d ascend order within = absurd (omega (arith, within))
rises (x ∷ ts) zero zero d ascend order within = omega arith
rises (x ∷ ts) zero (suc j) d ascend order within =
    let parts = and_parts (list_all (nat_lt x.number) (map number_of ts)) (are_ascending (map number_of ts)) ascend in
    let less = leb-true (suc x.number) (number_of (get_or ts j d)) (less_at x.number ts j d parts.0 (omega (arith, within))) in omega (arith, less)
rises (x ∷ ts) (suc i) zero d ascend order within = absurd (omega (arith, order))
rises (x ∷ ts) (suc i) (suc j) d ascend order within =
    let parts = and_parts (list_all (nat_lt x.number) (map number_of ts)) (are_ascending (map number_of ts)) ascend in
    rises ts i j d parts.1 (omega (arith, order)) (omega (arith, within))

pub earlier_parts : (n : ℕ) (ts : List Ticket) → are_ascending (map number_of ts) ≡ true → IsPartitionedBy (is_earlier n) ts
earlier_parts n ts ascend i j d order within early =
    let less = leb-true (suc (number_of (get_or ts j d))) n early in
    let rise = rises ts i j d ascend order within in le-leb (suc (number_of (get_or ts i d))) n (omega (arith, less, rise))

pub ascending_drop : (k : ℕ) (ts : List Ticket) → are_ascending (map number_of ts) ≡ true → are_ascending (map number_of (drop k ts)) ≡ true
ascending_drop zero ts ascend = ascend
ascending_drop (suc k) [] ascend = refl
ascending_drop (suc k) (x ∷ ts) ascend =
    ascending_drop k ts (and_parts (list_all (nat_lt x.number) (map number_of ts)) (are_ascending (map number_of ts)) ascend).1

-- ---- what is found

-- nothing is found among those that another test keeps apart
none_found : (p q : Ticket → Bool) → ((t : Ticket) → q t ≡ true → p t ≡ false) → (ts : List Ticket) → list_all q ts ≡ true → find p ts ≡ None
none_found p q other [] all = refl
none_found p q other (x ∷ ts) all =
    let parts = and_parts (q x) (list_all q ts) all in
    ap (λ (b : Bool). cond b (Some x) (find p ts)) (other x parts.0) ∙ none_found p q other ts parts.1

past_front : (p q : Ticket → Bool) (ts : List Ticket) (k : ℕ) → ((t : Ticket) → q t ≡ true → p t ≡ false) → list_all q (take k ts) ≡ true
    → find p (drop k ts) ≡ find p ts
past_front p q ts k other front =
    ap (λ (o : Option Ticket). option_or o (find p (drop k ts))) (sym (none_found p q other (take k ts) front))
    ∙ sym (find-append p (take k ts) (drop k ts))
    ∙ ap (find p) (take-append-drop k ts)

earlier_other : (n : ℕ) (t : Ticket) → is_earlier n t ≡ true → has_number n t ≡ false
earlier_other n t early = let less = leb-true (suc t.number) n early in ne_eqb t.number n (λ same. absurd (omega (arith, less, same)))

later_none : (n m : ℕ) (ts : List Ticket) → n < m → list_all (nat_lt m) (map number_of ts) ≡ true → find (has_number n) ts ≡ None
later_none n m [] less all = refl
later_none n m (x ∷ ts) less all =
    let parts = and_parts (nat_lt m x.number) (list_all (nat_lt m) (map number_of ts)) all in
    let more = leb-true (suc m) x.number parts.0 in
    ap (λ (b : Bool). cond b (Some x) (find (has_number n) ts)) (ne_eqb x.number n (λ same. absurd (omega (arith, less, more, same))))
    ∙ later_none n m ts less parts.1

first_found : (n : ℕ) (ts : List Ticket) → are_ascending (map number_of ts) ≡ true → list_all (is_past n) ts ≡ true → first_if n ts ≡ find (has_number n) ts
first_found n [] ascend past = refl
first_found n (x ∷ ts) ascend past = by (has_number n x) refl
  where
    by : (b : Bool) → has_number n x ≡ b → cond b (Some x) None ≡ cond b (Some x) (find (has_number n) ts)
    by true same = refl
    by false other =
        let late = leb-false (suc x.number) n (not_so (is_earlier n x) (and_parts (is_past n x) (list_all (is_past n) ts) past).0) in
        sym (later_none n x.number ts (more x.number n late (eqb-false x.number n other)) (and_parts (list_all (nat_lt x.number) (map number_of ts)) (are_ascending (map number_of ts)) ascend).0)
      where
        not_so : (b : Bool) → not b ≡ true → b ≡ false
        not_so true e = cc
        not_so false e = refl

        more : (a m : ℕ) → m < suc a → (a ≡ m → ⊥) → m < a
        more a m least other = omega (arith, least, other)

pub ticket_found : (n : ℕ) (ts rest : List Ticket) (k : ℕ) → are_ascending (map number_of ts) ≡ true → list_all (is_earlier n) (take k ts) ≡ true
    → list_all (is_past n) (drop k ts) ≡ true → rest ≡ drop k ts → first_if n rest ≡ ticket_at ts n
ticket_found n ts rest k ascend front back is =
    ap (first_if n) is
    ∙ first_found n (drop k ts) (ascending_drop k ts ascend) back
    ∙ past_front (has_number n) (is_earlier n) ts k (earlier_other n) front

earlier_not_from : (n : ℕ) (t : Ticket) → is_earlier n t ≡ true → is_due (is_from n) t ≡ false
earlier_not_from n t early = ap (λ (b : Bool). is_open t && b) (lt-leb n t.number (leb-true (suc t.number) n early)) ∙ none (is_open t)
  where
    none : (b : Bool) → (b && false) ≡ false
    none true = refl
    none false = refl

pub lowest_past : (n : ℕ) (ts rest : List Ticket) (k : ℕ) → list_all (is_earlier n) (take k ts) ≡ true → rest ≡ drop k ts
    → lowest (is_from n) rest ≡ lowest (is_from n) ts
lowest_past n ts rest k front is =
    ap (lowest (is_from n)) is ∙ ap (option_map number_of) (past_front (is_due (is_from n)) (is_earlier n) ts k (earlier_not_from n) front)
