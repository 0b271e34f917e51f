-- Numbers that are taken out of order are put in order, and their tickets answered one by one.
use Rattle.std.proofs.Common.{◌≡◌, ◌+◌, ◌<◌, ◌≤◌, ℕ, suc, nat_lt, nat_le, ◌==◌, Bool, true, false, not, ◌&&◌, ◌||◌, cond, List, [], ◌∷◌, ◌++◌, map, take, drop, get_or, slice_set, length, refl, ◌∙◌, sym, ap, arith, count_by}
use Rattle.std.proofs.lemmas.Bool.{and_from, and_parts, eqb-true, eq-eqb, le-leb, leb-false, leb-true, ne_eqb}
use Rattle.std.proofs.lemmas.List.{map-append, take-append-drop, take_all}
use Rattle.std.proofs.lemmas.List.Edits.{map_over_more}
use Rattle.std.proofs.lemmas.List.Folds.{list_any-append}
use Rattle.std.proofs.lemmas.List.Sorted.{IsNonDecreasingBy-drop}
use Rattle.std.proofs.Math.Seq.{drop-cons, take-suc}
use Rattle.std.specs.List.{list_all, list_any}
use Rattle.std.specs.List.Sorted.{IsNonDecreasingBy}
use Rattle.mat_model.specs.declared.answers.Answer.{Answer}
use Rattle.mat_model.specs.declared.book.Ticket.{Ticket}
use Rattle.mat_model.specs.Books.{are_ascending, number_of}
use Rattle.mat_model.specs.Tickets.{is_open, with_answer}
use Rattle.path_trie.proofs.Lists.{all_from, all_so}
use Rattle.ticket_book.specs.Asked.{answered_if, has_number, is_due, is_earlier, is_same}
use Rattle.ticket_book.specs.Found.{is_past}
use Rattle.ticket_book.specs.ByPath.{due_numbers, is_among}
use Rattle.ticket_book.proofs.AnswerLemmas.{numbers_cons, numbers_same}
use Rattle.ticket_book.proofs.DueLemmas.{due_cons}
use Rattle.ticket_book.proofs.FoundLemmas.{ascending_drop}

-- ---- numbers in order

-- whether numbers never fall
abbrev pub never_fall : List ℕ → Bool
never_fall [] = true
never_fall (n ∷ ns) = list_all (nat_le n) ns && never_fall ns

pub never_falls : (ns : List ℕ) → IsNonDecreasingBy (λ (n : ℕ). n) ns → never_fall ns ≡ true
never_falls [] rise = refl
never_falls (n ∷ ns) rise =
    and_from (list_all (nat_le n) ns) (never_fall ns)
    (all_from (nat_le n) ns 0 (λ i d low high. le-leb n (get_or ns i d) (rise 0 (suc i) d (omega arith) (omega (arith, high)))))
    (never_falls ns (IsNonDecreasingBy-drop (λ (m : ℕ). m) 1 (n ∷ ns) rise))

-- a number that is in a list is no lower than what all of them are no lower than
pub least_in : (m n : ℕ) (ns : List ℕ) → list_all (nat_le m) ns ≡ true → 1 ≤ count_by (is_same n) ns → m ≤ n
least_in m n [] all some = absurd (omega (arith, some))
least_in m n (x ∷ ns) all some =
    let parts = and_parts (nat_le m x) (list_all (nat_le m) ns) all in by (is_same n x) refl parts.0 (numbers_cons n x ns) (least_in m n ns parts.1)
  where
    by : (b : Bool) → is_same n x ≡ b → nat_le m x ≡ true → count_by (is_same n) (x ∷ ns) ≡ cond (is_same n x) 1 0 + count_by (is_same n) ns
        → (1 ≤ count_by (is_same n) ns → m ≤ n) → m ≤ n
    by true same low count more =
        let is = eqb-true x n same in
        let so = leb-true m x low in omega (arith, is, so)
    by false other low count more =
        let none : ◌≡◌ {A = ℕ} (cond (is_same n x) 1 0) 0 = ap (λ b. cond {A = ℕ} b 1 0) other in more (omega (arith, count, none, some))

pub itself_in : (n : ℕ) (ns : List ℕ) → 1 ≤ count_by (is_same n) (n ∷ ns)
itself_in n ns =
    let a = numbers_cons n n ns in
    let b : ◌≡◌ {A = ℕ} (cond (is_same n n) 1 0) 1 = ap (λ (b : Bool). cond {A = ℕ} b 1 0) (eq-eqb n n refl) in omega (arith, a, b)

itself_least : (n : ℕ) (ns : List ℕ) → list_all (nat_le n) ns ≡ true → list_all (nat_le n) (n ∷ ns) ≡ true
itself_least n ns all = and_from (nat_le n n) (list_all (nat_le n) ns) (le-leb n n (omega arith)) all

pub less_least : (n : ℕ) (ns : List ℕ) → list_all (nat_lt n) ns ≡ true → list_all (nat_le n) ns ≡ true
less_least n ns all = all_so (nat_lt n) (nat_le n) (λ m less. let so = leb-true (suc n) m less in le-leb n m (omega (arith, so))) ns all

-- numbers that never fall are those that ascend, where each is there as often
pub same_sorted : (xs ys : List ℕ) → never_fall xs ≡ true → are_ascending ys ≡ true → ((n : ℕ) → count_by (is_same n) xs ≡ count_by (is_same n) ys) → xs ≡ ys
same_sorted [] [] order ascend same = refl
same_sorted [] (y ∷ ys) order ascend same =
    let some = itself_in y ys in
    let is = same y in
    let none : count_by (is_same y) [] ≡ 0 = refl in absurd (omega (arith, some, is, none))
same_sorted (x ∷ xs) [] order ascend same =
    let some = itself_in x xs in
    let is = same x in
    let none : count_by (is_same x) [] ≡ 0 = refl in absurd (omega (arith, some, is, none))
same_sorted (x ∷ xs) (y ∷ ys) order ascend same =
    let front = and_parts (list_all (nat_le x) xs) (never_fall xs) order in
    let back = and_parts (list_all (nat_lt y) ys) (are_ascending ys) ascend in
    let here = itself_in x xs in
    let there = itself_in y ys in
    let one = same x in
    let two = same y in
    let low = least_in y x (y ∷ ys) (itself_least y ys (less_least y ys back.0)) (omega (arith, here, one)) in
    let high = least_in x y (x ∷ xs) (itself_least x xs front.0) (omega (arith, there, two)) in
    let is : x ≡ y = omega (arith, low, high) in
    ap (λ n. n ∷ xs) is ∙ ap (λ ns. y ∷ ns) (same_sorted xs ys front.1 back.1 (rest is))
  where
    rest : x ≡ y → (n : ℕ) → count_by (is_same n) xs ≡ count_by (is_same n) ys
    rest is n =
        let a = numbers_cons n x xs in
        let b = numbers_cons n y ys in
        let c = same n in
        let d : ◌≡◌ {A = ℕ} (cond (is_same n x) 1 0) (cond (is_same n y) 1 0) = ap (λ m. cond {A = ℕ} (is_same n m) 1 0) is in omega (arith, a, b, c, d)

-- ---- the numbers of some tickets

pub due_all : (p : ℕ → Bool) (test : Ticket → Bool) (ts : List Ticket) → list_all p (map number_of ts) ≡ true → list_all p (due_numbers test ts) ≡ true
due_all p test [] all = refl
due_all p test (x ∷ ts) all =
    let parts = and_parts (p x.number) (list_all p (map number_of ts)) all in ap (list_all p) (due_cons test x ts) ∙ by (is_due test x) parts.0 (due_all p test ts parts.1)
  where
    by : (b : Bool) → p x.number ≡ true → list_all p (due_numbers test ts) ≡ true → list_all p (cond b (x.number ∷ due_numbers test ts) (due_numbers test ts)) ≡ true
    by true one more = and_from (p x.number) (list_all p (due_numbers test ts)) one more
    by false one more = more

pub due_ascending : (test : Ticket → Bool) (ts : List Ticket) → are_ascending (map number_of ts) ≡ true → are_ascending (due_numbers test ts) ≡ true
due_ascending test [] ascend = refl
due_ascending test (x ∷ ts) ascend =
    let parts = and_parts (list_all (nat_lt x.number) (map number_of ts)) (are_ascending (map number_of ts)) ascend in
    ap are_ascending (due_cons test x ts) ∙ by (is_due test x) (due_all (nat_lt x.number) test ts parts.0) (due_ascending test ts parts.1)
  where
    by : (b : Bool) → list_all (nat_lt x.number) (due_numbers test ts) ≡ true → are_ascending (due_numbers test ts) ≡ true
        → are_ascending (cond b (x.number ∷ due_numbers test ts) (due_numbers test ts)) ≡ true
    by true all more = and_from (list_all (nat_lt x.number) (due_numbers test ts)) (are_ascending (due_numbers test ts)) all more
    by false all more = more

-- a number isn't among higher ones
not_among : (n : ℕ) (ns : List ℕ) → list_all (nat_lt n) ns ≡ true → list_any (is_same n) ns ≡ false
not_among n [] all = refl
not_among n (m ∷ ns) all =
    let parts = and_parts (nat_lt n m) (list_all (nat_lt n) ns) all in
    let less = leb-true (suc n) m parts.0 in
    ap (λ b. b || list_any (is_same n) ns) (ne_eqb m n (λ same. absurd (omega (arith, less, same)))) ∙ not_among n ns parts.1

-- a lower number makes no difference to tickets
among_past : (n : ℕ) (ns : List ℕ) (at : ℕ) (given : Answer) (ts : List Ticket) → list_all (nat_lt n) (map number_of ts) ≡ true
    → map (answered_if (is_among (n ∷ ns)) at given) ts ≡ map (answered_if (is_among ns) at given) ts
among_past n ns at given [] all = refl
among_past n ns at given (x ∷ ts) all =
    let parts = and_parts (nat_lt n x.number) (list_all (nat_lt n) (map number_of ts)) all in
    let less = leb-true (suc n) x.number parts.0 in
    ap (λ b. cond (is_open x && (b || is_among ns x)) (with_answer at given x) x ∷ map (answered_if (is_among (n ∷ ns)) at given) ts)
    (ne_eqb n x.number (λ same. absurd (omega (arith, less, same))))
    ∙ ap (λ xs. answered_if (is_among ns) at given x ∷ xs) (among_past n ns at given ts parts.1)

-- the open tickets of the numbers of those that are due are those that are due
pub marked_all : (test : Ticket → Bool) (at : ℕ) (given : Answer) (ts : List Ticket) → are_ascending (map number_of ts) ≡ true
    → map (answered_if (is_among (due_numbers test ts)) at given) ts ≡ map (answered_if test at given) ts
marked_all test at given [] ascend = refl
marked_all test at given (x ∷ ts) ascend =
    let parts = and_parts (list_all (nat_lt x.number) (map number_of ts)) (are_ascending (map number_of ts)) ascend in
    ap (λ ns. map (answered_if (is_among ns) at given) (x ∷ ts)) (due_cons test x ts)
    ∙ by (is_open x) (test x) parts.0 (not_among x.number (due_numbers test ts) (due_all (nat_lt x.number) test ts parts.0)) (marked_all test at given ts parts.1)
  where
    by : (a b : Bool) → list_all (nat_lt x.number) (map number_of ts) ≡ true → list_any (is_same x.number) (due_numbers test ts) ≡ false
        → map (answered_if (is_among (due_numbers test ts)) at given) ts ≡ map (answered_if test at given) ts
        → cond (a && is_among (cond (a && b) (x.number ∷ due_numbers test ts) (due_numbers test ts)) x) (with_answer at given x) x
        ∷ map (answered_if (is_among (cond (a && b) (x.number ∷ due_numbers test ts) (due_numbers test ts))) at given) ts
        ≡ cond (a && b) (with_answer at given x) x ∷ map (answered_if test at given) ts
    by true true later none more =
        ap (λ c. cond (c || is_among (due_numbers test ts) x) (with_answer at given x) x ∷ map (answered_if (is_among (x.number ∷ due_numbers test ts)) at given) ts)
        (eq-eqb x.number x.number refl)
        ∙ ap (λ xs. with_answer at given x ∷ xs) (among_past x.number (due_numbers test ts) at given ts later ∙ more)
    by true false later none more =
        ap (λ c. cond c (with_answer at given x) x ∷ map (answered_if (is_among (due_numbers test ts)) at given) ts) none ∙ ap (λ xs. x ∷ xs) more
    by false b later none more = ap (λ xs. x ∷ xs) more

-- ---- one by one

swapped : (a b : ℕ) → (a == b) ≡ (b == a)
swapped a b = by (a == b) refl
  where
    by : (s : Bool) → (a == b) ≡ s → s ≡ (b == a)
    by true e = sym (eq-eqb b a (sym (eqb-true a b e)))
    by false e = sym (ne_eqb b a (λ same. let lost : true ≡ false = sym (eq-eqb a b (sym same)) ∙ e in cc))

none_among : (at : ℕ) (given : Answer) (ts : List Ticket) → ts ≡ map (answered_if (is_among []) at given) ts
none_among at given [] = refl
none_among at given (x ∷ ts) = by (is_open x) (none_among at given ts)
  where
    by : (b : Bool) → ts ≡ map (answered_if (is_among []) at given) ts → x ∷ ts ≡ cond (b && false) (with_answer at given x) x ∷ map (answered_if (is_among []) at given) ts
    by true more = ap (λ xs. x ∷ xs) more
    by false more = ap (λ xs. x ∷ xs) more

pub among_start : (at : ℕ) (given : Answer) (ts : List Ticket) (ns : List ℕ) → ts ≡ map (answered_if (is_among (take 0 ns)) at given) ts
among_start at given ts ns = none_among at given ts

among_one : (n : ℕ) (ns : List ℕ) (at : ℕ) (given : Answer) (ts : List Ticket)
    → map (answered_if (has_number n) at given) (map (answered_if (is_among ns) at given) ts) ≡ map (answered_if (is_among (ns ++ n ∷ [])) at given) ts
among_one n ns at given [] = refl
among_one n ns at given (x ∷ ts) = ap (λ y. y ∷ map (answered_if (has_number n) at given) (map (answered_if (is_among ns) at given) ts)) one ∙ ap (λ xs. answered_if (is_among (ns ++ n ∷ [])) at given x ∷ xs) (among_one n ns at given ts)
  where
    joined : is_among (ns ++ n ∷ []) x ≡ (is_among ns x || ((x.number == n) || false))
    joined = list_any-append (is_same x.number) ns (n ∷ []) ∙ ap (λ b. is_among ns x || (b || false)) (swapped n x.number)

    by : (a b c : Bool) → is_open x ≡ a → (x.number == n) ≡ c
        → answered_if (has_number n) at given (cond (a && b) (with_answer at given x) x) ≡ cond (a && (b || (c || false))) (with_answer at given x) x
    by true true c e f = refl
    by true false true e f = ap (λ s. cond s (with_answer at given x) x) (and_from (is_open x) (x.number == n) e f)
    by true false false e f = ap (λ s. cond (is_open x && s) (with_answer at given x) x) f ∙ ap (λ s. cond (s && false) (with_answer at given x) x) e
    by false b c e f = ap (λ s. cond (s && (x.number == n)) (with_answer at given x) x) e

    one : answered_if (has_number n) at given (answered_if (is_among ns) at given x) ≡ answered_if (is_among (ns ++ n ∷ [])) at given x
    one = by (is_open x) (is_among ns x) (x.number == n) refl refl ∙ ap (λ b. cond (is_open x && b) (with_answer at given x) x) (sym joined)

pub among_next : (at : ℕ) (given : Answer) (ts now new : List Ticket) (ns : List ℕ) (k n d : ℕ) → k < length ns → n ≡ get_or ns k d
    → now ≡ map (answered_if (is_among (take k ns)) at given) ts → new ≡ map (answered_if (has_number n) at given) now
    → new ≡ map (answered_if (is_among (take (k + 1) ns)) at given) ts
among_next at given ts now new ns k n d within is before after =
    after
    ∙ ap (map (answered_if (has_number n) at given)) before
    ∙ among_one n (take k ns) at given ts
    ∙ ap (λ m. map (answered_if (is_among (take k ns ++ m ∷ [])) at given) ts) is
    ∙ ap (λ ms. map (answered_if (is_among ms) at given) ts) (sym (take-suc ns k d within))
    ∙ ap (λ i. map (answered_if (is_among (take i ns)) at given) ts) next
  where
    next : suc k ≡ k + 1
    next = omega arith

pub among_order : (test : Ticket → Bool) (at : ℕ) (given : Answer) (ts now : List Ticket) → now ≡ map (answered_if test at given) ts → are_ascending (map number_of ts) ≡ true
    → are_ascending (map number_of now) ≡ true
among_order test at given ts now is ascend = ap (λ xs. are_ascending (map number_of xs)) is ∙ ap are_ascending (numbers_same test at given ts) ∙ ascend

-- ---- the ticket of a number

idle : (n : ℕ) (at : ℕ) (given : Answer) (q : Ticket → Bool) → ((t : Ticket) → q t ≡ true → has_number n t ≡ false) → (ts : List Ticket) → list_all q ts ≡ true
    → map (answered_if (has_number n) at given) ts ≡ ts
idle n at given q other [] all = refl
idle n at given q other (x ∷ ts) all =
    let parts = and_parts (q x) (list_all q ts) all in
    ap (λ b. cond (is_open x && b) (with_answer at given x) x ∷ map (answered_if (has_number n) at given) ts) (other x parts.0)
    ∙ by (is_open x) (idle n at given q other ts parts.1)
  where
    by : (b : Bool) → map (answered_if (has_number n) at given) ts ≡ ts → cond (b && false) (with_answer at given x) x ∷ map (answered_if (has_number n) at given) ts ≡ x ∷ ts
    by true more = ap (λ xs. x ∷ xs) more
    by false more = ap (λ xs. x ∷ xs) more

pub earlier_idle : (n : ℕ) (t : Ticket) → is_earlier n t ≡ true → has_number n t ≡ false
earlier_idle n t early = let less = leb-true (suc t.number) n early in ne_eqb t.number n (λ same. absurd (omega (arith, less, same)))

pub later_idle : (n : ℕ) (t : Ticket) → nat_lt n t.number ≡ true → has_number n t ≡ false
later_idle n t late = let less = leb-true (suc n) t.number late in ne_eqb t.number n (λ same. absurd (omega (arith, less, same)))

later_all : (n m : ℕ) (ts : List Ticket) → n ≤ m → list_all (nat_lt m) (map number_of ts) ≡ true → list_all (λ (t : Ticket). nat_lt n t.number) ts ≡ true
later_all n m [] low all = refl
later_all n m (x ∷ ts) low all =
    let parts = and_parts (nat_lt m x.number) (list_all (nat_lt m) (map number_of ts)) all in
    let less = leb-true (suc m) x.number parts.0 in
    and_from (nat_lt n x.number) (list_all (λ (t : Ticket). nat_lt n t.number) ts) (le-leb (suc n) x.number (omega (arith, less, low))) (later_all n m ts low parts.1)

-- those behind the place of a number have higher ones
pub back_later : (n : ℕ) (ts : List Ticket) (k : ℕ) (d : Ticket) → k < length ts → are_ascending (map number_of ts) ≡ true
    → list_all (is_past n) (drop k ts) ≡ true → list_all (λ (t : Ticket). nat_lt n t.number) (drop (suc k) ts) ≡ true
back_later n ts k d within ascend past = later_all n (get_or ts k d).number (drop (suc k) ts) low higher
  where
    not_so : (b : Bool) → not b ≡ true → b ≡ false
    not_so true e = cc
    not_so false e = refl

    low : n ≤ (get_or ts k d).number
    low =
        let least = (and_parts (is_past n (get_or ts k d)) (list_all (is_past n) (drop (suc k) ts)) (ap (list_all (is_past n)) (sym (drop-cons ts k d within)) ∙ past)).0 in
        let far = leb-false (suc (get_or ts k d).number) n (not_so (is_earlier n (get_or ts k d)) least) in omega (arith, far)

    higher : list_all (nat_lt (get_or ts k d).number) (map number_of (drop (suc k) ts)) ≡ true
    higher =
        (and_parts (list_all (nat_lt (get_or ts k d).number) (map number_of (drop (suc k) ts))) (are_ascending (map number_of (drop (suc k) ts)))
        (ap (λ xs. are_ascending (map number_of xs)) (sym (drop-cons ts k d within)) ∙ ascending_drop k ts ascend)).0

back_idle : (n : ℕ) (at : ℕ) (given : Answer) (ts : List Ticket) (k : ℕ) (d : Ticket) → k < length ts → are_ascending (map number_of ts) ≡ true
    → list_all (is_past n) (drop k ts) ≡ true → map (answered_if (has_number n) at given) (drop (k + 1) ts) ≡ drop (k + 1) ts
back_idle n at given ts k d within ascend past =
    idle n at given (λ (t : Ticket). nat_lt n t.number) (later_idle n) (drop (k + 1) ts)
    (ap (λ i. list_all (λ (t : Ticket). nat_lt n t.number) (drop i ts)) next ∙ back_later n ts k d within ascend past)
  where
    next : k + 1 ≡ suc k
    next = omega arith

pub marked_at : (n : ℕ) (at : ℕ) (given : Answer) (ts : List Ticket) (k : ℕ) (old new : Ticket) → are_ascending (map number_of ts) ≡ true
    → list_all (is_earlier n) (take k ts) ≡ true → list_all (is_past n) (drop k ts) ≡ true → k < length ts → old ≡ get_or ts k old
    → new ≡ answered_if (has_number n) at given old → slice_set ts k new ≡ map (answered_if (has_number n) at given) ts
marked_at n at given ts k old new ascend front back within is after =
    ap (λ t. slice_set ts k t) after
    ∙ map_over_more (answered_if (has_number n) at given) ts ts k old within
    (sym (take-append-drop k ts) ∙ ap (λ xs. xs ++ drop k ts) (sym (idle n at given (is_earlier n) (earlier_idle n) (take k ts) front))) is
    ∙ ap (λ xs. map (answered_if (has_number n) at given) (take (k + 1) ts) ++ xs) (sym (back_idle n at given ts k old within ascend back))
    ∙ sym (map-append (answered_if (has_number n) at given) (take (k + 1) ts) (drop (k + 1) ts))
    ∙ ap (map (answered_if (has_number n) at given)) (take-append-drop (k + 1) ts)

pub marked_none : (n : ℕ) (at : ℕ) (given : Answer) (ts : List Ticket) (k : ℕ) → list_all (is_earlier n) (take k ts) ≡ true → length ts ≤ k
    → ts ≡ map (answered_if (has_number n) at given) ts
marked_none n at given ts k front past =
    sym (idle n at given (is_earlier n) (earlier_idle n) ts (ap (list_all (is_earlier n)) (sym (take_all k ts past)) ∙ front))
