-- The numbers at a key of a table, or at the paths that overlap one, are those of the tickets that are due there, and these are answered.
use Rattle.std.proofs.Common.{◌≡◌, ◌+◌, ℕ, nat_le, Bool, true, false, ◌&&◌, ◌||◌, cond, List, [], ◌∷◌, ◌++◌, inl, inr, map, take, drop, length, refl, ◌∙◌, sym, ap, arith, count_by, Option, Some}
use Rattle.std.proofs.lemmas.Bool.{le-leb}
use Rattle.std.proofs.lemmas.List.{length-map, take-append-drop, take-append-le, take_all}
use Rattle.std.proofs.lemmas.List.Sorted.{IsNonDecreasingBy-from_sort, sum_by-IsPermutation}
use Rattle.std.proofs.lemmas.List.Sums.{length-filter, sum_by-append, sum_by-cons}
use Rattle.std.proofs.Math.Seq.{drop-append_seam}
use Rattle.std.specs.List.{filter, find, sum_by}
use Rattle.std.specs.List.Sorted.{IsPermutation, IsSorted}
use Rattle.std.specs.Option.{option_map}
use Rattle.std.specs.Ordering.{is_lt, nat_cmp, ordering_reverse}
use Rattle.mat_path.specs.Names.{is_prefix, overlap, path_cmp, same_names}
use Rattle.mat_path.proofs.PathLemmas.{path_cmp_equal, path_cmp_total, path_cmp-refl, prefix_not_greater, prefix-refl}
use Rattle.mat_path.proofs.SameNames.{same_names-eq, same_names-refl}
use Rattle.mat_model.specs.declared.answers.Answer.{Answer}
use Rattle.mat_model.specs.declared.book.Ticket.{Ticket}
use Rattle.mat_model.specs.Books.{are_ascending, number_of}
use Rattle.mat_model.specs.Tickets.{is_open}
use Rattle.path_trie.specs.declared.entry.Entry.{Entry}
use Rattle.path_trie.specs.Entries.{ascends, is_above}
use Rattle.ticket_book.specs.Asked.{AreTickets, Tickets, answer_all, answered_if, asks_below, asks_below_from, asks_over, is_due, is_from, is_same, lowest}
use Rattle.ticket_book.specs.ByPath.{AreAsOften, IsIndexed, all_numbers, asks_so, due_numbers, is_among, is_inside, list_or_empty, some_list}
use Rattle.ticket_book.specs.Index.{overlap_numbers}
use Rattle.ticket_book.proofs.AnswerLemmas.{answered_rules, answered_size}
use Rattle.ticket_book.proofs.DueLemmas.{due_cons, index_whole, or_empty}
use Rattle.ticket_book.proofs.NumberLemmas.{find_alike}
use Rattle.ticket_book.proofs.RowLemmas.{due_ascending, marked_all, never_falls, same_sorted}

-- ---- two tests of paths that part a third

-- whether a path is below another, and not it
abbrev inside : List (List ℕ) → List (List ℕ) → Bool
inside path other = is_prefix path other && is_lt (path_cmp path other)

sum_due : (f : ℕ → ℕ) (test : Ticket → Bool) (x : Ticket) (ts : List Ticket)
    → sum_by f (due_numbers test (x ∷ ts)) ≡ cond (is_due test x) (f x.number) 0 + sum_by f (due_numbers test ts)
sum_due f test x ts = ap (sum_by f) (due_cons test x ts) ∙ by (is_due test x)
  where
    by : (b : Bool) → sum_by f (cond b (x.number ∷ due_numbers test ts) (due_numbers test ts)) ≡ cond b (f x.number) 0 + sum_by f (due_numbers test ts)
    by true = sum_by-cons f x.number (due_numbers test ts)
    by false = omega arith

sum_both : (f : ℕ → ℕ) (a b r : List (List ℕ) → Bool) → ((p : List (List ℕ)) → r p ≡ (a p || b p)) → ((p : List (List ℕ)) → (a p && b p) ≡ false)
    → (ts : List Ticket) → sum_by f (due_numbers (asks_so a) ts) + sum_by f (due_numbers (asks_so b) ts) ≡ sum_by f (due_numbers (asks_so r) ts)
sum_both f a b r whole apart [] = refl
sum_both f a b r whole apart (x ∷ ts) =
    let one = sum_due f (asks_so a) x ts in
    let two = sum_due f (asks_so b) x ts in
    let three = sum_due f (asks_so r) x ts in
    let more = sum_both f a b r whole apart ts in
    let here = by (is_open x) (a x.asked) (b x.asked) (apart x.asked) in
    let all : ◌≡◌ {A = ℕ} (cond (is_due (asks_so r) x) (f x.number) 0) (cond (is_open x && (a x.asked || b x.asked)) (f x.number) 0) =
    ap (λ s. cond (is_open x && s) (f x.number) 0) (whole x.asked) in omega (arith, one, two, three, more, here, all)
  where
    by : (o s t : Bool) → (s && t) ≡ false → ◌≡◌ {A = ℕ} (cond (o && s) (f x.number) 0 + cond (o && t) (f x.number) 0) (cond (o && (s || t)) (f x.number) 0)
    by true true true e = cc
    by true true false e = omega arith
    by true false true e = omega arith
    by true false false e = omega arith
    by false s t e = omega arith

-- ---- how paths stand to one another

-- a path that begins another is it, or comes before it
prefix_part : (p q : List (List ℕ)) → is_prefix p q ≡ true → (same_names p q || is_lt (path_cmp p q)) ≡ true
prefix_part p q h =
    elim (prefix_not_greater p q h) [
      | inl less ↦ ap (λ o. same_names p q || is_lt o) less ∙ late (same_names p q)
      | inr equal ↦ ap (λ b. b || is_lt (path_cmp p q)) (ap (same_names p) (sym (path_cmp_equal p q equal)) ∙ same_names-refl p)
    ]
  where
    late : (b : Bool) → (b || true) ≡ true
    late true = refl
    late false = refl

not_over : (p q : List (List ℕ)) → is_prefix q p ≡ true → is_lt (path_cmp p q) ≡ false
not_over p q over =
    elim (prefix_not_greater q p over) [
      | inl less ↦ ap is_lt (path_cmp_total.antisymm p q ∙ ap ordering_reverse less)
      | inr equal ↦ ap (λ r. is_lt (path_cmp p r)) (path_cmp_equal q p equal) ∙ ap is_lt (path_cmp-refl p)
    ]

over_whole : (path p : List (List ℕ)) → overlap p path ≡ (is_prefix p path || inside path p)
over_whole path p = by (is_prefix p path) refl (is_prefix path p) refl
  where
    by : (s : Bool) → is_prefix p path ≡ s → (b : Bool) → is_prefix path p ≡ b → (s || b) ≡ (s || (b && is_lt (path_cmp path p)))
    by true over b e = refl
    by false other true below = pick (same_names path p) refl (prefix_part path p below)
      where
        pick : (s : Bool) → same_names path p ≡ s → (s || is_lt (path_cmp path p)) ≡ true → true ≡ is_lt (path_cmp path p)
        pick true same e =
            let at : is_prefix p path ≡ true = ap (is_prefix p) (same_names-eq path p same) ∙ prefix-refl p in
            let lost : true ≡ false = sym at ∙ other in cc
        pick false differ e = sym e
    by false other false e = refl

over_apart : (path p : List (List ℕ)) → (is_prefix p path && inside path p) ≡ false
over_apart path p = by (is_prefix p path) refl
  where
    none : (b : Bool) → (b && false) ≡ false
    none true = refl
    none false = refl

    by : (s : Bool) → is_prefix p path ≡ s → (s && inside path p) ≡ false
    by true over = ap (λ b. is_prefix path p && b) (not_over path p over) ∙ none (is_prefix path p)
    by false other = refl

-- ---- the numbers

overlap_sum : (f : ℕ → ℕ) (path : List (List ℕ)) (es : List (Entry (List ℕ))) (ts : List Ticket) → ascends es ≡ true → IsIndexed ts es
    → sum_by f (overlap_numbers path es) ≡ sum_by f (due_numbers (asks_over path) ts)
overlap_sum f path es ts order are =
    let parts = sum_by-append f (all_numbers (filter (is_above path) es)) (all_numbers (filter (is_inside path) es)) in
    let one = index_whole f (λ p. is_prefix p path) es ts order are in
    let two = index_whole f (inside path) es ts order are in
    let both = sum_both f (λ p. is_prefix p path) (inside path) (λ p. overlap p path) (over_whole path) (over_apart path) ts in omega (arith, parts, one, two, both)

pub overlap_often : (path : List (List ℕ)) (es : List (Entry (List ℕ))) (ts : List Ticket) → ascends es ≡ true → IsIndexed ts es
    → AreAsOften (overlap_numbers path es) (due_numbers (asks_over path) ts)
overlap_often path es ts order are n = overlap_sum (λ (m : ℕ). cond {A = ℕ} (is_same n m) 1 0) path es ts order are

-- the numbers at a key of a table are those of the tickets that are due there
pub table_numbers : (test : Ticket → Bool) (ts : List Ticket) (kept : Option (List ℕ)) → kept ≡ some_list (due_numbers test ts)
    → list_or_empty kept ≡ due_numbers test ts
table_numbers test ts kept is = ap list_or_empty is ∙ or_empty (due_numbers test ts)

pub table_often : (test : Ticket → Bool) (ts : List Ticket) (kept : Option (List ℕ)) → kept ≡ some_list (due_numbers test ts)
    → AreAsOften (list_or_empty kept) (due_numbers test ts)
table_often test ts kept is n = ap (λ ns. count_by (is_same n) ns) (table_numbers test ts kept is)

-- how many they are
pub due_size : (test : Ticket → Bool) (ts : List Ticket) → length (due_numbers test ts) ≡ count_by (is_due test) ts
due_size test ts = length-map (filter (is_due test) ts) number_of ∙ length-filter (is_due test) ts

ones : (ns : List ℕ) → sum_by (λ (n : ℕ). 1) ns ≡ length ns
ones [] = refl
ones (n ∷ ns) = let a = sum_by-cons (λ (m : ℕ). 1) n ns in let more = ones ns in omega (arith, a, more)

pub overlap_size : (path : List (List ℕ)) (es : List (Entry (List ℕ))) (ts : List Ticket) → ascends es ≡ true → IsIndexed ts es
    → length (overlap_numbers path es) ≡ count_by (is_due (asks_over path)) ts
overlap_size path es ts order are =
    sym (ones (overlap_numbers path es)) ∙ overlap_sum (λ (n : ℕ). 1) path es ts order are ∙ ones (due_numbers (asks_over path) ts) ∙ due_size (asks_over path) ts

pub table_size : (test : Ticket → Bool) (ts : List Ticket) (kept : Option (List ℕ)) → kept ≡ some_list (due_numbers test ts)
    → length (list_or_empty kept) ≡ count_by (is_due test) ts
table_size test ts kept is = ap (λ ns. length ns) (table_numbers test ts kept is) ∙ due_size test ts

-- ---- they are put in order, and their tickets answered

pub tail_in_order : (test : Ticket → Bool) (ts : List Ticket) (mid new : List ℕ) (k : ℕ) → are_ascending (map number_of ts) ≡ true
    → AreAsOften (drop k mid) (due_numbers test ts) → IsPermutation (drop k mid) (drop k new) → IsSorted nat_cmp (drop k new) → drop k new ≡ due_numbers test ts
tail_in_order test ts mid new k ascend often same sorted =
    same_sorted (drop k new) (due_numbers test ts) (never_falls (drop k new) (IsNonDecreasingBy-from_sort (λ (n : ℕ). n) (drop k new) sorted)) (due_ascending test ts ascend)
    (λ n. sum_by-IsPermutation (λ (m : ℕ). cond {A = ℕ} (is_same n m) 1 0) (drop k mid) (drop k new) same ∙ often n)

pub settled : (test : Ticket → Bool) (at : ℕ) (given : Answer) (ts news : List Ticket) (mid new ns : List ℕ) (k : ℕ) → are_ascending (map number_of ts) ≡ true
    → AreAsOften (drop k mid) (due_numbers test ts) → take k new ≡ take k mid → IsPermutation (drop k mid) (drop k new) → IsSorted nat_cmp (drop k new)
    → ns ≡ drop k new → news ≡ map (answered_if (is_among ns) at given) ts
    → (news ≡ map (answered_if test at given) ts) × (new ≡ take k mid ++ due_numbers test ts)
settled test at given ts news mid new ns k ascend often front same sorted rest is =
    let tail = tail_in_order test ts mid new k ascend often same sorted in (
      is ∙ ap (λ ms. map (answered_if (is_among ms) at given) ts) (rest ∙ tail) ∙ marked_all test at given ts ascend,
      sym (take-append-drop k new) ∙ ap (λ ms. ms ++ drop k new) front ∙ ap (λ ms. take k mid ++ ms) tail,
    )

-- what a book is once the open tickets that pass a test are answered
pub record IsAnswered (test : Ticket → Bool) (at : ℕ) (given : Answer) (ts : List Ticket) (old : List ℕ) (news : List Ticket) (new : List ℕ) : Type 0 where
  pub rules : AreTickets (record { all = news; answered = new })
  pub size : length news ≡ length ts
  pub book : ◌≡◌ {A = Tickets} (record { all = news; answered = new }) (answer_all test at given (record { all = ts; answered = old }))

-- it is that where the numbers of those that are due were put behind the answered ones
pub book_answered : (test : Ticket → Bool) (at : ℕ) (given : Answer) (ts news : List Ticket) (old mid ns new : List ℕ) (k : ℕ) → AreTickets (record { all = ts; answered = old })
    → k ≡ length old → mid ≡ old ++ ns → AreAsOften ns (due_numbers test ts)
    → ((t : Ticket → Bool) → AreAsOften (drop k mid) (due_numbers t ts) → (news ≡ map (answered_if t at given) ts) × (new ≡ take k mid ++ due_numbers t ts))
    → IsAnswered test at given ts old news new
book_answered test at given ts news old mid ns new k are place is often answer = record {
  rules = answered_rules test at given ts news old new are tickets numbers;
  size = answered_size test at given ts news tickets;
  book = ap (λ (xs : List Ticket). the xs new) tickets ∙ ap (λ (ms : List ℕ). the (map (answered_if test at given) ts) ms) numbers;
}
  where
    the : List Ticket → List ℕ → Tickets
    the xs ms = record { all = xs; answered = ms }

    answered : (news ≡ map (answered_if test at given) ts) × (new ≡ take k mid ++ due_numbers test ts)
    answered = answer test (λ n. ap (λ ms. count_by (is_same n) ms) (ap (drop k) is ∙ ap (λ i. drop i (old ++ ns)) place ∙ drop-append_seam old ns) ∙ often n)

    tickets : news ≡ map (answered_if test at given) ts
    tickets = answered.0

    numbers : new ≡ old ++ due_numbers test ts
    numbers =
        answered.1
        ∙ ap (λ ms. ms ++ due_numbers test ts) (ap (take k) is ∙ take-append-le k old ns (omega (arith, place)) ∙ take_all k old (omega (arith, place)))

-- ---- the lowest from a number on

-- the first number from one on of the tickets that are due is that of the first ticket that is due and isn't below it
next_due : (test : Ticket → Bool) (from : ℕ) (ts : List Ticket)
    → find (nat_le from) (due_numbers test ts) ≡ lowest (λ (t : Ticket). is_from from t && test t) ts
next_due test from [] = refl
next_due test from (x ∷ ts) =
    ap (find (nat_le from)) (due_cons test x ts) ∙ by (is_open x) (test x) (nat_le from x.number) refl (next_due test from ts)
  where
    both : Ticket → Bool
    both t = is_from from t && test t

    by : (a b c : Bool) → nat_le from x.number ≡ c → find (nat_le from) (due_numbers test ts) ≡ lowest both ts
        → find (nat_le from) (cond (a && b) (x.number ∷ due_numbers test ts) (due_numbers test ts))
        ≡ option_map number_of (cond (a && (c && b)) (Some x) (find (is_due both) ts))
    by true true true e more = ap (λ d. cond d (Some x.number) (find (nat_le from) (due_numbers test ts))) e
    by true true false e more = ap (λ d. cond d (Some x.number) (find (nat_le from) (due_numbers test ts))) e ∙ more
    by true false true e more = more
    by true false false e more = more
    by false b c e more = more

-- so it is at a key of a table
pub table_next : (path : List (List ℕ)) (from : ℕ) (ts : List Ticket) (kept : Option (List ℕ)) → kept ≡ some_list (due_numbers (asks_below path) ts)
    → find (nat_le from) (list_or_empty kept) ≡ lowest (asks_below_from path from) ts
table_next path from ts kept is = ap (find (nat_le from)) (table_numbers (asks_below path) ts kept is) ∙ next_due (asks_below path) from ts

-- from 0 on it is the lowest of all
pub lowest_all : (path : List (List ℕ)) (ts : List Ticket) → lowest (asks_below_from path 0) ts ≡ lowest (asks_below path) ts
lowest_all path ts =
    ap (option_map number_of)
    (find_alike (is_due (asks_below_from path 0)) (is_due (asks_below path)) (λ t. ap (λ b. is_open t && (b && asks_below path t)) (le-leb 0 t.number (omega arith))) ts)
