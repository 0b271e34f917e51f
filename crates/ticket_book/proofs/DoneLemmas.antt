-- Tickets that are answered stay as they are, and are never due.
use Rattle.std.proofs.Common.{◌≡◌, ℕ, Bool, true, false, not, ◌&&◌, cond, List, [], ◌∷◌, ◌++◌, map, take, drop, length, length-append, refl, ◌∙◌, sym, ap, arith, Option, Some, None}
use Rattle.std.proofs.lemmas.Bool.{and_parts}
use Rattle.std.proofs.lemmas.List.{length-map, length-take, map-append, take-append-drop, take-append-le, take_all}
use Rattle.std.proofs.lemmas.List.Folds.{find-append}
use Rattle.std.specs.List.{find, list_all}
use Rattle.std.specs.Option.{option_map, option_or}
use Rattle.mat_model.specs.Books.{number_of}
use Rattle.mat_model.specs.declared.answers.Answer.{Answer}
use Rattle.mat_model.specs.declared.book.Ticket.{Ticket}
use Rattle.mat_model.specs.Tickets.{is_open, with_answer}
use Rattle.ticket_book.specs.Asked.{answered_if, is_due, lowest}
use Rattle.ticket_book.specs.Done.{IsDone, is_shut}

-- ---- answered tickets

shut_not_due : (test : Ticket → Bool) (t : Ticket) → is_shut t ≡ true → is_due test t ≡ false
shut_not_due test t shut = by (is_open t) shut
  where
    by : (b : Bool) → not b ≡ true → (b && test t) ≡ false
    by true e = cc
    by false e = refl

map_shut : (test : Ticket → Bool) (at : ℕ) (given : Answer) (ts : List Ticket) → list_all is_shut ts ≡ true → map (answered_if test at given) ts ≡ ts
map_shut test at given [] all = refl
map_shut test at given (x ∷ ts) all =
    let parts = and_parts (is_shut x) (list_all is_shut ts) all in
    ap (λ (b : Bool). cond b (with_answer at given x) x ∷ map (answered_if test at given) ts) (shut_not_due test x parts.0)
    ∙ ap (λ (xs : List Ticket). x ∷ xs) (map_shut test at given ts parts.1)

find_shut : (test : Ticket → Bool) (ts : List Ticket) → list_all is_shut ts ≡ true → find (is_due test) ts ≡ None
find_shut test [] all = refl
find_shut test (x ∷ ts) all =
    let parts = and_parts (is_shut x) (list_all is_shut ts) all in
    ap (λ (b : Bool). cond b (Some x) (find (is_due test) ts)) (shut_not_due test x parts.0) ∙ find_shut test ts parts.1

-- ---- those from a place on, before which none is open

pub find_rest : (test : Ticket → Bool) (ts : List Ticket) (d : ℕ) → IsDone d ts → find (is_due test) (drop d ts) ≡ find (is_due test) ts
find_rest test ts d done =
    ap (λ (o : Option Ticket). option_or o (find (is_due test) (drop d ts))) (sym (find_shut test (take d ts) done.1))
    ∙ sym (find-append (is_due test) (take d ts) (drop d ts))
    ∙ ap (find (is_due test)) (take-append-drop d ts)

pub lowest_rest : (test : Ticket → Bool) (ts rest : List Ticket) (d : ℕ) → IsDone d ts → rest ≡ drop d ts → lowest test rest ≡ lowest test ts
lowest_rest test ts rest d done is = ap (lowest test) is ∙ ap (option_map number_of) (find_rest test ts d done)

-- ---- the place

-- it stays good where some are answered
pub done_answered : (test : Ticket → Bool) (at : ℕ) (given : Answer) (ts news : List Ticket) (d : ℕ) → IsDone d ts → news ≡ map (answered_if test at given) ts → IsDone d news
done_answered test at given ts news d done is =
    let size = ap (λ (xs : List Ticket). length xs) is ∙ length-map ts (answered_if test at given) in
    let within = done.0 in
    (omega (arith, size, within), ap (λ (xs : List Ticket). list_all is_shut (take d xs)) (is ∙ whole) ∙ ap (list_all is_shut) front ∙ done.1)
  where
    whole : map (answered_if test at given) ts ≡ take d ts ++ map (answered_if test at given) (drop d ts)
    whole =
        ap (map (answered_if test at given)) (sym (take-append-drop d ts))
        ∙ map-append (answered_if test at given) (take d ts) (drop d ts)
        ∙ ap (λ (xs : List Ticket). xs ++ map (answered_if test at given) (drop d ts)) (map_shut test at given (take d ts) done.1)

    front : take d (take d ts ++ map (answered_if test at given) (drop d ts)) ≡ take d ts
    front =
        take-append-le d (take d ts) (map (answered_if test at given) (drop d ts)) (omega (arith, length-take d ts, done.0)) ∙ take_all d (take d ts) (omega (arith, length-take d ts, done.0))

-- and where one comes
pub done_asked : (ts news : List Ticket) (t : Ticket) (d : ℕ) → IsDone d ts → news ≡ ts ++ t ∷ [] → IsDone d news
done_asked ts news t d done is =
    let size = ap (λ (xs : List Ticket). length xs) is ∙ length-append ts (t ∷ []) in
    let within = done.0 in
    (omega (arith, size, within), ap (λ (xs : List Ticket). list_all is_shut (take d xs)) is ∙ ap (list_all is_shut) (take-append-le d ts (t ∷ []) done.0) ∙ done.1)

-- ---- one after the other
