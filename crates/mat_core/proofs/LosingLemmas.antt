-- Tickets that lose their row, looked at in order of number.
use Rattle.std.proofs.Common.{◌≡◌, ◌<◌, ◌≤◌, ◌+◌, ◌==◌, ℕ, nat_lt, Bool, true, false, not, ◌&&◌, cond, List, [], ◌∷◌, map, find, Contains, Option, Some, None, inl, inr, refl, ◌∙◌, sym, ap, subst, arith}
use Rattle.std.specs.List.{list_all, list_any}
use Rattle.std.specs.Option.{option_map}
use Rattle.std.proofs.lemmas.Bool.{and_from, and_parts, both_ways, eq-eqb, eqb-true, le-leb, le-ltb, lt-ltb, ltb-false, ltb-true, leb-true, ne_eqb}
use Rattle.mat_path.proofs.Elements.{contains_cases, contains_first, contains_map, contains_more}
use Rattle.mat_path.specs.Names.{is_prefix}
use Rattle.mat_model.specs.declared.answers.Answer.TheVariants as answer
use Rattle.mat_model.specs.declared.book.Row.{Row}
use Rattle.mat_model.specs.declared.book.Ticket.{Ticket}
use Rattle.mat_model.specs.Books.{are_ascending, number_of}
use Rattle.mat_model.specs.Rows.{covers}
use Rattle.mat_model.specs.Tickets.{is_open, with_answer}
use Rattle.model_laws.specs.TicketRules.{lost_below}
use Rattle.model_laws.proofs.BelowLemmas.{map_alike}
use Rattle.model_laws.proofs.BooksLists.{contains_any}
use Rattle.model_laws.proofs.Elements.{contains_all, found_contains}
use Rattle.ticket_book.specs.Asked.{answered_if, asks_below, asks_below_from, has_number, is_due, is_earlier, is_from, lowest}
use Rattle.mat_core.specs.Losing.{is_lost_to, lost_at, lost_before}

-- ---- lists

map_same : {A : Type 0} (f : A → A) (xs : List A) → ((x : A) → Contains xs x → f x ≡ x) → map f xs ≡ xs
map_same f [] same = refl
map_same {A} f (x ∷ xs) same =
    ap (λ (y : A). y ∷ map f xs) (same x (contains_first x xs))
    ∙ ap (λ (ys : List A). x ∷ ys) (map_same f xs (λ y among. same y (contains_more x xs y among)))

map_twice : {A : Type 0} (f g : A → A) (xs : List A) → map f (map g xs) ≡ map (λ x. f (g x)) xs
map_twice f g [] = refl
map_twice {A} f g (x ∷ xs) = ap (λ (ys : List A). f (g x) ∷ ys) (map_twice f g xs)

-- ---- tickets in order of number

-- those behind the first have greater numbers
later_number : (first : Ticket) (tickets : List Ticket) (other : Ticket) → list_all (nat_lt first.number) (map number_of tickets) ≡ true →
    Contains tickets other → first.number < other.number
later_number first tickets other all among =
    ltb-true first.number other.number
    (contains_all (nat_lt first.number) (map number_of tickets) other.number all (contains_map number_of tickets other among))

-- none with a lower number than the first that passes a test passes it
not_before : (test : Ticket → Bool) (tickets : List Ticket) (found other : Ticket) → are_ascending (map number_of tickets) ≡ true →
    find test tickets ≡ Some found → Contains tickets other → other.number < found.number → test other ≡ false
not_before test [] found other up is (k, within, at) less = absurd (omega (arith, within))
not_before test (first ∷ tickets) found other up is among less =
    let parts = and_parts (list_all (nat_lt first.number) (map number_of tickets)) (are_ascending (map number_of tickets)) up in
    elim (test first) as (λ b. test first ≡ b → cond b (Some first) (find test tickets) ≡ Some found → test other ≡ false) [
      | true ↦ λ here it.
          let one : first ≡ found = cc in
          let number : first.number ≡ found.number = ap (λ (t : Ticket). t.number) one in
          elim (contains_cases first tickets other among) [
            | inl same ↦ let same_number : first.number ≡ other.number = ap (λ (t : Ticket). t.number) same in absurd (omega (arith, less, number, same_number))
            | inr more ↦ let later = later_number first tickets other parts.0 more in absurd (omega (arith, less, number, later))
          ]
      | false ↦ λ off it.
          elim (contains_cases first tickets other among) [
            | inl same ↦ subst (λ (t : Ticket). test t ≡ false) same off
            | inr more ↦ not_before test tickets found other parts.1 it more less
          ]
    ] refl is

-- and where none passes it, none does
none_due : (test : Ticket → Bool) (tickets : List Ticket) (other : Ticket) → find test tickets ≡ None → Contains tickets other → test other ≡ false
none_due test [] other is (k, within, at) = absurd (omega (arith, within))
none_due test (first ∷ tickets) other is among =
    elim (test first) as (λ b. test first ≡ b → cond b (Some first) (find test tickets) ≡ None → test other ≡ false) [
      | true ↦ λ here it. absurd cc
      | false ↦ λ off it.
          elim (contains_cases first tickets other among) [
            | inl same ↦ subst (λ (t : Ticket). test t ≡ false) same off
            | inr more ↦ none_due test tickets other it more
          ]
    ] refl is

-- what is found passes
found_due : (test : Ticket → Bool) (tickets : List Ticket) (found : Ticket) → find test tickets ≡ Some found → test found ≡ true
found_due test [] found is = absurd cc
found_due test (first ∷ tickets) found is =
    elim (test first) as (λ b. test first ≡ b → cond b (Some first) (find test tickets) ≡ Some found → test found ≡ true) [
      | true ↦ λ here it. let one : first ≡ found = cc in subst (λ (t : Ticket). test t ≡ true) one here
      | false ↦ λ off it. found_due test tickets found it
    ] refl is

-- tickets of one number are one
one_number : (number : ℕ) (tickets : List Ticket) (found other : Ticket) → are_ascending (map number_of tickets) ≡ true →
    find (has_number number) tickets ≡ Some found → Contains tickets other → has_number number other ≡ true → found ≡ other
one_number number [] found other up is (k, within, at) has = absurd (omega (arith, within))
one_number number (first ∷ tickets) found other up is among has =
    let parts = and_parts (list_all (nat_lt first.number) (map number_of tickets)) (are_ascending (map number_of tickets)) up in
    elim (has_number number first) as
    (λ b. has_number number first ≡ b → cond b (Some first) (find (has_number number) tickets) ≡ Some found → found ≡ other) [
      | true ↦ λ here it.
          let one : first ≡ found = cc in
          elim (contains_cases first tickets other among) [
            | inl same ↦ sym one ∙ same
            | inr more ↦
                let later = later_number first tickets other parts.0 more in
                let left = eqb-true first.number number here in
                let right = eqb-true other.number number has in
                absurd (omega (arith, later, left, right))
          ]
      | false ↦ λ off it.
          elim (contains_cases first tickets other among) [
            | inl same ↦ absurd (both_ways (has_number number first) off (subst (λ (t : Ticket). has_number number t ≡ true) (sym same) has))
            | inr more ↦ one_number number tickets found other parts.1 it more has
          ]
    ] refl is

-- the ticket of the lowest number
lowest_found : (test : Ticket → Bool) (tickets : List Ticket) (number : ℕ) → lowest test tickets ≡ Some number →
    (ticket : Ticket) × (find (is_due test) tickets ≡ Some ticket) × (ticket.number ≡ number)
lowest_found test tickets number is = by (find (is_due test) tickets) refl is
  where
    by : (o : Option Ticket) → find (is_due test) tickets ≡ o → option_map number_of o ≡ Some number →
        (ticket : Ticket) × (find (is_due test) tickets ≡ Some ticket) × (ticket.number ≡ number)
    by None found told = absurd cc
    by (Some ticket) found told = let same : ticket.number ≡ number = cc in (ticket, found, same)

lowest_none : (test : Ticket → Bool) (tickets : List Ticket) → lowest test tickets ≡ None → find (is_due test) tickets ≡ None
lowest_none test tickets is = by (find (is_due test) tickets) refl is
  where
    by : (o : Option Ticket) → find (is_due test) tickets ≡ o → option_map number_of o ≡ None → find (is_due test) tickets ≡ None
    by None found told = found
    by (Some ticket) found told = absurd cc

-- a ticket whose number isn't below one is due from it on where it is due
not_due : (top : List (List ℕ)) (from : ℕ) (ticket : Ticket) → is_due (asks_below_from top from) ticket ≡ false → from ≤ ticket.number →
    is_due (asks_below top) ticket ≡ false
not_due top from ticket off least = sym (ap (λ b. is_open ticket && (b && asks_below top ticket)) (le-leb from ticket.number least)) ∙ off

-- the lowest number from one on isn't below it
pub lowest_from : (top : List (List ℕ)) (from : ℕ) (tickets : List Ticket) (number : ℕ) → lowest (asks_below_from top from) tickets ≡ Some number →
    from ≤ number
lowest_from top from tickets number is =
    let (found, there, same) = lowest_found (asks_below_from top from) tickets number is in
    let due = and_parts (is_open found) (asks_below_from top from found) (found_due (is_due (asks_below_from top from)) tickets found there) in
    let parts = and_parts (is_from from found) (asks_below top found) due.1 in
    let more = leb-true from found.number parts.0 in omega (arith, more, same)

-- ---- what is answered

-- a ticket keeps its number
lost_number : (top : List (List ℕ)) (row : Row) (number : ℕ) (ticket : Ticket) → (lost_below top row number ticket).number ≡ ticket.number
lost_number top row number ticket =
    elim ((is_open ticket && is_prefix top ticket.asked) && not (covers ticket.asked row)) as
    (λ b. (cond b (with_answer number answer.Undeclared ticket) ticket).number ≡ ticket.number)
    [ true ↦ refl | false ↦ refl ]

-- and one that isn't open, or asks for a path elsewhere, stays
aside_stays : (top : List (List ℕ)) (row : Row) (number : ℕ) (ticket : Ticket) → is_due (asks_below top) ticket ≡ false →
    lost_below top row number ticket ≡ ticket
aside_stays top row number ticket aside =
    ap (λ b. cond (b && not (covers ticket.asked row)) (with_answer number answer.Undeclared ticket) ticket) aside

-- none has a number below 0
pub lost_start : (top : List (List ℕ)) (row : Row) (number : ℕ) (tickets : List Ticket) → tickets ≡ map (lost_before 0 top row number) tickets
lost_start top row number tickets =
    sym (map_same (lost_before 0 top row number) tickets
    (λ other among. ap (λ b. cond b (lost_below top row number other) other) (le-ltb other.number 0 (omega arith))))

-- the ticket of a number is answered, where it is lost, or isn't
pub lost_one : (top : List (List ℕ)) (row : Row) (number ticket : ℕ) (found : Ticket) (tickets : List Ticket) →
    are_ascending (map number_of tickets) ≡ true → find (has_number ticket) tickets ≡ Some found → is_lost_to top row found.asked ≡ true →
    map (answered_if (has_number ticket) number answer.Undeclared) tickets ≡ map (lost_at ticket top row number) tickets
lost_one top row number ticket found tickets up is lost =
    map_alike (answered_if (has_number ticket) number answer.Undeclared) (lost_at ticket top row number) tickets each
  where
    given : Ticket → Ticket
    given other = with_answer number answer.Undeclared other

    each : (other : Ticket) → Contains tickets other →
        answered_if (has_number ticket) number answer.Undeclared other ≡ lost_at ticket top row number other
    each other among = by (has_number ticket other) (is_open other) refl
      where
        by : (b c : Bool) → has_number ticket other ≡ b →
            cond (c && b) (given other) other
            ≡ cond b (cond ((c && is_prefix top other.asked) && not (covers other.asked row)) (given other) other) other
        by true true here =
            let same = one_number ticket tickets found other up is among here in
            sym (ap (λ d. cond d (given other) other) (subst (λ (t : Ticket). is_lost_to top row t.asked ≡ true) same lost))
        by true false here = refl
        by false true off = refl
        by false false off = refl

pub lost_not : (top : List (List ℕ)) (row : Row) (number ticket : ℕ) (found : Ticket) (tickets : List Ticket) →
    are_ascending (map number_of tickets) ≡ true → find (has_number ticket) tickets ≡ Some found → is_lost_to top row found.asked ≡ false →
    tickets ≡ map (lost_at ticket top row number) tickets
lost_not top row number ticket found tickets up is kept = sym (map_same (lost_at ticket top row number) tickets each)
  where
    given : Ticket → Ticket
    given other = with_answer number answer.Undeclared other

    each : (other : Ticket) → Contains tickets other → lost_at ticket top row number other ≡ other
    each other among = by (has_number ticket other) (is_open other) refl
      where
        by : (b c : Bool) → has_number ticket other ≡ b →
            cond b (cond ((c && is_prefix top other.asked) && not (covers other.asked row)) (given other) other) other ≡ other
        by true true here =
            let same = one_number ticket tickets found other up is among here in
            ap (λ d. cond d (given other) other) (subst (λ (t : Ticket). is_lost_to top row t.asked ≡ false) same kept)
        by true false here = refl
        by false c off = refl

-- where no ticket has a number, nothing is answered
pub lost_absent : (top : List (List ℕ)) (row : Row) (number ticket : ℕ) (tickets : List Ticket) → find (has_number ticket) tickets ≡ None →
    tickets ≡ map (lost_at ticket top row number) tickets
lost_absent top row number ticket tickets is =
    sym (map_same (lost_at ticket top row number) tickets
    (λ other among. ap (λ b. cond b (lost_below top row number other) other) (none_due (has_number ticket) tickets other is among)))

-- the ticket at or below a path with the lowest number from one on is answered, and then those before the next number are
pub lost_step : (top : List (List ℕ)) (row : Row) (number from ticket : ℕ) (old now new : List Ticket) → are_ascending (map number_of now) ≡ true →
    now ≡ map (lost_before from top row number) old → lowest (asks_below_from top from) now ≡ Some ticket → new ≡ map (lost_at ticket top row number) now →
    new ≡ map (lost_before (ticket + 1) top row number) old
lost_step top row number from ticket old now new up so is then_new =
    then_new ∙ ap (map (lost_at ticket top row number)) so ∙ map_twice (lost_at ticket top row number) (lost_before from top row number) old
    ∙ map_alike (λ t. lost_at ticket top row number (lost_before from top row number t)) (lost_before (ticket + 1) top row number) old each
  where
    lost : Ticket → Ticket
    lost other = lost_below top row number other

    least : from ≤ ticket
    least = lowest_from top from now ticket is

    each : (other : Ticket) → Contains old other →
        lost_at ticket top row number (lost_before from top row number other) ≡ lost_before (ticket + 1) top row number other
    each other among = by (nat_lt other.number from) refl
      where
        there : nat_lt other.number from ≡ false → Contains now other
        there late =
            subst (λ (ts : List Ticket). Contains ts other) (sym so)
            (subst (λ (t : Ticket). Contains (map (lost_before from top row number) old) t)
            (ap (λ b. cond b (lost other) other) late)
            (contains_map (lost_before from top row number) old other among))

        before : nat_lt other.number from ≡ false → other.number < ticket → lost other ≡ other
        before late less =
            let (found, here, same) = lowest_found (asks_below_from top from) now ticket is in
            let off = not_before (is_due (asks_below_from top from)) now found other up here (there late) (omega (arith, less, same)) in
            aside_stays top row number other (not_due top from other off (ltb-false other.number from late))

        by_next : (b c : Bool) → nat_lt other.number from ≡ false → (other.number == ticket) ≡ b → nat_lt other.number (ticket + 1) ≡ c →
            cond b (lost other) other ≡ cond c (lost other) other
        by_next true true late here early = refl
        by_next false false late off past = refl
        by_next true false late here past =
            let same = eqb-true other.number ticket here in
            let more = ltb-false other.number (ticket + 1) past in absurd (omega (arith, same, more))
        by_next false true late off early =
            let less = ltb-true other.number (ticket + 1) early in
            sym (elim (nat_lt other.number ticket) as (λ b. nat_lt other.number ticket ≡ b → lost other ≡ other) [
              | true ↦ λ so_less. before late (ltb-true other.number ticket so_less)
              | false ↦ λ so_more.
                  let more = ltb-false other.number ticket so_more in
                  absurd (both_ways (other.number == ticket) off (same_number (omega (arith, less, more))))
            ] refl)
          where
            same_number : other.number ≡ ticket → (other.number == ticket) ≡ true
            same_number same = subst (λ (n : ℕ). (other.number == n) ≡ true) same (self other.number)
              where
                self : (n : ℕ) → (n == n) ≡ true
                self n = eq-eqb n n refl

        by : (b : Bool) → nat_lt other.number from ≡ b →
            lost_at ticket top row number (cond b (lost other) other) ≡ lost_before (ticket + 1) top row number other
        by true early =
            let less = ltb-true other.number from early in
            let number_same : (lost other).number ≡ other.number = lost_number top row number other in
            ap (λ c. cond c (lost_below top row number (lost other)) (lost other))
            (ne_eqb (lost other).number ticket (λ same. omega (arith, same, number_same, less, least)))
            ∙ sym (ap (λ c. cond c (lost other) other) (lt-ltb other.number (ticket + 1) (omega (arith, less, least))))
        by false late = by_next (other.number == ticket) (nat_lt other.number (ticket + 1)) late refl refl

-- where none is open at or below the path from a number on, all were answered that are lost
pub lost_end : (top : List (List ℕ)) (row : Row) (number from : ℕ) (old now : List Ticket) → now ≡ map (lost_before from top row number) old →
    lowest (asks_below_from top from) now ≡ None → now ≡ map (lost_below top row number) old
lost_end top row number from old now so is =
    so ∙ map_alike (lost_before from top row number) (lost_below top row number) old each
  where
    each : (other : Ticket) → Contains old other → lost_before from top row number other ≡ lost_below top row number other
    each other among = by (nat_lt other.number from) refl
      where
        by : (b : Bool) → nat_lt other.number from ≡ b → cond b (lost_below top row number other) other ≡ lost_below top row number other
        by true early = refl
        by false late =
            let there : Contains now other =
            subst (λ (ts : List Ticket). Contains ts other) (sym so)
            (subst (λ (t : Ticket). Contains (map (lost_before from top row number) old) t)
            (ap (λ c. cond c (lost_below top row number other) other) late)
            (contains_map (lost_before from top row number) old other among)) in
            let off = none_due (is_due (asks_below_from top from)) now other (lowest_none (asks_below_from top from) now is) there in
            sym (aside_stays top row number other (not_due top from other off (ltb-false other.number from late)))

-- ---- numbers

-- the lowest number is that of a ticket that is due
pub lowest_due : (test : Ticket → Bool) (tickets : List Ticket) (number : ℕ) → lowest test tickets ≡ Some number →
    list_any (is_due (has_number number)) tickets ≡ true
lowest_due test tickets number is =
    let (found, there, same) = lowest_found test tickets number is in
    contains_any (is_due (has_number number)) tickets found (found_contains (is_due test) tickets found there)
    (and_from (is_open found) (has_number number found) (and_parts (is_open found) (test found) (found_due (is_due test) tickets found there)).0
    (eq-eqb found.number number same))

-- it is below a number that all are below
pub lowest_earlier : (test : Ticket → Bool) (tickets : List Ticket) (number next : ℕ) → list_all (is_earlier next) tickets ≡ true →
    lowest test tickets ≡ Some number → number < next
lowest_earlier test tickets number next all is =
    let (found, there, same) = lowest_found test tickets number is in
    let less = ltb-true found.number next (contains_all (is_earlier next) tickets found all (found_contains (is_due test) tickets found there)) in
    omega (arith, less, same)

-- answers leave the numbers
pub earlier_lost : (next ticket : ℕ) (top : List (List ℕ)) (row : Row) (number : ℕ) (tickets : List Ticket) → list_all (is_earlier next) tickets ≡ true →
    list_all (is_earlier next) (map (lost_at ticket top row number) tickets) ≡ true
earlier_lost next ticket top row number [] all = refl
earlier_lost next ticket top row number (first ∷ tickets) all =
    let parts = and_parts (is_earlier next first) (list_all (is_earlier next) tickets) all in
    and_from (is_earlier next (lost_at ticket top row number first)) (list_all (is_earlier next) (map (lost_at ticket top row number) tickets))
    (by (has_number ticket first) parts.0) (earlier_lost next ticket top row number tickets parts.1)
  where
    by : (b : Bool) → is_earlier next first ≡ true → is_earlier next (cond b (lost_below top row number first) first) ≡ true
    by true early = ap (λ n. nat_lt n next) (lost_number top row number first) ∙ early
    by false early = early
