-- In a book that keeps its rules, the tickets on a row are those that ask for a path at or below it.
use Rattle.mat_path.proofs.Bools.{or_second}
use Rattle.mat_path.proofs.Elements.{contains_cases, contains_filter, contains_first, contains_more, filtered_contains, each_fails}
use Rattle.mat_path.proofs.Overlaps.{overlap_cases, overlap_of_prefixes}
use Rattle.mat_path.proofs.PathLemmas.{overlap_comm, prefix-trans}
use Rattle.std.proofs.Common.{◌≡◌, ℕ, Bool, true, false, not, ◌||◌, ◌&&◌, ◌⊎◌, List, [], ◌∷◌, length, drop, Some, None, cond, inl, inr, refl, sym, ap, ap₂, subst, ◌∙◌, map, Contains, find, arith}
use Rattle.std.specs.List.{filter, list_any}
use Rattle.std.specs.Option.{option_map_or}
use Rattle.std.proofs.lemmas.Bool.{and_parts, both_ways, false_from_ne_true}
use Rattle.mat_path.specs.Names.{is_prefix, overlap}
use Rattle.mat_tree.specs.Trees.{has_node}
use Rattle.mat_model.specs.declared.answers.Answer.{Answer}
use Rattle.mat_model.specs.declared.answers.Answer.TheVariants as answer
use Rattle.mat_model.specs.declared.book.Book.{Book}
use Rattle.mat_model.specs.declared.book.Row.{Row}
use Rattle.mat_model.specs.declared.book.Ticket.{Ticket}
use Rattle.mat_model.specs.Books.{IsBook}
use Rattle.mat_model.specs.Cleaning.{is_held, is_not_stale, is_stale}
use Rattle.mat_model.specs.Openings.{path_of_row}
use Rattle.mat_model.specs.Rows.{covers, is_clear_of, overlaps_row, put_row}
use Rattle.mat_model.specs.Tickets.{answered_by, answered_by_any, is_lost, is_open, left_ticket, waits_for, waits_for_any, with_answer}
use Rattle.mat_model.specs.Work.{with_answers}
use Rattle.model_laws.specs.TicketRules.{answered_below, answered_below_any, asks_below, asks_below_any, is_row_above, lost_below, top_of}
use Rattle.model_laws.proofs.BooksKept.{ticket_waits}
use Rattle.model_laws.proofs.BooksLists.{any_contains, contains_any}
use Rattle.model_laws.proofs.BooksRows.{apart_same, put_row_cases}
use Rattle.model_laws.proofs.Elements.{found_contains, found_passes}
use Rattle.model_laws.proofs.PutRows.{contains_new, contains_put}

-- two tests that follow from one another are the same
pub same_test : (a b : Bool) → (a ≡ true → b ≡ true) → (b ≡ true → a ≡ true) → a ≡ b
same_test true b up down = sym (up refl)
same_test false true up down = down refl
same_test false false up down = refl

-- where two tests are the same of each element they are the same of some element, and two functions that are the same of each map alike
pub any_alike : {A : Type 0} (p q : A → Bool) (xs : List A) → ((x : A) → Contains xs x → p x ≡ q x) → list_any p xs ≡ list_any q xs
any_alike p q [] alike = refl
any_alike {A = A} p q (x ∷ xs) alike =
    ap₂ (λ (a b : Bool). a || b) (alike x (contains_first x xs)) (any_alike p q xs (λ y among. alike y (contains_more x xs y among)))

pub map_alike : {A B : Type 0} (f g : A → B) (xs : List A) → ((x : A) → Contains xs x → f x ≡ g x) → map f xs ≡ map g xs
map_alike f g [] alike = refl
map_alike {A = A} {B = B} f g (x ∷ xs) alike =
    ap₂ (λ (y : B) (ys : List B). y ∷ ys) (alike x (contains_first x xs)) (map_alike f g xs (λ y among. alike y (contains_more x xs y among)))

-- a ticket that is answered by one of two tests, where these are the same
pub answered_alike : (number : ℕ) (given : Answer) (ticket : Ticket) (a b : Bool) → a ≡ b →
    cond a (with_answer number given ticket) ticket ≡ cond b (with_answer number given ticket) ticket
answered_alike number given ticket a b same = ap (λ (c : Bool). cond c (with_answer number given ticket) ticket) same

-- two tests of an open ticket
pub if_open : (ticket : Ticket) (a b : Bool) → (is_open ticket ≡ true → a ≡ b) → (is_open ticket && a) ≡ (is_open ticket && b)
if_open ticket a b same =
    elim (is_open ticket) as (λ o. (o ≡ true → a ≡ b) → (o && a) ≡ (o && b)) [ true ↦ λ lies. lies refl | false ↦ λ lies. refl ] same

-- a row at or above what an open ticket asks for covers it
pub above_covers : (next : ℕ) (book : Book) (ticket : Ticket) (row : Row) → IsBook next book → Contains book.tickets ticket → is_open ticket ≡ true →
    Contains book.rows row → covers ticket.asked row ≡ is_prefix row.path ticket.asked
above_covers next book ticket row rules asking lies among =
    let (over, found, unmade, same) = ticket_waits next book ticket rules asking lies in
    let covering : covers ticket.asked over ≡ true = found_passes (covers ticket.asked) book.rows over found in
    same_test (covers ticket.asked row) (is_prefix row.path ticket.asked)
    (λ does. (and_parts (is_prefix row.path ticket.asked) (has_node row.tree (drop (length row.path) ticket.asked)) does).0)
    (λ above.
    let one : row ≡ over =
    apart_same book.rows row over rules.apart among (found_contains (covers ticket.asked) book.rows over found)
    (overlap_of_prefixes row.path over.path ticket.asked above
    (and_parts (is_prefix over.path ticket.asked) (has_node over.tree (drop (length over.path) ticket.asked)) covering).0) in
    subst (λ (r : Row). covers ticket.asked r ≡ true) (sym one) covering)

-- the tickets on a row are those that ask at or below it
waits_below : (next : ℕ) (book : Book) (ticket : Ticket) (row : Row) → IsBook next book → Contains book.tickets ticket → Contains book.rows row →
    waits_for row ticket ≡ asks_below row.path ticket
waits_below next book ticket row rules asking among =
    if_open ticket (covers ticket.asked row) (is_prefix row.path ticket.asked)
    (λ lies. above_covers next book ticket row rules asking lies among)

pub row_answers : (next number : ℕ) (given : Answer) (book : Book) (row : Row) → IsBook next book → Contains book.rows row →
    map (answered_by row number given) book.tickets ≡ map (answered_below row.path number given) book.tickets
row_answers next number given book row rules among =
    map_alike (answered_by row number given) (answered_below row.path number given) book.tickets
    (λ ticket asking. answered_alike number given ticket (waits_for row ticket) (asks_below row.path ticket)
    (waits_below next book ticket row rules asking among))

-- the tickets on some rows of the book are those that ask at or below one of them
some_cover : (next : ℕ) (book : Book) (ticket : Ticket) (some : List Row) → IsBook next book → Contains book.tickets ticket → is_open ticket ≡ true →
    ((row : Row) → Contains some row → Contains book.rows row) →
    list_any (covers ticket.asked) some ≡ list_any (is_row_above ticket.asked) some
some_cover next book ticket some rules asking lies within =
    any_alike (covers ticket.asked) (is_row_above ticket.asked) some
    (λ row among. above_covers next book ticket row rules asking lies (within row among))

pub rows_answer : (next number : ℕ) (given : Answer) (book : Book) (some : List Row) → IsBook next book →
    ((row : Row) → Contains some row → Contains book.rows row) →
    with_answers some number given book ≡ record book { tickets = map (answered_below_any some number given) book.tickets }
rows_answer next number given book some rules within =
    ap (λ (tickets : List Ticket). record book { tickets = tickets })
    (map_alike (answered_by_any some number given) (answered_below_any some number given) book.tickets
    (λ ticket asking. answered_alike number given ticket (waits_for_any some ticket) (asks_below_any some ticket)
    (if_open ticket (list_any (covers ticket.asked) some) (list_any (is_row_above ticket.asked) some)
    (λ lies. some_cover next book ticket some rules asking lies within))))

-- of the rows that overlap a path one is at or above what an open ticket asks for exactly where that is at or below the top of them
below_top : (next : ℕ) (book : Book) (path : List (List ℕ)) (ticket : Ticket) → IsBook next book → Contains book.tickets ticket → is_open ticket ≡ true →
    list_any (is_row_above ticket.asked) (filter (overlaps_row path) book.rows) ≡ is_prefix (top_of book.rows path) ticket.asked
below_top next book path ticket rules asking lies =
    elim (find (is_row_above path) book.rows) as
    (λ o. find (is_row_above path) book.rows ≡ o →
    list_any (is_row_above ticket.asked) (filter (overlaps_row path) book.rows) ≡ is_prefix (option_map_or path_of_row o path) ticket.asked) [
      | None ↦ λ none.
          same_test (list_any (is_row_above ticket.asked) (filter (overlaps_row path) book.rows)) (is_prefix path ticket.asked)
          (λ some.
          let (row, among, above) = any_contains (is_row_above ticket.asked) (filter (overlaps_row path) book.rows) some in
          let (within, meets) = filtered_contains (overlaps_row path) book.rows row among in
          let lower : is_prefix path row.path ≡ true =
          or_second (is_prefix row.path path) (is_prefix path row.path) (unfound (is_row_above path) book.rows row none within) meets in
          prefix-trans path row.path ticket.asked lower above)
          (λ below.
          let (over, found, unmade, same) = ticket_waits next book ticket rules asking lies in
          let above : is_prefix over.path ticket.asked ≡ true =
          (and_parts (is_prefix over.path ticket.asked) (has_node over.tree (drop (length over.path) ticket.asked))
          (found_passes (covers ticket.asked) book.rows over found)).0 in
          contains_any (is_row_above ticket.asked) (filter (overlaps_row path) book.rows) over
          (contains_filter (overlaps_row path) book.rows over (overlap_of_prefixes over.path path ticket.asked above below)
          (found_contains (covers ticket.asked) book.rows over found)) above)
      | Some top ↦ λ found.
          let higher : is_prefix top.path path ≡ true = found_passes (is_row_above path) book.rows top found in
          let among : Contains book.rows top = found_contains (is_row_above path) book.rows top found in
          same_test (list_any (is_row_above ticket.asked) (filter (overlaps_row path) book.rows)) (is_prefix top.path ticket.asked)
          (λ some.
          let (row, also, above) = any_contains (is_row_above ticket.asked) (filter (overlaps_row path) book.rows) some in
          let (within, meets) = filtered_contains (overlaps_row path) book.rows row also in
          subst (λ (r : Row). is_prefix r.path ticket.asked ≡ true)
          (apart_same book.rows row top rules.apart within among (top_meets row top higher (overlap_cases row.path path meets))) above)
          (λ below.
          contains_any (is_row_above ticket.asked) (filter (overlaps_row path) book.rows) top
          (contains_filter (overlaps_row path) book.rows top
          (ap (λ (b : Bool). b || is_prefix path top.path) higher) among) below)
    ] refl
  where
    top_meets : (row top : Row) → is_prefix top.path path ≡ true → (is_prefix row.path path ≡ true) ⊎ (is_prefix path row.path ≡ true) →
        overlap row.path top.path ≡ true
    top_meets row top higher (inl above) = overlap_of_prefixes row.path top.path path above higher
    top_meets row top higher (inr below) =
        overlap_comm row.path top.path ∙ ap (λ (b : Bool). b || is_prefix row.path top.path) (prefix-trans top.path path row.path higher below)

    unfound : {A : Type 0} (p : A → Bool) (xs : List A) (x : A) → find p xs ≡ None → Contains xs x → p x ≡ false
    unfound p [] x none (k, within, at) = absurd (omega arith)
    unfound {A = A} p (y ∷ xs) x none among =
        elim (p y) as (λ b. p y ≡ b → cond b (Some y) (find p xs) ≡ None → p x ≡ false) [
          | true ↦ λ here is. absurd cc
          | false ↦ λ off is.
              elim (contains_cases y xs x among) [ inl same ↦ subst (λ (z : A). p z ≡ false) same off | inr more ↦ unfound p xs x is more ]
        ] refl none

-- the rows that overlap a path answer the tickets that ask at or below the top of them
pub overlapping_answer : (next number : ℕ) (given : Answer) (book : Book) (path : List (List ℕ)) → IsBook next book →
    with_answers (filter (overlaps_row path) book.rows) number given book
    ≡ record book { tickets = map (answered_below (top_of book.rows path) number given) book.tickets }
overlapping_answer next number given book path rules =
    rows_answer next number given book (filter (overlaps_row path) book.rows) rules
    (λ row among. (filtered_contains (overlaps_row path) book.rows row among).0)
    ∙ ap (λ (tickets : List Ticket). record book { tickets = tickets })
    (map_alike (answered_below_any (filter (overlaps_row path) book.rows) number given) (answered_below (top_of book.rows path) number given) book.tickets
    (λ ticket asking. answered_alike number given ticket (asks_below_any (filter (overlaps_row path) book.rows) ticket)
    (asks_below (top_of book.rows path) ticket)
    (if_open ticket _ _ (λ lies. below_top next book path ticket rules asking lies))))

-- where no row is at or above a path, an open ticket that overlaps it asks at or below it
pub bare_below : (next : ℕ) (book : Book) (path : List (List ℕ)) (ticket : Ticket) → IsBook next book → Contains book.tickets ticket →
    is_open ticket ≡ true → list_any (is_row_above path) book.rows ≡ false → overlap ticket.asked path ≡ is_prefix path ticket.asked
bare_below next book path ticket rules asking lies bare =
    let (over, found, unmade, same) = ticket_waits next book ticket rules asking lies in
    let above : is_prefix over.path ticket.asked ≡ true =
    (and_parts (is_prefix over.path ticket.asked) (has_node over.tree (drop (length over.path) ticket.asked))
    (found_passes (covers ticket.asked) book.rows over found)).0 in
    let off : is_prefix ticket.asked path ≡ false =
    false_from_ne_true (is_prefix ticket.asked path)
    (λ higher. both_ways (is_prefix over.path path)
    (each_fails (is_row_above path) book.rows over bare (found_contains (covers ticket.asked) book.rows over found))
    (prefix-trans over.path ticket.asked path above higher)) in
    ap (λ (b : Bool). b || is_prefix path ticket.asked) off

-- what an open ticket asks for is covered by a row that is removed, or by one that is left, and not by both
lost_alike : (next : ℕ) (book : Book) (gone left : Row → Bool) (ticket : Ticket) → IsBook next book → ((row : Row) → left row ≡ not (gone row)) →
    Contains book.tickets ticket → is_open ticket ≡ true →
    list_any (covers ticket.asked) (filter left book.rows) ≡ not (list_any (covers ticket.asked) (filter gone book.rows))
lost_alike next book gone left ticket rules opposite asking lies =
    let (over, found, unmade, same) = ticket_waits next book ticket rules asking lies in
    let among : Contains book.rows over = found_contains (covers ticket.asked) book.rows over found in
    let covering : covers ticket.asked over ≡ true = found_passes (covers ticket.asked) book.rows over found in
    elim (gone over) as
    (λ b. gone over ≡ b →
    list_any (covers ticket.asked) (filter left book.rows) ≡ not (list_any (covers ticket.asked) (filter gone book.rows))) [
      | true ↦ λ is.
          let has : list_any (covers ticket.asked) (filter gone book.rows) ≡ true =
          contains_any (covers ticket.asked) (filter gone book.rows) over (contains_filter gone book.rows over is among) covering in
          let none : list_any (covers ticket.asked) (filter left book.rows) ≡ false =
          false_from_ne_true (list_any (covers ticket.asked) (filter left book.rows)) (λ some.
          let (row, also, too) = any_contains (covers ticket.asked) (filter left book.rows) some in
          let (within, stays) = filtered_contains left book.rows row also in
          let still : left over ≡ true = subst (λ (r : Row). left r ≡ true) (same row within too) stays in
          both_ways (left over) (opposite over ∙ ap not is) still) in
          none ∙ sym (ap not has)
      | false ↦ λ is.
          let has : list_any (covers ticket.asked) (filter left book.rows) ≡ true =
          contains_any (covers ticket.asked) (filter left book.rows) over (contains_filter left book.rows over (opposite over ∙ ap not is) among) covering in
          let none : list_any (covers ticket.asked) (filter gone book.rows) ≡ false =
          false_from_ne_true (list_any (covers ticket.asked) (filter gone book.rows)) (λ some.
          let (row, also, too) = any_contains (covers ticket.asked) (filter gone book.rows) some in
          let (within, goes) = filtered_contains gone book.rows row also in
          both_ways (gone over) is (subst (λ (r : Row). gone r ≡ true) (same row within too) goes)) in
          has ∙ sym (ap not none)
    ] refl

-- a ticket is lost exactly where a removed row covers what it asks for
lost_is_gone : (a b : Bool) → b ≡ not a → (a && not b) ≡ a
lost_is_gone true b is = ap not is
lost_is_gone false b is = refl

-- three tests of which the first two are one
first_two : (o a b : Bool) → ((o && a) && b) ≡ (o && (a && b))
first_two true a b = refl
first_two false a b = refl

-- the rows that are removed answer the tickets that ask at or below one of them
pub removed_answer : (next number : ℕ) (book : Book) (gone left : Row → Bool) → IsBook next book → ((row : Row) → left row ≡ not (gone row)) →
    map (left_ticket number (filter gone book.rows) (filter left book.rows)) book.tickets
    ≡ map (answered_below_any (filter gone book.rows) number answer.Undeclared) book.tickets
removed_answer next number book gone left rules opposite =
    map_alike (left_ticket number (filter gone book.rows) (filter left book.rows))
    (answered_below_any (filter gone book.rows) number answer.Undeclared) book.tickets
    (λ ticket asking. answered_alike number answer.Undeclared ticket (is_lost (filter gone book.rows) (filter left book.rows) ticket)
    (asks_below_any (filter gone book.rows) ticket)
    (first_two (is_open ticket) (list_any (covers ticket.asked) (filter gone book.rows)) (not (list_any (covers ticket.asked) (filter left book.rows)))
    ∙ if_open ticket _ _ (λ lies.
    lost_is_gone (list_any (covers ticket.asked) (filter gone book.rows)) (list_any (covers ticket.asked) (filter left book.rows))
    (lost_alike next book gone left ticket rules opposite asking lies)
    ∙ some_cover next book ticket (filter gone book.rows) rules asking lies (λ row among. (filtered_contains gone book.rows row among).0))))

-- the rows that overlap a path and are removed answer the tickets that ask at or below the top of them
pub invalid_answer : (next number : ℕ) (book : Book) (path : List (List ℕ)) → IsBook next book →
    map (left_ticket number (filter (overlaps_row path) book.rows) (filter (is_clear_of path) book.rows)) book.tickets
    ≡ map (answered_below (top_of book.rows path) number answer.Undeclared) book.tickets
invalid_answer next number book path rules =
    removed_answer next number book (overlaps_row path) (is_clear_of path) rules (λ row. refl)
    ∙ map_alike (answered_below_any (filter (overlaps_row path) book.rows) number answer.Undeclared)
    (answered_below (top_of book.rows path) number answer.Undeclared) book.tickets
    (λ ticket asking. answered_alike number answer.Undeclared ticket (asks_below_any (filter (overlaps_row path) book.rows) ticket)
    (asks_below (top_of book.rows path) ticket) (if_open ticket _ _ (λ lies. below_top next book path ticket rules asking lies)))

-- a row that is put covers a path, or one of the others does
covers_put : (path : List (List ℕ)) (new : Row) (rows : List Row) →
    list_any (covers path) (put_row new rows) ≡ (covers path new || list_any (covers path) rows)
covers_put path new rows =
    same_test (list_any (covers path) (put_row new rows)) (covers path new || list_any (covers path) rows)
    (λ some.
    let (row, among, does) = any_contains (covers path) (put_row new rows) some in
    elim (put_row_cases new rows row among) [
      | inl same ↦ ap (λ (b : Bool). b || list_any (covers path) rows) (subst (λ (r : Row). covers path r ≡ true) (sym same) does)
      | inr more ↦ or_last (covers path new) (list_any (covers path) rows) (contains_any (covers path) rows row more does)
    ])
    (λ one.
    elim (covers path new) as
    (λ b. covers path new ≡ b → (b || list_any (covers path) rows) ≡ true → list_any (covers path) (put_row new rows) ≡ true) [
      | true ↦ λ does is. contains_any (covers path) (put_row new rows) new (contains_new new rows) does
      | false ↦ λ off is.
          let (row, among, does) = any_contains (covers path) rows is in
          contains_any (covers path) (put_row new rows) row (contains_put new rows row among) does
    ] refl one)
  where
    or_last : (a b : Bool) → b ≡ true → (a || b) ≡ true
    or_last true b is = refl
    or_last false b is = is

-- a row that is put in the place of those that overlap its path answers the tickets that ask at or below the top of them, unless it covers what they ask for
pub replaced_answer : (next number : ℕ) (book : Book) (path : List (List ℕ)) (new : Row) → IsBook next book →
    map (left_ticket number (filter (overlaps_row path) book.rows) (put_row new (filter (is_clear_of path) book.rows))) book.tickets
    ≡ map (lost_below (top_of book.rows path) new number) book.tickets
replaced_answer next number book path new rules =
    map_alike (left_ticket number removed (put_row new left)) (lost_below (top_of book.rows path) new number) book.tickets
    (λ ticket asking. answered_alike number answer.Undeclared ticket (is_lost removed (put_row new left) ticket)
    (asks_below (top_of book.rows path) ticket && not (covers ticket.asked new))
    (first_two (is_open ticket) (list_any (covers ticket.asked) removed) (not (list_any (covers ticket.asked) (put_row new left)))
    ∙ if_open ticket _ _ (λ lies.
    ap (λ (b : Bool). list_any (covers ticket.asked) removed && not b) (covers_put ticket.asked new left)
    ∙ without (list_any (covers ticket.asked) removed) (covers ticket.asked new) (list_any (covers ticket.asked) left)
    (lost_alike next book (overlaps_row path) (is_clear_of path) ticket rules (λ row. refl) asking lies)
    ∙ ap (λ (b : Bool). b && not (covers ticket.asked new))
    (some_cover next book ticket removed rules asking lies (λ row among. (filtered_contains (overlaps_row path) book.rows row among).0)
    ∙ below_top next book path ticket rules asking lies))
    ∙ sym (first_two (is_open ticket) (is_prefix (top_of book.rows path) ticket.asked) (not (covers ticket.asked new)))))
  where
    removed : List Row
    removed = filter (overlaps_row path) book.rows

    left : List Row
    left = filter (is_clear_of path) book.rows

    without : (a c b : Bool) → b ≡ not a → (a && not (c || b)) ≡ (a && not c)
    without false c b is = refl
    without true true b is = refl
    without true false b is = ap not is

-- a clean answers no ticket, since the rows that it removes stand
pub clean_answers_none : (next number cutoff : ℕ) (book : Book) → IsBook next book →
    map (left_ticket number (filter (is_stale cutoff book.holds) book.rows) (filter (is_not_stale cutoff book.holds) book.rows)) book.tickets
    ≡ book.tickets
clean_answers_none next number cutoff book rules =
    map_alike (left_ticket number (filter stale book.rows) (filter (is_not_stale cutoff book.holds) book.rows)) (λ (ticket : Ticket). ticket) book.tickets
    (λ ticket asking. answered_alike number answer.Undeclared ticket
    (is_lost (filter stale book.rows) (filter (is_not_stale cutoff book.holds) book.rows) ticket) false
    (none ticket asking))
    ∙ map_itself book.tickets
  where
    stale : Row → Bool
    stale = is_stale cutoff book.holds

    map_itself : (tickets : List Ticket) → map (λ (ticket : Ticket). ticket) tickets ≡ tickets
    map_itself [] = refl
    map_itself (ticket ∷ tickets) = ap (λ (ts : List Ticket). ticket ∷ ts) (map_itself tickets)

    none : (ticket : Ticket) → Contains book.tickets ticket →
        is_lost (filter stale book.rows) (filter (is_not_stale cutoff book.holds) book.rows) ticket ≡ false
    none ticket asking =
        false_from_ne_true (is_lost (filter stale book.rows) (filter (is_not_stale cutoff book.holds) book.rows) ticket) (λ lost.
        let parts = and_parts (is_open ticket) (list_any (covers ticket.asked) (filter stale book.rows))
        (and_parts (is_open ticket && list_any (covers ticket.asked) (filter stale book.rows))
        (not (list_any (covers ticket.asked) (filter (is_not_stale cutoff book.holds) book.rows))) lost).0 in
        let (row, among, does) = any_contains (covers ticket.asked) (filter stale book.rows) parts.1 in
        let (within, old) = filtered_contains stale book.rows row among in
        let (over, found, unmade, same) = ticket_waits next book ticket rules asking parts.0 in
        both_ways row.stands (ap (λ (r : Row). r.stands) (same row within does) ∙ unmade)
        (and_parts row.stands (not (is_held book.holds row)) (and_parts (row.stands && not (is_held book.holds row)) _ old).0).0)
