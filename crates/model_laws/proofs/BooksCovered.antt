-- The rule of the open tickets of a book, after a request and after the end of a job: a row that doesn't stand covers what each one asks for.
use Rattle.mat_model.specs.Requests.{preempted_ticket}
use Rattle.mat_path.proofs.Elements.{contains_filter, contains_map, filtered_contains}
use Rattle.mat_path.proofs.Overlaps.{overlap-refl}
use Rattle.mat_path.proofs.SameNames.{same_names-eq}
use Rattle.std.proofs.Common.{◌≡◌, ℕ, ◌==◌, Bool, true, false, not, ◌&&◌, ◌⊎◌, List, Some, None, cond, inl, inr, refl, sym, ap, subst, ◌∙◌, map, find, Contains}
use Rattle.std.specs.List.{All, filter, list_any}
use Rattle.std.proofs.lemmas.Bool.{and_from, and_parts, both_ways, not-true}
use Rattle.std.proofs.lemmas.List.Elements.{All-push, All-weaker}
use Rattle.mat_path.specs.Names.{overlap}
use Rattle.mat_model.specs.declared.answers.Answer.{Answer}
use Rattle.mat_model.specs.declared.answers.Answer.TheVariants as answer
use Rattle.mat_model.specs.declared.book.Book.{Book}
use Rattle.mat_model.specs.declared.book.Row.{Row}
use Rattle.mat_model.specs.declared.book.Ticket.{Ticket}
use Rattle.mat_model.specs.declared.requests.Asked.{Asked}
use Rattle.mat_model.specs.Books.{IsAwaited, lies_over}
use Rattle.mat_model.specs.Declarations.{new_row}
use Rattle.mat_model.specs.Rows.{are_apart, covers, is_at_path, is_clear_of, overlaps_row, put_row, standing_row, used_row}
use Rattle.mat_model.specs.Tickets.{answered_by, answered_by_any, is_lost, is_open, left_ticket, waits_for}
use Rattle.mat_model.specs.Work.{is_declared}
use Rattle.model_laws.proofs.BooksLists.{all-mapped, any_contains, contains_any}
use Rattle.model_laws.proofs.BooksRows.{apart_same, cover_same, put_row_cases}
use Rattle.model_laws.proofs.BooksTickets.{failed_cases, left_cases, made_cases, preempted_cases}
use Rattle.model_laws.proofs.PutRows.{contains_put}
use Rattle.model_laws.proofs.Elements.{found_contains}
use Rattle.model_laws.proofs.Serving.{Changes, Endings}
use Rattle.model_laws.proofs.Elements.{found_passes}

-- the parts of lying over a path, and lying over it from those
pub lies_parts : (path : List (List ℕ)) (row : Row) → lies_over path row ≡ true → (covers path row ≡ true) × (row.stands ≡ false)
lies_parts path row over =
    let parts = and_parts (covers path row) (not row.stands) over in (parts.0, not-true row.stands parts.1)

lies_from : (path : List (List ℕ)) (row : Row) → covers path row ≡ true → row.stands ≡ false → lies_over path row ≡ true
lies_from path row over lies = and_from (covers path row) (not row.stands) over (ap not lies)

-- a row lies over the same paths after a use
used_lies : (path at : List (List ℕ)) (moment : ℕ) (row : Row) → lies_over path (used_row at moment row) ≡ lies_over path row
used_lies path at moment row =
    elim (is_at_path at row) as (λ b. lies_over path (cond b (record row { last = moment }) row) ≡ lies_over path row) [ true ↦ refl | false ↦ refl ]

used_awaited : (at : List (List ℕ)) (moment : ℕ) (rows : List Row) (ticket : Ticket) → IsAwaited rows ticket →
    IsAwaited (map (used_row at moment) rows) ticket
used_awaited at moment rows ticket awaited lies =
    let one = any_contains (lies_over ticket.asked) rows (awaited lies) in
    contains_any (lies_over ticket.asked) (map (used_row at moment) rows) (used_row at moment one.0)
    (contains_map (used_row at moment) rows one.0 one.1) (used_lies ticket.asked at moment one.0 ∙ one.2)

-- rows that are left once some were removed: each row is left or removed, and each that is left was there or doesn't stand
record AreLeft (rows removed left : List Row) : Type 0 where
  either : (row : Row) → Contains rows row → Contains left row ⊎ Contains removed row
  origin : (row : Row) → Contains left row → Contains rows row ⊎ (row.stands ≡ false)

-- a ticket that isn't lost waits for a row that is left
left_awaited : (rows removed left : List Row) → are_apart rows ≡ true → AreLeft rows removed left → (number : ℕ) (ticket : Ticket) →
    IsAwaited rows ticket → IsAwaited left (left_ticket number removed left ticket)
left_awaited rows removed left apart parts number ticket awaited =
    left_cases (IsAwaited left) number removed left ticket (λ lies. absurd cc) stays
  where
    -- a row that is left and covers the path doesn't stand, since it is the one that was there or a new one
    over_left : (row : Row) → Contains rows row → lies_over ticket.asked row ≡ true → list_any (covers ticket.asked) left ≡ true →
        list_any (lies_over ticket.asked) left ≡ true
    over_left row among over some =
        let other = any_contains (covers ticket.asked) left some in
        let lies : other.0.stands ≡ false =
        elim (parts.origin other.0 other.1) [
          | inl was ↦
              let same : row ≡ other.0 =
              cover_same rows ticket.asked row other.0 apart among was (lies_parts ticket.asked row over).0 other.2 in
              subst (λ (r : Row). r.stands ≡ false) same (lies_parts ticket.asked row over).1
          | inr new ↦ new
        ] in
        contains_any (lies_over ticket.asked) left other.0 other.1 (lies_from ticket.asked other.0 other.2 lies)

    stays : is_lost removed left ticket ≡ false → IsAwaited left ticket
    stays kept lies =
        let one = any_contains (lies_over ticket.asked) rows (awaited lies) in
        elim (parts.either one.0 one.1) [
          | inl here ↦ contains_any (lies_over ticket.asked) left one.0 here one.2
          | inr gone ↦
              let was : list_any (covers ticket.asked) removed ≡ true =
              contains_any (covers ticket.asked) removed one.0 gone (lies_parts ticket.asked one.0 one.2).0 in
              elim (list_any (covers ticket.asked) left) as
              (λ b. list_any (covers ticket.asked) left ≡ b → list_any (lies_over ticket.asked) left ≡ true) [
                | true ↦ λ some. over_left one.0 one.1 one.2 some
                | false ↦ λ none. absurd (both_ways (is_lost removed left ticket) kept
                    (and_from (is_open ticket && list_any (covers ticket.asked) removed) (not (list_any (covers ticket.asked) left))
                    (and_from (is_open ticket) (list_any (covers ticket.asked) removed) lies was) (ap not none)))
              ] refl
        ]

-- rows that pass a test are removed, and the others are left
parted : (gone left : Row → Bool) → ((row : Row) → left row ≡ not (gone row)) → (rows : List Row) →
    AreLeft rows (filter gone rows) (filter left rows)
parted gone left opposite rows = record {
  either = λ row among.
      elim (gone row) as (λ b. gone row ≡ b → Contains (filter left rows) row ⊎ Contains (filter gone rows) row) [
        | true ↦ λ is. inr (contains_filter gone rows row is among)
        | false ↦ λ off. inl (contains_filter left rows row (opposite row ∙ ap not off) among)
      ] refl;
  origin = λ row among. inl (filtered_contains left rows row among).0;
}

-- and so do those stay among which a row is put that doesn't stand
put_parted : (rows removed left : List Row) (new : Row) → new.stands ≡ false → AreLeft rows removed left → AreLeft rows removed (put_row new left)
put_parted rows removed left new lies parts = record {
  either = λ row among.
      elim (parts.either row among) [ inl here ↦ inl (contains_put new left row here) | inr gone ↦ inr gone ];
  origin = λ row among.
      elim (put_row_cases new left row among) [
        | inl same ↦ inr (subst (λ (r : Row). r.stands ≡ false) same lies)
        | inr more ↦ parts.origin row more
      ];
}

-- a ticket that is new waits for the row that covers its path
new_awaited : (rows : List Row) (row : Row) (number command moment : ℕ) (path : List (List ℕ)) → find (covers path) rows ≡ Some row → row.stands ≡ false →
    IsAwaited (map (used_row row.path moment) rows) (record { number = number; command = command; asked = path; answered = None })
new_awaited rows row number command moment path over lies =
    used_awaited row.path moment rows (record { number = number; command = command; asked = path; answered = None })
    (λ fresh. contains_any (lies_over path) rows row (found_contains (covers path) rows row over)
    (lies_from path row (found_passes (covers path) rows row over) lies))

-- a row that doesn't stand covers what each open ticket asks for
pub asked_awaited : (number : ℕ) (request : Asked) (book : Book) → are_apart book.rows ≡ true → All (IsAwaited book.rows) book.tickets →
    Changes (λ (b : Book). All (IsAwaited b.rows) b.tickets) number request book
asked_awaited number request book apart awaited = record {
  same = awaited;
  enters = λ command state soft refuse is new may. awaited;
  takes = λ command state soft refuse is new may.
      all-mapped (IsAwaited book.rows) (IsAwaited book.rows) (preempted_ticket number command book.live)
      (λ ticket waits. preempted_cases (IsAwaited book.rows) number command book.live ticket (λ lies. absurd cc) (λ stays. waits)) book.tickets awaited;
  queues = λ command state soft refuse is new may told. awaited;
  leaves = λ command is none. awaited;
  puts = λ command path tree is.
      let removed = filter (overlaps_row path) book.rows in
      let left = put_row (new_row number book.now path tree) (filter (is_clear_of path) book.rows) in
      let parts : AreLeft book.rows removed left =
      put_parted book.rows removed (filter (is_clear_of path) book.rows) (new_row number book.now path tree) refl
      (parted (overlaps_row path) (is_clear_of path) (λ row. refl) book.rows) in
      all-mapped (IsAwaited book.rows) (IsAwaited left) (left_ticket number removed left)
      (left_awaited book.rows removed left apart parts number) book.tickets awaited;
  uses = λ at command path.
      All-weaker (IsAwaited book.rows) (IsAwaited (map (used_row at book.now) book.rows)) (used_awaited at book.now book.rows) book.tickets awaited;
  asks = λ row command path live over lies.
      All-push (IsAwaited (map (used_row row.path book.now) book.rows)) book.tickets
      (record { number = number; command = command; asked = path; answered = None })
      (All-weaker (IsAwaited book.rows) (IsAwaited (map (used_row row.path book.now) book.rows)) (used_awaited row.path book.now book.rows)
      book.tickets awaited)
      (new_awaited book.rows row number command book.now path over lies);
  removes = λ gone left opposite disturbed.
      all-mapped (IsAwaited book.rows) (IsAwaited (filter left book.rows)) (left_ticket number (filter gone book.rows) (filter left book.rows))
      (left_awaited book.rows (filter gone book.rows) (filter left book.rows) apart (parted gone left opposite book.rows) number) book.tickets awaited;
}

-- a ticket that doesn't wait for the row that comes to stand waits for another one, which is at another path
made_awaited : (rows : List Row) (path : List (List ℕ)) (stamp : ℕ) (row : Row) → are_apart rows ≡ true → find (is_declared path stamp) rows ≡ Some row →
    (number : ℕ) (given : Answer) (ticket : Ticket) → IsAwaited rows ticket →
    IsAwaited (map (standing_row path) rows) (answered_by row number given ticket)
made_awaited rows path stamp row apart found number given ticket awaited =
    made_cases (IsAwaited (map (standing_row path) rows)) row number given ticket (λ lies. absurd cc) stays
  where
    at : row.path ≡ path
    at = same_names-eq row.path path (and_parts (is_at_path path row) (row.stamp == stamp) (found_passes (is_declared path stamp) rows row found)).0

    stays : waits_for row ticket ≡ false → IsAwaited (map (standing_row path) rows) ticket
    stays off lies =
        let one = any_contains (lies_over ticket.asked) rows (awaited lies) in
        let over = lies_parts ticket.asked one.0 one.2 in
        let same : standing_row path one.0 ≡ one.0 =
        elim (is_at_path path one.0) as (λ b. is_at_path path one.0 ≡ b → cond b (record one.0 { stands = true }) one.0 ≡ one.0) [
          | true ↦ λ here.
              let place : one.0.path ≡ row.path = same_names-eq one.0.path path here ∙ sym at in
              let its : one.0 ≡ row =
              apart_same rows one.0 row apart one.1 (found_contains (is_declared path stamp) rows row found)
              (subst (λ (p : List (List ℕ)). overlap one.0.path p ≡ true) place (overlap-refl one.0.path)) in
              absurd (both_ways (waits_for row ticket) off
              (and_from (is_open ticket) (covers ticket.asked row) lies (subst (λ (r : Row). covers ticket.asked r ≡ true) its over.0)))
          | false ↦ λ other. refl
        ] refl in
        contains_any (lies_over ticket.asked) (map (standing_row path) rows) (standing_row path one.0)
        (contains_map (standing_row path) rows one.0 one.1)
        (subst (λ (r : Row). lies_over ticket.asked r ≡ true) (sym same) one.2)

failed_awaited : (rows some : List Row) (number : ℕ) (given : Answer) (ticket : Ticket) → IsAwaited rows ticket →
    IsAwaited rows (answered_by_any some number given ticket)
failed_awaited rows some number given ticket awaited =
    failed_cases (IsAwaited rows) some number given ticket (λ lies. absurd cc) (λ stays. awaited)

-- the end of a job keeps what open tickets ask for covered by rows that lie
pub ended_awaited : (number : ℕ) (book : Book) → are_apart book.rows ≡ true → All (IsAwaited book.rows) book.tickets →
    Endings (λ (b : Book). All (IsAwaited b.rows) b.tickets) number book
ended_awaited number book apart awaited = record {
  same = awaited;
  stands = λ path stamp row found.
      all-mapped (IsAwaited book.rows) (IsAwaited (map (standing_row path) book.rows)) (answered_by row number (answer.Ready row.stamp row.sum))
      (made_awaited book.rows path stamp row apart found number (answer.Ready row.stamp row.sum)) book.tickets awaited;
  fails = λ some given.
      all-mapped (IsAwaited book.rows) (IsAwaited book.rows) (answered_by_any some number given) (failed_awaited book.rows some number given)
      book.tickets awaited;
}
