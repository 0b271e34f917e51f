-- A declaration at a path that no row overlaps.
use Rattle.mat_path.proofs.SameNames.{same_names-eq}
use Rattle.std.proofs.lemmas.Bool.{and_parts}
use Rattle.std.proofs.Common.{◌≡◌, ℕ, Bool, true, false, not, ◌||◌, ◌&&◌, List, [], ◌∷◌, Option, cond, refl, sym, ap, subst, ◌∙◌, map}
use Rattle.std.specs.List.{list_any, filter}
use Rattle.mat_path.specs.Names.{is_prefix, overlap}
use Rattle.mat_path.proofs.PathLemmas.{prefix-refl}
use Rattle.mat_tree.specs.declared.flat.Flat.{Flat}
use Rattle.mat_tree.specs.Trees.{same_tree}
use Rattle.mat_model.specs.declared.book.Book.{Book}
use Rattle.mat_model.specs.declared.book.Row.{Row}
use Rattle.mat_model.specs.declared.book.Ticket.{Ticket}
use Rattle.mat_model.specs.declared.book.Hold.{Hold}
use Rattle.mat_model.specs.declared.answers.Answer.TheVariants as answer
use Rattle.mat_model.specs.declared.answers.Reply.TheVariants as reply
use Rattle.mat_model.specs.Gate.{Served}
use Rattle.mat_model.specs.Rows.{covers, is_at_path, is_clear_of, overlaps_row, put_row}
use Rattle.mat_model.specs.Declarations.{declare, declare_row, is_equal_row, new_row, replace_rows}
use Rattle.mat_model.specs.Tickets.{is_open, left_ticket, with_answer, with_hold}
use Rattle.model_laws.proofs.ListTests.{filter_none, filter_opposite, find_none}

-- a row at a path overlaps it
pub at_path_overlaps : (path : List (List ℕ)) (row : Row) → is_at_path path row ≡ true → overlaps_row path row ≡ true
at_path_overlaps path row at =
    let same : row.path ≡ path = same_names-eq row.path path at in
    subst (λ (p : List (List ℕ)). overlap p path ≡ true) (sym same) (ap (λ (b : Bool). b || is_prefix path path) (prefix-refl path))

-- a row with a tree and at a path overlaps that path
pub equal_row_overlaps : (path : List (List ℕ)) (tree : List Flat) (row : Row) → is_equal_row path tree row ≡ true → overlaps_row path row ≡ true
equal_row_overlaps path tree row h =
    at_path_overlaps path row (and_parts (is_at_path path row) (same_tree row.tree tree) h).0

-- no ticket is lost where no row is removed
pub left_same : (number : ℕ) (left : List Row) (ticket : Ticket) → left_ticket number [] left ticket ≡ ticket
left_same number left ticket =
    elim (is_open ticket) as
    (λ b. cond ((b && false) && not (list_any (covers ticket.asked) left)) (with_answer number answer.Undeclared ticket) ticket ≡ ticket)
    [ true ↦ refl | false ↦ refl ]

-- where no row is removed all tickets stay as they are
pub tickets_left_same : (number : ℕ) (left : List Row) (tickets : List Ticket) → map (left_ticket number [] left) tickets ≡ tickets
tickets_left_same number left [] = refl
tickets_left_same number left (ticket ∷ tickets) =
    let first = left_same number left ticket in
    let more = tickets_left_same number left tickets in
    let P : Ticket → List Ticket → List Ticket = λ t ts. t ∷ ts in
    ap (λ (t : Ticket). P t (map (left_ticket number [] left) tickets)) first ∙ ap (P ticket) more

-- the book with other rows, holds and tickets
abbrev pub changed : Book → ℕ → List Row → List Hold → List Ticket → Served
changed book number rows holds tickets =
    record { reply = reply.Declared number; book = record book { rows = rows; holds = holds; tickets = tickets } }

-- a row that is put where none overlaps its path comes to the others, and all tickets stay
pub replace_clear : (number command : ℕ) (path : List (List ℕ)) (new : Row) (book : Book) →
    list_any (overlaps_row path) book.rows ≡ false →
    replace_rows number command path new book
    ≡ changed book number (put_row new book.rows) (with_hold command path book.holds) book.tickets
replace_clear number command path new book clear =
    let gone : filter (overlaps_row path) book.rows ≡ [] = filter_none (overlaps_row path) book.rows clear in
    let kept : filter (is_clear_of path) book.rows ≡ book.rows =
    filter_opposite (overlaps_row path) (is_clear_of path) (λ row. refl) book.rows clear in
    let holds = with_hold command path book.holds in
    ap (λ (removed : List Row). changed book number (put_row new (filter (is_clear_of path) book.rows)) holds
    (map (left_ticket number removed (put_row new (filter (is_clear_of path) book.rows))) book.tickets)) gone
    ∙ ap (λ (left : List Row). changed book number (put_row new left) holds (map (left_ticket number [] (put_row new left)) book.tickets)) kept
    ∙ ap (λ (tickets : List Ticket). changed book number (put_row new book.rows) holds tickets) (tickets_left_same number (put_row new book.rows) book.tickets)

-- a new row comes, and nothing else changes but the hold
pub declare_clear : (number command : ℕ) (path : List (List ℕ)) (tree : List Flat) (book : Book) →
    list_any (overlaps_row path) book.rows ≡ false →
    declare number command path tree book ≡ record {
      reply = reply.Declared number;
      book = record book {
        rows = put_row (new_row number book.now path tree) book.rows;
        holds = with_hold command path book.holds;
      };
    }
declare_clear number command path tree book clear =
    ap (λ (found : Option Row). declare_row number command path tree book found)
    (find_none (is_equal_row path tree) (overlaps_row path) (equal_row_overlaps path tree) book.rows clear)
    ∙ replace_clear number command path (new_row number book.now path tree) book clear
