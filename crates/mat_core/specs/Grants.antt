-- What a command is granted: a hold on a path, and with it the use of a row.
use Rattle.std.specs.Prelude.{◌≡◌, ℕ, List, [], ◌∷◌, ◌++◌, map, None}
use Rattle.mat_model.specs.declared.book.Book.{Book}
use Rattle.mat_model.specs.declared.book.Ticket.{Ticket}
use Rattle.mat_model.specs.Rows.{used}
use Rattle.mat_model.specs.Tickets.{with_hold}
use Rattle.row_book.specs.Stocks.{used_stock}
use Rattle.mat_core.specs.Books.{book_in}
use Rattle.mat_core.specs.Served.{IsBeside}
use Rattle.mat_core.specs.declared.parts.Parts.{Parts}

-- the book once a command has a hold on a path, the row at a place was used, and these are the tickets
abbrev pub granted : ℕ → List (List ℕ) → List (List ℕ) → List Ticket → Book → Book
granted command path place tickets book = record book {
  rows = used place book.now book.rows;
  holds = with_hold command path book.holds;
  tickets = tickets;
}

-- some tickets with one that is open
abbrev pub with_open : ℕ → ℕ → List (List ℕ) → List Ticket → List Ticket
with_open number command path tickets = tickets ++ record { number = number; command = command; asked = path; answered = None } ∷ []

-- some parts once a command has a hold on a path, the row at a place was used, and these are the tickets
pub record IsGranted {D K : Type 0} (command : ℕ) (path place : List (List ℕ)) (tickets : List Ticket) (old new : Parts D K) : Type 0 where
  pub beside : IsBeside old new
  pub book : book_in new ≡ granted command path place tickets (book_in old)
  pub rows : new.rows ≡ map (used_stock place old.moment) old.rows
  pub debris : new.debris ≡ old.debris
  pub jobs : new.jobs ≡ old.jobs
  pub kept : new.kept ≡ old.kept
  pub nodes : new.nodes ≡ old.nodes
  pub paths : new.paths ≡ old.paths
