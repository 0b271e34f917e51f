-- Rows that are removed: by a request that names a path, and by a clean.
use Rattle.std.specs.Prelude.{ℕ, nat_lt, ◌&&◌, Bool, true, false, not, List, [], length, map, filter}
use Rattle.std.specs.List.{list_any}
use Rattle.mat_path.specs.Names.{overlap}
use Rattle.mat_tree.specs.Trees.{bytes_of}
use Rattle.mat_model.specs.declared.answers.Gone.{Gone}
use Rattle.mat_model.specs.declared.answers.Reply.TheVariants as reply
use Rattle.mat_model.specs.declared.book.Book.{Book}
use Rattle.mat_model.specs.declared.book.Hold.{Hold}
use Rattle.mat_model.specs.declared.book.Row.{Row}
use Rattle.mat_model.specs.declared.requests.CleanMode.{CleanMode}
use Rattle.mat_model.specs.declared.requests.CleanMode.TheVariants as mode
use Rattle.mat_model.specs.Gate.{Served, if_live}
use Rattle.mat_model.specs.Rows.{is_clear_of, overlaps_row}
use Rattle.mat_model.specs.Tickets.{without_rows}

-- each row that overlaps a path is removed
abbrev pub invalidate : ℕ → ℕ → List (List ℕ) → Book → Served
invalidate number command path book = if_live command book (record {
  reply = reply.Invalid (length (filter (overlaps_row path) book.rows));
  book = without_rows number (filter (overlaps_row path) book.rows) (filter (is_clear_of path) book.rows) book;
})

-- whether a hold's path overlaps a path
abbrev pub holds_path : List (List ℕ) → Hold → Bool
holds_path path hold = overlap hold.path path

-- whether a hold is on a path that overlaps a row's
abbrev pub holds_row : Row → Hold → Bool
holds_row row hold = holds_path row.path hold

-- whether a row is held
abbrev pub is_held : List Hold → Row → Bool
is_held holds row = list_any (holds_row row) holds

-- whether a row is stale at a cutoff: it stands, nothing holds it, and it was last used before
abbrev pub is_stale : ℕ → List Hold → Row → Bool
is_stale cutoff holds row = row.stands && not (is_held holds row) && nat_lt row.last cutoff

-- whether it isn't
abbrev pub is_not_stale : ℕ → List Hold → Row → Bool
is_not_stale cutoff holds row = not (is_stale cutoff holds row)

-- the stale rows of a book, in path order
abbrev pub stale : ℕ → Book → List Row
stale cutoff book = filter (is_stale cutoff book.holds) book.rows

-- a row as a clean lists it: its path, and how many bytes its files have
abbrev pub gone_row : Row → Gone
gone_row row = record { path = row.path; bytes = bytes_of row.tree }

-- the book without the rows that a clean removes
abbrev pub cleaned : ℕ → ℕ → Book → Book
cleaned number cutoff book = without_rows number (stale cutoff book) (filter (is_not_stale cutoff book.holds) book.rows) book

-- a clean, where these debris paths are the strays that one of all would condemn
abbrev pub clean : ℕ → ℕ → List (List (List ℕ)) → CleanMode → Book → Served
clean number cutoff strays mode.Dry book = record { reply = reply.Cleaned true (map gone_row (stale cutoff book)) []; book = book }
clean number cutoff strays mode.Real book =
    record { reply = reply.Cleaned false (map gone_row (stale cutoff book)) []; book = cleaned number cutoff book }
clean number cutoff strays mode.All book =
    record { reply = reply.Cleaned false (map gone_row (stale cutoff book)) strays; book = cleaned number cutoff book }
