-- What the parts of a core stand for: a book, a work state, the kept rows, and so a point of a history.
use Rattle.std.specs.Prelude.{◌≡◌, ◌==◌, ℕ, Bool, true, map, Option, Some, None}
use Rattle.std.specs.List.{Contains, list_all, list_any}
use Rattle.mat_model.specs.declared.book.Book.{Book}
use Rattle.mat_model.specs.History.{Point}
use Rattle.mat_model.specs.Room.{row_paths}
use Rattle.mat_model.specs.WorkState.{Way, WorkState, copied, held, is_dirty, store, way_of}
use Rattle.write_plan.specs.declared.method.Method.{Method}
use Rattle.write_plan.specs.declared.method.Method.TheVariants as method
use Rattle.row_book.specs.Stocks.{is_held_origin, rows_of}
use Rattle.row_book.specs.declared.stock.Stock.{Stock}
use Rattle.kept_book.specs.Marks.{mark_of}
use Rattle.job_book.specs.Jobs.{jobs_of}
use Rattle.job_book.specs.declared.running.LentPart.{LentPart}
use Rattle.job_book.specs.declared.running.Running.{Running}
use Rattle.job_run.specs.Orders.{is_right}
use Rattle.mat_core.specs.declared.parts.Parts.{Parts}

-- ---- the book

-- the book of some parts
abbrev pub book_in : {D K : Type 0} → Parts D K → Book
book_in parts = record {
  first = parts.first;
  now = parts.moment;
  state = parts.gate.state;
  live = parts.gate.live;
  waiting = parts.gate.waiting;
  soft = parts.gate.soft;
  rows = rows_of parts.rows;
  holds = parts.holds;
  tickets = parts.tickets.all;
}

-- ---- the work state

-- the way of a row that has a method
abbrev pub way_in : Method → Way
way_in (method.Write bytes) = held
way_in method.Fetch = store
way_in (method.Copy source rest stamp from) = copied source rest stamp (is_held_origin from)

-- what is kept beside a row is what a work state says of it
pub record IsStock (work : WorkState) (stock : Stock) : Type 0 where
  pub way : way_of stock.row.stamp work.ways ≡ way_in stock.method
  pub mark : is_dirty work.dirty stock.row.path ≡ stock.dirty
  -- the bytes that are held for the row, if any are, have the digest of its file
  pub right : list_all (is_right stock.method) stock.row.tree ≡ true

-- whether a stamp is another one
abbrev pub is_same_stamp : ℕ → ℕ → Bool
is_same_stamp stamp other = other == stamp

-- whether a clean removed the row of a part that is lent is what a work state says of it
abbrev pub IsPart : WorkState → Option LentPart → Type 0
IsPart work None = Unit {0}
IsPart work (Some part) = list_any (is_same_stamp part.stamp) work.cleaned ≡ part.cleaned

-- some parts stand for a work state
pub record AreWork {D K : Type 0} (parts : Parts D K) (work : WorkState) : Type 0 where
  pub stocks : (stock : Stock) → Contains parts.rows stock → IsStock work stock
  pub jobs : jobs_of parts.jobs ≡ work.jobs
  pub cleaned : (running : Running) → Contains parts.jobs running → IsPart work running.lent
  pub debris : parts.debris.list ≡ work.debris

-- ---- a point

-- some parts stand for a point of a history
pub record StandFor {D K : Type 0} (parts : Parts D K) (point : Point) : Type 0 where
  pub book : book_in parts ≡ point.book
  pub work : AreWork parts point.work
  pub kept : parts.kept.marks ≡ map mark_of point.kept
  pub nodes : parts.nodes ≡ point.nodes
  pub paths : parts.paths ≡ row_paths point.book point.kept
  pub history : parts.history.items ≡ point.history
