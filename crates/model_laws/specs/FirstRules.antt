-- What is true of the task that comes first.
use Rattle.std.specs.Prelude.{◌≡◌, ◌⊎◌, ℕ, true, false, List, Some}
use Rattle.std.specs.List.{Contains, list_any}
use Rattle.mat_model.specs.declared.book.Book.{Book}
use Rattle.mat_model.specs.declared.book.Row.{Row}
use Rattle.mat_model.specs.declared.book.Ticket.{Ticket}
use Rattle.mat_model.specs.declared.entries.Task.TheVariants as task
use Rattle.mat_model.specs.Tickets.{waits_for}
use Rattle.mat_model.specs.WorkState.{Debris, Lent, WorkState, is_above, is_debris_above, is_lent, is_wanted, lent_for}

-- a make may begin: a row at its path and under its stamp lies and has an open ticket, no loan overlaps the path, no debris is strictly above it, and
-- the part that it would read is on no loan
pub record MakeMayBegin (work : WorkState) (book : Book) (path : List (List ℕ)) (stamp : ℕ) : Type 0 where
  pub row : Row
  pub among : Contains book.rows row
  pub placed : row.path ≡ path
  pub stamped : row.stamp ≡ stamp
  pub lies : row.stands ≡ false
  pub ticket : Ticket
  pub asking : Contains book.tickets ticket
  pub waits : waits_for row ticket ≡ true
  pub free : is_lent path work.jobs ≡ false
  pub clear : list_any (is_debris_above path) work.debris ≡ false
  pub source : (lent : Lent) → lent_for (task.Make path stamp) book.rows work.ways ≡ Some lent → is_lent lent.path work.jobs ≡ false

-- a path is strictly above that of a row that has an open ticket
pub record IsInTheWay (book : Book) (path : List (List ℕ)) : Type 0 where
  pub row : Row
  pub among : Contains book.rows row
  pub above : is_above path row.path ≡ true
  pub wanted : is_wanted book.tickets row ≡ true

-- a wipe may begin: its path is debris, no loan overlaps it, and it is condemned or strictly above a row that has an open ticket
pub record WipeMayBegin (work : WorkState) (book : Book) (path : List (List ℕ)) : Type 0 where
  pub debris : Debris
  pub among : Contains work.debris debris
  pub placed : debris.path ≡ path
  pub free : is_lent path work.jobs ≡ false
  pub asked : (debris.condemned ≡ true) ⊎ IsInTheWay book path
