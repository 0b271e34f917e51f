-- The task that comes first, by what the parts' own lists tell.
use Rattle.std.specs.Prelude.{ℕ, nat_lt, ◌==◌, ◌+◌, ◌^◌, ◌&&◌, ◌||◌, Bool, false, not, is_some, if◌then◌else◌, List, [], ◌∷◌, find, Option, Some, None}
use Rattle.std.specs.List.{list_any}
use Rattle.std.specs.Option.{option_and_then, option_map, option_map_or, option_or}
use Rattle.mat_model.specs.declared.book.Ticket.{Ticket}
use Rattle.mat_model.specs.declared.entries.Task.{Task}
use Rattle.mat_model.specs.declared.entries.Task.TheVariants as task
use Rattle.mat_model.specs.Tickets.{is_open}
use Rattle.mat_model.specs.WorkState.{Debris, Job, is_debris_above, is_lent, stands_as, wipe_of}
use Rattle.write_plan.specs.declared.method.Method.{Method}
use Rattle.write_plan.specs.declared.method.Method.TheVariants as method
use Rattle.row_book.specs.declared.stock.Stock.{Stock}
use Rattle.row_book.specs.Stocks.{covers_stock, is_next_overlap}
use Rattle.row_book.specs.Whole.{leads_to}
use Rattle.ticket_book.specs.Asked.{asks_below, lowest}

-- ---- wipes

-- whether a row is at or above a path: of those that overlap it the first one is
abbrev pub is_under_row : List Stock → List (List ℕ) → Bool
is_under_row stocks path = option_map_or (leads_to path) (find (is_next_overlap path None) stocks) false

-- whether a path is strictly above a row with an open ticket: one asks for a path at or below it, and no row is at or above it
abbrev pub is_in_the_way : List Stock → List Ticket → List (List ℕ) → Bool
is_in_the_way stocks tickets path = is_some (lowest (asks_below path) tickets) && not (is_under_row stocks path)

-- whether a wipe of debris may begin
abbrev pub may_wipe_in : List Job → List Stock → List Ticket → Debris → Bool
may_wipe_in jobs stocks tickets debris = not (is_lent debris.path jobs) && (debris.condemned || is_in_the_way stocks tickets debris.path)

-- the debris whose wipe comes first
abbrev pub first_debris : List Job → List Stock → List Ticket → List Debris → Option Debris
first_debris jobs stocks tickets debris = find (may_wipe_in jobs stocks tickets) debris

-- ---- makes

-- whether a stock's row has a stamp and stands
abbrev pub stands_with : ℕ → Stock → Bool
stands_with stamp stock = (stock.row.stamp == stamp) && stock.row.stands

-- the same, at exactly a path
abbrev pub is_source : List (List ℕ) → ℕ → Stock → Bool
is_source path stamp stock = stands_as path stamp stock.row

-- the stock of the part that a make by a method would read
abbrev pub source_in : List Stock → Method → Option Stock
source_in stocks (method.Write bytes) = None
source_in stocks method.Fetch = None
source_in stocks (method.Copy source rest stamp from) = find (is_source source stamp) stocks

-- whether a loan overlaps the path of a stock's row, and that of the part that a make would read
abbrev pub is_stock_lent : List Job → Stock → Bool
is_stock_lent jobs stock = is_lent stock.row.path jobs

abbrev pub is_source_lent : List Job → List Stock → Method → Bool
is_source_lent jobs stocks way = option_map_or (is_stock_lent jobs) (source_in stocks way) false

-- whether something keeps the make of a stock's row from beginning
abbrev pub is_stock_kept_back : List Job → List Debris → List Stock → Stock → Bool
is_stock_kept_back jobs debris stocks stock =
    stock.row.stands || is_lent stock.row.path jobs || list_any (is_debris_above stock.row.path) debris || is_source_lent jobs stocks stock.method

-- a stock, if the make of its row may begin
abbrev pub if_free : List Job → List Debris → List Stock → Stock → Option Stock
if_free jobs debris stocks stock = if is_stock_kept_back jobs debris stocks stock then None else Some stock

-- the stock that covers a path, and what a ticket asks for, if the make of its row may begin
abbrev pub free_at : List Job → List Debris → List Stock → List (List ℕ) → Option Stock
free_at jobs debris stocks path = option_and_then (if_free jobs debris stocks) (find (covers_stock path) stocks)

abbrev pub free_row : List Job → List Debris → List Stock → Ticket → Option Stock
free_row jobs debris stocks ticket = free_at jobs debris stocks ticket.asked

-- the same, if the ticket is open
abbrev pub free_for : List Job → List Debris → List Stock → Ticket → Option Stock
free_for jobs debris stocks ticket = if is_open ticket then free_row jobs debris stocks ticket else None

-- the stock whose make comes first
abbrev pub first_free : List Job → List Debris → List Stock → List Ticket → Option Stock
first_free jobs debris stocks [] = None
first_free jobs debris stocks (ticket ∷ tickets) = option_or (free_for jobs debris stocks ticket) (first_free jobs debris stocks tickets)

-- whether the number behind a ticket's is one of 64 bits
abbrev pub has_next : Ticket → Bool
has_next ticket = nat_lt (ticket.number + 1) (2 ^ 64)

-- ---- both

-- the make of a stock's row
abbrev pub make_of_stock : Stock → Task
make_of_stock stock = task.Make stock.row.path stock.row.stamp

-- the task that comes first
abbrev pub first_in : List Job → List Debris → List Stock → List Ticket → Option Task
first_in jobs debris stocks tickets =
    option_or (option_map wipe_of (first_debris jobs stocks tickets debris)) (option_map make_of_stock (first_free jobs debris stocks tickets))
