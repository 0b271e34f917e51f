-- What a job is begun with.
use Rattle.std.specs.Prelude.{◌≡◌, ℕ, Bool, List, map, filter, find, Option, Some, None}
use Rattle.std.specs.List.{Contains}
use Rattle.std.specs.Option.{is_some, option_map}
use Rattle.mat_path.specs.Names.{joined}
use Rattle.mat_model.specs.declared.book.Row.{Row}
use Rattle.mat_model.specs.declared.entries.Card.{Card}
use Rattle.mat_model.specs.declared.entries.Task.{Task}
use Rattle.mat_model.specs.declared.entries.Task.TheVariants as task
use Rattle.mat_model.specs.WorkState.{path_of_task}
use Rattle.mat_model.specs.Kept.{kept_row}
use Rattle.model_laws.specs.WorkRules.{IsReadAtPaths}
use Rattle.core_laws.specs.Stored.{IsReadable}
use Rattle.write_plan.specs.Plans.{plan_of}
use Rattle.row_bytes.specs.Rows.{row_bytes}
use Rattle.row_book.specs.declared.stock.Stock.{Stock}
use Rattle.row_book.specs.Stocks.{rows_of, stock_at}
use Rattle.job_book.specs.declared.running.KeptBytes.{KeptBytes}
use Rattle.job_book.specs.declared.running.Running.{Running}
use Rattle.kept_book.specs.Marks.{overlaps_mark, path_of_mark}
use Rattle.core_devices.specs.declared.taking.Source.{Source}
use Rattle.mat_core.specs.Books.{way_in}
use Rattle.mat_core.specs.Choosing.{source_in}
use Rattle.mat_core.specs.declared.parts.Parts.{Parts}
use Rattle.mat_core.specs.declared.preparing.Aim.{Aim}
use Rattle.mat_core.specs.declared.preparing.Aim.TheVariants as aim
use Rattle.mat_core.specs.declared.preparing.Order.{Order}

-- the card of a job
abbrev pub card_for : ℕ → Task → Card
card_for number begun = record { job = number; task = begun }

-- the part of a stock's row
abbrev pub source_from : Stock → Source
source_from stock = record { path = stock.row.path; stamp = stock.row.stamp; tree = stock.row.tree }

-- the tree of a stock's row is what is made, by its method and the acts of its plan, where a part is lent or not
abbrev pub IsAimedAt : Stock → Bool → Aim → Type 0
IsAimedAt stock lent aim.Nothing = ⊥
IsAimedAt stock lent (aim.Tree tree way acts) =
    (tree ≡ stock.row.tree) × (way ≡ stock.method) × (acts.items ≡ plan_of stock.row.tree stock.method lent)

-- a row as the state store keeps it, by a core with an identity: it can be read back
pub record IsBytesOf (identity : ℕ) (row : Row) (bytes : KeptBytes) : Type 0 where
  pub path : bytes.path.items ≡ joined row.path
  pub body : bytes.body.items ≡ row_bytes (Some identity) row.tree
  pub readable : IsReadable (kept_row row)

-- the same, where there is one
abbrev pub AreBytesOf : ℕ → Row → Option KeptBytes → Type 0
AreBytesOf identity row None = ⊥
AreBytesOf identity row (Some bytes) = IsBytesOf identity row bytes

-- the row of a make, if it is still among some, is ready to be stored, by a core with an identity
abbrev pub IsReadyFor : ℕ → List Row → Task → Option KeptBytes → Type 0
IsReadyFor identity rows (task.Make path stamp) kept = (row : Row) → Contains rows row → row.stamp ≡ stamp → AreBytesOf identity row kept
IsReadyFor identity rows (task.Wipe path) kept = Unit {0}

-- so are the rows of all jobs that run
abbrev pub AreReady : {D K : Type 0} → Parts D K → Type 0
AreReady parts = (running : Running) → Contains parts.jobs running →
    IsReadyFor parts.base.identity (rows_of parts.rows) running.card.task running.kept

-- what the make of a stock's row is begun with, beside some stocks, by a core with an identity
pub record IsMaking (stocks : List Stock) (identity : ℕ) (stock : Stock) (order : Order) : Type 0 where
  pub source : order.source ≡ option_map source_from (source_in stocks stock.method)
  pub aim : IsAimedAt stock (is_some order.source) order.aim
  pub kept : AreBytesOf identity stock.row order.kept

-- what a wipe is begun with
pub record IsWiping (order : Order) : Type 0 where
  pub source : order.source ≡ None
  pub aim : order.aim ≡ aim.Nothing
  pub kept : order.kept ≡ None

-- the cards, and the paths of the rows that are to go
pub record IsCarded (kept handed : Card) (paths : List (List (List ℕ))) (order : Order) : Type 0 where
  pub card : order.card ≡ kept
  pub own : order.own ≡ handed
  pub gone : order.gone.items ≡ paths

-- the paths of the kept rows that overlap that of a task
abbrev pub gone_for : {D K : Type 0} → Parts D K → Task → List (List (List ℕ))
gone_for parts begun = map path_of_mark (filter (overlaps_mark (path_of_task begun)) parts.kept.marks)

-- what a task is begun with
abbrev pub IsAimed : {D K : Type 0} → Parts D K → Task → Order → Type 0
IsAimed parts (task.Make path stamp) order =
    (stock : Stock) → find (stock_at path) parts.rows ≡ Some stock → IsMaking parts.rows parts.base.identity stock order
IsAimed parts (task.Wipe path) order = IsWiping order

pub record IsOrder {D K : Type 0} (parts : Parts D K) (number : ℕ) (begun : Task) (order : Order) : Type 0 where
  pub cards : IsCarded (card_for number begun) (card_for number begun) (gone_for parts begun) order
  pub aims : IsAimed parts begun order

-- the row of a make is there, and each node of its tree lies at a path of the part that it would read
pub record IsThere {D K : Type 0} (parts : Parts D K) (path : List (List ℕ)) : Type 0 where
  pub stock : Stock
  pub found : find (stock_at path) parts.rows ≡ Some stock
  pub reads : IsReadAtPaths (way_in stock.method) stock.row.tree

abbrev pub IsReady : {D K : Type 0} → Parts D K → Task → Type 0
IsReady parts (task.Make path stamp) = IsThere parts path
IsReady parts (task.Wipe path) = Unit {0}
