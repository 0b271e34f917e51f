-- A new row that takes the place of those that overlap its path.
use Rattle.std.specs.Prelude.{◌≡◌, ◌+◌, ◌*◌, ◌≤◌, nat_lt, ℕ, false, if◌then◌else◌, List, [], ◌∷◌, length, map, filter, Option, Some, None}
use Rattle.mat_path.specs.Names.{is_prefix}
use Rattle.mat_tree.specs.declared.flat.Flat.{Flat}
use Rattle.mat_tree.specs.Trees.{bytes_of}
use Rattle.mat_model.specs.declared.answers.Limit.{Limit}
use Rattle.mat_model.specs.declared.answers.Limit.TheVariants as limit
use Rattle.mat_model.specs.declared.limits.Limits.{Limits}
use Rattle.mat_model.specs.History.{Point, next_number}
use Rattle.mat_model.specs.Tickets.{with_hold}
use Rattle.model_laws.specs.PointRules.{IsPoint}
use Rattle.model_laws.specs.RoomRules.{IsRoomy}
use Rattle.model_laws.specs.TicketRules.{lost_below}
use Rattle.write_plan.specs.declared.method.Method.{Method}
use Rattle.row_book.specs.declared.stock.Stock.{Stock}
use Rattle.row_book.specs.Stocks.{is_clear_stock, is_held_method, overlaps_stock, put_stock}
use Rattle.job_book.specs.Jobs.{jobs_of}
use Rattle.mat_core.specs.Books.{StandFor}
use Rattle.mat_core.specs.Cores.{AreLimits}
use Rattle.mat_core.specs.Falling.{one_if, with_remains}
use Rattle.mat_core.specs.Served.{IsBeside}
use Rattle.mat_core.specs.declared.falling.Fall.{Fall}
use Rattle.mat_core.specs.declared.parts.Parts.{Parts}

-- some parts stand for a point that keeps its rules and is within the limits, where the next entry has this number
pub record AreRuled {D K : Type 0} (number : ℕ) (parts : Parts D K) : Type 0 where
  pub point : Point
  pub stands : StandFor parts point
  pub rules : IsPoint point
  pub roomy : IsRoomy parts.base.limits point
  pub limits : AreLimits parts.base.limits
  pub next : next_number point ≡ number

-- the path of the row at or above one, of those that overlap it; else the path itself
abbrev pub top_in : List Stock → List (List ℕ) → List (List ℕ)
top_in [] path = path
top_in (stock ∷ stocks) path = if is_prefix stock.row.path path then stock.row.path else path

-- how many bytes are held for a tree with a method
abbrev pub held_by : Method → List Flat → ℕ
held_by way tree = if is_held_method way then bytes_of tree else 0

-- the limit of paths or of held bytes that would be passed where a row takes the place of some
abbrev pub full_replaced : Limits → ℕ → ℕ → Fall → ℕ → Option Limit
full_replaced limits paths held fall bytes =
    if nat_lt (limits.rows + fall.unkept) (paths + one_if fall.new) then Some limit.Rows
    else if nat_lt (limits.held + fall.held) (held + bytes) then Some limit.Held
    else None

-- some parts once a stock took the place of those that overlap its row's path, and a command has a hold on that
pub record IsReplaced {D K : Type 0} (number command : ℕ) (stock : Stock) (old new : Parts D K) : Type 0 where
  pub beside : IsBeside old new
  pub gate : new.gate ≡ old.gate
  pub rows : new.rows ≡ put_stock stock (filter (is_clear_stock stock.row.path) old.rows)
  pub holds : new.holds ≡ with_hold command stock.row.path old.holds
  pub tickets : new.tickets.all
      ≡ map (lost_below (top_in (filter (overlaps_stock stock.row.path) old.rows) stock.row.path) stock.row number) old.tickets.all
  pub debris : new.debris.list ≡ with_remains false (jobs_of old.jobs) (filter (overlaps_stock stock.row.path) old.rows) old.debris.list
  pub spare : 2 * length old.jobs ≤ new.debris.spare
  pub jobs : new.jobs ≡ old.jobs
  pub kept : new.kept ≡ old.kept
  pub nodes : new.nodes ≡ old.nodes
  pub paths : new.paths ≡ old.paths
