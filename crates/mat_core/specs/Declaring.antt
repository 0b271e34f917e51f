-- A request that declares a tree at a path.
use Rattle.std.specs.Prelude.{◌≡◌, ◌+◌, nat_lt, ℕ, true, false, if◌then◌else◌, List, length, find, Option, Some, None}
use Rattle.std.specs.List.{list_all}
use Rattle.mat_tree.specs.declared.flat.Flat.{Flat}
use Rattle.mat_model.specs.declared.answers.Limit.{Limit}
use Rattle.mat_model.specs.declared.answers.Limit.TheVariants as limit
use Rattle.mat_model.specs.declared.answers.Reply.{Reply}
use Rattle.mat_model.specs.declared.book.Row.{Row}
use Rattle.mat_model.specs.declared.requests.Asked.{Asked}
use Rattle.mat_model.specs.Declarations.{declare, is_equal_row, new_row}
use Rattle.mat_model.specs.History.{nodes_of, says_declared}
use Rattle.mat_model.specs.Requests.{RequestContext, serve_now}
use Rattle.mat_model.specs.Room.{entries_for}
use Rattle.mat_model.specs.WorkState.{WorkState, way_declared, writes_lying}
use Rattle.write_plan.specs.declared.method.Method.{Method}
use Rattle.row_book.specs.declared.stock.Stock.{Stock}
use Rattle.job_run.specs.Orders.{is_right}
use Rattle.mat_core.specs.Books.{AreWork, book_in, way_in}
use Rattle.mat_core.specs.Rooms.{spent_in}
use Rattle.mat_core.specs.declared.parts.Parts.{Parts}

-- the limit of entries or of nodes that would be passed by an entry that declares so many nodes
abbrev pub full_nodes : {D K : Type 0} → Parts D K → ℕ → Option Limit
full_nodes parts nodes =
    if nat_lt parts.base.limits.history (spent_in parts + 1) then Some limit.History
    else if nat_lt parts.base.limits.nodes (parts.nodes + nodes) then Some limit.Nodes
    else None

-- the stock of a row as it is declared
abbrev pub new_stock : ℕ → ℕ → List (List ℕ) → List Flat → Method → Stock
new_stock number moment path tree way = record { row = new_row number moment path tree; method = way; dirty = false }

-- a request declares a tree at a path, whose bytes come from where a method says
pub record IsDeclaring {D K : Type 0} (request : Asked) (number command : ℕ) (path : List (List ℕ)) (tree : List Flat) (way : Method) (old : Parts D K) :
    Type 0 where
  -- it is served as the declaration of that
  pub served : (context : RequestContext) → serve_now number context request (book_in old) ≡ declare number command path tree (book_in old)
  -- it counts the nodes of the tree where it is declared, and is one entry
  pub nodes : (said : Reply) → says_declared said ≡ true → nodes_of request said (book_in old) ≡ length tree
  pub entries : (said : Reply) → says_declared said ≡ true → entries_for request said ≡ 1
  -- the new row's way is that of the method
  pub ways : (work : WorkState) → AreWork old work → way_declared request (book_in old).rows work.ways ≡ way_in way
  -- and a row that has the tree already takes no other one
  pub keeps : (row : Row) → find (is_equal_row path tree) (book_in old).rows ≡ Some row → writes_lying request (book_in old).rows ≡ false
  -- the bytes that are held by the method, if any are, have the digest of each file of the tree
  pub right : (work : WorkState) → AreWork old work → list_all (is_right way) tree ≡ true
