-- A row that takes the bytes that are written.
use Rattle.std.specs.Prelude.{◌≡◌, ◌&&◌, ℕ, true, false, Bool, not, List, length, find, Some}
use Rattle.std.specs.List.{list_all}
use Rattle.mat_tree.specs.declared.flat.Flat.{Flat}
use Rattle.mat_tree.specs.Trees.{bytes_of}
use Rattle.mat_model.specs.declared.answers.Reply.{Reply}
use Rattle.mat_model.specs.declared.requests.Asked.{Asked}
use Rattle.mat_model.specs.declared.book.Row.{Row}
use Rattle.mat_model.specs.Declarations.{declare, is_equal_row}
use Rattle.mat_model.specs.History.{nodes_of, says_declared}
use Rattle.mat_model.specs.Requests.{RequestContext, serve_now}
use Rattle.mat_model.specs.Room.{entries_for}
use Rattle.mat_model.specs.WorkState.{held, writes_lying}
use Rattle.write_plan.specs.declared.method.Method.{Method}
use Rattle.row_book.specs.declared.stock.Stock.{Stock}
use Rattle.row_book.specs.Stocks.{held_of, is_held_method}
use Rattle.job_run.specs.Orders.{is_right}
use Rattle.mat_core.specs.Books.{book_in, way_in}
use Rattle.mat_core.specs.declared.parts.Parts.{Parts}
use Rattle.mat_core.specs.declared.writing.Lying.{Lying}

-- whether a stock's row is at a path, has a tree and doesn't stand
abbrev pub lies_equal : List (List ℕ) → List Flat → Stock → Bool
lies_equal path tree stock = is_equal_row path tree stock.row && not stock.row.stands

-- its stamp, how many bytes are held for it, and how many its files have
abbrev pub lying_of : Stock → Lying
lying_of stock = record { stamp = stock.row.stamp; held = held_of stock; bytes = bytes_of stock.row.tree }

-- a request writes a tree at a path, where a row that has it already and doesn't stand takes a method
pub record IsWriting {D K : Type 0} (request : Asked) (number command : ℕ) (path : List (List ℕ)) (tree : List Flat) (way : Method) (old : Parts D K) :
    Type 0 where
  -- it is served as the declaration of that
  pub served : (context : RequestContext) → serve_now number context request (book_in old) ≡ declare number command path tree (book_in old)
  -- it counts the nodes of the tree where it is declared, and is one entry
  pub nodes : (said : Reply) → says_declared said ≡ true → nodes_of request said (book_in old) ≡ length tree
  pub entries : (said : Reply) → says_declared said ≡ true → entries_for request said ≡ 1
  -- the row takes the method, by which its bytes are held
  pub writes : (row : Row) → find (is_equal_row path tree) (book_in old).rows ≡ Some row → row.stands ≡ false →
      writes_lying request (book_in old).rows ≡ true
  pub takes : way_in way ≡ held
  pub holds : is_held_method way ≡ true
  -- and these have the digest of each file of the tree
  pub right : list_all (is_right way) tree ≡ true
