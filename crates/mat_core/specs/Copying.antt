-- What is copied from what is declared at a source.
use Rattle.std.specs.Prelude.{List, ℕ, length, drop, find, Option}
use Rattle.std.specs.Option.{option_and_then, option_map}
use Rattle.mat_tree.specs.declared.flat.Flat.{Flat}
use Rattle.mat_model.specs.Declarations.{tree_at}
use Rattle.write_plan.specs.declared.method.Method.{Method}
use Rattle.write_plan.specs.declared.method.Method.TheVariants as method
use Rattle.write_plan.specs.declared.method.Origin.{Origin}
use Rattle.write_plan.specs.declared.method.Origin.TheVariants as origin
use Rattle.row_book.specs.declared.stock.Stock.{Stock}
use Rattle.row_book.specs.Stocks.{covers_stock}
use Rattle.mat_core.specs.declared.copying.Copied.{Copied}

-- where the bytes of a copy come from, if nothing is lent: the daemon holds those of the source, or the store has them
abbrev pub origin_in : Method → Origin
origin_in (method.Write bytes) = origin.Inline bytes
origin_in method.Fetch = origin.Store
origin_in (method.Copy source rest stamp from) = from

-- the method of a copy of what a stock's row has at a rel
abbrev pub copy_of : Stock → List (List ℕ) → Method
copy_of stock rest = method.Copy stock.row.path rest stock.row.stamp (origin_in stock.method)

-- a tree that is copied from a stock's row at a path
abbrev pub with_copy : List (List ℕ) → Stock → List Flat → Copied
with_copy source stock tree = record { tree = tree; way = copy_of stock (drop (length stock.row.path) source) }

abbrev pub copied_at : List (List ℕ) → Stock → Option Copied
copied_at source stock = option_map (with_copy source stock) (tree_at source stock.row)

-- what is copied from a source, where something is declared there that isn't a link
abbrev pub copied_in : List Stock → List (List ℕ) → Option Copied
copied_in stocks source = option_and_then (copied_at source) (find (covers_stock source) stocks)
