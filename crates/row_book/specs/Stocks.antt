-- The stocks of a book: rows, each with what is kept beside it.
use Rattle.std.specs.Prelude.{ℕ, ◌&&◌, Bool, true, false, not, if◌then◌else◌, List, [], ◌∷◌, map, Option, Some, None}
use Rattle.std.specs.List.{sum_by}
use Rattle.mat_tree.specs.Trees.{bytes_of}
use Rattle.mat_model.specs.declared.book.Row.{Row}
use Rattle.mat_model.specs.Rows.{comes_after, comes_before, covers, is_at_path, is_clear_of, overlaps_row}
use Rattle.write_plan.specs.declared.method.Method.{Method}
use Rattle.write_plan.specs.declared.method.Method.TheVariants as method
use Rattle.write_plan.specs.declared.method.Origin.{Origin}
use Rattle.write_plan.specs.declared.method.Origin.TheVariants as origin
use Rattle.row_book.specs.declared.stock.Stock.{Stock}

-- the row of a stock
abbrev pub row_of : Stock → Row
row_of stock = stock.row

abbrev pub rows_of : List Stock → List Row
rows_of stocks = map row_of stocks

-- the path of a stock's row
abbrev pub path_of : Stock → List (List ℕ)
path_of stock = stock.row.path

-- whether a stock's row passes a test
abbrev pub row_passes : (Row → Bool) → Stock → Bool
row_passes test stock = test stock.row

-- whether a stock's row is at exactly a path, overlaps it, doesn't, is at another one, and covers it
abbrev pub stock_at : List (List ℕ) → Stock → Bool
stock_at path stock = is_at_path path stock.row

abbrev pub overlaps_stock : List (List ℕ) → Stock → Bool
overlaps_stock path stock = overlaps_row path stock.row

abbrev pub is_clear_stock : List (List ℕ) → Stock → Bool
is_clear_stock path stock = is_clear_of path stock.row

abbrev pub is_elsewhere : List (List ℕ) → Row → Bool
is_elsewhere path row = not (is_at_path path row)

abbrev pub is_stock_elsewhere : List (List ℕ) → Stock → Bool
is_stock_elsewhere path stock = is_elsewhere path stock.row

abbrev pub covers_stock : List (List ℕ) → Stock → Bool
covers_stock path stock = covers path stock.row

-- whether a stock comes behind a path, or no path is given
abbrev pub is_past : Option (List (List ℕ)) → Stock → Bool
is_past None stock = true
is_past (Some last) stock = comes_after last stock.row

-- whether a stock overlaps a path and comes behind another one, if one is given
abbrev pub is_next_overlap : List (List ℕ) → Option (List (List ℕ)) → Stock → Bool
is_next_overlap path last stock = overlaps_stock path stock && is_past last stock

-- whether the daemon holds the bytes of a row of this method
abbrev pub is_held_origin : Origin → Bool
is_held_origin (origin.Inline bytes) = true
is_held_origin origin.Store = false

abbrev pub is_held_method : Method → Bool
is_held_method (method.Write bytes) = true
is_held_method method.Fetch = false
is_held_method (method.Copy source rest stamp from) = is_held_origin from

-- how many bytes are held for a stock, and for all of some
abbrev pub held_of : Stock → ℕ
held_of stock = if is_held_method stock.method then bytes_of stock.row.tree else 0

abbrev pub held_bytes : List Stock → ℕ
held_bytes stocks = sum_by held_of stocks

-- a stock that is changed, if it is at a path
abbrev pub changed_at : List (List ℕ) → (Stock → Stock) → Stock → Stock
changed_at path change stock = if stock_at path stock then change stock else stock

-- a stock whose row's last use is at a moment
abbrev pub with_use : ℕ → Stock → Stock
with_use moment stock = record stock { row = record stock.row { last = moment } }

-- a stock whose row stands, so that its last make didn't fail
abbrev pub with_stand : Stock → Stock
with_stand stock = record stock { row = record stock.row { stands = true }; dirty = false }

-- a stock with or without its mark
abbrev pub with_mark : Bool → Stock → Stock
with_mark dirty stock = record stock { dirty = dirty }

-- a stock with another method
abbrev pub with_method : Method → Stock → Stock
with_method way stock = record stock { method = way }

-- the same, if the stock is at a path
abbrev pub used_stock : List (List ℕ) → ℕ → Stock → Stock
used_stock path moment stock = changed_at path (with_use moment) stock

abbrev pub standing_stock : List (List ℕ) → Stock → Stock
standing_stock path stock = changed_at path with_stand stock

abbrev pub marked_stock : List (List ℕ) → Bool → Stock → Stock
marked_stock path dirty stock = changed_at path (with_mark dirty) stock

abbrev pub supplied_stock : List (List ℕ) → Method → Stock → Stock
supplied_stock path way stock = changed_at path (with_method way) stock

-- a stock in its place, before the first one that comes after it
abbrev pub put_stock : Stock → List Stock → List Stock
put_stock new [] = new ∷ []
put_stock new (stock ∷ stocks) = if comes_before new.row.path stock.row.path then new ∷ stock ∷ stocks else stock ∷ put_stock new stocks
