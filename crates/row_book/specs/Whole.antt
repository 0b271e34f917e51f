-- How stocks stand in a trie, and what a book keeps beside it.
use Rattle.std.specs.Prelude.{◌≡◌, ℕ, Bool, true, if◌then◌else◌, List, [], ◌∷◌, ◌++◌, map, Option, Some, None}
use Rattle.std.specs.List.{filter, filter_map, find, slice_get}
use Rattle.mat_path.specs.Names.{is_prefix}
use Rattle.mat_model.specs.Rows.{are_apart}
use Rattle.path_trie.specs.Entries.{is_at, is_behind, is_next_under, is_under, value_of}
use Rattle.path_trie.specs.declared.entry.Entry.{Entry}
use Rattle.row_book.specs.declared.stock.Stock.{Stock}
use Rattle.row_book.specs.Stocks.{held_bytes, is_stock_elsewhere, rows_of, stock_at}

-- what stands at a path of the trie: a stock, but while it is changed
abbrev pub Place : Type 0
Place = Entry (Option Stock)

-- the place of a stock
abbrev pub place_of : Stock → Place
place_of stock = record { path = stock.row.path; value = Some stock }

-- a place with another value, if it is at a path
abbrev pub set_place : List (List ℕ) → Option Stock → Place → Place
set_place path value place = if is_at path place then record place { value = value } else place

-- the stocks of a trie
abbrev pub stocks_of : List Place → List Stock
stocks_of places = filter_map value_of places

-- whether a stock's row is at a prefix of a path
abbrev pub leads_to : List (List ℕ) → Stock → Bool
leads_to path stock = is_prefix stock.row.path path

-- whether a stock's row is at or below a path
abbrev pub is_under_stock : List (List ℕ) → Stock → Bool
is_under_stock path stock = is_prefix path stock.row.path

-- the stock of what was found in the trie
abbrev pub stock_found : {X : Type 0} → Option (X × Option Stock) → Option Stock
stock_found None = None
stock_found (Some found) = found.1

-- the stock that is there, if one is
abbrev pub listed : Option Stock → List Stock
listed None = []
listed (Some stock) = stock ∷ []

-- the stocks without those at some paths, and those that are taken out path by path
abbrev pub without_stocks : List (List (List ℕ)) → List Stock → List Stock
without_stocks [] stocks = stocks
without_stocks (path ∷ paths) stocks = without_stocks paths (filter (is_stock_elsewhere path) stocks)

abbrev pub taken_stocks : List (List (List ℕ)) → List Stock → List Stock
taken_stocks [] stocks = []
taken_stocks (path ∷ paths) stocks = listed (find (stock_at path) stocks) ++ taken_stocks paths (filter (is_stock_elsewhere path) stocks)

-- whether a place is at or below a path, and comes behind another one, if one is given
abbrev pub is_later_under : List (List ℕ) → Option (List (List ℕ)) → Place → Bool
is_later_under path None place = is_under path place
is_later_under path (Some last) place = is_next_under path last place

-- the first place of all, behind a path, if one is given
abbrev pub first_later : Option (List (List ℕ)) → List Place → Option Place
first_later None places = slice_get places 0
first_later (Some last) places = find (is_behind last) places

-- a book: each stock stands at the path of its row, the rows are apart, and the bytes that are held are counted
pub record IsWhole (places : List Place) (held : ℕ) : Type 0 where
  pub placed : places ≡ map place_of (stocks_of places)
  pub apart : are_apart (rows_of (stocks_of places)) ≡ true
  pub counted : held ≡ held_bytes (stocks_of places)
