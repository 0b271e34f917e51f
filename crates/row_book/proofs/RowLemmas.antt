-- Rows go along with their stocks.
use Rattle.path_trie.proofs.Lists.{filter_in}
use Rattle.std.proofs.Common.{◌≡◌, ℕ, Bool, true, false, cond, ◌||◌, List, [], ◌∷◌, map, refl, ◌∙◌, sym, ap}
use Rattle.std.specs.List.{filter, find, list_any}
use Rattle.std.specs.Option.{option_map}
use Rattle.mat_model.specs.declared.book.Row.{Row}
use Rattle.mat_model.specs.Rows.{comes_before, put_row, standing_row, used_row}
use Rattle.write_plan.specs.declared.method.Method.{Method}
use Rattle.row_book.specs.declared.stock.Stock.{Stock}
use Rattle.row_book.specs.Stocks.{marked_stock, put_stock, row_of, row_passes, rows_of, standing_stock, stock_at, supplied_stock, used_stock}
use Rattle.row_book.proofs.FindLemmas.{row_found}

pub rows_found : (test : Row → Bool) (stocks : List Stock) → option_map row_of (find (row_passes test) stocks) ≡ find test (rows_of stocks)
rows_found test stocks = row_found test stocks _ refl

pub rows_left : (test : Row → Bool) (stocks : List Stock) → rows_of (filter (row_passes test) stocks) ≡ filter test (rows_of stocks)
rows_left test stocks = sym (filter_in row_of test (row_passes test) (λ s. refl) stocks)

pub rows_met : (test : Row → Bool) (stocks : List Stock) → list_any (row_passes test) stocks ≡ list_any test (rows_of stocks)
rows_met test [] = refl
rows_met test (s ∷ ss) = ap (λ b. test s.row || b) (rows_met test ss)

pub rows_put : (new : Stock) (stocks : List Stock) → rows_of (put_stock new stocks) ≡ put_row new.row (rows_of stocks)
rows_put new [] = refl
rows_put new (s ∷ ss) = by (comes_before new.row.path s.row.path) (rows_put new ss)
  where
    by : (b : Bool) → rows_of (put_stock new ss) ≡ put_row new.row (rows_of ss)
        → rows_of (cond b (new ∷ s ∷ ss) (s ∷ put_stock new ss)) ≡ cond b (new.row ∷ s.row ∷ rows_of ss) (s.row ∷ put_row new.row (rows_of ss))
    by true e = refl
    by false e = ap (λ (rows : List Row). s.row ∷ rows) e

-- a change of each stock is one of each row
pub rows_changed : (f : Stock → Stock) (g : Row → Row) → ((s : Stock) → (f s).row ≡ g s.row) → (stocks : List Stock) → rows_of (map f stocks) ≡ map g (rows_of stocks)
rows_changed f g each [] = refl
rows_changed f g each (s ∷ ss) = ap (λ (r : Row). r ∷ rows_of (map f ss)) (each s) ∙ ap (λ (rows : List Row). g s.row ∷ rows) (rows_changed f g each ss)

rows_kept : (f : Stock → Stock) → ((s : Stock) → (f s).row ≡ s.row) → (stocks : List Stock) → rows_of (map f stocks) ≡ rows_of stocks
rows_kept f each [] = refl
rows_kept f each (s ∷ ss) = ap (λ (r : Row). r ∷ rows_of (map f ss)) (each s) ∙ ap (λ (rows : List Row). s.row ∷ rows) (rows_kept f each ss)

used_is : (path : List (List ℕ)) (moment : ℕ) (s : Stock) → (used_stock path moment s).row ≡ used_row path moment s.row
used_is path moment s =
    elim (stock_at path s) as
    (λ b. (cond b (record s { row = record s.row { last = moment } }) s).row ≡ cond b (record s.row { last = moment }) s.row) [ true ↦ refl | false ↦ refl ]

standing_is : (path : List (List ℕ)) (s : Stock) → (standing_stock path s).row ≡ standing_row path s.row
standing_is path s =
    elim (stock_at path s) as
    (λ b. (cond b (record s { row = record s.row { stands = true }; dirty = false }) s).row ≡ cond b (record s.row { stands = true }) s.row) [ true ↦ refl | false ↦ refl ]

marked_is : (path : List (List ℕ)) (dirty : Bool) (s : Stock) → (marked_stock path dirty s).row ≡ s.row
marked_is path dirty s = elim (stock_at path s) as (λ b. (cond b (record s { dirty = dirty }) s).row ≡ s.row) [ true ↦ refl | false ↦ refl ]

supplied_is : (path : List (List ℕ)) (way : Method) (s : Stock) → (supplied_stock path way s).row ≡ s.row
supplied_is path way s = elim (stock_at path s) as (λ b. (cond b (record s { method = way }) s).row ≡ s.row) [ true ↦ refl | false ↦ refl ]

pub rows_used : (path : List (List ℕ)) (moment : ℕ) (stocks : List Stock) → rows_of (map (used_stock path moment) stocks) ≡ map (used_row path moment) (rows_of stocks)
rows_used path moment = rows_changed (used_stock path moment) (used_row path moment) (used_is path moment)

pub rows_standing : (path : List (List ℕ)) (stocks : List Stock) → rows_of (map (standing_stock path) stocks) ≡ map (standing_row path) (rows_of stocks)
rows_standing path = rows_changed (standing_stock path) (standing_row path) (standing_is path)

pub rows_marked : (path : List (List ℕ)) (dirty : Bool) (stocks : List Stock) → rows_of (map (marked_stock path dirty) stocks) ≡ rows_of stocks
rows_marked path dirty = rows_kept (marked_stock path dirty) (marked_is path dirty)

pub rows_supplied : (path : List (List ℕ)) (way : Method) (stocks : List Stock) → rows_of (map (supplied_stock path way) stocks) ≡ rows_of stocks
rows_supplied path way = rows_kept (supplied_stock path way) (supplied_is path way)
