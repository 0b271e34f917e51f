-- The path at and below which open tickets are answered, by the first row that overlaps one.
use Rattle.std.proofs.Common.{◌≡◌, ℕ, true, false, cond, List, [], ◌∷◌, filter, find, Option, Some, None, refl, sym, ap, ◌∙◌, ◌&&◌}
use Rattle.mat_path.specs.Names.{is_prefix}
use Rattle.mat_model.specs.Rows.{are_apart}
use Rattle.model_laws.specs.TicketRules.{top_of}
use Rattle.row_book.specs.declared.stock.Stock.{Stock}
use Rattle.row_book.specs.Stocks.{is_next_overlap, overlaps_stock, rows_of}
use Rattle.mat_core.specs.Replacing.{top_in}
use Rattle.mat_core.proofs.ReplaceLemmas.{top_same}

-- the path of a stock's row that is at or above one; else the path itself
abbrev pub top_by : List (List ℕ) → Option Stock → List (List ℕ)
top_by path None = path
top_by path (Some stock) = cond (is_prefix stock.row.path path) stock.row.path path

first_is : (path : List (List ℕ)) (stocks : List Stock) → top_in (filter (overlaps_stock path) stocks) path ≡ top_by path (find (is_next_overlap path None) stocks)
first_is path [] = refl
first_is path (stock ∷ stocks) =
    elim (overlaps_stock path stock) as
    (λ b. top_in (cond b (stock ∷ filter (overlaps_stock path) stocks) (filter (overlaps_stock path) stocks)) path
    ≡ top_by path (cond (b && true) (Some stock) (find (is_next_overlap path None) stocks))) [
      | true ↦ refl
      | false ↦ first_is path stocks
    ]

pub top_found : (path : List (List ℕ)) (stocks : List Stock) (found : Option Stock) → are_apart (rows_of stocks) ≡ true →
    found ≡ find (is_next_overlap path None) stocks → top_by path found ≡ top_of (rows_of stocks) path
top_found path stocks found apart is = ap (top_by path) is ∙ sym (first_is path stocks) ∙ top_same path stocks apart
