use Rattle.std.proofs.Common.{◌≡◌, ◌++◌, ◌-◌, filter, length, slice_get}
use Rattle.std.specs.Option.{option_map}
use Rattle.mat_model.specs.Openings.{path_of_row}
use Rattle.row_book.specs.Stocks.{is_past, rows_of}
use Rattle.mat_core.proofs.listing.copy_rows.Given as goal

-- the copies in front of the rows behind the last of them are all rows
abbrev pub invariant-rows : goal.invariant-rows
invariant-rows l =
    l.copies.items ++ rows_of (filter (is_past (option_map path_of_row (slice_get l.copies.items (length l.copies.items - 1)))) l.rows) ≡ rows_of l.rows

abbrev pub decreases-rows : goal.decreases-rows
decreases-rows l = length (rows_of l.rows) - length l.copies.items
