use Rattle.std.proofs.Common.{◌≡◌, ◌++◌, filter, length, map}
use Rattle.std.specs.Option.{option_map}
use Rattle.row_book.specs.Stocks.{is_next_overlap, overlaps_stock, path_of}
use Rattle.mat_core.proofs.removing.list_overlapping.Given as goal

-- what was listed, and what comes behind the last row, is all
abbrev pub invariant-rows : goal.invariant-rows
invariant-rows l =
    l.paths.items ++ map path_of (filter (is_next_overlap l.path (option_map (λ p. p.now) l.last)) l.rows) ≡ map path_of (filter (overlaps_stock l.path) l.rows)

abbrev pub decreases-rows : goal.decreases-rows
decreases-rows l = length (filter (is_next_overlap l.path (option_map (λ p. p.now) l.last)) l.rows)
