use Rattle.std.proofs.Common.{◌≡◌, ◌+◌, count_by, filter, length}
use Rattle.std.specs.Option.{option_map}
use Rattle.row_book.specs.Stocks.{held_bytes, is_next_overlap, overlaps_stock}
use Rattle.mat_core.specs.Falling.{is_unkept}
use Rattle.mat_core.proofs.falling.fall_at.Given as goal

-- what was counted, and what comes behind the last row, is all
abbrev pub invariant-rows : goal.invariant-rows
invariant-rows l = record {
  rows : l.count + length (filter (is_next_overlap l.path (option_map (λ p. p.now) l.last)) l.rows) ≡ length (filter (overlaps_stock l.path) l.rows);
  unkept : l.unkept + count_by (is_unkept l.kept.marks) (filter (is_next_overlap l.path (option_map (λ p. p.now) l.last)) l.rows)
      ≡ count_by (is_unkept l.kept.marks) (filter (overlaps_stock l.path) l.rows);
  held : l.held + held_bytes (filter (is_next_overlap l.path (option_map (λ p. p.now) l.last)) l.rows) ≡ held_bytes (filter (overlaps_stock l.path) l.rows);
}

abbrev pub decreases-rows : goal.decreases-rows
decreases-rows l = length (filter (is_next_overlap l.path (option_map (λ p. p.now) l.last)) l.rows)
