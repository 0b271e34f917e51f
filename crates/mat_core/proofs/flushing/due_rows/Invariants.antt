use Rattle.std.proofs.Common.{length}
use Rattle.std.specs.List.{filter}
use Rattle.std.specs.Option.{option_map}
use Rattle.row_book.specs.Stocks.{is_past, rows_of}
use Rattle.mat_core.proofs.DueLemmas.{IsWalked}
use Rattle.mat_core.proofs.flushing.due_rows.Given as goal

-- what is stored of the rows so far, and what is of those behind the last one, is all
abbrev pub invariant-rows : goal.invariant-rows
invariant-rows l = IsWalked l.identity l.kept.marks (rows_of l.rows) (rows_of (filter (is_past (option_map (λ p. p.now) l.last)) l.rows)) l.due

abbrev pub decreases-rows : goal.decreases-rows
decreases-rows l = length (filter (is_past (option_map (λ p. p.now) l.last)) l.rows)
