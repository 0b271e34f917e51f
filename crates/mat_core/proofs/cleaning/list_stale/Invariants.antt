use Rattle.std.proofs.Common.{filter, length}
use Rattle.std.specs.Option.{option_map}
use Rattle.row_book.specs.Stocks.{is_past}
use Rattle.mat_core.proofs.CleanLemmas.{IsPickedTo}
use Rattle.mat_core.proofs.cleaning.list_stale.Given as goal

-- what was picked and what is listed of the rows behind the last one is all
abbrev pub invariant-rows : goal.invariant-rows
invariant-rows l = IsPickedTo l.cutoff l.holds l.rows (option_map (λ p. p.now) l.last) l.picker

abbrev pub decreases-rows : goal.decreases-rows
decreases-rows l = length (filter (is_past (option_map (λ p. p.now) l.last)) l.rows)
