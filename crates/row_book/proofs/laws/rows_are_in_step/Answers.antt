use Rattle.row_book.proofs.RowLemmas.{rows_found, rows_left, rows_met, rows_put}
use Rattle.row_book.proofs.laws.rows_are_in_step.Goals as goal

pub returns : goal.returns
returns c = record { found = rows_found; left = rows_left; met = rows_met; put = rows_put }
