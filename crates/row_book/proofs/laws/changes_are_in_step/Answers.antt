use Rattle.row_book.proofs.RowLemmas.{rows_marked, rows_standing, rows_supplied, rows_used}
use Rattle.row_book.proofs.laws.changes_are_in_step.Goals as goal

pub returns : goal.returns
returns c = record { used = rows_used; standing = rows_standing; marked = rows_marked; supplied = rows_supplied }
