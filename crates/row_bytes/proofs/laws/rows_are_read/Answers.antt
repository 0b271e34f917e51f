use Rattle.std.proofs.Common.{arith}
use Rattle.row_bytes.proofs.RowBack.{one_row, row_again, row_takes}
use Rattle.row_bytes.proofs.laws.rows_are_read.Goals as goal

pub returns-clause-read : goal.returns-clause-read
returns-clause-read c = λ row h. row_again c.args.bytes.now row h

pub returns-clause-row : goal.returns-clause-row
returns-clause-row c = λ row e. row_takes c.args.bytes.now row (λ i. omega (arith, c.type_inv.bytes i)) e

pub returns-clause-one : goal.returns-clause-one
returns-clause-one c = λ first second a b. one_row c.args.bytes.now first second a b
