use Rattle.std.proofs.Common.{arith}
use Rattle.row_bytes.proofs.RowBack.{is_found, is_whole}
use Rattle.row_bytes.proofs.read.read_row.Goals as goal

pub returns-clause-ok : goal.returns-clause-ok
returns-clause-ok c = is_found c.args.body.now c.read_version.result (λ i. omega (arith, c.type_inv.body i)) c.read_version.ensures

pub returns-clause-whole : goal.returns-clause-whole
returns-clause-whole c = is_whole c.args.body.now c.read_version.result c.read_version.ensures
