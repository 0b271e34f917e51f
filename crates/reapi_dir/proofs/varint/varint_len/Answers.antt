use Rattle.std.proofs.Common.{arith}
use Rattle.mat_tree.proofs.Varints.{varint_longer, varint_one, varint_short}
use Rattle.reapi_dir.proofs.varint.varint_len.Goals as goal

pub overflow_add-len : goal.overflow_add-len
overflow_add-len c = omega (arith, varint_short c.args.number)

pub groups-preserved : goal.groups-preserved
groups-preserved c = omega (arith, varint_longer c.groups.rest (omega arith) c.groups-test.true)

pub returns-clause-value : goal.returns-clause-value
returns-clause-value c = omega (arith, varint_one c.groups.rest c.groups-test.false)

pub returns-clause-short : goal.returns-clause-short
returns-clause-short c = omega (arith, varint_one c.groups.rest c.groups-test.false, varint_short c.args.number)
