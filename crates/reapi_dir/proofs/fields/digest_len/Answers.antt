use Rattle.std.proofs.Common.{arith}
use Rattle.reapi_dir.proofs.Measures.{length_digest}
use Rattle.reapi_dir.proofs.fields.digest_len.Goals as goal

pub returns-clause-value : goal.returns-clause-value
returns-clause-value c = length_digest c.args.digest.now c.field_len.result c.number_len.result (omega arith) c.field_len.ensures.value c.number_len.ensures.value
