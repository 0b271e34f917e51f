use Rattle.std.proofs.Common.{arith}
use Rattle.reapi_dir.proofs.Answering.{are_bytes, message_there, no_refusal, one_message}
use Rattle.reapi_dir.proofs.read_laws.refusals_are_exact.Goals as goal

pub returns : goal.returns
returns c =
    let bytes = c.args.bytes.now in
    record {
      free = λ message spells. no_refusal bytes message (omega arith) spells;
      spelled = message_there bytes (are_bytes bytes c.type_inv.bytes);
      one = λ first second a b. one_message bytes first second (omega arith) a b;
    }
