use Rattle.std.proofs.Common.{arith}
use Rattle.reapi_dir.proofs.Answering.{answer_exact, answer_spells, answer_whole, are_bytes}
use Rattle.reapi_dir.proofs.read.read_dir.Goals as goal

pub returns : goal.returns
returns c =
    let bytes = c.args.bytes.now in
    let facts = c.read_message.ensures in
    record {
      ok = answer_spells bytes c.read_message.result (are_bytes bytes c.type_inv.bytes) facts.ok;
      whole = answer_whole bytes c.read_message.result (omega arith) facts.ok facts.err;
      exact = answer_exact bytes c.read_message.result facts.ok facts.err;
    }
