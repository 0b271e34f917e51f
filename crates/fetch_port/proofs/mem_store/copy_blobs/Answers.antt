use Rattle.std.proofs.Common.{rules}
use Rattle.fetch_port.proofs.Copies.{copied_more}
use Rattle.fetch_port.proofs.mem_store.copy_blobs.Goals as goal

pub loop-key-preserved : goal.loop-key-preserved
loop-key-preserved c =
    copied_more c.in-Some.key.now c.in-Some.bytes.now c.loop-key.copies.entries c.insert_copy.new.blobs.entries c.loop-key.key-iterator c.next.new.self c.args.blobs.now.entries
    (search rules) (search rules) c.loop-key.invariant c.iter-key-items.ensures.ordered
