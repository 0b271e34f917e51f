use Rattle.std.proofs.Common.{◌-◌, ap, arith, drop, length, length-drop, take}
use Rattle.std.proofs.lemmas.List.{take_all}
use Rattle.mat_io.proofs.Known.{Grows-piece}
use Rattle.mat_io.proofs.std_sink.StdSinkSink.write.Goals as goal

pub pieces-preserved : goal.pieces-preserved
pieces-preserved g c =
    let bytes = c.args.bytes.now in
    let rest = take (length bytes - c.pieces.at) (drop c.pieces.at bytes) in
    let len = length-drop c.pieces.at bytes in
    let all = take_all (length bytes - c.pieces.at) (drop c.pieces.at bytes) (omega (arith, len)) in
    let fits = c.in-Ok.ensures.bound in
    record {
      within = omega (arith, len, ap length all);
      grown = Grows-piece (g.W.Write.contents c.args.self.now.inner) (g.W.Write.contents c.pieces.self.inner)
          (g.W.Write.contents c.write_retrying.new.inner) bytes rest c.pieces.at c.in-Ok.count all c.pieces.invariant.grown
          c.in-Ok.ensures.bytes;
      same = c.pieces.invariant.same;
    }
