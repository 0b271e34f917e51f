use Rattle.std.proofs.Common.{ℕ, List, subst}
use Rattle.mat_io.specs.Streams.{GrowsInPart}
use Rattle.buckd.proofs.RunLemmas.{flows_broke}
use Rattle.buckd.proofs.output.flush.Goals as goal

pub returns-in-Failed-clause-flows : goal.returns-in-Failed-clause-flows
returns-in-Failed-clause-flows g c = λ before text flows.
    flows_broke before (g.T.Sink.out c.args.output.now) (g.T.Sink.out c.write.new.self) c.args.gathered.now.items text flows
    (subst (λ (bs : List ℕ). GrowsInPart (g.T.Sink.out c.args.output.now) (g.T.Sink.out c.write.new.self) bs) c.as_slice.ensures.value c.in-Failed.ensures.bytes)

pub returns-in-NoMemory-clause-flows : goal.returns-in-NoMemory-clause-flows
returns-in-NoMemory-clause-flows g c = λ before text flows.
    flows_broke before (g.T.Sink.out c.args.output.now) (g.T.Sink.out c.write.new.self) c.args.gathered.now.items text flows
    (subst (λ (bs : List ℕ). GrowsInPart (g.T.Sink.out c.args.output.now) (g.T.Sink.out c.write.new.self) bs) c.as_slice.ensures.value c.in-NoMemory.ensures.bytes)
