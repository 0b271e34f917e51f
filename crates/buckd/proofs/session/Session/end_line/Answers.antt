use Rattle.std.proofs.Common.{◌∷◌, ◌++◌, [], Bool, refl, sym, subst}
use Rattle.buckd.specs.declared.session.Fed.{Fed}
use Rattle.buckd.specs.Streams.{Feeds}
use Rattle.buckd.proofs.RunLemmas.{LineServed, line_ended, line_flushed, line_served, stands_part}
use Rattle.buckd.proofs.session.Session.end_line.Goals as goal

pub returns-in-Ok-true-clause-fed : goal.returns-in-Ok-true-clause-fed
returns-in-Ok-true-clause-fed g c = λ read before stands.
    let line = line_served read c.args.bytes.now _ before (g.T.Sink.out c.args.output.now) c.args.self.now c.serve_with.new.self c.in-Ok-true.field-0
    c.requires.line refl c.in-Ok-true.ensures stands in
    line_ended (read ++ (c.args.bytes.now ++ 10 ∷ [])) before (g.T.Sink.out c.args.output.now) c.serve_with.new.self
    (subst (λ (b : Bool). LineServed (read ++ (c.args.bytes.now ++ 10 ∷ [])) before (g.T.Sink.out c.args.output.now) c.serve_with.new.self b) c.in-Ok-true.field-0-test line)

pub returns-in-Ok-false-clause-fed : goal.returns-in-Ok-false-clause-fed
returns-in-Ok-false-clause-fed g c = λ read before stands.
    let line = line_served read c.args.bytes.now _ before (g.T.Sink.out c.args.output.now) c.args.self.now c.serve_with.new.self c.in-Ok-false.field-0
    c.requires.line refl c.in-Ok-false.ensures stands in
    subst (λ (f : Fed). Feeds (read ++ (c.args.bytes.now ++ 10 ∷ [])) before (g.T.Sink.out c.flush_enough.new.output)
    record { daemon = c.serve_with.new.self.daemon; gathered = c.flush_enough.new.gathered; partial = c.serve_with.new.self.partial } f) (sym c.gone.ensures)
    (line_flushed (read ++ (c.args.bytes.now ++ 10 ∷ [])) before (g.T.Sink.out c.args.output.now) (g.T.Sink.out c.flush_enough.new.output)
    c.serve_with.new.self _ c.flush_enough.result refl refl c.flush_enough.ensures.flows
    (subst (λ (b : Bool). LineServed (read ++ (c.args.bytes.now ++ 10 ∷ [])) before (g.T.Sink.out c.args.output.now) c.serve_with.new.self b) c.in-Ok-false.field-0-test line))

pub returns-in-Err-clause-fed : goal.returns-in-Err-clause-fed
returns-in-Err-clause-fed g c = λ read before stands.
    stands_part read (c.args.bytes.now ++ 10 ∷ []) before (g.T.Sink.out c.args.output.now) c.args.self.now stands
