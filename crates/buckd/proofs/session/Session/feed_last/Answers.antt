use Rattle.std.proofs.Common.{◌∙◌}
use Rattle.buckd.proofs.RunLemmas.{last_part, last_served}
use Rattle.buckd.proofs.session.Session.feed_last.Goals as goal

pub returns-in-Ok-true-clause-fed : goal.returns-in-Ok-true-clause-fed
returns-in-Ok-true-clause-fed c = λ read before out stands.
    let last = last_served read before out c.args.self.now c.serve_line.new.self c.in-Ok-true.field-0 c.in-Ok-true.ensures stands in
    record { ended = last.0 ∙ c.in-Ok-true.field-0-test; served = last.1 }

pub returns-in-Ok-false-clause-fed : goal.returns-in-Ok-false-clause-fed
returns-in-Ok-false-clause-fed c = λ read before out stands.
    let last = last_served read before out c.args.self.now c.serve_line.new.self c.in-Ok-false.field-0 c.in-Ok-false.ensures stands in
    (last.0 ∙ c.in-Ok-false.field-0-test, last.1)

pub returns-in-Err-clause-fed : goal.returns-in-Err-clause-fed
returns-in-Err-clause-fed c = λ read before out stands. last_part read before out c.args.self.now stands
