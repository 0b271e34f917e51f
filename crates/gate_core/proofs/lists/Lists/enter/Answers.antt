use Rattle.std.proofs.Common.{sym, ◌∙◌}
use Rattle.gate_core.specs.Lists.{gate_in}
use Rattle.gate_core.proofs.Rules.{free_come, free_take}
use Rattle.gate_core.proofs.lists.Lists.enter.Goals as goal

pub come-requires-clause-free : goal.come-requires-clause-free
come-requires-clause-free c = free_come c.args.state (gate_in c.args.self.now) c.requires.rules (sym c.admits.ensures ∙ c.if-admits.true)

pub take_over-requires-clause-free : goal.take_over-requires-clause-free
take_over-requires-clause-free c = free_take c.args.state (gate_in c.args.self.now) c.requires.rules (sym c.may_take.ensures ∙ c.if-may_take.true)
