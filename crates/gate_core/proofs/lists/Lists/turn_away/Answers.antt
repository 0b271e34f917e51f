use Rattle.std.proofs.Common.{rules}
use Rattle.gate_core.specs.Lists.{gate_in}
use Rattle.gate_core.proofs.Rules.{free_queue}
use Rattle.gate_core.proofs.lists.Lists.turn_away.Goals as goal

pub wait-requires-clause-free : goal.wait-requires-clause-free
wait-requires-clause-free c = free_queue (gate_in c.args.self.now) c.requires.rules (search rules)
