use Rattle.std.proofs.Common.{◌+◌, ◌≤◌, length}
use Rattle.gate_core.specs.Lists.{IsRoomy, admit_all, gate_in}
use Rattle.gate_core.proofs.Admitting.{Counts}
use Rattle.gate_core.proofs.lists.Lists.admit.Given as goal

abbrev pub invariant-admitting : goal.invariant-admitting
invariant-admitting l =
    Counts l.count (gate_in l.self) (admit_all (gate_in l.initial.self)) × IsRoomy l.self × (l.count + length l.self.waiting.items ≤ 64)

abbrev pub decreases-admitting : goal.decreases-admitting
decreases-admitting l = length l.self.waiting.items
