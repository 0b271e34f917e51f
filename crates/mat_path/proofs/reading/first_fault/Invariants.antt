use Rattle.std.proofs.Common.{◌≡◌, None}
use Rattle.mat_path.specs.Faults.{first_answer, fault_at}
use Rattle.mat_path.proofs.reading.first_fault.Given as goal

abbrev pub invariant-loop-at : goal.invariant-loop-at
invariant-loop-at l = first_answer (fault_at l.text) l.at ≡ None
