use Rattle.std.proofs.Common.{◌≡◌, None}
use Rattle.mat_path.specs.Faults.{first_answer, name_fault_at}
use Rattle.mat_path.proofs.reading.first_name_fault.Given as goal

abbrev pub invariant-loop-at : goal.invariant-loop-at
invariant-loop-at l = first_answer (name_fault_at l.text) l.at ≡ None
