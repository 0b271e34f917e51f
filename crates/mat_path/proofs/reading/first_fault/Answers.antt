use Rattle.std.proofs.Common.{sym}
use Rattle.mat_path.specs.Faults.{fault_at}
use Rattle.mat_path.proofs.ReadLemmas.{first_answer_found}
use Rattle.mat_path.proofs.reading.first_fault.Goals as goal

pub returns-in-Some : goal.returns-in-Some
returns-in-Some c = sym (first_answer_found (fault_at c.args.text.now) c.loop-at.at _ _ c.loop-at.invariant (sym c.in-Some.ensures) c.loop-at-test.true)
