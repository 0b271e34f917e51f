use Rattle.restart_scan.proofs.Found.{apart_kept, first_pair}
use Rattle.restart_scan.proofs.laws.neighbours_are_enough.Goals as goal

pub returns-clause-none : goal.returns-clause-none
returns-clause-none c = apart_kept

pub returns-clause-first : goal.returns-clause-first
returns-clause-first c = first_pair
