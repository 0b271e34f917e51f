use Rattle.keep_port.proofs.Places.{row_at_put, row_at_removed, row_at_touched}
use Rattle.keep_port.proofs.laws.steps_tell_each_row.Goals as goal

pub returns-clause-put : goal.returns-clause-put
returns-clause-put c = row_at_put

pub returns-clause-touched : goal.returns-clause-touched
returns-clause-touched c = row_at_touched

pub returns-clause-removed : goal.returns-clause-removed
returns-clause-removed c = row_at_removed
