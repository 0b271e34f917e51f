use Rattle.core_laws.proofs.StoreReads.{read_stored, stored_read}
use Rattle.core_laws.proofs.store_laws.stored_rows_are_read.Goals as goal

pub returns-clause-told : goal.returns-clause-told
returns-clause-told c = stored_read

pub returns-clause-kept : goal.returns-clause-kept
returns-clause-kept c = read_stored
