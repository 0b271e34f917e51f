use Rattle.core_laws.proofs.StoreMoves.{entry_leaves, entry_store}
use Rattle.core_laws.proofs.store_laws.quiet_entry_leaves_kept.Goals as goal

pub returns-clause-kept : goal.returns-clause-kept
returns-clause-kept c = entry_leaves

pub returns-clause-store : goal.returns-clause-store
returns-clause-store c = entry_store
