use Rattle.core_laws.proofs.StoreReads.{kept_alike}
use Rattle.core_laws.proofs.store_laws.stored_rows_are_kept.Goals as goal

pub returns : goal.returns
returns c = kept_alike
