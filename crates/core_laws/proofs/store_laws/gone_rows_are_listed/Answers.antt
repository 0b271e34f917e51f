use Rattle.core_laws.proofs.StoreSteps.{gone_kept}
use Rattle.core_laws.proofs.store_laws.gone_rows_are_listed.Goals as goal

pub returns : goal.returns
returns c = gone_kept
