use Rattle.core_laws.proofs.StoreSteps.{bytes_split}
use Rattle.core_laws.proofs.store_laws.bytes_split_rows.Goals as goal

pub returns : goal.returns
returns c = bytes_split
