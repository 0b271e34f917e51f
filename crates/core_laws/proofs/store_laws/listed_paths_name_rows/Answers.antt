use Rattle.core_laws.proofs.StoreLemmas.{listed_named}
use Rattle.core_laws.proofs.store_laws.listed_paths_name_rows.Goals as goal

pub returns : goal.returns
returns c = listed_named
