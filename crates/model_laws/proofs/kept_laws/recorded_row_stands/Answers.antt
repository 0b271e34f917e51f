use Rattle.model_laws.proofs.RecordedStands.{record_stands}
use Rattle.model_laws.proofs.kept_laws.recorded_row_stands.Goals as goal

pub returns : goal.returns
returns c = record_stands
