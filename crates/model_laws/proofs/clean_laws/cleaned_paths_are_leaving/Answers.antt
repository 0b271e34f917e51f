use Rattle.model_laws.proofs.LeavingLemmas.{cleaned_leaving_later}
use Rattle.model_laws.proofs.clean_laws.cleaned_paths_are_leaving.Goals as goal

pub returns : goal.returns
returns c = cleaned_leaving_later
