use Rattle.model_laws.proofs.LeavingLemmas.{cleaned_gone}
use Rattle.model_laws.proofs.clean_laws.cleaned_parts_are_wiped.Goals as goal

pub returns : goal.returns
returns c = cleaned_gone
