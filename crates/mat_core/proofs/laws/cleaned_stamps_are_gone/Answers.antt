use Rattle.mat_core.proofs.CleanedLemmas.{cleaned_apart}
use Rattle.mat_core.proofs.laws.cleaned_stamps_are_gone.Goals as goal

pub returns : goal.returns
returns c opening history row right = cleaned_apart opening history right row
