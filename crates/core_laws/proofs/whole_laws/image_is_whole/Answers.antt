use Rattle.core_laws.proofs.ImageLemmas.{image_whole}
use Rattle.core_laws.proofs.whole_laws.image_is_whole.Goals as goal

pub returns : goal.returns
returns c = image_whole
