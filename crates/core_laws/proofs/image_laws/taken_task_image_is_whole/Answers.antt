use Rattle.core_laws.proofs.ImageMoves.{taken_image}
use Rattle.core_laws.proofs.image_laws.taken_task_image_is_whole.Goals as goal

pub returns : goal.returns
returns c = taken_image
