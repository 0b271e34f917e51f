use Rattle.core_laws.proofs.ImageMoves.{given_image}
use Rattle.core_laws.proofs.image_laws.given_task_image_is_whole.Goals as goal

pub returns : goal.returns
returns c = given_image
