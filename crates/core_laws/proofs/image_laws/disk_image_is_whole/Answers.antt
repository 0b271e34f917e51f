use Rattle.core_laws.proofs.RuleMoves.{disk_image}
use Rattle.core_laws.proofs.image_laws.disk_image_is_whole.Goals as goal

pub returns : goal.returns
returns c = disk_image
