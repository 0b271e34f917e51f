use Rattle.core_laws.proofs.CrashLemmas.{crash_image}
use Rattle.core_laws.proofs.crash_laws.crash_leaves_image.Goals as goal

pub returns : goal.returns
returns c = crash_image
