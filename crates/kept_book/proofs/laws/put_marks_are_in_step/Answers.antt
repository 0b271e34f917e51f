use Rattle.kept_book.proofs.PutLemmas.{put_in_step}
use Rattle.kept_book.proofs.laws.put_marks_are_in_step.Goals as goal

pub returns : goal.returns
returns c = put_in_step
