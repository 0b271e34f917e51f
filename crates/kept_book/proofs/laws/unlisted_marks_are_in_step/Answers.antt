use Rattle.kept_book.proofs.LawLemmas.{unlisted_in_step}
use Rattle.kept_book.proofs.laws.unlisted_marks_are_in_step.Goals as goal

pub returns : goal.returns
returns c = unlisted_in_step
