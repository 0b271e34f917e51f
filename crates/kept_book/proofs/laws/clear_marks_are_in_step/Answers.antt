use Rattle.kept_book.proofs.LawLemmas.{clear_in_step}
use Rattle.kept_book.proofs.laws.clear_marks_are_in_step.Goals as goal

pub returns : goal.returns
returns c = clear_in_step
