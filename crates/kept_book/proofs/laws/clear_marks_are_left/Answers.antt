use Rattle.kept_book.proofs.ClearLemmas.{clear_left}
use Rattle.kept_book.proofs.laws.clear_marks_are_left.Goals as goal

pub returns : goal.returns
returns c = clear_left
