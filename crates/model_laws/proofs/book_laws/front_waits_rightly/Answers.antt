use Rattle.model_laws.proofs.BooksKept.{front_waits}
use Rattle.model_laws.proofs.book_laws.front_waits_rightly.Goals as goal

pub returns : goal.returns
returns c = front_waits
