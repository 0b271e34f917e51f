use Rattle.model_laws.proofs.BooksKept.{asker_busy}
use Rattle.model_laws.proofs.book_laws.asker_stays.Goals as goal

pub returns : goal.returns
returns c = asker_busy
