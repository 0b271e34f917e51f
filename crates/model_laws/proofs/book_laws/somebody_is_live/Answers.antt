use Rattle.model_laws.proofs.BooksKept.{somebody_live}
use Rattle.model_laws.proofs.book_laws.somebody_is_live.Goals as goal

pub returns : goal.returns
returns c = somebody_live
