use Rattle.model_laws.proofs.BooksKept.{finish_rules}
use Rattle.model_laws.proofs.book_laws.finish_keeps_rules.Goals as goal

pub returns : goal.returns
returns c = finish_rules
