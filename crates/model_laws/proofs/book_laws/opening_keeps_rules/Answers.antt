use Rattle.model_laws.proofs.BooksKept.{opened_rules}
use Rattle.model_laws.proofs.book_laws.opening_keeps_rules.Goals as goal

pub returns : goal.returns
returns c = opened_rules
