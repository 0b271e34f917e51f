use Rattle.model_laws.proofs.BooksKept.{history_rules}
use Rattle.model_laws.proofs.book_laws.history_keeps_rules.Goals as goal

pub returns : goal.returns
returns c = history_rules
