use Rattle.model_laws.proofs.BooksKept.{idle_rules}
use Rattle.model_laws.proofs.book_laws.idle_keeps_rules.Goals as goal

pub returns : goal.returns
returns c = idle_rules
