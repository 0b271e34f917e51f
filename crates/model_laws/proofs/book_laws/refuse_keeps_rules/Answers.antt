use Rattle.model_laws.proofs.BooksKept.{refuse_rules}
use Rattle.model_laws.proofs.book_laws.refuse_keeps_rules.Goals as goal

pub returns : goal.returns
returns c = refuse_rules
