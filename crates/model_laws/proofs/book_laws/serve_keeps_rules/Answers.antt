use Rattle.model_laws.proofs.BooksKept.{serve_rules}
use Rattle.model_laws.proofs.book_laws.serve_keeps_rules.Goals as goal

pub returns : goal.returns
returns c = serve_rules
