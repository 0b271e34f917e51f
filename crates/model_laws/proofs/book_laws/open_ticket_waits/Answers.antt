use Rattle.model_laws.proofs.BooksKept.{ticket_waits}
use Rattle.model_laws.proofs.book_laws.open_ticket_waits.Goals as goal

pub returns : goal.returns
returns c = ticket_waits
