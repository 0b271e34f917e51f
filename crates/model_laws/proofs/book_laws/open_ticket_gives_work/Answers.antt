use Rattle.model_laws.proofs.BooksWork.{gives_work}
use Rattle.model_laws.proofs.book_laws.open_ticket_gives_work.Goals as goal

pub returns : goal.returns
returns c = gives_work
