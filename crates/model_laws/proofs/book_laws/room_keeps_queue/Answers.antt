use Rattle.model_laws.proofs.BooksRoom.{history_short}
use Rattle.model_laws.proofs.book_laws.room_keeps_queue.Goals as goal

pub returns : goal.returns
returns c = history_short
