-- What the end of a make answers.
use Rattle.std.specs.Prelude.{ℕ, List, Option, Some, None, map}
use Rattle.mat_model.specs.declared.answers.Answer.{Answer}
use Rattle.mat_model.specs.declared.answers.Answer.TheVariants as answer
use Rattle.mat_model.specs.declared.book.Row.{Row}
use Rattle.mat_model.specs.declared.book.Ticket.{Ticket}
use Rattle.mat_model.specs.declared.entries.Outcome.{Outcome}
use Rattle.mat_model.specs.declared.entries.Outcome.TheVariants as outcome
use Rattle.mat_model.specs.Tickets.{answered_by}

-- the answer that the end of a row's make is to its tickets
abbrev pub answer_of : Row → Outcome → Option Answer
answer_of row outcome.Made = Some (answer.Ready row.stamp row.sum)
answer_of row outcome.Wiped = None
answer_of row (outcome.Missing digest) = Some (answer.Missing digest)
answer_of row (outcome.Corrupt wanted found) = Some (answer.Corrupt wanted found)
answer_of row (outcome.Fault note) = Some (answer.Fault note)
answer_of row outcome.NoMemory = Some answer.NoMemory

-- tickets after an answer, if there is one, was given to those that are open on a row
abbrev pub tickets_answered : Row → ℕ → List Ticket → Option Answer → List Ticket
tickets_answered row number tickets None = tickets
tickets_answered row number tickets (Some given) = map (answered_by row number given) tickets
