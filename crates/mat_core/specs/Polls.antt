-- What is told of a ticket, and of a job.
use Rattle.std.specs.Prelude.{ℕ, Option, Some, None}
use Rattle.mat_model.specs.declared.book.Given.{Given}
use Rattle.mat_model.specs.declared.book.Ticket.{Ticket}
use Rattle.mat_model.specs.declared.entries.Card.{Card}
use Rattle.mat_model.specs.WorkState.{Job}
use Rattle.mat_core.specs.declared.core_.Poll.{Poll}
use Rattle.mat_core.specs.declared.core_.Poll.TheVariants as poll

-- how a ticket stands that was answered or not
abbrev pub poll_given : Option Given → Poll
poll_given None = poll.Pending
poll_given (Some given) = poll.Answered given.answer

-- how a ticket stands, if there is one
abbrev pub poll_in : Option Ticket → Poll
poll_in None = poll.Unknown
poll_in (Some ticket) = poll_given ticket.answered

-- who began a job, and its card
abbrev pub owner_of : Job → ℕ × Card
owner_of job = (job.caller, record { job = job.number; task = job.task })
