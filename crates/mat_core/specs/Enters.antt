-- A command that comes, where a command is, and whether it may go.
use Rattle.std.specs.Prelude.{ℕ, suc, ◌==◌, ◌&&◌, Bool, true, false, if◌then◌else◌, Option, Some, None, count_by}
use Rattle.std.specs.List.{list_any, position}
use Rattle.mat_model.specs.declared.answers.Reply.{Reply}
use Rattle.mat_model.specs.declared.answers.Reply.TheVariants as reply
use Rattle.mat_model.specs.declared.book.Book.{Book}
use Rattle.mat_model.specs.declared.requests.Asked.{Asked}
use Rattle.mat_model.specs.declared.requests.Asked.TheVariants as asked
use Rattle.mat_model.specs.Gate.{Gate, gate_of, is_command, is_known, is_waiter}
use Rattle.mat_model.specs.Requests.{is_open_of}
use Rattle.mat_core.specs.declared.core_.Place.{Place}
use Rattle.mat_core.specs.declared.core_.Place.TheVariants as place

-- whether a reply is that a command took the place of those that were live
abbrev pub is_takeover : Reply → Bool
is_takeover (reply.Took count) = true
is_takeover _ = false

-- where a command is that isn't live: at a place of the queue, from 0, or nowhere
abbrev pub place_behind : Option ℕ → Place
place_behind None = place.Absent
place_behind (Some before) = place.Waiting (suc before)

-- where a command is
abbrev pub place_in : ℕ → Gate → Place
place_in command gate =
    if list_any (is_command command) gate.live then place.Live else place_behind (position (is_waiter command) gate.waiting)

-- whether a command may go: it is known, and has no open ticket
abbrev pub may_leave : ℕ → Book → Bool
may_leave command book = is_known command (gate_of book) && (count_by (is_open_of command) book.tickets == 0)

-- the command that a request lets go, if it does
abbrev pub leaving : Asked → Option ℕ
leaving (asked.Leave command) = Some command
leaving _ = None

-- whether a request is the leave of a command that may go
abbrev pub may_leave_so : Option ℕ → Book → Bool
may_leave_so None book = false
may_leave_so (Some command) book = may_leave command book

abbrev pub is_free_leave : Asked → Book → Bool
is_free_leave request book = may_leave_so (leaving request) book
