-- What a history means: the book, the work state and the stored rows after each entry.
use Rattle.mat_model.specs.Openings.{kept_at_opening, opening_debris, recovered}
use Rattle.mat_model.specs.declared.opening.Opening.{Opening}
use Rattle.std.specs.Prelude.{ℕ, ◌+◌, ◌&&◌, Bool, true, false, if◌then◌else◌, List, [], ◌∷◌, ◌++◌, length, map, Option, Some, None}
use Rattle.std.specs.List.{list_any}
use Rattle.mat_tree.specs.declared.flat.Flat.{Flat}
use Rattle.mat_model.specs.declared.answers.Device.{Device}
use Rattle.mat_model.specs.declared.answers.Device.TheVariants as device
use Rattle.mat_model.specs.declared.answers.FaultNote.{FaultNote}
use Rattle.mat_model.specs.declared.answers.Recorded.{Recorded}
use Rattle.mat_model.specs.declared.answers.Recorded.TheVariants as recorded
use Rattle.mat_model.specs.declared.answers.Reply.{Reply}
use Rattle.mat_model.specs.declared.answers.Reply.TheVariants as reply
use Rattle.mat_model.specs.declared.book.Book.{Book}
use Rattle.mat_model.specs.declared.entries.Entry.{Entry}
use Rattle.mat_model.specs.declared.entries.Event.{Event}
use Rattle.mat_model.specs.declared.entries.Event.TheVariants as event
use Rattle.mat_model.specs.declared.entries.Outcome.{Outcome}
use Rattle.mat_model.specs.declared.entries.Task.{Task}
use Rattle.mat_model.specs.declared.requests.Asked.{Asked}
use Rattle.mat_model.specs.declared.requests.Asked.TheVariants as asked
use Rattle.mat_model.specs.Declarations.{declared_at}
use Rattle.mat_model.specs.Gate.{Served}
use Rattle.mat_model.specs.Kept.{KeptRow, due, kept_asked, kept_begun, kept_done, may_fail, overlaps_kept}
use Rattle.mat_model.specs.Requests.{RequestContext, at_moment, serve}
use Rattle.mat_model.specs.Work.{finish, refuse}
use Rattle.mat_model.specs.WorkState.{Job, WorkState, ended, idle_work, path_of_task, refused, running, started, strays, work_asked}

-- what a history has led to: its entries so far, the book, the work state, the stored rows, and how many nodes were declared
pub record Point : Type 0 where
  pub history : List Entry
  pub book : Book
  pub work : WorkState
  pub kept : List KeptRow
  pub nodes : ℕ

-- the point of an opening
abbrev pub opened : Opening → Point
opened opening = record {
  history = [];
  book = recovered opening;
  work = idle_work (opening_debris opening);
  kept = map (kept_at_opening opening) opening.rows;
  nodes = 0;
}

-- the history number of the next entry
abbrev pub next_number : Point → ℕ
next_number point = point.book.first + length point.history

-- what a request's answer takes from beside the book
abbrev pub request_context : Point → RequestContext
request_context point = record { strays = strays point.work; due = due point.book point.kept }

-- ---- replies

-- whether a device is the store of kept rows
abbrev pub is_keeper : Device → Bool
is_keeper device.Disk = false
is_keeper device.Store = false
is_keeper device.Keeper = true

-- whether a reply is that this store failed
abbrev pub is_store_fault : Reply → Bool
is_store_fault (reply.Fault note) = is_keeper note.device
is_store_fault _ = false

-- a request with a reply: the one of the definitions, or that the store failed where it may, which changes nothing but the moment
abbrev pub answer_asked : Point → ℕ → Asked → Reply → Served
answer_asked point moment request said =
    if may_fail request point.book point.kept && is_store_fault said then record { reply = said; book = at_moment moment point.book }
    else serve (next_number point) moment (request_context point) request point.book

-- the note with which a job was refused, if it was
abbrev pub refusal_note : Reply → Option FaultNote
refusal_note (reply.Refused note) = Some note
refusal_note _ = None

-- the begin of a job started, or was refused with a note where the store failed to remove a stored row that overlaps its path
abbrev pub begin_with : Point → Task → Option FaultNote → Served
begin_with point begun None = record { reply = reply.Started; book = point.book }
begin_with point begun (Some note) =
    if is_keeper note.device && list_any (overlaps_kept (path_of_task begun)) point.kept then
    refuse (next_number point) begun note point.book
    else record { reply = reply.Started; book = point.book }

-- the begin of a job with a reply
abbrev pub answer_begin : Point → Task → Reply → Served
answer_begin point begun said = begin_with point begun (refusal_note said)

-- how a row was recorded, by the reply to the end of its make
abbrev pub recorded_as : Reply → Recorded
recorded_as (reply.Fresh how) = how
recorded_as _ = recorded.Nothing

-- the end of a job with a reply, where the job that runs under its number, if one does, is given
abbrev pub answer_done : Point → Outcome → Reply → Option Job → Served
answer_done point out said None = record { reply = reply.Stale; book = point.book }
answer_done point out said (Some job) = finish (next_number point) job.task out (recorded_as said) point.book

-- an event at a moment with a reply, from which only what the definitions leave open is taken
abbrev pub answer : Point → ℕ → Event → Reply → Served
answer point moment (event.Asked request) said = answer_asked point moment request said
answer point moment (event.Begin begun) said = answer_begin point begun said
answer point moment (event.Done job out) said = answer_done point out said (running job point.work)

-- ---- what comes of an event

-- the work state after a begin, which may have been refused with a note
abbrev pub work_begun : Point → ℕ → Task → Option FaultNote → WorkState
work_begun point caller begun None = started (next_number point) caller begun point.book.rows point.work
work_begun point caller begun (Some note) = refused begun point.work

-- the work state after an event of a caller that was served so
abbrev pub work_after : Point → ℕ → Event → Served → WorkState
work_after point caller (event.Asked request) served =
    work_asked request served.reply point.book.rows served.book.rows point.work
work_after point caller (event.Begin begun) served = work_begun point caller begun (refusal_note served.reply)
work_after point caller (event.Done job out) served =
    ended job out served.reply served.book.rows point.work (running job point.work)

-- the stored rows after a begin, which may have been refused with a note, and after an end with its reply
abbrev pub kept_started : Task → Option FaultNote → List KeptRow → List KeptRow
kept_started begun None kept = kept_begun begun kept
kept_started begun (Some note) kept = kept

abbrev pub kept_ended : Option Job → Served → List KeptRow → List KeptRow
kept_ended None served kept = kept
kept_ended (Some job) served kept = kept_done job.task served.reply served.book.rows kept

abbrev pub kept_after : Point → Event → Served → List KeptRow
kept_after point (event.Asked request) served = kept_asked request served.reply served.book.rows point.kept
kept_after point (event.Begin begun) served = kept_started begun (refusal_note served.reply) point.kept
kept_after point (event.Done job out) served = kept_ended (running job point.work) served point.kept

-- how many nodes a tree has, if there is one
abbrev pub nodes_in : Option (List Flat) → ℕ
nodes_in None = 0
nodes_in (Some tree) = length tree

-- whether a reply is that a tree is declared
abbrev pub says_declared : Reply → Bool
says_declared (reply.Declared stamp) = true
says_declared (reply.Kept stamp) = true
says_declared _ = false

-- how many nodes a request declares: whatever a write or a declaration is answered, and a copy where it is declared
abbrev pub nodes_of : Asked → Reply → Book → ℕ
nodes_of (asked.Write command path sum) said book = 1
nodes_of (asked.Declare command path tree) said book = length tree
nodes_of (asked.Copy command path source) said book = if says_declared said then nodes_in (declared_at book.rows source) else 0
nodes_of _ said book = 0

abbrev pub nodes_by : Event → Reply → Book → ℕ
nodes_by (event.Asked request) said book = nodes_of request said book
nodes_by (event.Begin begun) said book = 0
nodes_by (event.Done job out) said book = 0

-- the point after an event of a caller that was served so, with its entry
abbrev pub stepped : Point → Entry → Served → Point
stepped point entry served = record {
  history = point.history ++ entry ∷ [];
  book = served.book;
  work = work_after point entry.by.caller entry.event served;
  kept = kept_after point entry.event served;
  nodes = point.nodes + nodes_by entry.event served.reply point.book;
}

-- the point after an entry
abbrev pub after : Point → Entry → Point
after point entry = stepped point entry (answer point entry.now entry.event entry.reply)

-- the point after some entries
abbrev pub after_all : Point → List Entry → Point
after_all point [] = point
after_all point (entry ∷ entries) = after_all (after point entry) entries

-- the point, and the book, that a history leads to
abbrev pub point_of : Opening → List Entry → Point
point_of opening history = after_all (opened opening) history

abbrev pub book_of : Opening → List Entry → Book
book_of opening history = (point_of opening history).book
