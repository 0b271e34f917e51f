-- What an event leaves of a book, case by case.
use Rattle.std.proofs.Common.{◌≡◌, ℕ, true, false, ◌&&◌, Some, None, cond, refl}
use Rattle.std.specs.List.{list_any}
use Rattle.mat_model.specs.declared.answers.FaultNote.{FaultNote}
use Rattle.mat_model.specs.declared.answers.Recorded.{Recorded}
use Rattle.mat_model.specs.declared.answers.Reply.{Reply}
use Rattle.mat_model.specs.declared.answers.Reply.TheVariants as reply
use Rattle.mat_model.specs.declared.book.Book.{Book}
use Rattle.mat_model.specs.declared.entries.Event.{Event}
use Rattle.mat_model.specs.declared.entries.Event.TheVariants as event
use Rattle.mat_model.specs.declared.entries.Outcome.{Outcome}
use Rattle.mat_model.specs.declared.entries.Task.{Task}
use Rattle.mat_model.specs.declared.requests.Asked.{Asked}
use Rattle.mat_model.specs.Requests.{at_moment, serve}
use Rattle.mat_model.specs.Work.{finish, refuse}
use Rattle.mat_model.specs.WorkState.{path_of_task, running}
use Rattle.mat_model.specs.History.{Point, answer, answer_done, request_context, begin_with, is_store_fault, is_keeper, next_number, recorded_as, refusal_note}
use Rattle.mat_model.specs.Kept.{may_fail, overlaps_kept}

-- what is true of a book at any moment, after each request, and after the refusal and the end of each job, is true after each event
pub record Events (P : Book → Type 0) (point : Point) (moment : ℕ) (what : Event) : Type 0 where
  -- it is true of the book as it is
  pub same : P point.book
  -- it is true of the book at the later moment
  pub later : P (at_moment moment point.book)
  -- it is true after a request
  pub asks : (request : Asked) → what ≡ event.Asked request → P (serve (next_number point) moment (request_context point) request point.book).book
  -- it is true after the begin of a job was refused
  pub refuses : (begun : Task) (note : FaultNote) → P (refuse (next_number point) begun note point.book).book
  -- it is true after the end of a job
  pub ends : (task : Task) (out : Outcome) (how : Recorded) → P (finish (next_number point) task out how point.book).book

-- what is true in each case is true of the book after an event
pub after_event : (P : Book → Type 0) (point : Point) (moment : ℕ) (what : Event) (said : Reply) → Events P point moment what →
    P (answer point moment what said).book
after_event P point moment (event.Asked request) said events =
    elim (may_fail request point.book point.kept && is_store_fault said) as
    (λ b. P (cond b (record { reply = said; book = at_moment moment point.book }) (serve (next_number point) moment (request_context point) request point.book)).book)
    [ true ↦ events.later | false ↦ events.asks request refl ]
after_event P point moment (event.Begin begun) said events =
    elim (refusal_note said) as (λ o. P (begin_with point begun o).book) [
      | None ↦ events.same
      | Some note ↦
          elim (is_keeper note.device && list_any (overlaps_kept (path_of_task begun)) point.kept) as
          (λ b. P (cond b (refuse (next_number point) begun note point.book) (record { reply = reply.Started; book = point.book })).book)
          [ true ↦ events.refuses begun note | false ↦ events.same ]
    ]
after_event P point moment (event.Done job out) said events =
    elim (running job point.work) as (λ o. P (answer_done point out said o).book)
    [ None ↦ events.same | Some ran ↦ events.ends ran.task out (recorded_as said) ]
