-- A begin that was refused, on the books of a core: its parts stand for the point behind its entry.
use Rattle.std.proofs.Common.{◌≡◌, ◌+◌, ℕ, true, false, ◌&&◌, cond, List, [], ◌∷◌, ◌++◌, map, Contains, Some, refl, sym, ap, subst, ◌∙◌, arith}
use Rattle.std.specs.List.{list_any}
use Rattle.hall_lock.specs.declared.By.{By}
use Rattle.mat_model.specs.declared.answers.Answer.TheVariants as answer
use Rattle.mat_model.specs.declared.answers.Device.TheVariants as device
use Rattle.mat_model.specs.declared.answers.FaultNote.{FaultNote}
use Rattle.mat_model.specs.declared.answers.Reply.TheVariants as reply
use Rattle.mat_model.specs.declared.book.Book.{Book}
use Rattle.mat_model.specs.declared.entries.Entry.{Entry}
use Rattle.mat_model.specs.declared.entries.Task.{Task}
use Rattle.mat_model.specs.declared.entries.Task.TheVariants as task
use Rattle.mat_model.specs.Gate.{Served}
use Rattle.mat_model.specs.History.{Point, after, is_keeper, next_number, stepped}
use Rattle.mat_model.specs.Kept.{overlaps_kept}
use Rattle.mat_model.specs.Work.{refuse}
use Rattle.mat_model.specs.WorkState.{first_task, marked, path_of_task, refused}
use Rattle.model_laws.specs.PointRules.{IsPoint}
use Rattle.model_laws.specs.RowRules.{served_at}
use Rattle.model_laws.specs.TicketRules.{answered_below, with_answers_below}
use Rattle.model_laws.proofs.EndsBelow.{refused_make_below, refused_wipe_below}
use Rattle.model_laws.proofs.FirstLemmas.{make_may_begin}
use Rattle.job_book.specs.Jobs.{jobs_of}
use Rattle.row_book.specs.Stocks.{rows_of}
use Rattle.mat_core.specs.Beginning.{IsRefusedEntered, begin_entry, top_of_task, uncondemned}
use Rattle.mat_core.specs.Books.{AreWork, StandFor, book_in}
use Rattle.mat_core.specs.declared.parts.Parts.{Parts}
use Rattle.mat_core.proofs.BeginLemmas.{same_book}

-- the refusal of a task that comes first answers the open tickets at and below its path, or the row at or above it
refuse_below : (point : Point) (begun : Task) (note : FaultNote) → IsPoint point → first_task point.work point.book ≡ Some begun →
    refuse (next_number point) begun note point.book
    ≡ record { reply = reply.Refused note; book = with_answers_below (top_of_task point.book.rows begun) (next_number point) (answer.Fault note) point.book }
refuse_below point (task.Make path stamp) note rules is =
    let may = make_may_begin point.work point.book path stamp is in
    subst (λ (p : List (List ℕ)). refuse (next_number point) (task.Make p stamp) note point.book
    ≡ record { reply = reply.Refused note; book = with_answers_below p (next_number point) (answer.Fault note) point.book }) may.placed
    (refused_make_below (next_number point) (next_number point) stamp note point.book may.row rules.book may.among)
refuse_below point (task.Wipe path) note rules is = refused_wipe_below (next_number point) (next_number point) path note point.book rules.book

-- what the definitions serve for it
pub refused_served : (point : Point) (by : By) (begun : Task) (note : FaultNote) → IsPoint point → first_task point.work point.book ≡ Some begun →
    note.device ≡ device.Keeper → list_any (overlaps_kept (path_of_task begun)) point.kept ≡ true →
    served_at point (begin_entry by point.book.now begun (reply.Refused note))
    ≡ record { reply = reply.Refused note; book = with_answers_below (top_of_task point.book.rows begun) (next_number point) (answer.Fault note) point.book }
refused_served point by begun note rules is keeper some =
    ap (λ d. cond {A = Served} (is_keeper d && list_any (overlaps_kept (path_of_task begun)) point.kept) (refuse (next_number point) begun note point.book)
    (record { reply = reply.Started; book = point.book })) keeper
    ∙ ap (λ b. cond {A = Served} b (refuse (next_number point) begun note point.book) (record { reply = reply.Started; book = point.book })) some
    ∙ refuse_below point begun note rules is

module _ {D K : Type 0} (number : ℕ) (by : By) (begun : Task) (note : FaultNote) (old new : Parts D K) (point : Point)
    (is : IsRefusedEntered number by begun note old new) (stands : StandFor old point) (numbered : number ≡ next_number point) where
  abbrev the_book : Book
  the_book = with_answers_below (top_of_task point.book.rows begun) (next_number point) (answer.Fault note) point.book

  abbrev the_entry : Entry
  the_entry = begin_entry by point.book.now begun (reply.Refused note)

  old_rows : rows_of old.rows ≡ point.book.rows
  old_rows = ap (λ (b : Book). b.rows) stands.book

  book_is : book_in new ≡ the_book
  book_is =
      ap (λ ts. record (book_in new) { tickets = ts }) is.tickets
      ∙ ap (λ (b : Book). record b { tickets = map (answered_below (top_of_task (rows_of old.rows) begun) number (answer.Fault note)) old.tickets.all })
      (same_book old (record new { tickets = old.tickets }) is.first is.moment is.gate (ap rows_of is.rows) is.holds refl)
      ∙ ap (λ (b : Book). record b { tickets = map (answered_below (top_of_task b.rows begun) number (answer.Fault note)) b.tickets }) stands.book
      ∙ ap (λ n. record point.book { tickets = map (answered_below (top_of_task point.book.rows begun) n (answer.Fault note)) point.book.tickets }) numbered

  work_is : (what : Task) → begun ≡ what → AreWork new (refused what point.work)
  work_is (task.Make path stamp) same = record {
    stocks = λ stock among. stands.work.stocks stock (subst (λ rs. Contains rs stock) is.rows among);
    jobs = ap jobs_of is.jobs ∙ stands.work.jobs;
    cleaned = λ one among. stands.work.cleaned one (subst (λ js. Contains js one) is.jobs among);
    debris = is.debris ∙ ap (λ t. uncondemned t old.debris.list) same ∙ stands.work.debris;
  }
  work_is (task.Wipe path) same = record {
    stocks = λ stock among.
        let was = stands.work.stocks stock (subst (λ rs. Contains rs stock) is.rows among) in record { way = was.way; mark = was.mark; right = was.right };
    jobs = ap jobs_of is.jobs ∙ stands.work.jobs;
    cleaned = λ one among. stands.work.cleaned one (subst (λ js. Contains js one) is.jobs among);
    debris = is.debris ∙ ap (λ t. uncondemned t old.debris.list) same ∙ ap (map (marked false path)) stands.work.debris;
  }

  no_nodes : point.nodes ≡ point.nodes + 0
  no_nodes = omega arith

  -- the parts stand for the point behind the entry
  pub refused_stands : served_at point the_entry ≡ record { reply = reply.Refused note; book = the_book } → StandFor new (after point the_entry)
  refused_stands served = subst (λ (s : Served). StandFor new (stepped point the_entry s)) (sym served) (record {
    book = book_is;
    work = work_is begun refl;
    kept = ap (λ k. k.marks) is.kept ∙ stands.kept;
    nodes = is.nodes ∙ stands.nodes ∙ no_nodes;
    paths = is.paths ∙ stands.paths;
    history = is.history ∙ ap (λ es. es ++ begin_entry by old.moment begun (reply.Refused note) ∷ []) stands.history
        ∙ ap (λ m. point.history ++ begin_entry by m begun (reply.Refused note) ∷ []) (ap (λ (b : Book). b.now) stands.book);
  })
