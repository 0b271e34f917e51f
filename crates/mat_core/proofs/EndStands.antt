-- The end of a job, on the books of a core: its parts stand for the point behind its entry.
use Rattle.std.proofs.Common.{◌≡◌, ◌==◌, ℕ, Bool, true, false, not, ◌&&◌, ◌||◌, cond, List, ◌∷◌, map, filter, find, Contains, Option, Some, None, refl, sym, ap, ap₂, subst, ◌∙◌}
use Rattle.std.specs.List.{list_any}
use Rattle.std.proofs.lemmas.Bool.{eq-eqb, eqb-true}
use Rattle.mat_path.proofs.Elements.{mapped_contains}
use Rattle.mat_path.proofs.SameNames.{same_names-eq}
use Rattle.mat_model.specs.declared.answers.Answer.{Answer}
use Rattle.mat_model.specs.declared.answers.Answer.TheVariants as answer
use Rattle.mat_model.specs.declared.answers.Recorded.{Recorded}
use Rattle.mat_model.specs.declared.answers.Recorded.TheVariants as recorded
use Rattle.mat_model.specs.declared.answers.Reply.TheVariants as reply
use Rattle.mat_model.specs.declared.book.Book.{Book}
use Rattle.mat_model.specs.declared.book.Row.{Row}
use Rattle.mat_model.specs.declared.book.Ticket.{Ticket}
use Rattle.mat_model.specs.declared.entries.Outcome.{Outcome}
use Rattle.mat_model.specs.declared.entries.Outcome.TheVariants as outcome
use Rattle.mat_model.specs.declared.entries.Task.{Task}
use Rattle.mat_model.specs.declared.entries.Task.TheVariants as task
use Rattle.mat_model.specs.Books.{IsBook}
use Rattle.mat_model.specs.Gate.{Served}
use Rattle.mat_model.specs.History.{Point, recorded_as}
use Rattle.mat_model.specs.Kept.{KeptRow, kept_done}
use Rattle.mat_model.specs.Legal.{may_end}
use Rattle.mat_model.specs.Room.{row_paths}
use Rattle.mat_model.specs.Rows.{are_apart, standing_row}
use Rattle.mat_model.specs.Work.{end_make, finish, is_declared}
use Rattle.mat_model.specs.WorkState.{WorkState, ended_work, is_dirty, is_elsewhere, marked, path_of_task, put_debris, way_of}
use Rattle.model_laws.specs.KeptRules.{KeptAscend}
use Rattle.model_laws.specs.TicketRules.{answered_below, failure_of_make, failure_of_wipe, top_of}
use Rattle.model_laws.proofs.EndsBelow.{failed_below, failed_wipe_below, made_below}
use Rattle.row_book.proofs.RowLemmas.{rows_marked, rows_standing}
use Rattle.row_book.specs.declared.stock.Stock.{Stock}
use Rattle.row_book.specs.Stocks.{marked_stock, rows_of, standing_stock, stock_at, with_mark, with_stand}
use Rattle.job_book.specs.Jobs.{jobs_of}
use Rattle.job_book.specs.declared.running.LentPart.{LentPart}
use Rattle.kept_book.specs.Marks.{mark_of}
use Rattle.mat_core.specs.Books.{AreWork, IsPart, IsStock, StandFor, book_in, is_same_stamp}
use Rattle.mat_core.specs.Ending.{IsRecordedFor, IsTaskEnded, end_made, end_of, end_of_make, end_of_wipe, is_counted, is_fresh, is_made, marks_recorded, reply_ended}
use Rattle.mat_core.specs.declared.ending.End.{End}
use Rattle.mat_core.specs.declared.ending.End.TheVariants as end
use Rattle.mat_core.specs.declared.parts.Parts.{Parts}
use Rattle.mat_core.proofs.EndLemmas.{declared_by, declared_is, failed_work, kept_made, make_ends, nothing_is, paths_ended, unwiped_work, wipe_ends, wipe_fails}

-- ---- stocks

-- a stock is what another work state says of it, where that has the same ways, and the mark is right
stock_again : (work other : WorkState) (was : Stock) (stands dirty : Bool) → other.ways ≡ work.ways → is_dirty other.dirty was.row.path ≡ dirty →
    IsStock work was → IsStock other (record was { row = record was.row { stands = stands }; dirty = dirty })
stock_again work other was stands dirty ways mark is = record { way = ap (way_of was.row.stamp) ways ∙ is.way; mark = mark; right = is.right }

-- whether a clean removed the row of a part is the same where the same ones are cleaned
pub part_again : (work other : WorkState) (lent : Option LentPart) → other.cleaned ≡ work.cleaned → IsPart work lent → IsPart other lent
part_again work other None same is = tt
part_again work other (Some part) same is = ap (λ stamps. list_any (is_same_stamp part.stamp) stamps) same ∙ is

-- stocks that stay are as they were
pub stocks_stay : (work other : WorkState) (stocks : List Stock) → other.ways ≡ work.ways → other.dirty ≡ work.dirty →
    ((stock : Stock) → Contains stocks stock → IsStock work stock) → (stock : Stock) → Contains stocks stock → IsStock other stock
stocks_stay work other stocks ways dirty are stock among =
    stock_again work other stock stock.row.stands stock.dirty ways
    (ap (λ paths. is_dirty paths stock.row.path) dirty ∙ (are stock among).mark) (are stock among)

-- a row that stands isn't dirty
stocks_stand : (path : List (List ℕ)) (work : WorkState) (stocks : List Stock) → is_dirty work.dirty path ≡ false →
    ((stock : Stock) → Contains stocks stock → IsStock work stock) → (stock : Stock) → Contains (map (standing_stock path) stocks) stock → IsStock work stock
stocks_stand path work stocks clean are stock among =
    let (was, within, same) = mapped_contains (standing_stock path) stocks stock among in
    subst (IsStock work) same
    (elim (stock_at path was) as (λ b. stock_at path was ≡ b → IsStock work (cond b (with_stand was) was)) [
      | true ↦ λ here.
          stock_again work work was true false refl
          (subst (λ (p : List (List ℕ)). is_dirty work.dirty p ≡ false) (sym (same_names-eq was.row.path path here)) clean) (are was within)
      | false ↦ λ off. are was within
    ] refl)

-- the row of a make that failed is dirty
stocks_fail : (path : List (List ℕ)) (work : WorkState) (stocks : List Stock) → ((stock : Stock) → Contains stocks stock → IsStock work stock) →
    (stock : Stock) → Contains (map (marked_stock path true) stocks) stock → IsStock (record work { dirty = path ∷ work.dirty }) stock
stocks_fail path work stocks are stock among =
    let (was, within, same) = mapped_contains (marked_stock path true) stocks stock among in
    subst (IsStock more) same
    (elim (stock_at path was) as (λ b. stock_at path was ≡ b → IsStock more (cond b (with_mark true was) was)) [
      | true ↦ λ here. stock_again work more was was.row.stands true refl (ap (λ b. b || is_dirty work.dirty was.row.path) here) (are was within)
      | false ↦ λ off.
          stock_again work more was was.row.stands was.dirty refl (ap (λ b. b || is_dirty work.dirty was.row.path) off ∙ (are was within).mark) (are was within)
    ] refl)
  where
    more : WorkState
    more = record work { dirty = path ∷ work.dirty }

-- ---- a task that ended

-- the point behind a task that was served so, before its entry
abbrev pub behind : {D K : Type 0} → Parts D K → WorkState → List KeptRow → Task → Outcome → Served → Point
behind old work kept begun out served = record {
  history = old.history.items;
  book = served.book;
  work = ended_work begun out served.reply work;
  kept = kept_done begun served.reply served.book.rows kept;
  nodes = old.nodes;
}

module _ {D K : Type 0} (next : ℕ) (path : List (List ℕ)) (how : Recorded) (old new : Parts D K) (work : WorkState) (kept : List KeptRow)
    (are : AreWork old work) (marks : old.kept.marks ≡ map mark_of kept) (paths : old.paths ≡ row_paths (book_in old) kept)
    (book : IsBook next (book_in old)) (ascend : KeptAscend kept) (apart : are_apart (rows_of old.rows) ≡ true) where
  -- the book, by its rows and tickets
  abbrev book_with : List Row → List Ticket → Book
  book_with rows tickets = record (book_in old) { rows = rows; tickets = tickets }

  ended_book : (ending : End) (rows : List Row) (tickets : List Ticket) → IsTaskEnded next path ending how old new → rows_of new.rows ≡ rows →
      new.tickets.all ≡ tickets → book_in new ≡ book_with rows tickets
  ended_book ending rows tickets ended then_rows then_tickets =
      ap (λ (p : Parts D K). book_in p) ended.only ∙ ap₂ (λ (r : List Row) (t : List Ticket). book_with r t) then_rows then_tickets

  -- as many paths have a row or a kept row as before, whatever it was served
  ended_paths : (begun : Task) (out : Outcome) (was : Recorded) (served : Served) (ending : End) → IsTaskEnded next path ending how old new →
      finish next begun out was (book_in old) ≡ served →
      new.paths ≡ row_paths served.book (kept_done begun served.reply served.book.rows kept)
  ended_paths begun out was served ending ended is =
      ap (λ (p : Parts D K). p.paths) ended.only ∙ paths
      ∙ sym (subst (λ (s : Served). row_paths s.book (kept_done begun s.reply s.book.rows kept) ≡ row_paths (book_in old) kept) is
      (paths_ended next begun out was (book_in old) kept))

  -- the make of a row that is there made it
  pub made_stands : (stamp : ℕ) (stock : Stock) → find (stock_at path) old.rows ≡ Some stock → stock.row.stamp ≡ stamp → is_dirty work.dirty path ≡ false →
      IsTaskEnded next path (end.Stands stock.row.stamp stock.row.sum stock.row.last) how old new →
      StandFor new (behind old work kept (task.Make path stamp) outcome.Made (finish next (task.Make path stamp) outcome.Made how (book_in old)))
  made_stands stamp stock found under clean ended =
      subst (λ (s : Served). StandFor new (behind old work kept (task.Make path stamp) outcome.Made s)) (sym served) (record {
        book = ended_book _ _ _ ended (ap rows_of ended.rows ∙ rows_standing path old.rows)
            (ended.tickets ∙ ap (λ s. map (answered_below path next (answer.Ready s stock.row.sum)) old.tickets.all) under);
        work = record {
          stocks = λ one among. stocks_stand path work old.rows clean are.stocks one (subst (λ ss. Contains ss one) ended.rows among);
          jobs = ap (λ (p : Parts D K). jobs_of p.jobs) ended.only ∙ are.jobs;
          cleaned = λ running among. are.cleaned running (subst (λ (p : Parts D K). Contains p.jobs running) ended.only among);
          debris = ended.debris ∙ are.debris;
        };
        kept = ended.marks ∙ ap (marks_recorded path stock.row.last how) marks ∙ kept_made path stamp how old.rows stock kept apart found under ascend;
        nodes = ap (λ (p : Parts D K). p.nodes) ended.only;
        paths = ended_paths (task.Make path stamp) outcome.Made how _ _ ended served;
        history = ap (λ (p : Parts D K). p.history.items) ended.only;
      })
    where
      declared : find (is_declared path stamp) (rows_of old.rows) ≡ Some stock.row
      declared =
          declared_is path stamp old.rows apart ∙ ap (declared_by stamp) found
          ∙ ap (λ b. cond b (Some stock.row) None) (eq-eqb stock.row.stamp stamp under)

      served : finish next (task.Make path stamp) outcome.Made how (book_in old) ≡ record {
        reply = reply.Fresh how;
        book = book_with (map (standing_row path) (rows_of old.rows)) (map (answered_below path next (answer.Ready stamp stock.row.sum)) old.tickets.all);
      }
      served = made_below next next path stamp how (book_in old) stock.row book declared

  -- it failed
  pub failed_stands : (stamp : ℕ) (out : Outcome) (given : Answer) (stock : Stock) → find (stock_at path) old.rows ≡ Some stock → stock.row.stamp ≡ stamp →
      failure_of_make out ≡ Some given → IsTaskEnded next path (end.Failed given) how old new →
      StandFor new (behind old work kept (task.Make path stamp) out (finish next (task.Make path stamp) out recorded.Nothing (book_in old)))
  failed_stands stamp out given stock found under fails ended =
      subst (λ (s : Served). StandFor new (behind old work kept (task.Make path stamp) out s)) (sym served) (record {
        book = ended_book _ _ _ ended (ap rows_of ended.rows ∙ rows_marked path true old.rows) ended.tickets;
        work = subst (AreWork new) (sym (failed_work path out recorded.Nothing given work fails)) (record {
          stocks = λ one among. stocks_fail path work old.rows are.stocks one (subst (λ ss. Contains ss one) ended.rows among);
          jobs = ap (λ (p : Parts D K). jobs_of p.jobs) ended.only ∙ are.jobs;
          cleaned = λ running among.
              part_again work (record work { dirty = path ∷ work.dirty }) running.lent refl
              (are.cleaned running (subst (λ (p : Parts D K). Contains p.jobs running) ended.only among));
          debris = ended.debris ∙ are.debris;
        });
        kept = ended.marks ∙ marks;
        nodes = ap (λ (p : Parts D K). p.nodes) ended.only;
        paths = ended_paths (task.Make path stamp) out recorded.Nothing _ _ ended served;
        history = ap (λ (p : Parts D K). p.history.items) ended.only;
      })
    where
      declared : find (is_declared path stamp) (rows_of old.rows) ≡ Some stock.row
      declared =
          declared_is path stamp old.rows apart ∙ ap (declared_by stamp) found
          ∙ ap (λ b. cond b (Some stock.row) None) (eq-eqb stock.row.stamp stamp under)

      served : finish next (task.Make path stamp) out recorded.Nothing (book_in old) ≡ record {
        reply = reply.Fresh recorded.Nothing;
        book = book_with (rows_of old.rows) (map (answered_below path next given) old.tickets.all);
      }
      served = failed_below next next path stamp out recorded.Nothing given (book_in old) stock.row book declared fails

  -- the make of a row that is gone
  pub gone_stands : (stamp : ℕ) (out : Outcome) → find (is_declared path stamp) (rows_of old.rows) ≡ None → IsTaskEnded next path end.Gone how old new →
      StandFor new (behind old work kept (task.Make path stamp) out (finish next (task.Make path stamp) out recorded.Nothing (book_in old)))
  gone_stands stamp out none ended =
      subst (λ (s : Served). StandFor new (behind old work kept (task.Make path stamp) out s)) (sym served) (record {
        book = ended_book _ _ _ ended (ap rows_of ended.rows) ended.tickets;
        work = record {
          stocks = λ one among.
              stocks_stay work (ended_work (task.Make path stamp) out reply.Stale work) old.rows refl refl are.stocks one
              (subst (λ ss. Contains ss one) ended.rows among);
          jobs = ap (λ (p : Parts D K). jobs_of p.jobs) ended.only ∙ are.jobs;
          cleaned = λ running among.
              part_again work (ended_work (task.Make path stamp) out reply.Stale work) running.lent refl
              (are.cleaned running (subst (λ (p : Parts D K). Contains p.jobs running) ended.only among));
          debris = ended.debris ∙ ap (put_debris (record { path = path; condemned = false })) are.debris;
        };
        kept = ended.marks ∙ marks;
        nodes = ap (λ (p : Parts D K). p.nodes) ended.only;
        paths = ended_paths (task.Make path stamp) out recorded.Nothing _ _ ended served;
        history = ap (λ (p : Parts D K). p.history.items) ended.only;
      })
    where
      served : finish next (task.Make path stamp) out recorded.Nothing (book_in old) ≡ record { reply = reply.Stale; book = book_in old }
      served = ap (λ (o : Option Row). end_make next path out recorded.Nothing (book_in old) o) none

  -- a wipe that left nothing
  pub wiped_stands : (was : Recorded) → IsTaskEnded next path end.Wiped how old new →
      StandFor new (behind old work kept (task.Wipe path) outcome.Wiped (finish next (task.Wipe path) outcome.Wiped was (book_in old)))
  wiped_stands was ended = record {
    book = ended_book _ _ _ ended (ap rows_of ended.rows) ended.tickets;
    work = record {
      stocks = λ one among.
          stocks_stay work (ended_work (task.Wipe path) outcome.Wiped (reply.Fresh was) work) old.rows refl refl are.stocks one
          (subst (λ ss. Contains ss one) ended.rows among);
      jobs = ap (λ (p : Parts D K). jobs_of p.jobs) ended.only ∙ are.jobs;
      cleaned = λ running among.
          part_again work (ended_work (task.Wipe path) outcome.Wiped (reply.Fresh was) work) running.lent refl
          (are.cleaned running (subst (λ (p : Parts D K). Contains p.jobs running) ended.only among));
      debris = ended.debris ∙ ap (filter (is_elsewhere path)) are.debris;
    };
    kept = ended.marks ∙ marks;
    nodes = ap (λ (p : Parts D K). p.nodes) ended.only;
    paths = ended_paths (task.Wipe path) outcome.Wiped was _ _ ended refl;
    history = ap (λ (p : Parts D K). p.history.items) ended.only;
  }

  -- and one that failed
  pub unwiped_stands : (out : Outcome) (given : Answer) (was : Recorded) → failure_of_wipe out ≡ Some given → IsTaskEnded next path (end.Unwiped given) how old new →
      StandFor new (behind old work kept (task.Wipe path) out (finish next (task.Wipe path) out was (book_in old)))
  unwiped_stands out given was fails ended =
      subst (λ (s : Served). StandFor new (behind old work kept (task.Wipe path) out s)) (sym served) (record {
        book = ended_book _ _ _ ended (ap rows_of ended.rows) ended.tickets;
        work = subst (AreWork new) (sym (unwiped_work path out given work fails)) (record {
          stocks = λ one among.
              stocks_stay work (record work { debris = map (marked false path) work.debris }) old.rows refl refl are.stocks one
              (subst (λ ss. Contains ss one) ended.rows among);
          jobs = ap (λ (p : Parts D K). jobs_of p.jobs) ended.only ∙ are.jobs;
          cleaned = λ running among.
              part_again work (record work { debris = map (marked false path) work.debris }) running.lent refl
              (are.cleaned running (subst (λ (p : Parts D K). Contains p.jobs running) ended.only among));
          debris = ended.debris ∙ ap (map (marked false path)) are.debris;
        });
        kept = ended.marks ∙ marks;
        nodes = ap (λ (p : Parts D K). p.nodes) ended.only;
        paths = ended_paths (task.Wipe path) out was _ _ ended served;
        history = ap (λ (p : Parts D K). p.history.items) ended.only;
      })
    where
      served : finish next (task.Wipe path) out was (book_in old) ≡ record {
        reply = reply.Fresh recorded.Nothing;
        book = book_with (rows_of old.rows) (map (answered_below (top_of (rows_of old.rows) path) next given) old.tickets.all);
      }
      served = failed_wipe_below next next path out was given (book_in old) book fails

-- the row that a make is for isn't dirty, if it is there
abbrev pub IsClean : Task → List Stock → WorkState → Type 0
IsClean (task.Make path stamp) stocks work =
    (stock : Stock) → find (stock_at path) stocks ≡ Some stock → stock.row.stamp ≡ stamp → is_dirty work.dirty path ≡ false
IsClean (task.Wipe path) stocks work = Unit {0}

-- a failure is no making
not_made : (out : Outcome) (given : Answer) → failure_of_make out ≡ Some given → is_made out ≡ false
not_made outcome.Made given fails = absurd cc
not_made outcome.Wiped given fails = refl
not_made (outcome.Missing digest) given fails = refl
not_made (outcome.Corrupt wanted found) given fails = refl
not_made (outcome.Fault note) given fails = refl
not_made outcome.NoMemory given fails = refl

-- where a make failed, nothing was recorded
failed_nothing : (path : List (List ℕ)) (stamp : ℕ) (out : Outcome) (given : Answer) (rows : List Row) (how : Recorded) →
    IsRecordedFor (task.Make path stamp) out rows how → failure_of_make out ≡ Some given → how ≡ recorded.Nothing
failed_nothing path stamp out given rows how is fails =
    nothing_is how
    (is ∙ ap (λ b. not (is_fresh (task.Make path stamp) rows && b)) (not_made out given fails) ∙ ap not (never (is_fresh (task.Make path stamp) rows)))
  where
    never : (b : Bool) → (b && false) ≡ false
    never true = refl
    never false = refl

-- the point behind a task, whichever it is and however it ended
pub task_stands : {D K : Type 0} (next : ℕ) (begun : Task) (out : Outcome) (how : Recorded) (old new : Parts D K) (work : WorkState) (kept : List KeptRow) →
    AreWork old work → old.kept.marks ≡ map mark_of kept → old.paths ≡ row_paths (book_in old) kept → IsBook next (book_in old) → KeptAscend kept →
    are_apart (rows_of old.rows) ≡ true → may_end begun out ≡ true → IsRecordedFor begun out (rows_of old.rows) how → IsClean begun old.rows work →
    IsTaskEnded next (path_of_task begun) (end_of old.rows begun out) how old new →
    StandFor new (behind old work kept begun out
    (finish next begun out (recorded_as (reply_ended (is_counted (end_of old.rows begun out)) how)) (book_in old)))
task_stands next (task.Make path stamp) out how old new work kept are marks paths book ascend apart may recorded clean ended =
    by (find (stock_at path) old.rows) refl ended
  where
    Goal : Bool → Type 0
    Goal counted = StandFor new (behind old work kept (task.Make path stamp) out
        (finish next (task.Make path stamp) out (recorded_as (reply_ended counted how)) (book_in old)))

    made : (stock : Stock) → find (stock_at path) old.rows ≡ Some stock → stock.row.stamp ≡ stamp → (failure : Option Answer) →
        failure_of_make out ≡ failure → IsTaskEnded next path (end_made stock failure) how old new → Goal (is_counted (end_made stock failure))
    made stock found under None is one =
        subst (λ (o : Outcome). StandFor new (behind old work kept (task.Make path stamp) o (finish next (task.Make path stamp) o how (book_in old))))
        (sym (make_ends path stamp out may is))
        (made_stands next path how old new work kept are marks paths book ascend apart stamp stock found under (clean stock found under) one)
    made stock found under (Some given) is one =
        subst (λ (h : Recorded). StandFor new (behind old work kept (task.Make path stamp) out (finish next (task.Make path stamp) out h (book_in old))))
        (sym (failed_nothing path stamp out given (rows_of old.rows) how recorded is))
        (failed_stands next path how old new work kept are marks paths book ascend apart stamp out given stock found under is one)

    stamped : (stock : Stock) → find (stock_at path) old.rows ≡ Some stock → (b : Bool) → (stock.row.stamp == stamp) ≡ b →
        IsTaskEnded next path (cond b (end_made stock (failure_of_make out)) end.Gone) how old new →
        Goal (is_counted (cond b (end_made stock (failure_of_make out)) end.Gone))
    stamped stock found true is one = made stock found (eqb-true stock.row.stamp stamp is) (failure_of_make out) refl one
    stamped stock found false is one =
        gone_stands next path how old new work kept are marks paths book ascend apart stamp out
        (declared_is path stamp old.rows apart ∙ ap (declared_by stamp) found ∙ ap (λ b. cond b (Some stock.row) None) is) one

    by : (o : Option Stock) → find (stock_at path) old.rows ≡ o → IsTaskEnded next path (end_of_make stamp (failure_of_make out) o) how old new →
        Goal (is_counted (end_of_make stamp (failure_of_make out) o))
    by None found one =
        gone_stands next path how old new work kept are marks paths book ascend apart stamp out
        (declared_is path stamp old.rows apart ∙ ap (declared_by stamp) found) one
    by (Some stock) found one = stamped stock found (stock.row.stamp == stamp) refl one
task_stands next (task.Wipe path) out how old new work kept are marks paths book ascend apart may recorded clean ended =
    by (failure_of_make out) refl ended
  where
    Goal : Bool → Type 0
    Goal counted = StandFor new (behind old work kept (task.Wipe path) out
        (finish next (task.Wipe path) out (recorded_as (reply_ended counted how)) (book_in old)))

    by : (failure : Option Answer) → failure_of_make out ≡ failure → IsTaskEnded next path (end_of_wipe failure) how old new →
        Goal (is_counted (end_of_wipe failure))
    by None is one =
        subst (λ (o : Outcome). StandFor new (behind old work kept (task.Wipe path) o (finish next (task.Wipe path) o how (book_in old))))
        (sym (wipe_ends path out may is)) (wiped_stands next path how old new work kept are marks paths book ascend apart how one)
    by (Some given) is one =
        unwiped_stands next path how old new work kept are marks paths book ascend apart out given how (wipe_fails path out given may is) one
