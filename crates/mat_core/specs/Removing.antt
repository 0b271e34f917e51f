-- Rows that are removed from the books: what is taken out, and what it leaves.
use Rattle.std.specs.Prelude.{◌≡◌, ◌≤◌, ◌+◌, ◌++◌, [], ◌∷◌, ℕ, Bool, false, max, if◌then◌else◌, List, length, map, filter, reverse, count_by}
use Rattle.std.specs.Vec.{vec_capacity}
use Rattle.hall_lock.specs.declared.By.{By}
use Rattle.mat_model.specs.declared.answers.Answer.TheVariants as answer
use Rattle.mat_model.specs.declared.answers.Reply.{Reply}
use Rattle.mat_model.specs.declared.requests.Asked.{Asked}
use Rattle.model_laws.specs.TicketRules.{answered_below, top_of}
use Rattle.row_book.specs.declared.stock.Stock.{Stock}
use Rattle.row_book.specs.Stocks.{is_clear_stock, overlaps_stock, path_of, rows_of}
use Rattle.row_book.specs.Whole.{taken_stocks, without_stocks}
use Rattle.job_book.specs.Jobs.{jobs_of}
use Rattle.job_book.specs.Numbers.{marked}
use Rattle.job_book.specs.declared.running.Running.{Running}
use Rattle.kept_book.specs.declared.mark.Mark.{Mark}
use Rattle.kept_book.specs.Marks.{is_clear_mark, overlaps_mark, path_of_mark}
use Rattle.mat_core.specs.Beginning.{has_no_row}
use Rattle.mat_core.specs.Falling.{is_unkept, with_remains}
use Rattle.mat_core.specs.Keeping.{asked_entry}
use Rattle.mat_core.specs.Served.{IsBeside}
use Rattle.mat_core.specs.declared.invalidating.Overlap.{Overlap}
use Rattle.mat_core.specs.declared.parts.Parts.{Parts}

-- ---- rows at some paths

-- the stocks at some paths, in the other order
abbrev pub taken_at : List (List (List ℕ)) → List Stock → List Stock
taken_at paths stocks = reverse (taken_stocks paths stocks)

-- jobs, where the part that one reads is marked as cleaned, if it is that of one of some rows
abbrev pub marked_from : List Stock → List Running → List Running
marked_from [] jobs = jobs
marked_from (stock ∷ stocks) jobs = marked_from stocks (map (marked stock.row.path stock.row.stamp) jobs)

-- the same where a clean removed them
abbrev pub marked_by : Bool → List Stock → List Running → List Running
marked_by by_clean stocks jobs = if by_clean then marked_from stocks jobs else jobs

-- some parts once the rows at some paths are removed, which are listed the last first, by a clean or another request
pub record AreRemoved {D K : Type 0} (by_clean : Bool) (at : List (List (List ℕ))) (old new : Parts D K) : Type 0 where
  pub beside : IsBeside old new
  pub gate : new.gate ≡ old.gate
  pub holds : new.holds ≡ old.holds
  pub tickets : new.tickets ≡ old.tickets
  pub nodes : new.nodes ≡ old.nodes
  pub kept : new.kept ≡ old.kept
  pub rows : new.rows ≡ without_stocks at old.rows
  pub jobs : new.jobs ≡ marked_by by_clean (taken_at at old.rows) old.jobs
  pub debris : new.debris.list ≡ with_remains by_clean (jobs_of old.jobs) (taken_at at old.rows) old.debris.list
  pub spare : old.debris.spare ≤ new.debris.spare + length (taken_at at old.rows)
  -- each path goes that has neither a row nor a kept row any more
  pub paths : new.paths + count_by (is_unkept old.kept.marks) (taken_at at old.rows) ≡ old.paths

-- ---- rows that overlap a path

-- the paths of the marks that overlap a path
abbrev pub gone_marks : List (List ℕ) → List Mark → List (List (List ℕ))
gone_marks path marks = map path_of_mark (filter (overlaps_mark path) marks)

-- what is listed of the kept rows and of the rows that overlap a path: the paths of those, the paths of these, the last first, and room for these
pub record IsOverlap (path : List (List ℕ)) (marks : List Mark) (stocks : List Stock) (listed : Overlap) : Type 0 where
  pub kept : listed.kept.items ≡ gone_marks path marks
  pub rows : listed.rows.items ≡ reverse (map path_of (filter (overlaps_stock path) stocks))
  pub none : listed.room.items ≡ []
  pub fits : length listed.rows.items ≤ vec_capacity listed.room

-- some parts once the rows and the kept rows that overlap a path are gone, under a number
pub record AreCleared {D K : Type 0} (number : ℕ) (path : List (List ℕ)) (old new : Parts D K) : Type 0 where
  pub beside : IsBeside old new
  pub gate : new.gate ≡ old.gate
  pub holds : new.holds ≡ old.holds
  pub nodes : new.nodes ≡ old.nodes
  pub jobs : new.jobs ≡ old.jobs
  pub places : new.kept.reserved ≡ old.kept.reserved
  pub rows : new.rows ≡ filter (is_clear_stock path) old.rows
  pub kept : new.kept.marks ≡ filter (is_clear_mark path) old.kept.marks
  pub tickets : new.tickets.all ≡ map (answered_below (top_of (rows_of old.rows) path) number answer.Undeclared) old.tickets.all
  pub debris : new.debris.list ≡ with_remains false (jobs_of old.jobs) (filter (overlaps_stock path) old.rows) old.debris.list
  pub spare : old.debris.spare ≤ new.debris.spare + length (filter (overlaps_stock path) old.rows)
  pub paths : new.paths + count_by (is_unkept new.kept.marks) (filter (overlaps_stock path) old.rows)
      + count_by (has_no_row old.rows) (gone_marks path old.kept.marks) ≡ old.paths

-- ---- an entry

-- a request is entered with a reply, at a moment that is raised, and nothing else changes
pub record IsAskEntered {D K : Type 0} (by : By) (now : ℕ) (request : Asked) (said : Reply) (old new : Parts D K) : Type 0 where
  pub only : new ≡ record old { moment = new.moment; history = new.history }
  pub moment : new.moment ≡ max old.moment now
  pub history : new.history.items ≡ old.history.items ++ asked_entry by (max old.moment now) request said ∷ []
  pub capacity : vec_capacity new.history ≡ vec_capacity old.history
