-- The rows that a clean removes, and the debris that one of all condemns.
use Rattle.std.specs.Prelude.{◌≡◌, ◌≤◌, ◌+◌, [], ℕ, Bool, true, false, if◌then◌else◌, List, length, map, filter, reverse, count_by}
use Rattle.std.specs.Vec.{vec_capacity}
use Rattle.mat_model.specs.declared.answers.Reply.{Reply}
use Rattle.mat_model.specs.declared.answers.Reply.TheVariants as reply
use Rattle.mat_model.specs.declared.book.Hold.{Hold}
use Rattle.mat_model.specs.declared.requests.CleanMode.{CleanMode}
use Rattle.mat_model.specs.declared.requests.CleanMode.TheVariants as mode
use Rattle.mat_model.specs.Cleaning.{is_stale}
use Rattle.mat_model.specs.WorkState.{Debris, Job, condemn}
use Rattle.row_book.specs.declared.stock.Stock.{Stock}
use Rattle.row_book.specs.Stocks.{path_of, row_passes}
use Rattle.row_book.specs.Whole.{without_stocks}
use Rattle.job_book.specs.Jobs.{jobs_of}
use Rattle.kept_book.specs.declared.mark.Mark.{Mark}
use Rattle.kept_book.specs.Marks.{is_mark_unlisted}
use Rattle.mat_core.specs.Cleans.{gone_in, kept_among, strays_in}
use Rattle.mat_core.specs.Falling.{is_unkept, with_remains}
use Rattle.mat_core.specs.Removing.{marked_from, taken_at}
use Rattle.mat_core.specs.Served.{IsBeside}
use Rattle.mat_core.specs.declared.sweeping.Sweep.{Sweep}
use Rattle.mat_core.specs.declared.parts.Parts.{Parts}

-- the mode of a clean that removes rows: of all, or not
abbrev pub mode_of : Bool → CleanMode
mode_of all = if all then mode.All else mode.Real

-- the paths of the debris that it condemns, and debris after that
abbrev pub strays_by : Bool → List Job → List Debris → List (List (List ℕ))
strays_by all jobs debris = if all then strays_in jobs debris else []

abbrev pub condemned_by : Bool → List Job → List Debris → List Debris
condemned_by all jobs debris = if all then map (condemn jobs) debris else debris

-- whether the row of a stock is stale
abbrev pub is_stale_stock : ℕ → List Hold → Stock → Bool
is_stale_stock cutoff holds stock = row_passes (is_stale cutoff holds) stock

-- what a clean is answered that removes the stale rows
abbrev pub swept_reply : Bool → ℕ → List Hold → List Stock → List Job → List Debris → Reply
swept_reply all cutoff holds stocks jobs debris = reply.Cleaned false (gone_in cutoff holds stocks) (strays_by all jobs debris)

-- what is listed for a clean: its answer, and the same for its entry, its strays, the paths of the kept rows and of the rows that go, these the last
-- first, and room for them
pub record IsSweep (all : Bool) (cutoff : ℕ) (holds : List Hold) (stocks : List Stock) (marks : List Mark) (jobs : List Job) (debris : List Debris)
    (sweep : Sweep) : Type 0 where
  pub said : sweep.said ≡ swept_reply all cutoff holds stocks jobs debris
  pub told : sweep.told ≡ sweep.said
  pub strays : sweep.strays.items ≡ strays_by all jobs debris
  pub kept : sweep.kept.items ≡ kept_among marks (gone_in cutoff holds stocks)
  pub rows : sweep.rows.items ≡ reverse (map path_of (filter (is_stale_stock cutoff holds) stocks))
  pub none : sweep.room.items ≡ []
  pub fits : length sweep.rows.items ≤ vec_capacity sweep.room

-- some parts once the kept rows and the rows at some paths went by a clean, the rows listed the last first, and its strays are condemned
pub record AreSwept {D K : Type 0} (all : Bool) (gone at : List (List (List ℕ))) (old new : Parts D K) : Type 0 where
  pub beside : IsBeside old new
  pub gate : new.gate ≡ old.gate
  pub holds : new.holds ≡ old.holds
  pub tickets : new.tickets ≡ old.tickets
  pub nodes : new.nodes ≡ old.nodes
  pub places : new.kept.reserved ≡ old.kept.reserved
  pub kept : new.kept.marks ≡ filter (is_mark_unlisted gone) old.kept.marks
  pub rows : new.rows ≡ without_stocks at old.rows
  pub jobs : new.jobs ≡ marked_from (taken_at at old.rows) old.jobs
  pub debris : new.debris.list ≡ with_remains true (jobs_of old.jobs) (taken_at at old.rows) (condemned_by all (jobs_of old.jobs) old.debris.list)
  pub spare : old.debris.spare ≤ new.debris.spare + length (taken_at at old.rows)
  pub paths : new.paths + count_by (is_unkept new.kept.marks) (taken_at at old.rows) ≡ old.paths
