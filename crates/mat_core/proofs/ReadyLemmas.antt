-- The rows of makes that run stay ready to be stored through a request.
use Rattle.std.proofs.Common.{◌≡◌, ℕ, inl, inr, All, List, Option, Some, None, Contains, sym, ap, subst, ◌∙◌, arith, true}
use Rattle.mat_path.specs.Names.{is_path, joined}
use Rattle.mat_tree.specs.declared.flat.Flat.{Flat}
use Rattle.mat_tree.specs.Trees.{IsNode, IsTree}
use Rattle.mat_path.proofs.Elements.{contains_map}
use Rattle.mat_model.specs.declared.book.Book.{Book}
use Rattle.mat_model.specs.declared.book.Row.{Row}
use Rattle.mat_model.specs.declared.entries.Entry.{Entry}
use Rattle.mat_model.specs.declared.entries.Task.{Task}
use Rattle.mat_model.specs.declared.entries.Task.TheVariants as task
use Rattle.mat_model.specs.History.{Point, after, next_number}
use Rattle.mat_model.specs.Rows.{are_apart}
use Rattle.mat_model.specs.Kept.{kept_row}
use Rattle.mat_model.specs.WorkState.{Job}
use Rattle.model_laws.specs.PointRules.{IsPoint}
use Rattle.model_laws.specs.RowRules.{IsSameRow}
use Rattle.model_laws.specs.WorkRules.{IsTaskBelow}
use Rattle.model_laws.proofs.RowLemmas.{row_step}
use Rattle.row_bytes.specs.Rows.{IsRow, row_bytes}
use Rattle.row_book.specs.Stocks.{rows_of}
use Rattle.core_laws.specs.Stored.{IsReadable}
use Rattle.job_book.specs.Jobs.{job_of}
use Rattle.job_book.specs.declared.running.KeptBytes.{KeptBytes}
use Rattle.job_book.specs.declared.running.Running.{Running}
use Rattle.mat_core.specs.Books.{StandFor}
use Rattle.mat_core.specs.Orders.{AreBytesOf, AreReady, IsReadyFor}
use Rattle.mat_core.specs.declared.parts.Parts.{Parts}

-- rows with the same path and tree are stored as the same bytes
same_bytes : (identity : ℕ) (old row : Row) (kept : Option KeptBytes) → IsSameRow old row → AreBytesOf identity old kept → AreBytesOf identity row kept
same_bytes identity old row None same bytes = bytes
same_bytes identity old row (Some kept) same bytes = record {
  path = bytes.path ∙ ap joined (sym same.path);
  body = bytes.body ∙ ap (row_bytes (Some identity)) (sym same.tree);
  readable = record {
    placed = subst (λ (p : List (List ℕ)). is_path p ≡ true) (sym same.path) bytes.readable.placed;
    whole = subst (λ (t : List Flat). IsTree t) (sym same.tree) bytes.readable.whole;
    nodes = subst (λ (t : List Flat). All IsNode t) (sym same.tree) bytes.readable.nodes;
  };
}

-- what is written of a row can be read back
pub written_readable : (identity : ℕ) (row : Row) (bytes : List ℕ) → is_path row.path ≡ true → IsRow bytes (record { tree = row.tree; identity = Some identity }) →
    IsReadable (kept_row row)
written_readable identity row bytes at is = record { placed = at; whole = is.tree; nodes = is.nodes }

-- what is ready before an entry is ready behind it: a row with the stamp of a make that has begun was there
entry_ready : (point : Point) (entry : Entry) (identity : ℕ) (begun : Task) (kept : Option KeptBytes) → are_apart point.book.rows ≡ true →
    IsTaskBelow (next_number point) begun → IsReadyFor identity point.book.rows begun kept → IsReadyFor identity (after point entry).book.rows begun kept
entry_ready point entry identity (task.Make path stamp) kept apart below ready =
    λ row among stamped. elim (row_step point entry row apart among) [
      | inl new ↦ let next = new.stamp in absurd (omega (arith, next, stamped, below))
      | inr was ↦ same_bytes identity was.old row kept was.same (ready was.old was.among (sym was.same.stamp ∙ stamped))
    ]
entry_ready point entry identity (task.Wipe path) kept apart below ready = tt

-- the rows of some parts are those of the point that they stand for
pub stand_rows : {D K : Type 0} (parts : Parts D K) (point : Point) → StandFor parts point → rows_of parts.rows ≡ point.book.rows
stand_rows parts point stands = ap (λ (b : Book). b.rows) stands.book

-- the rows of the jobs that are left stay ready where an entry comes
pub left_ready : {D K : Type 0} (old new : Parts D K) (point : Point) → StandFor old point → new.base ≡ old.base →
    ((running : Running) → Contains new.jobs running → Contains old.jobs running) → AreReady old → (entry : Entry) → IsPoint point →
    StandFor new (after point entry) → AreReady new
left_ready old new point stands base jobs ready entry rules later running among =
    let within : Contains old.jobs running = jobs running among in
    let job = rules.work.jobs (job_of running)
    (subst (λ (js : List Job). Contains js (job_of running)) stands.work.jobs (contains_map job_of old.jobs running within)) in
    subst (λ b. IsReadyFor b.identity (rows_of new.rows) running.card.task running.kept) (sym base)
    (subst (λ (rs : List Row). IsReadyFor old.base.identity rs running.card.task running.kept) (sym (stand_rows new (after point entry) later))
    (entry_ready point entry old.base.identity running.card.task running.kept rules.work.apart job.making_below
    (subst (λ (rs : List Row). IsReadyFor old.base.identity rs running.card.task running.kept) (stand_rows old point stands) (ready running within))))

module _ {D K : Type 0} (old new : Parts D K) (point : Point) (stands : StandFor old point) (base : new.base ≡ old.base) (jobs : new.jobs ≡ old.jobs)
    (ready : AreReady old) where
  -- the rows of all jobs stay ready where an entry comes that leaves the jobs
  pub entered_ready : (entry : Entry) → IsPoint point → StandFor new (after point entry) → AreReady new
  entered_ready = left_ready old new point stands base (λ running among. subst (λ (rs : List Running). Contains rs running) jobs among) ready

  -- and where none comes
  pub still_ready : StandFor new point → AreReady new
  still_ready later running among =
      subst (λ b. IsReadyFor b.identity (rows_of new.rows) running.card.task running.kept) (sym base)
      (subst (λ (rs : List Row). IsReadyFor old.base.identity rs running.card.task running.kept)
      (stand_rows old point stands ∙ sym (stand_rows new point later))
      (ready running (subst (λ (rs : List Running). Contains rs running) jobs among)))
