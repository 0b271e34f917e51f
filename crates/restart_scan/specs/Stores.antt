-- The rows of the state store beside the kept rows that were read of them.
use Rattle.std.specs.Prelude.{◌≡◌, ℕ, List, map, Option, Some, None}
use Rattle.std.specs.List.{Contains}
use Rattle.keep_port.specs.declared.row.RawRow.{RawRow}
use Rattle.mat_model.specs.declared.opening.Opening.{Opening}
use Rattle.mat_model.specs.Kept.{KeptRow, put_kept}
use Rattle.mat_model.specs.Openings.{kept_at_opening}
use Rattle.core_laws.specs.Stored.{IsOneOf, IsReadable, IsStore, raw_row}

-- kept rows are those of some rows of the state store, and all of them
pub record AreOf (identity : ℕ) (kept : List KeptRow) (raws : List RawRow) : Type 0 where
  pub each : (one : KeptRow) → Contains kept one → Contains raws (raw_row identity one)
  pub others : (raw : RawRow) → Contains raws raw → IsOneOf identity kept raw
  pub readable : (one : KeptRow) → Contains kept one → IsReadable one

-- a row of the state store was put into its place among kept rows
pub record IsAdded (identity : ℕ) (raw : RawRow) (old now : List KeptRow) : Type 0 where
  pub one : KeptRow
  pub same : raw ≡ raw_row identity one
  pub readable : IsReadable one
  pub put : now ≡ put_kept one old

-- the state store has kept rows and no others, where it tells its rows
abbrev pub Stores : ℕ → Option (List RawRow) → List KeptRow → Type 0
Stores identity None kept = Unit {0}
Stores identity (Some raws) kept = IsStore identity kept raws

-- the rows of an opening, as they are kept
abbrev pub kept_rows_of : Opening → List KeptRow
kept_rows_of opening = map (kept_at_opening opening) opening.rows
