-- Kept rows beside a disk: those whose trees it has, and the paths of those whose trees it hasn't.
use Rattle.std.specs.Prelude.{◌≡◌, ℕ, Bool, true, if◌then◌else◌, List, [], ◌∷◌, ◌++◌, map, filter, Option}
use Rattle.std.specs.List.{Contains}
use Rattle.std.specs.Option.{ForSome}
use Rattle.mat_tree.specs.Parts.{Part}
use Rattle.mat_model.specs.declared.book.Row.{Row}
use Rattle.mat_model.specs.declared.opening.Opening.{Opening}
use Rattle.mat_model.specs.Kept.{KeptRow}
use Rattle.mat_model.specs.Openings.{is_found, is_lost}
use Rattle.model_laws.specs.KeptRules.{path_of_kept}
use Rattle.region_port.specs.Calls.{Paths}
use Rattle.keep_port.specs.declared.row.RawRow.{RawRow}
use Rattle.core_laws.specs.Stored.{IsStore}
use Rattle.restart_scan.specs.Looks.{IsSettledAt, TellsTreeAt}

-- of kept rows the disk has the trees of those whose paths aren't among the lost ones, and of no other, where it tells what it has
abbrev pub AreLooked : Option Part → List KeptRow → List (List (List ℕ)) → Type 0
AreLooked content kept lost = (one : KeptRow) → Contains kept one → TellsTreeAt one.path one.tree content (is_found lost one)

-- the lost paths are those of kept rows, in their order, whose trees the disk hasn't
pub record AreLost (content : Option Part) (kept : List KeptRow) (lost : List (List (List ℕ))) : Type 0 where
  pub order : lost ≡ map path_of_kept (filter (is_lost lost) kept)
  pub each : AreLooked content kept lost

-- lost paths are those of kept rows of a state store that has these rows, and in their order, whose trees the disk hasn't
pub record IsLostOf (identity : ℕ) (content : Option Part) (lost : List (List (List ℕ))) (raws : List RawRow) : Type 0 where
  pub kept : List KeptRow
  pub stored : IsStore identity kept raws
  pub gone : AreLost content kept lost

-- the same, where the state store tells its rows
abbrev pub AreLostTold : ℕ → Option (List RawRow) → Option Part → List (List (List ℕ)) → Type 0
AreLostTold identity told content lost = ForSome told (IsLostOf identity content lost)

-- kept rows are sorted into those that are found and the paths of those that are lost
pub record AreSorted (content : Option Part) (kept found : List KeptRow) (lost : List (List (List ℕ))) : Type 0 where
  pub stay : found ≡ filter (is_found lost) kept
  pub gone : AreLost content kept lost

-- a kept row is put behind those that are found, or its path behind those that are lost
pub record IsSortedIn (has : Bool) (one : KeptRow) (found : List KeptRow) (lost : List (List (List ℕ))) (found_now : List KeptRow)
    (lost_now : List (List (List ℕ))) : Type 0 where
  pub stay : found_now ≡ (if has then found ++ one ∷ [] else found)
  pub gone : lost_now ≡ (if has then lost else lost ++ one.path ∷ [])

-- the same by a look at the disk
pub record IsLookedIn (content : Option Part) (one : KeptRow) (found : List KeptRow) (lost : List (List (List ℕ))) (found_now : List KeptRow)
    (lost_now : List (List (List ℕ))) : Type 0 where
  pub has : Bool
  pub tells : TellsTreeAt one.path one.tree content has
  pub put : IsSortedIn has one found lost found_now lost_now

-- no path at or below the path of one of some kept rows is rough
abbrev pub AreSettled : List KeptRow → Paths → Type 0
AreSettled kept rough = (one : KeptRow) → Contains kept one → IsSettledAt one.path rough

-- a row that was looked at: the disk has its tree, where it tells what it has, and no path at or below the row's is rough
pub record IsChecked (content : Option Part) (rough : Paths) (row : Row) : Type 0 where
  pub tree : TellsTreeAt row.path row.tree content true
  pub settled : IsSettledAt row.path rough

abbrev pub AreChecked : Option Part → Paths → Opening → Type 0
AreChecked content rough opening = (row : Row) → Contains opening.rows row → IsChecked content rough row
