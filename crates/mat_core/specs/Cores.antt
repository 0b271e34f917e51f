-- What contracts see of a core, and what its type keeps.
use Rattle.std.specs.Prelude.{◌≡◌, ◌≤◌, ◌⊎◌, ℕ, Bool, true, false, List, [], length, Some}
use Rattle.std.specs.Option.{ForSome}
use Rattle.mat_tree.specs.Parts.{Part}
use Rattle.mat_model.specs.declared.entries.Entry.{Entry}
use Rattle.mat_model.specs.History.{Point, point_of}
use Rattle.mat_model.specs.Kept.{KeptRow}
use Rattle.mat_model.specs.Legal.{IsLegal}
use Rattle.mat_model.specs.declared.limits.Limits.{Limits}
use Rattle.mat_model.specs.Openings.{IsOpening}
use Rattle.mat_model.specs.Room.{greatest_limits}
use Rattle.keep_port.specs.declared.row.RawRow.{RawRow}
use Rattle.core_laws.specs.DiskRules.{IsDisk, IsTiedDisk}
use Rattle.core_laws.specs.Loans.{AreLoans}
use Rattle.core_laws.specs.Stored.{AreCounted, IsStore}
use Rattle.core_laws.specs.Whole.{IsWhole}
use Rattle.core_devices.specs.Told.{ToldDisk, ToldStore}
use Rattle.mat_core.specs.Books.{StandFor}
use Rattle.mat_core.specs.Orders.{AreReady}
use Rattle.mat_core.specs.Rooms.{HasReserves}
use Rattle.mat_core.specs.declared.base.Base.{Base}
use Rattle.mat_core.specs.declared.parts.Parts.{Parts}

-- what a core began with, what happened since, and its devices as they are
pub record Seen (D K : Type 0) : Type 0 where
  pub base : Base D K
  pub history : List Entry
  pub disk : D
  pub keeper : K

-- a disk and a state store, as a core was handed them, are whole, and the disk has no rough path: then the core is sound. Nothing is said of devices
-- that don't tell what they have
pub record IsSound (identity : ℕ) (disk : ToldDisk) (store : ToldStore) : Type 0 where
  pub content : Part
  pub told : disk.content ≡ Some content
  pub rows : List RawRow
  pub listed : store.rows ≡ Some rows
  pub kept : List KeptRow
  pub stored : IsStore identity kept rows
  pub whole : IsWhole [] kept content disk.rough
  pub settled : (path : List (List ℕ)) → disk.rough path ≡ false

-- a stamp may be spoken for: its row was declared since, or the core is sound, or its rows were checked
abbrev pub MaySpeak : ℕ → Bool → Type 0 → ℕ → Type 0
MaySpeak first check Sound stamp = (first ≤ stamp) ⊎ (check ≡ true) ⊎ Sound

-- some stamps may be spoken for
abbrev pub MaySpeakFor : ℕ → Bool → Type 0 → (ℕ → Bool) → Type 0
MaySpeakFor first check Sound spoken = (stamp : ℕ) → spoken stamp ≡ true → MaySpeak first check Sound stamp

-- each stamp is spoken for
abbrev pub each_stamp : ℕ → Bool
each_stamp stamp = true

-- the devices keep their rules beside a point of a history, where a core has an identity
pub record AreDevices (identity first : ℕ) (check : Bool) (Sound : Type 0) (point : Point) (of_disk : ToldDisk) (of_store : ToldStore) : Type 0 where
  -- the disk lends what the jobs have out
  pub loans : AreLoans point.work.jobs of_disk.lent
  -- each row has its tree whose stamp may be spoken for, and the disk has nothing where a loan is
  pub tied : ForSome of_disk.content (λ (content : Part). (spoken : ℕ → Bool) → MaySpeakFor first check Sound spoken →
      IsTiedDisk spoken point of_disk.lent content of_disk.rough)
  -- where the core is sound, each node and each rough path belongs to a row or is debris, and each kept row is whole
  pub sound : Sound → ForSome of_disk.content (λ (content : Part). IsDisk each_stamp point of_disk.lent content of_disk.rough)
  -- the state store has the kept rows, and no others
  pub store : ForSome of_store.rows (IsStore identity point.kept)
  -- and no count of faults is behind the history
  pub counted : AreCounted point.history of_store.faults of_disk.faults

-- the limits of a core are no greater than a daemon may have
pub record AreLimits (limits : Limits) : Type 0 where
  pub history : limits.history ≤ greatest_limits.history
  pub nodes : limits.nodes ≤ greatest_limits.nodes
  pub rows : limits.rows ≤ greatest_limits.rows
  pub held : limits.held ≤ greatest_limits.held
  pub asked : limits.asked ≤ greatest_limits.asked
  pub holds : limits.holds ≤ greatest_limits.holds

-- the point of a core
abbrev pub point_in : {D K : Type 0} → Seen D K → Point
point_in seen = point_of seen.base.opening.value seen.history

-- what is true of what contracts see of a core: its history is legal from a right opening, and its devices keep their rules beside the point that this
-- leads to
pub record IsSeen {D K : Type 0} (told : D → ToldDisk) (stored : K → ToldStore) (seen : Seen D K) : Type 0 where
  pub limits : AreLimits seen.base.limits
  pub opening : IsOpening seen.base.opening.value
  pub within : length seen.base.opening.value.rows ≤ seen.base.limits.rows
  pub legal : IsLegal seen.base.limits seen.base.opening.value seen.history
  pub devices : AreDevices seen.base.identity (length seen.base.opening.value.rows) seen.base.check
      (IsSound seen.base.identity (told seen.base.disk.value) (stored seen.base.keeper.value)) (point_in seen) (told seen.disk) (stored seen.keeper)

-- what contracts see of some parts
abbrev pub seen_of : {D K : Type 0} → Parts D K → Seen D K
seen_of parts = record { base = parts.base; history = parts.history.items; disk = parts.disk; keeper = parts.keeper }

-- what a core keeps: that, its parts stand for its point, and they have reserved what is needed later
pub record IsCore {D K : Type 0} (told : D → ToldDisk) (stored : K → ToldStore) (parts : Parts D K) : Type 0 where
  pub seen : IsSeen told stored (seen_of parts)
  pub stands : StandFor parts (point_in (seen_of parts))
  pub reserves : HasReserves parts
  -- they have the paths that were lost at the opening
  pub lost : parts.lost ≡ parts.base.opening.value.lost
  -- the row of each make that runs, if it is still there, is ready to be stored
  pub ready : AreReady parts
