-- The parts with which a core begins, and its devices beside what they were as they were handed in.
use Rattle.std.specs.Prelude.{◌≡◌, ℕ, Bool, true, false, [], length, map, Result, Ok, Err}
use Rattle.std.specs.Option.{option_map}
use Rattle.mat_model.specs.declared.limits.Limits.{Limits}
use Rattle.mat_model.specs.declared.opening.Opening.{Opening}
use Rattle.mat_model.specs.History.{opened}
use Rattle.mat_model.specs.Openings.{latest_use, opening_debris}
use Rattle.gate_core.specs.Gates.{no_gate}
use Rattle.kept_book.specs.Marks.{mark_of}
use Rattle.restart_scan.specs.Looks.{HasStill, IsNoRougher}
use Rattle.restart_scan.specs.Scans.{HasStrays, less}
use Rattle.restart_scan.specs.Sorting.{AreChecked, AreLostTold}
use Rattle.restart_scan.specs.Stores.{Stores, kept_rows_of}
use Rattle.restart_scan.specs.declared.refusal.ScanRefusal.{ScanRefusal}
use Rattle.restart_scan.specs.declared.scanning.Entrance.{Entrance}
use Rattle.mat_core.specs.Opened.{fetched}
use Rattle.mat_core.specs.declared.opening.Books.{Books}
use Rattle.mat_core.specs.declared.starting.Shut.{Shut}
use Rattle.mat_core.specs.Cores.{Seen}
use Rattle.core_devices.specs.Told.{ToldDisk, ToldStore}

-- ---- parts

-- the books of a core that begins with an opening
pub record AreBooks (opening : Opening) (books : Books) : Type 0 where
  pub first : books.first ≡ length opening.rows
  pub moment : books.moment ≡ latest_use opening.rows
  pub gate : books.gate ≡ no_gate
  pub rows : books.rows ≡ map fetched opening.rows
  pub debris : books.debris.list ≡ opening_debris opening
  pub kept : books.kept.marks ≡ map mark_of (opened opening).kept
  pub reserved : books.kept.reserved ≡ []
  pub lost : books.lost.items ≡ opening.lost

-- ---- devices

-- what a disk and a state store tell now is what an opening found of them, where they were handed in so: what a scan says
pub record AreFound (identity : ℕ) (check : Bool) (opening : Opening) (old new : ToldDisk) (had has : ToldStore) : Type 0 where
  -- the disk lends nothing, has what it had, and is no rougher
  pub free : new.lent ≡ []
  pub content : HasStill old.content new.content
  pub rough : IsNoRougher old.rough new.rough
  -- each row has its tree, where the rows were checked
  pub checked : check ≡ true → AreChecked new.content new.rough opening
  -- the state store has the rows of the opening, and no others: those that it had without the lost ones
  pub store : Stores identity has.rows (kept_rows_of opening)
  pub left : has.rows ≡ option_map (less opening.lost) had.rows
  -- nothing is lost where nobody looked, and else those whose trees the disk hasn't
  pub unlooked : check ≡ false → opening.lost ≡ []
  pub gone : check ≡ true → AreLostTold identity had.rows old.content opening.lost
  -- the strays are the topmost nodes that are apart from kept rows
  pub strays : HasStrays old.content opening

-- ---- a start

-- the opening of a core that started, or why it didn't
abbrev pub opening_of : {D K : Type 0} → Result (Seen D K) (Shut D K) → Result Opening ScanRefusal
opening_of (Ok seen) = Ok seen.base.opening.value
opening_of (Err shut) = Err shut.why

-- a core started with these limits, over a disk and a state store that were handed in so
pub record IsStarted {D K : Type 0} (allowed : Limits) (entrance : Entrance) (old : D) (had : K) (seen : Seen D K) : Type 0 where
  pub limits : seen.base.limits ≡ allowed
  pub identity : seen.base.identity ≡ entrance.identity
  pub check : seen.base.check ≡ entrance.check
  pub disk : seen.base.disk.value ≡ old
  pub keeper : seen.base.keeper.value ≡ had
  pub history : seen.history ≡ []

-- a disk came back as it was, lends nothing, and is no rougher
pub record IsBack (old new : ToldDisk) : Type 0 where
  pub free : new.lent ≡ []
  pub content : HasStill old.content new.content
  pub rough : IsNoRougher old.rough new.rough
