-- Parts that a disk lends to a job that begins.
use Rattle.std.specs.Prelude.{◌≡◌, [], ◌∷◌, ◌++◌, ℕ, false, List, Option, Some, None}
use Rattle.std.specs.List.{list_any}
use Rattle.std.specs.Option.{option_map}
use Rattle.mat_io.specs.Watches.{Watch}
use Rattle.mat_path.specs.Names.{overlap}
use Rattle.mat_tree.specs.Parts.{Part, below, without}
use Rattle.region_port.specs.Calls.{Paths, paths_below, paths_outside}
use Rattle.region_port.specs.Watches.{newly_lent}
use Rattle.region_port.specs.declared.port.Region.{Ghosts as RegionGhosts}
use Rattle.core_devices.specs.declared.taking.Loan.{Loan}
use Rattle.core_devices.specs.declared.taking.Source.{Source}
use Rattle.core_devices.specs.Told.{ToldDisk, ToldPart, told_part}

-- a part is what a disk with this content, so rough and called so often, had at and below a path; it hasn't been called, and isn't armed
pub record IsPartAt (path : List (List ℕ)) (whole : Option Part) (paths : Paths) (calls : Option Watch) (part : ToldPart) : Type 0 where
  pub place : part.place ≡ path
  pub content : part.content ≡ option_map (below path) whole
  pub rough : part.rough ≡ paths_below path paths
  pub faults : part.faults ≡ 0
  pub watch : part.watch ≡ option_map newly_lent calls

-- the same of a part that is read, if one is
abbrev pub IsReadAt : Option (List (List ℕ)) → Option Part → Paths → Option Watch → Option ToldPart → Type 0
IsReadAt None content rough watch None = Unit {0}
IsReadAt None content rough watch (Some part) = ⊥
IsReadAt (Some path) content rough watch None = ⊥
IsReadAt (Some path) content rough watch (Some part) = IsPartAt path content rough watch part

-- a path, if there is one, as a list
abbrev pub listed : Option (List (List ℕ)) → List (List (List ℕ))
listed None = []
listed (Some path) = path ∷ []

-- what a disk has without the part at a path, if there is one
abbrev pub less_at : Option (List (List ℕ)) → Part → Part
less_at None content = content
less_at (Some path) content = without path content

abbrev pub less_rough_at : Option (List (List ℕ)) → Paths → Paths
less_rough_at None rough = rough
less_rough_at (Some path) rough = paths_outside path rough

-- a disk has lent a part at a path, if there is one
pub record IsTaken (at : Option (List (List ℕ))) (old new : ToldDisk) (taken : Option ToldPart) : Type 0 where
  pub part : IsReadAt at old.content old.rough old.watch taken
  pub content : new.content ≡ option_map (less_at at) old.content
  pub lent : new.lent ≡ old.lent ++ listed at
  pub rough : new.rough ≡ less_rough_at at old.rough
  pub faults : new.faults ≡ old.faults
  pub watch : new.watch ≡ old.watch

-- what a disk tells that has lent the part at a path
abbrev pub less_taken : List (List ℕ) → ToldDisk → ToldDisk
less_taken path disk = record {
  content = option_map (without path) disk.content;
  lent = disk.lent ++ path ∷ [];
  rough = paths_outside path disk.rough;
  faults = disk.faults;
  watch = disk.watch;
}

-- a disk has lent the part of a task, and then the one that is read, if one is
pub record AreTaken (path : List (List ℕ)) (at : Option (List (List ℕ))) (old new : ToldDisk) (part : ToldPart) (other : Option ToldPart) :
    Type 0 where
  pub its : IsPartAt path old.content old.rough old.watch part
  pub read : IsTaken at (less_taken path old) new other

-- no loan overlaps a path, if there is one
abbrev pub IsFreeAt : Option (List (List ℕ)) → List (List (List ℕ)) → Type 0
IsFreeAt None lent = Unit {0}
IsFreeAt (Some path) lent = list_any (overlap path) lent ≡ false

-- a part that a disk has lent was taken from it when it told something, as it still is
pub record WasTaken (now : ToldDisk) (part : Option ToldPart) : Type 0 where
  pub before : ToldDisk
  pub at : Option (List (List ℕ))
  pub free : IsFreeAt at before.lent
  pub taken : IsTaken at before now part

-- and so were the part of a task and the one that is read
pub record WereTaken (now : ToldDisk) (its : ToldPart) (read : Option ToldPart) : Type 0 where
  pub before : ToldDisk
  pub path : List (List ℕ)
  pub source : Option (List (List ℕ))
  pub free : list_any (overlap path) before.lent ≡ false
  pub apart : IsFreeAt source (before.lent ++ path ∷ [])
  pub taken : AreTaken path source before now its read

-- the path of a part that is to be read; what was lent for reading, and what it tells
abbrev pub source_path : Source → List (List ℕ)
source_path source = source.path

abbrev pub source_of_loan : {R : Type 0} → Loan R → Source
source_of_loan loan = loan.source

abbrev pub region_of_loan : {R : Type 0} → Loan R → R
region_of_loan loan = loan.region

abbrev pub told_loan : {R : Type 0} → RegionGhosts R → Loan R → ToldPart
told_loan g loan = told_part g loan.region
