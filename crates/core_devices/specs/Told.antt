-- What the devices of a core tell.
use Rattle.std.specs.Prelude.{ℕ, List, Option}
use Rattle.mat_io.specs.Watches.{Watch as DeviceWatch}
use Rattle.mat_tree.specs.Parts.{Part}
use Rattle.region_port.specs.Calls.{Paths}
use Rattle.region_port.specs.declared.port.Disk.{Ghosts as DiskGhosts}
use Rattle.region_port.specs.declared.port.Region.{Ghosts as RegionGhosts}
use Rattle.keep_port.specs.declared.port.Keeper.{Ghosts as KeeperGhosts}
use Rattle.keep_port.specs.declared.row.RawRow.{RawRow}
use Rattle.keep_port.specs.Rows.{Watch}

-- what a disk tells: its content, where it does, what it lends, its rough paths, its count of faults, and how often it was called and whether it was armed,
-- where it tells that
pub record ToldDisk : Type 0 where
  pub content : Option Part
  pub lent : List (List (List ℕ))
  pub rough : Paths
  pub faults : ℕ
  pub watch : Option DeviceWatch

abbrev pub told_disk : {D R : Type 0} → DiskGhosts D R → D → ToldDisk
told_disk g disk = record {
  content = g.content disk;
  lent = g.lent disk;
  rough = g.rough disk;
  faults = g.fault_count disk;
  watch = g.watch disk;
}

-- what a part tells that is lent: its place, its content, where it does, its rough paths, its count of faults, and its calls, where it tells them
pub record ToldPart : Type 0 where
  pub place : List (List ℕ)
  pub content : Option Part
  pub rough : Paths
  pub faults : ℕ
  pub watch : Option DeviceWatch

abbrev pub told_part : {R : Type 0} → RegionGhosts R → R → ToldPart
told_part g region = record {
  place = g.place region;
  content = g.part region;
  rough = g.rough region;
  faults = g.fault_count region;
  watch = g.watch region;
}

-- what a state store tells: its rows, where it does, its count of faults, and how often it was called and what was called for, where it tells that
pub record ToldStore : Type 0 where
  pub rows : Option (List RawRow)
  pub faults : ℕ
  pub watch : Option Watch

abbrev pub told_store : {K : Type 0} → KeeperGhosts K → K → ToldStore
told_store g keeper = record { rows = g.kept keeper; faults = g.fault_count keeper; watch = g.watch keeper }
