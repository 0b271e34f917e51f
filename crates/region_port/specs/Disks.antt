-- What a disk in memory has, what it has lent, and what it counts.
use Rattle.std.specs.Prelude.{ℕ, Bool, List}
use Rattle.mat_tree.specs.Parts.{Part}
use Rattle.region_port.specs.Calls.{Paths}
use Rattle.region_port.specs.Entries.{content_of, paths_of, watch_of}
use Rattle.region_port.specs.Lists.{all_of}
use Rattle.mat_io.specs.Watches.{Watch}
use Rattle.region_port.specs.declared.counts.Counts.{Counts}
use Rattle.region_port.specs.declared.mem_disk.MemDisk.{MemDisk}

-- its nodes, but for those of parts that are lent
abbrev pub disk_content : MemDisk → Part
disk_content disk = content_of disk.nodes

-- its rough paths, but for those of parts that are lent
abbrev pub disk_rough : MemDisk → Paths
disk_rough disk = paths_of (all_of disk.rough.segments.items)

-- the paths of the parts that it has lent
abbrev pub disk_loans : MemDisk → List (List (List ℕ))
disk_loans disk = disk.loans.items

-- what it counts: its calls, the faults among them, and whether the next one is to fail
abbrev pub disk_counts : MemDisk → Counts
disk_counts disk = disk.counts

abbrev pub disk_calls : MemDisk → ℕ
disk_calls disk = disk.counts.calls

abbrev pub disk_faults : MemDisk → ℕ
disk_faults disk = disk.counts.faults

abbrev pub is_disk_armed : MemDisk → Bool
is_disk_armed disk = disk.counts.armed

-- its calls, and whether the next one is to fail
abbrev pub disk_watch : MemDisk → Watch
disk_watch disk = watch_of disk.counts
