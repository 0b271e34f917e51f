-- What a region in memory has, where it lies, and what it counts.
use Rattle.std.specs.Prelude.{ℕ, Bool, List}
use Rattle.mat_tree.specs.Parts.{Part, below}
use Rattle.region_port.specs.Calls.{Paths}
use Rattle.region_port.specs.Entries.{content_of, rough_paths, watch_of}
use Rattle.mat_io.specs.Watches.{Watch}
use Rattle.region_port.specs.declared.counts.Counts.{Counts}
use Rattle.region_port.specs.declared.mem_region.MemRegion.{MemRegion}

-- its part
abbrev pub part_of : MemRegion → Part
part_of region = below region.place (content_of region.nodes)

-- its rough paths
abbrev pub rough_of : MemRegion → Paths
rough_of region = rough_paths region.whole region.place region.rough.items

-- the path of its part
abbrev pub region_place : MemRegion → List (List ℕ)
region_place region = region.place

-- what it counts: its calls, the faults among them, and whether the next one is to fail
abbrev pub region_counts : MemRegion → Counts
region_counts region = region.counts

abbrev pub region_calls : MemRegion → ℕ
region_calls region = region.counts.calls

abbrev pub region_faults : MemRegion → ℕ
region_faults region = region.counts.faults

abbrev pub is_region_armed : MemRegion → Bool
is_region_armed region = region.counts.armed

-- its calls, and whether the next one is to fail
abbrev pub region_watch : MemRegion → Watch
region_watch region = watch_of region.counts
