-- What the calls of regions and of their disk have in common.
use Rattle.std.specs.Prelude.{false, Option, Some, None}
use Rattle.mat_io.specs.Causes.{counted}
use Rattle.mat_io.specs.Watches.{Watch}

-- a device that nobody has called or armed yet
abbrev pub uncalled : Watch
uncalled = record { calls = 0; armed = false }

-- what a region tells that a disk has just lent
abbrev pub newly_lent : Watch → Watch
newly_lent disk = uncalled

-- what a disk tells once a region came back: the calls of both count together
abbrev pub joined_watch : Option Watch → Option Watch → Option Watch
joined_watch (Some region) (Some disk) = Some (record { calls = counted disk.calls region.calls; armed = disk.armed })
joined_watch (Some region) None = None
joined_watch None disk = None
