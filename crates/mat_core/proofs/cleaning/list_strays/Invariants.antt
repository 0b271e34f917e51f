use Rattle.std.proofs.Common.{◌≡◌, ◌++◌, ◌-◌, drop, length}
use Rattle.job_book.specs.Jobs.{jobs_of}
use Rattle.mat_core.specs.Cleans.{strays_in}
use Rattle.mat_core.proofs.cleaning.list_strays.Given as goal

-- what was listed and the strays of the debris that is left are all
abbrev pub invariant-debris : goal.invariant-debris
invariant-debris l =
    l.paths.items ++ strays_in (jobs_of l.jobs) (drop l.place l.debris.list) ≡ strays_in (jobs_of l.jobs) l.debris.list

abbrev pub decreases-debris : goal.decreases-debris
decreases-debris l = length l.debris.list - l.place
