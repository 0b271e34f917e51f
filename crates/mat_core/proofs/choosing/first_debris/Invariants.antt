use Rattle.std.proofs.Common.{◌≡◌, ◌-◌, drop, length}
use Rattle.job_book.specs.Jobs.{jobs_of}
use Rattle.mat_core.specs.Choosing.{first_debris}
use Rattle.mat_core.proofs.choosing.first_debris.Given as goal

-- what comes first of the debris that is left comes first of all
abbrev pub invariant-debris : goal.invariant-debris
invariant-debris l =
    first_debris (jobs_of l.jobs) l.rows l.tickets.all (drop l.place l.debris.list) ≡ first_debris (jobs_of l.jobs) l.rows l.tickets.all l.debris.list

abbrev pub decreases-debris : goal.decreases-debris
decreases-debris l = length l.debris.list - l.place
