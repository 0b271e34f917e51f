use Rattle.std.proofs.Common.{◌≡◌, ◌-◌, ◌^◌}
use Rattle.job_book.specs.Jobs.{jobs_of}
use Rattle.mat_core.specs.Choosing.{first_free}
use Rattle.mat_core.proofs.ChoosingLemmas.{first_from}
use Rattle.mat_core.proofs.choosing.first_free.Given as goal

-- what comes first of the tickets from a number on comes first of all
abbrev pub invariant-tickets : goal.invariant-tickets
invariant-tickets l =
    first_from (jobs_of l.jobs) l.debris.list l.rows l.from l.tickets.all ≡ first_free (jobs_of l.jobs) l.debris.list l.rows l.tickets.all

abbrev pub decreases-tickets : goal.decreases-tickets
decreases-tickets l = 2 ^ 64 - l.from
