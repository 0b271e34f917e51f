use Rattle.std.proofs.Common.{◌≡◌, ◌≤◌, ◌+◌, length}
use Rattle.std.specs.VecDeque.{deque_len}
use Rattle.job_book.specs.Jobs.{jobs_of}
use Rattle.mat_core.specs.Falling.{MayAllRemain, with_remains}
use Rattle.mat_core.proofs.falling.add_remains.Given as goal

-- what was added and what is left to add is all
abbrev pub invariant-rows : goal.invariant-rows
invariant-rows l = record {
  apart : MayAllRemain l.condemned (jobs_of l.jobs) l.rest.items l.debris.list;
  list : with_remains l.condemned (jobs_of l.jobs) l.rest.items l.debris.list ≡ with_remains l.condemned (jobs_of l.jobs) l.fn.removed.items l.fn.debris.list;
  spare : l.fn.debris.spare + length l.rest.items ≤ l.debris.spare + length l.fn.removed.items;
}

abbrev pub decreases-rows : goal.decreases-rows
decreases-rows l = deque_len l.rest
