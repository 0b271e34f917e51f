use Rattle.std.proofs.Common.{◌≡◌, ◌++◌, map, take, drop}
use Rattle.job_book.specs.Numbers.{marked}
use Rattle.job_book.proofs.list.mark_each.Given as goal

-- the jobs passed so far are marked, the others are as they were
abbrev pub invariant-loop-running : goal.invariant-loop-running
invariant-loop-running l = l.list ≡ map (marked l.path l.stamp) (take l.running-index l.fn.list) ++ drop l.running-index l.fn.list
