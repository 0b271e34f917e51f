use Rattle.std.proofs.Common.{◌+◌, length}
use Rattle.mat_core.specs.Opened.{strays_with}
use Rattle.mat_core.proofs.OpeningLemmas.{IsAdding}
use Rattle.mat_core.proofs.opening_debris.debris_in.Given as goal

-- the debris so far, and what is still to come
abbrev pub invariant-adding : goal.invariant-adding
invariant-adding l = IsAdding (strays_with l.fn.strays.items l.fn.lost.items) l.debris.list l.strays.items l.lost.items l.debris.spare

abbrev pub decreases-adding : goal.decreases-adding
decreases-adding l = length l.strays.items + length l.lost.items
