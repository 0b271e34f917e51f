use Rattle.std.proofs.Common.{◌≡◌, drop}
use Rattle.mat_core.specs.Cleans.{condemned_at}
use Rattle.mat_core.proofs.cleaning.condemn_strays.Given as goal

-- what the paths that are left lead to is what all lead to
abbrev pub invariant-loop-path : goal.invariant-loop-path
invariant-loop-path l = record {
  list : condemned_at (drop l.path-index l.strays) l.debris.list ≡ condemned_at l.strays l.fn.debris.list;
  spare : l.debris.spare ≡ l.fn.debris.spare;
}
