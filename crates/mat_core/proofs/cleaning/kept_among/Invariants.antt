use Rattle.std.proofs.Common.{◌≡◌, ◌++◌, drop}
use Rattle.mat_core.specs.Cleans.{kept_among}
use Rattle.mat_core.proofs.cleaning.kept_among.Given as goal

-- what was listed and those of the rows that are left are all
abbrev pub invariant-loop-one : goal.invariant-loop-one
invariant-loop-one l = l.paths.items ++ kept_among l.kept.marks (drop l.one-index l.gone) ≡ kept_among l.kept.marks l.gone
