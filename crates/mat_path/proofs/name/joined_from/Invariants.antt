use Rattle.std.proofs.Common.{◌≡◌, take, ◌∷◌}
use Rattle.mat_path.specs.Names.{joined}
use Rattle.mat_path.proofs.name.joined_from.Given as goal

abbrev pub invariant-loop-name : goal.invariant-loop-name
invariant-loop-name l = l.text.items ≡ joined (l.first ∷ take l.name-index l.rest)
