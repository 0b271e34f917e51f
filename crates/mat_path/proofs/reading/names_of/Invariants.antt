use Rattle.std.proofs.Common.{◌≡◌, length, ◌++◌, true}
use Rattle.std.specs.List.{list_all}
use Rattle.mat_path.specs.Names.{pieces, is_name}
use Rattle.mat_path.proofs.reading.names_of.Given as goal

abbrev pub invariant-loop-end : goal.invariant-loop-end
invariant-loop-end l = record { begun : l.names.items ++ pieces l.rest ≡ pieces l.text; named : list_all is_name (pieces l.rest) ≡ true }

abbrev pub decreases-loop-end : goal.decreases-loop-end
decreases-loop-end l = length l.rest
