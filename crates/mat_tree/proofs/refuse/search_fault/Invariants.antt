use Rattle.std.proofs.Common.{◌≡◌, ◌+◌, drop}
use Rattle.mat_tree.specs.Trees.{fault_behind}
use Rattle.mat_tree.proofs.refuse.search_fault.Given as goal

abbrev pub invariant-loop-place : goal.invariant-loop-place
invariant-loop-place l = fault_behind l.nodes l.root 1 l.rest ≡ fault_behind l.nodes l.before (l.place + 1) (drop l.place l.rest)
