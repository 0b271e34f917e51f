use Rattle.std.proofs.Common.{◌≡◌, ◌+◌, length, take}
use Rattle.path_trie.specs.Nodes.{below_all}
use Rattle.path_trie.proofs.pick.place_among.Given as goal

abbrev pub invariant-loop-place : goal.invariant-loop-place
invariant-loop-place g l = l.k ≡ length (below_all (take l.place l.edges)) + l.left
