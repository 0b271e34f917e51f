use Rattle.std.proofs.Common.{◌≡◌, ◌++◌, map, take}
use Rattle.path_trie.specs.Nodes.{below_all}
use Rattle.path_trie.specs.Walks.{kept_path}
use Rattle.path_trie.proofs.walk.+gather_all.Given as goal

abbrev pub invariant-loop-edge : goal.invariant-loop-edge
invariant-loop-edge g l = l.found.items ≡ l.initial.found.items ++ map kept_path (below_all (take l.edge-index l.edge-items))
