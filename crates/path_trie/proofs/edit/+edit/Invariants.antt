use Rattle.std.proofs.Common.{◌≡◌, map, take}
use Rattle.path_trie.specs.Edits.{edited_kept}
use Rattle.path_trie.specs.Nodes.{are_well, below_all}
use Rattle.path_trie.proofs.edit.+edit.Given as goal

abbrev pub invariant-edit_all-loop-edge : goal.invariant-edit_all-loop-edge
invariant-edit_all-loop-edge g l =
    goal.unvisited-edit_all-loop-edge g l
    × (below_all (take l.edge-index l.edge-items) ≡ map (edited_kept (g.E.Edit.edited l.by)) (below_all (take l.edge-index l.fn.edges.items)))
    × (are_well l.edge-items ≡ are_well l.fn.edges.items)
