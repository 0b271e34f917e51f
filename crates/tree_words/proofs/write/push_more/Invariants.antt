use Rattle.std.proofs.Common.{◌≡◌, ◌++◌, ◌∷◌, ℕ, List, take}
use Rattle.std.specs.Prelude.{All}
use Rattle.mat_tree.specs.Trees.{IsNode}
use Rattle.tree_words.specs.Words.{node_text, tree_text}
use Rattle.tree_words.proofs.write.push_more.Given as goal

abbrev pub invariant-loop-node : goal.invariant-loop-node
invariant-loop-node l = record {
  text : (before : List ℕ) → l.initial.out.items ≡ before ++ node_text l.first → l.out.items ≡ before ++ tree_text (l.first ∷ take l.node-index l.rest);
  nodes : All IsNode (take l.node-index l.rest);
}
