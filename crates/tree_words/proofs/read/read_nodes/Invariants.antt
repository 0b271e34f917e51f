use Rattle.std.proofs.Common.{◌≡◌, length}
use Rattle.tree_words.specs.Rests.{words_of}
use Rattle.tree_words.specs.Words.{at_kind, read_from}
use Rattle.tree_words.proofs.Reading.{nodes_before}
use Rattle.tree_words.proofs.read.read_nodes.Given as goal

abbrev pub invariant-nodes : goal.invariant-nodes
invariant-nodes l = read_from at_kind 0 (words_of l.text) ≡ nodes_before l.nodes.items (read_from at_kind l.words.place l.words.words)

abbrev pub decreases-nodes : goal.decreases-nodes
decreases-nodes l = length l.words.words
