use Rattle.std.proofs.Common.{sym, ◌∙◌}
use Rattle.tree_words.specs.Rests.{words_of}
use Rattle.tree_words.specs.Words.{at_kind, read_from}
use Rattle.tree_words.proofs.Reading.{read_ends, read_grows, read_nodes_small}
use Rattle.tree_words.proofs.read.read_nodes.Goals as goal

pub nodes-preserved : goal.nodes-preserved
nodes-preserved c = read_grows c.nodes.nodes.items c.push.new.nodes.items c.in_ok-node.node _ _ _ c.nodes.invariant c.in_ok-node.ensures.read c.in_ok-push.ensures.ok

pub returns-clause-read : goal.returns-clause-read
returns-clause-read c =
    read_ends c.nodes.nodes.items (read_from at_kind 0 (words_of c.args.text.now)) c.nodes.words.place c.nodes.words.words c.nodes.invariant
    (sym c.is_empty.ensures ∙ c.nodes-test.false)

pub returns-clause-small : goal.returns-clause-small
returns-clause-small c =
    read_nodes_small (words_of c.args.text.now) c.nodes.nodes.items
    (read_ends c.nodes.nodes.items (read_from at_kind 0 (words_of c.args.text.now)) c.nodes.words.place c.nodes.words.words c.nodes.invariant
    (sym c.is_empty.ensures ∙ c.nodes-test.false))
