use Rattle.row_book.specs.Whole.{stocks_of}
use Rattle.row_book.proofs.TakeLemmas.{overlapping_left, overlapping_taken}
use Rattle.row_book.proofs.takes.take_overlapping.Goals as goal

pub returns-clause-trie : goal.returns-clause-trie
returns-clause-trie c =
    overlapping_left c.args.path.now c.args.paths.now c.args.trie.now c.take_each.new.trie (stocks_of c.args.trie.now) c.requires.placed c.is_in_order.ensures c.requires.paths c.take_each.ensures.trie

pub returns-clause-removed : goal.returns-clause-removed
returns-clause-removed c =
    overlapping_taken c.args.path.now c.args.paths.now c.args.trie.now (stocks_of c.args.trie.now) c.args.removed.now.items c.take_each.new.removed.items c.turn.new.items.items c.requires.placed c.is_in_order.ensures
    c.requires.paths c.requires.none c.take_each.ensures.removed c.turn.ensures.list
