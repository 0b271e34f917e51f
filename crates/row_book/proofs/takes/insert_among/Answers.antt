use Rattle.row_book.specs.Whole.{stocks_of}
use Rattle.row_book.proofs.ChangeLemmas.{placed_again}
use Rattle.row_book.proofs.PutLemmas.{among_left, among_taken}
use Rattle.row_book.proofs.takes.insert_among.Goals as goal

pub take_each-requires-clause-placed : goal.take_each-requires-clause-placed
take_each-requires-clause-placed c = placed_again c.insert.new.trie _ c.in-Ok.ensures.trie

pub returns-in-Ok-clause-trie : goal.returns-in-Ok-clause-trie
returns-in-Ok-clause-trie c =
    among_left c.args.path.now c.args.stock c.args.trie.now c.insert.new.trie c.take_each.new.trie (stocks_of c.args.trie.now) c.args.paths.now c.requires.placed c.requires.at
    c.is_in_order.ensures c.is_in_order-in-Ok.ensures c.requires.absent c.requires.paths c.in-Ok.ensures.trie c.take_each.ensures.trie

pub returns-in-Ok-clause-removed : goal.returns-in-Ok-clause-removed
returns-in-Ok-clause-removed c =
    among_taken c.args.path.now c.args.stock c.args.trie.now c.insert.new.trie (stocks_of c.args.trie.now) c.args.removed.now.items c.take_each.new.removed.items c.turn.new.items.items c.args.paths.now
    c.requires.placed c.requires.at c.is_in_order-in-Ok.ensures c.requires.absent c.requires.paths c.in-Ok.ensures.trie c.requires.none c.take_each.ensures.removed c.turn.ensures.list
