use Rattle.row_book.specs.Whole.{stocks_of}
use Rattle.row_book.proofs.PutLemmas.{inserted}
use Rattle.row_book.proofs.takes.insert.Goals as goal

pub returns-in-Ok-clause-trie : goal.returns-in-Ok-clause-trie
returns-in-Ok-clause-trie c =
    inserted c.args.path.now c.args.stock c.args.trie.now c.insert.new.self (stocks_of c.args.trie.now) c.requires.placed c.requires.at c.is_in_order.ensures c.requires.absent c.in-Ok.ensures.list
