use Rattle.row_book.proofs.ChangeLemmas.{swapped}
use Rattle.row_book.proofs.changes.swap.Goals as goal

pub returns-clause-trie : goal.returns-clause-trie
returns-clause-trie c = swapped c.args.path.now _ _ _ c.replace.result c.is_in_order.ensures c.replace.ensures.old c.replace.ensures.list
