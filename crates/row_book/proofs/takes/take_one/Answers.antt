use Rattle.std.proofs.Common.{ap, ◌∙◌}
use Rattle.std.specs.Option.{option_flatten}
use Rattle.row_book.specs.Whole.{stocks_of}
use Rattle.row_book.proofs.FindLemmas.{get_is}
use Rattle.row_book.proofs.TakeLemmas.{without_is}
use Rattle.row_book.proofs.takes.take_one.Goals as goal

pub returns-in-Some-clause-stock : goal.returns-in-Some-clause-stock
returns-in-Some-clause-stock c = ap option_flatten c.in-Some.ensures.value ∙ get_is c.args.path.now c.args.trie.now (stocks_of c.args.trie.now) c.requires.placed

pub returns-in-Some-clause-trie : goal.returns-in-Some-clause-trie
returns-in-Some-clause-trie c = without_is c.args.path.now c.args.trie.now c.remove.new.self (stocks_of c.args.trie.now) c.requires.placed c.remove.ensures.list

pub returns-in-None-clause-stock : goal.returns-in-None-clause-stock
returns-in-None-clause-stock c = ap option_flatten c.in-None.ensures.value ∙ get_is c.args.path.now c.args.trie.now (stocks_of c.args.trie.now) c.requires.placed

pub returns-in-None-clause-trie : goal.returns-in-None-clause-trie
returns-in-None-clause-trie c = without_is c.args.path.now c.args.trie.now c.remove.new.self (stocks_of c.args.trie.now) c.requires.placed c.remove.ensures.list
