use Rattle.std.proofs.Common.{ap, ◌∙◌}
use Rattle.std.specs.Option.{option_flatten}
use Rattle.row_book.specs.Whole.{stocks_of}
use Rattle.row_book.proofs.FindLemmas.{get_is}
use Rattle.row_book.proofs.PutLemmas.{exchanged}
use Rattle.row_book.proofs.takes.exchange.Goals as goal

pub returns-in-Some-clause-trie : goal.returns-in-Some-clause-trie
returns-in-Some-clause-trie c =
    exchanged c.args.path.now c.args.stock c.args.trie.now c.swap.new.trie (stocks_of c.args.trie.now) c.requires.placed c.requires.apart c.requires.at c.requires.there c.swap.ensures.trie

pub returns-in-Some-clause-stock : goal.returns-in-Some-clause-stock
returns-in-Some-clause-stock c = ap option_flatten c.in-Some.ensures.value ∙ get_is c.args.path.now c.args.trie.now (stocks_of c.args.trie.now) c.requires.placed

pub returns-in-None-clause-trie : goal.returns-in-None-clause-trie
returns-in-None-clause-trie c =
    exchanged c.args.path.now c.args.stock c.args.trie.now c.swap.new.trie (stocks_of c.args.trie.now) c.requires.placed c.requires.apart c.requires.at c.requires.there c.swap.ensures.trie

pub returns-in-None-clause-stock : goal.returns-in-None-clause-stock
returns-in-None-clause-stock c = ap option_flatten c.in-None.ensures.value ∙ get_is c.args.path.now c.args.trie.now (stocks_of c.args.trie.now) c.requires.placed
