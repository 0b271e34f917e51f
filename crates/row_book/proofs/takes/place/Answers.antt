use Rattle.std.proofs.Common.{rules, ◌∙◌, ◌≡◌, ◌++◌, ap₂, find, true, List}
use Rattle.std.specs.Option.{is_some}
use Rattle.row_book.specs.declared.stock.Stock.{Stock}
use Rattle.row_book.specs.Stocks.{stock_at}
use Rattle.row_book.specs.Whole.{listed, stocks_of}
use Rattle.row_book.proofs.PutLemmas.{one_overlaps, place_room}
use Rattle.row_book.proofs.takes.place.Goals as goal

pub keep-requires : goal.keep-requires
keep-requires c =
    let there : is_some (find (stock_at c.args.path.now) (stocks_of c.args.trie.now)) ≡ true = search rules in
    place_room c.args.path.now c.args.trie.now (stocks_of c.args.trie.now) c.args.paths.now c.args.removed.now.items _ c.requires.placed c.requires.apart there c.requires.paths
    c.requires.none c.requires.room

pub returns-clause-removed : goal.returns-clause-removed
returns-clause-removed c =
    let there : is_some (find (stock_at c.args.path.now) (stocks_of c.args.trie.now)) ≡ true = search rules in
    c.keep.ensures.list
    ∙ ap₂ (λ (ws : List Stock) o. ws ++ listed o) c.requires.none c.exchange-old.ensures.stock
    ∙ one_overlaps c.args.path.now (stocks_of c.args.trie.now) c.requires.apart there
