use Rattle.std.proofs.Common.{sym, ap, ◌∙◌}
use Rattle.std.specs.Option.{is_some}
use Rattle.row_book.proofs.FindLemmas.{copied_some, get_is}
use Rattle.row_book.proofs.finds.has_stock.Goals as goal

pub returns : goal.returns
returns c = c.is_some.ensures ∙ sym (copied_some c.stock_at.result) ∙ ap is_some (c.stock_at.ensures ∙ get_is c.args.path.now c.args.trie.now _ c.requires)
