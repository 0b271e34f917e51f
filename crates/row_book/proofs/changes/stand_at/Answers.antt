use Rattle.std.proofs.Common.{refl}
use Rattle.row_book.specs.Stocks.{with_stand}
use Rattle.row_book.specs.Whole.{stocks_of}
use Rattle.row_book.proofs.ChangeLemmas.{laid, not_lifted}
use Rattle.row_book.proofs.changes.stand_at.Goals as goal

pub returns-in-Some : goal.returns-in-Some
returns-in-Some c =
    laid c.args.path.now with_stand c.args.trie.now c.lift.new.trie c.lay.new.trie (stocks_of c.args.trie.now) _ (λ s. refl)
    c.requires.placed c.requires.apart c.in-Some.ensures.stock c.lift.ensures.trie c.lay.ensures

pub returns-in_default : goal.returns-in_default
returns-in_default c =
    not_lifted c.args.path.now with_stand c.args.trie.now c.lift.new.trie (stocks_of c.args.trie.now) c.requires.placed c.in_default.ensures.stock c.lift.ensures.trie
