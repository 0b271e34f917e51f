use Rattle.std.proofs.Common.{refl, arith}
use Rattle.row_book.specs.Stocks.{with_method}
use Rattle.row_book.specs.Whole.{stocks_of}
use Rattle.row_book.proofs.ChangeLemmas.{held_less, held_added, held_fits, held_same, laid, not_lifted}
use Rattle.row_book.proofs.changes.supply_at.Goals as goal

pub returns-in_default-clause-trie : goal.returns-in_default-clause-trie
returns-in_default-clause-trie c =
    not_lifted c.args.path.now (with_method c.args.method) c.args.trie.now c.lift.new.trie (stocks_of c.args.trie.now) c.requires.placed c.in_default.ensures.stock c.lift.ensures.trie

pub returns-in_default-clause-held : goal.returns-in_default-clause-held
returns-in_default-clause-held c =
    held_same c.args.path.now (with_method c.args.method) c.args.trie.now (stocks_of c.args.trie.now) c.args.held c.requires.placed c.in_default.ensures.stock c.requires.counted

pub overflow_sub-rest : goal.overflow_sub-rest
overflow_sub-rest c =
    held_less c.args.path.now c.args.trie.now (stocks_of c.args.trie.now) _ c.held_of.result c.args.held c.requires.placed c.in-Some.ensures.stock c.held_of.ensures c.requires.counted

pub overflow_add-held : goal.overflow_add-held
overflow_add-held c =
    let small = held_fits c.args.path.now (with_method c.args.method) c.args.trie.now (stocks_of c.args.trie.now) _ c.held_of.result c.held_of-2.result c.args.held c.requires.placed c.requires.apart
    c.in-Some.ensures.stock c.held_of.ensures c.held_of-2.ensures c.requires.counted c.requires.few in
    omega arith

pub returns-clause-trie : goal.returns-clause-trie
returns-clause-trie c =
    laid c.args.path.now (with_method c.args.method) c.args.trie.now c.lift.new.trie c.lay.new.trie (stocks_of c.args.trie.now) _ (λ s. refl)
    c.requires.placed c.requires.apart c.in-Some.ensures.stock c.lift.ensures.trie c.lay.ensures

pub returns-clause-held : goal.returns-clause-held
returns-clause-held c =
    held_added c.args.path.now (with_method c.args.method) c.args.trie.now (stocks_of c.args.trie.now) _ c.held_of.result c.held_of-2.result c.args.held c.requires.placed c.requires.apart
    c.in-Some.ensures.stock c.held_of.ensures c.held_of-2.ensures c.requires.counted
