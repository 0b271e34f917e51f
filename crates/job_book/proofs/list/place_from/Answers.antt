use Rattle.std.proofs.Common.{rules, of_calls, not, ap}
use Rattle.std.proofs.lemmas.Fn.{always_returns_same}
use Rattle.path_trie.proofs.Lists.{all_below, all_from}
use Rattle.job_book.specs.Numbers.{is_earlier, is_past}
use Rattle.job_book.proofs.NumberLemmas.{earlier_parts}
use Rattle.job_book.proofs.list.place_from.Goals as goal

pub returns-clause-front : goal.returns-clause-front
returns-clause-front c =
    let parts = c.partition_point.ensures.partitioned (is_earlier c.args.number) (always_returns_same _ _ _ (λ a r f k. search (rules, of_calls)))
    (earlier_parts c.args.number c.args.list.now c.requires) in
    all_below (is_earlier c.args.number) c.args.list.now c.partition_point.result c.partition_point.ensures.bound parts.0

pub returns-clause-back : goal.returns-clause-back
returns-clause-back c =
    let parts = c.partition_point.ensures.partitioned (is_earlier c.args.number) (always_returns_same _ _ _ (λ a r f k. search (rules, of_calls)))
    (earlier_parts c.args.number c.args.list.now c.requires) in
    all_from (is_past c.args.number) c.args.list.now c.partition_point.result (λ i d low high. ap not (parts.1 i d low high))
