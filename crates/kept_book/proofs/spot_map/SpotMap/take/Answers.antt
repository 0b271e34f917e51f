use Rattle.std.proofs.Common.{rules}
use Rattle.kept_book.proofs.CountLemmas.{old_counted, taken_counted}
use Rattle.kept_book.proofs.spot_map.SpotMap.take.Goals as goal

pub recount-requires-clause-less : goal.recount-requires-clause-less
recount-requires-clause-less c = old_counted c.args.path.now c.self.inside.trie _ _ c.is_in_order.ensures c.self.invariant (search rules)

pub invariant_of-self : goal.invariant_of-self
invariant_of-self c =
    taken_counted c.args.path.now c.self.inside.trie _ _ c.mark_count-less.result _ c.is_in_order.ensures c.self.invariant
    c.remove-old.ensures.list (search rules) c.recount.ensures
