use Rattle.std.proofs.Common.{rules}
use Rattle.kept_book.proofs.CountLemmas.{old_counted, put_counted, put_fits}
use Rattle.kept_book.proofs.spot_map.SpotMap.set.Goals as goal

pub recount-requires-clause-less : goal.recount-requires-clause-less
recount-requires-clause-less c = old_counted c.args.path.now c.self.inside.trie _ _ c.is_in_order.ensures c.self.invariant (search rules)

pub recount-requires-clause-room : goal.recount-requires-clause-room
recount-requires-clause-room c =
    put_fits c.args.path.now c.args.spot c.self.inside.trie c.replace.new.self _ _ _ c.len-most.result _ c.is_in_order.ensures c.self.invariant
    (search rules) (search rules) (search rules) c.len-most.ensures (search rules)

pub invariant_of-self : goal.invariant_of-self
invariant_of-self c =
    put_counted c.args.path.now c.args.spot c.self.inside.trie c.replace.new.self c.self.inside.marks c.mark_count-less.result c.mark_count-more.result c.recount.new.marks c.is_in_order.ensures c.self.invariant
    (search rules) (search rules) (search rules) c.recount.ensures
