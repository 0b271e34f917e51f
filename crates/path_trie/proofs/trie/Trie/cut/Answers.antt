use Rattle.std.proofs.Common.{sym, ◌∙◌, arith}
use Rattle.path_trie.proofs.Parted.{cut_off, part_off, put_cut}
use Rattle.path_trie.proofs.trie.Trie.cut.Goals as goal

pub returns-in-Ok-clause-list : goal.returns-in-Ok-clause-list
returns-in-Ok-clause-list g c =
    c.in-Ok.ensures.list ∙ put_cut c.args.path.now c.args.mark c.args.self.now (sym c.count_under.ensures ∙ omega arith)

pub returns-in-Ok-insert-clause-list : goal.returns-in-Ok-insert-clause-list
returns-in-Ok-insert-clause-list g c =
    cut_off c.args.path.now c.args.mark c.args.self.now c.insert-2.new.self c.new-part.result c.exchange.new.self c.exchange.result c.count_under.result
    c.count_under.ensures (omega arith) c.new-part.ensures c.in-Ok-insert.ensures.list c.exchange.ensures.both c.exchange.ensures.list

pub returns-in-Ok-insert-clause-part : goal.returns-in-Ok-insert-clause-part
returns-in-Ok-insert-clause-part g c =
    part_off c.args.path.now c.args.mark c.args.self.now c.insert-2.new.self c.new-part.result c.exchange.new.other c.exchange.result c.count_under.result
    c.count_under.ensures (omega arith) c.new-part.ensures c.in-Ok-insert.ensures.list c.exchange.ensures.both c.exchange.ensures.other
