use Rattle.std.proofs.Common.{ap, ◌∙◌}
use Rattle.std.specs.List.{filter}
use Rattle.path_trie.specs.Entries.{is_outside}
use Rattle.path_trie.proofs.Parted.{spliced_none}
use Rattle.path_trie.proofs.trie.Trie.hang.Goals as goal

pub returns-then-not-exchange : goal.returns-then-not-exchange
returns-then-not-exchange g c =
    c.clear_under.ensures ∙ ap (filter (is_outside c.args.path.now)) c.if-not-exchange.ensures.list
    ∙ spliced_none c.args.path.now c.args.part c.args.self.now c.is_in_order.ensures c.requires.there c.if-not-exchange.ensures.both
