use Rattle.std.proofs.Common.{ap, ◌∙◌}
use Rattle.path_trie.specs.Entries.{is_under}
use Rattle.path_trie.specs.Roots.{kept_if}
use Rattle.path_trie.proofs.Onwards.{under_is}
use Rattle.path_trie.proofs.trie.Trie.entry_under.Goals as goal

pub returns : goal.returns
returns g c =
    c.if_under.ensures ∙ ap (kept_if (is_under c.args.path.now)) c.entry_from.ensures
    ∙ under_is c.args.path.now c.args.self.now c.is_in_order.ensures
