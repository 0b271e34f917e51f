use Rattle.std.proofs.Common.{ap, sym, ◌∙◌}
use Rattle.std.specs.Option.{option_map}
use Rattle.path_trie.specs.Entries.{both, is_under}
use Rattle.path_trie.specs.Roots.{kept_if}
use Rattle.path_trie.proofs.Onwards.{next_all, next_is}
use Rattle.path_trie.proofs.trie.Trie.next_under.Goals as goal

pub returns-then-lt : goal.returns-then-lt
returns-then-lt g c = c.parts.ensures ∙ ap (option_map both) (c.entry_under.ensures ∙ next_all c.args.top.now c.args.last.now c.args.self.now (sym c.lt.ensures ∙ c.if-lt.true))

pub returns : goal.returns
returns g c =
    c.parts-2.ensures
    ∙ ap (option_map both)
    (c.if_under.ensures ∙ ap (kept_if (is_under c.args.top.now)) c.entry_behind.ensures
    ∙ next_is c.args.top.now c.args.last.now c.args.self.now c.is_in_order.ensures (sym c.lt.ensures ∙ c.if-lt.false))
