use Rattle.std.proofs.Common.{◌++◌, ap, ◌∙◌}
use Rattle.std.specs.Option.{option_map}
use Rattle.path_trie.specs.Entries.{both, is_at}
use Rattle.path_trie.proofs.Onwards.{found_shown}
use Rattle.path_trie.proofs.trie.Trie.entry_below.Goals as goal

pub returns : goal.returns
returns g c =
    c.parts.ensures
    ∙ ap (option_map both)
    (found_shown c.self.inside.root c.args.self.now (is_at (c.names.result.now ++ c.args.names.now)) (is_at (c.args.top.now ++ c.args.names.now)) _
    (λ x. ap (λ p. is_at (p ++ c.args.names.now) x) c.names.ensures.value) c.self.invariant.placed c.self.view_is c.get_below.ensures)
