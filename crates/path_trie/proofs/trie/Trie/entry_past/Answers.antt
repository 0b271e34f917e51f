use Rattle.std.proofs.Common.{ap}
use Rattle.path_trie.specs.Entries.{is_past}
use Rattle.path_trie.proofs.Onwards.{found_shown}
use Rattle.path_trie.proofs.trie.Trie.entry_past.Goals as goal

pub returns : goal.returns
returns g c =
    found_shown c.self.inside.root c.args.self.now (is_past c.names.result.now) (is_past c.args.path.now) _ (λ x. ap (λ p. is_past p x) c.names.ensures.value)
    c.self.invariant.placed c.self.view_is c.behind_at.ensures
