use Rattle.std.proofs.Common.{ap}
use Rattle.path_trie.specs.Entries.{is_high}
use Rattle.path_trie.proofs.Onwards.{found_shown}
use Rattle.path_trie.proofs.trie.Trie.entry_above.Goals as goal

pub returns : goal.returns
returns g c =
    found_shown c.self.inside.root c.args.self.now (is_high c.names.result.now c.args.least) (is_high c.args.path.now c.args.least) _ (λ x. ap (λ p. is_high p c.args.least x) c.names.ensures.value)
    c.self.invariant.placed c.self.view_is c.high_at.ensures
