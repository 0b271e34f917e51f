use Rattle.std.proofs.Common.{ap}
use Rattle.path_trie.specs.Entries.{is_under}
use Rattle.path_trie.proofs.Onwards.{found_shown}
use Rattle.path_trie.proofs.Pulls.{list_pulled, trie_pulled}
use Rattle.path_trie.proofs.trie.Trie.take_under.Goals as goal

pub invariant_of-self : goal.invariant_of-self
invariant_of-self g c = trie_pulled c.self.inside.root c.pull_at.new.node c.names.result.now c.self.invariant c.pull_at.ensures.well c.pull_at.ensures.list

pub returns-clause-list : goal.returns-clause-list
returns-clause-list g c =
    list_pulled c.self.inside.root c.pull_at.new.node c.names.result.now c.args.path.now c.args.self.now c.names.ensures.value c.self.view_is c.pull_at.ensures.list

pub returns-clause-entry : goal.returns-clause-entry
returns-clause-entry g c =
    found_shown c.self.inside.root c.args.self.now (is_under c.names.result.now) (is_under c.args.path.now) _ (λ x. ap (λ p. is_under p x) c.names.ensures.value)
    c.self.invariant.placed c.self.view_is c.pull_at.ensures.value
