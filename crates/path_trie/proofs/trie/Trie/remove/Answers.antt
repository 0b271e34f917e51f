use Rattle.std.proofs.Common.{◌∙◌}
use Rattle.path_trie.proofs.RootLemmas.{found_as, list_taken, trie_taken}
use Rattle.path_trie.proofs.trie.Trie.remove.Goals as goal

pub invariant_of-self : goal.invariant_of-self
invariant_of-self g c = trie_taken c.self.inside.root c.take_at.new.node c.names.result.now c.self.invariant c.take_at.ensures.well c.take_at.ensures.list

pub returns-clause-list : goal.returns-clause-list
returns-clause-list g c =
    list_taken c.self.inside.root c.take_at.new.node c.names.result.now c.args.path.now c.args.self.now c.names.ensures.value c.self.view_is c.take_at.ensures.list

pub returns-clause-value : goal.returns-clause-value
returns-clause-value g c =
    c.value_kept.ensures
    ∙ found_as c.self.inside.root c.names.result.now c.args.path.now c.args.self.now c.take_at.result c.names.ensures.value c.self.view_is c.take_at.ensures.value
