use Rattle.std.proofs.Common.{refl, ◌∙◌}
use Rattle.path_trie.proofs.RootLemmas.{found_as}
use Rattle.path_trie.proofs.Swaps.{list_swapped, trie_swapped}
use Rattle.path_trie.proofs.trie.Trie.replace.Goals as goal

pub invariant_of-self : goal.invariant_of-self
invariant_of-self g c = trie_swapped c.self.inside.root c.swap_at.new.node c.names.result.now c.args.value c.self.invariant c.swap_at.ensures.well c.swap_at.ensures.list

pub returns-clause-list : goal.returns-clause-list
returns-clause-list g c =
    list_swapped c.self.inside.root c.swap_at.new.node c.names.result.now c.args.path.now c.args.value c.args.self.now c.swap_at.result
    c.names.ensures.value c.self.view_is c.swap_at.ensures.list c.swap_at.ensures.old

pub returns-clause-old : goal.returns-clause-old
returns-clause-old g c =
    c.swap_at.ensures.old ∙ found_as c.self.inside.root c.names.result.now c.args.path.now c.args.self.now _ c.names.ensures.value c.self.view_is refl
