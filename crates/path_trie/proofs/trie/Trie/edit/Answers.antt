use Rattle.path_trie.proofs.Edits.{list_edited, trie_edited}
use Rattle.path_trie.proofs.trie.Trie.edit.Goals as goal

pub invariant_of-self : goal.invariant_of-self
invariant_of-self g c = trie_edited (g.E.Edit.edited c.args.by.now) c.self.inside.root c.edit_at.new.node c.self.invariant c.edit_at.ensures.well c.edit_at.ensures.list

pub returns : goal.returns
returns g c = list_edited (g.E.Edit.edited c.args.by.now) c.self.inside.root c.edit_at.new.node c.args.self.now c.self.invariant c.self.view_is c.edit_at.ensures.list
