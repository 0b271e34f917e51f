use Rattle.std.proofs.Common.{ap, ◌∙◌}
use Rattle.std.specs.Result.{is_ok}
use Rattle.path_trie.proofs.RootLemmas.{back_put, list_put_by, old_put, trie_put_by, value_put_ok}
use Rattle.path_trie.proofs.trie.Trie.insert.Goals as goal

pub invariant_of-self : goal.invariant_of-self
invariant_of-self g c =
    trie_put_by c.self.inside.root c.put_at.new.node c.names.result.now c.args.path.now (record { path = c.in-Ok.own; value = c.args.value }) (is_ok c.put_at.result) c.self.invariant
    c.names.ensures.value c.in-Ok.ensures.ok c.put_at.ensures.well c.put_at.ensures.list

pub returns-clause-list : goal.returns-clause-list
returns-clause-list g c =
    list_put_by c.self.inside.root c.put_at.new.node c.names.result.now c.args.path.now (record { path = c.in-Ok.own; value = c.args.value }) (is_ok c.put_at.result) (is_ok c.values_put.result)
    c.args.self.now (ap is_ok c.values_put.ensures ∙ value_put_ok c.put_at.result) c.names.ensures.value c.self.view_is c.put_at.ensures.list

pub returns-clause-old : goal.returns-clause-old
returns-clause-old g c =
    old_put c.put_at.result c.values_put.result c.self.inside.root c.names.result.now c.args.path.now c.args.self.now c.values_put.ensures c.names.ensures.value c.self.view_is c.put_at.ensures.old

pub returns-clause-back : goal.returns-clause-back
returns-clause-back g c = back_put c.put_at.result c.values_put.result (record { path = c.in-Ok.own; value = c.args.value }) c.values_put.ensures c.put_at.ensures.back
