use Rattle.std.proofs.Common.{ap, ◌∙◌}
use Rattle.mat_tree.specs.Trees.{ascends}
use Rattle.reapi_dir.proofs.Levels.{sum_dir}
use Rattle.mat_tree.proofs.Orders.{dir_order}
use Rattle.reapi_dir.proofs.sum.sum_of.Goals as goal

pub digest_dir-requires : goal.digest_dir-requires
digest_dir-requires c =
    dir_order c.root.result.now c.in-Dir.children c.list.result.now c.in-Dir.is c.list.ensures (ap ascends c.root.ensures.value ∙ c.root.ensures.tree.order)

pub returns-in_ok-digest-in-Dir-clause-ok : goal.returns-in_ok-digest-in-Dir-clause-ok
returns-in_ok-digest-in-Dir-clause-ok c =
    sum_dir c.root.result.now c.in-Dir.children c.list.result.now c.args.tree.now c.in_ok-digest-in-Dir.digest c.in-Dir.is c.list.ensures c.root.ensures.value
    c.root.ensures.tree.order c.in_ok-digest-in-Dir.ensures
