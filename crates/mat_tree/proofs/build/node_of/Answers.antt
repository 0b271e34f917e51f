use Rattle.mat_tree.proofs.Refusals.{no_refusal_linked, split_first}
use Rattle.mat_tree.proofs.build.node_of.Goals as goal

pub build-requires-clause-linked : goal.build-requires-clause-linked
build-requires-clause-linked c =
    no_refusal_linked c.args.nodes.now c.root-item.result _ (split_first c.args.nodes.now c.root-item.result c.in-len1-up.len_at_least c.root-item.is) c.requires
