use Rattle.std.proofs.Common.{◌∙◌}
use Rattle.std.specs.Cmp.{first_so}
use Rattle.path_trie.proofs.Kept.{child_edge, child_well}
use Rattle.path_trie.proofs.Seeks.{first_child}
use Rattle.path_trie.proofs.seek.first_among.Goals as goal

pub value_at-requires : goal.value_at-requires
value_at-requires g c = child_well c.args.edges.now 0 c.edge-item.result c.requires c.in-len1-up.len_at_least c.edge-item.is

pub returns-in-len1-up : goal.returns-in-len1-up
returns-in-len1-up g c =
    c.value_at.ensures
    ∙ first_child c.args.edges.now c.edge-item.result c.in-len1-up.len_at_least c.edge-item.is
    (first_so _ _ (child_edge c.args.edges.now 0 c.edge-item.result c.requires c.in-len1-up.len_at_least c.edge-item.is))
