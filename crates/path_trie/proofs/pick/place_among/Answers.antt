use Rattle.path_trie.proofs.Kept.{child_well}
use Rattle.path_trie.proofs.pick.place_among.Goals as goal

pub len-count-requires : goal.len-count-requires
len-count-requires g c =
    child_well c.args.edges.now c.loop-place.place c.index-edges-place.result c.requires c.loop-place-test.true c.index-edges-place.is
