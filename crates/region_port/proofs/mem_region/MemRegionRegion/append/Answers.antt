use Rattle.std.proofs.Common.{ap, ◌∙◌, rules}
use Rattle.std.specs.Prelude.{Some}
use Rattle.mat_tree.specs.Parts.{below}
use Rattle.region_port.specs.Entries.{content_of}
use Rattle.region_port.proofs.Content.{below_appended}
use Rattle.region_port.proofs.mem_region.MemRegionRegion.append.Goals as goal

pub returns-clause-part : goal.returns-clause-part
returns-clause-part c =
    let place = c.args.self.now.place in
    ap Some (ap (below place) (c.grow_at.ensures.done (search rules))
    ∙ below_appended place c.args.rel.now c.in-Ok.path c.args.bytes.now (content_of c.args.self.now.nodes) c.in-Ok.ensures.ok)
