use Rattle.region_port.proofs.Lists.{all_of_push}
use Rattle.region_port.proofs.segments.Segments.give_back.Goals as goal

pub returns-clause-items : goal.returns-clause-items
returns-clause-items g c = rw c.push_back_reserved.ensures.items (all_of_push c.args.self.now.segments.items c.args.segment)
