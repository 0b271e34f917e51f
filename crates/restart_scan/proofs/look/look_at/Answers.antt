use Rattle.std.proofs.Common.{rules}
use Rattle.restart_scan.proofs.LookLemmas.{still_there}
use Rattle.restart_scan.proofs.look.look_at.Goals as goal

pub returns-clause-content : goal.returns-clause-content
returns-clause-content g c =
    still_there c.args.path.now (g.D.R.Region.place c.has_tree-answer.new.region) (g.D.Disk.content c.args.disk.now) (g.D.Disk.content c.take.new.self)
    (g.D.Disk.content c.give.new.self) (g.D.R.Region.part c.has_tree-answer.new.region) (search rules) (search rules) (search rules) c.give.ensures.content
