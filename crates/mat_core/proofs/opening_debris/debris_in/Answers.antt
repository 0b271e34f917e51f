use Rattle.mat_core.specs.Opened.{strays_with}
use Rattle.mat_core.proofs.OpeningLemmas.{adding_clear, adding_more}
use Rattle.mat_core.proofs.opening_debris.debris_in.Goals as goal

pub add-requires-clause-apart : goal.add-requires-clause-apart
add-requires-clause-apart c =
    adding_clear (strays_with c.args.strays.items c.args.lost.items) c.adding.debris.list c.adding.strays.items c.adding.lost.items
    c.take_first.new.strays.items c.take_first.new.lost.items c.adding.debris.spare c.in-Some.path c.requires.apart c.adding.invariant
    c.in-Some.ensures.first

pub adding-preserved : goal.adding-preserved
adding-preserved c =
    adding_more (strays_with c.args.strays.items c.args.lost.items) c.adding.debris.list c.add.new.self.list c.adding.strays.items c.adding.lost.items
    c.take_first.new.strays.items c.take_first.new.lost.items c.adding.debris.spare c.add.new.self.spare c.in-Some.path c.requires.order
    c.adding.invariant c.in-Some.ensures.first c.in-Some.ensures.strays c.in-Some.ensures.lost c.in-Some.ensures.count c.add.ensures.list
    c.add.ensures.spare
