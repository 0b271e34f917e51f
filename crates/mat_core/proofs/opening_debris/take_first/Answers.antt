use Rattle.std.proofs.Common.{◌∙◌, sym}
use Rattle.mat_core.proofs.OpeningLemmas.{lost_taken, stray_taken}
use Rattle.mat_core.proofs.opening_debris.take_first.Goals as goal

pub returns-then-is_lost_first-clause-first : goal.returns-then-is_lost_first-clause-first
returns-then-is_lost_first-clause-first c =
    lost_taken c.args.strays.now.items c.args.lost.now.items c.pop_front.new.self.items c.pop_front.result c.requires.strays c.requires.lost
    (sym c.is_lost_first.ensures ∙ c.if-is_lost_first.true) c.pop_front.ensures.items

pub returns-else-is_lost_first-clause-first : goal.returns-else-is_lost_first-clause-first
returns-else-is_lost_first-clause-first c =
    stray_taken c.args.strays.now.items c.args.lost.now.items c.pop_front-else-is_lost_first.new.self.items c.pop_front-else-is_lost_first.result
    c.requires.lost (sym c.is_lost_first.ensures ∙ c.if-is_lost_first.false) c.pop_front-else-is_lost_first.ensures.items
