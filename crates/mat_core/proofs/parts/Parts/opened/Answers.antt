use Rattle.std.proofs.Common.{refl}
use Rattle.mat_core.proofs.BegunLemmas.{begun_stands}
use Rattle.mat_core.proofs.parts.Parts.opened.Goals as goal

pub returns-clause-stands : goal.returns-clause-stands
returns-clause-stands g c =
    begun_stands c.args.opening c.in-Ok.books _ c.in-Ok.ensures
    (record {
      first = refl;
      moment = refl;
      gate = refl;
      rows = refl;
      holds = c.new.ensures;
      tickets = c.new-2.ensures.all;
      debris = refl;
      jobs = c.new-3.ensures;
      kept = refl;
      nodes = refl;
      paths = refl;
      history = c.new-4.ensures.items;
    })
