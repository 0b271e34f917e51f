use Rattle.std.proofs.Common.{refl, sym, subst}
use Rattle.mat_model.specs.declared.requests.Asked.TheVariants as asked
use Rattle.mat_core.specs.Served.{Serves}
use Rattle.mat_core.proofs.ServeLemmas.{refusal_serves}
use Rattle.mat_core.proofs.parts.Parts.serve_has.Goals as goal

pub returns : goal.returns
returns g c number =
    subst (λ said. Serves number (asked.Has c.args.command c.args.path.now) said c.args.self.now c.args.self.now) (sym c.if_room.ensures)
    (refusal_serves number 1 (asked.Has c.args.command c.args.path.now) c.look.result c.args.self.now c.look.ensures.leaves refl (λ book. refl)
    (λ context. c.look.ensures.found))
