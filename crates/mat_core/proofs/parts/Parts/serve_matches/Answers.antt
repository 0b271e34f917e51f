use Rattle.std.proofs.Common.{false, refl, sym, subst, ◌∙◌}
use Rattle.mat_model.specs.declared.answers.Reply.TheVariants as reply
use Rattle.mat_model.specs.declared.requests.Asked.TheVariants as asked
use Rattle.mat_core.specs.Served.{Serves}
use Rattle.mat_core.proofs.GrantLemmas.{full_serves, grant_serves, same_grant}
use Rattle.mat_core.proofs.ServeLemmas.{refusal_serves, unchanged_serves}
use Rattle.mat_core.proofs.parts.Parts.serve_matches.Goals as goal

pub returns-in-Err : goal.returns-in-Err
returns-in-Err g c number =
    subst (λ said. Serves number (asked.Matches c.args.command c.args.path.now c.args.sum) said c.args.self.now c.args.self.now) (sym c.if_room.ensures)
    (refusal_serves number 1 (asked.Matches c.args.command c.args.path.now c.args.sum) c.in-Err.reply c.args.self.now c.in-Err.ensures.leaves refl
    (λ book. refl) (λ context. c.in-Err.ensures.other))

pub returns-in-Some : goal.returns-in-Some
returns-in-Some g c number =
    full_serves number c.args.command c.args.path.now c.args.path.now false (asked.Matches c.args.command c.args.path.now c.args.sum)
    (reply.Same c.in-Ok.stamp) c.in-Some.limit c.args.self.now (same_grant c.args.command c.in-Ok.stamp c.args.path.now c.args.sum)
    (λ context. c.in-Ok.ensures.same) (sym c.full_grant.ensures ∙ c.in-Some.is)

pub returns : goal.returns
returns g c number =
    grant_serves number c.args.command c.args.path.now c.args.path.now false (asked.Matches c.args.command c.args.path.now c.args.sum)
    (reply.Same c.in-Ok.stamp) c.args.self.now c.grant.new.self (same_grant c.args.command c.in-Ok.stamp c.args.path.now c.args.sum)
    (λ context. c.in-Ok.ensures.same) (sym c.full_grant.ensures ∙ c.in_default.is) c.in-Ok-grant.ensures.granted

pub returns-in_default-grant : goal.returns-in_default-grant
returns-in_default-grant g c number =
    unchanged_serves number (asked.Matches c.args.command c.args.path.now c.args.sum) c.args.self.now c.grant.new.self
    c.in_default-grant.ensures.wants
