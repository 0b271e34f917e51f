use Rattle.std.proofs.Common.{refl, sym, subst, ◌∙◌}
use Rattle.mat_model.specs.declared.requests.Asked.TheVariants as asked
use Rattle.mat_core.specs.Served.{Serves}
use Rattle.mat_core.proofs.GrantLemmas.{all_earlier, ensure_asked, ensure_full, ensure_ready}
use Rattle.mat_core.proofs.ServeLemmas.{refusal_serves, unchanged_serves}
use Rattle.mat_core.proofs.parts.Parts.serve_ensure.Goals as goal

pub returns-in-Err : goal.returns-in-Err
returns-in-Err g c =
    subst (λ said. Serves c.args.number (asked.Ensure c.args.command c.args.path.now) said c.args.self.now c.args.self.now) (sym c.if_room.ensures)
    (refusal_serves c.args.number 1 (asked.Ensure c.args.command c.args.path.now) c.in-Err.reply c.args.self.now c.in-Err.ensures.leaves refl
    (λ book. refl) (λ context. c.in-Err.ensures.other c.args.number))

pub returns-in-Some : goal.returns-in-Some
returns-in-Some g c =
    ensure_full c.args.number c.args.command c.args.path.now c.in-Ok.row.now c.in-Some.limit c.args.self.now (c.in-Ok.ensures.found c.args.number)
    (sym c.full_grant.ensures ∙ c.in-Some.is)

pub grant_later-requires : goal.grant_later-requires
grant_later-requires g c = all_earlier c.args.number c.args.self.now.tickets.all c.requires.below

pub returns-then-not-row : goal.returns-then-not-row
returns-then-not-row g c =
    ensure_asked c.args.number c.args.command c.args.path.now c.in-Ok-copy.place c.in-Ok.row.now c.args.self.now c.grant_later.new.self
    c.in-Ok-copy.ensures.ok c.if-not-row.true (c.in-Ok.ensures.found c.args.number) (sym c.full_grant.ensures ∙ c.in_default.is)
    c.in-Ok-grant_later.ensures.granted

pub returns : goal.returns
returns g c =
    ensure_ready c.args.number c.args.command c.args.path.now c.in-Ok-copy.place c.in-Ok.row.now c.args.self.now c.grant.new.self
    c.in-Ok-copy.ensures.ok c.if-not-row.false (c.in-Ok.ensures.found c.args.number) (sym c.full_grant.ensures ∙ c.in_default.is)
    c.in-Ok-grant.ensures.granted

pub returns-in_default-grant_later : goal.returns-in_default-grant_later
returns-in_default-grant_later g c =
    unchanged_serves c.args.number (asked.Ensure c.args.command c.args.path.now) c.args.self.now c.grant_later.new.self
    c.in_default-grant_later.ensures.wants

pub returns-in_default-grant : goal.returns-in_default-grant
returns-in_default-grant g c =
    unchanged_serves c.args.number (asked.Ensure c.args.command c.args.path.now) c.args.self.now c.grant.new.self
    c.in_default-grant.ensures.wants
