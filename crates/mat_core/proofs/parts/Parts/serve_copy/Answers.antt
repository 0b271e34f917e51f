use Rattle.std.proofs.Common.{◌≡◌, Some, refl, sym, ◌∙◌, ap, subst}
use Rattle.mat_model.specs.declared.answers.Reply.TheVariants as reply
use Rattle.mat_model.specs.declared.requests.Asked.TheVariants as asked
use Rattle.mat_core.specs.Copying.{copied_in}
use Rattle.mat_core.specs.Declaring.{full_nodes}
use Rattle.mat_core.specs.Served.{Serves}
use Rattle.mat_core.proofs.CopyLemmas.{copy_dead, copy_declaring, copy_long, copy_none, declaring_full}
use Rattle.mat_core.proofs.ServeLemmas.{lack_serves, refusal_serves}
use Rattle.mat_core.proofs.parts.Parts.serve_copy.Goals as goal

pub returns-then-lacks_entries : goal.returns-then-lacks_entries
returns-then-lacks_entries g c =
    lack_serves c.args.number 1 (asked.Copy c.args.command c.args.path c.args.source.now) c.args.self.now (λ context. refl)
    (sym c.lacks_entries.ensures ∙ c.if-lacks_entries.true)

pub returns-then-not-is_live : goal.returns-then-not-is_live
returns-then-not-is_live g c =
    subst (λ said. Serves c.args.number (asked.Copy c.args.command c.args.path c.args.source.now) said c.args.self.now c.args.self.now) (sym c.if_room.ensures)
    (refusal_serves c.args.number 1 (asked.Copy c.args.command c.args.path c.args.source.now) reply.NotLive c.args.self.now refl refl (λ book. refl)
    (λ context. copy_dead c.args.number c.args.command c.args.path c.args.source.now c.args.self.now context (sym c.is_live.ensures ∙ c.if-not-is_live.true)))

pub returns-in_default-found : goal.returns-in_default-found
returns-in_default-found g c =
    subst (λ said. Serves c.args.number (asked.Copy c.args.command c.args.path c.args.source.now) said c.args.self.now c.args.self.now)
    (sym c.if_room-in_default-found.ensures)
    (refusal_serves c.args.number 1 (asked.Copy c.args.command c.args.path c.args.source.now) reply.NoSource c.args.self.now refl refl (λ book. refl)
    (λ context. copy_none c.args.number c.args.command c.args.path c.args.source.now c.args.self.now context
    (sym c.is_live.ensures ∙ c.if-not-is_live.false) (sym c.in-Ok.ensures ∙ c.in_default-found.is)))

pub returns-then-not-fits : goal.returns-then-not-fits
returns-then-not-fits g c =
    let some : copied_in c.args.self.now.rows c.args.source.now ≡ Some c.in-Some.field-0 = sym c.in-Ok.ensures ∙ c.in-Some.is in
    subst (λ said. Serves c.args.number (asked.Copy c.args.command c.args.path c.args.source.now) said c.args.self.now c.args.self.now)
    (sym c.if_room-then-not-fits.ensures)
    (refusal_serves c.args.number 1 (asked.Copy c.args.command c.args.path c.args.source.now) reply.TooLong c.args.self.now refl refl (λ book. refl)
    (λ context. copy_long c.args.number c.args.command c.args.path c.args.source.now c.in-Some.field-0 c.args.self.now context
    (sym c.is_live.ensures ∙ c.if-not-is_live.false) some (sym c.in-Ok-is_placed.ensures ∙ c.if-not-fits.true)))

pub returns-in-Some-full_nodes : goal.returns-in-Some-full_nodes
returns-in-Some-full_nodes g c =
    let some : copied_in c.args.self.now.rows c.args.source.now ≡ Some c.in-Some.field-0 = sym c.in-Ok.ensures ∙ c.in-Some.is in
    declaring_full c.args.number c.args.command c.args.path c.in-Some.field-0.tree c.in-Some.field-0.way
    (asked.Copy c.args.command c.args.path c.args.source.now) c.in-Some-full_nodes.limit c.args.self.now
    (copy_declaring c.args.number c.args.command c.args.path c.args.source.now c.in-Some.field-0 c.args.self.now
    (sym c.is_live.ensures ∙ c.if-not-is_live.false) some (sym c.in-Ok-is_placed.ensures ∙ c.if-not-fits.false))
    (ap (full_nodes c.args.self.now) (sym c.nodes.ensures) ∙ sym c.full_nodes.ensures ∙ c.in-Some-full_nodes.is)

pub returns : goal.returns
returns g c =
    let some : copied_in c.args.self.now.rows c.args.source.now ≡ Some c.in-Some.field-0 = sym c.in-Ok.ensures ∙ c.in-Some.is in
    c.declare.ensures (asked.Copy c.args.command c.args.path c.args.source.now)
    (copy_declaring c.args.number c.args.command c.args.path c.args.source.now c.in-Some.field-0 c.args.self.now
    (sym c.is_live.ensures ∙ c.if-not-is_live.false) some (sym c.in-Ok-is_placed.ensures ∙ c.if-not-fits.false))
