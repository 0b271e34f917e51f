use Rattle.std.proofs.Common.{◌≡◌, false, refl, sym, subst, ◌∙◌}
use Rattle.std.proofs.lemmas.Bool.{ne_eqb}
use Rattle.mat_model.specs.declared.answers.Reply.TheVariants as reply
use Rattle.mat_model.specs.declared.requests.Asked.TheVariants as asked
use Rattle.mat_core.specs.Books.{book_in}
use Rattle.mat_core.specs.Served.{Serves, is_want}
use Rattle.mat_core.proofs.LeaveLemmas.{leave_busy, leave_unknown, left_serves}
use Rattle.mat_core.proofs.ServeLemmas.{if_room_wants, refusal_serves}
use Rattle.mat_core.proofs.parts.Parts.serve_leave.Goals as goal

pub returns-then-not-is_known-clause-served : goal.returns-then-not-is_known-clause-served
returns-then-not-is_known-clause-served g c number =
    subst (λ said. Serves number (asked.Leave c.args.command) said c.args.self.now c.args.self.now) (sym c.if_room.ensures)
    (refusal_serves number 1 (asked.Leave c.args.command) reply.Unknown c.args.self.now refl refl (λ book. refl)
    (λ context. leave_unknown c.args.command (book_in c.args.self.now) (sym c.is_known.ensures ∙ c.if-not-is_known.true)))

pub returns-then-open-ne0-clause-served : goal.returns-then-open-ne0-clause-served
returns-then-open-ne0-clause-served g c number =
    subst (λ said. Serves number (asked.Leave c.args.command) said c.args.self.now c.args.self.now) (sym c.if_room-then-open-ne0.ensures)
    (refusal_serves number 1 (asked.Leave c.args.command) (reply.Busy c.open_of-open.result) c.args.self.now refl refl (λ book. refl)
    (λ context. leave_busy c.args.command c.open_of-open.result (book_in c.args.self.now)
    (sym c.is_known.ensures ∙ c.if-not-is_known.false) (sym c.open_of-open.ensures)
    (ne_eqb c.open_of-open.result 0 c.if-open-ne0.true)))

pub returns-clause-served : goal.returns-clause-served
returns-clause-served g c number =
    left_serves number c.args.command c.depart.result c.args.self.now c.depart.new.self c.depart.ensures.served c.depart.ensures.holds
    c.depart.ensures.tickets c.depart.ensures.rest

pub returns-then-not-is_known-clause-only : goal.returns-then-not-is_known-clause-only
returns-then-not-is_known-clause-only g c =
    subst (λ said. is_want said ≡ false) (sym c.if_room.ensures) (if_room_wants c.args.self.now 1 reply.Unknown refl)

pub returns-then-open-ne0-clause-only : goal.returns-then-open-ne0-clause-only
returns-then-open-ne0-clause-only g c =
    subst (λ said. is_want said ≡ false) (sym c.if_room-then-open-ne0.ensures)
    (if_room_wants c.args.self.now 1 (reply.Busy c.open_of-open.result) refl)
