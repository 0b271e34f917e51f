use Rattle.std.proofs.Common.{refl, sym, ◌∙◌}
use Rattle.mat_model.specs.declared.requests.Asked.TheVariants as asked
use Rattle.mat_core.proofs.EnterLemmas.{enter_serves}
use Rattle.mat_core.proofs.ServeLemmas.{lack_serves}
use Rattle.mat_core.proofs.parts.Parts.serve_enter.Goals as goal

pub returns-then-lacks_entries-clause-served : goal.returns-then-lacks_entries-clause-served
returns-then-lacks_entries-clause-served g c =
    lack_serves c.args.number 2 (asked.Enter c.args.command c.args.state c.args.soft c.args.refuse) c.args.self.now (λ context. refl)
    (sym c.lacks_entries.ensures ∙ c.if-lacks_entries.true)

pub returns-clause-served : goal.returns-clause-served
returns-clause-served g c =
    enter_serves c.args.number c.args.command c.args.state c.args.soft c.args.refuse c.enter.result c.args.self.now c.enter.new.self
    c.enter.ensures.served c.enter.ensures.rest (sym c.lacks_entries.ensures ∙ c.if-lacks_entries.false)
