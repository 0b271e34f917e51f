use Rattle.std.proofs.Common.{◌∷◌, ◌∙◌, subst, ap}
use Rattle.write_plan.specs.declared.act.Act.{Act}
use Rattle.write_plan.specs.declared.act.Act.TheVariants as act
use Rattle.write_plan.specs.declared.act.Supply.{Supply}
use Rattle.job_run.specs.Begun.{BeginsFrom}
use Rattle.job_run.proofs.Nexts.{told_next}
use Rattle.job_run.proofs.acts.next.Goals as goal

pub unreachable-requires-in-Some-Wipe : goal.unreachable-requires-in-Some-Wipe
unreachable-requires-in-Some-Wipe c =
    let o = c.args.order.now in
    told_next o.tree o.method o.lent c.requires.0 o.left.items act.Wipe c.pop_front.new.self.items
    (c.in-Some-Wipe.ensures.items ∙ ap (λ (a : Act). a ∷ c.pop_front.new.self.items) c.in-Some-Wipe.field-0-is) c.requires.1

pub returns-in-Some-Dir-clause-begins : goal.returns-in-Some-Dir-clause-begins
returns-in-Some-Dir-clause-begins c = λ nodes left.
    let o = c.args.order.now in
    told_next o.tree o.method o.lent nodes o.left.items (act.Dir c.in-Some-Dir.rel) c.pop_front.new.self.items
    (c.in-Some-Dir.ensures.items ∙ ap (λ (a : Act). a ∷ c.pop_front.new.self.items) c.in-Some-Dir.field-0-is) left

pub returns-in-Some-Link-clause-begins : goal.returns-in-Some-Link-clause-begins
returns-in-Some-Link-clause-begins c = λ nodes left.
    let o = c.args.order.now in
    told_next o.tree o.method o.lent nodes o.left.items (act.Link c.in-Some-Link.rel c.in-Some-Link.target) c.pop_front.new.self.items
    (c.in-Some-Link.ensures.items ∙ ap (λ (a : Act). a ∷ c.pop_front.new.self.items) c.in-Some-Link.field-0-is) left

pub returns-in-Some-File-clause-begins : goal.returns-in-Some-File-clause-begins
returns-in-Some-File-clause-begins c = λ nodes left.
    let o = c.args.order.now in
    let f = c.in-Some-File in
    let next = told_next o.tree o.method o.lent nodes o.left.items (act.File f.rel f.digest f.exec f.from) c.pop_front.new.self.items
    (f.ensures.items ∙ ap (λ (a : Act). a ∷ c.pop_front.new.self.items) f.field-0-is) left in
    (next.0, subst (λ (s : Supply). BeginsFrom s c.begin.result) next.1 c.begin.ensures.begins)

pub returns-in-Some-Sync-clause-begins : goal.returns-in-Some-Sync-clause-begins
returns-in-Some-Sync-clause-begins c = λ nodes left.
    let o = c.args.order.now in
    told_next o.tree o.method o.lent nodes o.left.items act.Sync c.pop_front.new.self.items
    (c.in-Some-Sync.ensures.items ∙ ap (λ (a : Act). a ∷ c.pop_front.new.self.items) c.in-Some-Sync.field-0-is) left
