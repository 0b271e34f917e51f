use Rattle.std.proofs.Common.{◌≡◌, ◌+◌, nat_lt, false, ◌∙◌, ap, refl, sym}
use Rattle.mat_core.specs.Rooms.{spent_in}
use Rattle.mat_core.proofs.InvalidateLemmas as step
use Rattle.mat_core.proofs.InvalidateLemmas.{asked_grown, grown_place, grown_room, grown_spent, grown_stands}
use Rattle.mat_core.proofs.parts.Parts.invalidate.Goals as goal

pub returns-then-not-is_live : goal.returns-then-not-is_live
returns-then-not-is_live g c point stands rules roomy =
    let fits : nat_lt c.args.self.now.base.limits.history (spent_in c.args.self.now + 1) ≡ false =
    ap (λ n. nat_lt c.args.self.now.base.limits.history (n + 1)) (sym (grown_spent c.args.self.now c.has_place.new.history c.has_place.ensures.items))
    ∙ sym c.lacks_entries.ensures ∙ c.if-lacks_entries.false in
    step.dead_so g.K.Keeper c.args.by c.args.now c.args.command c.args.path c.args.self.now (record c.args.self.now { history = c.has_place.new.history })
    c.enter_asked.new.self c.args.self.now.keeper point stands rules roomy c.requires.reserves
    (grown_room c.args.self.now c.has_place.new.history c.has_place.ensures.items c.has_place.ensures.capacity)
    (grown_place c.args.self.now c.has_place.new.history c.owed-entries.result c.has_place.ensures.items c.owed-entries.ensures
    (c.has_place.ensures.place c.if-not-has_place.false refl)) fits (sym c.is_live.ensures ∙ c.if-not-is_live.true) refl c.enter_asked.ensures

pub returns : goal.returns
returns g c point stands rules roomy =
    asked_grown c.args.by c.args.now _ c.invalidate_live.result c.args.self.now c.invalidate_live.new.self c.has_place.new.history _ _ point
    c.has_place.ensures.items c.has_place.ensures.capacity
    (c.invalidate_live.ensures point (grown_stands c.args.self.now c.has_place.new.history point c.has_place.ensures.items c.has_place.ensures.capacity stands)
    rules roomy)
