use Rattle.std.proofs.Common.{sym, subst}
use Rattle.mat_model.specs.declared.requests.Asked.TheVariants as asked
use Rattle.core_devices.specs.Told.{told_store}
use Rattle.mat_core.specs.Keeping.{AsksSo}
use Rattle.mat_core.proofs.InvalidateLemmas.{asked_grown, grown_stands}
use Rattle.mat_core.proofs.parts.Parts.clean.Goals as goal

pub returns-in-Dry : goal.returns-in-Dry
returns-in-Dry g c point stands rules roomy =
    asked_grown c.args.by c.args.now _ c.clean_dry.result c.args.self.now c.clean_dry.new.self c.has_place.new.history _ _ point
    c.has_place.ensures.items c.has_place.ensures.capacity
    (subst (λ m. AsksSo point c.args.by c.args.now (asked.Clean c.args.cutoff m) (record c.args.self.now { history = c.has_place.new.history }) c.clean_dry.new.self
    (told_store g.K.Keeper c.args.self.now.keeper) (told_store g.K.Keeper c.clean_dry.new.self.keeper) c.clean_dry.result) (sym c.in-Dry.is)
    (c.clean_dry.ensures point (grown_stands c.args.self.now c.has_place.new.history point c.has_place.ensures.items c.has_place.ensures.capacity stands)
    rules roomy))

pub returns-in-Real : goal.returns-in-Real
returns-in-Real g c point stands rules roomy =
    asked_grown c.args.by c.args.now _ c.clean_rows.result c.args.self.now c.clean_rows.new.self c.has_place.new.history _ _ point
    c.has_place.ensures.items c.has_place.ensures.capacity
    (subst (λ m. AsksSo point c.args.by c.args.now (asked.Clean c.args.cutoff m) (record c.args.self.now { history = c.has_place.new.history }) c.clean_rows.new.self
    (told_store g.K.Keeper c.args.self.now.keeper) (told_store g.K.Keeper c.clean_rows.new.self.keeper) c.clean_rows.result) (sym c.in-Real.is)
    (c.clean_rows.ensures point (grown_stands c.args.self.now c.has_place.new.history point c.has_place.ensures.items c.has_place.ensures.capacity stands)
    rules roomy))

pub returns-in-All : goal.returns-in-All
returns-in-All g c point stands rules roomy =
    asked_grown c.args.by c.args.now _ c.clean_rows-in-All.result c.args.self.now c.clean_rows-in-All.new.self c.has_place.new.history _ _ point
    c.has_place.ensures.items c.has_place.ensures.capacity
    (subst (λ m. AsksSo point c.args.by c.args.now (asked.Clean c.args.cutoff m) (record c.args.self.now { history = c.has_place.new.history }) c.clean_rows-in-All.new.self
    (told_store g.K.Keeper c.args.self.now.keeper) (told_store g.K.Keeper c.clean_rows-in-All.new.self.keeper) c.clean_rows-in-All.result) (sym c.in-All.is)
    (c.clean_rows-in-All.ensures point (grown_stands c.args.self.now c.has_place.new.history point c.has_place.ensures.items c.has_place.ensures.capacity stands)
    rules roomy))
