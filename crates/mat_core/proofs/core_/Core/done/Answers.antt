use Rattle.std.proofs.Common.{◌∙◌, count_by, sym, ap, subst}
use Rattle.mat_model.specs.Legal.{is_of}
use Rattle.core_devices.specs.Told.{told_disk, told_store}
use Rattle.mat_core.specs.Cores.{point_in, seen_of}
use Rattle.mat_core.specs.EndsTold.{EndsTold, ReturnsRead}
use Rattle.mat_core.proofs.CoreBegins.{core_loans}
use Rattle.mat_core.proofs.CoreEnds.{core_ended, done_keeps_base, ends_told}
use Rattle.mat_core.proofs.CoreLemmas.{core_bound, core_rules, seen_point}
use Rattle.mat_core.proofs.core_.Core.done.Goals as goal

pub done-requires : goal.done-requires
done-requires g c = record {
  bound = core_bound (told_disk g.D.Disk) (told_store g.K.Keeper) c.self.inside.parts c.self.invariant;
  rules = core_rules (told_disk g.D.Disk) (told_store g.K.Keeper) c.self.inside.parts c.self.invariant;
  reserves = c.self.invariant.reserves;
  loans = core_loans (told_disk g.D.Disk) (told_store g.K.Keeper) c.self.inside.parts c.self.invariant;
  ready = c.self.invariant.ready;
}

pub invariant_of-self : goal.invariant_of-self
invariant_of-self g c =
    core_ended g.D.R.Region (told_disk g.D.Disk) (told_store g.K.Keeper) c.self.inside.parts c.done.new.self c.args.by c.args.done c.self.invariant
    (c.requires.number ∙ ap (λ s. count_by (is_of c.args.by.caller) s.history) (sym c.self.view_is))
    (subst (λ s. ReturnsRead g.D.R.Region (told_disk g.D.Disk) (told_store g.K.Keeper) s c.args.by.caller c.args.done) (sym c.self.view_is) c.requires.read)
    c.done.result
    (c.done.ensures (point_in (seen_of c.self.inside.parts)) c.self.invariant.stands
    (seen_point (told_disk g.D.Disk) (told_store g.K.Keeper) (seen_of c.self.inside.parts) c.self.invariant.seen))

pub returns-clause-base : goal.returns-clause-base
returns-clause-base g c =
    done_keeps_base g.D.R.Region (told_disk g.D.Disk) (told_store g.K.Keeper) c.self.inside.parts c.done.new.self c.args.by c.args.done c.self.invariant
    (c.requires.number ∙ ap (λ s. count_by (is_of c.args.by.caller) s.history) (sym c.self.view_is))
    (subst (λ s. ReturnsRead g.D.R.Region (told_disk g.D.Disk) (told_store g.K.Keeper) s c.args.by.caller c.args.done) (sym c.self.view_is) c.requires.read)
    c.done.result
    (c.done.ensures (point_in (seen_of c.self.inside.parts)) c.self.invariant.stands
    (seen_point (told_disk g.D.Disk) (told_store g.K.Keeper) (seen_of c.self.inside.parts) c.self.invariant.seen))
    ∙ ap (λ s. s.base) c.self.view_is

pub returns-clause-told : goal.returns-clause-told
returns-clause-told g c =
    subst (λ s. EndsTold g.D.R.Region c.args.by (told_disk g.D.Disk) (told_store g.K.Keeper) c.args.done s (seen_of c.done.new.self) c.done.result) c.self.view_is
    (ends_told g.D.R.Region (told_disk g.D.Disk) (told_store g.K.Keeper) c.self.inside.parts c.done.new.self c.args.by c.args.done c.self.invariant
    (c.requires.number ∙ ap (λ s. count_by (is_of c.args.by.caller) s.history) (sym c.self.view_is))
    (subst (λ s. ReturnsRead g.D.R.Region (told_disk g.D.Disk) (told_store g.K.Keeper) s c.args.by.caller c.args.done) (sym c.self.view_is) c.requires.read)
    c.done.result
    (c.done.ensures (point_in (seen_of c.self.inside.parts)) c.self.invariant.stands
    (seen_point (told_disk g.D.Disk) (told_store g.K.Keeper) (seen_of c.self.inside.parts) c.self.invariant.seen)))
