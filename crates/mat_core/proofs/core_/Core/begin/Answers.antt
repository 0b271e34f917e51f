use Rattle.std.proofs.Common.{◌∙◌, count_by, sym, ap, subst}
use Rattle.mat_model.specs.Legal.{is_of}
use Rattle.core_devices.specs.Told.{told_disk, told_store}
use Rattle.mat_core.specs.Begins.{BeginsTold}
use Rattle.mat_core.specs.Cores.{point_in, seen_of}
use Rattle.mat_core.proofs.CleanedLemmas.{seen_cleaned}
use Rattle.mat_core.proofs.CoreBegins.{begin_keeps_base, begins_told, core_begun, core_loans}
use Rattle.mat_core.proofs.CoreLemmas.{core_bound, core_rules, seen_point}
use Rattle.mat_core.proofs.core_.Core.begin.Goals as goal

pub begin-requires : goal.begin-requires
begin-requires g c = record {
  bound = core_bound (told_disk g.D.Disk) (told_store g.K.Keeper) c.self.inside.parts c.self.invariant;
  rules = core_rules (told_disk g.D.Disk) (told_store g.K.Keeper) c.self.inside.parts c.self.invariant;
  reserves = c.self.invariant.reserves;
  loans = core_loans (told_disk g.D.Disk) (told_store g.K.Keeper) c.self.inside.parts c.self.invariant;
}

pub invariant_of-self : goal.invariant_of-self
invariant_of-self g c =
    core_begun (told_disk g.D.Disk) (told_store g.K.Keeper) c.self.inside.parts c.begin.new.self c.args.by c.self.invariant
    (c.requires.number ∙ ap (λ s. count_by (is_of c.args.by.caller) s.history) (sym c.self.view_is)) _ c.begin.result
    (c.begin.ensures (point_in (seen_of c.self.inside.parts)) c.self.invariant.stands
    (seen_point (told_disk g.D.Disk) (told_store g.K.Keeper) (seen_of c.self.inside.parts) c.self.invariant.seen)
    (seen_cleaned (told_disk g.D.Disk) (told_store g.K.Keeper) (seen_of c.self.inside.parts) c.self.invariant.seen))

pub returns-clause-base : goal.returns-clause-base
returns-clause-base g c =
    begin_keeps_base (told_disk g.D.Disk) (told_store g.K.Keeper) c.self.inside.parts c.begin.new.self c.args.by c.self.invariant _ c.begin.result
    (c.begin.ensures (point_in (seen_of c.self.inside.parts)) c.self.invariant.stands
    (seen_point (told_disk g.D.Disk) (told_store g.K.Keeper) (seen_of c.self.inside.parts) c.self.invariant.seen)
    (seen_cleaned (told_disk g.D.Disk) (told_store g.K.Keeper) (seen_of c.self.inside.parts) c.self.invariant.seen))
    ∙ ap (λ s. s.base) c.self.view_is

pub returns-clause-told : goal.returns-clause-told
returns-clause-told g c =
    subst (λ s. BeginsTold g.D.R.Region c.args.by (told_disk g.D.Disk) (told_store g.K.Keeper) s (seen_of c.begin.new.self) c.begin.result) c.self.view_is
    (begins_told (told_disk g.D.Disk) (told_store g.K.Keeper) c.self.inside.parts c.begin.new.self c.args.by c.self.invariant _ c.begin.result
    (c.begin.ensures (point_in (seen_of c.self.inside.parts)) c.self.invariant.stands
    (seen_point (told_disk g.D.Disk) (told_store g.K.Keeper) (seen_of c.self.inside.parts) c.self.invariant.seen)
    (seen_cleaned (told_disk g.D.Disk) (told_store g.K.Keeper) (seen_of c.self.inside.parts) c.self.invariant.seen)))
