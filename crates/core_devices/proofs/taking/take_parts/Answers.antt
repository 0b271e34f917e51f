use Rattle.std.proofs.Common.{◌≤◌, ap, le_refl, subst, sym, ◌∙◌}
use Rattle.core_devices.specs.Takes.{less_taken}
use Rattle.core_devices.specs.Told.{told_disk, told_part}
use Rattle.core_devices.proofs.TakeLemmas.{given_again, same_again}
use Rattle.core_devices.proofs.taking.take_parts.Goals as goal

pub returns-in-Err-clause-again : goal.returns-in-Err-clause-again
returns-in-Err-clause-again g c =
    given_again c.args.path.now (told_disk g.D.Disk c.args.disk.now) (told_disk g.D.Disk c.take_source.new.disk) (told_disk g.D.Disk c.give.new.self)
    (told_part g.D.R.Region c.in-Ok.region) c.requires.task (record {
      place = c.in-Ok.ensures.place;
      content = c.in-Ok.ensures.part;
      rough = c.in-Ok.ensures.region_rough;
      faults = c.in-Ok.ensures.count;
      watch = c.in-Ok.ensures.region_watch;
    })
    (same_again (less_taken c.args.path.now (told_disk g.D.Disk c.args.disk.now)) (told_disk g.D.Disk c.take_source.new.disk)
    (ap (λ d. d.content) c.in-Err.ensures.same ∙ c.in-Ok.ensures.content) (ap (λ d. d.lent) c.in-Err.ensures.same ∙ c.in-Ok.ensures.lent)
    (ap (λ d. d.rough) c.in-Err.ensures.same ∙ c.in-Ok.ensures.rough)
    (subst (λ n. g.D.Disk.fault_count c.args.disk.now ≤ n) (sym (ap (λ d. d.faults) c.in-Err.ensures.same ∙ c.in-Ok.ensures.same))
    (le_refl (g.D.Disk.fault_count c.args.disk.now))) (ap (λ d. d.watch) c.in-Err.ensures.same ∙ c.in-Ok.ensures.watch))
    c.give.ensures.content c.give.ensures.lent c.give.ensures.rough c.give.ensures.cause.later c.give.ensures.watch
