use Rattle.std.proofs.Common.{subst, sym, ◌∙◌}
use Rattle.std.specs.Option.{option_map}
use Rattle.mat_model.specs.WorkState.{path_of_task}
use Rattle.core_devices.specs.Takes.{AreTaken, source_path, told_loan}
use Rattle.core_devices.specs.Told.{told_disk, told_part}
use Rattle.mat_core.proofs.parts.Parts.put_down.Goals as goal

pub returns-in-Err-clause-again : goal.returns-in-Err-clause-again
returns-in-Err-clause-again g c =
    c.return_parts.ensures (record {
      before = told_disk g.D.Disk c.args.self.now.disk;
      path = path_of_task c.args.task.now;
      source = option_map source_path c.args.order.source;
      free = c.requires.its;
      apart = c.requires.read;
      taken = subst (λ o. AreTaken (path_of_task c.args.task.now) (option_map source_path c.args.order.source) (told_disk g.D.Disk c.args.self.now.disk)
          (told_disk g.D.Disk c.take_parts.new.disk) (told_part g.D.R.Region c.in-Ok.taken.region) o)
          (sym (c.region_of.ensures ∙ c.lend-lent.ensures.told))
          (subst (λ p. AreTaken p (option_map source_path c.args.order.source) (told_disk g.D.Disk c.args.self.now.disk)
          (told_disk g.D.Disk c.take_parts.new.disk) (told_part g.D.R.Region c.in-Ok.taken.region)
          (option_map (told_loan g.D.R.Region) c.in-Ok.taken.loan)) c.task_path.ensures c.in-Ok.ensures.taken);
    })
