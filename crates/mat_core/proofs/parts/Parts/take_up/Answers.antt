use Rattle.std.proofs.Common.{subst, sym}
use Rattle.core_devices.specs.Takes.{AreTaken}
use Rattle.core_devices.specs.Told.{told_disk, told_part}
use Rattle.mat_core.proofs.parts.Parts.take_up.Goals as goal

pub returns-clause-again : goal.returns-clause-again
returns-clause-again g c was =
    c.return_parts.ensures (record {
      before = was.before;
      path = was.path;
      source = was.source;
      free = was.free;
      apart = was.apart;
      taken = subst (λ o. AreTaken was.path was.source was.before (told_disk g.D.Disk c.args.self.now.disk) (told_part g.D.R.Region c.args.out.region) o)
          (sym c.region_of.ensures) was.taken;
    })
