use Rattle.core_devices.specs.Takes.{less_taken}
use Rattle.core_devices.specs.Told.{told_disk, told_part}
use Rattle.core_devices.proofs.TakeLemmas.{given_again, task_out}
use Rattle.core_devices.proofs.taking.return_parts.Goals as goal

pub give-requires : goal.give-requires
give-requires g c =
    task_out c.requires.path c.requires.before (told_disk g.D.Disk c.return_source.new.disk) (told_part g.D.R.Region c.args.region) c.requires.taken.its
    (c.return_source.ensures (record {
      before = less_taken c.requires.path c.requires.before;
      at = c.requires.source;
      free = c.requires.apart;
      taken = c.requires.taken.read;
    }))

pub returns : goal.returns
returns g c was =
    given_again was.path was.before (told_disk g.D.Disk c.return_source.new.disk) (told_disk g.D.Disk c.give.new.self) (told_part g.D.R.Region c.args.region)
    was.free was.taken.its
    (c.return_source.ensures (record {
      before = less_taken was.path was.before;
      at = was.source;
      free = was.apart;
      taken = was.taken.read;
    }))
    c.give.ensures.content c.give.ensures.lent c.give.ensures.rough c.give.ensures.cause.later c.give.ensures.watch
