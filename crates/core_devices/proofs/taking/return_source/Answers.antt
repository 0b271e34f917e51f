use Rattle.std.proofs.Common.{subst}
use Rattle.std.specs.Option.{option_map}
use Rattle.core_devices.specs.Takes.{IsTaken}
use Rattle.core_devices.specs.Told.{told_disk, told_part}
use Rattle.core_devices.proofs.TakeLemmas.{source_again, source_out}
use Rattle.core_devices.proofs.taking.return_source.Goals as goal

pub give-requires : goal.give-requires
give-requires g c =
    source_out c.requires.at c.requires.before (told_disk g.D.Disk c.args.disk.now) (told_part g.D.R.Region c.in-Some.region)
    (subst (λ o. IsTaken c.requires.at c.requires.before (told_disk g.D.Disk c.args.disk.now) (option_map (told_part g.D.R.Region) o)) c.in-Some.is
    c.requires.taken)

pub returns-in-Some : goal.returns-in-Some
returns-in-Some g c was =
    source_again was.at was.before (told_disk g.D.Disk c.args.disk.now) (told_disk g.D.Disk c.give.new.self) (told_part g.D.R.Region c.in-Some.region) was.free
    (subst (λ o. IsTaken was.at was.before (told_disk g.D.Disk c.args.disk.now) (option_map (told_part g.D.R.Region) o)) c.in-Some.is was.taken)
    c.give.ensures.content c.give.ensures.lent c.give.ensures.rough c.give.ensures.cause.later c.give.ensures.watch
