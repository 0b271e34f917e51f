use Rattle.std.proofs.Common.{List, sym, subst}
use Rattle.mat_model.specs.declared.book.Row.{Row}
use Rattle.mat_model.specs.OnDisk.{AreOnDisk}
use Rattle.region_port.specs.Disks.{disk_content, disk_rough}
use Rattle.buckd.specs.Sound.{AreSynced}
use Rattle.buckd.proofs.daemon.Daemon.into_run.Goals as goal

pub returns-clause-held : goal.returns-clause-held
returns-clause-held c =
    subst (λ (rows : List Row). AreOnDisk (disk_content c.args.self.disk) rows) (sym c.of-4.ensures) c.requires.kept.held

pub returns-clause-synced : goal.returns-clause-synced
returns-clause-synced c =
    subst (λ (rows : List Row). AreSynced (disk_rough c.args.self.disk) rows) (sym c.of-4.ensures) c.requires.kept.synced
