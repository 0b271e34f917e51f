use Rattle.std.proofs.Common.{rules}
use Rattle.restart_scan.specs.Rows.{kept_list}
use Rattle.restart_scan.proofs.ScanLemmas.{lost_told, stored_less}
use Rattle.restart_scan.proofs.scanning.scan_parts.Goals as goal

pub returns-clause-store : goal.returns-clause-store
returns-clause-store g c =
    stored_less c.args.identity (g.K.Keeper.kept c.args.keeper.now) (g.K.Keeper.kept c.remove_lost.new.keeper) (kept_list c.in_ok-kept.kept)
    (g.D.Disk.content c.args.disk.now) c.in_ok-opening.opening c.in_ok-kept.ensures.ready.apart c.in_ok-kept.ensures.store
    c.in_ok-opening.ensures.of c.in_ok-opening.ensures.lost (search rules)

pub returns-clause-gone : goal.returns-clause-gone
returns-clause-gone g c =
    lost_told c.args.identity (g.K.Keeper.kept c.args.keeper.now) (kept_list c.in_ok-kept.kept) (g.D.Disk.content c.args.disk.now)
    c.in_ok-opening.opening.lost c.in_ok-kept.ensures.store c.in_ok-opening.ensures.lost
