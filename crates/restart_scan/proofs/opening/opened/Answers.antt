use Rattle.std.proofs.Common.{refl, rules}
use Rattle.restart_scan.proofs.Found.{is_opening}
use Rattle.restart_scan.specs.Rows.{kept_list}
use Rattle.restart_scan.proofs.opening.opened.Goals as goal

pub returns-clause-right : goal.returns-clause-right
returns-clause-right c =
    is_opening (kept_list c.args.found) c.args.lost c.args.strays
    (record { rows = c.of-rows.result; version1 = c.of-version1.result; lost = c.args.lost; strays = c.args.strays }) c.requires
    (record { rows = search rules; version1 = search rules; lost = refl; strays = refl })
