use Rattle.restart_scan.proofs.Telling.{few_rows, stored_opening}
use Rattle.restart_scan.proofs.scanning.scan_rows.Goals as goal

pub returns-clause-store : goal.returns-clause-store
returns-clause-store g c =
    stored_opening c.args.identity _ _ c.in_ok-kept.kept c.opened_on.result c.in_ok-kept.ensures.kept c.in_ok-kept.ensures.ready
    c.in_ok-kept.ensures.store c.opened_on.ensures.made

pub returns-clause-few : goal.returns-clause-few
returns-clause-few g c =
    few_rows c.args.most c.in_ok-kept.kept c.opened_on.result c.in_ok-kept.ensures.few c.opened_on.ensures.made
