use Rattle.std.proofs.Common.{rules}
use Rattle.restart_scan.proofs.Found.{found_more}
use Rattle.restart_scan.proofs.opening.rows_of.Goals as goal

pub loop-kept-preserved : goal.loop-kept-preserved
loop-kept-preserved c =
    found_more c.loop-kept.yielded c.in-Some.kept c.loop-kept.rows.items c.push.new.self.items c.len-stamp.result c.in_ok-row_of.field-0
    c.loop-kept.invariant (search rules) c.in_ok-row_of.ensures c.in_ok-push.ensures.items
