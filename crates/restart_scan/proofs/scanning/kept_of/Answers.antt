use Rattle.std.proofs.Common.{IfOk, List, subst}
use Rattle.keep_port.specs.declared.row.RawRow.{RawRow}
use Rattle.restart_scan.proofs.Telling.{stored_rows}
use Rattle.restart_scan.specs.Rows.{kept_list}
use Rattle.restart_scan.specs.Stores.{AreOf}
use Rattle.restart_scan.proofs.scanning.kept_of.Goals as goal

pub returns-clause-store : goal.returns-clause-store
returns-clause-store g c =
    stored_rows c.args.identity (g.K.Keeper.kept c.args.keeper.now) c.in_ok-raws.raws c.read_rows.result c.in_ok-raws.ensures.rows
    c.in_ok-raws.ensures.order
    (subst (λ (l : List RawRow). IfOk c.read_rows.result (λ rows. AreOf c.args.identity (kept_list rows) l)) c.as_slice.ensures c.read_rows.ensures.store)
