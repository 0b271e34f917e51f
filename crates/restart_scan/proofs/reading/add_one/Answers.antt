use Rattle.restart_scan.proofs.ReadRows.{adds, puts}
use Rattle.restart_scan.specs.Rows as Spec
use Rattle.restart_scan.proofs.reading.add_one.Goals as goal

pub returns-clause-added : goal.returns-clause-added
returns-clause-added c =
    adds c.args.identity c.args.raw.now (c.in_ok-path.path, c.in_ok-path.body) c.args.rows.now.entries c.insert.new.self.entries
    c.in_ok-path.ensures.row c.in_ok-path.ensures.readable c.in_ok-insert.ensures.entries

pub returns-clause-adds : goal.returns-clause-adds
returns-clause-adds c =
    puts (Spec.row_in c.args.identity c.args.raw.now) (c.in_ok-path.path, c.in_ok-path.body) c.args.rows.now.entries c.insert.new.self.entries
    c.in_ok-path.ensures.read c.in_ok-insert.ensures.entries
