use Rattle.std.proofs.Common.{◌≡◌, ◌≤◌, ◌+◌, drop, length}
use Rattle.std.specs.List.{filter}
use Rattle.keep_port.specs.Rows.{is_less}
use Rattle.keep_port.proofs.rows.count_less.Given as goal

abbrev pub invariant-loop-row : goal.invariant-loop-row
invariant-loop-row l =
    (l.count ≤ l.row-index) × (l.count + length (filter (is_less l.path) (drop l.row-index l.rows)) ≡ length (filter (is_less l.path) l.rows))
