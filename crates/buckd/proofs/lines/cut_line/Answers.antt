use Rattle.std.proofs.Common.{sym}
use Rattle.buckd.proofs.LineLemmas.{behind, cuts_at, no_newline}
use Rattle.buckd.proofs.lines.cut_line.Goals as goal

pub returns-in-Some : goal.returns-in-Some
returns-in-Some c = cuts_at c.args.bytes.now _ c.in-Some.at (sym c.in-Some.ensures) (behind c.args.bytes.now c.in-Some.at)

pub returns-in-None : goal.returns-in-None
returns-in-None c = no_newline c.args.bytes.now (sym c.in-None.ensures)
