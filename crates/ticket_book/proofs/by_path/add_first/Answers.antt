use Rattle.std.proofs.Common.{rules}
use Rattle.ticket_book.proofs.ByPathLemmas.{first_added}
use Rattle.ticket_book.proofs.by_path.add_first.Goals as goal

pub returns-in-Ok : goal.returns-in-Ok
returns-in-Ok c = first_added _ c.args.number c.add.new.self _ _ c.in-Ok.ensures.list (search rules)
