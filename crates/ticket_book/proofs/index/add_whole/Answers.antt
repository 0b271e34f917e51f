use Rattle.ticket_book.specs.Asked.{asks_for}
use Rattle.ticket_book.specs.ByPath.{asks_at}
use Rattle.ticket_book.proofs.IndexLemmas.{table_added, table_undone}
use Rattle.ticket_book.proofs.index.add_whole.Goals as goal

pub returns-in-Err-clause-paths : goal.returns-in-Err-clause-paths
returns-in-Err-clause-paths c = λ tickets are later still at.
    table_undone (asks_at at) c.args.ticket.now.number tickets _ _ _ _ later (are at) (c.in_ok-add.ensures at) (c.drop_number.ensures at)

pub returns-clause-paths : goal.returns-clause-paths
returns-clause-paths c = λ tickets are later still at. table_added (asks_at at) tickets c.args.ticket.now _ _ later still (are at) (c.in_ok-add.ensures at)

pub returns-clause-commands : goal.returns-clause-commands
returns-clause-commands c = λ tickets are later still at. table_added (asks_for at) tickets c.args.ticket.now _ _ later still (are at) (c.in_default.ensures at)
