use Rattle.keep_port.proofs.Places.{remove_keeps_order, store_keeps_order}
use Rattle.keep_port.proofs.laws.calls_keep_order.Goals as goal

pub returns-clause-store : goal.returns-clause-store
returns-clause-store c = store_keeps_order

pub returns-clause-remove : goal.returns-clause-remove
returns-clause-remove c = remove_keeps_order
