use Rattle.std.proofs.Common.{◌∙◌, ap}
use Rattle.std.proofs.lemmas.Iterator.Adapters.{YieldsList-from_vec}
use Rattle.std.proofs.lemmas.Iterator.Consumers.{YieldsList-so_far, YieldsList-turn}
use Rattle.row_book.specs.Stocks.{held_bytes}
use Rattle.mat_core.proofs.OpeningLemmas.{ahead_now, none_held}
use Rattle.mat_core.proofs.opening.rows_in.Goals as goal

pub add_row-requires-clause-ahead : goal.add_row-requires-clause-ahead
add_row-requires-clause-ahead c =
    let gives = c.into_iter-row-iterator.ensures.into_iter_gives in
    let all = YieldsList-from_vec {s = c.into_iter-row-iterator.result} c.args.rows.items gives.0 (gives.1 ∙ c.args.rows.ok.0) in
    ahead_now c.args.rows.items c.loop-row.yielded c.in-Some.row c.loop-row.book c.requires
    (YieldsList-turn all c.loop-row.yielded c.loop-row.row-iterator c.loop-row.yielded_by c.next.result c.next.new.self c.in-Some.row c.in-Some.is c.next.ensures.steps)
    (YieldsList-so_far all c.loop-row.yielded c.loop-row.row-iterator c.loop-row.yielded_by) c.loop-row.invariant

pub add_row-requires-clause-free : goal.add_row-requires-clause-free
add_row-requires-clause-free c = ap held_bytes c.loop-row.invariant ∙ none_held c.loop-row.yielded
