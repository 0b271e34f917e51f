use Rattle.std.proofs.Common.{rules}
use Rattle.ticket_book.proofs.ByPathLemmas.{less_here, less_none, less_put}
use Rattle.ticket_book.proofs.by_path.drop_number.Goals as goal

pub returns-in_default : goal.returns-in_default
returns-in_default c = less_none _ c.args.number _ _ (search rules) c.lift.ensures.there c.lift.ensures.others

pub returns-then-is_empty : goal.returns-then-is_empty
returns-then-is_empty c =
    less_here _ c.args.number c.in-Some.numbers c.drop.new.self _ _ _ (search rules) c.lift.ensures.others c.drop.ensures (search rules) c.remove.ensures.list

pub returns : goal.returns
returns c =
    less_put _ c.args.number c.in-Some.numbers c.drop.new.self _ _ _ (search rules) c.lift.ensures.others c.drop.ensures (search rules) c.put_back.ensures
