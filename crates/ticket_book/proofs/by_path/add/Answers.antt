use Rattle.std.proofs.Common.{rules}
use Rattle.ticket_book.proofs.ByPathLemmas.{more_none, more_put}
use Rattle.ticket_book.proofs.by_path.add.Goals as goal

pub returns-in_default : goal.returns-in_default
returns-in_default c = more_none _ c.args.number _ _ _ _ (search rules) c.lift.ensures.there c.lift.ensures.others c.add_first.ensures

pub returns : goal.returns
returns c =
    more_put _ c.args.number c.in-Some.numbers c.add-added.new.self _ _ _ _ (search rules) c.lift.ensures.others c.add-added.ensures c.put_back.ensures
