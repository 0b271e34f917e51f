use Rattle.std.proofs.Common.{rules, of_calls}
use Rattle.std.proofs.lemmas.Fn.{always_returns_same}
use Rattle.debris_list.specs.Pieces.{is_up_to}
use Rattle.debris_list.proofs.Order.{up_to_parted, point_front, point_rest}
use Rattle.debris_list.proofs.places.count_up_to.Goals as goal

pub returns-clause-front : goal.returns-clause-front
returns-clause-front c =
    point_front (is_up_to c.args.path.now) c.args.pieces.now c.partition_point.result c.partition_point.ensures.bound
    (c.partition_point.ensures.partitioned (is_up_to c.args.path.now) (always_returns_same _ _ _ (λ a r f k. search (rules, of_calls)))
    (up_to_parted c.args.path.now c.args.pieces.now c.requires))

pub returns-clause-rest : goal.returns-clause-rest
returns-clause-rest c =
    point_rest (is_up_to c.args.path.now) c.args.pieces.now c.partition_point.result
    (c.partition_point.ensures.partitioned (is_up_to c.args.path.now) (always_returns_same _ _ _ (λ a r f k. search (rules, of_calls)))
    (up_to_parted c.args.path.now c.args.pieces.now c.requires))
