use Rattle.std.proofs.Common.{rules}
use Rattle.debris_list.proofs.Zones.{none_there, off_at}
use Rattle.debris_list.proofs.pieces.place_at.Goals as goal
use Rattle.debris_list.proofs.pieces.place_at.Goals.{else-place-pieces-via-then-place-pieces+else-eq, else-place-pieces-via-else-place-pieces}

pub returns-clause-absent : goal.returns-clause-absent
returns-clause-absent c =
    none_there c.args.path.now c.args.pieces.now c.count_before-place.result c.requires c.count_before-place.ensures.front c.count_before-place.ensures.rest
    (λ d within. elim c.else-place-pieces.branch [
      | else-place-pieces-via-then-place-pieces+else-eq w ↦
          off_at c.args.path.now c.args.pieces.now c.count_before-place.result w.index-pieces-place.result w.index-pieces-place.is (search rules) d within
      | else-place-pieces-via-else-place-pieces w ↦ search rules
    ])
