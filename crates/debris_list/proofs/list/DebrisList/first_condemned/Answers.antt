use Rattle.std.proofs.Common.{rules, List, Some, None, ap, ◌∙◌}
use Rattle.debris_list.proofs.Zones.{first_path}
use Rattle.debris_list.proofs.list.DebrisList.first_condemned.Goals as goal

pub returns-in-Some : goal.returns-in-Some
returns-in-Some c =
    ap (λ (path : List _). Some path) c.path.ensures
    ∙ first_path c.args.self.now.list c.self.inside.pieces.items c.as_slice.result.now c.self.inside.first (Some c.in-Some.piece.now) (search rules)
    c.as_slice.ensures.value c.self.invariant.first_place c.in-Some.ensures

pub returns-in-None : goal.returns-in-None
returns-in-None c =
    first_path c.args.self.now.list c.self.inside.pieces.items c.as_slice.result.now c.self.inside.first None (search rules) c.as_slice.ensures.value
    c.self.invariant.first_place c.in-None.ensures
