use Rattle.std.proofs.Common.{rules, List, ap, take, ◌∙◌}
use Rattle.std.specs.List.{list_any}
use Rattle.mat_model.specs.WorkState.{Debris, is_condemned}
use Rattle.debris_list.proofs.Zones.{none_in_new}
use Rattle.debris_list.proofs.list.DebrisList.add.Goals as goal

pub first_condemned-self-inside-requires-clause-none : goal.first_condemned-self-inside-requires-clause-none
first_condemned-self-inside-requires-clause-none c =
    ap (λ (ps : List Debris). list_any is_condemned (take c.min.result ps)) c.as_slice.ensures.value
    ∙ none_in_new c.self.inside.pieces.items c.put-place.new.pieces.items c.self.inside.first c.put-place.result c.min.result c.self.invariant.first_place c.put-place.ensures.place
    (search rules) (search rules)
