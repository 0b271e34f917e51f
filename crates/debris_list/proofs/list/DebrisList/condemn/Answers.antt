use Rattle.std.proofs.Common.{rules, List, ap, take, ◌∙◌, subst, sym}
use Rattle.std.specs.List.{list_any}
use Rattle.mat_model.specs.WorkState.{Debris, is_condemned}
use Rattle.debris_list.specs.Lists.{IsList}
use Rattle.debris_list.proofs.Zones.{none_in_new}
use Rattle.debris_list.proofs.list.DebrisList.condemn.Goals as goal

pub first_condemned-self-inside-requires-clause-none : goal.first_condemned-self-inside-requires-clause-none
first_condemned-self-inside-requires-clause-none c =
    ap (λ (ps : List Debris). list_any is_condemned (take c.min.result ps)) c.as_slice.ensures.value
    ∙ none_in_new c.self.inside.pieces.items c.mark.new.pieces.items c.self.inside.first c.in-Some.place c.min.result c.self.invariant.first_place c.in-Some.ensures.place
    (search rules) (search rules)

pub invariant_of-self-in-None : goal.invariant_of-self-in-None
invariant_of-self-in-None c = subst (λ (ps : List Debris). IsList ps c.self.inside.first) (sym c.in-None.ensures.same) c.self.invariant
