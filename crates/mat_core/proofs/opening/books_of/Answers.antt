use Rattle.std.proofs.Common.{◌≤◌, ◌∙◌, List, ap₂, map, subst, sym}
use Rattle.mat_path.specs.Covering.{covering}
use Rattle.mat_tree.specs.Trees.{ascends_by}
use Rattle.mat_model.specs.WorkState.{Debris, path_of_debris}
use Rattle.model_laws.proofs.WorkKept.{opening_work}
use Rattle.mat_core.specs.Opened.{strays_with}
use Rattle.mat_core.proofs.BegunLemmas.{debris_apart}
use Rattle.mat_core.proofs.opening.books_of.Goals as goal

pub debris_in-requires-clause-order : goal.debris_in-requires-clause-order
debris_in-requires-clause-order c =
    ap₂ (λ strays lost. ascends_by path_of_debris (strays_with strays lost)) c.into_vec.ensures c.into_vec-2.ensures
    ∙ (opening_work c.args.opening c.requires).order

pub debris_in-requires-clause-apart : goal.debris_in-requires-clause-apart
debris_in-requires-clause-apart c =
    λ path. subst (λ (d : List Debris). covering path (map path_of_debris d) ≤ 1) (sym (ap₂ strays_with c.into_vec.ensures c.into_vec-2.ensures))
    (debris_apart c.args.opening c.requires path)
