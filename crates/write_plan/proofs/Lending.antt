-- What is asked of a part that is lent.
use Rattle.std.proofs.Common.{◌≡◌, true, false, List, [], ◌∷◌, refl}
use Rattle.mat_tree.specs.declared.flat.Flat.{Flat}
use Rattle.write_plan.specs.declared.method.Method.{Method}
use Rattle.write_plan.specs.Plans.{may_lend}

-- where nothing is lent, nothing is asked
pub unlent_may : (way : Method) (nodes : List Flat) → may_lend way false nodes ≡ true
unlent_may way [] = refl
unlent_may way (node ∷ nodes) = unlent_may way nodes
