-- How many files a make may ask the store for, by its tree.
use Rattle.std.proofs.Common.{◌≡◌, ◌+◌, ℕ, Bool, true, false, if◌then◌else◌, List, [], ◌∷◌, ◌++◌, map, refl, sym, ap, ◌∙◌}
use Rattle.std.proofs.lemmas.List.Sums.{sum_by-cons}
use Rattle.mat_tree.specs.declared.flat.Flat.{Flat}
use Rattle.mat_tree.specs.declared.flat.What.{What}
use Rattle.mat_tree.specs.declared.flat.What.TheVariants as what
use Rattle.write_plan.specs.Plans.{act_of, act_what, is_empty, method_supply}
use Rattle.write_plan.specs.declared.act.Act.{Act}
use Rattle.write_plan.specs.declared.act.Act.TheVariants as act
use Rattle.write_plan.specs.declared.act.Supply.TheVariants as supply
use Rattle.write_plan.specs.declared.method.Method.{Method}
use Rattle.write_plan.specs.declared.method.Method.TheVariants as method
use Rattle.write_plan.specs.declared.method.Origin.TheVariants as origin
use Rattle.job_run.specs.Asking.{asks_of, node_asks, what_asks}
use Rattle.job_run.specs.Orders.{Remains, own_supply}
use Rattle.job_run.specs.Stages.{act_asks, acts_asks, own_asks, supply_asks}

supply_same : (way : Method) (lent : Bool) (rel : List (List ℕ)) → supply_asks way (method_supply way lent rel) ≡ own_asks (own_supply way)
supply_same (method.Write bytes) lent rel = refl
supply_same method.Fetch lent rel = refl
supply_same (method.Copy source rest stamp from) true rel = refl
supply_same (method.Copy source rest stamp (origin.Inline bytes)) false rel = refl
supply_same (method.Copy source rest stamp origin.Store) false rel = refl

what_same : (way : Method) (lent : Bool) (rel : List (List ℕ)) (w : What) → act_asks way (act_what way lent rel w) ≡ what_asks way w
what_same way lent rel what.Dir = refl
what_same way lent rel (what.Link target) = refl
what_same way lent rel (what.File digest exec) = by (is_empty digest)
  where
    by : (b : Bool) → supply_asks way (if b then supply.Empty else method_supply way lent rel) ≡ (if b then 0 else own_asks (own_supply way))
    by true = refl
    by false = supply_same way lent rel

tree_same : (way : Method) (lent : Bool) (tree : List Flat) → acts_asks way (map (act_of way lent) tree ++ act.Sync ∷ []) ≡ asks_of way tree
tree_same way lent [] = refl
tree_same way lent (node ∷ rest) =
    sum_by-cons (act_asks way) (act_of way lent node) (map (act_of way lent) rest ++ act.Sync ∷ []) ∙
    ap (λ (n : ℕ). n + acts_asks way (map (act_of way lent) rest ++ act.Sync ∷ [])) (what_same way lent node.rel node.what) ∙
    ap (λ (n : ℕ). node_asks way node + n) (tree_same way lent rest) ∙ sym (sum_by-cons (node_asks way) node rest)

-- what a make may ask for before its first act
pub begun_asks : (tree : List Flat) (way : Method) (lent : Bool) (left : List Act) → Remains tree way lent left [] → acts_asks way left ≡ asks_of way tree
begun_asks tree way lent left remains =
    ap (acts_asks way) remains.acts ∙ tree_same way lent remains.back ∙ ap (asks_of way) (sym remains.nodes)
