-- How a make goes on behind a node.
use Rattle.std.proofs.Common.{◌≡◌, ℕ, Bool, true, List, [], ◌∷◌, ◌++◌, Option, sym, ◌∙◌, subst, append_assoc}
use Rattle.std.specs.List.{list_all}
use Rattle.mat_tree.specs.Parts.{Part}
use Rattle.mat_tree.specs.Trees.{ascends}
use Rattle.mat_tree.specs.declared.flat.Flat.{Flat}
use Rattle.write_plan.specs.declared.act.Act.{Act}
use Rattle.write_plan.specs.declared.method.Method.{Method}
use Rattle.job_run.specs.Begun.{Begins}
use Rattle.job_run.specs.Growing.{HasNodes}
use Rattle.job_run.specs.Orders.{IsLeft, IsMakeable, Remains, is_right}
use Rattle.job_run.specs.Stages.{IsBehind, IsMaking, filing_node}
use Rattle.job_run.specs.declared.states.Doing.{Doing}
use Rattle.job_run.specs.declared.states.Doing.TheVariants as doing
use Rattle.job_run.specs.declared.states.Order.{Order}
use Rattle.job_run.proofs.Fillings.{filling_from, plan_serves}
use Rattle.job_run.proofs.Grown.{all_elsewhere, passes}

-- the tree of what remains behind a node
pub split : (tree : List Flat) (way : Method) (lent : Bool) (left : List Act) (nodes : List Flat) (node : Flat) →
    (r : Remains tree way lent left (nodes ++ node ∷ [])) → tree ≡ nodes ++ node ∷ r.back
split tree way lent left nodes node r = r.nodes ∙ append_assoc nodes (node ∷ []) r.back

-- a test that all nodes pass
pub node_passes : (test : Flat → Bool) (tree : List Flat) (way : Method) (lent : Bool) (left : List Act) (nodes : List Flat) (node : Flat) →
    Remains tree way lent left (nodes ++ node ∷ []) → list_all test tree ≡ true → test node ≡ true
node_passes test tree way lent left nodes node r all =
    passes test nodes node r.back (subst (λ (t : List Flat). list_all test t ≡ true) (split tree way lent left nodes node r) all)

-- nodes up to one that ascend
pub node_ascends : (tree : List Flat) (way : Method) (lent : Bool) (left : List Act) (nodes : List Flat) (node : Flat) →
    (r : Remains tree way lent left (nodes ++ node ∷ [])) → ascends tree ≡ true → ascends (nodes ++ node ∷ r.back) ≡ true
node_ascends tree way lent left nodes node r up = subst (λ (t : List Flat). ascends t ≡ true) (split tree way lent left nodes node r) up

-- an act that begins behind some nodes
pub begun : (place : List (List ℕ)) (part : Option Part) (order : Order) (nodes : List Flat) (one : Doing) → IsMakeable place order.tree order.method →
    HasNodes nodes part → Begins nodes order one → IsMaking place part order one
begun place part order nodes (doing.Dir rel) makeable has begins = record { makeable = makeable; nodes = nodes; at = (begins, has) }
begun place part order nodes (doing.Link rel target) makeable has begins = record { makeable = makeable; nodes = nodes; at = (begins, has) }
begun place part order nodes (doing.File filing how) makeable has begins = record {
  makeable = makeable;
  nodes = nodes;
  at = (
    begins.0,
    filling_from order.method order.lent filing nodes part _ how
        (plan_serves order.method order.lent filing.rel filing.digest
        (node_passes (is_right order.method) order.tree order.method order.lent order.left.items nodes (filing_node filing) begins.0 makeable.bytes))
        (all_elsewhere filing.rel nodes part has) begins.1,
  );
}
begun place part order nodes doing.Sync makeable has begins = record { makeable = makeable; nodes = nodes; at = (begins, has) }

-- the same where the order changed only in the acts that are left
pub goes_on : (place : List (List ℕ)) (part : Option Part) (old new : Order) (one : Doing) → new.tree ≡ old.tree → new.method ≡ old.method →
    IsBehind place part old → ((nodes : List Flat) → IsLeft old nodes → Begins nodes new one) → IsMaking place part new one
goes_on place part old new one tree way behind begins =
    begun place part new behind.nodes one
    (subst (λ (t : List Flat). IsMakeable place t new.method) (sym tree) (subst (λ (m : Method). IsMakeable place old.tree m) (sym way) behind.makeable))
    behind.has (begins behind.nodes behind.left)
