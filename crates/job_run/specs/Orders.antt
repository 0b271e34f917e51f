-- What a make is to do, and what remains of it.
use Rattle.std.specs.Prelude.{◌≡◌, ◌+◌, ◌-◌, ◌*◌, ℕ, Bool, true, false, List, [], ◌∷◌, ◌++◌, map}
use Rattle.std.specs.List.{list_all, sum_by}
use Rattle.mat_digest.specs.Digests.{digest_of}
use Rattle.mat_digest.specs.declared.digest.Digest.{Digest}
use Rattle.mat_tree.specs.Trees.{ascends, is_placed, is_small, same_digest}
use Rattle.mat_tree.specs.declared.flat.Flat.{Flat}
use Rattle.mat_tree.specs.declared.flat.What.{What}
use Rattle.mat_tree.specs.declared.flat.What.TheVariants as what
use Rattle.write_plan.specs.Plans.{act_of, method_supply}
use Rattle.write_plan.specs.declared.act.Act.{Act}
use Rattle.write_plan.specs.declared.act.Act.TheVariants as act
use Rattle.write_plan.specs.declared.act.Supply.{Supply}
use Rattle.write_plan.specs.declared.act.Supply.TheVariants as supply
use Rattle.write_plan.specs.declared.method.Method.{Method}
use Rattle.write_plan.specs.declared.method.Method.TheVariants as method
use Rattle.write_plan.specs.declared.method.Origin.{Origin}
use Rattle.write_plan.specs.declared.method.Origin.TheVariants as origin
use Rattle.job_run.specs.declared.states.Order.{Order}

-- the bytes that a row holds; where it holds none, these are none
abbrev pub origin_bytes : Origin → List ℕ
origin_bytes (origin.Inline bytes) = bytes
origin_bytes origin.Store = []

abbrev pub held_bytes : Method → List ℕ
held_bytes (method.Write bytes) = bytes
held_bytes method.Fetch = []
held_bytes (method.Copy source rest stamp from) = origin_bytes from

-- where a row's bytes come from, if nothing is lent
abbrev pub own_supply : Method → Supply
own_supply way = method_supply way false []

-- whether bytes from somewhere have a digest: this is asked of held ones alone
abbrev pub is_right_from : Supply → List ℕ → Digest → Bool
is_right_from supply.Empty bytes digest = true
is_right_from supply.Held bytes digest = same_digest (digest_of bytes) digest
is_right_from supply.Store bytes digest = true
is_right_from (supply.Loan rel) bytes digest = true

-- whether the bytes that a row holds have the digest of a node, if it is a file and they are its own
abbrev pub is_right_what : Method → What → Bool
is_right_what way (what.File digest exec) = is_right_from (own_supply way) (held_bytes way) digest
is_right_what way what.Dir = true
is_right_what way (what.Link target) = true

abbrev pub is_right : Method → Flat → Bool
is_right way node = is_right_what way node.what

-- a tree can be made at a path by a method
pub record IsMakeable (place : List (List ℕ)) (tree : List Flat) (way : Method) : Type 0 where
  pub order : ascends tree ≡ true
  pub small : list_all is_small tree ≡ true
  pub places : list_all (is_placed place) tree ≡ true
  pub bytes : list_all (is_right way) tree ≡ true

-- once the nodes in front are put, these acts are left: one for each node behind them, and the sync
pub record Remains (tree : List Flat) (way : Method) (lent : Bool) (left : List Act) (front : List Flat) : Type 0 where
  pub back : List Flat
  pub nodes : tree ≡ front ++ back
  pub acts : left ≡ map (act_of way lent) back ++ act.Sync ∷ []

-- the same of an order
abbrev pub IsLeft : Order → List Flat → Type 0
IsLeft order front = Remains order.tree order.method order.lent order.left.items front

-- the most device calls that a file of this size takes, from an offset on: two for each byte that is left, and two
abbrev pub file_cost : ℕ → ℕ → ℕ
file_cost size at = 2 * (size - at) + 2

-- what reading a lent part may take beyond that: the file may be begun again
abbrev pub again_cost : ℕ → ℕ
again_cost size = 2 * size + 3

abbrev pub supply_cost : ℕ → Supply → ℕ
supply_cost size supply.Empty = file_cost size 0
supply_cost size supply.Held = file_cost size 0
supply_cost size supply.Store = file_cost size 0
supply_cost size (supply.Loan rel) = file_cost size 0 + again_cost size

-- the most device calls that an act takes
abbrev pub act_cost : Act → ℕ
act_cost act.Wipe = 1
act_cost (act.Dir rel) = 1
act_cost (act.Link rel target) = 1
act_cost (act.File rel digest exec from) = supply_cost digest.size from
act_cost act.Sync = 1

abbrev pub acts_cost : List Act → ℕ
acts_cost acts = sum_by act_cost acts
