-- The acts of a make, in order.
use Rattle.std.specs.Prelude.{ℕ, Bool, true, false, if◌then◌else◌, List, [], ◌∷◌, ◌++◌, map}
use Rattle.std.specs.List.{list_all}
use Rattle.mat_digest.specs.Digests.{digest_of}
use Rattle.mat_digest.specs.declared.digest.Digest.{Digest}
use Rattle.mat_path.specs.Names.{is_rel}
use Rattle.mat_tree.specs.Trees.{same_digest}
use Rattle.mat_tree.specs.declared.flat.Flat.{Flat}
use Rattle.mat_tree.specs.declared.flat.What.{What}
use Rattle.mat_tree.specs.declared.flat.What.TheVariants as what
use Rattle.write_plan.specs.declared.act.Act.{Act}
use Rattle.write_plan.specs.declared.act.Act.TheVariants as act
use Rattle.write_plan.specs.declared.act.Supply.{Supply}
use Rattle.write_plan.specs.declared.act.Supply.TheVariants as supply
use Rattle.write_plan.specs.declared.method.Method.{Method}
use Rattle.write_plan.specs.declared.method.Method.TheVariants as method
use Rattle.write_plan.specs.declared.method.Origin.{Origin}
use Rattle.write_plan.specs.declared.method.Origin.TheVariants as origin

-- whether a digest is that of no bytes
abbrev pub is_empty : Digest → Bool
is_empty digest = same_digest digest (digest_of [])

-- where a copied row's bytes come from, if nothing is lent
abbrev pub origin_supply : Origin → Supply
origin_supply (origin.Inline bytes) = supply.Held
origin_supply origin.Store = supply.Store

-- where the bytes at a rel come from, for a file that has some; `lent` says whether the part that a row was copied from is lent
abbrev pub method_supply : Method → Bool → List (List ℕ) → Supply
method_supply (method.Write bytes) lent rel = supply.Held
method_supply method.Fetch lent rel = supply.Store
method_supply (method.Copy source rest stamp from) true rel = supply.Loan (rest ++ rel)
method_supply (method.Copy source rest stamp from) false rel = origin_supply from

-- where the bytes of a file come from: the empty file needs none
abbrev pub supply_of : Method → Bool → List (List ℕ) → Digest → Supply
supply_of way lent rel digest = if is_empty digest then supply.Empty else method_supply way lent rel

-- the act that puts a node
abbrev pub act_what : Method → Bool → List (List ℕ) → What → Act
act_what way lent rel (what.File digest exec) = act.File rel digest exec (supply_of way lent rel digest)
act_what way lent rel what.Dir = act.Dir rel
act_what way lent rel (what.Link target) = act.Link rel target

abbrev pub act_of : Method → Bool → Flat → Act
act_of way lent node = act_what way lent node.rel node.what

-- the acts of a make: it wipes, puts each node in order of rel, and so parents first, and syncs
abbrev pub plan_of : List Flat → Method → Bool → List Act
plan_of nodes way lent = act.Wipe ∷ map (act_of way lent) nodes ++ act.Sync ∷ []

-- whether a part that is lent has a rel for what stands at a rel of the tree: only a copy has one lent
abbrev pub lends_at : Method → Bool → List (List ℕ) → Bool
lends_at way false rel = true
lends_at (method.Write bytes) true rel = false
lends_at method.Fetch true rel = false
lends_at (method.Copy source rest stamp from) true rel = is_rel (rest ++ rel)

abbrev pub lends_node : Method → Bool → Flat → Bool
lends_node way lent node = lends_at way lent node.rel

-- the same of each node of a tree
abbrev pub may_lend : Method → Bool → List Flat → Bool
may_lend way lent nodes = list_all (lends_node way lent) nodes
