-- What the stage of a job keeps, and what is seen of it.
use Rattle.std.specs.Prelude.{◌≡◌, ◌<◌, ◌+◌, ℕ, Bool, true, false, List, Option, Some, None}
use Rattle.std.specs.List.{list_any}
use Rattle.std.specs.Option.{ForSome}
use Rattle.mat_digest.specs.declared.digest.Digest.{Digest}
use Rattle.mat_model.specs.declared.answers.Device.{Device}
use Rattle.mat_model.specs.declared.answers.Device.TheVariants as device
use Rattle.mat_model.specs.declared.entries.Outcome.{Outcome}
use Rattle.mat_model.specs.declared.entries.Outcome.TheVariants as outcome
use Rattle.mat_tree.specs.Parts.{bare}
use Rattle.mat_tree.specs.Parts.{Part as TreePart}
use Rattle.mat_tree.specs.Trees.{same_digest}
use Rattle.mat_tree.specs.declared.flat.Flat.{Flat}
use Rattle.mat_tree.specs.declared.flat.What.{What}
use Rattle.mat_tree.specs.declared.flat.What.TheVariants as what
use Rattle.region_port.specs.States.{state_region, state_tree}
use Rattle.region_port.specs.declared.port.Region.{Ghosts}
use Rattle.region_port.specs.declared.states.Part.{Part}
use Rattle.region_port.specs.declared.states.Part.TheVariants as part
use Rattle.job_run.specs.Orders.{acts_cost}
use Rattle.job_run.specs.Stages.{IsMaking, acts_asks, making_asks, making_cost}
use Rattle.job_run.specs.declared.states.Doing.{Doing}
use Rattle.job_run.specs.declared.states.Order.{Order}
use Rattle.job_run.specs.declared.states.State.{State}
use Rattle.job_run.specs.declared.states.State.TheVariants as state

-- ---- how a job ends

-- whether a node is a file of a digest
abbrev pub is_what_of : Digest → What → Bool
is_what_of digest (what.File other exec) = same_digest other digest
is_what_of digest what.Dir = false
is_what_of digest (what.Link target) = false

abbrev pub is_node_of : Digest → Flat → Bool
is_node_of digest node = is_what_of digest node.what

-- whether a tree has a file of a digest
abbrev pub has_file_of : List Flat → Digest → Bool
has_file_of tree digest = list_any (is_node_of digest) tree

-- whether a job's device may fail: a make has a disk and a store
abbrev pub is_make_device : Device → Bool
is_make_device device.Disk = true
is_make_device device.Store = true
is_make_device device.Keeper = false

abbrev pub is_disk : Device → Bool
is_disk device.Disk = true
is_disk device.Store = false
is_disk device.Keeper = false

-- an outcome that a job has which is to make a tree, or to leave nothing
abbrev pub MakeEnds : List Flat → Outcome → Type 0
MakeEnds tree outcome.Made = Unit {0}
MakeEnds tree outcome.Wiped = ⊥
MakeEnds tree (outcome.Missing digest) = has_file_of tree digest ≡ true
MakeEnds tree (outcome.Corrupt wanted found) = (has_file_of tree wanted ≡ true) × (same_digest found wanted ≡ false)
MakeEnds tree (outcome.Fault note) = is_make_device note.device ≡ true
MakeEnds tree outcome.NoMemory = Unit {0}

abbrev pub WipeEnds : Outcome → Type 0
WipeEnds outcome.Made = ⊥
WipeEnds outcome.Wiped = Unit {0}
WipeEnds (outcome.Missing digest) = ⊥
WipeEnds (outcome.Corrupt wanted found) = ⊥
WipeEnds (outcome.Fault note) = is_disk note.device ≡ true
WipeEnds outcome.NoMemory = Unit {0}

-- what a job is to make, if it isn't to leave nothing
abbrev pub Ends : Option (List Flat) → Outcome → Type 0
Ends None ended = WipeEnds ended
Ends (Some tree) ended = MakeEnds tree ended

-- whether a part is known to be bare
abbrev pub is_bare : {R : Type 0} {g : Ghosts R} → Part R g → Bool
is_bare (part.Rough inner) = false
is_bare (part.Settled inner) = false
is_bare (part.Bare inner) = true

-- the part that a job leaves: settled with the tree where it is made, and bare where it is wiped
abbrev pub Leaves : {R : Type 0} {g : Ghosts R} → Option (List Flat) → Outcome → Part R g → Type 0
Leaves goal outcome.Made left = state_tree left ≡ goal
Leaves goal outcome.Wiped left = is_bare left ≡ true
Leaves goal (outcome.Missing digest) left = Unit {0}
Leaves goal (outcome.Corrupt wanted found) left = Unit {0}
Leaves goal (outcome.Fault note) left = Unit {0}
Leaves goal outcome.NoMemory left = Unit {0}

-- a job has ended
pub record HasEnded {R : Type 0} {g : Ghosts R} (place : List (List ℕ)) (goal : Option (List Flat)) (left : Part R g) (ended : Outcome) : Type 0 where
  pub at : g.place (state_region left) ≡ place
  pub ends : Ends goal ended
  pub leaves : Leaves goal ended left

-- an outcome that is a failure
abbrev pub failing : Outcome → Option Outcome
failing outcome.Made = None
failing outcome.Wiped = None
failing (outcome.Missing digest) = Some (outcome.Missing digest)
failing (outcome.Corrupt wanted found) = Some (outcome.Corrupt wanted found)
failing (outcome.Fault note) = Some (outcome.Fault note)
failing outcome.NoMemory = Some outcome.NoMemory

-- ---- what is seen of a stage

-- the failure at which a job has ended, if it has
abbrev pub failure_of : {R : Type 0} {g : Ghosts R} → State R g → Option Outcome
failure_of (state.Wiping region) = None
failure_of (state.Emptying region) = None
failure_of (state.Clearing region order) = None
failure_of (state.Making making) = None
failure_of (state.Ended left ended) = failing ended
failure_of state.Moving = None

-- the region of a stage, if it has one
abbrev pub region_of : {R : Type 0} {g : Ghosts R} → State R g → Option R
region_of (state.Wiping region) = Some region
region_of (state.Emptying region) = Some region
region_of (state.Clearing region order) = Some region
region_of (state.Making making) = Some making.region
region_of (state.Ended left ended) = Some (state_region left)
region_of state.Moving = None

-- whether a job has ended
abbrev pub has_ended : {R : Type 0} {g : Ghosts R} → State R g → Bool
has_ended (state.Wiping region) = false
has_ended (state.Emptying region) = false
has_ended (state.Clearing region order) = false
has_ended (state.Making making) = false
has_ended (state.Ended left ended) = true
has_ended state.Moving = false

-- the most device calls that a job makes from a stage on
abbrev pub state_cost : {R : Type 0} {g : Ghosts R} → State R g → ℕ
state_cost (state.Wiping region) = 2
state_cost (state.Emptying region) = 1
state_cost (state.Clearing region order) = acts_cost order.left.items + 1
state_cost (state.Making making) = making_cost making.order making.doing
state_cost (state.Ended left ended) = 0
state_cost state.Moving = 0

-- how many files a job may still ask the store for from a stage on
abbrev pub state_asks : {R : Type 0} {g : Ghosts R} → State R g → ℕ
state_asks (state.Wiping region) = 0
state_asks (state.Emptying region) = 0
state_asks (state.Clearing region order) = acts_asks order.method order.left.items
state_asks (state.Making making) = making_asks making.order making.doing
state_asks (state.Ended left ended) = 0
state_asks state.Moving = 0

-- ---- what a stage keeps

-- what a make keeps between its steps, at a path and for a tree, where its region tells this place and this part
pub record IsMakeOf (place : List (List ℕ)) (tree : List Flat) (lent : Bool) (at : List (List ℕ)) (told : Option TreePart) (order : Order) (doing : Doing) : Type 0 where
  pub here : at ≡ place
  pub tree_is : order.tree ≡ tree
  pub lent_is : order.lent ≡ lent
  pub stands : IsMaking place told order doing

-- what a step of a make leads to, where fewer calls than this are left
abbrev pub Continues : {R : Type 0} {g : Ghosts R} → List (List ℕ) → List Flat → Bool → ℕ → State R g → Type 0
Continues place tree lent cost (state.Wiping region) = ⊥
Continues place tree lent cost (state.Emptying region) = ⊥
Continues place tree lent cost (state.Clearing region order) = ⊥
Continues {R} {g} place tree lent cost (state.Making making) =
    IsMakeOf place tree lent (g.place making.region) (g.part making.region) making.order making.doing × (making_cost making.order making.doing < cost)
Continues place tree lent cost (state.Ended left ended) = HasEnded place (Some tree) left ended
Continues place tree lent cost state.Moving = ⊥

-- a job has stopped at a failure, and its part is as it is
abbrev pub IsStopped : {R : Type 0} {g : Ghosts R} → R → Outcome → State R g → Type 0
IsStopped region why (state.Wiping other) = ⊥
IsStopped region why (state.Emptying other) = ⊥
IsStopped region why (state.Clearing other order) = ⊥
IsStopped region why (state.Making making) = ⊥
IsStopped region why (state.Ended left ended) = (state_region left ≡ region) × (ended ≡ why)
IsStopped region why state.Moving = ⊥

-- what a step of a job that only wipes leads to, where fewer calls than this are left
abbrev pub Empties : {R : Type 0} {g : Ghosts R} → List (List ℕ) → ℕ → State R g → Type 0
Empties place cost (state.Wiping region) = ⊥
Empties {R} {g} place cost (state.Emptying region) = (g.place region ≡ place) × ForSome (g.part region) (λ (told : TreePart). told ≡ bare) × (1 < cost)
Empties place cost (state.Clearing region order) = ⊥
Empties place cost (state.Making making) = ⊥
Empties place cost (state.Ended left ended) = HasEnded place None left ended
Empties place cost state.Moving = ⊥
