-- What a make does: it carries out the plan of its row's tree up to the first act that fails.
use Rattle.std.specs.Prelude.{◌≡◌, ℕ, ◌+◌, ◌&&◌, Bool, true, false, not, if◌then◌else◌, List, [], ◌∷◌, ◌++◌, length, drop, take, ⊤, Option, Some, None}
use Rattle.std.specs.Option.{is_some, option_map}
use Rattle.mat_digest.specs.Digests.{digest_of}
use Rattle.mat_digest.specs.declared.digest.Digest.{Digest}
use Rattle.mat_io.specs.Causes.{risen}
use Rattle.mat_path.specs.Names.{is_path, is_prefix, same_names}
use Rattle.mat_tree.specs.Parts.{Part, declared_by}
use Rattle.mat_tree.specs.Trees.{file_tree, same_digest}
use Rattle.mat_tree.specs.declared.flat.Flat.{Flat}
use Rattle.mat_tree.specs.declared.flat.What.{What}
use Rattle.mat_tree.specs.declared.flat.What.TheVariants as what
use Rattle.mat_model.specs.declared.entries.Outcome.{Outcome}
use Rattle.mat_model.specs.declared.entries.Outcome.TheVariants as outcome
use Rattle.fetch_port.specs.Fetches.{Blobs}
use Rattle.region_port.specs.Calls.{Paths, nowhere, with_path}
use Rattle.write_plan.specs.Carried.{Bytes}
use Rattle.write_plan.specs.Plans.{is_empty, plan_of}
use Rattle.write_plan.specs.declared.act.Act.{Act}
use Rattle.write_plan.specs.declared.act.Act.TheVariants as act
use Rattle.write_plan.specs.declared.act.Supply.{Supply}
use Rattle.write_plan.specs.declared.act.Supply.TheVariants as supply
use Rattle.write_plan.specs.declared.method.Method.{Method}
use Rattle.write_plan.specs.declared.method.Method.TheVariants as method

-- ---- how an act fails

-- what a store gives for a digest, if it has something: the bytes under it, up to one more than the digest's size
abbrev pub given : Blobs → Digest → Option (List ℕ)
given blobs digest = option_map (take (digest.size + 1)) (blobs digest)

-- bytes for a digest fail where they have another one
abbrev pub bytes_failure : Digest → List ℕ → Option Outcome
bytes_failure wanted bytes =
    if same_digest (digest_of bytes) wanted then None else Some (outcome.Corrupt wanted (digest_of bytes))

-- how what a store gives for a digest fails
abbrev pub fetch_failure : Digest → Option (List ℕ) → Option Outcome
fetch_failure wanted None = Some (outcome.Missing wanted)
fetch_failure wanted (Some bytes) = bytes_failure wanted bytes

-- how a file fails whose bytes come from somewhere: only the store may fail
abbrev pub file_failure : Blobs → Digest → Supply → Option Outcome
file_failure blobs digest supply.Empty = None
file_failure blobs digest supply.Held = None
file_failure blobs digest supply.Store = fetch_failure digest (given blobs digest)
file_failure blobs digest (supply.Loan rel) = None

abbrev pub act_failure : Blobs → Act → Option Outcome
act_failure blobs act.Wipe = None
act_failure blobs (act.Dir rel) = None
act_failure blobs (act.Link rel target) = None
act_failure blobs (act.File rel digest exec from) = file_failure blobs digest from
act_failure blobs act.Sync = None

-- ---- what some acts come to

-- the first failure, or that all was made
abbrev pub or_made : Option Outcome → Outcome → Outcome
or_made (Some failure) rest = failure
or_made None rest = rest

abbrev pub outcome_of : Blobs → List Act → Outcome
outcome_of blobs [] = outcome.Made
outcome_of blobs (one ∷ acts) = or_made (act_failure blobs one) (outcome_of blobs acts)

-- the acts before the first that fails
abbrev pub acts_done : Blobs → List Act → List Act
acts_done blobs [] = []
acts_done blobs (one ∷ acts) = if is_some (act_failure blobs one) then [] else one ∷ acts_done blobs acts

-- whether an act asks the store
abbrev pub is_store : Supply → Bool
is_store supply.Empty = false
is_store supply.Held = false
is_store supply.Store = true
is_store (supply.Loan rel) = false

abbrev pub asks_store : Act → Bool
asks_store act.Wipe = false
asks_store (act.Dir rel) = false
asks_store (act.Link rel target) = false
asks_store (act.File rel digest exec from) = is_store from
asks_store act.Sync = false

-- how often the store was asked after an act, and after some up to the first that fails
abbrev pub asked_by : Act → ℕ → ℕ
asked_by one asks = if asks_store one then risen asks else asks

abbrev pub asks_after : Blobs → List Act → ℕ → ℕ
asks_after blobs [] asks = asks
asks_after blobs (one ∷ acts) asks =
    if is_some (act_failure blobs one) then asked_by one asks else asks_after blobs acts (asked_by one asks)

-- ---- what they put

-- what a disk has at each place
abbrev pub Nodes : Type 0
Nodes = List (List ℕ) → Option What

-- nothing, and a node more
abbrev pub no_nodes : Nodes
no_nodes place = None

abbrev pub with_what : List (List ℕ) → What → Nodes → Nodes
with_what rel node nodes place = if same_names place rel then Some node else nodes place

-- what a part has after some acts: each file by its digest
abbrev pub left_by_one : Act → Nodes → Nodes
left_by_one act.Wipe nodes = no_nodes
left_by_one (act.Dir rel) nodes = with_what rel what.Dir nodes
left_by_one (act.Link rel target) nodes = with_what rel (what.Link target) nodes
left_by_one (act.File rel digest exec from) nodes = with_what rel (what.File digest exec) nodes
left_by_one act.Sync nodes = nodes

abbrev pub left_by : List Act → Nodes → Nodes
left_by [] nodes = nodes
left_by (one ∷ acts) nodes = left_by acts (left_by_one one nodes)

-- ---- where bytes come from

-- the bytes of a row that holds them
abbrev pub held_bytes : Method → List ℕ
held_bytes (method.Write bytes) = bytes
held_bytes method.Fetch = []
held_bytes (method.Copy source rest stamp origin) = []

-- whether a row holds the bytes, and whether the store has them
abbrev pub is_write : Method → Bool
is_write (method.Write bytes) = true
is_write method.Fetch = false
is_write (method.Copy source rest stamp origin) = false

abbrev pub is_fetch : Method → Bool
is_fetch (method.Write bytes) = false
is_fetch method.Fetch = true
is_fetch (method.Copy source rest stamp origin) = false

-- the bytes that were given, if some were
abbrev pub bytes_or_none : Option (List ℕ) → List ℕ
bytes_or_none None = []
bytes_or_none (Some bytes) = bytes

-- the bytes that are put for a digest: the row's, or the store's
abbrev pub supplied : Blobs → Method → Bytes
supplied blobs way digest =
    if is_empty digest then [] else if is_write way then held_bytes way else bytes_or_none (given blobs digest)

-- whether a file's bytes come from where a row that was written or is fetched has them; those that are held have its digest
abbrev pub is_supply : Method → Digest → Supply → Bool
is_supply way digest supply.Empty = is_empty digest
is_supply way digest supply.Held = is_write way && not (is_empty digest) && same_digest (digest_of (held_bytes way)) digest
is_supply way digest supply.Store = is_fetch way && not (is_empty digest)
is_supply way digest (supply.Loan rel) = false

abbrev pub is_supplied : Method → Act → Bool
is_supplied way act.Wipe = true
is_supplied way (act.Dir rel) = true
is_supplied way (act.Link rel target) = true
is_supplied way (act.File rel digest exec from) = is_supply way digest from
is_supplied way act.Sync = true

-- ---- which paths an act touches

-- whether an act's node stands at a path, below this one
abbrev pub fits : List (List ℕ) → Act → Bool
fits place act.Wipe = true
fits place (act.Dir rel) = is_path (place ++ rel)
fits place (act.Link rel target) = is_path (place ++ rel)
fits place (act.File rel digest exec from) = is_path (place ++ rel)
fits place act.Sync = true

-- the rough paths of a part after an act: only a sync ends roughness
abbrev pub rough_by : List (List ℕ) → Act → Paths → Paths
rough_by place act.Wipe paths = with_path place paths
rough_by place (act.Dir rel) paths = with_path place paths
rough_by place (act.Link rel target) paths = with_path place paths
rough_by place (act.File rel digest exec from) paths = with_path place paths
rough_by place act.Sync paths = nowhere

abbrev pub rough_after : List (List ℕ) → List Act → Paths → Paths
rough_after place [] paths = paths
rough_after place (one ∷ acts) paths = rough_after place acts (rough_by place one paths)

-- ---- a make

-- the acts of a make of a tree whose bytes the row holds, or else the store has: which bytes are held doesn't matter
abbrev pub method_for : Bool → Method
method_for true = method.Write []
method_for false = method.Fetch

abbrev pub make_acts : Bool → List Flat → List Act
make_acts held tree = plan_of tree (method_for held) false

-- what a disk has once a part that has these nodes is in the place of what it had at and below a path
abbrev pub with_nodes : List (List ℕ) → Nodes → Nodes → Nodes
with_nodes path inner nodes place = if is_prefix path place then inner (drop (length path) place) else nodes place

-- what a disk has at and below a path, by rels from there
abbrev pub nodes_below : List (List ℕ) → Nodes → Nodes
nodes_below path nodes rel = nodes (path ++ rel)

-- what a part of a disk shows: each file by its digest
abbrev pub shown_by : Part → Nodes
shown_by part place = option_map declared_by (part place)

-- a row's bytes are at hand: it was declared and they are fetched, or its tree is the file of the bytes that it holds
abbrev pub IsAtHand : Method → List Flat → Type 0
IsAtHand (method.Write bytes) tree = tree ≡ file_tree (digest_of bytes) false
IsAtHand method.Fetch tree = ⊤
IsAtHand (method.Copy source rest stamp origin) tree = ⊥
