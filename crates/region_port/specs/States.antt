-- What a part in each of its states keeps, and what settling or emptying one answers.
use Rattle.std.specs.Prelude.{◌≡◌, Bool, true, false, List, Option, Some, None}
use Rattle.mat_tree.specs.declared.flat.Flat.{Flat}
use Rattle.region_port.specs.Calls.{Paths}
use Rattle.region_port.specs.declared.port.Region.{Ghosts}
use Rattle.region_port.specs.declared.states.Bare.{Bare}
use Rattle.region_port.specs.declared.states.Part.{Part}
use Rattle.region_port.specs.declared.states.Part.TheVariants as state
use Rattle.region_port.specs.declared.states.ReadLoan.{ReadLoan}
use Rattle.region_port.specs.declared.states.Rough.{Rough}
use Rattle.region_port.specs.declared.states.Settled.{Settled}
use Rattle.region_port.specs.declared.states.Synced.{Synced}
use Rattle.region_port.specs.declared.states.Synced.TheVariants as synced

-- the region of a rough part
abbrev pub rough_region : {R : Type 0} → Rough R → R
rough_region part = part.region

-- the region and the tree of a settled part
abbrev pub settled_region : {R : Type 0} {g : Ghosts R} → Settled R g → R
settled_region part = part.region

abbrev pub settled_tree : {R : Type 0} {g : Ghosts R} → Settled R g → List Flat
settled_tree part = part.tree

-- the region of a bare part
abbrev pub bare_region : {R : Type 0} {g : Ghosts R} → Bare R g → R
bare_region part = part.region

-- the region of a part that is only read, and the tree that it was lent for
abbrev pub loan_region : {R : Type 0} → ReadLoan R → R
loan_region part = part.region

abbrev pub loan_tree : {R : Type 0} → ReadLoan R → List Flat
loan_tree part = part.tree

-- the region of a part in any state
abbrev pub state_region : {R : Type 0} {g : Ghosts R} → Part R g → R
state_region (state.Rough part) = part.region
state_region (state.Settled part) = part.region
state_region (state.Bare part) = part.region

-- the tree that a part in any state is known to have
abbrev pub state_tree : {R : Type 0} {g : Ghosts R} → Part R g → Option (List Flat)
state_tree (state.Rough part) = None
state_tree (state.Settled part) = Some part.tree
state_tree (state.Bare part) = None

-- the rough paths of a part in any state
abbrev pub state_rough : {R : Type 0} {g : Ghosts R} → Part R g → Paths
state_rough {R} {g} part = g.rough (state_region part)

-- the region of an answer
abbrev pub region_in : {R : Type 0} {g : Ghosts R} → Synced R g → R
region_in (synced.Settled part) = part.region
region_in (synced.Bare part) = part.region
region_in (synced.Failed part) = part.region
region_in (synced.NoMemory part) = part.region

-- a part with another region
abbrev pub with_region : {R : Type 0} → Rough R → R → Rough R
with_region part region = record { region = region }

-- whether an answer is a failure
abbrev pub sync_failed : {R : Type 0} {g : Ghosts R} → Synced R g → Bool
sync_failed (synced.Settled part) = false
sync_failed (synced.Bare part) = false
sync_failed (synced.Failed part) = true
sync_failed (synced.NoMemory part) = false

-- a part that was to settle is settled with this tree, or as rough as it was
abbrev pub Settles : {R : Type 0} {g : Ghosts R} → List Flat → Paths → Synced R g → Type 0
Settles tree before (synced.Settled part) = part.tree ≡ tree
Settles tree before (synced.Bare part) = ⊥
Settles {R} {g} tree before (synced.Failed part) = g.rough part.region ≡ before
Settles {R} {g} tree before (synced.NoMemory part) = g.rough part.region ≡ before

-- a part that was to be bare is bare, or as rough as it was
abbrev pub Empties : {R : Type 0} {g : Ghosts R} → Paths → Synced R g → Type 0
Empties before (synced.Settled part) = ⊥
Empties before (synced.Bare part) = Unit {0}
Empties {R} {g} before (synced.Failed part) = g.rough part.region ≡ before
Empties {R} {g} before (synced.NoMemory part) = g.rough part.region ≡ before
