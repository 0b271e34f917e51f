-- What each call on a region does to its part and to its rough paths, by what it answers.
use Rattle.std.specs.Prelude.{◌≡◌, ◌&&◌, ◌||◌, ◌⊎◌, ◌++◌, ℕ, Bool, true, false, not, if◌then◌else◌, List, Option, Some, None}
use Rattle.std.specs.Option.{option_map, is_some}
use Rattle.mat_io.specs.declared.answer.Did.{Did}
use Rattle.mat_io.specs.declared.answer.Did.TheVariants as did
use Rattle.mat_path.specs.Names.{is_prefix, same_names}
use Rattle.mat_tree.specs.Parts.{Part, Node, bare, file, folder, link, with_node, replaced}

-- a set of paths, as those of the rough parts
abbrev pub Paths : Type 0
Paths = List (List ℕ) → Bool

-- no path
abbrev pub nowhere : Paths
nowhere path = false

-- a set with one more path
abbrev pub with_path : List (List ℕ) → Paths → Paths
with_path place paths path = same_names path place || paths path

-- those of a set that are at or below a path
abbrev pub paths_below : List (List ℕ) → Paths → Paths
paths_below place paths path = is_prefix place path && paths path

-- those of a set that are not at or below a path
abbrev pub paths_outside : List (List ℕ) → Paths → Paths
paths_outside place paths path = not (is_prefix place path) && paths path

-- the paths of either set
abbrev pub paths_of_both : Paths → Paths → Paths
paths_of_both some others path = some path || others path

-- a part once it is wiped
abbrev pub wiped : Part → Part
wiped part = bare

-- a wipe that is done leaves no node; one that isn't may have changed the part, which is told just where it was
abbrev pub Wipes : Did → Option Part → Option Part → Type 0
Wipes did.Done before now = now ≡ option_map wiped before
Wipes did.Failed before now = is_some now ≡ is_some before
Wipes did.NoMemory before now = is_some now ≡ is_some before

-- a put that is done leaves its node at the rel and every other node; one that isn't may have changed the part
abbrev pub Puts : List (List ℕ) → Node → Did → Option Part → Option Part → Type 0
Puts rel node did.Done before now = now ≡ option_map (with_node rel node) before
Puts rel node did.Failed before now = is_some now ≡ is_some before
Puts rel node did.NoMemory before now = is_some now ≡ is_some before

-- a file with these bytes at its end; a folder and a link stay as they are
abbrev pub with_more : List ℕ → Node → Node
with_more more folder = folder
with_more more (file bytes exec) = file (bytes ++ more) exec
with_more more (link target) = link target

-- a part whose file at a rel has these bytes at its end
abbrev pub appended : List (List ℕ) → List ℕ → Part → Part
appended rel more part place = if same_names place rel then option_map (with_more more) (part rel) else part place

-- whether a node is a file
abbrev pub is_file : Option Node → Bool
is_file None = false
is_file (Some folder) = false
is_file (Some (file bytes exec)) = true
is_file (Some (link target)) = false

-- an append that is done leaves the file at the rel with more bytes and every other node; one that isn't may have changed the part
abbrev pub Appends : List (List ℕ) → List ℕ → Did → Option Part → Option Part → Type 0
Appends rel more did.Done before now = now ≡ option_map (appended rel more) before
Appends rel more did.Failed before now = is_some now ≡ is_some before
Appends rel more did.NoMemory before now = is_some now ≡ is_some before

-- the rough paths stay, or the whole part is rough too
abbrev pub MayRoughen : List (List ℕ) → Paths → Paths → Type 0
MayRoughen place before now = (now ≡ before) ⊎ (now ≡ with_path place before)

-- a wipe, put or append that is done makes the whole part rough; one that isn't may do so
abbrev pub Roughens : List (List ℕ) → Did → Paths → Paths → Type 0
Roughens place did.Done before now = now ≡ with_path place before
Roughens place did.Failed before now = MayRoughen place before now
Roughens place did.NoMemory before now = MayRoughen place before now

-- a sync that is done ends all roughness; one that isn't ends none
abbrev pub Syncs : Did → Paths → Paths → Type 0
Syncs did.Done before now = now ≡ nowhere
Syncs did.Failed before now = now ≡ before
Syncs did.NoMemory before now = now ≡ before

-- a disk's content with a part in its place, where both are told
abbrev pub with_inner : List (List ℕ) → Option Part → Option Part → Option Part
with_inner place (Some inner) (Some content) = Some (replaced place inner content)
with_inner place (Some inner) None = None
with_inner place None content = None

-- what a call owes where it isn't done
abbrev pub IfNotDone : Did → Type 0 → Type 0
IfNotDone did.Done fact = Unit {0}
IfNotDone did.Failed fact = fact
IfNotDone did.NoMemory fact = fact

-- whether an answer is want of memory
abbrev pub wants_memory : Did → Bool
wants_memory did.NoMemory = true
wants_memory did.Done = false
wants_memory did.Failed = false
