-- Why a make failed: what the store held then.
use Rattle.std.specs.Prelude.{◌≡◌, ℕ, ◌+◌, ◌<◌, ◌≤◌, Bool, true, false, List, [], ◌∷◌, ◌++◌, length, take, ⊤, Some, None}
use Rattle.std.specs.List.{list_any, slice_get}
use Rattle.std.specs.Option.{option_map}
use Rattle.mat_digest.specs.Digests.{digest_of}
use Rattle.mat_digest.specs.declared.digest.Digest.{Digest}
use Rattle.mat_tree.specs.Trees.{same_digest}
use Rattle.mat_tree.specs.declared.flat.Flat.{Flat}
use Rattle.mat_tree.specs.declared.flat.What.{What}
use Rattle.mat_tree.specs.declared.flat.What.TheVariants as what
use Rattle.mat_model.specs.declared.entries.Entry.{Entry}
use Rattle.mat_model.specs.declared.entries.Event.{Event}
use Rattle.mat_model.specs.declared.entries.Event.TheVariants as event
use Rattle.mat_model.specs.declared.entries.Outcome.{Outcome}
use Rattle.mat_model.specs.declared.entries.Outcome.TheVariants as outcome
use Rattle.mat_model.specs.declared.entries.Task.TheVariants as task
use Rattle.fetch_port.specs.Fetches.{Blobs}
use Rattle.buckd.specs.Run.{declared_tree, start, tell_lines}

-- whether a node is the file of a digest, and whether a tree has one
abbrev pub is_file_of : Digest → What → Bool
is_file_of digest (what.File other exec) = same_digest other digest
is_file_of digest what.Dir = false
is_file_of digest (what.Link target) = false

abbrev pub is_node_of : Digest → Flat → Bool
is_node_of digest node = is_file_of digest node.what

abbrev pub wants : List Flat → Digest → Bool
wants tree digest = list_any (is_node_of digest) tree

-- what a store held where a make of a tree ended so: nothing under the digest that was missing, and under the one that was
-- corrupt bytes whose front, up to one more than its size, has the digest that was found, which is another one; either is
-- the digest of a file of the tree
abbrev pub HasCauseIn : Blobs → List Flat → Outcome → Type 0
HasCauseIn blobs tree outcome.Made = ⊤
HasCauseIn blobs tree outcome.Wiped = ⊥
HasCauseIn blobs tree (outcome.Missing digest) = (wants tree digest ≡ true) × (blobs digest ≡ None)
HasCauseIn blobs tree (outcome.Corrupt wanted found) =
    (wants tree wanted ≡ true) × (bytes : List ℕ) × (blobs wanted ≡ Some bytes)
    × (digest_of (take (wanted.size + 1) bytes) ≡ found) × (same_digest found wanted ≡ false)
HasCauseIn blobs tree (outcome.Fault note) = ⊥
HasCauseIn blobs tree outcome.NoMemory = ⊥

-- what happened, as an entry says
abbrev pub event_of : Entry → Event
event_of entry = entry.event

-- the end of a job at a place of a history has its cause in what the store held when the line came that entered it: the
-- job's begin names the row whose tree was made
pub record Cause (lines : List (List ℕ)) (history : List Entry) (place job : ℕ) (ends : Outcome) : Type 0 where
  pub front : List (List ℕ)
  pub text : List ℕ
  pub more : List (List ℕ)
  pub parts : lines ≡ front ++ text ∷ more
  pub behind : length (tell_lines front start).scene.point.history ≤ place
  pub within : place < length (tell_lines (front ++ text ∷ []) start).scene.point.history
  pub path : List (List ℕ)
  pub stamp : ℕ
  pub begun : option_map (event_of) (slice_get history job) ≡ Some (event.Begin (task.Make path stamp))
  pub why : HasCauseIn (tell_lines front start).scene.blobs (declared_tree path stamp (tell_lines front start).scene.point.book.rows) ends

abbrev pub IsCaused : List (List ℕ) → List Entry → ℕ → Event → Type 0
IsCaused lines history place (event.Asked request) = ⊤
IsCaused lines history place (event.Begin begun) = ⊤
IsCaused lines history place (event.Done job ends) = Cause lines history place job ends

-- each end of a job in the history of the run of some lines has its cause
abbrev pub AreCaused : List (List ℕ) → List Entry → Type 0
AreCaused lines history = (place : ℕ) (entry : Entry) → slice_get history place ≡ Some entry → IsCaused lines history place entry.event
