-- What a fetch answers.
use Rattle.std.specs.Prelude.{◌≡◌, ℕ, ◌+◌, ◌≤◌, ◌==◌, Bool, true, false, if◌then◌else◌, List, length, take, drop, ⊤, Option, Some, None}
use Rattle.mat_io.specs.Causes.{risen}
use Rattle.mat_digest.specs.declared.digest.Digest.{Digest}
use Rattle.fetch_port.specs.declared.fetched.Fetched.{Fetched}
use Rattle.fetch_port.specs.declared.fetched.Fetched.TheVariants as fetched

-- what a store holds: the bytes under each digest, if it has some
abbrev pub Blobs : Type 0
Blobs = Digest → Option (List ℕ)

-- whether a fetch failed
abbrev pub fetch_failed : Fetched → Bool
fetch_failed (fetched.Bytes bytes) = false
fetch_failed fetched.Absent = false
fetch_failed fetched.Failed = true
fetch_failed fetched.NoMemory = false

-- bytes that were given are those that a store holds, up to one more than the digest's size; this is known where the store tells
abbrev pub Gives : Option (Option (List ℕ)) → ℕ → List ℕ → Type 0
Gives None most bytes = ⊤
Gives (Some None) most bytes = ⊥
Gives (Some (Some held)) most bytes = bytes ≡ take most held

-- a store lacks bytes; this is known where it tells
abbrev pub Lacks : Option (Option (List ℕ)) → Type 0
Lacks None = ⊤
Lacks (Some held) = held ≡ None

-- a fetch of a digest of this size answers by what the store holds under the digest
abbrev pub Fetches : Option (Option (List ℕ)) → ℕ → Fetched → Type 0
Fetches held size (fetched.Bytes bytes) = (length bytes ≤ size + 1) × Gives held (size + 1) bytes
Fetches held size fetched.Absent = Lacks held
Fetches held size fetched.Failed = ⊤
Fetches held size fetched.NoMemory = ⊤

-- what a store holds under a digest, where it tells
abbrev pub held_at : Option Blobs → Digest → Option (Option (List ℕ))
held_at None digest = None
held_at (Some blobs) digest = Some (blobs digest)

-- bytes that were given are those that a store holds from an offset on, up to a number of them; this is known where the store tells
abbrev pub GivesPiece : Option (Option (List ℕ)) → ℕ → ℕ → List ℕ → Type 0
GivesPiece None at most bytes = ⊤
GivesPiece (Some None) at most bytes = ⊥
GivesPiece (Some (Some held)) at most bytes = bytes ≡ take most (drop at held)

-- a fetch of a piece answers by what the store holds under the digest
abbrev pub FetchesPiece : Option (Option (List ℕ)) → ℕ → ℕ → Fetched → Type 0
FetchesPiece held at most (fetched.Bytes bytes) = (length bytes ≤ most) × GivesPiece held at most bytes
FetchesPiece held at most fetched.Absent = Lacks held
FetchesPiece held at most fetched.Failed = ⊤
FetchesPiece held at most fetched.NoMemory = ⊤

-- how many fetches were begun after a call at an offset: only one at 0 begins one
abbrev pub asks_after : ℕ → ℕ → ℕ
asks_after at asks = if at == 0 then risen asks else asks
