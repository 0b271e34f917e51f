-- What a read takes from a source and what a write adds to a sink, where these tell their bytes.
use Rattle.std.specs.Prelude.{◌≡◌, ℕ, ◌≤◌, List, ◌++◌, length, take, drop, ⊤, Option, Some, None}
use Rattle.mat_io.specs.declared.answer.Got.{Got}
use Rattle.mat_io.specs.declared.answer.Got.TheVariants as got
use Rattle.mat_io.specs.declared.answer.Put.{Put}
use Rattle.mat_io.specs.declared.answer.Put.TheVariants as put

-- n bytes of those left went to the front of a buffer
pub record Takes (n : ℕ) (bytes : List ℕ) (after : Option (List ℕ)) (buffer : List ℕ) : Type 0 where
  pub within : n ≤ length bytes
  pub given : take n buffer ≡ take n bytes
  pub rest : after ≡ Some (drop n bytes)

-- the next n bytes went to the front of a buffer, where the source tells what it has left
abbrev pub TakesNext : ℕ → Option (List ℕ) → Option (List ℕ) → List ℕ → Type 0
TakesNext n None after buffer = ⊤
TakesNext n (Some bytes) after buffer = Takes n bytes after buffer

-- told bytes stay as they are
abbrev pub Stays : Option (List ℕ) → Option (List ℕ) → Type 0
Stays None after = ⊤
Stays (Some bytes) after = after ≡ Some bytes

-- no byte is left, where that is told
abbrev pub NoneLeft : Option (List ℕ) → Type 0
NoneLeft None = ⊤
NoneLeft (Some bytes) = length bytes ≡ 0

-- a read into the buffer, between what was left before and after
abbrev pub Reads : Option (List ℕ) → Option (List ℕ) → List ℕ → Got → Type 0
Reads before after buffer (got.Taken n) = (1 ≤ n) × (n ≤ length buffer) × TakesNext n before after buffer
Reads before after buffer got.End = NoneLeft before × Stays before after
Reads before after buffer got.Failed = Stays before after

-- told bytes grow by these at their end
abbrev pub Grows : Option (List ℕ) → Option (List ℕ) → List ℕ → Type 0
Grows None after bytes = ⊤
Grows (Some out) after bytes = after ≡ Some (out ++ bytes)

-- told bytes grow by a prefix of these
abbrev pub GrowsInPart : Option (List ℕ) → Option (List ℕ) → List ℕ → Type 0
GrowsInPart before after bytes = (k : ℕ) × (k ≤ length bytes) × Grows before after (take k bytes)

-- a write of these bytes, between what had gone out before and after
abbrev pub Writes : Option (List ℕ) → Option (List ℕ) → List ℕ → Put → Type 0
Writes before after bytes put.All = Grows before after bytes
Writes before after bytes put.Failed = GrowsInPart before after bytes
Writes before after bytes put.NoMemory = GrowsInPart before after bytes
