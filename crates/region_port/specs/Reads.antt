-- What reading a piece of a file answers.
use Rattle.std.specs.Prelude.{◌≡◌, ◌≤◌, Bool, true, false, ℕ, List, length, take, drop, Option, Some, None}
use Rattle.std.specs.Option.{option_map}
use Rattle.mat_tree.specs.Parts.{Part, Node, folder, file, link}
use Rattle.region_port.specs.declared.got.Got.{Got}
use Rattle.region_port.specs.declared.got.Got.TheVariants as got

-- the bytes of a file, if a node is one
abbrev pub file_bytes : Option Node → Option (List ℕ)
file_bytes None = None
file_bytes (Some folder) = None
file_bytes (Some (file bytes exec)) = Some bytes
file_bytes (Some (link target)) = None

-- whether an answer is a failure
abbrev pub got_failed : Got → Bool
got_failed (got.Bytes bytes) = false
got_failed got.Absent = false
got_failed got.Failed = true
got_failed got.NoMemory = false

-- whether an answer comes only where the rel leads to a path: bytes, or want of memory for them
abbrev pub needs_path : Got → Bool
needs_path (got.Bytes bytes) = true
needs_path got.Absent = false
needs_path got.Failed = false
needs_path got.NoMemory = true

-- at most so many bytes from an offset on: fewer only where the bytes end, and none past their end
abbrev pub piece : ℕ → ℕ → List ℕ → List ℕ
piece at most bytes = take most (drop at bytes)

-- where the part is told, the bytes are that piece of the file there, and no file is there where none is found
abbrev pub Reads : List (List ℕ) → ℕ → ℕ → Option Part → Got → Type 0
Reads rel at most None answer = Unit {0}
Reads rel at most (Some part) (got.Bytes bytes) = option_map (piece at most) (file_bytes (part rel)) ≡ Some bytes
Reads rel at most (Some part) got.Absent = file_bytes (part rel) ≡ None
Reads rel at most (Some part) got.Failed = Unit {0}
Reads rel at most (Some part) got.NoMemory = Unit {0}

-- whoever tells its part or not gives at most so many bytes
abbrev pub IsWithin : ℕ → Got → Type 0
IsWithin most (got.Bytes bytes) = length bytes ≤ most
IsWithin most got.Absent = Unit {0}
IsWithin most got.Failed = Unit {0}
IsWithin most got.NoMemory = Unit {0}

-- an answer that has these bytes, unless memory was wanting
abbrev pub IsCopy : List ℕ → Got → Type 0
IsCopy from (got.Bytes bytes) = bytes ≡ from
IsCopy from got.Absent = ⊥
IsCopy from got.Failed = ⊥
IsCopy from got.NoMemory = Unit {0}
