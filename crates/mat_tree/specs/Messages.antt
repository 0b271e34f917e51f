-- A Directory message, as bytes (Remote Execution API v2, `Directory`, `FileNode`, `DirectoryNode`, `SymlinkNode`, `Digest`), in the wire form of
-- Protocol Buffers ("Encoding"). Of the spellings that this form allows, each of these is the shortest, with fields in order of number.
use Rattle.std.specs.Prelude.{ℕ, zero, suc, ◌+◌, ◌*◌, ◌/◌, ◌%◌, nat_lt, Bool, true, false, if◌then◌else◌, List, [], ◌∷◌, ◌++◌, length}
use Rattle.mat_digest.specs.Digests.{hash_text}
use Rattle.mat_digest.specs.declared.digest.Digest.{Digest}

-- a number in groups of seven bits, the lowest group first, all but the last marked by the high bit; at most this many groups
abbrev pub groups_of : ℕ → ℕ → List ℕ
groups_of zero n = []
groups_of (suc groups) n = if nat_lt n 128 then n ∷ [] else (128 + n % 128) ∷ groups_of groups (n / 128)

-- the varint of a number below 2^64, which has at most ten groups ("Base 128 Varints")
abbrev pub varint : ℕ → List ℕ
varint n = groups_of 10 n

-- a field of bytes: its key, which has wire type 2, how many they are, and the bytes ("Length-Delimited Records")
abbrev pub bytes_field : ℕ → List ℕ → List ℕ
bytes_field number bytes = varint (number * 8 + 2) ++ varint (length bytes) ++ bytes

-- a field of a number: its key, which has wire type 0, and the number; nothing for 0, which is the default
abbrev pub number_field : ℕ → ℕ → List ℕ
number_field number zero = []
number_field number (suc n) = varint (number * 8) ++ varint (suc n)

-- a flag as a number
abbrev pub flag : Bool → ℕ
flag true = 1
flag false = 0

-- a `Digest`: `hash` (1), in lower-case digits, and `size_bytes` (2)
abbrev pub digest_message : Digest → List ℕ
digest_message digest = bytes_field 1 (hash_text digest) ++ number_field 2 digest.size

-- a `FileNode`: `name` (1), `digest` (2) and `is_executable` (4)
abbrev pub file_message : List ℕ → Digest → Bool → List ℕ
file_message name digest exec = bytes_field 1 name ++ bytes_field 2 (digest_message digest) ++ number_field 4 (flag exec)

-- a `DirectoryNode`: `name` (1) and `digest` (2)
abbrev pub dir_message : List ℕ → Digest → List ℕ
dir_message name digest = bytes_field 1 name ++ bytes_field 2 (digest_message digest)

-- a `SymlinkNode`: `name` (1) and `target` (2)
abbrev pub link_message : List ℕ → List ℕ → List ℕ
link_message name target = bytes_field 1 name ++ bytes_field 2 target

-- a `Directory` is its `files` (1), then its `directories` (2), then its `symlinks` (3), each a field of bytes
abbrev pub file_field : List ℕ → Digest → Bool → List ℕ
file_field name digest exec = bytes_field 1 (file_message name digest exec)

abbrev pub dir_field : List ℕ → Digest → List ℕ
dir_field name digest = bytes_field 2 (dir_message name digest)

abbrev pub link_field : List ℕ → List ℕ → List ℕ
link_field name target = bytes_field 3 (link_message name target)
