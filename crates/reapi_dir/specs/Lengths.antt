-- How many bytes the parts of a message have.
use Rattle.std.specs.Prelude.{ℕ, zero, suc, ◌+◌, ◌*◌, List, ◌++◌, length}
use Rattle.mat_tree.specs.Messages.{varint}

-- what stands before the bytes of a field: its key, which has wire type 2, and how many they are
abbrev pub field_head : ℕ → ℕ → List ℕ
field_head number len = varint (number * 8 + 2) ++ varint len

-- how many bytes a field of so many bytes has, where its key is one byte
abbrev pub field_length : ℕ → ℕ
field_length len = 1 + length (varint len) + len

-- how many bytes a field of a number has, where its key is one byte
abbrev pub number_length : ℕ → ℕ
number_length zero = 0
number_length (suc n) = 1 + length (varint (suc n))
