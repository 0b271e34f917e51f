-- The pieces in which the bytes of a file come.
use Rattle.std.specs.Prelude.{ℕ, ◌+◌, ◌-◌, nat_le, Bool, if◌then◌else◌}

-- the most bytes of a piece
abbrev pub most_bytes : ℕ
most_bytes = 65536

-- whether the piece from an offset on is the last one of a file of this size
abbrev pub is_last : ℕ → ℕ → Bool
is_last size at = nat_le (size - at) most_bytes

-- how many bytes a reading step asks for: the last piece is asked for with one byte more than is left
abbrev pub asked_for : ℕ → ℕ → ℕ
asked_for size at = if is_last size at then (size - at) + 1 else most_bytes

-- how long the piece from an offset on is: all but the last are whole
abbrev pub piece_size : ℕ → ℕ → ℕ
piece_size size at = if is_last size at then size - at else most_bytes
