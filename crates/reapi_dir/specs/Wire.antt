-- What reading a varint, a key and a field of bytes answers (Protocol Buffers, "Encoding"): what is read and the bytes behind it, or the refusal. Each
-- of these reads the front of the bytes that are left of an enclosing message, which ends before the offset `end`.
use Rattle.std.specs.Prelude.{ℕ, ◌+◌, ◌-◌, ◌*◌, ◌^◌, ◌==◌, ◌&&◌, nat_lt, nat_le, nat_eq, Bool, false, if◌then◌else◌, List, [], ◌∷◌, length, take, drop, Result, Ok, Err}
use Rattle.std.specs.Borrow.{Bor}
use Rattle.reapi_dir.specs.declared.refusal.DirRefusal.{DirRefusal}
use Rattle.reapi_dir.specs.declared.refusal.DirRefusal.TheVariants as refusal

-- what is read and the bytes behind it, or the refusal
abbrev pub Read : Type 0 → Type 0
Read A = Result (A × List ℕ) DirRefusal

-- the second step, if the first one gave a value
infixl 10 ◌>>=◌
abbrev pub ◌>>=◌ : {A B : Type 0} → Result A DirRefusal → (A → Result B DirRefusal) → Result B DirRefusal
Ok x >>= f = f x
Err e >>= f = Err e

-- an answer of the code, with the bytes behind its references
abbrev pub read_view : {A : Type 0} → Result (A × Bor (List ℕ)) DirRefusal → Read A
read_view (Ok p) = Ok (p.0, p.1.now)
read_view (Err e) = Err e

abbrev pub field_view : Result (Bor (List ℕ) × Bor (List ℕ)) DirRefusal → Read (List ℕ)
field_view (Ok p) = Ok (p.0.now, p.1.now)
field_view (Err e) = Err e

abbrev pub bytes_view : Result (Bor (List ℕ)) DirRefusal → Result (List ℕ) DirRefusal
bytes_view (Ok bytes) = Ok bytes.now
bytes_view (Err e) = Err e

-- the key of a field of bytes, and of a field of a number, by the number of the field
abbrev pub bytes_key : ℕ → ℕ
bytes_key number = number * 8 + 2

abbrev pub number_key : ℕ → ℕ
number_key number = number * 8

-- the offset at which the bytes begin that are left before `end`
abbrev pub place : ℕ → List ℕ → ℕ
place end bytes = end - length bytes

-- the number of a group of seven bits and of the groups above it. Where these are 0 the varint isn't shortest, and from 2^57 on the number is above
-- 2^64 - 1
abbrev pub number_with : ℕ → ℕ → ℕ → Result ℕ DirRefusal
number_with at b high = if nat_lt 0 high && nat_lt high (2 ^ 57) then Ok ((b - 128) + 128 * high) else Err (refusal.Varint at)

-- the number in the groups at the front, of which at most `most` may come, in a varint that begins at `at` ("Base 128 Varints"): a byte below 128 is
-- the last group, and one from 128 on stands before a higher one
unfoldable pub groups_read : ℕ → ℕ → ℕ → List ℕ → Read ℕ
groups_read at end most [] = Err (refusal.Truncated end)
groups_read at end most (b ∷ more) =
    if nat_eq most 0 then Err (refusal.Varint at)
    else if nat_lt b 128 then Ok (b, more)
    else do
      higher ← groups_read at end (most - 1) more
      number ← number_with at b higher.0
      Ok (number, higher.1)

-- a varint, which has at most ten groups
unfoldable pub varint_read : ℕ → List ℕ → Read ℕ
varint_read end bytes = groups_read (place end bytes) end 10 bytes

-- the key that is to stand here; what is read is the bytes behind it
unfoldable pub key_read : ℕ → ℕ → List ℕ → Result (List ℕ) DirRefusal
key_read key end bytes = do
  found ← varint_read end bytes
  if nat_eq found.0 key then Ok found.1 else Err (refusal.Key (place end bytes))

-- as many bytes as a length says ("Length-Delimited Records")
abbrev pub cut_read : ℕ → ℕ → List ℕ → Read (List ℕ)
cut_read len end bytes = if nat_le len (length bytes) then Ok (take len bytes, drop len bytes) else Err (refusal.Truncated end)

-- the field of bytes with this key: its bytes
unfoldable pub field_read : ℕ → ℕ → List ℕ → Read (List ℕ)
field_read key end bytes = do
  behind ← key_read key end bytes
  len ← varint_read end behind
  cut_read len.0 end len.1

-- whether bytes begin with this byte
abbrev pub begins_with : ℕ → List ℕ → Bool
begins_with key [] = false
begins_with key (b ∷ more) = b == key

-- a value that nothing may follow: another byte would be a key that may not stand there
abbrev pub last_read : {A : Type 0} → A → ℕ → List ℕ → Result A DirRefusal
last_read value end [] = Ok value
last_read value end (b ∷ more) = Err (refusal.Key (place end (b ∷ more)))
