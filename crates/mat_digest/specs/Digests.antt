-- Digests, their text, and what reading a text answers (Remote Execution API v2, `Digest`).
use Rattle.std.specs.Prelude.{◌≡◌, ℕ, ◌^◌, ◌<◌, ◌==◌, ◌&&◌, ◌||◌, not, nat_eq, nat_lt, nat_le, Bool, if◌then◌else◌, List, [], ◌∷◌, ◌++◌, length, take, drop, slice_index, decimal, Option, Some, None, Result, Ok, Err}
use Rattle.std.specs.Char.{is_ascii_digit}
use Rattle.std.specs.List.{list_all, prefix_len}
use Rattle.std.specs.Str.Parse.{digits_value}
use Rattle.std.specs.Result.{result_unwrap_or}
use Rattle.hex.specs.Hex.{IsBytes, decode_of, encode_lower}
use Rattle.sha2.specs.Sha256.{sha256}
use Rattle.mat_digest.specs.declared.digest.Digest.{Digest}
use Rattle.mat_digest.specs.declared.digest.DigestRefusal.{DigestRefusal}
use Rattle.mat_digest.specs.declared.digest.DigestRefusal.TheVariants.{Hash, Colon, Size}

-- the digest of some bytes: their SHA-256 (FIPS 180-4, 6.2) and how many they are
unfoldable pub digest_of : List ℕ → Digest
digest_of bytes = record { hash = sha256 bytes; size = length bytes }

-- the digests that the type holds: 32 bytes, and a size that 64 bits hold
pub record IsDigest (d : Digest) : Type 0 where
  pub hash_len : length d.hash ≡ 32
  pub hash_bytes : IsBytes d.hash
  pub size_fits : d.size < 2 ^ 64

-- the text of a digest's hash: 64 lower-case hexadecimal digits
abbrev pub hash_text : Digest → List ℕ
hash_text d = encode_lower d.hash

-- the text of a digest: that of its hash, a colon, and the size in decimal
abbrev pub digest_text : Digest → List ℕ
digest_text d = hash_text d ++ 58 ∷ decimal d.size

-- `0` to `9` and `a` to `f`
abbrev pub is_lower_digit : ℕ → Bool
is_lower_digit c = (nat_le 48 c && nat_le c 57) || (nat_le 97 c && nat_le c 102)

-- where the first of the first 64 bytes stands that is missing or is no lower-case digit, or else 64
abbrev pub hash_end : List ℕ → ℕ
hash_end text = prefix_len is_lower_digit (take 64 text)

-- the bytes that a text of hexadecimal digits spells
abbrev pub hash_spelled : List ℕ → List ℕ
hash_spelled text = result_unwrap_or (decode_of text) []

-- the hash that exactly 64 lower-case digits spell
unfoldable pub read_hash : List ℕ → Option (List ℕ)
read_hash text =
    if not (nat_eq (length text) 64) then None
    else if nat_lt (hash_end text) 64 then None
    else Some (hash_spelled (take 64 text))

-- the number that decimal digits write, if there is a digit and 64 bits hold the number
abbrev pub number_written : List ℕ → Option ℕ
number_written digits =
    if nat_lt 0 (length digits) && nat_lt (digits_value 10 digits) (2 ^ 64) then Some (digits_value 10 digits) else None

-- whether a text begins with a zero before another byte
abbrev pub has_leading_zero : List ℕ → Bool
has_leading_zero text = nat_lt 1 (length text) && slice_index text 0 == 48

-- the size that a text writes in decimal digits with no leading zero
abbrev pub size_written : List ℕ → Option ℕ
size_written text =
    if has_leading_zero text then None
    else if list_all is_ascii_digit text then number_written text
    else None

-- the digest of a hash and a size, if there is a size
abbrev pub with_size : List ℕ → Option ℕ → Result Digest DigestRefusal
with_size hash None = Err (Size 65)
with_size hash (Some size) = Ok (record { hash = hash; size = size })

-- what reading a text answers: the digest that it spells, or where the first fault is
unfoldable pub read_digest : List ℕ → Result Digest DigestRefusal
read_digest text =
    if nat_lt (hash_end text) 64 then Err (Hash (hash_end text))
    else if slice_index text 64 == 58 then with_size (hash_spelled (take 64 text)) (size_written (drop 65 text))
    else Err (Colon 64)
