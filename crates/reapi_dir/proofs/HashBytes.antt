-- The digest of some bytes is one: its hash is 32 bytes.
use Rattle.std.proofs.Common.{◌≡◌, ◌<◌, ◌^◌, ℕ, zero, suc, List, [], ◌∷◌, ◌++◌, length, slice_index, refl, arith}
use Rattle.std.specs.Int.{byte_at, bytes_high_first, to_be_bytes, w32}
use Rattle.hex.specs.Hex.{IsBytes}
use Rattle.sha2.specs.Sha256.{digest_bytes, final_hash, initial_hash_256, sha256}
use Rattle.sha2.proofs.Facts256.{length-sha256}
use Rattle.mat_digest.specs.Digests.{IsDigest, digest_of}

byte_small : (i n : ℕ) → byte_at i n < 256
byte_small zero n = omega arith
byte_small (suc i) n = omega arith

high_bytes : (k n : ℕ) → IsBytes (bytes_high_first k n)
high_bytes zero n i = omega arith
high_bytes (suc k) n zero = byte_small k n
high_bytes (suc k) n (suc i) = high_bytes k n i

bytes_join : (xs ys : List ℕ) → IsBytes xs → IsBytes ys → IsBytes (xs ++ ys)
bytes_join [] ys h k i = k i
bytes_join (x ∷ xs) ys h k zero = h 0
bytes_join (x ∷ xs) ys h k (suc i) = bytes_join xs ys (λ j. h (suc j)) k i

words_bytes : (h : List ℕ) (n : ℕ) → IsBytes (digest_bytes h n)
unfolding digest_bytes
words_bytes h zero i = omega arith
words_bytes h (suc n) i = bytes_join (digest_bytes h n) (to_be_bytes w32 (slice_index h n)) (words_bytes h n) (high_bytes 4 (slice_index h n)) i

hash_bytes : (bytes : List ℕ) → IsBytes (sha256 bytes)
unfolding sha256
hash_bytes bytes = words_bytes (final_hash initial_hash_256 bytes) 8

-- the hash in the digest of any bytes is 32 bytes
pub digest_hash : (bytes : List ℕ) → length (digest_of bytes).hash ≡ 32
unfolding digest_of
digest_hash bytes = length-sha256 bytes

-- the digest of bytes is one, where how many they are fits 64 bits
pub is_digest : (bytes : List ℕ) → length bytes < 2 ^ 64 → IsDigest (digest_of bytes)
unfolding digest_of
is_digest bytes short = record { hash_len = length-sha256 bytes; hash_bytes = hash_bytes bytes; size_fits = short }

-- the size in a digest is how many bytes it was made of
pub digest_size : (bytes : List ℕ) → (digest_of bytes).size ≡ length bytes
unfolding digest_of
digest_size bytes = refl
