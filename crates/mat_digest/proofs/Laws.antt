-- A digest's text is read as that digest, and what is read as a digest is its text.
use Rattle.std.proofs.Common.{inl, inr, ◌≡◌, ℕ, ◌+◌, ◌%◌, ◌<◌, ◌≤◌, ◌==◌, nat_eq, nat_lt, not, if◌then◌else◌, Bool, true, false, List, ◌∷◌, ◌++◌, length, take, drop, slice_index, Option, Some, None, Ok, Err, refl, sym, ap, subst, ◌∙◌, arith, length-append}
use Rattle.std.specs.Prelude.{IfOk, decimal}
use Rattle.std.proofs.lemmas.Bool.{cases_lt, eq-eqb, eqb-true, ltb-false}
use Rattle.std.proofs.lemmas.List.{get_or_past, drop_more, drop-append-le, drop_all, take-append-drop, take-append-le, take_all, get_or-append-add}
use Rattle.std.proofs.lemmas.List.Sums.{prefix_len_is}
use Rattle.hex.specs.Hex.{IsBytes, encode_lower, lower_digits}
use Rattle.hex.proofs.HexLemmas.{length-encode_with}
use Rattle.mat_digest.specs.Digests.{IsDigest, digest_text, hash_end, hash_spelled, is_lower_digit, read_digest, read_hash, size_written, with_size}
use Rattle.mat_digest.specs.declared.digest.Digest.{Digest}
use Rattle.mat_digest.specs.declared.digest.DigestRefusal.TheVariants.{Colon, Hash}
use Rattle.mat_digest.proofs.Hashes.{AllPass-encode_lower, IsBytes-hash_spelled, encode_lower-hash_spelled, hash_end_digits, hash_end_len, hash_spelled-encode_lower}
use Rattle.mat_digest.proofs.Sizes.{decimal-size_written, size_written-decimal}

-- ---- what is written is read

-- the parts of a text: 64 bytes, a byte, and the rest
take_hash : (hash rest : List ℕ) → length hash ≡ 64 → take 64 (hash ++ rest) ≡ hash
take_hash hash rest len = take-append-le 64 hash rest (omega arith) ∙ take_all 64 hash (omega arith)

byte_after : (hash rest : List ℕ) (c : ℕ) → length hash ≡ 64 → slice_index (hash ++ c ∷ rest) 64 ≡ c
byte_after hash rest c len =
    let at : 64 ≡ length hash + 0 = omega arith in
    ap (slice_index (hash ++ c ∷ rest)) at ∙ get_or-append-add hash (c ∷ rest) 0 0

drop_hash : (hash rest : List ℕ) (c : ℕ) → length hash ≡ 64 → drop 65 (hash ++ c ∷ rest) ≡ rest
drop_hash hash rest c len =
    let whole = length-append hash (c ∷ rest) in
    let inside : 64 < length (hash ++ c ∷ rest) = omega (arith, whole) in
    let step = drop_more (hash ++ c ∷ rest) 64 0 inside in
    let front = drop-append-le 64 hash (c ∷ rest) (omega arith) in
    let gone = drop_all 64 hash (omega arith) in
    let both : slice_index (hash ++ c ∷ rest) 64 ∷ drop 65 (hash ++ c ∷ rest) ≡ c ∷ rest =
    sym step ∙ front ∙ ap (λ (xs : List ℕ). xs ++ c ∷ rest) gone in
    cc both

-- 64 lower-case digits have no fault
hash_end-digits : (hash rest : List ℕ) → length hash ≡ 64 → ((k : ℕ) (d : ℕ) → k < length hash → is_lower_digit (slice_index hash k) ≡ true)
    → hash_end (hash ++ rest) ≡ 64
hash_end-digits hash rest len digits =
    rw (take_hash hash rest len)
    (prefix_len_is is_lower_digit hash 64 0 (omega arith) (λ k below. digits k 0 (omega arith)) (λ above. absurd (omega arith)))

-- reading the text of a digest gives the digest
pub read_digest-digest_text : (d : Digest) → IsDigest d → read_digest (digest_text d) ≡ Ok d
unfolding read_digest
read_digest-digest_text d h =
    let hash = encode_lower d.hash in
    let size = decimal d.size in
    let len : length hash ≡ 64 = omega (arith, length-encode_with lower_digits d.hash, h.hash_len) in
    let end = hash_end-digits hash (58 ∷ size) len (λ k x below. AllPass-encode_lower d.hash h.hash_bytes k 0 below) in
    let colon = byte_after hash size 58 len in
    let front = take_hash hash (58 ∷ size) len in
    let back = drop_hash hash size 58 len in
    rw (end, colon, front, back, hash_spelled-encode_lower d.hash h.hash_bytes, size_written-decimal d.size h.size_fits) refl

-- ---- what is read was written

-- what holds where a digest is read, from the tests that it passed
read_cases : (P : Digest → Type 0) (short colon : Bool) (at : ℕ) (hash : List ℕ) (size : Option ℕ)
    → (short ≡ false → colon ≡ true → (n : ℕ) → size ≡ Some n → P (record { hash = hash; size = n }))
    → IfOk (if short then Err (Hash at) else if colon then with_size hash size else Err (Colon 64)) P
read_cases P true colon at hash size h = tt
read_cases P false false at hash size h = tt
read_cases P false true at hash None h = tt
read_cases P false true at hash (Some n) h = h refl refl n refl

-- a text that has its colon ends after it, or goes on
past_hash : (text : List ℕ) → slice_index text 64 ≡ 58 → 64 < length text
past_hash text h =
    elim (cases_lt 64 (length text)) [
      | inl past ↦ past
      | inr short ↦ absurd (omega (arith, get_or_past text 64 0 short))
    ]

-- what is read as a digest is its text
pub digest_text-read_digest : (text : List ℕ) → IfOk (read_digest text) (λ d. text ≡ digest_text d)
unfolding read_digest
digest_text-read_digest text =
    read_cases (λ d. text ≡ digest_text d) (nat_lt (hash_end text) 64) (slice_index text 64 == 58) (hash_end text)
    (hash_spelled (take 64 text)) (size_written (drop 65 text))
    (λ short colon n size.
    let end : 64 ≤ hash_end text = ltb-false (hash_end text) 64 short in
    let byte : slice_index text 64 ≡ 58 = eqb-true (slice_index text 64) 58 colon in
    let len = hash_end_len text end in
    let hash = encode_lower-hash_spelled (take 64 text) (rw len refl) (hash_end_digits text end) in
    let rest = drop_more text 64 0 (past_hash text byte) in
    sym (take-append-drop 64 text) ∙ rw (hash, decimal-size_written (drop 65 text) n size, rest, byte) refl)

-- ---- a hash alone

-- what is read of a hash that is written
pub read_hash-encode_lower : (hash : List ℕ) → length hash ≡ 32 → IsBytes hash → read_hash (encode_lower hash) ≡ Some hash
unfolding read_hash
read_hash-encode_lower hash size bytes =
    let text = encode_lower hash in
    let len : length text ≡ 64 = omega (arith, length-encode_with lower_digits hash, size) in
    let whole : take 64 text ≡ text = take_all 64 text (omega arith) in
    let end : hash_end text ≡ 64 =
    rw whole (prefix_len_is is_lower_digit text 64 0 (omega arith) (λ k below. AllPass-encode_lower hash bytes k 0 (omega arith)) (λ above. absurd (omega arith))) in
    let sized : nat_eq (length text) 64 ≡ true = eq-eqb (length text) 64 len in
    rw (sized, end, whole, hash_spelled-encode_lower hash bytes) refl

-- a hash is read where two tests pass
hash_cases : (sized short : Bool) (found hash : List ℕ) → (if not sized then None else if short then None else Some found) ≡ Some hash
    → (sized ≡ true) × (short ≡ false) × (found ≡ hash)
hash_cases true true found hash h = cc
hash_cases true false found hash h = (refl, refl, cc)
hash_cases false short found hash h = cc

-- a text from which a hash is read is the text of that hash
pub encode_lower-read_hash : (text hash : List ℕ) → read_hash text ≡ Some hash → (text ≡ encode_lower hash) × (length hash ≡ 32) × IsBytes hash
unfolding read_hash
encode_lower-read_hash text hash read =
    let passed = hash_cases _ _ _ hash read in
    let len : length text ≡ 64 = eqb-true (length text) 64 passed.0 in
    let end : 64 ≤ hash_end text = ltb-false (hash_end text) 64 passed.1 in
    let whole : take 64 text ≡ text = take_all 64 text (omega arith) in
    let digits = hash_end_digits text end in
    let even : length (take 64 text) % 2 ≡ 0 = rw (whole, len) refl in
    let spelled : encode_lower hash ≡ text = ap encode_lower (sym passed.2) ∙ encode_lower-hash_spelled (take 64 text) even digits ∙ whole in
    let bytes : IsBytes hash = subst IsBytes passed.2 (IsBytes-hash_spelled (take 64 text) even digits) in
    (sym spelled, omega (arith, length-encode_with lower_digits hash, ap length spelled), bytes)
