-- Hashes in lower-case hexadecimal digits.
use Rattle.std.proofs.Common.{◌≡◌, ℕ, zero, suc, ◌+◌, ◌-◌, ◌*◌, ◌/◌, ◌%◌, ◌<◌, ◌≤◌, ◌==◌, nat_le, nat_lt, true, if◌then◌else◌, List, [], ◌∷◌, length, take, slice_index, Some, Ok, refl, ap, ◌∙◌, arith, length-take}
use Rattle.std.specs.Prelude.{IsOk}
use Rattle.std.specs.List.{AllPass}
use Rattle.std.proofs.lemmas.Bool.{agree_below_at, eqb-true}
use Rattle.std.proofs.lemmas.Bool.Decides.{nat_tests}
use Rattle.std.proofs.lemmas.List.Elements.{All-cons, All-head, All-nil, All-tail, All-weaker}
use Rattle.std.proofs.lemmas.List.Sums.{prefix_len-le-length, prefix_len_passes}
use Rattle.hex.specs.Hex.{IsBytes, decode_pairs, decode_sized, encode_lower, encode_with, hex_digit_value, is_hex_digit, lower_digits, pair_value}
use Rattle.hex.proofs.HexLemmas.{IsOk-decode_sized, decode_of-encode_lower, decode_of-even}
use Rattle.hex.proofs.Pairs.{cons_byte, decode_pairs-ok_pair}
use Rattle.mat_digest.specs.Digests.{hash_end, hash_spelled, is_lower_digit}

-- a lower-case digit is a digit
lower_digit_is_hex : (c : ℕ) → is_lower_digit c ≡ true → is_hex_digit c ≡ true
lower_digit_is_hex c h = grind (arith, nat_tests)

-- the test of a hash's bytes
abbrev lower : ℕ → Type 0
lower c = is_lower_digit c ≡ true

-- ---- what has no fault

-- a hash with no fault has 64 bytes
pub hash_end_len : (text : List ℕ) → 64 ≤ hash_end text → length (take 64 text) ≡ 64
hash_end_len text h =
    let most = prefix_len-le-length is_lower_digit (take 64 text) in
    omega (arith, length-take 64 text)

-- and each of them is a lower-case digit
pub hash_end_digits : (text : List ℕ) → 64 ≤ hash_end text → AllPass is_lower_digit (take 64 text)
hash_end_digits text h k d below =
    let len = hash_end_len text h in
    prefix_len_passes is_lower_digit (take 64 text) k d (omega arith)

-- so that it decodes
pub hash_decodes : (text : List ℕ) → 64 ≤ hash_end text → IsOk (decode_sized (take 64 text) 32)
hash_decodes text h =
    let digits = All-weaker lower (λ c. is_hex_digit c ≡ true) lower_digit_is_hex (take 64 text) (hash_end_digits text h) in
    (IsOk-decode_sized (take 64 text) 32).1 (hash_end_len text h, digits)

-- ---- from digits to bytes, and back

-- the digit of each number below 16
digit_at : (v : ℕ) → v < 16 → slice_index lower_digits v ≡ (if nat_lt v 10 then 48 + v else 87 + v)
digit_at v h =
    eqb-true (slice_index lower_digits v) (if nat_lt v 10 then 48 + v else 87 + v)
    (agree_below_at (λ d. slice_index lower_digits d == (if nat_lt d 10 then 48 + d else 87 + d)) (λ d. true) 16 v refl h)

-- what a lower-case digit stands for
abbrev digit_value : ℕ → ℕ
digit_value c = if nat_le c 57 then c - 48 else c - 87

digit_value-read : (c : ℕ) → lower c → hex_digit_value c ≡ Some (digit_value c)
digit_value-read c h = grind (arith, nat_tests)

digit_value-small : (c : ℕ) → lower c → digit_value c < 16
digit_value-small c h = grind (arith, nat_tests)

digit_value-written : (c : ℕ) → lower c → slice_index lower_digits (digit_value c) ≡ c
digit_value-written c h =
    digit_at (digit_value c) (digit_value-small c h) ∙ digit_value-again c h
  where
    digit_value-again : (c : ℕ) → lower c → (if nat_lt (digit_value c) 10 then 48 + digit_value c else 87 + digit_value c) ≡ c
    digit_value-again c h = grind (arith, nat_tests)

-- one byte more
bytes_more : (b : ℕ) (bytes : List ℕ) → b < 256 → IsBytes bytes → IsBytes (b ∷ bytes)
bytes_more b bytes fits h zero = fits
bytes_more b bytes fits h (suc k) = h k

-- lower-case digits in pairs spell bytes, whose text they are
lower_pairs : (i : ℕ) (s : List ℕ) → length s % 2 ≡ 0 → AllPass is_lower_digit s
    → (bytes : List ℕ) × (decode_pairs i s ≡ Ok bytes) × (encode_lower bytes ≡ s) × IsBytes bytes
unfolding decode_pairs encode_with
lower_pairs i [] even h = ([], refl, refl, λ k. omega arith)
lower_pairs i (a ∷ []) even h = absurd (omega arith)
lower_pairs i (a ∷ b ∷ rest) even h =
    let la = All-head lower a (b ∷ rest) h in
    let tail = All-tail lower a (b ∷ rest) h in
    let lb = All-head lower b rest tail in
    let ih = lower_pairs (i + 2) rest (omega arith) (All-tail lower b rest tail) in
    let va = digit_value a in
    let vb = digit_value b in
    let small : vb < 16 = digit_value-small b lb in
    let small_high : va < 16 = digit_value-small a la in
    let pair : pair_value a b i ≡ Ok (va * 16 + vb) = rw (digit_value-read a la, digit_value-read b lb) refl in
    let high : (va * 16 + vb) / 16 ≡ va = omega arith in
    let low : (va * 16 + vb) % 16 ≡ vb = omega arith in (
      (va * 16 + vb) ∷ ih.0,
      decode_pairs-ok_pair i a b _ rest pair ∙ ap (cons_byte (va * 16 + vb)) ih.1,
      rw (high, low, digit_value-written a la, digit_value-written b lb) (ap (λ (r : List ℕ). a ∷ b ∷ r) ih.2),
      bytes_more (va * 16 + vb) ih.0 (omega arith) ih.3,
    )

-- what lower-case digits spell is written as them
pub encode_lower-hash_spelled : (s : List ℕ) → length s % 2 ≡ 0 → AllPass is_lower_digit s
    → encode_lower (hash_spelled s) ≡ s
encode_lower-hash_spelled s even h =
    let read = lower_pairs 0 s even h in
    rw (decode_of-even s even, read.1) read.2

-- what lower-case digits spell is bytes
pub IsBytes-hash_spelled : (s : List ℕ) → length s % 2 ≡ 0 → AllPass is_lower_digit s → IsBytes (hash_spelled s)
IsBytes-hash_spelled s even h =
    let read = lower_pairs 0 s even h in
    rw (decode_of-even s even, read.1) read.3

-- what is written spells the bytes
pub hash_spelled-encode_lower : (bytes : List ℕ) → IsBytes bytes → hash_spelled (encode_lower bytes) ≡ bytes
hash_spelled-encode_lower bytes h = rw (decode_of-encode_lower bytes h) refl

-- each digit of the table is a lower-case digit
table_is_lower : (v : ℕ) → v < 16 → lower (slice_index lower_digits v)
table_is_lower v h = agree_below_at (λ d. is_lower_digit (slice_index lower_digits d)) (λ d. true) 16 v refl h

-- so what is written has lower-case digits alone
pub AllPass-encode_lower : (bytes : List ℕ) → IsBytes bytes → AllPass is_lower_digit (encode_lower bytes)
unfolding encode_with
AllPass-encode_lower [] h = All-nil lower
AllPass-encode_lower (b ∷ rest) h =
    let fits : b < 256 = h 0 in
    let high : b / 16 < 16 = omega arith in
    let low : b % 16 < 16 = omega arith in
    All-cons lower (slice_index lower_digits (b / 16)) (slice_index lower_digits (b % 16) ∷ encode_lower rest) (table_is_lower (b / 16) high)
    (All-cons lower (slice_index lower_digits (b % 16)) (encode_lower rest) (table_is_lower (b % 16) low) (AllPass-encode_lower rest (λ k. h (suc k))))
