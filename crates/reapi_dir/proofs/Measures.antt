-- How many bytes each part of a message has.
use Rattle.std.proofs.Common.{◌≡◌, ◌<◌, ◌+◌, ◌*◌, ℕ, zero, suc, List, ◌++◌, length, ap, refl, ◌∙◌, arith}
use Rattle.std.proofs.lemmas.List.{length-append}
use Rattle.hex.proofs.HexLemmas.{length-encode_with}
use Rattle.hex.specs.Hex.{lower_digits}
use Rattle.mat_digest.specs.Digests.{hash_text}
use Rattle.mat_digest.specs.declared.digest.Digest.{Digest}
use Rattle.mat_tree.specs.Messages.{bytes_field, digest_message, number_field, varint}
use Rattle.mat_tree.proofs.Varints.{varint_one}
use Rattle.reapi_dir.specs.Lengths.{field_length, number_length}

-- how many bytes a field of bytes has
pub length_field : (number : ℕ) (bytes : List ℕ) → number < 15 → length (bytes_field number bytes) ≡ field_length (length bytes)
length_field number bytes h =
    omega (
      arith,
      length-append (varint (number * 8 + 2) ++ varint (length bytes)) bytes,
      length-append (varint (number * 8 + 2)) (varint (length bytes)),
      varint_one (number * 8 + 2) (omega arith),
    )

-- how many bytes a field of a number has
pub length_number : (number n : ℕ) → number < 15 → length (number_field number n) ≡ number_length n
length_number number zero h = refl
length_number number (suc n) h = omega (arith, length-append (varint (number * 8)) (varint (suc n)), varint_one (number * 8) (omega arith))

-- how many bytes the message of a digest has
pub length_digest : (d : Digest) (field number : ℕ) → length d.hash ≡ 32 → field ≡ field_length 64 → number ≡ number_length d.size
    → field + number ≡ length (digest_message d)
length_digest d field number h e f =
    omega (
      arith,
      length-append (bytes_field 1 (hash_text d)) (number_field 2 d.size),
      length_field 1 (hash_text d) (omega arith),
      length_number 2 d.size (omega arith),
      ap field_length (hash_length d h),
    )
  where
    hash_length : (d : Digest) → length d.hash ≡ 32 → length (hash_text d) ≡ 64
    hash_length d h = omega (arith, length-encode_with lower_digits d.hash)

-- how many bytes two fields of bytes have, one behind the other
pub length_two : (a b : List ℕ) (m n first second : ℕ) → m ≡ length a → n ≡ length b → first ≡ field_length m → second ≡ field_length n
    → first + second ≡ length (bytes_field 1 a ++ bytes_field 2 b)
length_two a b m n first second e f g h =
    omega (
      arith,
      length-append (bytes_field 1 a) (bytes_field 2 b),
      length_field 1 a (omega arith),
      length_field 2 b (omega arith),
      g ∙ ap field_length e,
      h ∙ ap field_length f,
    )

-- the same with a field of a number behind them
pub length_three : (a b : List ℕ) (m n k first second third : ℕ) → m ≡ length a → n ≡ length b → first ≡ field_length m → second ≡ field_length n
    → third ≡ number_length k → first + second + third ≡ length (bytes_field 1 a ++ bytes_field 2 b ++ number_field 4 k)
length_three a b m n k first second third e f g h i =
    omega (
      arith,
      length-append (bytes_field 1 a ++ bytes_field 2 b) (number_field 4 k),
      length_two a b m n first second e f g h,
      length_number 4 k (omega arith),
    )
