-- Decimal sizes: what digits write, and that it is what `decimal` writes.
use Rattle.std.proofs.Common.{inl, inr, ◌≡◌, ℕ, ◌^◌, ◌<◌, ◌==◌, ◌&&◌, nat_lt, Bool, true, false, if◌then◌else◌, List, length, get_or, slice_index, Some, None, Result, Ok, Err, refl, arith, rules}
use Rattle.std.specs.Prelude.{decimal}
use Rattle.std.specs.Result.{OkIff, result_ok}
use Rattle.std.specs.Char.{is_ascii_digit}
use Rattle.std.specs.List.{list_all}
use Rattle.std.specs.Str.{IsUtf8}
use Rattle.std.specs.Str.Parse.{ParsesUnsigned, digits_value}
use Rattle.std.proofs.lemmas.Bool.{and_left, and_right, cases_lt, lt-ltb, ltb-true, ne_eqb}
use Rattle.std.proofs.lemmas.Bool.Decides.{nat_tests}
use Rattle.std.proofs.lemmas.Fmt.{IsAscii-from_digits, decimal-digits_value, decimal_nonempty, digits_decimal, digits_value-decimal, first_decimal, decimal_digit}
use Rattle.std.proofs.lemmas.Str.Parse.{IsNumeralModel, numerals_by_value, parse_digits}
use Rattle.std.proofs.lemmas.Str.{IsUtf8-from_ascii}
use Rattle.mat_digest.specs.Digests.{has_leading_zero, number_written, size_written}

-- each byte is a decimal digit
abbrev pub AreDigits : List ℕ → Type 0
AreDigits ds = list_all is_ascii_digit ds ≡ true

-- decimal digits and their value, as the library reads and writes numbers
pub digits_model : IsNumeralModel AreDigits (digits_value 10)
digits_model = numerals_by_value AreDigits (search rules)

-- what `parse` answers is the number, if its bounds hold
parsed_number : {E : Type 0} (r : Result ℕ E) (n v : ℕ) → OkIff r ((0 < n) × (v < 2 ^ 64)) v
    → result_ok r ≡ (if nat_lt 0 n && nat_lt v (2 ^ 64) then Some v else None)
parsed_number (Ok x) n v h = grind (arith, nat_tests, h.0.0, h.0.1, h.1)
parsed_number (Err e) n v h = grind (arith, nat_tests, h)

-- what `parse` answers at decimal digits
pub parse-number_written : {E : Type 0} (bs : List ℕ) (r : Result ℕ E) → ParsesUnsigned 64 10 bs r
    → list_all is_ascii_digit bs ≡ true → result_ok r ≡ number_written bs
parse-number_written bs r h digits =
    parsed_number r (length bs) (digits_value 10 bs) (parse_digits digits_model 64 bs r h digits)

-- digits are text
pub IsUtf8-digits : (bs : List ℕ) → list_all is_ascii_digit bs ≡ true → IsUtf8 bs
IsUtf8-digits bs h = IsUtf8-from_ascii bs (IsAscii-from_digits bs (digits_model.to bs h))

-- a size below ten has one digit
one_digit : (n : ℕ) → n < 10 → nat_lt 1 (length (decimal n)) ≡ false
one_digit n h = rw (decimal_digit n h) refl

-- `decimal` writes no zero before another digit
pub no_leading_zero : (n : ℕ) → n < 2 ^ 64 → has_leading_zero (decimal n) ≡ false
no_leading_zero n h =
    elim (cases_lt 0 n) [
      | inl above ↦
          let first = first_decimal n above h in
          and_right (nat_lt 1 (length (decimal n))) (slice_index (decimal n) 0 == 48) (ne_eqb (get_or (decimal n) 0 0) 48 (λ e. omega arith))
      | inr zero ↦ and_left (nat_lt 1 (length (decimal n))) (slice_index (decimal n) 0 == 48) (one_digit n (omega arith))
    ]

-- the size that `decimal` writes is read back
pub size_written-decimal : (n : ℕ) → n < 2 ^ 64 → size_written (decimal n) ≡ Some n
size_written-decimal n h =
    let first = no_leading_zero n h in
    let digits = digits_decimal digits_model n h in
    let value = digits_value-decimal digits_model n h in
    let some = lt-ltb 0 (length (decimal n)) (decimal_nonempty n h) in
    let fits = lt-ltb n (2 ^ 64) h in
    rw (first, digits, some, value, fits) refl

-- the tests that hold where a size is read
size_cases : (zero digits some fits : Bool) (v n : ℕ)
    → (if zero then None else if digits then (if some && fits then Some v else None) else None) ≡ Some n
    → (zero ≡ false) × (digits ≡ true) × (some ≡ true) × (fits ≡ true) × (v ≡ n)
size_cases true digits some fits v n h = cc h
size_cases false false some fits v n h = cc h
size_cases false true false fits v n h = cc h
size_cases false true true false v n h = cc h
size_cases false true true true v n h = (refl, refl, refl, refl, cc h)

-- a first digit 0 stands alone
alone : (n first : ℕ) → 0 < n → (nat_lt 1 n && first == 48) ≡ false → first ≡ 48 → n ≡ 1
alone n first some h zero = grind (arith, nat_tests)

-- a size that is read is written by `decimal`
pub decimal-size_written : (bs : List ℕ) (n : ℕ) → size_written bs ≡ Some n → decimal n ≡ bs
decimal-size_written bs n h =
    let got = size_cases (nat_lt 1 (length bs) && slice_index bs 0 == 48) (list_all is_ascii_digit bs)
    (nat_lt 0 (length bs)) (nat_lt (digits_value 10 bs) (2 ^ 64)) (digits_value 10 bs) n h in
    let some : 0 < length bs = ltb-true 0 (length bs) got.2 in
    let fits : digits_value 10 bs < 2 ^ 64 = ltb-true (digits_value 10 bs) (2 ^ 64) got.3 in
    rw (← got.4) (decimal-digits_value digits_model bs got.1 some
    (λ zero. alone (length bs) (slice_index bs 0) some got.0 zero) fits)
