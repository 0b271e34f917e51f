-- The numbers that words spell.
use Rattle.std.proofs.Common.{◌≡◌, ℕ, ◌^◌, ◌<◌, ◌≤◌, ◌&&◌, Bool, true, not, nat_lt, if◌then◌else◌, List, length, Some, None, Result, Ok, Err, refl, ◌∙◌, ap, arith}
use Rattle.std.specs.Prelude.{decimal}
use Rattle.std.specs.Char.{is_ascii_digit}
use Rattle.std.specs.List.{list_all}
use Rattle.std.specs.Result.{OkIff, result_ok}
use Rattle.std.specs.Str.{IsUtf8}
use Rattle.std.specs.Str.Parse.{ParsesUnsigned, digits_value}
use Rattle.std.proofs.lemmas.Bool.{and_parts, le-leb, lt-ltb, ltb-true}
use Rattle.std.proofs.lemmas.Bool.Decides.{nat_tests}
use Rattle.std.proofs.lemmas.Fmt.{decimal_nonempty, digits_decimal, digits_value-decimal}
use Rattle.std.proofs.lemmas.Str.Parse.{parse_digits}
use Rattle.mat_digest.specs.Digests.{has_leading_zero}
use Rattle.mat_digest.proofs.Sizes.{IsUtf8-digits, digits_model, no_leading_zero}
use Rattle.script_lang.specs.Spelled.{at_least_one, below, command_of, count_of, is_number, moment_of, number_of, place_of, worker_of}

-- a number is digits, at least one
pub number_is_digits : (word : List ℕ) → is_number word ≡ true → (0 < length word) × (list_all is_ascii_digit word ≡ true)
number_is_digits word h =
    let outer = and_parts (nat_lt 0 (length word) && list_all is_ascii_digit word) (not (has_leading_zero word)) h in
    let inner = and_parts (nat_lt 0 (length word)) (list_all is_ascii_digit word) outer.0 in
    (ltb-true 0 (length word) inner.0, inner.1)

-- so that it is text
pub IsUtf8-number : (word : List ℕ) → is_number word ≡ true → IsUtf8 word
IsUtf8-number word h = IsUtf8-digits word (number_is_digits word h).1

-- what `parse` answers is the number, if it is below the bound
parsed : {E : Type 0} (r : Result ℕ E) (n v m : ℕ) → OkIff r ((0 < n) × (v < m)) v → 0 < n
    → result_ok r ≡ (if nat_lt v m then Some v else None)
parsed (Ok x) n v m h some = grind (arith, nat_tests, h.0.1, h.1)
parsed (Err e) n v m h some = grind (arith, nat_tests, h)

-- what `parse` answers at a number
pub parse-below : {E : Type 0} (k : ℕ) (word : List ℕ) (r : Result ℕ E) → ParsesUnsigned k 10 word r
    → is_number word ≡ true → result_ok r ≡ below (2 ^ k) (number_of word)
parse-below k word r h number =
    let parts = number_is_digits word number in
    rw number (parsed r (length word) (digits_value 10 word) (2 ^ k) (parse_digits digits_model k word r h parts.1) parts.0)

-- ---- numbers that are written

-- the number that `decimal` writes is read back
number_of-decimal : (n : ℕ) → n < 2 ^ 64 → number_of (decimal n) ≡ Some n
number_of-decimal n h =
    let first = no_leading_zero n h in
    let digits = digits_decimal digits_model n h in
    let value = digits_value-decimal digits_model n h in
    let some = lt-ltb 0 (length (decimal n)) (decimal_nonempty n h) in
    rw (first, digits, some, value) refl

below-decimal : (bound n : ℕ) → n < bound → n < 2 ^ 64 → below bound (number_of (decimal n)) ≡ Some n
below-decimal bound n h fits = ap (below bound) (number_of-decimal n fits) ∙ ap (λ (b : Bool). if b then Some n else None) (lt-ltb n bound h)

-- a command's number that `decimal` writes is read back
pub command_of-decimal : (n : ℕ) → n < 2 ^ 32 → command_of (decimal n) ≡ Some n
command_of-decimal n h = below-decimal (2 ^ 32) n h (omega arith)

-- so is a count
pub count_of-decimal : (n : ℕ) → n < 2 ^ 64 → count_of (decimal n) ≡ Some n
count_of-decimal n h = below-decimal (2 ^ 64) n h h

-- so is a moment
pub moment_of-decimal : (n : ℕ) → n < 2 ^ 63 → moment_of (decimal n) ≡ Some n
moment_of-decimal n h = below-decimal (2 ^ 63) n h (omega arith)

-- so is a worker's number, if there are more workers
pub worker_of-decimal : (workers n : ℕ) → n < workers → n < 2 ^ 32 → worker_of workers (decimal n) ≡ Some n
worker_of-decimal workers n h fits = below-decimal workers n h (omega arith)

-- so is a place from 1 on
pub place_of-decimal : (n : ℕ) → 1 ≤ n → n < 2 ^ 64 → place_of (decimal n) ≡ Some n
place_of-decimal n h fits = ap at_least_one (count_of-decimal n fits) ∙ ap (λ (b : Bool). if b then Some n else None) (le-leb 1 n h)
