-- Varints, by their first group.
use Rattle.std.proofs.Common.{◌≡◌, ◌<◌, ◌≤◌, ◌+◌, ◌*◌, ◌/◌, ◌%◌, ◌^◌, ℕ, zero, suc, Bool, true, false, cond, nat_lt, [], ◌∷◌, length, refl, ap, ◌∙◌, sym, arith}
use Rattle.std.proofs.lemmas.Bool.Decides.{nat_tests}
use Rattle.mat_tree.specs.Messages.{groups_of, varint}

-- how many numbers this many groups and one more can spell
abbrev room : ℕ → ℕ
room zero = 128
room (suc groups) = 128 * room groups

lt_test : (n : ℕ) → n < 128 → nat_lt n 128 ≡ true
lt_test n h = grind (arith, nat_tests)

ge_test : (n : ℕ) → 128 ≤ n → nat_lt n 128 ≡ false
ge_test n h = grind (arith, nat_tests)

of_test : (n : ℕ) → nat_lt n 128 ≡ false → 128 ≤ n
of_test n e = grind (arith, nat_tests)

div_room : (n r : ℕ) → n < 128 * r → n / 128 < r
div_room n r h = omega arith

-- one group
groups_small : (groups n : ℕ) → n < 128 → groups_of (suc groups) n ≡ n ∷ []
groups_small groups n h = ap (λ b. cond b (n ∷ []) ((128 + n % 128) ∷ groups_of groups (n / 128))) (lt_test n h)

-- a group, and the rest
groups_step : (groups n : ℕ) → 128 ≤ n → groups_of (suc groups) n ≡ (128 + n % 128) ∷ groups_of groups (n / 128)
groups_step groups n h = ap (λ b. cond b (n ∷ []) ((128 + n % 128) ∷ groups_of groups (n / 128))) (ge_test n h)

-- more groups than a number needs say nothing
groups_more : (groups n : ℕ) → n < room groups → groups_of (suc groups) n ≡ groups_of (suc (suc groups)) n
groups_more zero n h = groups_small zero n h ∙ sym (groups_small (suc zero) n h)
groups_more (suc groups) n h =
    ap (λ t. cond (nat_lt n 128) (n ∷ []) ((128 + n % 128) ∷ t)) (groups_more groups (n / 128) (div_room n (room groups) h))

-- the varint of a small number
pub varint_small : (n : ℕ) → n < 128 → varint n ≡ n ∷ []
varint_small n h = groups_small 9 n h

-- a varint's first byte, and the rest
pub varint_step : (n : ℕ) → n < 2 ^ 64 → 128 ≤ n → varint n ≡ (128 + n % 128) ∷ varint (n / 128)
varint_step n h k = groups_step 9 n k ∙ ap (λ t. (128 + n % 128) ∷ t) (groups_more 8 (n / 128) (omega arith))

groups_few : (groups n : ℕ) → length (groups_of groups n) ≤ groups
groups_few zero n = omega arith
groups_few (suc groups) n = by (nat_lt n 128) (groups_few groups (n / 128))
  where
    by : (b : Bool) → length (groups_of groups (n / 128)) ≤ groups → length (cond b (n ∷ []) ((128 + n % 128) ∷ groups_of groups (n / 128))) ≤ suc groups
    by true e = omega arith
    by false e = omega arith

-- a varint has at most ten bytes
pub varint_short : (n : ℕ) → length (varint n) ≤ 10
varint_short n = groups_few 10 n

-- one byte, or one more than what follows the first
pub varint_one : (n : ℕ) → n < 128 → length (varint n) ≡ 1
varint_one n h = ap length (varint_small n h)

-- the varint of a number of 128 or more is one byte longer than that of its rest
pub varint_longer : (n : ℕ) → n < 2 ^ 64 → 128 ≤ n → length (varint n) ≡ 1 + length (varint (n / 128))
varint_longer n h k = ap length (varint_step n h k) ∙ suc_is (length (varint (n / 128)))
  where
    suc_is : (n : ℕ) → suc n ≡ 1 + n
    suc_is n = omega arith

-- a varint has a byte
pub varint_begins : (n : ℕ) → n < 2 ^ 64 → 1 ≤ length (varint n)
varint_begins n h = by (nat_lt n 128) refl
  where
    small : nat_lt n 128 ≡ true → n < 128
    small e = grind (arith, nat_tests)

    by : (b : Bool) → nat_lt n 128 ≡ b → 1 ≤ length (varint n)
    by true e = omega (arith, varint_one n (small e))
    by false e = omega (arith, varint_longer n h (of_test n e))
