-- What is written in the wire form is read as itself, and what is read was written so.
use Rattle.std.specs.Cmp.{first_so, second_so}
use Rattle.std.proofs.Common.{◌≡◌, ℕ, zero, suc, ◌+◌, ◌-◌, ◌*◌, ◌/◌, ◌%◌, ◌^◌, ◌<◌, ◌≤◌, nat_lt, nat_le, nat_eq, Bool, true, false, if◌then◌else◌, List, [], ◌∷◌, ◌++◌, length, take, drop, Result, Ok, Err, inl, inr, refl, sym, ap, ◌∙◌, subst, arith, length-append, append_assoc}
use Rattle.std.proofs.lemmas.Bool.{cases_lt, eq-eqb, eqb-true, le-leb, le-ltb, leb-true, lt-ltb, ltb-true, ne_eqb}
use Rattle.std.proofs.lemmas.List.{drop-append-le, drop_all, length-take-le, take-append-drop, take-append-le, take_all}
use Rattle.hex.specs.Hex.{IsBytes}
use Rattle.mat_tree.specs.Messages.{groups_of, varint}
use Rattle.reapi_dir.specs.declared.refusal.DirRefusal.{DirRefusal}
use Rattle.reapi_dir.specs.Wire.{◌>>=◌, field_read, groups_read, key_read, place, varint_read}

-- ---- steps that gave a value

-- where two steps gave a value, each of them did
pub both_gave : {A B : Type 0} (r : Result A DirRefusal) (f : A → Result B DirRefusal) (b : B) → (r >>= f) ≡ Ok b
    → (a : A) × (r ≡ Ok a) × (f a ≡ Ok b)
both_gave (Ok a) f b h = (a, refl, h)
both_gave (Err e) f b h = cc

-- where a value behind a test was given, the test was passed and the value is the tested one
pub test_gave : {A : Type 0} (t : Bool) (a b : A) (e : DirRefusal) → (if t then Ok a else Err e) ≡ Ok b → (t ≡ true) × (a ≡ b)
test_gave true a b e h = (refl, cc)
test_gave false a b e h = cc

-- a value that was given is the one that was told
pub same_value : {A : Type 0} (p q : A) → (let r : Result A DirRefusal = Ok p in r) ≡ Ok q → p ≡ q
same_value p q h = cc

-- the first part of a pair that was given is the one that was told
pub same_first : {A B : Type 0} (a c : A) (b d : B) → (let r : Result (A × B) DirRefusal = Ok (a, b) in r) ≡ Ok (c, d) → a ≡ c
same_first {A} {B} a c b d h = ap (λ (p : A × B). p.0) (same_value {A = A × B} (a, b) (c, d) h)

-- the second part of a pair that was given is the one that was told
pub same_second : {A B : Type 0} (a c : A) (b d : B) → (let r : Result (A × B) DirRefusal = Ok (a, b) in r) ≡ Ok (c, d) → b ≡ d
same_second {A} {B} a c b d h = ap (λ (p : A × B). p.1) (same_value {A = A × B} (a, b) (c, d) h)

-- ---- bytes

-- a front of bytes are bytes
pub bytes_front : (xs ys : List ℕ) → IsBytes (xs ++ ys) → IsBytes xs
bytes_front [] ys h k = omega arith
bytes_front (x ∷ xs) ys h zero = h 0
bytes_front (x ∷ xs) ys h (suc k) = bytes_front xs ys (λ i. h (suc i)) k

-- what is behind a front of bytes are bytes
pub bytes_back : (xs ys : List ℕ) → IsBytes (xs ++ ys) → IsBytes ys
bytes_back [] ys h = h
bytes_back (x ∷ xs) ys h = bytes_back xs ys (λ i. h (suc i))

-- ---- varints

-- the first number that has more groups than so many and one more
top : ℕ → ℕ
top zero = 128
top (suc k) = 128 * top k

groups_back : (k n at end : ℕ) (rest : List ℕ) → n < top k → n < 2 ^ 64 → groups_read at end (suc k) (groups_of (suc k) n ++ rest) ≡ Ok (n, rest)
unfolding groups_read top
groups_back zero n at end rest small fits =
    let short : nat_lt n 128 ≡ true = lt-ltb n 128 small in
    rw (short, short) refl
groups_back (suc k) n at end rest small fits =
    elim (cases_lt n 128) [
      | inl below ↦
          let short : nat_lt n 128 ≡ true = lt-ltb n 128 below in
          let some : nat_eq (suc (suc k)) 0 ≡ false = ne_eqb (suc (suc k)) 0 (omega arith) in
          rw (short, some, short) refl
      | inr above ↦
          let long : nat_lt n 128 ≡ false = le-ltb n 128 above in
          let some : nat_eq (suc (suc k)) 0 ≡ false = ne_eqb (suc (suc k)) 0 (omega arith) in
          let marked : nat_lt (128 + n % 128) 128 ≡ false = le-ltb (128 + n % 128) 128 (omega arith) in
          let less : suc (suc k) - 1 ≡ suc k = omega arith in
          let inner = groups_back k (n / 128) at end rest (omega arith) (omega arith) in
          let positive : nat_lt 0 (n / 128) ≡ true = lt-ltb 0 (n / 128) (omega arith) in
          let high : nat_lt (n / 128) (2 ^ 57) ≡ true = lt-ltb (n / 128) (2 ^ 57) (omega arith) in
          let whole : (128 + n % 128 - 128) + 128 * (n / 128) ≡ n = omega arith in
          rw (long, some, marked, less, inner, positive, high, whole) refl
    ]

-- a varint is read as its number, and what is behind it is left
pub varint_back : (n end : ℕ) (rest : List ℕ) → n < 2 ^ 64 → varint_read end (varint n ++ rest) ≡ Ok (n, rest)
unfolding varint_read top
varint_back n end rest fits = groups_back 9 n (place end (varint n ++ rest)) end rest (omega arith) fits

-- the bytes of a group and those above it
group_spells : (b k n high number : ℕ) (more behind rest : List ℕ) → 128 ≤ b → b < 256 → 0 < high → high < 2 ^ 57 → b - 128 + 128 * high ≡ number
    → number ≡ n → behind ≡ rest → more ≡ groups_of k high ++ behind → ((b ∷ more) ≡ groups_of (suc k) n ++ rest) × (n < 2 ^ 64)
group_spells b k n high number more behind rest marked byte positive fits is same end spelled =
    let large : nat_lt n 128 ≡ false = le-ltb n 128 (omega arith) in
    let low : 128 + n % 128 ≡ b = omega arith in
    let up : n / 128 ≡ high = omega arith in
    (rw (large, low, up, ← end) (ap (λ (xs : List ℕ). b ∷ xs) spelled), omega arith)

-- the bytes of a number that was read, and that it fits 64 bits
groups_spell : (bytes : List ℕ) (k n at end : ℕ) (rest : List ℕ) → IsBytes bytes → groups_read at end k bytes ≡ Ok (n, rest)
    → (bytes ≡ groups_of k n ++ rest) × (n < 2 ^ 64)
unfolding groups_read
groups_spell [] k n at end rest h read = cc
groups_spell (b ∷ more) zero n at end rest h read = cc
groups_spell (b ∷ more) (suc k) n at end rest h read =
    let some : nat_eq (suc k) 0 ≡ false = ne_eqb (suc k) 0 (omega arith) in
    let less : suc k - 1 ≡ k = omega arith in
    let fits : b < 256 = h 0 in
    elim (cases_lt b 128) [
      | inl below ↦
          let short : nat_lt b 128 ≡ true = lt-ltb b 128 below in
          let last = rw (some, short) at read in
          let same = same_first b n more rest last in
          let behind = same_second b n more rest last in
          let short_2 : nat_lt n 128 ≡ true = rw (← same) short in
          (rw (short_2, same, behind) refl, omega arith)
      | inr above ↦
          let long : nat_lt b 128 ≡ false = le-ltb b 128 above in
          let steps = both_gave {A = ℕ × List ℕ} _ _ _ (rw (some, long, less) at read) in
          let higher = steps.0 in
          let with = both_gave _ _ _ steps.2 in
          let passed = test_gave _ _ _ _ with.1 in
          let number : b - 128 + 128 * higher.0 ≡ with.0 = passed.1 in
          let positive : 0 < higher.0 = ltb-true 0 higher.0 (first_so _ _ passed.0) in
          let high : higher.0 < 2 ^ 57 = ltb-true higher.0 (2 ^ 57) (second_so _ _ passed.0) in
          let inner = groups_spell more k higher.0 at end higher.1 (λ i. h (suc i)) steps.1 in
          group_spells b k n higher.0 with.0 more higher.1 rest above fits positive high number (same_first with.0 n higher.1 rest with.2)
          (same_second with.0 n higher.1 rest with.2) inner.0
    ]

-- bytes that are read as a number begin with its varint, and the number fits 64 bits
pub varint_spells : (bytes : List ℕ) (n end : ℕ) (rest : List ℕ) → IsBytes bytes → varint_read end bytes ≡ Ok (n, rest)
    → (bytes ≡ varint n ++ rest) × (n < 2 ^ 64)
unfolding varint_read
varint_spells bytes n end rest h read = groups_spell bytes 10 n (place end bytes) end rest h read

-- ---- keys

-- a key that stands where it is to stand is read
pub key_back : (key end : ℕ) (rest : List ℕ) → key < 2 ^ 64 → key_read key end (varint key ++ rest) ≡ Ok rest
unfolding key_read
key_back key end rest fits =
    let same : nat_eq key key ≡ true = eq-eqb key key refl in
    rw (varint_back key end rest fits, same) refl

-- bytes behind which a key was read begin with its varint
pub key_spells : (bytes : List ℕ) (key end : ℕ) (rest : List ℕ) → IsBytes bytes → key_read key end bytes ≡ Ok rest → bytes ≡ varint key ++ rest
unfolding key_read
key_spells bytes key end rest h read =
    let steps = both_gave _ _ _ read in
    let passed = test_gave _ _ _ _ steps.2 in
    let same : steps.0.0 ≡ key = eqb-true steps.0.0 key passed.0 in
    let spelled = varint_spells bytes steps.0.0 end steps.0.1 h steps.1 in
    cc (same, passed.1, spelled.0)

-- ---- fields of bytes

-- the field of bytes with a key
abbrev pub keyed : ℕ → List ℕ → List ℕ
keyed key bytes = varint key ++ varint (length bytes) ++ bytes

-- a field of bytes is read as its bytes, and what is behind it is left
pub field_back : (key end : ℕ) (bytes rest : List ℕ) → key < 2 ^ 64 → length bytes < 2 ^ 64 → field_read key end (keyed key bytes ++ rest) ≡ Ok (bytes, rest)
unfolding field_read
field_back key end bytes rest fits short =
    let split : keyed key bytes ++ rest ≡ varint key ++ (varint (length bytes) ++ (bytes ++ rest)) = simp append_assoc in
    let room : nat_le (length bytes) (length (bytes ++ rest)) ≡ true = le-leb (length bytes) (length (bytes ++ rest)) (omega (arith, length-append bytes rest)) in
    let front : take (length bytes) (bytes ++ rest) ≡ bytes = take-append-le (length bytes) bytes rest (omega arith) ∙ take_all (length bytes) bytes (omega arith) in
    let back : drop (length bytes) (bytes ++ rest) ≡ rest = drop-append-le (length bytes) bytes rest (omega arith) ∙ ap (λ (xs : List ℕ). xs ++ rest) (drop_all (length bytes) bytes (omega arith)) in
    rw (split, key_back key end (varint (length bytes) ++ (bytes ++ rest)) fits, varint_back (length bytes) end (bytes ++ rest) short, room, front, back) refl

-- bytes of which a field was read begin with that field
pub field_spells : (all : List ℕ) (key end : ℕ) (bytes rest : List ℕ) → IsBytes all → field_read key end all ≡ Ok (bytes, rest)
    → all ≡ keyed key bytes ++ rest
unfolding field_read
field_spells all key end bytes rest h read =
    let first = both_gave {A = List ℕ} _ _ _ read in
    let second = both_gave {A = ℕ × List ℕ} _ _ _ first.2 in
    let len = second.0.0 in
    let behind = second.0.1 in
    let passed = test_gave {A = List ℕ × List ℕ} _ _ _ _ second.2 in
    let inside : len ≤ length behind = leb-true len (length behind) passed.0 in
    let key_bytes = key_spells all key end first.0 h first.1 in
    let len_bytes = varint_spells first.0 len end behind (bytes_back (varint key) first.0 (subst IsBytes key_bytes h)) second.1 in
    let front : take len behind ≡ bytes = ap (λ (p : List ℕ × List ℕ). p.0) passed.1 in
    let back : drop len behind ≡ rest = ap (λ (p : List ℕ × List ℕ). p.1) passed.1 in
    cut_whole all key len first.0 behind bytes rest inside key_bytes len_bytes.0 front back
  where
    cut_whole : (all : List ℕ) (key len : ℕ) (first behind bytes rest : List ℕ) → len ≤ length behind → all ≡ varint key ++ first
        → first ≡ varint len ++ behind → take len behind ≡ bytes → drop len behind ≡ rest → all ≡ keyed key bytes ++ rest
    cut_whole all key len first behind bytes rest inside a b front back =
        let count : length bytes ≡ len = rw (← front) (length-take-le len behind inside) in
        let joined : bytes ++ rest ≡ behind = rw (← front, ← back) (take-append-drop len behind) in
        a ∙ ap (λ (xs : List ℕ). varint key ++ xs) (b ∙ ap (λ (n : ℕ). varint n ++ behind) (sym count) ∙ ap (λ (xs : List ℕ). varint (length bytes) ++ xs) (sym joined))
        ∙ sym (append_assoc (varint key) (varint (length bytes)) (bytes ++ rest))
        ∙ sym (append_assoc (varint key ++ varint (length bytes)) bytes rest)

-- what is in a field of bytes are bytes
pub keyed_bytes : (key : ℕ) (bytes rest : List ℕ) → IsBytes (keyed key bytes ++ rest) → IsBytes bytes
keyed_bytes key bytes rest h = bytes_back (varint key ++ varint (length bytes)) bytes (bytes_front (keyed key bytes) rest h)
