-- A field that is read is the field that was written, and what was written is read again.
use Rattle.std.proofs.Common.{◌≡◌, ℕ, suc, zero, ◌+◌, ◌^◌, ◌<◌, ◌≤◌, Bool, true, false, cond, ltb, leb, nat_le, nat_lt, List, [], ◌∷◌, ◌++◌, length, get_or, take, drop, Option, Some, None, Result, Ok, Err, refl, sym, ap, subst, ◌∙◌, append_assoc, arith, inl, inr}
use Rattle.std.specs.Int.{Width, w16, w32, w64, byte_len, from_be_bytes, to_be_bytes}
use Rattle.std.proofs.lemmas.Bool.{cases_lt, ltb-false, le-ltb, le-leb, leb-true}
use Rattle.std.proofs.lemmas.List.{take_at, drop_at, take-append-drop, length-append, length-take, get_or-drop, get_or-take, get_or_past}
use Rattle.std.proofs.lemmas.Nat.{be_bytes_2, be_bytes_4, be_bytes_8, from_be_bytes-to_be_bytes_2, from_be_bytes-to_be_bytes_4, from_be_bytes-to_be_bytes_8}
use Rattle.mat_digest.specs.Digests.{IsDigest}
use Rattle.mat_digest.specs.declared.digest.Digest.{Digest}
use Rattle.mat_tree.specs.Trees.{greatest_file}
use Rattle.row_bytes.specs.Rows.{file_bytes, sized}
use Rattle.row_bytes.specs.Reading.{◌>>=◌, Field, Read, cut_at, digest_at, fitting, number_at, number_within, place, text_at}

abbrev pub IsBytes : List ℕ → Type 0
IsBytes bytes = (i : ℕ) → get_or bytes i 0 < 256

pub IsBytes-drop : (n : ℕ) (bytes : List ℕ) → IsBytes bytes → IsBytes (drop n bytes)
IsBytes-drop n bytes h i = rw get_or-drop (h (n + i))

pub IsBytes-take : (n : ℕ) (bytes : List ℕ) → IsBytes bytes → IsBytes (take n bytes)
IsBytes-take n bytes h i =
    elim (cases_lt i n) [
      | inl lt ↦ rw (get_or-take n bytes i 0 lt) (h i)
      | inr le ↦ rw (get_or_past (take n bytes) i 0 (omega (arith, length-take n bytes))) (omega arith)
    ]

pub IsBytes-rest : (b : ℕ) (bytes : List ℕ) → IsBytes (b ∷ bytes) → IsBytes bytes
IsBytes-rest b bytes h i = h (suc i)

-- ---- steps

-- the value of a step that gave one
pub bind_ok : {A B : Type 0} (r : Read A) (f : A → Read B) (y : B) → (r >>= f) ≡ Ok y → (x : A) × (r ≡ Ok x) × (f x ≡ Ok y)
bind_ok (Ok x) f y e = (x, refl, e)
bind_ok (Err d) f y e = absurd cc

-- a test before a fault, and a test before a value
pub guard_ok : {A : Type 0} (b : Bool) (d : ℕ) (x y : A) → cond b (Err d) (Ok x) ≡ Ok y → (b ≡ false) × (x ≡ y)
guard_ok true d x y e = absurd cc
guard_ok false d x y e = (refl, cc)

pub passed : {A : Type 0} (b : Bool) (d : ℕ) (x y : A) → cond b (Ok x) (Err d) ≡ Ok y → (b ≡ true) × (x ≡ y)
passed true d x y e = (refl, cc)
passed false d x y e = absurd cc

pub fitted : {A : Type 0} (at : ℕ) (o : Option A) (x : A) → fitting at o ≡ Ok x → o ≡ Some x
fitted at None x e = absurd cc
fitted at (Some y) x e = cc

abbrev done : {A : Type 0} → A → Read A
done x = Ok x

pub ok_is : {A : Type 0} (x y : A) → done x ≡ done y → x ≡ y
ok_is x y e = cc

-- what a reader took from the front
pub record Takes (bytes text rest : List ℕ) : Type 0 where
  pub parts : bytes ≡ text ++ rest
  pub rest_fits : IsBytes rest

pub Takes-then : (a x b y c : List ℕ) → Takes a x b → Takes b y c → Takes a (x ++ y) c
Takes-then a x b y c p q = record { parts = p.parts ∙ ap (λ (t : List ℕ). x ++ t) q.parts ∙ sym (append_assoc x y c); rest_fits = q.rest_fits }

-- ---- numbers

pub record IsWide (w : Width) (limit : ℕ) : Type 0 where
  pub len : (n : ℕ) → length (to_be_bytes w n) ≡ byte_len w
  pub back : (bytes : List ℕ) → length bytes ≡ byte_len w → IsBytes bytes → to_be_bytes w (from_be_bytes w bytes) ≡ bytes
  pub again : (n : ℕ) → n < limit → from_be_bytes w (to_be_bytes w n) ≡ n
  pub below : (bytes : List ℕ) → IsBytes bytes → from_be_bytes w bytes < limit

pub wide16 : IsWide w16 (2 ^ 16)
wide16 = record {
  len = λ n. refl;
  back = λ bytes len fits. be_bytes_2 bytes _ len fits refl;
  again = λ n lt. from_be_bytes-to_be_bytes_2 n lt;
  below = λ bytes fits. omega (arith, fits 0, fits 1);
}

pub wide32 : IsWide w32 (2 ^ 32)
wide32 = record {
  len = λ n. refl;
  back = λ bytes len fits. be_bytes_4 bytes _ len fits refl;
  again = λ n lt. from_be_bytes-to_be_bytes_4 n lt;
  below = λ bytes fits. omega (arith, fits 0, fits 1, fits 2, fits 3);
}

pub wide64 : IsWide w64 (2 ^ 64)
wide64 = record {
  len = λ n. refl;
  back = λ bytes len fits. be_bytes_8 bytes _ len fits refl;
  again = λ n lt. from_be_bytes-to_be_bytes_8 n lt;
  below = λ bytes fits. omega (arith, fits 0, fits 1, fits 2, fits 3, fits 4, fits 5, fits 6, fits 7);
}

pub number_takes : (w : Width) (limit : ℕ) (wide : IsWide w limit) (end : ℕ) (bytes : List ℕ) (n : ℕ) (rest : List ℕ) → IsBytes bytes
    → number_at w end bytes ≡ Ok (n, rest) → Takes bytes (to_be_bytes w n) rest × (n < limit)
number_takes w limit wide end bytes n rest fits e =
    let g = guard_ok (ltb (length bytes) (byte_len w)) (place end bytes) (from_be_bytes w (take (byte_len w) bytes), drop (byte_len w) bytes) (n, rest) e in
    let long : byte_len w ≤ length bytes = ltb-false _ _ g.0 in
    let n-is : from_be_bytes w (take (byte_len w) bytes) ≡ n = ap (λ (p : ℕ × List ℕ). p.0) g.1 in
    let rest-is : drop (byte_len w) bytes ≡ rest = ap (λ (p : ℕ × List ℕ). p.1) g.1 in
    let front : to_be_bytes w n ≡ take (byte_len w) bytes = rw (← n-is) (wide.back (take (byte_len w) bytes) (omega (arith, length-take (byte_len w) bytes)) (IsBytes-take (byte_len w) bytes fits)) in (
      record { parts = rw (front, ← rest-is) (sym (take-append-drop (byte_len w) bytes)); rest_fits = rw (← rest-is) (IsBytes-drop (byte_len w) bytes fits) },
      rw (← n-is) (wide.below (take (byte_len w) bytes) (IsBytes-take (byte_len w) bytes fits)),
    )

pub number_again : (w : Width) (limit : ℕ) (wide : IsWide w limit) (end n : ℕ) (rest : List ℕ) → n < limit → number_at w end (to_be_bytes w n ++ rest) ≡ Ok (n, rest)
number_again w limit wide end n rest lt =
    let len = wide.len n in
    let long : ltb (length (to_be_bytes w n ++ rest)) (byte_len w) ≡ false = le-ltb _ _ (omega (arith, length-append (to_be_bytes w n) rest)) in
    rw (long, take_at (to_be_bytes w n) rest (byte_len w) len, drop_at (to_be_bytes w n) rest (byte_len w) len, wide.again n lt) refl

pub within_takes : (most : ℕ) (w : Width) (limit : ℕ) (wide : IsWide w limit) (end : ℕ) (bytes : List ℕ) (x : ℕ × List ℕ) → IsBytes bytes
    → number_within most w end bytes ≡ Ok x → Takes bytes (to_be_bytes w x.0) x.1 × (x.0 ≤ most)
unfolding number_within
within_takes most w limit wide end bytes x fits e =
    let a = bind_ok (number_at w end bytes) (λ number. cond (leb number.0 most) (Ok number) (Err (place end bytes))) x e in
    let g = passed (leb a.0.0 most) (place end bytes) a.0 x a.2 in
    let t = number_takes w limit wide end bytes a.0.0 a.0.1 fits a.1 in
    subst (λ (y : ℕ × List ℕ). Takes bytes (to_be_bytes w y.0) y.1 × (y.0 ≤ most)) g.1 (t.0, leb-true a.0.0 most g.0)

pub within_again : (most : ℕ) (w : Width) (limit : ℕ) (wide : IsWide w limit) (end n : ℕ) (rest : List ℕ) → n < limit → n ≤ most
    → number_within most w end (to_be_bytes w n ++ rest) ≡ Ok (n, rest)
unfolding number_within
within_again most w limit wide end n rest lt le =
    let test : leb n most ≡ true = le-leb n most le in
    rw (number_again w limit wide end n rest lt, test) refl

-- ---- texts

pub cut_takes : (n end : ℕ) (bytes : List ℕ) (x : List ℕ × List ℕ) → IsBytes bytes → cut_at n end bytes ≡ Ok x → Takes bytes x.0 x.1 × (length x.0 ≡ n) × IsBytes x.0
cut_takes n end bytes x fits e =
    let g = guard_ok (ltb (length bytes) n) (place end bytes) (take n bytes, drop n bytes) x e in
    let long : n ≤ length bytes = ltb-false _ _ g.0 in
    let len : length (take n bytes) ≡ n = omega (arith, length-take n bytes) in
    subst (λ (p : List ℕ × List ℕ). Takes bytes p.0 p.1 × (length p.0 ≡ n) × IsBytes p.0) g.1
    (record { parts = sym (take-append-drop n bytes); rest_fits = IsBytes-drop n bytes fits }, len, IsBytes-take n bytes fits)

pub cut_again : (n end : ℕ) (text rest : List ℕ) → length text ≡ n → cut_at n end (text ++ rest) ≡ Ok (text, rest)
cut_again n end text rest len =
    let long : ltb (length (text ++ rest)) n ≡ false = le-ltb _ _ (omega (arith, length-append text rest)) in
    rw (long, take_at text rest n len, drop_at text rest n len) refl

pub text_takes : (end : ℕ) (bytes : List ℕ) (x : List ℕ × List ℕ) → IsBytes bytes → text_at end bytes ≡ Ok x → Takes bytes (sized x.0) x.1
unfolding text_at
text_takes end bytes x fits e =
    let b = bind_ok (number_at w16 end bytes) (λ len. cut_at len.0 end len.1) x e in
    let t = number_takes w16 (2 ^ 16) wide16 end bytes b.0.0 b.0.1 fits b.1 in
    let c = cut_takes b.0.0 end b.0.1 x t.0.rest_fits b.2 in
    let both = Takes-then bytes (to_be_bytes w16 b.0.0) b.0.1 x.0 x.1 t.0 c.0 in
    subst (λ (k : ℕ). Takes bytes (to_be_bytes w16 k ++ x.0) x.1) (sym c.1) both

pub text_again : (end : ℕ) (text rest : List ℕ) → length text < 2 ^ 16 → text_at end (sized text ++ rest) ≡ Ok (text, rest)
unfolding text_at
text_again end text rest lt =
    rw (number_again w16 (2 ^ 16) wide16 end (length text) (text ++ rest) lt, cut_again (length text) end text rest refl) refl

-- ---- files

pub digest_takes : (end : ℕ) (bytes : List ℕ) (x : Digest × List ℕ) → IsBytes bytes → digest_at end bytes ≡ Ok x
    → Takes bytes (file_bytes x.0) x.1 × IsDigest x.0 × (x.0.size ≤ greatest_file)
unfolding digest_at
digest_takes end bytes x fits e =
    let a = bind_ok (cut_at 32 end bytes) (λ hash. number_within greatest_file w64 end hash.1 >>= λ size. Ok (record { hash = hash.0; size = size.0 }, size.1)) x e in
    let b = bind_ok (number_within greatest_file w64 end a.0.1) (λ size. Ok (record { hash = a.0.0; size = size.0 }, size.1)) x a.2 in
    let t0 = cut_takes 32 end bytes a.0 fits a.1 in
    let t1 = within_takes greatest_file w64 (2 ^ 64) wide64 end a.0.1 b.0 t0.0.rest_fits b.1 in
    let both = Takes-then bytes a.0.0 a.0.1 (to_be_bytes w64 b.0.0) b.0.1 t0.0 t1.0 in
    let digest : Digest = record { hash = a.0.0; size = b.0.0 } in
    let made : Digest × List ℕ = (digest, b.0.1) in
    subst (λ (y : Digest × List ℕ). Takes bytes (file_bytes y.0) y.1 × IsDigest y.0 × (y.0.size ≤ greatest_file)) (ok_is made x b.2)
    (both, record { hash_len = t0.1; hash_bytes = t0.2; size_fits = omega (arith, t1.1) }, t1.1)

pub digest_again : (end : ℕ) (digest : Digest) (rest : List ℕ) → IsDigest digest → digest.size ≤ greatest_file
    → digest_at end (file_bytes digest ++ rest) ≡ Ok (digest, rest)
unfolding digest_at
digest_again end digest rest h small =
    let split : file_bytes digest ++ rest ≡ digest.hash ++ (to_be_bytes w64 digest.size ++ rest) = append_assoc digest.hash (to_be_bytes w64 digest.size) rest in
    rw (
      split,
      cut_again 32 end digest.hash (to_be_bytes w64 digest.size ++ rest) h.hash_len,
      within_again greatest_file w64 (2 ^ 64) wide64 end digest.size rest h.size_fits small,
    ) refl
