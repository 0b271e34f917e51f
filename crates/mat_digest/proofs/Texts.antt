-- How the text of a digest is put together.
use Rattle.std.proofs.Common.{◌≡◌, ℕ, ◌+◌, ◌<◌, List, [], ◌∷◌, ◌++◌, length, take, slice_set, ap, ◌∙◌, arith, length-append, append_assoc}
use borrow.Rule.Slice.PartMut.{put_mid}
use Rattle.std.proofs.lemmas.List.{length-set, take-append-le, take_all, take_more_set}
use Rattle.std.proofs.lemmas.Slice.{take-put_mid}

-- a hash in front, a colon after it, and the size in the part that follows
pub text_put : (hash rest size : List ℕ) (k n : ℕ) → length hash ≡ 64 → 0 < length rest → n ≡ 65 + length size
    → take n (put_mid 65 k (slice_set (hash ++ rest) 64 58) size) ≡ hash ++ 58 ∷ size
text_put hash rest size k n sized room whole =
    let len = length-append hash rest in
    let set = length-set (hash ++ rest) 64 58 in
    let colon = take_more_set (hash ++ rest) 64 58 (omega (arith, len)) in
    let front = take-append-le 64 hash rest (omega arith) in
    let all = take_all 64 hash (omega arith) in
    take-put_mid 65 k (slice_set (hash ++ rest) 64 58) size n whole (omega (arith, set, len))
    ∙ ap (λ (xs : List ℕ). xs ++ size) (colon ∙ ap (λ (xs : List ℕ). xs ++ 58 ∷ []) (front ∙ all))
    ∙ append_assoc hash (58 ∷ []) size
