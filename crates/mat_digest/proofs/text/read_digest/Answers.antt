use Rattle.std.proofs.Common.{◌≡◌, ℕ, ◌-◌, ◌==◌, nat_lt, if◌then◌else◌, true, false, List, length, take, drop, slice_index, Result, Ok, Err, sym, ◌∙◌, arith, length-drop}
use Rattle.std.proofs.lemmas.List.{take_all}
use Rattle.mat_digest.specs.Digests.{hash_end, hash_spelled, read_digest, size_written, with_size}
use Rattle.mat_digest.specs.declared.digest.Digest.{Digest}
use Rattle.mat_digest.specs.declared.digest.DigestRefusal.{DigestRefusal}
use Rattle.mat_digest.specs.declared.digest.DigestRefusal.TheVariants.{Colon, Hash}
use Rattle.mat_digest.proofs.text.read_digest.Goals as goal

-- what reading answers past the colon, where the hash was read
past_colon : (text rest hash : List ℕ) (r : Result Digest DigestRefusal)
    → Ok hash ≡ (if nat_lt (hash_end text) 64 then Err (Hash (hash_end text)) else Ok (hash_spelled (take 64 text)))
    → (slice_index text 64 == 58) ≡ true → rest ≡ drop 65 text → r ≡ with_size hash (size_written rest)
    → r ≡ read_digest text
unfolding read_digest
past_colon text rest hash r read colon same answer =
    elim (nat_lt (hash_end text) 64) as (λ b. Ok hash ≡ (if b then Err (Hash (hash_end text)) else Ok (hash_spelled (take 64 text)))
    → r ≡ (if b then Err (Hash (hash_end text)) else if slice_index text 64 == 58 then with_size (hash_spelled (take 64 text)) (size_written (drop 65 text)) else Err (Colon 64))) [
      | true ↦ λ e. cc e
      | false ↦ λ e.
          let spelled : hash ≡ hash_spelled (take 64 text) = cc e in
          rw (colon, ← same, ← spelled) answer
    ] read

pub returns : goal.returns
returns c =
    let text = c.args.text.now in
    past_colon text (take (length text - 65) (drop 65 text)) c.in_ok-hash.hash c.with_size.result c.in_ok-hash.ensures
    (sym c.has_colon.ensures ∙ c.if-not-has_colon.false) (take_all (length text - 65) (drop 65 text) (omega (arith, length-drop 65 text))) c.with_size.ensures
