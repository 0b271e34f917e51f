-- Digests that are the same.
use Rattle.std.proofs.Common.{◌≡◌, ◌==◌, ℕ, true, List, length, refl, ap₂, arith}
use Rattle.std.proofs.lemmas.Bool.{and_from, and_parts, eqb-true}
use Rattle.std.proofs.lemmas.Bool.Decides.{nat_tests}
use Rattle.mat_digest.specs.Digests.{digest_of}
use Rattle.mat_digest.specs.declared.digest.Digest.{Digest}
use Rattle.mat_path.proofs.SameNames.{same_name-eq, same_name-refl}
use Rattle.mat_path.specs.Names.{same_name}
use Rattle.mat_tree.specs.Trees.{same_digest}

pub same_digest-eq : (a b : Digest) → same_digest a b ≡ true → a ≡ b
same_digest-eq a b same =
    let parts = and_parts (same_name a.hash b.hash) (a.size == b.size) same in
    ap₂ (λ (h : List ℕ) (n : ℕ). record { hash = h; size = n }) (same_name-eq a.hash b.hash parts.0) (eqb-true a.size b.size parts.1)

pub same_digest-refl : (a : Digest) → same_digest a a ≡ true
same_digest-refl a = and_from (same_name a.hash a.hash) (a.size == a.size) (same_name-refl a.hash) (same_size a.size)
  where
    same_size : (n : ℕ) → (n == n) ≡ true
    same_size n = grind (arith, nat_tests)

-- the size of the digest of some bytes is their number
pub digest_of-size : (bytes : List ℕ) → (digest_of bytes).size ≡ length bytes
unfolding digest_of
digest_of-size bytes = refl
