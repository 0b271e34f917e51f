-- Equality and prefixes of paths.
use Rattle.std.proofs.lemmas.Bool.{both_ways}
use Rattle.std.proofs.Common.{◌≡◌, ◌≢◌, ℕ, true, false, ◌&&◌, List, [], ◌∷◌, ◌++◌, length, drop, refl, ap, sym, ◌∙◌}
use Rattle.std.specs.Bool.{Decides}
use Rattle.std.specs.Cmp.{unsigned_Decides}
use Rattle.std.specs.Cmp.Lexicographic.{pointwise_decides}
use Rattle.std.proofs.lemmas.Bool.Decides.{same_from_decides}
use Rattle.std.proofs.lemmas.List.{append-nil}
use Rattle.std.proofs.lemmas.Slice.Eq.{starts_is}
use Rattle.mat_path.specs.Names.{same_name, same_names, is_prefix}

-- the test of two names is true exactly where they are equal
pub same_name-Decides : (a b : List ℕ) → Decides (same_name a b) (a ≡ b)
same_name-Decides a b = pointwise_decides unsigned_Decides a b

-- the test of two lists of names is true exactly where they are equal
pub same_names-Decides : (p q : List (List ℕ)) → Decides (same_names p q) (p ≡ q)
same_names-Decides p q = pointwise_decides same_name-Decides p q

-- names with the same bytes are equal
pub same_name-eq : (a b : List ℕ) → same_name a b ≡ true → a ≡ b
same_name-eq a b h = (same_name-Decides a b).0 h

-- a name has the same bytes as itself
pub same_name-refl : (a : List ℕ) → same_name a a ≡ true
same_name-refl a = (same_name-Decides a a).1 refl

-- two names are the same either way round
pub same_name-sym : (a b : List ℕ) → same_name a b ≡ same_name b a
same_name-sym a b =
    same_from_decides (same_name a b) (same_name b a) (same_name-Decides a b)
    ((λ e. sym ((same_name-Decides b a).0 e)), λ e. (same_name-Decides b a).1 (sym e))

-- lists of the same names are equal
pub same_names-eq : (p q : List (List ℕ)) → same_names p q ≡ true → p ≡ q
same_names-eq p q h = (same_names-Decides p q).0 h

-- a list of names is the same as itself
pub same_names-refl : (p : List (List ℕ)) → same_names p p ≡ true
same_names-refl p = (same_names-Decides p p).1 refl

-- lists that are not the same are not equal
pub same_names_false : (p q : List (List ℕ)) → same_names p q ≡ false → p ≢ q
same_names_false p q h = λ e. both_ways (same_names p q) h ((same_names-Decides p q).1 e)

-- two lists of names are the same either way round
pub same_names-sym : (p q : List (List ℕ)) → same_names p q ≡ same_names q p
same_names-sym p q =
    same_from_decides (same_names p q) (same_names q p) (same_names-Decides p q)
    ((λ e. sym ((same_names-Decides q p).0 e)), λ e. (same_names-Decides q p).1 (sym e))

-- what stands behind the same names decides
pub same_names-behind : (place p q : List (List ℕ)) → same_names (place ++ p) (place ++ q) ≡ same_names p q
same_names-behind [] p q = refl
same_names-behind (name ∷ place) p q =
    ap (λ b. b && same_names (place ++ p) (place ++ q)) ((same_name-Decides name name).1 refl) ∙ same_names-behind place p q

-- what begins with a path is that path with more names behind it, and the other way round
pub is_prefix-Decides : (p q : List (List ℕ)) →
    (is_prefix p q ≡ true → q ≡ p ++ drop (length p) q) × ((rest : List (List ℕ)) → q ≡ p ++ rest → is_prefix p q ≡ true)
is_prefix-Decides p q = starts_is same_name-Decides q p (is_prefix p q) refl

-- a path is a prefix of one with the same names
pub is_prefix-refl : (p q : List (List ℕ)) → same_names q p ≡ true → is_prefix p q ≡ true
is_prefix-refl p q e = (is_prefix-Decides p q).1 [] ((same_names-Decides q p).0 e ∙ sym (append-nil p))
