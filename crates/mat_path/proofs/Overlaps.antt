-- Paths that overlap, paths that are apart, and paths above others.
use Rattle.std.proofs.Common.{◌≡◌, ℕ, Bool, true, false, not, ◌&&◌, ◌⊎◌, inl, inr, List, [], ◌∷◌, length, drop, refl, ap, ap₂, subst, ◌∙◌}
use Rattle.std.proofs.lemmas.Bool.{and_parts, and_from, both_ways, false_from_ne_true, not-true, or_cases, or_left}
use Rattle.mat_path.specs.Names.{same_name, same_names, is_prefix, overlap}
use Rattle.mat_path.proofs.PathLemmas.{overlap_comm, prefix-append_cases, prefix-refl, prefix-trans, prefix_split}
use Rattle.mat_path.proofs.SameNames.{same_name-Decides, same_names-eq, same_names-refl}

-- two paths that are prefixes of each other are equal
pub prefix-antisym : (p q : List (List ℕ)) → is_prefix p q ≡ true → is_prefix q p ≡ true → p ≡ q
prefix-antisym [] [] h k = refl
prefix-antisym [] (y ∷ q) h k = cc
prefix-antisym (x ∷ p) [] h k = cc
prefix-antisym (x ∷ p) (y ∷ q) h k =
    let here = and_parts (same_name x y) (is_prefix p q) h in
    let back = and_parts (same_name y x) (is_prefix q p) k in
    ap₂ (λ (n : List ℕ) (l : List (List ℕ)). n ∷ l) ((same_name-Decides x y).0 here.0) (prefix-antisym p q here.1 back.1)

-- two prefixes of one path overlap
pub overlap_of_prefixes : (p q x : List (List ℕ)) → is_prefix p x ≡ true → is_prefix q x ≡ true → overlap p q ≡ true
overlap_of_prefixes p q x h k =
    prefix-append_cases p q (drop (length q) x) (subst (λ (l : List (List ℕ)). is_prefix p l ≡ true) (prefix_split q x k) h)

-- a path overlaps itself
pub overlap-refl : (p : List (List ℕ)) → overlap p p ≡ true
overlap-refl p = or_left (is_prefix p p) (is_prefix p p) (prefix-refl p)

-- paths overlap either way round
pub overlap-sym : (p q : List (List ℕ)) (b : Bool) → overlap p q ≡ b → overlap q p ≡ b
overlap-sym p q b h = overlap_comm q p ∙ h

-- of two paths that overlap one is a prefix of the other
pub overlap_cases : (p q : List (List ℕ)) → overlap p q ≡ true → (is_prefix p q ≡ true) ⊎ (is_prefix q p ≡ true)
overlap_cases p q h = or_cases (is_prefix p q) (is_prefix q p) h

-- two paths that overlap are prefixes of one path
pub overlap_meets : (p q : List (List ℕ)) → overlap p q ≡ true → (x : List (List ℕ)) × (is_prefix p x ≡ true) × (is_prefix q x ≡ true)
overlap_meets p q h =
    elim (overlap_cases p q h) [
      | inl above ↦ (q, above, prefix-refl q)
      | inr below ↦ (p, prefix-refl p, below)
    ]

-- of two paths that are apart a path has one at most as its prefix
pub apart_of_prefixes : (p q x : List (List ℕ)) → overlap p q ≡ false → is_prefix p x ≡ true → is_prefix q x ≡ false
apart_of_prefixes p q x h above = false_from_ne_true (is_prefix q x) (λ k. both_ways (overlap p q) h (overlap_of_prefixes p q x above k))

-- what is at or below a path is apart from all that this is apart from
pub apart_below : (t k n : List (List ℕ)) → overlap t k ≡ false → is_prefix t n ≡ true → overlap n k ≡ false
apart_below t k n h below =
    false_from_ne_true (overlap n k)
    (λ meets. elim (overlap_cases n k meets) [
      | inl above ↦ both_ways (overlap t k) h (or_left (is_prefix t k) (is_prefix k t) (prefix-trans t n k below above))
      | inr under ↦ both_ways (overlap t k) h (overlap_of_prefixes t k n below under)
    ])

-- what is at or below two paths that are apart is apart too
pub apart_below_both : (p q x y : List (List ℕ)) → overlap p q ≡ false → is_prefix p x ≡ true → is_prefix q y ≡ true → overlap x y ≡ false
apart_below_both p q x y h below under =
    overlap-sym y x false (apart_below q x y (overlap-sym x q false (apart_below p q x h below)) under)

-- a path at or above one that is strictly above another is strictly above that too
pub above_stays : (c n k : List (List ℕ)) → is_prefix c n ≡ true → is_prefix n k ≡ true → same_names n k ≡ false →
    (is_prefix c k ≡ true) × (same_names c k ≡ false)
above_stays c n k h above other = (
  prefix-trans c n k h above,
  false_from_ne_true (same_names c k)
      (λ same.
      let back : is_prefix k n ≡ true = subst (λ (l : List (List ℕ)). is_prefix l n ≡ true) (same_names-eq c k same) h in
      both_ways (same_names n k) other (subst (λ (l : List (List ℕ)). same_names n l ≡ true) (prefix-antisym n k above back) (same_names-refl n))),
)

-- the same in one test
pub strictly_above_stays : (c n k : List (List ℕ)) → is_prefix c n ≡ true → (is_prefix n k && not (same_names n k)) ≡ true →
    (is_prefix c k && not (same_names c k)) ≡ true
strictly_above_stays c n k h above =
    let parts = and_parts (is_prefix n k) (not (same_names n k)) above in
    let stays = above_stays c n k h parts.0 (not-true (same_names n k) parts.1) in
    and_from (is_prefix c k) (not (same_names c k)) stays.0 (ap not stays.1)
