-- Lists of names as paths: prefixes, overlap, the order.
use Rattle.mat_path.proofs.SameNames.{is_prefix-Decides, same_name-refl, same_names-eq}
use Rattle.std.proofs.Common.{◌≡◌, ℕ, Bool, true, false, ◌||◌, ◌&&◌, if◌then◌else◌, ◌⊎◌, inl, inr, List, [], ◌∷◌, ◌++◌, length, drop, Some, None, Ordering, Less, Equal, Greater, is_eq, refl, sym, ap, ap₂, ◌∙◌, subst, append_assoc, append-nil, drop_at}
use Rattle.std.specs.Cmp.{IsTotalOrder}
use Rattle.std.specs.Cmp.Lexicographic.{texts_ties}
use Rattle.std.specs.Ordering.{is_lt, ordering_then}
use Rattle.std.proofs.lemmas.Bool.{both_ways, or_parts, or_left, or_right}
use Rattle.std.proofs.lemmas.Cmp.{nat_list_cmp_total, lists_total, tied_itself}
use Rattle.std.proofs.lemmas.Slice.Eq.{bytes_eq-Decides}
use Rattle.mat_path.specs.Names.{is_prefix, overlap, rest_below, name_cmp, path_cmp}
use Rattle.mat_path.specs.Order.{same_names_ties}

-- a path is its prefix and then the names behind that
pub prefix_split : (p q : List (List ℕ)) → is_prefix p q ≡ true → q ≡ p ++ drop (length p) q
prefix_split p q h = (is_prefix-Decides p q).0 h

-- a path is a prefix of itself with more names behind it
pub prefix-append : (p r : List (List ℕ)) → is_prefix p (p ++ r) ≡ true
prefix-append p r = (is_prefix-Decides p (p ++ r)).1 r refl

-- a path is a prefix of itself
pub prefix-refl : (p : List (List ℕ)) → is_prefix p p ≡ true
prefix-refl p = (is_prefix-Decides p p).1 [] (sym (append-nil p))

-- a prefix of a path is a prefix of all that this path is a prefix of
pub prefix-trans : (p q r : List (List ℕ)) → is_prefix p q ≡ true → is_prefix q r ≡ true → is_prefix p r ≡ true
prefix-trans p q r h k =
    (is_prefix-Decides p r).1 (drop (length p) q ++ drop (length q) r)
    (prefix_split q r k
    ∙ ap (λ (l : List (List ℕ)). l ++ drop (length q) r) (prefix_split p q h)
    ∙ append_assoc p (drop (length p) q) (drop (length q) r))

-- of two fronts of one list one begins the other
abbrev OneBegins : List (List ℕ) → List (List ℕ) → Type 0
OneBegins p q = ((e : List (List ℕ)) × (q ≡ p ++ e)) ⊎ ((e : List (List ℕ)) × (p ≡ q ++ e))

fronts : (p q d r : List (List ℕ)) → p ++ d ≡ q ++ r → OneBegins p q
fronts [] q d r h = inl (q, refl)
fronts (x ∷ p) [] d r h = inr (x ∷ p, refl)
fronts (x ∷ p) (y ∷ q) d r h =
    let head : x ≡ y = cc in
    let tail : p ++ d ≡ q ++ r = cc in
    elim (fronts p q d r tail) [
      | inl w ↦ inl (w.0, ap₂ (λ (n : List ℕ) (l : List (List ℕ)). n ∷ l) (sym head) w.1)
      | inr w ↦ inr (w.0, ap₂ (λ (n : List ℕ) (l : List (List ℕ)). n ∷ l) head w.1)
    ]

-- a prefix of a path with more names behind it overlaps that path
pub prefix-append_cases : (p q r : List (List ℕ)) → is_prefix p (q ++ r) ≡ true → overlap p q ≡ true
prefix-append_cases p q r h =
    elim (fronts p q (drop (length p) (q ++ r)) r (sym (prefix_split p (q ++ r) h))) [
      | inl w ↦ or_left (is_prefix p q) (is_prefix q p) ((is_prefix-Decides p q).1 w.0 w.1)
      | inr w ↦ or_right (is_prefix p q) (is_prefix q p) ((is_prefix-Decides q p).1 w.0 w.1)
    ]

-- whether two paths overlap is the same either way round
pub overlap_comm : (p q : List (List ℕ)) → overlap p q ≡ overlap q p
overlap_comm p q = or_comm (is_prefix p q) (is_prefix q p)
  where
    or_comm : (x y : Bool) → (x || y) ≡ (y || x)
    or_comm true true = refl
    or_comm true false = refl
    or_comm false true = refl
    or_comm false false = refl

-- behind a path, what follows it in a longer one is the rest
pub rest_below-append : (p r : List (List ℕ)) → rest_below p (p ++ r) ≡ Some r
rest_below-append p r =
    ap (λ (t : Bool). if t then Some (drop (length p) (p ++ r)) else None) (prefix-append p r)
    ∙ ap (λ (l : List (List ℕ)). Some l) (drop_at p r (length p) refl)

-- the order of paths is total
pub path_cmp_total : IsTotalOrder path_cmp
path_cmp_total = lists_total nat_list_cmp_total

-- paths of which neither comes before the other are equal
pub path_cmp_equal : (p q : List (List ℕ)) → path_cmp p q ≡ Equal → p ≡ q
path_cmp_equal p q h = same_names-eq p q (same_names_ties p q ∙ ap is_eq h)

-- an answer that says less is Less
pub lt_less : (o : Ordering) → is_lt o ≡ true → o ≡ Less
lt_less Less e = refl
lt_less Equal e = cc
lt_less Greater e = cc

-- a name is neither before nor after itself
pub name_cmp-refl : (a : List ℕ) → name_cmp a a ≡ Equal
name_cmp-refl a = tied_itself nat_list_cmp_total a

-- a path is neither before nor after itself
pub path_cmp-refl : (p : List (List ℕ)) → path_cmp p p ≡ Equal
path_cmp-refl p = tied_itself path_cmp_total p

-- what stands before two paths does not change their order
pub path_cmp-append : (p r s : List (List ℕ)) → path_cmp (p ++ r) (p ++ s) ≡ path_cmp r s
path_cmp-append [] r s = refl
path_cmp-append (x ∷ p) r s = ap₂ ordering_then (name_cmp-refl x) (path_cmp-append p r s)

-- a list of names is not greater than one that it begins
pub prefix_not_greater : (p q : List (List ℕ)) → is_prefix p q ≡ true → (path_cmp p q ≡ Less) ⊎ (path_cmp p q ≡ Equal)
prefix_not_greater p q h =
    subst (λ (o : Ordering). (o ≡ Less) ⊎ (o ≡ Equal))
    (sym (ap₂ path_cmp (sym (append-nil p)) (prefix_split p q h) ∙ path_cmp-append p [] (drop (length p) q)))
    (nothing_first (drop (length p) q))
  where
    nothing_first : (l : List (List ℕ)) → (path_cmp [] l ≡ Less) ⊎ (path_cmp [] l ≡ Equal)
    nothing_first [] = inr refl
    nothing_first (x ∷ l) = inl refl

-- how a pair of answers comes to Less
less_from : (o c : Ordering) → ordering_then o c ≡ Less → (o ≡ Less) ⊎ ((o ≡ Equal) × (c ≡ Less))
less_from Less c h = inl refl
less_from Equal c h = inr (refl, h)
less_from Greater c h = absurd cc

prefix_cons : (x : List ℕ) (p q : List (List ℕ)) → is_prefix (x ∷ p) (x ∷ q) ≡ is_prefix p q
prefix_cons x p q = ap (λ (t : Bool). t && is_prefix p q) (same_name-refl x)

overlap_cons : (x : List ℕ) (p q : List (List ℕ)) → overlap (x ∷ p) (x ∷ q) ≡ overlap p q
overlap_cons x p q = ap₂ (λ (s t : Bool). s || t) (prefix_cons x p q) (prefix_cons x q p)

-- of two lists that don't overlap the lesser stays the lesser, whatever follows each
pub before_apart : (p q : List (List ℕ)) → path_cmp p q ≡ Less → overlap p q ≡ false → (r s : List (List ℕ)) → path_cmp (p ++ r) (q ++ s) ≡ Less
before_apart [] q less apart r s = absurd (both_ways (is_prefix [] q) (or_parts (is_prefix [] q) (is_prefix q []) apart).0 (prefix-append [] q))
before_apart (x ∷ p) [] less apart r s = absurd cc
before_apart (x ∷ p) (y ∷ q) less apart r s =
    elim (less_from (name_cmp x y) (path_cmp p q) less) [
      | inl first ↦ ap (λ (o : Ordering). ordering_then o (path_cmp (p ++ r) (q ++ s))) first
      | inr tied ↦
          let same : x ≡ y = name_equal x y tied.0 in
          let below : overlap p q ≡ false = sym (overlap_cons x p q) ∙ subst (λ (n : List ℕ). overlap (x ∷ p) (n ∷ q) ≡ false) (sym same) apart in
          ap₂ ordering_then tied.0 (before_apart p q tied.1 below r s)
    ]
  where
    name_equal : (x y : List ℕ) → name_cmp x y ≡ Equal → x ≡ y
    name_equal x y h = (bytes_eq-Decides x y).0 (texts_ties x y ∙ ap is_eq h)
