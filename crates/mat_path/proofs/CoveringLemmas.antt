-- How often a path is covered: lists put together, cut and renamed, and lists whose paths are apart.
use Rattle.std.proofs.Common.{◌≡◌, ℕ, ◌+◌, ◌≤◌, Bool, true, false, not, ◌||◌, cond, inl, inr, List, [], ◌∷◌, ◌++◌, length, refl, sym, ap, subst, ◌∙◌, map, Contains, arith}
use Rattle.std.specs.List.{filter, list_any}
use Rattle.std.proofs.lemmas.Bool.{both_ways, false_from_ne_true, or_cases, or_from, or_parts, or_right, true_from_ne_false}
use Rattle.std.proofs.lemmas.List.Folds.{list_any-append}
use Rattle.mat_path.specs.Covering.{covering, is_other_path}
use Rattle.mat_path.specs.Names.{same_names, is_prefix, overlap}
use Rattle.mat_path.proofs.Elements.{contains_cases, contains_filter, contains_first, contains_more, each_fails}
use Rattle.mat_path.proofs.Overlaps.{apart_of_prefixes, overlap_meets}
use Rattle.mat_path.proofs.PathLemmas.{prefix-trans}
use Rattle.mat_path.proofs.SameNames.{same_names-Decides, same_names-eq, same_names-refl}

-- two paths of which each is a prefix where the other is count the same
pub counts_same : (p q x : List (List ℕ)) → is_prefix p x ≡ is_prefix q x → ◌≡◌ {A = ℕ} (cond (is_prefix p x) 1 0) (cond (is_prefix q x) 1 0)
counts_same p q x h = ap (λ (b : Bool). cond b 1 0) h

-- a prefix counts one
one : (p x : List (List ℕ)) → is_prefix p x ≡ true → ◌≡◌ {A = ℕ} (cond (is_prefix p x) 1 0) 1
one p x h = ap (λ (b : Bool). cond b 1 0) h

-- and what is no prefix counts nothing
nothing : (p x : List (List ℕ)) → is_prefix p x ≡ false → ◌≡◌ {A = ℕ} (cond (is_prefix p x) 1 0) 0
nothing p x h = ap (λ (b : Bool). cond b 1 0) h

-- the paths of two lists count together
pub covering-append : (x : List (List ℕ)) (ps qs : List (List (List ℕ))) → covering x (ps ++ qs) ≡ covering x ps + covering x qs
covering-append x [] qs = omega arith
covering-append x (p ∷ ps) qs = omega (arith, covering-append x ps qs)

-- a path more at the end
pub covering-push : (x : List (List ℕ)) (ps : List (List (List ℕ))) (p : List (List ℕ)) → covering x (ps ++ p ∷ []) ≡ covering x ps + cond (is_prefix p x) 1 0
covering-push x [] p = omega arith
covering-push x (first ∷ ps) p = omega (arith, covering-push x ps p)

-- a path more, anywhere
pub covering-insert : (x : List (List ℕ)) (ps : List (List (List ℕ))) (p : List (List ℕ)) (qs : List (List (List ℕ))) →
    covering x (ps ++ p ∷ qs) ≡ covering x (ps ++ qs) + cond (is_prefix p x) 1 0
covering-insert x [] p qs = omega arith
covering-insert x (first ∷ ps) p qs = omega (arith, covering-insert x ps p qs)

-- the order of two lists makes no difference
pub covering-swap : (x : List (List ℕ)) (ps qs : List (List (List ℕ))) → covering x (ps ++ qs) ≡ covering x (qs ++ ps)
covering-swap x ps qs = omega (arith, covering-append x ps qs, covering-append x qs ps)

-- those that pass a test and those that don't count together
pub covering-split : (test : List (List ℕ) → Bool) (x : List (List ℕ)) (ps : List (List (List ℕ))) →
    covering x ps ≡ covering x (filter test ps) + covering x (filter (λ p. not (test p)) ps)
covering-split test x [] = omega arith
covering-split test x (p ∷ ps) = by (test p) (covering-split test x ps)
  where
    by : (b : Bool) → covering x ps ≡ covering x (filter test ps) + covering x (filter (λ p. not (test p)) ps) →
        cond (is_prefix p x) 1 0 + covering x ps
        ≡ covering x (cond b (p ∷ filter test ps) (filter test ps))
        + covering x (cond (not b) (p ∷ filter (λ p. not (test p)) ps) (filter (λ p. not (test p)) ps))
    by true e = omega arith
    by false e = omega arith

-- those that pass a test are no more than all
pub covering-filter : (test : List (List ℕ) → Bool) (x : List (List ℕ)) (ps : List (List (List ℕ))) → covering x (filter test ps) ≤ covering x ps
covering-filter test x ps = omega (arith, covering-split test x ps)

-- paths that a function changes count the same where each is a prefix as before
pub covering-map : (f : List (List ℕ) → List (List ℕ)) (x : List (List ℕ)) (ps : List (List (List ℕ))) →
    ((p : List (List ℕ)) → Contains ps p → is_prefix (f p) x ≡ is_prefix p x) → covering x (map f ps) ≡ covering x ps
covering-map f x [] keeps = refl
covering-map f x (p ∷ ps) keeps =
    omega (arith, counts_same (f p) p x (keeps p (contains_first p ps)), covering-map f x ps (λ q among. keeps q (contains_more p ps q among)))

-- a path that is among some counts where it is a prefix
pub covering_among : (p x : List (List ℕ)) (ps : List (List (List ℕ))) → Contains ps p → cond (is_prefix p x) 1 0 ≤ covering x ps
covering_among p x [] (k, within, at) = absurd (omega arith)
covering_among p x (q ∷ ps) among =
    elim (contains_cases q ps p among) [
      | inl same ↦ omega (arith, counts_same q p x (ap (λ (l : List (List ℕ)). is_prefix l x) same))
      | inr later ↦ omega (arith, covering_among p x ps later)
    ]

-- a path at or below one of some is covered
pub covered_below : (p x : List (List ℕ)) (ps : List (List (List ℕ))) → Contains ps p → is_prefix p x ≡ true → 1 ≤ covering x ps
covered_below p x ps among h = omega (arith, covering_among p x ps among, one p x h)

-- a path that is below none of some is covered by none
pub covering_none : (x : List (List ℕ)) (ps : List (List (List ℕ))) → ((p : List (List ℕ)) → Contains ps p → is_prefix p x ≡ false) → covering x ps ≡ 0
covering_none x [] none = refl
covering_none x (p ∷ ps) none =
    omega (arith, nothing p x (none p (contains_first p ps)), covering_none x ps (λ q among. none q (contains_more p ps q among)))

-- a path that isn't covered is below none
pub not_covered : (p x : List (List ℕ)) (ps : List (List (List ℕ))) → covering x ps ≡ 0 → Contains ps p → is_prefix p x ≡ false
not_covered p x ps none among = false_from_ne_true (is_prefix p x) (λ h. omega (arith, covered_below p x ps among h))

-- a path that is covered is at or below one of the paths
pub covered_by : (x : List (List ℕ)) (ps : List (List (List ℕ))) → 1 ≤ covering x ps → (p : List (List ℕ)) × Contains ps p × (is_prefix p x ≡ true)
covered_by x [] some = absurd (omega arith)
covered_by x (p ∷ ps) some = by (is_prefix p x) refl some (covered_by x ps)
  where
    by : (b : Bool) → is_prefix p x ≡ b → 1 ≤ cond b 1 0 + covering x ps →
        (1 ≤ covering x ps → (q : List (List ℕ)) × Contains ps q × (is_prefix q x ≡ true)) →
        (q : List (List ℕ)) × Contains (p ∷ ps) q × (is_prefix q x ≡ true)
    by true h most rest = (p, contains_first p ps, h)
    by false h most rest = let found = rest (omega arith) in (found.0, contains_more p ps found.0 found.1, found.2)

-- what is below a path is covered as often at least
pub covering-below : (x y : List (List ℕ)) (ps : List (List (List ℕ))) → is_prefix x y ≡ true → covering x ps ≤ covering y ps
covering-below x y [] below = omega arith
covering-below x y (p ∷ ps) below = by (is_prefix p x) refl (covering-below x y ps below)
  where
    by : (b : Bool) → is_prefix p x ≡ b → covering x ps ≤ covering y ps → cond b 1 0 + covering x ps ≤ cond (is_prefix p y) 1 0 + covering y ps
    by true h e = omega (arith, one p y (prefix-trans p x y h below))
    by false h e = omega arith

-- where two lists together cover no path twice, each path of one is apart from each of the other
pub apart_across : (ps qs : List (List (List ℕ))) → ((x : List (List ℕ)) → covering x ps + covering x qs ≤ 1) →
    (p q : List (List ℕ)) → Contains ps p → Contains qs q → overlap p q ≡ false
apart_across ps qs most p q among others =
    false_from_ne_true (overlap p q)
    (λ meets.
    let place = overlap_meets p q meets in
    omega (arith, most place.0, covered_below p place.0 ps among place.1, covered_below q place.0 qs others place.2))

-- where no path is covered twice, the first path overlaps none of the others
pub covering-head : (p : List (List ℕ)) (ps : List (List (List ℕ))) → ((x : List (List ℕ)) → covering x (p ∷ ps) ≤ 1) → list_any (overlap p) ps ≡ false
covering-head p [] most = refl
covering-head p (q ∷ ps) most =
    or_from (overlap p q) (list_any (overlap p) ps)
    (apart_across (p ∷ []) (q ∷ ps) (λ x. omega (arith, most x)) p q (contains_first p []) (contains_first q ps))
    (covering-head p ps (λ x. omega (arith, most x)))

-- where two lists together cover no path twice, a path of one overlaps none of the other
pub none_across : (ps qs : List (List (List ℕ))) → ((x : List (List ℕ)) → covering x ps + covering x qs ≤ 1) →
    (p : List (List ℕ)) → Contains ps p → list_any (overlap p) qs ≡ false
none_across ps qs most p among = covering-head p qs (λ x. omega (arith, most x, covering_among p x ps among))

-- where no path is covered twice, two different paths are apart
pub apart_within : (ps : List (List (List ℕ))) → ((x : List (List ℕ)) → covering x ps ≤ 1) →
    (p q : List (List ℕ)) → Contains ps p → Contains ps q → same_names p q ≡ false → overlap p q ≡ false
apart_within ps most p q among others differ =
    apart_across (filter (same_names p) ps) (filter (λ l. not (same_names p l)) ps)
    (λ x. omega (arith, most x, covering-split (same_names p) x ps))
    p q (contains_filter (same_names p) ps p ((same_names-Decides p p).1 refl) among)
    (contains_filter (λ l. not (same_names p l)) ps q (ap not differ) others)

-- where no path is covered twice, none is by the others
pub covering-tail : (p : List (List ℕ)) (ps : List (List (List ℕ))) → ((x : List (List ℕ)) → covering x (p ∷ ps) ≤ 1) →
    (x : List (List ℕ)) → covering x ps ≤ 1
covering-tail p ps most x = omega (arith, most x)

-- where no path is covered twice, a path anywhere overlaps none of those around it
pub covering-around : (ps : List (List (List ℕ))) (p : List (List ℕ)) (qs : List (List (List ℕ))) →
    ((x : List (List ℕ)) → covering x (ps ++ p ∷ qs) ≤ 1) → list_any (overlap p) (ps ++ qs) ≡ false
covering-around ps p qs most = covering-head p (ps ++ qs) (λ x. omega (arith, most x, covering-insert x ps p qs))

-- a path that overlaps none: what is at or below it is covered by none
pub covering-apart : (p x : List (List ℕ)) (ps : List (List (List ℕ))) → list_any (overlap p) ps ≡ false → is_prefix p x ≡ true → covering x ps ≡ 0
covering-apart p x [] e h = refl
covering-apart p x (q ∷ ps) e h =
    let parts = or_parts (overlap p q) (list_any (overlap p) ps) e in
    omega (arith, nothing q x (apart_of_prefixes p q x parts.0 h), covering-apart p x ps parts.1 h)

-- where no path is covered twice, none is with one more in front that overlaps none of them
pub covering-cons : (p : List (List ℕ)) (ps : List (List (List ℕ))) → list_any (overlap p) ps ≡ false →
    ((x : List (List ℕ)) → covering x ps ≤ 1) → (x : List (List ℕ)) → covering x (p ∷ ps) ≤ 1
covering-cons p ps e most x = by (is_prefix p x) refl
  where
    by : (b : Bool) → is_prefix p x ≡ b → cond b 1 0 + covering x ps ≤ 1
    by true h = omega (arith, covering-apart p x ps e h)
    by false h = omega (arith, most x)

-- the same with the path put anywhere
pub covering_insert-apart : (ps : List (List (List ℕ))) (p : List (List ℕ)) (qs : List (List (List ℕ))) → list_any (overlap p) (ps ++ qs) ≡ false →
    ((x : List (List ℕ)) → covering x (ps ++ qs) ≤ 1) → (x : List (List ℕ)) → covering x (ps ++ p ∷ qs) ≤ 1
covering_insert-apart ps p qs e most x = omega (arith, covering-insert x ps p qs, covering-cons p (ps ++ qs) e most x)

-- one that is taken out counts no more
pub covering-taken_out : (place x : List (List ℕ)) (ps : List (List (List ℕ))) → list_any (same_names place) ps ≡ true → is_prefix place x ≡ true →
    covering x (filter (is_other_path place) ps) + 1 ≤ covering x ps
covering-taken_out place x [] e h = cc
covering-taken_out place x (p ∷ ps) e h = by (same_names place p) refl e (covering-taken_out place x ps) (covering-filter (is_other_path place) x ps)
  where
    by : (b : Bool) → same_names place p ≡ b → (b || list_any (same_names place) ps) ≡ true →
        (list_any (same_names place) ps ≡ true → is_prefix place x ≡ true → covering x (filter (is_other_path place) ps) + 1 ≤ covering x ps) →
        covering x (filter (is_other_path place) ps) ≤ covering x ps →
        covering x (cond (not b) (p ∷ filter (is_other_path place) ps) (filter (is_other_path place) ps)) + 1 ≤ cond (is_prefix p x) 1 0 + covering x ps
    by true k a r f =
        let here : is_prefix p x ≡ true = ap (λ (l : List (List ℕ)). is_prefix l x) (sym ((same_names-Decides place p).0 k)) ∙ h in
        omega (arith, f, one p x here)
    by false k a r f = omega (arith, r a h)

-- a path that was pushed is among them
pub among-push : (ps : List (List (List ℕ))) (p : List (List ℕ)) → list_any (same_names p) (ps ++ p ∷ []) ≡ true
among-push ps p =
    list_any-append (same_names p) ps (p ∷ [])
    ∙ ap (λ (b : Bool). list_any (same_names p) ps || (b || false)) ((same_names-Decides p p).1 refl)
    ∙ or_right (list_any (same_names p) ps) true refl

-- a path that has the names of one of some is one of them
pub among_contains : (p : List (List ℕ)) (ps : List (List (List ℕ))) → list_any (same_names p) ps ≡ true → Contains ps p
among_contains p [] e = cc
among_contains p (q ∷ ps) e =
    elim (or_cases (same_names p q) (list_any (same_names p) ps) e) [
      | inl same ↦ subst (λ (l : List (List ℕ)). Contains (q ∷ ps) l) (sym (same_names-eq p q same)) (contains_first q ps)
      | inr later ↦ contains_more q ps p (among_contains p ps later)
    ]

-- and the other way round
pub contains_among : (p : List (List ℕ)) (ps : List (List (List ℕ))) → Contains ps p → list_any (same_names p) ps ≡ true
contains_among p ps among =
    true_from_ne_false (list_any (same_names p) ps)
    (λ none. both_ways (same_names p p) (each_fails (same_names p) ps p none among) (same_names-refl p))

-- where one is taken out there are no more than before
pub length-taken_out : (place : List (List ℕ)) (ps : List (List (List ℕ))) → length (filter (is_other_path place) ps) ≤ length ps
length-taken_out place [] = omega arith
length-taken_out place (p ∷ ps) = by (same_names place p) (length-taken_out place ps)
  where
    by : (b : Bool) → length (filter (is_other_path place) ps) ≤ length ps →
        length (cond (not b) (p ∷ filter (is_other_path place) ps) (filter (is_other_path place) ps)) ≤ length (p ∷ ps)
    by true e = omega arith
    by false e = omega arith

-- where one that is among them is taken out there are fewer
pub one_fewer : (place : List (List ℕ)) (ps : List (List (List ℕ))) → list_any (same_names place) ps ≡ true →
    length (filter (is_other_path place) ps) + 1 ≤ length ps
one_fewer place [] e = cc
one_fewer place (p ∷ ps) e = by (same_names place p) e (one_fewer place ps) (length-taken_out place ps)
  where
    by : (b : Bool) → (b || list_any (same_names place) ps) ≡ true →
        (list_any (same_names place) ps ≡ true → length (filter (is_other_path place) ps) + 1 ≤ length ps) →
        length (filter (is_other_path place) ps) ≤ length ps →
        length (cond (not b) (p ∷ filter (is_other_path place) ps) (filter (is_other_path place) ps)) + 1 ≤ length (p ∷ ps)
    by true a r f = omega arith
    by false a r f = omega (arith, r a)
