-- How the topmost of some paths are found by going through them in order.
use Rattle.mat_path.proofs.CoveringLemmas.{apart_within, among_contains, covered_by, covering-append, covering-apart, covering-head, covering-push, covering-tail}
use Rattle.mat_path.proofs.Elements.{each_fails}
use Rattle.mat_path.proofs.Overlaps.{prefix-antisym}
use Rattle.mat_path.proofs.PathLemmas.{before_apart, path_cmp-refl, path_cmp_equal, path_cmp_total, prefix-refl, prefix-trans, prefix_not_greater, prefix_split}
use Rattle.mat_path.proofs.SameNames.{same_names-eq, same_names-refl, same_names-sym}
use Rattle.mat_path.specs.Covering.{covering}
use Rattle.mat_path.specs.Names.{is_prefix, overlap, path_cmp, same_names}
use Rattle.mat_path.specs.Order.{same_names_ties}
use Rattle.mat_tree.specs.Parts.{Node, Part}
use Rattle.std.proofs.Common.{◌≡◌, ℕ, ◌+◌, ◌-◌, ◌≤◌, ◌<◌, zero, suc, Bool, true, false, ◌&&◌, ◌||◌, not, cond, ◌⊎◌, inl, inr, List, [], ◌∷◌, ◌++◌, length, drop, take, get_or, Ordering, Equal, Less, Greater, refl, ap, sym, subst, ◌∙◌, Contains, arith, append_assoc}
use Rattle.std.proofs.lemmas.Bool.{and_from, false_from_ne_true, not-true, or_cases, or_from, or_parts, or_right, true_from_ne_false}
use Rattle.std.proofs.lemmas.List.{append-nil}
use Rattle.std.specs.BTreeMap.{is_at}
use Rattle.std.proofs.lemmas.List.Folds.{list_any-append}
use Rattle.std.specs.BTreeSet.{BTreeSet, contains}
use Rattle.std.specs.Cmp.{first_so, second_so}
use Rattle.std.specs.List.{AllByRecursion, filter, find, list_any, slice_get}
use Rattle.std.specs.List.Sorted.{IsStrictlySortedBy}
use Rattle.std.specs.Option.{is_some, option_map}
use Rattle.std.specs.Ordering.{is_lt, ordering_reverse}
use Rattle.std.specs.Prelude.{Option, Some, None}
use mathlib.Core.Bool.{true≢false}
use Rattle.region_port.specs.Calls.{Paths}
use Rattle.path_trie.specs.declared.entry.Entry.{Entry}
use Rattle.path_trie.specs.Entries.{is_at as is_entry_at, is_before, is_behind, overlaps, put, value_of}
use Rattle.region_port.proofs.Crashed.{any_taken}
use Rattle.region_port.specs.declared.node.DiskNode.{DiskNode}
use Rattle.region_port.specs.Entries.{Kept, content_of, node_at}
use Rattle.region_port.specs.Strays.{AreFound, AreTopmost, Gathers, candidates, is_apart, is_below_last, is_below_some, is_clear}

-- ---- order

equal_less : ◌≡◌ {A = Ordering} Equal Less → ⊥
equal_less e = cc

-- a path isn't less than one that is less than it
never_both : (p q : List (List ℕ)) → path_cmp p q ≡ Less → path_cmp q p ≡ Less → ⊥
never_both p q less more = equal_less (sym (path_cmp-refl p) ∙ path_cmp_total.trans p q p less more)

-- a greater path is no prefix
greater_above : (p q : List (List ℕ)) → path_cmp p q ≡ Less → is_prefix q p ≡ false
greater_above p q less = false_from_ne_true (is_prefix q p) (λ h.
    elim (prefix_not_greater q p h) [
      | inl l ↦ never_both p q less l
      | inr e ↦ equal_less (sym (path_cmp-refl p) ∙ ap (path_cmp p) (sym (path_cmp_equal q p e)) ∙ less)
    ])

-- of three paths in order, the first is no prefix of the last where it is apart from the middle one
between_apart : (p q x : List (List ℕ)) → path_cmp p q ≡ Less → path_cmp q x ≡ Less → overlap p q ≡ false → is_prefix p x ≡ false
between_apart p q x pq qx apart = false_from_ne_true (is_prefix p x) (λ h.
    never_both q x qx
    (ap (λ l. path_cmp l q) (prefix_split p x h) ∙ ap (path_cmp (p ++ drop (length p) x)) (sym (append-nil q)) ∙ before_apart p q pq apart (drop (length p) x) []))

-- what holds of each of a list holds of the last
of_last : {X : Type 0} (P : X → Type 0) (xs : List X) (x : X) → AllByRecursion P (xs ++ x ∷ []) → P x
of_last P [] x all = all.0
of_last P (y ∷ ys) x all = of_last P ys x all.1

-- and of those of one part
of_front : {X : Type 0} (P : X → Type 0) (xs ys : List X) → AllByRecursion P (xs ++ ys) → AllByRecursion P xs
of_front P [] ys all = tt
of_front P (x ∷ xs) ys all = (all.0, of_front P xs ys all.1)

without_one : {X : Type 0} (P : X → Type 0) (xs : List X) (x : X) (ys : List X) → AllByRecursion P (xs ++ x ∷ ys) → AllByRecursion P (xs ++ ys)
without_one P [] x ys all = all.1
without_one P (y ∷ xs) x ys all = (all.0, without_one P xs x ys all.1)

-- a list in order stays so without one of its elements
sorted_without : (xs : List (List (List ℕ))) (x : List (List ℕ)) (ys : List (List (List ℕ))) → IsStrictlySortedBy path_cmp (xs ++ x ∷ ys) → IsStrictlySortedBy path_cmp (xs ++ ys)
unfolding IsStrictlySortedBy
sorted_without [] x ys s = s.1
sorted_without (y ∷ xs) x ys s = (without_one (λ z. path_cmp y z ≡ Less) xs x ys s.0, sorted_without xs x ys s.1)

-- and so does its front
sorted_front : (xs ys : List (List (List ℕ))) → IsStrictlySortedBy path_cmp (xs ++ ys) → IsStrictlySortedBy path_cmp xs
unfolding IsStrictlySortedBy
sorted_front [] ys s = tt
sorted_front (x ∷ xs) ys s = (of_front (λ z. path_cmp x z ≡ Less) xs ys s.0, sorted_front xs ys s.1)

-- ---- the last of some paths

last_of_more : (p q : List (List ℕ)) (ps : List (List (List ℕ))) → slice_get (p ∷ q ∷ ps) (length (p ∷ q ∷ ps) - 1) ≡ slice_get (q ∷ ps) (length (q ∷ ps) - 1)
last_of_more p q ps =
    let less : length (p ∷ q ∷ ps) - 1 ≡ suc (length (q ∷ ps) - 1) = omega arith in
    ap (slice_get (p ∷ q ∷ ps)) less

-- a path that is greater than some that are apart, and not below the last of them, is apart from all
apart_from_all : (found : List (List (List ℕ))) (x : List (List ℕ)) → IsStrictlySortedBy path_cmp (found ++ x ∷ []) → ((q : List (List ℕ)) → covering q found ≤ 1)
    → is_below_last found x ≡ false → list_any (overlap x) found ≡ false
unfolding IsStrictlySortedBy
apart_from_all [] x s most under = refl
apart_from_all (f ∷ []) x s most under = or_from (overlap x f) false (or_from (is_prefix x f) (is_prefix f x) (greater_above f x s.0.0) under) refl
apart_from_all (f ∷ g ∷ found) x s most under =
    let rest : list_any (overlap x) (g ∷ found) ≡ false =
    apart_from_all (g ∷ found) x s.1 (covering-tail f (g ∷ found) most) (ap (is_below_some x) (sym (last_of_more f g found)) ∙ under) in
    let apart : overlap f g ≡ false = (or_parts (overlap f g) (list_any (overlap f) found) (covering-head f (g ∷ found) most)).0 in
    or_from (overlap x f) (list_any (overlap x) (g ∷ found))
    (or_from (is_prefix x f) (is_prefix f x)
    (greater_above f x (of_last (λ z. path_cmp f z ≡ Less) (g ∷ found) x s.0))
    (between_apart f g x s.0.0 (of_last (λ z. path_cmp g z ≡ Less) found x s.1.0) apart))
    rest

-- a path below the last of some is covered by them
covered_by_last : (found : List (List (List ℕ))) (x : List (List ℕ)) → is_below_last found x ≡ true → 1 ≤ covering x found
covered_by_last [] x h = absurd (true≢false (sym h))
covered_by_last (f ∷ []) x h = omega (arith, ap (λ (b : Bool). cond {A = ℕ} b 1 0) h)
covered_by_last (f ∷ g ∷ found) x h = omega (arith, covered_by_last (g ∷ found) x (ap (is_below_some x) (sym (last_of_more f g found)) ∙ h))

-- ---- the way through some paths

-- some paths in order, of which the first are gone through: those that were found, and those that are left
pub record Scans (paths found rest : List (List (List ℕ))) : Type 0 where
  pub ordered : IsStrictlySortedBy path_cmp (found ++ rest)
  pub apart : (q : List (List ℕ)) → covering q found ≤ 1
  pub within : (q : List (List ℕ)) → list_any (same_names q) found ≡ true → list_any (same_names q) paths ≡ true
  pub ahead : (q : List (List ℕ)) → list_any (same_names q) rest ≡ true → list_any (same_names q) paths ≡ true
  pub covered : (q : List (List ℕ)) → list_any (same_names q) paths ≡ true → (list_any (same_names q) rest ≡ true) ⊎ (1 ≤ covering q found)

pub scan_begins : (paths : List (List (List ℕ))) → IsStrictlySortedBy path_cmp paths → Scans paths [] paths
scan_begins paths s = record {
  ordered = s;
  apart = λ q. omega arith;
  within = λ q h. absurd (true≢false (sym h));
  ahead = λ q h. h;
  covered = λ q h. inl h;
}

-- the next one is found where it isn't below the last one
pub scan_keeps : (paths found : List (List (List ℕ))) (x : List (List ℕ)) (rest : List (List (List ℕ))) → Scans paths found (x ∷ rest) → is_below_last found x ≡ false → Scans paths (found ++ x ∷ []) rest
scan_keeps paths found x rest scan under =
    let alone : list_any (overlap x) found ≡ false =
    apart_from_all found x (sorted_front (found ++ x ∷ []) rest (subst (IsStrictlySortedBy path_cmp) (sym (append_assoc found (x ∷ []) rest)) scan.ordered)) scan.apart under in
    record {
      ordered = subst (IsStrictlySortedBy path_cmp) (sym (append_assoc found (x ∷ []) rest)) scan.ordered;
      apart = λ q. once q (is_prefix x q) refl alone;
      within = λ q h. elim (or_cases (list_any (same_names q) found) (same_names q x || false) (sym (list_any-append (same_names q) found (x ∷ [])) ∙ h)) [
        | inl old ↦ scan.within q old
        | inr new ↦ scan.ahead q (first q new)
      ];
      ahead = λ q h. scan.ahead q (or_right (same_names q x) (list_any (same_names q) rest) h);
      covered = λ q h. elim (scan.covered q h) [
        | inl left ↦ elim (or_cases (same_names q x) (list_any (same_names q) rest) left) [
          | inl here ↦ inr (omega (arith, covering-push q found x, counted q here))
          | inr later ↦ inl later
        ]
        | inr old ↦ inr (omega (arith, covering-push q found x, old))
      ];
    }
  where
    once : (q : List (List ℕ)) (b : Bool) → is_prefix x q ≡ b → list_any (overlap x) found ≡ false → covering q (found ++ x ∷ []) ≤ 1
    once q true h alone = omega (arith, covering-push q found x, covering-apart x q found alone h, ap (λ (b : Bool). cond {A = ℕ} b 1 0) h)
    once q false h alone = omega (arith, covering-push q found x, scan.apart q, ap (λ (b : Bool). cond {A = ℕ} b 1 0) h)

    first : (q : List (List ℕ)) → (same_names q x || false) ≡ true → (same_names q x || list_any (same_names q) rest) ≡ true
    first q h = elim (or_cases (same_names q x) false h) [
      | inl here ↦ ap (λ b. b || list_any (same_names q) rest) here
      | inr never ↦ absurd (true≢false (sym never))
    ]

    counted : (q : List (List ℕ)) → same_names q x ≡ true → ◌≡◌ {A = ℕ} (cond (is_prefix x q) 1 0) 1
    counted q h = ap (λ (b : Bool). cond {A = ℕ} b 1 0) (ap (is_prefix x) (same_names-eq q x h) ∙ prefix-refl x)

-- and it is passed over where it is
pub scan_skips : (paths found : List (List (List ℕ))) (x : List (List ℕ)) (rest : List (List (List ℕ))) → Scans paths found (x ∷ rest) → is_below_last found x ≡ true → Scans paths found rest
scan_skips paths found x rest scan below = record {
  ordered = sorted_without found x rest scan.ordered;
  apart = scan.apart;
  within = scan.within;
  ahead = λ q h. scan.ahead q (or_right (same_names q x) (list_any (same_names q) rest) h);
  covered = λ q h. elim (scan.covered q h) [
    | inl left ↦ elim (or_cases (same_names q x) (list_any (same_names q) rest) left) [
      | inl here ↦ inr (subst (λ p. 1 ≤ covering p found) (sym (same_names-eq q x here)) (covered_by_last found x below))
      | inr later ↦ inl later
    ]
    | inr old ↦ inr old
  ];
}

-- once none is left, the found ones cover all
pub scan_ends : (paths found : List (List (List ℕ))) → Scans paths found [] → Gathers paths found
scan_ends paths found scan = record {
  ordered = subst (IsStrictlySortedBy path_cmp) (append-nil found) scan.ordered;
  apart = scan.apart;
  within = scan.within;
  covered = λ q h. elim (scan.covered q h) [
    | inl left ↦ absurd (true≢false (sym left))
    | inr old ↦ old
  ];
}

-- ---- strays

-- what is among some paths is an element of them
among : (p : List (List ℕ)) (ps : List (List (List ℕ))) → Contains ps p → list_any (same_names p) ps ≡ true
among p ps e = true_from_ne_false (list_any (same_names p) ps) (λ none. true≢false (sym (same_names-refl p) ∙ each_fails (same_names p) ps p none e))

-- the paths that were found are the topmost ones
pub gathered_topmost : (set : Paths) (paths found : List (List (List ℕ))) → ((q : List (List ℕ)) → list_any (same_names q) paths ≡ set q) → Gathers paths found → AreTopmost set found
gathered_topmost set paths found has g = record {
  only = λ path h. record {
    within = sym (has path) ∙ g.within path h;
    alone = λ above strictly. false_from_ne_true (set above) (λ k.
        let over = covered_by above found (g.covered above (has above ∙ k)) in
        let prefix : is_prefix above path ≡ true = first_so (is_prefix above path) (not (same_names above path)) strictly in
        let differs : same_names above path ≡ false = not-true (same_names above path) (second_so (is_prefix above path) (not (same_names above path)) strictly) in
        let high : is_prefix over.0 path ≡ true = prefix-trans over.0 above path over.2 prefix in
        let other : same_names over.0 path ≡ false = false_from_ne_true (same_names over.0 path) (λ e.
        let same : over.0 ≡ path = same_names-eq over.0 path e in
        let back : is_prefix path above ≡ true = ap (λ p. is_prefix p above) (sym same) ∙ over.2 in
        true≢false (sym (same_names-refl path) ∙ ap (λ p. same_names p path) (sym (prefix-antisym above path prefix back)) ∙ differs)) in
        both_ways_false (or_parts (is_prefix over.0 path) (is_prefix path over.0) (apart_within found g.apart over.0 path over.1 (among_contains path found h) other)).0 high);
  };
  all = λ path top.
      let over = covered_by path found (g.covered path (has path ∙ top.within)) in
      let among_all : set over.0 ≡ true = sym (has over.0) ∙ g.within over.0 (among over.0 found over.1) in
      let same : same_names over.0 path ≡ true = true_from_ne_false (same_names over.0 path) (λ differs.
      true≢false (sym among_all ∙ top.alone over.0 (and_from (is_prefix over.0 path) (not (same_names over.0 path)) over.2 (ap not differs)))) in
      ap (λ p. list_any (same_names p) found) (sym (same_names-eq over.0 path same)) ∙ among over.0 found over.1;
}
  where
    both_ways_false : {b : Bool} → b ≡ false → b ≡ true → ⊥
    both_ways_false f t = true≢false (sym t ∙ f)

-- found paths and known ones cover no path twice, where each found one is apart from all that is known
pub found_apart : (known found : List (List (List ℕ))) → ((q : List (List ℕ)) → covering q known ≤ 1) → ((q : List (List ℕ)) → covering q found ≤ 1)
    → ((p : List (List ℕ)) → Contains found p → list_any (overlap p) known ≡ false) → (q : List (List ℕ)) → covering q (found ++ known) ≤ 1
found_apart known found once most apart q = by (covering q found) refl
  where
    by : (n : ℕ) → covering q found ≡ n → covering q (found ++ known) ≤ 1
    by zero e = omega (arith, covering-append q found known, once q, e)
    by (suc n) e =
        let over = covered_by q found (omega (arith, e)) in
        omega (arith, covering-append q found known, most q, covering-apart over.0 q known (apart over.0 over.1) over.2)

-- so they are the strays
pub strays_found : (known : List (List (List ℕ))) (content : Part) (paths found : List (List (List ℕ))) → ((q : List (List ℕ)) → list_any (same_names q) paths ≡ candidates known content q)
    → ((q : List (List ℕ)) → covering q known ≤ 1) → Gathers paths found → AreFound known (Some content) found
strays_found known content paths found has once g = record {
  ordered = g.ordered;
  apart = found_apart known found once g.apart (λ p among_found.
      not-true (list_any (overlap p) known) (second_so (is_some (content p)) (is_apart known p) (sym (has p) ∙ g.within p (among p found among_found))));
  told = gathered_topmost (candidates known content) paths found has g;
}

-- ---- candidates

-- a set of paths as a test of a list
pub contains_same : (paths : BTreeSet (List (List ℕ))) (q : List (List ℕ)) → list_any (same_names q) paths.keys ≡ contains path_cmp paths q
contains_same paths q = by paths.keys
  where
    by : (keys : List (List (List ℕ))) → list_any (same_names q) keys ≡ list_any (is_at (path_cmp q)) keys
    by [] = refl
    by (key ∷ keys) = ap (λ b. b || list_any (same_names q) keys) (same_names_ties q key) ∙ ap (λ b. is_at (path_cmp q) key || b) (by keys)

-- ---- with a map of the known paths

-- whether one more of some paths passes a test that paths alone decide
pub any_put : {V : Type 0} (test : List (List ℕ) → Bool) (passes : Entry V → Bool) → ((x : Entry V) → passes x ≡ test x.path) → (path : List (List ℕ)) (v : V) (xs : List (Entry V))
    → list_any passes (put path v xs) ≡ (test path || list_any passes xs)
any_put {V} test passes same path v xs =
    list_any-append passes (filter (is_before path) xs) (record { path = path; value = v } ∷ filter (is_behind path) xs)
    ∙ ap (λ b. list_any passes (filter (is_before path) xs) || (b || list_any passes (filter (is_behind path) xs))) (same (record { path = path; value = v }))
    ∙ swap (list_any passes (filter (is_before path) xs)) (test path) (list_any passes (filter (is_behind path) xs))
    ∙ by (test path) refl
  where
    swap : (a t c : Bool) → (a || (t || c)) ≡ (t || (a || c))
    swap true true c = refl
    swap true false c = refl
    swap false t c = refl

    push : (q : Entry V → Bool) (y : Entry V) (ys : List (Entry V)) → list_any passes (filter q (y ∷ ys)) ≡ ((q y && passes y) || list_any passes (filter q ys))
    push q y ys = one (q y)
      where
        one : (b : Bool) → list_any passes (cond b (y ∷ filter q ys) (filter q ys)) ≡ ((b && passes y) || list_any passes (filter q ys))
        one true = refl
        one false = refl

    -- an entry that is neither before nor behind the path stands at it
    there : (y : Entry V) → test path ≡ false → is_before path y ≡ false → is_behind path y ≡ false → passes y ≡ false
    there y none before behind = same y ∙ ap test (sym (level (path_cmp path y.path) refl)) ∙ none
      where
        level : (o : Ordering) → path_cmp path y.path ≡ o → path ≡ y.path
        level Less e = absurd (true≢false (sym (ap is_lt e) ∙ behind))
        level Equal e = path_cmp_equal path y.path e
        level Greater e = absurd (true≢false (sym (ap is_lt (path_cmp_total.antisymm y.path path ∙ ap ordering_reverse e)) ∙ before))

    sides : test path ≡ false → (ys : List (Entry V)) → (list_any passes (filter (is_before path) ys) || list_any passes (filter (is_behind path) ys)) ≡ list_any passes ys
    sides none [] = refl
    sides none (y ∷ ys) =
        ap (λ b. b || list_any passes (filter (is_behind path) (y ∷ ys))) (push (is_before path) y ys)
        ∙ ap (λ b. ((is_before path y && passes y) || list_any passes (filter (is_before path) ys)) || b) (push (is_behind path) y ys)
        ∙ four (is_before path y) (is_behind path y) (passes y) (there y none) (list_any passes (filter (is_before path) ys)) (list_any passes (filter (is_behind path) ys)) (list_any passes ys) (sides none ys)
      where
        four : (a c p : Bool) → (a ≡ false → c ≡ false → p ≡ false) → (f g l : Bool) → (f || g) ≡ l → (((a && p) || f) || ((c && p) || g)) ≡ (p || l)
        four a c true h true g l e = either a c h
          where
            either : (a c : Bool) → (a ≡ false → c ≡ false → ◌≡◌ {A = Bool} true false) → (((a && true) || true) || ((c && true) || g)) ≡ true
            either true c h = refl
            either false c h = refl
        four true c true h false g l e = refl
        four false true true h false g l e = refl
        four false false true h false g l e = absurd (true≢false (h refl refl))
        four true true false h f g l e = e
        four true false false h f g l e = e
        four false true false h f g l e = e
        four false false false h f g l e = e

    by : (b : Bool) → test path ≡ b → (b || (list_any passes (filter (is_before path) xs) || list_any passes (filter (is_behind path) xs))) ≡ (b || list_any passes xs)
    by true e = refl
    by false e = sides e xs

-- a map with one path more is clear where it was and the path is apart
pub clear_put : (map : List (Entry (Unit {0}))) (paths : List (List (List ℕ))) (i : ℕ) (p q : List (List ℕ)) (v : Unit {0}) → i < length paths → p ≡ get_or paths i p
    → is_clear map q ≡ is_apart (take i paths) q → is_clear (put p v map) q ≡ is_apart (take (i + 1) paths) q
clear_put map paths i p q v l at e =
    ap not (any_put (overlap q) (overlaps q) (λ x. refl) p v map
    ∙ or_turn (overlap q p) (list_any (overlaps q) map) (list_any (overlap q) (take i paths)) e
    ∙ sym (any_taken (overlap q) paths i p l at))
  where
    or_turn : (a b c : Bool) → not b ≡ not c → (a || b) ≡ (c || a)
    or_turn true true true e = refl
    or_turn true true false e = absurd (true≢false (sym e))
    or_turn true false true e = refl
    or_turn true false false e = refl
    or_turn false true true e = refl
    or_turn false true false e = absurd (true≢false (sym e))
    or_turn false false true e = absurd (true≢false e)
    or_turn false false false e = refl

module _ (clear : List (List ℕ) → Bool) where
  -- a path more, where it is clear
  pub added : (place path : List (List ℕ)) (old : Bool) → clear place ≡ true → cond (same_names place path) true old ≡ ((same_names place path && clear path) || old)
  added place path old apart = by (same_names place path) refl
    where
      by : (b : Bool) → same_names place path ≡ b → cond b true old ≡ ((b && clear path) || old)
      by true h = sym (ap (λ b. b || old) (ap clear (sym (same_names-eq place path h)) ∙ apart))
      by false h = refl

  -- and none, where it isn't
  pub not_added : (place path : List (List ℕ)) (old : Bool) → clear place ≡ false → old ≡ ((same_names place path && clear path) || old)
  not_added place path old near = by (same_names place path) refl
    where
      by : (b : Bool) → same_names place path ≡ b → old ≡ ((b && clear path) || old)
      by true h = sym (ap (λ b. b || old) (ap clear (sym (same_names-eq place path h)) ∙ near))
      by false h = refl

  -- the next entry that is added, and those that are left, have the candidates that were left with it
  pub candidates_next : (p : List (List ℕ)) (kept : Option DiskNode) (left : List Kept) (path : List (List ℕ)) (old : Bool) → content_of left p ≡ None
      → ((is_some (content_of left path) && clear path) || ((is_some (node_at (Some kept)) && (same_names p path && clear path)) || old))
      ≡ ((is_some (content_of (record { path = p; value = kept } ∷ left) path) && clear path) || old)
  candidates_next p kept left path old none = by (same_names p path) refl (same_names path p) (same_names-sym p path)
    where
      none_both : (b : Bool) → (b && false) ≡ false
      none_both true = refl
      none_both false = refl

      by : (b : Bool) → same_names p path ≡ b → (c : Bool) → same_names p path ≡ c
          → ((is_some (content_of left path) && clear path) || ((is_some (node_at (Some kept)) && (b && clear path)) || old))
          ≡ ((is_some (node_at (option_map value_of (cond c (Some (record { path = p; value = kept })) (find (is_entry_at path) left)))) && clear path) || old)
      by true e true f =
          ap (λ (o : Option Node). (is_some o && clear path) || ((is_some (node_at (Some kept)) && clear path) || old)) (ap (content_of left) (sym (same_names-eq p path e)) ∙ none)
      by true e false f = absurd (true≢false (sym e ∙ f))
      by false e true f = absurd (true≢false (sym f ∙ e))
      by false e false f = ap (λ b. (is_some (content_of left path) && clear path) || (b || old)) (none_both (is_some (node_at (Some kept))))

-- one path alone covers none twice
pub one_is_apart : (p q : List (List ℕ)) → covering q (p ∷ []) ≤ 1
one_is_apart p q = by (is_prefix p q)
  where
    by : (b : Bool) → cond b 1 0 + 0 ≤ 1
    by true = omega arith
    by false = omega arith
