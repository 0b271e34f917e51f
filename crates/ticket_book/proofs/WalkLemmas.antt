-- A walk over entries in order of path, one after the other.
use Rattle.std.proofs.Common.{◌≡◌, ◌+◌, ◌<◌, ◌≤◌, ℕ, nat_le, Bool, true, false, ◌&&◌, cond, List, [], ◌∷◌, ◌++◌, length, length-append, refl, ◌∙◌, sym, ap, arith, Option, Some, None}
use Rattle.std.proofs.lemmas.Bool.{and_parts, le-leb, leb-true, lt-leb}
use Rattle.std.proofs.lemmas.List.{append-nil, append_assoc}
use Rattle.std.specs.List.{filter, find, list_all}
use Rattle.std.specs.Option.{option_map}
use Rattle.std.specs.Ordering.{is_lt, ordering_reverse, ordering_then}
use Rattle.mat_path.proofs.PathLemmas.{lt_less, name_cmp-refl, path_cmp_total, path_cmp-refl}
use Rattle.mat_path.proofs.SameNames.{same_name-eq}
use Rattle.mat_path.specs.Names.{is_prefix, name_cmp, path_cmp, same_name}
use Rattle.path_trie.specs.declared.entry.Entry.{Entry}
use Rattle.path_trie.specs.Entries.{ascends, both, is_above, is_behind, is_high, is_less, is_next_under, is_under}
use Rattle.ticket_book.specs.ByPath.{all_numbers}

-- ---- what is found

found_passes : {X : Type 0} (t : X → Bool) (xs : List X) (e : X) → Some e ≡ find t xs → t e ≡ true
found_passes t [] e f = cc
found_passes {X} t (x ∷ xs) e f = by (t x) refl f (found_passes t xs e)
  where
    by : (b : Bool) → t x ≡ b → Some e ≡ cond b (Some x) (find t xs) → (Some e ≡ find t xs → t e ≡ true) → t e ≡ true
    by true is f more = let same : e ≡ x = cc in ap t same ∙ is
    by false is f more = more f

found_all : {X : Type 0} (t q : X → Bool) (xs : List X) (e : X) → list_all q xs ≡ true → Some e ≡ find t xs → q e ≡ true
found_all t q [] e all f = cc
found_all {X} t q (x ∷ xs) e all f =
    let parts = and_parts (q x) (list_all q xs) all in by (t x) f parts.0 (found_all t q xs e parts.1)
  where
    by : (b : Bool) → Some e ≡ cond b (Some x) (find t xs) → q x ≡ true → (Some e ≡ find t xs → q e ≡ true) → q e ≡ true
    by true f one more = let same : e ≡ x = cc in ap q same ∙ one
    by false f one more = more f

pub none_left : {X : Type 0} (t : X → Bool) (xs : List X) → None ≡ find t xs → filter t xs ≡ []
none_left t [] e = refl
none_left t (y ∷ xs) e = by (t y) e (none_left t xs)
  where
    by : (b : Bool) → None ≡ cond b (Some y) (find t xs) → (None ≡ find t xs → filter t xs ≡ []) → cond b (y ∷ filter t xs) (filter t xs) ≡ []
    by true e more = cc
    by false e more = more e

-- an entry that was found as a pair
pair_found : {V : Type 0} (p : List (List ℕ)) (v : V) (o : Option (Entry V)) → Some (p, v) ≡ option_map both o → Some (record { path = p; value = v }) ≡ o
pair_found p v None e = cc
pair_found {V} p v (Some x) e = ap (λ q. Some (the q v)) first ∙ ap (λ w. Some (the x.path w)) second
  where
    the : List (List ℕ) → V → Entry V
    the q w = record { path = q; value = w }

    first_or : Option (List (List ℕ) × V) → List (List ℕ)
    first_or None = p
    first_or (Some pair) = pair.0

    second_or : Option (List (List ℕ) × V) → V
    second_or None = v
    second_or (Some pair) = pair.1

    first : p ≡ x.path
    first = ap first_or e

    second : v ≡ x.value
    second = ap second_or e

pub none_found : {V : Type 0} (o : Option (Entry V)) → None ≡ option_map both o → None ≡ o
none_found None e = refl
none_found (Some x) e = cc

-- ---- one after the other

same_behind : {V : Type 0} (t u : Entry V → Bool) (x : Entry V) → ((y : Entry V) → is_less x y ≡ true → t y ≡ u y) → (xs : List (Entry V)) → list_all (is_less x) xs ≡ true
    → filter t xs ≡ filter u xs
same_behind t u x same [] all = refl
same_behind t u x same (y ∷ ys) all =
    let parts = and_parts (is_less x y) (list_all (is_less x) ys) all in
    ap (λ b. cond b (y ∷ filter t ys) (filter t ys)) (same y parts.0) ∙ ap (λ zs. cond (u y) (y ∷ zs) zs) (same_behind t u x same ys parts.1)

-- the first that passes comes first, and then those that pass a test which starts behind it
walk_next : {V : Type 0} (t : Entry V → Bool) (u : Entry V → Entry V → Bool) → ((x y : Entry V) → t x ≡ true → is_less x y ≡ true → t y ≡ u x y)
    → ((x : Entry V) → u x x ≡ false) → ((x e : Entry V) → t e ≡ true → is_less x e ≡ true → u e x ≡ false)
    → (es : List (Entry V)) (e : Entry V) → ascends es ≡ true → Some e ≡ find t es → filter t es ≡ e ∷ filter (u e) es
walk_next t u later here before [] e order f = cc
walk_next {V} t u later here before (x ∷ xs) e order f =
    let parts = and_parts (list_all (is_less x) xs) (ascends xs) order in by (t x) refl f parts.0 (walk_next t u later here before xs e parts.1)
  where
    by : (b : Bool) → t x ≡ b → Some e ≡ cond b (Some x) (find t xs) → list_all (is_less x) xs ≡ true → (Some e ≡ find t xs → filter t xs ≡ e ∷ filter (u e) xs)
        → cond b (x ∷ filter t xs) (filter t xs) ≡ e ∷ cond (u e x) (x ∷ filter (u e) xs) (filter (u e) xs)
    by true is f all more =
        let same : x ≡ e = cc in
        ap (λ ys. x ∷ ys) (same_behind t (u x) x (λ y less. later x y is less) xs all ∙ ap (λ b. cond b (x ∷ filter (u x) xs) (filter (u x) xs)) (sym (here x)))
        ∙ ap (λ y. y ∷ cond (u y x) (x ∷ filter (u y) xs) (filter (u y) xs)) same
    by false is f all more =
        more f ∙ ap (λ b. e ∷ cond b (x ∷ filter (u e) xs) (filter (u e) xs)) (sym (before x e (found_passes t xs e f) (found_all t (is_less x) xs e all f)))

-- ---- below a path

no_less : (p q : List (List ℕ)) → is_lt (path_cmp p q) ≡ true → is_lt (path_cmp q p) ≡ false
no_less p q less = ap is_lt (path_cmp_total.antisymm q p ∙ ap ordering_reverse (lt_less (path_cmp p q) less))

none_both : (b : Bool) → (b && false) ≡ false
none_both true = refl
none_both false = refl

inside_walk : {V : Type 0} (path last : List (List ℕ)) (es : List (Entry V)) (e : Entry V) → ascends es ≡ true → Some e ≡ find (is_next_under path last) es
    → filter (is_next_under path last) es ≡ e ∷ filter (is_next_under path e.path) es
inside_walk {V} path last = walk_next (is_next_under path last) (λ (e x : Entry V). is_next_under path e.path x) later here before
  where
    later : (x y : Entry V) → is_next_under path last x ≡ true → is_less x y ≡ true → is_next_under path last y ≡ is_next_under path x.path y
    later x y passes less =
        let parts = and_parts (is_under path x) (is_behind last x) passes in
        ap (λ o. is_under path y && is_lt o) (path_cmp_total.trans last x.path y.path (lt_less (path_cmp last x.path) parts.1) (lt_less (path_cmp x.path y.path) less))
        ∙ ap (λ b. is_under path y && b) (sym less)

    here : (x : Entry V) → is_next_under path x.path x ≡ false
    here x = ap (λ o. is_under path x && is_lt o) (path_cmp-refl x.path) ∙ none_both (is_under path x)

    before : (x e : Entry V) → is_next_under path last e ≡ true → is_less x e ≡ true → is_next_under path e.path x ≡ false
    before x e passes less = ap (λ b. is_under path x && b) (no_less x.path e.path less) ∙ none_both (is_under path x)

-- ---- above a path

-- of two prefixes of one path the lesser has fewer names
shorter : (p q r : List (List ℕ)) → is_prefix p r ≡ true → is_prefix q r ≡ true → is_lt (path_cmp p q) ≡ true → length p < length q
shorter [] [] r f g h = cc
shorter [] (b ∷ q) r f g h = omega arith
shorter (a ∷ p) [] r f g h = cc
shorter (a ∷ p) (b ∷ q) [] f g h = cc
shorter (a ∷ p) (b ∷ q) (c ∷ r) f g h =
    let first = and_parts (same_name a c) (is_prefix p r) f in
    let second = and_parts (same_name b c) (is_prefix q r) g in
    let tied = ap (λ n. name_cmp a n) (same_name-eq b c second.0 ∙ sym (same_name-eq a c first.0)) ∙ name_cmp-refl a in
    let less : is_lt (path_cmp p q) ≡ true = ap (λ o. is_lt (ordering_then o (path_cmp p q))) (sym tied) ∙ h in
    let e = shorter p q r first.1 second.1 less in omega (arith, e)

high_walk : {V : Type 0} (path : List (List ℕ)) (k : ℕ) (es : List (Entry V)) (e : Entry V) → ascends es ≡ true → Some e ≡ find (is_high path k) es
    → filter (is_high path k) es ≡ e ∷ filter (is_high path (length e.path + 1)) es
high_walk {V} path k = walk_next (is_high path k) (λ (e x : Entry V). is_high path (length e.path + 1) x) later here before
  where
    later : (x y : Entry V) → is_high path k x ≡ true → is_less x y ≡ true → is_high path k y ≡ is_high path (length x.path + 1) y
    later x y passes less = by (is_above path y) refl
      where
        parts : (is_above path x ≡ true) × (nat_le k (length x.path) ≡ true)
        parts = and_parts (is_above path x) (nat_le k (length x.path)) passes

        by : (b : Bool) → is_above path y ≡ b → (b && nat_le k (length y.path)) ≡ (b && nat_le (length x.path + 1) (length y.path))
        by true above =
            let more = shorter x.path y.path path parts.0 above less in
            let low = leb-true k (length x.path) parts.1 in
            le-leb k (length y.path) (omega (arith, more, low)) ∙ sym (le-leb (length x.path + 1) (length y.path) (omega (arith, more)))
        by false other = refl

    here : (x : Entry V) → is_high path (length x.path + 1) x ≡ false
    here x = ap (λ b. is_above path x && b) (lt-leb (length x.path + 1) (length x.path) (omega arith)) ∙ none_both (is_above path x)

    before : (x e : Entry V) → is_high path k e ≡ true → is_less x e ≡ true → is_high path (length e.path + 1) x ≡ false
    before x e passes less = by (is_above path x) refl
      where
        by : (b : Bool) → is_above path x ≡ b → (b && nat_le (length e.path + 1) (length x.path)) ≡ false
        by true above =
            let more = shorter x.path e.path path above (and_parts (is_above path e) (nat_le k (length e.path)) passes).0 less in
            lt-leb (length e.path + 1) (length x.path) (omega (arith, more))
        by false other = refl

-- ---- their numbers

pub inside_next : (path last p : List (List ℕ)) (v : List ℕ) (es : List (Entry (List ℕ))) → ascends es ≡ true
    → Some (p, v) ≡ option_map both (find (is_next_under path last) es)
    → filter (is_next_under path last) es ≡ record { path = p; value = v } ∷ filter (is_next_under path p) es
inside_next path last p v es order e =
    inside_walk path last es (record { path = p; value = v }) order (pair_found p v (find (is_next_under path last) es) e)

pub high_next : (path p : List (List ℕ)) (k m : ℕ) (v : List ℕ) (es : List (Entry (List ℕ))) → ascends es ≡ true
    → Some (p, v) ≡ option_map both (find (is_high path k) es) → m ≡ length p + 1
    → filter (is_high path k) es ≡ record { path = p; value = v } ∷ filter (is_high path m) es
high_next path p k m v es order e is =
    high_walk path k es (record { path = p; value = v }) order (pair_found p v (find (is_high path k) es) e)
    ∙ ap (λ n. record { path = p; value = v } ∷ filter (is_high path n) es) (sym is)

-- fewer are left
pub fewer_left : {X : Type 0} (x : X) (old new : List X) → old ≡ x ∷ new → length new < length old
fewer_left x old new is = let size = ap (λ xs. length xs) is in omega (arith, size)

-- what was listed, and is still to come
pub listed_next : (p : List (List ℕ)) (v all first ns : List ℕ) (old new : List (Entry (List ℕ))) → old ≡ record { path = p; value = v } ∷ new
    → first ++ all_numbers old ≡ all → ns ≡ first ++ v → ns ++ all_numbers new ≡ all
listed_next p v all first ns old new is before more =
    ap (λ ms. ms ++ all_numbers new) more
    ∙ append_assoc first v (all_numbers new)
    ∙ ap (λ es. first ++ all_numbers es) (sym is)
    ∙ before

pub listed_room : (p : List (List ℕ)) (v first known all : List ℕ) (old new : List (Entry (List ℕ))) (room : ℕ) → old ≡ record { path = p; value = v } ∷ new
    → first ++ all_numbers old ≡ known ++ all → length known + length all ≤ room → length first + length v ≤ room
listed_room p v first known all old new room is before enough =
    let a = length-append first (all_numbers old) in
    let b = length-append known all in
    let c = ap (λ ns. length ns) before in
    let d = ap (λ es. length (all_numbers es)) is in
    let f = length-append v (all_numbers new) in omega (arith, a, b, c, d, f, enough)

pub listed_all : (all ns : List ℕ) (left : List (Entry (List ℕ))) → left ≡ [] → ns ++ all_numbers left ≡ all → ns ≡ all
listed_all all ns left none before = sym (append-nil ns) ∙ ap (λ es. ns ++ all_numbers es) (sym none) ∙ before
