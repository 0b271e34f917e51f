-- A walk over entries in order of path, one after the other.
use Rattle.std.proofs.Common.{◌≡◌, ◌<◌, ℕ, Bool, true, false, ◌&&◌, cond, List, [], ◌∷◌, length, refl, ◌∙◌, sym, ap, arith}
use Rattle.std.specs.Prelude.{Option, Some, None}
use Rattle.std.proofs.lemmas.Bool.{and_parts}
use Rattle.std.specs.List.{filter, find, list_all, slice_get}
use Rattle.std.specs.Option.{option_map}
use Rattle.std.specs.Ordering.{is_lt}
use Rattle.mat_path.proofs.PathLemmas.{lt_less, path_cmp_total, path_cmp-refl}
use Rattle.mat_path.proofs.SameNames.{same_names-eq}
use Rattle.mat_path.specs.Names.{is_prefix, path_cmp}
use Rattle.path_trie.specs.declared.entry.Entry.{Entry}
use Rattle.path_trie.specs.Entries.{ascends, both, is_at, is_behind, is_less, is_next_under, is_under}
use Rattle.path_trie.proofs.Onwards.{not_both}
use Rattle.region_port.specs.declared.node.DiskNode.{DiskNode}
use Rattle.region_port.specs.Entries.{Kept, content_of, is_later, is_later_under}
use Rattle.region_port.proofs.Content.{content_filtered}

-- ---- what is found

found_passes : {X : Type 0} (t : X → Bool) (xs : List X) (e : X) → Some e ≡ find t xs → t e ≡ true
found_passes t [] e f = cc
found_passes {X} t (x ∷ xs) e f = by (t x) refl f (found_passes t xs e)
  where
    by : (b : Bool) → t x ≡ b → Some e ≡ cond b (Some x) (find t xs) → (Some e ≡ find t xs → t e ≡ true) → t e ≡ true
    by true is f more = let same : e ≡ x = cc in ap t same ∙ is
    by false is f more = more f

found_all : {X : Type 0} (t q : X → Bool) (xs : List X) (e : X) → list_all q xs ≡ true → Some e ≡ find t xs → q e ≡ true
found_all t q [] e all f = cc
found_all {X} t q (x ∷ xs) e all f =
    let parts = and_parts (q x) (list_all q xs) all in by (t x) f parts.0 (found_all t q xs e parts.1)
  where
    by : (b : Bool) → Some e ≡ cond b (Some x) (find t xs) → q x ≡ true → (Some e ≡ find t xs → q e ≡ true) → q e ≡ true
    by true f one more = let same : e ≡ x = cc in ap q same ∙ one
    by false f one more = more f

-- nothing passes where nothing is found
none_left : {X : Type 0} (t : X → Bool) (xs : List X) → None ≡ find t xs → filter t xs ≡ []
none_left t [] e = refl
none_left t (y ∷ xs) e = by (t y) e (none_left t xs)
  where
    by : (b : Bool) → None ≡ cond b (Some y) (find t xs) → (None ≡ find t xs → filter t xs ≡ []) → cond b (y ∷ filter t xs) (filter t xs) ≡ []
    by true e more = cc
    by false e more = more e

-- an entry that was found as a pair
pair_found : {V : Type 0} (p : List (List ℕ)) (v : V) (o : Option (Entry V)) → Some (p, v) ≡ option_map both o → Some (record { path = p; value = v }) ≡ o
pair_found p v None e = cc
pair_found {V} p v (Some x) e = ap (λ q. Some (the q v)) first ∙ ap (λ w. Some (the x.path w)) second
  where
    the : List (List ℕ) → V → Entry V
    the q w = record { path = q; value = w }

    first_or : Option (List (List ℕ) × V) → List (List ℕ)
    first_or None = p
    first_or (Some pair) = pair.0

    second_or : Option (List (List ℕ) × V) → V
    second_or None = v
    second_or (Some pair) = pair.1

    first : p ≡ x.path
    first = ap first_or e

    second : v ≡ x.value
    second = ap second_or e

none_found : {V : Type 0} (o : Option (Entry V)) → None ≡ option_map both o → None ≡ o
none_found None e = refl
none_found (Some x) e = cc

-- an entry that was found at a path stands at it
pub found_at : {V : Type 0} (p q : List (List ℕ)) (v : V) (es : List (Entry V)) → Some (q, v) ≡ option_map both (find (is_at p) es) → q ≡ p
found_at p q v es e =
    let here = found_passes (is_at p) es (record { path = q; value = v }) (pair_found q v (find (is_at p) es) e) in
    sym (same_names-eq p q here)

-- the first of a list is what is found where all passes
pub first_found : {X : Type 0} (xs : List X) → slice_get xs 0 ≡ find (λ x. true) xs
first_found [] = refl
first_found (x ∷ xs) = refl

-- ---- one after the other

same_behind : {V : Type 0} (t u : Entry V → Bool) (x : Entry V) → ((y : Entry V) → is_less x y ≡ true → t y ≡ u y) → (xs : List (Entry V)) → list_all (is_less x) xs ≡ true
    → filter t xs ≡ filter u xs
same_behind t u x same [] all = refl
same_behind t u x same (y ∷ ys) all =
    let parts = and_parts (is_less x y) (list_all (is_less x) ys) all in
    ap (λ b. cond b (y ∷ filter t ys) (filter t ys)) (same y parts.0) ∙ ap (λ zs. cond (u y) (y ∷ zs) zs) (same_behind t u x same ys parts.1)

-- the first that passes comes first, and then those that pass a test which starts behind it
walk_next : {V : Type 0} (t : Entry V → Bool) (u : Entry V → Entry V → Bool) → ((x y : Entry V) → t x ≡ true → is_less x y ≡ true → t y ≡ u x y)
    → ((x : Entry V) → u x x ≡ false) → ((x e : Entry V) → t e ≡ true → is_less x e ≡ true → u e x ≡ false)
    → (es : List (Entry V)) (e : Entry V) → ascends es ≡ true → Some e ≡ find t es → filter t es ≡ e ∷ filter (u e) es
walk_next t u later here before [] e order f = cc
walk_next {V} t u later here before (x ∷ xs) e order f =
    let parts = and_parts (list_all (is_less x) xs) (ascends xs) order in by (t x) refl f parts.0 (walk_next t u later here before xs e parts.1)
  where
    by : (b : Bool) → t x ≡ b → Some e ≡ cond b (Some x) (find t xs) → list_all (is_less x) xs ≡ true → (Some e ≡ find t xs → filter t xs ≡ e ∷ filter (u e) xs)
        → cond b (x ∷ filter t xs) (filter t xs) ≡ e ∷ cond (u e x) (x ∷ filter (u e) xs) (filter (u e) xs)
    by true is f all more =
        let same : x ≡ e = cc in
        ap (λ ys. x ∷ ys) (same_behind t (u x) x (λ y less. later x y is less) xs all ∙ ap (λ b. cond b (x ∷ filter (u x) xs) (filter (u x) xs)) (sym (here x)))
        ∙ ap (λ y. y ∷ cond (u y x) (x ∷ filter (u y) xs) (filter (u y) xs)) same
    by false is f all more =
        more f ∙ ap (λ b. e ∷ cond b (x ∷ filter (u e) xs) (filter (u e) xs)) (sym (before x e (found_passes t xs e f) (found_all t (is_less x) xs e all f)))

none_both : (b : Bool) → (b && false) ≡ false
none_both true = refl
none_both false = refl

and_true : (b : Bool) → b ≡ (b && true)
and_true true = refl
and_true false = refl

-- what comes behind a path comes behind all before it
behind_both : (p q r : List (List ℕ)) → is_lt (path_cmp p q) ≡ true → is_lt (path_cmp q r) ≡ true → is_lt (path_cmp p r) ≡ true
behind_both p q r less more = ap is_lt (path_cmp_total.trans p q r (lt_less (path_cmp p q) less) (lt_less (path_cmp q r) more))

not_behind_itself : (x : Kept) → is_behind x.path x ≡ false
not_behind_itself x = ap is_lt (path_cmp-refl x.path)

under_walk : (path : List (List ℕ)) (last : Option (List (List ℕ))) (es : List Kept) (e : Kept) → ascends es ≡ true → Some e ≡ find (is_later_under path last) es
    → filter (is_later_under path last) es ≡ e ∷ filter (is_next_under path e.path) es
under_walk path last = walk_next (is_later_under path last) (λ (e x : Kept). is_next_under path e.path x) (later last) here (before last)
  where
    later : (last : Option (List (List ℕ))) (x y : Kept) → is_later_under path last x ≡ true → is_less x y ≡ true → is_later_under path last y ≡ is_next_under path x.path y
    later None x y passes less = and_true (is_under path y) ∙ ap (λ b. is_under path y && b) (sym less)
    later (Some last) x y passes less =
        let parts = and_parts (is_under path x) (is_behind last x) passes in
        ap (λ b. is_under path y && b) (behind_both last x.path y.path parts.1 less ∙ sym less)

    here : (x : Kept) → is_next_under path x.path x ≡ false
    here x = ap (λ b. is_under path x && b) (not_behind_itself x) ∙ none_both (is_under path x)

    before : (last : Option (List (List ℕ))) (x e : Kept) → is_later_under path last e ≡ true → is_less x e ≡ true → is_next_under path e.path x ≡ false
    before last x e passes less = ap (λ b. is_under path x && b) (not_both x.path e.path less) ∙ none_both (is_under path x)

all_walk : (last : Option (List (List ℕ))) (es : List Kept) (e : Kept) → ascends es ≡ true → Some e ≡ find (is_later last) es
    → filter (is_later last) es ≡ e ∷ filter (is_behind e.path) es
all_walk last = walk_next (is_later last) (λ (e x : Kept). is_behind e.path x) (later last) not_behind_itself (before last)
  where
    later : (last : Option (List (List ℕ))) (x y : Kept) → is_later last x ≡ true → is_less x y ≡ true → is_later last y ≡ is_behind x.path y
    later None x y passes less = sym less
    later (Some last) x y passes less = behind_both last x.path y.path passes less ∙ sym less

    before : (last : Option (List (List ℕ))) (x e : Kept) → is_later last e ≡ true → is_less x e ≡ true → is_behind e.path x ≡ false
    before last x e passes less = not_both x.path e.path less

-- ---- as loops meet it

module _ (es : List Kept) (order : ascends es ≡ true) (last : Option (List (List ℕ))) where
  -- the next entry below a path, and then those behind it
  pub under_next : (path p : List (List ℕ)) (v : Option DiskNode) → Some (p, v) ≡ option_map both (find (is_later_under path last) es)
      → filter (is_later_under path last) es ≡ record { path = p; value = v } ∷ filter (is_later_under path (Some p)) es
  under_next path p v e = under_walk path last es (record { path = p; value = v }) order (pair_found p v (find (is_later_under path last) es) e)

  -- the same of all entries
  pub all_next : (p : List (List ℕ)) (v : Option DiskNode) → Some (p, v) ≡ option_map both (find (is_later last) es)
      → filter (is_later last) es ≡ record { path = p; value = v } ∷ filter (is_later (Some p)) es
  all_next p v e = all_walk last es (record { path = p; value = v }) order (pair_found p v (find (is_later last) es) e)

-- nothing is left where no entry is found
pub no_next : (t : Kept → Bool) (es : List Kept) → None ≡ option_map both (find t es) → filter t es ≡ []
no_next t es e = none_left t es (none_found (find t es) e)

-- one fewer is left
pub fewer_left : (xs ys : List Kept) (x : Kept) → xs ≡ x ∷ ys → length ys < length xs
fewer_left xs ys x e = omega (arith, ap length e)

-- what is left below a path begins with all that is there
pub content_under : (path : List (List ℕ)) (es : List Kept) (q : List (List ℕ)) → is_prefix path q ≡ true → content_of (filter (is_later_under path None) es) q ≡ content_of es q
content_under path es q e = content_filtered (is_prefix path) (is_later_under path None) (λ x. refl) es q ∙ ap (λ b. cond b (content_of es q) None) e

-- and what is left of all with all
pub content_all : (es : List Kept) (q : List (List ℕ)) → content_of (filter (is_later None) es) q ≡ content_of es q
content_all es q = content_filtered (λ p. true) (is_later None) (λ x. refl) es q

-- behind a path nothing is at it
pub content_behind : (p : List (List ℕ)) (es : List Kept) → content_of (filter (is_later (Some p)) es) p ≡ None
content_behind p es =
    content_filtered (λ q. is_lt (path_cmp p q)) (is_later (Some p)) (λ x. refl) es p ∙ ap (λ o. cond (is_lt o) (content_of es p) None) (path_cmp-refl p)

pub content_behind_under : (path p : List (List ℕ)) (es : List Kept) → content_of (filter (is_later_under path (Some p)) es) p ≡ None
content_behind_under path p es =
    content_filtered (λ q. is_prefix path q && is_lt (path_cmp p q)) (is_later_under path (Some p)) (λ x. refl) es p
    ∙ ap (λ b. cond b (content_of es p) None) (ap (λ o. is_prefix path p && is_lt o) (path_cmp-refl p) ∙ none_both (is_prefix path p))
