-- What stands at a path once a value was put or removed.
use Rattle.std.proofs.Common.{◌≡◌, ℕ, Bool, true, false, not, cond, List, [], ◌∷◌, Ordering, Less, Equal, Greater, refl, ◌∙◌, sym, ap}
use Rattle.std.proofs.lemmas.List.Folds.{find-append}
use Rattle.std.specs.List.{filter, find}
use Rattle.std.specs.Option.{option_map, option_or}
use Rattle.std.specs.Ordering.{is_lt, ordering_reverse}
use Rattle.std.specs.declared.option.Option.{Option}
use Rattle.std.specs.declared.option.Option.TheVariants.{Some, None}
use Rattle.mat_path.specs.Names.{path_cmp, same_names}
use Rattle.mat_path.proofs.PathLemmas.{lt_less, path_cmp_total, path_cmp_equal, path_cmp-refl}
use Rattle.mat_path.proofs.SameNames.{same_names-eq, same_names-refl}
use Rattle.path_trie.specs.declared.entry.Entry.{Entry}
use Rattle.path_trie.specs.Entries.{is_at, is_before, is_behind, is_elsewhere, put, value_at, value_of, without}

-- what is found among those that a wider test keeps is what is found among all
pub find_kept : {X : Type 0} (p t : X → Bool) → ((x : X) → p x ≡ true → t x ≡ true) → (xs : List X) → find p (filter t xs) ≡ find p xs
find_kept p t f [] = refl
find_kept {X} p t f (x ∷ xs) = by (p x) (t x) (f x) refl (find_kept p t f xs)
  where
    by : (a b : Bool) → (a ≡ true → b ≡ true) → p x ≡ a → find p (filter t xs) ≡ find p xs
        → find p (cond b (x ∷ filter t xs) (filter t xs)) ≡ cond a (Some x) (find p xs)
    by true true g e more = ap (λ c. cond c (Some x) (find p (filter t xs))) e
    by true false g e more = let lost : false ≡ true = g refl in cc
    by false true g e more = ap (λ c. cond c (Some x) (find p (filter t xs))) e ∙ more
    by false false g e more = more

-- nothing is found among those that another test keeps
pub find_gone : {X : Type 0} (p t : X → Bool) → ((x : X) → t x ≡ true → p x ≡ false) → (xs : List X) → find p (filter t xs) ≡ None
find_gone p t f [] = refl
find_gone {X} p t f (x ∷ xs) = by (t x) (f x) (find_gone p t f xs)
  where
    by : (b : Bool) → (b ≡ true → p x ≡ false) → find p (filter t xs) ≡ None → find p (cond b (x ∷ filter t xs) (filter t xs)) ≡ None
    by true g more = ap (λ c. cond c (Some x) (find p (filter t xs))) (g refl) ∙ more
    by false g more = more

-- a path that comes before another is another one
pub apart : (p q : List (List ℕ)) (o : Ordering) → path_cmp p q ≡ o → is_lt o ≡ true → same_names p q ≡ false
apart p q o e less = by (same_names p q) refl
  where
    by : (b : Bool) → same_names p q ≡ b → b ≡ false
    by true same =
        let equal : path_cmp p q ≡ Equal = ap (path_cmp p) (sym (same_names-eq p q same)) ∙ path_cmp-refl p in
        let lost : is_lt Equal ≡ true = ap is_lt (sym equal ∙ e) ∙ less in cc
    by false same = refl

-- the same, the other way round
pub apart_behind : (p q : List (List ℕ)) → is_lt (path_cmp q p) ≡ true → same_names p q ≡ false
apart_behind p q less = by (same_names p q) refl
  where
    by : (b : Bool) → same_names p q ≡ b → b ≡ false
    by true same =
        let equal : path_cmp q p ≡ Equal = ap (λ r. path_cmp r p) (sym (same_names-eq p q same)) ∙ path_cmp-refl p in
        let lost : is_lt Equal ≡ true = ap is_lt (sym equal) ∙ less in cc
    by false same = refl

-- what stands at a path once a value was put
pub value_put : {V : Type 0} (p q : List (List ℕ)) (v : V) (xs : List (Entry V)) → value_at p (put q v xs) ≡ cond (same_names p q) (Some v) (value_at p xs)
value_put {V} p q v xs =
    ap (option_map value_of) (find-append (is_at p) (filter (is_before q) xs) (record { path = q; value = v } ∷ filter (is_behind q) xs))
    ∙ by (same_names p q) refl (path_cmp p q) refl
  where
    new : Entry V
    new = record { path = q; value = v }

    around : Option (Entry V) → Bool → Option (Entry V) → Option V
    around front here back = option_map value_of (option_or front (cond here (Some new) back))

    none_before : same_names p q ≡ true → (x : Entry V) → is_before q x ≡ true → is_at p x ≡ false
    none_before same x before = apart_behind p x.path (ap (λ r. is_lt (path_cmp x.path r)) (same_names-eq p q same) ∙ before)

    front_kept : path_cmp p q ≡ Less → (x : Entry V) → is_at p x ≡ true → is_before q x ≡ true
    front_kept less x at = ap (λ r. is_lt (path_cmp r q)) (sym (same_names-eq p x.path at)) ∙ ap is_lt less

    back_gone : path_cmp p q ≡ Less → (x : Entry V) → is_behind q x ≡ true → is_at p x ≡ false
    back_gone less x behind = apart p x.path Less (path_cmp_total.trans p q x.path less (lt_less (path_cmp q x.path) behind)) refl

    back_kept : path_cmp p q ≡ Greater → (x : Entry V) → is_at p x ≡ true → is_behind q x ≡ true
    back_kept greater x at =
        ap (λ r. is_lt (path_cmp q r)) (sym (same_names-eq p x.path at)) ∙ ap is_lt (path_cmp_total.antisymm q p ∙ ap ordering_reverse greater)

    front_gone : path_cmp p q ≡ Greater → (x : Entry V) → is_before q x ≡ true → is_at p x ≡ false
    front_gone greater x before = by_same (same_names p x.path) refl
      where
        by_same : (b : Bool) → same_names p x.path ≡ b → b ≡ false
        by_same true at =
            let lost : is_lt Greater ≡ true = ap is_lt (sym greater) ∙ ap (λ r. is_lt (path_cmp r q)) (same_names-eq p x.path at) ∙ before in cc
        by_same false at = refl

    by : (b : Bool) → same_names p q ≡ b → (o : Ordering) → path_cmp p q ≡ o
        → around (find (is_at p) (filter (is_before q) xs)) (same_names p q) (find (is_at p) (filter (is_behind q) xs)) ≡ cond b (Some v) (value_at p xs)
    by true same o e =
        ap (λ f. around f (same_names p q) (find (is_at p) (filter (is_behind q) xs))) (find_gone (is_at p) (is_before q) (none_before same) xs)
        ∙ ap (λ b. around None b (find (is_at p) (filter (is_behind q) xs))) same
    by false same Less e =
        ap (λ f. around f (same_names p q) (find (is_at p) (filter (is_behind q) xs))) (find_kept (is_at p) (is_before q) (front_kept e) xs)
        ∙ ap (λ b. around (find (is_at p) xs) b (find (is_at p) (filter (is_behind q) xs))) same
        ∙ ap (λ f. around (find (is_at p) xs) false f) (find_gone (is_at p) (is_behind q) (back_gone e) xs)
        ∙ or_none (find (is_at p) xs)
      where
        or_none : (o : Option (Entry V)) → around o false None ≡ option_map value_of o
        or_none None = refl
        or_none (Some x) = refl
    by false same Equal e =
        let equal : same_names p q ≡ true = ap (same_names p) (sym (path_cmp_equal p q e)) ∙ same_names-refl p in
        let lost : true ≡ false = sym equal ∙ same in cc
    by false same Greater e =
        ap (λ f. around f (same_names p q) (find (is_at p) (filter (is_behind q) xs))) (find_gone (is_at p) (is_before q) (front_gone e) xs)
        ∙ ap (λ b. around None b (find (is_at p) (filter (is_behind q) xs))) same
        ∙ ap (λ f. around None false f) (find_kept (is_at p) (is_behind q) (back_kept e) xs)

-- what stands at a path once what stood at one was removed
pub value_without : {V : Type 0} (p q : List (List ℕ)) (xs : List (Entry V)) → value_at p (without q xs) ≡ cond (same_names p q) None (value_at p xs)
value_without {V} p q xs = by (same_names p q) refl
  where
    gone : same_names p q ≡ true → (x : Entry V) → is_elsewhere q x ≡ true → is_at p x ≡ false
    gone same x elsewhere = ap (λ r. same_names r x.path) (same_names-eq p q same) ∙ not_so (same_names q x.path) elsewhere
      where
        not_so : (b : Bool) → not b ≡ true → b ≡ false
        not_so true e = cc
        not_so false e = refl

    kept : same_names p q ≡ false → (x : Entry V) → is_at p x ≡ true → is_elsewhere q x ≡ true
    kept other x at = ap (λ r. not (same_names q r)) (sym (same_names-eq p x.path at)) ∙ ap not (turned (same_names q p) refl)
      where
        turned : (b : Bool) → same_names q p ≡ b → same_names q p ≡ false
        turned true same =
            let equal : same_names p q ≡ true = ap (same_names p) (same_names-eq q p same) ∙ same_names-refl p in
            let lost : true ≡ false = sym equal ∙ other in cc
        turned false same = same

    by : (b : Bool) → same_names p q ≡ b → option_map value_of (find (is_at p) (without q xs)) ≡ cond b None (value_at p xs)
    by true same = ap (option_map value_of) (find_gone (is_at p) (is_elsewhere q) (gone same) xs)
    by false other = ap (option_map value_of) (find_kept (is_at p) (is_elsewhere q) (kept other) xs)
