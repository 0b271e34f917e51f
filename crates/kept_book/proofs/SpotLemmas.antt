-- What spots stand for, where one of them changes.
use Rattle.std.proofs.Common.{◌≡◌, ℕ, Bool, true, false, not, cond, List, [], ◌∷◌, ◌++◌, Ordering, Less, Equal, Greater, refl, ◌∙◌, sym, ap}
use Rattle.std.proofs.lemmas.List.Concat.{flat_map-append}
use Rattle.std.proofs.lemmas.List.Elements.{filter-append}
use Rattle.std.specs.Cmp.{first_so, second_so}
use Rattle.std.specs.List.{filter, find, flat_map, list_all}
use Rattle.std.specs.Option.{option_map}
use Rattle.std.specs.Ordering.{is_lt, ordering_reverse}
use Rattle.std.specs.declared.option.Option.{Option}
use Rattle.std.specs.declared.option.Option.TheVariants.{Some, None}
use Rattle.mat_path.specs.Names.{path_cmp, same_names}
use Rattle.mat_path.proofs.PathLemmas.{lt_less, path_cmp_total, path_cmp_equal, path_cmp-refl}
use Rattle.mat_path.proofs.SameNames.{same_names-refl}
use Rattle.path_trie.specs.declared.entry.Entry.{Entry}
use Rattle.path_trie.specs.Entries.{ascends, is_at, is_before, is_behind, is_elsewhere, is_less, put, value_at, value_of, without}
use Rattle.path_trie.proofs.Lists.{all_so, filter_passes}
use Rattle.path_trie.proofs.Parted.{filter_kept, filter_left}
use Rattle.path_trie.proofs.Onwards.{not_both}
use Rattle.path_trie.proofs.Values.{apart, apart_behind}
use Rattle.kept_book.specs.declared.spot.Spot.{Spot}
use Rattle.kept_book.specs.Spots.{all_told, told, told_at}

-- ---- a test of what a list stands for

pub flat_filter : {X Y : Type 0} (f : X → List Y) (p : Y → Bool) (q : X → Bool) → ((x : X) → filter p (f x) ≡ cond (q x) (f x) []) → (xs : List X)
    → filter p (flat_map f xs) ≡ flat_map f (filter q xs)
flat_filter f p q same [] = refl
flat_filter f p q same (x ∷ xs) =
    filter-append p (f x) (flat_map f xs)
    ∙ ap (λ t. t ++ filter p (flat_map f xs)) (same x)
    ∙ ap (λ t. cond (q x) (f x) [] ++ t) (flat_filter f p q same xs)
    ∙ by (q x)
  where
    by : (b : Bool) → cond b (f x) [] ++ flat_map f (filter q xs) ≡ flat_map f (cond b (x ∷ filter q xs) (filter q xs))
    by true = refl
    by false = refl

-- ---- the spots around a path

-- the entry of a spot at a path, if there is one
abbrev pub at_place : List (List ℕ) → Option Spot → List (Entry Spot)
at_place path None = []
at_place path (Some one) = record { path = path; value = one } ∷ []

not_at : (p : List (List ℕ)) (xs : List (Entry Spot)) → list_all (is_behind p) xs ≡ true → find (is_at p) xs ≡ None
not_at p [] h = refl
not_at p (x ∷ xs) h =
    ap (λ b. cond b (Some x) (find (is_at p) xs)) (apart p x.path (path_cmp p x.path) refl (first_so (is_behind p x) (list_all (is_behind p) xs) h))
    ∙ not_at p xs (second_so (is_behind p x) (list_all (is_behind p) xs) h)

before_not : (p : List (List ℕ)) (x : Entry Spot) → is_behind p x ≡ true → is_before p x ≡ false
before_not p x h = not_both p x.path h

-- entries in order are those before a path, the one at it and those behind it
pub split : (p : List (List ℕ)) (xs : List (Entry Spot)) → ascends xs ≡ true
    → xs ≡ filter (is_before p) xs ++ (at_place p (value_at p xs) ++ filter (is_behind p) xs)
split p [] h = refl
split p (x ∷ xs) h =
    by (path_cmp x.path p) refl (first_so (list_all (is_less x) xs) (ascends xs) h) (split p xs (second_so (list_all (is_less x) xs) (ascends xs) h))
  where
    form : Bool → Bool → Bool → List (Entry Spot)
    form before at behind =
        cond before (x ∷ filter (is_before p) xs) (filter (is_before p) xs)
        ++ (at_place p (option_map value_of (cond at (Some x) (find (is_at p) xs))) ++ cond behind (x ∷ filter (is_behind p) xs) (filter (is_behind p) xs))

    forms : (a b c d e f : Bool) → a ≡ d → b ≡ e → c ≡ f → form a b c ≡ form d e f
    forms a b c d e f g h i = ap (λ t. form t b c) g ∙ ap (λ t. form d t c) h ∙ ap (λ t. form d e t) i

    around : List (Entry Spot) → Option (Entry Spot) → List (Entry Spot) → List (Entry Spot)
    around front here back = front ++ (at_place p (option_map value_of here) ++ back)

    arounds : (front : List (Entry Spot)) (here : Option (Entry Spot)) (back : List (Entry Spot)) → filter (is_before p) xs ≡ front → filter (is_behind p) xs ≡ back
        → around (filter (is_before p) xs) here (filter (is_behind p) xs) ≡ around front here back
    arounds front here back f g = ap (λ t. around t here (filter (is_behind p) xs)) f ∙ ap (λ t. around front here t) g

    all_behind : ((y : Entry Spot) → is_less x y ≡ true → is_behind p y ≡ true) → list_all (is_less x) xs ≡ true → list_all (is_behind p) xs ≡ true
    all_behind f l = all_so (is_less x) (is_behind p) f xs l

    by : (o : Ordering) → path_cmp x.path p ≡ o → list_all (is_less x) xs ≡ true → xs ≡ filter (is_before p) xs ++ (at_place p (value_at p xs) ++ filter (is_behind p) xs)
        → x ∷ xs ≡ form (is_before p x) (is_at p x) (is_behind p x)
    by Less o l more =
        ap (λ t. x ∷ t) more
        ∙ sym (forms (is_before p x) (is_at p x) (is_behind p x) true false false (ap is_lt o) (apart_behind p x.path (ap is_lt o)) (not_both x.path p (ap is_lt o)))
    by Equal o l more =
        let same : x.path ≡ p = path_cmp_equal x.path p o in
        let all = all_behind (λ y k. ap (λ q. is_lt (path_cmp q y.path)) (sym same) ∙ k) l in
        ap (λ (q : List (List ℕ)). record { path = q; value = x.value } ∷ xs) same
        ∙ sym (arounds [] (Some x) xs (filter_left (is_before p) (is_behind p) (before_not p) xs all) (filter_kept (is_behind p) xs all))
        ∙ sym (forms (is_before p x) (is_at p x) (is_behind p x) false true false (ap is_lt o) (ap (same_names p) same ∙ same_names-refl p)
        (ap (λ q. is_lt (path_cmp p q)) same ∙ ap is_lt (path_cmp-refl p)))
    by Greater o l more =
        let less : path_cmp p x.path ≡ Less = path_cmp_total.antisymm p x.path ∙ ap ordering_reverse o in
        let all = all_behind (λ y k. ap is_lt (path_cmp_total.trans p x.path y.path less (lt_less (path_cmp x.path y.path) k))) l in
        ap (λ (here : Option (Entry Spot)). around [] here (x ∷ xs)) (sym (not_at p xs all))
        ∙ ap (λ t. around t (find (is_at p) xs) (x ∷ xs)) (sym (filter_left (is_before p) (is_behind p) (before_not p) xs all))
        ∙ ap (λ t. around (filter (is_before p) xs) (find (is_at p) xs) (x ∷ t)) (sym (filter_kept (is_behind p) xs all))
        ∙ sym (forms (is_before p x) (is_at p x) (is_behind p x) false false true (ap is_lt o) (apart p x.path Less less refl) (ap is_lt less))

-- ---- what stands for what, around a path

pub front_told : {Y : Type 0} (f : List (List ℕ) → Spot → List Y) (p : List (List ℕ)) (v : Spot) (xs : List (Entry Spot))
    → all_told f (put p v xs) ≡ all_told f (filter (is_before p) xs) ++ (f p v ++ all_told f (filter (is_behind p) xs))
front_told f p v xs = flat_map-append (told f) (filter (is_before p) xs) (record { path = p; value = v } ∷ filter (is_behind p) xs)

pub parts_told : {Y : Type 0} (f : List (List ℕ) → Spot → List Y) (p : List (List ℕ)) (xs : List (Entry Spot)) → ascends xs ≡ true
    → all_told f xs ≡ all_told f (filter (is_before p) xs) ++ (told_at f p (value_at p xs) ++ all_told f (filter (is_behind p) xs))
parts_told {Y} f p xs h =
    ap (all_told f) (split p xs h)
    ∙ flat_map-append (told f) (filter (is_before p) xs) (at_place p (value_at p xs) ++ filter (is_behind p) xs)
    ∙ ap (λ t. all_told f (filter (is_before p) xs) ++ t) (by (value_at p xs))
  where
    by : (o : Option Spot) → all_told f (at_place p o ++ filter (is_behind p) xs) ≡ told_at f p o ++ all_told f (filter (is_behind p) xs)
    by None = refl
    by (Some v) = refl

-- the entries without that at a path are those before and behind it
without_is : (p : List (List ℕ)) (xs : List (Entry Spot)) → ascends xs ≡ true → without p xs ≡ filter (is_before p) xs ++ filter (is_behind p) xs
without_is p xs h =
    ap (without p) (split p xs h)
    ∙ filter-append (is_elsewhere p) (filter (is_before p) xs) (at_place p (value_at p xs) ++ filter (is_behind p) xs)
    ∙ ap (λ t. t ++ without p (at_place p (value_at p xs) ++ filter (is_behind p) xs))
    (filter_kept (is_elsewhere p) (filter (is_before p) xs) (all_so (is_before p) (is_elsewhere p) (λ x k. ap not (apart_behind p x.path k)) (filter (is_before p) xs) (filter_passes (is_before p) xs)))
    ∙ ap (λ t. filter (is_before p) xs ++ t) (by (value_at p xs))
  where
    back : without p (filter (is_behind p) xs) ≡ filter (is_behind p) xs
    back =
        filter_kept (is_elsewhere p) (filter (is_behind p) xs)
        (all_so (is_behind p) (is_elsewhere p) (λ x k. ap not (apart p x.path (path_cmp p x.path) refl k)) (filter (is_behind p) xs) (filter_passes (is_behind p) xs))

    by : (o : Option Spot) → without p (at_place p o ++ filter (is_behind p) xs) ≡ filter (is_behind p) xs
    by None = back
    by (Some v) =
        ap (λ b. cond (not b) (record { path = p; value = v } ∷ without p (filter (is_behind p) xs)) (without p (filter (is_behind p) xs))) (same_names-refl p) ∙ back

pub without_told : {Y : Type 0} (f : List (List ℕ) → Spot → List Y) (p : List (List ℕ)) (xs : List (Entry Spot)) → ascends xs ≡ true
    → all_told f (without p xs) ≡ all_told f (filter (is_before p) xs) ++ all_told f (filter (is_behind p) xs)
without_told f p xs h = ap (all_told f) (without_is p xs h) ∙ flat_map-append (told f) (filter (is_before p) xs) (filter (is_behind p) xs)

-- a spot that stands for the same as the old one
pub told_same : {Y : Type 0} (f : List (List ℕ) → Spot → List Y) (p : List (List ℕ)) (v : Spot) (xs : List (Entry Spot)) → ascends xs ≡ true
    → f p v ≡ told_at f p (value_at p xs) → all_told f (put p v xs) ≡ all_told f xs
told_same f p v xs h e =
    front_told f p v xs ∙ ap (λ t. all_told f (filter (is_before p) xs) ++ (t ++ all_told f (filter (is_behind p) xs))) e ∙ sym (parts_told f p xs h)

-- a spot that stands for nothing, in the place of the old one
pub told_gone : {Y : Type 0} (f : List (List ℕ) → Spot → List Y) (p : List (List ℕ)) (v : Spot) (xs : List (Entry Spot)) → ascends xs ≡ true
    → f p v ≡ [] → all_told f (put p v xs) ≡ all_told f (without p xs)
told_gone f p v xs h e =
    front_told f p v xs ∙ ap (λ t. all_told f (filter (is_before p) xs) ++ (t ++ all_told f (filter (is_behind p) xs))) e ∙ sym (without_told f p xs h)

-- a spot that stood for nothing goes
pub told_without : {Y : Type 0} (f : List (List ℕ) → Spot → List Y) (p : List (List ℕ)) (xs : List (Entry Spot)) → ascends xs ≡ true
    → told_at f p (value_at p xs) ≡ [] → all_told f (without p xs) ≡ all_told f xs
told_without f p xs h e =
    without_told f p xs h ∙ ap (λ t. all_told f (filter (is_before p) xs) ++ (t ++ all_told f (filter (is_behind p) xs))) (sym e) ∙ sym (parts_told f p xs h)

-- a spot that stands for one thing
pub told_put : {Y : Type 0} (f : List (List ℕ) → Spot → List Y) (p : List (List ℕ)) (v : Spot) (y : Y) (xs : List (Entry Spot)) → f p v ≡ y ∷ []
    → all_told f (put p v xs) ≡ all_told f (filter (is_before p) xs) ++ (y ∷ all_told f (filter (is_behind p) xs))
told_put f p v y xs e = front_told f p v xs ∙ ap (λ t. all_told f (filter (is_before p) xs) ++ (t ++ all_told f (filter (is_behind p) xs))) e

-- at a path is at most one entry
pub here_is : (p : List (List ℕ)) (xs : List (Entry Spot)) → ascends xs ≡ true → filter (is_at p) xs ≡ at_place p (value_at p xs)
here_is p xs h =
    ap (filter (is_at p)) (split p xs h)
    ∙ filter-append (is_at p) (filter (is_before p) xs) (at_place p (value_at p xs) ++ filter (is_behind p) xs)
    ∙ ap (λ t. t ++ filter (is_at p) (at_place p (value_at p xs) ++ filter (is_behind p) xs))
    (filter_left (is_at p) (is_before p) (λ x k. apart_behind p x.path k) (filter (is_before p) xs) (filter_passes (is_before p) xs))
    ∙ by (value_at p xs)
  where
    back : filter (is_at p) (filter (is_behind p) xs) ≡ []
    back =
        filter_left (is_at p) (is_behind p) (λ x k. apart p x.path (path_cmp p x.path) refl k) (filter (is_behind p) xs) (filter_passes (is_behind p) xs)

    by : (o : Option Spot) → filter (is_at p) (at_place p o ++ filter (is_behind p) xs) ≡ at_place p o
    by None = back
    by (Some v) =
        ap (λ b. cond b (record { path = p; value = v } ∷ filter (is_at p) (filter (is_behind p) xs)) (filter (is_at p) (filter (is_behind p) xs))) (same_names-refl p)
        ∙ ap (λ t. record { path = p; value = v } ∷ t) back
