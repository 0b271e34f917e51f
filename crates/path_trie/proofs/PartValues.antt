-- What stands at a path once a part was cut out, hung in or changed.
use Rattle.mat_path.proofs.Overlaps.{apart_of_prefixes}
use Rattle.mat_path.proofs.PathLemmas.{prefix-refl}
use Rattle.mat_path.proofs.SameNames.{same_names-eq}
use Rattle.std.proofs.Common.{◌≡◌, ℕ, Bool, true, false, not, cond, ◌||◌, List, [], ◌∷◌, ◌++◌, map, refl, ◌∙◌, sym, ap}
use Rattle.std.proofs.lemmas.Bool.{both_ways}
use Rattle.std.proofs.lemmas.List.Folds.{find-append, list_any-append}
use Rattle.std.specs.Cmp.{first_so, second_so}
use Rattle.std.specs.List.{filter, find, list_any}
use Rattle.std.specs.Option.{option_map, option_or}
use Rattle.std.specs.Ordering.{is_lt}
use Rattle.std.specs.declared.option.Option.{Option}
use Rattle.std.specs.declared.option.Option.TheVariants.{Some, None}
use Rattle.mat_path.specs.Names.{is_prefix, overlap, path_cmp, same_names}
use Rattle.path_trie.specs.declared.entry.Entry.{Entry}
use Rattle.path_trie.specs.Edits.{edited_entry}
use Rattle.path_trie.specs.Entries.{cut_at, is_at, is_before, is_behind, is_past, is_under, spliced, value_at, value_of}
use Rattle.path_trie.proofs.Onwards.{not_both, not_true, under_from}
use Rattle.path_trie.proofs.Parted.{from_past, mark_spliced}
use Rattle.path_trie.proofs.Values.{find_gone, find_kept}

or_true : (b : Bool) → (b || true) ≡ true
or_true true = refl
or_true false = refl

-- whether an entry at one path is at or below another, by the paths
at_under : {V : Type 0} (p q : List (List ℕ)) (x : Entry V) → is_at q x ≡ true → is_under p x ≡ is_prefix p q
at_under p q x at = ap (is_prefix p) (sym (same_names-eq q x.path at))

under_gone : {V : Type 0} (p q : List (List ℕ)) → is_prefix p q ≡ false → (x : Entry V) → is_under p x ≡ true → is_at q x ≡ false
under_gone p q out x under = by (is_at q x) refl
  where
    by : (b : Bool) → is_at q x ≡ b → b ≡ false
    by true at = absurd (both_ways (is_prefix p q) out (sym (at_under p q x at) ∙ under))
    by false at = refl

-- what stands at a path among those at and below one
pub value_part : {V : Type 0} (p q : List (List ℕ)) (xs : List (Entry V)) → value_at q (filter (is_under p) xs) ≡ cond (is_prefix p q) (value_at q xs) None
value_part p q xs = by (is_prefix p q) refl
  where
    by : (b : Bool) → is_prefix p q ≡ b → value_at q (filter (is_under p) xs) ≡ cond b (value_at q xs) None
    by true e = ap (option_map value_of) (find_kept (is_at q) (is_under p) (λ x at. at_under p q x at ∙ e) xs)
    by false e = ap (option_map value_of) (find_gone (is_at q) (is_under p) (under_gone p q e) xs)

-- once what others have at and below a path stands in its place
pub value_spliced : {V : Type 0} (p q : List (List ℕ)) (others xs : List (Entry V)) → value_at q (spliced p others xs) ≡ cond (is_prefix p q) (value_at q others) (value_at q xs)
value_spliced {V} p q others xs =
    ap (option_map value_of)
    (find-append (is_at q) (filter (is_before p) xs) (filter (is_under p) others ++ filter (is_past p) xs)
    ∙ ap (option_or (find (is_at q) (filter (is_before p) xs))) (find-append (is_at q) (filter (is_under p) others) (filter (is_past p) xs)))
    ∙ by (is_prefix p q) refl (is_lt (path_cmp q p)) refl
  where
    all : Option (Entry V) → Option (Entry V) → Option (Entry V) → Option V
    all front here back = option_map value_of (option_or front (option_or here back))

    or_none : (o : Option (Entry V)) → option_or o None ≡ o
    or_none None = refl
    or_none (Some x) = refl

    -- an entry at q stands to p as q does
    at_before : (x : Entry V) → is_at q x ≡ true → is_before p x ≡ is_lt (path_cmp q p)
    at_before x at = ap (λ t. is_lt (path_cmp t p)) (sym (same_names-eq q x.path at))

    off_before : is_lt (path_cmp q p) ≡ false → (x : Entry V) → is_before p x ≡ true → is_at q x ≡ false
    off_before e x before = test (is_at q x) refl
      where
        test : (b : Bool) → is_at q x ≡ b → b ≡ false
        test true at = absurd (both_ways (is_lt (path_cmp q p)) e (sym (at_before x at) ∙ before))
        test false at = refl

    off_past : is_prefix p q ≡ true → (x : Entry V) → is_past p x ≡ true → is_at q x ≡ false
    off_past e x past = test (is_at q x) refl
      where
        test : (b : Bool) → is_at q x ≡ b → b ≡ false
        test true at = absurd (both_ways (is_under p x) (not_true (is_under p x) (second_so (is_behind p x) (not (is_under p x)) past)) (at_under p q x at ∙ e))
        test false at = refl

    past_before : is_lt (path_cmp q p) ≡ true → (x : Entry V) → is_past p x ≡ true → is_at q x ≡ false
    past_before e x past = test (is_at q x) refl
      where
        test : (b : Bool) → is_at q x ≡ b → b ≡ false
        test true at =
            absurd (both_ways (is_before p x) (not_both p x.path (first_so (is_behind p x) (not (is_under p x)) past)) (at_before x at ∙ e))
        test false at = refl

    under_lt : is_prefix p q ≡ true → is_lt (path_cmp q p) ≡ false
    under_lt e = let here : Entry Bool = record { path = q; value = true } in not_true (is_lt (path_cmp q p)) (under_from p here e)

    by : (b : Bool) → is_prefix p q ≡ b → (c : Bool) → is_lt (path_cmp q p) ≡ c
        → all (find (is_at q) (filter (is_before p) xs)) (find (is_at q) (filter (is_under p) others)) (find (is_at q) (filter (is_past p) xs)) ≡ cond b (value_at q others) (value_at q xs)
    by true e c f =
        ap (λ t. all t (find (is_at q) (filter (is_under p) others)) (find (is_at q) (filter (is_past p) xs))) (find_gone (is_at q) (is_before p) (off_before (under_lt e)) xs)
        ∙ ap (λ t. all None t (find (is_at q) (filter (is_past p) xs))) (find_kept (is_at q) (is_under p) (λ x at. at_under p q x at ∙ e) others)
        ∙ ap (all None (find (is_at q) others)) (find_gone (is_at q) (is_past p) (off_past e) xs)
        ∙ ap (option_map value_of) (or_none (find (is_at q) others))
    by false e true f =
        ap (λ t. all t (find (is_at q) (filter (is_under p) others)) (find (is_at q) (filter (is_past p) xs))) (find_kept (is_at q) (is_before p) (λ x at. at_before x at ∙ f) xs)
        ∙ ap (λ t. all (find (is_at q) xs) t (find (is_at q) (filter (is_past p) xs))) (find_gone (is_at q) (is_under p) (under_gone p q e) others)
        ∙ ap (all (find (is_at q) xs) None) (find_gone (is_at q) (is_past p) (past_before f) xs)
        ∙ ap (option_map value_of) (or_none (find (is_at q) xs))
    by false e false f =
        ap (λ t. all t (find (is_at q) (filter (is_under p) others)) (find (is_at q) (filter (is_past p) xs))) (find_gone (is_at q) (is_before p) (off_before f) xs)
        ∙ ap (λ t. all None t (find (is_at q) (filter (is_past p) xs))) (find_gone (is_at q) (is_under p) (under_gone p q e) others)
        ∙ ap (all None None) (find_kept (is_at q) (is_past p) (λ x at. from_past p x (at_before x at ∙ f) (at_under p q x at ∙ e)) xs)

-- once a part was cut out, and a mark was left
pub value_cut : {V : Type 0} (p q : List (List ℕ)) (mark : V) (xs : List (Entry V))
    → value_at q (cut_at p mark xs) ≡ cond (is_prefix p q) (cond (same_names q p) (Some mark) None) (value_at q xs)
value_cut {V} p q mark xs =
    ap (value_at q) (sym (mark_spliced p mark xs)) ∙ value_spliced p q (record { path = p; value = mark } ∷ []) xs
    ∙ ap (λ o. cond (is_prefix p q) o (value_at q xs)) (alone (same_names q p))
  where
    alone : (b : Bool) → option_map value_of (cond b (Some (record { path = p; value = mark })) None) ≡ cond b (Some mark) None
    alone true = refl
    alone false = refl

-- once the values were changed
pub value_edited : {V : Type 0} (q : List (List ℕ)) (change : List (List ℕ) → V → V) (xs : List (Entry V)) → value_at q (map (edited_entry change) xs) ≡ option_map (change q) (value_at q xs)
value_edited q change [] = refl
value_edited {V} q change (x ∷ xs) = by (is_at q x) refl (value_edited q change xs)
  where
    by : (b : Bool) → is_at q x ≡ b → value_at q (map (edited_entry change) xs) ≡ option_map (change q) (value_at q xs)
        → option_map value_of (cond b (Some (edited_entry change x)) (find (is_at q) (map (edited_entry change) xs))) ≡ option_map (change q) (option_map value_of (cond b (Some x) (find (is_at q) xs)))
    by true at more = ap (λ t. Some (change t x.value)) (sym (same_names-eq q x.path at))
    by false at more = more

-- ---- whether something stands at and below a path

-- a mark does where a part was cut out
pub under_cut : {V : Type 0} (p : List (List ℕ)) (mark : V) (xs : List (Entry V)) → list_any (is_under p) (cut_at p mark xs) ≡ true
under_cut p mark xs =
    list_any-append (is_under p) (filter (is_before p) xs) (record { path = p; value = mark } ∷ filter (is_past p) xs)
    ∙ ap (λ b. list_any (is_under p) (filter (is_before p) xs) || (b || list_any (is_under p) (filter (is_past p) xs))) (prefix-refl p)
    ∙ or_true (list_any (is_under p) (filter (is_before p) xs))

-- what stands at and below a path that is apart from another isn't changed by a part that is cut out or hung in there
pub under_apart : {V : Type 0} (p q : List (List ℕ)) (others xs : List (Entry V)) → overlap p q ≡ false → list_any (is_under q) (spliced p others xs) ≡ list_any (is_under q) xs
under_apart {V} p q others xs apart =
    list_any-append (is_under q) (filter (is_before p) xs) (filter (is_under p) others ++ filter (is_past p) xs)
    ∙ ap (λ b. list_any (is_under q) (filter (is_before p) xs) || b)
    (list_any-append (is_under q) (filter (is_under p) others) (filter (is_past p) xs)
    ∙ ap (λ b. b || list_any (is_under q) (filter (is_past p) xs)) (none others))
    ∙ both xs
  where
    out : (x : Entry V) → is_under p x ≡ true → is_under q x ≡ false
    out x under = apart_of_prefixes p q x.path apart under

    push : (t : Bool) (y : Entry V) (ys : List (Entry V)) → list_any (is_under q) (cond t (y ∷ ys) ys) ≡ cond t (is_under q y || list_any (is_under q) ys) (list_any (is_under q) ys)
    push true y ys = refl
    push false y ys = refl

    none : (ys : List (Entry V)) → list_any (is_under q) (filter (is_under p) ys) ≡ false
    none [] = refl
    none (y ∷ ys) = push (is_under p y) y (filter (is_under p) ys) ∙ by (is_under p y) refl (none ys)
      where
        by : (b : Bool) → is_under p y ≡ b → list_any (is_under q) (filter (is_under p) ys) ≡ false
            → cond b (is_under q y || list_any (is_under q) (filter (is_under p) ys)) (list_any (is_under q) (filter (is_under p) ys)) ≡ false
        by true under more = ap (λ b. b || list_any (is_under q) (filter (is_under p) ys)) (out y under) ∙ more
        by false under more = more

    outside : (x : Entry V) → is_under q x ≡ true → is_under p x ≡ false
    outside x under = test (is_under p x) refl
      where
        test : (b : Bool) → is_under p x ≡ b → b ≡ false
        test true e = absurd (both_ways (is_under q x) (out x e) under)
        test false e = refl

    both : (ys : List (Entry V)) → (list_any (is_under q) (filter (is_before p) ys) || (false || list_any (is_under q) (filter (is_past p) ys))) ≡ list_any (is_under q) ys
    both [] = refl
    both (y ∷ ys) =
        ap (λ b. b || (false || list_any (is_under q) (cond (is_past p y) (y ∷ filter (is_past p) ys) (filter (is_past p) ys)))) (push (is_before p y) y (filter (is_before p) ys))
        ∙ ap (λ b. cond (is_before p y) (is_under q y || list_any (is_under q) (filter (is_before p) ys)) (list_any (is_under q) (filter (is_before p) ys)) || (false || b))
        (push (is_past p y) y (filter (is_past p) ys))
        ∙ one (is_before p y) (is_past p y) (is_under q y) (list_any (is_under q) (filter (is_before p) ys)) (list_any (is_under q) (filter (is_past p) ys)) (list_any (is_under q) ys)
        (both ys) (λ b u. from_past p y b (outside y u))
      where
        one : (before past under a c l : Bool) → (a || (false || c)) ≡ l → (before ≡ false → under ≡ true → past ≡ true)
            → (cond before (under || a) a || (false || cond past (under || c) c)) ≡ (under || l)
        one true past true a c l e f = refl
        one true true false a c l e f = e
        one true false false a c l e f = e
        one false true true a c l e f = or_true a
        one false true false a c l e f = e
        one false false true a c l e f = let lost : false ≡ true = f refl refl in cc
        one false false false a c l e f = e
