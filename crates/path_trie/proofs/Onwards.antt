-- The first entry of a list in order that passes a test which holds from some path on.
use Rattle.mat_path.proofs.PathLemmas.{lt_less, path_cmp_total, path_cmp_equal, path_cmp-refl, prefix_not_greater}
use Rattle.mat_path.proofs.SameNames.{same_name-eq, same_name-refl, same_names-eq}
use Rattle.mat_path.specs.Order.{same_names_ties}
use Rattle.std.proofs.Common.{◌≡◌, ℕ, zero, suc, Bool, true, false, not, cond, ◌&&◌, inl, inr, List, [], ◌∷◌, map, length, Ordering, Less, Equal, Greater, is_eq, refl, ◌∙◌, sym, ap, arith}
use Rattle.std.proofs.lemmas.Bool.{both_ways}
use Rattle.std.specs.Cmp.{first_so, second_so}
use Rattle.std.specs.Cmp.Lexicographic.{texts_ties}
use Rattle.std.specs.List.{filter, find, list_all, slice_get}
use Rattle.std.specs.Option.{option_map}
use Rattle.std.specs.Ordering.{is_lt, ordering_reverse, ordering_then}
use Rattle.std.specs.declared.option.Option.{Option}
use Rattle.std.specs.declared.option.Option.TheVariants.{Some, None}
use Rattle.mat_path.specs.Names.{is_prefix, name_cmp, path_cmp, same_name, same_names}
use Rattle.path_trie.specs.declared.entry.Entry.{Entry}
use Rattle.path_trie.specs.declared.node.Node.{Node}
use Rattle.path_trie.specs.Entries.{ascends, is_at, is_before, is_behind, is_from, is_less, is_next_under, is_under, value_of}
use Rattle.path_trie.specs.Nodes.{below_node}
use Rattle.path_trie.proofs.Lists.{filter_in}
use Rattle.path_trie.specs.Roots.{is_placed, kept_if, shown, shown_all}

-- ---- what is kept, and what is seen

same_entry : {V : Type 0} (x : Entry (Entry V)) → is_placed x ≡ true → value_of x ≡ shown x
same_entry {V} x h = ap (λ (t : List (List ℕ)). record { path = t; value = x.value.value }) (same_names-eq x.value.path x.path h)

find_shown : {V : Type 0} (p : Entry (Entry V) → Bool) (q : Entry V → Bool) → ((x : Entry (Entry V)) → p x ≡ q (shown x)) → (xs : List (Entry (Entry V))) → list_all is_placed xs ≡ true
    → option_map value_of (find p xs) ≡ find q (map shown xs)
find_shown p q same [] h = refl
find_shown p q same (x ∷ xs) h =
    by (p x) (find_shown p q same xs (second_so (is_placed x) (list_all is_placed xs) h))
    ∙ ap (λ b. cond b (Some (shown x)) (find q (map shown xs))) (same x)
  where
    by : (b : Bool) → option_map value_of (find p xs) ≡ find q (map shown xs) → option_map value_of (cond b (Some x) (find p xs)) ≡ cond b (Some (shown x)) (find q (map shown xs))
    by true e = ap Some (same_entry x (first_so (is_placed x) (list_all is_placed xs) h))
    by false e = e

get_shown : {V : Type 0} (xs : List (Entry (Entry V))) (k : ℕ) → list_all is_placed xs ≡ true → option_map value_of (slice_get xs k) ≡ slice_get (map shown xs) k
get_shown [] k h = refl
get_shown (x ∷ xs) zero h = ap Some (same_entry x (first_so (is_placed x) (list_all is_placed xs) h))
get_shown (x ∷ xs) (suc k) h = get_shown xs k (second_so (is_placed x) (list_all is_placed xs) h)

pub found_shown : {V : Type 0} (root : Node (Entry V)) (now : List (Entry V)) (p : Entry (Entry V) → Bool) (q : Entry V → Bool) (o : Option (Entry V)) → ((x : Entry (Entry V)) → p x ≡ q (shown x))
    → list_all is_placed (below_node root) ≡ true → shown_all root ≡ now → o ≡ option_map value_of (find p (below_node root)) → o ≡ find q now
found_shown root now p q o same h v e = e ∙ find_shown p q same (below_node root) h ∙ ap (find q) v

pub picked_shown : {V : Type 0} (root : Node (Entry V)) (now : List (Entry V)) (k : ℕ) (o : Option (Entry V))
    → list_all is_placed (below_node root) ≡ true → shown_all root ≡ now → o ≡ option_map value_of (slice_get (below_node root) k) → o ≡ slice_get now k
picked_shown root now k o h v e = e ∙ get_shown (below_node root) k h ∙ ap (λ t. slice_get t k) v

pub shown_length : {V : Type 0} (xs : List (Entry (Entry V))) → length xs ≡ length (map shown xs)
shown_length [] = refl
shown_length (x ∷ xs) = let e = shown_length xs in omega (arith, e)

pub counted_shown : {V : Type 0} (root : Node (Entry V)) (now : List (Entry V)) (k : ℕ) → shown_all root ≡ now → k ≡ length (below_node root) → k ≡ length now
counted_shown root now k v e = e ∙ shown_length (below_node root) ∙ ap length v

count_shown : {V : Type 0} (p : Entry (Entry V) → Bool) (q : Entry V → Bool) → ((x : Entry (Entry V)) → p x ≡ q (shown x)) → (xs : List (Entry (Entry V)))
    → length (filter p xs) ≡ length (filter q (map shown xs))
count_shown p q same xs = shown_length (filter p xs) ∙ ap length (sym (filter_in shown q p (λ x. sym (same x)) xs))

pub under_shown : {V : Type 0} (root : Node (Entry V)) (names path : List (List ℕ)) (now : List (Entry V)) (k : ℕ) → names ≡ path → shown_all root ≡ now
    → k ≡ length (filter (is_under names) (below_node root)) → k ≡ length (filter (is_under path) now)
under_shown root names path now k n v e =
    e ∙ count_shown (is_under names) (is_under path) (λ x. ap (λ p. is_under p x) n) (below_node root) ∙ ap (λ t. length (filter (is_under path) t)) v

-- ---- one test for another

find_same : {X : Type 0} (p q : X → Bool) → ((x : X) → p x ≡ q x) → (xs : List X) → find p xs ≡ find q xs
find_same p q f [] = refl
find_same p q f (x ∷ xs) = ap (λ b. cond b (Some x) (find p xs)) (f x) ∙ ap (λ t. cond (q x) (Some x) t) (find_same p q f xs)

-- a test that fails of each element finds none
find_none : {X : Type 0} (p q : X → Bool) → ((x : X) → q x ≡ true → p x ≡ false) → (xs : List X) → list_all q xs ≡ true → find p xs ≡ None
find_none p q f [] h = refl
find_none p q f (x ∷ xs) h =
    ap (λ b. cond b (Some x) (find p xs)) (f x (first_so (q x) (list_all q xs) h)) ∙ find_none p q f xs (second_so (q x) (list_all q xs) h)

-- ---- the order of paths

turned : (p q : List (List ℕ)) → path_cmp p q ≡ Less → path_cmp q p ≡ Greater
turned p q h = path_cmp_total.antisymm q p ∙ ap ordering_reverse h

pub not_both : (p q : List (List ℕ)) → is_lt (path_cmp p q) ≡ true → is_lt (path_cmp q p) ≡ false
not_both p q h = ap is_lt (turned p q (lt_less (path_cmp p q) h))

at_equal : (p q : List (List ℕ)) → same_names p q ≡ true → path_cmp q p ≡ Equal
at_equal p q h = ap (λ t. path_cmp t p) (sym (same_names-eq p q h)) ∙ path_cmp-refl p

-- a path between one and another below that is below it too
pub between : (top p q : List (List ℕ)) → is_lt (path_cmp p top) ≡ false → is_lt (path_cmp p q) ≡ true → is_prefix top q ≡ true → is_prefix top p ≡ true
between [] p q a b h = refl
between (x ∷ top) p [] a b h = cc
between (x ∷ top) [] (z ∷ q) a b h = cc
between (x ∷ top) (y ∷ p) (z ∷ q) a b h =
    let same : x ≡ z = sym (same_name-eq z x (turn z x (first_so (same_name x z) (is_prefix top q) h))) in
    by (name_cmp y x) refl a (ap (λ n. is_lt (ordering_then (name_cmp y n) (path_cmp p q))) same ∙ b) (λ c d. between top p q c d (second_so (same_name x z) (is_prefix top q) h))
  where
    turn : (z x : List ℕ) → same_name x z ≡ true → same_name z x ≡ true
    turn z x e = ap (λ t. same_name z t) (same_name-eq x z e) ∙ same_name-refl z

    by : (o : Ordering) → name_cmp y x ≡ o → is_lt (ordering_then o (path_cmp p top)) ≡ false → is_lt (ordering_then o (path_cmp p q)) ≡ true
        → (is_lt (path_cmp p top) ≡ false → is_lt (path_cmp p q) ≡ true → is_prefix top p ≡ true) → (same_name x y && is_prefix top p) ≡ true
    by Less e a b more = cc
    by Equal e a b more =
        let equal : y ≡ x = same_name-eq y x (texts_ties y x ∙ ap is_eq e) in
        ap (λ t. same_name x t && is_prefix top p) equal ∙ ap (λ c. c && is_prefix top p) (same_name-refl x)
        ∙ more a b
    by Greater e a b more = cc

eq_back : (o : Ordering) → is_eq (ordering_reverse o) ≡ is_eq o
eq_back Less = refl
eq_back Equal = refl
eq_back Greater = refl

-- whether an entry is at a path, by how it stands to it
at_tie : {V : Type 0} (path : List (List ℕ)) (x : Entry V) → is_at path x ≡ is_eq (path_cmp x.path path)
at_tie path x = same_names_ties path x.path ∙ ap is_eq (path_cmp_total.antisymm path x.path) ∙ eq_back (path_cmp x.path path)

behind_tie : {V : Type 0} (path : List (List ℕ)) (x : Entry V) → is_behind path x ≡ is_lt (ordering_reverse (path_cmp x.path path))
behind_tie path x = ap is_lt (path_cmp_total.antisymm path x.path)

-- ---- from a path on

-- what stands at a path is the first from it on
pub from_at : {V : Type 0} (path : List (List ℕ)) (xs : List (Entry V)) (e : Entry V) → ascends xs ≡ true → find (is_at path) xs ≡ Some e → find (is_from path) xs ≡ Some e
from_at path [] e h f = cc
from_at {V} path (x ∷ xs) e h f =
    by (path_cmp x.path path) refl (ap (λ b. cond b (Some x) (find (is_at path) xs)) (sym (at_tie path x)) ∙ f)
    (first_so (list_all (is_less x) xs) (ascends xs) h) (λ g. from_at path xs e (second_so (list_all (is_less x) xs) (ascends xs) h) g)
  where
    by : (o : Ordering) → path_cmp x.path path ≡ o → cond (is_eq (path_cmp x.path path)) (Some x) (find (is_at path) xs) ≡ Some e → list_all (is_less x) xs ≡ true
        → (find (is_at path) xs ≡ Some e → find (is_from path) xs ≡ Some e) → cond (not (is_lt (path_cmp x.path path))) (Some x) (find (is_from path) xs) ≡ Some e
    by Less o g later more =
        ap (λ c. cond (not (is_lt c)) (Some x) (find (is_from path) xs)) o ∙ more (ap (λ c. cond (is_eq c) (Some x) (find (is_at path) xs)) (sym o) ∙ g)
    by Equal o g later more =
        ap (λ c. cond (not (is_lt c)) (Some x) (find (is_from path) xs)) o ∙ ap (λ c. cond (is_eq c) (Some x) (find (is_at path) xs)) (sym o) ∙ g
    by Greater o g later more =
        let none : find (is_at path) xs ≡ None = find_none (is_at path) (is_less x) past xs later in
        let lost : None ≡ Some e = sym none ∙ ap (λ c. cond (is_eq c) (Some x) (find (is_at path) xs)) (sym o) ∙ g in cc
      where
        past : (y : Entry V) → is_less x y ≡ true → is_at path y ≡ false
        past y after =
            let before : path_cmp path x.path ≡ Less = path_cmp_total.antisymm path x.path ∙ ap ordering_reverse o in
            let less = path_cmp_total.trans path x.path y.path before (lt_less (path_cmp x.path y.path) after) in
            same_names_ties path y.path ∙ ap is_eq less

-- where none stands at a path, the first from it on is the first behind it
pub from_none : {V : Type 0} (path : List (List ℕ)) (xs : List (Entry V)) → None ≡ find (is_at path) xs → find (is_behind path) xs ≡ find (is_from path) xs
from_none path [] f = refl
from_none {V} path (x ∷ xs) f = by (path_cmp x.path path) refl (f ∙ ap (λ b. cond b (Some x) (find (is_at path) xs)) (at_tie path x)) (from_none path xs)
  where
    by : (o : Ordering) → path_cmp x.path path ≡ o → None ≡ cond (is_eq (path_cmp x.path path)) (Some x) (find (is_at path) xs)
        → (None ≡ find (is_at path) xs → find (is_behind path) xs ≡ find (is_from path) xs)
        → cond (is_behind path x) (Some x) (find (is_behind path) xs) ≡ cond (is_from path x) (Some x) (find (is_from path) xs)
    by Less o g more =
        ap (λ b. cond b (Some x) (find (is_behind path) xs)) (behind_tie path x ∙ ap (λ c. is_lt (ordering_reverse c)) o)
        ∙ more (g ∙ ap (λ c. cond (is_eq c) (Some x) (find (is_at path) xs)) o)
        ∙ sym (ap (λ c. cond (not (is_lt c)) (Some x) (find (is_from path) xs)) o)
    by Equal o g more = let lost : None ≡ Some x = g ∙ ap (λ c. cond (is_eq c) (Some x) (find (is_at path) xs)) o in cc
    by Greater o g more =
        ap (λ b. cond b (Some x) (find (is_behind path) xs)) (behind_tie path x ∙ ap (λ c. is_lt (ordering_reverse c)) o)
        ∙ sym (ap (λ c. cond (not (is_lt c)) (Some x) (find (is_from path) xs)) o)

-- ---- at or below a path

-- the first of those that pass a test at or below a path is the first of them all, or none: those at and below it stand together
kept_under : {V : Type 0} (top : List (List ℕ)) (q : Entry V → Bool) → ((e : Entry V) → q e ≡ true → is_lt (path_cmp e.path top) ≡ false) → (xs : List (Entry V)) → ascends xs ≡ true
    → kept_if (is_under top) (find q xs) ≡ find (λ e. is_under top e && q e) xs
kept_under top q past [] h = refl
kept_under {V} top q past (x ∷ xs) h =
    by (q x) refl (is_under top x) refl (first_so (list_all (is_less x) xs) (ascends xs) h) (kept_under top q past xs (second_so (list_all (is_less x) xs) (ascends xs) h))
  where
    off : is_under top x ≡ false → q x ≡ true → (y : Entry V) → is_less x y ≡ true → (is_under top y && q y) ≡ false
    off out passes y after = test (is_under top y) refl
      where
        test : (b : Bool) → is_under top y ≡ b → (b && q y) ≡ false
        test true e = absurd (both_ways (is_under top x) out (between top x.path y.path (past x passes) after e))
        test false e = refl

    by : (b : Bool) → q x ≡ b → (c : Bool) → is_under top x ≡ c → list_all (is_less x) xs ≡ true
        → kept_if (is_under top) (find q xs) ≡ find (λ e. is_under top e && q e) xs → kept_if (is_under top) (cond (q x) (Some x) (find q xs)) ≡ cond (is_under top x && q x) (Some x) (find (λ e. is_under top e && q e) xs)
    by true e true u later more =
        ap (λ b. kept_if (is_under top) (cond b (Some x) (find q xs))) e ∙ ap (λ b. cond b (Some x) None) u
        ∙ sym (ap (λ b. cond (b && q x) (Some x) (find (λ e. is_under top e && q e) xs)) u ∙ ap (λ b. cond b (Some x) (find (λ e. is_under top e && q e) xs)) e)
    by true e false u later more =
        ap (λ b. kept_if (is_under top) (cond b (Some x) (find q xs))) e ∙ ap (λ b. cond b (Some x) None) u
        ∙ sym (ap (λ b. cond (b && q x) (Some x) (find (λ e. is_under top e && q e) xs)) u
        ∙ find_none (λ e. is_under top e && q e) (is_less x) (off u e) xs later)
    by false e true u later more =
        ap (λ b. kept_if (is_under top) (cond b (Some x) (find q xs))) e ∙ more
        ∙ sym (ap (λ b. cond (b && q x) (Some x) (find (λ e. is_under top e && q e) xs)) u ∙ ap (λ b. cond b (Some x) (find (λ e. is_under top e && q e) xs)) e)
    by false e false u later more =
        ap (λ b. kept_if (is_under top) (cond b (Some x) (find q xs))) e ∙ more
        ∙ sym (ap (λ b. cond (b && q x) (Some x) (find (λ e. is_under top e && q e) xs)) u)

-- what is below a path isn't before it
pub under_from : {V : Type 0} (top : List (List ℕ)) (e : Entry V) → is_under top e ≡ true → is_from top e ≡ true
under_from top e h =
    elim (prefix_not_greater top e.path h) [
      | inl less ↦ ap not (not_both top e.path (ap is_lt less))
      | inr same ↦ ap (λ c. not (is_lt c)) (path_cmp_total.antisymm e.path top ∙ ap ordering_reverse same)
    ]

and_implied : (a b : Bool) → (a ≡ true → b ≡ true) → (a && b) ≡ a
and_implied true b f = f refl
and_implied false b f = refl

pub not_true : (b : Bool) → not b ≡ true → b ≡ false
not_true true h = cc
not_true false h = refl

pub under_is : {V : Type 0} (top : List (List ℕ)) (xs : List (Entry V)) → ascends xs ≡ true → kept_if (is_under top) (find (is_from top) xs) ≡ find (is_under top) xs
under_is top xs h =
    kept_under top (is_from top) (λ e f. not_true (is_before top e) f) xs h
    ∙ find_same (λ e. is_under top e && is_from top e) (is_under top) (λ e. and_implied (is_under top e) (is_from top e) (under_from top e)) xs

-- behind a path that is before another all at and below that are
pub next_all : {V : Type 0} (top last : List (List ℕ)) (xs : List (Entry V)) → is_lt (path_cmp last top) ≡ true → find (is_under top) xs ≡ find (is_next_under top last) xs
next_all {V} top last xs h = find_same (is_under top) (is_next_under top last) (λ e. sym (and_implied (is_under top e) (is_behind last e) (by e))) xs
  where
    by : (e : Entry V) → is_under top e ≡ true → is_behind last e ≡ true
    by e u =
        elim (prefix_not_greater top e.path u) [
          | inl less ↦ ap is_lt (path_cmp_total.trans last top e.path (lt_less (path_cmp last top) h) less)
          | inr same ↦ ap (λ t. is_lt (path_cmp last t)) (sym (path_cmp_equal top e.path same)) ∙ h
        ]

-- behind a path that isn't before another the first at or below that is the first of all, or none
pub next_is : {V : Type 0} (top last : List (List ℕ)) (xs : List (Entry V)) → ascends xs ≡ true → is_lt (path_cmp last top) ≡ false
    → kept_if (is_under top) (find (is_behind last) xs) ≡ find (is_next_under top last) xs
next_is {V} top last xs h not_before = kept_under top (is_behind last) past xs h
  where
    past : (e : Entry V) → is_behind last e ≡ true → is_lt (path_cmp e.path top) ≡ false
    past e f = by (is_lt (path_cmp e.path top)) refl
      where
        by : (b : Bool) → is_lt (path_cmp e.path top) ≡ b → b ≡ false
        by true g =
            absurd (both_ways (is_lt (path_cmp last top)) not_before
            (ap is_lt (path_cmp_total.trans last e.path top (lt_less (path_cmp last e.path) f) (lt_less (path_cmp e.path top) g))))
        by false g = refl
