-- Entries in order, parted at a path: those before it, those at and below it, and those past it.
use Rattle.mat_path.proofs.PathLemmas.{lt_less, path_cmp_total, path_cmp_equal, path_cmp-refl, prefix-refl}
use Rattle.std.proofs.Common.{◌≡◌, ◌<◌, ℕ, zero, suc, Bool, true, false, not, cond, ◌&&◌, ◌||◌, List, [], ◌∷◌, ◌++◌, map, length, nat_eq, Ordering, Less, Equal, Greater, append-nil, refl, ◌∙◌, sym, ap, arith}
use Rattle.std.proofs.Math.Dec.{eqb-suc-zero}
use Rattle.std.proofs.lemmas.Bool.{and_from, both_ways}
use Rattle.std.proofs.lemmas.List.{map-append}
use Rattle.std.proofs.lemmas.List.Elements.{filter-append}
use Rattle.std.specs.Cmp.{first_so, second_so}
use Rattle.std.specs.List.{filter, find, list_all, list_any}
use Rattle.std.specs.Option.{is_some}
use Rattle.std.specs.declared.option.Option.{Option}
use Rattle.std.specs.declared.option.Option.TheVariants.{Some}
use Rattle.std.specs.Ordering.{is_lt, ordering_reverse}
use Rattle.mat_path.specs.Names.{is_prefix, path_cmp}
use Rattle.path_trie.specs.declared.entry.Entry.{Entry}
use Rattle.path_trie.specs.declared.node.Node.{Node}
use Rattle.path_trie.specs.Entries.{ascends, cut_at, is_before, is_behind, is_from, is_less, is_outside, is_past, is_under, put, spliced, without_first}
use Rattle.path_trie.specs.Nodes.{below_node, is_well}
use Rattle.path_trie.specs.Roots.{IsTrie, is_placed, shown, shown_all}
use Rattle.path_trie.proofs.Lists.{all_filter, all_join, all_so, filter_in, filter_passes}
use Rattle.path_trie.proofs.Onwards.{between, not_both, not_true, under_from}
use Rattle.path_trie.proofs.Order.{asc_filter, asc_join}

-- ---- whether something passes a test

any_counted : {X : Type 0} (p : X → Bool) (xs : List X) → list_any p xs ≡ not (nat_eq (length (filter p xs)) 0)
any_counted p [] = refl
any_counted p (x ∷ xs) = by (p x) (any_counted p xs)
  where
    by : (b : Bool) → list_any p xs ≡ not (nat_eq (length (filter p xs)) 0) → (b || list_any p xs) ≡ not (nat_eq (length (cond b (x ∷ filter p xs) (filter p xs))) 0)
    by true e = sym (ap not (eqb-suc-zero (length (filter p xs))))
    by false e = e

none_any : {X : Type 0} (p : X → Bool) (xs : List X) → list_any p xs ≡ false → filter p xs ≡ []
none_any p [] e = refl
none_any p (x ∷ xs) e = by (p x) e (none_any p xs)
  where
    by : (b : Bool) → (b || list_any p xs) ≡ false → (list_any p xs ≡ false → filter p xs ≡ []) → cond b (x ∷ filter p xs) (filter p xs) ≡ []
    by true e more = cc
    by false e more = more e

pub none_counted : {X : Type 0} (p : X → Bool) (xs : List X) (k : ℕ) → k ≡ length (filter p xs) → k ≡ 0 → list_any p xs ≡ false
none_counted p xs k e z = any_counted p xs ∙ ap (λ t. not (nat_eq t 0)) (sym e ∙ z)

pub some_counted : {X : Type 0} (p : X → Bool) (xs : List X) (k : ℕ) → k ≡ length (filter p xs) → 0 < k → list_any p xs ≡ true
some_counted p xs zero e z = absurd (omega (arith, z))
some_counted p xs (suc k) e z = any_counted p xs ∙ ap (λ t. not (nat_eq t 0)) (sym e) ∙ ap not (eqb-suc-zero k)

-- ---- lists that a test keeps or leaves out

pub filter_kept : {X : Type 0} (p : X → Bool) (xs : List X) → list_all p xs ≡ true → filter p xs ≡ xs
filter_kept p [] h = refl
filter_kept p (x ∷ xs) h =
    ap (λ b. cond b (x ∷ filter p xs) (filter p xs)) (first_so (p x) (list_all p xs) h) ∙ ap (λ t. x ∷ t) (filter_kept p xs (second_so (p x) (list_all p xs) h))

pub filter_left : {X : Type 0} (p q : X → Bool) → ((x : X) → q x ≡ true → p x ≡ false) → (xs : List X) → list_all q xs ≡ true → filter p xs ≡ []
filter_left p q f [] h = refl
filter_left p q f (x ∷ xs) h =
    ap (λ b. cond b (x ∷ filter p xs) (filter p xs)) (f x (first_so (q x) (list_all q xs) h)) ∙ filter_left p q f xs (second_so (q x) (list_all q xs) h)

-- ---- the first that passes a test, taken away again and again

-- one fewer is left where there was one
pub taken_less : {X : Type 0} (p : X → Bool) (xs new : List X) (o : Option X) → new ≡ without_first p xs → o ≡ find p xs → is_some o ≡ true → length new < length xs
taken_less {X} p xs new o e f s = let less = by xs (ap is_some (sym f) ∙ s) in omega (arith, less, ap length e)
  where
    by : (xs : List X) → is_some (find p xs) ≡ true → length (without_first p xs) < length xs
    by [] s = cc
    by (x ∷ xs) s = test (p x) s (by xs)
      where
        test : (b : Bool) → is_some (cond b (Some x) (find p xs)) ≡ true → (is_some (find p xs) ≡ true → length (without_first p xs) < length xs)
            → length (cond b xs (x ∷ without_first p xs)) < suc (length xs)
        test true s more = omega arith
        test false s more = let less = more s in omega (arith, less)

-- those that fail it stay
pub taken_kept : {X : Type 0} (p q : X → Bool) → ((x : X) → p x ≡ true → q x ≡ false) → (xs : List X) → filter q (without_first p xs) ≡ filter q xs
taken_kept p q f [] = refl
taken_kept {X} p q f (x ∷ xs) = by (p x) refl (taken_kept p q f xs)
  where
    by : (b : Bool) → p x ≡ b → filter q (without_first p xs) ≡ filter q xs → filter q (cond b xs (x ∷ without_first p xs)) ≡ cond (q x) (x ∷ filter q xs) (filter q xs)
    by true e more = sym (ap (λ c. cond c (x ∷ filter q xs) (filter q xs)) (f x e))
    by false e more = ap (λ t. cond (q x) (x ∷ t) t) more

-- and where none is left that passes it, those are all
pub none_taken : {X : Type 0} (p q : X → Bool) → ((x : X) → p x ≡ false → q x ≡ true) → (xs new : List X) (o : Option X) → new ≡ without_first p xs → o ≡ find p xs → is_some o ≡ false
    → new ≡ filter q xs
none_taken {X} p q f xs new o e g s = e ∙ by xs (ap is_some (sym g) ∙ s)
  where
    by : (xs : List X) → is_some (find p xs) ≡ false → without_first p xs ≡ filter q xs
    by [] s = refl
    by (x ∷ xs) s = test (p x) refl s (by xs)
      where
        test : (b : Bool) → p x ≡ b → is_some (cond b (Some x) (find p xs)) ≡ false → (is_some (find p xs) ≡ false → without_first p xs ≡ filter q xs)
            → cond b xs (x ∷ without_first p xs) ≡ cond (q x) (x ∷ filter q xs) (filter q xs)
        test true e s more = cc
        test false e s more = ap (λ t. x ∷ t) (more s) ∙ sym (ap (λ c. cond c (x ∷ filter q xs) (filter q xs)) (f x e))

-- ---- how the parts stand to each other

before_less : {V : Type 0} (path : List (List ℕ)) (x y : Entry V) → is_before path x ≡ true → is_from path y ≡ true → is_less x y ≡ true
before_less path x y h k = by (path_cmp y.path path) refl
  where
    by : (o : Ordering) → path_cmp y.path path ≡ o → is_less x y ≡ true
    by Less e = absurd (both_ways (is_lt (path_cmp y.path path)) (not_true (is_lt (path_cmp y.path path)) k) (ap is_lt e))
    by Equal e = ap (λ t. is_lt (path_cmp x.path t)) (path_cmp_equal y.path path e) ∙ h
    by Greater e =
        ap is_lt (path_cmp_total.trans x.path path y.path (lt_less (path_cmp x.path path) h) (path_cmp_total.antisymm path y.path ∙ ap ordering_reverse e))

past_behind : {V : Type 0} (path : List (List ℕ)) (z : Entry V) → is_past path z ≡ true → is_behind path z ≡ true
past_behind path z h = first_so (is_behind path z) (not (is_under path z)) h

past_outside : {V : Type 0} (path : List (List ℕ)) (z : Entry V) → is_past path z ≡ true → is_under path z ≡ false
past_outside path z h = not_true (is_under path z) (second_so (is_behind path z) (not (is_under path z)) h)

past_from : {V : Type 0} (path : List (List ℕ)) (z : Entry V) → is_past path z ≡ true → is_from path z ≡ true
past_from path z h = ap not (not_both path z.path (past_behind path z h))

-- behind an entry at or below a path is what isn't, and comes behind the path
under_less : {V : Type 0} (path : List (List ℕ)) (y z : Entry V) → is_under path y ≡ true → is_past path z ≡ true → is_less y z ≡ true
under_less path y z h k = by (path_cmp y.path z.path) refl
  where
    by : (o : Ordering) → path_cmp y.path z.path ≡ o → is_lt (path_cmp y.path z.path) ≡ true
    by Less e = ap is_lt e
    by Equal e = absurd (both_ways (is_prefix path z.path) (past_outside path z k) (ap (is_prefix path) (sym (path_cmp_equal y.path z.path e)) ∙ h))
    by Greater e =
        absurd (both_ways (is_prefix path z.path) (past_outside path z k)
        (between path z.path y.path (not_both path z.path (past_behind path z k)) (ap is_lt (path_cmp_total.antisymm z.path y.path ∙ ap ordering_reverse e)) h))

-- what isn't before a path, and neither at nor below it, is past it
pub from_past : {V : Type 0} (path : List (List ℕ)) (x : Entry V) → is_before path x ≡ false → is_under path x ≡ false → is_past path x ≡ true
from_past path x b u = ap (λ t. is_behind path x && not t) u ∙ and_from (is_behind path x) true (by (path_cmp x.path path) refl) refl
  where
    by : (o : Ordering) → path_cmp x.path path ≡ o → is_lt (path_cmp path x.path) ≡ true
    by Less e = absurd (both_ways (is_lt (path_cmp x.path path)) b (ap is_lt e))
    by Equal e = absurd (both_ways (is_prefix path x.path) u (ap (is_prefix path) (path_cmp_equal x.path path e) ∙ prefix-refl path))
    by Greater e = ap is_lt (path_cmp_total.antisymm path x.path ∙ ap ordering_reverse e)

pub ascends_spliced : {V : Type 0} (path : List (List ℕ)) (others xs : List (Entry V)) → ascends others ≡ true → ascends xs ≡ true → ascends (spliced path others xs) ≡ true
ascends_spliced path others xs f g =
    asc_join is_less (is_before path) (is_from path) (before_less path) (filter (is_before path) xs) (filter (is_under path) others ++ filter (is_past path) xs)
    (asc_filter is_less (is_before path) xs g)
    (asc_join is_less (is_under path) (is_past path) (under_less path) (filter (is_under path) others) (filter (is_past path) xs)
    (asc_filter is_less (is_under path) others f) (asc_filter is_less (is_past path) xs g) (filter_passes (is_under path) others) (filter_passes (is_past path) xs))
    (filter_passes (is_before path) xs)
    (all_join (is_from path) (filter (is_under path) others) (filter (is_past path) xs)
    (all_so (is_under path) (is_from path) (under_from path) (filter (is_under path) others) (filter_passes (is_under path) others))
    (all_so (is_past path) (is_from path) (past_from path) (filter (is_past path) xs) (filter_passes (is_past path) xs)))

-- the parts are the whole
pub parted : {V : Type 0} (path : List (List ℕ)) (xs : List (Entry V)) → ascends xs ≡ true → filter (is_before path) xs ++ (filter (is_under path) xs ++ filter (is_past path) xs) ≡ xs
parted path [] h = refl
parted {V} path (x ∷ xs) h =
    by (is_before path x) refl (is_under path x) refl (first_so (list_all (is_less x) xs) (ascends xs) h) (parted path xs (second_so (list_all (is_less x) xs) (ascends xs) h))
  where
    parts : Bool → Bool → Bool → List (Entry V)
    parts a b c =
        cond a (x ∷ filter (is_before path) xs) (filter (is_before path) xs) ++ (cond b (x ∷ filter (is_under path) xs) (filter (is_under path) xs) ++ cond c (x ∷ filter (is_past path) xs) (filter (is_past path) xs))

    -- nothing behind an entry that isn't before a path is before it
    later_from : is_before path x ≡ false → (y : Entry V) → is_less x y ≡ true → is_before path y ≡ false
    later_from b y less = test (is_before path y) refl
      where
        test : (c : Bool) → is_before path y ≡ c → c ≡ false
        test true e = absurd (both_ways (is_before path x) b (ap is_lt (path_cmp_total.trans x.path y.path path (lt_less (path_cmp x.path y.path) less) (lt_less (path_cmp y.path path) e))))
        test false e = refl

    -- nor is anything behind an entry past the path at or below it
    later_outside : is_before path x ≡ false → is_under path x ≡ false → (y : Entry V) → is_less x y ≡ true → is_under path y ≡ false
    later_outside b u y less = test (is_under path y) refl
      where
        test : (c : Bool) → is_under path y ≡ c → c ≡ false
        test true e = absurd (both_ways (is_under path x) u (between path x.path y.path b less e))
        test false e = refl

    not_under : is_before path x ≡ true → is_under path x ≡ false
    not_under b = test (is_under path x) refl
      where
        test : (c : Bool) → is_under path x ≡ c → c ≡ false
        test true e = absurd (both_ways (is_before path x) (not_true (is_before path x) (under_from path x e)) b)
        test false e = refl

    not_past : is_before path x ≡ true → is_past path x ≡ false
    not_past b = ap (λ t. t && not (is_under path x)) (not_both x.path path b)

    under_past : is_under path x ≡ true → is_past path x ≡ false
    under_past u = ap (λ t. is_behind path x && not t) u ∙ off (is_behind path x)
      where
        off : (b : Bool) → (b && false) ≡ false
        off true = refl
        off false = refl

    by : (b : Bool) → is_before path x ≡ b → (u : Bool) → is_under path x ≡ u → list_all (is_less x) xs ≡ true
        → filter (is_before path) xs ++ (filter (is_under path) xs ++ filter (is_past path) xs) ≡ xs → parts (is_before path x) (is_under path x) (is_past path x) ≡ x ∷ xs
    by true b u is later more =
        ap (λ t. parts t (is_under path x) (is_past path x)) b ∙ ap (λ t. parts true t (is_past path x)) (not_under b) ∙ ap (parts true false) (not_past b)
        ∙ ap (λ t. x ∷ t) more
    by false b true u later more =
        let none = filter_left (is_before path) (is_less x) (later_from b) xs later in
        ap (λ t. parts t (is_under path x) (is_past path x)) b ∙ ap (λ t. parts false t (is_past path x)) u ∙ ap (parts false true) (under_past u)
        ∙ ap (λ t. t ++ ((x ∷ filter (is_under path) xs) ++ filter (is_past path) xs)) none
        ∙ ap (λ t. x ∷ t) (sym (ap (λ t. t ++ (filter (is_under path) xs ++ filter (is_past path) xs)) none) ∙ more)
    by false b false u later more =
        let none = filter_left (is_before path) (is_less x) (later_from b) xs later in
        let out = filter_left (is_under path) (is_less x) (later_outside b u) xs later in
        ap (λ t. parts t (is_under path x) (is_past path x)) b ∙ ap (λ t. parts false t (is_past path x)) u ∙ ap (parts false false) (from_past path x b u)
        ∙ ap (λ t. t ++ (filter (is_under path) xs ++ (x ∷ filter (is_past path) xs))) none
        ∙ ap (λ t. t ++ (x ∷ filter (is_past path) xs)) out
        ∙ ap (λ t. x ∷ t)
        (sym (ap (λ t. t ++ (filter (is_under path) xs ++ filter (is_past path) xs)) none ∙ ap (λ t. t ++ filter (is_past path) xs) out) ∙ more)

-- ---- a part cut out, and hung in again

before_outside : {V : Type 0} (path : List (List ℕ)) (x : Entry V) → is_before path x ≡ true → is_outside path x ≡ true
before_outside path x b = test (is_under path x) refl
  where
    test : (c : Bool) → is_under path x ≡ c → not c ≡ true
    test true e = absurd (both_ways (is_before path x) (not_true (is_before path x) (under_from path x e)) b)
    test false e = refl

-- where others have nothing at and below a path, what stood there is gone
pub spliced_none : {V : Type 0} (path : List (List ℕ)) (others xs : List (Entry V)) → ascends xs ≡ true → list_any (is_under path) xs ≡ true
    → false ≡ (list_any (is_under path) xs && list_any (is_under path) others) → filter (is_outside path) xs ≡ spliced path others xs
spliced_none {V} path others xs h there none =
    ap (filter (is_outside path)) (sym (parted path xs h))
    ∙ filter-append (is_outside path) (filter (is_before path) xs) (filter (is_under path) xs ++ filter (is_past path) xs)
    ∙ ap (λ t. t ++ filter (is_outside path) (filter (is_under path) xs ++ filter (is_past path) xs))
    (filter_kept (is_outside path) (filter (is_before path) xs)
    (all_so (is_before path) (is_outside path) (before_outside path) (filter (is_before path) xs) (filter_passes (is_before path) xs)))
    ∙ ap (λ t. filter (is_before path) xs ++ t)
    (filter-append (is_outside path) (filter (is_under path) xs) (filter (is_past path) xs)
    ∙ ap (λ t. t ++ filter (is_outside path) (filter (is_past path) xs))
    (filter_left (is_outside path) (is_under path) (λ x e. ap not e) (filter (is_under path) xs) (filter_passes (is_under path) xs))
    ∙ filter_kept (is_outside path) (filter (is_past path) xs)
    (all_so (is_past path) (is_outside path) (λ x e. ap not (past_outside path x e)) (filter (is_past path) xs) (filter_passes (is_past path) xs)))
    ∙ ap (λ t. filter (is_before path) xs ++ (t ++ filter (is_past path) xs)) (sym (none_any (is_under path) others (sym (none ∙ ap (λ b. b && list_any (is_under path) others) there))))

-- a mark alone
pub mark_under : {V : Type 0} (path : List (List ℕ)) (mark : V) → filter (is_under path) (record { path = path; value = mark } ∷ []) ≡ record { path = path; value = mark } ∷ []
mark_under path mark = ap (λ b. cond b (record { path = path; value = mark } ∷ []) []) (prefix-refl path)

pub mark_before : {V : Type 0} (path : List (List ℕ)) (mark : V) → filter (is_before path) (record { path = path; value = mark } ∷ []) ≡ []
mark_before path mark = ap (λ o. cond (is_lt o) (record { path = path; value = mark } ∷ []) []) (path_cmp-refl path)

pub mark_past : {V : Type 0} (path : List (List ℕ)) (mark : V) → filter (is_past path) (record { path = path; value = mark } ∷ []) ≡ []
mark_past path mark = ap (λ o. cond (is_lt o && not (is_prefix path path)) (record { path = path; value = mark } ∷ []) []) (path_cmp-refl path)

pub mark_spliced : {V : Type 0} (path : List (List ℕ)) (mark : V) (xs : List (Entry V)) → spliced path (record { path = path; value = mark } ∷ []) xs ≡ cut_at path mark xs
mark_spliced path mark xs = ap (λ t. filter (is_before path) xs ++ (t ++ filter (is_past path) xs)) (mark_under path mark)

pub under_spliced : {V : Type 0} (path : List (List ℕ)) (mark : V) (xs : List (Entry V)) → spliced path xs (record { path = path; value = mark } ∷ []) ≡ filter (is_under path) xs
under_spliced path mark xs =
    ap (λ t. t ++ (filter (is_under path) xs ++ filter (is_past path) (record { path = path; value = mark } ∷ []))) (mark_before path mark)
    ∙ ap (λ t. filter (is_under path) xs ++ t) (mark_past path mark) ∙ append-nil (filter (is_under path) xs)

-- a mark that is put where nothing stands at and below the path
pub put_cut : {V : Type 0} (path : List (List ℕ)) (mark : V) (xs : List (Entry V)) → length (filter (is_under path) xs) ≡ 0 → put path mark xs ≡ cut_at path mark xs
put_cut {V} path mark xs none = ap (λ t. filter (is_before path) xs ++ (record { path = path; value = mark } ∷ t)) (same xs none)
  where
    same : (ys : List (Entry V)) → length (filter (is_under path) ys) ≡ 0 → filter (is_behind path) ys ≡ filter (is_past path) ys
    same [] e = refl
    same (y ∷ ys) e = by (is_under path y) refl e (λ f. same ys f)
      where
        by : (b : Bool) → is_under path y ≡ b → length (cond b (y ∷ filter (is_under path) ys) (filter (is_under path) ys)) ≡ 0
            → (length (filter (is_under path) ys) ≡ 0 → filter (is_behind path) ys ≡ filter (is_past path) ys)
            → cond (is_behind path y) (y ∷ filter (is_behind path) ys) (filter (is_behind path) ys) ≡ cond (is_past path y) (y ∷ filter (is_past path) ys) (filter (is_past path) ys)
        by true is e more = absurd (omega (arith, e))
        by false is e more =
            ap (λ t. cond (is_behind path y) (y ∷ t) t) (more e)
            ∙ ap (λ b. cond b (y ∷ filter (is_past path) ys) (filter (is_past path) ys)) (sym (ap (λ b. is_behind path y && not b) is ∙ whole (is_behind path y)))
          where
            whole : (b : Bool) → (b && true) ≡ b
            whole true = refl
            whole false = refl

-- a mark that was exchanged for what stood at and below its path
exchanged : {V : Type 0} (path : List (List ℕ)) (mark : V) (now part empty : List (Entry V)) (both : Bool) (k : ℕ)
    → k ≡ length (filter (is_under path) now) → 0 < k → empty ≡ [] → part ≡ put path mark empty → both ≡ (list_any (is_under path) now && list_any (is_under path) part)
    → (part ≡ record { path = path; value = mark } ∷ []) × (both ≡ true)
exchanged path mark now part empty both k count some none told e =
    let one : part ≡ record { path = path; value = mark } ∷ [] = told ∙ ap (put path mark) none in (
      one,
      e ∙ ap (λ b. b && list_any (is_under path) part) (some_counted (is_under path) now k count some) ∙ ap (list_any (is_under path)) one ∙ ap (λ b. b || false) (prefix-refl path),
    )

pub cut_off : {V : Type 0} (path : List (List ℕ)) (mark : V) (now part empty new : List (Entry V)) (both : Bool) (k : ℕ)
    → k ≡ length (filter (is_under path) now) → 0 < k → empty ≡ [] → part ≡ put path mark empty → both ≡ (list_any (is_under path) now && list_any (is_under path) part)
    → new ≡ cond both (spliced path part now) now → new ≡ cut_at path mark now
cut_off path mark now part empty new both k count some none told e is =
    let done = exchanged path mark now part empty both k count some none told e in
    is ∙ ap (λ b. cond b (spliced path part now) now) done.1 ∙ ap (λ t. spliced path t now) done.0 ∙ mark_spliced path mark now

pub part_off : {V : Type 0} (path : List (List ℕ)) (mark : V) (now part empty new : List (Entry V)) (both : Bool) (k : ℕ)
    → k ≡ length (filter (is_under path) now) → 0 < k → empty ≡ [] → part ≡ put path mark empty → both ≡ (list_any (is_under path) now && list_any (is_under path) part)
    → new ≡ cond both (spliced path now part) part → new ≡ filter (is_under path) now
part_off path mark now part empty new both k count some none told e is =
    let done = exchanged path mark now part empty both k count some none told e in
    is ∙ ap (λ b. cond b (spliced path now part) part) done.1 ∙ ap (spliced path now) done.0 ∙ under_spliced path mark now

-- what was cut out and is hung in again leaves the entries as they were
pub hung_back : {V : Type 0} (path : List (List ℕ)) (mark : V) (xs : List (Entry V)) → ascends xs ≡ true → spliced path (filter (is_under path) xs) (cut_at path mark xs) ≡ xs
hung_back {V} path mark xs h =
    ap (λ t. t ++ (filter (is_under path) (filter (is_under path) xs) ++ filter (is_past path) (cut_at path mark xs)))
    (filter-append (is_before path) (filter (is_before path) xs) (one ++ filter (is_past path) xs)
    ∙ ap (λ t. t ++ filter (is_before path) (one ++ filter (is_past path) xs)) (filter_kept (is_before path) (filter (is_before path) xs) (filter_passes (is_before path) xs))
    ∙ ap (λ t. filter (is_before path) xs ++ t)
    (filter-append (is_before path) one (filter (is_past path) xs) ∙ ap (λ t. t ++ filter (is_before path) (filter (is_past path) xs)) (mark_before path mark)
    ∙ filter_left (is_before path) (is_past path) (λ x e. not_true (is_before path x) (past_from path x e)) (filter (is_past path) xs) (filter_passes (is_past path) xs))
    ∙ append-nil (filter (is_before path) xs))
    ∙ ap (λ t. filter (is_before path) xs ++ (t ++ filter (is_past path) (cut_at path mark xs)))
    (filter_kept (is_under path) (filter (is_under path) xs) (filter_passes (is_under path) xs))
    ∙ ap (λ t. filter (is_before path) xs ++ (filter (is_under path) xs ++ t))
    (filter-append (is_past path) (filter (is_before path) xs) (one ++ filter (is_past path) xs)
    ∙ ap (λ t. t ++ filter (is_past path) (one ++ filter (is_past path) xs))
    (filter_left (is_past path) (is_before path) (λ x e. ap (λ t. t && not (is_under path x)) (not_both x.path path e)) (filter (is_before path) xs) (filter_passes (is_before path) xs))
    ∙ filter-append (is_past path) one (filter (is_past path) xs) ∙ ap (λ t. t ++ filter (is_past path) (filter (is_past path) xs)) (mark_past path mark)
    ∙ filter_kept (is_past path) (filter (is_past path) xs) (filter_passes (is_past path) xs))
    ∙ parted path xs h
  where
    one : List (Entry V)
    one = record { path = path; value = mark } ∷ []

-- ---- at the root

pub trie_spliced : {V : Type 0} (old other new : Node (Entry V)) (path : List (List ℕ)) → IsTrie old → IsTrie other → is_well new ≡ true
    → below_node new ≡ spliced path (below_node other) (below_node old) → IsTrie new
trie_spliced old other new path t s w e = record {
  well = w;
  placed = ap (list_all is_placed) e
      ∙ all_join is_placed (filter (is_before path) (below_node old)) (filter (is_under path) (below_node other) ++ filter (is_past path) (below_node old))
      (all_filter is_placed (is_before path) (below_node old) t.placed)
      (all_join is_placed (filter (is_under path) (below_node other)) (filter (is_past path) (below_node old))
      (all_filter is_placed (is_under path) (below_node other) s.placed) (all_filter is_placed (is_past path) (below_node old) t.placed));
  ascending = ap ascends e ∙ ascends_spliced path (below_node other) (below_node old) s.ascending t.ascending;
}

shown_spliced : {V : Type 0} (path : List (List ℕ)) (others xs : List (Entry (Entry V))) → map shown (spliced path others xs) ≡ spliced path (map shown others) (map shown xs)
shown_spliced path others xs =
    map-append shown (filter (is_before path) xs) (filter (is_under path) others ++ filter (is_past path) xs)
    ∙ ap (λ t. map shown (filter (is_before path) xs) ++ t) (map-append shown (filter (is_under path) others) (filter (is_past path) xs))
    ∙ ap (λ t. t ++ (map shown (filter (is_under path) others) ++ map shown (filter (is_past path) xs))) (sym (filter_in shown (is_before path) (is_before path) (λ x. refl) xs))
    ∙ ap (λ t. filter (is_before path) (map shown xs) ++ (t ++ map shown (filter (is_past path) xs))) (sym (filter_in shown (is_under path) (is_under path) (λ x. refl) others))
    ∙ ap (λ t. filter (is_before path) (map shown xs) ++ (filter (is_under path) (map shown others) ++ t)) (sym (filter_in shown (is_past path) (is_past path) (λ x. refl) xs))

pub list_spliced : {V : Type 0} (old other new : Node (Entry V)) (names path : List (List ℕ)) (now others : List (Entry V)) → names ≡ path → shown_all old ≡ now → shown_all other ≡ others
    → below_node new ≡ spliced names (below_node other) (below_node old) → shown_all new ≡ spliced path others now
list_spliced old other new names path now others n v w e =
    ap (map shown) e ∙ shown_spliced names (below_node other) (below_node old) ∙ ap (λ t. spliced names t (shown_all old)) w ∙ ap (spliced names others) v
    ∙ ap (λ p. spliced p others now) n
