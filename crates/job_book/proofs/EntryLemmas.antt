-- What stands at each path, and which loans overlap it.
use Rattle.std.proofs.Common.{◌≡◌, ℕ, Bool, true, false, ◌||◌, not, cond, List, [], ◌∷◌, ◌++◌, refl, ◌∙◌, sym, ap}
use Rattle.std.proofs.lemmas.Bool.{and_from, and_parts, not-true, or_from, or_left, or_parts, or_right}
use Rattle.std.proofs.lemmas.List.{append_assoc}
use Rattle.std.proofs.lemmas.List.Folds.{find-append, list_any-append}
use Rattle.std.specs.List.{find, list_all, list_any}
use Rattle.std.specs.Option.{option_map, option_or}
use Rattle.std.specs.declared.option.Option.{Option}
use Rattle.std.specs.declared.option.Option.TheVariants.{Some, None}
use Rattle.mat_path.specs.Names.{overlap, same_names}
use Rattle.mat_path.proofs.Overlaps.{overlap-refl, overlap-sym}
use Rattle.mat_path.proofs.SameNames.{same_names-eq, same_names-refl}
use Rattle.path_trie.specs.declared.entry.Entry.{Entry}
use Rattle.path_trie.specs.Entries.{is_at, overlaps, put, value_at, value_of, without}
use Rattle.path_trie.proofs.Values.{value_put, value_without}
use Rattle.job_book.specs.Loans.{are_clear, is_clear, loan_at, IsIndex}

-- ---- what stands at a path

pub value_cons : (q : List (List ℕ)) (x : Entry ℕ) (xs : List (Entry ℕ)) → value_at q (x ∷ xs) ≡ cond (same_names q x.path) (Some x.value) (value_at q xs)
value_cons q x xs = by (same_names q x.path)
  where
    by : (b : Bool) → option_map value_of (cond b (Some x) (find (is_at q) xs)) ≡ cond b (Some x.value) (value_at q xs)
    by true = refl
    by false = refl

pub value_join : (q : List (List ℕ)) (xs ys : List (Entry ℕ)) → value_at q (xs ++ ys) ≡ option_or (value_at q xs) (value_at q ys)
value_join q xs ys = ap (option_map value_of) (find-append (is_at q) xs ys) ∙ by (find (is_at q) xs)
  where
    by : (o : Option (Entry ℕ)) → option_map value_of (option_or o (find (is_at q) ys)) ≡ option_or (option_map value_of o) (value_at q ys)
    by None = refl
    by (Some x) = refl

-- paths that don't overlap are two
pub apart_other : (p q : List (List ℕ)) → overlap p q ≡ false → same_names p q ≡ false
apart_other p q h = by (same_names p q) refl
  where
    by : (b : Bool) → same_names p q ≡ b → b ≡ false
    by true same =
        let over : overlap p q ≡ true = ap (overlap p) (sym (same_names-eq p q same)) ∙ overlap-refl p in
        let lost : true ≡ false = sym over ∙ h in cc
    by false same = refl

pub none_at : (p : List (List ℕ)) (xs : List (Entry ℕ)) → list_any (overlaps p) xs ≡ false → value_at p xs ≡ None
none_at p [] h = refl
none_at p (x ∷ xs) h =
    let parts = or_parts (overlaps p x) (list_any (overlaps p) xs) h in
    value_cons p x xs ∙ ap (λ b. cond b (Some x.value) (value_at p xs)) (apart_other p x.path parts.0) ∙ none_at p xs parts.1

-- ---- the same stands at each path

-- some entry overlaps a path: it stands where it is
record IsOver (p : List (List ℕ)) (xs : List (Entry ℕ)) : Type 0 where
  path : List (List ℕ)
  value : ℕ
  found : value_at path xs ≡ Some value
  over : overlap p path ≡ true

over_some : (p : List (List ℕ)) (xs : List (Entry ℕ)) → list_any (overlaps p) xs ≡ true → IsOver p xs
over_some p [] h = let lost : false ≡ true = h in absurd cc
over_some p (x ∷ xs) h = by (overlaps p x) refl (over_some p xs) h
  where
    by : (b : Bool) → overlaps p x ≡ b → (list_any (overlaps p) xs ≡ true → IsOver p xs) → (b || list_any (overlaps p) xs) ≡ true → IsOver p (x ∷ xs)
    by true over next h = record {
      path = x.path;
      value = x.value;
      found = value_cons x.path x xs ∙ ap (λ b. cond b (Some x.value) (value_at x.path xs)) (same_names-refl x.path);
      over = over;
    }
    by false other next h = more (next h)
      where
        more : IsOver p xs → IsOver p (x ∷ xs)
        more one = here (same_names one.path x.path) refl
          where
            here : (b : Bool) → same_names one.path x.path ≡ b → IsOver p (x ∷ xs)
            here true same = record {
              path = one.path;
              value = x.value;
              found = value_cons one.path x xs ∙ ap (λ b. cond b (Some x.value) (value_at one.path xs)) same;
              over = one.over;
            }
            here false other = record {
              path = one.path;
              value = one.value;
              found = value_cons one.path x xs ∙ ap (λ b. cond b (Some x.value) (value_at one.path xs)) other ∙ one.found;
              over = one.over;
            }

over_any : (p q : List (List ℕ)) (v : ℕ) (ys : List (Entry ℕ)) → value_at q ys ≡ Some v → overlap p q ≡ true → list_any (overlaps p) ys ≡ true
over_any p q v [] is over = let lost : ◌≡◌ {A = Option ℕ} None (Some v) = is in cc
over_any p q v (y ∷ ys) is over = by (same_names q y.path) refl (λ h. over_any p q v ys h over) (sym (value_cons q y ys) ∙ is)
  where
    by : (b : Bool) → same_names q y.path ≡ b → (value_at q ys ≡ Some v → list_any (overlaps p) ys ≡ true) → cond b (Some y.value) (value_at q ys) ≡ Some v → (overlaps p y || list_any (overlaps p) ys) ≡ true
    by true same next is = or_left (overlaps p y) (list_any (overlaps p) ys) (ap (overlap p) (sym (same_names-eq q y.path same)) ∙ over)
    by false other next is = or_right (overlaps p y) (list_any (overlaps p) ys) (next is)

over_in : (p : List (List ℕ)) (xs ys : List (Entry ℕ)) → IsIndex xs ys → list_any (overlaps p) xs ≡ true → list_any (overlaps p) ys ≡ true
over_in p xs ys same h = let one = over_some p xs h in over_any p one.path one.value ys (sym (same one.path) ∙ one.found) one.over

pub over_same : (p : List (List ℕ)) (xs ys : List (Entry ℕ)) → IsIndex xs ys → list_any (overlaps p) xs ≡ list_any (overlaps p) ys
over_same p xs ys same = by (list_any (overlaps p) xs) (list_any (overlaps p) ys) (over_in p xs ys same) (over_in p ys xs (λ q. sym (same q)))
  where
    by : (a b : Bool) → (a ≡ true → b ≡ true) → (b ≡ true → a ≡ true) → a ≡ b
    by true b f g = sym (f refl)
    by false true f g = g refl
    by false false f g = refl

-- ---- loans that don't overlap

clear_none : (x : Entry ℕ) (xs : List (Entry ℕ)) → list_all (is_clear x) xs ≡ true → list_any (overlaps x.path) xs ≡ false
clear_none x [] h = refl
clear_none x (y ∷ ys) h =
    let parts = and_parts (is_clear x y) (list_all (is_clear x) ys) h in
    or_from (overlaps x.path y) (list_any (overlaps x.path) ys) (not-true (overlaps x.path y) parts.0) (clear_none x ys parts.1)

none_clear : (x : Entry ℕ) (xs : List (Entry ℕ)) → list_any (overlaps x.path) xs ≡ false → list_all (is_clear x) xs ≡ true
none_clear x [] h = refl
none_clear x (y ∷ ys) h =
    let parts = or_parts (overlaps x.path y) (list_any (overlaps x.path) ys) h in
    and_from (is_clear x y) (list_all (is_clear x) ys) (ap not parts.0) (none_clear x ys parts.1)

-- the first of some loans, and the others
first_clear : (x : Entry ℕ) (xs : List (Entry ℕ)) → are_clear (x ∷ xs) ≡ true → (list_any (overlaps x.path) xs ≡ false) × (are_clear xs ≡ true)
first_clear x xs h = let parts = and_parts (list_all (is_clear x) xs) (are_clear xs) h in (clear_none x xs parts.0, parts.1)

both_false : (p : List (List ℕ)) (xs ys : List (Entry ℕ)) → list_any (overlaps p) (xs ++ ys) ≡ false → (list_any (overlaps p) xs ≡ false) × (list_any (overlaps p) ys ≡ false)
both_false p xs ys h = or_parts (list_any (overlaps p) xs) (list_any (overlaps p) ys) (sym (list_any-append (overlaps p) xs ys) ∙ h)

from_both : (p : List (List ℕ)) (xs ys : List (Entry ℕ)) → list_any (overlaps p) xs ≡ false → list_any (overlaps p) ys ≡ false → list_any (overlaps p) (xs ++ ys) ≡ false
from_both p xs ys h k = list_any-append (overlaps p) xs ys ∙ or_from (list_any (overlaps p) xs) (list_any (overlaps p) ys) h k

-- what stands in front overlaps nothing behind
pub front_clear : (p : List (List ℕ)) (v : ℕ) (xs ys : List (Entry ℕ)) → are_clear (xs ++ ys) ≡ true → value_at p xs ≡ Some v → list_any (overlaps p) ys ≡ false
front_clear p v [] ys h is = let lost : ◌≡◌ {A = Option ℕ} None (Some v) = is in absurd cc
front_clear p v (x ∷ xs) ys h is =
    by (same_names p x.path) refl (front_clear p v xs ys (first_clear x (xs ++ ys) h).1) (sym (value_cons p x xs) ∙ is)
  where
    by : (b : Bool) → same_names p x.path ≡ b → (value_at p xs ≡ Some v → list_any (overlaps p) ys ≡ false) → cond b (Some x.value) (value_at p xs) ≡ Some v
        → list_any (overlaps p) ys ≡ false
    by true same next is = ap (λ r. list_any (overlaps r) ys) (same_names-eq p x.path same) ∙ (both_false x.path xs ys (first_clear x (xs ++ ys) h).0).1
    by false other next is = next is

pub back_clear : (xs ys : List (Entry ℕ)) → are_clear (xs ++ ys) ≡ true → are_clear ys ≡ true
back_clear [] ys h = h
back_clear (x ∷ xs) ys h = back_clear xs ys (first_clear x (xs ++ ys) h).1

-- a loan between others
pub around_clear : (xs : List (Entry ℕ)) (e : Entry ℕ) (ys : List (Entry ℕ)) → are_clear (xs ++ e ∷ ys) ≡ true
    → (list_any (overlaps e.path) (xs ++ ys) ≡ false) × (are_clear (xs ++ ys) ≡ true)
around_clear [] e ys h = first_clear e ys h
around_clear (x ∷ xs) e ys h =
    let parts = first_clear x (xs ++ e ∷ ys) h in
    let rest = around_clear xs e ys parts.1 in
    let sides = both_false x.path xs (e ∷ ys) parts.0 in
    let behind = or_parts (overlaps x.path e) (list_any (overlaps x.path) ys) sides.1 in (
      or_from (overlaps e.path x) (list_any (overlaps e.path) (xs ++ ys)) (overlap-sym x.path e.path false behind.0) rest.0,
      and_from (list_all (is_clear x) (xs ++ ys)) (are_clear (xs ++ ys)) (none_clear x (xs ++ ys) (from_both x.path xs ys sides.0 behind.1)) rest.1,
    )

-- one more loan
pub more_clear : (xs : List (Entry ℕ)) (e : Entry ℕ) → are_clear xs ≡ true → list_any (overlaps e.path) xs ≡ false → are_clear (xs ++ e ∷ []) ≡ true
more_clear [] e h none = refl
more_clear (x ∷ xs) e h none =
    let parts = first_clear x xs h in
    let others = or_parts (overlaps e.path x) (list_any (overlaps e.path) xs) none in
    and_from (list_all (is_clear x) (xs ++ e ∷ [])) (are_clear (xs ++ e ∷ []))
    (none_clear x (xs ++ e ∷ []) (from_both x.path xs (e ∷ []) parts.0 (or_from (overlaps x.path e) false (overlap-sym e.path x.path false others.0) refl)))
    (more_clear xs e parts.1 others.1)

-- ---- loans that come and go

or_none : (o : Option ℕ) → option_or o None ≡ o
or_none None = refl
or_none (Some n) = refl

put_one : (t : List (Entry ℕ)) (p : List (List ℕ)) (n : ℕ) → value_at p t ≡ None → IsIndex (put p n t) (t ++ loan_at p n ∷ [])
put_one t p n free q = value_put q p n t ∙ by (same_names q p) refl ∙ sym (value_join q t (loan_at p n ∷ []))
  where
    one : (b : Bool) → same_names q p ≡ b → value_at q (loan_at p n ∷ []) ≡ cond b (Some n) None
    one b is = value_cons q (loan_at p n) [] ∙ ap (λ b. cond b (Some n) None) is

    by : (b : Bool) → same_names q p ≡ b → cond b (Some n) (value_at q t) ≡ option_or (value_at q t) (value_at q (loan_at p n ∷ []))
    by true same =
        sym (ap (λ o. option_or o (value_at q (loan_at p n ∷ []))) (ap (λ r. value_at r t) (same_names-eq q p same) ∙ free) ∙ one true same)
    by false other = sym (ap (option_or (value_at q t)) (one false other) ∙ or_none (value_at q t))

pub added : (b : Bool) (p : List (List ℕ)) (n : ℕ) (t new : List (Entry ℕ)) → new ≡ cond b (put p n t) t → value_at p t ≡ None
    → IsIndex new (cond b (t ++ loan_at p n ∷ []) t)
added true p n t new is free q = ap (value_at q) is ∙ put_one t p n free q
added false p n t new is free q = ap (value_at q) is

-- what stands elsewhere once a loan stands behind all
pub more_value : (q p : List (List ℕ)) (n : ℕ) (t : List (Entry ℕ)) → same_names q p ≡ false → value_at q (t ++ loan_at p n ∷ []) ≡ value_at q t
more_value q p n t other =
    value_join q t (loan_at p n ∷ [])
    ∙ ap (option_or (value_at q t)) (value_cons q (loan_at p n) [] ∙ ap (λ b. cond b (Some n) None) other)
    ∙ or_none (value_at q t)

-- a loan that was added behind all, taken away again
pub undone : (t more back : List (Entry ℕ)) (p : List (List ℕ)) (n : ℕ) → value_at p t ≡ None → IsIndex more (t ++ loan_at p n ∷ []) → back ≡ without p more → IsIndex back t
undone t more back p n free same is q = ap (value_at q) is ∙ value_without q p more ∙ by (same_names q p) refl
  where
    by : (b : Bool) → same_names q p ≡ b → cond b None (value_at q more) ≡ value_at q t
    by true here = sym (ap (λ r. value_at r t) (same_names-eq q p here) ∙ free)
    by false other = same q ∙ more_value q p n t other

-- what is added behind what was added
pub joined : (t one two xs ys : List (Entry ℕ)) → IsIndex one (t ++ xs) → IsIndex two (one ++ ys) → IsIndex two (t ++ (xs ++ ys))
joined t one two xs ys first then_so q =
    then_so q ∙ value_join q one ys ∙ ap (λ o. option_or o (value_at q ys)) (first q) ∙ sym (value_join q (t ++ xs) ys) ∙ ap (value_at q) (append_assoc t xs ys)

-- a loan between others goes
pub one_gone : (t xs : List (Entry ℕ)) (e : Entry ℕ) (ys : List (Entry ℕ)) → are_clear (xs ++ e ∷ ys) ≡ true → IsIndex t (xs ++ e ∷ ys)
    → IsIndex (without e.path t) (xs ++ ys)
one_gone t xs e ys clear same q = value_without q e.path t ∙ by (same_names q e.path) refl
  where
    by : (b : Bool) → same_names q e.path ≡ b → cond b None (value_at q t) ≡ value_at q (xs ++ ys)
    by true here = sym (ap (λ r. value_at r (xs ++ ys)) (same_names-eq q e.path here) ∙ none_at e.path (xs ++ ys) (around_clear xs e ys clear).0)
    by false other =
        same q ∙ value_join q xs (e ∷ ys)
        ∙ ap (option_or (value_at q xs)) (value_cons q e ys ∙ ap (λ b. cond b (Some e.value) (value_at q ys)) other)
        ∙ sym (value_join q xs ys)
