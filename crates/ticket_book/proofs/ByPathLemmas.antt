-- What stands at a path once numbers there are put back, or removed.
use Rattle.std.proofs.Common.{◌≡◌, ℕ, Bool, true, false, cond, List, [], ◌∷◌, length, nat_eq, is_some, refl, ◌∙◌, sym, ap, arith, Option, Some, None}
use Rattle.std.proofs.lemmas.Bool.{eqb-true}
use Rattle.std.specs.BTreeSet.{insert_key}
use Rattle.std.specs.List.{filter}
use Rattle.std.specs.Ordering.{nat_cmp}
use Rattle.mat_path.specs.Names.{same_names}
use Rattle.mat_path.proofs.SameNames.{same_names-eq, same_names-refl}
use Rattle.path_trie.specs.declared.entry.Entry.{Entry}
use Rattle.path_trie.specs.Entries.{put, value_at, without}
use Rattle.path_trie.proofs.Values.{value_put, value_without}
use Rattle.ticket_book.specs.ByPath.{is_other, list_or_empty, numbers_less, numbers_with, some_list}

-- ---- a value is put at a path

pub put_here : {V : Type 0} (p : List (List ℕ)) (v : V) (old new : List (Entry V)) → new ≡ put p v old → value_at p new ≡ Some v
put_here p v old new is = ap (value_at p) is ∙ value_put p p v old ∙ ap (λ b. cond b (Some v) (value_at p old)) (same_names-refl p)

pub put_other : {V : Type 0} (p : List (List ℕ)) (v : V) (old new : List (Entry V)) (at : List (List ℕ)) → new ≡ put p v old → same_names at p ≡ false
    → value_at at new ≡ value_at at old
put_other p v old new at is other = ap (value_at at) is ∙ value_put at p v old ∙ ap (λ b. cond b (Some v) (value_at at old)) other

-- one is put or removed, where what stands elsewhere is as it was
put_value : {V : Type 0} (p : List (List ℕ)) (v : V) (old mid new : List (Entry V)) (at : List (List ℕ))
    → ((q : List (List ℕ)) → same_names q p ≡ false → value_at q mid ≡ value_at q old) → new ≡ put p v mid
    → value_at at new ≡ cond (same_names at p) (Some v) (value_at at old)
put_value p v old mid new at others is = ap (value_at at) is ∙ value_put at p v mid ∙ by (same_names at p) refl
  where
    by : (b : Bool) → same_names at p ≡ b → cond b (Some v) (value_at at mid) ≡ cond b (Some v) (value_at at old)
    by true same = refl
    by false other = others at other

remove_value : {V : Type 0} (p : List (List ℕ)) (old mid new : List (Entry V)) (at : List (List ℕ))
    → ((q : List (List ℕ)) → same_names q p ≡ false → value_at q mid ≡ value_at q old) → new ≡ without p mid
    → value_at at new ≡ cond (same_names at p) None (value_at at old)
remove_value p old mid new at others is = ap (value_at at) is ∙ value_without at p mid ∙ by (same_names at p) refl
  where
    by : (b : Bool) → same_names at p ≡ b → cond b None (value_at at mid) ≡ cond b None (value_at at old)
    by true same = refl
    by false other = others at other

-- what stands at a path, by how another one is the same
there : {V : Type 0} (p at : List (List ℕ)) (o : Option V) (old : List (Entry V)) → o ≡ value_at p old → same_names at p ≡ true → o ≡ value_at at old
there p at o old is same = is ∙ ap (λ q. value_at q old) (sym (same_names-eq at p same))

-- ---- one number more

pub first_added : (p : List (List ℕ)) (n : ℕ) (v : List ℕ) (old new : List (Entry (List ℕ))) → new ≡ put p v old → v ≡ insert_key nat_cmp [] n
    → (at : List (List ℕ)) → value_at at new ≡ cond (same_names at p) (numbers_with n None) (value_at at old)
first_added p n v old new is numbers at = put_value p v old old new at (λ q other. refl) is ∙ ap (λ ns. cond (same_names at p) (Some ns) (value_at at old)) numbers

-- an entry that isn't there before a lift isn't there behind it
none_lifted : {V : Type 0} (p : List (List ℕ)) (old mid : List (Entry V)) → None ≡ value_at p old → is_some (value_at p mid) ≡ is_some (value_at p old)
    → ((q : List (List ℕ)) → same_names q p ≡ false → value_at q mid ≡ value_at q old) → (at : List (List ℕ)) → value_at at mid ≡ value_at at old
none_lifted {V} p old mid none is others at = by (same_names at p) refl
  where
    empty : (o : Option V) → is_some o ≡ false → o ≡ None
    empty None e = refl
    empty (Some w) e = cc

    by : (b : Bool) → same_names at p ≡ b → value_at at mid ≡ value_at at old
    by true same =
        ap (λ q. value_at q mid) (same_names-eq at p same)
        ∙ empty (value_at p mid) (is ∙ sym (ap is_some none))
        ∙ there p at None old none same
    by false other = others at other

pub more_none : (p : List (List ℕ)) (n : ℕ) (old mid new : List (Entry (List ℕ))) (b : Bool) → None ≡ value_at p old
    → is_some (value_at p mid) ≡ is_some (value_at p old)
    → ((q : List (List ℕ)) → same_names q p ≡ false → value_at q mid ≡ value_at q old)
    → ((at : List (List ℕ)) → value_at at new ≡ cond b (cond (same_names at p) (numbers_with n None) (value_at at mid)) (value_at at mid))
    → (at : List (List ℕ)) → value_at at new ≡ cond b (cond (same_names at p) (numbers_with n (value_at at old)) (value_at at old)) (value_at at old)
more_none p n old mid new b none kept others is at =
    is at
    ∙ ap (λ (o : Option (List ℕ)). cond b (cond (same_names at p) (numbers_with n None) o) o) (none_lifted p old mid none kept others at)
    ∙ by (same_names at p) refl b
  where
    by : (s : Bool) → same_names at p ≡ s → (b : Bool)
        → cond b (cond s (numbers_with n None) (value_at at old)) (value_at at old) ≡ cond b (cond s (numbers_with n (value_at at old)) (value_at at old)) (value_at at old)
    by true same true = ap (numbers_with n) (there p at None old none same)
    by true same false = refl
    by false other b = refl

pub more_put : (p : List (List ℕ)) (n : ℕ) (w v : List ℕ) (old mid new : List (Entry (List ℕ))) (b : Bool) → Some w ≡ value_at p old
    → ((q : List (List ℕ)) → same_names q p ≡ false → value_at q mid ≡ value_at q old)
    → v ≡ cond b (insert_key nat_cmp w n) w → new ≡ put p v mid
    → (at : List (List ℕ)) → value_at at new ≡ cond b (cond (same_names at p) (numbers_with n (value_at at old)) (value_at at old)) (value_at at old)
more_put p n w v old mid new b some others numbers is at = put_value p v old mid new at others is ∙ by (same_names at p) refl b numbers
  where
    by : (s : Bool) → same_names at p ≡ s → (b : Bool) → v ≡ cond b (insert_key nat_cmp w n) w
        → cond s (Some v) (value_at at old) ≡ cond b (cond s (numbers_with n (value_at at old)) (value_at at old)) (value_at at old)
    by true same true e = ap Some e ∙ ap (numbers_with n) (there p at (Some w) old some same)
    by true same false e = ap Some e ∙ there p at (Some w) old some same
    by false other true e = refl
    by false other false e = refl

-- ---- one number less

pub less_none : (p : List (List ℕ)) (n : ℕ) (old mid : List (Entry (List ℕ))) → None ≡ value_at p old
    → is_some (value_at p mid) ≡ is_some (value_at p old)
    → ((q : List (List ℕ)) → same_names q p ≡ false → value_at q mid ≡ value_at q old)
    → (at : List (List ℕ)) → value_at at mid ≡ cond (same_names at p) (numbers_less n (value_at at old)) (value_at at old)
less_none p n old mid none kept others at = none_lifted p old mid none kept others at ∙ by (same_names at p) refl
  where
    by : (s : Bool) → same_names at p ≡ s → value_at at old ≡ cond s (numbers_less n (value_at at old)) (value_at at old)
    by true same = sym (there p at None old none same) ∙ ap (numbers_less n) (there p at None old none same)
    by false other = refl

-- what is left there
left_there : (p : List (List ℕ)) (n : ℕ) (w v : List ℕ) (old : List (Entry (List ℕ))) (at : List (List ℕ)) → Some w ≡ value_at p old
    → v ≡ filter (is_other n) w → same_names at p ≡ true → v ≡ filter (is_other n) (list_or_empty (value_at at old))
left_there p n w v old at some numbers same = numbers ∙ ap (λ o. filter (is_other n) (list_or_empty o)) (there p at (Some w) old some same)

pub less_here : (p : List (List ℕ)) (n : ℕ) (w v : List ℕ) (old mid new : List (Entry (List ℕ))) → Some w ≡ value_at p old
    → ((q : List (List ℕ)) → same_names q p ≡ false → value_at q mid ≡ value_at q old)
    → v ≡ filter (is_other n) w → nat_eq (length v) 0 ≡ true → new ≡ without p mid
    → (at : List (List ℕ)) → value_at at new ≡ cond (same_names at p) (numbers_less n (value_at at old)) (value_at at old)
less_here p n w v old mid new some others numbers empty is at = remove_value p old mid new at others is ∙ by (same_names at p) refl
  where
    none : (ns : List ℕ) → nat_eq (length ns) 0 ≡ true → None ≡ some_list ns
    none [] e = refl
    none (m ∷ ns) e = let same = eqb-true (length (m ∷ ns)) 0 e in absurd (omega (arith, same))

    by : (b : Bool) → same_names at p ≡ b → cond b None (value_at at old) ≡ cond b (numbers_less n (value_at at old)) (value_at at old)
    by true same = none v empty ∙ ap some_list (left_there p n w v old at some numbers same)
    by false other = refl

pub less_put : (p : List (List ℕ)) (n : ℕ) (w v : List ℕ) (old mid new : List (Entry (List ℕ))) → Some w ≡ value_at p old
    → ((q : List (List ℕ)) → same_names q p ≡ false → value_at q mid ≡ value_at q old)
    → v ≡ filter (is_other n) w → nat_eq (length v) 0 ≡ false → new ≡ put p v mid
    → (at : List (List ℕ)) → value_at at new ≡ cond (same_names at p) (numbers_less n (value_at at old)) (value_at at old)
less_put p n w v old mid new some others numbers filled is at = put_value p v old mid new at others is ∙ by (same_names at p) refl
  where
    some_of : (ns : List ℕ) → nat_eq (length ns) 0 ≡ false → Some ns ≡ some_list ns
    some_of [] e = cc
    some_of (m ∷ ns) e = refl

    by : (b : Bool) → same_names at p ≡ b → cond b (Some v) (value_at at old) ≡ cond b (numbers_less n (value_at at old)) (value_at at old)
    by true same = some_of v filled ∙ ap some_list (left_there p n w v old at some numbers same)
    by false other = refl
