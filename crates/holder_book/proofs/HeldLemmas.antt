-- The paths that are counted are those of the holds.
use Rattle.std.proofs.Common.{◌≡◌, ◌+◌, ℕ, suc, nat_eq, Bool, true, false, ◌||◌, cond, List, [], ◌∷◌, refl, ◌∙◌, sym, ap, arith, count_by, Contains}
use Rattle.std.proofs.lemmas.List.Sums.{sum_by-cons}
use Rattle.std.specs.Cmp.{both_ways, second_so}
use Rattle.std.specs.List.{find, list_any}
use Rattle.std.specs.Option.{is_some, option_map}
use Rattle.std.specs.declared.option.Option.TheVariants.{Some}
use Rattle.mat_path.specs.Names.{overlap, same_names}
use Rattle.mat_path.proofs.Elements.{contains_first, contains_more, each_fails, none_passes}
use Rattle.mat_path.proofs.PathLemmas.{overlap_comm}
use Rattle.mat_path.proofs.SameNames.{same_names-eq, same_names-refl}
use Rattle.mat_model.specs.declared.book.Hold.{Hold}
use Rattle.mat_model.specs.Cleaning.{holds_path}
use Rattle.mat_model.specs.Tickets.{is_hold}
use Rattle.path_trie.specs.declared.entry.Entry.{Entry}
use Rattle.path_trie.specs.Entries.{is_at, overlaps, value_of}
use Rattle.holder_book.specs.Counts.{AreCounted, count_at, is_on, positive}
use Rattle.holder_book.proofs.CountLemmas.{count_is}

-- ---- tests of some element

any_of : {X : Type 0} (p : X → Bool) (xs : List X) → list_any p xs ≡ true → (x : X) × Contains xs x × (p x ≡ true)
any_of p [] h = cc
any_of {X} p (x ∷ xs) h = by (p x) refl h (any_of p xs)
  where
    by : (b : Bool) → p x ≡ b → (b || list_any p xs) ≡ true → (list_any p xs ≡ true → (y : X) × Contains xs y × (p y ≡ true))
        → (y : X) × Contains (x ∷ xs) y × (p y ≡ true)
    by true e h more = (x, contains_first x xs, e)
    by false e h more = let found = more h in (found.0, contains_more x xs found.0 found.1, found.2)

any_by : {X : Type 0} (p : X → Bool) (xs : List X) (x : X) → Contains xs x → p x ≡ true → list_any p xs ≡ true
any_by p xs x among so = by (list_any p xs) refl
  where
    by : (b : Bool) → list_any p xs ≡ b → b ≡ true
    by true e = refl
    by false e = let lost : true ≡ false = sym so ∙ each_fails p xs x e among in cc

found_any : {X V : Type 0} (f : X → V) (p : X → Bool) (xs : List X) → is_some (option_map f (find p xs)) ≡ list_any p xs
found_any f p [] = refl
found_any f p (x ∷ xs) = by (p x) (found_any f p xs)
  where
    by : (b : Bool) → is_some (option_map f (find p xs)) ≡ list_any p xs → is_some (option_map f (cond b (Some x) (find p xs))) ≡ (b || list_any p xs)
    by true more = refl
    by false more = more

counted_any : {X : Type 0} (p : X → Bool) (xs : List X) → is_some (positive (count_by p xs)) ≡ list_any p xs
counted_any p [] = refl
counted_any {X} p (x ∷ xs) = by (p x) (sum_by-cons (λ (y : X). cond (p y) 1 0) x xs) (counted_any p xs)
  where
    by : (b : Bool) → count_by p (x ∷ xs) ≡ cond b 1 0 + count_by p xs → is_some (positive (count_by p xs)) ≡ list_any p xs
        → is_some (positive (count_by p (x ∷ xs))) ≡ (b || list_any p xs)
    by true e more = let one : count_by p (x ∷ xs) ≡ suc (count_by p xs) = omega (arith, e) in ap (λ n. is_some (positive n)) one
    by false e more = let same : count_by p (x ∷ xs) ≡ count_by p xs = omega (arith, e) in ap (λ n. is_some (positive n)) same ∙ more

-- where the same paths stand in two lists, what is so of a path of one is so of a path of the other
carried : {X Y : Type 0} (f : X → List (List ℕ)) (g : Y → List (List ℕ)) (t u : List (List ℕ) → Bool) (xs : List X) (ys : List Y)
    → ((p : List (List ℕ)) → t p ≡ true → u p ≡ true)
    → ((p : List (List ℕ)) → list_any (λ x. same_names p (f x)) xs ≡ list_any (λ y. same_names p (g y)) ys)
    → list_any (λ x. t (f x)) xs ≡ true → list_any (λ y. u (g y)) ys ≡ true
carried f g t u xs ys turn alike h =
    let x = any_of (λ x. t (f x)) xs h in
    let here = any_by (λ z. same_names (f x.0) (f z)) xs x.0 x.1 (same_names-refl (f x.0)) in
    let y = any_of (λ y. same_names (f x.0) (g y)) ys (sym (alike (f x.0)) ∙ here) in
    any_by (λ y. u (g y)) ys y.0 y.1 (ap u (sym (same_names-eq (f x.0) (g y.0) y.2)) ∙ turn (f x.0) x.2)

same_paths : (holds : List Hold) (counts : List (Entry ℕ)) → AreCounted holds counts
    → (p : List (List ℕ)) → list_any (is_at p) counts ≡ list_any (is_on p) holds
same_paths holds counts are p = sym (found_any value_of (is_at p) counts) ∙ ap is_some (are p) ∙ counted_any (is_on p) holds

-- a counted path overlaps another one where some hold's path does
pub held_is : (holds : List Hold) (counts : List (Entry ℕ)) (path : List (List ℕ)) → AreCounted holds counts
    → list_any (overlaps path) counts ≡ list_any (holds_path path) holds
held_is holds counts path are =
    both_ways (list_any (overlaps path) counts) (list_any (holds_path path) holds)
    (carried (λ (e : Entry ℕ). e.path) (λ (h : Hold). h.path) (overlap path) (λ p. overlap p path) counts holds (λ p h. overlap_comm p path ∙ h) (same_paths holds counts are))
    (carried (λ (h : Hold). h.path) (λ (e : Entry ℕ). e.path) (λ p. overlap p path) (overlap path) holds counts (λ p h. overlap_comm path p ∙ h) (λ p. sym (same_paths holds counts are p)))

-- where no hold is on a path, no command's is
pub none_on : (holds : List Hold) (counts : List (Entry ℕ)) (command : ℕ) (path : List (List ℕ)) → AreCounted holds counts → count_at path counts ≡ 0
    → list_any (is_hold command path) holds ≡ false
none_on holds counts command path are none = none_passes (is_hold command path) holds other
  where
    nowhere : list_any (is_on path) holds ≡ false
    nowhere = sym (counted_any (is_on path) holds) ∙ ap (λ n. is_some (positive n)) (sym (count_is holds counts path are) ∙ none)

    other : (h : Hold) → Contains holds h → is_hold command path h ≡ false
    other h among = by (is_hold command path h) refl
      where
        by : (b : Bool) → is_hold command path h ≡ b → b ≡ false
        by true so =
            let same : same_names h.path path ≡ true = second_so (nat_eq h.command command) (same_names h.path path) so in
            let on : same_names path h.path ≡ true = ap (same_names path) (same_names-eq h.path path same) ∙ same_names-refl path in
            let lost : true ≡ false = sym on ∙ each_fails (is_on path) holds h nowhere among in cc
        by false so = refl
