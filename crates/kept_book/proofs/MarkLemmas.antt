-- The marks and the reserved places that spots stand for.
use Rattle.std.proofs.Common.{◌≡◌, ℕ, Bool, true, false, ◌||◌, not, cond, List, [], ◌∷◌, ◌++◌, refl, ◌∙◌, sym, ap}
use Rattle.std.specs.List.{filter, find, list_any}
use Rattle.std.specs.Option.{is_some, option_map}
use Rattle.std.specs.declared.option.Option.{Option}
use Rattle.std.specs.declared.option.Option.TheVariants.{Some, None}
use Rattle.mat_path.specs.Names.{same_names}
use Rattle.path_trie.specs.declared.entry.Entry.{Entry}
use Rattle.path_trie.specs.Entries.{ascends, is_at, is_behind, put, value_at, value_of, without}
use Rattle.path_trie.proofs.Lists.{find_first, first_of}
use Rattle.kept_book.specs.declared.mark.Mark.{Mark}
use Rattle.kept_book.specs.declared.spot.Spot.{Spot}
use Rattle.kept_book.specs.declared.spot.Spot.TheVariants as spot
use Rattle.kept_book.specs.Marks.{is_reserved, is_mark_at, is_mark_before, is_mark_elsewhere, is_other, is_path_before, is_path_behind, mark_at, put_mark, put_path, use_of}
use Rattle.kept_book.specs.Spots.{mark_in, marks_of, reserved_in, reserved_of, told, use_in}
use Rattle.kept_book.proofs.SpotLemmas.{at_place, flat_filter, here_is, told_put}

none_left : {Y : Type 0} (b : Bool) → ◌≡◌ {A = List Y} [] (cond b [] [])
none_left true = refl
none_left false = refl

-- a test of paths goes through to the entries
pub marks_by : (t : List (List ℕ) → Bool) (xs : List (Entry Spot)) → filter (λ (m : Mark). t m.path) (marks_of xs) ≡ marks_of (filter (λ (e : Entry Spot). t e.path) xs)
marks_by t xs = flat_filter (told mark_in) (λ (m : Mark). t m.path) (λ (e : Entry Spot). t e.path) (λ e. by e.path e.value) xs
  where
    by : (p : List (List ℕ)) (v : Spot) → filter (λ (m : Mark). t m.path) (mark_in p v) ≡ cond (t p) (mark_in p v) []
    by p (spot.Kept last new) = refl
    by p spot.Reserved = none_left (t p)
    by p (spot.Both last new) = refl

places_by : (t : List (List ℕ) → Bool) (xs : List (Entry Spot)) → filter t (reserved_of xs) ≡ reserved_of (filter (λ (e : Entry Spot). t e.path) xs)
places_by t xs = flat_filter (told reserved_in) t (λ (e : Entry Spot). t e.path) (λ e. by e.path e.value) xs
  where
    by : (p : List (List ℕ)) (v : Spot) → filter t (reserved_in p v) ≡ cond (t p) (reserved_in p v) []
    by p (spot.Kept last new) = none_left (t p)
    by p spot.Reserved = refl
    by p (spot.Both last new) = refl

-- ---- marks

pub marks_without : (p : List (List ℕ)) (xs : List (Entry Spot)) → marks_of (without p xs) ≡ filter (is_mark_elsewhere p) (marks_of xs)
marks_without p xs = sym (marks_by (λ q. not (same_names p q)) xs)

pub marks_put : (p : List (List ℕ)) (v : Spot) (last : ℕ) (new : Bool) (xs : List (Entry Spot)) → mark_in p v ≡ mark_at p last new ∷ []
    → marks_of (put p v xs) ≡ put_mark (mark_at p last new) (marks_of xs)
marks_put p v last new xs e =
    told_put mark_in p v (mark_at p last new) xs e
    ∙ ap (λ t. t ++ (mark_at p last new ∷ marks_of (filter (is_behind p) xs))) (sym (marks_by (is_path_before p) xs))
    ∙ ap (λ t. filter (is_mark_before p) (marks_of xs) ++ (mark_at p last new ∷ t)) (sym (marks_by (is_path_behind p) xs))

-- what is told of the mark at a path
pub mark_found : (p : List (List ℕ)) (xs : List (Entry Spot)) → ascends xs ≡ true → use_in (value_at p xs) ≡ option_map use_of (find (is_mark_at p) (marks_of xs))
mark_found p xs h = by (value_at p xs) ∙ ap (λ ms. option_map use_of (first_of ms)) (sym here) ∙ ap (option_map use_of) (sym (find_first (is_mark_at p) (marks_of xs)))
  where
    here : filter (is_mark_at p) (marks_of xs) ≡ marks_of (at_place p (value_at p xs))
    here = marks_by (same_names p) xs ∙ ap marks_of (here_is p xs h)

    by : (o : Option Spot) → use_in o ≡ option_map use_of (first_of (marks_of (at_place p o)))
    by None = refl
    by (Some (spot.Kept last new)) = refl
    by (Some spot.Reserved) = refl
    by (Some (spot.Both last new)) = refl

some_mapped : {X Y : Type 0} (f : X → Y) (o : Option X) → is_some (option_map f o) ≡ is_some o
some_mapped f None = refl
some_mapped f (Some x) = refl

pub mark_there : (p : List (List ℕ)) (xs : List (Entry Spot)) → ascends xs ≡ true → is_some (use_in (value_at p xs)) ≡ is_some (find (is_mark_at p) (marks_of xs))
mark_there p xs h = ap is_some (mark_found p xs h) ∙ some_mapped use_of (find (is_mark_at p) (marks_of xs))

-- ---- reserved places

pub places_without : (p : List (List ℕ)) (xs : List (Entry Spot)) → reserved_of (without p xs) ≡ filter (is_other p) (reserved_of xs)
places_without p xs = sym (places_by (is_other p) xs)

pub places_put : (p : List (List ℕ)) (v : Spot) (xs : List (Entry Spot)) → reserved_in p v ≡ p ∷ [] → reserved_of (put p v xs) ≡ put_path p (reserved_of xs)
places_put p v xs e =
    told_put reserved_in p v p xs e
    ∙ ap (λ t. t ++ (p ∷ reserved_of (filter (is_behind p) xs))) (sym (places_by (is_path_before p) xs))
    ∙ ap (λ t. filter (is_path_before p) (reserved_of xs) ++ (p ∷ t)) (sym (places_by (is_path_behind p) xs))

-- where a place is reserved something stands
pub place_there : (p : List (List ℕ)) (xs : List (Entry Spot)) → is_reserved (reserved_of xs) p ≡ true → is_some (value_at p xs) ≡ true
place_there p [] h = cc
place_there p (x ∷ xs) h = by (is_at p x) refl x.value (place_there p xs) h
  where
    by : (b : Bool) → same_names p x.path ≡ b → (v : Spot) → (is_reserved (reserved_of xs) p ≡ true → is_some (value_at p xs) ≡ true)
        → list_any (same_names p) (reserved_in x.path v ++ reserved_of xs) ≡ true → is_some (option_map value_of (cond b (Some x) (find (is_at p) xs))) ≡ true
    by true e v more h = refl
    by false e (spot.Kept last new) more h = more h
    by false e spot.Reserved more h = more (ap (λ b. b || list_any (same_names p) (reserved_of xs)) (sym e) ∙ h)
    by false e (spot.Both last new) more h = more (ap (λ b. b || list_any (same_names p) (reserved_of xs)) (sym e) ∙ h)
