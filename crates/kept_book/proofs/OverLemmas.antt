-- The marks that overlap a path, found among all spots that do.
use Rattle.std.proofs.Common.{◌≡◌, ℕ, Bool, true, false, not, cond, List, [], ◌∷◌, ◌++◌, map, refl, ◌∙◌, sym, ap}
use Rattle.std.proofs.lemmas.Bool.{and_from}
use Rattle.std.specs.Cmp.{first_so, second_so}
use Rattle.std.specs.List.{filter, find, list_all}
use Rattle.std.specs.Option.{is_some, option_map}
use Rattle.std.specs.declared.option.Option.TheVariants.{Some}
use Rattle.mat_path.specs.Names.{overlap}
use Rattle.mat_path.proofs.PathLemmas.{overlap_comm}
use Rattle.mat_path.proofs.SameNames.{same_names-refl}
use Rattle.path_trie.specs.declared.entry.Entry.{Entry}
use Rattle.path_trie.specs.Entries.{ascends, is_at, is_less, overlaps, path_of, value_of}
use Rattle.path_trie.proofs.Lists.{all_filter, filter_same}
use Rattle.path_trie.proofs.Values.{apart_behind}
use Rattle.kept_book.specs.declared.mark.Mark.{Mark}
use Rattle.kept_book.specs.declared.spot.Spot.{Spot}
use Rattle.kept_book.specs.declared.spot.Spot.TheVariants as spot
use Rattle.kept_book.specs.Marks.{overlaps_mark, path_of_mark}
use Rattle.kept_book.specs.Spots.{is_kept_at, mark_in, marks_of, use_in}
use Rattle.kept_book.proofs.MarkLemmas.{marks_by}

all_two : {X : Type 0} (p q r : X → Bool) → ((x : X) → p x ≡ true → q x ≡ true → r x ≡ true) → (xs : List X) → list_all p xs ≡ true → list_all q xs ≡ true
    → list_all r xs ≡ true
all_two p q r f [] g h = refl
all_two p q r f (x ∷ xs) g h =
    and_from (r x) (list_all r xs) (f x (first_so (p x) (list_all p xs) g) (first_so (q x) (list_all q xs) h))
    (all_two p q r f xs (second_so (p x) (list_all p xs) g) (second_so (q x) (list_all q xs) h))

-- whether two answers are the same
abbrev alike : Bool → Bool → Bool
alike true b = b
alike false b = not b

alike_self : (b : Bool) → alike b b ≡ true
alike_self true = refl
alike_self false = refl

-- whether an entry stands for a mark
abbrev is_kept : Entry Spot → Bool
is_kept e = is_some (use_in (Some e.value))

-- whether what is found at the path of an entry is the entry's mark
abbrev agrees : List (Entry Spot) → Entry Spot → Bool
agrees xs e = alike (is_kept_at xs e.path) (is_kept e)

all_agree : (xs : List (Entry Spot)) → ascends xs ≡ true → list_all (agrees xs) xs ≡ true
all_agree [] h = refl
all_agree (x ∷ xs) h =
    and_from (agrees (x ∷ xs) x) (list_all (agrees (x ∷ xs)) xs)
    (ap (λ b. alike (is_some (use_in (option_map value_of (cond b (Some x) (find (is_at x.path) xs))))) (is_kept x)) (same_names-refl x.path) ∙ alike_self (is_kept x))
    (all_two (is_less x) (agrees xs) (agrees (x ∷ xs)) more xs (first_so (list_all (is_less x) xs) (ascends xs) h)
    (all_agree xs (second_so (list_all (is_less x) xs) (ascends xs) h)))
  where
    more : (y : Entry Spot) → is_less x y ≡ true → agrees xs y ≡ true → agrees (x ∷ xs) y ≡ true
    more y less same =
        ap (λ b. alike (is_some (use_in (option_map value_of (cond b (Some x) (find (is_at y.path) xs))))) (is_kept y)) (apart_behind y.path x.path less) ∙ same

kept_paths : (xs ys : List (Entry Spot)) → list_all (agrees xs) ys ≡ true → filter (is_kept_at xs) (map path_of ys) ≡ map path_of_mark (marks_of ys)
kept_paths xs [] h = refl
kept_paths xs (e ∷ ys) h =
    by e.value (is_kept_at xs e.path) (first_so (agrees xs e) (list_all (agrees xs) ys) h) (kept_paths xs ys (second_so (agrees xs e) (list_all (agrees xs) ys) h))
  where
    by : (v : Spot) (b : Bool) → alike b (is_some (use_in (Some v))) ≡ true → filter (is_kept_at xs) (map path_of ys) ≡ map path_of_mark (marks_of ys)
        → cond b (e.path ∷ filter (is_kept_at xs) (map path_of ys)) (filter (is_kept_at xs) (map path_of ys)) ≡ map path_of_mark (mark_in e.path v ++ marks_of ys)
    by (spot.Kept last new) true a more = ap (λ t. e.path ∷ t) more
    by (spot.Kept last new) false a more = let lost : false ≡ true = a in cc
    by spot.Reserved true a more = let lost : false ≡ true = a in cc
    by spot.Reserved false a more = more
    by (spot.Both last new) true a more = ap (λ t. e.path ∷ t) more
    by (spot.Both last new) false a more = let lost : false ≡ true = a in cc

pub over_is : (p : List (List ℕ)) (xs : List (Entry Spot)) (paths : List (List (List ℕ))) (now : List Mark) → ascends xs ≡ true
    → paths ≡ map path_of (filter (overlaps p) xs) → marks_of xs ≡ now → filter (is_kept_at xs) paths ≡ map path_of_mark (filter (overlaps_mark p) now)
over_is p xs paths now h is was =
    ap (filter (is_kept_at xs)) is
    ∙ kept_paths xs (filter (overlaps p) xs) (all_filter (agrees xs) (overlaps p) xs (all_agree xs h))
    ∙ ap (λ es. map path_of_mark (marks_of es)) (filter_same (overlaps p) (λ (e : Entry Spot). overlap e.path p) (λ e. overlap_comm p e.path) xs)
    ∙ ap (map path_of_mark) (sym (marks_by (λ q. overlap q p) xs))
    ∙ ap (λ ms. map path_of_mark (filter (overlaps_mark p) ms)) was
