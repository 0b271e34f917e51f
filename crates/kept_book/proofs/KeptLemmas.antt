-- What is seen of a book after each call.
use Rattle.std.proofs.Common.{◌≡◌, ℕ, Bool, true, false, cond, List, [], ◌∷◌, refl, ◌∙◌, sym, ap}
use Rattle.std.specs.List.{filter}
use Rattle.std.specs.Option.{is_some}
use Rattle.std.specs.declared.option.Option.{Option}
use Rattle.std.specs.declared.option.Option.TheVariants.{Some, None}
use Rattle.path_trie.specs.declared.entry.Entry.{Entry}
use Rattle.path_trie.specs.Entries.{ascends, put, value_at, without}
use Rattle.kept_book.specs.declared.mark.Mark.{Mark}
use Rattle.kept_book.specs.declared.spot.Spot.{Spot}
use Rattle.kept_book.specs.declared.spot.Spot.TheVariants as spot
use Rattle.kept_book.specs.Marks.{is_mark_elsewhere, is_other, mark_at, put_mark, put_path}
use Rattle.kept_book.specs.Spots.{all_told, left_with, mark_in, marks_of, reserved_in, reserved_of, told_at, with_place, with_use, without_place, without_use}
use Rattle.kept_book.proofs.MarkLemmas.{marks_put, marks_without, places_put, places_without}
use Rattle.kept_book.proofs.SpotLemmas.{told_gone, told_same, told_without}

-- ---- what a changed spot stands for

pub use_told : (p : List (List ℕ)) (o : Option Spot) (last : ℕ) (new : Bool) → mark_in p (with_use o last new) ≡ mark_at p last new ∷ []
use_told p None last new = refl
use_told p (Some (spot.Kept l n)) last new = refl
use_told p (Some spot.Reserved) last new = refl
use_told p (Some (spot.Both l n)) last new = refl

pub use_place : (p : List (List ℕ)) (o : Option Spot) (last : ℕ) (new : Bool) → reserved_in p (with_use o last new) ≡ told_at reserved_in p o
use_place p None last new = refl
use_place p (Some (spot.Kept l n)) last new = refl
use_place p (Some spot.Reserved) last new = refl
use_place p (Some (spot.Both l n)) last new = refl

pub place_told : (p : List (List ℕ)) (o : Option Spot) → reserved_in p (with_place o) ≡ p ∷ []
place_told p None = refl
place_told p (Some (spot.Kept l n)) = refl
place_told p (Some spot.Reserved) = refl
place_told p (Some (spot.Both l n)) = refl

pub place_use : (p : List (List ℕ)) (o : Option Spot) → mark_in p (with_place o) ≡ told_at mark_in p o
place_use p None = refl
place_use p (Some (spot.Kept l n)) = refl
place_use p (Some spot.Reserved) = refl
place_use p (Some (spot.Both l n)) = refl

pub no_use_told : (p : List (List ℕ)) (o : Option Spot) → told_at mark_in p (without_use o) ≡ []
no_use_told p None = refl
no_use_told p (Some (spot.Kept l n)) = refl
no_use_told p (Some spot.Reserved) = refl
no_use_told p (Some (spot.Both l n)) = refl

pub no_use_place : (p : List (List ℕ)) (o : Option Spot) → told_at reserved_in p (without_use o) ≡ told_at reserved_in p o
no_use_place p None = refl
no_use_place p (Some (spot.Kept l n)) = refl
no_use_place p (Some spot.Reserved) = refl
no_use_place p (Some (spot.Both l n)) = refl

pub no_place_told : (p : List (List ℕ)) (o : Option Spot) → told_at reserved_in p (without_place o) ≡ []
no_place_told p None = refl
no_place_told p (Some (spot.Kept l n)) = refl
no_place_told p (Some spot.Reserved) = refl
no_place_told p (Some (spot.Both l n)) = refl

pub no_place_use : (p : List (List ℕ)) (o : Option Spot) → told_at mark_in p (without_place o) ≡ told_at mark_in p o
no_place_use p None = refl
no_place_use p (Some (spot.Kept l n)) = refl
no_place_use p (Some spot.Reserved) = refl
no_place_use p (Some (spot.Both l n)) = refl

-- where a spot is left, one stood
pub use_stood : (o : Option Spot) → is_some (without_use o) ≡ true → is_some o ≡ true
use_stood None h = h
use_stood (Some v) h = refl

pub place_stood : (o : Option Spot) → is_some (without_place o) ≡ true → is_some o ≡ true
place_stood None h = h
place_stood (Some v) h = refl

-- ---- what is seen

-- what isn't touched, where a spot is put or not
pub same_put : {Y : Type 0} (f : List (List ℕ) → Spot → List Y) (b : Bool) (p : List (List ℕ)) (v : Spot) (xs news : List (Entry Spot)) (now : List Y)
    → news ≡ cond b (put p v xs) xs → ascends xs ≡ true → f p v ≡ told_at f p (value_at p xs) → all_told f xs ≡ now → all_told f news ≡ now
same_put f true p v xs news now is h e was = ap (all_told f) is ∙ told_same f p v xs h e ∙ was
same_put f false p v xs news now is h e was = ap (all_told f) is ∙ was

pub marks_added : (b : Bool) (p : List (List ℕ)) (v : Spot) (last : ℕ) (new : Bool) (xs news : List (Entry Spot)) (now : List Mark)
    → news ≡ cond b (put p v xs) xs → mark_in p v ≡ mark_at p last new ∷ [] → marks_of xs ≡ now
    → marks_of news ≡ cond b (put_mark (mark_at p last new) now) now
marks_added true p v last new xs news now is e was = ap marks_of is ∙ marks_put p v last new xs e ∙ ap (put_mark (mark_at p last new)) was
marks_added false p v last new xs news now is e was = ap marks_of is ∙ was

pub places_added : (b : Bool) (p : List (List ℕ)) (v : Spot) (xs news : List (Entry Spot)) (now : List (List (List ℕ)))
    → news ≡ cond b (put p v xs) xs → reserved_in p v ≡ p ∷ [] → reserved_of xs ≡ now
    → reserved_of news ≡ cond b (put_path p now) now
places_added true p v xs news now is e was = ap reserved_of is ∙ places_put p v xs e ∙ ap (put_path p) was
places_added false p v xs news now is e was = ap reserved_of is ∙ was

-- what isn't touched, where a spot is left or not
pub same_left : {Y : Type 0} (f : List (List ℕ) → Spot → List Y) (p : List (List ℕ)) (o : Option Spot) (xs news : List (Entry Spot)) (now : List Y)
    → news ≡ left_with p o xs → ascends xs ≡ true → told_at f p o ≡ told_at f p (value_at p xs) → all_told f xs ≡ now → all_told f news ≡ now
same_left f p None xs news now is h e was = ap (all_told f) is ∙ told_without f p xs h (sym e) ∙ was
same_left f p (Some v) xs news now is h e was = ap (all_told f) is ∙ told_same f p v xs h e ∙ was

gone_left : {Y : Type 0} (f : List (List ℕ) → Spot → List Y) (p : List (List ℕ)) (o : Option Spot) (xs news : List (Entry Spot))
    → news ≡ left_with p o xs → ascends xs ≡ true → told_at f p o ≡ [] → all_told f news ≡ all_told f (without p xs)
gone_left f p None xs news is h e = ap (all_told f) is
gone_left f p (Some v) xs news is h e = ap (all_told f) is ∙ told_gone f p v xs h e

pub marks_taken : (p : List (List ℕ)) (o : Option Spot) (xs news : List (Entry Spot)) (now : List Mark)
    → news ≡ left_with p o xs → ascends xs ≡ true → told_at mark_in p o ≡ [] → marks_of xs ≡ now → marks_of news ≡ filter (is_mark_elsewhere p) now
marks_taken p o xs news now is h e was = gone_left mark_in p o xs news is h e ∙ marks_without p xs ∙ ap (filter (is_mark_elsewhere p)) was

pub places_taken : (p : List (List ℕ)) (o : Option Spot) (xs news : List (Entry Spot)) (now : List (List (List ℕ)))
    → news ≡ left_with p o xs → ascends xs ≡ true → told_at reserved_in p o ≡ [] → reserved_of xs ≡ now → reserved_of news ≡ filter (is_other p) now
places_taken p o xs news now is h e was = gone_left reserved_in p o xs news is h e ∙ places_without p xs ∙ ap (filter (is_other p)) was
