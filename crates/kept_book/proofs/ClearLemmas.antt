-- The marks that don't overlap a path are those whose paths aren't among the paths of the marks that do.
use Rattle.std.proofs.Common.{◌≡◌, ℕ, Bool, true, false, ◌||◌, ◌&&◌, not, cond, List, [], ◌∷◌, map, refl, ◌∙◌, sym, ap}
use Rattle.std.proofs.lemmas.Bool.{and_from}
use Rattle.std.specs.Cmp.{first_so, second_so}
use Rattle.std.specs.List.{filter, list_all, list_any}
use Rattle.mat_path.specs.Names.{overlap, same_names}
use Rattle.mat_path.proofs.SameNames.{same_names-eq, same_names-refl, same_names-sym}
use Rattle.path_trie.proofs.Lists.{all_so}
use Rattle.kept_book.specs.declared.mark.Mark.{Mark}
use Rattle.kept_book.specs.Marks.{is_clear_mark, is_listed, is_mark_at, is_mark_unlisted, overlaps_mark, path_of_mark}

and_none : (a : Bool) → (a && false) ≡ false
and_none true = refl
and_none false = refl

-- whether one of some marks is at the path of another one
abbrev is_marked_in : List Mark → Mark → Bool
is_marked_in marks mark = list_any (is_mark_at mark.path) marks

-- a path is listed where it overlaps and a mark is at it
listed_over : (p q : List (List ℕ)) (ms : List Mark)
    → is_listed (map path_of_mark (filter (overlaps_mark p) ms)) q ≡ (overlap q p && list_any (is_mark_at q) ms)
listed_over p q [] = sym (and_none (overlap q p))
listed_over p q (m ∷ ms) = by (overlap m.path p) (same_names q m.path) refl refl (listed_over p q ms)
  where
    left : List (List (List ℕ))
    left = map path_of_mark (filter (overlaps_mark p) ms)

    by : (a b : Bool) → overlap m.path p ≡ a → same_names q m.path ≡ b → is_listed left q ≡ (overlap q p && list_any (is_mark_at q) ms)
        → is_listed (map path_of_mark (cond a (m ∷ filter (overlaps_mark p) ms) (filter (overlaps_mark p) ms))) q ≡ (overlap q p && (b || list_any (is_mark_at q) ms))
    by true true over same more =
        ap (λ c. c || is_listed left q) (same_names-sym m.path q ∙ same)
        ∙ sym (ap (λ c. c && true) (ap (λ r. overlap r p) (same_names-eq q m.path same) ∙ over))
    by true false over same more = ap (λ c. c || is_listed left q) (same_names-sym m.path q ∙ same) ∙ more
    by false true over same more =
        let apart : overlap q p ≡ false = ap (λ r. overlap r p) (same_names-eq q m.path same) ∙ over in
        more ∙ ap (λ c. c && list_any (is_mark_at q) ms) apart ∙ sym (ap (λ c. c && true) apart)
    by false false over same more = more

-- each mark is among them
all_marked : (ms : List Mark) → list_all (is_marked_in ms) ms ≡ true
all_marked [] = refl
all_marked (m ∷ ms) =
    and_from (is_marked_in (m ∷ ms) m) (list_all (is_marked_in (m ∷ ms)) ms) (ap (λ b. b || is_marked_in ms m) (same_names-refl m.path))
    (all_so (is_marked_in ms) (is_marked_in (m ∷ ms)) more ms (all_marked ms))
  where
    or_right : (a b : Bool) → b ≡ true → (a || b) ≡ true
    or_right true b h = refl
    or_right false b h = h

    more : (x : Mark) → is_marked_in ms x ≡ true → is_marked_in (m ∷ ms) x ≡ true
    more x h = or_right (same_names x.path m.path) (is_marked_in ms x) h

clear_of : (p : List (List ℕ)) (ms some : List Mark) → list_all (is_marked_in ms) some ≡ true
    → filter (is_mark_unlisted (map path_of_mark (filter (overlaps_mark p) ms))) some ≡ filter (is_clear_mark p) some
clear_of p ms [] h = refl
clear_of p ms (m ∷ some) h =
    ap (λ b. cond (not b) (m ∷ filter (is_mark_unlisted (map path_of_mark (filter (overlaps_mark p) ms))) some) (filter (is_mark_unlisted (map path_of_mark (filter (overlaps_mark p) ms))) some)) same
    ∙ ap (λ t. cond (is_clear_mark p m) (m ∷ t) t) (clear_of p ms some (second_so (is_marked_in ms m) (list_all (is_marked_in ms) some) h))
  where
    and_all : (a : Bool) → (a && true) ≡ a
    and_all true = refl
    and_all false = refl

    same : is_listed (map path_of_mark (filter (overlaps_mark p) ms)) m.path ≡ overlaps_mark p m
    same =
        listed_over p m.path ms
        ∙ ap (λ b. overlap m.path p && b) (first_so (is_marked_in ms m) (list_all (is_marked_in ms) some) h)
        ∙ and_all (overlap m.path p)

pub clear_left : (p : List (List ℕ)) (ms : List Mark)
    → filter (is_mark_unlisted (map path_of_mark (filter (overlaps_mark p) ms))) ms ≡ filter (is_clear_mark p) ms
clear_left p ms = clear_of p ms ms (all_marked ms)
