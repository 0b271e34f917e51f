-- Stocks that are taken out of the trie, path by path.
use Rattle.mat_path.proofs.Elements.{filter_all}
use Rattle.mat_path.proofs.PathLemmas.{overlap_comm}
use Rattle.mat_path.proofs.SameNames.{same_names-refl, same_names-sym}
use Rattle.path_trie.proofs.Lists.{all_filter, all_join, all_so, filter_in}
use Rattle.path_trie.proofs.Values.{apart, apart_behind}
use Rattle.std.proofs.Common.{◌≡◌, ℕ, suc, ◌+◌, ◌-◌, ◌<◌, ◌≤◌, Bool, true, false, not, cond, ◌&&◌, List, [], ◌∷◌, ◌++◌, length, map, drop, reverse, find, slice_index_or as get_or, Option, Some, None, refl, ◌∙◌, sym, ap, ap₂, arith}
use Rattle.std.proofs.lemmas.Bool.{and_from, and_parts, not-true}
use Rattle.std.proofs.lemmas.List.{append-nil, append_assoc, drop_more, reverse-append, reverse-reverse, length-append, length-drop}
use Rattle.std.specs.List.{filter, list_all}
use Rattle.mat_model.specs.Rows.{comes_before}
use Rattle.path_trie.specs.Entries.{ascends, is_elsewhere as is_place_elsewhere, is_less, overlaps, path_of as path_of_place, without}
use Rattle.row_book.specs.declared.stock.Stock.{Stock}
use Rattle.row_book.specs.Stocks.{is_clear_stock, is_stock_elsewhere, overlaps_stock, path_of, stock_at}
use Rattle.row_book.specs.Whole.{Place, listed, place_of, stocks_of, taken_stocks, without_stocks}
use Rattle.row_book.proofs.ChangeLemmas.{seen_as}

-- ---- stocks in order

-- whether a stock comes before another
abbrev pub comes_later : Stock → Stock → Bool
comes_later s t = comes_before s.row.path t.row.path

-- whether stocks stand in strict order of path
abbrev pub in_line : List Stock → Bool
in_line stocks = ascends (map place_of stocks)

-- what all images of a list pass
pub all_in : {X Y : Type 0} (f : X → Y) (p : Y → Bool) (q : X → Bool) → ((x : X) → p (f x) ≡ q x) → (xs : List X) → list_all p (map f xs) ≡ list_all q xs
all_in f p q alike [] = refl
all_in f p q alike (x ∷ xs) = ap₂ (λ (a b : Bool). a && b) (alike x) (all_in f p q alike xs)

pub line_parts : (s : Stock) (ss : List Stock) → in_line (s ∷ ss) ≡ true → (list_all (comes_later s) ss ≡ true) × (in_line ss ≡ true)
line_parts s ss line =
    let parts = and_parts (list_all (is_less (place_of s)) (map place_of ss)) (in_line ss) line in
    (sym (all_in place_of (is_less (place_of s)) (comes_later s) (λ t. refl) ss) ∙ parts.0, parts.1)

-- a stock is at another path than one that comes before it
later_elsewhere : (s t : Stock) → comes_later s t ≡ true → is_stock_elsewhere s.row.path t ≡ true
later_elsewhere s t less = ap not (apart_behind t.row.path s.row.path less)

-- and the other way round
earlier_elsewhere : (s t : Stock) → comes_later s t ≡ true → is_stock_elsewhere t.row.path s ≡ true
earlier_elsewhere s t less = ap not (apart s.row.path t.row.path _ refl less)

pub rest_elsewhere : (s : Stock) (ss : List Stock) → list_all (comes_later s) ss ≡ true → list_all (is_stock_elsewhere s.row.path) ss ≡ true
rest_elsewhere s ss later = all_so (comes_later s) (is_stock_elsewhere s.row.path) (λ t less. later_elsewhere s t less) ss later

-- where all are elsewhere, none is found
pub none_there : (path : List (List ℕ)) (stocks : List Stock) → list_all (is_stock_elsewhere path) stocks ≡ true → find (stock_at path) stocks ≡ None
none_there path [] away = refl
none_there path (s ∷ ss) away =
    let parts = and_parts (is_stock_elsewhere path s) (list_all (is_stock_elsewhere path) ss) away in
    ap (λ b. cond b (Some s) (find (stock_at path) ss)) (not-true (stock_at path s) parts.0) ∙ none_there path ss parts.1

-- ---- one path

pub without_is : (path : List (List ℕ)) (places left : List Place) (stocks : List Stock) → places ≡ map place_of stocks → left ≡ without path places
    → left ≡ map place_of (filter (is_stock_elsewhere path) stocks)
without_is path places left stocks placed is =
    is ∙ ap (without path) placed
    ∙ filter_in place_of (is_place_elsewhere path) (is_stock_elsewhere path) (λ (s : Stock). ap not (same_names-sym path s.row.path)) stocks

-- the first stock is taken by its path
front_gone : (s : Stock) (ss : List Stock) → list_all (comes_later s) ss ≡ true → filter (is_stock_elsewhere s.row.path) (s ∷ ss) ≡ ss
front_gone s ss later =
    ap (λ b. cond (not b) (s ∷ filter (is_stock_elsewhere s.row.path) ss) (filter (is_stock_elsewhere s.row.path) ss)) (same_names-refl s.row.path)
    ∙ filter_all (is_stock_elsewhere s.row.path) ss (rest_elsewhere s ss later)

front_found : (s : Stock) (ss : List Stock) → find (stock_at s.row.path) (s ∷ ss) ≡ Some s
front_found s ss = ap (λ b. cond b (Some s) (find (stock_at s.row.path) ss)) (same_names-refl s.row.path)

-- ---- several paths

-- whether a path is another one than that of a stock
abbrev pub isn't_of : Stock → List (List ℕ) → Bool
isn't_of s path = is_stock_elsewhere path s

-- a stock that is at none of some paths stays
front_stays : (paths : List (List (List ℕ))) (s : Stock) (ss : List Stock) → list_all (isn't_of s) paths ≡ true → without_stocks paths (s ∷ ss) ≡ s ∷ without_stocks paths ss
front_stays [] s ss away = refl
front_stays (p ∷ ps) s ss away =
    let parts = and_parts (is_stock_elsewhere p s) (list_all (isn't_of s) ps) away in
    ap (λ b. without_stocks ps (cond b (s ∷ filter (is_stock_elsewhere p) ss) (filter (is_stock_elsewhere p) ss))) parts.0
    ∙ front_stays ps s (filter (is_stock_elsewhere p) ss) parts.1

front_left : (paths : List (List (List ℕ))) (s : Stock) (ss : List Stock) → list_all (isn't_of s) paths ≡ true → taken_stocks paths (s ∷ ss) ≡ taken_stocks paths ss
front_left [] s ss away = refl
front_left (p ∷ ps) s ss away =
    let parts = and_parts (is_stock_elsewhere p s) (list_all (isn't_of s) ps) away in
    ap₂ (λ b c. listed (cond b (Some s) (find (stock_at p) ss)) ++ taken_stocks ps (cond c (s ∷ filter (is_stock_elsewhere p) ss) (filter (is_stock_elsewhere p) ss)))
    (not-true (stock_at p s) parts.0) parts.0
    ∙ ap (λ (ts : List Stock). listed (find (stock_at p) ss) ++ ts) (front_left ps s (filter (is_stock_elsewhere p) ss) parts.1)

-- the paths of later stocks are others
paths_away : (q : Stock → Bool) (s : Stock) (ss : List Stock) → list_all (comes_later s) ss ≡ true → list_all (isn't_of s) (map path_of (filter q ss)) ≡ true
paths_away q s ss later =
    all_in path_of (isn't_of s) (λ t. is_stock_elsewhere t.row.path s) (λ t. refl) (filter q ss)
    ∙ all_so (comes_later s) (λ t. is_stock_elsewhere t.row.path s) (λ t less. earlier_elsewhere s t less) (filter q ss) (all_filter (comes_later s) q ss later)

-- the last path of some is taken last
without_last : (paths : List (List (List ℕ))) (p : List (List ℕ)) (stocks : List Stock) → without_stocks (paths ++ p ∷ []) stocks ≡ filter (is_stock_elsewhere p) (without_stocks paths stocks)
without_last [] p stocks = refl
without_last (q ∷ qs) p stocks = without_last qs p (filter (is_stock_elsewhere q) stocks)

taken_last : (paths : List (List (List ℕ))) (p : List (List ℕ)) (stocks : List Stock)
    → taken_stocks (paths ++ p ∷ []) stocks ≡ taken_stocks paths stocks ++ listed (find (stock_at p) (without_stocks paths stocks))
taken_last [] p stocks = append-nil (listed (find (stock_at p) stocks))
taken_last (q ∷ qs) p stocks =
    ap (λ (ts : List Stock). listed (find (stock_at q) stocks) ++ ts) (taken_last qs p (filter (is_stock_elsewhere q) stocks))
    ∙ sym (append_assoc (listed (find (stock_at q) stocks)) (taken_stocks qs (filter (is_stock_elsewhere q) stocks))
    (listed (find (stock_at p) (without_stocks qs (filter (is_stock_elsewhere q) stocks)))))

-- what all of a list pass, all of it pass the other way round
all_back : {X : Type 0} (p : X → Bool) (xs : List X) → list_all p xs ≡ true → list_all p (reverse xs) ≡ true
all_back p [] all = refl
all_back p (x ∷ xs) all =
    let parts = and_parts (p x) (list_all p xs) all in
    ap (list_all p) (reverse-append (x ∷ []) xs) ∙ all_join p (reverse xs) (x ∷ []) (all_back p xs parts.1) (and_from (p x) true parts.0 refl)

-- the paths of those that pass a test, the last first
abbrev pub back_paths : (Stock → Bool) → List Stock → List (List (List ℕ))
back_paths q stocks = reverse (map path_of (filter q stocks))

-- what is taken by the paths of those that pass a test is what passes it
pub chosen_left : (q r : Stock → Bool) → ((s : Stock) → r s ≡ not (q s)) → (stocks : List Stock) → in_line stocks ≡ true → without_stocks (back_paths q stocks) stocks ≡ filter r stocks
chosen_left q r opposite [] line = refl
chosen_left q r opposite (s ∷ ss) line =
    let parts = line_parts s ss line in by (q s) parts.0 (chosen_left q r opposite ss parts.1) ∙ ap (λ b. cond b (s ∷ filter r ss) (filter r ss)) (sym (opposite s))
  where
    stays : list_all (comes_later s) ss ≡ true → without_stocks (back_paths q ss) ss ≡ filter r ss → without_stocks (back_paths q ss) (s ∷ ss) ≡ s ∷ filter r ss
    stays later e =
        front_stays (back_paths q ss) s ss (all_back (isn't_of s) (map path_of (filter q ss)) (paths_away q s ss later)) ∙ ap (λ (ts : List Stock). s ∷ ts) e

    by : (b : Bool) → list_all (comes_later s) ss ≡ true → without_stocks (back_paths q ss) ss ≡ filter r ss
        → without_stocks (reverse (map path_of (cond b (s ∷ filter q ss) (filter q ss)))) (s ∷ ss) ≡ cond (not b) (s ∷ filter r ss) (filter r ss)
    by true later e =
        ap (λ (ps : List (List (List ℕ))). without_stocks ps (s ∷ ss)) (reverse-append (s.row.path ∷ []) (map path_of (filter q ss)))
        ∙ without_last (back_paths q ss) s.row.path (s ∷ ss)
        ∙ ap (filter (is_stock_elsewhere s.row.path)) (stays later e)
        ∙ front_gone s (filter r ss) (all_filter (comes_later s) r ss later)
    by false later e = stays later e

pub chosen_taken : (q r : Stock → Bool) → ((s : Stock) → r s ≡ not (q s)) → (stocks : List Stock) → in_line stocks ≡ true → taken_stocks (back_paths q stocks) stocks ≡ reverse (filter q stocks)
chosen_taken q r opposite [] line = refl
chosen_taken q r opposite (s ∷ ss) line =
    let parts = line_parts s ss line in by (q s) parts.0 (chosen_left q r opposite ss parts.1) (chosen_taken q r opposite ss parts.1)
  where
    away : list_all (comes_later s) ss ≡ true → list_all (isn't_of s) (back_paths q ss) ≡ true
    away later = all_back (isn't_of s) (map path_of (filter q ss)) (paths_away q s ss later)

    by : (b : Bool) → list_all (comes_later s) ss ≡ true → without_stocks (back_paths q ss) ss ≡ filter r ss → taken_stocks (back_paths q ss) ss ≡ reverse (filter q ss)
        → taken_stocks (reverse (map path_of (cond b (s ∷ filter q ss) (filter q ss)))) (s ∷ ss) ≡ reverse (cond b (s ∷ filter q ss) (filter q ss))
    by true later left e =
        ap (λ (ps : List (List (List ℕ))). taken_stocks ps (s ∷ ss)) (reverse-append (s.row.path ∷ []) (map path_of (filter q ss)))
        ∙ taken_last (back_paths q ss) s.row.path (s ∷ ss)
        ∙ ap₂ (λ (ts us : List Stock). ts ++ listed (find (stock_at s.row.path) us)) (front_left (back_paths q ss) s ss (away later) ∙ e)
        (front_stays (back_paths q ss) s ss (away later) ∙ ap (λ (ts : List Stock). s ∷ ts) left)
        ∙ ap (λ o. reverse (filter q ss) ++ listed o) (front_found s (filter r ss))
        ∙ sym (reverse-append (s ∷ []) (filter q ss))
    by false later left e = front_left (back_paths q ss) s ss (away later) ∙ e

-- the paths of the places that overlap a path
pub paths_are : (path : List (List ℕ)) (places : List Place) (stocks : List Stock) → places ≡ map place_of stocks
    → map path_of_place (filter (overlaps path) places) ≡ map path_of (filter (overlaps_stock path) stocks)
paths_are path places stocks placed =
    ap (λ (es : List Place). map path_of_place (filter (overlaps path) es)) placed
    ∙ ap (map path_of_place) (filter_in place_of (overlaps path) (overlaps_stock path) (λ s. overlap_comm path s.row.path) stocks)
    ∙ again (filter (overlaps_stock path) stocks)
  where
    again : (ss : List Stock) → map path_of_place (map place_of ss) ≡ map path_of ss
    again [] = refl
    again (s ∷ ss) = ap (λ (ps : List (List (List ℕ))). s.row.path ∷ ps) (again ss)

-- those that overlap a path are taken
pub overlapping_left : (path : List (List ℕ)) (paths : List (List (List ℕ))) (places left : List Place) (stocks : List Stock) → places ≡ map place_of stocks → ascends places ≡ true
    → paths ≡ reverse (map path_of_place (filter (overlaps path) places)) → left ≡ map place_of (without_stocks paths stocks) → left ≡ map place_of (filter (is_clear_stock path) stocks)
overlapping_left path paths places left stocks placed order are is =
    is ∙ ap (λ (ps : List (List (List ℕ))). map place_of (without_stocks ps stocks)) (are ∙ ap reverse (paths_are path places stocks placed))
    ∙ ap (map place_of) (chosen_left (overlaps_stock path) (is_clear_stock path) (λ s. refl) stocks (ap ascends (sym placed) ∙ order))

-- a list of those that were taken is turned round
pub turned_list : (old new turned taken : List Stock) → old ≡ [] → new ≡ old ++ reverse taken → turned ≡ reverse new → turned ≡ taken
turned_list old new turned taken none is back = back ∙ ap reverse (is ∙ ap (λ (os : List Stock). os ++ reverse taken) none) ∙ reverse-reverse taken

pub overlapping_taken : (path : List (List ℕ)) (paths : List (List (List ℕ))) (places : List Place) (stocks old new turned : List Stock) → places ≡ map place_of stocks → ascends places ≡ true
    → paths ≡ reverse (map path_of_place (filter (overlaps path) places)) → old ≡ [] → new ≡ old ++ taken_stocks paths stocks → turned ≡ reverse new → turned ≡ filter (overlaps_stock path) stocks
overlapping_taken path paths places stocks old new turned placed order are none is back =
    turned_list old new turned (filter (overlaps_stock path) stocks) none
    (is ∙ ap (λ (ts : List Stock). old ++ ts)
    (ap (λ (ps : List (List (List ℕ))). taken_stocks ps stocks) (are ∙ ap reverse (paths_are path places stocks placed))
    ∙ chosen_taken (overlaps_stock path) (is_clear_stock path) (λ s. refl) stocks (ap ascends (sym placed) ∙ order))) back

-- ---- one step of a loop over paths

-- what is left to take, behind a path
step_left : (paths rest : List (List (List ℕ))) (p : List (List ℕ)) (stocks now whole : List Stock) → paths ≡ p ∷ rest → now ≡ filter (is_stock_elsewhere p) stocks
    → without_stocks paths stocks ≡ whole → without_stocks rest now ≡ whole
step_left paths rest p stocks now whole cut is all = ap (without_stocks rest) is ∙ ap (λ (ps : List (List (List ℕ))). without_stocks ps stocks) (sym cut) ∙ all

step_taken : (paths rest : List (List (List ℕ))) (p : List (List ℕ)) (stocks now old new whole : List Stock) → paths ≡ p ∷ rest → now ≡ filter (is_stock_elsewhere p) stocks
    → new ≡ old ++ listed (find (stock_at p) stocks) → old ++ taken_stocks paths stocks ≡ whole → new ++ taken_stocks rest now ≡ whole
step_taken paths rest p stocks now old new whole cut is more all =
    ap₂ (λ (ns ts : List Stock). ns ++ taken_stocks rest ts) more is
    ∙ append_assoc old (listed (find (stock_at p) stocks)) (taken_stocks rest (filter (is_stock_elsewhere p) stocks))
    ∙ ap (λ (ps : List (List (List ℕ))). old ++ taken_stocks ps stocks) (sym cut) ∙ all

-- what a loop over paths keeps, where so many of them are done
pub record IsTaking (paths : List (List (List ℕ))) (k : ℕ) (first places : List Place) (was now : List Stock) (room : ℕ) : Type 0 where
  pub placed : places ≡ map place_of (stocks_of places)
  pub left : without_stocks (drop k paths) (stocks_of places) ≡ without_stocks paths (stocks_of first)
  pub taken : now ++ taken_stocks (drop k paths) (stocks_of places) ≡ was ++ taken_stocks paths (stocks_of first)
  pub fits : length now + length (drop k paths) ≤ room

pub taking_first : (paths : List (List (List ℕ))) (places : List Place) (was : List Stock) (room : ℕ) → places ≡ map place_of (stocks_of places) → length was + length paths ≤ room
    → IsTaking paths 0 places places was was room
taking_first paths places was room placed fits = record { placed = placed; left = refl; taken = refl; fits = fits }

-- one path more, at which a stock was taken or none
pub taking_next : (paths : List (List (List ℕ))) (k : ℕ) (d p : List (List ℕ)) (first places next : List Place) (was now more : List Stock) (room : ℕ)
    → IsTaking paths k first places was now room → k < length paths → p ≡ get_or paths k d
    → next ≡ map place_of (filter (is_stock_elsewhere p) (stocks_of places)) → more ≡ now ++ listed (find (stock_at p) (stocks_of places))
    → IsTaking paths (k + 1) first next was more room
taking_next paths k d p first places next was now more room taking within is out comes =
    let cut : drop k paths ≡ p ∷ drop (k + 1) paths = drop_more paths k d within ∙ ap (λ q. q ∷ drop (k + 1) paths) (sym is) in
    let seen : stocks_of next ≡ filter (is_stock_elsewhere p) (stocks_of places) = seen_as next _ out in
    record {
      placed = out ∙ ap (map place_of) (sym seen);
      left = step_left (drop k paths) (drop (k + 1) paths) p (stocks_of places) (stocks_of next) _ cut seen taking.left;
      taken = step_taken (drop k paths) (drop (k + 1) paths) p (stocks_of places) (stocks_of next) now more _ cut seen comes taking.taken;
      fits = room_next (length more) (length now) (length (listed (find (stock_at p) (stocks_of places)))) (length (drop k paths)) (length (drop (k + 1) paths)) room
          (ap (λ (ss : List Stock). length ss) comes ∙ length-append now (listed (find (stock_at p) (stocks_of places))))
          (at_most (find (stock_at p) (stocks_of places))) (ap (λ (ps : List (List (List ℕ))). length ps) cut) taking.fits;
    }
  where
    at_most : (o : Option Stock) → length (listed o) ≤ 1
    at_most None = omega arith
    at_most (Some s) = omega arith

    room_next : (news olds one left rest room : ℕ) → news ≡ olds + one → one ≤ 1 → left ≡ suc rest → olds + left ≤ room → news + rest ≤ room
    room_next news olds one left rest room is few cut fits = omega (arith, is, few, cut, fits)

-- there is room for one more, where a path is left
pub taking_room : (paths : List (List (List ℕ))) (k : ℕ) (first places : List Place) (was now : List Stock) (room : ℕ) → IsTaking paths k first places was now room → k < length paths
    → length now < room
taking_room paths k first places was now room taking within =
    some (length now) (length (drop k paths)) (length paths) room taking.fits (length-drop k paths) within
  where
    some : (n left all room : ℕ) → n + left ≤ room → left ≡ all - k → k < all → n < room
    some n left all room fits is within = omega (arith, fits, is, within)
