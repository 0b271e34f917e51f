-- What is found in the trie is what is found in the list of stocks.
use Rattle.mat_path.proofs.Bools.{false_by, or_second}
use Rattle.mat_path.proofs.Overlaps.{overlap_of_prefixes}
use Rattle.mat_path.proofs.PathLemmas.{overlap_comm, prefix-trans}
use Rattle.mat_path.proofs.SameNames.{same_names-sym}
use Rattle.std.proofs.Common.{◌≡◌, ℕ, Bool, true, false, not, cond, ◌&&◌, ◌||◌, nat_le, List, [], ◌∷◌, map, length, drop, find, Option, Some, None, Bor, refl, ◌∙◌, sym, ap, arith}
use Rattle.std.proofs.lemmas.Bool.{and_parts, le-leb, not-true}
use Rattle.std.specs.List.{list_all, list_any, slice_get}
use Rattle.std.specs.Option.{is_some, option_copied, option_flatten, option_map, option_map_or}
use Rattle.mat_path.specs.Names.{is_prefix, overlap, rest_below}
use Rattle.mat_tree.specs.declared.flat.Flat.{Flat}
use Rattle.mat_tree.specs.declared.sum.Kind.{Kind}
use Rattle.mat_tree.specs.Trees.{has_node, is_at as is_at_rel, kind_of, what_at, what_of}
use Rattle.mat_model.specs.declared.book.Row.{Row}
use Rattle.mat_model.specs.Rows.{are_apart, comes_before, covers, is_apart, overlaps_row}
use Rattle.path_trie.specs.Entries.{both, counted, cover_of, is_above, is_at, is_behind, is_high, is_next_under, is_under, overlaps, value_at, value_of}
use Rattle.path_trie.specs.Roots.{kept_if}
use Rattle.row_book.specs.declared.stock.Stock.{Stock}
use Rattle.row_book.specs.Stocks.{covers_stock, is_next_overlap, is_past, overlaps_stock, row_of, rows_of, stock_at}
use Rattle.row_book.specs.Whole.{Place, first_later, is_later_under, is_under_stock, leads_to, place_of, stock_found}

-- ---- elements of a mapped list

-- what is found among the images of a list
pub find_in : {X Y : Type 0} (f : X → Y) (p : Y → Bool) (q : X → Bool) → ((x : X) → p (f x) ≡ q x) → (xs : List X) → find p (map f xs) ≡ option_map f (find q xs)
find_in f p q alike [] = refl
find_in f p q alike (x ∷ xs) = ap (λ b. cond b (Some (f x)) (find p (map f xs))) (alike x) ∙ by (q x) (find_in f p q alike xs)
  where
    by : (b : Bool) → find p (map f xs) ≡ option_map f (find q xs) → cond b (Some (f x)) (find p (map f xs)) ≡ option_map f (cond b (Some x) (find q xs))
    by true e = refl
    by false e = e

-- what is found in a list that is seen as another
pub as_seen : {X : Type 0} (p : X → Bool) (xs now : List X) (o : Option X) → xs ≡ now → o ≡ find p xs → o ≡ find p now
as_seen p xs now o same is = is ∙ ap (find p) same

-- ---- places of the trie

-- the stock of a place that was found by a test of paths
flat_place : (o : Option Stock) → option_flatten (option_map value_of (option_map place_of o)) ≡ o
flat_place None = refl
flat_place (Some stock) = refl

pub found_at : (p : Place → Bool) (q : Stock → Bool) → ((s : Stock) → p (place_of s) ≡ q s) → (places : List Place) (stocks : List Stock) → places ≡ map place_of stocks
    → option_flatten (option_map value_of (find p places)) ≡ find q stocks
found_at p q alike places stocks placed =
    ap (λ (es : List Place). option_flatten (option_map value_of (find p es))) placed
    ∙ ap (λ (o : Option Place). option_flatten (option_map value_of o)) (find_in place_of p q alike stocks)
    ∙ flat_place (find q stocks)

-- the same of a place that was told with its path, and with the number of its names
told_both : (o : Option Place) → stock_found (option_map both o) ≡ option_flatten (option_map value_of o)
told_both None = refl
told_both (Some place) = refl

told_counted : (o : Option Place) → stock_found (option_map counted o) ≡ option_flatten (option_map value_of o)
told_counted None = refl
told_counted (Some place) = refl

pub told_at : (p : Place → Bool) (q : Stock → Bool) → ((s : Stock) → p (place_of s) ≡ q s) → (places : List Place) (stocks : List Stock) → places ≡ map place_of stocks
    → stock_found (option_map both (find p places)) ≡ find q stocks
told_at p q alike places stocks placed = told_both (find p places) ∙ found_at p q alike places stocks placed

-- the stock at a path
pub get_is : (path : List (List ℕ)) (places : List Place) (stocks : List Stock) → places ≡ map place_of stocks → option_flatten (value_at path places) ≡ find (stock_at path) stocks
get_is path places stocks placed = found_at (is_at path) (stock_at path) (λ (s : Stock). same_names-sym path s.row.path) places stocks placed

pub copied_some : (o : Option (Bor Stock)) → is_some (option_copied o) ≡ is_some o
copied_some None = refl
copied_some (Some stock) = refl

-- what is told of a stock's row that was found
pub row_found : (p : Row → Bool) (stocks : List Stock) (o : Option Stock) → o ≡ find (λ (s : Stock). p s.row) stocks → option_map row_of o ≡ find p (rows_of stocks)
row_found p stocks o is = ap (option_map row_of) is ∙ sym (find_in row_of p (λ (s : Stock). p s.row) (λ (s : Stock). refl) stocks)

-- ---- what covers a path

has_is : (tree : List Flat) (rel : List (List ℕ)) → is_some (option_map kind_of (what_at tree rel)) ≡ has_node tree rel
has_is [] rel = refl
has_is (node ∷ nodes) rel = by (is_at_rel rel node) (has_is nodes rel)
  where
    by : (b : Bool) → is_some (option_map kind_of (what_at nodes rel)) ≡ has_node nodes rel
        → is_some (option_map kind_of (option_map what_of (cond b (Some node) (find (is_at_rel rel) nodes)))) ≡ (b || has_node nodes rel)
    by true e = refl
    by false e = e

pub some_is : {X : Type 0} (a b : X) → Some a ≡ Some b → a ≡ b
some_is a b e = ap (λ o. option_map_or (λ x. x) o a) e

pub none_is : {X : Type 0} (a : X) → Some a ≡ None → ⊥
none_is a e = cc

-- a row covers a path where its tree has something at the rest
pub covers_is : (row : Row) (path rest : List (List ℕ)) (o : Option (Option Kind)) → Some rest ≡ rest_below row.path path → o ≡ option_map kind_of (what_at row.tree rest)
    → is_some o ≡ covers path row
covers_is row path rest o below has = ap is_some has ∙ has_is row.tree rest ∙ by (is_prefix row.path path) refl
  where
    by : (b : Bool) → is_prefix row.path path ≡ b → has_node row.tree rest ≡ covers path row
    by true is =
        ap (has_node row.tree) (some_is rest (drop (length row.path) path) (below ∙ ap (λ b. cond b (Some (drop (length row.path) path)) None) is))
        ∙ sym (ap (λ b. b && has_node row.tree (drop (length row.path) path)) is)
    by false is = absurd (none_is rest (below ∙ ap (λ b. cond b (Some (drop (length row.path) path)) None) is))

-- a test that only what overlaps a stock passes finds nothing among those that are apart from it
pub none_found : (q : Stock → Bool) (s : Stock) → ((t : Stock) → q t ≡ true → overlap s.row.path t.row.path ≡ true) → (ss : List Stock)
    → list_all (is_apart s.row) (rows_of ss) ≡ true → find q ss ≡ None
none_found q s meets [] apart = refl
none_found q s meets (t ∷ ss) apart =
    let parts = and_parts (is_apart s.row t.row) (list_all (is_apart s.row) (rows_of ss)) apart in
    let clear = not-true (overlap s.row.path t.row.path) (and_parts (comes_before s.row.path t.row.path) (not (overlap s.row.path t.row.path)) parts.0).1 in
    ap (λ b. cond b (Some t) (find q ss)) (false_by (q t) (overlap s.row.path t.row.path) (meets t) clear) ∙ none_found q s meets ss parts.1

-- of stocks that are apart only the first at a prefix of a path may cover it
pub cover_kept : (path : List (List ℕ)) (stocks : List Stock) → are_apart (rows_of stocks) ≡ true
    → kept_if (covers_stock path) (find (leads_to path) stocks) ≡ find (covers_stock path) stocks
cover_kept path [] apart = refl
cover_kept path (s ∷ ss) apart =
    let parts = and_parts (list_all (is_apart s.row) (rows_of ss)) (are_apart (rows_of ss)) apart in
    by (leads_to path s) refl parts.0 (cover_kept path ss parts.1)
  where
    leads : (t : Stock) → covers_stock path t ≡ true → leads_to path t ≡ true
    leads t over = (and_parts (leads_to path t) _ over).0

    by : (b : Bool) → leads_to path s ≡ b → list_all (is_apart s.row) (rows_of ss) ≡ true → kept_if (covers_stock path) (find (leads_to path) ss) ≡ find (covers_stock path) ss
        → kept_if (covers_stock path) (cond b (Some s) (find (leads_to path) ss)) ≡ cond (covers_stock path s) (Some s) (find (covers_stock path) ss)
    by true is later e =
        ap (λ (o : Option Stock). cond (covers_stock path s) (Some s) o)
        (sym (none_found (covers_stock path) s (λ t over. overlap_of_prefixes s.row.path t.row.path path is (leads t over)) ss later))
    by false is later e = e ∙ ap (λ b. cond b (Some s) (find (covers_stock path) ss)) (sym (false_by (covers_stock path s) (leads_to path s) (leads s) is))

-- the stock that covers a path
pub cover_is : (path : List (List ℕ)) (places : List Place) (stocks : List Stock) (o : Option Stock) → places ≡ map place_of stocks → are_apart (rows_of stocks) ≡ true
    → o ≡ stock_found (cover_of path places) → kept_if (covers_stock path) o ≡ find (covers_stock path) stocks
cover_is path places stocks o placed apart is =
    ap (kept_if (covers_stock path)) (is ∙ told_counted (find (is_above path) places) ∙ found_at (is_above path) (leads_to path) (λ s. refl) places stocks placed)
    ∙ cover_kept path stocks apart

-- ---- what overlaps a path

-- whether a stock is at or below a path, and comes behind another one, if one is given
abbrev pub is_next_under_stock : List (List ℕ) → Option (List (List ℕ)) → Stock → Bool
is_next_under_stock path last stock = is_under_stock path stock && is_past last stock

and_true : (b : Bool) → (b && true) ≡ b
and_true true = refl
and_true false = refl

-- an overlap that doesn't lead to a path is at or below it
not_leading : (path : List (List ℕ)) (last : Option (List (List ℕ))) (s : Stock) → leads_to path s ≡ false → is_next_under_stock path last s ≡ is_next_overlap path last s
not_leading path last s off = sym (ap (λ b. (b || is_under_stock path s) && is_past last s) off)

-- what is above a path overlaps each that overlaps the path
above_meets : (path : List (List ℕ)) (s t : Stock) → leads_to path s ≡ true → overlaps_stock path t ≡ true → overlap s.row.path t.row.path ≡ true
above_meets path s t leads meets = by (is_prefix t.row.path path) refl meets
  where
    by : (b : Bool) → is_prefix t.row.path path ≡ b → (b || is_prefix path t.row.path) ≡ true → overlap s.row.path t.row.path ≡ true
    by true is any = overlap_of_prefixes s.row.path t.row.path path leads is
    by false is below = ap (λ b. b || is_prefix t.row.path s.row.path) (prefix-trans s.row.path path t.row.path leads below)

-- what is above a path overlaps each that is below it
below_meets : (path : List (List ℕ)) (t u : Stock) → overlaps_stock path t ≡ true → leads_to path t ≡ false → leads_to path u ≡ true → overlap t.row.path u.row.path ≡ true
below_meets path t u meets off leads =
    let below = or_second (is_prefix t.row.path path) (is_prefix path t.row.path) off meets in
    overlap_comm t.row.path u.row.path ∙ ap (λ b. b || is_prefix t.row.path u.row.path) (prefix-trans u.row.path path t.row.path leads below)

-- what isn't true is false
not-so : (b : Bool) → (b ≡ true → ⊥) → b ≡ false
not-so true never = absurd (never refl)
not-so false never = refl

-- where a stock is at a prefix of a path, no other one overlaps the path
pub above_next : (path : List (List ℕ)) (last : Option (List (List ℕ))) (stocks : List Stock) (s : Stock) → are_apart (rows_of stocks) ≡ true
    → Some s ≡ find (leads_to path) stocks → kept_if (is_past last) (Some s) ≡ find (is_next_overlap path last) stocks
above_next path last [] s apart found = absurd (none_is s found)
above_next path last (t ∷ ts) s apart found =
    let parts = and_parts (list_all (is_apart t.row) (rows_of ts)) (are_apart (rows_of ts)) apart in
    by (leads_to path t) refl found parts.0 (λ there. above_next path last ts s parts.1 there)
  where
    meets : (u : Stock) → is_next_overlap path last u ≡ true → overlaps_stock path u ≡ true
    meets u next = (and_parts (overlaps_stock path u) (is_past last u) next).0

    by : (b : Bool) → leads_to path t ≡ b → Some s ≡ cond b (Some t) (find (leads_to path) ts) → list_all (is_apart t.row) (rows_of ts) ≡ true
        → (Some s ≡ find (leads_to path) ts → kept_if (is_past last) (Some s) ≡ find (is_next_overlap path last) ts)
        → kept_if (is_past last) (Some s) ≡ cond (is_next_overlap path last t) (Some t) (find (is_next_overlap path last) ts)
    by true is here later more =
        ap (λ (u : Stock). cond (is_past last u) (Some u) None) (some_is s t here)
        ∙ ap (λ b. cond (b && is_past last t) (Some t) None) (sym (ap (λ b. b || is_prefix path t.row.path) is))
        ∙ ap (λ (o : Option Stock). cond (is_next_overlap path last t) (Some t) o)
        (sym (none_found (is_next_overlap path last) t (λ u next. above_meets path t u is (meets u next)) ts later))
    by false is there later more =
        more there
        ∙ ap (λ b. cond b (Some t) (find (is_next_overlap path last) ts)) (sym (not-so (is_next_overlap path last t) (λ on.
        none_is s (there ∙ none_found (leads_to path) t (λ u leads. below_meets path t u (meets t on) is leads) ts later))))

-- where none is at a prefix of a path, what overlaps it is below it
pub below_next : (path : List (List ℕ)) (last : Option (List (List ℕ))) (stocks : List Stock) → None ≡ find (leads_to path) stocks
    → find (is_next_under_stock path last) stocks ≡ find (is_next_overlap path last) stocks
below_next path last [] none = refl
below_next path last (s ∷ ss) none = by (leads_to path s) refl none (λ there. below_next path last ss there)
  where
    by : (b : Bool) → leads_to path s ≡ b → None ≡ cond b (Some s) (find (leads_to path) ss)
        → (None ≡ find (leads_to path) ss → find (is_next_under_stock path last) ss ≡ find (is_next_overlap path last) ss)
        → find (is_next_under_stock path last) (s ∷ ss) ≡ find (is_next_overlap path last) (s ∷ ss)
    by true is there more = absurd (none_is s (sym there))
    by false is there more =
        ap (λ b. cond b (Some s) (find (is_next_under_stock path last) ss)) (not_leading path last s is)
        ∙ ap (λ (o : Option Stock). cond (is_next_overlap path last s) (Some s) o) (more there)

high_zero : (b : Bool) (n : ℕ) → (b && nat_le 0 n) ≡ b
high_zero b n = let all : nat_le 0 n ≡ true = le-leb 0 n (omega arith) in ap (λ t. b && t) all ∙ and_true b

-- the stock at the shortest prefix of a path
pub leading_is : (path : List (List ℕ)) (places : List Place) (stocks : List Stock) → places ≡ map place_of stocks
    → stock_found (option_map both (find (is_high path 0) places)) ≡ find (leads_to path) stocks
leading_is path places stocks placed = told_at (is_high path 0) (leads_to path) (λ s. high_zero (leads_to path s) (length s.row.path)) places stocks placed

pub under_is : (path : List (List ℕ)) (last : Option (List (List ℕ))) (places : List Place) (stocks : List Stock) → places ≡ map place_of stocks
    → stock_found (option_map both (find (is_later_under path last) places)) ≡ find (is_next_under_stock path last) stocks
under_is path None places stocks placed =
    told_at (is_under path) (is_next_under_stock path None) (λ s. sym (and_true (is_under_stock path s))) places stocks placed
under_is path (Some last) places stocks placed = told_at (is_next_under path last) (is_next_under_stock path (Some last)) (λ s. refl) places stocks placed

-- whether a row overlaps a path
pub overlaps_is : (path : List (List ℕ)) (places : List Place) (stocks : List Stock) → places ≡ map place_of stocks → list_any (overlaps path) places ≡ list_any (overlaps_row path) (rows_of stocks)
overlaps_is path places stocks placed = ap (list_any (overlaps path)) placed ∙ each stocks
  where
    each : (ss : List Stock) → list_any (overlaps path) (map place_of ss) ≡ list_any (overlaps_row path) (rows_of ss)
    each [] = refl
    each (s ∷ ss) = ap (λ b. b || list_any (overlaps path) (map place_of ss)) (overlap_comm path s.row.path) ∙ ap (λ b. overlaps_row path s.row || b) (each ss)

-- ---- a walk over all

pub first_is : (last : Option (List (List ℕ))) (places : List Place) (stocks : List Stock) → places ≡ map place_of stocks
    → stock_found (option_map both (first_later last places)) ≡ find (is_past last) stocks
first_is None places stocks placed = ap (λ (es : List Place). stock_found (option_map both (slice_get es 0))) placed ∙ front stocks
  where
    front : (ss : List Stock) → stock_found (option_map both (slice_get (map place_of ss) 0)) ≡ find (is_past None) ss
    front [] = refl
    front (s ∷ ss) = refl
first_is (Some last) places stocks placed = told_at (is_behind last) (is_past (Some last)) (λ s. refl) places stocks placed

-- whether a stock comes behind a path
pub past_is : (found : Stock) (last : List (List ℕ)) (o : Option (List (List ℕ))) (b : Bool) → o ≡ Some last → comes_before last found.row.path ≡ b
    → kept_if (is_past o) (Some found) ≡ cond b (Some found) None
past_is found last o b is past = ap (λ (p : Option (List (List ℕ))). kept_if (is_past p) (Some found)) is ∙ ap (λ c. cond c (Some found) None) past
