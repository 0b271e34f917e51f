-- A stock that is changed at its place in the trie is changed in the list.
use Rattle.mat_path.proofs.Elements.{filter_all}
use Rattle.mat_path.proofs.Overlaps.{overlap-refl}
use Rattle.mat_path.proofs.PathLemmas.{path_cmp_equal, path_cmp_total}
use Rattle.mat_path.proofs.SameNames.{same_names-eq, same_names-refl, same_names-sym}
use Rattle.model_laws.proofs.Apart.{before-trans}
use Rattle.path_trie.proofs.Lists.{all_so}
use Rattle.path_trie.proofs.Values.{apart, apart_behind}
use Rattle.std.proofs.Common.{◌≡◌, ℕ, ◌+◌, ◌-◌, ◌<◌, ◌≤◌, ◌^◌, Bool, true, false, not, cond, ◌&&◌, List, [], ◌∷◌, ◌++◌, map, find, Option, Some, None, Result, Ok, Err, Ordering, Less, Equal, Greater, refl, ◌∙◌, sym, ap, ap₂, subst, arith}
use Rattle.std.proofs.lemmas.Bool.{and_parts}
use Rattle.std.proofs.lemmas.List.Sums.{sum_by-cons}
use Rattle.std.specs.List.{filter, list_all}
use Rattle.std.specs.Option.{option_flatten, option_map}
use Rattle.std.specs.Ordering.{is_lt, ordering_reverse}
use Rattle.std.specs.Result.{is_ok, result_ok}
use Rattle.mat_path.specs.Names.{overlap, path_cmp, same_names}
use Rattle.mat_model.specs.Rows.{are_apart, is_apart}
use Rattle.path_trie.specs.Entries.{ascends, is_at, is_before, is_behind, is_less, put, value_at, value_of}
use Rattle.row_book.specs.declared.stock.Stock.{Stock}
use Rattle.row_book.specs.Stocks.{changed_at, held_bytes, held_of, rows_of, stock_at}
use Rattle.row_book.specs.Whole.{IsWhole, Place, place_of, set_place, stocks_of}
use Rattle.row_book.proofs.FindLemmas.{get_is, none_found, none_is, some_is}

-- ---- lists of which all pass a test

pub filter_none : {X : Type 0} (p q : X → Bool) → ((x : X) → q x ≡ true → p x ≡ false) → (xs : List X) → list_all q xs ≡ true → filter p xs ≡ []
filter_none p q fails [] all = refl
filter_none p q fails (x ∷ xs) all =
    let parts = and_parts (q x) (list_all q xs) all in
    ap (λ b. cond b (x ∷ filter p xs) (filter p xs)) (fails x parts.0) ∙ filter_none p q fails xs parts.1

find_none : {X : Type 0} (p q : X → Bool) → ((x : X) → q x ≡ true → p x ≡ false) → (xs : List X) → list_all q xs ≡ true → find p xs ≡ None
find_none p q fails [] all = refl
find_none p q fails (x ∷ xs) all =
    let parts = and_parts (q x) (list_all q xs) all in
    ap (λ b. cond b (Some x) (find p xs)) (fails x parts.0) ∙ find_none p q fails xs parts.1

not_less : (o : Ordering) → is_lt o ≡ true → is_lt (ordering_reverse o) ≡ false
not_less Less less = refl
not_less Equal less = absurd cc
not_less Greater less = absurd cc

-- what comes behind a path doesn't come before it
pub not_before : (path q : List (List ℕ)) → is_lt (path_cmp path q) ≡ true → is_lt (path_cmp q path) ≡ false
not_before path q less = ap is_lt (path_cmp_total.antisymm q path) ∙ not_less (path_cmp path q) less

-- ---- a place with another value

-- where none is at a path, no place is changed
set_absent : (path : List (List ℕ)) (value : Option Stock) (places : List Place) → None ≡ find (is_at path) places → map (set_place path value) places ≡ places
set_absent path value [] none = refl
set_absent path value (x ∷ xs) none = by (is_at path x) none (λ more. set_absent path value xs more)
  where
    by : (b : Bool) → None ≡ cond b (Some x) (find (is_at path) xs) → (None ≡ find (is_at path) xs → map (set_place path value) xs ≡ xs)
        → cond b (record x { value = value }) x ∷ map (set_place path value) xs ≡ x ∷ xs
    by true there more = absurd (none_is x (sym there))
    by false off more = ap (λ (ys : List Place). x ∷ ys) (more off)

-- what is put where something stands takes its place
put_is : (path : List (List ℕ)) (value : Option Stock) (places : List Place) (found : Place) → ascends places ≡ true → Some found ≡ find (is_at path) places
    → put path value places ≡ map (set_place path value) places
put_is path value [] found order there = absurd (none_is found there)
put_is path value (x ∷ xs) found order there =
    let parts = and_parts (list_all (is_less x) xs) (ascends xs) order in
    by (path_cmp x.path path) refl parts.0 there (λ more. put_is path value xs found parts.1 more)
  where
    new : Place
    new = record { path = path; value = value }

    both : (a b : Bool) → is_before path x ≡ a → is_behind path x ≡ b
        → put path value (x ∷ xs) ≡ cond a (x ∷ filter (is_before path) xs) (filter (is_before path) xs) ++ new ∷ cond b (x ∷ filter (is_behind path) xs) (filter (is_behind path) xs)
    both a b before behind =
        ap₂ (λ (s t : Bool). cond s (x ∷ filter (is_before path) xs) (filter (is_before path) xs) ++ new ∷ cond t (x ∷ filter (is_behind path) xs) (filter (is_behind path) xs)) before behind

    at : (c : Bool) → is_at path x ≡ c → map (set_place path value) (x ∷ xs) ≡ cond c (record x { value = value }) x ∷ map (set_place path value) xs
    at c is = ap (λ b. cond b (record x { value = value }) x ∷ map (set_place path value) xs) is

    turned : (o : Ordering) → path_cmp x.path path ≡ o → is_behind path x ≡ is_lt (ordering_reverse o)
    turned o is = ap is_lt (path_cmp_total.antisymm path x.path) ∙ ap (λ p. is_lt (ordering_reverse p)) is

    by : (o : Ordering) → path_cmp x.path path ≡ o → list_all (is_less x) xs ≡ true → Some found ≡ find (is_at path) (x ∷ xs)
        → (Some found ≡ find (is_at path) xs → put path value xs ≡ map (set_place path value) xs) → put path value (x ∷ xs) ≡ map (set_place path value) (x ∷ xs)
    by Less is later here more =
        let off : is_at path x ≡ false = apart_behind path x.path (ap is_lt is) in
        both true false (ap is_lt is) (turned Less is)
        ∙ ap (λ (ys : List Place). x ∷ ys) (more (here ∙ ap (λ b. cond b (Some x) (find (is_at path) xs)) off))
        ∙ sym (at false off)
    by Equal is later here more =
        let same : x.path ≡ path = path_cmp_equal x.path path is in
        let on : is_at path x ≡ true = ap (same_names path) same ∙ same_names-refl path in
        let all : list_all (is_behind path) xs ≡ true = subst (λ p. list_all (is_behind path) xs ≡ true) same (subst (λ p. list_all (is_behind p) xs ≡ true) same later) in
        both false false (ap is_lt is) (turned Equal is)
        ∙ ap₂ (λ (ys zs : List Place). ys ++ new ∷ zs)
        (filter_none (is_before path) (is_behind path) (λ (y : Place) behind. not_before path y.path behind) xs all) (filter_all (is_behind path) xs all)
        ∙ ap₂ (λ (p : List (List ℕ)) (ys : List Place). record { path = p; value = value } ∷ ys) (sym same)
        (sym (set_absent path value xs (sym (find_none (is_at path) (is_behind path) (λ (y : Place) behind. apart path y.path _ refl behind) xs all))))
        ∙ sym (at true on)
    by Greater is later here more =
        let behind : is_behind path x ≡ true = turned Greater is in
        let off : is_at path x ≡ false = apart path x.path _ refl behind in
        let all : list_all (is_behind path) xs ≡ true =
        all_so (is_less x) (is_behind path) (λ (y : Place) less. before-trans path x.path y.path behind less) xs later in
        absurd (none_is found
        (here ∙ ap (λ b. cond b (Some x) (find (is_at path) xs)) off ∙ find_none (is_at path) (is_behind path) (λ (y : Place) past. apart path y.path _ refl past) xs all))

pub swapped : (path : List (List ℕ)) (value : Option Stock) (old new : List Place) (r : Result (Option Stock) (Option Stock)) → ascends old ≡ true → result_ok r ≡ value_at path old
    → new ≡ cond (is_ok r) (put path value old) old → new ≡ map (set_place path value) old
swapped path value old new (Ok was) order is made = made ∙ by (find (is_at path) old) refl is
  where
    by : (o : Option Place) → find (is_at path) old ≡ o → Some was ≡ option_map value_of o → put path value old ≡ map (set_place path value) old
    by None found there = absurd (none_is was there)
    by (Some place) found there = put_is path value old place order (sym found)
swapped path value old new (Err back) order is made = made ∙ by (find (is_at path) old) refl is
  where
    by : (o : Option Place) → find (is_at path) old ≡ o → None ≡ option_map value_of o → old ≡ map (set_place path value) old
    by None found there = sym (set_absent path value old (sym found))
    by (Some place) found there = absurd (none_is place.value (sym there))

-- the later of two values counts
set_twice : (path : List (List ℕ)) (first second : Option Stock) (places : List Place)
    → map (set_place path second) (map (set_place path first) places) ≡ map (set_place path second) places
set_twice path first second [] = refl
set_twice path first second (x ∷ xs) = ap₂ (λ (y : Place) (ys : List Place). y ∷ ys) (by (is_at path x) refl) (set_twice path first second xs)
  where
    by : (b : Bool) → is_at path x ≡ b → set_place path second (cond b (record x { value = first }) x) ≡ set_place path second x
    by true is = ap (λ b. cond b (record x { value = second }) (record x { value = first })) is ∙ sym (ap (λ b. cond b (record x { value = second }) x) is)
    by false is = refl

-- ---- stocks in the trie

pub stocks_again : (stocks : List Stock) → stocks_of (map place_of stocks) ≡ stocks
stocks_again [] = refl
stocks_again (s ∷ ss) = ap (λ (ts : List Stock). s ∷ ts) (stocks_again ss)

-- where no stock is at a path, none is changed
pub set_none : (path : List (List ℕ)) (value : Option Stock) (change : Stock → Stock) (stocks : List Stock) → None ≡ find (stock_at path) stocks
    → map (set_place path value) (map place_of stocks) ≡ map place_of (map (changed_at path change) stocks)
set_none path value change [] none = refl
set_none path value change (s ∷ ss) none = by (stock_at path s) refl none (λ more. set_none path value change ss more)
  where
    by : (b : Bool) → stock_at path s ≡ b → None ≡ cond b (Some s) (find (stock_at path) ss)
        → (None ≡ find (stock_at path) ss → map (set_place path value) (map place_of ss) ≡ map place_of (map (changed_at path change) ss))
        → set_place path value (place_of s) ∷ map (set_place path value) (map place_of ss) ≡ place_of (changed_at path change s) ∷ map place_of (map (changed_at path change) ss)
    by true is there more = absurd (none_is s (sym there))
    by false is off more =
        ap (λ b. cond b (record (place_of s) { value = value }) (place_of s) ∷ map (set_place path value) (map place_of ss)) (same_names-sym path s.row.path ∙ is)
        ∙ ap₂ (λ b (ys : List Place). place_of (cond b (change s) s) ∷ ys) (sym is) (more off)

-- what is apart from a stock isn't at its path
pub rest_away : (path : List (List ℕ)) (s : Stock) (ss : List Stock) → stock_at path s ≡ true → list_all (is_apart s.row) (rows_of ss) ≡ true → find (stock_at path) ss ≡ None
rest_away path s ss at later = none_found (stock_at path) s meets ss later
  where
    meets : (t : Stock) → stock_at path t ≡ true → overlap s.row.path t.row.path ≡ true
    meets t there =
        subst (λ p. overlap s.row.path p ≡ true) (same_names-eq s.row.path path at ∙ sym (same_names-eq t.row.path path there)) (overlap-refl s.row.path)

-- the one stock at a path is changed
pub set_one : (path : List (List ℕ)) (change : Stock → Stock) (stocks : List Stock) (found : Stock) → ((s : Stock) → (change s).row.path ≡ s.row.path)
    → are_apart (rows_of stocks) ≡ true → Some found ≡ find (stock_at path) stocks
    → map (set_place path (Some (change found))) (map place_of stocks) ≡ map place_of (map (changed_at path change) stocks)
set_one path change [] found keeps apart there = absurd (none_is found there)
set_one path change (s ∷ ss) found keeps apart there =
    let parts = and_parts (list_all (is_apart s.row) (rows_of ss)) (are_apart (rows_of ss)) apart in
    by (stock_at path s) refl parts.0 there (λ more. set_one path change ss found keeps parts.1 more)
  where
    value : Option Stock
    value = Some (change found)

    by : (b : Bool) → stock_at path s ≡ b → list_all (is_apart s.row) (rows_of ss) ≡ true → Some found ≡ cond b (Some s) (find (stock_at path) ss)
        → (Some found ≡ find (stock_at path) ss → map (set_place path value) (map place_of ss) ≡ map place_of (map (changed_at path change) ss))
        → set_place path value (place_of s) ∷ map (set_place path value) (map place_of ss) ≡ place_of (changed_at path change s) ∷ map place_of (map (changed_at path change) ss)
    by true is later here more =
        ap (λ b. cond b (record (place_of s) { value = value }) (place_of s) ∷ map (set_place path value) (map place_of ss)) (same_names-sym path s.row.path ∙ is)
        ∙ ap (λ (t : Stock). record (place_of s) { value = Some (change t) } ∷ map (set_place path value) (map place_of ss)) (some_is found s here)
        ∙ ap (λ p. record { path = p; value = Some (change s) } ∷ map (set_place path value) (map place_of ss)) (sym (keeps s))
        ∙ ap₂ (λ b (ys : List Place). place_of (cond b (change s) s) ∷ ys) (sym is) (set_none path value change ss (sym (rest_away path s ss is later)))
    by false is later off more =
        ap (λ b. cond b (record (place_of s) { value = value }) (place_of s) ∷ map (set_place path value) (map place_of ss)) (same_names-sym path s.row.path ∙ is)
        ∙ ap₂ (λ b (ys : List Place). place_of (cond b (change s) s) ∷ ys) (sym is) (more off)

-- a stock that is lifted, changed and laid back
pub laid : (path : List (List ℕ)) (change : Stock → Stock) (old lifted new : List Place) (stocks : List Stock) (found : Stock) → ((s : Stock) → (change s).row.path ≡ s.row.path)
    → old ≡ map place_of stocks → are_apart (rows_of stocks) ≡ true → Some found ≡ option_flatten (value_at path old)
    → lifted ≡ map (set_place path None) old → new ≡ map (set_place path (Some (change found))) lifted → new ≡ map place_of (map (changed_at path change) stocks)
laid path change old lifted new stocks found keeps placed apart is out back =
    back ∙ ap (map (set_place path (Some (change found)))) out ∙ set_twice path None (Some (change found)) old
    ∙ ap (map (set_place path (Some (change found)))) placed
    ∙ set_one path change stocks found keeps apart (is ∙ get_is path old stocks placed)

-- where nothing is lifted
pub not_lifted : (path : List (List ℕ)) (change : Stock → Stock) (old new : List Place) (stocks : List Stock) → old ≡ map place_of stocks
    → None ≡ option_flatten (value_at path old) → new ≡ map (set_place path None) old → new ≡ map place_of (map (changed_at path change) stocks)
not_lifted path change old new stocks placed is out =
    out ∙ ap (map (set_place path None)) placed ∙ set_none path None change stocks (is ∙ get_is path old stocks placed)

-- ---- the whole book

-- rows stay apart where each keeps its path
apart_changed : (f : Stock → Stock) → ((s : Stock) → (f s).row.path ≡ s.row.path) → (stocks : List Stock) → are_apart (rows_of (map f stocks)) ≡ are_apart (rows_of stocks)
apart_changed f keeps [] = refl
apart_changed f keeps (s ∷ ss) = ap₂ (λ (a b : Bool). a && b) (each ss) (apart_changed f keeps ss)
  where
    each : (ts : List Stock) → list_all (is_apart (f s).row) (rows_of (map f ts)) ≡ list_all (is_apart s.row) (rows_of ts)
    each [] = refl
    each (t ∷ ts) =
        ap₂ (λ (a b : Bool). a && b) (ap₂ (λ p q. is_lt (path_cmp p q) && not (overlap p q)) (keeps s) (keeps t)) (each ts)

changed_path : (path : List (List ℕ)) (change : Stock → Stock) → ((s : Stock) → (change s).row.path ≡ s.row.path) → (s : Stock) → (changed_at path change s).row.path ≡ s.row.path
changed_path path change keeps s = by (stock_at path s)
  where
    by : (b : Bool) → (cond b (change s) s).row.path ≡ s.row.path
    by true = keeps s
    by false = refl

-- where no stock is at a path, none is changed
change_none : (path : List (List ℕ)) (change : Stock → Stock) (stocks : List Stock) → None ≡ find (stock_at path) stocks → map (changed_at path change) stocks ≡ stocks
change_none path change [] none = refl
change_none path change (s ∷ ss) none = by (stock_at path s) none (λ more. change_none path change ss more)
  where
    by : (b : Bool) → None ≡ cond b (Some s) (find (stock_at path) ss) → (None ≡ find (stock_at path) ss → map (changed_at path change) ss ≡ ss)
        → cond b (change s) s ∷ map (changed_at path change) ss ≡ s ∷ ss
    by true there more = absurd (none_is s (sym there))
    by false off more = ap (λ (ts : List Stock). s ∷ ts) (more off)

-- sums with one part changed, first or later
sum_first : (all new rest part change : ℕ) → all ≡ part + rest → new ≡ change + rest → new + part ≡ all + change
sum_first all new rest part change old is = omega (arith, old, is)

sum_later : (all new rest news head part change : ℕ) → all ≡ head + rest → new ≡ head + news → news + part ≡ rest + change → new + part ≡ all + change
sum_later all new rest news head part change old is more = omega (arith, old, is, more)

-- how many bytes are held, where the one stock at a path is changed
pub held_changed : (path : List (List ℕ)) (change : Stock → Stock) (stocks : List Stock) (found : Stock) → are_apart (rows_of stocks) ≡ true
    → Some found ≡ find (stock_at path) stocks → held_bytes (map (changed_at path change) stocks) + held_of found ≡ held_bytes stocks + held_of (change found)
held_changed path change [] found apart there = absurd (none_is found there)
held_changed path change (s ∷ ss) found apart there =
    let parts = and_parts (list_all (is_apart s.row) (rows_of ss)) (are_apart (rows_of ss)) apart in
    by (stock_at path s) refl parts.0 there (λ more. held_changed path change ss found parts.1 more)
  where
    cut : (t : Stock) (ts : List Stock) → changed_at path change s ≡ t → map (changed_at path change) ss ≡ ts → held_bytes (map (changed_at path change) (s ∷ ss)) ≡ held_of t + held_bytes ts
    cut t ts here more = ap₂ (λ (u : Stock) (us : List Stock). held_bytes (u ∷ us)) here more ∙ sum_by-cons held_of t ts

    by : (b : Bool) → stock_at path s ≡ b → list_all (is_apart s.row) (rows_of ss) ≡ true → Some found ≡ cond b (Some s) (find (stock_at path) ss)
        → (Some found ≡ find (stock_at path) ss → held_bytes (map (changed_at path change) ss) + held_of found ≡ held_bytes ss + held_of (change found))
        → held_bytes (map (changed_at path change) (s ∷ ss)) + held_of found ≡ held_bytes (s ∷ ss) + held_of (change found)
    by true is later here more =
        let one : found ≡ s = some_is found s here in
        sum_first (held_bytes (s ∷ ss)) (held_bytes (map (changed_at path change) (s ∷ ss))) (held_bytes ss) (held_of found) (held_of (change found))
        (sum_by-cons held_of s ss ∙ ap (λ (t : Stock). held_of t + held_bytes ss) (sym one))
        (cut (change s) ss (ap (λ b. cond b (change s) s) is) (change_none path change ss (sym (rest_away path s ss is later))) ∙ ap (λ (t : Stock). held_of (change t) + held_bytes ss) (sym one))
    by false is later off more =
        sum_later (held_bytes (s ∷ ss)) (held_bytes (map (changed_at path change) (s ∷ ss))) (held_bytes ss) (held_bytes (map (changed_at path change) ss)) (held_of s) (held_of found)
        (held_of (change found)) (sum_by-cons held_of s ss) (cut s (map (changed_at path change) ss) (ap (λ b. cond b (change s) s) is) refl) (more off)

-- as many bytes are held where each stock holds as many
held_kept : (path : List (List ℕ)) (change : Stock → Stock) → ((s : Stock) → held_of (change s) ≡ held_of s) → (stocks : List Stock)
    → held_bytes (map (changed_at path change) stocks) ≡ held_bytes stocks
held_kept path change keeps [] = refl
held_kept path change keeps (s ∷ ss) =
    sum_by-cons held_of (changed_at path change s) (map (changed_at path change) ss)
    ∙ ap₂ (λ (m n : ℕ). m + n) (by (stock_at path s)) (held_kept path change keeps ss)
    ∙ sym (sum_by-cons held_of s ss)
  where
    by : (b : Bool) → held_of (cond b (change s) s) ≡ held_of s
    by true = keeps s
    by false = refl

-- the numbers of a change of what is held
held_parts : (path : List (List ℕ)) (change : Stock → Stock) (old : List Place) (stocks : List Stock) (found : Stock) (part held : ℕ) → old ≡ map place_of stocks
    → are_apart (rows_of stocks) ≡ true → Some found ≡ option_flatten (value_at path old) → part ≡ held_of found → held ≡ held_bytes stocks
    → held_bytes (map (changed_at path change) stocks) + part ≡ held + held_of (change found)
held_parts path change old stocks found part held placed apart is one all =
    ap (λ n. held_bytes (map (changed_at path change) stocks) + n) one
    ∙ held_changed path change stocks found apart (is ∙ get_is path old stocks placed)
    ∙ ap (λ n. n + held_of (change found)) (sym all)

held_one : (path : List (List ℕ)) (stocks : List Stock) (found : Stock) → Some found ≡ find (stock_at path) stocks → held_of found ≤ held_bytes stocks
held_one path [] found there = absurd (none_is found there)
held_one path (s ∷ ss) found there = by (stock_at path s) there (λ more. held_one path ss found more)
  where
    more_than : (all part rest n : ℕ) → all ≡ part + rest → n ≤ rest → n ≤ all
    more_than all part rest n is less = omega (arith, is, less)

    here : (all part rest n : ℕ) → all ≡ part + rest → n ≡ part → n ≤ all
    here all part rest n is same = omega (arith, is, same)

    by : (b : Bool) → Some found ≡ cond b (Some s) (find (stock_at path) ss) → (Some found ≡ find (stock_at path) ss → held_of found ≤ held_bytes ss) → held_of found ≤ held_bytes (s ∷ ss)
    by true this more = here (held_bytes (s ∷ ss)) (held_of s) (held_bytes ss) (held_of found) (sum_by-cons held_of s ss) (ap held_of (some_is found s this))
    by false that more = more_than (held_bytes (s ∷ ss)) (held_of s) (held_bytes ss) (held_of found) (sum_by-cons held_of s ss) (more that)

pub held_less : (path : List (List ℕ)) (old : List Place) (stocks : List Stock) (found : Stock) (part held : ℕ) → old ≡ map place_of stocks
    → Some found ≡ option_flatten (value_at path old) → part ≡ held_of found → held ≡ held_bytes stocks → part ≤ held
held_less path old stocks found part held placed is one all =
    subst (λ (n : ℕ). n ≤ held) (sym one) (subst (λ (n : ℕ). held_of found ≤ n) (sym all) (held_one path stocks found (is ∙ get_is path old stocks placed)))

pub held_same : (path : List (List ℕ)) (change : Stock → Stock) (old : List Place) (stocks : List Stock) (held : ℕ) → old ≡ map place_of stocks
    → None ≡ option_flatten (value_at path old) → held ≡ held_bytes stocks → held ≡ held_bytes (map (changed_at path change) stocks)
held_same path change old stocks held placed is all = all ∙ ap held_bytes (sym (change_none path change stocks (is ∙ get_is path old stocks placed)))

-- a part less and another one more
less_more : (held part other new : ℕ) → new + part ≡ held + other → part ≤ held → held - part + other ≡ new
less_more held part other new is less = omega (arith, is, less)

pub held_added : (path : List (List ℕ)) (change : Stock → Stock) (old : List Place) (stocks : List Stock) (found : Stock) (part other held : ℕ) → old ≡ map place_of stocks
    → are_apart (rows_of stocks) ≡ true → Some found ≡ option_flatten (value_at path old) → part ≡ held_of found → other ≡ held_of (change found) → held ≡ held_bytes stocks
    → held - part + other ≡ held_bytes (map (changed_at path change) stocks)
held_added path change old stocks found part other held placed apart is one two all =
    less_more held part other (held_bytes (map (changed_at path change) stocks))
    (held_parts path change old stocks found part held placed apart is one all ∙ ap (λ n. held + n) (sym two))
    (held_less path old stocks found part held placed is one all)

pub held_fits : (path : List (List ℕ)) (change : Stock → Stock) (old : List Place) (stocks : List Stock) (found : Stock) (part other held : ℕ) → old ≡ map place_of stocks
    → are_apart (rows_of stocks) ≡ true → Some found ≡ option_flatten (value_at path old) → part ≡ held_of found → other ≡ held_of (change found) → held ≡ held_bytes stocks
    → held_bytes (map (changed_at path change) stocks) < 2 ^ 64 → held - part + other < 2 ^ 64
held_fits path change old stocks found part other held placed apart is one two all few =
    subst (λ (n : ℕ). n < 2 ^ 64) (sym (held_added path change old stocks found part other held placed apart is one two all)) few

-- the list that a trie is seen as
pub seen_as : (places : List Place) (stocks : List Stock) → places ≡ map place_of stocks → stocks_of places ≡ stocks
seen_as places stocks is = ap stocks_of is ∙ stocks_again stocks

-- each stock of such a list stands at the path of its row
pub placed_again : (places : List Place) (stocks : List Stock) → places ≡ map place_of stocks → places ≡ map place_of (stocks_of places)
placed_again places stocks is = is ∙ ap (map place_of) (sym (seen_as places stocks is))

-- a list that the trie has is that of the book
pub whole_of : (places : List Place) (held : ℕ) (stocks : List Stock) → places ≡ map place_of stocks → are_apart (rows_of stocks) ≡ true → held ≡ held_bytes stocks → IsWhole places held
whole_of places held stocks placed apart counted =
    let same : stocks_of places ≡ stocks = seen_as places stocks placed in
    record {
      placed = placed ∙ ap (map place_of) (sym same);
      apart = ap (λ (ss : List Stock). are_apart (rows_of ss)) same ∙ apart;
      counted = counted ∙ ap held_bytes (sym same);
    }

-- the book where the stock at a path is changed, but neither its path nor how many bytes are held for it
pub whole_changed : (path : List (List ℕ)) (change : Stock → Stock) (old new : List Place) (held : ℕ) → ((s : Stock) → (change s).row.path ≡ s.row.path)
    → ((s : Stock) → held_of (change s) ≡ held_of s) → IsWhole old held → new ≡ map place_of (map (changed_at path change) (stocks_of old)) → IsWhole new held
whole_changed path change old new held keeps holds whole is =
    whole_of new held (map (changed_at path change) (stocks_of old)) is
    (apart_changed (changed_at path change) (changed_path path change keeps) (stocks_of old) ∙ whole.apart)
    (whole.counted ∙ sym (held_kept path change holds (stocks_of old)))

-- the book where the stock at a path has another method
pub whole_supplied : (path : List (List ℕ)) (change : Stock → Stock) (old new : List Place) (held count : ℕ) → ((s : Stock) → (change s).row.path ≡ s.row.path)
    → IsWhole old held → new ≡ map place_of (map (changed_at path change) (stocks_of old)) → count ≡ held_bytes (map (changed_at path change) (stocks_of old)) → IsWhole new count
whole_supplied path change old new held count keeps whole is counted =
    whole_of new count (map (changed_at path change) (stocks_of old)) is
    (apart_changed (changed_at path change) (changed_path path change keeps) (stocks_of old) ∙ whole.apart) counted

-- how the list of a book is changed
pub list_changed : (path : List (List ℕ)) (change : Stock → Stock) (old new : List Place) (was now : List Stock) → stocks_of old ≡ was → stocks_of new ≡ now
    → new ≡ map place_of (map (changed_at path change) (stocks_of old)) → now ≡ map (changed_at path change) was
list_changed path change old new was now seen shown is =
    sym shown ∙ seen_as new (map (changed_at path change) (stocks_of old)) is ∙ ap (map (changed_at path change)) seen
