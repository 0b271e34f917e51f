-- A stock that is put among others.
use Rattle.mat_path.proofs.Elements.{filter_all}
use Rattle.mat_path.proofs.PathLemmas.{overlap_comm, path_cmp_equal, path_cmp_total}
use Rattle.mat_path.proofs.SameNames.{same_names-eq, same_names-refl, same_names-sym}
use Rattle.model_laws.proofs.Apart.{before-trans}
use Rattle.model_laws.proofs.Clear.{at_path_overlaps}
use Rattle.model_laws.proofs.Elements.{found_all, found_passes}
use Rattle.path_trie.proofs.Lists.{all_filter, all_so}
use Rattle.std.proofs.Common.{◌≡◌, ℕ, ◌<◌, ◌≤◌, Bool, true, false, not, cond, ◌&&◌, List, [], ◌∷◌, ◌++◌, length, map, reverse, find, Option, Some, None, Ordering, Less, Equal, Greater, refl, ◌∙◌, sym, ap, ap₂, subst, arith}
use Rattle.std.proofs.lemmas.Bool.{and_from, and_parts, both_ways, not-true}
use Rattle.std.specs.List.{filter, list_all}
use Rattle.std.specs.Option.{is_some}
use Rattle.std.specs.Ordering.{is_lt, ordering_reverse}
use Rattle.mat_path.specs.Names.{overlap, path_cmp, same_names}
use Rattle.mat_model.specs.Rows.{are_apart, comes_before, is_apart}
use Rattle.path_trie.specs.Entries.{ascends, is_before, is_behind, overlaps, path_of as path_of_place, put}
use Rattle.row_book.specs.declared.stock.Stock.{Stock}
use Rattle.row_book.specs.Stocks.{changed_at, is_clear_stock, is_stock_elsewhere, overlaps_stock, path_of, put_stock, rows_of, stock_at}
use Rattle.row_book.specs.Whole.{Place, listed, place_of, set_place, stocks_of, taken_stocks, without_stocks}
use Rattle.row_book.proofs.ChangeLemmas.{filter_none, not_before, rest_away, seen_as, set_none}
use Rattle.row_book.proofs.FindLemmas.{none_is}
use Rattle.row_book.proofs.TakeLemmas.{all_in, back_paths, chosen_left, chosen_taken, comes_later, in_line, line_parts, paths_are, turned_list}

-- ---- the place of a new stock

-- where all come later, it is the first
put_first : (new : Stock) (ss : List Stock) → list_all (comes_later new) ss ≡ true → put_stock new ss ≡ new ∷ ss
put_first new [] later = refl
put_first new (s ∷ ss) later =
    ap (λ b. cond b (new ∷ s ∷ ss) (s ∷ put_stock new ss)) (and_parts (comes_later new s) (list_all (comes_later new) ss) later).0

-- what comes behind a stock comes behind all that is before it
later_all : (new s : Stock) (ss : List Stock) → comes_later new s ≡ true → list_all (comes_later s) ss ≡ true → list_all (comes_later new) ss ≡ true
later_all new s ss before later =
    all_so (comes_later s) (comes_later new) (λ (t : Stock) less. before-trans new.row.path s.row.path t.row.path before less) ss later

-- what isn't at a path
away_parts : (path : List (List ℕ)) (s : Stock) (ss : List Stock) → is_some (find (stock_at path) (s ∷ ss)) ≡ false → (stock_at path s ≡ false) × (is_some (find (stock_at path) ss) ≡ false)
away_parts path s ss away = by (stock_at path s) away
  where
    by : (b : Bool) → is_some (cond b (Some s) (find (stock_at path) ss)) ≡ false → (b ≡ false) × (is_some (find (stock_at path) ss) ≡ false)
    by true there = absurd cc
    by false off = (refl, off)

pub away_all : (path : List (List ℕ)) (stocks : List Stock) → is_some (find (stock_at path) stocks) ≡ false → list_all (is_stock_elsewhere path) stocks ≡ true
away_all path [] away = refl
away_all path (s ∷ ss) away =
    let parts = away_parts path s ss away in and_from (is_stock_elsewhere path s) (list_all (is_stock_elsewhere path) ss) (ap not parts.0) (away_all path ss parts.1)

-- places of stocks that come behind a path
places_behind : (path : List (List ℕ)) (ts : List Stock) → list_all (λ (t : Stock). comes_before path t.row.path) ts ≡ true → list_all (is_behind path) (map place_of ts) ≡ true
places_behind path [] all = refl
places_behind path (t ∷ ts) all =
    let parts = and_parts (comes_before path t.row.path) (list_all (λ (u : Stock). comes_before path u.row.path) ts) all in
    and_from (comes_before path t.row.path) (list_all (is_behind path) (map place_of ts)) parts.0 (places_behind path ts parts.1)

-- a stock that is put into the trie is put into the list
pub put_place : (path : List (List ℕ)) (new : Stock) (stocks : List Stock) → path ≡ new.row.path → in_line stocks ≡ true → is_some (find (stock_at path) stocks) ≡ false
    → put path (Some new) (map place_of stocks) ≡ map place_of (put_stock new stocks)
put_place path new [] at line away = ap (λ p. record { path = p; value = Some new } ∷ []) at
put_place path new (s ∷ ss) at line away =
    let parts = line_parts s ss line in
    let off = away_parts path s ss away in
    by (path_cmp s.row.path path) refl off.0 parts.0 (put_place path new ss at parts.1 off.1)
  where
    value : Option Stock
    value = Some new

    es : List Place
    es = map place_of ss

    both : (a b : Bool) → is_before path (place_of s) ≡ a → is_behind path (place_of s) ≡ b
        → put path value (place_of s ∷ es)
        ≡ cond a (place_of s ∷ filter (is_before path) es) (filter (is_before path) es) ++ record { path = path; value = value } ∷ cond b (place_of s ∷ filter (is_behind path) es) (filter (is_behind path) es)
    both a b before behind =
        ap₂ (λ (c d : Bool). cond c (place_of s ∷ filter (is_before path) es) (filter (is_before path) es)
        ++ record { path = path; value = value } ∷ cond d (place_of s ∷ filter (is_behind path) es) (filter (is_behind path) es)) before behind

    turned : (o : Ordering) → path_cmp s.row.path path ≡ o → is_behind path (place_of s) ≡ is_lt (ordering_reverse o)
    turned o is = ap is_lt (path_cmp_total.antisymm path s.row.path) ∙ ap (λ p. is_lt (ordering_reverse p)) is

    by : (o : Ordering) → path_cmp s.row.path path ≡ o → stock_at path s ≡ false → list_all (comes_later s) ss ≡ true → put path value es ≡ map place_of (put_stock new ss)
        → put path value (place_of s ∷ es) ≡ map place_of (put_stock new (s ∷ ss))
    by Less is off later e =
        both true false (ap is_lt is) (turned Less is) ∙ ap (λ (xs : List Place). place_of s ∷ xs) e
        ∙ ap (λ b. map place_of (cond b (new ∷ s ∷ ss) (s ∷ put_stock new ss))) (sym (ap (λ p. comes_before p s.row.path) (sym at) ∙ turned Less is))
    by Equal is off later e =
        absurd (both_ways (stock_at path s) off (ap (λ p. same_names p path) (path_cmp_equal s.row.path path is) ∙ same_names-refl path))
    by Greater is off later e =
        let behind : is_behind path (place_of s) ≡ true = turned Greater is in
        let all : list_all (is_behind path) es ≡ true = places_behind path ss (all_so (comes_later s) (λ t. comes_before path t.row.path) (λ (t : Stock) less.
        before-trans path s.row.path t.row.path behind less) ss later) in
        both false true (ap is_lt is) behind
        ∙ ap₂ (λ (xs ys : List Place). xs ++ record { path = path; value = value } ∷ place_of s ∷ ys)
        (filter_none (is_before path) (is_behind path) (λ (y : Place) past. not_before path y.path past) es all) (filter_all (is_behind path) es all)
        ∙ ap (λ p. record { path = p; value = value } ∷ place_of s ∷ es) at
        ∙ ap (λ b. map place_of (cond b (new ∷ s ∷ ss) (s ∷ put_stock new ss))) (sym (ap (λ p. comes_before p s.row.path) (sym at) ∙ behind))

pub inserted : (path : List (List ℕ)) (new : Stock) (old places : List Place) (stocks : List Stock) → old ≡ map place_of stocks → path ≡ new.row.path → ascends old ≡ true
    → is_some (find (stock_at path) stocks) ≡ false → places ≡ put path (Some new) old → places ≡ map place_of (put_stock new stocks)
inserted path new old places stocks placed at order away is =
    is ∙ ap (put path (Some new)) placed ∙ put_place path new stocks at (ap ascends (sym placed) ∙ order) away

-- ---- tests of stocks among which one is put

-- what a test leaves, where it leaves the new one
filter_put : (p : Stock → Bool) (new : Stock) (stocks : List Stock) → p new ≡ true → in_line stocks ≡ true → filter p (put_stock new stocks) ≡ put_stock new (filter p stocks)
filter_put p new [] stays line = ap (λ b. cond b (new ∷ []) []) stays
filter_put p new (s ∷ ss) stays line =
    let parts = line_parts s ss line in by (comes_before new.row.path s.row.path) refl parts.0 (filter_put p new ss stays parts.1)
  where
    kept : (b : Bool) → list_all (comes_later new) ss ≡ true → comes_later new s ≡ true → list_all (comes_later new) (cond b (s ∷ filter p ss) (filter p ss)) ≡ true
    kept true all first = and_from (comes_later new s) (list_all (comes_later new) (filter p ss)) first (all_filter (comes_later new) p ss all)
    kept false all first = all_filter (comes_later new) p ss all

    by : (b : Bool) → comes_before new.row.path s.row.path ≡ b → list_all (comes_later s) ss ≡ true → filter p (put_stock new ss) ≡ put_stock new (filter p ss)
        → filter p (cond b (new ∷ s ∷ ss) (s ∷ put_stock new ss)) ≡ put_stock new (filter p (s ∷ ss))
    by true before later e =
        ap (λ b. cond b (new ∷ filter p (s ∷ ss)) (filter p (s ∷ ss))) stays
        ∙ sym (put_first new (filter p (s ∷ ss)) (kept (p s) (later_all new s ss before later) before))
    by false behind later e = at (p s)
      where
        at : (b : Bool) → cond b (s ∷ filter p (put_stock new ss)) (filter p (put_stock new ss)) ≡ put_stock new (cond b (s ∷ filter p ss) (filter p ss))
        at true = ap (λ (ts : List Stock). s ∷ ts) e ∙ ap (λ b. cond b (new ∷ s ∷ filter p ss) (s ∷ put_stock new (filter p ss))) (sym behind)
        at false = e

-- what a test leaves, where it doesn't leave the new one
filter_put_out : (p : Stock → Bool) (new : Stock) (stocks : List Stock) → p new ≡ false → filter p (put_stock new stocks) ≡ filter p stocks
filter_put_out p new [] out = ap (λ b. cond b (new ∷ []) []) out
filter_put_out p new (s ∷ ss) out = by (comes_before new.row.path s.row.path) (filter_put_out p new ss out)
  where
    by : (b : Bool) → filter p (put_stock new ss) ≡ filter p ss → filter p (cond b (new ∷ s ∷ ss) (s ∷ put_stock new ss)) ≡ filter p (s ∷ ss)
    by true e = ap (λ b. cond b (new ∷ filter p (s ∷ ss)) (filter p (s ∷ ss))) out
    by false e = ap (λ (ts : List Stock). cond (p s) (s ∷ ts) ts) e

-- two tests that agree on all of a list
filter_alike : {X : Type 0} (p q r : X → Bool) → ((x : X) → r x ≡ true → p x ≡ q x) → (xs : List X) → list_all r xs ≡ true → filter p xs ≡ filter q xs
filter_alike p q r alike [] all = refl
filter_alike p q r alike (x ∷ xs) all =
    let parts = and_parts (r x) (list_all r xs) all in
    ap₂ (λ b (ys : _). cond b (x ∷ ys) ys) (alike x parts.0) (filter_alike p q r alike xs parts.1)

-- whether a stock overlaps a path and is at another one, and whether it doesn't
abbrev pub overlaps_beside : List (List ℕ) → Stock → Bool
overlaps_beside path s = overlaps_stock path s && is_stock_elsewhere path s

abbrev pub stays_beside : List (List ℕ) → Stock → Bool
stays_beside path s = not (overlaps_beside path s)

beside_is : (path : List (List ℕ)) (s : Stock) → is_stock_elsewhere path s ≡ true → overlaps_beside path s ≡ overlaps_stock path s
beside_is path s away = ap (λ b. overlaps_stock path s && b) away ∙ only (overlaps_stock path s)
  where
    only : (b : Bool) → (b && true) ≡ b
    only true = refl
    only false = refl

beside_new : (path : List (List ℕ)) (new : Stock) → path ≡ new.row.path → overlaps_beside path new ≡ false
beside_new path new at =
    ap (λ b. overlaps_stock path new && not b) (ap (same_names new.row.path) at ∙ same_names-refl new.row.path) ∙ never (overlaps_stock path new)
  where
    never : (b : Bool) → (b && false) ≡ false
    never true = refl
    never false = refl

-- ---- a new stock among those that it overlaps

-- the paths of those that overlap a path, with the new one among them
paths_beside : (path : List (List ℕ)) (new : Stock) (stocks : List Stock) → path ≡ new.row.path → list_all (is_stock_elsewhere path) stocks ≡ true
    → filter (overlaps_stock path) stocks ≡ filter (overlaps_beside path) (put_stock new stocks)
paths_beside path new stocks at away =
    sym (filter_put_out (overlaps_beside path) new stocks (beside_new path new at)
    ∙ filter_alike (overlaps_beside path) (overlaps_stock path) (is_stock_elsewhere path) (beside_is path) stocks away)

-- what is left and what is taken
pub put_left : (path : List (List ℕ)) (new : Stock) (stocks : List Stock) → path ≡ new.row.path → in_line stocks ≡ true → in_line (put_stock new stocks) ≡ true
    → is_some (find (stock_at path) stocks) ≡ false
    → without_stocks (back_paths (overlaps_stock path) stocks) (put_stock new stocks) ≡ put_stock new (filter (is_clear_stock path) stocks)
put_left path new stocks at line more away =
    let all = away_all path stocks away in
    ap (λ (ts : List Stock). without_stocks (reverse (map path_of ts)) (put_stock new stocks)) (paths_beside path new stocks at all)
    ∙ chosen_left (overlaps_beside path) (stays_beside path) (λ s. refl) (put_stock new stocks) more
    ∙ filter_put (stays_beside path) new stocks (ap not (beside_new path new at)) line
    ∙ ap (put_stock new) (filter_alike (stays_beside path) (is_clear_stock path) (is_stock_elsewhere path) (λ s off. ap not (beside_is path s off)) stocks all)

pub put_taken : (path : List (List ℕ)) (new : Stock) (stocks : List Stock) → path ≡ new.row.path → in_line (put_stock new stocks) ≡ true
    → is_some (find (stock_at path) stocks) ≡ false
    → taken_stocks (back_paths (overlaps_stock path) stocks) (put_stock new stocks) ≡ reverse (filter (overlaps_stock path) stocks)
put_taken path new stocks at more away =
    let all = away_all path stocks away in
    ap (λ (ts : List Stock). taken_stocks (reverse (map path_of ts)) (put_stock new stocks)) (paths_beside path new stocks at all)
    ∙ chosen_taken (overlaps_beside path) (stays_beside path) (λ s. refl) (put_stock new stocks) more
    ∙ ap reverse (sym (paths_beside path new stocks at all))

-- ---- a new stock in the place of one

-- those that are apart from one that is at a path come later, are at another one and are clear of it
apart_later : (path : List (List ℕ)) (s : Stock) (ss : List Stock) → stock_at path s ≡ true → list_all (is_apart s.row) (rows_of ss) ≡ true
    → (list_all (λ (t : Stock). comes_before path t.row.path) ss ≡ true) × (list_all (is_clear_stock path) ss ≡ true)
apart_later path s [] at apart = (refl, refl)
apart_later path s (t ∷ ts) at apart =
    let parts = and_parts (is_apart s.row t.row) (list_all (is_apart s.row) (rows_of ts)) apart in
    let one = and_parts (comes_before s.row.path t.row.path) (not (overlap s.row.path t.row.path)) parts.0 in
    let rest = apart_later path s ts at parts.1 in
    let same : s.row.path ≡ path = same_names-eq s.row.path path at in (
      and_from (comes_before path t.row.path) (list_all (λ (u : Stock). comes_before path u.row.path) ts) (ap (λ p. comes_before p t.row.path) (sym same) ∙ one.0) rest.0,
      and_from (is_clear_stock path t) (list_all (is_clear_stock path) ts) (ap not (overlap_comm t.row.path path ∙ ap (λ p. overlap p t.row.path) (sym same)) ∙ one.1) rest.1,
    )

-- one that is apart from what is at a path is before it and clear of it
apart_earlier : (path : List (List ℕ)) (s : Stock) (ss : List Stock) (found : Stock) → Some found ≡ find (stock_at path) ss → list_all (is_apart s.row) (rows_of ss) ≡ true
    → (comes_before s.row.path path ≡ true) × (is_clear_stock path s ≡ true)
apart_earlier path s ss found there apart =
    let same : found.row.path ≡ path = same_names-eq found.row.path path (found_passes (stock_at path) ss found (sym there)) in
    let one = and_parts (comes_before s.row.path found.row.path) (not (overlap s.row.path found.row.path))
    (found_all (λ (t : Stock). is_apart s.row t.row) (stock_at path) ss found (sym (all_in (λ (t : Stock). t.row) (is_apart s.row) (λ (t : Stock). is_apart s.row t.row) (λ t. refl) ss) ∙ apart) (sym there)) in
    (ap (comes_before s.row.path) (sym same) ∙ one.0, ap (λ p. not (overlap s.row.path p)) (sym same) ∙ one.1)

exchange_all : (path : List (List ℕ)) (new : Stock) (stocks : List Stock) (found : Stock) → path ≡ new.row.path → are_apart (rows_of stocks) ≡ true → Some found ≡ find (stock_at path) stocks
    → map (set_place path (Some new)) (map place_of stocks) ≡ map place_of (put_stock new (filter (is_clear_stock path) stocks))
exchange_all path new [] found at apart there = absurd (none_is found there)
exchange_all path new (s ∷ ss) found at apart there =
    let parts = and_parts (list_all (is_apart s.row) (rows_of ss)) (are_apart (rows_of ss)) apart in
    by (stock_at path s) refl parts.0 there (λ more. exchange_all path new ss found at parts.1 more)
  where
    value : Option Stock
    value = Some new

    by : (b : Bool) → stock_at path s ≡ b → list_all (is_apart s.row) (rows_of ss) ≡ true → Some found ≡ cond b (Some s) (find (stock_at path) ss)
        → (Some found ≡ find (stock_at path) ss → map (set_place path value) (map place_of ss) ≡ map place_of (put_stock new (filter (is_clear_stock path) ss)))
        → set_place path value (place_of s) ∷ map (set_place path value) (map place_of ss) ≡ map place_of (put_stock new (filter (is_clear_stock path) (s ∷ ss)))
    by true is apart here more =
        let later = apart_later path s ss is apart in
        let meets : overlaps_stock path s ≡ true = at_path_overlaps path s.row is in
        let first : list_all (comes_later new) ss ≡ true = subst (λ p. list_all (λ (t : Stock). comes_before p t.row.path) ss ≡ true) at later.0 in
        ap (λ b. cond b (record (place_of s) { value = value }) (place_of s) ∷ map (set_place path value) (map place_of ss)) (same_names-sym path s.row.path ∙ is)
        ∙ ap₂ (λ p (xs : List Place). record { path = p; value = value } ∷ xs) (same_names-eq s.row.path path is ∙ at)
        (set_none path value (λ (t : Stock). t) ss (sym (rest_away path s ss is apart)) ∙ ap (map place_of) (same_again ss))
        ∙ ap (map place_of) (sym (put_first new ss first))
        ∙ ap (λ (ts : List Stock). map place_of (put_stock new ts)) (sym (filter_all (is_clear_stock path) ss later.1))
        ∙ ap (λ b. map place_of (put_stock new (cond (not b) (s ∷ filter (is_clear_stock path) ss) (filter (is_clear_stock path) ss)))) (sym meets)
      where
        same_again : (ts : List Stock) → map (changed_at path (λ (t : Stock). t)) ts ≡ ts
        same_again [] = refl
        same_again (t ∷ ts) = ap₂ (λ (u : Stock) (us : List Stock). u ∷ us) (either (stock_at path t)) (same_again ts)
          where
            either : (b : Bool) → cond b t t ≡ t
            either true = refl
            either false = refl
    by false is apart away more =
        let earlier = apart_earlier path s ss found away apart in
        let behind : comes_before new.row.path s.row.path ≡ false = ap (λ p. comes_before p s.row.path) (sym at) ∙ not_before s.row.path path earlier.0 in
        ap (λ b. cond b (record (place_of s) { value = value }) (place_of s) ∷ map (set_place path value) (map place_of ss)) (same_names-sym path s.row.path ∙ is)
        ∙ ap (λ (xs : List Place). place_of s ∷ xs) (more away)
        ∙ ap (λ b. map place_of (cond b (new ∷ s ∷ filter (is_clear_stock path) ss) (s ∷ put_stock new (filter (is_clear_stock path) ss)))) (sym behind)
        ∙ ap (λ b. map place_of (put_stock new (cond b (s ∷ filter (is_clear_stock path) ss) (filter (is_clear_stock path) ss)))) (sym earlier.1)

pub exchanged : (path : List (List ℕ)) (new : Stock) (old places : List Place) (stocks : List Stock) → old ≡ map place_of stocks → are_apart (rows_of stocks) ≡ true → path ≡ new.row.path
    → is_some (find (stock_at path) stocks) ≡ true → places ≡ map (set_place path (Some new)) old → places ≡ map place_of (put_stock new (filter (is_clear_stock path) stocks))
exchanged path new old places stocks placed apart at there is =
    is ∙ ap (map (set_place path (Some new))) placed ∙ by (find (stock_at path) stocks) refl there
  where
    by : (o : Option Stock) → find (stock_at path) stocks ≡ o → is_some o ≡ true
        → map (set_place path (Some new)) (map place_of stocks) ≡ map place_of (put_stock new (filter (is_clear_stock path) stocks))
    by None found never = absurd cc
    by (Some s) found is_there = exchange_all path new stocks s at apart (sym found)

-- the one stock at a path is all that overlaps it
pub one_overlaps : (path : List (List ℕ)) (stocks : List Stock) → are_apart (rows_of stocks) ≡ true → is_some (find (stock_at path) stocks) ≡ true
    → listed (find (stock_at path) stocks) ≡ filter (overlaps_stock path) stocks
one_overlaps path [] apart there = absurd cc
one_overlaps path (s ∷ ss) apart there =
    let parts = and_parts (list_all (is_apart s.row) (rows_of ss)) (are_apart (rows_of ss)) apart in
    by (stock_at path s) refl parts.0 there (λ more. one_overlaps path ss parts.1 more)
  where
    by : (b : Bool) → stock_at path s ≡ b → list_all (is_apart s.row) (rows_of ss) ≡ true → is_some (cond b (Some s) (find (stock_at path) ss)) ≡ true
        → (is_some (find (stock_at path) ss) ≡ true → listed (find (stock_at path) ss) ≡ filter (overlaps_stock path) ss)
        → listed (cond b (Some s) (find (stock_at path) ss)) ≡ filter (overlaps_stock path) (s ∷ ss)
    by true is apart here more =
        ap (λ (ts : List Stock). s ∷ ts) (sym (filter_none (overlaps_stock path) (is_clear_stock path) (λ (t : Stock) clear. not-true (overlaps_stock path t) clear) ss (apart_later path s ss is apart).1))
        ∙ ap (λ b. cond b (s ∷ filter (overlaps_stock path) ss) (filter (overlaps_stock path) ss)) (sym (at_path_overlaps path s.row is))
    by false is apart away more = more away ∙ ap (λ b. cond b (s ∷ filter (overlaps_stock path) ss) (filter (overlaps_stock path) ss)) (sym (clear (find (stock_at path) ss) refl away))
      where
        clear : (o : Option Stock) → find (stock_at path) ss ≡ o → is_some o ≡ true → overlaps_stock path s ≡ false
        clear None found never = absurd cc
        clear (Some t) found is_there = not-true (overlaps_stock path s) (apart_earlier path s ss t (sym found) apart).1

-- there is room for the one that is there
pub place_room : (path : List (List ℕ)) (places : List Place) (stocks : List Stock) (paths : List (List (List ℕ))) (removed : List Stock) (room : ℕ) → places ≡ map place_of stocks
    → are_apart (rows_of stocks) ≡ true → is_some (find (stock_at path) stocks) ≡ true → paths ≡ reverse (map path_of_place (filter (overlaps path) places)) → removed ≡ [] → length paths ≤ room
    → length removed < room
place_room path places stocks paths removed room placed apart there are none fits =
    by (find (stock_at path) stocks) refl there
  where
    one : paths ≡ reverse (map path_of (listed (find (stock_at path) stocks)))
    one = are ∙ ap reverse (paths_are path places stocks placed ∙ ap (map path_of) (sym (one_overlaps path stocks apart there)))

    less : (n m r : ℕ) → n ≡ 0 → m ≡ 1 → m ≤ r → n < r
    less n m r zero_is one_is within = omega (arith, zero_is, one_is, within)

    by : (o : Option Stock) → find (stock_at path) stocks ≡ o → is_some o ≡ true → length removed < room
    by None found never = absurd cc
    by (Some s) found is_there =
        less (length removed) (length paths) room (ap (λ (ss : List Stock). length ss) none)
        (ap (λ (ps : List (List (List ℕ))). length ps) (one ∙ ap (λ o. reverse (map path_of (listed o))) found)) fits

-- ---- the trie with a new stock

-- the trie once a stock was put where none was, and those were taken away that overlap it
pub among_left : (path : List (List ℕ)) (new : Stock) (old inserted left : List Place) (stocks : List Stock) (paths : List (List (List ℕ))) → old ≡ map place_of stocks → path ≡ new.row.path
    → ascends old ≡ true → ascends inserted ≡ true → is_some (find (stock_at path) stocks) ≡ false → paths ≡ reverse (map path_of_place (filter (overlaps path) old))
    → inserted ≡ map place_of (put_stock new stocks) → left ≡ map place_of (without_stocks paths (stocks_of inserted))
    → left ≡ map place_of (put_stock new (filter (is_clear_stock path) stocks))
among_left path new old inserted left stocks paths placed at order more away are put is =
    is ∙ ap₂ (λ (ps : List (List (List ℕ))) (ss : List Stock). map place_of (without_stocks ps ss)) (are ∙ ap reverse (paths_are path old stocks placed)) (seen_as inserted (put_stock new stocks) put)
    ∙ ap (map place_of) (put_left path new stocks at (ap ascends (sym placed) ∙ order) (ap ascends (sym put) ∙ more) away)

pub among_taken : (path : List (List ℕ)) (new : Stock) (old inserted : List Place) (stocks was now turned : List Stock) (paths : List (List (List ℕ))) → old ≡ map place_of stocks → path ≡ new.row.path
    → ascends inserted ≡ true → is_some (find (stock_at path) stocks) ≡ false → paths ≡ reverse (map path_of_place (filter (overlaps path) old))
    → inserted ≡ map place_of (put_stock new stocks) → was ≡ [] → now ≡ was ++ taken_stocks paths (stocks_of inserted) → turned ≡ reverse now
    → turned ≡ filter (overlaps_stock path) stocks
among_taken path new old inserted stocks was now turned paths placed at more away are put none is back =
    turned_list was now turned (filter (overlaps_stock path) stocks) none
    (is ∙ ap (λ (ts : List Stock). was ++ ts)
    (ap₂ (λ (ps : List (List (List ℕ))) (ss : List Stock). taken_stocks ps ss) (are ∙ ap reverse (paths_are path old stocks placed)) (seen_as inserted (put_stock new stocks) put)
    ∙ put_taken path new stocks at (ap ascends (sym put) ∙ more) away)) back
