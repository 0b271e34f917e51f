-- How many bytes are held, and that rows are apart, once stocks came and went.
use Rattle.mat_path.proofs.Elements.{filter_all}
use Rattle.model_laws.proofs.Apart.{put_row-apart}
use Rattle.std.proofs.Common.{◌≡◌, ℕ, ◌+◌, ◌-◌, ◌<◌, ◌≤◌, Bool, true, false, not, cond, ◌||◌, List, [], ◌∷◌, map, take, length, find, slice_index_or as get_or, Some, None, refl, ◌∙◌, sym, ap, ap₂, subst, arith}
use Rattle.std.proofs.lemmas.Bool.{and_from, and_parts}
use Rattle.std.proofs.lemmas.List.Sums.{sum_by-cons, sum_by_more_le}
use Rattle.std.specs.List.{filter, list_all, list_any}
use Rattle.std.specs.Option.{is_some}
use Rattle.mat_model.specs.declared.book.Row.{Row}
use Rattle.mat_model.specs.Rows.{are_apart, comes_before, is_apart, is_clear_of, overlaps_row, put_row}
use Rattle.mat_tree.specs.Trees.{bytes_of}
use Rattle.write_plan.specs.declared.method.Method.{Method}
use Rattle.row_book.specs.declared.stock.Stock.{Stock}
use Rattle.row_book.specs.Stocks.{held_bytes, held_of, is_clear_stock, is_held_method, is_stock_elsewhere, overlaps_stock, put_stock, rows_of, stock_at, supplied_stock, with_method}
use Rattle.row_book.specs.Whole.{IsWhole, Place, listed, place_of, stocks_of}
use Rattle.row_book.proofs.ChangeLemmas.{held_changed, rest_away, seen_as, whole_of}
use Rattle.row_book.proofs.PutLemmas.{away_all}
use Rattle.row_book.proofs.RowLemmas.{rows_left, rows_put}

-- ---- bytes

move : (a b c : ℕ) → a + (b + c) ≡ b + (a + c)
move a b c = omega arith

-- one stock more
pub held_put : (new : Stock) (stocks : List Stock) → held_bytes (put_stock new stocks) ≡ held_of new + held_bytes stocks
held_put new [] = sum_by-cons held_of new []
held_put new (s ∷ ss) = by (comes_before new.row.path s.row.path) (held_put new ss)
  where
    by : (b : Bool) → held_bytes (put_stock new ss) ≡ held_of new + held_bytes ss → held_bytes (cond b (new ∷ s ∷ ss) (s ∷ put_stock new ss)) ≡ held_of new + held_bytes (s ∷ ss)
    by true e = sum_by-cons held_of new (s ∷ ss)
    by false e =
        sum_by-cons held_of s (put_stock new ss) ∙ ap (λ n. held_of s + n) e ∙ move (held_of s) (held_of new) (held_bytes ss)
        ∙ ap (λ n. held_of new + n) (sym (sum_by-cons held_of s ss))

assoc : (a b c : ℕ) → (a + b) + c ≡ a + (b + c)
assoc a b c = omega arith

-- what a test finds and what it doesn't are all
pub held_parted : (p q : Stock → Bool) → ((s : Stock) → q s ≡ not (p s)) → (stocks : List Stock) → held_bytes (filter p stocks) + held_bytes (filter q stocks) ≡ held_bytes stocks
held_parted p q opposite [] = refl
held_parted p q opposite (s ∷ ss) =
    ap (λ b. held_bytes (filter p (s ∷ ss)) + held_bytes (cond b (s ∷ filter q ss) (filter q ss))) (opposite s)
    ∙ by (p s) (held_parted p q opposite ss) ∙ sym (sum_by-cons held_of s ss)
  where
    by : (b : Bool) → held_bytes (filter p ss) + held_bytes (filter q ss) ≡ held_bytes ss
        → held_bytes (cond b (s ∷ filter p ss) (filter p ss)) + held_bytes (cond (not b) (s ∷ filter q ss) (filter q ss)) ≡ held_of s + held_bytes ss
    by true e =
        ap (λ n. n + held_bytes (filter q ss)) (sum_by-cons held_of s (filter p ss)) ∙ assoc (held_of s) (held_bytes (filter p ss)) (held_bytes (filter q ss)) ∙ ap (λ n. held_of s + n) e
    by false e =
        ap (λ n. held_bytes (filter p ss) + n) (sum_by-cons held_of s (filter q ss)) ∙ move (held_bytes (filter p ss)) (held_of s) (held_bytes (filter q ss)) ∙ ap (λ n. held_of s + n) e

-- one stock more of some is within all
pub held_step : (stocks : List Stock) (k : ℕ) (d : Stock) (held one : ℕ) → held ≡ held_bytes (take k stocks) → one ≡ held_of d → d ≡ get_or stocks k d → k < length stocks
    → held + one ≤ held_bytes stocks
held_step stocks k d held one so_far is item within =
    subst (λ (n : ℕ). n ≤ held_bytes stocks) (sym (ap₂ (λ (m n : ℕ). m + n) so_far (is ∙ ap held_of item))) (sum_by_more_le held_of stocks k d within)

-- ---- rows that are apart

-- they stay so where they are filtered
pub apart_left : (p : Stock → Bool) (stocks : List Stock) → are_apart (rows_of stocks) ≡ true → are_apart (rows_of (filter p stocks)) ≡ true
apart_left p [] apart = refl
apart_left p (s ∷ ss) apart =
    let parts = and_parts (list_all (is_apart s.row) (rows_of ss)) (are_apart (rows_of ss)) apart in by (p s) parts.0 (apart_left p ss parts.1)
  where
    left : (ts : List Stock) → list_all (is_apart s.row) (rows_of ts) ≡ true → list_all (is_apart s.row) (rows_of (filter p ts)) ≡ true
    left [] all = refl
    left (t ∷ ts) all =
        let parts = and_parts (is_apart s.row t.row) (list_all (is_apart s.row) (rows_of ts)) all in
        let more = left ts parts.1 in
        elim (p t) as (λ b. list_all (is_apart s.row) (rows_of (cond b (t ∷ filter p ts) (filter p ts))) ≡ true)
        [ true ↦ and_from (is_apart s.row t.row) (list_all (is_apart s.row) (rows_of (filter p ts))) parts.0 more | false ↦ more ]

    by : (b : Bool) → list_all (is_apart s.row) (rows_of ss) ≡ true → are_apart (rows_of (filter p ss)) ≡ true → are_apart (rows_of (cond b (s ∷ filter p ss) (filter p ss))) ≡ true
    by true all more = and_from (list_all (is_apart s.row) (rows_of (filter p ss))) (are_apart (rows_of (filter p ss))) (left ss all) more
    by false all more = more

-- of those that are clear of a path none overlaps it
clear_any : (path : List (List ℕ)) (rows : List Row) → list_any (overlaps_row path) (filter (is_clear_of path) rows) ≡ false
clear_any path [] = refl
clear_any path (row ∷ rows) = by (overlaps_row path row) refl (clear_any path rows)
  where
    by : (b : Bool) → overlaps_row path row ≡ b → list_any (overlaps_row path) (filter (is_clear_of path) rows) ≡ false
        → list_any (overlaps_row path) (cond (not b) (row ∷ filter (is_clear_of path) rows) (filter (is_clear_of path) rows)) ≡ false
    by true is more = more
    by false is more = ap (λ b. b || list_any (overlaps_row path) (filter (is_clear_of path) rows)) is ∙ more

-- the rows once one was put in the place of those that it overlaps
pub rows_placed : (new : Stock) (stocks : List Stock) → rows_of (put_stock new (filter (is_clear_stock new.row.path) stocks)) ≡ put_row new.row (filter (is_clear_of new.row.path) (rows_of stocks))
rows_placed new stocks = rows_put new (filter (is_clear_stock new.row.path) stocks) ∙ ap (put_row new.row) (rows_left (is_clear_of new.row.path) stocks)

-- ---- the whole book

less_part : (all part rest held : ℕ) → part + rest ≡ all → held ≡ all → held - part ≡ rest
less_part all part rest held is same = omega (arith, is, same)

part_fits : (all part rest held : ℕ) → part + rest ≡ all → held ≡ all → part ≤ held
part_fits all part rest held is same = omega (arith, is, same)

-- the bytes of those that were taken are some of all
pub taken_fits : (p q : Stock → Bool) → ((s : Stock) → q s ≡ not (p s)) → (held part : ℕ) (stocks taken : List Stock) → held ≡ held_bytes stocks → taken ≡ filter p stocks → part ≡ held_bytes taken
    → part ≤ held
taken_fits p q opposite held part stocks taken counted is one =
    part_fits (held_bytes stocks) part (held_bytes (filter q stocks)) held (ap (λ n. n + held_bytes (filter q stocks)) (one ∙ ap held_bytes is) ∙ held_parted p q opposite stocks) counted

held_rest : (p q : Stock → Bool) → ((s : Stock) → q s ≡ not (p s)) → (held part : ℕ) (stocks taken : List Stock) → held ≡ held_bytes stocks → taken ≡ filter p stocks → part ≡ held_bytes taken
    → held - part ≡ held_bytes (filter q stocks)
held_rest p q opposite held part stocks taken counted is one =
    less_part (held_bytes stocks) part (held_bytes (filter q stocks)) held (ap (λ n. n + held_bytes (filter q stocks)) (one ∙ ap held_bytes is) ∙ held_parted p q opposite stocks) counted

-- the book without those that were taken
pub whole_left : (p q : Stock → Bool) → ((s : Stock) → q s ≡ not (p s)) → (old new : List Place) (held part : ℕ) (taken : List Stock) → IsWhole old held → new ≡ map place_of (filter q (stocks_of old))
    → taken ≡ filter p (stocks_of old) → part ≡ held_bytes taken → IsWhole new (held - part)
whole_left p q opposite old new held part taken whole is out one =
    whole_of new (held - part) (filter q (stocks_of old)) is (apart_left q (stocks_of old) whole.apart) (held_rest p q opposite held part (stocks_of old) taken whole.counted out one)

-- the bytes once a new stock took the place of others
pub held_placed : (new : Stock) (stocks taken : List Stock) (held part more : ℕ) → held ≡ held_bytes stocks → taken ≡ filter (overlaps_stock new.row.path) stocks → part ≡ held_bytes taken
    → more ≡ held_of new → held - part + more ≡ held_bytes (put_stock new (filter (is_clear_stock new.row.path) stocks))
held_placed new stocks taken held part more counted is one extra =
    ap₂ (λ (m n : ℕ). m + n) (held_rest (overlaps_stock new.row.path) (is_clear_stock new.row.path) (λ s. refl) held part stocks taken counted is one) extra
    ∙ turn (held_bytes (filter (is_clear_stock new.row.path) stocks)) (held_of new)
    ∙ sym (held_put new (filter (is_clear_stock new.row.path) stocks))
  where
    turn : (a b : ℕ) → a + b ≡ b + a
    turn a b = omega arith

pub whole_placed : (stock : Stock) (old new : List Place) (held part more : ℕ) (taken : List Stock) → IsWhole old held
    → new ≡ map place_of (put_stock stock (filter (is_clear_stock stock.row.path) (stocks_of old))) → taken ≡ filter (overlaps_stock stock.row.path) (stocks_of old) → part ≡ held_bytes taken
    → more ≡ held_of stock → IsWhole new (held - part + more)
whole_placed stock old new held part more taken whole is out one extra =
    whole_of new (held - part + more) (put_stock stock (filter (is_clear_stock stock.row.path) (stocks_of old))) is
    (ap are_apart (rows_placed stock (stocks_of old))
    ∙ put_row-apart stock.row (filter (is_clear_of stock.row.path) (rows_of (stocks_of old)))
    (ap are_apart (sym (rows_left (is_clear_of stock.row.path) (stocks_of old))) ∙ apart_left (is_clear_stock stock.row.path) (stocks_of old) whole.apart)
    (clear_any stock.row.path (rows_of (stocks_of old))))
    (held_placed stock (stocks_of old) taken held part more whole.counted out one extra)

-- how the list of a book is left
pub list_left : (q : Stock → Bool) (old new : List Place) (was now : List Stock) → stocks_of old ≡ was → stocks_of new ≡ now → new ≡ map place_of (filter q (stocks_of old)) → now ≡ filter q was
list_left q old new was now seen shown is = sym shown ∙ seen_as new (filter q (stocks_of old)) is ∙ ap (filter q) seen

-- the one stock at a path is all that is there
pub one_there : (path : List (List ℕ)) (stocks : List Stock) → are_apart (rows_of stocks) ≡ true → filter (stock_at path) stocks ≡ listed (find (stock_at path) stocks)
one_there path [] apart = refl
one_there path (s ∷ ss) apart =
    let parts = and_parts (list_all (is_apart s.row) (rows_of ss)) (are_apart (rows_of ss)) apart in by (stock_at path s) refl parts.0 (one_there path ss parts.1)
  where
    by : (b : Bool) → stock_at path s ≡ b → list_all (is_apart s.row) (rows_of ss) ≡ true → filter (stock_at path) ss ≡ listed (find (stock_at path) ss)
        → cond b (s ∷ filter (stock_at path) ss) (filter (stock_at path) ss) ≡ listed (cond b (Some s) (find (stock_at path) ss))
    by true is apart e = ap (λ (ts : List Stock). s ∷ ts) (e ∙ ap listed (rest_away path s ss is apart))
    by false is apart e = e

-- where one stock is taken
pub held_single : (s : Stock) → held_of s ≡ held_bytes (s ∷ [])
held_single s = plus (held_of s) (held_bytes (s ∷ [])) (sum_by-cons held_of s [])
  where
    plus : (n m : ℕ) → m ≡ n + 0 → n ≡ m
    plus n m is = omega (arith, is)

pub one_taken : (path : List (List ℕ)) (stocks : List Stock) (s : Stock) → are_apart (rows_of stocks) ≡ true → Some s ≡ find (stock_at path) stocks → s ∷ [] ≡ filter (stock_at path) stocks
one_taken path stocks s apart found = ap listed found ∙ sym (one_there path stocks apart)

-- where none is taken
pub whole_same : (path : List (List ℕ)) (old new : List Place) (held : ℕ) → IsWhole old held → new ≡ map place_of (filter (is_stock_elsewhere path) (stocks_of old))
    → None ≡ find (stock_at path) (stocks_of old) → IsWhole new held
whole_same path old new held whole is none =
    whole_of new held (filter (is_stock_elsewhere path) (stocks_of old)) is (apart_left (is_stock_elsewhere path) (stocks_of old) whole.apart)
    (whole.counted ∙ ap held_bytes (sym (filter_all (is_stock_elsewhere path) (stocks_of old) (away_all path (stocks_of old) (ap is_some (sym none))))))

-- ---- a new stock at its own path

pub own_place : (stock : Stock) (path : List (List ℕ)) (new : List Place) (stocks : List Stock) → path ≡ stock.row.path → new ≡ map place_of (put_stock stock (filter (is_clear_stock path) stocks))
    → new ≡ map place_of (put_stock stock (filter (is_clear_stock stock.row.path) stocks))
own_place stock path new stocks at is = is ∙ ap (λ p. map place_of (put_stock stock (filter (is_clear_stock p) stocks))) at

pub own_taken : (stock : Stock) (path : List (List ℕ)) (stocks taken shown : List Stock) → path ≡ stock.row.path → shown ≡ taken → taken ≡ filter (overlaps_stock path) stocks
    → shown ≡ filter (overlaps_stock stock.row.path) stocks
own_taken stock path stocks taken shown at same is = same ∙ is ∙ ap (λ p. filter (overlaps_stock p) stocks) at

-- the list of a book among which a stock was put
pub list_placed : (stock : Stock) (old new : List Place) (was now : List Stock) → stocks_of old ≡ was → stocks_of new ≡ now
    → new ≡ map place_of (put_stock stock (filter (is_clear_stock stock.row.path) (stocks_of old))) → now ≡ put_stock stock (filter (is_clear_stock stock.row.path) was)
list_placed stock old new was now seen shown is =
    sym shown ∙ seen_as new (put_stock stock (filter (is_clear_stock stock.row.path) (stocks_of old))) is
    ∙ ap (λ (ss : List Stock). put_stock stock (filter (is_clear_stock stock.row.path) ss)) seen

-- ---- laws

pub held_sides : (path : List (List ℕ)) (stocks : List Stock) → held_bytes (filter (overlaps_stock path) stocks) + held_bytes (filter (is_clear_stock path) stocks) ≡ held_bytes stocks
held_sides path = held_parted (overlaps_stock path) (is_clear_stock path) (λ s. refl)

pub held_most : (path : List (List ℕ)) (new : Stock) (stocks : List Stock) → held_bytes (put_stock new (filter (is_clear_stock path) stocks)) ≤ held_bytes stocks + held_of new
held_most path new stocks =
    within (held_bytes (put_stock new (filter (is_clear_stock path) stocks))) (held_of new) (held_bytes (filter (is_clear_stock path) stocks)) (held_bytes (filter (overlaps_stock path) stocks))
    (held_bytes stocks) (held_put new (filter (is_clear_stock path) stocks)) (held_sides path stocks)
  where
    within : (sum one rest gone all : ℕ) → sum ≡ one + rest → gone + rest ≡ all → sum ≤ all + one
    within sum one rest gone all is parts = omega (arith, is, parts)

-- another method is one of the row at the path alone
pub held_supplied : (path : List (List ℕ)) (way : Method) (stocks : List Stock) (found : Stock) → are_apart (rows_of stocks) ≡ true → find (stock_at path) stocks ≡ Some found
    → held_bytes (map (supplied_stock path way) stocks) + held_of found ≡ held_bytes stocks + held_of (with_method way found)
held_supplied path way stocks found apart there = held_changed path (with_method way) stocks found apart (sym there)

-- a method that holds nothing adds nothing
pub held_unheld : (path : List (List ℕ)) (way : Method) (stocks : List Stock) → is_held_method way ≡ false → held_bytes (map (supplied_stock path way) stocks) ≤ held_bytes stocks
held_unheld path way [] none = omega arith
held_unheld path way (s ∷ ss) none =
    both (held_of (supplied_stock path way s)) (held_of s) (held_bytes (map (supplied_stock path way) ss)) (held_bytes ss) (held_bytes (map (supplied_stock path way) (s ∷ ss))) (held_bytes (s ∷ ss))
    (by (stock_at path s)) (held_unheld path way ss none) (sum_by-cons held_of (supplied_stock path way s) (map (supplied_stock path way) ss)) (sum_by-cons held_of s ss)
  where
    both : (a b m n sum all : ℕ) → a ≤ b → m ≤ n → sum ≡ a + m → all ≡ b + n → sum ≤ all
    both a b m n sum all first rest is are = omega (arith, first, rest, is, are)

    low : (a b : ℕ) → a ≡ 0 → a ≤ b
    low a b is = omega (arith, is)

    by : (b : Bool) → held_of (cond b (with_method way s) s) ≤ held_of s
    by true = low (held_of (with_method way s)) (held_of s) (ap (λ b. cond b (bytes_of s.row.tree) 0) none)
    by false = omega arith
