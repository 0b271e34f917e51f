-- Rows stay in order through each call.
use Rattle.std.proofs.Common.{◌≡◌, ◌≤◌, ℕ, Bool, true, false, not, ◌&&◌, cond, List, [], ◌∷◌, ◌++◌, length, map, refl, sym, ap, ap₂, ◌∙◌, subst, arith}
use Rattle.std.proofs.Math.Seq.{drop-append_seam, take-append_seam}
use Rattle.std.proofs.lemmas.Bool.{and_from}
use Rattle.std.proofs.lemmas.Cmp.{nat_list_cmp_total}
use Rattle.std.proofs.lemmas.List.{length-append}
use Rattle.std.proofs.lemmas.Map.Text.{is_eq-slice_cmp}
use Rattle.std.proofs.lemmas.List.Folds.{list_all-append}
use Rattle.std.specs.Cmp.{first_so, second_so}
use Rattle.std.specs.List.{filter, insert, list_all}
use Rattle.std.specs.Ordering.{is_eq, is_lt, ordering_reverse}
use Rattle.std.specs.declared.cmp.Ordering.{Ordering}
use Rattle.std.specs.declared.cmp.Ordering.TheVariants.{Less, Equal, Greater}
use Rattle.mat_path.specs.Names.{joined, name_cmp, same_name}
use Rattle.keep_port.specs.Rows.{ascend, is_elsewhere, is_greater, is_less, put, put_all, remove_all, touch_all, touched}
use Rattle.keep_port.specs.declared.row.RawRow.{RawRow}
use Rattle.keep_port.specs.declared.row.Touch.{Touch}

lt_is : (o : Ordering) → is_lt o ≡ true → o ≡ Less
lt_is Less h = refl
lt_is Equal h = cc
lt_is Greater h = cc

less_trans : (a b c : List ℕ) → is_lt (name_cmp a b) ≡ true → is_lt (name_cmp b c) ≡ true → is_lt (name_cmp a c) ≡ true
less_trans a b c e f = ap is_lt (nat_list_cmp_total.trans a b c (lt_is (name_cmp a b) e) (lt_is (name_cmp b c) f))

-- ---- filters

all_filter : (q p : RawRow → Bool) (rows : List RawRow) → list_all q rows ≡ true → list_all q (filter p rows) ≡ true
all_filter q p [] e = refl
all_filter q p (row ∷ rows) e = by (p row) (first_so (q row) (list_all q rows) e) (all_filter q p rows (second_so (q row) (list_all q rows) e))
  where
    by : (b : Bool) → q row ≡ true → list_all q (filter p rows) ≡ true → list_all q (cond b (row ∷ filter p rows) (filter p rows)) ≡ true
    by true here rest = and_from (q row) (list_all q (filter p rows)) here rest
    by false here rest = rest

filter_all : (p : RawRow → Bool) (rows : List RawRow) → list_all p (filter p rows) ≡ true
filter_all p [] = refl
filter_all p (row ∷ rows) = by (p row) refl (filter_all p rows)
  where
    by : (b : Bool) → p row ≡ b → list_all p (filter p rows) ≡ true → list_all p (cond b (row ∷ filter p rows) (filter p rows)) ≡ true
    by true h rest = and_from (p row) (list_all p (filter p rows)) h rest
    by false h rest = rest

ascend_filter : (p : RawRow → Bool) (rows : List RawRow) → ascend rows ≡ true → ascend (filter p rows) ≡ true
ascend_filter p [] e = refl
ascend_filter p (row ∷ rows) e =
    by (p row) (all_filter (is_greater row.path) p rows (first_so (list_all (is_greater row.path) rows) (ascend rows) e))
    (ascend_filter p rows (second_so (list_all (is_greater row.path) rows) (ascend rows) e))
  where
    by : (b : Bool) → list_all (is_greater row.path) (filter p rows) ≡ true → ascend (filter p rows) ≡ true
        → ascend (cond b (row ∷ filter p rows) (filter p rows)) ≡ true
    by true here rest = and_from (list_all (is_greater row.path) (filter p rows)) (ascend (filter p rows)) here rest
    by false here rest = rest

-- ---- one row more

all_greater : (a b : List ℕ) (rows : List RawRow) → is_lt (name_cmp a b) ≡ true → list_all (is_greater b) rows ≡ true → list_all (is_greater a) rows ≡ true
all_greater a b [] less e = refl
all_greater a b (row ∷ rows) less e =
    and_from (is_greater a row) (list_all (is_greater a) rows) (less_trans a b row.path less (first_so (is_greater b row) (list_all (is_greater b) rows) e))
    (all_greater a b rows less (second_so (is_greater b row) (list_all (is_greater b) rows) e))

ascend_behind : (rows : List RawRow) (row : RawRow) (ys : List RawRow) → ascend rows ≡ true → ascend (row ∷ ys) ≡ true
    → ascend (filter (is_less row.path) rows ++ row ∷ ys) ≡ true
ascend_behind [] row ys e f = f
ascend_behind (x ∷ rows) row ys e f =
    by (is_less row.path x) refl (ascend_behind rows row ys (second_so (list_all (is_greater x.path) rows) (ascend rows) e) f)
  where
    by : (b : Bool) → is_less row.path x ≡ b → ascend (filter (is_less row.path) rows ++ row ∷ ys) ≡ true
        → ascend (cond b (x ∷ filter (is_less row.path) rows) (filter (is_less row.path) rows) ++ row ∷ ys) ≡ true
    by true h rest =
        and_from (list_all (is_greater x.path) (filter (is_less row.path) rows ++ row ∷ ys)) (ascend (filter (is_less row.path) rows ++ row ∷ ys))
        (list_all-append (is_greater x.path) (filter (is_less row.path) rows) (row ∷ ys)
        ∙ and_from (list_all (is_greater x.path) (filter (is_less row.path) rows)) (list_all (is_greater x.path) (row ∷ ys))
        (all_filter (is_greater x.path) (is_less row.path) rows (first_so (list_all (is_greater x.path) rows) (ascend rows) e))
        (and_from (is_greater x.path row) (list_all (is_greater x.path) ys) h
        (all_greater x.path row.path ys h (first_so (list_all (is_greater row.path) ys) (ascend ys) f)))) rest
    by false h rest = rest

pub ascend_put : (rows : List RawRow) (row : RawRow) → ascend rows ≡ true → ascend (put rows row) ≡ true
ascend_put rows row e =
    ascend_behind rows row (filter (is_greater row.path) rows) e
    (and_from (list_all (is_greater row.path) (filter (is_greater row.path) rows)) (ascend (filter (is_greater row.path) rows))
    (filter_all (is_greater row.path) rows) (ascend_filter (is_greater row.path) rows e))

ascend_put_all : (rows more : List RawRow) → ascend rows ≡ true → ascend (put_all rows more) ≡ true
ascend_put_all rows [] e = e
ascend_put_all rows (row ∷ more) e = ascend_put_all (put rows row) more (ascend_put rows row e)

-- ---- the place of one row more

none_less : (path : List ℕ) (rows : List RawRow) → list_all (is_greater path) rows ≡ true → filter (is_less path) rows ≡ []
none_less path [] all = refl
none_less path (row ∷ rows) all =
    let less : name_cmp path row.path ≡ Less = lt_is (name_cmp path row.path) (first_so (is_greater path row) (list_all (is_greater path) rows) all) in
    let more : is_less path row ≡ false = ap is_lt (nat_list_cmp_total.antisymm row.path path ∙ ap ordering_reverse less) in
    ap (λ (b : Bool). cond b (row ∷ filter (is_less path) rows) (filter (is_less path) rows)) more
    ∙ none_less path rows (second_so (is_greater path row) (list_all (is_greater path) rows) all)

-- ordered rows at other paths are those before a path and then those behind it
sides : (path : List ℕ) (rows : List RawRow) → ascend rows ≡ true →
    filter (is_elsewhere path) rows ≡ filter (is_less path) rows ++ filter (is_greater path) rows
sides path [] up = refl
sides path (row ∷ rows) up =
    let o : Ordering = name_cmp row.path path in
    let back : name_cmp path row.path ≡ ordering_reverse o = nat_list_cmp_total.antisymm path row.path in
    let same : same_name row.path path ≡ is_eq o = sym (is_eq-slice_cmp row.path path) in
    ap (λ (b : Bool). cond (not b) (row ∷ filter (is_elsewhere path) rows) (filter (is_elsewhere path) rows)) same
    ∙ by o refl (sides path rows (second_so (list_all (is_greater row.path) rows) (ascend rows) up))
    ∙ sym (ap (λ (p : Ordering). cond (is_lt o) (row ∷ filter (is_less path) rows) (filter (is_less path) rows)
    ++ cond (is_lt p) (row ∷ filter (is_greater path) rows) (filter (is_greater path) rows)) back)
  where
    by : (o : Ordering) → name_cmp row.path path ≡ o → filter (is_elsewhere path) rows ≡ filter (is_less path) rows ++ filter (is_greater path) rows →
        cond (not (is_eq o)) (row ∷ filter (is_elsewhere path) rows) (filter (is_elsewhere path) rows)
        ≡ cond (is_lt o) (row ∷ filter (is_less path) rows) (filter (is_less path) rows)
        ++ cond (is_lt (ordering_reverse o)) (row ∷ filter (is_greater path) rows) (filter (is_greater path) rows)
    by Less is rest = ap (λ (list : List RawRow). row ∷ list) rest
    by Equal is rest = rest
    by Greater is rest =
        let above : is_lt (name_cmp path row.path) ≡ true = ap is_lt (nat_list_cmp_total.antisymm path row.path ∙ ap ordering_reverse is) in
        let none : filter (is_less path) rows ≡ [] =
        none_less path rows (all_greater path row.path rows above (first_so (list_all (is_greater row.path) rows) (ascend rows) up)) in
        subst (λ (less : List RawRow). filter (is_elsewhere path) rows ≡ less ++ filter (is_greater path) rows →
        (row ∷ filter (is_elsewhere path) rows) ≡ less ++ row ∷ filter (is_greater path) rows) (sym none)
        (λ e. ap (λ (list : List RawRow). row ∷ list) e) rest

pub place_fits : (path : List ℕ) (rows : List RawRow) → ascend rows ≡ true → length (filter (is_less path) rows) ≤ length (filter (is_elsewhere path) rows)
place_fits path rows up =
    subst (λ (list : List RawRow). length (filter (is_less path) rows) ≤ length list) (sym (sides path rows up))
    (subst (λ (n : ℕ). length (filter (is_less path) rows) ≤ n) (sym (length-append (filter (is_less path) rows) (filter (is_greater path) rows))) (omega arith))

pub put_placed : (rows : List RawRow) (row : RawRow) → ascend rows ≡ true →
    insert (filter (is_elsewhere row.path) rows) (length (filter (is_less row.path) rows)) row ≡ put rows row
put_placed rows row up =
    ap (λ (list : List RawRow). insert list (length (filter (is_less row.path) rows)) row) (sides row.path rows up)
    ∙ ap₂ (λ (less greater : List RawRow). less ++ row ∷ greater)
    (take-append_seam (filter (is_less row.path) rows) (filter (is_greater row.path) rows))
    (drop-append_seam (filter (is_less row.path) rows) (filter (is_greater row.path) rows))

-- ---- another last use

pub same_path : (path : List ℕ) (last : ℕ) (row : RawRow) → (touched path last row).path ≡ row.path
same_path path last row = by (same_name row.path path)
  where
    by : (b : Bool) → (let r : RawRow = cond b (record { path = row.path; body = row.body; last = last }) row in r.path) ≡ row.path
    by true = refl
    by false = refl

all_touched : (a path : List ℕ) (last : ℕ) (rows : List RawRow) → list_all (is_greater a) (map (touched path last) rows) ≡ list_all (is_greater a) rows
all_touched a path last [] = refl
all_touched a path last (row ∷ rows) =
    ap₂ (λ (s t : Bool). s && t) (ap (λ (p : List ℕ). is_lt (name_cmp a p)) (same_path path last row)) (all_touched a path last rows)

ascend_touched : (path : List ℕ) (last : ℕ) (rows : List RawRow) → ascend (map (touched path last) rows) ≡ ascend rows
ascend_touched path last [] = refl
ascend_touched path last (row ∷ rows) =
    ap₂ (λ (s t : Bool). s && t)
    (ap (λ (p : List ℕ). list_all (is_greater p) (map (touched path last) rows)) (same_path path last row) ∙ all_touched row.path path last rows)
    (ascend_touched path last rows)

ascend_touch_all : (rows : List RawRow) (touches : List Touch) → ascend rows ≡ true → ascend (touch_all rows touches) ≡ true
ascend_touch_all rows [] e = e
ascend_touch_all rows (touch ∷ more) e =
    ascend_touch_all (map (touched (joined touch.path) touch.last) rows) more (ascend_touched (joined touch.path) touch.last rows ∙ e)

-- ---- both calls

pub ascend_stored : (old rows : List RawRow) (touches : List Touch) → ascend old ≡ true → ascend (touch_all (put_all old rows) touches) ≡ true
ascend_stored old rows touches e = ascend_touch_all (put_all old rows) touches (ascend_put_all old rows e)

pub ascend_removed : (old : List RawRow) (paths : List (List (List ℕ))) → ascend old ≡ true → ascend (remove_all old paths) ≡ true
ascend_removed old [] e = e
ascend_removed old (path ∷ more) e = ascend_removed (filter (is_elsewhere (joined path)) old) more (ascend_filter (is_elsewhere (joined path)) old e)
