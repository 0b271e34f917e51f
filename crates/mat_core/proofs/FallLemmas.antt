-- Rows that a new one takes the place of: how they are gone through, how many paths have a row or a kept row then, and what remains of them on the disk.
use Rattle.std.proofs.Common.{◌≡◌, ◌≤◌, ◌+◌, ℕ, Bool, true, false, not, ◌&&◌, ◌||◌, cond, List, [], ◌∷◌, map, filter, find, length, count_by, Contains, Option, Some, None, refl, ◌∙◌, sym, ap, ap₂, subst, arith}
use Rattle.std.specs.List.{list_all, list_any}
use Rattle.std.specs.Option.{is_none}
use Rattle.std.proofs.lemmas.Bool.{and_parts, both_ways, not-true}
use Rattle.std.proofs.lemmas.List.{length-map}
use Rattle.std.proofs.lemmas.List.Sums.{count_by-le-length, length-filter, sum_by-cons}
use Rattle.std.proofs.lemmas.List.Filters.{length-filter_both}
use Rattle.mat_path.proofs.Elements.{contains_first, contains_map, contains_more, filtered_contains, none_passes}
use Rattle.mat_path.proofs.Overlaps.{overlap-refl}
use Rattle.mat_path.proofs.SameNames.{same_names-eq}
use Rattle.mat_path.specs.Names.{overlap, same_names}
use Rattle.mat_tree.specs.Trees.{ascends_by, is_after_by}
use Rattle.mat_model.specs.declared.book.Row.{Row}
use Rattle.mat_model.specs.Kept.{KeptRow}
use Rattle.mat_model.specs.Room.{is_alone}
use Rattle.mat_model.specs.Rows.{are_apart, comes_before, is_apart, is_at_path, is_clear_of, overlaps_row, put_row}
use Rattle.mat_model.specs.WorkState.{Debris, Job, WorkState, add_debris, is_dirty, is_lent, leaves_debris, put_debris}
use Rattle.model_laws.specs.KeptRules.{KeptAscend, path_of_kept}
use Rattle.model_laws.proofs.Apart.{apart_parts}
use Rattle.model_laws.proofs.BooksLists.{any_contains}
use Rattle.model_laws.proofs.Elements.{contains_all}
use Rattle.debris_list.proofs.Order.{before_asym, before_irrefl, before_trans}
use Rattle.debris_list.specs.Pieces.{overlaps_debris}
use Rattle.kept_book.specs.declared.mark.Mark.{Mark}
use Rattle.kept_book.specs.Marks.{is_mark_at, mark_of}
use Rattle.row_book.proofs.HeldLemmas.{held_sides}
use Rattle.row_book.specs.declared.stock.Stock.{Stock}
use Rattle.row_book.specs.Stocks.{held_bytes, held_of, is_next_overlap, is_past, overlaps_stock, row_of, rows_of}
use Rattle.mat_core.specs.Falling.{MayAllRemain, MayRemain, fall_of, is_remaining, is_unkept, is_unkept_at, one_if, with_remain, with_remains}
use Rattle.mat_core.specs.declared.falling.Fall.{Fall}

-- ---- lists

pub filter_alike : {A : Type 0} (p q : A → Bool) (xs : List A) → ((x : A) → Contains xs x → p x ≡ q x) → filter p xs ≡ filter q xs
filter_alike p q [] same = refl
filter_alike {A} p q (x ∷ xs) same =
    ap (λ b. cond b (x ∷ filter p xs) (filter p xs)) (same x (contains_first x xs))
    ∙ ap (λ ys. cond (q x) (x ∷ ys) ys) (filter_alike p q xs (λ y among. same y (contains_more x xs y among)))

pub none_left : {A : Type 0} (p : A → Bool) (xs : List A) → find p xs ≡ None → filter p xs ≡ []
none_left p [] is = refl
none_left {A} p (x ∷ xs) is =
    elim (p x) as (λ b. cond b (Some x) (find p xs) ≡ None → cond b (x ∷ filter p xs) (filter p xs) ≡ []) [
      | true ↦ λ it. absurd cc
      | false ↦ λ it. none_left p xs it
    ] is

pub any_parted : {A : Type 0} (p q t : A → Bool) → ((x : A) → q x ≡ not (p x)) → (xs : List A) →
    list_any t xs ≡ (list_any t (filter p xs) || list_any t (filter q xs))
any_parted p q t other [] = refl
any_parted {A} p q t other (x ∷ xs) =
    ap (λ b. t x || b) (any_parted p q t other xs)
    ∙ by (p x)
    ∙ ap (λ b. list_any t (cond (p x) (x ∷ filter p xs) (filter p xs)) || list_any t (cond b (x ∷ filter q xs) (filter q xs))) (sym (other x))
  where
    swap : (a b c : Bool) → (a || (b || c)) ≡ (b || (a || c))
    swap true true c = refl
    swap true false c = refl
    swap false b c = refl

    join : (a b c : Bool) → (a || (b || c)) ≡ ((a || b) || c)
    join true b c = refl
    join false b c = refl

    by : (here : Bool) → (t x || (list_any t (filter p xs) || list_any t (filter q xs)))
        ≡ (list_any t (cond here (x ∷ filter p xs) (filter p xs)) || list_any t (cond (not here) (x ∷ filter q xs) (filter q xs)))
    by true = join (t x) (list_any t (filter p xs)) (list_any t (filter q xs))
    by false = swap (t x) (list_any t (filter p xs)) (list_any t (filter q xs))

pub any_put : (t : Row → Bool) (new : Row) (rows : List Row) → list_any t (put_row new rows) ≡ (t new || list_any t rows)
any_put t new [] = refl
any_put t new (row ∷ rows) =
    elim (comes_before new.path row.path) as
    (λ b. list_any t (cond b (new ∷ row ∷ rows) (row ∷ put_row new rows)) ≡ (t new || (t row || list_any t rows))) [
      | true ↦ refl
      | false ↦ ap (λ b. t row || b) (any_put t new rows) ∙ swap (t row) (t new) (list_any t rows)
    ]
  where
    swap : (a b c : Bool) → (a || (b || c)) ≡ (b || (a || c))
    swap true true c = refl
    swap true false c = refl
    swap false b c = refl

pub length_put : (new : Row) (rows : List Row) → length (put_row new rows) ≡ 1 + length rows
length_put new [] = refl
length_put new (row ∷ rows) =
    elim (comes_before new.path row.path) as (λ b. length (cond b (new ∷ row ∷ rows) (row ∷ put_row new rows)) ≡ 1 + length (row ∷ rows))
    [ true ↦ omega arith | false ↦ let more = length_put new rows in omega (arith, more) ]

-- ---- a walk

later_stock : (first : Stock) (stocks : List Stock) (other : Stock) → list_all (is_apart first.row) (rows_of stocks) ≡ true → Contains stocks other →
    (comes_before first.row.path other.row.path ≡ true) × (overlap first.row.path other.row.path ≡ false)
later_stock first stocks other all among =
    apart_parts first.row other.row (contains_all (is_apart first.row) (rows_of stocks) other.row all (contains_map row_of stocks other among))

past_more : (last : Option (List (List ℕ))) (first other : Stock) → is_past last first ≡ true → comes_before first.row.path other.row.path ≡ true →
    is_past last other ≡ true
past_more None first other is before = refl
past_more (Some path) first other is before = before_trans path first.row.path other.row.path is before

-- of stocks that are apart the first that overlaps a path behind another one comes first, and then those behind it
pub next_overlap : (path : List (List ℕ)) (last : Option (List (List ℕ))) (stocks : List Stock) (found : Stock) → are_apart (rows_of stocks) ≡ true →
    find (is_next_overlap path last) stocks ≡ Some found →
    filter (is_next_overlap path last) stocks ≡ found ∷ filter (is_next_overlap path (Some found.row.path)) stocks
next_overlap path last [] found apart is = absurd cc
next_overlap path last (first ∷ stocks) found apart is =
    let parts = and_parts (list_all (is_apart first.row) (rows_of stocks)) (are_apart (rows_of stocks)) apart in
    elim (is_next_overlap path last first) as
    (λ b. is_next_overlap path last first ≡ b → cond b (Some first) (find (is_next_overlap path last) stocks) ≡ Some found →
    cond b (first ∷ filter (is_next_overlap path last) stocks) (filter (is_next_overlap path last) stocks)
    ≡ found ∷ filter (is_next_overlap path (Some found.row.path)) (first ∷ stocks)) [
      | true ↦ λ here it.
          let one : first ≡ found = cc in
          subst (λ (s : Stock). first ∷ filter (is_next_overlap path last) stocks ≡ s ∷ filter (is_next_overlap path (Some s.row.path)) (first ∷ stocks)) one
          (ap (λ (ss : List Stock). first ∷ ss)
          (filter_alike (is_next_overlap path last) (is_next_overlap path (Some first.row.path)) stocks (behind parts.0 here)
          ∙ sym (ap (λ b. cond b (first ∷ filter (is_next_overlap path (Some first.row.path)) stocks) (filter (is_next_overlap path (Some first.row.path)) stocks))
          (ap (λ b. overlaps_stock path first && b) (before_irrefl first.row.path) ∙ never (overlaps_stock path first)))))
      | false ↦ λ off it.
          let among = found_in (is_next_overlap path last) stocks found it in
          next_overlap path last stocks found parts.1 it
          ∙ ap (λ (ss : List Stock). found ∷ ss)
          (sym (ap (λ b. cond b (first ∷ filter (is_next_overlap path (Some found.row.path)) stocks) (filter (is_next_overlap path (Some found.row.path)) stocks))
          (ap (λ b. overlaps_stock path first && b) (before_asym first.row.path found.row.path (later_stock first stocks found parts.0 among).0)
          ∙ never (overlaps_stock path first))))
    ] refl is
  where
    never : (b : Bool) → (b && false) ≡ false
    never true = refl
    never false = refl

    found_in : (p : Stock → Bool) (ss : List Stock) (s : Stock) → find p ss ≡ Some s → Contains ss s
    found_in p [] s it = absurd cc
    found_in p (t ∷ ss) s it =
        elim (p t) as (λ b. cond b (Some t) (find p ss) ≡ Some s → Contains (t ∷ ss) s) [
          | true ↦ λ so. let one : t ≡ s = cc in subst (λ (u : Stock). Contains (t ∷ ss) u) one (contains_first t ss)
          | false ↦ λ so. contains_more t ss s (found_in p ss s so)
        ] it

    behind : list_all (is_apart first.row) (rows_of stocks) ≡ true → is_next_overlap path last first ≡ true → (other : Stock) → Contains stocks other →
        is_next_overlap path last other ≡ is_next_overlap path (Some first.row.path) other
    behind all here other among =
        let before = (later_stock first stocks other all among).0 in
        let past = (and_parts (overlaps_stock path first) (is_past last first) here).1 in
        ap (λ b. overlaps_stock path other && b) (past_more last first other past before ∙ sym before)

-- at the start of a walk all that overlap a path are left
pub all_overlap : (path : List (List ℕ)) (stocks : List Stock) → filter (is_next_overlap path None) stocks ≡ filter (overlaps_stock path) stocks
all_overlap path stocks = filter_alike (is_next_overlap path None) (overlaps_stock path) stocks (λ s among. always (overlaps_stock path s))
  where
    always : (b : Bool) → (b && true) ≡ b
    always true = refl
    always false = refl

-- what is left of a walk is the row that is found, and what is left behind it
pub record Walks (marks : List Mark) (path : List (List ℕ)) (stocks : List Stock) (last next : Option (List (List ℕ))) (found : Stock) : Type 0 where
  pub rows : length (filter (is_next_overlap path last) stocks) ≡ 1 + length (filter (is_next_overlap path next) stocks)
  pub unkept : count_by (is_unkept marks) (filter (is_next_overlap path last) stocks)
      ≡ one_if (is_unkept marks found) + count_by (is_unkept marks) (filter (is_next_overlap path next) stocks)
  pub held : held_bytes (filter (is_next_overlap path last) stocks) ≡ held_of found + held_bytes (filter (is_next_overlap path next) stocks)

pub walks : (marks : List Mark) (path next : List (List ℕ)) (stocks : List Stock) (last : Option (List (List ℕ))) (found : Stock) →
    are_apart (rows_of stocks) ≡ true → Some found ≡ find (is_next_overlap path last) stocks → next ≡ found.row.path →
    Walks marks path stocks last (Some next) found
walks marks path next stocks last found apart is at =
    let split : filter (is_next_overlap path last) stocks ≡ found ∷ filter (is_next_overlap path (Some next)) stocks =
    next_overlap path last stocks found apart (sym is)
    ∙ ap (λ (p : List (List ℕ)). found ∷ filter (is_next_overlap path (Some p)) stocks) (sym at) in
    record {
      rows = ap length split ∙ longer_one found (filter (is_next_overlap path (Some next)) stocks);
      unkept = ap (count_by (is_unkept marks)) split
          ∙ sum_by-cons (λ (s : Stock). cond (is_unkept marks s) 1 0) found (filter (is_next_overlap path (Some next)) stocks);
      held = ap held_bytes split ∙ sum_by-cons held_of found (filter (is_next_overlap path (Some next)) stocks);
    }
  where
    longer_one : (s : Stock) (ss : List Stock) → length (s ∷ ss) ≡ 1 + length ss
    longer_one s ss = omega arith

-- the rows that overlap a path are no more than all, and no more bytes are held for them
pub overlap_most : (marks : List Mark) (path : List (List ℕ)) (stocks : List Stock) →
    (length (filter (overlaps_stock path) stocks) ≤ length stocks)
    × (count_by (is_unkept marks) (filter (overlaps_stock path) stocks) ≤ length stocks)
    × (held_bytes (filter (overlaps_stock path) stocks) ≤ held_bytes stocks)
overlap_most marks path stocks =
    let most = count_by-le-length (overlaps_stock path) stocks in
    let some = length-filter (overlaps_stock path) stocks in
    let count = count_by-le-length (is_unkept marks) (filter (overlaps_stock path) stocks) in
    let sides = held_sides path stocks in
    (omega (arith, most, some), omega (arith, most, some, count), omega (arith, sides))

-- what a walk comes to
pub walked : (marks : List Mark) (path : List (List ℕ)) (stocks : List Stock) (last : Option (List (List ℕ))) (rows unkept held : ℕ) (new : Bool) →
    None ≡ find (is_next_overlap path last) stocks →
    rows + length (filter (is_next_overlap path last) stocks) ≡ length (filter (overlaps_stock path) stocks) →
    unkept + count_by (is_unkept marks) (filter (is_next_overlap path last) stocks) ≡ count_by (is_unkept marks) (filter (overlaps_stock path) stocks) →
    held + held_bytes (filter (is_next_overlap path last) stocks) ≡ held_bytes (filter (overlaps_stock path) stocks) →
    new ≡ is_unkept_at marks path →
    record { rows = rows; unkept = unkept; held = held; new = new } ≡ fall_of marks path (filter (overlaps_stock path) stocks)
walked marks path stocks last rows unkept held new none rows_is unkept_is held_is new_is =
    let left = none_left (is_next_overlap path last) stocks (sym none) in
    let a : length (filter (is_next_overlap path last) stocks) ≡ 0 = ap length left in
    let b : count_by (is_unkept marks) (filter (is_next_overlap path last) stocks) ≡ 0 = ap (count_by (is_unkept marks)) left in
    let c : held_bytes (filter (is_next_overlap path last) stocks) ≡ 0 = ap held_bytes left in
    let x : rows ≡ length (filter (overlaps_stock path) stocks) = omega (arith, rows_is, a) in
    let y : unkept ≡ count_by (is_unkept marks) (filter (overlaps_stock path) stocks) = omega (arith, unkept_is, b) in
    let z : held ≡ held_bytes (filter (overlaps_stock path) stocks) = omega (arith, held_is, c) in
    ap (λ n. the n unkept held new) x ∙ ap (λ n. the (length (filter (overlaps_stock path) stocks)) n held new) y
    ∙ ap (λ n. the (length (filter (overlaps_stock path) stocks)) (count_by (is_unkept marks) (filter (overlaps_stock path) stocks)) n new) z
    ∙ ap (λ n. the (length (filter (overlaps_stock path) stocks)) (count_by (is_unkept marks) (filter (overlaps_stock path) stocks))
    (held_bytes (filter (overlaps_stock path) stocks)) n) new_is
  where
    the : ℕ → ℕ → ℕ → Bool → Fall
    the k l m n = record { rows = k; unkept = l; held = m; new = n }

-- ---- paths that have a row or a kept row

-- a kept row at none of some paths
pub unkept_more : (marks : List Mark) (mark : Mark) (path : List (List ℕ)) →
    is_unkept_at (mark ∷ marks) path ≡ (not (same_names path mark.path) && is_unkept_at marks path)
unkept_more marks mark path =
    elim (same_names path mark.path) as (λ b. is_none (cond b (Some mark) (find (is_mark_at path) marks)) ≡ (not b && is_unkept_at marks path))
    [ true ↦ refl | false ↦ refl ]

pub no_mark : (kept : KeptRow) (more : List KeptRow) → list_all (is_after_by path_of_kept kept.path) more ≡ true →
    is_unkept_at (map mark_of more) kept.path ≡ true
no_mark kept [] all = refl
no_mark kept (next ∷ more) all =
    let parts = and_parts (is_after_by path_of_kept kept.path next) (list_all (is_after_by path_of_kept kept.path) more) all in
    unkept_more (map mark_of more) (mark_of next) kept.path
    ∙ ap₂ (λ (a b : Bool). not a && b) (apart_names kept.path next.path parts.0) (no_mark kept more parts.1)
  where
    apart_names : (p q : List (List ℕ)) → comes_before p q ≡ true → same_names p q ≡ false
    apart_names p q before =
        elim (same_names p q) as (λ b. same_names p q ≡ b → b ≡ false) [
          | true ↦ λ is.
              absurd (both_ways (comes_before p p) (before_irrefl p)
              (subst (λ (r : List (List ℕ)). comes_before p r ≡ true) (sym (same_names-eq p q is)) before))
          | false ↦ λ is. refl
        ] refl

-- of stocks that are apart as many more have a kept row as the new mark is at the path of one
pub count_more : (marks : List Mark) (mark : Mark) (stocks : List Stock) → are_apart (rows_of stocks) ≡ true → is_unkept_at marks mark.path ≡ true →
    count_by (is_unkept (mark ∷ marks)) stocks + one_if (list_any (is_at_path mark.path) (rows_of stocks)) ≡ count_by (is_unkept marks) stocks
count_more marks mark [] apart free = refl
count_more marks mark (first ∷ stocks) apart free =
    let parts = and_parts (list_all (is_apart first.row) (rows_of stocks)) (are_apart (rows_of stocks)) apart in
    let more = count_more marks mark stocks parts.1 free in
    let left : count_by (is_unkept (mark ∷ marks)) (first ∷ stocks) ≡ one_if (is_unkept (mark ∷ marks) first) + count_by (is_unkept (mark ∷ marks)) stocks =
    sum_by-cons (λ (s : Stock). cond (is_unkept (mark ∷ marks) s) 1 0) first stocks in
    let right : count_by (is_unkept marks) (first ∷ stocks) ≡ one_if (is_unkept marks first) + count_by (is_unkept marks) stocks =
    sum_by-cons (λ (s : Stock). cond (is_unkept marks s) 1 0) first stocks in
    by (same_names first.row.path mark.path) refl parts.0 more left right
  where
    by : (b : Bool) → same_names first.row.path mark.path ≡ b → list_all (is_apart first.row) (rows_of stocks) ≡ true →
        count_by (is_unkept (mark ∷ marks)) stocks + one_if (list_any (is_at_path mark.path) (rows_of stocks)) ≡ count_by (is_unkept marks) stocks →
        count_by (is_unkept (mark ∷ marks)) (first ∷ stocks) ≡ one_if (is_unkept (mark ∷ marks) first) + count_by (is_unkept (mark ∷ marks)) stocks →
        count_by (is_unkept marks) (first ∷ stocks) ≡ one_if (is_unkept marks first) + count_by (is_unkept marks) stocks →
        count_by (is_unkept (mark ∷ marks)) (first ∷ stocks) + one_if (is_at_path mark.path first.row || list_any (is_at_path mark.path) (rows_of stocks))
        ≡ count_by (is_unkept marks) (first ∷ stocks)
    by true is all more left right =
        let here : is_unkept (mark ∷ marks) first ≡ false =
        unkept_more marks mark first.row.path ∙ ap (λ b. not b && is_unkept_at marks first.row.path) is in
        let was : is_unkept marks first ≡ true =
        subst (λ (p : List (List ℕ)). is_unkept_at marks p ≡ true) (sym (same_names-eq first.row.path mark.path is)) free in
        let none : list_any (is_at_path mark.path) (rows_of stocks) ≡ false =
        none_passes (is_at_path mark.path) (rows_of stocks)
        (λ row among.
        elim (is_at_path mark.path row) as (λ b. is_at_path mark.path row ≡ b → b ≡ false) [
          | true ↦ λ at.
              let clear = (apart_parts first.row row (contains_all (is_apart first.row) (rows_of stocks) row all among)).1 in
              absurd (both_ways (overlap first.row.path row.path) clear
              (subst (λ (p : List (List ℕ)). overlap first.row.path p ≡ true)
              (same_names-eq first.row.path mark.path is ∙ sym (same_names-eq row.path mark.path at)) (overlap-refl first.row.path)))
          | false ↦ λ at. refl
        ] refl) in
        let a : one_if (is_unkept (mark ∷ marks) first) ≡ 0 = ap one_if here in
        let b : one_if (is_unkept marks first) ≡ 1 = ap one_if was in
        let c : one_if (list_any (is_at_path mark.path) (rows_of stocks)) ≡ 0 = ap one_if none in
        let d : one_if (is_at_path mark.path first.row || list_any (is_at_path mark.path) (rows_of stocks)) ≡ 1 =
        ap (λ e. one_if (e || list_any (is_at_path mark.path) (rows_of stocks))) is in
        omega (arith, more, left, right, a, b, c, d)
    by false is all more left right =
        let same : is_unkept (mark ∷ marks) first ≡ is_unkept marks first =
        unkept_more marks mark first.row.path ∙ ap (λ b. not b && is_unkept_at marks first.row.path) is in
        let a : one_if (is_unkept (mark ∷ marks) first) ≡ one_if (is_unkept marks first) = ap one_if same in
        let d : one_if (is_at_path mark.path first.row || list_any (is_at_path mark.path) (rows_of stocks))
        ≡ one_if (list_any (is_at_path mark.path) (rows_of stocks)) =
        ap (λ e. one_if (e || list_any (is_at_path mark.path) (rows_of stocks))) is in
        omega (arith, more, left, right, a, d)

-- a row that is put in the place of those that overlap a path: a kept row is alone then as it was, but for its own path and theirs
alone_row : (path : List (List ℕ)) (new : Row) (rows : List Row) (kept : KeptRow) → new.path ≡ path →
    one_if (is_alone (put_row new (filter (is_clear_of path) rows)) kept) + one_if (same_names path kept.path)
    ≡ one_if (is_alone rows kept) + one_if (list_any (is_at_path kept.path) (filter (overlaps_row path) rows))
alone_row path new rows kept at =
    let put : list_any here (put_row new (filter (is_clear_of path) rows)) ≡ (same_names path kept.path || list_any here (filter (is_clear_of path) rows)) =
    any_put here new (filter (is_clear_of path) rows)
    ∙ ap (λ (p : List (List ℕ)). same_names p kept.path || list_any here (filter (is_clear_of path) rows)) at in
    let parted : list_any here rows ≡ (list_any here (filter (overlaps_row path) rows) || list_any here (filter (is_clear_of path) rows)) =
    any_parted (overlaps_row path) (is_clear_of path) here (λ row. refl) rows in
    ap (λ b. one_if (not b) + one_if (same_names path kept.path)) put
    ∙ by (same_names path kept.path) (list_any here (filter (overlaps_row path) rows)) (list_any here (filter (is_clear_of path) rows)) own theirs
    ∙ sym (ap (λ b. one_if (not b) + one_if (list_any here (filter (overlaps_row path) rows))) parted)
  where
    here : Row → Bool
    here row = is_at_path kept.path row

    passed : (test : Row → Bool) (some : List Row) (row : Row) → Contains (filter test some) row → test row ≡ true
    passed test some row among = (filtered_contains test some row among).1

    -- a row that is clear of a path isn't at a path that overlaps it
    apart_from : overlap kept.path path ≡ true → list_any here (filter (is_clear_of path) rows) ≡ false
    apart_from meet =
        none_passes here (filter (is_clear_of path) rows)
        (λ row among.
        elim (here row) as (λ b. here row ≡ b → b ≡ false) [
          | true ↦ λ is.
              absurd (both_ways (overlaps_row path row) (not-true (overlaps_row path row) (passed (is_clear_of path) rows row among))
              (subst (λ (p : List (List ℕ)). overlap p path ≡ true) (sym (same_names-eq row.path kept.path is)) meet))
          | false ↦ λ is. refl
        ] refl)

    own : same_names path kept.path ≡ true → list_any here (filter (is_clear_of path) rows) ≡ false
    own is = apart_from (subst (λ (p : List (List ℕ)). overlap p path ≡ true) (same_names-eq path kept.path is) (overlap-refl path))

    theirs : list_any here (filter (overlaps_row path) rows) ≡ true → list_any here (filter (is_clear_of path) rows) ≡ false
    theirs is =
        let (row, among, at_it) = any_contains here (filter (overlaps_row path) rows) is in
        apart_from (subst (λ (p : List (List ℕ)). overlap p path ≡ true) (same_names-eq row.path kept.path at_it) (passed (overlaps_row path) rows row among))

    by : (e c y : Bool) → (e ≡ true → y ≡ false) → (c ≡ true → y ≡ false) → one_if (not (e || y)) + one_if e ≡ one_if (not (c || y)) + one_if c
    by true true y first second = refl
    by true false true first second = absurd (both_ways true (first refl) refl)
    by true false false first second = refl
    by false true true first second = absurd (both_ways true (second refl) refl)
    by false true false first second = refl
    by false false y first second = refl

pub longer : {A : Type 0} (test : A → Bool) (x : A) (xs : List A) → length (filter test (x ∷ xs)) ≡ one_if (test x) + length (filter test xs)
longer {A} test x xs =
    elim (test x) as (λ b. length (cond b (x ∷ filter test xs) (filter test xs)) ≡ one_if b + length (filter test xs))
    [ true ↦ omega arith | false ↦ omega arith ]

pub unmarked_all : (stocks : List Stock) → count_by (is_unkept []) stocks ≡ length stocks
unmarked_all [] = refl
unmarked_all (stock ∷ stocks) =
    let more = unmarked_all stocks in
    let head : count_by (is_unkept []) (stock ∷ stocks) ≡ 1 + count_by (is_unkept []) stocks =
    sum_by-cons (λ (other : Stock). cond (is_unkept [] other) 1 0) stock stocks in
    omega (arith, more, head)

own_mark : (path : List (List ℕ)) (kept : KeptRow) (more : List KeptRow) → is_unkept_at (map mark_of more) kept.path ≡ true →
    one_if (is_unkept_at (map mark_of (kept ∷ more)) path) + one_if (same_names path kept.path) ≡ one_if (is_unkept_at (map mark_of more) path)
own_mark path kept more free =
    ap (λ b. one_if b + one_if (same_names path kept.path)) (unkept_more (map mark_of more) (mark_of kept) path) ∙ by (same_names path kept.path) refl
  where
    plus_none : (n : ℕ) → n + 0 ≡ n
    plus_none n = omega arith

    by : (b : Bool) → same_names path kept.path ≡ b →
        one_if (not b && is_unkept_at (map mark_of more) path) + one_if b ≡ one_if (is_unkept_at (map mark_of more) path)
    by true is = sym (ap one_if (subst (λ (p : List (List ℕ)). is_unkept_at (map mark_of more) p ≡ true) (sym (same_names-eq path kept.path is)) free))
    by false is = plus_none (one_if (is_unkept_at (map mark_of more) path))

-- as many kept rows more are alone as rows that are gone had one, but for the one at a path
alone_counted : (path : List (List ℕ)) (rows left gone : List Row) (stocks : List Stock) → are_apart (rows_of stocks) ≡ true → rows_of stocks ≡ gone →
    ((kept : KeptRow) → one_if (is_alone left kept) + one_if (same_names path kept.path) ≡ one_if (is_alone rows kept) + one_if (list_any (is_at_path kept.path) gone)) →
    (some : List KeptRow) → KeptAscend some →
    length (filter (is_alone left) some) + count_by (is_unkept (map mark_of some)) stocks + 1
    ≡ length (filter (is_alone rows) some) + length stocks + one_if (is_unkept_at (map mark_of some) path)
alone_counted path rows left gone stocks apart same each [] up = let all = unmarked_all stocks in omega (arith, all)
alone_counted path rows left gone stocks apart same each (kept ∷ some) up =
    let parts = and_parts (list_all (is_after_by path_of_kept kept.path) some) (ascends_by path_of_kept some) up in
    let more = alone_counted path rows left gone stocks apart same each some parts.1 in
    let marks : count_by (is_unkept (map mark_of (kept ∷ some))) stocks + one_if (list_any (is_at_path kept.path) (rows_of stocks))
    ≡ count_by (is_unkept (map mark_of some)) stocks =
    count_more (map mark_of some) (mark_of kept) stocks apart (no_mark kept some parts.0) in
    let alone = each kept in
    let there : one_if (list_any (is_at_path kept.path) (rows_of stocks)) ≡ one_if (list_any (is_at_path kept.path) gone) =
    ap (λ (rs : List Row). one_if (list_any (is_at_path kept.path) rs)) same in
    let here = own_mark path kept some (no_mark kept some parts.0) in
    omega (arith, more, marks, alone, there, here, longer (is_alone left) kept some, longer (is_alone rows) kept some)

-- where a row takes the place of those that overlap its path, what is taken of the paths that have a row or a kept row is what had no kept row, and
-- its own comes to them, if there was none
pub paths_replaced : (path : List (List ℕ)) (new : Row) (stocks : List Stock) (kept : List KeptRow) → new.path ≡ path →
    are_apart (rows_of (filter (overlaps_stock path) stocks)) ≡ true → rows_of (filter (overlaps_stock path) stocks) ≡ filter (overlaps_row path) (rows_of stocks) →
    KeptAscend kept →
    (length (put_row new (filter (is_clear_of path) (rows_of stocks))) + length (filter (is_alone (put_row new (filter (is_clear_of path) (rows_of stocks)))) kept))
    + count_by (is_unkept (map mark_of kept)) (filter (overlaps_stock path) stocks)
    ≡ (length (rows_of stocks) + length (filter (is_alone (rows_of stocks)) kept)) + one_if (is_unkept_at (map mark_of kept) path)
paths_replaced path new stocks kept at apart same ascend =
    let parted = length-filter_both (overlaps_row path) (is_clear_of path) (λ row. refl) (rows_of stocks) in
    let put = length_put new (filter (is_clear_of path) (rows_of stocks)) in
    let gone : length (filter (overlaps_stock path) stocks) ≡ length (filter (overlaps_row path) (rows_of stocks)) =
    sym (length-map (filter (overlaps_stock path) stocks) row_of) ∙ ap length same in
    let counted = alone_counted path (rows_of stocks) (put_row new (filter (is_clear_of path) (rows_of stocks))) (filter (overlaps_row path) (rows_of stocks))
    (filter (overlaps_stock path) stocks) apart same (λ the_kept. alone_row path new (rows_of stocks) the_kept at) kept ascend in
    omega (arith, counted, parted, put, gone)

-- ---- debris

-- what remains of some rows is what the model adds for them
pub remains_added : (condemned : Bool) (jobs : List Job) (work : WorkState) (stocks : List Stock) (debris : List Debris) → jobs ≡ work.jobs →
    ((stock : Stock) → Contains stocks stock → is_dirty work.dirty stock.row.path ≡ stock.dirty) →
    with_remains condemned jobs stocks debris ≡ add_debris condemned (filter (leaves_debris work) (rows_of stocks)) debris
remains_added condemned jobs work [] debris same marks = refl
remains_added condemned jobs work (first ∷ stocks) debris same marks =
    ap (λ b. with_remains condemned jobs stocks (cond b (put_debris (record { path = first.row.path; condemned = condemned }) debris) debris)) here
    ∙ by (leaves_debris work first.row)
    (λ more. remains_added condemned jobs work stocks more same (λ stock among. marks stock (contains_more first stocks stock among)))
  where
    here : is_remaining jobs first ≡ leaves_debris work first.row
    here =
        ap₂ (λ (b : Bool) (js : List Job). (first.row.stands || b) && not (is_lent first.row.path js)) (sym (marks first (contains_first first stocks))) same

    by : (b : Bool) →
        ((more : List Debris) → with_remains condemned jobs stocks more ≡ add_debris condemned (filter (leaves_debris work) (rows_of stocks)) more) →
        with_remains condemned jobs stocks (cond b (put_debris (record { path = first.row.path; condemned = condemned }) debris) debris)
        ≡ add_debris condemned (cond b (first.row ∷ filter (leaves_debris work) (rows_of stocks)) (filter (leaves_debris work) (rows_of stocks))) debris
    by true later = later (put_debris (record { path = first.row.path; condemned = condemned }) debris)
    by false later = later debris

pub any_put_debris : (t : Debris → Bool) (new : Debris) (debris : List Debris) → list_any t (put_debris new debris) ≡ (t new || list_any t debris)
any_put_debris t new [] = refl
any_put_debris t new (first ∷ debris) =
    elim (comes_before new.path first.path) as
    (λ b. list_any t (cond b (new ∷ first ∷ debris) (first ∷ put_debris new debris)) ≡ (t new || (t first || list_any t debris))) [
      | true ↦ refl
      | false ↦ ap (λ b. t first || b) (any_put_debris t new debris) ∙ swap (t first) (t new) (list_any t debris)
    ]
  where
    swap : (a b c : Bool) → (a || (b || c)) ≡ (b || (a || c))
    swap true true c = refl
    swap true false c = refl
    swap false b c = refl

-- rows that are apart may become debris one after the other, where each may alone
pub all_remain : (condemned : Bool) (jobs : List Job) (stocks : List Stock) (debris : List Debris) → are_apart (rows_of stocks) ≡ true →
    ((stock : Stock) → Contains stocks stock → MayRemain jobs stock debris) → MayAllRemain condemned jobs stocks debris
all_remain condemned jobs [] debris apart free = tt
all_remain condemned jobs (first ∷ stocks) debris apart free =
    let parts = and_parts (list_all (is_apart first.row) (rows_of stocks)) (are_apart (rows_of stocks)) apart in (
      free first (contains_first first stocks),
      all_remain condemned jobs stocks (with_remain condemned jobs first debris) parts.1
          (λ other among.
          still other (is_remaining jobs first) (later_stock first stocks other parts.0 among).1 (free other (contains_more first stocks other among))),
    )
  where
    still : (other : Stock) (b : Bool) → overlap first.row.path other.row.path ≡ false → MayRemain jobs other debris →
        MayRemain jobs other (cond b (put_debris (record { path = first.row.path; condemned = condemned }) debris) debris)
    still other true clear may = λ remains.
        any_put_debris (overlaps_debris other.row.path) (record { path = first.row.path; condemned = condemned }) debris
        ∙ ap₂ (λ (a b : Bool). a || b) clear (may remains)
    still other false clear may = may
