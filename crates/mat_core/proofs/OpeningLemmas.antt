-- The books with which a core begins.
use Rattle.std.proofs.Common.{◌≡◌, ◌≤◌, ◌<◌, ◌^◌, ◌+◌, ℕ, zero, suc, Bool, true, false, not, ◌&&◌, ◌||◌, cond, List, [], ◌∷◌, ◌++◌, length, map, take, get_or, find, max, Option, Some, None, Result, Ok, Err, IfOk, is_ok, Ordering, Less, Equal, Greater, refl, sym, ap, ap₂, subst, ◌∙◌, append-nil, append_assoc, arith}
use Rattle.std.proofs.Math.Seq.{take-suc}
use Rattle.std.proofs.lemmas.Bool.{and_from, and_parts, both_ways, not-true, or_parts}
use Rattle.std.proofs.lemmas.List.{map-append}
use Rattle.std.proofs.lemmas.List.Folds.{list_all-append}
use Rattle.std.proofs.lemmas.List.Sums.{sum_by-cons, sum_by_push}
use Rattle.std.specs.List.{filter, list_all, list_any}
use Rattle.std.specs.Option.{IfSome, option_map, option_to_list}
use Rattle.std.specs.Ordering.{is_lt}
use Rattle.mat_path.specs.Covering.{covering}
use Rattle.mat_path.specs.Names.{overlap, path_cmp, same_names}
use Rattle.mat_path.proofs.CoveringLemmas.{covering-append, covering-head}
use Rattle.mat_path.proofs.Elements.{filter_all}
use Rattle.mat_path.proofs.PathLemmas.{overlap_comm, path_cmp_equal, path_cmp_total}
use Rattle.mat_path.proofs.SameNames.{same_names-refl, same_names-sym}
use Rattle.mat_tree.specs.Trees.{ascends_by, is_after_by}
use Rattle.mat_model.specs.declared.book.Row.{Row}
use Rattle.mat_model.specs.declared.opening.Opening.{Opening}
use Rattle.mat_model.specs.Openings.{is_version1, itself, kept_at_opening, latest_use, stray_debris}
use Rattle.mat_model.specs.Rows.{are_apart, comes_before, is_apart}
use Rattle.mat_model.specs.WorkState.{Debris, path_of_debris, put_debris}
use Rattle.model_laws.proofs.Apart.{apart_parts, before-trans}
use Rattle.model_laws.proofs.Elements.{contains_all}
use Rattle.row_book.specs.declared.stock.Stock.{Stock}
use Rattle.row_book.specs.Stocks.{held_bytes, held_of, is_clear_stock, put_stock}
use Rattle.row_book.proofs.ChangeLemmas.{filter_none}
use Rattle.kept_book.specs.declared.mark.Mark.{Mark}
use Rattle.kept_book.specs.Marks.{is_mark_at, is_mark_before, is_mark_behind, mark_at, mark_of, path_of_mark, put_mark, use_of}
use Rattle.debris_list.specs.Pieces.{overlaps_debris}
use Rattle.debris_list.proofs.Order.{before_asym}
use Rattle.path_trie.proofs.Values.{apart_behind}
use Rattle.mat_core.specs.Opened.{aged, aged_by, fetched, is_ahead, is_lost_first, new_mark, strays_with}

-- ---- rows

-- a row that all others are ahead of is put behind them, and takes none away
pub push_row : (row : Row) (stocks : List Stock) → list_all (is_ahead row) stocks ≡ true →
    put_stock (fetched row) (filter (is_clear_stock row.path) stocks) ≡ stocks ++ fetched row ∷ []
push_row row [] ahead = refl
push_row row (stock ∷ stocks) ahead =
    let parts = and_parts (is_ahead row stock) (list_all (is_ahead row) stocks) ahead in
    let lies = apart_parts stock.row row parts.0 in
    ap (λ b. put_stock (fetched row) (cond b (stock ∷ filter (is_clear_stock row.path) stocks) (filter (is_clear_stock row.path) stocks)))
    (ap not lies.1)
    ∙ ap (λ b. cond b (fetched row ∷ stock ∷ filter (is_clear_stock row.path) stocks) (stock ∷ put_stock (fetched row) (filter (is_clear_stock row.path) stocks)))
    (before_asym stock.row.path row.path lies.0)
    ∙ ap (λ (some : List Stock). stock ∷ some) (push_row row stocks parts.1)

-- and holds no bytes
pub push_held : (row : Row) (stocks : List Stock) → list_all (is_ahead row) stocks ≡ true → held_bytes stocks ≡ 0 →
    held_bytes (put_stock (fetched row) (filter (is_clear_stock row.path) stocks)) < 2 ^ 64
push_held row stocks ahead free =
    let all : held_bytes (put_stock (fetched row) (filter (is_clear_stock row.path) stocks)) ≡ held_bytes stocks + 0 =
    ap held_bytes (push_row row stocks ahead) ∙ sum_by_push held_of stocks (fetched row) in
    omega (arith, all, free)

-- rows whose bytes the store has hold none
pub none_held : (rows : List Row) → held_bytes (map fetched rows) ≡ 0
none_held [] = refl
none_held (row ∷ rows) =
    let all : held_bytes (map fetched (row ∷ rows)) ≡ 0 + held_bytes (map fetched rows) = sum_by-cons held_of (fetched row) (map fetched rows) in
    omega (arith, all, none_held rows)

-- of rows that are apart those in front of one are ahead of it
rows_ahead : (rows : List Row) (k : ℕ) (row : Row) → k < length rows → row ≡ get_or rows k row → are_apart rows ≡ true →
    list_all (is_ahead row) (map fetched (take k rows)) ≡ true
rows_ahead [] k row within at lie = absurd (omega (arith, within))
rows_ahead (first ∷ rows) zero row within at lie = refl
rows_ahead (first ∷ rows) (suc k) row within at lie =
    let parts = and_parts (list_all (is_apart first) rows) (are_apart rows) lie in
    let inside : k < length rows = omega (arith, within) in
    and_from (is_apart first row) (list_all (is_ahead row) (map fetched (take k rows)))
    (contains_all (is_apart first) rows row parts.0 (k, inside, sym at)) (rows_ahead rows k row inside at parts.1)

map_same : (rows : List Row) → map (λ (row : Row). row) rows ≡ rows
map_same [] = refl
map_same (row ∷ rows) = ap (λ (some : List Row). row ∷ some) (map_same rows)

-- so are the rows that were put so far
pub ahead_now : (rows some : List Row) (row : Row) (book : List Stock) → are_apart rows ≡ true →
    (length some < length rows) × (row ≡ get_or rows (length some) row) → map (λ (r : Row). r) some ≡ take (length some) rows →
    book ≡ map fetched some → list_all (is_ahead row) book ≡ true
ahead_now rows some row book lie turn front is =
    subst (λ (b : List Stock). list_all (is_ahead row) b ≡ true) (sym (is ∙ ap (map fetched) (sym (map_same some) ∙ front)))
    (rows_ahead rows (length some) row turn.0 turn.1 lie)

-- ---- the latest use

latest_push : (rows : List Row) (row : Row) → latest_use (rows ++ row ∷ []) ≡ max row.last (latest_use rows)
latest_push [] row = refl
latest_push (first ∷ rows) row =
    ap (max first.last) (latest_push rows row) ∙ turn first.last row.last (latest_use rows)
  where
    turn : (a b c : ℕ) → max a (max b c) ≡ max b (max a c)
    turn a b c = omega arith

pub latest_more : (rows : List Row) (k : ℕ) (row : Row) (old new : ℕ) → k < length rows → row ≡ get_or rows k row → old ≡ latest_use (take k rows) →
    new ≡ max row.last old → new ≡ latest_use (take (k + 1) rows)
latest_more rows k row old new within at was is =
    let next : suc k ≡ k + 1 = omega arith in
    is ∙ ap (max row.last) was ∙ sym (latest_push (take k rows) row)
    ∙ ap (λ (r : Row). latest_use (take k rows ++ r ∷ [])) at
    ∙ ap latest_use (sym (take-suc rows k row within)) ∙ ap (λ n. latest_use (take n rows)) next

-- ---- marks

-- a mark that is behind all others is put behind them
push_mark : (mark : Mark) (marks : List Mark) → list_all (is_mark_before mark.path) marks ≡ true → put_mark mark marks ≡ marks ++ mark ∷ []
push_mark mark marks all =
    ap₂ (λ (front back : List Mark). front ++ mark ∷ back) (filter_all (is_mark_before mark.path) marks all)
    (filter_none (is_mark_behind mark.path) (is_mark_before mark.path) (λ (m : Mark) before. before_asym m.path mark.path before) marks all)

-- of rows that are apart the marks of those in front of one are before it
marks_before : (rows : List Row) (k : ℕ) (row : Row) → k < length rows → row ≡ get_or rows k row → are_apart rows ≡ true →
    list_all (is_mark_before row.path) (map new_mark (take k rows)) ≡ true
marks_before [] k row within at lie = absurd (omega (arith, within))
marks_before (first ∷ rows) zero row within at lie = refl
marks_before (first ∷ rows) (suc k) row within at lie =
    let parts = and_parts (list_all (is_apart first) rows) (are_apart rows) lie in
    let inside : k < length rows = omega (arith, within) in
    and_from (comes_before first.path row.path) (list_all (is_mark_before row.path) (map new_mark (take k rows)))
    (apart_parts first row (contains_all (is_apart first) rows row parts.0 (k, inside, sym at))).0 (marks_before rows k row inside at parts.1)

pub more_marks : (rows : List Row) (k : ℕ) (row : Row) (old new : List Mark) → are_apart rows ≡ true → k < length rows → row ≡ get_or rows k row →
    old ≡ map new_mark (take k rows) → new ≡ put_mark (mark_at row.path row.last true) old → new ≡ map new_mark (take (k + 1) rows)
more_marks rows k row old new lie within at was is =
    let next : suc k ≡ k + 1 = omega arith in
    is ∙ ap (put_mark (new_mark row)) was ∙ push_mark (new_mark row) (map new_mark (take k rows)) (marks_before rows k row within at lie)
    ∙ sym (map-append new_mark (take k rows) (row ∷ []))
    ∙ ap (λ (r : Row). map new_mark (take k rows ++ r ∷ [])) at
    ∙ ap (map new_mark) (sym (take-suc rows k row within)) ∙ ap (λ n. map new_mark (take n rows)) next

-- marks of rows that are apart ascend
pub marks_ascend : (rows : List Row) → are_apart rows ≡ true → ascends_by path_of_mark (map new_mark rows) ≡ true
marks_ascend [] lie = refl
marks_ascend (row ∷ rows) lie =
    let parts = and_parts (list_all (is_apart row) rows) (are_apart rows) lie in
    and_from (list_all (is_after_by path_of_mark row.path) (map new_mark rows)) (ascends_by path_of_mark (map new_mark rows)) (after rows parts.0)
    (marks_ascend rows parts.1)
  where
    after : (others : List Row) → list_all (is_apart row) others ≡ true → list_all (is_after_by path_of_mark row.path) (map new_mark others) ≡ true
    after [] all = refl
    after (other ∷ others) all =
        let parts = and_parts (is_apart row other) (list_all (is_apart row) others) all in
        and_from (comes_before row.path other.path) (list_all (is_after_by path_of_mark row.path) (map new_mark others))
        (apart_parts row other parts.0).0 (after others parts.1)

-- ---- marks of the first version

-- what is put where there is memory
pub put_where : {Y E : Type 0} (r : Result Y E) (new old put all : List Mark) → new ≡ cond (is_ok r) put old → put ≡ all → IfOk r (λ done. new ≡ all)
put_where (Ok y) new old put all is same = is ∙ same
put_where (Err e) new old put all is same = tt

-- where no mark is at a path, none is aged there
pub none_aged : (path : List (List ℕ)) (marks : List Mark) → option_map use_of (find (is_mark_at path) marks) ≡ None → marks ≡ map (aged path) marks
none_aged path [] none = refl
none_aged path (mark ∷ marks) none = by (is_mark_at path mark) none (none_aged path marks)
  where
    by : (b : Bool) → option_map use_of (cond b (Some mark) (find (is_mark_at path) marks)) ≡ None →
        (option_map use_of (find (is_mark_at path) marks) ≡ None → marks ≡ map (aged path) marks) →
        mark ∷ marks ≡ cond b (record mark { new = false }) mark ∷ map (aged path) marks
    by true is rest = absurd cc
    by false is rest = ap (λ (ms : List Mark). mark ∷ ms) (rest is)

-- marks behind a path aren't at it
behind_away : (path : List (List ℕ)) (marks : List Mark) → list_all (is_mark_behind path) marks ≡ true →
    option_map use_of (find (is_mark_at path) marks) ≡ None
behind_away path [] all = refl
behind_away path (mark ∷ marks) all =
    let parts = and_parts (is_mark_behind path mark) (list_all (is_mark_behind path) marks) all in
    let off : is_mark_at path mark ≡ false = same_names-sym path mark.path ∙ apart_behind mark.path path parts.0 in
    ap (λ b. option_map use_of (cond b (Some mark) (find (is_mark_at path) marks))) off ∙ behind_away path marks parts.1

-- marks that are behind one that isn't before a path are behind this
behind_all : (p q : List (List ℕ)) → ((m : Mark) → comes_before q m.path ≡ true → comes_before p m.path ≡ true) → (marks : List Mark) →
    list_all (is_after_by path_of_mark q) marks ≡ true → list_all (is_mark_behind p) marks ≡ true
behind_all p q through [] all = refl
behind_all p q through (mark ∷ marks) all =
    let parts = and_parts (is_after_by path_of_mark q mark) (list_all (is_after_by path_of_mark q) marks) all in
    and_from (is_mark_behind p mark) (list_all (is_mark_behind p) marks) (through mark parts.0) (behind_all p q through marks parts.1)

-- the mark that is found at a path is put there again as one of the first version
pub put_aged : (path : List (List ℕ)) (last : ℕ) (new : Bool) (marks : List Mark) → ascends_by path_of_mark marks ≡ true →
    option_map use_of (find (is_mark_at path) marks) ≡ Some (last, new) → put_mark (mark_at path last false) marks ≡ map (aged path) marks
put_aged path last new [] up found = absurd cc
put_aged path last new (mark ∷ marks) up found =
    let parts = and_parts (list_all (is_after_by path_of_mark mark.path) marks) (ascends_by path_of_mark marks) up in
    by (path_cmp mark.path path) refl parts.0 found (put_aged path last new marks parts.1)
  where
    front : List Mark
    front = filter (is_mark_before path) marks

    back : List Mark
    back = filter (is_mark_behind path) marks

    place : Mark
    place = mark_at path last false

    with_tests : (before behind at : Bool) → is_mark_before path mark ≡ before → is_mark_behind path mark ≡ behind → is_mark_at path mark ≡ at →
        cond before (mark ∷ front) front ++ place ∷ cond behind (mark ∷ back) back ≡ cond at (record mark { new = false }) mark ∷ map (aged path) marks →
        put_mark place (mark ∷ marks) ≡ map (aged path) (mark ∷ marks)
    with_tests before behind at e f g same =
        ap₂ (λ (b c : Bool). cond b (mark ∷ front) front ++ place ∷ cond c (mark ∷ back) back) e f ∙ same
        ∙ sym (ap (λ b. cond b (record mark { new = false }) mark ∷ map (aged path) marks) g)

    last_of : Option (ℕ × Bool) → ℕ
    last_of None = 0
    last_of (Some pair) = pair.0

    first_found : (at : Bool) → is_mark_at path mark ≡ at → option_map use_of (find (is_mark_at path) (mark ∷ marks)) ≡ Some (last, new) →
        option_map use_of (cond at (Some mark) (find (is_mark_at path) marks)) ≡ Some (last, new)
    first_found at e is = sym (ap (λ b. option_map use_of (cond b (Some mark) (find (is_mark_at path) marks))) e) ∙ is

    by : (o : Ordering) → path_cmp mark.path path ≡ o → list_all (is_after_by path_of_mark mark.path) marks ≡ true →
        option_map use_of (find (is_mark_at path) (mark ∷ marks)) ≡ Some (last, new) →
        (option_map use_of (find (is_mark_at path) marks) ≡ Some (last, new) → put_mark place marks ≡ map (aged path) marks) →
        put_mark place (mark ∷ marks) ≡ map (aged path) (mark ∷ marks)
    by Less o after is rest =
        let off : is_mark_at path mark ≡ false = apart_behind path mark.path (ap is_lt o) in
        with_tests true false false (ap is_lt o) (before_asym mark.path path (ap is_lt o)) off
        (ap (λ (ms : List Mark). mark ∷ ms) (rest (first_found false off is)))
    by Equal o after is rest =
        let same : mark.path ≡ path = path_cmp_equal mark.path path o in
        let here : is_mark_at path mark ≡ true = ap (same_names path) same ∙ same_names-refl path in
        let all : list_all (is_mark_behind path) marks ≡ true =
        behind_all path mark.path (λ m later. ap (λ p. comes_before p m.path) (sym same) ∙ later) marks after in
        let told = first_found true here is in
        let used : mark.last ≡ last = ap last_of told in
        with_tests false false true (ap is_lt o) (ap (λ p. is_lt (path_cmp path p)) same ∙ ap is_lt (sym (ap (λ p. path_cmp p path) same) ∙ o)) here
        (ap₂ (λ (f b : List Mark). f ++ place ∷ b)
        (filter_none (is_mark_before path) (is_mark_behind path) (λ (m : Mark) later. before_asym path m.path later) marks all)
        (filter_all (is_mark_behind path) marks all)
        ∙ ap₂ (λ (p : List (List ℕ)) (n : ℕ). mark_at p n false ∷ marks) (sym same) (sym used)
        ∙ ap (λ (ms : List Mark). record mark { new = false } ∷ ms) (none_aged path marks (behind_away path marks all)))
    by Greater o after is rest =
        let later : comes_before path mark.path ≡ true = ap is_lt (path_cmp_total.antisymm path mark.path ∙ ap Rattle.std.specs.Ordering.ordering_reverse o) in
        let all : list_all (is_mark_behind path) (mark ∷ marks) ≡ true =
        and_from (is_mark_behind path mark) (list_all (is_mark_behind path) marks) later
        (behind_all path mark.path (λ m more. before-trans path mark.path m.path later more) marks after) in
        absurd (none_some (behind_away path (mark ∷ marks) all) is)
      where
        none_some : option_map use_of (find (is_mark_at path) (mark ∷ marks)) ≡ None →
            option_map use_of (find (is_mark_at path) (mark ∷ marks)) ≡ Some (last, new) → ⊥
        none_some none some = cc

-- what is aged ascends as it did
pub aged_ascends : (paths : List (List (List ℕ))) (marks : List Mark) → ascends_by path_of_mark (map (aged_by paths) marks) ≡ ascends_by path_of_mark marks
aged_ascends paths [] = refl
aged_ascends paths (mark ∷ marks) = ap₂ (λ (a b : Bool). a && b) (after marks) (aged_ascends paths marks)
  where
    same_path : (m : Mark) → (aged_by paths m).path ≡ m.path
    same_path m =
        elim (list_any (same_names m.path) paths) as (λ b. (cond {A = Mark} b (record m { new = false }) m).path ≡ m.path) [ true ↦ refl | false ↦ refl ]

    after : (others : List Mark) →
        list_all (is_after_by path_of_mark (aged_by paths mark).path) (map (aged_by paths) others) ≡ list_all (is_after_by path_of_mark mark.path) others
    after [] = refl
    after (other ∷ others) =
        ap₂ (λ (a b : Bool). a && b) (ap₂ comes_before (same_path mark) (same_path other)) (after others)

aged_more : (paths : List (List (List ℕ))) (path : List (List ℕ)) (mark : Mark) → aged path (aged_by paths mark) ≡ aged_by (paths ++ path ∷ []) mark
aged_more paths path mark =
    by (list_any (same_names mark.path) paths)
    ∙ ap (λ b. cond b (record mark { new = false }) mark) (sym (any_more paths ∙ ap (λ b. list_any (same_names mark.path) paths || b) (same_names-sym mark.path path)))
  where
    any_more : (some : List (List (List ℕ))) →
        list_any (same_names mark.path) (some ++ path ∷ []) ≡ (list_any (same_names mark.path) some || same_names mark.path path)
    any_more [] = by_none (same_names mark.path path)
      where
        by_none : (a : Bool) → (a || false) ≡ a
        by_none true = refl
        by_none false = refl
    any_more (one ∷ some) =
        ap (λ b. same_names mark.path one || b) (any_more some)
        ∙ by_three (same_names mark.path one) (list_any (same_names mark.path) some) (same_names mark.path path)
      where
        by_three : (a b c : Bool) → (a || (b || c)) ≡ ((a || b) || c)
        by_three true b c = refl
        by_three false b c = refl

    by : (a : Bool) → aged path (cond a (record mark { new = false }) mark)
        ≡ cond (a || same_names path mark.path) (record mark { new = false }) mark
    by true = elim (same_names path mark.path) as (λ b. cond {A = Mark} b (record mark { new = false }) (record mark { new = false }) ≡ record mark { new = false }) [ true ↦ refl | false ↦ refl ]
    by false = refl

aged_all : (paths : List (List (List ℕ))) (path : List (List ℕ)) (marks : List Mark) →
    map (aged path) (map (aged_by paths) marks) ≡ map (aged_by (paths ++ path ∷ [])) marks
aged_all paths path [] = refl
aged_all paths path (mark ∷ marks) = ap₂ (λ (m : Mark) (ms : List Mark). m ∷ ms) (aged_more paths path mark) (aged_all paths path marks)

pub none_old : (marks : List Mark) → marks ≡ map (aged_by []) marks
none_old [] = refl
none_old (mark ∷ marks) = ap (λ (ms : List Mark). mark ∷ ms) (none_old marks)

pub more_aged : (paths : List (List (List ℕ))) (k : ℕ) (path : List (List ℕ)) (start old new : List Mark) → k < length paths → path ≡ get_or paths k path →
    old ≡ map (aged_by (take k paths)) start → new ≡ map (aged path) old → new ≡ map (aged_by (take (k + 1) paths)) start
more_aged paths k path start old new within at was is =
    let next : suc k ≡ k + 1 = omega arith in
    is ∙ ap (map (aged path)) was ∙ aged_all (take k paths) path start
    ∙ ap (λ (p : List (List ℕ)). map (aged_by (take k paths ++ p ∷ [])) start) at
    ∙ ap (λ (ps : List (List (List ℕ))). map (aged_by ps) start) (sym (take-suc paths k path within))
    ∙ ap (λ n. map (aged_by (take n paths)) start) next

-- the rows of an opening as they are stored have these marks
pub opening_marks : (opening : Opening) (rows : List Row) → map (aged_by opening.version1) (map new_mark rows) ≡ map mark_of (map (kept_at_opening opening) rows)
opening_marks opening [] = refl
opening_marks opening (row ∷ rows) = ap₂ (λ (m : Mark) (ms : List Mark). m ∷ ms) (by (is_version1 opening row)) (opening_marks opening rows)
  where
    by : (b : Bool) → cond b (record (new_mark row) { new = false }) (new_mark row) ≡ mark_at row.path row.last (not b)
    by true = refl
    by false = refl

-- ---- debris

-- debris that comes before all other is put first
put_first : (one : Debris) (debris : List Debris) → list_all (is_after_by path_of_debris one.path) debris ≡ true → put_debris one debris ≡ one ∷ debris
put_first one [] after = refl
put_first one (other ∷ debris) after =
    ap (λ b. cond b (one ∷ other ∷ debris) (other ∷ put_debris one debris))
    (and_parts (comes_before one.path other.path) (list_all (is_after_by path_of_debris one.path) debris) after).0

-- what is put among debris behind a path is behind it
after_put : (path : List (List ℕ)) (one : Debris) (debris : List Debris) → comes_before path one.path ≡ true →
    list_all (is_after_by path_of_debris path) debris ≡ true → list_all (is_after_by path_of_debris path) (put_debris one debris) ≡ true
after_put path one [] here all = and_from (comes_before path one.path) true here refl
after_put path one (other ∷ debris) here all =
    let parts = and_parts (comes_before path other.path) (list_all (is_after_by path_of_debris path) debris) all in
    elim (comes_before one.path other.path) as
    (λ b. list_all (is_after_by path_of_debris path) (cond b (one ∷ other ∷ debris) (other ∷ put_debris one debris)) ≡ true) [
      | true ↦ and_from (comes_before path one.path) (list_all (is_after_by path_of_debris path) (other ∷ debris)) here all
      | false ↦ and_from (comes_before path other.path) (list_all (is_after_by path_of_debris path) (put_debris one debris)) parts.0
          (after_put path one debris here parts.1)
    ]

after_strays : (path : List (List ℕ)) (strays lost : List (List (List ℕ))) → list_all (is_after_by itself path) strays ≡ true →
    list_all (is_after_by itself path) lost ≡ true → list_all (is_after_by path_of_debris path) (strays_with strays lost) ≡ true
after_strays path [] [] some others = refl
after_strays path (stray ∷ strays) [] some others =
    let parts = and_parts (comes_before path stray) (list_all (is_after_by itself path) strays) some in
    and_from (comes_before path stray) (list_all (is_after_by path_of_debris path) (strays_with strays [])) parts.0
    (after_strays path strays [] parts.1 others)
after_strays path strays (gone ∷ lost) some others =
    let parts = and_parts (comes_before path gone) (list_all (is_after_by itself path) lost) others in
    after_put path (stray_debris gone) (strays_with strays lost) parts.0 (after_strays path strays lost some parts.1)

-- a lost path before all strays is the first
first_lost : (strays lost : List (List (List ℕ))) (gone : List (List ℕ)) → list_all (is_after_by itself gone) strays ≡ true →
    list_all (is_after_by itself gone) lost ≡ true → strays_with strays (gone ∷ lost) ≡ stray_debris gone ∷ strays_with strays lost
first_lost strays lost gone some others = put_first (stray_debris gone) (strays_with strays lost) (after_strays gone strays lost some others)

-- whether a path isn't before another one
abbrev isnt_before : List (List ℕ) → List (List ℕ) → Bool
isnt_before stray gone = not (comes_before gone stray)

-- a stray that no lost path comes before is the first
first_stray : (strays lost : List (List (List ℕ))) (stray : List (List ℕ)) → list_all (isnt_before stray) lost ≡ true →
    strays_with (stray ∷ strays) lost ≡ stray_debris stray ∷ strays_with strays lost
first_stray strays [] stray others = refl
first_stray strays (gone ∷ lost) stray others =
    let parts = and_parts (isnt_before stray gone) (list_all (isnt_before stray) lost) others in
    ap (put_debris (stray_debris gone)) (first_stray strays lost stray parts.1)
    ∙ ap (λ b. cond b (stray_debris gone ∷ stray_debris stray ∷ strays_with strays lost) (stray_debris stray ∷ put_debris (stray_debris gone) (strays_with strays lost)))
    (not-true (comes_before gone stray) parts.0)

-- paths behind one that isn't before a stray aren't before it either
none_before : (stray gone : List (List ℕ)) (lost : List (List (List ℕ))) → comes_before gone stray ≡ false →
    list_all (is_after_by itself gone) lost ≡ true → list_all (isnt_before stray) lost ≡ true
none_before stray gone [] first after = refl
none_before stray gone (one ∷ lost) first after =
    let parts = and_parts (comes_before gone one) (list_all (is_after_by itself gone) lost) after in
    and_from (isnt_before stray one) (list_all (isnt_before stray) lost) (by (comes_before one stray) refl parts.0) (none_before stray gone lost first parts.1)
  where
    by : (b : Bool) → comes_before one stray ≡ b → comes_before gone one ≡ true → not (comes_before one stray) ≡ true
    by false is behind = ap not is
    by true is behind = absurd (both_ways (comes_before gone stray) first (before-trans gone one stray behind is))

all_after : (p q : List (List ℕ)) (paths : List (List (List ℕ))) → comes_before p q ≡ true → list_all (is_after_by itself q) paths ≡ true →
    list_all (is_after_by itself p) paths ≡ true
all_after p q [] less after = refl
all_after p q (one ∷ paths) less after =
    let parts = and_parts (comes_before q one) (list_all (is_after_by itself q) paths) after in
    and_from (comes_before p one) (list_all (is_after_by itself p) paths) (before-trans p q one less parts.0) (all_after p q paths less parts.1)

-- what is taken out of lost paths where their first comes first
pub lost_taken : (strays lost left : List (List (List ℕ))) (result : Option (List (List ℕ))) → ascends_by itself strays ≡ true →
    ascends_by itself lost ≡ true → is_lost_first strays lost ≡ true → lost ≡ option_to_list result ++ left →
    IfSome result (λ path. strays_with strays lost ≡ stray_debris path ∷ strays_with strays left)
lost_taken strays lost left None up over first split = tt
lost_taken strays lost left (Some gone) up over first split =
    let parts = and_parts (list_all (is_after_by itself gone) left) (ascends_by itself left) (ap (ascends_by itself) (sym split) ∙ over) in
    ap (strays_with strays) split ∙ first_lost strays left gone (by strays up (ap (is_lost_first strays) (sym split) ∙ first)) parts.0
  where
    by : (some : List (List (List ℕ))) → ascends_by itself some ≡ true → is_lost_first some (gone ∷ left) ≡ true → list_all (is_after_by itself gone) some ≡ true
    by [] asc is = refl
    by (stray ∷ some) asc is =
        and_from (comes_before gone stray) (list_all (is_after_by itself gone) some) is
        (all_after gone stray some is (and_parts (list_all (is_after_by itself stray) some) (ascends_by itself some) asc).0)

-- what is taken out of strays where their first comes first
pub stray_taken : (strays lost more : List (List (List ℕ))) (result : Option (List (List ℕ))) → ascends_by itself lost ≡ true →
    is_lost_first strays lost ≡ false → strays ≡ option_to_list result ++ more →
    IfSome result (λ path. strays_with strays lost ≡ stray_debris path ∷ strays_with more lost)
stray_taken strays lost more None over first split = tt
stray_taken strays lost more (Some stray) over first split =
    ap (λ s. strays_with s lost) split ∙ first_stray more lost stray (by lost over (ap (λ s. is_lost_first s lost) (sym split) ∙ first))
  where
    by : (others : List (List (List ℕ))) → ascends_by itself others ≡ true → is_lost_first (stray ∷ more) others ≡ false → list_all (isnt_before stray) others ≡ true
    by [] asc is = refl
    by (one ∷ others) asc is =
        and_from (isnt_before stray one) (list_all (isnt_before stray) others) (ap not is)
        (none_before stray one others is (and_parts (list_all (is_after_by itself one) others) (ascends_by itself others) asc).0)

-- debris behind all other of a list in order is put behind it
push_debris : (debris : List Debris) (one : Debris) (rest : List Debris) → ascends_by path_of_debris (debris ++ one ∷ rest) ≡ true →
    put_debris one debris ≡ debris ++ one ∷ []
push_debris [] one rest up = refl
push_debris (first ∷ debris) one rest up =
    let parts = and_parts (list_all (is_after_by path_of_debris first.path) (debris ++ one ∷ rest)) (ascends_by path_of_debris (debris ++ one ∷ rest)) up in
    let behind = and_parts (list_all (is_after_by path_of_debris first.path) debris)
    (comes_before first.path one.path && list_all (is_after_by path_of_debris first.path) rest)
    (sym (list_all-append (is_after_by path_of_debris first.path) debris (one ∷ rest)) ∙ parts.0) in
    ap (λ b. cond b (one ∷ first ∷ debris) (first ∷ put_debris one debris))
    (before_asym first.path one.path (and_parts (comes_before first.path one.path) (list_all (is_after_by path_of_debris first.path) rest) behind.1).0)
    ∙ ap (λ (some : List Debris). first ∷ some) (push_debris debris one rest parts.1)

-- debris of which no two pieces overlap: one of it overlaps none in front of it
clear_front : (debris : List Debris) (path : List (List ℕ)) → list_any (overlap path) (map path_of_debris debris) ≡ false →
    list_any (overlaps_debris path) debris ≡ false
clear_front [] path clear = refl
clear_front (one ∷ debris) path clear =
    let parts = or_parts (overlap path one.path) (list_any (overlap path) (map path_of_debris debris)) clear in
    ap₂ (λ (a b : Bool). a || b) (overlap_comm one.path path ∙ parts.0) (clear_front debris path parts.1)

-- strays and lost paths are put one by one behind the debris so far, until it is all
pub record IsAdding (all debris : List Debris) (strays lost : List (List (List ℕ))) (spare : ℕ) : Type 0 where
  pub list : debris ++ strays_with strays lost ≡ all
  pub strays_up : ascends_by itself strays ≡ true
  pub lost_up : ascends_by itself lost ≡ true
  pub room : length strays + length lost ≤ spare

pub adding_clear : (all debris : List Debris) (strays lost more left : List (List (List ℕ))) (spare : ℕ) (path : List (List ℕ)) →
    ((x : List (List ℕ)) → covering x (map path_of_debris all) ≤ 1) → IsAdding all debris strays lost spare →
    strays_with strays lost ≡ stray_debris path ∷ strays_with more left → list_any (overlaps_debris path) debris ≡ false
adding_clear all debris strays lost more left spare path most adding first =
    clear_front debris path
    (covering-head path (map path_of_debris debris)
    (λ x.
    let whole : covering x (map path_of_debris (debris ++ stray_debris path ∷ strays_with more left)) ≤ 1 =
    subst (λ (d : List Debris). covering x (map path_of_debris d) ≤ 1) (sym (ap (λ (d : List Debris). debris ++ d) (sym first) ∙ adding.list)) (most x) in
    let split : covering x (map path_of_debris (debris ++ stray_debris path ∷ strays_with more left))
    ≡ covering x (map path_of_debris debris) + covering x (path ∷ map path_of_debris (strays_with more left)) =
    ap (covering x) (map-append path_of_debris debris (stray_debris path ∷ strays_with more left))
    ∙ covering-append x (map path_of_debris debris) (path ∷ map path_of_debris (strays_with more left)) in
    omega (arith, whole, split)))

pub adding_more : (all debris new : List Debris) (strays lost more left : List (List (List ℕ))) (spare now : ℕ) (path : List (List ℕ)) →
    ascends_by path_of_debris all ≡ true → IsAdding all debris strays lost spare → strays_with strays lost ≡ stray_debris path ∷ strays_with more left →
    ascends_by itself more ≡ true → ascends_by itself left ≡ true → length more + length left + 1 ≡ length strays + length lost →
    new ≡ put_debris (stray_debris path) debris → now + 1 ≡ spare → IsAdding all new more left now
adding_more all debris new strays lost more left spare now path up adding first strays_up lost_up count put room =
    let whole : debris ++ stray_debris path ∷ strays_with more left ≡ all = ap (λ (d : List Debris). debris ++ d) (sym first) ∙ adding.list in
    record {
      list =
          ap (λ (d : List Debris). d ++ strays_with more left)
          (put ∙ push_debris debris (stray_debris path) (strays_with more left) (ap (ascends_by path_of_debris) whole ∙ up))
          ∙ append_assoc debris (stray_debris path ∷ []) (strays_with more left) ∙ whole;
      strays_up = strays_up;
      lost_up = lost_up;
      room = let within = adding.room in omega (arith, within, count, room);
    }

pub adding_done : (all debris : List Debris) (strays lost : List (List (List ℕ))) (spare : ℕ) → IsAdding all debris strays lost spare →
    strays_with strays lost ≡ [] → debris ≡ all
adding_done all debris strays lost spare adding none =
    sym (append-nil debris) ∙ ap (λ (d : List Debris). debris ++ d) (sym none) ∙ adding.list
