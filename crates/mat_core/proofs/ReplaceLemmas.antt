-- A new row that takes the place of those that overlap its path: the tickets that are answered, the rows that are gone, and the work state.
use Rattle.std.proofs.Common.{◌≡◌, ◌<◌, ◌⊎◌, ℕ, Bool, true, false, not, ◌&&◌, ◌||◌, cond, List, [], ◌∷◌, filter, find, Contains, Option, Some, None, inl, inr, refl, ◌∙◌, sym, ap, ap₂, subst, arith}
use Rattle.std.specs.List.{list_all, list_any}
use Rattle.std.specs.Option.{option_map_or}
use Rattle.std.proofs.lemmas.Bool.{and_parts, both_ways, eq-eqb, eqb-true, ne_eqb, not-true, or_right}
use Rattle.std.proofs.lemmas.List.Elements.{All-contains}
use Rattle.mat_path.proofs.Elements.{contains_cases, contains_filter, contains_first, contains_map, contains_more, filtered_contains, none_passes}
use Rattle.mat_path.proofs.PathLemmas.{overlap_comm, prefix-trans}
use Rattle.mat_path.proofs.SameNames.{same_names-eq, same_names-refl}
use Rattle.mat_path.specs.Names.{is_prefix, overlap, same_names}
use Rattle.mat_model.specs.declared.answers.Reply.TheVariants as reply
use Rattle.mat_model.specs.declared.book.Book.{Book}
use Rattle.mat_model.specs.declared.book.Row.{Row}
use Rattle.mat_model.specs.declared.requests.Asked.{Asked}
use Rattle.mat_model.specs.Books.{IsBook}
use Rattle.mat_model.specs.History.{next_number}
use Rattle.mat_model.specs.Openings.{path_of_row}
use Rattle.mat_model.specs.Rows.{are_apart, comes_before, is_apart, is_at_path, is_clear_of, overlaps_row, put_row}
use Rattle.mat_model.specs.WorkState.{Debris, Job, Way, WayOf, WorkState, add_debris, cleans_all, condemned_all, has_stamp, is_dirty, is_gone, is_kept_dirty, is_lent, is_way_of, leaves_debris, removed_rows, store, way_declared, way_of, way_within, without_removed, work_asked}
use Rattle.model_laws.specs.RowRules.{AreStampedBelow}
use Rattle.model_laws.specs.TicketRules.{is_row_above, top_of}
use Rattle.model_laws.specs.WorkRules.{IsWork}
use Rattle.model_laws.proofs.Apart.{apart_parts}
use Rattle.model_laws.proofs.BelowLemmas.{same_test}
use Rattle.model_laws.proofs.BooksLists.{any_contains, contains_any}
use Rattle.model_laws.proofs.Clear.{at_path_overlaps}
use Rattle.model_laws.proofs.ClaimLemmas.{leaves_clear_debris}
use Rattle.model_laws.proofs.StampLemmas.{one_stamp}
use Rattle.model_laws.proofs.WorkBase.{lying_row}
use Rattle.debris_list.specs.Pieces.{overlaps_debris}
use Rattle.job_book.specs.Jobs.{jobs_of}
use Rattle.job_run.specs.Orders.{is_right}
use Rattle.row_book.specs.declared.stock.Stock.{Stock}
use Rattle.row_book.specs.Stocks.{is_clear_stock, overlaps_stock, put_stock, row_of, rows_of, stock_at}
use Rattle.row_book.proofs.HeldLemmas.{apart_left, rows_placed}
use Rattle.row_book.proofs.RowLemmas.{rows_left}
use Rattle.mat_core.specs.Books.{AreWork, book_in, way_in}
use Rattle.mat_core.specs.Falling.{MayAllRemain, with_remains}
use Rattle.mat_core.specs.Replacing.{AreRuled, IsReplaced, top_in}
use Rattle.mat_core.specs.declared.parts.Parts.{Parts}
use Rattle.mat_core.proofs.FallLemmas.{all_remain, any_put, filter_alike, remains_added}

-- ---- the path by which tickets are answered

no_row_above : (path : List (List ℕ)) (first : Row) (rows : List Row) → is_prefix path first.path ≡ true → list_all (is_apart first) rows ≡ true →
    find (is_row_above path) rows ≡ None
no_row_above path first [] below all = refl
no_row_above path first (row ∷ rows) below all =
    let parts = and_parts (is_apart first row) (list_all (is_apart first) rows) all in
    elim (is_row_above path row) as (λ b. is_row_above path row ≡ b → cond b (Some row) (find (is_row_above path) rows) ≡ None) [
      | true ↦ λ above.
          absurd (both_ways (overlap first.path row.path) (apart_parts first row parts.0).1
          (or_right (is_prefix first.path row.path) (is_prefix row.path first.path) (prefix-trans row.path path first.path above below)))
      | false ↦ λ off. no_row_above path first rows below parts.1
    ] refl

-- the path by which tickets are answered is that of the model
pub top_same : (path : List (List ℕ)) (stocks : List Stock) → are_apart (rows_of stocks) ≡ true →
    top_in (filter (overlaps_stock path) stocks) path ≡ top_of (rows_of stocks) path
top_same path [] apart = refl
top_same path (first ∷ stocks) apart =
    let parts = and_parts (list_all (is_apart first.row) (rows_of stocks)) (are_apart (rows_of stocks)) apart in
    by (is_prefix first.row.path path) (is_prefix path first.row.path) refl refl parts.0 (top_same path stocks parts.1)
  where
    rest : List Stock
    rest = filter (overlaps_stock path) stocks

    found : Option Row
    found = find (is_row_above path) (rows_of stocks)

    by : (above below : Bool) → is_prefix first.row.path path ≡ above → is_prefix path first.row.path ≡ below →
        list_all (is_apart first.row) (rows_of stocks) ≡ true → top_in rest path ≡ option_map_or path_of_row found path →
        top_in (cond (above || below) (first ∷ rest) rest) path
        ≡ option_map_or path_of_row (cond above (Some first.row) found) path
    by true below is under all more = ap (λ b. cond b first.row.path path) is
    by false true is under all more =
        ap (λ b. cond b first.row.path path) is
        ∙ sym (ap (λ (o : Option Row). option_map_or path_of_row o path) (no_row_above path first.row (rows_of stocks) under all))
    by false false is under all more = more

-- ---- the rows that are gone

-- the rows of stocks that overlap a path
pub rows_overlapping : (path : List (List ℕ)) (stocks : List Stock) → rows_of (filter (overlaps_stock path) stocks) ≡ filter (overlaps_row path) (rows_of stocks)
rows_overlapping path stocks = rows_left (overlaps_row path) stocks

pub stocks_put : (new : Stock) (stocks : List Stock) (stock : Stock) → Contains (put_stock new stocks) stock → (new ≡ stock) ⊎ Contains stocks stock
stocks_put new [] stock among = contains_cases new [] stock among
stocks_put new (next ∷ stocks) stock among =
    elim (comes_before new.row.path next.row.path) as
    (λ b. Contains (cond b (new ∷ next ∷ stocks) (next ∷ put_stock new stocks)) stock → (new ≡ stock) ⊎ Contains (next ∷ stocks) stock) [
      | true ↦ λ here. contains_cases new (next ∷ stocks) stock here
      | false ↦ λ here.
          elim (contains_cases next (put_stock new stocks) stock here) [
            | inl same ↦ inr (subst (λ (s : Stock). Contains (next ∷ stocks) s) same (contains_first next stocks))
            | inr more ↦ elim (stocks_put new stocks stock more) [ inl same ↦ inl same | inr rest ↦ inr (contains_more next stocks stock rest) ]
          ]
    ] among

-- the stock that is put is found at its path, where none of the others is there
pub found_put : (new : Stock) (stocks : List Stock) → find (stock_at new.row.path) (put_stock new (filter (is_clear_stock new.row.path) stocks)) ≡ Some new
found_put new stocks = by (filter (is_clear_stock new.row.path) stocks) (λ s among. away s (filtered_contains (is_clear_stock new.row.path) stocks s among).1)
  where
    away : (s : Stock) → is_clear_stock new.row.path s ≡ true → stock_at new.row.path s ≡ false
    away s clear =
        elim (stock_at new.row.path s) as (λ b. stock_at new.row.path s ≡ b → b ≡ false) [
          | true ↦ λ at. absurd (both_ways (overlaps_stock new.row.path s) (not-true (overlaps_stock new.row.path s) clear) (at_path_overlaps new.row.path s.row at))
          | false ↦ λ off. refl
        ] refl

    by : (others : List Stock) → ((s : Stock) → Contains others s → stock_at new.row.path s ≡ false) → find (stock_at new.row.path) (put_stock new others) ≡ Some new
    by [] clear = ap (λ b. cond b (Some new) None) (same_names-refl new.row.path)
    by (s ∷ others) clear =
        elim (comes_before new.row.path s.row.path) as
        (λ b. find (stock_at new.row.path) (cond b (new ∷ s ∷ others) (s ∷ put_stock new others)) ≡ Some new) [
          | true ↦ ap (λ b. cond b (Some new) (find (stock_at new.row.path) (s ∷ others))) (same_names-refl new.row.path)
          | false ↦ ap (λ b. cond b (Some s) (find (stock_at new.row.path) (put_stock new others))) (clear s (contains_first s others))
              ∙ by others (λ t among. clear t (contains_more s others t among))
        ]

-- those that are not there any more are those that overlap the path
pub removed_are : (next : ℕ) (path : List (List ℕ)) (new : Row) (rows : List Row) → AreStampedBelow next rows → new.stamp ≡ next →
    removed_rows rows (put_row new (filter (is_clear_of path) rows)) ≡ filter (overlaps_row path) rows
removed_are next path new rows stamped number =
    filter_alike (is_gone (put_row new (filter (is_clear_of path) rows))) (overlaps_row path) rows each
  where
    each : (row : Row) → Contains rows row → is_gone (put_row new (filter (is_clear_of path) rows)) row ≡ overlaps_row path row
    each row among =
        ap not
        (any_put (has_stamp row.stamp) new (filter (is_clear_of path) rows)
        ∙ ap₂ (λ (a b : Bool). a || b)
        (ne_eqb new.stamp row.stamp
        (λ same. let less = All-contains (λ (r : Row). r.stamp < next) rows row stamped.below among in omega (arith, less, number, same)))
        (same_test (list_any (has_stamp row.stamp) (filter (is_clear_of path) rows)) (is_clear_of path row) clears stays))
        ∙ twice (overlaps_row path row)
      where
        twice : (b : Bool) → not (false || not b) ≡ b
        twice true = refl
        twice false = refl

        clears : list_any (has_stamp row.stamp) (filter (is_clear_of path) rows) ≡ true → is_clear_of path row ≡ true
        clears is =
            let (other, within, same) = any_contains (has_stamp row.stamp) (filter (is_clear_of path) rows) is in
            let (there, clear) = filtered_contains (is_clear_of path) rows other within in
            subst (λ (r : Row). is_clear_of path r ≡ true)
            (one_stamp rows other row stamped.differ there among (eqb-true other.stamp row.stamp same)) clear

        stays : is_clear_of path row ≡ true → list_any (has_stamp row.stamp) (filter (is_clear_of path) rows) ≡ true
        stays clear =
            contains_any (has_stamp row.stamp) (filter (is_clear_of path) rows) row (contains_filter (is_clear_of path) rows row clear among)
            (eq-eqb row.stamp row.stamp refl)

-- ---- marks of rows whose make failed

-- a path that isn't that of a removed row is dirty as it was
pub dirty_left : (removed : List Row) (dirty : List (List (List ℕ))) (path : List (List ℕ)) → is_kept_dirty removed path ≡ true →
    is_dirty (filter (is_kept_dirty removed) dirty) path ≡ is_dirty dirty path
dirty_left removed [] path keeps = refl
dirty_left removed (one ∷ dirty) path keeps =
    by (same_names path one) refl (dirty_left removed dirty path keeps)
  where
    by : (b : Bool) → same_names path one ≡ b → is_dirty (filter (is_kept_dirty removed) dirty) path ≡ is_dirty dirty path →
        is_dirty (cond (is_kept_dirty removed one) (one ∷ filter (is_kept_dirty removed) dirty) (filter (is_kept_dirty removed) dirty)) path
        ≡ (same_names path one || is_dirty dirty path)
    by true same more =
        ap (λ b. is_dirty (cond b (one ∷ filter (is_kept_dirty removed) dirty) (filter (is_kept_dirty removed) dirty)) path)
        (subst (λ (p : List (List ℕ)). is_kept_dirty removed p ≡ true) (same_names-eq path one same) keeps)
        ∙ ap (λ b. same_names path one || b) more
    by false other more =
        elim (is_kept_dirty removed one) as
        (λ b. is_dirty (cond b (one ∷ filter (is_kept_dirty removed) dirty) (filter (is_kept_dirty removed) dirty)) path
        ≡ (same_names path one || is_dirty dirty path)) [
          | true ↦ ap (λ b. same_names path one || b) more
          | false ↦ more ∙ sym (ap (λ b. b || is_dirty dirty path) other)
        ]

-- the path of a new row isn't dirty
clean_new : (next : ℕ) (path : List (List ℕ)) (rows : List Row) (work : WorkState) → IsWork next rows work →
    is_dirty (filter (is_kept_dirty (filter (overlaps_row path) rows)) work.dirty) path ≡ false
clean_new next path rows work rules =
    none_passes (same_names path) (filter (is_kept_dirty (filter (overlaps_row path) rows)) work.dirty)
    (λ one among.
    elim (same_names path one) as (λ b. same_names path one ≡ b → b ≡ false) [
      | true ↦ λ same.
          let at : path ≡ one = same_names-eq path one same in
          let (there, keeps) = filtered_contains (is_kept_dirty (filter (overlaps_row path) rows)) work.dirty one among in
          let (row, within, here, lies) = lying_row rows one (rules.dirty one there) in
          absurd (both_ways (list_any (is_at_path one) (filter (overlaps_row path) rows))
          (not-true (list_any (is_at_path one) (filter (overlaps_row path) rows)) keeps)
          (contains_any (is_at_path one) (filter (overlaps_row path) rows) row
          (contains_filter (overlaps_row path) rows row
          (at_path_overlaps path row (subst (λ (p : List (List ℕ)). same_names p path ≡ true) (at ∙ sym here) (same_names-refl path))) within)
          (subst (λ (p : List (List ℕ)). same_names p one ≡ true) (sym here) (same_names-refl one))))
      | false ↦ λ off. refl
    ] refl)

-- the path of a row that is clear of another one isn't that of a row that overlaps it
keeps_clear : (path : List (List ℕ)) (rows : List Row) (row : Row) → is_clear_of path row ≡ true → is_kept_dirty (filter (overlaps_row path) rows) row.path ≡ true
keeps_clear path rows row clear =
    ap not (none_passes (is_at_path row.path) (filter (overlaps_row path) rows)
    (λ other among.
    elim (is_at_path row.path other) as (λ b. is_at_path row.path other ≡ b → b ≡ false) [
      | true ↦ λ at.
          absurd (both_ways (overlaps_row path row) (not-true (overlaps_row path row) clear)
          (subst (λ (p : List (List ℕ)). overlap p path ≡ true) (same_names-eq other.path row.path at) (filtered_contains (overlaps_row path) rows other among).1))
      | false ↦ λ off. refl
    ] refl))

-- ---- the work state

-- the newest way of a stamp is its own, and the ways of other stamps stay
pub way_first : (number stamp : ℕ) (way : Way) (ways : List WayOf) → stamp ≡ number → way_of stamp (record { stamp = number; way = way } ∷ ways) ≡ way
way_first number stamp way ways same =
    ap (λ b. option_map_or way_within (cond b (Some (record { stamp = number; way = way })) (find (is_way_of stamp) ways)) store)
    (eq-eqb number stamp (sym same))

pub way_other : (number stamp : ℕ) (way : Way) (ways : List WayOf) → (number ≡ stamp → ⊥) →
    way_of stamp (record { stamp = number; way = way } ∷ ways) ≡ way_of stamp ways
way_other number stamp way ways differ =
    ap (λ b. option_map_or way_within (cond b (Some (record { stamp = number; way = way })) (find (is_way_of stamp) ways)) store)
    (ne_eqb number stamp differ)

-- each stock that is left has the way that a work state says of it, once the new one's is there
pub stock_ways : {D K : Type 0} (number : ℕ) (stock one : Stock) (old : Parts D K) (work : WorkState) (way : Way) → stock.row.stamp ≡ number →
    AreStampedBelow number (rows_of old.rows) → AreWork old work → way ≡ way_in stock.method →
    Contains (put_stock stock (filter (is_clear_stock stock.row.path) old.rows)) one →
    way_of one.row.stamp (record { stamp = number; way = way } ∷ work.ways) ≡ way_in one.method
stock_ways number stock one old work way stamp stamped are same among =
    elim (stocks_put stock (filter (is_clear_stock stock.row.path) old.rows) one among) [
      | inl here ↦ subst (λ (s : Stock). way_of s.row.stamp (record { stamp = number; way = way } ∷ work.ways) ≡ way_in s.method) here
          (way_first number stock.row.stamp way work.ways stamp ∙ same)
      | inr more ↦
          let there = (filtered_contains (is_clear_stock stock.row.path) old.rows one more).0 in
          let less = All-contains (λ (r : Row). r.stamp < number) (rows_of old.rows) one.row stamped.below (contains_map row_of old.rows one there) in
          way_other number one.row.stamp way work.ways (λ same_stamp. omega (arith, less, same_stamp)) ∙ (are.stocks one there).way
    ]

-- and the bytes that are held for it have the digest of its file
stock_rights : {D K : Type 0} (stock one : Stock) (old : Parts D K) (work : WorkState) → AreWork old work →
    list_all (is_right stock.method) stock.row.tree ≡ true → Contains (put_stock stock (filter (is_clear_stock stock.row.path) old.rows)) one →
    list_all (is_right one.method) one.row.tree ≡ true
stock_rights stock one old work are right among =
    elim (stocks_put stock (filter (is_clear_stock stock.row.path) old.rows) one among) [
      | inl here ↦ subst (λ (s : Stock). list_all (is_right s.method) s.row.tree ≡ true) here right
      | inr more ↦ (are.stocks one (filtered_contains (is_clear_stock stock.row.path) old.rows one more).0).right
    ]

module _ {D K : Type 0} (number command : ℕ) (stock : Stock) (request : Asked) (old new : Parts D K) (is : IsReplaced number command stock old new)
    (stamped : stock.row.stamp ≡ number) (clean : stock.dirty ≡ false) (work : WorkState) (rules : IsWork number (book_in old).rows work)
    (are : AreWork old work) (way : way_declared request (book_in old).rows work.ways ≡ way_in stock.method)
    (right : list_all (is_right stock.method) stock.row.tree ≡ true) where
  abbrev path : List (List ℕ)
  path = stock.row.path

  abbrev gone : List Row
  gone = filter (overlaps_row path) (rows_of old.rows)

  new_rows : (book_in new).rows ≡ put_row stock.row (filter (is_clear_of path) (rows_of old.rows))
  new_rows = ap rows_of is.rows ∙ rows_placed stock old.rows

  gone_are : removed_rows (book_in old).rows (book_in new).rows ≡ gone
  gone_are = ap (removed_rows (rows_of old.rows)) new_rows ∙ removed_are number path stock.row (rows_of old.rows) rules.stamped stamped

  abbrev the_ways : List WayOf
  the_ways = record { stamp = number; way = way_declared request (book_in old).rows work.ways } ∷ work.ways

  work_is : work_asked request (reply.Declared number) (book_in old).rows (book_in new).rows work
      ≡ record (without_removed false gone work) { ways = the_ways }
  work_is =
      ap (λ (w : WorkState). record (without_removed false (removed_rows (book_in old).rows (book_in new).rows) w) { ways = the_ways })
      (never (cleans_all request))
      ∙ ap (λ (rs : List Row). record (without_removed false rs work) { ways = the_ways }) gone_are
    where
      never : (b : Bool) → cond (b && false) (condemned_all work) work ≡ work
      never true = refl
      never false = refl

  stock_marks : (one : Stock) → Contains new.rows one → is_dirty (filter (is_kept_dirty gone) work.dirty) one.row.path ≡ one.dirty
  stock_marks one among =
      elim (stocks_put stock (filter (is_clear_stock path) old.rows) one (subst (λ ss. Contains ss one) is.rows among)) [
        | inl same ↦ subst (λ (s : Stock). is_dirty (filter (is_kept_dirty gone) work.dirty) s.row.path ≡ s.dirty) same
            (clean_new number path (rows_of old.rows) work rules ∙ sym clean)
        | inr more ↦
            let (there, clear) = filtered_contains (is_clear_stock path) old.rows one more in
            dirty_left gone work.dirty one.row.path (keeps_clear path (rows_of old.rows) one.row clear) ∙ (are.stocks one there).mark
      ]

  -- the work state after a row took the place of others
  pub work_replaced : AreWork new (work_asked request (reply.Declared number) (book_in old).rows (book_in new).rows work)
  work_replaced = subst (AreWork new) (sym work_is) (record {
    stocks = λ one among. record {
      way = stock_ways number stock one old work (way_declared request (book_in old).rows work.ways) stamped rules.stamped are way
          (subst (λ ss. Contains ss one) is.rows among);
      mark = stock_marks one among;
      right = stock_rights stock one old work are right (subst (λ ss. Contains ss one) is.rows among);
    };
    jobs = ap jobs_of is.jobs ∙ are.jobs;
    cleaned = λ running among. are.cleaned running (subst (λ j. Contains j running) is.jobs among);
    debris = is.debris
        ∙ ap (with_remains false (jobs_of old.jobs) (filter (overlaps_stock path) old.rows)) are.debris
        ∙ remains_added false (jobs_of old.jobs) work (filter (overlaps_stock path) old.rows) work.debris are.jobs
        (λ one among. (are.stocks one (filtered_contains (overlaps_stock path) old.rows one among).0).mark)
        ∙ ap (λ (rs : List Row). add_debris false (filter (leaves_debris work) rs) work.debris) (rows_overlapping path old.rows);
  })

-- ---- debris

-- what remains of the rows that overlap a path overlaps no debris
pub may_remain : {D K : Type 0} (number : ℕ) (path : List (List ℕ)) (old : Parts D K) (work : WorkState) → IsWork number (book_in old).rows work →
    AreWork old work → MayAllRemain false (jobs_of old.jobs) (filter (overlaps_stock path) old.rows) old.debris.list
may_remain number path old work rules are =
    all_remain false (jobs_of old.jobs) (filter (overlaps_stock path) old.rows) old.debris.list (apart_left (overlaps_stock path) old.rows rules.apart)
    (λ one among remains.
    let there = (filtered_contains (overlaps_stock path) old.rows one among).0 in
    let leaves : leaves_debris work one.row ≡ true =
    ap₂ (λ (b : Bool) (js : List Job). (one.row.stands || b) && not (is_lent one.row.path js)) (are.stocks one there).mark (sym are.jobs) ∙ remains in
    none_passes (overlaps_debris one.row.path) old.debris.list
    (λ piece within.
    overlap_comm piece.path one.row.path
    ∙ leaves_clear_debris number (book_in old).rows work one.row piece rules (contains_map row_of old.rows one there) leaves
    (subst (λ (ds : List Debris). Contains ds piece) are.debris within)))

-- the book of parts that stand for a point which keeps its rules keeps its own
pub ruled_book : {D K : Type 0} (number : ℕ) (parts : Parts D K) → AreRuled number parts → IsBook number (book_in parts)
ruled_book number parts ruled =
    subst (λ n. IsBook n (book_in parts)) ruled.next (subst (λ b. IsBook (next_number ruled.point) b) (sym ruled.stands.book) ruled.rules.book)

-- and what remains of the rows that overlap a path may become debris there
pub ruled_remain : {D K : Type 0} (number : ℕ) (path : List (List ℕ)) (old : Parts D K) → AreRuled number old →
    MayAllRemain false (jobs_of old.jobs) (filter (overlaps_stock path) old.rows) old.debris.list
ruled_remain number path old ruled =
    may_remain number path old ruled.point.work
    (subst (λ r. IsWork number r ruled.point.work) (sym (ap (λ (b : Book). b.rows) ruled.stands.book))
    (subst (λ n. IsWork n ruled.point.book.rows ruled.point.work) ruled.next ruled.rules.work)) ruled.stands.work
