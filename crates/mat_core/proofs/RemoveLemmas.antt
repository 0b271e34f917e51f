-- Rows that are removed from the books: how they are listed and taken out, and what is left of them.
use Rattle.std.proofs.Common.{◌≡◌, ◌≤◌, ◌<◌, ◌+◌, ◌-◌, ℕ, suc, Bool, true, false, not, ◌&&◌, ◌||◌, cond, List, [], ◌∷◌, ◌++◌, map, filter, find, drop, reverse, length, count_by, slice_index_or as get_or, Contains, Option, Some, None, refl, ◌∙◌, sym, ap, ap₂, subst, arith}
use Rattle.std.specs.List.{list_all, list_any}
use Rattle.std.proofs.lemmas.Bool.{and_from, and_parts, both_ways, eq-eqb, eqb-true, not-true}
use Rattle.std.proofs.lemmas.List.{append-nil, append_assoc, drop_more, length-append, length-drop, length-map, length-reverse, reverse-reverse}
use Rattle.std.proofs.lemmas.List.Filters.{length-filter_both}
use Rattle.std.proofs.lemmas.List.Sums.{sum_by-cons}
use Rattle.mat_path.proofs.Elements.{contains_filter, contains_first, contains_map, contains_more, filtered_contains, none_passes}
use Rattle.mat_path.proofs.SameNames.{same_names-eq}
use Rattle.mat_path.specs.Names.{same_names}
use Rattle.mat_model.specs.declared.book.Row.{Row}
use Rattle.mat_model.specs.declared.entries.Task.{Task}
use Rattle.mat_model.specs.declared.entries.Task.TheVariants as task
use Rattle.mat_model.specs.Kept.{KeptRow}
use Rattle.mat_model.specs.Room.{is_alone}
use Rattle.mat_model.specs.Rows.{are_apart, is_apart, is_at_path}
use Rattle.mat_model.specs.WorkState.{WorkState, add_debris, has_stamp, is_gone, is_kept_dirty, leaves_debris, removed_rows, without_removed}
use Rattle.model_laws.specs.RowRules.{AreStampedBelow}
use Rattle.model_laws.proofs.Apart.{apart_parts}
use Rattle.model_laws.proofs.BelowLemmas.{same_test}
use Rattle.model_laws.proofs.BooksLists.{any_contains, contains_any}
use Rattle.model_laws.proofs.StampLemmas.{one_stamp}
use Rattle.core_laws.proofs.StoreSteps.{apart_once}
use Rattle.path_trie.specs.Entries.{is_less}
use Rattle.row_book.specs.declared.stock.Stock.{Stock}
use Rattle.row_book.specs.Stocks.{is_next_overlap, is_stock_elsewhere, overlaps_stock, path_of, row_of, row_passes, rows_of, stock_at}
use Rattle.row_book.specs.Whole.{listed, place_of, taken_stocks, without_stocks}
use Rattle.row_book.proofs.RowLemmas.{rows_left}
use Rattle.row_book.proofs.TakeLemmas.{chosen_left, chosen_taken, in_line}
use Rattle.job_book.proofs.ReadLemmas.{jobs_marked}
use Rattle.job_book.specs.Jobs.{jobs_of}
use Rattle.job_book.specs.Numbers.{marked}
use Rattle.job_book.specs.declared.running.Running.{Running}
use Rattle.kept_book.specs.Marks.{mark_of}
use Rattle.mat_core.specs.Books.{AreWork, IsPart}
use Rattle.mat_core.specs.Falling.{is_unkept, is_unkept_at, one_if, with_remains}
use Rattle.mat_core.specs.Orders.{AreReady, IsReadyFor}
use Rattle.mat_core.specs.Removing.{marked_by, marked_from, taken_at}
use Rattle.mat_core.specs.declared.parts.Parts.{Parts}
use Rattle.mat_core.proofs.FallLemmas.{all_overlap, any_parted, filter_alike, next_overlap, none_left, remains_added, unkept_more}
use Rattle.mat_core.proofs.ReplaceLemmas.{dirty_left}

-- ---- a walk over rows

-- what was listed, and what comes behind the last row, is all
pub listed_more : (path next : List (List ℕ)) (stocks : List Stock) (last : Option (List (List ℕ))) (found : Stock) (now new whole : List (List (List ℕ))) →
    are_apart (rows_of stocks) ≡ true → Some found ≡ find (is_next_overlap path last) stocks → next ≡ found.row.path →
    now ++ map path_of (filter (is_next_overlap path last) stocks) ≡ whole → new ≡ now ++ next ∷ [] →
    new ++ map path_of (filter (is_next_overlap path (Some next)) stocks) ≡ whole
listed_more path next stocks last found now new whole apart is at all grown =
    ap (λ (ps : List (List (List ℕ))). ps ++ map path_of (filter (is_next_overlap path (Some next)) stocks)) grown
    ∙ append_assoc now (next ∷ []) (map path_of (filter (is_next_overlap path (Some next)) stocks))
    ∙ ap (λ (ps : List (List (List ℕ))). now ++ ps)
    (ap (λ (p : List (List ℕ)). p ∷ map path_of (filter (is_next_overlap path (Some next)) stocks)) at
    ∙ ap (λ (p : List (List ℕ)). found.row.path ∷ map path_of (filter (is_next_overlap path (Some p)) stocks)) at
    ∙ sym (ap (map path_of) (next_overlap path last stocks found apart (sym is))))
    ∙ all

pub listed_first : (path : List (List ℕ)) (stocks : List Stock) →
    map path_of (filter (is_next_overlap path None) stocks) ≡ map path_of (filter (overlaps_stock path) stocks)
listed_first path stocks = ap (map path_of) (all_overlap path stocks)

pub listed_last : (path : List (List ℕ)) (stocks : List Stock) (last : Option (List (List ℕ))) (now whole : List (List (List ℕ))) →
    None ≡ find (is_next_overlap path last) stocks → now ++ map path_of (filter (is_next_overlap path last) stocks) ≡ whole → now ≡ whole
listed_last path stocks last now whole none all =
    sym (append-nil now)
    ∙ ap (λ (ss : List Stock). now ++ map path_of ss) (sym (none_left (is_next_overlap path last) stocks (sym none))) ∙ all

-- fewer are left behind a row that is found
pub listed_fewer : (path next : List (List ℕ)) (stocks : List Stock) (last : Option (List (List ℕ))) (found : Stock) → are_apart (rows_of stocks) ≡ true →
    Some found ≡ find (is_next_overlap path last) stocks → next ≡ found.row.path →
    length (filter (is_next_overlap path (Some next)) stocks) < length (filter (is_next_overlap path last) stocks)
listed_fewer path next stocks last found apart is at =
    let all : length (filter (is_next_overlap path last) stocks) ≡ suc (length (filter (is_next_overlap path (Some found.row.path)) stocks)) =
    ap length (next_overlap path last stocks found apart (sym is)) in
    let same : length (filter (is_next_overlap path (Some next)) stocks) ≡ length (filter (is_next_overlap path (Some found.row.path)) stocks) =
    ap (λ (p : List (List ℕ)). length (filter (is_next_overlap path (Some p)) stocks)) at in
    omega (arith, all, same)

-- ---- rows that are taken out

-- stocks whose rows are apart stand in order of path
in_front : (stock : Stock) (stocks : List Stock) → list_all (is_apart stock.row) (rows_of stocks) ≡ true →
    list_all (is_less (place_of stock)) (map place_of stocks) ≡ true
in_front stock [] all = refl
in_front stock (next ∷ stocks) all =
    let parts = and_parts (is_apart stock.row next.row) (list_all (is_apart stock.row) (rows_of stocks)) all in
    and_from (is_less (place_of stock) (place_of next)) (list_all (is_less (place_of stock)) (map place_of stocks))
    (apart_parts stock.row next.row parts.0).0 (in_front stock stocks parts.1)

stand_in_line : (stocks : List Stock) → are_apart (rows_of stocks) ≡ true → in_line stocks ≡ true
stand_in_line [] apart = refl
stand_in_line (stock ∷ stocks) apart =
    let parts = and_parts (list_all (is_apart stock.row) (rows_of stocks)) (are_apart (rows_of stocks)) apart in
    and_from (list_all (is_less (place_of stock)) (map place_of stocks)) (in_line stocks) (in_front stock stocks parts.0) (stand_in_line stocks parts.1)

-- by the paths of those that pass a test, the last first, these are taken out, and the others are left
pub chosen_out : (test other : Stock → Bool) (paths : List (List (List ℕ))) (stocks : List Stock) → ((stock : Stock) → other stock ≡ not (test stock)) →
    are_apart (rows_of stocks) ≡ true → paths ≡ reverse (map path_of (filter test stocks)) → taken_at paths stocks ≡ filter test stocks
chosen_out test other paths stocks opposite apart are =
    ap (λ (ps : List (List (List ℕ))). reverse (taken_stocks ps stocks)) are
    ∙ ap reverse (chosen_taken test other opposite stocks (stand_in_line stocks apart)) ∙ reverse-reverse (filter test stocks)

pub chosen_stay : (test other : Stock → Bool) (paths : List (List (List ℕ))) (stocks : List Stock) → ((stock : Stock) → other stock ≡ not (test stock)) →
    are_apart (rows_of stocks) ≡ true → paths ≡ reverse (map path_of (filter test stocks)) → without_stocks paths stocks ≡ filter other stocks
chosen_stay test other paths stocks opposite apart are =
    ap (λ (ps : List (List (List ℕ))). without_stocks ps stocks) are ∙ chosen_left test other opposite stocks (stand_in_line stocks apart)

-- no more are taken than there are paths
few_taken : (paths : List (List (List ℕ))) (stocks : List Stock) → length (taken_stocks paths stocks) ≤ length paths
few_taken [] stocks = omega arith
few_taken (path ∷ paths) stocks =
    let more = few_taken paths (filter (is_stock_elsewhere path) stocks) in
    let one = at_most (find (stock_at path) stocks) in
    let all = length-append (listed (find (stock_at path) stocks)) (taken_stocks paths (filter (is_stock_elsewhere path) stocks)) in
    omega (arith, more, one, all)
  where
    at_most : (o : Option Stock) → length (listed o) ≤ 1
    at_most None = omega arith
    at_most (Some s) = omega arith

-- what a loop over paths keeps, where so many of them are done
pub record IsTaking (paths : List (List (List ℕ))) (k : ℕ) (first stocks was now : List Stock) (room : ℕ) : Type 0 where
  pub left : without_stocks (drop k paths) stocks ≡ without_stocks paths first
  pub taken : now ++ taken_stocks (drop k paths) stocks ≡ was ++ taken_stocks paths first
  pub fits : length now + length (drop k paths) ≤ room

pub taking_next : (paths : List (List (List ℕ))) (k : ℕ) (d p : List (List ℕ)) (first stocks next was now more : List Stock) (room : ℕ) →
    IsTaking paths k first stocks was now room → k < length paths → p ≡ get_or paths k d → next ≡ filter (is_stock_elsewhere p) stocks →
    more ≡ now ++ listed (find (stock_at p) stocks) → IsTaking paths (k + 1) first next was more room
taking_next paths k d p first stocks next was now more room taking within is out comes =
    let cut : drop k paths ≡ p ∷ drop (k + 1) paths = drop_more paths k d within ∙ ap (λ q. q ∷ drop (k + 1) paths) (sym is) in
    record {
      left = ap (without_stocks (drop (k + 1) paths)) out ∙ ap (λ (ps : List (List (List ℕ))). without_stocks ps stocks) (sym cut) ∙ taking.left;
      taken = ap₂ (λ (ns ts : List Stock). ns ++ taken_stocks (drop (k + 1) paths) ts) comes out
          ∙ append_assoc now (listed (find (stock_at p) stocks)) (taken_stocks (drop (k + 1) paths) (filter (is_stock_elsewhere p) stocks))
          ∙ ap (λ (ps : List (List (List ℕ))). now ++ taken_stocks ps stocks) (sym cut) ∙ taking.taken;
      fits = room_next (length more) (length now) (length (listed (find (stock_at p) stocks))) (length (drop k paths)) (length (drop (k + 1) paths)) room
          (ap (λ (ss : List Stock). length ss) comes ∙ length-append now (listed (find (stock_at p) stocks)))
          (at_most (find (stock_at p) stocks)) (ap (λ (ps : List (List (List ℕ))). length ps) cut) taking.fits;
    }
  where
    at_most : (o : Option Stock) → length (listed o) ≤ 1
    at_most None = omega arith
    at_most (Some s) = omega arith

    room_next : (news olds one left rest room : ℕ) → news ≡ olds + one → one ≤ 1 → left ≡ suc rest → olds + left ≤ room → news + rest ≤ room
    room_next news olds one left rest room is few cut fits = omega (arith, is, few, cut, fits)

-- there is room for one more, where a path is left
pub taking_room : (paths : List (List (List ℕ))) (k : ℕ) (first stocks was now : List Stock) (room : ℕ) → IsTaking paths k first stocks was now room →
    k < length paths → length now < room
taking_room paths k first stocks was now room taking within =
    some (length now) (length (drop k paths)) (length paths) room taking.fits (length-drop k paths) within
  where
    some : (n left all room : ℕ) → n + left ≤ room → left ≡ all - k → k < all → n < room
    some n left all room fits is within = omega (arith, fits, is, within)

-- as many as there are paths are left at the end
pub taken_few : (paths : List (List (List ℕ))) (stocks : List Stock) → length (taken_at paths stocks) ≤ length paths
taken_few paths stocks =
    let few = few_taken paths stocks in let turned = length-reverse (taken_stocks paths stocks) in omega (arith, few, turned)

-- ---- marks of parts that are read

-- one row more is done
pub marking_next : (stocks : List Stock) (k : ℕ) (d : Stock) (s : Stock) (first now next : List Running) → k < length stocks → s ≡ get_or stocks k d →
    marked_from (drop k stocks) now ≡ marked_from stocks first → next ≡ map (marked s.row.path s.row.stamp) now →
    marked_from (drop (k + 1) stocks) next ≡ marked_from stocks first
marking_next stocks k d s first now next within is so then_next =
    let cut : drop k stocks ≡ s ∷ drop (k + 1) stocks = drop_more stocks k d within ∙ ap (λ t. t ∷ drop (k + 1) stocks) (sym is) in
    ap (marked_from (drop (k + 1) stocks)) then_next ∙ ap (λ ss. marked_from ss now) (sym cut) ∙ so

-- jobs whose parts are marked are the same jobs
pub marked_jobs : (by_clean : Bool) (stocks : List Stock) (jobs : List Running) → jobs_of (marked_by by_clean stocks jobs) ≡ jobs_of jobs
marked_jobs false stocks jobs = refl
marked_jobs true [] jobs = refl
marked_jobs true (stock ∷ stocks) jobs =
    marked_jobs true stocks (map (marked stock.row.path stock.row.stamp) jobs)
    ∙ jobs_marked stock.row.path stock.row.stamp jobs (map (marked stock.row.path stock.row.stamp) jobs) refl

-- ---- rows that are removed by a test

module _ (test other : Row → Bool) (opposite : (row : Row) → other row ≡ not (test row)) where
  -- a row that stays isn't one that goes
  stays_not : (row : Row) → other row ≡ true → test row ≡ false
  stays_not row stays = not-true (test row) (sym (opposite row) ∙ stays)

  -- the rows that are not there any more are those that pass the test
  pub removed_chosen : (next : ℕ) (rows : List Row) → AreStampedBelow next rows → removed_rows rows (filter other rows) ≡ filter test rows
  removed_chosen next rows stamped = filter_alike (is_gone (filter other rows)) test rows each
    where
      each : (row : Row) → Contains rows row → is_gone (filter other rows) row ≡ test row
      each row among = ap not (same_test (list_any (has_stamp row.stamp) (filter other rows)) (other row) stay there ∙ opposite row) ∙ twice (test row)
        where
          twice : (b : Bool) → not (not b) ≡ b
          twice true = refl
          twice false = refl

          stay : list_any (has_stamp row.stamp) (filter other rows) ≡ true → other row ≡ true
          stay is =
              let (one, within, same) = any_contains (has_stamp row.stamp) (filter other rows) is in
              let (also, keeps) = filtered_contains other rows one within in
              subst (λ (r : Row). other r ≡ true) (one_stamp rows one row stamped.differ also among (eqb-true one.stamp row.stamp same)) keeps

          there : other row ≡ true → list_any (has_stamp row.stamp) (filter other rows) ≡ true
          there keeps =
              contains_any (has_stamp row.stamp) (filter other rows) row (contains_filter other rows row keeps among) (eq-eqb row.stamp row.stamp refl)

  -- the path of a row that stays isn't that of one that goes
  keeps_other : (rows : List Row) (row : Row) → are_apart rows ≡ true → Contains rows row → other row ≡ true → is_kept_dirty (filter test rows) row.path ≡ true
  keeps_other rows row apart among stays =
      ap not (none_passes (is_at_path row.path) (filter test rows)
      (λ one within.
      elim (is_at_path row.path one) as (λ b. is_at_path row.path one ≡ b → b ≡ false) [
        | true ↦ λ at.
            let (also, goes) = filtered_contains test rows one within in
            absurd (both_ways (test row) (stays_not row stays)
            (subst (λ (r : Row). test r ≡ true) (apart_once rows one row apart also among (same_names-eq one.path row.path at)) goes))
        | false ↦ λ off. refl
      ] refl))

  -- where no kept row is at the path of one that goes, as many kept rows have no row as before
  pub alone_same : (rows : List Row) (kept : List KeptRow) →
      ((one : KeptRow) → Contains kept one → list_any (is_at_path one.path) (filter test rows) ≡ false) →
      filter (is_alone (filter other rows)) kept ≡ filter (is_alone rows) kept
  alone_same rows kept free =
      filter_alike (is_alone (filter other rows)) (is_alone rows) kept
      (λ one among.
      ap not
      (sym (ap (λ b. b || list_any (is_at_path one.path) (filter other rows)) (free one among))
      ∙ sym (any_parted test other (is_at_path one.path) opposite rows)))

  -- and none of those that go is at the path of one
  pub unkept_each : (stocks : List Stock) (kept : List KeptRow) →
      ((one : KeptRow) → Contains kept one → list_any (is_at_path one.path) (rows_of stocks) ≡ false) →
      count_by (is_unkept (map mark_of kept)) stocks ≡ length stocks
  unkept_each [] kept free = refl
  unkept_each (stock ∷ stocks) kept free =
      let more = unkept_each stocks kept (λ one among. (or_false (is_at_path one.path stock.row) (list_any (is_at_path one.path) (rows_of stocks)) (free one among)).1) in
      let head : count_by (is_unkept (map mark_of kept)) (stock ∷ stocks) ≡ one_if (is_unkept (map mark_of kept) stock) + count_by (is_unkept (map mark_of kept)) stocks =
      sum_by-cons (λ (s : Stock). cond (is_unkept (map mark_of kept) s) 1 0) stock stocks in
      let here : one_if (is_unkept (map mark_of kept) stock) ≡ 1 =
      ap one_if (no_mark_at stock.row.path kept (λ one among. (or_false (is_at_path one.path stock.row) (list_any (is_at_path one.path) (rows_of stocks)) (free one among)).0)) in
      omega (arith, more, head, here)
    where
      or_false : (a b : Bool) → (a || b) ≡ false → (a ≡ false) × (b ≡ false)
      or_false true b is = absurd (both_ways true is refl)
      or_false false b is = (refl, is)

      no_mark_at : (path : List (List ℕ)) (some : List KeptRow) → ((one : KeptRow) → Contains some one → same_names path one.path ≡ false) →
          is_unkept_at (map mark_of some) path ≡ true
      no_mark_at path [] none = refl
      no_mark_at path (one ∷ some) none =
          unkept_more (map mark_of some) (mark_of one) path
          ∙ ap₂ (λ (a b : Bool). not a && b) (none one (contains_first one some)) (no_mark_at path some (λ next among. none next (contains_more one some next among)))

  -- so many paths go as rows do, and as kept rows do that have none: those are left that the model counts
  pub paths_left : (stocks : List Stock) (kept left : List KeptRow) (paths gone new : ℕ) →
      ((one : KeptRow) → Contains left one → list_any (is_at_path one.path) (filter test (rows_of stocks)) ≡ false) →
      length (filter (is_alone (rows_of stocks)) left) + gone ≡ length (filter (is_alone (rows_of stocks)) kept) →
      paths ≡ length (rows_of stocks) + length (filter (is_alone (rows_of stocks)) kept) →
      new + count_by (is_unkept (map mark_of left)) (filter (row_passes test) stocks) + gone ≡ paths →
      new ≡ length (filter other (rows_of stocks)) + length (filter (is_alone (filter other (rows_of stocks))) left)
  paths_left stocks kept left paths gone new free alone whole counted =
      let each : count_by (is_unkept (map mark_of left)) (filter (row_passes test) stocks) ≡ length (filter (row_passes test) stocks) =
      unkept_each (filter (row_passes test) stocks) left
      (λ one among. subst (λ (rs : List Row). list_any (is_at_path one.path) rs ≡ false) (sym (rows_left test stocks)) (free one among)) in
      let as_rows : length (filter (row_passes test) stocks) ≡ length (filter test (rows_of stocks)) =
      sym (length-map (filter (row_passes test) stocks) row_of) ∙ ap length (rows_left test stocks) in
      let parted = length-filter_both test other opposite (rows_of stocks) in
      let same : length (filter (is_alone (filter other (rows_of stocks))) left) ≡ length (filter (is_alone (rows_of stocks)) left) =
      ap length (alone_same (rows_of stocks) left free) in
      omega (arith, each, as_rows, parted, same, alone, whole, counted)

  -- ---- the work state

  module _ {D K : Type 0} (by_clean : Bool) (number : ℕ) (old new : Parts D K) (work : WorkState) (apart : are_apart (rows_of old.rows) ≡ true)
      (are : AreWork old work) (rows : new.rows ≡ filter (row_passes other) old.rows)
      (jobs : new.jobs ≡ marked_by by_clean (filter (row_passes test) old.rows) old.jobs)
      (debris : new.debris.list ≡ with_remains by_clean (jobs_of old.jobs) (filter (row_passes test) old.rows) old.debris.list) where
    abbrev gone : List Row
    gone = filter test (rows_of old.rows)

    stays_in : (stock : Stock) → Contains new.rows stock → Contains old.rows stock × (other stock.row ≡ true)
    stays_in stock among = filtered_contains (row_passes other) old.rows stock (subst (λ ss. Contains ss stock) rows among)

    -- the work state once they are removed, where what is marked of the parts that are read is right
    pub work_removed : ((running : Running) → Contains new.jobs running → IsPart (without_removed by_clean gone work) running.lent) →
        AreWork new (without_removed by_clean gone work)
    work_removed parts = record {
      stocks = λ stock among.
          let (there, stays) = stays_in stock among in record {
            way = (are.stocks stock there).way;
            mark = dirty_left gone work.dirty stock.row.path (keeps_other (rows_of old.rows) stock.row apart (contains_map row_of old.rows stock there) stays)
                ∙ (are.stocks stock there).mark;
            right = (are.stocks stock there).right;
          };
      jobs = ap jobs_of jobs ∙ marked_jobs by_clean (filter (row_passes test) old.rows) old.jobs ∙ are.jobs;
      cleaned = parts;
      debris = debris
          ∙ ap (with_remains by_clean (jobs_of old.jobs) (filter (row_passes test) old.rows)) are.debris
          ∙ remains_added by_clean (jobs_of old.jobs) work (filter (row_passes test) old.rows) work.debris are.jobs
          (λ one among. (are.stocks one (filtered_contains (row_passes test) old.rows one among).0).mark)
          ∙ ap (λ (rs : List Row). add_debris by_clean (filter (leaves_debris work) rs) work.debris) (rows_left test old.rows);
    }

  -- what is ready to be stored stays so where rows only go
  pub ready_left : {D K : Type 0} (old new : Parts D K) → new.base ≡ old.base → new.rows ≡ filter (row_passes other) old.rows → new.jobs ≡ old.jobs →
      AreReady old → AreReady new
  ready_left {D} {K} old new base rows jobs ready running among =
      subst (λ b. IsReadyFor b.identity (rows_of new.rows) running.card.task running.kept) (sym base)
      (fewer running.card.task (ready running (subst (λ js. Contains js running) jobs among)))
    where
      fewer : (begun : Task) → IsReadyFor old.base.identity (rows_of old.rows) begun running.kept →
          IsReadyFor old.base.identity (rows_of new.rows) begun running.kept
      fewer (task.Make path stamp) had = λ row within same.
          had row (filtered_contains other (rows_of old.rows) row
          (subst (λ rs. Contains rs row) (ap rows_of rows ∙ rows_left other old.rows) within)).0 same
      fewer (task.Wipe path) had = tt
