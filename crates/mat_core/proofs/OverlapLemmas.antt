-- What an invalidation lists and takes out, and what the model serves of it.
use Rattle.std.proofs.Common.{◌≡◌, ◌≤◌, ◌<◌, ◌+◌, ◌*◌, ◌^◌, ℕ, nat_lt, Bool, true, false, not, ◌&&◌, ◌||◌, cond, List, [], ◌∷◌, map, filter, length, count_by, Some, None, refl, sym, ap, subst, ◌∙◌, le_trans, arith}
use Rattle.std.specs.List.{list_all, list_any}
use Rattle.std.proofs.lemmas.Bool.{and_parts, both_ways, not-true}
use Rattle.std.proofs.lemmas.List.{length-map, length-reverse}
use Rattle.std.proofs.lemmas.List.Filters.{length-filter_both}
use Rattle.std.proofs.lemmas.List.Sums.{sum_by-cons}
use Rattle.mat_path.proofs.Elements.{filtered_contains, none_passes}
use Rattle.mat_path.proofs.SameNames.{same_names-eq}
use Rattle.mat_path.specs.Names.{overlap}
use Rattle.mat_tree.specs.Trees.{ascends_by, is_after_by}
use Rattle.mat_model.specs.declared.answers.Answer.TheVariants as answer
use Rattle.mat_model.specs.declared.answers.Device.TheVariants as device
use Rattle.mat_model.specs.declared.answers.FaultNote.{FaultNote}
use Rattle.mat_model.specs.declared.answers.Limit.TheVariants as limit
use Rattle.mat_model.specs.declared.answers.Reply.{Reply}
use Rattle.mat_model.specs.declared.answers.Reply.TheVariants as reply
use Rattle.mat_model.specs.declared.book.Book.{Book}
use Rattle.mat_model.specs.declared.book.Row.{Row}
use Rattle.mat_model.specs.declared.book.Ticket.{Ticket}
use Rattle.mat_model.specs.declared.limits.Limits.{Limits}
use Rattle.mat_model.specs.declared.requests.Asked.{Asked}
use Rattle.mat_model.specs.declared.requests.Asked.TheVariants as asked
use Rattle.mat_model.specs.Gate.{Served, is_live}
use Rattle.mat_model.specs.History.{Point, answer_asked, is_store_fault, next_number}
use Rattle.mat_model.specs.Kept.{KeptRow, may_fail, overlaps_kept}
use Rattle.mat_model.specs.Requests.{at_moment}
use Rattle.mat_model.specs.Room.{full_asked, full_table, held_bytes, held_for, is_alone, row_paths}
use Rattle.mat_model.specs.Rows.{are_apart, is_at_path, is_clear_of, overlaps_row}
use Rattle.mat_model.specs.Tickets.{is_lost, is_open, left_ticket, with_answer, without_rows}
use Rattle.mat_model.specs.WorkState.{WayOf}
use Rattle.model_laws.specs.KeptRules.{KeptAscend, path_of_kept}
use Rattle.model_laws.specs.PointRules.{IsPoint}
use Rattle.model_laws.specs.RoomRules.{IsRoomy}
use Rattle.model_laws.proofs.RoomLists.{count_fewer}
use Rattle.model_laws.proofs.RowCases.{either_served}
use Rattle.row_book.specs.declared.stock.Stock.{Stock}
use Rattle.row_book.specs.Stocks.{is_clear_stock, overlaps_stock, path_of, row_of, rows_of}
use Rattle.row_book.specs.Whole.{without_stocks}
use Rattle.row_book.proofs.HeldLemmas.{apart_left}
use Rattle.row_book.proofs.RowLemmas.{rows_left}
use Rattle.job_book.specs.Jobs.{jobs_of}
use Rattle.kept_book.specs.declared.mark.Mark.{Mark}
use Rattle.kept_book.specs.Marks.{mark_of}
use Rattle.mat_core.specs.Beginning.{has_no_row}
use Rattle.mat_core.specs.Books.{StandFor}
use Rattle.mat_core.specs.Falling.{MayAllRemain, is_unkept, one_if}
use Rattle.mat_core.specs.Removing.{IsOverlap, gone_marks, taken_at}
use Rattle.mat_core.specs.Replacing.{AreRuled}
use Rattle.mat_core.specs.Rooms.{spent_in}
use Rattle.mat_core.specs.declared.invalidating.Overlap.{Overlap}
use Rattle.mat_core.specs.declared.parts.Parts.{Parts}
use Rattle.mat_core.proofs.BeginLemmas.{alone_left}
use Rattle.mat_core.proofs.DeclareLemmas.{ruled_small}
use Rattle.mat_core.proofs.FallLemmas.{any_parted, count_more, longer, no_mark, overlap_most, unmarked_all}
use Rattle.mat_core.proofs.RemoveLemmas.{chosen_out, chosen_stay}
use Rattle.mat_core.proofs.ReplaceLemmas.{ruled_remain}
use Rattle.mat_core.proofs.ServeLemmas.{entries_alone, no_table, spent_same}
use Rattle.mat_core.proofs.WriteLemmas.{ruled_apart}

never : (b : Bool) → (b && false) ≡ false
never true = refl
never false = refl

pub no_more : (n : ℕ) → n ≡ n + 0
no_more n = omega arith

-- ---- numbers that fit

pub pieces_fit : {D K : Type 0} (number : ℕ) (old : Parts D K) → AreRuled number old → 2 * length old.jobs + length old.rows < 2 ^ 64
pieces_fit number old ruled =
    let small = ruled_small number old ruled in
    let jobs = small.jobs in let rows = small.rows in let paths = small.paths in
    omega (arith, jobs, rows, paths)

-- as many rows are listed as overlap the path
pub overlap_few : (path : List (List ℕ)) (marks : List Mark) (stocks : List Stock) (listed : Overlap) → IsOverlap path marks stocks listed →
    (length listed.rows.items ≡ length (filter (overlaps_stock path) stocks)) × (length listed.rows.items ≤ length stocks)
overlap_few path marks stocks listed is =
    let same : length listed.rows.items ≡ length (filter (overlaps_stock path) stocks) =
    ap length is.rows ∙ length-reverse (map path_of (filter (overlaps_stock path) stocks)) ∙ length-map (filter (overlaps_stock path) stocks) path_of in
    let most = (overlap_most marks path stocks).0 in
    (same, omega (arith, same, most))

-- the kept rows that overlap a path and have no row are counted among the paths, beside the rows
pub alone_fits : {D K : Type 0} (old : Parts D K) (point : Point) (path : List (List ℕ)) → StandFor old point →
    length old.rows + count_by (has_no_row old.rows) (gone_marks path old.kept.marks) ≤ old.paths
alone_fits old point path stands =
    let whole = stands.paths in
    let same : count_by (has_no_row old.rows) (gone_marks path old.kept.marks) ≡ count_by (has_no_row old.rows) (gone_marks path (map mark_of point.kept)) =
    ap (λ ms. count_by (has_no_row old.rows) (gone_marks path ms)) stands.kept in
    let split = alone_left path old.rows point.kept in
    let all : length (filter (is_alone (rows_of old.rows)) point.kept) ≡ length (filter (is_alone point.book.rows) point.kept) =
    ap (λ (b : Book). length (filter (is_alone b.rows) point.kept)) stands.book in
    let rows : length old.rows ≡ length point.book.rows = sym (length-map old.rows row_of) ∙ ap (λ (b : Book). length b.rows) stands.book in
    omega (arith, whole, same, split, all, rows)

-- ---- what is listed and taken out

module _ {D K : Type 0} (number : ℕ) (path : List (List ℕ)) (old : Parts D K) (ruled : AreRuled number old) (listed : Overlap)
    (is : IsOverlap path old.kept.marks old.rows listed) where
  pub overlap_taken : taken_at listed.rows.items old.rows ≡ filter (overlaps_stock path) old.rows
  overlap_taken = chosen_out (overlaps_stock path) (is_clear_stock path) listed.rows.items old.rows (λ stock. refl) (ruled_apart number old ruled) is.rows

  pub overlap_stays : without_stocks listed.rows.items old.rows ≡ filter (is_clear_stock path) old.rows
  overlap_stays = chosen_stay (overlaps_stock path) (is_clear_stock path) listed.rows.items old.rows (λ stock. refl) (ruled_apart number old ruled) is.rows

  pub overlap_remain : MayAllRemain false (jobs_of old.jobs) (taken_at listed.rows.items old.rows) old.debris.list
  overlap_remain =
      subst (λ ss. MayAllRemain false (jobs_of old.jobs) ss old.debris.list) (sym overlap_taken) (ruled_remain number path old ruled)

  -- the paths that go are counted
  pub marks_fit : length old.rows + count_by (has_no_row old.rows) listed.kept.items ≤ old.paths
  marks_fit = subst (λ ps. length old.rows + count_by (has_no_row old.rows) ps ≤ old.paths) (sym is.kept) (alone_fits old ruled.point path ruled.stands)

  pub rows_fit : (marks : List Mark) → count_by (is_unkept marks) (taken_at listed.rows.items old.rows) ≤ length old.rows
  rows_fit marks = subst (λ ss. count_by (is_unkept marks) ss ≤ length old.rows) (sym overlap_taken) (overlap_most marks path old.rows).1

-- ---- what the model serves

module _ (point : Point) (moment command : ℕ) (path : List (List ℕ)) where
  abbrev pub request : Asked
  request = asked.Invalidate command path

  abbrev pub gone : List Row
  gone = filter (overlaps_row path) point.book.rows

  abbrev pub left : List Row
  left = filter (is_clear_of path) point.book.rows

  -- the rows that overlap the path are gone
  abbrev pub cleared : Served
  cleared = record {
    reply = reply.Invalid (length gone);
    book = without_rows (next_number point) gone left (at_moment moment point.book);
  }

  -- nothing changes but the moment
  abbrev pub calm : Reply → Served
  calm said = record { reply = said; book = at_moment moment point.book }

  abbrev pub served : Served
  served = cond (is_live command point.book) cleared (calm reply.NotLive)

  -- a reply that is no failure of the state store
  answer_served : (said : Reply) → is_store_fault said ≡ false → answer_asked point moment request said ≡ served
  answer_served said is =
      ap (λ b. cond {A = Served} (may_fail request point.book point.kept && b) (calm said) served) is
      ∙ ap (λ b. cond {A = Served} b (calm said) served) (never (may_fail request point.book point.kept))

  pub answer_live : (n : ℕ) → is_live command point.book ≡ true → answer_asked point moment request (reply.Invalid n) ≡ cleared
  answer_live n live = answer_served (reply.Invalid n) refl ∙ ap (λ b. cond {A = Served} b cleared (calm reply.NotLive)) live

  pub answer_dead : is_live command point.book ≡ false → answer_asked point moment request reply.NotLive ≡ calm reply.NotLive
  answer_dead dead = answer_served reply.NotLive refl ∙ ap (λ b. cond {A = Served} b cleared (calm reply.NotLive)) dead

  pub answer_failed : (note : FaultNote) → list_any (overlaps_kept path) point.kept ≡ true → is_live command point.book ≡ true → note.device ≡ device.Keeper →
      answer_asked point moment request (reply.Fault note) ≡ calm (reply.Fault note)
  answer_failed note some live keeper =
      ap (λ b. cond {A = Served} ((b && is_live command point.book) && is_store_fault (reply.Fault note)) (calm (reply.Fault note)) served) some
      ∙ ap (λ b. cond {A = Served} (b && is_store_fault (reply.Fault note)) (calm (reply.Fault note)) served) live
      ∙ ap (λ d. cond {A = Served} (is_store_fault (reply.Fault (record note { device = d }))) (calm (reply.Fault note)) served) keeper

  -- ---- room

  fewer_held : (ways : List WayOf) (test : Row → Bool) (rows : List Row) → held_bytes ways (filter test rows) ≤ held_bytes ways rows
  fewer_held ways test [] = omega arith
  fewer_held ways test (row ∷ rows) =
      let more = fewer_held ways test rows in
      let all : held_bytes ways (row ∷ rows) ≡ held_for ways row + held_bytes ways rows = sum_by-cons (held_for ways) row rows in
      elim (test row) as (λ b. held_bytes ways (cond b (row ∷ filter test rows) (filter test rows)) ≤ held_bytes ways (row ∷ rows)) [
        | true ↦
            let head : held_bytes ways (row ∷ filter test rows) ≡ held_for ways row + held_bytes ways (filter test rows) =
            sum_by-cons (held_for ways) row (filter test rows) in
            omega (arith, more, all, head)
        | false ↦ omega (arith, more, all)
      ]

  fewer_open : (number : ℕ) (removed others : List Row) (tickets : List Ticket) →
      count_by is_open (map (left_ticket number removed others) tickets) ≤ count_by is_open tickets
  fewer_open number removed others tickets = count_fewer is_open (left_ticket number removed others) only tickets
    where
      only : (ticket : Ticket) → is_open (left_ticket number removed others ticket) ≡ true → is_open ticket ≡ true
      only ticket is =
          elim (is_lost removed others ticket) as
          (λ b. is_open (cond b (with_answer number answer.Undeclared ticket) ticket) ≡ true → is_open ticket ≡ true)
          [ true ↦ λ so. absurd (both_ways false refl so) | false ↦ λ so. so ] is

-- as many kept rows more are alone as rows that are gone had one
alone_rise : (rows others removed : List Row) (stocks : List Stock) → are_apart (rows_of stocks) ≡ true → rows_of stocks ≡ removed →
    ((one : KeptRow) → one_if (is_alone others one) ≡ one_if (is_alone rows one) + one_if (list_any (is_at_path one.path) removed)) → (some : List KeptRow) →
    KeptAscend some →
    length (filter (is_alone others) some) + count_by (is_unkept (map mark_of some)) stocks ≡ length (filter (is_alone rows) some) + length stocks
alone_rise rows others removed stocks apart same each [] up = let all = unmarked_all stocks in omega (arith, all)
alone_rise rows others removed stocks apart same each (one ∷ some) up =
    let parts = and_parts (list_all (is_after_by path_of_kept one.path) some) (ascends_by path_of_kept some) up in
    let more = alone_rise rows others removed stocks apart same each some parts.1 in
    let marks : count_by (is_unkept (map mark_of (one ∷ some))) stocks + one_if (list_any (is_at_path one.path) (rows_of stocks))
    ≡ count_by (is_unkept (map mark_of some)) stocks = count_more (map mark_of some) (mark_of one) stocks apart (no_mark one some parts.0) in
    let alone = each one in
    let there : one_if (list_any (is_at_path one.path) (rows_of stocks)) ≡ one_if (list_any (is_at_path one.path) removed) =
    ap (λ (rs : List Row). one_if (list_any (is_at_path one.path) rs)) same in
    omega (arith, more, marks, alone, there, longer (is_alone others) one some, longer (is_alone rows) one some)

-- a path that overlaps one isn't that of a row that is clear of it
clear_not_at : (at path : List (List ℕ)) (rows : List Row) → overlap at path ≡ true → list_any (is_at_path at) (filter (is_clear_of path) rows) ≡ false
clear_not_at at path rows meet =
    none_passes (is_at_path at) (filter (is_clear_of path) rows)
    (λ row among.
    elim (is_at_path at row) as (λ b. is_at_path at row ≡ b → b ≡ false) [
      | true ↦ λ is.
          absurd (both_ways (overlaps_row path row) (not-true (overlaps_row path row) (filtered_contains (is_clear_of path) rows row among).1)
          (subst (λ (p : List (List ℕ)). overlap p path ≡ true) (sym (same_names-eq row.path at is)) meet))
      | false ↦ λ is. refl
    ] refl)

-- and one that doesn't isn't that of a row that overlaps it
pub gone_not_at : (at path : List (List ℕ)) (rows : List Row) → overlap at path ≡ false → list_any (is_at_path at) (filter (overlaps_row path) rows) ≡ false
gone_not_at at path rows clear =
    none_passes (is_at_path at) (filter (overlaps_row path) rows)
    (λ row among.
    elim (is_at_path at row) as (λ b. is_at_path at row ≡ b → b ≡ false) [
      | true ↦ λ is.
          absurd (both_ways (overlap at path) clear
          (subst (λ (p : List (List ℕ)). overlap p path ≡ true) (same_names-eq row.path at is) (filtered_contains (overlaps_row path) rows row among).1))
      | false ↦ λ is. refl
    ] refl)

alone_each : (path : List (List ℕ)) (rows : List Row) (one : KeptRow) →
    one_if (is_alone (filter (is_clear_of path) rows) one)
    ≡ one_if (is_alone rows one) + one_if (list_any (is_at_path one.path) (filter (overlaps_row path) rows))
alone_each path rows one =
    by (overlap one.path path) refl
    ∙ ap (λ b. one_if (not b) + one_if (list_any here (filter (overlaps_row path) rows)))
    (sym (any_parted (overlaps_row path) (is_clear_of path) here (λ row. refl) rows))
  where
    here : Row → Bool
    here row = is_at_path one.path row

    by : (b : Bool) → overlap one.path path ≡ b →
        one_if (not (list_any here (filter (is_clear_of path) rows)))
        ≡ one_if (not (list_any here (filter (overlaps_row path) rows) || list_any here (filter (is_clear_of path) rows)))
        + one_if (list_any here (filter (overlaps_row path) rows))
    by true meet =
        let none = clear_not_at one.path path rows meet in
        ap (λ b. one_if (not b)) none
        ∙ both (list_any here (filter (overlaps_row path) rows))
        ∙ sym (ap (λ b. one_if (not (list_any here (filter (overlaps_row path) rows) || b)) + one_if (list_any here (filter (overlaps_row path) rows))) none)
      where
        both : (b : Bool) → 1 ≡ one_if (not (b || false)) + one_if b
        both true = refl
        both false = refl
    by false clear =
        let none = gone_not_at one.path path rows clear in
        both (one_if (not (list_any here (filter (is_clear_of path) rows))))
        ∙ sym (ap (λ b. one_if (not (b || list_any here (filter (is_clear_of path) rows))) + one_if b) none)
      where
        both : (n : ℕ) → n ≡ n + 0
        both n = omega arith

-- no more paths have a row or a kept row where rows go
pub paths_fewer : (path : List (List ℕ)) (stocks : List Stock) (kept : List KeptRow) → are_apart (rows_of stocks) ≡ true → KeptAscend kept →
    length (filter (is_clear_of path) (rows_of stocks)) + length (filter (is_alone (filter (is_clear_of path) (rows_of stocks))) kept)
    ≤ length (rows_of stocks) + length (filter (is_alone (rows_of stocks)) kept)
paths_fewer path stocks kept apart ascend =
    let rise = alone_rise (rows_of stocks) (filter (is_clear_of path) (rows_of stocks)) (filter (overlaps_row path) (rows_of stocks))
    (filter (overlaps_stock path) stocks) (apart_left (overlaps_stock path) stocks apart) (rows_left (overlaps_row path) stocks)
    (alone_each path (rows_of stocks)) kept ascend in
    let parted = length-filter_both (overlaps_row path) (is_clear_of path) (λ row. refl) (rows_of stocks) in
    let as_rows : length (filter (overlaps_stock path) stocks) ≡ length (filter (overlaps_row path) (rows_of stocks)) =
    sym (length-map (filter (overlaps_stock path) stocks) row_of) ∙ ap length (rows_left (overlaps_row path) stocks) in
    omega (arith, rise, parted, as_rows)

-- the entries alone decide whether there is room: no table grows
pub invalid_room : {D K : Type 0} (limits : Limits) (old : Parts D K) (point : Point) (moment command : ℕ) (path : List (List ℕ)) → StandFor old point →
    IsPoint point → IsRoomy limits point →
    full_asked limits point moment (asked.Invalidate command path) ≡ cond (nat_lt limits.history (spent_in old + 1)) (Some limit.History) None
invalid_room limits old point moment command path stands rules roomy =
    entries_alone limits point (asked.Invalidate command path) (served point moment command path) few
    (either_served (λ (s : Served). full_table limits point (asked.Invalidate command path) s ≡ None) (is_live command point.book)
    (cleared point moment command path) (calm point moment command path reply.NotLive)
    (λ live.
    no_table limits point (asked.Invalidate command path) (cleared point moment command path) refl few
    (le_trans fewer roomy.rows)
    (le_trans (fewer_held point moment command path point.work.ways (is_clear_of path) point.book.rows) roomy.held)
    (le_trans (fewer_open point moment command path (next_number point) (gone point moment command path) (left point moment command path) point.book.tickets)
    roomy.asked) roomy.holds)
    (λ dead.
    no_table limits point (asked.Invalidate command path) (calm point moment command path reply.NotLive) refl few roomy.rows roomy.held roomy.asked roomy.holds))
    ∙ ap (λ n. cond (nat_lt limits.history (n + 1)) (Some limit.History) None) (sym (spent_same old point stands))
  where
    few : point.nodes + 0 ≤ limits.nodes
    few = let most = roomy.nodes in omega (arith, most)

    old_rows : rows_of old.rows ≡ point.book.rows
    old_rows = ap (λ (b : Book). b.rows) stands.book

    fewer : length (filter (is_clear_of path) point.book.rows) + length (filter (is_alone (filter (is_clear_of path) point.book.rows)) point.kept)
        ≤ row_paths point.book point.kept
    fewer =
        subst (λ (rs : List Row). length (filter (is_clear_of path) rs) + length (filter (is_alone (filter (is_clear_of path) rs)) point.kept)
        ≤ length rs + length (filter (is_alone rs) point.kept)) old_rows
        (paths_fewer path old.rows point.kept (subst (λ rs. are_apart rs ≡ true) (sym old_rows) rules.work.apart) rules.kept.order)
