-- A begin that started, on the books of a core: its parts stand for the point behind its entry.
use Rattle.std.proofs.Common.{◌≡◌, ◌≤◌, ◌+◌, ◌*◌, ℕ, suc, Bool, true, false, not, ◌||◌, cond, List, [], ◌∷◌, ◌++◌, map, filter, find, length, count_by, Contains, Option, Some, None, inl, inr, refl, sym, ap, subst, ◌∙◌, arith}
use Rattle.std.specs.List.{list_any}
use Rattle.std.specs.Option.{is_none, option_map}
use Rattle.std.specs.Vec.{vec_capacity}
use Rattle.std.proofs.lemmas.Bool.{both_ways}
use Rattle.std.proofs.lemmas.List.{map-append}
use Rattle.std.proofs.lemmas.List.Sums.{sum_by-cons}
use Rattle.std.proofs.lemmas.List.Elements.{Contains-append_cases}
use Rattle.hall_lock.specs.declared.By.{By}
use Rattle.mat_path.proofs.Elements.{contains_cases, mapped_contains}
use Rattle.mat_path.proofs.SameNames.{same_names-eq, same_names-refl}
use Rattle.mat_path.specs.Names.{overlap, same_names}
use Rattle.mat_model.specs.declared.answers.Reply.TheVariants as reply
use Rattle.mat_model.specs.declared.book.Book.{Book}
use Rattle.mat_model.specs.declared.book.Row.{Row}
use Rattle.mat_model.specs.declared.entries.Task.{Task}
use Rattle.mat_model.specs.declared.entries.Task.TheVariants as task
use Rattle.mat_model.specs.History.{Point, after, next_number}
use Rattle.mat_model.specs.Kept.{KeptRow, is_kept_clear}
use Rattle.mat_model.specs.Room.{is_alone, row_paths}
use Rattle.mat_model.specs.Rows.{is_at_path}
use Rattle.mat_model.specs.WorkState.{Debris, Job, WorkState, is_dirty, is_not_below, path_of_task, started}
use Rattle.core_laws.proofs.BeginLemmas.{source_of}
use Rattle.row_book.specs.declared.stock.Stock.{Stock}
use Rattle.row_book.specs.Stocks.{marked_stock, rows_of, stock_at, with_mark}
use Rattle.job_book.specs.Jobs.{job_of, jobs_of, lent_of}
use Rattle.job_book.specs.declared.running.LentPart.{LentPart}
use Rattle.job_book.specs.declared.running.Running.{Running}
use Rattle.kept_book.specs.Marks.{is_clear_mark, is_mark_unlisted, mark_of, overlaps_mark, path_of_mark}
use Rattle.kept_book.proofs.ClearLemmas.{clear_left}
use Rattle.kept_book.proofs.LawLemmas.{clear_in_step}
use Rattle.core_devices.specs.Events.{read_at}
use Rattle.mat_core.specs.Beginning.{HaveRoomFor, HaveSameBooks, IsBegunEntered, absorbed, begin_entry, has_no_row, unmarked, with_place}
use Rattle.mat_core.specs.Begins.{AreStampsGone}
use Rattle.mat_core.specs.Books.{AreWork, IsPart, IsStock, StandFor, book_in, is_same_stamp}
use Rattle.mat_core.specs.Orders.{gone_for}
use Rattle.mat_core.specs.PutDown.{IsPutDown, IsUncleaned}
use Rattle.mat_core.specs.Rooms.{spent_in}
use Rattle.mat_core.specs.Served.{StandsStill}
use Rattle.mat_core.specs.declared.parts.Parts.{Parts}
use Rattle.mat_core.specs.declared.preparing.Order.{Order}

-- ---- the same books

-- a book by its parts
pub same_book : {D K : Type 0} (old new : Parts D K) → new.first ≡ old.first → new.moment ≡ old.moment → new.gate ≡ old.gate →
    rows_of new.rows ≡ rows_of old.rows → new.holds ≡ old.holds → new.tickets.all ≡ old.tickets.all → book_in new ≡ book_in old
same_book {D} {K} old new first moment gate rows holds tickets =
    ap (λ f. record (book_in new) { first = f }) first
    ∙ ap (λ m. record (book_in new) { first = old.first; now = m }) moment
    ∙ ap (λ g. record (book_in new) { first = old.first; now = old.moment; state = g.state; live = g.live; waiting = g.waiting; soft = g.soft }) gate
    ∙ ap (λ r. record (book_in old) { rows = r; holds = new.holds; tickets = new.tickets.all }) rows
    ∙ ap (λ h. record (book_in old) { holds = h; tickets = new.tickets.all }) holds
    ∙ ap (λ t. record (book_in old) { tickets = t }) tickets

-- parts with the same books and jobs stand for the same point
pub books_stand : {D K : Type 0} (old new : Parts D K) → HaveSameBooks old new → new.jobs ≡ old.jobs → StandsStill old new
books_stand old new same jobs point stands = record {
  book = same_book old new same.first same.moment same.gate (ap rows_of same.rows) same.holds (ap (λ t. t.all) same.tickets) ∙ stands.book;
  work = record {
    stocks = λ stock among. stands.work.stocks stock (subst (λ r. Contains r stock) same.rows among);
    jobs = ap jobs_of jobs ∙ stands.work.jobs;
    cleaned = λ running among. stands.work.cleaned running (subst (λ j. Contains j running) jobs among);
    debris = same.debris ∙ stands.work.debris;
  };
  kept = same.kept ∙ stands.kept;
  nodes = same.nodes ∙ stands.nodes;
  paths = same.paths ∙ stands.paths;
  history = same.history ∙ stands.history;
}

-- ---- rows and marks

-- a mark that goes changes no row
rows_marked : (path : List (List ℕ)) (stocks : List Stock) → rows_of (map (marked_stock path false) stocks) ≡ rows_of stocks
rows_marked path [] = refl
rows_marked path (stock ∷ stocks) =
    elim (stock_at path stock) as (λ b. (cond b (with_mark false stock) stock).row ∷ rows_of (map (marked_stock path false) stocks) ≡ stock.row ∷ rows_of stocks) [
      | true ↦ ap (λ (rs : List Row). stock.row ∷ rs) (rows_marked path stocks)
      | false ↦ ap (λ (rs : List Row). stock.row ∷ rs) (rows_marked path stocks)
    ]

pub rows_unmarked : (begun : Task) (stocks : List Stock) → rows_of (unmarked begun stocks) ≡ rows_of stocks
rows_unmarked (task.Make path stamp) stocks = rows_marked path stocks
rows_unmarked (task.Wipe path) stocks = refl

-- a path that goes isn't dirty any more, and another one is as it was
clean_path : (path : List (List ℕ)) (dirty : List (List (List ℕ))) → is_dirty (filter (λ (other : List (List ℕ)). not (same_names other path)) dirty) path ≡ false
clean_path path [] = refl
clean_path path (one ∷ dirty) = by (same_names one path) refl (same_names path one) refl (clean_path path dirty)
  where
    rest : List (List (List ℕ))
    rest = filter (λ (other : List (List ℕ)). not (same_names other path)) dirty

    by : (b : Bool) → same_names one path ≡ b → (c : Bool) → same_names path one ≡ c → is_dirty rest path ≡ false →
        is_dirty (cond (not (same_names one path)) (one ∷ rest) rest) path ≡ false
    by true is c same more = ap (λ b. is_dirty (cond (not b) (one ∷ rest) rest) path) is ∙ more
    by false is true same more =
        absurd (both_ways (same_names one path) is (subst (λ (p : List (List ℕ)). same_names p path ≡ true) (same_names-eq path one same) (same_names-refl path)))
    by false is false same more =
        ap (λ b. is_dirty (cond (not b) (one ∷ rest) rest) path) is ∙ ap (λ b. b || is_dirty rest path) same ∙ more

dirty_other : (path : List (List ℕ)) (at : List (List ℕ)) (dirty : List (List (List ℕ))) → same_names at path ≡ false →
    is_dirty (filter (λ (other : List (List ℕ)). not (same_names other path)) dirty) at ≡ is_dirty dirty at
dirty_other path at [] apart = refl
dirty_other path at (one ∷ dirty) apart = by (same_names one path) refl (dirty_other path at dirty apart)
  where
    rest : List (List (List ℕ))
    rest = filter (λ (other : List (List ℕ)). not (same_names other path)) dirty

    by : (b : Bool) → same_names one path ≡ b → is_dirty rest at ≡ is_dirty dirty at →
        is_dirty (cond (not (same_names one path)) (one ∷ rest) rest) at ≡ (same_names at one || is_dirty dirty at)
    by true is more =
        ap (λ b. is_dirty (cond (not b) (one ∷ rest) rest) at) is ∙ more
        ∙ ap (λ b. b || is_dirty dirty at)
        (sym (subst (λ (p : List (List ℕ)). same_names at p ≡ false) (sym (same_names-eq one path is)) apart))
    by false is more = ap (λ b. is_dirty (cond (not b) (one ∷ rest) rest) at) is ∙ ap (λ b. same_names at one || b) more

-- ---- paths

-- a path has no row where no stock is at it
no_row_is : (path : List (List ℕ)) (stocks : List Stock) → has_no_row stocks path ≡ not (list_any (is_at_path path) (rows_of stocks))
no_row_is path [] = refl
no_row_is path (stock ∷ stocks) =
    elim (stock_at path stock) as (λ b. is_none (cond b (Some stock) (find (stock_at path) stocks)) ≡ not (b || list_any (is_at_path path) (rows_of stocks))) [
      | true ↦ refl
      | false ↦ no_row_is path stocks
    ]

-- one more is counted, or not
count_first : {X : Type 0} (test : X → Bool) (one : X) (some : List X) → count_by test (one ∷ some) ≡ cond (test one) 1 0 + count_by test some
count_first test one some = sum_by-cons (λ x. cond (test x) 1 0) one some

-- the kept rows at no row's path are those that stay and those that go
pub alone_left : (path : List (List ℕ)) (stocks : List Stock) (kept : List KeptRow) →
    length (filter (is_alone (rows_of stocks)) (filter (is_kept_clear path) kept))
    + count_by (has_no_row stocks) (map path_of_mark (filter (overlaps_mark path) (map mark_of kept))) ≡ length (filter (is_alone (rows_of stocks)) kept)
alone_left path stocks [] = refl
alone_left path stocks (one ∷ kept) =
    by (overlap one.path path) refl (is_alone (rows_of stocks) one) refl (no_row_is one.path stocks) (alone_left path stocks kept)
  where
    clear : List KeptRow
    clear = filter (is_kept_clear path) kept

    over : List (List (List ℕ))
    over = map path_of_mark (filter (overlaps_mark path) (map mark_of kept))

    alone : List KeptRow → List KeptRow
    alone some = filter (is_alone (rows_of stocks)) some

    -- as the test of the first one comes out
    left : Bool → List KeptRow
    left o = alone (cond (not o) (one ∷ clear) clear)

    gone : Bool → List (List (List ℕ))
    gone o = map path_of_mark (cond o (mark_of one ∷ filter (overlaps_mark path) (map mark_of kept)) (filter (overlaps_mark path) (map mark_of kept)))

    by : (o : Bool) → overlap one.path path ≡ o → (b : Bool) → is_alone (rows_of stocks) one ≡ b → has_no_row stocks one.path ≡ is_alone (rows_of stocks) one →
        length (alone clear) + count_by (has_no_row stocks) over ≡ length (alone kept) →
        length (left (overlap one.path path)) + count_by (has_no_row stocks) (gone (overlap one.path path)) ≡ length (alone (one ∷ kept))
    by true is true on same more =
        let l : length (left (overlap one.path path)) ≡ length (alone clear) = ap (λ o. length (left o)) is in
        let c : count_by (has_no_row stocks) (gone (overlap one.path path)) ≡ 1 + count_by (has_no_row stocks) over =
        ap (λ o. count_by (has_no_row stocks) (gone o)) is ∙ count_first (has_no_row stocks) one.path over
        ∙ ap (λ b. cond b 1 0 + count_by (has_no_row stocks) over) (same ∙ on) in
        let r : length (alone (one ∷ kept)) ≡ suc (length (alone kept)) = ap (λ b. length (cond b (one ∷ alone kept) (alone kept))) on in
        omega (arith, l, c, r, more)
    by true is false on same more =
        let l : length (left (overlap one.path path)) ≡ length (alone clear) = ap (λ o. length (left o)) is in
        let c : count_by (has_no_row stocks) (gone (overlap one.path path)) ≡ 0 + count_by (has_no_row stocks) over =
        ap (λ o. count_by (has_no_row stocks) (gone o)) is ∙ count_first (has_no_row stocks) one.path over
        ∙ ap (λ b. cond b 1 0 + count_by (has_no_row stocks) over) (same ∙ on) in
        let r : length (alone (one ∷ kept)) ≡ length (alone kept) = ap (λ b. length (cond b (one ∷ alone kept) (alone kept))) on in
        omega (arith, l, c, r, more)
    by false is true on same more =
        let l : length (left (overlap one.path path)) ≡ suc (length (alone clear)) =
        ap (λ o. length (left o)) is ∙ ap (λ b. length (cond b (one ∷ alone clear) (alone clear))) on in
        let c : count_by (has_no_row stocks) (gone (overlap one.path path)) ≡ count_by (has_no_row stocks) over =
        ap (λ o. count_by (has_no_row stocks) (gone o)) is in
        let r : length (alone (one ∷ kept)) ≡ suc (length (alone kept)) = ap (λ b. length (cond b (one ∷ alone kept) (alone kept))) on in
        omega (arith, l, c, r, more)
    by false is false on same more =
        let l : length (left (overlap one.path path)) ≡ length (alone clear) =
        ap (λ o. length (left o)) is ∙ ap (λ b. length (cond b (one ∷ alone clear) (alone clear))) on in
        let c : count_by (has_no_row stocks) (gone (overlap one.path path)) ≡ count_by (has_no_row stocks) over =
        ap (λ o. count_by (has_no_row stocks) (gone o)) is in
        let r : length (alone (one ∷ kept)) ≡ length (alone kept) = ap (λ b. length (cond b (one ∷ alone kept) (alone kept))) on in
        omega (arith, l, c, r, more)

-- ---- the books of a begin that started

-- the books once a begin is entered, beside those before it: a job was put down, and the kept rows at some paths are gone
pub record IsBegunBooks {D K : Type 0} (by : By) (begun : Task) (gone : List (List (List ℕ))) (running : Running) (old new : Parts D K) : Type 0 where
  pub base : new.base ≡ old.base
  pub first : new.first ≡ old.first
  pub moment : new.moment ≡ old.moment
  pub gate : new.gate ≡ old.gate
  pub rows : new.rows ≡ unmarked begun old.rows
  pub holds : new.holds ≡ old.holds
  pub tickets : new.tickets ≡ old.tickets
  pub debris : new.debris.list ≡ absorbed begun old.debris.list
  pub spare : 2 * length old.jobs + 2 ≤ new.debris.spare
  pub jobs : new.jobs ≡ old.jobs ++ running ∷ []
  pub kept : new.kept.marks ≡ filter (is_mark_unlisted gone) old.kept.marks
  pub places : new.kept.reserved ≡ with_place begun old.kept.reserved
  pub nodes : new.nodes ≡ old.nodes
  pub paths : new.paths + count_by (has_no_row old.rows) gone ≡ old.paths
  pub lost : new.lost ≡ old.lost
  pub history : new.history.items ≡ old.history.items ++ begin_entry by old.moment begun reply.Started ∷ []
  pub capacity : spent_in old + 2 ≤ vec_capacity new.history

pub begun_books : {D K : Type 0} (by : By) (begun : Task) (gone : List (List (List ℕ))) (order : Order) (old roomy down new : Parts D K) (keeper : K) →
    HaveRoomFor begun old roomy → (put : IsPutDown by.caller order roomy down) → IsBegunEntered by begun gone (record down { keeper = keeper }) new →
    IsBegunBooks by begun gone put.running old new
begun_books {D} {K} by begun gone order old roomy down new keeper room put entered = record {
  base = entered.base ∙ ap (λ (p : Parts D K). p.base) put.only ∙ room.same.base;
  first = entered.first ∙ ap (λ (p : Parts D K). p.first) put.only ∙ room.same.first;
  moment = moment_is;
  gate = entered.gate ∙ ap (λ (p : Parts D K). p.gate) put.only ∙ room.same.gate;
  rows = entered.rows ∙ ap (unmarked begun) rows_are;
  holds = entered.holds ∙ ap (λ (p : Parts D K). p.holds) put.only ∙ room.same.holds;
  tickets = entered.tickets ∙ ap (λ (p : Parts D K). p.tickets) put.only ∙ room.same.tickets;
  debris = entered.debris ∙ ap (absorbed begun) (ap (λ (p : Parts D K). p.debris.list) put.only ∙ room.same.debris);
  spare =
      let more = entered.spare in
      let same : down.debris.spare ≡ roomy.debris.spare = ap (λ (p : Parts D K). p.debris.spare) put.only in
      let has = room.debris in omega (arith, more, same, has);
  jobs = entered.jobs ∙ put.jobs ∙ ap (λ (js : List Running). js ++ put.running ∷ []) room.jobs;
  kept = entered.kept ∙ ap (filter (is_mark_unlisted gone)) (ap (λ (p : Parts D K). p.kept.marks) put.only ∙ room.same.kept);
  places = entered.places ∙ ap (λ (p : Parts D K). p.kept.reserved) put.only ∙ room.places;
  nodes = entered.nodes ∙ ap (λ (p : Parts D K). p.nodes) put.only ∙ room.same.nodes;
  paths = ap (λ (rs : List Stock). new.paths + count_by (has_no_row rs) gone) (sym rows_are) ∙ entered.paths ∙ ap (λ (p : Parts D K). p.paths) put.only ∙ room.same.paths;
  lost = entered.lost ∙ ap (λ (p : Parts D K). p.lost) put.only ∙ room.same.lost;
  history = entered.history
      ∙ ap (λ es. es ++ begin_entry by down.moment begun reply.Started ∷ []) (ap (λ (p : Parts D K). p.history.items) put.only ∙ room.same.history)
      ∙ ap (λ m. old.history.items ++ begin_entry by m begun reply.Started ∷ []) (ap (λ (p : Parts D K). p.moment) put.only ∙ room.same.moment);
  capacity =
      let same : vec_capacity new.history ≡ vec_capacity roomy.history = entered.capacity ∙ ap (λ (p : Parts D K). vec_capacity p.history) put.only in
      let has = room.history in omega (arith, same, has);
}
  where
    rows_are : down.rows ≡ old.rows
    rows_are = ap (λ (p : Parts D K). p.rows) put.only ∙ room.same.rows

    moment_is : new.moment ≡ old.moment
    moment_is = entered.moment ∙ ap (λ (p : Parts D K). p.moment) put.only ∙ room.same.moment

-- ---- the point behind it

-- the job of one that was put down is the one that starts
pub record IsJobStarted (by : By) (point : Point) (begun : Task) (running : Running) : Type 0 where
  pub number : running.card.job ≡ next_number point
  pub task : running.card.task ≡ begun
  pub caller : running.caller ≡ by.caller
  pub lent : option_map lent_of running.lent ≡ read_at point begun
  pub fresh : IsUncleaned running.lent

module _ {D K : Type 0} (by : By) (begun : Task) (running : Running) (old new : Parts D K) (point : Point)
    (is : IsBegunBooks by begun (gone_for old begun) running old new) (stands : StandFor old point) (job : IsJobStarted by point begun running)
    (gone : AreStampsGone point) where
  abbrev the_job : Job
  the_job = record { number = next_number point; caller = by.caller; task = begun; lent = read_at point begun }

  job_is : job_of running ≡ the_job
  job_is =
      ap (λ n. record { number = n; caller = running.caller; task = running.card.task; lent = option_map lent_of running.lent }) job.number
      ∙ ap (λ c. record { number = next_number point; caller = c; task = running.card.task; lent = option_map lent_of running.lent }) job.caller
      ∙ ap (λ t. record { number = next_number point; caller = by.caller; task = t; lent = option_map lent_of running.lent }) job.task
      ∙ ap (λ l. record { number = next_number point; caller = by.caller; task = begun; lent = l }) job.lent

  jobs_are : jobs_of new.jobs ≡ point.work.jobs ++ the_job ∷ []
  jobs_are =
      ap jobs_of is.jobs ∙ map-append job_of old.jobs (running ∷ [])
      ∙ ap (λ js. js ++ job_of running ∷ []) stands.work.jobs ∙ ap (λ j. point.work.jobs ++ j ∷ []) job_is

  -- the row of a part that is read isn't among those that a clean removed
  fresh_part : (lent : Option LentPart) → IsUncleaned lent → option_map lent_of lent ≡ read_at point begun → IsPart point.work lent
  fresh_part None fresh same = tt
  fresh_part (Some part) fresh same =
      let source = source_of begun point.book.rows point.work.ways (lent_of part) (sym same) in
      subst (λ n. list_any (is_same_stamp n) point.work.cleaned ≡ false) source.stamp (gone source.row source.among) ∙ sym fresh

  parts_read : (one : Running) → Contains new.jobs one → IsPart point.work one.lent
  parts_read one among =
      elim (Contains-append_cases old.jobs (running ∷ []) one (subst (λ js. Contains js one) is.jobs among)) [
        | inl there ↦ stands.work.cleaned one there
        | inr here ↦ elim (contains_cases running [] one here) [
          | inl same ↦ subst (λ (r : Running). IsPart point.work r.lent) same (fresh_part running.lent job.fresh job.lent)
          | inr none ↦ absurd (nobody none)
        ]
      ]
    where
      nobody : Contains [] one → ⊥
      nobody (k, within, at) = omega (arith, within)

  rows_are : rows_of new.rows ≡ rows_of old.rows
  rows_are = ap rows_of is.rows ∙ rows_unmarked begun old.rows

  book_is : book_in new ≡ point.book
  book_is = same_book old new is.first is.moment is.gate rows_are is.holds (ap (λ t. t.all) is.tickets) ∙ stands.book

  old_rows : rows_of old.rows ≡ point.book.rows
  old_rows = ap (λ (b : Book). b.rows) stands.book

  marks_are : new.kept.marks ≡ map mark_of (filter (is_kept_clear (path_of_task begun)) point.kept)
  marks_are =
      is.kept ∙ clear_left (path_of_task begun) old.kept.marks ∙ ap (filter (is_clear_mark (path_of_task begun))) stands.kept
      ∙ sym (clear_in_step (path_of_task begun) point.kept)

  paths_are : new.paths ≡ row_paths point.book (filter (is_kept_clear (path_of_task begun)) point.kept)
  paths_are =
      let counted = is.paths in
      let whole = stands.paths in
      let gone_same : count_by (has_no_row old.rows) (gone_for old begun)
      ≡ count_by (has_no_row old.rows) (map path_of_mark (filter (overlaps_mark (path_of_task begun)) (map mark_of point.kept))) =
      ap (λ ms. count_by (has_no_row old.rows) (map path_of_mark (filter (overlaps_mark (path_of_task begun)) ms))) stands.kept in
      let split = alone_left (path_of_task begun) old.rows point.kept in
      let left : length (filter (is_alone (rows_of old.rows)) (filter (is_kept_clear (path_of_task begun)) point.kept))
      ≡ length (filter (is_alone point.book.rows) (filter (is_kept_clear (path_of_task begun)) point.kept)) =
      ap (λ rs. length (filter (is_alone rs) (filter (is_kept_clear (path_of_task begun)) point.kept))) old_rows in
      let all : length (filter (is_alone (rows_of old.rows)) point.kept) ≡ length (filter (is_alone point.book.rows) point.kept) =
      ap (λ rs. length (filter (is_alone rs) point.kept)) old_rows in
      omega (arith, counted, whole, gone_same, split, left, all)

  history_is : new.history.items ≡ point.history ++ begin_entry by point.book.now begun reply.Started ∷ []
  history_is =
      is.history ∙ ap (λ es. es ++ begin_entry by old.moment begun reply.Started ∷ []) stands.history
      ∙ ap (λ m. point.history ++ begin_entry by m begun reply.Started ∷ []) (ap (λ (b : Book). b.now) stands.book)

  -- what is kept beside each row, once the mark of a make's row is gone
  stocks_made : (path : List (List ℕ)) (jobs : List Job) (debris : List Debris) → new.rows ≡ map (marked_stock path false) old.rows → (stock : Stock) →
      Contains new.rows stock →
      IsStock (record point.work {
        jobs = jobs;
        dirty = filter (λ (other : List (List ℕ)). not (same_names other path)) point.work.dirty;
        debris = debris;
      }) stock
  stocks_made path jobs debris rows stock among =
      let (one, there, same) = mapped_contains (marked_stock path false) old.rows stock (subst (λ rs. Contains rs stock) rows among) in
      subst (IsStock made) same (each (stock_at path one) one refl (stands.work.stocks one there))
    where
      made : WorkState
      made = record point.work {
        jobs = jobs;
        dirty = filter (λ (other : List (List ℕ)). not (same_names other path)) point.work.dirty;
        debris = debris;
      }

      each : (b : Bool) (one : Stock) → stock_at path one ≡ b → IsStock point.work one → IsStock made (marked_stock path false one)
      each true one at was =
          subst (λ c. IsStock made (cond c (with_mark false one) one)) (sym at) (record {
            way = was.way;
            mark = ap (is_dirty made.dirty) (same_names-eq one.row.path path at) ∙ clean_path path point.work.dirty;
            right = was.right;
          })
      each false one at was =
          subst (λ c. IsStock made (cond c (with_mark false one) one)) (sym at) (record {
            way = was.way;
            mark = dirty_other path one.row.path point.work.dirty at ∙ was.mark;
            right = was.right;
          })

  work_is : (what : Task) → begun ≡ what → AreWork new (started (next_number point) by.caller what point.book.rows point.work)
  work_is (task.Make path stamp) same = record {
    stocks = stocks_made path _ _ (is.rows ∙ ap (λ t. unmarked t old.rows) same);
    jobs = jobs_are ∙ ap (λ t. point.work.jobs ++ record { number = next_number point; caller = by.caller; task = t; lent = read_at point t } ∷ []) same;
    cleaned = parts_read;
    debris = is.debris ∙ ap (λ t. absorbed t old.debris.list) same ∙ ap (filter (is_not_below path)) stands.work.debris;
  }
  work_is (task.Wipe path) same = record {
    stocks = λ stock among.
        let was = stands.work.stocks stock (subst (λ rs. Contains rs stock) (is.rows ∙ ap (λ t. unmarked t old.rows) same) among) in
        record { way = was.way; mark = was.mark; right = was.right };
    jobs = jobs_are ∙ ap (λ t. point.work.jobs ++ record { number = next_number point; caller = by.caller; task = t; lent = read_at point t } ∷ []) same;
    cleaned = parts_read;
    debris = is.debris ∙ ap (λ t. absorbed t old.debris.list) same ∙ stands.work.debris;
  }

  no_nodes : point.nodes ≡ point.nodes + 0
  no_nodes = omega arith

  -- the parts stand for the point behind the entry
  pub begun_stands : StandFor new (after point (begin_entry by point.book.now begun reply.Started))
  begun_stands = record {
    book = book_is;
    work = work_is begun refl;
    kept = marks_are;
    nodes = is.nodes ∙ stands.nodes ∙ no_nodes;
    paths = paths_are;
    history = history_is;
  }
