-- A clean that removes rows: what is listed for it, the parts of rows that jobs read, and the point behind its entry.
use Rattle.std.proofs.Common.{◌≡◌, ◌≤◌, ◌+◌, ◌*◌, ℕ, max, nat_lt, Bool, true, false, not, ◌&&◌, cond, List, [], ◌∷◌, ◌++◌, map, filter, length, count_by, Contains, Option, Some, None, refl, sym, ap, ap₂, subst, ◌∙◌, arith}
use Rattle.std.specs.List.{list_any}
use Rattle.std.specs.Option.{ForSome}
use Rattle.std.specs.Vec.{vec_capacity}
use Rattle.std.proofs.lemmas.Bool.{both_ways, not-true}
use Rattle.std.proofs.lemmas.List.{length-append, length-map}
use Rattle.hall_lock.specs.declared.By.{By}
use Rattle.mat_path.proofs.Elements.{filtered_contains, mapped_contains}
use Rattle.mat_model.specs.declared.answers.Device.TheVariants as device
use Rattle.mat_model.specs.declared.answers.FaultNote.{FaultNote}
use Rattle.mat_model.specs.declared.answers.Gone.{Gone}
use Rattle.mat_model.specs.declared.answers.Limit.TheVariants as limit
use Rattle.mat_model.specs.declared.answers.Reply.{Reply}
use Rattle.mat_model.specs.declared.answers.Reply.TheVariants as reply
use Rattle.mat_model.specs.declared.book.Book.{Book}
use Rattle.mat_model.specs.declared.book.Row.{Row}
use Rattle.mat_model.specs.declared.entries.Entry.{Entry}
use Rattle.mat_model.specs.declared.requests.Asked.{Asked}
use Rattle.mat_model.specs.declared.requests.Asked.TheVariants as asked
use Rattle.mat_model.specs.Books.{IsBook}
use Rattle.mat_model.specs.Cleaning.{cleaned, gone_row, is_not_stale, is_stale, stale}
use Rattle.mat_model.specs.Gate.{Served}
use Rattle.mat_model.specs.History.{Point, after, answer_asked, is_store_fault, next_number, request_context, stepped}
use Rattle.mat_model.specs.Kept.{KeptRow, is_kept_of, is_listed, is_unlisted, may_fail}
use Rattle.mat_model.specs.Requests.{at_moment, serve}
use Rattle.mat_model.specs.Room.{full_asked, is_alone}
use Rattle.mat_model.specs.Rows.{is_at_path}
use Rattle.mat_model.specs.Tickets.{left_ticket}
use Rattle.mat_model.specs.WorkState.{Debris, Job, WorkState, condemn, condemned_all, removed_rows, without_removed, work_asked}
use Rattle.model_laws.specs.PointRules.{IsPoint}
use Rattle.model_laws.specs.RoomRules.{IsRoomy}
use Rattle.model_laws.specs.WorkRules.{IsWork}
use Rattle.model_laws.proofs.BelowLemmas.{clean_answers_none}
use Rattle.model_laws.proofs.BooksLists.{any_contains, contains_any}
use Rattle.core_laws.specs.Stored.{AreDropped, IsStore}
use Rattle.core_laws.proofs.StoreMoves.{clean_store}
use Rattle.core_laws.proofs.StoreSteps.{gone_kept, told_change}
use Rattle.keep_port.specs.Rows.{remove_all}
use Rattle.keep_port.specs.declared.port.Keeper.{Ghosts as KeeperGhosts}
use Rattle.core_devices.specs.Removals.{HasRemoved, IsStoreCall, are_some}
use Rattle.core_devices.specs.declared.removing.Removal.{Removal}
use Rattle.core_devices.specs.declared.removing.Removal.TheVariants as removal
use Rattle.core_devices.specs.Told.{told_store}
use Rattle.row_book.specs.declared.stock.Stock.{Stock}
use Rattle.row_book.specs.Stocks.{row_passes, rows_of}
use Rattle.row_book.specs.Whole.{without_stocks}
use Rattle.row_book.proofs.RowLemmas.{rows_left}
use Rattle.job_book.specs.Jobs.{job_of, jobs_of}
use Rattle.job_book.specs.Numbers.{marked}
use Rattle.job_book.specs.declared.running.LentPart.{LentPart}
use Rattle.job_book.specs.declared.running.Running.{Running}
use Rattle.kept_book.specs.Marks.{is_mark_unlisted, mark_of}
use Rattle.mat_core.specs.Beginning.{HaveOnlyRoom}
use Rattle.mat_core.specs.Begins.{IsKeptStill}
use Rattle.mat_core.specs.Calls.{MayWant}
use Rattle.mat_core.specs.Books.{AreWork, IsPart, StandFor, book_in}
use Rattle.mat_core.specs.Cleans.{gone_in, kept_among}
use Rattle.mat_core.specs.Falling.{is_unkept, with_remains}
use Rattle.mat_core.specs.Keeping.{AsksSo, WasAsked, asked_entry, moment_at}
use Rattle.mat_core.specs.Orders.{AreReady, IsReadyFor}
use Rattle.mat_core.specs.Removing.{IsAskEntered, marked_from, taken_at}
use Rattle.mat_core.specs.Rooms.{HasReserves, IsReservedFor, spent_in}
use Rattle.mat_core.specs.Sweeping.{AreSwept, condemned_by, is_stale_stock, mode_of, strays_by, swept_reply}
use Rattle.mat_core.specs.declared.parts.Parts.{Parts}
use Rattle.mat_core.proofs.BeginGoals.{failed_still, number_is, some_called, wanted_still}
use Rattle.mat_core.proofs.BeginLemmas.{books_stand}
use Rattle.mat_core.proofs.CallLemmas.{raised_twice}
use Rattle.mat_core.proofs.CleanGoals.{calm_asked, calmly, clean_room}
use Rattle.mat_core.proofs.InvalidateLemmas.{entered_so, stand_beside, wanted_so}
use Rattle.mat_core.proofs.RemoveLemmas.{marked_jobs, paths_left, ready_left, removed_chosen, work_removed}
use Rattle.mat_core.proofs.UndoLemmas.{ready_same}
use Rattle.mat_core.proofs.SweepLists.{among_dropped, among_is, mark_one, marked_each, marks_left, parts_marked, some_among}
use Rattle.mat_core.proofs.StoreCalls.{wanted_call}

-- ---- what the model serves

never : (b : Bool) → (b && false) ≡ false
never true = refl
never false = refl

module _ (all : Bool) (point : Point) (time cutoff : ℕ) where
  abbrev pub asking : Asked
  asking = asked.Clean cutoff (mode_of all)

  abbrev pub the_gone : List Gone
  the_gone = map gone_row (stale cutoff point.book)

  abbrev pub the_strays : List (List (List ℕ))
  the_strays = strays_by all point.work.jobs point.work.debris

  -- the stale rows are gone
  abbrev pub swept : Served
  swept = record { reply = reply.Cleaned false the_gone the_strays; book = cleaned (next_number point) cutoff (at_moment time point.book) }

  serves : serve (next_number point) time (request_context point) asking point.book ≡ swept
  serves = by all
    where
      by : (b : Bool) → serve (next_number point) time (request_context point) (asked.Clean cutoff (mode_of b)) point.book
          ≡ record {
            reply = reply.Cleaned false (map gone_row (stale cutoff point.book)) (strays_by b point.work.jobs point.work.debris);
            book = cleaned (next_number point) cutoff (at_moment time point.book);
          }
      by true = refl
      by false = refl

  pub answer_swept : (gone : List Gone) (some : List (List (List ℕ))) → answer_asked point time asking (reply.Cleaned false gone some) ≡ swept
  answer_swept gone some =
      ap (λ b. cond {A = Served} b (calmly point time (reply.Cleaned false gone some)) (serve (next_number point) time (request_context point) asking point.book))
      (never (may_fail asking point.book point.kept))
      ∙ serves

  pub answer_unswept : (note : FaultNote) → list_any (is_kept_of (stale cutoff point.book)) point.kept ≡ true → note.device ≡ device.Keeper →
      answer_asked point time asking (reply.Fault note) ≡ calmly point time (reply.Fault note)
  answer_unswept note some keeper =
      ap (λ b. cond {A = Served} (b && is_store_fault (reply.Fault note)) (calmly point time (reply.Fault note))
      (serve (next_number point) time (request_context point) asking point.book)) (may all ∙ some)
      ∙ ap (λ d. cond {A = Served} (is_store_fault (reply.Fault (record note { device = d }))) (calmly point time (reply.Fault note))
      (serve (next_number point) time (request_context point) asking point.book)) keeper
    where
      may : (b : Bool) → may_fail (asked.Clean cutoff (mode_of b)) point.book point.kept ≡ list_any (is_kept_of (stale cutoff point.book)) point.kept
      may true = refl
      may false = refl

-- the work state whose strays are condemned, in a clean of all
abbrev pub condemned_work : Bool → WorkState → WorkState
condemned_work all work = cond all (condemned_all work) work

work_swept : (all : Bool) (cutoff : ℕ) (gone : List Gone) (some : List (List (List ℕ))) (rows left : List Row) (work : WorkState) →
    work_asked (asked.Clean cutoff (mode_of all)) (reply.Cleaned false gone some) rows left work
    ≡ without_removed true (removed_rows rows left) (condemned_work all work)
work_swept true cutoff gone some rows left work = refl
work_swept false cutoff gone some rows left work = refl

-- parts whose debris is condemned so stand for it
abbrev pub with_condemned : {D K : Type 0} → Bool → Parts D K → Parts D K
with_condemned all parts = record parts { debris = record parts.debris { list = condemned_by all (jobs_of parts.jobs) parts.debris.list } }

condemned_parts : (all : Bool) (work : WorkState) (o : Option LentPart) → IsPart work o → IsPart (condemned_work all work) o
condemned_parts all work None is = tt
condemned_parts true work (Some part) is = is
condemned_parts false work (Some part) is = is

condemned_stands : {D K : Type 0} (all : Bool) (parts : Parts D K) (work : WorkState) → AreWork parts work →
    AreWork (with_condemned all parts) (condemned_work all work)
condemned_stands true parts work are = record {
  stocks = λ stock among. let is = are.stocks stock among in record { way = is.way; mark = is.mark; right = is.right };
  jobs = are.jobs;
  cleaned = λ running among. condemned_parts true work running.lent (are.cleaned running among);
  debris = ap₂ (λ (js : List Job) (ds : List Debris). map (condemn js) ds) are.jobs are.debris;
}
condemned_stands false parts work are = record { stocks = are.stocks; jobs = are.jobs; cleaned = are.cleaned; debris = are.debris }

-- ---- the point behind the entry

module _ {D K : Type 0} (all : Bool) (number cutoff : ℕ) (gone at : List (List (List ℕ))) (old new : Parts D K) (point : Point) (stands : StandFor old point)
    (rules : IsPoint point) (is : AreSwept all gone at old new) (numbered : number ≡ next_number point)
    (taken : taken_at at old.rows ≡ filter (is_stale_stock cutoff old.holds) old.rows)
    (stays : without_stocks at old.rows ≡ filter (row_passes (is_not_stale cutoff old.holds)) old.rows)
    (named : gone ≡ kept_among old.kept.marks (gone_in cutoff old.holds old.rows)) where
  abbrev test : Row → Bool
  test = is_stale cutoff old.holds

  abbrev other : Row → Bool
  other = is_not_stale cutoff old.holds

  same_rows : rows_of old.rows ≡ point.book.rows
  same_rows = ap (λ (b : Book). b.rows) stands.book

  new_stocks : new.rows ≡ filter (row_passes other) old.rows
  new_stocks = is.rows ∙ stays

  new_rows : rows_of new.rows ≡ filter other (rows_of old.rows)
  new_rows = ap rows_of new_stocks ∙ rows_left other old.rows

  old_book : IsBook number (book_in old)
  old_book = subst (λ n. IsBook n (book_in old)) (sym numbered) (subst (λ b. IsBook (next_number point) b) (sym stands.book) rules.book)

  old_rules : IsWork number (rows_of old.rows) point.work
  old_rules = subst (λ n. IsWork n (rows_of old.rows) point.work) (sym numbered)
      (subst (λ rs. IsWork (next_number point) rs point.work) (sym same_rows) rules.work)

  abbrev the_book : ℕ → Book → Book
  the_book m book = record book {
    now = m;
    rows = filter (is_not_stale cutoff book.holds) book.rows;
    tickets = map (left_ticket (next_number point) (stale cutoff book) (filter (is_not_stale cutoff book.holds) book.rows)) book.tickets;
  }

  pub swept_book : (m : ℕ) → record (book_in new) { now = m } ≡ the_book m point.book
  swept_book m =
      ap (λ f. record (book_in new) { first = f; now = m }) is.beside.first
      ∙ ap (λ g. record (book_in new) { first = old.first; now = m; state = g.state; live = g.live; waiting = g.waiting; soft = g.soft }) is.gate
      ∙ ap (λ r. record (book_in old) { now = m; rows = r; holds = new.holds; tickets = new.tickets.all }) new_rows
      ∙ ap (λ h. record (book_in old) { now = m; rows = filter other (rows_of old.rows); holds = h; tickets = new.tickets.all }) is.holds
      ∙ ap (λ t. record (book_in old) { now = m; rows = filter other (rows_of old.rows); tickets = t })
      (ap (λ t. t.all) is.tickets ∙ sym (clean_answers_none number (next_number point) cutoff (book_in old) old_book))
      ∙ ap (the_book m) stands.book

  pub swept_work : AreWork new (without_removed true (filter test (rows_of old.rows)) (condemned_work all point.work))
  swept_work =
      work_removed test other (λ row. refl) true number (with_condemned all old) new (condemned_work all point.work) old_rules.apart
      (condemned_stands all old point.work stands.work) new_stocks
      (is.jobs ∙ ap (λ ss. marked_from ss old.jobs) taken)
      (is.debris ∙ ap (λ ss. with_remains true (jobs_of old.jobs) ss (condemned_by all (jobs_of old.jobs) old.debris.list)) taken)
      (λ running among.
      same_part running.lent (parts_marked number test old point.work new.jobs old_rules stands.work (is.jobs ∙ ap (λ ss. marked_from ss old.jobs) taken) running among))
    where
      same_part : (o : Option LentPart) → IsPart (without_removed true (filter test (rows_of old.rows)) point.work) o →
          IsPart (without_removed true (filter test (rows_of old.rows)) (condemned_work all point.work)) o
      same_part o right = by all o right
        where
          by : (b : Bool) (some : Option LentPart) → IsPart (without_removed true (filter test (rows_of old.rows)) point.work) some →
              IsPart (without_removed true (filter test (rows_of old.rows)) (condemned_work b point.work)) some
          by b None it = tt
          by true (Some part) it = it
          by false (Some part) it = it

  pub swept_removed : removed_rows point.book.rows (filter (is_not_stale cutoff point.book.holds) point.book.rows) ≡ filter test (rows_of old.rows)
  swept_removed =
      removed_chosen (is_stale cutoff point.book.holds) (is_not_stale cutoff point.book.holds) (λ row. refl) (next_number point) point.book.rows rules.work.stamped
      ∙ ap (λ (b : Book). filter (is_stale cutoff b.holds) b.rows) (sym stands.book)

  gone_same : gone_in cutoff old.holds old.rows ≡ the_gone all point 0 cutoff
  gone_same = ap (λ (b : Book). map gone_row (stale cutoff b)) stands.book

  gone_named : gone ≡ kept_among (map mark_of point.kept) (the_gone all point 0 cutoff)
  gone_named = named ∙ ap₂ kept_among stands.kept gone_same

  pub swept_marks : new.kept.marks ≡ map mark_of (filter (is_unlisted (the_gone all point 0 cutoff)) point.kept)
  swept_marks =
      is.kept ∙ ap₂ (λ ps ms. filter (is_mark_unlisted ps) ms) gone_named stands.kept ∙ marks_left (the_gone all point 0 cutoff) point.kept

  -- no kept row that is left is at the path of a stale row
  unlisted_free : (one : KeptRow) → Contains (filter (is_unlisted (the_gone all point 0 cutoff)) point.kept) one →
      list_any (is_at_path one.path) (filter test (rows_of old.rows)) ≡ false
  unlisted_free one among =
      sym (gone_kept (filter test (rows_of old.rows)) one)
      ∙ ap (λ gs. is_listed gs one) gone_same
      ∙ not-true (is_listed (the_gone all point 0 cutoff) one) (filtered_contains (is_unlisted (the_gone all point 0 cutoff)) point.kept one among).1

  -- and those that go are at the path of a row
  alone_unlisted : filter (is_alone (rows_of old.rows)) (filter (is_unlisted (the_gone all point 0 cutoff)) point.kept)
      ≡ filter (is_alone (rows_of old.rows)) point.kept
  alone_unlisted = by point.kept
    where
      skips : (one : KeptRow) → is_listed (the_gone all point 0 cutoff) one ≡ true → is_alone (rows_of old.rows) one ≡ false
      skips one listed =
          ap not
          (let (row, among, at_it) = any_contains (is_at_path one.path) (filter test (rows_of old.rows))
          (sym (gone_kept (filter test (rows_of old.rows)) one) ∙ ap (λ gs. is_listed gs one) gone_same ∙ listed) in
          contains_any (is_at_path one.path) (rows_of old.rows) row (filtered_contains test (rows_of old.rows) row among).0 at_it)

      by : (some : List KeptRow) → filter (is_alone (rows_of old.rows)) (filter (is_unlisted (the_gone all point 0 cutoff)) some)
          ≡ filter (is_alone (rows_of old.rows)) some
      by [] = refl
      by (one ∷ some) =
          elim (is_listed (the_gone all point 0 cutoff) one) as
          (λ b. is_listed (the_gone all point 0 cutoff) one ≡ b →
          filter (is_alone (rows_of old.rows)) (cond (not b) (one ∷ filter (is_unlisted (the_gone all point 0 cutoff)) some)
          (filter (is_unlisted (the_gone all point 0 cutoff)) some)) ≡ filter (is_alone (rows_of old.rows)) (one ∷ some)) [
            | true ↦ λ listed.
                by some ∙ sym (ap (λ b. cond b (one ∷ filter (is_alone (rows_of old.rows)) some) (filter (is_alone (rows_of old.rows)) some)) (skips one listed))
            | false ↦ λ off.
                ap (λ (ks : List KeptRow). cond (is_alone (rows_of old.rows) one) (one ∷ ks) ks) (by some)
          ] refl

  pub swept_paths : new.paths ≡ length (filter (is_not_stale cutoff point.book.holds) point.book.rows)
      + length (filter (is_alone (filter (is_not_stale cutoff point.book.holds) point.book.rows)) (filter (is_unlisted (the_gone all point 0 cutoff)) point.kept))
  swept_paths =
      paths_left test other (λ row. refl) old.rows point.kept (filter (is_unlisted (the_gone all point 0 cutoff)) point.kept) old.paths 0 new.paths
      unlisted_free (let same = ap length alone_unlisted in omega (arith, same))
      (stands.paths ∙ ap (λ (rs : List Row). length rs + length (filter (is_alone rs) point.kept)) (sym same_rows))
      (let counted = is.paths in
      let marks : count_by (is_unkept new.kept.marks) (taken_at at old.rows)
      ≡ count_by (is_unkept (map mark_of (filter (is_unlisted (the_gone all point 0 cutoff)) point.kept))) (filter (is_stale_stock cutoff old.holds) old.rows) =
      ap₂ (λ ms ss. count_by (is_unkept ms) ss) swept_marks taken in
      omega (arith, counted, marks))
      ∙ ap (λ (b : Book). length (filter (is_not_stale cutoff b.holds) b.rows)
      + length (filter (is_alone (filter (is_not_stale cutoff b.holds) b.rows)) (filter (is_unlisted (the_gone all point 0 cutoff)) point.kept))) stands.book

module _ {D K : Type 0} (gk : KeeperGhosts K) (by : By) (now cutoff : ℕ) (all : Bool) (old roomy new : Parts D K) (keeper : K) (point : Point)
    (stands : StandFor old point) (rules : IsPoint point) (roomy_for : IsRoomy old.base.limits point) (had : HasReserves old)
    (only : HaveOnlyRoom old roomy) (place : spent_in old + 2 ≤ vec_capacity roomy.history)
    (fits : nat_lt old.base.limits.history (spent_in old + 1) ≡ false) where
  abbrev request : Asked
  request = asked.Clean cutoff (mode_of all)

  room_there : full_asked old.base.limits point (moment_at point now) request ≡ None
  room_there = clean_room old.base.limits old point (moment_at point now) cutoff (mode_of all) stands rules roomy_for
      ∙ ap (λ b. cond b (Some limit.History) None) fits

  module _ (paths : List (List (List ℕ))) (are : paths ≡ kept_among old.kept.marks (gone_in cutoff old.holds old.rows)) where
    paths_are : paths ≡ kept_among (map mark_of point.kept) (map gone_row (stale cutoff point.book))
    paths_are = are ∙ ap₂ kept_among stands.kept (ap (λ (b : Book). map gone_row (stale cutoff b)) stands.book)

    -- some paths go exactly where the request has kept rows to remove
    due_is : are_some paths ≡ may_fail request point.book point.kept
    due_is =
        ap are_some paths_are ∙ among_is (stale cutoff point.book) point.kept
        ∙ (elim all as (λ b. list_any (is_kept_of (stale cutoff point.book)) point.kept ≡ may_fail (asked.Clean cutoff (mode_of b)) point.book point.kept) [
          | true ↦ refl
          | false ↦ refl
        ])

    -- the state store failed
    pub unswept_so : (note : FaultNote) (said : Removal) → said ≡ removal.Failed note → (are_some paths ≡ false → said ≡ removal.Done) →
        HasRemoved paths (removal.Failed note) (told_store gk roomy.keeper) (told_store gk keeper) →
        IsAskEntered by now request (reply.Fault note) (record roomy { keeper = keeper }) new →
        AsksSo point by now request old new (told_store gk old.keeper) (told_store gk new.keeper) (reply.Fault note)
    unswept_so note said failed none removed entered =
        let from_old = subst (λ k. HasRemoved paths (removal.Failed note) (told_store gk k) (told_store gk keeper)) only.keeper removed in
        let some = some_among (stale cutoff point.book) point.kept (subst (λ ps. are_some ps ≡ true) paths_are (some_called paths said note failed none)) in
        entered_so by now request (reply.Fault note) old new (told_store gk old.keeper) (told_store gk new.keeper) point refl (λ happened. tt) room_there
        (subst (λ p. WasAsked point by now request (reply.Fault note) old p (told_store gk old.keeper) (told_store gk p.keeper)) (sym entered.only)
        (calm_asked gk by now request old roomy keeper point stands had only place (reply.Fault note)
        (record { cleaning = refl; ways = λ rows ways. refl; keeps = λ rows kept. refl; nodes = λ book. refl }) new.moment new.history entered.moment
        entered.history entered.capacity
        (answer_unswept all point (moment_at point now) cutoff note some (ap (λ n. n.device) from_old.note.0))
        (failed_still paths note (told_store gk old.keeper) (told_store gk keeper) from_old) from_old.note
        (subst (λ b. IsStoreCall b true false (told_store gk old.keeper) (told_store gk keeper)) due_is from_old.called)))

    -- memory was wanting
    pub unwanted_so : HasRemoved paths removal.NoMemory (told_store gk roomy.keeper) (told_store gk keeper) →
        AsksSo point by now request old (record roomy { keeper = keeper }) (told_store gk old.keeper) (told_store gk keeper) reply.NoMemory
    unwanted_so removed =
        wanted_so gk by now request old roomy keeper point had only
        (subst (λ k. IsKeptStill (told_store gk k) (told_store gk keeper)) only.keeper
        (wanted_still paths (told_store gk roomy.keeper) (told_store gk keeper) removed))
        (subst (λ k. MayWant (told_store gk k) (told_store gk keeper)) only.keeper
        (wanted_call (are_some paths) (told_store gk roomy.keeper) (told_store gk keeper) removed.called))

    -- the rows are gone
    module _ (done : Parts D K) (at : List (List (List ℕ))) (is : AreSwept all paths at (record roomy { keeper = keeper }) done)
        (taken : taken_at at roomy.rows ≡ filter (is_stale_stock cutoff roomy.holds) roomy.rows)
        (stays : without_stocks at roomy.rows ≡ filter (row_passes (is_not_stale cutoff roomy.holds)) roomy.rows)
        (spare : 2 * length old.jobs + length (filter (is_stale_stock cutoff old.holds) old.rows) ≤ roomy.debris.spare) (said : Reply)
        (says : said ≡ swept_reply all cutoff old.holds old.rows (jobs_of old.jobs) old.debris.list)
        (entered : IsAskEntered by now request said done new)
        (removed : HasRemoved paths removal.Done (told_store gk roomy.keeper) (told_store gk keeper)) where
      abbrev from : Parts D K
      from = record roomy { keeper = keeper }

      from_stands : StandFor from point
      from_stands = stand_beside roomy keeper point (books_stand old roomy only.same only.jobs point stands)

      abbrev time : ℕ
      time = moment_at point now

      abbrev the_reply : Reply
      the_reply = reply.Cleaned false (the_gone all point time cutoff) (the_strays all point time cutoff)

      said_is : said ≡ the_reply
      said_is = says
          ∙ ap (λ gs. reply.Cleaned false gs (strays_by all (jobs_of old.jobs) old.debris.list)) (ap (λ (b : Book). map gone_row (stale cutoff b)) stands.book)
          ∙ ap₂ (λ (js : List Job) (ds : List Debris). reply.Cleaned false (the_gone all point time cutoff) (strays_by all js ds)) stands.work.jobs
          stands.work.debris

      abbrev the_entry : Entry
      the_entry = asked_entry by time request the_reply

      abbrev swept_new : Parts D K
      swept_new = record done { moment = new.moment; history = new.history }

      numbered : from.first + length from.history.items ≡ next_number point
      numbered = number_is from point from_stands

      answered : answer_asked point time request the_reply ≡ swept all point time cutoff
      answered = answer_swept all point time cutoff (the_gone all point time cutoff) (the_strays all point time cutoff)

      names : paths ≡ kept_among from.kept.marks (gone_in cutoff from.holds from.rows)
      names = are ∙ ap₂ kept_among (sym only.same.kept) (ap₂ (gone_in cutoff) (sym only.same.holds) (sym only.same.rows))

      moment_is : done.moment ≡ point.book.now
      moment_is = is.beside.moment ∙ ap (λ (b : Book). b.now) from_stands.book

      raised_is : new.moment ≡ time
      raised_is = entered.moment ∙ ap (λ t. max t now) moment_is

      history_same : new.history.items ≡ old.history.items ++ the_entry ∷ []
      history_same =
          entered.history
          ∙ ap (λ t. done.history.items ++ asked_entry by (max t now) request said ∷ []) moment_is
          ∙ ap (λ r. done.history.items ++ asked_entry by time request r ∷ []) said_is
          ∙ ap (λ es. es ++ the_entry ∷ []) (ap (λ h. h.items) is.beside.history ∙ only.same.history)

      no_more : (n : ℕ) → n ≡ n + 0
      no_more n = omega arith

      work_is : work_asked request the_reply point.book.rows (filter (is_not_stale cutoff point.book.holds) point.book.rows) point.work
          ≡ without_removed true (filter (is_stale cutoff from.holds) (rows_of from.rows)) (condemned_work all point.work)
      work_is = work_swept all cutoff (the_gone all point time cutoff) (the_strays all point time cutoff) point.book.rows
          (filter (is_not_stale cutoff point.book.holds) point.book.rows) point.work
          ∙ ap (λ (rs : List Row). without_removed true rs (condemned_work all point.work))
          (swept_removed all (from.first + length from.history.items) cutoff paths at from done point from_stands rules is numbered taken stays names)

      swept_stands : StandFor swept_new (after point the_entry)
      swept_stands = subst (λ (s : Served). StandFor swept_new (stepped point the_entry s)) (sym answered) (record {
        book = swept_book all (from.first + length from.history.items) cutoff paths at from done point from_stands rules is numbered taken stays names new.moment
            ∙ ap (λ t. record point.book {
              now = t;
              rows = filter (is_not_stale cutoff point.book.holds) point.book.rows;
              tickets = map (left_ticket (next_number point) (stale cutoff point.book) (filter (is_not_stale cutoff point.book.holds) point.book.rows)) point.book.tickets;
            }) (raised_is ∙ sym (raised_twice point.book.now now));
        work = subst (AreWork swept_new) (sym work_is)
            (let work = swept_work all (from.first + length from.history.items) cutoff paths at from done point from_stands rules is numbered taken stays names in
            record { stocks = work.stocks; jobs = work.jobs; cleaned = work.cleaned; debris = work.debris });
        kept = swept_marks all (from.first + length from.history.items) cutoff paths at from done point from_stands rules is numbered taken stays names;
        nodes = is.nodes ∙ from_stands.nodes ∙ no_more point.nodes;
        paths = swept_paths all (from.first + length from.history.items) cutoff paths at from done point from_stands rules is numbered taken stays names;
        history = history_same ∙ ap (λ es. es ++ the_entry ∷ []) stands.history;
      })

      jobs_same : jobs_of done.jobs ≡ jobs_of old.jobs
      jobs_same = ap jobs_of is.jobs ∙ marked_jobs true (taken_at at roomy.rows) roomy.jobs ∙ ap jobs_of only.jobs

      jobs_as_many : length done.jobs ≡ length old.jobs
      jobs_as_many = sym (length-map done.jobs job_of) ∙ ap length jobs_same ∙ length-map old.jobs job_of

      swept_reserves : HasReserves swept_new
      swept_reserves = record {
        history =
            let items : length new.history.items ≡ length old.history.items + 1 = ap length history_same ∙ length-append old.history.items (the_entry ∷ []) in
            let running = jobs_as_many in
            let lives : length done.gate.live ≡ length old.gate.live = ap (λ g. length g.live) (is.gate ∙ only.same.gate) in
            let waiting : length done.gate.waiting ≡ length old.gate.waiting = ap (λ g. length g.waiting) (is.gate ∙ only.same.gate) in
            let more : vec_capacity new.history ≡ vec_capacity roomy.history = entered.capacity ∙ ap vec_capacity is.beside.history in
            omega (arith, items, running, lives, waiting, more, place);
        debris =
            let running = jobs_as_many in
            let some : length (taken_at at roomy.rows) ≡ length (filter (is_stale_stock cutoff old.holds) old.rows) =
            ap length taken ∙ ap₂ (λ hs rs. length (filter (is_stale_stock cutoff hs) rs)) only.same.holds only.same.rows in
            let room = is.spare in omega (arith, running, some, room, spare);
        places = λ job among. subst (λ ps. IsReservedFor ps job.task) (sym (is.places ∙ only.places))
            (had.places job (subst (λ js. Contains js job) jobs_same among));
      }

      -- a job that runs is as it was but for the mark of its part
      ready_swept : AreReady old → AreReady swept_new
      ready_swept ready running among =
          let (one, within, same) = mapped_contains (mark_one (taken_at at roomy.rows)) roomy.jobs running
          (subst (λ js. Contains js running) (is.jobs ∙ marked_each (taken_at at roomy.rows) roomy.jobs) among) in
          subst (λ (r : Running). IsReadyFor swept_new.base.identity (rows_of swept_new.rows) r.card.task r.kept) same
          (as_ready (taken_at at roomy.rows) one
          (ready_left (is_stale cutoff roomy.holds) (is_not_stale cutoff roomy.holds) (λ row. refl) roomy (record swept_new { jobs = roomy.jobs })
          is.beside.base (is.rows ∙ stays) refl
          (ready_same old roomy only.same.base (ap rows_of only.same.rows) only.jobs ready) one within))
        where
          as_ready : (stocks : List Stock) (r : Running) → IsReadyFor swept_new.base.identity (rows_of swept_new.rows) r.card.task r.kept →
              IsReadyFor swept_new.base.identity (rows_of swept_new.rows) (mark_one stocks r).card.task (mark_one stocks r).kept
          as_ready [] r had = had
          as_ready (stock ∷ stocks) r had = as_ready stocks (marked stock.row.path stock.row.stamp r) had

      from_old : HasRemoved paths removal.Done (told_store gk old.keeper) (told_store gk keeper)
      from_old = subst (λ k. HasRemoved paths removal.Done (told_store gk k) (told_store gk keeper)) only.keeper removed

      swept_was : WasAsked point by now request the_reply old swept_new (told_store gk old.keeper) (told_store gk keeper)
      swept_was = record {
        same = record { base = is.beside.base ∙ only.same.base; lost = is.beside.lost ∙ only.same.lost };
        disk = is.beside.disk ∙ only.disk;
        replied = sym (ap (λ (s : Served). s.reply) answered);
        moment = raised_is;
        history = history_same;
        stands = swept_stands;
        reserves = swept_reserves;
        ready = ready_swept;
        rows = λ has.
            subst (λ rs. ForSome rs (IsStore old.base.identity (after point the_entry).kept)) (sym from_old.rows)
            (told_change old.base.identity point.kept (after point the_entry).kept (λ rs. remove_all rs paths) (gk.kept old.keeper)
            (λ rs store.
            clean_store old.base.identity point the_entry cutoff (mode_of all) (the_gone all point time cutoff) (the_strays all point time cutoff) rs paths refl
            (ap (λ (s : Served). s.reply) answered)
            (subst (AreDropped (is_listed (the_gone all point time cutoff)) point.kept) (sym paths_are)
            (among_dropped old.base.identity (the_gone all point time cutoff) point.kept rs store)) store) has);
        still = λ leaves. absurd (both_ways false refl leaves);
        faults = from_old.faults;
        note = tt;
        called = subst (λ b. IsStoreCall b false false (told_store gk old.keeper) (told_store gk keeper)) due_is from_old.called;
      }

      pub swept_so : AsksSo point by now request old new (told_store gk old.keeper) (told_store gk new.keeper) said
      swept_so =
          subst (λ (r : Reply). AsksSo point by now request old new (told_store gk old.keeper) (told_store gk new.keeper) r) (sym said_is)
          (entered_so by now request the_reply old new (told_store gk old.keeper) (told_store gk new.keeper) point refl (λ happened. tt) room_there
          (subst (λ p. WasAsked point by now request the_reply old p (told_store gk old.keeper) (told_store gk p.keeper)) (sym entered.only)
          (subst (λ k. WasAsked point by now request the_reply old swept_new (told_store gk old.keeper) (told_store gk k)) (sym is.beside.keeper) swept_was)))
