-- A path that is invalidated: what the model serves, the point behind its entry, and the room for it.
use Rattle.std.proofs.Common.{◌≡◌, ◌≤◌, ◌+◌, ◌*◌, ◌&&◌, ℕ, max, nat_lt, Bool, true, false, cond, List, [], ◌∷◌, ◌++◌, map, filter, length, count_by, Contains, Option, Some, None, refl, sym, ap, ap₂, subst, ◌∙◌, le_refl, arith}
use Rattle.std.specs.List.{list_any}
use Rattle.std.specs.Option.{ForSome, option_map}
use Rattle.std.specs.Vec.{vec_capacity}
use Rattle.std.specs.declared.alloc.Global.{Global}
use Rattle.std.specs.declared.vec.Vec.{Vec}
use Rattle.std.proofs.lemmas.Bool.{both_ways, not-true}
use Rattle.std.proofs.lemmas.List.{length-append, length-map}
use Rattle.hall_lock.specs.declared.By.{By}
use Rattle.mat_path.proofs.Elements.{filtered_contains}
use Rattle.mat_path.specs.Names.{overlap}
use Rattle.mat_model.specs.declared.answers.FaultNote.{FaultNote}
use Rattle.mat_model.specs.declared.answers.Limit.{Limit}
use Rattle.mat_model.specs.declared.answers.Limit.TheVariants as limit
use Rattle.mat_model.specs.declared.answers.Reply.{Reply}
use Rattle.mat_model.specs.declared.answers.Reply.TheVariants as reply
use Rattle.mat_model.specs.declared.book.Book.{Book}
use Rattle.mat_model.specs.declared.book.Row.{Row}
use Rattle.mat_model.specs.declared.book.Ticket.{Ticket}
use Rattle.mat_model.specs.declared.entries.Entry.{Entry}
use Rattle.mat_model.specs.declared.entries.Event.{Event}
use Rattle.mat_model.specs.declared.requests.Asked.{Asked}
use Rattle.mat_model.specs.declared.requests.Asked.TheVariants as asked
use Rattle.mat_model.specs.Books.{IsBook}
use Rattle.mat_model.specs.Gate.{Served, is_live}
use Rattle.mat_model.specs.History.{Point, after, answer_asked, next_number, stepped}
use Rattle.mat_model.specs.Kept.{KeptRow, is_kept_clear, kept_asked, may_fail, overlaps_kept}
use Rattle.mat_model.specs.Legal.{IsRecordedAs, note_of}
use Rattle.mat_model.specs.Room.{full_asked, is_alone, row_paths}
use Rattle.mat_model.specs.Rows.{is_clear_of, overlaps_row}
use Rattle.mat_model.specs.Tickets.{left_ticket}
use Rattle.mat_model.specs.WorkState.{WayOf, WorkState, is_cleaning, removed_rows, ways_after, without_removed, work_asked}
use Rattle.model_laws.specs.KeptRules.{path_of_kept}
use Rattle.model_laws.specs.PointRules.{IsPoint}
use Rattle.model_laws.specs.RoomRules.{IsRoomy}
use Rattle.model_laws.specs.WorkRules.{IsWork}
use Rattle.model_laws.proofs.BelowLemmas.{invalid_answer}
use Rattle.core_laws.specs.Stored.{AreDropped, IsStore}
use Rattle.core_laws.proofs.StoreMoves.{invalidate_store}
use Rattle.core_laws.proofs.StoreSteps.{listed_dropped, told_change}
use Rattle.keep_port.specs.Rows.{remove_all}
use Rattle.keep_port.specs.declared.port.Keeper.{Ghosts as KeeperGhosts}
use Rattle.core_devices.specs.Removals.{HasRemoved, IsStoreCall, IsStoreNote, are_some}
use Rattle.core_devices.specs.declared.removing.Removal.{Removal}
use Rattle.core_devices.specs.declared.removing.Removal.TheVariants as removal
use Rattle.core_devices.specs.Told.{ToldStore, told_store}
use Rattle.row_book.specs.Stocks.{is_clear_stock, overlaps_stock, row_of, rows_of}
use Rattle.row_book.proofs.RowLemmas.{rows_left}
use Rattle.job_book.specs.Jobs.{jobs_of}
use Rattle.job_book.specs.declared.running.LentPart.{LentPart}
use Rattle.kept_book.specs.declared.mark.Mark.{Mark}
use Rattle.kept_book.specs.Marks.{is_clear_mark, mark_of, overlaps_mark, path_of_mark}
use Rattle.kept_book.proofs.LawLemmas.{clear_in_step}
use Rattle.mat_core.specs.Beginning.{HaveOnlyRoom, has_no_row}
use Rattle.mat_core.specs.Begins.{IsKeptStill, IsStill}
use Rattle.mat_core.specs.Calls.{CallsAsDue, MayWant}
use Rattle.mat_core.specs.Books.{AreWork, IsPart, StandFor, book_in}
use Rattle.mat_core.specs.Cores.{AreLimits}
use Rattle.mat_core.specs.Falling.{is_unkept}
use Rattle.mat_core.specs.Keeping.{AsksSo, WasAsked, asked_entry, moment_at}
use Rattle.mat_core.specs.Removing.{AreCleared, IsAskEntered, gone_marks}
use Rattle.mat_core.specs.Replacing.{AreRuled}
use Rattle.mat_core.specs.Rooms.{HasReserves, IsReservedFor, spent_in}
use Rattle.mat_core.specs.Served.{is_entered}
use Rattle.mat_core.specs.declared.parts.Parts.{Parts}
use Rattle.mat_core.proofs.BeginGoals.{failed_still, number_is, some_called, overlap_is, wanted_still}
use Rattle.mat_core.proofs.BeginLemmas.{alone_left, books_stand}
use Rattle.mat_core.proofs.CallLemmas.{entered_facts, raised_twice}
use Rattle.mat_core.proofs.RemoveLemmas.{paths_left, ready_left, removed_chosen, work_removed}
use Rattle.mat_core.proofs.ServeLemmas.{own_stamps, work_stays}
use Rattle.mat_core.proofs.UndoLemmas.{only_room, ready_same}
use Rattle.mat_core.proofs.OverlapLemmas.{answer_dead, answer_failed, answer_live, calm, cleared, gone_not_at, invalid_room, no_more}
use Rattle.mat_core.proofs.StoreCalls.{never_asked, never_wanted, wanted_call}

-- ---- an entry that changes nothing but the moment

abbrev pub entry_at : By → ℕ → ℕ → List (List ℕ) → Point → Reply → Entry
entry_at by now command path point said = asked_entry by (moment_at point now) (asked.Invalidate command path) said

-- what holds of a reply that changes nothing but the moment
pub record IsCalm (said : Reply) : Type 0 where
  pub entered : is_entered said ≡ true
  pub cleaning : is_cleaning said ≡ false
  pub ways : (request : Asked) (rows : List Row) (ways : List WayOf) → ways_after request said rows ways ≡ ways
  pub keeps : (command : ℕ) (path : List (List ℕ)) (rows : List Row) (kept : List KeptRow) → kept_asked (asked.Invalidate command path) said rows kept ≡ kept
  pub recorded : (happened : Event) → IsRecordedAs happened said

pub dead_calm : IsCalm reply.NotLive
dead_calm = record {
  entered = refl;
  cleaning = refl;
  ways = λ request rows ways. refl;
  keeps = λ command path rows kept. refl;
  recorded = λ happened. tt;
}

pub failed_calm : (note : FaultNote) → IsCalm (reply.Fault note)
failed_calm note = record {
  entered = refl;
  cleaning = refl;
  ways = λ request rows ways. refl;
  keeps = λ command path rows kept. refl;
  recorded = λ happened. tt;
}

module _ {D K : Type 0} (gk : KeeperGhosts K) (by : By) (now command : ℕ) (path : List (List ℕ)) (old roomy : Parts D K) (keeper : K) (point : Point)
    (stands : StandFor old point) (rules : IsPoint point) (roomy_for : IsRoomy old.base.limits point) (had : HasReserves old)
    (only : HaveOnlyRoom old roomy) (place : spent_in old + 2 ≤ vec_capacity roomy.history)
    (fits : nat_lt old.base.limits.history (spent_in old + 1) ≡ false) where
  abbrev mid : Parts D K
  mid = record roomy { keeper = keeper }

  abbrev moment : ℕ
  moment = moment_at point now

  roomy_stands : StandFor roomy point
  roomy_stands = books_stand old roomy only.same only.jobs point stands

  -- the moment that is entered is that of the point behind
  raised : (m : ℕ) → m ≡ max roomy.moment now → m ≡ moment
  raised m is = is ∙ ap (λ n. max n now) (ap (λ (b : Book). b.now) roomy_stands.book)

  entered_same : (history : Vec Entry Global) (said : Reply) →
      history.items ≡ roomy.history.items ++ asked_entry by (max roomy.moment now) (asked.Invalidate command path) said ∷ [] →
      history.items ≡ old.history.items ++ entry_at by now command path point said ∷ []
  entered_same history said is =
      is
      ∙ ap (λ n. roomy.history.items ++ asked_entry by n (asked.Invalidate command path) said ∷ []) (raised (max roomy.moment now) refl)
      ∙ ap (λ es. es ++ entry_at by now command path point said ∷ []) only.same.history

  entered_room : (history : Vec Entry Global) (said : Reply) →
      history.items ≡ roomy.history.items ++ asked_entry by (max roomy.moment now) (asked.Invalidate command path) said ∷ [] →
      vec_capacity history ≡ vec_capacity roomy.history → length history.items + (spent_in old + 1) ≤ vec_capacity history + length old.history.items
  entered_room history said is capacity =
      let items : length history.items ≡ length roomy.history.items + 1 =
      ap length is ∙ length-append roomy.history.items (asked_entry by (max roomy.moment now) (asked.Invalidate command path) said ∷ []) in
      let same : length roomy.history.items ≡ length old.history.items = ap length only.same.history in
      omega (arith, items, same, place, capacity)

  pub room_is : full_asked old.base.limits point moment (asked.Invalidate command path) ≡ None
  room_is = invalid_room old.base.limits old point moment command path stands rules roomy_for
      ∙ ap (λ b. cond b (Some limit.History) None) fits

  -- with a reply that changes nothing else
  module _ (said : Reply) (quiet : IsCalm said) (m : ℕ) (history : Vec Entry Global) (is_moment : m ≡ max roomy.moment now)
      (is_history : history.items ≡ roomy.history.items ++ asked_entry by (max roomy.moment now) (asked.Invalidate command path) said ∷ [])
      (capacity : vec_capacity history ≡ vec_capacity roomy.history)
      (answered : answer_asked point moment (asked.Invalidate command path) said ≡ calm point moment command path said) where
    abbrev calm_new : Parts D K
    calm_new = record roomy { keeper = keeper; moment = m; history = history }

    calm_work : work_asked (asked.Invalidate command path) said point.book.rows point.book.rows point.work ≡ point.work
    calm_work = work_stays (asked.Invalidate command path) said point.book.rows point.book.rows point.work (own_stamps point.book.rows) quiet.cleaning
        (quiet.ways (asked.Invalidate command path) point.book.rows point.work.ways)

    calm_stands : StandFor calm_new (after point (entry_at by now command path point said))
    calm_stands = subst (λ (s : Served). StandFor calm_new (stepped point (entry_at by now command path point said) s)) (sym answered) (record {
      book = ap (λ (b : Book). record b { now = m }) roomy_stands.book
          ∙ ap (λ n. record point.book { now = n }) (raised m is_moment ∙ sym (raised_twice point.book.now now));
      work = subst (AreWork calm_new) (sym calm_work) (record {
        stocks = roomy_stands.work.stocks;
        jobs = roomy_stands.work.jobs;
        cleaned = roomy_stands.work.cleaned;
        debris = roomy_stands.work.debris;
      });
      kept = roomy_stands.kept ∙ ap (map mark_of) (sym (quiet.keeps command path point.book.rows point.kept));
      nodes = roomy_stands.nodes ∙ no_more point.nodes;
      paths = roomy_stands.paths ∙ ap (row_paths point.book) (sym (quiet.keeps command path point.book.rows point.kept));
      history = entered_same history said is_history
          ∙ ap (λ es. es ++ entry_at by now command path point said ∷ []) stands.history;
    })

    calm_reserves : HasReserves calm_new
    calm_reserves = record {
      history =
          let room = entered_room history said is_history capacity in
          let running : length roomy.jobs ≡ length old.jobs = ap length only.jobs in
          let live : length roomy.gate.live ≡ length old.gate.live = ap (λ g. length g.live) only.same.gate in
          let waiting : length roomy.gate.waiting ≡ length old.gate.waiting = ap (λ g. length g.waiting) only.same.gate in
          omega (arith, room, running, live, waiting);
      debris =
          let running : length roomy.jobs ≡ length old.jobs = ap length only.jobs in
          let room = only.more.debris in let has = had.debris in omega (arith, running, room, has);
      places = λ job among. subst (λ ps. IsReservedFor ps job.task) (sym only.places)
          (had.places job (subst (λ js. Contains (jobs_of js) job) only.jobs among));
    }

    pub calm_asked : IsKeptStill (told_store gk old.keeper) (told_store gk keeper) →
        IsStoreNote (gk.fault_count old.keeper) (gk.fault_count keeper) (note_of said) →
        CallsAsDue point (asked.Invalidate command path) said (told_store gk old.keeper) (told_store gk keeper) →
        WasAsked point by now (asked.Invalidate command path) said old calm_new (told_store gk old.keeper) (told_store gk keeper)
    calm_asked still note called = record {
      same = record { base = only.same.base; lost = only.same.lost };
      disk = only.disk;
      replied = sym (ap (λ (s : Served). s.reply) answered);
      moment = raised m is_moment;
      history = entered_same history said is_history;
      stands = calm_stands;
      reserves = calm_reserves;
      ready = ready_same old calm_new only.same.base (ap rows_of only.same.rows) only.jobs;
      rows = λ has.
          subst (λ ks. ForSome (gk.kept keeper) (IsStore old.base.identity ks))
          (sym (ap (λ (s : Served). kept_asked (asked.Invalidate command path) s.reply s.book.rows point.kept) answered
          ∙ quiet.keeps command path point.book.rows point.kept))
          (subst (λ rs. ForSome rs (IsStore old.base.identity point.kept)) (sym still.rows) has);
      still = λ leaves. still.rows;
      faults = still.faults;
      note = note;
      called = called;
    }

-- ---- an entry by which rows are gone

-- the paths of the kept rows that overlap a path
marks_paths : (path : List (List ℕ)) (kept : List KeptRow) → gone_marks path (map mark_of kept) ≡ map path_of_kept (filter (overlaps_kept path) kept)
marks_paths path [] = refl
marks_paths path (one ∷ kept) =
    elim (overlap one.path path) as
    (λ b. map path_of_mark (cond b (mark_of one ∷ filter (overlaps_mark path) (map mark_of kept)) (filter (overlaps_mark path) (map mark_of kept)))
    ≡ map path_of_kept (cond b (one ∷ filter (overlaps_kept path) kept) (filter (overlaps_kept path) kept))) [
      | true ↦ ap (λ (ps : List (List (List ℕ))). one.path ∷ ps) (marks_paths path kept)
      | false ↦ marks_paths path kept
    ]

-- a part that is read was marked rightly, and is still, where no clean removed rows
parts_same : (removed : List Row) (work : WorkState) (lent : Option LentPart) → IsPart work lent → IsPart (without_removed false removed work) lent
parts_same removed work None is = tt
parts_same removed work (Some part) is = is

module _ {D K : Type 0} (number : ℕ) (path : List (List ℕ)) (old new : Parts D K) (moment now command : ℕ) (point : Point) (stands : StandFor old point)
    (rules : IsPoint point) (is : AreCleared number path old new) (numbered : number ≡ next_number point) where
  old_rows : rows_of old.rows ≡ point.book.rows
  old_rows = ap (λ (b : Book). b.rows) stands.book

  new_rows : rows_of new.rows ≡ filter (is_clear_of path) (rows_of old.rows)
  new_rows = ap rows_of is.rows ∙ rows_left (is_clear_of path) old.rows

  old_book : IsBook number (book_in old)
  old_book = subst (λ n. IsBook n (book_in old)) (sym numbered) (subst (λ b. IsBook (next_number point) b) (sym stands.book) rules.book)

  old_work : IsWork number (rows_of old.rows) point.work
  old_work = subst (λ n. IsWork n (rows_of old.rows) point.work) (sym numbered)
      (subst (λ rs. IsWork (next_number point) rs point.work) (sym old_rows) rules.work)

  abbrev the_tickets : ℕ → Book → List Ticket
  the_tickets n book = map (left_ticket n (filter (overlaps_row path) book.rows) (filter (is_clear_of path) book.rows)) book.tickets

  abbrev the_book : ℕ → ℕ → Book → Book
  the_book n m book = record book { now = m; rows = filter (is_clear_of path) book.rows; tickets = the_tickets n book }

  -- the book behind it, at another moment
  pub cleared_book : (m : ℕ) → record (book_in new) { now = m } ≡ the_book (next_number point) m point.book
  cleared_book m =
      ap (λ f. record (book_in new) { first = f; now = m }) is.beside.first
      ∙ ap (λ g. record (book_in new) { first = old.first; now = m; state = g.state; live = g.live; waiting = g.waiting; soft = g.soft }) is.gate
      ∙ ap (λ r. record (book_in old) { now = m; rows = r; holds = new.holds; tickets = new.tickets.all }) new_rows
      ∙ ap (λ h. record (book_in old) { now = m; rows = filter (is_clear_of path) (rows_of old.rows); holds = h; tickets = new.tickets.all }) is.holds
      ∙ ap (λ t. record (book_in old) { now = m; rows = filter (is_clear_of path) (rows_of old.rows); tickets = t })
      (is.tickets ∙ sym (invalid_answer number number (book_in old) path old_book))
      ∙ ap (λ n. the_book n m (book_in old)) numbered
      ∙ ap (the_book (next_number point) m) stands.book

  -- the work state
  pub cleared_work : AreWork new (without_removed false (filter (overlaps_row path) (rows_of old.rows)) point.work)
  cleared_work =
      work_removed (overlaps_row path) (is_clear_of path) (λ row. refl) false number old new point.work old_work.apart stands.work is.rows is.jobs is.debris
      (λ running among.
      parts_same (filter (overlaps_row path) (rows_of old.rows)) point.work running.lent
      (stands.work.cleaned running (subst (λ js. Contains js running) is.jobs among)))

  removed_are : removed_rows point.book.rows (filter (is_clear_of path) point.book.rows) ≡ filter (overlaps_row path) (rows_of old.rows)
  removed_are =
      removed_chosen (overlaps_row path) (is_clear_of path) (λ row. refl) (next_number point) point.book.rows rules.work.stamped
      ∙ ap (filter (overlaps_row path)) (sym old_rows)

  -- the kept rows
  pub cleared_marks : new.kept.marks ≡ map mark_of (filter (is_kept_clear path) point.kept)
  cleared_marks = is.kept ∙ ap (filter (is_clear_mark path)) stands.kept ∙ sym (clear_in_step path point.kept)

  -- and the paths
  pub cleared_paths : new.paths ≡ length (filter (is_clear_of path) point.book.rows)
      + length (filter (is_alone (filter (is_clear_of path) point.book.rows)) (filter (is_kept_clear path) point.kept))
  cleared_paths =
      paths_left (overlaps_row path) (is_clear_of path) (λ row. refl) old.rows point.kept (filter (is_kept_clear path) point.kept) old.paths
      (count_by (has_no_row old.rows) (gone_marks path (map mark_of point.kept))) new.paths
      (λ one among. gone_not_at one.path path (rows_of old.rows) (not-true (overlaps_kept path one) (filtered_contains (is_kept_clear path) point.kept one among).1))
      (alone_left path old.rows point.kept)
      (stands.paths ∙ ap (λ (rs : List Row). length rs + length (filter (is_alone rs) point.kept)) (sym old_rows))
      (ap₂ (λ (ms marks : List Mark). new.paths + count_by (is_unkept ms) (filter (overlaps_stock path) old.rows)
      + count_by (has_no_row old.rows) (gone_marks path marks)) (sym cleared_marks) (sym stands.kept) ∙ is.paths)
      ∙ ap (λ (rs : List Row). length (filter (is_clear_of path) rs)
      + length (filter (is_alone (filter (is_clear_of path) rs)) (filter (is_kept_clear path) point.kept))) old_rows

module _ {D K : Type 0} (gk : KeeperGhosts K) (by : By) (now command : ℕ) (path : List (List ℕ)) (old roomy : Parts D K) (keeper : K) (point : Point)
    (stands : StandFor old point) (rules : IsPoint point) (roomy_for : IsRoomy old.base.limits point) (had : HasReserves old)
    (only : HaveOnlyRoom old roomy) (place : spent_in old + 2 ≤ vec_capacity roomy.history)
    (fits : nat_lt old.base.limits.history (spent_in old + 1) ≡ false) (live : is_live command (book_in old) ≡ true) where
  abbrev from : Parts D K
  from = record roomy { keeper = keeper }

  -- the parts stand for the point with another state store
  pub from_stands : StandFor from point
  from_stands =
      let is : StandFor roomy point = books_stand old roomy only.same only.jobs point stands in record {
        book = is.book;
        work = record { stocks = is.work.stocks; jobs = is.work.jobs; cleaned = is.work.cleaned; debris = is.work.debris };
        kept = is.kept;
        nodes = is.nodes;
        paths = is.paths;
        history = is.history;
      }

  abbrev the_count : ℕ
  the_count = length (filter (overlaps_row path) point.book.rows)

  module _ (done : Parts D K) (is : AreCleared (from.first + length from.history.items) path from done) (m n : ℕ) (history : Vec Entry Global)
      (is_moment : m ≡ max done.moment now) (counted : n ≡ length (filter (overlaps_stock path) old.rows))
      (is_history : history.items ≡ done.history.items ++ asked_entry by (max done.moment now) (asked.Invalidate command path) (reply.Invalid n) ∷ [])
      (capacity : vec_capacity history ≡ vec_capacity done.history)
      (spare : 2 * length old.jobs + length (filter (overlaps_stock path) old.rows) ≤ roomy.debris.spare) where
    abbrev cleared_new : Parts D K
    cleared_new = record done { moment = m; history = history }

    abbrev the_entry : Entry
    the_entry = entry_at by now command path point (reply.Invalid n)

    abbrev the_served : Served
    the_served = cleared point (moment_at point now) command path

    numbered : from.first + length from.history.items ≡ next_number point
    numbered = number_is from point from_stands

    answered : answer_asked point (moment_at point now) (asked.Invalidate command path) (reply.Invalid n) ≡ the_served
    answered = answer_live point (moment_at point now) command path n (subst (λ (b : Book). is_live command b ≡ true) stands.book live)

    moment_is : done.moment ≡ point.book.now
    moment_is = is.beside.moment ∙ ap (λ (b : Book). b.now) from_stands.book

    raised_is : m ≡ moment_at point now
    raised_is = is_moment ∙ ap (λ t. max t now) moment_is

    history_same : history.items ≡ old.history.items ++ the_entry ∷ []
    history_same =
        is_history
        ∙ ap (λ t. done.history.items ++ asked_entry by (max t now) (asked.Invalidate command path) (reply.Invalid n) ∷ []) moment_is
        ∙ ap (λ es. es ++ the_entry ∷ []) (ap (λ h. h.items) is.beside.history ∙ only.same.history)

    count_is : n ≡ the_count
    count_is = counted ∙ sym (length-map (filter (overlaps_stock path) old.rows) row_of)
        ∙ ap length (rows_left (overlaps_row path) old.rows) ∙ ap (λ (b : Book). length (filter (overlaps_row path) b.rows)) stands.book

    work_is : work_asked (asked.Invalidate command path) (reply.Invalid the_count) point.book.rows (filter (is_clear_of path) point.book.rows) point.work
        ≡ without_removed false (filter (overlaps_row path) (rows_of from.rows)) point.work
    work_is = ap (λ (rs : List Row). without_removed false rs point.work)
        (removed_are (from.first + length from.history.items) path from done m now command point from_stands rules is numbered)

    cleared_stands : StandFor cleared_new (after point the_entry)
    cleared_stands = subst (λ (s : Served). StandFor cleared_new (stepped point the_entry s)) (sym answered) (record {
      book = cleared_book (from.first + length from.history.items) path from done m now command point from_stands rules is numbered m
          ∙ ap (λ t. record point.book {
            now = t;
            rows = filter (is_clear_of path) point.book.rows;
            tickets = map (left_ticket (next_number point) (filter (overlaps_row path) point.book.rows) (filter (is_clear_of path) point.book.rows)) point.book.tickets;
          }) (raised_is ∙ sym (raised_twice point.book.now now));
      work = subst (AreWork cleared_new) (sym work_is)
          (let work = cleared_work (from.first + length from.history.items) path from done m now command point from_stands rules is numbered in
          record { stocks = work.stocks; jobs = work.jobs; cleaned = work.cleaned; debris = work.debris });
      kept = cleared_marks (from.first + length from.history.items) path from done m now command point from_stands rules is numbered;
      nodes = is.nodes ∙ from_stands.nodes ∙ no_more point.nodes;
      paths = cleared_paths (from.first + length from.history.items) path from done m now command point from_stands rules is numbered;
      history = history_same ∙ ap (λ es. es ++ the_entry ∷ []) stands.history;
    })

    jobs_same : done.jobs ≡ old.jobs
    jobs_same = is.jobs ∙ only.jobs

    cleared_reserves : HasReserves cleared_new
    cleared_reserves = record {
      history =
          let items : length history.items ≡ length old.history.items + 1 = ap length history_same ∙ length-append old.history.items (the_entry ∷ []) in
          let running : length done.jobs ≡ length old.jobs = ap length jobs_same in
          let lives : length done.gate.live ≡ length old.gate.live = ap (λ g. length g.live) (is.gate ∙ only.same.gate) in
          let waiting : length done.gate.waiting ≡ length old.gate.waiting = ap (λ g. length g.waiting) (is.gate ∙ only.same.gate) in
          let more : vec_capacity history ≡ vec_capacity roomy.history = capacity ∙ ap vec_capacity is.beside.history in
          omega (arith, items, running, lives, waiting, more, place);
      debris =
          let running : length done.jobs ≡ length old.jobs = ap length jobs_same in
          let some : length (filter (overlaps_stock path) roomy.rows) ≡ length (filter (overlaps_stock path) old.rows) =
          ap (λ rs. length (filter (overlaps_stock path) rs)) only.same.rows in
          let room = is.spare in omega (arith, running, some, room, spare);
      places = λ job among. subst (λ ps. IsReservedFor ps job.task) (sym (is.places ∙ only.places))
          (had.places job (subst (λ js. Contains (jobs_of js) job) jobs_same among));
    }

    kept_is : (after point the_entry).kept ≡ filter (is_kept_clear path) point.kept
    kept_is = ap (λ (s : Served). kept_asked (asked.Invalidate command path) s.reply s.book.rows point.kept) answered

    pub cleared_asked : (now_keeper : K) → gk.kept now_keeper ≡ option_map (λ rows. remove_all rows (gone_marks path old.kept.marks)) (gk.kept old.keeper) →
        gk.fault_count old.keeper ≤ gk.fault_count now_keeper →
        CallsAsDue point (asked.Invalidate command path) (reply.Invalid n) (told_store gk old.keeper) (told_store gk now_keeper) →
        WasAsked point by now (asked.Invalidate command path) (reply.Invalid n) old cleared_new (told_store gk old.keeper) (told_store gk now_keeper)
    cleared_asked now_keeper rows faults called = record {
      same = record { base = is.beside.base ∙ only.same.base; lost = is.beside.lost ∙ only.same.lost };
      disk = is.beside.disk ∙ only.disk;
      replied = ap reply.Invalid count_is ∙ sym (ap (λ (s : Served). s.reply) answered);
      moment = raised_is;
      history = history_same;
      stands = cleared_stands;
      reserves = cleared_reserves;
      ready = ready_left (overlaps_row path) (is_clear_of path) (λ row. refl) old cleared_new (is.beside.base ∙ only.same.base)
          (is.rows ∙ ap (filter (is_clear_stock path)) only.same.rows) jobs_same;
      rows = λ has.
          subst (λ rs. ForSome rs (IsStore old.base.identity (after point the_entry).kept)) (sym rows)
          (told_change old.base.identity point.kept (after point the_entry).kept (λ rs. remove_all rs (gone_marks path old.kept.marks)) (gk.kept old.keeper)
          (λ rs store.
          invalidate_store old.base.identity point the_entry command the_count path rs (gone_marks path old.kept.marks) refl
          (ap (λ (s : Served). s.reply) answered)
          (subst (AreDropped (overlaps_kept path) point.kept) (sym (ap (gone_marks path) stands.kept ∙ marks_paths path point.kept))
          (listed_dropped old.base.identity (overlaps_kept path) point.kept rs rules.kept.order store)) store) has);
      still = λ leaves. absurd (both_ways false refl leaves);
      faults = faults;
      note = tt;
      called = called;
    }

-- ---- what the request did

-- parts whose state store is another one stand for the same point
pub stand_beside : {D K : Type 0} (parts : Parts D K) (keeper : K) (point : Point) → StandFor parts point → StandFor (record parts { keeper = keeper }) point
stand_beside parts keeper point is = record {
  book = is.book;
  work = record { stocks = is.work.stocks; jobs = is.work.jobs; cleaned = is.work.cleaned; debris = is.work.debris };
  kept = is.kept;
  nodes = is.nodes;
  paths = is.paths;
  history = is.history;
}

-- parts that only have more room keep the rules of parts
pub ruled_room : {D K : Type 0} (number : ℕ) (old roomy : Parts D K) (keeper : K) → HaveOnlyRoom old roomy → AreRuled number old →
    AreRuled number (record roomy { keeper = keeper })
ruled_room number old roomy keeper only ruled = record {
  point = ruled.point;
  stands = stand_beside roomy keeper ruled.point (books_stand old roomy only.same only.jobs ruled.point ruled.stands);
  rules = ruled.rules;
  roomy = subst (λ b. IsRoomy b.limits ruled.point) (sym only.same.base) ruled.roomy;
  limits = subst (λ b. AreLimits b.limits) (sym only.same.base) ruled.limits;
  next = ruled.next;
}

pub ruled_again : {D K : Type 0} (old roomy : Parts D K) (keeper : K) → HaveOnlyRoom old roomy → AreRuled (old.first + length old.history.items) old →
    AreRuled (roomy.first + length roomy.history.items) (record roomy { keeper = keeper })
ruled_again old roomy keeper only ruled =
    subst (λ n. AreRuled n (record roomy { keeper = keeper })) (sym (ap₂ (λ f (es : List Entry). f + length es) only.same.first only.same.history))
    (ruled_room (old.first + length old.history.items) old roomy keeper only ruled)

-- they are still
pub room_still : {D K : Type 0} (old roomy : Parts D K) (keeper : K) → HaveOnlyRoom old roomy → HasReserves old → IsStill old (record roomy { keeper = keeper })
room_still old roomy keeper only had =
    let still = only_room old roomy only had in record {
      same = record { base = still.same.base; lost = still.same.lost };
      history = still.history;
      stands = λ point stands. stand_beside roomy keeper point (still.stands point stands);
      reserves = record { history = still.reserves.history; debris = still.reserves.debris; places = still.reserves.places };
      ready = still.ready;
    }

-- there is only more room in the history
pub grown_room : {D K : Type 0} (old : Parts D K) (history : Vec Entry Global) → history.items ≡ old.history.items →
    vec_capacity old.history ≤ vec_capacity history → HaveOnlyRoom old (record old { history = history })
grown_room old history items capacity = record {
  same = record {
    base = refl;
    first = refl;
    moment = refl;
    gate = refl;
    rows = refl;
    holds = refl;
    tickets = refl;
    debris = refl;
    kept = refl;
    nodes = refl;
    paths = refl;
    lost = refl;
    history = items;
  };
  more = record { history = capacity; debris = le_refl old.debris.spare };
  jobs = refl;
  disk = refl;
  keeper = refl;
  places = refl;
}

pub grown_stands : {D K : Type 0} (old : Parts D K) (history : Vec Entry Global) (point : Point) → history.items ≡ old.history.items →
    vec_capacity old.history ≤ vec_capacity history → StandFor old point → StandFor (record old { history = history }) point
grown_stands old history point items capacity stands =
    books_stand old (record old { history = history }) (grown_room old history items capacity).same refl point stands

-- as many entries are spent
pub grown_spent : {D K : Type 0} (old : Parts D K) (history : Vec Entry Global) → history.items ≡ old.history.items →
    spent_in (record old { history = history }) ≡ spent_in old
grown_spent old history items = ap (λ (es : List Entry). length es + length old.jobs + length old.gate.live + length old.gate.waiting) items

-- and there is room for two more than are spent
pub grown_place : {D K : Type 0} (old : Parts D K) (history : Vec Entry Global) (entries : ℕ) → history.items ≡ old.history.items →
    entries + length old.history.items ≡ spent_in old → length history.items + (entries + 2) ≤ vec_capacity history →
    spent_in old + 2 ≤ vec_capacity history
grown_place old history entries items owed place =
    let same : length history.items ≡ length old.history.items = ap length items in omega (arith, same, owed, place)

-- nothing was entered, for want of memory
pub wanted_so : {D K : Type 0} (gk : KeeperGhosts K) (by : By) (now : ℕ) (asking : Asked) (old roomy : Parts D K) (keeper : K) (point : Point) →
    HasReserves old → HaveOnlyRoom old roomy → IsKeptStill (told_store gk old.keeper) (told_store gk keeper) →
    MayWant (told_store gk old.keeper) (told_store gk keeper) →
    AsksSo point by now asking old (record roomy { keeper = keeper }) (told_store gk old.keeper) (told_store gk keeper) reply.NoMemory
wanted_so gk by now asking old roomy keeper point had only kept called = record {
  recorded = λ happened. tt;
  entered = λ is. absurd (both_ways false refl is);
  unchanged = λ is. record { still = room_still old roomy keeper only had; disk = only.disk; kept = kept; called = called };
  full = λ is. absurd (both_ways true is refl);
}

-- nor where a limit would be passed
pub full_so : {D K : Type 0} (gk : KeeperGhosts K) (by : By) (now : ℕ) (asking : Asked) (which : Limit) (old roomy : Parts D K) (point : Point) →
    HasReserves old → HaveOnlyRoom old roomy → Some which ≡ full_asked old.base.limits point (moment_at point now) asking →
    AsksSo point by now asking old roomy (told_store gk old.keeper) (told_store gk roomy.keeper) (reply.Full which)
full_so gk by now asking which old roomy point had only full = record {
  recorded = λ happened. tt;
  entered = λ is. absurd (both_ways false refl is);
  unchanged = λ is. record {
    still = room_still old roomy roomy.keeper only had;
    disk = only.disk;
    kept = record {
      rows = ap (λ k. gk.kept k) only.keeper;
      faults = subst (λ k. gk.fault_count old.keeper ≤ gk.fault_count k) (sym only.keeper) (le_refl (gk.fault_count old.keeper));
    };
    called = never_wanted (told_store gk old.keeper) (told_store gk roomy.keeper) (ap (told_store gk) only.keeper);
  };
  full = λ is. full;
}

-- it was entered with a reply
pub entered_so : {D K : Type 0} (by : By) (now : ℕ) (asking : Asked) (said : Reply) (old new : Parts D K) (store now_store : ToldStore) (point : Point) →
    is_entered said ≡ true → ((happened : Event) → IsRecordedAs happened said) →
    full_asked old.base.limits point (moment_at point now) asking ≡ None → WasAsked point by now asking said old new store now_store →
    AsksSo point by now asking old new store now_store said
entered_so by now asking said old new store now_store point entered recorded room was = record {
  recorded = recorded;
  entered = λ is. was;
  unchanged = λ is. absurd (both_ways (is_entered said) is entered);
  full = λ is. (entered_facts said entered).1 ∙ sym room;
}

-- what was done after room was made in the history
pub asked_grown : {D K : Type 0} (by : By) (now : ℕ) (asking : Asked) (said : Reply) (old new : Parts D K) (history : Vec Entry Global)
    (store now_store : ToldStore) (point : Point) → history.items ≡ old.history.items → vec_capacity old.history ≤ vec_capacity history →
    AsksSo point by now asking (record old { history = history }) new store now_store said → AsksSo point by now asking old new store now_store said
asked_grown by now asking said old new history store now_store point items capacity so = record {
  recorded = so.recorded;
  entered = λ is.
      let was = so.entered is in record {
        same = record { base = was.same.base; lost = was.same.lost };
        disk = was.disk;
        replied = was.replied;
        moment = was.moment;
        history = was.history ∙ ap (λ es. es ++ asked_entry by (moment_at point now) asking said ∷ []) items;
        stands = was.stands;
        reserves = was.reserves;
        ready = was.ready;
        rows = was.rows;
        still = was.still;
        faults = was.faults;
        note = was.note;
        called = was.called;
      };
  unchanged = λ is.
      let was = so.unchanged is in record {
        still = record {
          same = record { base = was.still.same.base; lost = was.still.same.lost };
          history = was.still.history ∙ items;
          stands = λ at stands.
              was.still.stands at (books_stand old (record old { history = history }) (grown_room old history items capacity).same refl at stands);
          reserves = was.still.reserves;
          ready = was.still.ready;
        };
        disk = was.disk;
        kept = was.kept;
        called = was.called;
      };
  full = so.full;
}

-- a state store that is the same has what it had
pub same_keeper : {K : Type 0} (gk : KeeperGhosts K) (old new : K) → new ≡ old → IsKeptStill (told_store gk old) (told_store gk new)
same_keeper gk old new same = record {
  rows = ap (λ k. gk.kept k) same;
  faults = subst (λ k. gk.fault_count old ≤ gk.fault_count k) (sym same) (le_refl (gk.fault_count old));
}

and_false : (b : Bool) → (b && false) ≡ false
and_false true = refl
and_false false = refl

and_true : (b : Bool) → (b && true) ≡ b
and_true true = refl
and_true false = refl

module _ {D K : Type 0} (gk : KeeperGhosts K) (by : By) (now command : ℕ) (path : List (List ℕ)) (old roomy new : Parts D K) (keeper : K) (point : Point)
    (stands : StandFor old point) (rules : IsPoint point) (roomy_for : IsRoomy old.base.limits point) (had : HasReserves old)
    (only : HaveOnlyRoom old roomy) (place : spent_in old + 2 ≤ vec_capacity roomy.history)
    (fits : nat_lt old.base.limits.history (spent_in old + 1) ≡ false) where
  room_there : full_asked old.base.limits point (moment_at point now) (asked.Invalidate command path) ≡ None
  room_there = room_is gk by now command path old roomy keeper point stands rules roomy_for had only place fits

  -- the command isn't live
  pub dead_so : is_live command (book_in old) ≡ false → keeper ≡ old.keeper →
      IsAskEntered by now (asked.Invalidate command path) reply.NotLive (record roomy { keeper = keeper }) new →
      AsksSo point by now (asked.Invalidate command path) old new (told_store gk old.keeper) (told_store gk new.keeper) reply.NotLive
  dead_so dead same entered =
      entered_so by now (asked.Invalidate command path) reply.NotLive old new (told_store gk old.keeper) (told_store gk new.keeper) point refl
      dead_calm.recorded room_there
      (subst (λ p. WasAsked point by now (asked.Invalidate command path) reply.NotLive old p (told_store gk old.keeper) (told_store gk p.keeper))
      (sym entered.only)
      (calm_asked gk by now command path old roomy keeper point stands rules roomy_for had only place fits reply.NotLive dead_calm new.moment new.history
      entered.moment entered.history entered.capacity
      (answer_dead point (moment_at point now) command path (subst (λ (b : Book). is_live command b ≡ false) stands.book dead))
      (same_keeper gk old.keeper keeper same) tt
      (never_asked point (asked.Invalidate command path) reply.NotLive (told_store gk old.keeper) (told_store gk keeper)
      (ap (λ b. list_any (overlaps_kept path) point.kept && b) (subst (λ (b : Book). is_live command b ≡ false) stands.book dead)
      ∙ and_false (list_any (overlaps_kept path) point.kept)) refl (ap (told_store gk) same))))

  module _ (live : is_live command (book_in old) ≡ true) (paths : List (List (List ℕ))) (are : paths ≡ gone_marks path old.kept.marks) where
    -- some paths go exactly where the request has kept rows to remove
    due_is : are_some paths ≡ may_fail (asked.Invalidate command path) point.book point.kept
    due_is =
        ap are_some (are ∙ ap (gone_marks path) stands.kept) ∙ overlap_is path point.kept
        ∙ sym (ap (λ b. list_any (overlaps_kept path) point.kept && b) (subst (λ (b : Book). is_live command b ≡ true) stands.book live)
        ∙ and_true (list_any (overlaps_kept path) point.kept))

    -- the state store failed
    pub failed_so : (note : FaultNote) (said : Removal) → said ≡ removal.Failed note → (are_some paths ≡ false → said ≡ removal.Done) →
        HasRemoved paths (removal.Failed note) (told_store gk roomy.keeper) (told_store gk keeper) →
        IsAskEntered by now (asked.Invalidate command path) (reply.Fault note) (record roomy { keeper = keeper }) new →
        AsksSo point by now (asked.Invalidate command path) old new (told_store gk old.keeper) (told_store gk new.keeper) (reply.Fault note)
    failed_so note said failed none removed entered =
        let from_old = subst (λ k. HasRemoved paths (removal.Failed note) (told_store gk k) (told_store gk keeper)) only.keeper removed in
        let some = sym (overlap_is path point.kept)
        ∙ subst (λ ps. are_some ps ≡ true) (are ∙ ap (gone_marks path) stands.kept) (some_called paths said note failed none) in
        entered_so by now (asked.Invalidate command path) (reply.Fault note) old new (told_store gk old.keeper) (told_store gk new.keeper) point refl
        (failed_calm note).recorded room_there
        (subst (λ p. WasAsked point by now (asked.Invalidate command path) (reply.Fault note) old p (told_store gk old.keeper) (told_store gk p.keeper))
        (sym entered.only)
        (calm_asked gk by now command path old roomy keeper point stands rules roomy_for had only place fits (reply.Fault note) (failed_calm note) new.moment
        new.history entered.moment entered.history entered.capacity
        (answer_failed point (moment_at point now) command path note some (subst (λ (b : Book). is_live command b ≡ true) stands.book live)
        (ap (λ n. n.device) from_old.note.0))
        (failed_still paths note (told_store gk old.keeper) (told_store gk keeper) from_old) from_old.note
        (subst (λ b. IsStoreCall b true false (told_store gk old.keeper) (told_store gk keeper)) due_is from_old.called)))

    -- memory was wanting
    pub wanting_so : HasRemoved paths removal.NoMemory (told_store gk roomy.keeper) (told_store gk keeper) →
        AsksSo point by now (asked.Invalidate command path) old (record roomy { keeper = keeper }) (told_store gk old.keeper) (told_store gk keeper)
        reply.NoMemory
    wanting_so removed =
        wanted_so gk by now (asked.Invalidate command path) old roomy keeper point had only
        (subst (λ k. IsKeptStill (told_store gk k) (told_store gk keeper)) only.keeper
        (wanted_still paths (told_store gk roomy.keeper) (told_store gk keeper) removed))
        (subst (λ k. MayWant (told_store gk k) (told_store gk keeper)) only.keeper
        (wanted_call (are_some paths) (told_store gk roomy.keeper) (told_store gk keeper) removed.called))

    -- the rows are gone
    pub done_so : (done : Parts D K) (n : ℕ) → AreCleared (roomy.first + length roomy.history.items) path (record roomy { keeper = keeper }) done →
        n ≡ length (filter (overlaps_stock path) old.rows) →
        2 * length old.jobs + length (filter (overlaps_stock path) old.rows) ≤ roomy.debris.spare →
        HasRemoved paths removal.Done (told_store gk roomy.keeper) (told_store gk keeper) →
        IsAskEntered by now (asked.Invalidate command path) (reply.Invalid n) done new →
        AsksSo point by now (asked.Invalidate command path) old new (told_store gk old.keeper) (told_store gk new.keeper) (reply.Invalid n)
    done_so done n is counted spare removed entered =
        let from_old = subst (λ k. HasRemoved paths removal.Done (told_store gk k) (told_store gk keeper)) only.keeper removed in
        entered_so by now (asked.Invalidate command path) (reply.Invalid n) old new (told_store gk old.keeper) (told_store gk new.keeper) point refl
        (λ happened. tt) room_there
        (subst (λ p. WasAsked point by now (asked.Invalidate command path) (reply.Invalid n) old p (told_store gk old.keeper) (told_store gk p.keeper))
        (sym entered.only)
        (subst (λ k. WasAsked point by now (asked.Invalidate command path) (reply.Invalid n) old
        (record done { moment = new.moment; history = new.history }) (told_store gk old.keeper) (told_store gk k)) (sym is.beside.keeper)
        (cleared_asked gk by now command path old roomy keeper point stands rules roomy_for had only place fits live done is new.moment n new.history
        entered.moment counted entered.history entered.capacity spare keeper
        (from_old.rows ∙ ap (λ ps. option_map (λ rows. remove_all rows ps) (gk.kept old.keeper)) are) from_old.faults
        (subst (λ b. IsStoreCall b false false (told_store gk old.keeper) (told_store gk keeper)) due_is from_old.called))))
