-- A flush: the rows that are due, their marks, and the point behind its entry.
use Rattle.std.proofs.Common.{◌≡◌, ◌≤◌, ◌+◌, ℕ, Bool, true, false, not, ◌&&◌, cond, max, nat_lt, List, [], ◌∷◌, ◌++◌, map, filter, length, Contains, Option, Some, None, refl, sym, ap, ap₂, subst, ◌∙◌, arith, length-append}
use Rattle.std.specs.Option.{ForSome, option_map}
use Rattle.std.specs.Vec.{vec_capacity}
use Rattle.std.proofs.lemmas.Bool.{both_ways, false_from_ne_true}
use Rattle.std.proofs.lemmas.List.{length-map}
use Rattle.std.proofs.Math.Nat.{le-max_left, max-eq_left, max_comm}
use Rattle.std.specs.declared.alloc.Global.{Global}
use Rattle.std.specs.declared.vec.Vec.{Vec}
use Rattle.hall_lock.specs.declared.By.{By}
use Rattle.mat_path.proofs.Elements.{filtered_contains}
use Rattle.mat_model.specs.declared.answers.FaultNote.{FaultNote}
use Rattle.mat_model.specs.declared.answers.Limit.{Limit}
use Rattle.mat_model.specs.declared.answers.Limit.TheVariants as limit
use Rattle.mat_model.specs.declared.answers.Reply.{Reply}
use Rattle.mat_model.specs.declared.answers.Reply.TheVariants as reply
use Rattle.mat_model.specs.declared.book.Book.{Book}
use Rattle.mat_model.specs.declared.book.Row.{Row}
use Rattle.mat_model.specs.declared.entries.Entry.{Entry}
use Rattle.mat_model.specs.declared.requests.Asked.TheVariants as asked
use Rattle.mat_model.specs.Gate.{Served}
use Rattle.mat_model.specs.History.{Point, after, next_number, is_store_fault, request_context, stepped}
use Rattle.mat_model.specs.Legal.{note_of}
use Rattle.mat_model.specs.Requests.{at_moment, serve}
use Rattle.mat_model.specs.Room.{full_asked, is_alone}
use Rattle.model_laws.specs.PointRules.{IsPoint}
use Rattle.model_laws.specs.RoomRules.{IsRoomy}
use Rattle.model_laws.specs.RowRules.{served_at}
use Rattle.model_laws.proofs.RoomLists.{alone_stored}
use Rattle.mat_model.specs.declared.entries.Task.{Task}
use Rattle.mat_model.specs.declared.entries.Task.TheVariants as task
use Rattle.mat_model.specs.Kept.{KeptRow, due, is_due, kept_asked, kept_row, may_fail, store_rows}
use Rattle.mat_model.specs.Rows.{are_apart}
use Rattle.mat_model.specs.WorkState.{Job, Lent, WorkState, is_cleaning, is_dirty, path_of_task, work_asked}
use Rattle.model_laws.specs.KeptRules.{KeptAscend}
use Rattle.model_laws.specs.StoredRules.{path_of_job}
use Rattle.model_laws.specs.WorkRules.{IsWork}
use Rattle.keep_port.specs.declared.row.RawRow.{RawRow}
use Rattle.keep_port.specs.declared.row.Touch.{Touch}
use Rattle.kept_book.specs.Marks.{Marks, is_reserved, mark_of}
use Rattle.keep_port.specs.Rows.{put_all, touch_all}
use Rattle.core_laws.specs.Stored.{IsReadable, IsStore, has_bytes, leaves_kept, raw_of, touch_of, wants_bytes}
use Rattle.core_laws.proofs.StoreMoves.{entry_leaves, flush_store}
use Rattle.core_laws.proofs.StoreSteps.{bytes_split, told_change}
use Rattle.core_devices.specs.Removals.{IsStoreCall, IsStoreNote}
use Rattle.core_devices.specs.Told.{ToldStore}
use Rattle.job_book.specs.Jobs.{jobs_of}
use Rattle.row_book.specs.Stocks.{rows_of}
use Rattle.mat_core.specs.Flushing.{AreDue, HasStoredAll, HaveAllPlaces, KeepsOthers, due_by, is_idle, is_used, marks_with, places_with, places_without, put_by, touched_by}
use Rattle.mat_core.specs.declared.flushing.Due.{Due}
use Rattle.mat_core.specs.declared.flushing.Storing.{Storing}
use Rattle.mat_core.specs.declared.flushing.Storing.TheVariants as storing
use Rattle.mat_core.specs.declared.parts.Parts.{Parts}
use Rattle.mat_core.specs.Begins.{IsKeptStill, IsStill}
use Rattle.mat_core.specs.Calls.{CallsAsDue, MayWant}
use Rattle.mat_core.specs.Books.{AreWork, StandFor, book_in}
use Rattle.mat_core.specs.Keeping.{AsksSo, WasAsked, asked_entry, moment_at}
use Rattle.mat_core.specs.Replacing.{AreRuled}
use Rattle.mat_core.specs.Rooms.{HasReserves, IsReservedFor, spent_in}
use Rattle.mat_core.proofs.BeginLemmas.{same_book}
use Rattle.mat_core.proofs.ServeLemmas.{entries_alone, no_table, own_stamps, spent_same, work_stays}
use Rattle.mat_core.proofs.UndoLemmas.{ready_same}
use Rattle.mat_core.proofs.DueLemmas.{busy_is, due_held, due_same, job_unused, marks_stored, others_left, put_same, touched_same}
use Rattle.mat_core.proofs.StoreCalls.{wanted_call}

-- ---- parts that a flush leaves

-- parts that are as they were but for their moment, their history, their marks and places, and the state store
pub record IsBesideFlush {D K : Type 0} (old new : Parts D K) : Type 0 where
  pub base : new.base ≡ old.base
  pub first : new.first ≡ old.first
  pub gate : new.gate ≡ old.gate
  pub rows : new.rows ≡ old.rows
  pub holds : new.holds ≡ old.holds
  pub tickets : new.tickets ≡ old.tickets
  pub debris : new.debris ≡ old.debris
  pub jobs : new.jobs ≡ old.jobs
  pub nodes : new.nodes ≡ old.nodes
  pub paths : new.paths ≡ old.paths
  pub lost : new.lost ≡ old.lost
  pub disk : new.disk ≡ old.disk

-- a place that is reserved for the make of a job stays so
abbrev pub KeepsPlaces : {D K : Type 0} → Parts D K → Parts D K → Type 0
KeepsPlaces old new = (job : Job) → Contains (jobs_of old.jobs) job → IsReservedFor old.kept.reserved job.task → IsReservedFor new.kept.reserved job.task

-- rows that stay where memory was wanting, or the state store failed
same_rows : (o : Option (List RawRow)) → option_map (λ (rows : List RawRow). rows) o ≡ o
same_rows None = refl
same_rows (Some rows) = refl

-- a flush is entered with a reply
pub record IsFlushEntered {D K : Type 0} (by : By) (now : ℕ) (said : Reply) (old new : Parts D K) : Type 0 where
  pub beside : IsBesideFlush old new
  pub moment : new.moment ≡ max old.moment now
  pub history : new.history.items ≡ old.history.items ++ asked_entry by (max old.moment now) asked.Flush said ∷ []
  pub room : spent_in old + 2 ≤ vec_capacity new.history
  pub places : KeepsPlaces old new

-- a flush isn't entered
pub record IsFlushLeft {D K : Type 0} (old new : Parts D K) : Type 0 where
  pub beside : IsBesideFlush old new
  pub moment : new.moment ≡ old.moment
  pub history : new.history.items ≡ old.history.items
  pub room : vec_capacity old.history ≤ vec_capacity new.history
  pub kept : new.kept.marks ≡ old.kept.marks
  pub places : KeepsPlaces old new

-- the place of a job's make is at no path of a row that is due, so it stays as their places come and go
task_stays : (begun : Task) (uses : List Touch) (reserved between left : List (List (List ℕ))) → is_used uses (path_of_task begun) ≡ false →
    KeepsOthers uses reserved between → left ≡ places_without uses between → IsReservedFor reserved begun → IsReservedFor left begun
task_stays (task.Make path stamp) uses reserved between left off keeps is had =
    subst (λ r. is_reserved r path ≡ true) (sym is) (others_left uses path between off (keeps path off had))
task_stays (task.Wipe path) uses reserved between left off keeps is had = tt

pub flush_keeps : {D K : Type 0} (number : ℕ) (old new : Parts D K) (due_now : Due) (uses : List Touch) (between : List (List (List ℕ))) → AreRuled number old →
    AreDue old.base.identity old.kept.marks (rows_of old.rows) due_now → uses ≡ due_now.uses.items → KeepsOthers uses old.kept.reserved between →
    new.kept.reserved ≡ places_without due_now.uses.items between → KeepsPlaces old new
flush_keeps number old new due_now uses between ruled are told keeps is job among had =
    task_stays job.task due_now.uses.items old.kept.reserved between new.kept.reserved
    (ap (λ us. is_used us (path_of_job job)) are.uses
    ∙ job_unused (next_number ruled.point) old.kept.marks (rows_of old.rows) ruled.point.work job
    (subst (λ rs. IsWork (next_number ruled.point) rs ruled.point.work) (sym (ap (λ (b : Book). b.rows) ruled.stands.book)) ruled.rules.work)
    (subst (λ js. Contains js job) ruled.stands.work.jobs among))
    (subst (λ us. KeepsOthers us old.kept.reserved between) told keeps) is had

-- there is a place for each row that is due
pub flush_held : {D K : Type 0} (number : ℕ) (old : Parts D K) (due_now : Due) (uses : List Touch) (between : List (List (List ℕ))) → AreRuled number old →
    AreDue old.base.identity old.kept.marks (rows_of old.rows) due_now → uses ≡ due_now.uses.items → between ≡ places_with uses old.kept.reserved →
    HaveAllPlaces due_now.uses.items between
flush_held number old due_now uses between ruled are told is =
    due_held old.base.identity old.kept.marks (rows_of old.rows) due_now old.kept.reserved between
    (subst (λ rs. are_apart rs ≡ true) (sym (ap (λ (b : Book). b.rows) ruled.stands.book)) ruled.rules.book.apart) are
    (is ∙ ap (λ us. places_with us old.kept.reserved) told)

-- what the state store tells
pub stored_as : (puts ps : List RawRow) (touches ts : List Touch) (said : Storing) (store now_store : ToldStore) → ps ≡ puts → ts ≡ touches →
    HasStoredAll ps ts said store now_store → HasStoredAll puts touches said store now_store
stored_as puts ps touches ts said store now_store same alike stored =
    subst (λ us. HasStoredAll us touches said store now_store) same (subst (λ us. HasStoredAll ps us said store now_store) alike stored)

pub stored_none : (puts : List RawRow) (touches : List Touch) (store now_store : ToldStore) → HasStoredAll puts touches storing.NoMemory store now_store →
    IsKeptStill store now_store
stored_none puts touches store now_store stored = record { rows = stored.rows ∙ same_rows store.rows; faults = stored.faults }

pub stored_wanting : (puts : List RawRow) (touches : List Touch) (store now_store : ToldStore) → HasStoredAll puts touches storing.NoMemory store now_store →
    MayWant store now_store
stored_wanting puts touches store now_store stored = wanted_call (not (is_idle puts touches)) store now_store stored.called

-- room for an entry, beside all that are spent
pub flush_room : {D K : Type 0} (old : Parts D K) (history : Vec Entry Global) (owed : ℕ) → owed + length old.history.items ≡ spent_in old →
    history.items ≡ old.history.items → length history.items + (owed + 2) ≤ vec_capacity history → spent_in old + 2 ≤ vec_capacity history
flush_room old history owed counts items room =
    let same : length history.items ≡ length old.history.items = ap length items in omega (arith, counts, same, room)

pub flush_fits : {D K : Type 0} (old : Parts D K) (history : Vec Entry Global) (lacks : Bool) → history.items ≡ old.history.items →
    nat_lt old.base.limits.history (spent_in (record old { history = history }) + 1) ≡ lacks → nat_lt old.base.limits.history (spent_in old + 1) ≡ lacks
flush_fits old history lacks items is =
    ap (λ es. nat_lt old.base.limits.history (length es + length old.jobs + length old.gate.live + length old.gate.waiting + 1)) (sym items) ∙ is

-- the debris and the work state
work_still : {D K : Type 0} (old new : Parts D K) (work : WorkState) → IsBesideFlush old new → AreWork old work → AreWork new work
work_still old new work same are = record {
  stocks = λ stock among. are.stocks stock (subst (λ r. Contains r stock) same.rows among);
  jobs = ap jobs_of same.jobs ∙ are.jobs;
  cleaned = λ running among. are.cleaned running (subst (λ j. Contains j running) same.jobs among);
  debris = ap (λ d. d.list) same.debris ∙ are.debris;
}

-- what is reserved, where the history has room
places_still : {D K : Type 0} (old new : Parts D K) → IsBesideFlush old new → KeepsPlaces old new → spent_in new ≤ vec_capacity new.history →
    HasReserves old → HasReserves new
places_still old new same places room had = record {
  history = room;
  debris =
      let jobs : length new.jobs ≡ length old.jobs = ap length same.jobs in
      let spare : new.debris.spare ≡ old.debris.spare = ap (λ d. d.spare) same.debris in
      let has = had.debris in omega (arith, jobs, spare, has);
  places = λ job among. let there = subst (λ js. Contains (jobs_of js) job) same.jobs among in places job there (had.places job there);
}

beside_spent : {D K : Type 0} (old new : Parts D K) → IsBesideFlush old new →
    spent_in new + length old.history.items ≡ spent_in old + length new.history.items
beside_spent old new same =
    let jobs : length new.jobs ≡ length old.jobs = ap length same.jobs in
    let live : length new.gate.live ≡ length old.gate.live = ap (λ g. length g.live) same.gate in
    let waiting : length new.gate.waiting ≡ length old.gate.waiting = ap (λ g. length g.waiting) same.gate in
    omega (arith, jobs, live, waiting)

pub still_left : {D K : Type 0} (old new : Parts D K) → IsFlushLeft old new → HasReserves old → IsStill old new
still_left old new left had = record {
  same = record { base = left.beside.base; lost = left.beside.lost };
  history = left.history;
  stands = λ point stands. record {
    book =
        same_book old new left.beside.first left.moment left.beside.gate (ap rows_of left.beside.rows) left.beside.holds
        (ap (λ t. t.all) left.beside.tickets) ∙ stands.book;
    work = work_still old new point.work left.beside stands.work;
    kept = left.kept ∙ stands.kept;
    nodes = left.beside.nodes ∙ stands.nodes;
    paths = left.beside.paths ∙ stands.paths;
    history = left.history ∙ stands.history;
  };
  reserves = places_still old new left.beside left.places
      (let all = beside_spent old new left.beside in
      let entries : length new.history.items ≡ length old.history.items = ap length left.history in
      let room = left.room in let has = had.history in omega (arith, all, entries, room, has)) had;
  ready = ready_same old new left.beside.base (ap rows_of left.beside.rows) left.beside.jobs;
}

-- ---- room

-- a flush is measured by its entry alone
pub flush_full : {D K : Type 0} (old : Parts D K) (point : Point) (moment : ℕ) → StandFor old point → IsRoomy old.base.limits point →
    full_asked old.base.limits point moment asked.Flush ≡ cond (nat_lt old.base.limits.history (spent_in old + 1)) (Some limit.History) None
flush_full old point moment stands roomy =
    entries_alone old.base.limits point asked.Flush served few
    (no_table old.base.limits point asked.Flush served refl few roomy.rows roomy.held roomy.asked roomy.holds)
    ∙ ap (λ n. cond (nat_lt old.base.limits.history (n + 1)) (Some limit.History) None) (sym (spent_same old point stands))
  where
    served : Served
    served = serve (next_number point) moment (request_context point) asked.Flush point.book

    few : point.nodes + 0 ≤ old.base.limits.nodes
    few = let most = roomy.nodes in omega (arith, most)

-- a flush that isn't entered, as it is answered
pub left_full : {D K : Type 0} (point : Point) (by : By) (now : ℕ) (old new : Parts D K) (store now_store : ToldStore) → HasReserves old → IsFlushLeft old new →
    IsKeptStill store now_store → MayWant store now_store → StandFor old point → IsRoomy old.base.limits point →
    nat_lt old.base.limits.history (spent_in old + 1) ≡ true → AsksSo point by now asked.Flush old new store now_store (reply.Full limit.History)
left_full point by now old new store now_store had left kept called stands roomy lacks = record {
  recorded = λ happened. tt;
  entered = λ is. absurd (both_ways false refl is);
  unchanged = λ is. record { still = still_left old new left had; disk = left.beside.disk; kept = kept; called = called };
  full = λ not_want.
      sym (flush_full old point (moment_at point now) stands roomy ∙ ap (λ b. cond {A = Option Limit} b (Some limit.History) None) lacks);
}

pub left_want : {D K : Type 0} (point : Point) (by : By) (now : ℕ) (old new : Parts D K) (store now_store : ToldStore) → HasReserves old → IsFlushLeft old new →
    IsKeptStill store now_store → MayWant store now_store → AsksSo point by now asked.Flush old new store now_store reply.NoMemory
left_want point by now old new store now_store had left kept called = record {
  recorded = λ happened. tt;
  entered = λ is. absurd (both_ways false refl is);
  unchanged = λ is. record { still = still_left old new left had; disk = left.beside.disk; kept = kept; called = called };
  full = λ not_want. absurd (both_ways true not_want refl);
}

-- ---- a flush that is entered

never : (b : Bool) → (b && false) ≡ false
never true = refl
never false = refl

raised_twice : (before now : ℕ) → max before (max before now) ≡ max before now
raised_twice before now = max_comm before (max before now) ∙ max-eq_left (le-max_left before now)

pub entered_by : {D K : Type 0} (by : By) (now : ℕ) (said : Reply) (old new : Parts D K) (history : Vec Entry Global) (kept : Marks) (keeper : K) →
    new ≡ record old { moment = new.moment; history = new.history; kept = kept; keeper = keeper } → new.moment ≡ max old.moment now →
    new.history.items ≡ history.items ++ asked_entry by (max old.moment now) asked.Flush said ∷ [] → vec_capacity new.history ≡ vec_capacity history →
    history.items ≡ old.history.items → spent_in old + 2 ≤ vec_capacity history → KeepsPlaces old new → IsFlushEntered by now said old new
entered_by {D} {K} by now said old new history kept keeper only moment items capacity same room places = record {
  beside = record {
    base = ap (λ (p : Parts D K). p.base) only;
    first = ap (λ (p : Parts D K). p.first) only;
    gate = ap (λ (p : Parts D K). p.gate) only;
    rows = ap (λ (p : Parts D K). p.rows) only;
    holds = ap (λ (p : Parts D K). p.holds) only;
    tickets = ap (λ (p : Parts D K). p.tickets) only;
    debris = ap (λ (p : Parts D K). p.debris) only;
    jobs = ap (λ (p : Parts D K). p.jobs) only;
    nodes = ap (λ (p : Parts D K). p.nodes) only;
    paths = ap (λ (p : Parts D K). p.paths) only;
    lost = ap (λ (p : Parts D K). p.lost) only;
    disk = ap (λ (p : Parts D K). p.disk) only;
  };
  moment = moment;
  history = items ∙ ap (λ es. es ++ asked_entry by (max old.moment now) asked.Flush said ∷ []) same;
  room = omega (arith, room, capacity);
  places = places;
}

-- its entry, and what is served
abbrev entry_of : Point → By → ℕ → Reply → Entry
entry_of point by now said = asked_entry by (moment_at point now) asked.Flush said

abbrev served_so : Point → ℕ → Reply → Served
served_so point now said = record { reply = said; book = at_moment (moment_at point now) point.book }

module _ {D K : Type 0} (point : Point) (by : By) (now : ℕ) (said : Reply) (old new : Parts D K) (stands : StandFor old point) (had : HasReserves old)
    (entered : IsFlushEntered by now said old new) where
  moment_is : max old.moment now ≡ moment_at point now
  moment_is = ap (λ (b : Book). max b.now now) stands.book

  history_is : new.history.items ≡ old.history.items ++ (entry_of point by now said) ∷ []
  history_is = entered.history ∙ ap (λ n. old.history.items ++ asked_entry by n asked.Flush said ∷ []) moment_is

  book_is : book_in new ≡ at_moment (moment_at point now) point.book
  book_is =
      same_book (record old { moment = max old.moment now }) new entered.beside.first entered.moment entered.beside.gate (ap rows_of entered.beside.rows)
      entered.beside.holds (ap (λ t. t.all) entered.beside.tickets)
      ∙ ap (λ (b : Book). record b { now = max b.now now }) stands.book
      ∙ ap (λ n. record point.book { now = n }) (sym (raised_twice point.book.now now))

  -- the parts stand for the point behind the entry, where the marks are those of what is stored then
  entry_stands : served_at point (entry_of point by now said) ≡ served_so point now said → work_asked asked.Flush said point.book.rows point.book.rows point.work ≡ point.work →
      new.kept.marks ≡ map mark_of (kept_asked asked.Flush said point.book.rows point.kept) →
      filter (is_alone point.book.rows) (kept_asked asked.Flush said point.book.rows point.kept) ≡ filter (is_alone point.book.rows) point.kept →
      StandFor new (after point (entry_of point by now said))
  entry_stands served work marks alone =
      subst (λ (s : Served). StandFor new (stepped point (entry_of point by now said) s)) (sym served) (record {
        book = book_is;
        work = subst (AreWork new) (sym work) (work_still old new point.work entered.beside stands.work);
        kept = marks;
        nodes = let nodes = entered.beside.nodes ∙ stands.nodes in omega (arith, nodes);
        paths = entered.beside.paths ∙ stands.paths ∙ ap (λ (ks : List KeptRow). length point.book.rows + length ks) (sym alone);
        history = history_is ∙ ap (λ h. h ++ (entry_of point by now said) ∷ []) stands.history;
      })

  entry_reserves : HasReserves new
  entry_reserves =
      places_still old new entered.beside entered.places
      (let all = beside_spent old new entered.beside in
      let entries : length new.history.items ≡ length old.history.items + 1 = ap length entered.history ∙ length-append old.history.items _ in
      let room = entered.room in omega (arith, all, entries, room)) had

  entry_asked : (store now_store : ToldStore) → served_at point (entry_of point by now said) ≡ served_so point now said →
      work_asked asked.Flush said point.book.rows point.book.rows point.work ≡ point.work →
      new.kept.marks ≡ map mark_of (kept_asked asked.Flush said point.book.rows point.kept) →
      filter (is_alone point.book.rows) (kept_asked asked.Flush said point.book.rows point.kept) ≡ filter (is_alone point.book.rows) point.kept →
      (ForSome store.rows (IsStore old.base.identity point.kept) → ForSome now_store.rows (IsStore old.base.identity (after point (entry_of point by now said)).kept)) →
      (leaves_kept said ≡ true → now_store.rows ≡ store.rows) → store.faults ≤ now_store.faults →
      IsStoreNote store.faults now_store.faults (note_of said) → CallsAsDue point asked.Flush said store now_store →
      WasAsked point by now asked.Flush said old new store now_store
  entry_asked store now_store served work marks alone rows still faults note called = record {
    same = record { base = entered.beside.base; lost = entered.beside.lost };
    disk = entered.beside.disk;
    replied = sym (ap (λ (s : Served). s.reply) served);
    moment = entered.moment ∙ moment_is;
    history = history_is;
    stands = entry_stands served work marks alone;
    reserves = entry_reserves;
    ready = ready_same old new entered.beside.base (ap rows_of entered.beside.rows) entered.beside.jobs;
    rows = rows;
    still = still;
    faults = faults;
    note = note;
    called = called;
  }

module _ {D K : Type 0} (point : Point) (by : By) (now : ℕ) (old new : Parts D K) (store now_store : ToldStore) (due_now : Due)
    (stands : StandFor old point) (rules : IsPoint point) (roomy : IsRoomy old.base.limits point) (had : HasReserves old)
    (room : nat_lt old.base.limits.history (spent_in old + 1) ≡ false)
    (are : AreDue old.base.identity old.kept.marks (rows_of old.rows) due_now) where
  rows_are : rows_of old.rows ≡ point.book.rows
  rows_are = ap (λ (b : Book). b.rows) stands.book

  abbrev asc : KeptAscend point.kept
  asc = rules.kept.order

  due_is : due_by old.kept.marks (rows_of old.rows) ≡ filter (is_due point.kept) point.book.rows
  due_is = ap₂ due_by stands.kept rows_are ∙ due_same point.kept point.book.rows asc

  -- something is stored exactly where some row is due
  may_is : not (is_idle due_now.puts.items due_now.touches.items) ≡ may_fail asked.Flush point.book point.kept
  may_is = busy_is old.base.identity old.kept.marks (rows_of old.rows) due_now are ∙ ap (λ (rs : List Row). nat_lt 0 (length rs)) due_is

  no_full : None ≡ full_asked old.base.limits point (moment_at point now) asked.Flush
  no_full = sym (flush_full old point (moment_at point now) stands roomy ∙ ap (λ b. cond {A = Option Limit} b (Some limit.History) None) room)

  still_work : (said : Reply) → is_cleaning said ≡ false → Rattle.mat_model.specs.WorkState.ways_after asked.Flush said point.book.rows point.work.ways ≡ point.work.ways →
      work_asked asked.Flush said point.book.rows point.book.rows point.work ≡ point.work
  still_work said cleaning ways = work_stays asked.Flush said point.book.rows point.book.rows point.work (own_stamps point.book.rows) cleaning ways

  -- the rows are stored
  module _ (count : ℕ) (counts : count ≡ length due_now.uses.items) (entered : IsFlushEntered by now (reply.Flushed count) old new)
      (marks : new.kept.marks ≡ marks_with due_now.uses.items old.kept.marks)
      (stored : HasStoredAll due_now.puts.items due_now.touches.items storing.Done store now_store) where
    count_is : count ≡ due point.book point.kept
    count_is =
        counts ∙ ap length are.uses ∙ length-map (due_by old.kept.marks (rows_of old.rows)) touch_of ∙ ap length due_is

    flushed_served : served_at point (entry_of point by now (reply.Flushed count)) ≡ served_so point now (reply.Flushed count)
    flushed_served =
        ap (λ b. cond {A = Served} b (served_so point now (reply.Flushed count))
        (serve (next_number point) (moment_at point now) (request_context point) asked.Flush point.book)) (never (may_fail asked.Flush point.book point.kept))
        ∙ ap (λ n. served_so point now (reply.Flushed n)) (sym count_is)

    flushed_marks : new.kept.marks ≡ map mark_of (store_rows (filter (is_due point.kept) point.book.rows) point.kept)
    flushed_marks =
        marks ∙ ap₂ marks_with (are.uses ∙ ap (map touch_of) due_is) stands.kept
        ∙ marks_stored (filter (is_due point.kept) point.book.rows) point.kept asc

    puts_are : due_now.puts.items ≡ map (raw_of old.base.identity) (filter (wants_bytes point.kept) (filter (is_due point.kept) point.book.rows))
    puts_are = are.puts ∙ ap (map (raw_of old.base.identity)) (ap₂ put_by stands.kept rows_are ∙ put_same point.kept point.book.rows asc)

    touches_are : due_now.touches.items ≡ map touch_of (filter (has_bytes point.kept) (filter (is_due point.kept) point.book.rows))
    touches_are = are.touches ∙ ap (map touch_of) (ap₂ touched_by stands.kept rows_are ∙ touched_same point.kept point.book.rows asc)

    readable_are : (row : Row) → Contains (filter (wants_bytes point.kept) (filter (is_due point.kept) point.book.rows)) row → IsReadable (kept_row row)
    readable_are row among =
        are.readable row (subst (λ rs. Contains rs row) (sym (ap₂ put_by stands.kept rows_are ∙ put_same point.kept point.book.rows asc)) among)

    flushed_rows : ForSome store.rows (IsStore old.base.identity point.kept) →
        ForSome now_store.rows (IsStore old.base.identity (after point (entry_of point by now (reply.Flushed count))).kept)
    flushed_rows has =
        subst (λ o. ForSome o (IsStore old.base.identity (after point (entry_of point by now (reply.Flushed count))).kept)) (sym stored.rows)
        (told_change old.base.identity point.kept (after point (entry_of point by now (reply.Flushed count))).kept
        (λ rows. touch_all (put_all rows due_now.puts.items) due_now.touches.items) store.rows
        (λ rows one.
        subst (λ ps. IsStore old.base.identity (after point (entry_of point by now (reply.Flushed count))).kept (touch_all (put_all rows ps) due_now.touches.items))
        (sym puts_are)
        (subst (λ ts. IsStore old.base.identity (after point (entry_of point by now (reply.Flushed count))).kept
        (touch_all (put_all rows (map (raw_of old.base.identity) (filter (wants_bytes point.kept) (filter (is_due point.kept) point.book.rows)))) ts))
        (sym touches_are)
        (flush_store old.base.identity point (entry_of point by now (reply.Flushed count)) count
        (filter (wants_bytes point.kept) (filter (is_due point.kept) point.book.rows)) (filter (has_bytes point.kept) (filter (is_due point.kept) point.book.rows)) rows
        rules.work.apart rules.kept refl (ap (λ (s : Served). s.reply) flushed_served)
        (bytes_split point.kept (filter (is_due point.kept) point.book.rows)) readable_are one))) has)

    pub flushed_so : AsksSo point by now asked.Flush old new store now_store (reply.Flushed count)
    flushed_so = record {
      recorded = λ happened. tt;
      entered = λ is.
          entry_asked point by now (reply.Flushed count) old new stands had entered store now_store flushed_served (still_work (reply.Flushed count) refl refl)
          flushed_marks
          (alone_stored point.book.rows (filter (is_due point.kept) point.book.rows) point.kept
          (λ row among. (filtered_contains (is_due point.kept) point.book.rows row among).0))
          flushed_rows (λ leaves. absurd (both_ways false refl leaves)) stored.faults tt
          (subst (λ b. IsStoreCall b false false store now_store) may_is stored.called);
      unchanged = λ is. absurd (both_ways true is refl);
      full = λ not_want. no_full;
    }

  -- the state store failed
  module _ (note : FaultNote) (entered : IsFlushEntered by now (reply.Fault note) old new) (marks : new.kept.marks ≡ old.kept.marks)
      (stored : HasStoredAll due_now.puts.items due_now.touches.items (storing.Failed note) store now_store)
      (none : is_idle due_now.puts.items due_now.touches.items ≡ true → storing.Failed note ≡ storing.Done) where
    busy : is_idle due_now.puts.items due_now.touches.items ≡ false
    busy = false_from_ne_true (is_idle due_now.puts.items due_now.touches.items) (λ is. let wrong = none is in absurd cc)

    may : may_fail asked.Flush point.book point.kept ≡ true
    may = sym may_is ∙ ap not busy

    is_fault : is_store_fault (reply.Fault note) ≡ true
    is_fault = ap (λ (n : FaultNote). Rattle.mat_model.specs.History.is_keeper n.device) stored.note.0

    failed_served : served_at point (entry_of point by now (reply.Fault note)) ≡ served_so point now (reply.Fault note)
    failed_served =
        ap₂ (λ a b. cond {A = Served} (a && b) (served_so point now (reply.Fault note))
        (serve (next_number point) (moment_at point now) (request_context point) asked.Flush point.book)) may is_fault

    rows_stay : now_store.rows ≡ store.rows
    rows_stay = stored.rows ∙ same_rows store.rows

    pub failed_so : AsksSo point by now asked.Flush old new store now_store (reply.Fault note)
    failed_so = record {
      recorded = λ happened. tt;
      entered = λ is.
          entry_asked point by now (reply.Fault note) old new stands had entered store now_store failed_served (still_work (reply.Fault note) refl refl)
          (marks ∙ stands.kept) refl
          (λ has.
          subst (λ ks. ForSome now_store.rows (IsStore old.base.identity ks))
          (sym (entry_leaves point (entry_of point by now (reply.Fault note)) (ap (λ (s : Served). leaves_kept s.reply) failed_served)))
          (subst (λ o. ForSome o (IsStore old.base.identity point.kept)) (sym rows_stay) has))
          (λ leaves. rows_stay) stored.faults stored.note (subst (λ b. IsStoreCall b true false store now_store) may_is stored.called);
      unchanged = λ is. absurd (both_ways true is refl);
      full = λ not_want. no_full;
    }
