-- A request that was served is entered: its point goes on, and the entry is legal.
use Rattle.std.proofs.Common.{◌≡◌, ◌≤◌, ℕ, ◌+◌, nat_lt, Bool, true, false, ◌&&◌, ◌||◌, ◌==◌, max, [], ◌∷◌, ◌++◌, None, cond, refl, sym, ap, subst, ◌∙◌, map, length, Contains, arith}
use Rattle.std.specs.Vec.{vec_capacity}
use Rattle.std.specs.declared.alloc.Global.{Global}
use Rattle.std.specs.declared.vec.Vec.{Vec}
use Rattle.std.proofs.Math.Nat.{le-max_left, max-eq_left, max-eq_right, max_comm}
use Rattle.std.proofs.Math.Bool.{or-true}
use Rattle.std.proofs.lemmas.Bool.{both_ways, eq-eqb, ltb-false, ltb-true}
use Rattle.hall_lock.specs.declared.By.{By}
use Rattle.mat_model.specs.declared.answers.Reply.{Reply}
use Rattle.mat_model.specs.declared.answers.Reply.TheVariants as reply
use Rattle.mat_model.specs.declared.book.Book.{Book}
use Rattle.mat_model.specs.declared.entries.Entry.{Entry}
use Rattle.mat_model.specs.declared.entries.Event.{Event}
use Rattle.mat_model.specs.declared.entries.Event.TheVariants as event
use Rattle.mat_model.specs.declared.limits.Limits.{Limits}
use Rattle.mat_model.specs.declared.requests.Asked.{Asked}
use Rattle.mat_model.specs.declared.requests.Asked.TheVariants as asked
use Rattle.mat_model.specs.Books.{IsBook}
use Rattle.mat_model.specs.Gate.{Served}
use Rattle.mat_model.specs.History.{Point, after, is_store_fault, next_number, nodes_of, request_context}
use Rattle.mat_model.specs.Kept.{may_fail}
use Rattle.mat_model.specs.Legal.{IsLegalEntry, IsNoteFrom, IsNumbered, IsRecordedAs, MayAsk, count_behind, end_of_time, may_be_now, note_of}
use Rattle.mat_model.specs.Requests.{at_moment, serve, serve_now}
use Rattle.mat_model.specs.Room.{full_asked, full_served, row_paths}
use Rattle.mat_model.specs.WorkState.{WorkState, work_asked}
use Rattle.model_laws.specs.PointRules.{IsPoint}
use Rattle.model_laws.specs.RoomRules.{IsRoomy}
use Rattle.model_laws.specs.RowRules.{served_at}
use Rattle.model_laws.specs.WorkRules.{IsWork}
use Rattle.core_laws.specs.Stored.{leaves_kept}
use Rattle.core_laws.proofs.StoreMoves.{entry_leaves}
use Rattle.job_book.specs.Jobs.{jobs_of}
use Rattle.kept_book.specs.Marks.{mark_of}
use Rattle.mat_core.specs.Books.{AreWork, StandFor, book_in}
use Rattle.mat_core.specs.Cores.{AreLimits}
use Rattle.mat_core.specs.Replacing.{AreRuled}
use Rattle.mat_core.specs.Served.{IsUnchanged, Serves, StandsStill, full_of, is_entered, is_quiet, is_want}
use Rattle.mat_core.specs.declared.parts.Parts.{Parts}

-- ---- replies

-- what holds of a reply that leaves the state store as it is
pub record IsQuietReply (said : Reply) : Type 0 where
  pub fault : is_store_fault said ≡ false
  pub kept : leaves_kept said ≡ true
  pub note : note_of said ≡ None
  pub recorded : (happened : Event) → IsRecordedAs happened said

no : {X : Type 0} → false ≡ true → X
no is = absurd (both_ways false refl is)

pub quiet_facts : (said : Reply) → is_quiet said ≡ true → IsQuietReply said
quiet_facts reply.Entered is = record { fault = refl; kept = refl; note = refl; recorded = λ happened. tt }
quiet_facts (reply.Took n) is = record { fault = refl; kept = refl; note = refl; recorded = λ happened. tt }
quiet_facts (reply.Left n) is = record { fault = refl; kept = refl; note = refl; recorded = λ happened. tt }
quiet_facts (reply.Declared n) is = record { fault = refl; kept = refl; note = refl; recorded = λ happened. tt }
quiet_facts (reply.Kept n) is = record { fault = refl; kept = refl; note = refl; recorded = λ happened. tt }
quiet_facts (reply.Same n) is = record { fault = refl; kept = refl; note = refl; recorded = λ happened. tt }
quiet_facts reply.Other is = record { fault = refl; kept = refl; note = refl; recorded = λ happened. tt }
quiet_facts reply.Nothing is = record { fault = refl; kept = refl; note = refl; recorded = λ happened. tt }
quiet_facts (reply.Stands n) is = record { fault = refl; kept = refl; note = refl; recorded = λ happened. tt }
quiet_facts (reply.NotMade n) is = record { fault = refl; kept = refl; note = refl; recorded = λ happened. tt }
quiet_facts (reply.Ready n sum) is = record { fault = refl; kept = refl; note = refl; recorded = λ happened. tt }
quiet_facts (reply.Asked n) is = record { fault = refl; kept = refl; note = refl; recorded = λ happened. tt }
quiet_facts (reply.Invalid n) is = no is
quiet_facts (reply.Cleaned dry rows strays) is = no is
quiet_facts (reply.Flushed n) is = no is
quiet_facts reply.NotLive is = record { fault = refl; kept = refl; note = refl; recorded = λ happened. tt }
quiet_facts reply.Known is = record { fault = refl; kept = refl; note = refl; recorded = λ happened. tt }
quiet_facts (reply.Differs n) is = record { fault = refl; kept = refl; note = refl; recorded = λ happened. tt }
quiet_facts (reply.Queued n) is = record { fault = refl; kept = refl; note = refl; recorded = λ happened. tt }
quiet_facts reply.Unknown is = record { fault = refl; kept = refl; note = refl; recorded = λ happened. tt }
quiet_facts (reply.Busy n) is = record { fault = refl; kept = refl; note = refl; recorded = λ happened. tt }
quiet_facts reply.NoSource is = record { fault = refl; kept = refl; note = refl; recorded = λ happened. tt }
quiet_facts reply.TooLong is = record { fault = refl; kept = refl; note = refl; recorded = λ happened. tt }
quiet_facts reply.Undeclared is = record { fault = refl; kept = refl; note = refl; recorded = λ happened. tt }
quiet_facts (reply.Fault note) is = no is
quiet_facts (reply.Full which) is = record { fault = refl; kept = refl; note = refl; recorded = λ happened. tt }
quiet_facts reply.NoMemory is = record { fault = refl; kept = refl; note = refl; recorded = λ happened. tt }
quiet_facts reply.Started is = no is
quiet_facts (reply.Refused note) is = no is
quiet_facts (reply.Fresh how) is = no is
quiet_facts reply.Stale is = record { fault = refl; kept = refl; note = refl; recorded = λ happened. tt }

-- an entered reply is no want of memory, and tells no limit
pub entered_facts : (said : Reply) → is_entered said ≡ true → (is_want said ≡ false) × (full_of said ≡ None)
entered_facts reply.Entered is = (refl, refl)
entered_facts (reply.Took n) is = (refl, refl)
entered_facts (reply.Left n) is = (refl, refl)
entered_facts (reply.Declared n) is = (refl, refl)
entered_facts (reply.Kept n) is = (refl, refl)
entered_facts (reply.Same n) is = (refl, refl)
entered_facts reply.Other is = (refl, refl)
entered_facts reply.Nothing is = (refl, refl)
entered_facts (reply.Stands n) is = (refl, refl)
entered_facts (reply.NotMade n) is = (refl, refl)
entered_facts (reply.Ready n sum) is = (refl, refl)
entered_facts (reply.Asked n) is = (refl, refl)
entered_facts (reply.Invalid n) is = (refl, refl)
entered_facts (reply.Cleaned dry rows strays) is = (refl, refl)
entered_facts (reply.Flushed n) is = (refl, refl)
entered_facts reply.NotLive is = (refl, refl)
entered_facts reply.Known is = (refl, refl)
entered_facts (reply.Differs n) is = (refl, refl)
entered_facts (reply.Queued n) is = (refl, refl)
entered_facts reply.Unknown is = (refl, refl)
entered_facts (reply.Busy n) is = (refl, refl)
entered_facts reply.NoSource is = (refl, refl)
entered_facts reply.TooLong is = (refl, refl)
entered_facts reply.Undeclared is = (refl, refl)
entered_facts (reply.Fault note) is = (refl, refl)
entered_facts (reply.Full which) is = no is
entered_facts reply.NoMemory is = no is
entered_facts reply.Started is = (refl, refl)
entered_facts (reply.Refused note) is = (refl, refl)
entered_facts (reply.Fresh how) is = (refl, refl)
entered_facts reply.Stale is = (refl, refl)

-- ---- moments

-- how many nodes a request declares, and which limit it would pass, doesn't depend on the book's moment
pub nodes_moment : (request : Asked) (said : Reply) (moment : ℕ) (book : Book) →
    nodes_of request said (at_moment moment book) ≡ nodes_of request said book
nodes_moment (asked.Enter command state soft refuse) said moment book = refl
nodes_moment (asked.Leave command) said moment book = refl
nodes_moment (asked.Write command path sum) said moment book = refl
nodes_moment (asked.Declare command path tree) said moment book = refl
nodes_moment (asked.Copy command path source) said moment book = refl
nodes_moment (asked.Matches command path sum) said moment book = refl
nodes_moment (asked.Has command path) said moment book = refl
nodes_moment (asked.Ensure command path) said moment book = refl
nodes_moment (asked.Invalidate command path) said moment book = refl
nodes_moment (asked.Clean cutoff mode) said moment book = refl
nodes_moment asked.Flush said moment book = refl

pub limit_moment : (limits : Limits) (point : Point) (request : Asked) (served : Served) (moment : ℕ) →
    full_served limits (record point { book = at_moment moment point.book }) request served ≡ full_served limits point request served
limit_moment limits point (asked.Enter command state soft refuse) served moment = refl
limit_moment limits point (asked.Leave command) served moment = refl
limit_moment limits point (asked.Write command path sum) served moment = refl
limit_moment limits point (asked.Declare command path tree) served moment = refl
limit_moment limits point (asked.Copy command path source) served moment = refl
limit_moment limits point (asked.Matches command path sum) served moment = refl
limit_moment limits point (asked.Has command path) served moment = refl
limit_moment limits point (asked.Ensure command path) served moment = refl
limit_moment limits point (asked.Invalidate command path) served moment = refl
limit_moment limits point (asked.Clean cutoff mode) served moment = refl
limit_moment limits point asked.Flush served moment = refl

-- a moment that is raised twice is raised once
pub raised_twice : (before now : ℕ) → max before (max before now) ≡ max before now
raised_twice before now = max_comm before (max before now) ∙ max-eq_left (le-max_left before now)

-- a moment that is raised by one that may come may come
pub time_raised : (before now : ℕ) → nat_lt now end_of_time ≡ true → may_be_now before (max before now) ≡ true
time_raised before now within =
    elim (nat_lt before now) as (λ b. nat_lt before now ≡ b → may_be_now before (max before now) ≡ true) [
      | true ↦ λ is. ap (may_be_now before) (max-eq_right {n = before} {m = now} (omega (arith, ltb-true before now is)))
          ∙ ap (λ b. (now == before) || b) within ∙ or-true (now == before)
      | false ↦ λ is. ap (may_be_now before) (max-eq_left {n = before} {m = now} (ltb-false before now is))
          ∙ ap (λ b. b || nat_lt before end_of_time) (eq-eqb before before refl)
    ] refl

never : (b : Bool) → (b && false) ≡ false
never true = refl
never false = refl

-- a limit is told exactly where the request would pass it at the raised moment
pub room_asked : {D K : Type 0} (number moment : ℕ) (request : Asked) (said : Reply) (limits : Limits) (raised served : Parts D K) (point : Point) →
    StandFor raised (record point { book = at_moment moment point.book }) → number ≡ next_number point → raised.base.limits ≡ limits →
    Serves number request said raised served → IsRoomy limits point → is_want said ≡ false → full_of said ≡ full_asked limits point moment request
room_asked number moment request said limits raised served point stands same base serves roomy not_want =
    serves.room not_want (record point { book = at_moment moment point.book }) (request_context point) stands
    (subst (λ l. IsRoomy l (record point { book = at_moment moment point.book })) (sym base) (record {
      history = roomy.history;
      nodes = roomy.nodes;
      rows = roomy.rows;
      held = roomy.held;
      asked = roomy.asked;
      holds = roomy.holds;
      waiting = roomy.waiting;
    }))
    ∙ ap (λ l. full_served l (record point { book = at_moment moment point.book }) request
    (serve_now number (request_context point) request (book_in raised))) base
    ∙ limit_moment limits point request (serve_now number (request_context point) request (book_in raised)) moment
    ∙ ap (full_served limits point request)
    (ap (λ (b : Book). serve_now number (request_context point) request b) stands.book
    ∙ ap (λ n. serve_now n (request_context point) request (at_moment moment point.book)) same)

-- ---- a request that was served

-- parts with the same books of rows, work and kept rows, and the same counts
pub record AreSameBooks {D K : Type 0} (old new : Parts D K) : Type 0 where
  pub rows : new.rows ≡ old.rows
  pub debris : new.debris ≡ old.debris
  pub jobs : new.jobs ≡ old.jobs
  pub kept : new.kept ≡ old.kept
  pub nodes : new.nodes ≡ old.nodes
  pub paths : new.paths ≡ old.paths

-- parts before a request is served: their moment is raised, and there may be more room in the history
pub record IsRaised {D K : Type 0} (now : ℕ) (old raised : Parts D K) : Type 0 where
  pub book : book_in raised ≡ record (book_in old) { now = max old.moment now }
  pub same : AreSameBooks old raised
  pub base : raised.base ≡ old.base
  pub history : raised.history.items ≡ old.history.items
  pub capacity : vec_capacity old.history ≤ vec_capacity raised.history

pub raised_by : {D K : Type 0} (now moment : ℕ) (old : Parts D K) (history : Vec Entry Global) → moment ≡ max old.moment now →
    history.items ≡ old.history.items → vec_capacity old.history ≤ vec_capacity history →
    IsRaised now old (record old { history = history; moment = moment })
raised_by now moment old history is items capacity = record {
  book = ap (λ n. record (book_in old) { now = n }) is;
  same = record { rows = refl; debris = refl; jobs = refl; kept = refl; nodes = refl; paths = refl };
  base = refl;
  history = items;
  capacity = capacity;
}

-- a request was served at a raised moment, and is entered as these
pub record IsCalled {D K : Type 0} (by : By) (now : ℕ) (request : Asked) (said : Reply) (old raised served new : Parts D K) : Type 0 where
  pub rise : IsRaised now old raised
  pub serves : Serves (old.first + length old.history.items) request said raised served
  pub book : book_in new ≡ book_in served
  pub same : AreSameBooks served new
  pub history : new.history.items ≡ served.history.items ++ record { by = by; now = new.moment; event = event.Asked request; reply = said } ∷ []
  pub capacity : vec_capacity new.history ≡ vec_capacity served.history

-- parts with the same rows, debris and jobs stand for the same work state
pub work_moved : {D K : Type 0} (first second : Parts D K) (work : WorkState) → second.rows ≡ first.rows → second.debris ≡ first.debris →
    second.jobs ≡ first.jobs → AreWork first work → AreWork second work
work_moved first second work rows debris jobs are = record {
  stocks = λ stock among. are.stocks stock (subst (λ r. Contains r stock) rows among);
  jobs = ap jobs_of jobs ∙ are.jobs;
  cleaned = λ running among. are.cleaned running (subst (λ j. Contains j running) jobs among);
  debris = ap (λ d. d.list) debris ∙ are.debris;
}

module _ {D K : Type 0} (by : By) (now : ℕ) (request : Asked) (said : Reply) (old raised served new : Parts D K) (point : Point)
    (called : IsCalled by now request said old raised served new) (stands : StandFor old point) (ruled : IsPoint point)
    (entered : is_entered said ≡ true) where
  abbrev pub the_entry : Entry
  the_entry = record { by = by; now = new.moment; event = event.Asked request; reply = said }

  raised_moment : new.moment ≡ max point.book.now now
  raised_moment = ap (λ (b : Book). b.now) called.book ∙ called.serves.beside.moment ∙ ap (λ (b : Book). b.now) called.rise.book
      ∙ ap (λ (b : Book). max b.now now) stands.book

  raised_book : book_in raised ≡ at_moment new.moment point.book
  raised_book = called.rise.book
      ∙ ap (λ (b : Book). record b { now = max b.now now }) stands.book
      ∙ ap (λ n. record point.book { now = n }) (sym (ap (max point.book.now) raised_moment ∙ raised_twice point.book.now now))

  same_number : old.first + length old.history.items ≡ next_number point
  same_number = ap (λ (b : Book). b.first + length old.history.items) stands.book ∙ ap (λ h. point.book.first + length h) stands.history

  pub same_served : served_at point the_entry ≡ record { reply = said; book = book_in served }
  same_served =
      ap (λ b. cond {A = Served} (may_fail request point.book point.kept && b) (record { reply = said; book = at_moment new.moment point.book })
      (serve (next_number point) new.moment (request_context point) request point.book)) (quiet_facts said called.serves.quiet).fault
      ∙ ap (λ b. cond {A = Served} b (record { reply = said; book = at_moment new.moment point.book })
      (serve (next_number point) new.moment (request_context point) request point.book)) (never (may_fail request point.book point.kept))
      ∙ ap (λ (b : Book). serve_now (next_number point) (request_context point) request b) (sym raised_book)
      ∙ ap (λ n. serve_now n (request_context point) request (book_in raised)) (sym same_number)
      ∙ sym (called.serves.served entered (request_context point))

  kept_same : (after point the_entry).kept ≡ point.kept
  kept_same = entry_leaves point the_entry
      (subst (λ (s : Served). leaves_kept s.reply ≡ true) (sym same_served) (quiet_facts said called.serves.quiet).kept)

  work_raised : AreWork raised point.work
  work_raised = work_moved old raised point.work called.rise.same.rows called.rise.same.debris called.rise.same.jobs stands.work

  rules_given : IsWork (old.first + length old.history.items) (book_in raised).rows point.work
  rules_given =
      subst (λ n. IsWork n (book_in raised).rows point.work) (sym same_number)
      (subst (λ r. IsWork (next_number point) r point.work) (sym (ap (λ (b : Book). b.rows) raised_book)) ruled.work)

  work_given : AreWork new (work_asked request said point.book.rows (book_in served).rows point.work)
  work_given = work_moved served new _ called.same.rows called.same.debris called.same.jobs
      (subst (λ r. AreWork served (work_asked request said r (book_in served).rows point.work)) (ap (λ (b : Book). b.rows) raised_book)
      (called.serves.work entered point.work rules_given work_raised))

  marks_raised : raised.kept.marks ≡ map mark_of point.kept
  marks_raised = ap (λ k. k.marks) called.rise.same.kept ∙ stands.kept

  paths_raised : raised.paths ≡ row_paths (book_in raised) point.kept
  paths_raised = called.rise.same.paths ∙ stands.paths ∙ ap (λ (b : Book). row_paths b point.kept) (sym raised_book)

  -- the parts stand for the point behind the entry
  pub call_stands : StandFor new (after point the_entry)
  call_stands = record {
    book = called.book ∙ sym (ap (λ (s : Served). s.book) same_served);
    work = subst (λ (s : Served). AreWork new (work_asked request s.reply point.book.rows s.book.rows point.work)) (sym same_served) work_given;
    kept = ap (λ k. k.marks) called.same.kept ∙ called.serves.kept ∙ marks_raised ∙ ap (map mark_of) (sym kept_same);
    nodes = called.same.nodes ∙ called.serves.nodes entered
        ∙ ap (λ n. n + nodes_of request said (book_in raised)) (called.rise.same.nodes ∙ stands.nodes)
        ∙ ap (λ (b : Book). point.nodes + nodes_of request said b) raised_book
        ∙ ap (λ n. point.nodes + n) (nodes_moment request said new.moment point.book)
        ∙ ap (λ (s : Served). point.nodes + nodes_of request s.reply point.book) (sym same_served);
    paths = called.same.paths ∙ called.serves.paths entered point.kept marks_raised paths_raised
        ∙ ap (λ (s : Served). row_paths s.book point.kept) (sym same_served)
        ∙ ap (row_paths (after point the_entry).book) (sym kept_same);
    history = called.history
        ∙ ap (λ h. h ++ the_entry ∷ []) (ap (λ h. h.items) called.serves.beside.history ∙ called.rise.history ∙ stands.history);
  }

  stands_raised : StandFor raised (record point { book = at_moment new.moment point.book })
  stands_raised = record {
    book = raised_book;
    work = work_raised;
    kept = marks_raised;
    nodes = called.rise.same.nodes ∙ stands.nodes;
    paths = called.rise.same.paths ∙ stands.paths;
    history = called.rise.history ∙ stands.history;
  }

  room_told : IsRoomy old.base.limits point → full_asked old.base.limits point new.moment request ≡ None
  room_told roomy =
      sym (room_asked (old.first + length old.history.items) new.moment request said old.base.limits raised served point stands_raised same_number
      (ap (λ b. b.limits) called.rise.base) called.serves roomy (entered_facts said entered).0)
      ∙ (entered_facts said entered).1

  -- the entry is legal
  pub call_legal : IsRoomy old.base.limits point → MayAsk request → IsNumbered point the_entry → nat_lt now end_of_time ≡ true →
      IsLegalEntry old.base.limits point the_entry
  call_legal roomy may numbered within = record {
    follows = record {
      reply = ap (λ (s : Served). s.reply) (sym same_served);
      moment = ap (λ (b : Book). b.now) called.book ∙ ap (λ (s : Served). s.book.now) (sym same_served);
      number = numbered;
      order = tt;
    };
    room = room_told roomy;
    recorded = (quiet_facts said called.serves.quiet).recorded (event.Asked request);
    notes = subst (IsNoteFrom (count_behind 0 point.history)) (sym (quiet_facts said called.serves.quiet).note) tt;
    faulted = tt;
    askable = may;
    time = subst (λ n. may_be_now point.book.now n ≡ true) (sym raised_moment) (time_raised point.book.now now within);
  }

-- ---- a request that isn't entered

-- parts at a raised moment, which a request left as they were, stand for their point again once they have their own moment
pub still_stands : {D K : Type 0} (now : ℕ) (old raised served new : Parts D K) → IsRaised now old raised → IsUnchanged raised served →
    book_in new ≡ record (book_in served) { now = old.moment } → AreSameBooks served new → new.history.items ≡ served.history.items →
    StandsStill old new
still_stands now old raised served new is unchanged book same history point stands = record {
  book = book ∙ ap (λ (b : Book). record b { now = old.moment }) (unchanged.book ∙ is.book) ∙ stands.book;
  work = record {
    stocks = λ stock among. stands.work.stocks stock (subst (λ r. Contains r stock) (same.rows ∙ unchanged.rows ∙ is.same.rows) among);
    jobs = ap jobs_of (same.jobs ∙ unchanged.jobs ∙ is.same.jobs) ∙ stands.work.jobs;
    cleaned = λ running among.
        stands.work.cleaned running (subst (λ j. Contains j running) (same.jobs ∙ unchanged.jobs ∙ is.same.jobs) among);
    debris = ap (λ d. d.list) same.debris ∙ unchanged.debris ∙ ap (λ d. d.list) is.same.debris ∙ stands.work.debris;
  };
  kept = ap (λ k. k.marks) same.kept ∙ unchanged.kept ∙ ap (λ k. k.marks) is.same.kept ∙ stands.kept;
  nodes = same.nodes ∙ unchanged.nodes ∙ is.same.nodes ∙ stands.nodes;
  paths = same.paths ∙ unchanged.paths ∙ is.same.paths ∙ stands.paths;
  history = history ∙ ap (λ h. h.items) unchanged.beside.history ∙ is.history ∙ stands.history;
}

-- a limit is told where a request would pass it, whether or not it is entered
pub full_told : {D K : Type 0} (now : ℕ) (request : Asked) (said : Reply) (old raised served : Parts D K) (point : Point) →
    IsRaised now old raised → Serves (old.first + length old.history.items) request said raised served → StandFor old point →
    IsRoomy old.base.limits point → is_want said ≡ false → full_of said ≡ full_asked old.base.limits point (max point.book.now now) request
full_told now request said old raised served point is serves stands roomy not_want =
    room_asked (old.first + length old.history.items) (max point.book.now now) request said old.base.limits raised served point (record {
      book = is.book ∙ ap (λ (b : Book). record b { now = max b.now now }) stands.book
          ∙ ap (λ n. record point.book { now = n }) (sym (raised_twice point.book.now now));
      work = work_moved old raised point.work is.same.rows is.same.debris is.same.jobs stands.work;
      kept = ap (λ k. k.marks) is.same.kept ∙ stands.kept;
      nodes = is.same.nodes ∙ stands.nodes;
      paths = is.same.paths ∙ stands.paths;
      history = is.history ∙ stands.history;
    })
    (ap (λ (b : Book). b.first + length old.history.items) stands.book ∙ ap (λ h. point.book.first + length h) stands.history)
    (ap (λ b. b.limits) is.base) serves roomy not_want

-- a book's rules don't ask for its moment
pub rules_raised : (next moment : ℕ) (book : Book) → IsBook next book → IsBook next (record book { now = moment })
rules_raised next moment book rules = record {
  apart = rules.apart;
  sums = rules.sums;
  once = rules.once;
  few = rules.few;
  state = rules.state;
  waits = rules.waits;
  ordered = rules.ordered;
  soft = rules.soft;
  holds = rules.holds;
  ascending = rules.ascending;
  below = rules.below;
  asking = rules.asking;
  covered = rules.covered;
}

-- parts that stand for a point that keeps its rules do so at a raised moment
pub ruled_raised : {D K : Type 0} (number now : ℕ) (old raised : Parts D K) → AreRuled number old → IsRaised now old raised → AreRuled number raised
ruled_raised number now old raised ruled is = record {
  point = record ruled.point { book = record ruled.point.book { now = max ruled.point.book.now now } };
  stands = record {
    book = is.book ∙ ap (λ (b : Book). record b { now = max b.now now }) ruled.stands.book;
    work = work_moved old raised ruled.point.work is.same.rows is.same.debris is.same.jobs ruled.stands.work;
    kept = ap (λ k. k.marks) is.same.kept ∙ ruled.stands.kept;
    nodes = is.same.nodes ∙ ruled.stands.nodes;
    paths = is.same.paths ∙ ruled.stands.paths;
    history = is.history ∙ ruled.stands.history;
  };
  rules = record {
    book = rules_raised (next_number ruled.point) (max ruled.point.book.now now) ruled.point.book ruled.rules.book;
    work = ruled.rules.work;
    placed = ruled.rules.placed;
    kept = ruled.rules.kept;
  };
  roomy = subst (λ b. IsRoomy b.limits (record ruled.point { book = record ruled.point.book { now = max ruled.point.book.now now } })) (sym is.base) (record {
    history = ruled.roomy.history;
    nodes = ruled.roomy.nodes;
    rows = ruled.roomy.rows;
    held = ruled.roomy.held;
    asked = ruled.roomy.asked;
    holds = ruled.roomy.holds;
    waiting = ruled.roomy.waiting;
  });
  limits = subst (λ b. AreLimits b.limits) (sym is.base) ruled.limits;
  next = ruled.next;
}
