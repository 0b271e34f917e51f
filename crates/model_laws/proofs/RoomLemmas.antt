-- All that is counted at a point stays within the limits, where there was room for each entry and work came in order.
use Rattle.mat_path.proofs.Elements.{contains_first, contains_more}
use Rattle.mat_path.proofs.SameNames.{same_names-refl}
use Rattle.std.proofs.Common.{◌≡◌, ℕ, suc, ◌+◌, ◌≤◌, ◌==◌, nat_lt, Bool, true, false, not, ◌&&◌, List, [], ◌∷◌, ◌++◌, Option, Some, None, cond, refl, sym, ap, ap₂, subst, ◌∙◌, map, find, Contains, count_by, length, length-append, arith}
use Rattle.std.specs.List.{filter, list_any}
use Rattle.std.proofs.lemmas.Bool.{and_parts, ltb-false}
use Rattle.std.proofs.lemmas.List.{length-map}
use Rattle.std.proofs.lemmas.List.Sums.{sum_by-cons}
use Rattle.mat_path.specs.Names.{same_names}
use Rattle.mat_tree.specs.declared.flat.Flat.{Flat}
use Rattle.mat_tree.specs.Trees.{bytes_of}
use Rattle.mat_model.specs.declared.answers.Answer.{Answer}
use Rattle.mat_model.specs.declared.answers.Answer.TheVariants as answer
use Rattle.mat_model.specs.declared.answers.FaultNote.{FaultNote}
use Rattle.mat_model.specs.declared.answers.Limit.TheVariants as limit
use Rattle.mat_model.specs.declared.answers.Recorded.{Recorded}
use Rattle.mat_model.specs.declared.answers.Reply.{Reply}
use Rattle.mat_model.specs.declared.answers.Reply.TheVariants as reply
use Rattle.mat_model.specs.declared.book.Book.{Book}
use Rattle.mat_model.specs.declared.book.Hold.{Hold}
use Rattle.mat_model.specs.declared.book.Row.{Row}
use Rattle.mat_model.specs.declared.book.Ticket.{Ticket}
use Rattle.mat_model.specs.declared.book.Waiter.{Waiter}
use Rattle.mat_model.specs.declared.entries.Entry.{Entry}
use Rattle.mat_model.specs.declared.entries.Event.{Event}
use Rattle.mat_model.specs.declared.entries.Event.TheVariants as event
use Rattle.mat_model.specs.declared.entries.Outcome.{Outcome}
use Rattle.mat_model.specs.declared.entries.Outcome.TheVariants as outcome
use Rattle.mat_model.specs.declared.entries.Task.{Task}
use Rattle.mat_model.specs.declared.entries.Task.TheVariants as task
use Rattle.mat_model.specs.declared.limits.Limits.{Limits}
use Rattle.mat_model.specs.declared.opening.Opening.{Opening}
use Rattle.mat_model.specs.declared.requests.Asked.{Asked}
use Rattle.mat_model.specs.declared.requests.Asked.TheVariants as asked
use Rattle.mat_model.specs.declared.requests.CleanMode.TheVariants as mode
use Rattle.mat_model.specs.Gate.{Served}
use Rattle.mat_model.specs.History.{Point, after, after_all, answer, answer_done, begin_with, is_keeper, is_store_fault, kept_after, kept_ended, next_number, nodes_by, nodes_of, opened, point_of, recorded_as, refusal_note, request_context, work_after}
use Rattle.mat_model.specs.Kept.{KeptRow, is_kept_clear, kept_done, may_fail, overlaps_kept}
use Rattle.mat_model.specs.Legal.{ComesInOrder, IsEach, IsInOrder, IsLegal, IsLegalEntry, may_end_by}
use Rattle.mat_model.specs.Openings.{kept_at_opening}
use Rattle.mat_model.specs.Requests.{at_moment, serve}
use Rattle.mat_model.specs.Room.{HasRoom, entries_for, full_event, full_served, held_bytes, held_for, is_alone, row_paths, spent, waits_past}
use Rattle.mat_model.specs.Rows.{is_at_path, standing_row}
use Rattle.mat_model.specs.Tickets.{answered_by, answered_by_any, is_open, waits_for, waits_for_any, with_answer}
use Rattle.mat_model.specs.Work.{end_make, finish, is_declared, rows_of_task}
use Rattle.mat_model.specs.WorkState.{Job, Lent, WayOf, WorkState, cleans_all, condemned_all, ended, ended_work, has_stamp, is_cleaning, is_held_way, is_job, is_other_job, made_work, path_of_task, put_debris, refused, returned, running, started, ways_after, way_of, wiped_work, work_asked}
use Rattle.model_laws.specs.RoomRules.{IsRoomy}
use Rattle.model_laws.proofs.BooksLists.{contains_any}
use Rattle.model_laws.proofs.BooksRoom.{history_short, none_parts}
use Rattle.model_laws.proofs.Changes.{standing-path, standing-stamp, standing-tree}
use Rattle.model_laws.proofs.Elements.{found_contains, found_passes}
use Rattle.model_laws.proofs.KeptOrder.{done_stores}
use Rattle.model_laws.proofs.RoomCases.{Goes, asked_goes}
use Rattle.model_laws.proofs.RoomLists.{alone_stored, any_mapped, count_fewer, fewer_filtered, one_less, sum_alike}
use Rattle.model_laws.proofs.RowCases.{either_served, fault_note}
use Rattle.model_laws.proofs.Serving.{ended_by}

-- the point after an event that was served so, with its entry
abbrev stepped_by : Point → Entry → Event → Served → Point
stepped_by point entry what served = record {
  history = point.history ++ entry ∷ [];
  book = served.book;
  work = work_after point entry.by.caller what served;
  kept = kept_after point what served;
  nodes = point.nodes + nodes_by what served.reply point.book;
}

-- the limits keep a request that was served so
record HasPlace (limits : Limits) (point : Point) (request : Asked) (served : Served) : Type 0 where
  history : spent point + entries_for request served.reply ≤ limits.history
  nodes : point.nodes + nodes_of request served.reply point.book ≤ limits.nodes
  rows : row_paths served.book point.kept ≤ limits.rows
  held : held_bytes (ways_after request served.reply point.book.rows point.work.ways) served.book.rows ≤ limits.held
  asked : count_by is_open served.book.tickets ≤ limits.asked
  holds : length served.book.holds ≤ limits.holds

room_parts : (limits : Limits) (point : Point) (request : Asked) (served : Served) → full_served limits point request served ≡ None →
    HasPlace limits point request served
room_parts limits point request served none =
    let history = none_parts (nat_lt limits.history (spent point + entries_for request served.reply)) limit.History _ none in
    let declared = none_parts _ limit.Nodes _ history.1 in
    let waits = none_parts (waits_past served.reply) limit.Waiting _ declared.1 in
    let nodes = none_parts (nat_lt limits.nodes (point.nodes + nodes_of request served.reply point.book)) limit.Nodes _ waits.1 in
    let rows = none_parts (nat_lt limits.rows (row_paths served.book point.kept)) limit.Rows _ nodes.1 in
    let held = none_parts
    (nat_lt limits.held (held_bytes (ways_after request served.reply point.book.rows point.work.ways) served.book.rows)) limit.Held _ rows.1 in
    let asked = none_parts (nat_lt limits.asked (count_by is_open served.book.tickets)) limit.Asked _ held.1 in
    let holds = none_parts (nat_lt limits.holds (length served.book.holds)) limit.Holds _ asked.1 in record {
      history = ltb-false limits.history (spent point + entries_for request served.reply) history.0;
      nodes = ltb-false limits.nodes (point.nodes + nodes_of request served.reply point.book) nodes.0;
      rows = ltb-false limits.rows (row_paths served.book point.kept) rows.0;
      held = ltb-false limits.held (held_bytes (ways_after request served.reply point.book.rows point.work.ways) served.book.rows) held.0;
      asked = ltb-false limits.asked (count_by is_open served.book.tickets) asked.0;
      holds = ltb-false limits.holds (length served.book.holds) holds.0;
    }

-- the number of entries is one more
one_more_entry : (point : Point) (entry : Entry) → length (point.history ++ entry ∷ []) ≡ length point.history + 1
one_more_entry point entry = length-append point.history (entry ∷ [])

-- a request leaves the jobs
jobs_same : (request : Asked) (said : Reply) (rows left : List Row) (work : WorkState) → (work_asked request said rows left work).jobs ≡ work.jobs
jobs_same request said rows left work =
    elim (cleans_all request && is_cleaning said) as (λ b. (cond {A = WorkState} b (condemned_all work) work).jobs ≡ work.jobs)
    [ true ↦ refl | false ↦ refl ]

-- a request that was served within its room
asked_roomy : (limits : Limits) (point : Point) (entry : Entry) (request : Asked) (now : ℕ) (served : Served) →
    HasPlace limits point request served → Goes request (record point.book { now = now }) point.kept served → length served.book.waiting ≤ 64 →
    IsRoomy limits (stepped_by point entry (event.Asked request) served)
asked_roomy limits point entry request now served place goes short =
    let jobs : length (work_asked request served.reply point.book.rows served.book.rows point.work).jobs ≡ length point.work.jobs =
    ap (λ (js : List Job). length js) (jobs_same request served.reply point.book.rows served.book.rows point.work) in
    let grown = one_more_entry point entry in
    let gate = goes.gate in
    let alone = goes.alone in
    let room = place.history in
    let rows = place.rows in record {
      history = omega (arith, jobs, grown, gate, room);
      nodes = place.nodes;
      rows = omega (arith, alone, rows);
      held = place.held;
      asked = place.asked;
      holds = place.holds;
      waiting = short;
    }

-- a point at which no more is counted than at another one, entries apart
record NotMore (point other : Point) : Type 0 where
  nodes : other.nodes ≤ point.nodes
  rows : row_paths other.book other.kept ≤ row_paths point.book point.kept
  held : held_bytes other.work.ways other.book.rows ≤ held_bytes point.work.ways point.book.rows
  asked : count_by is_open other.book.tickets ≤ count_by is_open point.book.tickets
  holds : length other.book.holds ≤ length point.book.holds
  waiting : length other.book.waiting ≤ length point.book.waiting

roomy_more : (limits : Limits) (point other : Point) → IsRoomy limits point → NotMore point other → spent other ≤ limits.history → IsRoomy limits other
roomy_more limits point other roomy less few =
    let nodes = roomy.nodes in
    let rows = roomy.rows in
    let held = roomy.held in
    let asked = roomy.asked in
    let holds = roomy.holds in
    let waiting = roomy.waiting in
    let nodes' = less.nodes in
    let rows' = less.rows in
    let held' = less.held in
    let asked' = less.asked in
    let holds' = less.holds in
    let waiting' = less.waiting in record {
      history = few;
      nodes = omega (arith, nodes, nodes');
      rows = omega (arith, rows, rows');
      held = omega (arith, held, held');
      asked = omega (arith, asked, asked');
      holds = omega (arith, holds, holds');
      waiting = omega (arith, waiting, waiting');
    }

-- the point after a request that failed since the state store did
abbrev faulted_point : Point → Entry → ℕ → FaultNote → Asked → Point
faulted_point point entry now note request =
    stepped_by point entry (event.Asked request) (record { reply = reply.Fault note; book = record point.book { now = now } })

-- no more is counted there, and there is one more entry
failed_roomy : (limits : Limits) (point other : Point) (entry : Entry) (now : ℕ) → IsRoomy limits point → spent point + 1 ≤ limits.history →
    other.history ≡ point.history ++ entry ∷ [] → other.book ≡ record point.book { now = now } → other.work.jobs ≡ point.work.jobs →
    other.work.ways ≡ point.work.ways → other.kept ≡ point.kept → other.nodes ≡ point.nodes + 0 → IsRoomy limits other
failed_roomy limits point other entry now roomy few history book jobs ways kept nodes =
    let grown : length other.history ≡ length point.history + 1 = ap (λ (es : List Entry). length es) history ∙ one_more_entry point entry in
    let running : length other.work.jobs ≡ length point.work.jobs = ap (λ (js : List Job). length js) jobs in
    let live : length other.book.live ≡ length point.book.live = ap (λ (b : Book). length b.live) book in
    let waiting : length other.book.waiting ≡ length point.book.waiting = ap (λ (b : Book). length b.waiting) book in
    let holds : length other.book.holds ≡ length point.book.holds = ap (λ (b : Book). length b.holds) book in
    let asked : count_by is_open other.book.tickets ≡ count_by is_open point.book.tickets = ap (λ (b : Book). count_by is_open b.tickets) book in
    let rows : row_paths other.book other.kept ≡ row_paths point.book point.kept =
    ap (λ (b : Book). row_paths b other.kept) book ∙ ap (λ (ks : List KeptRow). row_paths point.book ks) kept in
    let held : held_bytes other.work.ways other.book.rows ≡ held_bytes point.work.ways point.book.rows =
    ap (λ (b : Book). held_bytes other.work.ways b.rows) book ∙ ap (λ (ws : List WayOf). held_bytes ws point.book.rows) ways in
    roomy_more limits point other roomy (record {
      nodes = omega (arith, nodes);
      rows = omega (arith, rows);
      held = omega (arith, held);
      asked = omega (arith, asked);
      holds = omega (arith, holds);
      waiting = omega (arith, waiting);
    })
    (omega (arith, grown, running, live, waiting, few))

-- a request that failed since the state store did
faulted_roomy : (limits : Limits) (point : Point) (entry : Entry) (now : ℕ) (note : FaultNote) → IsRoomy limits point → (request : Asked) →
    may_fail request point.book point.kept ≡ true → (served : Served) → spent point + entries_for request served.reply ≤ limits.history →
    IsRoomy limits (faulted_point point entry now note request)
faulted_roomy limits point entry now note roomy (asked.Enter command state soft other) may served few = absurd cc
faulted_roomy limits point entry now note roomy (asked.Leave command) may served few = absurd cc
faulted_roomy limits point entry now note roomy (asked.Write command path sum) may served few = absurd cc
faulted_roomy limits point entry now note roomy (asked.Declare command path tree) may served few = absurd cc
faulted_roomy limits point entry now note roomy (asked.Copy command path source) may served few = absurd cc
faulted_roomy limits point entry now note roomy (asked.Matches command path sum) may served few = absurd cc
faulted_roomy limits point entry now note roomy (asked.Has command path) may served few = absurd cc
faulted_roomy limits point entry now note roomy (asked.Ensure command path) may served few = absurd cc
faulted_roomy limits point entry now note roomy (asked.Invalidate command path) may served few =
    failed_roomy limits point (faulted_point point entry now note (asked.Invalidate command path)) entry now roomy few refl refl refl refl refl refl
faulted_roomy limits point entry now note roomy (asked.Clean cutoff mode.Dry) may served few = absurd cc
faulted_roomy limits point entry now note roomy (asked.Clean cutoff mode.Real) may served few =
    failed_roomy limits point (faulted_point point entry now note (asked.Clean cutoff mode.Real)) entry now roomy few refl refl refl refl refl refl
faulted_roomy limits point entry now note roomy (asked.Clean cutoff mode.All) may served few =
    failed_roomy limits point (faulted_point point entry now note (asked.Clean cutoff mode.All)) entry now roomy few refl refl refl refl refl refl
faulted_roomy limits point entry now note roomy asked.Flush may served few =
    failed_roomy limits point (faulted_point point entry now note asked.Flush) entry now roomy few refl refl refl refl refl refl

-- a work state with other jobs that has the ways and the jobs of another one
record Keeps (work other : WorkState) : Type 0 where
  jobs : other.jobs ≡ work.jobs
  ways : other.ways ≡ work.ways

-- a ticket that may be answered is open only where it was
still_open : (b : Bool) (number : ℕ) (given : Answer) (ticket : Ticket) → is_open (cond b (with_answer number given ticket) ticket) ≡ true →
    is_open ticket ≡ true
still_open true number given ticket lies = absurd cc
still_open false number given ticket lies = lies

fewer_open : (number : ℕ) (given : Answer) (some : List Row) (tickets : List Ticket) →
    count_by is_open (map (answered_by_any some number given) tickets) ≤ count_by is_open tickets
fewer_open number given some tickets =
    count_fewer is_open (answered_by_any some number given) (λ ticket. still_open (waits_for_any some ticket) number given ticket) tickets

-- a begin, which takes room for its end too
started_roomy : (limits : Limits) (point : Point) (entry : Entry) (begun : Task) → IsRoomy limits point →
    spent point + 2 ≤ limits.history → IsRoomy limits (stepped_by point entry (event.Begin begun) (record { reply = reply.Started; book = point.book }))
started_roomy limits point entry begun roomy few =
    roomy_more limits point _ roomy (record {
      nodes = omega arith;
      rows = let less = fewer_filtered (is_alone point.book.rows) (is_kept_clear (path_of_task begun)) point.kept in omega (arith, less);
      held = subst (λ (ways : List WayOf). held_bytes ways point.book.rows ≤ held_bytes point.work.ways point.book.rows) (sym (start begun).0) (omega arith);
      asked = omega arith;
      holds = omega arith;
      waiting = omega arith;
    })
    (let grown = one_more_entry point entry in let jobs = (start begun).1 in omega (arith, grown, jobs, few))
  where
    start : (one : Task) → ((started (next_number point) entry.by.caller one point.book.rows point.work).ways ≡ point.work.ways)
        × (length (started (next_number point) entry.by.caller one point.book.rows point.work).jobs ≡ length point.work.jobs + 1)
    start (task.Make path stamp) = (refl, length-append point.work.jobs _)
    start (task.Wipe path) = (refl, length-append point.work.jobs _)

begun_roomy : (limits : Limits) (point : Point) (entry : Entry) (begun : Task) (o : Option FaultNote) → IsRoomy limits point →
    spent point + 2 ≤ limits.history → IsRoomy limits (stepped_by point entry (event.Begin begun) (begin_with point begun o))
begun_roomy limits point entry begun None roomy few = started_roomy limits point entry begun roomy few
begun_roomy limits point entry begun (Some note) roomy few =
    either_served (λ (served : Served). IsRoomy limits (stepped_by point entry (event.Begin begun) served))
    (is_keeper note.device && list_any (overlaps_kept (path_of_task begun)) point.kept) _ _
    (λ failed.
    roomy_more limits point _ roomy (record {
      nodes = omega arith;
      rows = omega arith;
      held = subst (λ (ways : List WayOf). held_bytes ways point.book.rows ≤ held_bytes point.work.ways point.book.rows) (sym (stays begun).ways)
          (omega arith);
      asked = fewer_open (next_number point) (answer.Fault note) (rows_of_task begun point.book.rows) point.book.tickets;
      holds = omega arith;
      waiting = omega arith;
    })
    (let grown = one_more_entry point entry in
    let jobs : length (refused begun point.work).jobs ≡ length point.work.jobs = ap (λ (js : List Job). length js) (stays begun).jobs in
    omega (arith, grown, jobs, few)))
    (λ calm. started_roomy limits point entry begun roomy few)
  where
    stays : (one : Task) → Keeps point.work (refused one point.work)
    stays (task.Make path stamp) = record { jobs = refl; ways = refl }
    stays (task.Wipe path) = record { jobs = refl; ways = refl }

-- what the end of a job leaves of a book: as many of all, and no more open tickets
record IsLess (book other : Book) : Type 0 where
  live : other.live ≡ book.live
  waiting : other.waiting ≡ book.waiting
  holds : other.holds ≡ book.holds
  rows : length other.rows ≡ length book.rows
  paths : (path : List (List ℕ)) → list_any (is_at_path path) other.rows ≡ list_any (is_at_path path) book.rows
  held : (ways : List WayOf) → held_bytes ways other.rows ≡ held_bytes ways book.rows
  asked : count_by is_open other.tickets ≤ count_by is_open book.tickets

ended_less : (number : ℕ) (begun : Task) (out : Outcome) (how : Recorded) (book : Book) → IsLess book (finish number begun out how book).book
ended_less number begun out how book =
    ended_by (IsLess book) number begun out how book (record {
      same = record {
        live = refl;
        waiting = refl;
        holds = refl;
        rows = refl;
        paths = λ path. refl;
        held = λ ways. refl;
        asked = omega arith;
      };
      stands = λ path stamp row found. record {
        live = refl;
        waiting = refl;
        holds = refl;
        rows = length-map book.rows (standing_row path);
        paths = λ at. any_mapped (is_at_path at) (standing_row path)
            (λ r. ap (λ (p : List (List ℕ)). same_names p at) (standing-path path r)) book.rows;
        held = λ ways. sum_alike (held_for ways) (standing_row path)
            (λ r. ap₂ (λ (s : ℕ) (t : List Flat). cond (is_held_way (way_of s ways)) (bytes_of t) 0) (standing-stamp path r) (standing-tree path r))
            book.rows;
        asked = count_fewer is_open (answered_by row number (answer.Ready row.stamp row.sum))
            (λ ticket. still_open (waits_for row ticket) number (answer.Ready row.stamp row.sum) ticket) book.tickets;
      };
      fails = λ some given. record {
        live = refl;
        waiting = refl;
        holds = refl;
        rows = refl;
        paths = λ path. refl;
        held = λ ways. refl;
        asked = fewer_open number given some book.tickets;
      };
    })

-- rows at the same paths leave the same kept rows alone
same_alone : (rows others : List Row) (kept : List KeptRow) →
    ((path : List (List ℕ)) → list_any (is_at_path path) others ≡ list_any (is_at_path path) rows) →
    length (filter (is_alone others) kept) ≡ length (filter (is_alone rows) kept)
same_alone rows others [] alike = refl
same_alone rows others (row ∷ kept) alike =
    let more : length (filter (is_alone others) kept) ≡ length (filter (is_alone rows) kept) = same_alone rows others kept alike in
    let here : is_alone others row ≡ is_alone rows row = ap not (alike row.path) in
    rw here
    (elim (is_alone rows row) as
    (λ b. length (cond b (row ∷ filter (is_alone others) kept) (filter (is_alone others) kept))
    ≡ length (cond b (row ∷ filter (is_alone rows) kept) (filter (is_alone rows) kept)))
    [ true ↦ ap (λ (n : ℕ). suc n) more | false ↦ more ])

-- the kept rows after the end of a job: no more are alone
done_alone : (number : ℕ) (begun : Task) (out : Outcome) (how : Recorded) (book : Book) (kept : List KeptRow) →
    filter (is_alone (finish number begun out how book).book.rows)
    (kept_done begun (finish number begun out how book).reply (finish number begun out how book).book.rows kept)
    ≡ filter (is_alone (finish number begun out how book).book.rows) kept
done_alone number begun out how book kept =
    done_stores
    (λ (ks : List KeptRow). filter (is_alone (finish number begun out how book).book.rows) ks
    ≡ filter (is_alone (finish number begun out how book).book.rows) kept)
    number begun out how book kept refl (λ some within. alone_stored (finish number begun out how book).book.rows some kept within)

-- the work state after the end of a job, but for its job
fresh_keeps : (path : List (List ℕ)) (out : Outcome) (how : Recorded) (work : WorkState) → Keeps work (made_work path out (reply.Fresh how) work)
fresh_keeps path outcome.Made how work = record { jobs = refl; ways = refl }
fresh_keeps path outcome.Wiped how work = record { jobs = refl; ways = refl }
fresh_keeps path (outcome.Missing digest) how work = record { jobs = refl; ways = refl }
fresh_keeps path (outcome.Corrupt wanted found) how work = record { jobs = refl; ways = refl }
fresh_keeps path (outcome.Fault note) how work = record { jobs = refl; ways = refl }
fresh_keeps path outcome.NoMemory how work = record { jobs = refl; ways = refl }

wiped_keeps : (path : List (List ℕ)) (out : Outcome) (work : WorkState) → Keeps work (wiped_work path out work)
wiped_keeps path outcome.Made work = record { jobs = refl; ways = refl }
wiped_keeps path outcome.Wiped work = record { jobs = refl; ways = refl }
wiped_keeps path (outcome.Missing digest) work = record { jobs = refl; ways = refl }
wiped_keeps path (outcome.Corrupt wanted found) work = record { jobs = refl; ways = refl }
wiped_keeps path (outcome.Fault note) work = record { jobs = refl; ways = refl }
wiped_keeps path outcome.NoMemory work = record { jobs = refl; ways = refl }

done_keeps : (number : ℕ) (begun : Task) (out : Outcome) (how : Recorded) (book : Book) (work : WorkState) →
    Keeps work (ended_work begun out (finish number begun out how book).reply work)
done_keeps number (task.Make path stamp) out how book work = by (find (is_declared path stamp) book.rows)
  where
    by : (o : Option Row) → Keeps work (made_work path out (end_make number path out how book o).reply work)
    by None = record { jobs = refl; ways = refl }
    by (Some row) = fresh_keeps path out how work
done_keeps number (task.Wipe path) out how book work = wiped_keeps path out work

back_keeps : (lent : Option Lent) (rows : List Row) (work : WorkState) → Keeps work (returned lent rows work)
back_keeps None rows work = record { jobs = refl; ways = refl }
back_keeps (Some lent) rows work =
    elim (list_any (has_stamp lent.stamp) rows) as (λ b. Keeps work (cond {A = WorkState} b work (record work {
      debris = put_debris (record { path = lent.path; condemned = list_any (λ (stamp : ℕ). stamp == lent.stamp) work.cleaned }) work.debris;
    }))) [ true ↦ record { jobs = refl; ways = refl } | false ↦ record { jobs = refl; ways = refl } ]

-- the point after the end of a job, if one runs, that was served so
abbrev done_point : Point → Entry → ℕ → Outcome → Served → Option Job → Point
done_point point entry number out served o = record {
  history = point.history ++ entry ∷ [];
  book = served.book;
  work = ended number out served.reply served.book.rows point.work o;
  kept = kept_ended o served point.kept;
  nodes = point.nodes + 0;
}

-- the end of a job that runs
done_roomy : (limits : Limits) (point : Point) (entry : Entry) (caller number : ℕ) (out : Outcome) (said : Reply) (o : Option Job) →
    running number point.work ≡ o → may_end_by o caller out ≡ true → IsRoomy limits point →
    IsRoomy limits (done_point point entry number out (answer_done point out said o) o)
done_roomy limits point entry caller number out said None runs may roomy = absurd cc
done_roomy limits point entry caller number out said (Some job) runs may roomy =
    let how : Recorded = recorded_as said in
    let served : Served = finish (next_number point) job.task out how point.book in
    let less : IsLess point.book served.book = ended_less (next_number point) job.task out how point.book in
    let freed : WorkState = record point.work { jobs = filter (is_other_job number) point.work.jobs } in
    let task : Keeps freed (ended_work job.task out served.reply freed) = done_keeps (next_number point) job.task out how point.book freed in
    let back : Keeps (ended_work job.task out served.reply freed) (returned job.lent served.book.rows (ended_work job.task out served.reply freed)) =
    back_keeps job.lent served.book.rows (ended_work job.task out served.reply freed) in
    let paths : length served.book.rows ≡ length point.book.rows = less.rows in
    let alone : length (filter (is_alone served.book.rows) (kept_done job.task served.reply served.book.rows point.kept))
    ≡ length (filter (is_alone point.book.rows) point.kept) =
    ap (λ (ks : List KeptRow). length ks) (done_alone (next_number point) job.task out how point.book point.kept)
    ∙ same_alone point.book.rows served.book.rows point.kept less.paths in
    let held : held_bytes (returned job.lent served.book.rows (ended_work job.task out served.reply freed)).ways served.book.rows
    ≡ held_bytes point.work.ways point.book.rows =
    ap (λ (ways : List WayOf). held_bytes ways served.book.rows) (back.ways ∙ task.ways) ∙ less.held point.work.ways in
    let asked : count_by is_open served.book.tickets ≤ count_by is_open point.book.tickets = less.asked in
    let holds : length served.book.holds ≡ length point.book.holds = ap (λ (hs : List Hold). length hs) less.holds in
    let waiting : length served.book.waiting ≡ length point.book.waiting = ap (λ (ws : List Waiter). length ws) less.waiting in
    let live : length served.book.live ≡ length point.book.live = ap (λ (cs : List ℕ). length cs) less.live in
    let jobs : length (returned job.lent served.book.rows (ended_work job.task out served.reply freed)).jobs
    ≡ length (filter (is_other_job number) point.work.jobs) = ap (λ (js : List Job). length js) (back.jobs ∙ task.jobs) in
    let fewer : length (filter (is_other_job number) point.work.jobs) + 1 ≤ length point.work.jobs =
    one_less (is_job number) (is_other_job number) (λ other. refl) point.work.jobs
    (contains_any (is_job number) point.work.jobs job (found_contains (is_job number) point.work.jobs job runs)
    (found_passes (is_job number) point.work.jobs job runs)) in
    let grown = one_more_entry point entry in
    let few = roomy.history in
    roomy_more limits point (done_point point entry number out served (Some job)) roomy (record {
      nodes = omega arith;
      rows = omega (arith, paths, alone);
      held = omega (arith, held);
      asked = asked;
      holds = omega (arith, holds);
      waiting = omega (arith, waiting);
    })
    (omega (arith, grown, jobs, fewer, live, waiting, few))

-- an event for which there was room, and which comes in order
event_roomy : (limits : Limits) (point : Point) (entry : Entry) (what : Event) (said : Reply) → IsRoomy limits point →
    full_event limits point entry.now what ≡ None → IsInOrder point entry.by.caller what →
    length (answer point entry.now what said).book.waiting ≤ 64 →
    IsRoomy limits (stepped_by point entry what (answer point entry.now what said))
event_roomy limits point entry (event.Asked request) said roomy room order =
    either_served
    (λ (served : Served). length served.book.waiting ≤ 64 → IsRoomy limits (stepped_by point entry (event.Asked request) served))
    (may_fail request point.book point.kept && is_store_fault said) _ _
    (λ failed short.
    let parts = and_parts (may_fail request point.book point.kept) (is_store_fault said) failed in
    let (note, is) = fault_note said parts.1 in
    subst
    (λ (r : Reply). IsRoomy limits (stepped_by point entry (event.Asked request) (record { reply = r; book = at_moment entry.now point.book }))) (sym is)
    (faulted_roomy limits point entry (at_moment entry.now point.book).now note roomy request parts.0
    (serve (next_number point) entry.now (request_context point) request point.book)
    (room_parts limits point request (serve (next_number point) entry.now (request_context point) request point.book) room).history))
    (λ calm short.
    asked_roomy limits point entry request (at_moment entry.now point.book).now
    (serve (next_number point) entry.now (request_context point) request point.book)
    (room_parts limits point request (serve (next_number point) entry.now (request_context point) request point.book) room)
    (asked_goes (next_number point) (request_context point) request (at_moment entry.now point.book) point.kept)
    short)
event_roomy limits point entry (event.Begin begun) said roomy room order =
    λ short.
    begun_roomy limits point entry begun (refusal_note said) roomy
    (ltb-false limits.history (spent point + 2) (none_parts (nat_lt limits.history (spent point + 2)) limit.History None room).0)
event_roomy limits point entry (event.Done number out) said roomy room order =
    λ short. done_roomy limits point entry entry.by.caller number out said (running number point.work) refl order roomy

-- an entry, and a history, keep within the limits
entry_roomy : (limits : Limits) (point : Point) (entry : Entry) → IsRoomy limits point → HasRoom limits point entry → ComesInOrder point entry →
    IsRoomy limits (after point entry)
entry_roomy limits point entry roomy room order =
    event_roomy limits point entry entry.event entry.reply roomy room order (history_short limits point (entry ∷ []) roomy.waiting (room, tt))

pub history_roomy : (limits : Limits) (point : Point) (later : List Entry) → IsRoomy limits point → IsEach (HasRoom limits) point later →
    IsEach ComesInOrder point later → IsRoomy limits (after_all point later)
history_roomy limits point [] roomy room order = roomy
history_roomy limits point (entry ∷ later) roomy room order =
    history_roomy limits (after point entry) later (entry_roomy limits point entry roomy room.0 order.0) room.1 order.1

-- no bytes are held where no row has a way
none_held : (rows : List Row) → held_bytes [] rows ≡ 0
none_held [] = refl
none_held (row ∷ rows) =
    let rest : held_bytes [] rows ≡ 0 = none_held rows in
    let step : held_bytes [] (row ∷ rows) ≡ 0 + held_bytes [] rows = sum_by-cons (held_for []) row rows in
    omega (arith, step, rest)

-- no kept row of an opening is alone
none_alone : (opening : Opening) (rows some : List Row) → ((row : Row) → Contains some row → Contains rows row) →
    filter (is_alone rows) (map (kept_at_opening opening) some) ≡ []
none_alone opening rows [] within = refl
none_alone opening rows (row ∷ some) within =
    let off : is_alone rows (kept_at_opening opening row) ≡ false =
    ap not (contains_any (is_at_path row.path) rows row (within row (contains_first row some)) (same_names-refl row.path)) in
    rw off (none_alone opening rows some (λ other among. within other (contains_more row some other among)))

pub opened_roomy : (limits : Limits) (opening : Opening) → length opening.rows ≤ limits.rows → IsRoomy limits (opened opening)
opened_roomy limits opening few =
    let alone : length (filter (is_alone opening.rows) (map (kept_at_opening opening) opening.rows)) ≡ 0 =
    ap (λ (ks : List KeptRow). length ks) (none_alone opening opening.rows opening.rows (λ row among. among)) in
    let held = none_held opening.rows in record {
      history = omega arith;
      nodes = omega arith;
      rows = omega (arith, few, alone);
      held = omega (arith, held);
      asked = omega arith;
      holds = omega arith;
      waiting = omega arith;
    }

-- a legal history has room for each entry, and its work comes in order
legal_parts : (limits : Limits) (point : Point) (history : List Entry) → IsEach (IsLegalEntry limits) point history →
    IsEach (HasRoom limits) point history × IsEach ComesInOrder point history
legal_parts limits point [] legal = (tt, tt)
legal_parts limits point (entry ∷ history) legal =
    let rest = legal_parts limits (after point entry) history legal.1 in
    ((legal.0.room, rest.0), (legal.0.follows.order, rest.1))

pub legal_roomy : (limits : Limits) (opening : Opening) (history : List Entry) → length opening.rows ≤ limits.rows → IsLegal limits opening history →
    IsRoomy limits (point_of opening history)
legal_roomy limits opening history few legal =
    let parts = legal_parts limits (opened opening) history legal in
    history_roomy limits (opened opening) history (opened_roomy limits opening few) parts.0 parts.1
