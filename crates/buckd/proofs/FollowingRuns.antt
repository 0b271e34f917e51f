-- Each entry of a run's history follows, and its book is the book of the history.
use Rattle.mat_path.proofs.Elements.{all_push, contains_map}
use Rattle.mat_path.proofs.Bools.{and_false_right}
use Rattle.std.proofs.Common.{◌≡◌, ℕ, zero, suc, ◌+◌, ◌==◌, max, Bool, true, false, not, ◌&&◌, List, [], ◌∷◌, ◌++◌, length, count_by, Option, Some, None, cond, refl, sym, ap, ap₂, subst, ◌∙◌, Contains, find, filter, arith}
use Rattle.std.specs.List.{list_any, list_all}
use Rattle.std.specs.Option.{option_map_or}
use Rattle.std.proofs.lemmas.Bool.{and_from, and_parts, eq-eqb}
use Rattle.mat_digest.specs.Digests.{digest_of}
use Rattle.mat_digest.specs.declared.digest.Digest.{Digest}
use Rattle.mat_tree.specs.declared.flat.Flat.{Flat}
use Rattle.fetch_port.specs.Fetches.{Blobs}
use Rattle.write_plan.specs.declared.act.Act.{Act}
use Rattle.write_plan.specs.declared.act.Act.TheVariants as act
use Rattle.write_plan.specs.declared.act.Supply.{Supply}
use Rattle.write_plan.specs.declared.act.Supply.TheVariants as supply
use Rattle.mat_tree.specs.Trees.{file_sum, file_tree, same_digest}
use Rattle.mat_model.specs.declared.answers.Recorded.TheVariants as recorded
use Rattle.mat_model.specs.declared.answers.Reply.{Reply}
use Rattle.mat_model.specs.declared.answers.Reply.TheVariants as reply
use Rattle.mat_model.specs.declared.book.Book.{Book}
use Rattle.mat_model.specs.declared.book.Row.{Row}
use Rattle.mat_model.specs.declared.entries.Entry.{Entry}
use Rattle.mat_model.specs.declared.entries.Event.{Event}
use Rattle.mat_model.specs.declared.entries.Event.TheVariants as event
use Rattle.mat_model.specs.declared.entries.Outcome.{Outcome}
use Rattle.mat_model.specs.declared.entries.Outcome.TheVariants as outcome
use Rattle.mat_model.specs.declared.entries.Task.{Task}
use Rattle.mat_model.specs.declared.entries.Task.TheVariants as task
use Rattle.mat_model.specs.declared.requests.Asked.{Asked}
use Rattle.mat_model.specs.declared.requests.Asked.TheVariants as asked
use Rattle.mat_model.specs.declared.requests.Request.{Request}
use Rattle.mat_model.specs.declared.requests.Request.TheVariants as request
use Rattle.mat_model.specs.Declarations.{declare, declare_tree, new_row}
use Rattle.mat_model.specs.Gate.{Passed, Served, gate_of, is_live, pass}
use Rattle.mat_model.specs.History.{Point as ModelPoint, answer, answer_done, opened, point_of, recorded_as, stepped}
use Rattle.mat_model.specs.Legal.{Follows, IsInOrder, is_of, may_end, may_end_by}
use Rattle.mat_model.specs.Requests.{at_moment, ensure_row, passed, preempted, serve}
use Rattle.mat_model.specs.Rows.{are_apart, cover, overlaps_row, put_row, used, used_row}
use Rattle.mat_model.specs.Tickets.{is_open}
use Rattle.mat_model.specs.Work.{end_make, finish, is_declared}
use Rattle.mat_model.specs.WorkState.{Debris, Job, Lent, Way, WayOf, WorkState, add_debris, copied, ended, first_task, has_stamp, held, is_job, is_not_below, is_other_job, is_way_of, leaves_debris, lent_by, lent_for, made_work, removed_rows, returned, store, way_declared, way_of, way_within, ways_after, writes_lying}
use Rattle.model_laws.proofs.Clear.{declare_clear}
use Rattle.model_laws.proofs.Idle.{has_one, idle_first, no_wipe, none_removed}
use Rattle.model_laws.proofs.ApartLemmas.{history_apart}
use Rattle.model_laws.proofs.Changes.{used-stamp}
use Rattle.model_laws.proofs.PutRows.{contains_put}
use Rattle.model_laws.proofs.LegalLemmas.{KeepsClock, after_all-push, count_by-all, each-push, finish-clock, history-all, serve-clock}
use Rattle.model_laws.proofs.Makes.{first_make_found}
use Rattle.script_lang.specs.declared.items.Item.{Item}
use Rattle.script_lang.specs.declared.items.Item.TheVariants as item
use Rattle.script_lang.specs.declared.items.Line.{Line}
use Rattle.script_lang.specs.declared.items.Line.TheVariants as line
use Rattle.buckd.specs.Lines.{line_of}
use Rattle.buckd.specs.Following.{IsLawful, IsFollowingAt, is_own, is_own_way, new_daemon}
use Rattle.buckd.specs.Making.{act_failure, bytes_failure, fetch_failure, file_failure, given, or_made, outcome_of}
use Rattle.buckd.specs.Run.{Point, Scene, acts_of, ask, asked_of, begin, drain, end_job, entered, entry_at, idle, is_not_yet, made, made_if, make_first, makes, next, empty_context, start, tell, tell_asked, tell_item, tell_lines, told_not_yet, worked}

-- what the history of a run has led to
abbrev pub model : Point → ModelPoint
model point = point_of new_daemon point.history

-- the entry of an event that was served so
abbrev pub added : Event → Served → Point → Entry
added happened served point = entry_at (length point.history) happened served.reply

-- a run begins so
pub start-at : IsFollowingAt start.point
start-at = record {
  lawful = record { follows = tt; book = refl; own = refl; first = refl; now = refl };
  jobs = refl;
  debris = refl;
  ways = refl;
}

-- where an event leads that is served as the definitions say
led : (happened : Event) (served : Served) (point : Point) → answer (model point) 0 happened served.reply ≡ served →
    model (entered happened served point).point ≡ stepped (model point) (added happened served point) served
led happened served point is =
    after_all-push (opened new_daemon) point.history (added happened served point)
    ∙ ap (λ (s : Served). stepped (model point) (added happened served point) s) is

-- a run goes on lawfully by such an event, where it is in order
lawful-entered : (happened : Event) (served : Served) (point : Point) → IsLawful point → answer (model point) 0 happened served.reply ≡ served →
    IsInOrder (model point) 0 happened → KeepsClock point.book served.book → IsLawful (entered happened served point).point
lawful-entered happened served point lawful is order clock =
    let entry : Entry = added happened served point in
    let moment : served.book.now ≡ 0 = clock.now ∙ lawful.now in
    let rule : Follows (model point) entry = record {
      reply = sym (ap (λ (s : Served). s.reply) is);
      moment = sym (ap (λ (s : Served). s.book.now) is ∙ moment);
      number = count_by-all (is_of 0) point.history lawful.own
          ∙ ap (λ (es : List Entry). count_by (is_of 0) es) (sym (history-all (opened new_daemon) point.history));
      order = order;
    } in
    record {
      follows = each-push Follows (opened new_daemon) point.history entry lawful.follows rule;
      book = sym (ap (λ (p : ModelPoint). p.book) (led happened served point is));
      own = all_push (is_of 0) point.history entry lawful.own refl;
      first = clock.first ∙ lawful.first;
      now = moment;
    }

-- the model counts as the run does
number_is : (point : Point) → IsLawful point → (model point).book.first + length (model point).history ≡ next point
number_is point lawful =
    ap₂ (λ (n : ℕ) (es : List Entry). n + length es) (sym (ap (λ (b : Book). b.first) lawful.book))
    (history-all (opened new_daemon) point.history)

-- a request that is served is answered by the model as the run says
asked-is : (asked : Request) (point : Point) (said : Reply) → IsLawful point → is_not_yet asked point.book ≡ false →
    answer (model point) 0 (event.Asked (asked_of asked)) said ≡ serve (next point) 0 empty_context (asked_of asked) point.book
asked-is (request.Enter command state soft refuse) point said lawful now =
    ap₂ (λ (n : ℕ) (b : Book). serve n 0 empty_context (asked.Enter command state soft refuse) b) (number_is point lawful) (sym lawful.book)
asked-is (request.Write command path bytes) point said lawful now =
    ap₂ (λ (n : ℕ) (b : Book). serve n 0 empty_context (asked.Write command path (file_sum (digest_of bytes) false)) b)
    (number_is point lawful) (sym lawful.book)
asked-is (request.Ensure command path) point said lawful now =
    ap₂ (λ (n : ℕ) (b : Book). serve n 0 empty_context (asked.Ensure command path) b) (number_is point lawful) (sym lawful.book)
asked-is (request.Leave command) point said lawful now = absurd cc
asked-is (request.Declare command path tree) point said lawful now =
    ap₂ (λ (n : ℕ) (b : Book). serve n 0 empty_context (asked.Declare command path tree) b) (number_is point lawful) (sym lawful.book)
asked-is (request.Copy command path source) point said lawful now = absurd cc
asked-is (request.Matches command path sum) point said lawful now = absurd cc
asked-is (request.Has command path) point said lawful now = absurd cc
asked-is (request.Invalidate command path) point said lawful now = absurd cc
asked-is (request.Clean cutoff mode) point said lawful now = absurd cc
asked-is request.Flush point said lawful now = absurd cc

-- ---- what a request leaves of the rows

-- each row still has its stamp
abbrev HasAll : List Row → List Row → Type 0
HasAll rows left = (row : Row) → Contains rows row → list_any (has_stamp row.stamp) left ≡ true

all-same : (rows : List Row) → HasAll rows rows
all-same rows = λ row among. has_one rows row row among refl

all-used : (path : List (List ℕ)) (moment : ℕ) (rows : List Row) → HasAll rows (used path moment rows)
all-used path moment rows = λ row among.
    has_one (used path moment rows) row (used_row path moment row) (contains_map (used_row path moment) rows row among) (used-stamp path moment row)

all-put : (new : Row) (rows : List Row) → HasAll rows (put_row new rows)
all-put new rows = λ row among. has_one (put_row new rows) row row (contains_put new rows row among) refl

all-either : (rows : List Row) (b : Bool) (first second : Served) → HasAll rows first.book.rows → HasAll rows second.book.rows →
    HasAll rows (cond b first second).book.rows
all-either rows true first second one other = one
all-either rows false first second one other = other

-- a command that comes leaves the rows as they are
all-passed : (number command : ℕ) (through : Passed) (book : Book) → HasAll book.rows (passed number command through book).book.rows
all-passed number command through book =
    elim through.took as (λ b. HasAll book.rows (cond {A = Book} b (preempted number command book.live book) book).rows)
    [ true ↦ all-same book.rows | false ↦ all-same book.rows ]

-- a declaration that is served adds its row
all-declared : (number command : ℕ) (path : List (List ℕ)) (tree : List Flat) (book : Book) →
    (is_live command book && list_any (overlaps_row path) book.rows) ≡ false →
    HasAll book.rows (declare_tree number command path tree (at_moment 0 book)).book.rows
all-declared number command path tree book now =
    elim (is_live command (at_moment 0 book)) as
    (λ b. is_live command (at_moment 0 book) ≡ b →
    HasAll book.rows (cond b (declare number command path tree (at_moment 0 book)) (record { reply = reply.NotLive; book = at_moment 0 book })).book.rows) [
      | true ↦ λ live.
          subst (λ (s : Served). HasAll book.rows s.book.rows)
          (sym (declare_clear number command path tree (at_moment 0 book)
          (and_false_right (is_live command book) (list_any (overlaps_row path) book.rows) now live)))
          (all-put (new_row number (at_moment 0 book).now path tree) book.rows)
      | false ↦ λ dead. all-same book.rows
    ] refl

all-served : (asked : Request) (number : ℕ) (book : Book) → is_not_yet asked book ≡ false →
    HasAll book.rows (serve number 0 empty_context (asked_of asked) book).book.rows
all-served (request.Enter command state soft refuse) number book now =
    all-passed number command (pass command state soft refuse (gate_of (at_moment 0 book))) (at_moment 0 book)
all-served (request.Write command path bytes) number book now = all-declared number command path (file_tree (digest_of bytes) false) book now
all-served (request.Declare command path tree) number book now = all-declared number command path tree book now
all-served (request.Ensure command path) number book now =
    all-either book.rows (is_live command (at_moment 0 book)) _ _
    (elim (cover book.rows path) as (λ o. HasAll book.rows (ensure_row number command path (at_moment 0 book) o).book.rows) [
      | None ↦ all-same book.rows
      | Some row ↦ all-either book.rows row.stands _ _ (all-used row.path (at_moment 0 book).now book.rows) (all-used row.path (at_moment 0 book).now book.rows)
    ])
    (all-same book.rows)
all-served (request.Leave command) number book now = absurd cc
all-served (request.Copy command path source) number book now = absurd cc
all-served (request.Matches command path sum) number book now = absurd cc
all-served (request.Has command path) number book now = absurd cc
all-served (request.Invalidate command path) number book now = absurd cc
all-served (request.Clean cutoff mode) number book now = absurd cc
all-served request.Flush number book now = absurd cc

-- ---- the work state

-- rows that were not copied read no other row's part
own_way : (stamp : ℕ) (rows : List Row) (ways : List WayOf) → list_all is_own_way ways ≡ true → lent_by (way_of stamp ways) rows ≡ None
own_way stamp rows [] own = refl
own_way stamp rows (entry ∷ ways) own =
    let parts = and_parts (is_own_way entry) (list_all is_own_way ways) own in
    elim (is_way_of stamp entry) as
    (λ b. lent_by (option_map_or way_within (cond b (Some entry) (find (is_way_of stamp) ways)) store) rows ≡ None) [
      | true ↦ alone entry.way parts.0
      | false ↦ own_way stamp rows ways parts.1
    ]
  where
    alone : (way : Way) → is_own way ≡ true → lent_by way rows ≡ None
    alone held own = refl
    alone store own = refl
    alone (copied source rest from holds) own = absurd cc

-- ways stay so
own_after : (request : Asked) (said : Reply) (rows : List Row) (ways : List WayOf) → is_own (way_declared request rows ways) ≡ true →
    list_all is_own_way ways ≡ true → list_all is_own_way (ways_after request said rows ways) ≡ true
own_after request (reply.Declared stamp) rows ways declares own =
    and_from (is_own (way_declared request rows ways)) (list_all is_own_way ways) declares own
own_after request (reply.Kept stamp) rows ways declares own =
    elim (writes_lying request rows) as (λ b. list_all is_own_way (cond b (record { stamp = stamp; way = held } ∷ ways) ways) ≡ true)
    [ true ↦ own | false ↦ own ]
own_after request _ rows ways declares own = own

-- no debris comes of a request that leaves each row its stamp
clean_debris : (by_clean : Bool) (work : WorkState) (rows left : List Row) → HasAll rows left →
    add_debris by_clean (filter (leaves_debris work) (removed_rows rows left)) work.debris ≡ work.debris
clean_debris by_clean work rows left has =
    ap (λ (gone : List Row). add_debris by_clean (filter (leaves_debris work) gone) work.debris) (none_removed rows left has)

-- a request that is served follows
pub ask-at : (wanted : Request) (point : Point) → IsFollowingAt point → is_not_yet wanted point.book ≡ false →
    IsFollowingAt (ask (asked_of wanted) point).point
ask-at wanted point at now =
    let served : Served = serve (next point) 0 empty_context (asked_of wanted) point.book in
    let is : answer (model point) 0 (event.Asked (asked_of wanted)) served.reply ≡ served = asked-is wanted point served.reply at.lawful now in
    let leads = led (event.Asked (asked_of wanted)) served point is in
    let clock = serve-clock (next point) 0 empty_context (asked_of wanted) point.book in
    let lawful = lawful-entered (event.Asked (asked_of wanted)) served point at.lawful is tt
    (record { first = clock.first; now = clock.now ∙ latest point.book.now }) in
    let has : HasAll (model point).book.rows served.book.rows =
    subst (λ (b : Book). HasAll b.rows served.book.rows) at.lawful.book (all-served wanted (next point) point.book now) in
    works wanted now served leads lawful has
  where
    latest : (n : ℕ) → max n 0 ≡ n
    latest n = omega arith

    kept : (request : Asked) (served : Served) → (let p : Point = (entered (event.Asked request) served point).point in
        model p ≡ stepped (model point) (added (event.Asked request) served point) served) →
        IsLawful (entered (event.Asked request) served point).point →
        (stepped (model point) (added (event.Asked request) served point) served).work.jobs ≡ (model point).work.jobs →
        (stepped (model point) (added (event.Asked request) served point) served).work.debris ≡ (model point).work.debris →
        list_all is_own_way (stepped (model point) (added (event.Asked request) served point) served).work.ways ≡ true →
        IsFollowingAt (entered (event.Asked request) served point).point
    kept request served leads lawful jobs debris ways = record {
      lawful = lawful;
      jobs = ap (λ (p : ModelPoint). p.work.jobs) leads ∙ jobs ∙ at.jobs;
      debris = ap (λ (p : ModelPoint). p.work.debris) leads ∙ debris ∙ at.debris;
      ways = ap (λ (p : ModelPoint). list_all is_own_way p.work.ways) leads ∙ ways;
    }

    works : (wanted : Request) → is_not_yet wanted point.book ≡ false → (served : Served) →
        (let p : Point = (entered (event.Asked (asked_of wanted)) served point).point in
        model p ≡ stepped (model point) (added (event.Asked (asked_of wanted)) served point) served) →
        IsLawful (entered (event.Asked (asked_of wanted)) served point).point →
        HasAll (model point).book.rows served.book.rows → IsFollowingAt (entered (event.Asked (asked_of wanted)) served point).point
    works (request.Enter command state soft refuse) now served leads lawful has =
        kept (asked.Enter command state soft refuse) served leads lawful refl (clean_debris _ (model point).work (model point).book.rows served.book.rows has)
        (own_after (asked.Enter command state soft refuse) served.reply (model point).book.rows (model point).work.ways refl at.ways)
    works (request.Write command path bytes) now served leads lawful has =
        kept (asked.Write command path (file_sum (digest_of bytes) false)) served leads lawful refl
        (clean_debris _ (model point).work (model point).book.rows served.book.rows has)
        (own_after (asked.Write command path (file_sum (digest_of bytes) false)) served.reply (model point).book.rows (model point).work.ways refl at.ways)
    works (request.Ensure command path) now served leads lawful has =
        kept (asked.Ensure command path) served leads lawful refl (clean_debris _ (model point).work (model point).book.rows served.book.rows has)
        (own_after (asked.Ensure command path) served.reply (model point).book.rows (model point).work.ways refl at.ways)
    works (request.Leave command) now served leads lawful has = absurd cc
    works (request.Declare command path tree) now served leads lawful has =
        kept (asked.Declare command path tree) served leads lawful refl
        (clean_debris _ (model point).work (model point).book.rows served.book.rows has)
        (own_after (asked.Declare command path tree) served.reply (model point).book.rows (model point).work.ways refl at.ways)
    works (request.Copy command path source) now served leads lawful has = absurd cc
    works (request.Matches command path sum) now served leads lawful has = absurd cc
    works (request.Has command path) now served leads lawful has = absurd cc
    works (request.Invalidate command path) now served leads lawful has = absurd cc
    works (request.Clean cutoff mode) now served leads lawful has = absurd cc
    works request.Flush now served leads lawful has = absurd cc

-- ---- makes

-- the job of a make that began at a point
abbrev make_job : Point → List (List ℕ) → ℕ → Job
make_job point path stamp = record {
  number = (model point).book.first + length (model point).history;
  caller = 0;
  task = task.Make path stamp;
  lent = lent_for (task.Make path stamp) (model point).book.rows (model point).work.ways;
}

-- a make ends recorded as nothing
nothing_recorded : (number : ℕ) (path : List (List ℕ)) (ends : Outcome) (book : Book) (o : Option Row) →
    recorded_as (end_make number path ends recorded.Nothing book o).reply ≡ recorded.Nothing
nothing_recorded number path ends book None = refl
nothing_recorded number path ends book (Some row) = refl

-- the end of a make leaves the jobs, the debris and the ways
record IsSameWork (work other : WorkState) : Type 0 where
  jobs : other.jobs ≡ work.jobs
  debris : other.debris ≡ work.debris
  ways : other.ways ≡ work.ways

made_same : (path : List (List ℕ)) (ends : Outcome) (work : WorkState) → IsSameWork work (made_work path ends (reply.Fresh recorded.Nothing) work)
made_same path outcome.Made work = record { jobs = refl; debris = refl; ways = refl }
made_same path outcome.Wiped work = record { jobs = refl; debris = refl; ways = refl }
made_same path (outcome.Missing digest) work = record { jobs = refl; debris = refl; ways = refl }
made_same path (outcome.Corrupt wanted found) work = record { jobs = refl; debris = refl; ways = refl }
made_same path (outcome.Fault note) work = record { jobs = refl; debris = refl; ways = refl }
made_same path outcome.NoMemory work = record { jobs = refl; debris = refl; ways = refl }

-- the make that comes first follows, however a make may end
worked-at : (path : List (List ℕ)) (stamp : ℕ) (ends : Outcome) (point : Point) → IsFollowingAt point → are_apart point.book.rows ≡ true →
    first_task idle point.book ≡ Some (task.Make path stamp) → may_end (task.Make path stamp) ends ≡ true →
    IsFollowingAt (worked (task.Make path stamp) ends point)
worked-at path stamp ends point at apart is may =
    let make : Task = task.Make path stamp in
    let first_served : Served = record { reply = reply.Started; book = point.book } in
    let begins : answer (model point) 0 (event.Begin make) reply.Started ≡ first_served =
    ap (λ (b : Book). let s : Served = record { reply = reply.Started; book = b } in s) (sym at.lawful.book) in
    let order : first_task (model point).work (model point).book ≡ Some make =
    idle_first (model point).work (model point).book at.jobs at.debris ∙ ap (λ (b : Book). first_task idle b) (sym at.lawful.book) ∙ is in
    let one : Point = (begin make point).point in
    let begun : IsLawful one = lawful-entered (event.Begin make) first_served point at.lawful begins order (record { first = refl; now = refl }) in
    let led_one : model one ≡ stepped (model point) (added (event.Begin make) first_served point) first_served =
    led (event.Begin make) first_served point begins in
    let job : Job = make_job point path stamp in
    let jobs_one : (model one).work.jobs ≡ job ∷ [] =
    ap (λ (p : ModelPoint). p.work.jobs) led_one ∙ ap (λ (js : List Job). js ++ job ∷ []) at.jobs in
    let debris_one : (model one).work.debris ≡ [] =
    ap (λ (p : ModelPoint). p.work.debris) led_one
    ∙ ap (λ (ds : List Debris). filter (is_not_below path) ds) at.debris in
    let ways_one : list_all is_own_way (model one).work.ways ≡ true =
    ap (λ (p : ModelPoint). list_all is_own_way p.work.ways) led_one ∙ at.ways in
    let mine : (job.number == next point) ≡ true = ap (λ (n : ℕ). n == next point) (number_is point at.lawful) ∙ eq-eqb (next point) (next point) refl in
    let runs : find (is_job (next point)) (model one).work.jobs ≡ Some job =
    ap (λ (js : List Job). find (is_job (next point)) js) jobs_one ∙ ap (λ (b : Bool). cond b (Some job) None) mine in
    let served : Served = finish (next one) make ends recorded.Nothing one.book in
    let same_ends : finish ((model one).book.first + length (model one).history) make ends (recorded_as served.reply) (model one).book ≡ served =
    ap (λ how. finish ((model one).book.first + length (model one).history) make ends how (model one).book)
    (nothing_recorded (next one) path ends one.book (find (is_declared path stamp) one.book.rows))
    ∙ ap₂ (λ (n : ℕ) (b : Book). finish n make ends recorded.Nothing b) (number_is one begun) (sym begun.book) in
    let done : answer (model one) 0 (event.Done (next point) ends) served.reply ≡ served =
    ap (λ (o : Option Job). answer_done (model one) ends served.reply o) runs ∙ same_ends in
    let two : Point = (end_job (next point) make ends one).point in
    let lawful : IsLawful two = lawful-entered (event.Done (next point) ends) served one begun done (ap (λ (o : Option Job). may_end_by o 0 ends) runs ∙ may)
    (finish-clock (next one) make ends recorded.Nothing one.book) in
    let led_two = led (event.Done (next point) ends) served one done in
    let found = first_make_found idle point.book.rows point.book.tickets path stamp apart is in
    let fresh : served.reply ≡ reply.Fresh recorded.Nothing =
    ap (λ (o : Option Row). (end_make (next one) path ends recorded.Nothing one.book o).reply) found.2 in
    let after_all : WorkState = ended (next point) ends served.reply served.book.rows (model one).work
    (find (is_job (next point)) (model one).work.jobs) in
    let left : WorkState = record ((model one).work) { jobs = filter (is_other_job (next point)) (model one).work.jobs } in
    let work_two : after_all ≡ made_work path ends (reply.Fresh recorded.Nothing) left =
    ap (λ (o : Option Job). ended (next point) ends served.reply served.book.rows (model one).work o) runs
    ∙ ap (λ (o : Option Lent). returned o served.book.rows (made_work path ends served.reply left))
    (own_way stamp (model point).book.rows (model point).work.ways at.ways)
    ∙ ap (λ (r : Reply). made_work path ends r left) fresh in
    let same : IsSameWork left (made_work path ends (reply.Fresh recorded.Nothing) left) = made_same path ends left in
    record {
      lawful = lawful;
      jobs = ap (λ (p : ModelPoint). p.work.jobs) led_two ∙ ap (λ (y : WorkState). y.jobs) work_two ∙ same.jobs
          ∙ ap (λ (js : List Job). filter (is_other_job (next point)) js) jobs_one
          ∙ ap (λ (b : Bool). cond (not b) (job ∷ []) []) mine;
      debris = ap (λ (p : ModelPoint). p.work.debris) led_two ∙ ap (λ (y : WorkState). y.debris) work_two ∙ same.debris ∙ debris_one;
      ways = ap (λ (p : ModelPoint). list_all is_own_way p.work.ways) led_two ∙ ap (λ (y : WorkState). list_all is_own_way y.ways) work_two
          ∙ ap (λ (ws : List WayOf). list_all is_own_way ws) same.ways ∙ ways_one;
    }

-- ---- how a make ends

-- whether a make may end so, if it ends
abbrev may_fail_so : Option Outcome → Bool
may_fail_so None = true
may_fail_so (Some ends) = may_end (task.Make [] 0) ends

bytes_may : (wanted : Digest) (bytes : List ℕ) → may_fail_so (bytes_failure wanted bytes) ≡ true
bytes_may wanted bytes =
    elim (same_digest (digest_of bytes) wanted) as
    (λ b. may_fail_so (cond b None (Some (outcome.Corrupt wanted (digest_of bytes)))) ≡ true) [ true ↦ refl | false ↦ refl ]

fetch_may : (wanted : Digest) (found : Option (List ℕ)) → may_fail_so (fetch_failure wanted found) ≡ true
fetch_may wanted None = refl
fetch_may wanted (Some bytes) = bytes_may wanted bytes

file_may : (blobs : Blobs) (digest : Digest) (from : Supply) → may_fail_so (file_failure blobs digest from) ≡ true
file_may blobs digest supply.Empty = refl
file_may blobs digest supply.Held = refl
file_may blobs digest supply.Store = fetch_may digest (given blobs digest)
file_may blobs digest (supply.Loan rel) = refl

act_may : (blobs : Blobs) (one : Act) → may_fail_so (act_failure blobs one) ≡ true
act_may blobs act.Wipe = refl
act_may blobs (act.Dir rel) = refl
act_may blobs (act.Link rel target) = refl
act_may blobs (act.File rel digest exec from) = file_may blobs digest from
act_may blobs act.Sync = refl

-- a make doesn't end wiped
pub outcome_may : (path : List (List ℕ)) (stamp : ℕ) (blobs : Blobs) (acts : List Act) → may_end (task.Make path stamp) (outcome_of blobs acts) ≡ true
outcome_may path stamp blobs [] = refl
outcome_may path stamp blobs (one ∷ acts) =
    elim (act_failure blobs one) as
    (λ o. may_fail_so o ≡ true → may_end (task.Make path stamp) (or_made o (outcome_of blobs acts)) ≡ true) [
      | None ↦ λ may. outcome_may path stamp blobs acts
      | Some ends ↦ λ may. any_make ends may
    ] (act_may blobs one)
  where
    any_make : (ends : Outcome) → may_end (task.Make [] 0) ends ≡ true → may_end (task.Make path stamp) ends ≡ true
    any_make outcome.Made may = refl
    any_make outcome.Wiped may = absurd cc
    any_make (outcome.Missing digest) may = refl
    any_make (outcome.Corrupt wanted found) may = refl
    any_make (outcome.Fault note) may = refl
    any_make outcome.NoMemory may = refl

-- the rows of a lawful run are apart
lawful_apart : (point : Point) → IsLawful point → are_apart point.book.rows ≡ true
lawful_apart point lawful =
    ap (λ (b : Book). are_apart b.rows) lawful.book ∙ history_apart (opened new_daemon) point.history refl

-- what comes first where no job runs and nothing is debris follows
task-at : (wanted : Task) (scene : Scene) → IsFollowingAt scene.point → first_task idle scene.point.book ≡ Some wanted → IsFollowingAt (made wanted scene).point
task-at (task.Make path stamp) scene at is =
    let acts : List Act = acts_of (task.Make path stamp) scene.point in
    worked-at path stamp (outcome_of scene.blobs acts) scene.point at (lawful_apart scene.point at.lawful) is (outcome_may path stamp scene.blobs acts)
task-at (task.Wipe path) scene at is = absurd (no_wipe idle scene.point.book.rows scene.point.book.tickets path is)

-- and by the first make, if there is one
pub make_first-at : (scene : Scene) → IsFollowingAt scene.point → IsFollowingAt (make_first scene).point
make_first-at scene at =
    elim (first_task idle scene.point.book) as
    (λ o. first_task idle scene.point.book ≡ o → IsFollowingAt (made_if scene o).point) [
      | None ↦ λ is. at
      | Some wanted ↦ λ is. task-at wanted scene at is
    ] refl

pub makes-at : (count : ℕ) (scene : Scene) → IsFollowingAt scene.point → IsFollowingAt (makes count scene).point
makes-at zero scene at = at
makes-at (suc count) scene at = makes-at count (make_first scene) (make_first-at scene at)

pub drain-at : (scene : Scene) → IsFollowingAt scene.point → IsFollowingAt (drain scene).point
drain-at scene at = makes-at (count_by is_open scene.point.book.tickets) scene at

-- and by an item
pub tell_item-at : (it : Item) (scene : Scene) → IsFollowingAt scene.point → IsFollowingAt (tell_item it scene).scene.point
tell_item-at (item.Request asked) scene at =
    elim (is_not_yet asked scene.point.book) as
    (λ b. is_not_yet asked scene.point.book ≡ b → IsFollowingAt (cond b (told_not_yet scene) (tell_asked (asked_of asked) scene)).scene.point) [
      | true ↦ λ later. at
      | false ↦ λ now. ask-at asked scene.point at now
    ] refl
tell_item-at item.Drain scene at = drain-at scene at
tell_item-at (item.Show path) scene at = at
tell_item-at (item.Blob bytes) scene at = at
tell_item-at (item.Lie digest bytes) scene at = at
tell_item-at (item.At moment) scene at = at
tell_item-at (item.Step worker) scene at = at
tell_item-at item.Asks scene at = at
tell_item-at (item.Fail device k) scene at = at
tell_item-at (item.Stop k pick) scene at = at
tell_item-at item.Restart scene at = at

-- and by a line
pub tell-at : (read : Line) (scene : Scene) → IsFollowingAt scene.point → IsFollowingAt (tell read scene).scene.point
tell-at line.Skip scene at = at
tell-at line.End scene at = at
tell-at line.Unread scene at = at
tell-at (line.Item it) scene at = tell_item-at it scene at
tell-at line.NoMemory scene at = at

-- and by some lines
pub tell_lines-at : (lines : List (List ℕ)) (scene : Scene) → IsFollowingAt scene.point → IsFollowingAt (tell_lines lines scene).scene.point
tell_lines-at [] scene at = at
tell_lines-at (text ∷ texts) scene at =
    tell_lines-at texts (tell (line_of text) scene).scene (tell-at (line_of text) scene at)
