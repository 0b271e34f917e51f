-- The kept rows keep their rules: after each entry whose work comes in order, after a history, and from an opening that is right.
use Rattle.std.proofs.Common.{◌≡◌, ℕ, ◌==◌, Bool, true, false, ◌&&◌, ◌⊎◌, inl, inr, List, [], ◌∷◌, Option, Some, None, cond, refl, sym, ap, subst, ◌∙◌, map, find, Contains, arith}
use Rattle.std.specs.List.{filter, list_any}
use Rattle.std.proofs.lemmas.Bool.{and_parts}
use Rattle.mat_path.specs.Covering.{covering}
use Rattle.mat_path.specs.Names.{overlap}
use Rattle.mat_path.proofs.CoveringLemmas.{covering-append}
use Rattle.mat_path.proofs.Elements.{filtered_contains, mapped_contains}
use Rattle.mat_path.proofs.SameNames.{same_names-eq}
use Rattle.mat_model.specs.declared.answers.FaultNote.{FaultNote}
use Rattle.mat_model.specs.declared.answers.Recorded.{Recorded}
use Rattle.mat_model.specs.declared.answers.Recorded.TheVariants as recorded
use Rattle.mat_model.specs.declared.answers.Reply.{Reply}
use Rattle.mat_model.specs.declared.answers.Reply.TheVariants as reply
use Rattle.mat_model.specs.declared.book.Book.{Book}
use Rattle.mat_model.specs.declared.book.Row.{Row}
use Rattle.mat_model.specs.declared.entries.Entry.{Entry}
use Rattle.mat_model.specs.declared.entries.Event.{Event}
use Rattle.mat_model.specs.declared.entries.Event.TheVariants as event
use Rattle.mat_model.specs.declared.entries.Outcome.{Outcome}
use Rattle.mat_model.specs.declared.entries.Outcome.TheVariants as outcome
use Rattle.mat_model.specs.declared.entries.Task.{Task}
use Rattle.mat_model.specs.declared.entries.Task.TheVariants as task
use Rattle.mat_model.specs.declared.opening.Opening.{Opening}
use Rattle.mat_model.specs.declared.requests.Asked.{Asked}
use Rattle.mat_model.specs.Cleaning.{gone_row, stale}
use Rattle.mat_model.specs.Gate.{Served}
use Rattle.mat_model.specs.History.{Point, after, after_all, answer, answer_done, begin_with, is_keeper, kept_after, kept_ended, next_number, opened, point_of, book_of, recorded_as, refusal_note, request_context, work_after}
use Rattle.mat_model.specs.Kept.{KeptRow, is_due, is_kept_clear, is_unlisted, kept_asked, kept_done, overlaps_kept, store_rows}
use Rattle.mat_model.specs.Legal.{ComesInOrder, IsEach, IsInOrder}
use Rattle.mat_model.specs.Openings.{IsOpening, kept_at_opening, path_of_row}
use Rattle.mat_model.specs.Requests.{at_moment}
use Rattle.mat_model.specs.Rows.{are_apart, is_at_path, standing_row}
use Rattle.mat_model.specs.Work.{end_make, finish, is_declared}
use Rattle.mat_model.specs.WorkState.{Job, WorkState, cleans_all, condemned_all, ended, first_task, is_cleaning, is_job, is_other_job, path_of_task, refused, returned, running, started, way_of}
use Rattle.model_laws.specs.Laws.{declares}
use Rattle.model_laws.specs.KeptRules.{path_of_kept}
use Rattle.model_laws.specs.StoredRules.{IsStored}
use Rattle.model_laws.specs.WorkRules.{IsWork}
use Rattle.model_laws.proofs.Apart.{apart-map}
use Rattle.model_laws.proofs.BooksRows.{apart_same}
use Rattle.model_laws.proofs.Changes.{standing-path}
use Rattle.model_laws.proofs.Coverings.{covering_rows-apart}
use Rattle.model_laws.proofs.FirstLemmas.{make_may_begin, wipe_may_begin}
use Rattle.model_laws.proofs.KeptLemmas.{opening_ascends}
use Rattle.model_laws.proofs.PlacedLemmas.{part_leaves, task_leaves}
use Rattle.model_laws.proofs.RowCases.{cleaned_served, either_served, event_served, flushed_served, invalid_served}
use Rattle.model_laws.proofs.StoredLemmas.{made_may, store_all, stored_begun, stored_dropped, stored_flushed, stored_made, stored_no_task, stored_steps}
use Rattle.model_laws.proofs.WorkBegins.{may_lend}
use Rattle.model_laws.proofs.WorkKept.{asked_steps, entry_work, opening_work}
use Rattle.model_laws.proofs.Elements.{found_contains}

-- ---- a request

-- what a request leaves of the kept rows: some of them, or these and the rows that are due, where the rows are what they were
abbrev StoresAs : Point → Asked → Served → Type 0
StoresAs point request served =
    ((test : KeptRow → Bool) × (kept_asked request served.reply served.book.rows point.kept ≡ filter test point.kept))
    ⊎ ((served.book.rows ≡ point.book.rows)
    × (kept_asked request served.reply served.book.rows point.kept ≡ store_rows (filter (is_due point.kept) point.book.rows) point.kept))

-- all that is kept passes a test that all do
all_kept : (kept : List KeptRow) → filter (λ (k : KeptRow). true) kept ≡ kept
all_kept [] = refl
all_kept (row ∷ kept) = ap (λ (ks : List KeptRow). row ∷ ks) (all_kept kept)

asked_stores : (point : Point) (moment : ℕ) (request : Asked) (said : Reply) → StoresAs point request (answer point moment (event.Asked request) said)
asked_stores point moment request said =
    let now : Book = at_moment moment point.book in
    event_served (StoresAs point request) point moment request said (record {
      same = λ served is quiet. inl ((λ k. true), quiet.kept point.kept ∙ sym (all_kept point.kept));
      uses = λ served path is quiet. inl ((λ k. true), quiet.kept point.kept ∙ sym (all_kept point.kept));
      puts = λ command path tree is has placed quiet. inl ((λ k. true), quiet.kept point.kept ∙ sym (all_kept point.kept));
      invalid = λ command path is.
          subst (λ (r : Asked). StoresAs point r (invalid_served (next_number point) path now)) (sym is) (inl (is_kept_clear path, refl));
      cleans = λ cutoff mode strays is.
          subst (λ (r : Asked). StoresAs point r (cleaned_served (next_number point) cutoff strays now)) (sym is)
          (inl (is_unlisted (map gone_row (stale cutoff now)), refl));
      flushes = λ is. subst (λ (r : Asked). StoresAs point r (flushed_served (request_context point).due now)) (sym is) (inr (refl, refl));
    })

-- the rules of the kept rows after an event that was served
abbrev StoredBy : Point → ℕ → Event → Served → Type 0
StoredBy point caller what served = IsStored served.book.rows (work_after point caller what served).jobs (kept_after point what served)

asked_stored : (point : Point) (entry : Entry) (request : Asked) → IsWork (next_number point) point.book.rows point.work →
    IsStored point.book.rows point.work.jobs point.kept →
    StoredBy point entry.by.caller (event.Asked request) (answer point entry.now (event.Asked request) entry.reply)
asked_stored point entry request rules stored =
    subst (λ (js : List Job). IsStored served.book.rows js (kept_after point (event.Asked request) served)) (jobs (cleans_all request && is_cleaning served.reply))
    (elim (asked_stores point entry.now request entry.reply) [
      | inl (test, is) ↦
          subst (IsStored served.book.rows point.work.jobs) (sym is)
          (stored_steps (next_number point) (declares request) point.book.rows served.book.rows point.work.jobs point.kept test
          (asked_steps point asks request rules.apart refl) stored)
      | inr (same, is) ↦
          subst (IsStored served.book.rows point.work.jobs) (sym is)
          (subst (λ (rs : List Row). IsStored rs point.work.jobs (store_rows (filter (is_due point.kept) point.book.rows) point.kept)) (sym same)
          (stored_flushed (next_number point) point.book.rows point.work point.kept rules stored))
    ])
  where
    served : Served
    served = answer point entry.now (event.Asked request) entry.reply

    asks : Entry
    asks = record entry { event = event.Asked request }

    jobs : (b : Bool) → point.work.jobs ≡ (cond b (condemned_all point.work) point.work).jobs
    jobs true = refl
    jobs false = refl

-- ---- a begin

task_stored : (point : Point) (caller : ℕ) (begun : Task) → first_task point.work point.book ≡ Some begun → IsStored point.book.rows point.work.jobs point.kept →
    IsStored point.book.rows (started (next_number point) caller begun point.book.rows point.work).jobs (filter (is_kept_clear (path_of_task begun)) point.kept)
task_stored point caller (task.Make path stamp) first stored =
    let may = make_may_begin point.work point.book path stamp first in
    stored_begun point.book.rows point.work.jobs point.kept _ may.free (may_lend point.book.rows point.work.jobs (way_of stamp point.work.ways) may.source) stored
task_stored point caller (task.Wipe path) first stored =
    let may = wipe_may_begin point.work point.book path first in stored_begun point.book.rows point.work.jobs point.kept _ may.free tt stored

refused_stored : (point : Point) (begun : Task) → IsStored point.book.rows point.work.jobs point.kept → IsStored point.book.rows (refused begun point.work).jobs point.kept
refused_stored point (task.Make path stamp) stored = stored
refused_stored point (task.Wipe path) stored = stored

begin_stored : (point : Point) (caller : ℕ) (begun : Task) (o : Option FaultNote) → first_task point.work point.book ≡ Some begun →
    IsStored point.book.rows point.work.jobs point.kept → StoredBy point caller (event.Begin begun) (begin_with point begun o)
begin_stored point caller begun None first stored = task_stored point caller begun first stored
begin_stored point caller begun (Some note) first stored =
    either_served (StoredBy point caller (event.Begin begun)) (is_keeper note.device && list_any (overlaps_kept (path_of_task begun)) point.kept) _ _
    (λ failed. refused_stored point begun stored) (λ calm. task_stored point caller begun first stored)

-- ---- an end

-- a row at a path and under a stamp is at the path
declared_at : (path : List (List ℕ)) (stamp : ℕ) (row : Row) → is_declared path stamp row ≡ true → row.path ≡ path
declared_at path stamp row is = same_names-eq row.path path (and_parts (is_at_path path row) (row.stamp == stamp) is).0

make_stored : (point : Point) (number : ℕ) (job : Job) (path : List (List ℕ)) (stamp : ℕ) (out : Outcome) (how : Recorded) →
    IsWork (next_number point) point.book.rows point.work → IsStored point.book.rows point.work.jobs point.kept → running number point.work ≡ Some job →
    job.task ≡ task.Make path stamp → (o : Option Row) → find (is_declared path stamp) point.book.rows ≡ o →
    IsStored (end_make (next_number point) path out how point.book o).book.rows (filter (is_other_job number) point.work.jobs)
    (kept_done (task.Make path stamp) (end_make (next_number point) path out how point.book o).reply (end_make (next_number point) path out how point.book o).book.rows
    point.kept)
make_stored point number job path stamp out how rules stored runs is None found = stored_dropped point.book.rows point.work.jobs point.kept (is_other_job number) stored
make_stored point number job path stamp out how rules stored runs is (Some row) found = by how (left out)
  where
    others : List Job
    others = filter (is_other_job number) point.work.jobs

    dropped : IsStored point.book.rows others point.kept
    dropped = stored_dropped point.book.rows point.work.jobs point.kept (is_other_job number) stored

    clear : (one : KeptRow) → Contains point.kept one → overlap one.path path ≡ false
    clear one among =
        subst (λ (t : Task). overlap one.path (path_of_task t) ≡ false) is
        (stored_no_task point.book.rows point.work.jobs point.kept one job stored among (found_contains (is_job number) point.work.jobs job runs))

    -- the rules hold beside the rows that are left, which are apart
    Left : List Row → Type 0
    Left rows = (are_apart rows ≡ true) × IsStored rows others point.kept

    left : (end : Outcome) → Left (end_make (next_number point) path end how point.book (Some row)).book.rows
    left outcome.Made = (
      apart-map (standing_row path) (standing-path path) point.book.rows ∙ rules.apart,
      stored_made point.book.rows others point.kept path clear dropped,
    )
    left outcome.Wiped = (rules.apart, dropped)
    left (outcome.Missing digest) = (rules.apart, dropped)
    left (outcome.Corrupt wanted other) = (rules.apart, dropped)
    left (outcome.Fault note) = (rules.apart, dropped)
    left outcome.NoMemory = (rules.apart, dropped)

    by : {rows : List Row} (told : Recorded) → Left rows → IsStored rows others (kept_done (task.Make path stamp) (reply.Fresh told) rows point.kept)
    by {rows} recorded.Kept (apart, holds) =
        store_all rows others point.kept (filter (is_declared path stamp) rows) apart
        (λ one among.
        let (within, at) = filtered_contains (is_declared path stamp) rows one among in
        made_may (next_number point) point.book.rows rows point.work point.kept number job path stamp one rules stored runs is within (declared_at path stamp one at))
        holds
    by (recorded.NotKept note) (apart, holds) = holds
    by recorded.NoMemory (apart, holds) = holds
    by recorded.Nothing (apart, holds) = holds

finish_stored : (point : Point) (number : ℕ) (job : Job) (begun : Task) (out : Outcome) (how : Recorded) → IsWork (next_number point) point.book.rows point.work →
    IsStored point.book.rows point.work.jobs point.kept → running number point.work ≡ Some job → job.task ≡ begun →
    IsStored (finish (next_number point) begun out how point.book).book.rows (filter (is_other_job number) point.work.jobs)
    (kept_done begun (finish (next_number point) begun out how point.book).reply (finish (next_number point) begun out how point.book).book.rows point.kept)
finish_stored point number job (task.Make path stamp) out how rules stored runs is =
    make_stored point number job path stamp out how rules stored runs is (find (is_declared path stamp) point.book.rows) refl
finish_stored point number job (task.Wipe path) out how rules stored runs is = by out
  where
    dropped : IsStored point.book.rows (filter (is_other_job number) point.work.jobs) point.kept
    dropped = stored_dropped point.book.rows point.work.jobs point.kept (is_other_job number) stored

    by : (end : Outcome) →
        IsStored (finish (next_number point) (task.Wipe path) end how point.book).book.rows (filter (is_other_job number) point.work.jobs) point.kept
    by outcome.Made = dropped
    by outcome.Wiped = dropped
    by (outcome.Missing digest) = dropped
    by (outcome.Corrupt wanted other) = dropped
    by (outcome.Fault note) = dropped
    by outcome.NoMemory = dropped

done_stored : (point : Point) (number : ℕ) (out : Outcome) (said : Reply) (o : Option Job) → IsWork (next_number point) point.book.rows point.work →
    IsStored point.book.rows point.work.jobs point.kept → running number point.work ≡ o →
    IsStored (answer_done point out said o).book.rows
    (ended number out (answer_done point out said o).reply (answer_done point out said o).book.rows point.work o).jobs (kept_ended o (answer_done point out said o) point.kept)
done_stored point number out said None rules stored runs = stored
done_stored point number out said (Some job) rules stored runs =
    let others : WorkState = record point.work { jobs = filter (is_other_job number) point.work.jobs } in
    let served : Served = answer_done point out said (Some job) in
    task_leaves (λ (w : WorkState). IsStored served.book.rows (returned job.lent served.book.rows w).jobs (kept_done job.task served.reply served.book.rows point.kept))
    (next_number point) job.task out (recorded_as said) point.book others
    (λ dirty debris.
    part_leaves (λ (w : WorkState). IsStored served.book.rows w.jobs (kept_done job.task served.reply served.book.rows point.kept)) job.lent served.book.rows
    (record others { dirty = dirty; debris = debris })
    (finish_stored point number job job.task out (recorded_as said) rules stored runs refl)
    (λ more. finish_stored point number job job.task out (recorded_as said) rules stored runs refl))

-- ---- entries and histories

-- an entry keeps the rules of the kept rows
pub entry_stored : (point : Point) (entry : Entry) → ComesInOrder point entry → IsWork (next_number point) point.book.rows point.work →
    IsStored point.book.rows point.work.jobs point.kept → IsStored (after point entry).book.rows (after point entry).work.jobs (after point entry).kept
entry_stored point entry order rules stored = by entry.event order
  where
    by : (what : Event) → IsInOrder point entry.by.caller what → StoredBy point entry.by.caller what (answer point entry.now what entry.reply)
    by (event.Asked request) first = asked_stored point entry request rules stored
    by (event.Begin begun) first = begin_stored point entry.by.caller begun (refusal_note entry.reply) first stored
    by (event.Done number out) first = done_stored point number out entry.reply (running number point.work) rules stored refl

-- a history keeps them
pub history_stored : (point : Point) (later : List Entry) → IsEach ComesInOrder point later → IsWork (next_number point) point.book.rows point.work →
    IsStored point.book.rows point.work.jobs point.kept → IsStored (after_all point later).book.rows (after_all point later).work.jobs (after_all point later).kept
history_stored point [] orders rules stored = stored
history_stored point (entry ∷ later) orders rules stored =
    history_stored (after point entry) later orders.1 (entry_work point entry orders.0 rules) (entry_stored point entry orders.0 rules stored)

-- ---- openings

-- the rows of an opening are kept where they are
opening_paths : (opening : Opening) (rows : List Row) → map path_of_kept (map (kept_at_opening opening) rows) ≡ map path_of_row rows
opening_paths opening [] = refl
opening_paths opening (row ∷ rows) = ap (λ (ps : List (List (List ℕ))). row.path ∷ ps) (opening_paths opening rows)

-- an opening that is right keeps the rules
pub opening_stored : (opening : Opening) → IsOpening opening → IsStored (opened opening).book.rows (opened opening).work.jobs (opened opening).kept
opening_stored opening right = record {
  order = opening_ascends opening [] right;
  once = λ x.
      omega (
        arith,
        covering-append x (map path_of_kept (map (kept_at_opening opening) opening.rows)) [],
        ap (λ (ps : List (List (List ℕ))). covering x ps) (opening_paths opening opening.rows),
        covering_rows-apart x opening.rows right.apart,
      );
  stands = λ one row among also stands meet.
      let (old, within, is) = mapped_contains (kept_at_opening opening) opening.rows one among in
      let here : overlap old.path row.path ≡ true = subst (λ (k : KeptRow). overlap k.path row.path ≡ true) (sym is) meet in
      let same : old ≡ row = apart_same opening.rows old row right.apart within also here in record {
        path = sym (ap (λ (k : KeptRow). k.path) is) ∙ ap (λ (r : Row). r.path) same;
        tree = sym (ap (λ (k : KeptRow). k.tree) is) ∙ ap (λ (r : Row). r.tree) same;
      };
  lent = λ one job part among also. absurd (none also);
}
  where
    none : {Y : Type 0} {y : Y} → Contains [] y → ⊥
    none (k, within, at) = omega arith

-- and so does each history from there
pub opened_stored : (opening : Opening) (history : List Entry) → IsOpening opening → IsEach ComesInOrder (opened opening) history →
    IsStored (book_of opening history).rows (point_of opening history).work.jobs (point_of opening history).kept
opened_stored opening history right orders = history_stored (opened opening) history orders (opening_work opening right) (opening_stored opening right)
