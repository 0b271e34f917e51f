-- A job that came back is the one that runs under its number: what its end is called with, and what comes of it.
use Rattle.std.proofs.Common.{◌≡◌, ◌≤◌, ℕ, ◌+◌, ◌==◌, ◌&&◌, Bool, true, false, not, List, [], ◌∷◌, ◌++◌, filter, find, length, Contains, Option, Some, None, refl, sym, ap, ap₂, subst, ◌∙◌}
use Rattle.std.specs.List.{list_any}
use Rattle.std.specs.Option.{option_map, option_map_or}
use Rattle.std.proofs.lemmas.Bool.{and_parts, both_ways, eqb-true}
use Rattle.hall_lock.specs.declared.By.{By}
use Rattle.mat_path.proofs.Elements.{filtered_contains}
use Rattle.mat_path.specs.Names.{same_names}
use Rattle.mat_model.specs.declared.answers.Recorded.{Recorded}
use Rattle.mat_model.specs.declared.answers.Recorded.TheVariants as recorded
use Rattle.mat_model.specs.declared.book.Book.{Book}
use Rattle.mat_model.specs.declared.book.Row.{Row}
use Rattle.mat_model.specs.declared.entries.Outcome.{Outcome}
use Rattle.mat_model.specs.declared.entries.Task.{Task}
use Rattle.mat_model.specs.declared.entries.Task.TheVariants as task
use Rattle.mat_model.specs.History.{Point, after, next_number}
use Rattle.mat_model.specs.Legal.{IsFaultOf, may_end, may_fault, note_of_outcome}
use Rattle.mat_model.specs.Rows.{are_apart}
use Rattle.mat_model.specs.WorkState.{Job, is_job, path_of_task, running as running_of}
use Rattle.model_laws.specs.PointRules.{IsPoint}
use Rattle.model_laws.specs.RowRules.{served_at}
use Rattle.model_laws.proofs.Elements.{found_contains, found_passes}
use Rattle.region_port.specs.States.{state_region, state_tree}
use Rattle.region_port.specs.declared.port.Region.{Ghosts as RegionGhosts}
use Rattle.job_run.specs.declared.job.Done.{Done}
use Rattle.core_laws.specs.Loans.{AreLoans}
use Rattle.row_book.specs.Stocks.{rows_of}
use Rattle.job_book.proofs.ReadLemmas.{job_found}
use Rattle.job_book.specs.Jobs.{job_of, jobs_of}
use Rattle.job_book.specs.Numbers.{is_number, is_other}
use Rattle.job_book.specs.declared.running.KeptBytes.{KeptBytes}
use Rattle.job_book.specs.declared.running.Running.{Running}
use Rattle.core_devices.specs.Events.{HasBack, HasJoined}
use Rattle.core_devices.specs.Gives.{AreOf, HasRisenBy, IsReadOf, IsStillOut, content_of, rough_of}
use Rattle.core_devices.specs.Told.{ToldDisk, ToldStore, told_part}
use Rattle.mat_core.specs.Begins.{IsSameCore}
use Rattle.mat_core.specs.Books.{StandFor}
use Rattle.mat_core.specs.Ending.{IsBesideEnd, IsRecordedFor, WasRunning, done_entry, end_of, is_fresh, is_made, reply_ended}
use Rattle.mat_core.specs.Ends.{AreCounts, HasEnded, IsEnded, IsLeftBy, end_entry}
use Rattle.mat_core.specs.Fitting.{back_of, fits_job, has_card, has_parts, is_loan_of, is_made_for, same_task}
use Rattle.mat_core.specs.Orders.{AreReady}
use Rattle.mat_core.specs.PutDown.{told_read}
use Rattle.mat_core.specs.Recording.{HasBytesFor, IsRecordedEnd}
use Rattle.mat_core.specs.Replacing.{AreRuled}
use Rattle.mat_core.specs.Rooms.{HasReserves}
use Rattle.mat_core.specs.declared.parts.Parts.{Parts}
use Rattle.mat_core.proofs.EndLemmas.{nothing_is}
use Rattle.mat_core.proofs.EndsGoals.{end_replied, end_stored, told_end}
use Rattle.mat_core.proofs.EndsLemmas.{bytes_for, disk_risen, ended_told, ends_so, faulted_so, read_of, recorded_for, same_place, still_out, task_out}
use Rattle.mat_core.proofs.FitLemmas.{same_task-eq}
use Rattle.mat_core.proofs.ReadyLemmas.{left_ready}

-- whether what came back fits the job that runs under its number
abbrev pub Fits : {D K R : Type 0} {g : RegionGhosts R} → ℕ → Done R g → Parts D K → Type 0
Fits caller came parts =
    option_map_or (fits_job (rows_of parts.rows) caller (back_of came)) (find (is_job came.card.job) (jobs_of parts.jobs)) false ≡ true

-- a job that fits runs
pub fits_some : {D K R : Type 0} {g : RegionGhosts R} (caller : ℕ) (came : Done R g) (parts : Parts D K) → Fits caller came parts →
    find (is_number came.card.job) parts.jobs ≡ None → ⊥
fits_some caller came parts fits none =
    both_ways false refl
    (sym (ap (λ o. option_map_or (fits_job (rows_of parts.rows) caller (back_of came)) o false)
    (sym (job_found came.card.job parts.jobs None (sym none)))) ∙ fits)

module _ {D K R : Type 0} (g : RegionGhosts R) (by : By) (came : Done R g) (old : Parts D K) (whole : Running) (number : ℕ) (ruled : AreRuled number old)
    (lent : List (List (List ℕ))) (loans : AreLoans (jobs_of old.jobs) lent) (ready : AreReady old) (fits : Fits by.caller came old)
    (found : find (is_number came.card.job) old.jobs ≡ Some whole) where
  job_is : find (is_job came.card.job) (jobs_of old.jobs) ≡ Some (job_of whole)
  job_is = sym (job_found came.card.job old.jobs (Some whole) (sym found))

  pub fits_is : fits_job (rows_of old.rows) by.caller (back_of came) (job_of whole) ≡ true
  fits_is = sym (ap (λ o. option_map_or (fits_job (rows_of old.rows) by.caller (back_of came)) o false) job_is) ∙ fits

  halves : (has_card by.caller (back_of came) (job_of whole) ≡ true) × (has_parts (rows_of old.rows) (back_of came) (job_of whole) ≡ true)
  halves = and_parts (has_card by.caller (back_of came) (job_of whole)) (has_parts (rows_of old.rows) (back_of came) (job_of whole)) fits_is

  pub task_is : whole.card.task ≡ came.card.task
  task_is = same_task-eq whole.card.task came.card.task
      (and_parts (whole.caller == by.caller) (same_task whole.card.task came.card.task) halves.0).1

  pub number_is : whole.card.job ≡ came.card.job
  number_is = eqb-true whole.card.job came.card.job (found_passes (is_number came.card.job) old.jobs whole found)

  parts_fit : (is_made_for (rows_of old.rows) whole.card.task came.outcome (state_tree came.part) ≡ true)
      × (is_loan_of (rows_of old.rows) (job_of whole).lent (back_of came).loan ≡ true)
  parts_fit = and_parts (is_made_for (rows_of old.rows) whole.card.task came.outcome (state_tree came.part))
      (is_loan_of (rows_of old.rows) (job_of whole).lent (back_of came).loan) halves.1

  among : Contains (jobs_of old.jobs) (job_of whole)
  among = found_contains (is_job came.card.job) (jobs_of old.jobs) (job_of whole) job_is

  place_is : g.place (state_region came.part) ≡ path_of_task whole.card.task
  place_is = came.at ∙ same_place came.card.task ∙ ap path_of_task (sym task_is)

  pub may_end_so : may_end whole.card.task came.outcome ≡ true
  may_end_so = subst (λ (t : Task). may_end t came.outcome ≡ true) (sym task_is) (ends_so came.card.task came.outcome came.ends)

  -- ---- the calls

  module _ (region : R) (is_region : region ≡ state_region came.part) (read : Option R)
      (is_read : option_map (told_part g) read ≡ option_map (told_read g) came.loan) where
    at_task : g.place region ≡ path_of_task whole.card.task
    at_task = ap g.place is_region ∙ place_is

    pub given_out : list_any (same_names (g.place region)) lent ≡ true
    given_out = task_out (jobs_of old.jobs) lent (job_of whole) (g.place region) loans among at_task

    reads : IsReadOf (job_of whole).lent (option_map (told_part g) read)
    reads = subst (IsReadOf (job_of whole).lent) (sym is_read)
        (read_of g (rows_of old.rows) (job_of whole).lent came.loan parts_fit.1)

    pub given_read : IsStillOut (g.place region) (option_map (told_part g) read) lent
    given_read =
        still_out (next_number ruled.point) ruled.point.book.rows ruled.point.work lent (job_of whole) (g.place region) (option_map (told_part g) read)
        ruled.rules.work (subst (λ js. AreLoans js lent) ruled.stands.work.jobs loans) (subst (λ js. Contains js (job_of whole)) ruled.stands.work.jobs among)
        at_task reads

    pub given_of : AreOf (job_of whole) (told_part g region) (option_map (told_part g) read)
    given_of = record { place = at_task; source = reads }

  pub bytes_there : HasBytesFor (end_of old.rows whole.card.task came.outcome) whole.kept
  bytes_there = bytes_for old.base.identity whole.card.task came.outcome old.rows whole.kept
      (ready whole (found_contains (is_number came.card.job) old.jobs whole found))

  -- ---- what comes of it

  module _ (how : Recorded) (store now_store : ToldStore) (is_end : IsRecordedEnd (end_of old.rows whole.card.task came.outcome) whole.kept how store now_store) where
    apart : are_apart (rows_of old.rows) ≡ true
    apart = subst (λ rows. are_apart rows ≡ true) (sym (ap (λ (b : Book). b.rows) ruled.stands.book)) ruled.rules.work.apart

    pub records : IsRecordedFor whole.card.task came.outcome (rows_of old.rows) how
    records = recorded_for whole.card.task came.outcome old.rows whole.kept how store now_store apart may_end_so is_end

    module _ (point : Point) (stands : StandFor old point) (rules : IsPoint point) (region : R) (is_region : region ≡ state_region came.part)
        (left : IsLeftBy came.part (g.part region) (g.rough region)) (read : Option R)
        (is_read : option_map (told_part g) read ≡ option_map (told_read g) came.loan) (disk now_disk : ToldDisk)
        (back : HasBack (job_of whole) (g.part region) (g.rough region) (content_of (option_map (told_part g) read)) (rough_of (option_map (told_part g) read)) disk now_disk)
        (joined : HasJoined (told_part g region) (option_map (told_part g) read) disk now_disk)
        (counted : 1 ≤ g.fault_count region → 1 ≤ now_disk.faults) (read_counted : HasRisenBy (option_map (told_part g) read) now_disk.faults)
        (small : AreCounts (note_of_outcome came.outcome)) (fresh : Bool) (is_so : fresh ≡ is_fresh whole.card.task (rows_of old.rows)) where
      same_rows : rows_of old.rows ≡ point.book.rows
      same_rows = ap (λ (b : Book). b.rows) stands.book

      runs : running_of came.card.job point.work ≡ Some (job_of whole)
      runs = ap (find (is_job came.card.job)) (sym stands.work.jobs) ∙ job_is

      counts : fresh ≡ is_fresh whole.card.task point.book.rows
      counts = is_so ∙ ap (is_fresh whole.card.task) same_rows

      records_at : IsRecordedFor whole.card.task came.outcome point.book.rows how
      records_at = subst (λ rows. IsRecordedFor whole.card.task came.outcome rows how) same_rows records

      pub is_ended : IsEnded g point by came fresh how disk now_disk store now_store
      is_ended = record {
        job = job_of whole;
        runs = runs;
        fits = subst (λ rows. fits_job rows by.caller (back_of came) (job_of whole) ≡ true) same_rows fits_is;
        counts = counts;
        records = records_at;
        faulted = subst (λ t. IsFaultOf (may_fault t) (note_of_outcome came.outcome)) (sym task_is)
            (faulted_so came.card.task came.outcome came.ends came.risen small);
        its = told_part g region;
        back = subst (λ o. HasBack (job_of whole) (g.part region) (g.rough region) (content_of o) (rough_of o) disk now_disk) is_read back;
        joined = subst (λ o. HasJoined (told_part g region) o disk now_disk) is_read joined;
        ended = ended_told whole.card.task came.outcome came.part point.book.rows (g.part region) (g.rough region) rules.work.apart came.leaves
            (subst (λ rows. is_made_for rows whole.card.task came.outcome (state_tree came.part) ≡ true) same_rows parts_fit.0) left;
        risen = disk_risen g came.outcome (g.fault_count (state_region came.part)) now_disk.faults came.loan came.counted came.risen
            (λ least. counted (subst (λ r. 1 ≤ g.fault_count r) (sym is_region) least)) (subst (λ o. HasRisenBy o now_disk.faults) is_read read_counted);
        still = (told_end (end_of old.rows whole.card.task came.outcome) whole.kept how store now_store is_end).still;
        faults = (told_end (end_of old.rows whole.card.task came.outcome) whole.kept how store now_store is_end).faults;
        note = (told_end (end_of old.rows whole.card.task came.outcome) whole.kept how store now_store is_end).note;
        called = (told_end (end_of old.rows whole.card.task came.outcome) whole.kept how store now_store is_end).called;
      }

      -- the parts behind the entry
      module _ (new : Parts D K) (same : IsSameCore old new) (moment : new.moment ≡ old.moment)
          (jobs : (one : Running) → Contains new.jobs one → Contains old.jobs one)
          (history : new.history.items ≡ old.history.items ++ done_entry by old.moment came.card.job came.outcome (reply_ended fresh how) ∷ [])
          (behind : StandFor new (after point (end_entry by point came fresh how))) (reserves : HasReserves new) where
        moment_is : old.moment ≡ point.book.now
        moment_is = ap (λ (b : Book). b.now) stands.book

        pub has_ended : HasEnded g point by came fresh how old new disk now_disk store now_store
        has_ended = record {
          ended = is_ended;
          same = same;
          moment = moment ∙ moment_is;
          history = history
              ∙ ap (λ n. old.history.items ++ done_entry by n came.card.job came.outcome (reply_ended fresh how) ∷ []) moment_is;
          stands = behind;
          reserves = reserves;
          ready = left_ready old new point stands same.base jobs ready (end_entry by point came fresh how) rules behind;
          rows = end_stored old.base.identity point (end_entry by point came fresh how) came.card.job came.outcome how (job_of whole) old.rows whole.kept
              store now_store rules same_rows refl runs
              (sym (subst (λ b. reply_ended b how
              ≡ (served_at point (done_entry by point.book.now came.card.job came.outcome (reply_ended b how))).reply) (sym counts)
              (end_replied point by came.card.job came.outcome how (job_of whole) runs records_at)) ∙ ap (λ b. reply_ended b how) counts)
              records_at (ready whole (found_contains (is_number came.card.job) old.jobs whole found)) is_end;
        }

-- ---- from step to step

-- what was recorded is nothing where the end doesn't count
pub stale_nothing : (begun : Task) (out : Outcome) (rows : List Row) (how : Recorded) → IsRecordedFor begun out rows how → is_fresh begun rows ≡ false →
    how ≡ recorded.Nothing
stale_nothing (task.Make path stamp) out rows how is stale = nothing_is how (is ∙ ap (λ b. not (b && is_made out)) stale)
stale_nothing (task.Wipe path) out rows how is stale = nothing_is how is

-- the parts between the return of what was out and the entry
abbrev pub Between : {D K : Type 0} → ℕ → D → Parts D K → Parts D K → Type 0
Between number gave old mid = mid ≡ record old { jobs = filter (is_other number) old.jobs; disk = gave; keeper = mid.keeper }

abbrev pub was_running : {D K : Type 0} (number : ℕ) (job : ℕ) (whole : Running) (kept : Option KeptBytes) (gave : D) (old mid : Parts D K) →
    AreRuled (old.first + length old.history.items) old → find (is_number job) old.jobs ≡ Some whole → whole.card.job ≡ job → HasReserves old →
    Between job gave old mid → number ≡ mid.first + length mid.history.items → WasRunning number (record whole { kept = kept }) mid
was_running {D} {K} number job whole kept gave old mid ruled found same reserves is at = record {
  before = old;
  rules = subst (λ n. AreRuled n old) (sym (at ∙ ap (λ (p : Parts D K). p.first + length p.history.items) is)) ruled;
  whole = whole;
  found = ap (λ n. find (is_number n) old.jobs) same ∙ found;
  same = refl;
  reserves = reserves;
  only = is
      ∙ ap (λ n. record old { jobs = filter (is_other n) old.jobs; disk = gave; keeper = mid.keeper }) (sym same)
      ∙ ap (λ d. record old { jobs = filter (is_other whole.card.job) old.jobs; disk = d; keeper = mid.keeper }) (sym (ap (λ (p : Parts D K). p.disk) is));
}

pub end_is : {D K R : Type 0} (g : RegionGhosts R) (told : D → ToldDisk) (stored : K → ToldStore) (by : By) (came : Done R g) (old mid new : Parts D K)
    (whole : Running) (number : ℕ) (ruled : AreRuled number old) (loans : AreLoans (jobs_of old.jobs) (told old.disk).lent) (ready : AreReady old)
    (fits : Fits by.caller came old) (found : find (is_number came.card.job) old.jobs ≡ Some whole) (how : Recorded)
    (is_end : IsRecordedEnd (end_of old.rows whole.card.task came.outcome) whole.kept how (stored old.keeper) (stored mid.keeper))
    (point : Point) (stands : StandFor old point) (rules : IsPoint point) (region : R) (is_region : region ≡ state_region came.part)
    (left : IsLeftBy came.part (g.part region) (g.rough region)) (read : Option R)
    (is_read : option_map (told_part g) read ≡ option_map (told_read g) came.loan) (gave : D)
    (back : (job : Job) → AreOf job (told_part g region) (option_map (told_part g) read) →
    HasBack job (g.part region) (g.rough region) (content_of (option_map (told_part g) read)) (rough_of (option_map (told_part g) read)) (told old.disk) (told gave))
    (joined : HasJoined (told_part g region) (option_map (told_part g) read) (told old.disk) (told gave))
    (counted : 1 ≤ g.fault_count region → 1 ≤ (told gave).faults) (read_counted : HasRisenBy (option_map (told_part g) read) (told gave).faults)
    (small : AreCounts (note_of_outcome came.outcome)) (fresh : Bool) (is_so : fresh ≡ is_fresh whole.card.task (rows_of mid.rows))
    (between : Between came.card.job gave old mid) (rest : IsBesideEnd mid new)
    (entered : new.history.items ≡ mid.history.items ++ done_entry by mid.moment whole.card.job came.outcome (reply_ended fresh how) ∷ [])
    (behind : StandFor new (after point (done_entry by point.book.now whole.card.job came.outcome (reply_ended fresh how)))) (reserves : HasReserves new) →
    HasEnded g point by came fresh how old new (told old.disk) (told new.disk) (stored old.keeper) (stored new.keeper)
end_is {D} {K} {R} g told stored by came old mid new whole number ruled loans ready fits found how is_end point stands rules region is_region left read is_read
    gave back joined counted read_counted small fresh is_so between rest entered behind reserves =
    subst (λ k. HasEnded g point by came fresh how old new (told old.disk) (told new.disk) (stored old.keeper) (stored k)) (sym rest.keeper)
    (subst (λ d. HasEnded g point by came fresh how old new (told old.disk) (told d) (stored old.keeper) (stored mid.keeper))
    (sym (rest.disk ∙ ap (λ (p : Parts D K). p.disk) between))
    (has_ended g by came old whole number ruled (told old.disk).lent loans ready fits found how (stored old.keeper) (stored mid.keeper) is_end point stands rules
    region is_region left read is_read (told old.disk) (told gave)
    (back (job_of whole)
    (given_of g by came old whole number ruled (told old.disk).lent loans ready fits found region is_region read is_read))
    joined counted read_counted small fresh
    (is_so ∙ ap (λ (p : Parts D K). is_fresh whole.card.task (rows_of p.rows)) between)
    new
    (record {
      base = rest.base ∙ ap (λ (p : Parts D K). p.base) between;
      lost = rest.lost ∙ ap (λ (p : Parts D K). p.lost) between;
    })
    (rest.moment ∙ ap (λ (p : Parts D K). p.moment) between)
    (λ one within. (filtered_contains (is_other came.card.job) old.jobs one
    (subst (λ js. Contains js one) (rest.jobs ∙ ap (λ (p : Parts D K). p.jobs) between) within)).0)
    (entered
    ∙ ap₂ (λ (p : Parts D K) n. p.history.items ++ done_entry by p.moment n came.outcome (reply_ended fresh how) ∷ []) between same)
    (subst (λ n. StandFor new (after point (done_entry by point.book.now n came.outcome (reply_ended fresh how)))) same behind) reserves))
  where
    same : whole.card.job ≡ came.card.job
    same = number_is g by came old whole number ruled (told old.disk).lent loans ready fits found
