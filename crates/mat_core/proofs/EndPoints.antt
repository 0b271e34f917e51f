-- The point behind the end of a job: without the job, behind its task, behind the part that comes back, and behind its entry.
use Rattle.std.proofs.Common.{◌≡◌, ◌+◌, ◌==◌, ℕ, Bool, true, false, ◌&&◌, ◌||◌, cond, List, [], ◌∷◌, ◌++◌, map, filter, find, length, Contains, Option, Some, None, refl, sym, ap, ap₂, subst, ◌∙◌, arith}
use Rattle.std.specs.List.{list_any}
use Rattle.std.specs.Option.{is_some, option_map, option_map_or}
use Rattle.std.proofs.lemmas.Bool.{eqb-true}
use Rattle.hall_lock.specs.declared.By.{By}
use Rattle.mat_path.proofs.Elements.{contains_map, filtered_contains, mapped_contains}
use Rattle.mat_path.proofs.SameNames.{same_names-eq, same_names-refl}
use Rattle.mat_path.specs.Names.{same_names}
use Rattle.mat_model.specs.declared.answers.Recorded.{Recorded}
use Rattle.mat_model.specs.declared.answers.Reply.{Reply}
use Rattle.mat_model.specs.declared.answers.Reply.TheVariants as reply
use Rattle.mat_model.specs.declared.book.Book.{Book}
use Rattle.mat_model.specs.declared.book.Row.{Row}
use Rattle.mat_model.specs.declared.entries.Entry.{Entry}
use Rattle.mat_model.specs.declared.entries.Outcome.{Outcome}
use Rattle.mat_model.specs.declared.entries.Outcome.TheVariants as outcome
use Rattle.mat_model.specs.declared.entries.Task.{Task}
use Rattle.mat_model.specs.declared.entries.Task.TheVariants as task
use Rattle.mat_model.specs.Books.{IsBook}
use Rattle.mat_model.specs.Gate.{Served}
use Rattle.mat_model.specs.History.{Point, after, answer_done, kept_ended, next_number, recorded_as}
use Rattle.mat_model.specs.Kept.{kept_done}
use Rattle.mat_model.specs.Legal.{may_end}
use Rattle.mat_model.specs.Room.{row_paths}
use Rattle.mat_model.specs.Rows.{are_apart, is_at_path, standing_row}
use Rattle.mat_model.specs.Work.{end_make, finish, is_declared}
use Rattle.mat_model.specs.WorkState.{Debris, Job, WorkState, ended, ended_work, has_stamp, is_job, is_other_job, made_work, path_of_task, put_debris, returned, wiped_work}
use Rattle.mat_model.specs.WorkState.{running as running_of}
use Rattle.model_laws.specs.PointRules.{IsPoint}
use Rattle.model_laws.specs.WorkRules.{IsLentBy}
use Rattle.model_laws.proofs.Apart.{apart-map}
use Rattle.model_laws.proofs.BelowLemmas.{any_alike}
use Rattle.model_laws.proofs.Changes.{standing-path}
use Rattle.model_laws.proofs.Elements.{found_contains, found_passes}
use Rattle.row_book.proofs.RowLemmas.{rows_marked, rows_standing}
use Rattle.row_book.specs.declared.stock.Stock.{Stock}
use Rattle.row_book.specs.Stocks.{row_of, rows_of, stock_at}
use Rattle.job_book.proofs.NumberLemmas.{jobs_left}
use Rattle.job_book.proofs.ReadLemmas.{job_found}
use Rattle.job_book.specs.Jobs.{job_of, jobs_of, lent_of}
use Rattle.job_book.specs.Numbers.{is_number, is_other}
use Rattle.job_book.specs.declared.running.LentPart.{LentPart}
use Rattle.job_book.specs.declared.running.Running.{Running}
use Rattle.mat_core.specs.Books.{AreWork, IsPart, StandFor, book_in, is_same_stamp}
use Rattle.mat_core.specs.Ending.{IsDoneEntered, IsRecordedFor, WasRunning, done_entry, end_of, has_row_at, has_stock_stamp, is_counted, part_back, reply_ended, rows_ended}
use Rattle.mat_core.specs.declared.ending.End.{End}
use Rattle.mat_core.specs.declared.ending.End.TheVariants as end
use Rattle.mat_core.specs.declared.parts.Parts.{Parts}
use Rattle.mat_core.proofs.EndLemmas.{declared_by, declared_is, making_clean}
use Rattle.mat_core.proofs.EndStands.{IsClean, behind, part_again, stocks_stay, task_stands}

-- ---- without the job

-- a point without the job of a number
abbrev pub without_job : ℕ → Point → Point
without_job number point = record point { work = record point.work { jobs = filter (is_other_job number) point.work.jobs } }

-- parts that stand for a point stand for it without a job, once that isn't among their jobs
pub job_gone : {D K : Type 0} (number : ℕ) (before old : Parts D K) (point : Point) → StandFor before point →
    old ≡ record before { jobs = filter (is_other number) before.jobs; disk = old.disk; keeper = old.keeper } → StandFor old (without_job number point)
job_gone {D} {K} number before old point stands only = record {
  book = ap (λ (p : Parts D K). book_in p) only ∙ stands.book;
  work = record {
    stocks = λ stock among.
        stocks_stay point.work idle before.rows refl refl stands.work.stocks stock (subst (λ (p : Parts D K). Contains p.rows stock) only among);
    jobs = jobs_left number before.jobs old.jobs (ap (λ (p : Parts D K). p.jobs) only) ∙ ap (filter (is_other_job number)) stands.work.jobs;
    cleaned = λ running among.
        part_again point.work idle running.lent refl
        (stands.work.cleaned running
        (filtered_contains (is_other number) before.jobs running (subst (λ (p : Parts D K). Contains p.jobs running) only among)).0);
    debris = ap (λ (p : Parts D K). p.debris.list) only ∙ stands.work.debris;
  };
  kept = ap (λ (p : Parts D K). p.kept.marks) only ∙ stands.kept;
  nodes = ap (λ (p : Parts D K). p.nodes) only ∙ stands.nodes;
  paths = ap (λ (p : Parts D K). p.paths) only ∙ stands.paths;
  history = ap (λ (p : Parts D K). p.history.items) only ∙ stands.history;
}
  where
    idle : WorkState
    idle = record point.work { jobs = filter (is_other_job number) point.work.jobs }

-- ---- the part that comes back

pub any_found : {A : Type 0} (test : A → Bool) (xs : List A) → list_any test xs ≡ is_some (find test xs)
any_found test [] = refl
any_found {A} test (x ∷ xs) =
    elim (test x) as (λ b. (b || list_any test xs) ≡ is_some (cond b (Some x) (find test xs))) [ true ↦ refl | false ↦ any_found test xs ]

-- where each row of a stamp is at a path, one has it exactly where the one at the path does
lender_is : (path : List (List ℕ)) (stamp : ℕ) (stocks : List Stock) → are_apart (rows_of stocks) ≡ true →
    ((row : Row) → Contains (rows_of stocks) row → row.stamp ≡ stamp → row.path ≡ path) →
    list_any (has_stamp stamp) (rows_of stocks) ≡ has_row_at path stamp stocks
lender_is path stamp stocks apart at =
    any_alike (has_stamp stamp) (is_declared path stamp) (rows_of stocks) (λ row among. each row among (row.stamp == stamp) refl)
    ∙ any_found (is_declared path stamp) (rows_of stocks) ∙ ap is_some (declared_is path stamp stocks apart) ∙ by (find (stock_at path) stocks)
  where
    never : (b : Bool) → (b && false) ≡ false
    never true = refl
    never false = refl

    each : (row : Row) → Contains (rows_of stocks) row → (b : Bool) → (row.stamp == stamp) ≡ b →
        (row.stamp == stamp) ≡ (is_at_path path row && (row.stamp == stamp))
    each row among true is =
        sym (ap (λ c. c && (row.stamp == stamp))
        (subst (λ (p : List (List ℕ)). same_names row.path p ≡ true) (at row among (eqb-true row.stamp stamp is)) (same_names-refl row.path)))
    each row among false is = is ∙ sym (ap (λ c. is_at_path path row && c) is ∙ never (is_at_path path row))

    either : (b : Bool) (stock : Stock) → is_some (cond b (Some stock.row) None) ≡ b
    either true stock = refl
    either false stock = refl

    by : (o : Option Stock) → is_some (declared_by stamp o) ≡ option_map_or (has_stock_stamp stamp) o false
    by None = refl
    by (Some stock) = either (stock.row.stamp == stamp) stock

-- whether the row of a part is there is whether the one at its path has its stamp, if there is a part
abbrev pub IsLender : Option LentPart → List Row → List Stock → Type 0
IsLender None rows stocks = Unit {0}
IsLender (Some part) rows stocks = list_any (has_stamp part.stamp) rows ≡ has_row_at part.path part.stamp stocks

-- the point behind the part that came back, if one did, and behind the entry
pub part_stands : {D K : Type 0} (lent : Option LentPart) (entry : Entry) (mid new : Parts D K) (point : Point) → StandFor mid point →
    IsPart point.work lent → IsLender lent point.book.rows mid.rows → new ≡ record mid { debris = new.debris; history = new.history } →
    new.debris.list ≡ part_back mid.rows lent mid.debris.list → new.history.items ≡ mid.history.items ++ entry ∷ [] →
    StandFor new (record point {
      history = point.history ++ entry ∷ [];
      work = returned (option_map lent_of lent) point.book.rows point.work;
    })
part_stands {D} {K} lent entry mid new point stands cleaned lender only debris history = record {
  book = ap (λ (p : Parts D K). book_in p) only ∙ stands.book;
  work = by lent cleaned lender debris;
  kept = ap (λ (p : Parts D K). p.kept.marks) only ∙ stands.kept;
  nodes = ap (λ (p : Parts D K). p.nodes) only ∙ stands.nodes;
  paths = ap (λ (p : Parts D K). p.paths) only ∙ stands.paths;
  history = history ∙ ap (λ (es : List Entry). es ++ entry ∷ []) stands.history;
}
  where
    -- the work state with other debris
    with_debris : (list : List Debris) → new.debris.list ≡ list → AreWork new (record point.work { debris = list })
    with_debris list is = record {
      stocks = λ stock among.
          stocks_stay point.work (record point.work { debris = list }) mid.rows refl refl stands.work.stocks stock
          (subst (λ (p : Parts D K). Contains p.rows stock) only among);
      jobs = ap (λ (p : Parts D K). jobs_of p.jobs) only ∙ stands.work.jobs;
      cleaned = λ running among.
          part_again point.work (record point.work { debris = list }) running.lent refl
          (stands.work.cleaned running (subst (λ (p : Parts D K). Contains p.jobs running) only among));
      debris = is;
    }

    by : (o : Option LentPart) → IsPart point.work o → IsLender o point.book.rows mid.rows → new.debris.list ≡ part_back mid.rows o mid.debris.list →
        AreWork new (returned (option_map lent_of o) point.book.rows point.work)
    by None was from is = with_debris point.work.debris (is ∙ stands.work.debris)
    by (Some part) was from is =
        elim (list_any (has_stamp part.stamp) point.book.rows) as
        (λ b. list_any (has_stamp part.stamp) point.book.rows ≡ b → AreWork new (cond b point.work (record point.work {
          debris = put_debris (record { path = part.path; condemned = list_any (is_same_stamp part.stamp) point.work.cleaned }) point.work.debris;
        }))) [
          | true ↦ λ there.
              with_debris point.work.debris
              (is ∙ ap (λ b. cond b mid.debris.list (put_debris (record { path = part.path; condemned = part.cleaned }) mid.debris.list)) (sym from ∙ there)
              ∙ stands.work.debris)
          | false ↦ λ gone.
              with_debris _
              (is ∙ ap (λ b. cond b mid.debris.list (put_debris (record { path = part.path; condemned = part.cleaned }) mid.debris.list)) (sym from ∙ gone)
              ∙ ap₂ (λ c ds. put_debris (record { path = part.path; condemned = c }) ds) (sym was) stands.work.debris)
        ] refl

-- ---- the rows behind a task

standing-stamp : (path : List (List ℕ)) (row : Row) → (standing_row path row).stamp ≡ row.stamp
standing-stamp path row = elim (is_at_path path row) as (λ b. (cond b (record row { stands = true }) row).stamp ≡ row.stamp) [ true ↦ refl | false ↦ refl ]

-- where something holds of rows and of those of them that come to stand, it holds of the rows behind a task
rows_by : (P : List Row → Type 0) (path : List (List ℕ)) (ending : End) (stocks : List Stock) → P (rows_of stocks) → P (map (standing_row path) (rows_of stocks)) →
    P (rows_of (rows_ended path ending stocks))
rows_by P path (end.Stands stamp sum last) stocks same stand = subst P (sym (rows_standing path stocks)) stand
rows_by P path (end.Failed given) stocks same stand = subst P (sym (rows_marked path true stocks)) same
rows_by P path end.Gone stocks same stand = same
rows_by P path end.Wiped stocks same stand = same
rows_by P path (end.Unwiped given) stocks same stand = same

-- they are apart, and each of a stamp is at a path where those before were
rows_still_apart : (path : List (List ℕ)) (ending : End) (stocks : List Stock) → are_apart (rows_of stocks) ≡ true →
    are_apart (rows_of (rows_ended path ending stocks)) ≡ true
rows_still_apart path ending stocks apart =
    rows_by (λ rows. are_apart rows ≡ true) path ending stocks apart (apart-map (standing_row path) (standing-path path) (rows_of stocks) ∙ apart)

abbrev AreAt : List (List ℕ) → ℕ → List Row → Type 0
AreAt place stamp rows = (row : Row) → Contains rows row → row.stamp ≡ stamp → row.path ≡ place

rows_still_at : (place : List (List ℕ)) (stamp : ℕ) (path : List (List ℕ)) (ending : End) (stocks : List Stock) → AreAt place stamp (rows_of stocks) →
    AreAt place stamp (rows_of (rows_ended path ending stocks))
rows_still_at place stamp path ending stocks at =
    rows_by (AreAt place stamp) path ending stocks at
    (λ row among under.
    let (was, within, same) = mapped_contains (standing_row path) (rows_of stocks) row among in
    ap (λ (r : Row). r.path) (sym same) ∙ standing-path path was
    ∙ at was within (sym (standing-stamp path was) ∙ ap (λ (r : Row). r.stamp) same ∙ under))

-- whether the row of a part is there, behind a task
lender_still : (lent : Option LentPart) (path : List (List ℕ)) (ending : End) (stocks mid : List Stock) (rows : List Row) → mid ≡ rows_ended path ending stocks →
    rows_of mid ≡ rows → are_apart (rows_of stocks) ≡ true → IsLentBy (rows_of stocks) (option_map lent_of lent) → IsLender lent rows mid
lender_still None path ending stocks mid rows are same apart from = tt
lender_still (Some part) path ending stocks mid rows are same apart from =
    subst (λ rs. list_any (has_stamp part.stamp) rs ≡ has_row_at part.path part.stamp mid) same
    (subst (λ ss. list_any (has_stamp part.stamp) (rows_of ss) ≡ has_row_at part.path part.stamp ss) (sym are)
    (lender_is part.path part.stamp (rows_ended path ending stocks) (rows_still_apart path ending stocks apart)
    (rows_still_at part.path part.stamp path ending stocks (λ row among under. (from row among under).path))))

-- a task that ended leaves which stamps are cleaned
wiped_cleaned : (path : List (List ℕ)) (out : Outcome) (work : WorkState) → (wiped_work path out work).cleaned ≡ work.cleaned
wiped_cleaned path outcome.Made work = refl
wiped_cleaned path outcome.Wiped work = refl
wiped_cleaned path (outcome.Missing digest) work = refl
wiped_cleaned path (outcome.Corrupt wanted found) work = refl
wiped_cleaned path (outcome.Fault note) work = refl
wiped_cleaned path outcome.NoMemory work = refl

fresh_cleaned : (path : List (List ℕ)) (out : Outcome) (how : Recorded) (work : WorkState) → (made_work path out (reply.Fresh how) work).cleaned ≡ work.cleaned
fresh_cleaned path outcome.Made how work = refl
fresh_cleaned path outcome.Wiped how work = refl
fresh_cleaned path (outcome.Missing digest) how work = refl
fresh_cleaned path (outcome.Corrupt wanted found) how work = refl
fresh_cleaned path (outcome.Fault note) how work = refl
fresh_cleaned path outcome.NoMemory how work = refl

task_cleaned : (number : ℕ) (begun : Task) (out : Outcome) (how : Recorded) (book : Book) (work : WorkState) →
    (ended_work begun out (finish number begun out how book).reply work).cleaned ≡ work.cleaned
task_cleaned number (task.Make path stamp) out how book work = by (find (is_declared path stamp) book.rows)
  where
    by : (o : Option Row) → (made_work path out (end_make number path out how book o).reply work).cleaned ≡ work.cleaned
    by None = refl
    by (Some row) = fresh_cleaned path out how work
task_cleaned number (task.Wipe path) out how book work = wiped_cleaned path out work

-- ---- the whole

-- the point behind the end of a job that runs
done_is : (point : Point) (by : By) (moment number : ℕ) (out : Outcome) (said : Reply) (job : Job) → running_of number point.work ≡ Some job →
    after point (done_entry by moment number out said) ≡ record {
      history = point.history ++ done_entry by moment number out said ∷ [];
      book = (finish (next_number point) job.task out (recorded_as said) point.book).book;
      work = returned job.lent (finish (next_number point) job.task out (recorded_as said) point.book).book.rows
          (ended_work job.task out (finish (next_number point) job.task out (recorded_as said) point.book).reply
          (record point.work { jobs = filter (is_other_job number) point.work.jobs }));
      kept = kept_done job.task (finish (next_number point) job.task out (recorded_as said) point.book).reply
          (finish (next_number point) job.task out (recorded_as said) point.book).book.rows point.kept;
      nodes = point.nodes;
    }
done_is point by moment number out said job runs =
    ap behind_job runs ∙ ap (λ n. record (behind_job (Some job)) { nodes = n }) (let same : point.nodes + 0 ≡ point.nodes = omega arith in same)
  where
    behind_job : Option Job → Point
    behind_job o = record {
      history = point.history ++ done_entry by moment number out said ∷ [];
      book = (answer_done point out said o).book;
      work = ended number out (answer_done point out said o).reply (answer_done point out said o).book.rows point.work o;
      kept = kept_ended o (answer_done point out said o) point.kept;
      nodes = point.nodes + 0;
    }

-- the number of the entry is that of the next one
pub next_is : {D K : Type 0} (number : ℕ) (running : Running) (old : Parts D K) (was : WasRunning number running old) (point : Point) →
    StandFor was.before point → next_number point ≡ old.first + length old.history.items
next_is {D} {K} number running old was point stands =
    sym (ap (λ (p : Parts D K). p.first + length p.history.items) was.only
    ∙ ap₂ (λ (b : Book) (es : List Entry). b.first + length es) stands.book stands.history)

module _ {D K : Type 0} (number : ℕ) (by : By) (running : Running) (out : Outcome) (how : Recorded) (old new : Parts D K)
    (was : WasRunning number running old) (point : Point) (stands : StandFor was.before point) (rules : IsPoint point) (next : next_number point ≡ number) where
  job_runs : running_of running.card.job point.work ≡ Some (job_of running)
  job_runs =
      ap (find (is_job running.card.job)) (sym stands.work.jobs)
      ∙ sym (job_found running.card.job was.before.jobs (Some was.whole) (sym was.found)) ∙ ap (λ (r : Running). Some (job_of r)) (sym was.same)

  job_among : Contains point.work.jobs (job_of running)
  job_among = found_contains (is_job running.card.job) point.work.jobs (job_of running) job_runs

  same_rows : rows_of old.rows ≡ point.book.rows
  same_rows = ap (λ (p : Parts D K). rows_of p.rows) was.only ∙ ap (λ (b : Book). b.rows) stands.book

  pub rows_apart : are_apart (rows_of old.rows) ≡ true
  rows_apart = subst (λ rows. are_apart rows ≡ true) (sym same_rows) rules.work.apart

  -- the row of its make isn't dirty
  is_clean : (begun : Task) → running.card.task ≡ begun → IsClean begun old.rows (without_job running.card.job point).work
  is_clean (task.Make path stamp) is = λ stock found under.
      making_clean (next_number point) point.book.rows point.work (job_of running) path stamp stock.row rules.work job_among is
      (subst (λ rows. Contains rows stock.row) same_rows (row_among stock (found_contains (stock_at path) old.rows stock found)))
      (same_names-eq stock.row.path path (found_passes (stock_at path) old.rows stock found)) under
    where
      row_among : (one : Stock) → Contains old.rows one → Contains (rows_of old.rows) one.row
      row_among one among = contains_map row_of old.rows one among
  is_clean (task.Wipe path) is = tt

  -- the parts stand for the point behind its entry
  pub end_stands : may_end running.card.task out ≡ true → IsRecordedFor running.card.task out (rows_of old.rows) how → IsDoneEntered number by running out how old new →
      StandFor new
      (after point (done_entry by point.book.now running.card.job out (reply_ended (is_counted (end_of old.rows running.card.task out)) how)))
  end_stands may recorded entered =
      subst (StandFor new) (ap (λ (b : Book). made b old.history.items old.nodes number) stood.book
      ∙ ap (λ h. made point.book h old.nodes number) stood.history ∙ ap (λ n. made point.book point.history n number) stood.nodes
      ∙ ap (λ n. made point.book point.history point.nodes n) (sym next)
      ∙ sym (done_is point by point.book.now running.card.job out said (job_of running) job_runs))
      (part_stands running.lent (done_entry by old.moment running.card.job out said) entered.mid new
      (behind old idle point.kept running.card.task out (finish number running.card.task out (recorded_as said) (book_in old))) task_done
      (part_of_task running.lent was_cleaned) lends entered.only entered.debris
      (entered.history ∙ ap (λ es. es ++ done_entry by old.moment running.card.job out said ∷ []) (sym (ap (λ (p : Parts D K). p.history.items) entered.ended.only))))
    where
      idle : WorkState
      idle = (without_job running.card.job point).work

      said : Reply
      said = reply_ended (is_counted (end_of old.rows running.card.task out)) how

      stood : StandFor old (without_job running.card.job point)
      stood = job_gone running.card.job was.before old point stands was.only

      -- the point behind the end, from a book, a history, a count of nodes and a number
      made : Book → List Entry → ℕ → ℕ → Point
      made b history nodes n =
          let served : Served = finish n running.card.task out (recorded_as said) b in
          record {
            history = history ++ done_entry by b.now running.card.job out said ∷ [];
            book = served.book;
            work = returned (option_map lent_of running.lent) served.book.rows (ended_work running.card.task out served.reply idle);
            kept = kept_done running.card.task served.reply served.book.rows point.kept;
            nodes = nodes;
          }

      task_done : StandFor entered.mid (behind old idle point.kept running.card.task out (finish number running.card.task out (recorded_as said) (book_in old)))
      task_done = task_stands number running.card.task out how old entered.mid idle point.kept stood.work stood.kept
          (stood.paths ∙ ap (λ (b : Book). row_paths b point.kept) (sym stood.book))
          (subst (λ n. IsBook n (book_in old)) next (subst (λ b. IsBook (next_number point) b) (sym stood.book) rules.book)) rules.kept.order rows_apart may recorded
          (is_clean running.card.task refl) entered.ended

      was_cleaned : IsPart point.work running.lent
      was_cleaned = subst (λ (r : Running). IsPart point.work r.lent) (sym was.same)
          (stands.work.cleaned was.whole (found_contains (is_number running.card.job) was.before.jobs was.whole was.found))

      -- a task that ended leaves what is cleaned
      part_of_task : (lent : Option LentPart) → IsPart point.work lent →
          IsPart (ended_work running.card.task out (finish number running.card.task out (recorded_as said) (book_in old)).reply idle) lent
      part_of_task lent is =
          part_again point.work
          (ended_work running.card.task out (finish number running.card.task out (recorded_as said) (book_in old)).reply idle) lent
          (task_cleaned number running.card.task out (recorded_as said) (book_in old) idle) is

      lends : IsLender running.lent (finish number running.card.task out (recorded_as said) (book_in old)).book.rows entered.mid.rows
      lends =
          lender_still running.lent (path_of_task running.card.task) (end_of old.rows running.card.task out) old.rows entered.mid.rows _ entered.ended.rows
          (ap (λ (b : Book). b.rows) task_done.book) rows_apart
          (subst (λ rows. IsLentBy rows (option_map lent_of running.lent)) (sym same_rows) (rules.work.jobs (job_of running) job_among).lent)
