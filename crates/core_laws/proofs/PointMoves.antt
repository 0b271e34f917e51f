-- What entries do to the jobs and to the rows whose parts the disk has.
use Rattle.std.proofs.Common.{◌≡◌, ℕ, ◌==◌, Bool, true, false, ◌&&◌, inl, inr, cond, List, Option, Some, None, refl, sym, ap, subst, ◌∙◌, Contains}
use Rattle.std.specs.List.{filter, find, list_any}
use Rattle.mat_tree.specs.Parts.{Part}
use Rattle.mat_model.specs.declared.answers.Recorded.{Recorded}
use Rattle.mat_model.specs.declared.answers.Reply.{Reply}
use Rattle.mat_model.specs.declared.answers.Reply.TheVariants as reply
use Rattle.mat_model.specs.declared.book.Book.{Book}
use Rattle.mat_model.specs.declared.book.Row.{Row}
use Rattle.mat_model.specs.declared.entries.Entry.{Entry}
use Rattle.mat_model.specs.declared.entries.Event.{Event}
use Rattle.mat_model.specs.declared.entries.Event.TheVariants as event
use Rattle.mat_model.specs.declared.entries.Outcome.{Outcome}
use Rattle.mat_model.specs.declared.entries.Outcome.TheVariants as outcome
use Rattle.mat_model.specs.declared.entries.Task.{Task}
use Rattle.mat_model.specs.declared.entries.Task.TheVariants as task
use Rattle.mat_model.specs.declared.requests.Asked.{Asked}
use Rattle.mat_model.specs.History.{Point, after, answer, answer_done, next_number, recorded_as, work_after}
use Rattle.mat_model.specs.Rows.{are_apart}
use Rattle.mat_model.specs.Work.{end_make, finish, is_declared}
use Rattle.mat_model.specs.WorkState.{Job, Lent, WorkState, cleans_all, condemned_all, ended, ended_work, has_stamp, is_cleaning, is_other_job, made_work, put_debris, returned, running, wiped_work, work_asked}
use Rattle.model_laws.specs.RowRules.{served_at}
use Rattle.model_laws.specs.WorkRules.{are_reading}
use Rattle.model_laws.proofs.RowLemmas.{row_step}
use Rattle.region_port.specs.Calls.{Paths}
use Rattle.core_laws.specs.Tied.{AreTied, IsLeftBy, WasHome}
use Rattle.core_laws.proofs.TiedLemmas.{home_from, home_parts, rows_tied}

-- ---- jobs

asked_jobs : (request : Asked) (said : Reply) (rows left : List Row) (work : WorkState) → (work_asked request said rows left work).jobs ≡ work.jobs
asked_jobs request said rows left work =
    elim (cleans_all request && is_cleaning said) as (λ b. (cond {A = WorkState} b (condemned_all work) work).jobs ≡ work.jobs)
    [ true ↦ refl | false ↦ refl ]

pub request_jobs : (point : Point) (entry : Entry) (request : Asked) → entry.event ≡ event.Asked request → (after point entry).work.jobs ≡ point.work.jobs
request_jobs point entry request is =
    subst (λ (e : Event). (work_after point entry.by.caller e (served_at point entry)).jobs ≡ point.work.jobs) (sym is)
    (asked_jobs request (served_at point entry).reply point.book.rows (served_at point entry).book.rows point.work)

fresh_jobs : (path : List (List ℕ)) (out : Outcome) (how : Recorded) (work : WorkState) → (made_work path out (reply.Fresh how) work).jobs ≡ work.jobs
fresh_jobs path outcome.Made how work = refl
fresh_jobs path outcome.Wiped how work = refl
fresh_jobs path (outcome.Missing digest) how work = refl
fresh_jobs path (outcome.Corrupt wanted found) how work = refl
fresh_jobs path (outcome.Fault note) how work = refl
fresh_jobs path outcome.NoMemory how work = refl

wiped_jobs : (path : List (List ℕ)) (out : Outcome) (work : WorkState) → (wiped_work path out work).jobs ≡ work.jobs
wiped_jobs path outcome.Made work = refl
wiped_jobs path outcome.Wiped work = refl
wiped_jobs path (outcome.Missing digest) work = refl
wiped_jobs path (outcome.Corrupt wanted found) work = refl
wiped_jobs path (outcome.Fault note) work = refl
wiped_jobs path outcome.NoMemory work = refl

task_jobs : (number : ℕ) (begun : Task) (out : Outcome) (how : Recorded) (book : Book) (work : WorkState) →
    (ended_work begun out (finish number begun out how book).reply work).jobs ≡ work.jobs
task_jobs number (task.Make path stamp) out how book work = by (find (is_declared path stamp) book.rows)
  where
    by : (o : Option Row) → (made_work path out (end_make number path out how book o).reply work).jobs ≡ work.jobs
    by None = refl
    by (Some row) = fresh_jobs path out how work
task_jobs number (task.Wipe path) out how book work = wiped_jobs path out work

back_jobs : (lent : Option Lent) (rows : List Row) (work : WorkState) → (returned lent rows work).jobs ≡ work.jobs
back_jobs None rows work = refl
back_jobs (Some lent) rows work =
    elim (list_any (has_stamp lent.stamp) rows) as (λ b. (cond {A = WorkState} b work (record work {
      debris = put_debris (record { path = lent.path; condemned = list_any (λ (stamp : ℕ). stamp == lent.stamp) work.cleaned }) work.debris;
    })).jobs ≡ work.jobs) [ true ↦ refl | false ↦ refl ]

done_jobs : (point : Point) (number : ℕ) (out : Outcome) (said : Reply) (job : Job) →
    (ended number out (answer_done point out said (Some job)).reply (answer_done point out said (Some job)).book.rows point.work (Some job)).jobs
    ≡ filter (is_other_job number) point.work.jobs
done_jobs point number out said job =
    let served = finish (next_number point) job.task out (recorded_as said) point.book in
    let others : WorkState = record point.work { jobs = filter (is_other_job number) point.work.jobs } in
    back_jobs job.lent served.book.rows (ended_work job.task out served.reply others)
    ∙ task_jobs (next_number point) job.task out (recorded_as said) point.book others

pub end_jobs : (point : Point) (entry : Entry) (number : ℕ) (out : Outcome) (job : Job) → entry.event ≡ event.Done number out →
    running number point.work ≡ Some job → (after point entry).work.jobs ≡ filter (is_other_job number) point.work.jobs
end_jobs point entry number out job is runs =
    subst (λ (e : Event). (work_after point entry.by.caller e (answer point entry.now e entry.reply)).jobs ≡ filter (is_other_job number) point.work.jobs) (sym is)
    (subst (λ (o : Option Job). (ended number out (answer_done point out entry.reply o).reply (answer_done point out entry.reply o).book.rows point.work o).jobs
    ≡ filter (is_other_job number) point.work.jobs) (sym runs) (done_jobs point number out entry.reply job))

-- ---- rows

pub end_rows : (point : Point) (entry : Entry) (number : ℕ) (out : Outcome) (job : Job) (row : Row) → are_apart point.book.rows ≡ true →
    entry.event ≡ event.Done number out → running number point.work ≡ Some job → Contains (after point entry).book.rows row → IsLeftBy point.book.rows job row
end_rows point entry number out job row apart is runs among =
    elim (row_step point entry row apart among) [
      | inl new ↦ let both = sym is ∙ new.asks in absurd cc
      | inr was ↦ record {
        old = was.old;
        among = was.among;
        same = was.same;
        stands = elim was.stands [
          | inl stays ↦ inl stays
          | inr made ↦
              let both : event.Done number out ≡ event.Done made.number outcome.Made = sym is ∙ made.ends in
              let same : made.number ≡ number = cc in
              let found : Some job ≡ Some made.job = sym runs ∙ ap (λ (n : ℕ). running n point.work) (sym same) ∙ made.runs in
              let one : job ≡ made.job = cc in
              inr (ap (λ (j : Job). j.task) one ∙ made.task)
        ];
      }
    ]

pub request_tied : (spoken : ℕ → Bool) (point : Point) (entry : Entry) (request : Asked) (content : Part) (rough : Paths) →
    are_apart point.book.rows ≡ true → entry.event ≡ event.Asked request → AreTied spoken point.book.rows point.work.jobs content rough →
    AreTied spoken (after point entry).book.rows (after point entry).work.jobs content rough
request_tied spoken point entry request content rough apart is tied =
    subst (λ (jobs : List Job). AreTied spoken (after point entry).book.rows jobs content rough) (sym (request_jobs point entry request is))
    (rows_tied spoken point.book.rows (after point entry).book.rows point.work.jobs point.work.jobs content rough tied
    (λ row among home said. inl (was row among (home_parts point.work.jobs row home))))
  where
    was : (row : Row) → Contains (after point entry).book.rows row → (row.stands ≡ true) × (are_reading point.work.jobs row.stamp ≡ false) →
        WasHome point.book.rows point.work.jobs row
    was row among parts =
        elim (row_step point entry row apart among) [
          | inl new ↦ let lies = new.lies in let stands = parts.0 in absurd cc
          | inr there ↦
              elim there.stands [
                | inl stays ↦ record {
                  old = there.old;
                  among = there.among;
                  same = there.same;
                  home = home_from point.work.jobs there.old (sym stays ∙ parts.0)
                      (ap (are_reading point.work.jobs) (sym there.same.stamp) ∙ parts.1);
                }
                | inr made ↦ let both = sym is ∙ made.ends in absurd cc
              ]
        ]
