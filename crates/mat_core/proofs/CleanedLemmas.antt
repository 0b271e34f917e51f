-- No row has the stamp of a row that a clean removed: that stamp has come, and from the clean on no row has it.
use Rattle.std.proofs.Common.{◌≡◌, ℕ, ◌<◌, ◌==◌, Bool, true, false, ◌&&◌, ◌⊎◌, inl, inr, List, [], ◌∷◌, ◌++◌, Option, Some, None, cond, refl, sym, subst, map, Contains, arith}
use Rattle.std.specs.List.{filter, list_any}
use Rattle.std.proofs.lemmas.Bool.{both_ways, eq-eqb, eqb-true, false_from_ne_true, not-true}
use Rattle.std.proofs.lemmas.List.Elements.{All-contains, Contains-append_cases}
use Rattle.mat_path.proofs.Elements.{each_fails, filtered_contains, mapped_contains, none_passes}
use Rattle.mat_model.specs.declared.answers.FaultNote.{FaultNote}
use Rattle.mat_model.specs.declared.answers.Reply.{Reply}
use Rattle.mat_model.specs.declared.book.Row.{Row}
use Rattle.mat_model.specs.declared.entries.Entry.{Entry}
use Rattle.mat_model.specs.declared.entries.Event.{Event}
use Rattle.mat_model.specs.declared.entries.Event.TheVariants as event
use Rattle.mat_model.specs.declared.entries.Outcome.{Outcome}
use Rattle.mat_model.specs.declared.entries.Task.{Task}
use Rattle.mat_model.specs.declared.entries.Task.TheVariants as task
use Rattle.mat_model.specs.declared.opening.Opening.{Opening}
use Rattle.mat_model.specs.declared.requests.Asked.{Asked}
use Rattle.mat_model.specs.History.{Point, after, after_all, answer, answer_done, next_number, opened, point_of, recorded_as, refusal_note, work_after, work_begun}
use Rattle.mat_model.specs.Openings.{IsOpening}
use Rattle.mat_model.specs.Rows.{are_apart}
use Rattle.mat_model.specs.WorkState.{Job, WorkState, cleans_all, condemned_all, ended, has_stamp, is_cleaning, is_gone, is_other_job, removed_rows, returned, running, stamp_of, without_removed, work_asked}
use Rattle.model_laws.specs.RowRules.{AreStampedBelow, IsNoStamp}
use Rattle.model_laws.proofs.ApartLemmas.{history_apart}
use Rattle.model_laws.proofs.BooksKept.{next_more}
use Rattle.model_laws.proofs.PlacedLemmas.{part_leaves, task_leaves}
use Rattle.model_laws.proofs.StampLemmas.{entry_stamps, opening_stamps, stamp_gone}
use Rattle.mat_core.specs.Books.{is_same_stamp}
use Rattle.core_devices.specs.Told.{ToldDisk, ToldStore}
use Rattle.mat_core.specs.Cores.{IsSeen, Seen, point_in}

-- ---- what an entry adds

-- the stamps of rows that cleans removed stay as they are, or those of the rows that are gone come to them
abbrev CleanedGoes : List Row → List Row → List ℕ → List ℕ → Type 0
CleanedGoes rows left old new = (new ≡ old) ⊎ (new ≡ map stamp_of (removed_rows rows left) ++ old)

asked_cleaned : (request : Asked) (said : Reply) (rows left : List Row) (work : WorkState) →
    CleanedGoes rows left work.cleaned (work_asked request said rows left work).cleaned
asked_cleaned request said rows left work = by (is_cleaning said) (cleans_all request && is_cleaning said)
  where
    by : (c b : Bool) → CleanedGoes rows left work.cleaned (without_removed c (removed_rows rows left) (cond b (condemned_all work) work)).cleaned
    by true true = inr refl
    by true false = inr refl
    by false true = inl refl
    by false false = inl refl

begun_cleaned : (point : Point) (caller : ℕ) (begun : Task) (refusal : Option FaultNote) →
    (work_begun point caller begun refusal).cleaned ≡ point.work.cleaned
begun_cleaned point caller (task.Make path stamp) None = refl
begun_cleaned point caller (task.Wipe path) None = refl
begun_cleaned point caller (task.Make path stamp) (Some note) = refl
begun_cleaned point caller (task.Wipe path) (Some note) = refl

ended_cleaned : (point : Point) (number : ℕ) (out : Outcome) (said : Reply) (o : Option Job) →
    (ended number out (answer_done point out said o).reply (answer_done point out said o).book.rows point.work o).cleaned ≡ point.work.cleaned
ended_cleaned point number out said None = refl
ended_cleaned point number out said (Some job) =
    let left : List Row = (answer_done point out said (Some job)).book.rows in
    let others : WorkState = record point.work { jobs = filter (is_other_job number) point.work.jobs } in
    task_leaves (λ (w : WorkState). (returned job.lent left w).cleaned ≡ point.work.cleaned) (next_number point) job.task out (recorded_as said) point.book
    others
    (λ dirty debris.
    part_leaves (λ (w : WorkState). w.cleaned ≡ point.work.cleaned) job.lent left (record others { dirty = dirty; debris = debris }) refl (λ more. refl))

event_cleaned : (point : Point) (caller moment : ℕ) (what : Event) (said : Reply) →
    CleanedGoes point.book.rows (answer point moment what said).book.rows point.work.cleaned
    (work_after point caller what (answer point moment what said)).cleaned
event_cleaned point caller moment (event.Asked request) said =
    let served = answer point moment (event.Asked request) said in asked_cleaned request served.reply point.book.rows served.book.rows point.work
event_cleaned point caller moment (event.Begin begun) said =
    inl (begun_cleaned point caller begun (refusal_note (answer point moment (event.Begin begun) said).reply))
event_cleaned point caller moment (event.Done number out) said = inl (ended_cleaned point number out said (running number point.work))

-- ---- they are no rows' stamps

-- each of some stamps has come, below the next number, and is no row's
abbrev pub AreGone : ℕ → List Row → List ℕ → Type 0
AreGone next rows stamps = (stamp : ℕ) → Contains stamps stamp → (stamp < next) × IsNoStamp rows stamp

-- those of rows that aren't left are gone
removed_gone : (next : ℕ) (rows left : List Row) → AreStampedBelow next rows → AreGone next left (map stamp_of (removed_rows rows left))
removed_gone next rows left stamped stamp among =
    let (row, within, is) = mapped_contains stamp_of (removed_rows rows left) stamp among in
    let (there, gone) = filtered_contains (is_gone left) rows row within in (
      subst (λ (n : ℕ). n < next) is (All-contains (λ (r : Row). r.stamp < next) rows row stamped.below there),
      subst (IsNoStamp left) is (not-true (list_any (has_stamp row.stamp) left) gone),
    )

-- what is gone stays gone by an entry
old_gone : (point : Point) (entry : Entry) (stamps : List ℕ) → are_apart point.book.rows ≡ true → AreGone (next_number point) point.book.rows stamps →
    AreGone (next_number point) (after point entry).book.rows stamps
old_gone point entry stamps apart gone stamp among =
    let (come, none) = gone stamp among in (come, stamp_gone point (entry ∷ []) stamp apart come none)

-- an entry leaves the stamps of rows that cleans removed gone
entry_gone : (point : Point) (entry : Entry) → are_apart point.book.rows ≡ true → AreStampedBelow (next_number point) point.book.rows →
    AreGone (next_number point) point.book.rows point.work.cleaned →
    AreGone (next_number (after point entry)) (after point entry).book.rows (after point entry).work.cleaned
entry_gone point entry apart stamped gone stamp among =
    let (come, none) = by (event_cleaned point entry.by.caller entry.now entry.event entry.reply) in
    (subst (λ (n : ℕ). stamp < n) (sym (next_more point entry)) (omega (arith, come)), none)
  where
    left : List Row
    left = (after point entry).book.rows

    removed : List ℕ
    removed = map stamp_of (removed_rows point.book.rows left)

    by : CleanedGoes point.book.rows left point.work.cleaned (after point entry).work.cleaned → (stamp < next_number point) × IsNoStamp left stamp
    by (inl same) = old_gone point entry point.work.cleaned apart gone stamp (subst (λ (ns : List ℕ). Contains ns stamp) same among)
    by (inr more) =
        elim (Contains-append_cases removed point.work.cleaned stamp (subst (λ (ns : List ℕ). Contains ns stamp) more among)) [
          | inl new ↦ removed_gone (next_number point) point.book.rows left stamped stamp new
          | inr old ↦ old_gone point entry point.work.cleaned apart gone stamp old
        ]

-- so does a history
pub history_gone : (point : Point) (later : List Entry) → are_apart point.book.rows ≡ true → AreStampedBelow (next_number point) point.book.rows →
    AreGone (next_number point) point.book.rows point.work.cleaned →
    AreGone (next_number (after_all point later)) (after_all point later).book.rows (after_all point later).work.cleaned
history_gone point [] apart stamped gone = gone
history_gone point (entry ∷ later) apart stamped gone =
    history_gone (after point entry) later (history_apart point (entry ∷ []) apart) (entry_stamps point entry apart stamped)
    (entry_gone point entry apart stamped gone)

-- from a right opening, at which no clean has removed a row, they are gone at each point
pub opening_gone : (opening : Opening) (history : List Entry) → IsOpening opening →
    AreGone (next_number (point_of opening history)) (point_of opening history).book.rows (point_of opening history).work.cleaned
opening_gone opening history right =
    history_gone (opened opening) history right.apart (opening_stamps opening [] right) (λ stamp among. absurd (omega (arith, among.1)))

-- a row's stamp is among none that are gone
gone_apart : (next : ℕ) (rows : List Row) (stamps : List ℕ) (row : Row) → AreGone next rows stamps → Contains rows row →
    list_any (is_same_stamp row.stamp) stamps ≡ false
gone_apart next rows stamps row gone among =
    none_passes (is_same_stamp row.stamp) stamps
    (λ stamp within.
    false_from_ne_true (stamp == row.stamp)
    (λ same.
    both_ways (row.stamp == stamp) (each_fails (has_stamp stamp) rows row (gone stamp within).1 among)
    (eq-eqb row.stamp stamp (sym (eqb-true stamp row.stamp same)))))

-- at each point of a history from a right opening, no row has the stamp of a row that a clean removed
pub cleaned_apart : (opening : Opening) (history : List Entry) → IsOpening opening → (row : Row) → Contains (point_of opening history).book.rows row →
    list_any (is_same_stamp row.stamp) (point_of opening history).work.cleaned ≡ false
cleaned_apart opening history right row among =
    let point = point_of opening history in
    gone_apart (next_number point) point.book.rows point.work.cleaned row (opening_gone opening history right) among

-- nor has a row at a core's point
pub seen_cleaned : {D K : Type 0} (told : D → ToldDisk) (stored : K → ToldStore) (seen : Seen D K) → IsSeen told stored seen →
    (row : Row) → Contains (point_in seen).book.rows row → list_any (is_same_stamp row.stamp) (point_in seen).work.cleaned ≡ false
seen_cleaned told stored seen is row among = cleaned_apart seen.base.opening.value seen.history is.opening row among
