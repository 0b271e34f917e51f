-- A kept row that some entries leave alone stays kept.
use Rattle.mat_path.proofs.Elements.{contains_cases, contains_filter, contains_first, contains_more, filtered_contains}
use Rattle.mat_path.proofs.SameNames.{same_names-eq}
use Rattle.std.proofs.Common.{◌≡◌, ◌≢◌, ℕ, ◌==◌, true, false, not, ◌&&◌, List, [], ◌∷◌, Option, Some, None, cond, inl, inr, refl, sym, ap, subst, ◌∙◌, map, find, Contains, arith}
use Rattle.std.specs.List.{filter, list_any}
use Rattle.std.proofs.lemmas.Bool.{and_parts}
use Rattle.mat_path.specs.Names.{same_names}
use Rattle.mat_model.specs.declared.answers.FaultNote.{FaultNote}
use Rattle.mat_model.specs.declared.answers.Recorded.{Recorded}
use Rattle.mat_model.specs.declared.answers.Recorded.TheVariants as recorded
use Rattle.mat_model.specs.declared.answers.Reply.{Reply}
use Rattle.mat_model.specs.declared.answers.Reply.TheVariants as reply
use Rattle.mat_model.specs.declared.book.Row.{Row}
use Rattle.mat_model.specs.declared.entries.Entry.{Entry}
use Rattle.mat_model.specs.declared.entries.Event.{Event}
use Rattle.mat_model.specs.declared.entries.Event.TheVariants as event
use Rattle.mat_model.specs.declared.entries.Outcome.{Outcome}
use Rattle.mat_model.specs.declared.entries.Task.{Task}
use Rattle.mat_model.specs.declared.entries.Task.TheVariants as task
use Rattle.mat_model.specs.declared.requests.Asked.{Asked}
use Rattle.mat_model.specs.Cleaning.{gone_row, stale}
use Rattle.mat_model.specs.Declarations.{new_row, replace_rows}
use Rattle.mat_model.specs.Gate.{Served}
use Rattle.mat_model.specs.History.{Point, after, after_all, answer, answer_done, begin_with, is_keeper, kept_after, kept_ended, next_number, recorded_as, refusal_note, request_context}
use Rattle.mat_model.specs.Kept.{KeptRow, is_due, is_kept_clear, is_unlisted, kept_asked, kept_done, kept_row, overlaps_kept, put_kept, store_rows}
use Rattle.mat_model.specs.Legal.{IsEach}
use Rattle.mat_model.specs.Requests.{at_moment}
use Rattle.mat_model.specs.Rows.{comes_before, is_at_path}
use Rattle.mat_model.specs.Work.{end_make, finish, is_declared, make_ended}
use Rattle.mat_model.specs.WorkState.{Job, path_of_task, running}
use Rattle.model_laws.specs.KeptRules.{IsLeftAlone, LeavesAlone}
use Rattle.model_laws.proofs.RowCases.{IsQuiet, cleaned_served, either_served, event_served, flushed_served, invalid_served}

-- a kept row stays where one is put, and where rows are stored, at other paths
put_stays : (new : KeptRow) (kept : List KeptRow) (k : KeptRow) → new.path ≢ k.path → Contains kept k → Contains (put_kept new kept) k
put_stays new [] k differs (n, within, at) = absurd (omega (arith, within))
put_stays new (row ∷ kept) k differs among =
    elim (same_names new.path row.path) as
    (λ b. same_names new.path row.path ≡ b →
    Contains (cond b (new ∷ kept) (cond (comes_before new.path row.path) (new ∷ row ∷ kept) (row ∷ put_kept new kept))) k) [
      | true ↦ λ same.
          elim (contains_cases row kept k among) [
            | inl one ↦ absurd (differs (same_names-eq new.path row.path same ∙ ap (λ (r : KeptRow). r.path) one))
            | inr more ↦ contains_more new kept k more
          ]
      | false ↦ λ other.
          elim (comes_before new.path row.path) as (λ b. Contains (cond b (new ∷ row ∷ kept) (row ∷ put_kept new kept)) k) [
            | true ↦ contains_more new (row ∷ kept) k among
            | false ↦
                elim (contains_cases row kept k among) [
                  | inl one ↦ subst (λ (r : KeptRow). Contains (row ∷ put_kept new kept) r) one (contains_first row (put_kept new kept))
                  | inr more ↦ contains_more row (put_kept new kept) k (put_stays new kept k differs more)
                ]
          ]
    ] refl

store_stays : (some : List Row) (kept : List KeptRow) (k : KeptRow) → ((row : Row) → Contains some row → row.path ≢ k.path) → Contains kept k →
    Contains (store_rows some kept) k
store_stays [] kept k differ among = among
store_stays (row ∷ some) kept k differ among =
    store_stays some (put_kept (kept_row row) kept) k (λ other within. differ other (contains_more row some other within))
    (put_stays (kept_row row) kept k (differ row (contains_first row some)) among)

-- it stays where a request leaves it alone
asked_stays : (point : Point) (moment : ℕ) (request : Asked) (said : Reply) (k : KeptRow) → Contains point.kept k →
    IsLeftAlone point (event.Asked request) (answer point moment (event.Asked request) said) k.path →
    Contains (kept_after point (event.Asked request) (answer point moment (event.Asked request) said)) k
asked_stays point moment request said k among =
    event_served (Stays request) point moment request said (record {
      same = λ served rows quiet. still served quiet;
      uses = λ served path rows quiet. still served quiet;
      puts = λ command path tree is has placed quiet.
          still (replace_rows (next_number point) command path (new_row (next_number point) (at_moment moment point.book).now path tree)
          (at_moment moment point.book)) quiet;
      invalid = λ command path is.
          subst (λ (r : Asked). Stays r (invalid_served (next_number point) path (at_moment moment point.book))) (sym is)
          (λ alone. contains_filter (is_kept_clear path) point.kept k (ap not (alone.valid command _ path refl refl)) among);
      cleans = λ cutoff how strays is.
          subst (λ (r : Asked). Stays r (cleaned_served (next_number point) cutoff strays (at_moment moment point.book))) (sym is)
          (λ alone.
          contains_filter (is_unlisted (map gone_row (stale cutoff (at_moment moment point.book)))) point.kept k (ap not (alone.spared _ strays refl)) among);
      flushes = λ is.
          subst (λ (r : Asked). Stays r (flushed_served (request_context point).due (at_moment moment point.book))) (sym is)
          (λ alone.
          store_stays (filter (is_due point.kept) point.book.rows) point.kept k
          (λ row within.
          let (stored, due) = filtered_contains (is_due point.kept) point.book.rows row within in
          alone.flushed row (request_context point).due refl stored due)
          among);
    })
  where
    Stays : Asked → Served → Type 0
    Stays r served =
        IsLeftAlone point (event.Asked r) served k.path → Contains (kept_asked r served.reply served.book.rows point.kept) k

    still : (served : Served) → IsQuiet request served → Stays request served
    still served quiet alone = subst (λ (ks : List KeptRow). Contains ks k) (sym (quiet.kept point.kept)) among

-- and where the end of a job does
done_stays : (point : Point) (number : ℕ) (out : Outcome) (how : Recorded) (job : Job) (k : KeptRow) → Contains point.kept k →
    running number point.work ≡ Some job → (begun : Task) → job.task ≡ begun →
    IsLeftAlone point (event.Done number out) (finish (next_number point) begun out how point.book) k.path →
    Contains (kept_done begun (finish (next_number point) begun out how point.book).reply (finish (next_number point) begun out how point.book).book.rows
    point.kept) k
done_stays point number out how job k among runs (task.Make path stamp) is = by (find (is_declared path stamp) point.book.rows) how
  where
    by : (o : Option Row) (was : Recorded) →
        IsLeftAlone point (event.Done number out) (end_make (next_number point) path out was point.book o) k.path →
        Contains (kept_done (task.Make path stamp) (end_make (next_number point) path out was point.book o).reply
        (end_make (next_number point) path out was point.book o).book.rows point.kept) k
    by None was alone = among
    by (Some row) recorded.Kept alone =
        let rows : List Row = (make_ended (next_number point) path row out point.book).rows in
        store_stays (filter (is_declared path stamp) rows) point.kept k
        (λ one within same.
        let parts = and_parts (is_at_path path one) (one.stamp == stamp) (filtered_contains (is_declared path stamp) rows one within).1 in
        let paths : path ≡ k.path = sym (same_names-eq one.path path parts.0) ∙ same in
        alone.made number stamp out job refl runs (subst (λ (p : List (List ℕ)). job.task ≡ task.Make p stamp) paths is) refl)
        among
    by (Some row) (recorded.NotKept note) alone = among
    by (Some row) recorded.NoMemory alone = among
    by (Some row) recorded.Nothing alone = among
done_stays point number out how job k among runs (task.Wipe path) is = λ alone. among

event_stays : (point : Point) (moment : ℕ) (what : Event) (said : Reply) (k : KeptRow) → Contains point.kept k →
    IsLeftAlone point what (answer point moment what said) k.path → Contains (kept_after point what (answer point moment what said)) k
event_stays point moment (event.Asked request) said k among = asked_stays point moment request said k among
event_stays point moment (event.Begin begun) said k among = begins (refusal_note said)
  where
    starts : IsLeftAlone point (event.Begin begun) (record { reply = reply.Started; book = point.book }) k.path →
        Contains (filter (is_kept_clear (path_of_task begun)) point.kept) k
    starts alone = contains_filter (is_kept_clear (path_of_task begun)) point.kept k (ap not (alone.free begun refl refl)) among

    begins : (o : Option FaultNote) → IsLeftAlone point (event.Begin begun) (begin_with point begun o) k.path →
        Contains (kept_after point (event.Begin begun) (begin_with point begun o)) k
    begins None = starts
    begins (Some note) =
        either_served
        (λ (served : Served). IsLeftAlone point (event.Begin begun) served k.path → Contains (kept_after point (event.Begin begun) served) k)
        (is_keeper note.device && list_any (overlaps_kept (path_of_task begun)) point.kept) _ _
        (λ failed alone. among)
        (λ calm. starts)
event_stays point moment (event.Done number out) said k among = ends (running number point.work) refl
  where
    ends : (o : Option Job) → running number point.work ≡ o → IsLeftAlone point (event.Done number out) (answer_done point out said o) k.path →
        Contains (kept_ended o (answer_done point out said o) point.kept) k
    ends None runs = λ alone. among
    ends (Some job) runs = done_stays point number out (recorded_as said) job k among runs job.task refl

-- a kept row that all of some entries leave alone stays kept
pub history_stays : (point : Point) (later : List Entry) (kept : KeptRow) → Contains point.kept kept → IsEach (LeavesAlone kept.path) point later →
    Contains (after_all point later).kept kept
history_stays point [] kept among alone = among
history_stays point (entry ∷ later) kept among alone =
    history_stays (after point entry) later kept (event_stays point entry.now entry.event entry.reply kept among alone.0) alone.1
