-- Each row after an entry is the one that it declares, or one that was there.
use Rattle.mat_path.proofs.Elements.{filtered_contains, mapped_contains}
use Rattle.mat_path.proofs.Overlaps.{overlap-refl}
use Rattle.mat_path.proofs.SameNames.{same_names-eq}
use Rattle.std.proofs.Common.{◌≡◌, ℕ, ◌==◌, true, false, ◌⊎◌, ◌&&◌, List, Option, Some, None, cond, inl, inr, refl, sym, ap, subst, ◌∙◌, map, find, Contains}
use Rattle.std.specs.List.{list_any, filter}
use Rattle.std.proofs.lemmas.Bool.{and_parts, eqb-true}
use Rattle.mat_path.specs.Names.{overlap}
use Rattle.mat_model.specs.declared.answers.FaultNote.{FaultNote}
use Rattle.mat_model.specs.declared.answers.Recorded.{Recorded}
use Rattle.mat_model.specs.declared.answers.Reply.{Reply}
use Rattle.mat_model.specs.declared.answers.Reply.TheVariants as reply
use Rattle.mat_model.specs.declared.book.Row.{Row}
use Rattle.mat_model.specs.declared.entries.Entry.{Entry}
use Rattle.mat_model.specs.declared.entries.Event.{Event}
use Rattle.mat_model.specs.declared.entries.Event.TheVariants as event
use Rattle.mat_model.specs.declared.entries.Outcome.{Outcome}
use Rattle.mat_model.specs.declared.entries.Outcome.TheVariants as outcome
use Rattle.mat_model.specs.declared.entries.Task.{Task}
use Rattle.mat_model.specs.declared.entries.Task.TheVariants as task
use Rattle.mat_model.specs.declared.requests.Asked.{Asked}
use Rattle.mat_model.specs.Declarations.{new_row}
use Rattle.mat_model.specs.Gate.{Served}
use Rattle.mat_model.specs.History.{Point, after, answer, answer_done, begin_with, is_keeper, is_store_fault, next_number, recorded_as, refusal_note, request_context}
use Rattle.mat_model.specs.Kept.{may_fail, overlaps_kept}
use Rattle.mat_model.specs.Requests.{at_moment}
use Rattle.mat_model.specs.Rows.{are_apart, is_at_path, is_clear_of, standing_row, used, used_row}
use Rattle.mat_model.specs.Work.{end_make, finish, is_declared}
use Rattle.mat_model.specs.WorkState.{Job, path_of_task, running}
use Rattle.model_laws.specs.RowRules.{IsDeclaredBy, IsSameRow, RowStep, WasThere}
use Rattle.model_laws.proofs.BooksRows.{apart_same, put_row_cases}
use Rattle.model_laws.proofs.Elements.{found_contains, found_passes}
use Rattle.model_laws.proofs.RowCases.{RowCases, asked_says, either_served}

-- what a row is after an event with its reply, where these rows are left
abbrev pub Steps : Point → Event → Row → Reply → List Row → Type 0
Steps point what row said rows = Contains rows row → IsDeclaredBy point what said row ⊎ WasThere point what said row

-- a row is the same as itself, after a use, and after it came to stand
same_row : (row : Row) → IsSameRow row row
same_row row = record { path = refl; tree = refl; sum = refl; stamp = refl }

pub used_same : (path : List (List ℕ)) (now : ℕ) (row : Row) → IsSameRow row (used_row path now row) × ((used_row path now row).stands ≡ row.stands)
used_same path now row =
    elim (is_at_path path row) as
    (λ b. IsSameRow row (cond b (record row { last = now }) row) × ((cond b (record row { last = now }) row).stands ≡ row.stands)) [
      | true ↦ (record { path = refl; tree = refl; sum = refl; stamp = refl }, refl)
      | false ↦ (record { path = refl; tree = refl; sum = refl; stamp = refl }, refl)
    ]

-- a row that was there, as it was
there : (point : Point) (what : Event) (row : Row) (said : Reply) → Contains point.book.rows row → WasThere point what said row
there point what row said among = record { old = row; among = among; same = same_row row; stands = inl refl }

-- a row after a use
there_used : (point : Point) (what : Event) (row : Row) (said : Reply) (path : List (List ℕ)) (now : ℕ) →
    Contains (used path now point.book.rows) row → WasThere point what said row
there_used point what row said path now among =
    let (old, within, is) = mapped_contains (used_row path now) point.book.rows row among in
    subst (λ (r : Row). WasThere point what said r) is
    (record { old = old; among = within; same = (used_same path now old).0; stands = inl (used_same path now old).1 })

-- each row after a request
asked_steps : (point : Point) (moment : ℕ) (request : Asked) (row : Row) →
    RowCases (Steps point (event.Asked request) row) (next_number point) (at_moment moment point.book).now request point.book.rows
asked_steps point moment request row = record {
  same = λ said among. inr (there point (event.Asked request) row said among);
  uses = λ said path among. inr (there_used point (event.Asked request) row said path (at_moment moment point.book).now among);
  puts = λ path tree is has placed among.
      elim (put_row_cases (new_row (next_number point) (at_moment moment point.book).now path tree) (filter (is_clear_of path) point.book.rows) row among) [
        | inl same ↦ inl (subst (λ (r : Row). IsDeclaredBy point (event.Asked request) (reply.Declared (next_number point)) r) same (record {
          request = request;
          asks = refl;
          said = refl;
          path = is;
          tree = has;
          placed = placed;
          stamp = refl;
          lies = refl;
        }))
        | inr more ↦
            inr (there point (event.Asked request) row (reply.Declared (next_number point)) (filtered_contains (is_clear_of path) point.book.rows row more).0)
      ];
  removes = λ said left among. inr (there point (event.Asked request) row said (filtered_contains left point.book.rows row among).0);
}

-- each row after the end of a make that made a row: it was there, and where it came to stand it is the row that was made
made_steps : (point : Point) (number : ℕ) (job : Job) (path : List (List ℕ)) (stamp : ℕ) (how : Recorded) (made row : Row) →
    are_apart point.book.rows ≡ true → running number point.work ≡ Some job → job.task ≡ task.Make path stamp →
    find (is_declared path stamp) point.book.rows ≡ Some made →
    Contains (map (standing_row path) point.book.rows) row → WasThere point (event.Done number outcome.Made) (reply.Fresh how) row
made_steps point number job path stamp how made row apart runs is found among =
    let (old, within, same) = mapped_contains (standing_row path) point.book.rows row among in
    subst (WasThere point (event.Done number outcome.Made) (reply.Fresh how)) same
    (elim (is_at_path path old) as
    (λ b. is_at_path path old ≡ b → WasThere point (event.Done number outcome.Made) (reply.Fresh how) (cond b (record old { stands = true }) old)) [
      | true ↦ λ at.
          let parts = and_parts (is_at_path path made) (made.stamp == stamp) (found_passes (is_declared path stamp) point.book.rows made found) in
          let place : old.path ≡ path = same_names-eq old.path path at in
          let meets : overlap old.path made.path ≡ true =
          subst (λ (p : List (List ℕ)). overlap old.path p ≡ true) (place ∙ sym (same_names-eq made.path path parts.0)) (overlap-refl old.path) in
          let one : old ≡ made =
          apart_same point.book.rows old made apart within (found_contains (is_declared path stamp) point.book.rows made found) meets in
          let under : old.stamp ≡ stamp = ap (λ (r : Row). r.stamp) one ∙ eqb-true made.stamp stamp parts.1 in record {
            old = old;
            among = within;
            same = record { path = refl; tree = refl; sum = refl; stamp = refl };
            stands = inr (record {
              number = number;
              job = job;
              how = how;
              ends = refl;
              runs = runs;
              task = subst (λ (p : List (List ℕ)). job.task ≡ task.Make p old.stamp) (sym place)
                  (subst (λ (s : ℕ). job.task ≡ task.Make path s) (sym under) is);
              said = refl;
              stands = refl;
            });
          }
      | false ↦ λ off. there point (event.Done number outcome.Made) old (reply.Fresh how) within
    ] refl)

-- each row after the end of a job
ended_steps : (point : Point) (number : ℕ) (job : Job) (out : Outcome) (how : Recorded) (row : Row) → are_apart point.book.rows ≡ true →
    running number point.work ≡ Some job → (begun : Task) → job.task ≡ begun →
    Contains (finish (next_number point) begun out how point.book).book.rows row →
    WasThere point (event.Done number out) (finish (next_number point) begun out how point.book).reply row
ended_steps point number job out how row apart runs (task.Make path stamp) is among =
    made (find (is_declared path stamp) point.book.rows) refl out refl among
  where
    made : (o : Option Row) → find (is_declared path stamp) point.book.rows ≡ o → (out' : Outcome) → out ≡ out' →
        Contains (end_make (next_number point) path out' how point.book o).book.rows row →
        WasThere point (event.Done number out) (end_make (next_number point) path out' how point.book o).reply row
    made None found out' same within = there point (event.Done number out) row _ within
    made (Some one) found outcome.Made same within =
        subst (λ (o : Outcome). WasThere point (event.Done number o) (reply.Fresh how) row) (sym same)
        (made_steps point number job path stamp how one row apart runs is found within)
    made (Some one) found outcome.Wiped same within = there point (event.Done number out) row _ within
    made (Some one) found (outcome.Missing digest) same within = there point (event.Done number out) row _ within
    made (Some one) found (outcome.Corrupt wanted got) same within = there point (event.Done number out) row _ within
    made (Some one) found (outcome.Fault note) same within = there point (event.Done number out) row _ within
    made (Some one) found outcome.NoMemory same within = there point (event.Done number out) row _ within
ended_steps point number job outcome.Made how row apart runs (task.Wipe path) is among = there point (event.Done number outcome.Made) row _ among
ended_steps point number job outcome.Wiped how row apart runs (task.Wipe path) is among = there point (event.Done number outcome.Wiped) row _ among
ended_steps point number job (outcome.Missing digest) how row apart runs (task.Wipe path) is among =
    there point (event.Done number (outcome.Missing digest)) row _ among
ended_steps point number job (outcome.Corrupt wanted got) how row apart runs (task.Wipe path) is among =
    there point (event.Done number (outcome.Corrupt wanted got)) row _ among
ended_steps point number job (outcome.Fault note) how row apart runs (task.Wipe path) is among =
    there point (event.Done number (outcome.Fault note)) row _ among
ended_steps point number job outcome.NoMemory how row apart runs (task.Wipe path) is among =
    there point (event.Done number outcome.NoMemory) row _ among

-- each row after an event
event_steps : (point : Point) (moment : ℕ) (what : Event) (said : Reply) (row : Row) → are_apart point.book.rows ≡ true →
    Steps point what row (answer point moment what said).reply (answer point moment what said).book.rows
event_steps point moment (event.Asked request) said row apart =
    either_served (λ (served : Served). Steps point (event.Asked request) row served.reply served.book.rows)
    (may_fail request point.book point.kept && is_store_fault said) _ _
    (λ failed among. inr (there point (event.Asked request) row said among))
    (λ calm. asked_says (Steps point (event.Asked request) row) (next_number point) (request_context point) request (at_moment moment point.book)
    (asked_steps point moment request row))
event_steps point moment (event.Begin begun) said row apart = begins (refusal_note said)
  where
    begins : (o : Option FaultNote) → Steps point (event.Begin begun) row (begin_with point begun o).reply (begin_with point begun o).book.rows
    begins None = λ among. inr (there point (event.Begin begun) row reply.Started among)
    begins (Some note) =
        either_served (λ (served : Served). Steps point (event.Begin begun) row served.reply served.book.rows)
        (is_keeper note.device && list_any (overlaps_kept (path_of_task begun)) point.kept) _ _
        (λ failed among. inr (there point (event.Begin begun) row _ among))
        (λ calm among. inr (there point (event.Begin begun) row _ among))
event_steps point moment (event.Done number out) said row apart = ends (running number point.work) refl
  where
    ends : (o : Option Job) → running number point.work ≡ o →
        Steps point (event.Done number out) row (answer_done point out said o).reply (answer_done point out said o).book.rows
    ends None runs among = inr (there point (event.Done number out) row _ among)
    ends (Some job) runs among = inr (ended_steps point number job out (recorded_as said) row apart runs job.task refl among)

-- each row after an entry is the one that it declares, or one that was there
pub row_step : (point : Point) (entry : Entry) (row : Row) → are_apart point.book.rows ≡ true → Contains (after point entry).book.rows row →
    RowStep point entry row
row_step point entry row apart among = event_steps point entry.now entry.event entry.reply row apart among
