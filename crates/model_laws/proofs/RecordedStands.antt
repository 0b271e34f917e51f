-- What is recorded stands, where what counts is recorded exactly where a row was made.
use Rattle.mat_path.proofs.Elements.{mapped_contains}
use Rattle.mat_path.proofs.SameNames.{same_names-refl}
use Rattle.std.proofs.Common.{◌≡◌, ℕ, Bool, true, false, not, List, Option, Some, None, cond, inl, inr, refl, sym, ap, subst, ◌∙◌, map, find, Contains}
use Rattle.mat_path.specs.Names.{same_names}
use Rattle.mat_model.specs.declared.answers.Recorded.{Recorded}
use Rattle.mat_model.specs.declared.answers.Recorded.TheVariants as recorded
use Rattle.mat_model.specs.declared.answers.Reply.{Reply}
use Rattle.mat_model.specs.declared.answers.Reply.TheVariants as reply
use Rattle.mat_model.specs.declared.book.Book.{Book}
use Rattle.mat_model.specs.declared.book.Row.{Row}
use Rattle.mat_model.specs.declared.entries.Entry.{Entry}
use Rattle.mat_model.specs.declared.entries.Event.{Event}
use Rattle.mat_model.specs.declared.entries.Event.TheVariants as event
use Rattle.mat_model.specs.declared.entries.Outcome.{Outcome}
use Rattle.mat_model.specs.declared.entries.Outcome.TheVariants as outcome
use Rattle.mat_model.specs.declared.entries.Task.{Task}
use Rattle.mat_model.specs.declared.entries.Task.TheVariants as task
use Rattle.mat_model.specs.Gate.{Served}
use Rattle.mat_model.specs.History.{Point, answer, answer_done, next_number, recorded_as}
use Rattle.mat_model.specs.Kept.{KeptRow}
use Rattle.mat_model.specs.Legal.{IsRecorded, IsRecordedAs, IsReplied, is_made}
use Rattle.mat_model.specs.Rows.{is_at_path, standing_row}
use Rattle.mat_model.specs.Work.{end_make, finish, is_declared}
use Rattle.mat_model.specs.WorkState.{Job}
use Rattle.model_laws.specs.KeptRules.{IsMakeRecord, IsRecordedBy}
use Rattle.model_laws.specs.RowRules.{served_at}
use Rattle.model_laws.proofs.Changes.{standing-path}

-- the end of a job that was recorded made its row
made_it : (number : ℕ) (out : Outcome) → false ≡ not (is_made (event.Done number out)) → out ≡ outcome.Made
made_it number outcome.Made is = refl
made_it number outcome.Wiped is = absurd cc
made_it number (outcome.Missing digest) is = absurd cc
made_it number (outcome.Corrupt wanted found) is = absurd cc
made_it number (outcome.Fault note) is = absurd cc
made_it number outcome.NoMemory is = absurd cc

-- a row at a path that comes to stand stands
stands_at : (rows : List Row) (row : Row) → Contains (map (standing_row row.path) rows) row → row.stands ≡ true
stands_at rows row among =
    let (old, within, is) = mapped_contains (standing_row row.path) rows row among in
    let path : old.path ≡ row.path = sym (standing-path row.path old) ∙ ap (λ (r : Row). r.path) is in
    let at : is_at_path row.path old ≡ true =
    subst (λ (p : List (List ℕ)). same_names p row.path ≡ true) (sym path) (same_names-refl row.path) in
    sym (ap (λ (r : Row). r.stands) is) ∙ ap (λ (b : Bool). (cond b (record old { stands = true }) old).stands) at

-- a row at the path of a make that made its row stands afterwards
stands_made : (number : ℕ) (stamp : ℕ) (how : Recorded) (book : Book) (row : Row) →
    (finish number (task.Make row.path stamp) outcome.Made how book).reply ≡ reply.Fresh recorded.Kept →
    Contains (finish number (task.Make row.path stamp) outcome.Made how book).book.rows row → row.stands ≡ true
stands_made number stamp how book row = by (find (is_declared row.path stamp) book.rows)
  where
    by : (o : Option Row) → (end_make number row.path outcome.Made how book o).reply ≡ reply.Fresh recorded.Kept →
        Contains (end_make number row.path outcome.Made how book o).book.rows row → row.stands ≡ true
    by None told among = absurd cc
    by (Some one) told among = stands_at book.rows row among

-- a row that the end of a make recorded stands
make_record_stands : (point : Point) (entry : Entry) (row : Row) → IsReplied point entry → IsRecorded point entry →
    IsMakeRecord point entry.event (served_at point entry) row → Contains (served_at point entry).book.rows row → row.stands ≡ true
make_record_stands point entry row replied counted made among =
    let kept : entry.reply ≡ reply.Fresh recorded.Kept = replied ∙ made.told in
    let right : IsRecordedAs (event.Done made.number made.out) (reply.Fresh recorded.Kept) =
    subst (λ (r : Reply). IsRecordedAs (event.Done made.number made.out) r) kept
    (subst (λ (what : Event). IsRecordedAs what entry.reply) made.ends counted) in
    let served : served_at point entry
    ≡ finish (next_number point) (task.Make row.path row.stamp) outcome.Made (recorded_as entry.reply) point.book =
    ap (λ (what : Event). answer point entry.now what entry.reply) made.ends
    ∙ ap (λ (o : Option Job). answer_done point made.out entry.reply o) made.runs
    ∙ ap (λ (t : Task). finish (next_number point) t made.out (recorded_as entry.reply) point.book) made.task
    ∙ ap (λ (out : Outcome). finish (next_number point) (task.Make row.path row.stamp) out (recorded_as entry.reply) point.book)
    (made_it made.number made.out right) in
    stands_made (next_number point) row.stamp (recorded_as entry.reply) point.book row
    (sym (ap (λ (s : Served). s.reply) served) ∙ made.told)
    (subst (λ (s : Served). Contains s.book.rows row) served among)

-- a row that was recorded stands
pub record_stands : (point : Point) (entry : Entry) (kept : KeptRow) → IsReplied point entry → IsRecorded point entry →
    (by : IsRecordedBy point entry.event (served_at point entry) kept) → by.row.stands ≡ true
record_stands point entry kept replied counted by =
    elim by.how [
      | inl made ↦ make_record_stands point entry by.row replied counted made by.among
      | inr flushed ↦ flushed.stands
    ]
