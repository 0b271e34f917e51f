-- What entries do to the kept rows, and the calls of the state store that go with them.
use Rattle.std.proofs.Common.{ap₂, ◌≡◌, ℕ, ◌==◌, Bool, true, false, ◌&&◌, inl, inr, cond, List, [], ◌∷◌, Option, Some, None, refl, sym, ap, subst, ◌∙◌, map, find, Contains, arith}
use Rattle.std.proofs.lemmas.Bool.{and_from, and_parts, eq-eqb}
use Rattle.std.specs.List.{filter, list_any}
use Rattle.mat_path.proofs.Elements.{contains_cases, contains_filter, contains_first, contains_map, filtered_contains}
use Rattle.mat_path.proofs.SameNames.{same_names-eq, same_names-refl}
use Rattle.mat_model.specs.declared.answers.FaultNote.{FaultNote}
use Rattle.mat_model.specs.declared.answers.Gone.{Gone}
use Rattle.mat_model.specs.declared.answers.Recorded.{Recorded}
use Rattle.mat_model.specs.declared.answers.Recorded.TheVariants as recorded
use Rattle.mat_model.specs.declared.answers.Reply.{Reply}
use Rattle.mat_model.specs.declared.answers.Reply.TheVariants as reply
use Rattle.mat_model.specs.declared.book.Book.{Book}
use Rattle.mat_model.specs.declared.book.Row.{Row}
use Rattle.mat_model.specs.declared.entries.Entry.{Entry}
use Rattle.mat_model.specs.declared.entries.Event.{Event}
use Rattle.mat_model.specs.declared.entries.Event.TheVariants as event
use Rattle.mat_model.specs.declared.entries.Outcome.{Outcome}
use Rattle.mat_model.specs.declared.entries.Outcome.TheVariants as outcome
use Rattle.mat_model.specs.declared.entries.Task.{Task}
use Rattle.mat_model.specs.declared.entries.Task.TheVariants as task
use Rattle.mat_model.specs.declared.requests.Asked.{Asked}
use Rattle.mat_model.specs.declared.requests.Asked.TheVariants as asked
use Rattle.mat_model.specs.declared.requests.CleanMode.{CleanMode}
use Rattle.mat_model.specs.Gate.{Served}
use Rattle.mat_model.specs.History.{Point, after, answer, answer_done, begin_with, is_keeper, is_store_fault, kept_after, kept_ended, kept_started, next_number, recorded_as, refusal_note}
use Rattle.mat_model.specs.Kept.{KeptRow, is_due, is_listed, kept_asked, kept_begun, kept_done, kept_row, may_fail, overlaps_kept, store_rows}
use Rattle.mat_model.specs.Rows.{are_apart, is_at_path, standing_row}
use Rattle.mat_model.specs.Work.{end_make, finish, is_declared, make_ended}
use Rattle.mat_model.specs.WorkState.{Job, path_of_task, running}
use Rattle.model_laws.specs.KeptRules.{KeptAscend}
use Rattle.model_laws.specs.RowRules.{served_at}
use Rattle.model_laws.specs.StoredRules.{IsStored}
use Rattle.model_laws.proofs.ApartLemmas.{history_apart}
use Rattle.model_laws.proofs.RowCases.{either_served, event_served}
use Rattle.keep_port.specs.Rows.{put_all, remove_all, touch_all}
use Rattle.keep_port.specs.declared.row.RawRow.{RawRow}
use Rattle.core_laws.specs.Stored.{AreDropped, AreSplit, IsReadable, IsStore, leaves_kept, raw_of, raw_row, touch_of}
use Rattle.core_laws.proofs.StoreSteps.{apart_once, same_stored, store_flushed, store_put, store_removed, store_same}

-- ---- kept rows that stay

-- what was served for an event leaves the kept rows, if its reply says so
abbrev LeavesKept : Point → Event → Served → Type 0
LeavesKept point what served = leaves_kept served.reply ≡ true → kept_after point what served ≡ point.kept

asked_leaves : (point : Point) (moment : ℕ) (request : Asked) (said : Reply) →
    LeavesKept point (event.Asked request) (answer point moment (event.Asked request) said)
asked_leaves point moment request said =
    event_served (LeavesKept point (event.Asked request)) point moment request said (record {
      same = λ served is quiet leaves. quiet.kept point.kept;
      uses = λ served path is quiet leaves. quiet.kept point.kept;
      puts = λ command path tree is has placed quiet leaves. quiet.kept point.kept;
      invalid = λ command path is leaves. absurd cc;
      cleans = λ cutoff mode strays is leaves. absurd cc;
      flushes = λ is leaves. absurd cc;
    })

begin_leaves : (point : Point) (begun : Task) (o : Option FaultNote) → LeavesKept point (event.Begin begun) (begin_with point begun o)
begin_leaves point begun None = λ leaves. absurd cc
begin_leaves point begun (Some note) =
    either_served (LeavesKept point (event.Begin begun)) (is_keeper note.device && list_any (overlaps_kept (path_of_task begun)) point.kept) _ _
    (λ failed leaves. refl) (λ calm leaves. absurd cc)

finish_leaves : (point : Point) (begun : Task) (out : Outcome) (how : Recorded) →
    leaves_kept (finish (next_number point) begun out how point.book).reply ≡ true →
    kept_done begun (finish (next_number point) begun out how point.book).reply (finish (next_number point) begun out how point.book).book.rows point.kept
    ≡ point.kept
finish_leaves point (task.Make path stamp) out how = by (find (is_declared path stamp) point.book.rows) how
  where
    by : (o : Option Row) (was : Recorded) → leaves_kept (end_make (next_number point) path out was point.book o).reply ≡ true →
        kept_done (task.Make path stamp) (end_make (next_number point) path out was point.book o).reply
        (end_make (next_number point) path out was point.book o).book.rows point.kept ≡ point.kept
    by None was leaves = refl
    by (Some row) recorded.Kept leaves = absurd cc
    by (Some row) (recorded.NotKept note) leaves = refl
    by (Some row) recorded.NoMemory leaves = refl
    by (Some row) recorded.Nothing leaves = refl
finish_leaves point (task.Wipe path) out how = λ leaves. refl

done_leaves : (point : Point) (out : Outcome) (said : Reply) (o : Option Job) → leaves_kept (answer_done point out said o).reply ≡ true →
    kept_ended o (answer_done point out said o) point.kept ≡ point.kept
done_leaves point out said None leaves = refl
done_leaves point out said (Some job) leaves = finish_leaves point job.task out (recorded_as said) leaves

-- an entry whose reply says so leaves the kept rows
pub entry_leaves : (point : Point) (entry : Entry) → leaves_kept (served_at point entry).reply ≡ true → (after point entry).kept ≡ point.kept
entry_leaves point entry = by entry.event
  where
    by : (what : Event) → LeavesKept point what (answer point entry.now what entry.reply)
    by (event.Asked request) = asked_leaves point entry.now request entry.reply
    by (event.Begin begun) = begin_leaves point begun (refusal_note entry.reply)
    by (event.Done number out) = done_leaves point out entry.reply (running number point.work)

pub entry_store : (identity : ℕ) (point : Point) (entry : Entry) (rows : List RawRow) → leaves_kept (served_at point entry).reply ≡ true →
    IsStore identity point.kept rows → IsStore identity (after point entry).kept rows
entry_store identity point entry rows leaves store =
    subst (λ (ks : List KeptRow). IsStore identity ks rows) (sym (entry_leaves point entry leaves)) store

-- ---- kept rows that go

begun_kept : (point : Point) (entry : Entry) (begun : Task) → entry.event ≡ event.Begin begun → refusal_note (served_at point entry).reply ≡ None →
    (after point entry).kept ≡ kept_begun begun point.kept
begun_kept point entry begun is none =
    subst (λ (e : Event). kept_after point e (served_at point entry) ≡ kept_begun begun point.kept) (sym is)
    (ap (λ (o : Option FaultNote). kept_started begun o point.kept) none)

pub begin_store : (identity : ℕ) (point : Point) (entry : Entry) (begun : Task) (rows : List RawRow) (paths : List (List (List ℕ))) →
    entry.event ≡ event.Begin begun → refusal_note (served_at point entry).reply ≡ None →
    AreDropped (overlaps_kept (path_of_task begun)) point.kept paths → IsStore identity point.kept rows →
    IsStore identity (after point entry).kept (remove_all rows paths)
begin_store identity point entry begun rows paths is none dropped store =
    subst (λ (ks : List KeptRow). IsStore identity ks (remove_all rows paths)) (sym (begun_kept point entry begun is none))
    (store_removed identity (overlaps_kept (path_of_task begun)) point.kept rows paths dropped store)

-- what a request leaves, by its reply
asked_kept : (point : Point) (entry : Entry) (request : Asked) (said : Reply) → entry.event ≡ event.Asked request → (served_at point entry).reply ≡ said →
    (after point entry).kept ≡ kept_asked request said (served_at point entry).book.rows point.kept
asked_kept point entry request said is told =
    subst (λ (e : Event). kept_after point e (served_at point entry) ≡ kept_asked request said (served_at point entry).book.rows point.kept) (sym is)
    (ap (λ (r : Reply). kept_asked request r (served_at point entry).book.rows point.kept) told)

pub invalidate_store : (identity : ℕ) (point : Point) (entry : Entry) (command count : ℕ) (path : List (List ℕ)) (rows : List RawRow)
    (paths : List (List (List ℕ))) → entry.event ≡ event.Asked (asked.Invalidate command path) → (served_at point entry).reply ≡ reply.Invalid count →
    AreDropped (overlaps_kept path) point.kept paths → IsStore identity point.kept rows → IsStore identity (after point entry).kept (remove_all rows paths)
invalidate_store identity point entry command count path rows paths is told dropped store =
    subst (λ (ks : List KeptRow). IsStore identity ks (remove_all rows paths))
    (sym (asked_kept point entry (asked.Invalidate command path) (reply.Invalid count) is told))
    (store_removed identity (overlaps_kept path) point.kept rows paths dropped store)

pub clean_store : (identity : ℕ) (point : Point) (entry : Entry) (cutoff : ℕ) (mode : CleanMode) (gone : List Gone) (strays : List (List (List ℕ)))
    (rows : List RawRow) (paths : List (List (List ℕ))) → entry.event ≡ event.Asked (asked.Clean cutoff mode) →
    (served_at point entry).reply ≡ reply.Cleaned false gone strays → AreDropped (is_listed gone) point.kept paths → IsStore identity point.kept rows →
    IsStore identity (after point entry).kept (remove_all rows paths)
clean_store identity point entry cutoff mode gone strays rows paths is told dropped store =
    subst (λ (ks : List KeptRow). IsStore identity ks (remove_all rows paths))
    (sym (asked_kept point entry (asked.Clean cutoff mode) (reply.Cleaned false gone strays) is told))
    (store_removed identity (is_listed gone) point.kept rows paths dropped store)

-- ---- kept rows that come

-- a flush leaves the rows of the book
flush_rows : (point : Point) (moment : ℕ) (said : Reply) → (answer point moment (event.Asked asked.Flush) said).book.rows ≡ point.book.rows
flush_rows point moment said =
    either_served (λ (served : Served). served.book.rows ≡ point.book.rows) (may_fail asked.Flush point.book point.kept && is_store_fault said) _ _
    (λ failed. refl) (λ calm. refl)

pub flush_store : (identity : ℕ) (point : Point) (entry : Entry) (count : ℕ) (written changed : List Row) (rows : List RawRow) →
    are_apart point.book.rows ≡ true → IsStored point.book.rows point.work.jobs point.kept → entry.event ≡ event.Asked asked.Flush →
    (served_at point entry).reply ≡ reply.Flushed count → AreSplit point.kept (filter (is_due point.kept) point.book.rows) written changed →
    ((row : Row) → Contains written row → IsReadable (kept_row row)) → IsStore identity point.kept rows →
    IsStore identity (after point entry).kept (touch_all (put_all rows (map (raw_of identity) written)) (map touch_of changed))
flush_store identity point entry count written changed rows apart stored is told split sound store =
    subst (λ (ks : List KeptRow). IsStore identity ks (touch_all (put_all rows (map (raw_of identity) written)) (map touch_of changed)))
    (sym (asked_kept point entry asked.Flush (reply.Flushed count) is told
    ∙ ap (λ (rs : List Row). store_rows (filter (is_due point.kept) rs) point.kept) same))
    (store_flushed identity point.book.rows point.work.jobs point.kept written changed rows apart stored split sound store)
  where
    same : (served_at point entry).book.rows ≡ point.book.rows
    same =
        subst (λ (e : Event). (answer point entry.now e entry.reply).book.rows ≡ point.book.rows) (sym is)
        (flush_rows point entry.now entry.reply)

-- the make of a row ended, and the row was recorded
recorded_kept : (point : Point) (entry : Entry) (number : ℕ) (out : Outcome) (job : Job) (path : List (List ℕ)) (stamp : ℕ) →
    entry.event ≡ event.Done number out → running number point.work ≡ Some job → job.task ≡ task.Make path stamp →
    (served_at point entry).reply ≡ reply.Fresh recorded.Kept →
    (after point entry).kept ≡ store_rows (filter (is_declared path stamp) (after point entry).book.rows) point.kept
recorded_kept point entry number out job path stamp is runs makes told =
    subst (λ (e : Event). kept_after point e (served_at point entry) ≡ stored) (sym is)
    (subst (λ (o : Option Job). kept_ended o (served_at point entry) point.kept ≡ stored) (sym runs)
    (subst (λ (t : Task). kept_done t (served_at point entry).reply (served_at point entry).book.rows point.kept ≡ stored) (sym makes)
    (ap (λ (r : Reply). kept_done (task.Make path stamp) r (served_at point entry).book.rows point.kept) told)))
  where
    stored : List KeptRow
    stored = store_rows (filter (is_declared path stamp) (served_at point entry).book.rows) point.kept

recorded_store : (identity : ℕ) (point : Point) (entry : Entry) (number : ℕ) (out : Outcome) (job : Job) (row : Row) (rows : List RawRow) →
    are_apart (after point entry).book.rows ≡ true → KeptAscend point.kept → entry.event ≡ event.Done number out → running number point.work ≡ Some job →
    job.task ≡ task.Make row.path row.stamp → (served_at point entry).reply ≡ reply.Fresh recorded.Kept → Contains (after point entry).book.rows row →
    IsReadable (kept_row row) → IsStore identity point.kept rows →
    IsStore identity (after point entry).kept (put_all rows (raw_of identity row ∷ []))
recorded_store identity point entry number out job row rows apart asc is runs makes told among sound store =
    subst (λ (ks : List KeptRow). IsStore identity ks (put_all rows (raw_of identity row ∷ [])))
    (sym (recorded_kept point entry number out job row.path row.stamp is runs makes told))
    (store_same identity (store_rows (row ∷ []) point.kept) (store_rows made point.kept) (put_all rows (raw_of identity row ∷ []))
    (λ one. same_stored (row ∷ []) made point.kept one asc (λ a b first second same. sym (only a first) ∙ only b second)
    (λ other within. subst (Contains made) (alone other within) there) (λ other within. subst (Contains (row ∷ [])) (only other within) (contains_first row [])))
    (λ one. same_stored made (row ∷ []) point.kept one asc (λ a b first second same. sym (alone a first) ∙ alone b second)
    (λ other within. subst (Contains (row ∷ [])) (only other within) (contains_first row [])) (λ other within. subst (Contains made) (alone other within) there))
    (store_put identity (row ∷ []) point.kept rows asc (λ other within. subst (λ (r : Row). IsReadable (kept_row r)) (alone other within) sound) store))
  where
    made : List Row
    made = filter (is_declared row.path row.stamp) (after point entry).book.rows

    there : Contains made row
    there =
        contains_filter (is_declared row.path row.stamp) (after point entry).book.rows row
        (and_from (is_at_path row.path row) (row.stamp == row.stamp) (same_names-refl row.path) (eq-eqb row.stamp row.stamp refl)) among

    alone : (other : Row) → Contains (row ∷ []) other → row ≡ other
    alone other within = elim (contains_cases row [] other within) [ inl same ↦ same | inr (k, inside, at) ↦ absurd (omega arith) ]

    only : (other : Row) → Contains made other → row ≡ other
    only other within =
        let (also, at) = filtered_contains (is_declared row.path row.stamp) (after point entry).book.rows other within in
        apart_once (after point entry).book.rows row other apart among also
        (sym (same_names-eq other.path row.path (and_parts (is_at_path row.path other) (other.stamp == row.stamp) at).0))

-- a row of the book is there once the make of it ended, and is stored as it is before
record IsThere (rows : List Row) (row : Row) : Type 0 where
  one : Row
  among : Contains rows one
  path : one.path ≡ row.path
  stamp : one.stamp ≡ row.stamp
  kept : kept_row one ≡ kept_row row

made_there : (number : ℕ) (path : List (List ℕ)) (found row : Row) (out : Outcome) (book : Book) → Contains book.rows row →
    IsThere (make_ended number path found out book).rows row
made_there number path found row outcome.Made book among = by (is_at_path path row) refl
  where
    by : (b : Bool) → is_at_path path row ≡ b → IsThere (map (standing_row path) book.rows) row
    by true at =
        let is : standing_row path row ≡ record row { stands = true } = ap (λ (b : Bool). cond {A = Row} b (record row { stands = true }) row) at in record {
          one = standing_row path row;
          among = contains_map (standing_row path) book.rows row among;
          path = ap (λ (r : Row). r.path) is;
          stamp = ap (λ (r : Row). r.stamp) is;
          kept = ap kept_row is;
        }
    by false off =
        let is : standing_row path row ≡ row = ap (λ (b : Bool). cond {A = Row} b (record row { stands = true }) row) off in record {
          one = standing_row path row;
          among = contains_map (standing_row path) book.rows row among;
          path = ap (λ (r : Row). r.path) is;
          stamp = ap (λ (r : Row). r.stamp) is;
          kept = ap kept_row is;
        }
made_there number path found row outcome.Wiped book among = record { one = row; among = among; path = refl; stamp = refl; kept = refl }
made_there number path found row (outcome.Missing digest) book among = record { one = row; among = among; path = refl; stamp = refl; kept = refl }
made_there number path found row (outcome.Corrupt wanted other) book among = record { one = row; among = among; path = refl; stamp = refl; kept = refl }
made_there number path found row (outcome.Fault note) book among = record { one = row; among = among; path = refl; stamp = refl; kept = refl }
made_there number path found row outcome.NoMemory book among = record { one = row; among = among; path = refl; stamp = refl; kept = refl }

finish_there : (number : ℕ) (path : List (List ℕ)) (stamp : ℕ) (out : Outcome) (how : Recorded) (row : Row) (book : Book) → Contains book.rows row →
    IsThere (finish number (task.Make path stamp) out how book).book.rows row
finish_there number path stamp out how row book among = by (find (is_declared path stamp) book.rows)
  where
    by : (o : Option Row) → IsThere (end_make number path out how book o).book.rows row
    by None = record { one = row; among = among; path = refl; stamp = refl; kept = refl }
    by (Some found) = made_there number path found row out book among

pub done_store : (identity : ℕ) (point : Point) (entry : Entry) (number : ℕ) (out : Outcome) (job : Job) (row : Row) (rows : List RawRow) →
    are_apart point.book.rows ≡ true → KeptAscend point.kept → entry.event ≡ event.Done number out → running number point.work ≡ Some job →
    job.task ≡ task.Make row.path row.stamp → (served_at point entry).reply ≡ reply.Fresh recorded.Kept → Contains point.book.rows row →
    IsReadable (kept_row row) → IsStore identity point.kept rows →
    IsStore identity (after point entry).kept (put_all rows (raw_of identity row ∷ []))
done_store identity point entry number out job row rows apart asc is runs makes told among sound store =
    subst (λ (k : KeptRow). IsStore identity (after point entry).kept (put_all rows (raw_row identity k ∷ []))) there.kept
    (recorded_store identity point entry number out job there.one rows (history_apart point (entry ∷ []) apart) asc is runs
    (makes ∙ ap₂ task.Make (sym there.path) (sym there.stamp)) told there.among
    (subst IsReadable (sym there.kept) sound) store)
  where
    there : IsThere (after point entry).book.rows row
    there =
        subst (λ (e : Event). IsThere (answer point entry.now e entry.reply).book.rows row) (sym is)
        (subst (λ (o : Option Job). IsThere (answer_done point out entry.reply o).book.rows row) (sym runs)
        (subst (λ (t : Task). IsThere (finish (next_number point) t out (recorded_as entry.reply) point.book).book.rows row) (sym makes)
        (finish_there (next_number point) row.path row.stamp out (recorded_as entry.reply) row point.book among)))
