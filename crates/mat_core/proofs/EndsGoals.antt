-- The end of a job that came back: what holds of it, and of the parts behind its entry.
use Rattle.std.proofs.Common.{◌≡◌, ◌≤◌, ℕ, ◌==◌, ◌&&◌, Bool, true, false, not, cond, List, [], ◌∷◌, find, Contains, Option, Some, None, refl, sym, ap, ap₂, subst, ◌∙◌, arith}
use Rattle.std.specs.Option.{ForSome, is_some, option_map}
use Rattle.std.proofs.lemmas.Bool.{both_ways, eqb-true}
use Rattle.hall_lock.specs.declared.By.{By}
use Rattle.mat_path.proofs.Elements.{contains_map}
use Rattle.mat_path.proofs.SameNames.{same_names-eq}
use Rattle.mat_model.specs.declared.answers.Answer.{Answer}
use Rattle.mat_model.specs.declared.answers.Recorded.{Recorded}
use Rattle.mat_model.specs.declared.answers.Recorded.TheVariants as recorded
use Rattle.mat_model.specs.declared.answers.Reply.{Reply}
use Rattle.mat_model.specs.declared.answers.Reply.TheVariants as reply
use Rattle.mat_model.specs.declared.book.Row.{Row}
use Rattle.mat_model.specs.declared.entries.Entry.{Entry}
use Rattle.mat_model.specs.declared.entries.Event.TheVariants as event
use Rattle.mat_model.specs.declared.entries.Outcome.{Outcome}
use Rattle.mat_model.specs.declared.entries.Task.{Task}
use Rattle.mat_model.specs.declared.entries.Task.TheVariants as task
use Rattle.mat_model.specs.History.{Point, after, answer_done, next_number, recorded_as}
use Rattle.mat_model.specs.Kept.{kept_row}
use Rattle.mat_model.specs.Legal.{is_nothing, note_recorded}
use Rattle.mat_model.specs.Work.{end_make, finish, is_declared}
use Rattle.mat_model.specs.WorkState.{Job, running as running_of}
use Rattle.model_laws.specs.PointRules.{IsPoint}
use Rattle.model_laws.specs.RowRules.{served_at}
use Rattle.model_laws.specs.TicketRules.{failure_of_make}
use Rattle.model_laws.proofs.Elements.{found_contains, found_passes}
use Rattle.keep_port.specs.Rows.{put_all}
use Rattle.keep_port.specs.declared.row.RawRow.{RawRow}
use Rattle.core_laws.specs.Stored.{IsReadable, IsStore, leaves_by, leaves_kept, raw_of}
use Rattle.core_laws.proofs.StoreMoves.{done_store, entry_store}
use Rattle.core_laws.proofs.StoreSteps.{told_change}
use Rattle.row_book.specs.declared.stock.Stock.{Stock}
use Rattle.row_book.specs.Stocks.{row_of, rows_of, stock_at}
use Rattle.job_book.specs.declared.running.KeptBytes.{KeptBytes}
use Rattle.core_devices.specs.Removals.{IsStoreCall, IsStoreNote}
use Rattle.core_devices.specs.Stores.{after_storing, is_unkept, is_unwanted}
use Rattle.core_devices.specs.Told.{ToldStore}
use Rattle.mat_core.specs.Calls.{is_stored_call}
use Rattle.mat_core.specs.Ending.{IsRecordedFor, done_entry, end_made, end_of, end_of_make, end_of_wipe, is_fresh, is_made, reply_ended}
use Rattle.mat_core.specs.Orders.{AreBytesOf, IsReadyFor}
use Rattle.mat_core.specs.Recording.{HasRecorded, IsRecordedEnd, raw_of_bytes}
use Rattle.mat_core.specs.declared.ending.End.{End}
use Rattle.mat_core.specs.declared.ending.End.TheVariants as end
use Rattle.mat_core.proofs.EndLemmas.{nothing_is}
use Rattle.mat_core.proofs.StoreCalls.{never_called}

-- ---- its entry

-- the reply to the end of a job that runs is that of the definitions
pub end_replied : (point : Point) (by : By) (number : ℕ) (out : Outcome) (how : Recorded) (job : Job) → running_of number point.work ≡ Some job →
    IsRecordedFor job.task out point.book.rows how →
    reply_ended (is_fresh job.task point.book.rows) how
    ≡ (served_at point (done_entry by point.book.now number out (reply_ended (is_fresh job.task point.book.rows) how))).reply
end_replied point by number out how job runs recorded =
    by_task job.task recorded
    ∙ ap (λ o. (answer_done point out (reply_ended (is_fresh job.task point.book.rows) how) o).reply) (sym runs)
  where
    by_row : (path : List (List ℕ)) (o : Option Row) →
        reply_ended (is_some o) how ≡ (end_make (next_number point) path out (recorded_as (reply_ended (is_some o) how)) point.book o).reply
    by_row path None = refl
    by_row path (Some row) = refl

    by_task : (begun : Task) → IsRecordedFor begun out point.book.rows how →
        reply_ended (is_fresh begun point.book.rows) how
        ≡ (finish (next_number point) begun out (recorded_as (reply_ended (is_fresh begun point.book.rows) how)) point.book).reply
    by_task (task.Make path stamp) is = by_row path (find (is_declared path stamp) point.book.rows)
    by_task (task.Wipe path) is = ap reply.Fresh (nothing_is how is)

-- what was made and recorded is there
pub fresh_kept : (begun : Task) (out : Outcome) (rows : List Row) → IsRecordedFor begun out rows recorded.Kept → is_fresh begun rows ≡ true
fresh_kept (task.Make path stamp) out rows is = by (is_some (find (is_declared path stamp) rows)) is
  where
    by : (b : Bool) → false ≡ not (b && is_made out) → b ≡ true
    by true it = refl
    by false it = absurd (both_ways false refl it)
fresh_kept (task.Wipe path) out rows is = refl

-- ---- the state store

same_option : (told : Option (List RawRow)) → option_map (λ (rows : List RawRow). rows) told ≡ told
same_option None = refl
same_option (Some rows) = refl

left_by : (how : Recorded) (raw : RawRow) (told : Option (List RawRow)) → leaves_by how ≡ true → option_map (after_storing raw how) told ≡ told
left_by recorded.Kept raw told is = absurd (both_ways false refl is)
left_by (recorded.NotKept note) raw told is = same_option told
left_by recorded.NoMemory raw told is = same_option told
left_by recorded.Nothing raw told is = same_option told

-- what the state store tells once a row was recorded, by how
pub record IsToldSo (how : Recorded) (store now : ToldStore) : Type 0 where
  pub still : leaves_by how ≡ true → now.rows ≡ store.rows
  pub faults : store.faults ≤ now.faults
  pub note : IsStoreNote store.faults now.faults (note_recorded how)
  pub called : IsStoreCall (is_stored_call how) (is_unkept how) (is_unwanted how) store now

told_stored : (kept : Option KeptBytes) (last : ℕ) (how : Recorded) (store now : ToldStore) → HasRecorded kept last how store now → IsToldSo how store now
told_stored None last how store now is = absurd is
told_stored (Some bytes) last how store now is = record {
  still = λ leaves. is.rows ∙ left_by how (raw_of_bytes bytes last) store.rows leaves;
  faults = is.faults;
  note = is.note;
  called = by_how how is.some is.called;
}
  where
    by_how : (how : Recorded) → (how ≡ recorded.Nothing → ⊥) → IsStoreCall true (is_unkept how) (is_unwanted how) store now →
        IsStoreCall (is_stored_call how) (is_unkept how) (is_unwanted how) store now
    by_how recorded.Kept some called = called
    by_how (recorded.NotKept note) some called = called
    by_how recorded.NoMemory some called = called
    by_how recorded.Nothing some called = absurd (some refl)

told_none : (how : Recorded) (store now : ToldStore) → (how ≡ recorded.Nothing) × (now ≡ store) → IsToldSo how store now
told_none how store now is = record {
  still = λ leaves. ap (λ (s : ToldStore). s.rows) is.1;
  faults = let same = ap (λ (s : ToldStore). s.faults) is.1 in omega (arith, same);
  note = subst (λ (h : Recorded). IsStoreNote store.faults now.faults (note_recorded h)) (sym is.0) tt;
  called = subst (λ (h : Recorded). IsStoreCall (is_stored_call h) (is_unkept h) (is_unwanted h) store now) (sym is.0) (never_called store now is.1);
}

pub told_end : (ending : End) (kept : Option KeptBytes) (how : Recorded) (store now : ToldStore) → IsRecordedEnd ending kept how store now → IsToldSo how store now
told_end (end.Stands stamp sum last) kept how store now is = told_stored kept last how store now is
told_end (end.Failed given) kept how store now is = told_none how store now is
told_end end.Gone kept how store now is = told_none how store now is
told_end end.Wiped kept how store now is = told_none how store now is
told_end (end.Unwiped given) kept how store now is = told_none how store now is

-- a row that was stored is the one that was made, and can be read back
record IsRowStored (identity : ℕ) (begun : Task) (rows : List Row) (store now : ToldStore) : Type 0 where
  row : Row
  among : Contains rows row
  makes : begun ≡ task.Make row.path row.stamp
  sound : IsReadable (kept_row row)
  told : now.rows ≡ option_map (λ (old : List RawRow). put_all old (raw_of identity row ∷ [])) store.rows

never_kept : {X : Type 0} (store now : ToldStore) → (recorded.Kept ≡ recorded.Nothing) × (now ≡ store) → X
never_kept store now is = absurd (both_ways false refl (ap is_nothing is.0))

row_stored : (identity : ℕ) (begun : Task) (out : Outcome) (stocks : List Stock) (kept : Option KeptBytes) (store now : ToldStore) →
    IsReadyFor identity (rows_of stocks) begun kept → IsRecordedEnd (end_of stocks begun out) kept recorded.Kept store now →
    IsRowStored identity begun (rows_of stocks) store now
row_stored identity (task.Make path stamp) out stocks kept store now ready is = by (find (stock_at path) stocks) refl is
  where
    raw : (row : Row) (o : Option KeptBytes) → AreBytesOf identity row o → HasRecorded o row.last recorded.Kept store now →
        IsReadable (kept_row row) × (now.rows ≡ option_map (λ (old : List RawRow). put_all old (raw_of identity row ∷ [])) store.rows)
    raw row None bytes has = absurd has
    raw row (Some bytes) are has = (
      are.readable,
      has.rows
          ∙ ap (λ (r : RawRow). option_map (λ (old : List RawRow). put_all old (r ∷ [])) store.rows)
          (ap₂ (λ p b. record { path = p; body = b; last = row.last }) are.path are.body),
    )

    stored : (stock : Stock) → find (stock_at path) stocks ≡ Some stock → stock.row.stamp ≡ stamp → HasRecorded kept stock.row.last recorded.Kept store now →
        IsRowStored identity (task.Make path stamp) (rows_of stocks) store now
    stored stock found stamped has =
        let within = contains_map row_of stocks stock (found_contains (stock_at path) stocks stock found) in
        let both = raw stock.row kept (ready stock.row within stamped) has in
        record {
          row = stock.row;
          among = within;
          makes = ap₂ task.Make (sym (same_names-eq stock.row.path path (found_passes (stock_at path) stocks stock found))) (sym stamped);
          sound = both.0;
          told = both.1;
        }

    made : (stock : Stock) (failure : Option Answer) → find (stock_at path) stocks ≡ Some stock → stock.row.stamp ≡ stamp →
        IsRecordedEnd (end_made stock failure) kept recorded.Kept store now → IsRowStored identity (task.Make path stamp) (rows_of stocks) store now
    made stock None found stamped so = stored stock found stamped so
    made stock (Some given) found stamped so = never_kept store now so

    by : (o : Option Stock) → find (stock_at path) stocks ≡ o → IsRecordedEnd (end_of_make stamp (failure_of_make out) o) kept recorded.Kept store now →
        IsRowStored identity (task.Make path stamp) (rows_of stocks) store now
    by None found so = never_kept store now so
    by (Some stock) found so =
        elim (stock.row.stamp == stamp) as
        (λ b. (stock.row.stamp == stamp) ≡ b → IsRecordedEnd (cond b (end_made stock (failure_of_make out)) end.Gone) kept recorded.Kept store now →
        IsRowStored identity (task.Make path stamp) (rows_of stocks) store now) [
          | true ↦ λ stamped it. made stock (failure_of_make out) found (eqb-true stock.row.stamp stamp stamped) it
          | false ↦ λ other it. never_kept store now it
        ] refl so
row_stored identity (task.Wipe path) out stocks kept store now ready is = by (failure_of_make out) is
  where
    by : (failure : Option Answer) → IsRecordedEnd (end_of_wipe failure) kept recorded.Kept store now →
        IsRowStored identity (task.Wipe path) (rows_of stocks) store now
    by None so = never_kept store now so
    by (Some given) so = never_kept store now so

-- where the state store had the kept rows of a point, it has those of the point behind the end
module _ (identity : ℕ) (point : Point) (entry : Entry) (number : ℕ) (out : Outcome) (how : Recorded) (job : Job) (stocks : List Stock)
    (kept : Option KeptBytes) (store now : ToldStore) (rules : IsPoint point) (same : rows_of stocks ≡ point.book.rows)
    (ends : entry.event ≡ event.Done number out) (runs : running_of number point.work ≡ Some job)
    (replied : (served_at point entry).reply ≡ reply_ended (is_fresh job.task point.book.rows) how)
    (records : IsRecordedFor job.task out point.book.rows how) (ready : IsReadyFor identity (rows_of stocks) job.task kept)
    (is : IsRecordedEnd (end_of stocks job.task out) kept how store now) where
  leaves_so : (fresh : Bool) → leaves_by how ≡ true → leaves_kept (reply_ended fresh how) ≡ true
  leaves_so true leaves = leaves
  leaves_so false leaves = refl

  stays : leaves_by how ≡ true → ForSome store.rows (IsStore identity point.kept) → ForSome now.rows (IsStore identity (after point entry).kept)
  stays leaves has =
      subst (λ o. ForSome o (IsStore identity (after point entry).kept)) (sym ((told_end (end_of stocks job.task out) kept how store now is).still leaves))
      (λ rows told. entry_store identity point entry rows
      (subst (λ (r : Reply). leaves_kept r ≡ true) (sym replied) (leaves_so (is_fresh job.task point.book.rows) leaves)) (has rows told))

  takes : how ≡ recorded.Kept → ForSome store.rows (IsStore identity point.kept) → ForSome now.rows (IsStore identity (after point entry).kept)
  takes kept_so has =
      let stored = row_stored identity job.task out stocks kept store now ready
      (subst (λ (h : Recorded). IsRecordedEnd (end_of stocks job.task out) kept h store now) kept_so is) in
      let fresh = fresh_kept job.task out point.book.rows (subst (IsRecordedFor job.task out point.book.rows) kept_so records) in
      subst (λ o. ForSome o (IsStore identity (after point entry).kept)) (sym stored.told)
      (told_change identity point.kept (after point entry).kept (λ (old : List RawRow). put_all old (raw_of identity stored.row ∷ [])) store.rows
      (λ rows holds. done_store identity point entry number out job stored.row rows rules.work.apart rules.kept.order ends runs stored.makes
      (replied ∙ ap₂ (λ b h. reply_ended b h) fresh kept_so) (subst (λ rs. Contains rs stored.row) same stored.among) stored.sound holds) has)

  pub end_stored : ForSome store.rows (IsStore identity point.kept) → ForSome now.rows (IsStore identity (after point entry).kept)
  end_stored = by how refl
    where
      by : (h : Recorded) → how ≡ h → ForSome store.rows (IsStore identity point.kept) → ForSome now.rows (IsStore identity (after point entry).kept)
      by recorded.Kept it = takes it
      by (recorded.NotKept note) it = stays (ap leaves_by it)
      by recorded.NoMemory it = stays (ap leaves_by it)
      by recorded.Nothing it = stays (ap leaves_by it)
