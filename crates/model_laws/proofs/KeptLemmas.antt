-- Kept rows over whole runs: they ascend, and each was opened or recorded, and left alone since.
use Rattle.mat_path.proofs.Elements.{contains_filter, contains_map, filtered_contains, mapped_contains}
use Rattle.mat_path.proofs.SameNames.{same_names-eq}
use Rattle.std.proofs.Common.{◌≡◌, ◌≢◌, ℕ, ◌==◌, true, false, ◌⊎◌, ◌&&◌, List, [], ◌∷◌, Option, Some, None, inl, inr, refl, sym, ap, subst, ◌∙◌, map, find, Contains}
use Rattle.std.specs.List.{filter, list_all, list_any}
use Rattle.std.proofs.lemmas.Bool.{and_from, and_parts, both_ways, eqb-true, not-true}
use Rattle.mat_path.specs.Names.{overlap, same_names}
use Rattle.mat_tree.specs.Trees.{is_after_by}
use Rattle.mat_model.specs.declared.answers.FaultNote.{FaultNote}
use Rattle.mat_model.specs.declared.answers.Gone.{Gone}
use Rattle.mat_model.specs.declared.answers.Recorded.{Recorded}
use Rattle.mat_model.specs.declared.answers.Recorded.TheVariants as recorded
use Rattle.mat_model.specs.declared.answers.Reply.{Reply}
use Rattle.mat_model.specs.declared.answers.Reply.TheVariants as reply
use Rattle.mat_model.specs.declared.book.Book.{Book}
use Rattle.mat_model.specs.declared.book.Row.{Row}
use Rattle.mat_model.specs.declared.entries.Entry.{Entry}
use Rattle.mat_model.specs.declared.entries.Event.{Event}
use Rattle.mat_model.specs.declared.entries.Event.TheVariants as event
use Rattle.mat_model.specs.declared.entries.Outcome.{Outcome}
use Rattle.mat_model.specs.declared.entries.Outcome.TheVariants as outcome
use Rattle.mat_model.specs.declared.entries.Task.{Task}
use Rattle.mat_model.specs.declared.entries.Task.TheVariants as task
use Rattle.mat_model.specs.declared.opening.Opening.{Opening}
use Rattle.mat_model.specs.declared.requests.Asked.{Asked}
use Rattle.mat_model.specs.declared.requests.Asked.TheVariants as asked
use Rattle.mat_model.specs.Cleaning.{gone_row, stale}
use Rattle.mat_model.specs.Declarations.{new_row, replace_rows}
use Rattle.mat_model.specs.Gate.{Served}
use Rattle.mat_model.specs.History.{Point, after, after_all, answer, answer_done, begin_with, is_keeper, kept_after, kept_ended, next_number, opened, point_of, recorded_as, refusal_note, request_context}
use Rattle.mat_model.specs.Kept.{KeptRow, is_due, is_kept_clear, is_listed, is_unlisted, kept_asked, kept_done, overlaps_kept, store_rows}
use Rattle.mat_model.specs.Openings.{IsOpening, kept_at_opening}
use Rattle.mat_model.specs.Requests.{at_moment}
use Rattle.mat_model.specs.Rows.{are_apart, is_apart, is_at_path, standing_row}
use Rattle.mat_model.specs.Work.{end_make, finish, is_declared, make_ended}
use Rattle.mat_model.specs.WorkState.{Job, path_of_task, running}
use Rattle.model_laws.specs.KeptRules.{IsLeftAlone, IsRecordedBy, KeptAscend, StaysKept, WasOpened, WasRecorded, is_gone_at, path_of_kept}
use Rattle.model_laws.proofs.Apart.{apart_parts}
use Rattle.model_laws.proofs.Changes.{standing-path, standing-stamp}
use Rattle.model_laws.proofs.Elements.{found_contains, found_passes}
use Rattle.model_laws.proofs.KeptOrder.{ascends_filtered, done_stores, store_ascends, stored_cases}
use Rattle.model_laws.proofs.RowCases.{IsQuiet, cleaned_served, either_served, event_served, flushed_served, invalid_served, is_quiet}

-- ---- their order

-- kept rows that ascend still do after an event
event_ascends : (point : Point) (moment : ℕ) (what : Event) (said : Reply) → KeptAscend point.kept →
    KeptAscend (kept_after point what (answer point moment what said))
event_ascends point moment (event.Asked request) said asc =
    event_served (Ascends request) point moment request said (record {
      same = λ served rows quiet. still served quiet;
      uses = λ served path rows quiet. still served quiet;
      puts = λ command path tree is has placed quiet.
          still (replace_rows (next_number point) command path (new_row (next_number point) (at_moment moment point.book).now path tree)
          (at_moment moment point.book)) quiet;
      invalid = λ command path is.
          subst (λ (r : Asked). Ascends r (invalid_served (next_number point) path (at_moment moment point.book))) (sym is)
          (ascends_filtered path_of_kept (is_kept_clear path) point.kept asc);
      cleans = λ cutoff how strays is.
          subst (λ (r : Asked). Ascends r (cleaned_served (next_number point) cutoff strays (at_moment moment point.book))) (sym is)
          (ascends_filtered path_of_kept (is_unlisted (map gone_row (stale cutoff (at_moment moment point.book)))) point.kept asc);
      flushes = λ is.
          subst (λ (r : Asked). Ascends r (flushed_served (request_context point).due (at_moment moment point.book))) (sym is)
          (store_ascends (filter (is_due point.kept) point.book.rows) point.kept asc);
    })
  where
    Ascends : Asked → Served → Type 0
    Ascends r served = KeptAscend (kept_asked r served.reply served.book.rows point.kept)

    still : (served : Served) → IsQuiet request served → Ascends request served
    still served quiet = subst KeptAscend (sym (quiet.kept point.kept)) asc
event_ascends point moment (event.Begin begun) said asc = begins (refusal_note said)
  where
    begins : (o : Option FaultNote) → KeptAscend (kept_after point (event.Begin begun) (begin_with point begun o))
    begins None = ascends_filtered path_of_kept (is_kept_clear (path_of_task begun)) point.kept asc
    begins (Some note) =
        either_served (λ (served : Served). KeptAscend (kept_after point (event.Begin begun) served))
        (is_keeper note.device && list_any (overlaps_kept (path_of_task begun)) point.kept) _ _
        (λ failed. asc)
        (λ calm. ascends_filtered path_of_kept (is_kept_clear (path_of_task begun)) point.kept asc)
event_ascends point moment (event.Done number out) said asc = ends (running number point.work)
  where
    ends : (o : Option Job) → KeptAscend (kept_ended o (answer_done point out said o) point.kept)
    ends None = asc
    ends (Some job) =
        done_stores KeptAscend (next_number point) job.task out (recorded_as said) point.book point.kept asc
        (λ some within. store_ascends some point.kept asc)

-- and so they do behind any entries, and from a right opening on
pub history_ascends : (point : Point) (later : List Entry) → KeptAscend point.kept → KeptAscend (after_all point later).kept
history_ascends point [] asc = asc
history_ascends point (entry ∷ later) asc =
    history_ascends (after point entry) later (event_ascends point entry.now entry.event entry.reply asc)

opened_ascends : (opening : Opening) (rows : List Row) → are_apart rows ≡ true → KeptAscend (map (kept_at_opening opening) rows)
opened_ascends opening [] apart = refl
opened_ascends opening (row ∷ rows) apart =
    let parts = and_parts (list_all (is_apart row) rows) (are_apart rows) apart in
    and_from (list_all (is_after_by path_of_kept row.path) (map (kept_at_opening opening) rows)) _ (behind rows parts.0)
    (opened_ascends opening rows parts.1)
  where
    behind : (others : List Row) → list_all (is_apart row) others ≡ true →
        list_all (is_after_by path_of_kept row.path) (map (kept_at_opening opening) others) ≡ true
    behind [] all = refl
    behind (other ∷ others) all =
        let parts = and_parts (is_apart row other) (list_all (is_apart row) others) all in
        and_from (is_after_by path_of_kept row.path (kept_at_opening opening other)) _ (apart_parts row other parts.0).0 (behind others parts.1)

pub opening_ascends : (opening : Opening) (history : List Entry) → IsOpening opening → KeptAscend (point_of opening history).kept
opening_ascends opening history right = history_ascends (opened opening) history (opened_ascends opening opening.rows right.apart)

-- ---- where they come from

-- a kept row after an event was kept before and is left alone, or the event recorded it
abbrev pub Comes : Point → Event → KeptRow → Served → Type 0
Comes point what k served =
    (Contains point.kept k × IsLeftAlone point what served k.path) ⊎ IsRecordedBy point what served k

-- a request that says nothing of kept rows leaves them alone
quiet_alone : (point : Point) (request : Asked) (served : Served) (path : List (List ℕ)) → is_quiet served.reply ≡ true →
    IsLeftAlone point (event.Asked request) served path
quiet_alone point request served path quiet = record {
  valid = λ command count at is told. absurd (both_ways (is_quiet served.reply) (ap is_quiet told) quiet);
  spared = λ gone strays told. absurd (both_ways (is_quiet served.reply) (ap is_quiet told) quiet);
  free = λ begun is told. absurd cc;
  flushed = λ row due told among is. absurd (both_ways (is_quiet served.reply) (ap is_quiet told) quiet);
  made = λ number stamp out job is runs of told. absurd cc;
}

asked_comes : (point : Point) (moment : ℕ) (request : Asked) (said : Reply) (k : KeptRow) → KeptAscend point.kept →
    Contains (kept_after point (event.Asked request) (answer point moment (event.Asked request) said)) k →
    Comes point (event.Asked request) k (answer point moment (event.Asked request) said)
asked_comes point moment request said k asc =
    event_served (CameBy request) point moment request said (record {
      same = λ served rows quiet. still served quiet;
      uses = λ served path rows quiet. still served quiet;
      puts = λ command path tree is has placed quiet.
          still (replace_rows (next_number point) command path (new_row (next_number point) (at_moment moment point.book).now path tree)
          (at_moment moment point.book)) quiet;
      invalid = λ command path is.
          subst (λ (r : Asked). CameBy r (invalid_served (next_number point) path (at_moment moment point.book))) (sym is) (invalid command path);
      cleans = λ cutoff how strays is.
          subst (λ (r : Asked). CameBy r (cleaned_served (next_number point) cutoff strays (at_moment moment point.book))) (sym is)
          (λ among.
          let (within, clear) = filtered_contains (is_unlisted (map gone_row (stale cutoff (at_moment moment point.book)))) point.kept k among in
          let listed : list_any (is_gone_at k.path) (map gone_row (stale cutoff (at_moment moment point.book))) ≡ false =
          not-true (is_listed (map gone_row (stale cutoff (at_moment moment point.book))) k) clear in
          inl (
            within,
            record {
              valid = λ command count at same told. absurd cc;
              spared = λ gone others told.
                  let one : map gone_row (stale cutoff (at_moment moment point.book)) ≡ gone = cc in
                  subst (λ (g : List Gone). list_any (is_gone_at k.path) g ≡ false) one listed;
              free = λ begun same told. absurd cc;
              flushed = λ row due told within due_is. absurd cc;
              made = λ number stamp out job same runs of told. absurd cc;
            },
          ));
      flushes = λ is.
          subst (λ (r : Asked). CameBy r (flushed_served (request_context point).due (at_moment moment point.book))) (sym is) flushes;
    })
  where
    CameBy : Asked → Served → Type 0
    CameBy r served = Contains (kept_asked r served.reply served.book.rows point.kept) k → Comes point (event.Asked r) k served

    still : (served : Served) → IsQuiet request served → CameBy request served
    still served quiet among =
        inl (subst (λ (ks : List KeptRow). Contains ks k) (quiet.kept point.kept) among, quiet_alone point request served k.path quiet.told)

    invalid : (command : ℕ) (path : List (List ℕ)) →
        CameBy (asked.Invalidate command path) (invalid_served (next_number point) path (at_moment moment point.book))
    invalid command path among =
        let (within, clear) = filtered_contains (is_kept_clear path) point.kept k among in
        inl (
          within,
          record {
            valid = λ other count at same told.
                let one : path ≡ at = cc in
                subst (λ (p : List (List ℕ)). overlap k.path p ≡ false) one (not-true (overlap k.path path) clear);
            spared = λ gone strays told. absurd cc;
            free = λ begun same told. absurd cc;
            flushed = λ row due told within due_is. absurd cc;
            made = λ number stamp out job same runs of told. absurd cc;
          },
        )

    flushes : CameBy asked.Flush (flushed_served (request_context point).due (at_moment moment point.book))
    flushes among =
        elim (stored_cases (filter (is_due point.kept) point.book.rows) point.kept k asc among) [
          | inl (row, within, same) ↦
              let (stored, due) = filtered_contains (is_due point.kept) point.book.rows row within in
              inr (record {
                row = row;
                among = stored;
                same = same;
                how = inr (record {
                  due = (request_context point).due;
                  asks = refl;
                  told = refl;
                  stands = (and_parts row.stands _ due).0;
                });
              })
          | inr (within, others) ↦ inl (
            within,
            record {
              valid = λ command count at same told. absurd cc;
              spared = λ gone strays told. absurd cc;
              free = λ begun same told. absurd cc;
              flushed = λ row due told among due_is. others row (contains_filter (is_due point.kept) point.book.rows row due_is among);
              made = λ number stamp out job same runs of told. absurd cc;
            },
          )
        ]

-- the begin of a job: what overlaps its path goes
begun_comes : (point : Point) (begun : Task) (k : KeptRow) → Contains (filter (is_kept_clear (path_of_task begun)) point.kept) k →
    Comes point (event.Begin begun) k (record { reply = reply.Started; book = point.book })
begun_comes point begun k among =
    let (within, clear) = filtered_contains (is_kept_clear (path_of_task begun)) point.kept k among in
    inl (
      within,
      record {
        valid = λ command count at same told. absurd cc;
        spared = λ gone strays told. absurd cc;
        free = λ other same told.
            let one : begun ≡ other = cc in
            subst (λ (t : Task). overlap k.path (path_of_task t) ≡ false) one (not-true (overlap k.path (path_of_task begun)) clear);
        flushed = λ row due told among due_is. absurd cc;
        made = λ number stamp out job same runs of told. absurd cc;
      },
    )

-- a reply to the end of a job that isn't that its row was kept leaves all kept rows alone
end_alone : (point : Point) (number : ℕ) (out : Outcome) (served : Served) (path : List (List ℕ)) → is_quiet served.reply ≡ true →
    served.reply ≢ reply.Fresh recorded.Kept → IsLeftAlone point (event.Done number out) served path
end_alone point number out served path quiet other = record {
  valid = λ command count at is told. absurd cc;
  spared = λ gone strays told. absurd (both_ways (is_quiet served.reply) (ap is_quiet told) quiet);
  free = λ begun is told. absurd cc;
  flushed = λ row due told among is. absurd (both_ways (is_quiet served.reply) (ap is_quiet told) quiet);
  made = λ n stamp o job is runs of. other;
}

-- a row that is at a path under a stamp is there after the end of its make
made_has : (number : ℕ) (path : List (List ℕ)) (stamp : ℕ) (row : Row) (book : Book) → find (is_declared path stamp) book.rows ≡ Some row → (out : Outcome) →
    (other : Row) × Contains (make_ended number path row out book).rows other × (is_declared path stamp other ≡ true)
made_has number path stamp row book found outcome.Made = (
  standing_row path row,
  contains_map (standing_row path) book.rows row (found_contains (is_declared path stamp) book.rows row found),
  subst (λ (p : List (List ℕ)). (same_names p path && ((standing_row path row).stamp == stamp)) ≡ true) (sym (standing-path path row))
      (subst (λ (s : ℕ). (same_names row.path path && (s == stamp)) ≡ true) (sym (standing-stamp path row))
      (found_passes (is_declared path stamp) book.rows row found)),
)
made_has number path stamp row book found outcome.Wiped =
    (row, found_contains (is_declared path stamp) book.rows row found, found_passes (is_declared path stamp) book.rows row found)
made_has number path stamp row book found (outcome.Missing digest) =
    (row, found_contains (is_declared path stamp) book.rows row found, found_passes (is_declared path stamp) book.rows row found)
made_has number path stamp row book found (outcome.Corrupt wanted other) =
    (row, found_contains (is_declared path stamp) book.rows row found, found_passes (is_declared path stamp) book.rows row found)
made_has number path stamp row book found (outcome.Fault note) =
    (row, found_contains (is_declared path stamp) book.rows row found, found_passes (is_declared path stamp) book.rows row found)
made_has number path stamp row book found outcome.NoMemory =
    (row, found_contains (is_declared path stamp) book.rows row found, found_passes (is_declared path stamp) book.rows row found)

-- the end of a make whose row was kept
kept_comes : (point : Point) (number : ℕ) (out : Outcome) (job : Job) (path : List (List ℕ)) (stamp : ℕ) (row : Row) (k : KeptRow) → KeptAscend point.kept →
    running number point.work ≡ Some job → job.task ≡ task.Make path stamp → find (is_declared path stamp) point.book.rows ≡ Some row →
    Contains (store_rows (filter (is_declared path stamp) (make_ended (next_number point) path row out point.book).rows) point.kept) k →
    Comes point (event.Done number out) k (end_make (next_number point) path out recorded.Kept point.book (Some row))
kept_comes point number out job path stamp row k asc runs is found among =
    elim (stored_cases (filter (is_declared path stamp) rows) point.kept k asc among) [
      | inl (one, within, same) ↦
          let (stored, declared) = filtered_contains (is_declared path stamp) rows one within in
          let parts = and_parts (is_at_path path one) (one.stamp == stamp) declared in
          inr (record {
            row = one;
            among = stored;
            same = same;
            how = inl (record {
              number = number;
              out = out;
              job = job;
              ends = refl;
              runs = runs;
              task = subst (λ (p : List (List ℕ)). job.task ≡ task.Make p one.stamp) (sym (same_names-eq one.path path parts.0))
                  (subst (λ (s : ℕ). job.task ≡ task.Make path s) (sym (eqb-true one.stamp stamp parts.1)) is);
              told = refl;
            });
          })
      | inr (within, others) ↦ inl (
        within,
        record {
          valid = λ command count at same told. absurd cc;
          spared = λ gone strays told. absurd cc;
          free = λ begun same told. absurd cc;
          flushed = λ one due told also due_is. absurd cc;
          made = λ other under how ran same runs' of told. never other under how ran same runs' of others;
        },
      )
    ]
  where
    rows : List Row
    rows = (make_ended (next_number point) path row out point.book).rows

    never : (other under : ℕ) (how : Outcome) (ran : Job) → event.Done number out ≡ event.Done other how → running other point.work ≡ Some ran →
        ran.task ≡ task.Make k.path under → ((one : Row) → Contains (filter (is_declared path stamp) rows) one → one.path ≢ k.path) → ⊥
    never other under how ran same runs' of others =
        let number_is : number ≡ other = cc in
        let both : Some job ≡ Some ran = sym runs ∙ ap (λ (n : ℕ). running n point.work) number_is ∙ runs' in
        let job_is : job ≡ ran = cc in
        let tasks : task.Make path stamp ≡ task.Make k.path under = sym is ∙ ap (λ (j : Job). j.task) job_is ∙ of in
        let paths : path ≡ k.path = cc in
        let (one, has, declared) = made_has (next_number point) path stamp row point.book found out in
        others one (contains_filter (is_declared path stamp) rows one declared has)
        (same_names-eq one.path path (and_parts (is_at_path path one) (one.stamp == stamp) declared).0 ∙ paths)

-- the end of a job
done_comes : (point : Point) (number : ℕ) (out : Outcome) (how : Recorded) (job : Job) (k : KeptRow) → KeptAscend point.kept →
    running number point.work ≡ Some job → (begun : Task) → job.task ≡ begun →
    Contains (kept_done begun (finish (next_number point) begun out how point.book).reply (finish (next_number point) begun out how point.book).book.rows
    point.kept) k →
    Comes point (event.Done number out) k (finish (next_number point) begun out how point.book)
done_comes point number out how job k asc runs (task.Make path stamp) is = by (find (is_declared path stamp) point.book.rows) refl how
  where
    by : (o : Option Row) → find (is_declared path stamp) point.book.rows ≡ o → (was : Recorded) →
        Contains (kept_done (task.Make path stamp) (end_make (next_number point) path out was point.book o).reply
        (end_make (next_number point) path out was point.book o).book.rows point.kept) k →
        Comes point (event.Done number out) k (end_make (next_number point) path out was point.book o)
    by None found was among = inl (among, end_alone point number out _ k.path refl (λ told. absurd cc))
    by (Some row) found recorded.Kept among = kept_comes point number out job path stamp row k asc runs is found among
    by (Some row) found (recorded.NotKept note) among = inl (among, end_alone point number out _ k.path refl (λ told. absurd cc))
    by (Some row) found recorded.NoMemory among = inl (among, end_alone point number out _ k.path refl (λ told. absurd cc))
    by (Some row) found recorded.Nothing among = inl (among, end_alone point number out _ k.path refl (λ told. absurd cc))
done_comes point number out how job k asc runs (task.Wipe path) is =
    λ among. inl (among, end_alone point number out (finish (next_number point) (task.Wipe path) out how point.book) k.path refl (λ told. absurd cc))

-- an event
pub event_comes : (point : Point) (moment : ℕ) (what : Event) (said : Reply) (k : KeptRow) → KeptAscend point.kept →
    Contains (kept_after point what (answer point moment what said)) k → Comes point what k (answer point moment what said)
event_comes point moment (event.Asked request) said k asc = asked_comes point moment request said k asc
event_comes point moment (event.Begin begun) said k asc = begins (refusal_note said)
  where
    begins : (o : Option FaultNote) → Contains (kept_after point (event.Begin begun) (begin_with point begun o)) k →
        Comes point (event.Begin begun) k (begin_with point begun o)
    begins None = begun_comes point begun k
    begins (Some note) =
        either_served
        (λ (served : Served). Contains (kept_after point (event.Begin begun) served) k → Comes point (event.Begin begun) k served)
        (is_keeper note.device && list_any (overlaps_kept (path_of_task begun)) point.kept) _ _
        (λ failed among. inl (
          among,
          record {
            valid = λ command count at same told. absurd cc;
            spared = λ gone strays told. absurd cc;
            free = λ other same told. absurd cc;
            flushed = λ row due told also due_is. absurd cc;
            made = λ number stamp out job same runs of told. absurd cc;
          },
        ))
        (λ calm. begun_comes point begun k)
event_comes point moment (event.Done number out) said k asc = ends (running number point.work) refl
  where
    ends : (o : Option Job) → running number point.work ≡ o → Contains (kept_ended o (answer_done point out said o) point.kept) k →
        Comes point (event.Done number out) k (answer_done point out said o)
    ends None runs among = inl (among, end_alone point number out _ k.path refl (λ told. absurd cc))
    ends (Some job) runs among = done_comes point number out (recorded_as said) job k asc runs job.task refl among

-- behind any entries, a row that is kept was kept before and is left alone since, or was recorded and is left alone since
pub history_comes : (point : Point) (later : List Entry) (kept : KeptRow) → KeptAscend point.kept → Contains (after_all point later).kept kept →
    StaysKept point later kept ⊎ WasRecorded point later kept
history_comes point [] kept asc among = inl (among, tt)
history_comes point (entry ∷ later) kept asc among =
    elim (history_comes (after point entry) later kept (event_ascends point entry.now entry.event entry.reply asc) among) [
      | inl (here, since) ↦
          elim (event_comes point entry.now entry.event entry.reply kept asc here) [
            | inl (old, alone) ↦ inl (old, (alone, since))
            | inr recorded ↦ inr (record { before = []; entry = entry; behind = later; split = refl; by = recorded; since = since })
          ]
      | inr was ↦ inr (record {
        before = entry ∷ was.before;
        entry = was.entry;
        behind = was.behind;
        split = ap (λ (es : List Entry). entry ∷ es) was.split;
        by = was.by;
        since = was.since;
      })
    ]

-- from a right opening on, it was opened and is left alone since, or was recorded and is left alone since
pub opening_comes : (opening : Opening) (history : List Entry) (kept : KeptRow) → IsOpening opening → Contains (point_of opening history).kept kept →
    WasOpened opening history kept ⊎ WasRecorded (opened opening) history kept
opening_comes opening history kept right among =
    elim (history_comes (opened opening) history kept (opened_ascends opening opening.rows right.apart) among) [
      | inl (old, since) ↦
          let (row, within, same) = mapped_contains (kept_at_opening opening) opening.rows kept old in
          inl (record { row = row; among = within; same = same; since = since })
      | inr was ↦ inr was
    ]
