-- A work state keeps its rules: after each entry whose work comes in order, after a history, and from an opening that is right.
use Rattle.std.proofs.Common.{◌≡◌, ◌≤◌, ℕ, ◌+◌, Bool, true, ◌&&◌, List, [], ◌∷◌, ◌++◌, Option, Some, None, inl, inr, refl, sym, ap, ap₂, subst, ◌∙◌, map, Contains, arith}
use Rattle.std.specs.List.{list_all, list_any}
use Rattle.mat_path.specs.Covering.{covering}
use Rattle.mat_path.proofs.CoveringLemmas.{covering-append}
use Rattle.mat_path.proofs.CoveringRows.{covering_rows-filter}
use Rattle.mat_model.specs.declared.answers.FaultNote.{FaultNote}
use Rattle.mat_model.specs.declared.answers.Reply.{Reply}
use Rattle.mat_model.specs.declared.entries.Entry.{Entry}
use Rattle.mat_model.specs.declared.entries.Event.{Event}
use Rattle.mat_model.specs.declared.entries.Event.TheVariants as event
use Rattle.mat_model.specs.declared.entries.Outcome.{Outcome}
use Rattle.mat_model.specs.declared.entries.Task.{Task}
use Rattle.mat_model.specs.declared.entries.Task.TheVariants as task
use Rattle.mat_model.specs.declared.opening.Opening.{Opening}
use Rattle.mat_model.specs.declared.requests.Asked.{Asked}
use Rattle.mat_model.specs.Gate.{Served}
use Rattle.mat_model.specs.History.{Point, after, after_all, answer, answer_done, begin_with, book_of, is_keeper, next_number, opened, point_of, recorded_as, refusal_note, work_after}
use Rattle.mat_model.specs.Kept.{overlaps_kept}
use Rattle.mat_model.specs.Legal.{ComesInOrder, IsEach, IsInOrder}
use Rattle.mat_model.specs.Openings.{IsOpening, itself, opening_debris, path_of_row, put_strays, stray_debris}
use Rattle.mat_tree.specs.Trees.{ascends_by, is_after_by}
use Rattle.mat_model.specs.Rows.{are_apart, comes_before}
use Rattle.mat_model.specs.WorkState.{Debris, Job, cleans_all, ended, first_task, idle_work, is_cleaning, path_of_debris, path_of_task, running, started, ways_after}
use Rattle.model_laws.specs.Laws.{declares}
use Rattle.model_laws.specs.RowRules.{AreStampedBelow}
use Rattle.model_laws.specs.WorkRules.{IsWork, owns}
use Rattle.model_laws.proofs.ApartLemmas.{history_apart}
use Rattle.model_laws.proofs.BooksKept.{next_more}
use Rattle.model_laws.proofs.DebrisOrder.{Ascends, put_apart}
use Rattle.model_laws.proofs.FirstLemmas.{make_may_begin, wipe_may_begin}
use Rattle.model_laws.proofs.RowCases.{either_served}
use Rattle.model_laws.proofs.RowLemmas.{row_step}
use Rattle.model_laws.proofs.Coverings.{covering-put, covering_claims}
use Rattle.model_laws.proofs.StampLemmas.{entry_stamps, opening_stamps}
use Rattle.model_laws.proofs.WorkBase.{Steps}
use Rattle.model_laws.proofs.WorkBegins.{Kept, kept_asked, kept_later, kept_make, kept_of, kept_refused, kept_wipe, work_of}
use Rattle.model_laws.proofs.WorkDone.{kept_ended}

-- ---- entries

-- rows step where a request comes
pub asked_steps : (point : Point) (entry : Entry) (request : Asked) → are_apart point.book.rows ≡ true → entry.event ≡ event.Asked request →
    Steps (next_number point) (declares request) point.book.rows (after point entry).book.rows
asked_steps point entry request apart is row among =
    elim (row_step point entry row apart among) [
      | inl new ↦
          let both : event.Asked new.request ≡ event.Asked request = sym new.asks ∙ is in
          let same : new.request ≡ request = cc in
          inl (new.stamp, new.lies, subst (λ (r : Asked). declares r ≡ Some row.path) same new.path)
      | inr was ↦
          elim was.stands [
            | inl stays ↦ inr (record {
              old = was.old;
              among = was.among;
              path = was.same.path;
              tree = was.same.tree;
              stamp = was.same.stamp;
              stands = stays;
            })
            | inr made ↦ let both = sym is ∙ made.ends in absurd cc
          ]
    ]

-- what is kept by an event that was served
abbrev KeptBy : Point → ℕ → Event → Served → Type 0
KeptBy point caller what served = Kept (next_number point + 1) served.book.rows (work_after point caller what served)

-- a begin keeps the rules
task_begins : (point : Point) (caller : ℕ) (begun : Task) → are_apart point.book.rows ≡ true → AreStampedBelow (next_number point) point.book.rows →
    first_task point.work point.book ≡ Some begun → Kept (next_number point) point.book.rows point.work →
    Kept (next_number point + 1) point.book.rows (started (next_number point) caller begun point.book.rows point.work)
task_begins point caller (task.Make path stamp) apart stamped first kept =
    kept_make (next_number point) caller path stamp point.book point.work apart stamped (make_may_begin point.work point.book path stamp first) kept
task_begins point caller (task.Wipe path) apart stamped first kept =
    kept_wipe (next_number point) caller path point.book point.work apart (wipe_may_begin point.work point.book path first) kept

begin_kept : (point : Point) (caller : ℕ) (begun : Task) (o : Option FaultNote) → are_apart point.book.rows ≡ true →
    AreStampedBelow (next_number point) point.book.rows → first_task point.work point.book ≡ Some begun → Kept (next_number point) point.book.rows point.work →
    KeptBy point caller (event.Begin begun) (begin_with point begun o)
begin_kept point caller begun None apart stamped first kept = task_begins point caller begun apart stamped first kept
begin_kept point caller begun (Some note) apart stamped first kept =
    either_served (KeptBy point caller (event.Begin begun)) (is_keeper note.device && list_any (overlaps_kept (path_of_task begun)) point.kept) _ _
    (λ failed. kept_later (next_number point) point.book.rows _ (kept_refused (next_number point) point.book.rows point.work begun kept))
    (λ calm. task_begins point caller begun apart stamped first kept)

-- the end of a job keeps the rules
done_kept : (point : Point) (number : ℕ) (out : Outcome) (said : Reply) (o : Option Job) → running number point.work ≡ o → are_apart point.book.rows ≡ true →
    Kept (next_number point) point.book.rows point.work →
    Kept (next_number point + 1) (answer_done point out said o).book.rows
    (ended number out (answer_done point out said o).reply (answer_done point out said o).book.rows point.work o)
done_kept point number out said None runs apart kept = kept_later (next_number point) point.book.rows point.work kept
done_kept point number out said (Some job) runs apart kept =
    kept_later (next_number point) _ _ (kept_ended (next_number point) number job out (recorded_as said) point.book point.work apart runs kept)

-- an entry keeps the rules
entry_kept : (point : Point) (entry : Entry) → ComesInOrder point entry → IsWork (next_number point) point.book.rows point.work →
    Kept (next_number point + 1) (after point entry).book.rows (after point entry).work
entry_kept point entry order rules = by entry.event refl order
  where
    kept : Kept (next_number point) point.book.rows point.work
    kept = kept_of (next_number point) point.book.rows point.work rules

    by : (what : Event) → entry.event ≡ what → IsInOrder point entry.by.caller what →
        KeptBy point entry.by.caller what (answer point entry.now what entry.reply)
    by (event.Asked request) is first =
        let served : Served = answer point entry.now (event.Asked request) entry.reply in
        let asks : Entry = record entry { event = event.Asked request } in
        kept_asked (next_number point) (declares request) point.book.rows served.book.rows point.work (cleans_all request && is_cleaning served.reply)
        (is_cleaning served.reply) (ways_after request served.reply point.book.rows point.work.ways) rules.apart
        (history_apart point (asks ∷ []) rules.apart) rules.stamped (asked_steps point asks request rules.apart refl) kept
    by (event.Begin begun) is first = begin_kept point entry.by.caller begun (refusal_note entry.reply) rules.apart rules.stamped first kept
    by (event.Done number out) is first = done_kept point number out entry.reply (running number point.work) refl rules.apart kept

pub entry_work : (point : Point) (entry : Entry) → ComesInOrder point entry → IsWork (next_number point) point.book.rows point.work →
    IsWork (next_number (after point entry)) (after point entry).book.rows (after point entry).work
entry_work point entry order rules =
    work_of (next_number (after point entry)) (after point entry).book.rows (after point entry).work
    (history_apart point (entry ∷ []) rules.apart) (entry_stamps point entry rules.apart rules.stamped)
    (subst (λ (n : ℕ). Kept n (after point entry).book.rows (after point entry).work) (sym (next_more point entry)) (entry_kept point entry order rules))

-- ---- histories

-- a history keeps the rules
pub history_work : (point : Point) (later : List Entry) → IsEach ComesInOrder point later → IsWork (next_number point) point.book.rows point.work →
    IsWork (next_number (after_all point later)) (after_all point later).book.rows (after_all point later).work
history_work point [] orders rules = rules
history_work point (entry ∷ later) orders rules = history_work (after point entry) later orders.1 (entry_work point entry orders.0 rules)

-- ---- openings

-- strays that are put among debris count beside it
covering-strays : (x : List (List ℕ)) (paths : List (List (List ℕ))) (debris : List Debris) →
    covering x (map path_of_debris (put_strays paths debris)) ≡ covering x paths + covering x (map path_of_debris debris)
covering-strays x [] debris = omega arith
covering-strays x (path ∷ paths) debris =
    omega (arith, covering-put x (stray_debris path) (put_strays paths debris), covering-strays x paths debris)

-- and debris at some paths is at these
stray-paths : (paths : List (List (List ℕ))) → map path_of_debris (map stray_debris paths) ≡ paths
stray-paths [] = refl
stray-paths (path ∷ paths) = ap (λ (ps : List (List (List ℕ))). path ∷ ps) (stray-paths paths)

-- strays are put in order where all are apart
strays_ascend : (paths : List (List (List ℕ))) (debris : List Debris) → Ascends debris →
    ((x : List (List ℕ)) → covering x paths + covering x (map path_of_debris debris) ≤ 1) → Ascends (put_strays paths debris)
strays_ascend [] debris up most = up
strays_ascend (path ∷ paths) debris up most =
    put_apart (stray_debris path) (put_strays paths debris) (strays_ascend paths debris up (λ x. let h = most x in omega (arith, h)))
    (λ x. let h = most x in omega (arith, h, covering-strays x paths debris))

-- and debris at some paths is in their order
stray_order : (paths : List (List (List ℕ))) → ascends_by path_of_debris (map stray_debris paths) ≡ ascends_by itself paths
stray_order [] = refl
stray_order (path ∷ paths) = ap₂ (λ (s t : Bool). s && t) (after paths) (stray_order paths)
  where
    after : (others : List (List (List ℕ))) →
        list_all (is_after_by path_of_debris path) (map stray_debris others) ≡ list_all (is_after_by itself path) others
    after [] = refl
    after (other ∷ others) = ap (λ (b : Bool). comes_before path other && b) (after others)

-- nothing is among none
none_among : {Y : Type 0} (y : Y) → Contains [] y → ⊥
none_among y (k, within, at) = omega arith

-- an opening that is right keeps the rules
pub opening_work : (opening : Opening) → IsOpening opening →
    IsWork (next_number (opened opening)) (opened opening).book.rows (opened opening).work
opening_work opening right = record {
  apart = right.apart;
  stamped = opening_stamps opening [] right;
  numbers = refl;
  jobs = λ job among. absurd (none_among job among);
  wipes = λ job other among. absurd (none_among job among);
  dirty = λ path among. absurd (none_among path among);
  order = strays_ascend opening.lost (map stray_debris opening.strays) (stray_order opening.strays ∙ right.strays)
      (λ x.
      let free = right.free x in
      omega (
        arith,
        free,
        ap (λ (ps : List (List (List ℕ))). covering x ps) (stray-paths opening.strays),
        covering-append x (opening.strays ++ opening.lost) (map path_of_row opening.rows),
        covering-append x opening.strays opening.lost,
      ));
  claims = λ x.
      let strays : covering x (map path_of_debris (opening_debris opening)) ≡ covering x opening.lost + covering x opening.strays =
      covering-strays x opening.lost (map stray_debris opening.strays)
      ∙ ap (λ (ps : List (List (List ℕ))). covering x opening.lost + covering x ps) (stray-paths opening.strays) in
      omega (
        arith,
        covering_claims x opening.rows (idle_work (opening_debris opening)),
        right.free x,
        strays,
        covering-append x (opening.strays ++ opening.lost) (map path_of_row opening.rows),
        covering-append x opening.strays opening.lost,
        covering_rows-filter path_of_row (owns (idle_work (opening_debris opening))) x opening.rows,
      );
}

-- so does each point of a history from there
pub opened_work : (opening : Opening) (history : List Entry) → IsOpening opening → IsEach ComesInOrder (opened opening) history →
    IsWork (next_number (point_of opening history)) (book_of opening history).rows (point_of opening history).work
opened_work opening history right orders = history_work (opened opening) history orders (opening_work opening right)
