-- The rules of a disk together, as a job begins and its loans are taken.
use Rattle.std.proofs.Common.{◌≡◌, ℕ, Bool, true, false, ◌&&◌, cond, map, List, [], ◌∷◌, ◌++◌, Option, Some, None, refl, sym, ap, subst, ◌∙◌, Contains}
use Rattle.std.specs.List.{filter, list_any}
use Rattle.std.proofs.lemmas.List.{append_assoc}
use Rattle.std.proofs.lemmas.List.Elements.{Contains-append_right}
use Rattle.mat_path.proofs.Elements.{contains_first, contains_more}
use Rattle.mat_tree.specs.Parts.{Part, without}
use Rattle.mat_model.specs.declared.answers.FaultNote.{FaultNote}
use Rattle.mat_model.specs.declared.answers.Reply.{Reply}
use Rattle.mat_model.specs.declared.answers.Reply.TheVariants as reply
use Rattle.mat_model.specs.declared.book.Row.{Row}
use Rattle.mat_model.specs.declared.entries.Entry.{Entry}
use Rattle.mat_model.specs.declared.entries.Event.{Event}
use Rattle.mat_model.specs.declared.entries.Event.TheVariants as event
use Rattle.mat_model.specs.declared.entries.Task.{Task}
use Rattle.mat_model.specs.declared.entries.Task.TheVariants as task
use Rattle.mat_model.specs.Gate.{Served}
use Rattle.mat_model.specs.History.{Point, after, answer, is_keeper, kept_after, next_number, work_after}
use Rattle.mat_model.specs.Kept.{KeptRow, overlaps_kept}
use Rattle.mat_model.specs.Legal.{IsReplied}
use Rattle.mat_model.specs.Openings.{path_of_row}
use Rattle.mat_model.specs.Work.{refuse}
use Rattle.mat_model.specs.WorkState.{Job, Lent, WorkState, lent_for, marked, path_of_task, refused, started}
use Rattle.model_laws.specs.KeptRules.{KeptAscend}
use Rattle.model_laws.specs.WorkRules.{IsWork, claimed_by_part, is_on_disk, loans, loans_of}
use Rattle.model_laws.proofs.Coverings.{named_among, paths-map}
use Rattle.model_laws.proofs.WorkEnds.{marked-path}
use Rattle.region_port.specs.Calls.{Paths, paths_outside}
use Rattle.core_laws.specs.Covered.{AreKeptAside, AreNodesWithin, IsRoughWithin, node_places, rough_places}
use Rattle.core_laws.specs.DiskRules.{IsDisk, IsTiedDisk, less_part, less_rough_part}
use Rattle.core_laws.specs.Loans.{AreLoans, AreOut}
use Rattle.core_laws.specs.Tied.{AreTied}
use Rattle.core_laws.specs.Whole.{IsWhole}
use Rattle.core_laws.proofs.CoveredLemmas.{take_nodes, take_rough}
use Rattle.core_laws.proofs.KeepMoves.{begin_whole}
use Rattle.core_laws.proofs.LoanLemmas.{begin_loans, take_out}
use Rattle.core_laws.proofs.PlacesLemmas.{begin_nodes, begin_rough}
use Rattle.core_laws.proofs.RuleMoves.{tied_disk}
use Rattle.core_laws.proofs.TiedLemmas.{begin_tied, loan_clear, take_tied}
use Rattle.core_laws.proofs.WholeLemmas.{take_whole}

-- ---- the point

abbrev pub begun_job : ℕ → ℕ → Task → List Row → WorkState → Job
begun_job number caller begun rows work = record { number = number; caller = caller; task = begun; lent = lent_for begun rows work.ways }

begun_jobs : (number caller : ℕ) (begun : Task) (rows : List Row) (work : WorkState) →
    (started number caller begun rows work).jobs ≡ work.jobs ++ begun_job number caller begun rows work ∷ []
begun_jobs number caller (task.Make path stamp) rows work = refl
begun_jobs number caller (task.Wipe path) rows work = refl

begun_nodes : (number caller : ℕ) (begun : Task) (rows : List Row) (work : WorkState) →
    AreKeptAside (path_of_task begun) (node_places rows work) (node_places rows (started number caller begun rows work))
begun_nodes number caller (task.Make path stamp) rows work = begin_nodes number caller path stamp rows work
begun_nodes number caller (task.Wipe path) rows work = λ x aside most. most

begun_rough : (number caller : ℕ) (begun : Task) (rows : List Row) (work : WorkState) →
    AreKeptAside (path_of_task begun) (rough_places work) (rough_places (started number caller begun rows work))
begun_rough number caller (task.Make path stamp) rows work = begin_rough number caller path stamp rows work
begun_rough number caller (task.Wipe path) rows work = λ x aside most. most

-- what a job that began has left: the same rows, and the work state with it
record Begun (point : Point) (entry : Entry) (begun : Task) : Type 0 where
  rows : (after point entry).book.rows ≡ point.book.rows
  work : (after point entry).work ≡ started (next_number point) entry.by.caller begun point.book.rows point.work

begun_point : (point : Point) (entry : Entry) (begun : Task) → entry.event ≡ event.Begin begun → entry.reply ≡ reply.Started → Begun point entry begun
begun_point point entry begun is told = record {
  rows =
      subst (λ (e : Event). (answer point entry.now e entry.reply).book.rows ≡ point.book.rows) (sym is)
      (subst (λ (r : Reply). (answer point entry.now (event.Begin begun) r).book.rows ≡ point.book.rows) (sym told) refl);
  work =
      subst (λ (e : Event). work_after point entry.by.caller e (answer point entry.now e entry.reply)
      ≡ started (next_number point) entry.by.caller begun point.book.rows point.work) (sym is)
      (subst (λ (r : Reply). work_after point entry.by.caller (event.Begin begun) (answer point entry.now (event.Begin begun) r)
      ≡ started (next_number point) entry.by.caller begun point.book.rows point.work) (sym told) refl);
}

pub jobs_begun : (point : Point) (entry : Entry) (begun : Task) → entry.event ≡ event.Begin begun → entry.reply ≡ reply.Started →
    (after point entry).work.jobs ≡ point.work.jobs ++ begun_job (next_number point) entry.by.caller begun point.book.rows point.work ∷ []
jobs_begun point entry begun is told =
    ap (λ (w : WorkState). w.jobs) (begun_point point entry begun is told).work
    ∙ begun_jobs (next_number point) entry.by.caller begun point.book.rows point.work

-- ---- takes

-- what is true of a disk, and stays so as loans of a job are taken, is true once all of them are
takes : (P : List (List (List ℕ)) → Part → Paths → Type 0) (o : Option Lent) (lent : List (List (List ℕ))) (t : List (List ℕ)) (content : Part)
    (rough : Paths) → P lent content rough →
    ((taken : List (List ℕ)) (some : List (List (List ℕ))) (part : Part) (its : Paths) → Contains (t ∷ claimed_by_part o) taken → P some part its →
    P (some ++ taken ∷ []) (without taken part) (paths_outside taken its)) →
    P (lent ++ t ∷ claimed_by_part o) (less_part o (without t content)) (less_rough_part o (paths_outside t rough))
takes P None lent t content rough holds step = step t lent content rough (contains_first t []) holds
takes P (Some part) lent t content rough holds step =
    subst (λ (l : List (List (List ℕ))). P l (without part.path (without t content)) (paths_outside part.path (paths_outside t rough)))
    (append_assoc lent (t ∷ []) (part.path ∷ []))
    (step part.path (lent ++ t ∷ []) (without t content) (paths_outside t rough) (contains_more t (part.path ∷ []) part.path (contains_first part.path []))
    (step t lent content rough (contains_first t (part.path ∷ [])) holds))

part_nodes : (o : Option Lent) (places : List (List (List ℕ))) (content : Part) → AreNodesWithin places content → AreNodesWithin places (less_part o content)
part_nodes None places content within = within
part_nodes (Some part) places content within = take_nodes places places part.path content within (λ x aside most. most)

part_rough : (o : Option Lent) (places : List (List (List ℕ))) (rough : Paths) → IsRoughWithin places rough → IsRoughWithin places (less_rough_part o rough)
part_rough None places rough within = within
part_rough (Some part) places rough within = take_rough places places part.path rough within (λ x aside most. most)

pub begun_tied : (spoken : ℕ → Bool) (point : Point) (entry : Entry) (begun : Task) (lent : List (List (List ℕ))) (content : Part)
    (rough : Paths) → entry.event ≡ event.Begin begun → entry.reply ≡ reply.Started →
    IsWork (next_number (after point entry)) (after point entry).book.rows (after point entry).work → IsTiedDisk spoken point lent content rough →
    IsTiedDisk spoken (after point entry) (lent ++ path_of_task begun ∷ claimed_by_part (lent_for begun point.book.rows point.work.ways))
    (less_part (lent_for begun point.book.rows point.work.ways) (without (path_of_task begun) content))
    (less_rough_part (lent_for begun point.book.rows point.work.ways) (paths_outside (path_of_task begun) rough))
begun_tied spoken point entry begun lent content rough is told rules disk = record {
  loans = subst (λ (jobs : List Job). AreLoans jobs (lent ++ loans_of job)) (sym jobs_are) (begin_loans point.work.jobs job lent disk.loans);
  out = takes AreOut part lent t content rough disk.out (λ taken some its_part its among held. take_out some taken its_part its held);
  tied =
      takes (λ some its_part its. AreTied spoken (after point entry).book.rows (after point entry).work.jobs its_part its) part lent t content rough tied
      (λ taken some its_part its among held.
      take_tied spoken (after point entry).book.rows (after point entry).work.jobs taken its_part its held
      (loan_clear (next_number (after point entry)) (after point entry).book.rows (after point entry).work taken rules (ours taken among)));
}
  where
    t : List (List ℕ)
    t = path_of_task begun

    part : Option Lent
    part = lent_for begun point.book.rows point.work.ways

    job : Job
    job = begun_job (next_number point) entry.by.caller begun point.book.rows point.work

    jobs_are : (after point entry).work.jobs ≡ point.work.jobs ++ job ∷ []
    jobs_are = jobs_begun point entry begun is told

    tied : AreTied spoken (after point entry).book.rows (after point entry).work.jobs content rough
    tied =
        subst (λ (rows : List Row). AreTied spoken rows (after point entry).work.jobs content rough) (sym (begun_point point entry begun is told).rows)
        (subst (λ (jobs : List Job). AreTied spoken point.book.rows jobs content rough) (sym jobs_are)
        (begin_tied spoken point.book.rows point.work.jobs job content rough disk.tied))

    ours : (taken : List (List ℕ)) → Contains (loans_of job) taken → Contains (loans (after point entry).work.jobs) taken
    ours taken among =
        subst (λ (jobs : List Job). Contains (loans jobs) taken) (sym jobs_are)
        (named_among loans_of (point.work.jobs ++ job ∷ []) job taken
        (Contains-append_right point.work.jobs (job ∷ []) job (contains_first job [])) among)

pub begin_disk : (spoken : ℕ → Bool) (point : Point) (entry : Entry) (begun : Task) (lent : List (List (List ℕ))) (content : Part)
    (rough : Paths) → KeptAscend point.kept → entry.event ≡ event.Begin begun → entry.reply ≡ reply.Started →
    IsWork (next_number (after point entry)) (after point entry).book.rows (after point entry).work → IsDisk spoken point lent content rough →
    IsDisk spoken (after point entry) (lent ++ path_of_task begun ∷ claimed_by_part (lent_for begun point.book.rows point.work.ways))
    (less_part (lent_for begun point.book.rows point.work.ways) (without (path_of_task begun) content))
    (less_rough_part (lent_for begun point.book.rows point.work.ways) (paths_outside (path_of_task begun) rough))
begin_disk spoken point entry begun lent content rough asc is told rules disk = record {
  loans = tied.loans;
  out = tied.out;
  tied = tied.tied;
  covered =
      subst (λ (rows : List Row). AreNodesWithin (node_places rows (after point entry).work) (less_part part (without t content))) (sym left.rows)
      (subst (λ (work : WorkState). AreNodesWithin (node_places point.book.rows work) (less_part part (without t content))) (sym left.work)
      (part_nodes part (node_places point.book.rows later) (without t content)
      (take_nodes (node_places point.book.rows point.work) (node_places point.book.rows later) t content disk.covered
      (begun_nodes (next_number point) entry.by.caller begun point.book.rows point.work))));
  settled =
      subst (λ (work : WorkState). IsRoughWithin (rough_places work) (less_rough_part part (paths_outside t rough))) (sym left.work)
      (part_rough part (rough_places later) (paths_outside t rough)
      (take_rough (rough_places point.work) (rough_places later) t rough disk.settled
      (begun_rough (next_number point) entry.by.caller begun point.book.rows point.work)));
  whole =
      takes (λ some its_part its. IsWhole some (after point entry).kept its_part its) part lent t content rough
      (begin_whole point entry begun lent content rough asc is disk.whole)
      (λ taken some its_part its among held. take_whole some (after point entry).kept taken its_part its held);
}
  where
    t : List (List ℕ)
    t = path_of_task begun

    part : Option Lent
    part = lent_for begun point.book.rows point.work.ways

    later : WorkState
    later = started (next_number point) entry.by.caller begun point.book.rows point.work

    left : Begun point entry begun
    left = begun_point point entry begun is told

    tied : IsTiedDisk spoken (after point entry) (lent ++ t ∷ claimed_by_part part) (less_part part (without t content))
        (less_rough_part part (paths_outside t rough))
    tied = begun_tied spoken point entry begun lent content rough is told rules (tied_disk spoken point lent content rough disk)

-- ---- a begin that is refused

-- what it has left: the same rows and kept rows, and a wipe's mark is gone
record Kept (point : Point) (begun : Task) (caller : ℕ) (what : Event) (served : Served) : Type 0 where
  rows : served.book.rows ≡ point.book.rows
  work : work_after point caller what served ≡ refused begun point.work
  kept : kept_after point what served ≡ point.kept

refused_served : (point : Point) (begun : Task) (note : FaultNote) (caller : ℕ) (b : Bool) →
    reply.Refused note ≡ (cond {A = Served} b (refuse (next_number point) begun note point.book) (record { reply = reply.Started; book = point.book })).reply →
    Kept point begun caller (event.Begin begun)
    (cond {A = Served} b (refuse (next_number point) begun note point.book) (record { reply = reply.Started; book = point.book }))
refused_served point begun note caller true told = record { rows = refl; work = refl; kept = refl }
refused_served point begun note caller false told = absurd cc

refused_point : (point : Point) (entry : Entry) (begun : Task) (note : FaultNote) → IsReplied point entry → entry.event ≡ event.Begin begun →
    entry.reply ≡ reply.Refused note → Kept point begun entry.by.caller entry.event (answer point entry.now entry.event entry.reply)
refused_point point entry begun note replied is told =
    subst (λ (e : Event). Goal e entry.reply) (sym is) (subst (λ (r : Reply). Goal (event.Begin begun) r) (sym told)
    (refused_served point begun note entry.by.caller (is_keeper note.device && list_any (overlaps_kept (path_of_task begun)) point.kept))) replied
  where
    Goal : Event → Reply → Type 0
    Goal e r = r ≡ (answer point entry.now e r).reply → Kept point begun entry.by.caller e (answer point entry.now e r)

refused_jobs : (begun : Task) (work : WorkState) → (refused begun work).jobs ≡ work.jobs
refused_jobs (task.Make path stamp) work = refl
refused_jobs (task.Wipe path) work = refl

refused_nodes : (begun : Task) (rows : List Row) (work : WorkState) → node_places rows (refused begun work) ≡ node_places rows work
refused_nodes (task.Make path stamp) rows work = refl
refused_nodes (task.Wipe path) rows work =
    ap (λ (ps : List (List (List ℕ))). map path_of_row (filter (is_on_disk work) rows) ++ ps) (paths-map (marked false path) (marked-path false path) work.debris)

refused_rough : (begun : Task) (work : WorkState) → rough_places (refused begun work) ≡ rough_places work
refused_rough (task.Make path stamp) work = refl
refused_rough (task.Wipe path) work = ap (λ (ps : List (List (List ℕ))). work.dirty ++ ps) (paths-map (marked false path) (marked-path false path) work.debris)

pub refused_tied : (spoken : ℕ → Bool) (point : Point) (entry : Entry) (begun : Task) (note : FaultNote) (lent : List (List (List ℕ)))
    (content : Part) (rough : Paths) → IsReplied point entry → entry.event ≡ event.Begin begun → entry.reply ≡ reply.Refused note →
    IsTiedDisk spoken point lent content rough → IsTiedDisk spoken (after point entry) lent content rough
refused_tied spoken point entry begun note lent content rough replied is told disk = record {
  loans = subst (λ (js : List Job). AreLoans js lent) (sym jobs) disk.loans;
  out = disk.out;
  tied =
      subst (λ (rows : List Row). AreTied spoken rows (after point entry).work.jobs content rough) (sym left.rows)
      (subst (λ (js : List Job). AreTied spoken point.book.rows js content rough) (sym jobs) disk.tied);
}
  where
    left : Kept point begun entry.by.caller entry.event (answer point entry.now entry.event entry.reply)
    left = refused_point point entry begun note replied is told

    jobs : (after point entry).work.jobs ≡ point.work.jobs
    jobs = ap (λ (w : WorkState). w.jobs) left.work ∙ refused_jobs begun point.work

pub refused_disk : (spoken : ℕ → Bool) (point : Point) (entry : Entry) (begun : Task) (note : FaultNote) (lent : List (List (List ℕ)))
    (content : Part) (rough : Paths) → IsReplied point entry → entry.event ≡ event.Begin begun → entry.reply ≡ reply.Refused note →
    IsDisk spoken point lent content rough → IsDisk spoken (after point entry) lent content rough
refused_disk spoken point entry begun note lent content rough replied is told disk = record {
  loans = tied.loans;
  out = tied.out;
  tied = tied.tied;
  covered =
      subst (λ (rows : List Row). AreNodesWithin (node_places rows (after point entry).work) content) (sym left.rows)
      (subst (λ (w : WorkState). AreNodesWithin (node_places point.book.rows w) content) (sym left.work)
      (subst (λ (ps : List (List (List ℕ))). AreNodesWithin ps content) (sym (refused_nodes begun point.book.rows point.work)) disk.covered));
  settled =
      subst (λ (w : WorkState). IsRoughWithin (rough_places w) rough) (sym left.work)
      (subst (λ (ps : List (List (List ℕ))). IsRoughWithin ps rough) (sym (refused_rough begun point.work)) disk.settled);
  whole = subst (λ (ks : List KeptRow). IsWhole lent ks content rough) (sym left.kept) disk.whole;
}
  where
    left : Kept point begun entry.by.caller entry.event (answer point entry.now entry.event entry.reply)
    left = refused_point point entry begun note replied is told

    tied : IsTiedDisk spoken (after point entry) lent content rough
    tied = refused_tied spoken point entry begun note lent content rough replied is told (tied_disk spoken point lent content rough disk)
