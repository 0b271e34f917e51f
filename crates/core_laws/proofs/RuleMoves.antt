-- The rules of a disk together, as requests come and at a restart.
use Rattle.std.proofs.Common.{◌≡◌, ℕ, Bool, true, List, [], sym, ap, subst, ◌∙◌, map, Contains}
use Rattle.std.specs.Option.{is_some}
use Rattle.mat_path.proofs.PathLemmas.{prefix-append}
use Rattle.mat_tree.specs.Parts.{Part}
use Rattle.mat_model.specs.declared.book.Row.{Row}
use Rattle.mat_model.specs.declared.entries.Entry.{Entry}
use Rattle.mat_model.specs.declared.entries.Event.TheVariants as event
use Rattle.mat_model.specs.declared.opening.Opening.{Opening}
use Rattle.mat_model.specs.declared.requests.Asked.{Asked}
use Rattle.mat_model.specs.History.{Point, after, next_number, opened}
use Rattle.mat_model.specs.Legal.{IsRecorded, IsReplied}
use Rattle.mat_model.specs.Openings.{IsOpening, opening_rows, path_of_row}
use Rattle.mat_model.specs.Rows.{are_apart}
use Rattle.mat_model.specs.WorkState.{Job}
use Rattle.model_laws.specs.StoredRules.{IsStored}
use Rattle.model_laws.specs.WorkRules.{IsWork, loans}
use Rattle.region_port.specs.Calls.{Paths}
use Rattle.region_port.specs.Strays.{AreTopmost, candidates}
use Rattle.core_laws.specs.Covered.{IsCovered, IsRoughCovered, node_places, rough_places}
use Rattle.core_laws.specs.DiskRules.{IsDisk, IsTiedDisk}
use Rattle.core_laws.specs.Loans.{AreLoans}
use Rattle.core_laws.specs.Places.{IsSameBelow}
use Rattle.core_laws.specs.Tied.{IsTreeAt}
use Rattle.core_laws.specs.Whole.{HaveLentTrees, IsImage, IsWhole, Regions}
use Rattle.core_laws.proofs.CoveredLemmas.{kept_nodes, kept_rough}
use Rattle.core_laws.proofs.ImageLemmas.{image_whole}
use Rattle.core_laws.proofs.KeepMoves.{again_whole, entry_whole}
use Rattle.core_laws.proofs.LoanLemmas.{bare_stays, jobs_out, no_loans}
use Rattle.core_laws.proofs.OpeningLemmas.{none_out, opening_again, opening_covered, opening_tied, settled_within}
use Rattle.core_laws.proofs.PlacesLemmas.{request_nodes, request_rough}
use Rattle.core_laws.proofs.PointMoves.{request_jobs, request_tied}
use Rattle.core_laws.proofs.TiedLemmas.{tree_stays}
use Rattle.core_laws.proofs.WholeLemmas.{same_whole}

-- ---- rules that don't ask how the disk was at the opening

pub tied_disk : (spoken : ℕ → Bool) (point : Point) (lent : List (List (List ℕ))) (content : Part) (rough : Paths) →
    IsDisk spoken point lent content rough → IsTiedDisk spoken point lent content rough
tied_disk spoken point lent content rough disk = record { loans = disk.loans; out = disk.out; tied = disk.tied }

pub same_tied : (spoken : ℕ → Bool) (point : Point) (lent : List (List (List ℕ))) (old new : Part) (before later : Paths) →
    IsSameBelow [] old before new later → IsTiedDisk spoken point lent old before → IsTiedDisk spoken point lent new later
same_tied spoken point lent old new before later same disk = record {
  loans = disk.loans;
  out = λ loan among. bare_stays loan old new before later (at loan) (disk.out loan among);
  tied = λ row among home said. tree_stays row.path row.tree old new before later (at row.path) (disk.tied row among home said);
}
  where
    at : (place : List (List ℕ)) → IsSameBelow place old before new later
    at place = record {
      node = λ path under. same.node path (prefix-append [] path);
      rough = λ path under. same.rough path (prefix-append [] path);
    }

pub asked_tied : (spoken : ℕ → Bool) (point : Point) (entry : Entry) (request : Asked) (lent : List (List (List ℕ))) (content : Part)
    (rough : Paths) → are_apart point.book.rows ≡ true → entry.event ≡ event.Asked request → IsTiedDisk spoken point lent content rough →
    IsTiedDisk spoken (after point entry) lent content rough
asked_tied spoken point entry request lent content rough apart is disk = record {
  loans = subst (λ (jobs : List Job). AreLoans jobs lent) (sym (request_jobs point entry request is)) disk.loans;
  out = disk.out;
  tied = request_tied spoken point entry request content rough apart is disk.tied;
}

pub opened_tied : (spoken : ℕ → Bool) (opening : Opening) (content : Part) (rough : Paths) →
    ((row : Row) → Contains (opened opening).book.rows row → spoken row.stamp ≡ true → IsTreeAt row.path row.tree content rough) →
    IsTiedDisk spoken (opened opening) [] content rough
opened_tied spoken opening content rough each = record {
  loans = no_loans;
  out = none_out content rough;
  tied = λ row among home said. each row among said;
}

-- ---- all rules

pub same_disk : (spoken : ℕ → Bool) (point : Point) (lent : List (List (List ℕ))) (old new : Part) (before later : Paths) →
    IsSameBelow [] old before new later → IsDisk spoken point lent old before → IsDisk spoken point lent new later
same_disk spoken point lent old new before later same disk = record {
  loans = tied.loans;
  out = tied.out;
  tied = tied.tied;
  covered = λ path there. disk.covered path (ap is_some (sym (same.node path (prefix-append [] path))) ∙ there);
  settled = λ path is. disk.settled path (sym (same.rough path (prefix-append [] path)) ∙ is);
  whole = same_whole lent point.kept old new before later same disk.whole;
}
  where
    tied : IsTiedDisk spoken point lent new later
    tied = same_tied spoken point lent old new before later same (tied_disk spoken point lent old before disk)

pub request_disk : (spoken : ℕ → Bool) (point : Point) (entry : Entry) (request : Asked) (lent : List (List (List ℕ))) (content : Part)
    (rough : Paths) → IsWork (next_number point) point.book.rows point.work → IsStored point.book.rows point.work.jobs point.kept →
    IsReplied point entry → IsRecorded point entry → entry.event ≡ event.Asked request →
    IsWork (next_number (after point entry)) (after point entry).book.rows (after point entry).work →
    ((row : Row) → Contains (after point entry).book.rows row → spoken row.stamp ≡ true) → IsDisk spoken point lent content rough →
    IsDisk spoken (after point entry) lent content rough
request_disk spoken point entry request lent content rough rules stored replied counted is later said disk = record {
  loans = tied.loans;
  out = tied.out;
  tied = tied.tied;
  covered = covered;
  settled = settled;
  whole =
      entry_whole spoken point entry lent content rough stored.order replied counted later tied.loans tied.tied covered settled said disk.whole;
}
  where
    tied : IsTiedDisk spoken (after point entry) lent content rough
    tied = asked_tied spoken point entry request lent content rough rules.apart is (tied_disk spoken point lent content rough disk)

    covered : IsCovered (after point entry).book.rows (after point entry).work content
    covered =
        kept_nodes (loans point.work.jobs) (node_places point.book.rows point.work)
        (node_places (after point entry).book.rows (after point entry).work) content rough
        (jobs_out point.work.jobs lent content rough disk.loans disk.out) (request_nodes point entry request rules is) disk.covered

    settled : IsRoughCovered (after point entry).work rough
    settled =
        kept_rough (loans point.work.jobs) (rough_places point.work) (rough_places (after point entry).work) content rough
        (jobs_out point.work.jobs lent content rough disk.loans disk.out) (request_rough point entry request rules is) disk.settled

pub disk_image : (spoken : ℕ → Bool) (point : Point) (lent : List (List (List ℕ))) (regions : Regions) (content image : Part) (rough later : Paths) →
    IsStored point.book.rows point.work.jobs point.kept → IsDisk spoken point lent content rough → HaveLentTrees point.work.jobs regions →
    IsImage point.work.jobs regions content rough image later → IsWhole [] point.kept image later
disk_image spoken point lent regions content image rough later stored disk trees left =
    image_whole point.book.rows point.work.jobs lent point.kept regions content image rough later stored disk.loans trees disk.whole left

pub restart_disk : (spoken still : ℕ → Bool) (point : Point) (opening : Opening) (lent known : List (List (List ℕ))) (regions : Regions)
    (content image : Part) (rough later : Paths) → IsStored point.book.rows point.work.jobs point.kept → IsDisk spoken point lent content rough →
    HaveLentTrees point.work.jobs regions → IsImage point.work.jobs regions content rough image later → IsOpening opening → opening.lost ≡ [] →
    opening.rows ≡ opening_rows [] point.kept →
    ((path : List (List ℕ)) → Contains known path → Contains (map path_of_row opening.rows) path) →
    AreTopmost (candidates known image) opening.strays → IsDisk still (opened opening) [] image later
restart_disk spoken still point opening lent known regions content image rough later stored disk trees left right none rows named topmost = record {
  loans = no_loans;
  out = none_out image later;
  tied = opening_tied still opening image later whole;
  covered = opening_covered opening known image later right none named topmost whole;
  settled = settled_within (rough_places (opened opening).work) later left.settled;
  whole = whole;
}
  where
    whole : IsWhole [] (opened opening).kept image later
    whole =
        again_whole [] point.kept (opened opening).kept image later
        (disk_image spoken point lent regions content image rough later stored disk trees left)
        (opening_again opening [] point.kept rows)
