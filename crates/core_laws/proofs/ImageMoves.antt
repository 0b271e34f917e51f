-- What a crash leaves between the gives of an end and between the takes of a begin.
use Rattle.std.proofs.Common.{◌≡◌, ◌≤◌, ℕ, Bool, true, false, inl, inr, List, [], ◌∷◌, ◌++◌, Some, None, sym, ap, subst, ◌∙◌, map, Contains, arith}
use Rattle.std.proofs.lemmas.Bool.{both_ways, false_from_ne_true}
use Rattle.std.proofs.lemmas.List.{map-append}
use Rattle.std.proofs.lemmas.List.Elements.{Contains-append_cases, Contains-append_left}
use Rattle.mat_path.specs.Covering.{covering}
use Rattle.mat_path.specs.Names.{is_prefix}
use Rattle.mat_path.proofs.Elements.{contains_cases}
use Rattle.mat_path.proofs.PathLemmas.{prefix-trans}
use Rattle.mat_tree.specs.Parts.{Part, replaced, without}
use Rattle.mat_model.specs.declared.answers.Reply.TheVariants as reply
use Rattle.mat_model.specs.declared.entries.Entry.{Entry}
use Rattle.mat_model.specs.declared.entries.Event.TheVariants as event
use Rattle.mat_model.specs.declared.entries.Task.{Task}
use Rattle.mat_model.specs.History.{Point, after, next_number}
use Rattle.mat_model.specs.WorkState.{Job, Lent, path_of_task, running}
use Rattle.model_laws.specs.KeptRules.{KeptAscend, path_of_kept}
use Rattle.model_laws.specs.StoredRules.{IsStored, path_of_job}
use Rattle.region_port.specs.Calls.{Paths, paths_below, paths_of_both, paths_outside}
use Rattle.core_laws.specs.DiskRules.{IsDisk, begun_unread}
use Rattle.core_laws.specs.Whole.{HaveLentTrees, IsImage, IsSpared, IsWhole, Regions}
use Rattle.core_laws.proofs.BeginMoves.{begun_job, jobs_begun}
use Rattle.core_laws.proofs.ImageLemmas.{image_whole}
use Rattle.core_laws.proofs.KeepMoves.{begin_whole}
use Rattle.core_laws.proofs.LoanLemmas.{begin_loans, is_running}
use Rattle.core_laws.proofs.PlaceLemmas.{given_elsewhere, replaced_elsewhere}
use Rattle.core_laws.proofs.RuleMoves.{disk_image}
use Rattle.core_laws.proofs.WholeLemmas.{take_whole}

-- ---- gives

-- while a job runs, the part of its task is in no image's way: with and without it the images are the same
task_image : (jobs : List Job) (job : Job) (regions : Regions) (inner content image : Part) (its rough later : Paths) → Contains jobs job →
    IsImage jobs regions (replaced (path_of_job job) inner content) (paths_of_both rough (paths_below (path_of_job job) its)) image later →
    IsImage jobs regions content rough image later
task_image jobs job regions inner content image its rough later among left = record {
  disk = λ path spared parts.
      left.disk path (spares path spared) parts ∙ replaced_elsewhere (path_of_job job) path inner content (spared.free job among);
  lent = λ one part rel within is spared. left.lent one part rel within is (spares (part.path ++ rel) spared);
  settled = left.settled;
}
  where
    aside : (path : List (List ℕ)) → IsSpared jobs rough path → (over : List (List ℕ)) → is_prefix over path ≡ true →
        is_prefix (path_of_job job) over ≡ false
    aside path spared over at =
        false_from_ne_true (is_prefix (path_of_job job) over)
        (λ under. both_ways (is_prefix (path_of_job job) path) (spared.free job among) (prefix-trans (path_of_job job) over path under at))

    spares : (path : List (List ℕ)) → IsSpared jobs rough path →
        IsSpared jobs (paths_of_both rough (paths_below (path_of_job job) its)) path
    spares path spared = record {
      settled = λ over at. given_elsewhere (path_of_job job) over its rough (aside path spared over at) ∙ spared.settled over at;
      free = spared.free;
    }

pub given_image : (spoken : ℕ → Bool) (point : Point) (number : ℕ) (job : Job) (lent : List (List (List ℕ))) (regions : Regions)
    (inner content image : Part) (its rough later : Paths) → IsStored point.book.rows point.work.jobs point.kept → running number point.work ≡ Some job →
    IsDisk spoken point lent content rough → HaveLentTrees point.work.jobs regions →
    IsImage point.work.jobs regions (replaced (path_of_job job) inner content) (paths_of_both rough (paths_below (path_of_job job) its)) image later →
    IsWhole [] point.kept image later
given_image spoken point number job lent regions inner content image its rough later stored runs disk trees left =
    disk_image spoken point lent regions content image rough later stored disk trees
    (task_image point.work.jobs job regions inner content image its rough later (is_running number point.work.jobs job runs).among left)

-- ---- takes

-- a job that reads nothing yet has no part
no_part : (number caller : ℕ) (begun : Task) (job : Job) (part : Lent) → Contains (begun_unread number caller begun ∷ []) job → job.lent ≡ Some part → ⊥
no_part number caller begun job part among has =
    elim (contains_cases (begun_unread number caller begun) [] job among) [
      | inl same ↦ let none : job.lent ≡ None = ap (λ (j : Job). j.lent) (sym same) in absurd cc
      | inr (k, within, at) ↦ absurd (omega arith)
    ]

-- kept rows keep their rules beside the jobs of which the new one reads nothing yet
unread_stored : (point : Point) (entry : Entry) (begun : Task) → entry.event ≡ event.Begin begun → entry.reply ≡ reply.Started →
    IsStored (after point entry).book.rows (after point entry).work.jobs (after point entry).kept →
    IsStored (after point entry).book.rows (point.work.jobs ++ begun_unread (next_number point) entry.by.caller begun ∷ []) (after point entry).kept
unread_stored point entry begun is told stored = record {
  order = stored.order;
  once = λ path. subst (λ (ps : List (List (List ℕ))). covering path (map path_of_kept (after point entry).kept ++ ps) ≤ 1) paths (stored.once path);
  stands = stored.stands;
  lent = λ one job part among within has meet. elim (Contains-append_cases point.work.jobs (unread ∷ []) job within) [
    | inl was ↦
        stored.lent one job part among
        (subst (λ (jobs : List Job). Contains jobs job) (sym jobs_are) (Contains-append_left point.work.jobs (new ∷ []) job was)) has meet
    | inr now ↦ absurd (no_part (next_number point) entry.by.caller begun job part now has)
  ];
}
  where
    new : Job
    new = begun_job (next_number point) entry.by.caller begun point.book.rows point.work

    unread : Job
    unread = begun_unread (next_number point) entry.by.caller begun

    jobs_are : (after point entry).work.jobs ≡ point.work.jobs ++ new ∷ []
    jobs_are = jobs_begun point entry begun is told

    paths : map path_of_job (after point entry).work.jobs ≡ map path_of_job (point.work.jobs ++ unread ∷ [])
    paths = ap (map path_of_job) jobs_are ∙ map-append path_of_job point.work.jobs (new ∷ []) ∙ sym (map-append path_of_job point.work.jobs (unread ∷ []))

pub taken_image : (spoken : ℕ → Bool) (point : Point) (entry : Entry) (begun : Task) (lent : List (List (List ℕ))) (regions : Regions)
    (content image : Part) (rough later : Paths) → KeptAscend point.kept → entry.event ≡ event.Begin begun → entry.reply ≡ reply.Started →
    IsStored (after point entry).book.rows (after point entry).work.jobs (after point entry).kept → IsDisk spoken point lent content rough →
    HaveLentTrees point.work.jobs regions →
    IsImage (point.work.jobs ++ begun_unread (next_number point) entry.by.caller begun ∷ []) regions (without (path_of_task begun) content)
    (paths_outside (path_of_task begun) rough) image later → IsWhole [] (after point entry).kept image later
taken_image spoken point entry begun lent regions content image rough later asc is told stored disk trees left =
    image_whole (after point entry).book.rows (point.work.jobs ++ unread ∷ []) (lent ++ t ∷ []) (after point entry).kept regions (without t content) image
    (paths_outside t rough) later (unread_stored point entry begun is told stored) (begin_loans point.work.jobs unread lent disk.loans)
    (λ job part among has. elim (Contains-append_cases point.work.jobs (unread ∷ []) job among) [
      | inl was ↦ trees job part was has
      | inr now ↦ absurd (no_part (next_number point) entry.by.caller begun job part now has)
    ])
    (take_whole lent (after point entry).kept t content rough (begin_whole point entry begun lent content rough asc is disk.whole)) left
  where
    t : List (List ℕ)
    t = path_of_task begun

    unread : Job
    unread = begun_unread (next_number point) entry.by.caller begun
