-- A disk to which all has come back, and what a crash leaves of it.
use Rattle.std.proofs.Common.{◌≡◌, ℕ, Bool, true, false, not, ◌&&◌, ◌||◌, List, [], ◌++◌, Option, Some, None, refl, sym, ap, ◌∙◌, Contains, arith}
use Rattle.std.specs.List.{filter}
use Rattle.std.proofs.lemmas.Bool.{both_ways, eq-eqb, eqb-true, false_from_ne_true, not-true}
use Rattle.mat_path.specs.Names.{is_prefix}
use Rattle.mat_path.proofs.Elements.{contains_filter, contains_first, filtered_contains}
use Rattle.mat_path.proofs.Overlaps.{apart_of_prefixes}
use Rattle.mat_path.proofs.PathLemmas.{prefix-append, prefix-trans}
use Rattle.mat_tree.specs.Parts.{Part, replaced}
use Rattle.mat_model.specs.declared.book.Row.{Row}
use Rattle.mat_model.specs.WorkState.{Job, Lent, WorkState, is_job, is_other_job, path_of_task, running}
use Rattle.model_laws.specs.StoredRules.{path_of_job}
use Rattle.model_laws.specs.WorkRules.{IsWork, claimed_by_part, loans_of}
use Rattle.model_laws.proofs.ClaimLemmas.{loans_apart, part_loan}
use Rattle.model_laws.proofs.WorkBase.{same_job}
use Rattle.region_port.specs.Calls.{Paths, paths_below, paths_of_both}
use Rattle.region_port.specs.Crashes.{Crashes}
use Rattle.region_port.specs.declared.crash.Rest.{Rest}
use Rattle.core_laws.specs.Whole.{IsImage, IsPartSettled, IsReturned, IsSpared, Regions, with_part, with_rough_part}
use Rattle.core_laws.proofs.LoanLemmas.{IsRunning, is_running}
use Rattle.core_laws.proofs.PlaceLemmas.{given_elsewhere, or_none, replaced_elsewhere, replaced_within}

pub none_returned : (regions : Regions) (content : Part) (rough : Paths) → IsReturned [] regions content rough content rough
none_returned regions content rough = record {
  disk = λ path tasks parts. refl;
  lent = λ job part rel (k, within, at) is. absurd (omega arith);
  as_rough = λ path tasks. refl;
}

-- ---- a job's loans come back

-- what its part leaves at a path that isn't at or below it
part_aside : (o : Option Lent) (regions : Regions) (content : Part) (path : List (List ℕ)) →
    ((part : Lent) → o ≡ Some part → is_prefix part.path path ≡ false) → with_part o regions content path ≡ content path
part_aside None regions content path aside = refl
part_aside (Some part) regions content path aside = replaced_elsewhere part.path path (regions part.path) content (aside part refl)

-- and it isn't rough anywhere
part_settled : (o : Option Lent) (its rough : Paths) (path : List (List ℕ)) → IsPartSettled o its → with_rough_part o its rough path ≡ rough path
part_settled None its rough path none = refl
part_settled (Some part) its rough path none = by (is_prefix part.path path) refl
  where
    by : (b : Bool) → is_prefix part.path path ≡ b → paths_of_both rough (paths_below part.path its) path ≡ rough path
    by true over =
        ap (λ t. rough path || (is_prefix part.path path && t)) (none path over) ∙ ap (λ t. rough path || (t && false)) over ∙ or_none (rough path)
    by false aside = given_elsewhere part.path path its rough aside

pub job_returned : (next number : ℕ) (rows : List Row) (work : WorkState) (job : Job) (regions : Regions) (inner content full : Part)
    (its part rough all : Paths) → IsWork next rows work → running number work ≡ Some job → IsPartSettled job.lent part →
    IsReturned (filter (is_other_job number) work.jobs) regions (with_part job.lent regions (replaced (path_of_job job) inner content))
    (with_rough_part job.lent part (paths_of_both rough (paths_below (path_of_job job) its))) full all →
    IsReturned work.jobs regions content rough full all
job_returned next number rows work job regions inner content full its part rough all rules runs settled rest = record {
  disk = λ path tasks parts.
      rest.disk path (λ one among. tasks one (other one among)) (λ one lent among is. parts one lent (other one among) is)
      ∙ part_aside job.lent regions (replaced (path_of_job job) inner content) path (λ lent is. parts job lent run.among is)
      ∙ replaced_elsewhere (path_of_job job) path inner content (tasks job run.among);
  lent = λ one lent rel among is. by one lent rel among is (is_job number one) refl;
  as_rough = λ path tasks.
      rest.as_rough path (λ one among. tasks one (other one among))
      ∙ part_settled job.lent part (paths_of_both rough (paths_below (path_of_job job) its)) path settled
      ∙ given_elsewhere (path_of_job job) path its rough (tasks job run.among);
}
  where
    run : IsRunning number work.jobs job
    run = is_running number work.jobs job runs

    other : (one : Job) → Contains (filter (is_other_job number) work.jobs) one → Contains work.jobs one
    other one among = (filtered_contains (is_other_job number) work.jobs one among).0

    -- the loans of other jobs are apart from its part
    apart : (lent : Lent) → job.lent ≡ Some lent → (one : Job) → Contains (filter (is_other_job number) work.jobs) one → (loan : List (List ℕ)) →
        Contains (loans_of one) loan → (rel : List (List ℕ)) → is_prefix loan (lent.path ++ rel) ≡ false
    apart lent is one among loan named rel =
        let here = filtered_contains (is_other_job number) work.jobs one among in
        apart_of_prefixes lent.path loan (lent.path ++ rel)
        (loans_apart next rows work job one lent.path loan rules run.among here.0
        (λ same. both_ways (is_job number one) (not-true (is_job number one) here.1) (eq-eqb one.number number (sym same ∙ run.numbered)))
        (part_loan job lent is) named)
        (prefix-append lent.path rel)

    mine : (lent : Lent) (rel : List (List ℕ)) → job.lent ≡ Some lent → full (lent.path ++ rel) ≡ regions lent.path rel
    mine lent rel is =
        rest.disk (lent.path ++ rel)
        (λ one among. apart lent is one among (path_of_job one) (contains_first (path_of_task one.task) (claimed_by_part one.lent)) rel)
        (λ one its_lent among has. apart lent is one among its_lent.path (part_loan one its_lent has) rel)
        ∙ ap (λ (o : Option Lent). with_part o regions (replaced (path_of_job job) inner content) (lent.path ++ rel)) is
        ∙ replaced_within lent.path rel (regions lent.path) (replaced (path_of_job job) inner content)

    by : (one : Job) (lent : Lent) (rel : List (List ℕ)) → Contains work.jobs one → one.lent ≡ Some lent → (b : Bool) → is_job number one ≡ b →
        full (lent.path ++ rel) ≡ regions lent.path rel
    by one lent rel among is true same =
        let own = same_job work.jobs one job rules.numbers among run.among (eqb-true one.number number same ∙ sym run.numbered) in
        mine lent rel (ap (λ (j : Job). j.lent) (sym own) ∙ is)
    by one lent rel among is false differs =
        rest.lent one lent rel (contains_filter (is_other_job number) work.jobs one (ap not differs) among) is

-- ---- a crash

pub crash_image : (jobs : List Job) (regions : Regions) (rest : Rest) (content full image : Part) (rough all after : Paths) →
    IsReturned jobs regions content rough full all → Crashes rest all full image → ((path : List (List ℕ)) → after path ≡ false) →
    IsImage jobs regions content rough image after
crash_image jobs regions rest content full image rough all after back crash none = record {
  disk = λ path spared parts. left path spared ∙ back.disk path spared.free parts;
  lent = λ job part rel among is spared. left (part.path ++ rel) spared ∙ back.lent job part rel among is;
  settled = none;
}
  where
    left : (path : List (List ℕ)) → IsSpared jobs rough path → image path ≡ full path
    left path spared =
        crash.spared path
        (λ above over.
        back.as_rough above
        (λ job among. false_from_ne_true (is_prefix (path_of_job job) above)
        (λ at. both_ways (is_prefix (path_of_job job) path) (spared.free job among) (prefix-trans (path_of_job job) above path at over)))
        ∙ spared.settled above over)
