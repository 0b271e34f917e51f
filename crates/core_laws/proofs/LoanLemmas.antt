-- Loans of jobs and of the disk: a begin and an end keep them alike, they are apart, and nothing is where one is.
use Rattle.std.proofs.Common.{◌≡◌, ℕ, Bool, true, false, not, ◌&&◌, inl, inr, cond, List, [], ◌∷◌, ◌++◌, Option, Some, None, refl, sym, ap, subst, ◌∙◌, Contains, arith}
use Rattle.std.specs.List.{filter, find, list_any}
use Rattle.std.specs.Option.{option_map_or}
use Rattle.std.proofs.lemmas.Bool.{both_ways, eq-eqb, eqb-true, false_from_ne_true, not-true, or_parts}
use Rattle.std.proofs.lemmas.Grind.{flat_map-append}
use Rattle.std.proofs.lemmas.List.{append-nil}
use Rattle.std.proofs.lemmas.List.Elements.{Contains-append_cases, Contains-append_left, Contains-append_right}
use Rattle.mat_path.specs.Covering.{is_other_path}
use Rattle.mat_path.specs.Names.{is_prefix, overlap, same_names}
use Rattle.mat_path.proofs.CoveringLemmas.{apart_within, contains_among}
use Rattle.mat_path.proofs.Elements.{contains_cases, contains_filter, contains_first, contains_more, each_fails, filtered_contains, none_passes}
use Rattle.mat_path.proofs.Overlaps.{overlap-refl, overlap-sym}
use Rattle.mat_path.proofs.SameNames.{same_names-eq, same_names-refl}
use Rattle.mat_tree.specs.Parts.{Node, Part, replaced, without}
use Rattle.mat_model.specs.declared.book.Row.{Row}
use Rattle.mat_model.specs.WorkState.{Job, Lent, WorkState, has_loan, is_job, is_lent, is_other_job, lends_at, path_of_task, running}
use Rattle.model_laws.specs.WorkRules.{IsWork, claimed_by_part, loans, loans_of}
use Rattle.model_laws.proofs.ClaimLemmas.{loans_apart, loans_once, own_loans_apart, part_loan}
use Rattle.model_laws.proofs.Coverings.{among_named, named_among}
use Rattle.model_laws.proofs.Elements.{found_contains, found_passes}
use Rattle.model_laws.proofs.WorkBase.{same_job}
use Rattle.region_port.specs.Calls.{Paths, paths_below, paths_of_both, paths_outside}
use Rattle.core_laws.specs.Loans.{AreLoans, AreLoansApart, AreOut, given_back}
use Rattle.core_laws.specs.Places.{IsBareBelow, IsSameBelow}
use Rattle.core_laws.proofs.PlaceLemmas.{give_aside, take_clears}

-- ---- the loans of jobs

-- a job more has its loans more
loans_grow : (jobs : List Job) (job : Job) → loans (jobs ++ job ∷ []) ≡ loans jobs ++ loans_of job
loans_grow jobs job = flat_map-append loans_of jobs (job ∷ []) ∙ ap (λ (more : List (List (List ℕ))). loans jobs ++ more) (append-nil (loans_of job))

pub begin_loans : (jobs : List Job) (job : Job) (lent : List (List (List ℕ))) → AreLoans jobs lent → AreLoans (jobs ++ job ∷ []) (lent ++ loans_of job)
begin_loans jobs job lent are = record {
  out = λ loan among. elim (Contains-append_cases (loans jobs) (loans_of job) loan
      (subst (λ (l : List (List (List ℕ))). Contains l loan) (loans_grow jobs job) among)) [
        | inl before ↦ Contains-append_left lent (loans_of job) loan (are.out loan before)
        | inr new ↦ Contains-append_right lent (loans_of job) loan new
      ];
  ours = λ loan among. subst (λ (l : List (List (List ℕ))). Contains l loan) (sym (loans_grow jobs job))
      (elim (Contains-append_cases lent (loans_of job) loan among) [
        | inl before ↦ Contains-append_left (loans jobs) (loans_of job) loan (are.ours loan before)
        | inr new ↦ Contains-append_right (loans jobs) (loans_of job) loan new
      ]);
}

pub no_loans : AreLoans [] []
no_loans = record { out = λ loan among. among; ours = λ loan among. among }

pub jobs_out : (jobs : List Job) (lent : List (List (List ℕ))) (content : Part) (rough : Paths) → AreLoans jobs lent → AreOut lent content rough →
    AreOut (loans jobs) content rough
jobs_out jobs lent content rough are out = λ loan among. out loan (are.out loan among)

-- ---- loans that are given back

-- a loan stays that isn't one of those
stays_out : (back lent : List (List (List ℕ))) (p : List (List ℕ)) → Contains lent p →
    ((q : List (List ℕ)) → Contains back q → same_names q p ≡ false) → Contains (given_back back lent) p
stays_out [] lent p among others = among
stays_out (loan ∷ back) lent p among others =
    stays_out back (filter (is_other_path loan) lent) p
    (contains_filter (is_other_path loan) lent p (ap not (others loan (contains_first loan back))) among)
    (λ q also. others q (contains_more loan back q also))

-- a loan that stays was one, and isn't one of those
record Stayed (back lent : List (List (List ℕ))) (p : List (List ℕ)) : Type 0 where
  among : Contains lent p
  other : (q : List (List ℕ)) → Contains back q → same_names q p ≡ false

stayed : (back lent : List (List (List ℕ))) (p : List (List ℕ)) → Contains (given_back back lent) p → Stayed back lent p
stayed [] lent p among = record { among = among; other = λ q (k, within, at). absurd (omega arith) }
stayed (loan ∷ back) lent p among =
    let more = stayed back (filter (is_other_path loan) lent) p among in
    let here = filtered_contains (is_other_path loan) lent p more.among in
    record {
      among = here.0;
      other = λ q also. elim (contains_cases loan back q also) [
        | inl same ↦ subst (λ (l : List (List ℕ)). same_names l p ≡ false) same (not-true (same_names loan p) here.1)
        | inr later ↦ more.other q later
      ];
    }

-- ---- the end of a job

-- a job that runs under a number is one of the jobs, and has that number
pub record IsRunning (number : ℕ) (jobs : List Job) (job : Job) : Type 0 where
  pub among : Contains jobs job
  pub numbered : job.number ≡ number

pub is_running : (number : ℕ) (jobs : List Job) (job : Job) → find (is_job number) jobs ≡ Some job → IsRunning number jobs job
is_running number jobs job is = record {
  among = found_contains (is_job number) jobs job is;
  numbered = eqb-true job.number number (found_passes (is_job number) jobs job is);
}

-- two paths that are apart aren't the same
pub apart_differ : (p q : List (List ℕ)) → overlap p q ≡ false → same_names p q ≡ false
apart_differ p q apart =
    false_from_ne_true (same_names p q)
    (λ same. both_ways (overlap p q) apart (subst (λ (l : List (List ℕ)). overlap p l ≡ true) (same_names-eq p q same) (overlap-refl p)))

pub end_loans : (next number : ℕ) (rows : List Row) (work : WorkState) (job : Job) (lent : List (List (List ℕ))) → IsWork next rows work →
    running number work ≡ Some job → AreLoans work.jobs lent → AreLoans (filter (is_other_job number) work.jobs) (given_back (loans_of job) lent)
end_loans next number rows work job lent rules runs are = record { out = out; ours = ours }
  where
    run : IsRunning number work.jobs job
    run = is_running number work.jobs job runs

    out : (loan : List (List ℕ)) → Contains (loans (filter (is_other_job number) work.jobs)) loan → Contains (given_back (loans_of job) lent) loan
    out loan among =
        let (other, within, named) = among_named loans_of (filter (is_other_job number) work.jobs) loan among in
        let here = filtered_contains (is_other_job number) work.jobs other within in
        stays_out (loans_of job) lent loan (are.out loan (named_among loans_of work.jobs other loan here.0 named))
        (λ q also. apart_differ q loan
        (loans_apart next rows work job other q loan rules run.among here.0
        (λ same. both_ways (is_job number other) (not-true (is_job number other) here.1) (eq-eqb other.number number (sym same ∙ run.numbered)))
        also named))

    ours : (loan : List (List ℕ)) → Contains (given_back (loans_of job) lent) loan → Contains (loans (filter (is_other_job number) work.jobs)) loan
    ours loan among =
        let was = stayed (loans_of job) lent loan among in
        let (other, within, named) = among_named loans_of work.jobs loan (are.ours loan was.among) in
        named_among loans_of (filter (is_other_job number) work.jobs) other loan
        (contains_filter (is_other_job number) work.jobs other
        (ap not (false_from_ne_true (is_job number other)
        (λ mine.
        let one : other ≡ job = same_job work.jobs other job rules.numbers within run.among (eqb-true other.number number mine ∙ sym run.numbered) in
        both_ways (same_names loan loan) (was.other loan (subst (λ (j : Job). Contains (loans_of j) loan) one named)) (same_names-refl loan))))
        within) named

-- ---- what may be taken and given

-- a loan of a job whose loans don't overlap a path
free_of : (path loan : List (List ℕ)) (job : Job) → has_loan path job ≡ false → Contains (loans_of job) loan → overlap path loan ≡ false
free_of path loan job none among =
    let parts = or_parts (overlap (path_of_task job.task) path) (option_map_or (lends_at path) job.lent false) none in
    elim (contains_cases (path_of_task job.task) (claimed_by_part job.lent) loan among) [
      | inl same ↦ subst (λ (l : List (List ℕ)). overlap path l ≡ false) same (overlap-sym (path_of_task job.task) path false parts.0)
      | inr part ↦ by job.lent parts.1 part
    ]
  where
    by : (o : Option Lent) → option_map_or (lends_at path) o false ≡ false → Contains (claimed_by_part o) loan → overlap path loan ≡ false
    by None is (k, within, at) = absurd (omega arith)
    by (Some part) is also =
        elim (contains_cases part.path [] loan also) [
          | inl same ↦ subst (λ (l : List (List ℕ)). overlap path l ≡ false) same (overlap-sym part.path path false is)
          | inr (k, within, at) ↦ absurd (omega arith)
        ]

pub free_path : (jobs : List Job) (lent : List (List (List ℕ))) (path : List (List ℕ)) → AreLoans jobs lent → is_lent path jobs ≡ false →
    list_any (overlap path) lent ≡ false
free_path jobs lent path are none =
    none_passes (overlap path) lent
    (λ loan among.
    let (job, within, named) = among_named loans_of jobs loan (are.ours loan among) in
    free_of path loan job (each_fails (has_loan path) jobs job none within) named)

pub loan_lent : (jobs : List Job) (lent : List (List (List ℕ))) (job : Job) (loan : List (List ℕ)) → AreLoans jobs lent → Contains jobs job →
    Contains (loans_of job) loan → list_any (same_names loan) lent ≡ true
loan_lent jobs lent job loan are among named = contains_among loan lent (are.out loan (named_among loans_of jobs job loan among named))

-- the path of a job's task is lent
pub task_lent : (jobs : List Job) (lent : List (List (List ℕ))) (job : Job) → AreLoans jobs lent → Contains jobs job → Contains lent (path_of_task job.task)
task_lent jobs lent job are among =
    are.out (path_of_task job.task)
    (named_among loans_of jobs job (path_of_task job.task) among (contains_first (path_of_task job.task) (claimed_by_part job.lent)))

-- and the part that it reads still is once that is given back
pub part_lent : (next : ℕ) (rows : List Row) (work : WorkState) (lent : List (List (List ℕ))) (job : Job) (part : Lent) → IsWork next rows work →
    AreLoans work.jobs lent → Contains work.jobs job → job.lent ≡ Some part → Contains (filter (is_other_path (path_of_task job.task)) lent) part.path
part_lent next rows work lent job part rules are among is =
    contains_filter (is_other_path (path_of_task job.task)) lent part.path
    (ap not (apart_differ (path_of_task job.task) part.path (own_loans_apart next rows work job part rules among is)))
    (are.out part.path (named_among loans_of work.jobs job part.path among (part_loan job part is)))

pub part_still_lent : (next : ℕ) (rows : List Row) (work : WorkState) (lent : List (List (List ℕ))) (job : Job) (part : Lent) → IsWork next rows work →
    AreLoans work.jobs lent → Contains work.jobs job → job.lent ≡ Some part →
    list_any (same_names part.path) (filter (is_other_path (path_of_task job.task)) lent) ≡ true
part_still_lent next rows work lent job part rules are among is =
    contains_among part.path (filter (is_other_path (path_of_task job.task)) lent) (part_lent next rows work lent job part rules are among is)

-- ---- loans are apart

pub lent_apart : (next : ℕ) (rows : List Row) (work : WorkState) (lent : List (List (List ℕ))) → IsWork next rows work → AreLoans work.jobs lent →
    AreLoansApart lent
lent_apart next rows work lent rules are =
    λ loan other among also differ. apart_within (loans work.jobs) (loans_once next rows work rules) loan other (are.ours loan among) (are.ours other also) differ

pub fewer_apart : (test : List (List ℕ) → Bool) (lent : List (List (List ℕ))) → AreLoansApart lent → AreLoansApart (filter test lent)
fewer_apart test lent apart =
    λ loan other among also. apart loan other (filtered_contains test lent loan among).0 (filtered_contains test lent other also).0

-- ---- nothing is where a loan is

-- what is bare and stays as it was is bare
pub bare_stays : (place : List (List ℕ)) (old new : Part) (before after : Paths) → IsSameBelow place old before new after → IsBareBelow place old before →
    IsBareBelow place new after
bare_stays place old new before after same bare = record {
  node = λ path below. same.node path below ∙ bare.node path below;
  settled = λ path below. same.rough path below ∙ bare.settled path below;
}

-- a take leaves nothing where nothing was
pub bare_taken : (t place : List (List ℕ)) (content : Part) (rough : Paths) → IsBareBelow place content rough →
    IsBareBelow place (without t content) (paths_outside t rough)
bare_taken t place content rough bare = record {
  node = λ path below. node (is_prefix t path) (content path) (bare.node path below);
  settled = λ path below. settled (is_prefix t path) (rough path) (bare.settled path below);
}
  where
    node : (b : Bool) (o : Option Node) → o ≡ None → cond b None o ≡ None
    node true o none = refl
    node false o none = none

    settled : (b r : Bool) → r ≡ false → (not b && r) ≡ false
    settled true r none = refl
    settled false r none = none

pub take_out : (lent : List (List (List ℕ))) (t : List (List ℕ)) (content : Part) (rough : Paths) → AreOut lent content rough →
    AreOut (lent ++ t ∷ []) (without t content) (paths_outside t rough)
take_out lent t content rough out =
    λ loan among. elim (Contains-append_cases lent (t ∷ []) loan among) [
      | inl before ↦ bare_taken t loan content rough (out loan before)
      | inr new ↦ elim (contains_cases t [] loan new) [
        | inl same ↦ subst (λ (l : List (List ℕ)). IsBareBelow l (without t content) (paths_outside t rough)) same (take_clears t content rough)
        | inr (k, within, at) ↦ absurd (omega arith)
      ]
    ]

pub give_out : (lent : List (List (List ℕ))) (t : List (List ℕ)) (inner content : Part) (its rough : Paths) → AreLoansApart lent → Contains lent t →
    AreOut lent content rough → AreOut (filter (is_other_path t) lent) (replaced t inner content) (paths_of_both rough (paths_below t its))
give_out lent t inner content its rough apart given out =
    λ loan among.
    let here = filtered_contains (is_other_path t) lent loan among in
    bare_stays loan content (replaced t inner content) rough (paths_of_both rough (paths_below t its))
    (give_aside t loan inner content its rough (apart t loan given here.0 (not-true (same_names t loan) here.1))) (out loan here.0)
