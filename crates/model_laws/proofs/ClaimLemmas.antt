-- What follows where no path is claimed twice: loans, debris and rows are apart from one another.
use Rattle.std.proofs.Common.{◌≡◌, ◌≢◌, ℕ, ◌+◌, ◌≤◌, ◌==◌, nat_lt, Bool, true, false, not, ◌||◌, ◌⊎◌, inl, inr, List, [], ◌∷◌, ◌++◌, Option, Some, None, cond, refl, sym, ap, subst, ◌∙◌, map, zero, suc, Contains, arith}
use Rattle.std.specs.List.{filter, flat_map, list_all}
use Rattle.std.specs.Option.{option_map_or}
use Rattle.std.proofs.lemmas.List.Elements.{Contains-append_right}
use Rattle.std.proofs.lemmas.Bool.{and_parts, both_ways, eq-eqb, eqb-true, false_from_ne_true, ne_eqb, or_parts, true_from_ne_false}
use Rattle.mat_path.specs.Covering.{covering}
use Rattle.mat_path.specs.Names.{is_prefix, overlap, same_names}
use Rattle.mat_path.proofs.CoveringLemmas.{apart_across, apart_within, covered_below, covered_by, covering-append, covering-head, covering_none}
use Rattle.mat_path.proofs.CoveringRows.{row_among}
use Rattle.mat_path.proofs.Elements.{contains_cases, contains_filter, contains_first, contains_map, contains_more}
use Rattle.mat_path.proofs.Overlaps.{overlap-sym, overlap_of_prefixes}
use Rattle.mat_path.proofs.SameNames.{same_names-eq}
use Rattle.mat_model.specs.declared.book.Row.{Row}
use Rattle.mat_model.specs.declared.entries.Task.{Task}
use Rattle.mat_model.specs.declared.entries.Task.TheVariants as task
use Rattle.mat_model.specs.Books.{are_ascending}
use Rattle.mat_model.specs.Openings.{path_of_row}
use Rattle.mat_model.specs.WorkState.{Debris, Job, Lent, WorkState, is_dirty, is_job, leaves_debris, path_of_debris, path_of_task}
use Rattle.model_laws.specs.WorkRules.{IsLentBy, IsReadOf, IsWiping, IsWork, are_reading, claimed_by_job, claimed_by_jobs, claimed_by_part, claimed_by_task, is_on_disk, loans, loans_of, number_of_job, owns, reads, reads_stamp}
use Rattle.model_laws.proofs.BooksLists.{any_contains}
use Rattle.model_laws.proofs.Coverings.{among_named, covering_claims, covering_named-split, covering_within, named_among}
use Rattle.model_laws.proofs.WorkBase.{number_after, same_job}
use Rattle.model_laws.proofs.WorkBegins.{kept_of, leaves_owned}
use Rattle.model_laws.proofs.WorkClaims.{owns_lying, owns_standing}

-- ---- wipes

-- the path that a task wipes, if it is a wipe
abbrev wiped_by_task : Task → List (List (List ℕ))
wiped_by_task (task.Make path stamp) = []
wiped_by_task (task.Wipe path) = path ∷ []

abbrev wiped_by : Job → List (List (List ℕ))
wiped_by job = wiped_by_task job.task

-- the loans of jobs are what they claim and what they wipe
covering_loans : (x : List (List ℕ)) (jobs : List Job) → covering x (loans jobs) ≡ covering x (claimed_by_jobs jobs) + covering x (flat_map wiped_by jobs)
covering_loans x [] = omega arith
covering_loans x (job ∷ jobs) =
    omega (
      arith,
      covering-append x (loans_of job) (loans jobs),
      covering-append x (claimed_by_job job) (claimed_by_jobs jobs),
      covering-append x (wiped_by job) (flat_map wiped_by jobs),
      covering_loans x jobs,
      one job.task,
      covering-append x (claimed_by_task job.task) (claimed_by_part job.lent),
    )
  where
    one : (t : Task) → covering x (path_of_task t ∷ claimed_by_part job.lent) ≡ covering x (claimed_by_task t) + covering x (claimed_by_part job.lent) + covering x (wiped_by_task t)
    one (task.Make path stamp) = omega arith
    one (task.Wipe path) = omega arith

-- a path that a job wipes is that of its task
wipes_it : (t : Task) (p : List (List ℕ)) → Contains (wiped_by_task t) p → t ≡ task.Wipe p
wipes_it (task.Make path stamp) p (k, within, at) = absurd (omega arith)
wipes_it (task.Wipe path) p among =
    elim (contains_cases path [] p among) [ inl same ↦ ap (λ (q : List (List ℕ)). task.Wipe q) same | inr (k, within, at) ↦ absurd (omega arith) ]

-- jobs wipe a path at most once, where those that do so at or above one path are one
wiped_once : (x : List (List ℕ)) (jobs : List Job) → are_ascending (map number_of_job jobs) ≡ true →
    ((job other : Job) → Contains jobs job → Contains jobs other → (p q : List (List ℕ)) → job.task ≡ task.Wipe p → other.task ≡ task.Wipe q →
    is_prefix p x ≡ true → is_prefix q x ≡ true → job ≡ other) →
    covering x (flat_map wiped_by jobs) ≤ 1
wiped_once x [] up same = omega arith
wiped_once x (job ∷ jobs) up same =
    by job.task refl
    (wiped_once x jobs (and_parts (list_all (nat_lt job.number) (map number_of_job jobs)) (are_ascending (map number_of_job jobs)) up).1
    (λ one other among also. same one other (contains_more job jobs one among) (contains_more job jobs other also)))
  where
    others : (path : List (List ℕ)) → job.task ≡ task.Wipe path → is_prefix path x ≡ true → covering x (flat_map wiped_by jobs) ≡ 0
    others path is above =
        covering_none x (flat_map wiped_by jobs)
        (λ q among.
        let (other, within, named) = among_named wiped_by jobs q among in
        let less = number_after job jobs other (and_parts (list_all (nat_lt job.number) (map number_of_job jobs)) (are_ascending (map number_of_job jobs)) up).0 within in
        false_from_ne_true (is_prefix q x)
        (λ covers.
        let one = same job other (contains_first job jobs) (contains_more job jobs other within) path q is (wipes_it other.task q named) above covers in
        let number : job.number ≡ other.number = ap (λ (j : Job). j.number) one in
        omega (arith, less, number)))

    by : (t : Task) → job.task ≡ t → covering x (flat_map wiped_by jobs) ≤ 1 → covering x (wiped_by_task t ++ flat_map wiped_by jobs) ≤ 1
    by (task.Make path stamp) is most = most
    by (task.Wipe path) is most =
        elim (is_prefix path x) as (λ b. is_prefix path x ≡ b → cond b 1 0 + covering x (flat_map wiped_by jobs) ≤ 1) [
          | true ↦ λ above. omega (arith, others path is above)
          | false ↦ λ aside. omega (arith, most)
        ] refl

-- ---- counts

-- no path is covered twice by rows that own their parts, debris, and what jobs claim
claimed_once : (next : ℕ) (rows : List Row) (work : WorkState) → IsWork next rows work → (x : List (List ℕ)) →
    covering x (map path_of_row (filter (owns work) rows)) + covering x (map path_of_debris work.debris) + covering x (claimed_by_jobs work.jobs) ≤ 1
claimed_once next rows work rules x = omega (arith, rules.claims x, covering_claims x rows work)

-- no path is covered twice by debris
pub debris_once : (next : ℕ) (rows : List Row) (work : WorkState) → IsWork next rows work → (x : List (List ℕ)) → covering x (map path_of_debris work.debris) ≤ 1
debris_once next rows work rules x = let most = claimed_once next rows work rules x in omega (arith, most)

-- two debris paths that overlap are one
debris_same : (next : ℕ) (rows : List Row) (work : WorkState) (p q : List (List ℕ)) → IsWork next rows work → Contains (map path_of_debris work.debris) p →
    Contains (map path_of_debris work.debris) q → overlap p q ≡ true → p ≡ q
debris_same next rows work p q rules among also meet =
    same_names-eq p q
    (true_from_ne_false (same_names p q)
    (λ differ. both_ways (overlap p q) (apart_within (map path_of_debris work.debris) (debris_once next rows work rules) p q among also differ) meet))

-- no path is covered twice by rows that own their parts and loans
pub owned_once : (next : ℕ) (rows : List Row) (work : WorkState) → IsWork next rows work → (x : List (List ℕ)) →
    covering x (map path_of_row (filter (owns work) rows)) + covering x (loans work.jobs) ≤ 1
owned_once next rows work rules x = let most = claimed_once next rows work rules x in omega (arith, most, covering_loans x work.jobs, less)
  where
    debris_of : (job : Job) (p : List (List ℕ)) → Contains work.jobs job → job.task ≡ task.Wipe p → Contains (map path_of_debris work.debris) p
    debris_of job p among is = subst (IsWiping (map path_of_debris work.debris)) is (rules.jobs job among).wiping

    once : covering x (flat_map wiped_by work.jobs) ≤ 1
    once =
        wiped_once x work.jobs rules.numbers
        (λ job other among also p q is too above covers.
        let same : p ≡ q =
        debris_same next rows work p q rules (debris_of job p among is) (debris_of other q also too) (overlap_of_prefixes p q x above covers) in
        rules.wipes job other among also p is (too ∙ ap (λ (l : List (List ℕ)). task.Wipe l) (sym same)))

    less : covering x (flat_map wiped_by work.jobs) ≤ covering x (map path_of_debris work.debris)
    less = by (covering x (flat_map wiped_by work.jobs)) refl
      where
        by : (c : ℕ) → covering x (flat_map wiped_by work.jobs) ≡ c → c ≤ covering x (map path_of_debris work.debris)
        by zero is = omega arith
        by (suc c) is =
            let (p, among, above) = covered_by x (flat_map wiped_by work.jobs) (omega (arith, is)) in
            let (job, within, named) = among_named wiped_by work.jobs p among in
            omega (arith, is, once, covered_below p x (map path_of_debris work.debris) (debris_of job p within (wipes_it job.task p named)) above)

-- ---- loans

-- no path is covered twice by loans
pub loans_once : (next : ℕ) (rows : List Row) (work : WorkState) → IsWork next rows work → (x : List (List ℕ)) → covering x (loans work.jobs) ≤ 1
loans_once next rows work rules x = let most = owned_once next rows work rules x in omega (arith, most)

-- loans of two jobs are apart
pub loans_apart : (next : ℕ) (rows : List Row) (work : WorkState) (job other : Job) (p q : List (List ℕ)) → IsWork next rows work → Contains work.jobs job →
    Contains work.jobs other → job.number ≢ other.number → Contains (loans_of job) p → Contains (loans_of other) q → overlap p q ≡ false
loans_apart next rows work job other p q rules among also differ mine its =
    apart_across (flat_map loans_of (filter (is_job job.number) work.jobs)) (flat_map loans_of (filter (λ j. not (is_job job.number j)) work.jobs))
    (λ x. omega (arith, loans_once next rows work rules x, covering_named-split loans_of (is_job job.number) x work.jobs)) p q
    (named_among loans_of (filter (is_job job.number) work.jobs) job p
    (contains_filter (is_job job.number) work.jobs job (eq-eqb job.number job.number refl) among) mine)
    (named_among loans_of (filter (λ j. not (is_job job.number j)) work.jobs) other q
    (contains_filter (λ j. not (is_job job.number j)) work.jobs other (ap not (ne_eqb other.number job.number (λ same. differ (sym same)))) also) its)

-- a job's two loans are apart
pub own_loans_apart : (next : ℕ) (rows : List Row) (work : WorkState) (job : Job) (part : Lent) → IsWork next rows work → Contains work.jobs job →
    job.lent ≡ Some part → overlap (path_of_task job.task) part.path ≡ false
own_loans_apart next rows work job part rules among is =
    let most : (x : List (List ℕ)) → covering x (path_of_task job.task ∷ claimed_by_part (Some part)) ≤ 1 =
    λ x.
    let all = loans_once next rows work rules x in
    let mine : covering x (loans_of job) ≡ covering x (path_of_task job.task ∷ claimed_by_part (Some part)) =
    ap (λ (o : Option Lent). covering x (path_of_task job.task ∷ claimed_by_part o)) is in
    omega (arith, all, mine, covering_within loans_of x work.jobs job among) in
    (or_parts (overlap (path_of_task job.task) part.path) false (covering-head (path_of_task job.task) (part.path ∷ []) most)).0

-- ---- debris

-- debris overlaps no claim of a job
pub debris_unclaimed : (next : ℕ) (rows : List Row) (work : WorkState) (debris : Debris) (job : Job) (p : List (List ℕ)) → IsWork next rows work →
    Contains work.debris debris → Contains work.jobs job → Contains (claimed_by_job job) p → overlap debris.path p ≡ false
debris_unclaimed next rows work debris job p rules among also claimed =
    apart_across (map path_of_debris work.debris) (claimed_by_jobs work.jobs) (λ x. let most = claimed_once next rows work rules x in omega (arith, most))
    debris.path p (contains_map path_of_debris work.debris debris among) (named_among claimed_by_job work.jobs job p also claimed)

-- a loan of a job is claimed, or it is what the job wipes
loan_cases : (job : Job) (p : List (List ℕ)) → Contains (loans_of job) p → Contains (claimed_by_job job) p ⊎ (job.task ≡ task.Wipe p)
loan_cases job p among = by job.task refl (contains_cases (path_of_task job.task) (claimed_by_part job.lent) p among)
  where
    by : (t : Task) → job.task ≡ t → (path_of_task t ≡ p) ⊎ Contains (claimed_by_part job.lent) p →
        Contains (claimed_by_task t ++ claimed_by_part job.lent) p ⊎ (t ≡ task.Wipe p)
    by (task.Make path stamp) is (inl same) =
        inl (subst (λ (q : List (List ℕ)). Contains (path ∷ claimed_by_part job.lent) q) same (contains_first path (claimed_by_part job.lent)))
    by (task.Make path stamp) is (inr later) = inl (contains_more path (claimed_by_part job.lent) p later)
    by (task.Wipe path) is (inl same) = inr (ap (λ (q : List (List ℕ)). task.Wipe q) same)
    by (task.Wipe path) is (inr later) = inl later

-- debris overlaps no loan but that of its own wipe
pub debris_own_wipe : (next : ℕ) (rows : List Row) (work : WorkState) (debris : Debris) (job : Job) (p : List (List ℕ)) → IsWork next rows work →
    Contains work.debris debris → Contains work.jobs job → Contains (loans_of job) p → overlap debris.path p ≡ true →
    (job.task ≡ task.Wipe debris.path) × (p ≡ debris.path)
debris_own_wipe next rows work debris job p rules among also loan meet =
    elim (loan_cases job p loan) [
      | inl claimed ↦ absurd (both_ways (overlap debris.path p) (debris_unclaimed next rows work debris job p rules among also claimed) meet)
      | inr wipes ↦
          let same : debris.path ≡ p =
          debris_same next rows work debris.path p rules (contains_map path_of_debris work.debris debris among)
          (subst (IsWiping (map path_of_debris work.debris)) wipes (rules.jobs job also).wiping) meet in
          (wipes ∙ ap (λ (q : List (List ℕ)). task.Wipe q) (sym same), sym same)
    ]

-- ---- rows

-- a row that owns its part overlaps no debris and no loan
owned_no_debris : (next : ℕ) (rows : List Row) (work : WorkState) (row : Row) (debris : Debris) → IsWork next rows work → Contains rows row →
    owns work row ≡ true → Contains work.debris debris → overlap row.path debris.path ≡ false
owned_no_debris next rows work row debris rules among own also =
    apart_across (map path_of_row (filter (owns work) rows)) (map path_of_debris work.debris)
    (λ x. let most = claimed_once next rows work rules x in omega (arith, most)) row.path debris.path (row_among path_of_row (owns work) rows row among own)
    (contains_map path_of_debris work.debris debris also)

owned_no_loan : (next : ℕ) (rows : List Row) (work : WorkState) (row : Row) (job : Job) (p : List (List ℕ)) → IsWork next rows work → Contains rows row →
    owns work row ≡ true → Contains work.jobs job → Contains (loans_of job) p → overlap row.path p ≡ false
owned_no_loan next rows work row job p rules among own also loan =
    apart_across (map path_of_row (filter (owns work) rows)) (loans work.jobs) (owned_once next rows work rules) row.path p
    (row_among path_of_row (owns work) rows row among own) (named_among loans_of work.jobs job p also loan)

-- a job reads a row: its part is at the row's path, under its stamp
record IsReader (rows : List Row) (work : WorkState) (row : Row) : Type 0 where
  job : Job
  among : Contains work.jobs job
  part : Lent
  lent : job.lent ≡ Some part
  path : part.path ≡ row.path
  stamp : part.stamp ≡ row.stamp

-- a row that is on the disk owns its part, or a job reads it
disk_cases : (next : ℕ) (rows : List Row) (work : WorkState) (row : Row) → IsWork next rows work → Contains rows row → is_on_disk work row ≡ true →
    (owns work row ≡ true) ⊎ IsReader rows work row
disk_cases next rows work row rules among on =
    elim row.stands as (λ b. row.stands ≡ b → (b || is_dirty work.dirty row.path) ≡ true → (owns work row ≡ true) ⊎ IsReader rows work row) [
      | false ↦ λ lies is. inl (owns_lying (are_reading work.jobs) work.dirty row lies ∙ is)
      | true ↦ λ stands is.
          elim (are_reading work.jobs row.stamp) as (λ c. are_reading work.jobs row.stamp ≡ c → (owns work row ≡ true) ⊎ IsReader rows work row) [
            | false ↦ λ unread. inl (owns_standing (are_reading work.jobs) work.dirty row stands ∙ ap not unread)
            | true ↦ λ read.
                let (job, within, is) = any_contains (reads row.stamp) work.jobs read in
                inr (reader job within job.lent refl is)
          ] refl
    ] refl on
  where
    reader : (job : Job) → Contains work.jobs job → (o : Option Lent) → job.lent ≡ o → option_map_or (reads_stamp row.stamp) o false ≡ true → IsReader rows work row
    reader job within None is read = absurd cc
    reader job within (Some part) is read =
        let stamp : part.stamp ≡ row.stamp = eqb-true part.stamp row.stamp read in
        let from = subst (IsLentBy rows) is (rules.jobs job within).lent row among (sym stamp) in
        record { job = job; among = within; part = part; lent = is; path = sym from.path; stamp = stamp }

-- a part that a job reads is one of its loans
pub part_loan : (job : Job) (part : Lent) → job.lent ≡ Some part → Contains (loans_of job) part.path
part_loan job part is =
    contains_more (path_of_task job.task) (claimed_by_part job.lent) part.path
    (subst (λ (o : Option Lent). Contains (claimed_by_part o) part.path) (sym is) (contains_first part.path []))

part_claim : (job : Job) (part : Lent) → job.lent ≡ Some part → Contains (claimed_by_job job) part.path
part_claim job part is =
    Contains-append_right (claimed_by_task job.task) (claimed_by_part job.lent) part.path
    (subst (λ (o : Option Lent). Contains (claimed_by_part o) part.path) (sym is) (contains_first part.path []))

-- a row that is on the disk overlaps no debris
pub disk_no_debris : (next : ℕ) (rows : List Row) (work : WorkState) (row : Row) (debris : Debris) → IsWork next rows work → Contains rows row →
    is_on_disk work row ≡ true → Contains work.debris debris → overlap row.path debris.path ≡ false
disk_no_debris next rows work row debris rules among on also =
    elim (disk_cases next rows work row rules among on) [
      | inl own ↦ owned_no_debris next rows work row debris rules among own also
      | inr read ↦
          overlap-sym debris.path row.path false
          (subst (λ (p : List (List ℕ)). overlap debris.path p ≡ false) read.path
          (debris_unclaimed next rows work debris read.job read.part.path rules also read.among (part_claim read.job read.part read.lent)))
    ]

-- and no loan but the part that was lent from it
pub disk_own_loan : (next : ℕ) (rows : List Row) (work : WorkState) (row : Row) (job : Job) (p : List (List ℕ)) → IsWork next rows work → Contains rows row →
    is_on_disk work row ≡ true → Contains work.jobs job → Contains (loans_of job) p → overlap row.path p ≡ true → IsReadOf row job p
disk_own_loan next rows work row job p rules among on also loan meet =
    elim (disk_cases next rows work row rules among on) [
      | inl own ↦ absurd (both_ways (overlap row.path p) (owned_no_loan next rows work row job p rules among own also loan) meet)
      | inr read ↦ by read (job.number == read.job.number) refl
    ]
  where
    here : (read : IsReader rows work row) → overlap read.part.path p ≡ true
    here read = subst (λ (q : List (List ℕ)). overlap q p ≡ true) (sym read.path) meet

    mine : (read : IsReader rows work row) → job ≡ read.job → (path_of_task job.task ≡ p) ⊎ Contains (claimed_by_part job.lent) p → IsReadOf row job p
    mine read same (inl task) =
        absurd (both_ways (overlap read.part.path p)
        (overlap-sym p read.part.path false
        (subst (λ (q : List (List ℕ)). overlap q read.part.path ≡ false) task
        (own_loans_apart next rows work job read.part rules also (ap (λ (j : Job). j.lent) same ∙ read.lent)))) (here read))
    mine read same (inr part) =
        let is : job.lent ≡ Some read.part = ap (λ (j : Job). j.lent) same ∙ read.lent in
        elim (contains_cases read.part.path [] p (subst (λ (o : Option Lent). Contains (claimed_by_part o) p) is part)) [
          | inl at ↦ record { part = read.part; lent = is; path = sym at ∙ read.path; stamp = read.stamp }
          | inr (k, within, at) ↦ absurd (omega arith)
        ]

    by : (read : IsReader rows work row) → (b : Bool) → (job.number == read.job.number) ≡ b → IsReadOf row job p
    by read true is =
        mine read (same_job work.jobs job read.job rules.numbers also read.among (eqb-true job.number read.job.number is))
        (contains_cases (path_of_task job.task) (claimed_by_part job.lent) p loan)
    by read false is =
        absurd (both_ways (overlap read.part.path p)
        (overlap-sym p read.part.path false
        (loans_apart next rows work job read.job p read.part.path rules also read.among
        (λ same. both_ways (job.number == read.job.number) is (eq-eqb job.number read.job.number same)) loan (part_loan read.job read.part read.lent)))
        (here read))

-- ---- what becomes debris

-- a removed row that leaves debris overlaps no debris
pub leaves_clear_debris : (next : ℕ) (rows : List Row) (work : WorkState) (row : Row) (debris : Debris) → IsWork next rows work → Contains rows row →
    leaves_debris work row ≡ true → Contains work.debris debris → overlap row.path debris.path ≡ false
leaves_clear_debris next rows work row debris rules among leaves also =
    owned_no_debris next rows work row debris rules among (leaves_owned next rows work row (kept_of next rows work rules) among leaves) also

-- and no loan
pub leaves_clear_loans : (next : ℕ) (rows : List Row) (work : WorkState) (row : Row) (job : Job) (p : List (List ℕ)) → IsWork next rows work → Contains rows row →
    leaves_debris work row ≡ true → Contains work.jobs job → Contains (loans_of job) p → overlap row.path p ≡ false
leaves_clear_loans next rows work row job p rules among leaves also loan =
    owned_no_loan next rows work row job p rules among (leaves_owned next rows work row (kept_of next rows work rules) among leaves) also loan
