-- The kept rows keep their rules, over plain lists: where rows step and kept ones go, where a job begins or ends, and where rows are stored.
use Rattle.std.proofs.Common.{◌≡◌, ℕ, ◌+◌, ◌≤◌, Bool, true, false, not, ◌⊎◌, inl, inr, List, [], ◌∷◌, ◌++◌, Option, Some, cond, refl, sym, ap, subst, ◌∙◌, map, find, Contains, arith}
use Rattle.std.specs.List.{filter, list_any}
use Rattle.std.specs.Option.{option_map_or}
use Rattle.std.proofs.lemmas.Bool.{and_parts, both_ways, eq-eqb, eqb-true, false_from_ne_true, not-true, or_left, or_parts}
use Rattle.std.proofs.lemmas.List.Elements.{Contains-append_cases}
use Rattle.mat_path.specs.Covering.{covering}
use Rattle.mat_path.specs.Names.{is_prefix, overlap}
use Rattle.mat_path.proofs.CoveringLemmas.{apart_across, contains_among, covering-append, covering-cons}
use Rattle.mat_path.proofs.CoveringRows.{covering_rows-filter}
use Rattle.mat_path.proofs.Elements.{contains_cases, contains_first, contains_map, contains_more, each_fails, filtered_contains, mapped_contains, none_passes}
use Rattle.mat_path.proofs.Overlaps.{overlap-refl, overlap-sym}
use Rattle.mat_path.proofs.SameNames.{same_names-eq}
use Rattle.mat_model.specs.declared.book.Row.{Row}
use Rattle.mat_model.specs.declared.entries.Task.TheVariants as task
use Rattle.mat_model.specs.Kept.{KeptRow, is_due, is_kept_clear, is_stored_as, kept_row, put_kept, store_rows}
use Rattle.mat_model.specs.Rows.{are_apart, is_at_path, standing_row}
use Rattle.mat_model.specs.WorkState.{Job, Lent, WorkState, has_loan, is_dirty, is_job, is_lent, is_other_job, lends_at, path_of_task}
use Rattle.model_laws.specs.KeptRules.{KeptAscend, path_of_kept}
use Rattle.model_laws.specs.StoredRules.{IsStored, IsStoredOf, path_of_job}
use Rattle.model_laws.specs.WorkRules.{IsLender, IsLentBy, IsReadOf, IsWork, claimed_by_part, loans_of}
use Rattle.model_laws.proofs.BooksRows.{apart_same}
use Rattle.model_laws.proofs.Changes.{standing-path, standing-tree}
use Rattle.model_laws.proofs.ClaimLemmas.{disk_own_loan, loans_apart, own_loans_apart, part_loan}
use Rattle.model_laws.proofs.KeptOrder.{ascends_filtered, store_ascends, stored_cases}
use Rattle.model_laws.proofs.Elements.{found_contains, found_passes}
use Rattle.model_laws.proofs.StoredPuts.{is_kept_at, put_kept_new, put_kept_there}
use Rattle.model_laws.proofs.WorkBase.{Steps}
use Rattle.model_laws.proofs.WorkClaims.{MayLend}

-- the paths of kept rows and of tasks
abbrev stored_paths : List KeptRow → List Job → List (List (List ℕ))
stored_paths kept jobs = map path_of_kept kept ++ map path_of_job jobs

-- they count together
covering-stored : (x : List (List ℕ)) (kept : List KeptRow) (jobs : List Job) →
    covering x (stored_paths kept jobs) ≡ covering x (map path_of_kept kept) + covering x (map path_of_job jobs)
covering-stored x kept jobs = covering-append x (map path_of_kept kept) (map path_of_job jobs)

-- a path overlaps none of them where it overlaps no kept row and no task
none_stored : (path : List (List ℕ)) (kept : List KeptRow) (jobs : List Job) → ((one : KeptRow) → Contains kept one → overlap path one.path ≡ false) →
    ((job : Job) → Contains jobs job → overlap path (path_of_job job) ≡ false) → list_any (overlap path) (stored_paths kept jobs) ≡ false
none_stored path kept jobs clear free =
    none_passes (overlap path) (stored_paths kept jobs)
    (λ q among.
    elim (Contains-append_cases (map path_of_kept kept) (map path_of_job jobs) q among) [
      | inl stored ↦
          let (one, within, is) = mapped_contains path_of_kept kept q stored in subst (λ (p : List (List ℕ)). overlap path p ≡ false) is (clear one within)
      | inr out ↦ let (job, within, is) = mapped_contains path_of_job jobs q out in subst (λ (p : List (List ℕ)). overlap path p ≡ false) is (free job within)
    ])

-- a kept row overlaps no task
pub stored_no_task : (rows : List Row) (jobs : List Job) (kept : List KeptRow) (one : KeptRow) (job : Job) → IsStored rows jobs kept → Contains kept one →
    Contains jobs job → overlap one.path (path_of_job job) ≡ false
stored_no_task rows jobs kept one job stored among also =
    apart_across (map path_of_kept kept) (map path_of_job jobs) (λ x. let most = stored.once x in omega (arith, most, covering-stored x kept jobs)) one.path
    (path_of_job job) (contains_map path_of_kept kept one among) (contains_map path_of_job jobs job also)

-- ---- rows step

-- rows step, and kept ones go
pub stored_steps : (next : ℕ) (place : Option (List (List ℕ))) (rows left : List Row) (jobs : List Job) (kept : List KeptRow) (test : KeptRow → Bool) →
    Steps next place rows left → IsStored rows jobs kept → IsStored left jobs (filter test kept)
stored_steps next place rows left jobs kept test steps stored = record {
  order = ascends_filtered path_of_kept test kept stored.order;
  once = λ x.
      let most = stored.once x in
      omega (arith, most, covering-stored x kept jobs, covering-stored x (filter test kept) jobs, covering_rows-filter path_of_kept test x kept);
  stands = λ one row among also stands meet.
      elim (steps row also) [
        | inl (is, lies, at) ↦ absurd (both_ways row.stands lies stands)
        | inr was ↦
            let of = stored.stands one was.old (filtered_contains test kept one among).0 was.among (sym was.stands ∙ stands)
            (subst (λ (p : List (List ℕ)). overlap one.path p ≡ true) was.path meet) in
            record { path = of.path ∙ sym was.path; tree = of.tree ∙ sym was.tree }
      ];
  lent = λ one job part among also is meet. stored.lent one job part (filtered_contains test kept one among).0 also is meet;
}

-- ---- rows are stored

-- a row may be stored: no task overlaps it, a lent part that does is its own, and so is a kept row
pub record MayStore (rows : List Row) (jobs : List Job) (kept : List KeptRow) (row : Row) : Type 0 where
  pub among : Contains rows row
  pub free : (job : Job) → Contains jobs job → overlap row.path (path_of_job job) ≡ false
  pub lent : (job : Job) (part : Lent) → Contains jobs job → job.lent ≡ Some part → overlap row.path part.path ≡ true →
      (row.path ≡ part.path) × (row.tree ≡ part.tree)
  pub alone : (one : KeptRow) → Contains kept one → overlap one.path row.path ≡ true → one.path ≡ row.path

-- what is stored once a row was put is that row, or was stored
put_cases : (row : Row) (kept : List KeptRow) (one : KeptRow) → KeptAscend kept → Contains (put_kept (kept_row row) kept) one →
    (kept_row row ≡ one) ⊎ Contains kept one
put_cases row kept one up among =
    elim (stored_cases (row ∷ []) kept one up among) [
      | inl (other, within, same) ↦
          elim (contains_cases row [] other within) [
            | inl is ↦ inl (ap kept_row is ∙ same)
            | inr (k, inside, at) ↦ absurd (omega arith)
          ]
      | inr (before, differ) ↦ inr before
    ]

store_one : (rows : List Row) (jobs : List Job) (kept : List KeptRow) (row : Row) → are_apart rows ≡ true → MayStore rows jobs kept row →
    IsStored rows jobs kept → IsStored rows jobs (put_kept (kept_row row) kept)
store_one rows jobs kept row apart may stored = record {
  order = store_ascends (row ∷ []) kept stored.order;
  once = λ x. elim (is_kept_at row.path kept) as (λ b. is_kept_at row.path kept ≡ b → covering x (stored_paths (put_kept (kept_row row) kept) jobs) ≤ 1) [
    | true ↦ λ there.
        let most = stored.once x in
        omega (arith, most, ap (λ (ps : List (List (List ℕ))). covering x (ps ++ map path_of_job jobs)) (put_kept_there (kept_row row) kept stored.order there))
    | false ↦ λ none.
        let most = covering-cons row.path (stored_paths kept jobs) (none_stored row.path kept jobs (clear none) may.free) stored.once x in
        omega (arith, most, covering-stored x kept jobs, covering-stored x (put_kept (kept_row row) kept) jobs, put_kept_new x (kept_row row) kept none)
  ] refl;
  stands = λ one other among also stands meet.
      elim (put_cases row kept one stored.order among) [
        | inl same ↦
            let here : overlap row.path other.path ≡ true = subst (λ (k : KeptRow). overlap k.path other.path ≡ true) (sym same) meet in
            let is : row ≡ other = apart_same rows row other apart may.among also here in
            subst (λ (k : KeptRow). IsStoredOf k other.path other.tree) same (record { path = ap (λ (r : Row). r.path) is; tree = ap (λ (r : Row). r.tree) is })
        | inr before ↦ stored.stands one other before also stands meet
      ];
  lent = λ one job part among also is meet.
      elim (put_cases row kept one stored.order among) [
        | inl same ↦
            let fits = may.lent job part also is (subst (λ (k : KeptRow). overlap k.path part.path ≡ true) (sym same) meet) in
            subst (λ (k : KeptRow). IsStoredOf k part.path part.tree) same (record { path = fits.0; tree = fits.1 })
        | inr before ↦ stored.lent one job part before also is meet
      ];
}
  where
    clear : is_kept_at row.path kept ≡ false → (one : KeptRow) → Contains kept one → overlap row.path one.path ≡ false
    clear none one among =
        false_from_ne_true (overlap row.path one.path)
        (λ meet.
        let same : one.path ≡ row.path = may.alone one among (overlap-sym row.path one.path true meet) in
        both_ways (is_kept_at row.path kept) none
        (contains_among row.path (map path_of_kept kept)
        (subst (λ (p : List (List ℕ)). Contains (map path_of_kept kept) p) same (contains_map path_of_kept kept one among))))

-- a row that may be stored still may once another one was
still_may : (rows : List Row) (jobs : List Job) (kept : List KeptRow) (row other : Row) → KeptAscend kept → are_apart rows ≡ true → Contains rows row →
    MayStore rows jobs kept other → MayStore rows jobs (put_kept (kept_row row) kept) other
still_may rows jobs kept row other up apart among may = record {
  among = may.among;
  free = may.free;
  lent = may.lent;
  alone = λ one within meet.
      elim (put_cases row kept one up within) [
        | inl same ↦
            let here : overlap row.path other.path ≡ true = subst (λ (k : KeptRow). overlap k.path other.path ≡ true) (sym same) meet in
            sym (ap (λ (k : KeptRow). k.path) same) ∙ ap (λ (r : Row). r.path) (apart_same rows row other apart among may.among here)
        | inr before ↦ may.alone one before meet
      ];
}

-- rows are stored that may be
pub store_all : (rows : List Row) (jobs : List Job) (kept : List KeptRow) (some : List Row) → are_apart rows ≡ true →
    ((row : Row) → Contains some row → MayStore rows jobs kept row) → IsStored rows jobs kept → IsStored rows jobs (store_rows some kept)
store_all rows jobs kept [] apart may stored = stored
store_all rows jobs kept (row ∷ some) apart may stored =
    let first = may row (contains_first row some) in
    store_all rows jobs (put_kept (kept_row row) kept) some apart
    (λ other among. still_may rows jobs kept row other stored.order apart first.among (may other (contains_more row some other among)))
    (store_one rows jobs kept row apart first stored)

-- a row that stands may be stored
standing_may : (next : ℕ) (rows : List Row) (work : WorkState) (kept : List KeptRow) (row : Row) → IsWork next rows work → IsStored rows work.jobs kept →
    Contains rows row → row.stands ≡ true → MayStore rows work.jobs kept row
standing_may next rows work kept row rules stored among stands = record {
  among = among;
  free = λ job also.
      false_from_ne_true (overlap row.path (path_of_job job))
      (λ meet.
      let read = reads job (path_of_job job) also (contains_first (path_of_task job.task) (claimed_by_part job.lent)) meet in
      let from = lender job read.part also read.lent read.stamp in
      both_ways (overlap (path_of_task job.task) read.part.path) (own_loans_apart next rows work job read.part rules also read.lent)
      (subst (λ (p : List (List ℕ)). overlap (path_of_task job.task) p ≡ true) (read.path ∙ from.path) (overlap-refl (path_of_task job.task))));
  lent = λ job part also is meet.
      let read = reads job part.path also (part_loan job part is) meet in
      let both : Some part ≡ Some read.part = sym is ∙ read.lent in
      let same : part ≡ read.part = cc in
      let from = lender job part also is (ap (λ (l : Lent). l.stamp) same ∙ read.stamp) in
      (from.path, from.tree);
  alone = λ one within meet. (stored.stands one row within among stands meet).path;
}
  where
    reads : (job : Job) (p : List (List ℕ)) → Contains work.jobs job → Contains (loans_of job) p → overlap row.path p ≡ true → IsReadOf row job p
    reads job p also loan meet =
        disk_own_loan next rows work row job p rules among (or_left row.stands (is_dirty work.dirty row.path) stands) also loan meet

    lender : (job : Job) (part : Lent) → Contains work.jobs job → job.lent ≡ Some part → part.stamp ≡ row.stamp → IsLender part row
    lender job part also is stamp = subst (IsLentBy rows) is (rules.jobs job also).lent row among (sym stamp)

-- the rows that are due are stored
pub stored_flushed : (next : ℕ) (rows : List Row) (work : WorkState) (kept : List KeptRow) → IsWork next rows work → IsStored rows work.jobs kept →
    IsStored rows work.jobs (store_rows (filter (is_due kept) rows) kept)
stored_flushed next rows work kept rules stored =
    store_all rows work.jobs kept (filter (is_due kept) rows) rules.apart
    (λ row among.
    let (within, due) = filtered_contains (is_due kept) rows row among in
    standing_may next rows work kept row rules stored within (and_parts row.stands (not (list_any (is_stored_as row) kept)) due).0)
    stored

-- ---- a job begins

-- a job begins at a path that no loan overlaps, and what is kept there goes
pub stored_begun : (rows : List Row) (jobs : List Job) (kept : List KeptRow) (job : Job) → is_lent (path_of_job job) jobs ≡ false → MayLend rows jobs job.lent →
    IsStored rows jobs kept → IsStored rows (jobs ++ job ∷ []) (filter (is_kept_clear (path_of_job job)) kept)
stored_begun rows jobs kept job free may stored = record {
  order = ascends_filtered path_of_kept test kept stored.order;
  once = λ x.
      let most = covering-cons (path_of_job job) (stored_paths (filter test kept) jobs)
      (none_stored (path_of_job job) (filter test kept) jobs
      (λ one among. overlap-sym one.path (path_of_job job) false (not-true (overlap one.path (path_of_job job)) (filtered_contains test kept one among).1))
      (λ other also.
      overlap-sym (path_of_job other) (path_of_job job) false
      (or_parts (overlap (path_of_task other.task) (path_of_job job)) (option_map_or (lends_at (path_of_job job)) other.lent false)
      (each_fails (has_loan (path_of_job job)) jobs other free also)).0))
      (λ y.
      let all = stored.once y in
      omega (arith, all, covering-stored y kept jobs, covering-stored y (filter test kept) jobs, covering_rows-filter path_of_kept test y kept)) x in
      omega (arith, most, covering-stored x (filter test kept) jobs, covering-stored x (filter test kept) (jobs ++ job ∷ []), pushed x jobs);
  stands = λ one row among also stands meet. stored.stands one row (filtered_contains test kept one among).0 also stands meet;
  lent = λ one other part among also is meet.
      let before = (filtered_contains test kept one among).0 in
      elim (Contains-append_cases jobs (job ∷ []) other also) [
        | inl earlier ↦ stored.lent one other part before earlier is meet
        | inr last ↦ elim (contains_cases job [] other last) [
          | inl same ↦ lends one part before (subst (MayLend rows jobs) (ap (λ (j : Job). j.lent) same ∙ is) may) meet
          | inr (k, within, at) ↦ absurd (omega arith)
        ]
      ];
}
  where
    test : KeptRow → Bool
    test one = is_kept_clear (path_of_job job) one

    pushed : (x : List (List ℕ)) (others : List Job) →
        covering x (map path_of_job (others ++ job ∷ [])) ≡ covering x (map path_of_job others) + cond (is_prefix (path_of_job job) x) 1 0
    pushed x [] = omega arith
    pushed x (other ∷ others) = omega (arith, pushed x others)

    lends : (one : KeptRow) (part : Lent) → Contains kept one → MayLend rows jobs (Some part) → overlap one.path part.path ≡ true → IsStoredOf one part.path part.tree
    lends one part among (from, unlent) meet =
        let of = stored.stands one from.row among from.among from.stands (subst (λ (p : List (List ℕ)). overlap one.path p ≡ true) (sym from.path) meet) in
        record { path = of.path ∙ from.path; tree = of.tree ∙ from.tree }

-- ---- a job ends

-- jobs are dropped
pub stored_dropped : (rows : List Row) (jobs : List Job) (kept : List KeptRow) (test : Job → Bool) → IsStored rows jobs kept → IsStored rows (filter test jobs) kept
stored_dropped rows jobs kept test stored = record {
  order = stored.order;
  once = λ x.
      let most = stored.once x in
      omega (arith, most, covering-stored x kept jobs, covering-stored x kept (filter test jobs), covering_rows-filter path_of_job test x jobs);
  stands = stored.stands;
  lent = λ one job part among also is meet. stored.lent one job part among (filtered_contains test jobs job also).0 is meet;
}

-- a row comes to stand at a path that no kept row overlaps
pub stored_made : (rows : List Row) (jobs : List Job) (kept : List KeptRow) (path : List (List ℕ)) →
    ((one : KeptRow) → Contains kept one → overlap one.path path ≡ false) → IsStored rows jobs kept → IsStored (map (standing_row path) rows) jobs kept
stored_made rows jobs kept path clear stored = record {
  order = stored.order;
  once = stored.once;
  stands = λ one row among also stands meet.
      let (old, within, is) = mapped_contains (standing_row path) rows row also in
      let here : overlap one.path old.path ≡ true =
      subst (λ (p : List (List ℕ)). overlap one.path p ≡ true) (sym (ap (λ (r : Row). r.path) is) ∙ standing-path path old) meet in
      let of = before one old among within (ap (λ (r : Row). r.stands) is ∙ stands) here in record {
        path = of.path ∙ sym (standing-path path old) ∙ ap (λ (r : Row). r.path) is;
        tree = of.tree ∙ sym (standing-tree path old) ∙ ap (λ (r : Row). r.tree) is;
      };
  lent = stored.lent;
}
  where
    before : (one : KeptRow) (old : Row) → Contains kept one → Contains rows old → (standing_row path old).stands ≡ true → overlap one.path old.path ≡ true →
        IsStoredOf one old.path old.tree
    before one old among within stands meet =
        elim (is_at_path path old) as
        (λ b. is_at_path path old ≡ b → (cond b (record old { stands = true }) old).stands ≡ true → IsStoredOf one old.path old.tree) [
          | true ↦ λ at is.
              absurd (both_ways (overlap one.path path) (clear one among)
              (subst (λ (p : List (List ℕ)). overlap one.path p ≡ true) (same_names-eq old.path path at) meet))
          | false ↦ λ off is. stored.stands one old among within is meet
        ] refl stands

-- the row at the path of a make that ended may be stored
pub made_may : (next : ℕ) (rows left : List Row) (work : WorkState) (kept : List KeptRow) (number : ℕ) (job : Job) (path : List (List ℕ)) (stamp : ℕ) (row : Row) →
    IsWork next rows work → IsStored rows work.jobs kept → find (is_job number) work.jobs ≡ Some job → job.task ≡ task.Make path stamp → Contains left row →
    row.path ≡ path → MayStore left (filter (is_other_job number) work.jobs) kept row
made_may next rows left work kept number job path stamp row rules stored found is among at = record {
  among = among;
  free = λ other also. alone other (path_of_job other) also (contains_first (path_of_task other.task) (claimed_by_part other.lent));
  lent = λ other part also has meet. absurd (both_ways (overlap row.path part.path) (alone other part.path also (part_loan other part has)) meet);
  alone = λ one within meet. absurd (both_ways (overlap one.path row.path) (off one within) meet);
}
  where
    mine : Contains work.jobs job
    mine = found_contains (is_job number) work.jobs job found

    task_path : path_of_job job ≡ row.path
    task_path = ap path_of_task is ∙ sym at

    off : (one : KeptRow) → Contains kept one → overlap one.path row.path ≡ false
    off one within = subst (λ (p : List (List ℕ)). overlap one.path p ≡ false) task_path (stored_no_task rows work.jobs kept one job stored within mine)

    alone : (other : Job) (q : List (List ℕ)) → Contains (filter (is_other_job number) work.jobs) other → Contains (loans_of other) q → overlap row.path q ≡ false
    alone other q also loan =
        let (within, differs) = filtered_contains (is_other_job number) work.jobs other also in
        let number_of : job.number ≡ number = eqb-true job.number number (found_passes (is_job number) work.jobs job found) in
        subst (λ (p : List (List ℕ)). overlap p q ≡ false) task_path
        (loans_apart next rows work job other (path_of_job job) q rules mine within
        (λ same. both_ways (is_job number other) (not-true (is_job number other) differs) (eq-eqb other.number number (sym same ∙ number_of)))
        (contains_first (path_of_task job.task) (claimed_by_part job.lent)) loan)
