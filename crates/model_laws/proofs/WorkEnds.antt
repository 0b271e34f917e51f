-- No path is claimed twice, over plain lists, where a task ends and a part comes back that was read.
use Rattle.std.proofs.Common.{◌≡◌, ℕ, ◌+◌, ◌≤◌, Bool, true, false, not, ◌||◌, ◌⊎◌, inl, inr, List, [], ◌∷◌, ◌++◌, Option, Some, None, cond, refl, sym, ap, subst, ◌∙◌, map, find, Contains, arith}
use Rattle.std.specs.List.{filter, list_any}
use Rattle.std.specs.Option.{option_map_or}
use Rattle.std.proofs.lemmas.Bool.{both_ways, eq-eqb, eqb-true, not-true}
use Rattle.mat_path.specs.Covering.{covering}
use Rattle.mat_path.specs.Names.{is_prefix, same_names}
use Rattle.mat_path.proofs.CoveringLemmas.{covering-append}
use Rattle.mat_path.proofs.CoveringRows.{covering_rows-filter}
use Rattle.mat_path.proofs.Elements.{contains_filter, mapped_contains}
use Rattle.mat_path.proofs.SameNames.{same_names-eq}
use Rattle.mat_model.specs.declared.book.Row.{Row}
use Rattle.mat_model.specs.declared.entries.Task.{Task}
use Rattle.mat_model.specs.declared.entries.Task.TheVariants as task
use Rattle.mat_model.specs.Books.{are_ascending}
use Rattle.mat_model.specs.Rows.{are_apart, is_at_path, standing_row}
use Rattle.mat_model.specs.WorkState.{Debris, Job, Lent, has_stamp, is_dirty, is_elsewhere, is_job, is_other_job, marked, path_of_debris, put_debris}
use Rattle.model_laws.specs.WorkRules.{IsLentBy, are_reading, claimed_by_job, claimed_by_part, claimed_by_task, number_of_job, owns_by, reads, reads_stamp}
use Rattle.model_laws.proofs.Apart.{apart-map}
use Rattle.model_laws.proofs.BooksLists.{any_contains, contains_any}
use Rattle.model_laws.proofs.Changes.{standing-path}
use Rattle.model_laws.proofs.Coverings.{covering-ended, covering-put, covering_rows-apart, paths-map, row_covers, rows_at_most}
use Rattle.model_laws.proofs.Elements.{found_contains, found_passes}
use Rattle.model_laws.proofs.WorkBase.{same_job}
use Rattle.model_laws.proofs.WorkClaims.{Claimed, owns_lying, owns_standing, owns_still, row_claims}

-- ---- a task ends

-- the claims of a job that ends are loose
pub drop_claims : (number : ℕ) (rows : List Row) (jobs : List Job) (dirty : List (List (List ℕ))) (debris : List Debris) (job : Job) →
    find (is_job number) jobs ≡ Some job → Claimed (are_reading jobs) [] rows dirty debris jobs →
    Claimed (are_reading jobs) (claimed_by_job job) rows dirty debris (filter (is_other_job number) jobs)
drop_claims number rows jobs dirty debris job found claimed x =
    omega (arith, claimed x, covering-ended (is_job number) (is_other_job number) (λ other. refl) x jobs job found)

-- what rows and debris claim, where they claim no more than before but for the path of the task that ended
abbrev pub TakesOver : (ℕ → Bool) → Task → List Row → List (List (List ℕ)) → List Debris → List Row → List (List (List ℕ)) → List Debris → Type 0
TakesOver is_read t rows dirty debris left marks more =
    (x : List (List ℕ)) →
    covering x (row_claims is_read marks left) + covering x (map path_of_debris more)
    ≤ covering x (row_claims is_read dirty rows) + covering x (map path_of_debris debris) + covering x (claimed_by_task t)

-- they take over the loose claim of the task
pub taken_over : (is_read : ℕ → Bool) (t : Task) (loose : List (List (List ℕ))) (rows : List Row) (dirty : List (List (List ℕ))) (debris : List Debris)
    (left : List Row) (marks : List (List (List ℕ))) (more : List Debris) (jobs : List Job) → TakesOver is_read t rows dirty debris left marks more →
    Claimed is_read (claimed_by_task t ++ loose) rows dirty debris jobs → Claimed is_read loose left marks more jobs
taken_over is_read t loose rows dirty debris left marks more jobs over claimed x =
    omega (arith, claimed x, over x, covering-append x (claimed_by_task t) loose)

-- a make's part becomes debris where its row is gone
pub stale_takes : (is_read : ℕ → Bool) (path : List (List ℕ)) (stamp : ℕ) (condemned : Bool) (rows : List Row) (dirty : List (List (List ℕ))) (debris : List Debris) →
    TakesOver is_read (task.Make path stamp) rows dirty debris rows dirty (put_debris (record { path = path; condemned = condemned }) debris)
stale_takes is_read path stamp condemned rows dirty debris x =
    omega (arith, covering-put x (record { path = path; condemned = condemned }) debris)

-- a path that has the names of a prefix is covered by it
named_covers : (path other x : List (List ℕ)) → same_names other path ≡ true → is_prefix other x ≡ true → 1 ≤ cond (is_prefix path x) 1 0
named_covers path other x same above =
    let here : is_prefix path x ≡ true = subst (λ (p : List (List ℕ)). is_prefix p x ≡ true) (same_names-eq other path same) above in
    omega (arith, ap {B = ℕ} (λ (b : Bool). cond b 1 0) here)

-- it is that of a row that stands where it was made
pub made_takes : (is_read : ℕ → Bool) (path : List (List ℕ)) (stamp : ℕ) (rows : List Row) (dirty : List (List (List ℕ))) (debris : List Debris) →
    are_apart rows ≡ true → TakesOver is_read (task.Make path stamp) rows dirty debris (map (standing_row path) rows) dirty debris
made_takes is_read path stamp rows dirty debris apart x = omega (arith, most)
  where
    most : covering x (row_claims is_read dirty (map (standing_row path) rows)) ≤ covering x (row_claims is_read dirty rows) + cond (is_prefix path x) 1 0
    most =
        rows_at_most (covering x (row_claims is_read dirty rows) + cond (is_prefix path x) 1 0) (owns_by is_read dirty) x (map (standing_row path) rows)
        (covering_rows-apart x (map (standing_row path) rows) (apart-map (standing_row path) (standing-path path) rows ∙ apart))
        (λ row among passes above.
        let (old, within, is) = mapped_contains (standing_row path) rows row among in
        by old within (subst (λ (r : Row). owns_by is_read dirty r ≡ true) (sym is) passes) (subst (λ (r : Row). is_prefix r.path x ≡ true) (sym is) above))
      where
        by : (old : Row) → Contains rows old → owns_by is_read dirty (standing_row path old) ≡ true → is_prefix (standing_row path old).path x ≡ true →
            1 ≤ covering x (row_claims is_read dirty rows) + cond (is_prefix path x) 1 0
        by old within passes above =
            elim (is_at_path path old) as
            (λ b. is_at_path path old ≡ b → owns_by is_read dirty (cond b (record old { stands = true }) old) ≡ true →
            is_prefix (cond b (record old { stands = true }) old).path x ≡ true → 1 ≤ covering x (row_claims is_read dirty rows) + cond (is_prefix path x) 1 0) [
              | true ↦ λ at owns over. omega (arith, named_covers path old.path x at over)
              | false ↦ λ off owns over. omega (arith, row_covers (owns_by is_read dirty) x rows old within owns over)
            ] refl passes above

-- and it is dirty where the make failed
pub failed_takes : (is_read : ℕ → Bool) (path : List (List ℕ)) (stamp : ℕ) (rows : List Row) (dirty : List (List (List ℕ))) (debris : List Debris) →
    are_apart rows ≡ true → TakesOver is_read (task.Make path stamp) rows dirty debris rows (path ∷ dirty) debris
failed_takes is_read path stamp rows dirty debris apart x = omega (arith, most)
  where
    most : covering x (row_claims is_read (path ∷ dirty) rows) ≤ covering x (row_claims is_read dirty rows) + cond (is_prefix path x) 1 0
    most =
        rows_at_most (covering x (row_claims is_read dirty rows) + cond (is_prefix path x) 1 0) (owns_by is_read (path ∷ dirty)) x rows
        (covering_rows-apart x rows apart)
        (λ row among passes above.
        elim (same_names row.path path) as (λ b. same_names row.path path ≡ b → 1 ≤ covering x (row_claims is_read dirty rows) + cond (is_prefix path x) 1 0) [
          | true ↦ λ same. omega (arith, named_covers path row.path x same above)
          | false ↦ λ other.
              omega (
                arith,
                row_covers (owns_by is_read dirty) x rows row among
                    (owns_still is_read is_read dirty (path ∷ dirty) row row refl refl refl (λ h. h)
                    (λ mark. ap (λ (b : Bool). b || is_dirty dirty row.path) (sym other) ∙ mark) passes)
                    above,
              )
        ] refl)

-- a wipe leaves no debris at its path, or the debris that there was
pub wiped_takes : (is_read : ℕ → Bool) (path : List (List ℕ)) (rows : List Row) (dirty : List (List (List ℕ))) (debris : List Debris) →
    TakesOver is_read (task.Wipe path) rows dirty debris rows dirty (filter (is_elsewhere path) debris)
wiped_takes is_read path rows dirty debris x = omega (arith, covering_rows-filter path_of_debris (is_elsewhere path) x debris)

-- debris with or without its mark is where it was
pub marked-path : (condemned : Bool) (path : List (List ℕ)) (debris : Debris) → (marked condemned path debris).path ≡ debris.path
marked-path condemned path debris =
    elim (same_names debris.path path) as (λ b. (cond b (record debris { condemned = condemned }) debris).path ≡ debris.path) [ true ↦ refl | false ↦ refl ]

pub marked_takes : (is_read : ℕ → Bool) (t : Task) (condemned : Bool) (path : List (List ℕ)) (rows : List Row) (dirty : List (List (List ℕ))) (debris : List Debris) →
    TakesOver is_read t rows dirty debris rows dirty (map (marked condemned path) debris)
marked_takes is_read t condemned path rows dirty debris x =
    omega (arith, ap (covering x) (paths-map (marked condemned path) (marked-path condemned path) debris))

-- ---- a part comes back

-- a stamp that is read by none of the other jobs is read by none, or by the job that ended
pub idle_cases : (number : ℕ) (jobs : List Job) (job : Job) (stamp : ℕ) → are_ascending (map number_of_job jobs) ≡ true → find (is_job number) jobs ≡ Some job →
    are_reading (filter (is_other_job number) jobs) stamp ≡ false →
    (are_reading jobs stamp ≡ false) ⊎ (option_map_or (reads_stamp stamp) job.lent false ≡ true)
idle_cases number jobs job stamp up found idle = by (are_reading jobs stamp) refl
  where
    ends : (other : Job) → Contains jobs other → reads stamp other ≡ true → (b : Bool) → is_job number other ≡ b →
        option_map_or (reads_stamp stamp) job.lent false ≡ true
    ends other among is true same =
        let number_of : job.number ≡ number = eqb-true job.number number (found_passes (is_job number) jobs job found) in
        let one : other ≡ job =
        same_job jobs other job up among (found_contains (is_job number) jobs job found) (eqb-true other.number number same ∙ sym number_of) in
        subst (λ (j : Job). reads stamp j ≡ true) one is
    ends other among is false differs =
        absurd (both_ways (are_reading (filter (is_other_job number) jobs) stamp) idle
        (contains_any (reads stamp) (filter (is_other_job number) jobs) other
        (contains_filter (is_other_job number) jobs other (ap not differs) among) is))

    by : (b : Bool) → are_reading jobs stamp ≡ b → (b ≡ false) ⊎ (option_map_or (reads_stamp stamp) job.lent false ≡ true)
    by false off = inl refl
    by true read = let (other, among, is) = any_contains (reads stamp) jobs read in inr (ends other among is (is_job number other) refl)

-- a row that owns its part once a job ended did so before, or that part was lent to it
owned_cases : (before after : ℕ → Bool) (dirty : List (List (List ℕ))) (row : Row) (o : Option Lent) →
    (after row.stamp ≡ false → (before row.stamp ≡ false) ⊎ (option_map_or (reads_stamp row.stamp) o false ≡ true)) →
    owns_by after dirty row ≡ true → (owns_by before dirty row ≡ true) ⊎ (option_map_or (reads_stamp row.stamp) o false ≡ true)
owned_cases before after dirty row o cases owns =
    elim row.stands as (λ b. row.stands ≡ b → (owns_by before dirty row ≡ true) ⊎ (option_map_or (reads_stamp row.stamp) o false ≡ true)) [
      | true ↦ λ is.
          elim (cases (not-true (after row.stamp) (sym (owns_standing after dirty row is) ∙ owns))) [
            | inl idle ↦ inl (owns_standing before dirty row is ∙ ap not idle)
            | inr read ↦ inr read
          ]
      | false ↦ λ is. inl (owns_lying before dirty row is ∙ (sym (owns_lying after dirty row is) ∙ owns))
    ] refl

-- no part was lent
pub nothing_back : (before after : ℕ → Bool) (rows : List Row) (dirty : List (List (List ℕ))) (debris : List Debris) (jobs : List Job) → are_apart rows ≡ true →
    ((stamp : ℕ) → after stamp ≡ false → (before stamp ≡ false) ⊎ (option_map_or (reads_stamp stamp) None false ≡ true)) →
    Claimed before (claimed_by_part None) rows dirty debris jobs → Claimed after [] rows dirty debris jobs
nothing_back before after rows dirty debris jobs apart cases claimed x =
    let most : covering x (row_claims after dirty rows) ≤ covering x (row_claims before dirty rows) =
    rows_at_most (covering x (row_claims before dirty rows)) (owns_by after dirty) x rows (covering_rows-apart x rows apart)
    (λ row among passes above.
    elim (owned_cases before after dirty row None (cases row.stamp) passes) [
      | inl owns ↦ row_covers (owns_by before dirty) x rows row among owns above
      | inr read ↦ cc
    ]) in
    omega (arith, most, claimed x)

-- the part that was lent is its row's again
pub part_back : (before after : ℕ → Bool) (rows : List Row) (dirty : List (List (List ℕ))) (debris : List Debris) (jobs : List Job) (part : Lent) → are_apart rows ≡ true →
    IsLentBy rows (Some part) →
    ((stamp : ℕ) → after stamp ≡ false → (before stamp ≡ false) ⊎ (option_map_or (reads_stamp stamp) (Some part) false ≡ true)) →
    Claimed before (claimed_by_part (Some part)) rows dirty debris jobs → Claimed after [] rows dirty debris jobs
part_back before after rows dirty debris jobs part apart lent cases claimed x =
    let most : covering x (row_claims after dirty rows) ≤ covering x (row_claims before dirty rows) + cond (is_prefix part.path x) 1 0 =
    rows_at_most (covering x (row_claims before dirty rows) + cond (is_prefix part.path x) 1 0) (owns_by after dirty) x rows (covering_rows-apart x rows apart)
    (λ row among passes above.
    elim (owned_cases before after dirty row (Some part) (cases row.stamp) passes) [
      | inl owns ↦ omega (arith, row_covers (owns_by before dirty) x rows row among owns above)
      | inr read ↦
          let from = lent row among (sym (eqb-true part.stamp row.stamp read)) in
          let here : is_prefix part.path x ≡ true = subst (λ (p : List (List ℕ)). is_prefix p x ≡ true) from.path above in
          omega (arith, ap {B = ℕ} (λ (b : Bool). cond b 1 0) here)
    ]) in
    omega (arith, most, claimed x)

-- the part of a row that is gone is debris
pub part_left : (before after : ℕ → Bool) (rows : List Row) (dirty : List (List (List ℕ))) (debris : List Debris) (jobs : List Job) (part : Lent) (condemned : Bool) →
    are_apart rows ≡ true → list_any (has_stamp part.stamp) rows ≡ false →
    ((stamp : ℕ) → after stamp ≡ false → (before stamp ≡ false) ⊎ (option_map_or (reads_stamp stamp) (Some part) false ≡ true)) →
    Claimed before (claimed_by_part (Some part)) rows dirty debris jobs →
    Claimed after [] rows dirty (put_debris (record { path = part.path; condemned = condemned }) debris) jobs
part_left before after rows dirty debris jobs part condemned apart gone cases claimed x =
    let most : covering x (row_claims after dirty rows) ≤ covering x (row_claims before dirty rows) =
    rows_at_most (covering x (row_claims before dirty rows)) (owns_by after dirty) x rows (covering_rows-apart x rows apart)
    (λ row among passes above.
    elim (owned_cases before after dirty row (Some part) (cases row.stamp) passes) [
      | inl owns ↦ row_covers (owns_by before dirty) x rows row among owns above
      | inr read ↦
          absurd (both_ways (list_any (has_stamp part.stamp) rows) gone
          (contains_any (has_stamp part.stamp) rows row among (eq-eqb row.stamp part.stamp (sym (eqb-true part.stamp row.stamp read)))))
    ]) in
    omega (arith, most, claimed x, covering-put x (record { path = part.path; condemned = condemned }) debris)
