-- No path is claimed twice, over plain lists: how that is kept where rows step, a job begins or ends, and a part comes back.
use Rattle.std.proofs.Common.{◌≡◌, ℕ, ◌+◌, ◌≤◌, ◌==◌, Bool, true, false, not, ◌&&◌, ◌||◌, inl, inr, List, [], ◌∷◌, ◌++◌, Option, Some, None, cond, refl, sym, ap, ap₂, subst, ◌∙◌, map, Contains, arith}
use Rattle.std.specs.List.{filter, list_any}
use Rattle.std.specs.Option.{option_map_or}
use Rattle.std.proofs.lemmas.Bool.{and_from, both_ways, eq-eqb, eqb-true, false_from_ne_true, not-true, or_parts, or_right}
use Rattle.std.proofs.lemmas.List.Folds.{list_any-append}
use Rattle.mat_path.specs.Covering.{covering}
use Rattle.mat_path.specs.Names.{is_prefix, overlap, same_names}
use Rattle.mat_path.proofs.Bools.{or_first}
use Rattle.mat_path.proofs.CoveringLemmas.{among_contains, contains_among, covering-append, covering_none}
use Rattle.mat_path.proofs.CoveringRows.{among_rows, covering_rows-cut, covering_rows-filter}
use Rattle.mat_path.proofs.Elements.{filtered_contains}
use Rattle.mat_path.proofs.Overlaps.{apart_of_prefixes, overlap_of_prefixes, overlap-refl, overlap-sym}
use Rattle.mat_path.proofs.SameNames.{is_prefix-refl, same_names-refl}
use Rattle.mat_model.specs.declared.book.Row.{Row}
use Rattle.mat_model.specs.declared.entries.Task.{Task}
use Rattle.mat_model.specs.declared.entries.Task.TheVariants as task
use Rattle.mat_model.specs.Openings.{path_of_row}
use Rattle.mat_model.specs.Rows.{are_apart}
use Rattle.mat_model.specs.WorkState.{Debris, Job, Lent, add_debris, has_loan, has_stamp, is_debris_above, is_dirty, is_gone, is_kept_dirty, is_lent, is_not_below, lends_at, path_of_debris, path_of_task, removed_rows}
use Rattle.model_laws.specs.RowRules.{AreStampedBelow}
use Rattle.model_laws.specs.WorkRules.{IsLentBy, are_reading, claimed_by_job, claimed_by_jobs, claimed_by_part, claimed_by_task, owns_by, reads, reads_stamp}
use Rattle.model_laws.proofs.BooksLists.{any_contains, contains_any}
use Rattle.model_laws.proofs.BooksRows.{apart_same}
use Rattle.model_laws.proofs.Coverings.{covering-add, covering-job, covering_rows-apart, row_covers, rows_at_most}
use Rattle.model_laws.proofs.WorkBase.{Base, Steps, Was, at_one_path, step_dirty}

-- the paths of rows that are claimed, where a test tells which stamps are read
abbrev pub row_claims : (ℕ → Bool) → List (List (List ℕ)) → List Row → List (List (List ℕ))
row_claims is_read dirty rows = map path_of_row (filter (owns_by is_read dirty) rows)

-- no path is claimed twice by rows, debris, jobs and some loose paths
abbrev pub Claimed : (ℕ → Bool) → List (List (List ℕ)) → List Row → List (List (List ℕ)) → List Debris → List Job → Type 0
Claimed is_read loose rows dirty debris jobs =
    (x : List (List ℕ)) →
    covering x (row_claims is_read dirty rows) + covering x (map path_of_debris debris) + covering x (claimed_by_jobs jobs) + covering x loose ≤ 1

-- ---- whose a row's part is

-- a row that doesn't stand owns what is at its path where that is dirty, and one that stands where it isn't read
pub owns_lying : (is_read : ℕ → Bool) (dirty : List (List (List ℕ))) (row : Row) → row.stands ≡ false → owns_by is_read dirty row ≡ is_dirty dirty row.path
owns_lying is_read dirty row lies = ap (λ (b : Bool). cond b (not (is_read row.stamp)) (is_dirty dirty row.path)) lies

pub owns_standing : (is_read : ℕ → Bool) (dirty : List (List (List ℕ))) (row : Row) → row.stands ≡ true → owns_by is_read dirty row ≡ not (is_read row.stamp)
owns_standing is_read dirty row stands = ap (λ (b : Bool). cond b (not (is_read row.stamp)) (is_dirty dirty row.path)) stands

-- a row that owns its part did so before, where it is the same and no stamp is read less nor a path dirty more
pub owns_still : (before after : ℕ → Bool) (dirty more : List (List (List ℕ))) (old row : Row) → row.path ≡ old.path → row.stamp ≡ old.stamp →
    row.stands ≡ old.stands → (after row.stamp ≡ false → before row.stamp ≡ false) → (is_dirty more row.path ≡ true → is_dirty dirty row.path ≡ true) →
    owns_by after more row ≡ true → owns_by before dirty old ≡ true
owns_still before after dirty more old row at under stands fewer less owns =
    elim row.stands as (λ b. row.stands ≡ b → owns_by before dirty old ≡ true) [
      | true ↦ λ is.
          owns_standing before dirty old (sym stands ∙ is)
          ∙ ap (λ (n : ℕ). not (before n)) (sym under)
          ∙ ap not (fewer (not-true (after row.stamp) (sym (owns_standing after more row is) ∙ owns)))
      | false ↦ λ is.
          owns_lying before dirty old (sym stands ∙ is)
          ∙ ap (λ (p : List (List ℕ)). is_dirty dirty p) (sym at)
          ∙ less (sym (owns_lying after more row is) ∙ owns)
    ] refl

-- what is dirty of some paths is dirty of all
pub dirty_of_filter : (test : List (List ℕ) → Bool) (dirty : List (List (List ℕ))) (path : List (List ℕ)) →
    is_dirty (filter test dirty) path ≡ true → is_dirty dirty path ≡ true
dirty_of_filter test dirty path is =
    contains_among path dirty (filtered_contains test dirty path (among_contains path (filter test dirty) is)).0

-- a row that is read is lent, and one whose path no loan overlaps isn't read
pub lent_overlaps : (rows : List Row) (row : Row) (o : Option Lent) → Contains rows row → IsLentBy rows o → option_map_or (reads_stamp row.stamp) o false ≡ true →
    option_map_or (lends_at row.path) o false ≡ true
lent_overlaps rows row None among lent is = cc
lent_overlaps rows row (Some part) among lent is =
    let from = lent row among (sym (eqb-true part.stamp row.stamp is)) in
    subst (λ (p : List (List ℕ)). overlap p row.path ≡ true) from.path (overlap-refl row.path)

pub unlent_unread : (rows : List Row) (jobs : List Job) (row : Row) → ((job : Job) → Contains jobs job → IsLentBy rows job.lent) → Contains rows row →
    is_lent row.path jobs ≡ false → are_reading jobs row.stamp ≡ false
unlent_unread rows jobs row lent among clear =
    false_from_ne_true (are_reading jobs row.stamp)
    (λ read.
    let (job, within, is) = any_contains (reads row.stamp) jobs read in
    both_ways (is_lent row.path jobs) clear
    (contains_any (has_loan row.path) jobs job within
    (or_right (overlap (path_of_task job.task) row.path) (option_map_or (lends_at row.path) job.lent false)
    (lent_overlaps rows row job.lent among (lent job within) is))))

-- ---- rows step

-- rows step: those that are removed leave debris only where they owned their parts
pub step_claims : (next : ℕ) (place : Option (List (List ℕ))) (rows left : List Row) (jobs : List Job) (dirty : List (List (List ℕ))) (debris : List Debris)
    (leaves : Row → Bool) (condemned : Bool) → Base next rows jobs dirty (map path_of_debris debris) → are_apart rows ≡ true → are_apart left ≡ true →
    AreStampedBelow next rows → Steps next place rows left →
    ((row : Row) → Contains rows row → leaves row ≡ true → owns_by (are_reading jobs) dirty row ≡ true) →
    Claimed (are_reading jobs) [] rows dirty debris jobs →
    Claimed (are_reading jobs) [] left (filter (is_kept_dirty (removed_rows rows left)) dirty)
    (add_debris condemned (filter leaves (removed_rows rows left)) debris) jobs
step_claims next place rows left jobs dirty debris leaves condemned base apart_before apart stamped steps owned claimed x =
    omega (
      arith,
      claimed x,
      covering-add x condemned (filter leaves (removed_rows rows left)) debris,
      covering_rows-cut path_of_row own gone x rows,
      debris_less,
      rows_less,
    )
  where
    own : Row → Bool
    own row = owns_by (are_reading jobs) dirty row

    gone : Row → Bool
    gone row = is_gone left row

    marks : List (List (List ℕ))
    marks = filter (is_kept_dirty (removed_rows rows left)) dirty

    debris_less : covering x (map path_of_row (filter leaves (removed_rows rows left))) ≤ covering x (map path_of_row (filter (λ y. own y && gone y) rows))
    debris_less =
        rows_at_most (covering x (map path_of_row (filter (λ y. own y && gone y) rows))) leaves x (removed_rows rows left)
        (omega (arith, covering_rows-filter path_of_row (is_gone left) x rows, covering_rows-apart x rows apart_before))
        (λ row among passes above.
        let (within, is) = filtered_contains (is_gone left) rows row among in
        row_covers (λ y. own y && gone y) x rows row within (and_from (own row) (gone row) (owned row within passes) is) above)

    stays : (row : Row) → Contains left row → (was : Was rows row) → not (gone was.old) ≡ true
    stays row among was =
        ap (λ (b : Bool). not (not b))
        (contains_any (has_stamp was.old.stamp) left row among (eq-eqb row.stamp was.old.stamp was.stamp))

    rows_less : covering x (row_claims (are_reading jobs) marks left) ≤ covering x (map path_of_row (filter (λ y. own y && not (gone y)) rows))
    rows_less =
        rows_at_most (covering x (map path_of_row (filter (λ y. own y && not (gone y)) rows))) (owns_by (are_reading jobs) marks) x left
        (covering_rows-apart x left apart)
        (λ row among passes above.
        elim (steps row among) [
          | inl (is, lies, at) ↦
              let mark : is_dirty marks row.path ≡ true = sym (owns_lying (are_reading jobs) marks row lies) ∙ passes in
              let (other, also, there, rests, less) =
              step_dirty next place rows left dirty stamped steps base.lying row.path (among_contains row.path marks mark) in
              let same : other.stamp ≡ row.stamp = ap (λ (r : Row). r.stamp) (at_one_path left other row apart also among there) in
              absurd (omega (arith, same, less, is))
          | inr was ↦
              row_covers (λ y. own y && not (gone y)) x rows was.old was.among
              (and_from (own was.old) (not (gone was.old))
              (owns_still (are_reading jobs) (are_reading jobs) dirty marks was.old row was.path was.stamp was.stands (λ h. h)
              (dirty_of_filter (is_kept_dirty (removed_rows rows left)) dirty row.path) passes)
              (stays row among was))
              (subst (λ (p : List (List ℕ)). is_prefix p x ≡ true) was.path above)
        ])

-- ---- a job begins

-- where no loan overlaps a path, what is at or below it is claimed by no job
task_clear : (p x : List (List ℕ)) (t : Task) → overlap (path_of_task t) p ≡ false → is_prefix p x ≡ true → covering x (claimed_by_task t) ≡ 0
task_clear p x (task.Make path stamp) clear above =
    let off : is_prefix path x ≡ false = apart_of_prefixes p path x (overlap-sym path p false clear) above in
    ap (λ (b : Bool). cond b 1 0 + 0) off
task_clear p x (task.Wipe path) clear above = refl

part_clear : (p x : List (List ℕ)) (o : Option Lent) → option_map_or (lends_at p) o false ≡ false → is_prefix p x ≡ true → covering x (claimed_by_part o) ≡ 0
part_clear p x None clear above = refl
part_clear p x (Some part) clear above =
    let off : is_prefix part.path x ≡ false = apart_of_prefixes p part.path x (overlap-sym part.path p false clear) above in
    ap (λ (b : Bool). cond b 1 0 + 0) off

pub jobs_clear : (p x : List (List ℕ)) (jobs : List Job) → is_lent p jobs ≡ false → is_prefix p x ≡ true → covering x (claimed_by_jobs jobs) ≡ 0
jobs_clear p x [] clear above = refl
jobs_clear p x (job ∷ jobs) clear above =
    let parts = or_parts (has_loan p job) (is_lent p jobs) clear in
    let loans = or_parts (overlap (path_of_task job.task) p) (option_map_or (lends_at p) job.lent false) parts.0 in
    omega (
      arith,
      covering-append x (claimed_by_job job) (claimed_by_jobs jobs),
      covering-append x (claimed_by_task job.task) (claimed_by_part job.lent),
      task_clear p x job.task loans.0 above,
      part_clear p x job.lent loans.1 above,
      jobs_clear p x jobs parts.1 above,
    )

-- debris that is left where a make begins covers nothing at or below the path, where none is strictly above it
debris_clear : (p x : List (List ℕ)) (debris : List Debris) → list_any (is_debris_above p) debris ≡ false → is_prefix p x ≡ true →
    covering x (map path_of_debris (filter (is_not_below p) debris)) ≡ 0
debris_clear p x debris none above =
    covering_none x (map path_of_debris (filter (is_not_below p) debris))
    (λ q among.
    let (one, within, aside, named) = among_rows path_of_debris (is_not_below p) debris q among in
    let under : is_prefix p one.path ≡ false = not-true (is_prefix p one.path) aside in
    false_from_ne_true (is_prefix q x)
    (λ covers.
    let here : is_prefix one.path x ≡ true = ap (λ (l : List (List ℕ)). is_prefix l x) named ∙ covers in
    let meets : is_prefix one.path p ≡ true = or_first (is_prefix one.path p) (is_prefix p one.path) under (overlap_of_prefixes one.path p x here above) in
    let other : same_names one.path p ≡ false =
    false_from_ne_true (same_names one.path p) (λ same. both_ways (is_prefix p one.path) under (is_prefix-refl p one.path same)) in
    both_ways (list_any (is_debris_above p) debris) none
    (contains_any (is_debris_above p) debris one within (and_from (is_prefix one.path p) (not (same_names one.path p)) meets (ap not other)))))

-- a part is lent from a row of some, which stands
pub record IsFrom (rows : List Row) (part : Lent) : Type 0 where
  pub row : Row
  pub among : Contains rows row
  pub path : row.path ≡ part.path
  pub stamp : row.stamp ≡ part.stamp
  pub stands : row.stands ≡ true
  pub tree : row.tree ≡ part.tree

-- a part, if it is one, is lent from a row, and no loan overlaps it
abbrev pub MayLend : List Row → List Job → Option Lent → Type 0
MayLend rows jobs None = Unit {0}
MayLend rows jobs (Some part) = IsFrom rows part × (is_lent part.path jobs ≡ false)

-- the row that a part is lent from owned it, and where it is read no row does that covers a path at or below it
lends_less : (rows : List Row) (jobs : List Job) (dirty more : List (List (List ℕ))) (reading : ℕ → Bool) (o : Option Lent) (x : List (List ℕ)) →
    are_apart rows ≡ true → ((job : Job) → Contains jobs job → IsLentBy rows job.lent) → MayLend rows jobs o →
    ((stamp : ℕ) → reading stamp ≡ false → are_reading jobs stamp ≡ false) →
    ((stamp : ℕ) → reading stamp ≡ false → option_map_or (reads_stamp stamp) o false ≡ false) →
    ((path : List (List ℕ)) → is_dirty more path ≡ true → is_dirty dirty path ≡ true) →
    covering x (row_claims reading more rows) + covering x (claimed_by_part o) ≤ covering x (row_claims (are_reading jobs) dirty rows)
lends_less rows jobs dirty more reading None x apart lent may fewer off less =
    let most : covering x (row_claims reading more rows) ≤ covering x (row_claims (are_reading jobs) dirty rows) =
    rows_at_most (covering x (row_claims (are_reading jobs) dirty rows)) (owns_by reading more) x rows (covering_rows-apart x rows apart)
    (λ row among passes above.
    row_covers (owns_by (are_reading jobs) dirty) x rows row among
    (owns_still (are_reading jobs) reading dirty more row row refl refl refl (fewer row.stamp) (less row.path) passes) above) in
    omega (arith, most)
lends_less rows jobs dirty more reading (Some part) x apart lent (from, clear) fewer off less = by (is_prefix part.path x) refl
  where
    most : covering x (row_claims reading more rows) ≤ covering x (row_claims (are_reading jobs) dirty rows)
    most =
        rows_at_most (covering x (row_claims (are_reading jobs) dirty rows)) (owns_by reading more) x rows (covering_rows-apart x rows apart)
        (λ row among passes above.
        row_covers (owns_by (are_reading jobs) dirty) x rows row among
        (owns_still (are_reading jobs) reading dirty more row row refl refl refl (fewer row.stamp) (less row.path) passes) above)

    by : (b : Bool) → is_prefix part.path x ≡ b →
        covering x (row_claims reading more rows) + (cond b 1 0 + 0) ≤ covering x (row_claims (are_reading jobs) dirty rows)
    by false off_path = omega (arith, most)
    by true on =
        let here : is_prefix from.row.path x ≡ true = subst (λ (p : List (List ℕ)). is_prefix p x ≡ true) (sym from.path) on in
        let unread : are_reading jobs from.row.stamp ≡ false =
        unlent_unread rows jobs from.row lent from.among (subst (λ (p : List (List ℕ)). is_lent p jobs ≡ false) (sym from.path) clear) in
        let before : 1 ≤ covering x (row_claims (are_reading jobs) dirty rows) =
        row_covers (owns_by (are_reading jobs) dirty) x rows from.row from.among
        (owns_standing (are_reading jobs) dirty from.row from.stands ∙ ap not unread) here in
        let after : covering x (row_claims reading more rows) ≤ 0 =
        rows_at_most 0 (owns_by reading more) x rows (covering_rows-apart x rows apart)
        (λ row among passes above.
        let same : row ≡ from.row = apart_same rows row from.row apart among from.among (overlap_of_prefixes row.path from.row.path x above here) in
        let stands : row.stands ≡ true = ap (λ (r : Row). r.stands) same ∙ from.stands in
        let stamp : row.stamp ≡ part.stamp = ap (λ (r : Row). r.stamp) same ∙ from.stamp in
        let idle : reading row.stamp ≡ false = not-true (reading row.stamp) (sym (owns_standing reading more row stands) ∙ passes) in
        absurd (both_ways (part.stamp == row.stamp) (off row.stamp idle) (eq-eqb part.stamp row.stamp (sym stamp)))) in
        omega (arith, before, after)

-- one more job reads what it reads
reading-push : (jobs : List Job) (job : Job) (stamp : ℕ) → are_reading (jobs ++ job ∷ []) stamp ≡ (are_reading jobs stamp || (reads stamp job || false))
reading-push jobs job stamp = list_any-append (reads stamp) jobs (job ∷ [])

-- a make begins at the path of a row that doesn't stand: no loan overlaps it, and no debris is strictly above it
pub make_claims : (rows : List Row) (jobs : List Job) (dirty : List (List (List ℕ))) (debris : List Debris) (job : Job) (path : List (List ℕ)) (stamp : ℕ) (row : Row) →
    are_apart rows ≡ true → ((other : Job) → Contains jobs other → IsLentBy rows other.lent) → job.task ≡ task.Make path stamp → Contains rows row → row.path ≡ path →
    row.stands ≡ false → is_lent path jobs ≡ false → list_any (is_debris_above path) debris ≡ false → MayLend rows jobs job.lent →
    Claimed (are_reading jobs) [] rows dirty debris jobs →
    Claimed (are_reading (jobs ++ job ∷ [])) [] rows (filter (λ (other : List (List ℕ)). not (same_names other path)) dirty)
    (filter (is_not_below path) debris) (jobs ++ job ∷ [])
make_claims rows jobs dirty debris job path stamp row apart lent is among at lies clear none may claimed x = by (is_prefix path x) refl
  where
    marks : List (List (List ℕ))
    marks = filter (λ (other : List (List ℕ)). not (same_names other path)) dirty

    reading : ℕ → Bool
    reading = are_reading (jobs ++ job ∷ [])

    idle : (n : ℕ) → reading n ≡ false → (are_reading jobs n ≡ false) × (reads n job ≡ false)
    idle n off =
        let parts = or_parts (are_reading jobs n) (reads n job || false) (sym (reading-push jobs job n) ∙ off) in
        (parts.0, (or_parts (reads n job) false parts.1).0)

    less : covering x (row_claims reading marks rows) + covering x (claimed_by_part job.lent) ≤ covering x (row_claims (are_reading jobs) dirty rows)
    less =
        lends_less rows jobs dirty marks reading job.lent x apart lent may (λ n off. (idle n off).0) (λ n off. (idle n off).1)
        (dirty_of_filter (λ (other : List (List ℕ)). not (same_names other path)) dirty)

    more : covering x (claimed_by_jobs (jobs ++ job ∷ [])) ≡ covering x (claimed_by_jobs jobs) + (cond (is_prefix path x) 1 0 + covering x (claimed_by_part job.lent))
    more =
        covering-job x jobs job
        ∙ ap (λ (t : Task). covering x (claimed_by_jobs jobs) + covering x (claimed_by_task t ++ claimed_by_part job.lent)) is

    -- no row covers what is at or below the path
    rows_clear : is_prefix path x ≡ true → covering x (row_claims reading marks rows) ≤ 0
    rows_clear above =
        rows_at_most 0 (owns_by reading marks) x rows (covering_rows-apart x rows apart)
        (λ other also passes covers.
        let here : is_prefix row.path x ≡ true = subst (λ (p : List (List ℕ)). is_prefix p x ≡ true) (sym at) above in
        let same : other ≡ row = apart_same rows other row apart also among (overlap_of_prefixes other.path row.path x covers here) in
        let rests : other.stands ≡ false = ap (λ (r : Row). r.stands) same ∙ lies in
        let mark : is_dirty marks other.path ≡ true = sym (owns_lying reading marks other rests) ∙ passes in
        let kept = (filtered_contains (λ (q : List (List ℕ)). not (same_names q path)) dirty other.path (among_contains other.path marks mark)).1 in
        absurd (both_ways (same_names other.path path) (not-true (same_names other.path path) kept)
        (subst (λ (p : List (List ℕ)). same_names other.path p ≡ true) (ap (λ (r : Row). r.path) same ∙ at) (same_names-refl other.path))))

    -- and no part that is lent
    part_off : (o : Option Lent) → MayLend rows jobs o → is_prefix path x ≡ true → covering x (claimed_by_part o) ≡ 0
    part_off None is above = refl
    part_off (Some part) (from, free) above =
        let off : is_prefix part.path x ≡ false =
        false_from_ne_true (is_prefix part.path x)
        (λ covers.
        let same : from.row ≡ row =
        apart_same rows from.row row apart from.among among
        (overlap_of_prefixes from.row.path row.path x (subst (λ (p : List (List ℕ)). is_prefix p x ≡ true) (sym from.path) covers)
        (subst (λ (p : List (List ℕ)). is_prefix p x ≡ true) (sym at) above)) in
        both_ways from.row.stands (ap (λ (r : Row). r.stands) same ∙ lies) from.stands) in
        ap (λ (b : Bool). cond b 1 0 + 0) off

    by : (b : Bool) → is_prefix path x ≡ b →
        covering x (row_claims reading marks rows) + covering x (map path_of_debris (filter (is_not_below path) debris)) + covering x (claimed_by_jobs (jobs ++ job ∷ [])) + 0 ≤ 1
    by true above =
        omega (
          arith,
          more,
          ap {B = ℕ} (λ (b : Bool). cond b 1 0) above,
          rows_clear above,
          part_off job.lent may above,
          jobs_clear path x jobs clear above,
          debris_clear path x debris none above,
        )
    by false aside = omega (arith, more, ap {B = ℕ} (λ (b : Bool). cond b 1 0) aside, claimed x, less, covering_rows-filter path_of_debris (is_not_below path) x debris)

-- a job begins that claims nothing and reads nothing
pub wipe_claims : (rows : List Row) (jobs : List Job) (dirty : List (List (List ℕ))) (debris : List Debris) (job : Job) (path : List (List ℕ)) →
    are_apart rows ≡ true → job.task ≡ task.Wipe path → job.lent ≡ None → Claimed (are_reading jobs) [] rows dirty debris jobs →
    Claimed (are_reading (jobs ++ job ∷ [])) [] rows dirty debris (jobs ++ job ∷ [])
wipe_claims rows jobs dirty debris job path apart is unlent claimed x =
    let none : covering x (claimed_by_job job) ≡ 0 =
    ap₂ (λ (t : Task) (o : Option Lent). covering x (claimed_by_task t ++ claimed_by_part o)) is unlent in
    let less : covering x (row_claims (are_reading (jobs ++ job ∷ [])) dirty rows) ≤ covering x (row_claims (are_reading jobs) dirty rows) =
    rows_at_most (covering x (row_claims (are_reading jobs) dirty rows)) (owns_by (are_reading (jobs ++ job ∷ [])) dirty) x rows (covering_rows-apart x rows apart)
    (λ row among passes above.
    row_covers (owns_by (are_reading jobs) dirty) x rows row among
    (owns_still (are_reading jobs) (are_reading (jobs ++ job ∷ [])) dirty dirty row row refl refl refl
    (λ off. (or_parts (are_reading jobs row.stamp) (reads row.stamp job || false) (sym (reading-push jobs job row.stamp) ∙ off)).0)
    (λ h. h) passes) above) in
    omega (arith, claimed x, covering-job x jobs job, none, less)
