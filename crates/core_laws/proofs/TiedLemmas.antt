-- The rows whose parts the disk has, where parts are taken and given, jobs begin and end, and rows come and go.
use Rattle.std.proofs.Common.{◌≡◌, ℕ, Bool, true, false, not, ◌⊎◌, inl, inr, List, [], ◌∷◌, ◌++◌, Option, Some, None, refl, sym, ap, subst, ◌∙◌, Contains}
use Rattle.std.specs.List.{filter}
use Rattle.std.specs.Option.{option_map, option_map_or}
use Rattle.std.proofs.lemmas.Bool.{and_from, and_parts, both_ways, eq-eqb, eqb-true, false_from_ne_true, not-true, or_left}
use Rattle.std.proofs.lemmas.List.Elements.{Contains-append_left}
use Rattle.mat_path.specs.Names.{is_prefix, overlap}
use Rattle.mat_path.proofs.Elements.{contains_filter}
use Rattle.mat_path.proofs.Overlaps.{overlap-sym}
use Rattle.mat_path.proofs.PathLemmas.{prefix-append}
use Rattle.mat_tree.specs.declared.flat.Flat.{Flat}
use Rattle.mat_tree.specs.Parts.{HasTree, Part, declared_by, replaced, without}
use Rattle.mat_model.specs.declared.book.Row.{Row}
use Rattle.mat_model.specs.declared.entries.Task.TheVariants as task
use Rattle.mat_model.specs.Rows.{are_apart}
use Rattle.mat_model.specs.WorkState.{Debris, Job, Lent, WorkState, is_dirty, is_job, is_other_job, running}
use Rattle.model_laws.specs.WorkRules.{IsLentBy, IsWork, are_reading, loans, loans_of, reads, reads_stamp}
use Rattle.model_laws.proofs.BooksLists.{any_contains, contains_any}
use Rattle.model_laws.proofs.BooksRows.{apart_same}
use Rattle.model_laws.proofs.ClaimLemmas.{disk_no_debris, disk_own_loan}
use Rattle.model_laws.proofs.Coverings.{among_named}
use Rattle.model_laws.proofs.WorkBase.{same_job}
use Rattle.region_port.specs.Calls.{Paths, paths_below, paths_of_both, paths_outside}
use Rattle.core_laws.specs.Places.{IsBareBelow, IsSameBelow}
use Rattle.core_laws.specs.Tied.{AreTied, IsClear, IsLeftBy, IsTreeAt, WasHome, is_home}
use Rattle.core_laws.proofs.LoanLemmas.{IsRunning, is_running}
use Rattle.core_laws.proofs.PlaceLemmas.{give_aside, give_brings, take_aside}

-- ---- rows that are home

-- a row that is home stands, and no job reads it
pub home_parts : (jobs : List Job) (row : Row) → is_home jobs row ≡ true → (row.stands ≡ true) × (are_reading jobs row.stamp ≡ false)
home_parts jobs row home =
    let parts = and_parts row.stands (not (are_reading jobs row.stamp)) home in
    (parts.0, not-true (are_reading jobs row.stamp) parts.1)

pub home_from : (jobs : List Job) (row : Row) → row.stands ≡ true → are_reading jobs row.stamp ≡ false → is_home jobs row ≡ true
home_from jobs row stands unread = and_from row.stands (not (are_reading jobs row.stamp)) stands (ap not unread)

-- a job that reads the part of a stamp reads its row
job_reads : (jobs : List Job) (job : Job) (part : Lent) (stamp : ℕ) → Contains jobs job → job.lent ≡ Some part → part.stamp ≡ stamp →
    are_reading jobs stamp ≡ true
job_reads jobs job part stamp among is same =
    contains_any (reads stamp) jobs job among
    (subst (λ (o : Option Lent). option_map_or (reads_stamp stamp) o false ≡ true) (sym is) (eq-eqb part.stamp stamp same))

pub read_away : (jobs : List Job) (job : Job) (part : Lent) (row : Row) → Contains jobs job → job.lent ≡ Some part → part.stamp ≡ row.stamp →
    is_home jobs row ≡ false
read_away jobs job part row among is same =
    false_from_ne_true (is_home jobs row)
    (λ home. both_ways (are_reading jobs row.stamp) (home_parts jobs row home).1 (job_reads jobs job part row.stamp among is same))

-- a row that is home though a job begins was home
home_before : (jobs : List Job) (job : Job) (row : Row) → is_home (jobs ++ job ∷ []) row ≡ true → is_home jobs row ≡ true
home_before jobs job row home =
    let parts = home_parts (jobs ++ job ∷ []) row home in
    home_from jobs row parts.0
    (false_from_ne_true (are_reading jobs row.stamp)
    (λ read.
    let (one, among, is) = any_contains (reads row.stamp) jobs read in
    both_ways (are_reading (jobs ++ job ∷ []) row.stamp) parts.1
    (contains_any (reads row.stamp) (jobs ++ job ∷ []) one (Contains-append_left jobs (job ∷ []) one among) is)))

-- ---- paths that are clear of them

pub loan_clear : (next : ℕ) (rows : List Row) (work : WorkState) (loan : List (List ℕ)) → IsWork next rows work → Contains (loans work.jobs) loan →
    IsClear rows work.jobs loan
loan_clear next rows work loan rules lent =
    λ row among home.
    let (job, within, named) = among_named loans_of work.jobs loan lent in
    let parts = home_parts work.jobs row home in
    overlap-sym row.path loan false
    (false_from_ne_true (overlap row.path loan)
    (λ meet.
    let own = disk_own_loan next rows work row job loan rules among (or_left row.stands (is_dirty work.dirty row.path) parts.0) within named meet in
    both_ways (are_reading work.jobs row.stamp) parts.1 (job_reads work.jobs job own.part row.stamp within own.lent own.stamp)))

pub debris_clear : (next : ℕ) (rows : List Row) (work : WorkState) (debris : Debris) → IsWork next rows work → Contains work.debris debris →
    IsClear rows work.jobs debris.path
debris_clear next rows work debris rules also =
    λ row among home.
    overlap-sym row.path debris.path false
    (disk_no_debris next rows work row debris rules among (or_left row.stands (is_dirty work.dirty row.path) (home_parts work.jobs row home).0) also)

pub away_clear : (rows : List Row) (jobs : List Job) (row : Row) → are_apart rows ≡ true → Contains rows row → is_home jobs row ≡ false →
    IsClear rows jobs row.path
away_clear rows jobs row apart among away =
    λ other also home. false_from_ne_true (overlap row.path other.path)
    (λ meet. both_ways (is_home jobs other) (ap (is_home jobs) (sym (apart_same rows row other apart among also meet)) ∙ away) home)

pub begin_clear : (rows : List Row) (jobs : List Job) (job : Job) (place : List (List ℕ)) → IsClear rows jobs place → IsClear rows (jobs ++ job ∷ []) place
begin_clear rows jobs job place clear = λ row among home. clear row among (home_before jobs job row home)

-- ---- trees on the disk

pub tree_stays : (place : List (List ℕ)) (nodes : List Flat) (old new : Part) (before after : Paths) → IsSameBelow place old before new after →
    IsTreeAt place nodes old before → IsTreeAt place nodes new after
tree_stays place nodes old new before after same at = record {
  tree = λ rel. ap (option_map declared_by) (same.node (place ++ rel) (prefix-append place rel)) ∙ at.tree rel;
  settled = λ path under. same.rough path under ∙ at.settled path under;
}

pub tree_given : (given : List (List ℕ)) (nodes : List Flat) (inner content : Part) (its rough : Paths) → IsBareBelow given content rough →
    HasTree inner nodes → ((path : List (List ℕ)) → is_prefix given path ≡ true → its path ≡ false) →
    IsTreeAt given nodes (replaced given inner content) (paths_of_both rough (paths_below given its))
tree_given given nodes inner content its rough bare tree none =
    let at = give_brings given inner content its rough bare in
    record {
      tree = λ rel. ap (option_map declared_by) (at.node rel) ∙ tree rel;
      settled = λ path under. at.rough path under ∙ none path under;
    }

-- ---- takes and gives

pub take_tied : (spoken : ℕ → Bool) (rows : List Row) (jobs : List Job) (taken : List (List ℕ)) (content : Part) (rough : Paths) →
    AreTied spoken rows jobs content rough → IsClear rows jobs taken → AreTied spoken rows jobs (without taken content) (paths_outside taken rough)
take_tied spoken rows jobs taken content rough tied clear =
    λ row among home said.
    tree_stays row.path row.tree content (without taken content) rough (paths_outside taken rough)
    (take_aside taken row.path content rough (clear row among home)) (tied row among home said)

pub give_tied : (spoken : ℕ → Bool) (rows : List Row) (jobs : List Job) (given : List (List ℕ)) (inner content : Part) (its rough : Paths) →
    AreTied spoken rows jobs content rough → IsClear rows jobs given →
    AreTied spoken rows jobs (replaced given inner content) (paths_of_both rough (paths_below given its))
give_tied spoken rows jobs given inner content its rough tied clear =
    λ row among home said.
    tree_stays row.path row.tree content (replaced given inner content) rough (paths_of_both rough (paths_below given its))
    (give_aside given row.path inner content its rough (clear row among home)) (tied row among home said)

-- ---- rows and jobs that change

-- a tree at the path of a row is that of one with the same path and tree
pub tree_moves : (place there : List (List ℕ)) (nodes others : List Flat) (content : Part) (rough : Paths) → place ≡ there → nodes ≡ others →
    IsTreeAt there others content rough → IsTreeAt place nodes content rough
tree_moves place there nodes others content rough path tree at =
    subst (λ (p : List (List ℕ)). IsTreeAt p nodes content rough) (sym path)
    (subst (λ (t : List Flat). IsTreeAt there t content rough) (sym tree) at)

pub rows_tied : (spoken : ℕ → Bool) (rows left : List Row) (jobs later : List Job) (content : Part) (rough : Paths) →
    AreTied spoken rows jobs content rough →
    ((row : Row) → Contains left row → is_home later row ≡ true → spoken row.stamp ≡ true → WasHome rows jobs row ⊎ IsTreeAt row.path row.tree content rough) →
    AreTied spoken left later content rough
rows_tied spoken rows left jobs later content rough tied each =
    λ row among home said. elim (each row among home said) [
      | inl was ↦
          tree_moves row.path was.old.path row.tree was.old.tree content rough was.same.path was.same.tree
          (tied was.old was.among was.home (ap spoken (sym was.same.stamp) ∙ said))
      | inr at ↦ at
    ]

pub begin_tied : (spoken : ℕ → Bool) (rows : List Row) (jobs : List Job) (job : Job) (content : Part) (rough : Paths) →
    AreTied spoken rows jobs content rough → AreTied spoken rows (jobs ++ job ∷ []) content rough
begin_tied spoken rows jobs job content rough tied = λ row among home said. tied row among (home_before jobs job row home) said

pub end_tied : (spoken : ℕ → Bool) (next number : ℕ) (rows left : List Row) (work : WorkState) (job : Job) (content : Part) (rough : Paths) →
    IsWork next rows work → running number work ≡ Some job → AreTied spoken rows work.jobs content rough →
    ((row : Row) → Contains left row → IsLeftBy rows job row) →
    ((row : Row) → Contains left row → job.task ≡ task.Make row.path row.stamp → row.stands ≡ true → spoken row.stamp ≡ true →
    IsTreeAt row.path row.tree content rough) →
    ((row : Row) (part : Lent) → Contains left row → job.lent ≡ Some part → part.stamp ≡ row.stamp → spoken row.stamp ≡ true →
    IsTreeAt part.path part.tree content rough) →
    AreTied spoken left (filter (is_other_job number) work.jobs) content rough
end_tied spoken next number rows left work job content rough rules runs tied each made back =
    λ row among home said. by row among said (home_parts (filter (is_other_job number) work.jobs) row home) (each row among)
  where
    run : IsRunning number work.jobs job
    run = is_running number work.jobs job runs

    Unread : Row → Type 0
    Unread row = (row.stands ≡ true) × (are_reading (filter (is_other_job number) work.jobs) row.stamp ≡ false)

    -- the job reads a row that no other job reads, though one does
    reader : (row : Row) → Unread row → (one : Job) → Contains work.jobs one → reads row.stamp one ≡ true → one ≡ job
    reader row unread one within read =
        same_job work.jobs one job rules.numbers within run.among
        (elim (is_job number one) as (λ b. is_job number one ≡ b → one.number ≡ job.number) [
          | true ↦ λ is. eqb-true one.number number is ∙ sym run.numbered
          | false ↦ λ other.
              absurd (both_ways (are_reading (filter (is_other_job number) work.jobs) row.stamp) unread.1
              (contains_any (reads row.stamp) (filter (is_other_job number) work.jobs) one
              (contains_filter (is_other_job number) work.jobs one (ap not other) within) read))
        ] refl)

    -- the part that the job read comes back to its row
    returns : (row : Row) → Contains left row → spoken row.stamp ≡ true → (left_by : IsLeftBy rows job row) → (o : Option Lent) → job.lent ≡ o →
        option_map_or (reads_stamp row.stamp) o false ≡ true → IsTreeAt row.path row.tree content rough
    returns row among said left_by None is read = absurd cc
    returns row among said left_by (Some part) is read =
        let stamp : part.stamp ≡ row.stamp = eqb-true part.stamp row.stamp read in
        let from = subst (IsLentBy rows) is (rules.jobs job run.among).lent left_by.old left_by.among (sym left_by.same.stamp ∙ sym stamp) in
        tree_moves row.path part.path row.tree part.tree content rough (left_by.same.path ∙ from.path) (left_by.same.tree ∙ from.tree)
        (back row part among is stamp said)

    stood : (row : Row) → Contains left row → spoken row.stamp ≡ true → Unread row → (left_by : IsLeftBy rows job row) → row.stands ≡ left_by.old.stands →
        IsTreeAt row.path row.tree content rough
    stood row among said unread left_by same =
        elim (are_reading work.jobs row.stamp) as (λ b. are_reading work.jobs row.stamp ≡ b → IsTreeAt row.path row.tree content rough) [
          | true ↦ λ read.
              let (one, within, is) = any_contains (reads row.stamp) work.jobs read in
              let mine = reader row unread one within is in
              returns row among said left_by job.lent refl (subst (λ (j : Job). reads row.stamp j ≡ true) mine is)
          | false ↦ λ none.
              tree_moves row.path left_by.old.path row.tree left_by.old.tree content rough left_by.same.path left_by.same.tree
              (tied left_by.old left_by.among
              (home_from work.jobs left_by.old (sym same ∙ unread.0) (ap (are_reading work.jobs) (sym left_by.same.stamp) ∙ none))
              (ap spoken (sym left_by.same.stamp) ∙ said))
        ] refl

    by : (row : Row) → Contains left row → spoken row.stamp ≡ true → Unread row → IsLeftBy rows job row → IsTreeAt row.path row.tree content rough
    by row among said unread left_by =
        elim left_by.stands [
          | inl same ↦ stood row among said unread left_by same
          | inr makes ↦ made row among makes unread.0 said
        ]

pub fewer_spoken : (spoken still : ℕ → Bool) (rows : List Row) (jobs : List Job) (content : Part) (rough : Paths) →
    ((stamp : ℕ) → still stamp ≡ true → spoken stamp ≡ true) → AreTied spoken rows jobs content rough → AreTied still rows jobs content rough
fewer_spoken spoken still rows jobs content rough less tied = λ row among home said. tied row among home (less row.stamp said)
