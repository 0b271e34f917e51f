-- A row that stands may be kept, and what a crash leaves of rows that are kept.
use Rattle.std.proofs.Common.{◌≡◌, ℕ, Bool, true, false, inl, inr, List, [], ◌++◌, Option, Some, None, refl, sym, ap, subst, ◌∙◌, map, Contains}
use Rattle.std.specs.List.{filter, list_any}
use Rattle.std.specs.Option.{is_some, option_map, option_map_or}
use Rattle.std.proofs.lemmas.Bool.{both_ways, eqb-true, false_from_ne_true, or_cases, or_left, or_parts}
use Rattle.std.proofs.lemmas.List.Elements.{Contains-append_cases}
use Rattle.mat_path.specs.Names.{is_prefix, overlap}
use Rattle.mat_path.proofs.CoveringLemmas.{covered_by}
use Rattle.mat_path.proofs.CoveringRows.{among_rows}
use Rattle.mat_path.proofs.Elements.{each_fails, mapped_contains}
use Rattle.mat_path.proofs.Overlaps.{apart_below, overlap-refl, overlap-sym, overlap_of_prefixes}
use Rattle.mat_path.proofs.PathLemmas.{prefix-append}
use Rattle.mat_tree.specs.declared.flat.Flat.{Flat}
use Rattle.mat_tree.specs.Parts.{HasTree, Node, Part, below, declared_by}
use Rattle.mat_model.specs.declared.book.Row.{Row}
use Rattle.mat_model.specs.Kept.{KeptRow}
use Rattle.mat_model.specs.Openings.{path_of_row}
use Rattle.mat_model.specs.WorkState.{Job, Lent, WorkState, has_loan, is_above, is_dirty, is_lent, lends_at, path_of_debris, path_of_task}
use Rattle.model_laws.specs.StoredRules.{IsStored, IsStoredOf, path_of_job}
use Rattle.model_laws.specs.WorkRules.{IsLentBy, IsWork, are_reading, is_on_disk, loans, loans_of, reads, reads_stamp}
use Rattle.model_laws.proofs.BooksLists.{any_contains}
use Rattle.model_laws.proofs.BooksRows.{apart_same}
use Rattle.model_laws.proofs.ClaimLemmas.{disk_no_debris, part_loan}
use Rattle.model_laws.proofs.Coverings.{named_among}
use Rattle.model_laws.proofs.StoredLemmas.{stored_no_task}
use Rattle.model_laws.proofs.WorkBase.{lying_row}
use Rattle.region_port.specs.Calls.{Paths}
use Rattle.core_laws.specs.Covered.{IsCovered, IsRoughCovered, node_places, rough_places}
use Rattle.core_laws.specs.Loans.{AreLoans}
use Rattle.core_laws.specs.Tied.{AreTied, is_home}
use Rattle.core_laws.specs.Whole.{HaveLentTrees, IsImage, IsSpared, IsOutsideParts, IsWhole, IsWholeRow, Regions}
use Rattle.core_laws.proofs.LoanLemmas.{free_path}
use Rattle.core_laws.proofs.TiedLemmas.{home_from}
use Rattle.core_laws.proofs.WholeLemmas.{above_meets, not_above}

-- ---- a row that stands

-- debris is apart from it
loose_apart : (next : ℕ) (rows : List Row) (work : WorkState) (row : Row) (c : List (List ℕ)) → IsWork next rows work → Contains rows row →
    row.stands ≡ true → Contains (map path_of_debris work.debris) c → overlap c row.path ≡ false
loose_apart next rows work row c rules among stands loose =
    let (debris, within, named) = mapped_contains path_of_debris work.debris c loose in
    overlap-sym row.path c false
    (subst (λ (p : List (List ℕ)). overlap row.path p ≡ false) named
    (disk_no_debris next rows work row debris rules among (or_left row.stands (is_dirty work.dirty row.path) stands) within))

-- the one place of nodes that it overlaps is its own
own_place : (next : ℕ) (rows : List Row) (work : WorkState) (row : Row) (c : List (List ℕ)) → IsWork next rows work → Contains rows row →
    row.stands ≡ true → Contains (node_places rows work) c → overlap c row.path ≡ true → row.path ≡ c
own_place next rows work row c rules among stands place meet =
    elim (Contains-append_cases (map path_of_row (filter (is_on_disk work) rows)) (map path_of_debris work.debris) c place) [
      | inl mine ↦
          let (one, within, on, named) = among_rows path_of_row (is_on_disk work) rows c mine in
          sym (ap path_of_row (apart_same rows one row rules.apart within among
          (subst (λ (p : List (List ℕ)). overlap p row.path ≡ true) (sym named) meet))) ∙ named
      | inr loose ↦ absurd (both_ways (overlap c row.path) (loose_apart next rows work row c rules among stands loose) meet)
    ]

-- and no place of rough paths overlaps it
rough_apart : (next : ℕ) (rows : List Row) (work : WorkState) (row : Row) (c : List (List ℕ)) → IsWork next rows work → Contains rows row →
    row.stands ≡ true → Contains (rough_places work) c → overlap c row.path ≡ false
rough_apart next rows work row c rules among stands place =
    elim (Contains-append_cases work.dirty (map path_of_debris work.debris) c place) [
      | inl dirty ↦
          let (one, within, at, lies) = lying_row rows c (rules.dirty c dirty) in
          false_from_ne_true (overlap c row.path)
          (λ meet.
          both_ways row.stands
          (ap (λ (r : Row). r.stands) (sym (apart_same rows one row rules.apart within among
          (subst (λ (p : List (List ℕ)). overlap p row.path ≡ true) (sym at) meet))) ∙ lies) stands)
      | inr loose ↦ loose_apart next rows work row c rules among stands loose
    ]

-- a job that reads it has a loan at its path
read_lent : (next : ℕ) (rows : List Row) (work : WorkState) (lent : List (List (List ℕ))) (row : Row) (job : Job) → IsWork next rows work →
    AreLoans work.jobs lent → Contains rows row → Contains work.jobs job → reads row.stamp job ≡ true → Contains lent row.path
read_lent next rows work lent row job rules are among within is = by job.lent refl is
  where
    by : (o : Option Lent) → job.lent ≡ o → option_map_or (reads_stamp row.stamp) o false ≡ true → Contains lent row.path
    by None has read = absurd cc
    by (Some part) has read =
        let from = subst (IsLentBy rows) has (rules.jobs job within).lent row among (sym (eqb-true part.stamp row.stamp read)) in
        are.out row.path
        (subst (λ (p : List (List ℕ)). Contains (loans work.jobs) p) (sym from.path)
        (named_among loans_of work.jobs job part.path within (part_loan job part has)))

pub standing_whole : (spoken : ℕ → Bool) (next : ℕ) (rows : List Row) (work : WorkState) (lent : List (List (List ℕ))) (content : Part) (rough : Paths)
    (row : Row) (one : KeptRow) → IsWork next rows work → AreLoans work.jobs lent → AreTied spoken rows work.jobs content rough →
    IsCovered rows work content → IsRoughCovered work rough → Contains rows row → row.stands ≡ true → spoken row.stamp ≡ true →
    IsStoredOf one row.path row.tree → IsWholeRow lent content rough one
standing_whole spoken next rows work lent content rough row one rules are tied covered rough_covered among stands said at = record {
  settled = λ path meet.
      settled path (subst (λ (p : List (List ℕ)). overlap path p ≡ true) at.path meet);
  top = λ path above.
      top path (content path) refl (subst (λ (p : List (List ℕ)). is_above path p ≡ true) at.path above);
  tree = λ clear.
      subst (λ (p : List (List ℕ)). HasTree (below p content) one.tree) (sym at.path)
      (subst (λ (t : List Flat). HasTree (below row.path content) t) (sym at.tree)
      (tied row among (home (subst (λ (p : List (List ℕ)). list_any (overlap p) lent ≡ false) at.path clear)) said).tree);
}
  where
    settled : (path : List (List ℕ)) → overlap path row.path ≡ true → rough path ≡ false
    settled path meet =
        false_from_ne_true (rough path)
        (λ is.
        let (c, place, over) = covered_by path (rough_places work) (rough_covered path is) in
        both_ways (overlap path row.path)
        (apart_below c row.path path (rough_apart next rows work row c rules among stands place) over) meet)

    top : (path : List (List ℕ)) (o : Option Node) → content path ≡ o → is_above path row.path ≡ true → o ≡ None
    top path None is above = refl
    top path (Some node) is above =
        let (c, place, over) = covered_by path (node_places rows work) (covered path (ap is_some is)) in
        let own = own_place next rows work row c rules among stands place (above_meets c path row.path over above) in
        absurd (both_ways (is_above path row.path)
        (not_above path row.path (subst (λ (p : List (List ℕ)). is_prefix p path ≡ true) (sym own) over)) above)

    home : list_any (overlap row.path) lent ≡ false → is_home work.jobs row ≡ true
    home clear =
        home_from work.jobs row stands
        (false_from_ne_true (are_reading work.jobs row.stamp)
        (λ read.
        let (job, within, is) = any_contains (reads row.stamp) work.jobs read in
        both_ways (overlap row.path row.path)
        (each_fails (overlap row.path) lent row.path clear (read_lent next rows work lent row job rules are among within is)) (overlap-refl row.path)))

-- ---- images

-- a crash spares a path that only what overlaps a kept row's path is at or above
near_spared : (rows : List Row) (jobs : List Job) (lent : List (List (List ℕ))) (kept : List KeptRow) (content : Part) (rough : Paths) (one : KeptRow)
    (path : List (List ℕ)) → IsStored rows jobs kept → Contains kept one → IsWholeRow lent content rough one →
    ((over : List (List ℕ)) → is_prefix over path ≡ true → overlap over one.path ≡ true) → IsSpared jobs rough path
near_spared rows jobs lent kept content rough one path stored among whole near = record {
  settled = λ over at. whole.settled over (near over at);
  free = λ job within.
      false_from_ne_true (is_prefix (path_of_job job) path)
      (λ at. both_ways (overlap one.path (path_of_job job)) (stored_no_task rows jobs kept one job stored among within)
      (overlap-sym (path_of_job job) one.path true (near (path_of_job job) at)));
}

pub image_whole : (rows : List Row) (jobs : List Job) (lent : List (List (List ℕ))) (kept : List KeptRow) (regions : Regions) (content image : Part)
    (rough after : Paths) → IsStored rows jobs kept → AreLoans jobs lent → HaveLentTrees jobs regions → IsWhole lent kept content rough →
    IsImage jobs regions content rough image after → IsWhole [] kept image after
image_whole rows jobs lent kept regions content image rough after stored are trees whole left =
    λ one among. record {
      settled = λ path meet. left.settled path;
      top = λ path above. left.disk path (spared_above one among path above) (unread_above one among path above) ∙ (whole one among).top path above;
      tree = λ clear. tree one among (is_lent one.path jobs) refl;
    }
  where
    spared_above : (one : KeptRow) → Contains kept one → (path : List (List ℕ)) → is_above path one.path ≡ true → IsSpared jobs rough path
    spared_above one among path above =
        near_spared rows jobs lent kept content rough one path stored among (whole one among) (λ over at. above_meets over path one.path at above)

    unread_above : (one : KeptRow) → Contains kept one → (path : List (List ℕ)) → is_above path one.path ≡ true → IsOutsideParts jobs path
    unread_above one among path above =
        λ job part within is.
        false_from_ne_true (is_prefix part.path path)
        (λ at.
        let same = stored.lent one job part among within is (overlap-sym part.path one.path true (above_meets part.path path one.path at above)) in
        both_ways (is_above path one.path)
        (not_above path one.path (subst (λ (p : List (List ℕ)). is_prefix p path ≡ true) (sym same.path) at)) above)

    spared_below : (one : KeptRow) → Contains kept one → (rel : List (List ℕ)) → IsSpared jobs rough (one.path ++ rel)
    spared_below one among rel =
        near_spared rows jobs lent kept content rough one (one.path ++ rel) stored among (whole one among)
        (λ over at. overlap_of_prefixes over one.path (one.path ++ rel) at (prefix-append one.path rel))

    unread_below : (one : KeptRow) → is_lent one.path jobs ≡ false → (rel : List (List ℕ)) → IsOutsideParts jobs (one.path ++ rel)
    unread_below one free rel =
        λ job part within is.
        let parts = or_parts (overlap (path_of_task job.task) one.path) (option_map_or (lends_at one.path) job.lent false)
        (each_fails (has_loan one.path) jobs job free within) in
        let apart : overlap part.path one.path ≡ false = subst (λ (o : Option Lent). option_map_or (lends_at one.path) o false ≡ false) is parts.1 in
        false_from_ne_true (is_prefix part.path (one.path ++ rel))
        (λ at. both_ways (overlap part.path one.path) apart
        (overlap_of_prefixes part.path one.path (one.path ++ rel) at (prefix-append one.path rel)))

    -- a kept row that a job's part overlaps is this part
    back : (one : KeptRow) → Contains kept one → (job : Job) → Contains jobs job → (o : Option Lent) → job.lent ≡ o →
        option_map_or (lends_at one.path) o false ≡ true → HasTree (below one.path image) one.tree
    back one among job within None is meet = absurd cc
    back one among job within (Some part) is meet =
        let same = stored.lent one job part among within is (overlap-sym part.path one.path true meet) in
        subst (λ (t : List Flat). HasTree (below one.path image) t) (sym same.tree)
        (λ rel.
        ap (option_map declared_by)
        (subst (λ (p : List (List ℕ)). image (p ++ rel) ≡ regions part.path rel) (sym same.path)
        (left.lent job part rel within is (subst (λ (p : List (List ℕ)). IsSpared jobs rough (p ++ rel)) same.path (spared_below one among rel))))
        ∙ trees job part within is rel)

    tree : (one : KeptRow) → Contains kept one → (b : Bool) → is_lent one.path jobs ≡ b → HasTree (below one.path image) one.tree
    tree one among false free =
        λ rel.
        ap (option_map declared_by) (left.disk (one.path ++ rel) (spared_below one among rel) (unread_below one free rel))
        ∙ (whole one among).tree (free_path jobs lent one.path are free) rel
    tree one among true meets =
        let (job, within, has) = any_contains (has_loan one.path) jobs meets in
        elim (or_cases (overlap (path_of_task job.task) one.path) (option_map_or (lends_at one.path) job.lent false) has) [
          | inl task ↦
              absurd (both_ways (overlap one.path (path_of_job job)) (stored_no_task rows jobs kept one job stored among within)
              (overlap-sym (path_of_job job) one.path true task))
          | inr part ↦ back one among job within job.lent refl part
        ]
