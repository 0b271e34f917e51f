-- An opening beside a disk that was looked at: what is lost of the kept rows, and what is found.
use Rattle.std.proofs.Common.{◌≡◌, ◌+◌, ◌&&◌, ◌||◌, ℕ, Bool, true, false, not, cond, List, [], ◌∷◌, ◌++◌, map, filter, length, Option, None, Some, Result, Ok, Err, IfErr, is_some, refl, sym, ap, ap₂, subst, ◌∙◌, inl, inr, arith, suc}
use Rattle.std.proofs.lemmas.Bool.{and_from, and_parts}
use Rattle.std.proofs.lemmas.List.Folds.{list_any-append}
use Rattle.std.specs.List.{Contains, list_all, list_any}
use Rattle.std.specs.Option.{option_map}
use Rattle.mat_io.specs.Causes.{HasCause}
use Rattle.mat_path.specs.Covering.{covering}
use Rattle.mat_path.specs.Names.{overlap}
use Rattle.mat_path.proofs.CoveringLemmas.{covering-append}
use Rattle.mat_path.proofs.CoveringRows.{covering_rows-split}
use Rattle.mat_path.proofs.Elements.{contains_cases, contains_first, contains_more, filtered_contains}
use Rattle.mat_tree.specs.Parts.{Part, declared_by}
use Rattle.mat_tree.specs.Trees.{ascends_by}
use Rattle.mat_tree.specs.declared.flat.Flat.{Flat}
use Rattle.mat_model.specs.declared.book.Row.{Row}
use Rattle.mat_model.specs.declared.opening.Opening.{Opening}
use Rattle.mat_model.specs.Kept.{KeptRow}
use Rattle.mat_model.specs.Openings.{found_row, found_rows, is_found, is_lost, itself, opening_rows, path_of_row}
use Rattle.model_laws.specs.KeptRules.{path_of_kept}
use Rattle.model_laws.proofs.KeptOrder.{all_filtered, ascends_filtered}
use Rattle.region_port.specs.Calls.{Paths}
use Rattle.region_port.specs.Strays.{AreFound, AreTold, candidates}
use Rattle.restart_scan.specs.Faults.{IsLookWhy, IsPartNote, disk_failed}
use Rattle.restart_scan.specs.Looks.{HasStill, TellsTreeAt}
use Rattle.restart_scan.specs.Opened.{AreKept, AreReady, IsMadeOf, IsOf, are_kept_apart, is_kept_before, is_kept_placed, old_paths}
use Rattle.restart_scan.specs.Scans.{HasStrays, IsDiskWhy, NotesDisk, count_of, known_paths}
use Rattle.restart_scan.specs.Sorting.{AreChecked, AreLooked, AreLost, AreSettled, IsChecked}
use Rattle.restart_scan.specs.declared.refusal.ScanRefusal.{ScanRefusal}
use Rattle.restart_scan.specs.declared.refusal.ScanRefusal.TheVariants as refusal
use Rattle.restart_scan.proofs.Found.{apart_ascends, found_length, found_paths, named_ascend, paths_ascend}

-- ---- rows that are found

-- of rows that are apart those that a test finds are apart
pub apart_filtered : (test : KeptRow → Bool) (kept : List KeptRow) → are_kept_apart kept ≡ true → are_kept_apart (filter test kept) ≡ true
apart_filtered test [] apart = refl
apart_filtered test (row ∷ rest) apart =
    let parts = and_parts (list_all (is_kept_before row) rest) (are_kept_apart rest) apart in
    by (test row) (all_filtered (is_kept_before row) test rest parts.0) (apart_filtered test rest parts.1)
  where
    by : (b : Bool) → list_all (is_kept_before row) (filter test rest) ≡ true → are_kept_apart (filter test rest) ≡ true →
        are_kept_apart (cond b (row ∷ filter test rest) (filter test rest)) ≡ true
    by true all more = and_from (list_all (is_kept_before row) (filter test rest)) (are_kept_apart (filter test rest)) all more
    by false all more = more

-- those that are found, those that are lost, and the strays may make an opening
pub ready_beside : (content : Option Part) (kept found : List KeptRow) (lost astray : List (List (List ℕ))) → AreKept kept →
    found ≡ filter (is_found lost) kept → lost ≡ map path_of_kept (filter (is_lost lost) kept) → AreFound (map path_of_kept kept) content astray →
    AreReady found lost astray
ready_beside content kept found lost astray ready is order strays = record {
  kept = subst AreKept (sym is) (record {
    apart = apart_filtered (is_found lost) kept ready.apart;
    placed = all_filtered is_kept_placed (is_found lost) kept ready.placed;
  });
  lost = subst (λ (l : List (List (List ℕ))). ascends_by itself l ≡ true) (sym order)
      (named_ascend (filter (is_lost lost) kept) ∙ ascends_filtered path_of_kept (is_lost lost) kept (apart_ascends kept ready.apart));
  strays = paths_ascend astray strays.ordered;
  free = λ path. omega (
    arith,
    strays.apart path,
    covering-append path astray (map path_of_kept kept),
    covering_rows-split path_of_kept (is_lost lost) (is_found lost) (λ one. refl) path kept,
    covering-append path astray (lost ++ map path_of_kept found),
    covering-append path lost (map path_of_kept found),
    covering-append path (astray ++ lost) (map path_of_kept found),
    covering-append path astray lost,
    ap (covering path) order,
    ap (λ (rows : List KeptRow). covering path (map path_of_kept rows)) is,
  );
}

-- an opening of those that are found is one of the kept rows
pub of_beside : (kept found : List KeptRow) (lost astray : List (List (List ℕ))) (opening : Opening) → found ≡ filter (is_found lost) kept →
    IsMadeOf found lost astray opening → IsOf kept opening
of_beside kept found lost astray opening is made = record {
  rows = made.rows ∙ ap (found_rows 0) is ∙ ap (λ (l : List (List (List ℕ))). opening_rows l kept) (sym made.lost);
  version1 = made.version1 ∙ ap old_paths is ∙ ap (λ (l : List (List (List ℕ))). old_paths (filter (is_found l) kept)) (sym made.lost);
}

-- those that are lost and those that are found are all
split_length : {X : Type 0} (test : X → Bool) (xs : List X) → length (filter (λ (x : X). not (test x)) xs) + length (filter test xs) ≡ length xs
split_length test [] = refl
split_length {X} test (x ∷ xs) = by (test x) (split_length test xs)
  where
    rest : List X
    rest = filter (λ (y : X). not (test y)) xs

    by : (b : Bool) → length rest + length (filter test xs) ≡ length xs →
        length (cond (not b) (x ∷ rest) rest) + length (cond b (x ∷ filter test xs) (filter test xs)) ≡ suc (length xs)
    by true h = omega (arith, h)
    by false h = omega (arith, h)

mapped_length : (kept : List KeptRow) → length (map path_of_kept kept) ≡ length kept
mapped_length [] = refl
mapped_length (row ∷ rest) = ap suc (mapped_length rest)

pub count_beside : (kept found : List KeptRow) (lost astray : List (List (List ℕ))) (opening : Opening) → found ≡ filter (is_found lost) kept →
    lost ≡ map path_of_kept (filter (is_lost lost) kept) → IsMadeOf found lost astray opening → count_of opening ≡ length kept
count_beside kept found lost astray opening is order made =
    omega (
      arith,
      ap length made.rows,
      ap length made.lost,
      found_length 0 found,
      ap length is,
      ap length order,
      mapped_length (filter (is_lost lost) kept),
      split_length (is_lost lost) kept,
    )

-- ---- strays

-- some path passes among those found and those lost where one does among all
any_split : (test : List (List ℕ) → Bool) (lost : List (List (List ℕ))) (kept : List KeptRow) →
    (list_any test (map path_of_kept (filter (is_found lost) kept)) || list_any test (map path_of_kept (filter (is_lost lost) kept)))
    ≡ list_any test (map path_of_kept kept)
any_split test lost [] = refl
any_split test lost (row ∷ rest) = by (is_lost lost row) (test row.path) (any_split test lost rest)
  where
    f : List KeptRow
    f = filter (is_found lost) rest

    l : List KeptRow
    l = filter (is_lost lost) rest

    middle : (a b c : Bool) → (a || (b || c)) ≡ (b || (a || c))
    middle true true c = refl
    middle true false c = refl
    middle false b c = refl

    left : (a b c : Bool) → ((b || a) || c) ≡ (b || (a || c))
    left a true c = refl
    left a false c = refl

    by : (b t : Bool) → (list_any test (map path_of_kept f) || list_any test (map path_of_kept l)) ≡ list_any test (map path_of_kept rest) →
        (list_any test (map path_of_kept (cond (not b) (row ∷ f) f)) || list_any test (map path_of_kept (cond b (row ∷ l) l)))
        ≡ (test row.path || list_any test (map path_of_kept rest))
    by true t h =
        middle (list_any test (map path_of_kept f)) (test row.path) (list_any test (map path_of_kept l)) ∙ ap (λ (c : Bool). test row.path || c) h
    by false t h =
        left (list_any test (map path_of_kept f)) (test row.path) (list_any test (map path_of_kept l)) ∙ ap (λ (c : Bool). test row.path || c) h

-- strays past the same paths are the same
told_alike : (known others : List (List (List ℕ))) (content : Option Part) (found : List (List (List ℕ))) →
    ((path : List (List ℕ)) → list_any (overlap path) known ≡ list_any (overlap path) others) → AreTold known content found → AreTold others content found
told_alike known others None found same told = tt
told_alike known others (Some content) found same told = record {
  only = λ path among.
      let top = told.only path among in record {
        within = sym (set_same path) ∙ top.within;
        alone = λ above strictly. sym (set_same above) ∙ top.alone above strictly;
      };
  all = λ path top. told.all path (record {
    within = set_same path ∙ top.within;
    alone = λ above strictly. set_same above ∙ top.alone above strictly;
  });
}
  where
    set_same : (path : List (List ℕ)) → candidates known content path ≡ candidates others content path
    set_same path = ap (λ (b : Bool). is_some (content path) && not b) (same path)

-- the strays past the paths of kept rows are those past the opening's
pub strays_beside : (content : Option Part) (kept found : List KeptRow) (lost astray : List (List (List ℕ))) (opening : Opening) →
    found ≡ filter (is_found lost) kept → lost ≡ map path_of_kept (filter (is_lost lost) kept) → IsMadeOf found lost astray opening →
    AreFound (map path_of_kept kept) content astray → HasStrays content opening
strays_beside content kept found lost astray opening is order made strays =
    subst (λ (s : List (List (List ℕ))). AreTold (known_paths opening) content s) (sym made.strays)
    (told_alike (map path_of_kept kept) (known_paths opening) content astray same strays.told)
  where
    split : known_paths opening ≡ map path_of_kept (filter (is_found lost) kept) ++ map path_of_kept (filter (is_lost lost) kept)
    split =
        ap₂ (λ (p q : List (List (List ℕ))). p ++ q)
        (ap (map path_of_row) made.rows ∙ found_paths 0 found ∙ ap (map path_of_kept) is)
        (made.lost ∙ order)

    same : (path : List (List ℕ)) → list_any (overlap path) (map path_of_kept kept) ≡ list_any (overlap path) (known_paths opening)
    same path =
        sym (any_split (overlap path) lost kept)
        ∙ sym (list_any-append (overlap path) (map path_of_kept (filter (is_found lost) kept)) (map path_of_kept (filter (is_lost lost) kept)))
        ∙ ap (list_any (overlap path)) (sym split)

-- ---- where nothing is lost

none_lost : (kept : List KeptRow) → filter (is_lost []) kept ≡ []
none_lost [] = refl
none_lost (row ∷ rest) = none_lost rest

all_found : (kept : List KeptRow) → filter (is_found []) kept ≡ kept
all_found [] = refl
all_found (row ∷ rest) = ap (λ (l : List KeptRow). row ∷ l) (all_found rest)

pub plain_strays : (kept : List KeptRow) (content : Option Part) (opening : Opening) → IsMadeOf kept [] opening.strays opening →
    AreFound (map path_of_kept kept) content opening.strays → HasStrays content opening
plain_strays kept content opening made found =
    strays_beside content kept kept [] opening.strays opening (sym (all_found kept)) (ap (map path_of_kept) (sym (none_lost kept))) made found

-- ---- rows that were looked at

-- a row of an opening is one of those that were found
pub found_from : (stamp : ℕ) (found : List KeptRow) (row : Row) → Contains (found_rows stamp found) row →
    (one : KeptRow) × Contains found one × ((k : ℕ) × (found_row k one ≡ row))
found_from stamp [] row among = absurd (nothing among)
  where
    nothing : Contains (found_rows stamp []) row → ⊥
    nothing (k, within, at) = absurd (omega arith)
found_from stamp (first ∷ rest) row among =
    elim (contains_cases (found_row stamp first) (found_rows (stamp + 1) rest) row among) [
      | inl same ↦ (first, contains_first first rest, (stamp, same))
      | inr there ↦
          let (one, within, (k, is)) = found_from (stamp + 1) rest row there in
          (one, contains_more first rest one within, (k, is))
    ]

-- what a look told of a disk holds of one that has the same
pub told_after : (place : List (List ℕ)) (nodes : List Flat) (before now : Option Part) → HasStill before now → TellsTreeAt place nodes before true →
    TellsTreeAt place nodes now true
told_after place nodes None None still tells = tt
told_after place nodes None (Some y) still tells = absurd (none_is still)
  where
    none_is : ◌≡◌ {A = Option Part} (Some y) None → ⊥
    none_is e = cc
told_after place nodes (Some x) None still tells = absurd still
told_after place nodes (Some x) (Some y) still tells = λ rel. ap (option_map declared_by) (still (place ++ rel)) ∙ tells rel

pub checked_beside : (before now : Option Part) (rough : Paths) (kept found : List KeptRow) (lost astray : List (List (List ℕ))) (opening : Opening) →
    HasStill before now → found ≡ filter (is_found lost) kept → AreLooked before kept lost → AreSettled kept rough →
    IsMadeOf found lost astray opening → AreChecked now rough opening
checked_beside before now rough kept found lost astray opening still is looked settled made = λ row among.
    let (one, within, (k, same)) = found_from 0 found row (subst (λ (rows : List Row). Contains rows row) made.rows among) in
    let parts = filtered_contains (is_found lost) kept one (subst (λ (rows : List KeptRow). Contains rows one) is within) in
    subst (IsChecked now rough) same (record {
      tree = told_after one.path one.tree before now still
          (subst (λ (b : Bool). TellsTreeAt one.path one.tree before b) parts.1 (looked one parts.0));
      settled = settled one parts.0;
    })

pub lost_beside : (content : Option Part) (kept found : List KeptRow) (lost astray : List (List (List ℕ))) (opening : Opening) →
    AreLost content kept lost → IsMadeOf found lost astray opening → AreLost content kept opening.lost
lost_beside content kept found lost astray opening gone made = subst (AreLost content kept) (sym made.lost) gone

-- ---- refusals

-- a refusal of the search for strays is one of a look
pub look_why : {X : Type 0} (before now : ℕ) (result : Result X ScanRefusal) → IfErr result (λ why. IsDiskWhy why) → NotesDisk before now result →
    HasCause before now (disk_failed result) → IfErr result (λ why. IsLookWhy why)
look_why before now (Ok x) why note cause = tt
look_why before now (Err (refusal.KeeperFault noted)) why note cause = absurd why
look_why before now (Err (refusal.DiskFault noted)) why note cause =
    subst IsPartNote (sym (note refl)) (record { device = refl; rose = cause.rose refl })
look_why before now (Err (refusal.BadPath text)) why note cause = absurd why
look_why before now (Err (refusal.BadRow path at)) why note cause = absurd why
look_why before now (Err (refusal.Foreign path found)) why note cause = absurd why
look_why before now (Err (refusal.Overlap first second)) why note cause = absurd why
look_why before now (Err (refusal.Rows count)) why note cause = absurd why
look_why before now (Err refusal.NoMemory) why note cause = tt
