-- The rules of the disk at an opening on kept rows that are whole.
use Rattle.std.proofs.Common.{◌≡◌, ◌≤◌, ℕ, ◌+◌, Bool, true, false, not, ◌⊎◌, inl, inr, List, [], ◌∷◌, ◌++◌, refl, sym, ap, ap₂, subst, ◌∙◌, map, Contains, arith}
use Rattle.std.specs.List.{filter, list_any}
use Rattle.std.specs.Option.{is_some}
use Rattle.std.proofs.lemmas.Bool.{and_from, and_parts, both_ways, not-true, or_left, or_right}
use Rattle.std.proofs.lemmas.List.{append-nil, append_assoc}
use Rattle.mat_path.specs.Covering.{covering}
use Rattle.mat_path.specs.Names.{is_prefix, overlap, same_name, same_names}
use Rattle.mat_path.proofs.CoveringLemmas.{among_contains, covered_below}
use Rattle.mat_path.proofs.Elements.{contains_cases, contains_first, contains_map, contains_more, filtered_contains, mapped_contains}
use Rattle.mat_path.proofs.Overlaps.{overlap_cases}
use Rattle.mat_path.proofs.PathLemmas.{prefix-append, prefix-refl}
use Rattle.mat_path.proofs.SameNames.{same_name-eq, same_names-eq, same_names-refl}
use Rattle.mat_tree.specs.Parts.{Part}
use Rattle.mat_model.specs.declared.book.Row.{Row}
use Rattle.mat_model.specs.declared.opening.Opening.{Opening}
use Rattle.mat_model.specs.History.{opened}
use Rattle.mat_model.specs.Kept.{KeptRow}
use Rattle.mat_model.specs.Openings.{IsOpening, found_row, found_rows, is_found, kept_at_opening, opening_debris, opening_rows, path_of_row, put_strays, stray_debris}
use Rattle.mat_model.specs.Rows.{is_standing}
use Rattle.mat_model.specs.WorkState.{idle_work, is_dirty, path_of_debris}
use Rattle.model_laws.proofs.BooksLists.{any_contains}
use Rattle.model_laws.proofs.Elements.{contains_all}
use Rattle.region_port.specs.Calls.{Paths}
use Rattle.region_port.specs.Strays.{AreTopmost, IsTopmost, candidates, is_apart, is_strictly_above}
use Rattle.core_laws.specs.Covered.{IsCovered, IsRoughWithin, node_places}
use Rattle.core_laws.specs.Loans.{AreOut}
use Rattle.core_laws.specs.Tied.{AreTied}
use Rattle.core_laws.specs.Whole.{AreAgain, IsWhole}
use Rattle.core_laws.proofs.PlacesLemmas.{debris_place, row_place}

-- ---- kept rows

-- a row that was found is a kept row's
found_of : (stamp : ℕ) (kept : List KeptRow) (row : Row) → Contains (found_rows stamp kept) row →
    (old : KeptRow) × Contains kept old × (row.path ≡ old.path) × (row.tree ≡ old.tree)
found_of stamp [] row (k, within, at) = absurd (omega arith)
found_of stamp (old ∷ kept) row among =
    elim (contains_cases (found_row stamp old) (found_rows (stamp + 1) kept) row among) [
      | inl same ↦ (old, contains_first old kept, sym (ap (λ (r : Row). r.path) same), sym (ap (λ (r : Row). r.tree) same))
      | inr more ↦
          let (other, within, path, tree) = found_of (stamp + 1) kept row more in
          (other, contains_more old kept other within, path, tree)
    ]

pub opening_again : (opening : Opening) (lost : List (List (List ℕ))) (kept : List KeptRow) → opening.rows ≡ opening_rows lost kept →
    AreAgain kept (opened opening).kept
opening_again opening lost kept is =
    λ one among.
    let (row, within, same) = mapped_contains (kept_at_opening opening) opening.rows one among in
    let (old, there, path, tree) = found_of 0 (filter (is_found lost) kept) row (subst (λ (rows : List Row). Contains rows row) is within) in
    record {
      old = old;
      among = (filtered_contains (is_found lost) kept old there).0;
      same = record { path = sym (ap (λ (k : KeptRow). k.path) same) ∙ path; tree = sym (ap (λ (k : KeptRow). k.tree) same) ∙ tree };
    }

-- ---- what is out, tied and rough

pub none_out : (content : Part) (rough : Paths) → AreOut [] content rough
none_out content rough = λ loan (k, within, at). absurd (omega arith)

pub opening_tied : (spoken : ℕ → Bool) (opening : Opening) (content : Part) (rough : Paths) → IsWhole [] (opened opening).kept content rough →
    AreTied spoken (opened opening).book.rows (opened opening).work.jobs content rough
opening_tied spoken opening content rough whole =
    λ row among home said.
    let kept = whole (kept_at_opening opening row) (contains_map (kept_at_opening opening) opening.rows row among) in
    record {
      tree = kept.tree refl;
      settled = λ path under. kept.settled path (or_right (is_prefix path row.path) (is_prefix row.path path) under);
    }

pub settled_within : (places : List (List (List ℕ))) (rough : Paths) → ((path : List (List ℕ)) → rough path ≡ false) → IsRoughWithin places rough
settled_within places rough none = λ path is. absurd (both_ways (rough path) (none path) is)

-- ---- the topmost of some paths

-- a path at or above one with one more name is at or above this, or is that path
one_more : (above front : List (List ℕ)) (name : List ℕ) → is_prefix above (front ++ name ∷ []) ≡ true →
    (is_prefix above front ≡ true) ⊎ (above ≡ front ++ name ∷ [])
one_more [] front name h = inl (prefix-append [] front)
one_more (x ∷ []) [] name h = inr (ap (λ (n : List ℕ). n ∷ []) (same_name-eq x name (and_parts (same_name x name) true h).0))
one_more (x ∷ y ∷ above) [] name h = let parts = and_parts (same_name x name) (is_prefix (y ∷ above) []) h in absurd cc
one_more (x ∷ above) (z ∷ front) name h =
    let parts = and_parts (same_name x z) (is_prefix above (front ++ name ∷ [])) h in
    elim (one_more above front name parts.1) [
      | inl under ↦ inl (and_from (same_name x z) (is_prefix above front) parts.0 under)
      | inr is ↦ inr (ap₂ (λ (n : List ℕ) (l : List (List ℕ)). n ∷ l) (same_name-eq x z parts.0) is)
    ]

-- nothing of a set is strictly above a path
abbrev IsTop : Paths → List (List ℕ) → Type 0
IsTop set path = (above : List (List ℕ)) → is_strictly_above above path ≡ true → set above ≡ false

further : (set : Paths) (front : List (List ℕ)) (name : List ℕ) → IsTop set front → set front ≡ false → IsTop set (front ++ name ∷ [])
further set front name top gone =
    λ above strictly.
    let parts = and_parts (is_prefix above (front ++ name ∷ [])) (not (same_names above (front ++ name ∷ []))) strictly in
    elim (one_more above front name parts.0) [
      | inl under ↦ by above under (same_names above front) refl
      | inr is ↦ absurd (both_ways (same_names above (front ++ name ∷ [])) (not-true (same_names above (front ++ name ∷ [])) parts.1)
          (subst (λ (p : List (List ℕ)). same_names above p ≡ true) is (same_names-refl above)))
    ]
  where
    by : (above : List (List ℕ)) → is_prefix above front ≡ true → (b : Bool) → same_names above front ≡ b → set above ≡ false
    by above under true same = subst (λ (p : List (List ℕ)). set p ≡ false) (sym (same_names-eq above front same)) gone
    by above under false other = top above (and_from (is_prefix above front) (not (same_names above front)) under (ap not other))

-- a path of a set is at or below a topmost one
abbrev IsBelowTop : Paths → List (List ℕ) → Type 0
IsBelowTop set path = (top : List (List ℕ)) × IsTopmost set top × (is_prefix top path ≡ true)

below_top : (set : Paths) (front rest : List (List ℕ)) → IsTop set front → set (front ++ rest) ≡ true → IsBelowTop set (front ++ rest)
below_top set front [] top is =
    (front, record { within = subst (λ (p : List (List ℕ)). set p ≡ true) (append-nil front) is; alone = top }, prefix-append front [])
below_top set front (name ∷ rest) top is = by (set front) refl (below_top set (front ++ name ∷ []) rest)
  where
    joins : (front ++ name ∷ []) ++ rest ≡ front ++ name ∷ rest
    joins = append_assoc front (name ∷ []) rest

    by : (b : Bool) → set front ≡ b →
        (IsTop set (front ++ name ∷ []) → set ((front ++ name ∷ []) ++ rest) ≡ true → IsBelowTop set ((front ++ name ∷ []) ++ rest)) →
        IsBelowTop set (front ++ name ∷ rest)
    by true here more = (front, record { within = here; alone = top }, prefix-append front (name ∷ rest))
    by false gone more =
        subst (λ (p : List (List ℕ)). IsBelowTop set p) joins
        (more (further set front name top gone) (subst (λ (p : List (List ℕ)). set p ≡ true) (sym joins) is))

root_top : (set : Paths) → IsTop set []
root_top set [] strictly = absurd cc
root_top set (name ∷ above) strictly = absurd cc

-- ---- nodes

stray_places : (paths : List (List (List ℕ))) → map path_of_debris (map stray_debris paths) ≡ paths
stray_places [] = refl
stray_places (path ∷ paths) = ap (λ (ps : List (List (List ℕ))). path ∷ ps) (stray_places paths)

pub opening_covered : (opening : Opening) (known : List (List (List ℕ))) (content : Part) (rough : Paths) → IsOpening opening → opening.lost ≡ [] →
    ((path : List (List ℕ)) → Contains known path → Contains (map path_of_row opening.rows) path) →
    AreTopmost (candidates known content) opening.strays → IsWhole [] (opened opening).kept content rough →
    IsCovered (opened opening).book.rows (opened opening).work content
opening_covered opening known content rough right none rows topmost whole =
    λ path there. by path there (list_any (overlap path) known) refl
  where
    Covers : List (List ℕ) → Type 0
    Covers path = 1 ≤ covering path (node_places opening.rows (idle_work (opening_debris opening)))

    places : map path_of_debris (opening_debris opening) ≡ opening.strays
    places =
        ap (λ (l : List (List (List ℕ))). map path_of_debris (put_strays l (map stray_debris opening.strays))) none ∙ stray_places opening.strays

    loose : (path : List (List ℕ)) → is_some (content path) ≡ true → list_any (overlap path) known ≡ false → Covers path
    loose path there apart =
        let (top, is, over) = below_top (candidates known content) [] path (root_top (candidates known content))
        (and_from (is_some (content path)) (is_apart known path) there (ap not apart)) in
        debris_place path opening.rows (idle_work (opening_debris opening))
        (subst (λ (ps : List (List (List ℕ))). 1 ≤ covering path ps) (sym places)
        (covered_below top path opening.strays (among_contains top opening.strays (topmost.all top is)) over))

    below_row : (path : List (List ℕ)) (row : Row) → Contains opening.rows row → is_prefix row.path path ≡ true → Covers path
    below_row path row among over =
        row_place path opening.rows (idle_work (opening_debris opening)) row among
        (or_left row.stands (is_dirty [] row.path) (contains_all is_standing opening.rows row right.standing among)) over

    above_row : (path : List (List ℕ)) (row : Row) → Contains opening.rows row → is_some (content path) ≡ true → is_prefix path row.path ≡ true →
        (b : Bool) → same_names path row.path ≡ b → Covers path
    above_row path row among there under true same =
        below_row path row among (subst (λ (p : List (List ℕ)). is_prefix p path ≡ true) (same_names-eq path row.path same) (prefix-refl path))
    above_row path row among there under false other =
        let gone = (whole (kept_at_opening opening row) (contains_map (kept_at_opening opening) opening.rows row among)).top path
        (and_from (is_prefix path row.path) (not (same_names path row.path)) under (ap not other)) in
        absurd cc

    by : (path : List (List ℕ)) → is_some (content path) ≡ true → (b : Bool) → list_any (overlap path) known ≡ b → Covers path
    by path there false apart = loose path there apart
    by path there true meets =
        let (place, within, meet) = any_contains (overlap path) known meets in
        let (row, among, named) = mapped_contains path_of_row opening.rows place (rows place within) in
        elim (overlap_cases path row.path (subst (λ (p : List (List ℕ)). overlap path p ≡ true) (sym named) meet)) [
          | inl under ↦ above_row path row among there under (same_names path row.path) refl
          | inr over ↦ below_row path row among over
        ]
