-- What the disk has of the rows: the trees of those that stand, synced, and nothing but what rows cover. It stays so where a row
-- is declared or used, and after a make.
use Rattle.mat_path.proofs.Overlaps.{overlap-refl, overlap_of_prefixes}
use Rattle.mat_path.proofs.SameNames.{same_names-eq}
use Rattle.std.proofs.Common.{◌≡◌, ℕ, Bool, true, false, ◌&&◌, ◌||◌, List, [], ◌∷◌, ◌++◌, length, drop, Option, Some, None, cond, refl, sym, ap, ap₂, subst, ◌∙◌, map, find}
use Rattle.std.specs.List.{list_all, list_any}
use Rattle.std.specs.Option.{option_map}
use Rattle.std.proofs.lemmas.Bool.{and_parts, both_ways, or_parts}
use Rattle.mat_path.specs.Names.{is_prefix, overlap}
use Rattle.mat_path.proofs.PathLemmas.{overlap_comm, prefix-append_cases}
use Rattle.mat_tree.specs.declared.flat.Flat.{Flat}
use Rattle.mat_tree.specs.Parts.{HasTree, Node, Part, below, declared_by}
use Rattle.mat_tree.specs.Trees.{has_node}
use Rattle.mat_model.specs.declared.book.Row.{Row}
use Rattle.mat_model.specs.OnDisk.{AreOnDisk}
use Rattle.mat_model.specs.Rows.{are_apart, comes_before, covers, is_apart, is_at_path, overlaps_row, put_row}
use Rattle.model_laws.proofs.Apart.{apart_parts}
use Rattle.model_laws.proofs.Elements.{found_all, found_passes}
use Rattle.region_port.specs.Calls.{Paths}
use Rattle.buckd.specs.Making.{Nodes, shown_by, with_nodes}
use Rattle.buckd.specs.Shows.{IsCovered}
use Rattle.buckd.specs.Sound.{AreSynced}

-- ---- a row that doesn't stand, put among them

pub held-put_row : (content : Part) (new : Row) (rows : List Row) → new.stands ≡ false → AreOnDisk content rows → AreOnDisk content (put_row new rows)
held-put_row content new [] lies held = (λ stands. absurd (both_ways new.stands lies stands), tt)
held-put_row content new (row ∷ rows) lies (first, held) =
    elim (comes_before new.path row.path) as (λ b. AreOnDisk content (cond b (new ∷ row ∷ rows) (row ∷ put_row new rows))) [
      | true ↦ (λ stands. absurd (both_ways new.stands lies stands), (first, held))
      | false ↦ (first, held-put_row content new rows lies held)
    ]

pub synced-put_row : (rough : Paths) (new : Row) (rows : List Row) → new.stands ≡ false → AreSynced rough rows → AreSynced rough (put_row new rows)
synced-put_row rough new [] lies synced = (λ stands. absurd (both_ways new.stands lies stands), tt)
synced-put_row rough new (row ∷ rows) lies (first, synced) =
    elim (comes_before new.path row.path) as (λ b. AreSynced rough (cond b (new ∷ row ∷ rows) (row ∷ put_row new rows))) [
      | true ↦ (λ stands. absurd (both_ways new.stands lies stands), (first, synced))
      | false ↦ (first, synced-put_row rough new rows lies synced)
    ]

-- what some rows cover they cover with one more
covers_put : (new : Row) (rows : List Row) (place : List (List ℕ)) → list_any (covers place) (put_row new rows) ≡ false →
    list_any (covers place) rows ≡ false
covers_put new [] place none = refl
covers_put new (row ∷ rows) place none =
    elim (comes_before new.path row.path) as
    (λ b. list_any (covers place) (cond b (new ∷ row ∷ rows) (row ∷ put_row new rows)) ≡ false → list_any (covers place) (row ∷ rows) ≡ false) [
      | true ↦ λ off. (or_parts (covers place new) (list_any (covers place) (row ∷ rows)) off).1
      | false ↦ λ off.
          let parts = or_parts (covers place row) (list_any (covers place) (put_row new rows)) off in
          ap₂ (λ (s t : Bool). s || t) parts.0 (covers_put new rows place parts.1)
    ] none

pub covered-put_row : (content : Part) (new : Row) (rows : List Row) → IsCovered content rows → IsCovered content (put_row new rows)
covered-put_row content new rows covered = λ place none. covered place (covers_put new rows place none)

-- ---- rows that each keep their path, their tree and whether they stand

pub held-map : (content : Part) (f : Row → Row) → ((row : Row) → (f row).path ≡ row.path) → ((row : Row) → (f row).tree ≡ row.tree) →
    ((row : Row) → (f row).stands ≡ row.stands) → (rows : List Row) → AreOnDisk content rows → AreOnDisk content (map f rows)
held-map content f paths trees stood [] held = tt
held-map content f paths trees stood (row ∷ rows) (first, held) = (
  λ stands. subst (λ (p : List (List ℕ)). HasTree (below p content) (f row).tree) (sym (paths row))
      (subst (λ (t : List Flat). HasTree (below row.path content) t) (sym (trees row)) (first (sym (stood row) ∙ stands))),
  held-map content f paths trees stood rows held,
)

pub synced-map : (rough : Paths) (f : Row → Row) → ((row : Row) → (f row).path ≡ row.path) → ((row : Row) → (f row).stands ≡ row.stands) →
    (rows : List Row) → AreSynced rough rows → AreSynced rough (map f rows)
synced-map rough f paths stood [] synced = tt
synced-map rough f paths stood (row ∷ rows) (first, synced) = (
  λ stands place below. first (sym (stood row) ∙ stands) place (ap (λ (p : List (List ℕ)). is_prefix p place) (sym (paths row)) ∙ below),
  synced-map rough f paths stood rows synced,
)

covers_map : (f : Row → Row) → ((row : Row) → (f row).path ≡ row.path) → ((row : Row) → (f row).tree ≡ row.tree) → (rows : List Row)
    (place : List (List ℕ)) → list_any (covers place) (map f rows) ≡ list_any (covers place) rows
covers_map f paths trees [] place = refl
covers_map f paths trees (row ∷ rows) place =
    ap₂ (λ (s t : Bool). s || t)
    (ap₂ (λ (p : List (List ℕ)) (t : List Flat). is_prefix p place && has_node t (drop (length p) place)) (paths row) (trees row))
    (covers_map f paths trees rows place)

pub covered-map : (content : Part) (f : Row → Row) → ((row : Row) → (f row).path ≡ row.path) → ((row : Row) → (f row).tree ≡ row.tree) →
    (rows : List Row) → IsCovered content rows → IsCovered content (map f rows)
covered-map content f paths trees rows covered = λ place none. covered place (sym (covers_map f paths trees rows place) ∙ none)

-- ---- after a make

-- a place below a row that is clear of a path isn't below that path
off_path : (path p rel : List (List ℕ)) → overlap p path ≡ false → is_prefix path (p ++ rel) ≡ false
off_path path p rel clear =
    elim (is_prefix path (p ++ rel)) as (λ b. is_prefix path (p ++ rel) ≡ b → b ≡ false) [
      | true ↦ λ above. absurd (both_ways (overlap p path) clear
          (ap (λ (b : Bool). b) (over above)))
      | false ↦ λ above. refl
    ] refl
  where
    swap : (a b : Bool) → (a || b) ≡ true → (b || a) ≡ true
    swap true true h = refl
    swap true false h = refl
    swap false b h = ap (λ (c : Bool). c || false) h

    over : is_prefix path (p ++ rel) ≡ true → overlap p path ≡ true
    over above = swap (is_prefix path p) (is_prefix p path) (prefix-append_cases path p rel above)

-- what a disk holds below a path, by what it shows there
held_shown : (content new : Part) (path p : List (List ℕ)) (inner : Nodes) (tree : List Flat) → overlap p path ≡ false →
    shown_by new ≡ with_nodes path inner (shown_by content) → HasTree (below p content) tree → HasTree (below p new) tree
held_shown content new path p inner tree clear shown holds = λ rel.
    ap (λ (nodes : Nodes). nodes (p ++ rel)) shown
    ∙ ap (λ (b : Bool). cond b (inner (drop (length path) (p ++ rel))) (shown_by content (p ++ rel))) (off_path path p rel clear)
    ∙ holds rel

-- rows that are apart from the one at a path hold what they held
pub held-others : (content new : Part) (path : List (List ℕ)) (inner : Nodes) (rows : List Row) →
    list_any (overlaps_row path) rows ≡ false → shown_by new ≡ with_nodes path inner (shown_by content) →
    AreOnDisk content rows → AreOnDisk new rows
held-others content new path inner [] clear shown held = tt
held-others content new path inner (row ∷ rows) clear shown (first, held) =
    let clears = or_parts (overlaps_row path row) (list_any (overlaps_row path) rows) clear in (
      λ stands. held_shown content new path row.path inner row.tree clears.0 shown (first stands),
      held-others content new path inner rows clears.1 shown held,
    )

pub synced-others : (rough new : Paths) (path : List (List ℕ)) (rows : List Row) → list_any (overlaps_row path) rows ≡ false →
    ((place : List (List ℕ)) → is_prefix path place ≡ false → new place ≡ rough place) → AreSynced rough rows → AreSynced new rows
synced-others rough new path [] clear elsewhere synced = tt
synced-others rough new path (row ∷ rows) clear elsewhere (first, synced) =
    let clears = or_parts (overlaps_row path row) (list_any (overlaps_row path) rows) clear in (
      λ stands place below. elsewhere place (off place below clears.0) ∙ first stands place below,
      synced-others rough new path rows clears.1 elsewhere synced,
    )
  where
    off : (place : List (List ℕ)) → is_prefix row.path place ≡ true → overlap row.path path ≡ false → is_prefix path place ≡ false
    off place under clear_row =
        elim (is_prefix path place) as (λ b. is_prefix path place ≡ b → b ≡ false) [
          | true ↦ λ above. absurd (both_ways (overlap row.path path) clear_row (overlap_of_prefixes row.path path place under above))
          | false ↦ λ above. refl
        ] refl

-- ---- the row at a path, which changes, and those apart from it

-- rows that are apart from one at a path are clear of the path
clear_of : (path : List (List ℕ)) (row : Row) (rows : List Row) → row.path ≡ path → list_all (is_apart row) rows ≡ true →
    list_any (overlaps_row path) rows ≡ false
clear_of path row [] at all = refl
clear_of path row (next ∷ rows) at all =
    let parts = and_parts (is_apart row next) (list_all (is_apart row) rows) all in
    ap₂ (λ (s t : Bool). s || t)
    (ap (λ (p : List (List ℕ)). overlap next.path p) (sym at) ∙ overlap_comm next.path row.path ∙ (apart_parts row next parts.0).1)
    (clear_of path row rows at parts.1)

-- a row that isn't at a path is clear of it, where it is apart from the one there
clear_other : (path : List (List ℕ)) (next row : Row) (rows : List Row) → list_all (is_apart next) rows ≡ true →
    find (is_at_path path) rows ≡ Some row → overlap next.path path ≡ false
clear_other path next row rows all found =
    let at : row.path ≡ path = same_names-eq row.path path (found_passes (is_at_path path) rows row found) in
    subst (λ (p : List (List ℕ)). overlap next.path p ≡ false) at
    (apart_parts next row (found_all (is_apart next) (is_at_path path) rows row all found)).1

-- rows that a change leaves where they aren't at a path
abbrev pub IsChange : List (List ℕ) → (Row → Row) → Type 0
IsChange path change = (row : Row) → is_at_path path row ≡ false → change row ≡ row

-- a row that overlaps no path isn't at it
not_at : (path : List (List ℕ)) (row : Row) → overlap row.path path ≡ false → is_at_path path row ≡ false
not_at path row clear =
    elim (is_at_path path row) as (λ b. is_at_path path row ≡ b → b ≡ false) [
      | true ↦ λ here. absurd (both_ways (overlap row.path path) clear
          (subst (λ (p : List (List ℕ)). overlap row.path p ≡ true) (same_names-eq row.path path here) (overlap-refl row.path)))
      | false ↦ λ here. refl
    ] refl

-- rows clear of a path stay
unchanged : (path : List (List ℕ)) (change : Row → Row) → IsChange path change → (rows : List Row) → list_any (overlaps_row path) rows ≡ false →
    map change rows ≡ rows
unchanged path change keeps [] clear = refl
unchanged path change keeps (row ∷ rows) clear =
    let clears = or_parts (overlaps_row path row) (list_any (overlaps_row path) rows) clear in
    ap₂ (λ (r : Row) (rs : List Row). r ∷ rs) (keeps row (not_at path row clears.0)) (unchanged path change keeps rows clears.1)

-- the disk has the trees of the rows that stand after a make of the one at a path, where it has that one's tree if it stands
pub held-at : (content new : Part) (path : List (List ℕ)) (inner : Nodes) (change : Row → Row) (rows : List Row) (row : Row) →
    IsChange path change → are_apart rows ≡ true → find (is_at_path path) rows ≡ Some row →
    shown_by new ≡ with_nodes path inner (shown_by content) → AreOnDisk content rows →
    ((change row).stands ≡ true → HasTree (below (change row).path new) (change row).tree) → AreOnDisk new (map change rows)
held-at content new path inner change [] row keeps apart found shown held here = tt
held-at content new path inner change (next ∷ rows) row keeps apart found shown (first, held) here =
    let parts = and_parts (list_all (is_apart next) rows) (are_apart rows) apart in
    elim (is_at_path path next) as
    (λ b. is_at_path path next ≡ b → cond b (Some next) (find (is_at_path path) rows) ≡ Some row → AreOnDisk new (map change (next ∷ rows))) [
      | true ↦ λ at is.
          let same : row ≡ next = cc in
          let clear : list_any (overlaps_row path) rows ≡ false = clear_of path next rows (same_names-eq next.path path at) parts.0 in (
            subst (λ (r : Row). (change r).stands ≡ true → HasTree (below (change r).path new) (change r).tree) same here,
            subst (λ (rs : List Row). AreOnDisk new rs) (sym (unchanged path change keeps rows clear))
                (held-others content new path inner rows clear shown held),
          )
      | false ↦ λ at is.
          let clear : overlap next.path path ≡ false = clear_other path next row rows parts.0 is in (
            subst (λ (r : Row). r.stands ≡ true → HasTree (below r.path new) r.tree) (sym (keeps next at))
                (λ stands. held_shown content new path next.path inner next.tree clear shown (first stands)),
            held-at content new path inner change rows row keeps parts.1 is shown held here,
          )
    ] refl found

-- the same of what is synced
pub synced-at : (rough new : Paths) (path : List (List ℕ)) (change : Row → Row) (rows : List Row) (row : Row) →
    IsChange path change → are_apart rows ≡ true → find (is_at_path path) rows ≡ Some row →
    ((place : List (List ℕ)) → is_prefix path place ≡ false → new place ≡ rough place) → AreSynced rough rows →
    ((change row).stands ≡ true → (place : List (List ℕ)) → is_prefix (change row).path place ≡ true → new place ≡ false) →
    AreSynced new (map change rows)
synced-at rough new path change [] row keeps apart found elsewhere synced here = tt
synced-at rough new path change (next ∷ rows) row keeps apart found elsewhere (first, synced) here =
    let parts = and_parts (list_all (is_apart next) rows) (are_apart rows) apart in
    elim (is_at_path path next) as
    (λ b. is_at_path path next ≡ b → cond b (Some next) (find (is_at_path path) rows) ≡ Some row → AreSynced new (map change (next ∷ rows))) [
      | true ↦ λ at is.
          let same : row ≡ next = cc in
          let clear : list_any (overlaps_row path) rows ≡ false = clear_of path next rows (same_names-eq next.path path at) parts.0 in (
            subst (λ (r : Row). (change r).stands ≡ true → (place : List (List ℕ)) → is_prefix (change r).path place ≡ true → new place ≡ false)
                same here,
            subst (λ (rs : List Row). AreSynced new rs) (sym (unchanged path change keeps rows clear))
                (synced-others rough new path rows clear elsewhere synced),
          )
      | false ↦ λ at is.
          let clear : overlap next.path path ≡ false = clear_other path next row rows parts.0 is in
          let one = synced-others rough new path (next ∷ []) (ap (λ (b : Bool). b || false) clear) elsewhere (first, tt) in (
            subst (λ (r : Row). r.stands ≡ true → (place : List (List ℕ)) → is_prefix r.path place ≡ true → new place ≡ false)
                (sym (keeps next at)) one.0,
            synced-at rough new path change rows row keeps parts.1 is elsewhere synced here,
          )
    ] refl found

-- the disk has nothing but what rows cover after a make of the row at a path that put nothing but nodes of the row's tree
pub covered-at : (content new : Part) (path : List (List ℕ)) (inner : Nodes) (rows : List Row) (row : Row) →
    find (is_at_path path) rows ≡ Some row → shown_by new ≡ with_nodes path inner (shown_by content) → IsCovered content rows →
    ((rel : List (List ℕ)) → has_node row.tree rel ≡ false → inner rel ≡ None) → IsCovered new rows
covered-at content new path inner rows row found shown covered only = λ place none.
    nothing (new place)
    (ap (λ (nodes : Nodes). nodes place) shown
    ∙ elim (is_prefix path place) as
    (λ b. is_prefix path place ≡ b → cond b (inner (drop (length path) place)) (shown_by content place) ≡ None) [
      | true ↦ λ above. only (drop (length path) place) (bare_there place above none)
      | false ↦ λ off. ap (λ (o : Option Node). option_map declared_by o) (covered place none)
    ] refl)
  where
    nothing : (o : Option Node) → option_map declared_by o ≡ None → o ≡ None
    nothing None is = refl
    nothing (Some node) is = absurd cc

    at : row.path ≡ path
    at = same_names-eq row.path path (found_passes (is_at_path path) rows row found)

    no_cover : (some : List Row) (place : List (List ℕ)) → find (is_at_path path) some ≡ Some row → list_any (covers place) some ≡ false →
        covers place row ≡ false
    no_cover [] place is none = cc
    no_cover (next ∷ some) place is none =
        let parts = or_parts (covers place next) (list_any (covers place) some) none in
        elim (is_at_path path next) as (λ b. cond b (Some next) (find (is_at_path path) some) ≡ Some row → covers place row ≡ false) [
          | true ↦ λ here. let same : next ≡ row = cc in subst (λ (r : Row). covers place r ≡ false) same parts.0
          | false ↦ λ here. no_cover some place here parts.1
        ] is

    second : (a b : Bool) → (a && b) ≡ false → a ≡ true → b ≡ false
    second true b both first = both
    second false b both first = absurd cc

    bare_there : (place : List (List ℕ)) → is_prefix path place ≡ true → list_any (covers place) rows ≡ false →
        has_node row.tree (drop (length path) place) ≡ false
    bare_there place above none =
        subst (λ (p : List (List ℕ)). has_node row.tree (drop (length p) place) ≡ false) at
        (second (is_prefix row.path place) (has_node row.tree (drop (length row.path) place)) (no_cover rows place found none)
        (ap (λ (p : List (List ℕ)). is_prefix p place) at ∙ above))
