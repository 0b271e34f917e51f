-- What calls of the state store make of its rows beside kept rows: removals, puts, and new last uses.
use Rattle.std.proofs.Common.{◌≡◌, ◌≢◌, ℕ, ◌+◌, Bool, true, false, not, ◌||◌, ◌⊎◌, inl, inr, cond, List, [], ◌∷◌, ◌++◌, Option, Some, None, refl, sym, ap, ap₂, subst, ◌∙◌, map, All, Contains}
use Rattle.std.proofs.lemmas.Bool.{and_parts, both_ways, false_from_ne_true, not-true}
use Rattle.std.proofs.lemmas.List.Elements.{Contains-append_cases, Contains-append_left, Contains-append_right}
use Rattle.std.specs.List.{filter, list_any}
use Rattle.std.specs.Option.{ForSome, is_some, option_map}
use Rattle.mat_path.specs.Names.{is_path, joined, overlap, path_of, same_name, same_names}
use Rattle.mat_path.proofs.Elements.{contains_cases, contains_filter, contains_first, contains_map, contains_more, each_fails, filtered_contains, mapped_contains, none_passes}
use Rattle.mat_path.proofs.Overlaps.{overlap-refl}
use Rattle.mat_path.proofs.SameNames.{same_name-eq, same_name-refl, same_names-eq, same_names-refl, same_names_false}
use Rattle.mat_tree.specs.Trees.{IsNode, IsTree}
use Rattle.mat_tree.specs.declared.flat.Flat.{Flat}
use Rattle.mat_model.specs.declared.book.Row.{Row}
use Rattle.mat_model.specs.Kept.{KeptRow, is_due, is_kept_of, is_listed, is_stored_as, kept_row, put_kept, store_rows}
use Rattle.mat_model.specs.declared.opening.Opening.{Opening}
use Rattle.mat_model.specs.Cleaning.{gone_row}
use Rattle.mat_model.specs.History.{opened}
use Rattle.mat_model.specs.Openings.{found_rows, is_found, is_lost, kept_at_opening, opening_rows}
use Rattle.mat_model.specs.Rows.{are_apart, is_at_path}
use Rattle.mat_model.specs.WorkState.{Job}
use Rattle.model_laws.specs.KeptRules.{KeptAscend, path_of_kept}
use Rattle.model_laws.specs.StoredRules.{IsStored}
use Rattle.model_laws.proofs.BooksLists.{any_contains, contains_any}
use Rattle.model_laws.proofs.BooksRows.{apart_same}
use Rattle.model_laws.proofs.KeptOrder.{ascends_filtered, store_ascends, stored_cases}
use Rattle.keep_port.specs.Rows.{ascend, put, put_all, remove_all, touch_all, touched}
use Rattle.keep_port.specs.declared.row.RawRow.{RawRow}
use Rattle.keep_port.proofs.Ordered.{ascend_put, ascend_removed, ascend_stored}
use Rattle.row_bytes.specs.Rows.{IsRow, row_bytes}
use Rattle.row_bytes.specs.declared.row.KeptTree.{KeptTree}
use Rattle.core_laws.specs.Stored.{AreDropped, AreSplit, IsOneOf, IsReadAmong, IsReadAs, IsReadFrom, IsReadable, IsStore, has_bytes, identity_of, is_left, is_new_at, is_old, kept_read, raw_of, raw_row, touch_of, wants_bytes}
use Rattle.core_laws.proofs.StoreLemmas.{AreOfPaths, IsStoredBy, in_stored, kept_from, kept_once, kept_put, kept_stays, listed_named, last_differs, none_there, other_text, put_among, put_from, raw_put, raw_stays, removed_from, removed_stays, same_raws, spelled, spelled_once}

-- ---- members alone

pub store_alike : (identity : ℕ) (kept : List KeptRow) (rows others : List RawRow) → IsStore identity kept rows → IsStore identity kept others → rows ≡ others
store_alike identity kept rows others first second =
    same_raws rows others first.order second.order
    (λ raw among. let of = first.others raw among in subst (Contains others) (sym of.same) (second.each of.one of.among))
    (λ raw among. let of = second.others raw among in subst (Contains rows) (sym of.same) (first.each of.one of.among))

-- a state store that has some kept rows has any that are the same ones
pub store_same : (identity : ℕ) (kept left : List KeptRow) (rows : List RawRow) → ((one : KeptRow) → Contains kept one → Contains left one) →
    ((one : KeptRow) → Contains left one → Contains kept one) → IsStore identity kept rows → IsStore identity left rows
store_same identity kept left rows to from store = record {
  order = store.order;
  each = λ one among. store.each one (from one among);
  others = λ raw among. let of = store.others raw among in record { one = of.one; among = to of.one of.among; same = of.same };
  readable = λ one among. store.readable one (from one among);
}

-- ---- removals

pub store_removed : (identity : ℕ) (drops : KeptRow → Bool) (kept : List KeptRow) (rows : List RawRow) (paths : List (List (List ℕ))) →
    AreDropped drops kept paths → IsStore identity kept rows → IsStore identity (filter (is_left drops) kept) (remove_all rows paths)
store_removed identity drops kept rows paths dropped store = record {
  order = ascend_removed rows paths store.order;
  each = λ one among.
      let (was, left) = filtered_contains (is_left drops) kept one among in
      removed_stays rows paths (raw_row identity one)
      (λ path named same.
      let is : one.path ≡ path = spelled_once one.path path (store.readable one was).placed (dropped.placed path named) same in
      both_ways (drops one) (not-true (drops one) left)
      (sym (dropped.exact one was)
      ∙ contains_any (same_names one.path) paths path named (subst (λ (p : List (List ℕ)). same_names one.path p ≡ true) is (same_names-refl one.path))))
      (store.each one was);
  others = λ raw among.
      let (was, apart) = removed_from rows paths raw among in
      let of = store.others raw was in record {
        one = of.one;
        among = contains_filter (is_left drops) kept of.one (ap not (stays of.one raw was of.among of.same apart)) of.among;
        same = of.same;
      };
  readable = λ one among. store.readable one (filtered_contains (is_left drops) kept one among).0;
}
  where
    stays : (one : KeptRow) (raw : RawRow) → Contains rows raw → Contains kept one → raw ≡ raw_row identity one →
        ((path : List (List ℕ)) → Contains paths path → raw.path ≢ joined path) → drops one ≡ false
    stays one raw was among same apart =
        sym (dropped.exact one among)
        ∙ none_passes (same_names one.path) paths
        (λ path named.
        false_from_ne_true (same_names one.path path)
        (λ is. apart path named (ap (λ (r : RawRow). r.path) same ∙ ap joined (same_names-eq one.path path is))))

-- a list of the paths of the kept rows that a test finds names these, and so does the empty list where it finds none
pub listed_dropped : (identity : ℕ) (drops : KeptRow → Bool) (kept : List KeptRow) (rows : List RawRow) → KeptAscend kept → IsStore identity kept rows →
    AreDropped drops kept (map path_of_kept (filter drops kept))
listed_dropped identity drops kept rows asc store = record {
  exact = λ one among. listed_named drops kept one asc among;
  placed = λ path named.
      let (one, within, same) = mapped_contains path_of_kept (filter drops kept) path named in
      subst (λ (p : List (List ℕ)). is_path p ≡ true) same (store.readable one (filtered_contains drops kept one within).0).placed;
}

pub none_dropped : (drops : KeptRow → Bool) (kept : List KeptRow) → list_any drops kept ≡ false → AreDropped drops kept []
none_dropped drops kept none = record {
  exact = λ one among. sym (each_fails drops kept one none among);
  placed = λ path named. absurd (none_there named);
}

-- rows that are listed as gone are those at whose paths rows are kept
pub gone_kept : (some : List Row) (one : KeptRow) → is_listed (map gone_row some) one ≡ is_kept_of some one
gone_kept [] one = refl
gone_kept (row ∷ some) one = ap (λ (b : Bool). same_names row.path one.path || b) (gone_kept some one)

-- where the state store tells its rows, what a change makes of them
pub told_change : (identity : ℕ) (kept left : List KeptRow) (change : List RawRow → List RawRow) (told : Option (List RawRow)) →
    ((rows : List RawRow) → IsStore identity kept rows → IsStore identity left (change rows)) → ForSome told (IsStore identity kept) →
    ForSome (option_map change told) (IsStore identity left)
told_change identity kept left change None changes store = λ rows is. absurd cc
told_change identity kept left change (Some old) changes store =
    λ rows is.
    let same : change old ≡ rows = cc in
    subst (IsStore identity left) same (changes old (store old refl))

-- ---- puts

-- a row is put in the place of the one at its path
put_one : (identity : ℕ) (row : Row) (kept : List KeptRow) (rows : List RawRow) → KeptAscend kept → IsReadable (kept_row row) → IsStore identity kept rows →
    IsStore identity (put_kept (kept_row row) kept) (put rows (raw_of identity row))
put_one identity row kept rows asc sound store = record {
  order = ascend_put rows (raw_of identity row) store.order;
  each = λ one among. elim (cases one among) [
    | inl same ↦ subst (λ (k : KeptRow). Contains (put rows (raw_of identity row)) (raw_row identity k)) same (raw_put rows (raw_of identity row))
    | inr (was, differs) ↦
        raw_stays rows (raw_of identity row) (raw_row identity one)
        (other_text one.path row.path (store.readable one was).placed sound.placed (λ same. differs (sym same))) (store.each one was)
  ];
  others = λ raw among. elim (put_from rows (raw_of identity row) raw among) [
    | inl same ↦ record { one = kept_row row; among = kept_put (kept_row row) kept; same = sym same }
    | inr (was, differs) ↦
        let of = store.others raw was in record {
          one = of.one;
          among = kept_stays (kept_row row) kept of.one (λ same. differs (ap (λ (r : RawRow). r.path) of.same ∙ ap joined (sym same))) of.among;
          same = of.same;
        }
  ];
  readable = λ one among. elim (cases one among) [
    | inl same ↦ subst IsReadable same sound
    | inr (was, differs) ↦ store.readable one was
  ];
}
  where
    cases : (one : KeptRow) → Contains (put_kept (kept_row row) kept) one → (kept_row row ≡ one) ⊎ (Contains kept one × (row.path ≢ one.path))
    cases one among = kept_from row kept one asc among

pub store_put : (identity : ℕ) (some : List Row) (kept : List KeptRow) (rows : List RawRow) → KeptAscend kept →
    ((row : Row) → Contains some row → IsReadable (kept_row row)) → IsStore identity kept rows →
    IsStore identity (store_rows some kept) (put_all rows (map (raw_of identity) some))
store_put identity [] kept rows asc sound store = store
store_put identity (row ∷ some) kept rows asc sound store =
    store_put identity some (put_kept (kept_row row) kept) (put rows (raw_of identity row)) (store_ascends (row ∷ []) kept asc)
    (λ other within. sound other (contains_more row some other within))
    (put_one identity row kept rows asc (sound row (contains_first row some)) store)

-- ---- new last uses

-- a kept row is at a row's path and has its tree, in the version that is written now
pub record HasBytesOf (kept : List KeptRow) (row : Row) : Type 0 where
  pub old : KeptRow
  pub among : Contains kept old
  pub path : old.path ≡ row.path
  pub tree : old.tree ≡ row.tree
  pub new : old.new ≡ true

-- it still has them once a row is stored that is no other one at its path
bytes_stay : (row other : Row) (kept : List KeptRow) → (row.path ≡ other.path → row ≡ other) → HasBytesOf kept other →
    HasBytesOf (put_kept (kept_row row) kept) other
bytes_stay row other kept once has = by (same_names row.path other.path) refl
  where
    by : (b : Bool) → same_names row.path other.path ≡ b → HasBytesOf (put_kept (kept_row row) kept) other
    by true same =
        let is : row ≡ other = once (same_names-eq row.path other.path same) in record {
          old = kept_row row;
          among = kept_put (kept_row row) kept;
          path = ap (λ (r : Row). r.path) is;
          tree = ap (λ (r : Row). r.tree) is;
          new = refl;
        }
    by false differs = record {
      old = has.old;
      among = kept_stays (kept_row row) kept has.old (λ same. same_names_false row.path other.path differs (same ∙ has.path)) has.among;
      path = has.path;
      tree = has.tree;
      new = has.new;
    }

bytes_stay_all : (some : List Row) (other : Row) (kept : List KeptRow) → ((row : Row) → Contains some row → row.path ≡ other.path → row ≡ other) →
    HasBytesOf kept other → HasBytesOf (store_rows some kept) other
bytes_stay_all [] other kept once has = has
bytes_stay_all (row ∷ some) other kept once has =
    bytes_stay_all some other (put_kept (kept_row row) kept) (λ next within. once next (contains_more row some next within))
    (bytes_stay row other kept (once row (contains_first row some)) has)

-- a row that gets a new last use, and one that doesn't
touched_there : (path : List ℕ) (last : ℕ) (raw : RawRow) → raw.path ≡ path → touched path last raw ≡ record { path = raw.path; body = raw.body; last = last }
touched_there path last raw same =
    ap (λ (b : Bool). cond b (record { path = raw.path; body = raw.body; last = last }) raw)
    (subst (λ (t : List ℕ). same_name raw.path t ≡ true) same (same_name-refl raw.path))

touched_elsewhere : (path : List ℕ) (last : ℕ) (raw : RawRow) → raw.path ≢ path → touched path last raw ≡ raw
touched_elsewhere path last raw differs =
    ap (λ (b : Bool). cond b (record { path = raw.path; body = raw.body; last = last }) raw)
    (false_from_ne_true (same_name raw.path path) (λ same. differs (same_name-eq raw.path path same)))

-- a row of which the state store has the bytes gets its last use
touch_one : (identity : ℕ) (row : Row) (kept : List KeptRow) (rows : List RawRow) → KeptAscend kept → HasBytesOf kept row → IsStore identity kept rows →
    IsStore identity (put_kept (kept_row row) kept) (map (touched (joined row.path) row.last) rows)
touch_one identity row kept rows asc has store = record {
  order = ascend_stored rows [] (touch_of row ∷ []) store.order;
  each = λ one among. elim (kept_from row kept one asc among) [
    | inl same ↦
        subst (λ (raw : RawRow). Contains (map (touched (joined row.path) row.last) rows) raw) (becomes ∙ ap (raw_row identity) same)
        (contains_map (touched (joined row.path) row.last) rows (raw_row identity has.old) (store.each has.old has.among))
    | inr (was, differs) ↦
        subst (λ (raw : RawRow). Contains (map (touched (joined row.path) row.last) rows) raw)
        (touched_elsewhere (joined row.path) row.last (raw_row identity one)
        (other_text one.path row.path (store.readable one was).placed placed (λ same. differs (sym same))))
        (contains_map (touched (joined row.path) row.last) rows (raw_row identity one) (store.each one was))
  ];
  others = λ raw among.
      let (was, within, same) = mapped_contains (touched (joined row.path) row.last) rows raw among in
      let of = store.others was within in
      from raw of.one of.among (ap (touched (joined row.path) row.last) (sym of.same) ∙ same) (same_names of.one.path row.path) refl;
  readable = λ one among. elim (kept_from row kept one asc among) [
    | inl same ↦ subst IsReadable same sound
    | inr (was, differs) ↦ store.readable one was
  ];
}
  where
    placed : is_path row.path ≡ true
    placed = subst (λ (p : List (List ℕ)). is_path p ≡ true) has.path (store.readable has.old has.among).placed

    raw_at : List (List ℕ) → List Flat → Bool → RawRow
    raw_at path tree new = record { path = joined path; body = row_bytes (cond new (Some identity) None) tree; last = row.last }

    like : (path : List (List ℕ)) (tree : List Flat) (new : Bool) → path ≡ row.path → tree ≡ row.tree → new ≡ true →
        raw_at path tree new ≡ raw_of identity row
    like path tree new here has_tree is_new =
        ap₂ (λ (p : List (List ℕ)) (t : List Flat). raw_at p t new) here has_tree ∙ ap (raw_at row.path row.tree) is_new

    sound : IsReadable (kept_row row)
    sound =
        let was = store.readable has.old has.among in record {
          placed = placed;
          whole = subst IsTree has.tree was.whole;
          nodes = subst (All IsNode) has.tree was.nodes;
        }

    becomes : touched (joined row.path) row.last (raw_row identity has.old) ≡ raw_of identity row
    becomes =
        touched_there (joined row.path) row.last (raw_row identity has.old) (ap joined has.path)
        ∙ like has.old.path has.old.tree has.old.new has.path has.tree has.new

    from : (raw : RawRow) (one : KeptRow) → Contains kept one → touched (joined row.path) row.last (raw_row identity one) ≡ raw → (b : Bool) →
        same_names one.path row.path ≡ b → IsOneOf identity (put_kept (kept_row row) kept) raw
    from raw one among is true same =
        let old : one ≡ has.old = kept_once kept one has.old asc among has.among (same_names-eq one.path row.path same ∙ sym has.path) in record {
          one = kept_row row;
          among = kept_put (kept_row row) kept;
          same = sym is ∙ ap (λ (k : KeptRow). touched (joined row.path) row.last (raw_row identity k)) old ∙ becomes;
        }
    from raw one among is false other =
        let differs : one.path ≢ row.path = same_names_false one.path row.path other in record {
          one = one;
          among = kept_stays (kept_row row) kept one (λ same. differs (sym same)) among;
          same = sym is ∙ touched_elsewhere (joined row.path) row.last (raw_row identity one) (other_text one.path row.path (store.readable one among).placed placed differs);
        }

pub store_touched : (identity : ℕ) (some : List Row) (kept : List KeptRow) (rows : List RawRow) → KeptAscend kept → AreOfPaths some →
    ((row : Row) → Contains some row → HasBytesOf kept row) → IsStore identity kept rows →
    IsStore identity (store_rows some kept) (touch_all rows (map touch_of some))
store_touched identity [] kept rows asc once has store = store
store_touched identity (row ∷ some) kept rows asc once has store =
    store_touched identity some (put_kept (kept_row row) kept) (map (touched (joined row.path) row.last) rows) (store_ascends (row ∷ []) kept asc)
    (λ one other first second. once one other (contains_more row some one first) (contains_more row some other second))
    (λ other within.
    bytes_stay row other kept (once row other (contains_first row some) (contains_more row some other within)) (has other (contains_more row some other within)))
    (touch_one identity row kept rows asc (has row (contains_first row some)) store)

-- ---- rows that stand

-- the same rows of different paths are stored, in one order or in another
pub same_stored : (some others : List Row) (kept : List KeptRow) (one : KeptRow) → KeptAscend kept → AreOfPaths others →
    ((row : Row) → Contains some row → Contains others row) → ((row : Row) → Contains others row → Contains some row) →
    Contains (store_rows some kept) one → Contains (store_rows others kept) one
same_stored some others kept one asc once to from among =
    in_stored others kept one once
    (elim (stored_cases some kept one asc among) [
      | inl (row, within, same) ↦ inl (row, to row within, same)
      | inr (was, differ) ↦ inr (was, λ row within. differ row (from row within))
    ])

-- of rows that are apart no two are at one path
pub apart_once : (rows : List Row) (row other : Row) → are_apart rows ≡ true → Contains rows row → Contains rows other → row.path ≡ other.path → row ≡ other
apart_once rows row other apart among also same =
    apart_same rows row other apart among also (subst (λ (p : List (List ℕ)). overlap row.path p ≡ true) same (overlap-refl row.path))

-- the rows that are due are stored: the bytes of some are put, and others get their last use
pub store_flushed : (identity : ℕ) (rows : List Row) (jobs : List Job) (kept : List KeptRow) (written changed : List Row) (old : List RawRow) →
    are_apart rows ≡ true → IsStored rows jobs kept → AreSplit kept (filter (is_due kept) rows) written changed →
    ((row : Row) → Contains written row → IsReadable (kept_row row)) → IsStore identity kept old →
    IsStore identity (store_rows (filter (is_due kept) rows) kept) (touch_all (put_all old (map (raw_of identity) written)) (map touch_of changed))
store_flushed identity rows jobs kept written changed old apart stored split sound store =
    store_same identity (store_rows changed middle) (store_rows due kept) (touch_all (put_all old (map (raw_of identity) written)) (map touch_of changed)) to from
    (store_touched identity changed middle (put_all old (map (raw_of identity) written)) up
    (λ row other first second. once row other (split.touches row first) (split.touches other second))
    (λ row within. bytes_stay_all written row kept (λ other first same. once other row (split.puts other first) (split.touches row within) same) (has row within))
    (store_put identity written kept old stored.order sound store))
  where
    due : List Row
    due = filter (is_due kept) rows

    middle : List KeptRow
    middle = store_rows written kept

    up : KeptAscend middle
    up = store_ascends written kept stored.order

    once : (row other : Row) → Contains due row → Contains due other → row.path ≡ other.path → row ≡ other
    once row other first second same =
        apart_once rows row other apart (filtered_contains (is_due kept) rows row first).0 (filtered_contains (is_due kept) rows other second).0 same

    has : (row : Row) → Contains changed row → HasBytesOf kept row
    has row within =
        let (among, is) = filtered_contains (is_due kept) rows row (split.touches row within) in
        let (one, there, at) = any_contains (is_new_at row) kept (split.stored row within) in
        let parts = and_parts (same_names one.path row.path) one.new at in
        let path : one.path ≡ row.path = same_names-eq one.path row.path parts.0 in
        let of = stored.stands one row there among (and_parts row.stands (not (list_any (is_stored_as row) kept)) is).0
        (subst (λ (p : List (List ℕ)). overlap one.path p ≡ true) path (overlap-refl one.path)) in
        record { old = one; among = there; path = path; tree = of.tree; new = parts.1 }

    to : (one : KeptRow) → Contains (store_rows changed middle) one → Contains (store_rows due kept) one
    to one among =
        in_stored due kept one once
        (elim (stored_cases changed middle one up among) [
          | inl (row, within, same) ↦ inl (row, split.touches row within, same)
          | inr (was, untouched) ↦ elim (stored_cases written kept one stored.order was) [
            | inl (row, within, same) ↦ inl (row, split.puts row within, same)
            | inr (before, unwritten) ↦ inr (
              before,
              λ row within. elim (split.each row within) [
                | inl first ↦ unwritten row first
                | inr second ↦ untouched row second
              ],
            )
          ]
        ])

    again : (row : Row) (b : Bool) → Contains due row → list_any (is_at_path row.path) changed ≡ b → Contains middle (kept_row row) →
        IsStoredBy changed middle (kept_row row)
    again row true within there was =
        let (other, among, at) = any_contains (is_at_path row.path) changed there in
        inl (other, among, ap kept_row (once other row (split.touches other among) within (same_names-eq other.path row.path at)))
    again row false within none was =
        inr (was, λ other among. same_names_false other.path row.path (each_fails (is_at_path row.path) changed other none among))

    by : (one : KeptRow) → IsStoredBy due kept one → IsStoredBy changed middle one
    by one (inl (row, within, same)) = elim (split.each row within) [
      | inl first ↦
          subst (IsStoredBy changed middle) same
          (again row (list_any (is_at_path row.path) changed) within refl
          (in_stored written kept (kept_row row) (λ a b first second. once a b (split.puts a first) (split.puts b second)) (inl (row, first, refl))))
      | inr second ↦ inl (row, second, same)
    ]
    by one (inr (was, differ)) =
        inr (
          in_stored written kept one (λ a b first second. once a b (split.puts a first) (split.puts b second))
              (inr (was, λ row within. differ row (split.puts row within))),
          λ row within. differ row (split.touches row within),
        )

    from : (one : KeptRow) → Contains (store_rows due kept) one → Contains (store_rows changed middle) one
    from one among =
        in_stored changed middle one (λ row other first second. once row other (split.touches row first) (split.touches other second))
        (by one (stored_cases due kept one stored.order among))

-- rows are split by whether the state store has their bytes
pub bytes_split : (kept : List KeptRow) (some : List Row) → AreSplit kept some (filter (wants_bytes kept) some) (filter (has_bytes kept) some)
bytes_split kept some = record {
  each = λ row within. by row within (has_bytes kept row) refl;
  puts = λ row within. (filtered_contains (wants_bytes kept) some row within).0;
  touches = λ row within. (filtered_contains (has_bytes kept) some row within).0;
  stored = λ row within. (filtered_contains (has_bytes kept) some row within).1;
}
  where
    by : (row : Row) → Contains some row → (b : Bool) → has_bytes kept row ≡ b →
        Contains (filter (wants_bytes kept) some) row ⊎ Contains (filter (has_bytes kept) some) row
    by row within true is = inr (contains_filter (has_bytes kept) some row is within)
    by row within false is = inl (contains_filter (wants_bytes kept) some row (ap not is) within)

-- ---- rows that are told

raw_is : (identity : ℕ) (raw : RawRow) (one : KeptRow) → IsReadAs identity raw one → raw ≡ raw_row identity one
raw_is identity raw one read =
    ap₂ (λ (p b : List ℕ). with_last p b raw.last) (spelled raw.path one.path read.path).0 read.body.text
    ∙ ap (λ (n : ℕ). with_last (joined one.path) (row_bytes (identity_of identity one) one.tree) n) read.last
  where
    with_last : List ℕ → List ℕ → ℕ → RawRow
    with_last path body last = record { path = path; body = body; last = last }

can_be_read : (identity : ℕ) (raw : RawRow) (one : KeptRow) → IsReadAs identity raw one → IsReadable one
can_be_read identity raw one read = record { placed = (spelled raw.path one.path read.path).1; whole = read.body.tree; nodes = read.body.nodes }

pub store_told : (identity : ℕ) (kept : List KeptRow) (rows : List RawRow) → ascend rows ≡ true →
    ((raw : RawRow) → Contains rows raw → IsReadAmong identity kept raw) → ((one : KeptRow) → Contains kept one → IsReadFrom identity rows one) →
    IsStore identity kept rows
store_told identity kept rows up read from = record {
  order = up;
  each = λ one among. let of = from one among in subst (Contains rows) (raw_is identity of.raw one of.read) of.among;
  others = λ raw among. let of = read raw among in record { one = of.one; among = of.among; same = raw_is identity raw of.one of.read };
  readable = λ one among. let of = from one among in can_be_read identity of.raw one of.read;
}

pub store_none : (identity : ℕ) → IsStore identity [] []
store_none identity = record {
  order = refl;
  each = λ one among. absurd (none_there among);
  others = λ raw among. absurd (none_there among);
  readable = λ one among. absurd (none_there among);
}

-- one row more is told, and is put into its place
pub store_next : (identity : ℕ) (one : KeptRow) (kept : List KeptRow) (raw : RawRow) (rows : List RawRow) → ascend (rows ++ raw ∷ []) ≡ true →
    IsReadAs identity raw one → IsStore identity kept rows → IsStore identity (put_kept one kept) (rows ++ raw ∷ [])
store_next identity one kept raw rows up read store = record {
  order = up;
  each = λ k among. elim (put_among one kept k among) [
    | inl same ↦
        subst (λ (r : KeptRow). Contains (rows ++ raw ∷ []) (raw_row identity r)) same
        (subst (Contains (rows ++ raw ∷ [])) is (Contains-append_right rows (raw ∷ []) raw (contains_first raw [])))
    | inr was ↦ Contains-append_left rows (raw ∷ []) (raw_row identity k) (store.each k was)
  ];
  others = λ r among. elim (Contains-append_cases rows (raw ∷ []) r among) [
    | inl before ↦
        let of = store.others r before in record {
          one = of.one;
          among = kept_stays one kept of.one
              (λ same.
              last_differs rows raw r up before
              (ap (λ (w : RawRow). w.path) of.same ∙ ap joined (sym same) ∙ sym (ap (λ (w : RawRow). w.path) is)))
              of.among;
          same = of.same;
        }
    | inr last ↦ elim (contains_cases raw [] r last) [
      | inl same ↦ record { one = one; among = kept_put one kept; same = sym same ∙ is }
      | inr none ↦ absurd (none_there none)
    ]
  ];
  readable = λ k among. elim (put_among one kept k among) [
    | inl same ↦ subst IsReadable same (can_be_read identity raw one read)
    | inr was ↦ store.readable k was
  ];
}
  where
    is : raw ≡ raw_row identity one
    is = raw_is identity raw one read

-- a row is read as a kept one, where its identity, if it has one, is the daemon's
pub row_read_as : (identity : ℕ) (raw : RawRow) (path : List (List ℕ)) (row : KeptTree) → path_of raw.path ≡ Some path → IsRow raw.body row →
    ((found : ℕ) → row.identity ≡ Some found → found ≡ identity) → IsReadAs identity raw (kept_read path row raw)
row_read_as identity raw path row spells is own = record { path = spells; body = by row.identity refl; last = refl }
  where
    by : (o : Option ℕ) → row.identity ≡ o → IsRow raw.body (record { tree = row.tree; identity = cond (is_some o) (Some identity) None })
    by None none = subst (λ (i : Option ℕ). IsRow raw.body (record { tree = row.tree; identity = i })) none is
    by (Some found) some =
        subst (λ (i : Option ℕ). IsRow raw.body (record { tree = row.tree; identity = i })) (some ∙ ap (λ (n : ℕ). Some n) (own found some)) is

-- the paths of those of the first version that aren't lost name them
pub old_named : (lost : List (List (List ℕ))) (kept : List KeptRow) (one : KeptRow) → KeptAscend kept → Contains kept one → is_found lost one ≡ true →
    list_any (same_names one.path) (map path_of_kept (filter is_old (filter (is_found lost) kept))) ≡ not one.new
old_named lost kept one asc among found =
    listed_named is_old (filter (is_found lost) kept) one (ascends_filtered path_of_kept (is_found lost) kept asc)
    (contains_filter (is_found lost) kept one found among)

-- the rows of an opening are kept as they were, where the first version's are those that it names
found_kept : (opening : Opening) (stamp : ℕ) (kept : List KeptRow) →
    ((one : KeptRow) → Contains kept one → list_any (same_names one.path) opening.version1 ≡ not one.new) →
    map (kept_at_opening opening) (found_rows stamp kept) ≡ kept
found_kept opening stamp [] names = refl
found_kept opening stamp (one ∷ kept) names =
    ap₂ (λ (k : KeptRow) (ks : List KeptRow). k ∷ ks)
    (ap (λ (new : Bool). with_new new) (ap not (names one (contains_first one kept)) ∙ twice one.new))
    (found_kept opening (stamp + 1) kept (λ other within. names other (contains_more one kept other within)))
  where
    with_new : Bool → KeptRow
    with_new new = record { path = one.path; tree = one.tree; last = one.last; new = new }

    twice : (b : Bool) → not (not b) ≡ b
    twice true = refl
    twice false = refl

pub opening_kept : (opening : Opening) (lost : List (List (List ℕ))) (kept : List KeptRow) → opening.rows ≡ opening_rows lost kept →
    ((one : KeptRow) → Contains kept one → is_found lost one ≡ true → list_any (same_names one.path) opening.version1 ≡ not one.new) →
    (opened opening).kept ≡ filter (is_found lost) kept
opening_kept opening lost kept is names =
    ap (map (kept_at_opening opening)) is
    ∙ found_kept opening 0 (filter (is_found lost) kept)
    (λ one within. let (among, found) = filtered_contains (is_found lost) kept one within in names one among found)

pub opening_store : (identity : ℕ) (opening : Opening) (kept : List KeptRow) (rows : List RawRow) → opening.rows ≡ opening_rows opening.lost kept →
    ((path : List (List ℕ)) → Contains opening.lost path → Contains (map path_of_kept kept) path) →
    ((one : KeptRow) → Contains kept one → is_found opening.lost one ≡ true → list_any (same_names one.path) opening.version1 ≡ not one.new) →
    IsStore identity kept rows → IsStore identity (opened opening).kept (remove_all rows opening.lost)
opening_store identity opening kept rows is ours names store =
    subst (λ (ks : List KeptRow). IsStore identity ks (remove_all rows opening.lost)) (sym (opening_kept opening opening.lost kept is names))
    (store_removed identity (is_lost opening.lost) kept rows opening.lost (record {
      exact = λ one among. refl;
      placed = λ path named.
          let (one, among, same) = mapped_contains path_of_kept kept path (ours path named) in
          subst (λ (p : List (List ℕ)). is_path p ≡ true) same (store.readable one among).placed;
    }) store)
