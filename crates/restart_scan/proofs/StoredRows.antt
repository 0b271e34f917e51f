-- The rows of the state store beside the kept rows that were read of them.
use Rattle.std.proofs.Common.{◌≡◌, ◌+◌, ◌<◌, ◌⊎◌, ◌||◌, ℕ, Bool, true, false, not, if◌then◌else◌, List, [], ◌∷◌, ◌++◌, map, filter, length, take, drop, get_or, Option, None, Some, cond, refl, sym, ap, ap₂, subst, ◌∙◌, inl, inr, arith}
use Rattle.std.proofs.lemmas.Bool.{and_parts, both_ways, false_from_ne_true, or_from, true≢false}
use Rattle.std.proofs.lemmas.List.{drop_more, take-append-drop, take_more}
use Rattle.std.proofs.lemmas.List.Elements.{Contains-append_cases, Contains-append_left, Contains-append_right}
use Rattle.std.proofs.lemmas.List.Splits.{join_with_byte-slice_split}
use Rattle.std.specs.List.{All, Contains, list_all, list_any}
use Rattle.std.specs.Ordering.{is_lt}
use Rattle.mat_path.specs.Names.{is_path, joined, name_cmp, overlap, path_of, pieces, same_names}
use Rattle.mat_path.proofs.Elements.{contains_cases, contains_first, contains_more}
use Rattle.mat_path.proofs.PathLemmas.{name_cmp-refl, path_cmp-refl}
use Rattle.mat_path.proofs.SameNames.{same_names-eq, same_names-refl}
use Rattle.keep_port.specs.Rows.{AreThese, ascend, is_greater}
use Rattle.keep_port.specs.declared.row.RawRow.{RawRow}
use Rattle.model_laws.proofs.Elements.{contains_all}
use Rattle.mat_tree.specs.declared.flat.Flat.{Flat}
use Rattle.mat_model.specs.declared.opening.Opening.{Opening}
use Rattle.mat_model.specs.Kept.{KeptRow, kept_as, put_kept}
use Rattle.mat_model.specs.Openings.{found_row, found_rows, kept_at_opening}
use Rattle.mat_model.specs.Rows.{comes_before}
use Rattle.model_laws.specs.KeptRules.{path_of_kept}
use Rattle.mat_tree.specs.Trees.{IsNode, IsTree}
use Rattle.core_laws.specs.Stored.{IsOneOf, IsReadable, IsStore, identity_of, raw_row}
use Rattle.row_bytes.specs.Rows.{IsRow, row_bytes}
use Rattle.row_bytes.specs.declared.row.KeptTree.{KeptTree}
use Rattle.restart_scan.specs.Opened.{IsMadeOf, are_kept_apart, is_kept_before, is_old, old_paths}
use Rattle.restart_scan.specs.Rows.{kept_at}
use Rattle.restart_scan.specs.Stores.{AreOf, IsAdded, Stores, kept_rows_of}
use Rattle.restart_scan.specs.declared.kept.Body.{Body}

-- the text of a path that was read
pub path_text : (text : List ℕ) (path : List (List ℕ)) → path_of text ≡ Some path → joined path ≡ text
path_text text path h = by (is_path (pieces text)) h
  where
    by : (b : Bool) → (if b then Some (pieces text) else None) ≡ Some path → joined path ≡ text
    by true e = subst (λ (p : List (List ℕ)). joined p ≡ text) (same (pieces text) e) (join_with_byte-slice_split 47 text)
      where
        some_or : Option (List (List ℕ)) → List (List ℕ)
        some_or None = path
        some_or (Some p) = p

        same : (p : List (List ℕ)) → Some p ≡ Some path → p ≡ path
        same p k = ap some_or k
    by false e = absurd cc

-- ---- a row that is put into its place

put_has : (new : KeptRow) (rows : List KeptRow) → Contains (put_kept new rows) new
put_has new [] = contains_first new []
put_has new (row ∷ rows) = by (same_names new.path row.path) (comes_before new.path row.path) (put_has new rows)
  where
    by : (a b : Bool) → Contains (put_kept new rows) new → Contains (cond a (new ∷ rows) (cond b (new ∷ row ∷ rows) (row ∷ put_kept new rows))) new
    by true b h = contains_first new rows
    by false true h = contains_first new (row ∷ rows)
    by false false h = contains_more row (put_kept new rows) new h

put_from : (new : KeptRow) (rows : List KeptRow) (z : KeptRow) → Contains (put_kept new rows) z → (new ≡ z) ⊎ Contains rows z
put_from new [] z h = contains_cases new [] z h
put_from new (row ∷ rows) z h = by (same_names new.path row.path) (comes_before new.path row.path) (put_from new rows z) h
  where
    by : (a b : Bool) → (Contains (put_kept new rows) z → (new ≡ z) ⊎ Contains rows z) →
        Contains (cond a (new ∷ rows) (cond b (new ∷ row ∷ rows) (row ∷ put_kept new rows))) z → (new ≡ z) ⊎ Contains (row ∷ rows) z
    by true b more k =
        elim (contains_cases new rows z k) [
          | inl same ↦ inl same
          | inr there ↦ inr (contains_more row rows z there)
        ]
    by false true more k = contains_cases new (row ∷ rows) z k
    by false false more k =
        elim (contains_cases row (put_kept new rows) z k) [
          | inl same ↦ inr (subst (λ (r : KeptRow). Contains (row ∷ rows) r) same (contains_first row rows))
          | inr there ↦
              elim (more there) [
                | inl same ↦ inl same
                | inr among ↦ inr (contains_more row rows z among)
              ]
        ]

put_keeps : (new : KeptRow) (rows : List KeptRow) (z : KeptRow) → ((one : KeptRow) → Contains rows one → same_names new.path one.path ≡ false) →
    Contains rows z → Contains (put_kept new rows) z
put_keeps new [] z fresh h = contains_more new [] z h
put_keeps new (row ∷ rows) z fresh h =
    by (same_names new.path row.path) (comes_before new.path row.path) (fresh row (contains_first row rows))
    (put_keeps new rows z (λ one among. fresh one (contains_more row rows one among)))
  where
    by : (a b : Bool) → a ≡ false → (Contains rows z → Contains (put_kept new rows) z) →
        Contains (cond a (new ∷ rows) (cond b (new ∷ row ∷ rows) (row ∷ put_kept new rows))) z
    by true b other more = absurd (true≢false other)
    by false true other more = contains_more new (row ∷ rows) z h
    by false false other more =
        elim (contains_cases row rows z h) [
          | inl same ↦ subst (λ (r : KeptRow). Contains (row ∷ put_kept new rows) r) same (contains_first row (put_kept new rows))
          | inr there ↦ contains_more row (put_kept new rows) z (more there)
        ]

-- ---- rows of the state store, in their order

-- a row before another one has a lesser text
text_before : (front : List RawRow) (raw : RawRow) (behind : List RawRow) (x : RawRow) → ascend (front ++ raw ∷ behind) ≡ true → Contains front x →
    is_greater x.path raw ≡ true
text_before [] raw behind x up (k, within, at) = absurd (omega (arith, within))
text_before (y ∷ front) raw behind x up among =
    let parts = and_parts (list_all (is_greater y.path) (front ++ raw ∷ behind)) (ascend (front ++ raw ∷ behind)) up in
    elim (contains_cases y front x among) [
      | inl same ↦
          subst (λ (r : RawRow). is_greater r.path raw ≡ true) same
          (contains_all (is_greater y.path) (front ++ raw ∷ behind) raw parts.0
          (Contains-append_right front (raw ∷ behind) raw (contains_first raw behind)))
      | inr more ↦ text_before front raw behind x parts.1 more
    ]

-- a text isn't less than itself
text_itself : (text : List ℕ) → is_lt (name_cmp text text) ≡ false
text_itself text = ap is_lt (name_cmp-refl text)

-- nor is a path before itself
path_itself : (path : List (List ℕ)) → comes_before path path ≡ false
path_itself path = ap is_lt (path_cmp-refl path)

-- one row more of the state store was put into its place
pub kept_grows : (identity : ℕ) (raws : List RawRow) (i : ℕ) (raw : RawRow) (old now : List KeptRow) → ascend raws ≡ true → i < length raws →
    raw ≡ get_or raws i raw → IsAdded identity raw old now → AreOf identity old (take i raws) → AreOf identity now (take (i + 1) raws)
kept_grows identity raws i raw old now up within at added are = record { each = each; others = others; readable = readable }
  where
    more : take (i + 1) raws ≡ take i raws ++ raw ∷ []
    more = take_more raws i raw within ∙ ap (λ (x : RawRow). take i raws ++ x ∷ []) (sym at)

    whole : raws ≡ take i raws ++ raw ∷ drop (i + 1) raws
    whole = sym (take-append-drop i raws) ∙ ap (λ (l : List RawRow). take i raws ++ l)
        (drop_more raws i raw within ∙ ap (λ (x : RawRow). x ∷ drop (i + 1) raws) (sym at))

    fresh : (one : KeptRow) → Contains old one → same_names added.one.path one.path ≡ false
    fresh one among = false_from_ne_true (same_names added.one.path one.path) (λ same.
        both_ways (is_lt (name_cmp raw.path raw.path)) (text_itself raw.path)
        (subst (λ (text : List ℕ). is_lt (name_cmp text raw.path) ≡ true)
        (ap joined (sym (same_names-eq added.one.path one.path same)) ∙ sym (ap (λ (r : RawRow). r.path) added.same))
        (text_before (take i raws) raw (drop (i + 1) raws) (raw_row identity one)
        (subst (λ (l : List RawRow). ascend l ≡ true) whole up) (are.each one among))))

    each : (one : KeptRow) → Contains now one → Contains (take (i + 1) raws) (raw_row identity one)
    each one among = subst (λ (l : List RawRow). Contains l (raw_row identity one)) (sym more)
        (elim (put_from added.one old one (subst (λ (l : List KeptRow). Contains l one) added.put among)) [
          | inl same ↦
              Contains-append_right (take i raws) (raw ∷ []) (raw_row identity one)
              (subst (λ (r : RawRow). Contains (raw ∷ []) r) (added.same ∙ ap (raw_row identity) same) (contains_first raw []))
          | inr there ↦ Contains-append_left (take i raws) (raw ∷ []) (raw_row identity one) (are.each one there)
        ])

    readable : (one : KeptRow) → Contains now one → IsReadable one
    readable one among =
        elim (put_from added.one old one (subst (λ (l : List KeptRow). Contains l one) added.put among)) [
          | inl same ↦ subst IsReadable same added.readable
          | inr there ↦ are.readable one there
        ]

    others : (x : RawRow) → Contains (take (i + 1) raws) x → IsOneOf identity now x
    others x among =
        elim (Contains-append_cases (take i raws) (raw ∷ []) x (subst (λ (l : List RawRow). Contains l x) more among)) [
          | inl there ↦
              let before = are.others x there in
              record {
                one = before.one;
                among = subst (λ (l : List KeptRow). Contains l before.one) (sym added.put) (put_keeps added.one old before.one fresh before.among);
                same = before.same;
              }
          | inr last ↦
              elim (contains_cases raw [] x last) [
                | inl same ↦ record {
                  one = added.one;
                  among = subst (λ (l : List KeptRow). Contains l added.one) (sym added.put) (put_has added.one old);
                  same = sym same ∙ added.same;
                }
                | inr none ↦ absurd (omega (arith, none.1))
              ]
        ]

pub kept_begins : (identity : ℕ) → AreOf identity [] []
kept_begins identity = record {
  each = λ one among. absurd (omega (arith, among.1));
  others = λ raw among. absurd (omega (arith, among.1));
  readable = λ one among. absurd (omega (arith, among.1));
}

-- ---- the rows of an opening, as they are kept

-- no row behind one is at its path
none_behind : (row : KeptRow) (rest : List KeptRow) → list_all (is_kept_before row) rest ≡ true → list_any (same_names row.path) (old_paths rest) ≡ false
none_behind row [] all = refl
none_behind row (one ∷ rest) all =
    let parts = and_parts (is_kept_before row one) (list_all (is_kept_before row) rest) all in
    let here = and_parts (comes_before row.path one.path) (not (overlap row.path one.path)) parts.0 in
    by one.new (differs here.0) (none_behind row rest parts.1)
  where
    differs : comes_before row.path one.path ≡ true → same_names row.path one.path ≡ false
    differs before = false_from_ne_true (same_names row.path one.path) (λ same.
        both_ways (comes_before row.path row.path) (path_itself row.path)
        (subst (λ (p : List (List ℕ)). comes_before row.path p ≡ true) (sym (same_names-eq row.path one.path same)) before))

    by : (b : Bool) → same_names row.path one.path ≡ false → list_any (same_names row.path) (old_paths rest) ≡ false →
        list_any (same_names row.path) (map path_of_kept (cond (not b) (one ∷ filter is_old rest) (filter is_old rest))) ≡ false
    by true other none = none
    by false other none = or_from (same_names row.path one.path) (list_any (same_names row.path) (old_paths rest)) other none

-- a row behind another one is not at its path
other_behind : (row one : KeptRow) (rest : List KeptRow) → list_all (is_kept_before row) rest ≡ true → Contains rest one → same_names one.path row.path ≡ false
other_behind row one rest all among =
    let before = (and_parts (comes_before row.path one.path) (not (overlap row.path one.path)) (contains_all (is_kept_before row) rest one all among)).0 in
    false_from_ne_true (same_names one.path row.path) (λ same.
    both_ways (comes_before row.path row.path) (path_itself row.path)
    (subst (λ (p : List (List ℕ)). comes_before row.path p ≡ true) (same_names-eq one.path row.path same) before))

-- a row's path is among those of the first version where it is of that
version_of : (kept : List KeptRow) (one : KeptRow) → are_kept_apart kept ≡ true → Contains kept one → list_any (same_names one.path) (old_paths kept) ≡ not one.new
version_of [] one apart (k, within, at) = absurd (omega (arith, within))
version_of (row ∷ rest) one apart among =
    let parts = and_parts (list_all (is_kept_before row) rest) (are_kept_apart rest) apart in
    elim (contains_cases row rest one among) [
      | inl same ↦
          subst (λ (r : KeptRow). list_any (same_names r.path) (old_paths (row ∷ rest)) ≡ not r.new) same (first row.new (none_behind row rest parts.0))
      | inr there ↦ later row.new (other_behind row one rest parts.0 there) (version_of rest one parts.1 there)
    ]
  where
    first : (b : Bool) → list_any (same_names row.path) (old_paths rest) ≡ false →
        list_any (same_names row.path) (map path_of_kept (cond (not b) (row ∷ filter is_old rest) (filter is_old rest))) ≡ not b
    first true none = none
    first false none = ap (λ (b : Bool). b || list_any (same_names row.path) (old_paths rest)) (same_names-refl row.path)

    later : (b : Bool) → same_names one.path row.path ≡ false → list_any (same_names one.path) (old_paths rest) ≡ not one.new →
        list_any (same_names one.path) (map path_of_kept (cond (not b) (row ∷ filter is_old rest) (filter is_old rest))) ≡ not one.new
    later true other so = so
    later false other so = ap (λ (b : Bool). b || list_any (same_names one.path) (old_paths rest)) other ∙ so

-- rows that stand are kept as they were
again : (opening : Opening) (stamp : ℕ) (rest : List KeptRow) →
    ((one : KeptRow) → Contains rest one → list_any (same_names one.path) opening.version1 ≡ not one.new) →
    map (kept_at_opening opening) (found_rows stamp rest) ≡ rest
again opening stamp [] each = refl
again opening stamp (row ∷ rest) each =
    ap₂ (λ (r : KeptRow) (l : List KeptRow). r ∷ l)
    (ap (λ (b : Bool). kept_as (not b) (found_row stamp row)) (each row (contains_first row rest)) ∙ twice row.new)
    (again opening (stamp + 1) rest (λ one among. each one (contains_more row rest one among)))
  where
    twice : (b : Bool) → kept_as (not (not b)) (found_row stamp row) ≡ record { path = row.path; tree = row.tree; last = row.last; new = b }
    twice true = refl
    twice false = refl

pub kept_again : (kept : List KeptRow) (opening : Opening) → are_kept_apart kept ≡ true → opening.rows ≡ found_rows 0 kept →
    opening.version1 ≡ old_paths kept → kept_rows_of opening ≡ kept
kept_again kept opening apart rows version1 =
    ap (map (kept_at_opening opening)) rows
    ∙ again opening 0 kept (λ one among.
    subst (λ (ps : List (List (List ℕ))). list_any (same_names one.path) ps ≡ not one.new) (sym version1) (version_of kept one apart among))

-- ---- what the state store tells

-- an opening is kept as the kept rows that it was made of
pub stores_opening : (identity : ℕ) (told : Option (List RawRow)) (kept : List KeptRow) (opening : Opening) → are_kept_apart kept ≡ true →
    IsMadeOf kept [] opening.strays opening → Stores identity told kept → Stores identity told (kept_rows_of opening)
stores_opening identity told kept opening apart made stores = subst (λ (l : List KeptRow). Stores identity told l) (sym (kept_again kept opening apart made.rows made.version1)) stores

pub stores_told : (identity : ℕ) (told : Option (List RawRow)) (raws : List RawRow) (kept : List KeptRow) → AreThese told raws → ascend raws ≡ true →
    AreOf identity kept raws → Stores identity told kept
stores_told identity None raws kept these up are = tt
stores_told identity (Some those) raws kept these up are =
    subst (λ (l : List RawRow). IsStore identity kept l) these (record { order = up; each = are.each; others = are.others; readable = are.readable })

-- ---- one row

-- a row of the state store is that of the kept row that was read of it
pub row_same : (identity : ℕ) (raw : RawRow) (path : List (List ℕ)) (body : Body) → joined path ≡ raw.path →
    raw.body ≡ row_bytes (identity_of identity (kept_at (path, body))) body.tree → raw.last ≡ body.last → raw ≡ raw_row identity (kept_at (path, body))
row_same identity raw path body text bytes last = rebuilt (sym text) bytes last
  where
    rebuilt : {p b : List ℕ} {l : ℕ} → raw.path ≡ p → raw.body ≡ b → raw.last ≡ l → raw ≡ record { path = p; body = b; last = l }
    rebuilt {p} {b} {l} one two three =
        subst (λ (x : List ℕ). raw ≡ record { path = x; body = b; last = l }) one
        (subst (λ (x : List ℕ). raw ≡ record { path = raw.path; body = x; last = l }) two
        (subst (λ (x : ℕ). raw ≡ record { path = raw.path; body = raw.body; last = x }) three refl))

-- the bytes of a row, by what was made of it
pub body_same : (identity : ℕ) (bytes : List ℕ) (kept : KeptTree) (path : List (List ℕ)) (body : Body) → IsRow bytes kept → body.tree ≡ kept.tree →
    identity_of identity (kept_at (path, body)) ≡ kept.identity → bytes ≡ row_bytes (identity_of identity (kept_at (path, body))) body.tree
body_same identity bytes kept path body is tree number = is.text ∙ ap₂ (λ (n : Option ℕ) (t : List Flat). row_bytes n t) (sym number) (sym tree)

-- the row that was made of bytes at a path can be read back
pub body_readable : (bytes : List ℕ) (kept : KeptTree) (path : List (List ℕ)) (body : Body) → IsRow bytes kept → body.tree ≡ kept.tree →
    is_path path ≡ true → IsReadable (kept_at (path, body))
body_readable bytes kept path body is tree at = record {
  placed = at;
  whole = subst IsTree (sym tree) is.tree;
  nodes = subst (All IsNode) (sym tree) is.nodes;
}
