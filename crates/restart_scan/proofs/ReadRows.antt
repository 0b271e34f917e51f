-- Kept rows that are read one after the other, and put into their places.
use Rattle.std.proofs.Common.{◌==◌, ◌&&◌, ◌≤◌, nat_lt, IfOk, None, arith}
use Rattle.std.proofs.lemmas.List.{length-map}
use Rattle.std.specs.declared.alloc.Global.{Global}
use Rattle.std.specs.declared.vec.Vec.{Vec}
use Rattle.restart_scan.specs.Stores.{AreOf, IsAdded}
use Rattle.core_laws.specs.Stored.{IsReadable, raw_row}
use Rattle.std.proofs.lemmas.Bool.{and_from, and_parts}
use Rattle.std.specs.List.{list_all}
use Rattle.mat_tree.specs.Trees.{is_placed}
use Rattle.mat_tree.specs.declared.flat.Flat.{Flat}
use Rattle.row_bytes.specs.declared.row.KeptTree.{KeptTree}
use Rattle.restart_scan.specs.Opened.{AreKept, are_kept_apart, is_kept_placed}
use Rattle.restart_scan.specs.Rows.{allowed, kept_list, body_in, body_of, own_row, path_in, placed_at, strange, tree_in}
use Rattle.std.proofs.Common.{◌≡◌, ℕ, Bool, true, false, if◌then◌else◌, List, [], ◌∷◌, map, refl, sym, ap, subst, ◌∙◌, Result, Ok, Err, cond}
use Rattle.std.specs.BTreeMap.{insert_entry}
use Rattle.std.specs.Ordering.{is_lt, match_ordering}
use Rattle.std.specs.declared.cmp.Ordering.TheVariants.{Less, Equal, Greater}
use Rattle.mat_path.specs.Names.{path_cmp, same_names}
use Rattle.mat_path.proofs.PathLemmas.{path_cmp_equal}
use Rattle.mat_model.specs.Kept.{KeptRow, put_kept}
use Rattle.mat_model.specs.Rows.{comes_before}
use Rattle.restart_scan.specs.Rows.{kept_at, kept_in}
use Rattle.restart_scan.specs.declared.kept.Body.{Body}
use Rattle.mat_path.specs.Order.{same_names_ties}
use Rattle.std.specs.Ordering.{is_eq}
use Rattle.restart_scan.specs.Rows.{Adds, Read}
use Rattle.std.proofs.Common.{◌+◌, ◌<◌, length, drop, get_or, Option, Some}
use Rattle.std.proofs.lemmas.List.{drop_more}
use Rattle.mat_path.specs.Names.{overlap}
use Rattle.keep_port.specs.declared.row.RawRow.{RawRow}
use Rattle.restart_scan.specs.Rows.{Fails, IsPut, kept_view, overlap_behind, read_more, row_in, ◌>>=◌}
use Rattle.restart_scan.specs.declared.kept.Kept.{Kept}
use Rattle.restart_scan.specs.declared.refusal.ScanRefusal.{ScanRefusal}
use Rattle.restart_scan.specs.declared.refusal.ScanRefusal.TheVariants as refusal

-- an entry that is put into a map is a kept row in its place
kept-insert : (k : List (List ℕ)) (v : Body) (es : List (List (List ℕ) × Body)) →
    kept_in (insert_entry path_cmp es k v) ≡ put_kept (kept_at (k, v)) (kept_in es)
kept-insert k v [] = refl
kept-insert k v (e ∷ es) =
    let new : KeptRow = kept_at (k, v) in
    let rows : List KeptRow = kept_in es in
    subst
    (λ (b : Bool). kept_in (insert_entry path_cmp (e ∷ es) k v)
    ≡ cond b (new ∷ rows) (cond (comes_before k e.0) (new ∷ kept_at e ∷ rows) (kept_at e ∷ put_kept new rows))) (sym (same_names_ties k e.0))
    (elim (path_cmp k e.0) as
    (λ o. path_cmp k e.0 ≡ o → kept_in (match_ordering o ((k, v) ∷ e ∷ es) ((e.0, v) ∷ es) (e ∷ insert_entry path_cmp es k v))
    ≡ cond (is_eq o) (new ∷ rows) (cond (is_lt o) (new ∷ kept_at e ∷ rows) (kept_at e ∷ put_kept new rows))) [
      | Less ↦ λ h. refl
      | Equal ↦ λ h. ap (λ (p : List (List ℕ)). kept_at (p, v) ∷ rows) (sym (path_cmp_equal k e.0 h))
      | Greater ↦ λ h. ap (λ (l : List KeptRow). kept_at e ∷ l) (kept-insert k v es)
    ] refl)

-- a row that was read is put into its place in the map
pub puts : (read : Read (List (List ℕ) × Body)) (pair : List (List ℕ) × Body) (old new : List (List (List ℕ) × Body)) → read ≡ Ok pair →
    new ≡ insert_entry path_cmp old pair.0 pair.1 → Adds read (kept_in old) (kept_in new) (Ok tt)
puts read pair old new told put =
    subst (λ (r : Read (List (List ℕ) × Body)). Adds r (kept_in old) (kept_in new) (Ok tt)) (sym told) (ap kept_in put ∙ kept-insert pair.0 pair.1 old)

-- what is left of a list from an element on
left_from : {X : Type 0} (xs : List X) (i : ℕ) (x : X) → i < length xs → x ≡ get_or xs i x → drop i xs ≡ x ∷ drop (i + 1) xs
left_from {X} xs i x within at = drop_more xs i x within ∙ ap (λ (y : X). y ∷ drop (i + 1) xs) (sym at)

-- a first step that is refused refuses both
fails_first : {A B : Type 0} (why : ScanRefusal) (read : Read A) (f : A → Read B) → Fails why read → Fails why (read >>= f)
fails_first (refusal.KeeperFault note) read f h = absurd h
fails_first (refusal.DiskFault note) read f h = absurd h
fails_first {A} (refusal.BadPath text) read f h = ap (λ (r : Read A). r >>= f) h
fails_first {A} (refusal.BadRow path at) read f h = ap (λ (r : Read A). r >>= f) h
fails_first {A} (refusal.Foreign path found) read f h = ap (λ (r : Read A). r >>= f) h
fails_first {A} (refusal.Overlap first second) read f h = ap (λ (r : Read A). r >>= f) h
fails_first {A} (refusal.Rows count) read f h = ap (λ (r : Read A). r >>= f) h
fails_first refusal.NoMemory read f h = tt

-- rows that are left, from one on
reads_from : (identity : ℕ) (old : List KeptRow) (raws : List RawRow) (i : ℕ) (raw : RawRow) (all : Read (List KeptRow)) → i < length raws →
    raw ≡ get_or raws i raw → read_more identity old (drop i raws) ≡ all →
    (row_in identity raw >>= λ pair. read_more identity (put_kept (kept_at pair) old) (drop (i + 1) raws)) ≡ all
reads_from identity old raws i raw all within at h =
    subst (λ (l : List RawRow). read_more identity old l ≡ all) (left_from raws i raw within at) h

-- one row more is put into its place
pub reads_on : (identity : ℕ) (old new : List KeptRow) (raws : List RawRow) (i : ℕ) (raw : RawRow) (all : Read (List KeptRow)) → i < length raws →
    raw ≡ get_or raws i raw → IsPut (row_in identity raw) old new → read_more identity old (drop i raws) ≡ all →
    read_more identity new (drop (i + 1) raws) ≡ all
reads_on identity old new raws i raw all within at put h = on (row_in identity raw) put ∙ reads_from identity old raws i raw all within at h
  where
    on : (read : Read (List (List ℕ) × Body)) → IsPut read old new →
        read_more identity new (drop (i + 1) raws) ≡ (read >>= λ pair. read_more identity (put_kept (kept_at pair) old) (drop (i + 1) raws))
    on (Ok pair) here = ap (λ (rows : List KeptRow). read_more identity rows (drop (i + 1) raws)) here
    on (Err why) here = absurd here

-- or is refused, and so are all
pub reads_fail : (identity : ℕ) (old : List KeptRow) (raws : List RawRow) (i : ℕ) (raw : RawRow) (all : Read (List KeptRow)) (why : ScanRefusal) →
    i < length raws → raw ≡ get_or raws i raw → read_more identity old (drop i raws) ≡ all → Fails why (row_in identity raw) → Fails why all
reads_fail identity old raws i raw all why within at h fails =
    subst (Fails why) (reads_from identity old raws i raw all within at h)
    (fails_first why (row_in identity raw) (λ pair. read_more identity (put_kept (kept_at pair) old) (drop (i + 1) raws)) fails)

-- neighbours that overlap are the first
pub pair_found : (row next : Kept) (rest : List Kept) (i : ℕ) (all : Option (List (List ℕ) × List (List ℕ))) → i < length rest →
    next ≡ get_or rest i next → overlap row.path next.path ≡ true → overlap_behind (kept_view row) (map kept_view (drop i rest)) ≡ all →
    Some (row.path, next.path) ≡ all
pair_found row next rest i all within at meets h =
    sym (ap
    (λ (b : Bool). if b then Some (row.path, next.path) else overlap_behind (kept_view next) (map kept_view (drop (i + 1) rest))) meets)
    ∙ subst (λ (l : List Kept). overlap_behind (kept_view row) (map kept_view l) ≡ all) (left_from rest i next within at) h

-- neighbours that are apart are passed by
pub pair_passed : (row next : Kept) (rest : List Kept) (i : ℕ) (all : Option (List (List ℕ) × List (List ℕ))) → i < length rest →
    next ≡ get_or rest i next → overlap row.path next.path ≡ false → overlap_behind (kept_view row) (map kept_view (drop i rest)) ≡ all →
    overlap_behind (kept_view next) (map kept_view (drop (i + 1) rest)) ≡ all
pair_passed row next rest i all within at apart h =
    sym (ap
    (λ (b : Bool). if b then Some (row.path, next.path) else overlap_behind (kept_view next) (map kept_view (drop (i + 1) rest))) apart)
    ∙ subst (λ (l : List Kept). overlap_behind (kept_view row) (map kept_view l) ≡ all) (left_from rest i next within at) h

-- ---- what was read

-- a second step that gave a value
bind_ok : {A B : Type 0} (read : Read A) (f : A → Read B) (b : B) → (read >>= f) ≡ Ok b → (a : A) × (read ≡ Ok a) × (f a ≡ Ok b)
bind_ok (Ok a) f b h = (a, refl, h)
bind_ok (Err why) f b h = absurd cc

-- values that are given are the same
ok_same : {A : Type 0} (a b : A) → ◌≡◌ {A = Read A} (Ok a) (Ok b) → a ≡ b
ok_same {A} a b e = ap value_or e
  where
    value_or : Read A → A
    value_or (Ok x) = x
    value_or (Err why) = a

-- a tree that is placed
placed_ok : (path : List (List ℕ)) (kept whole : KeptTree) → placed_at path kept ≡ Ok whole →
    (list_all (is_placed path) whole.tree ≡ true)
placed_ok path kept whole h = by (list_all (is_placed path) kept.tree) refl h
  where
    by : (b : Bool) → list_all (is_placed path) kept.tree ≡ b →
        ◌≡◌ {A = Read KeptTree} (if b then Ok kept else Err (refusal.BadRow path 0)) (Ok whole) → list_all (is_placed path) whole.tree ≡ true
    by true all same = subst (λ (k : KeptTree). list_all (is_placed path) k.tree ≡ true) (ok_same kept whole same) all
    by false all same = absurd cc

-- the row that was made of a tree has it
abbrev tree_in_body : Body → List Flat
tree_in_body body = body.tree

own_tree : (identity : ℕ) (path : List (List ℕ)) (tree : List Flat) (last : ℕ) (number : Option ℕ) (body : Body) →
    own_row identity path tree last number ≡ Ok body → tree ≡ body.tree
own_tree identity path tree last None body h = ap tree_in_body (ok_same (body_of tree last false) body h)
own_tree identity path tree last (Some found) body h = by (found == identity) h
  where
    by : (b : Bool) → ◌≡◌ {A = Read Body} (if b then Ok (body_of tree last true) else strange path found) (Ok body) → tree ≡ body.tree
    by true e = ap tree_in_body (ok_same (body_of tree last true) body e)
    by false e = absurd cc

-- a row that was read has a tree each of whose nodes is at a path
row_placed : (identity : ℕ) (raw : RawRow) (pair : List (List ℕ) × Body) → row_in identity raw ≡ Ok pair → is_kept_placed (kept_at pair) ≡ true
unfolding row_in body_in
row_placed identity raw pair h =
    let first = bind_ok (path_in raw.path) (λ path. body_in identity path raw >>= λ body. Ok (path, body)) pair h in
    let second = bind_ok (body_in identity first.0 raw) (λ body. Ok (first.0, body)) pair first.2 in
    let third = bind_ok (tree_in first.0 raw.body)
    (λ kept. placed_at first.0 kept >>= λ whole. own_row identity first.0 whole.tree raw.last whole.identity) second.0 second.1 in
    let fourth = bind_ok (placed_at first.0 third.0) (λ whole. own_row identity first.0 whole.tree raw.last whole.identity) second.0 third.2 in
    subst (λ (p : List (List ℕ) × Body). is_kept_placed (kept_at p) ≡ true) (ok_same (first.0, second.0) pair second.2)
    (subst (λ (t : List Flat). list_all (is_placed first.0) t ≡ true)
    (own_tree identity first.0 fourth.0.tree raw.last fourth.0.identity second.0 fourth.2) (placed_ok first.0 third.0 fourth.0 fourth.1))

-- what is true of all kept rows and of the new one is true of all once that is put in
all_put : (p : KeptRow → Bool) (new : KeptRow) (rows : List KeptRow) → p new ≡ true → list_all p rows ≡ true → list_all p (put_kept new rows) ≡ true
all_put p new [] here all = and_from (p new) true here refl
all_put p new (row ∷ rows) here all =
    let parts = and_parts (p row) (list_all p rows) all in
    elim (same_names new.path row.path) as
    (λ b. list_all p (cond b (new ∷ rows) (cond (comes_before new.path row.path) (new ∷ row ∷ rows) (row ∷ put_kept new rows))) ≡ true) [
      | true ↦ and_from (p new) (list_all p rows) here parts.1
      | false ↦
          elim (comes_before new.path row.path) as (λ b. list_all p (cond b (new ∷ row ∷ rows) (row ∷ put_kept new rows)) ≡ true) [
            | true ↦ and_from (p new) (p row && list_all p rows) here all
            | false ↦ and_from (p row) (list_all p (put_kept new rows)) parts.0 (all_put p new rows here parts.1)
          ]
    ]

-- rows that were read have trees each of whose nodes is at a path
pub read_placed : (identity : ℕ) (some kept : List KeptRow) (raws : List RawRow) → list_all is_kept_placed some ≡ true →
    read_more identity some raws ≡ Ok kept → list_all is_kept_placed kept ≡ true
read_placed identity some kept [] all h = subst (λ (rows : List KeptRow). list_all is_kept_placed rows ≡ true) (ok_same some kept h) all
read_placed identity some kept (raw ∷ raws) all h =
    let first = bind_ok (row_in identity raw) (λ pair. read_more identity (put_kept (kept_at pair) some) raws) kept h in
    read_placed identity (put_kept (kept_at first.0) some) kept raws
    (all_put is_kept_placed (kept_at first.0) some (row_placed identity raw first.0 first.1) all) first.2

-- no more kept rows than rows of the state store
put_few : (new : KeptRow) (rows : List KeptRow) → length (put_kept new rows) ≤ length rows + 1
put_few new [] = omega arith
put_few new (row ∷ rows) = by (same_names new.path row.path) (comes_before new.path row.path) (put_few new rows)
  where
    by : (a b : Bool) → length (put_kept new rows) ≤ length rows + 1 →
        length (cond a (new ∷ rows) (cond b (new ∷ row ∷ rows) (row ∷ put_kept new rows))) ≤ length (row ∷ rows) + 1
    by true b h = omega arith
    by false true h = omega arith
    by false false h = omega (arith, h)

pub read_few : (identity : ℕ) (some kept : List KeptRow) (raws : List RawRow) → read_more identity some raws ≡ Ok kept →
    length kept ≤ length some + length raws
read_few identity some kept [] h = subst (λ (rows : List KeptRow). length rows ≤ length some + 0) (ok_same some kept h) (omega arith)
read_few identity some kept (raw ∷ raws) h =
    let first = bind_ok (row_in identity raw) (λ pair. read_more identity (put_kept (kept_at pair) some) raws) kept h in
    omega (arith, read_few identity (put_kept (kept_at first.0) some) kept raws first.2, put_few (kept_at first.0) some)

-- rows that are allowed are few
pub allowed_few : (most : ℕ) (raws some : List RawRow) → allowed most raws ≡ Ok some → length raws ≤ most
allowed_few most raws some h = by (nat_lt most (length raws)) refl h
  where
    by : (b : Bool) → nat_lt most (length raws) ≡ b → ◌≡◌ {A = Read (List RawRow)} (if b then Err (refusal.Rows (length raws)) else Ok raws) (Ok some) →
        length raws ≤ most
    by true less e = absurd cc
    by false most_is e = search (arith, most_is)

-- what was read is what is given
pub kept_result : (rows : Vec Kept Global) (result : Result (Vec Kept Global) ScanRefusal) → IfOk result (λ out. out ≡ rows) →
    IfOk result (λ out. are_kept_apart (kept_list out) ≡ true) → list_all is_kept_placed (kept_list rows) ≡ true →
    IfOk result (λ out. AreKept (kept_list out))
kept_result rows (Ok out) same apart placed = record {
  apart = apart;
  placed = subst (λ (v : Vec Kept Global). list_all is_kept_placed (kept_list v) ≡ true) (sym same) placed;
}
kept_result rows (Err why) same apart placed = tt

pub few_result : (most : ℕ) (rows : Vec Kept Global) (result : Result (Vec Kept Global) ScanRefusal) → IfOk result (λ out. out ≡ rows) →
    length (kept_list rows) ≤ most → IfOk result (λ out. length out.items ≤ most)
few_result most rows (Ok out) same few =
    subst (λ (v : Vec Kept Global). length v.items ≤ most) (sym same) (subst (λ (n : ℕ). n ≤ most) (length-map rows.items kept_view) few)
few_result most rows (Err why) same few = tt

pub store_result : (identity : ℕ) (raws : List RawRow) (rows : Vec Kept Global) (result : Result (Vec Kept Global) ScanRefusal) →
    IfOk result (λ out. out ≡ rows) → AreOf identity (kept_list rows) raws → IfOk result (λ out. AreOf identity (kept_list out) raws)
store_result identity raws rows (Ok out) same are = subst (λ (v : Vec Kept Global). AreOf identity (kept_list v) raws) (sym same) are
store_result identity raws rows (Err why) same are = tt

-- a row that was read was put into its place
pub adds : (identity : ℕ) (raw : RawRow) (pair : List (List ℕ) × Body) (old new : List (List (List ℕ) × Body)) → raw ≡ raw_row identity (kept_at pair) →
    IsReadable (kept_at pair) → new ≡ insert_entry path_cmp old pair.0 pair.1 → IsAdded identity raw (kept_in old) (kept_in new)
adds identity raw pair old new same readable put = record { one = kept_at pair; same = same; readable = readable; put = ap kept_in put ∙ kept-insert pair.0 pair.1 old }
