-- What each call does to the row at a path.
use Rattle.std.proofs.Common.{◌≡◌, ℕ, Bool, true, false, not, cond, List, [], ◌∷◌, map, Option, Some, None, Less, Equal, Greater, refl, sym, ap, ap₂, ◌∙◌}
use Rattle.std.proofs.lemmas.Bool.{or_parts}
use Rattle.std.proofs.lemmas.Cmp.{nat_list_cmp_total, nat_list_eq_equiv}
use Rattle.std.proofs.lemmas.List.Folds.{find-append}
use Rattle.std.proofs.lemmas.Map.Text.{is_eq-slice_cmp}
use Rattle.std.specs.List.{filter}
use Rattle.std.specs.Option.{option_map, option_or}
use Rattle.std.specs.Ordering.{is_eq, is_lt, ordering_reverse}
use Rattle.std.specs.declared.cmp.Ordering.{Ordering}
use Rattle.mat_io.specs.declared.answer.Did.{Did}
use Rattle.mat_io.specs.declared.answer.Did.TheVariants as did
use Rattle.mat_path.proofs.SameNames.{same_name-eq}
use Rattle.mat_path.specs.Names.{joined, name_cmp, same_name}
use Rattle.keep_port.proofs.Ordered.{ascend_removed, ascend_stored, same_path}
use Rattle.keep_port.specs.Places.{is_removed, is_same, is_stored, is_touched, row_at, stands_at, touches_at}
use Rattle.keep_port.specs.Rows.{after_remove, after_store, ascend, is_elsewhere, is_greater, is_less, put, put_all, remove_all, touch_all, touched}
use Rattle.keep_port.specs.declared.row.RawRow.{RawRow}
use Rattle.keep_port.specs.declared.row.Touch.{Touch}

-- the same either way
either_way : (b : Bool) (o : Option RawRow) → o ≡ cond b o o
either_way true o = refl
either_way false o = refl

-- of rows that are kept by a test which says the same of all rows at a path, the one at the path
row_of_kept : (path : List ℕ) (q : RawRow → Bool) (b : Bool) (rows : List RawRow) → ((row : RawRow) → stands_at path row ≡ true → q row ≡ b) →
    row_at path (filter q rows) ≡ cond b (row_at path rows) None
row_of_kept path q b [] says = either_way b None
row_of_kept path q b (row ∷ rows) says = by (stands_at path row) (q row) b refl refl refl (row_of_kept path q b rows says)
  where
    by : (here kept said : Bool) → stands_at path row ≡ here → q row ≡ kept → b ≡ said → row_at path (filter q rows) ≡ cond said (row_at path rows) None →
        row_at path (cond kept (row ∷ filter q rows) (filter q rows)) ≡ cond said (cond here (Some row) (row_at path rows)) None
    by true true true at is b_is rest = ap (λ (t : Bool). cond t (Some row) (row_at path (filter q rows))) at
    by true true false at is b_is rest = absurd (let e : true ≡ false = sym is ∙ says row at ∙ b_is in cc)
    by true false true at is b_is rest = absurd (let e : false ≡ true = sym is ∙ says row at ∙ b_is in cc)
    by true false false at is b_is rest = rest
    by false true true at is b_is rest = ap (λ (t : Bool). cond t (Some row) (row_at path (filter q rows))) at ∙ rest
    by false true false at is b_is rest = ap (λ (t : Bool). cond t (Some row) (row_at path (filter q rows))) at ∙ rest
    by false false true at is b_is rest = rest
    by false false false at is b_is rest = rest

-- what a test of paths says of all rows at a path
at_path : (path : List ℕ) (test : List ℕ → Bool) (row : RawRow) → stands_at path row ≡ true → test row.path ≡ test path
at_path path test row at = ap test (same_name-eq row.path path at)

-- ---- one row more

-- the row at a path, by the order of its path and the path of the row that was put
put_by : (o : Ordering) (here : Option RawRow) (row : RawRow) →
    option_or (cond (is_lt (ordering_reverse o)) here None) (cond (is_eq o) (Some row) (cond (is_lt o) here None)) ≡ cond (is_eq o) (Some row) here
put_by Less here row = refl
put_by Equal here row = refl
put_by Greater None row = refl
put_by Greater (Some other) row = refl

pub row_at_put : (path : List ℕ) (rows : List RawRow) (row : RawRow) → row_at path (put rows row) ≡ cond (stands_at path row) (Some row) (row_at path rows)
row_at_put path rows row =
    let o : Ordering = name_cmp row.path path in
    let back : name_cmp path row.path ≡ ordering_reverse o = nat_list_cmp_total.antisymm path row.path in
    let same : stands_at path row ≡ is_eq o = sym (is_eq-slice_cmp row.path path) in
    find-append (stands_at path) (filter (is_less row.path) rows) (row ∷ filter (is_greater row.path) rows)
    ∙ ap₂ (λ (less greater : Option RawRow). option_or less (cond (stands_at path row) (Some row) greater))
    (row_of_kept path (is_less row.path) (is_lt (name_cmp path row.path)) rows (at_path path (λ p. is_lt (name_cmp p row.path))))
    (row_of_kept path (is_greater row.path) (is_lt o) rows (at_path path (λ p. is_lt (name_cmp row.path p))))
    ∙ ap₂ (λ (p : Ordering) (t : Bool). option_or (cond (is_lt p) (row_at path rows) None) (cond t (Some row) (cond (is_lt o) (row_at path rows) None))) back same
    ∙ put_by o (row_at path rows) row ∙ ap (λ (t : Bool). cond t (Some row) (row_at path rows)) (sym same)

row_at_put_all : (path : List ℕ) (old rows : List RawRow) → is_stored path rows ≡ false → row_at path (put_all old rows) ≡ row_at path old
row_at_put_all path old [] off = refl
row_at_put_all path old (row ∷ rows) off =
    let parts : (stands_at path row ≡ false) × (is_stored path rows ≡ false) = or_parts (stands_at path row) (is_stored path rows) off in
    row_at_put_all path (put old row) rows parts.1 ∙ row_at_put path old row ∙ ap (λ (t : Bool). cond t (Some row) (row_at path old)) parts.0

-- ---- another last use

pub row_at_touched : (path named : List ℕ) (last : ℕ) (rows : List RawRow) →
    row_at path (map (touched named last) rows) ≡ option_map (touched named last) (row_at path rows)
row_at_touched path named last [] = refl
row_at_touched path named last (row ∷ rows) =
    ap₂ (λ (t : Bool) (rest : Option RawRow). cond t (Some (touched named last row)) rest)
    (ap (λ (p : List ℕ). same_name p path) (same_path named last row)) (row_at_touched path named last rows)
    ∙ elim (stands_at path row) as
    (λ b. cond b (Some (touched named last row)) (option_map (touched named last) (row_at path rows))
    ≡ option_map (touched named last) (cond b (Some row) (row_at path rows))) [ true ↦ refl | false ↦ refl ]

-- the row at a path stays where each row there does
stays_where : (path : List ℕ) (f : RawRow → RawRow) (rows : List RawRow) → ((row : RawRow) → stands_at path row ≡ true → f row ≡ row) →
    option_map f (row_at path rows) ≡ row_at path rows
stays_where path f [] says = refl
stays_where path f (row ∷ rows) says = by (stands_at path row) refl (stays_where path f rows says)
  where
    by : (b : Bool) → stands_at path row ≡ b → option_map f (row_at path rows) ≡ row_at path rows →
        option_map f (cond b (Some row) (row_at path rows)) ≡ cond b (Some row) (row_at path rows)
    by true at rest = ap (λ (r : RawRow). Some r) (says row at)
    by false off rest = rest

symm : (a b : List ℕ) → same_name b a ≡ same_name a b
symm a b = nat_list_eq_equiv.symm b a

untouched : (path named : List ℕ) (last : ℕ) → same_name named path ≡ false → (row : RawRow) → stands_at path row ≡ true → touched named last row ≡ row
untouched path named last off row at =
    ap (λ (t : Bool). cond t (record { path = row.path; body = row.body; last = last }) row)
    (at_path path (λ p. same_name p named) row at ∙ symm named path ∙ off)

row_at_touch_all : (path : List ℕ) (rows : List RawRow) (touches : List Touch) → is_touched path touches ≡ false →
    row_at path (touch_all rows touches) ≡ row_at path rows
row_at_touch_all path rows [] off = refl
row_at_touch_all path rows (touch ∷ more) off =
    let parts : (touches_at path touch ≡ false) × (is_touched path more ≡ false) = or_parts (touches_at path touch) (is_touched path more) off in
    row_at_touch_all path (map (touched (joined touch.path) touch.last) rows) more parts.1
    ∙ row_at_touched path (joined touch.path) touch.last rows
    ∙ stays_where path (touched (joined touch.path) touch.last) rows (untouched path (joined touch.path) touch.last parts.0)

-- ---- rows that are removed

pub row_at_removed : (path gone : List ℕ) (rows : List RawRow) →
    row_at path (filter (is_elsewhere gone) rows) ≡ cond (same_name gone path) None (row_at path rows)
row_at_removed path gone rows =
    row_of_kept path (is_elsewhere gone) (not (same_name path gone)) rows (at_path path (λ p. not (same_name p gone)))
    ∙ ap (λ (t : Bool). cond (not t) (row_at path rows) None) (symm gone path)
    ∙ elim (same_name gone path) as (λ b. cond (not b) (row_at path rows) None ≡ cond b None (row_at path rows)) [ true ↦ refl | false ↦ refl ]

row_at_remove_all : (path : List ℕ) (rows : List RawRow) (paths : List (List (List ℕ))) → is_removed path paths ≡ false →
    row_at path (remove_all rows paths) ≡ row_at path rows
row_at_remove_all path rows [] off = refl
row_at_remove_all path rows (gone ∷ more) off =
    let parts : (is_same path gone ≡ false) × (is_removed path more ≡ false) = or_parts (is_same path gone) (is_removed path more) off in
    row_at_remove_all path (filter (is_elsewhere (joined gone)) rows) more parts.1
    ∙ row_at_removed path (joined gone) rows ∙ ap (λ (t : Bool). cond t None (row_at path rows)) parts.0

-- ---- the calls

pub store_leaves : (path : List ℕ) (rows : List RawRow) (touches : List Touch) (answer : Did) (old : List RawRow) →
    is_stored path rows ≡ false → is_touched path touches ≡ false → row_at path (after_store rows touches answer old) ≡ row_at path old
store_leaves path rows touches did.Done old off apart = row_at_touch_all path (put_all old rows) touches apart ∙ row_at_put_all path old rows off
store_leaves path rows touches did.Failed old off apart = refl
store_leaves path rows touches did.NoMemory old off apart = refl

pub remove_leaves : (path : List ℕ) (paths : List (List (List ℕ))) (answer : Did) (old : List RawRow) →
    is_removed path paths ≡ false → row_at path (after_remove paths answer old) ≡ row_at path old
remove_leaves path paths did.Done old off = row_at_remove_all path old paths off
remove_leaves path paths did.Failed old off = refl
remove_leaves path paths did.NoMemory old off = refl

pub store_keeps_order : (rows : List RawRow) (touches : List Touch) (answer : Did) (old : List RawRow) →
    ascend old ≡ true → ascend (after_store rows touches answer old) ≡ true
store_keeps_order rows touches did.Done old up = ascend_stored old rows touches up
store_keeps_order rows touches did.Failed old up = up
store_keeps_order rows touches did.NoMemory old up = up

pub remove_keeps_order : (paths : List (List (List ℕ))) (answer : Did) (old : List RawRow) → ascend old ≡ true → ascend (after_remove paths answer old) ≡ true
remove_keeps_order paths did.Done old up = ascend_removed old paths up
remove_keeps_order paths did.Failed old up = up
remove_keeps_order paths did.NoMemory old up = up
