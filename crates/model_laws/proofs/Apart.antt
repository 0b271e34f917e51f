-- Rows in strict order of which no two overlap: they stay so where a row is put at a clear place, and where each row keeps its path.
use Rattle.mat_path.proofs.Overlaps.{overlap-refl}
use Rattle.std.proofs.Common.{◌≡◌, ℕ, Bool, true, false, not, ◌&&◌, List, [], ◌∷◌, cond, Ordering, Less, Equal, Greater, refl, sym, ap, ap₂, subst, ◌∙◌, map}
use Rattle.std.specs.Ordering.{is_lt, ordering_reverse}
use Rattle.std.specs.List.{list_any, list_all}
use Rattle.std.proofs.lemmas.Bool.{and_from, and_parts, both_ways, not-true, or_parts}
use Rattle.mat_path.specs.Names.{overlap, path_cmp}
use Rattle.mat_path.proofs.PathLemmas.{lt_less, path_cmp_total, path_cmp_equal, overlap_comm}
use Rattle.mat_model.specs.declared.book.Row.{Row}
use Rattle.mat_model.specs.Rows.{are_apart, comes_before, is_apart, overlaps_row, put_row}

-- an answer the other way round, where it is neither Less nor Equal
pub turned_lt : (o : Ordering) → is_lt o ≡ false → (o ≡ Equal → ⊥) → is_lt (ordering_reverse o) ≡ true
turned_lt Less h differ = absurd cc
turned_lt Equal h differ = absurd (differ refl)
turned_lt Greater h differ = refl

-- of three paths in order the first comes before the last
pub before-trans : (p q r : List (List ℕ)) → comes_before p q ≡ true → comes_before q r ≡ true → comes_before p r ≡ true
before-trans p q r first second =
    let all : path_cmp p r ≡ Less =
    path_cmp_total.trans p q r (lt_less (path_cmp p q) first) (lt_less (path_cmp q r) second) in
    ap is_lt all

-- of two paths that don't overlap one comes before the other
pub before_other : (p q : List (List ℕ)) → comes_before p q ≡ false → overlap q p ≡ false → comes_before q p ≡ true
before_other p q later clear =
    ap is_lt (path_cmp_total.antisymm q p)
    ∙ turned_lt (path_cmp p q) later
    (λ tied. both_ways (overlap q p) clear
    (subst (λ (r : List (List ℕ)). overlap q r ≡ true) (sym (path_cmp_equal p q tied)) (overlap-refl q)))

-- the parts of being apart
pub apart_parts : (first second : Row) → is_apart first second ≡ true →
    (comes_before first.path second.path ≡ true) × (overlap first.path second.path ≡ false)
apart_parts first second apart =
    let parts = and_parts (comes_before first.path second.path) (not (overlap first.path second.path)) apart in
    (parts.0, not-true (overlap first.path second.path) parts.1)

-- and being apart from those parts
pub apart_from : (first second : Row) → comes_before first.path second.path ≡ true → overlap first.path second.path ≡ false →
    is_apart first second ≡ true
apart_from first second before clear =
    and_from (comes_before first.path second.path) (not (overlap first.path second.path)) before (ap not clear)

-- what is true of all rows and of the new one is true of all once that is put in
pub list_all-put_row : (p : Row → Bool) (new : Row) (rows : List Row) → p new ≡ true → list_all p rows ≡ true → list_all p (put_row new rows) ≡ true
list_all-put_row p new [] here all = and_from (p new) true here refl
list_all-put_row p new (row ∷ rows) here all =
    let parts = and_parts (p row) (list_all p rows) all in
    elim (comes_before new.path row.path) as
    (λ b. list_all p (cond b (new ∷ row ∷ rows) (row ∷ put_row new rows)) ≡ true) [
      | true ↦ and_from (p new) (p row && list_all p rows) here all
      | false ↦ and_from (p row) (list_all p (put_row new rows)) parts.0 (list_all-put_row p new rows here parts.1)
    ]

-- a row that is before another one is apart from all that this is apart from, where it overlaps none
before_all : (new row : Row) (rows : List Row) → comes_before new.path row.path ≡ true → list_all (is_apart row) rows ≡ true →
    list_any (overlaps_row new.path) rows ≡ false → list_all (is_apart new) rows ≡ true
before_all new row [] before all clear = refl
before_all new row (next ∷ rows) before all clear =
    let parts = and_parts (is_apart row next) (list_all (is_apart row) rows) all in
    let clears = or_parts (overlaps_row new.path next) (list_any (overlaps_row new.path) rows) clear in
    let here : is_apart new next ≡ true =
    apart_from new next (before-trans new.path row.path next.path before (apart_parts row next parts.0).0)
    (overlap_comm new.path next.path ∙ clears.0) in
    and_from (is_apart new next) (list_all (is_apart new) rows) here (before_all new row rows before parts.1 clears.1)

-- rows stay apart where one is put in that overlaps none of them
pub put_row-apart : (new : Row) (rows : List Row) → are_apart rows ≡ true → list_any (overlaps_row new.path) rows ≡ false →
    are_apart (put_row new rows) ≡ true
put_row-apart new [] apart clear = refl
put_row-apart new (row ∷ rows) apart clear =
    let parts = and_parts (list_all (is_apart row) rows) (are_apart rows) apart in
    let clears = or_parts (overlaps_row new.path row) (list_any (overlaps_row new.path) rows) clear in
    elim (comes_before new.path row.path) as
    (λ b. comes_before new.path row.path ≡ b → are_apart (cond b (new ∷ row ∷ rows) (row ∷ put_row new rows)) ≡ true) [
      | true ↦ λ before.
          let here : is_apart new row ≡ true = apart_from new row before (overlap_comm new.path row.path ∙ clears.0) in
          let more : list_all (is_apart new) rows ≡ true = before_all new row rows before parts.0 clears.1 in
          and_from (is_apart new row && list_all (is_apart new) rows) (list_all (is_apart row) rows && are_apart rows)
          (and_from (is_apart new row) (list_all (is_apart new) rows) here more) apart
      | false ↦ λ later.
          let here : is_apart row new ≡ true = apart_from row new (before_other new.path row.path later clears.0) clears.0 in
          and_from (list_all (is_apart row) (put_row new rows)) (are_apart (put_row new rows))
          (list_all-put_row (is_apart row) new rows here parts.0) (put_row-apart new rows parts.1 clears.1)
    ] refl

-- rows are apart exactly where they were, if each keeps its path
pub apart-map : (f : Row → Row) → ((row : Row) → (f row).path ≡ row.path) → (rows : List Row) → are_apart (map f rows) ≡ are_apart rows
apart-map f keeps [] = refl
apart-map f keeps (row ∷ rows) =
    ap₂ (λ (s t : Bool). s && t) (all_apart-map row rows) (apart-map f keeps rows)
  where
    all_apart-map : (first : Row) (others : List Row) → list_all (is_apart (f first)) (map f others) ≡ list_all (is_apart first) others
    all_apart-map first [] = refl
    all_apart-map first (other ∷ others) =
        let here : is_apart (f first) (f other) ≡ is_apart first other =
        ap₂ (λ (p q : List (List ℕ)). comes_before p q && not (overlap p q)) (keeps first) (keeps other) in
        ap₂ (λ (s t : Bool). s && t) here (all_apart-map first others)
