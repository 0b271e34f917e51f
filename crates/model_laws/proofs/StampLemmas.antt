-- The stamps of rows: they differ and are below the next number, and each names one path and one tree for good.
use Rattle.mat_path.proofs.Elements.{contains_cases, contains_first, contains_more, none_passes, each_fails}
use Rattle.mat_path.proofs.Overlaps.{overlap-refl}
use Rattle.std.proofs.Common.{◌≡◌, ◌≢◌, ℕ, suc, ◌+◌, ◌<◌, ◌≤◌, ◌==◌, true, List, [], ◌∷◌, Some, inl, inr, refl, sym, ap, subst, ◌∙◌, Contains, length, arith}
use Rattle.std.specs.List.{All, AllPairs, list_all}
use Rattle.std.proofs.lemmas.Bool.{and_parts, both_ways, eq-eqb, eqb-true, false_from_ne_true}
use Rattle.std.proofs.lemmas.List.Elements.{All-contains, All-cons, All-nil, All-weaker}
use Rattle.std.proofs.lemmas.List.Kept.{AllPairs-cons}
use Rattle.mat_path.specs.Names.{overlap}
use Rattle.mat_model.specs.declared.book.Row.{Row}
use Rattle.mat_model.specs.declared.entries.Entry.{Entry}
use Rattle.mat_model.specs.declared.entries.Event.TheVariants as event
use Rattle.mat_model.specs.declared.opening.Opening.{Opening}
use Rattle.mat_model.specs.History.{Point, after, after_all, next_number, opened, point_of}
use Rattle.mat_model.specs.Openings.{IsOpening, are_stamped}
use Rattle.mat_model.specs.Rows.{are_apart, is_apart}
use Rattle.mat_model.specs.WorkState.{has_stamp}
use Rattle.model_laws.specs.Laws.{declares}
use Rattle.model_laws.specs.RowRules.{AreStampedBelow, IsDeclaredBy, IsNoStamp, IsOtherStamp, IsSameRow, WasThere, served_at}
use Rattle.model_laws.proofs.Apart.{apart_parts}
use Rattle.model_laws.proofs.ApartLemmas.{history_apart}
use Rattle.model_laws.proofs.BooksKept.{next_more}
use Rattle.model_laws.proofs.BooksLists.{all_each}
use Rattle.model_laws.proofs.BooksRows.{apart_same}
use Rattle.model_laws.proofs.Elements.{contains_all}
use Rattle.model_laws.proofs.RowLemmas.{row_step}

-- of rows whose stamps differ, those of one stamp are one
pub one_stamp : (rows : List Row) (row other : Row) → AllPairs IsOtherStamp rows → Contains rows row → Contains rows other →
    row.stamp ≡ other.stamp → row ≡ other
one_stamp [] row other differ (k, within, at) also same = absurd (omega arith)
one_stamp (next ∷ rows) row other differ among also same =
    let head : All (IsOtherStamp next) rows = λ j d within. differ 0 (suc j) d (omega arith) (omega (arith, within)) in
    let tail : AllPairs IsOtherStamp rows = λ i j d lt within. differ (suc i) (suc j) d (omega (arith, lt)) (omega (arith, within)) in
    elim (contains_cases next rows row among) [
      | inl here ↦ elim (contains_cases next rows other also) [
        | inl too ↦ sym here ∙ too
        | inr more ↦ absurd (All-contains (IsOtherStamp next) rows other head more (ap (λ (r : Row). r.stamp) here ∙ same))
      ]
      | inr rest ↦ elim (contains_cases next rows other also) [
        | inl too ↦ absurd (All-contains (IsOtherStamp next) rows row head rest (ap (λ (r : Row). r.stamp) too ∙ sym same))
        | inr more ↦ one_stamp rows row other tail rest more same
      ]
    ]

-- where rows are apart and those of one stamp are one, their stamps differ
pub stamps_differ : (rows : List Row) → are_apart rows ≡ true →
    ((row other : Row) → Contains rows row → Contains rows other → row.stamp ≡ other.stamp → row ≡ other) → AllPairs IsOtherStamp rows
stamps_differ [] apart one = λ i j d lt within. absurd (omega (arith, lt, within))
stamps_differ (row ∷ rows) apart one =
    let parts = and_parts (list_all (is_apart row) rows) (are_apart rows) apart in
    AllPairs-cons IsOtherStamp row rows
    (all_each (IsOtherStamp row) rows (λ other among same.
    both_ways (overlap row.path other.path) (apart_parts row other (contains_all (is_apart row) rows other parts.0 among)).1
    (subst (λ (r : Row). overlap row.path r.path ≡ true) (one row other (contains_first row rows) (contains_more row rows other among) same)
    (overlap-refl row.path))))
    (stamps_differ rows parts.1 (λ first second among also. one first second (contains_more row rows first among) (contains_more row rows second also)))

-- what an entry declares is at one path
one_path : (point : Point) (entry : Entry) (row other : Row) →
    IsDeclaredBy point entry.event (served_at point entry).reply row → IsDeclaredBy point entry.event (served_at point entry).reply other →
    row.path ≡ other.path
one_path point entry row other first second =
    let same : event.Asked first.request ≡ event.Asked second.request = sym first.asks ∙ second.asks in
    let one : first.request ≡ second.request = cc in
    let path : Some row.path ≡ Some other.path = sym first.path ∙ ap declares one ∙ second.path in
    cc

-- the stamp of a row that was there is below the next number
old_below : (point : Point) (entry : Entry) (row : Row) → AreStampedBelow (next_number point) point.book.rows →
    WasThere point entry.event (served_at point entry).reply row → row.stamp < next_number point
old_below point entry row stamped was =
    subst (λ (n : ℕ). n < next_number point) (sym was.same.stamp)
    (All-contains (λ (r : Row). r.stamp < next_number point) point.book.rows was.old stamped.below was.among)

-- an entry leaves stamps that differ and are below the next number
pub entry_stamps : (point : Point) (entry : Entry) → are_apart point.book.rows ≡ true → AreStampedBelow (next_number point) point.book.rows →
    AreStampedBelow (next_number (after point entry)) (after point entry).book.rows
entry_stamps point entry apart stamped =
    subst (λ (n : ℕ). AreStampedBelow n rows) (sym (next_more point entry)) (record {
      differ = stamps_differ rows (history_apart point (entry ∷ []) apart) one;
      below = all_each (λ (row : Row). row.stamp < next_number point + 1) rows below;
    })
  where
    rows : List Row
    rows = (after point entry).book.rows

    path_one : (row other : Row) → Contains rows row → Contains rows other → row.path ≡ other.path → row ≡ other
    path_one row other among also same =
        apart_same rows row other (history_apart point (entry ∷ []) apart) among also
        (subst (λ (p : List (List ℕ)). overlap row.path p ≡ true) same (overlap-refl row.path))

    one : (row other : Row) → Contains rows row → Contains rows other → row.stamp ≡ other.stamp → row ≡ other
    one row other among also same =
        elim (row_step point entry row apart among) [
          | inl new ↦ elim (row_step point entry other apart also) [
            | inl too ↦ path_one row other among also (one_path point entry row other new too)
            | inr was ↦ let less = old_below point entry other stamped was in absurd (omega (arith, less, same, new.stamp))
          ]
          | inr was ↦ elim (row_step point entry other apart also) [
            | inl new ↦ let less = old_below point entry row stamped was in absurd (omega (arith, less, same, new.stamp))
            | inr too ↦
                let old : was.old ≡ too.old =
                one_stamp point.book.rows was.old too.old stamped.differ was.among too.among (sym was.same.stamp ∙ same ∙ too.same.stamp) in
                path_one row other among also (was.same.path ∙ ap (λ (r : Row). r.path) old ∙ sym too.same.path)
          ]
        ]

    below : (row : Row) → Contains rows row → row.stamp < next_number point + 1
    below row among =
        elim (row_step point entry row apart among) [
          | inl new ↦ omega (arith, new.stamp)
          | inr was ↦ let less = old_below point entry row stamped was in omega (arith, less)
        ]

-- a history leaves them so
pub history_stamps : (point : Point) (later : List Entry) → are_apart point.book.rows ≡ true → AreStampedBelow (next_number point) point.book.rows →
    AreStampedBelow (next_number (after_all point later)) (after_all point later).book.rows
history_stamps point [] apart stamped = stamped
history_stamps point (entry ∷ later) apart stamped =
    history_stamps (after point entry) later (history_apart point (entry ∷ []) apart) (entry_stamps point entry apart stamped)

-- rows with the stamps from one on have no others, and so they differ
from_on : (stamp : ℕ) (rows : List Row) → are_stamped stamp rows ≡ true →
    All (λ (row : Row). stamp ≤ row.stamp) rows × All (λ (row : Row). row.stamp < stamp + length rows) rows × AllPairs IsOtherStamp rows
from_on stamp [] is =
    (All-nil (λ (row : Row). stamp ≤ row.stamp), All-nil (λ (row : Row). row.stamp < stamp + 0), λ i j d lt within. absurd (omega (arith, lt, within)))
from_on stamp (row ∷ rows) is =
    let parts = and_parts (row.stamp == stamp) (are_stamped (stamp + 1) rows) is in
    let here : row.stamp ≡ stamp = eqb-true row.stamp stamp parts.0 in
    let (least, most, differ) = from_on (stamp + 1) rows parts.1 in (
      All-cons (λ (r : Row). stamp ≤ r.stamp) row rows (omega (arith, here))
          (All-weaker (λ (r : Row). stamp + 1 ≤ r.stamp) (λ (r : Row). stamp ≤ r.stamp) (λ r more. omega (arith, more)) rows least),
      All-cons (λ (r : Row). r.stamp < stamp + length (row ∷ rows)) row rows (omega (arith, here))
          (All-weaker (λ (r : Row). r.stamp < stamp + 1 + length rows) (λ (r : Row). r.stamp < stamp + length (row ∷ rows))
          (λ r less. omega (arith, less)) rows most),
      AllPairs-cons IsOtherStamp row rows
          (All-weaker (λ (r : Row). stamp + 1 ≤ r.stamp) (IsOtherStamp row) (λ r more same. omega (arith, here, more, same)) rows least) differ,
    )

-- a right opening has stamps that differ and are below the next number, and so has each point from there
pub opening_stamps : (opening : Opening) (history : List Entry) → IsOpening opening →
    AreStampedBelow (next_number (point_of opening history)) (point_of opening history).book.rows
opening_stamps opening history right =
    let (least, most, differ) = from_on 0 opening.rows right.stamped in
    history_stamps (opened opening) history right.apart (record {
      differ = differ;
      below = All-weaker (λ (row : Row). row.stamp < 0 + length opening.rows) (λ (row : Row). row.stamp < length opening.rows + 0)
          (λ row less. omega (arith, less)) opening.rows most;
    })

-- what is true of each row whose stamp is below a number that has come is true of each such row later, where it is said of path, tree, sum and stamp
pub rows_later : (Q : Row → Type 0) → ((old new : Row) → IsSameRow old new → Q old → Q new) → (n : ℕ) (point : Point) (later : List Entry) →
    n ≤ next_number point → are_apart point.book.rows ≡ true → ((row : Row) → Contains point.book.rows row → row.stamp < n → Q row) →
    (row : Row) → Contains (after_all point later).book.rows row → row.stamp < n → Q row
rows_later Q keeps n point [] come apart each = each
rows_later Q keeps n point (entry ∷ later) come apart each =
    rows_later Q keeps n (after point entry) later
    (subst (λ (m : ℕ). n ≤ m) (sym (next_more point entry)) (omega (arith, come)))
    (history_apart point (entry ∷ []) apart)
    (λ row among less.
    elim (row_step point entry row apart among) [
      | inl new ↦ absurd (omega (arith, come, less, new.stamp))
      | inr was ↦ keeps was.old row was.same (each was.old was.among (subst (λ (m : ℕ). m < n) was.same.stamp less))
    ])

-- a stamp names one row's path, tree and sum: at two points of a history, rows of one stamp have these alike
pub stamp_names : (point : Point) (later : List Entry) (row other : Row) → are_apart point.book.rows ≡ true →
    AreStampedBelow (next_number point) point.book.rows → Contains point.book.rows row → Contains (after_all point later).book.rows other →
    other.stamp ≡ row.stamp → IsSameRow row other
stamp_names point later row other apart stamped among also same =
    let less : row.stamp < next_number point =
    All-contains (λ (r : Row). r.stamp < next_number point) point.book.rows row stamped.below among in
    rows_later Q keeps (next_number point) point later (omega arith) apart first other also
    (subst (λ (n : ℕ). n < next_number point) (sym same) less) same
  where
    Q : Row → Type 0
    Q r = r.stamp ≡ row.stamp → IsSameRow row r

    keeps : (old new : Row) → IsSameRow old new → Q old → Q new
    keeps old new alike is at =
        let was = is (sym alike.stamp ∙ at) in record {
          path = alike.path ∙ was.path;
          tree = alike.tree ∙ was.tree;
          sum = alike.sum ∙ was.sum;
          stamp = alike.stamp ∙ was.stamp;
        }

    first : (r : Row) → Contains point.book.rows r → r.stamp < next_number point → Q r
    first r within less at =
        subst (λ (x : Row). IsSameRow x r) (one_stamp point.book.rows r row stamped.differ within among at)
        (record { path = refl; tree = refl; sum = refl; stamp = refl })

-- a stamp that has come and that no row has is no row's ever after
pub stamp_gone : (point : Point) (later : List Entry) (stamp : ℕ) → are_apart point.book.rows ≡ true → stamp < next_number point →
    IsNoStamp point.book.rows stamp → IsNoStamp (after_all point later).book.rows stamp
stamp_gone point later stamp apart come none =
    none_passes (has_stamp stamp) (after_all point later).book.rows
    (λ row among. false_from_ne_true (row.stamp == stamp)
    (λ has. rows_later (λ (r : Row). r.stamp ≢ stamp) (λ old new alike other at. other (sym alike.stamp ∙ at)) (next_number point) point later
    (omega arith) apart
    (λ r within less at. both_ways (r.stamp == stamp) (each_fails (has_stamp stamp) point.book.rows r none within) (eq-eqb r.stamp stamp at))
    row among (subst (λ (n : ℕ). n < next_number point) (sym (eqb-true row.stamp stamp has)) come) (eqb-true row.stamp stamp has)))
