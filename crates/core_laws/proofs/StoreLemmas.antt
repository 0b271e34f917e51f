-- The rows of a state store and kept rows, element by element: which there are once one is put, or some are removed, and when two stores are alike.
use Rattle.std.proofs.Common.{◌≡◌, ◌≢◌, ℕ, Bool, true, false, not, ◌⊎◌, inl, inr, cond, List, [], ◌∷◌, ◌++◌, Some, None, Less, Equal, Greater, refl, sym, ap, ap₂, subst, ◌∙◌, map, Contains, arith}
use Rattle.std.proofs.lemmas.Bool.{and_parts, both_ways, false_from_ne_true, not-true}
use Rattle.std.proofs.lemmas.Cmp.{nat_list_cmp_total}
use Rattle.std.proofs.lemmas.List.Elements.{Contains-append_cases, Contains-append_left, Contains-append_right}
use Rattle.std.proofs.lemmas.List.Splits.{join_with_byte-slice_split}
use Rattle.std.proofs.lemmas.Map.Text.{is_eq-slice_cmp}
use Rattle.std.specs.List.{filter, list_all, list_any}
use Rattle.std.specs.Ordering.{is_eq, is_lt, ordering_reverse}
use Rattle.std.specs.declared.cmp.Ordering.{Ordering}
use Rattle.mat_path.specs.Names.{is_path, joined, name_cmp, path_of, pieces, same_name, same_names}
use Rattle.mat_path.proofs.Elements.{contains_cases, contains_filter, contains_first, contains_map, contains_more, each_fails, filtered_contains, mapped_contains, none_passes}
use Rattle.mat_path.proofs.PathLemmas.{path_cmp-refl}
use Rattle.mat_path.proofs.ReadLemmas.{read_back}
use Rattle.mat_path.proofs.SameNames.{same_name-eq, same_name-refl, same_names-eq, same_names-refl, same_names_false}
use Rattle.mat_tree.specs.Trees.{ascends_by, is_after_by}
use Rattle.mat_model.specs.declared.book.Row.{Row}
use Rattle.mat_model.specs.Kept.{KeptRow, kept_row, put_kept, store_rows}
use Rattle.mat_model.specs.Rows.{comes_before, is_at_path}
use Rattle.model_laws.specs.KeptRules.{KeptAscend, path_of_kept}
use Rattle.model_laws.proofs.BooksLists.{any_contains, contains_any}
use Rattle.model_laws.proofs.Elements.{contains_all}
use Rattle.model_laws.proofs.KeptOrder.{stored_cases}
use Rattle.keep_port.specs.Rows.{ascend, is_elsewhere, is_greater, is_less, put, remove_all}
use Rattle.keep_port.specs.declared.row.RawRow.{RawRow}

-- ---- texts of paths

-- no two paths have one text
pub spelled_once : (p q : List (List ℕ)) → is_path p ≡ true → is_path q ≡ true → joined p ≡ joined q → p ≡ q
spelled_once p q first second same =
    let both : Some p ≡ Some q = sym (read_back p first) ∙ ap path_of same ∙ read_back q second in
    cc

pub other_text : (p q : List (List ℕ)) → is_path p ≡ true → is_path q ≡ true → p ≢ q → joined p ≢ joined q
other_text p q first second differs = λ same. differs (spelled_once p q first second same)

-- a text that spells a path is the text of this path
pub spelled : (text : List ℕ) (p : List (List ℕ)) → path_of text ≡ Some p → (text ≡ joined p) × (is_path p ≡ true)
spelled text p is = by (is_path (pieces text)) refl is
  where
    by : (b : Bool) → is_path (pieces text) ≡ b → cond b (Some (pieces text)) None ≡ Some p → (text ≡ joined p) × (is_path p ≡ true)
    by true path some =
        let same : pieces text ≡ p = cc in
        (sym (join_with_byte-slice_split 47 text) ∙ ap joined same, subst (λ (q : List (List ℕ)). is_path q ≡ true) same path)
    by false path none = absurd cc

-- ---- the order of texts

lt_is : (o : Ordering) → is_lt o ≡ true → o ≡ Less
lt_is Less h = refl
lt_is Equal h = cc
lt_is Greater h = cc

less_differs : (a b : List ℕ) → is_lt (name_cmp a b) ≡ true → a ≢ b
less_differs a b less same =
    let tied : is_eq (name_cmp a a) ≡ true = is_eq-slice_cmp a a ∙ same_name-refl a in
    let here : name_cmp a a ≡ Less = lt_is (name_cmp a a) (subst (λ (t : List ℕ). is_lt (name_cmp a t) ≡ true) (sym same) less) in
    let both : is_eq Less ≡ true = subst (λ (o : Ordering). is_eq o ≡ true) here tied in
    cc

not_before_itself : (a b : List ℕ) → is_lt (name_cmp a b) ≡ true → is_lt (name_cmp b a) ≡ true → ⊥
not_before_itself a b less more =
    less_differs a a (ap is_lt (nat_list_cmp_total.trans a b a (lt_is (name_cmp a b) less) (lt_is (name_cmp b a) more))) refl

-- ---- stores that are alike

pub none_there : {Y : Type 0} {y : Y} → Contains [] y → ⊥
none_there (k, within, at) = omega (arith, within)

-- rows in order are the same where the same rows are among them
pub same_raws : (rows others : List RawRow) → ascend rows ≡ true → ascend others ≡ true → ((raw : RawRow) → Contains rows raw → Contains others raw) →
    ((raw : RawRow) → Contains others raw → Contains rows raw) → rows ≡ others
same_raws [] [] up over to from = refl
same_raws [] (other ∷ others) up over to from = absurd (none_there (from other (contains_first other others)))
same_raws (row ∷ rows) [] up over to from = absurd (none_there (to row (contains_first row rows)))
same_raws (row ∷ rows) (other ∷ others) up over to from =
    let ups = and_parts (list_all (is_greater row.path) rows) (ascend rows) up in
    let overs = and_parts (list_all (is_greater other.path) others) (ascend others) over in
    let head : row ≡ other = first ups.0 overs.0 (contains_cases other others row (to row (contains_first row rows))) in
    ap₂ (λ (r : RawRow) (rs : List RawRow). r ∷ rs) head
    (same_raws rows others ups.1 overs.1
    (λ raw among. rest other others raw (to raw (contains_more row rows raw among))
    (λ same. less_differs row.path raw.path (contains_all (is_greater row.path) rows raw ups.0 among) (ap (λ (r : RawRow). r.path) (head ∙ same))))
    (λ raw among. rest row rows raw (from raw (contains_more other others raw among))
    (λ same. less_differs other.path raw.path (contains_all (is_greater other.path) others raw overs.0 among) (ap (λ (r : RawRow). r.path) (sym head ∙ same)))))
  where
    first : list_all (is_greater row.path) rows ≡ true → list_all (is_greater other.path) others ≡ true → (other ≡ row) ⊎ Contains others row → row ≡ other
    first above over (inl same) = sym same
    first above over (inr behind) = elim (contains_cases row rows other (from other (contains_first other others))) [
      | inl same ↦ same
      | inr back ↦ absurd (not_before_itself row.path other.path (contains_all (is_greater row.path) rows other above back)
          (contains_all (is_greater other.path) others row over behind))
    ]

    rest : (r : RawRow) (rs : List RawRow) (raw : RawRow) → Contains (r ∷ rs) raw → (r ≢ raw) → Contains rs raw
    rest r rs raw among differs = elim (contains_cases r rs raw among) [ inl same ↦ absurd (differs same) | inr more ↦ more ]

-- the last one of rows in order is at another path than those before
pub last_differs : (rows : List RawRow) (last raw : RawRow) → ascend (rows ++ last ∷ []) ≡ true → Contains rows raw → raw.path ≢ last.path
last_differs [] last raw up among = absurd (none_there among)
last_differs (row ∷ rows) last raw up among =
    let ups = and_parts (list_all (is_greater row.path) (rows ++ last ∷ [])) (ascend (rows ++ last ∷ [])) up in
    elim (contains_cases row rows raw among) [
      | inl same ↦
          subst (λ (r : RawRow). r.path ≢ last.path) same
          (less_differs row.path last.path
          (contains_all (is_greater row.path) (rows ++ last ∷ []) last ups.0 (Contains-append_right rows (last ∷ []) last (contains_first last []))))
      | inr more ↦ last_differs rows last raw ups.1 more
    ]

-- ---- one row is put

pub raw_put : (rows : List RawRow) (row : RawRow) → Contains (put rows row) row
raw_put rows row =
    Contains-append_right (filter (is_less row.path) rows) (row ∷ filter (is_greater row.path) rows) row (contains_first row (filter (is_greater row.path) rows))

-- the rows at other paths stay
pub raw_stays : (rows : List RawRow) (row raw : RawRow) → raw.path ≢ row.path → Contains rows raw → Contains (put rows row) raw
raw_stays rows row raw differs among = by (name_cmp raw.path row.path) refl
  where
    before : List RawRow
    before = filter (is_less row.path) rows

    behind : List RawRow
    behind = filter (is_greater row.path) rows

    by : (o : Ordering) → name_cmp raw.path row.path ≡ o → Contains (put rows row) raw
    by Less is = Contains-append_left before (row ∷ behind) raw (contains_filter (is_less row.path) rows raw (ap is_lt is) among)
    by Equal is = absurd (differs (same_name-eq raw.path row.path (sym (is_eq-slice_cmp raw.path row.path) ∙ ap is_eq is)))
    by Greater is =
        let above : is_greater row.path raw ≡ true = ap is_lt (nat_list_cmp_total.antisymm row.path raw.path ∙ ap ordering_reverse is) in
        Contains-append_right before (row ∷ behind) raw (contains_more row behind raw (contains_filter (is_greater row.path) rows raw above among))

-- and there is no other row than these
pub put_from : (rows : List RawRow) (row raw : RawRow) → Contains (put rows row) raw → (row ≡ raw) ⊎ (Contains rows raw × (raw.path ≢ row.path))
put_from rows row raw among =
    elim (Contains-append_cases (filter (is_less row.path) rows) (row ∷ filter (is_greater row.path) rows) raw among) [
      | inl first ↦
          let (was, less) = filtered_contains (is_less row.path) rows raw first in
          inr (was, less_differs raw.path row.path less)
      | inr later ↦
          elim (contains_cases row (filter (is_greater row.path) rows) raw later) [
            | inl same ↦ inl same
            | inr more ↦
                let (was, above) = filtered_contains (is_greater row.path) rows raw more in
                inr (was, λ same. less_differs row.path raw.path above (sym same))
          ]
    ]

-- ---- rows are removed

pub removed_from : (rows : List RawRow) (paths : List (List (List ℕ))) (raw : RawRow) → Contains (remove_all rows paths) raw →
    Contains rows raw × ((path : List (List ℕ)) → Contains paths path → raw.path ≢ joined path)
removed_from rows [] raw among = (among, λ path named. absurd (none_there named))
removed_from rows (gone ∷ paths) raw among =
    let (left, apart) = removed_from (filter (is_elsewhere (joined gone)) rows) paths raw among in
    let (was, other) = filtered_contains (is_elsewhere (joined gone)) rows raw left in (
      was,
      λ path named. elim (contains_cases gone paths path named) [
        | inl same ↦ λ is. both_ways (same_name raw.path (joined gone)) (not-true (same_name raw.path (joined gone)) other)
            (subst (λ (t : List ℕ). same_name raw.path t ≡ true) (is ∙ ap joined (sym same)) (same_name-refl raw.path))
        | inr more ↦ apart path more
      ],
    )

pub removed_stays : (rows : List RawRow) (paths : List (List (List ℕ))) (raw : RawRow) →
    ((path : List (List ℕ)) → Contains paths path → raw.path ≢ joined path) → Contains rows raw → Contains (remove_all rows paths) raw
removed_stays rows [] raw apart among = among
removed_stays rows (gone ∷ paths) raw apart among =
    removed_stays (filter (is_elsewhere (joined gone)) rows) paths raw (λ path named. apart path (contains_more gone paths path named))
    (contains_filter (is_elsewhere (joined gone)) rows raw
    (ap not (false_from_ne_true (same_name raw.path (joined gone)) (λ same. apart gone (contains_first gone paths) (same_name-eq raw.path (joined gone) same))))
    among)

-- ---- kept rows

-- a kept row that comes before another one is at another path
pub before_differs : (a b : KeptRow) → comes_before a.path b.path ≡ true → a.path ≢ b.path
before_differs a b before is =
    both_ways (comes_before a.path a.path) (ap is_lt (path_cmp-refl a.path))
    (subst (λ (p : List (List ℕ)). comes_before a.path p ≡ true) (sym is) before)

-- of kept rows that ascend none is at the path of another one
pub kept_once : (kept : List KeptRow) (one other : KeptRow) → KeptAscend kept → Contains kept one → Contains kept other → one.path ≡ other.path → one ≡ other
kept_once [] one other asc among also same = absurd (none_there among)
kept_once (first ∷ kept) one other asc among also same =
    let parts = and_parts (list_all (is_after_by path_of_kept first.path) kept) (ascends_by path_of_kept kept) asc in
    elim (contains_cases first kept one among) [
      | inl here ↦ elim (contains_cases first kept other also) [
        | inl there ↦ sym here ∙ there
        | inr more ↦ absurd (before_differs first other (contains_all (is_after_by path_of_kept first.path) kept other parts.0 more)
            (ap (λ (k : KeptRow). k.path) here ∙ same))
      ]
      | inr rest ↦ elim (contains_cases first kept other also) [
        | inl there ↦ absurd (before_differs first one (contains_all (is_after_by path_of_kept first.path) kept one parts.0 rest)
            (ap (λ (k : KeptRow). k.path) there ∙ sym same))
        | inr more ↦ kept_once kept one other parts.1 rest more same
      ]
    ]

pub kept_put : (new : KeptRow) (kept : List KeptRow) → Contains (put_kept new kept) new
kept_put new [] = contains_first new []
kept_put new (row ∷ kept) = by (same_names new.path row.path) (comes_before new.path row.path) (kept_put new kept)
  where
    by : (b c : Bool) → Contains (put_kept new kept) new →
        Contains (cond b (new ∷ kept) (cond c (new ∷ row ∷ kept) (row ∷ put_kept new kept))) new
    by true c rest = contains_first new kept
    by false true rest = contains_first new (row ∷ kept)
    by false false rest = contains_more row (put_kept new kept) new rest

pub kept_stays : (new : KeptRow) (kept : List KeptRow) (k : KeptRow) → new.path ≢ k.path → Contains kept k → Contains (put_kept new kept) k
kept_stays new [] k differs among = absurd (none_there among)
kept_stays new (row ∷ kept) k differs among =
    by (same_names new.path row.path) (comes_before new.path row.path) refl (contains_cases row kept k among) (kept_stays new kept k differs)
  where
    by : (b c : Bool) → same_names new.path row.path ≡ b → (row ≡ k) ⊎ Contains kept k → (Contains kept k → Contains (put_kept new kept) k) →
        Contains (cond b (new ∷ kept) (cond c (new ∷ row ∷ kept) (row ∷ put_kept new kept))) k
    by true c same (inl one) rest = absurd (differs (same_names-eq new.path row.path same ∙ ap (λ (r : KeptRow). r.path) one))
    by true c same (inr more) rest = contains_more new kept k more
    by false true other cases rest = contains_more new (row ∷ kept) k among
    by false false other (inl one) rest = subst (λ (r : KeptRow). Contains (row ∷ put_kept new kept) r) one (contains_first row (put_kept new kept))
    by false false other (inr more) rest = contains_more row (put_kept new kept) k (rest more)

-- what is kept once one was put is that one, or was kept
pub put_among : (new : KeptRow) (kept : List KeptRow) (k : KeptRow) → Contains (put_kept new kept) k → (new ≡ k) ⊎ Contains kept k
put_among new [] k among = contains_cases new [] k among
put_among new (row ∷ kept) k among = by (same_names new.path row.path) (comes_before new.path row.path) among (put_among new kept k)
  where
    by : (b c : Bool) → Contains (cond b (new ∷ kept) (cond c (new ∷ row ∷ kept) (row ∷ put_kept new kept))) k →
        (Contains (put_kept new kept) k → (new ≡ k) ⊎ Contains kept k) → (new ≡ k) ⊎ Contains (row ∷ kept) k
    by true c here rest = elim (contains_cases new kept k here) [ inl same ↦ inl same | inr more ↦ inr (contains_more row kept k more) ]
    by false true here rest = contains_cases new (row ∷ kept) k here
    by false false here rest = elim (contains_cases row (put_kept new kept) k here) [
      | inl same ↦ inr (subst (λ (r : KeptRow). Contains (row ∷ kept) r) same (contains_first row kept))
      | inr more ↦ elim (rest more) [ inl one ↦ inl one | inr was ↦ inr (contains_more row kept k was) ]
    ]

-- of kept rows among which a row is put, each is that row, or was there and is at another path
pub kept_from : (row : Row) (kept : List KeptRow) (one : KeptRow) → KeptAscend kept → Contains (put_kept (kept_row row) kept) one →
    (kept_row row ≡ one) ⊎ (Contains kept one × (row.path ≢ one.path))
kept_from row kept one asc among =
    elim (stored_cases (row ∷ []) kept one asc among) [
      | inl (other, within, same) ↦ elim (contains_cases row [] other within) [
        | inl is ↦ inl (ap kept_row is ∙ same)
        | inr none ↦ absurd (none_there none)
      ]
      | inr (was, differ) ↦ inr (was, differ row (contains_first row []))
    ]

-- ---- rows are stored

-- of some rows no two are at one path
abbrev pub AreOfPaths : List Row → Type 0
AreOfPaths some = (row other : Row) → Contains some row → Contains some other → row.path ≡ other.path → row ≡ other

-- a kept row is one of some rows, or was kept and is at none of their paths
abbrev pub IsStoredBy : List Row → List KeptRow → KeptRow → Type 0
IsStoredBy some kept k =
    ((row : Row) × Contains some row × (kept_row row ≡ k)) ⊎ (Contains kept k × ((row : Row) → Contains some row → row.path ≢ k.path))

store_stays : (some : List Row) (kept : List KeptRow) (k : KeptRow) → ((row : Row) → Contains some row → row.path ≢ k.path) → Contains kept k →
    Contains (store_rows some kept) k
store_stays [] kept k differ among = among
store_stays (row ∷ some) kept k differ among =
    store_stays some (put_kept (kept_row row) kept) k (λ other within. differ other (contains_more row some other within))
    (kept_stays (kept_row row) kept k (differ row (contains_first row some)) among)

row_stored : (some : List Row) (kept : List KeptRow) (row : Row) → AreOfPaths some → Contains some row → Contains (store_rows some kept) (kept_row row)
row_stored [] kept row once among = absurd (none_there among)
row_stored (next ∷ some) kept row once among =
    elim (contains_cases next some row among) [
      | inl same ↦ subst (λ (r : Row). Contains (store_rows some (put_kept (kept_row next) kept)) (kept_row r)) same
          (by (list_any (is_at_path next.path) some) refl (λ other within. row_stored some (put_kept (kept_row next) kept) other rest within))
      | inr more ↦ row_stored some (put_kept (kept_row next) kept) row rest more
    ]
  where
    rest : AreOfPaths some
    rest = λ one other first second. once one other (contains_more next some one first) (contains_more next some other second)

    by : (b : Bool) → list_any (is_at_path next.path) some ≡ b →
        ((other : Row) → Contains some other → Contains (store_rows some (put_kept (kept_row next) kept)) (kept_row other)) →
        Contains (store_rows some (put_kept (kept_row next) kept)) (kept_row next)
    by true there more =
        let (other, within, at) = any_contains (is_at_path next.path) some there in
        let same : other ≡ next = once other next (contains_more next some other within) (contains_first next some) (same_names-eq other.path next.path at) in
        subst (λ (r : Row). Contains (store_rows some (put_kept (kept_row next) kept)) (kept_row r)) same (more other within)
    by false none more =
        store_stays some (put_kept (kept_row next) kept) (kept_row next)
        (λ other within. same_names_false other.path next.path (each_fails (is_at_path next.path) some other none within))
        (kept_put (kept_row next) kept)

-- such rows are kept once some at different paths are stored
pub in_stored : (some : List Row) (kept : List KeptRow) (k : KeptRow) → AreOfPaths some → IsStoredBy some kept k → Contains (store_rows some kept) k
in_stored some kept k once (inl (row, within, same)) =
    subst (λ (r : KeptRow). Contains (store_rows some kept) r) same (row_stored some kept row once within)
in_stored some kept k once (inr (was, differ)) = store_stays some kept k differ was

-- ---- paths that are listed

-- the paths of the kept rows that a test finds name exactly these
pub listed_named : (drops : KeptRow → Bool) (kept : List KeptRow) (one : KeptRow) → KeptAscend kept → Contains kept one →
    list_any (same_names one.path) (map path_of_kept (filter drops kept)) ≡ drops one
listed_named drops kept one asc among = by (drops one) refl
  where
    by : (b : Bool) → drops one ≡ b → list_any (same_names one.path) (map path_of_kept (filter drops kept)) ≡ b
    by true is =
        contains_any (same_names one.path) (map path_of_kept (filter drops kept)) one.path
        (contains_map path_of_kept (filter drops kept) one (contains_filter drops kept one is among)) (same_names-refl one.path)
    by false is =
        none_passes (same_names one.path) (map path_of_kept (filter drops kept))
        (λ path named.
        let (other, within, at) = mapped_contains path_of_kept (filter drops kept) path named in
        let (was, dropped) = filtered_contains drops kept other within in
        false_from_ne_true (same_names one.path path)
        (λ same.
        let are : one ≡ other = kept_once kept one other asc among was (same_names-eq one.path path same ∙ sym at) in
        both_ways (drops one) is (ap drops are ∙ dropped)))
