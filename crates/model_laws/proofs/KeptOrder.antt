-- The order of kept rows: it stays where some go and where rows are stored, and what is stored is the row, or was there and is at another path.
use Rattle.mat_path.proofs.Elements.{contains_cases, contains_first, contains_more, filtered_contains}
use Rattle.mat_path.proofs.PathLemmas.{path_cmp-refl, path_cmp_equal, path_cmp_total}
use Rattle.mat_path.proofs.SameNames.{same_names-eq, same_names-refl, same_names_false}
use Rattle.std.proofs.Common.{◌≡◌, ◌≢◌, ℕ, Bool, true, false, ◌⊎◌, List, [], ◌∷◌, Option, Some, None, cond, inl, inr, refl, sym, ap, subst, ◌∙◌, find, Contains, arith}
use Rattle.std.specs.List.{filter, list_all}
use Rattle.std.specs.Ordering.{is_lt}
use Rattle.std.proofs.lemmas.Bool.{and_from, and_parts, both_ways}
use Rattle.mat_path.specs.Names.{path_cmp, same_names}
use Rattle.mat_tree.specs.Trees.{ascends_by, is_after_by}
use Rattle.mat_model.specs.declared.answers.Recorded.{Recorded}
use Rattle.mat_model.specs.declared.answers.Recorded.TheVariants as recorded
use Rattle.mat_model.specs.declared.book.Book.{Book}
use Rattle.mat_model.specs.declared.book.Row.{Row}
use Rattle.mat_model.specs.declared.entries.Outcome.{Outcome}
use Rattle.mat_model.specs.declared.entries.Task.{Task}
use Rattle.mat_model.specs.declared.entries.Task.TheVariants as task
use Rattle.mat_model.specs.Kept.{KeptRow, kept_done, kept_row, put_kept, store_rows}
use Rattle.mat_model.specs.Rows.{comes_before}
use Rattle.mat_model.specs.Work.{end_make, finish, is_declared, make_ended}
use Rattle.model_laws.specs.KeptRules.{KeptAscend, path_of_kept}
use Rattle.model_laws.proofs.Apart.{before-trans, turned_lt}

-- a test that all pass is passed by all that are left
pub all_filtered : {X : Type 0} (p q : X → Bool) (xs : List X) → list_all p xs ≡ true → list_all p (filter q xs) ≡ true
all_filtered p q [] all = refl
all_filtered {X = X} p q (x ∷ xs) all =
    let parts = and_parts (p x) (list_all p xs) all in
    let more : list_all p (filter q xs) ≡ true = all_filtered p q xs parts.1 in
    elim (q x) as (λ b. list_all p (cond b (x ∷ filter q xs) (filter q xs)) ≡ true)
    [ true ↦ and_from (p x) (list_all p (filter q xs)) parts.0 more | false ↦ more ]

-- what ascends still does where some go
pub ascends_filtered : {X : Type 0} (place : X → List (List ℕ)) (q : X → Bool) (xs : List X) → ascends_by place xs ≡ true →
    ascends_by place (filter q xs) ≡ true
ascends_filtered place q [] asc = refl
ascends_filtered {X = X} place q (x ∷ xs) asc =
    let parts = and_parts (list_all (is_after_by place (place x)) xs) (ascends_by place xs) asc in
    let more : ascends_by place (filter q xs) ≡ true = ascends_filtered place q xs parts.1 in
    elim (q x) as (λ b. ascends_by place (cond b (x ∷ filter q xs) (filter q xs)) ≡ true) [
      | true ↦
          and_from (list_all (is_after_by place (place x)) (filter q xs)) (ascends_by place (filter q xs))
          (all_filtered (is_after_by place (place x)) q xs parts.0) more
      | false ↦ more
    ]

-- of two paths that differ, of which the first isn't before the second, the second is before the first; and a path before another differs from it
after_other : (p q : List (List ℕ)) → comes_before p q ≡ false → same_names p q ≡ false → comes_before q p ≡ true
after_other p q later other =
    ap is_lt (path_cmp_total.antisymm q p)
    ∙ turned_lt (path_cmp p q) later
    (λ tied. both_ways (same_names p q) other (subst (λ (r : List (List ℕ)). same_names p r ≡ true) (path_cmp_equal p q tied) (same_names-refl p)))

before_differs : (p q : List (List ℕ)) → comes_before p q ≡ true → p ≢ q
before_differs p q before same =
    both_ways (comes_before p p) (ap is_lt (path_cmp-refl p)) (subst (λ (r : List (List ℕ)). comes_before p r ≡ true) (sym same) before)

-- kept rows behind a later path are behind an earlier one
all_after : (p q : List (List ℕ)) (kept : List KeptRow) → comes_before p q ≡ true → list_all (is_after_by path_of_kept q) kept ≡ true →
    list_all (is_after_by path_of_kept p) kept ≡ true
all_after p q [] before all = refl
all_after p q (row ∷ kept) before all =
    let parts = and_parts (is_after_by path_of_kept q row) (list_all (is_after_by path_of_kept q) kept) all in
    and_from (is_after_by path_of_kept p row) (list_all (is_after_by path_of_kept p) kept) (before-trans p q row.path before parts.0)
    (all_after p q kept before parts.1)

-- an element of those behind a path is behind it
one_after : (p : List (List ℕ)) (kept : List KeptRow) (row : KeptRow) → list_all (is_after_by path_of_kept p) kept ≡ true → Contains kept row →
    comes_before p row.path ≡ true
one_after p [] row all (k, within, at) = absurd (omega (arith, within))
one_after p (next ∷ kept) row all among =
    let parts = and_parts (is_after_by path_of_kept p next) (list_all (is_after_by path_of_kept p) kept) all in
    elim (contains_cases next kept row among) [
      | inl same ↦ subst (λ (r : KeptRow). comes_before p r.path ≡ true) same parts.0
      | inr more ↦ one_after p kept row parts.1 more
    ]

-- a kept row that is put behind a path, among others behind it
after_put : (p : List (List ℕ)) (new : KeptRow) (kept : List KeptRow) → comes_before p new.path ≡ true →
    list_all (is_after_by path_of_kept p) kept ≡ true → list_all (is_after_by path_of_kept p) (put_kept new kept) ≡ true
after_put p new [] here all = and_from (is_after_by path_of_kept p new) true here refl
after_put p new (row ∷ kept) here all =
    let parts = and_parts (is_after_by path_of_kept p row) (list_all (is_after_by path_of_kept p) kept) all in
    elim (same_names new.path row.path) as
    (λ b. list_all (is_after_by path_of_kept p)
    (cond b (new ∷ kept) (cond (comes_before new.path row.path) (new ∷ row ∷ kept) (row ∷ put_kept new kept))) ≡ true) [
      | true ↦ and_from (is_after_by path_of_kept p new) (list_all (is_after_by path_of_kept p) kept) here parts.1
      | false ↦
          elim (comes_before new.path row.path) as
          (λ b. list_all (is_after_by path_of_kept p) (cond b (new ∷ row ∷ kept) (row ∷ put_kept new kept)) ≡ true) [
            | true ↦ and_from (is_after_by path_of_kept p new) (list_all (is_after_by path_of_kept p) (row ∷ kept)) here all
            | false ↦
                and_from (is_after_by path_of_kept p row) (list_all (is_after_by path_of_kept p) (put_kept new kept)) parts.0
                (after_put p new kept here parts.1)
          ]
    ]

-- kept rows ascend where one is put in its place
put_ascends : (new : KeptRow) (kept : List KeptRow) → KeptAscend kept → KeptAscend (put_kept new kept)
put_ascends new [] asc = refl
put_ascends new (row ∷ kept) asc =
    let parts = and_parts (list_all (is_after_by path_of_kept row.path) kept) (ascends_by path_of_kept kept) asc in
    elim (same_names new.path row.path) as
    (λ b. same_names new.path row.path ≡ b →
    KeptAscend (cond b (new ∷ kept) (cond (comes_before new.path row.path) (new ∷ row ∷ kept) (row ∷ put_kept new kept)))) [
      | true ↦ λ same.
          and_from (list_all (is_after_by path_of_kept new.path) kept) (ascends_by path_of_kept kept)
          (subst (λ (p : List (List ℕ)). list_all (is_after_by path_of_kept p) kept ≡ true) (sym (same_names-eq new.path row.path same)) parts.0) parts.1
      | false ↦ λ other.
          elim (comes_before new.path row.path) as
          (λ b. comes_before new.path row.path ≡ b → KeptAscend (cond b (new ∷ row ∷ kept) (row ∷ put_kept new kept))) [
            | true ↦ λ before.
                and_from (list_all (is_after_by path_of_kept new.path) (row ∷ kept)) (ascends_by path_of_kept (row ∷ kept))
                (and_from (is_after_by path_of_kept new.path row) (list_all (is_after_by path_of_kept new.path) kept) before
                (all_after new.path row.path kept before parts.0)) asc
            | false ↦ λ later.
                and_from (list_all (is_after_by path_of_kept row.path) (put_kept new kept)) (ascends_by path_of_kept (put_kept new kept))
                (after_put row.path new kept (after_other new.path row.path later other) parts.0) (put_ascends new kept parts.1)
          ] refl
    ] refl

pub store_ascends : (some : List Row) (kept : List KeptRow) → KeptAscend kept → KeptAscend (store_rows some kept)
store_ascends [] kept asc = asc
store_ascends (row ∷ some) kept asc = store_ascends some (put_kept (kept_row row) kept) (put_ascends (kept_row row) kept asc)

-- of kept rows that ascend and among which one is put, each is that one, or was there and is at another path
put_cases : (new : KeptRow) (kept : List KeptRow) (k : KeptRow) → KeptAscend kept → Contains (put_kept new kept) k →
    (new ≡ k) ⊎ (Contains kept k × (new.path ≢ k.path))
put_cases new [] k asc among = elim (contains_cases new [] k among) [ inl same ↦ inl same | inr (n, within, at) ↦ absurd (omega (arith, within)) ]
put_cases new (row ∷ kept) k asc among =
    let parts = and_parts (list_all (is_after_by path_of_kept row.path) kept) (ascends_by path_of_kept kept) asc in
    elim (same_names new.path row.path) as
    (λ b. same_names new.path row.path ≡ b →
    Contains (cond b (new ∷ kept) (cond (comes_before new.path row.path) (new ∷ row ∷ kept) (row ∷ put_kept new kept))) k →
    (new ≡ k) ⊎ (Contains (row ∷ kept) k × (new.path ≢ k.path))) [
      | true ↦ λ same here.
          elim (contains_cases new kept k here) [
            | inl one ↦ inl one
            | inr more ↦ inr (
              contains_more row kept k more,
              before_differs new.path k.path
                  (subst (λ (p : List (List ℕ)). comes_before p k.path ≡ true) (sym (same_names-eq new.path row.path same))
                  (one_after row.path kept k parts.0 more)),
            )
          ]
      | false ↦ λ other.
          elim (comes_before new.path row.path) as
          (λ b. comes_before new.path row.path ≡ b → Contains (cond b (new ∷ row ∷ kept) (row ∷ put_kept new kept)) k →
          (new ≡ k) ⊎ (Contains (row ∷ kept) k × (new.path ≢ k.path))) [
            | true ↦ λ before here.
                elim (contains_cases new (row ∷ kept) k here) [
                  | inl one ↦ inl one
                  | inr more ↦ inr (
                    more,
                    before_differs new.path k.path
                        (one_after new.path (row ∷ kept) k
                        (and_from (is_after_by path_of_kept new.path row) (list_all (is_after_by path_of_kept new.path) kept) before
                        (all_after new.path row.path kept before parts.0)) more),
                  )
                ]
            | false ↦ λ later here.
                elim (contains_cases row (put_kept new kept) k here) [
                  | inl one ↦ inr (
                    subst (λ (r : KeptRow). Contains (row ∷ kept) r) one (contains_first row kept),
                    subst (λ (r : KeptRow). new.path ≢ r.path) one (same_names_false new.path row.path other),
                  )
                  | inr more ↦
                      elim (put_cases new kept k parts.1 more) [
                        | inl one ↦ inl one
                        | inr (rest, differs) ↦ inr (contains_more row kept k rest, differs)
                      ]
                ]
          ] refl
    ] refl among

-- of kept rows that ascend and among which rows are stored, each is one of these, or was there and is at none of their paths
pub stored_cases : (some : List Row) (kept : List KeptRow) (k : KeptRow) → KeptAscend kept → Contains (store_rows some kept) k →
    ((row : Row) × Contains some row × (kept_row row ≡ k)) ⊎ (Contains kept k × ((row : Row) → Contains some row → row.path ≢ k.path))
stored_cases [] kept k asc among = inr (among, λ row (n, within, at). absurd (omega (arith, within)))
stored_cases (row ∷ some) kept k asc among =
    elim (stored_cases some (put_kept (kept_row row) kept) k (put_ascends (kept_row row) kept asc) among) [
      | inl (other, within, same) ↦ inl (other, contains_more row some other within, same)
      | inr (here, differ) ↦
          elim (put_cases (kept_row row) kept k asc here) [
            | inl same ↦ inl (row, contains_first row some, same)
            | inr (rest, differs) ↦ inr (
              rest,
              λ other within.
                  elim (contains_cases row some other within) [
                    | inl one ↦ subst (λ (r : Row). r.path ≢ k.path) one differs
                    | inr more ↦ differ other more
                  ],
            )
          ]
    ]

-- what is true of the kept rows, and once rows of the book are stored, is true after the end of a job
pub done_stores : (P : List KeptRow → Type 0) (number : ℕ) (begun : Task) (out : Outcome) (how : Recorded) (book : Book) (kept : List KeptRow) → P kept →
    ((some : List Row) → ((row : Row) → Contains some row → Contains (finish number begun out how book).book.rows row) → P (store_rows some kept)) →
    P (kept_done begun (finish number begun out how book).reply (finish number begun out how book).book.rows kept)
done_stores P number (task.Make path stamp) out how book kept = by (find (is_declared path stamp) book.rows) how
  where
    by : (o : Option Row) (was : Recorded) → P kept →
        ((some : List Row) → ((row : Row) → Contains some row → Contains (end_make number path out was book o).book.rows row) →
        P (store_rows some kept)) →
        P (kept_done (task.Make path stamp) (end_make number path out was book o).reply (end_make number path out was book o).book.rows kept)
    by None was same stored = same
    by (Some row) recorded.Kept same stored =
        let rows : List Row = (make_ended number path row out book).rows in
        stored (filter (is_declared path stamp) rows) (λ r among. (filtered_contains (is_declared path stamp) rows r among).0)
    by (Some row) (recorded.NotKept note) same stored = same
    by (Some row) recorded.NoMemory same stored = same
    by (Some row) recorded.Nothing same stored = same
done_stores P number (task.Wipe path) out how book kept = λ same stored. same
