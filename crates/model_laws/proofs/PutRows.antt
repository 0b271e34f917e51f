-- Rows among which one is put: it is there, and so are the others.
use Rattle.mat_path.proofs.Elements.{contains_cases, contains_first, contains_more}
use Rattle.std.proofs.Common.{true, false, List, [], ◌∷◌, cond, inl, inr, subst, Contains, arith}
use Rattle.mat_model.specs.declared.book.Row.{Row}
use Rattle.mat_model.specs.Rows.{comes_before, put_row}

-- a row stays among those that another one is put among
pub contains_put : (new : Row) (rows : List Row) (y : Row) → Contains rows y → Contains (put_row new rows) y
contains_put new [] y (k, within, at) = absurd (omega arith)
contains_put new (row ∷ rows) y among =
    elim (comes_before new.path row.path) as (λ b. Contains (cond b (new ∷ row ∷ rows) (row ∷ put_row new rows)) y) [
      | true ↦ contains_more new (row ∷ rows) y among
      | false ↦ elim (contains_cases row rows y among) [
        | inl same ↦ subst (λ (z : Row). Contains (row ∷ put_row new rows) z) same (contains_first row (put_row new rows))
        | inr more ↦ contains_more row (put_row new rows) y (contains_put new rows y more)
      ]
    ]

-- a row that is put among others is among them
pub contains_new : (new : Row) (rows : List Row) → Contains (put_row new rows) new
contains_new new [] = contains_first new []
contains_new new (row ∷ rows) =
    elim (comes_before new.path row.path) as (λ b. Contains (cond b (new ∷ row ∷ rows) (row ∷ put_row new rows)) new)
    [ true ↦ contains_first new (row ∷ rows) | false ↦ contains_more row (put_row new rows) new (contains_new new rows) ]
