-- What a use of a row keeps, and what its coming to stand keeps.
use Rattle.std.proofs.Common.{◌≡◌, ℕ, true, false, List, cond, refl}
use Rattle.mat_model.specs.declared.book.Row.{Row}
use Rattle.mat_model.specs.Rows.{is_at_path, standing_row, used_row}

-- a use of a row keeps its path
pub used-path : (path : List (List ℕ)) (moment : ℕ) (row : Row) → (used_row path moment row).path ≡ row.path
used-path path moment row =
    elim (is_at_path path row) as (λ b. (cond b (record row { last = moment }) row).path ≡ row.path) [ true ↦ refl | false ↦ refl ]

-- a use of a row keeps its tree
pub used-tree : (path : List (List ℕ)) (moment : ℕ) (row : Row) → (used_row path moment row).tree ≡ row.tree
used-tree path moment row =
    elim (is_at_path path row) as (λ b. (cond b (record row { last = moment }) row).tree ≡ row.tree) [ true ↦ refl | false ↦ refl ]

-- a use of a row keeps whether it stands
pub used-stands : (path : List (List ℕ)) (moment : ℕ) (row : Row) → (used_row path moment row).stands ≡ row.stands
used-stands path moment row =
    elim (is_at_path path row) as (λ b. (cond b (record row { last = moment }) row).stands ≡ row.stands) [ true ↦ refl | false ↦ refl ]

-- making a row stand keeps its path
pub standing-path : (path : List (List ℕ)) (row : Row) → (standing_row path row).path ≡ row.path
standing-path path row =
    elim (is_at_path path row) as (λ b. (cond b (record row { stands = true }) row).path ≡ row.path) [ true ↦ refl | false ↦ refl ]

-- making a row stand keeps its tree
pub standing-tree : (path : List (List ℕ)) (row : Row) → (standing_row path row).tree ≡ row.tree
standing-tree path row =
    elim (is_at_path path row) as (λ b. (cond b (record row { stands = true }) row).tree ≡ row.tree) [ true ↦ refl | false ↦ refl ]

-- making a row stand keeps its stamp
pub standing-stamp : (path : List (List ℕ)) (row : Row) → (standing_row path row).stamp ≡ row.stamp
standing-stamp path row =
    elim (is_at_path path row) as (λ b. (cond b (record row { stands = true }) row).stamp ≡ row.stamp) [ true ↦ refl | false ↦ refl ]

-- a use of a row keeps its stamp
pub used-stamp : (path : List (List ℕ)) (n : ℕ) (row : Row) → (used_row path n row).stamp ≡ row.stamp
used-stamp path n row =
    elim (is_at_path path row) as (λ b. (cond b (record row { last = n }) row).stamp ≡ row.stamp) [ true ↦ refl | false ↦ refl ]
