-- The row that the first make is for: it is in the book, at the task's path and under its stamp, and it doesn't stand yet.
use Rattle.mat_path.proofs.Elements.{contains_cases}
use Rattle.mat_path.proofs.Overlaps.{overlap-refl}
use Rattle.mat_path.proofs.SameNames.{same_names-eq, same_names-refl}
use Rattle.std.proofs.Common.{◌≡◌, ℕ, ◌==◌, Bool, true, false, ◌||◌, List, [], ◌∷◌, Some, None, cond, inl, inr, refl, sym, ap, ap₂, subst, ◌∙◌, Contains, find, arith}
use Rattle.std.specs.List.{list_all, list_any}
use Rattle.std.specs.Option.{option_and_then, option_map_or, option_or}
use Rattle.std.proofs.lemmas.Bool.{and_from, and_parts, both_ways, eq-eqb, or_parts}
use Rattle.mat_path.specs.Names.{overlap}
use Rattle.mat_model.specs.declared.book.Row.{Row}
use Rattle.mat_model.specs.declared.book.Ticket.{Ticket}
use Rattle.mat_model.specs.declared.entries.Task.TheVariants as task
use Rattle.mat_model.specs.Tickets.{is_open}
use Rattle.mat_model.specs.Rows.{are_apart, covers, is_apart, is_at_path}
use Rattle.mat_model.specs.Work.{is_declared}
use Rattle.mat_model.specs.WorkState.{WorkState, first_make, is_debris_above, is_kept_back, is_lent, is_lent_part, lent_by, make_of, task_of, way_of}
use Rattle.model_laws.proofs.Apart.{apart_parts}
use Rattle.model_laws.proofs.Elements.{contains_all, found_contains}

-- a row that doesn't stand, at a path and under a stamp
abbrev pub HasMake : List Row → List (List ℕ) → ℕ → Type 0
HasMake rows path stamp = (row : Row) × Contains rows row × (row.path ≡ path) × (row.stamp ≡ stamp) × (row.stands ≡ false)

-- a row that is not kept back doesn't stand
lies_free : (work : WorkState) (rows : List Row) (row : Row) → is_kept_back work rows row ≡ false → row.stands ≡ false
lies_free work rows row free =
    let sourced = or_parts (row.stands || is_lent row.path work.jobs || list_any (is_debris_above row.path) work.debris)
    (option_map_or (is_lent_part work.jobs) (lent_by (way_of row.stamp work.ways) rows) false) free in
    let clear = or_parts (row.stands || is_lent row.path work.jobs) (list_any (is_debris_above row.path) work.debris) sourced.0 in
    (or_parts row.stands (is_lent row.path work.jobs) clear.0).0

-- a row whose make is a task is at its path and under its stamp, and doesn't stand
pub make_of_parts : (work : WorkState) (rows : List Row) (row : Row) (path : List (List ℕ)) (stamp : ℕ) → make_of work rows row ≡ Some (task.Make path stamp) →
    (row.path ≡ path) × (row.stamp ≡ stamp) × (row.stands ≡ false)
make_of_parts work rows row path stamp is =
    elim (is_kept_back work rows row) as
    (λ b. is_kept_back work rows row ≡ b → cond b None (Some (task.Make row.path row.stamp)) ≡ Some (task.Make path stamp) →
    (row.path ≡ path) × (row.stamp ≡ stamp) × (row.stands ≡ false)) [
      | true ↦ λ back made. absurd cc
      | false ↦ λ free made.
          let place : row.path ≡ path = cc in
          let number : row.stamp ≡ stamp = cc in
          (place, number, lies_free work rows row free)
    ] refl is

-- the row whose make a ticket waits for
pub task_of_row : (work : WorkState) (rows : List Row) (ticket : Ticket) (path : List (List ℕ)) (stamp : ℕ) → task_of work rows ticket ≡ Some (task.Make path stamp) →
    HasMake rows path stamp
task_of_row work rows ticket path stamp is =
    elim (is_open ticket) as
    (λ b. cond b (option_and_then (make_of work rows) (find (covers ticket.asked) rows)) None ≡ Some (task.Make path stamp) → HasMake rows path stamp) [
      | true ↦ λ of.
          elim (find (covers ticket.asked) rows) as
          (λ o. find (covers ticket.asked) rows ≡ o → option_and_then (make_of work rows) o ≡ Some (task.Make path stamp) → HasMake rows path stamp) [
            | None ↦ λ found made. absurd cc
            | Some row ↦ λ found made.
                let parts = make_of_parts work rows row path stamp made in
                (row, found_contains (covers ticket.asked) rows row found, parts.0, parts.1, parts.2)
          ] refl of
      | false ↦ λ of. absurd cc
    ] is

-- the row that the first make is for
pub first_make_row : (work : WorkState) (rows : List Row) (tickets : List Ticket) (path : List (List ℕ)) (stamp : ℕ) →
    first_make work rows tickets ≡ Some (task.Make path stamp) →
    (row : Row) × Contains rows row × (row.path ≡ path) × (row.stamp ≡ stamp) × (row.stands ≡ false)
first_make_row work rows [] path stamp is = absurd cc
first_make_row work rows (ticket ∷ tickets) path stamp is =
    elim (task_of work rows ticket) as
    (λ o. task_of work rows ticket ≡ o → option_or o (first_make work rows tickets) ≡ Some (task.Make path stamp) → HasMake rows path stamp) [
      | None ↦ λ here more. first_make_row work rows tickets path stamp more
      | Some one ↦ λ here more. task_of_row work rows ticket path stamp (here ∙ more)
    ] refl is

-- of rows that are apart, a test that one passes, and none at another path, finds that one
pub find-apart : (p : Row → Bool) (rows : List Row) (row : Row) → p row ≡ true → ((other : Row) → p other ≡ true → other.path ≡ row.path) →
    are_apart rows ≡ true → Contains rows row → find p rows ≡ Some row
find-apart p [] row passes same apart (k, within, at) = absurd (omega arith)
find-apart p (next ∷ rows) row passes same apart among =
    let parts = and_parts (list_all (is_apart next) rows) (are_apart rows) apart in
    elim (contains_cases next rows row among) [
      | inl one ↦
          let here : p next ≡ true = subst (λ (r : Row). p r ≡ true) (sym one) passes in
          ap (λ (b : Bool). cond b (Some next) (find p rows)) here ∙ ap (λ (r : Row). Some r) one
      | inr more ↦
          let clear : overlap next.path row.path ≡ false =
          (apart_parts next row (contains_all (is_apart next) rows row parts.0 more)).1 in
          let off : p next ≡ false =
          elim (p next) as (λ b. p next ≡ b → b ≡ false) [
            | true ↦ λ here. absurd (both_ways (overlap next.path row.path) clear
                (subst (λ (q : List (List ℕ)). overlap q row.path ≡ true) (sym (same next here)) (overlap-refl row.path)))
            | false ↦ λ here. refl
          ] refl in
          ap (λ (b : Bool). cond b (Some next) (find p rows)) off ∙ find-apart p rows row passes same parts.1 more
    ]

-- of rows that are apart, each is found at its path
pub apart_at : (rows : List Row) (row : Row) → are_apart rows ≡ true → Contains rows row → find (is_at_path row.path) rows ≡ Some row
apart_at rows row apart among =
    find-apart (is_at_path row.path) rows row (same_names-refl row.path) (λ other at. same_names-eq other.path row.path at) apart among

-- of rows that are apart, each is found at its path under its stamp
pub apart_declared : (rows : List Row) (row : Row) → are_apart rows ≡ true → Contains rows row →
    find (is_declared row.path row.stamp) rows ≡ Some row
apart_declared rows row apart among =
    find-apart (is_declared row.path row.stamp) rows row
    (and_from (is_at_path row.path row) (row.stamp == row.stamp) (same_names-refl row.path) (eq-eqb row.stamp row.stamp refl))
    (λ other at. same_names-eq other.path row.path (and_parts (is_at_path row.path other) (other.stamp == row.stamp) at).0)
    apart among

-- the row that the first make is for is found, both at the task's path and under its stamp, and doesn't stand
pub first_make_found : (work : WorkState) (rows : List Row) (tickets : List Ticket) (path : List (List ℕ)) (stamp : ℕ) → are_apart rows ≡ true →
    first_make work rows tickets ≡ Some (task.Make path stamp) →
    (row : Row) × (find (is_at_path path) rows ≡ Some row) × (find (is_declared path stamp) rows ≡ Some row) × (row.stands ≡ false)
first_make_found work rows tickets path stamp apart is =
    let made = first_make_row work rows tickets path stamp is in (
      made.0,
      subst (λ (p : List (List ℕ)). find (is_at_path p) rows ≡ Some made.0) made.2 (apart_at rows made.0 apart made.1),
      ap₂ (λ (p : List (List ℕ)) (s : ℕ). find (is_declared p s) rows) (sym made.2) (sym made.3) ∙ apart_declared rows made.0 apart made.1,
      made.4,
    )
