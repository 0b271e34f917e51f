-- Work for an open ticket: where no job runs, a wipe or a make may begin.
use Rattle.mat_path.proofs.Elements.{contains_cases}
use Rattle.std.proofs.Common.{◌≡◌, ℕ, Bool, true, false, not, ◌||◌, List, [], ◌∷◌, Option, Some, None, cond, inl, inr, refl, sym, ap, subst, ◌∙◌, Contains, find, arith}
use Rattle.std.specs.List.{list_any}
use Rattle.std.specs.Option.{is_some, option_and_then, option_map, option_map_or, option_or}
use Rattle.std.proofs.lemmas.Bool.{and_from, or_from, or_right}
use Rattle.mat_model.specs.declared.book.Book.{Book}
use Rattle.mat_model.specs.declared.book.Row.{Row}
use Rattle.mat_model.specs.declared.book.Ticket.{Ticket}
use Rattle.mat_model.specs.declared.entries.Task.{Task}
use Rattle.mat_model.specs.declared.entries.Task.TheVariants as task
use Rattle.mat_model.specs.Books.{IsBook}
use Rattle.mat_model.specs.Rows.{cover, covers}
use Rattle.mat_model.specs.Tickets.{is_open, waits_for}
use Rattle.mat_model.specs.WorkState.{Debris, Job, WorkState, first_make, first_task, first_wipe, is_above, is_above_wanted, is_debris_above, is_kept_back, is_lent, is_lent_part, is_wanted, lent_by, make_of, may_wipe, task_of, way_of, wipe_of}
use Rattle.model_laws.proofs.BooksKept.{ticket_waits}
use Rattle.model_laws.proofs.BooksLists.{any_contains, contains_any}
use Rattle.model_laws.proofs.Idle.{none_lent}
use Rattle.model_laws.proofs.Elements.{found_contains}
use Rattle.model_laws.proofs.Elements.{found_passes}

-- something is found where an element passes
pub found_some : {A : Type 0} (p : A → Bool) (xs : List A) → list_any p xs ≡ true → is_some (find p xs) ≡ true
found_some p [] any = absurd cc
found_some {A = A} p (x ∷ xs) any =
    elim (p x) as (λ b. (b || list_any p xs) ≡ true → is_some (cond b (Some x) (find p xs)) ≡ true)
    [ true ↦ λ here. refl | false ↦ λ more. found_some p xs more ] any

-- the first of two tasks is there, or the second
pub first_some : (first second : Option Task) → is_some first ≡ true → is_some (option_or first second) ≡ true
first_some None second is = absurd cc
first_some (Some one) second is = refl

second_some : (first second : Option Task) → is_some second ≡ true → is_some (option_or first second) ≡ true
second_some None second is = is
second_some (Some one) second is = refl

pub wipe_some : (o : Option Debris) → is_some o ≡ true → is_some (option_map wipe_of o) ≡ true
wipe_some None is = absurd cc
wipe_some (Some debris) is = refl

-- a make comes first where a ticket waits for one that may begin
make_some : (work : WorkState) (rows : List Row) (tickets : List Ticket) (ticket : Ticket) → Contains tickets ticket →
    is_some (task_of work rows ticket) ≡ true → is_some (first_make work rows tickets) ≡ true
make_some work rows [] ticket (k, within, at) is = absurd (omega arith)
make_some work rows (next ∷ tickets) ticket among is =
    elim (contains_cases next tickets ticket among) [
      | inl same ↦
          first_some (task_of work rows next) (first_make work rows tickets)
          (subst (λ (t : Ticket). is_some (task_of work rows t) ≡ true) (sym same) is)
      | inr more ↦ second_some (task_of work rows next) (first_make work rows tickets) (make_some work rows tickets ticket more is)
    ]

-- debris strictly above a row that has an open ticket may be wiped where no job runs
may_wipe_above : (work : WorkState) (book : Book) (row : Row) (debris : Debris) → work.jobs ≡ [] → Contains book.rows row →
    is_wanted book.tickets row ≡ true → is_debris_above row.path debris ≡ true → may_wipe work book debris ≡ true
may_wipe_above work book row debris none among wanted above =
    and_from (not (is_lent debris.path work.jobs)) (debris.condemned || list_any (is_above_wanted debris.path book.tickets) book.rows)
    (ap (λ (jobs : List Job). not (is_lent debris.path jobs)) none)
    (or_right debris.condemned (list_any (is_above_wanted debris.path book.tickets) book.rows)
    (contains_any (is_above_wanted debris.path book.tickets) book.rows row among
    (and_from (is_above debris.path row.path) (is_wanted book.tickets row) above wanted)))

-- a row that doesn't stand is not kept back where no job runs and no debris is strictly above it
free_back : (work : WorkState) (rows : List Row) (row : Row) → work.jobs ≡ [] → row.stands ≡ false →
    list_any (is_debris_above row.path) work.debris ≡ false → is_kept_back work rows row ≡ false
free_back work rows row none lies clear =
    or_from (row.stands || is_lent row.path work.jobs || list_any (is_debris_above row.path) work.debris)
    (option_map_or (is_lent_part work.jobs) (lent_by (way_of row.stamp work.ways) rows) false)
    (or_from (row.stands || is_lent row.path work.jobs) (list_any (is_debris_above row.path) work.debris)
    (or_from row.stands (is_lent row.path work.jobs) lies (ap (λ (jobs : List Job). is_lent row.path jobs) none)) clear)
    (ap (λ (jobs : List Job). option_map_or (is_lent_part jobs) (lent_by (way_of row.stamp work.ways) rows) false) none
    ∙ none_lent (lent_by (way_of row.stamp work.ways) rows))

-- an open ticket gives work where no job runs
pub gives_work : (next : ℕ) (work : WorkState) (book : Book) (ticket : Ticket) → IsBook next book → work.jobs ≡ [] → Contains book.tickets ticket →
    is_open ticket ≡ true → is_some (first_task work book) ≡ true
gives_work next work book ticket rules none among lies =
    let (row, found, unmade, same) = ticket_waits next book ticket rules among lies in
    let within : Contains book.rows row = found_contains (covers ticket.asked) book.rows row found in
    let wanted : is_wanted book.tickets row ≡ true =
    contains_any (waits_for row) book.tickets ticket among
    (and_from (is_open ticket) (covers ticket.asked row) lies (found_passes (covers ticket.asked) book.rows row found)) in
    elim (list_any (is_debris_above row.path) work.debris) as
    (λ b. list_any (is_debris_above row.path) work.debris ≡ b → is_some (first_task work book) ≡ true) [
      | true ↦ λ some.
          let (debris, lying, above) = any_contains (is_debris_above row.path) work.debris some in
          first_some (first_wipe work book) (first_make work book.rows book.tickets)
          (wipe_some (find (may_wipe work book) work.debris)
          (found_some (may_wipe work book) work.debris
          (contains_any (may_wipe work book) work.debris debris lying (may_wipe_above work book row debris none within wanted above))))
      | false ↦ λ clear.
          let made : task_of work book.rows ticket ≡ Some (task.Make row.path row.stamp) =
          ap (λ (b : Bool). cond b (option_and_then (make_of work book.rows) (cover book.rows ticket.asked)) None) lies
          ∙ ap (λ (o : Option Row). option_and_then (make_of work book.rows) o) found
          ∙ ap (λ (b : Bool). cond b None (Some (task.Make row.path row.stamp))) (free_back work book.rows row none unmade clear) in
          second_some (first_wipe work book) (first_make work book.rows book.tickets)
          (make_some work book.rows book.tickets ticket among (ap (λ (o : Option Task). is_some o) made))
    ] refl
