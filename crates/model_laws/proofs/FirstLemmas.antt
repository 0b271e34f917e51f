-- What is true of the task that comes first, and that all is done where none does and no job runs.
use Rattle.mat_path.proofs.Elements.{contains_first, contains_more}
use Rattle.std.proofs.Common.{◌≡◌, ℕ, Bool, true, false, not, ◌||◌, ◌⊎◌, List, [], ◌∷◌, Option, Some, None, cond, inl, inr, refl, sym, ap, subst, ◌∙◌, Contains, find}
use Rattle.std.specs.List.{list_any}
use Rattle.std.specs.Option.{is_some, option_and_then, option_map, option_map_or, option_or}
use Rattle.std.proofs.lemmas.Bool.{and_from, and_parts, false_from_ne_true, not-true, or_left, or_parts}
use Rattle.mat_model.specs.declared.book.Book.{Book}
use Rattle.mat_model.specs.declared.book.Row.{Row}
use Rattle.mat_model.specs.declared.book.Ticket.{Ticket}
use Rattle.mat_model.specs.declared.entries.Task.{Task}
use Rattle.mat_model.specs.declared.entries.Task.TheVariants as task
use Rattle.mat_model.specs.Books.{IsBook}
use Rattle.mat_model.specs.Drained.{IsDrained}
use Rattle.mat_model.specs.History.{Point}
use Rattle.mat_model.specs.Rows.{covers}
use Rattle.mat_model.specs.Tickets.{is_open, waits_for}
use Rattle.mat_model.specs.WorkState.{Debris, Job, Lent, WorkState, first_make, first_task, first_wipe, is_above, is_above_wanted, is_condemned, is_debris_above, is_kept_back, is_lent, is_lent_part, is_wanted, lent_by, lent_for, make_of, may_wipe, task_of, way_of, wipe_of}
use Rattle.model_laws.specs.FirstRules.{IsInTheWay, MakeMayBegin, WipeMayBegin}
use Rattle.model_laws.proofs.BooksLists.{any_contains, contains_any}
use Rattle.model_laws.proofs.BooksWork.{first_some, found_some, gives_work, wipe_some}
use Rattle.model_laws.proofs.Elements.{found_contains, found_passes}

-- a test of what there may be that is false is false of what there is
none_of : (jobs : List Job) (o : Option Lent) → option_map_or (is_lent_part jobs) o false ≡ false → (lent : Lent) → o ≡ Some lent →
    is_lent lent.path jobs ≡ false
none_of jobs o off lent is = ap (λ (p : Option Lent). option_map_or (is_lent_part jobs) p false) (sym is) ∙ off

-- a row whose make is a task isn't kept back
make_of_free : (work : WorkState) (rows : List Row) (row : Row) (path : List (List ℕ)) (stamp : ℕ) →
    make_of work rows row ≡ Some (task.Make path stamp) → (row.path ≡ path) × (row.stamp ≡ stamp) × (is_kept_back work rows row ≡ false)
make_of_free work rows row path stamp is =
    elim (is_kept_back work rows row) as
    (λ b. is_kept_back work rows row ≡ b → cond b None (Some (task.Make row.path row.stamp)) ≡ Some (task.Make path stamp) →
    (row.path ≡ path) × (row.stamp ≡ stamp) × (is_kept_back work rows row ≡ false)) [
      | true ↦ λ back made. absurd cc
      | false ↦ λ free made.
          let place : row.path ≡ path = cc in
          let number : row.stamp ≡ stamp = cc in
          (place, number, free)
    ] refl is

-- what a ticket waits for is the make of a row, never a wipe
abbrev IsWaitedFor : WorkState → List Row → Ticket → Task → Type 0
IsWaitedFor work rows ticket one =
    (row : Row) × Contains rows row × (waits_for row ticket ≡ true) × (make_of work rows row ≡ Some one)

waited : (work : WorkState) (rows : List Row) (ticket : Ticket) (one : Task) → task_of work rows ticket ≡ Some one → IsWaitedFor work rows ticket one
waited work rows ticket one is =
    elim (is_open ticket) as
    (λ b. is_open ticket ≡ b → cond b (option_and_then (make_of work rows) (find (covers ticket.asked) rows)) None ≡ Some one →
    IsWaitedFor work rows ticket one) [
      | true ↦ λ lies of.
          elim (find (covers ticket.asked) rows) as
          (λ o. find (covers ticket.asked) rows ≡ o → option_and_then (make_of work rows) o ≡ Some one → IsWaitedFor work rows ticket one) [
            | None ↦ λ found made. absurd cc
            | Some row ↦ λ found made. (
              row,
              found_contains (covers ticket.asked) rows row found,
              and_from (is_open ticket) (covers ticket.asked row) lies (found_passes (covers ticket.asked) rows row found),
              made,
            )
          ] refl of
      | false ↦ λ shut of. absurd cc
    ] refl is

first_waited : (work : WorkState) (rows : List Row) (tickets : List Ticket) (one : Task) → first_make work rows tickets ≡ Some one →
    (ticket : Ticket) × Contains tickets ticket × IsWaitedFor work rows ticket one
first_waited work rows [] one is = absurd cc
first_waited work rows (ticket ∷ tickets) one is =
    elim (task_of work rows ticket) as
    (λ o. task_of work rows ticket ≡ o → option_or o (first_make work rows tickets) ≡ Some one →
    (other : Ticket) × Contains (ticket ∷ tickets) other × IsWaitedFor work rows other one) [
      | None ↦ λ here more.
          let (other, among, for) = first_waited work rows tickets one more in (other, contains_more ticket tickets other among, for)
      | Some made ↦ λ here more. (ticket, contains_first ticket tickets, waited work rows ticket one (here ∙ more))
    ] refl is

-- the task that comes first is a wipe that may begin, or else the first make
first_cases : (work : WorkState) (book : Book) (one : Task) → first_task work book ≡ Some one →
    ((debris : Debris) × (find (may_wipe work book) work.debris ≡ Some debris) × (wipe_of debris ≡ one))
    ⊎ (first_make work book.rows book.tickets ≡ Some one)
first_cases work book one is =
    elim (find (may_wipe work book) work.debris) as
    (λ o. find (may_wipe work book) work.debris ≡ o → option_or (option_map wipe_of o) (first_make work book.rows book.tickets) ≡ Some one →
    ((debris : Debris) × (find (may_wipe work book) work.debris ≡ Some debris) × (wipe_of debris ≡ one))
    ⊎ (first_make work book.rows book.tickets ≡ Some one)) [
      | None ↦ λ found more. inr more
      | Some debris ↦ λ found more. let same : wipe_of debris ≡ one = cc in inl (debris, found, same)
    ] refl is

-- the make that comes first may begin
pub make_may_begin : (work : WorkState) (book : Book) (path : List (List ℕ)) (stamp : ℕ) → first_task work book ≡ Some (task.Make path stamp) →
    MakeMayBegin work book path stamp
make_may_begin work book path stamp is =
    elim (first_cases work book (task.Make path stamp) is) [
      | inl (debris, found, same) ↦ absurd cc
      | inr make ↦
          let (ticket, asking, for) = first_waited work book.rows book.tickets (task.Make path stamp) make in
          let (row, among, waits, of) = for in
          let (placed, stamped, free) = make_of_free work book.rows row path stamp of in
          let sourced = or_parts (row.stands || is_lent row.path work.jobs || list_any (is_debris_above row.path) work.debris)
          (option_map_or (is_lent_part work.jobs) (lent_by (way_of row.stamp work.ways) book.rows) false) free in
          let clear = or_parts (row.stands || is_lent row.path work.jobs) (list_any (is_debris_above row.path) work.debris) sourced.0 in
          let loans = or_parts row.stands (is_lent row.path work.jobs) clear.0 in record {
            row = row;
            among = among;
            placed = placed;
            stamped = stamped;
            lies = loans.0;
            ticket = ticket;
            asking = asking;
            waits = waits;
            free = subst (λ (p : List (List ℕ)). is_lent p work.jobs ≡ false) placed loans.1;
            clear = subst (λ (p : List (List ℕ)). list_any (is_debris_above p) work.debris ≡ false) placed clear.1;
            source = subst (λ (s : ℕ). (lent : Lent) → lent_for (task.Make path s) book.rows work.ways ≡ Some lent → is_lent lent.path work.jobs ≡ false)
                stamped (none_of work.jobs (lent_by (way_of row.stamp work.ways) book.rows) sourced.1);
          }
    ]

-- the wipe that comes first may begin
pub wipe_may_begin : (work : WorkState) (book : Book) (path : List (List ℕ)) → first_task work book ≡ Some (task.Wipe path) →
    WipeMayBegin work book path
wipe_may_begin work book path is =
    elim (first_cases work book (task.Wipe path) is) [
      | inl (debris, found, same) ↦
          let placed : debris.path ≡ path = cc in
          let parts = and_parts (not (is_lent debris.path work.jobs))
          (debris.condemned || list_any (is_above_wanted debris.path book.tickets) book.rows) (found_passes (may_wipe work book) work.debris debris found) in
          record {
            debris = debris;
            among = found_contains (may_wipe work book) work.debris debris found;
            placed = placed;
            free = subst (λ (p : List (List ℕ)). is_lent p work.jobs ≡ false) placed (not-true (is_lent debris.path work.jobs) parts.0);
            asked = subst (λ (p : List (List ℕ)). (debris.condemned ≡ true) ⊎ IsInTheWay book p) placed (why debris parts.1);
          }
      | inr make ↦
          let (ticket, asking, for) = first_waited work book.rows book.tickets (task.Wipe path) make in
          let (row, among, waits, of) = for in
          absurd (never_wipe (is_kept_back work book.rows row) row of)
    ]
  where
    never_wipe : (b : Bool) (row : Row) → cond b None (Some (task.Make row.path row.stamp)) ≡ Some (task.Wipe path) → ⊥
    never_wipe true row made = absurd cc
    never_wipe false row made = absurd cc

    why : (debris : Debris) → (debris.condemned || list_any (is_above_wanted debris.path book.tickets) book.rows) ≡ true →
        (debris.condemned ≡ true) ⊎ IsInTheWay book debris.path
    why debris is =
        elim debris.condemned as
        (λ b. debris.condemned ≡ b → (b || list_any (is_above_wanted debris.path book.tickets) book.rows) ≡ true →
        (debris.condemned ≡ true) ⊎ IsInTheWay book debris.path) [
          | true ↦ λ marked some. inl marked
          | false ↦ λ plain some.
              let (row, among, over) = any_contains (is_above_wanted debris.path book.tickets) book.rows some in
              let parts = and_parts (is_above debris.path row.path) (is_wanted book.tickets row) over in
              inr (record { row = row; among = among; above = parts.0; wanted = parts.1 })
        ] refl is

-- where no job runs and no task comes first, all is done
pub none_first : (next : ℕ) (point : Point) → IsBook next point.book → point.work.jobs ≡ [] → first_task point.work point.book ≡ None →
    IsDrained point
none_first next point rules none first = record {
  answered = false_from_ne_true (list_any is_open point.book.tickets) (λ some.
      let (ticket, among, lies) = any_contains is_open point.book.tickets some in
      never (gives_work next point.work point.book ticket rules none among lies));
  jobs = none;
  clean = false_from_ne_true (list_any is_condemned point.work.debris) (λ some.
      let (debris, among, marked) = any_contains is_condemned point.work.debris some in
      never (first_some (first_wipe point.work point.book) (first_make point.work point.book.rows point.book.tickets)
      (wipe_some (find (may_wipe point.work point.book) point.work.debris)
      (found_some (may_wipe point.work point.book) point.work.debris
      (contains_any (may_wipe point.work point.book) point.work.debris debris among (wipes debris marked))))));
}
  where
    never : is_some (first_task point.work point.book) ≡ true → ⊥
    never is = let off : is_some (first_task point.work point.book) ≡ false = ap (λ (o : Option Task). is_some o) first in absurd cc

    wipes : (debris : Debris) → debris.condemned ≡ true → may_wipe point.work point.book debris ≡ true
    wipes debris marked =
        and_from (not (is_lent debris.path point.work.jobs))
        (debris.condemned || list_any (is_above_wanted debris.path point.book.tickets) point.book.rows)
        (ap (λ (jobs : List Job). not (is_lent debris.path jobs)) none)
        (or_left debris.condemned (list_any (is_above_wanted debris.path point.book.tickets) point.book.rows) marked)
