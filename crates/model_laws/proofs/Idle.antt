-- A work state in which no job runs and nothing is debris: what comes first, and what a request leaves of it.
use Rattle.mat_path.proofs.Elements.{contains_cases, contains_first, contains_more}
use Rattle.std.proofs.Common.{◌≡◌, ℕ, ◌==◌, Bool, true, false, not, ◌||◌, List, [], ◌∷◌, Option, Some, None, cond, inl, inr, refl, sym, ap, ap₂, ◌∙◌, Contains, find, filter, arith}
use Rattle.std.specs.List.{list_any}
use Rattle.std.specs.Option.{option_and_then, option_map, option_map_or, option_or}
use Rattle.std.proofs.Math.Bool.{or-true}
use Rattle.std.proofs.lemmas.Bool.{eq-eqb}
use Rattle.mat_model.specs.declared.book.Book.{Book}
use Rattle.mat_model.specs.declared.book.Row.{Row}
use Rattle.mat_model.specs.declared.book.Ticket.{Ticket}
use Rattle.mat_model.specs.declared.entries.Task.{Task}
use Rattle.mat_model.specs.declared.entries.Task.TheVariants as task
use Rattle.mat_model.specs.Rows.{cover}
use Rattle.mat_model.specs.Tickets.{is_open}
use Rattle.mat_model.specs.WorkState.{Debris, Job, Lent, WorkState, first_make, first_task, has_stamp, idle_work, is_debris_above, is_gone, is_kept_back, is_lent, is_lent_part, lent_by, make_of, may_wipe, removed_rows, task_of, way_of, wipe_of}

-- nothing is lent where no job runs
pub none_lent : (o : Option Lent) → option_map_or (is_lent_part []) o false ≡ false
none_lent None = refl
none_lent (Some lent) = refl

or_none : (a b : Bool) → b ≡ false → (((a || false) || false) || b) ≡ a
or_none true b is = refl
or_none false b is = is

-- what keeps a make back is then that its row stands
pub idle_back : (work : WorkState) (rows : List Row) (row : Row) → work.jobs ≡ [] → work.debris ≡ [] → is_kept_back work rows row ≡ row.stands
idle_back work rows row jobs debris =
    ap₂ (λ (js : List Job) (ds : List Debris).
    row.stands || is_lent row.path js || list_any (is_debris_above row.path) ds
    || option_map_or (is_lent_part js) (lent_by (way_of row.stamp work.ways) rows) false) jobs debris
    ∙ or_none row.stands (option_map_or (is_lent_part []) (lent_by (way_of row.stamp work.ways) rows) false)
    (none_lent (lent_by (way_of row.stamp work.ways) rows))

-- and the make of a row is there exactly where it doesn't stand
pub idle_make : (work : WorkState) (rows : List Row) (row : Row) → work.jobs ≡ [] → work.debris ≡ [] →
    make_of work rows row ≡ cond row.stands None (Some (task.Make row.path row.stamp))
idle_make work rows row jobs debris =
    ap (λ (b : Bool). cond b None (Some (task.Make row.path row.stamp))) (idle_back work rows row jobs debris)

same_make : (work other : WorkState) (rows : List Row) (row : Row) → work.jobs ≡ [] → work.debris ≡ [] → other.jobs ≡ [] → other.debris ≡ [] →
    make_of work rows row ≡ make_of other rows row
same_make work other rows row jobs debris other_jobs other_debris =
    idle_make work rows row jobs debris ∙ sym (idle_make other rows row other_jobs other_debris)

same_first : (work other : WorkState) (rows : List Row) (tickets : List Ticket) → work.jobs ≡ [] → work.debris ≡ [] → other.jobs ≡ [] → other.debris ≡ [] →
    first_make work rows tickets ≡ first_make other rows tickets
same_first work other rows [] jobs debris other_jobs other_debris = refl
same_first work other rows (ticket ∷ tickets) jobs debris other_jobs other_debris =
    ap₂ (λ (o p : Option Task). option_or o p)
    (ap (λ (o : Option Task). cond (is_open ticket) o None) (by (cover rows ticket.asked)))
    (same_first work other rows tickets jobs debris other_jobs other_debris)
  where
    by : (o : Option Row) → option_and_then (make_of work rows) o ≡ option_and_then (make_of other rows) o
    by None = refl
    by (Some row) = same_make work other rows row jobs debris other_jobs other_debris

-- what comes first is the same in any two such states
pub idle_first : (work : WorkState) (book : Book) → work.jobs ≡ [] → work.debris ≡ [] → first_task work book ≡ first_task (idle_work []) book
idle_first work book jobs debris =
    ap (λ (ds : List Debris). option_or (option_map wipe_of (find (may_wipe work book) ds)) (first_make work book.rows book.tickets)) debris
    ∙ same_first work (idle_work []) book.rows book.tickets jobs debris refl refl

-- no make is a wipe
not_wipe : (work : WorkState) (rows : List Row) (row : Row) (path : List (List ℕ)) → make_of work rows row ≡ Some (task.Wipe path) → ⊥
not_wipe work rows row path is =
    elim (is_kept_back work rows row) as (λ b. cond b None (Some (task.Make row.path row.stamp)) ≡ Some (task.Wipe path) → ⊥)
    [ true ↦ λ made. cc | false ↦ λ made. cc ] is

-- what is made first for a ticket is no wipe
pub no_wipe : (work : WorkState) (rows : List Row) (tickets : List Ticket) (path : List (List ℕ)) → first_make work rows tickets ≡ Some (task.Wipe path) → ⊥
no_wipe work rows [] path is = cc
no_wipe work rows (ticket ∷ tickets) path is =
    elim (task_of work rows ticket) as
    (λ o. task_of work rows ticket ≡ o → option_or o (first_make work rows tickets) ≡ Some (task.Wipe path) → ⊥) [
      | None ↦ λ here more. no_wipe work rows tickets path more
      | Some one ↦ λ here more. of_ticket (here ∙ more)
    ] refl is
  where
    of_row : (o : Option Row) → option_and_then (make_of work rows) o ≡ Some (task.Wipe path) → ⊥
    of_row None is = cc
    of_row (Some row) is = not_wipe work rows row path is

    of_ticket : task_of work rows ticket ≡ Some (task.Wipe path) → ⊥
    of_ticket is =
        elim (is_open ticket) as
        (λ b. cond b (option_and_then (make_of work rows) (cover rows ticket.asked)) None ≡ Some (task.Wipe path) → ⊥)
        [ true ↦ λ of. of_row (cover rows ticket.asked) of | false ↦ λ of. cc ] is

-- a row's stamp is among rows that have one with it
pub has_one : (left : List Row) (row other : Row) → Contains left other → other.stamp ≡ row.stamp → list_any (has_stamp row.stamp) left ≡ true
has_one [] row other (k, within, at) same = absurd (omega arith)
has_one (next ∷ left) row other among same =
    elim (contains_cases next left other among) [
      | inl one ↦ ap (λ (n : ℕ). (n == row.stamp) || list_any (has_stamp row.stamp) left) (ap (λ (r : Row). r.stamp) one ∙ same)
          ∙ ap (λ (b : Bool). b || list_any (has_stamp row.stamp) left) (eq-eqb row.stamp row.stamp refl)
      | inr more ↦ ap (λ (b : Bool). (next.stamp == row.stamp) || b) (has_one left row other more same) ∙ or-true (next.stamp == row.stamp)
    ]

-- no row is removed where each still has its stamp
pub none_removed : (rows left : List Row) → ((row : Row) → Contains rows row → list_any (has_stamp row.stamp) left ≡ true) → removed_rows rows left ≡ []
none_removed [] left has = refl
none_removed (row ∷ rows) left has =
    let here : is_gone left row ≡ false = ap not (has row (contains_first row rows)) in
    ap (λ (b : Bool). cond b (row ∷ filter (is_gone left) rows) (filter (is_gone left) rows)) here
    ∙ none_removed rows left (λ other among. has other (contains_more row rows other among))
