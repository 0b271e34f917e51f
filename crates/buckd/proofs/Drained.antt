-- Once a daemon drained, no ticket is open: while one is, a make comes first, and that answers one ticket at least.
use Rattle.std.proofs.Common.{◌≡◌, ℕ, zero, suc, ◌+◌, ◌<◌, ◌≤◌, Bool, true, false, not, ◌||◌, ◌&&◌, List, [], ◌∷◌, count_by, map, Option, Some, None, cond, refl, sym, ap, ap₂, subst, ◌∙◌, Contains, find, arith}
use Rattle.std.specs.List.{list_any}
use Rattle.std.specs.Option.{is_some, option_and_then, option_or}
use Rattle.std.proofs.lemmas.Bool.{and_from, both_ways, or_left, or_parts, or_right}
use Rattle.std.proofs.lemmas.List.Folds.{list_any_none}
use Rattle.std.proofs.lemmas.List.Sums.{sum_by-cons}
use Rattle.mat_model.specs.declared.answers.Answer.{Answer}
use Rattle.mat_model.specs.declared.answers.Answer.TheVariants as answer
use Rattle.mat_model.specs.declared.answers.Recorded.TheVariants as recorded
use Rattle.mat_model.specs.declared.book.Book.{Book}
use Rattle.mat_model.specs.declared.book.Row.{Row}
use Rattle.mat_model.specs.declared.book.Ticket.{Ticket}
use Rattle.mat_model.specs.declared.entries.Outcome.{Outcome}
use Rattle.mat_model.specs.declared.entries.Outcome.TheVariants as outcome
use Rattle.mat_model.specs.declared.entries.Task.{Task}
use Rattle.mat_model.specs.declared.entries.Task.TheVariants as task
use Rattle.mat_model.specs.Books.{IsBook}
use Rattle.mat_model.specs.History.{next_number, point_of as model_point}
use Rattle.mat_model.specs.Legal.{may_end}
use Rattle.mat_model.specs.Rows.{covers, is_at_path}
use Rattle.mat_model.specs.Tickets.{answered_by, is_open, waits_for, with_answer}
use Rattle.mat_model.specs.Work.{end_make}
use Rattle.mat_model.specs.WorkState.{WorkState, first_make, first_task, make_of, task_of}
use Rattle.model_laws.proofs.BooksKept.{nothing_found, opened_rules}
use Rattle.model_laws.proofs.BooksLists.{any_contains, none_counted}
use Rattle.model_laws.proofs.BooksWork.{gives_work}
use Rattle.model_laws.proofs.Elements.{found_passes}
use Rattle.model_laws.proofs.Idle.{no_wipe}
use Rattle.model_laws.proofs.Elements.{found_contains}
use Rattle.model_laws.proofs.Makes.{apart_at, first_make_found, make_of_parts}
use Rattle.write_plan.specs.declared.act.Act.{Act}
use Rattle.buckd.specs.declared.daemon.Daemon.{Daemon}
use Rattle.buckd.specs.Daemon.{point_of, scene_of}
use Rattle.buckd.specs.MakeAnswers.{answer_of, tickets_answered}
use Rattle.buckd.specs.Following.{IsLawful, IsFollowingAt, new_daemon}
use Rattle.buckd.specs.Making.{outcome_of}
use Rattle.buckd.specs.Run.{Point, Scene, acts_of, begin, drain, idle, made, made_if, make_first, makes, next}
use Rattle.buckd.proofs.FollowingRuns.{make_first-at, outcome_may}
use Rattle.buckd.proofs.MadeLemmas.{ended-book}

-- ---- counts

-- what is risen of a list is its first element, if that passes, and what is risen of the others
count_first : {A : Type 0} (p : A → Bool) (x : A) (xs : List A) → count_by p (x ∷ xs) ≡ cond (p x) 1 0 + count_by p xs
count_first {A = A} p x xs = sum_by-cons (λ (y : A). cond (p y) 1 0) x xs

-- nothing is risen where nothing passes
none-passes : {A : Type 0} (p : A → Bool) (xs : List A) → list_any p xs ≡ false → count_by p xs ≡ 0
none-passes p [] none = refl
none-passes p (x ∷ xs) none =
    let parts = or_parts (p x) (list_any p xs) none in
    count_first p x xs ∙ ap₂ (λ (b : Bool) (n : ℕ). cond b 1 0 + n) parts.0 (none-passes p xs parts.1)

-- something is risen where something passes
one-passes : {A : Type 0} (p : A → Bool) (xs : List A) → list_any p xs ≡ true → 0 < count_by p xs
one-passes p [] some = absurd cc
one-passes p (x ∷ xs) some =
    subst (λ (n : ℕ). 0 < n) (sym (count_first p x xs))
    (elim (p x) as (λ b. (b || list_any p xs) ≡ true → 0 < cond b 1 0 + count_by p xs)
    [ true ↦ λ here. omega arith | false ↦ λ more. omega (arith, one-passes p xs more) ] some)

-- a ticket is open after an answer where it was, and the answer isn't for it
left-open : (row : Row) (number : ℕ) (given : Answer) (ticket : Ticket) →
    is_open (answered_by row number given ticket) ≡ (is_open ticket && not (covers ticket.asked row))
left-open row number given ticket =
    elim (is_open ticket) as
    (λ b. is_open ticket ≡ b → is_open (cond (b && covers ticket.asked row) (with_answer number given ticket) ticket) ≡ (b && not (covers ticket.asked row))) [
      | true ↦ λ lies.
          elim (covers ticket.asked row) as (λ c. is_open (cond c (with_answer number given ticket) ticket) ≡ not c) [ true ↦ refl | false ↦ lies ]
      | false ↦ λ shut. shut
    ] refl

-- one element more, by whether it was open and whether an answer is for it
count_both : (b c : Bool) (x y z : ℕ) → x + y ≡ z → (cond (b && not c) 1 0 + x) + (cond (b && c) 1 0 + y) ≡ cond b 1 0 + z
count_both true true x y z sum = omega (arith, sum)
count_both true false x y z sum = omega (arith, sum)
count_both false c x y z sum = omega (arith, sum)

-- the tickets that are open after an answer, and those that it was for, are as many as were open
answered-count : (row : Row) (number : ℕ) (given : Answer) (tickets : List Ticket) →
    count_by is_open (map (answered_by row number given) tickets) + count_by (waits_for row) tickets ≡ count_by is_open tickets
answered-count row number given [] = refl
answered-count row number given (ticket ∷ tickets) =
    let left : ℕ = count_by is_open (map (answered_by row number given) tickets) in
    let for : ℕ = count_by (waits_for row) tickets in
    ap₂ (λ (m n : ℕ). m + n)
    (count_first is_open (answered_by row number given ticket) (map (answered_by row number given) tickets)
    ∙ ap (λ (b : Bool). cond b 1 0 + left) (left-open row number given ticket))
    (count_first (waits_for row) ticket tickets)
    ∙ count_both (is_open ticket) (covers ticket.asked row) left for (count_by is_open tickets) (answered-count row number given tickets)
    ∙ sym (count_first is_open ticket tickets)

-- ---- the ticket that the first make is for

-- the make that a ticket waits for is that of a row on which it is open
task-waited : (work : WorkState) (rows : List Row) (ticket : Ticket) (path : List (List ℕ)) (stamp : ℕ) → task_of work rows ticket ≡ Some (task.Make path stamp) →
    (row : Row) × Contains rows row × (row.path ≡ path) × (waits_for row ticket ≡ true)
task-waited work rows ticket path stamp is =
    elim (is_open ticket) as
    (λ b. is_open ticket ≡ b → cond b (option_and_then (make_of work rows) (find (covers ticket.asked) rows)) None ≡ Some (task.Make path stamp) →
    (row : Row) × Contains rows row × (row.path ≡ path) × (waits_for row ticket ≡ true)) [
      | true ↦ λ lies of.
          elim (find (covers ticket.asked) rows) as
          (λ o. find (covers ticket.asked) rows ≡ o → option_and_then (make_of work rows) o ≡ Some (task.Make path stamp) →
          (row : Row) × Contains rows row × (row.path ≡ path) × (waits_for row ticket ≡ true)) [
            | None ↦ λ found made. absurd cc
            | Some row ↦ λ found made. (
              row,
              found_contains (covers ticket.asked) rows row found,
              (make_of_parts work rows row path stamp made).0,
              and_from (is_open ticket) (covers ticket.asked row) lies (found_passes (covers ticket.asked) rows row found),
            )
          ] refl of
      | false ↦ λ shut of. absurd cc
    ] refl is

-- the first make is that of a row on which a ticket is open
first-waited : (work : WorkState) (rows : List Row) (tickets : List Ticket) (path : List (List ℕ)) (stamp : ℕ) →
    first_make work rows tickets ≡ Some (task.Make path stamp) →
    (row : Row) × Contains rows row × (row.path ≡ path) × (list_any (waits_for row) tickets ≡ true)
first-waited work rows [] path stamp is = absurd cc
first-waited work rows (ticket ∷ tickets) path stamp is =
    elim (task_of work rows ticket) as
    (λ o. task_of work rows ticket ≡ o → option_or o (first_make work rows tickets) ≡ Some (task.Make path stamp) →
    (row : Row) × Contains rows row × (row.path ≡ path) × (list_any (waits_for row) (ticket ∷ tickets) ≡ true)) [
      | None ↦ λ here more.
          let (row, among, place, waits) = first-waited work rows tickets path stamp more in
          (row, among, place, or_right (waits_for row ticket) (list_any (waits_for row) tickets) waits)
      | Some one ↦ λ here more.
          let (row, among, place, waits) = task-waited work rows ticket path stamp (here ∙ more) in
          (row, among, place, or_left (waits_for row ticket) (list_any (waits_for row) tickets) waits)
    ] refl is

-- ---- a make

-- the book of a lawful run keeps the rules
lawful_rules : (point : Point) → IsLawful point → IsBook (next_number (model_point new_daemon point.history)) point.book
lawful_rules point lawful =
    subst (λ (b : Book). IsBook (next_number (model_point new_daemon point.history)) b) (sym lawful.book)
    (opened_rules new_daemon point.history nothing_found)

-- where nothing comes first, no ticket is open
none-first : (point : Point) → IsLawful point → first_task idle point.book ≡ None → list_any is_open point.book.tickets ≡ false
none-first point lawful none =
    elim (list_any is_open point.book.tickets) as (λ b. list_any is_open point.book.tickets ≡ b → b ≡ false) [
      | true ↦ λ some.
          let (ticket, among, lies) = any_contains is_open point.book.tickets some in
          let work : is_some (first_task idle point.book) ≡ true =
          gives_work (next_number (model_point new_daemon point.history)) idle point.book ticket (lawful_rules point lawful) refl among lies in
          absurd (both_ways (is_some (first_task idle point.book)) (ap (λ (o : Option Task). is_some o) none) work)
      | false ↦ λ all. refl
    ] refl

-- the end of a make is an answer, unless it ends wiped
ends-answered : (row : Row) (path : List (List ℕ)) (stamp : ℕ) (ends : Outcome) → may_end (task.Make path stamp) ends ≡ true →
    (given : Answer) × (answer_of row ends ≡ Some given)
ends-answered row path stamp outcome.Made may = (answer.Ready row.stamp row.sum, refl)
ends-answered row path stamp outcome.Wiped may = absurd cc
ends-answered row path stamp (outcome.Missing digest) may = (answer.Missing digest, refl)
ends-answered row path stamp (outcome.Corrupt wanted found) may = (answer.Corrupt wanted found, refl)
ends-answered row path stamp (outcome.Fault note) may = (answer.Fault note, refl)
ends-answered row path stamp outcome.NoMemory may = (answer.NoMemory, refl)

-- what comes first leaves fewer tickets open
made-fewer : (wanted : Task) (scene : Scene) → IsLawful scene.point → first_task idle scene.point.book ≡ Some wanted →
    count_by is_open (made wanted scene).point.book.tickets < count_by is_open scene.point.book.tickets
made-fewer (task.Make path stamp) scene lawful is =
    let rows : List Row = scene.point.book.rows in
    let tickets : List Ticket = scene.point.book.tickets in
    let rules = lawful_rules scene.point lawful in
    let acts : List Act = acts_of (task.Make path stamp) scene.point in
    let ends : Outcome = outcome_of scene.blobs acts in
    let number : ℕ = next (begin (task.Make path stamp) scene.point).point in
    let (row, at, declared, lies) = first_make_found idle rows tickets path stamp rules.apart is in
    let (other, among, place, waits) = first-waited idle rows tickets path stamp is in
    let again : find (is_at_path path) rows ≡ Some other =
    subst (λ (p : List (List ℕ)). find (is_at_path p) rows ≡ Some other) place (apart_at rows other rules.apart among) in
    let both : Some other ≡ Some row = sym again ∙ at in
    let same : other ≡ row = cc in
    let (given, answers) = ends-answered row path stamp ends (outcome_may path stamp scene.blobs acts) in
    let after : (made (task.Make path stamp) scene).point.book.tickets ≡ map (answered_by row number given) tickets =
    ap (λ (o : Option Row). (end_make number path ends recorded.Nothing scene.point.book o).book.tickets) declared
    ∙ ap (λ (b : Book). b.tickets) (ended-book number path row ends scene.point.book)
    ∙ ap (λ (o : Option Answer). tickets_answered row number tickets o) answers in
    let some : 0 < count_by (waits_for row) tickets =
    one-passes (waits_for row) tickets (subst (λ (r : Row). list_any (waits_for r) tickets ≡ true) same waits) in
    subst (λ (ts : List Ticket). count_by is_open ts < count_by is_open tickets) (sym after)
    (omega (arith, some, answered-count row number given tickets))
made-fewer (task.Wipe path) scene lawful is = absurd (no_wipe idle scene.point.book.rows scene.point.book.tickets path is)

-- the first make leaves fewer tickets open than a number that they didn't exceed, unless that is none
first-fewer : (count : ℕ) (scene : Scene) → IsLawful scene.point → count_by is_open scene.point.book.tickets ≤ count + 1 →
    count_by is_open (make_first scene).point.book.tickets ≤ count
first-fewer count scene lawful few =
    elim (first_task idle scene.point.book) as
    (λ o. first_task idle scene.point.book ≡ o → count_by is_open (made_if scene o).point.book.tickets ≤ count) [
      | None ↦ λ is. omega (arith, none-passes is_open scene.point.book.tickets (none-first scene.point lawful is))
      | Some wanted ↦ λ is. omega (arith, few, made-fewer wanted scene lawful is)
    ] refl

-- ---- a drain

-- no ticket is open after as many makes as were open, or more
pub makes-drained : (count : ℕ) (scene : Scene) → IsFollowingAt scene.point → count_by is_open scene.point.book.tickets ≤ count →
    list_any is_open (makes count scene).point.book.tickets ≡ false
makes-drained zero scene at few =
    list_any_none is_open scene.point.book.tickets (none_counted is_open scene.point.book.tickets (omega (arith, few)))
makes-drained (suc count) scene at few =
    makes-drained count (make_first scene) (make_first-at scene at) (first-fewer count scene at.lawful (omega (arith, few)))

-- no ticket is open after a drain
pub drain-drained : (scene : Scene) → IsFollowingAt scene.point → list_any is_open (drain scene).point.book.tickets ≡ false
drain-drained scene at = makes-drained (count_by is_open scene.point.book.tickets) scene at (omega arith)

-- and so of a daemon that drained
pub daemon-drained : (d0 d1 : Daemon) → scene_of d1 ≡ drain (scene_of d0) → IsFollowingAt (point_of d0) → list_any is_open d1.tickets.items ≡ false
daemon-drained d0 d1 scene at = ap (λ (s : Scene). list_any is_open s.point.book.tickets) scene ∙ drain-drained (scene_of d0) at
