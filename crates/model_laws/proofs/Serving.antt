-- What a request, the begin and the end of a job leave of a book, case by case, and of its rows and its tickets alone.
use Rattle.std.proofs.Common.{◌≡◌, ℕ, ◌==◌, Bool, true, false, not, List, [], ◌∷◌, ◌++◌, Option, Some, None, cond, refl, map, find, count_by, ap₂, length, ◌+◌}
use Rattle.std.specs.List.{list_all, filter}
use Rattle.mat_tree.specs.declared.flat.Flat.{Flat}
use Rattle.mat_tree.specs.Trees.{is_placed, same_sum}
use Rattle.mat_model.specs.declared.answers.Answer.{Answer}
use Rattle.mat_model.specs.declared.answers.Answer.TheVariants as answer
use Rattle.mat_model.specs.declared.answers.Recorded.{Recorded}
use Rattle.mat_model.specs.declared.answers.Reply.TheVariants as reply
use Rattle.mat_model.specs.declared.book.Book.{Book}
use Rattle.mat_model.specs.declared.book.Hold.{Hold}
use Rattle.mat_model.specs.declared.book.Row.{Row}
use Rattle.mat_model.specs.declared.book.Ticket.{Ticket}
use Rattle.mat_model.specs.declared.entries.Outcome.{Outcome}
use Rattle.mat_model.specs.declared.entries.Outcome.TheVariants as outcome
use Rattle.mat_model.specs.declared.entries.Task.{Task}
use Rattle.mat_model.specs.declared.entries.Task.TheVariants as task
use Rattle.mat_model.specs.declared.requests.Asked.{Asked}
use Rattle.mat_model.specs.declared.requests.Asked.TheVariants as asked
use Rattle.mat_model.specs.declared.requests.CleanMode.TheVariants as mode
use Rattle.mat_model.specs.Cleaning.{is_not_stale, is_stale}
use Rattle.mat_model.specs.Declarations.{copy_tree, declare_row, declared_at, is_equal_row, new_row, replace_rows, written_tree}
use Rattle.mat_model.specs.Gate.{Gate, Passed, Served, admits, come, depart, gate_of, is_known, is_live, may_take, other_state, pass, take_over, turn_away, wait, with_gate}
use Rattle.model_laws.specs.Laws.{declares, disturbs}
use Rattle.mat_model.specs.Requests.{RequestContext, at_moment, ensure_row, is_hold_of_other, is_open_of, match_row, passed, preempted, preempted_ticket, serve, serve_now}
use Rattle.mat_model.specs.Rows.{cover, is_at_path, is_clear_of, overlaps_row, put_row, standing_row, used}
use Rattle.mat_model.specs.Tickets.{answered_by, answered_by_any, left_ticket, with_hold, without_rows}
use Rattle.mat_model.specs.Work.{end_make, finish, is_declared, make_ended, with_answers}

-- a property of the book that is left, where it may be one of two
pub either_book : (P : Book → Type 0) (b : Bool) (first second : Served) → (b ≡ true → P first.book) → (b ≡ false → P second.book) →
    P (cond b first second).book
either_book P true first second one other = one refl
either_book P false first second one other = other refl

-- a row at a path is used, and a command holds a path
abbrev pub used_at : List (List ℕ) → ℕ → List (List ℕ) → Book → Book
used_at at command path book = record book { rows = used at book.now book.rows; holds = with_hold command path book.holds }

-- one more ticket
abbrev pub with_ticket : ℕ → ℕ → List (List ℕ) → Book → Book
with_ticket number command path book =
    record book { tickets = book.tickets ++ record { number = number; command = command; asked = path; answered = None } ∷ [] }

-- a property of the book after a request, case by case: the book is left alone, a new command is live or waits or takes the place of those
-- that are live, a command goes, a row is put in the
-- place of those that overlap its path, a row is used, a ticket comes to a covering row that doesn't stand and is used, and rows that pass a test
-- are removed
pub record Changes (P : Book → Type 0) (number : ℕ) (request : Asked) (book : Book) : Type 0 where
  -- it is true of the book as it was
  pub same : P book
  -- it is true once a command that is new is live
  pub enters : (command state : ℕ) (soft refuse : Bool) → request ≡ asked.Enter command state soft refuse →
      is_known command (gate_of book) ≡ false → admits state (gate_of book) ≡ true → P (with_gate (come command state soft (gate_of book)) book)
  -- it is true once a command that is new has taken the place of those that were live
  pub takes : (command state : ℕ) (soft refuse : Bool) → request ≡ asked.Enter command state soft refuse →
      is_known command (gate_of book) ≡ false → may_take state (gate_of book) ≡ true →
      P (with_gate (take_over command state soft (gate_of book)) (preempted number command book.live book))
  -- it is true once a command that is new waits, which is then its reply
  pub queues : (command state : ℕ) (soft refuse : Bool) → request ≡ asked.Enter command state soft refuse →
      is_known command (gate_of book) ≡ false → admits state (gate_of book) ≡ false →
      (pass command state soft refuse (gate_of book)).reply ≡ reply.Queued (length book.waiting + 1) →
      P (with_gate (wait command state soft (gate_of book)) book)
  -- it is true once a command without open tickets is gone, and its holds with it
  pub leaves : (command : ℕ) → request ≡ asked.Leave command → (count_by (is_open_of command) book.tickets == 0) ≡ true →
      P (with_gate (depart command (gate_of book)).gate (record book { holds = filter (is_hold_of_other command) book.holds }))
  -- it is true once a row is put in the place of those that overlap its path
  pub puts : (command : ℕ) (path : List (List ℕ)) (tree : List Flat) → declares request ≡ Some path →
      P (replace_rows number command path (new_row number book.now path tree) book).book
  -- it is true once a row is used, with a hold on a path
  pub uses : (at : List (List ℕ)) (command : ℕ) (path : List (List ℕ)) → P (used_at at command path book)
  -- it is true once a ticket has come to a row that lies, and that row is used
  pub asks : (row : Row) (command : ℕ) (path : List (List ℕ)) → is_live command book ≡ true → cover book.rows path ≡ Some row → row.stands ≡ false →
      P (with_ticket number command path (used_at row.path command path book))
  -- it is true once the rows that pass a test are removed, each of which the request disturbs
  pub removes : (gone left : Row → Bool) → ((row : Row) → left row ≡ not (gone row)) → ((row : Row) → gone row ≡ true → disturbs request row ≡ true) →
      P (without_rows number (filter gone book.rows) (filter left book.rows) book)

-- a property of what a command that comes is answered with, and of the gate then, where it may be one of two
either_passed : (P : Passed → Type 0) (b : Bool) (first second : Passed) → (b ≡ true → P first) → (b ≡ false → P second) → P (cond b first second)
either_passed P true first second one other = one refl
either_passed P false first second one other = other refl

declared_by : (P : Book → Type 0) (number : ℕ) (request : Asked) (command : ℕ) (path : List (List ℕ)) (tree : List Flat) (book : Book) →
    Changes P number request book → declares request ≡ Some path → (o : Option Row) → P (declare_row number command path tree book o).book
declared_by P number request command path tree book changes is None = changes.puts command path tree is
declared_by P number request command path tree book changes is (Some row) = changes.uses path command path

-- what is true in each case is true after a request
pub asked_by : (P : Book → Type 0) (number : ℕ) (context : RequestContext) (request : Asked) (book : Book) → Changes P number request book →
    P (serve_now number context request book).book
asked_by P number context (asked.Enter command state soft refuse) book changes =
    either_passed Q (is_known command gate) _ _ (λ known. changes.same)
    (λ new. either_passed Q (admits state gate) _ _ (changes.enters command state soft refuse refl new)
    (λ shut. either_passed Q (may_take state gate) _ _ (changes.takes command state soft refuse refl new)
    (λ stays. away new shut stays refuse (other_state state book.state) refl refl)))
  where
    gate : Gate
    gate = gate_of book

    Q : Passed → Type 0
    Q through = P (passed number command through book).book

    turned : is_known command gate ≡ false → admits state gate ≡ false → may_take state gate ≡ false → (r : Bool) (other : Option ℕ) → refuse ≡ r →
        other_state state book.state ≡ other → (pass command state soft refuse gate).reply ≡ (turn_away command state soft r other gate).reply
    turned new shut stays r other same at = rw (new, shut, stays) (ap₂ (λ (b : Bool) (o : Option ℕ). (turn_away command state soft b o gate).reply) same at)

    away : is_known command gate ≡ false → admits state gate ≡ false → may_take state gate ≡ false → (r : Bool) (other : Option ℕ) → refuse ≡ r →
        other_state state book.state ≡ other → Q (turn_away command state soft r other gate)
    away new shut stays true (Some live) same at = changes.same
    away new shut stays true None same at = changes.queues command state soft refuse refl new shut (turned new shut stays true None same at)
    away new shut stays false other same at = changes.queues command state soft refuse refl new shut (turned new shut stays false other same at)
asked_by P number context (asked.Leave command) book changes =
    either_book P (is_known command (gate_of book)) _ _
    (λ known. either_book P (count_by (is_open_of command) book.tickets == 0) _ _
    (λ none. changes.leaves command refl none)
    (λ busy. changes.same))
    (λ new. changes.same)
asked_by P number context (asked.Write command path sum) book changes =
    either_book P (is_live command book) _ _
    (λ live. declared_by P number (asked.Write command path sum) command path (written_tree sum) book changes refl
    (find (is_equal_row path (written_tree sum)) book.rows))
    (λ dead. changes.same)
asked_by P number context (asked.Declare command path tree) book changes =
    either_book P (is_live command book) _ _
    (λ live. declared_by P number (asked.Declare command path tree) command path tree book changes refl (find (is_equal_row path tree) book.rows))
    (λ dead. changes.same)
asked_by P number context (asked.Copy command path source) book changes =
    either_book P (is_live command book) _ _ (λ live. copied (declared_at book.rows source)) (λ dead. changes.same)
  where
    copied : (o : Option (List Flat)) → P (copy_tree number command path book o).book
    copied None = changes.same
    copied (Some tree) =
        either_book P (list_all (is_placed path) tree) _ _
        (λ short. declared_by P number (asked.Copy command path source) command path tree book changes refl (find (is_equal_row path tree) book.rows))
        (λ long. changes.same)
asked_by P number context (asked.Matches command path sum) book changes =
    either_book P (is_live command book) _ _ (λ live. matched (find (is_at_path path) book.rows)) (λ dead. changes.same)
  where
    matched : (o : Option Row) → P (match_row command path sum book o).book
    matched None = changes.same
    matched (Some row) = either_book P (same_sum row.sum sum) _ _ (λ same. changes.uses path command path) (λ other. changes.same)
asked_by P number context (asked.Has command path) book changes =
    either_book P (is_live command book) _ _ (λ live. changes.same) (λ dead. changes.same)
asked_by P number context (asked.Ensure command path) book changes =
    either_book P (is_live command book) _ _ (λ live. ensured live (cover book.rows path) refl) (λ dead. changes.same)
  where
    ensured : is_live command book ≡ true → (o : Option Row) → cover book.rows path ≡ o → P (ensure_row number command path book o).book
    ensured live None over = changes.same
    ensured live (Some row) over =
        either_book P row.stands _ _ (λ stands. changes.uses row.path command path) (λ lies. changes.asks row command path live over lies)
asked_by P number context (asked.Invalidate command path) book changes =
    either_book P (is_live command book) _ _
    (λ live. changes.removes (overlaps_row path) (is_clear_of path) (λ row. refl) (λ row is. is))
    (λ dead. changes.same)
asked_by P number context (asked.Clean cutoff mode.Real) book changes =
    changes.removes (is_stale cutoff book.holds) (is_not_stale cutoff book.holds) (λ row. refl) (λ row is. refl)
asked_by P number context (asked.Clean cutoff mode.Dry) book changes = changes.same
asked_by P number context (asked.Clean cutoff mode.All) book changes =
    changes.removes (is_stale cutoff book.holds) (is_not_stale cutoff book.holds) (λ row. refl) (λ row is. refl)
asked_by P number context asked.Flush book changes = changes.same

-- what is true whatever the gate, the rows, the holds and the tickets are is true after a request
pub asked_beside : (P : Book → Type 0) (number : ℕ) (request : Asked) (book : Book) →
    ((gate : Gate) (rows : List Row) (holds : List Hold) (tickets : List Ticket) →
    P (with_gate gate (record book { rows = rows; holds = holds; tickets = tickets }))) →
    Changes P number request book
asked_beside P number request book each = record {
  same = each (gate_of book) book.rows book.holds book.tickets;
  enters = λ command state soft refuse is new may. each (come command state soft (gate_of book)) book.rows book.holds book.tickets;
  takes = λ command state soft refuse is new may. each (take_over command state soft (gate_of book)) book.rows _ _;
  queues = λ command state soft refuse is new may told. each (wait command state soft (gate_of book)) book.rows book.holds book.tickets;
  leaves = λ command is none. each (depart command (gate_of book)).gate book.rows _ book.tickets;
  puts = λ command path tree is. each (gate_of book) _ _ _;
  uses = λ at command path. each (gate_of book) _ _ book.tickets;
  asks = λ row command path live over lies. each (gate_of book) _ _ _;
  removes = λ gone left opposite disturbed. each (gate_of book) _ book.holds _;
}

-- a property of the book after the end of a job, or after its begin was refused: the book is left alone, a row comes to stand and the tickets on it
-- are answered, or the tickets on some rows are answered with a failure
pub record Endings (P : Book → Type 0) (number : ℕ) (book : Book) : Type 0 where
  -- it is true of the book as it was
  pub same : P book
  -- it is true once a row stands and the tickets on it are answered
  pub stands : (path : List (List ℕ)) (stamp : ℕ) (row : Row) → find (is_declared path stamp) book.rows ≡ Some row →
      P (make_ended number path row outcome.Made book)
  -- it is true once the tickets on some rows are answered with a failure
  pub fails : (some : List Row) (given : Answer) → P (with_answers some number given book)

made_by : (P : Book → Type 0) (number : ℕ) (path : List (List ℕ)) (stamp : ℕ) (out : Outcome) (how : Recorded) (book : Book) →
    Endings P number book → (o : Option Row) → find (is_declared path stamp) book.rows ≡ o → P (end_make number path out how book o).book
made_by P number path stamp out how book endings None found = endings.same
made_by P number path stamp outcome.Made how book endings (Some row) found = endings.stands path stamp row found
made_by P number path stamp outcome.Wiped how book endings (Some row) found = endings.same
made_by P number path stamp (outcome.Missing digest) how book endings (Some row) found = endings.fails (row ∷ []) (answer.Missing digest)
made_by P number path stamp (outcome.Corrupt wanted other) how book endings (Some row) found =
    endings.fails (row ∷ []) (answer.Corrupt wanted other)
made_by P number path stamp (outcome.Fault note) how book endings (Some row) found = endings.fails (row ∷ []) (answer.Fault note)
made_by P number path stamp outcome.NoMemory how book endings (Some row) found = endings.fails (row ∷ []) answer.NoMemory

-- what is true in each case is true after the end of a job
pub ended_by : (P : Book → Type 0) (number : ℕ) (task : Task) (out : Outcome) (how : Recorded) (book : Book) → Endings P number book →
    P (finish number task out how book).book
ended_by P number (task.Make path stamp) out how book endings =
    made_by P number path stamp out how book endings (find (is_declared path stamp) book.rows) refl
ended_by P number (task.Wipe path) outcome.Made how book endings = endings.same
ended_by P number (task.Wipe path) outcome.Wiped how book endings = endings.same
ended_by P number (task.Wipe path) (outcome.Missing digest) how book endings = endings.same
ended_by P number (task.Wipe path) (outcome.Corrupt wanted found) how book endings = endings.same
ended_by P number (task.Wipe path) (outcome.Fault note) how book endings = endings.fails (filter (overlaps_row path) book.rows) (answer.Fault note)
ended_by P number (task.Wipe path) outcome.NoMemory how book endings = endings.fails (filter (overlaps_row path) book.rows) answer.NoMemory

-- what is true whatever the rows and the tickets are is true after the end of a job
pub ended_beside : (P : Book → Type 0) (number : ℕ) (book : Book) →
    ((rows : List Row) (tickets : List Ticket) → P (record book { rows = rows; tickets = tickets })) → Endings P number book
ended_beside P number book each = record {
  same = each book.rows book.tickets;
  stands = λ path stamp row found. each _ _;
  fails = λ some given. each book.rows _;
}

-- a property of the rows and the tickets that are left
abbrev pub Leaves : (List Row → List Ticket → Type 0) → Served → Type 0
Leaves R served = R served.book.rows served.book.tickets

-- the tickets after a row was put in the place of those that overlap a path
abbrev pub left_tickets : ℕ → List (List ℕ) → Row → List Row → List Ticket → List Ticket
left_tickets number path new rows tickets =
    map (left_ticket number (filter (overlaps_row path) rows) (put_row new (filter (is_clear_of path) rows))) tickets

-- the rows and the tickets after a request, case by case: both are left alone, open tickets are answered that a command took the place of
-- theirs, a ticket comes to rows that are used, rows are used, a row is put
-- in the place of those that overlap its path, and rows that pass a test are removed
pub record Cases (R : List Row → List Ticket → Type 0) (number : ℕ) (request : Asked) (live : List ℕ) (rows : List Row) (tickets : List Ticket) : Type 0 where
  -- it is true of the rows and the tickets as they were
  pub same : R rows tickets
  -- it is true once the open tickets of the live commands are answered that a command took their place
  pub takes : (command state : ℕ) (soft refuse : Bool) → request ≡ asked.Enter command state soft refuse →
      R rows (map (preempted_ticket number command live) tickets)
  -- it is true once rows are used and tickets have come
  pub asks : (path : List (List ℕ)) (n : ℕ) (more : List Ticket) → R (used path n rows) (tickets ++ more)
  -- it is true once rows are used
  pub uses : (path : List (List ℕ)) (n : ℕ) → R (used path n rows) tickets
  -- it is true once a row is put in the place of those that overlap its path
  pub puts : (path : List (List ℕ)) (new : Row) → new.path ≡ path → declares request ≡ Some path →
      R (put_row new (filter (is_clear_of path) rows)) (left_tickets number path new rows tickets)
  -- it is true once the rows that pass a test are removed, each of which the request disturbs
  pub removes : (gone left : Row → Bool) → ((row : Row) → left row ≡ not (gone row)) → ((row : Row) → gone row ≡ true → disturbs request row ≡ true) →
      R (filter left rows) (map (left_ticket number (filter gone rows) (filter left rows)) tickets)

-- what is true in each case is true of the rows and the tickets after a request
pub served_by : (R : List Row → List Ticket → Type 0) (number moment : ℕ) (context : RequestContext) (request : Asked) (book : Book) →
    Cases R number request book.live book.rows book.tickets → Leaves R (serve number moment context request book)
served_by R number moment context request book cases =
    asked_by (λ (b : Book). R b.rows b.tickets) number context request (at_moment moment book) (record {
      same = cases.same;
      enters = λ command state soft refuse is new may. cases.same;
      takes = λ command state soft refuse is new may. cases.takes command state soft refuse is;
      queues = λ command state soft refuse is new may told. cases.same;
      leaves = λ command is none. cases.same;
      puts = λ command path tree is. cases.puts path (new_row number (at_moment moment book).now path tree) refl is;
      uses = λ at command path. cases.uses at (at_moment moment book).now;
      asks = λ row command path live over lies. cases.asks row.path (at_moment moment book).now _;
      removes = cases.removes;
    })

-- the rows and the tickets after the end of a job: both are left alone, a row comes to stand and the tickets on it are answered, or the tickets
-- on some rows are answered with a failure
pub record Ends (R : List Row → List Ticket → Type 0) (number : ℕ) (rows : List Row) (tickets : List Ticket) : Type 0 where
  -- it is true of the rows and the tickets as they were
  pub same : R rows tickets
  -- it is true once a row stands and the tickets on it are answered
  pub stands : (path : List (List ℕ)) (row : Row) →
      R (map (standing_row path) rows) (map (answered_by row number (answer.Ready row.stamp row.sum)) tickets)
  -- it is true once the tickets on some rows are answered with a failure
  pub fails : (some : List Row) (given : Answer) → R rows (map (answered_by_any some number given) tickets)

-- what is true in each case is true of the rows and the tickets after the end of a job
pub finished_by : (R : List Row → List Ticket → Type 0) (number : ℕ) (task : Task) (out : Outcome) (how : Recorded) (book : Book) →
    Ends R number book.rows book.tickets → Leaves R (finish number task out how book)
finished_by R number task out how book ends =
    ended_by (λ (b : Book). R b.rows b.tickets) number task out how book (record {
      same = ends.same;
      stands = λ path stamp row found. ends.stands path row;
      fails = ends.fails;
    })
