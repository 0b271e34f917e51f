-- What a request does to the entries that are spent and to the kept rows that are alone.
use Rattle.mat_path.proofs.Elements.{filtered_contains}
use Rattle.std.proofs.Common.{◌≡◌, ℕ, ◌+◌, ◌≤◌, ◌==◌, Bool, true, false, ◌||◌, List, [], ◌∷◌, ◌++◌, Option, Some, None, cond, refl, sym, subst, map, count_by, length, length-append, arith}
use Rattle.std.specs.List.{filter, list_any}
use Rattle.mat_model.specs.declared.book.Book.{Book}
use Rattle.mat_model.specs.declared.book.Waiter.{Waiter}
use Rattle.mat_model.specs.declared.requests.Asked.{Asked}
use Rattle.mat_model.specs.declared.requests.Asked.TheVariants as asked
use Rattle.mat_model.specs.Cleaning.{gone_row, is_not_stale, stale}
use Rattle.mat_model.specs.Declarations.{new_row, replace_rows}
use Rattle.mat_model.specs.Gate.{Admitted, Gate, Passed, Served, admit, admits, admits_front, admitted, depart, departed, gate_of, is_command, is_known, is_other, is_other_waiter, is_waiter, may_take, one_more, other_state, turn_away}
use Rattle.mat_model.specs.Kept.{KeptRow, is_due, is_kept_clear, is_unlisted, kept_asked}
use Rattle.mat_model.specs.Requests.{RequestContext, enter, is_open_of, leave, passed, serve_now}
use Rattle.mat_model.specs.Room.{entries_for, is_alone}
use Rattle.model_laws.proofs.ListTests.{filter_le}
use Rattle.model_laws.proofs.RoomLists.{alone_stored, fewer_filtered, one_less}
use Rattle.model_laws.proofs.RowCases.{IsQuiet, asked_served, cleaned_served, either_passed, either_served, flushed_served, invalid_served}
use Rattle.model_laws.proofs.Serving.{asked_by}
use Rattle.mat_model.specs.Rows.{is_clear_of}

-- a request needs no more entries than it takes room for, and leaves no more kept rows alone
pub record Goes (request : Asked) (book : Book) (kept : List KeptRow) (served : Served) : Type 0 where
  -- its own entry, and those that live and waiting commands still need
  pub gate : length served.book.live + length served.book.waiting + 1 ≤ length book.live + length book.waiting + entries_for request served.reply
  -- the kept rows that are at no row's path
  pub alone : length (filter (is_alone served.book.rows) (kept_asked request served.reply served.book.rows kept))
      ≤ length (filter (is_alone served.book.rows) kept)

-- as many are live or wait once those who can be are admitted
admit_count : (waiters : List Waiter) (gate : Gate) →
    length (admit waiters gate).gate.live + length (admit waiters gate).gate.waiting ≡ length gate.live + length waiters
admit_count [] gate = refl
admit_count (waiter ∷ waiters) gate =
    let more : length (admit waiters (admitted waiter gate)).gate.live + length (admit waiters (admitted waiter gate)).gate.waiting
    ≡ length (gate.live ++ waiter.command ∷ []) + length waiters = admit_count waiters (admitted waiter gate) in
    let grown : length (gate.live ++ waiter.command ∷ []) ≡ length gate.live + 1 = length-append gate.live (waiter.command ∷ []) in
    elim (admits_front waiter gate) as
    (λ b. length (cond {A = Admitted} b (one_more (admit waiters (admitted waiter gate)))
    (record { count = 0; gate = record gate { waiting = waiter ∷ waiters } })).gate.live
    + length (cond {A = Admitted} b (one_more (admit waiters (admitted waiter gate)))
    (record { count = 0; gate = record gate { waiting = waiter ∷ waiters } })).gate.waiting
    ≡ length gate.live + length (waiter ∷ waiters))
    [ true ↦ omega (arith, more, grown) | false ↦ refl ]

-- one fewer is live or waits once a command goes
depart_less : (command : ℕ) (gate : Gate) → is_known command gate ≡ true →
    length (depart command gate).gate.live + length (depart command gate).gate.waiting + 1 ≤ length gate.live + length gate.waiting
depart_less command gate known =
    let count : length (depart command gate).gate.live + length (depart command gate).gate.waiting
    ≡ length (filter (is_other command) gate.live) + length (filter (is_other_waiter command) gate.waiting) =
    admit_count (departed command gate).waiting (departed command gate) in
    let lives : length (filter (is_other command) gate.live) ≤ length gate.live = filter_le (is_other command) gate.live in
    let waits : length (filter (is_other_waiter command) gate.waiting) ≤ length gate.waiting = filter_le (is_other_waiter command) gate.waiting in
    elim (list_any (is_command command) gate.live) as
    (λ b. list_any (is_command command) gate.live ≡ b → (b || list_any (is_waiter command) gate.waiting) ≡ true →
    length (depart command gate).gate.live + length (depart command gate).gate.waiting + 1 ≤ length gate.live + length gate.waiting) [
      | true ↦ λ live is.
          let less : length (filter (is_other command) gate.live) + 1 ≤ length gate.live =
          one_less (is_command command) (is_other command) (λ other. refl) gate.live live in
          omega (arith, count, less, waits)
      | false ↦ λ off is.
          let less : length (filter (is_other_waiter command) gate.waiting) + 1 ≤ length gate.waiting =
          one_less (is_waiter command) (is_other_waiter command) (λ other. refl) gate.waiting is in
          omega (arith, count, lives, less)
    ] refl known

-- the entries that a request needs
abbrev Needs : Asked → Book → Served → Type 0
Needs request book served =
    length served.book.live + length served.book.waiting + 1 ≤ length book.live + length book.waiting + entries_for request served.reply

enter_needs : (number command state : ℕ) (soft hurried : Bool) (book : Book) →
    Needs (asked.Enter command state soft hurried) book (enter number command state soft hurried book)
enter_needs number command state soft hurried book =
    either_passed Q (is_known command gate) _ _ (omega arith)
    (either_passed Q (admits state gate) _ _ (omega (arith, come))
    (either_passed Q (may_take state gate) _ _ (omega arith) (away hurried (other_state state book.state))))
  where
    gate : Gate
    gate = gate_of book

    Q : Passed → Type 0
    Q through = Needs (asked.Enter command state soft hurried) book (passed number command through book)

    come : length (book.live ++ command ∷ []) ≡ length book.live + 1
    come = length-append book.live (command ∷ [])

    queued : length (book.waiting ++ record { command = command; state = state } ∷ []) ≡ length book.waiting + 1
    queued = length-append book.waiting (record { command = command; state = state } ∷ [])

    away : (r : Bool) (other : Option ℕ) → Q (turn_away command state soft r other gate)
    away true (Some live) = omega arith
    away true None = omega (arith, queued)
    away false other = omega (arith, queued)

leave_needs : (command : ℕ) (book : Book) → Needs (asked.Leave command) book (leave command book)
leave_needs command book =
    either_served Q (is_known command (gate_of book)) _ _
    (λ known. either_served Q (count_by (is_open_of command) book.tickets == 0) _ _
    (λ none. let less = depart_less command (gate_of book) known in omega (arith, less))
    (λ busy. omega arith))
    (λ new. omega arith)
  where
    Q : Served → Type 0
    Q = Needs (asked.Leave command) book

-- a request that is neither an enter nor a leave leaves the gate
gate_stays : (number : ℕ) (context : RequestContext) (request : Asked) (book : Book) →
    ((command state : ℕ) (soft hurried : Bool) → request ≡ asked.Enter command state soft hurried → ⊥) →
    ((command : ℕ) → request ≡ asked.Leave command → ⊥) →
    length (serve_now number context request book).book.live + length (serve_now number context request book).book.waiting
    ≡ length book.live + length book.waiting
gate_stays number context request book no_enter no_leave =
    asked_by (λ (b : Book). length b.live + length b.waiting ≡ length book.live + length book.waiting) number context request book (record {
      same = refl;
      enters = λ command state soft hurried is new may. absurd (no_enter command state soft hurried is);
      takes = λ command state soft hurried is new may. absurd (no_enter command state soft hurried is);
      queues = λ command state soft hurried is new may told. absurd (no_enter command state soft hurried is);
      leaves = λ command is none. absurd (no_leave command is);
      puts = λ command path tree is. refl;
      uses = λ at command path. refl;
      asks = λ row command path live over lies. refl;
      removes = λ gone left opposite disturbed. refl;
    })

-- a request needs no more entries than it takes room for
asked_needs : (number : ℕ) (context : RequestContext) (request : Asked) (book : Book) → Needs request book (serve_now number context request book)
asked_needs number context (asked.Enter command state soft hurried) book = enter_needs number command state soft hurried book
asked_needs number context (asked.Leave command) book = leave_needs command book
asked_needs number context (asked.Write command path sum) book =
    let same = gate_stays number context (asked.Write command path sum) book (λ c s o r is. absurd cc) (λ c is. absurd cc) in omega (arith, same)
asked_needs number context (asked.Declare command path tree) book =
    let same = gate_stays number context (asked.Declare command path tree) book (λ c s o r is. absurd cc) (λ c is. absurd cc) in omega (arith, same)
asked_needs number context (asked.Copy command path source) book =
    let same = gate_stays number context (asked.Copy command path source) book (λ c s o r is. absurd cc) (λ c is. absurd cc) in omega (arith, same)
asked_needs number context (asked.Matches command path sum) book =
    let same = gate_stays number context (asked.Matches command path sum) book (λ c s o r is. absurd cc) (λ c is. absurd cc) in omega (arith, same)
asked_needs number context (asked.Has command path) book =
    let same = gate_stays number context (asked.Has command path) book (λ c s o r is. absurd cc) (λ c is. absurd cc) in omega (arith, same)
asked_needs number context (asked.Ensure command path) book =
    let same = gate_stays number context (asked.Ensure command path) book (λ c s o r is. absurd cc) (λ c is. absurd cc) in omega (arith, same)
asked_needs number context (asked.Invalidate command path) book =
    let same = gate_stays number context (asked.Invalidate command path) book (λ c s o r is. absurd cc) (λ c is. absurd cc) in omega (arith, same)
asked_needs number context (asked.Clean cutoff mode) book =
    let same = gate_stays number context (asked.Clean cutoff mode) book (λ c s o r is. absurd cc) (λ c is. absurd cc) in omega (arith, same)
asked_needs number context asked.Flush book = omega arith

-- a request leaves no more kept rows alone
abbrev Leaves : Asked → List KeptRow → Served → Type 0
Leaves request kept served =
    length (filter (is_alone served.book.rows) (kept_asked request served.reply served.book.rows kept))
    ≤ length (filter (is_alone served.book.rows) kept)

asked_leaves : (number : ℕ) (context : RequestContext) (request : Asked) (book : Book) (kept : List KeptRow) →
    Leaves request kept (serve_now number context request book)
asked_leaves number context request book kept =
    asked_served (Leaves request kept) number context request book (record {
      same = λ served rows quiet. still served quiet;
      uses = λ served path rows quiet. still served quiet;
      puts = λ command path tree is has placed quiet. still (replace_rows number command path (new_row number book.now path tree) book) quiet;
      invalid = λ command path is.
          subst (λ (r : Asked). Leaves r kept (invalid_served number path book)) (sym is)
          (fewer_filtered (is_alone (filter (is_clear_of path) book.rows)) (is_kept_clear path) kept);
      cleans = λ cutoff how strays is.
          subst (λ (r : Asked). Leaves r kept (cleaned_served number cutoff strays book)) (sym is)
          (fewer_filtered (is_alone (filter (is_not_stale cutoff book.holds) book.rows)) (is_unlisted (map gone_row (stale cutoff book))) kept);
      flushes = λ is.
          subst (λ (r : Asked). Leaves r kept (flushed_served context.due book)) (sym is)
          (subst (λ (ks : List KeptRow). length ks ≤ length (filter (is_alone book.rows) kept))
          (sym (alone_stored book.rows (filter (is_due kept) book.rows) kept (λ row among. (filtered_contains (is_due kept) book.rows row among).0)))
          (omega arith));
    })
  where
    still : (served : Served) → IsQuiet request served → Leaves request kept served
    still served quiet =
        subst (λ (ks : List KeptRow). length (filter (is_alone served.book.rows) ks) ≤ length (filter (is_alone served.book.rows) kept))
        (sym (quiet.kept kept)) (omega arith)

-- a request goes within its room
pub asked_goes : (number : ℕ) (context : RequestContext) (request : Asked) (book : Book) (kept : List KeptRow) →
    Goes request book kept (serve_now number context request book)
asked_goes number context request book kept =
    record { gate = asked_needs number context request book; alone = asked_leaves number context request book kept }
