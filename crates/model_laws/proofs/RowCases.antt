-- What a request leaves of a book's rows and of the kept rows, case by case, with what it is answered.
use Rattle.std.proofs.Common.{◌≡◌, ℕ, ◌==◌, Bool, true, false, ◌&&◌, List, [], Option, Some, None, cond, refl, sym, subst, map, find, count_by, length}
use Rattle.std.specs.List.{list_all, filter}
use Rattle.std.proofs.lemmas.Bool.{and_parts}
use Rattle.mat_tree.specs.declared.flat.Flat.{Flat}
use Rattle.mat_tree.specs.Trees.{is_placed, same_sum}
use Rattle.mat_model.specs.declared.answers.FaultNote.{FaultNote}
use Rattle.mat_model.specs.declared.answers.Reply.{Reply}
use Rattle.mat_model.specs.declared.answers.Reply.TheVariants as reply
use Rattle.mat_model.specs.declared.book.Book.{Book}
use Rattle.mat_model.specs.declared.book.Row.{Row}
use Rattle.mat_model.specs.declared.requests.Asked.{Asked}
use Rattle.mat_model.specs.declared.requests.Asked.TheVariants as asked
use Rattle.mat_model.specs.declared.requests.CleanMode.{CleanMode}
use Rattle.mat_model.specs.declared.requests.CleanMode.TheVariants as mode
use Rattle.mat_model.specs.Cleaning.{cleaned, gone_row, is_not_stale, stale}
use Rattle.mat_model.specs.Declarations.{copy_tree, declare_row, declared_at, is_equal_row, new_row, replace_rows, written_tree}
use Rattle.mat_model.specs.Gate.{Gate, Passed, Served, admits, gate_of, is_known, is_live, may_take, other_state, turn_away}
use Rattle.mat_model.specs.History.{Point, answer_asked, is_store_fault, next_number, request_context}
use Rattle.mat_model.specs.Kept.{KeptRow, kept_asked, may_fail}
use Rattle.mat_model.specs.Requests.{RequestContext, at_moment, ensure_row, has_reply, is_open_of, match_row, passed, serve_now}
use Rattle.mat_model.specs.Rows.{cover, is_at_path, is_clear_of, overlaps_row, put_row, used}
use Rattle.mat_model.specs.Tickets.{without_rows}
use Rattle.model_laws.specs.Laws.{declares}
use Rattle.model_laws.specs.RowRules.{is_copy_placed, tree_declared}

-- a property of what is served, where it may be one of two
pub either_served : (P : Served → Type 0) (b : Bool) (first second : Served) → (b ≡ true → P first) → (b ≡ false → P second) → P (cond b first second)
either_served P true first second one other = one refl
either_served P false first second one other = other refl

-- whether a reply says nothing of rows that were removed or stored
abbrev pub is_quiet : Reply → Bool
is_quiet (reply.Invalid count) = false
is_quiet (reply.Cleaned dry gone strays) = dry
is_quiet (reply.Flushed count) = false
is_quiet _ = true

-- a request leaves the kept rows, and its reply says nothing of them
pub record IsQuiet (request : Asked) (served : Served) : Type 0 where
  pub told : is_quiet served.reply ≡ true
  pub kept : (kept : List KeptRow) → kept_asked request served.reply served.book.rows kept ≡ kept

-- what is served where the rows that overlap a path are removed, where the stale rows are, and where the rows that are due are stored
abbrev pub invalid_served : ℕ → List (List ℕ) → Book → Served
invalid_served number path book = record {
  reply = reply.Invalid (length (filter (overlaps_row path) book.rows));
  book = without_rows number (filter (overlaps_row path) book.rows) (filter (is_clear_of path) book.rows) book;
}

abbrev pub cleaned_served : ℕ → ℕ → List (List (List ℕ)) → Book → Served
cleaned_served number cutoff strays book = record {
  reply = reply.Cleaned false (map gone_row (stale cutoff book)) strays;
  book = cleaned number cutoff book;
}

abbrev pub flushed_served : ℕ → Book → Served
flushed_served due book = record { reply = reply.Flushed due; book = book }

-- a property of what a request is served, case by case: the rows are left alone, a row is used, the declared row is put in the place of those that
-- overlap its path, the rows that overlap a path are removed, the stale rows are, and the rows that are due are stored
pub record ServedCases (P : Served → Type 0) (number : ℕ) (context : RequestContext) (request : Asked) (book : Book) : Type 0 where
  -- it is true where the rows and the kept rows are as they were
  pub same : (served : Served) → served.book.rows ≡ book.rows → IsQuiet request served → P served
  -- it is true where the row at a path is used
  pub uses : (served : Served) (path : List (List ℕ)) → served.book.rows ≡ used path book.now book.rows → IsQuiet request served → P served
  -- it is true where the declared row was put in the place of those that overlap its path
  pub puts : (command : ℕ) (path : List (List ℕ)) (tree : List Flat) → declares request ≡ Some path → tree_declared request book.rows ≡ Some tree →
      is_copy_placed request tree ≡ true → IsQuiet request (replace_rows number command path (new_row number book.now path tree) book) →
      P (replace_rows number command path (new_row number book.now path tree) book)
  -- it is true where the rows that overlap a path were removed
  pub invalid : (command : ℕ) (path : List (List ℕ)) → request ≡ asked.Invalidate command path → P (invalid_served number path book)
  -- it is true where the stale rows were removed
  pub cleans : (cutoff : ℕ) (mode : CleanMode) (strays : List (List (List ℕ))) → request ≡ asked.Clean cutoff mode →
      P (cleaned_served number cutoff strays book)
  -- it is true where the rows that are due are stored
  pub flushes : request ≡ asked.Flush → P (flushed_served context.due book)

-- the same of what a command that comes is answered with
pub either_passed : (P : Passed → Type 0) (b : Bool) (first second : Passed) → P first → P second → P (cond b first second)
either_passed P true first second one other = one
either_passed P false first second one other = other

declared_served : (P : Served → Type 0) (number : ℕ) (context : RequestContext) (request : Asked) (command : ℕ) (path : List (List ℕ)) (tree : List Flat)
    (book : Book) → ServedCases P number context request book → declares request ≡ Some path → tree_declared request book.rows ≡ Some tree →
    is_copy_placed request tree ≡ true →
    ((stamp : ℕ) (rows : List Row) (kept : List KeptRow) → kept_asked request (reply.Declared stamp) rows kept ≡ kept) →
    ((stamp : ℕ) (rows : List Row) (kept : List KeptRow) → kept_asked request (reply.Kept stamp) rows kept ≡ kept) →
    (o : Option Row) → P (declare_row number command path tree book o)
declared_served P number context request command path tree book cases is has placed new same None =
    cases.puts command path tree is has placed
    (record { told = refl; kept = new number (replace_rows number command path (new_row number book.now path tree) book).book.rows })
declared_served P number context request command path tree book cases is has placed new same (Some row) =
    cases.uses (declare_row number command path tree book (Some row)) path refl
    (record { told = refl; kept = same row.stamp (used path book.now book.rows) })

-- what is true in each case is true of what a request is served
pub asked_served : (P : Served → Type 0) (number : ℕ) (context : RequestContext) (request : Asked) (book : Book) →
    ServedCases P number context request book → P (serve_now number context request book)
asked_served P number context (asked.Enter command state soft refuse) book cases =
    either_passed Q (is_known command gate) _ _ (cases.same _ refl (record { told = refl; kept = λ kept. refl }))
    (either_passed Q (admits state gate) _ _ (cases.same _ refl (record { told = refl; kept = λ kept. refl }))
    (either_passed Q (may_take state gate) _ _ (cases.same _ refl (record { told = refl; kept = λ kept. refl })) (away refuse (other_state state book.state))))
  where
    gate : Gate
    gate = gate_of book

    Q : Passed → Type 0
    Q through = P (passed number command through book)

    away : (r : Bool) (other : Option ℕ) → Q (turn_away command state soft r other gate)
    away true (Some live) = cases.same _ refl (record { told = refl; kept = λ kept. refl })
    away true None = cases.same _ refl (record { told = refl; kept = λ kept. refl })
    away false other = cases.same _ refl (record { told = refl; kept = λ kept. refl })
asked_served P number context (asked.Leave command) book cases =
    either_served P (is_known command (gate_of book)) _ _
    (λ known. either_served P (count_by (is_open_of command) book.tickets == 0) _ _
    (λ none. cases.same _ refl (record { told = refl; kept = λ kept. refl }))
    (λ busy. cases.same _ refl (record { told = refl; kept = λ kept. refl })))
    (λ new. cases.same _ refl (record { told = refl; kept = λ kept. refl }))
asked_served P number context (asked.Write command path sum) book cases =
    either_served P (is_live command book) _ _
    (λ live. declared_served P number context (asked.Write command path sum) command path (written_tree sum) book cases refl refl refl
    (λ stamp rows kept. refl) (λ stamp rows kept. refl) (find (is_equal_row path (written_tree sum)) book.rows))
    (λ dead. cases.same _ refl (record { told = refl; kept = λ kept. refl }))
asked_served P number context (asked.Declare command path tree) book cases =
    either_served P (is_live command book) _ _
    (λ live. declared_served P number context (asked.Declare command path tree) command path tree book cases refl refl refl
    (λ stamp rows kept. refl) (λ stamp rows kept. refl) (find (is_equal_row path tree) book.rows))
    (λ dead. cases.same _ refl (record { told = refl; kept = λ kept. refl }))
asked_served P number context (asked.Copy command path source) book cases =
    either_served P (is_live command book) _ _ (λ live. copied (declared_at book.rows source) refl) (λ dead. cases.same _ refl (record { told = refl; kept = λ kept. refl }))
  where
    copied : (o : Option (List Flat)) → declared_at book.rows source ≡ o → P (copy_tree number command path book o)
    copied None has = cases.same _ refl (record { told = refl; kept = λ kept. refl })
    copied (Some tree) has =
        either_served P (list_all (is_placed path) tree) _ _
        (λ short. declared_served P number context (asked.Copy command path source) command path tree book cases refl has short
        (λ stamp rows kept. refl) (λ stamp rows kept. refl) (find (is_equal_row path tree) book.rows))
        (λ long. cases.same _ refl (record { told = refl; kept = λ kept. refl }))
asked_served P number context (asked.Matches command path sum) book cases =
    either_served P (is_live command book) _ _ (λ live. matched (find (is_at_path path) book.rows)) (λ dead. cases.same _ refl (record { told = refl; kept = λ kept. refl }))
  where
    matched : (o : Option Row) → P (match_row command path sum book o)
    matched None = cases.same _ refl (record { told = refl; kept = λ kept. refl })
    matched (Some row) =
        either_served P (same_sum row.sum sum) _ _ (λ same. cases.uses _ path refl (record { told = refl; kept = λ kept. refl })) (λ other. cases.same _ refl (record { told = refl; kept = λ kept. refl }))
asked_served P number context (asked.Has command path) book cases =
    either_served P (is_live command book) _ _ (λ live. looked (cover book.rows path)) (λ dead. cases.same _ refl (record { told = refl; kept = λ kept. refl }))
  where
    looked : (o : Option Row) → P (record { reply = has_reply o; book = book })
    looked None = cases.same _ refl (record { told = refl; kept = λ kept. refl })
    looked (Some row) =
        elim row.stands as (λ b. P (record { reply = cond b (reply.Stands row.stamp) (reply.NotMade row.stamp); book = book })) [
          | true ↦ cases.same _ refl (record { told = refl; kept = λ kept. refl })
          | false ↦ cases.same _ refl (record { told = refl; kept = λ kept. refl })
        ]
asked_served P number context (asked.Ensure command path) book cases =
    either_served P (is_live command book) _ _ (λ live. ensured (cover book.rows path)) (λ dead. cases.same _ refl (record { told = refl; kept = λ kept. refl }))
  where
    ensured : (o : Option Row) → P (ensure_row number command path book o)
    ensured None = cases.same _ refl (record { told = refl; kept = λ kept. refl })
    ensured (Some row) =
        either_served P row.stands _ _ (λ stands. cases.uses _ row.path refl (record { told = refl; kept = λ kept. refl })) (λ lies. cases.uses _ row.path refl (record { told = refl; kept = λ kept. refl }))
asked_served P number context (asked.Invalidate command path) book cases =
    either_served P (is_live command book) _ _ (λ live. cases.invalid command path refl) (λ dead. cases.same _ refl (record { told = refl; kept = λ kept. refl }))
asked_served P number context (asked.Clean cutoff mode.Real) book cases = cases.cleans cutoff mode.Real [] refl
asked_served P number context (asked.Clean cutoff mode.Dry) book cases = cases.same _ refl (record { told = refl; kept = λ kept. refl })
asked_served P number context (asked.Clean cutoff mode.All) book cases = cases.cleans cutoff mode.All context.strays refl
asked_served P number context asked.Flush book cases = cases.flushes refl

-- a reply that says that the state store failed is a fault, by which no kept row changes
pub fault_note : (said : Reply) → is_store_fault said ≡ true → (note : FaultNote) × (said ≡ reply.Fault note)
fault_note reply.Entered is = absurd cc
fault_note (reply.Took a) is = absurd cc
fault_note (reply.Left a) is = absurd cc
fault_note (reply.Declared a) is = absurd cc
fault_note (reply.Kept a) is = absurd cc
fault_note (reply.Same a) is = absurd cc
fault_note reply.Other is = absurd cc
fault_note reply.Nothing is = absurd cc
fault_note (reply.Stands a) is = absurd cc
fault_note (reply.NotMade a) is = absurd cc
fault_note (reply.Ready a b) is = absurd cc
fault_note (reply.Asked a) is = absurd cc
fault_note (reply.Invalid a) is = absurd cc
fault_note (reply.Cleaned a b c) is = absurd cc
fault_note (reply.Flushed a) is = absurd cc
fault_note reply.NotLive is = absurd cc
fault_note reply.Known is = absurd cc
fault_note (reply.Differs a) is = absurd cc
fault_note (reply.Queued a) is = absurd cc
fault_note reply.Unknown is = absurd cc
fault_note (reply.Busy a) is = absurd cc
fault_note reply.NoSource is = absurd cc
fault_note reply.TooLong is = absurd cc
fault_note reply.Undeclared is = absurd cc
fault_note (reply.Fault note) is = (note, refl)
fault_note (reply.Full a) is = absurd cc
fault_note reply.NoMemory is = absurd cc
fault_note reply.Started is = absurd cc
fault_note (reply.Refused a) is = absurd cc
fault_note (reply.Fresh a) is = absurd cc
fault_note reply.Stale is = absurd cc

fault_kept : (request : Asked) (note : FaultNote) (rows : List Row) (kept : List KeptRow) → kept_asked request (reply.Fault note) rows kept ≡ kept
fault_kept (asked.Enter command state soft refuse) note rows kept = refl
fault_kept (asked.Leave command) note rows kept = refl
fault_kept (asked.Write command path sum) note rows kept = refl
fault_kept (asked.Declare command path tree) note rows kept = refl
fault_kept (asked.Copy command path source) note rows kept = refl
fault_kept (asked.Matches command path sum) note rows kept = refl
fault_kept (asked.Has command path) note rows kept = refl
fault_kept (asked.Ensure command path) note rows kept = refl
fault_kept (asked.Invalidate command path) note rows kept = refl
fault_kept (asked.Clean cutoff mode) note rows kept = refl
fault_kept asked.Flush note rows kept = refl

-- what is true in each case is true of what is served for the event of a request, where the state store may have failed
pub event_served : (P : Served → Type 0) (point : Point) (moment : ℕ) (request : Asked) (said : Reply) →
    ServedCases P (next_number point) (request_context point) request (at_moment moment point.book) → P (answer_asked point moment request said)
event_served P point moment request said cases =
    either_served P (may_fail request point.book point.kept && is_store_fault said) _ _
    (λ failed.
    let (note, is) = fault_note said (and_parts (may_fail request point.book point.kept) (is_store_fault said) failed).1 in
    subst (λ (r : Reply). P (record { reply = r; book = at_moment moment point.book })) (sym is)
    (cases.same (record { reply = reply.Fault note; book = at_moment moment point.book }) refl
    (record { told = refl; kept = fault_kept request note point.book.rows })))
    (λ calm. asked_served P (next_number point) (request_context point) request (at_moment moment point.book) cases)

-- ---- the rows alone

-- a property of a reply and the rows that are left
abbrev pub Says : (Reply → List Row → Type 0) → Served → Type 0
Says R served = R served.reply served.book.rows

-- a property of the reply to a request and of the rows after it, case by case: the rows are left alone, a row is used, the declared row is put in the
-- place of those that overlap its path, which is then the reply, and rows are removed
pub record RowCases (R : Reply → List Row → Type 0) (number now : ℕ) (request : Asked) (rows : List Row) : Type 0 where
  -- it is true of the rows as they were
  pub same : (said : Reply) → R said rows
  -- it is true once the row at a path is used
  pub uses : (said : Reply) (path : List (List ℕ)) → R said (used path now rows)
  -- it is true once the declared row is put in the place of those that overlap its path
  pub puts : (path : List (List ℕ)) (tree : List Flat) → declares request ≡ Some path → tree_declared request rows ≡ Some tree →
      is_copy_placed request tree ≡ true →
      R (reply.Declared number) (put_row (new_row number now path tree) (filter (is_clear_of path) rows))
  -- it is true once the rows that fail a test are removed
  pub removes : (said : Reply) (left : Row → Bool) → R said (filter left rows)

-- what is true in each case is true of the reply to a request and of the rows after it
pub asked_says : (R : Reply → List Row → Type 0) (number : ℕ) (context : RequestContext) (request : Asked) (book : Book) →
    RowCases R number book.now request book.rows → Says R (serve_now number context request book)
asked_says R number context request book cases =
    asked_served (Says R) number context request book (record {
      same = λ served rows quiet. subst (λ (rs : List Row). R served.reply rs) (sym rows) (cases.same served.reply);
      uses = λ served path rows quiet. subst (λ (rs : List Row). R served.reply rs) (sym rows) (cases.uses served.reply path);
      puts = λ command path tree is has placed quiet. cases.puts path tree is has placed;
      invalid = λ command path is. cases.removes _ (is_clear_of path);
      cleans = λ cutoff how strays is. cases.removes _ (is_not_stale cutoff book.holds);
      flushes = λ is. cases.same _;
    })
