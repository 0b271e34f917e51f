-- What each request is answered, and what it does to the book. A request's number is the history number of its entry.
use Rattle.std.specs.List.{list_any}
use Rattle.std.specs.Prelude.{ℕ, ◌==◌, map, max, ◌&&◌, ◌||◌, Bool, true, false, not, if◌then◌else◌, List, [], ◌∷◌, ◌++◌, filter, find, count_by, Option, Some, None}
use Rattle.mat_tree.specs.declared.sum.Sum.{Sum}
use Rattle.mat_tree.specs.Trees.{same_sum}
use Rattle.mat_model.specs.declared.book.Book.{Book}
use Rattle.mat_model.specs.declared.book.Hold.{Hold}
use Rattle.mat_model.specs.declared.book.Row.{Row}
use Rattle.mat_model.specs.declared.book.Ticket.{Ticket}
use Rattle.mat_model.specs.declared.answers.Answer.TheVariants as answer
use Rattle.mat_model.specs.declared.answers.Reply.{Reply}
use Rattle.mat_model.specs.declared.answers.Reply.TheVariants as reply
use Rattle.mat_model.specs.declared.requests.Asked.{Asked}
use Rattle.mat_model.specs.declared.requests.Asked.TheVariants as asked
use Rattle.mat_model.specs.Cleaning.{clean, invalidate}
use Rattle.mat_model.specs.Declarations.{copy, declare_tree, write}
use Rattle.mat_model.specs.Gate.{Passed, Served, depart, gate_of, if_live, is_beside, is_command, is_known, pass, with_gate}
use Rattle.mat_model.specs.Rows.{cover, is_at_path, used}
use Rattle.mat_model.specs.Tickets.{is_open, used_by, with_answer, with_hold}

-- a sum is compared with that of the row at a path, if there is one
abbrev pub match_row : ℕ → List (List ℕ) → Sum → Book → Option Row → Served
match_row command path sum book None = record { reply = reply.Nothing; book = book }
match_row command path sum book (Some row) =
    if same_sum row.sum sum then record { reply = reply.Same row.stamp; book = used_by command path book }
    else record { reply = reply.Other; book = book }

abbrev pub matches : ℕ → List (List ℕ) → Sum → Book → Served
matches command path sum book = if_live command book (match_row command path sum book (find (is_at_path path) book.rows))

-- what covers a path is looked at, if there is something
abbrev pub has_reply : Option Row → Reply
has_reply None = reply.Nothing
has_reply (Some row) = if row.stands then reply.Stands row.stamp else reply.NotMade row.stamp

abbrev pub has : ℕ → List (List ℕ) → Book → Served
has command path book = if_live command book (record { reply = has_reply (cover book.rows path); book = book })

-- a covering row is asked for, by its stamp, its sum and whether it stands: it is ready, or a ticket is opened
abbrev pub grant : ℕ → ℕ → List (List ℕ) → ℕ → Sum → Bool → Book → Served
grant number command path stamp sum stands book =
    if stands then record {
      reply = reply.Ready stamp sum;
      book = record book { holds = with_hold command path book.holds };
    }
    else record {
      reply = reply.Asked number;
      book = record book {
        holds = with_hold command path book.holds;
        tickets = book.tickets ++ record { number = number; command = command; asked = path; answered = None } ∷ [];
      };
    }

-- what covers a path is asked for, where the row that does, if there is one, is given
abbrev pub ensure_row : ℕ → ℕ → List (List ℕ) → Book → Option Row → Served
ensure_row number command path book None = record { reply = reply.Undeclared; book = book }
ensure_row number command path book (Some row) =
    grant number command path row.stamp row.sum row.stands (record book { rows = used row.path book.now book.rows })

abbrev pub ensure : ℕ → ℕ → List (List ℕ) → Book → Served
ensure number command path book = if_live command book (ensure_row number command path book (cover book.rows path))

-- whether a hold is of none of some commands
abbrev pub is_hold_beside : List ℕ → Hold → Bool
is_hold_beside commands hold = is_beside commands hold.command

-- whether a ticket is open and of one of some commands
abbrev pub is_open_among : List ℕ → Ticket → Bool
is_open_among commands ticket = is_open ticket && list_any (is_command ticket.command) commands

-- a ticket with the answer that a command took the place of its own, if it is open and of one of some commands
abbrev pub preempted_ticket : ℕ → ℕ → List ℕ → Ticket → Ticket
preempted_ticket number command commands ticket =
    if is_open_among commands ticket then with_answer number (answer.Preempted command) ticket else ticket

-- the book once the holds of some commands went, and their open tickets are answered that a command took their place
abbrev pub preempted : ℕ → ℕ → List ℕ → Book → Book
preempted number command commands book = record book {
  holds = filter (is_hold_beside commands) book.holds;
  tickets = map (preempted_ticket number command commands) book.tickets;
}

-- the book behind the gate that a command came to
abbrev pub passed : ℕ → ℕ → Passed → Book → Served
passed number command through book = record {
  reply = through.reply;
  book = with_gate through.gate (if through.took then preempted number command book.live book else book);
}

-- a command comes
abbrev pub enter : ℕ → ℕ → ℕ → Bool → Bool → Book → Served
enter number command state soft refuse book = passed number command (pass command state soft refuse (gate_of book)) book

-- whether a ticket is open and a command's
abbrev pub is_open_of : ℕ → Ticket → Bool
is_open_of command ticket = is_open ticket && (ticket.command == command)

-- whether a hold is another command's
abbrev pub is_hold_of_other : ℕ → Hold → Bool
is_hold_of_other command hold = not (hold.command == command)

-- a command that has this many open tickets goes, if it has none
abbrev pub leave_with : ℕ → ℕ → Book → Served
leave_with count command book =
    if count == 0 then record {
      reply = reply.Left (depart command (gate_of book)).count;
      book = with_gate (depart command (gate_of book)).gate (record book { holds = filter (is_hold_of_other command) book.holds });
    }
    else record { reply = reply.Busy count; book = book }

-- a command goes
abbrev pub leave : ℕ → Book → Served
leave command book =
    if is_known command (gate_of book) then leave_with (count_by (is_open_of command) book.tickets) command book
    else record { reply = reply.Unknown; book = book }

-- the book at a moment: its own, or a later one that is handed
abbrev pub at_moment : ℕ → Book → Book
at_moment moment book = record book { now = max book.now moment }

-- what the answer of a request takes from beside the book: the debris that a clean of all would condemn, in path order, and
-- how many rows are due to be stored
pub record RequestContext : Type 0 where
  pub strays : List (List (List ℕ))
  pub due : ℕ

-- a request, at a book's own moment
abbrev pub serve_now : ℕ → RequestContext → Asked → Book → Served
serve_now number context (asked.Enter command state soft refuse) book = enter number command state soft refuse book
serve_now number context (asked.Leave command) book = leave command book
serve_now number context (asked.Write command path sum) book = write number command path sum book
serve_now number context (asked.Declare command path tree) book = declare_tree number command path tree book
serve_now number context (asked.Copy command path source) book = copy number command path source book
serve_now number context (asked.Matches command path sum) book = matches command path sum book
serve_now number context (asked.Has command path) book = has command path book
serve_now number context (asked.Ensure command path) book = ensure number command path book
serve_now number context (asked.Invalidate command path) book = invalidate number command path book
serve_now number context (asked.Clean cutoff mode) book = clean number cutoff context.strays mode book
serve_now number context asked.Flush book = record { reply = reply.Flushed context.due; book = book }

-- a request at a moment
abbrev pub serve : ℕ → ℕ → RequestContext → Asked → Book → Served
serve number moment context request book = serve_now number context request (at_moment moment book)
