-- What the laws of a book speak of: a ticket that stays what it was, a row that still stands, and the requests that can end that.
use Rattle.mat_model.specs.Declarations.{new_row}
use Rattle.std.specs.Prelude.{◌≡◌, ◌≤◌, ◌⊎◌, ℕ, Bool, true, false, List, [], ◌∷◌, length, drop, Option, Some, None}
use Rattle.std.specs.List.{Contains, list_any}
use Rattle.std.specs.Option.{is_none}
use Rattle.mat_path.specs.Names.{is_prefix}
use Rattle.mat_tree.specs.declared.sum.Sum.{Sum}
use Rattle.mat_tree.specs.declared.flat.Flat.{Flat}
use Rattle.mat_tree.specs.Trees.{has_node, same_tree}
use Rattle.mat_model.specs.declared.answers.Answer.TheVariants as answer
use Rattle.mat_model.specs.declared.answers.Reply.{Reply}
use Rattle.mat_model.specs.declared.answers.Reply.TheVariants as reply
use Rattle.mat_model.specs.declared.book.Book.{Book}
use Rattle.mat_model.specs.declared.book.Row.{Row}
use Rattle.mat_model.specs.declared.book.Ticket.{Ticket}
use Rattle.mat_model.specs.declared.entries.Entry.{Entry}
use Rattle.mat_model.specs.declared.entries.Event.{Event}
use Rattle.mat_model.specs.declared.entries.Event.TheVariants as event
use Rattle.mat_model.specs.declared.requests.Asked.{Asked}
use Rattle.mat_model.specs.declared.requests.Asked.TheVariants as asked
use Rattle.mat_model.specs.declared.requests.CleanMode.{CleanMode}
use Rattle.mat_model.specs.declared.requests.CleanMode.TheVariants as mode
use Rattle.mat_model.specs.Gate.{Served, is_command, is_nobody}
use Rattle.mat_model.specs.Tickets.{is_open, with_hold}
use Rattle.mat_model.specs.Rows.{cover, covers, overlaps_row, put_row}

-- a row that stands covers a path, and has this stamp and this sum
pub record IsReady (rows : List Row) (path : List (List ℕ)) (stamp : ℕ) (sum : Sum) : Type 0 where
  pub row : Row
  pub found : cover rows path ≡ Some row
  pub stands : row.stands ≡ true
  pub stamped : row.stamp ≡ stamp
  pub summed : row.sum ≡ sum
  pub above : is_prefix row.path path ≡ true
  pub node : has_node row.tree (drop (length row.path) path) ≡ true

-- a ticket is what another one was: it was given for the same ensure, and where that one had an answer it is that one
pub record IsKept (old new : Ticket) : Type 0 where
  pub number : new.number ≡ old.number
  pub command : new.command ≡ old.command
  pub asked : new.asked ≡ old.asked
  pub answered : is_open old ≡ false → new ≡ old

-- each of some tickets is kept at its place among others
abbrev pub AreKept : List Ticket → List Ticket → Type 0
AreKept [] others = Unit {0}
AreKept (ticket ∷ tickets) [] = ⊥
AreKept (ticket ∷ tickets) (other ∷ others) = IsKept ticket other × AreKept tickets others

-- some rows have one that stands in the place of this one, with the same path, tree, sum and stamp
pub record StillStands (row : Row) (rows : List Row) : Type 0 where
  pub next : Row
  pub among : Contains rows next
  pub stands : next.stands ≡ true
  pub path : next.path ≡ row.path
  pub tree : next.tree ≡ row.tree
  pub sum : next.sum ≡ row.sum
  pub stamp : next.stamp ≡ row.stamp

-- whether a clean removes rows
abbrev pub removes : CleanMode → Bool
removes mode.Real = true
removes mode.Dry = false
removes mode.All = true

-- whether a request can end that a row stands: it declares or removes at a path that overlaps the row's, or it cleans
abbrev pub disturbs : Asked → Row → Bool
disturbs (asked.Enter command state soft refuse) row = false
disturbs (asked.Leave command) row = false
disturbs (asked.Write command path sum) row = overlaps_row path row
disturbs (asked.Declare command path tree) row = overlaps_row path row
disturbs (asked.Copy command path source) row = overlaps_row path row
disturbs (asked.Matches command path sum) row = false
disturbs (asked.Has command path) row = false
disturbs (asked.Ensure command path) row = false
disturbs (asked.Invalidate command path) row = overlaps_row path row
disturbs (asked.Clean cutoff mode) row = removes mode
disturbs asked.Flush row = false

-- the path that a request declares at
abbrev pub declares : Asked → Option (List (List ℕ))
declares (asked.Enter command state soft refuse) = None
declares (asked.Leave command) = None
declares (asked.Write command path sum) = Some path
declares (asked.Declare command path tree) = Some path
declares (asked.Copy command path source) = Some path
declares (asked.Matches command path sum) = None
declares (asked.Has command path) = None
declares (asked.Ensure command path) = None
declares (asked.Invalidate command path) = None
declares (asked.Clean cutoff mode) = None
declares asked.Flush = None

-- the same of an event and of an entry
abbrev pub disturbs_by : Event → Row → Bool
disturbs_by (event.Asked request) row = disturbs request row
disturbs_by (event.Begin task) row = false
disturbs_by (event.Done job out) row = false

abbrev pub is_disturbed : Row → Entry → Bool
is_disturbed row entry = disturbs_by entry.event row

-- a ticket was answered, under a number, that nothing is declared, and no row covers what it asked for
abbrev pub IsLeftOut : ℕ → List Row → Ticket → Ticket → Type 0
IsLeftOut number rows ticket other =
    (other.answered ≡ Some (record { at = number; answer = answer.Undeclared }))
    × (list_any (covers ticket.asked) rows ≡ false)

-- a ticket was answered, under a number, that a command took the place of its own: an enter asks so, and the ticket's command was live
pub record IsPreempted (number : ℕ) (request : Asked) (commands : List ℕ) (ticket other : Ticket) : Type 0 where
  pub command : ℕ
  pub state : ℕ
  pub soft : Bool
  pub refuse : Bool
  pub asks : request ≡ asked.Enter command state soft refuse
  pub live : list_any (is_command ticket.command) commands ≡ true
  pub answered : other.answered ≡ Some (record { at = number; answer = answer.Preempted command })

-- a ticket was answered, under a number, with the stamp and the sum of a row that stands at a path and covers what it asked for
pub record IsAnswered (number : ℕ) (path : List (List ℕ)) (stamp : ℕ) (rows : List Row) (ticket other : Ticket) : Type 0 where
  pub row : Row
  pub among : Contains rows row
  pub stands : row.stands ≡ true
  pub placed : row.path ≡ path
  pub stamped : row.stamp ≡ stamp
  pub covering : covers ticket.asked row ≡ true
  pub answered : other.answered ≡ Some (record { at = number; answer = answer.Ready stamp row.sum })

-- some rows have one at a path that has a tree, and a reply is that it was declared, or kept, under that row's stamp
pub record HasDeclared (rows : List Row) (path : List (List ℕ)) (tree : List Flat) (given : Reply) : Type 0 where
  pub row : Row
  pub among : Contains rows row
  pub placed : row.path ≡ path
  pub same : same_tree row.tree tree ≡ true
  pub told : (given ≡ reply.Declared row.stamp) ⊎ (given ≡ reply.Kept row.stamp)

-- the gate of a book is sound: at most 64 commands are live, and there is no state exactly where nobody is live
abbrev pub IsGated : Book → Type 0
IsGated book = (length book.live ≤ 64) × (is_none book.state ≡ is_nobody book.live)

-- what a declaration does at a path that no row overlaps: a new row comes, and nothing else changes but the hold
abbrev pub declared_alone : ℕ → ℕ → List (List ℕ) → List Flat → Book → Served
declared_alone number command path tree book = record {
  reply = reply.Declared number;
  book = record book {
    rows = put_row (new_row number book.now path tree) book.rows;
    holds = with_hold command path book.holds;
  };
}
