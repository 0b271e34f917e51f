-- The rules of a book: what is true of its rows, its gate, its holds and its tickets at each point of a history.
use Rattle.std.specs.Prelude.{◌≡◌, ◌≢◌, ◌⊎◌, ◌<◌, ◌≤◌, ℕ, nat_lt, ◌&&◌, Bool, true, false, not, List, [], ◌∷◌, ◌++◌, length, map, Option, Some, None}
use Rattle.std.specs.List.{All, AllPairs, Contains, list_all, list_any}
use Rattle.std.specs.Option.{is_none}
use Rattle.mat_tree.specs.Sums.{sum_of}
use Rattle.mat_model.specs.declared.book.Book.{Book}
use Rattle.mat_model.specs.declared.book.Hold.{Hold}
use Rattle.mat_model.specs.declared.book.Row.{Row}
use Rattle.mat_model.specs.declared.book.Ticket.{Ticket}
use Rattle.mat_model.specs.declared.book.Waiter.{Waiter}
use Rattle.mat_model.specs.Gate.{gate_of, is_known, is_command, is_state, is_nobody}
use Rattle.mat_model.specs.Rows.{are_apart, cover, covers}
use Rattle.mat_model.specs.Tickets.{is_open}

-- a row's sum is the sum of its tree
abbrev pub IsSummed : Row → Type 0
IsSummed row = row.sum ≡ sum_of row.tree

-- the commands of a book: those that are live, and those that wait, in order
abbrev pub command_of : Waiter → ℕ
command_of waiter = waiter.command

abbrev pub commands : Book → List ℕ
commands book = book.live ++ map command_of book.waiting

-- whether numbers ascend strictly
abbrev pub are_ascending : List ℕ → Bool
are_ascending [] = true
are_ascending (number ∷ numbers) = list_all (nat_lt number) numbers && are_ascending numbers

-- a command is live or waits
abbrev pub IsCommandOf : Book → ℕ → Type 0
IsCommandOf book command = is_known command (gate_of book) ≡ true

-- whether nobody waits, or the front of the queue can't be live yet: 64 are live, or somebody is, and in another state
abbrev pub is_held_back : List ℕ → Option ℕ → List Waiter → Bool
is_held_back live state [] = true
is_held_back live state (waiter ∷ waiters) = not (nat_lt (length live) 64 && is_state waiter.state state)

-- two holds differ in their commands or in their paths
abbrev pub IsOtherHold : Hold → Hold → Type 0
IsOtherHold hold other = hold.command ≡ other.command → hold.path ≢ other.path

-- the number of a ticket
abbrev pub number_of : Ticket → ℕ
number_of ticket = ticket.number

-- a ticket that is open has a command that is live
abbrev pub IsAsking : List ℕ → Ticket → Type 0
IsAsking live ticket = is_open ticket ≡ true → list_any (is_command ticket.command) live ≡ true

-- whether a row that doesn't stand covers a path
abbrev pub lies_over : List (List ℕ) → Row → Bool
lies_over path row = covers path row && not row.stands

-- a ticket that is open asks for a path that a row covers which doesn't stand
abbrev pub IsAwaited : List Row → Ticket → Type 0
IsAwaited rows ticket = is_open ticket ≡ true → list_any (lies_over ticket.asked) rows ≡ true

-- a book keeps the rules, where the next entry has this number. Each rule stays true by itself, whatever comes, but for two: the numbers ascend since
-- they are below the next one, and each open ticket is covered since the rows are apart. How many commands wait is no rule of the book: that is as many
-- as there is room for.
pub record IsBook (next : ℕ) (book : Book) : Type 0 where
  -- the rows are in strict order of path, and no two of them overlap
  pub apart : are_apart book.rows ≡ true
  -- each row's sum is the sum of its tree
  pub sums : All IsSummed book.rows
  -- no command is twice among those that are live and those that wait
  pub once : AllPairs ◌≢◌ (commands book)
  -- at most 64 commands are live
  pub few : length book.live ≤ 64
  -- there is no state exactly where nobody is live
  pub state : is_none book.state ≡ is_nobody book.live
  -- where somebody waits, 64 are live, or somebody is live and the front waits for another state
  pub waits : is_held_back book.live book.state book.waiting ≡ true
  -- the soft commands ascend, and each of them is live or waits
  pub ordered : are_ascending book.soft ≡ true
  pub soft : All (IsCommandOf book) book.soft
  -- no command holds a path twice
  pub holds : AllPairs IsOtherHold book.holds
  -- the numbers of the tickets ascend strictly
  pub ascending : AllPairs ◌<◌ (map number_of book.tickets)
  -- and are below the number of the next entry
  pub below : All (λ (number : ℕ). number < next) (map number_of book.tickets)
  -- the command of each open ticket is live
  pub asking : All (IsAsking book.live) book.tickets
  -- the path that each open ticket asks for is covered by a row that doesn't stand
  pub covered : All (IsAwaited book.rows) book.tickets

-- of some rows exactly one covers a path, and it doesn't stand
abbrev pub IsAwaitedOnce : List Row → List (List ℕ) → Type 0
IsAwaitedOnce rows path =
    (row : Row) × (cover rows path ≡ Some row) × (row.stands ≡ false)
    × ((other : Row) → Contains rows other → covers path other ≡ true → other ≡ row)

-- the front of a queue waits for a reason: 64 commands are live, or those who are have another state
abbrev pub WaitsRightly : Book → Waiter → Type 0
WaitsRightly book waiter = (length book.live ≡ 64) ⊎ ((state : ℕ) × (book.state ≡ Some state) × (state ≢ waiter.state))

-- a book in which nobody is live or waits, and nothing is held or promised
pub record IsIdle (book : Book) : Type 0 where
  pub live : book.live ≡ []
  pub state : book.state ≡ None
  pub waiting : book.waiting ≡ []
  pub soft : book.soft ≡ []
  pub holds : book.holds ≡ []
  pub tickets : book.tickets ≡ []
