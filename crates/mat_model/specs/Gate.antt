-- The gate: which commands are live, and who waits.
use Rattle.std.specs.Prelude.{ℕ, ◌==◌, nat_lt, ◌+◌, ◌&&◌, ◌||◌, Bool, true, false, not, if◌then◌else◌, List, [], ◌∷◌, ◌++◌, length, filter, Option, Some, None}
use Rattle.std.specs.List.{list_all, list_any}
use Rattle.mat_model.specs.declared.book.Book.{Book}
use Rattle.mat_model.specs.declared.book.Waiter.{Waiter}
use Rattle.mat_model.specs.declared.answers.Reply.{Reply}
use Rattle.mat_model.specs.declared.answers.Reply.TheVariants as reply

-- the reply to an event, and the book after it
pub record Served : Type 0 where
  pub reply : Reply
  pub book : Book

-- whether a command is this one
abbrev pub is_command : ℕ → ℕ → Bool
is_command command other = other == command

-- whether a waiter is this command
abbrev pub is_waiter : ℕ → Waiter → Bool
is_waiter command waiter = waiter.command == command

-- whether a command is live
abbrev pub is_live : ℕ → Book → Bool
is_live command book = list_any (is_command command) book.live

-- whether a command waits
abbrev pub is_waiting : ℕ → Book → Bool
is_waiting command book = list_any (is_waiter command) book.waiting

-- ---- the gate

-- the gate of a book: the commands that are live, their state, the queue of those that wait, and the soft commands among both
pub record Gate : Type 0 where
  pub live : List ℕ
  pub state : Option ℕ
  pub waiting : List Waiter
  pub soft : List ℕ

abbrev pub gate_of : Book → Gate
gate_of book = record { live = book.live; state = book.state; waiting = book.waiting; soft = book.soft }

-- the book with another gate
abbrev pub with_gate : Gate → Book → Book
with_gate gate book = record book { live = gate.live; state = gate.state; waiting = gate.waiting; soft = gate.soft }

-- whether a command is live or waits
abbrev pub is_known : ℕ → Gate → Bool
is_known command gate = list_any (is_command command) gate.live || list_any (is_waiter command) gate.waiting

-- whether the live commands may have a state: nobody is live, or it is theirs
abbrev pub is_state : ℕ → Option ℕ → Bool
is_state state None = true
is_state state (Some live) = live == state

-- the state of the live commands, where it is another one
abbrev pub other_state : ℕ → Option ℕ → Option ℕ
other_state state None = None
other_state state (Some live) = if live == state then None else Some live

-- ---- who comes

-- a number in its place among ascending ones
abbrev pub put_number : ℕ → List ℕ → List ℕ
put_number number [] = number ∷ []
put_number number (other ∷ others) =
    if nat_lt number other then number ∷ other ∷ others else other ∷ put_number number others

-- the soft commands with one that comes, if it is soft
abbrev pub with_soft : Bool → ℕ → List ℕ → List ℕ
with_soft true command soft = put_number command soft
with_soft false command soft = soft

-- a command that comes is live beside the others
abbrev pub come : ℕ → ℕ → Bool → Gate → Gate
come command state soft gate = record gate {
  live = gate.live ++ command ∷ [];
  state = Some state;
  soft = with_soft soft command gate.soft;
}

-- a command that comes waits at the end of the queue
abbrev pub wait : ℕ → ℕ → Bool → Gate → Gate
wait command state soft gate = record gate {
  waiting = gate.waiting ++ record { command = command; state = state } ∷ [];
  soft = with_soft soft command gate.soft;
}

-- whether a command isn't among some
abbrev pub is_beside : List ℕ → ℕ → Bool
is_beside commands command = not (list_any (is_command command) commands)

-- a command that comes is live in the place of those that are
abbrev pub take_over : ℕ → ℕ → Bool → Gate → Gate
take_over command state soft gate = record gate {
  live = command ∷ [];
  state = Some state;
  soft = with_soft soft command (filter (is_beside gate.live) gate.soft);
}

-- whether a command that asks for a state may be live at once: nobody waits, fewer than 64 are live, and nobody is live
-- or the state is the live one
abbrev pub admits : ℕ → Gate → Bool
admits state gate = (length gate.waiting == 0) && nat_lt (length gate.live) 64 && is_state state gate.state

-- whether a command is among the soft ones
abbrev pub is_soft : List ℕ → ℕ → Bool
is_soft soft command = list_any (is_command command) soft

-- whether a command that asks for a state may take the place of those that are live: nobody waits, the state isn't the live one, and each of
-- them is soft
abbrev pub may_take : ℕ → Gate → Bool
may_take state gate = (length gate.waiting == 0) && not (is_state state gate.state) && list_all (is_soft gate.soft) gate.live

-- what a command that comes is answered, whether those that were live went for it, and the gate then
pub record Passed : Type 0 where
  pub reply : Reply
  pub took : Bool
  pub gate : Gate

-- a command that can't be live waits, or is told the live state where it is another one and the command refuses to wait for its own
abbrev pub turn_away : ℕ → ℕ → Bool → Bool → Option ℕ → Gate → Passed
turn_away command state soft true (Some live) gate = record { reply = reply.Differs live; took = false; gate = gate }
turn_away command state soft true None gate =
    record { reply = reply.Queued (length gate.waiting + 1); took = false; gate = wait command state soft gate }
turn_away command state soft false other gate =
    record { reply = reply.Queued (length gate.waiting + 1); took = false; gate = wait command state soft gate }

-- a command comes to the gate
abbrev pub pass : ℕ → ℕ → Bool → Bool → Gate → Passed
pass command state soft refuse gate =
    if is_known command gate then record { reply = reply.Known; took = false; gate = gate }
    else if admits state gate then record { reply = reply.Entered; took = false; gate = come command state soft gate }
    else if may_take state gate then
    record { reply = reply.Took (length gate.live); took = true; gate = take_over command state soft gate }
    else turn_away command state soft refuse (other_state state gate.state) gate

-- ---- who goes

-- whether a command is another one
abbrev pub is_other : ℕ → ℕ → Bool
is_other command other = not (is_command command other)

abbrev pub is_other_waiter : ℕ → Waiter → Bool
is_other_waiter command waiter = not (is_waiter command waiter)

-- the state of those who are live: none where nobody is
abbrev pub state_of : List ℕ → Option ℕ → Option ℕ
state_of [] state = None
state_of (command ∷ live) state = state

-- a command is neither live nor waiting any more
abbrev pub departed : ℕ → Gate → Gate
departed command gate = record {
  live = filter (is_other command) gate.live;
  state = state_of (filter (is_other command) gate.live) gate.state;
  waiting = filter (is_other_waiter command) gate.waiting;
  soft = filter (is_other command) gate.soft;
}

-- whether the front of the queue may be live
abbrev pub admits_front : Waiter → Gate → Bool
admits_front waiter gate = nat_lt (length gate.live) 64 && is_state waiter.state gate.state

-- a command from the queue is live
abbrev pub admitted : Waiter → Gate → Gate
admitted waiter gate = record gate { live = gate.live ++ waiter.command ∷ []; state = Some waiter.state }

-- some commands were admitted: how many, and the gate then
pub record Admitted : Type 0 where
  pub count : ℕ
  pub gate : Gate

-- one more was admitted before
abbrev pub one_more : Admitted → Admitted
one_more rest = record { count = rest.count + 1; gate = rest.gate }

-- those who wait are admitted from the front on, as long as that is possible
abbrev pub admit : List Waiter → Gate → Admitted
admit [] gate = record { count = 0; gate = record gate { waiting = [] } }
admit (waiter ∷ waiters) gate =
    if admits_front waiter gate then one_more (admit waiters (admitted waiter gate))
    else record { count = 0; gate = record gate { waiting = waiter ∷ waiters } }

-- a command goes, and others are admitted
abbrev pub depart : ℕ → Gate → Admitted
depart command gate = admit (departed command gate).waiting (departed command gate)

-- ---- requests

-- a request of a live command is served so, and that of another one is refused
abbrev pub if_live : ℕ → Book → Served → Served
if_live command book served = if is_live command book then served else record { reply = reply.NotLive; book = book }

-- whether a list of commands is empty
abbrev pub is_nobody : List ℕ → Bool
is_nobody [] = true
is_nobody (command ∷ commands) = false
