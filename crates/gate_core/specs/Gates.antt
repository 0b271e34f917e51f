-- What the gate answers, what it is then, and the rules that it keeps.
use Rattle.std.specs.Prelude.{◌≡◌, ◌≢◌, ◌≤◌, ℕ, zero, suc, Bool, true, false, if◌then◌else◌, List, [], ◌++◌, length, map, Option, Some, None, slice_get}
use Rattle.std.specs.List.{All, AllPairs, list_any, position}
use Rattle.std.specs.Option.{is_none, option_map}
use Rattle.mat_model.specs.declared.answers.Limit.TheVariants as limit
use Rattle.mat_model.specs.declared.answers.Reply.{Reply}
use Rattle.mat_model.specs.declared.answers.Reply.TheVariants as reply
use Rattle.mat_model.specs.declared.book.Waiter.{Waiter}
use Rattle.mat_model.specs.Books.{are_ascending, command_of, is_held_back}
use Rattle.mat_model.specs.Gate.{Gate, Passed, depart, is_command, is_known, is_nobody, is_waiter, other_state, pass, turn_away}
use Rattle.mat_model.specs.Room.{waits_past}
use Rattle.gate_core.specs.declared.gate.Entering.{Entering}
use Rattle.gate_core.specs.declared.gate.Entering.TheVariants as entering

-- the gate with nobody
abbrev pub no_gate : Gate
no_gate = record { live = []; state = None; waiting = []; soft = [] }

-- ---- who comes

-- the reply that an answer stands for
abbrev pub reply_of : Entering → Reply
reply_of entering.Entered = reply.Entered
reply_of (entering.Took count) = reply.Took count
reply_of (entering.Differs state) = reply.Differs state
reply_of (entering.Queued place) = reply.Queued place
reply_of entering.Known = reply.Known
reply_of entering.Full = reply.Full limit.Waiting

-- what came of a command, unless it would wait behind 64 others: then the gate is full and stays as it was
abbrev pub unless_full : Gate → Passed → Passed
unless_full gate through = if waits_past through.reply then record { reply = reply.Full limit.Waiting; took = false; gate = gate } else through

-- a command that can't be live comes to a gate where at most 64 wait
abbrev pub turned_away : ℕ → ℕ → Bool → Bool → Gate → Passed
turned_away command state soft refuse gate = unless_full gate (turn_away command state soft refuse (other_state state gate.state) gate)

-- a command comes to a gate where at most 64 wait
abbrev pub enter : ℕ → ℕ → Bool → Bool → Gate → Passed
enter command state soft refuse gate = unless_full gate (pass command state soft refuse gate)

-- ---- who goes

-- how many are admitted where a command goes, if it is known
abbrev pub count_left : ℕ → Gate → Option ℕ
count_left command gate = if is_known command gate then Some (depart command gate).count else None

-- the gate then
abbrev pub leave : ℕ → Gate → Gate
leave command gate = if is_known command gate then (depart command gate).gate else gate

-- ---- who is where

-- the place of a command: 0 where it is live, else its place in the queue, from 1
abbrev pub place_of : ℕ → Gate → Option ℕ
place_of command gate =
    if list_any (is_command command) gate.live then Some 0 else option_map suc (position (is_waiter command) gate.waiting)

-- a waiter as its command and the state that it asks for
abbrev pub parts_of : Waiter → ℕ × ℕ
parts_of waiter = (waiter.command, waiter.state)

-- who waits at a place of the queue, from 1
abbrev pub waiter_at : ℕ → Gate → Option (ℕ × ℕ)
waiter_at zero gate = None
waiter_at (suc k) gate = option_map parts_of (slice_get gate.waiting k)

-- ---- rules

-- the commands of a gate: those that are live, and those that wait, in order
abbrev pub commands_of : Gate → List ℕ
commands_of gate = gate.live ++ map command_of gate.waiting

-- the rules of a gate
pub record IsGate (gate : Gate) : Type 0 where
  -- no command is twice among those that are live and those that wait
  pub once : AllPairs ◌≢◌ (commands_of gate)
  -- at most 64 commands are live, and at most 64 wait
  pub few : length gate.live ≤ 64
  pub short : length gate.waiting ≤ 64
  -- there is no state exactly where nobody is live
  pub state : is_none gate.state ≡ is_nobody gate.live
  -- where somebody waits, 64 are live, or somebody is live and the front waits for another state
  pub waits : is_held_back gate.live gate.state gate.waiting ≡ true
  -- the soft commands ascend, and each of them is live or waits
  pub ordered : are_ascending gate.soft ≡ true
  pub soft : All (λ (command : ℕ). is_known command gate ≡ true) gate.soft
