-- The lists of a gate, and their room.
use Rattle.std.specs.Prelude.{◌≤◌, if◌then◌else◌, List, [], ◌∷◌, Option, Some, None}
use Rattle.std.specs.Vec.{vec_capacity}
use Rattle.std.specs.VecDeque.{deque_capacity}
use Rattle.mat_model.specs.declared.book.Waiter.{Waiter}
use Rattle.mat_model.specs.Gate.{Admitted, Gate, admit, admits_front, admitted}
use Rattle.gate_core.specs.Gates.{IsGate}
use Rattle.gate_core.specs.declared.lists.Lists.{Lists}

-- the gate that lists are
abbrev pub gate_in : Lists → Gate
gate_in lists = record { live = lists.live.items; state = lists.state; waiting = lists.waiting.items; soft = lists.soft.items }

-- there is room for 64 live commands, 64 that wait, and 128 soft ones
pub record IsRoomy (lists : Lists) : Type 0 where
  pub live : 64 ≤ vec_capacity lists.live
  pub waiting : 64 ≤ deque_capacity lists.waiting
  pub soft : 128 ≤ vec_capacity lists.soft

-- what the lists of a gate keep
pub record IsSound (lists : Lists) : Type 0 where
  pub rules : IsGate (gate_in lists)
  pub room : IsRoomy lists

-- the gate once the front of a queue is live, if it may be
abbrev pub front_admitted : List Waiter → Gate → Option Gate
front_admitted [] gate = None
front_admitted (waiter ∷ waiters) gate =
    if admits_front waiter gate then Some (admitted waiter (record gate { waiting = waiters })) else None

abbrev pub admit_first : Gate → Option Gate
admit_first gate = front_admitted gate.waiting gate

-- all of the queue who may be live are, and how many those are
abbrev pub admit_all : Gate → Admitted
admit_all gate = admit gate.waiting gate
