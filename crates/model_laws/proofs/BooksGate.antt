-- The rules of the gate of a book, after a request: no command is twice, and who waits can't be live yet.
use Rattle.std.proofs.Common.{◌≡◌, ◌≢◌, ℕ, ◌==◌, nat_lt, true, false, not, ◌&&◌, List, [], ◌∷◌, ◌++◌, Option, Some, cond, refl, sym, ap, subst, ◌∙◌, map, length, append-nil, append_assoc, arith}
use Rattle.std.specs.List.{All, AllPairs, filter, list_all, list_any}
use Rattle.std.proofs.lemmas.Bool.{and_parts, both_ways, eq-eqb, eqb-true, or_parts}
use Rattle.std.proofs.lemmas.List.{map-append}
use Rattle.std.proofs.lemmas.List.Elements.{All-append, All-map, All-weaker, filter-append}
use Rattle.std.proofs.lemmas.List.Kept.{AllPairs-filter}
use Rattle.std.proofs.lemmas.List.Quantifiers.{all_pairs_push}
use Rattle.mat_model.specs.declared.book.Book.{Book}
use Rattle.mat_model.specs.declared.book.Waiter.{Waiter}
use Rattle.mat_model.specs.declared.requests.Asked.{Asked}
use Rattle.mat_model.specs.Books.{command_of, commands, is_held_back}
use Rattle.mat_model.specs.Gate.{Admitted, Gate, admit, admits, admits_front, admitted, depart, departed, gate_of, is_command, is_known, is_other, is_other_waiter, is_soft, is_state, is_waiter, may_take, one_more}
use Rattle.model_laws.proofs.BooksLists.{none_pass}
use Rattle.model_laws.proofs.Serving.{Changes}

-- nobody waits where a command is admitted at once
no_waiters : (waiters : List Waiter) → (length waiters == 0) ≡ true → waiters ≡ []
no_waiters [] none = refl
no_waiters (waiter ∷ waiters) none =
    let zero : length (waiter ∷ waiters) ≡ 0 = eqb-true (length (waiter ∷ waiters)) 0 none in absurd (omega (arith, zero))

-- a command is admitted at once only where nobody waits
pub admits_alone : (state : ℕ) (gate : Gate) → admits state gate ≡ true → gate.waiting ≡ []
admits_alone state gate may =
    no_waiters gate.waiting
    (and_parts (length gate.waiting == 0) (nat_lt (length gate.live) 64)
    (and_parts ((length gate.waiting == 0) && nat_lt (length gate.live) 64) (is_state state gate.state) may).0).0

-- nor where it takes the place of those that are live
pub takes_alone : (state : ℕ) (gate : Gate) → may_take state gate ≡ true → gate.waiting ≡ []
takes_alone state gate may =
    no_waiters gate.waiting
    (and_parts (length gate.waiting == 0) (not (is_state state gate.state))
    (and_parts ((length gate.waiting == 0) && not (is_state state gate.state)) (list_all (is_soft gate.soft) gate.live) may).0).0

-- a command that a list doesn't have differs from each of the list
differs : (command other : ℕ) → is_command command other ≡ false → other ≢ command
differs command other off same = both_ways (other == command) off (eq-eqb other command same)

-- a command that is neither live nor waits differs from each of the commands
pub all_differ : (command : ℕ) (book : Book) → is_known command (gate_of book) ≡ false →
    All (λ (other : ℕ). other ≢ command) (commands book)
all_differ command book new =
    let parts = or_parts (list_any (is_command command) book.live) (list_any (is_waiter command) book.waiting) new in
    All-append (λ (other : ℕ). other ≢ command) book.live (map command_of book.waiting)
    (All-weaker (λ (other : ℕ). is_command command other ≡ false) (λ (other : ℕ). other ≢ command) (differs command) book.live
    (none_pass (is_command command) book.live parts.0))
    (All-map (λ (other : ℕ). other ≢ command) command_of book.waiting
    (All-weaker (λ (waiter : Waiter). is_waiter command waiter ≡ false) (λ (waiter : Waiter). waiter.command ≢ command)
    (λ (waiter : Waiter) off. differs command waiter.command off) book.waiting (none_pass (is_waiter command) book.waiting parts.1)))

-- the commands of a gate, and that they stay the same, in the same order, where some are admitted
abbrev pub commands_at : Gate → List ℕ
commands_at gate = gate.live ++ map command_of gate.waiting

pub admitted_commands : (waiters : List Waiter) (gate : Gate) → commands_at (admit waiters gate).gate ≡ gate.live ++ map command_of waiters
admitted_commands [] gate = refl
admitted_commands (waiter ∷ waiters) gate =
    elim (admits_front waiter gate) as
    (λ b. commands_at (cond {A = Admitted} b (one_more (admit waiters (admitted waiter gate)))
    (record { count = 0; gate = record gate { waiting = waiter ∷ waiters } })).gate
    ≡ gate.live ++ map command_of (waiter ∷ waiters)) [
      | true ↦ admitted_commands waiters (admitted waiter gate) ∙ append_assoc gate.live (waiter.command ∷ []) (map command_of waiters)
      | false ↦ refl
    ]

-- the waiting commands without one
others_waiting : (command : ℕ) (waiters : List Waiter) →
    map command_of (filter (is_other_waiter command) waiters) ≡ filter (is_other command) (map command_of waiters)
others_waiting command [] = refl
others_waiting command (waiter ∷ waiters) =
    elim (is_other command waiter.command) as
    (λ b. map command_of (cond b (waiter ∷ filter (is_other_waiter command) waiters) (filter (is_other_waiter command) waiters))
    ≡ cond b (waiter.command ∷ filter (is_other command) (map command_of waiters)) (filter (is_other command) (map command_of waiters))) [
      | true ↦ ap (λ (rest : List ℕ). waiter.command ∷ rest) (others_waiting command waiters)
      | false ↦ others_waiting command waiters
    ]

pub departed_commands : (command : ℕ) (gate : Gate) → commands_at (depart command gate).gate ≡ filter (is_other command) (commands_at gate)
departed_commands command gate =
    admitted_commands (departed command gate).waiting (departed command gate)
    ∙ ap (λ (rest : List ℕ). filter (is_other command) gate.live ++ rest) (others_waiting command gate.waiting)
    ∙ sym (filter-append (is_other command) gate.live (map command_of gate.waiting))

-- one command differs from all others of its list
alone_differs : (command : ℕ) → AllPairs ◌≢◌ (command ∷ [])
alone_differs command i j d first second = absurd (omega (arith, first, second))

-- no command is twice
pub asked_once : (number : ℕ) (request : Asked) (book : Book) → AllPairs ◌≢◌ (commands book) →
    Changes (λ (b : Book). AllPairs ◌≢◌ (commands b)) number request book
asked_once number request book once = record {
  same = once;
  enters = λ command state soft refuse is new may.
      let alone : map command_of book.waiting ≡ [] = ap (λ (ws : List Waiter). map command_of ws) (admits_alone state (gate_of book) may) in
      let all : commands book ≡ book.live = ap (λ (rest : List ℕ). book.live ++ rest) alone ∙ append-nil book.live in
      subst (λ (rest : List ℕ). AllPairs ◌≢◌ (book.live ++ command ∷ [] ++ rest)) (sym alone)
      (subst (λ (xs : List ℕ). AllPairs ◌≢◌ xs) (sym (append-nil (book.live ++ command ∷ [])))
      (subst (λ (xs : List ℕ). AllPairs ◌≢◌ (xs ++ command ∷ [])) all
      (all_pairs_push ◌≢◌ (commands book) command once (all_differ command book new))));
  takes = λ command state soft refuse is new may.
      subst (λ (ws : List Waiter). AllPairs ◌≢◌ (command ∷ [] ++ map command_of ws)) (sym (takes_alone state (gate_of book) may)) (alone_differs command);
  queues = λ command state soft refuse is new may told.
      let all : book.live ++ map command_of (book.waiting ++ record { command = command; state = state } ∷ []) ≡ commands book ++ command ∷ [] =
      ap (λ (rest : List ℕ). book.live ++ rest) (map-append command_of book.waiting (record { command = command; state = state } ∷ []))
      ∙ sym (append_assoc book.live (map command_of book.waiting) (command ∷ [])) in
      subst (λ (xs : List ℕ). AllPairs ◌≢◌ xs) (sym all)
      (all_pairs_push ◌≢◌ (commands book) command once (all_differ command book new));
  leaves = λ command is none.
      subst (λ (xs : List ℕ). AllPairs ◌≢◌ xs) (sym (departed_commands command (gate_of book)))
      (AllPairs-filter ◌≢◌ (is_other command) (commands book) once);
  puts = λ command path tree is. once;
  uses = λ at command path. once;
  asks = λ row command path live over lies. once;
  removes = λ gone left opposite disturbed. once;
}

-- once as many as can be are admitted, the front of those who are left can't be live yet
admitted_held : (waiters : List Waiter) (gate : Gate) →
    is_held_back (admit waiters gate).gate.live (admit waiters gate).gate.state (admit waiters gate).gate.waiting ≡ true
admitted_held [] gate = refl
admitted_held (waiter ∷ waiters) gate =
    elim (admits_front waiter gate) as
    (λ b. admits_front waiter gate ≡ b →
    is_held_back (cond {A = Admitted} b (one_more (admit waiters (admitted waiter gate)))
    (record { count = 0; gate = record gate { waiting = waiter ∷ waiters } })).gate.live
    (cond {A = Admitted} b (one_more (admit waiters (admitted waiter gate)))
    (record { count = 0; gate = record gate { waiting = waiter ∷ waiters } })).gate.state
    (cond {A = Admitted} b (one_more (admit waiters (admitted waiter gate)))
    (record { count = 0; gate = record gate { waiting = waiter ∷ waiters } })).gate.waiting ≡ true) [
      | true ↦ λ may. admitted_held waiters (admitted waiter gate)
      | false ↦ λ may. ap not may
    ] refl

-- who comes to wait is behind the front, or was not admitted
queued_held : (live : List ℕ) (now : Option ℕ) (waiters : List Waiter) (waiter : Waiter) → is_held_back live now waiters ≡ true →
    ((length waiters == 0) && nat_lt (length live) 64 && is_state waiter.state now) ≡ false →
    is_held_back live now (waiters ++ waiter ∷ []) ≡ true
queued_held live now [] waiter held may = ap not may
queued_held live now (front ∷ waiters) waiter held may = held

-- who waits can't be live yet
pub asked_held : (number : ℕ) (request : Asked) (book : Book) → is_held_back book.live book.state book.waiting ≡ true →
    Changes (λ (b : Book). is_held_back b.live b.state b.waiting ≡ true) number request book
asked_held number request book held = record {
  same = held;
  enters = λ command state soft refuse is new may.
      subst (λ (ws : List Waiter). is_held_back (book.live ++ command ∷ []) (Some state) ws ≡ true) (sym (admits_alone state (gate_of book) may)) refl;
  takes = λ command state soft refuse is new may.
      subst (λ (ws : List Waiter). is_held_back (command ∷ []) (Some state) ws ≡ true) (sym (takes_alone state (gate_of book) may)) refl;
  queues = λ command state soft refuse is new may told. queued_held book.live book.state book.waiting (record { command = command; state = state }) held may;
  leaves = λ command is none. admitted_held (departed command (gate_of book)).waiting (departed command (gate_of book));
  puts = λ command path tree is. held;
  uses = λ at command path. held;
  asks = λ row command path live over lies. held;
  removes = λ gone left opposite disturbed. held;
}
