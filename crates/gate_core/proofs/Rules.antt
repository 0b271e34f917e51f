-- The rules of a gate are kept by whoever comes and goes.
use Rattle.std.proofs.Common.{◌≡◌, ◌+◌, ◌<◌, ◌≤◌, ℕ, ◌==◌, nat_lt, Bool, true, false, ◌&&◌, ◌||◌, List, [], ◌∷◌, ◌++◌, Option, Some, None, cond, refl, sym, ap, subst, ◌∙◌, map, length, length-append, arith}
use Rattle.std.specs.List.{filter, list_any}
use Rattle.std.proofs.lemmas.Bool.{and_parts, ltb-false}
use Rattle.std.proofs.lemmas.Bool.Decides.{nat_tests}
use Rattle.std.proofs.lemmas.List.Elements.{All-nil, All-weaker}
use Rattle.std.proofs.lemmas.List.Folds.{list_any-append}
use Rattle.mat_model.specs.declared.answers.Limit.TheVariants as limit
use Rattle.mat_model.specs.declared.answers.Reply.TheVariants as reply
use Rattle.mat_model.specs.declared.book.Book.{Book}
use Rattle.mat_model.specs.declared.book.Waiter.{Waiter}
use Rattle.mat_model.specs.declared.requests.Asked.TheVariants as asked
use Rattle.mat_model.specs.Books.{IsAsking, IsAwaited, IsBook, IsSummed, command_of}
use Rattle.mat_model.specs.Gate.{Admitted, Gate, Passed, Served, admit, admits, admits_front, admitted, depart, departed, gate_of, is_command, is_known, is_other_waiter, is_state, is_waiter, may_take, one_more, other_state, pass, turn_away}
use Rattle.mat_model.specs.Requests.{RequestContext, leave_with}
use Rattle.mat_model.specs.Room.{waits_past}
use Rattle.model_laws.proofs.BooksGate.{takes_alone}
use Rattle.model_laws.proofs.BooksKept.{serve_rules}
use Rattle.model_laws.proofs.ListTests.{filter_le}
use Rattle.gate_core.specs.Gates.{IsGate, commands_of, enter, leave}
use Rattle.gate_core.specs.Lists.{IsRoomy, IsSound, gate_in}
use Rattle.gate_core.specs.declared.lists.Lists.{Lists}
use Rattle.gate_core.proofs.Ascending.{no_more}

-- ---- how many are soft

waits_among : (command : ℕ) (waiting : List Waiter) → list_any (is_waiter command) waiting ≡ list_any (is_command command) (map command_of waiting)
waits_among command [] = refl
waits_among command (waiter ∷ waiting) = ap (λ (b : Bool). (waiter.command == command) || b) (waits_among command waiting)

known_among : (command : ℕ) (gate : Gate) → is_known command gate ≡ true → list_any (is_command command) (commands_of gate) ≡ true
known_among command gate known =
    list_any-append (is_command command) gate.live (map command_of gate.waiting)
    ∙ ap (λ (b : Bool). list_any (is_command command) gate.live || b) (sym (waits_among command gate.waiting)) ∙ known

length_mapped : (waiting : List Waiter) → length (map command_of waiting) ≡ length waiting
length_mapped [] = refl
length_mapped (waiter ∷ waiting) = let rest = length_mapped waiting in omega (arith, rest)

-- there are no more soft commands than commands
pub few_soft : (gate : Gate) → IsGate gate → length gate.soft ≤ length gate.live + length gate.waiting
few_soft gate rules =
    let bound : length gate.soft ≤ length (commands_of gate) =
    no_more gate.soft (commands_of gate) rules.ordered
    (All-weaker (λ (c : ℕ). is_known c gate ≡ true) (λ (c : ℕ). list_any (is_command c) (commands_of gate) ≡ true) (λ c known. known_among c gate known) gate.soft rules.soft) in
    let sum : length (commands_of gate) ≡ length gate.live + length (map command_of gate.waiting) = length-append gate.live (map command_of gate.waiting) in
    let same = length_mapped gate.waiting in omega (arith, bound, sum, same)

-- there is room for one more soft command where one is admitted, takes the place of others, or waits
pub free_come : (state : ℕ) (gate : Gate) → IsGate gate → admits state gate ≡ true → length gate.soft < 128
free_come state gate rules may =
    let soft = few_soft gate rules in
    let short : length gate.waiting ≤ 64 = rules.short in
    let less : nat_lt (length gate.live) 64 ≡ true =
    (and_parts (length gate.waiting == 0) (nat_lt (length gate.live) 64)
    (and_parts ((length gate.waiting == 0) && nat_lt (length gate.live) 64) (is_state state gate.state) may).0).1 in
    let few : length gate.live < 64 = grind (arith, nat_tests, less) in
    omega (arith, soft, short, few)

pub free_take : (state : ℕ) (gate : Gate) → IsGate gate → may_take state gate ≡ true → length gate.soft < 128
free_take state gate rules may =
    let soft = few_soft gate rules in
    let few : length gate.live ≤ 64 = rules.few in
    let none : length gate.waiting ≡ 0 = ap (λ (waiters : List Waiter). length waiters) (takes_alone state gate may) in omega (arith, soft, few, none)

pub free_queue : (gate : Gate) → IsGate gate → length gate.waiting < 64 → length gate.soft < 128
free_queue gate rules short = let soft = few_soft gate rules in let few : length gate.live ≤ 64 = rules.few in omega (arith, soft, short, few)

-- ---- the gate of a book with nothing else

abbrev bare : Gate → Book
bare gate = record {
  first = 0;
  now = 0;
  state = gate.state;
  live = gate.live;
  waiting = gate.waiting;
  soft = gate.soft;
  rows = [];
  holds = [];
  tickets = [];
}

bare_rules : (gate : Gate) → IsGate gate → IsBook 0 (bare gate)
bare_rules gate rules = record {
  apart = refl;
  sums = All-nil IsSummed;
  once = rules.once;
  few = rules.few;
  state = rules.state;
  waits = rules.waits;
  ordered = rules.ordered;
  soft = rules.soft;
  holds = λ i j d first second. absurd (omega (arith, first, second));
  ascending = λ i j d first second. absurd (omega (arith, first, second));
  below = All-nil (λ (number : ℕ). number < 0);
  asking = All-nil (IsAsking gate.live);
  covered = All-nil (IsAwaited []);
}

gate_rules : (number : ℕ) (book : Book) → IsBook number book → length book.waiting ≤ 64 → IsGate (gate_of book)
gate_rules number book rules short = record {
  once = rules.once;
  few = rules.few;
  short = short;
  state = rules.state;
  waits = rules.waits;
  ordered = rules.ordered;
  soft = rules.soft;
}

abbrev nothing_due : RequestContext
nothing_due = record { strays = []; due = 0 }

-- ---- who comes

either : (P : Passed → Type 0) (b : Bool) (one other : Passed) → P one → P other → P (cond b one other)
either P true one other is also = is
either P false one other is also = also

-- the queue stays short unless a command waits past its last place
passed_short : (command state : ℕ) (soft refuse : Bool) (gate : Gate) → length gate.waiting ≤ 64 →
    waits_past (pass command state soft refuse gate).reply ≡ false → length (pass command state soft refuse gate).gate.waiting ≤ 64
passed_short command state soft refuse gate short =
    either P (is_known command gate) _ _ (λ within. short)
    (either P (admits state gate) _ _ (λ within. short)
    (either P (may_take state gate) _ _ (λ within. short) (away refuse (other_state state gate.state))))
  where
    P : Passed → Type 0
    P through = waits_past through.reply ≡ false → length through.gate.waiting ≤ 64

    queued : nat_lt 64 (length gate.waiting + 1) ≡ false → length (gate.waiting ++ record { command = command; state = state } ∷ []) ≤ 64
    queued within =
        let few : length gate.waiting + 1 ≤ 64 = ltb-false 64 (length gate.waiting + 1) within in
        subst (λ (n : ℕ). n ≤ 64) (sym (length-append gate.waiting (record { command = command; state = state } ∷ []))) few

    away : (r : Bool) (other : Option ℕ) → P (turn_away command state soft r other gate)
    away true (Some live) = λ within. short
    away true None = queued
    away false other = queued

passed_rules : (command state : ℕ) (soft refuse : Bool) (gate : Gate) → IsGate gate → waits_past (pass command state soft refuse gate).reply ≡ false →
    IsGate (pass command state soft refuse gate).gate
passed_rules command state soft refuse gate rules within =
    gate_rules 1 _ (serve_rules 0 0 nothing_due (asked.Enter command state soft refuse) (bare gate) (bare_rules gate rules))
    (passed_short command state soft refuse gate rules.short within)

pub entered_rules : (command state : ℕ) (soft refuse : Bool) (gate : Gate) → IsGate gate → IsGate (enter command state soft refuse gate).gate
entered_rules command state soft refuse gate rules =
    elim (waits_past (pass command state soft refuse gate).reply) as
    (λ b. waits_past (pass command state soft refuse gate).reply ≡ b →
    IsGate (cond {A = Passed} b (record { reply = reply.Full limit.Waiting; took = false; gate = gate }) (pass command state soft refuse gate)).gate)
    [ true ↦ λ past. rules | false ↦ passed_rules command state soft refuse gate rules ] refl

-- ---- who goes

admitted_fewer : (waiters : List Waiter) (gate : Gate) → length (admit waiters gate).gate.waiting ≤ length waiters
admitted_fewer [] gate = omega arith
admitted_fewer (waiter ∷ waiters) gate =
    let more : length (admit waiters (admitted waiter gate)).gate.waiting ≤ length waiters = admitted_fewer waiters (admitted waiter gate) in
    elim (admits_front waiter gate) as
    (λ b. length (cond {A = Admitted} b (one_more (admit waiters (admitted waiter gate)))
    (record { count = 0; gate = record gate { waiting = waiter ∷ waiters } })).gate.waiting ≤ length (waiter ∷ waiters))
    [ true ↦ omega (arith, more) | false ↦ omega arith ]

-- who goes leaves a short queue
pub departed_short : (command : ℕ) (gate : Gate) → IsGate gate → length (departed command gate).waiting ≤ 64
departed_short command gate rules =
    let fewer : length (filter (is_other_waiter command) gate.waiting) ≤ length gate.waiting = filter_le (is_other_waiter command) gate.waiting in
    let short : length gate.waiting ≤ 64 = rules.short in omega (arith, fewer, short)

departed_rules : (command : ℕ) (gate : Gate) → IsGate gate → is_known command gate ≡ true → IsGate (depart command gate).gate
departed_rules command gate rules known =
    let left : Served = leave_with 0 command (bare gate) in
    let kept : IsBook 1 left.book =
    subst (λ (b : Bool). IsBook 1 (cond {A = Served} b left (record { reply = reply.Unknown; book = bare gate })).book) known
    (serve_rules 0 0 nothing_due (asked.Leave command) (bare gate) (bare_rules gate rules)) in
    let fewer : length (departed command gate).waiting ≤ 64 = departed_short command gate rules in
    let less : length (depart command gate).gate.waiting ≤ length (departed command gate).waiting = admitted_fewer (departed command gate).waiting (departed command gate) in
    gate_rules 1 left.book kept (omega (arith, fewer, less))

pub left_rules : (command : ℕ) (gate : Gate) → IsGate gate → IsGate (leave command gate)
left_rules command gate rules =
    elim (is_known command gate) as (λ b. is_known command gate ≡ b → IsGate (cond b (depart command gate).gate gate))
    [ true ↦ departed_rules command gate rules | false ↦ λ new. rules ] refl

-- ---- lists

pub entered_sound : (old new : Lists) (command state : ℕ) (soft refuse : Bool) → IsSound old → IsRoomy new →
    gate_in new ≡ (enter command state soft refuse (gate_in old)).gate → IsSound new
entered_sound old new command state soft refuse sound room is = record {
  rules = subst IsGate (sym is) (entered_rules command state soft refuse (gate_in old) sound.rules);
  room = room;
}

pub left_sound : (old new : Lists) (command : ℕ) → IsSound old → IsRoomy new → gate_in new ≡ leave command (gate_in old) → IsSound new
left_sound old new command sound room is = record {
  rules = subst IsGate (sym is) (left_rules command (gate_in old) sound.rules);
  room = room;
}

pub departed_queue : (old new : Lists) (command : ℕ) → IsGate (gate_in old) → gate_in new ≡ departed command (gate_in old) → length new.waiting.items ≤ 64
departed_queue old new command rules is =
    subst (λ (gate : Gate). length gate.waiting ≤ 64) (sym is) (departed_short command (gate_in old) rules)
