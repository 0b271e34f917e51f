-- The gate stays sound after a request, the end of a job and a history: at most 64 commands are live, and on a state exactly where one is.
use Rattle.std.proofs.Common.{◌≡◌, ℕ, ◌==◌, ◌<◌, ◌≤◌, nat_lt, Bool, true, false, ◌&&◌, List, [], ◌∷◌, ◌++◌, length, Option, cond, refl, sym, subst, ◌∙◌, arith, length-append}
use Rattle.std.specs.List.{filter}
use Rattle.std.specs.Option.{is_none}
use Rattle.std.proofs.lemmas.Bool.{and_parts}
use Rattle.std.proofs.lemmas.Bool.Decides.{nat_tests}
use Rattle.mat_model.specs.declared.answers.Recorded.{Recorded}
use Rattle.mat_model.specs.declared.book.Book.{Book}
use Rattle.mat_model.specs.declared.book.Waiter.{Waiter}
use Rattle.mat_model.specs.declared.entries.Entry.{Entry}
use Rattle.mat_model.specs.declared.entries.Outcome.{Outcome}
use Rattle.mat_model.specs.declared.entries.Task.{Task}
use Rattle.mat_model.specs.declared.requests.Asked.{Asked}
use Rattle.mat_model.specs.Gate.{Admitted, admit, admits_front, admitted, departed, is_nobody, is_other, is_state, one_more, state_of, Gate, gate_of}
use Rattle.mat_model.specs.Requests.{RequestContext, at_moment, serve}
use Rattle.mat_model.specs.Work.{finish}
use Rattle.mat_model.specs.History.{Point, after, after_all, request_context, next_number}
use Rattle.model_laws.specs.Laws.{IsGated}
use Rattle.model_laws.proofs.Serving.{Changes, asked_by, ended_beside, ended_by}
use Rattle.model_laws.proofs.HistoryLemmas.{after_event}
use Rattle.model_laws.proofs.ListTests.{filter_le}

-- one more command is live where fewer than 64 are
one_more_live : (live : List ℕ) (command : ℕ) → nat_lt (length live) 64 ≡ true → length (live ++ command ∷ []) ≤ 64
one_more_live live command few =
    let more : length live < 64 = grind (arith, nat_tests, few) in
    subst (λ (n : ℕ). n ≤ 64) (sym (length-append live (command ∷ []))) (omega (arith, more))

somebody : (live : List ℕ) (command : ℕ) → false ≡ is_nobody (live ++ command ∷ [])
somebody [] command = refl
somebody (other ∷ live) command = refl

nobody_else : (p : ℕ → Bool) (live : List ℕ) (state : Option ℕ) → is_none state ≡ is_nobody live →
    is_none (state_of (filter p live) state) ≡ is_nobody (filter p live)
nobody_else p live state fits =
    elim (filter p live) as (λ left. filter p live ≡ left → is_none (state_of left state) ≡ is_nobody left) [
      | [] ↦ λ is. refl
      | command ∷ left ↦ λ is. fits ∙ was_somebody live command left is
    ] refl
  where
    was_somebody : (all : List ℕ) (command : ℕ) (left : List ℕ) → filter p all ≡ command ∷ left → is_nobody all ≡ false
    was_somebody [] command left is = absurd cc
    was_somebody (other ∷ all) command left is = refl

-- at most 64 commands of a gate are live, and there is no state exactly where nobody is
abbrev IsGatedAt : Gate → Type 0
IsGatedAt gate = (length gate.live ≤ 64) × (is_none gate.state ≡ is_nobody gate.live)

-- who goes leaves the gate sound
departed_gated : (command : ℕ) (gate : Gate) → IsGatedAt gate → IsGatedAt (departed command gate)
departed_gated command gate gated =
    let fewer : length (filter (is_other command) gate.live) ≤ length gate.live = filter_le (is_other command) gate.live in
    let few : length gate.live ≤ 64 = gated.0 in
    (omega (arith, fewer, few), nobody_else (is_other command) gate.live gate.state gated.1)

-- and so do those who are admitted
admit_gated : (waiters : List Waiter) (gate : Gate) → IsGatedAt gate → IsGatedAt (admit waiters gate).gate
admit_gated [] gate gated = gated
admit_gated (waiter ∷ waiters) gate gated =
    elim (admits_front waiter gate) as
    (λ b. admits_front waiter gate ≡ b →
    IsGatedAt (cond {A = Admitted} b (one_more (admit waiters (admitted waiter gate)))
    (record { count = 0; gate = record gate { waiting = waiter ∷ waiters } })).gate) [
      | true ↦ λ may. admit_gated waiters (admitted waiter gate) (
        one_more_live gate.live waiter.command (and_parts (nat_lt (length gate.live) 64) (is_state waiter.state gate.state) may).0,
        somebody gate.live waiter.command,
      )
      | false ↦ λ may. gated
    ] refl

-- in each case that a request may come to, the gate stays sound
asked_gated : (number : ℕ) (request : Asked) (book : Book) → IsGated book → Changes IsGated number request book
asked_gated number request book gated = record {
  same = gated;
  enters = λ command state soft refuse is new may. (
    one_more_live book.live command
        (and_parts (length book.waiting == 0) (nat_lt (length book.live) 64)
        (and_parts ((length book.waiting == 0) && nat_lt (length book.live) 64) (is_state state book.state) may).0).1,
    somebody book.live command,
  );
  takes = λ command state soft refuse is new may. (omega arith, refl);
  queues = λ command state soft refuse is new may told. gated;
  leaves = λ command is none.
      admit_gated (departed command (gate_of book)).waiting (departed command (gate_of book)) (departed_gated command (gate_of book) gated);
  puts = λ command path tree is. gated;
  uses = λ at command path. gated;
  asks = λ row command path live over lies. gated;
  removes = λ gone left opposite disturbed. gated;
}

-- a request keeps the gate sound
pub serve_gated : (number moment : ℕ) (context : RequestContext) (request : Asked) (book : Book) → IsGated book → IsGated (serve number moment context request book).book
serve_gated number moment context request book gated =
    asked_by IsGated number context request (at_moment moment book) (asked_gated number request (at_moment moment book) gated)

-- the end of a job keeps the gate sound
pub finish_gated : (number : ℕ) (task : Task) (out : Outcome) (how : Recorded) (book : Book) → IsGated book → IsGated (finish number task out how book).book
finish_gated number task out how book gated =
    ended_by IsGated number task out how book (ended_beside IsGated number book (λ rows tickets. gated))

-- a history keeps the gate sound
pub history_gated : (point : Point) (later : List Entry) → IsGated point.book → IsGated (after_all point later).book
history_gated point [] gated = gated
history_gated point (entry ∷ later) gated =
    history_gated (after point entry) later
    (after_event IsGated point entry.now entry.event entry.reply (record {
      same = gated;
      later = gated;
      asks = λ request is. serve_gated (next_number point) entry.now (request_context point) request point.book gated;
      refuses = λ begun note. gated;
      ends = λ task out how. finish_gated (next_number point) task out how point.book gated;
    }))
