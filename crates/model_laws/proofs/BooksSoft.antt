-- The rules of the soft commands of a book, after a request: they ascend, and each of them is live or waits.
use Rattle.std.proofs.Common.{◌≡◌, ℕ, ◌==◌, nat_lt, Bool, true, false, not, ◌||◌, List, [], ◌∷◌, ◌++◌, cond, refl, sym, ap, ap₂, subst, ◌∙◌, map, arith, Some}
use Rattle.std.specs.List.{All, filter, list_all, list_any}
use Rattle.std.proofs.lemmas.Bool.{and_from, and_parts, both_ways, or_left, or_parts}
use Rattle.std.proofs.lemmas.Bool.Decides.{nat_tests}
use Rattle.std.proofs.lemmas.List.Elements.{All-cons, All-head, All-nil, All-tail, All-weaker}
use Rattle.std.proofs.lemmas.List.Folds.{list_any-append}
use Rattle.mat_model.specs.declared.book.Book.{Book}
use Rattle.mat_model.specs.declared.book.Waiter.{Waiter}
use Rattle.mat_model.specs.declared.requests.Asked.{Asked}
use Rattle.mat_model.specs.Books.{IsCommandOf, are_ascending, command_of}
use Rattle.mat_model.specs.Gate.{Admitted, Gate, admit, admits_front, admitted, come, depart, departed, gate_of, is_beside, is_command, is_known, is_other, is_waiter, one_more, put_number, take_over, wait, with_soft}
use Rattle.model_laws.proofs.BooksGate.{commands_at, departed_commands, takes_alone}
use Rattle.model_laws.proofs.BooksLists.{any_contains, contains_any}
use Rattle.mat_path.proofs.Elements.{contains_filter}
use Rattle.model_laws.proofs.Serving.{Changes}

-- ---- numbers that ascend

-- what is greater than a number is greater than each less one
all_greater : (m n : ℕ) (ns : List ℕ) → nat_lt m n ≡ true → list_all (nat_lt n) ns ≡ true → list_all (nat_lt m) ns ≡ true
all_greater m n [] less all = refl
all_greater m n (x ∷ xs) less all =
    let parts = and_parts (nat_lt n x) (list_all (nat_lt n) xs) all in
    let here : nat_lt m x ≡ true = grind (arith, nat_tests, less, parts.0) in
    and_from (nat_lt m x) (list_all (nat_lt m) xs) here (all_greater m n xs less parts.1)

-- a test that a number passes and all others do is passed by all once it is put among them
all_put : (p : ℕ → Bool) (n : ℕ) (ns : List ℕ) → p n ≡ true → list_all p ns ≡ true → list_all p (put_number n ns) ≡ true
all_put p n [] here all = and_from (p n) true here refl
all_put p n (x ∷ xs) here all =
    let parts = and_parts (p x) (list_all p xs) all in
    elim (nat_lt n x) as (λ b. list_all p (cond b (n ∷ x ∷ xs) (x ∷ put_number n xs)) ≡ true) [
      | true ↦ and_from (p n) (list_all p (x ∷ xs)) here all
      | false ↦ and_from (p x) (list_all p (put_number n xs)) parts.0 (all_put p n xs here parts.1)
    ]

-- a number that isn't among ascending ones is put among them so that they ascend
put_ascending : (n : ℕ) (ns : List ℕ) → list_any (is_command n) ns ≡ false → are_ascending ns ≡ true → are_ascending (put_number n ns) ≡ true
put_ascending n [] new up = refl
put_ascending n (x ∷ xs) new up =
    let others = or_parts (x == n) (list_any (is_command n) xs) new in
    let parts = and_parts (list_all (nat_lt x) xs) (are_ascending xs) up in
    elim (nat_lt n x) as (λ b. nat_lt n x ≡ b → are_ascending (cond b (n ∷ x ∷ xs) (x ∷ put_number n xs)) ≡ true) [
      | true ↦ λ less.
          and_from (list_all (nat_lt n) (x ∷ xs)) (are_ascending (x ∷ xs))
          (and_from (nat_lt n x) (list_all (nat_lt n) xs) less (all_greater n x xs less parts.0)) up
      | false ↦ λ more.
          let here : nat_lt x n ≡ true = grind (arith, nat_tests, more, others.0) in
          and_from (list_all (nat_lt x) (put_number n xs)) (are_ascending (put_number n xs))
          (all_put (nat_lt x) n xs here parts.0) (put_ascending n xs others.1 parts.1)
    ] refl

-- some of ascending numbers ascend
all_some : (p q : ℕ → Bool) (ns : List ℕ) → list_all p ns ≡ true → list_all p (filter q ns) ≡ true
all_some p q [] all = refl
all_some p q (x ∷ xs) all =
    let parts = and_parts (p x) (list_all p xs) all in
    elim (q x) as (λ b. list_all p (cond b (x ∷ filter q xs) (filter q xs)) ≡ true)
    [ true ↦ and_from (p x) (list_all p (filter q xs)) parts.0 (all_some p q xs parts.1) | false ↦ all_some p q xs parts.1 ]

some_ascending : (q : ℕ → Bool) (ns : List ℕ) → are_ascending ns ≡ true → are_ascending (filter q ns) ≡ true
some_ascending q [] up = refl
some_ascending q (x ∷ xs) up =
    let parts = and_parts (list_all (nat_lt x) xs) (are_ascending xs) up in
    elim (q x) as (λ b. are_ascending (cond b (x ∷ filter q xs) (filter q xs)) ≡ true) [
      | true ↦ and_from (list_all (nat_lt x) (filter q xs)) (are_ascending (filter q xs)) (all_some (nat_lt x) q xs parts.0) (some_ascending q xs parts.1)
      | false ↦ some_ascending q xs parts.1
    ]

-- what is true of a number and of each other is true of each once it is put among them
each_put : (P : ℕ → Type 0) (n : ℕ) (ns : List ℕ) → P n → All P ns → All P (put_number n ns)
each_put P n [] here all = All-cons P n [] here all
each_put P n (x ∷ xs) here all =
    elim (nat_lt n x) as (λ b. All P (cond b (n ∷ x ∷ xs) (x ∷ put_number n xs))) [
      | true ↦ All-cons P n (x ∷ xs) here all
      | false ↦ All-cons P x (put_number n xs) (All-head P x xs all) (each_put P n xs here (All-tail P x xs all))
    ]

-- ---- commands of a gate

-- the soft commands of a book ascend, and each is live or waits
abbrev pub AreSoft : Book → Type 0
AreSoft book = (are_ascending book.soft ≡ true) × All (IsCommandOf book) book.soft

-- the same of a gate
abbrev AreSoftAt : Gate → Type 0
AreSoftAt gate = (are_ascending gate.soft ≡ true) × All (λ (command : ℕ). is_known command gate ≡ true) gate.soft

-- a number is itself
number_itself : (n : ℕ) → (n == n) ≡ true
number_itself n = grind (arith, nat_tests)

-- a command that is known at a gate is known where the live ones or the waiting ones are more
known_more : (command : ℕ) (gate : Gate) (live : List ℕ) (waiting : List Waiter) → is_known command gate ≡ true →
    is_known command (record gate { live = gate.live ++ live; waiting = gate.waiting ++ waiting }) ≡ true
known_more command gate live waiting is =
    ap₂ (λ (s t : Bool). s || t) (list_any-append (is_command command) gate.live live) (list_any-append (is_waiter command) gate.waiting waiting)
    ∙ wider (list_any (is_command command) gate.live) (list_any (is_command command) live) (list_any (is_waiter command) gate.waiting)
    (list_any (is_waiter command) waiting) is
  where
    wider : (a b c d : Bool) → (a || c) ≡ true → ((a || b) || (c || d)) ≡ true
    wider true b c d is = refl
    wider false true c d is = refl
    wider false false true d is = refl
    wider false false false d is = cc

-- a soft command that comes is known, and those that were soft are as before
soft_more : (command : ℕ) (soft : Bool) (old new : Gate) → new.soft ≡ with_soft soft command old.soft → list_any (is_command command) old.soft ≡ false →
    is_known command new ≡ true → ((other : ℕ) → is_known other old ≡ true → is_known other new ≡ true) → AreSoftAt old → AreSoftAt new
soft_more command true old new is fresh known keeps rules = (
  ap are_ascending is ∙ put_ascending command old.soft fresh rules.0,
  subst (λ (cs : List ℕ). All (λ (c : ℕ). is_known c new ≡ true) cs) (sym is)
      (each_put (λ (c : ℕ). is_known c new ≡ true) command old.soft known
      (All-weaker (λ (c : ℕ). is_known c old ≡ true) (λ (c : ℕ). is_known c new ≡ true) keeps old.soft rules.1)),
)
soft_more command false old new is fresh known keeps rules = (
  ap are_ascending is ∙ rules.0,
  subst (λ (cs : List ℕ). All (λ (c : ℕ). is_known c new ≡ true) cs) (sym is)
      (All-weaker (λ (c : ℕ). is_known c old ≡ true) (λ (c : ℕ). is_known c new ≡ true) keeps old.soft rules.1),
)

-- a command that isn't known isn't soft
not_soft : (command : ℕ) (gate : Gate) (soft : List ℕ) → is_known command gate ≡ false → All (λ (c : ℕ). is_known c gate ≡ true) soft →
    list_any (is_command command) soft ≡ false
not_soft command gate [] new all = refl
not_soft command gate (c ∷ soft) new all =
    elim (c == command) as (λ b. (c == command) ≡ b → (b || list_any (is_command command) soft) ≡ false) [
      | true ↦ λ same.
          let at : c ≡ command = grind (arith, nat_tests, same) in
          absurd (both_ways (is_known command gate) new
          (subst (λ (x : ℕ). is_known x gate ≡ true) at (All-head (λ (x : ℕ). is_known x gate ≡ true) c soft all)))
      | false ↦ λ other. not_soft command gate soft new (All-tail (λ (x : ℕ). is_known x gate ≡ true) c soft all)
    ] refl

-- a command is known where it is among the commands of a gate
waiter_commands : (command : ℕ) (waiting : List Waiter) →
    list_any (is_command command) (map command_of waiting) ≡ list_any (is_waiter command) waiting
waiter_commands command [] = refl
waiter_commands command (waiter ∷ waiting) = ap (λ (b : Bool). (waiter.command == command) || b) (waiter_commands command waiting)

known_among : (command : ℕ) (gate : Gate) → list_any (is_command command) (commands_at gate) ≡ is_known command gate
known_among command gate =
    list_any-append (is_command command) gate.live (map command_of gate.waiting)
    ∙ ap (λ (b : Bool). list_any (is_command command) gate.live || b) (waiter_commands command gate.waiting)

-- a command stays known where another one goes
known_left : (command other : ℕ) (gate : Gate) → is_known other gate ≡ true → is_other command other ≡ true → is_known other (depart command gate).gate ≡ true
known_left command other gate known differs =
    let one = any_contains (is_command other) (commands_at gate) (known_among other gate ∙ known) in
    let same : one.0 ≡ other = grind (arith, nat_tests, one.2) in
    let stays : is_other command one.0 ≡ true = subst (λ (c : ℕ). is_other command c ≡ true) (sym same) differs in
    sym (known_among other (depart command gate).gate)
    ∙ ap (λ (cs : List ℕ). list_any (is_command other) cs) (departed_commands command gate)
    ∙ contains_any (is_command other) (filter (is_other command) (commands_at gate)) one.0
    (contains_filter (is_other command) (commands_at gate) one.0 stays one.1) one.2

-- who is admitted leaves the soft commands
admitted_soft : (waiters : List Waiter) (gate : Gate) → (admit waiters gate).gate.soft ≡ gate.soft
admitted_soft [] gate = refl
admitted_soft (waiter ∷ waiters) gate =
    elim (admits_front waiter gate) as
    (λ b. (cond {A = Admitted} b (one_more (admit waiters (admitted waiter gate)))
    (record { count = 0; gate = record gate { waiting = waiter ∷ waiters } })).gate.soft ≡ gate.soft)
    [ true ↦ admitted_soft waiters (admitted waiter gate) | false ↦ refl ]

-- the others among commands that are known are known where one goes
others_known : (command : ℕ) (gate : Gate) (soft : List ℕ) → All (λ (c : ℕ). is_known c gate ≡ true) soft →
    All (λ (c : ℕ). is_known c (depart command gate).gate ≡ true) (filter (is_other command) soft)
others_known command gate [] all = All-nil (λ (c : ℕ). is_known c (depart command gate).gate ≡ true)
others_known command gate (c ∷ soft) all =
    let rest = others_known command gate soft (All-tail (λ (x : ℕ). is_known x gate ≡ true) c soft all) in
    let here : is_known c gate ≡ true = All-head (λ (x : ℕ). is_known x gate ≡ true) c soft all in
    elim (is_other command c) as
    (λ b. is_other command c ≡ b →
    All (λ (x : ℕ). is_known x (depart command gate).gate ≡ true) (cond b (c ∷ filter (is_other command) soft) (filter (is_other command) soft))) [
      | true ↦ λ other.
          All-cons (λ (x : ℕ). is_known x (depart command gate).gate ≡ true) c (filter (is_other command) soft) (known_left command c gate here other) rest
      | false ↦ λ gone. rest
    ] refl

-- ---- requests

came : (command state : ℕ) (soft : Bool) (gate : Gate) → is_known command gate ≡ false → AreSoftAt gate → AreSoftAt (come command state soft gate)
came command state soft gate new rules =
    soft_more command soft gate (come command state soft gate) refl (not_soft command gate gate.soft new rules.1)
    (or_left _ (list_any (is_waiter command) gate.waiting)
    (list_any-append (is_command command) gate.live (command ∷ [])
    ∙ last (list_any (is_command command) gate.live) (command == command) (number_itself command)))
    (λ other known. subst (λ (ws : List Waiter). (list_any (is_command other) (gate.live ++ command ∷ []) || list_any (is_waiter other) ws) ≡ true)
    (append_nothing gate.waiting) (known_more other gate (command ∷ []) [] known))
    rules
  where
    last : (a b : Bool) → b ≡ true → (a || (b || false)) ≡ true
    last true b is = refl
    last false true is = refl
    last false false is = cc

    append_nothing : (ws : List Waiter) → ws ++ [] ≡ ws
    append_nothing [] = refl
    append_nothing (w ∷ ws) = ap (λ (rest : List Waiter). w ∷ rest) (append_nothing ws)

waited : (command state : ℕ) (soft : Bool) (gate : Gate) → is_known command gate ≡ false → AreSoftAt gate → AreSoftAt (wait command state soft gate)
waited command state soft gate new rules =
    soft_more command soft gate (wait command state soft gate) refl (not_soft command gate gate.soft new rules.1)
    (ap (λ (b : Bool). list_any (is_command command) gate.live || b)
    (list_any-append (is_waiter command) gate.waiting (record { command = command; state = state } ∷ []))
    ∙ last (list_any (is_command command) gate.live) (list_any (is_waiter command) gate.waiting) (command == command) (number_itself command))
    (λ other known. subst (λ (cs : List ℕ). (list_any (is_command other) cs
    || list_any (is_waiter other) (gate.waiting ++ record { command = command; state = state } ∷ [])) ≡ true)
    (append_nothing gate.live) (known_more other gate [] (record { command = command; state = state } ∷ []) known))
    rules
  where
    last : (a b c : Bool) → c ≡ true → (a || (b || (c || false))) ≡ true
    last true b c is = refl
    last false true c is = refl
    last false false true is = refl
    last false false false is = cc

    append_nothing : (cs : List ℕ) → cs ++ [] ≡ cs
    append_nothing [] = refl
    append_nothing (c ∷ cs) = ap (λ (rest : List ℕ). c ∷ rest) (append_nothing cs)

-- nobody who was soft is left where a command takes the place of all that are live
none_beside : (gate : Gate) → gate.waiting ≡ [] → (soft : List ℕ) → All (λ (c : ℕ). is_known c gate ≡ true) soft → filter (is_beside gate.live) soft ≡ []
none_beside gate alone [] all = refl
none_beside gate alone (c ∷ soft) all =
    let rest = none_beside gate alone soft (All-tail (λ (x : ℕ). is_known x gate ≡ true) c soft all) in
    let here : (list_any (is_command c) gate.live || list_any (is_waiter c) gate.waiting) ≡ true =
    All-head (λ (x : ℕ). is_known x gate ≡ true) c soft all in
    let live : list_any (is_command c) gate.live ≡ true =
    first (list_any (is_command c) gate.live) (ap (λ (ws : List Waiter). list_any (is_command c) gate.live || list_any (is_waiter c) ws) (sym alone) ∙ here) in
    ap (λ (b : Bool). cond (not b) (c ∷ filter (is_beside gate.live) soft) (filter (is_beside gate.live) soft)) live ∙ rest
  where
    first : (a : Bool) → (a || false) ≡ true → a ≡ true
    first true is = refl
    first false is = is

took : (command state : ℕ) (soft : Bool) (gate : Gate) → gate.waiting ≡ [] → AreSoftAt gate → AreSoftAt (take_over command state soft gate)
took command state soft gate alone rules =
    subst (λ (left : List ℕ). AreSoftAt (record gate { live = command ∷ []; state = Some state; soft = with_soft soft command left }))
    (sym (none_beside gate alone gate.soft rules.1)) (only soft)
  where
    here : is_known command (record gate { live = command ∷ []; state = Some state }) ≡ true
    here = ap (λ (b : Bool). (b || false) || list_any (is_waiter command) gate.waiting) (number_itself command)

    only : (s : Bool) → AreSoftAt (record gate { live = command ∷ []; state = Some state; soft = with_soft s command [] })
    only true = (
      refl,
      All-cons (λ (c : ℕ). is_known c (record gate { live = command ∷ []; state = Some state }) ≡ true) command [] here
          (All-nil (λ (c : ℕ). is_known c (record gate { live = command ∷ []; state = Some state }) ≡ true)),
    )
    only false = (refl, All-nil (λ (c : ℕ). is_known c (record gate { live = command ∷ []; state = Some state }) ≡ true))

-- the soft commands ascend, and each is live or waits
pub asked_soft : (number : ℕ) (request : Asked) (book : Book) → AreSoft book → Changes AreSoft number request book
asked_soft number request book rules = record {
  same = rules;
  enters = λ command state soft refuse is new may. came command state soft (gate_of book) new rules;
  takes = λ command state soft refuse is new may. took command state soft (gate_of book) (takes_alone state (gate_of book) may) rules;
  queues = λ command state soft refuse is new may told. waited command state soft (gate_of book) new rules;
  leaves = λ command is none. (
    ap are_ascending (admitted_soft (departed command (gate_of book)).waiting (departed command (gate_of book)))
        ∙ some_ascending (is_other command) book.soft rules.0,
    subst (λ (cs : List ℕ). All (λ (c : ℕ). is_known c (depart command (gate_of book)).gate ≡ true) cs)
        (sym (admitted_soft (departed command (gate_of book)).waiting (departed command (gate_of book))))
        (others_known command (gate_of book) book.soft rules.1),
  );
  puts = λ command path tree is. rules;
  uses = λ at command path. rules;
  asks = λ row command path live over lies. rules;
  removes = λ gone left opposite disturbed. rules;
}
