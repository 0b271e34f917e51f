-- Those who wait are admitted one by one.
use Rattle.std.proofs.Common.{◌≡◌, ◌+◌, ℕ, Bool, true, false, List, [], ◌∷◌, Option, Some, None, cond, refl, sym, ap, subst, ◌∙◌, length, arith}
use Rattle.std.specs.Option.{is_some, unwrap_or}
use Rattle.std.proofs.lemmas.Bool.{both_ways}
use Rattle.mat_model.specs.declared.book.Waiter.{Waiter}
use Rattle.mat_model.specs.Gate.{Admitted, Gate, admit, admits_front, admitted, one_more}
use Rattle.gate_core.specs.Lists.{admit_all, admit_first, front_admitted}

-- who is admitted depends on the queue that is given, and not on that of the gate
admit_beside : (waiters others : List Waiter) (gate : Gate) → admit waiters (record gate { waiting = others }) ≡ admit waiters gate
admit_beside [] others gate = refl
admit_beside (waiter ∷ waiters) others gate =
    ap (λ (more : Admitted). cond (admits_front waiter gate) (one_more more) (record { count = 0; gate = record gate { waiting = waiter ∷ waiters } }))
    (admit_beside waiters others (admitted waiter gate))

-- once the front is admitted one more is to be counted, and the same gate is reached
more_of : (waiters : List Waiter) (gate new : Gate) → front_admitted waiters gate ≡ Some new → admit waiters gate ≡ one_more (admit_all new)
more_of [] gate new first = absurd cc
more_of (waiter ∷ waiters) gate new first =
    elim (admits_front waiter gate) as
    (λ b. cond {A = Option Gate} b (Some (admitted waiter (record gate { waiting = waiters }))) None ≡ Some new →
    cond {A = Admitted} b (one_more (admit waiters (admitted waiter gate))) (record { count = 0; gate = record gate { waiting = waiter ∷ waiters } })
    ≡ one_more (admit_all new)) [
      | true ↦ λ some.
          let same : admitted waiter (record gate { waiting = waiters }) ≡ new = cc in
          subst (λ (next : Gate). one_more (admit waiters (admitted waiter gate)) ≡ one_more (admit_all next)) same
          (ap one_more (sym (admit_beside waiters waiters (admitted waiter gate))))
      | false ↦ λ some. absurd cc
    ] first

pub admit_more : (gate new : Gate) → admit_first gate ≡ Some new → admit_all gate ≡ one_more (admit_all new)
admit_more gate new first = more_of gate.waiting gate new first

-- where the front isn't admitted, nobody is
none_of : (waiters : List Waiter) (gate : Gate) → front_admitted waiters gate ≡ None →
    admit waiters gate ≡ record { count = 0; gate = record gate { waiting = waiters } }
none_of [] gate none = refl
none_of (waiter ∷ waiters) gate none =
    elim (admits_front waiter gate) as
    (λ b. cond {A = Option Gate} b (Some (admitted waiter (record gate { waiting = waiters }))) None ≡ None →
    cond {A = Admitted} b (one_more (admit waiters (admitted waiter gate))) (record { count = 0; gate = record gate { waiting = waiter ∷ waiters } })
    ≡ record { count = 0; gate = record gate { waiting = waiter ∷ waiters } })
    [ true ↦ λ some. absurd cc | false ↦ λ none. refl ] none

pub admit_none : (gate : Gate) → admit_first gate ≡ None → admit_all gate ≡ record { count = 0; gate = gate }
admit_none gate none = none_of gate.waiting gate none

-- ---- the loop

-- what is counted and reached, where some are counted already
pub record Counts (count : ℕ) (gate : Gate) (all : Admitted) : Type 0 where
  pub number : count + (admit_all gate).count ≡ all.count
  pub reached : (admit_all gate).gate ≡ all.gate

-- one more is admitted: the queue is shorter, and the same is counted and reached
pub one_counted : (count : ℕ) (old new : Gate) (all : Admitted) → is_some (admit_first old) ≡ true → new ≡ unwrap_or (admit_first old) old →
    Counts count old all → Counts (count + 1) new all
one_counted count old new all does is counts = by (admit_first old) refl
  where
    by : (o : Option Gate) → admit_first old ≡ o → Counts (count + 1) new all
    by None none = absurd (both_ways (is_some (admit_first old)) (ap (λ (o : Option Gate). is_some o) none) does)
    by (Some next) first =
        let same : new ≡ next = is ∙ ap (λ (o : Option Gate). unwrap_or o old) first in
        let more : admit_all old ≡ one_more (admit_all new) = admit_more old new (first ∙ ap (λ (g : Gate). Some g) (sym same)) in
        let number : (admit_all old).count ≡ (admit_all new).count + 1 = ap (λ (a : Admitted). a.count) more in
        let before = counts.number in
        record { number = omega (arith, number, before); reached = sym (ap (λ (a : Admitted). a.gate) more) ∙ counts.reached }

passes : (b : Bool) (next : Gate) → is_some (cond b (Some next) None) ≡ true → b ≡ true
passes true next does = refl
passes false next does = absurd cc

pub one_fewer : (old new : Gate) → is_some (admit_first old) ≡ true → new ≡ unwrap_or (admit_first old) old → length old.waiting ≡ length new.waiting + 1
one_fewer old new does is = by old.waiting refl
  where
    by : (waiters : List Waiter) → old.waiting ≡ waiters → length old.waiting ≡ length new.waiting + 1
    by [] none = absurd (both_ways (is_some (admit_first old)) (ap (λ (ws : List Waiter). is_some (front_admitted ws old)) none) does)
    by (waiter ∷ waiters) some =
        let front : admit_first old ≡ cond (admits_front waiter old) (Some (admitted waiter (record old { waiting = waiters }))) None =
        ap (λ (ws : List Waiter). front_admitted ws old) some in
        let may : admits_front waiter old ≡ true = passes (admits_front waiter old) _ (sym (ap (λ (o : Option Gate). is_some o) front) ∙ does) in
        let new_is : new ≡ admitted waiter (record old { waiting = waiters }) =
        is ∙ ap (λ (o : Option Gate). unwrap_or o old) (front ∙ ap (λ (b : Bool). cond b (Some (admitted waiter (record old { waiting = waiters }))) None) may) in
        let left : length new.waiting ≡ length waiters = ap (λ (g : Gate). length g.waiting) new_is in
        let all : length old.waiting ≡ length (waiter ∷ waiters) = ap (λ (ws : List Waiter). length ws) some in
        omega (arith, left, all)

-- nobody else is admitted
pub all_counted : (count : ℕ) (old new : Gate) (all : Admitted) → is_some (admit_first old) ≡ false → new ≡ unwrap_or (admit_first old) old →
    Counts count old all → (count ≡ all.count) × (new ≡ all.gate)
all_counted count old new all doesnt is counts = by (admit_first old) refl
  where
    by : (o : Option Gate) → admit_first old ≡ o → (count ≡ all.count) × (new ≡ all.gate)
    by (Some next) first = absurd (both_ways (is_some (admit_first old)) doesnt (ap (λ (o : Option Gate). is_some o) first))
    by None none =
        let same : new ≡ old = is ∙ ap (λ (o : Option Gate). unwrap_or o old) none in
        let done = admit_none old none in
        let number : (admit_all old).count ≡ 0 = ap (λ (a : Admitted). a.count) done in
        let before = counts.number in
        (omega (arith, number, before), same ∙ sym (ap (λ (a : Admitted). a.gate) done) ∙ counts.reached)
