-- What the steps of a turn tell, put together.
use Rattle.std.proofs.Common.{◌≡◌, ◌⊎◌, ℕ, ◌+◌, ◌-◌, ◌^◌, ◌<◌, Option, Some, None, List, [], ◌∷◌, ◌++◌, length, sym, ap, ◌∙◌, subst, inl, inr, ⊎_elim, arith, length-append}
use mathlib.Core.List.{append-nil}
use Rattle.atomic_table.specs.Table.{Me, rest}
use Rattle.hall_lock.specs.declared.By.{By}
use Rattle.hall_lock.specs.declared.seat.View.{View}
use Rattle.hall_lock.specs.Histories.{IsFront, of, Fits, Grows, Adds}
use Rattle.hall_lock.specs.Told.{Acted, Served, IsPass}
use Rattle.hall_lock.specs.Passes.{PassFacts}
use Rattle.hall_lock.specs.Turns.{IsTurn}
use Rattle.atomic_table.specs.declared.shared.Seat.{Seat}
use Rattle.hall_lock.proofs.ListLemmas.{of_own, of_length, front_trans}

module _ {T E B : Type 0} (by : E → By) (history : T → List E) (base : T → B) where
  abbrev M : Type 0
  M = Me (Option T) (View E B)

  abbrev value_or : T → List (ℕ × Option T) → T
  value_or d [] = d
  value_or d ((k, Some x) ∷ l) = x
  value_or d ((k, None) ∷ l) = d

  pub slot_value : (l : List (ℕ × Option T)) (x y : T) → l ≡ (0, Some x) ∷ [] → l ≡ (0, Some y) ∷ rest l → x ≡ y
  slot_value l x y p q = ap (value_or x) (sym p ∙ q)

  pub adds_of : (made : By) (before after : List E) (n0 n1 added : ℕ) → Grows by made before after → made.number ≡ length (of by made.caller before)
      → n0 ≡ length before → n1 ≡ length after → added ≡ n1 - n0 → Adds by made.caller before after added
  adds_of made before after n0 n1 added (inl h) number a b d = inl (h, let e : length after ≡ length before = ap length h in omega arith)
  adds_of made before after n0 n1 added (inr h) number a b d = inr (
    h.0,
    h.1 ∙ (λ i. record { caller = made.caller; number = number i }),
    h.2,
    let e : length after ≡ length before + 1 = ap length h.2 ∙ length-append before (h.0 ∷ []) in omega arith,
  )

  pub acted_from : (does : T → By → T → Type 0) (made : By) (m m1 m' : M) (x : T) (got : Option T) (y after : T) (n0 n1 added : ℕ)
      → m.1 ≡ (0, Some x) ∷ [] → m.1 ≡ (0, got) ∷ rest m.1 → got ≡ Some y → m1 ≡ (m.0, (0, None) ∷ rest m.1)
      → made.number ≡ length (of by made.caller (history x)) → base after ≡ base y → Grows by made (history y) (history after) → does y made after
      → n0 ≡ length (history y) → n1 ≡ length (history after) → n1 < 2 ^ 64 → added ≡ n1 - n0
      → m' ≡ (m1.0, (0, Some after) ∷ rest m1.1) → Acted by history base does made m m' added n1
  acted_from does made m m1 m' x got y after n0 n1 added held slot is out number based grows acts long long' small more put =
      let same : x ≡ y = slot_value m.1 x y held (subst (λ (o : Option T). m.1 ≡ (0, o) ∷ rest m.1) is slot) in
      let nothing : rest m.1 ≡ [] = ap rest held in
      record {
        before = y;
        after = after;
        slot = held ∙ ap (λ z. (0, Some z) ∷ []) same;
        slot_after = ap (λ (z : M). z.1) put ∙ (ap (λ (z : M). (0, Some after) ∷ rest z.1) out ∙ ap (λ l. (0, Some after) ∷ l) nothing);
        view = ap (λ (z : M). z.0) put ∙ ap (λ (z : M). z.0) out;
        about = based;
        adds = adds_of made (history y) (history after) n0 n1 added grows (number ∙ ap (λ z. length (of by made.caller (history z))) same) long long' more;
        long_is = long';
        small = small;
        acts = acts;
      }

  -- a pass as contracts see it
  abbrev pub facts : ℕ → Seat (Option T) (View E B) → PassFacts E B
  facts caller seat = record { lock = seat.table_id; caller = caller; front = seat.me.0.front; reached = seat.me.0.reached; base = seat.me.0.base }

  module _ (does : T → By → T → Type 0) (caller number long : ℕ) (seat seat' : Seat (Option T) (View E B)) (pass : IsPass by history base caller number long seat) (added long' : ℕ)
      (s : Served by history base does (record { caller = caller; number = number }) seat.me seat'.me added long') where
    own_before : of by caller (history s.before) ≡ of by caller seat.me.0.front
    own_before = subst (λ (c : ℕ). of by c (history s.before) ≡ of by c seat.me.0.front) pass.caller_is s.front.1

    -- the caller's entries after the turn
    pub own_after : Adds by caller (history s.before) (history s.after) added
        → ((history s.after ≡ history s.before) × (of by caller (history s.after) ≡ of by caller seat.me.0.front) × (added ≡ 0))
        ⊎ ((entry : E) × (by entry ≡ record { caller = caller; number = length (of by caller seat.me.0.front) }) × (history s.after ≡ history s.before ++ entry ∷ [])
        × (of by caller (history s.after) ≡ of by caller seat.me.0.front ++ entry ∷ []) × (added ≡ 1))
    own_after (inl h) = inl (h.0, ap (of by caller) h.0 ∙ own_before, h.1)
    own_after (inr h) = inr (
      h.0,
      h.1 ∙ (λ i. record { caller = caller; number = length (own_before i) }),
      h.2,
      ap (of by caller) h.2 ∙ (of_own by caller (history s.before) h.0 (ap (λ (b : By). b.caller) h.1) ∙ ap (λ l. l ++ h.0 ∷ []) own_before),
      h.3,
    )

    own_count : number + added ≡ length (of by caller (history s.after))
    own_count = let n = pass.number_is in ⊎_elim
        (λ h. let e : length (of by caller (history s.after)) ≡ length (of by caller seat.me.0.front) = ap length h.1 in let z = h.2 in omega arith)
        (λ h. let e : length (of by caller (history s.after)) ≡ length (of by caller seat.me.0.front) + 1 = ap length h.3 ∙ length-append (of by caller seat.me.0.front) (h.0 ∷ []) in let z = h.4 in omega arith)
        (own_after s.adds)

    pub next_small : number + added < 2 ^ 64
    next_small = let o = own_count in let l = of_length by caller (history s.after) in let e = s.long_is in let m = s.small in omega arith

    pub next_pass : IsPass by history base caller (number + added) long' seat'
    next_pass = record {
      rests = ap (λ (v : View E B). v.stage) s.view ∙ pass.rests;
      slot = s.slot;
      caller_is = ap (λ (v : View E B). v.caller) s.view ∙ pass.caller_is;
      number_is = own_count ∙ ap (λ (v : View E B). length (of by caller v.front)) (sym s.view);
      long_is = s.long_is ∙ ap (λ (v : View E B). length v.front) (sym s.view);
      part = ap (λ (v : View E B). v.parts) s.view ∙ pass.part;
      nothing_joined = ap (λ (v : View E B). v.joined) s.view ∙ pass.nothing_joined;
    }

    pub turn_of : (about : B) → seat.me.0.base ≡ Some about → IsTurn by history base does about (facts caller seat) (facts caller seat')
    turn_of about is =
        let based : base s.before ≡ about = let e : Some (base s.before) ≡ Some about = sym s.about ∙ is in cc in
        let seen : seat'.me.0.front ≡ history s.after = ap (λ (v : View E B). v.front) s.view in
        record {
          before = s.before;
          after = s.after;
          front = subst (λ (c : ℕ). Fits by (history s.before) c seat.me.0.front) pass.caller_is s.front;
          reached = s.reached;
          seen = seen;
          adds = ⊎_elim (λ h. inl (h.0, ap (of by caller) seen ∙ h.1)) (λ h. inr (h.0, h.1, h.2, ap (of by caller) seen ∙ h.3)) (own_after s.adds);
          base_before = based;
          base_after = s.about_after ∙ based;
          acts = subst (λ (n : ℕ). does s.before (record { caller = caller; number = n }) s.after) pass.number_is s.acts;
        }

    pub turn_at : (old : PassFacts E B) → facts caller seat ≡ old → (about : B) → old.base ≡ Some about → IsTurn by history base does about old (facts caller seat')
    turn_at old view about is = subst (λ (p : PassFacts E B). IsTurn by history base does about p (facts caller seat')) view (turn_of about (ap (λ (p : PassFacts E B). p.base) view ∙ is))

    -- the front goes on from the one before
    pub later_at : (old : PassFacts E B) → facts caller seat ≡ old → IsFront old.front seat'.me.0.front
    later_at old view =
        let before : IsFront seat.me.0.front (history s.before) = s.front.0 in
        let after : IsFront (history s.before) (history s.after) = ⊎_elim (λ h. ([], h.0 ∙ sym (append-nil (history s.before)))) (λ h. (h.0 ∷ [], h.2)) s.adds in
        let both : IsFront seat.me.0.front (history s.after) = front_trans seat.me.0.front (history s.before) (history s.after) before after in
        subst (λ (x : List E × List E). IsFront x.0 x.1) (λ i. ((view i).front, (sym s.view i).front)) both
