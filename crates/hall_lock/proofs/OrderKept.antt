-- Each step of a turn keeps the rule of the table.
use Rattle.std.proofs.Common.{◌≡◌, ◌≢◌, ◌⊎◌, ℕ, suc, zero, ◌+◌, ◌%◌, ◌^◌, ◌<◌, ◌≤◌, Option, Some, None, List, [], ◌∷◌, ◌++◌, length, set, get_or, sym, refl, ap, ◌∙◌, subst, inl, inr, ⊎_elim, arith, length-set, length-append, get_or-set_same, get_or-set_other}
use Rattle.std.proofs.Math.Nat.{mod-add-mod, mod-eq_of_lt}
use mathlib.Core.Option.{some, none, some-injective, some-ne-none}
use mathlib.Core.Option as maybe
use mathlib.Core.Logic.{dite}
use native.Mathlib.Decide.{ℕ_discrete}
use lib.ListN.{get_elem?}
use lib.Seq.{set-get_or}
use Rattle.atomic_table.specs.Table.{State, Me, keeps, takes, gives, put_back, rest, Allows, Splits, Joins, opening, Final, Seen}
use Rattle.atomic_table.proofs.Lists.{at_set, set_here, set_else, set_again, one_turn, at_longer}
use Rattle.hall_lock.specs.declared.By.{By}
use Rattle.hall_lock.specs.declared.seat.Stage.{Stage}
use Rattle.hall_lock.specs.declared.seat.Stage.TheVariants.{Dealing, Resting, Waiting, Serving, Spent}
use Rattle.hall_lock.specs.declared.seat.Joined.{Joined}
use Rattle.hall_lock.specs.declared.seat.View.{View}
use Rattle.hall_lock.specs.declared.seat.Terms.{Terms}
use Rattle.hall_lock.specs.Histories.{IsFront, of, Fits, NumberedFrom, Adds}
use Rattle.hall_lock.specs.Order.{waits, waits_of, parts_of, HasNumber, Each, total, waiting, IsSpent, IsJoined, IsLive, Knows, IsHome, Ordered, first_view, given_of, after_giving, newcomer, as_joined, both_views, spent_view}
use Rattle.hall_lock.specs.Told.{drew, looked, published, handed_on, reached, Ends, IsClosed}
use Rattle.hall_lock.proofs.ListLemmas.{total_set, total_push, total_le, total_has, total_two, at_push, at_within, each_map, each_push, front_refl, front_push, front_trans, front_length, of_own, of_other, numbered_push}

pub same_some : {A : Type 0} → (x y : A) → ◌≡◌ {A = Option A} (Some x) (Some y) → x ≡ y
same_some x y e = cc

module _ {E B : Type 0} (by : E → By) where
  -- a seat that was taken in stays so, and no live seat is one
  pub spent_stays : (views : List (View E B)) (id : ℕ) (v w : View E B) → get_elem? views id ≡ some v → ¬ (v.stage ≡ Spent) → (c : ℕ) → IsSpent views c → (c + 1 ≢ id) × IsSpent (set views id w) c
  spent_stays views id v w at alive c x =
      let apart : c + 1 ≢ id = λ e. alive (ap (λ (u : View E B). u.stage) (some-injective v x.0 (sym at ∙ (ap (get_elem? views) (sym e) ∙ x.1))) ∙ x.2) in
      (apart, (x.0, set_else views id (c + 1) w apart ∙ x.1, x.2))

  module _ (log log' : List E) (views views' : List (View E B)) (grows : IsFront log log') (spent : (c : ℕ) → IsSpent views c → IsSpent views' c × (of by c log' ≡ of by c log)) where
    pub joined_to : (o : Joined E) → IsJoined by log views o → IsJoined by log' views' o
    joined_to o j = let s = spent o.caller j.spent in let l = front_length log log' grows in let r = j.reached in record {
      spent = s.0;
      front = (front_trans o.front log log' j.front.0 grows, s.1 ∙ j.front.1);
      reached = omega arith;
    }

    pub live_to : (about : B) (seat : ℕ) (v : View E B) → of by v.caller log' ≡ of by v.caller log → IsLive by about log views seat v → IsLive by about log' views' seat v
    live_to about seat v own l = let long = front_length log log' grows in let r = l.reached in record {
      caller = l.caller;
      base = l.base;
      front = (front_trans v.front log log' l.front.0 grows, own ∙ l.front.1);
      reached = omega arith;
      joined = each_map (IsJoined by log views) (IsJoined by log' views') joined_to v.joined l.joined;
    }

module _ {T E B : Type 0} (by : E → By) (history : T → List E) (base : T → B) (terms : Terms T) where
  abbrev V : Type 0
  V = View E B

  abbrev St : Type 0
  St = State (Option T) V

  abbrev M : Type 0
  M = Me (Option T) V

  abbrev Homes : Type 0
  Homes = List (maybe.Option (Option T))

  abbrev Rule : St → Type 0
  Rule = Ordered by history base terms

  abbrev about : B
  about = base terms.first.value

  abbrev Knowing : List E → ℕ → Homes → List V → ℕ → V → Stage → Type 0
  Knowing = Knows by history base about

  -- what another seat knows stays so
  others_know : (log log' : List E) (turn turn' : ℕ) (homes homes' : Homes) (views views' : List V) (j : ℕ) (u : V)
      → (IsLive by about log views j u → IsLive by about log' views' j u)
      → (j ≡ 0 → length views' ≡ length views)
      → ((n : ℕ) → u.stage ≡ Waiting n → turn ≤ n → n < turn + waiting views → (turn' ≤ n) × (n < turn' + waiting views'))
      → ((n : ℕ) → u.stage ≡ Serving n → n ≡ turn → homes ≡ none ∷ [] → (turn' ≡ turn) × (log' ≡ log) × (homes' ≡ none ∷ []))
      → (st : Stage) → u.stage ≡ st → Knowing log turn homes views j u st → Knowing log' turn' homes' views' j u st
  others_know log log' turn turn' homes homes' views views' j u live seats wait serve (Dealing k) is h = let e = seats h.0 in (h.0, h.1 ∙ sym e, h.2)
  others_know log log' turn turn' homes homes' views views' j u live seats wait serve Resting is h = live h
  others_know log log' turn turn' homes homes' views views' j u live seats wait serve (Waiting n) is h = let w = wait n is h.2 h.3 in (live h.0, h.1, w.0, w.1)
  others_know log log' turn turn' homes homes' views views' j u live seats wait serve (Serving n) is h = let w = serve n is h.2 h.4 in (live h.0, h.1, h.2 ∙ sym w.0, h.3 ∙ sym w.1, w.2)
  others_know log log' turn turn' homes homes' views views' j u live seats wait serve Spent is h = tt

  -- a step that changes one live seat's view
  module _ (s : St) (r : Rule s) (id : ℕ) (v w : V) (at : get_elem? s.views id ≡ some v) (alive : ¬ (v.stage ≡ Spent)) where
    abbrev views' : List V
    views' = set s.views id w

    waiting_set : waiting views' + waits v.stage ≡ waiting s.views + waits w.stage
    waiting_set = total_set waits_of s.views id v w at

    moved : (ws : List ℕ) (hs : Homes) (log' : List E) (turn' : ℕ)
        → length ws ≡ 3 → get_or ws 0 0 ≡ (turn' + waiting views') % 2 ^ 64 → get_or ws 1 0 ≡ turn' % 2 ^ 64 → get_or ws 2 0 ≡ length log'
        → w.parts ≡ v.parts → IsFront r.log log' → ((c : ℕ) → c + 1 ≢ id → of by c log' ≡ of by c r.log)
        → ((j : ℕ) (u : V) (n : ℕ) → j ≢ id → get_elem? s.views j ≡ some u → u.stage ≡ Waiting n → r.turn ≤ n → n < r.turn + waiting s.views → (turn' ≤ n) × (n < turn' + waiting views'))
        → ((j : ℕ) (u : V) (n : ℕ) → j ≢ id → get_elem? s.views j ≡ some u → u.stage ≡ Serving n → n ≡ r.turn → s.homes ≡ none ∷ [] → (turn' ≡ r.turn) × (log' ≡ r.log) × (hs ≡ none ∷ []))
        → Knowing log' turn' hs views' id w w.stage
        → ((n : ℕ) → HasNumber w.stage n → (j : ℕ) (u : V) → j ≢ id → get_elem? s.views j ≡ some u → HasNumber u.stage n → ⊥)
        → IsHome by history base about log' views' hs → ((c : ℕ) → c + 1 ≡ id → NumberedFrom by 0 (of by c log'))
        → Rule record { words = ws; homes = hs; views = views' }
    moved ws hs log' turn' wide ticket serving count same_parts grows same wait serve mine numbers home numbered =
        let spent : (c : ℕ) → IsSpent s.views c → IsSpent views' c × (of by c log' ≡ of by c r.log) = λ c x. let y = spent_stays by s.views id v w at alive c x in (y.1, same c y.0) in
        let sums = total_set parts_of s.views id v w at in let shares = r.shares in let len = length-set s.views id w in let within = at_within s.views id v at in record {
          log = log';
          turn = turn';
          wide = wide;
          few = r.few;
          ticket = ticket;
          serving = serving;
          count = count;
          shares = omega arith;
          room = let room = r.room in omega arith;
          each = λ j u there. ⊎_elim
              (λ (t : (j ≡ id) × (w ≡ u)). subst (λ (x : ℕ × V). Knowing log' turn' hs views' x.0 x.1 x.1.stage) (λ i. (sym t.0 i, t.1 i)) mine)
              (λ (t : (j ≢ id) × (get_elem? s.views j ≡ some u)). others_know r.log log' r.turn turn' s.homes hs s.views views' j u
              (λ l. live_to by r.log log' s.views views' grows spent about j u (same u.caller (λ e. t.0 (sym l.caller ∙ e))) l)
              (λ _. len) (λ n. wait j u n t.0 t.1) (λ n. serve j u n t.0 t.1) u.stage refl (r.each j u t.1))
              (at_set s.views id j w u there);
          apart = λ i j n x y here there a b. ⊎_elim
              (λ (p : (i ≡ id) × (w ≡ x)). ⊎_elim
              (λ (q : (j ≡ id) × (w ≡ y)). p.0 ∙ sym q.0)
              (λ (q : (j ≢ id) × (get_elem? s.views j ≡ some y)). absurd (numbers n (subst (λ (z : V). HasNumber z.stage n) (sym p.1) a) j y q.0 q.1 b))
              (at_set s.views id j w y there))
              (λ (p : (i ≢ id) × (get_elem? s.views i ≡ some x)). ⊎_elim
              (λ (q : (j ≡ id) × (w ≡ y)). absurd (numbers n (subst (λ (z : V). HasNumber z.stage n) (sym q.1) b) i x p.0 p.1 a))
              (λ (q : (j ≢ id) × (get_elem? s.views j ≡ some y)). r.apart i j n x y p.1 q.1 a b)
              (at_set s.views id j w y there))
              (at_set s.views id i w x here);
          home = home;
          numbered = λ c. dite (ℕ_discrete (c + 1) id) (numbered c) (λ ne. subst (NumberedFrom by 0) (sym (same c ne)) (r.numbered c));
          unused = λ c far. same c (λ e. let e' : c + 1 ≡ id = e in absurd (omega arith)) ∙ r.unused c (omega arith);
        }

  -- what a live seat knows of the history stays, where the history does
  live_still : (s : St) (log : List E) (id : ℕ) (v w : V) → get_elem? s.views id ≡ some v → ¬ (v.stage ≡ Spent) → (j : ℕ) (u : V) → IsLive by about log s.views j u → IsLive by about log (set s.views id w) j u
  live_still s log id v w at alive j u l = live_to by log log s.views (set s.views id w) (front_refl log) (λ c x. let y = spent_stays by s.views id v w at alive c x in (y.1, refl)) about j u refl l

  restage : (log : List E) (views : List V) (id : ℕ) (v : V) (st : Stage) → IsLive by about log views id v → IsLive by about log views id (record v { stage = st })
  restage log views id v st l = record { caller = l.caller; base = l.base; front = l.front; reached = l.reached; joined = l.joined }

  knows_at : (s : St) (r : Rule s) (id : ℕ) (v : V) (st : Stage) → get_elem? s.views id ≡ some v → v.stage ≡ st → Knowing r.log r.turn s.homes s.views id v st
  knows_at s r id v st at is = subst (Knowing r.log r.turn s.homes s.views id v) is (r.each id v at)

  -- a drawn number is not served yet, and was drawn already
  below : (s : St) (r : Rule s) (j : ℕ) (u : V) (m : ℕ) → get_elem? s.views j ≡ some u → (st : Stage) → u.stage ≡ st → HasNumber st m → (r.turn ≤ m) × (m < r.turn + waiting s.views)
  below s r j u m at (Dealing k) is h = absurd h
  below s r j u m at Resting is h = absurd h
  below s r j u m at (Waiting n) is h = let k = knows_at s r j u (Waiting n) at is in let low = k.2 in let high = k.3 in (omega arith, omega arith)
  below s r j u m at (Serving n) is h = let k = knows_at s r j u (Serving n) at is in let e = k.2 in let one : waits u.stage ≡ 1 = ap waits is in let t = total_has waits_of s.views j u at in (omega arith, omega arith)
  below s r j u m at Spent is h = absurd h

  -- the slot stays as it is where a seat that has not the turn steps
  home_stays : (log : List E) (views : List V) (id : ℕ) (v w : V) → get_elem? views id ≡ some v → ((n : ℕ) → ¬ (v.stage ≡ Serving n)) → (hs : Homes)
      → IsHome by history base about log views hs → IsHome by history base about log (set views id w) hs
  home_stays log views id v w at not ((some (Some y)) ∷ []) h = h
  home_stays log views id v w at not (none ∷ []) h =
      (h.0, h.1, h.2, set_else views id h.0 w (λ e. not h.2 (ap (λ (u : V). u.stage) (some-injective v h.1 (sym at ∙ (ap (get_elem? views) (sym e) ∙ h.3))) ∙ h.4)) ∙ h.3, h.4)
  home_stays log views id v w at not [] h = absurd h
  home_stays log views id v w at not ((some None) ∷ []) h = absurd h
  home_stays log views id v w at not (none ∷ (b ∷ hs)) h = absurd h
  home_stays log views id v w at not ((some None) ∷ (b ∷ hs)) h = absurd h
  home_stays log views id v w at not ((some (Some y)) ∷ (b ∷ hs)) h = absurd h

  -- the slot stays as it is where a seat comes
  home_longer : (log : List E) (views : List V) (right : V) → (hs : Homes) → IsHome by history base about log views hs → IsHome by history base about log (views ++ right ∷ []) hs
  home_longer log views right ((some (Some y)) ∷ []) h = h
  home_longer log views right (none ∷ []) h = (h.0, h.1, h.2, at_longer views (right ∷ []) h.0 h.1 h.3, h.4)
  home_longer log views right [] h = absurd h
  home_longer log views right ((some None) ∷ []) h = absurd h
  home_longer log views right (none ∷ (b ∷ hs)) h = absurd h
  home_longer log views right ((some None) ∷ (b ∷ hs)) h = absurd h
  home_longer log views right ((some (Some y)) ∷ (b ∷ hs)) h = absurd h

  -- where no seat has the turn, the value is in the slot
  at_home : (log : List E) (views : List V) → ((j : ℕ) (u : V) (n : ℕ) → get_elem? views j ≡ some u → u.stage ≡ Serving n → ⊥) → (hs : Homes)
      → IsHome by history base about log views hs → (y : T) × (hs ≡ some (Some y) ∷ []) × (history y ≡ log) × (base y ≡ about)
  at_home log views nobody ((some (Some y)) ∷ []) h = (y, refl, h.0, h.1)
  at_home log views nobody (none ∷ []) h = absurd (nobody h.0 h.1 h.2 h.3 h.4)
  at_home log views nobody [] h = absurd h
  at_home log views nobody ((some None) ∷ []) h = absurd h
  at_home log views nobody (none ∷ (b ∷ hs)) h = absurd h
  at_home log views nobody ((some None) ∷ (b ∷ hs)) h = absurd h
  at_home log views nobody ((some (Some y)) ∷ (b ∷ hs)) h = absurd h

  -- a seat that waits has a part
  wait_le : (s : St) (r : Rule s) (j : ℕ) (u : V) → get_elem? s.views j ≡ some u → (st : Stage) → u.stage ≡ st → waits u.stage ≤ u.parts
  wait_le s r j u at (Dealing k) is = let e : waits u.stage ≡ 0 = ap waits is in omega arith
  wait_le s r j u at Resting is = let e : waits u.stage ≡ 0 = ap waits is in omega arith
  wait_le s r j u at (Waiting n) is = let e : waits u.stage ≡ 1 = ap waits is in let k = (knows_at s r j u (Waiting n) at is).1 in omega arith
  wait_le s r j u at (Serving n) is = let e : waits u.stage ≡ 1 = ap waits is in let k = (knows_at s r j u (Serving n) at is).1 in omega arith
  wait_le s r j u at Spent is = let e : waits u.stage ≡ 0 = ap waits is in omega arith

  -- fewer seats wait than there are callers
  few_wait : (s : St) (r : Rule s) → waiting s.views < 2 ^ 32
  few_wait s r =
      let le = total_le waits_of parts_of s.views (λ j u there. wait_le s r j u there u.stage refl) in
      let shares = r.shares in let few = r.few in omega arith

  not_spent : (v : V) (st : Stage) → v.stage ≡ st → ¬ (st ≡ Spent) → ¬ (v.stage ≡ Spent)
  not_spent v st is other e = other (sym is ∙ e)

  -- 1: the seat draws the next number
  pub draws : (slots id : ℕ) (me : M) → me.0.stage ≡ Resting → 0 < me.0.parts → Allows Rule slots id me 0 (λ n. (n + 1) % 2 ^ 64) (drew me)
  draws slots id me rests part s r _ at _ =
      let v : V = me.0 in let n : ℕ = r.turn + waiting s.views in let w : V = record v { stage = Waiting n } in
      let alive = not_spent v Resting rests (λ e. cc) in
      let live = knows_at s r id v Resting at rests in
      let up : waiting (set s.views id w) ≡ waiting s.views + 1 = let t = waiting_set s r id v w at alive in let z : waits v.stage ≡ 0 = ap waits rests in omega arith in
      let x : ℕ = (get_or s.words 0 0 + 1) % 2 ^ 64 in let wide = r.wide in
      let g : n + 1 ≡ r.turn + waiting (set s.views id w) = omega arith in (
        w,
        keeps,
        tt,
        moved s r id v w at alive (set s.words 0 x) s.homes r.log r.turn
            (length-set s.words 0 x ∙ wide)
            (get_or-set_same s.words 0 x 0 (omega arith) ∙ (ap (λ (k : ℕ). (k + 1) % 2 ^ 64) r.ticket ∙ (mod-add-mod n (2 ^ 64) 1 ∙ ap (λ (k : ℕ). k % 2 ^ 64) g)))
            (get_or-set_other s.words 0 1 x 0 (λ e. omega arith) ∙ r.serving)
            (get_or-set_other s.words 0 2 x 0 (λ e. omega arith) ∙ r.count)
            refl (front_refl r.log) (λ c _. refl)
            (λ j u m _ _ _ low high. (low, omega arith))
            (λ j u m _ _ _ _ h. (refl, refl, h))
            (restage r.log (set s.views id w) id v (Waiting n) (live_still s r.log id v w at alive id v live), part, omega arith, omega arith)
            (λ m e j u ne there b. let f = below s r j u m there u.stage refl b in let f1 = f.1 in omega arith)
            (home_stays r.log s.views id v w at (λ m e. let bad : Resting ≡ Serving m = sym rests ∙ e in cc) s.homes r.home)
            (λ c _. r.numbered c),
        (refl, (n, refl, sym r.ticket)),
      )

  -- the number served was drawn by the seat itself
  served_is : (s : St) (r : Rule s) (n : ℕ) → r.turn ≤ n → n < r.turn + waiting s.views → get_or s.words 1 0 ≡ n % 2 ^ 64 → r.turn ≡ n
  served_is s r n low high is = let few = few_wait s r in one_turn r.turn n (2 ^ 64) low (omega arith) (sym r.serving ∙ is)

  -- the word that was read stays
  same_words : (s : St) (i : ℕ) (hs : Homes) (views : List V) → Rule record { words = s.words; homes = hs; views = views } → Rule record { words = set s.words i (get_or s.words i 0); homes = hs; views = views }
  same_words s i hs views r = subst (λ (ws : List ℕ). Rule record { words = ws; homes = hs; views = views }) (sym (set-get_or s.words i 0)) r

  -- 2 and 3: where its number is served, the seat takes the slot
  takes_turn : (s : St) (r : Rule s) (id : ℕ) (v : V) (n : ℕ) → get_elem? s.views id ≡ some v → v.stage ≡ Waiting n → get_or s.words 1 0 ≡ n % 2 ^ 64
      → (y : T) × (s.homes ≡ some (Some y) ∷ []) × Rule record { words = s.words; homes = none ∷ []; views = set s.views id (record v { stage = Serving n; front = r.log }) } × (history y ≡ r.log) × (base y ≡ about)
  takes_turn s r id v n at is found =
      let k = knows_at s r id v (Waiting n) at is in let live = k.0 in
      let now : r.turn ≡ n = served_is s r n k.2 k.3 found in
      let alive = not_spent v (Waiting n) is (λ e. cc) in
      let nobody : (j : ℕ) (u : V) (m : ℕ) → get_elem? s.views j ≡ some u → u.stage ≡ Serving m → ⊥ = λ j u m there serves.
      let same : m ≡ n = (knows_at s r j u (Serving m) there serves).2 ∙ now in
      let one : j ≡ id = r.apart j id n u v there at (subst (λ (st : Stage). HasNumber st n) (sym serves) same) (subst (λ (st : Stage). HasNumber st n) (sym is) refl) in
      let both : u ≡ v = some-injective u v (sym there ∙ (ap (get_elem? s.views) one ∙ at)) in
      let bad : Serving m ≡ Waiting n = sym serves ∙ (ap (λ (z : V). z.stage) both ∙ is) in cc in
      let home = at_home r.log s.views nobody s.homes r.home in
      let w : V = record v { stage = Serving n; front = r.log } in
      let up : waiting (set s.views id w) ≡ waiting s.views = let t = waiting_set s r id v w at alive in let z : waits v.stage ≡ 1 = ap waits is in omega arith in
      let l = live_still s r.log id v w at alive id v live in (
        home.0,
        home.1,
        moved s r id v w at alive s.words (none ∷ []) r.log r.turn r.wide
            (r.ticket ∙ ap (λ (m : ℕ). (r.turn + m) % 2 ^ 64) (sym up)) r.serving r.count
            refl (front_refl r.log) (λ c _. refl)
            (λ j u m _ _ _ low high. (low, omega arith))
            (λ j u m ne there serves _ _. absurd (nobody j u m there serves))
            (record { caller = l.caller; base = l.base; front = (front_refl r.log, refl); reached = l.reached; joined = l.joined }, k.1, sym now, refl, refl)
            (λ m e j u ne there b. ne (r.apart j id m u v there at b (subst (λ (st : Stage). HasNumber st m) (sym is) e)))
            (id, w, n, set_here s.views id w (at_within s.views id v at), refl)
            (λ c _. r.numbered c),
        home.2,
        home.3,
      )

  pub looks : (slots id : ℕ) (me : M) (n : ℕ) → me.0.stage ≡ Waiting n → me.1 ≡ [] → Allows Rule slots id me 1 (λ x. x) (looked by history base me)
  looks slots id me n is none_held s r _ at _ =
      let v : V = me.0 in let live = (knows_at s r id v (Waiting n) at is).0 in let found : ℕ = get_or s.words 1 0 in
      let number : (m : ℕ) → v.stage ≡ Waiting m → m ≡ n = λ m e. let both : Waiting m ≡ Waiting n = sym e ∙ is in cc in
      dite (ℕ_discrete found (n % 2 ^ 64))
      (λ hit. let t = takes_turn s r id v n at is hit in let y : T = t.0 in let w : V = record v { stage = Serving n; front = r.log } in
      let told : (m : ℕ) → v.stage ≡ Waiting m
      → (found ≢ m % 2 ^ 64 → ◌≡◌ {A = M} (w, (0, Some y) ∷ me.1) me)
      × (found ≡ m % 2 ^ 64 → (value : T) × ((0, Some y) ∷ me.1 ≡ (0, Some value) ∷ []) × (w ≡ record v { stage = Serving m; front = history value })
      × Fits by (history value) v.caller v.front × (v.base ≡ Some (base value)) × (v.reached ≤ length (history value))) = λ m e. (
        (λ miss. absurd (miss (hit ∙ ap (λ (k : ℕ). k % 2 ^ 64) (sym (number m e))))),
        (λ _. (
          y,
          ap (λ l. (0, Some y) ∷ l) none_held,
          (λ i. record v { stage = Serving (sym (number m e) i); front = sym t.3 i }),
          subst (λ (l : List E). Fits by l v.caller v.front) (sym t.3) live.front,
          live.base ∙ ap Some (sym t.4),
          subst (λ (l : List E). v.reached ≤ length l) (sym t.3) live.reached,
        )),
      ) in (
        w,
        takes 0 (Some y),
        ap (λ hs. get_elem? hs 0) t.1,
        subst (λ (hs : Homes). Rule record { words = set s.words 1 found; homes = set hs 0 none; views = set s.views id w }) (sym t.1) (same_words s 1 (none ∷ []) (set s.views id w) t.2),
        told,
      ))
      (λ miss. (
        v,
        keeps,
        tt,
        same_words s 1 s.homes (set s.views id v) (subst (λ (vs : List V). Rule record { words = s.words; homes = s.homes; views = vs }) (sym (set_again s.views id v at)) r),
        (λ m e. ((λ _. refl), (λ h. absurd (miss (h ∙ ap (λ (k : ℕ). k % 2 ^ 64) (number m e)))))),
      ))

  -- what an appended entry changes of a history
  pub record Appended (caller : ℕ) (before after : List E) (added : ℕ) : Type 0 where
    pub grows : IsFront before after
    pub long : length after ≡ length before + added
    pub others : (c : ℕ) → c ≢ caller → of by c after ≡ of by c before
    pub numbered : NumberedFrom by 0 (of by caller before) → NumberedFrom by 0 (of by caller after)

  pub appended : (caller : ℕ) (before after : List E) (added : ℕ) → Adds by caller before after added → Appended caller before after added
  appended caller before after added (inl h) = record {
    grows = subst (IsFront before) (sym h.0) (front_refl before);
    long = let e : length after ≡ length before = ap length h.0 in let z = h.1 in omega arith;
    others = λ c _. ap (of by c) h.0;
    numbered = λ n. subst (λ (l : List E). NumberedFrom by 0 (of by caller l)) (sym h.0) n;
  }
  appended caller before after added (inr h) =
      let e : E = h.0 in let who : (by e).caller ≡ caller = ap (λ (b : By). b.caller) h.1 in record {
        grows = subst (IsFront before) (sym h.2) (front_push before e);
        long = let l : length after ≡ length before + 1 = ap length h.2 ∙ length-append before (e ∷ []) in let z = h.3 in omega arith;
        others = λ c other. ap (of by c) h.2 ∙ of_other by c before e (λ same. other (sym same ∙ who));
        numbered = λ n. subst (NumberedFrom by 0) (sym (ap (of by caller) h.2 ∙ of_own by caller before e who))
            (numbered_push by 0 (of by caller before) e n (let m : (by e).number ≡ length (of by caller before) = ap (λ (b : By). b.number) h.1 in omega arith));
      }

  abbrev value_or : T → List (ℕ × Option T) → T
  value_or d [] = d
  value_or d ((k, Some x) ∷ l) = x
  value_or d ((k, None) ∷ l) = d

  same_held : (x y : T) → ◌≡◌ {A = List (ℕ × Option T)} ((0, Some x) ∷ []) ((0, Some y) ∷ []) → x ≡ y
  same_held x y e = ap (value_or x) e

  -- no other seat has the turn
  alone : (s : St) (r : Rule s) (id : ℕ) (v : V) (n : ℕ) → get_elem? s.views id ≡ some v → v.stage ≡ Serving n → (j : ℕ) (u : V) (m : ℕ) → j ≢ id → get_elem? s.views j ≡ some u → u.stage ≡ Serving m → ⊥
  alone s r id v n at is j u m ne there serves =
      let k = knows_at s r id v (Serving n) at is in let h = knows_at s r j u (Serving m) there serves in
      ne (r.apart j id n u v there at (subst (λ (st : Stage). HasNumber st n) (sym serves) (h.2 ∙ sym k.2)) (subst (λ (st : Stage). HasNumber st n) (sym is) refl))

  -- 4: the seat publishes the history of the value in its slot
  pub publishes : (slots id : ℕ) (me : M) (n : ℕ) (value : T) (added : ℕ) → me.0.stage ≡ Serving n → me.1 ≡ (0, Some value) ∷ [] → Adds by me.0.caller me.0.front (history value) added → length (history value) < 2 ^ 64
      → Allows Rule slots id me 2 (λ k. (k + added) % 2 ^ 64) (published history me)
  publishes slots id me n value added is held adds small s r _ at _ =
      let v : V = me.0 in let after : List E = history value in
      let k = knows_at s r id v (Serving n) at is in let live = k.0 in
      let a = appended v.caller r.log after added (subst (λ (l : List E). Adds by v.caller l after added) k.3 adds) in
      let alive = not_spent v (Serving n) is (λ e. cc) in
      let w : V = record v { front = after } in
      let up : waiting (set s.views id w) ≡ waiting s.views = let t = waiting_set s r id v w at alive in omega arith in
      let x : ℕ = (get_or s.words 2 0 + added) % 2 ^ 64 in let wide = r.wide in let long = a.long in let count = r.count in
      let total_is : get_or s.words 2 0 + added ≡ length after = omega arith in
      let same : (c : ℕ) → c + 1 ≢ id → of by c after ≡ of by c r.log = λ c ne. a.others c (λ e. let l = live.caller in ne (omega arith)) in
      let spent : (c : ℕ) → IsSpent s.views c → IsSpent (set s.views id w) c × (of by c after ≡ of by c r.log) = λ c z. let y = spent_stays by s.views id v w at alive c z in (y.1, same c y.0) in
      let reach : v.reached ≤ length after = let l = live.reached in omega arith in (
        w,
        keeps,
        tt,
        moved s r id v w at alive (set s.words 2 x) s.homes after r.turn
            (length-set s.words 2 x ∙ wide)
            (get_or-set_other s.words 2 0 x 0 (λ e. omega arith) ∙ (r.ticket ∙ ap (λ (m : ℕ). (r.turn + m) % 2 ^ 64) (sym up)))
            (get_or-set_other s.words 2 1 x 0 (λ e. omega arith) ∙ r.serving)
            (get_or-set_same s.words 2 x 0 (omega arith) ∙ (ap (λ (m : ℕ). m % 2 ^ 64) total_is ∙ mod-eq_of_lt small))
            refl a.grows same
            (λ j u m _ _ _ low high. (low, omega arith))
            (λ j u m ne there serves _ _. absurd (alone s r id v n at is j u m ne there serves))
            (subst (Knowing after r.turn s.homes (set s.views id w) id w) (sym is) (
              record {
                caller = live.caller;
                base = live.base;
                front = (front_refl after, refl);
                reached = reach;
                joined = each_map (IsJoined by r.log s.views) (IsJoined by after (set s.views id w)) (joined_to by r.log after s.views (set s.views id w) a.grows spent) v.joined live.joined;
              },
              k.1,
              k.2,
              refl,
              k.4,
            ))
            (λ m e j u ne there b. ne (r.apart j id m u v there at b e))
            (subst (IsHome by history base about after (set s.views id w)) (sym k.4) (id, w, n, set_here s.views id w (at_within s.views id v at), is))
            (λ c own. let same_caller : c ≡ v.caller = let l = live.caller in omega arith in
            subst (λ (d : ℕ). NumberedFrom by 0 (of by d after)) (sym same_caller) (a.numbered (r.numbered v.caller))),
        (refl, λ other e. let one = same_held value other (sym held ∙ e) in λ i. record v { front = history (one i) }),
      )

  -- 5 and 6: the seat gives the slot back, and the next number is served
  pub hands_on : (slots id : ℕ) (me : M) (n : ℕ) (value : T) → me.0.stage ≡ Serving n → me.1 ≡ (0, Some value) ∷ [] → me.0.front ≡ history value → me.0.base ≡ Some (base value)
      → Allows Rule slots id me 1 (λ k. (k + 1) % 2 ^ 64) (handed_on me)
  hands_on slots id me n value is held seen based s r _ at _ =
      let v : V = me.0 in let k = knows_at s r id v (Serving n) at is in let live = k.0 in
      let alive = not_spent v (Serving n) is (λ e. cc) in
      let w : V = record v { stage = Resting } in
      let down : waiting s.views ≡ waiting (set s.views id w) + 1 = let t = waiting_set s r id v w at alive in let z : waits v.stage ≡ 1 = ap waits is in omega arith in
      let x : ℕ = (get_or s.words 1 0 + 1) % 2 ^ 64 in let wide = r.wide in
      let g : r.turn + waiting s.views ≡ (r.turn + 1) + waiting (set s.views id w) = omega arith in
      let base_is : base value ≡ about = let both : Some (base value) ≡ Some about = sym based ∙ live.base in cc in
      let homes_is : set s.homes 0 (some (Some value)) ≡ some (Some value) ∷ [] = ap (λ (hs : Homes). set hs 0 (some (Some value))) k.4 in
      let rule : Rule record { words = set s.words 1 x; homes = some (Some value) ∷ []; views = set s.views id w } = moved s r id v w at alive (set s.words 1 x) (some (Some value) ∷ []) r.log (r.turn + 1)
      (length-set s.words 1 x ∙ wide)
      (get_or-set_other s.words 1 0 x 0 (λ e. omega arith) ∙ (r.ticket ∙ ap (λ (m : ℕ). m % 2 ^ 64) g))
      (get_or-set_same s.words 1 x 0 (omega arith) ∙ (ap (λ (m : ℕ). (m + 1) % 2 ^ 64) r.serving ∙ mod-add-mod r.turn (2 ^ 64) 1))
      (get_or-set_other s.words 1 2 x 0 (λ e. omega arith) ∙ r.count)
      refl (front_refl r.log) (λ c _. refl)
      (λ j u m ne there waits_m low high.
      let other : m ≢ r.turn = λ e. ne (r.apart j id m u v there at (subst (λ (st : Stage). HasNumber st m) (sym waits_m) refl) (subst (λ (st : Stage). HasNumber st m) (sym is) (k.2 ∙ sym e))) in
      (omega arith, omega arith))
      (λ j u m ne there serves _ _. absurd (alone s r id v n at is j u m ne there serves))
      (restage r.log (set s.views id w) id v Resting (live_still s r.log id v w at alive id v live))
      (λ m e j u ne there b. e)
      (sym seen ∙ k.3, base_is)
      (λ c _. r.numbered c) in (
        w,
        gives,
        tt,
        subst (λ (hs : Homes). Rule record { words = set s.words 1 x; homes = hs; views = set s.views id w })
            (sym homes_is ∙ sym (ap (put_back s.homes) held)) rule,
        (ap rest held, refl),
      )

  -- 7: the seat learns a length that the history has reached
  pub reaches : (slots id : ℕ) (me : M) → me.0.stage ≡ Resting → Allows Rule slots id me 2 (λ n. n) (reached me)
  reaches slots id me rests s r _ at _ =
      let v : V = me.0 in let found : ℕ = get_or s.words 2 0 in let w : V = record v { reached = found } in
      let alive = not_spent v Resting rests (λ e. cc) in
      let live = knows_at s r id v Resting at rests in
      let l = live_still s r.log id v w at alive id v live in
      let up : waiting (set s.views id w) ≡ waiting s.views = let t = waiting_set s r id v w at alive in omega arith in
      let count = r.count in let front = front_length v.front r.log live.front.0 in let before = live.reached in (
        w,
        keeps,
        tt,
        same_words s 2 s.homes (set s.views id w) (moved s r id v w at alive s.words s.homes r.log r.turn r.wide
            (r.ticket ∙ ap (λ (m : ℕ). (r.turn + m) % 2 ^ 64) (sym up)) r.serving r.count
            refl (front_refl r.log) (λ c _. refl)
            (λ j u m _ _ _ low high. (low, omega arith))
            (λ j u m _ _ _ _ h. (refl, refl, h))
            (subst (Knowing r.log r.turn s.homes (set s.views id w) id w) (sym rests) (record { caller = l.caller; base = l.base; front = l.front; reached = omega arith; joined = l.joined }))
            (λ m e j u ne there b. ne (r.apart j id m u v there at b e))
            (home_stays r.log s.views id v w at (λ m e. let bad : Resting ≡ Serving m = sym rests ∙ e in cc) s.homes r.home)
            (λ c _. r.numbered c)),
        (refl, refl, omega arith, omega arith),
      )

  carry : (log : List E) (turn : ℕ) (homes : Homes) (views : List V) (i j : ℕ) (v u : V) → i ≡ j → v ≡ u → Knowing log turn homes views i v v.stage → Knowing log turn homes views j u u.stage
  carry log turn homes views i j v u p q h = subst (λ (x : ℕ × V). Knowing log turn homes views x.0 x.1 x.1.stage) (λ k. (p k, q k)) h

  -- 8: the first seat makes one for the next caller
  pub splits : (id : ℕ) (v : V) (k : ℕ) → v.stage ≡ Dealing k → 0 < v.parts → k < terms.callers → Splits Rule id v (after_giving v) (newcomer v)
  splits id v k is part more s r at =
      let left : V = after_giving v in let right : V = newcomer v in let views' : List V = set s.views id left ++ right ∷ [] in
      let h = knows_at s r id v (Dealing k) at is in
      let alive = not_spent v (Dealing k) is (λ e. cc) in
      let given : given_of v.stage ≡ k = ap given_of is in
      let len : length views' ≡ length s.views + 1 = length-append (set s.views id left) (right ∷ []) ∙ ap (λ (n : ℕ). n + 1) (length-set s.views id left) in
      let short : length s.views ≡ k + 1 = sym h.1 in
      let spent : (c : ℕ) → IsSpent s.views c → IsSpent views' c × (of by c r.log ≡ of by c r.log) = λ c x. let y = (spent_stays by s.views id v left at alive c x).1 in
      ((y.0, at_longer (set s.views id left) (right ∷ []) (c + 1) y.0 y.1, y.2), refl) in
      let up : waiting views' ≡ waiting s.views =
      let p = total_push waits_of (set s.views id left) right in let t = total_set waits_of s.views id v left at in let z : waits v.stage ≡ 0 = ap waits is in omega arith in
      let sums : total parts_of views' ≡ terms.callers =
      let p = total_push parts_of (set s.views id left) right in let t = total_set parts_of s.views id v left at in let shares = r.shares in omega arith in
      let Cases : ℕ → V → Type 0 = λ j u. ((j ≡ id) × (left ≡ u)) ⊎ (((j ≢ id) × (get_elem? s.views j ≡ some u)) ⊎ ((j ≡ length s.views) × (right ≡ u))) in
      let cases : (j : ℕ) (u : V) → get_elem? views' j ≡ some u → Cases j u = λ j u there. ⊎_elim
      (λ t. ⊎_elim inl (λ q. inr (inl q)) (at_set s.views id j left u t))
      (λ t. inr (inr (t.0 ∙ length-set s.views id left, t.1)))
      (at_push (set s.views id left) right j u there) in
      let numbered : (j n : ℕ) (u : V) → get_elem? views' j ≡ some u → HasNumber u.stage n → get_elem? s.views j ≡ some u = λ j n u there b. ⊎_elim
      (λ t. absurd (subst (λ (z : V). HasNumber z.stage n) (sym t.1) b))
      (λ t. ⊎_elim (λ q. q.1) (λ q. absurd (subst (λ (z : V). HasNumber z.stage n) (sym q.1) b)) t)
      (cases j u there) in
      record {
        log = r.log;
        turn = r.turn;
        wide = r.wide;
        few = r.few;
        ticket = r.ticket ∙ ap (λ (m : ℕ). (r.turn + m) % 2 ^ 64) (sym up);
        serving = r.serving;
        count = r.count;
        shares = sums;
        room = omega arith;
        each = λ j u there. ⊎_elim
            (λ t. carry r.log r.turn s.homes views' id j left u (sym t.0) t.1
            (h.0, (let g : (given_of v.stage + 1) + 1 ≡ length views' = omega arith in g), h.2))
            (λ t. ⊎_elim
            (λ q. others_know r.log r.log r.turn r.turn s.homes s.homes s.views views' j u
            (λ l. live_to by r.log r.log s.views views' (front_refl r.log) spent about j u refl l)
            (λ e. absurd (q.0 (e ∙ sym h.0)))
            (λ n _ low high. (low, omega arith)) (λ n _ _ d. (refl, refl, d)) u.stage refl (r.each j u q.1))
            (λ q. carry r.log r.turn s.homes views' (length s.views) j right u (sym q.0) q.1 (record {
              caller = (let g : given_of v.stage + 1 ≡ length s.views = omega arith in g);
              base = h.2;
              front = ((r.log, refl), r.unused (given_of v.stage) (omega arith));
              reached = omega arith;
              joined = tt;
            }))
            t)
            (cases j u there);
        apart = λ i j n x y here there a b. r.apart i j n x y (numbered i n x here a) (numbered j n y there b) a b;
        home = home_longer r.log (set s.views id left) right s.homes (home_stays r.log s.views id v left at (λ m e. let bad : Dealing k ≡ Serving m = sym is ∙ e in cc) s.homes r.home);
        numbered = r.numbered;
        unused = λ c far. r.unused c (omega arith);
      }

  -- 9: the seat takes in what another knows
  pub joins : (id : ℕ) (v : V) (other : ℕ) (w : V) → v.stage ≡ Resting → w.stage ≡ Resting → Joins Rule id v other w (both_views v w) spent_view
  joins id v other w rests rests' s r at apart there' =
      let both : V = both_views v w in let middle : List V = set s.views id both in let views' : List V = set middle other spent_view in
      let there : get_elem? s.views other ≡ some w = sym (set_else s.views id other both apart) ∙ there' in
      let live = knows_at s r id v Resting at rests in let live' = knows_at s r other w Resting there rests' in
      let within = at_within s.views other w there in
      let len : length views' ≡ length s.views = length-set middle other spent_view ∙ length-set s.views id both in
      let spent : (c : ℕ) → IsSpent s.views c → IsSpent views' c × (of by c r.log ≡ of by c r.log) = λ c x.
      let y = (spent_stays by s.views id v both at (not_spent v Resting rests (λ e. cc)) c x).1 in
      ((spent_stays by middle other w spent_view there' (not_spent w Resting rests' (λ e. cc)) c y).1, refl) in
      let to : (u : V) (j : ℕ) → IsLive by about r.log s.views j u → IsLive by about r.log views' j u = λ u j l. live_to by r.log r.log s.views views' (front_refl r.log) spent about j u refl l in
      let l = to v id live in
      let gone : IsSpent views' w.caller = (spent_view, subst (λ (k : ℕ). get_elem? views' k ≡ some spent_view) (sym live'.caller) (set_here middle other spent_view (let m = length-set s.views id both in omega arith)), refl) in
      let up : waiting views' ≡ waiting s.views =
      let p = total_set waits_of middle other w spent_view there' in let t = total_set waits_of s.views id v both at in let z : waits w.stage ≡ 0 = ap waits rests' in omega arith in
      let sums : total parts_of views' ≡ terms.callers =
      let p = total_set parts_of middle other w spent_view there' in let t = total_set parts_of s.views id v both at in let shares = r.shares in omega arith in
      let Cases : ℕ → V → Type 0 = λ j u. ((j ≡ other) × (spent_view ≡ u)) ⊎ (((j ≡ id) × (both ≡ u)) ⊎ ((j ≢ id) × (get_elem? s.views j ≡ some u))) in
      let cases : (j : ℕ) (u : V) → get_elem? views' j ≡ some u → Cases j u = λ j u h. ⊎_elim inl (λ q. inr (at_set s.views id j both u q.1)) (at_set middle other j spent_view u h) in
      let numbered : (j n : ℕ) (u : V) → get_elem? views' j ≡ some u → HasNumber u.stage n → get_elem? s.views j ≡ some u = λ j n u h b. ⊎_elim
      (λ t. absurd (subst (λ (z : V). HasNumber z.stage n) (sym t.1) b))
      (λ t. ⊎_elim (λ q. absurd (subst (λ (st : Stage). HasNumber st n) rests (subst (λ (z : V). HasNumber z.stage n) (sym q.1) b))) (λ q. q.1) t)
      (cases j u h) in
      record {
        log = r.log;
        turn = r.turn;
        wide = r.wide;
        few = r.few;
        ticket = r.ticket ∙ ap (λ (m : ℕ). (r.turn + m) % 2 ^ 64) (sym up);
        serving = r.serving;
        count = r.count;
        shares = sums;
        room = let room = r.room in omega arith;
        each = λ j u h. ⊎_elim
            (λ t. carry r.log r.turn s.homes views' other j spent_view u (sym t.0) t.1 tt)
            (λ t. ⊎_elim
            (λ q. carry r.log r.turn s.homes views' id j both u (sym q.0) q.1 (subst (Knowing r.log r.turn s.homes views' id both) (sym rests) (record {
              caller = l.caller;
              base = l.base;
              front = l.front;
              reached = l.reached;
              joined = (record { spent = gone; front = live'.front; reached = live'.reached }, l.joined);
            })))
            (λ q. others_know r.log r.log r.turn r.turn s.homes s.homes s.views views' j u (to u j) (λ _. len)
            (λ n _ low high. (low, omega arith)) (λ n _ _ d. (refl, refl, d)) u.stage refl (r.each j u q.1))
            t)
            (cases j u h);
        apart = λ i j n x y h h' a b. r.apart i j n x y (numbered i n x h a) (numbered j n y h' b) a b;
        home = home_stays r.log middle other w spent_view there' (λ m e. let bad : Resting ≡ Serving m = sym rests' ∙ e in cc) s.homes
            (home_stays r.log s.views id v both at (λ m e. let bad : Resting ≡ Serving m = sym rests ∙ e in cc) s.homes r.home);
        numbered = r.numbered;
        unused = λ c far. r.unused c (omega arith);
      }

  only_one : (j : ℕ) (x u : V) → get_elem? (x ∷ []) j ≡ some u → (j ≡ 0) × (x ≡ u)
  only_one zero x u h = (refl, some-injective x u h)
  only_one (suc j) x u h = absurd (some-ne-none u (sym h))

  -- the table at the start
  pub opens : (value : T) → terms.first.value ≡ value → history value ≡ [] → terms.callers < 2 ^ 32 → Rule (opening (0 ∷ 0 ∷ 0 ∷ []) (Some value ∷ []) (first_view base terms))
  opens value is empty few = record {
    log = [];
    turn = 0;
    wide = refl;
    few = few;
    ticket = refl;
    serving = refl;
    count = refl;
    shares = omega arith;
    room = omega arith;
    each = λ j u h. let t = only_one j (first_view base terms) u h in carry [] 0 (some (Some value) ∷ []) (first_view base terms ∷ []) 0 j (first_view base terms) u (sym t.0) t.1 (refl, refl, refl);
    apart = λ i j n x y h h' a b. absurd (let t = only_one i (first_view base terms) x h in subst (λ (z : V). HasNumber z.stage n) (sym t.1) a);
    home = (empty, ap base (sym is));
    numbered = λ c. tt;
    unused = λ c _. refl;
  }

  -- the one seat with all parts finds the value at home
  pub closes : (id : ℕ) (v : V) (ws : List ℕ) (xs : List (Option T)) → v.stage ≡ Resting → v.parts ≡ terms.callers → Final (Seen Rule id v) ws xs
      → (value : T) × (get_elem? xs 0 ≡ some (Some value)) × IsClosed by history base terms v value
  closes id v ws xs rests all f =
      let s : St = f.0 in let r : Rule s = f.1.0 in let at : get_elem? s.views id ≡ some v = f.1.1 in
      let live = knows_at s r id v Resting at rests in
      let nobody : (j : ℕ) (u : V) (n : ℕ) → get_elem? s.views j ≡ some u → u.stage ≡ Serving n → ⊥ = λ j u n there serves.
      let other : id ≢ j = λ e. let both : v ≡ u = some-injective v u (sym at ∙ (ap (get_elem? s.views) e ∙ there)) in let bad : Resting ≡ Serving n = sym rests ∙ (ap (λ (z : V). z.stage) both ∙ serves) in cc in
      let two = total_two parts_of s.views id j v u other at there in let part = (knows_at s r j u (Serving n) there serves).1 in let shares = r.shares in omega arith in
      let home = at_home r.log s.views nobody s.homes r.home in
      let is : r.log ≡ history home.0 = sym home.2 in
      let room = r.room in (
        home.0,
        f.4 0 (Some home.0) (ap (λ hs. get_elem? hs 0) home.1),
        record {
          base_is = home.3;
          all = subst (λ (l : List E). Each (Ends by l) (v.joined ++ as_joined v ∷ [])) is
              (each_push (Ends by r.log) v.joined (as_joined v) (each_map (IsJoined by r.log s.views) (Ends by r.log) (λ o j. (j.front, j.reached)) v.joined live.joined) (live.front, live.reached));
          numbered = λ c. subst (λ (l : List E). NumberedFrom by 0 (of by c l)) is (r.numbered c);
          unused = λ c far. subst (λ (l : List E). of by c l ≡ []) is (r.unused c (omega arith));
        },
      )

  -- and what was in the slot is that value
  pub taken_out : (id : ℕ) (v : V) (ws : List ℕ) (xs : List (Option T)) (x : Option T) → v.stage ≡ Resting → v.parts ≡ terms.callers → Final (Seen Rule id v) ws xs → get_elem? xs 0 ≡ some x
      → (value : T) × (x ≡ Some value) × IsClosed by history base terms v value
  taken_out id v ws xs x rests all f at = let t = closes id v ws xs rests all f in (t.0, some-injective x (Some t.0) (sym at ∙ t.1), t.2)

  pub opens_with : (value : T) (xs : List (Option T)) → xs ≡ Some value ∷ [] → terms.first.value ≡ value → history value ≡ [] → terms.callers < 2 ^ 32 → Rule (opening (0 ∷ 0 ∷ 0 ∷ []) xs (first_view base terms))
  opens_with value xs one is empty few = subst (λ (l : List (Option T)). Rule (opening (0 ∷ 0 ∷ 0 ∷ []) l (first_view base terms))) (sym one) (opens value is empty few)
