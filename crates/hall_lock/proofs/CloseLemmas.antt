-- One seat gathers what all passes know.
use Rattle.std.proofs.Common.{◌≡◌, suc, zero, ◌+◌, List, [], ◌∷◌, ◌++◌, map, All, length, get_or, sym, ap, ◌∙◌, subst, arith, append_assoc, length-append}
use Rattle.std.proofs.lemmas.List.{get_or_append_left}
use mathlib.Core.List.{map-append}
use Rattle.atomic_table.specs.Seated.{TableId}
use Rattle.hall_lock.specs.declared.By.{By}
use Rattle.hall_lock.specs.declared.seat.Joined.{Joined}
use Rattle.hall_lock.specs.Passes.{PassFacts}
use Rattle.hall_lock.specs.Order.{Each}
use Rattle.hall_lock.specs.Told.{ended, Ends}
use Rattle.hall_lock.specs.Turns.{Keeps}

module _ {A C : Type 0} (f : A → C) where
  pub gathers_first : (items rest : List A) (last : A) (joined : List C) (o : C) → items ≡ rest ++ last ∷ [] → joined ≡ [] → o ≡ f last → map f rest ++ (joined ++ o ∷ []) ≡ map f items
  gathers_first items rest last joined o is none same = ap (λ l. map f rest ++ (l ++ o ∷ [])) none ∙ (ap (λ c. map f rest ++ c ∷ []) same ∙ (sym (map-append f rest (last ∷ [])) ∙ ap (map f) (sym is)))

  pub gathers_more : (items rest : List A) (x : A) (all joined joined' : List C) (o o' : C) → items ≡ rest ++ x ∷ [] → joined' ≡ f x ∷ joined → o' ≡ o
      → map f items ++ (joined ++ o ∷ []) ≡ all → map f rest ++ (joined' ++ o' ∷ []) ≡ all
  gathers_more items rest x all joined joined' o o' is more same h =
      (λ i. map f rest ++ (more i ++ same i ∷ []))
      ∙ (sym (append_assoc (map f rest) (f x ∷ []) (joined ++ o ∷ [])) ∙ (ap (λ l. l ++ (joined ++ o ∷ [])) (sym (map-append f rest (x ∷ [])) ∙ ap (map f) (sym is)) ∙ h))

  pub each_to_all : (P : C → Type 0) (Q : A → Type 0) → ((x : A) → P (f x) → Q x) → (xs : List A) → Each P (map f xs) → All Q xs
  each_to_all P Q to [] e k d small = absurd (omega arith)
  each_to_all P Q to (x ∷ xs) e zero d small = to x e.0
  each_to_all P Q to (x ∷ xs) e (suc k) d small = each_to_all P Q to xs e.1 k d (omega arith)

pub one_longer : {A : Type 0} (items rest : List A) (x : A) → items ≡ rest ++ x ∷ [] → length items ≡ length rest + 1
one_longer items rest x is = ap length is ∙ length-append rest (x ∷ [])

module _ {A : Type 0} (P : A → Type 0) where
  pub all_rest : (items rest : List A) (x : A) → items ≡ rest ++ x ∷ [] → All P items → All P rest
  all_rest items rest x is all k d small =
      let long : length items ≡ length rest + 1 = one_longer items rest x is in
      subst P (ap (λ l. get_or l k d) is ∙ get_or_append_left rest (x ∷ []) d k small) (all k d (omega arith))

pub all_keep : {E B : Type 0} (by : E → By) (log : List E) (passes : List (PassFacts E B)) (all : List (Joined E)) → all ≡ map ended passes → Each (Ends by log) all → All (Keeps by log) passes
all_keep by log passes all is e = each_to_all ended (Ends by log) (Keeps by log) (λ x h. record { front = h.0; reached = h.1 }) passes (subst (Each (Ends by log)) is e)

pub rest_of_lock : {E B : Type 0} (lock : TableId) (items rest : List (PassFacts E B)) (x : PassFacts E B) → items ≡ rest ++ x ∷ [] → All (λ p. p.lock ≡ lock) items → All (λ p. p.lock ≡ lock) rest
rest_of_lock lock items rest x is all = all_rest (λ p. p.lock ≡ lock) items rest x is all
