-- What stands at each list of names once the numbers at one are changed, and once those at the first prefixes of one are.
use Rattle.std.proofs.Common.{◌≡◌, ◌+◌, ◌<◌, ◌≤◌, ℕ, suc, nat_lt, Bool, true, false, ◌&&◌, cond, List, [], ◌∷◌, ◌++◌, take, drop, length, length-append, Ordering, is_eq, refl, ◌∙◌, sym, ap, arith, Option, Some, None}
use Rattle.std.proofs.lemmas.Bool.{le-leb, leb-false, leb-true, lt-leb}
use Rattle.std.proofs.lemmas.List.{length-take-le, take-append-drop}
use Rattle.std.specs.BTreeMap.{BTreeMap, UpdatesBy}
use Rattle.std.specs.BTreeSet.{insert_key}
use Rattle.std.proofs.lemmas.Cmp.{eq_by_cmp_equiv}
use Rattle.std.specs.List.{filter}
use Rattle.std.specs.Map.{AreApart, IsKeyTest, KeepsOthers, lookup}
use Rattle.std.specs.Option.{option_map}
use Rattle.std.specs.Ordering.{nat_cmp}
use Rattle.std.specs.declared.alloc.Global.{Global}
use Rattle.std.specs.declared.vec.Vec.{Vec}
use Rattle.mat_path.specs.Names.{is_prefix, path_cmp, same_names}
use Rattle.mat_path.specs.Order.{same_names_ties}
use Rattle.mat_path.proofs.PathLemmas.{path_cmp_total, prefix_split}
use Rattle.mat_path.proofs.SameNames.{is_prefix-Decides, same_names-eq, same_names-sym}
use Rattle.ticket_book.specs.Below.{is_start, numbers_at}
use Rattle.ticket_book.specs.ByPath.{is_bare, is_other, numbers_less, numbers_with, some_list}

-- ---- one list of names

-- the order of the keys
abbrev by_names : Vec (List ℕ) Global → Vec (List ℕ) Global → Ordering
by_names key other = path_cmp key.items other.items

-- names that a key has aren't those of others
apart : (p q r : List (List ℕ)) → same_names p q ≡ false → is_eq (path_cmp p r) ≡ true → is_eq (path_cmp q r) ≡ false
apart p q r differ at =
    let same = same_names-eq p r (same_names_ties p r ∙ at) in
    sym (same_names_ties q r) ∙ same_names-sym q r ∙ ap (λ s. same_names s q) (sym same) ∙ differ

kept_others : {K X : Type 0} (eq : K → K → Bool) (test : K → Bool) (old new : List (K × X)) → KeepsOthers eq test old new → (other : K → Bool) → IsKeyTest eq other
    → AreApart test other → lookup other new ≡ lookup other old
unfolding KeepsOthers
kept_others eq test old new kept = kept

-- what stands at each list of names once it is changed at one
pub one_changed : (p : List (List ℕ)) (old new : BTreeMap (Vec (List ℕ) Global) (List ℕ)) (w : Option (List ℕ))
    → UpdatesBy by_names (λ (key : Vec (List ℕ) Global). path_cmp p key.items) old new w
    → (q : List (List ℕ)) → numbers_at q new ≡ cond (same_names p q) w (numbers_at q old)
one_changed p old new w updates q = by (same_names p q) refl
  where
    by : (b : Bool) → same_names p q ≡ b → numbers_at q new ≡ cond b w (numbers_at q old)
    by true same = ap (λ r. numbers_at r new) (sym (same_names-eq p q same)) ∙ updates.1
    by false differ =
        kept_others _ _ _ _ updates.3 _ (λ x y. (eq_by_cmp_equiv path_cmp_total).congr q x.items y.items) (λ key. apart p q key.items differ)

-- where what is put there is a function of what stood there
pub one_turned : (f : Option (List ℕ) → Option (List ℕ)) (p : List (List ℕ)) (old new : List (List ℕ) → Option (List ℕ)) (w : Option (List ℕ)) → w ≡ f (old p)
    → ((q : List (List ℕ)) → new q ≡ cond (same_names p q) w (old q))
    → (q : List (List ℕ)) → new q ≡ cond (same_names p q) (f (old q)) (old q)
one_turned f p old new w is changed q = changed q ∙ by (same_names p q) refl
  where
    by : (b : Bool) → same_names p q ≡ b → cond b w (old q) ≡ cond b (f (old q)) (old q)
    by true same = is ∙ ap (λ r. f (old r)) (same_names-eq p q same)
    by false differ = refl

-- ---- the first prefixes

-- there are none before the empty one
pub no_start : {X : Type 0} (names q : List (List ℕ)) (x y : X) → y ≡ cond (is_start 0 names q) x y
no_start names q x y = ap (λ b. cond b x y) (sym (none (is_prefix q names)))
  where
    none : (b : Bool) → (b && nat_lt (length q) 0) ≡ false
    none true = lt-leb (suc (length q)) 0 (omega arith)
    none false = refl

start_here : (k : ℕ) (names q : List (List ℕ)) → k ≤ length names → same_names (take k names) q ≡ true → (is_start k names q ≡ false) × (is_start (k + 1) names q ≡ true)
start_here k names q within same = (
  ap (λ b. is_prefix q names && b) (lt-leb (suc (length q)) k (omega (arith, size))) ∙ none (is_prefix q names),
  ap (λ b. b && nat_lt (length q) (k + 1)) front ∙ le-leb (suc (length q)) (k + 1) (omega (arith, size)),
)
  where
    is : take k names ≡ q
    is = same_names-eq (take k names) q same

    size : length q ≡ k
    size = ap (λ r. length r) (sym is) ∙ length-take-le k names within

    front : is_prefix q names ≡ true
    front = (is_prefix-Decides q names).1 (drop k names) (sym (take-append-drop k names) ∙ ap (λ r. r ++ drop k names) is)

    none : (b : Bool) → (b && false) ≡ false
    none true = refl
    none false = refl

start_other : (k : ℕ) (names q : List (List ℕ)) → same_names (take k names) q ≡ false → is_start (k + 1) names q ≡ is_start k names q
start_other k names q differ = by (is_prefix q names) refl
  where
    other : is_prefix q names ≡ true → length q ≡ k → ⊥
    other front size =
        let here : same_names q (take k names) ≡ true = ap (λ i. same_names q (take i names)) (sym size) ∙ front in
        let lost : true ≡ false = sym here ∙ same_names-sym q (take k names) ∙ differ in cc

    less : (length q ≡ k → ⊥) → (b : Bool) → nat_lt (length q) k ≡ b → nat_lt (length q) (k + 1) ≡ b
    less apart true l = let so = leb-true (suc (length q)) k l in le-leb (suc (length q)) (k + 1) (omega (arith, so))
    less apart false m = let so = leb-false (suc (length q)) k m in lt-leb (suc (length q)) (k + 1) (omega (arith, so, apart))

    by : (b : Bool) → is_prefix q names ≡ b → (b && nat_lt (length q) (k + 1)) ≡ (b && nat_lt (length q) k)
    by true front = less (other front) (nat_lt (length q) k) refl
    by false out = refl

-- what is chosen where the test holds
pub chosen : {X : Type 0} (b : Bool) (x y z : X) → b ≡ true → z ≡ cond b x y → z ≡ x
chosen b x y z holds is = is ∙ ap (λ t. cond t x y) holds

-- one prefix more is changed
pub next_start : (f : Option (List ℕ) → Option (List ℕ)) (names : List (List ℕ)) (k : ℕ) (old mid new : List (List ℕ) → Option (List ℕ)) → k ≤ length names
    → ((q : List (List ℕ)) → mid q ≡ cond (is_start k names q) (f (old q)) (old q))
    → ((q : List (List ℕ)) → new q ≡ cond (same_names (take k names) q) (f (mid q)) (mid q))
    → (q : List (List ℕ)) → new q ≡ cond (is_start (k + 1) names q) (f (old q)) (old q)
next_start f names k old mid new within before changed q = changed q ∙ by (same_names (take k names) q) refl
  where
    by : (b : Bool) → same_names (take k names) q ≡ b → cond b (f (mid q)) (mid q) ≡ cond (is_start (k + 1) names q) (f (old q)) (old q)
    by true same =
        let here = start_here k names q within same in
        ap f (before q ∙ ap (λ b. cond b (f (old q)) (old q)) here.0) ∙ ap (λ b. cond b (f (old q)) (old q)) (sym here.1)
    by false differ = before q ∙ ap (λ b. cond b (f (old q)) (old q)) (sym (start_other k names q differ))

-- they are all prefixes where they are more than the names
pub start_whole : (count : ℕ) (names q : List (List ℕ)) → length names < count → is_start count names q ≡ is_prefix q names
start_whole count names q more = by (is_prefix q names) refl
  where
    by : (b : Bool) → is_prefix q names ≡ b → (b && nat_lt (length q) count) ≡ b
    by true front =
        let size = ap (λ r. length r) (prefix_split q names front) in
        let sum = length-append q (drop (length q) names) in le-leb (suc (length q)) count (omega (arith, size, sum, more))
    by false out = refl

-- where nothing stands, and nothing is changed
pub none_turned : (f : Option (List ℕ) → Option (List ℕ)) (p : List (List ℕ)) (old new : List (List ℕ) → Option (List ℕ)) → None ≡ old p → f None ≡ None
    → ((q : List (List ℕ)) → new q ≡ old q)
    → (q : List (List ℕ)) → new q ≡ cond (same_names p q) (f (old q)) (old q)
none_turned f p old new none kept same q = same q ∙ by (same_names p q) refl
  where
    by : (b : Bool) → same_names p q ≡ b → old q ≡ cond b (f (old q)) (old q)
    by true is =
        let here : None ≡ old q = none ∙ ap old (same_names-eq p q is) in
        sym here ∙ sym kept ∙ ap f here
    by false differ = refl

-- ---- a number more

-- the first number, at names that are copied
pub first_put : (p key : List (List ℕ)) (n : ℕ) (v : List ℕ) (old new : List (List ℕ) → Option (List ℕ)) → key ≡ p → v ≡ insert_key nat_cmp [] n
    → ((q : List (List ℕ)) → new q ≡ cond (same_names key q) (Some v) (old q))
    → (q : List (List ℕ)) → new q ≡ cond (same_names p q) (numbers_with n None) (old q)
first_put p key n v old new is numbers put q =
    put q ∙ ap (λ r. cond (same_names r q) (Some v) (old q)) is ∙ ap (λ ns. cond (same_names p q) (Some ns) (old q)) numbers

-- one where none stands yet
pub more_first : (p : List (List ℕ)) (n : ℕ) (b : Bool) (old mid new : List (List ℕ) → Option (List ℕ)) → None ≡ old p → ((q : List (List ℕ)) → mid q ≡ old q)
    → ((q : List (List ℕ)) → new q ≡ cond b (cond (same_names p q) (numbers_with n None) (mid q)) (mid q))
    → (q : List (List ℕ)) → new q ≡ cond b (cond (same_names p q) (numbers_with n (old q)) (old q)) (old q)
more_first p n b old mid new none same put q =
    put q ∙ ap (λ o. cond b (cond (same_names p q) (numbers_with n None) o) o) (same q) ∙ by (same_names p q) refl
  where
    by : (s : Bool) → same_names p q ≡ s → cond b (cond s (numbers_with n None) (old q)) (old q) ≡ cond b (cond s (numbers_with n (old q)) (old q)) (old q)
    by true is = ap (λ o. cond b (numbers_with n o) (old q)) (none ∙ ap old (same_names-eq p q is))
    by false differ = refl

-- one beside others
pub more_put : (p : List (List ℕ)) (n : ℕ) (b : Bool) (w v : List ℕ) (old new : List (List ℕ) → Option (List ℕ)) → Some w ≡ old p → v ≡ cond b (insert_key nat_cmp w n) w
    → ((q : List (List ℕ)) → new q ≡ cond (same_names p q) (Some v) (old q))
    → (q : List (List ℕ)) → new q ≡ cond b (cond (same_names p q) (numbers_with n (old q)) (old q)) (old q)
more_put p n b w v old new some numbers put q = put q ∙ by (same_names p q) refl b numbers
  where
    by : (s : Bool) → same_names p q ≡ s → (b : Bool) → v ≡ cond b (insert_key nat_cmp w n) w
        → cond s (Some v) (old q) ≡ cond b (cond s (numbers_with n (old q)) (old q)) (old q)
    by true is true e = ap (λ ns. Some ns) e ∙ ap (numbers_with n) (some ∙ ap old (same_names-eq p q is))
    by true is false e = ap (λ ns. Some ns) e ∙ some ∙ ap old (same_names-eq p q is)
    by false differ true e = refl
    by false differ false e = refl

-- ---- a number less

-- nothing is left where the numbers were the one alone
pub less_bare : (n : ℕ) (p : List (List ℕ)) (old mid new : List (List ℕ) → Option (List ℕ))
    → ((q : List (List ℕ)) → mid q ≡ cond (same_names p q) (option_map (filter (is_other n)) (old q)) (old q)) → true ≡ is_bare (mid p)
    → ((q : List (List ℕ)) → new q ≡ cond (same_names p q) None (mid q))
    → (q : List (List ℕ)) → new q ≡ cond (same_names p q) (numbers_less n (old q)) (old q)
less_bare n p old mid new before bare gone q = gone q ∙ by (same_names p q) refl (before q)
  where
    of_list : (ns : List ℕ) → true ≡ is_bare (Some ns) → None ≡ some_list ns
    of_list [] e = refl
    of_list (m ∷ ns) e = cc

    none : (o : Option (List ℕ)) → true ≡ is_bare (option_map (filter (is_other n)) o) → None ≡ numbers_less n o
    none None e = cc
    none (Some ns) e = of_list (filter (is_other n) ns) e

    by : (b : Bool) → same_names p q ≡ b → mid q ≡ cond b (option_map (filter (is_other n)) (old q)) (old q) → cond b None (mid q) ≡ cond b (numbers_less n (old q)) (old q)
    by true same is = none (old q) (bare ∙ ap (λ r. is_bare (mid r)) (same_names-eq p q same) ∙ ap is_bare is)
    by false differ is = is

-- the others are left there
pub less_left : (n : ℕ) (p : List (List ℕ)) (old mid : List (List ℕ) → Option (List ℕ))
    → ((q : List (List ℕ)) → mid q ≡ cond (same_names p q) (option_map (filter (is_other n)) (old q)) (old q)) → false ≡ is_bare (mid p)
    → (q : List (List ℕ)) → mid q ≡ cond (same_names p q) (numbers_less n (old q)) (old q)
less_left n p old mid before filled q = by (same_names p q) refl (before q)
  where
    of_list : (ns : List ℕ) → false ≡ is_bare (Some ns) → Some ns ≡ some_list ns
    of_list [] e = cc
    of_list (m ∷ ns) e = refl

    some : (o : Option (List ℕ)) → false ≡ is_bare (option_map (filter (is_other n)) o) → option_map (filter (is_other n)) o ≡ numbers_less n o
    some None e = refl
    some (Some ns) e = of_list (filter (is_other n) ns) e

    by : (b : Bool) → same_names p q ≡ b → mid q ≡ cond b (option_map (filter (is_other n)) (old q)) (old q) → mid q ≡ cond b (numbers_less n (old q)) (old q)
    by true same is = is ∙ some (old q) (filled ∙ ap (λ r. is_bare (mid r)) (same_names-eq p q same) ∙ ap is_bare is)
    by false differ is = is
