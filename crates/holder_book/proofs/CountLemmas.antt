-- Counts of holds by path, where a hold comes or goes.
use Rattle.std.proofs.Common.{◌≡◌, ◌≢◌, ◌+◌, ◌-◌, ◌<◌, ◌≤◌, ℕ, zero, suc, ◌==◌, Bool, true, false, not, cond, List, [], ◌∷◌, ◌++◌, take, drop, get_or, length, inl, inr, refl, ◌∙◌, sym, ap, subst, arith, count_by}
use Rattle.std.proofs.lemmas.List.Sums.{sum_by-append, sum_by-cons, count_by-le-length}
use Rattle.std.proofs.lemmas.Bool.{le-leb, ne_eqb}
use Rattle.std.proofs.lemmas.List.{append-nil, append_assoc, take_all, drop_all}
use Rattle.std.proofs.lemmas.List.Elements.{filter-append}
use Rattle.std.proofs.lemmas.Bool.Decides.{eqb_tells}
use Rattle.std.proofs.Math.Seq.{drop-cons, take-suc}
use Rattle.std.specs.List.{filter}
use Rattle.std.specs.declared.option.Option.TheVariants.{Some}
use Rattle.mat_path.specs.Names.{same_names}
use Rattle.mat_path.proofs.SameNames.{same_names-eq, same_names-refl}
use Rattle.mat_model.specs.declared.book.Hold.{Hold}
use Rattle.mat_model.specs.Requests.{is_hold_of_other}
use Rattle.path_trie.specs.declared.entry.Entry.{Entry}
use Rattle.path_trie.specs.Entries.{put, value_at, without}
use Rattle.holder_book.specs.Counts.{AreCounted, count_at, count_or_none, is_on, positive, with_one_less}
use Rattle.path_trie.proofs.Values.{value_put, value_without}

-- ---- counting

counted_append : (p : List (List ℕ)) (xs ys : List Hold) → count_by (is_on p) (xs ++ ys) ≡ count_by (is_on p) xs + count_by (is_on p) ys
counted_append p xs ys = sum_by-append (λ (h : Hold). cond (is_on p h) 1 0) xs ys

counted_cons : (p : List (List ℕ)) (x : Hold) (ys : List Hold) → count_by (is_on p) (x ∷ ys) ≡ cond (same_names p x.path) 1 0 + count_by (is_on p) ys
counted_cons p x ys = sum_by-cons (λ (h : Hold). cond (is_on p h) 1 0) x ys

or_none : (n : ℕ) → count_or_none (positive n) ≡ n
or_none zero = refl
or_none (suc n) = refl

-- the count at a path is how many holds are on it
pub count_is : (holds : List Hold) (counts : List (Entry ℕ)) (p : List (List ℕ)) → AreCounted holds counts → count_at p counts ≡ count_by (is_on p) holds
count_is holds counts p are = ap count_or_none (are p) ∙ or_none (count_by (is_on p) holds)

-- it is no more than the holds
pub count_few : (holds : List Hold) (counts : List (Entry ℕ)) (p : List (List ℕ)) → AreCounted holds counts → count_at p counts ≤ length holds
count_few holds counts p are =
    let is = count_is holds counts p are in
    let few = count_by-le-length (is_on p) holds in omega (arith, is, few)

-- ---- a hold comes

pub counted_more : (holds : List Hold) (counts : List (Entry ℕ)) (new : Hold) → AreCounted holds counts
    → AreCounted (holds ++ new ∷ []) (put new.path (count_at new.path counts + 1) counts)
counted_more holds counts new are p = value_put p new.path (count_at new.path counts + 1) counts ∙ by (same_names p new.path) refl
  where
    more : count_by (is_on p) (holds ++ new ∷ []) ≡ count_by (is_on p) holds + cond (same_names p new.path) 1 0
    more =
        let a = counted_append p holds (new ∷ []) in
        let b = counted_cons p new [] in
        let c : count_by (is_on p) [] ≡ 0 = refl in omega (arith, a, b, c)

    by : (b : Bool) → same_names p new.path ≡ b
        → cond b (Some (count_at new.path counts + 1)) (value_at p counts) ≡ positive (count_by (is_on p) (holds ++ new ∷ []))
    by true same =
        let here : count_by (is_on p) (holds ++ new ∷ []) ≡ suc (count_at new.path counts) =
        let a = count_is holds counts new.path are in
        let b = ap (λ q. count_by (is_on q) holds) (same_names-eq p new.path same) in
        let c : ◌≡◌ {A = ℕ} (cond (same_names p new.path) 1 0) 1 = ap (λ (t : Bool). cond {A = ℕ} t 1 0) same in omega (arith, more, a, b, c) in
        let next : count_at new.path counts + 1 ≡ suc (count_at new.path counts) = omega arith in
        ap Some next ∙ ap positive (sym here)
    by false other =
        let same : count_by (is_on p) (holds ++ new ∷ []) ≡ count_by (is_on p) holds =
        let c : ◌≡◌ {A = ℕ} (cond (same_names p new.path) 1 0) 0 = ap (λ (t : Bool). cond {A = ℕ} t 1 0) other in omega (arith, more, c) in
        are p ∙ ap positive (sym same)

-- ---- a hold goes

value_less : (n : ℕ) (p q : List (List ℕ)) (counts : List (Entry ℕ))
    → value_at p (with_one_less n q counts) ≡ cond (same_names p q) (positive (n - 1)) (value_at p counts)
value_less zero p q counts = value_without p q counts
value_less (suc zero) p q counts = value_without p q counts
value_less (suc (suc n)) p q counts =
    ap (λ b. value_at p (cond b (put q (suc (suc n) - 1) counts) (without q counts))) (le-leb 2 (suc (suc n)) (omega arith))
    ∙ value_put p q (suc (suc n) - 1) counts
    ∙ ap (λ o. cond (same_names p q) o (value_at p counts)) (some_positive (suc (suc n) - 1) (omega arith))
  where
    some_positive : (k : ℕ) → 1 ≤ k → Some k ≡ positive k
    some_positive zero least = absurd (omega (arith, least))
    some_positive (suc k) least = refl

pub counted_less : (front : List Hold) (old : Hold) (back : List Hold) (counts : List (Entry ℕ)) → AreCounted (front ++ old ∷ back) counts
    → AreCounted (front ++ back) (with_one_less (count_at old.path counts) old.path counts)
counted_less front old back counts are p = value_less (count_at old.path counts) p old.path counts ∙ by (same_names p old.path) refl
  where
    fewer : (q : List (List ℕ)) → count_by (is_on q) (front ++ old ∷ back) ≡ count_by (is_on q) (front ++ back) + cond (same_names q old.path) 1 0
    fewer q =
        let a = counted_append q front (old ∷ back) in
        let b = counted_cons q old back in
        let c = counted_append q front back in omega (arith, a, b, c)

    by : (b : Bool) → same_names p old.path ≡ b
        → cond b (positive (count_at old.path counts - 1)) (value_at p counts) ≡ positive (count_by (is_on p) (front ++ back))
    by true same =
        let here : count_at old.path counts - 1 ≡ count_by (is_on p) (front ++ back) =
        let a = count_is (front ++ old ∷ back) counts old.path are in
        let b = fewer old.path in
        let c = ap (λ q. count_by (is_on q) (front ++ back)) (same_names-eq p old.path same) in
        let d : ◌≡◌ {A = ℕ} (cond (same_names old.path old.path) 1 0) 1 = ap (λ (t : Bool). cond {A = ℕ} t 1 0) (same_names-refl old.path) in omega (arith, a, b, c, d) in
        ap positive here
    by false other =
        let same : count_by (is_on p) (front ++ old ∷ back) ≡ count_by (is_on p) (front ++ back) =
        let a = fewer p in
        let c : ◌≡◌ {A = ℕ} (cond (same_names p old.path) 1 0) 0 = ap (λ (t : Bool). cond {A = ℕ} t 1 0) other in omega (arith, a, c) in
        are p ∙ ap positive same

-- the last hold goes
pub counted_without_last : (holds left : List Hold) (old : Hold) (counts : List (Entry ℕ)) → AreCounted holds counts → holds ≡ left ++ old ∷ []
    → AreCounted left (with_one_less (count_at old.path counts) old.path counts)
counted_without_last holds left old counts are is =
    subst (λ (hs : List Hold). AreCounted hs (with_one_less (count_at old.path counts) old.path counts)) (append-nil left)
    (counted_less left old [] counts (subst (λ (hs : List Hold). AreCounted hs counts) is are))

-- ---- all holds of a command go

-- the holds of which those up to a place that are a command's went
abbrev pub left_from : ℕ → ℕ → List Hold → List Hold
left_from command k holds = filter (is_hold_of_other command) (take k holds) ++ drop k holds

pub left_start : (command : ℕ) (holds : List Hold) → left_from command zero holds ≡ holds
left_start command holds = refl

pub left_end : (command : ℕ) (holds : List Hold) (k : ℕ) → k ≡ length holds → left_from command k holds ≡ filter (is_hold_of_other command) holds
left_end command holds k end =
    ap (λ n. left_from command n holds) end
    ∙ ap (λ hs. filter (is_hold_of_other command) hs ++ drop (length holds) holds) (take_all (length holds) holds (omega arith))
    ∙ ap (λ hs. filter (is_hold_of_other command) holds ++ hs) (drop_all (length holds) holds (omega arith))
    ∙ append-nil (filter (is_hold_of_other command) holds)

-- a hold of another command stays
pub left_other : (command : ℕ) (holds : List Hold) (k : ℕ) (d : Hold) (counts : List (Entry ℕ)) → k < length holds
    → is_hold_of_other command (get_or holds k d) ≡ true
    → AreCounted (left_from command k holds) counts → AreCounted (left_from command (suc k) holds) counts
left_other command holds k d counts within other = subst (λ (hs : List Hold). AreCounted hs counts) (same within other)
  where
    same : k < length holds → is_hold_of_other command (get_or holds k d) ≡ true → left_from command k holds ≡ left_from command (suc k) holds
    same within other =
        ap (λ hs. filter (is_hold_of_other command) (take k holds) ++ hs) (drop-cons holds k d within)
        ∙ sym (append_assoc (filter (is_hold_of_other command) (take k holds)) (get_or holds k d ∷ []) (drop (suc k) holds))
        ∙ ap (λ b. (filter (is_hold_of_other command) (take k holds) ++ cond b (get_or holds k d ∷ []) []) ++ drop (suc k) holds) (sym other)
        ∙ ap (λ hs. hs ++ drop (suc k) holds) (sym (filter-append (is_hold_of_other command) (take k holds) (get_or holds k d ∷ [])))
        ∙ ap (λ hs. filter (is_hold_of_other command) hs ++ drop (suc k) holds) (sym (take-suc holds k d within))

-- a hold of the command goes
pub left_less : (command : ℕ) (holds : List Hold) (k : ℕ) (d : Hold) (counts : List (Entry ℕ)) → k < length holds
    → is_hold_of_other command (get_or holds k d) ≡ false
    → AreCounted (left_from command k holds) counts
    → AreCounted (left_from command (suc k) holds) (with_one_less (count_at (get_or holds k d).path counts) (get_or holds k d).path counts)
left_less command holds k d counts within own are =
    subst (λ (hs : List Hold). AreCounted hs (with_one_less (count_at (get_or holds k d).path counts) (get_or holds k d).path counts)) after
    (counted_less (filter (is_hold_of_other command) (take k holds)) (get_or holds k d) (drop (suc k) holds) counts
    (subst (λ (hs : List Hold). AreCounted (filter (is_hold_of_other command) (take k holds) ++ hs) counts) (drop-cons holds k d within) are))
  where
    after : filter (is_hold_of_other command) (take k holds) ++ drop (suc k) holds ≡ left_from command (suc k) holds
    after =
        ap (λ hs. hs ++ drop (suc k) holds) (sym (append-nil (filter (is_hold_of_other command) (take k holds))))
        ∙ ap (λ b. (filter (is_hold_of_other command) (take k holds) ++ cond b (get_or holds k d ∷ []) []) ++ drop (suc k) holds) (sym own)
        ∙ ap (λ hs. hs ++ drop (suc k) holds) (sym (filter-append (is_hold_of_other command) (take k holds) (get_or holds k d ∷ [])))
        ∙ ap (λ hs. filter (is_hold_of_other command) hs ++ drop (suc k) holds) (sym (take-suc holds k d within))

-- the same of the hold that is looked at next
pub next_less : (command : ℕ) (holds : List Hold) (k : ℕ) (h : Hold) (old new : List (Entry ℕ)) → k < length holds → h ≡ get_or holds k h → h.command ≡ command
    → new ≡ with_one_less (count_at h.path old) h.path old
    → AreCounted (left_from command k holds) old → AreCounted (left_from command (k + 1) holds) new
next_less command holds k h old new within is own after are =
    let next : suc k ≡ k + 1 = omega arith in
    let gone : is_hold_of_other command h ≡ false = ap (λ c. not (c == command)) own ∙ ap not (itself command) in
    subst (λ (n : ℕ). AreCounted (left_from command n holds) new) next
    (subst (λ (counts : List (Entry ℕ)). AreCounted (left_from command (suc k) holds) counts) (sym after)
    (subst (λ (hold : Hold). AreCounted (left_from command (suc k) holds) (with_one_less (count_at hold.path old) hold.path old)) (sym is)
    (left_less command holds k h old within (ap (is_hold_of_other command) (sym is) ∙ gone) are)))
  where
    itself : (n : ℕ) → (n == n) ≡ true
    itself n = elim (eqb_tells n n) [ inl so ↦ so.0 | inr other ↦ absurd (other.1 refl) ]

pub next_other : (command : ℕ) (holds : List Hold) (k : ℕ) (h : Hold) (old new : List (Entry ℕ)) → k < length holds → h ≡ get_or holds k h → h.command ≢ command
    → new ≡ old
    → AreCounted (left_from command k holds) old → AreCounted (left_from command (k + 1) holds) new
next_other command holds k h old new within is other after are =
    let next : suc k ≡ k + 1 = omega arith in
    let stays : is_hold_of_other command h ≡ true = ap not (ne_eqb h.command command other) in
    subst (λ (n : ℕ). AreCounted (left_from command n holds) new) next
    (subst (λ (counts : List (Entry ℕ)). AreCounted (left_from command (suc k) holds) counts) (sym after)
    (left_other command holds k h old within (ap (is_hold_of_other command) (sym is) ∙ stays) are))

-- a hold comes, where the list and the counts are given by what they became
pub counted_pushed : (holds news : List Hold) (counts more : List (Entry ℕ)) (new : Hold) → AreCounted holds counts → news ≡ holds ++ new ∷ []
    → more ≡ put new.path (count_at new.path counts + 1) counts → AreCounted news more
counted_pushed holds news counts more new are list is =
    subst (λ (hs : List Hold). AreCounted hs more) (sym list)
    (subst (λ (cs : List (Entry ℕ)). AreCounted (holds ++ new ∷ []) cs) (sym is) (counted_more holds counts new are))
