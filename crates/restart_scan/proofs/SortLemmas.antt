-- Kept rows beside a disk, sorted one by one.
use Rattle.std.proofs.Common.{◌≡◌, ◌≤◌, ◌||◌, ℕ, Bool, true, false, not, cond, List, [], ◌∷◌, ◌++◌, map, filter, append-nil, append_assoc, Option, None, Some, refl, sym, ap, ap₂, subst, ◌∙◌, inl, inr, arith, ◌⊎◌}
use Rattle.std.proofs.lemmas.Bool.{and_parts, both_ways, false_from_ne_true, not-true}
use Rattle.std.proofs.lemmas.List.{map_push}
use Rattle.std.proofs.lemmas.List.Elements.{filter-append}
use Rattle.std.specs.List.{Contains, list_all}
use Rattle.std.specs.Option.{option_map}
use Rattle.mat_io.specs.Causes.{HasCause, Rose}
use Rattle.mat_path.specs.Names.{overlap, same_names}
use Rattle.mat_path.proofs.Elements.{contains_cases, contains_first, contains_more, filtered_contains, mapped_contains, none_passes}
use Rattle.mat_path.proofs.Overlaps.{overlap-refl}
use Rattle.mat_path.proofs.SameNames.{same_names-eq, same_names-refl}
use Rattle.mat_tree.specs.Parts.{Part, declared_by}
use Rattle.mat_tree.specs.declared.flat.Flat.{Flat}
use Rattle.mat_model.specs.Kept.{KeptRow}
use Rattle.mat_model.specs.Openings.{is_found, is_lost}
use Rattle.mat_model.specs.Rows.{comes_before}
use Rattle.model_laws.specs.KeptRules.{path_of_kept}
use Rattle.model_laws.proofs.Elements.{contains_all}
use Rattle.region_port.specs.Calls.{Paths}
use Rattle.restart_scan.specs.Looks.{HasStill, IsNoRougher, IsSettledAt, TellsTreeAt}
use Rattle.restart_scan.specs.Opened.{are_kept_apart, is_kept_before}
use Rattle.restart_scan.specs.Rows.{kept_view}
use Rattle.restart_scan.specs.declared.kept.Kept.{Kept}
use Rattle.restart_scan.specs.Sorting.{AreSettled, AreSorted, IsLookedIn}

-- ---- a disk that is looked at

pub still_here : (content : Option Part) → HasStill content content
still_here None = refl
still_here (Some content) = λ path. refl

pub still_later : (a b c : Option Part) → HasStill a b → HasStill b c → HasStill a c
still_later None b c first second = subst (λ (x : Option Part). HasStill x c) first second
still_later (Some x) None c first second = absurd first
still_later (Some x) (Some y) None first second = absurd second
still_later (Some x) (Some y) (Some z) first second = λ path. second path ∙ first path

pub no_rougher_here : (rough : Paths) → IsNoRougher rough rough
no_rougher_here rough = λ path. inl refl

pub no_rougher_later : (a b c : Paths) → IsNoRougher a b → IsNoRougher b c → IsNoRougher a c
no_rougher_later a b c first second = λ path.
    elim (second path) [
      | inl same ↦
          elim (first path) [
            | inl too ↦ inl (same ∙ too)
            | inr none ↦ inr (same ∙ none)
          ]
      | inr none ↦ inr none
    ]

pub still_settled : (place : List (List ℕ)) (before now : Paths) → IsSettledAt place before → IsNoRougher before now → IsSettledAt place now
still_settled place before now settled later = λ path within.
    elim (later path) [
      | inl same ↦ same ∙ settled path within
      | inr none ↦ none
    ]

-- what a look tells of a disk it tells of what the disk had before
pub told_before : (place : List (List ℕ)) (nodes : List Flat) (before now : Option Part) (has : Bool) → HasStill before now →
    TellsTreeAt place nodes now has → TellsTreeAt place nodes before has
told_before place nodes None now has still tells = tt
told_before place nodes (Some x) None has still tells = absurd still
told_before place nodes (Some x) (Some y) true still tells = λ rel. ap (option_map declared_by) (sym (still (place ++ rel))) ∙ tells rel
told_before place nodes (Some x) (Some y) false still tells = λ tree. tells (λ rel. ap (option_map declared_by) (still (place ++ rel)) ∙ tree rel)

-- a call that comes later has its cause still
pub later_cause : (a b c : ℕ) (failed : Bool) → a ≤ b → HasCause b c failed → HasCause a c failed
later_cause a b c failed first cause = record {
  later = omega (arith, first, cause.later);
  rose = λ it. rises (cause.rose it);
}
  where
    rises : Rose b c → Rose a c
    rises h = omega (arith, first, h)

-- ---- rows that are apart

-- a row behind others is at another path
pub last_elsewhere : (some : List KeptRow) (one : KeptRow) (rest : List KeptRow) (other : KeptRow) → are_kept_apart (some ++ one ∷ rest) ≡ true →
    Contains some other → same_names other.path one.path ≡ false
last_elsewhere [] one rest other apart among = absurd (nothing among)
  where
    nothing : Contains [] other → ⊥
    nothing (k, within, at) = absurd (omega arith)
last_elsewhere (row ∷ some) one rest other apart among =
    let parts = and_parts (list_all (is_kept_before row) (some ++ one ∷ rest)) (are_kept_apart (some ++ one ∷ rest)) apart in
    by parts.0 (λ there. last_elsewhere some one rest other parts.1 there) (contains_cases row some other among)
  where
    in_middle : (xs : List KeptRow) → Contains (xs ++ one ∷ rest) one
    in_middle [] = contains_first one rest
    in_middle (x ∷ xs) = contains_more x (xs ++ one ∷ rest) one (in_middle xs)

    differs : list_all (is_kept_before row) (some ++ one ∷ rest) ≡ true → same_names row.path one.path ≡ false
    differs all =
        let before = contains_all (is_kept_before row) (some ++ one ∷ rest) one all (in_middle some) in
        false_from_ne_true (same_names row.path one.path) (λ same.
        both_ways (overlap row.path one.path) (not-true (overlap row.path one.path) (second_of before))
        (subst (λ (p : List (List ℕ)). overlap row.path p ≡ true) (same_names-eq row.path one.path same) (overlap-refl row.path)))
      where
        second_of : is_kept_before row one ≡ true → not (overlap row.path one.path) ≡ true
        second_of h = (and_parts (comes_before row.path one.path) (not (overlap row.path one.path)) h).1

    by : list_all (is_kept_before row) (some ++ one ∷ rest) ≡ true → (Contains some other → same_names other.path one.path ≡ false) →
        (row ≡ other) ⊎ Contains some other → same_names other.path one.path ≡ false
    by all more (inl same) = subst (λ (r : KeptRow). same_names r.path one.path ≡ false) same (differs all)
    by all more (inr there) = more there

-- tests that agree on all elements leave the same
pub filter_agree : {X : Type 0} (p q : X → Bool) (xs : List X) → ((x : X) → Contains xs x → p x ≡ q x) → filter p xs ≡ filter q xs
filter_agree p q [] each = refl
filter_agree {X} p q (x ∷ xs) each =
    ap₂ (λ (b : Bool) (l : List X). cond b (x ∷ l) l) (each x (contains_first x xs)) (filter_agree p q xs (λ y among. each y (contains_more x xs y among)))

-- ---- one row more

-- a path more is lost
lost_push : (lost : List (List (List ℕ))) (p : List (List ℕ)) (one : KeptRow) → is_lost (lost ++ p ∷ []) one ≡ (is_lost lost one || same_names one.path p)
lost_push [] p one = or_false (same_names one.path p)
  where
    or_false : (b : Bool) → (b || false) ≡ b
    or_false true = refl
    or_false false = refl
lost_push (q ∷ lost) p one =
    ap (λ (b : Bool). same_names one.path q || b) (lost_push lost p one) ∙ assoc (same_names one.path q) (is_lost lost one) (same_names one.path p)
  where
    assoc : (a b c : Bool) → (a || (b || c)) ≡ ((a || b) || c)
    assoc true b c = refl
    assoc false b c = refl

-- a row at another path is lost as it was
lost_as_before : (lost : List (List (List ℕ))) (p : List (List ℕ)) (one : KeptRow) → same_names one.path p ≡ false →
    is_lost (lost ++ p ∷ []) one ≡ is_lost lost one
lost_as_before lost p one apart = lost_push lost p one ∙ ap (λ (b : Bool). is_lost lost one || b) apart ∙ or_false (is_lost lost one)
  where
    or_false : (b : Bool) → (b || false) ≡ b
    or_false true = refl
    or_false false = refl

-- the row at the last of the lost paths is lost
lost_last : (lost : List (List (List ℕ))) (one : KeptRow) → is_lost (lost ++ one.path ∷ []) one ≡ true
lost_last lost one = lost_push lost one.path one ∙ ap (λ (b : Bool). is_lost lost one || b) (same_names-refl one.path) ∙ or_true (is_lost lost one)
  where
    or_true : (b : Bool) → (b || true) ≡ true
    or_true true = refl
    or_true false = refl

-- a row at another path than those of some, of which the lost ones are, isn't lost
not_lost : (some : List KeptRow) (lost : List (List (List ℕ))) (one : KeptRow) → lost ≡ map path_of_kept (filter (is_lost lost) some) →
    ((other : KeptRow) → Contains some other → same_names other.path one.path ≡ false) → is_lost lost one ≡ false
not_lost some lost one order apart =
    none_passes (same_names one.path) lost (λ p named.
    let (other, within, is) = mapped_contains path_of_kept (filter (is_lost lost) some) p (subst (λ (l : List (List (List ℕ))). Contains l p) order named) in
    false_from_ne_true (same_names one.path p) (λ same.
    both_ways (same_names other.path one.path) (apart other (filtered_contains (is_lost lost) some other within).0)
    (subst (λ (q : List (List ℕ)). same_names q one.path ≡ true) (sym is)
    (subst (λ (q : List (List ℕ)). same_names p q ≡ true) (sym (same_names-eq one.path p same)) (same_names-refl p)))))

-- what a push contains
push_cases : (some : List KeptRow) (one other : KeptRow) → Contains (some ++ one ∷ []) other → Contains some other ⊎ (one ≡ other)
push_cases [] one other among =
    elim (contains_cases one [] other among) [
      | inl same ↦ inr same
      | inr there ↦ inl there
    ]
push_cases (row ∷ some) one other among =
    by (contains_cases row (some ++ one ∷ []) other among) (λ there. push_cases some one other there)
  where
    by : (row ≡ other) ⊎ Contains (some ++ one ∷ []) other → (Contains (some ++ one ∷ []) other → Contains some other ⊎ (one ≡ other)) →
        Contains (row ∷ some) other ⊎ (one ≡ other)
    by (inl same) more = inl (subst (λ (r : KeptRow). Contains (row ∷ some) r) same (contains_first row some))
    by (inr there) more =
        elim (more there) [
          | inl here ↦ inl (contains_more row some other here)
          | inr same ↦ inr same
        ]

-- a row more is found
found_more : (content : Option Part) (some : List KeptRow) (one : KeptRow) (found : List KeptRow) (lost : List (List (List ℕ))) →
    ((other : KeptRow) → Contains some other → same_names other.path one.path ≡ false) → AreSorted content some found lost →
    TellsTreeAt one.path one.tree content true → AreSorted content (some ++ one ∷ []) (found ++ one ∷ []) lost
found_more content some one found lost apart sorted tells = record {
  stay = ap (λ (l : List KeptRow). l ++ one ∷ []) sorted.stay
      ∙ sym (filter-append (is_found lost) some (one ∷ []) ∙ ap (λ (b : Bool). filter (is_found lost) some ++ cond (not b) (one ∷ []) []) here);
  gone = record {
    order = sorted.gone.order
        ∙ ap (map path_of_kept)
        (sym (filter-append (is_lost lost) some (one ∷ []) ∙ ap (λ (b : Bool). filter (is_lost lost) some ++ cond b (one ∷ []) []) here
        ∙ append-nil (filter (is_lost lost) some)));
    each = λ other among.
        elim (push_cases some one other among) [
          | inl there ↦ sorted.gone.each other there
          | inr same ↦
              subst (λ (r : KeptRow). TellsTreeAt r.path r.tree content (is_found lost r)) same
              (subst (λ (b : Bool). TellsTreeAt one.path one.tree content b) (sym (ap not here)) tells)
        ];
  };
}
  where
    here : is_lost lost one ≡ false
    here = not_lost some lost one sorted.gone.order apart

-- a row more is lost
lost_more : (content : Option Part) (some : List KeptRow) (one : KeptRow) (found : List KeptRow) (lost : List (List (List ℕ))) →
    ((other : KeptRow) → Contains some other → same_names other.path one.path ≡ false) → AreSorted content some found lost →
    TellsTreeAt one.path one.tree content false → AreSorted content (some ++ one ∷ []) found (lost ++ one.path ∷ [])
lost_more content some one found lost apart sorted tells = record {
  stay = sorted.stay ∙ sym (filter_agree (is_found more) (is_found lost) some (λ x among. ap not (same x among)))
      ∙ sym (filter-append (is_found more) some (one ∷ []) ∙ ap (λ (b : Bool). filter (is_found more) some ++ cond (not b) (one ∷ []) []) here
      ∙ append-nil (filter (is_found more) some));
  gone = record {
    order = ap (λ (l : List (List (List ℕ))). l ++ one.path ∷ [])
        (sorted.gone.order ∙ ap (map path_of_kept) (sym (filter_agree (is_lost more) (is_lost lost) some same)))
        ∙ sym (map_push path_of_kept (filter (is_lost more) some) one)
        ∙ ap (map path_of_kept)
        (sym (filter-append (is_lost more) some (one ∷ []) ∙ ap (λ (b : Bool). filter (is_lost more) some ++ cond b (one ∷ []) []) here));
    each = λ other among.
        elim (push_cases some one other among) [
          | inl there ↦ subst (λ (b : Bool). TellsTreeAt other.path other.tree content b) (ap not (sym (same other there))) (sorted.gone.each other there)
          | inr is ↦
              subst (λ (r : KeptRow). TellsTreeAt r.path r.tree content (is_found more r)) is
              (subst (λ (b : Bool). TellsTreeAt one.path one.tree content b) (sym (ap not here)) tells)
        ];
  };
}
  where
    more : List (List (List ℕ))
    more = lost ++ one.path ∷ []

    here : is_lost more one ≡ true
    here = lost_last lost one

    same : (x : KeptRow) → Contains some x → is_lost more x ≡ is_lost lost x
    same x among = lost_as_before lost one.path x (apart x among)

-- a row more is sorted, as a look at the disk tells
pub sorts_on : (start now : Option Part) (some : List KeptRow) (one : KeptRow) (found found_now : List KeptRow) (lost lost_now : List (List (List ℕ))) →
    HasStill start now → ((other : KeptRow) → Contains some other → same_names other.path one.path ≡ false) → AreSorted start some found lost →
    IsLookedIn now one found lost found_now lost_now → AreSorted start (some ++ one ∷ []) found_now lost_now
sorts_on start now some one found found_now lost lost_now still apart sorted looked =
    by looked.has looked.put.stay looked.put.gone (told_before one.path one.tree start now looked.has still looked.tells)
  where
    by : (b : Bool) → found_now ≡ cond b (found ++ one ∷ []) found → lost_now ≡ cond b lost (lost ++ one.path ∷ []) →
        TellsTreeAt one.path one.tree start b → AreSorted start (some ++ one ∷ []) found_now lost_now
    by true is too tells =
        subst (λ (f : List KeptRow). AreSorted start (some ++ one ∷ []) f lost_now) (sym is)
        (subst (λ (l : List (List (List ℕ))). AreSorted start (some ++ one ∷ []) (found ++ one ∷ []) l) (sym too)
        (found_more start some one found lost apart sorted tells))
    by false is too tells =
        subst (λ (f : List KeptRow). AreSorted start (some ++ one ∷ []) f lost_now) (sym is)
        (subst (λ (l : List (List (List ℕ))). AreSorted start (some ++ one ∷ []) found l) (sym too)
        (lost_more start some one found lost apart sorted tells))

-- nothing is sorted
pub sorts_none : (content : Option Part) → AreSorted content [] [] []
sorts_none content = record {
  stay = refl;
  gone = record { order = refl; each = λ one among. absurd (nothing one among) };
}
  where
    nothing : (one : KeptRow) → Contains [] one → ⊥
    nothing one (k, within, at) = absurd (omega arith)

-- a path more isn't rough
pub settles_on : (some : List KeptRow) (one : KeptRow) (before now : Paths) → AreSettled some before → IsNoRougher before now →
    IsSettledAt one.path now → AreSettled (some ++ one ∷ []) now
settles_on some one before now settled later here = λ other among.
    elim (push_cases some one other among) [
      | inl there ↦ still_settled other.path before now (settled other there) later
      | inr same ↦ subst (λ (r : KeptRow). IsSettledAt r.path now) same here
    ]

pub settles_none : (rough : Paths) → AreSettled [] rough
settles_none rough = λ one among. absurd (nothing one among)
  where
    nothing : (one : KeptRow) → Contains [] one → ⊥
    nothing one (k, within, at) = absurd (omega arith)

-- ---- rows that are gone over

-- those so far and those left are all
pub passes_on : (some left rest all : List Kept) (one : Kept) → (some ++ left) ≡ all → left ≡ one ∷ rest → ((some ++ one ∷ []) ++ rest) ≡ all
passes_on some left rest all one whole is =
    append_assoc some (one ∷ []) rest ∙ ap (λ (l : List Kept). some ++ l) (sym is) ∙ whole

mapped_around : (some : List Kept) (one : Kept) (rest : List Kept) →
    map kept_view ((some ++ one ∷ []) ++ rest) ≡ map kept_view some ++ kept_view one ∷ map kept_view rest
mapped_around [] one rest = refl
mapped_around (row ∷ some) one rest = ap (λ (l : List KeptRow). kept_view row ∷ l) (mapped_around some one rest)

-- of rows that are apart each is at another path than those before it
pub apart_here : (all some : List Kept) (one : Kept) (rest : List Kept) → are_kept_apart (map kept_view all) ≡ true → ((some ++ one ∷ []) ++ rest) ≡ all →
    (other : KeptRow) → Contains (map kept_view some) other → same_names other.path one.path ≡ false
apart_here all some one rest apart whole other among =
    last_elsewhere (map kept_view some) (kept_view one) (map kept_view rest) other
    (subst (λ (rows : List KeptRow). are_kept_apart rows ≡ true) (mapped_around some one rest)
    (subst (λ (l : List Kept). are_kept_apart (map kept_view l) ≡ true) (sym whole) apart)) among
