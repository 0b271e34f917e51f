-- What reading a text rests on: cutting at slashes, and what the faults of a text tell of its names.
use Rattle.std.proofs.Common.{◌≡◌, ℕ, zero, suc, ◌+◌, ◌<◌, ◌≤◌, Bool, true, false, cond, not, ◌&&◌, ◌||◌, if◌then◌else◌, eqb, ltb, leb, List, [], ◌∷◌, ◌++◌, length, get_or, take, drop, Option, Some, None, is_none, is_some, All, position, refl, sym, ap, ◌∙◌, subst, inl, inr, arith, take_all, drop-cons, le_trans, sub-one, ap₂, count_by, option_and_then, nat_eq, OnSome, append_assoc}
use Rattle.std.proofs.Math.Bool.{and-true}
use Rattle.std.proofs.Math.Dec.{eqb-suc-zero}
use Rattle.std.specs.Option.{option_or}
use Rattle.std.specs.List.{list_all, onto_first, position_or_len, before_first}
use Rattle.std.proofs.lemmas.Bool.{cases_order, cases_Bool, both_ways, and_from, false_from_ne_true, ltb-true, ltb-false, le-leb, eqb-true, and_parts, not-true, false≢true}
use Rattle.std.proofs.lemmas.Bool.Decides.{nat_tests}
use Rattle.std.proofs.lemmas.Option.{cond_some, none-some}
use Rattle.std.proofs.lemmas.List.Sums.{take_while-cons, fails_before_first, AllPass-from_list_all}
use Rattle.std.proofs.lemmas.List.{take_more, drop_all}
use Rattle.std.proofs.lemmas.Slice.Eq.{bytes_eq-Decides}
use Rattle.std.proofs.lemmas.List.Splits.{slice_split_first, slice_split_none, slice_split_at, slice_split-cons_no, length-slice_split, join_with_byte-slice_split}
use Rattle.mat_path.specs.declared.path.PathRefusal.{PathRefusal}
use Rattle.mat_path.specs.declared.path.PathRefusal.TheVariants as why
use Rattle.mat_path.specs.Names.{is_text_byte, is_name_byte, is_name, is_dots, joined, is_rel, is_path, pieces, same_name, rel_of, rel_text, path_of}
use Rattle.mat_path.specs.Faults.{is_stray, first_piece, fault_here, begins_at, fault_at, first_answer, first_fault, refusal_of, rel_refusal, of_text}

abbrev slashes : ℕ → Bool
slashes = λ b. eqb b 47

turned : {X : Type 0} (t : Bool) (x y : X) → cond t x y ≡ cond (not t) y x
turned true x y = refl
turned false x y = refl

-- what stands before the first slash, as the definition spells it and as std does
pub first_piece_is : (text : List ℕ) → first_piece text ≡ before_first slashes text
first_piece_is [] = refl
first_piece_is (b ∷ more) =
    ap (λ (p : List ℕ). cond (eqb b 47) [] (b ∷ p)) (first_piece_is more)
    ∙ turned (eqb b 47) [] (b ∷ before_first slashes more)
    ∙ sym (take_while-cons (λ x. not (slashes x)) b more)

-- where there is no first slash, it would be at the end
no_position : (text : List ℕ) → position slashes text ≡ None → length text ≤ position_or_len slashes text
no_position text h = ltb-false _ _ (none_false _ _ h)
  where
    none_false : (t : Bool) (e : ℕ) → cond t (Some e) None ≡ None → t ≡ false
    none_false true e h = absurd (none-some e (sym h))
    none_false false e h = refl

-- a text up to the first slash
pub piece_end : (text : List ℕ) (end : ℕ) → position slashes text ≡ Some end → take end text ≡ first_piece text
piece_end text end h = ap (λ n. take n text) (sym (cond_some _ _ _ h).1) ∙ sym (first_piece_is text)

-- a text with no slash
pub piece_whole : (text : List ℕ) → position slashes text ≡ None → text ≡ first_piece text
piece_whole text h = sym (first_piece_is text ∙ take_all _ text (no_position text h))

-- the first piece is cut off at the first slash
pub cut_at : (text : List ℕ) (end : ℕ) → position slashes text ≡ Some end → pieces text ≡ take end text ∷ pieces (drop (end + 1) text)
cut_at text end h =
    let found = cond_some _ _ _ h in
    subst (λ (n : ℕ). pieces text ≡ take n text ∷ pieces (drop (n + 1) text)) found.1
    (slice_split_first slashes text 0 (ltb-true _ _ found.0))

-- a first slash stands within the text
pub cut_within : (text : List ℕ) (end : ℕ) → position slashes text ≡ Some end → end < length text
cut_within text end h =
    let found = cond_some _ _ _ h in
    subst (λ (n : ℕ). n < length text) found.1 (ltb-true _ _ found.0)

-- a text with no slash is one piece
pub cut_end : (text : List ℕ) → position slashes text ≡ None → pieces text ≡ text ∷ []
cut_end text h = slice_split_none slashes text (λ k d below. fails_before_first slashes text k d (le_trans below (no_position text h)))

-- one more than the slashes
pub piece_count_is : (text : List ℕ) (n : ℕ) → n ≡ count_by slashes text → n + 1 ≡ length (pieces text)
piece_count_is text n h = ap (λ m. m + 1) h ∙ sym (length-slice_split slashes text)

-- the first answer is the one found, where there is none before it
pub first_answer_found : (f : ℕ → Option PathRefusal) (at n : ℕ) (x : PathRefusal) → first_answer f at ≡ None → f at ≡ Some x → at < n → first_answer f n ≡ Some x
first_answer_found f at zero x none here below = absurd (omega arith)
first_answer_found f at (suc n) x none here below = elim (cases_order at n) [
  | inl same ↦ subst (λ (k : ℕ). option_or (first_answer f k) (f k) ≡ Some x) same (ap₂ option_or none here)
  | inr (inl less) ↦ ap (λ (o : Option PathRefusal). option_or o (f n)) (first_answer_found f at n x none here less)
  | inr (inr more) ↦ absurd (omega arith)
]

-- none where there is none below
first_answer_none : (f : ℕ → Option PathRefusal) (n : ℕ) → ((k : ℕ) → k < n → f k ≡ None) → first_answer f n ≡ None
first_answer_none f zero h = refl
first_answer_none f (suc n) h = ap₂ option_or (first_answer_none f n (λ k below. h k (omega arith))) (h n (omega arith))

-- the fault of the lowest offset is the first
pub lowest_first : (text : List ℕ) (at : ℕ) (fault : PathRefusal) → at < length text → fault_at text at ≡ Some fault → ((k : ℕ) → k < at → fault_at text k ≡ None) → first_fault text ≡ Some fault
lowest_first text at fault within here below = first_answer_found (fault_at text) at (length text) fault (first_answer_none (fault_at text) at below) here within

-- a refusal of a text isn't want of memory
pub fault_of_text : (begins : Bool) (at : ℕ) (rest : List ℕ) → option_and_then of_text (fault_here begins at rest) ≡ fault_here begins at rest
fault_of_text begins at [] = refl
fault_of_text begins at (b ∷ more) = chosen (is_stray begins b more) begins (is_dots (first_piece (b ∷ more))) (ltb 255 (length (first_piece (b ∷ more))))
  where
    chosen : (s g d l : Bool) → option_and_then of_text (if s then Some (why.BadByte at) else if g then (if d then Some (why.Dots at) else if l then Some (why.LongName at) else None) else None) ≡ (if s then Some (why.BadByte at) else if g then (if d then Some (why.Dots at) else if l then Some (why.LongName at) else None) else None)
    chosen true g d l = refl
    chosen false false d l = refl
    chosen false true true l = refl
    chosen false true false true = refl
    chosen false true false false = refl

either_of_text : (o p : Option PathRefusal) → option_and_then of_text o ≡ o → option_and_then of_text p ≡ p → option_and_then of_text (option_or o p) ≡ option_or o p
either_of_text None p h k = k
either_of_text (Some x) p h k = h

-- where no refusal at an offset speaks of memory, the first refusal of several offsets doesn't either
pub answers_of_text : (f : ℕ → Option PathRefusal) → ((k : ℕ) → option_and_then of_text (f k) ≡ f k) → (n : ℕ) → option_and_then of_text (first_answer f n) ≡ first_answer f n
answers_of_text f each zero = refl
answers_of_text f each (suc n) = either_of_text (first_answer f n) (f n) (answers_of_text f each n) (each n)

refusal_of_text : (text : List ℕ) → option_and_then of_text (refusal_of text) ≡ refusal_of text
refusal_of_text text = chosen (nat_eq (length text) 0) (ltb 1024 (length text)) (ltb 64 (length (pieces text))) (first_fault text)
    (answers_of_text (fault_at text) (λ k. fault_of_text (begins_at text k) k (drop k text)) (length text))
  where
    long : (m : Bool) → option_and_then of_text (if m then Some why.Long else None) ≡ (if m then Some why.Long else None)
    long true = refl
    long false = refl

    chosen : (e l m : Bool) (f : Option PathRefusal) → option_and_then of_text f ≡ f → option_and_then of_text (if e then Some why.Empty else if l then Some why.Long else option_or f (if m then Some why.Long else None)) ≡ (if e then Some why.Empty else if l then Some why.Long else option_or f (if m then Some why.Long else None))
    chosen true l m f h = refl
    chosen false true m f h = refl
    chosen false false m f h = either_of_text f _ h (long m)

-- a refusal of a path speaks of the text, never of memory
pub path_refusal_is_of_text : (text : List ℕ) (refusal : PathRefusal) → refusal_of text ≡ Some refusal → of_text refusal ≡ Some refusal
path_refusal_is_of_text text refusal h = subst (λ (o : Option PathRefusal). option_and_then of_text o ≡ o) h (refusal_of_text text)

-- whether no offset of a text has a fault, by recursion; `begins` says whether a name is to begin in front
abbrev sound : Bool → ℕ → List ℕ → Bool
sound begins b more = not (is_stray begins b more) && (not begins || (not (is_dots (first_piece (b ∷ more))) && not (ltb 255 (length (first_piece (b ∷ more))))))

abbrev clean : Bool → List ℕ → Bool
clean begins [] = true
clean begins (b ∷ more) = sound begins b more && clean (eqb b 47) more

sound_is : (begins : Bool) (at b : ℕ) (more : List ℕ) → is_none (fault_here begins at (b ∷ more)) ≡ sound begins b more
sound_is begins at b more = chosen (is_stray begins b more) begins (is_dots (first_piece (b ∷ more))) (ltb 255 (length (first_piece (b ∷ more))))
  where
    chosen : (s g d l : Bool) → is_none (if s then Some (why.BadByte at) else if g then (if d then Some (why.Dots at) else if l then Some (why.LongName at) else None) else None) ≡ (not s && (not g || (not d && not l)))
    chosen true g d l = refl
    chosen false false d l = refl
    chosen false true true l = refl
    chosen false true false true = refl
    chosen false true false false = refl

-- a text is clean where the offsets so far have no fault and the rest is clean
so_far : (text : List ℕ) (n : ℕ) → n ≤ length text → (is_none (first_answer (fault_at text) n) && clean (begins_at text n) (drop n text)) ≡ clean true text
so_far text zero h = refl
so_far text (suc n) h =
    let below : n < length text = omega arith in
    let cut : drop n text ≡ get_or text n 0 ∷ drop (suc n) text = drop-cons text n 0 below in
    let one : is_none (fault_at text n) ≡ sound (begins_at text n) (get_or text n 0) (drop (suc n) text) =
    ap (λ (l : List ℕ). is_none (fault_here (begins_at text n) n l)) cut ∙ sound_is (begins_at text n) n (get_or text n 0) (drop (suc n) text) in
    joined_up (first_answer (fault_at text) n) (fault_at text n) _ _ _ (drop (suc n) text) one (begins_next text n)
    ∙ ap (λ (l : List ℕ). is_none (first_answer (fault_at text) n) && clean (begins_at text n) l) (sym cut)
    ∙ so_far text n (omega arith)
  where
    begins_next : (text : List ℕ) (n : ℕ) → begins_at text (suc n) ≡ eqb (get_or text n 0) 47
    begins_next text n = rw (eqb-suc-zero, sub-one) refl

    joined_up : (o p : Option PathRefusal) (s g e : Bool) (rest : List ℕ) → is_none p ≡ s → g ≡ e → (is_none (option_or o p) && clean g rest) ≡ (is_none o && (s && clean e rest))
    joined_up None p s g e rest h k = ap₂ (λ (x y : Bool). x && clean y rest) h k
    joined_up (Some x) p s g e rest h k = refl

-- a text has no fault at an offset exactly where it is clean
first_fault_is : (text : List ℕ) → is_none (first_fault text) ≡ clean true text
first_fault_is text =
    sym (and_end (is_none (first_fault text)) (begins_at text (length text)) (drop (length text) text) (drop_all (length text) text (omega arith)))
    ∙ so_far text (length text) (omega arith)
  where
    and_end : (a g : Bool) (rest : List ℕ) → rest ≡ [] → (a && clean g rest) ≡ a
    and_end a g rest h = ap (λ (l : List ℕ). a && clean g l) h ∙ and-true a

-- the pieces behind the first
abbrev later : List (List ℕ) → List (List ℕ)
later [] = []
later (p ∷ ps) = ps

-- the first piece is the first of the pieces
pieces_first : (text : List ℕ) → pieces text ≡ first_piece text ∷ later (pieces text)
pieces_first [] = refl
pieces_first (b ∷ more) = chosen (eqb b 47) (pieces more) (first_piece more) (later (pieces more)) (pieces_first more)
  where
    chosen : (t : Bool) (all : List (List ℕ)) (p : List ℕ) (ps : List (List ℕ)) → all ≡ p ∷ ps → cond t ([] ∷ all) (onto_first b all) ≡ cond t [] (b ∷ p) ∷ later (cond t ([] ∷ all) (onto_first b all))
    chosen true all p ps h = refl
    chosen false all p ps h = subst (λ (l : List (List ℕ)). onto_first b l ≡ (b ∷ p) ∷ later (onto_first b l)) (sym h) refl

-- the first piece goes on a name, and the others are names
abbrev goes_on : List (List ℕ) → Bool
goes_on [] = true
goes_on (p ∷ ps) = list_all is_name_byte p && list_all is_name ps

on_bools : (t u v : Bool) → ((not (not t || false) && true) && (u && v)) ≡ (((t && true) && u) && v)
on_bools true u v = refl
on_bools false u v = refl

begins_bools : (t d g u v : Bool) → ((not (not t || false) && (not d && not g)) && (u && v)) ≡ ((((true && not g) && ((t && true) && u)) && not d) && v)
begins_bools true true true true v = refl
begins_bools true true true false v = refl
begins_bools true true false true v = refl
begins_bools true true false false v = refl
begins_bools true false true true v = refl
begins_bools true false true false v = refl
begins_bools true false false true v = refl
begins_bools true false false false v = refl
begins_bools false true true true v = refl
begins_bools false true true false v = refl
begins_bools false true false true v = refl
begins_bools false true false false v = refl
begins_bools false false true true v = refl
begins_bools false false true false v = refl
begins_bools false false false true v = refl
begins_bools false false false false v = refl

slash_bools : (e a c : Bool) → e ≡ false → c ≡ (e || a) → ((not e && true) && c) ≡ a
slash_bools e a c h k = ap₂ (λ (x y : Bool). (not x && true) && y) h k ∙ ap (λ (x : Bool). x || a) h

four : (a b c d x y z w : Bool) → a ≡ x → b ≡ y → c ≡ z → d ≡ w → (a && ((b && c) && d)) ≡ (x && ((y && z) && w))
four a b c d x y z w h k m n = ap₂ (λ (p q : Bool). p && q) h (ap₂ (λ (p q : Bool). p && q) (ap₂ (λ (p q : Bool). p && q) k m) n)

-- a number is at most another one exactly where it is not above it
pub not_above : (most n : ℕ) → leb n most ≡ not (ltb most n)
not_above most n = grind (arith, nat_tests)

abbrev Tells : List ℕ → Type 0
Tells text = (clean false text ≡ goes_on (pieces text)) × (clean true text ≡ (nat_eq (length text) 0 || list_all is_name (pieces text)))

at_slash : (more : List ℕ) → clean true more ≡ (nat_eq (length more) 0 || list_all is_name (pieces more)) → Tells (47 ∷ more)
at_slash [] h = (refl, sym (ap (λ (t : Bool). t || false) (eqb-suc-zero 0)))
at_slash (c ∷ cs) h = (
  slash_bools (nat_eq (length (c ∷ cs)) 0) (list_all is_name (pieces (c ∷ cs))) (clean true (c ∷ cs)) (eqb-suc-zero (length cs)) h,
  sym (ap (λ (t : Bool). t || false) (eqb-suc-zero (length (c ∷ cs)))),
)

at_other : (b : ℕ) (more p : List ℕ) (ps : List (List ℕ)) → eqb b 47 ≡ false → first_piece more ≡ p → pieces more ≡ p ∷ ps → clean false more ≡ goes_on (pieces more) → Tells (b ∷ more)
at_other b more p ps other first all ih =
    let whole : pieces (b ∷ more) ≡ (b ∷ p) ∷ ps = slice_split-cons_no slashes b more other ∙ ap (onto_first b) all in
    let rest : clean false more ≡ (list_all is_name_byte p && list_all is_name ps) = ih ∙ ap goes_on all in
    let name : (((true && not (ltb 255 (length (b ∷ p)))) && (is_name_byte b && list_all is_name_byte p)) && not (is_dots (b ∷ p))) ≡ is_name (b ∷ p) =
    ap₂ (λ (x y : Bool). ((x && y) && (is_name_byte b && list_all is_name_byte p)) && not (is_dots (b ∷ p))) (sym (le-leb 1 (length (b ∷ p)) (omega arith))) (sym (not_above 255 (length (b ∷ p)))) in (
      subst (λ (t : Bool). ((not (not (is_text_byte b) || (t && nat_eq (length more) 0)) && true) && clean t more) ≡ (((is_text_byte b && not t) && list_all is_name_byte p) && list_all is_name ps)) (sym other)
          (ap (λ (c : Bool). (not (not (is_text_byte b) || false) && true) && c) rest ∙ on_bools (is_text_byte b) (list_all is_name_byte p) (list_all is_name ps))
          ∙ ap goes_on (sym whole),
      subst (λ (t : Bool). ((not (not (is_text_byte b) || (t && true)) && (not (is_dots (cond t [] (b ∷ first_piece more))) && not (ltb 255 (length (cond t [] (b ∷ first_piece more)))))) && clean t more) ≡ ((((true && not (ltb 255 (length (b ∷ p)))) && ((is_text_byte b && not t) && list_all is_name_byte p)) && not (is_dots (b ∷ p))) && list_all is_name ps)) (sym other)
          (ap₂ (λ (q : List ℕ) (c : Bool). (not (not (is_text_byte b) || false) && (not (is_dots (b ∷ q)) && not (ltb 255 (length (b ∷ q))))) && c) first rest
          ∙ begins_bools (is_text_byte b) (is_dots (b ∷ p)) (ltb 255 (length (b ∷ p))) (list_all is_name_byte p) (list_all is_name ps))
          ∙ ap (λ (t : Bool). t && list_all is_name ps) name
          ∙ ap (list_all is_name) (sym whole)
          ∙ ap (λ (t : Bool). t || list_all is_name (pieces (b ∷ more))) (sym (eqb-suc-zero (length more))),
    )

-- what a text that is clean tells of its pieces
clean_is : (text : List ℕ) → Tells text
clean_is [] = (refl, refl)
clean_is (b ∷ more) =
    let below = clean_is more in
    elim (cases_Bool (eqb b 47)) [
      | inl slash ↦ subst (λ (c : ℕ). Tells (c ∷ more)) (sym (eqb-true b 47 slash)) (at_slash more below.1)
      | inr other ↦ at_other b more (first_piece more) (later (pieces more)) other refl (pieces_first more) below.0
    ]

refusal_bools : (l m : Bool) (f : Option PathRefusal) → ((not m && not l) && is_none f) ≡ is_none (if l then Some why.Long else option_or f (if m then Some why.Long else None))
refusal_bools true true f = refl
refusal_bools true false f = refl
refusal_bools false true None = refl
refusal_bools false true (Some x) = refl
refusal_bools false false None = refl
refusal_bools false false (Some x) = refl

-- a text is a path exactly where nothing refuses it
pub path_is : (text : List ℕ) → is_path (pieces text) ≡ is_none (refusal_of text)
path_is [] = refl
path_is (b ∷ more) =
    let text = b ∷ more in
    let some : nat_eq (length text) 0 ≡ false = eqb-suc-zero (length more) in
    let count : 1 ≤ length (pieces text) = omega (arith, length-slice_split slashes text) in
    let names : list_all is_name (pieces text) ≡ is_none (first_fault text) =
    sym (first_fault_is text ∙ (clean_is text).1 ∙ ap (λ (t : Bool). t || list_all is_name (pieces text)) some) in
    let size : leb (length (joined (pieces text))) 1024 ≡ not (ltb 1024 (length text)) =
    ap (λ (l : List ℕ). leb (length l) 1024) (join_with_byte-slice_split 47 text) ∙ not_above 1024 (length text) in
    four (leb 1 (length (pieces text))) (leb (length (pieces text)) 64) (leb (length (joined (pieces text))) 1024) (list_all is_name (pieces text))
    true (not (ltb 64 (length (pieces text)))) (not (ltb 1024 (length text))) (is_none (first_fault text))
    (le-leb 1 (length (pieces text)) count) (not_above 64 (length (pieces text))) size names
    ∙ refusal_bools (ltb 1024 (length text)) (ltb 64 (length (pieces text))) (first_fault text)
    ∙ ap (λ (e : Bool). is_none (if e then Some why.Empty else if ltb 1024 (length text) then Some why.Long else option_or (first_fault text) (if ltb 64 (length (pieces text)) then Some why.Long else None))) (sym some)

-- the names of a path are names
pub names_of_path : (names : List (List ℕ)) → is_path names ≡ true → list_all is_name names ≡ true
names_of_path names h =
    (and_parts (leb (length names) 64 && leb (length (joined names)) 1024) (list_all is_name names) (and_parts (leb 1 (length names)) (is_rel names) h).1).1

-- the pieces of a text that nothing refuses are a path
pub pieces_are_path : (text : List ℕ) → refusal_of text ≡ None → is_path (pieces text) ≡ true
pieces_are_path text h = path_is text ∙ ap is_none h

-- a text that nothing refuses is read as its pieces
pub read_as_pieces : (text : List ℕ) (names : List (List ℕ)) → names ≡ pieces text → refusal_of text ≡ None → path_of text ≡ Some names
read_as_pieces text names h k = ap (λ (t : Bool). if t then Some (pieces text) else None) (pieces_are_path text k) ∙ ap Some (sym h)

-- names that are the pieces of a text that nothing refuses are a path
pub names_are_path : (text : List ℕ) (names : List (List ℕ)) → names ≡ pieces text → refusal_of text ≡ None → is_path names ≡ true
names_are_path text names h k = subst (λ (l : List (List ℕ)). is_path l ≡ true) (sym h) (pieces_are_path text k)

-- each piece of a text that nothing refuses is a name
pub pieces_are_names : (text : List ℕ) → refusal_of text ≡ None → list_all is_name (pieces text) ≡ true
pieces_are_names text k = names_of_path (pieces text) (pieces_are_path text k)

-- a text that something refuses is read as no path
pub no_path : (text : List ℕ) (refusal : PathRefusal) → refusal_of text ≡ Some refusal → path_of text ≡ None
no_path text refusal h = ap (λ (t : Bool). if t then Some (pieces text) else None) (path_is text ∙ ap is_none h)

-- what is true anyway is true where there is an answer
pub on_some : {X : Type 0} (o : Option X) (P : Type 0) → P → OnSome o P
on_some None P p = tt
on_some (Some x) P p = p

-- the bytes of a name are name bytes
name_bytes : (name : List ℕ) → is_name name ≡ true → list_all is_name_byte name ≡ true
name_bytes name h =
    (and_parts (leb 1 (length name) && leb (length name) 255) (list_all is_name_byte name)
    (and_parts ((leb 1 (length name) && leb (length name) 255) && list_all is_name_byte name) (not (is_dots name)) h).0).1

-- a name has no slash
no_slash : (name : List ℕ) → is_name name ≡ true → All (λ b. eqb b 47 ≡ false) name
no_slash name h = λ k d below. byte (get_or name k d) (AllPass-from_list_all is_name_byte name (name_bytes name h) k d below)
  where
    byte : (b : ℕ) → is_name_byte b ≡ true → eqb b 47 ≡ false
    byte b k = not-true (eqb b 47) (and_parts (is_text_byte b) (not (eqb b 47)) k).1

-- the text of names is cut into these names
pub pieces_joined : (name : List ℕ) (names : List (List ℕ)) → list_all is_name (name ∷ names) ≡ true → pieces (joined (name ∷ names)) ≡ name ∷ names
pieces_joined name [] h = slice_split_none slashes name (no_slash name (and_parts _ _ h).0)
pieces_joined name (next ∷ names) h =
    let all = and_parts _ _ h in
    slice_split_at slashes name 47 (joined (next ∷ names)) (no_slash name all.0) refl ∙ ap (λ (l : List (List ℕ)). name ∷ l) (pieces_joined next names all.1)

-- the text of a path is read as that path
pub read_back : (names : List (List ℕ)) → is_path names ≡ true → path_of (joined names) ≡ Some names
read_back [] h = absurd (false≢true h)
read_back (name ∷ names) h =
    subst (λ (l : List (List ℕ)). (if is_path l then Some l else None) ≡ Some (name ∷ names))
    (sym (pieces_joined name names (names_of_path (name ∷ names) h)))
    (ap (λ (t : Bool). if t then Some (name ∷ names) else None) h)

-- one more name behind a text of names
joined_push : (first : List ℕ) (names : List (List ℕ)) (name : List ℕ) → joined (first ∷ (names ++ name ∷ [])) ≡ joined (first ∷ names) ++ 47 ∷ name
joined_push first [] name = refl
joined_push first (next ∷ names) name =
    ap (λ (l : List ℕ). first ++ (47 ∷ l)) (joined_push next names name) ∙ sym (append_assoc first (47 ∷ joined (next ∷ names)) (47 ∷ name))

-- the text of one name more is the text so far, a slash and that name
pub joined_more : (first : List ℕ) (names : List (List ℕ)) (i : ℕ) (d : List ℕ) → i < length names → joined (first ∷ take (i + 1) names) ≡ joined (first ∷ take i names) ++ 47 ∷ get_or names i d
joined_more first names i d h = ap (λ (l : List (List ℕ)). joined (first ∷ l)) (take_more names i d h) ∙ joined_push first (take i names) (get_or names i d)

-- a step of writing
pub joined_step : (text new first name : List ℕ) (names : List (List ℕ)) (i : ℕ) → i < length names → name ≡ get_or names i name → text ≡ joined (first ∷ take i names) → new ≡ text ++ 47 ∷ name → new ≡ joined (first ∷ take (i + 1) names)
joined_step text new first name names i h item before pushed =
    pushed ∙ ap₂ (λ (t n : List ℕ). t ++ 47 ∷ n) before item ∙ sym (joined_more first names i name h)

-- the first piece of names is a name, and so are the others
pub cut_named : (text : List ℕ) (end : ℕ) → position slashes text ≡ Some end → list_all is_name (pieces text) ≡ true → (is_name (take end text) ≡ true) × (list_all is_name (pieces (drop (end + 1) text)) ≡ true)
cut_named text end h all =
    and_parts (is_name (take end text)) (list_all is_name (pieces (drop (end + 1) text))) (subst (λ (l : List (List ℕ)). list_all is_name l ≡ true) (cut_at text end h) all)

-- the one piece of a text with no slash
pub end_named : (text : List ℕ) → position slashes text ≡ None → list_all is_name (pieces text) ≡ true → is_name text ≡ true
end_named text h all = (and_parts (is_name text) true (subst (λ (l : List (List ℕ)). list_all is_name l ≡ true) (cut_end text h) all)).0

-- a step of reading
pub cut_step : (names new : List (List ℕ)) (name rest after text : List ℕ) (end : ℕ) → position slashes rest ≡ Some end → name ≡ take end rest → after ≡ drop (end + 1) rest → new ≡ names ++ name ∷ [] → names ++ pieces rest ≡ pieces text → new ++ pieces after ≡ pieces text
cut_step names new name rest after text end found is behind pushed before =
    ap₂ (λ (l : List (List ℕ)) (t : List ℕ). l ++ pieces t) pushed behind
    ∙ append_assoc names (name ∷ []) (pieces (drop (end + 1) rest))
    ∙ ap (λ (n : List ℕ). names ++ (n ∷ pieces (drop (end + 1) rest))) is
    ∙ ap (λ (l : List (List ℕ)). names ++ l) (sym (cut_at rest end found))
    ∙ before

-- the end of reading
pub end_step : (names new : List (List ℕ)) (name rest text : List ℕ) → position slashes rest ≡ None → name ≡ rest → new ≡ names ++ name ∷ [] → names ++ pieces rest ≡ pieces text → new ≡ pieces text
end_step names new name rest text none is pushed before =
    pushed ∙ ap (λ (n : List ℕ). names ++ n ∷ []) is ∙ ap (λ (l : List (List ℕ)). names ++ l) (sym (cut_end rest none)) ∙ before

-- the text of a rel is read as that rel
pub rel_read_back : (names : List (List ℕ)) → is_rel names ≡ true → rel_of (rel_text names) ≡ Some names
rel_read_back [] h = refl
rel_read_back (name ∷ names) h =
    let text = joined (name ∷ names) in
    let path : is_path (name ∷ names) ≡ true = and_from (leb 1 (length (name ∷ names))) (is_rel (name ∷ names)) (le-leb 1 (length (name ∷ names)) (omega arith)) h in
    let cut : pieces text ≡ name ∷ names = pieces_joined name names (names_of_path (name ∷ names) path) in
    let not_dot : same_name text (46 ∷ []) ≡ false = false_from_ne_true (same_name text (46 ∷ [])) (λ same.
    both_ways (is_name (46 ∷ [])) refl (one_name (name ∷ names) (names_of_path (name ∷ names) path) (sym cut ∙ ap pieces ((bytes_eq-Decides text (46 ∷ [])).0 same)))) in
    ap (λ (t : Bool). if t then Some [] else path_of text) not_dot ∙ read_back (name ∷ names) path
  where
    one_name : (all : List (List ℕ)) → list_all is_name all ≡ true → all ≡ (46 ∷ []) ∷ [] → is_name (46 ∷ []) ≡ true
    one_name all h e = (and_parts (is_name (46 ∷ [])) true (subst (λ (l : List (List ℕ)). list_all is_name l ≡ true) e h)).0

-- a text is a rel exactly where nothing refuses it
pub rel_is : (text : List ℕ) → is_some (rel_of text) ≡ is_none (rel_refusal text)
rel_is text = chosen (same_name text (46 ∷ [])) (is_path (pieces text)) (refusal_of text) (path_is text)
  where
    chosen : (d p : Bool) (o : Option PathRefusal) → p ≡ is_none o → is_some (if d then Some [] else if p then Some (pieces text) else None) ≡ is_none (if d then None else o)
    chosen true p o h = refl
    chosen false true o h = h
    chosen false false o h = h
