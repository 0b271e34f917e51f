-- What reading one name or a target rests on.
use Rattle.std.proofs.Common.{◌≡◌, ℕ, zero, suc, ◌+◌, ◌<◌, ◌≤◌, Bool, true, false, cond, not, ◌&&◌, ◌||◌, if◌then◌else◌, ltb, nat_eq, List, [], ◌∷◌, length, get_or, drop, Option, Some, None, is_none, option_and_then, option_map, position, refl, sym, ap, ap₂, ◌∙◌, subst, arith, drop-cons}
use Rattle.std.proofs.Math.Bool.{and-true}
use Rattle.std.proofs.Math.Dec.{eqb-suc-zero}
use Rattle.std.specs.Option.{option_or}
use Rattle.std.specs.List.{list_all, position_or_len}
use Rattle.std.proofs.lemmas.Bool.{le-leb, lt-ltb, ltb-true}
use Rattle.std.proofs.lemmas.Bool.Decides.{nat_tests}
use Rattle.std.proofs.lemmas.List.{drop_all}
use Rattle.mat_path.specs.declared.path.PathRefusal.{PathRefusal}
use Rattle.mat_path.specs.declared.path.PathRefusal.TheVariants as why
use Rattle.mat_path.specs.Names.{is_text_byte, is_name_byte, is_name, is_dots, is_target}
use Rattle.mat_path.specs.Faults.{name_fault_at, first_answer, first_name_fault, name_refusal, target_refusal, of_text}
use Rattle.mat_path.proofs.ReadLemmas.{answers_of_text, not_above}

-- a refusal of a name isn't want of memory
name_fault_of_text : (text : List ℕ) (at : ℕ) → option_and_then of_text (name_fault_at text at) ≡ name_fault_at text at
name_fault_of_text text at = chosen (not (is_name_byte (get_or text at 0))) (nat_eq at 0) (is_dots text) (ltb 255 (length text))
  where
    chosen : (s z d l : Bool) → option_and_then of_text (if s then Some (why.BadByte at) else if z then (if d then Some (why.Dots at) else if l then Some (why.LongName at) else None) else None) ≡ (if s then Some (why.BadByte at) else if z then (if d then Some (why.Dots at) else if l then Some (why.LongName at) else None) else None)
    chosen true z d l = refl
    chosen false false d l = refl
    chosen false true true l = refl
    chosen false true false true = refl
    chosen false true false false = refl

two_of_text : (e l : Bool) (f : Option PathRefusal) → option_and_then of_text f ≡ f → option_and_then of_text (if e then Some why.Empty else if l then Some why.Long else f) ≡ (if e then Some why.Empty else if l then Some why.Long else f)
two_of_text true l f h = refl
two_of_text false true f h = refl
two_of_text false false f h = h

name_refusal_of_text : (text : List ℕ) → option_and_then of_text (name_refusal text) ≡ name_refusal text
name_refusal_of_text text = two_of_text (nat_eq (length text) 0) (ltb 1024 (length text)) (first_name_fault text) (answers_of_text (name_fault_at text) (name_fault_of_text text) (length text))

-- a refusal of a name speaks of the text, never of memory
pub name_refusal_is_of_text : (text : List ℕ) (refusal : PathRefusal) → name_refusal text ≡ Some refusal → of_text refusal ≡ Some refusal
name_refusal_is_of_text text refusal h = subst (λ (o : Option PathRefusal). option_and_then of_text o ≡ o) h (name_refusal_of_text text)

-- whether a whole text is neither dots nor too long for a name
abbrev fits : List ℕ → Bool
fits text = not (is_dots text) && not (ltb 255 (length text))

name_at : (text : List ℕ) (n : ℕ) → is_none (name_fault_at text n) ≡ (is_name_byte (get_or text n 0) && (not (nat_eq n 0) || fits text))
name_at text n = chosen (is_name_byte (get_or text n 0)) (nat_eq n 0) (is_dots text) (ltb 255 (length text))
  where
    chosen : (b z d l : Bool) → is_none (if not b then Some (why.BadByte n) else if z then (if d then Some (why.Dots n) else if l then Some (why.LongName n) else None) else None) ≡ (b && (not z || (not d && not l)))
    chosen false z d l = refl
    chosen true false d l = refl
    chosen true true true l = refl
    chosen true true false true = refl
    chosen true true false false = refl

neither : (o p : Option PathRefusal) → is_none (option_or o p) ≡ (is_none o && is_none p)
neither None p = refl
neither (Some x) p = refl

first_bools : (a n w r : Bool) → ((a && (n && w)) && r) ≡ (w && (a && (n && r)))
first_bools true true true r = refl
first_bools true true false r = refl
first_bools true false true r = refl
first_bools true false false r = refl
first_bools false true true r = refl
first_bools false true false r = refl
first_bools false false true r = refl
first_bools false false false r = refl

next_bools : (a n r : Bool) → ((a && (n && true)) && r) ≡ (a && (n && r))
next_bools true true r = refl
next_bools true false r = refl
next_bools false n r = refl

-- a text is a name where the offsets so far have no fault and the others are bytes of a name
name_so_far : (text : List ℕ) (n : ℕ) → n ≤ length text → (is_none (first_answer (name_fault_at text) n) && list_all is_name_byte (drop n text)) ≡ ((nat_eq n 0 || fits text) && list_all is_name_byte text)
name_so_far text zero h = refl
name_so_far text (suc n) h =
    let below : n < length text = omega arith in
    let before : Bool = is_none (first_answer (name_fault_at text) n) in
    let byte : Bool = is_name_byte (get_or text n 0) in
    let rest : Bool = list_all is_name_byte (drop (suc n) text) in
    let so_far : (before && (byte && rest)) ≡ ((nat_eq n 0 || fits text) && list_all is_name_byte text) =
    ap (λ (l : List ℕ). before && list_all is_name_byte l) (sym (drop-cons text n 0 below)) ∙ name_so_far text n (omega arith) in
    ap (λ (t : Bool). t && rest) (neither (first_answer (name_fault_at text) n) (name_fault_at text n) ∙ ap (λ (t : Bool). before && t) (name_at text n))
    ∙ chosen (nat_eq n 0) before byte (fits text) rest (list_all is_name_byte text) so_far
    ∙ ap (λ (t : Bool). (t || fits text) && list_all is_name_byte text) (sym (eqb-suc-zero n))
  where
    chosen : (z a n w r all : Bool) → (a && (n && r)) ≡ ((z || w) && all) → ((a && (n && (not z || w))) && r) ≡ ((false || w) && all)
    chosen true a n w r all k = first_bools a n w r ∙ ap (λ (t : Bool). w && t) k
    chosen false a n w r all k = next_bools a n r ∙ k

-- a text has no fault as a name exactly where it fits and each byte is one of a name
first_name_fault_is : (text : List ℕ) → nat_eq (length text) 0 ≡ false → is_none (first_name_fault text) ≡ (fits text && list_all is_name_byte text)
first_name_fault_is text some =
    sym (and_end (is_none (first_name_fault text)) (drop (length text) text) (drop_all (length text) text (omega arith)))
    ∙ name_so_far text (length text) (omega arith)
    ∙ ap (λ (t : Bool). (t || fits text) && list_all is_name_byte text) some
  where
    and_end : (a : Bool) (rest : List ℕ) → rest ≡ [] → (a && list_all is_name_byte rest) ≡ a
    and_end a rest h = ap (λ (l : List ℕ). a && list_all is_name_byte l) h ∙ and-true a

name_bools : (l g d a : Bool) → (l ≡ true → g ≡ true) → (((true && not g) && a) && not d) ≡ (not l && ((not d && not g) && a))
name_bools true g d a h = ap (λ (t : Bool). ((true && not t) && a) && not d) (h refl)
name_bools false true true true h = refl
name_bools false true true false h = refl
name_bools false true false true h = refl
name_bools false true false false h = refl
name_bools false false true true h = refl
name_bools false false true false h = refl
name_bools false false false true h = refl
name_bools false false false false h = refl

two_bools : (e l : Bool) (f : Option PathRefusal) → e ≡ false → is_none (if e then Some why.Empty else if l then Some why.Long else f) ≡ (not l && is_none f)
two_bools e true f h = ap (λ (t : Bool). is_none (if t then Some why.Empty else Some why.Long)) h
two_bools e false f h = ap (λ (t : Bool). is_none (if t then Some why.Empty else f)) h

-- a text is a name exactly where nothing refuses it
pub name_is : (text : List ℕ) → is_name text ≡ is_none (name_refusal text)
name_is [] = refl
name_is (b ∷ more) =
    let text = b ∷ more in
    let some : nat_eq (length text) 0 ≡ false = eqb-suc-zero (length more) in
    ap₂ (λ (x y : Bool). ((x && y) && list_all is_name_byte text) && not (is_dots text)) (le-leb 1 (length text) (omega arith)) (not_above 255 (length text))
    ∙ name_bools (ltb 1024 (length text)) (ltb 255 (length text)) (is_dots text) (list_all is_name_byte text) (λ long. lt-ltb 255 (length text) (omega (arith, ltb-true 1024 (length text) long)))
    ∙ ap (λ (t : Bool). not (ltb 1024 (length text)) && t) (sym (first_name_fault_is text some))
    ∙ sym (two_bools (nat_eq (length text) 0) (ltb 1024 (length text)) (first_name_fault text) some)

-- a text that nothing refuses as a name is one
pub unrefused_is_name : (text : List ℕ) → name_refusal text ≡ None → is_name text ≡ true
unrefused_is_name text h = name_is text ∙ ap is_none h

-- a text that something refuses as a name is none
pub no_name : (text : List ℕ) (refusal : PathRefusal) → name_refusal text ≡ Some refusal → is_name text ≡ false
no_name text refusal h = name_is text ∙ ap is_none h

-- no byte is a bad one exactly where each is one of a text
none_bad : (text : List ℕ) → not (ltb (position_or_len (λ b. not (is_text_byte b)) text) (length text)) ≡ list_all is_text_byte text
none_bad [] = refl
none_bad (b ∷ more) = chosen (is_text_byte b) (position_or_len (λ c. not (is_text_byte c)) more) (length more) (list_all is_text_byte more) (none_bad more)
  where
    one_more : (p n : ℕ) → ltb (1 + p) (suc n) ≡ ltb p n
    one_more p n = grind (arith, nat_tests)

    chosen : (t : Bool) (p n : ℕ) (all : Bool) → not (ltb p n) ≡ all → not (ltb (cond (not (not t)) (1 + p) 0) (suc n)) ≡ (t && all)
    chosen true p n all h = ap not (one_more p n) ∙ h
    chosen false p n all h = ap not (lt-ltb 0 (suc n) (omega arith))

no_position_is : (text : List ℕ) → is_none (option_map (λ at. why.BadByte at) (position (λ b. not (is_text_byte b)) text)) ≡ list_all is_text_byte text
no_position_is text = chosen (ltb (position_or_len (λ b. not (is_text_byte b)) text) (length text)) (position_or_len (λ b. not (is_text_byte b)) text) ∙ none_bad text
  where
    chosen : (t : Bool) (p : ℕ) → is_none (option_map (λ at. why.BadByte at) (cond t (Some p) None)) ≡ not t
    chosen true p = refl
    chosen false p = refl

-- a text is a target exactly where nothing refuses it
pub target_is : (text : List ℕ) → is_target text ≡ is_none (target_refusal text)
target_is [] = refl
target_is (b ∷ more) =
    let text = b ∷ more in
    ap₂ (λ (x y : Bool). (x && y) && list_all is_text_byte text) (le-leb 1 (length text) (omega arith)) (not_above 1024 (length text))
    ∙ ap (λ (t : Bool). not (ltb 1024 (length text)) && t) (sym (no_position_is text))
    ∙ sym (two_bools (nat_eq (length text) 0) (ltb 1024 (length text)) (option_map (λ at. why.BadByte at) (position (λ b. not (is_text_byte b)) text)) (eqb-suc-zero (length more)))

-- bytes of a text that nothing refuses as a target are one
pub unrefused_is_target : (text bytes : List ℕ) → bytes ≡ text → target_refusal text ≡ None → is_target bytes ≡ true
unrefused_is_target text bytes same h = ap is_target same ∙ target_is text ∙ ap is_none h

-- a text that something refuses as a target is none
pub no_target : (text : List ℕ) (refusal : PathRefusal) → target_refusal text ≡ Some refusal → is_target text ≡ false
no_target text refusal h = target_is text ∙ ap is_none h
