-- Cutting a text at its spaces.
use Rattle.std.proofs.Common.{◌≡◌, ℕ, ◌+◌, ◌-◌, ◌<◌, ◌≤◌, Bool, true, false, cond, List, [], ◌∷◌, length, take, drop, Option, Some, None, position, refl, sym, subst, arith, le_trans, length-drop, take_all}
use Rattle.std.specs.List.{position_or_len}
use Rattle.std.proofs.lemmas.Bool.{ltb-true, ltb-false}
use Rattle.std.proofs.lemmas.List.Splits.{length-slice_split, slice_split_first, slice_split_none}
use Rattle.std.proofs.lemmas.List.Sums.{count_by-le-length, fails_before_first}
use Rattle.std.proofs.lemmas.Option.{cond_some, none-some}
use Rattle.tree_words.specs.Rests.{is_space, none_of, words_left, words_of}

-- where there is no first space, it would be at the end
no_space : (text : List ℕ) → position is_space text ≡ None → length text ≤ position_or_len is_space text
no_space text h = ltb-false _ _ (none_false _ _ h)
  where
    none_false : (t : Bool) (e : ℕ) → cond t (Some e) None ≡ None → t ≡ false
    none_false true e h = absurd (none-some e (sym h))
    none_false false e h = refl

-- the first word ends at the first space
pub words_of-at_space : (text rest : List ℕ) (end : ℕ) → position is_space text ≡ Some end → rest ≡ drop (end + 1) text
    → words_of text ≡ take end text ∷ words_of rest
words_of-at_space text rest end h same =
    let found = cond_some _ _ _ h in
    subst (λ (r : List ℕ). words_of text ≡ take end text ∷ words_of r) (sym same)
    (subst (λ (n : ℕ). words_of text ≡ take n text ∷ words_of (drop (n + 1) text)) found.1
    (slice_split_first is_space text 0 (ltb-true _ _ found.0)))

-- a slice from behind a place to the end is all that stands there
pub slice_to_end : (text : List ℕ) (end : ℕ) → take (length text - (end + 1)) (drop (end + 1) text) ≡ drop (end + 1) text
slice_to_end text end = take_all _ (drop (end + 1) text) (omega (arith, length-drop (end + 1) text))

-- a text with no space is one word
pub words_of-no_space : (text : List ℕ) → position is_space text ≡ None → words_of text ≡ text ∷ []
words_of-no_space text h = slice_split_none is_space text (λ k d below. fails_before_first is_space text k d (le_trans below (no_space text h)))

-- a text has at most one word more than it has bytes
pub few_words_of : (text : List ℕ) → length (words_of text) ≤ length text + 1
few_words_of text = omega (arith, length-slice_split is_space text, count_by-le-length is_space text)

-- each text has a word
has_word : (text : List ℕ) → 0 < length (words_of text)
has_word text = omega (arith, length-slice_split is_space text)

-- so where a text is left a word is left
pub word_is_left : (rest : Option (List ℕ)) (text : List ℕ) (words : List (List ℕ)) → words_left rest ≡ words → rest ≡ Some text → false ≡ none_of words
word_is_left rest text words left some =
    subst (λ (ws : List (List ℕ)). false ≡ none_of ws) left
    (subst (λ (r : Option (List ℕ)). false ≡ none_of (words_left r)) (sym some) (is_one (words_of text) (has_word text)))
  where
    is_one : (words : List (List ℕ)) → 0 < length words → false ≡ none_of words
    is_one [] h = absurd (omega arith)
    is_one (word ∷ words) h = refl
