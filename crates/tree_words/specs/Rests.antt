-- The words of a text that are left to be read.
use Rattle.std.specs.Prelude.{◌≡◌, ℕ, ◌+◌, ◌==◌, Bool, true, false, List, [], ◌∷◌, Option, Some, None}
use Rattle.std.specs.List.{slice_split}

-- a space, which stands between words
abbrev pub is_space : ℕ → Bool
is_space byte = byte == 32

-- the words of a text: the pieces between single spaces
abbrev pub words_of : List ℕ → List (List ℕ)
words_of text = slice_split is_space text

-- the words of what is left of a text, if something is
abbrev pub words_left : Option (List ℕ) → List (List ℕ)
words_left None = []
words_left (Some text) = words_of text

-- whether there is no word
abbrev pub none_of : List (List ℕ) → Bool
none_of [] = true
none_of (word ∷ words) = false

-- the words from one on, and that one's number
pub record Rest : Type 0 where
  pub place : ℕ
  pub words : List (List ℕ)

-- a word was taken from some words, and others are left
pub record Takes (old new : Rest) (word : List ℕ) : Type 0 where
  pub words : old.words ≡ word ∷ new.words
  pub place : new.place ≡ old.place + 1
