-- What a reader answers.
use Rattle.std.specs.Prelude.{◌≡◌, List, Result, Ok, Err}
use Rattle.mat_tree.specs.declared.flat.Flat.{Flat}
use Rattle.tree_words.specs.Words.{Reading}
use Rattle.tree_words.specs.declared.refusal.WordsRefusal.{WordsRefusal}
use Rattle.tree_words.specs.declared.refusal.WordsRefusal.TheVariants as refusal

-- an answer agrees with what is read, want of memory apart: its value goes on to the same reading, and its refusal is that reading
abbrev pub Agrees : {A : Type 0} → Result A WordsRefusal → Reading → (A → Reading) → Type 0
Agrees (Ok said) reading behind = reading ≡ behind said
Agrees (Err (refusal.Word k)) reading behind = reading ≡ Err k
Agrees (Err (refusal.Tree why)) reading behind = ⊥
Agrees (Err refusal.NoMemory) reading behind = Unit {0}

-- a refusal is the one that a text has, want of memory apart
abbrev pub IsRefusalOf : Result (List Flat) WordsRefusal → WordsRefusal → Type 0
IsRefusalOf tree (refusal.Word k) = tree ≡ Err (refusal.Word k)
IsRefusalOf tree (refusal.Tree why) = tree ≡ Err (refusal.Tree why)
IsRefusalOf tree refusal.NoMemory = Unit {0}
