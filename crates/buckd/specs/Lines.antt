-- The lines of a script.
use Rattle.std.specs.Prelude.{◌≡◌, ◌++◌, ℕ, ◌==◌, nat_lt, Bool, if◌then◌else◌, List, [], ◌∷◌, length, take}
use Rattle.std.specs.List.{list_any, slice_split, before_first}
use Rattle.script_lang.specs.declared.items.Line.{Line}
use Rattle.script_lang.specs.Lines.{is_end, line_of as line_for}

-- whether a byte ends a line
abbrev pub is_newline : ℕ → Bool
is_newline byte = byte == 10

-- the lines of some bytes: the pieces between newlines, the last of them behind the last newline
abbrev pub lines_of : List ℕ → List (List ℕ)
lines_of bytes = slice_split is_newline bytes

-- all but the last of some lines
abbrev pub but_last : List (List ℕ) → List (List ℕ)
but_last [] = []
but_last (line ∷ []) = []
but_last (line ∷ next ∷ lines) = line ∷ but_last (next ∷ lines)

-- the last of some lines
abbrev pub last_of : List (List ℕ) → List ℕ
last_of [] = []
last_of (line ∷ []) = line
last_of (line ∷ next ∷ lines) = last_of (next ∷ lines)

-- the lines that a newline ends
abbrev pub whole_lines : List ℕ → List (List ℕ)
whole_lines bytes = but_last (lines_of bytes)

-- what stands behind the last newline
abbrev pub last_line : List ℕ → List ℕ
last_line bytes = last_of (lines_of bytes)

-- what a line says: a script is read for one worker
abbrev pub line_of : List ℕ → Line
line_of text = line_for 1 text

-- whether a script ends by a line that says so
abbrev pub has_end : List (List ℕ) → Bool
has_end lines = list_any is_end lines

-- the lines before the first one that ends the script
abbrev pub before_end : List (List ℕ) → List (List ℕ)
before_end lines = before_first is_end lines

-- the lines of a script of which at most a limit of bytes is read: one that the limit cuts isn't among them
abbrev pub script_lines : ℕ → List ℕ → List (List ℕ)
script_lines limit bytes = if nat_lt (length bytes) limit then lines_of bytes else whole_lines (take limit bytes)

-- no byte of these ends a line
pub record IsLine (line : List ℕ) : Type 0 where
  pub one : lines_of line ≡ line ∷ []

-- some bytes are a line, its newline, and the rest
pub record Cuts (bytes line rest : List ℕ) : Type 0 where
  pub one : IsLine line
  pub parts : bytes ≡ (line ++ 10 ∷ []) ++ rest
