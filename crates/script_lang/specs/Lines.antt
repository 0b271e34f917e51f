-- What a line says.
use Rattle.std.specs.Prelude.{◌≡◌, ℕ, ◌==◌, nat_lt, codes, Bool, true, if◌then◌else◌, List, [], ◌∷◌, length, Option, Some, None}
use Rattle.mat_path.specs.Names.{same_name}
use Rattle.tree_words.specs.Rests.{words_of}
use Rattle.script_lang.specs.declared.items.Item.{Item}
use Rattle.script_lang.specs.declared.items.Line.{Line}
use Rattle.script_lang.specs.declared.items.Line.TheVariants as line
use Rattle.script_lang.specs.Items.{item_of}

-- the longest line that is read
abbrev pub line_limit : ℕ
line_limit = 1048576

-- whether a line is skipped: it is empty, or begins with `#`
abbrev pub is_skipped : List ℕ → Bool
is_skipped [] = true
is_skipped (byte ∷ bytes) = byte == 35

-- whether a line ends the script
abbrev pub is_end : List ℕ → Bool
is_end text = same_name text (codes "end")

-- a line that is an item, or nothing that a line may say
abbrev pub item_line : Option Item → Line
item_line (Some it) = line.Item it
item_line None = line.Unread

-- what a line says, where there are so many workers: one above the limit says nothing, whatever it has
abbrev pub line_of : ℕ → List ℕ → Line
line_of workers text =
    if nat_lt line_limit (length text) then line.Unread
    else if is_skipped text then line.Skip
    else if is_end text then line.End
    else item_line (item_of workers (words_of text))

-- a line was read as what it says, want of memory apart
abbrev pub IsRead : Line → Line → Type 0
IsRead line.NoMemory said = Unit {0}
IsRead line.Skip said = said ≡ line.Skip
IsRead line.End said = said ≡ line.End
IsRead line.Unread said = said ≡ line.Unread
IsRead (line.Item it) said = said ≡ line.Item it
