-- What one word spells, and what the words of a tree spell.
use Rattle.std.specs.Prelude.{ℕ, ◌==◌, ◌^◌, ◌%◌, ◌&&◌, nat_le, nat_lt, codes, Bool, not, if◌then◌else◌, List, [], length, Option, Some, None, true, false}
use Rattle.std.specs.Char.{is_ascii_digit}
use Rattle.std.specs.List.{list_all}
use Rattle.std.specs.Result.{result_ok, result_unwrap_or}
use Rattle.std.specs.Str.Parse.{digits_value}
use Rattle.hex.specs.Hex.{decode_of}
use Rattle.mat_digest.specs.declared.digest.Digest.{Digest}
use Rattle.mat_digest.specs.Digests.{has_leading_zero, is_lower_digit, read_digest}
use Rattle.mat_path.specs.Names.{same_name}
use Rattle.mat_model.specs.declared.answers.Device.{Device}
use Rattle.mat_model.specs.declared.answers.Device.TheVariants as device
use Rattle.mat_model.specs.declared.requests.CleanMode.{CleanMode}
use Rattle.mat_model.specs.declared.requests.CleanMode.TheVariants as mode
use Rattle.mat_tree.specs.declared.flat.Flat.{Flat}
use Rattle.mat_tree.specs.declared.sum.Kind.{Kind}
use Rattle.mat_tree.specs.declared.sum.Kind.TheVariants as kind
use Rattle.tree_words.specs.Words.{at_kind, read_from, tree_of}
use Rattle.script_lang.specs.declared.flags.Flags.{Flags}
use Rattle.script_lang.specs.declared.items.Pick.{Pick}
use Rattle.script_lang.specs.declared.items.Pick.TheVariants as pick

-- ---- numbers

-- whether a word is a number: decimal digits, at least one, of which none is a leading zero
abbrev pub is_number : List ℕ → Bool
is_number word = nat_lt 0 (length word) && list_all is_ascii_digit word && not (has_leading_zero word)

-- the number that a word spells
abbrev pub number_of : List ℕ → Option ℕ
number_of word = if is_number word then Some (digits_value 10 word) else None

-- a number, if there is one and it is below a bound
abbrev pub below : ℕ → Option ℕ → Option ℕ
below bound None = None
below bound (Some number) = if nat_lt number bound then Some number else None

-- a number, if there is one and it is at least 1
abbrev pub at_least_one : Option ℕ → Option ℕ
at_least_one None = None
at_least_one (Some number) = if nat_le 1 number then Some number else None

-- the number of a command: 32 bits
abbrev pub command_of : List ℕ → Option ℕ
command_of word = below (2 ^ 32) (number_of word)

-- the number of a state, and a count: 64 bits
abbrev pub count_of : List ℕ → Option ℕ
count_of word = below (2 ^ 64) (number_of word)

-- a moment: 63 bits
abbrev pub moment_of : List ℕ → Option ℕ
moment_of word = below (2 ^ 63) (number_of word)

-- the place of a call that is to fail, from 1 on
abbrev pub place_of : List ℕ → Option ℕ
place_of word = at_least_one (count_of word)

-- the number of a worker, of which there are so many
abbrev pub worker_of : ℕ → List ℕ → Option ℕ
worker_of workers word = below workers (number_of word)

-- ---- flags

-- the flags that a word spells: `p` for a soft command, `r` for one that refuses to wait where another state is live, `pr` for both
abbrev pub flags_spelled : List ℕ → Option Flags
flags_spelled word =
    if same_name word (codes "p") then Some (record { soft = true; refuse = false })
    else if same_name word (codes "r") then Some (record { soft = false; refuse = true })
    else if same_name word (codes "pr") then Some (record { soft = true; refuse = true })
    else None

-- the flags of a command: none are set where no word spells some
abbrev pub flags_of : Option (List ℕ) → Option Flags
flags_of None = Some (record { soft = false; refuse = false })
flags_of (Some word) = flags_spelled word

-- ---- bytes and digests

-- whether a word is hexadecimal digits: an even number of them, at least two, in lower case
abbrev pub is_hex : List ℕ → Bool
is_hex word = nat_lt 0 (length word) && (length word % 2 == 0) && list_all is_lower_digit word

-- the bytes that a word spells: `-` is none
abbrev pub bytes_of : List ℕ → Option (List ℕ)
bytes_of word =
    if same_name word (codes "-") then Some []
    else if is_hex word then Some (result_unwrap_or (decode_of word) [])
    else None

-- the digest that a word spells
abbrev pub digest_of : List ℕ → Option Digest
digest_of word = result_ok (read_digest word)

-- ---- words of a few

-- the kind that a letter names
abbrev pub kind_of : List ℕ → Option Kind
kind_of word =
    if same_name word (codes "f") then Some kind.File
    else if same_name word (codes "x") then Some kind.Exec
    else if same_name word (codes "d") then Some kind.Dir
    else None

-- the mode of a clean
abbrev pub mode_of : List ℕ → Option CleanMode
mode_of word =
    if same_name word (codes "real") then Some mode.Real
    else if same_name word (codes "dry") then Some mode.Dry
    else if same_name word (codes "all") then Some mode.All
    else None

-- the device of a name
abbrev pub device_of : List ℕ → Option Device
device_of word =
    if same_name word (codes "disk") then Some device.Disk
    else if same_name word (codes "store") then Some device.Store
    else if same_name word (codes "keeper") then Some device.Keeper
    else None

-- what becomes of what was not synced
abbrev pub pick_of : List ℕ → Option Pick
pick_of word =
    if same_name word (codes "none") then Some pick.Nothing
    else if same_name word (codes "whole") then Some pick.Whole
    else if same_name word (codes "torn") then Some pick.Torn
    else None

-- ---- trees

-- the tree that words spell
abbrev pub tree_spelled : List (List ℕ) → Option (List Flat)
tree_spelled words = result_ok (tree_of (read_from at_kind 0 words))
