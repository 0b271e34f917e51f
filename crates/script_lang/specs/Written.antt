-- The text of an item, and what its type says of it.
use Rattle.std.specs.Prelude.{◌≡◌, ℕ, ◌^◌, ◌<◌, All, codes, decimal, Bool, true, false, List, [], ◌∷◌}
use Rattle.std.specs.List.{flat_map}
use Rattle.hex.specs.Hex.{IsBytes, encode_lower}
use Rattle.mat_digest.specs.Digests.{IsDigest, digest_text}
use Rattle.mat_path.specs.Names.{is_path, joined}
use Rattle.mat_model.specs.declared.requests.CleanMode.{CleanMode}
use Rattle.mat_model.specs.declared.requests.CleanMode.TheVariants as mode
use Rattle.mat_model.specs.declared.requests.Request.{Request}
use Rattle.mat_model.specs.declared.requests.Request.TheVariants as request
use Rattle.mat_tree.specs.Trees.{IsNode, IsTree}
use Rattle.tree_words.specs.Words.{node_words, text_of}
use Rattle.script_lang.specs.declared.items.Item.{Item}
use Rattle.script_lang.specs.declared.items.Item.TheVariants as item
use Rattle.script_lang.specs.declared.items.Line.{Line}
use Rattle.script_lang.specs.declared.items.Line.TheVariants as line
use Rattle.script_lang.specs.declared.items.Pick.{Pick}
use Rattle.script_lang.specs.declared.items.Pick.TheVariants as pick
use Rattle.script_lang.specs.Texts.{device_text, kind_text}

-- ---- the text

-- the word of some bytes: `-` where there is none
abbrev pub bytes_word : List ℕ → List ℕ
bytes_word [] = codes "-"
bytes_word (byte ∷ bytes) = encode_lower (byte ∷ bytes)

-- the word of a clean's mode
abbrev pub mode_text : CleanMode → List ℕ
mode_text mode.Real = codes "real"
mode_text mode.Dry = codes "dry"
mode_text mode.All = codes "all"

-- the word of what becomes of what was not synced
abbrev pub pick_text : Pick → List ℕ
pick_text pick.Nothing = codes "none"
pick_text pick.Whole = codes "whole"
pick_text pick.Torn = codes "torn"

-- the words of the flags of a command that comes: none where no flag is set
abbrev pub flag_words : Bool → Bool → List (List ℕ)
flag_words false false = []
flag_words true false = codes "p" ∷ []
flag_words false true = codes "r" ∷ []
flag_words true true = codes "pr" ∷ []

-- what stands of the flags behind the other words of a line: that word, with a space before it, or nothing
abbrev pub flags_text : Bool → Bool → List ℕ
flags_text false false = []
flags_text true false = codes " p"
flags_text false true = codes " r"
flags_text true true = codes " pr"

-- the words of a request
abbrev pub request_words : Request → List (List ℕ)
request_words (request.Enter command state soft refuse) = codes "enter" ∷ decimal command ∷ decimal state ∷ flag_words soft refuse
request_words (request.Leave command) = codes "leave" ∷ decimal command ∷ []
request_words (request.Write command path bytes) = codes "write" ∷ decimal command ∷ joined path ∷ bytes_word bytes ∷ []
request_words (request.Declare command path tree) = codes "declare" ∷ decimal command ∷ joined path ∷ flat_map node_words tree
request_words (request.Copy command path source) = codes "copy" ∷ decimal command ∷ joined path ∷ joined source ∷ []
request_words (request.Matches command path sum) =
    codes "match" ∷ decimal command ∷ joined path ∷ kind_text sum.kind ∷ digest_text sum.digest ∷ []
request_words (request.Has command path) = codes "has" ∷ decimal command ∷ joined path ∷ []
request_words (request.Ensure command path) = codes "ensure" ∷ decimal command ∷ joined path ∷ []
request_words (request.Invalidate command path) = codes "invalidate" ∷ decimal command ∷ joined path ∷ []
request_words (request.Clean cutoff mode) = codes "clean" ∷ decimal cutoff ∷ mode_text mode ∷ []
request_words request.Flush = codes "flush" ∷ []

-- the words of an item
abbrev pub item_words : Item → List (List ℕ)
item_words (item.Request asked) = request_words asked
item_words (item.Blob bytes) = codes "blob" ∷ bytes_word bytes ∷ []
item_words (item.Lie digest bytes) = codes "lie" ∷ digest_text digest ∷ bytes_word bytes ∷ []
item_words (item.At moment) = codes "at" ∷ decimal moment ∷ []
item_words (item.Step worker) = codes "step" ∷ decimal worker ∷ []
item_words item.Drain = codes "drain" ∷ []
item_words (item.Show path) = codes "show" ∷ joined path ∷ []
item_words item.Asks = codes "asks" ∷ []
item_words (item.Fail device k) = codes "fail" ∷ device_text device ∷ decimal k ∷ []
item_words (item.Stop k pick) = codes "stop" ∷ decimal k ∷ pick_text pick ∷ []
item_words item.Restart = codes "restart" ∷ []

-- the line of an item, without a newline
abbrev pub item_text : Item → List ℕ
item_text it = text_of (item_words it)

-- a line that was read as an item is the item's text
abbrev pub IsTextOf : Line → List ℕ → Type 0
IsTextOf line.Skip text = Unit {0}
IsTextOf line.End text = Unit {0}
IsTextOf line.Unread text = Unit {0}
IsTextOf (line.Item it) text = text ≡ item_text it
IsTextOf line.NoMemory text = Unit {0}

-- ---- what types say

-- a command and a path: 32 bits, and names that are a path
pub record IsAddressed (command : ℕ) (path : List (List ℕ)) : Type 0 where
  pub number_fits : command < 2 ^ 32
  pub names_fit : is_path path ≡ true

-- what the type of a request says of it
abbrev pub IsRequest : Request → Type 0
IsRequest (request.Enter command state soft refuse) = (command < 2 ^ 32) × (state < 2 ^ 64)
IsRequest (request.Leave command) = command < 2 ^ 32
IsRequest (request.Write command path bytes) = IsAddressed command path × IsBytes bytes
IsRequest (request.Declare command path tree) = IsAddressed command path × IsTree tree × All IsNode tree
IsRequest (request.Copy command path source) = IsAddressed command path × (is_path source ≡ true)
IsRequest (request.Matches command path sum) = IsAddressed command path × IsDigest sum.digest
IsRequest (request.Has command path) = IsAddressed command path
IsRequest (request.Ensure command path) = IsAddressed command path
IsRequest (request.Invalidate command path) = IsAddressed command path
IsRequest (request.Clean cutoff mode) = cutoff < 2 ^ 64
IsRequest request.Flush = Unit {0}

-- what the type of an item says of it
abbrev pub IsItem : Item → Type 0
IsItem (item.Request asked) = IsRequest asked
IsItem (item.Blob bytes) = IsBytes bytes
IsItem (item.Lie digest bytes) = IsDigest digest × IsBytes bytes
IsItem (item.At moment) = moment < 2 ^ 64
IsItem (item.Step worker) = worker < 2 ^ 32
IsItem item.Drain = Unit {0}
IsItem (item.Show path) = is_path path ≡ true
IsItem item.Asks = Unit {0}
IsItem (item.Fail device k) = k < 2 ^ 64
IsItem (item.Stop k pick) = k < 2 ^ 64
IsItem item.Restart = Unit {0}
