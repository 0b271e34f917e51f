-- The forms of lines: what the words of each say.
use Rattle.mat_tree.specs.Trees.{is_placed}
use Rattle.std.specs.Prelude.{ℕ, if◌then◌else◌, List, [], ◌∷◌, Option, Some, None}
use Rattle.std.specs.List.{list_all}
use Rattle.mat_digest.specs.declared.digest.Digest.{Digest}
use Rattle.mat_path.specs.Names.{path_of}
use Rattle.mat_model.specs.declared.requests.Request.{Request}
use Rattle.mat_model.specs.declared.requests.Request.TheVariants as request
use Rattle.mat_tree.specs.declared.flat.Flat.{Flat}
use Rattle.mat_tree.specs.declared.sum.Kind.{Kind}
use Rattle.mat_tree.specs.declared.sum.Sum.{Sum}
use Rattle.tree_words.specs.Rests.{none_of}
use Rattle.script_lang.specs.declared.flags.Flags.{Flags}
use Rattle.script_lang.specs.declared.items.Item.{Item}
use Rattle.script_lang.specs.declared.items.Item.TheVariants as item
use Rattle.script_lang.specs.declared.verbs.Asking.{Asking}
use Rattle.script_lang.specs.declared.verbs.Asking.TheVariants as asking
use Rattle.script_lang.specs.declared.verbs.Doing.{Doing}
use Rattle.script_lang.specs.declared.verbs.Doing.TheVariants as doing
use Rattle.script_lang.specs.Spelled.{bytes_of, command_of, count_of, device_of, digest_of, flags_of, kind_of, mode_of, moment_of, pick_of, place_of, tree_spelled, worker_of}
use Rattle.script_lang.specs.Verbs.{asking_of, doing_of}

-- ---- how many words there are

-- a word is its bytes
abbrev pub Word : Type 0
Word = List ℕ

-- the words, if they are one, two, three or four
abbrev pub one_of : List Word → Option Word
one_of [] = None
one_of (a ∷ []) = Some a
one_of (a ∷ b ∷ more) = None

abbrev pub two_of : List Word → Option (Word × Word)
two_of [] = None
two_of (a ∷ []) = None
two_of (a ∷ b ∷ []) = Some (a, b)
two_of (a ∷ b ∷ c ∷ more) = None

-- two words, and a third one if it is there
abbrev pub two_or_three_of : List Word → Option (Word × Word × Option Word)
two_or_three_of [] = None
two_or_three_of (a ∷ []) = None
two_or_three_of (a ∷ b ∷ []) = Some (a, b, None)
two_or_three_of (a ∷ b ∷ c ∷ []) = Some (a, b, Some c)
two_or_three_of (a ∷ b ∷ c ∷ d ∷ more) = None

abbrev pub three_of : List Word → Option (Word × Word × Word)
three_of [] = None
three_of (a ∷ []) = None
three_of (a ∷ b ∷ []) = None
three_of (a ∷ b ∷ c ∷ []) = Some (a, b, c)
three_of (a ∷ b ∷ c ∷ d ∷ more) = None

abbrev pub four_of : List Word → Option (Word × Word × Word × Word)
four_of [] = None
four_of (a ∷ []) = None
four_of (a ∷ b ∷ []) = None
four_of (a ∷ b ∷ c ∷ []) = None
four_of (a ∷ b ∷ c ∷ d ∷ []) = Some (a, b, c, d)
four_of (a ∷ b ∷ c ∷ d ∷ e ∷ more) = None

-- two words and those behind them, if they are two or more
abbrev pub two_and_more_of : List Word → Option (Word × Word × List Word)
two_and_more_of [] = None
two_and_more_of (a ∷ []) = None
two_and_more_of (a ∷ b ∷ more) = Some (a, b, more)

-- ---- what is made of parts, if each is there

abbrev pub with_one : {A B : Type 0} → (A → B) → Option A → Option B
with_one f (Some a) = Some (f a)
with_one f None = None

abbrev pub with_two : {A B C : Type 0} → (A → B → C) → Option A → Option B → Option C
with_two f (Some a) (Some b) = Some (f a b)
with_two f (Some a) None = None
with_two f None b = None

abbrev pub with_three : {A B C D : Type 0} → (A → B → C → D) → Option A → Option B → Option C → Option D
with_three f (Some a) (Some b) (Some c) = Some (f a b c)
with_three f (Some a) (Some b) None = None
with_three f (Some a) None c = None
with_three f None b c = None

-- ---- requests

-- the kind and the digest of an artifact
abbrev pub a_sum : Kind → Digest → Sum
a_sum kind digest = record { kind = kind; digest = digest }

-- a tree, if at this path each of its nodes stands at a path
abbrev pub placed : Option (List (List ℕ)) → Option (List Flat) → Option (List Flat)
placed (Some path) (Some tree) = if list_all (is_placed path) tree then Some tree else None
placed (Some path) None = None
placed None tree = None

-- an enter with flags
abbrev pub an_enter : ℕ → ℕ → Flags → Request
an_enter command state flags = request.Enter command state flags.soft flags.refuse

-- `enter C STATE` and `enter C STATE FLAGS`
abbrev pub enter_of : Option (Word × Word × Option Word) → Option Request
enter_of (Some words) = with_three an_enter (command_of words.0) (count_of words.1) (flags_of words.2)
enter_of None = None

-- `leave C`
abbrev pub leave_of : Option Word → Option Request
leave_of (Some word) = with_one request.Leave (command_of word)
leave_of None = None

-- `write C P HEX`
abbrev pub write_of : Option (Word × Word × Word) → Option Request
write_of (Some words) = with_three request.Write (command_of words.0) (path_of words.1) (bytes_of words.2)
write_of None = None

-- `declare C P TREE`
abbrev pub declare_of : Option (Word × Word × List Word) → Option Request
declare_of (Some words) =
    with_three request.Declare (command_of words.0) (path_of words.1) (placed (path_of words.1) (tree_spelled words.2))
declare_of None = None

-- `copy C P SRC`
abbrev pub copy_of : Option (Word × Word × Word) → Option Request
copy_of (Some words) = with_three request.Copy (command_of words.0) (path_of words.1) (path_of words.2)
copy_of None = None

-- `match C P KIND DIGEST`
abbrev pub match_of : Option (Word × Word × Word × Word) → Option Request
match_of (Some words) =
    with_three request.Matches (command_of words.0) (path_of words.1) (with_two a_sum (kind_of words.2) (digest_of words.3))
match_of None = None

-- `has C P`
abbrev pub has_of : Option (Word × Word) → Option Request
has_of (Some words) = with_two request.Has (command_of words.0) (path_of words.1)
has_of None = None

-- `ensure C P`
abbrev pub ensure_of : Option (Word × Word) → Option Request
ensure_of (Some words) = with_two request.Ensure (command_of words.0) (path_of words.1)
ensure_of None = None

-- `invalidate C P`
abbrev pub invalidate_of : Option (Word × Word) → Option Request
invalidate_of (Some words) = with_two request.Invalidate (command_of words.0) (path_of words.1)
invalidate_of None = None

-- `clean CUTOFF MODE`
abbrev pub clean_of : Option (Word × Word) → Option Request
clean_of (Some words) = with_two request.Clean (moment_of words.0) (mode_of words.1)
clean_of None = None

-- the request that the words behind the first say
abbrev pub request_of : Asking → List Word → Option Request
request_of asking.Enter words = enter_of (two_or_three_of words)
request_of asking.Leave words = leave_of (one_of words)
request_of asking.Write words = write_of (three_of words)
request_of asking.Declare words = declare_of (two_and_more_of words)
request_of asking.Copy words = copy_of (three_of words)
request_of asking.Match words = match_of (four_of words)
request_of asking.Has words = has_of (two_of words)
request_of asking.Ensure words = ensure_of (two_of words)
request_of asking.Invalidate words = invalidate_of (two_of words)
request_of asking.Clean words = clean_of (two_of words)
request_of asking.Flush words = if none_of words then Some request.Flush else None

-- ---- what else a line may ask for

-- `blob HEX`
abbrev pub blob_of : Option Word → Option Item
blob_of (Some word) = with_one item.Blob (bytes_of word)
blob_of None = None

-- `lie DIGEST HEX`
abbrev pub lie_of : Option (Word × Word) → Option Item
lie_of (Some words) = with_two item.Lie (digest_of words.0) (bytes_of words.1)
lie_of None = None

-- `at T`
abbrev pub at_of : Option Word → Option Item
at_of (Some word) = with_one item.At (moment_of word)
at_of None = None

-- `step W`
abbrev pub step_of : ℕ → Option Word → Option Item
step_of workers (Some word) = with_one item.Step (worker_of workers word)
step_of workers None = None

-- `show P`
abbrev pub show_of : Option Word → Option Item
show_of (Some word) = with_one item.Show (path_of word)
show_of None = None

-- `fail DEVICE K`
abbrev pub fail_of : Option (Word × Word) → Option Item
fail_of (Some words) = with_two item.Fail (device_of words.0) (place_of words.1)
fail_of None = None

-- `stop K PICK`
abbrev pub stop_of : Option (Word × Word) → Option Item
stop_of (Some words) = with_two item.Stop (count_of words.0) (pick_of words.1)
stop_of None = None

-- the item that is no request and that the words behind the first say
abbrev pub other_of : ℕ → Doing → List Word → Option Item
other_of workers doing.Blob words = blob_of (one_of words)
other_of workers doing.Lie words = lie_of (two_of words)
other_of workers doing.At words = at_of (one_of words)
other_of workers doing.Step words = step_of workers (one_of words)
other_of workers doing.Drain words = if none_of words then Some item.Drain else None
other_of workers doing.Show words = show_of (one_of words)
other_of workers doing.Asks words = if none_of words then Some item.Asks else None
other_of workers doing.Fail words = fail_of (two_of words)
other_of workers doing.Stop words = stop_of (two_of words)
other_of workers doing.Restart words = if none_of words then Some item.Restart else None

-- ---- any line

-- the item of the words behind a first word, by what that word asks for or does
abbrev pub item_behind : ℕ → List Word → Option Asking → Option Doing → Option Item
item_behind workers words (Some asked) did = with_one item.Request (request_of asked words)
item_behind workers words None (Some did) = other_of workers did words
item_behind workers words None None = None

-- the item that words say, where there are so many workers
abbrev pub item_of : ℕ → List Word → Option Item
item_of workers [] = None
item_of workers (verb ∷ words) = item_behind workers words (asking_of verb) (doing_of verb)
