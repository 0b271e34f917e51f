-- What is written of an item is read as that item.
use Rattle.std.proofs.Common.{◌≡◌, ℕ, ◌*◌, ◌%◌, ◌^◌, ◌<◌, ◌≤◌, ◌==◌, ◌&&◌, Bool, true, false, nat_lt, if◌then◌else◌, List, [], ◌∷◌, length, Option, Some, None, refl, sym, ◌∙◌, ap, ap₂, subst, arith}
use Rattle.std.specs.Prelude.{All, codes, decimal}
use Rattle.std.specs.List.{flat_map, list_all}
use Rattle.std.specs.Result.{result_ok, result_unwrap_or}
use Rattle.std.proofs.lemmas.Bool.{and_right, le-ltb, lt-ltb}
use Rattle.std.proofs.lemmas.List.Sums.{list_all-from_AllPass}
use Rattle.hex.specs.Hex.{IsBytes, decode_of, encode_lower, encode_with, lower_digits}
use Rattle.hex.proofs.HexLemmas.{decode_of-encode_lower, length-encode_with}
use Rattle.mat_digest.specs.Digests.{IsDigest, digest_text, is_lower_digit}
use Rattle.mat_digest.specs.declared.digest.Digest.{Digest}
use Rattle.mat_digest.proofs.Hashes.{AllPass-encode_lower}
use Rattle.mat_digest.proofs.Laws.{read_digest-digest_text}
use Rattle.mat_path.specs.Names.{joined, path_of, same_name}
use Rattle.mat_path.proofs.ReadLemmas.{read_back}
use Rattle.mat_model.specs.declared.answers.Device.{Device}
use Rattle.mat_model.specs.declared.answers.Device.TheVariants as device
use Rattle.mat_model.specs.declared.requests.CleanMode.{CleanMode}
use Rattle.mat_model.specs.declared.requests.CleanMode.TheVariants as mode
use Rattle.mat_model.specs.declared.requests.Request.{Request}
use Rattle.mat_model.specs.declared.requests.Request.TheVariants as request
use Rattle.mat_tree.specs.declared.flat.Flat.{Flat}
use Rattle.mat_tree.specs.declared.sum.Kind.{Kind}
use Rattle.mat_tree.specs.declared.sum.Kind.TheVariants as kind
use Rattle.mat_tree.specs.declared.sum.Sum.{Sum}
use Rattle.mat_tree.specs.Trees.{IsNode, IsTree, is_placed}
use Rattle.tree_words.specs.Rests.{words_of}
use Rattle.tree_words.specs.Words.{at_kind, node_words, read_from, text_of, tree_of}
use Rattle.tree_words.proofs.Clear.{clear_nodes, words_of-text_of}
use Rattle.tree_words.proofs.Laws.{read_tree-tree_text}
use Rattle.tree_words.proofs.Texts.{IsSome, node_before_some}
use Rattle.script_lang.specs.declared.flags.Flags.{Flags}
use Rattle.script_lang.specs.declared.items.Item.{Item}
use Rattle.script_lang.specs.declared.items.Item.TheVariants as item
use Rattle.script_lang.specs.declared.items.Line.TheVariants as line
use Rattle.script_lang.specs.declared.items.Pick.{Pick}
use Rattle.script_lang.specs.declared.items.Pick.TheVariants as pick
use Rattle.script_lang.specs.Bounds.{HasBounds, HasRequestBounds}
use Rattle.script_lang.specs.Items.{a_sum, an_enter, enter_of, item_of, placed, with_one, with_three, with_two}
use Rattle.script_lang.specs.Lines.{is_end, is_skipped, item_line, line_limit, line_of}
use Rattle.script_lang.specs.Spelled.{bytes_of, device_of, digest_of, flags_of, is_hex, kind_of, mode_of, pick_of, tree_spelled}
use Rattle.script_lang.specs.Texts.{device_text, kind_text}
use Rattle.script_lang.specs.Written.{IsItem, IsRequest, bytes_word, item_text, item_words, mode_text, pick_text, request_words}
use Rattle.script_lang.proofs.ClearLemmas.{clear_item}
use Rattle.script_lang.proofs.NumberLemmas.{command_of-decimal, count_of-decimal, moment_of-decimal, place_of-decimal, worker_of-decimal}

-- ---- single words

-- two digits are no `-`
no_dash : (b : ℕ) (bytes : List ℕ) → same_name (encode_lower (b ∷ bytes)) (codes "-") ≡ false
unfolding encode_with
no_dash b bytes = and_right _ false refl

-- what some bytes are written as is hexadecimal digits
written_hex : (b : ℕ) (bytes : List ℕ) → IsBytes (b ∷ bytes) → is_hex (encode_lower (b ∷ bytes)) ≡ true
written_hex b bytes h =
    let len : length (encode_lower (b ∷ bytes)) ≡ 2 * length (b ∷ bytes) = length-encode_with lower_digits (b ∷ bytes) in
    let some : nat_lt 0 (length (encode_lower (b ∷ bytes))) ≡ true = lt-ltb 0 (length (encode_lower (b ∷ bytes))) (omega arith) in
    let twice : length (encode_lower (b ∷ bytes)) % 2 ≡ 0 = omega arith in
    let even : (length (encode_lower (b ∷ bytes)) % 2 == 0) ≡ true = ap (λ (n : ℕ). n == 0) twice in
    let digits : list_all is_lower_digit (encode_lower (b ∷ bytes)) ≡ true =
    list_all-from_AllPass is_lower_digit (encode_lower (b ∷ bytes)) (AllPass-encode_lower (b ∷ bytes) h) in
    ap₂ (λ (s t : Bool). s && t) (ap₂ (λ (s t : Bool). s && t) some even) digits

bytes_back : (bytes : List ℕ) → IsBytes bytes → bytes_of (bytes_word bytes) ≡ Some bytes
bytes_back [] h = refl
bytes_back (b ∷ bytes) h =
    ap₂ (λ (s t : Bool). if s then Some [] else if t then Some (result_unwrap_or (decode_of (encode_lower (b ∷ bytes))) []) else None)
    (no_dash b bytes) (written_hex b bytes h)
    ∙ ap (λ r. Some (result_unwrap_or r [])) (decode_of-encode_lower (b ∷ bytes) h)

digest_back : (d : Digest) → IsDigest d → digest_of (digest_text d) ≡ Some d
digest_back d h = ap result_ok (read_digest-digest_text d h)

kind_back : (k : Kind) → kind_of (kind_text k) ≡ Some k
kind_back kind.File = refl
kind_back kind.Exec = refl
kind_back kind.Dir = refl

mode_back : (m : CleanMode) → mode_of (mode_text m) ≡ Some m
mode_back mode.Real = refl
mode_back mode.Dry = refl
mode_back mode.All = refl

device_back : (d : Device) → device_of (device_text d) ≡ Some d
device_back device.Disk = refl
device_back device.Store = refl
device_back device.Keeper = refl

pick_back : (p : Pick) → pick_of (pick_text p) ≡ Some p
pick_back pick.Nothing = refl
pick_back pick.Whole = refl
pick_back pick.Torn = refl

sum_back : (sum : Sum) → IsDigest sum.digest → with_two a_sum (kind_of (kind_text sum.kind)) (digest_of (digest_text sum.digest)) ≡ Some sum
sum_back sum h = ap₂ (λ (k : Option Kind) (d : Option Digest). with_two a_sum k d) (kind_back sum.kind) (digest_back sum.digest h)

-- ---- trees

-- the words of a tree spell it
spelled_back : (tree : List Flat) → IsTree tree → All IsNode tree → tree_spelled (flat_map node_words tree) ≡ Some tree
spelled_back [] h each = absurd (let e : false ≡ true = h.root in cc)
spelled_back (node ∷ nodes) h each =
    ap (λ (ws : List (List ℕ)). result_ok (tree_of (read_from at_kind 0 ws)))
    (sym (words_of-text_of (flat_map node_words (node ∷ nodes)) (node_before_some node (flat_map node_words nodes)) (clear_nodes (node ∷ nodes) each h.rels)))
    ∙ ap result_ok (read_tree-tree_text (node ∷ nodes) h each)

placed_back : (path : List (List ℕ)) (tree : List Flat) (o : Option (List (List ℕ))) (t : Option (List Flat)) → o ≡ Some path → t ≡ Some tree
    → list_all (is_placed path) tree ≡ true → placed o t ≡ Some tree
placed_back path tree o t path_is tree_is fits = ap₂ placed path_is tree_is ∙ ap (λ (b : Bool). if b then Some tree else None) fits

-- ---- items

-- what two and three parts make, if each is there
two_back : {A B C : Type 0} (f : A → B → C) (o : Option A) (p : Option B) (a : A) (b : B) → o ≡ Some a → p ≡ Some b → with_two f o p ≡ Some (f a b)
two_back f o p a b first second = ap₂ (with_two f) first second

three_back : {A B C D : Type 0} (f : A → B → C → D) (o : Option A) (p : Option B) (q : Option C) (a : A) (b : B) (c : C) → o ≡ Some a → p ≡ Some b → q ≡ Some c
    → with_three f o p q ≡ Some (f a b c)
three_back f o p q a b c first second third =
    ap₂ (λ x y. with_three f x y q) first second ∙ ap (with_three f (Some a) (Some b)) third

-- a request as an item
asked_back : (o : Option Request) (asked : Request) → o ≡ Some asked → with_one item.Request o ≡ Some (item.Request asked)
asked_back o asked h = ap (with_one item.Request) h

-- an enter whose last word, if there is one, spells its flags
enter_back : (command state : ℕ) (word : Option (List ℕ)) (flags : Flags) → command < 2 ^ 32 → state < 2 ^ 64 → flags_of word ≡ Some flags
    → enter_of (Some (decimal command, decimal state, word)) ≡ Some (an_enter command state flags)
enter_back command state word flags small fits spelled =
    three_back an_enter _ _ _ command state flags (command_of-decimal command small) (count_of-decimal state fits) spelled

request_back : (workers : ℕ) (asked : Request) → IsRequest asked → HasRequestBounds asked
    → item_of workers (request_words asked) ≡ Some (item.Request asked)
request_back workers (request.Enter command state false false) h fits =
    asked_back _ _ (enter_back command state None (record { soft = false; refuse = false }) h.0 h.1 refl)
request_back workers (request.Enter command state true false) h fits =
    asked_back _ _ (enter_back command state (Some (codes "p")) (record { soft = true; refuse = false }) h.0 h.1 refl)
request_back workers (request.Enter command state false true) h fits =
    asked_back _ _ (enter_back command state (Some (codes "r")) (record { soft = false; refuse = true }) h.0 h.1 refl)
request_back workers (request.Enter command state true true) h fits =
    asked_back _ _ (enter_back command state (Some (codes "pr")) (record { soft = true; refuse = true }) h.0 h.1 refl)
request_back workers (request.Leave command) h fits = asked_back _ _ (ap (with_one request.Leave) (command_of-decimal command h))
request_back workers (request.Write command path bytes) h fits =
    asked_back _ _ (three_back request.Write _ _ _ command path bytes (command_of-decimal command h.0.number_fits) (read_back path h.0.names_fit) (bytes_back bytes h.1))
request_back workers (request.Declare command path tree) h fits =
    let names : path_of (joined path) ≡ Some path = read_back path h.0.names_fit in
    asked_back _ _
    (three_back request.Declare _ _ _ command path tree (command_of-decimal command h.0.number_fits) names
    (placed_back path tree _ _ names (spelled_back tree h.1 h.2) fits))
request_back workers (request.Copy command path source) h fits =
    asked_back _ _ (three_back request.Copy _ _ _ command path source (command_of-decimal command h.0.number_fits) (read_back path h.0.names_fit) (read_back source h.1))
request_back workers (request.Matches command path sum) h fits =
    asked_back _ _ (three_back request.Matches _ _ _ command path sum (command_of-decimal command h.0.number_fits) (read_back path h.0.names_fit) (sum_back sum h.1))
request_back workers (request.Has command path) h fits =
    asked_back _ _ (two_back request.Has _ _ command path (command_of-decimal command h.number_fits) (read_back path h.names_fit))
request_back workers (request.Ensure command path) h fits =
    asked_back _ _ (two_back request.Ensure _ _ command path (command_of-decimal command h.number_fits) (read_back path h.names_fit))
request_back workers (request.Invalidate command path) h fits =
    asked_back _ _ (two_back request.Invalidate _ _ command path (command_of-decimal command h.number_fits) (read_back path h.names_fit))
request_back workers (request.Clean cutoff mode) h fits =
    asked_back _ _ (two_back request.Clean _ _ cutoff mode (moment_of-decimal cutoff fits) (mode_back mode))
request_back workers request.Flush h fits = refl

item_back : (workers : ℕ) (it : Item) → IsItem it → HasBounds workers it → item_of workers (item_words it) ≡ Some it
item_back workers (item.Request asked) h fits = request_back workers asked h fits
item_back workers (item.Blob bytes) h fits = ap (with_one item.Blob) (bytes_back bytes h)
item_back workers (item.Lie digest bytes) h fits = two_back item.Lie _ _ digest bytes (digest_back digest h.0) (bytes_back bytes h.1)
item_back workers (item.At moment) h fits = ap (with_one item.At) (moment_of-decimal moment fits)
item_back workers (item.Step worker) h fits = ap (with_one item.Step) (worker_of-decimal workers worker fits h)
item_back workers item.Drain h fits = refl
item_back workers (item.Show path) h fits = ap (with_one item.Show) (read_back path h)
item_back workers item.Asks h fits = refl
item_back workers (item.Fail device k) h fits = two_back item.Fail _ _ device k (device_back device) (place_of-decimal k fits h)
item_back workers (item.Stop k pick) h fits = two_back item.Stop _ _ k pick (count_of-decimal k h) (pick_back pick)
item_back workers item.Restart h fits = refl

-- ---- lines

-- a line that begins with a verb
record IsSpoken (text : List ℕ) : Type 0 where
  not_skipped : is_skipped text ≡ false
  not_end : is_end text ≡ false

spoken_request : (asked : Request) → IsSpoken (text_of (request_words asked))
spoken_request (request.Enter command state soft refuse) = record { not_skipped = refl; not_end = refl }
spoken_request (request.Leave command) = record { not_skipped = refl; not_end = refl }
spoken_request (request.Write command path bytes) = record { not_skipped = refl; not_end = refl }
spoken_request (request.Declare command path tree) = record { not_skipped = refl; not_end = refl }
spoken_request (request.Copy command path source) = record { not_skipped = refl; not_end = refl }
spoken_request (request.Matches command path sum) = record { not_skipped = refl; not_end = refl }
spoken_request (request.Has command path) = record { not_skipped = refl; not_end = refl }
spoken_request (request.Ensure command path) = record { not_skipped = refl; not_end = refl }
spoken_request (request.Invalidate command path) = record { not_skipped = refl; not_end = refl }
spoken_request (request.Clean cutoff mode) = record { not_skipped = refl; not_end = refl }
spoken_request request.Flush = record { not_skipped = refl; not_end = refl }

spoken_item : (it : Item) → IsSpoken (item_text it)
spoken_item (item.Request asked) = spoken_request asked
spoken_item (item.Blob bytes) = record { not_skipped = refl; not_end = refl }
spoken_item (item.Lie digest bytes) = record { not_skipped = refl; not_end = refl }
spoken_item (item.At moment) = record { not_skipped = refl; not_end = refl }
spoken_item (item.Step worker) = record { not_skipped = refl; not_end = refl }
spoken_item item.Drain = record { not_skipped = refl; not_end = refl }
spoken_item (item.Show path) = record { not_skipped = refl; not_end = refl }
spoken_item item.Asks = record { not_skipped = refl; not_end = refl }
spoken_item (item.Fail device k) = record { not_skipped = refl; not_end = refl }
spoken_item (item.Stop k pick) = record { not_skipped = refl; not_end = refl }
spoken_item item.Restart = record { not_skipped = refl; not_end = refl }

-- each has a word
some_request : (asked : Request) → IsSome (request_words asked)
some_request (request.Enter command state soft refuse) = record { head = _; tail = _; is = refl }
some_request (request.Leave command) = record { head = _; tail = _; is = refl }
some_request (request.Write command path bytes) = record { head = _; tail = _; is = refl }
some_request (request.Declare command path tree) = record { head = _; tail = _; is = refl }
some_request (request.Copy command path source) = record { head = _; tail = _; is = refl }
some_request (request.Matches command path sum) = record { head = _; tail = _; is = refl }
some_request (request.Has command path) = record { head = _; tail = _; is = refl }
some_request (request.Ensure command path) = record { head = _; tail = _; is = refl }
some_request (request.Invalidate command path) = record { head = _; tail = _; is = refl }
some_request (request.Clean cutoff mode) = record { head = _; tail = _; is = refl }
some_request request.Flush = record { head = _; tail = _; is = refl }

some_item : (it : Item) → IsSome (item_words it)
some_item (item.Request asked) = some_request asked
some_item (item.Blob bytes) = record { head = _; tail = _; is = refl }
some_item (item.Lie digest bytes) = record { head = _; tail = _; is = refl }
some_item (item.At moment) = record { head = _; tail = _; is = refl }
some_item (item.Step worker) = record { head = _; tail = _; is = refl }
some_item item.Drain = record { head = _; tail = _; is = refl }
some_item (item.Show path) = record { head = _; tail = _; is = refl }
some_item item.Asks = record { head = _; tail = _; is = refl }
some_item (item.Fail device k) = record { head = _; tail = _; is = refl }
some_item (item.Stop k pick) = record { head = _; tail = _; is = refl }
some_item item.Restart = record { head = _; tail = _; is = refl }

-- a text within the limit that is no note and no end says what its words say
line_says : (workers : ℕ) (text : List ℕ) (it : Item) → length text ≤ line_limit → IsSpoken text → item_of workers (words_of text) ≡ Some it
    → line_of workers text ≡ line.Item it
line_says workers text it fits spoken words =
    ap (λ (b : Bool). if b then line.Unread else if is_skipped text then line.Skip else if is_end text then line.End else item_line (item_of workers (words_of text)))
    (le-ltb line_limit (length text) fits)
    ∙ ap₂ (λ (s e : Bool). if s then line.Skip else if e then line.End else item_line (item_of workers (words_of text))) spoken.not_skipped spoken.not_end
    ∙ ap item_line words

-- what is written of an item is read as that item
pub line_of-item_text : (workers : ℕ) (it : Item) (text : List ℕ) → text ≡ item_text it → IsItem it → HasBounds workers it → length text ≤ line_limit
    → line_of workers text ≡ line.Item it
line_of-item_text workers it text same h bounds fits =
    let words : words_of (item_text it) ≡ item_words it = words_of-text_of (item_words it) (some_item it) (clear_item it h) in
    subst (λ (t : List ℕ). line_of workers t ≡ line.Item it) (sym same)
    (line_says workers (item_text it) it (subst (λ (t : List ℕ). length t ≤ line_limit) same fits) (spoken_item it)
    (ap (item_of workers) words ∙ item_back workers it h bounds))
