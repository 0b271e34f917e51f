-- Words that are written of an item have no space.
use Rattle.std.proofs.Common.{◌≡◌, ℕ, ◌^◌, ◌<◌, Bool, true, false, not, List, [], ◌∷◌, refl, arith}
use Rattle.std.specs.Prelude.{All, codes, decimal}
use Rattle.std.specs.List.{list_all}
use Rattle.std.proofs.lemmas.Bool.Decides.{nat_tests}
use Rattle.std.proofs.lemmas.List.Elements.{All-cons, All-nil, All-weaker}
use Rattle.std.proofs.lemmas.List.Sums.{AllPass-from_list_all}
use Rattle.hex.specs.Hex.{IsBytes, encode_lower}
use Rattle.mat_digest.specs.Digests.{digest_text, is_lower_digit}
use Rattle.mat_digest.proofs.Hashes.{AllPass-encode_lower}
use Rattle.mat_path.specs.Names.{is_path, joined}
use Rattle.mat_path.proofs.ReadLemmas.{names_of_path}
use Rattle.mat_model.specs.declared.answers.Device.{Device}
use Rattle.mat_model.specs.declared.answers.Device.TheVariants as device
use Rattle.mat_model.specs.declared.requests.CleanMode.{CleanMode}
use Rattle.mat_model.specs.declared.requests.CleanMode.TheVariants as mode
use Rattle.mat_model.specs.declared.requests.Request.{Request}
use Rattle.mat_model.specs.declared.requests.Request.TheVariants as request
use Rattle.mat_tree.specs.declared.sum.Kind.{Kind}
use Rattle.mat_tree.specs.declared.sum.Kind.TheVariants as kind
use Rattle.tree_words.specs.Rests.{is_space}
use Rattle.tree_words.proofs.Clear.{IsClear, IsClearByte, clear_decimal, clear_digest, clear_joined, clear_lower, clear_nodes}
use Rattle.script_lang.specs.declared.items.Item.{Item}
use Rattle.script_lang.specs.declared.items.Item.TheVariants as item
use Rattle.script_lang.specs.declared.items.Pick.{Pick}
use Rattle.script_lang.specs.declared.items.Pick.TheVariants as pick
use Rattle.script_lang.specs.Texts.{device_text, kind_text}
use Rattle.script_lang.specs.Written.{IsAddressed, IsItem, IsRequest, bytes_word, flag_words, item_words, mode_text, pick_text, request_words}

-- ---- single words

-- a word that is given, by its bytes
abbrev not_space : ℕ → Bool
not_space b = not (is_space b)

clear_test : (b : ℕ) → not_space b ≡ true → IsClearByte b
clear_test b h = grind (arith, nat_tests)

clear_given : (word : List ℕ) → list_all not_space word ≡ true → IsClear word
clear_given word h =
    All-weaker (λ (b : ℕ). not_space b ≡ true) IsClearByte clear_test word (AllPass-from_list_all not_space word h)

clear_command : (n : ℕ) → n < 2 ^ 32 → IsClear (decimal n)
clear_command n h = clear_decimal n (omega arith)

clear_hex : (bytes : List ℕ) → IsBytes bytes → IsClear (encode_lower bytes)
clear_hex bytes h = All-weaker (λ (b : ℕ). is_lower_digit b ≡ true) IsClearByte clear_lower (encode_lower bytes) (AllPass-encode_lower bytes h)

clear_bytes : (bytes : List ℕ) → IsBytes bytes → IsClear (bytes_word bytes)
clear_bytes [] h = clear_given (codes "-") refl
clear_bytes (b ∷ bytes) h = clear_hex (b ∷ bytes) h

clear_path : (path : List (List ℕ)) → is_path path ≡ true → IsClear (joined path)
clear_path path h = clear_joined path (names_of_path path h)

clear_kind : (k : Kind) → IsClear (kind_text k)
clear_kind kind.File = clear_given (codes "f") refl
clear_kind kind.Exec = clear_given (codes "x") refl
clear_kind kind.Dir = clear_given (codes "d") refl

clear_mode : (m : CleanMode) → IsClear (mode_text m)
clear_mode mode.Real = clear_given (codes "real") refl
clear_mode mode.Dry = clear_given (codes "dry") refl
clear_mode mode.All = clear_given (codes "all") refl

clear_device : (d : Device) → IsClear (device_text d)
clear_device device.Disk = clear_given (codes "disk") refl
clear_device device.Store = clear_given (codes "store") refl
clear_device device.Keeper = clear_given (codes "keeper") refl

clear_pick : (p : Pick) → IsClear (pick_text p)
clear_pick pick.Nothing = clear_given (codes "none") refl
clear_pick pick.Whole = clear_given (codes "whole") refl
clear_pick pick.Torn = clear_given (codes "torn") refl

-- ---- the words of an item

-- one word, two, three, and a word before others
one : (a : List ℕ) → IsClear a → All IsClear (a ∷ [])
one a h = All-cons IsClear a [] h (All-nil IsClear)

more : (a : List ℕ) (ws : List (List ℕ)) → IsClear a → All IsClear ws → All IsClear (a ∷ ws)
more a ws h hs = All-cons IsClear a ws h hs

-- a given word, a command and a path before others
addressed : (verb : List ℕ) (command : ℕ) (path : List (List ℕ)) (ws : List (List ℕ)) → list_all not_space verb ≡ true → IsAddressed command path
    → All IsClear ws → All IsClear (verb ∷ decimal command ∷ joined path ∷ ws)
addressed verb command path ws given h hs =
    more verb (decimal command ∷ joined path ∷ ws) (clear_given verb given)
    (more (decimal command) (joined path ∷ ws) (clear_command command h.number_fits) (more (joined path) ws (clear_path path h.names_fit) hs))

none : All IsClear []
none = All-nil IsClear

clear_flags : (soft refuse : Bool) → All IsClear (flag_words soft refuse)
clear_flags false false = none
clear_flags true false = one (codes "p") (clear_given (codes "p") refl)
clear_flags false true = one (codes "r") (clear_given (codes "r") refl)
clear_flags true true = one (codes "pr") (clear_given (codes "pr") refl)

clear_request : (asked : Request) → IsRequest asked → All IsClear (request_words asked)
clear_request (request.Enter command state soft refuse) h =
    more (codes "enter") (decimal command ∷ decimal state ∷ flag_words soft refuse) (clear_given (codes "enter") refl)
    (more (decimal command) (decimal state ∷ flag_words soft refuse) (clear_command command h.0)
    (more (decimal state) (flag_words soft refuse) (clear_decimal state h.1) (clear_flags soft refuse)))
clear_request (request.Leave command) h =
    more (codes "leave") (decimal command ∷ []) (clear_given (codes "leave") refl) (one (decimal command) (clear_command command h))
clear_request (request.Write command path bytes) h =
    addressed (codes "write") command path (bytes_word bytes ∷ []) refl h.0 (one (bytes_word bytes) (clear_bytes bytes h.1))
clear_request (request.Declare command path tree) h =
    addressed (codes "declare") command path _ refl h.0 (clear_nodes tree h.2 h.1.rels)
clear_request (request.Copy command path source) h =
    addressed (codes "copy") command path (joined source ∷ []) refl h.0 (one (joined source) (clear_path source h.1))
clear_request (request.Matches command path sum) h =
    addressed (codes "match") command path (kind_text sum.kind ∷ digest_text sum.digest ∷ []) refl h.0
    (more (kind_text sum.kind) (digest_text sum.digest ∷ []) (clear_kind sum.kind) (one (digest_text sum.digest) (clear_digest sum.digest h.1)))
clear_request (request.Has command path) h = addressed (codes "has") command path [] refl h none
clear_request (request.Ensure command path) h = addressed (codes "ensure") command path [] refl h none
clear_request (request.Invalidate command path) h = addressed (codes "invalidate") command path [] refl h none
clear_request (request.Clean cutoff mode) h =
    more (codes "clean") (decimal cutoff ∷ mode_text mode ∷ []) (clear_given (codes "clean") refl)
    (more (decimal cutoff) (mode_text mode ∷ []) (clear_decimal cutoff h) (one (mode_text mode) (clear_mode mode)))
clear_request request.Flush h = one (codes "flush") (clear_given (codes "flush") refl)

-- no word of an item has a space
pub clear_item : (it : Item) → IsItem it → All IsClear (item_words it)
clear_item (item.Request asked) h = clear_request asked h
clear_item (item.Blob bytes) h =
    more (codes "blob") (bytes_word bytes ∷ []) (clear_given (codes "blob") refl) (one (bytes_word bytes) (clear_bytes bytes h))
clear_item (item.Lie digest bytes) h =
    more (codes "lie") (digest_text digest ∷ bytes_word bytes ∷ []) (clear_given (codes "lie") refl)
    (more (digest_text digest) (bytes_word bytes ∷ []) (clear_digest digest h.0) (one (bytes_word bytes) (clear_bytes bytes h.1)))
clear_item (item.At moment) h =
    more (codes "at") (decimal moment ∷ []) (clear_given (codes "at") refl) (one (decimal moment) (clear_decimal moment h))
clear_item (item.Step worker) h =
    more (codes "step") (decimal worker ∷ []) (clear_given (codes "step") refl) (one (decimal worker) (clear_command worker h))
clear_item item.Drain h = one (codes "drain") (clear_given (codes "drain") refl)
clear_item (item.Show path) h =
    more (codes "show") (joined path ∷ []) (clear_given (codes "show") refl) (one (joined path) (clear_path path h))
clear_item item.Asks h = one (codes "asks") (clear_given (codes "asks") refl)
clear_item (item.Fail device k) h =
    more (codes "fail") (device_text device ∷ decimal k ∷ []) (clear_given (codes "fail") refl)
    (more (device_text device) (decimal k ∷ []) (clear_device device) (one (decimal k) (clear_decimal k h)))
clear_item (item.Stop k pick) h =
    more (codes "stop") (decimal k ∷ pick_text pick ∷ []) (clear_given (codes "stop") refl)
    (more (decimal k) (pick_text pick ∷ []) (clear_decimal k h) (one (pick_text pick) (clear_pick pick)))
clear_item item.Restart h = one (codes "restart") (clear_given (codes "restart") refl)
