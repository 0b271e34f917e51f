-- An item that a line says is written as that line.
use Rattle.std.proofs.Common.{◌≡◌, ℕ, ◌%◌, ◌^◌, ◌<◌, ◌≤◌, ◌==◌, ◌&&◌, Bool, true, false, not, nat_le, nat_lt, if◌then◌else◌, List, [], ◌∷◌, length, Option, Some, None, Result, Ok, Err, refl, sym, ◌∙◌, ap, subst, arith}
use Rattle.std.specs.Prelude.{IfOk, codes, decimal}
use Rattle.std.specs.Char.{is_ascii_digit}
use Rattle.std.specs.List.{list_all}
use Rattle.std.specs.Option.{option_to_list}
use Rattle.std.specs.Result.{result_ok, result_unwrap_or}
use Rattle.std.specs.Str.Parse.{digits_value}
use Rattle.std.proofs.lemmas.Bool.{and_parts, eqb-true, lt-ltb, ltb-true, not-true}
use Rattle.std.proofs.lemmas.Bool.Decides.{Decides-eqb}
use Rattle.std.proofs.lemmas.List.Splits.{join_with_byte-slice_split}
use Rattle.std.proofs.lemmas.List.Sums.{AllPass-from_list_all}
use Rattle.std.proofs.lemmas.Slice.Eq.{slice_eq-Decides}
use Rattle.hex.specs.Hex.{decode_of, encode_lower, encode_with}
use Rattle.mat_digest.specs.Digests.{digest_text, has_leading_zero, is_lower_digit, read_digest}
use Rattle.mat_digest.specs.declared.digest.Digest.{Digest}
use Rattle.mat_digest.specs.declared.digest.DigestRefusal.{DigestRefusal}
use Rattle.mat_digest.proofs.Hashes.{encode_lower-hash_spelled}
use Rattle.mat_digest.proofs.Laws.{digest_text-read_digest}
use Rattle.mat_digest.proofs.Sizes.{decimal-size_written}
use Rattle.mat_path.specs.Names.{is_path, joined, path_of, pieces, same_name}
use Rattle.mat_model.specs.declared.answers.Device.{Device}
use Rattle.mat_model.specs.declared.answers.Device.TheVariants as device
use Rattle.mat_model.specs.declared.requests.CleanMode.{CleanMode}
use Rattle.mat_model.specs.declared.requests.CleanMode.TheVariants as mode
use Rattle.mat_tree.specs.declared.sum.Kind.{Kind}
use Rattle.mat_tree.specs.declared.sum.Kind.TheVariants as kind
use Rattle.script_lang.specs.declared.flags.Flags.{Flags}
use Rattle.script_lang.specs.declared.items.Pick.{Pick}
use Rattle.script_lang.specs.declared.items.Pick.TheVariants as pick
use Rattle.script_lang.specs.Spelled.{at_least_one, below, bytes_of, command_of, count_of, device_of, digest_of, flags_of, is_hex, is_number, kind_of, mode_of, moment_of, number_of, pick_of, place_of, worker_of}
use Rattle.script_lang.specs.Texts.{device_text, kind_text}
use Rattle.script_lang.specs.Written.{bytes_word, flag_words, mode_text, pick_text}
use Rattle.script_lang.proofs.NumberLemmas.{number_is_digits}

-- ---- words that are given

-- words whose bytes are found the same are equal
pub equal_if_same_name : (a b : List ℕ) → same_name a b ≡ true → a ≡ b
equal_if_same_name a b h = (slice_eq-Decides Decides-eqb a b (same_name a b) refl).0 h

-- a word that passes the first of some tests, or one behind it, is the text of what it names
pub text_by_first : {A : Type 0} (text : A → List ℕ) (word given : List ℕ) (a r : A) (rest : Option A) → given ≡ text a
    → (rest ≡ Some r → word ≡ text r) → (if same_name word given then Some a else rest) ≡ Some r → word ≡ text r
text_by_first text word given a r rest is later h = by_test (same_name word given) refl h
  where
    by_test : (t : Bool) → same_name word given ≡ t → (if t then Some a else rest) ≡ Some r → word ≡ text r
    by_test true e same = equal_if_same_name word given e ∙ is ∙ ap text (let s : a ≡ r = cc in s)
    by_test false e same = later same

-- a word that names a kind is its text
pub kind_text-kind_of : (w : List ℕ) (k : Kind) → kind_of w ≡ Some k → w ≡ kind_text k
kind_text-kind_of w k h =
    text_by_first kind_text w (codes "f") kind.File k _ refl
    (text_by_first kind_text w (codes "x") kind.Exec k _ refl (text_by_first kind_text w (codes "d") kind.Dir k None refl (λ e. absurd cc))) h

-- so is one that names a clean's mode
pub mode_text-mode_of : (w : List ℕ) (m : CleanMode) → mode_of w ≡ Some m → w ≡ mode_text m
mode_text-mode_of w m h =
    text_by_first mode_text w (codes "real") mode.Real m _ refl
    (text_by_first mode_text w (codes "dry") mode.Dry m _ refl (text_by_first mode_text w (codes "all") mode.All m None refl (λ e. absurd cc))) h

-- so is one that names a device
pub device_text-device_of : (w : List ℕ) (d : Device) → device_of w ≡ Some d → w ≡ device_text d
device_text-device_of w d h =
    text_by_first device_text w (codes "disk") device.Disk d _ refl
    (text_by_first device_text w (codes "store") device.Store d _ refl (text_by_first device_text w (codes "keeper") device.Keeper d None refl (λ e. absurd cc))) h

-- so is one that names a pick
pub pick_text-pick_of : (w : List ℕ) (p : Pick) → pick_of w ≡ Some p → w ≡ pick_text p
pick_text-pick_of w p h =
    text_by_first pick_text w (codes "none") pick.Nothing p _ refl
    (text_by_first pick_text w (codes "whole") pick.Whole p _ refl (text_by_first pick_text w (codes "torn") pick.Torn p None refl (λ e. absurd cc))) h

-- ---- flags

-- the words that are written of flags
abbrev words_of_flags : Flags → List (List ℕ)
words_of_flags flags = flag_words flags.soft flags.refuse

-- a word that passes the first of some tests, or one behind it, is the one word of the flags that it spells
flags_by_first : (word given : List ℕ) (a r : Flags) (rest : Option Flags) → given ∷ [] ≡ words_of_flags a
    → (rest ≡ Some r → word ∷ [] ≡ words_of_flags r) → (if same_name word given then Some a else rest) ≡ Some r → word ∷ [] ≡ words_of_flags r
flags_by_first word given a r rest is later h = by_test (same_name word given) refl h
  where
    by_test : (t : Bool) → same_name word given ≡ t → (if t then Some a else rest) ≡ Some r → word ∷ [] ≡ words_of_flags r
    by_test true e same =
        ap (λ (w : List ℕ). w ∷ []) (equal_if_same_name word given e) ∙ is ∙ ap words_of_flags (let s : a ≡ r = cc in s)
    by_test false e same = later same

-- the word that spells flags, or none, is what is written of them
pub flag_words-flags_of : (o : Option (List ℕ)) (flags : Flags) → flags_of o ≡ Some flags → option_to_list o ≡ flag_words flags.soft flags.refuse
flag_words-flags_of None flags h = ap words_of_flags (let s : record { soft = false; refuse = false } ≡ flags = cc in s)
flag_words-flags_of (Some w) flags h =
    flags_by_first w (codes "p") (record { soft = true; refuse = false }) flags _ refl
    (flags_by_first w (codes "r") (record { soft = false; refuse = true }) flags _ refl
    (flags_by_first w (codes "pr") (record { soft = true; refuse = true }) flags None refl (λ e. absurd cc))) h

-- ---- numbers

-- a number below 2^64 is written as it was read
number_is : (w : List ℕ) (n : ℕ) → number_of w ≡ Some n → n < 2 ^ 64 → w ≡ decimal n
number_is w n h fits = by_test (is_number w) refl h
  where
    by_test : (t : Bool) → is_number w ≡ t → (if t then Some (digits_value 10 w) else None) ≡ Some n → w ≡ decimal n
    by_test true e same =
        let value : digits_value 10 w ≡ n = cc in
        let parts = number_is_digits w e in
        let lone = not-true (has_leading_zero w) (and_parts (nat_lt 0 (length w) && list_all is_ascii_digit w) (not (has_leading_zero w)) e).1 in
        let within : nat_lt (digits_value 10 w) (2 ^ 64) ≡ true = lt-ltb (digits_value 10 w) (2 ^ 64) (subst (λ (k : ℕ). k < 2 ^ 64) (sym value) fits) in
        sym (decimal-size_written w n (rw (lone, parts.1, lt-ltb 0 (length w) parts.0, within) same))
    by_test false e same = absurd cc

below_parts : (bound : ℕ) (o : Option ℕ) (n : ℕ) → below bound o ≡ Some n → (o ≡ Some n) × (n < bound)
below_parts bound None n h = absurd cc
below_parts bound (Some m) n h = by_test (nat_lt m bound) refl h
  where
    by_test : (t : Bool) → nat_lt m bound ≡ t → (if t then Some m else None) ≡ Some n → (Some m ≡ Some n) × (n < bound)
    by_test true e same = (same, subst (λ (k : ℕ). k < bound) (let s : m ≡ n = cc in s) (ltb-true m bound e))
    by_test false e same = absurd cc

below_is : (bound : ℕ) (w : List ℕ) (n : ℕ) → bound ≤ 2 ^ 64 → below bound (number_of w) ≡ Some n → w ≡ decimal n
below_is bound w n most h =
    let parts = below_parts bound (number_of w) n h in
    let less : n < bound = parts.1 in
    number_is w n parts.0 (omega arith)

-- a word that is a command's number is what `decimal` writes of it
pub decimal-command_of : (w : List ℕ) (n : ℕ) → command_of w ≡ Some n → w ≡ decimal n
decimal-command_of w n h = below_is (2 ^ 32) w n (omega arith) h

-- so is one that is a count
pub decimal-count_of : (w : List ℕ) (n : ℕ) → count_of w ≡ Some n → w ≡ decimal n
decimal-count_of w n h = below_is (2 ^ 64) w n (omega arith) h

-- so is one that is a moment
pub decimal-moment_of : (w : List ℕ) (n : ℕ) → moment_of w ≡ Some n → w ≡ decimal n
decimal-moment_of w n h = below_is (2 ^ 63) w n (omega arith) h

-- so is one that is a worker's number
pub decimal-worker_of : (workers : ℕ) (w : List ℕ) (n : ℕ) → workers < 2 ^ 32 → worker_of workers w ≡ Some n → w ≡ decimal n
decimal-worker_of workers w n few h = below_is workers w n (omega arith) h

-- so is one that is a place
pub decimal-place_of : (w : List ℕ) (n : ℕ) → place_of w ≡ Some n → w ≡ decimal n
decimal-place_of w n h = decimal-count_of w n (least (count_of w) h)
  where
    least : (o : Option ℕ) → at_least_one o ≡ Some n → o ≡ Some n
    least None e = absurd cc
    least (Some m) e = by_test (nat_le 1 m) e
      where
        by_test : (t : Bool) → (if t then Some m else None) ≡ Some n → Some m ≡ Some n
        by_test true e = e
        by_test false e = absurd cc

-- ---- bytes, digests and paths

-- bytes whose digits are some
word_is : (bytes w : List ℕ) → encode_lower bytes ≡ w → 0 < length w → w ≡ bytes_word bytes
unfolding encode_with
word_is [] w h some = absurd (let none : length w ≡ 0 = ap length (sym h) in omega arith)
word_is (b ∷ bytes) w h some = sym h

-- a word that spells bytes is the word of these bytes
pub bytes_word-bytes_of : (w bytes : List ℕ) → bytes_of w ≡ Some bytes → w ≡ bytes_word bytes
bytes_word-bytes_of w bytes h = by_tests (same_name w (codes "-")) (is_hex w) refl refl h
  where
    by_tests : (t u : Bool) → same_name w (codes "-") ≡ t → is_hex w ≡ u
        → (if t then Some [] else if u then Some (result_unwrap_or (decode_of w) []) else None) ≡ Some bytes → w ≡ bytes_word bytes
    by_tests true u e f same = equal_if_same_name w (codes "-") e ∙ ap bytes_word (let s : [] ≡ bytes = cc in s)
    by_tests false true e f same =
        let outer = and_parts (nat_lt 0 (length w) && (length w % 2 == 0)) (list_all is_lower_digit w) f in
        let inner = and_parts (nat_lt 0 (length w)) (length w % 2 == 0) outer.0 in
        let back = encode_lower-hash_spelled w (eqb-true (length w % 2) 0 inner.1) (AllPass-from_list_all is_lower_digit w outer.1) in
        word_is (result_unwrap_or (decode_of w) []) w back (ltb-true 0 (length w) inner.0) ∙ ap bytes_word (let s : result_unwrap_or (decode_of w) [] ≡ bytes = cc in s)
    by_tests false false e f same = absurd cc

-- a word that spells a digest is its text
pub digest_text-digest_of : (w : List ℕ) (d : Digest) → digest_of w ≡ Some d → w ≡ digest_text d
digest_text-digest_of w d h = by_answer (read_digest w) (digest_text-read_digest w) h
  where
    by_answer : (r : Result Digest DigestRefusal) → IfOk r (λ e. w ≡ digest_text e) → result_ok r ≡ Some d → w ≡ digest_text d
    by_answer (Ok e) text same = text ∙ ap digest_text (let s : e ≡ d = cc in s)
    by_answer (Err why) text same = absurd cc

-- a word that spells a path is its text
pub joined-path_of : (w : List ℕ) (path : List (List ℕ)) → path_of w ≡ Some path → w ≡ joined path
joined-path_of w path h = by_test (is_path (pieces w)) h
  where
    by_test : (t : Bool) → (if t then Some (pieces w) else None) ≡ Some path → w ≡ joined path
    by_test true same = sym (join_with_byte-slice_split 47 w) ∙ ap joined (let s : pieces w ≡ path = cc in s)
    by_test false same = absurd cc
