-- An item that a line says is written as that line: trees, forms and whole lines.
use Rattle.std.proofs.Common.{◌≡◌, ℕ, ◌+◌, ◌^◌, ◌<◌, Bool, true, false, nat_le, if◌then◌else◌, List, [], ◌∷◌, ◌++◌, Option, Some, None, Result, Ok, Err, refl, sym, ◌∙◌, ap, ap₂, subst, append_assoc}
use Rattle.std.specs.Prelude.{codes}
use Rattle.std.specs.List.{flat_map, list_all}
use Rattle.std.specs.Option.{option_to_list}
use Rattle.std.specs.Result.{result_ok}
use Rattle.std.proofs.lemmas.List.Splits.{join_with_byte-slice_split}
use Rattle.mat_digest.specs.Digests.{digest_text, read_digest}
use Rattle.mat_digest.specs.declared.digest.Digest.{Digest}
use Rattle.mat_digest.specs.declared.digest.DigestRefusal.{DigestRefusal}
use Rattle.mat_path.specs.Names.{is_path, is_target, joined, path_of, pieces, rel_of, rel_text, same_name}
use Rattle.mat_model.specs.declared.requests.Request.{Request}
use Rattle.mat_model.specs.declared.requests.Request.TheVariants as request
use Rattle.mat_tree.specs.declared.flat.Flat.{Flat}
use Rattle.mat_tree.specs.declared.flat.What.TheVariants as what
use Rattle.mat_tree.specs.declared.refusal.TreeRefusal.{TreeRefusal}
use Rattle.mat_tree.specs.declared.sum.Sum.{Sum}
use Rattle.mat_tree.specs.Trees.{is_placed, tree_refusal}
use Rattle.tree_words.specs.Rests.{none_of, words_of}
use Rattle.tree_words.specs.Words.{Place, Reading, at_digest, at_kind, at_rel, at_target, behind_kind, digest_spelled, file_word, fitting, node_before, node_words, read_from, small_digest, text_of, tree_of, unless_refused, what_words}
use Rattle.script_lang.specs.declared.items.Item.{Item}
use Rattle.script_lang.specs.declared.items.Item.TheVariants as item
use Rattle.script_lang.specs.declared.verbs.Asking.{Asking}
use Rattle.script_lang.specs.declared.verbs.Asking.TheVariants as asking
use Rattle.script_lang.specs.declared.verbs.Doing.{Doing}
use Rattle.script_lang.specs.declared.verbs.Doing.TheVariants as doing
use Rattle.script_lang.specs.Items.{Word, a_sum, an_enter, at_of, blob_of, clean_of, copy_of, declare_of, enter_of, ensure_of, fail_of, four_of, has_of, invalidate_of, item_behind, item_of, leave_of, lie_of, match_of, one_of, other_of, placed, request_of, show_of, step_of, stop_of, three_of, two_and_more_of, two_of, two_or_three_of, with_two, write_of}
use Rattle.script_lang.specs.Spelled.{command_of, count_of, digest_of, flags_of, kind_of, tree_spelled}
use Rattle.script_lang.specs.Texts.{kind_text}
use Rattle.script_lang.specs.Verbs.{asking_of, doing_of}
use Rattle.script_lang.specs.Written.{bytes_word, flag_words, item_text, item_words, request_words}
use Rattle.script_lang.proofs.BoundsLemmas.{parts_of_one, parts_of_three, parts_of_two}
use Rattle.script_lang.proofs.SpelledIs.{text_by_first, bytes_word-bytes_of, decimal-command_of, decimal-count_of, device_text-device_of, digest_text-digest_of, flag_words-flags_of, kind_text-kind_of, mode_text-mode_of, decimal-moment_of, joined-path_of, pick_text-pick_of, decimal-place_of, equal_if_same_name, decimal-worker_of}

-- ---- trees

rel_is : (w : List ℕ) (rel : List (List ℕ)) → rel_of w ≡ Some rel → w ≡ rel_text rel
rel_is w rel h = text_by_first rel_text w (46 ∷ []) [] rel (path_of w) refl (λ e. by_names rel e) h
  where
    -- a path has a name
    empty : (t : Bool) (names : List (List ℕ)) → is_path names ≡ t → (if t then Some names else None) ≡ Some [] → ⊥
    empty true names e same = let none : [] ≡ names = cc in let named : is_path [] ≡ true = subst (λ (ns : List (List ℕ)). is_path ns ≡ true) (sym none) e in cc
    empty false names e same = cc

    by_names : (names : List (List ℕ)) → path_of w ≡ Some names → w ≡ rel_text names
    by_names [] e = absurd (empty (is_path (pieces w)) (pieces w) refl e)
    by_names (name ∷ names) e = joined-path_of w (name ∷ names) e

-- the words that stand before a place of a node
abbrev words_before : Place → List Word
words_before at_kind = []
words_before (at_digest exec) = file_word exec ∷ []
words_before at_target = codes "l" ∷ []
words_before (at_rel w) = what_words w

-- what is read of these words is written as them, with those before
abbrev Writes : List Word → Type 0
Writes words = (place : Place) (k : ℕ) (nodes : List Flat) → read_from place k words ≡ Ok nodes → flat_map node_words nodes ≡ words_before place ++ words

writes : (words : List Word) → Writes words
writes [] at_kind k nodes read = ap (λ (ns : List Flat). flat_map node_words ns) (let e : nodes ≡ [] = cc in e)
writes [] (at_digest exec) k nodes read = absurd cc
writes [] at_target k nodes read = absurd cc
writes [] (at_rel w) k nodes read = absurd cc
writes (word ∷ words) at_kind k nodes read =
    by_test (λ o. fitting k o (λ kind. read_from (behind_kind kind) (k + 1) words)) _ _ (same_name word (codes "f")) (λ test e. begun (codes "f") test (writes words (at_digest false) (k + 1) nodes e))
    (λ f. by_test (λ o. fitting k o (λ kind. read_from (behind_kind kind) (k + 1) words)) _ _ (same_name word (codes "x")) (λ test e. begun (codes "x") test (writes words (at_digest true) (k + 1) nodes e))
    (λ x. by_test (λ o. fitting k o (λ kind. read_from (behind_kind kind) (k + 1) words)) _ _ (same_name word (codes "l")) (λ test e. begun (codes "l") test (writes words at_target (k + 1) nodes e))
    (λ l. by_test (λ o. fitting k o (λ kind. read_from (behind_kind kind) (k + 1) words)) _ _ (same_name word (codes "d")) (λ test e. begun (codes "d") test (writes words (at_rel what.Dir) (k + 1) nodes e))
    (λ d. absurd cc) l) x) f) read
  where
    begun : (given : Word) → same_name word given ≡ true → flat_map node_words nodes ≡ given ∷ words → flat_map node_words nodes ≡ word ∷ words
    begun given test e = e ∙ ap (λ (w : Word). w ∷ words) (sym (equal_if_same_name word given test))

    by_test : {K : Type 0} (go : Option K → Reading) (a : K) (rest : Option K) (t : Bool) → (t ≡ true → go (Some a) ≡ Ok nodes → flat_map node_words nodes ≡ word ∷ words)
        → (go rest ≡ Ok nodes → flat_map node_words nodes ≡ word ∷ words) → go (if t then Some a else rest) ≡ Ok nodes → flat_map node_words nodes ≡ word ∷ words
    by_test go a rest true found later e = found refl e
    by_test go a rest false found later e = later e
writes (word ∷ words) (at_digest exec) k nodes read = by_digest (writes words) (digest_spelled word) refl read
  where
    small_is : (r : Result Digest DigestRefusal) (d : Digest) → small_digest r ≡ Some d → result_ok r ≡ Some d
    small_is (Err why) d e = absurd cc
    small_is (Ok c) d e = by_test (nat_le c.size 67108864) e
      where
        by_test : (t : Bool) → (if t then Some c else None) ≡ Some d → Some c ≡ Some d
        by_test true same = same
        by_test false same = absurd cc

    by_digest : Writes words → (o : Option Digest) → digest_spelled word ≡ o → fitting k o (λ d. read_from (at_rel (what.File d exec)) (k + 1) words) ≡ Ok nodes
        → flat_map node_words nodes ≡ file_word exec ∷ word ∷ words
    by_digest rest None is e = absurd cc
    by_digest rest (Some d) is e =
        rest (at_rel (what.File d exec)) (k + 1) nodes e
        ∙ ap (λ (w : Word). file_word exec ∷ w ∷ words) (sym (digest_text-digest_of word d (small_is (read_digest word) d is)))
writes (word ∷ words) at_target k nodes read = by_target (writes words) (is_target word) read
  where
    by_target : Writes words → (t : Bool) → fitting k (if t then Some word else None) (λ d. read_from (at_rel (what.Link d)) (k + 1) words) ≡ Ok nodes
        → flat_map node_words nodes ≡ codes "l" ∷ word ∷ words
    by_target rest false e = absurd cc
    by_target rest true e = rest (at_rel (what.Link word)) (k + 1) nodes e
writes (word ∷ words) (at_rel w) k nodes read = by_rel (writes words at_kind (k + 1)) (rel_of word) refl read
  where
    by_rest : ((ns : List Flat) → read_from at_kind (k + 1) words ≡ Ok ns → flat_map node_words ns ≡ words) → (rel : List (List ℕ)) (reading : Reading)
        → read_from at_kind (k + 1) words ≡ reading → word ≡ rel_text rel
        → node_before (record { rel = rel; what = w }) reading ≡ Ok nodes → flat_map node_words nodes ≡ what_words w ++ word ∷ words
    by_rest back rel (Err j) rest is e = absurd cc
    by_rest back rel (Ok ns) rest is e =
        let same : nodes ≡ record { rel = rel; what = w } ∷ ns = cc in
        ap (λ (l : List Flat). flat_map node_words l) same
        ∙ ap (λ (l : List Word). (what_words w ++ rel_text rel ∷ []) ++ l) (back ns rest)
        ∙ append_assoc (what_words w) (rel_text rel ∷ []) words
        ∙ ap (λ (v : Word). what_words w ++ v ∷ words) (sym is)

    by_rel : ((ns : List Flat) → read_from at_kind (k + 1) words ≡ Ok ns → flat_map node_words ns ≡ words) → (o : Option (List (List ℕ))) → rel_of word ≡ o
        → fitting k o (λ r. node_before (record { rel = r; what = w }) (read_from at_kind (k + 1) words)) ≡ Ok nodes
        → flat_map node_words nodes ≡ what_words w ++ word ∷ words
    by_rel back None is e = absurd cc
    by_rel back (Some rel) is e = by_rest back rel (read_from at_kind (k + 1) words) refl (rel_is word rel is) e

tree_is : (words : List Word) (tree : List Flat) → tree_spelled words ≡ Some tree → flat_map node_words tree ≡ words
tree_is words tree h = by_reading (read_from at_kind 0 words) refl h
  where
    unless : (nodes : List Flat) (o : Option TreeRefusal) → result_ok (unless_refused nodes o) ≡ Some tree → nodes ≡ tree
    unless nodes None e = let s : nodes ≡ tree = cc in s
    unless nodes (Some why) e = absurd cc

    by_reading : (reading : Reading) → read_from at_kind 0 words ≡ reading → result_ok (tree_of reading) ≡ Some tree → flat_map node_words tree ≡ words
    by_reading (Err k) is e = absurd cc
    by_reading (Ok nodes) is e =
        ap (λ (ns : List Flat). flat_map node_words ns) (sym (unless nodes (tree_refusal nodes) e)) ∙ writes words at_kind 0 nodes is

-- ---- how many words there are

none_is : (ws : List Word) → none_of ws ≡ true → ws ≡ []
none_is [] h = refl
none_is (a ∷ more) h = absurd cc

one_is : (ws : List Word) (w : Word) → one_of ws ≡ Some w → ws ≡ w ∷ []
one_is [] w h = absurd cc
one_is (a ∷ []) w h = ap (λ (x : Word). x ∷ []) (let s : a ≡ w = cc in s)
one_is (a ∷ b ∷ more) w h = absurd cc

two_is : (ws : List Word) (p : Word × Word) → two_of ws ≡ Some p → ws ≡ p.0 ∷ p.1 ∷ []
two_is [] p h = absurd cc
two_is (a ∷ []) p h = absurd cc
two_is (a ∷ b ∷ []) p h = ap (λ (q : Word × Word). q.0 ∷ q.1 ∷ []) (let s : (a, b) ≡ p = cc in s)
two_is (a ∷ b ∷ c ∷ more) p h = absurd cc

two_or_three_is : (ws : List Word) (p : Word × Word × Option Word) → two_or_three_of ws ≡ Some p → ws ≡ p.0 ∷ p.1 ∷ option_to_list p.2
two_or_three_is [] p h = absurd cc
two_or_three_is (a ∷ []) p h = absurd cc
two_or_three_is (a ∷ b ∷ []) p h = ap (λ (q : Word × Word × Option Word). q.0 ∷ q.1 ∷ option_to_list q.2) (let s : (a, b, None) ≡ p = cc in s)
two_or_three_is (a ∷ b ∷ c ∷ []) p h = ap (λ (q : Word × Word × Option Word). q.0 ∷ q.1 ∷ option_to_list q.2) (let s : (a, b, Some c) ≡ p = cc in s)
two_or_three_is (a ∷ b ∷ c ∷ d ∷ more) p h = absurd cc

three_is : (ws : List Word) (p : Word × Word × Word) → three_of ws ≡ Some p → ws ≡ p.0 ∷ p.1 ∷ p.2 ∷ []
three_is [] p h = absurd cc
three_is (a ∷ []) p h = absurd cc
three_is (a ∷ b ∷ []) p h = absurd cc
three_is (a ∷ b ∷ c ∷ []) p h = ap (λ (q : Word × Word × Word). q.0 ∷ q.1 ∷ q.2 ∷ []) (let s : (a, b, c) ≡ p = cc in s)
three_is (a ∷ b ∷ c ∷ d ∷ more) p h = absurd cc

four_is : (ws : List Word) (p : Word × Word × Word × Word) → four_of ws ≡ Some p → ws ≡ p.0 ∷ p.1 ∷ p.2 ∷ p.3 ∷ []
four_is [] p h = absurd cc
four_is (a ∷ []) p h = absurd cc
four_is (a ∷ b ∷ []) p h = absurd cc
four_is (a ∷ b ∷ c ∷ []) p h = absurd cc
four_is (a ∷ b ∷ c ∷ d ∷ []) p h = ap (λ (q : Word × Word × Word × Word). q.0 ∷ q.1 ∷ q.2 ∷ q.3 ∷ []) (let s : (a, b, c, d) ≡ p = cc in s)
four_is (a ∷ b ∷ c ∷ d ∷ e ∷ more) p h = absurd cc

more_is : (ws : List Word) (p : Word × Word × List Word) → two_and_more_of ws ≡ Some p → ws ≡ p.0 ∷ p.1 ∷ p.2
more_is [] p h = absurd cc
more_is (a ∷ []) p h = absurd cc
more_is (a ∷ b ∷ more) p h = ap (λ (q : Word × Word × List Word). q.0 ∷ q.1 ∷ q.2) (let s : (a, b, more) ≡ p = cc in s)

-- ---- requests

enter_words : (ws : List Word) (o : Option (Word × Word × Option Word)) (r : Request) → two_or_three_of ws ≡ o → enter_of o ≡ Some r
    → request_words r ≡ codes "enter" ∷ ws
enter_words ws None r is h = absurd cc
enter_words ws (Some w) r is h =
    let got = parts_of_three an_enter (command_of w.0) (count_of w.1) (flags_of w.2) r h in
    ap request_words (sym got.6)
    ∙ ap₂ (λ (a b : Word). codes "enter" ∷ a ∷ b ∷ flag_words got.2.soft got.2.refuse) (sym (decimal-command_of w.0 got.0 got.3)) (sym (decimal-count_of w.1 got.1 got.4))
    ∙ ap (λ (l : List Word). codes "enter" ∷ w.0 ∷ w.1 ∷ l) (sym (flag_words-flags_of w.2 got.2 got.5))
    ∙ ap (λ (l : List Word). codes "enter" ∷ l) (sym (two_or_three_is ws w is))

has_words : (ws : List Word) (o : Option (Word × Word)) (r : Request) → two_of ws ≡ o → has_of o ≡ Some r → request_words r ≡ codes "has" ∷ ws
has_words ws None r is h = absurd cc
has_words ws (Some w) r is h =
    let got = parts_of_two request.Has _ _ r h in
    ap request_words (sym got.4) ∙ ap₂ (λ (a b : Word). codes "has" ∷ a ∷ b ∷ []) (sym (decimal-command_of w.0 got.0 got.2)) (sym (joined-path_of w.1 got.1 got.3))
    ∙ ap (λ (l : List Word). codes "has" ∷ l) (sym (two_is ws w is))

ensure_words : (ws : List Word) (o : Option (Word × Word)) (r : Request) → two_of ws ≡ o → ensure_of o ≡ Some r → request_words r ≡ codes "ensure" ∷ ws
ensure_words ws None r is h = absurd cc
ensure_words ws (Some w) r is h =
    let got = parts_of_two request.Ensure _ _ r h in
    ap request_words (sym got.4) ∙ ap₂ (λ (a b : Word). codes "ensure" ∷ a ∷ b ∷ []) (sym (decimal-command_of w.0 got.0 got.2)) (sym (joined-path_of w.1 got.1 got.3))
    ∙ ap (λ (l : List Word). codes "ensure" ∷ l) (sym (two_is ws w is))

invalidate_words : (ws : List Word) (o : Option (Word × Word)) (r : Request) → two_of ws ≡ o → invalidate_of o ≡ Some r → request_words r ≡ codes "invalidate" ∷ ws
invalidate_words ws None r is h = absurd cc
invalidate_words ws (Some w) r is h =
    let got = parts_of_two request.Invalidate _ _ r h in
    ap request_words (sym got.4) ∙ ap₂ (λ (a b : Word). codes "invalidate" ∷ a ∷ b ∷ []) (sym (decimal-command_of w.0 got.0 got.2)) (sym (joined-path_of w.1 got.1 got.3))
    ∙ ap (λ (l : List Word). codes "invalidate" ∷ l) (sym (two_is ws w is))

clean_words : (ws : List Word) (o : Option (Word × Word)) (r : Request) → two_of ws ≡ o → clean_of o ≡ Some r → request_words r ≡ codes "clean" ∷ ws
clean_words ws None r is h = absurd cc
clean_words ws (Some w) r is h =
    let got = parts_of_two request.Clean _ _ r h in
    ap request_words (sym got.4) ∙ ap₂ (λ (a b : Word). codes "clean" ∷ a ∷ b ∷ []) (sym (decimal-moment_of w.0 got.0 got.2)) (sym (mode_text-mode_of w.1 got.1 got.3))
    ∙ ap (λ (l : List Word). codes "clean" ∷ l) (sym (two_is ws w is))

leave_words : (ws : List Word) (o : Option Word) (r : Request) → one_of ws ≡ o → leave_of o ≡ Some r → request_words r ≡ codes "leave" ∷ ws
leave_words ws None r is h = absurd cc
leave_words ws (Some w) r is h =
    let got = parts_of_one request.Leave _ r h in
    ap request_words (sym got.2) ∙ ap (λ (a : Word). codes "leave" ∷ a ∷ []) (sym (decimal-command_of w got.0 got.1))
    ∙ ap (λ (l : List Word). codes "leave" ∷ l) (sym (one_is ws w is))

write_words : (ws : List Word) (o : Option (Word × Word × Word)) (r : Request) → three_of ws ≡ o → write_of o ≡ Some r → request_words r ≡ codes "write" ∷ ws
write_words ws None r is h = absurd cc
write_words ws (Some w) r is h =
    let got = parts_of_three request.Write _ _ _ r h in
    ap request_words (sym got.6)
    ∙ ap₂ (λ (a b : Word). codes "write" ∷ a ∷ b ∷ bytes_word got.2 ∷ []) (sym (decimal-command_of w.0 got.0 got.3)) (sym (joined-path_of w.1 got.1 got.4))
    ∙ ap (λ (a : Word). codes "write" ∷ w.0 ∷ w.1 ∷ a ∷ []) (sym (bytes_word-bytes_of w.2 got.2 got.5))
    ∙ ap (λ (l : List Word). codes "write" ∷ l) (sym (three_is ws w is))

copy_words : (ws : List Word) (o : Option (Word × Word × Word)) (r : Request) → three_of ws ≡ o → copy_of o ≡ Some r → request_words r ≡ codes "copy" ∷ ws
copy_words ws None r is h = absurd cc
copy_words ws (Some w) r is h =
    let got = parts_of_three request.Copy _ _ _ r h in
    ap request_words (sym got.6)
    ∙ ap₂ (λ (a b : Word). codes "copy" ∷ a ∷ b ∷ joined got.2 ∷ []) (sym (decimal-command_of w.0 got.0 got.3)) (sym (joined-path_of w.1 got.1 got.4))
    ∙ ap (λ (a : Word). codes "copy" ∷ w.0 ∷ w.1 ∷ a ∷ []) (sym (joined-path_of w.2 got.2 got.5))
    ∙ ap (λ (l : List Word). codes "copy" ∷ l) (sym (three_is ws w is))

placed_is : (o : Option (List (List ℕ))) (t : Option (List Flat)) (tree : List Flat) → placed o t ≡ Some tree → t ≡ Some tree
placed_is None t tree h = absurd cc
placed_is (Some p) None tree h = absurd cc
placed_is (Some p) (Some ns) tree h = by_test (list_all (is_placed p) ns) h
  where
    by_test : (b : Bool) → (if b then Some ns else None) ≡ Some tree → Some ns ≡ Some tree
    by_test true same = same
    by_test false same = absurd cc

declare_words : (ws : List Word) (o : Option (Word × Word × List Word)) (r : Request) → two_and_more_of ws ≡ o → declare_of o ≡ Some r
    → request_words r ≡ codes "declare" ∷ ws
declare_words ws None r is h = absurd cc
declare_words ws (Some w) r is h =
    let got = parts_of_three request.Declare (command_of w.0) (path_of w.1) (placed (path_of w.1) (tree_spelled w.2)) r h in
    ap request_words (sym got.6)
    ∙ ap₂ (λ (a b : Word). codes "declare" ∷ a ∷ b ∷ flat_map node_words got.2) (sym (decimal-command_of w.0 got.0 got.3)) (sym (joined-path_of w.1 got.1 got.4))
    ∙ ap (λ (l : List Word). codes "declare" ∷ w.0 ∷ w.1 ∷ l) (tree_is w.2 got.2 (placed_is (path_of w.1) (tree_spelled w.2) got.2 got.5))
    ∙ ap (λ (l : List Word). codes "declare" ∷ l) (sym (more_is ws w is))

sum_is : (k d : Word) (sum : Sum) → with_two a_sum (kind_of k) (digest_of d) ≡ Some sum → kind_text sum.kind ∷ digest_text sum.digest ∷ [] ≡ k ∷ d ∷ []
sum_is k d sum h =
    let got = parts_of_two a_sum (kind_of k) (digest_of d) sum h in
    ap (λ (s : Sum). kind_text s.kind ∷ digest_text s.digest ∷ []) (sym got.4)
    ∙ ap₂ (λ (a b : Word). a ∷ b ∷ []) (sym (kind_text-kind_of k got.0 got.2)) (sym (digest_text-digest_of d got.1 got.3))

match_words : (ws : List Word) (o : Option (Word × Word × Word × Word)) (r : Request) → four_of ws ≡ o → match_of o ≡ Some r
    → request_words r ≡ codes "match" ∷ ws
match_words ws None r is h = absurd cc
match_words ws (Some w) r is h =
    let got = parts_of_three request.Matches (command_of w.0) (path_of w.1) (with_two a_sum (kind_of w.2) (digest_of w.3)) r h in
    ap request_words (sym got.6)
    ∙ ap₂ (λ (a b : Word). codes "match" ∷ a ∷ b ∷ kind_text got.2.kind ∷ digest_text got.2.digest ∷ []) (sym (decimal-command_of w.0 got.0 got.3)) (sym (joined-path_of w.1 got.1 got.4))
    ∙ ap (λ (l : List Word). codes "match" ∷ w.0 ∷ w.1 ∷ l) (sum_is w.2 w.3 got.2 got.5)
    ∙ ap (λ (l : List Word). codes "match" ∷ l) (sym (four_is ws w is))

flush_words : (ws : List Word) (t : Bool) (r : Request) → none_of ws ≡ t → (if t then Some request.Flush else None) ≡ Some r
    → request_words r ≡ codes "flush" ∷ ws
flush_words ws true r is h =
    ap request_words (let s : r ≡ request.Flush = cc in s) ∙ ap (λ (l : List Word). codes "flush" ∷ l) (sym (none_is ws is))
flush_words ws false r is h = absurd cc

-- the word of what a request asks for
abbrev asking_word : Asking → List ℕ
asking_word asking.Enter = codes "enter"
asking_word asking.Leave = codes "leave"
asking_word asking.Write = codes "write"
asking_word asking.Declare = codes "declare"
asking_word asking.Copy = codes "copy"
asking_word asking.Match = codes "match"
asking_word asking.Has = codes "has"
asking_word asking.Ensure = codes "ensure"
asking_word asking.Invalidate = codes "invalidate"
asking_word asking.Clean = codes "clean"
asking_word asking.Flush = codes "flush"

request_is : (asked : Asking) (ws : List Word) (r : Request) → request_of asked ws ≡ Some r → request_words r ≡ asking_word asked ∷ ws
request_is asking.Enter ws r h = enter_words ws (two_or_three_of ws) r refl h
request_is asking.Leave ws r h = leave_words ws (one_of ws) r refl h
request_is asking.Write ws r h = write_words ws (three_of ws) r refl h
request_is asking.Declare ws r h = declare_words ws (two_and_more_of ws) r refl h
request_is asking.Copy ws r h = copy_words ws (three_of ws) r refl h
request_is asking.Match ws r h = match_words ws (four_of ws) r refl h
request_is asking.Has ws r h = has_words ws (two_of ws) r refl h
request_is asking.Ensure ws r h = ensure_words ws (two_of ws) r refl h
request_is asking.Invalidate ws r h = invalidate_words ws (two_of ws) r refl h
request_is asking.Clean ws r h = clean_words ws (two_of ws) r refl h
request_is asking.Flush ws r h = flush_words ws (none_of ws) r refl h

-- ---- other items

blob_words : (ws : List Word) (o : Option Word) (it : Item) → one_of ws ≡ o → blob_of o ≡ Some it → item_words it ≡ codes "blob" ∷ ws
blob_words ws None it is h = absurd cc
blob_words ws (Some w) it is h =
    let got = parts_of_one item.Blob _ it h in
    ap item_words (sym got.2) ∙ ap (λ (a : Word). codes "blob" ∷ a ∷ []) (sym (bytes_word-bytes_of w got.0 got.1))
    ∙ ap (λ (l : List Word). codes "blob" ∷ l) (sym (one_is ws w is))

lie_words : (ws : List Word) (o : Option (Word × Word)) (it : Item) → two_of ws ≡ o → lie_of o ≡ Some it → item_words it ≡ codes "lie" ∷ ws
lie_words ws None it is h = absurd cc
lie_words ws (Some w) it is h =
    let got = parts_of_two item.Lie _ _ it h in
    ap item_words (sym got.4) ∙ ap₂ (λ (a b : Word). codes "lie" ∷ a ∷ b ∷ []) (sym (digest_text-digest_of w.0 got.0 got.2)) (sym (bytes_word-bytes_of w.1 got.1 got.3))
    ∙ ap (λ (l : List Word). codes "lie" ∷ l) (sym (two_is ws w is))

at_words : (ws : List Word) (o : Option Word) (it : Item) → one_of ws ≡ o → at_of o ≡ Some it → item_words it ≡ codes "at" ∷ ws
at_words ws None it is h = absurd cc
at_words ws (Some w) it is h =
    let got = parts_of_one item.At _ it h in
    ap item_words (sym got.2) ∙ ap (λ (a : Word). codes "at" ∷ a ∷ []) (sym (decimal-moment_of w got.0 got.1))
    ∙ ap (λ (l : List Word). codes "at" ∷ l) (sym (one_is ws w is))

step_words : (workers : ℕ) (ws : List Word) (o : Option Word) (it : Item) → workers < 2 ^ 32 → one_of ws ≡ o → step_of workers o ≡ Some it → item_words it ≡ codes "step" ∷ ws
step_words workers ws None it few is h = absurd cc
step_words workers ws (Some w) it few is h =
    let got = parts_of_one item.Step _ it h in
    ap item_words (sym got.2) ∙ ap (λ (a : Word). codes "step" ∷ a ∷ []) (sym (decimal-worker_of workers w got.0 few got.1))
    ∙ ap (λ (l : List Word). codes "step" ∷ l) (sym (one_is ws w is))

show_words : (ws : List Word) (o : Option Word) (it : Item) → one_of ws ≡ o → show_of o ≡ Some it → item_words it ≡ codes "show" ∷ ws
show_words ws None it is h = absurd cc
show_words ws (Some w) it is h =
    let got = parts_of_one item.Show _ it h in
    ap item_words (sym got.2) ∙ ap (λ (a : Word). codes "show" ∷ a ∷ []) (sym (joined-path_of w got.0 got.1))
    ∙ ap (λ (l : List Word). codes "show" ∷ l) (sym (one_is ws w is))

fail_words : (ws : List Word) (o : Option (Word × Word)) (it : Item) → two_of ws ≡ o → fail_of o ≡ Some it → item_words it ≡ codes "fail" ∷ ws
fail_words ws None it is h = absurd cc
fail_words ws (Some w) it is h =
    let got = parts_of_two item.Fail _ _ it h in
    ap item_words (sym got.4) ∙ ap₂ (λ (a b : Word). codes "fail" ∷ a ∷ b ∷ []) (sym (device_text-device_of w.0 got.0 got.2)) (sym (decimal-place_of w.1 got.1 got.3))
    ∙ ap (λ (l : List Word). codes "fail" ∷ l) (sym (two_is ws w is))

stop_words : (ws : List Word) (o : Option (Word × Word)) (it : Item) → two_of ws ≡ o → stop_of o ≡ Some it → item_words it ≡ codes "stop" ∷ ws
stop_words ws None it is h = absurd cc
stop_words ws (Some w) it is h =
    let got = parts_of_two item.Stop _ _ it h in
    ap item_words (sym got.4) ∙ ap₂ (λ (a b : Word). codes "stop" ∷ a ∷ b ∷ []) (sym (decimal-count_of w.0 got.0 got.2)) (sym (pick_text-pick_of w.1 got.1 got.3))
    ∙ ap (λ (l : List Word). codes "stop" ∷ l) (sym (two_is ws w is))

alone_words : (verb : Word) (one : Item) (ws : List Word) (t : Bool) (it : Item) → item_words one ≡ verb ∷ [] → none_of ws ≡ t
    → (if t then Some one else None) ≡ Some it → item_words it ≡ verb ∷ ws
alone_words verb one ws true it words is h =
    ap item_words (let s : it ≡ one = cc in s) ∙ words ∙ ap (λ (l : List Word). verb ∷ l) (sym (none_is ws is))
alone_words verb one ws false it words is h = absurd cc

-- the word of what another line does
abbrev doing_word : Doing → List ℕ
doing_word doing.Blob = codes "blob"
doing_word doing.Lie = codes "lie"
doing_word doing.At = codes "at"
doing_word doing.Step = codes "step"
doing_word doing.Drain = codes "drain"
doing_word doing.Show = codes "show"
doing_word doing.Asks = codes "asks"
doing_word doing.Fail = codes "fail"
doing_word doing.Stop = codes "stop"
doing_word doing.Restart = codes "restart"

other_is : (workers : ℕ) (did : Doing) (ws : List Word) (it : Item) → workers < 2 ^ 32 → other_of workers did ws ≡ Some it
    → item_words it ≡ doing_word did ∷ ws
other_is workers doing.Blob ws it few h = blob_words ws (one_of ws) it refl h
other_is workers doing.Lie ws it few h = lie_words ws (two_of ws) it refl h
other_is workers doing.At ws it few h = at_words ws (one_of ws) it refl h
other_is workers doing.Step ws it few h = step_words workers ws (one_of ws) it few refl h
other_is workers doing.Drain ws it few h = alone_words (codes "drain") item.Drain ws (none_of ws) it refl refl h
other_is workers doing.Show ws it few h = show_words ws (one_of ws) it refl h
other_is workers doing.Asks ws it few h = alone_words (codes "asks") item.Asks ws (none_of ws) it refl refl h
other_is workers doing.Fail ws it few h = fail_words ws (two_of ws) it refl h
other_is workers doing.Stop ws it few h = stop_words ws (two_of ws) it refl h
other_is workers doing.Restart ws it few h = alone_words (codes "restart") item.Restart ws (none_of ws) it refl refl h

-- ---- verbs

asking_is : (w : Word) (v : Asking) → asking_of w ≡ Some v → w ≡ asking_word v
asking_is w v h =
    text_by_first asking_word w (codes "enter") asking.Enter v _ refl
    (text_by_first asking_word w (codes "leave") asking.Leave v _ refl
    (text_by_first asking_word w (codes "write") asking.Write v _ refl
    (text_by_first asking_word w (codes "declare") asking.Declare v _ refl
    (text_by_first asking_word w (codes "copy") asking.Copy v _ refl
    (text_by_first asking_word w (codes "match") asking.Match v _ refl
    (text_by_first asking_word w (codes "has") asking.Has v _ refl
    (text_by_first asking_word w (codes "ensure") asking.Ensure v _ refl
    (text_by_first asking_word w (codes "invalidate") asking.Invalidate v _ refl
    (text_by_first asking_word w (codes "clean") asking.Clean v _ refl
    (text_by_first asking_word w (codes "flush") asking.Flush v None refl (λ e. absurd cc))))))))))) h

doing_is : (w : Word) (v : Doing) → doing_of w ≡ Some v → w ≡ doing_word v
doing_is w v h =
    text_by_first doing_word w (codes "blob") doing.Blob v _ refl
    (text_by_first doing_word w (codes "lie") doing.Lie v _ refl
    (text_by_first doing_word w (codes "at") doing.At v _ refl
    (text_by_first doing_word w (codes "step") doing.Step v _ refl
    (text_by_first doing_word w (codes "drain") doing.Drain v _ refl
    (text_by_first doing_word w (codes "show") doing.Show v _ refl
    (text_by_first doing_word w (codes "asks") doing.Asks v _ refl
    (text_by_first doing_word w (codes "fail") doing.Fail v _ refl
    (text_by_first doing_word w (codes "stop") doing.Stop v _ refl
    (text_by_first doing_word w (codes "restart") doing.Restart v None refl (λ e. absurd cc)))))))))) h

-- ---- whole lines

behind_is : (workers : ℕ) (verb : Word) (ws : List Word) (asked : Option Asking) (did : Option Doing) (it : Item) → workers < 2 ^ 32
    → asking_of verb ≡ asked → doing_of verb ≡ did → item_behind workers ws asked did ≡ Some it → item_words it ≡ verb ∷ ws
behind_is workers verb ws (Some asked) did it few asks does h =
    let got = parts_of_one item.Request (request_of asked ws) it h in
    ap item_words (sym got.2) ∙ request_is asked ws got.0 got.1 ∙ ap (λ (v : Word). v ∷ ws) (sym (asking_is verb asked asks))
behind_is workers verb ws None (Some did) it few asks does h = other_is workers did ws it few h ∙ ap (λ (v : Word). v ∷ ws) (sym (doing_is verb did does))
behind_is workers verb ws None None it few asks does h = absurd cc

-- the words of an item are those that say it
item_is : (workers : ℕ) (words : List Word) (it : Item) → workers < 2 ^ 32 → item_of workers words ≡ Some it → item_words it ≡ words
item_is workers [] it few h = absurd cc
item_is workers (verb ∷ ws) it few h = behind_is workers verb ws (asking_of verb) (doing_of verb) it few refl refl h

-- so the text of an item that a line says is the line
pub item_text-item_of : (workers : ℕ) (text : List ℕ) (it : Item) → workers < 2 ^ 32 → item_of workers (words_of text) ≡ Some it → text ≡ item_text it
item_text-item_of workers text it few h = sym (join_with_byte-slice_split 32 text) ∙ ap text_of (sym (item_is workers (words_of text) it few h))
