-- Words that are written have no space, so that a text of them is cut into them again.
use Rattle.std.proofs.Common.{◌≡◌, ℕ, ◌^◌, ◌<◌, Bool, true, false, ◌&&◌, nat_le, List, [], ◌∷◌, length, refl, sym, ◌∙◌, ap, subst, arith}
use Rattle.std.specs.Prelude.{All, decimal}
use Rattle.std.specs.Char.{is_ascii_digit}
use Rattle.std.specs.List.{flat_map, list_all}
use Rattle.std.proofs.lemmas.Bool.{and_parts}
use Rattle.std.proofs.lemmas.Bool.Decides.{nat_tests}
use Rattle.std.proofs.lemmas.Fmt.{digits_decimal}
use Rattle.std.proofs.lemmas.List.Elements.{All-append, All-cons, All-head, All-nil, All-tail, All-weaker}
use Rattle.std.proofs.lemmas.List.Splits.{slice_split_at, slice_split_none}
use Rattle.std.proofs.lemmas.List.Sums.{AllPass-from_list_all}
use Rattle.mat_digest.specs.Digests.{IsDigest, digest_text, hash_text, is_lower_digit}
use Rattle.mat_digest.specs.declared.digest.Digest.{Digest}
use Rattle.mat_digest.proofs.Hashes.{AllPass-encode_lower}
use Rattle.mat_digest.proofs.Sizes.{digits_model}
use Rattle.mat_path.specs.Names.{is_name, is_name_byte, is_rel, is_target, is_text_byte, joined, rel_text}
use Rattle.mat_tree.specs.declared.flat.Flat.{Flat}
use Rattle.mat_tree.specs.declared.flat.What.{What}
use Rattle.mat_tree.specs.declared.flat.What.TheVariants as what
use Rattle.mat_tree.specs.Trees.{IsNode, IsWhat, has_rel}
use Rattle.tree_words.specs.Rests.{is_space, words_of}
use Rattle.tree_words.specs.Words.{file_word, node_words, text_of, what_words}
use Rattle.tree_words.proofs.Texts.{IsSome}

-- a byte that is no space
abbrev pub IsClearByte : ℕ → Type 0
IsClearByte b = is_space b ≡ false

-- a word with no space
abbrev pub IsClear : List ℕ → Type 0
IsClear word = All IsClearByte word

-- ---- numbers and digests

-- a lower-case hexadecimal digit is no space
pub clear_lower : (b : ℕ) → is_lower_digit b ≡ true → IsClearByte b
clear_lower b h = grind (arith, nat_tests)

clear_digit : (b : ℕ) → is_ascii_digit b ≡ true → IsClearByte b
clear_digit b h = grind (arith, nat_tests)

-- a number in decimal has no space
pub clear_decimal : (n : ℕ) → n < 2 ^ 64 → IsClear (decimal n)
clear_decimal n h =
    All-weaker (λ (b : ℕ). is_ascii_digit b ≡ true) IsClearByte clear_digit (decimal n)
    (AllPass-from_list_all is_ascii_digit (decimal n) (digits_decimal digits_model n h))

-- the text of a digest has no space
pub clear_digest : (d : Digest) → IsDigest d → IsClear (digest_text d)
clear_digest d h =
    All-append IsClearByte (hash_text d) (58 ∷ decimal d.size)
    (All-weaker (λ (b : ℕ). is_lower_digit b ≡ true) IsClearByte clear_lower (hash_text d) (AllPass-encode_lower d.hash h.hash_bytes))
    (All-cons IsClearByte 58 (decimal d.size) refl (clear_decimal d.size h.size_fits))

-- ---- targets and names

clear_text : (b : ℕ) → is_text_byte b ≡ true → IsClearByte b
clear_text b h = grind (arith, nat_tests)

clear_target : (t : List ℕ) → is_target t ≡ true → IsClear t
clear_target t h =
    All-weaker (λ (b : ℕ). is_text_byte b ≡ true) IsClearByte clear_text t
    (AllPass-from_list_all is_text_byte t (and_parts (nat_le 1 (length t) && nat_le (length t) 1024) (list_all is_text_byte t) h).1)

clear_name_byte : (b : ℕ) → is_name_byte b ≡ true → IsClearByte b
clear_name_byte b h = clear_text b (and_parts (is_text_byte b) _ h).0

clear_name : (name : List ℕ) → is_name name ≡ true → IsClear name
clear_name name h =
    All-weaker (λ (b : ℕ). is_name_byte b ≡ true) IsClearByte clear_name_byte name
    (AllPass-from_list_all is_name_byte name (and_parts _ (list_all is_name_byte name) (and_parts _ _ h).0).1)

-- the text of some names has no space
pub clear_joined : (names : List (List ℕ)) → list_all is_name names ≡ true → IsClear (joined names)
clear_joined [] h = All-nil IsClearByte
clear_joined (name ∷ []) h = clear_name name (and_parts _ _ h).0
clear_joined (name ∷ next ∷ names) h =
    let all = and_parts (is_name name) (list_all is_name (next ∷ names)) h in
    All-append IsClearByte name (47 ∷ joined (next ∷ names)) (clear_name name all.0)
    (All-cons IsClearByte 47 (joined (next ∷ names)) refl (clear_joined (next ∷ names) all.1))

clear_rel : (rel : List (List ℕ)) → is_rel rel ≡ true → IsClear (rel_text rel)
clear_rel [] h = All-cons IsClearByte 46 [] refl (All-nil IsClearByte)
clear_rel (name ∷ names) h = clear_joined (name ∷ names) (and_parts _ (list_all is_name (name ∷ names)) h).1

-- ---- the words of nodes

one_byte : (b : ℕ) → IsClearByte b → IsClear (b ∷ [])
one_byte b h = All-cons IsClearByte b [] h (All-nil IsClearByte)

clear_file : (exec : Bool) → IsClear (file_word exec)
clear_file false = one_byte 102 refl
clear_file true = one_byte 120 refl

clear_what : (w : What) → IsWhat w → All IsClear (what_words w)
clear_what (what.File digest exec) h =
    All-cons IsClear (file_word exec) (digest_text digest ∷ []) (clear_file exec)
    (All-cons IsClear (digest_text digest) [] (clear_digest digest h) (All-nil IsClear))
clear_what what.Dir h = All-cons IsClear (100 ∷ []) [] (one_byte 100 refl) (All-nil IsClear)
clear_what (what.Link target) h =
    All-cons IsClear (108 ∷ []) (target ∷ []) (one_byte 108 refl)
    (All-cons IsClear target [] (clear_target target h) (All-nil IsClear))

-- no word of a node has a space
pub clear_nodes : (nodes : List Flat) → All IsNode nodes → list_all has_rel nodes ≡ true → All IsClear (flat_map node_words nodes)
clear_nodes [] each rels = All-nil IsClear
clear_nodes (node ∷ nodes) each rels =
    let parts = and_parts (has_rel node) (list_all has_rel nodes) rels in
    All-append IsClear (node_words node) (flat_map node_words nodes)
    (All-append IsClear (what_words node.what) (rel_text node.rel ∷ []) (clear_what node.what (All-head IsNode node nodes each))
    (All-cons IsClear (rel_text node.rel) [] (clear_rel node.rel parts.0) (All-nil IsClear)))
    (clear_nodes nodes (All-tail IsNode node nodes each) parts.1)

-- ---- cutting

words_back : (word : List ℕ) (words : List (List ℕ)) → All IsClear (word ∷ words) → words_of (text_of (word ∷ words)) ≡ word ∷ words
words_back word [] h = slice_split_none is_space word (All-head IsClear word [] h)
words_back word (next ∷ words) h =
    slice_split_at is_space word 32 (text_of (next ∷ words)) (All-head IsClear word (next ∷ words) h) refl
    ∙ ap (λ (ws : List (List ℕ)). word ∷ ws) (words_back next words (All-tail IsClear word (next ∷ words) h))

-- the text of words with no space, of which there is one, is cut into these words
pub words_of-text_of : (words : List (List ℕ)) → IsSome words → All IsClear words → words_of (text_of words) ≡ words
words_of-text_of words some clear =
    subst (λ (ws : List (List ℕ)). words_of (text_of ws) ≡ ws) (sym some.is)
    (words_back some.head some.tail (subst (λ (ws : List (List ℕ)). All IsClear ws) some.is clear))
