-- The message that a tree's children are meets the rules of one.
use Rattle.std.specs.Cmp.{first_so, second_so}
use Rattle.std.proofs.Common.{◌≡◌, ◌≤◌, ◌+◌, ◌*◌, ℕ, zero, suc, Bool, true, ◌&&◌, nat_le, List, [], ◌∷◌, ◌++◌, length, map, drop, Option, Some, None, IfSome, refl, ◌∙◌, sym, ap, subst, arith, length-append}
use Rattle.std.specs.List.{All, AllByRecursion, cons_option, filter, filter_map, flat_map, list_all}
use Rattle.std.proofs.lemmas.Bool.{leb-true}
use Rattle.std.proofs.lemmas.List.{length-map}
use Rattle.std.proofs.lemmas.List.Elements.{All-head, All-tail}
use Rattle.std.proofs.lemmas.List.Sums.{count_by-le-length, length-filter}
use Rattle.hex.specs.Hex.{lower_digits}
use Rattle.hex.proofs.HexLemmas.{length-encode_with}
use Rattle.mat_digest.specs.Digests.{IsDigest, hash_text}
use Rattle.mat_digest.specs.declared.digest.Digest.{Digest}
use Rattle.mat_path.specs.Names.{is_name, is_rel, joined}
use Rattle.mat_tree.specs.declared.flat.Flat.{Flat}
use Rattle.mat_tree.specs.declared.flat.What.{What}
use Rattle.mat_tree.specs.declared.flat.What.TheVariants as what
use Rattle.mat_tree.specs.Messages.{bytes_field, digest_message, dir_message, file_message, flag, link_message, number_field, varint}
use Rattle.mat_tree.specs.Sums.{children_of, dir_digest, dir_named, dir_part, file_named, file_part, is_child, link_named, link_part, message_by}
use Rattle.mat_tree.specs.Trees.{IsNode, IsWhat, has_rel, is_below, is_small, seen_from, sub_tree, what_size}
use Rattle.mat_tree.proofs.Varints.{varint_short}
use Rattle.reapi_dir.specs.Grammar.{IsDir, IsFile, IsLink, greatest_dir}
use Rattle.reapi_dir.specs.SumMessage.{child_dir, child_file, child_link, child_name, dir_node_of, file_node_of, first_name, link_node_of}
use Rattle.reapi_dir.proofs.FlatLevels.{all_follow, all_passing, digest_is_of_message, single_is}
use Rattle.reapi_dir.proofs.HashBytes.{digest_hash, digest_size, is_digest}
use Rattle.reapi_dir.proofs.NodeBack.{name_len, target_len}
use Rattle.reapi_dir.proofs.SumText.{name_joined}

-- ---- what is known of each node

-- a node that a tree may have: names in its rel, a file within its limit, and the rules of what it is
pub record IsSound (node : Flat) : Type 0 where
  pub named : list_all is_name node.rel ≡ true
  pub small : is_small node ≡ true
  pub is_node : IsNode node

-- the same of a child
pub record IsSoundChild (node : Flat) : Type 0 where
  pub single : is_child node ≡ true
  pub sound : IsSound node

-- the names of a rel are names
rel_named : (rel : List (List ℕ)) → is_rel rel ≡ true → list_all is_name rel ≡ true
rel_named rel h = second_so (nat_le (length rel) 64 && nat_le (length (joined rel)) 1024) (list_all is_name rel) h

-- each node of a tree is sound
pub nodes_sound : (nodes : List Flat) → list_all has_rel nodes ≡ true → list_all is_small nodes ≡ true → All IsNode nodes → AllByRecursion IsSound nodes
nodes_sound [] rels small known = tt
nodes_sound (x ∷ xs) rels small known = (
  record {
    named = rel_named x.rel (first_so (has_rel x) (list_all has_rel xs) rels);
    small = first_so (is_small x) (list_all is_small xs) small;
    is_node = All-head IsNode x xs known;
  },
  nodes_sound xs (second_so (has_rel x) (list_all has_rel xs) rels) (second_so (is_small x) (list_all is_small xs) small) (All-tail IsNode x xs known),
)

-- each child among sound nodes is sound
pub children_sound : (nodes : List Flat) → AllByRecursion IsSound nodes → AllByRecursion IsSoundChild (children_of nodes)
children_sound nodes all = all_passing IsSound IsSoundChild is_child (λ c single known. record { single = single; sound = known }) nodes all

all_drop : (k : ℕ) (names : List (List ℕ)) → list_all is_name names ≡ true → list_all is_name (drop k names) ≡ true
all_drop zero names h = h
all_drop (suc k) [] h = refl
all_drop (suc k) (name ∷ names) h = all_drop k names (second_so (is_name name) (list_all is_name names) h)

seen_sound : (rel : List (List ℕ)) (node : Flat) → IsSound node → IsSound (seen_from rel node)
seen_sound rel node h = record { named = all_drop (length rel) node.rel h.named; small = h.small; is_node = h.is_node }

-- each node of the part of a tree below a rel is sound, where those of the tree are
pub sub_sound : (rel : List (List ℕ)) (nodes : List Flat) → AllByRecursion IsSound nodes → AllByRecursion IsSound (sub_tree nodes rel)
sub_sound rel nodes all = seen_all (filter (is_below rel) nodes) (all_passing IsSound IsSound (is_below rel) (λ x below known. known) nodes all)
  where
    seen_all : (xs : List Flat) → AllByRecursion IsSound xs → AllByRecursion IsSound (map (seen_from rel) xs)
    seen_all [] h = tt
    seen_all (x ∷ xs) (first, rest) = (seen_sound rel x first, seen_all xs rest)

filter_few : {X : Type 0} (p : X → Bool) (xs : List X) → length (filter p xs) ≤ length xs
filter_few p xs = omega (arith, length-filter p xs, count_by-le-length p xs)

-- there are no more children than nodes
pub children_few : (nodes : List Flat) → length (children_of nodes) ≤ length nodes
children_few nodes = filter_few is_child nodes

-- the part of a tree below a rel has no more nodes than the tree
pub sub_few : (rel : List (List ℕ)) (nodes : List Flat) → length (sub_tree nodes rel) ≤ length nodes
sub_few rel nodes = omega (arith, length-map (filter (is_below rel) nodes) (seen_from rel), filter_few (is_below rel) nodes)

-- a child's name is one
pub child_named : (c : Flat) → IsSoundChild c → is_name (child_name c) ≡ true
child_named c h =
    first_so (is_name (first_name c.rel)) true (ap (list_all is_name) (sym (single_is c.rel h.single)) ∙ h.sound.named)

-- ---- how many bytes a message has

field_short : (number : ℕ) (bytes : List ℕ) → length (bytes_field number bytes) ≤ 20 + length bytes
field_short number bytes =
    omega (
      arith,
      length-append (varint (number * 8 + 2) ++ varint (length bytes)) bytes,
      length-append (varint (number * 8 + 2)) (varint (length bytes)),
      varint_short (number * 8 + 2),
      varint_short (length bytes),
    )

number_short : (number n : ℕ) → length (number_field number n) ≤ 20
number_short number zero = omega arith
number_short number (suc n) =
    omega (arith, length-append (varint (number * 8)) (varint (suc n)), varint_short (number * 8), varint_short (suc n))

digest_short : (d : Digest) → length d.hash ≡ 32 → length (digest_message d) ≤ 104
digest_short d h =
    omega (
      arith,
      length-append (bytes_field 1 (hash_text d)) (number_field 2 d.size),
      field_short 1 (hash_text d),
      number_short 2 d.size,
      hash_length d h,
    )
  where
    hash_length : (d : Digest) → length d.hash ≡ 32 → length (hash_text d) ≡ 64
    hash_length d h = omega (arith, length-encode_with lower_digits d.hash)

file_short : (name : List ℕ) (w : What) → length name ≤ 255 → IsWhat w → length (file_named name w) ≤ 2000
file_short name (what.File digest exec) h is =
    omega (
      arith,
      field_short 1 (file_message name digest exec),
      length-append (bytes_field 1 name ++ bytes_field 2 (digest_message digest)) (number_field 4 (flag exec)),
      length-append (bytes_field 1 name) (bytes_field 2 (digest_message digest)),
      field_short 1 name,
      field_short 2 (digest_message digest),
      number_short 4 (flag exec),
      digest_short digest is.hash_len,
    )
file_short name what.Dir h is = omega arith
file_short name (what.Link target) h is = omega arith

dir_short : (name : List ℕ) (digest : Digest) (w : What) → length name ≤ 255 → length digest.hash ≡ 32 → length (dir_named name digest w) ≤ 2000
dir_short name digest (what.File other exec) h is = omega arith
dir_short name digest what.Dir h is =
    omega (
      arith,
      field_short 2 (dir_message name digest),
      length-append (bytes_field 1 name) (bytes_field 2 (digest_message digest)),
      field_short 1 name,
      field_short 2 (digest_message digest),
      digest_short digest is,
    )
dir_short name digest (what.Link target) h is = omega arith

link_short : (name : List ℕ) (w : What) → length name ≤ 255 → IsWhat w → length (link_named name w) ≤ 2000
link_short name (what.File digest exec) h is = omega arith
link_short name what.Dir h is = omega arith
link_short name (what.Link target) h is =
    omega (
      arith,
      field_short 3 (link_message name target),
      length-append (bytes_field 1 name) (bytes_field 2 target),
      field_short 1 name,
      field_short 2 target,
      target_len target is,
    )

parts_short : {X : Type 0} (part : X → List ℕ) (xs : List X) → AllByRecursion (λ (x : X). length (part x) ≤ 2000) xs → length (flat_map part xs) ≤ length xs * 2000
parts_short part [] all = omega arith
parts_short part (x ∷ xs) (first, rest) = omega (arith, length-append (part x) (flat_map part xs), parts_short part xs rest)

-- the text of a child's rel is short
joined_short : (c : Flat) → IsSoundChild c → length (joined c.rel) ≤ 255
joined_short c h = omega (arith, ap length (name_joined c.rel h.single), name_len (child_name c) (child_named c h))

dir_hash : (nodes : List Flat) → length (dir_digest nodes).hash ≡ 32
dir_hash nodes = ap (λ (d : Digest). length d.hash) (digest_is_of_message nodes) ∙ digest_hash (message_by dir_digest nodes)

-- the message of a tree of at most 10,000 nodes has at most 60,000,000 bytes
pub message_short : (nodes : List Flat) → AllByRecursion IsSound nodes → length nodes ≤ 10000 → length (message_by dir_digest nodes) ≤ 60000000
message_short nodes all few =
    let cs = children_of nodes in
    let known = children_sound nodes all in
    let files = parts_short file_part cs (all_follow IsSoundChild (λ (c : Flat). length (file_part c) ≤ 2000)
    (λ c h. file_short (joined c.rel) c.what (joined_short c h) h.sound.is_node) cs known) in
    let dirs = parts_short (dir_part dir_digest nodes) cs (all_follow IsSoundChild (λ (c : Flat). length (dir_part dir_digest nodes c) ≤ 2000)
    (λ c h. dir_short (joined c.rel) (dir_digest (sub_tree nodes c.rel)) c.what (joined_short c h) (dir_hash (sub_tree nodes c.rel))) cs known) in
    let links = parts_short link_part cs (all_follow IsSoundChild (λ (c : Flat). length (link_part c) ≤ 2000)
    (λ c h. link_short (joined c.rel) c.what (joined_short c h) h.sound.is_node) cs known) in
    omega (
      arith,
      length-append (flat_map file_part cs ++ flat_map (dir_part dir_digest nodes) cs) (flat_map link_part cs),
      length-append (flat_map file_part cs) (flat_map (dir_part dir_digest nodes) cs),
      files,
      dirs,
      links,
      children_few nodes,
    )

-- the digest of a directory's message is one, of a size that a directory may have
pub dir_digest_sound : (nodes : List Flat) → AllByRecursion IsSound nodes → length nodes ≤ 10000
    → IsDigest (dir_digest nodes) × ((dir_digest nodes).size ≤ greatest_dir)
dir_digest_sound nodes all few =
    let bytes = message_by dir_digest nodes in
    let short = message_short nodes all few in
    subst (λ (d : Digest). IsDigest d × (d.size ≤ greatest_dir)) (sym (digest_is_of_message nodes))
    (is_digest bytes (omega arith), omega (arith, digest_size bytes))

-- ---- the rules of each node of the message

made : {Y : Type 0} (Rules : Y → Type 0) (give : Flat → Option Y) → ((c : Flat) → IsSoundChild c → IfSome (give c) Rules) → (cs : List Flat)
    → AllByRecursion IsSoundChild cs → AllByRecursion Rules (filter_map give cs)
made Rules give each [] all = tt
made {Y} Rules give each (c ∷ cs) (first, rest) = more (give c) (each c first) (filter_map give cs) (made Rules give each cs rest)
  where
    more : (o : Option Y) → IfSome o Rules → (ys : List Y) → AllByRecursion Rules ys → AllByRecursion Rules (cons_option o ys)
    more None one ys all = all
    more (Some y) one ys all = (one, all)

file_made : (name : List ℕ) (w : What) → is_name name ≡ true → nat_le (what_size w) 67108864 ≡ true → IsWhat w → IfSome (file_node_of name w) IsFile
file_made name (what.File digest exec) named small is = record { named = named; digest = is; size = leb-true digest.size 67108864 small }
file_made name what.Dir named small is = tt
file_made name (what.Link target) named small is = tt

dir_made : (name : List ℕ) (digest : Digest) (w : What) → is_name name ≡ true → IsDigest digest → digest.size ≤ greatest_dir
    → IfSome (dir_node_of name digest w) IsDir
dir_made name digest (what.File other exec) named is size = tt
dir_made name digest what.Dir named is size = record { named = named; digest = is; size = size }
dir_made name digest (what.Link target) named is size = tt

link_made : (name : List ℕ) (w : What) → is_name name ≡ true → IsWhat w → IfSome (link_node_of name w) IsLink
link_made name (what.File digest exec) named is = tt
link_made name what.Dir named is = tt
link_made name (what.Link target) named is = record { named = named; target = is }

-- the files that sound children give meet the rules of a file
pub files_meet : (cs : List Flat) → AllByRecursion IsSoundChild cs → AllByRecursion IsFile (filter_map child_file cs)
files_meet cs known = made IsFile child_file (λ c h. file_made (child_name c) c.what (child_named c h) h.sound.small h.sound.is_node) cs known

-- the directories that sound children give meet the rules of a directory
pub dirs_meet : (nodes cs : List Flat) → AllByRecursion IsSound nodes → length nodes ≤ 10000 → AllByRecursion IsSoundChild cs
    → AllByRecursion IsDir (filter_map (child_dir nodes) cs)
dirs_meet nodes cs all few known =
    made IsDir (child_dir nodes)
    (λ c h.
    let sub = sub_tree nodes c.rel in
    let is = dir_digest_sound sub (sub_sound c.rel nodes all) (omega (arith, sub_few c.rel nodes)) in
    dir_made (child_name c) (dir_digest sub) c.what (child_named c h) is.0 is.1) cs known

-- the links that sound children give meet the rules of a link
pub links_meet : (cs : List Flat) → AllByRecursion IsSoundChild cs → AllByRecursion IsLink (filter_map child_link cs)
links_meet cs known = made IsLink child_link (λ c h. link_made (child_name c) c.what (child_named c h) h.sound.is_node) cs known
