-- The message of a tree is spelled by the bytes whose digest is the digest of the tree's sum.
use Rattle.std.specs.Cmp.{first_so}
use Rattle.std.proofs.Common.{◌≡◌, ◌≤◌, ◌+◌, ℕ, true, false, not, cond, List, [], ◌∷◌, length, map, Some, option_map, refl, ◌∙◌, sym, ap, subst, arith}
use Rattle.std.specs.List.{All, filter, filter_map, find}
use Rattle.std.proofs.lemmas.List.{length-map}
use Rattle.mat_digest.specs.Digests.{digest_of}
use Rattle.mat_path.specs.Names.{same_names}
use Rattle.mat_tree.specs.declared.flat.Flat.{Flat}
use Rattle.mat_tree.specs.declared.flat.What.{What}
use Rattle.mat_tree.specs.declared.flat.What.TheVariants as what
use Rattle.mat_tree.specs.Sums.{children_of, dir_digest, is_single, message_by, sum_of, sum_under}
use Rattle.mat_tree.specs.Trees.{IsNode, IsTree, is_at, is_link, is_root, is_rooted, what_at, what_of}
use Rattle.reapi_dir.specs.Grammar.{InOrder, IsMessage, Spells, ascend, dir_name, file_name, link_name, most_children}
use Rattle.reapi_dir.specs.SumMessage.{child_dir, child_file, child_link, child_name, children_message_of}
use Rattle.reapi_dir.proofs.FlatLevels.{digest_is_of_message}
use Rattle.reapi_dir.proofs.MessageBack.{text_spells}
use Rattle.reapi_dir.proofs.SumOrder.{apart_among, apart_both, ascend_among, children_ascend, dir_names, dir_no_link, file_names, file_no_dir, file_no_link, is_dir_node, is_file_node, is_link_node, kinds_few, link_names}
use Rattle.reapi_dir.proofs.SumRules.{children_few, children_sound, dirs_meet, files_meet, links_meet, nodes_sound}
use Rattle.reapi_dir.proofs.SumText.{children_text_is_message}

-- ---- the root

-- a rel with nothing in it is no child's
none_single : (rel : List (List ℕ)) → same_names [] rel ≡ true → is_single rel ≡ false
none_single [] e = refl
none_single (name ∷ names) e = cc

same_none : (rel : List (List ℕ)) → same_names [] rel ≡ true → same_names rel [] ≡ true
same_none [] e = refl
same_none (name ∷ names) e = cc

-- the root is none of the children
pub fewer_children : (nodes : List Flat) → is_rooted nodes ≡ true → length (children_of nodes) + 1 ≤ length nodes
fewer_children [] e = cc
fewer_children (root ∷ rest) e =
    let other = none_single root.rel (first_so (is_root root) (not (is_link root.what)) e) in
    let few = children_few rest in
    omega (arith, ap (λ b. length (cond b (root ∷ children_of rest) (children_of rest))) other)

some_same : (v w : What) → Some v ≡ Some w → v ≡ w
some_same v w e = cc

-- the digest of a directory tree's sum is that of its message
pub sum_digest : (nodes : List Flat) → is_rooted nodes ≡ true → what_at nodes [] ≡ Some what.Dir → (sum_of nodes).digest ≡ digest_of (message_by dir_digest nodes)
sum_digest [] rooted e = cc
sum_digest (root ∷ rest) rooted e =
    let first = same_none root.rel (first_so (is_root root) (not (is_link root.what)) rooted) in
    let found = ap (λ b. option_map what_of (cond b (Some root) (find (is_at []) rest))) first in
    let dir : root.what ≡ what.Dir = some_same root.what what.Dir (sym found ∙ e) in
    ap (λ (w : What). (sum_under w (root ∷ rest)).digest) dir ∙ digest_is_of_message (root ∷ rest)

-- ---- the message

children_in_order : (cs : List Flat) (files dirs links : List (List ℕ)) → ascend (map child_name cs) ≡ true → length cs ≤ most_children
    → files ≡ map child_name (filter is_file_node cs) → dirs ≡ map child_name (filter is_dir_node cs) → links ≡ map child_name (filter is_link_node cs)
    → InOrder files dirs links
children_in_order cs files dirs links up few is_files is_dirs is_links =
    let a = map child_name (filter is_file_node cs) in
    let b = map child_name (filter is_dir_node cs) in
    let c = map child_name (filter is_link_node cs) in
    let order : InOrder a b c = record {
      files_ascend = ascend_among is_file_node cs up;
      dirs_ascend = ascend_among is_dir_node cs up;
      links_ascend = ascend_among is_link_node cs up;
      dirs_apart = apart_among is_file_node is_dir_node file_no_dir cs up;
      links_apart = apart_both a b c (apart_among is_file_node is_link_node file_no_link cs up) (apart_among is_dir_node is_link_node dir_no_link cs up);
      few = omega (
        arith,
        kinds_few cs,
        length-map (filter is_file_node cs) child_name,
        length-map (filter is_dir_node cs) child_name,
        length-map (filter is_link_node cs) child_name,
      );
    } in
    rw (is_files, is_dirs, is_links) order

-- the message of a tree's children meets the side rules
pub is_message : (nodes : List Flat) → IsTree nodes → All IsNode nodes → IsMessage (children_message_of nodes)
is_message nodes tree known =
    let cs = children_of nodes in
    let all = nodes_sound nodes tree.rels tree.small known in
    let children = children_sound nodes all in
    let fewer = fewer_children nodes tree.root in
    let most = tree.few in
    record {
      files = files_meet cs children;
      dirs = dirs_meet nodes cs all most children;
      links = links_meet cs children;
      order = children_in_order cs (map file_name (filter_map child_file cs)) (map dir_name (filter_map (child_dir nodes) cs))
          (map link_name (filter_map child_link cs)) (children_ascend nodes tree.order) (omega arith) (file_names cs) (dir_names nodes cs) (link_names cs);
    }

-- the bytes of a tree's message spell the message of its children
pub sum_spells : (nodes : List Flat) → IsTree nodes → All IsNode nodes → Spells (message_by dir_digest nodes) (children_message_of nodes)
sum_spells nodes tree known =
    subst (λ (bytes : List ℕ). Spells bytes (children_message_of nodes)) (children_text_is_message nodes) (text_spells (children_message_of nodes) (is_message nodes tree known))
