-- Where each node comes after the one before it and stands in a directory of those before it, there is no fault.
use Rattle.mat_path.proofs.SameNames.{same_name-eq, same_names-refl}
use Rattle.mat_path.proofs.PathLemmas.{prefix-refl, prefix-trans}
use Rattle.mat_path.proofs.Bools.{or_first, or_weaker}
use Rattle.std.proofs.lemmas.Bool.{and_from, or_left, or_right}
use Rattle.std.specs.Cmp.{first_so, second_so}
use Rattle.std.proofs.Common.{◌≡◌, ◌<◌, ◌≤◌, ◌+◌, ℕ, suc, Bool, true, false, ◌&&◌, ◌||◌, not, nat_lt, if◌then◌else◌, List, [], ◌∷◌, ◌++◌, length, drop, get_or, refl, ◌∙◌, sym, ap, arith, append_assoc}
use Rattle.std.proofs.lemmas.Bool.Decides.{nat_tests}
use Rattle.std.proofs.lemmas.List.{drop_more}
use Rattle.std.proofs.lemmas.List.Folds.{list_any-append}
use Rattle.std.specs.List.{list_any}
use Rattle.std.specs.declared.option.Option.TheVariants.{Some, None}
use Rattle.mat_path.specs.Names.{same_name, same_names, is_prefix}
use Rattle.mat_tree.specs.declared.flat.Flat.{Flat}
use Rattle.mat_tree.specs.declared.refusal.TreeRefusal.TheVariants as refusal
use Rattle.mat_tree.specs.Trees.{is_root, is_at, is_after, is_dir, is_dir_at, parent_of, has_parent, fault_behind, follows, is_in_turn}
use Rattle.mat_tree.proofs.Joins.{lt_suc}

-- ---- prefixes

prefix_length : (p q : List (List ℕ)) → is_prefix p q ≡ true → length p ≤ length q
prefix_length [] q e = omega arith
prefix_length (a ∷ p) [] e = cc
prefix_length (a ∷ p) (b ∷ q) e = omega (arith, prefix_length p q (second_so (same_name a b) (is_prefix p q) e))

-- a prefix that isn't shorter is the whole
prefix_whole : (p q : List (List ℕ)) → is_prefix p q ≡ true → nat_lt (length p) (length q) ≡ false → p ≡ q
prefix_whole [] [] e f = refl
prefix_whole [] (b ∷ q) e f = let g : nat_lt 0 (suc (length q)) ≡ true = grind (arith, nat_tests) in cc
prefix_whole (a ∷ p) [] e f = cc
prefix_whole (a ∷ p) (b ∷ q) e f =
    ap (λ n. n ∷ p) (same_name-eq a b (first_so (same_name a b) (is_prefix p q) e))
    ∙ ap (λ r. b ∷ r) (prefix_whole p q (second_so (same_name a b) (is_prefix p q) e) (sym (lt_suc (length p) (length q)) ∙ f))

-- a shorter prefix is one of the parent
prefix_parent : (p x : List (List ℕ)) → is_prefix p x ≡ true → nat_lt (length p) (length x) ≡ true → is_prefix p (parent_of x) ≡ true
prefix_parent [] x e f = refl
prefix_parent (a ∷ p) [] e f = cc
prefix_parent (a ∷ p) (b ∷ []) e f = let g : nat_lt (suc (length p)) 1 ≡ false = grind (arith, nat_tests) in cc
prefix_parent (a ∷ p) (b ∷ c ∷ x) e f =
    and_from (same_name a b) (is_prefix p (parent_of (c ∷ x))) (first_so (same_name a b) (is_prefix p (c ∷ x)) e)
    (prefix_parent p (c ∷ x) (second_so (same_name a b) (is_prefix p (c ∷ x)) e) (sym (lt_suc (length p) (length (c ∷ x))) ∙ f))

-- ---- the folders of a node

-- each folder of a rel is a directory of a list
abbrev HasFolders : List Flat → List (List ℕ) → Type 0
HasFolders nodes rel = (p : List (List ℕ)) → is_prefix p rel ≡ true → nat_lt (length p) (length rel) ≡ true → list_any (is_dir_at p) nodes ≡ true

-- a directory or a folder of the node before
at_prefix : (nodes done : List Flat) (before : Flat) (rest : List Flat) → nodes ≡ done ++ (before ∷ rest) → HasFolders nodes before.rel
    → (p : List (List ℕ)) → is_prefix p before.rel ≡ true → (is_dir before.what || nat_lt (length p) (length before.rel)) ≡ true → list_any (is_dir_at p) nodes ≡ true
at_prefix nodes done before rest is folders p e f = by (nat_lt (length p) (length before.rel)) refl
  where
    by : (b : Bool) → nat_lt (length p) (length before.rel) ≡ b → list_any (is_dir_at p) nodes ≡ true
    by true g = folders p e g
    by false g =
        let same : p ≡ before.rel = prefix_whole p before.rel e g in
        ap (list_any (is_dir_at p)) is ∙ list_any-append (is_dir_at p) done (before ∷ rest)
        ∙ or_right (list_any (is_dir_at p) done) (is_dir_at p before || list_any (is_dir_at p) rest)
        (or_left (is_dir_at p before) (list_any (is_dir_at p) rest)
        (and_from (is_at p before) (is_dir before.what) (ap (same_names before.rel) same ∙ same_names-refl before.rel)
        (or_first (is_dir before.what) (nat_lt (length p) (length before.rel)) g f)))

lt_le : (m n k : ℕ) → m ≤ n → nat_lt n k ≡ true → nat_lt m k ≡ true
lt_le m n k h e = grind (arith, nat_tests)

-- a directory or a folder of where a node stands
at_folder : (nodes done : List Flat) (before : Flat) (rest : List Flat) (rel : List (List ℕ)) → nodes ≡ done ++ (before ∷ rest) → HasFolders nodes before.rel
    → follows rel before ≡ true → (p : List (List ℕ)) → is_prefix p (parent_of rel) ≡ true → list_any (is_dir_at p) nodes ≡ true
at_folder nodes done before rest rel is folders f p e =
    let inside = first_so (is_prefix (parent_of rel) before.rel) (is_dir before.what || nat_lt (length (parent_of rel)) (length before.rel)) f in
    let open_or = second_so (is_prefix (parent_of rel) before.rel) (is_dir before.what || nat_lt (length (parent_of rel)) (length before.rel)) f in
    at_prefix nodes done before rest is folders p (prefix-trans p (parent_of rel) before.rel e inside)
    (or_weaker (is_dir before.what) (nat_lt (length (parent_of rel)) (length before.rel)) (nat_lt (length p) (length before.rel))
    (lt_le (length p) (length (parent_of rel)) (length before.rel) (prefix_length p (parent_of rel) e)) open_or)

in_turn_behind : (nodes done : List Flat) (before : Flat) (k : ℕ) (rest : List Flat) → nodes ≡ done ++ (before ∷ rest) → HasFolders nodes before.rel
    → is_in_turn before rest ≡ true → fault_behind nodes before k rest ≡ None
in_turn_behind nodes done before k [] is folders e = refl
in_turn_behind nodes done before k (node ∷ rest) is folders e =
    let two = first_so (is_after before.rel node && follows node.rel before) (is_in_turn node rest) e in
    let after = first_so (is_after before.rel node) (follows node.rel before) two in
    let follow = second_so (is_after before.rel node) (follows node.rel before) two in
    let more = second_so (is_after before.rel node && follows node.rel before) (is_in_turn node rest) e in
    let parent : has_parent nodes node ≡ true
    = or_right (is_root node) (list_any (is_dir_at (parent_of node.rel)) nodes)
    (at_folder nodes done before (node ∷ rest) node.rel is folders follow (parent_of node.rel) (prefix-refl (parent_of node.rel))) in
    ap (λ b. if not b then Some (refusal.Order k) else if not (has_parent nodes node) then Some (refusal.Under k) else fault_behind nodes node (k + 1) rest) after
    ∙ ap (λ b. if not b then Some (refusal.Under k) else fault_behind nodes node (k + 1) rest) parent
    ∙ in_turn_behind nodes (done ++ (before ∷ [])) node (k + 1) rest (is ∙ sym (append_assoc done (before ∷ []) (node ∷ rest)))
    (λ p f g. at_folder nodes done before (node ∷ rest) node.rel is folders follow p (prefix_parent p node.rel f g)) more

-- nothing is at fault in a list whose nodes are in turn
pub in_turn_no_fault : (nodes : List Flat) (root : Flat) (rest : List Flat) → nodes ≡ root ∷ rest → root.rel ≡ [] → is_in_turn root rest ≡ true
    → fault_behind nodes root 1 rest ≡ None
in_turn_no_fault nodes root rest e f g =
    in_turn_behind nodes [] root 1 rest e (λ p h i. let j : nat_lt (length p) (length root.rel) ≡ false = ap (λ r. nat_lt (length p) (length r)) f ∙ lt_nothing (length p) in cc) g
  where
    lt_nothing : (n : ℕ) → nat_lt n 0 ≡ false
    lt_nothing n = grind (arith, nat_tests)

-- ---- a step of the loop

-- from a place on nodes are in turn exactly where the one there is after and follows the one before, and those behind are
pub in_turn_more : (root before node : Flat) (rest : List Flat) (k : ℕ) → k < length rest → node ≡ get_or rest k node
    → is_in_turn root rest ≡ is_in_turn before (drop k rest)
    → is_in_turn root rest ≡ (is_after before.rel node && follows node.rel before && is_in_turn node (drop (k + 1) rest))
in_turn_more root before node rest k h is so =
    so ∙ ap (is_in_turn before) (drop_more rest k node h) ∙ ap (λ x. is_in_turn before (x ∷ drop (k + 1) rest)) (sym is)
