-- One more node at the end of a list.
use Rattle.mat_path.proofs.SameNames.{same_name-eq}
use Rattle.std.proofs.Math.Bool.{and_assoc}
use Rattle.std.specs.Cmp.{first_so, second_so}
use Rattle.std.proofs.Common.{◌≡◌, ◌<◌, ◌≤◌, ℕ, suc, zero, Bool, true, false, ◌&&◌, ◌||◌, not, nat_lt, List, [], ◌∷◌, ◌++◌, map, length, take, drop, get_or, refl, ◌∙◌, sym, ap, ◌-◌, arith, append_assoc}
use Rattle.std.proofs.lemmas.Bool.Decides.{nat_tests}
use Rattle.std.proofs.lemmas.List.{map-append, take_all}
use Rattle.mat_path.specs.Names.{same_name, is_prefix}
use Rattle.mat_tree.specs.declared.flat.Flat.{Flat}
use Rattle.mat_tree.specs.declared.flat.What.{What}
use Rattle.mat_tree.specs.declared.flat.What.TheVariants as what
use Rattle.mat_tree.specs.declared.node.Node.{Node}
use Rattle.mat_tree.specs.declared.node.Node.TheVariants as variant
use Rattle.mat_tree.specs.declared.node.Child.{Child, out-Child}
use Rattle.mat_tree.specs.declared.node.Children.{Children, out-Children}
use Rattle.mat_tree.specs.Nodes.{at_root, put_in, below_node, below_child, below_all, what_node}
use Rattle.mat_tree.specs.Trees.{is_dir, is_root, parent_of, follows, follows_all, is_linked}
use Rattle.mat_tree.proofs.Folds.{below_all_push, below_child_out, below_dir_out}
use Rattle.mat_tree.proofs.Joins.{lt_suc}
use Rattle.mat_tree.proofs.Subtrees.{node_begins}

-- ---- where a node follows

no_room : (b : Bool) (n : ℕ) → (b && (false || nat_lt n 0)) ≡ false
no_room false n = refl
no_room true n = grind (arith, nat_tests)

-- nothing follows a file or a link at the root
pub leaf_follows : (names : List (List ℕ)) (w : What) → is_dir w ≡ false → follows names (at_root w) ≡ false
leaf_follows names w e =
    ap (λ d. is_prefix (parent_of names) [] && (d || nat_lt (length (parent_of names)) 0)) e ∙ no_room (is_prefix (parent_of names) []) (length (parent_of names))

-- whether a rel follows the last node of a list has to do with the end of the list alone
pub follows_all-append : (rel : List (List ℕ)) (xs : List Flat) (y : Flat) (ys : List Flat) → follows_all rel (xs ++ (y ∷ ys)) ≡ follows_all rel (y ∷ ys)
follows_all-append rel [] y ys = refl
follows_all-append rel (x ∷ []) y ys = refl
follows_all-append rel (x ∷ next ∷ xs) y ys = follows_all-append rel (next ∷ xs) y ys

follows_in : (a b : List ℕ) (more : List (List ℕ)) (n : List ℕ) (x : Flat) → follows (a ∷ b ∷ more) (put_in n x) ≡ (same_name a n && follows (b ∷ more) x)
follows_in a b more n x =
    ap (λ t. (same_name a n && is_prefix (parent_of (b ∷ more)) x.rel) && (is_dir x.what || t)) (lt_suc (length (parent_of (b ∷ more))) (length x.rel))
    ∙ and_assoc (same_name a n) (is_prefix (parent_of (b ∷ more)) x.rel) (is_dir x.what || nat_lt (length (parent_of (b ∷ more))) (length x.rel))

follows_all_in : (a b : List ℕ) (more : List (List ℕ)) (n : List ℕ) (x : Flat) (xs : List Flat)
    → follows_all (a ∷ b ∷ more) (map (put_in n) (x ∷ xs)) ≡ (same_name a n && follows_all (b ∷ more) (x ∷ xs))
follows_all_in a b more n x [] = follows_in a b more n x
follows_all_in a b more n x (y ∷ ys) = follows_all_in a b more n y ys

-- ---- a child at the end

-- what follows the last child, from inside it
pub follows_child : (names : List (List ℕ)) (a b : List ℕ) (more : List (List ℕ)) (list rest : List Child) (c : Child)
    → names ≡ a ∷ b ∷ more → list ≡ rest ++ (c ∷ []) → follows_all names (at_root what.Dir ∷ below_all list) ≡ true
    → (same_name a (out-Child c).name && follows_all (b ∷ more) (below_node (out-Child c).node)) ≡ true
follows_child names a b more list rest c e f told =
    let first = at_root (what_node (out-Child c).node) in
    let behind = drop 1 (below_node (out-Child c).node) in
    let name = (out-Child c).name in
    let is : at_root what.Dir ∷ below_all list ≡ (at_root what.Dir ∷ below_all rest) ++ map (put_in name) (first ∷ behind)
    = ap (λ l. at_root what.Dir ∷ below_all l) f ∙ ap (λ t. at_root what.Dir ∷ t) (below_all_push rest c)
    ∙ ap (λ t. at_root what.Dir ∷ (below_all rest ++ t)) (below_child_out c ∙ ap (map (put_in name)) (node_begins (out-Child c).node)) in
    ap (λ t. same_name a name && follows_all (b ∷ more) t) (node_begins (out-Child c).node)
    ∙ sym (follows_all_in a b more name first behind)
    ∙ sym (follows_all-append (a ∷ b ∷ more) (at_root what.Dir ∷ below_all rest) (put_in name first) (map (put_in name) behind))
    ∙ ap (follows_all (a ∷ b ∷ more)) (sym is) ∙ ap (λ n. follows_all n (at_root what.Dir ∷ below_all list)) (sym e) ∙ told

-- where there is no child, nothing follows below one
pub follows_no_child : (names : List (List ℕ)) (a b : List ℕ) (more : List (List ℕ)) (list : List Child)
    → names ≡ a ∷ b ∷ more → list ≡ [] → follows_all names (at_root what.Dir ∷ below_all list) ≡ false
follows_no_child names a b more list e f = ap (λ n. follows_all n (at_root what.Dir ∷ below_all list)) e ∙ ap (λ l. follows_all (a ∷ b ∷ more) (at_root what.Dir ∷ below_all l)) f

-- a leaf at one name, pushed as a child, adds one node to the list
pub grown_child : (names : List (List ℕ)) (name : List ℕ) (w : What) (list pushed : List Child) (new : Child)
    → names ≡ name ∷ [] → (out-Child new).name ≡ name → below_node (out-Child new).node ≡ at_root w ∷ [] → pushed ≡ list ++ (new ∷ [])
    → below_all pushed ≡ below_all list ++ (record { rel = names; what = w } ∷ [])
grown_child names name w list pushed new e n b p =
    ap below_all p ∙ below_all_push list new ∙ ap (λ t. below_all list ++ t) (below_child_out new)
    ∙ ap (λ t. below_all list ++ map (put_in (out-Child new).name) t) b
    ∙ ap (λ r. below_all list ++ (record { rel = r; what = w } ∷ [])) (ap (λ m. m ∷ []) n ∙ sym e)

-- where the last child gets one more node, the list gets that node behind its name
pub grown_grandchild : (names : List (List ℕ)) (a b : List ℕ) (more : List (List ℕ)) (w : What) (list rest pushed : List Child) (c new : Child)
    → names ≡ a ∷ b ∷ more → list ≡ rest ++ (c ∷ []) → pushed ≡ rest ++ (new ∷ []) → same_name a (out-Child c).name ≡ true
    → (out-Child new).name ≡ (out-Child c).name
    → below_node (out-Child new).node ≡ below_node (out-Child c).node ++ (record { rel = b ∷ more; what = w } ∷ [])
    → below_all pushed ≡ below_all list ++ (record { rel = names; what = w } ∷ [])
grown_grandchild names a b more w list rest pushed c new e f p s n g =
    let name = (out-Child c).name in
    let last : List Flat = record { rel = b ∷ more; what = w } ∷ [] in
    ap below_all p ∙ below_all_push rest new ∙ ap (λ t. below_all rest ++ t) (below_child_out new)
    ∙ ap (λ m. below_all rest ++ map (put_in m) (below_node (out-Child new).node)) n
    ∙ ap (λ t. below_all rest ++ map (put_in name) t) g
    ∙ ap (λ t. below_all rest ++ t) (map-append (put_in name) (below_node (out-Child c).node) last)
    ∙ ap (λ m. below_all rest ++ (map (put_in name) (below_node (out-Child c).node) ++ (record { rel = m ∷ b ∷ more; what = w } ∷ []))) (sym (same_name-eq a name s))
    ∙ ap (λ r. below_all rest ++ (map (put_in name) (below_node (out-Child c).node) ++ (record { rel = r; what = w } ∷ []))) (sym e)
    ∙ ap (λ t. below_all rest ++ (t ++ (record { rel = names; what = w } ∷ []))) (sym (below_child_out c))
    ∙ sym (append_assoc (below_all rest) (below_child c) (record { rel = names; what = w } ∷ []))
    ∙ ap (λ t. t ++ (record { rel = names; what = w } ∷ [])) (sym (below_all_push rest c) ∙ ap below_all (sym f))

-- a directory with one more node at the end
pub grown_dir : (n m : Node) (cs ds : Children) (list grown : List Child) (x : Flat) → n ≡ variant.Dir cs → list ≡ (out-Children cs).list
    → m ≡ variant.Dir ds → grown ≡ (out-Children ds).list → below_all grown ≡ below_all list ++ (x ∷ []) → below_node m ≡ below_node n ++ (x ∷ [])
grown_dir n m cs ds list grown x e f g h b =
    below_dir_out m ds grown g h ∙ ap (λ t. at_root what.Dir ∷ t) b ∙ ap (λ t. t ++ (x ∷ [])) (sym (below_dir_out n cs list e f))

-- ---- the nodes of a list, one after another

below_root : (x : Flat) → not (is_root x) ≡ true → 1 ≤ length x.rel
below_root x e = by x.rel e
  where
    by : (rel : List (List ℕ)) → not (is_root (record { rel = rel; what = x.what })) ≡ true → 1 ≤ length rel
    by [] f = cc
    by (a ∷ rel) f = omega arith

-- each node behind the first of a linked list stands below the root
pub linked_below : (before : Flat) (rest : List Flat) (i : ℕ) (x : Flat) → is_linked before rest ≡ true → i < length rest → x ≡ get_or rest i x → 1 ≤ length x.rel
linked_below before [] i x e h is = absurd (omega arith)
linked_below before (y ∷ ys) zero x e h is =
    let told = first_so (not (is_root y)) (follows y.rel before) (first_so (not (is_root y) && follows y.rel before) (is_linked y ys) e) in
    below_root x (ap (λ z. not (is_root z)) is ∙ told)
linked_below before (y ∷ ys) (suc i) x e h is =
    linked_below y ys i x (second_so (not (is_root y) && follows y.rel before) (is_linked y ys) e) (omega arith) is

-- each node behind the first of a linked list follows those before it
pub linked_at : (before : Flat) (rest : List Flat) (i : ℕ) (x : Flat) → is_linked before rest ≡ true → i < length rest → x ≡ get_or rest i x
    → follows_all x.rel (before ∷ take i rest) ≡ true
linked_at before [] i x e h is = absurd (omega arith)
linked_at before (y ∷ ys) zero x e h is =
    ap (λ z. follows z.rel before) is ∙ second_so (not (is_root y)) (follows y.rel before) (first_so (not (is_root y) && follows y.rel before) (is_linked y ys) e)
linked_at before (y ∷ ys) (suc i) x e h is =
    linked_at y ys i x (second_so (not (is_root y) && follows y.rel before) (is_linked y ys) e) (omega arith) is

-- ---- names from their first two

-- two names or more are the first, the second and the others
pub two_names : (names : List (List ℕ)) → 2 ≤ length names → names ≡ get_or names 0 [] ∷ get_or names 1 [] ∷ drop 2 names
two_names [] h = absurd (omega arith)
two_names (a ∷ []) h = absurd (omega arith)
two_names (a ∷ b ∷ names) h = refl

-- fewer than two names and at least one are the first one alone
pub one_name : (names : List (List ℕ)) (name : List ℕ) → length names < 2 → 1 ≤ length names → name ≡ get_or names 0 name → names ≡ name ∷ []
one_name [] name h k e = absurd (omega arith)
one_name (a ∷ []) name h k e = ap (λ x. x ∷ []) (sym e)
one_name (a ∷ b ∷ names) name h k e = absurd (omega arith)

-- two names or more without the first are the second and the others
pub more_names : (names : List (List ℕ)) → 2 ≤ length names → take (length names - 1) (drop 1 names) ≡ get_or names 1 [] ∷ drop 2 names
more_names [] h = absurd (omega arith)
more_names (a ∷ []) h = absurd (omega arith)
more_names (a ∷ b ∷ names) h = take_all (length (a ∷ b ∷ names) - 1) (b ∷ names) (omega arith)

-- what follows the last child, from inside it, as it is called
pub follows_more : (names : List (List ℕ)) (list rest : List Child) (c : Child) → 2 ≤ length names
    → list ≡ rest ++ (c ∷ []) → follows_all names (at_root what.Dir ∷ below_all list) ≡ true
    → follows_all (take (length names - 1) (drop 1 names)) (below_node (out-Child c).node) ≡ true
follows_more names list rest c h f told =
    ap (λ n. follows_all n (below_node (out-Child c).node)) (more_names names h)
    ∙ second_so (same_name (get_or names 0 []) (out-Child c).name) (follows_all (get_or names 1 [] ∷ drop 2 names) (below_node (out-Child c).node))
    (follows_child names (get_or names 0 []) (get_or names 1 []) (drop 2 names) list rest c (two_names names h) f told)

-- the same, with the names cut as they are when it is called
pub grown_more : (names : List (List ℕ)) (w : What) (list rest pushed : List Child) (c new : Child) → 2 ≤ length names
    → list ≡ rest ++ (c ∷ []) → follows_all names (at_root what.Dir ∷ below_all list) ≡ true → pushed ≡ rest ++ (new ∷ [])
    → (out-Child new).name ≡ (out-Child c).name
    → below_node (out-Child new).node ≡ below_node (out-Child c).node ++ (record { rel = take (length names - 1) (drop 1 names); what = w } ∷ [])
    → below_all pushed ≡ below_all list ++ (record { rel = names; what = w } ∷ [])
grown_more names w list rest pushed c new h f told p n g =
    grown_grandchild names (get_or names 0 []) (get_or names 1 []) (drop 2 names) w list rest pushed c new (two_names names h) f p
    (first_so (same_name (get_or names 0 []) (out-Child c).name) (follows_all (get_or names 1 [] ∷ drop 2 names) (below_node (out-Child c).node))
    (follows_child names (get_or names 0 []) (get_or names 1 []) (drop 2 names) list rest c (two_names names h) f told))
    n
    (g ∙ ap (λ r. below_node (out-Child c).node ++ (record { rel = r; what = w } ∷ [])) (more_names names h))
