-- The children of a tree whose nodes ascend have names that ascend; so have the children of each kind, and no name is that of two kinds.
use Rattle.mat_path.proofs.SameNames.{same_name-sym}
use Rattle.std.specs.Cmp.{first_so, second_so}
use Rattle.std.proofs.lemmas.Bool.{and_from}
use Rattle.std.proofs.Common.{◌≡◌, ℕ, ◌+◌, ◌≤◌, Bool, true, false, ◌&&◌, ◌||◌, not, cond, List, [], ◌∷◌, ◌++◌, length, map, Option, refl, sym, ap, ◌∙◌, arith}
use Rattle.std.specs.List.{cons_option, filter, filter_map, list_all, list_any}
use Rattle.std.specs.Cmp.Lexicographic.{texts_ties}
use Rattle.std.specs.Ordering.{is_eq, is_lt, ordering_then}
use Rattle.std.specs.declared.cmp.Ordering.{Ordering}
use Rattle.std.specs.declared.cmp.Ordering.TheVariants.{Less, Equal, Greater}
use Rattle.std.proofs.lemmas.List.Folds.{list_any-append}
use Rattle.mat_digest.specs.declared.digest.Digest.{Digest}
use Rattle.mat_path.specs.Names.{name_cmp, path_cmp, same_name}
use Rattle.mat_tree.specs.declared.flat.Flat.{Flat}
use Rattle.mat_tree.specs.declared.flat.What.{What}
use Rattle.mat_tree.specs.declared.flat.What.TheVariants as what
use Rattle.mat_tree.specs.Sums.{children_of, is_child}
use Rattle.mat_tree.specs.Trees.{ascends, is_after, is_dir, is_link}
use Rattle.reapi_dir.specs.Grammar.{are_apart, ascend, dir_name, file_name, is_before, link_name}
use Rattle.reapi_dir.specs.declared.message.FileNode.{FileNode}
use Rattle.reapi_dir.specs.declared.message.DirNode.{DirNode}
use Rattle.reapi_dir.specs.declared.message.LinkNode.{LinkNode}
use Rattle.reapi_dir.specs.SumMessage.{child_dir, child_file, child_link, child_name, dir_node_of, file_node_of, first_name, link_node_of}
use Rattle.reapi_dir.proofs.FlatLevels.{single_is}

-- ---- names in order

-- a name before others is none of them
less_other : (o : Ordering) → is_lt o ≡ true → is_eq o ≡ false
less_other Less e = refl
less_other Equal e = cc
less_other Greater e = refl

before_other : (a b : List ℕ) → is_before a b ≡ true → same_name a b ≡ false
before_other a b e = texts_ties a b ∙ less_other (name_cmp a b) e

not_before : (name : List ℕ) (names : List (List ℕ)) → list_all (is_before name) names ≡ true → not (list_any (same_name name) names) ≡ true
not_before name [] e = refl
not_before name (n ∷ names) e =
    ap (λ b. not (b || list_any (same_name name) names)) (before_other name n (first_so (is_before name n) (list_all (is_before name) names) e))
    ∙ not_before name names (second_so (is_before name n) (list_all (is_before name) names) e)

-- one name more, which is before the others
apart_more : (name : List ℕ) (names others : List (List ℕ)) → list_all (is_before name) others ≡ true → are_apart names others ≡ true
    → are_apart (name ∷ names) others ≡ true
apart_more name names [] e h = refl
apart_more name names (n ∷ others) e h =
    let first = not (list_any (same_name n) names) in
    let other = same_name-sym n name ∙ before_other name n (first_so (is_before name n) (list_all (is_before name) others) e) in
    and_from (not (same_name n name || list_any (same_name n) names)) (are_apart (name ∷ names) others)
    (ap (λ b. not (b || list_any (same_name n) names)) other ∙ first_so first (are_apart names others) h)
    (apart_more name names others (second_so (is_before name n) (list_all (is_before name) others) e) (second_so first (are_apart names others) h))

-- names apart from two lists are apart from both
pub apart_both : (names more others : List (List ℕ)) → are_apart names others ≡ true → are_apart more others ≡ true → are_apart (names ++ more) others ≡ true
apart_both names more [] h k = refl
apart_both names more (n ∷ others) h k =
    let a = list_any (same_name n) names in
    let b = list_any (same_name n) more in
    and_from (not (list_any (same_name n) (names ++ more))) (are_apart (names ++ more) others)
    (ap not (list_any-append (same_name n) names more) ∙ neither a b (first_so (not a) (are_apart names others) h) (first_so (not b) (are_apart more others) k))
    (apart_both names more others (second_so (not a) (are_apart names others) h) (second_so (not b) (are_apart more others) k))
  where
    neither : (a b : Bool) → not a ≡ true → not b ≡ true → not (a || b) ≡ true
    neither true b e f = cc
    neither false b e f = f

-- ---- the names of some children among all

all_among : (q : List ℕ → Bool) (p : Flat → Bool) (cs : List Flat) → list_all q (map child_name cs) ≡ true → list_all q (map child_name (filter p cs)) ≡ true
all_among q p [] e = refl
all_among q p (c ∷ cs) e =
    by (p c) (first_so (q (child_name c)) (list_all q (map child_name cs)) e)
    (all_among q p cs (second_so (q (child_name c)) (list_all q (map child_name cs)) e))
  where
    by : (b : Bool) → q (child_name c) ≡ true → list_all q (map child_name (filter p cs)) ≡ true
        → list_all q (map child_name (cond b (c ∷ filter p cs) (filter p cs))) ≡ true
    by true first rest = and_from (q (child_name c)) (list_all q (map child_name (filter p cs))) first rest
    by false first rest = rest

-- the names of some of the children ascend where those of all do
pub ascend_among : (p : Flat → Bool) (cs : List Flat) → ascend (map child_name cs) ≡ true → ascend (map child_name (filter p cs)) ≡ true
ascend_among p [] e = refl
ascend_among p (c ∷ cs) e =
    by (p c) (all_among (is_before (child_name c)) p cs (first_so (list_all (is_before (child_name c)) (map child_name cs)) (ascend (map child_name cs)) e))
    (ascend_among p cs (second_so (list_all (is_before (child_name c)) (map child_name cs)) (ascend (map child_name cs)) e))
  where
    by : (b : Bool) → list_all (is_before (child_name c)) (map child_name (filter p cs)) ≡ true → ascend (map child_name (filter p cs)) ≡ true
        → ascend (map child_name (cond b (c ∷ filter p cs) (filter p cs))) ≡ true
    by true first rest = and_from (list_all (is_before (child_name c)) (map child_name (filter p cs))) (ascend (map child_name (filter p cs))) first rest
    by false first rest = rest

-- children of two kinds have no name in common
pub apart_among : (p q : Flat → Bool) → ((c : Flat) → (p c && q c) ≡ false) → (cs : List Flat) → ascend (map child_name cs) ≡ true
    → are_apart (map child_name (filter p cs)) (map child_name (filter q cs)) ≡ true
apart_among p q never [] e = refl
apart_among p q never (c ∷ cs) e =
    let name = child_name c in
    let before = first_so (list_all (is_before name) (map child_name cs)) (ascend (map child_name cs)) e in
    by (p c) (q c) (never c) (all_among (is_before name) p cs before) (all_among (is_before name) q cs before)
    (apart_among p q never cs (second_so (list_all (is_before name) (map child_name cs)) (ascend (map child_name cs)) e))
  where
    by : (a b : Bool) → (a && b) ≡ false → list_all (is_before (child_name c)) (map child_name (filter p cs)) ≡ true
        → list_all (is_before (child_name c)) (map child_name (filter q cs)) ≡ true
        → are_apart (map child_name (filter p cs)) (map child_name (filter q cs)) ≡ true
        → are_apart (map child_name (cond a (c ∷ filter p cs) (filter p cs))) (map child_name (cond b (c ∷ filter q cs) (filter q cs))) ≡ true
    by true true one first second rest = cc
    by true false one first second rest = apart_more (child_name c) (map child_name (filter p cs)) (map child_name (filter q cs)) second rest
    by false true one first second rest =
        and_from (not (list_any (same_name (child_name c)) (map child_name (filter p cs)))) (are_apart (map child_name (filter p cs)) (map child_name (filter q cs)))
        (not_before (child_name c) (map child_name (filter p cs)) first) rest
    by false false one first second rest = rest

-- ---- the kinds of children

abbrev is_file_what : What → Bool
is_file_what (what.File digest exec) = true
is_file_what what.Dir = false
is_file_what (what.Link target) = false

-- whether a node is a file
abbrev pub is_file_node : Flat → Bool
is_file_node node = is_file_what node.what

-- whether a node is a directory
abbrev pub is_dir_node : Flat → Bool
is_dir_node node = is_dir node.what

-- whether a node is a link
abbrev pub is_link_node : Flat → Bool
is_link_node node = is_link node.what

-- no node is a file and a directory
pub file_no_dir : (c : Flat) → (is_file_node c && is_dir_node c) ≡ false
file_no_dir c = by c.what
  where
    by : (w : What) → (is_file_what w && is_dir w) ≡ false
    by (what.File digest exec) = refl
    by what.Dir = refl
    by (what.Link target) = refl

-- no node is a file and a link
pub file_no_link : (c : Flat) → (is_file_node c && is_link_node c) ≡ false
file_no_link c = by c.what
  where
    by : (w : What) → (is_file_what w && is_link w) ≡ false
    by (what.File digest exec) = refl
    by what.Dir = refl
    by (what.Link target) = refl

-- no node is a directory and a link
pub dir_no_link : (c : Flat) → (is_dir_node c && is_link_node c) ≡ false
dir_no_link c = by c.what
  where
    by : (w : What) → (is_dir w && is_link w) ≡ false
    by (what.File digest exec) = refl
    by what.Dir = refl
    by (what.Link target) = refl

-- each child is of one kind, so the files, directories and links are no more than the children
pub kinds_few : (cs : List Flat) → length (filter is_file_node cs) + length (filter is_dir_node cs) + length (filter is_link_node cs) ≤ length cs
kinds_few [] = omega arith
kinds_few (c ∷ cs) = by c.what (filter is_file_node cs) (filter is_dir_node cs) (filter is_link_node cs) (kinds_few cs)
  where
    by : (w : What) (files dirs links : List Flat) → length files + length dirs + length links ≤ length cs
        → length (cond (is_file_what w) (c ∷ files) files) + length (cond (is_dir w) (c ∷ dirs) dirs) + length (cond (is_link w) (c ∷ links) links)
        ≤ length (c ∷ cs)
    by (what.File digest exec) files dirs links h = omega arith
    by what.Dir files dirs links h = omega arith
    by (what.Link target) files dirs links h = omega arith

-- the names of what the children give are those of the children of that kind
names_are : {Y : Type 0} (name : Y → List ℕ) (give : Flat → Option Y) (p : Flat → Bool)
    → ((c : Flat) (cs : List Flat) (ys : List Y) → map name ys ≡ map child_name cs → map name (cons_option (give c) ys) ≡ map child_name (cond (p c) (c ∷ cs) cs))
    → (cs : List Flat) → map name (filter_map give cs) ≡ map child_name (filter p cs)
names_are name give p each [] = refl
names_are name give p each (c ∷ cs) = each c (filter p cs) (filter_map give cs) (names_are name give p each cs)

-- the names of the files that children give are those of the children that are files
pub file_names : (cs : List Flat) → map file_name (filter_map child_file cs) ≡ map child_name (filter is_file_node cs)
file_names = names_are file_name child_file is_file_node (λ c cs ys e. by c.what c cs ys e)
  where
    by : (w : What) (c : Flat) (cs : List Flat) (ys : List FileNode) → map file_name ys ≡ map child_name cs
        → map file_name (cons_option (file_node_of (child_name c) w) ys) ≡ map child_name (cond (is_file_what w) (c ∷ cs) cs)
    by (what.File digest exec) c cs ys e = ap (λ t. child_name c ∷ t) e
    by what.Dir c cs ys e = e
    by (what.Link target) c cs ys e = e

-- the names of the directories that children give are those of the children that are directories
pub dir_names : (nodes cs : List Flat) → map dir_name (filter_map (child_dir nodes) cs) ≡ map child_name (filter is_dir_node cs)
dir_names nodes = names_are dir_name (child_dir nodes) is_dir_node (λ c cs ys e. by c.what c _ cs ys e)
  where
    by : (w : What) (c : Flat) (digest : Digest) (cs : List Flat) (ys : List DirNode) → map dir_name ys ≡ map child_name cs
        → map dir_name (cons_option (dir_node_of (child_name c) digest w) ys) ≡ map child_name (cond (is_dir w) (c ∷ cs) cs)
    by (what.File other exec) c digest cs ys e = e
    by what.Dir c digest cs ys e = ap (λ t. child_name c ∷ t) e
    by (what.Link target) c digest cs ys e = e

-- the names of the links that children give are those of the children that are links
pub link_names : (cs : List Flat) → map link_name (filter_map child_link cs) ≡ map child_name (filter is_link_node cs)
link_names = names_are link_name child_link is_link_node (λ c cs ys e. by c.what c cs ys e)
  where
    by : (w : What) (c : Flat) (cs : List Flat) (ys : List LinkNode) → map link_name ys ≡ map child_name cs
        → map link_name (cons_option (link_node_of (child_name c) w) ys) ≡ map child_name (cond (is_link w) (c ∷ cs) cs)
    by (what.File digest exec) c cs ys e = e
    by what.Dir c cs ys e = e
    by (what.Link target) c cs ys e = ap (λ t. child_name c ∷ t) e

-- ---- the names of children ascend

less_first : (o : Ordering) → is_lt (ordering_then o Equal) ≡ true → is_lt o ≡ true
less_first Less e = refl
less_first Equal e = cc
less_first Greater e = cc

-- a rel of one name behind another one has a greater name
name_after : (name : List ℕ) (rel : List (List ℕ)) → rel ≡ first_name rel ∷ [] → is_lt (path_cmp (name ∷ []) rel) ≡ true → is_before name (first_name rel) ≡ true
name_after name rel single after =
    less_first (name_cmp name (first_name rel)) (ap (λ (r : List (List ℕ)). is_lt (path_cmp (name ∷ []) r)) (sym single) ∙ after)

names_after : (name : List ℕ) (xs : List Flat) → list_all (is_after (name ∷ [])) xs ≡ true → list_all (is_before name) (map child_name (filter is_child xs)) ≡ true
names_after name [] e = refl
names_after name (x ∷ xs) e =
    by (is_child x) refl (first_so (is_after (name ∷ []) x) (list_all (is_after (name ∷ [])) xs) e)
    (names_after name xs (second_so (is_after (name ∷ []) x) (list_all (is_after (name ∷ [])) xs) e))
  where
    by : (b : Bool) → is_child x ≡ b → is_after (name ∷ []) x ≡ true → list_all (is_before name) (map child_name (filter is_child xs)) ≡ true
        → list_all (is_before name) (map child_name (cond b (x ∷ filter is_child xs) (filter is_child xs))) ≡ true
    by true single after rest =
        and_from (is_before name (child_name x)) (list_all (is_before name) (map child_name (filter is_child xs)))
        (name_after name x.rel (single_is x.rel single) after) rest
    by false single after rest = rest

-- the names of the children ascend where the nodes of the tree do
pub children_ascend : (nodes : List Flat) → ascends nodes ≡ true → ascend (map child_name (children_of nodes)) ≡ true
children_ascend [] e = refl
children_ascend (x ∷ xs) e =
    by (is_child x) refl (first_so (list_all (is_after x.rel) xs) (ascends xs) e)
    (children_ascend xs (second_so (list_all (is_after x.rel) xs) (ascends xs) e))
  where
    by : (b : Bool) → is_child x ≡ b → list_all (is_after x.rel) xs ≡ true → ascend (map child_name (filter is_child xs)) ≡ true
        → ascend (map child_name (cond b (x ∷ filter is_child xs) (filter is_child xs))) ≡ true
    by true single after rest =
        and_from (list_all (is_before (child_name x)) (map child_name (filter is_child xs))) (ascend (map child_name (filter is_child xs)))
        (names_after (child_name x) xs (ap (λ (r : List (List ℕ)). list_all (is_after r) xs) (sym (single_is x.rel single)) ∙ after)) rest
    by false single after rest = rest
