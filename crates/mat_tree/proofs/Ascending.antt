-- Lists of nodes that ascend.
use Rattle.mat_path.proofs.PathLemmas.{lt_less, path_cmp_total}
use Rattle.std.proofs.lemmas.Bool.{and_from}
use Rattle.std.specs.Cmp.{first_so, second_so}
use Rattle.std.proofs.Common.{◌≡◌, ℕ, true, ◌&&◌, List, [], ◌∷◌, ◌++◌, map, refl, ◌∙◌, ap}
use Rattle.std.specs.List.{list_all}
use Rattle.std.specs.Ordering.{is_lt}
use Rattle.mat_tree.specs.declared.flat.Flat.{Flat}
use Rattle.mat_tree.specs.Nodes.{put_in}
use Rattle.mat_tree.specs.Trees.{is_after, ascends}
use Rattle.mat_tree.proofs.Paths.{path_cmp_in}
use Rattle.mat_path.specs.Names.{path_cmp}
use Rattle.mat_tree.proofs.Joins.{all_left, all_right}

-- a rel that is less than one which is less than another is less than that one
pub lt_trans_path : (p q r : List (List ℕ)) → is_lt (path_cmp p q) ≡ true → is_lt (path_cmp q r) ≡ true → is_lt (path_cmp p r) ≡ true
lt_trans_path p q r e f = ap is_lt (path_cmp_total.trans p q r (lt_less (path_cmp p q) e) (lt_less (path_cmp q r) f))

-- what is after a rel is after each one that is less
pub after_trans : (p q : List (List ℕ)) (xs : List Flat) → is_lt (path_cmp p q) ≡ true → list_all (is_after q) xs ≡ true → list_all (is_after p) xs ≡ true
after_trans p q [] e f = refl
after_trans p q (x ∷ xs) e f =
    and_from (is_after p x) (list_all (is_after p) xs) (lt_trans_path p q x.rel e (first_so (is_after q x) (list_all (is_after q) xs) f))
    (after_trans p q xs e (second_so (is_after q x) (list_all (is_after q) xs) f))

-- all of a list that ascends is after a rel that is less than the first one
pub after_head : (p : List (List ℕ)) (x : Flat) (xs : List Flat) → is_lt (path_cmp p x.rel) ≡ true → list_all (is_after x.rel) xs ≡ true → list_all (is_after p) (x ∷ xs) ≡ true
after_head p x xs e f = and_from (is_after p x) (list_all (is_after p) xs) e (after_trans p x.rel xs e f)

-- the front of a list that ascends
pub ascends_left : (xs ys : List Flat) → ascends (xs ++ ys) ≡ true → ascends xs ≡ true
ascends_left [] ys e = refl
ascends_left (x ∷ xs) ys e =
    and_from (list_all (is_after x.rel) xs) (ascends xs)
    (all_left (is_after x.rel) xs ys (first_so (list_all (is_after x.rel) (xs ++ ys)) (ascends (xs ++ ys)) e))
    (ascends_left xs ys (second_so (list_all (is_after x.rel) (xs ++ ys)) (ascends (xs ++ ys)) e))

-- the rest of a list that ascends
pub ascends_right : (xs ys : List Flat) → ascends (xs ++ ys) ≡ true → ascends ys ≡ true
ascends_right [] ys e = e
ascends_right (x ∷ xs) ys e = ascends_right xs ys (second_so (list_all (is_after x.rel) (xs ++ ys)) (ascends (xs ++ ys)) e)

-- where a list stands behind another one that begins with a node, all of it is after that node
pub after_first : (x : Flat) (xs ys : List Flat) → ascends ((x ∷ xs) ++ ys) ≡ true → list_all (is_after x.rel) ys ≡ true
after_first x xs ys e = all_right (is_after x.rel) xs ys (first_so (list_all (is_after x.rel) (xs ++ ys)) (ascends (xs ++ ys)) e)

-- what is after a rel is so in a folder too
after_in : (name : List ℕ) (rel : List (List ℕ)) (xs : List Flat) → list_all (is_after (name ∷ rel)) (map (put_in name) xs) ≡ list_all (is_after rel) xs
after_in name rel [] = refl
after_in name rel (x ∷ xs) =
    ap (λ o. is_lt o && list_all (is_after (name ∷ rel)) (map (put_in name) xs)) (path_cmp_in name rel x.rel)
    ∙ ap (λ t. is_after rel x && t) (after_in name rel xs)

-- a list ascends in a folder exactly where it does by itself
pub ascends_in : (name : List ℕ) (xs : List Flat) → ascends (map (put_in name) xs) ≡ ascends xs
ascends_in name [] = refl
ascends_in name (x ∷ xs) =
    ap (λ t. t && ascends (map (put_in name) xs)) (after_in name x.rel xs) ∙ ap (λ t. list_all (is_after x.rel) xs && t) (ascends_in name xs)
