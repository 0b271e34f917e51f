-- What walks tell of a trie's entries.
use Rattle.mat_path.proofs.SameNames.{same_names-eq}
use Rattle.std.proofs.Common.{◌≡◌, ◌≤◌, ◌+◌, ℕ, Bool, true, false, cond, ◌&&◌, ◌||◌, List, [], ◌∷◌, ◌++◌, map, length, nat_le, refl, ◌∙◌, sym, ap, arith}
use Rattle.std.proofs.lemmas.Bool.{leb-true}
use Rattle.std.specs.Cmp.{first_so, second_so}
use Rattle.std.specs.List.{filter, find, list_all, list_any}
use Rattle.std.specs.Option.{option_map}
use Rattle.std.specs.declared.option.Option.{Option}
use Rattle.std.specs.declared.option.Option.TheVariants.{Some}
use Rattle.mat_path.specs.Names.{is_name, is_path, is_rel, joined}
use Rattle.path_trie.specs.declared.entry.Entry.{Entry}
use Rattle.path_trie.specs.declared.node.Node.{Node}
use Rattle.path_trie.specs.Entries.{ascends, counted, cover_of, is_above, is_less, overlaps, path_of}
use Rattle.path_trie.specs.Nodes.{below_node}
use Rattle.path_trie.specs.Roots.{is_placed, shown, shown_all}
use Rattle.path_trie.specs.Walks.{counted_from, kept_path}

-- a path has at most 64 names
pub path_short : (names path : List (List ℕ)) → names ≡ path → is_path path ≡ true → length names ≤ 64
path_short names path e h =
    let short : nat_le (length path) 64 ≡ true =
    first_so (nat_le (length path) 64) (nat_le (length (joined path)) 1024) (first_so (nat_le (length path) 64 && nat_le (length (joined path)) 1024) (list_all is_name path) (second_so (nat_le 1 (length path)) (is_rel path) h)) in
    let le = leb-true (length path) 64 short in
    omega (arith, le, ap length e)

abbrev pub kept_seen : {V : Type 0} → ℕ × Entry V → ℕ × V
kept_seen seen = (seen.0, seen.1.value)

cover_shown : {V : Type 0} (path : List (List ℕ)) (xs : List (Entry (Entry V)))
    → option_map kept_seen (option_map (counted_from 0) (find (is_above path) xs)) ≡ option_map counted (find (is_above path) (map shown xs))
cover_shown path [] = refl
cover_shown path (x ∷ xs) = by (is_above path x) (cover_shown path xs)
  where
    by : (b : Bool) → option_map kept_seen (option_map (counted_from 0) (find (is_above path) xs)) ≡ option_map counted (find (is_above path) (map shown xs))
        → option_map kept_seen (option_map (counted_from 0) (cond b (Some x) (find (is_above path) xs))) ≡ option_map counted (cond b (Some (shown x)) (find (is_above path) (map shown xs)))
    by true e = let z : 0 + length x.path ≡ length x.path = omega arith in ap (λ (k : ℕ). Some (k, x.value.value)) z
    by false e = e

pub cover_as : {V : Type 0} (root : Node (Entry V)) (names path : List (List ℕ)) (now : List (Entry V)) (o : Option (ℕ × Entry V)) → names ≡ path → shown_all root ≡ now
    → o ≡ option_map (counted_from 0) (find (is_above names) (below_node root)) → option_map kept_seen o ≡ cover_of path now
cover_as root names path now o n v e =
    ap (option_map kept_seen) e ∙ cover_shown names (below_node root) ∙ ap (λ p. cover_of p (shown_all root)) n ∙ ap (cover_of path) v

any_shown : {V : Type 0} (path : List (List ℕ)) (xs : List (Entry (Entry V))) → list_any (overlaps path) xs ≡ list_any (overlaps path) (map shown xs)
any_shown path [] = refl
any_shown path (x ∷ xs) = ap (λ t. overlaps path x || t) (any_shown path xs)

pub any_as : {V : Type 0} (root : Node (Entry V)) (names path : List (List ℕ)) (now : List (Entry V)) (b : Bool) → names ≡ path → shown_all root ≡ now
    → b ≡ list_any (overlaps names) (below_node root) → b ≡ list_any (overlaps path) now
any_as root names path now b n v e = e ∙ any_shown names (below_node root) ∙ ap (λ p. list_any (overlaps p) (shown_all root)) n ∙ ap (list_any (overlaps path)) v

paths_shown : {V : Type 0} (path : List (List ℕ)) (xs : List (Entry (Entry V))) → list_all is_placed xs ≡ true
    → map kept_path (filter (overlaps path) xs) ≡ map path_of (filter (overlaps path) (map shown xs))
paths_shown path [] h = refl
paths_shown path (x ∷ xs) h = by (overlaps path x) (paths_shown path xs (second_so (is_placed x) (list_all is_placed xs) h))
  where
    by : (b : Bool) → map kept_path (filter (overlaps path) xs) ≡ map path_of (filter (overlaps path) (map shown xs))
        → map kept_path (cond b (x ∷ filter (overlaps path) xs) (filter (overlaps path) xs)) ≡ map path_of (cond b (shown x ∷ filter (overlaps path) (map shown xs)) (filter (overlaps path) (map shown xs)))
    by true e =
        ap (λ t. t ∷ map kept_path (filter (overlaps path) xs)) (same_names-eq x.value.path x.path (first_so (is_placed x) (list_all is_placed xs) h)) ∙ ap (λ t. x.path ∷ t) e
    by false e = e

pub paths_as : {V : Type 0} (root : Node (Entry V)) (names path : List (List ℕ)) (now : List (Entry V)) (found new : List (List (List ℕ))) → list_all is_placed (below_node root) ≡ true
    → names ≡ path → shown_all root ≡ now → found ≡ [] → new ≡ found ++ map kept_path (filter (overlaps names) (below_node root)) → new ≡ map path_of (filter (overlaps path) now)
paths_as root names path now found new h n v f g =
    g ∙ ap (λ t. t ++ map kept_path (filter (overlaps names) (below_node root))) f ∙ paths_shown names (below_node root) h
    ∙ ap (λ p. map path_of (filter (overlaps p) (shown_all root))) n ∙ ap (λ t. map path_of (filter (overlaps path) t)) v

after_shown : {V : Type 0} (x : Entry (Entry V)) (xs : List (Entry (Entry V))) → list_all (is_less x) xs ≡ list_all (is_less (shown x)) (map shown xs)
after_shown x [] = refl
after_shown x (y ∷ ys) = ap (λ t. is_less x y && t) (after_shown x ys)

ascends_shown : {V : Type 0} (xs : List (Entry (Entry V))) → ascends xs ≡ ascends (map shown xs)
ascends_shown [] = refl
ascends_shown (x ∷ xs) = ap (λ t. t && ascends xs) (after_shown x xs) ∙ ap (λ t. list_all (is_less (shown x)) (map shown xs) && t) (ascends_shown xs)

pub ascends_as : {V : Type 0} (root : Node (Entry V)) (now : List (Entry V)) → ascends (below_node root) ≡ true → shown_all root ≡ now → ascends now ≡ true
ascends_as root now h v = ap ascends (sym v) ∙ sym (ascends_shown (below_node root)) ∙ h
