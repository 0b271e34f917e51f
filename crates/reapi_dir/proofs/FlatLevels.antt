-- The digest of a directory's message, from its flat list, is that of the message in which each directory has the digest of its own message.
use Rattle.mat_path.proofs.SameNames.{same_names-eq, same_names-refl}
use Rattle.std.proofs.Common.{◌≡◌, ◌<◌, ◌≤◌, ◌+◌, ℕ, zero, suc, Bool, true, false, ◌||◌, cond, List, [], ◌∷◌, ◌++◌, length, map, drop, refl, ◌∙◌, sym, ap, subst, arith}
use Rattle.std.specs.List.{AllByRecursion, filter, flat_map}
use Rattle.mat_digest.specs.Digests.{digest_of}
use Rattle.mat_digest.specs.declared.digest.Digest.{Digest}
use Rattle.mat_path.specs.Names.{joined}
use Rattle.mat_tree.specs.declared.flat.Flat.{Flat}
use Rattle.mat_tree.specs.Sums.{children_of, digest_down, dir_digest, dir_named, dir_part, file_part, is_child, is_single, link_part, message_by}
use Rattle.mat_tree.specs.Trees.{has_node, is_at, is_below, seen_from, sub_tree}
use Rattle.reapi_dir.specs.SumMessage.{first_name}

-- ---- lists

-- what follows of each element, by what is true of it
pub all_follow : {X : Type 0} (P Q : X → Type 0) → ((x : X) → P x → Q x) → (xs : List X) → AllByRecursion P xs → AllByRecursion Q xs
all_follow P Q step [] all = tt
all_follow P Q step (x ∷ xs) (first, rest) = (step x first, all_follow P Q step xs rest)

-- what is true of each element that passes a test, by what is true of each element
pub all_passing : {X : Type 0} (P Q : X → Type 0) (p : X → Bool) → ((x : X) → p x ≡ true → P x → Q x) → (xs : List X) → AllByRecursion P xs
    → AllByRecursion Q (filter p xs)
all_passing P Q p step [] all = tt
all_passing {X} P Q p step (x ∷ xs) (first, rest) = by (p x) refl (all_passing P Q p step xs rest)
  where
    by : (b : Bool) → p x ≡ b → AllByRecursion Q (filter p xs) → AllByRecursion Q (cond b (x ∷ filter p xs) (filter p xs))
    by true e more = (step x e first, more)
    by false e more = more

-- a rel of one name is the list of that name
pub single_is : (rel : List (List ℕ)) → is_single rel ≡ true → rel ≡ first_name rel ∷ []
single_is [] e = cc
single_is (name ∷ []) e = refl
single_is (name ∷ next ∷ names) e = cc

-- ---- how many nodes are not the root

-- 1 for a rel that has a name
abbrev named : List (List ℕ) → ℕ
named [] = 0
named (name ∷ names) = 1

-- how many nodes stand below the root
abbrev under : List Flat → ℕ
under [] = 0
under (x ∷ xs) = named x.rel + under xs

under_length : (xs : List Flat) → under xs ≤ length xs
under_length [] = omega arith
under_length (x ∷ xs) = omega (arith, one x.rel, under_length xs)
  where
    one : (rel : List (List ℕ)) → named rel ≤ 1
    one [] = omega arith
    one (name ∷ names) = omega arith

named_drop : (rel : List (List ℕ)) → named (drop 1 rel) ≤ named rel
named_drop [] = omega arith
named_drop (name ∷ []) = omega arith
named_drop (name ∷ next ∷ names) = omega arith

named_single : (rel : List (List ℕ)) → is_single rel ≡ true → named rel ≡ 1
named_single [] e = cc
named_single (name ∷ names) e = refl

module _ (name : List ℕ) where
  abbrev child : List (List ℕ)
  child = name ∷ []

  -- one node more
  one_more : (b : Bool) (x : Flat) (xs : List Flat) → under (map (seen_from child) (cond b (x ∷ xs) xs)) ≤ named x.rel + under (map (seen_from child) xs)
  one_more true x xs = omega (arith, named_drop x.rel)
  one_more false x xs = omega arith

  -- the child itself
  itself : (b : Bool) (x : Flat) (xs : List Flat) → x.rel ≡ child → under (map (seen_from child) (cond b (x ∷ xs) xs)) ≤ under (map (seen_from child) xs)
  itself true x xs e = omega (arith, ap (λ (r : List (List ℕ)). named (drop 1 r)) e)
  itself false x xs e = omega arith

  under_most : (xs : List Flat) → under (sub_tree xs child) ≤ under xs
  under_most [] = omega arith
  under_most (x ∷ xs) = omega (arith, one_more (is_below child x) x (filter (is_below child) xs), under_most xs)

  -- below a child fewer nodes are not the root
  under_fewer : (xs : List Flat) → has_node xs child ≡ true → under (sub_tree xs child) < under xs
  under_fewer [] h = cc
  under_fewer (x ∷ xs) h = by (is_at child x) refl (under_fewer xs) h
    where
      by : (b : Bool) → is_at child x ≡ b → (has_node xs child ≡ true → under (sub_tree xs child) < under xs) → (b || has_node xs child) ≡ true
          → under (sub_tree (x ∷ xs) child) < under (x ∷ xs)
      by true e rest h =
          let same : x.rel ≡ child = same_names-eq x.rel child e in
          omega (arith, itself (is_below child x) x (filter (is_below child) xs) same, under_most xs, ap named same)
      by false e rest h = omega (arith, one_more (is_below child x) x (filter (is_below child) xs), rest h)

-- each node of a list stands in it
stand : (all xs : List Flat) → ((rel : List (List ℕ)) → has_node xs rel ≡ true → has_node all rel ≡ true) → AllByRecursion (λ (x : Flat). has_node all x.rel ≡ true) xs
stand all [] h = tt
stand all (x ∷ xs) h = (
  h x.rel (ap (λ b. b || has_node xs x.rel) (same_names-refl x.rel)),
  stand all xs (λ rel there. h rel (or_true (is_at rel x) (has_node xs rel) there)),
)
  where
    or_true : (a b : Bool) → b ≡ true → (a || b) ≡ true
    or_true true b e = refl
    or_true false b e = e

children_fewer : (nodes : List Flat) → AllByRecursion (λ (c : Flat). under (sub_tree nodes c.rel) < under nodes) (children_of nodes)
children_fewer nodes =
    all_passing (λ (c : Flat). has_node nodes c.rel ≡ true) (λ (c : Flat). under (sub_tree nodes c.rel) < under nodes) is_child
    (λ c single there.
    subst (λ (r : List (List ℕ)). under (sub_tree nodes r) < under nodes) (sym (single_is c.rel single))
    (under_fewer (first_name c.rel) nodes (ap (has_node nodes) (sym (single_is c.rel single)) ∙ there)))
    nodes (stand nodes nodes (λ rel there. there))

-- ---- digests

parts_same : (digest other : List Flat → Digest) (nodes cs : List Flat)
    → AllByRecursion (λ (c : Flat). digest (sub_tree nodes c.rel) ≡ other (sub_tree nodes c.rel)) cs
    → flat_map (dir_part digest nodes) cs ≡ flat_map (dir_part other nodes) cs
parts_same digest other nodes [] all = refl
parts_same digest other nodes (c ∷ cs) (first, rest) =
    ap (λ d. dir_named (joined c.rel) d c.what ++ flat_map (dir_part digest nodes) cs) first
    ∙ ap (λ t. dir_part other nodes c ++ t) (parts_same digest other nodes cs rest)

messages_same : (digest other : List Flat → Digest) (nodes : List Flat)
    → AllByRecursion (λ (c : Flat). digest (sub_tree nodes c.rel) ≡ other (sub_tree nodes c.rel)) (children_of nodes)
    → message_by digest nodes ≡ message_by other nodes
messages_same digest other nodes all =
    ap (λ t. flat_map file_part (children_of nodes) ++ t ++ flat_map link_part (children_of nodes)) (parts_same digest other nodes (children_of nodes) all)

no_children : (nodes : List Flat) → under nodes ≤ 0 → children_of nodes ≡ []
no_children [] h = refl
no_children (x ∷ xs) h = by (is_child x) refl (no_children xs (omega arith))
  where
    by : (b : Bool) → is_child x ≡ b → children_of xs ≡ [] → cond b (x ∷ children_of xs) (children_of xs) ≡ []
    by true e none = absurd (omega (arith, named_single x.rel e))
    by false e none = none

nothing : (digest : List Flat → Digest) (nodes : List Flat) → under nodes ≤ 0 → message_by digest nodes ≡ []
nothing digest nodes h =
    ap (λ cs. flat_map file_part cs ++ flat_map (dir_part digest nodes) cs ++ flat_map link_part cs) (no_children nodes h)

-- more levels than there are nodes below the root say nothing
enough : (m k : ℕ) (nodes : List Flat) → under nodes ≤ m → under nodes ≤ k → digest_down m nodes ≡ digest_down k nodes
enough zero zero nodes h i = refl
enough zero (suc k) nodes h i = ap digest_of (sym (nothing (digest_down k) nodes h))
enough (suc m) zero nodes h i = ap digest_of (nothing (digest_down m) nodes i)
enough (suc m) (suc k) nodes h i =
    ap digest_of
    (messages_same (digest_down m) (digest_down k) nodes
    (all_follow (λ (c : Flat). under (sub_tree nodes c.rel) < under nodes)
    (λ (c : Flat). digest_down m (sub_tree nodes c.rel) ≡ digest_down k (sub_tree nodes c.rel))
    (λ c fewer. enough m k (sub_tree nodes c.rel) (omega arith) (omega arith)) (children_of nodes) (children_fewer nodes)))

-- the digest of a directory's message, by those of its directories
pub digest_is_of_message : (nodes : List Flat) → dir_digest nodes ≡ digest_of (message_by dir_digest nodes)
unfolding dir_digest
digest_is_of_message [] = refl
digest_is_of_message (x ∷ xs) =
    let nodes = x ∷ xs in
    let most = under_length nodes in
    ap digest_of
    (messages_same (digest_down (length xs)) dir_digest nodes
    (all_follow (λ (c : Flat). under (sub_tree nodes c.rel) < under nodes)
    (λ (c : Flat). digest_down (length xs) (sub_tree nodes c.rel) ≡ dir_digest (sub_tree nodes c.rel))
    (λ c fewer. enough (length xs) (length (sub_tree nodes c.rel)) (sub_tree nodes c.rel) (omega arith) (under_length (sub_tree nodes c.rel)))
    (children_of nodes) (children_fewer nodes)))
