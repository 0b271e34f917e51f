-- Lists of nodes, one entry more.
use Rattle.mat_path.proofs.JoinLemmas.{joined-tail}
use Rattle.mat_path.proofs.Elements.{contains_cases, contains_first, contains_more}
use Rattle.mat_path.proofs.SameNames.{is_prefix-Decides, same_names-Decides, same_names-eq, same_names-refl, same_names-sym}
use Rattle.mat_tree.proofs.Ascending.{after_head}
use Rattle.std.proofs.Common.{◌≡◌, ℕ, ◌≤◌, Bool, true, false, ◌&&◌, cond, List, [], ◌∷◌, ◌++◌, length, drop, map, refl, ap, subst, sym, ◌∙◌, inl, inr, Contains, Less, is_eq, arith, length-append, ◌<◌}
use Rattle.std.specs.Prelude.{Option, Some, None, nat_le, Result, Ok, Err, IfOk}
use Rattle.std.specs.List.{AllByRecursion, find, list_all}
use Rattle.std.specs.Option.{option_map, option_or, OnSome}
use Rattle.std.proofs.lemmas.List.Folds.{list_all-append}
use mathlib.Core.Bool.{true≢false}
use Rattle.std.proofs.lemmas.Bool.{and_from, and_parts, le-leb, leb-true}
use Rattle.std.proofs.lemmas.Option.{same_Some, none-some}
use Rattle.std.specs.Cmp.{first_so, second_so}
use Rattle.std.specs.Map.{lookup, keys_of}
use Rattle.std.specs.BTreeMap.{is_at as is_at_key}
use Rattle.std.specs.Ordering.{is_lt}
use Rattle.std.specs.List.Sorted.{IsStrictlySortedBy}
use Rattle.mat_path.specs.Order.{same_names_ties}
use Rattle.mat_path.specs.Names.{is_rel, is_name, joined, is_prefix, same_names, path_cmp, rest_below}
use Rattle.mat_tree.specs.Parts.{below, file, folder, link, Node, Part}
use Rattle.mat_tree.specs.Trees.{ascends, is_after, is_at, what_at, what_of}
use Rattle.mat_tree.specs.declared.flat.What.{What}
use Rattle.path_trie.specs.Entries.{is_at as is_entry_at, value_of}
use Rattle.region_port.specs.declared.node.DiskNode.{DiskNode}
use Rattle.region_port.specs.Entries.{Kept, content_of, node_at}
use Rattle.region_port.specs.Listing.{HasMany, HasNodes, HasTold, is_plain, is_plain_form, IsInOrder, most_nodes, flat_from, flats_of, form_at, form_of, form_seen, is_seen_at, rel_seen, seen_from, seen_of, shown}
use Rattle.region_port.specs.declared.listed.Form.{Form}
use Rattle.region_port.specs.declared.listed.Seen.{Seen}
use Rattle.std.proofs.lemmas.List.{length-map}

-- nothing is among nothing
none_contained : {X : Type 0} (x : X) → Contains [] x → ⊥
none_contained x (k, within, at) = absurd (omega arith)

-- what holds of each element holds of all
all_pass : {X : Type 0} (test : X → Bool) (xs : List X) → ((x : X) → Contains xs x → test x ≡ true) → list_all test xs ≡ true
all_pass test [] each = refl
all_pass test (x ∷ xs) each = and_from (test x) (list_all test xs) (each x (contains_first x xs)) (all_pass test xs (λ y among. each y (contains_more x xs y among)))

-- a lesser rel is another one
less_differs : (p q : List (List ℕ)) → path_cmp p q ≡ Less → same_names p q ≡ false
less_differs p q less = same_names_ties p q ∙ ap is_eq less

joined-behind : (p q : List (List ℕ)) → length (joined q) ≤ length (joined (p ++ q))
joined-behind [] q = omega arith
joined-behind (x ∷ p) q = omega (arith, joined-behind p q, joined-tail x (p ++ q))

-- the names of a rel behind some of its first are a rel
pub is_rel-behind : (p q : List (List ℕ)) → is_rel (p ++ q) ≡ true → is_rel q ≡ true
is_rel-behind p q e =
    let all = p ++ q in
    let ab : (nat_le (length all) 64 && nat_le (length (joined all)) 1024) ≡ true = first_so (nat_le (length all) 64 && nat_le (length (joined all)) 1024) (list_all is_name all) e in
    let a : length all ≤ 64 = leb-true (length all) 64 (first_so (nat_le (length all) 64) (nat_le (length (joined all)) 1024) ab) in
    let b : length (joined all) ≤ 1024 = leb-true (length (joined all)) 1024 (second_so (nat_le (length all) 64) (nat_le (length (joined all)) 1024) ab) in
    let c : (list_all is_name p && list_all is_name q) ≡ true = sym (list_all-append is_name p q) ∙ second_so (nat_le (length all) 64 && nat_le (length (joined all)) 1024) (list_all is_name all) e in
    let d : list_all is_name q ≡ true = second_so (list_all is_name p) (list_all is_name q) c in
    let fewer : length q ≤ 64 = omega (arith, length-append p q) in
    let shorter : length (joined q) ≤ 1024 = omega (arith, joined-behind p q) in
    ap (λ t. t && nat_le (length (joined q)) 1024 && list_all is_name q) (le-leb (length q) 64 fewer)
    ∙ ap (λ t. t && list_all is_name q) (le-leb (length (joined q)) 1024 shorter) ∙ d

-- a path that is below another is that one and then the names behind it
pub below-some : (p q names : List (List ℕ)) → ◌≡◌ {A = Option (List (List ℕ))} (Some names) (rest_below p q) → q ≡ p ++ names
below-some p q names = by (is_prefix p q) refl
  where
    by : (b : Bool) → is_prefix p q ≡ b → ◌≡◌ {A = Option (List (List ℕ))} (Some names) (cond b (Some (drop (length p) q)) None) → q ≡ p ++ names
    by true k e = (is_prefix-Decides p q).0 k ∙ ap (λ r. p ++ r) (sym (same_Some names (drop (length p) q) e))
    by false k e = absurd (none-some names (sym e))

-- no rel leads to a path that isn't below
pub below-none : (p q rel : List (List ℕ)) → ◌≡◌ {A = Option (List (List ℕ))} None (rest_below p q) → same_names q (p ++ rel) ≡ false
below-none p q rel e = by (same_names q (p ++ rel)) refl
  where
    by : (b : Bool) → same_names q (p ++ rel) ≡ b → b ≡ false
    by true k =
        let h : is_prefix p q ≡ true = (is_prefix-Decides p q).1 rel ((same_names-Decides q (p ++ rel)).0 k) in
        absurd (none-some (drop (length p) q) (e ∙ ap (λ b. cond b (Some (drop (length p) q)) None) h))
    by false k = refl

-- the next entry that is added, and those that are left, show what was left with it
pub shown_next : {V : Type 0} (show : Node → V) (path p : List (List ℕ)) (kept : Option DiskNode) (left : List Kept) (rel : List (List ℕ)) (old : Option V) → content_of left p ≡ None
    → option_or (shown show path left rel) (cond (same_names p (path ++ rel)) (option_or (option_map show (node_at (Some kept))) old) old)
    ≡ option_or (shown show path (record { path = p; value = kept } ∷ left) rel) old
shown_next {V} show path p kept left rel old none = by (same_names p (path ++ rel)) refl (same_names (path ++ rel) p) (same_names-sym p (path ++ rel))
  where
    by : (b : Bool) → same_names p (path ++ rel) ≡ b → (c : Bool) → same_names p (path ++ rel) ≡ c
        → option_or (shown show path left rel) (cond (same_names p (path ++ rel)) (option_or (option_map show (node_at (Some kept))) old) old)
        ≡ option_or (option_map show (node_at (option_map value_of (cond c (Some (record { path = p; value = kept })) (find (is_entry_at (path ++ rel)) left))))) old
    by true e true f =
        ap (λ b. option_or (shown show path left rel) (cond b (option_or (option_map show (node_at (Some kept))) old) old)) e
        ∙ ap (λ o. option_or (option_map show o) (option_or (option_map show (node_at (Some kept))) old)) (ap (content_of left) (sym (same_names-eq p (path ++ rel) e)) ∙ none)
    by true e false f = absurd (true≢false (sym e ∙ f))
    by false e true f = absurd (true≢false (sym f ∙ e))
    by false e false f = ap (λ b. option_or (shown show path left rel) (cond b (option_or (option_map show (node_at (Some kept))) old) old)) e

-- what is found among nodes that were made of pairs is what the pairs have
found_in : {V N : Type 0} (make : List (List ℕ) × V → N) (test : N → Bool) (view : N → V) (rel : List (List ℕ))
    → ((pair : List (List ℕ) × V) → test (make pair) ≡ same_names pair.0 rel) → ((pair : List (List ℕ) × V) → view (make pair) ≡ pair.1)
    → (pairs : List (List (List ℕ) × V)) → option_map view (find test (map make pairs)) ≡ lookup (is_at_key (path_cmp rel)) pairs
found_in make test view rel here told [] = refl
found_in {V} {N} make test view rel here told (pair ∷ pairs) =
    by (test (make pair)) (is_at_key (path_cmp rel) pair.0) (here pair ∙ same_names-sym pair.0 rel ∙ same_names_ties rel pair.0) (found_in make test view rel here told pairs)
  where
    by : (a b : Bool) → a ≡ b → option_map view (find test (map make pairs)) ≡ lookup (is_at_key (path_cmp rel)) pairs
        → option_map view (cond a (Some (make pair)) (find test (map make pairs))) ≡ cond b (Some pair.1) (lookup (is_at_key (path_cmp rel)) pairs)
    by true true e h = ap Some (told pair)
    by true false e h = absurd (true≢false e)
    by false true e h = absurd (true≢false (sym e))
    by false false e h = h

-- what a list of nodes has at a rel
pub what_at-flats : (pairs : List (List (List ℕ) × What)) (rel : List (List ℕ)) → what_at (flats_of pairs) rel ≡ lookup (is_at_key (path_cmp rel)) pairs
what_at-flats pairs rel = found_in flat_from (is_at rel) what_of rel (λ pair. refl) (λ pair. refl) pairs

-- the same of forms
pub form_at-seen : (pairs : List (List (List ℕ) × Form)) (rel : List (List ℕ)) → form_at (seen_of pairs) rel ≡ lookup (is_at_key (path_cmp rel)) pairs
form_at-seen pairs rel = found_in seen_from (is_seen_at rel) form_seen rel (λ pair. refl) (λ pair. refl) pairs

-- the rels of forms are those of their pairs
rels_of-seen : (pairs : List (List (List ℕ) × Form)) → map rel_seen (seen_of pairs) ≡ keys_of pairs
rels_of-seen [] = refl
rels_of-seen (pair ∷ pairs) = ap (λ rels. pair.0 ∷ rels) (rels_of-seen pairs)

-- the forms of a map are in order
pub in_order-seen : (pairs : List (List (List ℕ) × Form)) → IsStrictlySortedBy path_cmp (keys_of pairs) → IsInOrder (seen_of pairs)
in_order-seen pairs s = subst (IsStrictlySortedBy path_cmp) (sym (rels_of-seen pairs)) s

-- a map that has what is shown of some entries has their nodes
pub has_nodes-seen : (path : List (List ℕ)) (entries : List Kept) (pairs : List (List (List ℕ) × Form))
    → ((rel : List (List ℕ)) → lookup (is_at_key (path_cmp rel)) pairs ≡ shown form_of path entries rel) → HasNodes (below path (content_of entries)) (seen_of pairs)
has_nodes-seen path entries pairs has rel = sym (form_at-seen pairs rel ∙ has rel)

-- in a list in order a node is what is found at its rel
form_at-own : (nodes : List Seen) → IsInOrder nodes → (node : Seen) → Contains nodes node → form_at nodes node.rel ≡ Some node.what
unfolding IsStrictlySortedBy
form_at-own [] s node among = absurd (none_contained node among)
form_at-own (x ∷ xs) s node among =
    elim (contains_cases x xs node among) [
      | inl here ↦ ap (λ b. option_map form_seen (cond b (Some x) (find (is_seen_at node.rel) xs))) (ap (λ n. same_names n.rel node.rel) here ∙ same_names-refl node.rel) ∙ ap (λ n. Some n.what) here
      | inr later ↦
          ap (λ b. option_map form_seen (cond b (Some x) (find (is_seen_at node.rel) xs))) (less_differs x.rel node.rel (less_than_each x.rel xs node s.0 later))
          ∙ form_at-own xs s.1 node later
    ]
  where
    less_than_each : (rel : List (List ℕ)) (ys : List Seen) (n : Seen) → AllByRecursion (λ r. path_cmp rel r ≡ Less) (map rel_seen ys) → Contains ys n → path_cmp rel n.rel ≡ Less
    less_than_each rel [] n all e = absurd (none_contained n e)
    less_than_each rel (y ∷ ys) n all e =
        elim (contains_cases y ys n e) [
          | inl here ↦ ap (λ m. path_cmp rel m.rel) (sym here) ∙ all.0
          | inr later ↦ less_than_each rel ys n all.1 later
        ]

-- so a list of a part's nodes has no strange one
all_plain : (part : Part) (nodes : List Seen) → IsInOrder nodes → HasNodes part nodes → list_all is_plain nodes ≡ true
all_plain part nodes s has = all_pass is_plain nodes (λ node among. by node.what (part node.rel) (has node.rel ∙ form_at-own nodes s node among))
  where
    plain : (n : Node) → is_plain_form (form_of n) ≡ true
    plain folder = refl
    plain (file bytes exec) = refl
    plain (link target) = refl

    by : (what : Form) (o : Option Node) → option_map form_of o ≡ Some what → is_plain_form what ≡ true
    by what None e = absurd (none-some what e)
    by what (Some n) e = ap is_plain_form (sym (same_Some (form_of n) what e)) ∙ plain n

-- so that list is what a region answers
pub lists-seen : (path : List (List ℕ)) (entries : List Kept) (pairs : List (List (List ℕ) × Form)) (nodes : List Seen) → nodes ≡ seen_of pairs → IsStrictlySortedBy path_cmp (keys_of pairs)
    → length pairs ≤ most_nodes → ((rel : List (List ℕ)) → lookup (is_at_key (path_cmp rel)) pairs ≡ shown form_of path entries rel)
    → IsInOrder nodes × (length nodes ≤ most_nodes) × HasTold (Some (below path (content_of entries))) nodes
lists-seen path entries pairs nodes e s few has =
    subst (λ nodes. IsInOrder nodes × (length nodes ≤ most_nodes) × HasTold (Some (below path (content_of entries))) nodes) (sym e) (
      in_order-seen pairs s,
      omega (arith, length-map pairs seen_from),
      (has_nodes-seen path entries pairs has, all_plain (below path (content_of entries)) (seen_of pairs) (in_order-seen pairs s) (has_nodes-seen path entries pairs has)),
    )

-- a longer list is why it answers that there are too many
pub many-seen : (path : List (List ℕ)) (entries : List Kept) (pairs : List (List (List ℕ) × Form)) → IsStrictlySortedBy path_cmp (keys_of pairs)
    → most_nodes < length pairs → ((rel : List (List ℕ)) → lookup (is_at_key (path_cmp rel)) pairs ≡ shown form_of path entries rel)
    → HasMany (Some (below path (content_of entries)))
many-seen path entries pairs s many has = (seen_of pairs, in_order-seen pairs s, has_nodes-seen path entries pairs has, omega (arith, length-map pairs seen_from))

-- the rels of a map ascend
pub ascends-flats : (pairs : List (List (List ℕ) × What)) → IsStrictlySortedBy path_cmp (keys_of pairs) → ascends (flats_of pairs) ≡ true
unfolding IsStrictlySortedBy
ascends-flats [] s = refl
ascends-flats (pair ∷ []) s = refl
ascends-flats (pair ∷ next ∷ pairs) s =
    let rest = ascends-flats (next ∷ pairs) s.1 in
    let heads = and_parts (list_all (is_after next.0) (flats_of pairs)) (ascends (flats_of pairs)) rest in
    and_from (list_all (is_after pair.0) (flats_of (next ∷ pairs))) (ascends (flats_of (next ∷ pairs)))
    (after_head pair.0 (flat_from next) (flats_of pairs) (ap is_lt s.0.0) heads.0)
    rest

-- an answer, or else nothing, is the answer
pub option_or-none : {X : Type 0} (a : Option X) → option_or a None ≡ a
option_or-none None = refl
option_or-none (Some x) = refl

-- nothing is added either way
pub cond_same : {X : Type 0} (b : Bool) (x : X) → x ≡ cond b x x
cond_same true x = refl
cond_same false x = refl

-- what holds in any case holds of something
pub on_some : {X : Type 0} (o : Option X) (P : Type 0) → P → OnSome o P
on_some None P fact = tt
on_some (Some x) P fact = fact

-- what follows where an answer is Ok
pub IfOk-then : {T E : Type 0} (r : Result T E) (P Q : T → Type 0) → IfOk r P → ((x : T) → P x → Q x) → IfOk r Q
IfOk-then (Ok x) P Q p f = f x p
IfOk-then (Err e) P Q p f = tt
