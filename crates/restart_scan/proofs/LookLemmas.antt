-- A part that was listed and read has a tree just where its nodes are alike the tree's, and its files have their bytes.
use Rattle.std.proofs.Common.{◌≡◌, ◌≤◌, ◌<◌, ◌+◌, ◌==◌, ◌&&◌, ℕ, Bool, true, false, cond, List, [], ◌∷◌, length, map, drop, get_or, ◌≢◌, ◌++◌, Result, Ok, Err, IfOk, Option, Some, None, refl, suc, sym, ap, ap₂, subst, ◌∙◌, arith, rules, Less}
use Rattle.std.proofs.lemmas.Bool.{and_parts, and_from, false_from_ne_true}
use Rattle.std.proofs.lemmas.List.{drop_all, drop_more}
use Rattle.std.proofs.lemmas.Option.{same_Some, none-some}
use Rattle.std.specs.List.{AllByRecursion, find, list_all}
use Rattle.std.specs.List.Sorted.{IsStrictlySortedBy}
use Rattle.std.specs.Option.{ForSome, option_map}
use Rattle.std.specs.Ordering.{is_lt, ordering_reverse}
use Rattle.std.specs.declared.cmp.Ordering.{Ordering}
use Rattle.std.specs.declared.cmp.Ordering.TheVariants as ordering
use mathlib.Core.Bool.{true≢false}
use Rattle.mat_digest.specs.Digests.{digest_of}
use Rattle.mat_digest.specs.declared.digest.Digest.{Digest}
use Rattle.mat_path.specs.Names.{is_prefix, path_cmp, same_name, same_names}
use Rattle.mat_path.proofs.PathLemmas.{prefix_split, lt_less, path_cmp_equal, path_cmp_total, path_cmp-refl}
use Rattle.mat_path.proofs.SameNames.{same_name-eq, same_name-refl, same_names-eq, same_names-refl}
use Rattle.mat_tree.specs.Parts.{HasTree, Node, Part, below, without, declared_by, file, folder, link}
use Rattle.mat_tree.specs.Trees.{IsTree, ascends, is_after, is_at, same_bool, same_digest, what_at, what_of}
use Rattle.mat_tree.specs.declared.flat.Flat.{Flat}
use Rattle.mat_tree.specs.declared.flat.What.{What}
use Rattle.mat_tree.specs.declared.flat.What.TheVariants as what
use Rattle.region_port.specs.Calls.{with_inner}
use Rattle.region_port.specs.Listing.{HasMany, HasNodes, IsInOrder, form_at, form_of, form_seen, is_seen_at, rel_seen}
use Rattle.region_port.specs.declared.listed.Form.{Form}
use Rattle.region_port.specs.declared.listed.Seen.{Seen}
use Rattle.restart_scan.specs.declared.refusal.ScanRefusal.{ScanRefusal}
use Rattle.restart_scan.specs.Looks.{HasStill, Shows, TellsTree, are_alike, is_alike, is_alike_form, is_right, is_right_for}

-- what a tree and a list have at a rel are alike: nothing, or a node and its form
abbrev pub agrees : Option What → Option Form → Bool
agrees None None = true
agrees None (Some shown) = false
agrees (Some declared) None = false
agrees (Some declared) (Some shown) = is_alike_form declared shown

-- ---- alike at each rel

-- what nodes that are alike one by one have at a rel is alike
pub alike_at : (tree : List Flat) (nodes : List Seen) → are_alike tree nodes ≡ true → (rel : List (List ℕ)) → agrees (what_at tree rel) (form_at nodes rel) ≡ true
alike_at [] [] h rel = refl
alike_at [] (n ∷ ns) h rel = absurd cc
alike_at (t ∷ ts) [] h rel = absurd cc
alike_at (t ∷ ts) (n ∷ ns) h rel =
    let parts = and_parts (is_alike t n) (are_alike ts ns) h in
    let here = and_parts (same_names t.rel n.rel) (is_alike_form t.what n.what) parts.0 in
    by (same_names t.rel rel) (same_names n.rel rel) (ap (λ (p : List (List ℕ)). same_names p rel) (same_names-eq t.rel n.rel here.0)) here.1
    (alike_at ts ns parts.1 rel)
  where
    by : (a b : Bool) → a ≡ b → is_alike_form t.what n.what ≡ true → agrees (what_at ts rel) (form_at ns rel) ≡ true →
        agrees (option_map what_of (cond a (Some t) (find (is_at rel) ts))) (option_map form_seen (cond b (Some n) (find (is_seen_at rel) ns))) ≡ true
    by true true e head tail = head
    by true false e head tail = absurd (true≢false e)
    by false true e head tail = absurd (true≢false (sym e))
    by false false e head tail = tail

-- a lesser rel is another one
less_differs : (p q : List (List ℕ)) → path_cmp p q ≡ ordering.Less → same_names q p ≡ false
less_differs p q less =
    false_from_ne_true (same_names q p) (λ h.
    let e : path_cmp p p ≡ ordering.Less = subst (λ (x : List (List ℕ)). path_cmp p x ≡ ordering.Less) (same_names-eq q p h) less in
    equal_less (sym (path_cmp-refl p) ∙ e))
  where
    equal_less : ◌≡◌ {A = Ordering} ordering.Equal ordering.Less → ⊥
    equal_less e = cc

-- nodes behind a rel have nothing there
what_none : (p : List (List ℕ)) (ts : List Flat) → list_all (is_after p) ts ≡ true → what_at ts p ≡ None
what_none p [] h = refl
what_none p (t ∷ ts) h =
    let parts = and_parts (is_after p t) (list_all (is_after p) ts) h in
    ap (λ (b : Bool). option_map what_of (cond b (Some t) (find (is_at p) ts))) (less_differs p t.rel (lt_less (path_cmp p t.rel) parts.0))
    ∙ what_none p ts parts.1

form_none : (p : List (List ℕ)) (ns : List Seen) → AllByRecursion (λ q. path_cmp p q ≡ ordering.Less) (map rel_seen ns) → form_at ns p ≡ None
form_none p [] h = refl
form_none p (n ∷ ns) h =
    ap (λ (b : Bool). option_map form_seen (cond b (Some n) (find (is_seen_at p) ns))) (less_differs p n.rel h.0) ∙ form_none p ns h.1

-- those behind a rel are behind each lesser one
after_lesser : (p q : List (List ℕ)) (ts : List Flat) → path_cmp p q ≡ ordering.Less → list_all (is_after q) ts ≡ true → list_all (is_after p) ts ≡ true
after_lesser p q [] less h = refl
after_lesser p q (t ∷ ts) less h =
    let parts = and_parts (is_after q t) (list_all (is_after q) ts) h in
    and_from (is_after p t) (list_all (is_after p) ts)
    (ap is_lt (path_cmp_total.trans p q t.rel less (lt_less (path_cmp q t.rel) parts.0))) (after_lesser p q ts less parts.1)

seen_lesser : (p q : List (List ℕ)) (ns : List Seen) → path_cmp p q ≡ ordering.Less → AllByRecursion (λ r. path_cmp q r ≡ ordering.Less) (map rel_seen ns) →
    AllByRecursion (λ r. path_cmp p r ≡ ordering.Less) (map rel_seen ns)
seen_lesser p q [] less h = h
seen_lesser p q (n ∷ ns) less h = (path_cmp_total.trans p q n.rel less h.0, seen_lesser p q ns less h.1)

-- a first node has what it is at its rel
what_first : (t : Flat) (ts : List Flat) → what_at (t ∷ ts) t.rel ≡ Some t.what
what_first t ts = ap (λ (b : Bool). option_map what_of (cond b (Some t) (find (is_at t.rel) ts))) (same_names-refl t.rel)

form_first : (n : Seen) (ns : List Seen) → form_at (n ∷ ns) n.rel ≡ Some n.what
form_first n ns = ap (λ (b : Bool). option_map form_seen (cond b (Some n) (find (is_seen_at n.rel) ns))) (same_names-refl n.rel)

-- nothing agrees with a node
not_none : (declared : What) → agrees (Some declared) None ≡ true → ⊥
not_none declared h = true≢false (sym h)

not_some : (shown : Form) → agrees None (Some shown) ≡ true → ⊥
not_some shown h = true≢false (sym h)

abbrev Agree : List Flat → List Seen → Type 0
Agree tree nodes = (rel : List (List ℕ)) → agrees (what_at tree rel) (form_at nodes rel) ≡ true

-- the first rels of lists that agree at each rel are the same
first_same : (t : Flat) (ts : List Flat) (n : Seen) (ns : List Seen) → list_all (is_after t.rel) ts ≡ true →
    AllByRecursion (λ r. path_cmp n.rel r ≡ ordering.Less) (map rel_seen ns) → Agree (t ∷ ts) (n ∷ ns) → t.rel ≡ n.rel
first_same t ts n ns up sorted each = by (path_cmp t.rel n.rel) refl
  where
    by : (o : Ordering) → path_cmp t.rel n.rel ≡ o → t.rel ≡ n.rel
    by ordering.Less e =
        let none : form_at (n ∷ ns) t.rel ≡ None = form_none t.rel (n ∷ ns) (e, seen_lesser t.rel n.rel ns e sorted) in
        absurd (not_none t.what (sym (ap₂ agrees (what_first t ts) none) ∙ each t.rel))
    by ordering.Equal e = path_cmp_equal t.rel n.rel e
    by ordering.Greater e =
        let less : path_cmp n.rel t.rel ≡ ordering.Less = path_cmp_total.antisymm n.rel t.rel ∙ ap ordering_reverse e in
        let none : what_at (t ∷ ts) n.rel ≡ None =
        what_none n.rel (t ∷ ts) (and_from (is_after n.rel t) (list_all (is_after n.rel) ts) (ap is_lt less) (after_lesser n.rel t.rel ts less up)) in
        absurd (not_some n.what (sym (ap₂ agrees none (form_first n ns)) ∙ each n.rel))

-- what agrees at each rel and has the same first rel agrees behind it
agree_behind : (t : Flat) (ts : List Flat) (n : Seen) (ns : List Seen) → list_all (is_after t.rel) ts ≡ true →
    AllByRecursion (λ r. path_cmp n.rel r ≡ ordering.Less) (map rel_seen ns) → t.rel ≡ n.rel → Agree (t ∷ ts) (n ∷ ns) → Agree ts ns
agree_behind t ts n ns up sorted same each rel =
    by (same_names t.rel rel) (same_names n.rel rel) refl (ap (λ (p : List (List ℕ)). same_names p rel) same) (each rel)
  where
    by : (a b : Bool) → same_names t.rel rel ≡ a → a ≡ b →
        agrees (option_map what_of (cond a (Some t) (find (is_at rel) ts))) (option_map form_seen (cond b (Some n) (find (is_seen_at rel) ns))) ≡ true →
        agrees (what_at ts rel) (form_at ns rel) ≡ true
    by true b here e h =
        let at : t.rel ≡ rel = same_names-eq t.rel rel here in
        ap₂ agrees (subst (λ (p : List (List ℕ)). what_at ts p ≡ None) at (what_none t.rel ts up))
        (subst (λ (p : List (List ℕ)). form_at ns p ≡ None) (sym same ∙ at) (form_none n.rel ns sorted))
    by false true here e h = absurd (true≢false (sym e))
    by false false here e h = h

-- lists in order that are alike at each rel are alike one by one
pub alike_from : (tree : List Flat) (nodes : List Seen) → ascends tree ≡ true → IsInOrder nodes → Agree tree nodes → are_alike tree nodes ≡ true
unfolding IsStrictlySortedBy
alike_from [] [] up sorted each = refl
alike_from [] (n ∷ ns) up sorted each = absurd (not_some n.what (sym (ap (agrees None) (form_first n ns)) ∙ each n.rel))
alike_from (t ∷ ts) [] up sorted each = absurd (not_none t.what (sym (ap (λ (w : Option What). agrees w None) (what_first t ts)) ∙ each t.rel))
alike_from (t ∷ ts) (n ∷ ns) up sorted each =
    let order = and_parts (list_all (is_after t.rel) ts) (ascends ts) up in
    let same = first_same t ts n ns order.0 sorted.0 each in
    let first : is_alike_form t.what n.what ≡ true =
    sym (ap₂ agrees (what_first t ts) (subst (λ (p : List (List ℕ)). form_at (n ∷ ns) p ≡ Some n.what) (sym same) (form_first n ns))) ∙ each t.rel in
    and_from (is_alike t n) (are_alike ts ns)
    (and_from (same_names t.rel n.rel) (is_alike_form t.what n.what)
    (subst (λ (p : List (List ℕ)). same_names t.rel p ≡ true) same (same_names-refl t.rel)) first)
    (alike_from ts ns order.1 sorted.1 (agree_behind t ts n ns order.0 sorted.0 same each))

-- ---- a tree

same_bool-refl : (b : Bool) → same_bool b b ≡ true
same_bool-refl true = refl
same_bool-refl false = refl

same_bool-eq : (a b : Bool) → same_bool a b ≡ true → a ≡ b
same_bool-eq true b h = sym h
same_bool-eq false true h = absurd (true≢false (sym h))
same_bool-eq false false h = refl

same_number : (n : ℕ) → (n == n) ≡ true
same_number n = search rules

-- a node is alike what declares it
form_alike : (node : Node) → is_alike_form (declared_by node) (form_of node) ≡ true
unfolding digest_of
form_alike folder = refl
form_alike (file bytes exec) = and_from (same_bool exec exec) (length bytes == length bytes) (same_bool-refl exec) (same_number (length bytes))
form_alike (link target) = same_name-refl target

both_alike : (there : Option Node) → agrees (option_map declared_by there) (option_map form_of there) ≡ true
both_alike None = refl
both_alike (Some node) = form_alike node

-- a part with a tree, and its nodes, agree at each rel
pub tree_agrees : (part : Part) (tree : List Flat) (nodes : List Seen) → HasTree part tree → HasNodes part nodes → Agree tree nodes
tree_agrees part tree nodes has listed rel = sym (ap₂ agrees (has rel) (listed rel)) ∙ both_alike (part rel)

-- the digest of a file's bytes is the same as itself
same_digest-refl : (bytes : List ℕ) → same_digest (digest_of bytes) (digest_of bytes) ≡ true
same_digest-refl bytes =
    and_from (same_name (digest_of bytes).hash (digest_of bytes).hash) ((digest_of bytes).size == (digest_of bytes).size)
    (same_name-refl (digest_of bytes).hash) (same_number (digest_of bytes).size)

right_node : (node : Node) → is_right_for (Some node) (declared_by node) ≡ true
right_node folder = refl
right_node (file bytes exec) = same_digest-refl bytes
right_node (link target) = refl

-- what stands where a tree has a node is right for it
right_here : (there : Option Node) (declared : What) → option_map declared_by there ≡ Some declared → is_right_for there declared ≡ true
right_here None declared h = absurd (none-some declared h)
right_here (Some node) declared h =
    subst (λ (w : What). is_right_for (Some node) w ≡ true) (same_Some (declared_by node) declared h) (right_node node)

-- a node behind a first one is behind its rel
what_behind : (p : List (List ℕ)) (ts : List Flat) (rel : List (List ℕ)) (declared : What) → list_all (is_after p) ts ≡ true →
    what_at ts rel ≡ Some declared → same_names p rel ≡ false
what_behind p ts rel declared up h =
    false_from_ne_true (same_names p rel) (λ here.
    none-some declared (sym (subst (λ (q : List (List ℕ)). what_at ts q ≡ None) (same_names-eq p rel here) (what_none p ts up)) ∙ h))

-- of a part that has what a tree has wherever that has a node, all files are right
files_right : (part : Part) (tree : List Flat) → ascends tree ≡ true →
    ((rel : List (List ℕ)) (declared : What) → what_at tree rel ≡ Some declared → option_map declared_by (part rel) ≡ Some declared) →
    list_all (is_right part) tree ≡ true
files_right part [] up has = refl
files_right part (t ∷ ts) up has =
    let order = and_parts (list_all (is_after t.rel) ts) (ascends ts) up in
    and_from (is_right part t) (list_all (is_right part) ts)
    (right_here (part t.rel) t.what (has t.rel t.what (what_first t ts)))
    (files_right part ts order.1 (λ rel declared h.
    has rel declared (ap (λ (b : Bool). option_map what_of (cond b (Some t) (find (is_at rel) ts))) (what_behind t.rel ts rel declared order.0 h) ∙ h)))

pub tree_right : (part : Part) (tree : List Flat) → ascends tree ≡ true → HasTree part tree → list_all (is_right part) tree ≡ true
tree_right part tree up has = files_right part tree up (λ rel declared h. has rel ∙ h)

-- where all files are right, what stands at a rel is right for the node there
right_at : (part : Part) (tree : List Flat) (rel : List (List ℕ)) (declared : What) → list_all (is_right part) tree ≡ true →
    what_at tree rel ≡ Some declared → is_right_for (part rel) declared ≡ true
right_at part [] rel declared all h = absurd (none-some declared h)
right_at part (t ∷ ts) rel declared all h =
    let parts = and_parts (is_right part t) (list_all (is_right part) ts) all in
    by (same_names t.rel rel) refl parts.0 (λ g. right_at part ts rel declared parts.1 g) h
  where
    by : (b : Bool) → same_names t.rel rel ≡ b → is_right part t ≡ true → (what_at ts rel ≡ Some declared → is_right_for (part rel) declared ≡ true) →
        option_map what_of (cond b (Some t) (find (is_at rel) ts)) ≡ Some declared → is_right_for (part rel) declared ≡ true
    by true here first rest g =
        subst (λ (w : What). is_right_for (part rel) w ≡ true) (same_Some t.what declared g)
        (subst (λ (p : List (List ℕ)). is_right_for (part p) t.what ≡ true) (same_names-eq t.rel rel here) first)
    by false here first rest g = rest g

same_digest-eq : (bytes : List ℕ) (digest : Digest) → same_digest (digest_of bytes) digest ≡ true → digest_of bytes ≡ digest
same_digest-eq bytes digest h = search (rules, same_name-eq)

-- a node that is right for what a tree declares there, and alike it, is declared so
declared_so : (node : Node) (declared : What) → is_alike_form declared (form_of node) ≡ true → is_right_for (Some node) declared ≡ true →
    declared_by node ≡ declared
declared_so folder (what.File digest exec) alike right = absurd (true≢false (sym alike))
declared_so folder what.Dir alike right = refl
declared_so folder (what.Link target) alike right = absurd (true≢false (sym alike))
declared_so (file bytes flag) (what.File digest exec) alike right =
    let parts = and_parts (same_bool exec flag) (digest.size == length bytes) alike in
    ap₂ what.File (same_digest-eq bytes digest right) (sym (same_bool-eq exec flag parts.0))
declared_so (file bytes flag) what.Dir alike right = absurd (true≢false (sym alike))
declared_so (file bytes flag) (what.Link target) alike right = absurd (true≢false (sym alike))
declared_so (link other) (what.File digest exec) alike right = absurd (true≢false (sym alike))
declared_so (link other) what.Dir alike right = absurd (true≢false (sym alike))
declared_so (link other) (what.Link target) alike right = ap what.Link (sym (same_name-eq target other alike))

option_so : (there : Option Node) (declared : Option What) → agrees declared (option_map form_of there) ≡ true →
    ((w : What) → declared ≡ Some w → is_right_for there w ≡ true) → option_map declared_by there ≡ declared
option_so None None alike right = refl
option_so None (Some w) alike right = absurd (true≢false (sym alike))
option_so (Some node) None alike right = absurd (true≢false (sym alike))
option_so (Some node) (Some w) alike right = ap Some (declared_so node w alike (right w refl))

-- a part whose nodes agree with a tree, and whose files are right, has the tree
pub tree_from : (part : Part) (tree : List Flat) (nodes : List Seen) → HasNodes part nodes → Agree tree nodes → list_all (is_right part) tree ≡ true →
    HasTree part tree
tree_from part tree nodes listed each right rel =
    option_so (part rel) (what_at tree rel) (ap (agrees (what_at tree rel)) (listed rel) ∙ each rel) (λ w h. right_at part tree rel w right h)

-- ---- what a look tells

alike_length : (tree : List Flat) (nodes : List Seen) → are_alike tree nodes ≡ true → length nodes ≡ length tree
alike_length [] [] h = refl
alike_length [] (n ∷ ns) h = absurd cc
alike_length (t ∷ ts) [] h = absurd cc
alike_length (t ∷ ts) (n ∷ ns) h = ap suc (alike_length ts ns (and_parts (is_alike t n) (are_alike ts ns) h).1)

-- a part with too many nodes for a list hasn't the tree
pub many_tells : (part : Option Part) (tree : List Flat) → IsTree tree → HasMany part → TellsTree part tree false
many_tells None tree whole many = tt
many_tells (Some part) tree whole (nodes, sorted, listed, above) = λ has.
    absurd (omega (
      arith,
      alike_length tree nodes (alike_from tree nodes whole.order sorted (tree_agrees part tree nodes has listed)),
      whole.few,
      above,
    ))

-- one whose nodes aren't alike the tree's hasn't it
pub unlike_tells : (part : Option Part) (tree : List Flat) (nodes : List Seen) → IsTree tree → Shows part (Some nodes) → are_alike tree nodes ≡ false →
    TellsTree part tree false
unlike_tells None tree nodes whole shows unlike = tt
unlike_tells (Some part) tree nodes whole shows unlike = λ has.
    true≢false (sym (alike_from tree nodes whole.order shows.0 (tree_agrees part tree nodes has shows.1.0)) ∙ unlike)

-- and one whose nodes are has it just where its files are right
pub files_tell : (part : Option Part) (tree : List Flat) (nodes : List Seen) (has : Bool) → IsTree tree → Shows part (Some nodes) →
    are_alike tree nodes ≡ true → ForSome part (λ (told : Part). has ≡ list_all (is_right told) tree) → TellsTree part tree has
files_tell None tree nodes has whole shows alike files = tt
files_tell (Some part) tree nodes true whole shows alike files =
    tree_from part tree nodes shows.1.0 (alike_at tree nodes alike) (sym (files part refl))
files_tell (Some part) tree nodes false whole shows alike files =
    λ has. true≢false (sym (tree_right part tree whole.order has) ∙ sym (files part refl))

-- ---- one node more

pub alike_step : (nodes : List Flat) (seen : List Seen) (k : ℕ) (node : Flat) (shown : Seen) → k < length nodes → k < length seen →
    node ≡ get_or nodes k node → shown ≡ get_or seen k shown →
    are_alike (drop k nodes) (drop k seen) ≡ (is_alike node shown && are_alike (drop (k + 1) nodes) (drop (k + 1) seen))
alike_step nodes seen k node shown within inside here there =
    ap₂ are_alike (drop_more nodes k node within ∙ ap (λ (n : Flat). n ∷ drop (k + 1) nodes) (sym here))
    (drop_more seen k shown inside ∙ ap (λ (n : Seen). n ∷ drop (k + 1) seen) (sym there))

-- the nodes left are alike, if this one is
pub alike_goes_on : (nodes : List Flat) (seen : List Seen) (k : ℕ) (node : Flat) (shown : Seen) → k < length nodes → k < length seen →
    node ≡ get_or nodes k node → shown ≡ get_or seen k shown → is_alike node shown ≡ true →
    are_alike (drop k nodes) (drop k seen) ≡ are_alike nodes seen → are_alike (drop (k + 1) nodes) (drop (k + 1) seen) ≡ are_alike nodes seen
alike_goes_on nodes seen k node shown within inside here there test left =
    sym (ap (λ (b : Bool). b && are_alike (drop (k + 1) nodes) (drop (k + 1) seen)) test)
    ∙ sym (alike_step nodes seen k node shown within inside here there) ∙ left

-- lists aren't alike, if this one isn't
pub alike_ends : (nodes : List Flat) (seen : List Seen) (k : ℕ) (node : Flat) (shown : Seen) → k < length nodes → k < length seen →
    node ≡ get_or nodes k node → shown ≡ get_or seen k shown → is_alike node shown ≡ false →
    are_alike (drop k nodes) (drop k seen) ≡ are_alike nodes seen → false ≡ are_alike nodes seen
alike_ends nodes seen k node shown within inside here there test left =
    sym (ap (λ (b : Bool). b && are_alike (drop (k + 1) nodes) (drop (k + 1) seen)) test)
    ∙ sym (alike_step nodes seen k node shown within inside here there) ∙ left

-- lists of which none is left are alike
pub alike_done : (nodes : List Flat) (seen : List Seen) (k : ℕ) → length nodes ≤ k → length nodes ≡ length seen →
    are_alike (drop k nodes) (drop k seen) ≡ are_alike nodes seen → true ≡ are_alike nodes seen
alike_done nodes seen k all same left =
    sym (ap₂ are_alike (drop_all k nodes all) (drop_all k seen (subst (λ (n : ℕ). n ≤ k) same all))) ∙ left

-- lists of two lengths aren't alike
pub unlike_lengths : (nodes : List Flat) (seen : List Seen) → (length nodes ≢ length seen) → false ≡ are_alike nodes seen
unlike_lengths nodes seen differ = by (are_alike nodes seen) refl
  where
    by : (b : Bool) → are_alike nodes seen ≡ b → false ≡ b
    by true h = absurd (differ (sym (alike_length nodes seen h)))
    by false h = refl

-- ---- what a region showed

-- a part that couldn't be listed hasn't the tree
pub none_shown : (now start : Option Part) (tree : List Flat) (shown : Option (List Seen)) → now ≡ start → IsTree tree → Shows now shown → shown ≡ None →
    TellsTree start tree false
none_shown now start tree shown same whole shows none =
    many_tells start tree whole (subst (λ (s : Option (List Seen)). Shows start s) none (subst (λ (p : Option Part). Shows p shown) same shows))

shows_these : (now start : Option Part) (shown : Option (List Seen)) (nodes : List Seen) → now ≡ start → Shows now shown → shown ≡ Some nodes →
    Shows start (Some nodes)
shows_these now start shown nodes same shows these =
    subst (λ (s : Option (List Seen)). Shows start s) these (subst (λ (p : Option Part). Shows p shown) same shows)

-- one that was listed otherwise hasn't it
pub unlike_shown : (now start : Option Part) (tree : List Flat) (shown : Option (List Seen)) (nodes : List Seen) → now ≡ start → IsTree tree →
    Shows now shown → shown ≡ Some nodes → are_alike tree nodes ≡ false → TellsTree start tree false
unlike_shown now start tree shown nodes same whole shows these unlike =
    unlike_tells start tree nodes whole (shows_these now start shown nodes same shows these) unlike

-- one that was listed alike has it where its files are right
pub files_shown : (now start read : Option Part) (tree : List Flat) (shown : Option (List Seen)) (nodes : List Seen) (result : Result Bool ScanRefusal) →
    now ≡ start → read ≡ start → IsTree tree → Shows now shown → shown ≡ Some nodes → are_alike tree nodes ≡ true →
    IfOk result (λ has. ForSome read (λ (told : Part). has ≡ list_all (is_right told) tree)) → IfOk result (λ has. TellsTree start tree has)
files_shown now start read tree shown nodes (Ok has) same again whole shows these alike files =
    files_tell start tree nodes has whole (shows_these now start shown nodes same shows these) alike
    (subst (λ (p : Option Part). ForSome p (λ (told : Part). has ≡ list_all (is_right told) tree)) again files)
files_shown now start read tree shown nodes (Err why) same again whole shows these alike files = tt

-- ---- a part that comes back

-- a part that is taken and given back as it was is there still
pub still_there : (path place : List (List ℕ)) (old taken now part : Option Part) → place ≡ path → part ≡ option_map (below path) old →
    taken ≡ option_map (without path) old → now ≡ with_inner place part taken → HasStill old now
still_there path place old taken now part at is gone back =
    subst (λ (c : Option Part). HasStill old c) (sym whole) (by old)
  where
    whole : now ≡ with_inner path (option_map (below path) old) (option_map (without path) old)
    whole =
        back ∙ ap (λ (p : List (List ℕ)). with_inner p part taken) at ∙ ap (λ (p : Option Part). with_inner path p taken) is
        ∙ ap (with_inner path (option_map (below path) old)) gone

    split : (content : Part) (p : List (List ℕ)) (b : Bool) → is_prefix path p ≡ b →
        cond b (content (path ++ drop (length path) p)) (cond b None (content p)) ≡ content p
    split content p true h = ap content (sym (prefix_split path p h))
    split content p false h = refl

    by : (c : Option Part) → HasStill c (with_inner path (option_map (below path) c) (option_map (without path) c))
    by None = refl
    by (Some content) = λ p. split content p (is_prefix path p) refl
