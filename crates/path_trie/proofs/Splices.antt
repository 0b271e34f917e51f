-- Lists with what others have at and below some names, and the nodes that exchanged it.
use Rattle.std.proofs.Common.{◌≡◌, ◌<◌, ◌≤◌, ◌+◌, ℕ, suc, Bool, true, false, not, cond, ◌&&◌, List, [], ◌∷◌, ◌++◌, map, length, take, drop, get_or, set, append-nil, append_assoc, refl, ◌∙◌, sym, ap, arith}
use Rattle.std.proofs.lemmas.List.{length-map, map-append}
use Rattle.std.specs.List.{filter, list_all}
use Rattle.std.specs.Ordering.{is_lt}
use Rattle.std.specs.declared.option.Option.{Option}
use Rattle.std.specs.declared.option.Option.TheVariants.{Some, None}
use Rattle.mat_path.specs.Names.{path_cmp}
use Rattle.path_trie.specs.declared.entry.Entry.{Entry}
use Rattle.path_trie.specs.declared.node.Node.{Node, out-Node}
use Rattle.path_trie.specs.declared.node.Edge.{Edge, out-Edge}
use Rattle.path_trie.specs.declared.node.Edge.TheOpen as layer
use Rattle.path_trie.specs.declared.node.Edge.TheViews.{roll-Node}
use Rattle.path_trie.specs.Entries.{is_before, is_behind, is_past, is_under, spliced}
use Rattle.path_trie.specs.Nodes.{own, put_in, has_some, are_well, below_node, below_all, comes_before, comes_behind, edge_name}
use Rattle.path_trie.proofs.Told.{below_node_out}
use Rattle.path_trie.proofs.Around.{test_around}
use Rattle.path_trie.proofs.Below.{before_is, before_not, before_same, behind_is, behind_not, behind_same}
use Rattle.path_trie.proofs.Changed.{changed}
use Rattle.path_trie.proofs.Halves.{back_is, before_other, behind_other, front_is}
use Rattle.path_trie.proofs.Kept.{around, in_order, list_rolled, name_is}
use Rattle.path_trie.proofs.Seeks.{under_other, under_past, under_same}
use Rattle.path_trie.proofs.WalkLemmas.{test_found, test_none}

-- ---- lists that a test keeps or leaves out

pub filter_none : {X : Type 0} (p : X → Bool) → ((x : X) → p x ≡ false) → (xs : List X) → filter p xs ≡ []
filter_none p f [] = refl
filter_none p f (x ∷ xs) = ap (λ b. cond b (x ∷ filter p xs) (filter p xs)) (f x) ∙ filter_none p f xs

pub filter_every : {X : Type 0} (p : X → Bool) → ((x : X) → p x ≡ true) → (xs : List X) → filter p xs ≡ xs
filter_every p f [] = refl
filter_every p f (x ∷ xs) = ap (λ b. cond b (x ∷ filter p xs) (filter p xs)) (f x) ∙ ap (λ t. x ∷ t) (filter_every p f xs)

pub filter_few : {X : Type 0} (p : X → Bool) (xs : List X) → length (filter p xs) ≤ length xs
filter_few p [] = omega arith
filter_few p (x ∷ xs) = by (p x) (filter_few p xs)
  where
    by : (b : Bool) → length (filter p xs) ≤ length xs → length (cond b (x ∷ filter p xs) (filter p xs)) ≤ suc (length xs)
    by true h = omega (arith, h)
    by false h = omega (arith, h)

has_more : {X : Type 0} (xs : List X) → 0 < length xs → has_some xs ≡ true
has_more [] h = absurd (omega (arith, h))
has_more (x ∷ xs) h = refl

-- something stands there once more was got than was given
pub has_got : {X : Type 0} (olds news : List X) (given got : ℕ) (p : X → Bool) → given ≡ length (filter p olds) → 0 < got → length news + given ≡ length olds + got
    → has_some news ≡ true
has_got olds news given got p told some e = let few = filter_few p olds in has_more news (omega (arith, few, told, some, e))

-- ---- at a node

none_less : (p : List (List ℕ)) → is_lt (path_cmp p []) ≡ false
none_less [] = refl
none_less (n ∷ p) = refl

pub none_past : {T : Type 0} (x : Entry T) → is_past [] x ≡ false
none_past x = by (is_behind [] x)
  where
    by : (b : Bool) → (b && false) ≡ false
    by true = refl
    by false = refl

pub spliced_all : {T : Type 0} (names : List (List ℕ)) (xs ys : List (Entry T)) → names ≡ [] → xs ≡ spliced names xs ys
spliced_all names xs ys e =
    sym (append-nil xs)
    ∙ sym (ap (λ t. t ++ (filter (is_under []) xs ++ filter (is_past []) ys)) (filter_none (is_before []) (λ y. none_less y.path) ys)
    ∙ ap (λ t. t ++ filter (is_past []) ys) (filter_every (is_under []) (λ y. refl) xs)
    ∙ ap (λ t. xs ++ t) (filter_none (is_past []) none_past ys))
    ∙ ap (λ t. spliced t xs ys) (sym e)

spliced_past : {T : Type 0} (v w : Option T) (name : List ℕ) (more : List (List ℕ)) (xs ys : List (Entry T))
    → own v ++ spliced (name ∷ more) xs ys ≡ spliced (name ∷ more) (own w ++ xs) (own v ++ ys)
spliced_past None None name more xs ys = refl
spliced_past None (Some w) name more xs ys = refl
spliced_past (Some v) None name more xs ys = refl
spliced_past (Some v) (Some w) name more xs ys = refl

pub edges_spliced : {T : Type 0} (n m : Node T) (r : layer.Node-F T (Edge T) (Node T)) (names : List (List ℕ)) (name : List ℕ) (more : List (List ℕ)) → names ≡ name ∷ more
    → r.value ≡ (out-Node T n).value
    → below_all r.edges.items ≡ spliced (name ∷ more) (below_all (out-Node T m).edges.items) (below_all (out-Node T n).edges.items)
    → below_node (roll-Node T r) ≡ spliced names (below_node m) (below_node n)
edges_spliced {T} n m r names name more e v told =
    list_rolled r ∙ ap (λ t. own t ++ below_all r.edges.items) v ∙ ap (λ t. own (out-Node T n).value ++ t) told
    ∙ spliced_past (out-Node T n).value (out-Node T m).value name more (below_all (out-Node T m).edges.items) (below_all (out-Node T n).edges.items)
    ∙ ap (λ t. spliced (name ∷ more) t (own (out-Node T n).value ++ below_all (out-Node T n).edges.items)) (sym (below_node_out m))
    ∙ ap (spliced (name ∷ more) (below_node m)) (sym (below_node_out n))
    ∙ ap (λ t. spliced t (below_node m) (below_node n)) (sym e)

-- how many stand at and below some names, counted among the children
pub edges_under : {T : Type 0} (n : Node T) (names : List (List ℕ)) (name : List ℕ) (more : List (List ℕ)) (k : ℕ) → names ≡ name ∷ more
    → k ≡ length (filter (is_under names) (below_node n)) → k ≡ length (filter (is_under (name ∷ more)) (below_all (out-Node T n).edges.items))
edges_under {T} n names name more k e told =
    told ∙ ap (λ t. length (filter (is_under t) (below_node n))) e ∙ ap (λ t. length (filter (is_under (name ∷ more)) t)) (below_node_out n)
    ∙ ap length (under_past (out-Node T n).value name more (below_all (out-Node T n).edges.items))

-- ---- among children

pub past_is : {T : Type 0} (name : List ℕ) (more : List (List ℕ)) (n : List ℕ) (x : Entry T) → comes_behind name n ≡ true → is_past (name ∷ more) (put_in n x) ≡ true
past_is name more n x h =
    ap (λ b. b && not (is_under (name ∷ more) (put_in n x))) (behind_is name more n x h) ∙ ap not (under_other name more n x (behind_other name n h))

pub past_not : {T : Type 0} (name : List ℕ) (more : List (List ℕ)) (n : List ℕ) (x : Entry T) → comes_before name n ≡ true → is_past (name ∷ more) (put_in n x) ≡ false
past_not name more n x h = ap (λ b. b && not (is_under (name ∷ more) (put_in n x))) (behind_not name more n x h)

pub past_same : {T : Type 0} (name : List ℕ) (more : List (List ℕ)) (x : Entry T) → is_past (name ∷ more) (put_in name x) ≡ is_past more x
past_same name more x =
    ap (λ b. b && not (is_under (name ∷ more) (put_in name x))) (behind_same name more x) ∙ ap (λ b. is_behind more x && not b) (under_same name more x)

joined : {X Y : Type 0} (f : X → Y) (a u b : List X) (p q : List Y)
    → (p ++ (map f a ++ [])) ++ ((map f u ++ []) ++ (map f b ++ q)) ≡ p ++ (map f (a ++ (u ++ b)) ++ q)
joined f a u b p q =
    ap (λ t. (p ++ t) ++ ((map f u ++ []) ++ (map f b ++ q))) (append-nil (map f a))
    ∙ ap (λ t. (p ++ map f a) ++ (t ++ (map f b ++ q))) (append-nil (map f u))
    ∙ append_assoc p (map f a) (map f u ++ (map f b ++ q))
    ∙ ap (λ t. p ++ t)
    (ap (λ t. map f a ++ t) (sym (append_assoc (map f u) (map f b) q) ∙ ap (λ t. t ++ q) (sym (map-append f u b)))
    ∙ sym (append_assoc (map f a) (map f (u ++ b)) q) ∙ ap (λ t. t ++ q) (sym (map-append f a (u ++ b))))

spliced_around : {T : Type 0} (name : List ℕ) (more : List (List ℕ)) (pre post qre qost : List (Edge T)) (e d : Edge T) → edge_name e ≡ name → edge_name d ≡ name
    → list_all (comes_before name) (map edge_name pre) ≡ true → list_all (comes_behind name) (map edge_name post) ≡ true
    → list_all (comes_before name) (map edge_name qre) ≡ true → list_all (comes_behind name) (map edge_name qost) ≡ true
    → spliced (name ∷ more) (below_all (qre ++ (d ∷ qost))) (below_all (pre ++ (e ∷ post)))
    ≡ below_all pre ++ (map (put_in name) (spliced more (below_node (out-Edge T d).node) (below_node (out-Edge T e).node)) ++ below_all post)
spliced_around {T} name more pre post qre qost e d is js f b g c =
    ap (λ t. t ++ (filter (is_under (name ∷ more)) (below_all (qre ++ (d ∷ qost))) ++ filter (is_past (name ∷ more)) (below_all (pre ++ (e ∷ post)))))
    (test_around (comes_before name) (comes_behind name) (is_before (name ∷ more)) (is_before more) true false pre post e
    (λ n x h. before_is name more n x h) (λ n x h. before_not name more n x h)
    (λ x. ap (λ n. is_before (name ∷ more) (put_in n x)) is ∙ before_same name more x) f b
    ∙ ap (λ n. below_all pre ++ (map (put_in n) (filter (is_before more) (below_node (out-Edge T e).node)) ++ [])) is)
    ∙ ap (λ t. front ++ (t ++ filter (is_past (name ∷ more)) (below_all (pre ++ (e ∷ post)))))
    (test_around (comes_before name) (comes_behind name) (is_under (name ∷ more)) (is_under more) false false qre qost d
    (λ n x h. under_other name more n x (before_other name n h)) (λ n x h. under_other name more n x (behind_other name n h))
    (λ x. ap (λ n. is_under (name ∷ more) (put_in n x)) js ∙ under_same name more x) g c
    ∙ ap (λ n. map (put_in n) (filter (is_under more) (below_node (out-Edge T d).node)) ++ []) js)
    ∙ ap (λ t. front ++ ((map (put_in name) (filter (is_under more) (below_node (out-Edge T d).node)) ++ []) ++ t))
    (test_around (comes_before name) (comes_behind name) (is_past (name ∷ more)) (is_past more) false true pre post e
    (λ n x h. past_not name more n x h) (λ n x h. past_is name more n x h)
    (λ x. ap (λ n. is_past (name ∷ more) (put_in n x)) is ∙ past_same name more x) f b
    ∙ ap (λ n. map (put_in n) (filter (is_past more) (below_node (out-Edge T e).node)) ++ below_all post) is)
    ∙ joined (put_in name) (filter (is_before more) (below_node (out-Edge T e).node)) (filter (is_under more) (below_node (out-Edge T d).node))
    (filter (is_past more) (below_node (out-Edge T e).node)) (below_all pre) (below_all post)
  where
    front : List (Entry T)
    front = below_all pre ++ (map (put_in name) (filter (is_before more) (below_node (out-Edge T e).node)) ++ [])

-- a child that got what the other children's one has
pub spliced_changed : {T : Type 0} (es ds : List (Edge T)) (k j : ℕ) (e d f : Edge T) (name : List ℕ) (more : List (List ℕ)) (m : Node T) → are_well es ≡ true → are_well ds ≡ true
    → k < length es → j < length ds → get_or (map edge_name es) k name ≡ name → get_or (map edge_name ds) j name ≡ name → e ≡ get_or es k e → d ≡ get_or ds j d
    → edge_name f ≡ edge_name e → (out-Edge T f).node ≡ m → below_node m ≡ spliced more (below_node (out-Edge T d).node) (below_node (out-Edge T e).node)
    → below_all (set es k f) ≡ spliced (name ∷ more) (below_all ds) (below_all es)
spliced_changed {T} es ds k j e d f name more m h i l o found gound is js n fm told =
    let en = name_is es k e name l is found in
    let dn = name_is ds j d name o js gound in
    changed es k e f name l (n ∙ en)
    ∙ ap (λ t. below_all (take k es) ++ (map (put_in name) t ++ below_all (drop (suc k) es))) (ap below_node fm ∙ told)
    ∙ sym (spliced_around name more (take k es) (drop (suc k) es) (take j ds) (drop (suc j) ds) e d en dn
    (front_is name es k (in_order es h) l found) (back_is name es k (in_order es h) l found) (front_is name ds j (in_order ds i) o gound) (back_is name ds j (in_order ds i) o gound))
    ∙ ap (λ t. spliced (name ∷ more) (below_all (take j ds ++ (d ∷ drop (suc j) ds))) (below_all t)) (sym (around es k e l is))
    ∙ ap (λ t. spliced (name ∷ more) (below_all t) (below_all es)) (sym (around ds j d o js))

-- how many stand at and below some names, counted below the child of the first
pub child_under : {T : Type 0} (es : List (Edge T)) (name : List ℕ) (more : List (List ℕ)) (k : ℕ) (e : Edge T) (i : ℕ) → are_well es ≡ true → k < length es
    → get_or (map edge_name es) k name ≡ name → e ≡ get_or es k e → i ≡ length (filter (is_under (name ∷ more)) (below_all es))
    → i ≡ length (filter (is_under more) (below_node (out-Edge T e).node))
child_under {T} es name more k e i h l found is told =
    told
    ∙ ap length
    (test_found (is_under (name ∷ more)) (is_under more) es name k e (under_other name more) (under_same name more) h l found is
    ∙ append-nil (map (put_in (edge_name e)) (filter (is_under more) (below_node (out-Edge T e).node))))
    ∙ length-map (filter (is_under more) (below_node (out-Edge T e).node)) (put_in (edge_name e))

pub none_under : {T : Type 0} (es : List (Edge T)) (name : List ℕ) (more : List (List ℕ)) (k i : ℕ)
    → list_all (comes_before name) (map edge_name (take k es)) ≡ true → list_all (comes_behind name) (map edge_name (drop k es)) ≡ true
    → i ≡ length (filter (is_under (name ∷ more)) (below_all es)) → i ≡ 0
none_under es name more k i front back told = told ∙ ap length (test_none (is_under (name ∷ more)) es name k (under_other name more) front back)
