-- Children of which one is changed, taken out or put in.
use Rattle.mat_path.proofs.PathLemmas.{lt_less}
use Rattle.mat_path.specs.Names.{name_cmp}
use Rattle.std.proofs.Common.{◌≡◌, ◌<◌, ◌≤◌, ◌+◌, ℕ, zero, suc, Bool, true, false, not, cond, ◌&&◌, List, [], ◌∷◌, ◌++◌, map, length, take, drop, get_or, set, refl, ◌∙◌, sym, ap, arith}
use Rattle.std.proofs.lemmas.Bool.{and_from}
use Rattle.std.proofs.lemmas.List.{length-append, length-map, map-append, take-append-drop, set_split}
use Rattle.std.proofs.lemmas.List.Concat.{flat_map-append}
use Rattle.std.specs.Cmp.{second_so}
use Rattle.std.specs.List.{insert, list_all, remove}
use Rattle.std.specs.Ordering.{is_lt}
use Rattle.std.specs.Result.{IfOk}
use Rattle.std.specs.declared.option.Option.{Option}
use Rattle.std.specs.declared.result.Result.{Result}
use Rattle.std.specs.declared.result.Result.TheVariants.{Ok, Err}
use Rattle.std.proofs.lemmas.Cmp.{nat_list_cmp_total}
use Rattle.path_trie.specs.declared.entry.Entry.{Entry}
use Rattle.path_trie.specs.declared.node.Node.{Node}
use Rattle.path_trie.specs.declared.node.Edge.{Edge, out-Edge}
use Rattle.path_trie.specs.declared.node.Edge.TheViews.{roll-Edge, out-roll-Edge}
use Rattle.path_trie.specs.declared.node.Edge.TheOpen as layer
use Rattle.path_trie.specs.Entries.{put, without}
use Rattle.path_trie.specs.Nodes.{own, put_in, has_some, are_in_order, are_well, below_node, below_edge, below_all, comes_before, comes_behind, edge_name, is_well, is_well_edge}
use Rattle.path_trie.proofs.Lists.{all_join, all_left, all_right}
use Rattle.path_trie.proofs.Order.{asc_around, asc_left, asc_right, asc_without}
use Rattle.path_trie.proofs.Told.{well_edge_out}
use Rattle.path_trie.proofs.Halves.{back_is, front_is}
use Rattle.path_trie.proofs.Below.{below_around, put_around, put_between, without_around, without_between}
use Rattle.path_trie.proofs.Kept.{around, in_order, name_is}

-- ---- a child with another node

pub rolled_name : {T : Type 0} (name : List ℕ) (m : Node T) → edge_name (roll-Edge T (record { name = name; node = m })) ≡ name
rolled_name {T} name m = ap (λ (t : layer.Edge-F T (Edge T) (Node T)). t.name) (out-roll-Edge T (record { name = name; node = m }))

pub rolled_node : {T : Type 0} (name : List ℕ) (m : Node T) → (out-Edge T (roll-Edge T (record { name = name; node = m }))).node ≡ m
rolled_node {T} name m = ap (λ (t : layer.Edge-F T (Edge T) (Node T)). t.node) (out-roll-Edge T (record { name = name; node = m }))

-- ---- lists with an element

has_right : {X : Type 0} (xs ys : List X) (y : X) → has_some (xs ++ (y ∷ ys)) ≡ true
has_right [] ys y = refl
has_right (x ∷ xs) ys y = refl

pub has_put : {T : Type 0} (path : List (List ℕ)) (value : T) (xs : List (Entry T)) → has_some (put path value xs) ≡ true
has_put path value xs = has_right _ _ _

-- ---- a child changed

-- the list with a child's node changed
pub changed : {T : Type 0} (es : List (Edge T)) (k : ℕ) (e f : Edge T) (name : List ℕ) → k < length es → edge_name f ≡ name
    → below_all (set es k f) ≡ below_all (take k es) ++ (map (put_in name) (below_node (out-Edge T f).node) ++ below_all (drop (suc k) es))
changed {T} es k e f name l n =
    ap below_all (set_split es k f l) ∙ below_around (take k es) (drop (suc k) es) f
    ∙ ap (λ t. below_all (take k es) ++ (map (put_in t) (below_node (out-Edge T f).node) ++ below_all (drop (suc k) es))) n

-- the list around a child
pub unchanged : {T : Type 0} (es : List (Edge T)) (k : ℕ) (e : Edge T) (name : List ℕ) → k < length es → e ≡ get_or es k e → edge_name e ≡ name
    → below_all es ≡ below_all (take k es) ++ (map (put_in name) (below_node (out-Edge T e).node) ++ below_all (drop (suc k) es))
unchanged {T} es k e name l is n =
    ap below_all (around es k e l is) ∙ below_around (take k es) (drop (suc k) es) e
    ∙ ap (λ t. below_all (take k es) ++ (map (put_in t) (below_node (out-Edge T e).node) ++ below_all (drop (suc k) es))) n

pub put_changed : {T : Type 0} (es : List (Edge T)) (k : ℕ) (e f : Edge T) (name : List ℕ) (more : List (List ℕ)) (value : T) (m : Node T) (b : Bool) → are_well es ≡ true → k < length es
    → get_or (map edge_name es) k name ≡ name → e ≡ get_or es k e → edge_name f ≡ edge_name e → (out-Edge T f).node ≡ m
    → below_node m ≡ cond b (put more value (below_node (out-Edge T e).node)) (below_node (out-Edge T e).node)
    → below_all (set es k f) ≡ cond b (put (name ∷ more) value (below_all es)) (below_all es)
put_changed {T} es k e f name more value m b h l found is n fm told =
    let en = name_is es k e name l is found in
    changed es k e f name l (n ∙ en)
    ∙ ap (λ t. below_all (take k es) ++ (map (put_in name) t ++ below_all (drop (suc k) es))) (ap below_node fm ∙ told)
    ∙ by b
  where
    by : (b : Bool) → below_all (take k es) ++ (map (put_in name) (cond b (put more value (below_node (out-Edge T e).node)) (below_node (out-Edge T e).node)) ++ below_all (drop (suc k) es))
        ≡ cond b (put (name ∷ more) value (below_all es)) (below_all es)
    by true =
        let en = name_is es k e name l is found in
        ap (λ t. below_all (take k es) ++ (map (put_in t) (put more value (below_node (out-Edge T e).node)) ++ below_all (drop (suc k) es))) (sym en)
        ∙ sym (put_around name more value (take k es) (drop (suc k) es) e en (front_is name es k (in_order es h) l found) (back_is name es k (in_order es h) l found))
        ∙ ap (λ t. put (name ∷ more) value (below_all t)) (sym (around es k e l is))
    by false = sym (unchanged es k e name l is (name_is es k e name l is found))

pub taken_changed : {T : Type 0} (es : List (Edge T)) (k : ℕ) (e : Edge T) (name : List ℕ) (more : List (List ℕ)) → are_well es ≡ true → k < length es
    → get_or (map edge_name es) k name ≡ name → e ≡ get_or es k e
    → below_all (take k es) ++ (map (put_in name) (without more (below_node (out-Edge T e).node)) ++ below_all (drop (suc k) es)) ≡ without (name ∷ more) (below_all es)
taken_changed {T} es k e name more h l found is =
    let en = name_is es k e name l is found in
    ap (λ t. below_all (take k es) ++ (map (put_in t) (without more (below_node (out-Edge T e).node)) ++ below_all (drop (suc k) es))) (sym en)
    ∙ sym (without_around name more (take k es) (drop (suc k) es) e en (front_is name es k (in_order es h) l found) (back_is name es k (in_order es h) l found))
    ∙ ap (λ t. without (name ∷ more) (below_all t)) (sym (around es k e l is))

pub take_changed : {T : Type 0} (es : List (Edge T)) (k : ℕ) (e f : Edge T) (name : List ℕ) (more : List (List ℕ)) (m : Node T) → are_well es ≡ true → k < length es
    → get_or (map edge_name es) k name ≡ name → e ≡ get_or es k e → edge_name f ≡ edge_name e → (out-Edge T f).node ≡ m
    → below_node m ≡ without more (below_node (out-Edge T e).node)
    → below_all (set es k f) ≡ without (name ∷ more) (below_all es)
take_changed {T} es k e f name more m h l found is n fm told =
    changed es k e f name l (n ∙ name_is es k e name l is found)
    ∙ ap (λ t. below_all (take k es) ++ (map (put_in name) t ++ below_all (drop (suc k) es))) (ap below_node fm ∙ told)
    ∙ taken_changed es k e name more h l found is

-- a child of the same name, and as a child should be
pub well_changed : {T : Type 0} (es : List (Edge T)) (k : ℕ) (e f : Edge T) → are_well es ≡ true → k < length es → e ≡ get_or es k e → edge_name f ≡ edge_name e
    → is_well_edge f ≡ true → are_well (set es k f) ≡ true
well_changed {T} es k e f h l is n w =
    let split = around es k e l is in
    let all = ap (list_all is_well_edge) (sym split) ∙ second_so (are_in_order (map edge_name es)) (list_all is_well_edge es) h in
    let names : map edge_name (set es k f) ≡ map edge_name es =
    ap (map edge_name) (set_split es k f l) ∙ map-append edge_name (take k es) (f ∷ drop (suc k) es) ∙ ap (λ t. map edge_name (take k es) ++ (t ∷ map edge_name (drop (suc k) es))) n
    ∙ sym (map-append edge_name (take k es) (e ∷ drop (suc k) es)) ∙ ap (map edge_name) (sym split) in
    and_from (are_in_order (map edge_name (set es k f))) (list_all is_well_edge (set es k f))
    (ap are_in_order names ∙ in_order es h)
    (ap (list_all is_well_edge) (set_split es k f l)
    ∙ all_join is_well_edge (take k es) (f ∷ drop (suc k) es) (all_left is_well_edge (take k es) (e ∷ drop (suc k) es) all)
    (and_from (is_well_edge f) (list_all is_well_edge (drop (suc k) es)) w
    (second_so (is_well_edge e) (list_all is_well_edge (drop (suc k) es)) (all_right is_well_edge (take k es) (e ∷ drop (suc k) es) all))))

pub edge_well : {T : Type 0} (f : Edge T) (m : Node T) → (out-Edge T f).node ≡ m → has_some (below_node m) ≡ true → is_well m ≡ true → is_well_edge f ≡ true
edge_well {T} f m fm s w =
    well_edge_out f ∙ ap (λ t. has_some (below_node t) && is_well t) fm ∙ and_from (has_some (below_node m)) (is_well m) s w

-- ---- a child taken out

pub removed : {X : Type 0} (xs : List X) (k : ℕ) (a : X) → k < length xs → remove (set xs k a) k ≡ take k xs ++ drop (suc k) xs
removed [] k a h = absurd (omega arith)
removed (x ∷ xs) zero a h = refl
removed (x ∷ xs) (suc k) a h = ap (λ t. x ∷ t) (removed xs k a (omega arith))

pub take_removed : {T : Type 0} (es news : List (Edge T)) (k : ℕ) (e f : Edge T) (name : List ℕ) (more : List (List ℕ)) (m : Node T) → are_well es ≡ true → k < length es
    → get_or (map edge_name es) k name ≡ name → e ≡ get_or es k e
    → below_node m ≡ without more (below_node (out-Edge T e).node) → true ≡ not (has_some (below_node m)) → news ≡ remove (set es k f) k
    → below_all news ≡ without (name ∷ more) (below_all es)
take_removed {T} es news k e f name more m h l found is told none news_is =
    ap below_all (news_is ∙ removed es k f l) ∙ flat_map-append below_edge (take k es) (drop (suc k) es)
    ∙ ap (λ t. below_all (take k es) ++ (map (put_in name) t ++ below_all (drop (suc k) es))) (sym (empty (below_node m) none) ∙ told)
    ∙ taken_changed es k e name more h l found is
  where
    empty : (xs : List (Entry T)) → true ≡ not (has_some xs) → xs ≡ []
    empty [] e = refl
    empty (x ∷ xs) e = cc

pub well_removed : {T : Type 0} (es news : List (Edge T)) (k : ℕ) (e f : Edge T) → are_well es ≡ true → k < length es → e ≡ get_or es k e
    → news ≡ remove (set es k f) k → are_well news ≡ true
well_removed {T} es news k e f h l is news_is =
    let split = around es k e l is in
    let all = ap (list_all is_well_edge) (sym split) ∙ second_so (are_in_order (map edge_name es)) (list_all is_well_edge es) h in
    let order : are_in_order (map edge_name (take k es) ++ (edge_name e ∷ map edge_name (drop (suc k) es))) ≡ true =
    ap are_in_order (sym (ap (map edge_name) split ∙ map-append edge_name (take k es) (e ∷ drop (suc k) es))) ∙ in_order es h in
    ap are_well (news_is ∙ removed es k f l)
    ∙ and_from (are_in_order (map edge_name (take k es ++ drop (suc k) es))) (list_all is_well_edge (take k es ++ drop (suc k) es))
    (ap are_in_order (map-append edge_name (take k es) (drop (suc k) es)) ∙ asc_without comes_behind (map edge_name (take k es)) (map edge_name (drop (suc k) es)) (edge_name e) order)
    (all_join is_well_edge (take k es) (drop (suc k) es) (all_left is_well_edge (take k es) (e ∷ drop (suc k) es) all)
    (second_so (is_well_edge e) (list_all is_well_edge (drop (suc k) es)) (all_right is_well_edge (take k es) (e ∷ drop (suc k) es) all)))

-- nothing taken
pub take_none : {T : Type 0} (es : List (Edge T)) (k : ℕ) (name : List ℕ) (more : List (List ℕ))
    → list_all (comes_before name) (map edge_name (take k es)) ≡ true → list_all (comes_behind name) (map edge_name (drop k es)) ≡ true
    → below_all es ≡ without (name ∷ more) (below_all es)
take_none es k name more f b =
    ap below_all (sym (take-append-drop k es)) ∙ sym (without_between name more (take k es) (drop k es) f b) ∙ ap (λ t. without (name ∷ more) (below_all t)) (take-append-drop k es)

-- ---- a child put in

pub put_added : {T : Type 0} (es news : List (Edge T)) (k : ℕ) (f : Edge T) (name : List ℕ) (more : List (List ℕ)) (value : T)
    → list_all (comes_before name) (map edge_name (take k es)) ≡ true → list_all (comes_behind name) (map edge_name (drop k es)) ≡ true
    → edge_name f ≡ name → below_node (out-Edge T f).node ≡ record { path = more; value = value } ∷ [] → news ≡ insert es k f
    → below_all news ≡ put (name ∷ more) value (below_all es)
put_added {T} es news k f name more value front back n told is =
    ap below_all is ∙ below_around (take k es) (drop k es) f
    ∙ ap (λ t. below_all (take k es) ++ (map (put_in (edge_name f)) t ++ below_all (drop k es))) told
    ∙ ap (λ t. below_all (take k es) ++ (record { path = t ∷ more; value = value } ∷ below_all (drop k es))) n
    ∙ sym (put_between name more value (take k es) (drop k es) front back)
    ∙ ap (λ t. put (name ∷ more) value (below_all t)) (take-append-drop k es)

names_trans : (a b c : List ℕ) → comes_behind a b ≡ true → comes_behind b c ≡ true → comes_behind a c ≡ true
names_trans a b c f g = ap is_lt (nat_list_cmp_total.trans a b c (lt_less (name_cmp a b) f) (lt_less (name_cmp b c) g))

pub well_added : {T : Type 0} (es news : List (Edge T)) (k : ℕ) (f : Edge T) (name : List ℕ)
    → list_all (comes_before name) (map edge_name (take k es)) ≡ true → list_all (comes_behind name) (map edge_name (drop k es)) ≡ true
    → are_well es ≡ true → edge_name f ≡ name → is_well_edge f ≡ true → news ≡ insert es k f → are_well news ≡ true
well_added {T} es news k f name front back h n w is =
    let split = take-append-drop k es in
    let all = ap (list_all is_well_edge) split ∙ second_so (are_in_order (map edge_name es)) (list_all is_well_edge es) h in
    let order : are_in_order (map edge_name (take k es) ++ map edge_name (drop k es)) ≡ true =
    ap are_in_order (sym (map-append edge_name (take k es) (drop k es)) ∙ ap (map edge_name) split) ∙ in_order es h in
    ap are_well is
    ∙ and_from (are_in_order (map edge_name (take k es ++ (f ∷ drop k es)))) (list_all is_well_edge (take k es ++ (f ∷ drop k es)))
    (ap are_in_order (map-append edge_name (take k es) (f ∷ drop k es)) ∙ ap (λ t. are_in_order (map edge_name (take k es) ++ (t ∷ map edge_name (drop k es)))) n
    ∙ asc_around comes_behind names_trans (map edge_name (take k es)) (map edge_name (drop k es)) name
    (asc_left comes_behind (map edge_name (take k es)) (map edge_name (drop k es)) order) (asc_right comes_behind (map edge_name (take k es)) (map edge_name (drop k es)) order) front back)
    (all_join is_well_edge (take k es) (f ∷ drop k es) (all_left is_well_edge (take k es) (drop k es) all)
    (and_from (is_well_edge f) (list_all is_well_edge (drop k es)) w (all_right is_well_edge (take k es) (drop k es) all)))

-- something stands below a node where a value was put, or where nothing changed
pub has_kept : {T : Type 0} (b : Bool) (path : List (List ℕ)) (value : T) (xs ys : List (Entry T)) → ys ≡ cond b (put path value xs) xs → has_some xs ≡ true → has_some ys ≡ true
has_kept true path value xs ys e h = ap has_some e ∙ has_put path value xs
has_kept false path value xs ys e h = ap has_some e ∙ h

-- what was there before, told of the same thing
pub old_same : {A E : Type 0} (r : Result A E) (a b : A) → a ≡ b → IfOk r (λ old. old ≡ a) → IfOk r (λ old. old ≡ b)
old_same (Ok x) a b e h = h ∙ e
old_same (Err y) a b e h = tt

-- ---- how many entries stand below children

-- around a child
spread : {T : Type 0} (pre post : List (Edge T)) (e : Edge T)
    → length (below_all (pre ++ (e ∷ post))) ≡ length (below_all pre) + (length (below_node (out-Edge T e).node) + length (below_all post))
spread {T} pre post e =
    let whole = ap length (below_around pre post e) in
    let front = length-append (below_all pre) (map (put_in (edge_name e)) (below_node (out-Edge T e).node) ++ below_all post) in
    let back = length-append (map (put_in (edge_name e)) (below_node (out-Edge T e).node)) (below_all post) in
    let same = length-map (below_node (out-Edge T e).node) (put_in (edge_name e)) in
    omega (arith, whole, front, back, same)

-- a child has no more of them than all
pub count_part : {T : Type 0} (es : List (Edge T)) (k : ℕ) (e : Edge T) → k < length es → e ≡ get_or es k e → length (below_node (out-Edge T e).node) ≤ length (below_all es)
count_part {T} es k e l is =
    let all = ap (λ t. length (below_all t)) (around es k e l is) in
    let parts = spread (take k es) (drop (suc k) es) e in omega (arith, all, parts)

-- with a child's node changed
pub count_changed : {T : Type 0} (es : List (Edge T)) (k : ℕ) (e f : Edge T) (m : Node T) → k < length es → e ≡ get_or es k e → (out-Edge T f).node ≡ m
    → length (below_all (set es k f)) + length (below_node (out-Edge T e).node) ≡ length (below_all es) + length (below_node m)
count_changed {T} es k e f m l is fm =
    let all = ap (λ t. length (below_all t)) (around es k e l is) in
    let parts = spread (take k es) (drop (suc k) es) e in
    let new = ap (λ t. length (below_all t)) (set_split es k f l) in
    let news = spread (take k es) (drop (suc k) es) f in
    let same = ap (λ t. length (below_node t)) fm in
    omega (arith, all, parts, new, news, same)

-- without a child
pub count_removed : {T : Type 0} (es news : List (Edge T)) (k : ℕ) (e f : Edge T) → k < length es → e ≡ get_or es k e → news ≡ remove (set es k f) k
    → length (below_all news) + length (below_node (out-Edge T e).node) ≡ length (below_all es)
count_removed {T} es news k e f l is news_is =
    let all = ap (λ t. length (below_all t)) (around es k e l is) in
    let parts = spread (take k es) (drop (suc k) es) e in
    let new = ap (λ t. length (below_all t)) (news_is ∙ removed es k f l) in
    let split = ap length (flat_map-append below_edge (take k es) (drop (suc k) es)) in
    let news_parts = length-append (below_all (take k es)) (below_all (drop (suc k) es)) in
    omega (arith, all, parts, new, split, news_parts)

-- with one child more, that has one of them
pub count_added : {T : Type 0} (es news : List (Edge T)) (k : ℕ) (f : Edge T) (x : Entry T) → below_node (out-Edge T f).node ≡ x ∷ [] → news ≡ insert es k f
    → length (below_all news) ≡ length (below_all es) + 1
count_added {T} es news k f x one is =
    let all = ap (λ t. length (below_all t)) (sym (take-append-drop k es)) in
    let split = ap length (flat_map-append below_edge (take k es) (drop k es)) in
    let parts = length-append (below_all (take k es)) (below_all (drop k es)) in
    let new = ap (λ t. length (below_all t)) is in
    let news_parts = spread (take k es) (drop k es) f in
    let single : length (below_node (out-Edge T f).node) ≡ 1 = ap length one in
    omega (arith, all, split, parts, new, news_parts, single)

-- a node with nothing at and below it
pub none_left : {T : Type 0} (xs : List (Entry T)) (b : Bool) → b ≡ not (has_some xs) → b ≡ true → length xs ≡ 0
none_left [] b e h = refl
none_left (x ∷ xs) b e h = cc

-- how many more entries a put makes, told of what stands around
pub ok_more : {E T : Type 0} (r : Result (Option T) E) (news olds new old : ℕ) → news + old ≡ olds + new
    → IfOk r (λ o. new + length (own o) ≡ old + 1) → IfOk r (λ o. news + length (own o) ≡ olds + 1)
ok_more (Ok o) news olds new old e h = omega (arith, e, h)
ok_more (Err y) news olds new old e h = tt
