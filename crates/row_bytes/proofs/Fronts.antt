-- The front of a directory's nodes: what may come behind it, and that it is a tree where it is whole.
use Rattle.std.proofs.Common.{◌≡◌, ◌≤◌, ◌-◌, ◌+◌, ℕ, suc, Bool, true, false, ◌&&◌, ◌||◌, not, nat_lt, if◌then◌else◌, List, [], ◌∷◌, ◌++◌, length, Option, Some, None, refl, ◌∙◌, sym, ap, subst, arith, append_assoc}
use Rattle.std.proofs.lemmas.Bool.{and_from, or_left, or_right}
use Rattle.std.proofs.lemmas.Bool.Decides.{nat_tests}
use Rattle.std.proofs.lemmas.List.Folds.{list_any-append}
use Rattle.std.specs.Cmp.{first_so, second_so}
use Rattle.std.specs.List.{list_all, list_any, slice_get}
use Rattle.std.specs.Ordering.{is_lt}
use Rattle.mat_path.proofs.Bools.{or_first, or_second}
use Rattle.mat_path.proofs.SameNames.{same_names-eq}
use Rattle.mat_path.specs.Names.{path_cmp}
use Rattle.mat_tree.proofs.Ascending.{ascends_right, lt_trans_path}
use Rattle.mat_tree.proofs.Joins.{all_join, all_left, all_right}
use Rattle.mat_tree.proofs.Refusals.{after_not_root, follows_parent, no_fault_ascends, no_fault_parents, no_refusal_is_tree}
use Rattle.mat_tree.proofs.Turns.{in_turn_no_fault}
use Rattle.mat_tree.specs.Trees.{IsTree, ascends, fault_behind, follows, has_parent, has_rel, is_after, is_at, is_dir, is_dir_at, is_in_turn, is_link, is_root, is_small, parent_of, tree_refusal}
use Rattle.mat_tree.specs.declared.flat.Flat.{Flat}
use Rattle.mat_tree.specs.declared.flat.What.{What}
use Rattle.mat_tree.specs.declared.flat.What.TheVariants as what
use Rattle.mat_tree.specs.declared.refusal.TreeRefusal.TheVariants as refusal
use Rattle.row_bytes.specs.Reading.{is_begun, is_greater, may_come, may_follow, newest}

-- ---- the last node

last_of : Flat → List Flat → Flat
last_of before [] = before
last_of before (x ∷ rest) = last_of x rest

front_of : Flat → List Flat → List Flat
front_of before [] = []
front_of before (x ∷ rest) = before ∷ front_of x rest

parted : (before : Flat) (rest : List Flat) → before ∷ rest ≡ front_of before rest ++ last_of before rest ∷ []
unfolding last_of front_of
parted before [] = refl
parted before (x ∷ rest) = ap (λ (l : List Flat). before ∷ l) (parted x rest)

at_last : (before : Flat) (rest : List Flat) → slice_get (before ∷ rest) (length rest) ≡ Some (last_of before rest)
unfolding last_of
at_last before [] = refl
at_last before (x ∷ rest) = at_last x rest

newest_is : (before : Flat) (rest : List Flat) → newest (before ∷ rest) ≡ Some (last_of before rest)
newest_is before rest =
    let e : length (before ∷ rest) - 1 ≡ length rest = omega arith in
    ap (slice_get (before ∷ rest)) e ∙ at_last before rest

-- ---- one node more

in_turn_push : (before node : Flat) (rest : List Flat) → is_in_turn before rest ≡ true → is_after (last_of before rest).rel node ≡ true
    → follows node.rel (last_of before rest) ≡ true → is_in_turn before (rest ++ node ∷ []) ≡ true
unfolding last_of
in_turn_push before node [] turn after follow =
    and_from (is_after before.rel node && follows node.rel before) true (and_from (is_after before.rel node) (follows node.rel before) after follow) refl
in_turn_push before node (x ∷ rest) turn after follow =
    and_from (is_after before.rel x && follows x.rel before) (is_in_turn x (rest ++ node ∷ []))
    (first_so (is_after before.rel x && follows x.rel before) (is_in_turn x rest) turn)
    (in_turn_push x node rest (second_so (is_after before.rel x && follows x.rel before) (is_in_turn x rest) turn) after follow)

ascends_push : (done : List Flat) (last node : Flat) → ascends (done ++ last ∷ []) ≡ true → is_after last.rel node ≡ true
    → ascends (done ++ (last ∷ node ∷ [])) ≡ true
ascends_push [] last node up after =
    and_from (list_all (is_after last.rel) (node ∷ [])) (ascends (node ∷ [])) (and_from (is_after last.rel node) true after refl) refl
ascends_push (x ∷ done) last node up after =
    let all = first_so (list_all (is_after x.rel) (done ++ last ∷ [])) (ascends (done ++ last ∷ [])) up in
    let behind = second_so (list_all (is_after x.rel) (done ++ last ∷ [])) (ascends (done ++ last ∷ [])) up in
    let less : is_after x.rel last ≡ true = first_so (is_after x.rel last) true (all_right (is_after x.rel) done (last ∷ []) all) in
    and_from (list_all (is_after x.rel) (done ++ (last ∷ node ∷ []))) (ascends (done ++ (last ∷ node ∷ [])))
    (all_join (is_after x.rel) done (last ∷ node ∷ []) (all_left (is_after x.rel) done (last ∷ []) all)
    (and_from (is_after x.rel last) (is_after x.rel node && true) less
    (and_from (is_after x.rel node) true (lt_trans_path x.rel last.rel node.rel less after) refl)))
    (ascends_push done last node behind after)

-- ---- the directory of a rel

-- a node at a rel that is no directory
link_at : List (List ℕ) → Flat
link_at rel = record { rel = rel; what = what.Link [] }

to_follow : (done : List Flat) (last : Flat) (rel : List (List ℕ)) → ascends (done ++ last ∷ []) ≡ true → is_lt (path_cmp last.rel rel) ≡ true
    → list_any (is_dir_at (parent_of rel)) (done ++ last ∷ []) ≡ true → follows rel last ≡ true
unfolding link_at
to_follow done last rel up after any =
    let node = link_at rel in
    let p = is_dir_at (parent_of rel) in
    let above : list_any p (done ++ (last ∷ node ∷ [])) ≡ true =
    ap (list_any p) (sym (append_assoc done (last ∷ []) (node ∷ []))) ∙ list_any-append p (done ++ last ∷ []) (node ∷ [])
    ∙ or_left (list_any p (done ++ last ∷ [])) (list_any p (node ∷ [])) any in
    follows_parent done last node [] (ascends_push done last node up after)
    (or_right (is_root node) (list_any p (done ++ (last ∷ node ∷ []))) above) (after_not_root last.rel rel after)

no_dir : (b : Bool) → ((b && false) || false) ≡ false
no_dir true = refl
no_dir false = refl

to_any : (root : Flat) (rest : List Flat) (rel : List (List ℕ)) → root.rel ≡ [] → is_in_turn root rest ≡ true
    → is_lt (path_cmp (last_of root rest).rel rel) ≡ true → follows rel (last_of root rest) ≡ true → list_any (is_dir_at (parent_of rel)) (root ∷ rest) ≡ true
unfolding link_at
to_any root rest rel is turn after follow =
    let node = link_at rel in
    let p = is_dir_at (parent_of rel) in
    let nodes = root ∷ (rest ++ node ∷ []) in
    let none = in_turn_no_fault nodes root (rest ++ node ∷ []) refl is (in_turn_push root node rest turn after follow) in
    let all = no_fault_parents nodes root 1 (rest ++ node ∷ []) none in
    let here : has_parent nodes node ≡ true = first_so (has_parent nodes node) true (all_right (has_parent nodes) rest (node ∷ []) all) in
    let any = or_second (is_root node) (list_any p nodes) (after_not_root (last_of root rest).rel rel after) here in
    or_first (list_any p (root ∷ rest)) (list_any p (node ∷ [])) (no_dir (is_at (parent_of rel) node)) (sym (list_any-append p (root ∷ rest) (node ∷ [])) ∙ any)

-- ---- what may come

begun_root : (root : Flat) (rest : List Flat) → is_begun (root ∷ rest) ≡ true → root.rel ≡ []
begun_root root rest e =
    sym (same_names-eq [] root.rel (first_so (is_root root) (is_dir root.what) (first_so (is_root root && is_dir root.what) (is_in_turn root rest) e)))

begun_dir : (root : Flat) (rest : List Flat) → is_begun (root ∷ rest) ≡ true → is_dir root.what ≡ true
begun_dir root rest e = second_so (is_root root) (is_dir root.what) (first_so (is_root root && is_dir root.what) (is_in_turn root rest) e)

begun_turn : (root : Flat) (rest : List Flat) → is_begun (root ∷ rest) ≡ true → is_in_turn root rest ≡ true
begun_turn root rest e = second_so (is_root root && is_dir root.what) (is_in_turn root rest) e

begun_no_fault : (root : Flat) (rest : List Flat) → is_begun (root ∷ rest) ≡ true → fault_behind (root ∷ rest) root 1 rest ≡ None
begun_no_fault root rest e = in_turn_no_fault (root ∷ rest) root rest refl (begun_root root rest e) (begun_turn root rest e)

same_tests : (a b : Bool) → (a ≡ true → b ≡ true) → (b ≡ true → a ≡ true) → a ≡ b
same_tests true b f g = sym (f refl)
same_tests false true f g = g refl
same_tests false false f g = refl

behind_test : (t a b : Bool) → (t ≡ true → a ≡ b) → (t && a) ≡ (t && b)
behind_test true a b f = f refl
behind_test false a b f = refl

follows_is_parent : (root : Flat) (rest : List Flat) (rel : List (List ℕ)) → is_begun (root ∷ rest) ≡ true
    → may_follow (last_of root rest) rel ≡ (is_lt (path_cmp (last_of root rest).rel rel) && list_any (is_dir_at (parent_of rel)) (root ∷ rest))
follows_is_parent root rest rel e =
    let up : ascends (front_of root rest ++ last_of root rest ∷ []) ≡ true =
    ap ascends (sym (parted root rest)) ∙ no_fault_ascends (root ∷ rest) root 1 rest (begun_no_fault root rest e) in
    behind_test (is_lt (path_cmp (last_of root rest).rel rel)) (follows rel (last_of root rest)) (list_any (is_dir_at (parent_of rel)) (root ∷ rest))
    (λ after. same_tests (follows rel (last_of root rest)) (list_any (is_dir_at (parent_of rel)) (root ∷ rest))
    (λ f. to_any root rest rel (begun_root root rest e) (begun_turn root rest e) after f)
    (λ any. to_follow (front_of root rest) (last_of root rest) rel up after (ap (list_any (is_dir_at (parent_of rel))) (sym (parted root rest)) ∙ any)))

same_some : {X : Type 0} (x y : X) (o : Option X) → o ≡ Some x → o ≡ Some y → x ≡ y
same_some x y o e f = let g : Some x ≡ Some y = sym e ∙ f in cc

pub may_come_is : (nodes : List Flat) (last : Flat) (rel : List (List ℕ)) → is_begun nodes ≡ true → newest nodes ≡ Some last → may_follow last rel ≡ may_come nodes rel
may_come_is [] last rel e is = absurd cc
may_come_is (root ∷ rest) last rel e is =
    let same : last ≡ last_of root rest = same_some last (last_of root rest) (newest (root ∷ rest)) is (newest_is root rest) in
    ap (λ (l : Flat). may_follow l rel) same ∙ follows_is_parent root rest rel e
    ∙ ap (λ (o : Option Flat). is_greater o rel && list_any (is_dir_at (parent_of rel)) (root ∷ rest)) (sym (newest_is root rest))

-- a node that may come is one more of the front
pub begun_more : (nodes : List Flat) (node : Flat) → is_begun nodes ≡ true → may_come nodes node.rel ≡ true → is_begun (nodes ++ node ∷ []) ≡ true
begun_more [] node e may = absurd cc
begun_more (root ∷ rest) node e may =
    let told = may_come_is (root ∷ rest) (last_of root rest) node.rel e (newest_is root rest) ∙ may in
    and_from (is_root root && is_dir root.what) (is_in_turn root (rest ++ node ∷ []))
    (first_so (is_root root && is_dir root.what) (is_in_turn root rest) e)
    (in_turn_push root node rest (begun_turn root rest e)
    (first_so (is_lt (path_cmp (last_of root rest).rel node.rel)) (follows node.rel (last_of root rest)) told)
    (second_so (is_lt (path_cmp (last_of root rest).rel node.rel)) (follows node.rel (last_of root rest)) told))

-- ---- a front is a tree

dir_no_link : (w : What) → is_dir w ≡ true → is_link w ≡ false
dir_no_link (what.File digest exec) e = refl
dir_no_link what.Dir e = refl
dir_no_link (what.Link target) e = absurd cc

few_others : (n : ℕ) → suc n ≤ 10000 → nat_lt 9999 n ≡ false
few_others n h = grind (arith, nat_tests)

pub begun_tree : (nodes : List Flat) → is_begun nodes ≡ true → length nodes ≤ 10000 → list_all is_small nodes ≡ true → list_all has_rel nodes ≡ true → IsTree nodes
begun_tree [] e few small rels = absurd cc
begun_tree (root ∷ rest) e few small rels = no_refusal_is_tree (root ∷ rest) none small rels
  where
    none : tree_refusal (root ∷ rest) ≡ None
    none =
        ap (λ b. if not b then Some refusal.NoRoot else if is_link root.what then Some refusal.RootLink else if nat_lt 9999 (length rest) then Some refusal.TooMany
        else fault_behind (root ∷ rest) root 1 rest) (first_so (is_root root) (is_dir root.what) (first_so (is_root root && is_dir root.what) (is_in_turn root rest) e))
        ∙ ap (λ b. if b then Some refusal.RootLink else if nat_lt 9999 (length rest) then Some refusal.TooMany else fault_behind (root ∷ rest) root 1 rest)
        (dir_no_link root.what (begun_dir root rest e))
        ∙ ap (λ b. if b then Some refusal.TooMany else fault_behind (root ∷ rest) root 1 rest) (few_others (length rest) few)
        ∙ begun_no_fault root rest e

-- ---- a tree's nodes come in turn

pub comes_next : (root : Flat) (rest : List Flat) (node : Flat) (behind : List Flat) → is_begun (root ∷ rest) ≡ true
    → ascends ((root ∷ rest) ++ node ∷ behind) ≡ true → has_parent ((root ∷ rest) ++ node ∷ behind) node ≡ true → may_come (root ∷ rest) node.rel ≡ true
comes_next root rest node behind e up has =
    let done = front_of root rest in
    let last = last_of root rest in
    let same : (root ∷ rest) ++ node ∷ behind ≡ done ++ (last ∷ node ∷ behind) =
    ap (λ (l : List Flat). l ++ node ∷ behind) (parted root rest) ∙ append_assoc done (last ∷ []) (node ∷ behind) in
    let here : ascends (done ++ (last ∷ node ∷ behind)) ≡ true = ap ascends (sym same) ∙ up in
    let tail : ascends (last ∷ node ∷ behind) ≡ true = ascends_right done (last ∷ node ∷ behind) here in
    let after : is_after last.rel node ≡ true = first_so (is_after last.rel node) (list_all (is_after last.rel) behind)
    (first_so (list_all (is_after last.rel) (node ∷ behind)) (ascends (node ∷ behind)) tail) in
    let follow = follows_parent done last node behind here (ap (λ (t : List Flat). has_parent t node) (sym same) ∙ has) (after_not_root last.rel node.rel after) in
    sym (may_come_is (root ∷ rest) last node.rel e (newest_is root rest)) ∙ and_from (is_lt (path_cmp last.rel node.rel)) (follows node.rel last) after follow
