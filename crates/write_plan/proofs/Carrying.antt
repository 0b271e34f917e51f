-- A plan that is carried out makes a part have its tree.
use Rattle.mat_path.proofs.SameNames.{same_names-eq}
use Rattle.mat_path.proofs.PathLemmas.{path_cmp-refl}
use Rattle.std.specs.Cmp.{first_so, second_so}
use Rattle.std.proofs.Common.{◌≡◌, ℕ, Bool, true, false, List, [], ◌∷◌, ◌++◌, map, Option, Some, None, cond, refl, ap, ◌∙◌, subst}
use Rattle.std.specs.List.{find, list_all}
use Rattle.std.specs.Option.{option_map}
use Rattle.std.specs.Ordering.{is_lt}
use Rattle.std.proofs.lemmas.Cmp.{lists_equiv, nat_list_eq_equiv}
use Rattle.mat_digest.specs.declared.digest.Digest.{Digest}
use Rattle.mat_path.specs.Names.{same_names, path_cmp}
use Rattle.mat_tree.specs.declared.flat.Flat.{Flat}
use Rattle.mat_tree.specs.declared.flat.What.{What}
use Rattle.mat_tree.specs.declared.flat.What.TheVariants as what
use Rattle.mat_tree.specs.Parts.{HasTree, Part, bare, declared_by, file, folder, link}
use Rattle.mat_tree.specs.Trees.{ascends, is_after, is_at, what_of}
use Rattle.write_plan.specs.declared.act.Act.{Act}
use Rattle.write_plan.specs.declared.act.Act.TheVariants as act
use Rattle.write_plan.specs.declared.method.Method.{Method}
use Rattle.write_plan.specs.Carried.{AreRightAt, BytesAt, IsRightFor, carry_at, carry_one_at}
use Rattle.write_plan.specs.Plans.{act_of, act_what, plan_of}

-- acts one behind the other
carry-append : (bytes : BytesAt) (first second : List Act) (part : Part) → carry_at bytes (first ++ second) part ≡ carry_at bytes second (carry_at bytes first part)
carry-append bytes [] second part = refl
carry-append bytes (one ∷ first) second part = carry-append bytes first second (carry_one_at bytes one part)

-- what a part has at a rel once a node was put
put_at : (way : Method) (lent : Bool) (bytes : BytesAt) (at : List (List ℕ)) (w : What) (part : Part) (rel : List (List ℕ)) → IsRightFor (bytes at) w →
    option_map declared_by (carry_one_at bytes (act_what way lent at w) part rel) ≡ cond (same_names rel at) (Some w) (option_map declared_by (part rel))
put_at way lent bytes at (what.File digest exec) part rel right =
    elim (same_names rel at) as
    (λ b. option_map declared_by (cond b (Some (file (bytes at digest) exec)) (part rel)) ≡ cond b (Some (what.File digest exec)) (option_map declared_by (part rel)))
    [ true ↦ ap (λ (d : Digest). Some (what.File d exec)) right | false ↦ refl ]
put_at way lent bytes at what.Dir part rel right =
    elim (same_names rel at) as
    (λ b. option_map declared_by (cond b (Some folder) (part rel)) ≡ cond b (Some what.Dir) (option_map declared_by (part rel)))
    [ true ↦ refl | false ↦ refl ]
put_at way lent bytes at (what.Link target) part rel right =
    elim (same_names rel at) as
    (λ b. option_map declared_by (cond b (Some (link target)) (part rel)) ≡ cond b (Some (what.Link target)) (option_map declared_by (part rel)))
    [ true ↦ refl | false ↦ refl ]

-- nothing behind a node of an ascending list stands at its rel
none_after : (rel : List (List ℕ)) (nodes : List Flat) → list_all (is_after rel) nodes ≡ true → find (is_at rel) nodes ≡ None
none_after rel [] all = refl
none_after rel (node ∷ nodes) all =
    let off : same_names node.rel rel ≡ false = apart node.rel rel (first_so (is_after rel node) (list_all (is_after rel) nodes) all) in
    ap (λ (b : Bool). cond b (Some node) (find (is_at rel) nodes)) off
    ∙ none_after rel nodes (second_so (is_after rel node) (list_all (is_after rel) nodes) all)
  where
    lt_apart : (b : Bool) (p q : List (List ℕ)) → same_names p q ≡ b → is_lt (path_cmp q p) ≡ true → b ≡ false
    lt_apart false p q is lt = refl
    lt_apart true p q is lt =
        let same : p ≡ q = same_names-eq p q is in
        let equal : is_lt (path_cmp q q) ≡ true = subst (λ (r : List (List ℕ)). is_lt (path_cmp q r) ≡ true) same lt in
        let none : is_lt (path_cmp q q) ≡ false = ap is_lt (path_cmp-refl q) in cc

    apart : (p q : List (List ℕ)) → is_lt (path_cmp q p) ≡ true → same_names p q ≡ false
    apart p q lt = lt_apart (same_names p q) p q refl lt

symm : (p q : List (List ℕ)) → same_names q p ≡ same_names p q
symm p q = (lists_equiv nat_list_eq_equiv).symm q p

-- what stands at a rel, by a list of nodes or else as before
abbrev or_else : Option Flat → Option What → Option What
or_else None before = before
or_else (Some node) before = Some node.what

-- what a part has at a rel once ascending nodes were put
put_all : (way : Method) (lent : Bool) (bytes : BytesAt) (nodes : List Flat) (part : Part) (rel : List (List ℕ)) → ascends nodes ≡ true → AreRightAt bytes nodes →
    option_map declared_by (carry_at bytes (map (act_of way lent) nodes) part rel) ≡ or_else (find (is_at rel) nodes) (option_map declared_by (part rel))
put_all way lent bytes [] part rel up right = refl
put_all way lent bytes (node ∷ nodes) part rel up right =
    put_all way lent bytes nodes (carry_one_at bytes (act_of way lent node) part) rel (second_so (list_all (is_after node.rel) nodes) (ascends nodes) up) right.1
    ∙ ap (or_else (find (is_at rel) nodes)) (put_at way lent bytes node.rel node.what part rel right.0)
    ∙ by (same_names node.rel rel) refl
  where
    by : (b : Bool) → same_names node.rel rel ≡ b →
        or_else (find (is_at rel) nodes) (cond (same_names rel node.rel) (Some node.what) (option_map declared_by (part rel)))
        ≡ or_else (cond b (Some node) (find (is_at rel) nodes)) (option_map declared_by (part rel))
    by true here =
        let same : node.rel ≡ rel = same_names-eq node.rel rel here in
        let none : find (is_at rel) nodes ≡ None =
        subst (λ (r : List (List ℕ)). find (is_at r) nodes ≡ None) same
        (none_after node.rel nodes (first_so (list_all (is_after node.rel) nodes) (ascends nodes) up)) in
        let there : same_names rel node.rel ≡ true = symm node.rel rel ∙ here in
        ap (λ (o : Option Flat). or_else o (cond (same_names rel node.rel) (Some node.what) (option_map declared_by (part rel)))) none
        ∙ ap (λ (b : Bool). cond b (Some node.what) (option_map declared_by (part rel))) there
    by false off =
        ap (λ (b : Bool). or_else (find (is_at rel) nodes) (cond b (Some node.what) (option_map declared_by (part rel)))) (symm node.rel rel ∙ off)

-- a plan that is carried out with the right bytes makes any part have its tree
pub plan_holds : (nodes : List Flat) (way : Method) (lent : Bool) (bytes : BytesAt) (part : Part) → ascends nodes ≡ true → AreRightAt bytes nodes →
    HasTree (carry_at bytes (plan_of nodes way lent) part) nodes
plan_holds nodes way lent bytes part up right = λ rel.
    ap (λ (p : Part). option_map declared_by (p rel)) (carry-append bytes (map (act_of way lent) nodes) (act.Sync ∷ []) bare)
    ∙ put_all way lent bytes nodes bare rel up right
    ∙ at_last (find (is_at rel) nodes)
  where
    at_last : (o : Option Flat) → or_else o None ≡ option_map what_of o
    at_last None = refl
    at_last (Some node) = refl
