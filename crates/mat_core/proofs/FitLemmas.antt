-- What fits: trees and tasks that are the same, and what that says of a job that came back.
use Rattle.std.proofs.Common.{◌≡◌, ℕ, ◌==◌, ◌&&◌, Bool, true, false, List, [], ◌∷◌, find, Contains, Option, Some, None, refl, sym, ap, ap₂, subst, ◌∙◌}
use Rattle.std.specs.Option.{is_some, option_map_or}
use Rattle.std.proofs.lemmas.Bool.{and_parts, both_ways, eq-eqb, eqb-true}
use Rattle.mat_digest.specs.declared.digest.Digest.{Digest}
use Rattle.mat_path.specs.Names.{same_names}
use Rattle.mat_path.proofs.SameNames.{same_name-eq, same_names-eq, same_names-refl}
use Rattle.mat_tree.specs.declared.flat.Flat.{Flat}
use Rattle.mat_tree.specs.declared.flat.What.{What}
use Rattle.mat_tree.specs.declared.flat.What.TheVariants as what
use Rattle.mat_tree.specs.Trees.{same_bool, same_digest, same_flat, same_tree, same_what}
use Rattle.mat_model.specs.declared.book.Row.{Row}
use Rattle.mat_model.specs.declared.entries.Task.{Task}
use Rattle.mat_model.specs.declared.entries.Task.TheVariants as task
use Rattle.mat_model.specs.Rows.{are_apart, is_at_path}
use Rattle.mat_model.specs.Work.{is_declared}
use Rattle.core_laws.proofs.StoreSteps.{apart_once}
use Rattle.model_laws.proofs.BooksLists.{contains_any}
use Rattle.model_laws.proofs.Elements.{found_contains, found_passes}
use Rattle.job_run.proofs.DigestLemmas.{same_digest-eq}
use Rattle.mat_core.specs.Fitting.{is_tree_at, is_tree_of, same_task}
use Rattle.mat_core.proofs.EndPoints.{any_found}

-- ---- trees

same_bool-eq : (b c : Bool) → same_bool b c ≡ true → b ≡ c
same_bool-eq true c is = sym is
same_bool-eq false true is = absurd (both_ways false refl is)
same_bool-eq false false is = refl

same_what-eq : (w u : What) → same_what w u ≡ true → w ≡ u
same_what-eq (what.File d e) (what.File f g) is =
    let parts = and_parts (same_digest d f) (same_bool e g) is in
    ap₂ (λ (h : Digest) (b : Bool). what.File h b) (same_digest-eq d f parts.0) (same_bool-eq e g parts.1)
same_what-eq (what.File d e) what.Dir is = absurd (both_ways false refl is)
same_what-eq (what.File d e) (what.Link u) is = absurd (both_ways false refl is)
same_what-eq what.Dir (what.File f g) is = absurd (both_ways false refl is)
same_what-eq what.Dir what.Dir is = refl
same_what-eq what.Dir (what.Link u) is = absurd (both_ways false refl is)
same_what-eq (what.Link t) (what.File f g) is = absurd (both_ways false refl is)
same_what-eq (what.Link t) what.Dir is = absurd (both_ways false refl is)
same_what-eq (what.Link t) (what.Link u) is = ap (λ n. what.Link n) (same_name-eq t u is)

same_flat-eq : (a b : Flat) → same_flat a b ≡ true → a ≡ b
same_flat-eq a b is =
    let parts = and_parts (same_names a.rel b.rel) (same_what a.what b.what) is in
    ap₂ (λ (r : List (List ℕ)) (w : What). record { rel = r; what = w }) (same_names-eq a.rel b.rel parts.0) (same_what-eq a.what b.what parts.1)

-- trees that are the same are one list of nodes
pub same_tree-eq : (tree other : List Flat) → same_tree tree other ≡ true → tree ≡ other
same_tree-eq [] [] is = refl
same_tree-eq [] (node ∷ other) is = absurd (both_ways false refl is)
same_tree-eq (node ∷ tree) [] is = absurd (both_ways false refl is)
same_tree-eq (node ∷ tree) (first ∷ other) is =
    let parts = and_parts (same_flat node first) (same_tree tree other) is in
    ap₂ (λ (n : Flat) (ns : List Flat). n ∷ ns) (same_flat-eq node first parts.0) (same_tree-eq tree other parts.1)

-- ---- rows

-- a row that was declared at a path under a stamp is the one that is found
pub declared_found : (rows : List Row) (path : List (List ℕ)) (stamp : ℕ) (row : Row) → are_apart rows ≡ true → Contains rows row → row.path ≡ path →
    row.stamp ≡ stamp → find (is_declared path stamp) rows ≡ Some row
declared_found rows path stamp row apart among at stamped = by (find (is_declared path stamp) rows) refl
  where
    passes : is_declared path stamp row ≡ true
    passes =
        subst (λ (p : List (List ℕ)). (same_names row.path p && (row.stamp == stamp)) ≡ true) at
        (ap₂ (λ b c. b && c) (same_names-refl row.path) (eq-eqb row.stamp stamp stamped))

    by : (o : Option Row) → find (is_declared path stamp) rows ≡ o → o ≡ Some row
    by None is =
        absurd (both_ways false refl (sym (any_found (is_declared path stamp) rows ∙ ap is_some is)
        ∙ contains_any (is_declared path stamp) rows row among passes))
    by (Some one) is =
        let parts = and_parts (is_at_path path one) (one.stamp == stamp) (found_passes (is_declared path stamp) rows one is) in
        ap Some (apart_once rows one row apart (found_contains (is_declared path stamp) rows one is) among (same_names-eq one.path path parts.0 ∙ sym at))

-- the row of a stamp has the tree that was compared with it
pub tree_there : (rows : List Row) (path : List (List ℕ)) (stamp : ℕ) (tree : List Flat) (row : Row) → are_apart rows ≡ true → Contains rows row →
    row.path ≡ path → row.stamp ≡ stamp → is_tree_at rows path stamp tree ≡ true → tree ≡ row.tree
tree_there rows path stamp tree row apart among at stamped is =
    same_tree-eq tree row.tree
    (sym (ap (λ o. option_map_or (is_tree_of tree) o true) (declared_found rows path stamp row apart among at stamped)) ∙ is)

-- ---- tasks

-- tasks that are the same are one
pub same_task-eq : (begun other : Task) → same_task begun other ≡ true → begun ≡ other
same_task-eq (task.Make path stamp) (task.Make other number) is =
    let parts = and_parts (same_names path other) (stamp == number) is in
    ap₂ task.Make (same_names-eq path other parts.0) (eqb-true stamp number parts.1)
same_task-eq (task.Make path stamp) (task.Wipe other) is = absurd (both_ways false refl is)
same_task-eq (task.Wipe path) (task.Make other number) is = absurd (both_ways false refl is)
same_task-eq (task.Wipe path) (task.Wipe other) is = ap task.Wipe (same_names-eq path other is)
